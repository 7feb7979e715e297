use Rattle.std.proofs.Common.{map, subst}
use Rattle.std.specs.Prelude.{IfSome}
use Rattle.std.specs.Vec.{vec_items}
use Rattle.held_terms.specs.inner.Numbers.{AreListed, numbers_of}
use Rattle.held_terms.proofs.NumberLemmas.{told_by_keys}
use Rattle.held_terms.proofs.facts.Facts.is_listed.Goals as goal

pub returns-in-Some : goal.returns-in-Some
returns-in-Some c =
    let a : AreListed c.self.inside.items.now (map vec_items c.in-Some.index.keys) = subst (λ o. IfSome o (λ s. AreListed c.self.inside.items.now (map vec_items s.keys))) c.in-Some.is c.self.invariant in
    told_by_keys c.self.inside.items.now c.args.self.now (map vec_items c.in-Some.index.keys) (numbers_of c.args.fact.now) c.is_listed_in.result a c.self.view_is c.is_listed_in.ensures
