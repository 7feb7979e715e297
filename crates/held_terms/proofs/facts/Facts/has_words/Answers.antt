use Rattle.std.proofs.Common.{List, map, subst}
use Rattle.std.specs.Prelude.{IfSome}
use Rattle.std.specs.Vec.{vec_items}
use Rattle.held_terms.specs.declared.held.HeldFact.{HeldFact}
use Rattle.held_terms.specs.declared.held.HeldFact.TheVariants as held
use Rattle.held_terms.specs.inner.Numbers.{AreListed}
use Rattle.held_terms.proofs.ToldLemmas.{by_keys}
use Rattle.held_terms.proofs.facts.Facts.has_words.Goals as goal

pub returns-in-Some : goal.returns-in-Some
returns-in-Some c =
    let keys = map vec_items c.in-Some.index.keys in
    let own : AreListed c.self.inside.items.now keys = subst (λ o. IfSome o (λ s. AreListed c.self.inside.items.now (map vec_items s.keys))) c.in-Some.is c.self.invariant in
    let listed : AreListed c.args.self.now keys = subst (λ (fs : List HeldFact). AreListed fs keys) c.self.view_is own in
    by_keys c.args.arena.now c.law_of_nodes.ensures c.args.self.now (held.WordIs c.args.a c.args.b) c.requires.facts (c.requires.a, c.requires.b) keys c.lists.result listed c.lists.ensures
