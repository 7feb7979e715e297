use Rattle.std.proofs.Common.{List, sym, subst}
use Rattle.std.specs.Vec.{vec_items}
use Rattle.held_terms.specs.declared.held.HeldFact.{HeldFact}
use Rattle.held_terms.specs.inner.Ways.{IsIndexed, found_at}
use Rattle.held_terms.proofs.WayLemmas.{indexed_more}
use Rattle.held_terms.proofs.way.Way.append.Goals as goal

pub invariant_of-self : goal.invariant_of-self
invariant_of-self c = subst (λ (fs : List HeldFact). IsIndexed fs c.self.inside.indexed (found_at (λ v. vec_items v) c.self.inside.index.entries)) (sym c.in_err-append.ensures.err) c.self.invariant

pub invariant_of-self-2 : goal.invariant_of-self-2
invariant_of-self-2 c = indexed_more c.self.inside.facts c.args.more c.append.new.self c.self.inside.indexed _ c.in_ok-append.ensures.ok c.self.invariant
