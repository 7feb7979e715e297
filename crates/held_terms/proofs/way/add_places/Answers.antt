use Rattle.std.proofs.Common.{◌≡◌, ℕ, length, arith, subst}
use Rattle.std.specs.Vec.{vec_items}
use Rattle.held_terms.specs.inner.Ways.{IsIndexed, found_at}
use Rattle.held_terms.proofs.way.add_places.Goals as goal

pub returns : goal.returns
returns c =
    let few = c.loop-i.invariant.few in
    let all : c.loop-i.i ≡ length c.args.facts.now = omega (arith, few) in
    subst (λ (n : ℕ). IsIndexed c.args.facts.now n (found_at (λ v. vec_items v) c.loop-i.index.entries)) all c.loop-i.invariant
