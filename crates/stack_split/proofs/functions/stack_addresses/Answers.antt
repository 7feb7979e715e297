use Rattle.std.proofs.Common.{◌≡◌, ℕ, ◌<◌, ◌+◌, false, List, [], ◌∷◌, ◌++◌, length, get_or, sym, subst, ◌∙◌, ap, arith, Bool}
use Rattle.std.specs.Prelude.{◌↔◌, IsTrue}
use Rattle.stack_offsets.specs.Offsets.{IsStackAccess}
use Rattle.stack_split.specs.inner.Accesses.{AreFound}
use Rattle.stack_split.proofs.AccessLemmas.{found-all, found-less, found-more, found-none}
use Rattle.stack_split.proofs.functions.stack_addresses.Goals.{then-is_access-n+in_ok-push, else-is_access-n}
use Rattle.stack_split.proofs.functions.stack_addresses.Goals as goal

pub loop-n-init : goal.loop-n-init
loop-n-init c = subst (AreFound c.args.graph.now.addrs c.as_slice-is_access.result.now 0) (sym c.new-second.ensures) (found-none c.args.graph.now.addrs c.as_slice-is_access.result.now)

pub loop-n-preserved : goal.loop-n-preserved
loop-n-preserved c = elim c.if-is_access-n.branch [
  | then-is_access-n+in_ok-push w ↦
      found-more c.args.graph.now.addrs c.as_slice-is_access.result.now c.loop-n.n c.loop-n.second c.if-is_access-n.second c.loop-n.invariant w.if-is_access-n.true
      (w.second-is ∙ w.in_ok-push.ensures.ok ∙ ap (λ (a : ℕ). c.loop-n.second ++ a ∷ []) w.addr.ensures)
  | else-is_access-n w ↦
      subst (AreFound c.args.graph.now.addrs c.as_slice-is_access.result.now (c.loop-n.n + 1)) (sym w.second-is)
      (found-less c.args.graph.now.addrs c.as_slice-is_access.result.now c.loop-n.n c.loop-n.second c.loop-n.invariant w.if-is_access-n.false)
]

pub returns : goal.returns
returns c code e bytes graph =
    let end : c.loop-n.n ≡ length c.args.graph.now.addrs = (let most = c.loop-n.auto.n-end in let least = c.loop-n-test.false in let long = c.len-n-end.ensures.len in omega (arith, most, least, long)) in
    found-all code e c.args.graph.now.addrs c.as_slice-is_access.result.now c.loop-n.second
    (subst (λ (found : List Bool). (n : ℕ) → n < length c.args.graph.now.addrs → IsTrue (get_or found n false) ↔ IsStackAccess code e (get_or c.args.graph.now.addrs n 0)) (sym c.as_slice-is_access.ensures) (c.in_ok-found.ensures.each code e bytes graph))
    (subst (λ (k : ℕ). AreFound c.args.graph.now.addrs c.as_slice-is_access.result.now k c.loop-n.second) end c.loop-n.invariant)
