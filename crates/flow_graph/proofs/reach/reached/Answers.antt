use Rattle.std.proofs.Common.{◌≡◌, ℕ, ◌<◌, List, [], ◌∷◌, length, get_or, sym, ap, ◌∙◌, subst, arith}
use Rattle.std.specs.List.{Contains}
use Rattle.elf_image.specs.Image.{code_in}
use Rattle.flow_graph.specs.Flow.{next, Next}
use Rattle.flow_graph.specs.inner.Reached.{GrowsBy, targets_of}
use Rattle.flow_graph.proofs.ReachSearch.{reaching_start, reaching_next, reaching_end}
use Rattle.flow_graph.proofs.reach.reached.Goals as goal

pub seen-init : goal.seen-init
seen-init c = record {
  reaching = reaching_start (Next c.args.linked (code_in c.args.image.now.pieces)) c.args.entry c.note_targets.new.seen
      (subst (λ (z : List ℕ). GrowsBy z (c.args.entry ∷ []) c.note_targets.new.seen) c.new-seen.ensures c.in_ok-note_targets.ensures);
  few = omega arith;
}

pub seen-preserved : goal.seen-preserved
seen-preserved c =
    let below : c.seen.i < length c.seen.seen = omega (arith, c.len.ensures.len) in
    let at : targets_of c.next-targets.result ≡ next c.args.linked (code_in c.args.image.now.pieces) (get_or c.seen.seen c.seen.i 0) = c.next-targets.ensures ∙ ap (next c.args.linked (code_in c.args.image.now.pieces)) c.get.ensures in
    record {
      reaching = reaching_next (Next c.args.linked (code_in c.args.image.now.pieces)) c.args.entry c.seen.seen c.seen.i (targets_of c.next-targets.result) c.note_targets-in-seen.new.seen c.seen.invariant.reaching below
          (λ v d. subst (λ (ts : List ℕ). Contains ts v) at d) (λ v d. subst (λ (ts : List ℕ). Contains ts v) (sym at) d) c.in_ok-note_targets-2.ensures;
      few = omega (arith, c.len.ensures.len, c.len-in-seen.ensures.len);
    }

pub returns-clause-reach : goal.returns-clause-reach
returns-clause-reach c = reaching_end (Next c.args.linked (code_in c.args.image.now.pieces)) c.args.entry c.seen.seen c.seen.i c.seen.invariant.reaching (omega (arith, c.len.ensures.len)) c.len.ensures.different
