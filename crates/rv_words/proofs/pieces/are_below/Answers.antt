use Rattle.std.proofs.Common.{◌≡◌, true, sym, ◌∙◌}
use Rattle.std.specs.List.{slice_get}
use Rattle.rv_words.proofs.LimitLemmas.{below_not}
use Rattle.rv_words.proofs.pieces.are_below.Goals as goal

pub returns-then-not-bytes_below : goal.returns-then-not-bytes_below
returns-then-not-bytes_below c = (
  λ t. absurd (cc),
  λ h. absurd (below_not c.args.limit c.args.pieces.now c.loop-piece.piece-index c.piece-item.result c.requires c.loop-piece-test.true c.piece-item.is
      (λ all.
      let small : c.bytes_below.result ≡ true = c.bytes_below.ensures.1 (λ k b e. all k b (sym (λ j. slice_get (c.deref.ensures.value j) k) ∙ e)) in
      let both = rw small at c.if-not-bytes_below.true in
      absurd (cc))
      h),
)
