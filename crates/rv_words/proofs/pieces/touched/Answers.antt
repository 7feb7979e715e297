use Rattle.std.proofs.Common.{◌-◌, refl, arith}
use Rattle.std.proofs.lemmas.Bool.{false≢true}
use Rattle.rv_words.proofs.PieceLemmas.{behind_rise, counts_rise, front_reached, front_apart, front_none, drop_raised}
use Rattle.rv_words.proofs.pieces.touched.Goals as goal
use Rattle.rv_words.proofs.pieces.touched.Goals.{else-begun-gt0-via-then-begun-gt0+else-reaches, else-begun-gt0-via-else-begun-gt0}

pub returns-then-reaches-clause-ordered : goal.returns-then-reaches-clause-ordered
returns-then-reaches-clause-ordered c =
    let n = counts_rise c.args.pieces.now c.args.a (c.args.n - 1) c.count_begun-begun.result c.count_begun-last.result c.requires.pieces (omega arith) c.count_begun-begun.ensures.begun c.count_begun-last.ensures.later in
    omega arith

pub returns-then-reaches-clause-before : goal.returns-then-reaches-clause-before
returns-then-reaches-clause-before c =
    front_reached c.args.pieces.now c.count_begun-begun.result c.args.a c.index-pieces-begun.result c.requires.pieces (omega arith) (omega arith) c.index-pieces-begun.is c.count_begun-begun.ensures.begun

pub returns-then-reaches-clause-after : goal.returns-then-reaches-clause-after
returns-then-reaches-clause-after c = drop_raised c.args.pieces.now c.count_begun-last.result _ c.requires.pieces (λ d l. omega (arith, c.count_begun-last.ensures.later d l))

pub returns-then-follows_at-clause-before : goal.returns-then-follows_at-clause-before
returns-then-follows_at-clause-before c =
    elim c.else-begun-gt0.branch [
      | else-begun-gt0-via-then-begun-gt0+else-reaches w ↦ front_apart c.args.pieces.now c.count_begun-begun.result c.args.a w.index-pieces-begun.result (omega arith) (omega arith) w.index-pieces-begun.is (λ h. false≢true (w.if-reaches.ensures.1 h))
      | else-begun-gt0-via-else-begun-gt0 w ↦ front_none c.args.pieces.now c.count_begun-begun.result c.args.a (omega arith)
    ]

pub returns-then-follows_at-clause-after : goal.returns-then-follows_at-clause-after
returns-then-follows_at-clause-after c =
    behind_rise c.args.pieces.now c.count_begun-last.result _ c.requires.pieces (c.if-follows_at.ensures.within refl) (λ d. c.if-follows_at.ensures.at d refl)

pub returns-clause-ordered : goal.returns-clause-ordered
returns-clause-ordered c =
    counts_rise c.args.pieces.now c.args.a (c.args.n - 1) c.count_begun-begun.result c.count_begun-last.result c.requires.pieces (omega arith) c.count_begun-begun.ensures.begun c.count_begun-last.ensures.later

pub returns-clause-before : goal.returns-clause-before
returns-clause-before c =
    elim c.else-begun-gt0.branch [
      | else-begun-gt0-via-then-begun-gt0+else-reaches w ↦ front_apart c.args.pieces.now c.count_begun-begun.result c.args.a w.index-pieces-begun.result (omega arith) (omega arith) w.index-pieces-begun.is (λ h. false≢true (w.if-reaches.ensures.1 h))
      | else-begun-gt0-via-else-begun-gt0 w ↦ front_none c.args.pieces.now c.count_begun-begun.result c.args.a (omega arith)
    ]

pub returns-clause-after : goal.returns-clause-after
returns-clause-after c = drop_raised c.args.pieces.now c.count_begun-last.result _ c.requires.pieces (λ d l. omega (arith, c.count_begun-last.ensures.later d l))
