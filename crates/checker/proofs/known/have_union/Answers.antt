use Rattle.held_definitions.proofs.MarkLemmas.{union_first, union_second}
use Rattle.checker.proofs.known.have_union.Goals as goal

pub returns-then-first_known : goal.returns-then-first_known
returns-then-first_known c =
    let union = union_first c.args.p.now.code.ranges c.args.q.now.code.ranges c.args.stated.now.code.ranges (c.requires.first c.if-first_known.true) in
    (λ r. union.0 (c.has_code_within.ensures.0 r), λ u. c.has_code_within.ensures.1 (union.1 u))

pub returns-then-second_known : goal.returns-then-second_known
returns-then-second_known c =
    let union = union_second c.args.p.now.code.ranges c.args.q.now.code.ranges c.args.stated.now.code.ranges (c.requires.second c.if-second_known.true) in
    (λ r. union.0 (c.has_code_within-then-second_known.ensures.0 r), λ u. c.has_code_within-then-second_known.ensures.1 (union.1 u))
