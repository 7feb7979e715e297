use Rattle.std.proofs.Common.{map}
use Rattle.proof_text.specs.Line.{line_tree}
use Rattle.path_walk.proofs.ForgottenLines.{one_forgotten}
use Rattle.path_walk.proofs.one_part.forget_lines.Goals as goal

pub loop-number-preserved : goal.loop-number-preserved
loop-number-preserved c = one_forgotten c.loop-number.lines c.push.new.self (map line_tree c.args.lines.now) c.args.first c.loop-number.number c.in_ok-push.ensures.ok c.loop-number.auto.number c.loop-number.invariant
