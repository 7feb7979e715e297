use Rattle.proof_text.proofs.SameRanges.{ranges-tested}
use Rattle.proof_text.proofs.put_lines.is_own.Goals as goal

pub returns : goal.returns
returns c = ranges-tested _ c.args.code.now.ranges c.args.own.now.ranges c.same_code.ensures
