use Rattle.std.proofs.Common.{sym}
use Rattle.mc_shelf.proofs.LineLemmas.{line_ends, line_is_ended, line_alone, line_goes_on}
use Rattle.mc_shelf.proofs.ahead.split_line.Goals as goal

pub returns-in-Some-clause-line : goal.returns-in-Some-clause-line
returns-in-Some-clause-line c = line_ends c.args.bytes.now c.split_at.result.0.now c.in-Some.end c.in-Some.ensures.0.high c.in-Some.ensures.0.before c.in-Some.ensures.1 c.split_at.ensures.front

pub returns-in-Some-clause-ends : goal.returns-in-Some-clause-ends
returns-in-Some-clause-ends c = line_is_ended c.args.bytes.now c.in-Some.end c.in-Some.ensures.0.high c.in-Some.ensures.0.before c.in-Some.ensures.1

pub returns-in-None-clause-line : goal.returns-in-None-clause-line
returns-in-None-clause-line c = sym (line_alone c.args.bytes.now (line_goes_on c.args.bytes.now c.in-None.ensures))

pub returns-in-None-clause-ends : goal.returns-in-None-clause-ends
returns-in-None-clause-ends c = line_goes_on c.args.bytes.now c.in-None.ensures
