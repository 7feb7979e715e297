use Rattle.short_text.specs.SpelledShort.{short_or_own}
use Rattle.short_text.proofs.KeptLaws.{kept-proof}
use Rattle.short_text.proofs.short_lines.ShortLines.read_spelled.Goals as goal

pub returns-in_ok-line-clause-behind : goal.returns-in_ok-line-clause-behind
returns-in_ok-line-clause-behind c = λ before kept. kept-proof c.args.self.now c.self.inside.table c.self.inside.begun c.self.view_is before kept (short_or_own c.args.own.now.ranges c.in_ok-line.all c.in_ok-line.line)
