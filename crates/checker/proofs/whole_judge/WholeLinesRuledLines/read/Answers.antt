use Rattle.std.proofs.Common.{◌∙◌, Ok, ap, sym}
use Rattle.mc_text.specs.Scanning.{tokens_at}
use Rattle.proof_text.specs.Line.{spelled_tree}
use Rattle.proof_text.specs.declared.line.SpelledLine.{SpelledLine}
use Rattle.checker.proofs.whole_judge.WholeLinesRuledLines.read.Goals as goal

pub returns-in_ok-new-in-Ok-clause-gives : goal.returns-in_ok-new-in-Ok-clause-gives
returns-in_ok-new-in-Ok-clause-gives c = λ before behind. c.in-Ok.ensures.gives before behind ∙ ap (λ (l : SpelledLine). Ok (spelled_tree c.args.own.now.ranges l, tokens_at c.read.new.scan)) (sym c.in_ok-new-in-Ok.ensures.ok)
