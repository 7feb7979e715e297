use Rattle.std.proofs.Common.{ap}
use Rattle.triple_kernel.specs.Tree.{triple_tree}
use Rattle.proof_text.specs.Line.{code_or_own, triple_or_own}
use Rattle.proof_v2.proofs.ShortOf.{short_extension}
use Rattle.proof_v2.proofs.lines.short_extension.Goals as goal

pub returns : goal.returns
returns c h ns all own fits = short_extension h ns (triple_or_own own all (triple_tree c.args.stated.now)) c.args.p (record { ranges = code_or_own own all c.in_ok-code.code.ranges }) fits (ap (code_or_own own all) c.in_ok-code.ensures)
