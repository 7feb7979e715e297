use Rattle.std.proofs.Common.{refl}
use Rattle.tailrec_lang.specs.Tree.{group_tree}
use Rattle.proof_text.specs.Line.{line_tree}
use Rattle.proof_text.specs.declared.line.Line.{Line}
use Rattle.proof_v2.specs.declared.any_reader.AnyLine.{AnyLine}
use Rattle.proof_v2.specs.declared.any_reader.AnyLine.TheVariants as any
use Rattle.proof_v2.specs.AnyReading.{AreLinesIn}
use Rattle.proof_v2.proofs.AnyGiven.{given-of, whole-line-bad, whole-line-end, whole-line-given, whole-line-none}
use Rattle.proof_v2.proofs.any_reader.whole_line.Goals as goal

pub returns-in-Ok-Some-clause-given : goal.returns-in-Ok-Some-clause-given
returns-in-Ok-Some-clause-given c =
    whole-line-given c.args.lines.now c.args.reader.now c.requires.version c.line.new.self (c.in-Ok-Some.ensures.text, c.in-Ok-Some.ensures.version) (group_tree c.args.group.now) (λ k. AreLinesIn k (any.One c.in-Ok-Some.line)) (line_tree c.in-Ok-Some.line) (refl, refl, refl)
    (given-of _ c.in-Ok-Some.field-0 c.in-Ok-Some.line c.in-Ok-Some.field-0-is c.in-Ok-Some.ensures.given)

pub returns-in-Ok-None-clause-end : goal.returns-in-Ok-None-clause-end
returns-in-Ok-None-clause-end c =
    whole-line-end c.args.lines.now c.args.reader.now c.requires.version c.line.new.self (group_tree c.args.group.now) c.in-Ok-None.field-0 c.in-Ok-None.field-0-is c.in-Ok-None.ensures.end c.in-Ok-None.ensures.end_same

pub returns-in-Err-clause-bad : goal.returns-in-Err-clause-bad
returns-in-Err-clause-bad c =
    whole-line-bad c.args.lines.now c.args.reader.now c.requires.version Line AnyLine c.line.new.self c.in-Err.ensures.fault_same (group_tree c.args.group.now) c.in-Err.fault c.in-Err.ensures.bad c.in-Err.ensures.no_item

pub returns-in-Err-clause-fault : goal.returns-in-Err-clause-fault
returns-in-Err-clause-fault c = whole-line-none c.args.lines.now c.args.reader.now c.requires.version c.line.new.self c.in-Err.ensures.fault_same (group_tree c.args.group.now)
