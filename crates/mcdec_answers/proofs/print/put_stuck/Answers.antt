use Rattle.std.proofs.Common.{codes, ◌++◌}
use Rattle.std.specs.Fmt.{decimal}
use Rattle.mc_text.specs.Number.{hex}
use Rattle.mcdec_answers.proofs.Prints.{prints-as, stuck-text}
use Rattle.mcdec_answers.proofs.print.put_stuck.Goals as goal

pub returns-in-Misaligned : goal.returns-in-Misaligned
returns-in-Misaligned g c = rw c.in-Misaligned.is (prints-as _ _ _ _ _ _ _ (stuck-text (decimal c.args.steps) (codes "misaligned " ++ hex c.in-Misaligned.a)) c.put_all.ensures)

pub returns-in-NotDecoded : goal.returns-in-NotDecoded
returns-in-NotDecoded g c =
    rw (c.in-NotDecoded.is, ← c.from.ensures) (prints-as _ _ _ _ _ _ _ (stuck-text (decimal c.args.steps) (codes "not-decoded " ++ hex c.from.result)) c.put_all-in-NotDecoded.ensures)

pub returns-in-NoByte : goal.returns-in-NoByte
returns-in-NoByte g c = rw c.in-NoByte.is (prints-as _ _ _ _ _ _ _ (stuck-text (decimal c.args.steps) (codes "no-byte " ++ hex c.in-NoByte.a)) c.put_all-in-NoByte.ensures)

pub returns-in-Environment : goal.returns-in-Environment
returns-in-Environment g c = rw c.in-Environment.is (prints-as _ _ _ _ _ _ _ (stuck-text (decimal c.args.steps) (codes "environment")) c.put_all-in-Environment.ensures)
