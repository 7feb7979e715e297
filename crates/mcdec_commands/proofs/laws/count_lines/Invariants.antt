use Rattle.std.proofs.Common.{◌≡◌, ◌≤◌, take}
use Rattle.mc_text.specs.Fault.{newlines}
use Rattle.mcdec_commands.proofs.laws.count_lines.Given as goal

abbrev pub invariant-loop-byte : goal.invariant-loop-byte
invariant-loop-byte l = (l.count ≡ newlines (take l.byte-index l.text)) × (l.count ≤ l.byte-index)
