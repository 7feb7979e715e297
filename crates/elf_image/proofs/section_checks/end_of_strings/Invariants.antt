use Rattle.std.proofs.Common.{◌≡◌, ◌≤◌, ℕ, length, false}
use Rattle.elf_image.specs.Symbol.{is_ended}
use Rattle.elf_image.proofs.section_checks.end_of_strings.Given as goal

-- no string from `end` on has an end
abbrev pub invariant-loop-end : goal.invariant-loop-end
invariant-loop-end l = record { within : l.end ≤ length l.strings; endless : (offset : ℕ) → l.end ≤ offset → is_ended l.strings offset ≡ false }

abbrev pub decreases-loop-end : goal.decreases-loop-end
decreases-loop-end l = l.end
