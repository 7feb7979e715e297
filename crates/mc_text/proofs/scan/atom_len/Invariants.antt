use Rattle.std.proofs.Common.{◌≡◌, ◌<◌, ℕ, slice_index, true}
use Rattle.mc_text.specs.Tokens.{is_atom_byte}
use Rattle.mc_text.proofs.scan.atom_len.Given as goal

abbrev pub invariant-loop-i : goal.invariant-loop-i
invariant-loop-i l = (k : ℕ) → k < l.i → is_atom_byte (slice_index l.bytes k) ≡ true
