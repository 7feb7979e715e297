use Rattle.std.proofs.Common.{◌≡◌, drop}
use Rattle.group_text.specs.inner.Reading.{are_atom_bytes}
use Rattle.group_text.proofs.heads.are_atom_bytes.Given as goal

abbrev pub invariant-loop-byte : goal.invariant-loop-byte
invariant-loop-byte l = are_atom_bytes (drop l.byte-index l.atom) ≡ are_atom_bytes l.atom
