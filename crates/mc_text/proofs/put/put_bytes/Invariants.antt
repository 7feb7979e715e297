use Rattle.std.proofs.Common.{◌≡◌, ◌++◌, take, length}
use Rattle.hex.specs.Hex.{encode_lower}
use Rattle.mc_text.proofs.put.put_bytes.Given as goal

abbrev pub invariant-loop-byte : goal.invariant-loop-byte
invariant-loop-byte l = record { appended : l.out ≡ l.fn.out ++ encode_lower (take l.byte-index l.bytes); start : l.start ≡ length l.fn.out }
