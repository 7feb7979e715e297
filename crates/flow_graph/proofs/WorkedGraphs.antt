-- Worked values: small programs at 0x10000, their successors and faults.
use Rattle.std.specs.Prelude.{◌≡◌, ℕ, ◌/◌, ◌%◌, List, [], ◌∷◌, true, false, Some, Ok, Err, refl, pos}
use Rattle.rv_words.specs.Bytes.{Bytes, bytes_from}
use Rattle.rv_decode.specs.Decodes.{decoded}
use Rattle.rv_decode.specs.Encodes.{encoded}
use Rattle.rvc.specs.Expands.{compressed, expanded}
use Rattle.rv_decode.specs.declared.instruction.Instr.TheVariants.{Jal, Jalr}
use Rattle.flow_graph.specs.declared.outside.Outside.TheVariants.{OutsideCode, NotDecoded, Environment, Call, JumpThrough, Misaligned}
use Rattle.flow_graph.specs.Flow.{called_by, look, next}

abbrev pub bytes_of_words : List ℕ → List ℕ
bytes_of_words [] = []
bytes_of_words (w ∷ ws) = w % 256 ∷ w / 256 % 256 ∷ w / 65536 % 256 ∷ w / 16777216 ∷ bytes_of_words ws

abbrev pub program : List ℕ → Bytes
program ws = bytes_from 0x10000 (bytes_of_words ws)

-- a cycle with two entries
abbrev pub two_entries : Bytes
two_entries = program (0x00050463 ∷ 0x00158593 ∷ 0xfe059ee3 ∷ 0x00008067 ∷ [])

pub two_entries-0 : next false two_entries 0x10000 ≡ 0x10004 ∷ 0x10008 ∷ []
unfolding look decoded
two_entries-0 = refl

pub two_entries-4 : next false two_entries 0x10004 ≡ 0x10008 ∷ []
unfolding look decoded
two_entries-4 = refl

pub two_entries-8 : next false two_entries 0x10008 ≡ 0x1000c ∷ 0x10004 ∷ []
unfolding look decoded
two_entries-8 = refl

pub two_entries-c : next false two_entries 0x1000c ≡ []
unfolding look decoded
two_entries-c = refl

two_entries-return : look false two_entries 0x1000c ≡ Ok (Jalr 0 1 (pos 0))
unfolding look decoded
two_entries-return = refl

-- compressed instructions, c.nop and c.jr x1, and behind them a return; and a reserved number
compressed_nop : next false (program (0x80820001 ∷ 0x00008067 ∷ [])) 0x10000 ≡ 0x10002 ∷ []
unfolding look decoded expanded compressed encoded
compressed_nop = refl

compressed_return : look false (program (0x80820001 ∷ 0x00008067 ∷ [])) 0x10002 ≡ Ok (Jalr 0 1 (pos 0))
unfolding look decoded expanded compressed encoded
compressed_return = refl

not_decoded : look false (program (0x00008002 ∷ [])) 0x10000 ≡ Err (NotDecoded 0x10000 0x8002)
unfolding look decoded expanded compressed encoded
not_decoded = refl

not_decoded-4 : look false (program (0x80820001 ∷ 0x00008067 ∷ [])) 0x10004 ≡ Ok (Jalr 0 1 (pos 0))
unfolding look decoded
not_decoded-4 = refl

call : look false (program (0x008000ef ∷ [])) 0x10000 ≡ Err (Call 0x10000)
unfolding look decoded
call = refl

jump_through : look false (program (0x00028067 ∷ [])) 0x10000 ≡ Err (JumpThrough 0x10000)
unfolding look decoded
jump_through = refl

environment : look false (program (0x00000073 ∷ [])) 0x10000 ≡ Err (Environment 0x10000)
unfolding look decoded
environment = refl

outside_code : look false (program (0x00150513 ∷ [])) 0x10004 ≡ Err (OutsideCode 0x10004)
unfolding look decoded
outside_code = refl

near_target : next false (program (0x00000363 ∷ [])) 0x10000 ≡ 0x10004 ∷ 0x10006 ∷ []
unfolding look decoded
near_target = refl

misaligned : look false (program (0x00000363 ∷ [])) 0x10001 ≡ Err (Misaligned 0x10001 0x10001)
unfolding look
misaligned = refl

-- an address with a fault leads nowhere
nowhere : next false (program (0x008000ef ∷ [])) 0x10000 ≡ []
unfolding look decoded
nowhere = refl

-- linked functions: a call comes back, and no other jump with a link may stand
linked_call : look true (program (0x008000ef ∷ [])) 0x10000 ≡ Ok (Jal 1 (pos 8))
unfolding look decoded
linked_call = refl

linked_back : next true (program (0x008000ef ∷ [])) 0x10000 ≡ 0x10004 ∷ []
unfolding look decoded
linked_back = refl

linked_callee : called_by 0x10000 (Jal 1 (pos 8)) ≡ Some 0x10008
linked_callee = refl

linked_other : look true (program (0x008002ef ∷ [])) 0x10000 ≡ Err (Call 0x10000)
unfolding look decoded
linked_other = refl

-- an endless loop of one jump
endless : next false (program (0x0000006f ∷ [])) 0x10000 ≡ 0x10000 ∷ []
unfolding look decoded
endless = refl
