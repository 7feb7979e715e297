-- What a valid triple claims of finite parts.
use Rattle.std.proofs.Common.{◌≡◌, ℕ, Bool, true, false, cond, Option, Some, None}
use Rattle.sep_assert.specs.Part.{Pc, Register, Byte, Free, Has, Clash, Exists, slot_of, code_part, part_of}
use Rattle.sep_assert.proofs.Unions.{union-makes_up}
use Rattle.tailrec_lang.specs.Tree.{GroupTree}
use Rattle.rv_machine.specs.State.{State}
use Rattle.triple_kernel.specs.Tree.{TripleTree}
use Rattle.triple_kernel.specs.Valid.{Valid, IsValidForFinite, is_register, state_part}

register-exists : (b : Bool) (n : ℕ) → cond b (Has n) Free ≡ Clash → ⊥
register-exists true n e = cc
register-exists false n e = cc

byte-exists : (byte : Option ℕ) → slot_of byte ≡ Clash → ⊥
byte-exists None e = cc
byte-exists (Some n) e = cc

-- the part that a state is exists
pub state-exists : (s : State) → Exists (state_part s)
state-exists s Pc e = cc
state-exists s (Register r) e = register-exists (is_register r) (s.reg r) e
state-exists s (Byte a) e = byte-exists (s.mem a) e

pub valid_finite : (g : GroupTree) (t : TripleTree) → Valid g t → IsValidForFinite g t
valid_finite g t v = record {
  runs = λ e in_range holds rest finite s made.
      let code = code_part t.code in
      let r = v.runs e holds rest s ((union-makes_up (state_part s) (part_of t.pre e) code rest (state-exists s)).1 made) in
      (r.0, r.1, (union-makes_up (state_part r.0) (part_of t.post e) code rest (state-exists r.0)).0 r.2);
}
