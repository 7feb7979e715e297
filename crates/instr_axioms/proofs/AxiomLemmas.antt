-- Each axiom is valid.
use Rattle.std.proofs.Common.{◌≡◌, ℕ, zero, suc, ◌+◌, ◌-◌, ◌^◌, ◌<◌, ◌≤◌, Bool, true, false, cond, eqb, eq-eqb, leb, ◌&&◌, ◌||◌, Option, Some, None, List, [], ◌∷◌, length, get_or, filter, Contains, refl, sym, ap, subst, ◌∙◌, arith}
use Rattle.std.proofs.lemmas.Bool.Decides.{nat_tests}
use Rattle.std.specs.Option.{option_and_then, option_or}
use Rattle.std.specs.Int.{w16, w32, to_le_bytes}
use Rattle.rvc.specs.Number.{bytes_of, instruction_of, is_word, length_of}
use Rattle.rvc.proofs.NumberLemmas.{instruction-named}
use Rattle.std.specs.List.{list_any, range_with_len}
use Rattle.std.proofs.lemmas.List.FromFn.{length-range_with_len, get_or-range_with_len}
use Rattle.rv_words.specs.Bytes.{bytes_from}
use Rattle.rv_decode.specs.declared.instruction.Instr.{Instr}
use Rattle.rv_decode.specs.declared.instruction.Instr.TheVariants as instr
use Rattle.rv_decode.specs.Decodes.{NamesRegisters}
use Rattle.rv_machine.specs.Step.{is_even}
use Rattle.rv_words.specs.Ranges.{AreRanges}
use Rattle.tailrec_lang.specs.Tree.{GroupTree}
use Rattle.rv_words.specs.Ranges.{range_bytes}
use Rattle.sep_assert.specs.Code.{IsWithin}
use Rattle.triple_kernel.specs.Tree.{TripleTree}
use Rattle.triple_kernel.specs.Valid.{Valid}
use Rattle.triple_kernel.specs.declared.form.Form.{Form}
use Rattle.rv_decode.specs.Registers.{registers_where, sources, destination}
use Rattle.instr_axioms.specs.Terms.{has_memory, has_form}
use Rattle.instr_axioms.specs.Axiom.{axiom_of, has_room, is_own, own, variables_for, own_triple, triple_if, word_code}
use Rattle.instr_axioms.proofs.Valid.{StandsIn, valid_over}

-- ---- an instruction's own registers

abbrev AreSmall : List ℕ → Type 0
AreSmall [] = Unit {0}
AreSmall (r ∷ rs) = (r < 32) × AreSmall rs

small_at : (rs : List ℕ) (r k : ℕ) → AreSmall rs → k < length rs → get_or rs k r ≡ r → r < 32
small_at [] r k h l at = absurd (omega arith)
small_at (q ∷ rs) r zero h l at = subst (λ x. x < 32) at h.0
small_at (q ∷ rs) r (suc k) h l at = small_at rs r k h.1 (omega arith) at

zero_small : 0 < 32
zero_small = omega arith

are_small : (i : Instr) → NamesRegisters i → AreSmall (destination i ∷ sources i)
are_small (instr.Op o rd rs1 rs2) h = (h.0, (h.1, (h.2, tt)))
are_small (instr.OpImm o rd rs1 imm) h = (h.0, (h.1, tt))
are_small (instr.Lui rd imm) h = (h, tt)
are_small (instr.Auipc rd imm) h = (h, tt)
are_small (instr.Jal rd offset) h = (h, tt)
are_small (instr.Jalr rd rs1 imm) h = (h.0, (h.1, tt))
are_small (instr.Branch c rs1 rs2 offset) h = (zero_small, (h.0, (h.1, tt)))
are_small (instr.Load w signed rd rs1 imm) h = (h.0, (h.1, tt))
are_small (instr.Store w rs1 rs2 imm) h = (zero_small, (h.0, (h.1, tt)))
are_small (instr.Fence imm rs1 rd) h = (zero_small, tt)
are_small instr.Ecall h = (zero_small, tt)
are_small instr.Ebreak h = (zero_small, tt)

or_left : (b c : Bool) → b ≡ true → (b || c) ≡ true
or_left true c e = refl
or_left false c e = absurd (cc)

or_right : (b c : Bool) → c ≡ true → (b || c) ≡ true
or_right true c e = refl
or_right false c e = e

any_own : (rs : List ℕ) (r k : ℕ) → k < length rs → get_or rs k r ≡ r → list_any (λ q. eqb q r) rs ≡ true
any_own [] r k l at = absurd (omega arith)
any_own (q ∷ rs) r zero l at = or_left (eqb q r) (list_any (λ x. eqb x r) rs) (eq-eqb q r at)
any_own (q ∷ rs) r (suc k) l at = or_right (eqb q r) (list_any (λ x. eqb x r) rs) (any_own rs r k (omega arith) at)

-- what passes stays
filtered : (p : ℕ → Bool) (xs : List ℕ) (x k : ℕ) → k < length xs → get_or xs k x ≡ x → p x ≡ true → Contains (filter p xs) x
filtered p [] x k l at h = absurd (omega arith)
filtered p (y ∷ ys) x zero l at h = subst (λ zs. Contains zs x) (λ i. cond (sym (ap p at ∙ h) i) (y ∷ filter p ys) (filter p ys)) (0, omega arith, at)
filtered p (y ∷ ys) x (suc k) l at h = put (p y) (filtered p ys x k (omega arith) at h)
  where
    put : (t : Bool) → Contains (filter p ys) x → Contains (cond t (y ∷ filter p ys) (filter p ys)) x
    put true c = (suc c.0, omega (arith, c.1), c.2)
    put false c = c

some : (r : ℕ) → (r ≡ 0 → ⊥) → 0 < r
some zero h = absurd (h refl)
some (suc r) h = omega arith

-- each of its registers but x0 is among its own
own-has : (i : Instr) (r k : ℕ) → NamesRegisters i → k < length (destination i ∷ sources i) → get_or (destination i ∷ sources i) k r ≡ r → (r ≡ 0 → ⊥) → Contains (own i) r
unfolding registers_where
own-has i r k h l at not_x0 =
    let least = some r not_x0 in
    let small = small_at (destination i ∷ sources i) r k (are_small i h) l at in
    let place : 1 + (r - 1) ≡ r = omega arith in
    filtered (is_own i) (range_with_len 1 31) r (r - 1) (omega (arith, length-range_with_len 1 31)) (get_or-range_with_len 1 31 (r - 1) r (omega arith) ∙ place) (any_own (destination i ∷ sources i) r k l at)

-- ---- the law

or_none : (o : Option ℕ) → option_or o None ≡ o
or_none None = refl
or_none (Some b) = refl

code_is : (a w : ℕ) → IsWithin (bytes_from a (bytes_of w)) (range_bytes (word_code a w))
code_is a w q b e = or_none (bytes_from a (bytes_of w) q) ∙ e

room_parts : (a w : ℕ) → has_room a w ≡ true → (is_even a ≡ true) × (a + length_of w ≤ 2 ^ 64)
room_parts a w h = both (is_even a) (leb (a + length_of w) (2 ^ 64)) refl h
  where
    both : (t u : Bool) → leb (a + length_of w) (2 ^ 64) ≡ u → (t && u) ≡ true → (t ≡ true) × (a + length_of w ≤ 2 ^ 64)
    both true true is e = (refl, grind (arith, nat_tests))
    both true false is e = absurd (cc)
    both false u is e = absurd (cc)

stands : (i : Instr) (a w : ℕ) → a < 2 ^ 64 → has_room a w ≡ true → w < 2 ^ 32 → instruction_of w ≡ Some i → StandsIn i a w (word_code a w) (own i) (has_memory i)
stands i a w small room low is =
    let named : NamesRegisters i = instruction-named w i low is in
    let parts = room_parts a w room in record {
      small = small;
      even = parts.0;
      room = parts.1;
      word = low;
      is = is;
      bytes = code_is a w;
      reads = λ r c. own-has i r (suc c.0) named (omega (arith, c.1)) c.2;
      writes = λ h. own-has i (destination i) 0 named (omega arith) refl h;
      memory = λ k. k;
    }

pub own-valid : (g : GroupTree) (i : Instr) (form : Form) (a w : ℕ) → a < 2 ^ 64 → has_room a w ≡ true → w < 2 ^ 32 → instruction_of w ≡ Some i → has_form i form ≡ true → Valid g (own_triple i form a w)
own-valid g i form a w small even low is has = valid_over i form a w (word_code a w) (own i) (has_memory i) (variables_for (own i)) (stands i a w small even low is) has g

-- an axiom, taken apart
pub record IsAxiom (a w : ℕ) (form : Form) (t : TripleTree) : Type 0 where
  pub room : has_room a w ≡ true
  pub instruction : Instr
  pub is : instruction_of w ≡ Some instruction
  pub has : has_form instruction form ≡ true
  pub same : own_triple instruction form a w ≡ t

pub axiom-parts : (a w : ℕ) (form : Form) (t : TripleTree) → axiom_of a w form ≡ Some t → IsAxiom a w form t
unfolding axiom_of
axiom-parts a w form t e = at (has_room a w) (instruction_of w) refl refl e
  where
    formed : (room : has_room a w ≡ true) (i : Instr) (b : Bool) → instruction_of w ≡ Some i → has_form i form ≡ b → cond b (Some (own_triple i form a w)) None ≡ Some t → IsAxiom a w form t
    formed room i true is has e = record { room = room; instruction = i; is = is; has = has; same = cc }
    formed room i false is has e = absurd (cc)

    at : (b : Bool) (o : Option Instr) → has_room a w ≡ b → instruction_of w ≡ o → cond b (option_and_then (triple_if a w form) o) None ≡ Some t → IsAxiom a w form t
    at true (Some i) even is e = formed even i (has_form i form) is refl e
    at true None even is e = absurd (cc)
    at false o even is e = absurd (cc)

-- an axiom of an address and a word is valid for every group
pub axiom_valid : (g : GroupTree) (a w : ℕ) (form : Form) (t : TripleTree) → a < 2 ^ 64 → w < 2 ^ 32 → axiom_of a w form ≡ Some t → Valid g t
axiom_valid g a w form t small low e = let p = axiom-parts a w form t e in subst (λ x. Valid g x) p.same (own-valid g p.instruction form a w small p.room low p.is p.has)

-- an axiom's code is a range, as code_join asks for
pub word_code-ranges : (a w : ℕ) → a + length_of w ≤ 2 ^ 64 → AreRanges (word_code a w)
word_code-ranges a w room = by_length (is_word w) room
  where
    by_length : (t : Bool) → a + cond t 4 2 ≤ 2 ^ 64 → AreRanges (record { at = a; bytes = cond t (to_le_bytes w32 w) (to_le_bytes w16 w) } ∷ [])
    by_length true h = (omega arith, omega arith, omega arith, tt)
    by_length false h = (omega arith, omega arith, omega arith, tt)
