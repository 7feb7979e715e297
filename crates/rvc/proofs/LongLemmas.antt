-- Only a number with the low bits of a word is a word that decodes.
use Rattle.std.proofs.Common.{◌≡◌, ℕ, ◌+◌, ◌%◌, ◌^◌, ◌≤◌, eqb, Bool, true, false, cond, ◌&&◌, Option, Some, None, List, [], ◌∷◌, refl, sym, subst, ◌∙◌, eqb-true, eq-eqb, arith}
use Rattle.std.specs.List.{list_all}
use Rattle.rv_words.specs.Bytes.{Bytes, inside, load, word_at}
use Rattle.rv_decode.specs.declared.instruction.Instr.{Instr}
use Rattle.rv_decode.specs.Fields.{opcode}
use Rattle.rv_decode.specs.Decodes.{Fixed, Opcode, Funct3, Funct7, Funct6, Funct12, decoded, fits, table}
use Rattle.rv_decode.specs.Encodes.{word_of}
use Rattle.rv_decode.specs.Ranges.{is_encodable}
use Rattle.rv_decode.proofs.ForthLemmas.{forth}
use Rattle.rv_decode.proofs.RowLemmas.{Row, decoded_by, decoded_by-table}
use Rattle.rvc.specs.Number.{instruction_of, is_word, length_of, number_at, number_in}
use Rattle.rvc.proofs.NumberLemmas.{instruction-word, number_at-is, number_in-is}

abbrev opcode_in : Fixed → ℕ
opcode_in (Opcode o) = o
opcode_in (Funct3 o f) = o
opcode_in (Funct7 o f g) = o
opcode_in (Funct6 o f g) = o
opcode_in (Funct12 o f g) = o

first_true : (a b : Bool) → (a && b) ≡ true → a ≡ true
first_true true b h = refl
first_true false b h = h

fits-opcode : (w : ℕ) (f : Fixed) → fits w f ≡ true → opcode w ≡ opcode_in f
fits-opcode w (Opcode o) h = eqb-true (opcode w) o h
fits-opcode w (Funct3 o f) h = eqb-true (opcode w) o (first_true _ _ h)
fits-opcode w (Funct7 o f g) h = eqb-true (opcode w) o (first_true _ _ (first_true _ _ h))
fits-opcode w (Funct6 o f g) h = eqb-true (opcode w) o (first_true _ _ (first_true _ _ h))
fits-opcode w (Funct12 o f g) h = eqb-true (opcode w) o (first_true _ _ (first_true _ _ (first_true _ _ (first_true _ _ h))))

-- rows of which each has the low bits of a word in its opcode
abbrev is_long : Row → Bool
is_long (f, gives) = eqb (opcode_in f % 4) 3

-- one row: it fits and has the low bits, or a later one fits
long_row : (w o : ℕ) (t l : Bool) (i j : Instr) (later : Option Instr) (all : Bool) → (t ≡ true → opcode w ≡ o) → (l ≡ true → o % 4 ≡ 3) → (all ≡ true → later ≡ Some i → is_word w ≡ true) → (l && all) ≡ true → cond t (Some j) later ≡ Some i → is_word w ≡ true
long_row w o true true i j later all is low rest h e =
    let here = is refl in
    let four = low refl in
    let there : w % 4 ≡ 3 = omega (arith, here, four) in
    eq-eqb (w % 4) 3 there
long_row w o false true i j later all is low rest h e = rest h e
long_row w o t false i j later all is low rest h e = absurd (cc)

long_rows : (w : ℕ) (i : Instr) (rs : List Row) → list_all is_long rs ≡ true → decoded_by rs w ≡ Some i → is_word w ≡ true
long_rows w i [] all e = absurd (cc)
long_rows w i (r ∷ rs) all e = long_row w (opcode_in r.0) (fits w r.0) (is_long r) i (r.1 w) (decoded_by rs w) (list_all is_long rs) (fits-opcode w r.0) (eqb-true (opcode_in r.0 % 4) 3) (long_rows w i rs) all e

pub decoded-long : (w : ℕ) (i : Instr) → decoded w ≡ Some i → is_word w ≡ true
decoded-long w i e = long_rows w i table refl (decoded_by-table w ∙ e)

-- ---- the word of an instruction, in memory

by_word : (t : Bool) (x w : ℕ) → cond t (Some x) None ≡ Some w → (t ≡ true) × (x ≡ w)
by_word true x w e = (refl, cc)
by_word false x w e = absurd (cc)

pub number_at-word : (m : Bytes) (a w : ℕ) → is_word w ≡ true → word_at m a ≡ Some w → number_at m a ≡ Some w
number_at-word m a w long e =
    let parts = by_word (inside 4 m a) (load 4 m a) w e in
    (number_at-is m a w).1 (subst (λ (t : Bool). (inside (cond t 4 2) m a ≡ true) × (load (cond t 4 2) m a ≡ w)) (sym long) parts)

pub word-long : (i : Instr) → is_encodable i ≡ true → is_word (word_of i) ≡ true
word-long i fits = decoded-long (word_of i) i (forth i fits)

pub instruction_of-word : (i : Instr) → is_encodable i ≡ true → instruction_of (word_of i) ≡ Some i
instruction_of-word i fits = instruction-word (word_of i) (word-long i fits) ∙ forth i fits

pub number_in-word : (m : Bytes) (a : ℕ) (i : Instr) → a + 4 ≤ 2 ^ 64 → word_at m a ≡ Some (word_of i) → is_encodable i ≡ true → number_in m a ≡ Some (word_of i)
number_in-word m a i room here fits =
    let long = word-long i fits in
    let length : length_of (word_of i) ≡ 4 = λ j. cond (long j) 4 2 in
    (number_in-is m a (word_of i)).1 (number_at-word m a (word_of i) long here, subst (λ (n : ℕ). a + n ≤ 2 ^ 64) (sym length) room)
