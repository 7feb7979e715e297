-- The rows of the table that are left where some fields of a word are known.
use Rattle.std.proofs.Common.{◌≡◌, ◌≢◌, ℕ, ◌+◌, ◌*◌, ◌^◌, ◌<◌, eqb, Bool, true, false, cond, not, ◌&&◌, ◌||◌, ◌⊎◌, ⊎_elim, inl, inr, arith, Option, Some, None, List, [], ◌∷◌, refl, sym, ◌∙◌, eq-eqb, eqb-true}
use Rattle.std.proofs.lemmas.Bool.{eqb-false, false≢true}
use Rattle.std.proofs.lemmas.Bool.Decides.{nat_tests}
use Rattle.std.specs.Prelude.{option_map}
use Rattle.std.specs.List.{list_all, find}
use Rattle.rv_decode.specs.declared.instruction.Instr.{Instr}
use Rattle.rv_decode.specs.declared.instruction.Instr.TheVariants.{Ecall, Ebreak}
use Rattle.rv_decode.specs.Fields.{bits, opcode, rd, funct3, rs1, funct7, funct6, funct12}
use Rattle.rv_decode.specs.Decodes.{Fixed, Opcode, Funct3, Funct7, Funct6, Funct12, fits, table, decoded}

-- ---- the fixed fields of a row as a list

-- a field with a fixed value: its lowest bit, the number of its bits, and the value
pub record FixedBits : Type 0 where
  pub low : ℕ
  pub count : ℕ
  pub value : ℕ

abbrev pub opcode_is : ℕ → FixedBits
opcode_is n = record { low = 0; count = 7; value = n }

abbrev rd_is : ℕ → FixedBits
rd_is n = record { low = 7; count = 5; value = n }

abbrev pub funct3_is : ℕ → FixedBits
funct3_is n = record { low = 12; count = 3; value = n }

abbrev rs1_is : ℕ → FixedBits
rs1_is n = record { low = 15; count = 5; value = n }

abbrev pub funct7_is : ℕ → FixedBits
funct7_is n = record { low = 25; count = 7; value = n }

abbrev pub funct6_is : ℕ → FixedBits
funct6_is n = record { low = 26; count = 6; value = n }

abbrev funct12_is : ℕ → FixedBits
funct12_is n = record { low = 20; count = 12; value = n }

-- the fixed fields of a row, each by itself
abbrev pub bits_of : Fixed → List FixedBits
bits_of (Opcode o) = opcode_is o ∷ []
bits_of (Funct3 o f) = opcode_is o ∷ funct3_is f ∷ []
bits_of (Funct7 o f g) = opcode_is o ∷ funct3_is f ∷ funct7_is g ∷ []
bits_of (Funct6 o f g) = opcode_is o ∷ funct3_is f ∷ funct6_is g ∷ []
bits_of (Funct12 o f g) = opcode_is o ∷ funct3_is f ∷ funct12_is g ∷ rs1_is 0 ∷ rd_is 0 ∷ []

-- the word has that value in that field
abbrev pub has : ℕ → FixedBits → Bool
has w f = eqb (bits f.low f.count w) f.value

-- one test after the other, and all tests of a list
and_2 : (a b : Bool) → (a && (b && true)) ≡ (a && b)
and_2 true true = refl
and_2 true false = refl
and_2 false b = refl

and_3 : (a b c : Bool) → (a && (b && (c && true))) ≡ (a && b && c)
and_3 true b c = and_2 b c
and_3 false b c = refl

and_5 : (a b c d e : Bool) → (a && (b && (c && (d && (e && true))))) ≡ (a && b && c && d && e)
and_5 true true c d e = and_3 c d e
and_5 true false c d e = refl
and_5 false b c d e = refl

pub has-fits : (w : ℕ) (f : Fixed) → list_all (has w) (bits_of f) ≡ fits w f
has-fits w (Opcode o) = and_1 (eqb (opcode w) o)
  where
    and_1 : (a : Bool) → (a && true) ≡ a
    and_1 true = refl
    and_1 false = refl
has-fits w (Funct3 o f) = and_2 (eqb (opcode w) o) (eqb (funct3 w) f)
has-fits w (Funct7 o f g) = and_3 (eqb (opcode w) o) (eqb (funct3 w) f) (eqb (funct7 w) g)
has-fits w (Funct6 o f g) = and_3 (eqb (opcode w) o) (eqb (funct3 w) f) (eqb (funct6 w) g)
has-fits w (Funct12 o f g) = and_5 (eqb (opcode w) o) (eqb (funct3 w) f) (eqb (funct12 w) g) (eqb (rs1 w) 0) (eqb (rd w) 0)

-- ---- the first row whose fixed fields a word has

-- the fixed fields, and the instruction that a word with these is
abbrev pub Row : Type 0
Row = Fixed × (ℕ → Instr)

-- the instruction that the first of the rows gives whose fixed fields the word has
abbrev pub decoded_by : List Row → ℕ → Option Instr
decoded_by [] w = None
decoded_by (r ∷ rs) w = cond (fits w r.0) (Some (r.1 w)) (decoded_by rs w)

found : (w : ℕ) (rs : List Row) → decoded_by rs w ≡ option_map (λ (fixed, gives). gives w) (find (λ (fixed, gives). fits w fixed) rs)
found w [] = refl
found w (r ∷ rs) = by_test (fits w r.0) (decoded_by rs w) (find (λ (fixed, gives). fits w fixed) rs) (found w rs)
  where
    by_test : (t : Bool) (x : Option Instr) (o : Option Row) → x ≡ option_map (λ (fixed, gives). gives w) o
        → cond t (Some (r.1 w)) x ≡ option_map (λ (fixed, gives). gives w) (cond t (Some r) o)
    by_test true x o h = refl
    by_test false x o h = h

pub decoded_by-table : (w : ℕ) → decoded_by table w ≡ decoded w
unfolding decoded
decoded_by-table w = found w table

-- ---- the rows that facts leave

-- a field, and whether the word has that value in it
pub record Fact : Type 0 where
  pub field : FixedBits
  pub holds : Bool

abbrev pub AreFacts : ℕ → List Fact → Type 0
AreFacts w [] = Unit {0}
AreFacts w (k ∷ ks) = (has w k.field ≡ k.holds) × AreFacts w ks

-- two fields are the same bits
abbrev pub same_bits : FixedBits → FixedBits → Bool
same_bits f g = eqb f.low g.low && eqb f.count g.count

-- the test of a field, where the facts tell its outcome
abbrev pub told : List Fact → ℕ → FixedBits → Bool
told [] w f = has w f
told (k ∷ ks) w f = cond (same_bits k.field f) (cond (eqb k.field.value f.value) k.holds (cond k.holds false (told ks w f))) (told ks w f)

abbrev pub all_told : List Fact → ℕ → List FixedBits → Bool
all_told ks w [] = true
all_told ks w (f ∷ fs) = told ks w f && all_told ks w fs

-- the facts tell that the word hasn't that value in that field
abbrev pub refuted : List Fact → FixedBits → Bool
refuted [] f = false
refuted (k ∷ ks) f = (same_bits k.field f && cond (eqb k.field.value f.value) (not k.holds) k.holds) || refuted ks f

abbrev pub any_refuted : List Fact → List FixedBits → Bool
any_refuted ks [] = false
any_refuted ks (f ∷ fs) = refuted ks f || any_refuted ks fs

-- the instruction that the first row gives that the facts leave
abbrev pub left_by : List Fact → List Row → ℕ → Option Instr
left_by ks [] w = None
left_by ks (r ∷ rs) w = cond (any_refuted ks (bits_of r.0)) (left_by ks rs w) (cond (all_told ks w (bits_of r.0)) (Some (r.1 w)) (left_by ks rs w))

-- what a fact tells of a test of the same bits x and y
told_same : (x y v u : ℕ) (t h rest : Bool) → x ≡ y → eqb v u ≡ t → eqb x v ≡ h → rest ≡ eqb y u → cond t h (cond h false rest) ≡ eqb y u
told_same x y v u true h rest bits is known other = sym known ∙ (λ i. eqb (bits i) (eqb-true v u is i))
told_same x y v u false true rest bits is known other =
    let not : eqb y u ≢ true = λ e. eqb-false v u is (sym (eqb-true x v known) ∙ bits ∙ eqb-true y u e) in
    sym (not_true (eqb y u) not)
  where
    not_true : (b : Bool) → b ≢ true → b ≡ false
    not_true true h = absurd (h refl)
    not_true false h = refl
told_same x y v u false false rest bits is known other = other

pub and_true : (a b : Bool) → (a && b) ≡ true → (a ≡ true) × (b ≡ true)
and_true true b h = (refl, h)
and_true false b h = absurd (false≢true h)

told_field : (k f : FixedBits) (w : ℕ) (h rest : Bool) (s : Bool) → same_bits k f ≡ s → has w k ≡ h → rest ≡ has w f → cond s (cond (eqb k.value f.value) h (cond h false rest)) rest ≡ has w f
told_field k f w h rest false is known other = other
told_field k f w h rest true is known other =
    let both = and_true (eqb k.low f.low) (eqb k.count f.count) is in
    let same : bits k.low k.count w ≡ bits f.low f.count w = λ i. bits (eqb-true k.low f.low both.0 i) (eqb-true k.count f.count both.1 i) w in
    told_same (bits k.low k.count w) (bits f.low f.count w) k.value f.value (eqb k.value f.value) h rest same refl known other

told-has : (ks : List Fact) (w : ℕ) (f : FixedBits) → AreFacts w ks → told ks w f ≡ has w f
told-has [] w f h = refl
told-has (k ∷ ks) w f h = told_field k.field f w k.holds (told ks w f) (same_bits k.field f) refl h.0 (told-has ks w f h.1)

all_told-has : (ks : List Fact) (w : ℕ) (fs : List FixedBits) → AreFacts w ks → all_told ks w fs ≡ list_all (has w) fs
all_told-has ks w [] h = refl
all_told-has ks w (f ∷ fs) h = λ i. told-has ks w f h i && all_told-has ks w fs h i

or_true : (a b : Bool) → (a || b) ≡ true → (a ≡ true) ⊎ (b ≡ true)
or_true true b h = inl refl
or_true false b h = inr h

-- a field of the same bits with another value, or one that a fact denies
refuted_same : (x v u : ℕ) (h : Bool) → eqb x v ≡ h → cond (eqb v u) (not h) h ≡ true → eqb x u ≡ false
refuted_same x v u h is e = grind (arith, nat_tests)

refuted-has : (ks : List Fact) (w : ℕ) (f : FixedBits) → AreFacts w ks → refuted ks f ≡ true → has w f ≡ false
refuted-has [] w f h e = absurd (false≢true e)
refuted-has (k ∷ ks) w f h e =
    ⊎_elim
    (λ here.
    let both = and_true (same_bits k.field f) (cond (eqb k.field.value f.value) (not k.holds) k.holds) here in
    let same = and_true (eqb k.field.low f.low) (eqb k.field.count f.count) both.0 in
    let at : bits k.field.low k.field.count w ≡ bits f.low f.count w = λ i. bits (eqb-true k.field.low f.low same.0 i) (eqb-true k.field.count f.count same.1 i) w in
    (λ i. eqb (sym at i) f.value) ∙ refuted_same (bits k.field.low k.field.count w) k.field.value f.value k.holds h.0 both.1)
    (λ there. refuted-has ks w f h.1 there)
    (or_true (same_bits k.field f && cond (eqb k.field.value f.value) (not k.holds) k.holds) (refuted ks f) e)

pub any_refuted-has : (ks : List Fact) (w : ℕ) (fs : List FixedBits) → AreFacts w ks → any_refuted ks fs ≡ true → list_all (has w) fs ≡ false
any_refuted-has ks w [] h e = absurd (false≢true e)
any_refuted-has ks w (f ∷ fs) h e =
    ⊎_elim
    (λ here. λ i. refuted-has ks w f h here i && list_all (has w) fs)
    (λ there. (λ i. has w f && any_refuted-has ks w fs h there i) ∙ and_false (has w f))
    (or_true (refuted ks f) (any_refuted ks fs) e)
  where
    and_false : (b : Bool) → (b && false) ≡ false
    and_false true = refl
    and_false false = refl

skipped : {A : Type 0} (t met : Bool) (here rest : A) → (t ≡ true → met ≡ false) → cond t rest (cond met here rest) ≡ cond met here rest
skipped true met here rest h = λ i. cond (sym (h refl) i) here rest
skipped false met here rest h = refl

left_by-decoded : (ks : List Fact) (w : ℕ) (rs : List Row) → AreFacts w ks → left_by ks rs w ≡ decoded_by rs w
left_by-decoded ks w [] h = refl
left_by-decoded ks w (r ∷ rs) h =
    let fs = bits_of r.0 in
    let told_fits : all_told ks w fs ≡ fits w r.0 = all_told-has ks w fs h ∙ has-fits w r.0 in
    (λ i. cond (any_refuted ks fs) (left_by-decoded ks w rs h i) (cond (told_fits i) (Some (r.1 w)) (left_by-decoded ks w rs h i)))
    ∙ skipped (any_refuted ks fs) (fits w r.0) (Some (r.1 w)) (decoded_by rs w) (λ t. sym (has-fits w r.0) ∙ any_refuted-has ks w fs h t)

-- a word is the instruction that is left by what is known of it
pub left_by-is : (ks : List Fact) (w : ℕ) → AreFacts w ks → left_by ks table w ≡ decoded w
left_by-is ks w h = left_by-decoded ks w table h ∙ decoded_by-table w

-- ---- facts

abbrev pub is : FixedBits → Fact
is f = record { field = f; holds = true }

abbrev pub is_not : FixedBits → Fact
is_not f = record { field = f; holds = false }

pub neq-eqb : (a b : ℕ) → a ≢ b → eqb a b ≡ false
neq-eqb a b h = by_test (eqb a b) refl
  where
    by_test : (t : Bool) → eqb a b ≡ t → t ≡ false
    by_test true e = absurd (h (eqb-true a b e))
    by_test false e = refl

-- the rows that are left of a word with these fields
pub at_opcode : (w o : ℕ) → opcode w ≡ o → left_by (is (opcode_is o) ∷ []) table w ≡ decoded w
at_opcode w o a = left_by-is (is (opcode_is o) ∷ []) w (eq-eqb (opcode w) o a, tt)

pub at_funct3 : (w o f : ℕ) → opcode w ≡ o → funct3 w ≡ f → left_by (is (opcode_is o) ∷ is (funct3_is f) ∷ []) table w ≡ decoded w
at_funct3 w o f a b = left_by-is (is (opcode_is o) ∷ is (funct3_is f) ∷ []) w (eq-eqb (opcode w) o a, (eq-eqb (funct3 w) f b, tt))

pub at_funct7 : (w o f g : ℕ) → opcode w ≡ o → funct3 w ≡ f → funct7 w ≡ g → left_by (is (opcode_is o) ∷ is (funct3_is f) ∷ is (funct7_is g) ∷ []) table w ≡ decoded w
at_funct7 w o f g a b c =
    left_by-is (is (opcode_is o) ∷ is (funct3_is f) ∷ is (funct7_is g) ∷ []) w (eq-eqb (opcode w) o a, (eq-eqb (funct3 w) f b, (eq-eqb (funct7 w) g c, tt)))

pub at_funct6 : (w o f g : ℕ) → opcode w ≡ o → funct3 w ≡ f → funct6 w ≡ g → left_by (is (opcode_is o) ∷ is (funct3_is f) ∷ is (funct6_is g) ∷ []) table w ≡ decoded w
at_funct6 w o f g a b c =
    left_by-is (is (opcode_is o) ∷ is (funct3_is f) ∷ is (funct6_is g) ∷ []) w (eq-eqb (opcode w) o a, (eq-eqb (funct3 w) f b, (eq-eqb (funct6 w) g c, tt)))

-- ---- the two words with the opcode of calls of the environment that are instructions

not_met : {A : Type 0} (f g a d : Bool) (here rest : A) → (f ≡ true → g ≡ true → a ≡ true → d ≡ true → false ≡ true) → cond (f && (g && (a && (d && true)))) here rest ≡ rest
not_met true true true true here rest h = absurd (false≢true (h refl refl refl refl))
not_met true true true false here rest h = refl
not_met true true false d here rest h = refl
not_met true false a d here rest h = refl
not_met false g a d here rest h = refl

-- the fixed fields of such a word, with these upper twelve bits, tell the whole word
no_fields : (w n : ℕ) → w < 2 ^ 32 → opcode w ≡ 0x73 → w ≢ 0x73 + 2 ^ 20 * n → {A : Type 0} (here rest : A) → cond (eqb (bits 12 3 w) 0 && (eqb (bits 20 12 w) n && (eqb (bits 15 5 w) 0 && (eqb (bits 7 5 w) 0 && true)))) here rest ≡ rest
no_fields w n below o h here rest =
    not_met (eqb (bits 12 3 w) 0) (eqb (bits 20 12 w) n) (eqb (bits 15 5 w) 0) (eqb (bits 7 5 w) 0) here rest
    (λ f g a d.
    let f0 = eqb-true (bits 12 3 w) 0 f in
    let g0 = eqb-true (bits 20 12 w) n g in
    let a0 = eqb-true (bits 15 5 w) 0 a in
    let d0 = eqb-true (bits 7 5 w) 0 d in
    absurd (h (omega arith)))

pub no_system_word : (w : ℕ) → w < 2 ^ 32 → opcode w ≡ 0x73 → w ≢ 0x73 → w ≢ 0x100073 → None ≡ decoded w
no_system_word w below o no_call no_break =
    sym (no_fields w 0 below o no_call (Some Ecall) (cond (eqb (bits 12 3 w) 0 && (eqb (bits 20 12 w) 1 && (eqb (bits 15 5 w) 0 && (eqb (bits 7 5 w) 0 && true)))) (Some Ebreak) None) ∙ no_fields w 1 below o no_break (Some Ebreak) None)
    ∙ at_opcode w 0x73 o

pub call_word : decoded 0x73 ≡ Some Ecall
unfolding decoded
call_word = refl

pub break_word : decoded 0x100073 ≡ Some Ebreak
unfolding decoded
break_word = refl
