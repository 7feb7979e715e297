-- The rows of the table that are left where some tests of a number are known to hold.
use Rattle.std.proofs.Common.{◌≡◌, ◌≢◌, ℕ, eqb, Bool, true, false, cond, not, ◌&&◌, ◌||◌, ◌⊎◌, ⊎_elim, inl, inr, arith, Option, Some, None, List, [], ◌∷◌, refl, sym, ◌∙◌, eq-eqb, eqb-true}
use Rattle.std.proofs.lemmas.Bool.{false≢true}
use Rattle.std.proofs.lemmas.Bool.Decides.{nat_tests}
use Rattle.std.specs.Prelude.{option_map}
use Rattle.std.specs.List.{find}
use Rattle.rv_decode.specs.declared.instruction.Instr.{Instr}
use Rattle.rvc.specs.Expands.{Field, Quadrant, Funct3, Funct1, Funct2, Funct2Low, Rd, Rs2, SixBits, StackAddend, value_of, Test, Is, IsNot, holds, fits, Row, table, compressed}

-- ---- the first row whose tests a number meets

abbrev pub compressed_by : List Row → ℕ → Option Instr
compressed_by [] h = None
compressed_by (r ∷ rs) h = cond (fits h r.0) (Some (r.1 h)) (compressed_by rs h)

found : (h : ℕ) (rs : List Row) → compressed_by rs h ≡ option_map (λ (tests, gives). gives h) (find (λ (tests, gives). fits h tests) rs)
found h [] = refl
found h (r ∷ rs) = by_test (fits h r.0) (compressed_by rs h) (find (λ (tests, gives). fits h tests) rs) (found h rs)
  where
    by_test : (t : Bool) (x : Option Instr) (o : Option Row) → x ≡ option_map (λ (tests, gives). gives h) o
        → cond t (Some (r.1 h)) x ≡ option_map (λ (tests, gives). gives h) (cond t (Some r) o)
    by_test true x o e = refl
    by_test false x o e = e

pub compressed_by-table : (h : ℕ) → compressed_by table h ≡ compressed h
unfolding compressed
compressed_by-table h = found h table

-- ---- what one test tells of another

-- a number for each field
abbrev pub code : Field → ℕ
code Quadrant = 0
code Funct3 = 1
code Funct1 = 2
code Funct2 = 3
code Funct2Low = 4
code Rd = 5
code Rs2 = 6
code SixBits = 7
code StackAddend = 8

abbrev value_by : ℕ → ℕ → ℕ
value_by c h =
    cond (eqb c 0) (value_of Quadrant h) (cond (eqb c 1) (value_of Funct3 h) (cond (eqb c 2) (value_of Funct1 h) (cond (eqb c 3) (value_of Funct2 h) (cond (eqb c 4) (value_of Funct2Low h) (cond (eqb c 5) (value_of Rd h) (cond (eqb c 6) (value_of Rs2 h) (cond (eqb c 7) (value_of SixBits h) (value_of StackAddend h))))))))

by_code : (f : Field) (h : ℕ) → value_of f h ≡ value_by (code f) h
by_code Quadrant h = refl
by_code Funct3 h = refl
by_code Funct1 h = refl
by_code Funct2 h = refl
by_code Funct2Low h = refl
by_code Rd h = refl
by_code Rs2 h = refl
by_code SixBits h = refl
by_code StackAddend h = refl

abbrev pub same : Field → Field → Bool
same f g = eqb (code f) (code g)

same-value : (f g : Field) (h : ℕ) → same f g ≡ true → value_of f h ≡ value_of g h
same-value f g h e = by_code f h ∙ (λ i. value_by (eqb-true (code f) (code g) e i) h) ∙ sym (by_code g h)

-- a test that holds tells that another doesn't
abbrev pub refutes : Test → Test → Bool
refutes (Is f a) (Is g b) = same f g && not (eqb a b)
refutes (Is f a) (IsNot g b) = same f g && eqb a b
refutes (IsNot f a) (Is g b) = same f g && eqb a b
refutes (IsNot f a) (IsNot g b) = false

-- a test that holds tells that another does
abbrev pub implies : Test → Test → Bool
implies (Is f a) (Is g b) = same f g && eqb a b
implies (Is f a) (IsNot g b) = same f g && not (eqb a b)
implies (IsNot f a) (Is g b) = false
implies (IsNot f a) (IsNot g b) = same f g && eqb a b

pub and_true : (a b : Bool) → (a && b) ≡ true → (a ≡ true) × (b ≡ true)
and_true true b h = (refl, h)
and_true false b h = absurd (false≢true h)

or_true : (a b : Bool) → (a || b) ≡ true → (a ≡ true) ⊎ (b ≡ true)
or_true true b h = inl refl
or_true false b h = inr h

is_other : (x y a b : ℕ) → x ≡ y → eqb x a ≡ true → not (eqb a b) ≡ true → eqb y b ≡ false
is_other x y a b e p q = grind (arith, nat_tests)

is_same : (x y a b : ℕ) → x ≡ y → eqb x a ≡ true → eqb a b ≡ true → not (eqb y b) ≡ false
is_same x y a b e p q = grind (arith, nat_tests)

isnt_same : (x y a b : ℕ) → x ≡ y → not (eqb x a) ≡ true → eqb a b ≡ true → eqb y b ≡ false
isnt_same x y a b e p q = grind (arith, nat_tests)

refutes-holds : (h : ℕ) (k t : Test) → holds h k ≡ true → refutes k t ≡ true → holds h t ≡ false
refutes-holds h (Is f a) (Is g b) k r = let both = and_true (same f g) (not (eqb a b)) r in is_other (value_of f h) (value_of g h) a b (same-value f g h both.0) k both.1
refutes-holds h (Is f a) (IsNot g b) k r = let both = and_true (same f g) (eqb a b) r in is_same (value_of f h) (value_of g h) a b (same-value f g h both.0) k both.1
refutes-holds h (IsNot f a) (Is g b) k r = let both = and_true (same f g) (eqb a b) r in isnt_same (value_of f h) (value_of g h) a b (same-value f g h both.0) k both.1
refutes-holds h (IsNot f a) (IsNot g b) k r = absurd (false≢true r)

then_is : (x y a b : ℕ) → x ≡ y → eqb x a ≡ true → eqb a b ≡ true → eqb y b ≡ true
then_is x y a b e p q = grind (arith, nat_tests)

then_isnt : (x y a b : ℕ) → x ≡ y → eqb x a ≡ true → not (eqb a b) ≡ true → not (eqb y b) ≡ true
then_isnt x y a b e p q = grind (arith, nat_tests)

still_isnt : (x y a b : ℕ) → x ≡ y → not (eqb x a) ≡ true → eqb a b ≡ true → not (eqb y b) ≡ true
still_isnt x y a b e p q = grind (arith, nat_tests)

implies-holds : (h : ℕ) (k t : Test) → holds h k ≡ true → implies k t ≡ true → holds h t ≡ true
implies-holds h (Is f a) (Is g b) k r = let both = and_true (same f g) (eqb a b) r in then_is (value_of f h) (value_of g h) a b (same-value f g h both.0) k both.1
implies-holds h (Is f a) (IsNot g b) k r = let both = and_true (same f g) (not (eqb a b)) r in then_isnt (value_of f h) (value_of g h) a b (same-value f g h both.0) k both.1
implies-holds h (IsNot f a) (Is g b) k r = absurd (false≢true r)
implies-holds h (IsNot f a) (IsNot g b) k r = let both = and_true (same f g) (eqb a b) r in still_isnt (value_of f h) (value_of g h) a b (same-value f g h both.0) k both.1

-- ---- the rows that tests leave which hold

abbrev pub AllHold : ℕ → List Test → Type 0
AllHold h [] = Unit {0}
AllHold h (k ∷ ks) = (holds h k ≡ true) × AllHold h ks

abbrev pub is_refuted : List Test → Test → Bool
is_refuted [] t = false
is_refuted (k ∷ ks) t = refutes k t || is_refuted ks t

abbrev pub any_refuted : List Test → List Test → Bool
any_refuted ks [] = false
any_refuted ks (t ∷ ts) = is_refuted ks t || any_refuted ks ts

abbrev pub is_implied : List Test → Test → Bool
is_implied [] t = false
is_implied (k ∷ ks) t = implies k t || is_implied ks t

abbrev pub all_implied : List Test → List Test → Bool
all_implied ks [] = true
all_implied ks (t ∷ ts) = is_implied ks t && all_implied ks ts

-- the instruction that the first row gives that these tests leave
abbrev pub left_by : List Test → List Row → ℕ → Option Instr
left_by ks [] h = None
left_by ks (r ∷ rs) h =
    cond (any_refuted ks r.0) (left_by ks rs h) (cond (all_implied ks r.0) (Some (r.1 h)) (cond (fits h r.0) (Some (r.1 h)) (left_by ks rs h)))

is_refuted-holds : (h : ℕ) (ks : List Test) (t : Test) → AllHold h ks → is_refuted ks t ≡ true → holds h t ≡ false
is_refuted-holds h [] t a e = absurd (false≢true e)
is_refuted-holds h (k ∷ ks) t a e = ⊎_elim (λ here. refutes-holds h k t a.0 here) (λ there. is_refuted-holds h ks t a.1 there) (or_true (refutes k t) (is_refuted ks t) e)

pub any_refuted-fits : (h : ℕ) (ks ts : List Test) → AllHold h ks → any_refuted ks ts ≡ true → fits h ts ≡ false
any_refuted-fits h ks [] a e = absurd (false≢true e)
any_refuted-fits h ks (t ∷ ts) a e =
    ⊎_elim
    (λ here. λ i. is_refuted-holds h ks t a here i && fits h ts)
    (λ there. (λ i. holds h t && any_refuted-fits h ks ts a there i) ∙ and_false (holds h t))
    (or_true (is_refuted ks t) (any_refuted ks ts) e)
  where
    and_false : (b : Bool) → (b && false) ≡ false
    and_false true = refl
    and_false false = refl

is_implied-holds : (h : ℕ) (ks : List Test) (t : Test) → AllHold h ks → is_implied ks t ≡ true → holds h t ≡ true
is_implied-holds h [] t a e = absurd (false≢true e)
is_implied-holds h (k ∷ ks) t a e = ⊎_elim (λ here. implies-holds h k t a.0 here) (λ there. is_implied-holds h ks t a.1 there) (or_true (implies k t) (is_implied ks t) e)

all_implied-fits : (h : ℕ) (ks ts : List Test) → AllHold h ks → all_implied ks ts ≡ true → fits h ts ≡ true
all_implied-fits h ks [] a e = refl
all_implied-fits h ks (t ∷ ts) a e =
    let both = and_true (is_implied ks t) (all_implied ks ts) e in
    λ i. is_implied-holds h ks t a both.0 i && all_implied-fits h ks ts a both.1 i

chosen : {A : Type 0} (refuted implied met : Bool) (here rest : A) → (refuted ≡ true → met ≡ false) → (implied ≡ true → met ≡ true)
    → cond refuted rest (cond implied here (cond met here rest)) ≡ cond met here rest
chosen true implied met here rest isnt_so is_so = λ i. cond (sym (isnt_so refl) i) here rest
chosen false true met here rest isnt_so is_so = λ i. cond (sym (is_so refl) i) here rest
chosen false false met here rest isnt_so is_so = refl

left_by-rows : (ks : List Test) (h : ℕ) (rs : List Row) → AllHold h ks → left_by ks rs h ≡ compressed_by rs h
left_by-rows ks h [] a = refl
left_by-rows ks h (r ∷ rs) a =
    (λ i. cond (any_refuted ks r.0) (left_by-rows ks h rs a i) (cond (all_implied ks r.0) (Some (r.1 h)) (cond (fits h r.0) (Some (r.1 h)) (left_by-rows ks h rs a i))))
    ∙ chosen (any_refuted ks r.0) (all_implied ks r.0) (fits h r.0) (Some (r.1 h)) (compressed_by rs h) (λ e. any_refuted-fits h ks r.0 a e) (λ e. all_implied-fits h ks r.0 a e)

-- a number is the instruction that is left by what is known of it
pub left_by-is : (ks : List Test) (h : ℕ) → AllHold h ks → left_by ks table h ≡ compressed h
left_by-is ks h a = left_by-rows ks h table a ∙ compressed_by-table h

-- ---- tests that hold

pub is : (x n : ℕ) → x ≡ n → eqb x n ≡ true
is x n e = eq-eqb x n e

pub isnt : (x n : ℕ) → x ≢ n → not (eqb x n) ≡ true
isnt x n ne = by_test (eqb x n) refl
  where
    by_test : (t : Bool) → eqb x n ≡ t → not t ≡ true
    by_test true e = absurd (ne (eqb-true x n e))
    by_test false e = refl
