-- A script that divides as numbers without a sign: what it tells, and what it doesn't.
use Rattle.std.proofs.Common.{◌≡◌, ℕ, zero, suc, ◌-◌, ◌<◌, ◌≤◌, List, [], ◌∷◌, ◌++◌, refl, sym, ap, subst, ◌∙◌, arith, cond, eqb}
use Rattle.std.specs.Prelude.{codes, slice_index_or, ◌^◌, ◌/◌, pos, map, length}
use Rattle.std.specs.Fmt.{digits}
use Rattle.std.specs.List.{AllByRecursion, Contains}
use Rattle.std.proofs.Math.Nat.{div-le_self}
use Rattle.rv_words.specs.Bytes.{Bytes}
use Rattle.rv_words.specs.Operation.{quotient, word_of}
use Rattle.tailrec_lang.specs.Eval.{Arguments, eval}
use Rattle.smt_terms.specs.Expression.{Atom, apply, literal, word}
use Rattle.smt_terms.specs.Operators.{Value, Bits, unsorted}
use Rattle.smt_terms.specs.Meaning.{FunTree, applied, functions_after, no_names}
use Rattle.smt_export.specs.declared.told.Told.{Told}
use Rattle.smt_export.specs.declared.told.Told.TheVariants.{Ok, ExitNumber, Pc, WordAt, MemAt, DomAt}
use Rattle.smt_export.specs.Told.{fun_name, params, told_sort, word_name}
use Rattle.smt_export.specs.Telling.{AreArrays, AreArgumentValues, HasFuns, IsToldOf, TellsEval, TellsOutcome}
use Rattle.claim_examples.specs.Words.{dividing_script, signed_division, telling, unsigned_division, word_group}

-- what a function of the script gives
abbrev given : List Value → Told → Value
given vs t = applied (functions_after no_names dividing_script) (fun_name 0 t) vs

divided : (a b : ℕ) → a < 2 ^ 64 → cond (eqb b 0) (2 ^ 64 - 1) (a / b) ≡ word_of (quotient (pos a) (pos b))
divided a zero h = refl
divided a (suc n) h = by_suc ∙ omega (arith, small)
  where
    by_suc : cond (eqb (suc n) 0) (2 ^ 64 - 1) (a / suc n) ≡ a / suc n
    by_suc = grind arith

    small : a / suc n ≤ a
    small = div-le_self a (suc n)

at-two : (n a b : ℕ) → a < 2 ^ 64 → TellsOutcome (word_group unsigned_division) (eval (word_group unsigned_division) 0 (record { words = a ∷ b ∷ []; mems = [] }) n) (given (Bits 64 a ∷ Bits 64 b ∷ []))
unfolding digits
at-two zero a b h = tt
at-two (suc n) a b h = (refl, refl, refl, ap (λ (k : ℕ). Bits 64 k ∷ Bits 64 b ∷ []) (divided a b h), tt)

at-any : (n : ℕ) (words : List ℕ) (mems : List Bytes) (arrays : List Value) → length words ≡ 2 → length mems ≡ 0 → AreArrays mems arrays → AllByRecursion (λ w. w < 2 ^ 64) words
    → TellsOutcome (word_group unsigned_division) (eval (word_group unsigned_division) 0 (record { words = words; mems = mems }) n) (given (map (Bits 64) words ++ arrays))
at-any n (a ∷ b ∷ []) [] [] two none there (h, rest) = at-two n a b h
at-any n (a ∷ b ∷ []) [] (v ∷ vs) two none there range = absurd there
at-any n (a ∷ b ∷ []) (m ∷ ms) arrays two none there range = absurd (omega (arith, none))
at-any n (a ∷ b ∷ c ∷ more) mems arrays two none there range = absurd (omega (arith, two))
at-any n (a ∷ []) mems arrays two none there range = absurd (omega (arith, two))
at-any n [] mems arrays two none there range = absurd (omega (arith, two))

pub unsigned-told : TellsEval (word_group unsigned_division) 0 dividing_script
unsigned-told x n vs are =
    subst (λ us. TellsOutcome (word_group unsigned_division) (eval (word_group unsigned_division) 0 x n) (given us)) (sym are.is)
    (at-any n x.words x.mems are.arrays are.words_count are.mems_count are.mems are.range.words)

-- ---- sorts

pub signed-sorts : HasFuns (word_group signed_division) dividing_script 0
unfolding digits
signed-sorts = record { there = there }
  where
    there : (t : Told) → IsToldOf (word_group signed_division) t
        → (f : FunTree) × Contains dividing_script f × (f.name ≡ fun_name 0 t) × (f.params ≡ params (word_group signed_division)) × (f.sort ≡ told_sort t)
    there Ok told = (telling Ok (Atom (codes "true")), (0, omega arith, refl), refl, refl, refl)
    there ExitNumber told = (telling ExitNumber (literal (codes "32") (codes "0")), (1, omega arith, refl), refl, refl, refl)
    there Pc told = (telling Pc (word 0x10004), (2, omega arith, refl), refl, refl, refl)
    there (WordAt zero) told = (telling (WordAt 0) (apply (codes "bvudiv") (Atom (word_name 0) ∷ Atom (word_name 1) ∷ [])), (3, omega arith, refl), refl, refl, refl)
    there (WordAt (suc zero)) told = (telling (WordAt 1) (Atom (word_name 1)), (4, omega arith, refl), refl, refl, refl)
    there (WordAt (suc (suc i))) told = absurd (omega (arith, told))
    there (MemAt i) told = absurd (omega (arith, told))
    there (DomAt i) told = absurd (omega (arith, told))

-- ---- with a sign

-- -4 and 2
abbrev minus_four : Arguments
minus_four = record { words = 0xffff_ffff_ffff_fffc ∷ 2 ∷ []; mems = [] }

minus-four-values : AreArgumentValues (word_group signed_division) minus_four (Bits 64 0xffff_ffff_ffff_fffc ∷ Bits 64 2 ∷ [])
minus-four-values = record {
  arrays = [];
  is = refl;
  mems = tt;
  words_count = refl;
  mems_count = refl;
  range = record { words = (omega arith, (omega arith, tt)); mems = tt };
}

abbrev number_of : Value → ℕ
number_of (Bits w n) = n
number_of _ = 0

abbrev half_unsigned : ℕ
half_unsigned = 0x7fff_ffff_ffff_fffe

halves-differ : half_unsigned ≡ 0xffff_ffff_ffff_fffe → ⊥
halves-differ e = omega (arith, e)

pub signed-not-told : TellsEval (word_group signed_division) 0 dividing_script → ⊥
unfolding digits
signed-not-told tells =
    let told = tells minus_four 1 (Bits 64 0xffff_ffff_ffff_fffc ∷ Bits 64 2 ∷ []) minus-four-values in
    halves-differ (ap (λ (vs : List Value). number_of (slice_index_or vs 0 unsorted)) told.3)
