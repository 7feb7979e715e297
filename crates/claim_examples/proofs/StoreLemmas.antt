-- `sb x10, 0(x11)` and a return.
use Rattle.std.proofs.Common.{◌≡◌, ℕ, Bool, true, false, Option, Some, None, [], ◌∷◌, refl, sym, ap, subst, ◌∙◌, arith}
use Rattle.std.specs.Prelude.{is_some, ◌==◌, ◌||◌, if◌then◌else◌, slice_index_or, unwrap_or}
use Rattle.std.proofs.lemmas.Bool.{eqb-true}
use Rattle.rv_words.specs.Bytes.{Bytes, put_byte}
use Rattle.rv_words.specs.Ranges.{range_bytes}
use Rattle.elf_image.specs.Header.{number_at}
use Rattle.elf_image.specs.Image.{code_of_file}
use Rattle.rv_decode.specs.Decodes.{decoded}
use Rattle.rv_machine.specs.State.{State}
use Rattle.rv_machine.specs.Step.{step}
use Rattle.rv_machine.specs.Run.{run}
use Rattle.tailrec_lang.specs.Tree.{BodyTree, listed_def}
use Rattle.tailrec_lang.specs.Eval.{Arguments, Done, eval}
use Rattle.code_gen.specs.ElfFile.{elf_of}
use Rattle.claims.specs.Headline.{IsRight, Starts, cut, held_in, is_within}
use Rattle.claim_examples.specs.Store.{at_place, keeps, memory_with, place, quiet, store_file, store_registers, store_start, stores, storing}
use Rattle.claim_examples.proofs.Ends.{only-end}

same-code : code_of_file store_file ≡ range_bytes stores.code
unfolding number_at elf_of
same-code = refl

none-there : (b : ℕ) → None ≡ Some b → (A : Type 0) → A
none-there b e A = absurd (cc)

-- the place is no address of the code
beside : (a b : ℕ) (f : Bool) → (a == place) ≡ f → range_bytes stores.code a ≡ Some b → (a == place) ≡ false
beside a b true e at = none-there b (subst (λ (q : ℕ). range_bytes stores.code q ≡ Some b) (eqb-true a place e) at) _
beside a b false e at = e

or_none : Bool → Bool
or_none x = x || false

not-within : (a b : ℕ) → range_bytes stores.code a ≡ Some b → is_within (at_place ∷ []) a ≡ false
unfolding or_none
not-within a b at = let no = beside a b (a == place) refl at in λ i. or_none (no i)

held : (a b : ℕ) → range_bytes stores.code a ≡ Some b → memory_with 7 a ≡ code_of_file store_file a
held a b at = let no = beside a b (a == place) refl at in (λ i. if no i then Some 7 else range_bytes stores.code a) ∙ (λ i. sym same-code i a)

there : (a : ℕ) (f : Bool) → (a == place) ≡ f → is_within (at_place ∷ []) a ≡ true → is_some (memory_with 7 a) ≡ true
unfolding or_none
there a true e within = λ i. is_some (if e i then Some 7 else range_bytes stores.code a)
there a false e within = nowhere (sym (λ i. or_none (e i)) ∙ within)
  where
    nowhere : false ≡ true → is_some (memory_with 7 a) ≡ true
    nowhere h = absurd (cc)

-- whatever its body is
starts : (body : BodyTree) → Starts store_file (storing 1 body) store_start (at_place ∷ [])
starts body = record {
  entry = refl;
  code = λ a b at. held a b at;
  count = refl;
  present = λ a within. there a (a == place) refl within;
  beside_code = λ a b at. not-within a b at;
  apart = λ i j d before there. absurd (omega arith);
}

pub store-starts : Starts store_file stores store_start (at_place ∷ [])
store-starts = starts _

pub keeps-starts : Starts store_file keeps store_start (at_place ∷ [])
keeps-starts = starts _

-- ---- the run

stored : State
stored = record { pc = 0x10004; reg = store_registers; mem = put_byte (memory_with 7) place 2 }

returned : State
returned = record { pc = 0x2000; reg = store_registers; mem = put_byte (memory_with 7) place 2 }

first-step : step store_start ≡ Some stored
unfolding step decoded stored
first-step = refl

second-step : step stored ≡ Some returned
unfolding step decoded stored returned
second-step = refl

third-step : step returned ≡ None
unfolding step decoded returned
third-step = refl

-- ---- functions that are wrong

abbrev begun : ℕ
begun = 0x10000

abbrev on : ℕ
on = 0x10004

not-begun : begun ≡ 0x2000 → ⊥
not-begun e = omega (arith, e)

not-on : on ≡ 0x2000 → ⊥
not-on e = omega (arith, e)

abbrev byte_of : Option ℕ → ℕ
byte_of o = unwrap_or o 0

abbrev two : ℕ
two = 2

two-seven : two ≡ 7 → ⊥
two-seven e = omega (arith, e)

-- where the machine comes to the address of the return, 2 is at the place
two-at-end : (k : ℕ) (t : State) → run store_start k ≡ Some t → t.pc ≡ 0x2000 → t.mem place ≡ Some 7 → ⊥
unfolding stored returned
two-at-end k t e at seven =
    let end = only-end store_start stored returned first-step second-step third-step k t e (λ h. not-begun (h ∙ at)) (λ h. not-on (h ∙ at)) in
    two-seven (ap (λ (s : State). byte_of (s.mem place)) end ∙ ap byte_of seven)

abbrev kept_results : Arguments
kept_results = record { words = 0x2000 ∷ 2 ∷ place ∷ []; mems = cut (memory_with 7) at_place ∷ [] }

keeps-done : eval keeps (listed_def keeps) (held_in store_start keeps (at_place ∷ [])) 1 ≡ Done 0 0x2000 kept_results 0
keeps-done = refl

no-bytes : Bytes
no-bytes a = None

pub keeps-refuted : IsRight store_file keeps → ⊥
keeps-refuted right =
    let end = right store_start (at_place ∷ []) (starts _) 1 0 0x2000 0 kept_results keeps-done in
    two-at-end end.1.steps end.0 end.1.ran end.2.pc (ap (λ (x : Arguments). slice_index_or x.mems 0 no-bytes place) end.2.results)

quiet-starts : Starts store_file quiet store_start []
quiet-starts = record {
  entry = refl;
  code = λ a b at. held a b at;
  count = refl;
  present = λ a e. none_within e _;
  beside_code = λ a b at. refl;
  apart = λ i j d before there. absurd (omega arith);
}
  where
    none_within : false ≡ true → (A : Type 0) → A
    none_within e A = absurd (cc)

abbrev quiet_results : Arguments
quiet_results = record { words = 0x2000 ∷ 2 ∷ place ∷ []; mems = [] }

quiet-done : eval quiet (listed_def quiet) (held_in store_start quiet []) 1 ≡ Done 0 0x2000 quiet_results 0
quiet-done = refl

pub quiet-refuted : IsRight store_file quiet → ⊥
quiet-refuted right =
    let end = right store_start [] quiet-starts 1 0 0x2000 0 quiet_results quiet-done in
    two-at-end end.1.steps end.0 end.1.ran end.2.pc (end.2.bytes place refl)
