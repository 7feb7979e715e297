-- The run of a function with a stack access and one that is none.
use Rattle.std.proofs.Common.{◌≡◌, ◌⊎◌, inl, inr, ℕ, zero, suc, ◌+◌, ◌<◌, Bool, true, false, Option, Some, None, [], ◌∷◌, Contains, refl, sym, ap, subst, ◌∙◌, arith}
use Rattle.std.specs.Prelude.{AllPairs, is_some, Ok, Result, ◌==◌, ◌||◌, if◌then◌else◌, slice_get, slice_index_or, unwrap_or, option_map, pos, neg_ℤ, IsSomeAnd}
use Rattle.std.proofs.lemmas.Bool.{eqb-true}
use Rattle.rv_words.specs.Bytes.{Bytes, put_byte}
use Rattle.rv_words.specs.Ranges.{range_bytes}
use Rattle.rv_words.specs.declared.width.Width.TheVariants.{B1}
use Rattle.elf_image.specs.Header.{number_at}
use Rattle.elf_image.specs.Image.{code_of_file}
use Rattle.rv_decode.specs.declared.instruction.Instr.{Instr}
use Rattle.rv_decode.specs.declared.instruction.Instr.TheVariants as instr
use Rattle.rv_decode.specs.Decodes.{decoded}
use Rattle.rv_machine.specs.State.{State}
use Rattle.rv_machine.specs.Step.{instruction_at, step}
use Rattle.rv_machine.specs.Touches.{IsTouched, touched}
use Rattle.flow_graph.specs.Flow.{length_in, look, targets}
use Rattle.flow_graph.specs.declared.outside.Outside.{Outside}
use Rattle.stack_offsets.specs.Offsets.{IsFollowed, AtEntry, Behind, IsStackAccess, LeadsIn, Offsets, entry_offsets, base_of, offsets_after}
use Rattle.tailrec_lang.specs.Tree.{BodyTree}
use Rattle.tailrec_lang.specs.Eval.{Arguments, Outcome, Done}
use Rattle.code_gen.specs.ElfFile.{elf_of}
use Rattle.claims.specs.Headline.{AreApart, Ends, Starts, cut, held_in, is_within}
use Rattle.claims.specs.Exact.{Gives}
use Rattle.claims.specs.LinkExact.{FirstReturnsIn}
use Rattle.stack_offsets.specs.SplitExact.{SplitExact, UsesSplit}
use Rattle.claim_examples.specs.Store.{at_place, place}
use Rattle.claim_examples.proofs.Paths.{IsPath, first-along-in}
use Rattle.claim_examples.specs.Split.{all_in_first, at_stack, split_file, split_memory, split_registers, split_start, splitting, stack_place, stores_apart, two_regions}

abbrev code : Bytes
code = range_bytes stores_apart.code

same-code : code_of_file split_file ≡ code
unfolding number_at elf_of
same-code = refl

-- ---- which of them is a stack access

abbrev instructions : ℕ → Instr
instructions zero = instr.Store B1 2 10 (neg_ℤ (pos 8))
instructions (suc zero) = instr.Store B1 11 10 (pos 0)
instructions (suc (suc j)) = instr.Jalr 0 1 (pos 0)

first-look : look false code 0x10000 ≡ Ok (instructions 0)
unfolding look decoded
first-look = refl

second-look : look false code 0x10004 ≡ Ok (instructions 1)
unfolding look decoded
second-look = refl

third-look : look false code 0x10008 ≡ Ok (instructions 2)
unfolding look decoded
third-look = refl

one-found : (i j : Instr) → ◌≡◌ {A = Result Instr Outside} (Ok i) (Ok j) → i ≡ j
one-found i j e = cc

-- one of the three addresses, with the offsets of the entry
abbrev IsKnown : ℕ → Offsets → Type 0
IsKnown a o = (o ≡ entry_offsets) × ((a ≡ 0x10000) ⊎ ((a ≡ 0x10004) ⊎ (a ≡ 0x10008)))

one-target : (x b : ℕ) → Contains (x ∷ []) b → b ≡ x
one-target x b (zero, l, e) = sym e
one-target x b (suc k, l, e) = absurd (omega (arith, l))

no-target : (b : ℕ) → Contains {X = ℕ} [] b → ⊥
no-target b (k, l, e) = omega (arith, l)

-- where the instruction that stands at p leads from a, which is p
leads-from : (p a b : ℕ) (i j : Instr) → look false code p ≡ Ok j → a ≡ p → LeadsIn code a i b → (j ≡ i) × Contains (targets p (length_in code p) j) b
leads-from p a b i j stands e (at, goes) =
    let is : j ≡ i = one-found j i (sym stands ∙ subst (λ q. look false code q ≡ Ok i) e at) in
    let there : Contains (targets p (length_in code p) i) b = subst (λ q. Contains (targets q (length_in code q) i) b) e goes in
    (is, subst (λ k. Contains (targets p (length_in code p) k) b) (sym is) there)

after-known : (a b : ℕ) (i : Instr) (o : Offsets) → IsKnown a o → LeadsIn code a i b → IsKnown b (offsets_after i o)
after-known a b i o (same, inl e) leads =
    let led = leads-from 0x10000 a b i (instructions 0) first-look e leads in
    (ap (λ k. offsets_after k o) (sym led.0) ∙ same, inr (inl (one-target 0x10004 b led.1)))
after-known a b i o (same, inr (inl e)) leads =
    let led = leads-from 0x10004 a b i (instructions 1) second-look e leads in
    (ap (λ k. offsets_after k o) (sym led.0) ∙ same, inr (inr (one-target 0x10008 b led.1)))
after-known a b i o (same, inr (inr e)) leads =
    let led = leads-from 0x10008 a b i (instructions 2) third-look e leads in
    absurd (no-target b led.1)

known : (a : ℕ) (o : Offsets) → IsFollowed (LeadsIn code) 0x10000 a o → IsKnown a o
known a o AtEntry = (refl, inl refl)
known b w (Behind a next i o walk leads) = after-known a next i o (known a o walk) leads

is-stack : IsStackAccess code 0x10000 0x10000
is-stack = record {
  instruction = instructions 0;
  is = first-look;
  base = 2;
  has_base = refl;
  offset = 0;
  has_offset = λ o walk. ap (λ (f : Offsets). f 2) (known 0x10000 o walk).0;
}

walk-to-second : IsFollowed (LeadsIn code) 0x10000 0x10004 (offsets_after (instructions 0) entry_offsets)
walk-to-second = Behind 0x10000 0x10004 (instructions 0) entry_offsets AtEntry (first-look, (0, omega arith, refl))

no-offset : (r base c : ℕ) → Some r ≡ Some base → (entry_offsets r ≡ None) → entry_offsets base ≡ Some c → ⊥
no-offset r base c is none has =
    let same : r ≡ base = one r base is in
    clash (sym none ∙ (ap entry_offsets same ∙ has))
  where
    one : (x y : ℕ) → Some x ≡ Some y → x ≡ y
    one x y e = ap (λ o. unwrap_or o x) e

    clash : None ≡ Some c → ⊥
    clash e = cc

no-stack : IsStackAccess code 0x10000 0x10004 → ⊥
no-stack access =
    let is : instructions 1 ≡ access.instruction = one-found (instructions 1) access.instruction (sym second-look ∙ access.is) in
    no-offset 11 access.base access.offset (ap base_of is ∙ access.has_base) refl (access.has_offset (offsets_after (instructions 0) entry_offsets) walk-to-second)

-- ---- the run

abbrev stored : State
stored = record { pc = 0x10004; reg = split_registers; mem = put_byte split_memory stack_place 2 }

abbrev both_stored : Bytes
both_stored = put_byte (put_byte split_memory stack_place 2) place 2

abbrev returned : State
returned = record { pc = 0x2000; reg = split_registers; mem = both_stored }

abbrev stands : ℕ → State
stands zero = split_start
stands (suc zero) = stored
stands (suc (suc zero)) = record { pc = 0x10008; reg = split_registers; mem = both_stored }
stands (suc (suc (suc j))) = returned

split-path : IsPath 2 stands instructions
unfolding step decoded
split-path = record { steps = steps; fetched = fetched; last = refl; first = first }
  where
    steps : (j : ℕ) → j < 3 → step (stands j) ≡ Some (stands (j + 1))
    steps zero lt = refl
    steps (suc zero) lt = refl
    steps (suc (suc zero)) lt = refl
    steps (suc (suc (suc j))) lt = absurd (omega arith)

    fetched : (j : ℕ) → j < 3 → instruction_at (stands j) ≡ Some (instructions j)
    fetched zero lt = refl
    fetched (suc zero) lt = refl
    fetched (suc (suc zero)) lt = refl
    fetched (suc (suc (suc j))) lt = absurd (omega arith)

    first : (j : ℕ) → j < 2 → instructions j ≡ instr.Jalr 0 1 (pos 0) → ⊥
    first zero lt e = cc
    first (suc zero) lt e = cc
    first (suc (suc j)) lt e = omega (arith, lt)

within-its : (j : ℕ) → j < 3 → (q a : ℕ) → UsesSplit code 0x10000 (stands j).pc q → IsTouched (touched (instructions j) (stands j)) a
    → IsSomeAnd (slice_get two_regions q) (λ region. region a ≡ true)
within-its zero lt q a (inl (e, access)) (zero, l, at) = subst (λ n. IsSomeAnd (slice_get two_regions n) (λ region. region a ≡ true)) (sym e) (ap at_stack at)
within-its zero lt q a (inl (e, access)) (suc k, l, at) = absurd (omega (arith, l))
within-its zero lt q a (inr (e, none)) touch = absurd (none is-stack)
within-its (suc zero) lt q a (inl (e, access)) touch = absurd (no-stack access)
within-its (suc zero) lt q a (inr (e, none)) (zero, l, at) = subst (λ n. IsSomeAnd (slice_get two_regions n) (λ region. region a ≡ true)) (sym e) (ap at_place at)
within-its (suc zero) lt q a (inr (e, none)) (suc k, l, at) = absurd (omega (arith, l))
within-its (suc (suc j)) lt q a uses (k, l, at) = absurd (omega (arith, l))

first-returns : FirstReturnsIn (UsesSplit (code_of_file split_file) 0x10000) two_regions split_start 3 returned
first-returns =
    subst (λ c. FirstReturnsIn (UsesSplit c 0x10000) two_regions split_start 3 returned) (sym same-code)
    (first-along-in 2 stands instructions split-path (UsesSplit code 0x10000) two_regions within-its)

-- ---- what evaluation gives

-- what is at an address, by whether it is the first place, whether it is the second, and what the code has there
abbrev before : Bool → Bool → Option ℕ → Option ℕ
before s t o = if s then Some 7 else (if t then Some 7 else o)

abbrev put : Bool → Option ℕ → Option ℕ
put s o = if s then option_map (λ _. 2) o else o

abbrev behind : Bool → Bool → Option ℕ → Option ℕ
behind s t o = put s (put t (before s t o))

first-cut : (s t : Bool) (o : Option ℕ) → (if s then behind s t o else None) ≡ put s (if s then before s t o else None)
first-cut true true o = refl
first-cut true false o = refl
first-cut false t o = refl

second-cut : (s t : Bool) (o : Option ℕ) → (if t then behind s t o else None) ≡ put t (if t then before s t o else None)
second-cut true true o = refl
second-cut false true o = refl
second-cut s false o = refl

outside : (s t : Bool) (o : Option ℕ) → (s || (t || false)) ≡ false → behind s t o ≡ before s t o
outside true t o e = absurd (cc)
outside false true o e = absurd (cc)
outside false false o e = refl

as-present : (s t : Bool) (o : Option ℕ) → is_some (behind s t o) ≡ is_some (before s t o)
as-present true true o = refl
as-present true false o = refl
as-present false true o = refl
as-present false false o = refl

abbrev split_results : Arguments
split_results = record {
  words = 0x2000 ∷ 0x40008 ∷ 2 ∷ place ∷ [];
  mems = put_byte (cut split_memory at_place) place 2 ∷ put_byte (cut split_memory at_stack) stack_place 2 ∷ [];
}

same-results : held_in returned stores_apart two_regions ≡ split_results
same-results = λ i. record {
  words = 0x2000 ∷ 0x40008 ∷ 2 ∷ place ∷ [];
  mems = (λ a. first-cut (a == place) (a == stack_place) (code a) i) ∷ (λ a. second-cut (a == place) (a == stack_place) (code a) i) ∷ [];
}

ended : Ends stores_apart two_regions split_start 0x2000 split_results returned
ended = record {
  pc = refl;
  results = same-results;
  registers = λ r small never. refl;
  bytes = λ a e. outside (a == place) (a == stack_place) (code a) e;
  present = λ a. as-present (a == place) (a == stack_place) (code a);
}

gives : Gives stores_apart two_regions split_start 6 returned
gives = record { exit = 0; pc = 0x2000; results = split_results; left = 5; done = refl; return = refl; ends = ended }

pub split-returned : (t : State) × FirstReturnsIn (UsesSplit (code_of_file split_file) 0x10000) two_regions split_start 3 t
    × Gives stores_apart two_regions split_start 6 t
split-returned = (returned, first-returns, gives)

-- ---- a function that is wrong

none-there : (b : ℕ) → None ≡ Some b → (A : Type 0) → A
none-there b e A = absurd (cc)

-- neither place is an address of the code
beside-first : (a b : ℕ) (f : Bool) → (a == place) ≡ f → code a ≡ Some b → (a == place) ≡ false
beside-first a b true e at = none-there b (subst (λ (q : ℕ). code q ≡ Some b) (eqb-true a place e) at) _
beside-first a b false e at = e

beside-second : (a b : ℕ) (f : Bool) → (a == stack_place) ≡ f → code a ≡ Some b → (a == stack_place) ≡ false
beside-second a b true e at = none-there b (subst (λ (q : ℕ). code q ≡ Some b) (eqb-true a stack_place e) at) _
beside-second a b false e at = e

held : (a b : ℕ) → code a ≡ Some b → split_memory a ≡ code_of_file split_file a
held a b at =
    let s = beside-first a b (a == place) refl at in
    let t = beside-second a b (a == stack_place) refl at in
    (λ i. before (s i) (t i) (code a)) ∙ (λ i. sym same-code i a)

not-within : (a b : ℕ) → code a ≡ Some b → is_within two_regions a ≡ false
not-within a b at =
    let s = beside-first a b (a == place) refl at in
    let t = beside-second a b (a == stack_place) refl at in
    λ i. s i || (t i || false)

there : (s t : Bool) (o : Option ℕ) → (s || (t || false)) ≡ true → is_some (before s t o) ≡ true
there true t o e = refl
there false true o e = refl
there false false o e = absurd (cc)

places-apart : AreApart at_place at_stack
places-apart a at = ap at_stack (eqb-true a place at)

each-apart : AllPairs AreApart two_regions
each-apart zero (suc zero) d before small = places-apart
each-apart zero zero d before small = absurd (omega arith)
each-apart (suc i) (suc zero) d before small = absurd (omega arith)
each-apart (suc i) zero d before small = absurd (omega arith)
each-apart i (suc (suc j)) d before small = absurd (omega (arith, small))

starts : (body : BodyTree) → Starts split_file (splitting body) split_start two_regions
starts body = record {
  entry = refl;
  code = λ a b at. held a b at;
  count = refl;
  present = λ a within. there (a == place) (a == stack_place) (code a) within;
  beside_code = λ a b at. not-within a b at;
  apart = each-apart;
}

abbrev no_bytes : Bytes
no_bytes a = None

abbrev on_stack : Arguments → ℕ
on_stack x = unwrap_or (slice_index_or x.mems 1 no_bytes stack_place) 0

abbrev left_on_stack : Outcome → ℕ
left_on_stack (Done exit pc results left) = on_stack results
left_on_stack _ = 0

abbrev two : ℕ
two = 2

two-seven : two ≡ 7 → ⊥
two-seven e = omega (arith, e)

pub all-in-first-lost : SplitExact split_file 0x10000 all_in_first → ⊥
all-in-first-lost exact =
    let given = exact split_start two_regions (starts _) 3 returned first-returns in
    two-seven (ap on_stack given.ends.results ∙ sym (ap left_on_stack given.done))
