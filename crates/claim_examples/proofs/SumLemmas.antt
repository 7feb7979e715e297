-- `add x10, x10, x11` and a return.
use Rattle.std.proofs.Common.{◌≡◌, ℕ, zero, suc, Bool, true, false, Some, None, List, [], ◌∷◌, refl, sym, ap, ◌∙◌, arith}
use Rattle.std.specs.Prelude.{AllPairs, Contains, ◌==◌, if◌then◌else◌, slice_index, option_and_then}
use Rattle.std.proofs.lemmas.Bool.{eqb-true}
use Rattle.rv_words.specs.Ranges.{range_bytes}
use Rattle.elf_image.specs.Header.{number_at}
use Rattle.elf_image.specs.Image.{code_of_file}
use Rattle.rv_decode.specs.Decodes.{decoded}
use Rattle.rv_machine.specs.State.{State}
use Rattle.rv_machine.specs.Step.{step}
use Rattle.rv_machine.specs.Run.{run}
use Rattle.triple_kernel.specs.Valid.{Reaches}
use Rattle.tailrec_lang.specs.Tree.{BodyTree, listed_def}
use Rattle.tailrec_lang.specs.Eval.{Arguments, Done, eval}
use Rattle.code_gen.specs.ElfFile.{elf_of}
use Rattle.claims.specs.Headline.{AreApart, Ends, IsRight, Starts, held_in}
use Rattle.claim_examples.specs.Sum.{adding, narrow, sum, sum_file, sum_registers, sum_results, sum_start, wrong}
use Rattle.claim_examples.proofs.Ends.{only-end}

same-code : code_of_file sum_file ≡ range_bytes sum.code
unfolding number_at elf_of
same-code = refl

no-pairs : AllPairs AreApart []
no-pairs i j d before there = absurd (omega arith)

no-address : false ≡ true → (A : Type 0) → A
no-address e A = absurd (cc)

-- whatever its registers and its body are
pub starts : (regs : List ℕ) (body : BodyTree) → Starts sum_file (adding regs body) sum_start []
starts regs body = record {
  entry = refl;
  code = λ a b at. λ i. sym same-code i a;
  count = refl;
  present = λ a e. no-address e _;
  beside_code = λ a b at. refl;
  apart = no-pairs;
}

pub sum-starts : Starts sum_file sum sum_start []
sum-starts = starts _ _

pub sum-done : eval sum (listed_def sum) (held_in sum_start sum []) 1 ≡ Done 0 0x2000 (sum_results 5) 0
sum-done = refl

-- ---- the run

unfoldable pub added : State
added = record { pc = 0x10004; reg = λ r. if r == 10 then 5 else sum_registers r; mem = range_bytes sum.code }

unfoldable pub returned : State
returned = record { pc = 0x2000; reg = λ r. if r == 10 then 5 else sum_registers r; mem = range_bytes sum.code }

pub first-step : step sum_start ≡ Some added
unfolding step decoded added
first-step = refl

pub second-step : step added ≡ Some returned
unfolding step decoded added returned
second-step = refl

third-step : step returned ≡ None
unfolding step decoded returned
third-step = refl

pub two-steps : run sum_start 2 ≡ Some returned
unfolding run
two-steps = ap (λ o. option_and_then (λ t. option_and_then (λ u. Some u) (step t)) o) first-step ∙ ap (λ o. option_and_then (λ u. Some u) o) second-step

others-by : (r : ℕ) (f : Bool) → (r == 10) ≡ f → (Contains (1 ∷ 10 ∷ 11 ∷ []) r → ⊥) → returned.reg r ≡ sum_registers r
unfolding returned
others-by r true e never = absurd (never (1, omega arith, sym (eqb-true r 10 e)))
others-by r false e never = λ i. if e i then 5 else sum_registers r

pub sum-ended : Ends sum [] sum_start 0x2000 (sum_results 5) returned
unfolding returned
sum-ended = record {
  pc = refl;
  results = refl;
  registers = λ r small never. others-by r (r == 10) refl never;
  bytes = λ a e. refl;
  present = λ a. refl;
}

pub sum-ends : (t : State) × Reaches sum_start t × Ends sum [] sum_start 0x2000 (sum_results 5) t
sum-ends = (returned, record { steps = 2; ran = two-steps }, sum-ended)

-- ---- functions that are wrong

abbrev begun : ℕ
begun = 0x10000

abbrev on : ℕ
on = 0x10004

not-begun : begun ≡ 0x2000 → ⊥
not-begun e = omega (arith, e)

not-on : on ≡ 0x2000 → ⊥
not-on e = omega (arith, e)

-- where the machine comes to the address of the return, 5 is in x10
five-at-end : (k : ℕ) (t : State) → run sum_start k ≡ Some t → t.pc ≡ 0x2000 → returned.reg 10 ≡ t.reg 10
unfolding added
five-at-end k t e at =
    ap (λ (s : State). s.reg 10)
    (only-end sum_start added returned first-step second-step third-step k t e (λ h. not-begun (h ∙ at)) (λ h. not-on (h ∙ at)))

abbrev five : ℕ
five = 5

wrong-done : eval wrong (listed_def wrong) (held_in sum_start wrong []) 1 ≡ Done 0 0x2000 (sum_results 3) 0
wrong-done = refl

five-three : five ≡ 3 → ⊥
five-three e = omega (arith, e)

pub wrong-refuted : IsRight sum_file wrong → ⊥
unfolding returned
wrong-refuted right =
    let end = right sum_start [] (starts _ _) 1 0 0x2000 0 (sum_results 3) wrong-done in
    five-three (five-at-end end.1.steps end.0 end.1.ran end.2.pc ∙ ap (λ (x : Arguments). slice_index x.words 1) end.2.results)

abbrev narrow_results : Arguments
narrow_results = record { words = 0x2000 ∷ []; mems = [] }

narrow-done : eval narrow (listed_def narrow) (held_in sum_start narrow []) 1 ≡ Done 0 0x2000 narrow_results 0
narrow-done = refl

five-two : five ≡ 2 → ⊥
five-two e = omega (arith, e)

abbrev one : ℕ
one = 1

one-ten : one ≡ 10 → ⊥
one-ten e = omega (arith, e)

not-there : Contains {X = ℕ} (1 ∷ []) 10 → ⊥
not-there (zero, lt, e) = one-ten e
not-there (suc k, lt, e) = omega (arith, lt)

pub narrow-refuted : IsRight sum_file narrow → ⊥
unfolding returned
narrow-refuted right =
    let end = right sum_start [] (starts _ _) 1 0 0x2000 0 narrow_results narrow-done in
    five-two (five-at-end end.1.steps end.0 end.1.ran end.2.pc ∙ end.2.registers 10 (omega arith) not-there)
