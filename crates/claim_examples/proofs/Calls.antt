-- The run of a function that calls another.
use Rattle.std.proofs.Common.{◌≡◌, inl, inr, ℕ, suc, Bool, true, false, Some, List, [], ◌∷◌, Contains, refl, sym, ap, subst, ◌∙◌, arith}
use Rattle.std.specs.Prelude.{AllPairs, ◌==◌, if◌then◌else◌, slice_index_or, pos}
use Rattle.std.proofs.lemmas.Bool.{eqb-true}
use Rattle.rv_words.specs.Ranges.{range_bytes}
use Rattle.rv_words.specs.declared.operation.Op.TheVariants.{Add}
use Rattle.elf_image.specs.Header.{number_at}
use Rattle.elf_image.specs.Image.{code_of_file}
use Rattle.rv_decode.specs.declared.instruction.Instr.{Instr}
use Rattle.rv_decode.specs.declared.instruction.Instr.TheVariants as instr
use Rattle.rv_decode.specs.Decodes.{decoded}
use Rattle.rv_machine.specs.State.{State}
use Rattle.rv_machine.specs.Step.{instruction_at, step}
use Rattle.rv_machine.specs.Run.{IsAtReturn}
use Rattle.rv_machine.specs.Touches.{IsTouched, nothing, touched}
use Rattle.rv_machine.proofs.StepLemmas.{touches-at}
use Rattle.word_terms.specs.Tree.{WordTree}
use Rattle.tailrec_lang.specs.Eval.{Arguments, Outcome, Done}
use Rattle.code_gen.specs.ElfFile.{elf_of}
use Rattle.claims.specs.Headline.{AreApart, Ends, Region, Starts}
use Rattle.claims.specs.Exact.{Gives}
use Rattle.claims.specs.LinkExact.{IsAtCall, LinkExact, ReturnsBack, StaysIn}
use Rattle.claims.specs.Turns.{InFirstMemory}
use Rattle.claim_examples.specs.Sum.{sum_registers}
use Rattle.claim_examples.specs.Call.{call_file, call_group, call_start, nothing_called, sum_called}

-- ---- the states

abbrev saved : ℕ → ℕ
saved r = if r == 5 then 0x2000 else sum_registers r

abbrev linked : ℕ → ℕ
linked r = if r == 1 then 0x10008 else saved r

abbrev added : ℕ → ℕ
added r = if r == 10 then 5 else linked r

abbrev restored : ℕ → ℕ
restored r = if r == 1 then 0x2000 else added r

abbrev stands : ℕ → (ℕ → ℕ) → State
stands pc reg = record { pc = pc; reg = reg; mem = range_bytes sum_called.code }

abbrev returned : State
returned = stands 0x2000 restored

-- ---- what each step is

abbrev regions : List Region
regions = []

-- an instruction that touches nothing
stays : (s : State) (i : Instr) → instruction_at s ≡ Some i → touched i s ≡ nothing → StaysIn InFirstMemory regions s
stays s i at still q a uses t = absurd (none (subst (λ x. IsTouched x a) (touches-at i s at ∙ still) t))
  where
    none : IsTouched nothing a → ⊥
    none (k, l, e) = omega arith

adds-no-return : (s : State) (rd rs1 rs2 : ℕ) → instruction_at s ≡ Some (instr.Op Add rd rs1 rs2) → IsAtReturn s → ⊥
adds-no-return s rd rs1 rs2 at back = clash (sym at ∙ back)
  where
    clash : Some (instr.Op Add rd rs1 rs2) ≡ Some (instr.Jalr 0 1 (pos 0)) → ⊥
    clash e = cc

adds-no-call : (s : State) (rd rs1 rs2 : ℕ) → instruction_at s ≡ Some (instr.Op Add rd rs1 rs2) → IsAtCall s → ⊥
adds-no-call s rd rs1 rs2 at (offset, call) = clash (sym at ∙ call)
  where
    clash : Some (instr.Op Add rd rs1 rs2) ≡ Some (instr.Jal 1 offset) → ⊥
    clash e = cc

-- an addition, after which the run goes on
by-addition : (s u : State) (stack : List ℕ) (k rd rs1 rs2 : ℕ) → instruction_at s ≡ Some (instr.Op Add rd rs1 rs2) → step s ≡ Some u
    → ReturnsBack InFirstMemory regions returned stack k u → ReturnsBack InFirstMemory regions returned stack (suc k) s
by-addition s u stack k rd rs1 rs2 at steps more =
    (u, steps, stays s (instr.Op Add rd rs1 rs2) at refl, inr (inr (adds-no-return s rd rs1 rs2 at, adds-no-call s rd rs1 rs2 at, more)))

-- ---- the run

fetched-0 : instruction_at call_start ≡ Some (instr.Op Add 5 1 0)
unfolding decoded
fetched-0 = refl

step-0 : step call_start ≡ Some (stands 0x10004 saved)
unfolding step decoded
step-0 = refl

fetched-1 : instruction_at (stands 0x10004 saved) ≡ Some (instr.Jal 1 (pos 12))
unfolding decoded
fetched-1 = refl

step-1 : step (stands 0x10004 saved) ≡ Some (stands 0x10010 linked)
unfolding step decoded
step-1 = refl

fetched-2 : instruction_at (stands 0x10010 linked) ≡ Some (instr.Op Add 10 10 11)
unfolding decoded
fetched-2 = refl

step-2 : step (stands 0x10010 linked) ≡ Some (stands 0x10014 added)
unfolding step decoded
step-2 = refl

fetched-3 : instruction_at (stands 0x10014 added) ≡ Some (instr.Jalr 0 1 (pos 0))
unfolding decoded
fetched-3 = refl

step-3 : step (stands 0x10014 added) ≡ Some (stands 0x10008 added)
unfolding step decoded
step-3 = refl

fetched-4 : instruction_at (stands 0x10008 added) ≡ Some (instr.Op Add 1 5 0)
unfolding decoded
fetched-4 = refl

step-4 : step (stands 0x10008 added) ≡ Some (stands 0x1000c restored)
unfolding step decoded
step-4 = refl

fetched-5 : instruction_at (stands 0x1000c restored) ≡ Some (instr.Jalr 0 1 (pos 0))
unfolding decoded
fetched-5 = refl

step-5 : step (stands 0x1000c restored) ≡ Some returned
unfolding step decoded
step-5 = refl

last-step : ReturnsBack InFirstMemory regions returned [] 1 (stands 0x1000c restored)
last-step = (returned, step-5, stays (stands 0x1000c restored) (instr.Jalr 0 1 (pos 0)) fetched-5 refl, inl (fetched-5, (refl, refl)))

comes-back : ReturnsBack InFirstMemory regions returned (0x10008 ∷ []) 3 (stands 0x10014 added)
comes-back = (
  stands 0x10008 added,
  step-3,
  stays (stands 0x10014 added) (instr.Jalr 0 1 (pos 0)) fetched-3 refl,
  inl (fetched-3, (refl, by-addition (stands 0x10008 added) (stands 0x1000c restored) [] 1 1 5 0 fetched-4 step-4 last-step)),
)

calls : ReturnsBack InFirstMemory regions returned [] 5 (stands 0x10004 saved)
calls = (
  stands 0x10010 linked,
  step-1,
  stays (stands 0x10004 saved) (instr.Jal 1 (pos 12)) fetched-1 refl,
  inr (inl ((pos 12, fetched-1), by-addition (stands 0x10010 linked) (stands 0x10014 added) (0x10008 ∷ []) 3 10 10 11 fetched-2 step-2 comes-back)),
)

returns-back : ReturnsBack InFirstMemory regions returned [] 6 call_start
returns-back = by-addition call_start (stands 0x10004 saved) [] 5 5 1 0 fetched-0 step-0 calls

-- ---- what evaluation gives

others-by : (r : ℕ) (a b c : Bool) → (r == 1) ≡ a → (r == 5) ≡ b → (r == 10) ≡ c → (Contains (1 ∷ 5 ∷ 10 ∷ 11 ∷ []) r → ⊥) → restored r ≡ sum_registers r
others-by r true b c e f g never = absurd (never (0, omega arith, sym (eqb-true r 1 e)))
others-by r false true c e f g never = absurd (never (1, omega arith, sym (eqb-true r 5 f)))
others-by r false false true e f g never = absurd (never (2, omega arith, sym (eqb-true r 10 g)))
others-by r false false false e f g never = λ i. if e i then 0x2000 else (if g i then 5 else (if e i then 0x10008 else (if f i then 0x2000 else sum_registers r)))

abbrev five_results : Arguments
five_results = record { words = 0x2000 ∷ 0x2000 ∷ 5 ∷ 3 ∷ []; mems = [] }

ended : Ends sum_called [] call_start 0x2000 five_results returned
ended = record {
  pc = refl;
  results = refl;
  registers = λ r small never. others-by r (r == 1) (r == 5) (r == 10) refl refl refl never;
  bytes = λ a e. refl;
  present = λ a. refl;
}

gives : Gives sum_called [] call_start 12 returned
gives = record { exit = 0; pc = 0x2000; results = five_results; left = 10; done = refl; return = refl; ends = ended }

pub call-returned : (t : State) × ReturnsBack InFirstMemory [] t [] 6 call_start × Gives sum_called [] call_start 12 t
call-returned = (returned, returns-back, gives)

-- ---- a function that is wrong

same-code : code_of_file call_file ≡ range_bytes sum_called.code
unfolding number_at elf_of
same-code = refl

no-pairs : AllPairs AreApart []
no-pairs i j d before there = absurd (omega arith)

no-address : false ≡ true → (A : Type 0) → A
no-address e A = absurd (cc)

starts : (x10 : WordTree) → Starts call_file (call_group x10) call_start []
starts x10 = record {
  entry = refl;
  code = λ a b at. λ i. sym same-code i a;
  count = refl;
  present = λ a e. no-address e _;
  beside_code = λ a b at. refl;
  apart = no-pairs;
}

abbrev third_word : Outcome → ℕ
third_word (Done exit pc results left) = slice_index_or results.words 2 0
third_word _ = 0

abbrev five : ℕ
five = 5

five-two : five ≡ 2 → ⊥
five-two e = omega (arith, e)

pub wrong-call-lost : LinkExact InFirstMemory call_file nothing_called → ⊥
wrong-call-lost exact =
    let given = exact call_start [] (starts _) 6 returned returns-back in
    five-two (ap (λ (x : Arguments). slice_index_or x.words 2 0) given.ends.results ∙ sym (ap third_word given.done))
