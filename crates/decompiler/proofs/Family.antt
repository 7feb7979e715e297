-- The laws of all parts of all functions of a group, and that nothing is lost of it.
use Rattle.std.proofs.Common.{◌≡◌, ℕ, zero, suc, ◌+◌, ◌*◌, ◌<◌, ◌≤◌, true, false, cond, Some, None, List, [], ◌∷◌, map, length, Contains, refl, sym, ap, subst, ◌∙◌, arith}
use Rattle.std.specs.Prelude.{slice_get, option_map, AllPairs}
use Rattle.rv_machine.specs.State.{State}
use Rattle.rv_machine.specs.Step.{instruction_at}
use Rattle.rv_decode.specs.declared.instruction.Instr.TheVariants as instr
use Rattle.rv_words.specs.Ranges.{range_bytes}
use Rattle.sep_assert.specs.Code.{IsWithin}
use Rattle.tailrec_lang.specs.Registers.{AreRegistersFrom}
use Rattle.elf_image.specs.Image.{code_of_file}
use Rattle.word_terms.specs.Environment.{Environment}
use Rattle.tailrec_lang.specs.declared.group.Exit.{Exit}
use Rattle.tailrec_lang.specs.declared.group.Exit.TheVariants.{Ret}
use Rattle.tailrec_lang.specs.Tree.{DefTree, GroupTree, exits_at, listed_def}
use Rattle.tailrec_lang.specs.Eval.{Arguments, Exited, Done, done_by, with_pc, ending, eval}
use Rattle.tailrec_lang.proofs.Turns.{ending-enter, ending-exited}
use Rattle.tailrec_lang.proofs.Definitions.{exits_there}
use Rattle.code_parts.specs.declared.part.Part.{Part}
use Rattle.code_parts.specs.declared.part.Part.TheVariants.{Rest}
use Rattle.code_parts.specs.Bodies.{Flow, VariableMap, action, part_def}
use Rattle.code_parts.specs.declared.callee.Callee.{Callee}
use Rattle.code_parts.specs.Graph.{IsPart}
use Rattle.claims.specs.Headline.{Region, AreApart, is_within, held_in, Starts}
use Rattle.rv_machine.specs.Run.{IsAtReturn}
use Rattle.claims.specs.LinkExact.{FirstReturnsIn, IsAtCall, after_instruction}
use Rattle.decompiler.proofs.GroupOfFunctions.{Function, IsOf, HasFunctions, HaveGraphs}
use Rattle.instr_axioms.proofs.Effects.{cut}
use Rattle.code_parts.proofs.Lists.{length-map}
use Rattle.decompiler.proofs.Returns.{Steps, Comes, comes, comes-plain, IsKept, kept-here}
use Rattle.decompiler.proofs.StateVariables.{Stands}
use Rattle.claims.specs.Turns.{RunsBack}
use Rattle.decompiler.proofs.Counts.{Gains, Returning}
use Rattle.decompiler.proofs.PartLaw.{with_address, IsDone, LeavesIn, Law, LawsAt, LawsBelow, part-law, whole-law}
use Rattle.decompiler.proofs.Whole.{same_instr, step-done}

module _ (g : GroupTree) (fs : List Function) (main : Function) (has : HasFunctions fs main g) (Uses : ℕ → ℕ → Type 0) (have : HaveGraphs Uses fs g)
    (regions : List Region) (count : length regions ≡ g.mems) (apart : AllPairs AreApart regions)
    (Calls : State → Type 0) (is_call : (s : State) → Calls s → IsAtCall s) (calls : (x : Function) (n : ℕ) (c : Callee) (s : State) → Contains fs x → n < x.flow.nodes → x.flow.callee n ≡ Some c → IsAtCall s → Calls s)
    (s0 : State) (holds : IsWithin (range_bytes g.code) s0.mem) (beside : (a b : ℕ) → range_bytes g.code a ≡ Some b → is_within regions a ≡ false) where
  -- all else is as at the entry
  abbrev Good : State → Type 0
  Good = IsKept g.regs regions s0

  abbrev held_by : List ℕ → State → Arguments
  held_by rs s = record { words = map s.reg rs; mems = map (λ r. cut r s.mem) regions }

  abbrev args : State → Arguments
  args = held_by g.regs

  abbrev pc : State → ℕ
  pc s = s.pc

  abbrev back : State → ℕ
  back s = after_instruction s

  abbrev Runs : ℕ → State → State → Type 0
  Runs k s t = Comes State pc back IsAtReturn Calls (Steps Uses regions) t [] k s

  module _ (x : Function) (in_fs : Contains fs x) where
    abbrev f : Flow
    f = x.flow

    same_count : length regions ≡ f.mems
    same_count = count ∙ sym (has.mems x in_fs)

    rise : AreRegistersFrom 1 f.regs
    rise = (have.code x in_fs).registers

    long : (s : State) → (length (args s).words ≡ length f.regs) × (length (args s).mems ≡ f.mems)
    long s = (length-map s.reg g.regs ∙ ap (λ (rs : List ℕ). length rs) (sym (has.regs x in_fs)), length-map (λ r. cut r s.mem) regions ∙ same_count)

    -- a node that calls nothing is no call
    no_calls : (n : ℕ) (s : State) → n < f.nodes → f.callee n ≡ None → instruction_at s ≡ Some (f.instr n) → Calls s → ⊥
    no_calls n s lt none fetch c = let r = is_call s c in have.no_call x n r.0 in_fs lt none (same_instr (f.instr n) (instr.Jal 1 r.0) (sym fetch ∙ r.1))

    abbrev IsActed : List ℕ → Type 0
    IsActed rs = (n : ℕ) (v : VariableMap) (e : Environment) (s u : State) → n < f.nodes → IsKept rs regions s0 s → s.pc ≡ f.addr n → Stands f v e (held_by rs s) → Steps Uses regions s u
        → IsKept rs regions s0 u × IsDone f State pc (held_by rs) back IsAtReturn Calls (IsKept rs regions s0) (Steps Uses regions) (action f n v) v e s u

    done : IsActed g.regs
    done = subst IsActed (has.regs x in_fs)
        (step-done f g.code (have.code x in_fs) regions same_count apart Uses (λ n l. have.uses x n in_fs l) Calls no_calls (λ n c s l h at. calls x n c s in_fs l h at) s0 holds beside)

    abbrev Laws : ℕ → Type 0
    Laws = LawsAt f (have.graph x in_fs) rise State pc args back IsAtReturn Calls Good (Steps Uses regions) long done (ending g) (ending-exited g) (λ p y m there. ending-enter g (f.number p) y m (part_def f p) (has.defs x p in_fs there))

    abbrev Below : ℕ → Type 0
    Below = LawsBelow f (have.graph x in_fs) rise State pc args back IsAtReturn Calls Good (Steps Uses regions) long done (ending g) (ending-exited g) (λ p y m there. ending-enter g (f.number p) y m (part_def f p) (has.defs x p in_fs there))

    -- the rest of the whole from the entry on
    whole-of : (k : ℕ) (s t : State) (m : ℕ) → Below k → Good s → s.pc ≡ f.addr x.entry → Runs k s t → 2 * k ≤ m
        → LeavesIn f State pc args back IsAtReturn Calls Good (Steps Uses regions) (Rest None x.entry) k m t (ending g (f.number (Rest None x.entry)) (args s) m)
    whole-of k s t m laws good place runs enough =
        whole-law f (have.graph x in_fs) rise State pc args back IsAtReturn Calls Good (Steps Uses regions) long done (ending g) (ending-exited g) (λ p y m there. ending-enter g (f.number p) y m (part_def f p) (has.defs x p in_fs there))
        x.entry k s t m laws (has.whole x in_fs) good place runs enough

    parts-of : (k : ℕ) → Below k → (p : Part) → IsPart f p
        → Law f (have.graph x in_fs) rise State pc args back IsAtReturn Calls Good (Steps Uses regions) long done (ending g) (ending-exited g) (λ p y m there. ending-enter g (f.number p) y m (part_def f p) (has.defs x p in_fs there)) k p
    parts-of k laws p there =
        part-law f (have.graph x in_fs) rise State pc args back IsAtReturn Calls Good (Steps Uses regions) long done (ending g) (ending-exited g) (λ p y m there. ending-enter g (f.number p) y m (part_def f p) (has.defs x p in_fs there)) k laws p there

  -- ---- by induction on the number of steps, over all functions

  abbrev AllBelow : ℕ → Type 0
  AllBelow k = (j : ℕ) → j < k → (x : Function) (in_fs : Contains fs x) → Laws x in_fs j

  -- what is called returns as its function does
  called : (k : ℕ) → AllBelow k → (y : Function) (in_fs : Contains fs y) (c : Callee) → IsOf y c → (s t : State) (m : ℕ) → Good s → s.pc ≡ c.entry → Runs k s t → 2 * k ≤ m
      → (c.returns ≡ true) × Good t × (left : ℕ) × (k + 32 * left ≤ 32 * m) × (ending g c.def (args s) m ≡ Exited 0 (with_address (pc t) (args t)) left)
  called k below y in_fs c of s t m good place runs enough =
      let r = whole-of y in_fs k s t m (λ j lt. below j lt y in_fs) good (place ∙ of.entry) runs enough in
      (of.returns ∙ r.returns, r.good, r.left, r.few, ap (λ d. ending g d (args s) m) of.def ∙ r.ends)

  one : (k : ℕ) → AllBelow k → (x : Function) (in_fs : Contains fs x) → Laws x in_fs k
  one k below x in_fs = (
    parts-of x in_fs k (λ j lt. below j lt x in_fs),
    λ n c node is s t m good place runs enough. (let y = has.called x n c in_fs node is in
        let r = called k below y.0 y.1 c y.2 s t m good place runs enough in
        record { returns = r.0; good = r.1; left = r.2; few = r.3; ends = r.4 }),
  )

  below-all : (k : ℕ) → AllBelow k
  below-all zero j lt x in_fs = absurd (omega arith)
  below-all (suc k) j lt x in_fs = one j (λ i l y in_y. below-all k i (omega arith) y in_y) x in_fs

  -- a run of the main function that returns is an evaluation
  pub main-law : (k : ℕ) (t : State) → s0.pc ≡ main.flow.addr main.entry → Runs k s0 t
      → LeavesIn main.flow State pc args back IsAtReturn Calls Good (Steps Uses regions) (Rest None main.entry) k (2 * k) t (ending g (main.flow.number (Rest None main.entry)) (args s0) (2 * k))
  main-law k t at runs = whole-of main has.listed k s0 t (2 * k) (λ j lt. below-all k j lt main has.listed) (kept-here g.regs regions s0) at runs (omega arith)

-- ---- the whole group

same-pc : (a b : ℕ) → Some a ≡ Some b → b ≡ a
same-pc a b e = cc

done-return : (exits : List Exit) (pc : ℕ) (x : Arguments) (left : ℕ) → slice_get exits 0 ≡ Some Ret → with_pc exits (Exited 0 (with_address pc x) left) ≡ Done 0 pc x left
done-return exits pc x left h = λ i. done_by (h i) 0 (with_address pc x) left

module _ (file : List ℕ) (g : GroupTree) (fs : List Function) (main : Function) (has : HasFunctions fs main g) (Uses : ℕ → ℕ → Type 0) (have : HaveGraphs Uses fs g)
    (in_file : IsWithin (range_bytes g.code) (code_of_file file))
    (Calls : State → Type 0) (is_call : (s : State) → Calls s → IsAtCall s) (calls : (x : Function) (n : ℕ) (c : Callee) (s : State) → Contains fs x → n < x.flow.nodes → x.flow.callee n ≡ Some c → IsAtCall s → Calls s)
    (s : State) (regions : List Region) (starts : Starts file g s regions) where
  last : Part
  last = Rest None main.entry

  number : listed_def g ≡ main.flow.number (Rest None main.entry)
  number = omega (arith, has.last)

  def : slice_get g.defs (main.flow.number (Rest None main.entry)) ≡ Some (part_def main.flow (Rest None main.entry))
  def = has.defs main (Rest None main.entry) has.listed (has.whole main has.listed)

  at : s.pc ≡ main.flow.addr main.entry
  at = same-pc (main.flow.addr main.entry) s.pc (ap (option_map (λ (d : DefTree). d.entry)) (sym (ap (slice_get g.defs) number ∙ def)) ∙ starts.entry)

  pub gains : (k : ℕ) (t : State) → Comes State (λ s. s.pc) after_instruction IsAtReturn Calls (Steps Uses regions) t [] k s → Gains g regions s k t
  gains k t runs =
      let r = main-law g fs main has Uses have regions starts.count starts.apart Calls is_call calls s (λ a b e. starts.code a b e ∙ in_file a b e) starts.beside_code k t at runs in
      let exits : slice_get (exits_at g (main.flow.number (Rest None main.entry))) 0 ≡ Some Ret =
      ap (λ (xs : List Exit). slice_get xs 0) (exits_there g (main.flow.number (Rest None main.entry)) (part_def main.flow (Rest None main.entry)) def) ∙ (λ i. slice_get (cond (r.returns i) (Ret ∷ []) []) 0) in
      record {
        gives = record {
          exit = 0;
          pc = t.pc;
          results = held_in t g regions;
          left = r.left;
          done = (λ i. eval g (number i) (held_in s g regions) (2 * k)) ∙ ap (with_pc (exits_at g (main.flow.number (Rest None main.entry)))) r.ends
              ∙ done-return (exits_at g (main.flow.number (Rest None main.entry))) t.pc (held_in t g regions) r.left exits;
          return = ap (λ d. slice_get (exits_at g d) 0) number ∙ exits;
          ends = record {
            pc = refl;
            results = refl;
            registers = λ q low out. r.good.registers q out;
            bytes = r.good.bytes;
            present = r.good.present;
          };
        };
        few = r.few;
      }

-- The returns of functions that call each other, of which thus nothing is lost, and whose steps are counted.
pub linked-gains : (file : List ℕ) (g : GroupTree) (fs : List Function) (main : Function) → HasFunctions fs main g → (Uses : ℕ → ℕ → Type 0) → HaveGraphs Uses fs g
    → IsWithin (range_bytes g.code) (code_of_file file) → Returning (RunsBack Uses) file g
linked-gains file g fs main has Uses have in_file s regions starts k t runs =
    gains file g fs main has Uses have in_file IsAtCall (λ s c. c) (λ x n c s in_fs l is at. at) s regions starts k t (comes Uses regions t k [] s runs)

-- .. and of a function without calls.
pub own-gains : (file : List ℕ) (g : GroupTree) (x : Function) → HasFunctions (x ∷ []) x g → (Uses : ℕ → ℕ → Type 0) → HaveGraphs Uses (x ∷ []) g
    → IsWithin (range_bytes g.code) (code_of_file file) → ((n : ℕ) → n < x.flow.nodes → x.flow.callee n ≡ None) → Returning (FirstReturnsIn Uses) file g
own-gains file g x has Uses have in_file none s regions starts k t runs =
    gains file g (x ∷ []) x has Uses have in_file (λ s. ⊥) (λ s c. absurd c) (λ y n c s in_fs l is at. nothing y n c (only y in_fs) l is) s regions starts k t (comes-plain Uses regions t k s runs)
  where
    only : (y : Function) → Contains (x ∷ []) y → x ≡ y
    only y (zero, l, e) = e
    only y (suc k, l, e) = absurd (omega arith)

    nothing : (y : Function) (n : ℕ) (c : Callee) → x ≡ y → n < y.flow.nodes → y.flow.callee n ≡ Some c → ⊥
    nothing y n c same l is = let e : None ≡ Some c = sym (none n (subst (λ (z : Function). n < z.flow.nodes) (sym same) l)) ∙ (λ i. (same i).flow.callee n) ∙ is in cc
