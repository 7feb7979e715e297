-- What is claimed of a group's function is told by a script of it.
use Rattle.std.proofs.Common.{◌≡◌, ℕ, ◌*◌, List, [], true, false, refl, sym, subst, ◌∙◌}
use Rattle.rv_machine.specs.State.{State}
use Rattle.tailrec_lang.specs.Tree.{GroupTree, listed_def}
use Rattle.tailrec_lang.specs.WellFormed.{IsWellFormed}
use Rattle.tailrec_lang.specs.Eval.{Arguments, Outcome, Done, SideFalse, Turns, NoOutcome, eval}
use Rattle.smt_terms.specs.Operators.{Value, Truth}
use Rattle.smt_terms.specs.Meaning.{FunTree}
use Rattle.smt_export.specs.declared.told.Told.{Told}
use Rattle.smt_export.specs.declared.told.Told.TheVariants.{Ok}
use Rattle.smt_export.specs.Reach.{IsLoopFree}
use Rattle.smt_export.specs.Telling.{TellsEval, TellsOutcome}
use Rattle.claims.specs.Headline.{Region, Starts, IsRight, held_in}
use Rattle.elf_image.specs.Image.{code_of_file}
use Rattle.claims.specs.Exact.{FirstReturns, Gives}
use Rattle.claims.specs.LinkExact.{FirstReturnsIn}
use Rattle.claims.specs.Turns.{InFirstMemory, RunsBack}
use Rattle.stack_offsets.specs.SplitExact.{UsesSplit}
use Rattle.mcdec_commands.specs.Scripts.{IsExactScript, IsRightScript, TellsClaims, told_by}
use Rattle.mcdec_commands.proofs.Ends.{ends}

-- an evaluation that is done
record IsDone (o : Outcome) : Type 0 where
  exit : ℕ
  pc : ℕ
  results : Arguments
  left : ℕ
  is : o ≡ Done exit pc results left

not-both : (v : Value) → v ≡ Truth true → v ≡ Truth false → ⊥
not-both v one other = let clash : Truth true ≡ Truth false = sym one ∙ other in cc

-- with `ok` true, and turns enough
done : (g : GroupTree) (f : Told → Value) (o : Outcome) → TellsOutcome g o f → f Ok ≡ Truth true → (o ≡ Turns → ⊥) → IsDone o
done g f (Done exit pc results left) told ok some = record { exit = exit; pc = pc; results = results; left = left; is = refl }
done g f (SideFalse def ordinal) told ok some = absurd (not-both (f Ok) ok told)
done g f Turns told ok some = absurd (some refl)
done g f NoOutcome told ok some = absurd told

module _ (file : List ℕ) (g : GroupTree) (funs : List FunTree) (tells : TellsEval g (listed_def g) funs) where
  right-script : IsWellFormed g → IsLoopFree g (listed_def g) → IsRight file g → IsRightScript file g funs
  right-script wf free right s regions starts vs are ok =
      let enough = ends g (listed_def g) wf free in
      let x = held_in s g regions in
      let told = tells x enough.0 vs are in
      let d = done g (told_by funs g vs) (eval g (listed_def g) x enough.0) told ok (enough.1 x) in
      let reached = right s regions starts enough.0 d.exit d.pc d.left d.results d.is in (
        reached.0,
        reached.1,
        record { exit = d.exit; pc = d.pc; results = d.results; ends = reached.2; tells = subst (λ (o : Outcome). TellsOutcome g o (told_by funs g vs)) d.is told },
      )

  exact-script : (Runs : List Region → State → ℕ → State → Type 0)
      → ((s : State) (regions : List Region) → Starts file g s regions → (k : ℕ) (t : State) → Runs regions s k t → Gives g regions s (2 * k) t) → IsExactScript Runs file g funs
  exact-script Runs exact s regions starts vs are k t run =
      let gives = exact s regions starts k t run in
      record {
        exit = gives.exit;
        pc = gives.pc;
        results = gives.results;
        ends = gives.ends;
        tells = subst (λ (o : Outcome). TellsOutcome g o (told_by funs g vs)) gives.done (tells (held_in s g regions) (2 * k) vs are);
      }

pub tells-claims : (g : GroupTree) (funs : List FunTree) → TellsEval g (listed_def g) funs → IsWellFormed g → IsLoopFree g (listed_def g) → TellsClaims g funs
tells-claims g funs tells wf free = record {
  right = λ elf right. right-script elf g funs tells wf free right;
  exact = λ elf exact. exact-script elf g funs tells FirstReturns exact;
  linked = λ elf exact. exact-script elf g funs tells (RunsBack InFirstMemory) exact;
  split = λ elf e exact. exact-script elf g funs tells (FirstReturnsIn (UsesSplit (code_of_file elf) e)) exact;
}
