-- The functions of a script tell the outcome.
use Rattle.std.proofs.Common.{◌≡◌, ℕ, ◌<◌, ◌≤◌, Bool, true, List, [], ◌∷◌, Option, Some, None, map, length, slice_get, refl, sym, ◌∙◌}
use Rattle.std.specs.Prelude.{drop, slice_index}
use Rattle.tailrec_lang.specs.declared.group.Exit.{Exit}
use Rattle.tailrec_lang.specs.declared.group.Exit.TheVariants.{At, Ret}
use Rattle.tailrec_lang.specs.Tree.{GroupTree, exits_at}
use Rattle.tailrec_lang.specs.Eval.{Arguments, Ending, Exited, NeedFalse, NoTurns, Nothing, ending, done_by, with_pc}
use Rattle.smt_terms.specs.Operators.{Value, Bits}
use Rattle.smt_terms.specs.Meaning.{applied, functions_after, no_names}
use Rattle.smt_export.specs.declared.told.Told.{Told}
use Rattle.smt_export.specs.declared.told.Told.TheVariants.{Pc}
use Rattle.smt_export.specs.Told.{fun_name, words_from}
use Rattle.smt_export.specs.Scripts.{script}
use Rattle.smt_export.specs.Telling.{TellsEval, TellsOutcome}
use Rattle.smt_export.specs.inner.Following.{TellsExit, TellsEnding}
use Rattle.smt_export.specs.inner.Exported.{IsClosed, HasRange}
use Rattle.smt_export.proofs.Scripts.{script_exports}

returned : (g : GroupTree) (f : Told → Value) (k left : ℕ) (ws : List ℕ) (x : Arguments) → x.words ≡ ws → TellsExit g (Some Ret) k x f → TellsOutcome g (done_by (Some Ret) k x left) f
returned g f k left [] x e is = let h = is.words in absurd (cc)
returned g f k left (w ∷ ws) x e is =
    let h = is.words in
    let pc : f Pc ≡ Bits 64 (slice_index x.words 0) = (let first : f Pc ≡ Bits 64 w = cc in first ∙ (λ j. Bits 64 (slice_index (sym e j) 0))) in
    let words : map f (words_from 0 (length g.regs)) ≡ map (Bits 64) (drop 1 x.words) = (let rest : map f (words_from 0 (length g.regs)) ≡ map (Bits 64) ws = cc in rest ∙ (λ j. map (Bits 64) (drop 1 (sym e j)))) in
    (is.ok, is.exit, pc, words, is.mems)

by_exit : (g : GroupTree) (o : Option Exit) (f : Told → Value) (k left : ℕ) (x : Arguments) → TellsExit g o k x f → TellsOutcome g (done_by o k x left) f
by_exit g None f k left x is = absurd is.pc
by_exit g (Some (At a)) f k left x is = (is.ok, is.exit, is.pc, is.words, is.mems)
by_exit g (Some Ret) f k left x is = returned g f k left x.words x refl is

outcome_told : (g : GroupTree) (exits : List Exit) (o : Ending) (f : Told → Value) → TellsEnding g exits o f → TellsOutcome g (with_pc exits o) f
outcome_told g exits (Exited k x left) f is = by_exit g (slice_get exits k) f k left x is
outcome_told g exits (NeedFalse d i) f is = is
outcome_told g exits NoTurns f is = tt
outcome_told g exits Nothing f is = is

pub script_tells : (g : GroupTree) (test : ℕ → Bool) (d e : ℕ) → HasRange g → IsClosed g test → d < length g.defs → e ≤ d → test e ≡ true → TellsEval g e (script g test d)
script_tells g test d e range closed lt le is x n vs a =
    outcome_told g (exits_at g e) (ending g e x n) (λ t. applied (functions_after no_names (script g test d)) (fun_name e t) vs) ((script_exports g test range closed d e lt le is).tells x n vs a)
