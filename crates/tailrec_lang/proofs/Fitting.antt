-- A definition of a well-formed group leaves by one of its exits, with as many results as the exit has.
use Rattle.std.proofs.Common.{◌≡◌, ℕ, zero, suc, ◌+◌, List, [], ◌∷◌, length, refl, ◌∙◌, subst, Option, Some, None, Bool, true, false, cond}
use Rattle.std.specs.Prelude.{slice_get}
use Rattle.std.proofs.lemmas.List.{length-map}
use Rattle.word_terms.specs.Environment.{Environment, no_variables}
use Rattle.word_terms.specs.Value.{word_value, mem_value, cond_holds}
use Rattle.tailrec_lang.specs.declared.group.Exit.{Exit}
use Rattle.tailrec_lang.specs.Tree.{ValuesTree, BodyTree, Do, Branch, Call, Again, Leave, ArmTrees, NoArm, Arm, DefTree, GroupTree, exits_at}
use Rattle.tailrec_lang.specs.WellFormed.{BodyIsWellFormed, ArmsAreWellFormed, IsWellFormed, exit_words, words_after, mems_after}
use Rattle.tailrec_lang.specs.inner.WellFormed.{FitsExit}
use Rattle.tailrec_lang.specs.Eval.{Arguments, Ending, Exited, NeedFalse, NoTurns, Nothing, Meaning, and_then, after_step, step_holds, step_needs, needs, arguments_of, body_ending, arm_ending, with_arguments, ending_within, ending, ExitFits}
use Rattle.tailrec_lang.proofs.Turns.{of_def}

abbrev pub Fits : GroupTree → ℕ → Ending → Type 0
Fits g d (Exited exit results left) = ExitFits g (slice_get (exits_at g d) exit) results
Fits g d (NeedFalse def ordinal) = Unit {0}
Fits g d NoTurns = Unit {0}
Fits g d Nothing = Unit {0}

fits-cond : (g : GroupTree) (d : ℕ) (b : Bool) (p q : Ending) → Fits g d p → Fits g d q → Fits g d (cond b p q)
fits-cond g d true p q h k = h
fits-cond g d false p q h k = k

fits-then : (g : GroupTree) (d : ℕ) (o : Ending) (go : ℕ → Arguments → ℕ → Ending) → ((k : ℕ) (x : Arguments) (r : ℕ) → Fits g d (go k x r)) → Fits g d (and_then o go)
fits-then g d (Exited exit results left) go h = h exit results left
fits-then g d (NeedFalse def ordinal) go h = tt
fits-then g d NoTurns go h = tt
fits-then g d Nothing go h = tt

-- terms that fit have values that do
fits-values : (g : GroupTree) (x : Option Exit) (v : ValuesTree) (e : Environment) → FitsExit g x v → ExitFits g x (arguments_of v e)
fits-values g None v e h = absurd h
fits-values g (Some x) v e h = (length-map v.words (λ t. word_value t e) ∙ h.0, length-map v.mems (λ t. mem_value t e) ∙ h.1)

-- every entry fits
abbrev pub AllFit : GroupTree → Meaning → Type 0
AllFit g call = (d : ℕ) (x : Arguments) (n : ℕ) → Fits g d (call d x n)

module _ (g : GroupTree) (call : Meaning) (fit : AllFit g call) (d : ℕ) where
  mutual
    body-fits : (b : BodyTree) (e : Environment) (o left w m : ℕ) → BodyIsWellFormed g d b w m → Fits g d (body_ending call d b e o left)
    body-fits (Do step rest) e o left w m wf = fits-cond g d (step_holds step e) _ _ (body-fits rest (after_step step e) (o + step_needs step) left (words_after step w) (mems_after step m) wf.1) tt
    body-fits (Branch c a b) e o left w m wf = fits-cond g d (cond_holds c e) _ _ (body-fits a e o left w m wf.1) (body-fits b e (o + needs a) left w m wf.2)
    body-fits (Call callee v arms) e o left w m wf =
        fits-then g d (call callee (arguments_of v e) left) (λ k x r. arm_ending call d arms k (with_arguments e x) o r)
        (λ k x r. arm-fits arms (exits_at g callee) k (with_arguments e x) o r w m wf.3)
    body-fits (Again v) e o left w m wf = fit d (arguments_of v e) left
    body-fits (Leave exit v) e o left w m wf = fits-values g (slice_get (exits_at g d) exit) v e wf.0

    arm-fits : (bs : ArmTrees) (xs : List Exit) (k : ℕ) (e : Environment) (o left w m : ℕ) → ArmsAreWellFormed g d xs bs w m → Fits g d (arm_ending call d bs k e o left)
    arm-fits NoArm xs k e o left w m wf = tt
    arm-fits (Arm b bs) [] k e o left w m wf = absurd wf
    arm-fits (Arm b bs) (x ∷ xs) zero e o left w m wf = body-fits b e o left (w + exit_words g x) (m + g.mems) wf.0
    arm-fits (Arm b bs) (x ∷ xs) (suc k) e o left w m wf = arm-fits bs xs k e (o + needs b) left w m wf.1

fits-of_def : (g : GroupTree) (d : ℕ) (o : Option DefTree) (go : DefTree → Ending) → ((def : DefTree) → o ≡ Some def → Fits g d (go def)) → Fits g d (of_def o go)
fits-of_def g d None go h = tt
fits-of_def g d (Some def) go h = h def refl

ending_within-fits : (g : GroupTree) → IsWellFormed g → (depth : ℕ) → AllFit g (ending_within depth g)
ending_within-fits g wf zero d x n = tt
ending_within-fits g wf (suc depth) d x zero = tt
ending_within-fits g wf (suc depth) d x (suc left) =
    fits-of_def g d (slice_get g.defs d) _ (λ def is.
    body-fits g (ending_within depth g) (ending_within-fits g wf depth) d def.body (with_arguments no_variables x) 0 left (length g.regs) g.mems (wf d def is))

pub ending-fits : (g : GroupTree) → IsWellFormed g → AllFit g (ending g)
ending-fits g wf d x n = ending_within-fits g wf n d x n

pub exited-fits : (g : GroupTree) (d : ℕ) (x : Arguments) (n exit : ℕ) (results : Arguments) (left : ℕ) → IsWellFormed g → ending g d x n ≡ Exited exit results left → ExitFits g (slice_get (exits_at g d) exit) results
exited-fits g d x n exit results left wf e = subst (Fits g d) e (ending-fits g wf d x n)
