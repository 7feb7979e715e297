-- Calls that wait, and their arms.
use Rattle.std.proofs.Common.{◌≡◌, ℕ, zero, suc, ◌+◌, ◌<◌, ◌≤◌, List, [], ◌∷◌, ◌++◌, length, get_or, take, refl, sym, ap, ◌∙◌, arith, subst, Option, Some, None}
use Rattle.std.specs.Prelude.{slice_get}
use Rattle.tailrec_lang.specs.declared.group.Exit.{Exit}
use Rattle.tailrec_lang.specs.declared.group.Body.{Body}
use Rattle.tailrec_lang.specs.declared.evaluator.Frame.{Frame}
use Rattle.tailrec_lang.specs.declared.args.Args.{Args}
use Rattle.word_terms.specs.Environment.{Environment}
use Rattle.tailrec_lang.specs.Tree.{GroupTree, body_tree, exits_at}
use Rattle.tailrec_lang.specs.inner.Tree.{arm_trees}
use Rattle.tailrec_lang.specs.WellFormed.{ArmsAreWellFormed, BodyIsWellFormed, exit_words}
use Rattle.tailrec_lang.specs.Eval.{Ending, NeedFalse, NoTurns, Meaning, and_then, arm_ending, arm_needs, body_ending, needs, variables_of, with_arguments}
use Rattle.tailrec_lang.specs.inner.Walk.{FrameFits, ResultsFit, Waits, needs_passed, unwound}

-- what comes of an ending of the definition that a call entered
abbrev pub resumed : Meaning → Frame → Ending → Ending
resumed call f o = and_then o (λ exit results left. arm_ending call f.def (arm_trees f.arms.now) exit (with_arguments (variables_of f.variables) results) (needs_passed f.passed) left)

pub unwound-push : (call : Meaning) (fs : List Frame) (f : Frame) (o : Ending) → unwound call (fs ++ f ∷ []) o ≡ unwound call fs (resumed call f o)
unwound-push call [] f o = refl
unwound-push call (x ∷ fs) f o = λ j. resumed call x (unwound-push call fs f o j)

unwound-stays : (call : Meaning) (fs : List Frame) (o : Ending) → ((f : Frame) → resumed call f o ≡ o) → unwound call fs o ≡ o
unwound-stays call [] o stays = refl
unwound-stays call (f ∷ fs) o stays = (λ j. resumed call f (unwound-stays call fs o stays j)) ∙ stays f

pub unwound-turns : (call : Meaning) (fs : List Frame) → unwound call fs NoTurns ≡ NoTurns
unwound-turns call fs = unwound-stays call fs NoTurns (λ f. refl)

pub unwound-false : (call : Meaning) (fs : List Frame) (d o : ℕ) → unwound call fs (NeedFalse d o) ≡ NeedFalse d o
unwound-false call fs d o = unwound-stays call fs (NeedFalse d o) (λ f. refl)

pub waits-push : (g : GroupTree) (first : ℕ) (fs : List Frame) (f : Frame) (d : ℕ) → Waits g first fs d → d ≡ f.def → FrameFits g f → Waits g first (fs ++ f ∷ []) f.callee
waits-push g first [] f d waits same fits = (waits ∙ same, fits, refl)
waits-push g first (x ∷ fs) f d waits same fits = (waits.0, waits.1, waits-push g x.callee fs f d waits.2 same fits)

pub waits-pop : (g : GroupTree) (first : ℕ) (fs : List Frame) (f : Frame) (d : ℕ) → Waits g first (fs ++ f ∷ []) d → Waits g first fs f.def × FrameFits g f × (f.callee ≡ d)
waits-pop g first [] f d waits = (waits.0, waits.1, waits.2)
waits-pop g first (x ∷ fs) f d waits = let rest = waits-pop g x.callee fs f d waits.2 in ((waits.0, waits.1, rest.0), rest.1, rest.2)

-- ---- the arm of an exit

pub arm_there : (g : GroupTree) (d : ℕ) (xs : List Exit) (bs : List Body) (w m k : ℕ) (x : Exit) → ArmsAreWellFormed g d xs (arm_trees bs) w m → slice_get xs k ≡ Some x → k < length bs
arm_there g d [] [] w m k x fits is = absurd (cc)
arm_there g d [] (b ∷ bs) w m k x fits is = absurd fits
arm_there g d (y ∷ xs) [] w m k x fits is = absurd fits
arm_there g d (y ∷ xs) (b ∷ bs) w m zero x fits is = omega arith
arm_there g d (y ∷ xs) (b ∷ bs) w m (suc k) x fits is = let rest = arm_there g d xs bs w m k x fits.1 is in omega (arith, rest)

pub arm_fits : (g : GroupTree) (d : ℕ) (xs : List Exit) (bs : List Body) (w m k : ℕ) (x : Exit) (b : Body) → ArmsAreWellFormed g d xs (arm_trees bs) w m → slice_get xs k ≡ Some x → b ≡ get_or bs k b
    → BodyIsWellFormed g d (body_tree b) (w + exit_words g x) (m + g.mems)
arm_fits g d [] [] w m k x b fits is at = absurd (cc)
arm_fits g d [] (c ∷ bs) w m k x b fits is at = absurd fits
arm_fits g d (y ∷ xs) [] w m k x b fits is at = absurd fits
arm_fits g d (y ∷ xs) (c ∷ bs) w m zero x b fits is at =
    let same : y ≡ x = cc in
    subst (λ z. BodyIsWellFormed g d (body_tree b) (w + exit_words g z) (m + g.mems)) same (subst (λ z. BodyIsWellFormed g d (body_tree z) (w + exit_words g y) (m + g.mems)) (sym at) fits.0)
arm_fits g d (y ∷ xs) (c ∷ bs) w m (suc k) x b fits is at = arm_fits g d xs bs w m k x b fits.1 is at

pub arm_counted : (bs : List Body) (k : ℕ) (b : Body) → k < length bs → b ≡ get_or bs k b → arm_needs (arm_trees (take k bs)) + needs (body_tree b) ≤ arm_needs (arm_trees bs)
arm_counted [] k b lt at = absurd (omega arith)
arm_counted (c ∷ bs) zero b lt at = let same = ap (λ x. needs (body_tree x)) at in omega (arith, same)
arm_counted (c ∷ bs) (suc k) b lt at = let rest = arm_counted bs k b (omega arith) at in omega (arith, rest)

pub arm_ending-at : (call : Meaning) (d : ℕ) (bs : List Body) (k : ℕ) (b : Body) (e : Environment) (o left : ℕ) → k < length bs → b ≡ get_or bs k b
    → arm_ending call d (arm_trees bs) k e o left ≡ body_ending call d (body_tree b) e (o + arm_needs (arm_trees (take k bs))) left
arm_ending-at call d [] k b e o left lt at = absurd (omega arith)
arm_ending-at call d (c ∷ bs) zero b e o left lt at =
    let none : o ≡ o + 0 = omega arith in
    λ j. body_ending call d (body_tree (sym at j)) e (none j) left
arm_ending-at call d (c ∷ bs) (suc k) b e o left lt at =
    let count : (o + needs (body_tree c)) + arm_needs (arm_trees (take k bs)) ≡ o + (needs (body_tree c) + arm_needs (arm_trees (take k bs))) = omega arith in
    arm_ending-at call d bs k b e (o + needs (body_tree c)) left (omega arith) at ∙ (λ j. body_ending call d (body_tree b) e (count j) left)

-- results that fit an exit: there is one
pub exit_there : (g : GroupTree) (o : Option Exit) (x : Args) → ResultsFit g o x → (exit : Exit) × (o ≡ Some exit) × (length x.words ≡ exit_words g exit) × (length x.mems ≡ g.mems)
exit_there g None x fits = absurd fits
exit_there g (Some exit) x fits = (exit, refl, fits.0, fits.1)

-- ---- a call goes on

pub resume_there : (g : GroupTree) (f : Frame) (k : ℕ) (x : Args) → FrameFits g f → ResultsFit g (slice_get (exits_at g f.callee) k) x → k < length f.arms.now
resume_there g f k x fits results =
    let exit = exit_there g (slice_get (exits_at g f.callee) k) x results in
    arm_there g f.def (exits_at g f.callee) f.arms.now (length f.variables.words) (length f.variables.mems) k exit.0 fits.1 exit.1

pub resume_scope : (g : GroupTree) (f : Frame) (k : ℕ) (x : Args) (b : Body) (w m : ℕ) → FrameFits g f → ResultsFit g (slice_get (exits_at g f.callee) k) x → b ≡ get_or f.arms.now k b
    → w ≡ length f.variables.words + length x.words → m ≡ length f.variables.mems + length x.mems → BodyIsWellFormed g f.def (body_tree b) w m
resume_scope g f k x b w m fits results at ws ms =
    let exit = exit_there g (slice_get (exits_at g f.callee) k) x results in
    let here = arm_fits g f.def (exits_at g f.callee) f.arms.now (length f.variables.words) (length f.variables.mems) k exit.0 b fits.1 exit.1 at in
    let words : length f.variables.words + exit_words g exit.0 ≡ w = (λ j. length f.variables.words + sym exit.2 j) ∙ sym ws in
    let mems : length f.variables.mems + g.mems ≡ m = (λ j. length f.variables.mems + sym exit.3 j) ∙ sym ms in
    subst (λ n. BodyIsWellFormed g f.def (body_tree b) n m) words (subst (λ n. BodyIsWellFormed g f.def (body_tree b) (length f.variables.words + exit_words g exit.0) n) mems here)
