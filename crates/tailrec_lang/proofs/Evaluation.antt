-- One turn of an evaluation, and its outcome.
use Rattle.std.proofs.Common.{◌≡◌, ℕ, zero, suc, ◌-◌, ◌<◌, List, [], ◌∷◌, length, drop, refl, sym, ◌∙◌, arith, subst, Option, Some, None}
use Rattle.std.specs.Prelude.{slice_get}
use Rattle.std.specs.FinMap.{get}
use Rattle.std.proofs.lemmas.List.{length-map, length-drop}
use Rattle.std.proofs.lemmas.Option.{slice_get_within}
use Rattle.tailrec_lang.specs.declared.group.Exit.{Exit}
use Rattle.tailrec_lang.specs.declared.group.Exit.TheVariants.{At, Ret}
use Rattle.tailrec_lang.specs.declared.args.Args.{Args}
use Rattle.tailrec_lang.specs.declared.walk.Walk.{Walk}
use Rattle.tailrec_lang.specs.Tree.{BodyTree, DefTree, GroupTree, exits_at}
use Rattle.tailrec_lang.specs.WellFormed.{BodyIsWellFormed, IsWellFormed}
use Rattle.tailrec_lang.specs.Eval.{Meaning, LeavesInScope, arguments, body_ending, done_by, ending, variables_of}
use Rattle.tailrec_lang.specs.inner.Walk.{ResultsFit, walk_ending}
use Rattle.tailrec_lang.proofs.Turns.{ending-enter}
use Rattle.tailrec_lang.proofs.Environments.{entry_variables}

pub item_there : {A : Type 0} (xs : List A) (k : ℕ) → k < length xs → (x : A) × (slice_get xs k ≡ Some x)
item_there [] k lt = absurd (omega arith)
item_there (x ∷ xs) zero lt = (x, refl)
item_there (x ∷ xs) (suc k) lt = item_there xs k (omega arith)

-- an entry with turns left, as far as the way through its body goes
pub turn_taken : (g : GroupTree) (d left : ℕ) (x : Args) (b : BodyTree) (def : DefTree) (w : Walk) (before : ℕ) → before ≡ 0 → slice_get g.defs d ≡ Some def → b ≡ def.body
    → ((call : Meaning) (d left : ℕ) → body_ending call d b (variables_of x) before left ≡ walk_ending call d w left) → 0 < left
    → ending g d (arguments x) left ≡ walk_ending (ending g) d w (left - 1)
turn_taken g d left x b def w before none is same way more =
    let one : left ≡ suc (left - 1) = omega arith in
    (λ j. ending g d (arguments x) (one j)) ∙ ending-enter g d (arguments x) (left - 1) def is
    ∙ (λ j. body_ending (ending g) d (sym same j) (entry_variables x j) (sym none j) (left - 1)) ∙ way (ending g) d (left - 1)

pub entry_fits : (g : GroupTree) (d : ℕ) (b : BodyTree) (def : DefTree) (w m : ℕ) → IsWellFormed g → slice_get g.defs d ≡ Some def → b ≡ def.body → w ≡ length g.regs → m ≡ g.mems
    → BodyIsWellFormed g d b w m
entry_fits g d b def w m wf is same ws ms =
    subst (λ n. BodyIsWellFormed g d b n m) (sym ws) (subst (λ n. BodyIsWellFormed g d b (length g.regs) n) (sym ms) (subst (λ t. BodyIsWellFormed g d t (length g.regs) g.mems) (sym same) (wf d def is)))

-- leaving by an exit with results that fit it
pub done_in_scope : (g : GroupTree) (d turns : ℕ) (o : Option Exit) (k : ℕ) (x : Args) (left : ℕ) → slice_get (exits_at g d) k ≡ o → ResultsFit g o x → left < turns
    → LeavesInScope g d turns (done_by o k (arguments x) left)
done_in_scope g d turns None k x left is fits lt = absurd fits
done_in_scope g d turns (Some (At a)) k x left is fits lt = (slice_get_within (exits_at g d) k (At a) is, fits.0, length-map x.mems get ∙ fits.1, lt)
done_in_scope g d turns (Some Ret) k x left is fits lt =
    let words : length (drop 1 x.words) ≡ length g.regs = omega (arith, length-drop 1 x.words, fits.0) in
    (slice_get_within (exits_at g d) k Ret is, words, length-map x.mems get ∙ fits.1, lt)
