-- Evaluation without loops ends: of a definition that reaches none that enters itself again, some turns are enough for all arguments.
use Rattle.std.proofs.Common.{◌≡◌, ℕ, zero, suc, ◌+◌, ◌<◌, ◌≤◌, arith, refl, sym, subst, Option, Some, None, Bool, true, false, cond, List, [], ◌∷◌, ◌++◌}
use Rattle.std.specs.Prelude.{◌||◌, ◌==◌, slice_get}
use Rattle.std.proofs.lemmas.Bool.{eq-eqb}
use Rattle.word_terms.specs.Environment.{Environment, no_variables}
use Rattle.word_terms.specs.Value.{cond_holds}
use Rattle.tailrec_lang.specs.declared.group.Exit.{Exit}
use Rattle.tailrec_lang.specs.declared.group.Exit.TheVariants.{At, Ret}
use Rattle.tailrec_lang.specs.Tree.{BodyTree, Do, Branch, Call, Again, Leave, ArmTrees, NoArm, Arm, DefTree, GroupTree, exits_at}
use Rattle.tailrec_lang.specs.Eval.{Arguments, Ending, Exited, NeedFalse, NoTurns, Nothing, Turns, and_then, after_step, step_holds, step_needs, needs, arguments_of, body_ending, arm_ending, with_arguments, ending, eval, done_by, with_pc}
use Rattle.tailrec_lang.specs.WellFormed.{IsWellFormed, BodyIsWellFormed, ArmsAreWellFormed, exit_words, mems_after, words_after}
use Rattle.tailrec_lang.proofs.Turns.{ending-suc, of_def}
use Rattle.smt_export.specs.Reach.{Calls, IsLoopFree, ReachesBy, arms_call, arms_enter, calls, enters}

-- ---- how many turns are enough

abbrev mutual
  -- behind an entry, where those into other definitions take so many
  body_turns : (ℕ → ℕ) → BodyTree → ℕ
  body_turns turns (Do step rest) = body_turns turns rest
  body_turns turns (Branch c a b) = body_turns turns a + body_turns turns b
  body_turns turns (Call def v arms) = turns def + arm_turns turns arms
  body_turns turns (Again v) = 0
  body_turns turns (Leave exit v) = 0

  arm_turns : (ℕ → ℕ) → ArmTrees → ℕ
  arm_turns turns NoArm = 0
  arm_turns turns (Arm b bs) = body_turns turns b + arm_turns turns bs

abbrev def_turns : (ℕ → ℕ) → Option DefTree → ℕ
def_turns turns None = 1
def_turns turns (Some def) = suc (body_turns turns def.body)

-- of a definition below that number
abbrev turns_below : GroupTree → ℕ → ℕ → ℕ
turns_below g zero d = 0
turns_below g (suc k) d = def_turns (turns_below g k) (slice_get g.defs d)

-- of so many turns at most so many were used, and these were enough
abbrev IsWithin : ℕ → ℕ → Ending → Type 0
IsWithin turns used (Exited exit results left) = turns ≤ left + used
IsWithin turns used (NeedFalse def ordinal) = Unit {0}
IsWithin turns used NoTurns = ⊥
IsWithin turns used Nothing = Unit {0}

within-more : (m u w : ℕ) (o : Ending) → u ≤ w → IsWithin m u o → IsWithin m w o
within-more m u w (Exited exit results left) le h = omega (arith, h)
within-more m u w (NeedFalse def ordinal) le h = tt
within-more m u w NoTurns le h = h
within-more m u w Nothing le h = tt

within-cond : (m u : ℕ) (b : Bool) (p q : Ending) → IsWithin m u p → IsWithin m u q → IsWithin m u (cond b p q)
within-cond m u true p q h g = h
within-cond m u false p q h g = g

within-then : (m u w : ℕ) (o : Ending) (go : ℕ → Arguments → ℕ → Ending) → u + w ≤ m → IsWithin m u o
    → ((k : ℕ) (x : Arguments) (r : ℕ) → w ≤ r → IsWithin r w (go k x r)) → IsWithin m (u + w) (and_then o go)
within-then m u w (Exited exit results left) go fits h g = chained (go exit results left) (g exit results left (omega (arith, fits, h)))
  where
    chained : (o : Ending) → IsWithin left w o → IsWithin m (u + w) o
    chained (Exited exit results less) i = omega (arith, h, i)
    chained (NeedFalse def ordinal) i = tt
    chained NoTurns i = i
    chained Nothing i = tt
within-then m u w (NeedFalse def ordinal) go fits h g = tt
within-then m u w NoTurns go fits h g = h
within-then m u w Nothing go fits h g = tt

-- ---- Booleans

or-left : (a b : Bool) → a ≡ true → (a || b) ≡ true
or-left true b e = refl
or-left false b e = absurd cc

or-right : (a b : Bool) → b ≡ true → (a || b) ≡ true
or-right true b e = refl
or-right false b e = e

neither-left : (a b : Bool) → (a || b) ≡ false → a ≡ false
neither-left true b e = absurd cc
neither-left false b e = refl

neither-right : (a b : Bool) → (a || b) ≡ false → b ≡ false
neither-right true b e = absurd cc
neither-right false b e = e

is-false : (b : Bool) → (b ≡ true → ⊥) → b ≡ false
is-false true never = absurd (never refl)
is-false false never = refl

-- ---- bodies

module _ (g : GroupTree) (d : ℕ) (turns : ℕ → ℕ) (Free : ℕ → Type 0) (ends : (c : ℕ) (x : Arguments) (m : ℕ) → c < d → Free c → turns c ≤ m → IsWithin m (turns c) (ending g c x m)) where
  mutual
    body-ends : (b : BodyTree) (words mems : ℕ) → BodyIsWellFormed g d b words mems → ((c : ℕ) → calls b c ≡ true → Free c) → enters b ≡ false
        → (e : Environment) (o m : ℕ) → body_turns turns b ≤ m → IsWithin m (body_turns turns b) (body_ending (ending g) d b e o m)
    body-ends (Do step rest) words mems wf free once e o m le =
        within-cond m (body_turns turns rest) (step_holds step e) _ _
        (body-ends rest (words_after step words) (mems_after step mems) wf.1 free once (after_step step e) (o + step_needs step) m le) tt
    body-ends (Branch t a b) words mems wf free once e o m le =
        within-cond m (body_turns turns a + body_turns turns b) (cond_holds t e) _ _
        (within-more m (body_turns turns a) _ _ (omega arith)
        (body-ends a words mems wf.1 (λ c h. free c (or-left (calls a c) (calls b c) h)) (neither-left (enters a) (enters b) once) e o m (omega (arith, le))))
        (within-more m (body_turns turns b) _ _ (omega arith)
        (body-ends b words mems wf.2 (λ c h. free c (or-right (calls a c) (calls b c) h)) (neither-right (enters a) (enters b) once) e (o + needs a) m (omega (arith, le))))
    body-ends (Call def v arms) words mems wf free once e o m le =
        within-then m (turns def) (arm_turns turns arms) (ending g def (arguments_of v e) m) (λ k x r. arm_ending (ending g) d arms k (with_arguments e x) o r) le
        (ends def (arguments_of v e) m wf.0 (free def (or-left (def == def) (arms_call arms def) (eq-eqb def def refl))) (omega (arith, le)))
        (λ k x r fits. arms-end arms (exits_at g def) words mems wf.3 (λ c h. free c (or-right (def == c) (arms_call arms c) h)) once k (with_arguments e x) o r fits)
    body-ends (Again v) words mems wf free once e o m le = absurd cc
    body-ends (Leave exit v) words mems wf free once e o m le = omega arith

    arms-end : (bs : ArmTrees) (xs : List Exit) (words mems : ℕ) → ArmsAreWellFormed g d xs bs words mems → ((c : ℕ) → arms_call bs c ≡ true → Free c) → arms_enter bs ≡ false
        → (k : ℕ) (e : Environment) (o m : ℕ) → arm_turns turns bs ≤ m → IsWithin m (arm_turns turns bs) (arm_ending (ending g) d bs k e o m)
    arms-end NoArm xs words mems wf free once k e o m le = tt
    arms-end (Arm b bs) [] words mems wf free once k e o m le = absurd wf
    arms-end (Arm b bs) (x ∷ xs) words mems wf free once zero e o m le =
        within-more m (body_turns turns b) _ _ (omega arith)
        (body-ends b (words + exit_words g x) (mems + g.mems) wf.0 (λ c h. free c (or-left (calls b c) (arms_call bs c) h)) (neither-left (enters b) (arms_enter bs) once) e o m (omega (arith, le)))
    arms-end (Arm b bs) (x ∷ xs) words mems wf free once (suc k) e o m le =
        within-more m (arm_turns turns bs) _ _ (omega arith)
        (arms-end bs xs words mems wf.1 (λ c h. free c (or-right (calls b c) (arms_call bs c) h)) (neither-right (enters b) (arms_enter bs) once) k e (o + needs b) m (omega (arith, le)))

-- ---- definitions

reaches-through : (g : GroupTree) (d c : ℕ) → Calls g d c → (way : List ℕ) (e : ℕ) → ReachesBy g c way e → ReachesBy g d (way ++ d ∷ []) e
reaches-through g d c called [] e is = (refl, subst (λ (k : ℕ). Calls g d k) is called)
reaches-through g d c called (w ∷ way) e h = (reaches-through g d c called way w h.0, h.1)

free-callee : (g : GroupTree) (d c : ℕ) → IsLoopFree g d → Calls g d c → IsLoopFree g c
free-callee g d c free called e reached = free e (reached.0 ++ d ∷ [], reaches-through g d c called reached.0 e reached.1)

def-ends : (g : GroupTree) → IsWellFormed g → (k d : ℕ) → d < k → IsLoopFree g d → (x : Arguments) (m : ℕ) → turns_below g k d ≤ m → IsWithin m (turns_below g k d) (ending g d x m)
def-ends g wf zero d lt free x m le = absurd (omega (arith, lt))
def-ends g wf (suc k) d lt free x zero le = absurd (none (slice_get g.defs d) le)
  where
    none : (o : Option DefTree) → def_turns (turns_below g k) o ≤ 0 → ⊥
    none None le = omega (arith, le)
    none (Some def) le = omega (arith, le)
def-ends g wf (suc k) d lt free x (suc m) le =
    subst (IsWithin (suc m) (def_turns (turns_below g k) (slice_get g.defs d))) (sym (ending-suc g d x m))
    (by (λ c y n below fr fits. def-ends g wf k c (omega (arith, below, lt)) fr y n fits) (slice_get g.defs d) refl le)
  where
    by : ((c : ℕ) (y : Arguments) (n : ℕ) → c < d → IsLoopFree g c → turns_below g k c ≤ n → IsWithin n (turns_below g k c) (ending g c y n))
        → (o : Option DefTree) → slice_get g.defs d ≡ o → def_turns (turns_below g k) o ≤ suc m
        → IsWithin (suc m) (def_turns (turns_below g k) o) (of_def o (λ def. body_ending (ending g) d def.body (with_arguments no_variables x) 0 m))
    by earlier None is le = tt
    by earlier (Some def) is le =
        entered (body_ending (ending g) d def.body (with_arguments no_variables x) 0 m)
        (body-ends g d (turns_below g k) (IsLoopFree g) earlier def.body _ _ (wf d def is)
        (λ c h. free-callee g d c free (def, is, h)) (is-false (enters def.body) (λ again. free d ([], refl) (def, is, again))) (with_arguments no_variables x) 0 m (omega (arith, le)))
      where
        entered : (o : Ending) → IsWithin m (body_turns (turns_below g k) def.body) o → IsWithin (suc m) (suc (body_turns (turns_below g k) def.body)) o
        entered (Exited exit results left) h = omega (arith, h)
        entered (NeedFalse f ordinal) h = tt
        entered NoTurns h = h
        entered Nothing h = tt

not-turns : (xs : List Exit) (m u : ℕ) (o : Ending) → IsWithin m u o → with_pc xs o ≡ Turns → ⊥
not-turns xs m u (Exited exit results left) h e = by (slice_get xs exit) e
  where
    by : (x : Option Exit) → done_by x exit results left ≡ Turns → ⊥
    by None e = cc
    by (Some (At a)) e = cc
    by (Some Ret) e = cc
not-turns xs m u (NeedFalse def ordinal) h e = cc
not-turns xs m u NoTurns h e = h
not-turns xs m u Nothing h e = cc

pub ends : (g : GroupTree) (d : ℕ) → IsWellFormed g → IsLoopFree g d → (n : ℕ) × ((x : Arguments) → eval g d x n ≡ Turns → ⊥)
ends g d wf free = (turns_below g (suc d) d, λ x e. not-turns (exits_at g d) _ _ (ending g d x (turns_below g (suc d) d)) (def-ends g wf (suc d) d (omega arith) free x _ (omega arith)) e)
