-- The depth of nested entries doesn't matter where it is enough, and neither do turns that aren't used.
use Rattle.std.proofs.Common.{◌≡◌, ℕ, zero, suc, ◌+◌, ◌<◌, ◌≤◌, arith, refl, sym, subst, ◌∙◌, Option, Some, None, Bool, true, false, cond, List}
use Rattle.std.specs.Prelude.{slice_get, option_map, unwrap_or}
use Rattle.tailrec_lang.specs.declared.group.Exit.{Exit}
use Rattle.tailrec_lang.specs.declared.group.Exit.TheVariants.{At, Ret}
use Rattle.word_terms.specs.Environment.{Environment, no_variables}
use Rattle.word_terms.specs.Value.{cond_holds}
use Rattle.tailrec_lang.specs.Tree.{BodyTree, Do, Branch, Call, Again, Leave, ArmTrees, NoArm, Arm, DefTree, GroupTree, exits_at}
use Rattle.tailrec_lang.specs.Eval.{Arguments, Ending, Exited, NeedFalse, NoTurns, Nothing, Meaning, Done, SideFalse, and_then, after_step, step_holds, step_needs, needs, arguments_of, body_ending, arm_ending, with_arguments, ending_within, ending, eval, done_by, with_pc}

-- what comes of a definition, if there is one of its number
abbrev pub of_def : Option DefTree → (DefTree → Ending) → Ending
of_def o go = unwrap_or (option_map go o) Nothing

-- at most that many turns are left
abbrev pub IsLeft : ℕ → Ending → Type 0
IsLeft turns (Exited exit results left) = left ≤ turns
IsLeft turns (NeedFalse def ordinal) = Unit {0}
IsLeft turns NoTurns = Unit {0}
IsLeft turns Nothing = Unit {0}

is_left-more : (m n : ℕ) (o : Ending) → m ≤ n → IsLeft m o → IsLeft n o
is_left-more m n (Exited exit results left) le h = omega (arith, h)
is_left-more m n (NeedFalse def ordinal) le h = tt
is_left-more m n NoTurns le h = tt
is_left-more m n Nothing le h = tt

is_left-cond : (m : ℕ) (b : Bool) (p q : Ending) → IsLeft m p → IsLeft m q → IsLeft m (cond b p q)
is_left-cond m true p q h g = h
is_left-cond m false p q h g = g

is_left-then : (m : ℕ) (o : Ending) (go : ℕ → Arguments → ℕ → Ending) → IsLeft m o → ((k : ℕ) (x : Arguments) (r : ℕ) → r ≤ m → IsLeft m (go k x r)) → IsLeft m (and_then o go)
is_left-then m (Exited exit results left) go h g = g exit results left h
is_left-then m (NeedFalse def ordinal) go h g = tt
is_left-then m NoTurns go h g = tt
is_left-then m Nothing go h g = tt

-- no entry leaves more turns than it was given
abbrev pub Falls : Meaning → Type 0
Falls call = (d : ℕ) (x : Arguments) (n : ℕ) → IsLeft n (call d x n)

module _ (call : Meaning) (falls : Falls call) (d : ℕ) where
  mutual
    body_left : (b : BodyTree) (e : Environment) (o m : ℕ) → IsLeft m (body_ending call d b e o m)
    body_left (Do step rest) e o m = is_left-cond m (step_holds step e) _ _ (body_left rest (after_step step e) (o + step_needs step) m) tt
    body_left (Branch c a b) e o m = is_left-cond m (cond_holds c e) _ _ (body_left a e o m) (body_left b e (o + needs a) m)
    body_left (Call def v arms) e o m =
        is_left-then m (call def (arguments_of v e) m) (λ k x r. arm_ending call d arms k (with_arguments e x) o r) (falls def (arguments_of v e) m)
        (λ k x r le. is_left-more r m _ le (arm_left arms k (with_arguments e x) o r))
    body_left (Again v) e o m = falls d (arguments_of v e) m
    body_left (Leave exit v) e o m = omega arith

    arm_left : (bs : ArmTrees) (k : ℕ) (e : Environment) (o m : ℕ) → IsLeft m (arm_ending call d bs k e o m)
    arm_left NoArm k e o m = tt
    arm_left (Arm b bs) zero e o m = body_left b e o m
    arm_left (Arm b bs) (suc k) e o m = arm_left bs k e (o + needs b) m

left-of_def : (m : ℕ) (o : Option DefTree) (go : DefTree → Ending) → ((d : DefTree) → IsLeft m (go d)) → IsLeft m (of_def o go)
left-of_def m None go h = tt
left-of_def m (Some d) go h = h d

ending_within-falls : (g : GroupTree) (depth : ℕ) → Falls (ending_within depth g)
ending_within-falls g zero d x n = tt
ending_within-falls g (suc depth) d x zero = tt
ending_within-falls g (suc depth) d x (suc m) =
    is_left-more m (suc m) _ (omega arith)
    (left-of_def m (slice_get g.defs d) _ (λ def. body_left (ending_within depth g) (ending_within-falls g depth) d def.body (with_arguments no_variables x) 0 m))

pub ending-falls : (g : GroupTree) → Falls (ending g)
ending-falls g d x n = ending_within-falls g n d x n

-- ---- depth

-- the two agree within that many turns
abbrev Agree : ℕ → Meaning → Meaning → Type 0
Agree turns call other = (d : ℕ) (x : Arguments) (m : ℕ) → m ≤ turns → call d x m ≡ other d x m

same-then : (m : ℕ) (o : Ending) (go other : ℕ → Arguments → ℕ → Ending) → IsLeft m o → ((k : ℕ) (x : Arguments) (r : ℕ) → r ≤ m → go k x r ≡ other k x r) → and_then o go ≡ and_then o other
same-then m (Exited exit results left) go other h same = same exit results left h
same-then m (NeedFalse def ordinal) go other h same = refl
same-then m NoTurns go other h same = refl
same-then m Nothing go other h same = refl

-- how a body ends depends only on how entries end within the turns that are left
module _ (call other : Meaning) (falls : Falls call) (d : ℕ) where
  mutual
    body_ending-agree : (b : BodyTree) (e : Environment) (o m : ℕ) → Agree m call other → body_ending call d b e o m ≡ body_ending other d b e o m
    body_ending-agree (Do step rest) e o m same = λ j. cond (step_holds step e) (body_ending-agree rest (after_step step e) (o + step_needs step) m same j) (NeedFalse d o)
    body_ending-agree (Branch c a b) e o m same = λ j. cond (cond_holds c e) (body_ending-agree a e o m same j) (body_ending-agree b e (o + needs a) m same j)
    body_ending-agree (Call def v arms) e o m same =
        same-then m (call def (arguments_of v e) m) (λ k x r. arm_ending call d arms k (with_arguments e x) o r) (λ k x r. arm_ending other d arms k (with_arguments e x) o r)
        (falls def (arguments_of v e) m)
        (λ k x r le. arm_ending-agree arms k (with_arguments e x) o r (λ d' x' n' le'. same d' x' n' (omega arith)))
        ∙ (λ j. and_then (same def (arguments_of v e) m (omega arith) j) (λ k x r. arm_ending other d arms k (with_arguments e x) o r))
    body_ending-agree (Again v) e o m same = same d (arguments_of v e) m (omega arith)
    body_ending-agree (Leave exit v) e o m same = refl

    arm_ending-agree : (bs : ArmTrees) (k : ℕ) (e : Environment) (o m : ℕ) → Agree m call other → arm_ending call d bs k e o m ≡ arm_ending other d bs k e o m
    arm_ending-agree NoArm k e o m same = refl
    arm_ending-agree (Arm b bs) zero e o m same = body_ending-agree b e o m same
    arm_ending-agree (Arm b bs) (suc k) e o m same = arm_ending-agree bs k e (o + needs b) m same

of_def-same : (o : Option DefTree) (go other : DefTree → Ending) → ((d : DefTree) → go d ≡ other d) → of_def o go ≡ of_def o other
of_def-same None go other same = refl
of_def-same (Some d) go other same = same d

-- two depths that are both enough
ending_within-agree : (g : GroupTree) (a b d : ℕ) (x : Arguments) (m : ℕ) → m ≤ a → m ≤ b → ending_within a g d x m ≡ ending_within b g d x m
ending_within-agree g zero zero d x m le le' = refl
ending_within-agree g zero (suc b) d x zero le le' = refl
ending_within-agree g zero (suc b) d x (suc m) le le' = absurd (omega arith)
ending_within-agree g (suc a) zero d x zero le le' = refl
ending_within-agree g (suc a) zero d x (suc m) le le' = absurd (omega arith)
ending_within-agree g (suc a) (suc b) d x zero le le' = refl
ending_within-agree g (suc a) (suc b) d x (suc m) le le' =
    of_def-same (slice_get g.defs d) _ _ (λ def.
    body_ending-agree (ending_within a g) (ending_within b g) (ending_within-falls g a) d def.body (with_arguments no_variables x) 0 m (λ d' x' n within.
    ending_within-agree g a b d' x' n (omega arith) (omega arith)))

-- the equation of evaluation: an entry takes one turn, and then the body ends it
pub ending-suc : (g : GroupTree) (d : ℕ) (x : Arguments) (left : ℕ)
    → ending g d x (suc left) ≡ of_def (slice_get g.defs d) (λ def. body_ending (ending g) d def.body (with_arguments no_variables x) 0 left)
ending-suc g d x left =
    of_def-same (slice_get g.defs d) _ _ (λ def.
    body_ending-agree (ending_within left g) (ending g) (ending_within-falls g left) d def.body (with_arguments no_variables x) 0 left (λ d' x' n within.
    ending_within-agree g left n d' x' n within (omega arith)))

-- an entry into a definition that is there
pub ending-enter : (g : GroupTree) (d : ℕ) (x : Arguments) (left : ℕ) (def : DefTree) → slice_get g.defs d ≡ Some def
    → ending g d x (suc left) ≡ body_ending (ending g) d def.body (with_arguments no_variables x) 0 left
ending-enter g d x left def is = ending-suc g d x left ∙ (λ j. of_def (is j) (λ def'. body_ending (ending g) d def'.body (with_arguments no_variables x) 0 left))

-- an entry that leaves by an exit used a turn
pub ending-below : (g : GroupTree) (d : ℕ) (x : Arguments) (turns exit : ℕ) (results : Arguments) (left : ℕ) → ending g d x turns ≡ Exited exit results left → left < turns
ending-below g d x zero exit results left e = absurd (cc)
ending-below g d x (suc n) exit results left e =
    let some = left-of_def n (slice_get g.defs d) (λ def. body_ending (ending g) d def.body (with_arguments no_variables x) 0 n)
    (λ def. body_left (ending g) (ending-falls g) d def.body (with_arguments no_variables x) 0 n) in
    let here : IsLeft n (Exited exit results left) = subst (IsLeft n) (sym (ending-suc g d x n) ∙ e) some in
    omega (arith, here)

-- ---- more turns

-- where the first leaves by an exit, the second does with n more turns left
abbrev Keeps : ℕ → Ending → Ending → Type 0
Keeps n (Exited exit results left) o = o ≡ Exited exit results (left + n)
Keeps n (NeedFalse def ordinal) o = o ≡ NeedFalse def ordinal
Keeps n NoTurns o = Unit {0}
Keeps n Nothing o = Unit {0}

-- n more turns are left over, where there were at most m
abbrev Grows : ℕ → ℕ → Meaning → Type 0
Grows n m call = (d : ℕ) (x : Arguments) (r : ℕ) → r ≤ m → Keeps n (call d x r) (call d x (r + n))

keeps-cond : (n : ℕ) (b : Bool) (p q p' q' : Ending) → Keeps n p p' → Keeps n q q' → Keeps n (cond b p q) (cond b p' q')
keeps-cond n true p q p' q' h g = h
keeps-cond n false p q p' q' h g = g

keeps-then : (n m : ℕ) (o p : Ending) (go : ℕ → Arguments → ℕ → Ending) → IsLeft m o → Keeps n o p
    → ((k : ℕ) (x : Arguments) (r : ℕ) → r ≤ m → Keeps n (go k x r) (go k x (r + n))) → Keeps n (and_then o go) (and_then p go)
keeps-then n m (Exited exit results left) p go le h g = subst (Keeps n (go exit results left)) (sym (λ j. and_then (h j) go)) (g exit results left le)
keeps-then n m (NeedFalse def ordinal) p go le h g = λ j. and_then (h j) go
keeps-then n m NoTurns p go le h g = tt
keeps-then n m Nothing p go le h g = tt

module _ (call : Meaning) (falls : Falls call) (n d : ℕ) where
  mutual
    body_keeps : (b : BodyTree) (e : Environment) (o m : ℕ) → Grows n m call → Keeps n (body_ending call d b e o m) (body_ending call d b e o (m + n))
    body_keeps (Do step rest) e o m grows = keeps-cond n (step_holds step e) _ _ _ _ (body_keeps rest (after_step step e) (o + step_needs step) m grows) refl
    body_keeps (Branch c a b) e o m grows = keeps-cond n (cond_holds c e) _ _ _ _ (body_keeps a e o m grows) (body_keeps b e (o + needs a) m grows)
    body_keeps (Call def v arms) e o m grows =
        keeps-then n m (call def (arguments_of v e) m) (call def (arguments_of v e) (m + n)) (λ k x r. arm_ending call d arms k (with_arguments e x) o r)
        (falls def (arguments_of v e) m) (grows def (arguments_of v e) m (omega arith))
        (λ k x r le. arm_keeps arms k (with_arguments e x) o r (λ d' x' n' le'. grows d' x' n' (omega arith)))
    body_keeps (Again v) e o m grows = grows d (arguments_of v e) m (omega arith)
    body_keeps (Leave exit v) e o m grows = refl

    arm_keeps : (bs : ArmTrees) (k : ℕ) (e : Environment) (o m : ℕ) → Grows n m call → Keeps n (arm_ending call d bs k e o m) (arm_ending call d bs k e o (m + n))
    arm_keeps NoArm k e o m grows = tt
    arm_keeps (Arm b bs) zero e o m grows = body_keeps b e o m grows
    arm_keeps (Arm b bs) (suc k) e o m grows = arm_keeps bs k e (o + needs b) m grows

keeps-of_def : (n : ℕ) (o : Option DefTree) (go more : DefTree → Ending) → ((d : DefTree) → Keeps n (go d) (more d)) → Keeps n (of_def o go) (of_def o more)
keeps-of_def n None go more h = tt
keeps-of_def n (Some d) go more h = h d

ending-grows : (g : GroupTree) (n m : ℕ) → Grows n m (ending g)
ending-grows g n m d x zero le = tt
ending-grows g n zero d x (suc r) le = absurd (omega arith)
ending-grows g n (suc m) d x (suc r) le =
    let more : suc (r + n) ≡ suc r + n = omega arith in
    subst (λ t. Keeps n (ending g d x (suc r)) (ending g d x t)) more
    (subst (λ o. Keeps n o (ending g d x (suc (r + n)))) (sym (ending-suc g d x r))
    (subst (Keeps n (of_def (slice_get g.defs d) (λ def. body_ending (ending g) d def.body (with_arguments no_variables x) 0 r))) (sym (ending-suc g d x (r + n)))
    (keeps-of_def n (slice_get g.defs d) _ _ (λ def. body_keeps (ending g) (ending-falls g) n d def.body (with_arguments no_variables x) 0 r
    (λ d' x' r' le'. ending-grows g n m d' x' r' (omega arith))))))

pub ending-exited : (g : GroupTree) (d : ℕ) (x : Arguments) (turns more exit : ℕ) (results : Arguments) (left : ℕ)
    → ending g d x turns ≡ Exited exit results left → ending g d x (turns + more) ≡ Exited exit results (left + more)
ending-exited g d x turns more exit results left e = subst (λ o. Keeps more o (ending g d x (turns + more))) e (ending-grows g more turns d x turns (omega arith))

pub ending-need_false : (g : GroupTree) (d : ℕ) (x : Arguments) (turns more def ordinal : ℕ)
    → ending g d x turns ≡ NeedFalse def ordinal → ending g d x (turns + more) ≡ NeedFalse def ordinal
ending-need_false g d x turns more def ordinal e = subst (λ o. Keeps more o (ending g d x (turns + more))) e (ending-grows g more turns d x turns (omega arith))

-- ---- outcomes

done_by-more : (o : Option Exit) (k : ℕ) (x : Arguments) (l n exit pc : ℕ) (results : Arguments) (left : ℕ)
    → done_by o k x l ≡ Done exit pc results left → done_by o k x (l + n) ≡ Done exit pc results (left + n)
done_by-more None k x l n exit pc results left e = absurd (cc)
done_by-more (Some (At a)) k x l n exit pc results left e = cc
done_by-more (Some Ret) k x l n exit pc results left e = cc

done_by-not_false : (o : Option Exit) (k : ℕ) (x : Arguments) (l def ordinal : ℕ) → done_by o k x l ≡ SideFalse def ordinal → ⊥
done_by-not_false None k x l def ordinal e = cc
done_by-not_false (Some (At a)) k x l def ordinal e = cc
done_by-not_false (Some Ret) k x l def ordinal e = cc

with_pc-more : (xs : List Exit) (o p : Ending) (n exit pc : ℕ) (results : Arguments) (left : ℕ) → Keeps n o p
    → with_pc xs o ≡ Done exit pc results left → with_pc xs p ≡ Done exit pc results (left + n)
with_pc-more xs (Exited k x l) p n exit pc results left h e = (λ j. with_pc xs (h j)) ∙ done_by-more (slice_get xs k) k x l n exit pc results left e
with_pc-more xs (NeedFalse def ordinal) p n exit pc results left h e = absurd (cc)
with_pc-more xs NoTurns p n exit pc results left h e = absurd (cc)
with_pc-more xs Nothing p n exit pc results left h e = absurd (cc)

with_pc-false : (xs : List Exit) (o p : Ending) (n def ordinal : ℕ) → Keeps n o p → with_pc xs o ≡ SideFalse def ordinal → with_pc xs p ≡ SideFalse def ordinal
with_pc-false xs (Exited k x l) p n def ordinal h e = absurd (done_by-not_false (slice_get xs k) k x l def ordinal e)
with_pc-false xs (NeedFalse d o) p n def ordinal h e = (λ j. with_pc xs (h j)) ∙ e
with_pc-false xs NoTurns p n def ordinal h e = absurd (cc)
with_pc-false xs Nothing p n def ordinal h e = absurd (cc)

pub eval-more : (g : GroupTree) (d : ℕ) (x : Arguments) (turns more exit pc : ℕ) (results : Arguments) (left : ℕ)
    → eval g d x turns ≡ Done exit pc results left → eval g d x (turns + more) ≡ Done exit pc results (left + more)
eval-more g d x turns more exit pc results left e =
    with_pc-more (exits_at g d) (ending g d x turns) (ending g d x (turns + more)) more exit pc results left (ending-grows g more turns d x turns (omega arith)) e

pub eval-more_false : (g : GroupTree) (d : ℕ) (x : Arguments) (turns more def ordinal : ℕ)
    → eval g d x turns ≡ SideFalse def ordinal → eval g d x (turns + more) ≡ SideFalse def ordinal
eval-more_false g d x turns more def ordinal e =
    with_pc-false (exits_at g d) (ending g d x turns) (ending g d x (turns + more)) more def ordinal (ending-grows g more turns d x turns (omega arith)) e
