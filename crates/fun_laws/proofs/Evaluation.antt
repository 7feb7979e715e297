-- Groups whose definitions are alike have the same evaluation.
use Rattle.std.proofs.Common.{◌≡◌, ℕ, zero, suc, ◌+◌, Bool, true, false, cond, List, [], ◌∷◌, slice_get, map, refl, ap, subst, ◌∙◌}
use Rattle.std.specs.List.{AllByRecursion}
use Rattle.word_terms.specs.Tree.{WordTree, MemTree}
use Rattle.word_terms.specs.Environment.{Environment, IsInRange, no_variables, with_word, with_mem}
use Rattle.word_terms.specs.Value.{word_value, mem_value, cond_holds}
use Rattle.word_terms.specs.Scope.{WordInRange, MemInRange}
use Rattle.word_terms.proofs.Ranges.{word_in_range}
use Rattle.tailrec_lang.specs.Tree.{ValuesTree, StepTree, Bind, BindMem, Need, BodyTree, Do, Branch, Call, Again, Leave, ArmTrees, NoArm, Arm, DefTree, GroupTree, exits_at}
use Rattle.tailrec_lang.specs.Eval.{Arguments, Ending, Exited, NeedFalse, NoTurns, Nothing, Meaning, and_then, after_step, step_holds, step_needs, needs, arm_needs, arguments_of, body_ending, arm_ending, with_arguments, ending_within, eval, with_pc}
use Rattle.tailrec_lang.proofs.Turns.{of_def}
use Rattle.group_terms.specs.Range.{ArgumentsInRange, ValuesInRange, StepInRange, BodyInRange, ArmsInRange, DefInRange}
use Rattle.group_terms.proofs.Ranges.{in_range-with_word, in_range-with_mem, in_range-with, in_range-none, memory, values_in_range}
use Rattle.fun_laws.specs.Rewriting.{with_defs}
use Rattle.fun_laws.specs.inner.Alike.{EachPair, AlikeWords, AlikeMems, AlikeValues, AlikeSteps, AlikeBodies, AlikeArms, AlikeDefs}

-- ---- values

module _ (e : Environment) (r : IsInRange e) where
  words_same : (ts us : List WordTree) → AllByRecursion WordInRange ts → EachPair AlikeWords ts us → map (λ t. word_value t e) ts ≡ map (λ t. word_value t e) us
  words_same [] [] h a = refl
  words_same [] (u ∷ us) h a = absurd a
  words_same (t ∷ ts) [] h a = absurd a
  words_same (t ∷ ts) (u ∷ us) h a = λ j. a.0.same h.0 e r j ∷ words_same ts us h.1 a.1 j

  mems_same : (ms ns : List MemTree) → AllByRecursion MemInRange ms → EachPair AlikeMems ms ns → map (λ m. mem_value m e) ms ≡ map (λ m. mem_value m e) ns
  mems_same [] [] h a = refl
  mems_same [] (n ∷ ns) h a = absurd a
  mems_same (m ∷ ms) [] h a = absurd a
  mems_same (m ∷ ms) (n ∷ ns) h a = λ j. a.0.same h.0 e r j ∷ mems_same ms ns h.1 a.1 j

  values_same : (v w : ValuesTree) → ValuesInRange v → AlikeValues v w → arguments_of v e ≡ arguments_of w e
  values_same v w h a = λ j. record { words = words_same v.words w.words h.0 a.0 j; mems = mems_same v.mems w.mems h.1 a.1 j }

  holds_same : (s t : StepTree) → StepInRange s → AlikeSteps s t → step_holds s e ≡ step_holds t e
  holds_same (Bind t) (Bind u) h a = refl
  holds_same (BindMem m) (BindMem n) h a = refl
  holds_same (Need c) (Need d) h a = a.same h e r
  holds_same (Bind t) (BindMem n) h a = absurd a
  holds_same (Bind t) (Need n) h a = absurd a
  holds_same (BindMem t) (Bind n) h a = absurd a
  holds_same (BindMem t) (Need n) h a = absurd a
  holds_same (Need t) (Bind n) h a = absurd a
  holds_same (Need t) (BindMem n) h a = absurd a

  after_same : (s t : StepTree) → StepInRange s → AlikeSteps s t → after_step s e ≡ after_step t e
  after_same (Bind t) (Bind u) h a = λ j. with_word e (a.same h e r j)
  after_same (BindMem m) (BindMem n) h a = λ j. with_mem e (a.same h e r j)
  after_same (Need c) (Need d) h a = refl
  after_same (Bind t) (BindMem n) h a = absurd a
  after_same (Bind t) (Need n) h a = absurd a
  after_same (BindMem t) (Bind n) h a = absurd a
  after_same (BindMem t) (Need n) h a = absurd a
  after_same (Need t) (Bind n) h a = absurd a
  after_same (Need t) (BindMem n) h a = absurd a

  after_in_range : (s : StepTree) → StepInRange s → IsInRange (after_step s e)
  after_in_range (Bind t) h = in_range-with_word e r (word_value t e) (word_in_range e r t h)
  after_in_range (BindMem m) h = in_range-with_mem e r (mem_value m e) (memory e r m)
  after_in_range (Need c) h = r

-- ---- Needs

step_needs-same : (s t : StepTree) → AlikeSteps s t → step_needs s ≡ step_needs t
step_needs-same (Bind t) (Bind u) a = refl
step_needs-same (BindMem m) (BindMem n) a = refl
step_needs-same (Need c) (Need d) a = refl
step_needs-same (Bind t) (BindMem n) a = absurd a
step_needs-same (Bind t) (Need n) a = absurd a
step_needs-same (BindMem t) (Bind n) a = absurd a
step_needs-same (BindMem t) (Need n) a = absurd a
step_needs-same (Need t) (Bind n) a = absurd a
step_needs-same (Need t) (BindMem n) a = absurd a

mutual
  pub needs-same : (b c : BodyTree) → AlikeBodies b c → needs b ≡ needs c
  needs-same (Do s b) (Do t c) a = λ j. step_needs-same s t a.0 j + needs-same b c a.1 j
  needs-same (Branch c a b) (Branch c' a' b') h = λ j. needs-same a a' h.1 j + needs-same b b' h.2 j
  needs-same (Call def v arms) (Call def' v' arms') h = arm_needs-same arms arms' h.2
  needs-same (Again v) (Again w) h = refl
  needs-same (Leave k v) (Leave l w) h = refl
  needs-same _ _ h = absurd h

  arm_needs-same : (bs cs : ArmTrees) → AlikeArms bs cs → arm_needs bs ≡ arm_needs cs
  arm_needs-same NoArm NoArm h = refl
  arm_needs-same (Arm b bs) (Arm c cs) h = λ j. needs-same b c h.0 j + arm_needs-same bs cs h.1 j
  arm_needs-same _ _ h = absurd h

-- ---- endings

abbrev Ranged : Ending → Type 0
Ranged (Exited exit results left) = ArgumentsInRange results
Ranged (NeedFalse def ordinal) = Unit {0}
Ranged NoTurns = Unit {0}
Ranged Nothing = Unit {0}

-- the same ending, with results in range
abbrev SameEnding : Ending → Ending → Type 0
SameEnding p q = (p ≡ q) × Ranged p

same-cond : (s t : Bool) (p q p' q' : Ending) → s ≡ t → SameEnding p p' → SameEnding q q' → SameEnding (cond s p q) (cond t p' q')
same-cond s t p q p' q' e a b = subst (λ t. SameEnding (cond s p q) (cond t p' q')) e (elim s as (λ s. SameEnding (cond s p q) (cond s p' q')) [ true ↦ a | false ↦ b ])

same-then : (o : Ending) (go other : ℕ → Arguments → ℕ → Ending) → Ranged o
    → ((k : ℕ) (x : Arguments) (l : ℕ) → ArgumentsInRange x → SameEnding (go k x l) (other k x l)) → SameEnding (and_then o go) (and_then o other)
same-then (Exited exit results left) go other r h = h exit results left r
same-then (NeedFalse def ordinal) go other r h = (refl, tt)
same-then NoTurns go other r h = (refl, tt)
same-then Nothing go other r h = (refl, tt)

-- entries end in the same way, with results in range, on arguments in range
abbrev Agree : Meaning → Meaning → Type 0
Agree call other = (d : ℕ) (x : Arguments) (n : ℕ) → ArgumentsInRange x → SameEnding (call d x n) (other d x n)

module _ (call other : Meaning) (d : ℕ) (agree : Agree call other) where
  mutual
    body_same : (b c : BodyTree) (e : Environment) (o p m : ℕ) → IsInRange e → o ≡ p → BodyInRange b → AlikeBodies b c
        → SameEnding (body_ending call d b e o m) (body_ending other d c e p m)
    body_same (Do s b) (Do t c) e o p m r same h a =
        same-cond (step_holds s e) (step_holds t e) _ _ _ _ (holds_same e r s t h.0 a.0)
        (subst (λ f. SameEnding (body_ending call d b (after_step s e) (o + step_needs s) m) (body_ending other d c f (p + step_needs t) m)) (after_same e r s t h.0 a.0)
        (body_same b c (after_step s e) (o + step_needs s) (p + step_needs t) m (after_in_range e r s h.0) (λ j. same j + step_needs-same s t a.0 j) h.1 a.1))
        (ap (NeedFalse d) same, tt)
    body_same (Branch c a b) (Branch c' a' b') e o p m r same h k =
        same-cond (cond_holds c e) (cond_holds c' e) _ _ _ _ (k.0.same h.0 e r)
        (body_same a a' e o p m r same h.1 k.1)
        (body_same b b' e (o + needs a) (p + needs a') m r (λ j. same j + needs-same a a' k.1 j) h.2 k.2)
    body_same (Call def v arms) (Call def' v' arms') e o p m r same h a =
        let one = agree def (arguments_of v e) m (values_in_range e r v h.0) in
        let two : call def (arguments_of v e) m ≡ other def' (arguments_of v' e) m = one.0 ∙ (λ j. other (a.0 j) (values_same e r v v' h.0 a.1 j) m) in
        subst (λ q. SameEnding (and_then (call def (arguments_of v e) m) (λ k x l. arm_ending call d arms k (with_arguments e x) o l)) (and_then q (λ k x l. arm_ending other d arms' k (with_arguments e x) p l))) two
        (same-then (call def (arguments_of v e) m) _ _ one.1 (λ k x l rx. arm_same arms arms' k (with_arguments e x) o p l (in_range-with e x r rx) same h.1 a.2))
    body_same (Again v) (Again v') e o p m r same h a =
        let one = agree d (arguments_of v e) m (values_in_range e r v h) in
        (one.0 ∙ (λ j. other d (values_same e r v v' h a j) m), one.1)
    body_same (Leave k v) (Leave k' v') e o p m r same h a =
        ((λ j. Exited (a.0 j) (values_same e r v v' h a.1 j) m), values_in_range e r v h)
    body_same _ _ e o p m r same h a = absurd a

    arm_same : (bs cs : ArmTrees) (k : ℕ) (e : Environment) (o p m : ℕ) → IsInRange e → o ≡ p → ArmsInRange bs → AlikeArms bs cs
        → SameEnding (arm_ending call d bs k e o m) (arm_ending other d cs k e p m)
    arm_same NoArm NoArm k e o p m r same h a = (refl, tt)
    arm_same (Arm b bs) (Arm c cs) zero e o p m r same h a = body_same b c e o p m r same h.0 a.0
    arm_same (Arm b bs) (Arm c cs) (suc k) e o p m r same h a =
        arm_same bs cs k e (o + needs b) (p + needs c) m r (λ j. same j + needs-same b c a.0 j) h.1 a.1
    arm_same _ _ k e o p m r same h a = absurd a

-- ---- definitions

of_def_same : (ds es : List DefTree) (d : ℕ) (go other : DefTree → Ending) → AllByRecursion DefInRange ds → EachPair AlikeDefs ds es
    → ((b c : DefTree) → DefInRange b → AlikeDefs b c → SameEnding (go b) (other c)) → SameEnding (of_def (slice_get ds d) go) (of_def (slice_get es d) other)
of_def_same [] [] d go other r a h = (refl, tt)
of_def_same (b ∷ bs) (c ∷ cs) zero go other r a h = h b c r.0 a.0
of_def_same (b ∷ bs) (c ∷ cs) (suc d) go other r a h = of_def_same bs cs d go other r.1 a.1 h
of_def_same _ _ d go other r a h = absurd a

module _ (g : GroupTree) (es : List DefTree) (range : AllByRecursion DefInRange g.defs) (alike : EachPair AlikeDefs g.defs es) where
  within_same : (depth : ℕ) → Agree (ending_within depth g) (ending_within depth (with_defs g es))
  within_same zero d x n r = (refl, tt)
  within_same (suc depth) d x zero r = (refl, tt)
  within_same (suc depth) d x (suc left) r =
      of_def_same g.defs es d _ _ range alike (λ b c rb a.
      body_same (ending_within depth g) (ending_within depth (with_defs g es)) d (within_same depth) b.body c.body (with_arguments no_variables x) 0 0 left
      (in_range-with no_variables x in_range-none r) refl rb.body a.body)

exits_same : (ds es : List DefTree) (d : ℕ) (g : GroupTree) → EachPair AlikeDefs ds es → exits_at (with_defs g ds) d ≡ exits_at (with_defs g es) d
exits_same [] [] d g a = refl
exits_same (b ∷ bs) (c ∷ cs) zero g a = a.0.exits
exits_same (b ∷ bs) (c ∷ cs) (suc d) g a = exits_same bs cs d g a.1
exits_same _ _ d g a = absurd a

-- the outcome is the same, with the turns left and the numbers of Needs
pub eval_same : (g : GroupTree) (es : List DefTree) → AllByRecursion DefInRange g.defs → EachPair AlikeDefs g.defs es
    → (d : ℕ) (x : Arguments) (n : ℕ) → ArgumentsInRange x → eval g d x n ≡ eval (with_defs g es) d x n
eval_same g es range alike d x n r = λ j. with_pc (exits_same g.defs es d g alike j) ((within_same g es range alike n d x n r).0 j)
