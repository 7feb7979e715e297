-- Definitions that are reached by calls.
use Rattle.std.proofs.Common.{◌≡◌, ◌⊎◌, inl, inr, ℕ, zero, suc, ◌+◌, ◌-◌, ◌<◌, ◌≤◌, Bool, true, false, List, [], ◌∷◌, ◌++◌, length, get_or, map, drop, nat_le, refl, sym, ap, subst, ◌∙◌, arith, ⊎_elim}
use Rattle.std.specs.Prelude.{◌||◌, ◌&&◌, ◌==◌, ◌↔◌, IsTrue}
use Rattle.std.proofs.lemmas.Bool.{cases_lt, eqb-true, eq-eqb, leb-true, le-leb}
use Rattle.std.proofs.lemmas.List.{drop_more, drop_all, length_push, get_or_push, get_or_append_left, get_or_read_under}
use Rattle.tailrec_lang.specs.declared.group.Body.{Body}
use Rattle.tailrec_lang.specs.declared.group.Exit.{Exit}
use Rattle.tailrec_lang.specs.Tree.{StepTree, BodyTree, Do, Branch, Call, Again, Leave, ArmTrees, NoArm, Arm, GroupTree, with_steps, step_tree, body_tree, exits_at}
use Rattle.tailrec_lang.specs.inner.Tree.{arm_trees, end_tree}
use Rattle.tailrec_lang.specs.WellFormed.{IsWellFormed, BodyIsWellFormed, ArmsAreWellFormed, words_after, mems_after}
use Rattle.tailrec_lang.proofs.Views.{view_body}
use Rattle.smt_export.specs.Reach.{calls, arms_call, enters, arms_enter, Calls, EntersAgain, ReachesBy, ReachesByCalls, IsLeastLoop}
use Rattle.smt_export.specs.inner.Reach.{AreMarks, IsCalled, is_marked}
use Rattle.smt_export.specs.inner.Following.{EachCall, EachArmCall}
use Rattle.smt_export.specs.inner.Exported.{IsClosed}

-- ---- behind steps

calls-steps : (c : ℕ) (rest : BodyTree) (ss : List StepTree) → calls rest c ≡ calls (with_steps ss rest) c
calls-steps c rest [] = refl
calls-steps c rest (s ∷ ss) = calls-steps c rest ss

pub calls_behind : (body : Body) (c : ℕ) (b : Bool) → b ≡ calls (end_tree body.end) c → b ≡ calls (body_tree body) c
calls_behind body c b is = is ∙ calls-steps c (end_tree body.end) (map step_tree body.steps) ∙ sym (ap (λ t. calls t c) (view_body body))

enters-steps : (rest : BodyTree) (ss : List StepTree) → enters rest ≡ enters (with_steps ss rest)
enters-steps rest [] = refl
enters-steps rest (s ∷ ss) = enters-steps rest ss

pub enters_behind : (body : Body) (b : Bool) → b ≡ enters (end_tree body.end) → b ≡ enters (body_tree body)
enters_behind body b is = is ∙ enters-steps (end_tree body.end) (map step_tree body.steps) ∙ sym (ap enters (view_body body))

-- ---- arms one after the other

module _ (c : ℕ) (xs : List Body) (i : ℕ) (x : Body) (w : Bool) where
  call-at : (b : Bool) → i < length xs → x ≡ get_or xs i x → b ≡ calls (body_tree x) c → arms_call (arm_trees (drop i xs)) c ≡ (b || arms_call (arm_trees (drop (i + 1) xs)) c)
  call-at b lt is here =
      (λ j. arms_call (arm_trees (drop_more xs i x lt j)) c)
      ∙ (λ j. calls (body_tree (sym is j)) c || arms_call (arm_trees (drop (i + 1) xs)) c)
      ∙ (λ j. sym here j || arms_call (arm_trees (drop (i + 1) xs)) c)

  pub call_next : i < length xs → x ≡ get_or xs i x → false ≡ calls (body_tree x) c → arms_call (arm_trees (drop i xs)) c ≡ w → arms_call (arm_trees (drop (i + 1) xs)) c ≡ w
  call_next lt is here before = sym (call-at false lt is here) ∙ before

  pub call_found : i < length xs → x ≡ get_or xs i x → true ≡ calls (body_tree x) c → arms_call (arm_trees (drop i xs)) c ≡ w → true ≡ w
  call_found lt is here before = sym (call-at true lt is here) ∙ before

  enter-at : (b : Bool) → i < length xs → x ≡ get_or xs i x → b ≡ enters (body_tree x) → arms_enter (arm_trees (drop i xs)) ≡ (b || arms_enter (arm_trees (drop (i + 1) xs)))
  enter-at b lt is here =
      (λ j. arms_enter (arm_trees (drop_more xs i x lt j)))
      ∙ (λ j. enters (body_tree (sym is j)) || arms_enter (arm_trees (drop (i + 1) xs)))
      ∙ (λ j. sym here j || arms_enter (arm_trees (drop (i + 1) xs)))

pub call_nowhere : (c : ℕ) (xs : List Body) (i : ℕ) (w : Bool) → length xs ≤ i → arms_call (arm_trees (drop i xs)) c ≡ w → false ≡ w
call_nowhere c xs i w le before = sym (λ j. arms_call (arm_trees (drop_all i xs le j)) c) ∙ before

pub enters_next : (xs : List Body) (i : ℕ) (x : Body) (w : Bool) → i < length xs → x ≡ get_or xs i x → false ≡ enters (body_tree x) → arms_enter (arm_trees (drop i xs)) ≡ w → arms_enter (arm_trees (drop (i + 1) xs)) ≡ w
enters_next xs i x w lt is here before = sym (enter-at 0 xs i x w false lt is here) ∙ before

pub enters_found : (xs : List Body) (i : ℕ) (x : Body) (w : Bool) → i < length xs → x ≡ get_or xs i x → true ≡ enters (body_tree x) → arms_enter (arm_trees (drop i xs)) ≡ w → true ≡ w
enters_found xs i x w lt is here before = sym (enter-at 0 xs i x w true lt is here) ∙ before

pub enters_nowhere : (xs : List Body) (i : ℕ) (w : Bool) → length xs ≤ i → arms_enter (arm_trees (drop i xs)) ≡ w → false ≡ w
enters_nowhere xs i w le before = sym (λ j. arms_enter (arm_trees (drop_all i xs le j))) ∙ before

-- ---- calls go to earlier definitions

one_of : (a b : Bool) → (a || b) ≡ true → (a ≡ true) ⊎ (b ≡ true)
one_of true b h = inl refl
one_of false b h = inr h

module _ (g : GroupTree) (d c : ℕ) where
  mutual
    calls-below : (b : BodyTree) (w m : ℕ) → BodyIsWellFormed g d b w m → calls b c ≡ true → c < d
    calls-below (Do s b) w m wf h = calls-below b (words_after s w) (mems_after s m) wf.1 h
    calls-below (Branch t a b) w m wf h = ⊎_elim (λ e. calls-below a w m wf.1 e) (λ e. calls-below b w m wf.2 e) (one_of (calls a c) (calls b c) h)
    calls-below (Call def v arms) w m wf h = ⊎_elim
        (λ e. let same = eqb-true def c e in let lt = wf.0 in omega (arith, same, lt)) (λ e. arms-below (exits_at g def) arms w m wf.3 e) (one_of (def == c) (arms_call arms c) h)
    calls-below (Again v) w m wf h = absurd (cc)
    calls-below (Leave exit v) w m wf h = absurd (cc)

    arms-below : (xs : List Exit) (bs : ArmTrees) (w m : ℕ) → ArmsAreWellFormed g d xs bs w m → arms_call bs c ≡ true → c < d
    arms-below xs NoArm w m wf h = absurd (cc)
    arms-below [] (Arm b bs) w m wf h = absurd wf
    arms-below (x ∷ xs) (Arm b bs) w m wf h = ⊎_elim (λ e. calls-below b _ _ wf.0 e) (λ e. arms-below xs bs w m wf.1 e) (one_of (calls b c) (arms_call bs c) h)

module _ (g : GroupTree) (wf : IsWellFormed g) where
  call-below : (d c : ℕ) → Calls g d c → c < d
  call-below d c h = calls-below g d c h.0.body (length g.regs) g.mems (wf d h.0 h.1) h.2

  reach-below : (d e : ℕ) (way : List ℕ) → ReachesBy g d way e → e ≤ d
  reach-below d e [] h = omega (arith, h)
  reach-below d e (c ∷ way) h = let before = reach-below d c way h.0 in let lt = call-below c e h.1 in omega (arith, before, lt)

  pub reached-below : (d e : ℕ) → ReachesByCalls g d e → e ≤ d
  reached-below d e h = reach-below d e h.0 h.1

-- ---- a body that never enters its definition again

neither : (a b : Bool) → (a || b) ≡ false → (a ≡ false) × (b ≡ false)
neither true b h = absurd (cc)
neither false b h = (refl, h)

either-left : (a b : Bool) → a ≡ true → (a || b) ≡ true
either-left a b e = λ j. e j || b

either-right : (a b : Bool) → b ≡ true → (a || b) ≡ true
either-right true b e = refl
either-right false b e = e

module _ (P : ℕ → Type 0) where
  mutual
    pub each-call : (b : BodyTree) → enters b ≡ false → ((c : ℕ) → calls b c ≡ true → P c) → EachCall P b
    each-call (Do s b) h p = each-call b h p
    each-call (Branch t a b) h p =
        let n = neither (enters a) (enters b) h in
        (each-call a n.0 (λ c e. p c (either-left (calls a c) (calls b c) e)), each-call b n.1 (λ c e. p c (either-right (calls a c) (calls b c) e)))
    each-call (Call def v arms) h p =
        (p def (either-left (def == def) (arms_call arms def) (eq-eqb def def refl)), each-arm-call arms h (λ c e. p c (either-right (def == c) (arms_call arms c) e)))
    each-call (Again v) h p = absurd (cc)
    each-call (Leave exit v) h p = tt

    each-arm-call : (bs : ArmTrees) → arms_enter bs ≡ false → ((c : ℕ) → arms_call bs c ≡ true → P c) → EachArmCall P bs
    each-arm-call NoArm h p = tt
    each-arm-call (Arm b bs) h p =
        let n = neither (enters b) (arms_enter bs) h in
        (each-call b n.0 (λ c e. p c (either-left (calls b c) (arms_call bs c) e)), each-arm-call bs n.1 (λ c e. p c (either-right (calls b c) (arms_call bs c) e)))

-- ---- marks

pub marks_begin : (g : GroupTree) (def : ℕ) → AreMarks g def (true ∷ [])
marks_begin g def zero lt = let e : def ≡ def - 0 = omega arith in (λ h. ([], e), λ h. refl)
marks_begin g def (suc i) lt = absurd (omega (arith, lt))

module _ (g : GroupTree) (wf : IsWellFormed g) (def : ℕ) (marks : List Bool) (mark : Bool) where
  new-mark : (k next : ℕ) → AreMarks g def marks → length marks ≡ k + 1 → next + k + 1 ≡ def
      → IsTrue mark ↔ IsCalled g def marks next → (mark ≡ true) ↔ ReachesByCalls g def next
  new-mark k next are count at is = (
    λ h. let found = is.0 h in let way = (are found.0 found.1).0 found.2 in ((def - found.0) ∷ way.0, (way.1, found.3)),
    λ h. called h.0 h.1,
  )
    where
      called : (way : List ℕ) → ReachesBy g def way next → mark ≡ true
      called [] h = absurd (omega (arith, h, at))
      called (c ∷ way) h =
          let lt = call-below g wf c next h.1 in
          let le = reach-below g wf def c way h.0 in
          let back : def - (def - c) ≡ c = omega (arith, le) in
          let within : def - c < length marks = omega (arith, lt, le, at, count) in
          is.1 (def - c, within, (are (def - c) within).1 (way, subst (ReachesBy g def way) (sym back) h.0), subst (λ b. Calls g b next) (sym back) h.1)

  pub marks_next : (k : ℕ) → AreMarks g def marks → length marks ≡ k + 1 → k < def
      → IsTrue mark ↔ IsCalled g def marks (def - 1 - k) → AreMarks g def (marks ++ mark ∷ [])
  marks_next k are count lt is i within = ⊎_elim
      (λ below.
      let same = get_or_append_left marks (mark ∷ []) false i below in
      (λ h. (are i below).0 (sym same ∙ h), λ h. same ∙ (are i below).1 h))
      (λ above.
      let long = length_push marks mark in
      let e : length marks ≡ i = omega (arith, above, within, long) in
      let here = get_or_push marks mark false i e in
      let place : def - 1 - k ≡ def - i = omega (arith, e, count, lt) in
      let new = new-mark k (def - 1 - k) are count (omega (arith, lt)) is in
      (λ h. subst (ReachesByCalls g def) place (new.0 (sym here ∙ h)), λ h. here ∙ new.1 (subst (ReachesByCalls g def) (sym place) h)))
      (cases_lt i (length marks))

module _ (g : GroupTree) (wf : IsWellFormed g) (def : ℕ) (marks : List Bool) (are : AreMarks g def marks) (count : length marks ≡ def + 1) where
  pub marked-reached : (e : ℕ) → is_marked def marks e ≡ true → ReachesByCalls g def e
  marked-reached e h =
      let (low, mark) = both_true (nat_le e def) (get_or marks (def - e) false) h in
      let le : e ≤ def = leb-true e def low in
      let back : def - (def - e) ≡ e = omega (arith, le) in
      subst (ReachesByCalls g def) back ((are (def - e) (omega (arith, count, le))).0 mark)
    where
      both_true : (a b : Bool) → (a && b) ≡ true → (a ≡ true) × (b ≡ true)
      both_true true b h = (refl, h)
      both_true false b h = absurd (cc)

  pub reached-marked : (e : ℕ) → ReachesByCalls g def e → is_marked def marks e ≡ true
  reached-marked e h =
      let le = reached-below g wf def e h in
      let back : def - (def - e) ≡ e = omega (arith, le) in
      let mark = (are (def - e) (omega (arith, count, le))).1 (subst (ReachesByCalls g def) (sym back) h) in
      λ j. le-leb e def le j && mark j

  pub marks-closed : ((e : ℕ) → ReachesByCalls g def e → EntersAgain g e → ⊥) → IsClosed g (is_marked def marks)
  marks-closed none d def' is h =
      let reached = marked-reached d h in
      each-call (λ c. is_marked def marks c ≡ true) def'.body (unless (enters def'.body) (λ e. none d reached (def', is, e)))
      (λ c e. reached-marked c (d ∷ reached.0, (reached.1, (def', is, e))))
    where
      unless : (b : Bool) → (b ≡ true → ⊥) → b ≡ false
      unless true h = absurd (h refl)
      unless false h = refl

-- ---- searches

below_or : (i k : ℕ) → i < k + 1 → (i < k) ⊎ (i ≡ k)
below_or i k lt = ⊎_elim (λ h. inl h) (λ le. inr (omega (arith, le, lt))) (cases_lt i k)

module _ (g : GroupTree) (def : ℕ) (marks : List Bool) where
  module _ (callee : ℕ) where
    pub caller_marked : (i : ℕ) (mark calls b : Bool) → i < length marks → mark ≡ get_or marks i mark → IsTrue calls ↔ Calls g (def - i) callee → IsTrue b ↔ (IsTrue mark × IsTrue calls)
        → IsTrue b ↔ ((get_or marks i false ≡ true) × Calls g (def - i) callee)
    caller_marked i mark calls b lt is c h =
        let same = get_or_read_under marks i (length marks) mark false is lt refl in
        (λ e. (sym same ∙ (h.0 e).0, c.0 (h.0 e).1), λ e. h.1 (same ∙ e.0, c.1 e.1))

    pub called_next : (i : ℕ) (b : Bool) → ((k : ℕ) → k < i → get_or marks k false ≡ true → Calls g (def - k) callee → ⊥) → IsTrue b ↔ ((get_or marks i false ≡ true) × Calls g (def - i) callee) → b ≡ false
        → (k : ℕ) → k < i + 1 → get_or marks k false ≡ true → Calls g (def - k) callee → ⊥
    called_next i b before is no_ k lt mark call = ⊎_elim (λ h. before k h mark call)
        (λ e. let yes_ : b ≡ true = is.1 (subst (λ n. get_or marks n false ≡ true) e mark, subst (λ n. Calls g (def - n) callee) e call) in absurd (cc)) (below_or k i lt)

    pub called_found : (i : ℕ) (b r : Bool) → i < length marks → IsTrue b ↔ ((get_or marks i false ≡ true) × Calls g (def - i) callee) → b ≡ true → r ≡ true → IsTrue r ↔ IsCalled g def marks callee
    called_found i b r lt is yes_ e = let h = is.0 yes_ in (λ t. (i, lt, h.0, h.1), λ c. e)

    pub called_nowhere : (i : ℕ) (r : Bool) → length marks ≤ i → ((k : ℕ) → k < i → get_or marks k false ≡ true → Calls g (def - k) callee → ⊥) → r ≡ false → IsTrue r ↔ IsCalled g def marks callee
    called_nowhere i r le none e = (λ t. absurd (cc), λ c. absurd (none c.0 (omega (arith, c.1, le)) c.2 c.3))

  pub loop_marked : (d : ℕ) (mark enters b : Bool) → AreMarks g def marks → d < length marks → length marks ≡ def + 1 → mark ≡ get_or marks (def - d) mark → IsTrue enters ↔ EntersAgain g d
      → IsTrue b ↔ (IsTrue mark × IsTrue enters) → IsTrue b ↔ (ReachesByCalls g def d × EntersAgain g d)
  loop_marked d mark enters b are lt count is l h =
      let place : def - d < length marks = omega (arith, lt, count) in
      let back : def - (def - d) ≡ d = omega (arith, lt, count) in
      let same = get_or_read_under marks (def - d) (length marks) mark false is place refl in
      let m = are (def - d) place in
      (λ e. (subst (ReachesByCalls g def) back (m.0 (sym same ∙ (h.0 e).0)), l.0 (h.0 e).1), λ e. h.1 (same ∙ m.1 (subst (ReachesByCalls g def) (sym back) e.0), l.1 e.1))

  pub loops_next : (d : ℕ) (b : Bool) → ((e : ℕ) → e < d → ReachesByCalls g def e → EntersAgain g e → ⊥) → IsTrue b ↔ (ReachesByCalls g def d × EntersAgain g d) → b ≡ false
      → (e : ℕ) → e < d + 1 → ReachesByCalls g def e → EntersAgain g e → ⊥
  loops_next d b before is no_ e lt r l = ⊎_elim (λ h. before e h r l)
      (λ q. let yes_ : b ≡ true = is.1 (subst (ReachesByCalls g def) q r, subst (EntersAgain g) q l) in absurd (cc)) (below_or e d lt)

  pub loop_found : (d : ℕ) (b : Bool) → ((e : ℕ) → e < d → ReachesByCalls g def e → EntersAgain g e → ⊥) → IsTrue b ↔ (ReachesByCalls g def d × EntersAgain g d) → b ≡ true → IsLeastLoop g def d
  loop_found d b before is yes_ = let h = is.0 yes_ in record { reached = h.0; enters = h.1; least = before }

  pub loops_nowhere : (i : ℕ) → IsWellFormed g → length marks ≤ i → length marks ≡ def + 1 → ((e : ℕ) → e < i → ReachesByCalls g def e → EntersAgain g e → ⊥)
      → (d : ℕ) → ReachesByCalls g def d → EntersAgain g d → ⊥
  loops_nowhere i wf le count none d r l = let below = reached-below g wf def d r in none d (omega (arith, below, le, count)) r l
