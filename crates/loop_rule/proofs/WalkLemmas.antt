-- What walks over leaves do and answer.
use Rattle.std.proofs.Common.{◌≡◌, ℕ, ◌+◌, ◌<◌, ◌≤◌, List, [], ◌∷◌, ◌++◌, append_assoc, length, map, take, refl, sym, ap, ◌∙◌, subst, arith, Result, Ok, Err, Option, Some, None}
use Rattle.std.specs.Prelude.{IfSome, sum_by, slice_get}
use Rattle.std.specs.List.{AllZip}
use Rattle.std.specs.Result.{IsErrAnd}
use Rattle.std.proofs.lemmas.List.{append-nil}
use Rattle.std.proofs.lemmas.List.Sums.{sum_by-append}
use Rattle.tailrec_lang.specs.Tree.{DefTree, GroupTree, def_tree, group_tree}
use Rattle.triple_kernel.specs.Tree.{TripleTree}
use Rattle.triple_kernel.specs.declared.fault.RuleFault.{RuleFault}
use Rattle.triple_kernel.specs.declared.fault.RuleFault.TheVariants.{NoInstance, NoMemory}
use Rattle.loop_rule.specs.declared.leading.Citing.{Citing}
use Rattle.loop_rule.specs.Tree.{LeafTree}
use Rattle.loop_rule.specs.Rule.{IsLedTo}
use Rattle.loop_rule.specs.Judge.{Closing, Judge, Went}
use Rattle.loop_rule.specs.inner.Citing.{Answers, Cites, CitesNone, IsOf, Walks}
use Rattle.loop_rule.specs.inner.Rule.{IsLed}
use Rattle.loop_rule.proofs.CitingLemmas.{led-then, not_led-first, not_led-then, leaf-led, leaf-not_led, leaf-not_cited, all-led, all-not_led, cited-more}

module _ {J : Type 0} (j : Judge J) where
  -- ---- judges

  pub went_same : (leaves : List LeafTree) (a : J) → j.IsReady a → Went j leaves a a
  went_same leaves a ready = record { closing = refl; ready = ready; since = λ first so. so; steps = omega arith }

  pub went_then : (first then both : List LeafTree) (a b c : J) → both ≡ first ++ then → Went j first a b → Went j then b c → Went j both a c
  went_then first then both a b c parts one two =
      let f = j.most (j.closing a) in
      let sum : sum_by f both ≡ sum_by f first + sum_by f then = ap (sum_by f) parts ∙ sum_by-append f first then in
      let more : j.steps c ≤ j.steps b + sum_by f then = subst (λ (k : Closing). j.steps c ≤ j.steps b + sum_by (j.most k) then) one.closing two.steps in
      let before = one.steps in
      record {
        closing = two.closing ∙ one.closing;
        ready = two.ready;
        since = λ s so. two.since s (one.since s so);
        steps = omega (arith, sum, more, before);
      }

  -- over no leaves, and then over some
  pub went_on : (leaves : List LeafTree) (a b c : J) → Went j [] a b → Went j leaves b c → Went j leaves a c
  went_on leaves a b c one two = went_then [] leaves leaves a b c refl one two

  pub went_front : (first then both : List LeafTree) (a b : J) → both ≡ first ++ then → Went j first a b → Went j both a b
  went_front first then both a b parts one = went_then first then both a b b parts one (went_same then b one.ready)

  pub went_more : (leaves : List LeafTree) (a b : J) → Went j [] a b → Went j leaves a b
  went_more leaves a b one = went_front [] leaves leaves a b refl one

  pub went_after : (leaves : List LeafTree) (a b c : J) → Went j leaves a b → Went j [] b c → Went j leaves a c
  went_after leaves a b c one two = went_then leaves [] leaves a b c (sym (append-nil leaves)) one two

  module _ (w : Citing) where
    -- ---- walks

    -- a fault for lack of memory
    pub walks_no_memory : (leaves : List LeafTree) (place : ℕ) (a b : J) (r : Result ℕ RuleFault) → IsErrAnd r (λ y. y ≡ NoMemory) → Went j leaves a b → Walks j w leaves place a b r
    walks_no_memory leaves place a b (Ok n) is went = absurd is
    walks_no_memory leaves place a b (Err e) is went = record { went = went; answers = subst (λ x. Answers j w (j.closing a).theorem leaves place (j.way a) (j.way b) (Err x)) (sym is) tt }

    -- a fault of a part is one of the whole
    pub walks_fault : (leaves all : List LeafTree) (place : ℕ) (a b c : J) (e : RuleFault) (r : Result ℕ RuleFault) → leaves ≡ all → IsErrAnd r (λ y. y ≡ e) → Went j [] a b → Walks j w leaves place b c (Err e)
        → Walks j w all place a c r
    walks_fault leaves all place a b c e (Ok n) same is went walks = absurd is
    walks_fault leaves all place a b c NoMemory (Err y) same is went walks = walks_no_memory all place a c (Err y) is (subst (λ ls. Went j ls a c) same (went_on leaves a b c went walks.went))
    walks_fault leaves all place a b c NoInstance (Err y) same is went walks = record {
      went = subst (λ ls. Went j ls a c) same (went_on leaves a b c went walks.went);
      answers = subst (λ x. Answers j w (j.closing a).theorem all place (j.way a) (j.way c) (Err x)) (sym is)
          (subst (λ ls. CitesNone j w (j.closing a).theorem ls place) same (subst (λ (k : Closing). CitesNone j w k.theorem leaves place) went.closing walks.answers));
    }

    -- behind facts that were added, which are dropped again
    pub walks_behind : (leaves all : List LeafTree) (place n : ℕ) (a b c d : J) (length_before : ℕ) → leaves ≡ all → Went j [] a b → take (length (j.way a)) (j.way b) ≡ j.way a → length_before ≡ length (j.way a)
        → Walks j w leaves place b c (Ok n) → Went j [] c d → j.way d ≡ take length_before (j.way c) → Walks j w all place a d (Ok n)
    walks_behind leaves all place n a b c d length_before same went grown was walks back dropped = record {
      went = subst (λ ls. Went j ls a d) same (went_after leaves a c d (went_on leaves a b c went walks.went) back);
      answers = (
        subst (λ ls. Cites j w (j.closing a).theorem ls place n) same (subst (λ (k : Closing). Cites j w k.theorem leaves place n) went.closing walks.answers.0),
        dropped ∙ (λ i. take (was i) (walks.answers.1 i)) ∙ grown,
      );
    }

    -- ---- some leaves and others

    pub walks_first : (first then both : List LeafTree) (place : ℕ) (a b : J) (e : RuleFault) (r : Result ℕ RuleFault) → both ≡ first ++ then → IsErrAnd r (λ y. y ≡ e) → Walks j w first place a b (Err e)
        → Walks j w both place a b r
    walks_first first then both place a b e (Ok n) parts is walks = absurd is
    walks_first first then both place a b NoMemory (Err y) parts is walks = walks_no_memory both place a b (Err y) is (went_front first then both a b parts walks.went)
    walks_first first then both place a b NoInstance (Err y) parts is walks = record {
      went = went_front first then both a b parts walks.went;
      answers = subst (λ x. Answers j w (j.closing a).theorem both place (j.way a) (j.way b) (Err x)) (sym is)
          (subst (λ ls. CitesNone j w (j.closing a).theorem ls place) (sym parts) (not_led-first (j.Holds (group_tree w.group.now)) (group_tree w.group.now) (def_tree w.def.now) first then _ walks.answers));
    }

    pub walks_then : (first then both : List LeafTree) (place n : ℕ) (a b c : J) (r : Result ℕ RuleFault) → both ≡ first ++ then → Walks j w first place a b (Ok n) → Walks j w then n b c r
        → Walks j w both place a c r
    walks_then first then both place n a b c (Ok m) parts one two = record {
      went = went_then first then both a b c parts one.went two.went;
      answers = (
        subst (λ ls. Cites j w (j.closing a).theorem ls place m) (sym parts) (led-then (j.Holds (group_tree w.group.now)) (group_tree w.group.now) (def_tree w.def.now) first then _ _ _ one.answers.0
            (subst (λ (k : Closing). Cites j w k.theorem then n m) one.went.closing two.answers.0)),
        two.answers.1 ∙ one.answers.1,
      );
    }
    walks_then first then both place n a b c (Err NoInstance) parts one two = record {
      went = went_then first then both a b c parts one.went two.went;
      answers = subst (λ ls. CitesNone j w (j.closing a).theorem ls place) (sym parts) (not_led-then (j.Holds (group_tree w.group.now)) (group_tree w.group.now) (def_tree w.def.now) first then _ _ one.answers.0
          (subst (λ (k : Closing). CitesNone j w k.theorem then n) one.went.closing two.answers));
    }
    walks_then first then both place n a b c (Err NoMemory) parts one two = record {
      went = went_then first then both a b c parts one.went two.went;
      answers = tt;
    }

    -- ---- one leaf

    module _ (leaf : LeafTree) (place : ℕ) (a : J) (is : IsOf j w a) where
      to_group : (o : Option TripleTree) → IsLedTo (j.closing a).group (j.closing a).def leaf o → IsLedTo (group_tree w.group.now) (def_tree w.def.now) leaf o
      to_group o led = subst (λ (d : DefTree). IsLedTo (group_tree w.group.now) d leaf o) is.def (subst (λ (g : GroupTree). IsLedTo g (j.closing a).def leaf o) is.group led)

      from_group : (o : Option TripleTree) → IsLedTo (group_tree w.group.now) (def_tree w.def.now) leaf o → IsLedTo (j.closing a).group (j.closing a).def leaf o
      from_group o led = subst (λ (d : DefTree). IsLedTo (j.closing a).group d leaf o) (sym is.def) (subst (λ (g : GroupTree). IsLedTo g (def_tree w.def.now) leaf o) (sym is.group) led)

      led_with : (o : Option TripleTree) → IsLedTo (group_tree w.group.now) (def_tree w.def.now) leaf o → IfSome o (λ p. j.Holds (j.closing a).group p) → IsLed (j.Holds (group_tree w.group.now)) (group_tree w.group.now) (def_tree w.def.now) leaf
      led_with None led holds = absurd led
      led_with (Some p) led holds = record { triple = p; leads = led; holds = subst (λ (g : GroupTree). j.Holds g p) is.group holds }

      pub walks_leaf : (b : J) (number : ℕ) → slice_get w.cited.now place ≡ Some number → IsLedTo (j.closing a).group (j.closing a).def leaf ((j.closing a).theorem number)
          → IfSome ((j.closing a).theorem number) (λ p. j.Holds (j.closing a).group p) → j.way b ≡ j.way a → Went j (leaf ∷ []) a b → Walks j w (leaf ∷ []) place a b (Ok (place + 1))
      walks_leaf b number cited led holds way went =
          let here = to_group ((j.closing a).theorem number) led in
          record {
            went = went;
            answers = (leaf-led (j.Holds (group_tree w.group.now)) (group_tree w.group.now) (def_tree w.def.now) leaf (j.closing a).theorem w.cited.now place number cited here (led_with ((j.closing a).theorem number) here holds), way);
          }

      pub walks_not : (b : J) (number : ℕ) → slice_get w.cited.now place ≡ Some number → (IsLedTo (j.closing a).group (j.closing a).def leaf ((j.closing a).theorem number) → ⊥)
          → Went j (leaf ∷ []) a b → Walks j w (leaf ∷ []) place a b (Err NoInstance)
      walks_not b number cited apart went = record {
        went = went;
        answers = leaf-not_led (j.Holds (group_tree w.group.now)) (group_tree w.group.now) (def_tree w.def.now) leaf (j.closing a).theorem w.cited.now place number cited (λ h. apart (from_group ((j.closing a).theorem number) h));
      }

      pub walks_uncited : j.IsReady a → slice_get w.cited.now place ≡ None → Walks j w (leaf ∷ []) place a a (Err NoInstance)
      walks_uncited ready none = record {
        went = went_same (leaf ∷ []) a ready;
        answers = leaf-not_cited (j.Holds (group_tree w.group.now)) (group_tree w.group.now) (def_tree w.def.now) leaf (j.closing a).theorem w.cited.now place none;
      }

    -- ---- the leaves that are left in a loop

    -- where the leaves that are left are walked over, all are
    pub record LeftFrom (all : List LeafTree) (place : ℕ) (a : J) (left : List LeafTree) (n : ℕ) (b : J) : Type 0 where
      pub done : List LeafTree
      pub parts : all ≡ done ++ left
      pub walks : Walks j w done place a b (Ok n)

    pub left_first : (all : List LeafTree) (place : ℕ) (a : J) → j.IsReady a → LeftFrom all place a all place a
    left_first all place a ready = record {
      done = [];
      parts = refl;
      walks = record {
        went = went_same [] a ready;
        answers = (record { row = λ more. (λ h. h, λ h. h); led = λ leaf c. absurd (omega (arith, c.1)) }, refl);
      };
    }

    pub left_next : (all left next rest : List LeafTree) (place n m : ℕ) (a b c : J) → left ≡ next ++ rest → LeftFrom all place a left n b → Walks j w next n b c (Ok m) → LeftFrom all place a rest m c
    left_next all left next rest place n m a b c here before walks = record {
      done = before.done ++ next;
      parts = before.parts ∙ (λ i. before.done ++ here i) ∙ sym (append_assoc before.done next rest);
      walks = walks_then before.done next (before.done ++ next) place n a b c (Ok m) refl before.walks walks;
    }

    pub left_went : (all left : List LeafTree) (place n : ℕ) (a b : J) → LeftFrom all place a left n b → Went j all a b
    left_went all left place n a b before = went_front before.done left all a b before.parts before.walks.went

    pub left_fault : (all left next rest : List LeafTree) (place n : ℕ) (a b c : J) (e : RuleFault) (r : Result ℕ RuleFault) → left ≡ next ++ rest → IsErrAnd r (λ y. y ≡ e) → LeftFrom all place a left n b → Walks j w next n b c (Err e)
        → Walks j w all place a c r
    left_fault all left next rest place n a b c e r here is before walks =
        let parts : all ≡ (before.done ++ next) ++ rest = before.parts ∙ (λ i. before.done ++ here i) ∙ sym (append_assoc before.done next rest) in
        walks_first (before.done ++ next) rest all place a c e r parts is (walks_then before.done next (before.done ++ next) place n a b c (Err e) refl before.walks walks)

    pub left_end : (all left : List LeafTree) (place n : ℕ) (a b : J) → left ≡ [] → LeftFrom all place a left n b → Walks j w all place a b (Ok n)
    left_end all left place n a b none before =
        let same : before.done ≡ all = sym (append-nil before.done) ∙ (λ i. before.done ++ sym none i) ∙ sym before.parts in
        subst (λ ls. Walks j w ls place a b (Ok n)) same before.walks

    -- ---- all leaves

    -- from the first theorem on, and none is left
    module _ (leaves : List LeafTree) (a b : J) (used : ℕ) (walks : Walks j w leaves 0 a b (Ok used)) where
      pub walked_led : length w.cited.now ≤ used → AllZip (IsLedTo (group_tree w.group.now) (def_tree w.def.now)) leaves (map (j.closing a).theorem w.cited.now)
      walked_led le = all-led (j.Holds (group_tree w.group.now)) (group_tree w.group.now) (def_tree w.def.now) leaves (j.closing a).theorem w.cited.now used walks.answers.0 le

      pub walked_more : used < length w.cited.now → AllZip (IsLedTo (group_tree w.group.now) (def_tree w.def.now)) leaves (map (j.closing a).theorem w.cited.now) → ⊥
      walked_more lt all = cited-more (j.Holds (group_tree w.group.now)) (group_tree w.group.now) (def_tree w.def.now) leaves (j.closing a).theorem w.cited.now used walks.answers.0 lt all

    pub walked_not : (leaves : List LeafTree) (a b : J) (e : RuleFault) → e ≡ NoInstance → Walks j w leaves 0 a b (Err e) → AllZip (IsLedTo (group_tree w.group.now) (def_tree w.def.now)) leaves (map (j.closing a).theorem w.cited.now) → ⊥
    walked_not leaves a b e is walks =
        all-not_led (j.Holds (group_tree w.group.now)) (group_tree w.group.now) (def_tree w.def.now) leaves (map (j.closing a).theorem w.cited.now)
        (subst (λ x. Answers j w (j.closing a).theorem leaves 0 (j.way a) (j.way b) (Err x)) is walks.answers)
