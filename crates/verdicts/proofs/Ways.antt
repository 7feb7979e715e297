-- An entry that leaves its definition goes a way to a leaf, whose facts hold: over any view of assertions, and any relation of views
-- that goes on from one to the next. (In loop_rule the view is the part of a state that an assertion describes.)
use Rattle.std.proofs.Common.{◌≡◌, ℕ, zero, suc, ◌+◌, ◌≤◌, List, [], ◌∷◌, ◌++◌, length, map, refl, sym, ◌∙◌, arith, subst, Option, Some, None, true, false, cond}
use Rattle.std.specs.Prelude.{slice_get, slice_index_or, drop, not, Contains}
use Rattle.std.proofs.lemmas.List.{length-map}
use Rattle.std.proofs.lemmas.List.Elements.{Contains-append_left, Contains-append_right, Contains-push}
use Rattle.word_terms.specs.Tree.{WordTree, Const, Var, MemVar, Neg}
use Rattle.word_terms.specs.Environment.{Environment, Extends, with_word, with_mem}
use Rattle.word_terms.specs.Value.{word_value, mem_value, cond_holds}
use Rattle.word_terms.proofs.Agreement.{extends-same, extends-with_word, extends-with_mem, word_value-extends, mem_value-extends}
use Rattle.tailrec_lang.specs.declared.group.Exit.{Exit}
use Rattle.tailrec_lang.specs.declared.group.Exit.TheVariants.{At, Ret}
use Rattle.tailrec_lang.specs.Tree.{ValuesTree, Bind, BindMem, Need, BodyTree, Do, Branch, Call, Again, Leave, ArmTrees, NoArm, Arm, DefTree, GroupTree, exits_at}
use Rattle.tailrec_lang.specs.WellFormed.{HasCounts, ValuesInScope, BodyIsWellFormed, ArmsAreWellFormed, IsWellFormed, exit_words}
use Rattle.tailrec_lang.specs.Eval.{ExitFits, Arguments, Ending, Exited, NeedFalse, NoTurns, Nothing, and_then, needs, arguments_of, body_ending, arm_ending, with_arguments, ending}
use Rattle.tailrec_lang.proofs.Turns.{IsLeft, ending-falls}
use Rattle.tailrec_lang.proofs.Fitting.{exited-fits}
use Rattle.sep_assert.specs.Tree.{AssertionTree}
use Rattle.triple_kernel.specs.Tree.{FactTree, WordIs, MemIs, So, Gives}
use Rattle.triple_kernel.specs.Fact.{Leaves, Holds, AllHold}
use Rattle.loop_rule.specs.Tree.{LeafTree}
use Rattle.loop_rule.specs.Leaves.{with_values, variables_after, parameters, at_entry, at_exit, body_leaves, arm_leaves}
use Rattle.word_terms.proofs.LargerScopes.{word_in_scope-more, mem_in_scope-more}
use Rattle.loop_rule.proofs.Scopes.{FactInScope, known-push, arguments_of-extends, values_in_scope-more}
use Rattle.word_terms.proofs.Variables.{new_word, new_mem}
use Rattle.loop_rule.proofs.Ways.{CallLeaves, OnWay}
use Rattle.loop_rule.proofs.Variables.{arguments-are, variables-scope, with_arguments-words, with_arguments-mems, with_arguments-extends}

-- one fact more, on the way
on_way-push : (g : GroupTree) (args : Arguments) (e f : Environment) (facts : List FactTree) (q : FactTree)
    → Extends e f → OnWay g args e facts → FactInScope q f.words f.mems → Holds g f q → OnWay g args f (facts ++ q ∷ [])
on_way-push g args e f facts q more on scope holds = record {
  words = omega (arith, on.words, more.words);
  mems = omega (arith, on.mems, more.mems);
  same = sym (arguments_of-extends e f more (parameters g) (variables-scope 0 0 (length g.regs) g.mems e.words e.mems (omega (arith, on.words)) (omega (arith, on.mems)))) ∙ on.same;
  known = known-push g e f facts q more on.known scope holds;
}

-- the same exit, with the same results
exited-same : (P : ℕ → Arguments → Type 0) (k j : ℕ) (x y : Arguments) (r q : ℕ) → Exited k x r ≡ Exited j y q → P k x → P j y
exited-same P k j x y r q e h = let a : k ≡ j = cc in let b : x ≡ y = cc in subst (λ n. P n y) a (subst (P k) b h)

is_left-exited : (n k : ℕ) (x : Arguments) (r : ℕ) (o : Ending) → o ≡ Exited k x r → IsLeft n o → r ≤ n
is_left-exited n k x r o e h = subst (IsLeft n) e h

-- what a view has of an exit that was left by with these results
abbrev pub after_exit : {View : Type 0} → (ℕ → Arguments → View) → Option Exit → Arguments → View
after_exit place None x = place 0 x
after_exit place (Some (At a)) x = place a x
after_exit place (Some Ret) x = place (slice_index_or x.words 0 0) (record { words = drop 1 x.words; mems = x.mems })

first-is : (ts : List WordTree) (e : Environment) → word_value (slice_index_or ts 0 (Const 0)) e ≡ slice_index_or (map (λ t. word_value t e) ts) 0 0
first-is [] e = refl
first-is (t ∷ ts) e = refl

others-are : (ts : List WordTree) (e : Environment) → map (λ t. word_value t e) (drop 1 ts) ≡ drop 1 (map (λ t. word_value t e) ts)
others-are [] e = refl
others-are (t ∷ ts) e = refl

module _ (g : GroupTree) (View : Type 0) (view : AssertionTree → Environment → View) (place : ℕ → Arguments → View)
    (place-is : (pc : WordTree) (v : ValuesTree) (e : Environment) → view (with_values g pc v) e ≡ place (word_value pc e) (arguments_of v e))
    (Goes : View → View → Type 0) (goes-on : (p q r : View) → Goes p q → Goes q r → Goes p r) where
  abbrev place_after : Option Exit → Arguments → View
  place_after x y = after_exit place x y

  pub place_after-is : (x : Option Exit) (v : ValuesTree) (e : Environment) → view (at_exit g x v) e ≡ place_after x (arguments_of v e)
  place_after-is None v e = place-is (Const 0) v e
  place_after-is (Some (At a)) v e = place-is (Const a) v e
  place_after-is (Some Ret) v e =
      let others : ValuesTree = record { words = drop 1 v.words; mems = v.mems } in
      place-is (slice_index_or v.words 0 (Const 0)) others e
      ∙ (λ i. place (first-is v.words e i) (record { words = others-are v.words e i; mems = map (λ m. mem_value m e) v.mems }))

  -- wherever the facts of the leaf hold, the group's code leads to it from the entry
  abbrev pub LeafGoes : DefTree → LeafTree → Type 0
  LeafGoes def leaf = (e : Environment) → AllHold g e leaf.facts → Goes (view (at_entry g def (parameters g)) e) (view leaf.post e)

  abbrev pub AllGo : DefTree → List LeafTree → Type 0
  AllGo def leaves = (leaf : LeafTree) → Contains leaves leaf → LeafGoes def leaf

  go-left : (def : DefTree) (xs ys : List LeafTree) → AllGo def (xs ++ ys) → AllGo def xs
  go-left def xs ys go leaf c = go leaf (Contains-append_left xs ys leaf c)

  go-right : (def : DefTree) (xs ys : List LeafTree) → AllGo def (xs ++ ys) → AllGo def ys
  go-right def xs ys go leaf c = go leaf (Contains-append_right xs ys leaf c)

  go-only : (def : DefTree) (leaf : LeafTree) → AllGo def (leaf ∷ []) → LeafGoes def leaf
  go-only def leaf go = go leaf (Contains-push [] leaf)

  module _ (d : ℕ) (def : DefTree) (is : slice_get g.defs d ≡ Some def) (well_formed : IsWellFormed g) (most : ℕ)
      (turn : (x : Arguments) (m k : ℕ) (rs : Arguments) (r : ℕ) → m ≤ most → length x.words ≡ length g.regs → length x.mems ≡ g.mems
      → ending g d x m ≡ Exited k rs r → Goes (place def.entry x) (place_after (slice_get def.exits k) rs))
      (args : Arguments) where
    abbrev Arrives : ℕ → Arguments → Type 0
    Arrives k rs = Goes (place def.entry args) (place_after (slice_get def.exits k) rs)

    -- the place where the definition is entered, in an environment on the way
    entry-is : (e : Environment) → arguments_of (parameters g) e ≡ args → view (at_entry g def (parameters g)) e ≡ place def.entry args
    entry-is e same = place-is (Const def.entry) (parameters g) e ∙ (λ i. place def.entry (same i))

    mutual
      pub follow : (b : BodyTree) (e : Environment) (facts : List FactTree) (o left k : ℕ) (rs : Arguments) (r : ℕ)
          → left ≤ most → OnWay g args e facts → BodyIsWellFormed g d b e.words e.mems
          → AllGo def (body_leaves g def b e.words e.mems facts) → body_ending (ending g) d b e o left ≡ Exited k rs r → Arrives k rs
      follow (Do (Bind t) rest) e facts o left k rs r le on wf go ends =
          let f : Environment = with_word e (word_value t e) in
          let more : Extends e f = extends-with_word e (word_value t e) in
          let here : word_value (Var e.words) f ≡ word_value t f = new_word e (word_value t e) ∙ word_value-extends e f more t wf.0 in
          follow rest f (facts ++ WordIs (Var e.words) t ∷ []) (o + 0) left k rs r le
          (on_way-push g args e f facts (WordIs (Var e.words) t) more on (omega arith, word_in_scope-more e.words e.mems f.words f.mems more.words more.mems t wf.0) here)
          wf.1 go ends
      follow (Do (BindMem m) rest) e facts o left k rs r le on wf go ends =
          let f : Environment = with_mem e (mem_value m e) in
          let more : Extends e f = extends-with_mem e (mem_value m e) in
          let here : mem_value (MemVar e.mems) f ≡ mem_value m f = new_mem e (mem_value m e) ∙ mem_value-extends e f more m wf.0 in
          follow rest f (facts ++ MemIs (MemVar e.mems) m ∷ []) (o + 0) left k rs r le
          (on_way-push g args e f facts (MemIs (MemVar e.mems) m) more on (omega arith, mem_in_scope-more e.words e.mems f.words f.mems more.words more.mems m wf.0) here)
          wf.1 go ends
      follow (Do (Need c) rest) e facts o left k rs r le on wf go ends =
          elim (cond_holds c e) as (λ v. cond_holds c e ≡ v → cond v (body_ending (ending g) d rest e (o + 1) left) (NeedFalse d o) ≡ Exited k rs r → Arrives k rs) [
            | true ↦ λ t h. follow rest e (facts ++ So c ∷ []) (o + 1) left k rs r le (on_way-push g args e e facts (So c) (extends-same e) on wf.0 t) wf.1 go h
            | false ↦ λ t h. absurd (cc)
          ] refl ends
      follow (Branch c a b) e facts o left k rs r le on wf go ends =
          let first = body_leaves g def a e.words e.mems (facts ++ So c ∷ []) in
          let second = body_leaves g def b e.words e.mems (facts ++ So (Neg c) ∷ []) in
          elim (cond_holds c e) as (λ v. cond_holds c e ≡ v → cond v (body_ending (ending g) d a e o left) (body_ending (ending g) d b e (o + needs a) left) ≡ Exited k rs r → Arrives k rs) [
            | true ↦ λ t h. follow a e (facts ++ So c ∷ []) o left k rs r le (on_way-push g args e e facts (So c) (extends-same e) on wf.0 t) wf.1 (go-left def first second go) h
            | false ↦ λ t h. follow b e (facts ++ So (Neg c) ∷ []) (o + needs a) left k rs r le (on_way-push g args e e facts (So (Neg c)) (extends-same e) on wf.0 (λ i. not (t i))) wf.2 (go-right def first second go) h
          ] refl ends
      follow (Call callee v arms) e facts o left k rs r le on wf go ends =
          elim (ending g callee (arguments_of v e) left) as (λ x. ending g callee (arguments_of v e) left ≡ x
          → and_then x (λ j vs q. arm_ending (ending g) d arms j (with_arguments e vs) o q) ≡ Exited k rs r → Arrives k rs) [
            | Exited j vs q ↦ λ t h.
                let none : j ≡ 0 + j = omega arith in
                let fewer : q ≤ left = is_left-exited left j vs q (ending g callee (arguments_of v e) left) t (ending-falls g callee (arguments_of v e) left) in
                follow_arm arms (exits_at g callee) callee j 0 v e facts o vs q k rs r (omega (arith, fewer, le)) on wf.1 wf.2 wf.3
                (record { turns = left; left = q; ends = t ∙ (λ i. Exited (none i) vs q) })
                (exited-fits g callee (arguments_of v e) left j vs q well_formed t) go h
            | NeedFalse x y ↦ λ t h. absurd (cc)
            | NoTurns ↦ λ t h. absurd (cc)
            | Nothing ↦ λ t h. absurd (cc)
          ] refl ends
      follow (Again v) e facts o left k rs r le on wf go ends =
          let leaf = go-only def (record { facts = facts; post = at_entry g def v }) go e on.known.holds in
          let back = subst (λ p. Goes p (place def.entry (arguments_of v e))) (entry-is e on.same) (subst (Goes (view (at_entry g def (parameters g)) e)) (place-is (Const def.entry) v e) leaf) in
          goes-on (place def.entry args) (place def.entry (arguments_of v e)) (place_after (slice_get def.exits k) rs) back
          (turn (arguments_of v e) left k rs r le (length-map v.words (λ t. word_value t e) ∙ wf.0.0) (length-map v.mems (λ t. mem_value t e) ∙ wf.0.1) ends)
      follow (Leave exit v) e facts o left k rs r le on wf go ends =
          let x = slice_get def.exits exit in
          let leaf = go-only def (record { facts = facts; post = at_exit g x v }) go e on.known.holds in
          let out = subst (λ p. Goes p (place_after x (arguments_of v e))) (entry-is e on.same) (subst (Goes (view (at_entry g def (parameters g)) e)) (place_after-is x v e) leaf) in
          exited-same Arrives exit k (arguments_of v e) rs left r ends out

      -- the arm j of those for the exits from number i on
      follow_arm : (bs : ArmTrees) (xs : List Exit) (callee j i : ℕ) (v : ValuesTree) (e : Environment) (facts : List FactTree) (o : ℕ) (vs : Arguments) (q k : ℕ) (rs : Arguments) (r : ℕ)
          → q ≤ most → OnWay g args e facts → HasCounts v (length g.regs) g.mems → ValuesInScope v e.words e.mems → ArmsAreWellFormed g d xs bs e.words e.mems
          → CallLeaves g callee (i + j) (arguments_of v e) vs → ExitFits g (slice_get xs j) vs
          → AllGo def (arm_leaves g def callee xs i v bs e.words e.mems facts) → arm_ending (ending g) d bs j (with_arguments e vs) o q ≡ Exited k rs r → Arrives k rs
      follow_arm NoArm xs callee j i v e facts o vs q k rs r le on counts scope wf gave fits go ends = absurd (cc)
      follow_arm (Arm b bs) [] callee j i v e facts o vs q k rs r le on counts scope wf gave fits go ends = absurd wf
      follow_arm (Arm b bs) (x ∷ xs) callee zero i v e facts o vs q k rs r le on counts scope wf gave fits go ends =
          let f : Environment = with_arguments e vs in
          let more : Extends e f = with_arguments-extends e vs in
          let words : e.words + exit_words g x ≡ f.words = sym (with_arguments-words e vs ∙ (λ n. e.words + fits.0 n)) in
          let mems : e.mems + g.mems ≡ f.mems = sym (with_arguments-mems e vs ∙ (λ n. e.mems + fits.1 n)) in
          let new : ValuesTree = variables_after e.words e.mems (exit_words g x) g.mems in
          let fact : FactTree = Gives callee i v new in
          let first : i + 0 ≡ i = omega arith in
          let are : arguments_of new f ≡ vs = arguments-are e vs (exit_words g x) g.mems fits.0 fits.1 in
          let held : Leaves g callee i (arguments_of v f) (arguments_of new f) = record {
            well_formed = well_formed;
            words = length-map v.words (λ t. word_value t f) ∙ counts.0;
            mems = length-map v.mems (λ t. mem_value t f) ∙ counts.1;
            turns = gave.turns;
            left = gave.left;
            ends = (λ n. ending g callee (sym (arguments_of-extends e f more v scope) n) gave.turns) ∙ gave.ends ∙ (λ n. Exited (first n) (sym are n) gave.left);
          } in
          let in_scope : FactInScope fact f.words f.mems =
          (values_in_scope-more e.words e.mems f.words f.mems more.words more.mems v scope, variables-scope e.words e.mems (exit_words g x) g.mems f.words f.mems (omega (arith, words)) (omega (arith, mems))) in
          follow b f (facts ++ fact ∷ []) o q k rs r le (on_way-push g args e f facts fact more on in_scope held)
          (subst (λ n. BodyIsWellFormed g d b n f.mems) words (subst (λ n. BodyIsWellFormed g d b (e.words + exit_words g x) n) mems wf.0))
          (subst (λ n. AllGo def (body_leaves g def b n f.mems (facts ++ fact ∷ []))) words
          (subst (λ n. AllGo def (body_leaves g def b (e.words + exit_words g x) n (facts ++ fact ∷ []))) mems
          (go-left def (body_leaves g def b (e.words + exit_words g x) (e.mems + g.mems) (facts ++ fact ∷ [])) (arm_leaves g def callee xs (suc i) v bs e.words e.mems facts) go)))
          ends
      follow_arm (Arm b bs) (x ∷ xs) callee (suc j) i v e facts o vs q k rs r le on counts scope wf gave fits go ends =
          let next : i + suc j ≡ suc i + j = omega arith in
          let new : ValuesTree = variables_after e.words e.mems (exit_words g x) g.mems in
          follow_arm bs xs callee j (suc i) v e facts (o + needs b) vs q k rs r le on counts scope wf.1
          (record { turns = gave.turns; left = gave.left; ends = gave.ends ∙ (λ n. Exited (next n) vs gave.left) }) fits
          (go-right def (body_leaves g def b (e.words + exit_words g x) (e.mems + g.mems) (facts ++ Gives callee i v new ∷ [])) (arm_leaves g def callee xs (suc i) v bs e.words e.mems facts) go)
          ends
