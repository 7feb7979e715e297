-- A body's expressions tell how the body ends.
use Rattle.std.proofs.Common.{◌≡◌, ℕ, zero, suc, ◌+◌, ◌<◌, ◌≤◌, ◌^◌, ◌%◌, Bool, true, false, cond, eqb, List, [], ◌∷◌, ◌++◌, codes, Option, Some, None, map, length, slice_get, refl, sym, ap, subst, ◌∙◌, arith, option_map, unwrap_or}
use Rattle.std.proofs.lemmas.List.{length-map}
use Rattle.std.proofs.lemmas.List.Elements.{recursion_from_All}
use Rattle.std.specs.Prelude.{IsSomeAnd}
use Rattle.std.specs.List.{AllByRecursion}
use Rattle.smt_terms.proofs.Numerals.{numeral-decimal}
use Rattle.std.proofs.lemmas.Bool.Decides.{nat_tests}
use Rattle.rv_words.specs.Bytes.{Bytes}
use Rattle.word_terms.specs.Tree.{WordTree, MemTree, MemVar, Store}
use Rattle.word_terms.specs.Environment.{Environment, IsInRange, with_word, with_mem, with_words, with_mems}
use Rattle.word_terms.specs.Scope.{WordInScope, MemInScope, WordInRange, MemInRange}
use Rattle.word_terms.specs.Value.{word_value, mem_value, cond_holds}
use Rattle.word_terms.proofs.Ranges.{word_in_range}
use Rattle.word_terms.proofs.Variables.{with_words-words, with_words-mems, with_mems-mems, with_mems-words}
use Rattle.tailrec_lang.specs.declared.group.Exit.{Exit}
use Rattle.tailrec_lang.specs.declared.group.Exit.TheVariants.{At, Ret}
use Rattle.tailrec_lang.specs.Tree.{ValuesTree, Bind, BindMem, Need, BodyTree, Do, Branch, Call, Again, Leave, ArmTrees, NoArm, Arm, GroupTree, exits_at}
use Rattle.tailrec_lang.specs.WellFormed.{BodyIsWellFormed, ArmsAreWellFormed, HasCounts, ValuesInScope, exit_words}
use Rattle.tailrec_lang.specs.Eval.{Arguments, Ending, Exited, NeedFalse, NoTurns, Nothing, Meaning, and_then, arguments_of, body_ending, arm_ending, with_arguments, needs}
use Rattle.smt_terms.specs.Expression.{Expr, exprs, apply, bound, is_atom, ite}
use Rattle.smt_terms.proofs.Unused.{bound-value}
use Rattle.smt_terms.specs.Operators.{Value, Bits, Truth, choose, same, unsorted}
use Rattle.smt_terms.specs.Meaning.{Functions, Variables, bind, value, values, applied, atom_value, literal_of}
use Rattle.smt_terms.specs.Memory.{IsMemoryOf}
use Rattle.smt_export.specs.declared.told.Told.{Told}
use Rattle.smt_export.specs.declared.told.Told.TheVariants.{Ok, ExitNumber, Pc, WordAt, MemAt, DomAt}
use Rattle.smt_export.specs.Told.{word_name, mem_name, dom_name, fun_name, words_from}
use Rattle.smt_export.specs.Terms.{word_expr, mem_expr, dom_expr, cond_expr}
use Rattle.smt_export.specs.Bodies.{with_condition, conjunction, exit_number, mem_args, args, applied_to, called, word_or, mem_or, dom_or, left_by, call_results, let_words, let_mems, body_expr, arms_expr}
use Rattle.smt_export.specs.Telling.{AreMems, AreArrays, AreArgumentValues, IsToldOf}
use Rattle.smt_export.specs.inner.Following.{room, arm_room, EachCall, EachArmCall, IsPc, TellsExit, TellsEnding, IsExported}
use Rattle.smt_terms.specs.Knowing.{Knows}
use Rattle.smt_export.specs.inner.Telling.{Tells}
use Rattle.smt_export.proofs.Joins.{atom-is, falsity-is, branch-value}
use Rattle.smt_export.proofs.Terms.{word_expr-is, mem_expr-is, cond_expr-is, known, word-is}
use Rattle.smt_export.proofs.Names.{tells-word, tells-mem, tells-word_beyond, tells-mem_beyond, tells-bytes_beyond}
use Rattle.group_terms.specs.Range.{ValuesInRange, BodyInRange, ArmsInRange}
use Rattle.group_terms.proofs.Ranges.{in_range-with_word, in_range-with_mem, in_range-with, values_in_range, memory}

-- ---- what is told of an ending

-- the condition, too, where it is told whether all is done; the rest may be known to be true
abbrev both_value : Bool → Told → Value → Value → Value
both_value true Ok c x = c
both_value false Ok c x = choose (c ∷ x ∷ Truth false ∷ [])
both_value known _ c x = x

true-is : (fs : Functions) (s : Variables) → fs (codes "true") ≡ None → s (codes "true") ≡ None → (x : Expr) → is_atom (codes "true") x ≡ true → value fs s x ≡ Truth true
true-is fs s f v x is = (λ j. value fs s (atom-is (codes "true") x is j)) ∙ (λ j. atom_value (v j) (f j) (codes "true"))

-- all but one is told of the rest alone
abbrev IsOther : Told → Type 0
IsOther Ok = ⊥
IsOther _ = Unit {0}

known_other : (b : Bool) (t : Told) → IsOther t → (c x : Value) → x ≡ both_value b t c x
known_other b Ok o c x = absurd o
known_other true ExitNumber o c x = refl
known_other false ExitNumber o c x = refl
known_other true Pc o c x = refl
known_other false Pc o c x = refl
known_other true (WordAt i) o c x = refl
known_other false (WordAt i) o c x = refl
known_other true (MemAt i) o c x = refl
known_other false (MemAt i) o c x = refl
known_other true (DomAt i) o c x = refl
known_other false (DomAt i) o c x = refl

module _ (fs : Functions) (s : Variables) (f : fs (codes "true") ≡ None) (v : s (codes "true") ≡ None) where
  both-where : (b : Bool) (c x : Expr) → value fs s (conjunction b c x) ≡ both_value b Ok (value fs s c) (value fs s x)
  both-where true c x = refl
  both-where false c x = λ j. choose (value fs s c ∷ value fs s x ∷ falsity-is fs f s v j ∷ [])

  both-is : (c : Expr) (x : Told → Expr) (t : Told) → value fs s (with_condition t c (x t)) ≡ both_value (is_atom (codes "true") (x Ok)) t (value fs s c) (value fs s (x t))
  both-is c x Ok = both-where (is_atom (codes "true") (x Ok)) c (x Ok)
  both-is c x ExitNumber = known_other (is_atom (codes "true") (x Ok)) ExitNumber tt (value fs s c) (value fs s (x ExitNumber))
  both-is c x Pc = known_other (is_atom (codes "true") (x Ok)) Pc tt (value fs s c) (value fs s (x Pc))
  both-is c x (WordAt i) = known_other (is_atom (codes "true") (x Ok)) (WordAt i) tt (value fs s c) (value fs s (x (WordAt i)))
  both-is c x (MemAt i) = known_other (is_atom (codes "true") (x Ok)) (MemAt i) tt (value fs s c) (value fs s (x (MemAt i)))
  both-is c x (DomAt i) = known_other (is_atom (codes "true") (x Ok)) (DomAt i) tt (value fs s c) (value fs s (x (DomAt i)))

module _ (g : GroupTree) (exits : List Exit) where
  -- the same values
  pub told_same : (o : Ending) (f h : Told → Value) → ((t : Told) → f t ≡ h t) → TellsEnding g exits o f → TellsEnding g exits o h
  told_same o f h same is = subst (TellsEnding g exits o) (λ j t. same t j) is

  true_same : (b : Bool) (f : Told → Value) → (b ≡ true → f Ok ≡ Truth true) → (t : Told) → f t ≡ both_value b t (Truth true) (f t)
  true_same true f h Ok = h refl
  true_same false f h Ok = refl
  true_same b f h ExitNumber = known_other b ExitNumber tt (Truth true) (f ExitNumber)
  true_same b f h Pc = known_other b Pc tt (Truth true) (f Pc)
  true_same b f h (WordAt i) = known_other b (WordAt i) tt (Truth true) (f (WordAt i))
  true_same b f h (MemAt i) = known_other b (MemAt i) tt (Truth true) (f (MemAt i))
  true_same b f h (DomAt i) = known_other b (DomAt i) tt (Truth true) (f (DomAt i))

  both_true : (b : Bool) (o : Ending) (f : Told → Value) → (b ≡ true → f Ok ≡ Truth true) → TellsEnding g exits o f → TellsEnding g exits o (λ t. both_value b t (Truth true) (f t))
  both_true b o f h is = told_same o f (λ t. both_value b t (Truth true) (f t)) (true_same b f h) is

  both_false : (b : Bool) (x : Value) → both_value b Ok (Truth false) x ≡ Truth false
  both_false true x = refl
  both_false false x = refl

  needed : (b c : Bool) (o : Ending) (f : Told → Value) (d i : ℕ) → (b ≡ true → f Ok ≡ Truth true) → TellsEnding g exits o f
      → TellsEnding g exits (cond c o (NeedFalse d i)) (λ t. both_value b t (Truth c) (f t))
  needed b true o f d i h is = both_true b o f h is
  needed b false o f d i h is = both_false b (f Ok)

  branched : (c : Bool) (o p : Ending) (f h : Told → Value) → TellsEnding g exits o f → TellsEnding g exits p h → TellsEnding g exits (cond c o p) (λ t. cond c (f t) (h t))
  branched true o p f h is are = is
  branched false o p f h is are = are

  followed : (b : Bool) (p : Ending) (ys : List Exit) (go : ℕ → Arguments → ℕ → Ending) (c f : Told → Value) → (b ≡ true → f Ok ≡ Truth true) → TellsEnding g ys p c
      → ((k : ℕ) (x : Arguments) (more : ℕ) → p ≡ Exited k x more → TellsEnding g exits (go k x more) f) → TellsEnding g exits (and_then p go) (λ t. both_value b t (c Ok) (f t))
  followed b (Exited k x left) ys go c f t is h =
      subst (λ v. TellsEnding g exits (go k x left) (λ t. both_value b t v (f t))) (sym is.ok) (both_true b (go k x left) f t (h k x left refl))
  followed b (NeedFalse d i) ys go c f t is h = (λ j. both_value b Ok (is j) (f Ok)) ∙ both_false b (f Ok)
  followed b NoTurns ys go c f t is h = tt
  followed b Nothing ys go c f t is h = is

-- ---- only what is told of a definition counts

module _ (g : GroupTree) (f h : Told → Value) (same : (t : Told) → IsToldOf g t → f t ≡ h t) where
  words_map : (i n : ℕ) → i + n ≤ length g.regs → map f (words_from i n) ≡ map h (words_from i n)
  words_map i zero le = refl
  words_map i (suc n) le = λ j. same (WordAt i) (omega (arith, le)) j ∷ words_map (suc i) n (omega (arith, le)) j

  results_map : (by : Option Exit) → map f (call_results (length g.regs) by) ≡ map h (call_results (length g.regs) by)
  results_map None = words_map 0 (length g.regs) (omega arith)
  results_map (Some (At a)) = words_map 0 (length g.regs) (omega arith)
  results_map (Some Ret) = λ j. same Pc tt j ∷ words_map 0 (length g.regs) (omega arith) j

  mems_map : (ms : List Bytes) (i : ℕ) → i + length ms ≤ g.mems → AreMems f i ms → AreMems h i ms
  mems_map [] i le is = tt
  mems_map (m ∷ ms) i le is = (
    subst (λ v. IsMemoryOf m v (h (DomAt i))) (same (MemAt i) (omega (arith, le))) (subst (λ v. IsMemoryOf m (f (MemAt i)) v) (same (DomAt i) (omega (arith, le))) is.0),
    mems_map ms (suc i) (omega (arith, le)) is.1,
  )

  pc_map : (by : Option Exit) → IsPc by (f Pc) → IsPc by (h Pc)
  pc_map None is = absurd is
  pc_map (Some (At a)) is = sym (same Pc tt) ∙ is
  pc_map (Some Ret) is = tt

  exit_map : (by : Option Exit) (k : ℕ) (x : Arguments) → TellsExit g by k x f → TellsExit g by k x h
  exit_map by k x is = record {
    ok = sym (same Ok tt) ∙ is.ok;
    exit = sym (same ExitNumber tt) ∙ is.exit;
    pc = pc_map by is.pc;
    words = sym (results_map by) ∙ is.words;
    mems = mems_map x.mems 0 (omega (arith, is.count)) is.mems;
    count = is.count;
    range = is.range;
  }

  pub ending_map : (exits : List Exit) (o : Ending) → TellsEnding g exits o f → TellsEnding g exits o h
  ending_map exits (Exited k x left) is = exit_map (slice_get exits k) k x is
  ending_map exits (NeedFalse d i) is = sym (same Ok tt) ∙ is
  ending_map exits NoTurns is = tt
  ending_map exits Nothing is = is

-- ---- values of lists

values-append : (fs : Functions) (s : Variables) (xs ys : List Expr) → values fs s (exprs (xs ++ ys)) ≡ values fs s (exprs xs) ++ values fs s (exprs ys)
values-append fs s [] ys = refl
values-append fs s (x ∷ xs) ys = λ j. value fs s x ∷ values-append fs s xs ys j

-- a function on values
pub applied_to-is : (fs : Functions) (s : Variables) (d : ℕ) (t : Told) (xs : List Expr) (f : List Value → Value) → fs (fun_name d t) ≡ Some f → s (fun_name d t) ≡ None
    → value fs s (applied_to (fun_name d t) xs) ≡ applied fs (fun_name d t) (values fs s (exprs xs))
applied_to-is fs s d t [] f there free =
    (λ j. atom_value (free j) (there j) (fun_name d t)) ∙ sym (λ j. unwrap_or (option_map (λ (h : List Value → Value). h []) (there j)) unsorted)
applied_to-is fs s d t (x ∷ xs) f there free = refl

-- ---- values in an environment

module _ (fs : Functions) (k : Knows fs) (e : Environment) (r : IsInRange e) (s : Variables) (t : Tells e s) where
  word_values : (ts : List WordTree) → AllByRecursion (λ x. WordInScope x e.words e.mems) ts → AllByRecursion WordInRange ts
      → values fs s (exprs (map word_expr ts)) ≡ map (Bits 64) (map (λ x. word_value x e) ts)
  word_values [] scope range = refl
  word_values (x ∷ ts) scope range = λ j. word_expr-is fs k e r s t x scope.0 range.0 j ∷ word_values ts scope.1 range.1 j

  arrays : (ms : List MemTree) → AllByRecursion (λ m. MemInScope m e.words e.mems) ms → AllByRecursion MemInRange ms
      → AreArrays (map (λ m. mem_value m e) ms) (values fs s (exprs (mem_args ms)))
  arrays [] scope range = tt
  arrays (m ∷ ms) scope range = (mem_expr-is fs k e r s t m scope.0 range.0, arrays ms scope.1 range.1)

  arguments-are : (g : GroupTree) (v : ValuesTree) → HasCounts v (length g.regs) g.mems → ValuesInScope v e.words e.mems → ValuesInRange v
      → AreArgumentValues g (arguments_of v e) (values fs s (exprs (args v)))
  arguments-are g v counts scope range = record {
    arrays = values fs s (exprs (mem_args v.mems));
    is = values-append fs s (map word_expr v.words) (mem_args v.mems) ∙ (λ j. word_values v.words (recursion_from_All _ v.words scope.0) range.0 j ++ values fs s (exprs (mem_args v.mems)));
    mems = arrays v.mems (recursion_from_All _ v.mems scope.1) range.1;
    words_count = length-map v.words (λ x. word_value x e) ∙ counts.0;
    mems_count = length-map v.mems (λ x. mem_value x e) ∙ counts.1;
    range = values_in_range e r v range;
  }

  -- ---- leaving

  left_words : (c : Told → Value) (F : ℕ → Expr) → ((j : ℕ) → c (WordAt j) ≡ value fs s (F j)) → (ts : List WordTree) (i : ℕ)
      → AllByRecursion (λ x. WordInScope x e.words e.mems) ts → AllByRecursion WordInRange ts → ((j : ℕ) → F (i + j) ≡ word_or ts j)
      → map c (words_from i (length ts)) ≡ map (Bits 64) (map (λ x. word_value x e) ts)
  left_words c F at [] i scope range same = refl
  left_words c F at (x ∷ ts) i scope range same =
      let here : i + 0 ≡ i = omega arith in
      let first : c (WordAt i) ≡ Bits 64 (word_value x e) =
      at i ∙ (λ j. value fs s (F (sym here j))) ∙ (λ j. value fs s (same 0 j)) ∙ word_expr-is fs k e r s t x scope.0 range.0 in
      let rest = left_words c F at ts (suc i) scope.1 range.1 (λ j. let next : suc i + j ≡ i + suc j = omega arith in ap F next ∙ same (suc j)) in
      λ j. first j ∷ rest j

  left_mems : (c : Told → Value) (F G : ℕ → Expr) → ((j : ℕ) → c (MemAt j) ≡ value fs s (F j)) → ((j : ℕ) → c (DomAt j) ≡ value fs s (G j)) → (ms : List MemTree) (i : ℕ)
      → AllByRecursion (λ m. MemInScope m e.words e.mems) ms → AllByRecursion MemInRange ms → ((j : ℕ) → F (i + j) ≡ mem_or ms j) → ((j : ℕ) → G (i + j) ≡ dom_or ms j)
      → AreMems c i (map (λ m. mem_value m e) ms)
  left_mems c F G at of [] i scope range same alike = tt
  left_mems c F G at of (m ∷ ms) i scope range same alike =
      let here : i + 0 ≡ i = omega arith in
      let first : c (MemAt i) ≡ value fs s (mem_expr m) = at i ∙ (λ j. value fs s (F (sym here j))) ∙ (λ j. value fs s (same 0 j)) in
      let second : c (DomAt i) ≡ value fs s (dom_expr m) = of i ∙ (λ j. value fs s (G (sym here j))) ∙ (λ j. value fs s (alike 0 j)) in
      let is = mem_expr-is fs k e r s t m scope.0 range.0 in (
        subst (λ v. IsMemoryOf (mem_value m e) v (c (DomAt i))) (sym first) (subst (λ v. IsMemoryOf (mem_value m e) (value fs s (mem_expr m)) v) (sym second) is),
        left_mems c F G at of ms (suc i) scope.1 range.1 (λ j. let next : suc i + j ≡ i + suc j = omega arith in ap F next ∙ same (suc j)) (λ j. let next : suc i + j ≡ i + suc j = omega arith in ap G next ∙ alike (suc j)),
      )

  number-is : (n : ℕ) → n < 2 ^ 32 → value fs s (exit_number n) ≡ Bits 32 n
  number-is n h = (λ j. literal_of (numeral-decimal n (omega arith) j) (Some 32)) ∙ (let small : n % 2 ^ 32 ≡ n = omega arith in ap (Bits 32) small)

  module _ (g : GroupTree) (v : ValuesTree) (scope : ValuesInScope v e.words e.mems) (range : ValuesInRange v) (n : ℕ) (few : n < 2 ^ 32) where
    leaves_at : (a : ℕ) → a < 2 ^ 64 → HasCounts v (length g.regs) g.mems → TellsExit g (Some (At a)) n (arguments_of v e) (λ u. value fs s (left_by (Some (At a)) n v u))
    leaves_at a small counts = record {
      ok = λ j. atom_value (t.truth j) (k.truth j) (codes "true");
      exit = number-is n few;
      pc = word-is fs s a small;
      words = subst (λ len. map (λ u. value fs s (left_by (Some (At a)) n v u)) (words_from 0 len) ≡ map (Bits 64) (map (λ x. word_value x e) v.words)) counts.0
          (left_words (λ u. value fs s (left_by (Some (At a)) n v u)) (word_or v.words) (λ j. refl) v.words 0 (recursion_from_All _ v.words scope.0) range.0 (λ j. let z : 0 + j ≡ j = omega arith in ap (word_or v.words) z));
      mems = left_mems (λ u. value fs s (left_by (Some (At a)) n v u)) (mem_or v.mems) (dom_or v.mems) (λ j. refl) (λ j. refl) v.mems 0 (recursion_from_All _ v.mems scope.1) range.1
          (λ j. let z : 0 + j ≡ j = omega arith in ap (mem_or v.mems) z) (λ j. let z : 0 + j ≡ j = omega arith in ap (dom_or v.mems) z);
      count = length-map v.mems (λ m. mem_value m e) ∙ counts.1;
      range = values_in_range e r v range;
    }

  -- with the returned address in front
  returned_words : (ts : List WordTree) (len : ℕ) (c : Told → Value) → ((j : ℕ) → c (WordAt j) ≡ value fs s (word_or ts (suc j))) → c Pc ≡ value fs s (word_or ts 0) → length ts ≡ len + 1
      → AllByRecursion (λ x. WordInScope x e.words e.mems) ts → AllByRecursion WordInRange ts → map c (Pc ∷ words_from 0 len) ≡ map (Bits 64) (map (λ x. word_value x e) ts)
  returned_words [] len c at first count scope range = absurd (omega (arith, count))
  returned_words (x ∷ ts) len c at first count scope range =
      let same : length ts ≡ len = omega (arith, count) in
      let front : c Pc ≡ Bits 64 (word_value x e) = first ∙ word_expr-is fs k e r s t x scope.0 range.0 in
      let rest = left_words c (word_or ts) at ts 0 scope.1 range.1 (λ j. let z : 0 + j ≡ j = omega arith in ap (word_or ts) z) in
      λ j. front j ∷ ((λ i. map c (words_from 0 (sym same i))) ∙ rest) j

  module _ (g : GroupTree) (v : ValuesTree) (scope : ValuesInScope v e.words e.mems) (range : ValuesInRange v) (n : ℕ) (few : n < 2 ^ 32) where
    leaves_ret : HasCounts v (length g.regs + 1) g.mems → TellsExit g (Some Ret) n (arguments_of v e) (λ u. value fs s (left_by (Some Ret) n v u))
    leaves_ret counts = record {
      ok = λ j. atom_value (t.truth j) (k.truth j) (codes "true");
      exit = number-is n few;
      pc = tt;
      words = returned_words v.words (length g.regs) (λ u. value fs s (left_by (Some Ret) n v u)) (λ j. refl) refl counts.0 (recursion_from_All _ v.words scope.0) range.0;
      mems = left_mems (λ u. value fs s (left_by (Some Ret) n v u)) (mem_or v.mems) (dom_or v.mems) (λ j. refl) (λ j. refl) v.mems 0 (recursion_from_All _ v.mems scope.1) range.1
          (λ j. let z : 0 + j ≡ j = omega arith in ap (mem_or v.mems) z) (λ j. let z : 0 + j ≡ j = omega arith in ap (dom_or v.mems) z);
      count = length-map v.mems (λ m. mem_value m e) ∙ counts.1;
      range = values_in_range e r v range;
    }

    leaves : (by : Option Exit) → ((a : ℕ) → by ≡ Some (At a) → a < 2 ^ 64) → IsSomeAnd by (λ x. HasCounts v (exit_words g x) g.mems)
        → TellsExit g by n (arguments_of v e) (λ u. value fs s (left_by by n v u))
    leaves None small counts = absurd counts
    leaves (Some (At a)) small counts = leaves_at g v scope range n few a (small a refl) counts
    leaves (Some Ret) small counts = leaves_ret counts

-- ---- results as variables

-- a memory's arrays, each of which may come with another
pub other_domain : (M : Bytes) (m d m' d' : Value) → IsMemoryOf M m d → IsMemoryOf M m' d' → IsMemoryOf M m d'
other_domain M m d m' d' a b = record { at = a.at; bits = b.bits; bytes_is = a.bytes_is; domain_is = b.domain_is; byte = a.byte; present = b.present }

module _ (fs : Functions) (e : Environment) (c : Told → Expr) (Q : (Told → Value) → Type 0) where
  words_bound : (ts : List Told) (ns : List ℕ) (e' : Environment) (s : Variables) (body : Told → Expr)
      → Tells e s → Tells e' s → e.words ≤ e'.words → e'.words + length ns < 2 ^ 64
      → ((u : Variables) → Tells e u → map (λ t. value fs u (c t)) ts ≡ map (Bits 64) ns)
      → ((u : Variables) → Tells e u → Tells (with_words e' ns) u → Q (λ t. value fs u (body t)))
      → Q (λ t. value fs s (let_words c ts e'.words (body t)))
  words_bound [] [] e' s body old new le room is go = go s old new
  words_bound [] (n ∷ ns) e' s body old new le room is go = let h = is s old in absurd (cc)
  words_bound (t ∷ ts) [] e' s body old new le room is go = let h = is s old in absurd (cc)
  words_bound (t ∷ ts) (n ∷ ns) e' s body old new le room is go =
      let h = is s old in
      let first : value fs s (c t) ≡ Bits 64 n = cc in
      subst Q (λ j u. sym (bound-value (word_name e'.words) fs (c t) (let_words c ts (e'.words + 1) (body u)) s) j)
      (subst (λ v. Q (λ t. value fs (bind s (word_name e'.words) v) (let_words c ts (e'.words + 1) (body t)))) (sym first)
      (words_bound ts ns (with_word e' n) (bind s (word_name e'.words) (Bits 64 n)) body
      (tells-word_beyond e s old e'.words (Bits 64 n) (omega (arith, le)) (omega (arith, room))) (tells-word e' s new n (omega (arith, room))) (omega (arith, le)) (omega (arith, room))
      (λ u tu. let both = is u tu in let rest : map (λ t. value fs u (c t)) ts ≡ map (Bits 64) ns = cc in rest) go))

  mems_bound : (q : ℕ) (ms : List Bytes) (i : ℕ) (e' : Environment) (s : Variables) (body : Told → Expr)
      → length ms ≡ q → Tells e s → Tells e' s → e.mems ≤ e'.mems → e'.mems + q < 2 ^ 64
      → ((u : Variables) → Tells e u → AreMems (λ t. value fs u (c t)) i ms)
      → ((u : Variables) → Tells e u → Tells (with_mems e' ms) u → Q (λ t. value fs u (body t)))
      → Q (λ t. value fs s (let_mems c i q e'.mems (body t)))
  mems_bound zero [] i e' s body count old new le room is go = go s old new
  mems_bound (suc q) [] i e' s body count old new le room is go = absurd (omega (arith, count))
  mems_bound zero (M ∷ Ms) i e' s body count old new le room is go = absurd (omega (arith, count))
  mems_bound (suc q) (M ∷ Ms) i e' s body count old new le room is go =
      let m = value fs s (c (MemAt i)) in
      let u = bind s (mem_name e'.mems) m in
      let d = value fs u (c (DomAt i)) in
      let both = other_domain M m (value fs s (c (DomAt i))) (value fs u (c (MemAt i))) d (is s old).0 (is u (tells-bytes_beyond e s old e'.mems m (omega (arith, le)) (omega (arith, room)))).0 in
      subst Q (λ j t. sym (bound-value (mem_name e'.mems) fs (c (MemAt i)) (bound (dom_name e'.mems) (c (DomAt i)) (let_mems c (suc i) q (e'.mems + 1) (body t))) s
      ∙ bound-value (dom_name e'.mems) fs (c (DomAt i)) (let_mems c (suc i) q (e'.mems + 1) (body t)) u) j)
      (mems_bound q Ms (suc i) (with_mem e' M) (bind u (dom_name e'.mems) d) body (omega (arith, count))
      (tells-mem_beyond e s old e'.mems m d (omega (arith, le)) (omega (arith, room))) (tells-mem e' s new M m d both (omega (arith, room))) (omega (arith, le)) (omega (arith, room))
      (λ w tw. (is w tw).1) go)

-- ---- bodies

dom_same : (fs : Functions) (s : Variables) (n : ℕ) (v : Value) (m : MemTree) → value fs (bind s (mem_name n) v) (dom_expr m) ≡ value fs s (dom_expr m)
dom_same fs s n v (MemVar i) = refl
dom_same fs s n v (Store width m a x) = dom_same fs s n v m

words_from-length : (i n : ℕ) → length (words_from i n) ≡ n
words_from-length i zero = refl
words_from-length i (suc n) = ap suc (words_from-length (suc i) n)

pub results-length : (g : GroupTree) (y : Exit) → length (call_results (length g.regs) (Some y)) ≡ exit_words g y
results-length g (At a) = words_from-length 0 (length g.regs)
results-length g Ret = let w = words_from-length 0 (length g.regs) in omega (arith, w)

pub exit_words-few : (g : GroupTree) (y : Exit) → exit_words g y ≤ length g.regs + 1
exit_words-few g (At a) = omega arith
exit_words-few g Ret = omega arith

pub exit_within : (xs : List Exit) (n : ℕ) (A : Exit → Type 0) → IsSomeAnd (slice_get xs n) A → n < length xs
exit_within [] n A h = absurd h
exit_within (x ∷ xs) zero A h = omega arith
exit_within (x ∷ xs) (suc n) A h = let lt = exit_within xs n A h in omega (arith, lt)

arm_chosen : (c : Bool) (fs : Functions) (s : Variables) (C : Expr) (A B : Told → Expr) → value fs s C ≡ Truth c → (Q : (Told → Value) → Type 0)
    → Q (λ t. cond c (value fs s (A t)) (value fs s (B t))) → Q (λ t. value fs s (ite C (A t) (B t)))
arm_chosen c fs s C A B is Q go = subst (λ v. Q (λ t. choose (v ∷ value fs s (A t) ∷ value fs s (B t) ∷ []))) (sym is) go

module _ (g : GroupTree) (fs : Functions) (k : Knows fs) (call : Meaning) (D : ℕ) (few : (d : ℕ) → length (exits_at g d) < 2 ^ 32)
    (small : (d n a : ℕ) → slice_get (exits_at g d) n ≡ Some (At a) → a < 2 ^ 64) where
  abbrev P : ℕ → Type 0
  P d = IsExported g fs call d

  abbrev Goal : Ending → (Told → Value) → Type 0
  Goal o f = TellsEnding g (exits_at g D) o f

  called_tells : (def : ℕ) (v : ValuesTree) (e : Environment) → IsInRange e → HasCounts v (length g.regs) g.mems → ValuesInScope v e.words e.mems → ValuesInRange v → P def → (left : ℕ)
      → (s : Variables) → Tells e s → TellsEnding g (exits_at g def) (call def (arguments_of v e) left) (λ t. value fs s (called def v t))
  called_tells def v e r counts scope range is left s t =
      ending_map g (λ u. applied fs (fun_name def u) (values fs s (exprs (args v)))) (λ u. value fs s (called def v u))
      (λ u told. let f = is.there u told in sym (applied_to-is fs s def u (args v) f.0 f.1 (t.functions def u))) (exits_at g def) (call def (arguments_of v e) left)
      (is.tells (arguments_of v e) left (values fs s (exprs (args v))) (arguments-are fs k e r s t g v counts scope range))

  -- the arm of the exit by which the call left
  module _ (y : Exit) (e : Environment) (n : ℕ) (c : Told → Expr) (x : Arguments) (tells : (u : Variables) → Tells e u → TellsExit g (Some y) n x (λ t. value fs u (c t))) (s : Variables) (t : Tells e s) where
    abbrev E : Environment
    E = with_arguments e x

    results-count : length x.words ≡ exit_words g y
    results-count =
        let ts = call_results (length g.regs) (Some y) in
        sym (sym (length-map ts (λ u. value fs s (c u))) ∙ ap length (tells s t).words ∙ length-map x.words (Bits 64)) ∙ results-length g y

    E-words : e.words + exit_words g y ≡ E.words
    E-words = omega (arith, with_mems-words (with_words e x.words) x.mems, with_words-words e x.words, results-count)

    E-mems : e.mems + g.mems ≡ E.mems
    E-mems = omega (arith, with_mems-mems (with_words e x.words) x.mems, with_words-mems e x.words, (tells s t).count)

    arm_tells : (b : BodyTree) (o more : ℕ) → e.words + (length g.regs + 1) < 2 ^ 64 → e.mems + g.mems < 2 ^ 64
        → ((v : Variables) → Tells E v → Goal (body_ending call D b E o more) (λ q. value fs v (body_expr g D b E.words E.mems q)))
        → Goal (body_ending call D b E o more)
        (λ u. value fs s (let_words c (call_results (length g.regs) (Some y)) e.words (let_mems c 0 g.mems e.mems (body_expr g D b (e.words + length (call_results (length g.regs) (Some y))) (e.mems + g.mems) u))))
    arm_tells b o more w m go =
        let Q = Goal (body_ending call D b E o more) in
        let ts = call_results (length g.regs) (Some y) in
        let told : e.words + length ts ≡ E.words = omega (arith, E-words, results-length g y) in
        let few_words : exit_words g y ≤ length g.regs + 1 = exit_words-few g y in
        let body = λ (u : Told). body_expr g D b (e.words + length ts) (e.mems + g.mems) u in
        words_bound fs e c Q ts x.words e s (λ u. let_mems c 0 g.mems e.mems (body u)) t t (omega arith) (omega (arith, results-count, few_words, w)) (λ u tu. (tells u tu).words)
        (λ u tu new. subst (λ mm. Q (λ q. value fs u (let_mems c 0 g.mems mm (body q)))) (with_words-mems e x.words)
        (mems_bound fs e c Q g.mems x.mems 0 (with_words e x.words) u body (tells s t).count tu new (omega (arith, with_words-mems e x.words)) (omega (arith, with_words-mems e x.words, m))
        (λ v tv. (tells v tv).mems)
        (λ v tv last.
        subst (λ ww. Q (λ q. value fs v (body_expr g D b ww (e.mems + g.mems) q))) (sym told)
        (subst (λ mm. Q (λ q. value fs v (body_expr g D b E.words mm q))) (sym E-mems) (go v last)))))

  mutual
    pub body_tells : (b : BodyTree) (e : Environment) (s : Variables) (o left : ℕ) → IsInRange e → Tells e s → BodyIsWellFormed g D b e.words e.mems → BodyInRange b → EachCall P b
        → e.words + room g b < 2 ^ 64 → e.mems + room g b < 2 ^ 64
        → Goal (body_ending call D b e o left) (λ t. value fs s (body_expr g D b e.words e.mems t))
    body_tells (Do (Bind x) b) e s o left r t wf range calls w m =
        told_same g (exits_at g D) (body_ending call D (Do (Bind x) b) e o left) _ _
        (λ u. sym (bound-value (word_name e.words) fs (word_expr x) (body_expr g D b (e.words + 1) e.mems u) s))
        (subst (λ v. Goal (body_ending call D b (with_word e (word_value x e)) (o + 0) left) (λ u. value fs (bind s (word_name e.words) v) (body_expr g D b (e.words + 1) e.mems u)))
        (sym (word_expr-is fs k e r s t x wf.0 range.0))
        (body_tells b (with_word e (word_value x e)) (bind s (word_name e.words) (Bits 64 (word_value x e))) (o + 0) left (in_range-with_word e r (word_value x e) (word_in_range e r x range.0))
        (tells-word e s t (word_value x e) (omega arith)) wf.1 range.1 calls (omega arith) (omega arith)))
    body_tells (Do (BindMem x) b) e s o left r t wf range calls w m =
        let is = mem_expr-is fs k e r s t x wf.0 range.0 in
        let vm = value fs s (mem_expr x) in
        told_same g (exits_at g D) (body_ending call D (Do (BindMem x) b) e o left) _ _
        (λ u. sym (bound-value (mem_name e.mems) fs (mem_expr x) (bound (dom_name e.mems) (dom_expr x) (body_expr g D b e.words (e.mems + 1) u)) s
        ∙ bound-value (dom_name e.mems) fs (dom_expr x) (body_expr g D b e.words (e.mems + 1) u) (bind s (mem_name e.mems) vm)))
        (subst (λ v. Goal (body_ending call D b (with_mem e (mem_value x e)) (o + 0) left) (λ u. value fs (bind (bind s (mem_name e.mems) vm) (dom_name e.mems) v) (body_expr g D b e.words (e.mems + 1) u)))
        (sym (dom_same fs s e.mems vm x))
        (body_tells b (with_mem e (mem_value x e)) (bind (bind s (mem_name e.mems) vm) (dom_name e.mems) (value fs s (dom_expr x))) (o + 0) left
        (in_range-with_mem e r (mem_value x e) (memory e r x)) (tells-mem e s t (mem_value x e) vm (value fs s (dom_expr x)) is (omega arith)) wf.1 range.1 calls (omega arith) (omega arith)))
    body_tells (Do (Need c) b) e s o left r t wf range calls w m =
        told_same g (exits_at g D) (body_ending call D (Do (Need c) b) e o left) _ _
        (λ u. sym (both-is fs s k.truth t.truth (cond_expr c) (body_expr g D b e.words e.mems) u))
        (subst (λ v. Goal (body_ending call D (Do (Need c) b) e o left) (λ u. both_value (is_atom (codes "true") (body_expr g D b e.words e.mems Ok)) u v (value fs s (body_expr g D b e.words e.mems u)))) (sym (cond_expr-is fs k e r s t c wf.0 range.0))
        (needed g (exits_at g D) (is_atom (codes "true") (body_expr g D b e.words e.mems Ok)) (cond_holds c e) (body_ending call D b e (o + 1) left) (λ u. value fs s (body_expr g D b e.words e.mems u)) D o
        (true-is fs s k.truth t.truth (body_expr g D b e.words e.mems Ok))
        (body_tells b e s (o + 1) left r t wf.1 range.1 calls (omega arith) (omega arith))))
    body_tells (Branch c a b) e s o left r t wf range calls w m =
        told_same g (exits_at g D) (body_ending call D (Branch c a b) e o left) _ _
        (λ u. sym (branch-value fs k.truth s t.truth (cond_expr c) (cond_holds c e) (cond_expr-is fs k e r s t c wf.0 range.0) (body_expr g D a e.words e.mems u) (body_expr g D b e.words e.mems u)))
        (branched g (exits_at g D) (cond_holds c e) (body_ending call D a e o left) (body_ending call D b e (o + needs a) left) _ _
        (body_tells a e s o left r t wf.1 range.1 calls.0 (omega arith) (omega arith)) (body_tells b e s (o + needs a) left r t wf.2 range.2 calls.1 (omega arith) (omega arith)))
    body_tells (Call def v arms) e s o left r t wf range calls w m =
        let tells = called_tells def v e r wf.1 wf.2 range.0 calls.0 left in
        told_same g (exits_at g D) (body_ending call D (Call def v arms) e o left) _ _
        (λ u. sym (both-is fs s k.truth t.truth (called def v Ok) (arms_expr g D (called def v) (exits_at g def) arms 0 e.words e.mems) u))
        (followed g (exits_at g D) (is_atom (codes "true") (arms_expr g D (called def v) (exits_at g def) arms 0 e.words e.mems Ok)) (call def (arguments_of v e) left) (exits_at g def) (λ n x more. arm_ending call D arms n (with_arguments e x) o more)
        (λ u. value fs s (called def v u)) (λ u. value fs s (arms_expr g D (called def v) (exits_at g def) arms 0 e.words e.mems u))
        (true-is fs s k.truth t.truth (arms_expr g D (called def v) (exits_at g def) arms 0 e.words e.mems Ok)) (tells s t)
        (λ n x more is. arms_tell (exits_at g def) arms 0 n n (called def v) e s o more x r t (omega arith)
        (λ u tu. subst (λ p. TellsEnding g (exits_at g def) p (λ u'. value fs u (called def v u'))) is (tells u tu)) wf.3 range.1 calls.1 (omega (arith, few def)) w m))
    body_tells (Again v) e s o left r t wf range calls w m = absurd calls
    body_tells (Leave exit v) e s o left r t wf range calls w m =
        leaves fs k e r s t g v wf.1 range exit (omega (arith, exit_within (exits_at g D) exit (λ x. HasCounts v (exit_words g x) g.mems) wf.0, few D)) (slice_get (exits_at g D) exit) (λ a is. small D exit a is) wf.0

    arms_tell : (ys : List Exit) (bs : ArmTrees) (j i n : ℕ) (c : Told → Expr) (e : Environment) (s : Variables) (o more : ℕ) (x : Arguments) → IsInRange e → Tells e s → n ≡ j + i
        → ((u : Variables) → Tells e u → TellsExit g (slice_get ys i) n x (λ t. value fs u (c t)))
        → ArmsAreWellFormed g D ys bs e.words e.mems → ArmsInRange bs → EachArmCall P bs → j + length ys < 2 ^ 32
        → e.words + arm_room g bs < 2 ^ 64 → e.mems + arm_room g bs < 2 ^ 64
        → Goal (arm_ending call D bs i (with_arguments e x) o more) (λ t. value fs s (arms_expr g D c ys bs j e.words e.mems t))
    arms_tell [] NoArm j i n c e s o more x r t at tells wf range calls lt w m = absurd (tells s t).pc
    arms_tell (y ∷ ys) NoArm j i n c e s o more x r t at tells wf range calls lt w m = absurd wf
    arms_tell [] (Arm b bs) j i n c e s o more x r t at tells wf range calls lt w m = absurd wf
    arms_tell (y ∷ []) (Arm b bs) j zero n c e s o more x r t at tells wf range calls lt w m = arm_tells y e n c x tells s t b o more (omega (arith, w)) (omega (arith, m))
        (λ v last. body_tells b (with_arguments e x) v o more (in_range-with e x r (tells s t).range) last
        (subst (λ ww. BodyIsWellFormed g D b ww (with_arguments e x).mems) (E-words y e n c x tells s t) (subst (λ mm. BodyIsWellFormed g D b (e.words + exit_words g y) mm) (E-mems y e n c x tells s t) wf.0)) range.0 calls.0
        (let same = E-words y e n c x tells s t in let few_words = exit_words-few g y in omega (arith, same, few_words, w)) (let same = E-mems y e n c x tells s t in omega (arith, same, m)))
    arms_tell (y ∷ []) (Arm b bs) j (suc i) n c e s o more x r t at tells wf range calls lt w m = absurd (tells s t).pc
    arms_tell (y ∷ z ∷ zs) (Arm b bs) j zero n c e s o more x r t at tells wf range calls lt w m =
        let here = tells s t in
        let test : eqb n j ≡ true = grind (arith, nat_tests) in
        let chosen : value fs s (apply (codes "=") (c ExitNumber ∷ exit_number j ∷ [])) ≡ Truth true = (λ q. same (here.exit q ∷ number-is fs k e r s t j (omega (arith, lt)) q ∷ [])) ∙ ap Truth test in
        arm_chosen true fs s (apply (codes "=") (c ExitNumber ∷ exit_number j ∷ []))
        (λ u. let_words c (call_results (length g.regs) (Some y)) e.words (let_mems c 0 g.mems e.mems (body_expr g D b (e.words + length (call_results (length g.regs) (Some y))) (e.mems + g.mems) u)))
        (λ u. arms_expr g D c (z ∷ zs) bs (suc j) e.words e.mems u) chosen (Goal (body_ending call D b (with_arguments e x) o more))
        (arm_tells y e n c x tells s t b o more (omega (arith, w)) (omega (arith, m))
        (λ v last. body_tells b (with_arguments e x) v o more (in_range-with e x r (tells s t).range) last
        (subst (λ ww. BodyIsWellFormed g D b ww (with_arguments e x).mems) (E-words y e n c x tells s t) (subst (λ mm. BodyIsWellFormed g D b (e.words + exit_words g y) mm) (E-mems y e n c x tells s t) wf.0)) range.0 calls.0
        (let same = E-words y e n c x tells s t in let few_words = exit_words-few g y in omega (arith, same, few_words, w)) (let same = E-mems y e n c x tells s t in omega (arith, same, m))))
    arms_tell (y ∷ z ∷ zs) (Arm b bs) j (suc i) n c e s o more x r t at tells wf range calls lt w m =
        let Q = Goal (arm_ending call D bs i (with_arguments e x) (o + needs b) more) in
        let here = tells s t in
        let test : eqb n j ≡ false = grind (arith, nat_tests) in
        let chosen : value fs s (apply (codes "=") (c ExitNumber ∷ exit_number j ∷ [])) ≡ Truth false = (λ q. same (here.exit q ∷ number-is fs k e r s t j (omega (arith, lt)) q ∷ [])) ∙ ap Truth test in
        arm_chosen false fs s (apply (codes "=") (c ExitNumber ∷ exit_number j ∷ []))
        (λ u. let_words c (call_results (length g.regs) (Some y)) e.words (let_mems c 0 g.mems e.mems (body_expr g D b (e.words + length (call_results (length g.regs) (Some y))) (e.mems + g.mems) u)))
        (λ u. arms_expr g D c (z ∷ zs) bs (suc j) e.words e.mems u) chosen Q
        (arms_tell (z ∷ zs) bs (suc j) i n c e s (o + needs b) more x r t (omega (arith, at)) tells wf.1 range.1 calls.1 (omega (arith, lt)) (omega (arith, w)) (omega (arith, m)))
