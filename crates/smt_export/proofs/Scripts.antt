-- The functions of a script tell how entries end.
use Rattle.std.proofs.Common.{◌≡◌, ◌⊎◌, inl, inr, ℕ, zero, suc, ◌+◌, ◌<◌, ◌≤◌, ◌^◌, Bool, true, false, cond, List, [], ◌∷◌, ◌++◌, Option, Some, option_map, unwrap_or, map, length, take, slice_get, refl, sym, ap, subst, ◌∙◌, arith, ⊎_elim}
use Rattle.std.specs.Str.{bytes_eq}
use Rattle.std.proofs.lemmas.Bool.{cases_lt}
use Rattle.std.proofs.lemmas.Option.{slice_get_within}
use Rattle.rv_words.specs.Bytes.{Bytes}
use Rattle.word_terms.specs.Environment.{Environment, no_variables as none, with_word, with_mem, with_words, with_mems}
use Rattle.word_terms.proofs.Variables.{with_words-words, with_words-mems, with_mems-mems, with_mems-words}
use Rattle.tailrec_lang.specs.declared.group.Exit.{Exit}
use Rattle.tailrec_lang.specs.Tree.{BodyTree, Do, Branch, Call, Again, Leave, ArmTrees, NoArm, Arm, DefTree, GroupTree, exits_at, Bind, BindMem, Need}
use Rattle.tailrec_lang.specs.WellFormed.{BodyIsWellFormed, ArmsAreWellFormed}
use Rattle.tailrec_lang.specs.Eval.{Arguments, Ending, Exited, NeedFalse, NoTurns, Nothing, Meaning, ending, body_ending, with_arguments}
use Rattle.tailrec_lang.proofs.Turns.{ending-enter}
use Rattle.smt_terms.specs.Operators.{Value, Bits, Truth}
use Rattle.smt_terms.specs.Meaning.{Functions, Variables, FunTree, bind, value, applied, bind_all, fun_value, with_fun, functions_after, no_names}
use Rattle.smt_terms.specs.declared.sort.Sort.{Sort}
use Rattle.smt_export.specs.declared.told.Told.{Told}
use Rattle.smt_export.specs.declared.told.Told.TheVariants.{Ok, ExitNumber, Pc, WordAt, MemAt, DomAt}
use Rattle.smt_export.specs.Told.{word_name, mem_name, dom_name, fun_name, word_params, mem_params, params, all_told}
use Rattle.smt_export.specs.Bodies.{call_results, body_expr}
use Rattle.smt_terms.specs.Functions.{helpers}
use Rattle.smt_terms.specs.Knowing.{Knows}
use Rattle.smt_export.specs.Scripts.{def_fun, def_funs, funs_from, script}
use Rattle.smt_export.specs.Telling.{AreMems, AreArrays, AreArgumentValues, IsToldOf}
use Rattle.smt_export.specs.inner.Following.{IsPc, TellsEnding, IsExported, EachCall, EachArmCall, room}
use Rattle.smt_export.specs.inner.Telling.{Tells}
use Rattle.smt_export.specs.inner.Exported.{IsClosed, HasRange}
use Rattle.smt_export.proofs.Names.{tells-word, tells-mem, names_differ, told_names_same, IsSmall, same_bytes}
use Rattle.smt_export.proofs.Membership.{Member, AllSmall, all_told-small, told-small, member-told}
use Rattle.smt_export.proofs.Bodies.{body_tells, told_same, ending_map, other_domain}
use Rattle.group_terms.proofs.Ranges.{in_range-with, in_range-none}
use Rattle.smt_terms.proofs.HelperValues.{helpers-know}

-- ---- parameters

words_bound : (ns : List ℕ) (n : ℕ) (e : Environment) (s : Variables) (ps : List (List ℕ × Sort)) (vs : List Value) → Tells e s → length ns ≡ n → e.words + n < 2 ^ 64
    → (u : Variables) × (bind_all s (word_params e.words n ++ ps) (map (Bits 64) ns ++ vs) ≡ bind_all u ps vs) × Tells (with_words e ns) u
words_bound [] zero e s ps vs t count room = (s, refl, t)
words_bound [] (suc n) e s ps vs t count room = absurd (omega (arith, count))
words_bound (w ∷ ns) zero e s ps vs t count room = absurd (omega (arith, count))
words_bound (w ∷ ns) (suc n) e s ps vs t count room =
    words_bound ns n (with_word e w) (bind s (word_name e.words) (Bits 64 w)) ps vs (tells-word e s t w (omega (arith, room))) (omega (arith, count)) (omega (arith, room))

mems_bound : (ms : List Bytes) (vs : List Value) (n : ℕ) (e : Environment) (s : Variables) → AreArrays ms vs → Tells e s → length ms ≡ n → e.mems + n < 2 ^ 64
    → (u : Variables) × (bind_all s (mem_params e.mems n) vs ≡ u) × Tells (with_mems e ms) u
mems_bound [] vs zero e s a t count room = (s, refl, t)
mems_bound [] vs (suc n) e s a t count room = absurd (omega (arith, count))
mems_bound (M ∷ Ms) vs zero e s a t count room = absurd (omega (arith, count))
mems_bound (M ∷ Ms) [] (suc n) e s a t count room = absurd a
mems_bound (M ∷ Ms) (m ∷ []) (suc n) e s a t count room = absurd a
mems_bound (M ∷ Ms) (m ∷ d ∷ vs) (suc n) e s a t count room =
    mems_bound Ms vs n (with_mem e M) (bind (bind s (mem_name e.mems) m) (dom_name e.mems) d) a.1 (tells-mem e s t M m d a.0 (omega (arith, room))) (omega (arith, count)) (omega (arith, room))

tells-none : Tells none no_names
tells-none = record { words = λ i lt. absurd (omega (arith, lt)); mems = λ i lt. absurd (omega (arith, lt)); truth = refl; functions = λ d t. refl }

params_bound : (g : GroupTree) (x : Arguments) (vs : List Value) → AreArgumentValues g x vs → length g.regs < 2 ^ 64 → g.mems < 2 ^ 64
    → (u : Variables) × (bind_all no_names (params g) vs ≡ u) × Tells (with_arguments none x) u
params_bound g x vs a r q =
    let (s, is, t) = words_bound x.words (length g.regs) none no_names (mem_params 0 g.mems) a.arrays tells-none a.words_count (omega (arith, r)) in
    let zero_mems = with_words-mems none x.words in
    let (u, are, all) = mems_bound x.mems a.arrays g.mems (with_words none x.words) s a.mems t a.mems_count (omega (arith, q, zero_mems)) in
    (u, (λ j. bind_all no_names (params g) (a.is j)) ∙ is ∙ (λ j. bind_all s (mem_params (sym zero_mems j) g.mems) a.arrays) ∙ are, all)

-- ---- values under functions that differ

diagonal : (F : Told → Told → Value) (ts : List Told) (ws : List Value) → ((u : Told) → map (F u) ts ≡ ws) → map (λ t. F t t) ts ≡ ws
diagonal F [] ws is = is Ok
diagonal F (t ∷ ts) [] is = let h = is t in absurd (cc)
diagonal F (t ∷ ts) (w ∷ ws) is =
    let h = is t in
    let first : F t t ≡ w = cc in
    let rest = diagonal F ts ws (λ u. let k = is u in let r : map (F u) ts ≡ ws = cc in r) in
    λ j. first j ∷ rest j

diagonal_mems : (F : Told → Told → Value) (ms : List Bytes) (i : ℕ) → ((u : Told) → AreMems (F u) i ms) → AreMems (λ t. F t t) i ms
diagonal_mems F [] i is = tt
diagonal_mems F (M ∷ Ms) i is =
    (other_domain M (F (MemAt i) (MemAt i)) (F (MemAt i) (DomAt i)) (F (DomAt i) (MemAt i)) (F (DomAt i) (DomAt i)) (is (MemAt i)).0 (is (DomAt i)).0, diagonal_mems F Ms (suc i) (λ u. (is u).1))

diagonal_pc : (F : Told → Told → Value) (by : Option Exit) → ((u : Told) → IsPc by (F u Pc)) → IsPc by (F Pc Pc)
diagonal_pc F by is = is Pc

diagonal_tells : (g : GroupTree) (exits : List Exit) (F : Told → Told → Value) (o : Ending) → ((u : Told) → TellsEnding g exits o (F u)) → TellsEnding g exits o (λ t. F t t)
diagonal_tells g exits F (Exited k x left) is = record {
  ok = (is Ok).ok;
  exit = (is ExitNumber).exit;
  pc = (is Pc).pc;
  words = diagonal F (call_results (length g.regs) (slice_get exits k)) (map (Bits 64) x.words) (λ u. (is u).words);
  mems = diagonal_mems F x.mems 0 (λ u. (is u).mems);
  count = (is Ok).count;
  range = (is Ok).range;
}
diagonal_tells g exits F (NeedFalse d i) is = is Ok
diagonal_tells g exits F NoTurns is = tt
diagonal_tells g exits F Nothing is = is Ok

-- ---- what holds of the functions before a definition

pub exported_same : (g : GroupTree) (fs fs' : Functions) (call : Meaning) (c : ℕ) → ((u : Told) → fs' (fun_name c u) ≡ fs (fun_name c u)) → IsExported g fs call c → IsExported g fs' call c
exported_same g fs fs' call c same is = record {
  there = λ u told. let f = is.there u told in (f.0, same u ∙ f.1);
  tells = λ x n vs a. told_same g (exits_at g c) (call c x n) (λ t. applied fs (fun_name c t) vs) (λ t. applied fs' (fun_name c t) vs)
      (λ u j. unwrap_or (option_map (λ (h : List Value → Value). h vs) (sym (same u) j)) (Truth false)) (is.tells x n vs a);
}

module _ (g : GroupTree) (R : ℕ → Bool) where
  abbrev Exported : Functions → ℕ → Type 0
  Exported fs c = IsExported g fs (ending g) c

  -- before definition d the functions of those before it that are exported tell how they end
  record Base (fs : Functions) (d : ℕ) : Type 0 where
    knows : Knows fs
    before : (c : ℕ) → c < d → R c ≡ true → Exported fs c

  module _ (d : ℕ) (def : DefTree) (low : d < 2 ^ 64) where
    knows-more : (fs : Functions) (t : Told) → Knows fs → Knows (with_fun fs (def_fun g d def t))
    knows-more fs t k = record { operation = k.operation; extension = k.extension; loads = k.loads; stores = k.stores; insides = k.insides; truth = k.truth }

    other_same : (fs : Functions) (t : Told) (c : ℕ) → c < d → (u : Told) → with_fun fs (def_fun g d def t) (fun_name c u) ≡ fs (fun_name c u)
    other_same fs t c lt u =
        λ j. cond (names_differ c d u t (omega arith) low (λ e. omega arith) j) (Some (fun_value fs (def_fun g d def t))) (fs (fun_name c u))

    base-more : (fs : Functions) (t : Told) → Base fs d → Base (with_fun fs (def_fun g d def t)) d
    base-more fs t b = record {
      knows = knows-more fs t b.knows;
      before = λ c lt r. exported_same g fs (with_fun fs (def_fun g d def t)) (ending g) c (other_same fs t c lt) (b.before c lt r);
    }

    -- the function that tells u is there, over functions before it
    Has : Told → Functions → Type 0
    Has u fs = (fu : Functions) × Base fu d × (fs (fun_name d u) ≡ Some (fun_value fu (def_fun g d def u)))

    kept : (u t : Told) (fs : Functions) (b : Bool) → IsSmall u → IsSmall t → bytes_eq (fun_name d u) (fun_name d t) ≡ b → Base fs d → Has u fs
        → (fu : Functions) × Base fu d × (cond b (Some (fun_value fs (def_fun g d def t))) (fs (fun_name d u)) ≡ Some (fun_value fu (def_fun g d def u)))
    unfolding Has
    kept u t fs true h l e base has = let same = told_names_same d u t h l e in (fs, base, λ j. Some (fun_value fs (def_fun g d def (sym same j))))
    kept u t fs false h l e base has = has

    has-more : (u t : Told) (fs : Functions) → IsSmall u → IsSmall t → Base fs d → Has u fs → Has u (with_fun fs (def_fun g d def t))
    unfolding Has
    has-more u t fs h l base has = kept u t fs (bytes_eq (fun_name d u) (fun_name d t)) h l refl base has

    has-new : (u : Told) (fs : Functions) → Base fs d → Has u (with_fun fs (def_fun g d def u))
    unfolding Has
    has-new u fs base = (fs, base, λ j. cond (same_bytes (fun_name d u) j) (Some (fun_value fs (def_fun g d def u))) (fs (fun_name d u)))

    has-all : (u : Told) (ts : List Told) (fs : Functions) → IsSmall u → AllSmall ts → Base fs d → Has u fs → Has u (functions_after fs (map (def_fun g d def) ts))
    has-all u [] fs h l base has = has
    has-all u (t ∷ ts) fs h l base has = has-all u ts (with_fun fs (def_fun g d def t)) h l.1 (base-more fs t base) (has-more u t fs h l.0 base has)

    has-member : (u : Told) (ts : List Told) (fs : Functions) → IsSmall u → AllSmall ts → Base fs d → Member u ts → Has u (functions_after fs (map (def_fun g d def) ts))
    has-member u [] fs h l base in_ts = absurd in_ts
    has-member u (t ∷ ts) fs h l base in_ts = ⊎_elim
        (λ e. has-all u ts (with_fun fs (def_fun g d def t)) h l.1 (base-more fs t base) (subst (λ t. Has u (with_fun fs (def_fun g d def t))) e (has-new u fs base)))
        (λ i. has-member u ts (with_fun fs (def_fun g d def t)) h l.1 (base-more fs t base) i) in_ts

    base-all : (ts : List Told) (fs : Functions) → Base fs d → Base (functions_after fs (map (def_fun g d def) ts)) d
    base-all [] fs base = base
    base-all (t ∷ ts) fs base = base-all ts (with_fun fs (def_fun g d def t)) (base-more fs t base)

  -- whether it is told
  below : (i n : ℕ) → (i < n) ⊎ (i < n → ⊥)
  below i n = ⊎_elim (λ lt. inl lt) (λ ge. inr (λ lt. omega (arith, ge, lt))) (cases_lt i n)

  told_or : (u : Told) → IsToldOf g u ⊎ (IsToldOf g u → ⊥)
  told_or Ok = inl tt
  told_or ExitNumber = inl tt
  told_or Pc = inl tt
  told_or (WordAt i) = below i (length g.regs)
  told_or (MemAt i) = below i g.mems
  told_or (DomAt i) = below i g.mems

  -- ---- a definition

  -- calls of exported definitions are of those before
  module _ (P : ℕ → Type 0) (d : ℕ) (before : (c : ℕ) → c < d → R c ≡ true → P c) where
    mutual
      pub calls_each : (b : BodyTree) (w m : ℕ) → BodyIsWellFormed g d b w m → EachCall (λ c. R c ≡ true) b → EachCall P b
      calls_each (Do (Bind x) b) w m wf h = calls_each b (w + 1) m wf.1 h
      calls_each (Do (BindMem x) b) w m wf h = calls_each b w (m + 1) wf.1 h
      calls_each (Do (Need x) b) w m wf h = calls_each b w m wf.1 h
      calls_each (Branch c a b) w m wf h = (calls_each a w m wf.1 h.0, calls_each b w m wf.2 h.1)
      calls_each (Call c v arms) w m wf h = (before c wf.0 h.0, arm_calls_each (exits_at g c) arms w m wf.3 h.1)
      calls_each (Again v) w m wf h = absurd h
      calls_each (Leave k v) w m wf h = tt

      arm_calls_each : (xs : List Exit) (bs : ArmTrees) (w m : ℕ) → ArmsAreWellFormed g d xs bs w m → EachArmCall (λ c. R c ≡ true) bs → EachArmCall P bs
      arm_calls_each xs NoArm w m wf h = tt
      arm_calls_each [] (Arm b bs) w m wf h = absurd wf
      arm_calls_each (x ∷ xs) (Arm b bs) w m wf h = (calls_each b _ _ wf.0 h.0, arm_calls_each xs bs w m wf.1 h.1)

  module _ (range : HasRange g) (closed : IsClosed g R) (d : ℕ) (def : DefTree) (low : d < 2 ^ 64) (is : slice_get g.defs d ≡ Some def) (r : R d ≡ true) (fs : Functions) (base : Base fs d) where
    few_regs : length g.regs < 2 ^ 64
    few_regs = omega (arith, range.few_words d def is)

    few_memories : g.mems < 2 ^ 64
    few_memories = omega (arith, range.few_mems d def is)

    has_told : (u : Told) → IsToldOf g u → Has d def low u (functions_after fs (def_funs g d def))
    has_told u h = has-member d def low u (all_told g) fs (told-small g u h few_regs few_memories) (all_told-small g few_regs few_memories) base (member-told g u h)

    -- functions over which u is told
    told_env : (u : Told) → IsToldOf g u ⊎ (IsToldOf g u → ⊥) → (fu : Functions) × Base fu d
    unfolding Has
    told_env u (inl h) = let t = has_told u h in (t.0, t.1)
    told_env u (inr h) = (fs, base)

    module _ (x : Arguments) (vs : List Value) (a : AreArgumentValues g x vs) (s : Variables) (bound : bind_all no_names (params g) vs ≡ s) (t : Tells (with_arguments none x) s) where
      abbrev E : Environment
      E = with_arguments none x

      abbrev F : Told → Told → Value
      F u v = value (told_env u (told_or u)).0 s (body_expr g d def.body (length g.regs) g.mems v)

      E-words : length g.regs ≡ E.words
      E-words = omega (arith, with_mems-words (with_words none x.words) x.mems, with_words-words none x.words, a.words_count)

      E-mems : g.mems ≡ E.mems
      E-mems = omega (arith, with_mems-mems (with_words none x.words) x.mems, with_words-mems none x.words, a.mems_count)

      told_each : (left : ℕ) (u : Told) → TellsEnding g (exits_at g d) (body_ending (ending g) d def.body E 0 left) (F u)
      told_each left u =
          let (fu, b) = told_env u (told_or u) in
          let wf = range.well_formed d def is in
          let at : BodyIsWellFormed g d def.body E.words E.mems = subst (λ w. BodyIsWellFormed g d def.body w E.mems) E-words (subst (λ m. BodyIsWellFormed g d def.body (length g.regs) m) E-mems wf) in
          subst (λ w. TellsEnding g (exits_at g d) (body_ending (ending g) d def.body E 0 left) (λ v. value fu s (body_expr g d def.body w g.mems v))) (sym E-words)
          (subst (λ m. TellsEnding g (exits_at g d) (body_ending (ending g) d def.body E 0 left) (λ v. value fu s (body_expr g d def.body E.words m v))) (sym E-mems)
          (body_tells g fu b.knows (ending g) d range.few_exits range.exits def.body E s 0 left (in_range-with none x in_range-none a.range) t at (range.bodies d def is)
          (calls_each (Exported fu) d b.before def.body (length g.regs) g.mems wf (closed d def is r)) (omega (arith, E-words, range.few_words d def is)) (omega (arith, E-mems, range.few_mems d def is))))

      same_at : (u : Told) (o : IsToldOf g u ⊎ (IsToldOf g u → ⊥)) → IsToldOf g u
          → value (told_env u o).0 s (body_expr g d def.body (length g.regs) g.mems u) ≡ applied (functions_after fs (def_funs g d def)) (fun_name d u) vs
      unfolding Has told_env
      same_at u (inl h) told =
          let f = has_told u h in
          sym ((λ j. unwrap_or (option_map (λ (k : List Value → Value). k vs) (f.2 j)) (Truth false)) ∙ (λ j. value f.0 (bound j) (body_expr g d def.body (length g.regs) g.mems u)))
      same_at u (inr h) told = absurd (h told)

      tells_at : (n : ℕ) → TellsEnding g (exits_at g d) (ending g d x n) (λ u. applied (functions_after fs (def_funs g d def)) (fun_name d u) vs)
      tells_at zero = tt
      tells_at (suc left) =
          subst (λ o. TellsEnding g (exits_at g d) o (λ u. applied (functions_after fs (def_funs g d def)) (fun_name d u) vs)) (sym (ending-enter g d x left def is))
          (ending_map g (λ u. F u u) (λ u. applied (functions_after fs (def_funs g d def)) (fun_name d u) vs) (λ u told. same_at u (told_or u) told) (exits_at g d) (body_ending (ending g) d def.body E 0 left)
          (diagonal_tells g (exits_at g d) F (body_ending (ending g) d def.body E 0 left) (told_each left)))

    def_exported : Exported (functions_after fs (def_funs g d def)) d
    unfolding Has
    def_exported = record {
      there = λ u h. let f = has_told u h in (fun_value f.0 (def_fun g d def u), f.2);
      tells = λ x n vs a. let (s, bound, t) = params_bound g x vs a few_regs few_memories in tells_at x vs a s bound t n;
    }

    base-next : Base (functions_after fs (def_funs g d def)) (suc d)
    base-next =
        let b = base-all d def low (all_told g) fs base in
        record {
          knows = b.knows;
          before = λ c lt h. ⊎_elim (λ below. b.before c below h) (λ above. let e : d ≡ c = omega (arith, above, lt) in subst (Exported (functions_after fs (def_funs g d def))) e def_exported) (cases_lt c d);
        }

-- ---- scripts

after-append : (fs : Functions) (xs ys : List FunTree) → functions_after fs (xs ++ ys) ≡ functions_after (functions_after fs xs) ys
after-append fs [] ys = refl
after-append fs (x ∷ xs) ys = after-append (with_fun fs x) xs ys

module _ (g : GroupTree) (R : ℕ → Bool) (range : HasRange g) (closed : IsClosed g R) where
  -- the definitions from d on
  AreFrom : ℕ → List DefTree → Type 0
  AreFrom d defs = (i : ℕ) (def : DefTree) → slice_get defs i ≡ Some def → slice_get g.defs (d + i) ≡ Some def

  one : (fs : Functions) (d : ℕ) (def : DefTree) (b : Bool) → R d ≡ b → slice_get g.defs d ≡ Some def → Base g R fs d → Base g R (functions_after fs (cond b (def_funs g d def) [])) (suc d)
  one fs d def true r is base = base-next g R range closed d def (let lt = slice_get_within g.defs d def is in omega (arith, lt, range.few_defs)) is r fs base
  one fs d def false r is base = record {
    knows = base.knows;
    before = λ c lt h. ⊎_elim (λ below. base.before c below h) (λ above. let e : c ≡ d = omega (arith, above, lt) in let no_ : R c ≡ false = ap R e ∙ r in absurd (cc)) (cases_lt c d);
  }

  all : (defs : List DefTree) (d : ℕ) (fs : Functions) → AreFrom d defs → Base g R fs d → Base g R (functions_after fs (funs_from g R d defs)) (d + length defs)
  unfolding AreFrom
  all [] d fs from base = let e : d ≡ d + 0 = omega arith in subst (Base g R fs) e base
  all (def ∷ defs) d fs from base =
      let z : d + 0 ≡ d = omega arith in
      let first = one fs d def (R d) refl ((λ j. slice_get g.defs (sym z j)) ∙ from 0 def refl) base in
      let n : suc d + length defs ≡ d + suc (length defs) = omega arith in
      subst (Base g R (functions_after fs (funs_from g R d (def ∷ defs)))) n
      (subst (λ f. Base g R f (suc d + length defs)) (sym (after-append fs (cond (R d) (def_funs g d def) []) (funs_from g R (suc d) defs)))
      (all defs (suc d) (functions_after fs (cond (R d) (def_funs g d def) []))
      (λ i x is. let m : d + suc i ≡ suc d + i = omega arith in (λ j. slice_get g.defs (sym m j)) ∙ from (suc i) x is) first))

  pub taken : (defs : List DefTree) (n i : ℕ) (def : DefTree) → slice_get (take n defs) i ≡ Some def → slice_get defs i ≡ Some def
  taken [] zero i def is = is
  taken [] (suc n) i def is = is
  taken (x ∷ defs) zero i def is = absurd (cc)
  taken (x ∷ defs) (suc n) zero def is = is
  taken (x ∷ defs) (suc n) (suc i) def is = taken defs n i def is

  pub taken-length : (defs : List DefTree) (n : ℕ) → n ≤ length defs → length (take n defs) ≡ n
  taken-length [] zero le = refl
  taken-length [] (suc n) le = absurd (omega (arith, le))
  taken-length (x ∷ defs) zero le = refl
  taken-length (x ∷ defs) (suc n) le = ap suc (taken-length defs n (omega (arith, le)))

  none_before : Base g R (functions_after no_names helpers) 0
  none_before = record { knows = helpers-know; before = λ c lt h. absurd (omega (arith, lt)) }

  pub script_exports : (d e : ℕ) → d < length g.defs → e ≤ d → R e ≡ true → IsExported g (functions_after no_names (script g R d)) (ending g) e
  unfolding AreFrom
  script_exports d e lt le r =
      let b = all (take (suc d) g.defs) 0 (functions_after no_names helpers) (λ i x is. let z : 0 + i ≡ i = omega arith in (λ j. slice_get g.defs (z j)) ∙ taken g.defs (suc d) i x is) none_before in
      subst (λ fs. IsExported g fs (ending g) e) (sym (after-append no_names helpers (funs_from g R 0 (take (suc d) g.defs))))
      (b.before e (let n = taken-length g.defs (suc d) (omega (arith, lt)) in omega (arith, n, le)) r)
