-- The functions of a script have their sorts.
use Rattle.std.proofs.Common.{◌≡◌, ℕ, zero, suc, ◌+◌, ◌<◌, ◌≤◌, ◌^◌, Bool, true, false, cond, List, [], ◌∷◌, ◌++◌, Some, None, map, length, take, slice_get, refl, sym, ap, subst, ◌∙◌, arith, ⊎_elim}
use Rattle.std.specs.List.{AllByRecursion}
use Rattle.std.specs.Str.{bytes_eq}
use Rattle.std.proofs.lemmas.Bool.{cases_lt}
use Rattle.std.proofs.lemmas.Option.{slice_get_within}
use Rattle.tailrec_lang.specs.Tree.{DefTree, GroupTree}
use Rattle.smt_terms.specs.declared.sort.Sort.{Sort}
use Rattle.smt_terms.specs.declared.sort.Sort.TheVariants as sort
use Rattle.smt_terms.specs.Meaning.{FunTree, bind, no_names}
use Rattle.smt_terms.specs.Sorts.{Rules, Sorts, rule_of, with_rule, rules_after, sorts_with, is_sort, IsParam, IsFun, AreFuns, IsScript}
use Rattle.smt_export.specs.declared.told.Told.{Told}
use Rattle.smt_export.specs.declared.told.Told.TheVariants.{Ok, ExitNumber, Pc, WordAt, MemAt, DomAt}
use Rattle.smt_export.specs.Told.{fun_name, word_name, mem_name, dom_name, word_params, mem_params, params, told_sort, all_told}
use Rattle.smt_terms.specs.Functions.{helpers}
use Rattle.smt_terms.specs.Knowing.{KnowsRules}
use Rattle.smt_export.specs.Scripts.{def_fun, def_funs, funs_from, script}
use Rattle.smt_export.specs.inner.Exported.{IsClosed, HasRange}
use Rattle.smt_export.specs.inner.Sorting.{InSort, AreRules, HasRules}
use Rattle.smt_export.proofs.Names.{names_differ, told_names_differ, told_names_same, IsSmall, same_bytes}
use Rattle.smt_export.proofs.Membership.{Member, AllSmall, all_told-small, told-small, member-told, key, AreKeyed, all_told-keyed}
use Rattle.smt_export.proofs.Scripts.{calls_each, taken}
use Rattle.smt_terms.proofs.SortedHelpers.{helpers-are, base_rules, helpers-know_rules}
use Rattle.smt_export.proofs.SortedTerms.{sorted-word, sorted-mem}
use Rattle.smt_export.proofs.SortedJoins.{rules-none, rules-more, rules-all}
use Rattle.smt_export.specs.Telling.{IsToldOf}
use Rattle.smt_export.proofs.Symbols.{word_symbol, mem_symbol, dom_symbol, fun_symbol}
use Rattle.smt_export.proofs.SortedBodies.{body-sort}

-- ---- parameters

words_sorted : (q i m : ℕ) (s : Sorts) (ps : List (List ℕ × Sort)) → InSort i m s → i + q < 2 ^ 64
    → (u : Sorts) × (sorts_with s (word_params i q ++ ps) ≡ sorts_with u ps) × InSort (i + q) m u
words_sorted zero i m s ps t room = let e : i ≡ i + 0 = omega arith in (s, refl, subst (λ k. InSort k m s) e t)
words_sorted (suc q) i m s ps t room =
    let r = words_sorted q (i + 1) m (bind s (word_name i) (sort.Bits 64)) ps (sorted-word i m s t (omega (arith, room))) (omega (arith, room)) in
    let e : i + 1 + q ≡ i + suc q = omega arith in
    (r.0, r.1, subst (λ k. InSort k m r.0) e r.2)

mems_sorted : (q n i : ℕ) (s : Sorts) → InSort n i s → i + q < 2 ^ 64 → InSort n (i + q) (sorts_with s (mem_params i q))
mems_sorted zero n i s t room = let e : i ≡ i + 0 = omega arith in subst (λ k. InSort n k s) e t
mems_sorted (suc q) n i s t room =
    let e : i + 1 + q ≡ i + suc q = omega arith in
    subst (λ k. InSort n k (sorts_with s (mem_params i (suc q)))) e
    (mems_sorted q n (i + 1) (bind (bind s (mem_name i) (sort.Array 8)) (dom_name i) (sort.Array 1)) (sorted-mem n i s t (omega (arith, room))) (omega (arith, room)))

sorted-none : InSort 0 0 no_names
sorted-none = record { words = λ i lt. absurd (omega (arith, lt)); bytes = λ i lt. absurd (omega (arith, lt)); domains = λ i lt. absurd (omega (arith, lt)); truth = refl; functions = λ d t. refl }

params-sorted : (g : GroupTree) → length g.regs < 2 ^ 64 → g.mems < 2 ^ 64 → InSort (length g.regs) g.mems (sorts_with no_names (params g))
params-sorted g r q =
    let w = words_sorted (length g.regs) 0 0 no_names (mem_params 0 g.mems) sorted-none (omega (arith, r)) in
    let words : 0 + length g.regs ≡ length g.regs = omega arith in
    let mems : 0 + g.mems ≡ g.mems = omega arith in
    subst (InSort (length g.regs) g.mems) (sym w.1)
    (subst (λ k. InSort (length g.regs) k (sorts_with w.0 (mem_params 0 g.mems))) mems (mems_sorted g.mems (length g.regs) 0 w.0 (subst (λ k. InSort k 0 w.0) words w.2) (omega (arith, q))))

AreParams : List (List ℕ × Sort) → Type 0
AreParams ps = AllByRecursion IsParam ps

word_params-are : (i q : ℕ) (ps : List (List ℕ × Sort)) → i + q < 2 ^ 64 → AreParams ps → AreParams (word_params i q ++ ps)
unfolding AreParams
word_params-are i zero ps lt h = h
word_params-are i (suc q) ps lt h = ((word_symbol i (omega (arith, lt)), refl), word_params-are (i + 1) q ps (omega (arith, lt)) h)

mem_params-are : (i q : ℕ) → i + q < 2 ^ 64 → AreParams (mem_params i q)
unfolding AreParams
mem_params-are i zero lt = tt
mem_params-are i (suc q) lt = ((mem_symbol i (omega (arith, lt)), refl), ((dom_symbol i (omega (arith, lt)), refl), mem_params-are (i + 1) q (omega (arith, lt))))

params-are : (g : GroupTree) → length g.regs < 2 ^ 64 → g.mems < 2 ^ 64 → AllByRecursion IsParam (params g)
unfolding AreParams
params-are g r q = word_params-are 0 (length g.regs) (mem_params 0 g.mems) (omega (arith, r)) (mem_params-are 0 g.mems (omega (arith, q)))

told_sort-is : (t : Told) → is_sort (told_sort t) ≡ true
told_sort-is Ok = refl
told_sort-is ExitNumber = refl
told_sort-is Pc = refl
told_sort-is (WordAt i) = refl
told_sort-is (MemAt i) = refl
told_sort-is (DomAt i) = refl

-- ---- lists of functions

are-append : (xs ys : List FunTree) (fs : Rules) → AreFuns fs xs → AreFuns (rules_after fs xs) ys → AreFuns fs (xs ++ ys)
are-append [] ys fs h l = l
are-append (x ∷ xs) ys fs h l = (h.0, are-append xs ys (with_rule fs x) h.1 l)

after-append : (xs ys : List FunTree) (fs : Rules) → rules_after fs (xs ++ ys) ≡ rules_after (rules_after fs xs) ys
after-append [] ys fs = refl
after-append (x ∷ xs) ys fs = after-append xs ys (with_rule fs x)

-- ---- the functions of a definition

module _ (g : GroupTree) (R : ℕ → Bool) where
  -- before definition d those before it that are exported have their sorts, and there is none of the later ones
  record Base (fs : Rules) (d : ℕ) : Type 0 where
    knows : KnowsRules fs
    rules : AreRules fs
    before : (c : ℕ) → c < d → R c ≡ true → HasRules g fs c
    fresh : (c : ℕ) (u : Told) → d ≤ c → c < 2 ^ 64 → fs (fun_name c u) ≡ None

  module _ (d : ℕ) (def : DefTree) (low : d < 2 ^ 64) where
    -- the same while the functions of d come
    record Mid (fs : Rules) : Type 0 where
      knows : KnowsRules fs
      rules : AreRules fs
      before : (c : ℕ) → c < d → R c ≡ true → HasRules g fs c
      fresh : (c : ℕ) (u : Told) → d < c → c < 2 ^ 64 → fs (fun_name c u) ≡ None

    other_same : (fs : Rules) (t : Told) (c : ℕ) → c < 2 ^ 64 → (c ≡ d → ⊥) → (u : Told) → with_rule fs (def_fun g d def t) (fun_name c u) ≡ fs (fun_name c u)
    other_same fs t c small differ u = λ j. cond (names_differ c d u t small low differ j) (Some (rule_of (def_fun g d def t))) (fs (fun_name c u))

    rules_same : (fs fs' : Rules) (c : ℕ) → ((u : Told) → fs' (fun_name c u) ≡ fs (fun_name c u)) → HasRules g fs c → HasRules g fs' c
    rules_same fs fs' c same h = record { there = λ t told. let r = h.there t told in (r.0, same t ∙ r.1, r.2) }

    mid-more : (fs : Rules) (t : Told) → Mid fs → Mid (with_rule fs (def_fun g d def t))
    mid-more fs t b = record {
      knows = record { operation = b.knows.operation; extension = b.knows.extension; loads = b.knows.loads; stores = b.knows.stores; insides = b.knows.insides; truth = b.knows.truth };
      rules = rules-more fs (def_fun g d def t) b.rules;
      before = λ c lt r. rules_same fs (with_rule fs (def_fun g d def t)) c (other_same fs t c (omega (arith, lt, low)) (λ e. omega (arith, lt, e))) (b.before c lt r);
      fresh = λ c u lt small. other_same fs t c small (λ e. omega (arith, lt, e)) u ∙ b.fresh c u lt small;
    }

    -- none of those from the k-th on
    Free : ℕ → Rules → Type 0
    Free k fs = (t : Told) → IsSmall t → k ≤ key (length g.regs) t → fs (fun_name d t) ≡ None

    free-next : (k : ℕ) (t : Told) (fs : Rules) → IsSmall t → key (length g.regs) t ≡ k → Free k fs → Free (suc k) (with_rule fs (def_fun g d def t))
    unfolding Free
    free-next k t fs small is free u h le =
        (λ j. cond (told_names_differ d u t h small (λ e. let same : key (length g.regs) u ≡ key (length g.regs) t = ap (key (length g.regs)) e in omega (arith, le, is, same)) j) (Some (rule_of (def_fun g d def t))) (fs (fun_name d u)))
        ∙ free u h (omega (arith, le))

    module _ (range : HasRange g) (closed : IsClosed g R) (is : slice_get g.defs d ≡ Some def) (r : R d ≡ true) where
      few_regs : length g.regs < 2 ^ 64
      few_regs = omega (arith, range.few_words d def is)

      few_memories : g.mems < 2 ^ 64
      few_memories = omega (arith, range.few_mems d def is)

      fun-is : (fs : Rules) (t : Told) → IsToldOf g t → Mid fs → fs (fun_name d t) ≡ None → IsFun fs (def_fun g d def t)
      fun-is fs t told mid new = record {
        new = new;
        symbol = fun_symbol d t low (told-small g t told few_regs few_memories);
        named = refl;
        params = params-are g few_regs few_memories;
        sort = told_sort-is t;
        body = body-sort g fs mid.knows mid.rules d range.few_exits range.exits t told def.body (length g.regs) g.mems (sorts_with no_names (params g)) (params-sorted g few_regs few_memories)
            (range.well_formed d def is) (range.bodies d def is)
            (calls_each g R (HasRules g fs) d mid.before def.body (length g.regs) g.mems (range.well_formed d def is) (closed d def is r)) (omega arith)
            (range.few_words d def is) (range.few_mems d def is);
      }

      funs-are : (ts : List Told) (k : ℕ) (fs : Rules) → AreKeyed g k ts → AllSmall ts → Mid fs → Free k fs → AreFuns fs (map (def_fun g d def) ts)
      unfolding Free
      funs-are [] k fs keyed small mid free = tt
      funs-are (t ∷ ts) k fs keyed small mid free = (
        fun-is fs t keyed.0 mid (free t small.0 (omega (arith, keyed.1))),
        funs-are ts (suc k) (with_rule fs (def_fun g d def t)) keyed.2 small.1 (mid-more fs t mid) (free-next k t fs small.0 keyed.1 free),
      )

      -- ---- and after them

      mid-all : (ts : List Told) (fs : Rules) → Mid fs → Mid (rules_after fs (map (def_fun g d def) ts))
      mid-all [] fs mid = mid
      mid-all (t ∷ ts) fs mid = mid-all ts (with_rule fs (def_fun g d def t)) (mid-more fs t mid)

      Has : Told → Rules → Type 0
      Has u fs = fs (fun_name d u) ≡ Some (rule_of (def_fun g d def u))

      kept : (u t : Told) (fs : Rules) (b : Bool) → IsSmall u → IsSmall t → bytes_eq (fun_name d u) (fun_name d t) ≡ b → Has u fs
          → cond b (Some (rule_of (def_fun g d def t))) (fs (fun_name d u)) ≡ Some (rule_of (def_fun g d def u))
      unfolding Has
      kept u t fs true h l e has = let same = told_names_same d u t h l e in λ j. Some (rule_of (def_fun g d def (sym same j)))
      kept u t fs false h l e has = has

      has-all : (u : Told) (ts : List Told) (fs : Rules) → IsSmall u → AllSmall ts → Has u fs → Has u (rules_after fs (map (def_fun g d def) ts))
      unfolding Has
      has-all u [] fs h l has = has
      has-all u (t ∷ ts) fs h l has = has-all u ts (with_rule fs (def_fun g d def t)) h l.1 (kept u t fs (bytes_eq (fun_name d u) (fun_name d t)) h l.0 refl has)

      has-new : (u : Told) (fs : Rules) → Has u (with_rule fs (def_fun g d def u))
      unfolding Has
      has-new u fs = λ j. cond (same_bytes (fun_name d u) j) (Some (rule_of (def_fun g d def u))) (fs (fun_name d u))

      has-member : (u : Told) (ts : List Told) (fs : Rules) → IsSmall u → AllSmall ts → Member u ts → Has u (rules_after fs (map (def_fun g d def) ts))
      unfolding Has
      has-member u [] fs h l in_ts = absurd in_ts
      has-member u (t ∷ ts) fs h l in_ts = ⊎_elim
          (λ e. has-all u ts (with_rule fs (def_fun g d def t)) h l.1 (subst (λ t. Has u (with_rule fs (def_fun g d def t))) e (has-new u fs)))
          (λ i. has-member u ts (with_rule fs (def_fun g d def t)) h l.1 i) in_ts

      def-are : (fs : Rules) → Base fs d → AreFuns fs (def_funs g d def) × Base (rules_after fs (def_funs g d def)) (suc d)
      unfolding Has Free
      def-are fs base =
          let mid : Mid fs = record { knows = base.knows; rules = base.rules; before = base.before; fresh = λ c u lt small. base.fresh c u (omega (arith, lt)) small } in
          let small = all_told-small g few_regs few_memories in
          let after = mid-all (all_told g) fs mid in (
            funs-are (all_told g) 0 fs (all_told-keyed g) small mid (λ t h le. base.fresh d t (omega arith) low),
            record {
              knows = after.knows;
              rules = after.rules;
              before = λ c lt h. ⊎_elim (λ below. after.before c below h)
                  (λ above. let e : d ≡ c = omega (arith, above, lt) in subst (HasRules g (rules_after fs (def_funs g d def))) e
                  (record {
                    there = λ u told. (
                      rule_of (def_fun g d def u),
                      has-member u (all_told g) fs (told-small g u told few_regs few_memories) small (member-told g u told),
                      λ ss fit. λ j. cond (fit j) (Some (told_sort u)) None,
                    );
                  })) (cases_lt c d);
              fresh = λ c u le small. after.fresh c u (omega (arith, le)) small;
            },
          )

  -- ---- the definitions from d on

  AreFrom : ℕ → List DefTree → Type 0
  AreFrom d defs = (i : ℕ) (def : DefTree) → slice_get defs i ≡ Some def → slice_get g.defs (d + i) ≡ Some def

  module _ (range : HasRange g) (closed : IsClosed g R) where
    one : (fs : Rules) (d : ℕ) (def : DefTree) (b : Bool) → R d ≡ b → slice_get g.defs d ≡ Some def → Base fs d
        → AreFuns fs (cond b (def_funs g d def) []) × Base (rules_after fs (cond b (def_funs g d def) [])) (suc d)
    one fs d def true r is base = def-are d def (let lt = slice_get_within g.defs d def is in omega (arith, lt, range.few_defs)) range closed is r fs base
    one fs d def false r is base = (
      tt,
      record {
        knows = base.knows;
        rules = base.rules;
        before = λ c lt h. ⊎_elim (λ below. base.before c below h) (λ above. let e : c ≡ d = omega (arith, above, lt) in let no_ : R c ≡ false = ap R e ∙ r in absurd (cc)) (cases_lt c d);
        fresh = λ c u le small. base.fresh c u (omega (arith, le)) small;
      },
    )

    from-are : (defs : List DefTree) (d : ℕ) (fs : Rules) → AreFrom d defs → Base fs d → AreFuns fs (funs_from g R d defs) × Base (rules_after fs (funs_from g R d defs)) (d + length defs)
    unfolding AreFrom
    from-are [] d fs from base = let e : d ≡ d + 0 = omega arith in (tt, subst (Base fs) e base)
    from-are (def ∷ defs) d fs from base =
        let z : d + 0 ≡ d = omega arith in
        let first = one fs d def (R d) refl ((λ j. slice_get g.defs (sym z j)) ∙ from 0 def refl) base in
        let rest = from-are defs (suc d) (rules_after fs (cond (R d) (def_funs g d def) []))
        (λ i x is. let m : d + suc i ≡ suc d + i = omega arith in (λ j. slice_get g.defs (sym m j)) ∙ from (suc i) x is) first.1 in
        let n : suc d + length defs ≡ d + suc (length defs) = omega arith in (
          are-append (cond (R d) (def_funs g d def) []) (funs_from g R (suc d) defs) fs first.0 rest.0,
          subst (Base (rules_after fs (funs_from g R d (def ∷ defs)))) n
              (subst (λ r. Base r (suc d + length defs)) (sym (after-append (cond (R d) (def_funs g d def) []) (funs_from g R (suc d) defs) fs)) rest.1),
        )

    defs-are : (d : ℕ) → AreFuns base_rules (funs_from g R 0 (take (suc d) g.defs)) × Base (rules_after base_rules (funs_from g R 0 (take (suc d) g.defs))) (0 + length (take (suc d) g.defs))
    unfolding AreFrom
    defs-are d =
        from-are (take (suc d) g.defs) 0 base_rules (λ i x is. let z : 0 + i ≡ i = omega arith in (λ j. slice_get g.defs (z j)) ∙ taken g R range closed g.defs (suc d) i x is)
        (record { knows = helpers-know_rules; rules = rules-all helpers no_names rules-none; before = λ c lt h. absurd (omega (arith, lt)); fresh = λ c u le small. refl })

    pub script-is : (d : ℕ) → IsScript (script g R d)
    script-is d = are-append helpers (funs_from g R 0 (take (suc d) g.defs)) no_names helpers-are (defs-are d).0
