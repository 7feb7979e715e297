-- Tables of pairs with answers: what is known, how many steps it took, how many pairs there are.
use Rattle.std.proofs.Common.{◌≡◌, ◌⊎◌, ℕ, ◌+◌, ◌*◌, ◌<◌, ◌≤◌, Bool, List, [], ◌∷◌, ◌++◌, Option, Some, length, map, set, refl, ap, sym, ◌∙◌, subst, inl, inr, arith, length-set}
use Rattle.std.specs.Prelude.{◌↔◌, IsTrue, slice_get}
use Rattle.std.specs.List.{Contains}
use Rattle.std.proofs.lemmas.List.{append-nil, length_push, length-map}
use Rattle.std.proofs.lemmas.List.Elements.{Contains-push_cases, Contains-append_cases}
use Rattle.term_arena.specs.declared.node.Node.{Node}
use Rattle.term_arena.specs.declared.node.Node.TheVariants as node
use Rattle.term_arena.specs.Arena.{Tree, OfWord, OfMem, OfCond, tree_of, trees_of, tree_over, word_of, mem_of, cond_of, IsWordAt, IsMemAt, IsCondAt, AreChildren, IsArena}
use Rattle.term_arena.proofs.Places.{at-push_cases, at-append, at-push, contains_at, at_contains, map-set_same, map-at}
use Rattle.term_arena.proofs.TreeLemmas.{one_number}
use Rattle.triple_kernel.specs.Tree.{FactTree}
use Rattle.triple_kernel.specs.Swap.{SwapWord, SwapMem}
use Rattle.triple_kernel.specs.Rules.{Alike}
use Rattle.held_terms.specs.Subterms.{HasWord, HasMem, HasTree, IsIn}
use Rattle.held_terms.proofs.FewLemmas.{few, pairs, count_of_pairs, in_pairs}
use Rattle.held_terms.proofs.ChildLemmas.{has_number}
use Rattle.held_consequence.specs.declared.swaps.WordPairs.{WordPairs}
use Rattle.held_consequence.specs.declared.swaps.MemPairs.{MemPairs}
use Rattle.held_consequence.specs.inner.Table.{HasBoth, Entry, key_of, keys_of, SwapTrees, IsDecided, IsKnown, AreDecided, IsTable, AreIn, Went}
use Rattle.held_consequence.specs.inner.Pairs.{WordPairsAre, MemPairsAre, IsUnder, WordPairsUnder, MemPairsUnder}

-- ---- lists of subterms

-- children of two nodes of one form
module _ (ns : List Node) where
  word_has : (ts : List Tree) (k : ℕ) → IsWordAt ns k → HasWord ts (word_of ns k) → HasTree ts (tree_of ns k)
  word_has ts k h has = subst (HasTree ts) (sym h) has

  mem_has : (ts : List Tree) (k : ℕ) → IsMemAt ns k → HasMem ts (mem_of ns k) → HasTree ts (tree_of ns k)
  mem_has ts k h has = subst (HasTree ts) (sym h) has

  abbrev Over : Node → ℕ → Type 0
  Over n a = tree_of ns a ≡ Some (tree_over (trees_of ns) n)

  pub words_under : (a b : ℕ) (n m : Node) (ps : WordPairs) → Over n a → Over m b → AreChildren ns n → AreChildren ns m → WordPairsAre n m ps → WordPairsUnder ns a b ps
  words_under a b (node.Bin op x y) (node.Bin o u v) ps ea eb h k (inl e) = subst (WordPairsUnder ns a b) (sym e.1) (
    λ ts has. (word_has ts x h.0 (subst (HasTree ts) ea has.0).1, word_has ts u k.0 (subst (HasTree ts) eb has.1).1),
    λ ts has. (word_has ts y h.1 (subst (HasTree ts) ea has.0).2, word_has ts v k.1 (subst (HasTree ts) eb has.1).2),
  )
  words_under a b (node.Bin op x y) (node.Bin o u v) ps ea eb h k (inr e) = subst (WordPairsUnder ns a b) (sym e.1) tt
  words_under a b (node.Extend ext x) (node.Extend f u) ps ea eb h k (inl e) = subst (WordPairsUnder ns a b) (sym e.1) (
      λ ts has. (word_has ts x h (subst (HasTree ts) ea has.0).1, word_has ts u k (subst (HasTree ts) eb has.1).1))
  words_under a b (node.Extend ext x) (node.Extend f u) ps ea eb h k (inr e) = subst (WordPairsUnder ns a b) (sym e.1) tt
  words_under a b (node.Load width p x) (node.Load w q u) ps ea eb h k (inl e) = subst (WordPairsUnder ns a b) (sym e.1) (
    λ ts has. (mem_has ts p h.0 (subst (HasTree ts) ea has.0).1, mem_has ts q k.0 (subst (HasTree ts) eb has.1).1),
    λ ts has. (word_has ts x h.1 (subst (HasTree ts) ea has.0).2, word_has ts u k.1 (subst (HasTree ts) eb has.1).2),
  )
  words_under a b (node.Load width p x) (node.Load w q u) ps ea eb h k (inr e) = subst (WordPairsUnder ns a b) (sym e.1) tt
  words_under a b n m ps ea eb h k e = subst (WordPairsUnder ns a b) (sym e) tt

  pub mems_under : (a b : ℕ) (n m : Node) (ps : MemPairs) → Over n a → Over m b → AreChildren ns n → AreChildren ns m → MemPairsAre n m ps → MemPairsUnder ns a b ps
  mems_under a b (node.Store width p x y) (node.Store w q u v) ps ea eb h k (inl e) = subst (MemPairsUnder ns a b) (sym e.1) (
    λ ts has. (mem_has ts p h.0 (subst (HasTree ts) ea has.0).1, mem_has ts q k.0 (subst (HasTree ts) eb has.1).1),
    λ ts has. (word_has ts x h.1 (subst (HasTree ts) ea has.0).2, word_has ts u k.1 (subst (HasTree ts) eb has.1).2),
    λ ts has. (word_has ts y h.2 (subst (HasTree ts) ea has.0).3, word_has ts v k.2 (subst (HasTree ts) eb has.1).3),
  )
  mems_under a b (node.Store width p x y) (node.Store w q u v) ps ea eb h k (inr e) = subst (MemPairsUnder ns a b) (sym e.1) tt
  mems_under a b n m ps ea eb h k e = subst (MemPairsUnder ns a b) (sym e) tt

-- ---- answers

module _ (ns : List Node) (facts : List FactTree) where
  pub word_decided : (a b : ℕ) (v : Bool) → IsWordAt ns a → IsWordAt ns b → (IsTrue v ↔ SwapWord facts (word_of ns a) (word_of ns b)) → IsDecided ns facts (a, b, v)
  word_decided a b v ha hb is = record { one = OfWord (word_of ns a); other = OfWord (word_of ns b); at_one = ha; at_other = hb; is = is }

  pub mem_decided : (a b : ℕ) (v : Bool) → IsMemAt ns a → IsMemAt ns b → (IsTrue v ↔ SwapMem facts (mem_of ns a) (mem_of ns b)) → IsDecided ns facts (a, b, v)
  mem_decided a b v ha hb is = record { one = OfMem (mem_of ns a); other = OfMem (mem_of ns b); at_one = ha; at_other = hb; is = is }

  pub cond_decided : (a b : ℕ) (v : Bool) → IsCondAt ns a → IsCondAt ns b → (IsTrue v ↔ Alike facts (cond_of ns a) (cond_of ns b)) → IsDecided ns facts (a, b, v)
  cond_decided a b v ha hb is = record { one = OfCond (cond_of ns a); other = OfCond (cond_of ns b); at_one = ha; at_other = hb; is = is }

  same_tree : (k : ℕ) (x y : Tree) → tree_of ns k ≡ Some x → tree_of ns k ≡ Some y → x ≡ y
  same_tree k x y e f = let g : Some x ≡ Some y = sym e ∙ f in cc

  decided_is : (p : Entry) (x y : Tree) → IsDecided ns facts p → tree_of ns p.0 ≡ Some x → tree_of ns p.1 ≡ Some y → IsTrue p.2 ↔ SwapTrees facts x y
  decided_is p x y d ex ey =
      let one = same_tree p.0 d.one x d.at_one ex in
      let other = same_tree p.1 d.other y d.at_other ey in
      subst (λ (t : Tree). IsTrue p.2 ↔ SwapTrees facts t y) one (subst (λ (u : Tree). IsTrue p.2 ↔ SwapTrees facts d.one u) other d.is)

  -- what the table says of two words, of two memories, of two conditions
  pub word_known : (known : List Entry) (a b : ℕ) (v : Bool) → IsKnown ns facts known (a + 1) → Contains known (a, b, v) → IsWordAt ns a → IsWordAt ns b
      → IsTrue v ↔ SwapWord facts (word_of ns a) (word_of ns b)
  word_known known a b v k c ha hb = decided_is (a, b, v) (OfWord (word_of ns a)) (OfWord (word_of ns b)) (k.each (a, b, v) c (omega arith)) ha hb

  pub mem_known : (known : List Entry) (a b : ℕ) (v : Bool) → IsKnown ns facts known (a + 1) → Contains known (a, b, v) → IsMemAt ns a → IsMemAt ns b
      → IsTrue v ↔ SwapMem facts (mem_of ns a) (mem_of ns b)
  mem_known known a b v k c ha hb = decided_is (a, b, v) (OfMem (mem_of ns a)) (OfMem (mem_of ns b)) (k.each (a, b, v) c (omega arith)) ha hb

  pub cond_known : (known : List Entry) (a b : ℕ) (v : Bool) → IsKnown ns facts known (a + 1) → Contains known (a, b, v) → IsCondAt ns a → IsCondAt ns b
      → IsTrue v ↔ Alike facts (cond_of ns a) (cond_of ns b)
  cond_known known a b v k c ha hb = decided_is (a, b, v) (OfCond (cond_of ns a)) (OfCond (cond_of ns b)) (k.each (a, b, v) c (omega arith)) ha hb

  pub known_less : (known : List Entry) (n m : ℕ) → IsKnown ns facts known n → m ≤ n → IsKnown ns facts known m
  known_less known n m k le = record { each = λ p c lt. k.each p c (omega (arith, lt, le)) }

  pub known_kept : (old new : List Entry) (n : ℕ) → IsKnown ns facts old n → AreDecided ns facts old new → IsKnown ns facts new n
  known_kept old new n k d = record {
    each = λ p c lt. elim (Contains-append_cases old d.more p (subst (λ (l : List Entry). Contains l p) d.is c)) [
      | inl was ↦ k.each p was lt
      | inr came ↦ d.each p came
    ];
  }

  -- .. of a child, of another one after it
  pub known_child : (known : List Entry) (a x : ℕ) → IsKnown ns facts known a → x < a → IsKnown ns facts known (x + 1)
  known_child known a x k lt = record { each = λ p c l. k.each p c (omega (arith, l, lt)) }

  pub known_next : (old mid : List Entry) (a x : ℕ) → IsKnown ns facts old a → AreDecided ns facts old mid → x < a → IsKnown ns facts mid (x + 1)
  known_next old mid a x k d lt = known_child mid a x (known_kept old mid a k d) lt

  pub known_after : (old mid new : List Entry) (a x : ℕ) → IsKnown ns facts old a → AreDecided ns facts old mid → AreDecided ns facts mid new → x < a → IsKnown ns facts new (x + 1)
  known_after old mid new a x k d e lt = known_child new a x (known_kept mid new a (known_kept old mid a k d) e) lt

  pub known_pushed : (old new : List Entry) (a b : ℕ) (v : Bool) → new ≡ old ++ (a, b, v) ∷ [] → IsKnown ns facts old (a + 1) → IsKnown ns facts new a
  known_pushed old new a b v e k = record {
    each = λ p c lt. elim (Contains-push_cases old (a, b, v) p (subst (λ (l : List Entry). Contains l p) e c)) [
      | inl was ↦ k.each p was (omega (arith, lt))
      | inr last ↦ let same : a ≡ p.0 = ap (λ (q : Entry). q.0) last in absurd (omega (arith, lt, same))
    ];
  }

  pub decided_none : (old : List Entry) → AreDecided ns facts old old
  decided_none old = record { more = []; is = sym (append-nil old); each = λ p c. let at = at_contains [] p c in cc }

  append-append : (xs ys zs : List Entry) → (xs ++ ys) ++ zs ≡ xs ++ (ys ++ zs)
  append-append [] ys zs = refl
  append-append (x ∷ xs) ys zs = ap (λ l. x ∷ l) (append-append xs ys zs)

  pub decided_both : (old mid new : List Entry) → AreDecided ns facts old mid → AreDecided ns facts mid new → AreDecided ns facts old new
  decided_both old mid new d e = record {
    more = d.more ++ e.more;
    is = e.is ∙ ap (λ l. l ++ e.more) d.is ∙ append-append old d.more e.more;
    each = λ p c. elim (Contains-append_cases d.more e.more p c) [ inl was ↦ d.each p was | inr came ↦ e.each p came ];
  }

  set_last : (old more : List Entry) (p q : Entry) → set ((old ++ p ∷ []) ++ more) (length old) q ≡ old ++ (q ∷ more)
  set_last [] more p q = refl
  set_last (x ∷ old) more p q = ap (λ l. x ∷ l) (set_last old more p q)

  pub decided_set : (old mid new last : List Entry) (p q : Entry) (at : ℕ) → mid ≡ old ++ p ∷ [] → AreDecided ns facts mid new → at ≡ length old → last ≡ set new at q → IsDecided ns facts q
      → AreDecided ns facts old last
  decided_set old mid new last p q at em d ea el dq = record {
    more = q ∷ d.more;
    is = el ∙ ap (λ k. set new k q) ea ∙ ap (λ l. set l (length old) q) (d.is ∙ ap (λ l. l ++ d.more) em) ∙ set_last old d.more p q;
    each = λ r c. elim (Contains-append_cases (q ∷ []) d.more r c) [
      | inl first ↦ elim (Contains-push_cases [] q r first) [ inl none ↦ (let at = at_contains [] r none in cc) | inr same ↦ subst (IsDecided ns facts) same dq ]
      | inr came ↦ d.each r came
    ];
  }

  -- the entry that was pushed is still there
  pub still_at : (old mid new : List Entry) (p : Entry) → mid ≡ old ++ p ∷ [] → AreDecided ns facts mid new → slice_get new (length old) ≡ Some p
  still_at old mid new p em d =
      ap (λ (l : List Entry). slice_get l (length old)) d.is
      ∙ at-append mid d.more (length old) p (ap (λ (l : List Entry). slice_get l (length old)) em ∙ at-push old p)

  -- .. and so is its pair
  pub key_still : (old mid new : List Entry) (p : Entry) (at : ℕ) → mid ≡ old ++ p ∷ [] → AreDecided ns facts mid new → at ≡ length old → slice_get (keys_of new) at ≡ Some (key_of p)
  key_still old mid new p at em d ea = map-at key_of new at p (ap (λ k. slice_get new k) ea ∙ still_at old mid new p em d)

-- ---- steps and pairs

map_push : {A B : Type 0} (f : A → B) (xs : List A) (x : A) → map f (xs ++ x ∷ []) ≡ map f xs ++ f x ∷ []
map_push f [] x = refl
map_push f (y ∷ ys) x = ap (λ l. f y ∷ l) (map_push f ys x)

abbrev Apart : List (ℕ × ℕ) → Type 0
Apart ks = (i j : ℕ) (k : ℕ × ℕ) → slice_get ks i ≡ Some k → slice_get ks j ≡ Some k → i ≡ j

apart_push : (ks : List (ℕ × ℕ)) (l : ℕ × ℕ) → Apart ks → (Contains ks l → ⊥) → Apart (ks ++ l ∷ [])
apart_push ks l apart new i j k hi hj =
    elim (at-push_cases ks l i k hi) [
      | inl a ↦ elim (at-push_cases ks l j k hj) [
        | inl b ↦ apart i j k a.1 b.1
        | inr b ↦ absurd (new (subst (Contains ks) (sym b.1) (contains_at ks i k a.1)))
      ]
      | inr a ↦ elim (at-push_cases ks l j k hj) [
        | inl b ↦ absurd (new (subst (Contains ks) (sym a.1) (contains_at ks j k b.1)))
        | inr b ↦ a.0 ∙ sym b.0
      ]
    ]

table_push : (old new : List Entry) (p : Entry) → new ≡ old ++ p ∷ [] → IsTable old → (Contains (keys_of old) (key_of p) → ⊥) → IsTable new
table_push old new p e t none = record {
  distinct = subst Apart (sym (ap keys_of e ∙ map_push key_of old p)) (apart_push (keys_of old) (key_of p) t.distinct none);
}

in_push : (ns : List Node) (ts : List Tree) (old new : List Entry) (p : Entry) → new ≡ old ++ p ∷ [] → AreIn ns ts old → IsIn ns ts p.0 → IsIn ns ts p.1 → AreIn ns ts new
in_push ns ts old new p e a h0 h1 = record {
  each = λ k c. elim (Contains-push_cases (keys_of old) (key_of p) k (subst (λ (l : List (ℕ × ℕ)). Contains l k) (ap keys_of e ∙ map_push key_of old p) c)) [
    | inl was ↦ a.each k was
    | inr last ↦ (subst (IsIn ns ts) (ap (λ (q : ℕ × ℕ). q.0) last) h0, subst (IsIn ns ts) (ap (λ (q : ℕ × ℕ). q.1) last) h1)
  ];
}

has_option : (ts : List Tree) (x : Tree) → Contains ts x → Contains (map (λ (y : Tree). Some y) ts) (Some x)
has_option ts x c = let at = at_contains ts x c in contains_at (map (λ (y : Tree). Some y) ts) at.0 (Some x) (map-at (λ (y : Tree). Some y) ts at.0 x at.1)

module _ (ns : List Node) where
  pub went_none : (P : List Tree → Type 0) (old new : List Entry) (s t : ℕ) → new ≡ old → t ≤ s → Went ns P old new s t
  went_none P old new s t e le = record {
    steps = let l : length new ≡ length old = ap length e in omega (arith, l, le);
    table = λ h. subst IsTable (sym e) h;
    inside = λ ts has h. subst (AreIn ns ts) (sym e) h;
  }

  pub went_from : (P : List Tree → Type 0) (old new : List Entry) (s r t : ℕ) → r ≤ s → Went ns P old new r t → Went ns P old new s t
  went_from P old new s r t le w = record { steps = omega (arith, w.steps, le); table = w.table; inside = w.inside }

  pub went_under : (P Q : List Tree → Type 0) (old new : List Entry) (s t : ℕ) → ((ts : List Tree) → P ts → Q ts) → Went ns Q old new s t → Went ns P old new s t
  went_under P Q old new s t f w = record { steps = w.steps; table = w.table; inside = λ ts has h. w.inside ts (f ts has) h }

  pub went_both : (P : List Tree → Type 0) (old mid new : List Entry) (s r t : ℕ) → Went ns P old mid s r → Went ns P mid new r t → Went ns P old new s t
  went_both P old mid new s r t v w = record {
    steps = omega (arith, v.steps, w.steps);
    table = λ h. w.table (v.table h);
    inside = λ ts has h. w.inside ts has (v.inside ts has h);
  }

  pub went_first : (a b x u : ℕ) (old new : List Entry) (s r t : ℕ) → r ≡ s + 2 → IsUnder ns a b x u → Went ns (HasBoth ns x u) old new r t → Went ns (HasBoth ns a b) old new (s + 2) t
  went_first a b x u old new s r t e f w = record { steps = omega (arith, w.steps, e); table = w.table; inside = λ ts has h. w.inside ts (f ts has) h }

  pub went_next : (a b x u : ℕ) (old mid new : List Entry) (s r t : ℕ) → Went ns (HasBoth ns a b) old mid s r → IsUnder ns a b x u → Went ns (HasBoth ns x u) mid new r t
      → Went ns (HasBoth ns a b) old new s t
  went_next a b x u old mid new s r t v f w = went_both (HasBoth ns a b) old mid new s r t v (went_under (HasBoth ns a b) (HasBoth ns x u) mid new r t f w)

  -- from where the pair was pushed
  pub went_pushed : (a b : ℕ) (v : Bool) (x y : Tree) (old mid new : List Entry) (s t : ℕ) → tree_of ns a ≡ Some x → tree_of ns b ≡ Some y → mid ≡ old ++ (a, b, v) ∷ []
      → (Contains (keys_of old) (a, b) → ⊥) → Went ns (HasBoth ns a b) mid new (s + 2) t → Went ns (HasBoth ns a b) old new s t
  went_pushed a b v x y old mid new s t ea eb e none w = record {
    steps = let l : length mid ≡ length (old ++ (a, b, v) ∷ []) = ap length e in omega (arith, w.steps, l, length_push old (a, b, v));
    table = λ h. w.table (table_push old mid (a, b, v) e h none);
    inside = λ ts has h. w.inside ts has (in_push ns ts old mid (a, b, v) e h (has_number ns ts a x ea has.0) (has_number ns ts b y eb has.1));
  }

  -- where an answer is written
  pub went_set : (P : List Tree → Type 0) (old new last : List Entry) (s t at : ℕ) (p q : Entry) → slice_get new at ≡ Some p → key_of q ≡ key_of p → last ≡ set new at q
      → Went ns P old new s t → Went ns P old last s t
  went_set P old new last s t at p q ep ek el w =
      let keys : keys_of last ≡ keys_of new = ap keys_of el ∙ map-set_same key_of new at p q ep ek in
      record {
        steps = let l : length last ≡ length (set new at q) = ap length el in omega (arith, w.steps, l, length-set new at q);
        table = λ h. record { distinct = subst Apart (sym keys) (w.table h).distinct };
        inside = λ ts has h. record { each = λ k c. (w.inside ts has h).each k (subst (λ (l : List (ℕ × ℕ)). Contains l k) keys c) };
      }

  -- no more pairs than the square
  pub few_keys : (ts : List Tree) (known : List Entry) → IsArena ns → IsTable known → AreIn ns ts known → length known ≤ length ts * length ts
  few_keys ts known arena t a =
      let f : ℕ × ℕ → Option Tree × Option Tree = λ k. (tree_of ns k.0, tree_of ns k.1) in
      let os : List (Option Tree) = map (λ (x : Tree). Some x) ts in
      let apart : (i j : ℕ) (k l : ℕ × ℕ) → slice_get (keys_of known) i ≡ Some k → slice_get (keys_of known) j ≡ Some l → f k ≡ f l → i ≡ j = λ i j k l hi hj e.
      let ak = a.each k (contains_at (keys_of known) i k hi) in
      let e0 : tree_of ns k.0 ≡ tree_of ns l.0 = ap (λ (q : Option Tree × Option Tree). q.0) e in
      let e1 : tree_of ns k.1 ≡ tree_of ns l.1 = ap (λ (q : Option Tree × Option Tree). q.1) e in
      let s0 : k.0 ≡ l.0 = one_number ns k.0 l.0 ak.0.tree arena ak.0.at (sym e0 ∙ ak.0.at) in
      let s1 : k.1 ≡ l.1 = one_number ns k.1 l.1 ak.1.tree arena ak.1.at (sym e1 ∙ ak.1.at) in
      let same : l ≡ k = λ z. (sym s0 z, sym s1 z) in
      t.distinct i j k hi (hj ∙ ap (λ (q : ℕ × ℕ). Some q) same) in
      let there : (k : ℕ × ℕ) → Contains (keys_of known) k → Contains (pairs os os) (f k) = λ k c.
      let ak = a.each k c in
      let i0 = has_option ts ak.0.tree ak.0.here in
      let i1 = has_option ts ak.1.tree ak.1.here in
      let p0 : Contains os (tree_of ns k.0) = subst (Contains os) (sym ak.0.at) i0 in
      let p1 : Contains os (tree_of ns k.1) = subst (Contains os) (sym ak.1.at) i1 in
      let at0 = at_contains os (tree_of ns k.0) p0 in
      in_pairs os os at0.0 (tree_of ns k.0) (tree_of ns k.1) at0.1 p1 in
      let most = few f (keys_of known) (pairs os os) apart there in
      let l = length-map ts (λ (x : Tree). Some x) in
      let square : length os * length os ≡ length ts * length ts = λ z. l z * l z in
      omega (arith, most, length-map known key_of, count_of_pairs os os, square)

  pub few_steps : (P : List Tree → Type 0) (ts : List Tree) (known : List Entry) (s t : ℕ) → IsArena ns → P ts → Went ns P [] known s t → t ≤ s + 2 * (length ts * length ts)
  few_steps P ts known s t arena has w =
      let none : AreIn ns ts [] = record { each = λ k c. let at = at_contains [] k c in cc } in
      let table : IsTable [] = record { distinct = λ i j k hi hj. cc } in
      let most = few_keys ts known arena (w.table table) (w.inside ts has none) in
      omega (arith, w.steps, most)

-- the answer where nothing is stated
pub answer_last : {S W : Type 0} (v : Bool) → W ↔ (S ⊎ IsTrue v) → (S → ⊥) → IsTrue v ↔ W
answer_last v is none = (λ h. is.1 (inr h), λ w. elim (is.0 w) [ inl s ↦ absurd (none s) | inr h ↦ h ])
