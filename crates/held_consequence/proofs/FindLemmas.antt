-- Entries of what was found: which are right, and how many there are.
use Rattle.std.proofs.Common.{◌≡◌, ◌⊎◌, ℕ, ◌+◌, ◌<◌, ◌≤◌, Bool, true, false, true≢false, cond, List, [], Option, Some, None, length, map, refl, ap, sym, ◌∙◌, subst, inl, inr, arith}
use Rattle.std.specs.Prelude.{IsSome, ◌==◌, if◌then◌else◌, is_some, slice_get}
use Rattle.std.specs.Cmp.{nat_cmp_total, nat_eq_equiv, unsigned_tied}
use Rattle.std.specs.List.{Contains}
use Rattle.std.specs.BTreeMap.{BTreeMap, IsOrdered, Updates, btree_map_len, get, is_at, keys}
use Rattle.std.specs.Map.{lookup}
use Rattle.std.specs.Ordering.{nat_cmp}
use Rattle.std.proofs.lemmas.Bool.{eqb-false, eqb-true}
use Rattle.std.proofs.lemmas.List.{length-map}
use Rattle.std.proofs.lemmas.Map.Lookups.{exact_unsigned}
use Rattle.std.proofs.lemmas.Map.Views.{btree_map_contains_key_iff}
use Rattle.term_arena.specs.declared.node.Node.{Node}
use Rattle.term_arena.specs.Arena.{Tree, tree_of, IsWordAt, IsMemAt, IsCondAt, IsArena}
use Rattle.term_arena.proofs.Places.{at_contains, contains_at, map-at}
use Rattle.term_arena.proofs.TreeLemmas.{one_number}
use Rattle.held_consequence.specs.declared.alone.Found.{Found}
use Rattle.held_consequence.specs.declared.alone.Found.TheVariants as found
use Rattle.held_consequence.specs.inner.Alone.{Finds, IsFound, AreAllFound, AreFound, AreMoreFound, AreSearched, Kept, Searched, base_of, truth_found, value_of}
use Rattle.held_terms.specs.Subterms.{HasTerm, IsIn}
use Rattle.held_terms.proofs.FewLemmas.{few, one-place}
use Rattle.held_terms.proofs.ChildLemmas.{has_number}

-- ---- entries

same-find : {V : Type 0} (old new : BTreeMap ℕ V) → new.entries ≡ old.entries → (k : ℕ) → get nat_cmp new k ≡ get nat_cmp old k
same-find old new e k = ap (λ (es : List (ℕ × _)). lookup (is_at (nat_cmp k)) es) e

at-number : (k q : ℕ) → is_at (nat_cmp k) q ≡ (q == k)
at-number k q = unsigned_tied k q ∙ nat_eq_equiv.symm k q

-- where something was written or taken out: there, and elsewhere
pub find_there : {V : Type 0} (old new : BTreeMap ℕ V) (x : ℕ) (o : Option V) → Updates nat_cmp old new x o → get nat_cmp new x ≡ o
find_there old new x o u = u.1

pub other_find : {V : Type 0} (old new : BTreeMap ℕ V) (x : ℕ) (o : Option V) (k : ℕ) → Updates nat_cmp old new x o → (k ≡ x → ⊥) → get nat_cmp new k ≡ get nat_cmp old k
other_find old new x o k u other = by (k == x) refl
  where
    by : (b : Bool) → (k == x) ≡ b → get nat_cmp new k ≡ get nat_cmp old k
    by true e = absurd (other (eqb-true k x e))
    by false e = u.0 k ∙ ap (λ (b : Bool). cond b o (get nat_cmp old k)) (at-number x k ∙ e)

-- what is there after one entry was put in
pub find_cases : {V : Type 0} (old new : BTreeMap ℕ V) (x : ℕ) (f : V) (k : ℕ) (g : V) → Updates nat_cmp old new x (Some f) → get nat_cmp new k ≡ Some g
    → ((k ≡ x) × (g ≡ f)) ⊎ ((k ≡ x → ⊥) × (get nat_cmp old k ≡ Some g))
find_cases old new x f k g u h = by (k == x) refl (sym (u.0 k ∙ ap (λ (b : Bool). cond b (Some f) (get nat_cmp old k)) (at-number x k)) ∙ h)
  where
    by : (b : Bool) → (k == x) ≡ b → cond (k == x) (Some f) (get nat_cmp old k) ≡ Some g → ((k ≡ x) × (g ≡ f)) ⊎ ((k ≡ x → ⊥) × (get nat_cmp old k ≡ Some g))
    by true e i = let j : Some f ≡ Some g = sym (ap (λ (b : Bool). cond b (Some f) (get nat_cmp old k)) e) ∙ i in inl (eqb-true k x e, cc)
    by false e i = inr (eqb-false k x e, sym (ap (λ (b : Bool). cond b (Some f) (get nat_cmp old k)) e) ∙ i)

module _ (ns : List Node) where
  pub none_found : (finds : Finds) → finds.entries ≡ [] → AreAllFound ns finds
  none_found finds e = record { each = λ k f h. let no : None ≡ Some f = sym (ap (λ (es : List (ℕ × Found)). lookup (is_at (nat_cmp k)) es) e) ∙ h in cc }

  pub found_below : (finds : Finds) (n : ℕ) → AreAllFound ns finds → AreFound ns finds n
  found_below finds n a = record { each = λ k f lt h. a.each k f h }

  pub found_child : (finds : Finds) (n x : ℕ) → AreFound ns finds n → x < n → AreFound ns finds (x + 1)
  found_child finds n x a low = record { each = λ k f lt h. a.each k f (omega (arith, lt, low)) h }

  -- .. of a child after another one
  pub found_next : (old new : Finds) (n x : ℕ) → AreFound ns old n → AreMoreFound ns old new → x < n → AreFound ns new (x + 1)
  found_next old new n x a m low = record { each = λ k f lt h. elim (m.each k f h) [ inl was ↦ a.each k f (omega (arith, lt, low)) was | inr right ↦ right ] }

  pub found_still : (old new : Finds) → AreAllFound ns old → AreMoreFound ns old new → AreAllFound ns new
  found_still old new a m = record { each = λ k f h. elim (m.each k f h) [ inl was ↦ a.each k f was | inr right ↦ right ] }

  pub more_none : (finds : Finds) → AreMoreFound ns finds finds
  more_none finds = record { each = λ k f h. inl h }

  pub more_both : (old mid new : Finds) → AreMoreFound ns old mid → AreMoreFound ns mid new → AreMoreFound ns old new
  more_both old mid new a b = record { each = λ k f h. elim (b.each k f h) [ inl was ↦ a.each k f was | inr right ↦ inr right ] }

  -- where an entry was put in, which isn't right yet
  pub found_begun : (old new : Finds) (x : ℕ) (f : Found) → Updates nat_cmp old new x (Some f) → AreFound ns old (x + 1) → AreFound ns new x
  found_begun old new x f u a = record {
    each = λ k g lt h. elim (find_cases old new x f k g u h) [
      | inl here ↦ (let e = here.0 in absurd (omega (arith, lt, e)))
      | inr there ↦ a.each k g (omega (arith, lt)) there.1
    ];
  }

  -- .. and then the right one
  pub more_kept : (old mid new last : Finds) (x : ℕ) (f g : Found) → Updates nat_cmp old mid x (Some f) → AreMoreFound ns mid new → Updates nat_cmp new last x (Some g) → IsFound ns x g
      → AreMoreFound ns old last
  more_kept old mid new last x f g u m v is = record {
    each = λ k i h. elim (find_cases new last x g k i v h) [
      | inl here ↦ inr (subst (λ (j : ℕ). IsFound ns j i) (sym here.0) (subst (IsFound ns x) (sym here.1) is))
      | inr there ↦ elim (m.each k i there.1) [
        | inl was ↦ elim (find_cases old mid x f k i u was) [ inl again ↦ absurd (there.0 again.0) | inr before ↦ inl before.1 ]
        | inr right ↦ inr right
      ]
    ];
  }

  other-word : (x : ℕ) → IsWordAt ns x → IsMemAt ns x → ⊥
  other-word x h k = let f = sym h ∙ k in cc

  other-cond : (x : ℕ) → IsWordAt ns x → IsCondAt ns x → ⊥
  other-cond x h k = let f = sym h ∙ k in cc

  other-mem : (x : ℕ) → IsMemAt ns x → IsCondAt ns x → ⊥
  other-mem x h k = let f = sym h ∙ k in cc

  -- a term of which nothing of its kind was found has no entry
  module _ (finds : Finds) (x : ℕ) (a : AreFound ns finds (x + 1)) where
    low : x < x + 1
    low = omega arith

    pub no_value : IsWordAt ns x → value_of (get nat_cmp finds x) ≡ None → get nat_cmp finds x ≡ None
    no_value h e = by (get nat_cmp finds x) refl e
      where
        by : (o : Option Found) → get nat_cmp finds x ≡ o → value_of o ≡ None → o ≡ None
        by None is n = refl
        by (Some (found.Value v)) is n = let no : Some v ≡ None = n in cc
        by (Some (found.Truth v)) is n = absurd (other-cond x h (a.each x (found.Truth v) low is).0)
        by (Some (found.Base m)) is n = absurd (other-word x h (a.each x (found.Base m) low is).0)

    pub no_truth : IsCondAt ns x → truth_found (get nat_cmp finds x) ≡ None → get nat_cmp finds x ≡ None
    no_truth h e = by (get nat_cmp finds x) refl e
      where
        by : (o : Option Found) → get nat_cmp finds x ≡ o → truth_found o ≡ None → o ≡ None
        by None is n = refl
        by (Some (found.Value v)) is n = absurd (other-cond x (a.each x (found.Value v) low is).0 h)
        by (Some (found.Truth v)) is n = let no : Some v ≡ None = n in cc
        by (Some (found.Base m)) is n = absurd (other-mem x (a.each x (found.Base m) low is).0 h)

    pub no_base : IsMemAt ns x → base_of (get nat_cmp finds x) ≡ None → get nat_cmp finds x ≡ None
    no_base h e = by (get nat_cmp finds x) refl e
      where
        by : (o : Option Found) → get nat_cmp finds x ≡ o → base_of o ≡ None → o ≡ None
        by None is n = refl
        by (Some (found.Value v)) is n = absurd (other-word x (a.each x (found.Value v) low is).0 h)
        by (Some (found.Truth v)) is n = absurd (other-mem x h (a.each x (found.Truth v) low is).0)
        by (Some (found.Base m)) is n = let no : Some m ≡ None = n in cc

    -- .. and what was found is right
    pub value_right : (v : Option ℕ) → value_of (get nat_cmp finds x) ≡ Some v → IsFound ns x (found.Value v)
    value_right v e = a.each x (found.Value v) low (by (get nat_cmp finds x) e)
      where
        by : (o : Option Found) → value_of o ≡ Some v → o ≡ Some (found.Value v)
        by None is = cc
        by (Some (found.Value w)) is = let same : w ≡ v = cc in ap (λ (u : Option ℕ). Some (found.Value u)) same
        by (Some (found.Truth w)) is = cc
        by (Some (found.Base m)) is = cc

    pub truth_right : (v : Option Bool) → truth_found (get nat_cmp finds x) ≡ Some v → IsFound ns x (found.Truth v)
    truth_right v e = a.each x (found.Truth v) low (by (get nat_cmp finds x) e)
      where
        by : (o : Option Found) → truth_found o ≡ Some v → o ≡ Some (found.Truth v)
        by None is = cc
        by (Some (found.Value w)) is = cc
        by (Some (found.Truth w)) is = let same : w ≡ v = cc in ap (λ (u : Option Bool). Some (found.Truth u)) same
        by (Some (found.Base m)) is = cc

    pub base_right : (v : ℕ) → base_of (get nat_cmp finds x) ≡ Some v → IsFound ns x (found.Base v)
    base_right v e = a.each x (found.Base v) low (by (get nat_cmp finds x) e)
      where
        by : (o : Option Found) → base_of o ≡ Some v → o ≡ Some (found.Base v)
        by None is = cc
        by (Some (found.Value w)) is = cc
        by (Some (found.Truth w)) is = cc
        by (Some (found.Base m)) is = let same : m ≡ v = cc in ap (λ (u : ℕ). Some (found.Base u)) same

-- ---- steps

some-find : {V : Type 0} (o : Option V) → IsSome o → (f : V) × (o ≡ Some f)
some-find None h = absurd (cc)
some-find (Some f) h = (f, refl)

module _ {V : Type 0} (ns : List Node) where
  pub kept_none : (P : List Tree → Type 0) (finds : BTreeMap ℕ V) → Kept ns P finds finds
  kept_none P finds = record { ordered = λ o. o; inside = λ ts has a. a }

  pub kept_under : (P Q : List Tree → Type 0) (old new : BTreeMap ℕ V) → ((ts : List Tree) → P ts → Q ts) → Kept ns Q old new → Kept ns P old new
  kept_under P Q old new f k = record { ordered = k.ordered; inside = λ ts has a. k.inside ts (f ts has) a }

  pub kept_both : (P : List Tree → Type 0) (old mid new : BTreeMap ℕ V) → Kept ns P old mid → Kept ns P mid new → Kept ns P old new
  kept_both P old mid new k l = record { ordered = λ o. l.ordered (k.ordered o); inside = λ ts has a. l.inside ts has (k.inside ts has a) }

  kept-same : (P : List Tree → Type 0) (old mid new : BTreeMap ℕ V) → new.entries ≡ mid.entries → IsOrdered nat_cmp new → Kept ns P old mid → Kept ns P old new
  kept-same P old mid new e o k = record {
    ordered = λ _. o;
    inside = λ ts has a. let all = k.inside ts has a in record { each = λ x h. all.each x (subst (λ (f : Option V). IsSome f) (same-find mid new e x) h) };
  }

  kept-put : (x : ℕ) (old new : BTreeMap ℕ V) (f : V) (t : Tree) → tree_of ns x ≡ Some t → Updates nat_cmp old new x (Some f) → IsOrdered nat_cmp new → Kept ns (HasTerm ns x) old new
  kept-put x old new f t at u o = record {
    ordered = λ _. o;
    inside = λ ts has a. record {
      each = λ k h.
          let g = some-find (get nat_cmp new k) h in
          elim (find_cases old new x f k g.0 u g.1) [
            | inl here ↦ subst (IsIn ns ts) (sym here.0) (has_number ns ts x t at has)
            | inr there ↦ a.each k (ap (λ (i : Option V). is_some i) there.1)
          ];
    };
  }

  pub searched_none : (P : List Tree → Type 0) (finds : BTreeMap ℕ V) (s t : ℕ) → t ≤ s → Searched ns P finds finds s t
  searched_none P finds s t le = record { steps = omega (arith, le); kept = kept_none P finds }

  pub searched_from : (P : List Tree → Type 0) (old new : BTreeMap ℕ V) (s r t : ℕ) → r ≤ s → Searched ns P old new r t → Searched ns P old new s t
  searched_from P old new s r t le i = record { steps = let h = i.steps in omega (arith, h, le); kept = i.kept }

  -- of a child, after the term was read
  pub searched_first : (x a : ℕ) (old new : BTreeMap ℕ V) (s r t : ℕ) → r ≡ s + 1 → ((ts : List Tree) → HasTerm ns x ts → HasTerm ns a ts) → Searched ns (HasTerm ns a) old new r t
      → Searched ns (HasTerm ns x) old new (s + 1) t
  searched_first x a old new s r t e f i = record { steps = let h = i.steps in omega (arith, h, e); kept = kept_under (HasTerm ns x) (HasTerm ns a) old new f i.kept }

  -- .. of another one
  pub searched_next : (x a : ℕ) (old mid new : BTreeMap ℕ V) (s r t : ℕ) → Searched ns (HasTerm ns x) old mid s r → ((ts : List Tree) → HasTerm ns x ts → HasTerm ns a ts)
      → Searched ns (HasTerm ns a) mid new r t → Searched ns (HasTerm ns x) old new s t
  searched_next x a old mid new s r t i f j = record {
    steps = let h = i.steps in let k = j.steps in omega (arith, h, k);
    kept = kept_both (HasTerm ns x) old mid new i.kept (kept_under (HasTerm ns x) (HasTerm ns a) mid new f j.kept);
  }

  -- from where the entry was put in
  pub searched_begun : (x : ℕ) (y : Tree) (old mid new : BTreeMap ℕ V) (f : V) (was : Option V) (s t : ℕ) → tree_of ns x ≡ Some y → get nat_cmp old x ≡ None → was ≡ get nat_cmp old x
      → Updates nat_cmp old mid x (Some f) → btree_map_len mid ≡ btree_map_len old + (if is_some was then 0 else 1) → IsOrdered nat_cmp mid → Searched ns (HasTerm ns x) mid new (s + 1) t
      → Searched ns (HasTerm ns x) old new s t
  searched_begun x y old mid new f was s t at none is u l o i = record {
    steps = let h = i.steps in let more = longer was l (is ∙ none) in omega (arith, h, more);
    kept = kept_both (HasTerm ns x) old mid new (kept-put x old mid f y at u o) i.kept;
  }
    where
      longer : (w : Option V) → btree_map_len mid ≡ btree_map_len old + (if is_some w then 0 else 1) → w ≡ None → btree_map_len mid ≡ btree_map_len old + 1
      longer None h n = h
      longer (Some w) h n = let no : Some w ≡ None = n in cc

  -- .. to where the right one is
  pub searched_kept : (x n : ℕ) (y : Tree) (old new last : BTreeMap ℕ V) (f : V) (s t : ℕ) → tree_of ns x ≡ Some y → Updates nat_cmp new last x (Some f) → btree_map_len last ≡ btree_map_len new + n
      → IsOrdered nat_cmp last → Searched ns (HasTerm ns x) old new s t → Searched ns (HasTerm ns x) old last s t
  searched_kept x n y old new last f s t at u l o i = record {
    steps = let h = i.steps in omega (arith, h, l);
    kept = kept_both (HasTerm ns x) old new last i.kept (kept-put x new last f y at u o);
  }

  pub searched_same : (P : List Tree → Type 0) (old mid new : BTreeMap ℕ V) (s t : ℕ) → new.entries ≡ mid.entries → IsOrdered nat_cmp new → Searched ns P old mid s t → Searched ns P old new s t
  searched_same P old mid new s t e o i = record {
    steps = let h = i.steps in let l : length new.entries ≡ length mid.entries = ap length e in omega (arith, h, l);
    kept = kept-same P old mid new e o i.kept;
  }

  -- no more entries than different terms
  pub few_finds : (ts : List Tree) (finds : BTreeMap ℕ V) → IsArena ns → IsOrdered nat_cmp finds → AreSearched ns ts finds → btree_map_len finds ≤ length ts
  few_finds ts finds arena sorted all =
      let key : (k : ℕ) → Contains (keys finds) k → IsIn ns ts k = λ k c. all.each k ((btree_map_contains_key_iff nat_cmp_total exact_unsigned finds k).1 c) in
      let os : List (Option Tree) = map (λ (y : Tree). Some y) ts in
      let apart : (a b : ℕ) (k l : ℕ) → slice_get (keys finds) a ≡ Some k → slice_get (keys finds) b ≡ Some l → tree_of ns k ≡ tree_of ns l → a ≡ b = λ a b k l ha hb e.
      let ik = key k (contains_at (keys finds) a k ha) in
      let same : k ≡ l = one_number ns k l ik.tree arena ik.at (sym e ∙ ik.at) in
      one-place (keys finds) a b k sorted ha (hb ∙ ap (λ (q : ℕ). Some q) (sym same)) in
      let there : (k : ℕ) → Contains (keys finds) k → Contains os (tree_of ns k) = λ k c.
      let ik = key k c in
      let at = at_contains ts ik.tree ik.here in
      subst (Contains os) (sym ik.at) (contains_at os at.0 (Some ik.tree) (map-at (λ (y : Tree). Some y) ts at.0 ik.tree at.1)) in
      let most = few (tree_of ns) (keys finds) os apart there in
      let n : length (keys finds) ≡ length finds.entries = length-map finds.entries (λ (e : ℕ × V). e.0) in
      let m : length os ≡ length ts = length-map ts (λ (y : Tree). Some y) in
      omega (arith, most, n, m)

  pub none_searched : (ts : List Tree) (finds : BTreeMap ℕ V) → finds.entries ≡ [] → AreSearched ns ts finds
  none_searched ts finds none = record { each = λ k h. let no : false ≡ true = sym (ap (λ (es : List (ℕ × V)). is_some (lookup (is_at (nat_cmp k)) es)) none) ∙ h in absurd (true≢false (sym no)) }

  -- one step at most for each different term, where there were no entries
  pub few_searched : (P : List Tree → Type 0) (ts : List Tree) (old new : BTreeMap ℕ V) (s t : ℕ) → IsArena ns → P ts → old.entries ≡ [] → IsOrdered nat_cmp old → Searched ns P old new s t → t ≤ s + length ts
  few_searched P ts old new s t arena has none sorted i =
      let most = few_finds ts new arena (i.kept.ordered sorted) (i.kept.inside ts has (none_searched ts old none)) in
      let h = i.steps in
      omega (arith, h, most)
