-- What a bench holds: in a larger arena, with a theorem more or less, and with one more definition that is closed.
use Rattle.std.proofs.Common.{◌≡◌, ℕ, zero, suc, ◌+◌, ◌<◌, Bool, true, false, cond, Option, Some, None, List, [], ◌∷◌, ◌++◌, length, map, refl, sym, ap, ◌∙◌, subst, arith}
use Rattle.std.specs.Prelude.{◌==◌, ◌↔◌, IfSome, IsSomeAnd, Contains, is_some, option_map, replicate, slice_get, slice_set, unwrap_or}
use Rattle.std.proofs.lemmas.List.{length-map}
use Rattle.std.proofs.lemmas.Option.{slice_get_within}
use Rattle.std.proofs.lemmas.Map.Lookups.{exact_unsigned}
use Rattle.std.proofs.lemmas.Map.Views.{btree_map_contains_key_iff}
use Rattle.std.specs.BTreeMap.{BTreeMap, IsOrdered, get, is_at, keys}
use Rattle.std.specs.Cmp.{nat_cmp_total, nat_eq_equiv, unsigned_tied}
use Rattle.std.specs.Ordering.{nat_cmp}
use lib.Dec.{eqb-suc-suc, eqb-zero-suc, eqb-suc-zero}
use Rattle.rv_words.specs.declared.range.Range.{Range}
use Rattle.tailrec_lang.specs.declared.group.Group.{Group}
use Rattle.tailrec_lang.specs.Tree.{GroupTree, def_tree, group_tree}
use Rattle.tailrec_lang.specs.WellFormed.{IsWellFormed}
use Rattle.triple_kernel.specs.Tree.{TripleTree}
use Rattle.term_arena.specs.declared.node.Node.{Node}
use Rattle.term_arena.specs.Arena.{Extends, IsAdded, Was_there, Is_next}
use Rattle.term_arena.proofs.Places.{contains_at}
use Rattle.loop_rule.specs.Rule.{IsClosedBy}
use Rattle.proof_text.specs.Line.{RuleTree}
use Rattle.verdicts.specs.Instance.{FurtherRule, History, Meets, no_lines, with_closed, with_theorem, without}
use Rattle.verdicts.specs.Sound.{Sound}
use Rattle.verdicts.proofs.SoundLemmas.{no_lines-sound}
use Rattle.held_terms.specs.declared.held.Held.{Held}
use Rattle.held_terms.specs.Held.{IsHeldAt, triple_of}
use Rattle.held_definitions.specs.Theorems.{AreHeldAt, Theorems, held_by_number, theorem_at}
use Rattle.held_definitions.specs.inner.Marks.{Changes}
use Rattle.held_definitions.proofs.TheoremLemmas.{held_stay, theorems_stay}
use Rattle.checker.specs.Bench.{BenchState, CanCite, is_closed_in, state_group, state_history}
use Rattle.checker.specs.inner.Bench.{IsSoundState}

-- ---- a look-up after a change at one number

-- as the map's order tells numbers apart
at-number : (k q : ℕ) → is_at (nat_cmp k) q ≡ (q == k)
at-number k q = unsigned_tied k q ∙ nat_eq_equiv.symm k q

cond-ap : {A B : Type 0} (f : A → B) (b : Bool) (x y : A) → f (cond b x y) ≡ cond b (f x) (f y)
cond-ap f true x y = refl
cond-ap f false x y = refl

get-set : {A : Type 0} (xs : List A) (j : ℕ) (x : A) (k : ℕ) → j < length xs → slice_get (slice_set xs j x) k ≡ cond (k == j) (Some x) (slice_get xs k)
get-set [] j x k low = absurd (omega (arith, low))
get-set (y ∷ xs) zero x zero low = refl
get-set (y ∷ xs) zero x (suc k) low = sym (ap (λ (b : Bool). cond b (Some x) (slice_get xs k)) (eqb-suc-zero k))
get-set (y ∷ xs) (suc j) x zero low = sym (ap (λ (b : Bool). cond b (Some x) (Some y)) (eqb-zero-suc j))
get-set (y ∷ xs) (suc j) x (suc k) low = get-set xs j x k (omega (arith, low)) ∙ sym (ap (λ (b : Bool). cond b (Some x) (slice_get xs k)) (eqb-suc-suc k j))

length-set : {A : Type 0} (xs : List A) (j : ℕ) (x : A) → length (slice_set xs j x) ≡ length xs
length-set [] j x = refl
length-set (y ∷ xs) zero x = refl
length-set (y ∷ xs) (suc j) x = ap suc (length-set xs j x)

length-none : {A : Type 0} (n : ℕ) (x : A) → length (replicate n x) ≡ n
length-none zero x = refl
length-none (suc n) x = ap suc (length-none n x)

none-closed : (n d : ℕ) → is_closed_in (replicate n false) d ≡ false
none-closed zero d = refl
none-closed (suc n) zero = refl
none-closed (suc n) (suc d) = none-closed n d

-- ---- before the first line

pub nothing_held : (g : Group) (ns : List Node) (held : Theorems) (closed : List Bool) (n : ℕ) → held ≡ [] → closed ≡ replicate n false → state_history (g, ns, held, 0, closed) ≡ no_lines
nothing_held g ns held closed n h e =
    (λ i. state_history (g, ns, h i, 0, e i)) ∙ (λ i. record { next = 0; theorem = λ k. None; closed = λ d. none-closed n d i })

nothing-there : (ns : List Node) → AreHeldAt ns []
nothing-there ns k = tt

pub sound_first : (g : Group) (ns : List Node) (held : Theorems) (closed : List Bool) (n : ℕ) → IsWellFormed (group_tree g) → held ≡ [] → closed ≡ replicate n false → n ≡ length g.defs
    → IsSoundState (g, ns, held, 0, closed)
sound_first g ns held closed n w h e c = record {
  there = subst (AreHeldAt ns) (sym h) (nothing-there ns);
  count = ap length e ∙ length-none n false ∙ c;
  well_formed = w;
  sound = subst (Sound (group_tree g)) (sym (nothing_held g ns held closed n h e)) (no_lines-sound (group_tree g));
}

-- ---- in a larger arena

module _ (ns ms : List Node) (e : Extends ns ms) where
  pub history_stays : (g : Group) (held : Theorems) (next : ℕ) (closed : List Bool) → AreHeldAt ns held → state_history (g, ms, held, next, closed) ≡ state_history (g, ns, held, next, closed)
  history_stays g held next closed h = λ i. record { next = next; theorem = theorems_stay ns ms e held h i; closed = is_closed_in closed }

  pub sound_grown : (g : Group) (held : Theorems) (next : ℕ) (closed : List Bool) → IsSoundState (g, ns, held, next, closed) → IsSoundState (g, ms, held, next, closed)
  sound_grown g held next closed k = record {
    there = held_stay ns ms e held k.there;
    count = k.count;
    well_formed = k.well_formed;
    sound = subst (Sound (group_tree g)) (sym (history_stays g held next closed k.there)) k.sound;
  }

-- ---- after a line

module _ (g : Group) (ns : List Node) (held : Theorems) (next : ℕ) (closed : List Bool) where
  abbrev now : History
  now = state_history (g, ns, held, next, closed)

  abbrev tree : Option Held → Option TripleTree
  tree o = option_map (triple_of ns) o

  changed : (more : Theorems) (j : ℕ) (w : Option Held) → Changes held more j w → (k : ℕ) → theorem_at ns more k ≡ cond (k == j) (tree w) (theorem_at ns held k)
  changed more j w c k =
      ap tree (c k) ∙ ap (λ (b : Bool). tree (cond b w (held_by_number held k))) (at-number j k) ∙ cond-ap tree (k == j) w (held_by_number held k)

  there-or : (b : Bool) (w o : Option Held) → IfSome w (λ h. IsHeldAt ns h) → IfSome o (λ h. IsHeldAt ns h) → IfSome (cond b w o) (λ h. IsHeldAt ns h)
  there-or true w o here there = here
  there-or false w o here there = there

  there-after : (more : Theorems) (j : ℕ) (w : Option Held) → Changes held more j w → IfSome w (λ h. IsHeldAt ns h) → AreHeldAt ns held → AreHeldAt ns more
  there-after more j w c here there = λ k. subst (λ (o : Option Held). IfSome o (λ h. IsHeldAt ns h)) (sym (c k)) (there-or (is_at (nat_cmp j) k) w (held_by_number held k) here (there k))

  module _ (more : Theorems) (after : ℕ) (h : Held) (c : Changes held more next (Some h)) (n : after ≡ next + 1) where
    pub history_more : state_history (g, ns, more, after, closed) ≡ with_theorem (triple_of ns h) now
    history_more = λ i. record { next = n i; theorem = λ k. changed more next (Some h) c k i; closed = is_closed_in closed }

    pub sound_more : IsSoundState (g, ns, held, next, closed) → IsHeldAt ns h → Sound (group_tree g) (with_theorem (triple_of ns h) now) → IsSoundState (g, ns, more, after, closed)
    sound_more k here sound = record {
      there = there-after more next (Some h) c here k.there;
      count = k.count;
      well_formed = k.well_formed;
      sound = subst (Sound (group_tree g)) (sym history_more) sound;
    }

  module _ (less : Theorems) (j : ℕ) (c : Changes held less j None) where
    pub history_less : state_history (g, ns, less, next, closed) ≡ without j now
    history_less = λ i. record { next = next; theorem = λ k. changed less j None c k i; closed = is_closed_in closed }

    pub sound_less : IsSoundState (g, ns, held, next, closed) → Sound (group_tree g) (without j now) → IsSoundState (g, ns, less, next, closed)
    sound_less k sound = record {
      there = there-after less j None c tt k.there;
      count = k.count;
      well_formed = k.well_formed;
      sound = subst (Sound (group_tree g)) (sym history_less) sound;
    }

  pub history_closed : (d : ℕ) → d < length closed → state_history (g, ns, held, next, slice_set closed d true) ≡ with_closed d now
  history_closed d low = λ i. record {
    next = next;
    theorem = theorem_at ns held;
    closed = λ c. (ap (λ (o : Option Bool). unwrap_or o false) (get-set closed d true c low) ∙ cond-ap (λ (o : Option Bool). unwrap_or o false) (c == d) (Some true) (slice_get closed c)) i;
  }

  pub sound_closed : (d : ℕ) → d < length closed → IsSoundState (g, ns, held, next, closed) → Sound (group_tree g) (with_closed d now) → IsSoundState (g, ns, held, next, slice_set closed d true)
  sound_closed d low k sound = record {
    there = k.there;
    count = length-set closed d true ∙ k.count;
    well_formed = k.well_formed;
    sound = subst (Sound (group_tree g)) (sym (history_closed d low)) sound;
  }

-- ---- how many theorems can be cited

some-map : {A B : Type 0} (f : A → B) (o : Option A) → is_some (option_map f o) ≡ is_some o
some-map f None = refl
some-map f (Some x) = refl

pub cited : (g : Group) (ns : List Node) (held : BTreeMap ℕ Held) (next : ℕ) (closed : List Bool) (n : ℕ) → IsOrdered nat_cmp held → n ≡ length held.entries → CanCite (state_history (g, ns, held.entries, next, closed)) n
cited g ns held next closed n rise many = record {
  numbers = keys held;
  rise = rise;
  each = λ k.
      let listed = btree_map_contains_key_iff nat_cmp_total exact_unsigned held k in
      let same = some-map (triple_of ns) (get nat_cmp held k) in
      (λ c. same ∙ listed.1 c, λ e. listed.0 (sym same ∙ e));
  many = length-map held.entries (λ (e : ℕ × Held). e.0) ∙ sym many;
}

-- ---- the same history, of the same group

pub same_with : (g k : GroupTree) (h j : History) (t u : TripleTree) → Sound g (with_theorem t h) → k ≡ g → j ≡ h → u ≡ t → Sound k (with_theorem u j)
same_with g k h j t u s eg eh et =
    subst (λ (x : GroupTree). Sound x (with_theorem u j)) (sym eg) (subst (λ (x : History). Sound g (with_theorem u x)) (sym eh) (subst (λ (x : TripleTree). Sound g (with_theorem x h)) (sym et) s))

pub same_closed : (g k : GroupTree) (h j : History) (d : ℕ) → Sound g (with_closed d h) → k ≡ g → j ≡ h → Sound k (with_closed d j)
same_closed g k h j d s eg eh = subst (λ (x : GroupTree). Sound x (with_closed d j)) (sym eg) (subst (λ (x : History). Sound g (with_closed d x)) (sym eh) s)

-- ---- arenas

-- a node that isn't there gets the next number
pub added_new : (ns ms : List Node) (n : Node) (k : ℕ) → IsAdded ns n k ms → (Contains ns n → ⊥) → (k ≡ length ns) × (ms ≡ ns ++ n ∷ [])
added_new ns ms n k (Was_there at same) none = absurd (none (contains_at ns k n at))
added_new ns ms n k (Is_next e f) none = (e, f)

-- ---- the row of a rule after the same history

pub meets_same : (g k : GroupTree) (h j : History) (r : RuleTree) (t : TripleTree) → k ≡ g → j ≡ h → Meets k j r t ↔ Meets g h r t
meets_same g k h j r t eg eh = (
  λ m. subst (λ (x : GroupTree). Meets x h r t) eg (subst (λ (x : History). Meets k x r t) eh m),
  λ m. subst (λ (x : History). Meets k x r t) (sym eh) (subst (λ (x : GroupTree). Meets x h r t) (sym eg) m),
)

-- .. of a triple over the group's code
pub meets_over : (g k : Group) (h j : History) (r : RuleTree) (t : List Range → TripleTree) → k ≡ g → j ≡ h
    → Meets (group_tree k) j r (t (group_tree k).code) ↔ Meets (group_tree g) h r (t (group_tree g).code)
meets_over g k h j r t eg eh = (
  λ m. subst (λ (x : Group). Meets (group_tree x) h r (t (group_tree x).code)) eg (subst (λ (x : History). Meets (group_tree k) x r (t (group_tree k).code)) eh m),
  λ m. subst (λ (x : History). Meets (group_tree k) x r (t (group_tree k).code)) (sym eh) (subst (λ (x : Group). Meets (group_tree x) h r (t (group_tree x).code)) (sym eg) m),
)

-- .. and what a further rule states from a theorem
pub further_same : (F : FurtherRule) (cited : ℕ) (h j : History) (t u : TripleTree) → j ≡ h → u ≡ t → IsSomeAnd (j.theorem cited) (λ p. F p u) ↔ IsSomeAnd (h.theorem cited) (λ p. F p t)
further_same F cited h j t u eh et = (
  λ m. subst (λ (x : TripleTree). IsSomeAnd (h.theorem cited) (λ p. F p x)) et (subst (λ (x : History). IsSomeAnd (x.theorem cited) (λ p. F p u)) eh m),
  λ m. subst (λ (x : History). IsSomeAnd (x.theorem cited) (λ p. F p u)) (sym eh) (subst (λ (x : TripleTree). IsSomeAnd (h.theorem cited) (λ p. F p x)) (sym et) m),
)

pub closed_same : (g k : GroupTree) (h j : History) (d : ℕ) (cited : List ℕ) → k ≡ g → j ≡ h → IsClosedBy k d (map j.theorem cited) ↔ IsClosedBy g d (map h.theorem cited)
closed_same g k h j d cited eg eh = (
  λ m. subst (λ (x : GroupTree). IsClosedBy x d (map h.theorem cited)) eg (subst (λ (x : History). IsClosedBy k d (map x.theorem cited)) eh m),
  λ m. subst (λ (x : History). IsClosedBy k d (map x.theorem cited)) (sym eh) (subst (λ (x : GroupTree). IsClosedBy x d (map h.theorem cited)) (sym eg) m),
)

-- the closed definition has a place: the set of closed ones has one for each definition of the group, and lines don't change that
pub closed_within : (old new : BenchState) (d : ℕ) (cited : List ℕ) → length new.4 ≡ length new.0.defs → new.0 ≡ old.0 → IsClosedBy (state_group old) d (map (state_history old).theorem cited) → d < length new.4
closed_within old new d cited count eg by =
    let def : d < length (state_group old).defs = slice_get_within (state_group old).defs d by.def by.is in
    let groups : length (state_group old).defs ≡ length new.0.defs = length-map old.0.defs def_tree ∙ ap (λ (g : Group). length g.defs) (sym eg) in
    omega (arith, def, groups, count)
