-- Pairs that are decided, with what is found of single terms.
use Rattle.std.proofs.Common.{◌≡◌, ℕ, ◌+◌, ◌*◌, ◌<◌, ◌≤◌, Bool, List, [], ◌∷◌, ◌++◌, Some, get_or, length, refl, sym, subst, set, arith}
use Rattle.std.specs.Prelude.{slice_get}
use Rattle.std.specs.List.{Contains}
use Rattle.std.specs.BTreeMap.{IsOrdered, btree_map_len}
use Rattle.std.specs.Ordering.{nat_cmp}
use Rattle.term_arena.specs.declared.node.Node.{Node}
use Rattle.term_arena.specs.Arena.{Tree, tree_of, IsArena}
use Rattle.term_arena.proofs.Places.{at_contains}
use Rattle.held_terms.specs.declared.held.HeldFact.{HeldFact}
use Rattle.held_terms.specs.Subterms.{HasFact, HasFacts}
use Rattle.held_consequence.specs.inner.Alone.{Finds, Searched}
use Rattle.held_consequence.specs.inner.Following.{AllSought, HasBothFacts, HasCondAnd, HasCondAndFact, HasFactAnd, Sought}
use Rattle.held_consequence.specs.inner.Pairs.{IsUnder}
use Rattle.held_consequence.specs.inner.Table.{HasBoth, Entry, key_of, keys_of, IsTable, AreIn, Went}
use Rattle.held_consequence.proofs.FindLemmas.{few_finds, kept_both, kept_none, kept_under, none_searched}
use Rattle.held_consequence.proofs.TableLemmas.{few_keys, went_none, went_pushed, went_set}

module _ (ns : List Node) where
  pub sought_none : (P : List Tree → Type 0) (known : List Entry) (finds : Finds) (s t : ℕ) → t ≤ s → Sought ns P known known finds finds s t
  sought_none P known finds s t le = record { went = went_none ns P known known (s + btree_map_len finds) (t + btree_map_len finds) refl (omega (arith, le)); kept = kept_none ns P finds }

  pub sought_from : (P : List Tree → Type 0) (old new : List Entry) (was now : Finds) (s r t : ℕ) → r ≤ s → Sought ns P old new was now r t → Sought ns P old new was now s t
  sought_from P old new was now s r t le i = record { went = record { steps = let h = i.went.steps in omega (arith, h, le); table = i.went.table; inside = i.went.inside }; kept = i.kept }

  pub sought_under : (P Q : List Tree → Type 0) (old new : List Entry) (was now : Finds) (s t : ℕ) → ((ts : List Tree) → P ts → Q ts) → Sought ns Q old new was now s t → Sought ns P old new was now s t
  sought_under P Q old new was now s t f i = record {
    went = record { steps = i.went.steps; table = i.went.table; inside = λ ts has h. i.went.inside ts (f ts has) h };
    kept = kept_under ns P Q was now f i.kept;
  }

  pub sought_both : (P : List Tree → Type 0) (old mid new : List Entry) (was is now : Finds) (s r t : ℕ) → Sought ns P old mid was is s r → Sought ns P mid new is now r t → Sought ns P old new was now s t
  sought_both P old mid new was is now s r t i j = record {
    went = record {
      steps = let h = i.went.steps in let k = j.went.steps in omega (arith, h, k);
      table = λ h. j.went.table (i.went.table h);
      inside = λ ts has h. j.went.inside ts has (i.went.inside ts has h);
    };
    kept = kept_both ns P was is now i.kept j.kept;
  }

  -- pairs alone, entries alone
  pub sought_pairs : (P Q : List Tree → Type 0) (old new : List Entry) (finds : Finds) (s t : ℕ) → ((ts : List Tree) → P ts → Q ts) → Went ns Q old new s t → Sought ns P old new finds finds s t
  sought_pairs P Q old new finds s t f w = record {
    went = record { steps = let h = w.steps in omega (arith, h); table = w.table; inside = λ ts has h. w.inside ts (f ts has) h };
    kept = kept_none ns P finds;
  }

  pub sought_finds : (P Q : List Tree → Type 0) (known : List Entry) (was now : Finds) (s t : ℕ) → ((ts : List Tree) → P ts → Q ts) → Searched ns Q was now s t → Sought ns P known known was now s t
  sought_finds P Q known was now s t f i = record {
    went = let h = i.steps in went_none ns P known known (s + btree_map_len now) (t + btree_map_len was) refl h;
    kept = kept_under ns P Q was now f i.kept;
  }

  -- of children, after two conditions were read, or after others
  pub sought_first : (a b x u : ℕ) (old new : List Entry) (finds : Finds) (s r t : ℕ) → r ≡ s + 2 → IsUnder ns a b x u → Went ns (HasBoth ns x u) old new r t
      → Sought ns (HasBoth ns a b) old new finds finds (s + 2) t
  sought_first a b x u old new finds s r t e f w =
      let le : r ≤ s + 2 = omega (arith, e) in
      sought_from (HasBoth ns a b) old new finds finds (s + 2) r t le (sought_pairs (HasBoth ns a b) (HasBoth ns x u) old new finds r t f w)

  pub sought_next : (a b x u : ℕ) (old mid new : List Entry) (was now : Finds) (s r t : ℕ) → Sought ns (HasBoth ns a b) old mid was now s r → IsUnder ns a b x u → Went ns (HasBoth ns x u) mid new r t
      → Sought ns (HasBoth ns a b) old new was now s t
  sought_next a b x u old mid new was now s r t i f w =
      sought_both (HasBoth ns a b) old mid new was now now s r t i (sought_pairs (HasBoth ns a b) (HasBoth ns x u) mid new now r t f w)

  pub sought_inside : (a b x u : ℕ) (old new : List Entry) (was now : Finds) (s r t : ℕ) → r ≡ s + 2 → IsUnder ns a b x u → Sought ns (HasBoth ns x u) old new was now r t
      → Sought ns (HasBoth ns a b) old new was now (s + 2) t
  sought_inside a b x u old new was now s r t e f i =
      let le : r ≤ s + 2 = omega (arith, e) in
      sought_from (HasBoth ns a b) old new was now (s + 2) r t le (sought_under (HasBoth ns a b) (HasBoth ns x u) old new was now r t f i)

  -- from where a pair was pushed
  pub sought_pushed : (a b : ℕ) (v : Bool) (x y : Tree) (old mid new : List Entry) (was now : Finds) (s t : ℕ) → tree_of ns a ≡ Some x → tree_of ns b ≡ Some y → mid ≡ old ++ (a, b, v) ∷ []
      → (Contains (keys_of old) (a, b) → ⊥) → Sought ns (HasBoth ns a b) mid new was now (s + 2) t → Sought ns (HasBoth ns a b) old new was now s t
  sought_pushed a b v x y old mid new was now s t ea eb e none i =
      let two : Went ns (HasBoth ns a b) mid new ((s + btree_map_len now) + 2) (t + btree_map_len was) =
      record { steps = let h = i.went.steps in omega (arith, h); table = i.went.table; inside = i.went.inside } in
      record { went = went_pushed ns a b v x y old mid new (s + btree_map_len now) (t + btree_map_len was) ea eb e none two; kept = i.kept }

  -- where its answer is written
  pub sought_set : (P : List Tree → Type 0) (old new last : List Entry) (was now : Finds) (s t at : ℕ) (p q : Entry) → slice_get new at ≡ Some p → key_of q ≡ key_of p → last ≡ set new at q
      → Sought ns P old new was now s t → Sought ns P old last was now s t
  sought_set P old new last was now s t at p q ep ek el i =
      record { went = went_set ns P old new last (s + btree_map_len now) (t + btree_map_len was) at p q ep ek el i.went; kept = i.kept }

  pub all_none : (P : List Tree → Type 0) (known : List Entry) (finds : Finds) (s t : ℕ) → known ≡ [] → finds.entries ≡ [] → IsOrdered nat_cmp finds → t ≤ s → AllSought ns P known finds s t
  all_none P known finds s t none empty o le = record {
    steps = omega (arith, le);
    table = subst IsTable (sym none) (record { distinct = λ x y k hx hy. cc });
    ordered = o;
    pairs = λ ts has. subst (AreIn ns ts) (sym none) (record { each = λ k c. let at = at_contains [] k c in cc });
    terms = λ ts has. none_searched ns ts finds empty;
  }

  pub all_next : (P Q : List Tree → Type 0) (old new : List Entry) (was now : Finds) (s r t : ℕ) → ((ts : List Tree) → P ts → Q ts) → AllSought ns P old was s r → Sought ns Q old new was now r t
      → AllSought ns P new now s t
  all_next P Q old new was now s r t f a i = record {
    steps = let h = a.steps in let k = i.went.steps in omega (arith, h, k);
    table = i.went.table a.table;
    ordered = i.kept.ordered a.ordered;
    pairs = λ ts has. i.went.inside ts (f ts has) (a.pairs ts has);
    terms = λ ts has. i.kept.inside ts (f ts has) (a.terms ts has);
  }

  -- two steps at most for each pair of different terms, and one for each term
  pub few_sought : (P : List Tree → Type 0) (ts : List Tree) (known : List Entry) (finds : Finds) (s t : ℕ) → IsArena ns → P ts → AllSought ns P known finds s t
      → t ≤ s + (2 * (length ts * length ts) + length ts)
  few_sought P ts known finds s t arena has a =
      let pairs = few_keys ns ts known arena a.table (a.pairs ts has) in
      let terms = few_finds ns ts finds arena a.ordered (a.terms ts has) in
      let h = a.steps in
      omega (arith, h, pairs, terms)

  -- .. after one step for each term
  pub few_after : (P : List Tree → Type 0) (ts : List Tree) (known : List Entry) (finds : Finds) (s r t : ℕ) → IsArena ns → P ts → r ≤ s + length ts → AllSought ns P known finds r t
      → t ≤ s + (2 * (length ts * length ts) + 2 * length ts)
  few_after P ts known finds s r t arena has first a = let h = few_sought P ts known finds r t arena has a in omega (arith, h, first)

  -- ---- of facts

  pub fact_there : (fs : List HeldFact) (i : ℕ) (f : HeldFact) (ts : List Tree) → i < length fs → f ≡ get_or fs i f → HasFacts ns fs ts → HasFact ns f ts
  fact_there fs i f ts low e h = subst (λ (g : HeldFact). HasFact ns g ts) (sym e) (h i f low)

  pub facts_next : (fs gs : List HeldFact) (i : ℕ) (f : HeldFact) (old new : List Entry) (was now : Finds) (s r t : ℕ) → i < length fs → f ≡ get_or fs i f → AllSought ns (HasBothFacts ns fs gs) old was s r
      → Sought ns (HasFactAnd ns f gs) old new was now r t → AllSought ns (HasBothFacts ns fs gs) new now s t
  facts_next fs gs i f old new was now s r t low e a j =
      all_next (HasBothFacts ns fs gs) (HasFactAnd ns f gs) old new was now s r t (λ ts h. (fact_there fs i f ts low e h.0, h.1)) a j

  pub given_next : (c : ℕ) (fs : List HeldFact) (i : ℕ) (f : HeldFact) (old mid new : List Entry) (was is now : Finds) (s r t : ℕ) → i < length fs → f ≡ get_or fs i f
      → Sought ns (HasCondAnd ns c fs) old mid was is s r → Sought ns (HasCondAndFact ns c f) mid new is now r t → Sought ns (HasCondAnd ns c fs) old new was now s t
  given_next c fs i f old mid new was is now s r t low e a j =
      sought_both (HasCondAnd ns c fs) old mid new was is now s r t a
      (sought_under (HasCondAnd ns c fs) (HasCondAndFact ns c f) mid new is now r t (λ ts h. (h.0, fact_there fs i f ts low e h.1)) j)

  -- steps that were bounded over a slice of the facts
  pub after : (fs gs hs : List HeldFact) → gs ≡ hs → (ts : List Tree) (s r : ℕ) → ((us : List Tree) → HasFacts ns fs us → HasFacts ns gs us → r ≤ s + length us) → HasFacts ns fs ts → HasFacts ns hs ts → r ≤ s + length ts
  after fs gs hs e ts s r most one two = most ts one (subst (λ (l : List HeldFact). HasFacts ns l ts) (sym e) two)
