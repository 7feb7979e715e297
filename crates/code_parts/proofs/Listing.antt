-- The functions in their order.
use Rattle.std.proofs.Common.{◌≡◌, ◌≢◌, ℕ, suc, ◌+◌, ◌-◌, ◌<◌, ◌≤◌, nat_eq, List, [], ◌∷◌, length, get_or, inl, inr, sym, ◌∙◌, arith, subst, ap, add_comm}
use Rattle.std.specs.List.{All, Contains, sum_by}
use Rattle.std.specs.List.Sorted.{IsNonDecreasingBy, IsPermutation}
use Rattle.std.proofs.lemmas.Bool.{cases_eq, cases_lt}
use Rattle.std.proofs.lemmas.Bool.Decides.{eqb_tells}
use Rattle.std.proofs.lemmas.List.{get_or-map, get_or-take, length-map, take_all}
use Rattle.std.proofs.lemmas.List.Elements.{All-head, All-tail}
use Rattle.std.proofs.lemmas.List.Sorted.{All-permutation, Contains-permutation, IsPermutation-map, IsPermutation-sym, length_permutation}
use Rattle.std.proofs.lemmas.List.Sums.{sum_by-cons}
use Rattle.std.proofs.lemmas.Map.Keys.{IsDistinct-IsPermutation}
use Rattle.rv_words.specs.Bytes.{Bytes}
use Rattle.flow_graph.specs.Walks.{Stop}
use Rattle.flow_graph.specs.Reach.{IsReach, reach_limit}
use Rattle.flow_graph.proofs.Ways.{place_of, node_at}
use Rattle.flow_graph.proofs.VisitedLemmas.{differ_from_distinct}
use Rattle.loop_forest.proofs.FoundLemmas.{different_distinct}
use Rattle.code_parts.specs.Calls.{CallsTo, IsFunction}
use Rattle.code_parts.specs.Causes.{SizesOver}
use Rattle.code_parts.specs.Functions.{AreFunctions, entries_of, size_of}
use Rattle.code_parts.specs.inner.Finding.{AreMade, AreRanks, HasFlow, IsFine, IsRanked}
use Rattle.code_parts.specs.declared.linked_function.Function.{Function}
use Rattle.code_parts.proofs.Counting.{AddsTo, Pairs, first_in, front_cases, later_in, pairs_more, pairs_none, sizes_over, sizes_small}
use Rattle.code_parts.proofs.Faults.{made_at}
use Rattle.code_parts.proofs.Ranking.{no_way_back, rank_below, rank_of_callee}

-- ---- sizes

-- the pairs of these functions are as many as their sizes sum to
pub pairs_of : (code : Bytes) (fs : List Function) → All (HasFlow code) fs → ((j k : ℕ) → j < k → k < length (entries_of fs) → get_or (entries_of fs) j 0 ≢ get_or (entries_of fs) k 0)
    → Pairs code (Contains (entries_of fs)) (sum_by size_of fs)
pairs_of code [] all differ = pairs_none code (Contains []) (λ f c. omega (arith, c.1))
pairs_of code (f ∷ fs) all differ =
    let flow : HasFlow code f = All-head (HasFlow code) f fs all in
    let rest = pairs_of code fs (All-tail (HasFlow code) f fs all) (λ j k lt l. differ (suc j) (suc k) (omega arith) (omega arith)) in
    let adds : AddsTo (Contains (entries_of fs)) f.entry (Contains (entries_of (f ∷ fs))) = record {
      old = λ x c. later_in f.entry (entries_of fs) x c;
      new = first_in f.entry (entries_of fs);
      only = λ x c. elim (front_cases f.entry (entries_of fs) x c) [ inl e ↦ inr e | inr d ↦ inl d ];
    } in
    let fresh : Contains (entries_of fs) f.entry → ⊥ = λ c. let p = place_of (entries_of fs) f.entry c in differ 0 (suc p.0) (omega arith) (omega (arith, p.1)) (sym p.2) in
    let more = pairs_more code (Contains (entries_of fs)) (Contains (entries_of (f ∷ fs))) f.entry (sum_by size_of fs) f.graph.addrs rest adds fresh flow.graph.reach in
    let same : sum_by size_of fs + length f.graph.addrs ≡ sum_by size_of (f ∷ fs) = add_comm (sum_by size_of fs) (length f.graph.addrs) ∙ sym (sum_by-cons size_of f fs) in
    subst (λ (n : ℕ). Pairs code (Contains (entries_of (f ∷ fs))) n) same more

few_in : (code : Bytes) (e : ℕ) (fs : List Function) → All (HasFlow code) fs → IsReach (CallsTo code) e (entries_of fs) → (SizesOver code e reach_limit → ⊥) → sum_by size_of fs ≤ reach_limit
few_in code e fs all r small = elim (cases_lt reach_limit (sum_by size_of fs)) [
  | inr le ↦ le
  | inl lt ↦ absurd (small (sizes_over code (Contains (entries_of fs)) e (sum_by size_of fs) reach_limit (pairs_of code fs all r.different) r.reached lt))
]

pub not_over : (code : Bytes) (e : ℕ) (fs : List Function) → All (HasFlow code) fs → IsReach (CallsTo code) e (entries_of fs) → sum_by size_of fs ≤ reach_limit → SizesOver code e reach_limit → ⊥
not_over code e fs all r few = sizes_small code (Contains (entries_of fs)) e (sum_by size_of fs) reach_limit (pairs_of code fs all r.different) r.all few

-- ---- order

flips : (x y : ℕ) → nat_eq x y ≡ nat_eq y x
flips x y = elim (eqb_tells x y) [
  | inl t ↦ t.0 ∙ sym (elim (eqb_tells y x) [ inl s ↦ s.0 | inr s ↦ absurd (s.1 (sym t.1)) ])
  | inr t ↦ t.0 ∙ sym (elim (eqb_tells y x) [ inl s ↦ absurd (t.1 (sym s.1)) | inr s ↦ s.0 ])
]

-- the same functions in another order
reach_moved : (E : ℕ → ℕ → Type 0) (e : ℕ) (xs ys : List ℕ) → IsReach E e xs → IsPermutation xs ys → IsReach E e ys
reach_moved E e xs ys r p = record {
  reached = λ x c. r.reached x (Contains-permutation ys xs x (IsPermutation-sym xs ys p) c);
  all = λ x w. Contains-permutation xs ys x p (r.all x w);
  different = differ_from_distinct ys (IsDistinct-IsPermutation nat_eq flips xs ys p (different_distinct xs r.different));
}

-- what is known of each function: its rank, its graph and its loops, and that it doesn't call itself
pub record IsKnown (code : Bytes) (f : Function) : Type 0 where
  pub ranked : IsRanked code f.entry f.rank
  pub flow : HasFlow code f

known : (code : Bytes) (entries ranks : List ℕ) (fs : List Function) → AreRanks code entries ranks (length entries) → AreMade code entries ranks fs (length entries) → All (IsKnown code) fs
known code entries ranks fs r m k d l =
    let below : k < length entries = omega (arith, m.as_many) in
    let entry : get_or entries k 0 ≡ (get_or fs k d).entry = sym (made_at code entries ranks fs (length entries) k d m below) in
    let rank : get_or ranks k 0 ≡ (get_or fs k d).rank = sym (sym (get_or-map (λ f. f.rank) fs k d 0 l) ∙ ap (λ es. get_or es k 0) m.ranked ∙ get_or-take (length entries) ranks k 0 below) in
    record {
      ranked = subst (λ (n : ℕ). IsRanked code (get_or fs k d).entry n) rank (subst (λ (f : ℕ). IsRanked code f (get_or ranks k 0)) entry (r.each k below));
      flow = m.each k d l;
    }

entry_at : (fs : List Function) (k : ℕ) (d : Function) → k < length fs → get_or (entries_of fs) k 0 ≡ (get_or fs k d).entry
entry_at fs k d l = get_or-map (λ f. f.entry) fs k d 0 l

in_order_with : (code : Bytes) (e : ℕ) (entries ranks : List ℕ) (fs gs : List Function) (d : Function) → IsFine code e entries → AreRanks code entries ranks (length entries) → AreMade code entries ranks fs (length entries)
    → IsPermutation fs gs → IsNonDecreasingBy (λ f. f.rank) gs → AreFunctions code e gs
in_order_with code e entries ranks fs gs d fine r m moved up = record {
  functions = reach;
  linked = λ k x l. let h = all k x l in record { rank = h.ranked.rank; graph = h.flow.graph; forest = h.flow.forest };
  before = λ j k lj lk c. elim (cases_lt j k) [
    | inl lt ↦ lt
    | inr le ↦
        let call : CallsTo code (get_or gs k d).entry (get_or gs j d).entry = subst (λ (z : ℕ). CallsTo code z (get_or gs j d).entry) (entry_at gs k d lk) (subst (λ (z : ℕ). CallsTo code (get_or (entries_of gs) k 0) z) (entry_at gs j d lj) c) in
        let below = rank_of_callee code (get_or gs k d).entry (get_or gs j d).entry (get_or gs k d).rank (get_or gs j d).rank call (all k d lk).ranked.once (all k d lk).ranked.rank (all j d lj).ranked.rank in
        let above : (get_or gs k d).rank ≤ (get_or gs j d).rank = up k j d le lj in
        omega arith
  ];
  last = last_is;
  few = few_in code e gs flows reach fine.small;
}
  where
    all : All (IsKnown code) gs
    all = All-permutation (IsKnown code) fs gs moved (known code entries ranks fs r m)

    flows : All (HasFlow code) gs
    flows = λ k x l. (all k x l).flow

    entered : entries_of fs ≡ entries
    entered = m.entered ∙ take_all (length entries) entries (omega arith)

    reach : IsReach (CallsTo code) e (entries_of gs)
    reach = reach_moved (CallsTo code) e entries (entries_of gs) fine.functions (subst (λ (es : List ℕ). IsPermutation es (entries_of gs)) entered (IsPermutation-map (λ f. f.entry) fs gs moved))

    long : length (entries_of gs) ≡ length gs
    long = length-map gs (λ f. f.entry)

    last_is : get_or (entries_of gs) (length gs - 1) 0 ≡ e
    last_is =
        let p = place_of (entries_of gs) e (reach.all e Stop) in
        let at_p : p.0 < length gs = omega (arith, p.1, long) in
        let at_last : length gs - 1 < length gs = omega arith in
        let is_e : (get_or gs p.0 d).entry ≡ e = sym (entry_at gs p.0 d at_p) ∙ p.2 in
        let way : IsFunction code e (get_or gs (length gs - 1) d).entry = subst (IsFunction code e) (entry_at gs (length gs - 1) d at_last) (reach.reached (get_or (entries_of gs) (length gs - 1) 0) (node_at (entries_of gs) (length gs - 1) (omega (arith, long)))) in
        let from_e : IsFunction code (get_or gs p.0 d).entry (get_or gs (length gs - 1) d).entry = subst (λ (z : ℕ). IsFunction code z (get_or gs (length gs - 1) d).entry) (sym is_e) way in
        elim (cases_eq (get_or gs p.0 d).entry (get_or gs (length gs - 1) d).entry) [
          | inl q ↦ entry_at gs (length gs - 1) d at_last ∙ sym q ∙ is_e
          | inr n ↦
              let below = rank_below code (get_or gs p.0 d).entry (get_or gs (length gs - 1) d).entry (get_or gs p.0 d).rank (get_or gs (length gs - 1) d).rank from_e
              (no_way_back code from_e n (all p.0 d at_p).ranked.once) (all p.0 d at_p).ranked.rank (all (length gs - 1) d at_last).ranked.rank in
              let above : (get_or gs p.0 d).rank ≤ (get_or gs (length gs - 1) d).rank = up p.0 (length gs - 1) d (omega arith) at_last in
              absurd (omega arith)
        ]

pub in_order : (code : Bytes) (e : ℕ) (entries ranks : List ℕ) (fs gs : List Function) → IsFine code e entries → AreRanks code entries ranks (length entries) → AreMade code entries ranks fs (length entries)
    → IsPermutation fs gs → IsNonDecreasingBy (λ f. f.rank) gs → AreFunctions code e gs
in_order code e entries ranks fs [] fine r m moved up = absurd (omega (arith, (fine.functions.all e Stop).1, m.as_many, length_permutation fs [] moved))
in_order code e entries ranks fs (g ∷ gs) fine r m moved up = in_order_with code e entries ranks fs (g ∷ gs) g fine r m moved up
