-- A search for the functions of an entry.
use Rattle.std.proofs.Common.{◌≡◌, ◌≢◌, ◌↔◌, ℕ, ◌+◌, ◌<◌, ◌≤◌, Bool, true, false, ◌||◌, IsTrue, List, [], ◌∷◌, length, get_or, inl, inr, refl, sym, ◌∙◌, arith, subst, ap, Option, None, true≢false}
use Rattle.std.specs.List.{Contains}
use Rattle.std.proofs.lemmas.Bool.{cases_eq}
use Rattle.rv_words.specs.Bytes.{Bytes}
use Rattle.flow_graph.specs.Flow.{look, Next}
use Rattle.flow_graph.specs.Walks.{Reaches}
use Rattle.flow_graph.specs.Reach.{IsReach, ReachesOver, reach_limit}
use Rattle.flow_graph.specs.inner.Reached.{GrowsBy}
use Rattle.flow_graph.proofs.Ways.{place_of, node_at}
use Rattle.flow_graph.proofs.ReachSearch.{Reaching, reaching_start, reaching_end}
use Rattle.code_parts.specs.Calls.{CallsTo, IsFunction, call_at}
use Rattle.code_parts.specs.Causes.{IsFaulty, SizesOver}
use Rattle.code_parts.specs.inner.Finding.{IsCalledAt, IsFound, IsLowest, NotesCallees, is_refused, lowest}
use Rattle.code_parts.proofs.Calling.{back_from, back_to, calling_next}
use Rattle.code_parts.proofs.Counting.{AddsTo, Pairs, in_row, row_at, row_long, row_of, pairs_more, pairs_none, sizes_over, sizes_small}
use Rattle.code_parts.proofs.Lowest.{lowest_all, lowest_same, refused_why, why_refused}

-- f is one of the first i functions
abbrev pub Before : List ℕ → ℕ → ℕ → Type 0
Before N i f = (k : ℕ) × (k < i) × (get_or N k 0 ≡ f)

-- .. one of these calls e
abbrev pub AnyCalls : Bytes → List ℕ → ℕ → ℕ → Type 0
AnyCalls code N i e = (f : ℕ) × Before N i f × CallsTo code f e

-- .. one of these reaches a, which has a fault
abbrev pub IsFaultyIn : Bytes → List ℕ → ℕ → ℕ → Type 0
IsFaultyIn code N i a = (f : ℕ) × Before N i f × Reaches (Next true code) f a × (is_refused (look true code a) ≡ true)

pub record Searching (code : Bytes) (e : ℕ) (N : List ℕ) (i total : ℕ) (called : Bool) (fault : Option ℕ) : Type 0 where
  pub reaching : Reaching (CallsTo code) e N i
  pub pairs : Pairs code (Before N i) total
  pub calling : IsTrue called ↔ AnyCalls code N i e
  pub lowest_is : IsLowest (IsFaultyIn code N i) fault
  pub least : i ≤ total
  pub few : total ≤ 1024

pub searching_start : (code : Bytes) (e : ℕ) (N : List ℕ) → GrowsBy [] (e ∷ []) N → Searching code e N 0 0 false None
searching_start code e N g = record {
  reaching = reaching_start (CallsTo code) e N g;
  pairs = pairs_none code (Before N 0) (λ f d. omega (arith, d.1));
  calling = (λ h. absurd (true≢false (sym h)), λ a. absurd (omega (arith, a.1.1)));
  lowest_is = λ x a. omega (arith, a.1.1);
  least = omega arith;
  few = omega arith;
}

adds : (N N' : List ℕ) (i : ℕ) → i < length N → ((k : ℕ) → k < length N → get_or N' k 0 ≡ get_or N k 0) → AddsTo (Before N i) (get_or N i 0) (Before N' (i + 1))
adds N N' i l kept = record {
  old = λ f b. (b.0, omega (arith, b.1), kept b.0 (omega (arith, b.1)) ∙ b.2);
  new = (i, omega arith, kept i l);
  only = λ f b. elim (cases_eq b.0 i) [
    | inl q ↦ inr (sym (kept i l) ∙ sym (ap (λ z. get_or N' z 0) q) ∙ b.2)
    | inr n ↦ (let le = b.1 in let below : b.0 < i = omega arith in inl (b.0, below, sym (kept b.0 (omega arith)) ∙ b.2))
  ];
}

calls_here : (code : Bytes) (g e : ℕ) (addrs : List ℕ) → IsReach (Next true code) g addrs → IsCalledAt code addrs (length addrs) e → CallsTo code g e
calls_here code g e addrs reach c = record { at = get_or addrs c.0 0; reached = reach.reached (get_or addrs c.0 0) (node_at addrs c.0 c.1); calls = c.2 }

called_here : (code : Bytes) (g e : ℕ) (addrs : List ℕ) → IsReach (Next true code) g addrs → CallsTo code g e → IsCalledAt code addrs (length addrs) e
called_here code g e addrs reach c = let p = place_of addrs c.at (reach.all c.at c.reached) in (p.0, p.1, ap (call_at code) p.2 ∙ c.calls)

calling_more : (code : Bytes) (e : ℕ) (N N' : List ℕ) (i : ℕ) (addrs : List ℕ) (called calls : Bool) → AddsTo (Before N i) (get_or N i 0) (Before N' (i + 1)) → IsReach (Next true code) (get_or N i 0) addrs
    → IsTrue called ↔ AnyCalls code N i e → IsTrue calls ↔ IsCalledAt code addrs (length addrs) e → IsTrue (called || calls) ↔ AnyCalls code N' (i + 1) e
calling_more code e N N' i addrs true calls more reach old here = (λ t. let a = old.0 refl in (a.0, more.old a.0 a.1, a.2), λ a. refl)
calling_more code e N N' i addrs false calls more reach old here = (
  λ t. (get_or N i 0, more.new, calls_here code (get_or N i 0) e addrs reach (here.0 t)),
  λ a. elim (more.only a.0 a.1) [
    | inl b ↦ absurd (true≢false (sym (old.1 (a.0, b, a.2))))
    | inr q ↦ here.1 (called_here code (get_or N i 0) e addrs reach (subst (λ (f : ℕ). CallsTo code f e) (sym q) a.2))
  ],
)

lowest_more : (code : Bytes) (N N' : List ℕ) (i : ℕ) (addrs : List ℕ) (fault : Option ℕ) → AddsTo (Before N i) (get_or N i 0) (Before N' (i + 1)) → IsReach (Next true code) (get_or N i 0) addrs
    → IsLowest (IsFaultyIn code N i) fault → IsLowest (IsFaultyIn code N' (i + 1)) (lowest code addrs fault)
lowest_more code N N' i addrs fault more reach h = lowest_all code addrs (IsFaultyIn code N i) (IsFaultyIn code N' (i + 1)) fault
    (λ x a. (a.0, more.old a.0 a.1, a.2, a.3))
    (λ x c. (get_or N i 0, more.new, reach.reached x c.0, c.1))
    (λ x a. elim (more.only a.0 a.1) [ inl b ↦ inl (a.0, b, a.2, a.3) | inr q ↦ inr (reach.all x (subst (λ (f : ℕ). Reaches (Next true code) f x) (sym q) a.2), a.3) ]) h

pub not_before : (N : List ℕ) (i : ℕ) → i < length N → ((j k : ℕ) → j < k → k < length N → get_or N j 0 ≢ get_or N k 0) → Before N i (get_or N i 0) → ⊥
not_before N i l differ b = differ b.0 i b.1 l b.2

pub searching_next : (code : Bytes) (e : ℕ) (N N' : List ℕ) (i total : ℕ) (called calls : Bool) (fault : Option ℕ) (addrs : List ℕ) → Searching code e N i total called fault → i < length N
    → ((j k : ℕ) → j < k → k < length N → get_or N j 0 ≢ get_or N k 0) → IsReach (Next true code) (get_or N i 0) addrs → total + length addrs ≤ 1024
    → IsTrue calls ↔ IsCalledAt code addrs (length addrs) e → NotesCallees code addrs (length addrs) N N' → Searching code e N' (i + 1) (total + length addrs) (called || calls) (lowest code addrs fault)
searching_next code e N N' i total called calls fault addrs s l differ reach few here notes =
    let more = adds N N' i l (λ k h. (notes.kept k h).1) in
    let own = reach.all (get_or N i 0) Rattle.flow_graph.specs.Walks.Stop in
    record {
      reaching = calling_next code e N i addrs N' s.reaching l reach notes;
      pairs = pairs_more code (Before N i) (Before N' (i + 1)) (get_or N i 0) total addrs s.pairs more (not_before N i l differ) reach;
      calling = calling_more code e N N' i addrs called calls more reach s.calling here;
      lowest_is = lowest_more code N N' i addrs fault more reach s.lowest_is;
      least = omega (arith, s.least, own.1);
      few = few;
    }

all_before : (code : Bytes) (e : ℕ) (N : List ℕ) → IsReach (CallsTo code) e N → (f : ℕ) → IsFunction code e f → Before N (length N) f
all_before code e N r f w = place_of N f (r.all f w)

are_functions : (code : Bytes) (e : ℕ) (N : List ℕ) (i : ℕ) → Reaching (CallsTo code) e N i → (f : ℕ) → Before N i f → IsFunction code e f
are_functions code e N i r f b = r.reached f (subst (λ (z : ℕ). Contains N z) b.2 (node_at N b.0 (omega (arith, b.1, r.upto))))

pub searching_end : (code : Bytes) (e : ℕ) (N : List ℕ) (i total : ℕ) (called : Bool) (fault : Option ℕ) → Searching code e N i total called fault → length N ≤ i
    → ((j k : ℕ) → j < k → k < length N → get_or N j 0 ≢ get_or N k 0) → IsFound code e (record { functions = N; called = called; fault = fault })
searching_end code e N i total called fault s l differ =
    let reach = reaching_end (CallsTo code) e N i s.reaching l differ in
    let all : (f : ℕ) → IsFunction code e f → Before N i f = λ f w. let b = all_before code e N reach f w in (b.0, omega (arith, b.1, l), b.2) in
    record {
      functions = reach;
      small = sizes_small code (Before N i) e total reach_limit s.pairs all s.few;
      called = (
        λ t. let a = s.calling.0 t in back_from code (are_functions code e N i s.reaching a.0 a.1) a.2,
        λ b. let g = back_to code e b in s.calling.1 (g.0, all g.0 g.1, g.2),
      );
      fault = lowest_same (IsFaultyIn code N i) (IsFaulty code e) fault
          (λ x a. let w = refused_why (look true code x) a.3 in record { function = a.0; is = are_functions code e N i s.reaching a.0 a.1; reached = a.2; why = w.0; fault = w.1 })
          (λ x b. (b.function, all b.function b.is, b.reached, why_refused (look true code x) b.why b.fault)) s.lowest_is;
    }

-- one function alone is too large
pub large_one : (code : Bytes) (e f : ℕ) → IsFunction code e f → ReachesOver (Next true code) f reach_limit → SizesOver code e reach_limit
large_one code e f is o = record {
  some = row_of f o.some;
  over = (let over = o.over in omega (arith, long));
  reached = λ q c. let m = in_row f o.some q c in (subst (IsFunction code e) m.0 is, subst (λ (h : ℕ). Reaches (Next true code) h q.1) m.0 (o.reached q.1 m.1));
  different = λ j k lt l q. o.different j k lt (omega (arith, long)) (ap (λ z. z.1) (sym (row_at f o.some j (omega (arith, long))) ∙ q ∙ row_at f o.some k (omega (arith, long))));
}
  where
    long : length (row_of f o.some) ≡ length o.some
    long = row_long f o.some

-- together they are
pub large_sum : (code : Bytes) (e : ℕ) (N : List ℕ) (i total : ℕ) (called : Bool) (fault : Option ℕ) (addrs : List ℕ) → Searching code e N i total called fault → i < length N
    → ((j k : ℕ) → j < k → k < length N → get_or N j 0 ≢ get_or N k 0) → IsReach (Next true code) (get_or N i 0) addrs → 1024 < total + length addrs → SizesOver code e reach_limit
large_sum code e N i total called fault addrs s l differ reach over =
    let more = adds N N i l (λ k h. refl) in
    sizes_over code (Before N (i + 1)) e (total + length addrs) reach_limit
    (pairs_more code (Before N i) (Before N (i + 1)) (get_or N i 0) total addrs s.pairs more (not_before N i l differ) reach)
    (λ f b. s.reaching.reached f (subst (λ (z : ℕ). Contains N z) b.2 (node_at N b.0 (omega (arith, b.1, l))))) over
