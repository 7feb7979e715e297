-- What names are bound to.
use Rattle.std.proofs.Common.{◌≡◌, ℕ, ◌+◌, ◌≤◌, ◌<◌, Bool, true, false, cond, List, [], ◌∷◌, ◌++◌, length, get_or, map, take, Option, Some, None, refl, sym, ap, ◌∙◌, arith}
use Rattle.std.specs.Str.{bytes_eq}
use Rattle.std.proofs.lemmas.List.{take_more, take_all, map-append, length-take-le, length-map}
use Rattle.smt_terms.specs.declared.sort.Sort.{Sort}
use Rattle.smt_terms.specs.Operators.{Value, same_sort}
use Rattle.smt_terms.specs.Meaning.{Variables, no_names, bind, bind_all}
use Rattle.smt_terms.specs.Sorts.{Sorts, sorts_fit, sorts_with}
use Rattle.smt_terms.specs.declared.datum.Datum.{Datum}
use Rattle.smt_terms.specs.declared.scope.Binding.{Binding}
use Rattle.smt_terms.specs.inner.Datum.{sort_of_datum, sorted, meaning}
use Rattle.smt_terms.specs.inner.Scope.{sorts_behind, variables_behind, sorts_in, variables_in}
use Rattle.smt_terms.proofs.Vectors.{both}
use Rattle.smt_terms.proofs.Rules.{same-sort}

sorts-append : (s : Sorts) (xs ys : List Binding) → sorts_behind s (xs ++ ys) ≡ sorts_behind (sorts_behind s xs) ys
sorts-append s [] ys = refl
sorts-append s (x ∷ xs) ys = sorts-append (bind s x.name.now (sort_of_datum x.datum)) xs ys

variables-append : (s : Variables) (xs ys : List Binding) → variables_behind s (xs ++ ys) ≡ variables_behind (variables_behind s xs) ys
variables-append s [] ys = refl
variables-append s (x ∷ xs) ys = variables-append (bind s x.name.now (meaning x.datum)) xs ys

-- one binding more
pub sorts-pushed : (scope : List Binding) (b : Binding) → sorts_in (scope ++ b ∷ []) ≡ bind (sorts_in scope) b.name.now (sort_of_datum b.datum)
sorts-pushed scope b = sorts-append no_names scope (b ∷ [])

pub variables-pushed : (scope : List Binding) (b : Binding) → variables_in (scope ++ b ∷ []) ≡ bind (variables_in scope) b.name.now (meaning b.datum)
variables-pushed scope b = variables-append no_names scope (b ∷ [])

-- none of the bindings from the i-th on has the name
pub record NotBound (scope : List Binding) (name : List ℕ) (i : ℕ) : Type 0 where
  pub sort : sorts_in (take i scope) name ≡ sorts_in scope name
  pub value : variables_in (take i scope) name ≡ variables_in scope name

pub not_bound_all : (scope : List Binding) (name : List ℕ) (i : ℕ) → length scope ≤ i → NotBound scope name i
not_bound_all scope name i le = record {
  sort = λ j. sorts_in (take_all i scope le j) name;
  value = λ j. variables_in (take_all i scope le j) name;
}

module _ (scope : List Binding) (name : List ℕ) (i : ℕ) (b : Binding) (t : Bool) (lt : i < length scope) (is : b ≡ get_or scope i b) (eq : bytes_eq name b.name.now ≡ t) where
  more : take (i + 1) scope ≡ take i scope ++ b ∷ []
  more = take_more scope i b lt ∙ (λ j. take i scope ++ sym is j ∷ [])

  sort-at : sorts_in (take (i + 1) scope) name ≡ cond t (Some (sort_of_datum b.datum)) (sorts_in (take i scope) name)
  sort-at = (λ j. sorts_in (more j) name) ∙ (λ j. sorts-pushed (take i scope) b j name) ∙ (λ j. cond (eq j) (Some (sort_of_datum b.datum)) (sorts_in (take i scope) name))

  value-at : variables_in (take (i + 1) scope) name ≡ cond t (Some (meaning b.datum)) (variables_in (take i scope) name)
  value-at = (λ j. variables_in (more j) name) ∙ (λ j. variables-pushed (take i scope) b j name) ∙ (λ j. cond (eq j) (Some (meaning b.datum)) (variables_in (take i scope) name))

pub not_bound_one : (scope : List Binding) (name : List ℕ) (i k : ℕ) (b : Binding) → k ≡ i + 1 → i < length scope → b ≡ get_or scope i b → bytes_eq name b.name.now ≡ false → NotBound scope name k → NotBound scope name i
not_bound_one scope name i k b e lt is eq h = record {
  sort = sym (ap (λ (n : ℕ). sorts_in (take n scope) name) e ∙ sort-at scope name i b false lt is eq) ∙ h.sort;
  value = sym (ap (λ (n : ℕ). variables_in (take n scope) name) e ∙ value-at scope name i b false lt is eq) ∙ h.value;
}

pub bound_sort_at : (scope : List Binding) (name : List ℕ) (i k : ℕ) (b : Binding) → k ≡ i + 1 → i < length scope → b ≡ get_or scope i b → bytes_eq name b.name.now ≡ true → NotBound scope name k → sorts_in scope name ≡ Some (sort_of_datum b.datum)
bound_sort_at scope name i k b e lt is eq h = sym h.sort ∙ ap (λ (n : ℕ). sorts_in (take n scope) name) e ∙ sort-at scope name i b true lt is eq

pub bound_value_at : (scope : List Binding) (name : List ℕ) (i k : ℕ) (b : Binding) → k ≡ i + 1 → i < length scope → b ≡ get_or scope i b → bytes_eq name b.name.now ≡ true → NotBound scope name k → variables_in scope name ≡ Some (meaning b.datum)
bound_value_at scope name i k b e lt is eq h = sym h.value ∙ ap (λ (n : ℕ). variables_in (take n scope) name) e ∙ value-at scope name i b true lt is eq

pub no_sort : (scope : List Binding) (name : List ℕ) (i : ℕ) → i ≡ 0 → NotBound scope name i → sorts_in scope name ≡ None
no_sort scope name i e h = sym h.sort ∙ ap (λ (n : ℕ). sorts_in (take n scope) name) e

pub no_value : (scope : List Binding) (name : List ℕ) (i : ℕ) → i ≡ 0 → NotBound scope name i → variables_in scope name ≡ None
no_value scope name i e h = sym h.value ∙ ap (λ (n : ℕ). variables_in (take n scope) name) e

-- ---- parameters

-- the parameters bound to sorts
abbrev pub bind_sorts : Sorts → List (List ℕ × Sort) → List Sort → Sorts
bind_sorts s [] ts = s
bind_sorts s (p ∷ ps) [] = s
bind_sorts s (p ∷ ps) (t ∷ ts) = bind_sorts (bind s p.0 t) ps ts

pub fitting-sorts : (s : Sorts) (ps : List (List ℕ × Sort)) (ds : List Datum) → sorts_fit ps (map sorted ds) ≡ true → bind_sorts s ps (map sort_of_datum ds) ≡ sorts_with s ps
fitting-sorts s [] [] h = refl
fitting-sorts s [] (d ∷ ds) h = absurd (cc)
fitting-sorts s (p ∷ ps) [] h = absurd (cc)
fitting-sorts s (p ∷ ps) (d ∷ ds) h =
    let t = both (same_sort (sort_of_datum d) p.1) (sorts_fit ps (map sorted ds)) h in
    (λ j. bind_sorts (bind s p.0 (same-sort (sort_of_datum d) p.1 t.0 j)) ps (map sort_of_datum ds)) ∙ fitting-sorts (bind s p.0 p.1) ps ds t.1

-- the scope of the first i parameters and arguments
pub record BoundTo (params : List (List ℕ × Sort)) (args : List Datum) (i : ℕ) (scope : List Binding) : Type 0 where
  pub sorts : sorts_in scope ≡ bind_sorts no_names (take i params) (map sort_of_datum (take i args))
  pub values : variables_in scope ≡ bind_all no_names (take i params) (map meaning (take i args))

pub bound_to_none : (params : List (List ℕ × Sort)) (args : List Datum) (scope : List Binding) → scope ≡ [] → BoundTo params args 0 scope
bound_to_none params args scope e = record { sorts = ap sorts_in e; values = ap variables_in e }

bind_sorts-one : (s : Sorts) (ps : List (List ℕ × Sort)) (ts : List Sort) (p : List ℕ × Sort) (t : Sort) → length ps ≡ length ts → bind_sorts s (ps ++ p ∷ []) (ts ++ t ∷ []) ≡ bind (bind_sorts s ps ts) p.0 t
bind_sorts-one s [] [] p t e = refl
bind_sorts-one s [] (u ∷ us) p t e = absurd (omega arith)
bind_sorts-one s (q ∷ qs) [] p t e = absurd (omega arith)
bind_sorts-one s (q ∷ qs) (u ∷ us) p t e = bind_sorts-one (bind s q.0 u) qs us p t (omega arith)

bind_all-one : (s : Variables) (ps : List (List ℕ × Sort)) (vs : List Value) (p : List ℕ × Sort) (v : Value) → length ps ≡ length vs → bind_all s (ps ++ p ∷ []) (vs ++ v ∷ []) ≡ bind (bind_all s ps vs) p.0 v
bind_all-one s [] [] p t e = refl
bind_all-one s [] (u ∷ us) p t e = absurd (omega arith)
bind_all-one s (q ∷ qs) [] p t e = absurd (omega arith)
bind_all-one s (q ∷ qs) (u ∷ us) p t e = bind_all-one (bind s q.0 u) qs us p t (omega arith)

module _ (params : List (List ℕ × Sort)) (args : List Datum) where
  pub bound_to_more : (i : ℕ) (scope after : List Binding) (p : List ℕ × Sort) (arg : Datum) (b : Binding) → i < length params → i < length args → p ≡ get_or params i p → arg ≡ get_or args i arg
      → b.name.now ≡ p.0 → sort_of_datum b.datum ≡ sort_of_datum arg → meaning b.datum ≡ meaning arg → after ≡ scope ++ b ∷ [] → BoundTo params args i scope → BoundTo params args (i + 1) after
  bound_to_more i scope after p arg b l k is at name sort value e h =
      let ps : take (i + 1) params ≡ take i params ++ p ∷ [] = take_more params i p l ∙ (λ j. take i params ++ sym is j ∷ []) in
      let qs : take (i + 1) args ≡ take i args ++ arg ∷ [] = take_more args i arg k ∙ (λ j. take i args ++ sym at j ∷ []) in
      let lp : length (take i params) ≡ i = length-take-le i params (omega arith) in
      let la : length (take i args) ≡ i = length-take-le i args (omega arith) in
      let ls : length (take i params) ≡ length (map sort_of_datum (take i args)) = lp ∙ sym la ∙ sym (length-map (take i args) sort_of_datum) in
      let lv : length (take i params) ≡ length (map meaning (take i args)) = lp ∙ sym la ∙ sym (length-map (take i args) meaning) in
      record {
        sorts = ap sorts_in e ∙ sorts-pushed scope b ∙ (λ j. bind (h.sorts j) (name j) (sort j))
            ∙ sym ((λ j. bind_sorts no_names (ps j) (map sort_of_datum (qs j))) ∙ (λ j. bind_sorts no_names (take i params ++ p ∷ []) (map-append sort_of_datum (take i args) (arg ∷ []) j))
            ∙ bind_sorts-one no_names (take i params) (map sort_of_datum (take i args)) p (sort_of_datum arg) ls);
        values = ap variables_in e ∙ variables-pushed scope b ∙ (λ j. bind (h.values j) (name j) (value j))
            ∙ sym ((λ j. bind_all no_names (ps j) (map meaning (qs j))) ∙ (λ j. bind_all no_names (take i params ++ p ∷ []) (map-append meaning (take i args) (arg ∷ []) j))
            ∙ bind_all-one no_names (take i params) (map meaning (take i args)) p (meaning arg) lv);
      }

  pub bound_sorts : (i : ℕ) (scope : List Binding) → length params ≤ i → length params ≡ length args → BoundTo params args i scope → sorts_fit params (map sorted args) ≡ true → sorts_in scope ≡ sorts_with no_names params
  bound_sorts i scope le e h fit =
      h.sorts ∙ (λ j. bind_sorts no_names (take_all i params le j) (map sort_of_datum (take_all i args (omega arith) j))) ∙ fitting-sorts no_names params args fit

  pub bound_values : (i : ℕ) (scope : List Binding) → length params ≤ i → length params ≡ length args → BoundTo params args i scope → variables_in scope ≡ bind_all no_names params (map meaning args)
  bound_values i scope le e h = h.values ∙ (λ j. bind_all no_names (take_all i params le j) (map meaning (take_all i args (omega arith) j)))

pub fit-lengths : (ps : List (List ℕ × Sort)) (os : List (Option Sort)) → sorts_fit ps os ≡ true → length ps ≡ length os
fit-lengths [] [] h = refl
fit-lengths [] (o ∷ os) h = absurd (cc)
fit-lengths (p ∷ ps) [] h = absurd (cc)
fit-lengths (p ∷ ps) (None ∷ os) h = absurd (cc)
fit-lengths (p ∷ ps) (Some s ∷ os) h = let e = fit-lengths ps os (both (same_sort s p.1) (sorts_fit ps os) h).1 in omega arith
