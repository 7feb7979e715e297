-- Walks: joined, cut at a node, and last visits.
use Rattle.std.proofs.Common.{◌≡◌, ℕ, zero, suc, ◌<◌, ◌≢◌, get_or, List, ◌∷◌, ◌⊎◌, length, inl, inr, sym, ◌∙◌, arith, subst}
use Rattle.std.proofs.lemmas.Bool.{cases_eq}
use Rattle.std.specs.List.{Contains}
use Rattle.std.proofs.lemmas.List.Elements.{Contains-get_or}
use Rattle.std.proofs.lemmas.Grind.{get_or_default_zero}
use Rattle.flow_graph.specs.Walks.{Way, Stop, Leave}

pub way-join : {E : ℕ → ℕ → Type 0} {P : ℕ → Type 0} {a b c : ℕ} → Way E P a b → Way E P b c → Way E P a c
way-join Stop v = v
way-join (Leave p e w) v = Leave p e (way-join w v)

-- the nodes may be asked for less
pub way-weaken : {E : ℕ → ℕ → Type 0} {P Q : ℕ → Type 0} {a b : ℕ} → ((x : ℕ) → P x → Q x) → Way E P a b → Way E Q a b
way-weaken f Stop = Stop
way-weaken f (Leave p e w) = Leave (f _ p) e (way-weaken f w)

-- the walk up to the first h: its last edge leads there
pub first_arrival : {E : ℕ → ℕ → Type 0} {P : ℕ → Type 0} (h : ℕ) {a b : ℕ} → Way E P a b → b ≡ h → a ≢ h → (u : ℕ) × Way E (λ x. P x × (x ≢ h)) a u × P u × (u ≢ h) × E u h
first_arrival h Stop q n = absurd (n q)
first_arrival {E} {P} h (Leave {a} {c} p e w) q n =
    elim (cases_eq c h) [
      | inl s ↦ (a, Stop, p, n, subst (λ (z : ℕ). E a z) s e)
      | inr m ↦ let r = first_arrival h w q m in (r.0, Leave (p, n) e r.1, r.2, r.3, r.4)
    ]

-- the walk up to the first h, or all of it
pub first_or_none : {E : ℕ → ℕ → Type 0} {P : ℕ → Type 0} (h : ℕ) {a b : ℕ} → Way E P a b → Way E (λ x. P x × (x ≢ h)) a b ⊎ Way E (λ x. P x × (x ≢ h)) a h
first_or_none h Stop = inl Stop
first_or_none {E} {P} h (Leave {a} {c} {b} p e w) =
    elim (cases_eq a h) [
      | inl s ↦ inr (subst (λ (z : ℕ). Way E (λ x. P x × (x ≢ h)) z h) (sym s) Stop)
      | inr m ↦ elim (first_or_none h w) [ inl v ↦ inl (Leave (p, m) e v) | inr v ↦ inr (Leave (p, m) e v) ]
    ]

-- a walk either leaves no h, or has a part from an h that leaves no further h: the last edge out of h
pub last_or_none : {E : ℕ → ℕ → Type 0} {P : ℕ → Type 0} (T : ℕ → Type 0) (tells : (x : ℕ) → T x ⊎ (T x → ⊥)) {a b : ℕ} → Way E P a b → Way E (λ x. P x × (T x → ⊥)) a b ⊎ ((t c : ℕ) × T t × E t c × Way E (λ x. P x × (T x → ⊥)) c b)
last_or_none T tells Stop = inl Stop
last_or_none T tells (Leave {a} {c} p e w) =
    elim (last_or_none T tells w) [
      | inr r ↦ inr r
      | inl v ↦ elim (tells a) [ inl t ↦ inr (a, c, t, e, v) | inr n ↦ inl (Leave (p, n) e v) ]
    ]

-- a node of a list stands at a place of it
pub place_of : (xs : List ℕ) (q : ℕ) → Contains xs q → (k : ℕ) × (k < length xs) × (get_or xs k 0 ≡ q)
place_of xs q (k, l, e) = (k, l, sym (get_or_default_zero xs k q l) ∙ e)

pub node_at : (xs : List ℕ) (k : ℕ) → k < length xs → Contains xs (get_or xs k 0)
node_at xs k l = Contains-get_or xs k 0 l

-- all of a walk is apart from h, or it has a part from h
pub apart_or_from : {E : ℕ → ℕ → Type 0} {P : ℕ → Type 0} (h : ℕ) {a b : ℕ} → Way E P a b → (Way E (λ x. P x × (x ≢ h)) a b × (b ≢ h)) ⊎ Way E P h b
apart_or_from {E} {P} h (Stop {a}) = elim (cases_eq a h) [ inl s ↦ inr (subst (λ (z : ℕ). Way E P z a) s Stop) | inr n ↦ inl (Stop, n) ]
apart_or_from {E} {P} h (Leave {a} {c} {b} p e w) =
    elim (apart_or_from h w) [
      | inr v ↦ inr v
      | inl r ↦ elim (cases_eq a h) [ inl s ↦ inr (subst (λ (z : ℕ). Way E P z b) s (Leave p e w)) | inr n ↦ inl (Leave (p, n) e r.0, r.1) ]
    ]

-- membership, from the front
pub Contains-cons : (x : ℕ) (xs : List ℕ) (q : ℕ) → Contains (x ∷ xs) q → (x ≡ q) ⊎ Contains xs q
Contains-cons x xs q (zero, l, e) = inl e
Contains-cons x xs q (suc k, l, e) = inr (k, omega arith, e)
