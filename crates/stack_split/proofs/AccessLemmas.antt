-- The stack accesses of a function, node by node.
use Rattle.std.proofs.Common.{◌≡◌, ℕ, ◌+◌, ◌<◌, ◌⊎◌, inl, inr, Bool, true, false, List, [], ◌∷◌, ◌++◌, length, get_or, sym, ◌∙◌, subst, arith}
use Rattle.std.specs.Prelude.{◌↔◌, IsTrue}
use Rattle.std.specs.List.{Contains}
use Rattle.std.proofs.lemmas.Bool.{cases_lt}
use Rattle.std.proofs.lemmas.List.Elements.{Contains-append_left, Contains-push, Contains-push_cases}
use Rattle.rv_words.specs.Bytes.{Bytes}
use Rattle.flow_graph.proofs.Ways.{node_at, place_of}
use Rattle.stack_offsets.specs.Offsets.{IsStackAccess}
use Rattle.stack_split.specs.inner.Accesses.{AreFound, AreStackAccesses}

pub found-none : (addrs : List ℕ) (found : List Bool) → AreFound addrs found 0 []
found-none addrs found a = ((λ c. absurd (let lt = c.1 in omega (arith, lt))), (λ h. absurd (let lt = h.1 in omega (arith, lt))))

-- the next node, at that number, or one before it
next-or : (n k : ℕ) → n < k + 1 → (n < k) ⊎ (n ≡ k)
next-or n k lt = elim (cases_lt n k) [ inl l ↦ inl l | inr le ↦ inr (omega (arith, lt, le)) ]

-- .. is a stack access
pub found-more : (addrs : List ℕ) (found : List Bool) (k : ℕ) (second new : List ℕ) → AreFound addrs found k second → get_or found k false ≡ true → new ≡ second ++ get_or addrs k 0 ∷ [] → AreFound addrs found (k + 1) new
found-more addrs found k second new are is same = subst (AreFound addrs found (k + 1)) (sym same) (λ a. (there a, back a))
  where
    there : (a : ℕ) → Contains (second ++ get_or addrs k 0 ∷ []) a → (n : ℕ) × (n < k + 1) × (get_or found n false ≡ true) × (get_or addrs n 0 ≡ a)
    there a c = elim (Contains-push_cases second (get_or addrs k 0) a c) [
      | inl old ↦ (let r = (are a).0 old in (r.0, (let lt = r.1 in omega (arith, lt)), r.2, r.3))
      | inr at ↦ (k, omega arith, is, at)
    ]

    back : (a : ℕ) → (n : ℕ) × (n < k + 1) × (get_or found n false ≡ true) × (get_or addrs n 0 ≡ a) → Contains (second ++ get_or addrs k 0 ∷ []) a
    back a h = elim (next-or h.0 k h.1) [
      | inl lt ↦ Contains-append_left second (get_or addrs k 0 ∷ []) a ((are a).1 (h.0, lt, h.2, h.3))
      | inr last ↦ subst (Contains (second ++ get_or addrs k 0 ∷ [])) (subst (λ n. get_or addrs n 0 ≡ a) last h.3) (Contains-push second (get_or addrs k 0))
    ]

-- .. is none
pub found-less : (addrs : List ℕ) (found : List Bool) (k : ℕ) (second : List ℕ) → AreFound addrs found k second → get_or found k false ≡ false → AreFound addrs found (k + 1) second
found-less addrs found k second are is a = (
  λ c. let r = (are a).0 c in (r.0, (let lt = r.1 in omega (arith, lt)), r.2, r.3),
  λ h. elim (next-or h.0 k h.1) [
    | inl lt ↦ (are a).1 (h.0, lt, h.2, h.3)
    | inr last ↦ absurd (let both = sym (subst (λ n. get_or found n false ≡ true) last h.2) ∙ is in cc)
  ],
)

-- all nodes
pub found-all : (code : Bytes) (e : ℕ) (addrs : List ℕ) (found : List Bool) (second : List ℕ) → ((n : ℕ) → n < length addrs → IsTrue (get_or found n false) ↔ IsStackAccess code e (get_or addrs n 0))
    → AreFound addrs found (length addrs) second → AreStackAccesses code e addrs second
found-all code e addrs found second each are a = (
  λ c.
      let r = (are a).0 c in
      (subst (Contains addrs) r.3 (node_at addrs r.0 r.1), subst (IsStackAccess code e) r.3 ((each r.0 r.1).0 r.2)),
  λ h.
      let at = place_of addrs a h.0 in
      (are a).1 (at.0, at.1, (each at.0 at.1).1 (subst (IsStackAccess code e) (sym at.2) h.1), at.2),
)
