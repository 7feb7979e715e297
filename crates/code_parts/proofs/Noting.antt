-- Functions that are called at addresses are noted one by one, and the least fault is found address by address.
use Rattle.std.proofs.Common.{◌≡◌, ◌↔◌, ℕ, ◌+◌, ◌<◌, ◌≤◌, Bool, true, false, IsTrue, if◌then◌else◌, List, [], ◌∷◌, ◌++◌, length, get_or, drop, inl, inr, refl, sym, ◌∙◌, arith, subst, ap, Option, None, Some, true≢false}
use Rattle.std.specs.List.{Contains}
use Rattle.std.proofs.lemmas.Bool.{cases_eq}
use Rattle.std.proofs.lemmas.List.{drop_all, drop_more}
use Rattle.rv_words.specs.Bytes.{Bytes}
use Rattle.flow_graph.proofs.Ways.{place_of, node_at}
use Rattle.flow_graph.proofs.ReachSearch.{grows_one}
use Rattle.code_parts.specs.Calls.{call_at}
use Rattle.code_parts.specs.inner.Finding.{IsCalledAt, NotesCallee, NotesCallees, lowest, lowest_with}
use Rattle.code_parts.proofs.Counting.{front_cases}

same_some : (t u : ℕ) → Some t ≡ Some u → t ≡ u
same_some t u e = cc

pub noted_none : (N : List ℕ) → NotesCallee None N N
noted_none N = record { kept = λ k l. (l, refl); added = λ t e. absurd (cc); only = λ x c. inl c }

pub noted_one : (N N' : List ℕ) (t : ℕ) (b : Bool) → IsTrue b ↔ (Contains N t → ⊥) → N' ≡ (if b then N ++ t ∷ [] else N) → NotesCallee (Some t) N N'
noted_one N N' t b fresh e =
    let g = grows_one N N' t b fresh e in
    record {
      kept = g.kept;
      added = λ u q. g.added u (0, omega arith, same_some t u q);
      only = λ x c. elim (g.only x c) [ inl d ↦ inl d | inr d ↦ elim (front_cases t [] x d) [ inl q ↦ inr (ap (λ z. Some z) q) | inr f ↦ absurd (omega (arith, f.1)) ] ];
    }

pub notes_none : (code : Bytes) (addrs N : List ℕ) → NotesCallees code addrs 0 N N
notes_none code addrs N = record { kept = λ k l. (l, refl); added = λ k t l. absurd (omega arith); only = λ x c. inl c }

stays_noted : (o : Option ℕ) (N N' : List ℕ) → NotesCallee o N N' → (x : ℕ) → Contains N x → Contains N' x
stays_noted o N N' g x c = let p = place_of N x c in let k = g.kept p.0 p.1 in subst (λ (z : ℕ). Contains N' z) (k.1 ∙ p.2) (node_at N' p.0 k.0)

pub notes_more : (code : Bytes) (addrs : List ℕ) (i : ℕ) (N M N' : List ℕ) → NotesCallees code addrs i N M → NotesCallee (call_at code (get_or addrs i 0)) M N' → NotesCallees code addrs (i + 1) N N'
notes_more code addrs i N M N' g h = record {
  kept = λ k l. let p = g.kept k l in let q = h.kept k p.0 in (q.0, q.1 ∙ p.1);
  added = λ k t l e. elim (cases_eq k i) [
    | inl q ↦ h.added t (ap (λ z. call_at code (get_or addrs z 0)) (sym q) ∙ e)
    | inr n ↦ stays_noted (call_at code (get_or addrs i 0)) M N' h t (g.added k t (omega arith) e)
  ];
  only = λ x c. elim (h.only x c) [
    | inl d ↦ elim (g.only x d) [ inl o ↦ inl o | inr r ↦ inr (r.0, omega (arith, r.1), r.2) ]
    | inr e ↦ inr (i, omega arith, e)
  ];
}

pub notes_all : (code : Bytes) (addrs : List ℕ) (i : ℕ) (N N' : List ℕ) → NotesCallees code addrs i N N' → i ≤ length addrs → length addrs ≤ i → NotesCallees code addrs (length addrs) N N'
notes_all code addrs i N N' g up down = let e : i ≡ length addrs = omega arith in subst (λ (n : ℕ). NotesCallees code addrs n N N') e g

-- none of the first i addresses calls t
abbrev pub NoneCalls : Bytes → List ℕ → ℕ → ℕ → Type 0
NoneCalls code addrs i t = (k : ℕ) → k < i → call_at code (get_or addrs k 0) ≡ Some t → ⊥

pub none_more : (code : Bytes) (addrs : List ℕ) (i t : ℕ) → NoneCalls code addrs i t → (call_at code (get_or addrs i 0) ≡ Some t → ⊥) → NoneCalls code addrs (i + 1) t
none_more code addrs i t h n k l e = elim (cases_eq k i) [ inl q ↦ n (ap (λ z. call_at code (get_or addrs z 0)) (sym q) ∙ e) | inr m ↦ h k (omega arith) e ]

pub called_found : (code : Bytes) (addrs : List ℕ) (i t : ℕ) → i < length addrs → call_at code (get_or addrs i 0) ≡ Some t → IsTrue true ↔ IsCalledAt code addrs (length addrs) t
called_found code addrs i t l e = (λ h. (i, l, e), λ h. refl)

pub called_nowhere : (code : Bytes) (addrs : List ℕ) (i t : ℕ) → NoneCalls code addrs i t → length addrs ≤ i → IsTrue false ↔ IsCalledAt code addrs (length addrs) t
called_nowhere code addrs i t n l = (λ h. absurd (true≢false (sym h)), λ c. absurd (n c.0 (omega (arith, c.1)) c.2))

pub lowest_more_of : (code : Bytes) (addrs : List ℕ) (i : ℕ) (least : Option ℕ) → i < length addrs → lowest code (drop i addrs) least ≡ lowest code (drop (i + 1) addrs) (lowest_with code (get_or addrs i 0) least)
lowest_more_of code addrs i least l = ap (λ z. lowest code z least) (drop_more addrs i 0 l)

pub lowest_done : (code : Bytes) (addrs : List ℕ) (i : ℕ) (least : Option ℕ) → length addrs ≤ i → lowest code (drop i addrs) least ≡ least
lowest_done code addrs i least l = ap (λ z. lowest code z least) (drop_all i addrs l)
