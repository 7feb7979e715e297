-- The least address with a fault.
use Rattle.std.proofs.Common.{◌≡◌, ◌⊎◌, ℕ, Bool, true, false, cond, List, [], ◌∷◌, inl, inr, refl, sym, arith, subst, ap, Option, None, Some, Result, Ok, Err, true≢false}
use Rattle.std.specs.List.{Contains}
use Rattle.std.proofs.lemmas.Bool.{cases_lt, le-ltb, lt-ltb}
use Rattle.rv_words.specs.Bytes.{Bytes}
use Rattle.rv_decode.specs.declared.instruction.Instr.{Instr}
use Rattle.flow_graph.specs.Flow.{look}
use Rattle.flow_graph.specs.declared.outside.Outside.{Outside as Fault}
use Rattle.code_parts.specs.inner.Finding.{IsLowest, is_refused, lower, lowest, lowest_by, lowest_with}
use Rattle.code_parts.proofs.Counting.{first_in, front_cases, later_in}

pub refused_why : (r : Result Instr Fault) → is_refused r ≡ true → (why : Fault) × (r ≡ Err why)
refused_why (Ok i) h = absurd (true≢false (sym h))
refused_why (Err why) h = (why, refl)

pub why_refused : (r : Result Instr Fault) (why : Fault) → r ≡ Err why → is_refused r ≡ true
why_refused r why e = ap is_refused e

pub lowest_same : (P Q : ℕ → Type 0) (least : Option ℕ) → ((x : ℕ) → P x → Q x) → ((x : ℕ) → Q x → P x) → IsLowest P least → IsLowest Q least
lowest_same P Q None to from h = λ x q. h x (from x q)
lowest_same P Q (Some a) to from h = record { has = to a h.has; least = λ m q lt. h.least m (from m q) lt }

lower_least : (P Q : ℕ → Type 0) (a : ℕ) (least : Option ℕ) → Q a → ((x : ℕ) → P x → Q x) → ((x : ℕ) → Q x → P x ⊎ (a ≡ x)) → IsLowest P least → IsLowest Q (lower a least)
lower_least P Q a None q to from h = record { has = q; least = λ m r lt. elim (from m r) [ inl p ↦ h m p | inr e ↦ omega arith ] }
lower_least P Q a (Some b) q to from h = elim (cases_lt a b) [
  | inl t ↦ subst (λ (c : Bool). IsLowest Q (cond c (Some a) (Some b))) (sym (lt-ltb a b t)) (record {
    has = q;
    least = λ m r lt. elim (from m r) [ inl p ↦ h.least m p (omega arith) | inr e ↦ omega arith ];
  })
  | inr t ↦ subst (λ (c : Bool). IsLowest Q (cond c (Some a) (Some b))) (sym (le-ltb a b t)) (record {
    has = to b h.has;
    least = λ m r lt. elim (from m r) [ inl p ↦ h.least m p lt | inr e ↦ omega arith ];
  })
]

by_step : (P Q : ℕ → Type 0) (b : Bool) (a : ℕ) (least : Option ℕ) → (b ≡ true → Q a) → ((x : ℕ) → P x → Q x) → ((x : ℕ) → Q x → P x ⊎ ((a ≡ x) × (b ≡ true))) → IsLowest P least → IsLowest Q (lowest_by b a least)
by_step P Q true a least q to from h = lower_least P Q a least (q refl) to (λ x r. elim (from x r) [ inl p ↦ inl p | inr e ↦ inr e.0 ]) h
by_step P Q false a least q to from h = lowest_same P Q least to (λ x r. elim (from x r) [ inl p ↦ p | inr e ↦ absurd (true≢false (sym e.1)) ]) h

-- an address of these that has a fault
abbrev pub IsRefusedIn : Bytes → List ℕ → ℕ → Type 0
IsRefusedIn code addrs x = Contains addrs x × (is_refused (look true code x) ≡ true)

pub lowest_all : (code : Bytes) (addrs : List ℕ) (P Q : ℕ → Type 0) (least : Option ℕ) → ((x : ℕ) → P x → Q x) → ((x : ℕ) → IsRefusedIn code addrs x → Q x) → ((x : ℕ) → Q x → P x ⊎ IsRefusedIn code addrs x)
    → IsLowest P least → IsLowest Q (lowest code addrs least)
lowest_all code [] P Q least to add from h = lowest_same P Q least to (λ x q. elim (from x q) [ inl p ↦ p | inr c ↦ absurd (omega (arith, c.0.1)) ]) h
lowest_all code (a ∷ addrs) P Q least to add from h =
    lowest_all code addrs M Q (lowest_with code a least)
    (λ x m. elim m [ inl p ↦ to x p | inr e ↦ subst Q e.0 (add a (first_in a addrs, e.1)) ])
    (λ x c. add x (later_in a addrs x c.0, c.1))
    (λ x q. elim (from x q) [
      | inl p ↦ inl (inl p)
      | inr c ↦ elim (front_cases a addrs x c.0) [ inl e ↦ inl (inr (e, subst (λ (z : ℕ). is_refused (look true code z) ≡ true) (sym e) c.1)) | inr d ↦ inr (d, c.1) ]
    ])
    (by_step P M (is_refused (look true code a)) a least (λ t. inr (refl, t)) (λ x p. inl p) (λ x m. m) h)
  where
    M : ℕ → Type 0
    M x = P x ⊎ ((a ≡ x) × (is_refused (look true code a) ≡ true))
