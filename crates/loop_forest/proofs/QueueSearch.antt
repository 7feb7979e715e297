-- A search from a queue of nodes.
use Rattle.std.proofs.Common.{◌≡◌, ℕ, ◌+◌, ◌<◌, ◌≤◌, ◌≢◌, List, [], ◌∷◌, ◌++◌, ◌⊎◌, length, get_or, take, inl, inr, refl, sym, ◌∙◌, arith, subst, ap, length-append, Bool, false, true≢false, IsTrue, if◌then◌else◌, ◌↔◌}
use Rattle.std.specs.List.{Contains}
use Rattle.std.proofs.lemmas.Bool.{cases_eq}
use Rattle.std.proofs.lemmas.List.{get_or_append_left, take_more, take_all}
use Rattle.std.proofs.Math.Seq.{get_or-append_seam}
use Rattle.std.proofs.lemmas.List.Elements.{Contains-append_left, Contains-push, Contains-push_cases}
use Rattle.flow_graph.specs.Walks.{Way, Stop, Leave}
use Rattle.flow_graph.specs.Graph.{GraphOf, HasEdge}
use Rattle.loop_forest.specs.inner.Search.{ReachesOne, LeadsOn, FindsSources, Notes}
use Rattle.flow_graph.proofs.Ways.{place_of, node_at}
use Rattle.flow_graph.proofs.VisitedLemmas.{not_fresh}

-- each of xs but h is among the nodes
pub record AllNoted (h : ℕ) (xs nodes : List ℕ) : Type 0 where
  pub each : (x : ℕ) → Contains xs x → x ≢ h → Contains nodes x

-- the nodes before place i are done: each predecessor of one is among the nodes, or h
pub record Exploring (g : GraphOf) (targets : List ℕ) (h : ℕ) (nodes next_hop : List ℕ) (i : ℕ) : Type 0 where
  pub sound : (x : ℕ) → Contains nodes x → ReachesOne g targets h x
  pub within : (x : ℕ) → Contains nodes x → x < length g.addrs
  pub as_long : length next_hop ≡ length nodes
  pub onward : LeadsOn g targets nodes next_hop
  pub done : (k p : ℕ) → k < i → HasEdge g p (get_or nodes k 0) → p ≢ h → Contains nodes p
  pub upto : i ≤ length nodes

-- why a node goes in: it is a target, or has an edge to a node at an earlier place
abbrev pub Why : GraphOf → (targets nodes : List ℕ) → (y place : ℕ) → Type 0
Why g targets nodes y place = Contains targets y ⊎ ((place < length nodes) × HasEdge g y (get_or nodes place 0))

pub noted_after : {N T N' T' : List ℕ} {y place : ℕ} → Notes N T y place N' T' → Contains N' y
noted_after {N} {T} {N'} {T'} {y} n = elim n.noted [ inl a ↦ subst (λ (z : List ℕ). Contains z y) (sym a.1) a.0 | inr b ↦ subst (λ (z : List ℕ). Contains z y) (sym b.1) (Contains-push N y) ]

pub kept_after : {N T N' T' : List ℕ} {y place : ℕ} → Notes N T y place N' T' → (x : ℕ) → Contains N x → Contains N' x
kept_after {N} {T} {N'} {T'} {y} n x c = elim n.noted [ inl a ↦ subst (λ (z : List ℕ). Contains z x) (sym a.1) c | inr b ↦ subst (λ (z : List ℕ). Contains z x) (sym b.1) (Contains-append_left N (y ∷ []) x c) ]

pub all_noted_after : {N T N' T' : List ℕ} {y place : ℕ} → Notes N T y place N' T' → (h : ℕ) (xs : List ℕ) → AllNoted h xs N → AllNoted h xs N'
all_noted_after n h xs a = record { each = λ x c d. kept_after n x (a.each x c d) }

reaches_why : (g : GraphOf) (targets : List ℕ) (h : ℕ) (N : List ℕ) (y place : ℕ) → ((x : ℕ) → Contains N x → ReachesOne g targets h x) → y ≢ h → Why g targets N y place → ReachesOne g targets h y
reaches_why g targets h N y place sound n (inl c) = record { target = y; among = c; reaches = record { way = Stop; last = n } }
reaches_why g targets h N y place sound n (inr d) =
    let r = sound (get_or N place 0) (node_at N place d.0) in
    record { target = r.target; among = r.among; reaches = record { way = Leave n d.1 r.reaches.way; last = r.reaches.last } }

pub exploring_after : (g : GraphOf) (targets : List ℕ) (h : ℕ) (N T : List ℕ) (i : ℕ) (y place : ℕ) (N' T' : List ℕ)
    → Exploring g targets h N T i → Notes N T y place N' T' → y ≢ h → y < length g.addrs → Why g targets N y place → Exploring g targets h N' T' i
exploring_after g targets h N T i y place N' T' ex n differ below why =
    elim n.noted [
      | inl a ↦ subst (λ (z : List ℕ). Exploring g targets h z T' i) (sym a.1) (subst (λ (z : List ℕ). Exploring g targets h N z i) (sym a.2) ex)
      | inr b ↦ subst (λ (z : List ℕ). Exploring g targets h z T' i) (sym b.1) (subst (λ (z : List ℕ). Exploring g targets h (N ++ y ∷ []) z i) (sym b.2) pushed)
    ]
  where
    longer : length (N ++ y ∷ []) ≡ length N + 1
    longer = length-append N (y ∷ [])

    longer_t : length (T ++ place ∷ []) ≡ length T + 1
    longer_t = length-append T (place ∷ [])

    left : (k : ℕ) → k < length N → get_or (N ++ y ∷ []) k 0 ≡ get_or N k 0
    left k l = get_or_append_left N (y ∷ []) 0 k l

    left_t : (k : ℕ) → k < length T → get_or (T ++ place ∷ []) k 0 ≡ get_or T k 0
    left_t k l = get_or_append_left T (place ∷ []) 0 k l

    last : get_or (N ++ y ∷ []) (length N) 0 ≡ y
    last = get_or-append_seam N y [] 0

    last_t : get_or (T ++ place ∷ []) (length N) 0 ≡ place
    last_t = ap (λ m. get_or (T ++ place ∷ []) m 0) (sym ex.as_long) ∙ get_or-append_seam T place [] 0

    earlier : (k : ℕ) → k < length N → Contains targets (get_or (N ++ y ∷ []) k 0) ⊎ ((get_or (T ++ place ∷ []) k 0 < k) × HasEdge g (get_or (N ++ y ∷ []) k 0) (get_or (N ++ y ∷ []) (get_or (T ++ place ∷ []) k 0) 0))
    earlier k l = rw (left k l, left_t k (omega (arith, ex.as_long)))
        (elim (ex.onward k l) [ inl c ↦ inl c | inr d ↦ inr (d.0, subst (λ (z : ℕ). HasEdge g (get_or N k 0) z) (sym (left (get_or T k 0) (omega (arith, d.0)))) d.1) ])

    at_end : (k : ℕ) → k ≡ length N → Why g targets N y place → Contains targets (get_or (N ++ y ∷ []) k 0) ⊎ ((get_or (T ++ place ∷ []) k 0 < k) × HasEdge g (get_or (N ++ y ∷ []) k 0) (get_or (N ++ y ∷ []) (get_or (T ++ place ∷ []) k 0) 0))
    at_end k e w = rw (e, last, last_t)
        (elim w [ inl c ↦ inl c | inr d ↦ inr (d.0, subst (λ (z : ℕ). HasEdge g y z) (sym (left place d.0)) d.1) ])

    onward : LeadsOn g targets (N ++ y ∷ []) (T ++ place ∷ [])
    onward k l = elim (cases_eq k (length N)) [ inr m ↦ earlier k (omega (arith, longer)) | inl e ↦ at_end k e why ]

    pushed : Exploring g targets h (N ++ y ∷ []) (T ++ place ∷ []) i
    pushed = record {
      sound = λ x c. elim (Contains-push_cases N y x c) [ inl d ↦ ex.sound x d | inr e ↦ subst (λ (z : ℕ). ReachesOne g targets h z) e (reaches_why g targets h N y place ex.sound differ why) ];
      within = λ x c. elim (Contains-push_cases N y x c) [ inl d ↦ ex.within x d | inr e ↦ subst (λ (z : ℕ). z < length g.addrs) e below ];
      as_long = omega (arith, ex.as_long, longer, longer_t);
      onward = onward;
      done = λ k p l d m. Contains-append_left N (y ∷ []) p (ex.done k p l (subst (λ (z : ℕ). HasEdge g p z) (left k (omega (arith, ex.upto))) d) m);
      upto = omega (arith, ex.upto, longer);
    }

pub exploring_none : (g : GraphOf) (targets : List ℕ) (h : ℕ) → Exploring g targets h [] [] 0
exploring_none g targets h = record {
  sound = λ x c. absurd (omega (arith, c.1));
  within = λ x c. absurd (omega (arith, c.1));
  as_long = refl;
  onward = λ k l. absurd (omega arith);
  done = λ k p l d m. absurd (omega arith);
  upto = omega arith;
}

-- one more of xs is among the nodes, or is h
pub all_noted_more : (h : ℕ) (xs N : List ℕ) (i : ℕ) → i < length xs → AllNoted h (take i xs) N → (get_or xs i 0 ≢ h → Contains N (get_or xs i 0)) → AllNoted h (take (i + 1) xs) N
all_noted_more h xs N i l a c = record {
  each = λ x d n.
      elim (Contains-push_cases (take i xs) (get_or xs i 0) x (subst (λ (z : List ℕ). Contains z x) (take_more xs i 0 l) d)) [
        | inl b ↦ a.each x b n
        | inr e ↦ subst (λ (z : ℕ). Contains N z) e (c (λ q. n (sym e ∙ q)))
      ];
}

-- after each predecessor of the node at place i is among the nodes, it is done
pub exploring_next : (g : GraphOf) (targets : List ℕ) (h : ℕ) (N T : List ℕ) (i : ℕ) (ps : List ℕ) → Exploring g targets h N T i → i < length N
    → ((u : ℕ) → HasEdge g u (get_or N i 0) → Contains ps u) → AllNoted h ps N → Exploring g targets h N T (i + 1)
exploring_next g targets h N T i ps ex l all a = record {
  sound = ex.sound;
  within = ex.within;
  as_long = ex.as_long;
  onward = ex.onward;
  done = λ k p m d n. elim (cases_eq k i) [ inl e ↦ a.each p (all p (subst (λ (z : ℕ). HasEdge g p (get_or N z 0)) e d)) n | inr f ↦ ex.done k p (omega arith) d n ];
  upto = omega arith;
}

-- a node from which a noted node is reached is noted
closed_backward : (g : GraphOf) (targets : List ℕ) (h : ℕ) (N T : List ℕ) → Exploring g targets h N T (length N) → {x y : ℕ} → Way (HasEdge g) (λ n. n ≢ h) x y → Contains N y → Contains N x
closed_backward g targets h N T ex Stop c = c
closed_backward g targets h N T ex (Leave {a = a} {c = b} n e w) c =
    let p = place_of N b (closed_backward g targets h N T ex w c) in
    ex.done p.0 a p.1 (subst (λ (z : ℕ). HasEdge g a z) (sym p.2) e) n

pub exploring_end : (g : GraphOf) (targets : List ℕ) (h : ℕ) (N T : List ℕ) (i : ℕ) → Exploring g targets h N T i → length N ≤ i → AllNoted h targets N → FindsSources g targets h N T
exploring_end g targets h N T i ex l a =
    let e : i ≡ length N = omega (arith, ex.upto) in
    record {
      sound = ex.sound;
      complete = λ x r. closed_backward g targets h N T (subst (λ (z : ℕ). Exploring g targets h N T z) e ex) r.reaches.way (a.each r.target r.among r.reaches.last);
      within = ex.within;
      as_long = ex.as_long;
      onward = ex.onward;
    }

pub all_noted : (h : ℕ) (xs N : List ℕ) (i : ℕ) → length xs ≤ i → AllNoted h (take i xs) N → AllNoted h xs N
all_noted h xs N i l a = record { each = λ x c n. a.each x (subst (λ (z : List ℕ). Contains z x) (sym (take_all i xs l)) c) n }

pub notes_old : (N T : List ℕ) (x place y : ℕ) → y ≡ x → (b : Bool) → IsTrue b ↔ (Contains N y → ⊥) → b ≡ false → (N' : List ℕ) → N' ≡ (if b then N ++ y ∷ [] else N) → Notes N T x place N' T
notes_old N T x place y e b fresh old N' added =
    record { noted = inl (subst (λ (z : ℕ). Contains N z) e (not_fresh N y (λ n. true≢false (sym (fresh.1 n) ∙ old))), added ∙ ap (λ t. if t then N ++ y ∷ [] else N) old, refl) }

-- the nodes that are there keep their places
pub place_after : {N T N' T' : List ℕ} {y place : ℕ} → Notes N T y place N' T' → (k : ℕ) → k < length N → (k < length N') × (get_or N' k 0 ≡ get_or N k 0)
place_after {N} {T} {N'} {T'} {y} n k l =
    elim n.noted [
      | inl a ↦ (subst (λ (z : List ℕ). k < length z) (sym a.1) l, ap (λ z. get_or z k 0) a.1)
      | inr b ↦ (subst (λ (z : List ℕ). k < length z) (sym b.1) (omega (arith, length-append N (y ∷ []))), ap (λ z. get_or z k 0) b.1 ∙ get_or_append_left N (y ∷ []) 0 k l)
    ]
