-- A graph and a fault exclude each other, and there is one fault at most. Reached is what is in each set that has the entry
-- and is closed.
use Rattle.std.proofs.Common.{◌≡◌, ℕ, suc, ◌<◌, ◌↔◌, List, [], ◌∷◌, inl, inr, length, get_or, refl, sym, ◌∙◌, ap, subst, arith, Bool, true, false, cond, eqb, Some, Result, Ok, Err}
use Rattle.std.specs.List.{Contains}
use Rattle.std.proofs.lemmas.Bool.Decides.{eqb_tells, leb_tells}
use Rattle.rv_words.specs.Bytes.{Bytes}
use Rattle.rv_decode.specs.declared.instruction.Instr.{Instr}
use Rattle.flow_graph.specs.declared.outside.Outside.{Outside as Fault}
use Rattle.rvc.specs.Number.{number_in}
use Rattle.flow_graph.specs.Flow.{look, Next}
use Rattle.flow_graph.specs.Walks.{Stop, Leave, Reaches}
use Rattle.flow_graph.specs.Reach.{IsFault, Large, Least, reach_limit}
use Rattle.flow_graph.specs.Graph.{GraphOf, IsGraphOf, preds_of, succs_of}
use Rattle.flow_graph.proofs.Ways.{Contains-cons, place_of, way-join}
use Rattle.flow_graph.proofs.ReachSearch.{reach_few}
use Rattle.flow_graph.proofs.BuildLemmas.{at_same, both_same, ok_err}

-- the reached addresses are closed, and in each set that has the entry and is closed
pub reached_closed : (linked : Bool) (code : Bytes) (e a b : ℕ) → Reaches (Next linked code) e a → Next linked code a b → Reaches (Next linked code) e b
reached_closed linked code e a b w d = way-join w (Leave tt d Stop)

pub reached_least : (linked : Bool) (code : Bytes) (S : ℕ → Type 0) → ((a b : ℕ) → S a → Next linked code a b → S b) → {e a : ℕ} → Reaches (Next linked code) e a → S e → S a
reached_least linked code S closed Stop s = s
reached_least linked code S closed (Leave {a = a} {c = c} p d w) s = reached_least linked code S closed w (closed a c s d)

-- no address of a graph has a fault
pub graph_looks : (linked : Bool) (code : Bytes) (e : ℕ) (g : GraphOf) → IsGraphOf linked code e g → (n : ℕ) (i : Instr) → n < length g.addrs → look linked code (get_or g.addrs n 0) ≡ Ok (get_or g.instrs n i)
graph_looks linked code e g r n i l = at_same linked code g.instrs g.addrs n i r.instrs l

pub graph_numbers : (linked : Bool) (code : Bytes) (e : ℕ) (g : GraphOf) (n : ℕ) → IsGraphOf linked code e g → n < length g.addrs → number_in code (get_or g.addrs n 0) ≡ Some (get_or g.numbers n 0)
graph_numbers linked code e g n r l = both_same (λ w. Some w) (number_in code) g.numbers g.addrs n 0 r.numbers l

-- where there is a graph there is no fault
pub graph_or_fault : (linked : Bool) (code : Bytes) (e : ℕ) (g : GraphOf) (why : Fault) → IsGraphOf linked code e g → IsFault linked code e why → ⊥
graph_or_fault linked code e g _ r (Large o) = reach_few (Next linked code) e reach_limit g.addrs r.reach r.few o
graph_or_fault linked code e g why r (Least {a = a} n f) =
    let p = place_of g.addrs a (r.reach.all a f.reached) in
    let i : Instr = Rattle.rv_decode.specs.declared.instruction.Instr.TheVariants.Ecall in
    ok_err (get_or g.instrs p.0 i) why (sym (graph_looks linked code e g r p.0 i p.1) ∙ ap (look linked code) p.2 ∙ f.fault)

err_same : {A B : Type 0} (a b : B) (x : Result A B) → x ≡ Err a → x ≡ Err b → a ≡ b
err_same a b x e f = cc

-- one fault at most
pub one_fault : (linked : Bool) (code : Bytes) (e : ℕ) (x y : Fault) → IsFault linked code e x → IsFault linked code e y → x ≡ y
one_fault linked code e _ _ (Large o) (Large p) = refl
one_fault linked code e _ y (Large o) (Least n f) = absurd (n o)
one_fault linked code e x _ (Least n f) (Large p) = absurd (n p)
one_fault linked code e x y (Least {a = a} n f) (Least {a = b} m g) = elim (leb_tells b a) [
  | inr t ↦ absurd (g.least a f.reached t.1 x f.fault)
  | inl t ↦ elim (leb_tells a b) [
    | inr u ↦ absurd (f.least b g.reached u.1 y g.fault)
    | inl u ↦ (let same : a ≡ b = omega (arith, t.1, u.1) in err_same x y (look linked code a) f.fault (ap (look linked code) same ∙ g.fault))
  ]
]

-- an edge is in the list of the node that it leads to where it is in that of the node that it comes from
more : (t : Bool) (x : ℕ) (xs : List ℕ) (q : ℕ) → Contains xs q → Contains (cond t (x ∷ xs) xs) q
more true x xs q c = (suc c.0, omega (arith, c.1), c.2)
more false x xs q c = c

front : (t : Bool) (x : ℕ) (xs : List ℕ) (q : ℕ) → t ≡ true → x ≡ q → Contains (cond t (x ∷ xs) xs) q
front true x xs q t e = (0, omega arith, e)
front false x xs q t e = absurd (cc)

pub pred_succ : (es : List (ℕ × ℕ)) (u v : ℕ) → Contains (preds_of es v) u → Contains (succs_of es u) v
pred_succ [] u v c = absurd (omega (arith, c.1))
pred_succ (e ∷ es) u v c = elim (eqb_tells e.1 v) [
  | inr t ↦ more (eqb e.0 u) e.1 (succs_of es u) v (pred_succ es u v (subst (λ (b : Bool). Contains (cond b (e.0 ∷ preds_of es v) (preds_of es v)) u) t.0 c))
  | inl t ↦ elim (Contains-cons e.0 (preds_of es v) u (subst (λ (b : Bool). Contains (cond b (e.0 ∷ preds_of es v) (preds_of es v)) u) t.0 c)) [
    | inr d ↦ more (eqb e.0 u) e.1 (succs_of es u) v (pred_succ es u v d)
    | inl q ↦ front (eqb e.0 u) e.1 (succs_of es u) v (elim (eqb_tells e.0 u) [ inl s ↦ s.0 | inr s ↦ absurd (s.1 q) ]) t.1
  ]
]

pub succ_pred : (es : List (ℕ × ℕ)) (u v : ℕ) → Contains (succs_of es u) v → Contains (preds_of es v) u
succ_pred [] u v c = absurd (omega (arith, c.1))
succ_pred (e ∷ es) u v c = elim (eqb_tells e.0 u) [
  | inr t ↦ more (eqb e.1 v) e.0 (preds_of es v) u (succ_pred es u v (subst (λ (b : Bool). Contains (cond b (e.1 ∷ succs_of es u) (succs_of es u)) v) t.0 c))
  | inl t ↦ elim (Contains-cons e.1 (succs_of es u) v (subst (λ (b : Bool). Contains (cond b (e.1 ∷ succs_of es u) (succs_of es u)) v) t.0 c)) [
    | inr d ↦ more (eqb e.1 v) e.0 (preds_of es v) u (succ_pred es u v d)
    | inl q ↦ front (eqb e.1 v) e.0 (preds_of es v) u (elim (eqb_tells e.1 v) [ inl s ↦ s.0 | inr s ↦ absurd (s.1 q) ]) t.1
  ]
]

pub preds_iff : (es : List (ℕ × ℕ)) (v u : ℕ) → Contains (preds_of es v) u ↔ Contains (succs_of es u) v
preds_iff es v u = (pred_succ es u v, succ_pred es u v)
