-- Lists linked by index.
use Rattle.std.proofs.Common.{replicate, Bool, true, false, ◌≡◌, ℕ, zero, suc, ◌+◌, ◌<◌, ◌≤◌, List, [], ◌∷◌, ◌++◌, Option, None, Some, length, map, inl, inr, refl, sym, ◌∙◌, arith, subst, ap, length-append, eqb, if◌then◌else◌, get_or-set_same, get_or-set_other}
use Rattle.std.proofs.lemmas.Bool.{cases_eq}
use Rattle.std.proofs.lemmas.Bool.Decides.{eqb_tells}
use Rattle.std.proofs.lemmas.List.{get_or_append_left, map-append, length-set}
use Rattle.std.proofs.Math.Seq.{get_or-append_seam}
use Rattle.std.proofs.Math.ListN.{set}
use Rattle.std.specs.Prelude.{reverse}
use Rattle.std.proofs.lemmas.List.{reverse-append}
use Rattle.flow_graph.specs.Graph.{succs_of, preds_of}
use Rattle.flow_graph.specs.inner.Linked.{pair_of, pairs_of, no_edge, edge_at, next_of, end_of, follow, IsBelow, Falls, first_at, Begins, AreLinked}
use Rattle.flow_graph.specs.declared.links.Edge.{Edge}
use Rattle.flow_graph.specs.declared.links.Side.{Side}
use Rattle.flow_graph.specs.declared.links.Side.TheVariants.{Out, In}

pub below_more : (n m : ℕ) (at : Option ℕ) → n ≤ m → IsBelow n at → IsBelow m at
below_more n m None l b = tt
below_more n m (Some k) l b = omega arith

-- more steps than links give nothing more
pub follow_more : (s : Side) (es : List Edge) → Falls s es → (n m : ℕ) (at : Option ℕ) → n ≤ m → n ≤ length es → IsBelow n at → follow s es n at ≡ follow s es m at
follow_more s es f zero zero at l w b = refl
follow_more s es f zero (suc m) None l w b = refl
follow_more s es f zero (suc m) (Some k) l w b = absurd (omega arith)
follow_more s es f (suc n) zero at l w b = absurd (omega arith)
follow_more s es f (suc n) (suc m) None l w b = refl
follow_more s es f (suc n) (suc m) (Some k) l w b =
    ap (λ xs. end_of s (edge_at es k) ∷ xs) (follow_more s es f n m (next_of s (edge_at es k)) (omega arith) (omega arith) (below_more k n (next_of s (edge_at es k)) (omega arith) (f.down k (omega arith))))

-- one step
pub follow_step : (s : Side) (es : List Edge) → Falls s es → (k n : ℕ) → n ≡ length es → k < n → follow s es n (Some k) ≡ end_of s (edge_at es k) ∷ follow s es n (next_of s (edge_at es k))
follow_step s es f k zero e l = absurd (omega arith)
follow_step s es f k (suc n) e l =
    ap (λ xs. end_of s (edge_at es k) ∷ xs) (follow_more s es f n (suc n) (next_of s (edge_at es k)) (omega arith) (omega arith) (below_more k n (next_of s (edge_at es k)) (omega arith) (f.down k (omega arith))))

pub step_of : (s : Side) (es : List Edge) (at : Option ℕ) (k : ℕ) (now : List ℕ) → at ≡ Some k → Falls s es → IsBelow (length es) at → follow s es (length es) at ≡ now
    → now ≡ end_of s (edge_at es k) ∷ follow s es (length es) (next_of s (edge_at es k))
step_of s es at k now e f b v = sym v ∙ ap (follow s es (length es)) e ∙ follow_step s es f k (length es) refl (subst (λ (a : Option ℕ). IsBelow (length es) a) e b)

-- a later edge changes no list of earlier ones
follow_append : (s : Side) (es : List Edge) (e : Edge) → Falls s es → (n : ℕ) (at : Option ℕ) → IsBelow (length es) at → follow s (es ++ e ∷ []) n at ≡ follow s es n at
follow_append s es e f zero at b = refl
follow_append s es e f (suc n) None b = refl
follow_append s es e f (suc n) (Some k) b =
    let same : edge_at (es ++ e ∷ []) k ≡ edge_at es k = get_or_append_left es (e ∷ []) no_edge k b in
    (λ i. end_of s (same i) ∷ follow s (es ++ e ∷ []) n (next_of s (same i)))
    ∙ ap (λ xs. end_of s (edge_at es k) ∷ xs) (follow_append s es e f n (next_of s (edge_at es k)) (below_more k (length es) (next_of s (edge_at es k)) (omega arith) (f.down k b)))

pub falls_push : (s : Side) (es : List Edge) (e : Edge) → Falls s es → IsBelow (length es) (next_of s e) → Falls s (es ++ e ∷ [])
falls_push s es e f b = record {
  down = λ k h.
      let n : length (es ++ e ∷ []) ≡ length es + 1 = length-append es (e ∷ []) in
      elim (cases_eq k (length es)) [
        | inl q ↦
            let at : edge_at (es ++ e ∷ []) k ≡ e = ap (λ j. edge_at (es ++ e ∷ []) j) q ∙ get_or-append_seam es e [] no_edge in
            subst (λ (z : Edge). IsBelow k (next_of s z)) (sym at) (subst (λ (j : ℕ). IsBelow j (next_of s e)) (sym q) b)
        | inr o ↦
            let same : edge_at (es ++ e ∷ []) k ≡ edge_at es k = get_or_append_left es (e ∷ []) no_edge k (omega arith) in
            subst (λ (z : Edge). IsBelow k (next_of s z)) (sym same) (f.down k (omega arith))
      ];
}

-- the list that begins with the new edge, and each other list
pub follow_new : (s : Side) (es : List Edge) (e : Edge) → Falls s es → IsBelow (length es) (next_of s e) → follow s (es ++ e ∷ []) (length (es ++ e ∷ [])) (Some (length es)) ≡ end_of s e ∷ follow s es (length es) (next_of s e)
follow_new s es e f b =
    let n : length (es ++ e ∷ []) ≡ suc (length es) = (let m : length (es ++ e ∷ []) ≡ length es + 1 = length-append es (e ∷ []) in omega arith) in
    let at : edge_at (es ++ e ∷ []) (length es) ≡ e = get_or-append_seam es e [] no_edge in
    ap (λ k. follow s (es ++ e ∷ []) k (Some (length es))) n
    ∙ (λ i. end_of s (at i) ∷ follow s (es ++ e ∷ []) (length es) (next_of s (at i)))
    ∙ ap (λ xs. end_of s e ∷ xs) (follow_append s es e f (length es) (next_of s e) b)

pub follow_old : (s : Side) (es : List Edge) (e : Edge) → Falls s es → (at : Option ℕ) → IsBelow (length es) at → follow s (es ++ e ∷ []) (length (es ++ e ∷ [])) at ≡ follow s es (length es) at
follow_old s es e f at b =
    let n : length (es ++ e ∷ []) ≡ length es + 1 = length-append es (e ∷ []) in
    follow_append s es e f (length (es ++ e ∷ [])) at b ∙ sym (follow_more s es f (length es) (length (es ++ e ∷ [])) at (omega arith) (omega arith) b)

pub pairs_push : (es : List Edge) (e : Edge) → pairs_of (es ++ e ∷ []) ≡ pair_of e ∷ pairs_of es
pairs_push es e = ap reverse (map-append pair_of es (e ∷ [])) ∙ reverse-append (map pair_of es) (pair_of e ∷ [])

front_if : (b : Bool) (x : ℕ) (xs : List ℕ) → (if b then x ∷ xs else xs) ≡ (if b then x ∷ [] else []) ++ xs
front_if true x xs = refl
front_if false x xs = refl

pub begins_push : (s : Side) (firsts : List (Option ℕ)) (es : List Edge) (lists after : ℕ → List ℕ) (e : Edge) (k : ℕ) → Begins s firsts es lists → k < length firsts → next_of s e ≡ first_at firsts k
    → ((n : ℕ) → after n ≡ (if eqb k n then end_of s e ∷ [] else []) ++ lists n) → Begins s (set firsts k (Some (length es))) (es ++ e ∷ []) after
begins_push s firsts es lists after e k b l next is =
    let longer : length (es ++ e ∷ []) ≡ length es + 1 = length-append es (e ∷ []) in
    let next_below : IsBelow (length es) (next_of s e) = subst (λ (z : Option ℕ). IsBelow (length es) z) (sym next) (b.below k) in
    let m : Option ℕ = Some (length es) in
    record {
      falls = falls_push s es e b.falls next_below;
      below = λ n. elim (cases_eq n k) [
        | inl q ↦ subst (λ (z : Option ℕ). IsBelow (length (es ++ e ∷ [])) z) (sym (ap (first_at (set firsts k m)) q ∙ get_or-set_same firsts k m None l)) (omega arith)
        | inr o ↦ subst (λ (z : Option ℕ). IsBelow (length (es ++ e ∷ [])) z) (sym (get_or-set_other firsts k n m None o)) (below_more (length es) (length (es ++ e ∷ [])) (first_at firsts n) (omega arith) (b.below n))
      ];
      list = λ n. elim (eqb_tells k n) [
        | inl q ↦
            ap (λ z. follow s (es ++ e ∷ []) (length (es ++ e ∷ [])) (first_at (set firsts k m) z)) (sym q.1)
            ∙ ap (follow s (es ++ e ∷ []) (length (es ++ e ∷ []))) (get_or-set_same firsts k m None l)
            ∙ follow_new s es e b.falls next_below
            ∙ ap (λ z. end_of s e ∷ follow s es (length es) z) next
            ∙ ap (λ xs. end_of s e ∷ xs) (b.list k ∙ ap lists q.1)
            ∙ sym (is n ∙ ap (λ t. (if t then end_of s e ∷ [] else []) ++ lists n) q.0)
        | inr o ↦
            ap (follow s (es ++ e ∷ []) (length (es ++ e ∷ []))) (get_or-set_other firsts k n m None (λ q. o.1 (sym q)))
            ∙ follow_old s es e b.falls (first_at firsts n) (b.below n)
            ∙ b.list n
            ∙ sym (is n ∙ ap (λ t. (if t then end_of s e ∷ [] else []) ++ lists n) o.0)
      ];
    }

pub linked_add : (fo fi : List (Option ℕ)) (es : List Edge) (e : Edge) → AreLinked fo fi es → e.from < length fo → e.to < length fo → e.next_out ≡ first_at fo e.from → e.next_in ≡ first_at fi e.to
    → AreLinked (set fo e.from (Some (length es))) (set fi e.to (Some (length es))) (es ++ e ∷ [])
linked_add fo fi es e a from to out into = record {
  out = begins_push Out fo es (succs_of (pairs_of es)) (succs_of (pairs_of (es ++ e ∷ []))) e e.from a.out from out (λ n. ap (λ z. succs_of z n) (pairs_push es e) ∙ front_if (eqb e.from n) e.to (succs_of (pairs_of es) n));
  into = begins_push In fi es (preds_of (pairs_of es)) (preds_of (pairs_of (es ++ e ∷ []))) e e.to a.into (omega (arith, a.as_long)) into (λ n. ap (λ z. preds_of z n) (pairs_push es e) ∙ front_if (eqb e.to n) e.from (preds_of (pairs_of es) n));
  as_long = length-set fi e.to (Some (length es)) ∙ a.as_long ∙ sym (length-set fo e.from (Some (length es)));
}

none_at : (n k : ℕ) → first_at (replicate n None) k ≡ None
none_at zero k = refl
none_at (suc n) zero = refl
none_at (suc n) (suc k) = none_at n k

begins_start : (s : Side) (n : ℕ) → Begins s (replicate n None) [] (λ k. [])
begins_start s n = record {
  falls = record { down = λ k l. absurd (omega arith) };
  below = λ k. subst (λ (z : Option ℕ). IsBelow 0 z) (sym (none_at n k)) tt;
  list = λ k. refl;
}

pub linked_start : (n : ℕ) → AreLinked (replicate n None) (replicate n None) []
linked_start n = record { out = begins_start Out n; into = begins_start In n; as_long = refl }
