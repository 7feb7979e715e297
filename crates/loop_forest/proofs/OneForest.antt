-- A graph has a forest or a fault, and not both.
use Rattle.std.proofs.Common.{◌≡◌, ℕ, ◌<◌, ◌≤◌, length, get_or, inl, inr, sym, ◌∙◌, ap, subst, arith}
use Rattle.std.specs.List.{Contains}
use Rattle.std.proofs.lemmas.Bool.Decides.{leb_tells}
use Rattle.std.proofs.lemmas.Map.Made.{length-le_from_is_member}
use Rattle.std.proofs.lemmas.Map.Views.{Contains-from_any, list_any-from_Contains, exact_unsigned_eq}
use Rattle.std.proofs.lemmas.Cmp.{nat_eq_equiv}
use Rattle.flow_graph.specs.Graph.{GraphOf, HasEdge}
use Rattle.flow_graph.proofs.Ways.{place_of}
use Rattle.loop_forest.specs.Loops.{IsExit}
use Rattle.loop_forest.specs.Regions.{ExitsOver, loop_exit_limit}
use Rattle.loop_forest.specs.Forest.{ForestOf, IsForestOf, IsMany, exits_of}
use Rattle.loop_forest.proofs.FoundLemmas.{different_distinct}

pub no_many : (g : GraphOf) (f : ForestOf) (a : ℕ) → IsForestOf g f → IsMany g a → ⊥
no_many g f a is m =
    let p = place_of f.heads m.head ((is.heads m.head).1 m.many.head) in
    let o : ExitsOver (HasEdge g) g.entry m.head loop_exit_limit = m.many.over in
    let among = λ (x : ℕ) (c : Contains o.some x). (is.exits p.0 x p.1).1 (subst (λ (z : ℕ). IsExit (HasEdge g) g.entry z x) (sym p.2) (o.exits x c)) in
    let le : length o.some ≤ length (exits_of f p.0) = length-le_from_is_member nat_eq_equiv o.some (exits_of f p.0) (different_distinct o.some o.different)
    (λ q h. list_any-from_Contains nat_eq_equiv q (exits_of f p.0) (among q (Contains-from_any exact_unsigned_eq q o.some h))) in
    let over : loop_exit_limit < length o.some = o.over in
    let few : length (exits_of f p.0) ≤ loop_exit_limit = is.few p.0 p.1 in
    omega (arith, le, over, few)

pub one_head : (g : GraphOf) (a b : ℕ) → IsMany g a → IsMany g b → a ≡ b
one_head g a b m n = elim (leb_tells m.head n.head) [
  | inr t ↦ absurd (m.many.least n.head t.1 n.many.head n.many.over)
  | inl t ↦ elim (leb_tells n.head m.head) [
    | inr u ↦ absurd (n.many.least m.head u.1 m.many.head m.many.over)
    | inl u ↦ (let same : m.head ≡ n.head = omega (arith, t.1, u.1) in sym m.at ∙ ap (λ k. get_or g.addrs k 0) same ∙ n.at)
  ]
]
