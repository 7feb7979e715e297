-- The places of constants and variables when a node is added.
use Rattle.std.proofs.Common.{◌≡◌, ℕ, ◌+◌, ◌<◌, List, [], ◌∷◌, ◌++◌, Some, length, get_or, set, replicate, ap, sym, ◌∙◌, inl, inr, arith, get_or-set_other, get_or-set_same}
use Rattle.std.specs.Prelude.{slice_get}
use Rattle.std.proofs.lemmas.Bool.{cases_eq}
use Rattle.term_arena.specs.declared.node.Node.{Node}
use Rattle.term_arena.specs.inner.Chains.{IsPlaced}
use Rattle.term_arena.proofs.Places.{at-append, at-push}
use Rattle.term_arena.proofs.ChainLemmas.{zeros_at}

-- no place is written yet
pub placed_none : (of : ℕ → Node) (count : ℕ) → IsPlaced of [] (replicate count 0)
placed_none of count = record { at = λ i k e. let z = zeros_at count i in absurd (omega (arith, sym z ∙ e)) }

-- a node for which no place is written
pub placed_more : (of : ℕ → Node) (ns : List Node) (n : Node) (places : List ℕ) → IsPlaced of ns places → IsPlaced of (ns ++ n ∷ []) places
placed_more of ns n places p = record { at = λ i k e. at-append ns (n ∷ []) k (of i) (p.at i k e) }

-- the place of the node is written
pub placed_set : (of : ℕ → Node) (ns : List Node) (places : List ℕ) (i link : ℕ) → IsPlaced of ns places → i < length places → link ≡ length ns + 1
    → IsPlaced of (ns ++ of i ∷ []) (set places i link)
placed_set of ns places i link p low is = record {
  at = λ j k e. elim (cases_eq j i) [
    | inl h ↦
        let same : link ≡ k + 1 = sym (get_or-set_same places i link 0 low) ∙ ap (λ m. get_or (set places i link) m 0) (sym h) ∙ e in
        let last : k ≡ length ns = omega (arith, same, is) in
        ap (λ m. slice_get (ns ++ of i ∷ []) m) last ∙ at-push ns (of i) ∙ ap (λ m. Some (of m)) (sym h)
    | inr h ↦ at-append ns (of i ∷ []) k (of j) (p.at j k (sym (get_or-set_other places i j link 0 h) ∙ e))
  ];
}
