-- Ranks and functions are made one by one.
use Rattle.std.proofs.Common.{◌≡◌, ℕ, ◌+◌, ◌<◌, true, List, [], ◌∷◌, ◌++◌, length, get_or, inl, inr, refl, sym, ◌∙◌, arith, subst, Result, Ok, Err}
use Rattle.std.specs.Result.{IfErr, IsErrAnd}
use Rattle.std.proofs.lemmas.Bool.{cases_eq}
use Rattle.std.proofs.lemmas.List.{get_or_append_left, get_or_push, length_push, map_push, take_more}
use Rattle.std.proofs.lemmas.List.Elements.{All-nil, All-push}
use Rattle.rv_words.specs.Bytes.{Bytes}
use Rattle.flow_graph.specs.Graph.{IsGraphOf}
use Rattle.loop_forest.specs.Forest.{IsForestOf}
use Rattle.code_parts.specs.inner.Finding.{AreMade, AreRanks, HasFlow, IsRanked}
use Rattle.code_parts.specs.declared.call_fault.CallGraphFault.{CallGraphFault}
use Rattle.code_parts.specs.declared.linked_function.Function.{Function}

pub ranks_none : (code : Bytes) (entries : List ℕ) → AreRanks code entries [] 0
ranks_none code entries = record { as_many = refl; each = λ k l. absurd (omega arith) }

pub ranks_more : (code : Bytes) (entries ranks : List ℕ) (i n : ℕ) → AreRanks code entries ranks i → IsRanked code (get_or entries i 0) n → AreRanks code entries (ranks ++ n ∷ []) (i + 1)
ranks_more code entries ranks i n r h = record {
  as_many = omega (arith, length_push ranks n, r.as_many);
  each = λ k l. elim (cases_eq k i) [
    | inl q ↦ subst (λ (z : ℕ). IsRanked code (get_or entries z 0) (get_or (ranks ++ n ∷ []) z 0)) (sym q) (subst (λ (z : ℕ). IsRanked code (get_or entries i 0) z) (sym (get_or_push ranks n 0 i r.as_many)) h)
    | inr m ↦ subst (λ (z : ℕ). IsRanked code (get_or entries k 0) z) (sym (get_or_append_left ranks (n ∷ []) 0 k (omega (arith, r.as_many)))) (r.each k (omega arith))
  ];
}

pub made_none : (code : Bytes) (entries ranks : List ℕ) → AreMade code entries ranks [] 0
made_none code entries ranks = record { as_many = refl; entered = refl; ranked = refl; each = All-nil (HasFlow code) }

pub made_more : (code : Bytes) (entries ranks : List ℕ) (fs : List Function) (i : ℕ) (f : Function) → AreMade code entries ranks fs i → i < length entries → length ranks ≡ length entries
    → f.entry ≡ get_or entries i 0 → f.rank ≡ get_or ranks i 0 → IsGraphOf true code (get_or entries i 0) f.graph → IsForestOf f.graph f.forest → AreMade code entries ranks (fs ++ f ∷ []) (i + 1)
made_more code entries ranks fs i f m l long entry rank graph forest = record {
  as_many = omega (arith, length_push fs f, m.as_many);
  entered = map_push (λ z. z.entry) fs f ∙ (λ j. m.entered j ++ entry j ∷ []) ∙ sym (take_more entries i 0 l);
  ranked = map_push (λ z. z.rank) fs f ∙ (λ j. m.ranked j ++ rank j ∷ []) ∙ sym (take_more ranks i 0 (omega arith));
  each = All-push (HasFlow code) fs f m.each (record { graph = subst (λ (z : ℕ). IsGraphOf true code z f.graph) (sym entry) graph; forest = forest });
}

-- the exit of a `?`
pub exit_by : {X : Type 0} (r : Result X CallGraphFault) (e : CallGraphFault) (Q : CallGraphFault → Type 0) → IsErrAnd r (λ y. y ≡ e) → Q e → IfErr r Q
exit_by (Ok x) e Q is q = tt
exit_by (Err y) e Q is q = subst Q (sym is) q
