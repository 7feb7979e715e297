-- The value of an application is told.
use Rattle.std.proofs.Common.{◌≡◌, ℕ, true, List, [], ◌∷◌, map, cond, Option, Some, None, option_map, sym, ap, subst, ◌∙◌}
use Rattle.std.specs.Prelude.{unwrap_or}
use Rattle.std.specs.List.{AllByRecursion}
use Rattle.smt_terms.specs.declared.sort.Sort.{Sort}
use Rattle.smt_terms.specs.Operators.{Value, unsorted}
use Rattle.smt_terms.specs.Meaning.{FunTree, no_names, fun_value, functions_after}
use Rattle.smt_terms.specs.Sorts.{IsFun, IsParam, Rules, is_sort, rule_of}
use Rattle.smt_terms.specs.declared.datum.Datum.{Datum}
use Rattle.smt_terms.specs.declared.smt.Smt.{Smt}
use Rattle.smt_terms.specs.Values.{IsOfSort, smt_value_at, values_at, TellsOf, TellsValue}
use Rattle.smt_terms.specs.inner.Datum.{sort_of_datum, sorted, meaning, StandsFor}
use Rattle.smt_terms.specs.inner.Finding.{IsFound, IsMissing}
use Rattle.smt_terms.specs.inner.Taking.{TakesAll}

params-sorts : (ps : List (List ℕ × Sort)) → AllByRecursion IsParam ps → AllByRecursion (λ p. is_sort p.1 ≡ true) ps
params-sorts [] are = tt
params-sorts (p ∷ ps) are = (are.0.1, params-sorts ps are.1)

-- parameters are of sorts
pub sorts_of_params : (fs : Rules) (f : FunTree) → IsFun fs f → AllByRecursion (λ p. is_sort p.1 ≡ true) f.params
sorts_of_params fs f is = params-sorts f.params is.params

pub value_missing : (funs : List FunTree) (name : List ℕ) (inputs : List Smt) → IsMissing funs name → TellsValue funs name inputs None
value_missing funs name inputs h = subst (λ (o : Option FunTree). TellsOf o funs name inputs None) (sym h.named) tt

pub value_unfit : (funs : List FunTree) (name : List ℕ) (inputs : List Smt) (before : List FunTree) (f : FunTree) → IsFound funs name before f → TakesAll f.params inputs None → TellsValue funs name inputs None
value_unfit funs name inputs before f h t = subst (λ (o : Option FunTree). TellsOf o funs name inputs None) (sym h.named) t

pub value_told : (funs : List FunTree) (name : List ℕ) (inputs : List Smt) (before : List FunTree) (f : FunTree) (ds : List Datum) (d : Datum) (x : Smt) → IsFound funs name before f → TakesAll f.params inputs (Some ds)
    → StandsFor (rule_of f (map sorted ds)) (fun_value (functions_after no_names before) f (map meaning ds)) d → IsOfSort (sort_of_datum d) x → smt_value_at (sort_of_datum d) x ≡ meaning d → TellsValue funs name inputs (Some x)
value_told funs name inputs before f ds d x h takes stands of same =
    let t = stands f.sort (λ j. cond (takes.1 j) (Some f.sort) None) in
    let value : smt_value_at f.sort x ≡ unwrap_or (option_map (λ (g : List Value → Value). g (values_at f.params inputs)) (functions_after no_names funs name)) unsorted =
    (λ j. smt_value_at (sym t.0 j) x) ∙ same ∙ t.1 ∙ ap (fun_value (functions_after no_names before) f) takes.2
    ∙ sym (λ j. unwrap_or (option_map (λ (g : List Value → Value). g (values_at f.params inputs)) (h.value j)) unsorted) in
    subst (λ (o : Option FunTree). TellsOf o funs name inputs (Some x)) (sym h.named) (takes.0, subst (λ (s : Sort). IsOfSort s x) t.0 of, value)
