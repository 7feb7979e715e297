-- Functions by their names, looked for from the last one on.
use Rattle.std.proofs.Common.{◌≡◌, ℕ, ◌+◌, ◌≤◌, ◌<◌, Bool, true, false, cond, List, [], ◌∷◌, ◌++◌, length, get_or, map, take, drop, Some, refl, sym, ap, subst, ◌∙◌, arith}
use Rattle.std.specs.Str.{bytes_eq}
use Rattle.std.proofs.lemmas.List.{take_more, take-append-drop, take_all, map-append}
use Rattle.std.proofs.lemmas.List.Sums.{sum_by-append}
use Rattle.smt_terms.specs.declared.script.Fun.{Fun}
use Rattle.smt_terms.specs.Meaning.{Named, no_names, bind, FunTree, Functions, with_fun, fun_value, functions_after}
use Rattle.smt_terms.specs.Sorts.{Rules, rule_of, with_rule, rules_after, IsFun, AreFuns, IsScript}
use Rattle.smt_terms.specs.Views.{fun_tree}
use Rattle.smt_terms.specs.Values.{funs_after}
use Rattle.smt_terms.specs.inner.Finding.{fun_weight, script_weight, IsFound, IsMissing}

functions-append : (fs : Functions) (xs ys : List FunTree) → functions_after fs (xs ++ ys) ≡ functions_after (functions_after fs xs) ys
functions-append fs [] ys = refl
functions-append fs (x ∷ xs) ys = functions-append (with_fun fs x) xs ys

rules-append : (fs : Rules) (xs ys : List FunTree) → rules_after fs (xs ++ ys) ≡ rules_after (rules_after fs xs) ys
rules-append fs [] ys = refl
rules-append fs (x ∷ xs) ys = rules-append (with_rule fs x) xs ys

funs-append : (fs : Named FunTree) (xs ys : List FunTree) → funs_after fs (xs ++ ys) ≡ funs_after (funs_after fs xs) ys
funs-append fs [] ys = refl
funs-append fs (x ∷ xs) ys = funs-append (bind fs x.name x) xs ys

-- the functions before one of a script, and that one
script-split : (fs : Rules) (xs : List FunTree) (f : FunTree) (ys : List FunTree) → AreFuns fs (xs ++ (f ∷ ys)) → AreFuns fs xs × IsFun (rules_after fs xs) f
script-split fs [] f ys h = (tt, h.0)
script-split fs (x ∷ xs) f ys h = let rest = script-split (with_rule fs x) xs f ys h.1 in ((h.0, rest.0), rest.1)

-- the first i functions
abbrev front : List Fun → ℕ → List FunTree
front funs i = map fun_tree (take i funs)

abbrev whole : List Fun → List FunTree
whole funs = map fun_tree funs

front-more : (funs : List Fun) (i : ℕ) (f : Fun) → i < length funs → f ≡ get_or funs i f → front funs (i + 1) ≡ front funs i ++ (fun_tree f ∷ [])
front-more funs i f lt is = ap (map fun_tree) (take_more funs i f lt) ∙ map-append fun_tree (take i funs) (get_or funs i f ∷ []) ∙ (λ j. front funs i ++ (fun_tree (sym is j) ∷ []))

whole-split : (funs : List Fun) (i : ℕ) (f : Fun) → i < length funs → f ≡ get_or funs i f → whole funs ≡ (front funs i ++ (fun_tree f ∷ [])) ++ map fun_tree (drop (i + 1) funs)
whole-split funs i f lt is =
    ap (map fun_tree) (sym (take-append-drop (i + 1) funs)) ∙ map-append fun_tree (take (i + 1) funs) (drop (i + 1) funs) ∙ (λ j. front-more funs i f lt is j ++ map fun_tree (drop (i + 1) funs))

-- none of the functions from the i-th on has the name
pub record NotBehind (funs : List Fun) (name : List ℕ) (i : ℕ) : Type 0 where
  pub named : funs_after no_names (front funs i) name ≡ funs_after no_names (whole funs) name
  pub value : functions_after no_names (front funs i) name ≡ functions_after no_names (whole funs) name
  pub rule : rules_after no_names (front funs i) name ≡ rules_after no_names (whole funs) name

pub not_behind_all : (funs : List Fun) (name : List ℕ) (i : ℕ) → length funs ≤ i → NotBehind funs name i
not_behind_all funs name i le = let e : front funs i ≡ whole funs = ap (map fun_tree) (take_all i funs le) in record {
  named = λ j. funs_after no_names (e j) name;
  value = λ j. functions_after no_names (e j) name;
  rule = λ j. rules_after no_names (e j) name;
}

named-at : (funs : List Fun) (name : List ℕ) (i : ℕ) (f : Fun) (b : Bool) → i < length funs → f ≡ get_or funs i f → bytes_eq name f.name ≡ b
    → funs_after no_names (front funs (i + 1)) name ≡ cond b (Some (fun_tree f)) (funs_after no_names (front funs i) name)
named-at funs name i f b lt is eq =
    (λ j. funs_after no_names (front-more funs i f lt is j) name) ∙ (λ j. funs-append no_names (front funs i) (fun_tree f ∷ []) j name)
    ∙ (λ j. cond (eq j) (Some (fun_tree f)) (funs_after no_names (front funs i) name))

value-at : (funs : List Fun) (name : List ℕ) (i : ℕ) (f : Fun) (b : Bool) → i < length funs → f ≡ get_or funs i f → bytes_eq name f.name ≡ b
    → functions_after no_names (front funs (i + 1)) name ≡ cond b (Some (fun_value (functions_after no_names (front funs i)) (fun_tree f))) (functions_after no_names (front funs i) name)
value-at funs name i f b lt is eq =
    (λ j. functions_after no_names (front-more funs i f lt is j) name) ∙ (λ j. functions-append no_names (front funs i) (fun_tree f ∷ []) j name)
    ∙ (λ j. cond (eq j) (Some (fun_value (functions_after no_names (front funs i)) (fun_tree f))) (functions_after no_names (front funs i) name))

rule-at : (funs : List Fun) (name : List ℕ) (i : ℕ) (f : Fun) (b : Bool) → i < length funs → f ≡ get_or funs i f → bytes_eq name f.name ≡ b
    → rules_after no_names (front funs (i + 1)) name ≡ cond b (Some (rule_of (fun_tree f))) (rules_after no_names (front funs i) name)
rule-at funs name i f b lt is eq =
    (λ j. rules_after no_names (front-more funs i f lt is j) name) ∙ (λ j. rules-append no_names (front funs i) (fun_tree f ∷ []) j name)
    ∙ (λ j. cond (eq j) (Some (rule_of (fun_tree f))) (rules_after no_names (front funs i) name))

pub not_behind_one : (funs : List Fun) (name : List ℕ) (i k : ℕ) (f : Fun) → k ≡ i + 1 → i < length funs → f ≡ get_or funs i f → bytes_eq name f.name ≡ false → NotBehind funs name k → NotBehind funs name i
not_behind_one funs name i k f e lt is eq h = record {
  named = sym (ap (λ (n : ℕ). funs_after no_names (front funs n) name) e ∙ named-at funs name i f false lt is eq) ∙ h.named;
  value = sym (ap (λ (n : ℕ). functions_after no_names (front funs n) name) e ∙ value-at funs name i f false lt is eq) ∙ h.value;
  rule = sym (ap (λ (n : ℕ). rules_after no_names (front funs n) name) e ∙ rule-at funs name i f false lt is eq) ∙ h.rule;
}

pub none_of_all : (funs : List Fun) (name : List ℕ) (i : ℕ) → i ≡ 0 → NotBehind funs name i → IsMissing (whole funs) name
none_of_all funs name i e h = record {
  named = sym h.named ∙ ap (λ (n : ℕ). funs_after no_names (front funs n) name) e;
  value = sym h.value ∙ ap (λ (n : ℕ). functions_after no_names (front funs n) name) e;
  rule = sym h.rule ∙ ap (λ (n : ℕ). rules_after no_names (front funs n) name) e;
}

weight-at : (funs : List Fun) (i : ℕ) (f : Fun) → i < length funs → f ≡ get_or funs i f → script_weight (front funs i) + fun_weight (fun_tree f) ≤ script_weight (whole funs)
weight-at funs i f lt is =
    let split : script_weight (whole funs) ≡ script_weight ((front funs i ++ (fun_tree f ∷ [])) ++ map fun_tree (drop (i + 1) funs)) = ap script_weight (whole-split funs i f lt is) in
    let a = sum_by-append fun_weight (front funs i ++ (fun_tree f ∷ [])) (map fun_tree (drop (i + 1) funs)) in
    let b : script_weight (front funs i ++ (fun_tree f ∷ [])) ≡ script_weight (front funs i) + script_weight (fun_tree f ∷ []) = sum_by-append fun_weight (front funs i) (fun_tree f ∷ []) in
    let one : script_weight (fun_tree f ∷ []) ≡ 0 + fun_weight (fun_tree f) = refl in
    omega arith

append-one : (xs : List FunTree) (f : FunTree) (ys : List FunTree) → (xs ++ (f ∷ [])) ++ ys ≡ xs ++ (f ∷ ys)
append-one [] f ys = refl
append-one (x ∷ xs) f ys = λ j. x ∷ append-one xs f ys j

pub found_at : (funs : List Fun) (name : List ℕ) (i k : ℕ) (f : Fun) (before : List Fun) → k ≡ i + 1 → i < length funs → f ≡ get_or funs i f → bytes_eq name f.name ≡ true → NotBehind funs name k
    → before ≡ take i funs → IsFound (whole funs) name (map fun_tree before) (fun_tree f)
found_at funs name i k f before e lt is eq h taken = subst (λ (xs : List Fun). IsFound (whole funs) name (map fun_tree xs) (fun_tree f)) (sym taken) (record {
  named = sym h.named ∙ ap (λ (n : ℕ). funs_after no_names (front funs n) name) e ∙ named-at funs name i f true lt is eq;
  value = sym h.value ∙ ap (λ (n : ℕ). functions_after no_names (front funs n) name) e ∙ value-at funs name i f true lt is eq;
  rule = sym h.rule ∙ ap (λ (n : ℕ). rules_after no_names (front funs n) name) e ∙ rule-at funs name i f true lt is eq;
  weight = weight-at funs i f lt is;
  script = λ s. script-split no_names (front funs i) (fun_tree f) (map fun_tree (drop (i + 1) funs)) (subst IsScript (whole-split funs i f lt is ∙ append-one (front funs i) (fun_tree f) (map fun_tree (drop (i + 1) funs))) s);
})
