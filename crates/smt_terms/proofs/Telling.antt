-- What is computed of a term's parts tells its value.
use Rattle.std.proofs.Common.{◌≡◌, ℕ, Bool, true, false, cond, List, [], ◌∷◌, ◌++◌, length, map, Option, Some, None, option_map, refl, sym, ap, ◌∙◌}
use Rattle.std.specs.Prelude.{unwrap_or}
use Rattle.std.specs.Str.{bytes_eq}
use Rattle.std.proofs.lemmas.List.{length-map}
use Rattle.smt_terms.specs.declared.sort.Sort.{Sort}
use Rattle.smt_terms.specs.Expression.{Expr, Atom, Node, Exprs, End, Then}
use Rattle.smt_terms.specs.Symbols.{is_symbol}
use Rattle.smt_terms.specs.Operators.{Value, Rule, Head, LetHead, LiteralHead, Function, NoHead}
use Rattle.smt_terms.specs.Operators.{Operator as OperatorHead}
use Rattle.smt_terms.specs.Meaning.{no_names, bind, Variables, Functions, FunTree, term_head, applied, constant, atom_value, literal_value, by_head, value, binding_value, values, bind_all, fun_value, functions_after}
use Rattle.smt_terms.specs.Sorts.{Sorts, Rules, constant_sort, atom_sort, literal_sort, applied_sort, sort_by_head, bound_sort, sort_of, binding_sort, sorts_of, sorts_fit, sorts_with, rule_of, with_rule, rules_after, IsFun}
use Rattle.smt_terms.specs.declared.datum.Datum.{Datum}
use Rattle.smt_terms.specs.declared.scope.Binding.{Binding}
use Rattle.smt_terms.specs.declared.operator.Operator.{Operator}
use Rattle.smt_terms.specs.inner.Datum.{sort_of_datum, sorted, meaning, StandsFor}
use Rattle.smt_terms.specs.inner.Operators.{row_of}
use Rattle.smt_terms.specs.inner.Applied.{head_rule, head_value, Applied}
use Rattle.smt_terms.specs.inner.Heads.{AreSorts, IsOperator}
use Rattle.smt_terms.specs.inner.Scope.{sorts_in, variables_in}
use Rattle.smt_terms.specs.inner.Telling.{Tells, TellsBinding, TellsAll}
use Rattle.smt_terms.proofs.Rules.{fit-sorts}
use Rattle.smt_terms.proofs.Scopes.{sorts-pushed, variables-pushed, fit-lengths}

pub no_stand : (o : Option Sort) (v : Value) (d : Datum) → o ≡ None → StandsFor o v d
no_stand o v d e s h = absurd (cc)

-- another path to what it stands for
pub stands-by : (o p : Option Sort) (v w : Value) (d : Datum) → p ≡ o → w ≡ v → StandsFor o v d → StandsFor p w d
stands-by o p v w d e f h s g = let t = h s (sym e ∙ g) in (t.0, t.1 ∙ sym f)

sorted-all : (ds : List Datum) → map sorted ds ≡ map Some (map sort_of_datum ds)
sorted-all [] = refl
sorted-all (d ∷ ds) = λ j. sorted d ∷ sorted-all ds j

-- what functions' rules ask
rule-sorts : (f : FunTree) (os : List (Option Sort)) (s : Sort) (b : Bool) → sorts_fit f.params os ≡ b → cond b (Some f.sort) None ≡ Some s → AreSorts os
rule-sorts f os s true e h = fit-sorts f.params os e
rule-sorts f os s false e h = absurd (cc)

abbrev AreStrict : Rules → Type 0
AreStrict fs = (name : List ℕ) (os : List (Option Sort)) (s : Sort) → applied_sort fs name os ≡ Some s → AreSorts os

strict-with : (fs : Rules) (f : FunTree) (name : List ℕ) (os : List (Option Sort)) (s : Sort) (b : Bool) → AreStrict fs
    → unwrap_or (option_map (λ (rule : Rule). rule os) (cond b (Some (rule_of f)) (fs name))) None ≡ Some s → AreSorts os
strict-with fs f name os s true strict h = rule-sorts f os s (sorts_fit f.params os) refl h
strict-with fs f name os s false strict h = strict name os s h

strict-after : (fs : Rules) (funs : List FunTree) → AreStrict fs → AreStrict (rules_after fs funs)
strict-after fs [] strict = strict
strict-after fs (f ∷ funs) strict = strict-after (with_rule fs f) funs (λ name os s h. strict-with fs f name os s (bytes_eq name f.name) strict h)

strict : (funs : List FunTree) → AreStrict (rules_after no_names funs)
strict funs = strict-after no_names funs (λ name os s h. absurd (cc))

module _ (funs : List FunTree) (scope : List Binding) where
  abbrev R : Rules
  R = rules_after no_names funs

  abbrev F : Functions
  F = functions_after no_names funs

  abbrev S : Sorts
  S = sorts_in scope

  abbrev V : Variables
  V = variables_in scope

  -- operands that have sorts
  all-sorted : (es : Exprs) (ds : List Datum) → TellsAll funs scope es ds → AreSorts (sorts_of R S es) → map sorted ds ≡ sorts_of R S es
  all-sorted es ds all are = sorted-all ds ∙ ap (map Some) (all.sorts are.0 are.1) ∙ sym are.1

  head-sort : (head : Expr) (rest : Exprs) (h : Head) → term_head head ≡ h → sort_of R S (Node (Then head rest)) ≡ sort_by_head R h (λ _. binding_sort R S rest) (literal_sort rest) (λ _. sorts_of R S rest)
  head-sort head rest h e = λ j. sort_by_head R (e j) (λ _. binding_sort R S rest) (literal_sort rest) (λ _. sorts_of R S rest)

  head-value : (head : Expr) (rest : Exprs) (h : Head) → term_head head ≡ h → value F V (Node (Then head rest)) ≡ by_head F h (λ _. binding_value F V rest) (literal_value rest) (λ _. values F V rest)
  head-value head rest h e = λ j. by_head F (e j) (λ _. binding_value F V rest) (literal_value rest) (λ _. values F V rest)

  pub tells_nothing : (head : Expr) (rest : Exprs) (d : Datum) → term_head head ≡ NoHead → Tells funs scope (Node (Then head rest)) d
  tells_nothing head rest d e = record { tells = no_stand _ _ d (head-sort head rest NoHead e) }

  pub tells_empty : (d : Datum) → Tells funs scope (Node End) d
  tells_empty d = record { tells = no_stand _ _ d refl }

  pub tells_let : (head : Expr) (rest : Exprs) (d : Datum) → term_head head ≡ LetHead → TellsBinding funs scope rest d → Tells funs scope (Node (Then head rest)) d
  tells_let head rest d e h = record { tells = stands-by _ _ _ _ d (head-sort head rest LetHead e) (head-value head rest LetHead e) h.tells }

  pub tells_literal : (head : Expr) (rest : Exprs) (d : Datum) → term_head head ≡ LiteralHead → StandsFor (literal_sort rest) (literal_value rest) d → Tells funs scope (Node (Then head rest)) d
  tells_literal head rest d e h = record { tells = stands-by _ _ _ _ d (head-sort head rest LiteralHead e) (head-value head rest LiteralHead e) h }

  pub tells_operator : (head : Expr) (rest : Exprs) (op : Operator) (ds : List Datum) (d : Datum) → IsOperator op (term_head head) → TellsAll funs scope rest ds → Applied op ds d → Tells funs scope (Node (Then head rest)) d
  tells_operator head rest op ds d is all app = record {
    tells = λ s h.
        let rule = head_rule (term_head head) in
        let g : rule (sorts_of R S rest) ≡ Some s = sym (head-sort head rest (OperatorHead (head_rule (term_head head)) (head_value (term_head head))) is.operator) ∙ h in
        let are : AreSorts (sorts_of R S rest) = is.operands (sorts_of R S rest) s g in
        let same : map sorted ds ≡ sorts_of R S rest = all-sorted rest ds all are in
        let k : rule (map sorted ds) ≡ Some s = ap rule same ∙ g in
        let row : term_head head ≡ row_of op = is.same ds s k in
        let t = app s (ap (λ (x : Head). head_rule x (map sorted ds)) (sym row) ∙ k) in (
          t.0,
          t.1 ∙ ap (λ (x : Head). head_value x (map meaning ds)) (sym row) ∙ ap (head_value (term_head head)) (all.told are.0 are.1)
              ∙ sym (head-value head rest (OperatorHead (head_rule (term_head head)) (head_value (term_head head))) is.operator),
        );
  }

  pub tells_function : (head : Expr) (rest : Exprs) (name : List ℕ) (ds : List Datum) (d : Datum) → term_head head ≡ Function name → TellsAll funs scope rest ds
      → StandsFor (applied_sort R name (map sorted ds)) (applied F name (map meaning ds)) d → Tells funs scope (Node (Then head rest)) d
  tells_function head rest name ds d e all app = record {
    tells = λ s h.
        let g : applied_sort R name (sorts_of R S rest) ≡ Some s = sym (head-sort head rest (Function name) e) ∙ h in
        let are : AreSorts (sorts_of R S rest) = strict funs name (sorts_of R S rest) s g in
        let t = app s (ap (applied_sort R name) (all-sorted rest ds all are) ∙ g) in
        (t.0, t.1 ∙ ap (applied F name) (all.told are.0 are.1) ∙ sym (head-value head rest (Function name) e));
  }

  -- ---- names

  pub tells_variable : (name : List ℕ) (d e : Datum) → S name ≡ Some (sort_of_datum d) → V name ≡ Some (meaning d) → sort_of_datum e ≡ sort_of_datum d → meaning e ≡ meaning d → Tells funs scope (Atom name) e
  tells_variable name d e has is sort same = record {
    tells = λ s h.
        let g : Some (sort_of_datum d) ≡ Some s = sym (λ j. atom_sort (has j) (R name) name) ∙ h in
        let same_sort : sort_of_datum d ≡ s = cc in
        (sort ∙ same_sort, same ∙ sym (λ j. atom_value (is j) (F name) name));
  }

  pub tells_plain : (name : List ℕ) (rule : Rule) (f : List Value → Value) (d : Datum) → S name ≡ None → V name ≡ None → R name ≡ Some rule → F name ≡ Some f → StandsFor (rule []) (f []) d → Tells funs scope (Atom name) d
  tells_plain name rule f d s v r g h = record { tells = stands-by _ _ _ _ d (λ j. atom_sort (s j) (r j) name) (λ j. atom_value (v j) (g j) name) h }

  pub tells_constant : (name : List ℕ) (d : Datum) → S name ≡ None → V name ≡ None → R name ≡ None → F name ≡ None → StandsFor (constant_sort name) (constant name) d → Tells funs scope (Atom name) d
  tells_constant name d s v r g h = record { tells = stands-by _ _ _ _ d (λ j. atom_sort (s j) (r j) name) (λ j. atom_value (v j) (g j) name) h }

  -- ---- lists of terms

  pub tells_all_none : (ds : List Datum) → ds ≡ [] → TellsAll funs scope End ds
  tells_all_none ds e = record { sorts = λ ss h. ap (map sort_of_datum) e ∙ none ss h; told = λ ss h. ap (map meaning) e }
    where
      none : (ss : List Sort) → [] ≡ map Some ss → [] ≡ ss
      none [] h = refl
      none (s ∷ ss) h = absurd (cc)

  -- ---- bindings

  pub binding_none : (es : Exprs) (d : Datum) → ((fs : Rules) (s : Sorts) → binding_sort fs s es ≡ None) → TellsBinding funs scope es d
  binding_none es d h = record { tells = no_stand _ _ d (h R S) }

  bound-by : (x : List ℕ) (body : Expr) (o : Option Sort) (s : Sort) → bound_sort S x o (λ r. sort_of R r body) ≡ Some s → (r : Sort) × (o ≡ Some r) × (sort_of R (bind S x r) body ≡ Some s)
  bound-by x body None s h = absurd (cc)
  bound-by x body (Some r) s h = (r, refl, named (is_symbol x) (sort_of R (bind S x r) body) h)
    where
      named : (b : Bool) (o : Option Sort) → cond b o None ≡ Some s → o ≡ Some s
      named true o h = h
      named false o h = absurd (cc)

  abbrev let_exprs : List ℕ → Expr → Expr → Exprs
  let_exprs x e body = Then (Node (Then (Node (Then (Atom x) (Then e End))) End)) (Then body End)

  pub binding_some : (es : Exprs) (x : List ℕ) (e body : Expr) (b : Binding) (inner : List Binding) (c d : Datum) → es ≡ let_exprs x e body → b.name.now ≡ x → b.datum ≡ c → inner ≡ scope ++ b ∷ []
      → Tells funs scope e c → Tells funs inner body d → TellsBinding funs scope es d
  binding_some es x e body b inner c d is name datum in_ first second = record {
    tells = λ s h.
        let g : bound_sort S x (sort_of R S e) (λ r. sort_of R r body) ≡ Some s = sym (ap (binding_sort R S) is) ∙ h in
        let t = bound-by x body (sort_of R S e) s g in
        let u = first.tells t.0 t.1 in
        let sorts : sorts_in inner ≡ bind S x t.0 = ap sorts_in in_ ∙ sorts-pushed scope b ∙ (λ j. bind S (name j) (sort_of_datum (datum j))) ∙ (λ j. bind S x (u.0 j)) in
        let vars : variables_in inner ≡ bind V x (value F V e) = ap variables_in in_ ∙ variables-pushed scope b ∙ (λ j. bind V (name j) (meaning (datum j))) ∙ (λ j. bind V x (u.1 j)) in
        let w = second.tells s (ap (λ (q : Sorts). sort_of R q body) sorts ∙ t.2) in
        (w.0, w.1 ∙ ap (λ (q : Variables). value F q body) vars ∙ sym (ap (binding_value F V) is));
  }

module _ (before : List FunTree) (f : FunTree) (ds : List Datum) where
  fit-by : (b : Bool) (s : Sort) → cond b (Some f.sort) None ≡ Some s → (b ≡ true) × (f.sort ≡ s)
  fit-by true s h = (refl, (cc))
  fit-by false s h = absurd (cc)

  pub call_unfit : (d : Datum) → (length ds ≡ length f.params → ⊥) → StandsFor (rule_of f (map sorted ds)) (fun_value (functions_after no_names before) f (map meaning ds)) d
  call_unfit d h s g = let t = fit-by (sorts_fit f.params (map sorted ds)) s g in absurd (h (sym (fit-lengths f.params (map sorted ds) t.0 ∙ length-map ds sorted)))

  pub call_told : (scope : List Binding) (d : Datum) → IsFun (rules_after no_names before) f → (sorts_fit f.params (map sorted ds) ≡ true → sorts_in scope ≡ sorts_with no_names f.params) → variables_in scope ≡ bind_all no_names f.params (map meaning ds)
      → Tells before scope f.body d → StandsFor (rule_of f (map sorted ds)) (fun_value (functions_after no_names before) f (map meaning ds)) d
  call_told scope d is sorts vars h s g =
      let t = fit-by (sorts_fit f.params (map sorted ds)) s g in
      let u = h.tells f.sort (ap (λ (q : Sorts). sort_of (rules_after no_names before) q f.body) (sorts t.0) ∙ is.body) in
      (u.0 ∙ t.1, u.1 ∙ ap (λ (q : Variables). value (functions_after no_names before) q f.body) vars)
