-- A branch has the value of the side that its condition chooses.
use Rattle.std.proofs.Common.{◌≡◌, ℕ, Bool, true, false, not, cond, List, [], ◌∷◌, codes, Option, Some, None, option_map, refl, sym, ap, subst, ◌∙◌}
use Rattle.std.specs.Prelude.{◌&&◌}
use Rattle.std.specs.Str.{bytes_eq}
use Rattle.std.proofs.lemmas.Bool.{eqb-true}
use Rattle.std.proofs.lemmas.Slice.Eq.{bytes_eq-Decides}
use Rattle.smt_terms.specs.Expression.{Expr, Atom, Node, Exprs, End, Then, is_atom, bound, ite}
use Rattle.smt_terms.specs.Operators.{Value, Truth, Bits, Array, of_truth, choose, Function}
use Rattle.smt_terms.specs.Meaning.{Functions, Variables, bind, term_head, atom_value, literal_value, by_head, value, binding_value, values, applied}
use Rattle.smt_terms.proofs.Unused.{bound-value}
use Rattle.smt_export.specs.Terms.{falsity}
use Rattle.smt_export.specs.Joins.{same_count, same_atom, is_falsity, Application, guarded, application_expr, plain, plain_of, is_fun_name, bound_each, with_binding, both_guards, with_guard, under_bindings, under_choice, plain_items, first_applied, application, in_let, in_ite, chosen, chosen_each, chosen_guard, joined_applications, branch_of, branch_expr}

pub both : (a b : Bool) → (a && b) ≡ true → (a ≡ true) × (b ≡ true)
both true b h = (refl, h)
both false b h = absurd (cc)

-- ---- the same terms

pub atom-is : (name : List ℕ) (x : Expr) → is_atom name x ≡ true → x ≡ Atom name
atom-is name (Atom a) h = ap Atom ((bytes_eq-Decides a name).0 h)
atom-is name (Node es) h = absurd (cc)

pub same-is : (x y : Expr) → same_atom x y ≡ true → x ≡ y
same-is (Atom a) y h = sym (atom-is a y h)
same-is (Node es) y h = absurd (cc)

pub falsity-same : (y : Expr) → is_falsity y ≡ true → y ≡ falsity
falsity-same (Atom a) h = absurd (cc)
falsity-same (Node End) h = absurd (cc)
falsity-same (Node (Then f End)) h = absurd (cc)
falsity-same (Node (Then f (Then t End))) h =
    let tests = both (is_atom (codes "not") f) (is_atom (codes "true") t) h in
    λ j. Node (Then (atom-is (codes "not") f tests.0 j) (Then (atom-is (codes "true") t tests.1 j) End))
falsity-same (Node (Then f (Then t (Then u us)))) h = absurd (cc)

-- ---- names of functions

pub head-is : (name : List ℕ) → is_fun_name name ≡ true → term_head (Atom name) ≡ Function name
head-is [] is = absurd (cc)
head-is (c ∷ cs) is = let same : c ≡ 102 = eqb-true c 102 is in subst (λ b. term_head (Atom (b ∷ cs)) ≡ Function (b ∷ cs)) (sym same) refl

module _ (fs : Functions) (f : fs (codes "true") ≡ None) where
  pub truth-is : (s : Variables) → s (codes "true") ≡ None → value fs s (Atom (codes "true")) ≡ Truth true
  truth-is s v = λ j. atom_value (v j) (f j) (codes "true")

  pub falsity-is : (s : Variables) → s (codes "true") ≡ None → value fs s falsity ≡ Truth false
  falsity-is s v = λ j. of_truth (λ a. Truth (not a)) (truth-is s v j ∷ [])

  node-value : (s : Variables) (name : List ℕ) (args : Exprs) → is_fun_name name ≡ true → value fs s (Node (Then (Atom name) args)) ≡ applied fs name (values fs s args)
  node-value s name args is = λ j. by_head fs (head-is name is j) (λ _. binding_value fs s args) (literal_value args) (λ _. values fs s args)

  -- ---- values of applications

  abbrev guard_value : Variables → Option Expr → Value
  guard_value s None = Truth true
  guard_value s (Some c) = value fs s c

  abbrev application_value : Variables → Application → Value
  application_value s a = choose (guard_value s a.guard ∷ applied fs a.name (values fs s a.args) ∷ Truth false ∷ [])

  guarded-value : (s : Variables) → s (codes "true") ≡ None → (o : Option Expr) (name : List ℕ) (args : Exprs) → is_fun_name name ≡ true
      → value fs s (guarded o (Node (Then (Atom name) args))) ≡ choose (guard_value s o ∷ applied fs name (values fs s args) ∷ Truth false ∷ [])
  guarded-value s v None name args is = node-value s name args is
  guarded-value s v (Some c) name args is = λ j. choose (value fs s c ∷ node-value s name args is j ∷ falsity-is s v j ∷ [])

  -- a value is that of the application, if there is one
  abbrev IsApplied : Variables → Value → Option Application → Type 0
  IsApplied s v o = (a : Application) → o ≡ Some a → (v ≡ application_value s a) × (is_fun_name a.name ≡ true)

  -- ---- under bindings

  each-bound : (x : List ℕ) (e : Expr) (s : Variables) (ys : Exprs) → values fs s (bound_each x e ys) ≡ values fs (bind s x (value fs s e)) ys
  each-bound x e s End = refl
  each-bound x e s (Then y ys) = λ j. bound-value x fs e y s j ∷ each-bound x e s ys j

  guard-bound : (x : List ℕ) (e : Expr) (s : Variables) (o : Option Expr) → guard_value s (option_map (bound x e) o) ≡ guard_value (bind s x (value fs s e)) o
  guard-bound x e s None = refl
  guard-bound x e s (Some c) = bound-value x fs e c s

  binding-is : (x : List ℕ) (e : Expr) (s : Variables) (v : Value) (o : Option Application) → IsApplied (bind s x (value fs s e)) v o → IsApplied s v (option_map (with_binding x e) o)
  binding-is x e s v None h = λ a is. absurd (cc)
  binding-is x e s v (Some b) h = λ a is.
      let same : with_binding x e b ≡ a = cc in
      let there = h b refl in
      subst (λ d. (v ≡ application_value s d) × (is_fun_name d.name ≡ true)) same
      (there.0 ∙ sym (λ j. choose (guard-bound x e s b.guard j ∷ applied fs b.name (each-bound x e s b.args j) ∷ Truth false ∷ [])), there.1)

  -- ---- under guards

  nested : (c d p : Value) → choose (c ∷ choose (d ∷ p ∷ Truth false ∷ []) ∷ Truth false ∷ []) ≡ choose (choose (c ∷ d ∷ Truth false ∷ []) ∷ p ∷ Truth false ∷ [])
  nested (Truth true) d p = refl
  nested (Truth false) d p = refl
  nested (Bits w n) d p = refl
  nested (Array w at) d p = refl

  guards-value : (s : Variables) → s (codes "true") ≡ None → (c : Expr) (o : Option Expr) (p : Value)
      → choose (value fs s c ∷ choose (guard_value s o ∷ p ∷ Truth false ∷ []) ∷ Truth false ∷ []) ≡ choose (value fs s (both_guards c o) ∷ p ∷ Truth false ∷ [])
  guards-value s v c None p = refl
  guards-value s v c (Some d) p = nested (value fs s c) (value fs s d) p ∙ sym (λ j. choose (choose (value fs s c ∷ value fs s d ∷ falsity-is s v j ∷ []) ∷ p ∷ Truth false ∷ []))

  guard-is : (s : Variables) → s (codes "true") ≡ None → (c : Expr) (x : Value) (o : Option Application) → IsApplied s x o
      → IsApplied s (choose (value fs s c ∷ x ∷ Truth false ∷ [])) (option_map (with_guard c) o)
  guard-is s v c x None h = λ a is. absurd (cc)
  guard-is s v c x (Some b) h = λ a is.
      let same : with_guard c b ≡ a = cc in
      let there = h b refl in
      subst (λ d. (choose (value fs s c ∷ x ∷ Truth false ∷ []) ≡ application_value s d) × (is_fun_name d.name ≡ true)) same
      ((λ j. choose (value fs s c ∷ there.0 j ∷ Truth false ∷ [])) ∙ guards-value s v c b.guard (applied fs b.name (values fs s b.args)), there.1)

  -- ---- terms

  plain-tested : (g : List ℕ) (rest : Exprs) (s : Variables) (b : Bool) → is_fun_name g ≡ b → IsApplied s (value fs s (Node (Then (Atom g) rest))) (cond b (Some (plain g rest)) None)
  plain-tested g rest s false p = λ a is. absurd (cc)
  plain-tested g rest s true p = λ a is.
      let same : plain g rest ≡ a = cc in
      subst (λ e. (value fs s (Node (Then (Atom g) rest)) ≡ application_value s e) × (is_fun_name e.name ≡ true)) same (node-value s g rest p, p)

  plain-is : (head : Expr) (rest : Exprs) (s : Variables) → IsApplied s (value fs s (Node (Then head rest))) (plain_of head rest)
  plain-is (Atom g) rest s = plain-tested g rest s (is_fun_name g) refl
  plain-is (Node es) rest s = λ a is. absurd (cc)

  binding-named : (x : List ℕ) (e body : Expr) (s : Variables) (t : Bool) → bytes_eq (codes "true") x ≡ t → s (codes "true") ≡ None
      → (bind s x (value fs s e) (codes "true") ≡ None → IsApplied (bind s x (value fs s e)) (value fs (bind s x (value fs s e)) body) (application body))
      → IsApplied s (value fs (bind s x (value fs s e)) body) (cond t None (option_map (with_binding x e) (application body)))
  binding-named x e body s true is v go = λ a same. absurd (cc)
  binding-named x e body s false is v go = binding-is x e s (value fs (bind s x (value fs s e)) body) (application body) (go ((λ j. cond (is j) (Some (value fs s e)) (s (codes "true"))) ∙ v))

  choice-tested : (c x y : Expr) (s : Variables) (t : Bool) → is_falsity y ≡ t → s (codes "true") ≡ None → IsApplied s (value fs s x) (application x)
      → IsApplied s (choose (value fs s c ∷ value fs s x ∷ value fs s y ∷ [])) (cond t (option_map (with_guard c) (application x)) None)
  choice-tested c x y s false is v h = λ a same. absurd (cc)
  choice-tested c x y s true is v h =
      let otherwise : Truth false ≡ value fs s y = sym ((λ j. value fs s (falsity-same y is j)) ∙ falsity-is s v) in
      subst (λ z. IsApplied s (choose (value fs s c ∷ value fs s x ∷ z ∷ [])) (option_map (with_guard c) (application x))) otherwise (guard-is s v c (value fs s x) (application x) h)

  -- ((X E)) around a body
  binding-pair : (p body : Expr) (s : Variables) → s (codes "true") ≡ None → ((r : Variables) → r (codes "true") ≡ None → IsApplied r (value fs r body) (application body))
      → IsApplied s (binding_value fs s (Then p (Then body End))) (under_bindings p (application body))
  binding-pair (Atom a) body s v go = λ b is. absurd (cc)
  binding-pair (Node End) body s v go = λ b is. absurd (cc)
  binding-pair (Node (Then p (Then k ks))) body s v go = λ b is. absurd (cc)
  binding-pair (Node (Then (Atom a) End)) body s v go = λ b is. absurd (cc)
  binding-pair (Node (Then (Node End) End)) body s v go = λ b is. absurd (cc)
  binding-pair (Node (Then (Node (Then x End)) End)) body s v go = λ b is. absurd (cc)
  binding-pair (Node (Then (Node (Then x (Then e (Then k ks)))) End)) body s v go = λ b is. absurd (cc)
  binding-pair (Node (Then (Node (Then (Node es) (Then e End))) End)) body s v go = λ b is. absurd (cc)
  binding-pair (Node (Then (Node (Then (Atom x) (Then e End))) End)) body s v go =
      binding-named x e body s (bytes_eq (codes "true") x) refl v (go (bind s x (value fs s e)))

  let-tested : (head p body : Expr) (s : Variables) (t : Bool) → is_atom (codes "let") head ≡ t → IsApplied s (binding_value fs s (Then p (Then body End))) (under_bindings p (application body))
      → IsApplied s (value fs s (Node (Then head (Then p (Then body End))))) (cond t (under_bindings p (application body)) None)
  let-tested head p body s false is h = λ b e. absurd (cc)
  let-tested head p body s true is h =
      subst (λ g. IsApplied s (value fs s (Node (Then g (Then p (Then body End))))) (under_bindings p (application body))) (sym (atom-is (codes "let") head is)) h

  ite-tested : (head c x y : Expr) (s : Variables) (t : Bool) → is_atom (codes "ite") head ≡ t
      → IsApplied s (choose (value fs s c ∷ value fs s x ∷ value fs s y ∷ [])) (under_choice c y (application x))
      → IsApplied s (value fs s (Node (Then head (Then c (Then x (Then y End)))))) (cond t (under_choice c y (application x)) None)
  ite-tested head c x y s false is h = λ b e. absurd (cc)
  ite-tested head c x y s true is h =
      subst (λ g. IsApplied s (value fs s (Node (Then g (Then c (Then x (Then y End)))))) (under_choice c y (application x))) (sym (atom-is (codes "ite") head is)) h

  items-is : (es : Exprs) (s : Variables) → IsApplied s (value fs s (Node es)) (plain_items es)
  items-is End s = λ b is. absurd (cc)
  items-is (Then head rest) s = plain-is head rest s

  first-is : (s : Variables) (v : Value) (o p q : Option Application) → IsApplied s v o → IsApplied s v p → IsApplied s v q → IsApplied s v (first_applied o p q)
  first-is s v (Some a) p q h l r = h
  first-is s v None (Some b) q h l r = l
  first-is s v None None q h l r = r

  mutual
    application-is : (x : Expr) (s : Variables) → s (codes "true") ≡ None → IsApplied s (value fs s x) (application x)
    application-is (Atom a) s v = λ b is. absurd (cc)
    application-is (Node es) s v = first-is s (value fs s (Node es)) (in_let es) (in_ite es) (plain_items es) (let-is es s v) (ite-is es s v) (items-is es s)

    let-is : (es : Exprs) (s : Variables) → s (codes "true") ≡ None → IsApplied s (value fs s (Node es)) (in_let es)
    let-is End s v = λ b is. absurd (cc)
    let-is (Then head End) s v = λ b is. absurd (cc)
    let-is (Then head (Then p End)) s v = λ b is. absurd (cc)
    let-is (Then head (Then p (Then body (Then k ks)))) s v = λ b is. absurd (cc)
    let-is (Then head (Then p (Then body End))) s v =
        let-tested head p body s (is_atom (codes "let") head) refl (binding-pair p body s v (λ r free. application-is body r free))

    ite-is : (es : Exprs) (s : Variables) → s (codes "true") ≡ None → IsApplied s (value fs s (Node es)) (in_ite es)
    ite-is End s v = λ b is. absurd (cc)
    ite-is (Then head End) s v = λ b is. absurd (cc)
    ite-is (Then head (Then c End)) s v = λ b is. absurd (cc)
    ite-is (Then head (Then c (Then x End))) s v = λ b is. absurd (cc)
    ite-is (Then head (Then c (Then x (Then y (Then k ks))))) s v = λ b is. absurd (cc)
    ite-is (Then head (Then c (Then x (Then y End)))) s v =
        ite-tested head c x y s (is_atom (codes "ite") head) refl (choice-tested c x y s (is_falsity y) refl v (application-is x s v))

  -- ---- branches

  module _ (s : Variables) (v : s (codes "true") ≡ None) (c : Expr) (b : Bool) (is : value fs s c ≡ Truth b) where
    ite-value : (x y : Expr) → value fs s (ite c x y) ≡ cond b (value fs s x) (value fs s y)
    ite-value x y = λ j. choose (is j ∷ value fs s x ∷ value fs s y ∷ [])

    alike : (t : Bool) (x y : Value) → x ≡ y → x ≡ cond t x y
    alike true x y e = refl
    alike false x y e = e

    chosen-by : (t : Bool) (x y : Expr) → same_atom x y ≡ t → value fs s (cond t x (ite c x y)) ≡ cond b (value fs s x) (value fs s y)
    chosen-by true x y e = alike b (value fs s x) (value fs s y) (λ j. value fs s (same-is x y e j))
    chosen-by false x y e = ite-value x y

    chosen-value : (x y : Expr) → value fs s (chosen c x y) ≡ cond b (value fs s x) (value fs s y)
    chosen-value x y = chosen-by (same_atom x y) x y refl

    both_ways : (t : Bool) (x y : Value) (xs ys : List Value) → cond t x y ∷ cond t xs ys ≡ cond t (x ∷ xs) (y ∷ ys)
    both_ways true x y xs ys = refl
    both_ways false x y xs ys = refl

    neither_way : (t : Bool) (xs : List Value) → xs ≡ cond t xs xs
    neither_way true xs = refl
    neither_way false xs = refl

    each-chosen : (xs ys : Exprs) → same_count xs ys ≡ true → values fs s (chosen_each c xs ys) ≡ cond b (values fs s xs) (values fs s ys)
    each-chosen End End h = neither_way b []
    each-chosen End (Then y ys) h = absurd (cc)
    each-chosen (Then x xs) End h = absurd (cc)
    each-chosen (Then x xs) (Then y ys) h = (λ j. chosen-value x y j ∷ each-chosen xs ys h j) ∙ both_ways b (value fs s x) (value fs s y) (values fs s xs) (values fs s ys)

    guard-chosen : (o p : Option Expr) → guard_value s (chosen_guard c o p) ≡ cond b (guard_value s o) (guard_value s p)
    guard-chosen None None = alike b (Truth true) (Truth true) refl
    guard-chosen None (Some y) = chosen-value (Atom (codes "true")) y ∙ (λ j. cond b (truth-is s v j) (value fs s y))
    guard-chosen (Some x) None = chosen-value x (Atom (codes "true")) ∙ (λ j. cond b (value fs s x) (truth-is s v j))
    guard-chosen (Some x) (Some y) = chosen-value x y

    one_side : (t : Bool) (g h : Value) (m n : List ℕ) (xs ys : List Value) → m ≡ n
        → choose (cond t g h ∷ applied fs m (cond t xs ys) ∷ Truth false ∷ []) ≡ cond t (choose (g ∷ applied fs m xs ∷ Truth false ∷ [])) (choose (h ∷ applied fs n ys ∷ Truth false ∷ []))
    one_side true g h m n xs ys e = refl
    one_side false g h m n xs ys e = λ j. choose (h ∷ applied fs (e j) ys ∷ Truth false ∷ [])

    joined-value : (a d : Application) → is_fun_name a.name ≡ true → a.name ≡ d.name → same_count a.args d.args ≡ true
        → value fs s (application_expr (joined_applications c a d)) ≡ cond b (application_value s a) (application_value s d)
    joined-value a d named same count =
        guarded-value s v (chosen_guard c a.guard d.guard) a.name (chosen_each c a.args d.args) named
        ∙ (λ j. choose (guard-chosen a.guard d.guard j ∷ applied fs a.name (each-chosen a.args d.args count j) ∷ Truth false ∷ []))
        ∙ one_side b (guard_value s a.guard) (guard_value s d.guard) a.name d.name (values fs s a.args) (values fs s d.args) same

    branch-tested : (x y : Expr) (a d : Application) (t : Bool) → (bytes_eq a.name d.name && same_count a.args d.args) ≡ t
        → (value fs s x ≡ application_value s a) × (is_fun_name a.name ≡ true) → value fs s y ≡ application_value s d
        → value fs s (cond t (application_expr (joined_applications c a d)) (ite c x y)) ≡ cond b (value fs s x) (value fs s y)
    branch-tested x y a d true e first second =
        let tests = both (bytes_eq a.name d.name) (same_count a.args d.args) e in
        joined-value a d first.1 ((bytes_eq-Decides a.name d.name).0 tests.0) tests.1 ∙ sym (λ j. cond b (first.0 j) (second j))
    branch-tested x y a d false e first second = ite-value x y

    branch-by : (x y : Expr) (o p : Option Application) → IsApplied s (value fs s x) o → IsApplied s (value fs s y) p → value fs s (branch_of c o p (ite c x y)) ≡ cond b (value fs s x) (value fs s y)
    branch-by x y None p h l = ite-value x y
    branch-by x y (Some a) None h l = ite-value x y
    branch-by x y (Some a) (Some d) h l = branch-tested x y a d (bytes_eq a.name d.name && same_count a.args d.args) refl (h a refl) (l d refl).0

    pub branch-value : (x y : Expr) → value fs s (branch_expr c x y) ≡ cond b (value fs s x) (value fs s y)
    branch-value x y = branch-by x y (application x) (application y) (application-is x s v) (application-is y s v)

pub branch_made : (c x y t : Expr) (o p : Option Application) → o ≡ application x → p ≡ application y → t ≡ branch_of c o p (ite c x y) → t ≡ branch_expr c x y
branch_made c x y t o p first second is = is ∙ (λ j. branch_of c (first j) (second j) (ite c x y))
