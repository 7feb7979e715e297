-- A branch has the sort of both its sides, where each rule is that of a function.
use Rattle.std.proofs.Common.{◌≡◌, ℕ, Bool, true, false, cond, List, [], ◌∷◌, codes, Option, Some, None, option_map, unwrap_or, refl, sym, ap, subst, ◌∙◌, arith}
use Rattle.std.specs.Prelude.{◌&&◌}
use Rattle.std.specs.Str.{bytes_eq}
use Rattle.std.proofs.lemmas.Bool.{eqb-true}
use Rattle.std.proofs.lemmas.Slice.Eq.{bytes_eq-Decides}
use Rattle.smt_terms.specs.declared.sort.Sort.{Sort}
use Rattle.smt_terms.specs.declared.sort.Sort.TheVariants as sort
use Rattle.smt_terms.specs.Expression.{Expr, Atom, Node, Exprs, End, Then, is_atom, bound, ite}
use Rattle.smt_terms.specs.Operators.{Rule, choice_rule, truth_rule, same_sort}
use Rattle.smt_terms.specs.Symbols.{is_symbol, IsSymbol}
use Rattle.smt_terms.specs.Meaning.{bind, no_names, FunTree}
use Rattle.smt_terms.specs.Sorts.{Rules, Sorts, literal_sort, applied_sort, sort_by_head, bound_sort, sort_of, binding_sort, sorts_of, sorts_fit, rule_of, with_rule, rules_after}
use Rattle.smt_terms.proofs.Unused.{bound-sort}
use Rattle.smt_export.specs.Terms.{falsity}
use Rattle.smt_export.specs.Joins.{same_count, same_atom, is_falsity, Application, guarded, application_expr, plain, plain_of, is_fun_name, bound_each, with_binding, both_guards, with_guard, under_bindings, under_choice, plain_items, first_applied, application, in_let, in_ite, chosen, chosen_each, chosen_guard, joined_applications, branch_of, branch_expr}
use Rattle.smt_export.specs.inner.Sorting.{AreRules}
use Rattle.smt_export.proofs.SortedTerms.{true-sort}
use Rattle.smt_export.proofs.Joins.{both, atom-is, falsity-same, head-is}

-- ---- rules of functions

pub rules-none : AreRules no_names
rules-none = λ name rule is. absurd (cc)

pub rules-more : (fs : Rules) (f : FunTree) → AreRules fs → AreRules (with_rule fs f)
rules-more fs f h name rule is = by (bytes_eq name f.name) is
  where
    by : (t : Bool) → cond t (Some (rule_of f)) (fs name) ≡ Some rule → (g : FunTree) × (rule ≡ rule_of g)
    by true e = let same : rule ≡ rule_of f = cc in (f, same)
    by false e = h name rule e

pub rules-all : (funs : List FunTree) (fs : Rules) → AreRules fs → AreRules (rules_after fs funs)
rules-all [] fs h = h
rules-all (f ∷ funs) fs h = rules-all funs (with_rule fs f) (rules-more fs f h)

-- ---- rules the other way

same_sort-is : (s r : Sort) → same_sort s r ≡ true → s ≡ r
same_sort-is sort.Bool sort.Bool h = refl
same_sort-is sort.Bool (sort.Bits v) h = absurd (cc)
same_sort-is sort.Bool (sort.Array v) h = absurd (cc)
same_sort-is (sort.Bits w) sort.Bool h = absurd (cc)
same_sort-is (sort.Bits w) (sort.Bits v) h = ap sort.Bits (eqb-true w v h)
same_sort-is (sort.Bits w) (sort.Array v) h = absurd (cc)
same_sort-is (sort.Array w) sort.Bool h = absurd (cc)
same_sort-is (sort.Array w) (sort.Bits v) h = absurd (cc)
same_sort-is (sort.Array w) (sort.Array v) h = ap sort.Array (eqb-true w v h)

-- two sides of one sort, chosen by a truth
abbrev IsChoice : Option Sort → Option Sort → Option Sort → Sort → Type 0
IsChoice c x y r = (c ≡ Some sort.Bool) × (x ≡ Some r) × (y ≡ Some r)

choice-sides : (t : Bool) (s q r : Sort) → same_sort s q ≡ t → cond t (Some s) None ≡ Some r → (s ≡ r) × (q ≡ r)
choice-sides false s q r e h = absurd (cc)
choice-sides true s q r e h = let first : s ≡ r = cc in (first, sym (same_sort-is s q e) ∙ first)

choice-is : (c x y : Option Sort) (r : Sort) → choice_rule (c ∷ x ∷ y ∷ []) ≡ Some r → IsChoice c x y r
choice-is None x y r h = absurd (cc)
choice-is (Some (sort.Bits w)) x y r h = absurd (cc)
choice-is (Some (sort.Array w)) x y r h = absurd (cc)
choice-is (Some sort.Bool) None y r h = absurd (cc)
choice-is (Some sort.Bool) (Some s) None r h = absurd (cc)
choice-is (Some sort.Bool) (Some s) (Some q) r h = let sides = choice-sides (same_sort s q) s q r refl h in (refl, ap Some sides.0, ap Some sides.1)

same_sort-self : (r : Sort) → same_sort r r ≡ true
same_sort-self sort.Bool = refl
same_sort-self (sort.Bits w) = grind arith
same_sort-self (sort.Array w) = grind arith

module _ (fs : Rules) (s : Sorts) where
  pub ite-sort : (c x y : Expr) (r : Sort) → sort_of fs s c ≡ Some sort.Bool → sort_of fs s x ≡ Some r → sort_of fs s y ≡ Some r → sort_of fs s (ite c x y) ≡ Some r
  ite-sort c x y r p q t = (λ j. choice_rule (p j ∷ q j ∷ t j ∷ [])) ∙ (λ j. cond (same_sort-self r j) (Some r) None)

  pub falsity-sort : fs (codes "true") ≡ None → s (codes "true") ≡ None → sort_of fs s falsity ≡ Some sort.Bool
  falsity-sort f v = λ j. truth_rule (true-sort fs s f v j ∷ [])

where-named : (b : Bool) (o : Option Sort) (r : Sort) → cond b o None ≡ Some r → (b ≡ true) × (o ≡ Some r)
where-named true o r h = (refl, h)
where-named false o r h = absurd (cc)

bound-parts : (s : Sorts) (x : List ℕ) (o : Option Sort) (body : Sorts → Option Sort) (r : Sort) → bound_sort s x o body ≡ Some r → (q : Sort) × (o ≡ Some q) × IsSymbol x × (body (bind s x q) ≡ Some r)
bound-parts s x None body r h = absurd (cc)
bound-parts s x (Some q) body r h = let named = where-named (is_symbol x) (body (bind s x q)) r h in (q, refl, named.0, named.1)

module _ (fs : Rules) (f : fs (codes "true") ≡ None) where
  node-sort : (s : Sorts) (name : List ℕ) (args : Exprs) → is_fun_name name ≡ true → sort_of fs s (Node (Then (Atom name) args)) ≡ applied_sort fs name (sorts_of fs s args)
  node-sort s name args is = λ j. sort_by_head fs (head-is name is j) (λ _. binding_sort fs s args) (literal_sort args) (λ _. sorts_of fs s args)

  -- ---- sorts of applications

  -- a guard is a truth, and so is what it guards
  abbrev GuardHas : Sorts → Sort → Option Expr → Type 0
  GuardHas s r None = Unit {0}
  GuardHas s r (Some c) = (sort_of fs s c ≡ Some sort.Bool) × (r ≡ sort.Bool)

  abbrev Has : Sorts → Sort → Application → Type 0
  Has s r a = GuardHas s r a.guard × (applied_sort fs a.name (sorts_of fs s a.args) ≡ Some r) × (is_fun_name a.name ≡ true)

  abbrev IsSorted : Sorts → Option Sort → Option Application → Type 0
  IsSorted s t o = (r : Sort) → t ≡ Some r → (a : Application) → o ≡ Some a → Has s r a

  guarded-sort : (s : Sorts) → s (codes "true") ≡ None → (r : Sort) (o : Option Expr) (name : List ℕ) (args : Exprs) → GuardHas s r o → applied_sort fs name (sorts_of fs s args) ≡ Some r → is_fun_name name ≡ true
      → sort_of fs s (guarded o (Node (Then (Atom name) args))) ≡ Some r
  guarded-sort s v r None name args g h is = node-sort s name args is ∙ h
  guarded-sort s v r (Some c) name args g h is = ite-sort fs s c (Node (Then (Atom name) args)) falsity r g.0 (node-sort s name args is ∙ h) (falsity-sort fs s f v ∙ ap Some (sym g.1))

  -- ---- under bindings

  each-bound : (x : List ℕ) → IsSymbol x → (e : Expr) (s : Sorts) (q : Sort) → sort_of fs s e ≡ Some q → (ys : Exprs) → sorts_of fs s (bound_each x e ys) ≡ sorts_of fs (bind s x q) ys
  each-bound x named e s q is End = refl
  each-bound x named e s q is (Then y ys) = λ j. bound-sort x fs e y s q named is j ∷ each-bound x named e s q is ys j

  guard-bound : (x : List ℕ) → IsSymbol x → (e : Expr) (s : Sorts) (q r : Sort) → sort_of fs s e ≡ Some q → (o : Option Expr) → GuardHas (bind s x q) r o → GuardHas s r (option_map (bound x e) o)
  guard-bound x named e s q r is None h = tt
  guard-bound x named e s q r is (Some c) h = (bound-sort x fs e c s q named is ∙ h.0, h.1)

  binding-is : (x : List ℕ) → IsSymbol x → (e : Expr) (s : Sorts) (q r : Sort) → sort_of fs s e ≡ Some q → (o : Option Application) → ((a : Application) → o ≡ Some a → Has (bind s x q) r a)
      → (a : Application) → option_map (with_binding x e) o ≡ Some a → Has s r a
  binding-is x named e s q r is None h a same = absurd (cc)
  binding-is x named e s q r is (Some b) h a same =
      let whole : with_binding x e b ≡ a = cc in
      let there = h b refl in
      subst (λ d. Has s r d) whole (guard-bound x named e s q r is b.guard there.0, (λ j. applied_sort fs b.name (each-bound x named e s q is b.args j)) ∙ there.1, there.2)

  -- ---- under guards

  both-have : (s : Sorts) → s (codes "true") ≡ None → (r : Sort) (c : Expr) (o : Option Expr) → sort_of fs s c ≡ Some sort.Bool → GuardHas s r o → sort_of fs s (both_guards c o) ≡ Some sort.Bool
  both-have s v r c None is h = is
  both-have s v r c (Some d) is h = ite-sort fs s c d falsity sort.Bool is h.0 (falsity-sort fs s f v)

  guard-is : (s : Sorts) → s (codes "true") ≡ None → (r : Sort) (c : Expr) → sort_of fs s c ≡ Some sort.Bool → r ≡ sort.Bool → (o : Option Application) → ((a : Application) → o ≡ Some a → Has s r a)
      → (a : Application) → option_map (with_guard c) o ≡ Some a → Has s r a
  guard-is s v r c is truth None h a same = absurd (cc)
  guard-is s v r c is truth (Some b) h a same =
      let whole : with_guard c b ≡ a = cc in
      let there = h b refl in
      subst (λ d. Has s r d) whole ((both-have s v r c b.guard is there.0, truth), there.1, there.2)

  -- ---- terms

  plain-tested : (g : List ℕ) (rest : Exprs) (s : Sorts) (b : Bool) → is_fun_name g ≡ b → IsSorted s (sort_of fs s (Node (Then (Atom g) rest))) (cond b (Some (plain g rest)) None)
  plain-tested g rest s false p = λ r has a is. absurd (cc)
  plain-tested g rest s true p = λ r has a is.
      let same : plain g rest ≡ a = cc in
      subst (λ e. Has s r e) same (tt, sym (node-sort s g rest p) ∙ has, p)

  plain-is : (head : Expr) (rest : Exprs) (s : Sorts) → IsSorted s (sort_of fs s (Node (Then head rest))) (plain_of head rest)
  plain-is (Atom g) rest s = plain-tested g rest s (is_fun_name g) refl
  plain-is (Node es) rest s = λ r has a is. absurd (cc)

  binding-named : (x : List ℕ) (e body : Expr) (s : Sorts) (t : Bool) → bytes_eq (codes "true") x ≡ t → s (codes "true") ≡ None
      → ((q : Sort) → bind s x q (codes "true") ≡ None → IsSorted (bind s x q) (sort_of fs (bind s x q) body) (application body))
      → IsSorted s (bound_sort s x (sort_of fs s e) (λ r. sort_of fs r body)) (cond t None (option_map (with_binding x e) (application body)))
  binding-named x e body s true is v go = λ r has a same. absurd (cc)
  binding-named x e body s false is v go = λ r has a same.
      let parts = bound-parts s x (sort_of fs s e) (λ u. sort_of fs u body) r has in
      let q = parts.0 in
      binding-is x parts.2 e s q r parts.1 (application body) (λ b there. go q ((λ j. cond (is j) (Some q) (s (codes "true"))) ∙ v) r parts.3 b there) a same

  choice-tested : (c x y : Expr) (s : Sorts) (t : Bool) → is_falsity y ≡ t → s (codes "true") ≡ None → IsSorted s (sort_of fs s x) (application x)
      → IsSorted s (choice_rule (sort_of fs s c ∷ sort_of fs s x ∷ sort_of fs s y ∷ [])) (cond t (option_map (with_guard c) (application x)) None)
  choice-tested c x y s false is v h = λ r has a same. absurd (cc)
  choice-tested c x y s true is v h = λ r has a same.
      let sides = choice-is (sort_of fs s c) (sort_of fs s x) (sort_of fs s y) r has in
      let otherwise : sort_of fs s y ≡ Some sort.Bool = (λ j. sort_of fs s (falsity-same y is j)) ∙ falsity-sort fs s f v in
      let third = sides.2 in
      let truth : r ≡ sort.Bool = cc in
      guard-is s v r c sides.0 truth (application x) (h r sides.1) a same

  -- ((X E)) around a body
  binding-pair : (p body : Expr) (s : Sorts) → s (codes "true") ≡ None → ((r : Sorts) → r (codes "true") ≡ None → IsSorted r (sort_of fs r body) (application body))
      → IsSorted s (binding_sort fs s (Then p (Then body End))) (under_bindings p (application body))
  binding-pair (Atom a) body s v go = λ r has b is. absurd (cc)
  binding-pair (Node End) body s v go = λ r has b is. absurd (cc)
  binding-pair (Node (Then p (Then k ks))) body s v go = λ r has b is. absurd (cc)
  binding-pair (Node (Then (Atom a) End)) body s v go = λ r has b is. absurd (cc)
  binding-pair (Node (Then (Node End) End)) body s v go = λ r has b is. absurd (cc)
  binding-pair (Node (Then (Node (Then x End)) End)) body s v go = λ r has b is. absurd (cc)
  binding-pair (Node (Then (Node (Then x (Then e (Then k ks)))) End)) body s v go = λ r has b is. absurd (cc)
  binding-pair (Node (Then (Node (Then (Node es) (Then e End))) End)) body s v go = λ r has b is. absurd (cc)
  binding-pair (Node (Then (Node (Then (Atom x) (Then e End))) End)) body s v go = binding-named x e body s (bytes_eq (codes "true") x) refl v (λ q. go (bind s x q))

  let-tested : (head p body : Expr) (s : Sorts) (t : Bool) → is_atom (codes "let") head ≡ t → IsSorted s (binding_sort fs s (Then p (Then body End))) (under_bindings p (application body))
      → IsSorted s (sort_of fs s (Node (Then head (Then p (Then body End))))) (cond t (under_bindings p (application body)) None)
  let-tested head p body s false is h = λ r has b e. absurd (cc)
  let-tested head p body s true is h =
      subst (λ g. IsSorted s (sort_of fs s (Node (Then g (Then p (Then body End))))) (under_bindings p (application body))) (sym (atom-is (codes "let") head is)) h

  ite-tested : (head c x y : Expr) (s : Sorts) (t : Bool) → is_atom (codes "ite") head ≡ t
      → IsSorted s (choice_rule (sort_of fs s c ∷ sort_of fs s x ∷ sort_of fs s y ∷ [])) (under_choice c y (application x))
      → IsSorted s (sort_of fs s (Node (Then head (Then c (Then x (Then y End)))))) (cond t (under_choice c y (application x)) None)
  ite-tested head c x y s false is h = λ r has b e. absurd (cc)
  ite-tested head c x y s true is h =
      subst (λ g. IsSorted s (sort_of fs s (Node (Then g (Then c (Then x (Then y End)))))) (under_choice c y (application x))) (sym (atom-is (codes "ite") head is)) h

  items-is : (es : Exprs) (s : Sorts) → IsSorted s (sort_of fs s (Node es)) (plain_items es)
  items-is End s = λ r has b is. absurd (cc)
  items-is (Then head rest) s = plain-is head rest s

  first-is : (s : Sorts) (v : Option Sort) (o p q : Option Application) → IsSorted s v o → IsSorted s v p → IsSorted s v q → IsSorted s v (first_applied o p q)
  first-is s v (Some a) p q h l r = h
  first-is s v None (Some b) q h l r = l
  first-is s v None None q h l r = r

  mutual
    application-sorted : (x : Expr) (s : Sorts) → s (codes "true") ≡ None → IsSorted s (sort_of fs s x) (application x)
    application-sorted (Atom a) s v = λ r has b is. absurd (cc)
    application-sorted (Node es) s v = first-is s (sort_of fs s (Node es)) (in_let es) (in_ite es) (plain_items es) (let-sorted es s v) (ite-sorted es s v) (items-is es s)

    let-sorted : (es : Exprs) (s : Sorts) → s (codes "true") ≡ None → IsSorted s (sort_of fs s (Node es)) (in_let es)
    let-sorted End s v = λ r has b is. absurd (cc)
    let-sorted (Then head End) s v = λ r has b is. absurd (cc)
    let-sorted (Then head (Then p End)) s v = λ r has b is. absurd (cc)
    let-sorted (Then head (Then p (Then body (Then k ks)))) s v = λ r has b is. absurd (cc)
    let-sorted (Then head (Then p (Then body End))) s v =
        let-tested head p body s (is_atom (codes "let") head) refl (binding-pair p body s v (λ r free. application-sorted body r free))

    ite-sorted : (es : Exprs) (s : Sorts) → s (codes "true") ≡ None → IsSorted s (sort_of fs s (Node es)) (in_ite es)
    ite-sorted End s v = λ r has b is. absurd (cc)
    ite-sorted (Then head End) s v = λ r has b is. absurd (cc)
    ite-sorted (Then head (Then c End)) s v = λ r has b is. absurd (cc)
    ite-sorted (Then head (Then c (Then x End))) s v = λ r has b is. absurd (cc)
    ite-sorted (Then head (Then c (Then x (Then y (Then k ks))))) s v = λ r has b is. absurd (cc)
    ite-sorted (Then head (Then c (Then x (Then y End)))) s v =
        ite-tested head c x y s (is_atom (codes "ite") head) refl (choice-tested c x y s (is_falsity y) refl v (application-sorted x s v))

  -- ---- branches

  module _ (are : AreRules fs) (s : Sorts) (v : s (codes "true") ≡ None) (c : Expr) (is : sort_of fs s c ≡ Some sort.Bool) where
    chosen-by : (t : Bool) (x y : Expr) (r : Sort) → sort_of fs s x ≡ Some r → sort_of fs s y ≡ Some r → sort_of fs s (cond t x (ite c x y)) ≡ Some r
    chosen-by true x y r p q = p
    chosen-by false x y r p q = ite-sort fs s c x y r is p q

    chosen-sort : (x y : Expr) (r : Sort) → sort_of fs s x ≡ Some r → sort_of fs s y ≡ Some r → sort_of fs s (chosen c x y) ≡ Some r
    chosen-sort x y r p q = chosen-by (same_atom x y) x y r p q

    guard-chosen : (r : Sort) (o p : Option Expr) → GuardHas s r o → GuardHas s r p → GuardHas s r (chosen_guard c o p)
    guard-chosen r None None h l = tt
    guard-chosen r None (Some y) h l = (chosen-sort (Atom (codes "true")) y sort.Bool (true-sort fs s f v) l.0, l.1)
    guard-chosen r (Some x) None h l = (chosen-sort x (Atom (codes "true")) sort.Bool h.0 (true-sort fs s f v), h.1)
    guard-chosen r (Some x) (Some y) h l = (chosen-sort x y sort.Bool h.0 l.0, h.1)

    -- the first argument fits the first parameter, and the rest fits
    first-fits : (p : List ℕ × Sort) (ps : List (List ℕ × Sort)) (o : Option Sort) (ss : List (Option Sort)) → sorts_fit (p ∷ ps) (o ∷ ss) ≡ true → (o ≡ Some p.1) × (sorts_fit ps ss ≡ true)
    first-fits p ps None ss h = absurd (cc)
    first-fits p ps (Some q) ss h = let tests = both (same_sort q p.1) (sorts_fit ps ss) h in (ap Some (same_sort-is q p.1 tests.0), tests.1)

    each-fits : (ps : List (List ℕ × Sort)) (xs ys : Exprs) → same_count xs ys ≡ true → sorts_fit ps (sorts_of fs s xs) ≡ true → sorts_fit ps (sorts_of fs s ys) ≡ true
        → sorts_fit ps (sorts_of fs s (chosen_each c xs ys)) ≡ true
    each-fits ps End End e h l = h
    each-fits ps End (Then y ys) e h l = absurd (cc)
    each-fits ps (Then x xs) End e h l = absurd (cc)
    each-fits [] (Then x xs) (Then y ys) e h l = absurd (cc)
    each-fits (p ∷ ps) (Then x xs) (Then y ys) e h l =
        let first = first-fits p ps (sort_of fs s x) (sorts_of fs s xs) h in
        let second = first-fits p ps (sort_of fs s y) (sorts_of fs s ys) l in
        (λ j. sorts_fit (p ∷ ps) (chosen-sort x y p.1 first.0 second.0 j ∷ sorts_of fs s (chosen_each c xs ys)))
        ∙ (λ j. same_sort-self p.1 j && each-fits ps xs ys e first.1 second.1 j)

    fitting : (t : Bool) (q r : Sort) → cond t (Some q) None ≡ Some r → (t ≡ true) × (q ≡ r)
    fitting true q r h = let same : q ≡ r = cc in (refl, same)
    fitting false q r h = absurd (cc)

    ruled : (h : FunTree) (xs ys : Exprs) (r : Sort) → same_count xs ys ≡ true → rule_of h (sorts_of fs s xs) ≡ Some r → rule_of h (sorts_of fs s ys) ≡ Some r
        → rule_of h (sorts_of fs s (chosen_each c xs ys)) ≡ Some r
    ruled h xs ys r e p q =
        let first = fitting (sorts_fit h.params (sorts_of fs s xs)) h.sort r p in
        let second = fitting (sorts_fit h.params (sorts_of fs s ys)) h.sort r q in
        (λ j. cond (each-fits h.params xs ys e first.0 second.0 j) (Some h.sort) None) ∙ ap Some first.1

    applied-by : (name : List ℕ) (o : Option Rule) → ((rule : Rule) → o ≡ Some rule → (h : FunTree) × (rule ≡ rule_of h)) → (xs ys : Exprs) (r : Sort) → same_count xs ys ≡ true
        → unwrap_or (option_map (λ (rule : Rule). rule (sorts_of fs s xs)) o) None ≡ Some r → unwrap_or (option_map (λ (rule : Rule). rule (sorts_of fs s ys)) o) None ≡ Some r
        → unwrap_or (option_map (λ (rule : Rule). rule (sorts_of fs s (chosen_each c xs ys))) o) None ≡ Some r
    applied-by name None all xs ys r e p q = absurd (cc)
    applied-by name (Some rule) all xs ys r e p q =
        let h = all rule refl in
        (λ j. h.1 j (sorts_of fs s (chosen_each c xs ys)))
        ∙ ruled h.0 xs ys r e ((λ j. sym h.1 j (sorts_of fs s xs)) ∙ p) ((λ j. sym h.1 j (sorts_of fs s ys)) ∙ q)

    joined-sort : (r : Sort) (a d : Application) → Has s r a → Has s r d → a.name ≡ d.name → same_count a.args d.args ≡ true → sort_of fs s (application_expr (joined_applications c a d)) ≡ Some r
    joined-sort r a d h l same count =
        guarded-sort s v r (chosen_guard c a.guard d.guard) a.name (chosen_each c a.args d.args) (guard-chosen r a.guard d.guard h.0 l.0)
        (applied-by a.name (fs a.name) (are a.name) a.args d.args r count h.1 ((λ j. applied_sort fs (same j) (sorts_of fs s d.args)) ∙ l.1)) h.2

    branch-tested : (x y : Expr) (r : Sort) (a d : Application) (t : Bool) → (bytes_eq a.name d.name && same_count a.args d.args) ≡ t → sort_of fs s x ≡ Some r → sort_of fs s y ≡ Some r → Has s r a → Has s r d
        → sort_of fs s (cond t (application_expr (joined_applications c a d)) (ite c x y)) ≡ Some r
    branch-tested x y r a d true e p q h l =
        let tests = both (bytes_eq a.name d.name) (same_count a.args d.args) e in
        joined-sort r a d h l ((bytes_eq-Decides a.name d.name).0 tests.0) tests.1
    branch-tested x y r a d false e p q h l = ite-sort fs s c x y r is p q

    branch-by : (x y : Expr) (r : Sort) (o p : Option Application) → sort_of fs s x ≡ Some r → sort_of fs s y ≡ Some r
        → ((a : Application) → o ≡ Some a → Has s r a) → ((a : Application) → p ≡ Some a → Has s r a) → sort_of fs s (branch_of c o p (ite c x y)) ≡ Some r
    branch-by x y r None p m n h l = ite-sort fs s c x y r is m n
    branch-by x y r (Some a) None m n h l = ite-sort fs s c x y r is m n
    branch-by x y r (Some a) (Some d) m n h l = branch-tested x y r a d (bytes_eq a.name d.name && same_count a.args d.args) refl m n (h a refl) (l d refl)

    pub branch-sort : (x y : Expr) (r : Sort) → sort_of fs s x ≡ Some r → sort_of fs s y ≡ Some r → sort_of fs s (branch_expr c x y) ≡ Some r
    branch-sort x y r m n = branch-by x y r (application x) (application y) m n (application-sorted x s v r m) (application-sorted y s v r n)
