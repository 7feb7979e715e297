-- The value and the sort of a term depend on the names alone that occur in it.
use Rattle.std.proofs.Common.{◌≡◌, ℕ, Bool, true, false, cond, List, ◌∷◌, Option, Some, None, refl, sym, ◌∙◌}
use Rattle.std.specs.Prelude.{◌||◌}
use Rattle.std.specs.Str.{bytes_eq}
use Rattle.smt_terms.specs.declared.sort.Sort.{Sort}
use Rattle.smt_terms.specs.Expression.{Expr, Atom, Node, Exprs, End, Then, occurs, occurs_in, is_atom, bound_where, bound}
use Rattle.smt_terms.specs.Symbols.{is_symbol, IsSymbol}
use Rattle.smt_terms.specs.Meaning.{Named, Variables, Functions, bind, term_head, atom_value, literal_value, by_head, value, binding_value, values}
use Rattle.smt_terms.specs.Sorts.{Sorts, Rules, atom_sort, literal_sort, sort_by_head, sort_of, binding_sort, bound_sort, sorts_of}

neither : (a b : Bool) → (a || b) ≡ false → (a ≡ false) × (b ≡ false)
neither true b h = absurd (cc)
neither false b h = (refl, h)

-- the same names but for x
abbrev Agree : {A : Type 0} → List ℕ → Named A → Named A → Type 0
Agree x s r = (z : List ℕ) → bytes_eq z x ≡ false → s z ≡ r z

agree-bind : {A : Type 0} (x y : List ℕ) (s r : Named A) (v : A) → Agree x s r → Agree x (bind s y v) (bind r y v)
agree-bind x y s r v h = λ z d j. cond (bytes_eq z y) (Some v) (h z d j)

module _ (x : List ℕ) where
  agree-bound : {A : Type 0} (s : Named A) (v : A) → Agree x (bind s x v) s
  agree-bound s v = λ z d j. cond (d j) (Some v) (s z)

  module _ (fs : Functions) where
    mutual
      value-same : (e : Expr) (s r : Variables) → Agree x s r → occurs x e ≡ false → value fs s e ≡ value fs r e
      value-same (Atom a) s r h o = λ j. atom_value (h a o j) (fs a) a
      value-same (Node End) s r h o = refl
      value-same (Node (Then head rest)) s r h o =
          let p = (neither (occurs x head) (occurs_in x rest) o).1 in
          λ j. by_head fs (term_head head) (λ _. binding-same rest s r h p j) (literal_value rest) (λ _. values-same rest s r h p j)

      binding-same : (es : Exprs) (s r : Variables) → Agree x s r → occurs_in x es ≡ false → binding_value fs s es ≡ binding_value fs r es
      binding-same (Then (Node (Then (Node (Then (Atom y) (Then e End))) End)) (Then body End)) s r h o =
          let p = neither (occurs x (Node (Then (Node (Then (Atom y) (Then e End))) End))) (occurs_in x (Then body End)) o in
          let q = neither (occurs x (Node (Then (Atom y) (Then e End)))) false p.0 in
          let t = neither (bytes_eq y x) (occurs_in x (Then e End)) q.0 in
          let first = value-same e s r h (neither (occurs x e) false t.1).0 in
          (λ j. value fs (bind s y (first j)) body) ∙ value-same body (bind s y (value fs r e)) (bind r y (value fs r e)) (agree-bind x y s r (value fs r e) h) (neither (occurs x body) false p.1).0
      binding-same End s r h o = refl
      binding-same (Then (Atom a) es) s r h o = refl
      binding-same (Then (Node End) es) s r h o = refl
      binding-same (Then (Node (Then (Atom a) t)) es) s r h o = refl
      binding-same (Then (Node (Then (Node End) t)) es) s r h o = refl
      binding-same (Then (Node (Then (Node (Then (Node n) u)) t)) es) s r h o = refl
      binding-same (Then (Node (Then (Node (Then (Atom y) End)) t)) es) s r h o = refl
      binding-same (Then (Node (Then (Node (Then (Atom y) (Then e (Then k ks)))) t)) es) s r h o = refl
      binding-same (Then (Node (Then (Node (Then (Atom y) (Then e End))) (Then k ks))) es) s r h o = refl
      binding-same (Then (Node (Then (Node (Then (Atom y) (Then e End))) End)) End) s r h o = refl
      binding-same (Then (Node (Then (Node (Then (Atom y) (Then e End))) End)) (Then body (Then k ks))) s r h o = refl

      values-same : (es : Exprs) (s r : Variables) → Agree x s r → occurs_in x es ≡ false → values fs s es ≡ values fs r es
      values-same End s r h o = refl
      values-same (Then e es) s r h o = let p = neither (occurs x e) (occurs_in x es) o in λ j. value-same e s r h p.0 j ∷ values-same es s r h p.1 j

    atom-same : (e body : Expr) (s : Variables) → is_atom x body ≡ true → value fs s e ≡ value fs (bind s x (value fs s e)) body
    atom-same e (Atom a) s is = sym (λ j. atom_value (cond (is j) (Some (value fs s e)) (s a)) (fs a) a)
    atom-same e (Node es) s is = absurd (cc)

    bound-by : (a b : Bool) (e body : Expr) (s : Variables) → is_atom x body ≡ a → occurs x body ≡ b → value fs s (bound_where a b x e body) ≡ value fs (bind s x (value fs s e)) body
    bound-by true b e body s is o = atom-same e body s is
    bound-by false true e body s is o = refl
    bound-by false false e body s is o = sym (value-same body (bind s x (value fs s e)) s (agree-bound s (value fs s e)) o)

    pub bound-value : (e body : Expr) (s : Variables) → value fs s (bound x e body) ≡ value fs (bind s x (value fs s e)) body
    bound-value e body s = bound-by (is_atom x body) (occurs x body) e body s refl refl

  -- ---- sorts

  bound_sort-same : (y : List ℕ) (o : Option Sort) (s r : Sorts) → Agree x s r → (f : Sorts → Option Sort) → ((s r : Sorts) → Agree x s r → f s ≡ f r) → bound_sort s y o f ≡ bound_sort r y o f
  bound_sort-same y None s r h f same = refl
  bound_sort-same y (Some t) s r h f same = λ j. cond (is_symbol y) (same (bind s y t) (bind r y t) (agree-bind x y s r t h) j) None

  module _ (fs : Rules) where
    mutual
      sort-same : (e : Expr) (s r : Sorts) → Agree x s r → occurs x e ≡ false → sort_of fs s e ≡ sort_of fs r e
      sort-same (Atom a) s r h o = λ j. atom_sort (h a o j) (fs a) a
      sort-same (Node End) s r h o = refl
      sort-same (Node (Then head rest)) s r h o =
          let p = (neither (occurs x head) (occurs_in x rest) o).1 in
          λ j. sort_by_head fs (term_head head) (λ _. binding_sort-same rest s r h p j) (literal_sort rest) (λ _. sorts-same rest s r h p j)

      binding_sort-same : (es : Exprs) (s r : Sorts) → Agree x s r → occurs_in x es ≡ false → binding_sort fs s es ≡ binding_sort fs r es
      binding_sort-same (Then (Node (Then (Node (Then (Atom y) (Then e End))) End)) (Then body End)) s r h o =
          let p = neither (occurs x (Node (Then (Node (Then (Atom y) (Then e End))) End))) (occurs_in x (Then body End)) o in
          let q = neither (occurs x (Node (Then (Atom y) (Then e End)))) false p.0 in
          let t = neither (bytes_eq y x) (occurs_in x (Then e End)) q.0 in
          let first = sort-same e s r h (neither (occurs x e) false t.1).0 in
          let ob = (neither (occurs x body) false p.1).0 in
          (λ j. bound_sort s y (first j) (λ u. sort_of fs u body)) ∙ bound_sort-same y (sort_of fs r e) s r h (λ u. sort_of fs u body) (λ s r h. sort-same body s r h ob)
      binding_sort-same End s r h o = refl
      binding_sort-same (Then (Atom a) es) s r h o = refl
      binding_sort-same (Then (Node End) es) s r h o = refl
      binding_sort-same (Then (Node (Then (Atom a) t)) es) s r h o = refl
      binding_sort-same (Then (Node (Then (Node End) t)) es) s r h o = refl
      binding_sort-same (Then (Node (Then (Node (Then (Node n) u)) t)) es) s r h o = refl
      binding_sort-same (Then (Node (Then (Node (Then (Atom y) End)) t)) es) s r h o = refl
      binding_sort-same (Then (Node (Then (Node (Then (Atom y) (Then e (Then k ks)))) t)) es) s r h o = refl
      binding_sort-same (Then (Node (Then (Node (Then (Atom y) (Then e End))) (Then k ks))) es) s r h o = refl
      binding_sort-same (Then (Node (Then (Node (Then (Atom y) (Then e End))) End)) End) s r h o = refl
      binding_sort-same (Then (Node (Then (Node (Then (Atom y) (Then e End))) End)) (Then body (Then k ks))) s r h o = refl

      sorts-same : (es : Exprs) (s r : Sorts) → Agree x s r → occurs_in x es ≡ false → sorts_of fs s es ≡ sorts_of fs r es
      sorts-same End s r h o = refl
      sorts-same (Then e es) s r h o = let p = neither (occurs x e) (occurs_in x es) o in λ j. sort-same e s r h p.0 j ∷ sorts-same es s r h p.1 j

    atom_sort-same : (e body : Expr) (s : Sorts) (t : Sort) → sort_of fs s e ≡ Some t → is_atom x body ≡ true → sort_of fs s e ≡ sort_of fs (bind s x t) body
    atom_sort-same e (Atom a) s t has is = has ∙ sym (λ j. atom_sort (cond (is j) (Some t) (s a)) (fs a) a)
    atom_sort-same e (Node es) s t has is = absurd (cc)

    bound_sort-by : (a b : Bool) (e body : Expr) (s : Sorts) (t : Sort) → IsSymbol x → sort_of fs s e ≡ Some t → is_atom x body ≡ a → occurs x body ≡ b
        → sort_of fs s (bound_where a b x e body) ≡ sort_of fs (bind s x t) body
    bound_sort-by true b e body s t symbol has is o = atom_sort-same e body s t has is
    bound_sort-by false true e body s t symbol has is o = (λ j. bound_sort s x (has j) (λ u. sort_of fs u body)) ∙ (λ j. cond (symbol j) (sort_of fs (bind s x t) body) None)
    bound_sort-by false false e body s t symbol has is o = sym (sort-same body (bind s x t) s (agree-bound s t) o)

    pub bound-sort : (e body : Expr) (s : Sorts) (t : Sort) → IsSymbol x → sort_of fs s e ≡ Some t → sort_of fs s (bound x e body) ≡ sort_of fs (bind s x t) body
    bound-sort e body s t symbol has = bound_sort-by (is_atom x body) (occurs x body) e body s t symbol has refl refl
