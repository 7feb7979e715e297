-- Terms and functions as tokens, printed one after the other.
use Rattle.std.proofs.Common.{◌≡◌, ℕ, List, [], ◌∷◌, ◌++◌, map, flat_map, codes, rules, refl, sym, ap, ◌∙◌}
use Rattle.std.specs.Fmt.{decimal}
use Rattle.mc_text.specs.Tokens.{Left, Right, Atom as Name, Eol}
use Rattle.mc_text.specs.Printing.{Page, put, print}
use Rattle.mc_text.proofs.Printed.{print_append}
use Rattle.smt_terms.specs.declared.sort.Sort.{Sort}
use Rattle.smt_terms.specs.declared.sort.Sort.TheVariants as sort
use Rattle.smt_terms.specs.declared.tree.Tree.{Tree, the_lemmas}
use Rattle.smt_terms.specs.declared.tree.Tree.TheVariants as tree
use Rattle.smt_terms.specs.Expression.{Expr, Atom, Node, exprs}
use Rattle.smt_terms.specs.Meaning.{FunTree}
use Rattle.smt_terms.specs.Text.{tokens, tokens_of, bit_vector, sort_expr, param_expr, fun_tokens}
use Rattle.smt_terms.specs.Views.{expr}

pub each : {A : Type 0} (f : A → Expr) (xs : List A) → tokens_of (exprs (map f xs)) ≡ flat_map (λ x. tokens (f x)) xs
each f [] = refl
each f (x ∷ xs) = λ j. tokens (f x) ++ each f xs j

pub index_printed : (p q r s t : Page) → q ≡ put (Name (codes "_")) (put Left p) → r ≡ put (Name (codes "BitVec")) q → s ≡ put (Name (codes "64")) r → t ≡ put Right s
    → t ≡ print (tokens (bit_vector (codes "64"))) p
unfolding print
index_printed p q r s t a b c d =
    d ∙ (λ j. put Right (c j)) ∙ (λ j. put Right (put (Name (codes "64")) (b j))) ∙ (λ j. put Right (put (Name (codes "64")) (put (Name (codes "BitVec")) (a j))))

pub array_printed : (o : Sort) (n : ℕ) (p q r s t : Page) → o ≡ sort.Array n → q ≡ put (Name (codes "Array")) (put Left p) → r ≡ print (tokens (bit_vector (codes "64"))) q
    → s ≡ print (tokens (bit_vector (decimal n))) r → t ≡ put Right s → t ≡ print (tokens (sort_expr o)) p
unfolding print
array_printed o n p q r s t is a b c d =
    d ∙ (λ j. put Right (c j)) ∙ (λ j. put Right (print (tokens (bit_vector (decimal n))) (b j)))
    ∙ (λ j. put Right (print (tokens (bit_vector (decimal n))) (print (tokens (bit_vector (codes "64"))) (a j))))
    ∙ (λ j. print (tokens (sort_expr (sym is j))) p)

view_atom : (name : List ℕ) → expr (tree.Atom name) ≡ Atom name
view_atom name = search (rules, the_lemmas)

view_node : (items : List Tree) → expr (tree.Node items) ≡ Node (exprs (map expr items))
view_node items = search (rules, the_lemmas)

pub atom_printed : (t : Tree) (name bytes : List ℕ) (p q : Page) → t ≡ tree.Atom name → bytes ≡ name → q ≡ put (Name bytes) p → q ≡ print (tokens (expr t)) p
unfolding print
atom_printed t name bytes p q is same a = a ∙ (λ j. put (Name (same j)) p) ∙ sym (ap (λ e. print (tokens e) p) (ap expr is ∙ view_atom name))

pub node_printed : (t : Tree) (items its : List Tree) (p q r s : Page) → t ≡ tree.Node items → its ≡ items → q ≡ put Left p → r ≡ print (tokens_of (exprs (map expr its))) q → s ≡ put Right r
    → s ≡ print (tokens (expr t)) p
unfolding print
node_printed t items its p q r s is same a b c =
    c ∙ (λ j. put Right (b j)) ∙ (λ j. put Right (print (tokens_of (exprs (map expr (same j)))) (a j)))
    ∙ sym (print_append (tokens_of (exprs (map expr items))) (Right ∷ []) (put Left p))
    ∙ sym (ap (λ e. print (tokens e) p) (ap expr is ∙ view_node items))

pub fun_printed : (f : FunTree) (name : List ℕ) (p q r s t u v : Page) → name ≡ f.name → q ≡ put (Name (codes "define-fun")) (put Left p) → r ≡ put (Name name) q
    → s ≡ print (tokens (Node (exprs (map param_expr f.params))) ++ tokens (sort_expr f.sort)) r → t ≡ print (tokens f.body) s → u ≡ put Right t → v ≡ put Eol u
    → v ≡ print (fun_tokens f) p
unfolding print
fun_printed f name p q r s t u v same a b c d e g =
    let A = tokens (Node (exprs (map param_expr f.params))) in
    let B = tokens (sort_expr f.sort) in
    let C = tokens f.body in
    let x = put (Name f.name) (put (Name (codes "define-fun")) (put Left p)) in
    let front : r ≡ x = b ∙ (λ j. put (Name (same j)) (a j)) in
    let inner : t ≡ print (A ++ (B ++ (C ++ []))) x =
    d ∙ (λ j. print C (c j)) ∙ (λ j. print C (print_append A B r j)) ∙ (λ j. print C (print B (print A (front j))))
    ∙ sym (print_append C [] (print B (print A x))) ∙ sym (print_append B (C ++ []) (print A x)) ∙ sym (print_append A (B ++ (C ++ [])) x) in
    g ∙ (λ j. put Eol (e j)) ∙ (λ j. put Eol (put Right (inner j)))
    ∙ (λ j. put Eol (sym (print_append (A ++ (B ++ (C ++ []))) (Right ∷ []) x) j))
    ∙ sym (print_append ((A ++ (B ++ (C ++ []))) ++ Right ∷ []) (Eol ∷ []) x)
