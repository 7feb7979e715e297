-- The kind of a term is told by its node.
use Rattle.std.proofs.Common.{◌≡◌, ℕ, zero, suc, Bool, true, false, List, [], ◌∷◌, ◌++◌, map, Option, Some, None, refl, sym, ap, ◌∙◌, append_assoc}
use Rattle.std.specs.Prelude.{option_map, slice_get}
use Rattle.std.specs.List.{fold}
use Rattle.std.proofs.lemmas.List.{append-nil, map-append}
use Rattle.term_arena.specs.declared.node.Node.{Node}
use Rattle.term_arena.specs.declared.node.Node.TheVariants as node
use Rattle.term_arena.specs.Arena.{Tree, OfWord, OfMem, OfCond, as_word, as_mem, as_cond, tree_over, with_tree, trees_of, tree_of}
use Rattle.short_text.specs.declared.kind.Kind.{Kind}
use Rattle.short_text.specs.declared.kind.Kind.TheVariants.{Word, Mem, Cond}
use Rattle.short_text.specs.inner.Kinds.{kind_of, same_kind, is_of_kind, has_kind, IsOfKind}

abbrev tree_kind : Tree → Kind
tree_kind (OfWord t) = Word
tree_kind (OfMem m) = Mem
tree_kind (OfCond c) = Cond

over-kind : (ts : List Tree) (n : Node) → tree_kind (tree_over ts n) ≡ kind_of n
over-kind ts (node.Const n) = refl
over-kind ts (node.WordVar i) = refl
over-kind ts (node.Bin op a b) = refl
over-kind ts (node.Extend ext a) = refl
over-kind ts (node.Load width m a) = refl
over-kind ts (node.MemVar i) = refl
over-kind ts (node.Store width m a v) = refl
over-kind ts (node.Compare cmp a b) = refl
over-kind ts (node.Neg c) = refl
over-kind ts (node.Inside width m a) = refl

fold-kinds : (ts : List Tree) (ns : List Node) → map tree_kind (fold with_tree ts ns) ≡ map tree_kind ts ++ map kind_of ns
fold-kinds ts [] = sym (append-nil (map tree_kind ts))
fold-kinds ts (n ∷ ns) =
    fold-kinds (with_tree ts n) ns
    ∙ ap (λ (ks : List Kind). ks ++ map kind_of ns) (map-append tree_kind ts (tree_over ts n ∷ []))
    ∙ append_assoc (map tree_kind ts) (tree_kind (tree_over ts n) ∷ []) (map kind_of ns)
    ∙ ap (λ (k : Kind). map tree_kind ts ++ (k ∷ map kind_of ns)) (over-kind ts n)

kinds-are : (ns : List Node) → map tree_kind (trees_of ns) ≡ map kind_of ns
unfolding trees_of
kinds-are ns = fold-kinds [] ns

at-map : {A B : Type 0} (f : A → B) (xs : List A) (k : ℕ) → slice_get (map f xs) k ≡ option_map f (slice_get xs k)
at-map f [] k = refl
at-map f (x ∷ xs) zero = refl
at-map f (x ∷ xs) (suc k) = at-map f xs k

abbrev is_kind : Kind → Option Kind → Bool
is_kind kind None = false
is_kind kind (Some q) = same_kind q kind

by-kind : (kind : Kind) (o : Option Node) → is_of_kind kind o ≡ is_kind kind (option_map kind_of o)
by-kind kind None = refl
by-kind kind (Some n) = refl

-- by the tree
told : (ns : List Node) (kind : Kind) (k : ℕ) → has_kind ns kind k ≡ is_kind kind (option_map tree_kind (tree_of ns k))
told ns kind k =
    by-kind kind (slice_get ns k)
    ∙ ap (is_kind kind) (sym (at-map kind_of ns k) ∙ ap (λ (ks : List Kind). slice_get ks k) (sym (kinds-are ns)) ∙ at-map tree_kind (trees_of ns) k)

abbrev Stands : Kind → Option Tree → Type 0
Stands Word o = o ≡ Some (OfWord (as_word o))
Stands Mem o = o ≡ Some (OfMem (as_mem o))
Stands Cond o = o ≡ Some (OfCond (as_cond o))

tree-stands : (kind : Kind) (o : Option Tree) → is_kind kind (option_map tree_kind o) ≡ true → Stands kind o
tree-stands kind None e = absurd cc
tree-stands Word (Some (OfWord t)) e = refl
tree-stands Word (Some (OfMem m)) e = absurd cc
tree-stands Word (Some (OfCond c)) e = absurd cc
tree-stands Mem (Some (OfWord t)) e = absurd cc
tree-stands Mem (Some (OfMem m)) e = refl
tree-stands Mem (Some (OfCond c)) e = absurd cc
tree-stands Cond (Some (OfWord t)) e = absurd cc
tree-stands Cond (Some (OfMem m)) e = absurd cc
tree-stands Cond (Some (OfCond c)) e = refl

stands-tree : (kind : Kind) (o : Option Tree) → Stands kind o → is_kind kind (option_map tree_kind o) ≡ true
stands-tree Word None e = absurd cc
stands-tree Mem None e = absurd cc
stands-tree Cond None e = absurd cc
stands-tree Word (Some (OfWord t)) e = refl
stands-tree Word (Some (OfMem m)) e = absurd cc
stands-tree Word (Some (OfCond c)) e = absurd cc
stands-tree Mem (Some (OfWord t)) e = absurd cc
stands-tree Mem (Some (OfMem m)) e = refl
stands-tree Mem (Some (OfCond c)) e = absurd cc
stands-tree Cond (Some (OfWord t)) e = absurd cc
stands-tree Cond (Some (OfMem m)) e = absurd cc
stands-tree Cond (Some (OfCond c)) e = refl

as-stands : (ns : List Node) (kind : Kind) (k : ℕ) → Stands kind (tree_of ns k) → IsOfKind ns kind k
as-stands ns Word k h = h
as-stands ns Mem k h = h
as-stands ns Cond k h = h

stands-as : (ns : List Node) (kind : Kind) (k : ℕ) → IsOfKind ns kind k → Stands kind (tree_of ns k)
stands-as ns Word k h = h
stands-as ns Mem k h = h
stands-as ns Cond k h = h

pub kind-is : (ns : List Node) (kind : Kind) (k : ℕ) → has_kind ns kind k ≡ true → IsOfKind ns kind k
kind-is ns kind k e = as-stands ns kind k (tree-stands kind (tree_of ns k) (sym (told ns kind k) ∙ e))

pub is-kind : (ns : List Node) (kind : Kind) (k : ℕ) → IsOfKind ns kind k → has_kind ns kind k ≡ true
is-kind ns kind k h = told ns kind k ∙ stands-tree kind (tree_of ns k) (stands-as ns kind k h)
