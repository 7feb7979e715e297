-- What numbers stand for when the arena grows, and that it is another for each.
use Rattle.std.proofs.Common.{◌≡◌, ◌↔◌, ℕ, ◌+◌, ◌<◌, List, [], ◌∷◌, ◌++◌, Some, length, take, refl, ap, sym, ◌∙◌, inl, inr, subst, arith, length-append, append_assoc}
use Rattle.std.specs.Prelude.{slice_get}
use Rattle.std.specs.List.{fold, Contains}
use Rattle.std.proofs.lemmas.List.{append-nil, take-append-le, length-take-le}
use Rattle.std.proofs.lemmas.List.Sums.{fold-append}
use Rattle.std.proofs.lemmas.Option.{slice_get_within}
use Rattle.std.proofs.Math.Seq.{take-append_seam}
use Rattle.word_terms.specs.Tree.{WordTree, MemTree, CondTree, Const, Var, Bin, Extend, Load, MemVar, Store, Compare, Neg, Inside}
use Rattle.term_arena.specs.declared.node.Node.{Node}
use Rattle.term_arena.specs.declared.node.Node.TheVariants as node
use Rattle.term_arena.specs.Arena.{Tree, OfWord, OfMem, OfCond, as_word, as_mem, as_cond, tree_over, with_tree, trees_of, tree_of, word_of, mem_of, cond_of, IsWordAt, IsMemAt, IsCondAt, AreChildren, AreBelow, IsArena}
use Rattle.term_arena.proofs.TreeNodes.{TreeNode}
use Rattle.term_arena.proofs.Places.{at-append, at-push, at-push_cases, at_place, split_at, contains_at}

-- ---- trees of more nodes

fold-trees : (ts : List Tree) (ns : List Node) → (rest : List Tree) × (fold with_tree ts ns ≡ ts ++ rest)
fold-trees ts [] = ([], sym (append-nil ts))
fold-trees ts (n ∷ ns) = let h = fold-trees (with_tree ts n) ns in (tree_over ts n ∷ h.0, h.1 ∙ append_assoc ts (tree_over ts n ∷ []) h.0)

pub trees-none : trees_of [] ≡ []
unfolding trees_of
trees-none = refl

pub trees-push : (ns : List Node) (n : Node) → trees_of (ns ++ n ∷ []) ≡ with_tree (trees_of ns) n
unfolding trees_of
trees-push ns n = fold-append with_tree [] ns (n ∷ [])

trees-append : (ns more : List Node) → (rest : List Tree) × (trees_of (ns ++ more) ≡ trees_of ns ++ rest)
unfolding trees_of
trees-append ns more = let h = fold-trees (fold with_tree [] ns) more in (h.0, fold-append with_tree [] ns more ∙ h.1)

length-fold : (ts : List Tree) (ns : List Node) → length (fold with_tree ts ns) ≡ length ts + length ns
length-fold ts [] = omega arith
length-fold ts (n ∷ ns) = length-fold (with_tree ts n) ns ∙ omega (arith, length-append ts (tree_over ts n ∷ []))

pub length-trees : (ns : List Node) → length (trees_of ns) ≡ length ns
unfolding trees_of
length-trees ns = length-fold [] ns ∙ omega arith

-- each number keeps its tree
pub tree_of-kept : (ns more : List Node) (k : ℕ) (x : Tree) → tree_of ns k ≡ Some x → tree_of (ns ++ more) k ≡ Some x
tree_of-kept ns more k x e = let h = trees-append ns more in ap (λ ts. slice_get ts k) h.1 ∙ at-append (trees_of ns) h.0 k x e

-- ---- kinds

pub word_there : (ns : List Node) (k : ℕ) (t : WordTree) → tree_of ns k ≡ Some (OfWord t) → IsWordAt ns k
word_there ns k t e = e ∙ sym (ap (λ o. Some (OfWord (as_word o))) e)

pub mem_there : (ns : List Node) (k : ℕ) (m : MemTree) → tree_of ns k ≡ Some (OfMem m) → IsMemAt ns k
mem_there ns k m e = e ∙ sym (ap (λ o. Some (OfMem (as_mem o))) e)

pub cond_there : (ns : List Node) (k : ℕ) (c : CondTree) → tree_of ns k ≡ Some (OfCond c) → IsCondAt ns k
cond_there ns k c e = e ∙ sym (ap (λ o. Some (OfCond (as_cond o))) e)

pub word_kept : (ns more : List Node) (k : ℕ) → IsWordAt ns k → IsWordAt (ns ++ more) k
word_kept ns more k h = word_there (ns ++ more) k (word_of ns k) (tree_of-kept ns more k _ h)

pub mem_kept : (ns more : List Node) (k : ℕ) → IsMemAt ns k → IsMemAt (ns ++ more) k
mem_kept ns more k h = mem_there (ns ++ more) k (mem_of ns k) (tree_of-kept ns more k _ h)

pub cond_kept : (ns more : List Node) (k : ℕ) → IsCondAt ns k → IsCondAt (ns ++ more) k
cond_kept ns more k h = cond_there (ns ++ more) k (cond_of ns k) (tree_of-kept ns more k _ h)

pub same_word_of : (ns more : List Node) (k : ℕ) → IsWordAt ns k → word_of (ns ++ more) k ≡ word_of ns k
same_word_of ns more k h = ap as_word (tree_of-kept ns more k _ h)

pub same_mem_of : (ns more : List Node) (k : ℕ) → IsMemAt ns k → mem_of (ns ++ more) k ≡ mem_of ns k
same_mem_of ns more k h = ap as_mem (tree_of-kept ns more k _ h)

pub same_cond_of : (ns more : List Node) (k : ℕ) → IsCondAt ns k → cond_of (ns ++ more) k ≡ cond_of ns k
same_cond_of ns more k h = ap as_cond (tree_of-kept ns more k _ h)

pub children_kept : (ns more : List Node) (n : Node) → AreChildren ns n → AreChildren (ns ++ more) n
children_kept ns more (node.Const n) h = tt
children_kept ns more (node.WordVar i) h = tt
children_kept ns more (node.Bin op a b) h = (word_kept ns more a h.0, word_kept ns more b h.1)
children_kept ns more (node.Extend ext a) h = word_kept ns more a h
children_kept ns more (node.Load width m a) h = (mem_kept ns more m h.0, word_kept ns more a h.1)
children_kept ns more (node.MemVar i) h = tt
children_kept ns more (node.Store width m a v) h = (mem_kept ns more m h.0, word_kept ns more a h.1, word_kept ns more v h.2)
children_kept ns more (node.Compare cmp a b) h = (word_kept ns more a h.0, word_kept ns more b h.1)
children_kept ns more (node.Neg c) h = cond_kept ns more c h
children_kept ns more (node.Inside width m a) h = (mem_kept ns more m h.0, word_kept ns more a h.1)

pub same_tree_over : (ns more : List Node) (n : Node) → AreChildren ns n → tree_over (trees_of (ns ++ more)) n ≡ tree_over (trees_of ns) n
same_tree_over ns more (node.Const n) h = refl
same_tree_over ns more (node.WordVar i) h = refl
same_tree_over ns more (node.Bin op a b) h = λ i. OfWord (Bin op (same_word_of ns more a h.0 i) (same_word_of ns more b h.1 i))
same_tree_over ns more (node.Extend ext a) h = λ i. OfWord (Extend ext (same_word_of ns more a h i))
same_tree_over ns more (node.Load width m a) h = λ i. OfWord (Load width (same_mem_of ns more m h.0 i) (same_word_of ns more a h.1 i))
same_tree_over ns more (node.MemVar i) h = refl
same_tree_over ns more (node.Store width m a v) h = λ i. OfMem (Store width (same_mem_of ns more m h.0 i) (same_word_of ns more a h.1 i) (same_word_of ns more v h.2 i))
same_tree_over ns more (node.Compare cmp a b) h = λ i. OfCond (Compare cmp (same_word_of ns more a h.0 i) (same_word_of ns more b h.1 i))
same_tree_over ns more (node.Neg c) h = λ i. OfCond (Neg (same_cond_of ns more c h i))
same_tree_over ns more (node.Inside width m a) h = λ i. OfCond (Inside width (same_mem_of ns more m h.0 i) (same_word_of ns more a h.1 i))

-- ---- one more node

-- the new number's tree is that of the node over the others
pub tree_of-push : (ns : List Node) (n : Node) → tree_of (ns ++ n ∷ []) (length ns) ≡ Some (tree_over (trees_of ns) n)
tree_of-push ns n =
    ap (λ ts. slice_get ts (length ns)) (trees-push ns n)
    ∙ ap (slice_get (with_tree (trees_of ns) n)) (sym (length-trees ns))
    ∙ at-push (trees_of ns) (tree_over (trees_of ns) n)

-- each number's tree is that of its node
pub tree_of-node : (ns : List Node) (k : ℕ) (n : Node) → IsArena ns → slice_get ns k ≡ Some n → tree_of ns k ≡ Some (tree_over (trees_of ns) n)
tree_of-node ns k n a e =
    let cut = split_at ns k n e in
    let front = take k ns in
    let below : AreChildren front n = a.children k n e in
    let here : length front ≡ k = length-take-le k ns (let h = slice_get_within ns k n e in omega arith) in
    let first : tree_of (front ++ n ∷ []) k ≡ Some (tree_over (trees_of front) n) = ap (tree_of (front ++ n ∷ [])) (sym here) ∙ tree_of-push front n in
    let all : ns ≡ front ++ (n ∷ cut.0) = cut.1 ∙ append_assoc front (n ∷ []) cut.0 in
    ap (λ ms. tree_of ms k) cut.1
    ∙ tree_of-kept (front ++ n ∷ []) cut.0 k _ first
    ∙ ap Some (sym (same_tree_over front (n ∷ cut.0) n below))
    ∙ ap (λ ms. Some (tree_over (trees_of ms) n)) (sym all)

-- .. and its children are there
pub children_of-node : (ns : List Node) (k : ℕ) (n : Node) → IsArena ns → slice_get ns k ≡ Some n → AreChildren ns n
children_of-node ns k n a e =
    let cut = split_at ns k n e in
    subst (λ ms. AreChildren ms n) (sym (cut.1 ∙ append_assoc (take k ns) (n ∷ []) cut.0)) (children_kept (take k ns) (n ∷ cut.0) n (a.children k n e))

-- .. below it
pub number_within : (ns : List Node) (k : ℕ) (x : Tree) → tree_of ns k ≡ Some x → k < length ns
number_within ns k x e = let h = slice_get_within (trees_of ns) k x e in omega (arith, length-trees ns)

pub children_below : (ns : List Node) (n : Node) → AreChildren ns n → AreBelow (length ns) n
children_below ns (node.Const n) h = tt
children_below ns (node.WordVar i) h = tt
children_below ns (node.Bin op a b) h = (number_within ns a _ h.0, number_within ns b _ h.1)
children_below ns (node.Extend ext a) h = number_within ns a _ h
children_below ns (node.Load width m a) h = (number_within ns m _ h.0, number_within ns a _ h.1)
children_below ns (node.MemVar i) h = tt
children_below ns (node.Store width m a v) h = (number_within ns m _ h.0, number_within ns a _ h.1, number_within ns v _ h.2)
children_below ns (node.Compare cmp a b) h = (number_within ns a _ h.0, number_within ns b _ h.1)
children_below ns (node.Neg c) h = number_within ns c _ h
children_below ns (node.Inside width m a) h = (number_within ns m _ h.0, number_within ns a _ h.1)

pub below_node : (ns : List Node) (k : ℕ) (n : Node) → IsArena ns → slice_get ns k ≡ Some n → AreBelow k n
below_node ns k n a e =
    subst (λ (i : ℕ). AreBelow i n) (length-take-le k ns (let h = slice_get_within ns k n e in omega arith)) (children_below (take k ns) n (a.children k n e))

-- with one more node that isn't there
pub arena-push : (ns : List Node) (n : Node) → IsArena ns → AreChildren ns n → (Contains ns n → ⊥) → IsArena (ns ++ n ∷ [])
arena-push ns n a h new = record {
  children = λ k m e. elim (at-push_cases ns n k m e) [
    | inl old ↦ subst (λ ms. AreChildren ms m) (sym (take-append-le k ns (n ∷ []) (let l = old.0 in omega arith))) (a.children k m old.1)
    | inr last ↦ subst (λ (x : Node). AreChildren (take k (ns ++ n ∷ [])) x) last.1
        (subst (λ (i : ℕ). AreChildren (take i (ns ++ n ∷ [])) n) (sym last.0) (subst (λ ms. AreChildren ms n) (sym (take-append_seam ns (n ∷ []))) h))
  ];
  distinct = λ i j m ei ej. elim (at-push_cases ns n i m ei) [
    | inl oi ↦ elim (at-push_cases ns n j m ej) [
      | inl oj ↦ a.distinct i j m oi.1 oj.1
      | inr lj ↦ absurd (new (contains_at ns i n (oi.1 ∙ ap Some (sym lj.1))))
    ]
    | inr li ↦ elim (at-push_cases ns n j m ej) [
      | inl oj ↦ absurd (new (contains_at ns j n (oj.1 ∙ ap Some (sym li.1))))
      | inr lj ↦ li.0 ∙ sym lj.0
    ]
  ];
}

pub arena-none : IsArena []
arena-none = record { children = λ k n e. cc; distinct = λ i j n ei ej. cc }

-- ---- one number for a tree

node_over : (ns : List Node) (k : ℕ) (n : Node) → slice_get ns k ≡ Some n → AreChildren ns n → TreeNode ns k (tree_over (trees_of ns) n)
node_over ns k (node.Const n) e h = e
node_over ns k (node.WordVar i) e h = e
node_over ns k (node.Bin op a b) e h = (a, b, e, h.0, h.1)
node_over ns k (node.Extend ext a) e h = (a, e, h)
node_over ns k (node.Load width m a) e h = (m, a, e, h.0, h.1)
node_over ns k (node.MemVar i) e h = e
node_over ns k (node.Store width m a v) e h = (m, a, v, e, h.0, h.1, h.2)
node_over ns k (node.Compare cmp a b) e h = (a, b, e, h.0, h.1)
node_over ns k (node.Neg c) e h = (c, e, h)
node_over ns k (node.Inside width m a) e h = (m, a, e, h.0, h.1)

-- the node of a tree
pub node_of : (ns : List Node) (k : ℕ) (x : Tree) → IsArena ns → tree_of ns k ≡ Some x → TreeNode ns k x
node_of ns k x a e =
    let low : k < length ns = (let h = slice_get_within (trees_of ns) k x e in omega (arith, length-trees ns)) in
    let there = at_place ns k low in
    let is : Some (tree_over (trees_of ns) there.0) ≡ Some x = sym (tree_of-node ns k there.0 a there.1) ∙ e in
    let same : tree_over (trees_of ns) there.0 ≡ x = cc in
    subst (TreeNode ns k) same (node_over ns k there.0 there.1 (children_of-node ns k there.0 a there.1))

mutual
  word_number : (ns : List Node) → IsArena ns → (t : WordTree) (i j : ℕ) → tree_of ns i ≡ Some (OfWord t) → tree_of ns j ≡ Some (OfWord t) → i ≡ j
  word_number ns a (Const n) i j ei ej = a.distinct i j _ (node_of ns i _ a ei) (node_of ns j _ a ej)
  word_number ns a (Var v) i j ei ej = a.distinct i j _ (node_of ns i _ a ei) (node_of ns j _ a ej)
  word_number ns a (Bin op t u) i j ei ej =
      let p = node_of ns i _ a ei in
      let q = node_of ns j _ a ej in
      let x : p.0 ≡ q.0 = word_number ns a t p.0 q.0 p.3 q.3 in
      let y : p.1 ≡ q.1 = word_number ns a u p.1 q.1 p.4 q.4 in
      a.distinct i j _ (p.2 ∙ (λ k. Some (node.Bin op (x k) (y k)))) q.2
  word_number ns a (Extend ext t) i j ei ej =
      let p = node_of ns i _ a ei in
      let q = node_of ns j _ a ej in
      let x : p.0 ≡ q.0 = word_number ns a t p.0 q.0 p.2 q.2 in
      a.distinct i j _ (p.1 ∙ (λ k. Some (node.Extend ext (x k)))) q.1
  word_number ns a (Load width m t) i j ei ej =
      let p = node_of ns i _ a ei in
      let q = node_of ns j _ a ej in
      let x : p.0 ≡ q.0 = mem_number ns a m p.0 q.0 p.3 q.3 in
      let y : p.1 ≡ q.1 = word_number ns a t p.1 q.1 p.4 q.4 in
      a.distinct i j _ (p.2 ∙ (λ k. Some (node.Load width (x k) (y k)))) q.2

  mem_number : (ns : List Node) → IsArena ns → (m : MemTree) (i j : ℕ) → tree_of ns i ≡ Some (OfMem m) → tree_of ns j ≡ Some (OfMem m) → i ≡ j
  mem_number ns a (MemVar v) i j ei ej = a.distinct i j _ (node_of ns i _ a ei) (node_of ns j _ a ej)
  mem_number ns a (Store width m t v) i j ei ej =
      let p = node_of ns i _ a ei in
      let q = node_of ns j _ a ej in
      let x : p.0 ≡ q.0 = mem_number ns a m p.0 q.0 p.4 q.4 in
      let y : p.1 ≡ q.1 = word_number ns a t p.1 q.1 p.5 q.5 in
      let z : p.2 ≡ q.2 = word_number ns a v p.2 q.2 p.6 q.6 in
      a.distinct i j _ (p.3 ∙ (λ k. Some (node.Store width (x k) (y k) (z k)))) q.3

cond_number : (ns : List Node) → IsArena ns → (c : CondTree) (i j : ℕ) → tree_of ns i ≡ Some (OfCond c) → tree_of ns j ≡ Some (OfCond c) → i ≡ j
cond_number ns a (Compare cmp t u) i j ei ej =
    let p = node_of ns i _ a ei in
    let q = node_of ns j _ a ej in
    let x : p.0 ≡ q.0 = word_number ns a t p.0 q.0 p.3 q.3 in
    let y : p.1 ≡ q.1 = word_number ns a u p.1 q.1 p.4 q.4 in
    a.distinct i j _ (p.2 ∙ (λ k. Some (node.Compare cmp (x k) (y k)))) q.2
cond_number ns a (Neg c) i j ei ej =
    let p = node_of ns i _ a ei in
    let q = node_of ns j _ a ej in
    let x : p.0 ≡ q.0 = cond_number ns a c p.0 q.0 p.2 q.2 in
    a.distinct i j _ (p.1 ∙ (λ k. Some (node.Neg (x k)))) q.1
cond_number ns a (Inside width m t) i j ei ej =
    let p = node_of ns i _ a ei in
    let q = node_of ns j _ a ej in
    let x : p.0 ≡ q.0 = mem_number ns a m p.0 q.0 p.3 q.3 in
    let y : p.1 ≡ q.1 = word_number ns a t p.1 q.1 p.4 q.4 in
    a.distinct i j _ (p.2 ∙ (λ k. Some (node.Inside width (x k) (y k)))) q.2

-- two numbers of one tree are one
pub one_number : (ns : List Node) (i j : ℕ) (x : Tree) → IsArena ns → tree_of ns i ≡ Some x → tree_of ns j ≡ Some x → i ≡ j
one_number ns i j (OfWord t) a ei ej = word_number ns a t i j ei ej
one_number ns i j (OfMem m) a ei ej = mem_number ns a m i j ei ej
one_number ns i j (OfCond c) a ei ej = cond_number ns a c i j ei ej

-- and two trees of one number are one
pub one_tree : (ns : List Node) (i j : ℕ) (x y : Tree) → tree_of ns i ≡ Some x → tree_of ns j ≡ Some y → i ≡ j → x ≡ y
one_tree ns i j x y ei ej e = let same : Some x ≡ Some y = sym ei ∙ ap (tree_of ns) e ∙ ej in cc

pub numbers-trees : (ns : List Node) (i j : ℕ) (x y : Tree) → IsArena ns → tree_of ns i ≡ Some x → tree_of ns j ≡ Some y → (i ≡ j) ↔ (x ≡ y)
numbers-trees ns i j x y a ei ej = (one_tree ns i j x y ei ej, λ e. one_number ns i j x a ei (ej ∙ ap Some (sym e)))
