-- Depths of terms as an arena keeps them, when there is one more.
use Rattle.std.proofs.Common.{◌≡◌, ℕ, zero, suc, ◌+◌, List, [], ◌∷◌, ◌++◌, Option, Some, None, length, map, max, refl, ap, sym, ◌∙◌, inl, inr, subst, arith}
use Rattle.std.specs.Prelude.{IfSome, slice_get, slice_index}
use Rattle.std.proofs.lemmas.List.{length-map, map-append}
use Rattle.word_terms.specs.Tree.{told_depth}
use Rattle.term_arena.specs.declared.node.Node.{Node}
use Rattle.term_arena.specs.declared.node.Node.TheVariants as node
use Rattle.term_arena.specs.Arena.{AreBelow, AreChildren, Tree, TreeInRange, tree_depth, tree_of, tree_over, trees_of}
use Rattle.term_arena.specs.inner.Depths.{AreMeasured, NodeInRange, depth_over}
use Rattle.term_arena.proofs.Places.{at-push_cases}
use Rattle.term_arena.proofs.TreeLemmas.{children_below, length-trees, trees-none, trees-push}

-- ---- the numbers of one more fit

module _ (ns : List Node) (ranges : (k : ℕ) (t : Tree) → tree_of ns k ≡ Some t → TreeInRange t) where
  range-over : (n : Node) → AreChildren ns n → NodeInRange n → TreeInRange (tree_over (trees_of ns) n)
  range-over (node.Const n) h r = (r, tt)
  range-over (node.WordVar i) h r = (tt, r)
  range-over (node.Bin op a b) h r = let x = ranges a _ h.0 in let y = ranges b _ h.1 in ((x.0, y.0), (x.1, y.1))
  range-over (node.Extend ext a) h r = ranges a _ h
  range-over (node.Load width m a) h r = let x = ranges m _ h.0 in let y = ranges a _ h.1 in ((x.0, y.0), (x.1, y.1))
  range-over (node.MemVar i) h r = (tt, r)
  range-over (node.Store width m a v) h r = let x = ranges m _ h.0 in let y = ranges a _ h.1 in let z = ranges v _ h.2 in ((x.0, y.0, z.0), (x.1, y.1, z.1))
  range-over (node.Compare cmp a b) h r = let x = ranges a _ h.0 in let y = ranges b _ h.1 in ((x.0, y.0), (x.1, y.1))
  range-over (node.Neg c) h r = ranges c _ h
  range-over (node.Inside width m a) h r = let x = ranges m _ h.0 in let y = ranges a _ h.1 in ((x.0, y.0), (x.1, y.1))

  pub ranges-push : (n : Node) → AreChildren ns n → NodeInRange n → (k : ℕ) (t : Tree) → tree_of (ns ++ n ∷ []) k ≡ Some t → TreeInRange t
  ranges-push n h r k t e = elim (at-push_cases (trees_of ns) (tree_over (trees_of ns) n) k t (ap (λ ts. slice_get ts k) (sym (trees-push ns n)) ∙ e)) [
    | inl old ↦ ranges k t old.1
    | inr last ↦ subst TreeInRange last.1 (range-over n h r)
  ]

-- ---- its depth is kept

index-map : {A : Type 0} (f : A → ℕ) (xs : List A) (k : ℕ) (x : A) → slice_get xs k ≡ Some x → slice_index (map f xs) k ≡ f x
index-map f [] k x e = cc
index-map f (y ∷ xs) zero x e = let d : y ≡ x = cc in ap f d
index-map f (y ∷ xs) (suc k) x e = index-map f xs k x e

told-one : (x : ℕ) → told_depth (told_depth x + 1) ≡ told_depth (x + 1)
told-one x = omega arith

told-both : (x y : ℕ) → told_depth (max (told_depth x) (told_depth y) + 1) ≡ told_depth (max x y + 1)
told-both x y = omega arith

told-all : (x y z : ℕ) → told_depth (max (told_depth x) (max (told_depth y) (told_depth z)) + 1) ≡ told_depth (max x (max y z) + 1)
told-all x y z = omega arith

abbrev told_of : Tree → ℕ
told_of t = told_depth (tree_depth t)

module _ (ns : List Node) (ds : List ℕ) (is : AreMeasured ns ds) where
  pub as_many : length ds ≡ length ns
  as_many = ap length is.told ∙ length-map (trees_of ns) told_of ∙ length-trees ns

  at : (k : ℕ) (t : Tree) → tree_of ns k ≡ Some t → slice_index ds k ≡ told_of t
  at k t e = ap (λ (l : List ℕ). slice_index l k) is.told ∙ index-map told_of (trees_of ns) k t e

  pub depth-told : (k d : ℕ) → d ≡ slice_index ds k → IfSome (tree_of ns k) (λ t. d ≡ told_depth (tree_depth t))
  depth-told k d e = go (tree_of ns k) refl
    where
      go : (o : Option Tree) → tree_of ns k ≡ o → IfSome o (λ t. d ≡ told_depth (tree_depth t))
      go None h = tt
      go (Some t) h = e ∙ at k t h

  over : (n : Node) → AreChildren ns n → told_depth (depth_over ds n) ≡ told_of (tree_over (trees_of ns) n)
  over (node.Const n) h = refl
  over (node.WordVar i) h = refl
  over (node.Bin op a b) h = (λ i. told_depth (max (at a _ h.0 i) (at b _ h.1 i) + 1)) ∙ told-both _ _
  over (node.Extend ext a) h = (λ i. told_depth (at a _ h i + 1)) ∙ told-one _
  over (node.Load width m a) h = (λ i. told_depth (max (at m _ h.0 i) (at a _ h.1 i) + 1)) ∙ told-both _ _
  over (node.MemVar i) h = refl
  over (node.Store width m a v) h = (λ i. told_depth (max (at m _ h.0 i) (max (at a _ h.1 i) (at v _ h.2 i)) + 1)) ∙ told-all _ _ _
  over (node.Compare cmp a b) h = (λ i. told_depth (max (at a _ h.0 i) (at b _ h.1 i) + 1)) ∙ told-both _ _
  over (node.Neg c) h = (λ i. told_depth (at c _ h i + 1)) ∙ told-one _
  over (node.Inside width m a) h = (λ i. told_depth (max (at m _ h.0 i) (at a _ h.1 i) + 1)) ∙ told-both _ _

  -- the children of a node have a depth
  pub are_there : (n : Node) → AreChildren ns n → AreBelow (length ds) n
  are_there n h = subst (λ (k : ℕ). AreBelow k n) (sym as_many) (children_below ns n h)

  -- one more
  pub measured-push : (n : Node) (d : ℕ) → AreChildren ns n → NodeInRange n → d ≡ told_depth (depth_over ds n) → AreMeasured (ns ++ n ∷ []) (ds ++ d ∷ [])
  measured-push n d h r e = record {
    told = (λ i. is.told i ++ (e ∙ over n h) i ∷ []) ∙ sym (map-append told_of (trees_of ns) (tree_over (trees_of ns) n ∷ [])) ∙ ap (map told_of) (sym (trees-push ns n));
    ranges = ranges-push ns is.ranges n h r;
  }

-- nothing is there yet
pub measured-none : (ns : List Node) (ds : List ℕ) → ns ≡ [] → ds ≡ [] → AreMeasured ns ds
measured-none ns ds no_nodes no_depths =
    let none : trees_of ns ≡ [] = ap trees_of no_nodes ∙ trees-none in
    record { told = no_depths ∙ sym (ap (map told_of) none); ranges = λ k t e. let bad = ap (λ (ts : List Tree). slice_get ts k) (sym none) ∙ e in absurd (cc) }
