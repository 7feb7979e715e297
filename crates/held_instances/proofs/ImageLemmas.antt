-- Images of terms in an arena that grows.
use Rattle.std.proofs.Common.{◌≡◌, ◌⊎◌, ℕ, Bool, true, false, cond, List, [], ◌∷◌, Option, Some, None, IfSome, unwrap_or, option_map, refl, ap, sym, ◌∙◌, subst, inl, inr}
use Rattle.std.specs.Prelude.{slice_get, All, ◌==◌, if◌then◌else◌}
use Rattle.std.proofs.lemmas.Bool.{eqb-false, eqb-true}
use Rattle.std.proofs.lemmas.List.Elements.{All-head, All-tail}
use Rattle.word_terms.specs.Tree.{Const, Var, Bin, Extend, Load, MemVar, Store, Compare, Neg, Inside}
use Rattle.word_terms.specs.Substitution.{Substitution, listed, put_in_word, put_in_mem, put_in_cond}
use Rattle.term_arena.specs.declared.node.Node.{Node}
use Rattle.term_arena.specs.declared.node.Node.TheVariants as node
use Rattle.term_arena.specs.Arena.{Tree, OfWord, OfMem, OfCond, as_word, as_mem, as_cond, tree_of, trees_of, tree_over, word_of, mem_of, cond_of, IsWordAt, IsMemAt, IsCondAt, AreChildren, Extends}
use Rattle.term_arena.proofs.Places.{at-append}
use Rattle.term_arena.proofs.TreeLemmas.{same_word_of, same_mem_of, word_there, mem_there, cond_there}
use Rattle.term_arena.proofs.PutLemmas.{tree_stays}
use Rattle.held_terms.proofs.GrowthLemmas.{word_still, mem_still}
use Rattle.held_instances.specs.Image.{put_in, put_for_numbers, image_at, IsSubAt, IsImage, Known, AreImages, IsReady}
use Rattle.held_instances.specs.inner.ImageNode.{ImageNode}
use Rattle.held_instances.specs.inner.Imaging.{Updates}

-- ---- a larger arena

pub stays : (ns ms : List Node) (s : Substitution) (x y : ℕ) → Extends ns ms → IsImage ns s x y → IsImage ms s x y
stays ns ms s x y e i = record { tree = i.tree; from = tree_stays ns ms x _ e i.from; to = tree_stays ns ms y _ e i.to }

pub all_stay : (ns ms : List Node) (s : Substitution) (known : Known) → Extends ns ms → AreImages ns s known → AreImages ms s known
all_stay ns ms s known e a = record { each = λ x y h. stays ns ms s x y e (a.each x y h) }

pub still_there : (ns ms : List Node) (words mems : List (ℕ × ℕ)) → Extends ns ms → IsSubAt ns words mems → IsSubAt ms words mems
still_there ns ms words mems e s = record { each_word = λ k d h. word_still ns ms _ e (s.each_word k d h); each_mem = λ k d h. mem_still ns ms _ e (s.each_mem k d h) }

-- ---- the substitution that numbers are

listed_has : {A : Type 0} (P : A → Type 0) (ps : List (ℕ × A)) (i : ℕ) → All (λ p. P p.1) ps → IfSome (listed ps i) P
listed_has P [] i h = tt
listed_has {A} P (p ∷ ps) i h = here (p.0 == i) (listed_has P ps i (All-tail (λ (q : ℕ × A). P q.1) p ps h))
  where
    here : (b : Bool) → IfSome (listed ps i) P → IfSome (if b then Some p.1 else listed ps i) P
    here true rest = All-head (λ (q : ℕ × A). P q.1) p ps h
    here false rest = rest

same_image : {A : Type 0} (f g : ℕ → A) (o : Option ℕ) → IfSome o (λ k. f k ≡ g k) → option_map f o ≡ option_map g o
same_image f g None h = refl
same_image f g (Some k) h = ap Some h

weaker : {A : Type 0} (P Q : A → Type 0) (o : Option A) → ((x : A) → P x → Q x) → IfSome o P → IfSome o Q
weaker P Q None f h = tt
weaker P Q (Some x) f h = f x h

pub same_sub : (ns ms : List Node) (words mems : List (ℕ × ℕ)) → Extends ns ms → IsSubAt ns words mems → put_for_numbers ms words mems ≡ put_for_numbers ns words mems
unfolding put_for_numbers
same_sub ns ms words mems e s =
    let word : (i : ℕ) → option_map (word_of ms) (listed words i) ≡ option_map (word_of ns) (listed words i) =
    λ i. same_image (word_of ms) (word_of ns) (listed words i)
    (weaker (λ k. IsWordAt ns k) (λ k. word_of ms k ≡ word_of ns k) (listed words i) (λ k h. ap (λ (l : List Node). word_of l k) e.is ∙ same_word_of ns e.more k h)
    (listed_has (λ k. IsWordAt ns k) words i s.each_word)) in
    let mem : (i : ℕ) → option_map (mem_of ms) (listed mems i) ≡ option_map (mem_of ns) (listed mems i) =
    λ i. same_image (mem_of ms) (mem_of ns) (listed mems i)
    (weaker (λ k. IsMemAt ns k) (λ k. mem_of ms k ≡ mem_of ns k) (listed mems i) (λ k h. ap (λ (l : List Node). mem_of l k) e.is ∙ same_mem_of ns e.more k h)
    (listed_has (λ k. IsMemAt ns k) mems i s.each_mem)) in
    λ j. record { word = λ i. word i j; mem = λ i. mem i j }

-- ---- variables

word_leaf : (ns : List Node) (x i : ℕ) (o : Option ℕ) → tree_of ns x ≡ Some (OfWord (Var i)) → IfSome o (λ k. IsWordAt ns k)
    → tree_of ns (unwrap_or o x) ≡ Some (OfWord (unwrap_or (option_map (word_of ns) o) (Var i)))
word_leaf ns x i None e h = e
word_leaf ns x i (Some k) e h = h

mem_leaf : (ns : List Node) (x i : ℕ) (o : Option ℕ) → tree_of ns x ≡ Some (OfMem (MemVar i)) → IfSome o (λ k. IsMemAt ns k)
    → tree_of ns (unwrap_or o x) ≡ Some (OfMem (unwrap_or (option_map (mem_of ns) o) (MemVar i)))
mem_leaf ns x i None e h = e
mem_leaf ns x i (Some k) e h = h

pub word_variable : (ns : List Node) (words mems : List (ℕ × ℕ)) (x i y : ℕ) → IsSubAt ns words mems → tree_of ns x ≡ Some (OfWord (Var i)) → y ≡ unwrap_or (listed words i) x
    → IsImage ns (put_for_numbers ns words mems) x y
unfolding put_for_numbers
word_variable ns words mems x i y s e is = record {
  tree = OfWord (Var i);
  from = e;
  to = ap (tree_of ns) is ∙ word_leaf ns x i (listed words i) e (listed_has (λ k. IsWordAt ns k) words i s.each_word);
}

pub mem_variable : (ns : List Node) (words mems : List (ℕ × ℕ)) (x i y : ℕ) → IsSubAt ns words mems → tree_of ns x ≡ Some (OfMem (MemVar i)) → y ≡ unwrap_or (listed mems i) x
    → IsImage ns (put_for_numbers ns words mems) x y
unfolding put_for_numbers
mem_variable ns words mems x i y s e is = record {
  tree = OfMem (MemVar i);
  from = e;
  to = ap (tree_of ns) is ∙ mem_leaf ns x i (listed mems i) e (listed_has (λ k. IsMemAt ns k) mems i s.each_mem);
}

-- ---- nodes

module _ (ns : List Node) (s : Substitution) where
  pub word_image : (a x : ℕ) → IsWordAt ns a → IsImage ns s a x → tree_of ns x ≡ Some (OfWord (put_in_word s (word_of ns a)))
  word_image a x h i = let same : i.tree ≡ OfWord (word_of ns a) = let e : Some i.tree ≡ Some (OfWord (word_of ns a)) = sym i.from ∙ h in cc in i.to ∙ ap (λ (t : Tree). Some (put_in s t)) same

  pub mem_image : (a x : ℕ) → IsMemAt ns a → IsImage ns s a x → tree_of ns x ≡ Some (OfMem (put_in_mem s (mem_of ns a)))
  mem_image a x h i = let same : i.tree ≡ OfMem (mem_of ns a) = let e : Some i.tree ≡ Some (OfMem (mem_of ns a)) = sym i.from ∙ h in cc in i.to ∙ ap (λ (t : Tree). Some (put_in s t)) same

  pub cond_image : (a x : ℕ) → IsCondAt ns a → IsImage ns s a x → tree_of ns x ≡ Some (OfCond (put_in_cond s (cond_of ns a)))
  cond_image a x h i = let same : i.tree ≡ OfCond (cond_of ns a) = let e : Some i.tree ≡ Some (OfCond (cond_of ns a)) = sym i.from ∙ h in cc in i.to ∙ ap (λ (t : Tree). Some (put_in s t)) same

  -- the children of the image are there
  pub image_children : (n m : Node) → ImageNode ns s n m → AreChildren ns n → AreChildren ns m
  image_children (node.Bin op a b) (node.Bin o x y) i h = (word_there ns x _ (word_image a x h.0 i.1), word_there ns y _ (word_image b y h.1 i.2))
  image_children (node.Extend ext a) (node.Extend e x) i h = word_there ns x _ (word_image a x h i.1)
  image_children (node.Load width p a) (node.Load w x y) i h = (mem_there ns x _ (mem_image p x h.0 i.1), word_there ns y _ (word_image a y h.1 i.2))
  image_children (node.Store width p a v) (node.Store w x y z) i h =
      (mem_there ns x _ (mem_image p x h.0 i.1), word_there ns y _ (word_image a y h.1 i.2), word_there ns z _ (word_image v z h.2 i.3))
  image_children (node.Compare cmp a b) (node.Compare c x y) i h = (word_there ns x _ (word_image a x h.0 i.1), word_there ns y _ (word_image b y h.1 i.2))
  image_children (node.Neg c) (node.Neg x) i h = cond_there ns x _ (cond_image c x h i)
  image_children (node.Inside width p a) (node.Inside w x y) i h = (mem_there ns x _ (mem_image p x h.0 i.1), word_there ns y _ (word_image a y h.1 i.2))
  image_children n m i h = absurd i

  -- .. and its tree is that of the node with terms put in
  pub image_tree : (n m : Node) → ImageNode ns s n m → AreChildren ns n → tree_over (trees_of ns) m ≡ put_in s (tree_over (trees_of ns) n)
  image_tree (node.Bin op a b) (node.Bin o x y) i h = let u = word_image a x h.0 i.1 in let v = word_image b y h.1 i.2 in λ j. OfWord (Bin (sym i.0 j) (as_word (u j)) (as_word (v j)))
  image_tree (node.Extend ext a) (node.Extend e x) i h = let u = word_image a x h i.1 in λ j. OfWord (Extend (sym i.0 j) (as_word (u j)))
  image_tree (node.Load width p a) (node.Load w x y) i h = let u = mem_image p x h.0 i.1 in let v = word_image a y h.1 i.2 in λ j. OfWord (Load (sym i.0 j) (as_mem (u j)) (as_word (v j)))
  image_tree (node.Store width p a v) (node.Store w x y z) i h =
      let t = mem_image p x h.0 i.1 in let u = word_image a y h.1 i.2 in let r = word_image v z h.2 i.3 in λ j. OfMem (Store (sym i.0 j) (as_mem (t j)) (as_word (u j)) (as_word (r j)))
  image_tree (node.Compare cmp a b) (node.Compare c x y) i h = let u = word_image a x h.0 i.1 in let v = word_image b y h.1 i.2 in λ j. OfCond (Compare (sym i.0 j) (as_word (u j)) (as_word (v j)))
  image_tree (node.Neg c) (node.Neg x) i h = let u = cond_image c x h i in λ j. OfCond (Neg (as_cond (u j)))
  image_tree (node.Inside width p a) (node.Inside w x y) i h = let u = mem_image p x h.0 i.1 in let v = word_image a y h.1 i.2 in λ j. OfCond (Inside (sym i.0 j) (as_mem (u j)) (as_word (v j)))
  image_tree n m i h = absurd i

-- ---- what an imaging goes on with

-- what is there after one number was put in
pub put_cases : (old new : Known) (x : ℕ) (v : Option ℕ) (k : ℕ) (w : Option ℕ) → Updates old new x v → image_at new k ≡ Some w
    → ((k ≡ x) × (w ≡ v)) ⊎ ((k ≡ x → ⊥) × (image_at old k ≡ Some w))
put_cases old new x v k w u h = by (k == x) refl (sym (u k) ∙ h)
  where
    by : (b : Bool) → (k == x) ≡ b → cond (k == x) (Some v) (image_at old k) ≡ Some w → ((k ≡ x) × (w ≡ v)) ⊎ ((k ≡ x → ⊥) × (image_at old k ≡ Some w))
    by true e f = let g : Some v ≡ Some w = sym (ap (λ (b : Bool). cond b (Some v) (image_at old k)) e) ∙ f in inl (eqb-true k x e, cc)
    by false e f = inr (eqb-false k x e, sym (ap (λ (b : Bool). cond b (Some v) (image_at old k)) e) ∙ f)

-- an image in a larger arena
pub image_stays : (ns ms : List Node) (words mems : List (ℕ × ℕ)) (known : Known) (x y : ℕ) → IsReady ns words mems known → Extends ns ms
    → IsImage ns (put_for_numbers ns words mems) x y → IsImage ms (put_for_numbers ms words mems) x y
image_stays ns ms words mems known x y r e i =
    subst (λ (s : Substitution). IsImage ms s x y) (sym (same_sub ns ms words mems e r.sub)) (stays ns ms _ x y e i)

pub get_stays : (ns ms : List Node) (k : ℕ) (n : Node) → Extends ns ms → slice_get ns k ≡ Some n → slice_get ms k ≡ Some n
get_stays ns ms k n e h = ap (λ (l : List Node). slice_get l k) e.is ∙ at-append ns e.more k n h

pub ready_stays : (ns ms : List Node) (words mems : List (ℕ × ℕ)) (known : Known) → Extends ns ms → IsReady ns words mems known → IsReady ms words mems known
ready_stays ns ms words mems known e r = record {
  sub = still_there ns ms words mems e r.sub;
  images = subst (λ (s : Substitution). AreImages ms s known) (sym (same_sub ns ms words mems e r.sub)) (all_stay ns ms _ known e r.images);
}

-- the number's image is begun, is kept
pub ready_begun : (ns : List Node) (words mems : List (ℕ × ℕ)) (old new : Known) (x : ℕ) → Updates old new x None → IsReady ns words mems old → IsReady ns words mems new
ready_begun ns words mems old new x u r = record {
  sub = r.sub;
  images = record {
    each = λ k v h. elim (put_cases old new x None k (Some v) u h) [
      | inl here ↦ (let e : Some v ≡ None = here.1 in cc)
      | inr there ↦ r.images.each k v there.1
    ];
  };
}

pub ready_kept : (ns : List Node) (words mems : List (ℕ × ℕ)) (old new : Known) (x y : ℕ) → Updates old new x (Some y) → IsReady ns words mems old
    → IsImage ns (put_for_numbers ns words mems) x y → IsReady ns words mems new
ready_kept ns words mems old new x y u r i = record {
  sub = r.sub;
  images = record {
    each = λ k v h. elim (put_cases old new x (Some y) k (Some v) u h) [
      | inl here ↦ (let e : Some v ≡ Some y = here.1 in let f : y ≡ v = cc in subst (λ (z : ℕ). IsImage ns (put_for_numbers ns words mems) k z) f (subst (λ (z : ℕ). IsImage ns (put_for_numbers ns words mems) z y) (sym here.0) i))
      | inr there ↦ r.images.each k v there.1
    ];
  };
}

pub constant_image : (ns : List Node) (s : Substitution) (x n : ℕ) → tree_of ns x ≡ Some (OfWord (Const n)) → IsImage ns s x x
constant_image ns s x n e = record { tree = OfWord (Const n); from = e; to = e }

pub ready_word : (ns : List Node) (words mems : List (ℕ × ℕ)) (known : Known) (x i y : ℕ) → IsReady ns words mems known → tree_of ns x ≡ Some (OfWord (Var i)) → y ≡ unwrap_or (listed words i) x
    → IsImage ns (put_for_numbers ns words mems) x y
ready_word ns words mems known x i y r e is = word_variable ns words mems x i y r.sub e is

pub ready_mem : (ns : List Node) (words mems : List (ℕ × ℕ)) (known : Known) (x i y : ℕ) → IsReady ns words mems known → tree_of ns x ≡ Some (OfMem (MemVar i)) → y ≡ unwrap_or (listed mems i) x
    → IsImage ns (put_for_numbers ns words mems) x y
ready_mem ns words mems known x i y r e is = mem_variable ns words mems x i y r.sub e is

-- the node is added, and its number is the image
pub image_added : (ns ms : List Node) (words mems : List (ℕ × ℕ)) (known : Known) (x y : ℕ) (n m : Node) → IsReady ns words mems known → tree_of ns x ≡ Some (tree_over (trees_of ns) n) → AreChildren ns n
    → Extends ns ms → ImageNode ns (put_for_numbers ns words mems) n m → tree_of ms y ≡ Some (tree_over (trees_of ns) m) → IsImage ms (put_for_numbers ms words mems) x y
image_added ns ms words mems known x y n m r at h e i new =
    subst (λ (s : Substitution). IsImage ms s x y) (sym (same_sub ns ms words mems e r.sub)) (record {
      tree = tree_over (trees_of ns) n;
      from = tree_stays ns ms x _ e at;
      to = new ∙ ap Some (image_tree ns (put_for_numbers ns words mems) n m i h);
    })
