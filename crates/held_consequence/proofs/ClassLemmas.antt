-- Classes of words, memories and conditions.
use Rattle.std.proofs.Common.{◌≡◌, ◌⊎◌, ℕ, suc, ◌+◌, ◌<◌, ◌≤◌, Bool, true, false, List, [], ◌∷◌, ◌++◌, Option, Some, None, get_or, length, map, take, take_all, refl, ap, sym, ◌∙◌, subst, inl, inr, arith}
use Rattle.std.specs.Prelude.{◌↔◌, ◌==◌, All, IfSome, option_map, unwrap_or}
use Rattle.std.proofs.lemmas.Bool.{eqb-false, eqb-true}
use Rattle.std.specs.List.{Contains}
use Rattle.std.specs.BTreeMap.{BTreeMap, Updates, get, is_at}
use Rattle.std.specs.Map.{lookup}
use Rattle.std.specs.Ordering.{nat_cmp}
use Rattle.std.proofs.lemmas.List.{append-nil}
use Rattle.std.proofs.lemmas.List.Elements.{All-cons, All-contains, All-more, All-nil, All-weaker, Contains-append_left, Contains-push_cases}
use Rattle.word_terms.specs.Tree.{WordTree, MemTree, CondTree, Const, Var, Bin, Extend, Load, MemVar, Store, Compare, Neg, Inside}
use Rattle.word_terms.specs.Substitution.{Substitution, put_in_word, put_in_mem}
use Rattle.term_arena.specs.declared.node.Node.{Node}
use Rattle.term_arena.specs.declared.node.Node.TheVariants as node
use Rattle.term_arena.specs.Arena.{Tree, OfWord, OfMem, OfCond, tree_of, trees_of, tree_over, as_word, as_mem, as_cond, word_of, mem_of, cond_of, IsWordAt, IsMemAt, IsCondAt, AreChildren, AreBelow, Extends, IsArena}
use Rattle.term_arena.proofs.Places.{at_contains, at_place, at_read, at-map, at-push, contains_at, map-at}
use Rattle.term_arena.proofs.PutLemmas.{tree_stays}
use Rattle.term_arena.proofs.TreeLemmas.{cond_there, length-trees, mem_there, number_within, one_number, word_there}
use Rattle.triple_kernel.specs.Tree.{FactTree, WordIs, MemIs, So}
use Rattle.triple_kernel.specs.Swap.{SwapWord, SwapMem, WordsStated, MemsStated}
use Rattle.triple_kernel.specs.Rules.{Alike, SameAddresses, before_stores}
use Rattle.held_consequence.specs.declared.classes.Children.{Children}
use Rattle.held_consequence.specs.declared.classes.Class.{Class}
use Rattle.held_consequence.specs.declared.classes.Leaves.{Leaves}
use Rattle.held_consequence.specs.declared.classes.Variable.{Variable}
use Rattle.held_consequence.specs.declared.classes.Variable.TheVariants as variable
use Rattle.held_terms.specs.declared.held.HeldFact.{HeldFact}
use Rattle.held_terms.specs.declared.held.HeldFact.TheVariants as held
use Rattle.held_terms.specs.Held.{AreFactsAt, IsFactAt, fact_of}
use Rattle.held_terms.specs.Subterms.{HasFact, HasFacts}
use Rattle.held_consequence.specs.inner.Classes.{Agrees, AreClassed, AreClasses, AreForms, AreFrom, AreOneForm, AreOneKind, ArePartsAt, AreSame, Grows, HasClass, HasLeaf, IsAdded, IsAgreed, IsClass, IsClassOver, IsFactListed, IsLeaf, IsOver, IsWanted, Lists, Narrows, Seen, all_known, class_found, cond_form, form_at, leaf_of, listed, node_over, parts_of, tree_base, tree_form, variable_tree}
use Rattle.held_consequence.proofs.FindLemmas.{find_cases, find_there, other_find}
use Rattle.held_terms.proofs.ChildLemmas.{children_under}
use Rattle.held_terms.proofs.GrowthLemmas.{extends_next}

-- ---- terms that facts let stand for one another have one form

-- the form of a memory is one over that of the memory before its outer stores
base-form : (s : Substitution) (m : MemTree) → before_stores (put_in_mem s (before_stores m)) ≡ before_stores (put_in_mem s m)
base-form s (MemVar i) = refl
base-form s (Store width m a v) = base-form s m

module _ (facts : List FactTree) (s : Substitution) (one : AreOneForm s facts) where
  stated-word : (a b : WordTree) → WordsStated facts a b → put_in_word s a ≡ put_in_word s b
  stated-word a b (inl e) = ap (put_in_word s) e
  stated-word a b (inr (inl c)) = one.words a b c
  stated-word a b (inr (inr c)) = sym (one.words b a c)

  stated-mem : (m n : MemTree) → MemsStated facts m n → put_in_mem s m ≡ put_in_mem s n
  stated-mem m n (inl e) = ap (put_in_mem s) e
  stated-mem m n (inr (inl c)) = one.mems m n c
  stated-mem m n (inr (inr c)) = sym (one.mems n m c)

  mutual
    swap-word : (a b : WordTree) → SwapWord facts a b → put_in_word s a ≡ put_in_word s b
    swap-word (Const n) b h = stated-word (Const n) b h
    swap-word (Var i) b h = stated-word (Var i) b h
    swap-word (Bin op x y) b (inl h) = stated-word (Bin op x y) b h
    swap-word (Bin op x y) (Bin o u v) (inr h) = λ i. Bin (h.0 i) (swap-word x u h.1 i) (swap-word y v h.2 i)
    swap-word (Bin op x y) b (inr h) = absurd h
    swap-word (Extend ext x) b (inl h) = stated-word (Extend ext x) b h
    swap-word (Extend ext x) (Extend e u) (inr h) = λ i. Extend (h.0 i) (swap-word x u h.1 i)
    swap-word (Extend ext x) b (inr h) = absurd h
    swap-word (Load width m x) b (inl h) = stated-word (Load width m x) b h
    swap-word (Load width m x) (Load w n u) (inr h) = λ i. Load (h.0 i) (swap-mem m n h.1 i) (swap-word x u h.2 i)
    swap-word (Load width m x) b (inr h) = absurd h

    swap-mem : (m n : MemTree) → SwapMem facts m n → put_in_mem s m ≡ put_in_mem s n
    swap-mem (MemVar i) n h = stated-mem (MemVar i) n h
    swap-mem (Store width m x y) n (inl h) = stated-mem (Store width m x y) n h
    swap-mem (Store width m x y) (Store w n u v) (inr h) = λ i. Store (h.0 i) (swap-mem m n h.1 i) (swap-word x u h.2 i) (swap-word y v h.3 i)
    swap-mem (Store width m x y) n (inr h) = absurd h

  same-base : (m n : MemTree) → SameAddresses facts m n → before_stores (put_in_mem s m) ≡ before_stores (put_in_mem s n)
  same-base m n (inl h) = ap before_stores (swap-mem m n h)
  same-base m n (inr h) = sym (base-form s m) ∙ ap before_stores (swap-mem (before_stores m) (before_stores n) h) ∙ base-form s n

  pub alike_form : (c d : CondTree) → Alike facts c d → cond_form s c ≡ cond_form s d
  alike_form (Compare cmp x y) (Compare o u v) h = λ i. Compare (h.0 i) (swap-word x u h.1 i) (swap-word y v h.2 i)
  alike_form (Compare cmp x y) d h = absurd h
  alike_form (Neg x) (Neg u) h = λ i. Neg (alike_form x u h i)
  alike_form (Neg x) d h = absurd h
  alike_form (Inside width m x) (Inside w n u) h = λ i. Inside (h.0 i) (same-base m n h.1 i) (swap-word x u h.2 i)
  alike_form (Inside width m x) d h = absurd h

-- ---- classes of forms

-- of a form that is no store
class-alone : (forms : List Node) (c : Class) (form : Option Tree) (t : Tree) → c.base ≡ c.form → tree_of forms c.form ≡ Some t → form ≡ Some t → tree_base (Some t) ≡ Some t → IsClass forms c form
class-alone forms c form t same h e plain = record { form = h ∙ sym e; base = ap (tree_of forms) same ∙ h ∙ sym plain ∙ ap tree_base (sym e) }

class-stays : (forms more : List Node) (c : Class) (t : Tree) → Extends forms more → IsClass forms c (Some t) → IsClass more c (Some t)
class-stays forms more c (OfWord t) e is = record { form = tree_stays forms more c.form _ e is.form; base = tree_stays forms more c.base _ e is.base }
class-stays forms more c (OfMem m) e is = record { form = tree_stays forms more c.form _ e is.form; base = tree_stays forms more c.base _ e is.base }
class-stays forms more c (OfCond d) e is = record { form = tree_stays forms more c.form _ e is.form; base = tree_stays forms more c.base _ e is.base }

module _ (forms : List Node) (c : Class) where
  word-leaf : (i : ℕ) (t : WordTree) → IsClass forms c (Some (OfWord t)) → IsLeaf forms (variable.Word i) c
  word-leaf i t is = record { form = word_there forms c.form t is.form; base = is.base ∙ sym (ap (λ o. Some (OfWord (as_word o))) is.form) }

  mem-leaf : (i : ℕ) (m : MemTree) → IsClass forms c (Some (OfMem m)) → IsLeaf forms (variable.Mem i) c
  mem-leaf i m is = record { form = mem_there forms c.form m is.form; base = is.base ∙ sym (ap (λ o. Some (OfMem (before_stores (as_mem o)))) is.form) }

  leaf-tree : (v : Variable) → IsLeaf forms v c → (t : Tree) × IsClass forms c (Some t)
  leaf-tree (variable.Word i) is = (OfWord (word_of forms c.form), is)
  leaf-tree (variable.Mem i) is = (OfMem (mem_of forms c.form), is)

  -- that of a variable that has its own
  pub own_leaf : (v : Variable) → c.base ≡ c.form → tree_of forms c.form ≡ Some (variable_tree v) → IsLeaf forms v c
  own_leaf (variable.Word i) same h = word-leaf i (Var i) (class-alone forms c _ (OfWord (Var i)) same h refl refl)
  own_leaf (variable.Mem i) same h = mem-leaf i (MemVar i) (class-alone forms c _ (OfMem (MemVar i)) same h refl refl)

leaf-still : (forms more : List Node) (v : Variable) (c : Class) → Extends forms more → IsLeaf forms v c → IsLeaf more v c
leaf-still forms more (variable.Word i) c e is = word-leaf more c i _ (class-stays forms more c _ e is)
leaf-still forms more (variable.Mem i) c e is = mem-leaf more c i _ (class-stays forms more c _ e is)

-- ---- what the form of a number's term is made of

module _ (ns : List Node) where
  abbrev Over : Node → ℕ → Type 0
  Over n a = tree_of ns a ≡ Some (tree_over (trees_of ns) n)

  pub tree_there : (x : ℕ) → x < length ns → (t : Tree) × (tree_of ns x ≡ Some t)
  tree_there x low = let l = length-trees ns in let here : x < length (trees_of ns) = omega (arith, low, l) in at_place (trees_of ns) x here

  -- the form of a child
  module _ (s : Substitution) (forms : List Node) (k : Class) (a : ℕ) (is : IsClass forms k (form_at s (tree_of ns a))) where
    word-there : IsWordAt ns a → IsWordAt forms k.form
    word-there h = word_there forms k.form _ (is.form ∙ ap (form_at s) h)

    mem-there : IsMemAt ns a → IsMemAt forms k.form
    mem-there h = mem_there forms k.form _ (is.form ∙ ap (form_at s) h)

    cond-there : IsCondAt ns a → IsCondAt forms k.form
    cond-there h = cond_there forms k.form _ (is.form ∙ ap (form_at s) h)

    base-tree : IsMemAt ns a → tree_of forms k.base ≡ Some (OfMem (before_stores (put_in_mem s (mem_of ns a))))
    base-tree h = is.base ∙ ap (λ o. tree_base (form_at s o)) h

    base-there : IsMemAt ns a → IsMemAt forms k.base
    base-there h = mem_there forms k.base _ (base-tree h)

    word-form : IsWordAt ns a → put_in_word s (word_of ns a) ≡ word_of forms k.form
    word-form h = sym (ap as_word (is.form ∙ ap (form_at s) h))

    mem-form : IsMemAt ns a → put_in_mem s (mem_of ns a) ≡ mem_of forms k.form
    mem-form h = sym (ap as_mem (is.form ∙ ap (form_at s) h))

    cond-form : IsCondAt ns a → cond_form s (cond_of ns a) ≡ cond_of forms k.form
    cond-form h = sym (ap as_cond (is.form ∙ ap (form_at s) h))

    mem-base : IsMemAt ns a → before_stores (put_in_mem s (mem_of ns a)) ≡ mem_of forms k.base
    mem-base h = sym (ap as_mem (base-tree h))

  pub parts_fit : (x : ℕ) (n : Node) → Over n x → AreChildren ns n → AreBelow x n → ArePartsAt ns x (parts_of n)
  parts_fit x (node.Const n) e h low = e
  parts_fit x (node.WordVar i) e h low = e
  parts_fit x (node.MemVar i) e h low = e
  parts_fit x (node.Bin op a b) e h low = record {
    first = low.0;
    second = low.1;
    third = low.1;
    under = λ ts has. let u = children_under ns x (node.Bin op a b) e h in (u.0 ts has, u.1 ts has, u.1 ts has);
    children = λ s forms k are. (word-there s forms k.first a are.first h.0, word-there s forms k.second b are.second h.1);
    class = λ s old new k v are more is.
        class-alone new v _ _ (ap (λ (c : Class). c.base) is.1) is.0 (ap (form_at s) e ∙ (λ i. Some (OfWord (Bin op (word-form s old k.first a are.first h.0 i) (word-form s old k.second b are.second h.1 i))))) refl;
  }
  parts_fit x (node.Extend ext a) e h low = record {
    first = low;
    second = low;
    third = low;
    under = λ ts has. let u = children_under ns x (node.Extend ext a) e h in (u ts has, u ts has, u ts has);
    children = λ s forms k are. word-there s forms k.first a are.first h;
    class = λ s old new k v are more is.
        class-alone new v _ _ (ap (λ (c : Class). c.base) is.1) is.0 (ap (form_at s) e ∙ (λ i. Some (OfWord (Extend ext (word-form s old k.first a are.first h i))))) refl;
  }
  parts_fit x (node.Load width m a) e h low = record {
    first = low.0;
    second = low.1;
    third = low.1;
    under = λ ts has. let u = children_under ns x (node.Load width m a) e h in (u.0 ts has, u.1 ts has, u.1 ts has);
    children = λ s forms k are. (mem-there s forms k.first m are.first h.0, word-there s forms k.second a are.second h.1);
    class = λ s old new k v are more is.
        class-alone new v _ _ (ap (λ (c : Class). c.base) is.1) is.0 (ap (form_at s) e ∙ (λ i. Some (OfWord (Load width (mem-form s old k.first m are.first h.0 i) (word-form s old k.second a are.second h.1 i))))) refl;
  }
  parts_fit x (node.Store width m a v) e h low = record {
    first = low.0;
    second = low.1;
    third = low.2;
    under = λ ts has. let u = children_under ns x (node.Store width m a v) e h in (u.0 ts has, u.1 ts has, u.2 ts has);
    children = λ s forms k are. (mem-there s forms k.first m are.first h.0, word-there s forms k.second a are.second h.1, word-there s forms k.third v are.third h.2);
    class = λ s old new k j are more is. record {
      form = is.0 ∙ sym (ap (form_at s) e ∙ (λ i. Some (OfMem (Store width (mem-form s old k.first m are.first h.0 i) (word-form s old k.second a are.second h.1 i) (word-form s old k.third v are.third h.2 i)))));
      base =
          ap (λ (c : Class). tree_of new c.base) is.1 ∙ tree_stays old new k.first.base _ more (base-tree s old k.first m are.first h.0) ∙ sym (ap (λ o. tree_base (form_at s o)) e);
    };
  }
  parts_fit x (node.Compare cmp a b) e h low = record {
    first = low.0;
    second = low.1;
    third = low.1;
    under = λ ts has. let u = children_under ns x (node.Compare cmp a b) e h in (u.0 ts has, u.1 ts has, u.1 ts has);
    children = λ s forms k are. (word-there s forms k.first a are.first h.0, word-there s forms k.second b are.second h.1);
    class = λ s old new k v are more is.
        class-alone new v _ _ (ap (λ (c : Class). c.base) is.1) is.0 (ap (form_at s) e ∙ (λ i. Some (OfCond (Compare cmp (word-form s old k.first a are.first h.0 i) (word-form s old k.second b are.second h.1 i))))) refl;
  }
  parts_fit x (node.Neg c) e h low = record {
    first = low;
    second = low;
    third = low;
    under = λ ts has. let u = children_under ns x (node.Neg c) e h in (u ts has, u ts has, u ts has);
    children = λ s forms k are. cond-there s forms k.first c are.first h;
    class = λ s old new k v are more is.
        class-alone new v _ _ (ap (λ (c : Class). c.base) is.1) is.0 (ap (form_at s) e ∙ (λ i. Some (OfCond (Neg (cond-form s old k.first c are.first h i))))) refl;
  }
  parts_fit x (node.Inside width m a) e h low = record {
    first = low.0;
    second = low.1;
    third = low.1;
    under = λ ts has. let u = children_under ns x (node.Inside width m a) e h in (u.0 ts has, u.1 ts has, u.1 ts has);
    children = λ s forms k are. (base-there s forms k.first m are.first h.0, word-there s forms k.second a are.second h.1);
    class = λ s old new k v are more is.
        class-alone new v _ _ (ap (λ (c : Class). c.base) is.1) is.0 (ap (form_at s) e ∙ (λ i. Some (OfCond (Inside width (mem-base s old k.first m are.first h.0 i) (word-form s old k.second a are.second h.1 i))))) refl;
  }

-- ---- variables

pub forms_none : (forms : List Node) → Extends forms forms
forms_none forms = record { more = []; is = sym (append-nil forms) }

pub grows_forms : (forms more : List Node) (l : Leaves) → Extends forms more → Grows forms more l l
grows_forms forms more l e = record { stay = e; each = λ v c h. h }

pub grows_none : (forms : List Node) (l : Leaves) → Grows forms forms l l
grows_none forms l = grows_forms forms forms l (forms_none forms)

pub grows_both : (forms more most : List Node) (old mid new : Leaves) → Grows forms more old mid → Grows more most mid new → Grows forms most old new
grows_both forms more most old mid new g h = record { stay = extends_next forms more most g.stay h.stay; each = λ v c e. h.each v c (g.each v c e) }

-- where the class of a word's variable was written, of a memory's
pub put_word : (old new : Leaves) (i : ℕ) (c : Class) → Updates nat_cmp old.words new.words i (Some c) → new.mems ≡ old.mems → HasLeaf old new (variable.Word i) c
put_word old new i c u e = record { here = find_there old.words new.words i (Some c) u; keeps = keeps; from = from }
  where
    keeps : (w : Variable) (d : Class) → (w ≡ variable.Word i → ⊥) → leaf_of old w ≡ Some d → leaf_of new w ≡ Some d
    keeps (variable.Word k) d other h = other_find old.words new.words i (Some c) k u (λ same. other (ap variable.Word same)) ∙ h
    keeps (variable.Mem k) d other h = ap (λ (m : BTreeMap ℕ Class). get nat_cmp m k) e ∙ h

    from : (w : Variable) (d : Class) → leaf_of new w ≡ Some d → ((w ≡ variable.Word i) × (d ≡ c)) ⊎ (leaf_of old w ≡ Some d)
    from (variable.Word k) d h = elim (find_cases old.words new.words i c k d u h) [ inl here ↦ inl (ap variable.Word here.0, here.1) | inr there ↦ inr there.1 ]
    from (variable.Mem k) d h = inr (sym (ap (λ (m : BTreeMap ℕ Class). get nat_cmp m k) e) ∙ h)

pub put_mem : (old new : Leaves) (i : ℕ) (c : Class) → Updates nat_cmp old.mems new.mems i (Some c) → new.words ≡ old.words → HasLeaf old new (variable.Mem i) c
put_mem old new i c u e = record { here = find_there old.mems new.mems i (Some c) u; keeps = keeps; from = from }
  where
    keeps : (w : Variable) (d : Class) → (w ≡ variable.Mem i → ⊥) → leaf_of old w ≡ Some d → leaf_of new w ≡ Some d
    keeps (variable.Mem k) d other h = other_find old.mems new.mems i (Some c) k u (λ same. other (ap variable.Mem same)) ∙ h
    keeps (variable.Word k) d other h = ap (λ (m : BTreeMap ℕ Class). get nat_cmp m k) e ∙ h

    from : (w : Variable) (d : Class) → leaf_of new w ≡ Some d → ((w ≡ variable.Mem i) × (d ≡ c)) ⊎ (leaf_of old w ≡ Some d)
    from (variable.Mem k) d h = elim (find_cases old.mems new.mems i c k d u h) [ inl here ↦ inl (ap variable.Mem here.0, here.1) | inr there ↦ inr there.1 ]
    from (variable.Word k) d h = inr (sym (ap (λ (m : BTreeMap ℕ Class). get nat_cmp m k) e) ∙ h)

-- a variable that had no class gets one
pub grows_put : (forms more : List Node) (old new : Leaves) (v : Variable) (c : Class) → Extends forms more → leaf_of old v ≡ None → HasLeaf old new v c → Grows forms more old new
grows_put forms more old new v c e none put = record {
  stay = e;
  each = λ w d h. put.keeps w d (λ same. let no : None ≡ Some d = sym none ∙ sym (ap (leaf_of old) same) ∙ h in cc) h;
}

pub forms_still : (forms more : List Node) (l : Leaves) → Extends forms more → AreForms forms l → AreForms more l
forms_still forms more l e f = record { each = λ v c h. leaf-still forms more v c e (f.each v c h) }

pub forms_put : (forms more : List Node) (old new : Leaves) (v : Variable) (c : Class) → Extends forms more → IsLeaf more v c → HasLeaf old new v c → AreForms forms old → AreForms more new
forms_put forms more old new v c e is put f = record {
  each = λ w d h. elim (put.from w d h) [
    | inl here ↦ subst (λ (u : Variable). IsLeaf more u d) (sym here.0) (subst (IsLeaf more v) (sym here.1) is)
    | inr there ↦ leaf-still forms more w d e (f.each w d there)
  ];
}

-- what agrees later agrees before
pub agrees_before : (forms more : List Node) (old new : Leaves) (s : Substitution) → AreForms forms old → Grows forms more old new → Agrees more new s → Agrees forms old s
agrees_before forms more old new s f g a = record {
  each = λ v c h.
      let t = leaf-tree forms c v (f.each v c h) in
      let now = a.each v c (g.each v c h) in
      subst (IsClass forms c) (sym (class-stays forms more c t.0 g.stay t.1).form ∙ now.form) t.1;
}

-- each variable's form; one that has none stays
forms-of : List Node → Leaves → Substitution
forms-of forms leaves = record {
  word = λ i. option_map (λ (c : Class). word_of forms c.form) (get nat_cmp leaves.words i);
  mem = λ i. option_map (λ (c : Class). mem_of forms c.form) (get nat_cmp leaves.mems i);
}

forms-agree : (forms : List Node) (leaves : Leaves) → AreForms forms leaves → Agrees forms leaves (forms-of forms leaves)
unfolding forms-of
forms-agree forms leaves f = record { each = each }
  where
    each : (v : Variable) (c : Class) → leaf_of leaves v ≡ Some c → IsClass forms c (Some (tree_form (forms-of forms leaves) (variable_tree v)))
    each (variable.Word i) c h =
        let e = ap (λ (o : Option Class). unwrap_or (option_map (λ (k : Class). word_of forms k.form) o) (Var i)) h in
        subst (λ (t : WordTree). IsClass forms c (Some (OfWord t))) (sym e) (f.each (variable.Word i) c h)
    each (variable.Mem i) c h =
        let e = ap (λ (o : Option Class). unwrap_or (option_map (λ (k : Class). mem_of forms k.form) o) (MemVar i)) h in
        subst (λ (m : MemTree). IsClass forms c (Some (OfMem m))) (sym e) (f.each (variable.Mem i) c h)

-- ---- what is known of classes

module _ (ns : List Node) where
  -- the class is that of the term's form
  class-form : (forms : List Node) (leaves : Leaves) (x : ℕ) (c : Class) (s : Substitution) → HasClass ns forms leaves x c → Agrees forms leaves s → IsClass forms c (form_at s (tree_of ns x))
  class-form forms leaves x c s h a = subst (λ (o : Option Tree). IsClass forms c (form_at s o)) (sym h.there) (h.is s a)

  class-still : (forms more : List Node) (old new : Leaves) (x : ℕ) (c : Class) → AreForms forms old → Grows forms more old new → HasClass ns forms old x c → HasClass ns more new x c
  class-still forms more old new x c f g h = record {
    tree = h.tree;
    there = h.there;
    is = λ s a. class-stays forms more c _ g.stay (h.is s (agrees_before forms more old new s f g a));
  }

  pub known_still : (forms more : List Node) (old new : Leaves) (x : ℕ) (o : Option Class) → AreForms forms old → Grows forms more old new → IfSome o (HasClass ns forms old x)
      → IfSome o (HasClass ns more new x)
  known_still forms more old new x None f g h = tt
  known_still forms more old new x (Some c) f g h = class-still forms more old new x c f g h

  pub kind_within : (a b : ℕ) → AreOneKind ns a b → (a < length ns) × (b < length ns)
  kind_within a b (inl h) = (number_within ns a _ h.0, number_within ns b _ h.1)
  kind_within a b (inr h) = (number_within ns a _ h.0, number_within ns b _ h.1)

  pub kind_turned : (a b : ℕ) → AreOneKind ns a b → AreOneKind ns b a
  kind_turned a b (inl h) = inl (h.1, h.0)
  kind_turned a b (inr h) = inr (h.1, h.0)

  -- the class of a term is one that a variable of its kind can have
  pub class_wanted : (forms : List Node) (leaves : Leaves) (a b : ℕ) (o : Option Class) → AreForms forms leaves → AreOneKind ns a b → IfSome o (HasClass ns forms leaves a) → IfSome o (IsWanted ns forms b)
  class_wanted forms leaves a b None f kind h = tt
  class_wanted forms leaves a b (Some c) f kind h = λ v e. by kind v e
    where
      is : IsClass forms c (form_at (forms-of forms leaves) (tree_of ns a))
      is = class-form forms leaves a c (forms-of forms leaves) h (forms-agree forms leaves f)

      by : AreOneKind ns a b → (v : Variable) → tree_of ns b ≡ Some (variable_tree v) → IsLeaf forms v c
      by (inl k) (variable.Word i) e = word-leaf forms c i _ (subst (λ (o : Option Tree). IsClass forms c (form_at (forms-of forms leaves) o)) k.0 is)
      by (inl k) (variable.Mem i) e = let no = sym k.1 ∙ e in cc
      by (inr k) (variable.Word i) e = let no = sym k.1 ∙ e in cc
      by (inr k) (variable.Mem i) e = mem-leaf forms c i _ (subst (λ (o : Option Tree). IsClass forms c (form_at (forms-of forms leaves) o)) k.0 is)

  pub wanted_leaf : (forms : List Node) (x : ℕ) (v : Variable) (o : Option Class) → tree_of ns x ≡ Some (variable_tree v) → IfSome o (IsWanted ns forms x) → IfSome o (IsLeaf forms v)
  wanted_leaf forms x v None e h = tt
  wanted_leaf forms x v (Some c) e h = h v e

  pub classed_still : (forms more : List Node) (old new : Leaves) (seen : Seen) → Grows forms more old new → AreForms more new → AreClassed ns forms old seen → AreClassed ns more new seen
  classed_still forms more old new seen g f a = record { ready = f; each = λ x c h. class-still forms more old new x c a.ready g (a.each x c h) }

  -- where forms alone came
  pub classed_more : (forms more : List Node) (leaves : Leaves) (seen : Seen) → Extends forms more → AreClassed ns forms leaves seen → AreClassed ns more leaves seen
  classed_more forms more leaves seen e a = classed_still forms more leaves leaves seen (grows_forms forms more leaves e) (forms_still forms more leaves e a.ready) a

  pub classed_none : (forms : List Node) (leaves : Leaves) (seen : Seen) → ((v : Variable) → leaf_of leaves v ≡ None) → seen.entries ≡ [] → AreClassed ns forms leaves seen
  classed_none forms leaves seen none e = record {
    ready = record { each = λ v c h. let no : None ≡ Some c = sym (none v) ∙ h in cc };
    each = λ x c h. let no : None ≡ Some (Some c) = sym (ap (λ (es : List (ℕ × Option Class)). lookup (is_at (nat_cmp x)) es) e) ∙ h in cc;
  }

  -- where an entry was put in
  pub classed_put : (forms : List Node) (leaves : Leaves) (old new : Seen) (x : ℕ) (o : Option Class) → AreClassed ns forms leaves old → Updates nat_cmp old new x (Some o) → IfSome o (HasClass ns forms leaves x)
      → AreClassed ns forms leaves new
  classed_put forms leaves old new x o a u is = record {
    ready = a.ready;
    each = λ k c h. elim (find_cases old new x o k (Some c) u h) [
      | inl here ↦ subst (λ (j : ℕ). HasClass ns forms leaves j c) (sym here.0) (subst (λ (p : Option Class). IfSome p (HasClass ns forms leaves x)) (sym here.1) is)
      | inr there ↦ a.each k c there.1
    ];
  }

  pub class_known : (forms : List Node) (leaves : Leaves) (seen : Seen) (x : ℕ) (o : Option Class) → AreClassed ns forms leaves seen → get nat_cmp seen x ≡ Some o → IfSome o (HasClass ns forms leaves x)
  class_known forms leaves seen x None a e = tt
  class_known forms leaves seen x (Some c) a e = a.each x c e

  pub class_of_variable : (forms : List Node) (leaves : Leaves) (x : ℕ) (v : Variable) (c : Class) → tree_of ns x ≡ Some (variable_tree v) → leaf_of leaves v ≡ Some c → HasClass ns forms leaves x c
  class_of_variable forms leaves x v c e h = record { tree = variable_tree v; there = e; is = λ s a. a.each v c h }

  pub class_of_constant : (forms : List Node) (leaves : Leaves) (x n : ℕ) (c : Class) → tree_of ns x ≡ Some (OfWord (Const n)) → tree_of forms c.form ≡ Some (OfWord (Const n)) → c.base ≡ c.form
      → HasClass ns forms leaves x c
  class_of_constant forms leaves x n c e h same = record { tree = OfWord (Const n); there = e; is = λ s a. class-alone forms c _ (OfWord (Const n)) same h refl refl }

  -- over the classes of three terms
  module _ (forms : List Node) (leaves : Leaves) (x : ℕ) (n : Node) (a b c : ℕ) (is : IsOver ns x n a b c) (ready : AreForms forms leaves) where
    are-classes : (p q r : Class) → HasClass ns forms leaves a p → HasClass ns forms leaves b q → HasClass ns forms leaves c r → (s : Substitution) → Agrees forms leaves s
        → AreClasses ns forms s a b c (record { first = p; second = q; third = r })
    are-classes p q r hp hq hr s agrees = record {
      first = class-form forms leaves a p s hp agrees;
      second = class-form forms leaves b q s hq agrees;
      third = class-form forms leaves c r s hr agrees;
    }

    pub over_children : (o p q : Option Class) (known : Option Children) → known ≡ all_known o p q → IfSome o (HasClass ns forms leaves a) → IfSome p (HasClass ns forms leaves b) → IfSome q (HasClass ns forms leaves c)
        → IfSome known (λ k. AreChildren forms (node_over n k))
    over_children o p q known e ho hp hq = subst (λ (l : Option Children). IfSome l (λ k. AreChildren forms (node_over n k))) (sym e) (by o p q ho hp hq)
      where
        by : (o p q : Option Class) → IfSome o (HasClass ns forms leaves a) → IfSome p (HasClass ns forms leaves b) → IfSome q (HasClass ns forms leaves c) → IfSome (all_known o p q) (λ k. AreChildren forms (node_over n k))
        by None p q ho hp hq = tt
        by (Some u) None q ho hp hq = tt
        by (Some u) (Some v) None ho hp hq = tt
        by (Some u) (Some v) (Some w) ho hp hq = is.children (forms-of forms leaves) forms _ (are-classes u v w ho hp hq (forms-of forms leaves) (forms-agree forms leaves ready))

    module _ (more : List Node) (low : x < length ns) (e : Extends forms more) where
      over-class : (u v w k : Class) → HasClass ns forms leaves a u → HasClass ns forms leaves b v → HasClass ns forms leaves c w
          → IsClassOver forms more n (Some (record { first = u; second = v; third = w })) k → HasClass ns more leaves x k
      over-class u v w k hu hv hw h = let t = tree_there ns x low in record {
        tree = t.0;
        there = t.1;
        is = λ s agrees.
            let before = agrees_before forms more leaves leaves s ready (grows_forms forms more leaves e) agrees in
            subst (λ (o : Option Tree). IsClass more k (form_at s o)) t.1 (is.class s forms more _ k (are-classes u v w hu hv hw s before) e h);
      }

      pub over_class : (o p q r : Option Class) (known : Option Children) → known ≡ all_known o p q → IfSome o (HasClass ns forms leaves a) → IfSome p (HasClass ns forms leaves b) → IfSome q (HasClass ns forms leaves c)
          → IfSome r (IsClassOver forms more n known) → IfSome r (HasClass ns more leaves x)
      over_class o p q r known e ho hp hq hr = by o p q r ho hp hq (subst (λ (l : Option Children). IfSome r (IsClassOver forms more n l)) e hr)
        where
          by : (o p q r : Option Class) → IfSome o (HasClass ns forms leaves a) → IfSome p (HasClass ns forms leaves b) → IfSome q (HasClass ns forms leaves c) → IfSome r (IsClassOver forms more n (all_known o p q))
              → IfSome r (HasClass ns more leaves x)
          by o p q None ho hp hq hr = tt
          by None p q (Some k) ho hp hq hr = absurd hr
          by (Some u) None q (Some k) ho hp hq hr = absurd hr
          by (Some u) (Some v) None (Some k) ho hp hq hr = absurd hr
          by (Some u) (Some v) (Some w) (Some k) ho hp hq hr = over-class u v w k ho hp hq hr

pub from_none : (fs : List HeldFact) (lists : Lists) → lists.entries ≡ [] → AreFrom fs lists
from_none fs lists e = record {
  each = λ k f c.
      let none : listed (get nat_cmp lists k) ≡ [] = ap (λ (es : List (ℕ × List HeldFact)). listed (lookup (is_at (nat_cmp k)) es)) e in
      let at = at_contains [] f (subst (λ (l : List HeldFact). Contains l f) none c) in
      cc;
}

-- ---- equations that agree

module _ (ns : List Node) where
  word-is : (f : HeldFact) (a b : WordTree) → fact_of ns f ≡ WordIs a b → (x : ℕ) × (y : ℕ) × (f ≡ held.WordIs x y) × (word_of ns x ≡ a) × (word_of ns y ≡ b)
  word-is (held.WordIs x y) a b e = (x, y, refl, cc, cc)
  word-is f a b e = cc

  mem-is : (f : HeldFact) (m n : MemTree) → fact_of ns f ≡ MemIs m n → (x : ℕ) × (y : ℕ) × (f ≡ held.MemIs x y) × (mem_of ns x ≡ m) × (mem_of ns y ≡ n)
  mem-is (held.MemIs x y) m n e = (x, y, refl, cc, cc)
  mem-is f m n e = cc

  cond-is : (f : HeldFact) (d : CondTree) → fact_of ns f ≡ So d → (x : ℕ) × (f ≡ held.So x) × (cond_of ns x ≡ d)
  cond-is (held.So x) d e = (x, refl, cc)
  cond-is f d e = cc

  fact-at : (fs : List HeldFact) (t : FactTree) → Contains (map (fact_of ns) fs) t → (f : HeldFact) × Contains fs f × (fact_of ns f ≡ t)
  fact-at fs t c =
      let at = at_contains (map (fact_of ns) fs) t c in
      let from = at-map (fact_of ns) fs at.0 t at.1 in
      (from.0, contains_at fs at.0 from.0 from.1, from.2)

  there-fact : (fs : List HeldFact) (f : HeldFact) (t : FactTree) → Contains fs f → fact_of ns f ≡ t → Contains (map (fact_of ns) fs) t
  there-fact fs f t c e =
      let at = at_contains fs f c in
      subst (Contains (map (fact_of ns) fs)) e (contains_at (map (fact_of ns) fs) at.0 (fact_of ns f) (map-at (fact_of ns) fs at.0 f at.1))

  module _ (fs : List HeldFact) (forms : List Node) (leaves : Leaves) (seen : Seen) (there : AreFactsAt ns fs) (arena : IsArena forms) (classed : AreClassed ns forms leaves seen) where
    s : Substitution
    s = forms-of forms leaves

    known-form : (x v : ℕ) → class_found (get nat_cmp seen x) ≡ Some v → tree_of forms v ≡ form_at s (tree_of ns x)
    unfolding s
    known-form x v e = by (get nat_cmp seen x) refl e
      where
        by : (o : Option (Option Class)) → get nat_cmp seen x ≡ o → class_found o ≡ Some v → tree_of forms v ≡ form_at s (tree_of ns x)
        by None is e = cc
        by (Some None) is e = cc
        by (Some (Some c)) is e =
            let same : c.form ≡ v = cc in
            sym (ap (tree_of forms) same) ∙ (class-form ns forms leaves x c s (classed.each x c is) (forms-agree forms leaves classed.ready)).form

    same-form : (x y : ℕ) (o p : Option ℕ) → class_found (get nat_cmp seen x) ≡ o → class_found (get nat_cmp seen y) ≡ p → AreSame o p → form_at s (tree_of ns x) ≡ form_at s (tree_of ns y)
    same-form x y (Some v) (Some w) ex ey e = sym (known-form x v ex) ∙ ap (tree_of forms) e ∙ known-form y w ey
    same-form x y (Some v) None ex ey e = absurd e
    same-form x y None (Some w) ex ey e = absurd e
    same-form x y None None ex ey e = absurd e

    agreed-one : All (IsAgreed seen) fs → AreOneForm s (map (fact_of ns) fs)
    agreed-one agreed = record {
      words = λ a b c.
          let f = fact-at fs (WordIs a b) c in
          let w = word-is f.0 a b f.2 in
          let is = subst (λ (g : HeldFact). IsAgreed seen g) w.2 (All-contains (IsAgreed seen) fs f.0 agreed f.1) in
          let at = subst (λ (g : HeldFact). IsFactAt ns g) w.2 (All-contains (λ g. IsFactAt ns g) fs f.0 there f.1) in
          let same = sym (ap (form_at s) at.0) ∙ same-form w.0 w.1 _ _ refl refl is ∙ ap (form_at s) at.1 in
          sym (ap (put_in_word s) w.3) ∙ ap as_word same ∙ ap (put_in_word s) w.4;
      mems = λ m n c.
          let f = fact-at fs (MemIs m n) c in
          let w = mem-is f.0 m n f.2 in
          let is = subst (λ (g : HeldFact). IsAgreed seen g) w.2 (All-contains (IsAgreed seen) fs f.0 agreed f.1) in
          let at = subst (λ (g : HeldFact). IsFactAt ns g) w.2 (All-contains (λ g. IsFactAt ns g) fs f.0 there f.1) in
          let same = sym (ap (form_at s) at.0) ∙ same-form w.0 w.1 _ _ refl refl is ∙ ap (form_at s) at.1 in
          sym (ap (put_in_mem s) w.3) ∙ ap as_mem same ∙ ap (put_in_mem s) w.4;
    }

    -- ---- conditions by their classes

    known-cond : (x v : ℕ) → IsCondAt ns x → class_found (get nat_cmp seen x) ≡ Some v → tree_of forms v ≡ Some (OfCond (cond_form s (cond_of ns x)))
    known-cond x v h e = known-form x v e ∙ ap (form_at s) h

    pub narrows_all : (lists : Lists) → All (IsAgreed seen) fs → AreFrom fs lists → All (IsFactListed seen lists) fs → Narrows ns fs seen lists
    narrows_all lists agreed from all = record {
      among = from;
      all = λ c v d h e has alike.
          let f = fact-at fs (So d) has in
          let w = cond-is f.0 d f.2 in
          let is = subst (λ (g : HeldFact). IsFactListed seen lists g) w.1 (All-contains (IsFactListed seen lists) fs f.0 all f.1) in
          let at = subst (λ (g : HeldFact). IsFactAt ns g) w.1 (All-contains (λ g. IsFactAt ns g) fs f.0 there f.1) in
          let one = known-cond c v h e in
          let other = known-cond w.0 is.class at is.is in
          let like = alike_form (map (fact_of ns) fs) s (agreed-one agreed) (cond_of ns c) d alike ∙ sym (ap (cond_form s) w.2) in
          let same : v ≡ is.class = one_number forms v is.class _ arena one (other ∙ ap (λ (q : CondTree). Some (OfCond q)) (sym like)) in
          there-fact (listed (get nat_cmp lists v)) (held.So w.0) (So d) (subst (λ (k : ℕ). Contains (listed (get nat_cmp lists k)) (held.So w.0)) (sym same) is.there) (ap (λ (q : CondTree). So q) w.2);
    }

  -- no class is known
  pub narrows_none : (fs : List HeldFact) (seen : Seen) (lists : Lists) → seen.entries ≡ [] → lists.entries ≡ [] → Narrows ns fs seen lists
  narrows_none fs seen lists e l = record {
    among = from_none fs lists l;
    all = λ c v d h is has alike. let no : None ≡ Some v = sym (ap (λ (es : List (ℕ × Option Class)). class_found (lookup (is_at (nat_cmp c)) es)) e) ∙ is in cc;
  }

-- ---- facts one after the other

-- what holds of the first i and of the next one
pub all_more : {A : Type 0} (P : A → Type 0) (xs : List A) (i : ℕ) (x : A) → i < length xs → x ≡ get_or xs i x → All P (take i xs) → P x → All P (take (i + 1) xs)
all_more P xs i x low is before here = All-more P xs i x low before (subst P is here)

pub all_whole : {A : Type 0} (P : A → Type 0) (xs : List A) (i : ℕ) → length xs ≤ i → All P (take i xs) → All P xs
all_whole P xs i end all = subst (λ (l : List _). All P l) (take_all i xs end) all

-- ---- lists of one class

module _ (old mid last : Lists) (k : ℕ) (l m : List HeldFact) (f : HeldFact) (was : l ≡ listed (get nat_cmp old k)) (out : Updates nat_cmp old mid k None) (push : m ≡ l ++ f ∷ []) (in_ : Updates nat_cmp mid last k (Some m)) where
  same-list : listed (get nat_cmp last k) ≡ listed (get nat_cmp old k) ++ f ∷ []
  same-list = ap listed (find_there mid last k (Some m) in_) ∙ push ∙ ap (λ (g : List HeldFact). g ++ f ∷ []) was

  other-list : (j : ℕ) → (j ≡ k → ⊥) → get nat_cmp last j ≡ get nat_cmp old j
  other-list j other = other_find mid last k (Some m) j in_ other ∙ other_find old mid k None j out other

  abbrev Goes : ℕ → Type 0
  Goes j = ((g : HeldFact) → Contains (listed (get nat_cmp old j)) g → Contains (listed (get nat_cmp last j)) g)
      × ((g : HeldFact) → Contains (listed (get nat_cmp last j)) g → Contains (listed (get nat_cmp old j)) g ⊎ (g ≡ f))

  goes : (j : ℕ) → Goes j
  goes j = by (j == k) refl
    where
      by : (b : Bool) → (j == k) ≡ b → Goes j
      by true e = subst Goes (sym (eqb-true j k e)) (
        λ g c. subst (λ (q : List HeldFact). Contains q g) (sym same-list) (Contains-append_left (listed (get nat_cmp old k)) (f ∷ []) g c),
        λ g c. elim (Contains-push_cases (listed (get nat_cmp old k)) f g (subst (λ (q : List HeldFact). Contains q g) same-list c)) [ inl before ↦ inl before | inr same ↦ inr (sym same) ],
      )
      by false e =
          let same = other-list j (eqb-false j k e) in (
            λ g c. subst (λ (o : Option (List HeldFact)). Contains (listed o) g) (sym same) c,
            λ g c. inl (subst (λ (o : Option (List HeldFact)). Contains (listed o) g) same c),
          )

  pub list_added : IsAdded old last f
  list_added = record { keeps = λ j g c. (goes j).0 g c; from = λ j g c. (goes j).1 g c }

  pub list_there : Contains (listed (get nat_cmp last k)) f
  list_there = subst (λ (q : List HeldFact). Contains q f) (sym same-list) (contains_at (listed (get nat_cmp old k) ++ f ∷ []) (length (listed (get nat_cmp old k))) f (at-push (listed (get nat_cmp old k)) f))

pub from_added : (fs : List HeldFact) (old new : Lists) (i : ℕ) (f : HeldFact) → i < length fs → f ≡ get_or fs i f → AreFrom fs old → IsAdded old new f → AreFrom fs new
from_added fs old new i f low is from added = record {
  each = λ k g c. elim (added.from k g c) [
    | inl before ↦ from.each k g before
    | inr same ↦ subst (Contains fs) (sym same) (contains_at fs i f (at_read fs i f low is))
  ];
}

pub listed_still : (seen : Seen) (old new : Lists) (g : HeldFact) → IsAdded old new g → (f : HeldFact) → IsFactListed seen old f → IsFactListed seen new f
listed_still seen old new g added (held.So d) h = record { class = h.class; is = h.is; there = added.keeps h.class (held.So d) h.there }
listed_still seen old new g added f h = tt

pub all_listed : (seen : Seen) (old new : Lists) (fs : List HeldFact) (i : ℕ) (f : HeldFact) → i < length fs → f ≡ get_or fs i f → IsAdded old new f → All (IsFactListed seen old) (take i fs) → IsFactListed seen new f
    → All (IsFactListed seen new) (take (i + 1) fs)
all_listed seen old new fs i f low is added before here =
    all_more (IsFactListed seen new) fs i f low is (All-weaker (IsFactListed seen old) (IsFactListed seen new) (listed_still seen old new f added) (take i fs) before) here

-- ---- some of the facts

pub all_of : {A : Type 0} (P : A → Type 0) (xs : List A) → ((x : A) → Contains xs x → P x) → All P xs
all_of P [] h = All-nil P
all_of P (x ∷ xs) h = All-cons P x xs (h x (contains_at (x ∷ xs) 0 x refl)) (all_of P xs (λ y c. let at = at_contains xs y c in h y (contains_at (x ∷ xs) (suc at.0) y at.1)))

module _ (ns : List Node) (given whole others : List HeldFact) (same : whole ≡ others) (among : (f : HeldFact) → Contains given f → Contains whole f) where
  of-others : (f : HeldFact) → Contains given f → Contains others f
  of-others f c = subst (λ (l : List HeldFact). Contains l f) same (among f c)

  pub some_at : AreFactsAt ns others → AreFactsAt ns given
  some_at there = all_of (λ f. IsFactAt ns f) given (λ f c. All-contains (λ g. IsFactAt ns g) others f there (of-others f c))

  pub some_has : (ts : List Tree) → HasFacts ns others ts → HasFacts ns given ts
  some_has ts has = all_of (λ f. HasFact ns f ts) given (λ f c. All-contains (λ g. HasFact ns g ts) others f has (of-others f c))

  abbrev Like : List HeldFact → CondTree → Type 0
  Like fs c = (d : CondTree) × Contains (map (fact_of ns) fs) (So d) × Alike (map (fact_of ns) others) c d

  -- a condition that isn't always true follows where one is like it that is given
  pub some_like : (c : CondTree) (always b : Type 0)
      → ((d : CondTree) → Contains (map (fact_of ns) whole) (So d) → Alike (map (fact_of ns) whole) c d → Contains (map (fact_of ns) given) (So d))
      → (always → ⊥) → (b ↔ Like given c) → b ↔ (always ⊎ Like others c)
  some_like c always b all none is = (
    λ y. let x = is.0 y in let f = fact-at ns given (So x.0) x.1 in inr (x.0, there-fact ns others f.0 (So x.0) (of-others f.0 f.1) f.2, x.2),
    λ s. elim s [
      | inl a ↦ absurd (none a)
      | inr x ↦ is.1 (x.0, all x.0 (subst (λ (l : List HeldFact). Contains (map (fact_of ns) l) (So x.0)) (sym same) x.1) (subst (λ (l : List HeldFact). Alike (map (fact_of ns) l) c x.0) (sym same) x.2), x.2)
    ],
  )
