-- What is found of terms by themselves.
use Rattle.std.proofs.Common.{◌≡◌, ℕ, Bool, true, false, not, List, Option, Some, None, option_map, refl, ap, sym, ◌∙◌, subst, arith}
use Rattle.std.specs.Prelude.{◌↔◌, IfNone, IfSome, IsTrue}
use Rattle.rv_words.specs.declared.operation.Op.{Op}
use Rattle.rv_words.specs.declared.extension.Ext.{Ext}
use Rattle.rv_words.specs.declared.comparison.Cmp.{Cmp}
use Rattle.rv_words.specs.Operation.{operation_value, extension_value, comparison_holds}
use Rattle.word_terms.specs.Tree.{WordTree, MemTree, CondTree, MemVar, Store}
use Rattle.word_terms.specs.Scope.{MemInScope}
use Rattle.term_arena.specs.declared.node.Node.{Node}
use Rattle.term_arena.specs.declared.node.Node.TheVariants as node
use Rattle.term_arena.specs.Arena.{Tree, as_word, as_mem, as_cond, tree_of, trees_of, tree_over, word_of, mem_of, cond_of, IsWordAt, IsMemAt, IsCondAt, AreChildren, AreBelow}
use Rattle.triple_kernel.specs.Rules.{IsAlwaysTrue, before_stores}
use Rattle.held_consequence.specs.inner.Alone.{stored_over, IsBase, IsBeforeStore, IsConstant, IsDecidedAlone, applied, compared}
use Rattle.held_terms.proofs.ChildLemmas.{children_under}

-- what holds of the item, or where there is none
pub some_such : {A : Type 0} (o : Option A) (P : A → Type 0) → ((x : A) → o ≡ Some x → P x) → IfSome o P
some_such None P h = tt
some_such (Some x) P h = h x refl

pub none_such : {A : Type 0} (o : Option A) (P : Type 0) → (o ≡ None → P) → IfNone o P
none_such None P h = h refl
none_such (Some x) P h = tt

module _ (ns : List Node) where
  abbrev Over : Node → ℕ → Type 0
  Over n a = tree_of ns a ≡ Some (tree_over (trees_of ns) n)

  -- ---- memories before stores

  pub before_there : (m : ℕ) (n : Node) (old : ℕ) → Over n m → AreChildren ns n → AreBelow m n → stored_over n ≡ Some old → IsBeforeStore ns m old
  before_there m (node.Store width k a v) old e h low is =
      let same : k ≡ old = cc in
      subst (λ (j : ℕ). IsBeforeStore ns m j) same (record {
        below = low.0;
        there = h.0;
        same = ap (λ (o : Option Tree). before_stores (as_mem o)) e;
        under = (children_under ns m (node.Store width k a v) e h).0;
      })
  before_there m n old e h low is = cc

  pub before_last : (m : ℕ) (n : Node) → IsMemAt ns m → Over n m → stored_over n ≡ None → before_stores (mem_of ns m) ≡ mem_of ns m
  before_last m (node.MemVar i) h e is = ap (λ (o : Option Tree). before_stores (as_mem o)) e ∙ sym (ap as_mem e)
  before_last m (node.Store width k a v) h e is = cc
  before_last m n h e is = let f = sym e ∙ h in cc

  -- ---- terms without variables

  abbrev Says : Option ℕ → WordTree → Type 0
  Says v t = IsConstant t v

  pub const_is : (x n : ℕ) → Over (node.Const n) x → IsConstant (word_of ns x) (Some n)
  const_is x n e = subst (Says (Some n)) (sym (ap as_word e)) (tt, refl)

  bin_over : (x : ℕ) (op : Op) (a b : ℕ) (u v : Option ℕ) → Over (node.Bin op a b) x → IsConstant (word_of ns a) u → IsConstant (word_of ns b) v → IsConstant (word_of ns x) (applied op u v)
  bin_over x op a b (Some n) (Some m) e hu hv = subst (Says (Some (operation_value op n m))) (sym (ap as_word e)) ((hu.0, hv.0), λ i. operation_value op (hu.1 i) (hv.1 i))
  bin_over x op a b (Some n) None e hu hv = subst (Says None) (sym (ap as_word e)) (λ s. hv s.1)
  bin_over x op a b None (Some m) e hu hv = subst (Says None) (sym (ap as_word e)) (λ s. hu s.0)
  bin_over x op a b None None e hu hv = subst (Says None) (sym (ap as_word e)) (λ s. hu s.0)

  pub bin_is : (x : ℕ) (op : Op) (a b : ℕ) (u v r : Option ℕ) → Over (node.Bin op a b) x → IsConstant (word_of ns a) u → IsConstant (word_of ns b) v → r ≡ applied op u v → IsConstant (word_of ns x) r
  bin_is x op a b u v r e hu hv is = subst (IsConstant (word_of ns x)) (sym is) (bin_over x op a b u v e hu hv)

  extend_over : (x : ℕ) (ext : Ext) (a : ℕ) (u : Option ℕ) → Over (node.Extend ext a) x → IsConstant (word_of ns a) u → IsConstant (word_of ns x) (option_map (extension_value ext) u)
  extend_over x ext a (Some n) e hu = subst (Says (Some (extension_value ext n))) (sym (ap as_word e)) (hu.0, λ i. extension_value ext (hu.1 i))
  extend_over x ext a None e hu = subst (Says None) (sym (ap as_word e)) hu

  pub extend_is : (x : ℕ) (ext : Ext) (a : ℕ) (u r : Option ℕ) → Over (node.Extend ext a) x → IsConstant (word_of ns a) u → r ≡ option_map (extension_value ext) u → IsConstant (word_of ns x) r
  extend_is x ext a u r e hu is = subst (IsConstant (word_of ns x)) (sym is) (extend_over x ext a u e hu)

  no_memory : (m : MemTree) → MemInScope m 0 0 → ⊥
  no_memory (MemVar i) h = omega (arith, h)
  no_memory (Store width m a v) h = no_memory m h.0

  pub other_is : (x : ℕ) (n : Node) → IsWordAt ns x → Over n x → ((k : ℕ) → n ≡ node.Const k → ⊥) → ((op : Op) (a b : ℕ) → n ≡ node.Bin op a b → ⊥) → ((ext : Ext) (a : ℕ) → n ≡ node.Extend ext a → ⊥)
      → IsConstant (word_of ns x) None
  other_is x (node.Const k) h e no_const no_bin no_extend = absurd (no_const k refl)
  other_is x (node.Bin op a b) h e no_const no_bin no_extend = absurd (no_bin op a b refl)
  other_is x (node.Extend ext a) h e no_const no_bin no_extend = absurd (no_extend ext a refl)
  other_is x (node.WordVar i) h e no_const no_bin no_extend = subst (Says None) (sym (ap as_word e)) (λ s. omega (arith, s))
  other_is x (node.Load width m a) h e no_const no_bin no_extend = subst (Says None) (sym (ap as_word e)) (λ s. no_memory _ s.0)
  other_is x n h e no_const no_bin no_extend = let f = sym e ∙ h in cc

  abbrev Tells : Option Bool → CondTree → Type 0
  Tells v c = IsDecidedAlone c v

  compare_over : (c : ℕ) (cmp : Cmp) (a b : ℕ) (u v : Option ℕ) → Over (node.Compare cmp a b) c → IsConstant (word_of ns a) u → IsConstant (word_of ns b) v → IsDecidedAlone (cond_of ns c) (compared cmp u v)
  compare_over c cmp a b (Some n) (Some m) e hu hv = subst (Tells (Some (comparison_holds cmp n m))) (sym (ap as_cond e)) ((hu.0, hv.0), λ i. comparison_holds cmp (hu.1 i) (hv.1 i))
  compare_over c cmp a b (Some n) None e hu hv = subst (Tells None) (sym (ap as_cond e)) (λ s. hv s.1)
  compare_over c cmp a b None (Some m) e hu hv = subst (Tells None) (sym (ap as_cond e)) (λ s. hu s.0)
  compare_over c cmp a b None None e hu hv = subst (Tells None) (sym (ap as_cond e)) (λ s. hu s.0)

  pub compare_is : (c : ℕ) (cmp : Cmp) (a b : ℕ) (u v : Option ℕ) (r : Option Bool) → Over (node.Compare cmp a b) c → IsConstant (word_of ns a) u → IsConstant (word_of ns b) v → r ≡ compared cmp u v
      → IsDecidedAlone (cond_of ns c) r
  compare_is c cmp a b u v r e hu hv is = subst (IsDecidedAlone (cond_of ns c)) (sym is) (compare_over c cmp a b u v e hu hv)

  neg_over : (c d : ℕ) (u : Option Bool) → Over (node.Neg d) c → IsDecidedAlone (cond_of ns d) u → IsDecidedAlone (cond_of ns c) (option_map not u)
  neg_over c d (Some b) e hu = subst (Tells (Some (not b))) (sym (ap as_cond e)) (hu.0, λ i. not (hu.1 i))
  neg_over c d None e hu = subst (Tells None) (sym (ap as_cond e)) hu

  pub neg_is : (c d : ℕ) (u r : Option Bool) → Over (node.Neg d) c → IsDecidedAlone (cond_of ns d) u → r ≡ option_map not u → IsDecidedAlone (cond_of ns c) r
  neg_is c d u r e hu is = subst (IsDecidedAlone (cond_of ns c)) (sym is) (neg_over c d u e hu)

  pub inside_is : (c : ℕ) (n : Node) → IsCondAt ns c → Over n c → ((cmp : Cmp) (a b : ℕ) → n ≡ node.Compare cmp a b → ⊥) → ((d : ℕ) → n ≡ node.Neg d → ⊥) → IsDecidedAlone (cond_of ns c) None
  inside_is c (node.Compare cmp a b) h e no_compare no_neg = absurd (no_compare cmp a b refl)
  inside_is c (node.Neg d) h e no_compare no_neg = absurd (no_neg d refl)
  inside_is c (node.Inside width m a) h e no_compare no_neg = subst (Tells None) (sym (ap as_cond e)) (λ s. no_memory _ s.0)
  inside_is c n h e no_compare no_neg = let f = sym e ∙ h in cc

  -- ---- the memory before all stores

  pub base_itself : (m : ℕ) → IsMemAt ns m → before_stores (mem_of ns m) ≡ mem_of ns m → IsBase ns m m
  base_itself m there last = record { low = omega arith; there = there; same = sym last; under = λ ts has. has }

  pub base_before : (m old base : ℕ) → IsBeforeStore ns m old → IsBase ns old base → IsBase ns m base
  base_before m old base b is = record {
    low = let one = b.below in let two = is.low in omega (arith, one, two);
    there = is.there;
    same = is.same ∙ sym b.same;
    under = λ ts has. is.under ts (b.under ts has);
  }

-- a condition without variables that is true
pub always_is : (c : CondTree) (v : Option Bool) (r : Bool) → IsDecidedAlone c v → (IsTrue r ↔ (v ≡ Some true)) → IsTrue r ↔ IsAlwaysTrue c
always_is c (Some true) r h is = (λ y. (h.0, h.1), λ a. is.1 refl)
always_is c (Some false) r h is = (λ y. let f : Some false ≡ Some true = is.0 y in cc, λ a. let f : false ≡ true = sym h.1 ∙ a.1 in cc)
always_is c None r h is = (λ y. let f : None ≡ Some true = is.0 y in cc, λ a. absurd (h a.0))
