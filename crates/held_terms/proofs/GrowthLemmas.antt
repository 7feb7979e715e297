-- Triples over the numbers of an arena that grows: they stand for the same trees.
use Rattle.std.specs.Prelude.{All}
use Rattle.std.proofs.Common.{◌≡◌, ℕ, ◌<◌, List, ◌++◌, length, ap, sym, subst, arith, length-append, ◌+◌, [], ◌∷◌, get_or, map, refl, ◌∙◌, append_assoc}
use Rattle.std.proofs.lemmas.List.Elements.{All-head, All-tail}
use Rattle.std.proofs.lemmas.List.{append-nil}
use Rattle.term_arena.specs.declared.node.Node.{Node}
use Rattle.term_arena.specs.Arena.{IsWordAt, IsMemAt, Extends, word_of, mem_of, cond_of, IsCondAt}
use Rattle.term_arena.proofs.TreeLemmas.{word_kept, mem_kept, cond_kept, same_word_of, same_mem_of, same_cond_of}
use Rattle.triple_kernel.specs.Tree.{WordIs, MemIs, So, Gives}
use Rattle.held_terms.specs.declared.held.HeldValues.{HeldValues}
use Rattle.held_terms.specs.declared.held.HeldFact.{HeldFact}
use Rattle.held_terms.specs.declared.held.HeldFact.TheVariants as held
use Rattle.held_terms.specs.declared.held.HeldSide.{HeldSide}
use Rattle.held_terms.specs.declared.held.Held.{Held}
use Rattle.held_terms.specs.Held.{values_over, fact_of, register_of, side_of, triple_of, AreWordsAt, AreMemsAt, AreRegistersAt, AreValuesAt, IsFactAt, AreFactsAt, IsSideAt, IsHeldAt}

-- ---- a larger arena

pub longer : (ns ms : List Node) (x : ℕ) → Extends ns ms → x < length ns → x < length ms
longer ns ms x e h = let l : length ms ≡ length (ns ++ e.more) = ap length e.is in omega (arith, length-append ns e.more)

pub word_still : (ns ms : List Node) (k : ℕ) → Extends ns ms → IsWordAt ns k → IsWordAt ms k
word_still ns ms k e h = subst (λ (l : List Node). IsWordAt l k) (sym e.is) (word_kept ns e.more k h)

pub mem_still : (ns ms : List Node) (k : ℕ) → Extends ns ms → IsMemAt ns k → IsMemAt ms k
mem_still ns ms k e h = subst (λ (l : List Node). IsMemAt l k) (sym e.is) (mem_kept ns e.more k h)

-- .. of parts of triples
module _ (ns ms : List Node) (e : Extends ns ms) where
  pub cond_still : (k : ℕ) → IsCondAt ns k → IsCondAt ms k
  cond_still k h = subst (λ (l : List Node). IsCondAt l k) (sym e.is) (cond_kept ns e.more k h)

  pub words_still : (ks : List ℕ) → AreWordsAt ns ks → AreWordsAt ms ks
  words_still ks h = λ i d low. word_still ns ms _ e (h i d low)

  pub mems_still : (ks : List ℕ) → AreMemsAt ns ks → AreMemsAt ms ks
  mems_still ks h = λ i d low. mem_still ns ms _ e (h i d low)

  pub registers_still : (rs : List (ℕ × ℕ)) → AreRegistersAt ns rs → AreRegistersAt ms rs
  registers_still rs h = λ i d low. word_still ns ms _ e (h i d low)

  pub values_still : (v : HeldValues) → AreValuesAt ns v → AreValuesAt ms v
  values_still v h = record { words = words_still v.words h.words; mems = mems_still v.mems h.mems }

  pub fact_still : (f : HeldFact) → IsFactAt ns f → IsFactAt ms f
  fact_still (held.WordIs a b) h = (word_still ns ms a e h.0, word_still ns ms b e h.1)
  fact_still (held.MemIs a b) h = (mem_still ns ms a e h.0, mem_still ns ms b e h.1)
  fact_still (held.So c) h = cond_still c h
  fact_still (held.Gives def exit args results) h = (values_still args h.0, values_still results h.1)

  pub facts_still : (fs : List HeldFact) → AreFactsAt ns fs → AreFactsAt ms fs
  facts_still fs h = λ i d low. fact_still _ (h i d low)

  pub side_still : (a : HeldSide) → IsSideAt ns a → IsSideAt ms a
  side_still a h = record { pc = word_still ns ms a.pc e h.pc; regs = registers_still a.regs h.regs; mems = mems_still a.mems h.mems }

  -- the trees are the same
  pub same_word : (k : ℕ) → IsWordAt ns k → word_of ms k ≡ word_of ns k
  same_word k h = ap (λ (l : List Node). word_of l k) e.is ∙ same_word_of ns e.more k h

  pub same_mem : (k : ℕ) → IsMemAt ns k → mem_of ms k ≡ mem_of ns k
  same_mem k h = ap (λ (l : List Node). mem_of l k) e.is ∙ same_mem_of ns e.more k h

  pub same_cond : (k : ℕ) → IsCondAt ns k → cond_of ms k ≡ cond_of ns k
  same_cond k h = ap (λ (l : List Node). cond_of l k) e.is ∙ same_cond_of ns e.more k h

  pub same_map : {A B : Type 0} (f g : A → B) (xs : List A) → All (λ x. f x ≡ g x) xs → map f xs ≡ map g xs
  same_map f g [] h = refl
  same_map {A} f g (x ∷ xs) h = λ i. All-head (λ (y : A). f y ≡ g y) x xs h i ∷ same_map f g xs (All-tail (λ (y : A). f y ≡ g y) x xs h) i

  pub same_values : (v : HeldValues) → AreValuesAt ns v → values_over ms v ≡ values_over ns v
  same_values v h =
      let words = same_map (word_of ms) (word_of ns) v.words (λ i d low. same_word _ (h.words i d low)) in
      let mems = same_map (mem_of ms) (mem_of ns) v.mems (λ i d low. same_mem _ (h.mems i d low)) in
      λ i. record { words = words i; mems = mems i }

  pub same_fact : (f : HeldFact) → IsFactAt ns f → fact_of ms f ≡ fact_of ns f
  same_fact (held.WordIs a b) h = λ i. WordIs (same_word a h.0 i) (same_word b h.1 i)
  same_fact (held.MemIs a b) h = λ i. MemIs (same_mem a h.0 i) (same_mem b h.1 i)
  same_fact (held.So c) h = λ i. So (same_cond c h i)
  same_fact (held.Gives def exit args results) h = λ i. Gives def exit (same_values args h.0 i) (same_values results h.1 i)

  pub same_side : (a : HeldSide) → IsSideAt ns a → side_of ms a ≡ side_of ns a
  same_side a h =
      let pc = same_word a.pc h.pc in
      let regs = same_map (register_of ms) (register_of ns) a.regs (λ i d low. λ j. ((get_or a.regs i d).0, same_word _ (h.regs i d low) j)) in
      let mems = same_map (mem_of ms) (mem_of ns) a.mems (λ i d low. same_mem _ (h.mems i d low)) in
      λ i. record { pc = pc i; regs = regs i; mems = mems i }

  pub same_triple : (p : Held) → IsHeldAt ns p → triple_of ms p ≡ triple_of ns p
  same_triple p h =
      let facts = same_map (fact_of ms) (fact_of ns) p.facts (λ i d low. same_fact _ (h.facts i d low)) in
      let pre = same_side p.pre h.pre in
      let post = same_side p.post h.post in
      λ i. record { facts = facts i; pre = pre i; code = p.code.ranges; post = post i }

-- .. of a triple
pub held_still : (ns ms : List Node) → Extends ns ms → (p : Held) → IsHeldAt ns p → IsHeldAt ms p
held_still ns ms e p h = record { facts = facts_still ns ms e p.facts h.facts; pre = side_still ns ms e p.pre h.pre; post = side_still ns ms e p.post h.post }

-- ---- arenas one after the other

pub extends_next : (ns ms os : List Node) → Extends ns ms → Extends ms os → Extends ns os
extends_next ns ms os a b = record { more = a.more ++ b.more; is = b.is ∙ ap (λ (l : List Node). l ++ b.more) a.is ∙ append_assoc ns a.more b.more }

pub extends_none : (ns : List Node) → Extends ns ns
extends_none ns = record { more = []; is = sym (append-nil ns) }

pub extends_same : (ns ms : List Node) → ms ≡ ns → Extends ns ms
extends_same ns ms e = record { more = []; is = e ∙ sym (append-nil ns) }
