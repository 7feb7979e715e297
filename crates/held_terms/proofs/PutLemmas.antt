-- Terms that were put into an arena that grows, item after item.
use Rattle.std.proofs.Common.{◌≡◌, ℕ, ◌+◌, ◌<◌, Some, List, [], ◌∷◌, ◌++◌, length, get_or, map, take, sym, ap, ◌∙◌, subst}
use Rattle.std.specs.Prelude.{All}
use Rattle.std.proofs.lemmas.List.{map-append}
use Rattle.std.proofs.lemmas.List.Elements.{All-push}
use Rattle.tailrec_lang.proofs.Lists.{map-take_more}
use Rattle.word_terms.specs.Tree.{WordTree, MemTree, CondTree}
use Rattle.tailrec_lang.specs.Tree.{ValuesTree}
use Rattle.sep_assert.specs.Tree.{AssertionTree}
use Rattle.rv_words.specs.declared.range.Range.{Range}
use Rattle.word_terms.specs.declared.code.Code.{Code}
use Rattle.triple_kernel.specs.Tree.{FactTree, WordIs, MemIs, So, Gives}
use Rattle.term_arena.specs.declared.node.Node.{Node}
use Rattle.term_arena.specs.Arena.{OfWord, OfMem, OfCond, as_word, as_mem, as_cond, tree_of, word_of, mem_of, IsWordAt, IsMemAt, Extends}
use Rattle.term_arena.proofs.TreeLemmas.{word_there, mem_there, cond_there}
use Rattle.held_terms.specs.declared.held.HeldValues.{HeldValues}
use Rattle.held_terms.specs.declared.held.HeldFact.{HeldFact}
use Rattle.held_terms.specs.declared.held.HeldFact.TheVariants as held
use Rattle.held_terms.specs.declared.held.HeldSide.{HeldSide}
use Rattle.held_terms.specs.Held.{fact_of, register_of}
use Rattle.held_terms.proofs.GrowthLemmas.{word_still, mem_still, values_still, fact_still, side_still, same_word, same_mem, same_map, same_values, same_fact, same_side}
use Rattle.held_terms.specs.inner.Put.{IsPut, ArePut, IsWordPut, IsMemPut, IsCondPut, AreWordsPut, AreMemsPut, AreRegistersPut, AreMemTermsPut, IsValuesPut, IsFactPut, AreFactsPut, IsSidePut, IsHeldPut, mem_term_of}

-- ---- a term

pub word_put : (ns : List Node) (k : ℕ) (t : WordTree) → tree_of ns k ≡ Some (OfWord t) → IsWordPut ns k t
word_put ns k t e = record { at = word_there ns k t e; is = ap as_word e }

pub mem_put : (ns : List Node) (k : ℕ) (m : MemTree) → tree_of ns k ≡ Some (OfMem m) → IsMemPut ns k m
mem_put ns k m e = record { at = mem_there ns k m e; is = ap as_mem e }

pub cond_put : (ns : List Node) (k : ℕ) (c : CondTree) → tree_of ns k ≡ Some (OfCond c) → IsCondPut ns k c
cond_put ns k c e = record { at = cond_there ns k c e; is = ap as_cond e }

-- ---- in a larger arena

module _ (ns ms : List Node) (e : Extends ns ms) where
  pub word_stays : (k : ℕ) (t : WordTree) → IsWordPut ns k t → IsWordPut ms k t
  word_stays k t p = record { at = word_still ns ms k e p.at; is = same_word ns ms e k p.at ∙ p.is }

  pub mem_stays : (k : ℕ) (m : MemTree) → IsMemPut ns k m → IsMemPut ms k m
  mem_stays k m p = record { at = mem_still ns ms k e p.at; is = same_mem ns ms e k p.at ∙ p.is }

  pub words_stay : (ks : List ℕ) (ts : List WordTree) → AreWordsPut ns ks ts → AreWordsPut ms ks ts
  words_stay ks ts p = record {
    at = λ i d low. word_still ns ms _ e (p.at i d low);
    is = same_map ns ms e (word_of ms) (word_of ns) ks (λ i d low. same_word ns ms e _ (p.at i d low)) ∙ p.is;
  }

  pub mems_stay : (ks : List ℕ) (ts : List MemTree) → AreMemsPut ns ks ts → AreMemsPut ms ks ts
  mems_stay ks ts p = record {
    at = λ i d low. mem_still ns ms _ e (p.at i d low);
    is = same_map ns ms e (mem_of ms) (mem_of ns) ks (λ i d low. same_mem ns ms e _ (p.at i d low)) ∙ p.is;
  }

  pub registers_stay : (rs : List (ℕ × ℕ)) (ts : List (ℕ × WordTree)) → AreRegistersPut ns rs ts → AreRegistersPut ms rs ts
  registers_stay rs ts p = record {
    at = λ i d low. word_still ns ms _ e (p.at i d low);
    is = same_map ns ms e (register_of ms) (register_of ns) rs (λ i d low. λ j. ((get_or rs i d).0, same_word ns ms e _ (p.at i d low) j)) ∙ p.is;
  }

  pub mem_terms_stay : (rs : List (ℕ × ℕ)) (ts : List (ℕ × MemTree)) → AreMemTermsPut ns rs ts → AreMemTermsPut ms rs ts
  mem_terms_stay rs ts p = record {
    at = λ i d low. mem_still ns ms _ e (p.at i d low);
    is = same_map ns ms e (mem_term_of ms) (mem_term_of ns) rs (λ i d low. λ j. ((get_or rs i d).0, same_mem ns ms e _ (p.at i d low) j)) ∙ p.is;
  }

  pub values_stay : (v : HeldValues) (t : ValuesTree) → IsValuesPut ns v t → IsValuesPut ms v t
  values_stay v t p = record { at = values_still ns ms e v p.at; is = same_values ns ms e v p.at ∙ p.is }

  pub fact_stays : (f : HeldFact) (t : FactTree) → IsFactPut ns f t → IsFactPut ms f t
  fact_stays f t p = record { at = fact_still ns ms e f p.at; is = same_fact ns ms e f p.at ∙ p.is }

  pub facts_stay : (fs : List HeldFact) (ts : List FactTree) → AreFactsPut ns fs ts → AreFactsPut ms fs ts
  facts_stay fs ts p = record {
    at = λ i d low. fact_still ns ms e _ (p.at i d low);
    is = same_map ns ms e (fact_of ms) (fact_of ns) fs (λ i d low. same_fact ns ms e _ (p.at i d low)) ∙ p.is;
  }

  pub side_stays : (s : HeldSide) (t : AssertionTree) → IsSidePut ns s t → IsSidePut ms s t
  side_stays s t p = record { at = side_still ns ms e s p.at; is = same_side ns ms e s p.at ∙ p.is }

-- ---- item after item

module _ {A T X : Type 0} (there : A → Type 0) (of : A → T) (tree : X → T) where
  pub put_next : (ks all : List A) (xs : List X) (i : ℕ) (x : X) (k : A) → i < length xs → x ≡ get_or xs i x → all ≡ ks ++ k ∷ []
      → ArePut there of ks (map tree (take i xs)) → IsPut there of k (tree x) → ArePut there of all (map tree (take (i + 1) xs))
  put_next ks all xs i x k low is e before here = record {
    at = subst (All there) (sym e) (All-push there ks k before.at here.at);
    is = ap (map of) e ∙ map-append of ks (k ∷ []) ∙ (λ j. before.is j ++ here.is j ∷ []) ∙ sym (map-take_more tree xs i x low is);
  }

-- ---- facts and values

module _ (ns : List Node) where
  pub words_equal : (x y : ℕ) (a b : WordTree) → IsWordPut ns x a → IsWordPut ns y b → IsFactPut ns (held.WordIs x y) (WordIs a b)
  words_equal x y a b p q = record { at = (p.at, q.at); is = λ j. WordIs (p.is j) (q.is j) }

  pub mems_equal : (x y : ℕ) (a b : MemTree) → IsMemPut ns x a → IsMemPut ns y b → IsFactPut ns (held.MemIs x y) (MemIs a b)
  mems_equal x y a b p q = record { at = (p.at, q.at); is = λ j. MemIs (p.is j) (q.is j) }

  pub so_put : (x : ℕ) (c : CondTree) → IsCondPut ns x c → IsFactPut ns (held.So x) (So c)
  so_put x c p = record { at = p.at; is = λ j. So (p.is j) }

  pub gives_put : (def exit : ℕ) (x y : HeldValues) (a b : ValuesTree) → IsValuesPut ns x a → IsValuesPut ns y b → IsFactPut ns (held.Gives def exit x y) (Gives def exit a b)
  gives_put def exit x y a b p q = record { at = (p.at, q.at); is = λ j. Gives def exit (p.is j) (q.is j) }

  pub both_put : (words mems : List ℕ) (a : List WordTree) (b : List MemTree) → AreWordsPut ns words a → AreMemsPut ns mems b
      → IsValuesPut ns (record { words = words; mems = mems }) (record { words = a; mems = b })
  both_put words mems a b p q = record { at = record { words = p.at; mems = q.at }; is = λ j. record { words = p.is j; mems = q.is j } }

  -- beside a number, as in a register
  pub word_beside : (n k : ℕ) (t : WordTree) → IsWordPut ns k t → IsPut (λ (r : ℕ × ℕ). IsWordAt ns r.1) (register_of ns) (n, k) (n, t)
  word_beside n k t p = record { at = p.at; is = λ j. (n, p.is j) }

  pub mem_beside : (n k : ℕ) (m : MemTree) → IsMemPut ns k m → IsPut (λ (r : ℕ × ℕ). IsMemAt ns r.1) (mem_term_of ns) (n, k) (n, m)
  mem_beside n k m p = record { at = p.at; is = λ j. (n, p.is j) }

  -- ---- assertions and triples

  pub side_put : (pc : ℕ) (regs : List (ℕ × ℕ)) (mems : List ℕ) (t : WordTree) (rs : List (ℕ × WordTree)) (ms : List MemTree) → IsWordPut ns pc t → AreRegistersPut ns regs rs → AreMemsPut ns mems ms
      → IsSidePut ns (record { pc = pc; regs = regs; mems = mems }) (record { pc = t; regs = rs; mems = ms })
  side_put pc regs mems t rs ms p q r = record { at = record { pc = p.at; regs = q.at; mems = r.at }; is = λ j. record { pc = p.is j; regs = q.is j; mems = r.is j } }

  pub held_put : (facts : List HeldFact) (pre post : HeldSide) (code : Code) (fs : List FactTree) (a b : AssertionTree) (ranges : List Range) → AreFactsPut ns facts fs → IsSidePut ns pre a → code.ranges ≡ ranges → IsSidePut ns post b
      → IsHeldPut ns (record { facts = facts; pre = pre; code = code; post = post }) (record { facts = fs; pre = a; code = ranges; post = b })
  held_put facts pre post code fs a b ranges p q e r = record {
    at = record { facts = p.at; pre = q.at; post = r.at };
    is = λ j. record { facts = p.is j; pre = q.is j; code = e j; post = r.is j };
  }
