-- Terms read back from their numbers, one after the other.
use Rattle.std.proofs.Common.{◌≡◌, ℕ, zero, suc, ◌+◌, ◌<◌, ◌≤◌, List, [], ◌∷◌, ◌++◌, length, flat_map, get_or, drop, map, take, refl, sym, ap, subst, ◌∙◌, arith}
use Rattle.std.proofs.lemmas.List.{map_push, take_more}
use Rattle.word_terms.specs.declared.term.Word.{Word}
use Rattle.word_terms.specs.Tree.{word_tree}
use Rattle.sep_assert.specs.Tree.{register_tree}
use Rattle.term_arena.specs.declared.node.Node.{Node}
use Rattle.term_arena.specs.Arena.{OfMem, OfWord, Tree, mem_of, word_nodes, word_of}
use Rattle.held_terms.specs.declared.held.Held.{Held}
use Rattle.held_terms.specs.declared.held.HeldFact.{HeldFact}
use Rattle.held_terms.specs.declared.held.HeldFact.TheVariants as held
use Rattle.held_terms.specs.declared.held.HeldSide.{HeldSide}
use Rattle.held_terms.specs.declared.held.HeldValues.{HeldValues}
use Rattle.held_terms.specs.Held.{fact_of, register_of, side_of, triple_of, values_over}
use Rattle.held_terms.specs.Terms.{assertion_terms, fact_terms, nodes_of, tree_nodes, triple_terms, values_terms}
use Rattle.held_terms.proofs.PutSteps.{both_steps, item_left, one_step}

same-item : {A : Type 0} (xs : List A) (i : ℕ) (d e : A) → i < length xs → get_or xs i d ≡ get_or xs i e
same-item [] i d e low = absurd (omega (arith, low))
same-item (x ∷ xs) zero d e low = refl
same-item (x ∷ xs) (suc i) d e low = same-item xs i d e (omega (arith, low))

module _ {A B C : Type 0} (f : A → C) (of : B → C) (trees all : List A) (y : A) (e : all ≡ trees ++ y ∷ []) (xs : List B) (i : ℕ) (low : i < length xs) (before : map f trees ≡ map of (take i xs)) where
  -- the first i are read, and the next one, which is kept as the loop has it, or is that place's
  pub tree_pushed : (x : B) → x ≡ get_or xs i x → f y ≡ of x → map f all ≡ map of (take (i + 1) xs)
  tree_pushed x is same =
      ap (map f) e ∙ map_push f trees y ∙ (λ j. before j ++ same j ∷ []) ∙ sym (ap (map of) (take_more xs i x low) ∙ map_push of (take i xs) (get_or xs i x) ∙ (λ j. map of (take i xs) ++ of (sym is j) ∷ []))

  pub place_pushed : (d : B) → f y ≡ of (get_or xs i d) → map f all ≡ map of (take (i + 1) xs)
  place_pushed d same = tree_pushed (get_or xs i d) (same-item xs i d (get_or xs i d) low) same

-- the nodes of those from one on are its own and those of the ones behind it
pub place_left : {X T : Type 0} (tree : X → T) (xs : List X) (i : ℕ) (d : X) → i < length xs → (of : T → Tree) → nodes_of (map of (map tree (drop i xs))) ≡ tree_nodes (of (tree (get_or xs i d))) + nodes_of (map of (map tree (drop (i + 1) xs)))
place_left tree xs i d low of = item_left tree xs i (get_or xs i d) low (same-item xs i d (get_or xs i d) low) of

module _ (ns : List Node) where
  pub register_read : (r : ℕ × ℕ) (t : Word) → word_tree t ≡ word_of ns r.1 → register_tree (r.0, t) ≡ register_of ns r
  register_read r t e = λ i. (r.0, e i)

  -- ---- the steps of parts, one after the other

  pub values_steps : (v : HeldValues) (ks ms : List ℕ) (old one two : ℕ) → ks ≡ v.words → ms ≡ v.mems → one ≤ old + nodes_of (map OfWord (map (word_of ns) ks)) → two ≤ one + nodes_of (map OfMem (map (mem_of ns) ms))
      → two ≤ old + nodes_of (values_terms (values_over ns v))
  values_steps v ks ms old one two e f few more =
      both_steps old one two (map OfWord (map (word_of ns) v.words)) (map OfMem (map (mem_of ns) v.mems))
      (subst (λ (xs : List ℕ). one ≤ old + nodes_of (map OfWord (map (word_of ns) xs))) e few) (subst (λ (xs : List ℕ). two ≤ one + nodes_of (map OfMem (map (mem_of ns) xs))) f more)

  pub gives_steps : (f : HeldFact) (def exit : ℕ) (args results : HeldValues) (old one two : ℕ) → f ≡ held.Gives def exit args results → one ≤ old + nodes_of (values_terms (values_over ns args))
      → two ≤ one + nodes_of (values_terms (values_over ns results)) → two ≤ old + nodes_of (fact_terms (fact_of ns f))
  gives_steps f def exit args results old one two is few more =
      subst (λ (g : HeldFact). two ≤ old + nodes_of (fact_terms (fact_of ns g))) (sym is) (both_steps old one two (values_terms (values_over ns args)) (values_terms (values_over ns results)) few more)

  pub side_steps : (s : HeldSide) (rs : List (ℕ × ℕ)) (ms : List ℕ) (old one two three : ℕ) → rs ≡ s.regs → ms ≡ s.mems → one ≤ old + word_nodes (word_of ns s.pc) → two ≤ one + nodes_of (map (λ r. OfWord r.1) (map (register_of ns) rs))
      → three ≤ two + nodes_of (map OfMem (map (mem_of ns) ms)) → three ≤ old + nodes_of (assertion_terms (side_of ns s))
  side_steps s rs ms old one two three e f few more last =
      both_steps old one three (OfWord (word_of ns s.pc) ∷ []) (map (λ r. OfWord r.1) (map (register_of ns) s.regs) ++ map OfMem (map (mem_of ns) s.mems)) (one_step old one (OfWord (word_of ns s.pc)) few)
      (both_steps one two three (map (λ r. OfWord r.1) (map (register_of ns) s.regs)) (map OfMem (map (mem_of ns) s.mems))
      (subst (λ (xs : List (ℕ × ℕ)). two ≤ one + nodes_of (map (λ r. OfWord r.1) (map (register_of ns) xs))) e more) (subst (λ (xs : List ℕ). three ≤ two + nodes_of (map OfMem (map (mem_of ns) xs))) f last))

  pub triple_steps : (h : Held) (fs : List HeldFact) (old one two three : ℕ) → fs ≡ h.facts → one ≤ old + nodes_of (flat_map fact_terms (map (fact_of ns) fs)) → two ≤ one + nodes_of (assertion_terms (side_of ns h.pre))
      → three ≤ two + nodes_of (assertion_terms (side_of ns h.post)) → three ≤ old + nodes_of (triple_terms (triple_of ns h))
  triple_steps h fs old one two three e few more last =
      both_steps old one three (flat_map fact_terms (map (fact_of ns) h.facts)) (assertion_terms (side_of ns h.pre) ++ assertion_terms (side_of ns h.post))
      (subst (λ (xs : List HeldFact). one ≤ old + nodes_of (flat_map fact_terms (map (fact_of ns) xs))) e few) (both_steps one two three (assertion_terms (side_of ns h.pre)) (assertion_terms (side_of ns h.post)) more last)
