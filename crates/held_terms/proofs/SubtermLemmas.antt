-- Lists that have the subterms of trees have those of the numbers that stand for them.
use Rattle.std.proofs.Common.{◌≡◌, ℕ, List, [], ◌∷◌, ◌++◌, Some, flat_map, map, sym, subst}
use Rattle.std.proofs.lemmas.List.Elements.{All-cons, All-head, All-nil, All-tail}
use Rattle.term_arena.specs.declared.node.Node.{Node}
use Rattle.term_arena.specs.Arena.{Tree, OfWord, OfMem, IsWordAt, mem_of, tree_of, word_of}
use Rattle.held_terms.specs.declared.held.HeldValues.{HeldValues}
use Rattle.held_terms.specs.declared.held.HeldFact.{HeldFact}
use Rattle.held_terms.specs.declared.held.HeldFact.TheVariants as held
use Rattle.held_terms.specs.declared.held.HeldSide.{HeldSide}
use Rattle.held_terms.specs.declared.held.Held.{Held}
use Rattle.held_terms.specs.Held.{AreFactsAt, AreMemsAt, AreRegistersAt, AreValuesAt, AreWordsAt, IsFactAt, IsHeldAt, IsSideAt, fact_of, register_of, side_of, triple_of, values_over}
use Rattle.held_terms.specs.Subterms.{HasFact, HasFacts, HasHeld, HasRegisters, HasSide, HasTerms, HasTree, HasValues}
use Rattle.held_terms.specs.Terms.{HasSubterms, assertion_terms, fact_terms, triple_terms, values_terms}

module _ (ts : List Tree) where
  abbrev Has : Tree → Type 0
  Has t = HasTree ts (Some t)

  pub has_first : (xs ys : List Tree) → HasSubterms ts (xs ++ ys) → HasSubterms ts xs
  has_first [] ys h = All-nil Has
  has_first (x ∷ xs) ys h = All-cons Has x xs (All-head Has x (xs ++ ys) h) (has_first xs ys (All-tail Has x (xs ++ ys) h))

  pub has_rest : (xs ys : List Tree) → HasSubterms ts (xs ++ ys) → HasSubterms ts ys
  has_rest [] ys h = h
  has_rest (x ∷ xs) ys h = has_rest xs ys (All-tail Has x (xs ++ ys) h)

  module _ (ns : List Node) where
    -- the number's tree is that one
    has-at : (k : ℕ) (t : Tree) → tree_of ns k ≡ Some t → Has t → HasTree ts (tree_of ns k)
    has-at k t e h = subst (HasTree ts) (sym e) h

    words-at : (ks : List ℕ) → AreWordsAt ns ks → HasSubterms ts (map OfWord (map (word_of ns) ks)) → HasTerms ns ks ts
    words-at [] a h = All-nil (λ k. HasTree ts (tree_of ns k))
    words-at (k ∷ ks) a h =
        let rest = map OfWord (map (word_of ns) ks) in
        All-cons (λ q. HasTree ts (tree_of ns q)) k ks (has-at k (OfWord (word_of ns k)) (All-head (λ q. IsWordAt ns q) k ks a) (All-head Has (OfWord (word_of ns k)) rest h))
        (words-at ks (All-tail (λ q. IsWordAt ns q) k ks a) (All-tail Has (OfWord (word_of ns k)) rest h))

    mems-at : (ks : List ℕ) → AreMemsAt ns ks → HasSubterms ts (map OfMem (map (mem_of ns) ks)) → HasTerms ns ks ts
    mems-at [] a h = All-nil (λ k. HasTree ts (tree_of ns k))
    mems-at (k ∷ ks) a h =
        let rest = map OfMem (map (mem_of ns) ks) in
        All-cons (λ q. HasTree ts (tree_of ns q)) k ks (has-at k (OfMem (mem_of ns k)) (All-head (λ q. tree_of ns q ≡ Some (OfMem (mem_of ns q))) k ks a) (All-head Has (OfMem (mem_of ns k)) rest h))
        (mems-at ks (All-tail (λ q. tree_of ns q ≡ Some (OfMem (mem_of ns q))) k ks a) (All-tail Has (OfMem (mem_of ns k)) rest h))

    registers-at : (rs : List (ℕ × ℕ)) → AreRegistersAt ns rs → HasSubterms ts (map (λ r. OfWord r.1) (map (register_of ns) rs)) → HasRegisters ns rs ts
    registers-at [] a h = All-nil (λ (r : ℕ × ℕ). HasTree ts (tree_of ns r.1))
    registers-at (r ∷ rs) a h =
        let rest = map (λ q. OfWord q.1) (map (register_of ns) rs) in
        All-cons (λ (q : ℕ × ℕ). HasTree ts (tree_of ns q.1)) r rs (has-at r.1 (OfWord (word_of ns r.1)) (All-head (λ (q : ℕ × ℕ). IsWordAt ns q.1) r rs a) (All-head Has (OfWord (word_of ns r.1)) rest h))
        (registers-at rs (All-tail (λ (q : ℕ × ℕ). IsWordAt ns q.1) r rs a) (All-tail Has (OfWord (word_of ns r.1)) rest h))

    values-at : (v : HeldValues) → AreValuesAt ns v → HasSubterms ts (values_terms (values_over ns v)) → HasValues ns v ts
    values-at v a h =
        let words = map OfWord (map (word_of ns) v.words) in
        let mems = map OfMem (map (mem_of ns) v.mems) in
        record { words = words-at v.words a.words (has_first words mems h); mems = mems-at v.mems a.mems (has_rest words mems h) }

    fact-at : (f : HeldFact) → IsFactAt ns f → HasSubterms ts (fact_terms (fact_of ns f)) → HasFact ns f ts
    fact-at (held.WordIs a b) i h =
        let last = OfWord (word_of ns b) ∷ [] in
        (has-at a _ i.0 (All-head Has (OfWord (word_of ns a)) last h), has-at b _ i.1 (All-head Has (OfWord (word_of ns b)) [] (All-tail Has (OfWord (word_of ns a)) last h)))
    fact-at (held.MemIs a b) i h =
        let last = OfMem (mem_of ns b) ∷ [] in
        (has-at a _ i.0 (All-head Has (OfMem (mem_of ns a)) last h), has-at b _ i.1 (All-head Has (OfMem (mem_of ns b)) [] (All-tail Has (OfMem (mem_of ns a)) last h)))
    fact-at (held.So c) i h = has-at c _ i (All-head Has _ [] h)
    fact-at (held.Gives def exit args results) i h =
        let first = values_terms (values_over ns args) in
        let second = values_terms (values_over ns results) in
        (values-at args i.0 (has_first first second h), values-at results i.1 (has_rest first second h))

    facts-at : (fs : List HeldFact) → AreFactsAt ns fs → HasSubterms ts (flat_map fact_terms (map (fact_of ns) fs)) → HasFacts ns fs ts
    facts-at [] a h = All-nil (λ (f : HeldFact). HasFact ns f ts)
    facts-at (f ∷ fs) a h =
        let first = fact_terms (fact_of ns f) in
        let rest = flat_map fact_terms (map (fact_of ns) fs) in
        All-cons (λ (q : HeldFact). HasFact ns q ts) f fs (fact-at f (All-head (λ (q : HeldFact). IsFactAt ns q) f fs a) (has_first first rest h))
        (facts-at fs (All-tail (λ (q : HeldFact). IsFactAt ns q) f fs a) (has_rest first rest h))

    side-at : (s : HeldSide) → IsSideAt ns s → HasSubterms ts (assertion_terms (side_of ns s)) → HasSide ns s ts
    side-at s i h =
        let regs = map (λ r. OfWord r.1) (map (register_of ns) s.regs) in
        let mems = map OfMem (map (mem_of ns) s.mems) in
        let rest = All-tail Has (OfWord (word_of ns s.pc)) (regs ++ mems) h in
        record {
          pc = has-at s.pc (OfWord (word_of ns s.pc)) i.pc (All-head Has (OfWord (word_of ns s.pc)) (regs ++ mems) h);
          regs = registers-at s.regs i.regs (has_first regs mems rest);
          mems = mems-at s.mems i.mems (has_rest regs mems rest);
        }

    pub held_at : (h : Held) → IsHeldAt ns h → HasSubterms ts (triple_terms (triple_of ns h)) → HasHeld ns h ts
    held_at h i has =
        let facts = flat_map fact_terms (map (fact_of ns) h.facts) in
        let pre = assertion_terms (side_of ns h.pre) in
        let post = assertion_terms (side_of ns h.post) in
        let sides = has_rest facts (pre ++ post) has in
        record {
          facts = facts-at h.facts i.facts (has_first facts (pre ++ post) has);
          pre = side-at h.pre i.pre (has_first pre post sides);
          post = side-at h.post i.post (has_rest pre post sides);
        }
