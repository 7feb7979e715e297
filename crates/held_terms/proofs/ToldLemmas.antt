-- Facts over an arena are told by their numbers.
use Rattle.std.proofs.Common.{◌≡◌, ℕ, Bool, List, [], ◌∷◌, Some, map, refl, ap, ◌∙◌}
use Rattle.std.specs.Prelude.{◌↔◌, IsTrue}
use Rattle.std.specs.List.{Contains}
use Rattle.std.proofs.lemmas.List.Elements.{All-head, All-tail, All-contains}
use Rattle.term_arena.specs.declared.node.Node.{Node}
use Rattle.term_arena.specs.Arena.{OfWord, OfMem, OfCond, word_of, mem_of, cond_of, IsWordAt, IsMemAt, IsCondAt, IsArena}
use Rattle.term_arena.proofs.Places.{at_contains, contains_at, at-map, map-at}
use Rattle.term_arena.proofs.TreeLemmas.{one_number}
use Rattle.tailrec_lang.specs.Tree.{ValuesTree}
use Rattle.held_terms.specs.declared.held.HeldValues.{HeldValues}
use Rattle.held_terms.specs.declared.held.HeldFact.{HeldFact}
use Rattle.held_terms.specs.declared.held.HeldFact.TheVariants as held
use Rattle.held_terms.specs.Held.{values_over, fact_of, AreWordsAt, AreMemsAt, AreValuesAt, IsFactAt, AreFactsAt}
use Rattle.held_terms.specs.inner.Numbers.{numbers_of, AreListed}
use Rattle.held_terms.proofs.NumberLemmas.{told}

module _ (ns : List Node) (arena : IsArena ns) where
  one_word : (x y : ℕ) → IsWordAt ns x → IsWordAt ns y → word_of ns x ≡ word_of ns y → x ≡ y
  one_word x y hx hy e = one_number ns x y (OfWord (word_of ns y)) arena (hx ∙ ap (λ t. Some (OfWord t)) e) hy

  one_mem : (x y : ℕ) → IsMemAt ns x → IsMemAt ns y → mem_of ns x ≡ mem_of ns y → x ≡ y
  one_mem x y hx hy e = one_number ns x y (OfMem (mem_of ns y)) arena (hx ∙ ap (λ t. Some (OfMem t)) e) hy

  one_cond : (x y : ℕ) → IsCondAt ns x → IsCondAt ns y → cond_of ns x ≡ cond_of ns y → x ≡ y
  one_cond x y hx hy e = one_number ns x y (OfCond (cond_of ns y)) arena (hx ∙ ap (λ t. Some (OfCond t)) e) hy

  one_words : (xs ys : List ℕ) → AreWordsAt ns xs → AreWordsAt ns ys → map (word_of ns) xs ≡ map (word_of ns) ys → xs ≡ ys
  one_words [] [] hx hy e = refl
  one_words [] (y ∷ ys) hx hy e = cc
  one_words (x ∷ xs) [] hx hy e = cc
  one_words (x ∷ xs) (y ∷ ys) hx hy e =
      let first : word_of ns x ≡ word_of ns y = cc in
      let rest : map (word_of ns) xs ≡ map (word_of ns) ys = cc in
      let here = one_word x y (All-head (IsWordAt ns) x xs hx) (All-head (IsWordAt ns) y ys hy) first in
      let more = one_words xs ys (All-tail (IsWordAt ns) x xs hx) (All-tail (IsWordAt ns) y ys hy) rest in
      λ i. here i ∷ more i

  one_mems : (xs ys : List ℕ) → AreMemsAt ns xs → AreMemsAt ns ys → map (mem_of ns) xs ≡ map (mem_of ns) ys → xs ≡ ys
  one_mems [] [] hx hy e = refl
  one_mems [] (y ∷ ys) hx hy e = cc
  one_mems (x ∷ xs) [] hx hy e = cc
  one_mems (x ∷ xs) (y ∷ ys) hx hy e =
      let first : mem_of ns x ≡ mem_of ns y = cc in
      let rest : map (mem_of ns) xs ≡ map (mem_of ns) ys = cc in
      let here = one_mem x y (All-head (IsMemAt ns) x xs hx) (All-head (IsMemAt ns) y ys hy) first in
      let more = one_mems xs ys (All-tail (IsMemAt ns) x xs hx) (All-tail (IsMemAt ns) y ys hy) rest in
      λ i. here i ∷ more i

  one_list_each : (v w : HeldValues) → AreValuesAt ns v → AreValuesAt ns w → values_over ns v ≡ values_over ns w → v ≡ w
  one_list_each v w hv hw e =
      let words = one_words v.words w.words hv.words hw.words (ap (λ (t : ValuesTree). t.words) e) in
      let mems = one_mems v.mems w.mems hv.mems hw.mems (ap (λ (t : ValuesTree). t.mems) e) in
      λ i. record { words = words i; mems = mems i }

  pub one_fact : (f g : HeldFact) → IsFactAt ns f → IsFactAt ns g → fact_of ns f ≡ fact_of ns g → f ≡ g
  one_fact (held.WordIs a b) (held.WordIs c d) hf hg e =
      let ea : word_of ns a ≡ word_of ns c = cc in
      let eb : word_of ns b ≡ word_of ns d = cc in
      let sa = one_word a c hf.0 hg.0 ea in
      let sb = one_word b d hf.1 hg.1 eb in
      λ i. held.WordIs (sa i) (sb i)
  one_fact (held.MemIs a b) (held.MemIs c d) hf hg e =
      let ea : mem_of ns a ≡ mem_of ns c = cc in
      let eb : mem_of ns b ≡ mem_of ns d = cc in
      let sa = one_mem a c hf.0 hg.0 ea in
      let sb = one_mem b d hf.1 hg.1 eb in
      λ i. held.MemIs (sa i) (sb i)
  one_fact (held.So a) (held.So c) hf hg e =
      let ea : cond_of ns a ≡ cond_of ns c = cc in
      let sa = one_cond a c hf hg ea in
      λ i. held.So (sa i)
  one_fact (held.Gives d e x y) (held.Gives d2 e2 x2 y2) hf hg same =
      let def : d ≡ d2 = cc in
      let exit : e ≡ e2 = cc in
      let args : values_over ns x ≡ values_over ns x2 = cc in
      let results : values_over ns y ≡ values_over ns y2 = cc in
      let sx = one_list_each x x2 hf.0 hg.0 args in
      let sy = one_list_each y y2 hf.1 hg.1 results in
      λ i. held.Gives (def i) (exit i) (sx i) (sy i)
  one_fact (held.WordIs a b) (held.MemIs c d) hf hg e = cc
  one_fact (held.WordIs a b) (held.So c) hf hg e = cc
  one_fact (held.WordIs a b) (held.Gives d e2 x y) hf hg e = cc
  one_fact (held.MemIs a b) (held.WordIs c d) hf hg e = cc
  one_fact (held.MemIs a b) (held.So c) hf hg e = cc
  one_fact (held.MemIs a b) (held.Gives d e2 x y) hf hg e = cc
  one_fact (held.So a) (held.WordIs c d) hf hg e = cc
  one_fact (held.So a) (held.MemIs c d) hf hg e = cc
  one_fact (held.So a) (held.Gives d e2 x y) hf hg e = cc
  one_fact (held.Gives d e x y) (held.WordIs a b) hf hg same = cc
  one_fact (held.Gives d e x y) (held.MemIs a b) hf hg same = cc
  one_fact (held.Gives d e x y) (held.So a) hf hg same = cc

  module _ (facts : List HeldFact) (f : HeldFact) (there : AreFactsAt ns facts) (here : IsFactAt ns f) where
    told_among : Contains (map numbers_of facts) (numbers_of f) → Contains (map (fact_of ns) facts) (fact_of ns f)
    told_among c =
        let at = at_contains (map numbers_of facts) (numbers_of f) c in
        let item = at-map numbers_of facts at.0 (numbers_of f) at.1 in
        contains_at (map (fact_of ns) facts) at.0 (fact_of ns f) (map-at (fact_of ns) facts at.0 item.0 item.1 ∙ ap (λ (g : HeldFact). Some (fact_of ns g)) (told item.0 f item.2))

    among_told : Contains (map (fact_of ns) facts) (fact_of ns f) → Contains (map numbers_of facts) (numbers_of f)
    among_told c =
        let at = at_contains (map (fact_of ns) facts) (fact_of ns f) c in
        let item = at-map (fact_of ns) facts at.0 (fact_of ns f) at.1 in
        let same = one_fact item.0 f (All-contains (IsFactAt ns) facts item.0 there (contains_at facts at.0 item.0 item.1)) here item.2 in
        contains_at (map numbers_of facts) at.0 (numbers_of f) (map-at numbers_of facts at.0 item.0 item.1 ∙ ap (λ (g : HeldFact). Some (numbers_of g)) same)

    pub by_numbers : (r : Bool) → (IsTrue r ↔ Contains (map numbers_of facts) (numbers_of f)) → IsTrue r ↔ Contains (map (fact_of ns) facts) (fact_of ns f)
    by_numbers r is = (λ h. told_among (is.0 h), λ c. is.1 (among_told c))

    pub by_keys : (keys : List (List ℕ)) (r : Bool) → AreListed facts keys → (IsTrue r ↔ Contains keys (numbers_of f)) → IsTrue r ↔ Contains (map (fact_of ns) facts) (fact_of ns f)
    by_keys keys r a is = by_numbers r (λ h. (a.each (numbers_of f)).0 (is.0 h), λ c. is.1 ((a.each (numbers_of f)).1 c))
