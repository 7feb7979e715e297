-- Registers that are further than a theorem's own, put in one after the other.
use Rattle.std.proofs.Common.{◌≡◌, ℕ, ◌+◌, ◌<◌, Bool, true, false, cond, drop, get_or, length, map, take, List, [], ◌∷◌, ◌++◌, sym, ap, ◌∙◌, subst}
use Rattle.std.specs.Prelude.{All, not}
use Rattle.std.proofs.lemmas.List.{append-nil, drop-map, length-map, map-append}
use Rattle.std.proofs.lemmas.List.Elements.{All-push, filter-append}
use Rattle.tailrec_lang.proofs.Lists.{map-take_more}
use Rattle.word_terms.specs.Tree.{WordTree}
use Rattle.frame_compose.specs.Rules.{further, is_listed, rest_after}
use Rattle.term_arena.specs.declared.node.Node.{Node}
use Rattle.term_arena.specs.Arena.{Extends, IsWordAt, OfWord, Tree}
use Rattle.held_terms.specs.Held.{register_of}
use Rattle.held_terms.specs.Terms.{AreTermsPutIn}
use Rattle.held_terms.specs.inner.Put.{AreRegistersPut, IsWordPut}
use Rattle.held_terms.proofs.PutLemmas.{registers_stay}
use Rattle.held_terms.proofs.PutOrder.{terms-then}

-- what stands in registers
abbrev pub held_words : List (ℕ × WordTree) → List Tree
held_words rs = map (λ r. OfWord r.1) rs

module _ (own : List (ℕ × WordTree)) {X : Type 0} (tree : X → ℕ × WordTree) where
  parted : (xs : List (ℕ × WordTree)) (x : ℕ × WordTree) (b : Bool) → is_listed own x.0 ≡ b → further own (xs ++ x ∷ []) ≡ further own xs ++ cond (not b) (x ∷ []) []
  parted xs x b e = filter-append (λ (q : ℕ × WordTree). not (is_listed own q.0)) xs (x ∷ []) ∙ ap (λ (c : Bool). further own xs ++ cond (not c) (x ∷ []) []) e

  -- the first items, and one that is listed
  pub listed-next : (xs : List X) (i : ℕ) (x : X) → i < length xs → x ≡ get_or xs i x → is_listed own (tree x).0 ≡ true → further own (map tree (take (i + 1) xs)) ≡ further own (map tree (take i xs))
  listed-next xs i x low is e = ap (further own) (map-take_more tree xs i x low is) ∙ parted (map tree (take i xs)) (tree x) true e ∙ append-nil (further own (map tree (take i xs)))

  -- .. and one that isn't
  pub further-next : (xs : List X) (i : ℕ) (x : X) → i < length xs → x ≡ get_or xs i x → is_listed own (tree x).0 ≡ false → further own (map tree (take (i + 1) xs)) ≡ further own (map tree (take i xs)) ++ tree x ∷ []
  further-next xs i x low is e = ap (further own) (map-take_more tree xs i x low is) ∙ parted (map tree (take i xs)) (tree x) false e

-- registers, and one more
pub register-next : (before now : List Node) (ks all : List (ℕ × ℕ)) (ts us : List (ℕ × WordTree)) (n k : ℕ) (t : WordTree) → us ≡ ts ++ (n, t) ∷ [] → Extends before now → all ≡ ks ++ (n, k) ∷ []
    → AreRegistersPut before ks ts → IsWordPut now k t → AreRegistersPut now all us
register-next before now ks all ts us n k t same grows e old here =
    let kept : AreRegistersPut now ks ts = registers_stay before now grows ks ts old in
    record {
      at = subst (All (λ (r : ℕ × ℕ). IsWordAt now r.1)) (sym e) (All-push (λ (r : ℕ × ℕ). IsWordAt now r.1) ks (n, k) kept.at here.at);
      is = ap (map (register_of now)) e ∙ map-append (register_of now) ks ((n, k) ∷ []) ∙ (λ j. kept.is j ++ (n, here.is j) ∷ []) ∙ sym same;
    }

pub word-next : (start : List Node) (ts us : List (ℕ × WordTree)) (before : List Node) (n : ℕ) (t : WordTree) (now : List Node) → us ≡ ts ++ (n, t) ∷ [] → AreTermsPutIn start (held_words ts) before
    → AreTermsPutIn before (OfWord t ∷ []) now → AreTermsPutIn start (held_words us) now
word-next start ts us before n t now same h k =
    subst (λ (xs : List Tree). AreTermsPutIn start xs now) (sym (ap held_words same ∙ map-append (λ (r : ℕ × WordTree). OfWord r.1) ts ((n, t) ∷ []))) (terms-then start (held_words ts) before (OfWord t ∷ []) now h k)

-- ---- memories

pub rest-image : {X A : Type 0} (f : X → A) (own all rest : List X) → rest ≡ drop (length own) all → map f rest ≡ rest_after (map f own) (map f all)
rest-image f own all rest e = ap (map f) e ∙ sym (drop-map f (length own) all) ∙ ap (λ (k : ℕ). drop k (map f all)) (sym (length-map own f))
