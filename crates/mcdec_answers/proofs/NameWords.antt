-- Names among the command line's words, none of which stands twice.
use Rattle.std.proofs.Common.{◌≡◌, ◌≢◌, ◌↔◌, ◌||◌, ℕ, ◌+◌, ◌<◌, Bool, true, false, not, IsTrue, Bor, List, [], ◌∷◌, ◌++◌, length, map, take, get_or, string_bytes, refl, sym, ap, subst, ◌∙◌, arith, true≢false}
use Rattle.std.specs.List.{Contains, list_any}
use Rattle.std.specs.Str.{bytes_eq}
use Rattle.std.specs.Cmp.Lexicographic.{bytes_decides, nat_list_eq_equiv}
use Rattle.std.proofs.lemmas.Map.Views.{Contains-from_any, list_any-from_Contains}
use Rattle.std.specs.declared.string.String.{String}
use Rattle.std.specs.declared.alloc.Global.{Global}
use Rattle.std.proofs.lemmas.List.{get_or-map, get_or-take, get_or_default, length-map, length-take-le, take_more}
use Rattle.std.proofs.lemmas.List.Elements.{All-get_or, All-push}
use Rattle.std.proofs.lemmas.List.Quantifiers.{all_pairs_push}
use Rattle.group_text.specs.Limits.{IsName}
use Rattle.mcdec_answers.specs.Command.{AreNames, texts}

abbrev Word : Type 0
Word = String Global

module _ (words : List Word) (i : ℕ) (w : Word) (lt : i < length words) (is : w ≡ get_or words i w) where
  in_texts : i < length (texts words)
  in_texts = let same = length-map words (λ (v : Word). string_bytes v) in omega (arith, lt, same)

  text-at : (d : List ℕ) → get_or (texts words) i d ≡ string_bytes w
  text-at d = get_or-map (λ (v : Word). string_bytes v) words i w d lt ∙ ap (λ (v : Word). string_bytes v) (sym is)

  -- a word that is no name
  pub not-a-name : (IsName (string_bytes w) → ⊥) → AreNames (texts words) → ⊥
  not-a-name none are = none (subst IsName (text-at (string_bytes w)) (All-get_or IsName (texts words) i (string_bytes w) in_texts are.0))

  -- a word that stands before
  pub name-twice : Contains (take i (texts words)) (string_bytes w) → AreNames (texts words) → ⊥
  name-twice (k, low, at) are =
      let long = length-take-le i (texts words) (omega (arith, in_texts)) in
      let below : k < i = omega (arith, low, long) in
      are.1 k i (string_bytes w) below in_texts (sym (get_or-take i (texts words) k (string_bytes w) below) ∙ at ∙ sym (text-at (string_bytes w)))

  -- a name more
  pub name-more : (names : List (List ℕ)) → names ≡ take i (texts words) → AreNames names → IsName (string_bytes w) → (Contains names (string_bytes w) → ⊥)
      → (names ++ string_bytes w ∷ [] ≡ take (i + 1) (texts words)) × AreNames (names ++ string_bytes w ∷ [])
  name-more names same are name none = (
    ap (λ ns. ns ++ string_bytes w ∷ []) same ∙ sym (take_more (texts words) i (string_bytes w) in_texts ∙ ap (λ t. take i (texts words) ++ t ∷ []) (text-at (string_bytes w))),
    (
      All-push IsName names (string_bytes w) are.0 name,
      all_pairs_push (λ a b. a ≢ b) names (string_bytes w) are.1 (λ k d low e. none (k, low, get_or_default names k (string_bytes w) d low ∙ e)),
    ),
  )

-- whether a name is among those that were seen, by a test on each of them
seen-any : (name : List ℕ) (ks : List (Bor (List ℕ))) → list_any (λ k. bytes_eq name k.now) ks ≡ list_any (bytes_eq name) (map (λ k. k.now) ks)
seen-any name [] = refl
seen-any name (k ∷ ks) = ap (λ b. bytes_eq name k.now || b) (seen-any name ks)

pub unseen : (name : List ℕ) (ks : List (Bor (List ℕ))) (new : Bool) → new ≡ not (list_any (λ k. bytes_eq name k.now) ks) → IsTrue new ↔ (Contains (map (λ k. k.now) ks) name → ⊥)
unseen name ks new e = by (list_any (bytes_eq name) (map (λ k. k.now) ks)) refl (e ∙ ap not (seen-any name ks))
  where
    by : (t : Bool) → list_any (bytes_eq name) (map (λ k. k.now) ks) ≡ t → new ≡ not t → IsTrue new ↔ (Contains (map (λ k. k.now) ks) name → ⊥)
    by true p q = (λ h c. true≢false (sym h ∙ q), λ none. absurd (none (Contains-from_any (λ x y. (bytes_decides x y).0) name (map (λ k. k.now) ks) p)))
    by false p q = (λ h c. true≢false (sym (list_any-from_Contains nat_list_eq_equiv name (map (λ k. k.now) ks) c) ∙ p), λ none. q)
