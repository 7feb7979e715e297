-- Terms that are put into an arena one after the other.
use Rattle.std.proofs.Common.{◌≡◌, ℕ, ◌+◌, ◌<◌, List, [], ◌∷◌, ◌++◌, get_or, length, map, take, flat_map, sym, ap, ◌∙◌, subst}
use Rattle.std.proofs.lemmas.Grind.{flat_map-append}
use Rattle.std.proofs.lemmas.List.{append-nil, map-append}
use Rattle.tailrec_lang.proofs.Lists.{map-take_more}
use Rattle.term_arena.specs.declared.node.Node.{Node}
use Rattle.term_arena.specs.Arena.{ArePutIn, Tree, trees_of}
use Rattle.term_arena.proofs.PutOrder.{put-then}
use Rattle.held_terms.specs.Terms.{AreTermsPutIn, subterms}

-- one term
pub one-put : (before : List Node) (t : Tree) (after : List Node) → ArePutIn (trees_of before) (subterms t) (trees_of after) → AreTermsPutIn before (t ∷ []) after
one-put before t after h = subst (λ (xs : List Tree). ArePutIn (trees_of before) xs (trees_of after)) (sym (append-nil (subterms t))) h

-- some terms, and then others
pub terms-then : (before : List Node) (xs : List Tree) (between : List Node) (ys : List Tree) (after : List Node) → AreTermsPutIn before xs between → AreTermsPutIn between ys after → AreTermsPutIn before (xs ++ ys) after
terms-then before xs between ys after h k = subst (λ (ts : List Tree). ArePutIn (trees_of before) ts (trees_of after)) (sym (flat_map-append subterms xs ys))
    (put-then (trees_of before) (flat_map subterms xs) (trees_of between) (flat_map subterms ys) (trees_of after) h k)

-- those of the first items of a list, and then those of the next
module _ {X T : Type 0} (tree : X → T) where
  pub item-then : (of : T → Tree) (before : List Node) (xs : List X) (i : ℕ) (x : X) (between after : List Node) → i < length xs → x ≡ get_or xs i x
      → AreTermsPutIn before (map of (map tree (take i xs))) between → AreTermsPutIn between (of (tree x) ∷ []) after → AreTermsPutIn before (map of (map tree (take (i + 1) xs))) after
  item-then of before xs i x between after low is h k =
      subst (λ (ts : List Tree). AreTermsPutIn before ts after) (sym (ap (map of) (map-take_more tree xs i x low is) ∙ map-append of (map tree (take i xs)) (tree x ∷ [])))
      (terms-then before (map of (map tree (take i xs))) between (of (tree x) ∷ []) after h k)

  pub items-then : (of : T → List Tree) (before : List Node) (xs : List X) (i : ℕ) (x : X) (between after : List Node) → i < length xs → x ≡ get_or xs i x
      → AreTermsPutIn before (flat_map of (map tree (take i xs))) between → AreTermsPutIn between (of (tree x)) after → AreTermsPutIn before (flat_map of (map tree (take (i + 1) xs))) after
  items-then of before xs i x between after low is h k =
      let done : List T = map tree (take i xs) in
      let more : flat_map of (map tree (take (i + 1) xs)) ≡ flat_map of (done ++ tree x ∷ []) = ap (λ (ts : List T). flat_map of ts) (map-take_more tree xs i x low is) in
      let parts : flat_map of (done ++ tree x ∷ []) ≡ flat_map of done ++ (of (tree x) ++ []) = flat_map-append of done (tree x ∷ []) in
      let last : flat_map of done ++ (of (tree x) ++ []) ≡ flat_map of done ++ of (tree x) = ap (λ (ts : List Tree). flat_map of done ++ ts) (append-nil (of (tree x))) in
      subst (λ (ts : List Tree). AreTermsPutIn before ts after) (sym (more ∙ parts ∙ last)) (terms-then before (flat_map of done) between (of (tree x)) after h k)
