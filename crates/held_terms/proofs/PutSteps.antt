-- How many steps terms take that are put into an arena one after the other.
use Rattle.std.proofs.Common.{◌≡◌, ℕ, zero, suc, ◌+◌, ◌*◌, ◌<◌, ◌≤◌, List, [], ◌∷◌, ◌++◌, get_or, length, map, drop, flat_map, sym, ap, ◌∙◌, subst, arith}
use Rattle.std.proofs.Math.Nat.{mul-suc, suc-mul}
use Rattle.std.proofs.Math.Seq.{drop-cons}
use Rattle.triple_kernel.specs.declared.triple.Fact.{Fact}
use Rattle.triple_kernel.specs.Tree.{fact_tree}
use Rattle.term_arena.specs.Arena.{Tree}
use Rattle.held_terms.specs.Terms.{fact_terms, nodes_of, tree_nodes}

pub nodes_then : (xs ys : List Tree) → nodes_of (xs ++ ys) ≡ nodes_of xs + nodes_of ys
nodes_then [] ys = omega arith
nodes_then (x ∷ xs) ys = omega (arith, nodes_then xs ys)

-- the nodes of the items from one on are its own and those of the items behind it
module _ {X T : Type 0} (tree : X → T) (xs : List X) (i : ℕ) (x : X) (low : i < length xs) (is : x ≡ get_or xs i x) where
  next-item : drop i xs ≡ x ∷ drop (i + 1) xs
  next-item = let next : suc i ≡ i + 1 = omega arith in drop-cons xs i x low ∙ (λ j. sym is j ∷ drop (next j) xs)

  pub item_left : (of : T → Tree) → nodes_of (map of (map tree (drop i xs))) ≡ tree_nodes (of (tree x)) + nodes_of (map of (map tree (drop (i + 1) xs)))
  item_left of = ap (λ (ys : List X). nodes_of (map of (map tree ys))) next-item

  pub items_left : (of : T → List Tree) → nodes_of (flat_map of (map tree (drop i xs))) ≡ nodes_of (of (tree x)) + nodes_of (flat_map of (map tree (drop (i + 1) xs)))
  items_left of = ap (λ (ys : List X). nodes_of (flat_map of (map tree ys))) next-item ∙ nodes_then (of (tree x)) (flat_map of (map tree (drop (i + 1) xs)))

-- one step after the other: those of an item, where those before it took no more than is left
pub steps_next : (old before after one left all rest : ℕ) → before + left ≤ old + all → left ≡ one + rest → after ≤ before + one → after + rest ≤ old + all
steps_next old before after one left all rest few is more = omega (arith, few, is, more)

pub steps_within : (old after rest all : ℕ) → after + rest ≤ old + all → after ≤ old + all
steps_within old after rest all few = omega (arith, few)

-- of a fact of that form
pub fact_steps : (f g : Fact) (old new : ℕ) → f ≡ g → new ≤ old + nodes_of (fact_terms (fact_tree g)) → new ≤ old + nodes_of (fact_terms (fact_tree f))
fact_steps f g old new is few = subst (λ (h : Fact). new ≤ old + nodes_of (fact_terms (fact_tree h))) (sym is) few

-- of some terms, and then of others
pub one_step : (old one : ℕ) (t : Tree) → one ≤ old + tree_nodes t → one ≤ old + nodes_of (t ∷ [])
one_step old one t few = omega (arith, few)

pub first_steps : (old one : ℕ) (xs ys : List Tree) → one ≤ old + nodes_of xs → one ≤ old + nodes_of (xs ++ ys)
first_steps old one xs ys few = omega (arith, few, nodes_then xs ys)

pub both_steps : (old one two : ℕ) (xs ys : List Tree) → one ≤ old + nodes_of xs → two ≤ one + nodes_of ys → two ≤ old + nodes_of (xs ++ ys)
both_steps old one two xs ys few more = omega (arith, few, more, nodes_then xs ys)

-- ---- steps for each pair of terms

square : (n : ℕ) → (n + 1) * (n + 1) ≡ n * n + (2 * n + 1)
square n =
    let e : n + 1 ≡ suc n = omega arith in
    let outer = suc-mul n (suc n) in
    let inner = mul-suc n n in
    (λ j. e j * e j) ∙ omega (arith, outer, inner)

no-more : (n : ℕ) → n ≤ n * n
no-more zero = omega arith
no-more (suc n) = let outer = suc-mul n (suc n) in omega (arith, outer)

-- one step; two for each term, for each pair, for each pair with one for each term; and ten for each term and one more
pub one_within : (n : ℕ) → 1 ≤ 4 * ((n + 1) * (n + 1))
one_within n = let e = square n in omega (arith, e)

pub terms_within : (n : ℕ) → 2 * n ≤ 4 * ((n + 1) * (n + 1))
terms_within n = let e = square n in omega (arith, e)

pub pairs_within : (n : ℕ) → 2 * (n * n) ≤ 4 * ((n + 1) * (n + 1))
pairs_within n = let e = square n in omega (arith, e)

pub searches_within : (n : ℕ) → 2 * (n * n) + 2 * n ≤ 4 * ((n + 1) * (n + 1))
searches_within n = let e = square n in omega (arith, e)

pub looks_within : (n : ℕ) → 10 * n + 1 ≤ 4 * ((n + 1) * (n + 1))
looks_within n = let e = square n in let le = no-more n in omega (arith, e, le)

-- four for each term and two more; and so few where there are one or two terms
pub fours_within : (n : ℕ) → 4 * n + 2 ≤ 4 * ((n + 1) * (n + 1))
fours_within n = let e = square n in omega (arith, e)

pub few_within : (n : ℕ) → 1 ≤ n → 16 ≤ 4 * ((n + 1) * (n + 1))
few_within n some = let e = square n in let le = no-more n in omega (arith, e, le, some)

pub some_within : (n : ℕ) → 2 ≤ n → 36 ≤ 4 * ((n + 1) * (n + 1))
some_within zero two = absurd (omega (arith, two))
some_within (suc n) two = let e = square (suc n) in let outer = suc-mul n (suc n) in let le = no-more n in let inner = mul-suc n n in omega (arith, e, outer, inner, le, two)
