-- How many steps it takes to see whether theorems lead to leaves.
use Rattle.std.proofs.Common.{◌≡◌, ℕ, Option, Some, zero, suc, ◌+◌, ◌≤◌, List, [], ◌∷◌, ◌++◌, drop, length, flat_map, map, refl, sym, ◌∙◌, subst, arith}
use Rattle.std.specs.Prelude.{slice_get, sum_by, zip}
use Rattle.std.specs.List.{range_with_len}
use Rattle.std.proofs.lemmas.List.{length-map}
use Rattle.std.proofs.lemmas.List.FromFn.{length-map-range_with_len}
use Rattle.std.proofs.lemmas.List.Sums.{sum_by-cons}
use Rattle.word_terms.specs.Tree.{WordTree, MemVar, Var}
use Rattle.tailrec_lang.specs.Tree.{DefTree, GroupTree}
use Rattle.sep_assert.specs.Tree.{AssertionTree}
use Rattle.triple_kernel.specs.declared.triple.Fact.{Fact}
use Rattle.triple_kernel.specs.Tree.{fact_tree}
use Rattle.loop_rule.specs.Tree.{LeafTree}
use Rattle.loop_rule.specs.Leaves.{at_entry, leaves_of, parameters}
use Rattle.term_arena.specs.Arena.{OfMem, OfWord, Tree}
use Rattle.held_terms.specs.Terms.{assertion_terms, fact_terms, nodes_of}
use Rattle.held_definitions.specs.ClosingTerms.{closing_terms, end_terms, leaf_terms}
use Rattle.held_terms.proofs.PutSteps.{nodes_then}

-- ---- variables have one node each

count : (a n : ℕ) → length (range_with_len a n) ≡ n
count a n = sym (length-map (range_with_len a n) Var) ∙ length-map-range_with_len Var a n

registers-nodes : (rs ks : List ℕ) → length ks ≡ length rs → nodes_of (map (λ r. OfWord r.1) (zip rs (map Var ks))) ≡ length rs
registers-nodes [] ks e = omega arith
registers-nodes (r ∷ rs) [] e = absurd (omega (arith, e))
registers-nodes (r ∷ rs) (k ∷ ks) e = let less : length ks ≡ length rs = omega (arith, e) in let rest = registers-nodes rs ks less in omega (arith, rest)

mems-nodes : (ks : List ℕ) → nodes_of (map OfMem (map MemVar ks)) ≡ length ks
mems-nodes [] = omega arith
mems-nodes (k ∷ ks) = let rest = mems-nodes ks in omega (arith, rest)

-- what holds where a definition is entered has one node for the program counter, each register and each memory
entry_nodes : (g : GroupTree) (def : DefTree) → nodes_of (assertion_terms (at_entry g def (parameters g))) ≡ 1 + (length g.regs + g.mems)
entry_nodes g def =
    let words = range_with_len 0 (length g.regs) in
    let mems = range_with_len 0 g.mems in
    let a = registers-nodes g.regs words (count 0 (length g.regs)) in
    let b = mems-nodes mems in
    let n = count 0 g.mems in
    let first = map (λ (r : ℕ × WordTree). OfWord r.1) (zip g.regs (map Var words)) in
    let second = map OfMem (map MemVar mems) in
    let both = nodes_then first second in
    let all : nodes_of (assertion_terms (at_entry g def (parameters g))) ≡ 1 + nodes_of (first ++ second) = refl in
    all ∙ omega (arith, a, b, n, both)

-- ---- of all leaves

leaves_sum : (pre : AssertionTree) (ls : List LeafTree) → sum_by (λ l. nodes_of (leaf_terms pre l)) ls ≡ nodes_of (flat_map (leaf_terms pre) ls)
leaves_sum pre [] = refl
leaves_sum pre (l ∷ ls) =
    let first = sum_by-cons (λ l. nodes_of (leaf_terms pre l)) l ls in
    let rest = leaves_sum pre ls in
    let whole = nodes_then (leaf_terms pre l) (flat_map (leaf_terms pre) ls) in
    omega (arith, first, rest, whole)

pub closing_steps : (g : GroupTree) (d : ℕ) (def : DefTree) (s r : ℕ) → slice_get g.defs d ≡ Some def → r ≤ s + sum_by (λ l. nodes_of (leaf_terms (at_entry g def (parameters g)) l)) (leaves_of g def)
    → r ≤ s + nodes_of (closing_terms g (slice_get g.defs d))
closing_steps g d def s r is few =
    let sum = leaves_sum (at_entry g def (parameters g)) (leaves_of g def) in
    let here : r ≤ s + nodes_of (closing_terms g (Some def)) = omega (arith, few, sum) in
    subst (λ (o : Option DefTree). r ≤ s + nodes_of (closing_terms g o)) (sym is) here

-- ---- of one leaf

-- the last ones have no more nodes than all
nodes_dropped : {X Y : Type 0} (tree : X → Y) (of : Y → List Tree) (n : ℕ) (xs : List X) → nodes_of (flat_map of (map tree (drop n xs))) ≤ nodes_of (flat_map of (map tree xs))
nodes_dropped tree of zero xs = omega arith
nodes_dropped tree of (suc n) [] = omega arith
nodes_dropped tree of (suc n) (x ∷ xs) = let rest = nodes_dropped tree of n xs in let whole = nodes_then (of (tree x)) (flat_map of (map tree xs)) in omega (arith, rest, whole)

-- of the last facts of a way
pub last_steps : (n : ℕ) (way last : List Fact) (s r : ℕ) → last ≡ drop n way → r ≤ s + nodes_of (flat_map fact_terms (map fact_tree last)) → r ≤ s + nodes_of (flat_map fact_terms (map fact_tree way))
last_steps n way last s r is few =
    let here : r ≤ s + nodes_of (flat_map fact_terms (map fact_tree (drop n way))) = subst (λ (fs : List Fact). r ≤ s + nodes_of (flat_map fact_terms (map fact_tree fs))) is few in
    let less = nodes_dropped fact_tree fact_terms n way in
    omega (arith, here, less)

-- of facts and of an end that were put in, and of a theorem that was looked at
pub leaf_steps : (g : GroupTree) (def : DefTree) (l : LeafTree) (s r t u : ℕ) → r ≤ s + nodes_of (flat_map fact_terms l.facts) → t ≤ r + nodes_of (assertion_terms l.post) → u ≤ t + (1 + (length g.regs + g.mems))
    → u ≤ s + sum_by (λ l. nodes_of (leaf_terms (at_entry g def (parameters g)) l)) (l ∷ [])
leaf_steps g def l s r t u one two three =
    let pre = entry_nodes g def in
    let whole = nodes_then (assertion_terms (at_entry g def (parameters g))) (end_terms l) in
    let end = nodes_then (flat_map fact_terms l.facts) (assertion_terms l.post) in
    let sum = sum_by-cons (λ l. nodes_of (leaf_terms (at_entry g def (parameters g)) l)) l [] in
    omega (arith, one, two, three, pre, whole, end, sum)
