-- The variables of an exit's triple are no more than its different terms.
use Rattle.std.proofs.Common.{◌≡◌, ℕ, zero, suc, ◌+◌, ◌*◌, ◌≤◌, List, [], ◌∷◌, ◌++◌, Some, flat_map, length, map, ap, subst, arith}
use Rattle.std.specs.Prelude.{Contains, slice_get}
use Rattle.std.specs.List.{range_with_len}
use Rattle.std.proofs.lemmas.List.{take_all}
use Rattle.std.proofs.lemmas.List.Elements.{All-head, All-tail}
use Rattle.std.proofs.lemmas.List.FromFn.{length-range_with_len}
use Rattle.word_terms.specs.Tree.{Var, MemVar}
use Rattle.tailrec_lang.specs.declared.group.Exit.{Exit}
use Rattle.tailrec_lang.specs.Tree.{DefTree, GroupTree}
use Rattle.tailrec_lang.specs.WellFormed.{exit_words}
use Rattle.loop_rule.specs.Leaves.{parameters, variables_after}
use Rattle.loop_rule.specs.Rule.{exit_triple, results}
use Rattle.term_arena.specs.Arena.{Tree, OfWord, OfMem}
use Rattle.held_terms.specs.Subterms.{HasTree}
use Rattle.held_definitions.proofs.LookLemmas.{variables_few}
use Rattle.held_terms.specs.Terms.{HasSubterms, assertion_terms, fact_terms, triple_terms, values_terms}
use Rattle.held_terms.proofs.SubtermLemmas.{has_first, has_rest}

module _ {B : Type 0} (var : ℕ → B) (of : B → Tree) (one : (m n : ℕ) → of (var m) ≡ of (var n) → m ≡ n) (ts : List Tree) (leaf : (k : ℕ) → HasTree ts (Some (of (var k))) → Contains ts (of (var k))) where
  abbrev Has : Tree → Type 0
  Has t = HasTree ts (Some t)

  there : (xs : List ℕ) → HasSubterms ts (map of (map var xs)) → (k x : ℕ) → slice_get xs k ≡ Some x → Contains ts (of (var x))
  there [] has k x e = absurd (cc)
  there (y ∷ ys) has zero x e = let same : y ≡ x = cc in subst (λ (n : ℕ). Contains ts (of (var n))) same (leaf y (All-head Has (of (var y)) (map of (map var ys)) has))
  there (y ∷ ys) has (suc k) x e = there ys (All-tail Has (of (var y)) (map of (map var ys)) has) k x e

  many : (first count : ℕ) → HasSubterms ts (map of (map var (range_with_len first count))) → count ≤ length ts
  many first count has =
      let xs = range_with_len first count in
      let long : length xs ≡ count = length-range_with_len first count in
      variables_few var var of one xs first count ts (omega (arith, long)) (ap (map var) (take_all count xs (omega (arith, long)))) (there xs has)

module _ (ts : List Tree) (words mems more_words more_mems : ℕ) (has : HasSubterms ts (values_terms (variables_after words mems more_words more_mems))) where
  abbrev some_words : List Tree
  some_words = map OfWord (map Var (range_with_len words more_words))

  abbrev some_mems : List Tree
  some_mems = map OfMem (map MemVar (range_with_len mems more_mems))

  many-words : more_words ≤ length ts
  many-words = many Var OfWord (λ m n e. cc) ts (λ k h. h) words more_words (has_first ts some_words some_mems has)

  many-mems : more_mems ≤ length ts
  many-mems = many MemVar OfMem (λ m n e. cc) ts (λ k h. h) mems more_mems (has_rest ts some_words some_mems has)

-- a step for each of its variables, and two more
pub exit_within : (ts : List Tree) (g : GroupTree) (d exit : ℕ) (def : DefTree) (x : Exit) → HasSubterms ts (triple_terms (exit_triple g d def exit x)) → (length g.regs + g.mems) + (exit_words g x + g.mems) + 2 ≤ 4 * length ts + 2
exit_within ts g d exit def x has =
    let here = exit_triple g d def exit x in
    let args = values_terms (parameters g) in
    let leaves = values_terms (results g x) in
    let facts : HasSubterms ts (args ++ leaves) = has_first ts (args ++ leaves) [] (has_first ts (flat_map fact_terms here.facts) (assertion_terms here.pre ++ assertion_terms here.post) has) in
    let first : HasSubterms ts args = has_first ts args leaves facts in
    let second : HasSubterms ts leaves = has_rest ts args leaves facts in
    let a = many-words ts 0 0 (length g.regs) g.mems first in
    let b = many-mems ts 0 0 (length g.regs) g.mems first in
    let c = many-words ts (length g.regs) g.mems (exit_words g x) g.mems second in
    omega (arith, a, b, c)
