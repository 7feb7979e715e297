use Rattle.std.proofs.Common.{rules}
use Rattle.std.proofs.lemmas.List.Sorted.{IsNonDecreasingBy-from_sort_by_key, IsPermutation-trans, answers_always, ties_still_rise}
use Rattle.code_parts.proofs.order.sort.Goals as goal

pub returns-clause-moved : goal.returns-clause-moved
returns-clause-moved c = IsPermutation-trans _ _ _ c.sort_by_key.ensures.permutation c.sort_by_key-2.ensures.permutation

pub returns-clause-sorted : goal.returns-clause-sorted
returns-clause-sorted c = record {
  heights = IsNonDecreasingBy-from_sort_by_key (λ r. r.height) _ (c.in_ok-sort_by_key-2.ensures.sorted) (λ a r q k. search rules);
  weights = ties_still_rise (λ r. r.weight) (λ r. r.height) _ _ (c.in_ok-sort_by_key.ensures.sorted (λ r. r.weight) (answers_always _ _ _ (λ f a r g h. search rules)))
      (c.sort_by_key-2.ensures.stable (λ r. r.height) (answers_always _ _ _ (λ f a r g h. search rules)));
}
