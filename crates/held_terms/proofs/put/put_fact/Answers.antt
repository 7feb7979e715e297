use Rattle.std.proofs.Common.{[], ◌∷◌, sym, subst}
use Rattle.triple_kernel.specs.declared.triple.Fact.{Fact}
use Rattle.word_terms.specs.Tree.{cond_tree, mem_tree, word_tree}
use Rattle.tailrec_lang.specs.Tree.{values_tree}
use Rattle.triple_kernel.specs.Tree.{fact_tree}
use Rattle.term_arena.specs.Arena.{OfCond, OfMem, OfWord}
use Rattle.held_terms.specs.declared.held.HeldFact.TheVariants as held
use Rattle.held_terms.specs.Terms.{AreTermsPutIn, fact_terms, values_terms}
use Rattle.held_terms.specs.inner.Put.{IsFactPut}
use Rattle.held_terms.proofs.PutLemmas.{gives_put, mem_stays, mems_equal, so_put, values_stay, word_stays, words_equal}
use Rattle.held_terms.proofs.PutOrder.{terms-then}
use Rattle.held_terms.proofs.PutSteps.{both_steps, fact_steps, first_steps, one_step}
use Rattle.held_terms.proofs.put.put_fact.Goals as goal

pub returns-in_ok-y-in-WordIs-clause-put : goal.returns-in_ok-y-in-WordIs-clause-put
returns-in_ok-y-in-WordIs-clause-put g c =
    let one = c.put_word.new.arena in
    let two = c.put_word-in-WordIs.new.arena in
    let x = c.in_ok-x-in-WordIs.x in
    let y = c.in_ok-y-in-WordIs.y in
    subst (λ (f : Fact). IsFactPut two (held.WordIs x y) (fact_tree f)) (sym c.in-WordIs.is)
    (words_equal two x y _ _ (word_stays one two c.put_word-in-WordIs.ensures.grows x _ c.in_ok-x-in-WordIs.ensures.put) c.in_ok-y-in-WordIs.ensures.put)

pub returns-in_ok-y-in-MemIs-clause-put : goal.returns-in_ok-y-in-MemIs-clause-put
returns-in_ok-y-in-MemIs-clause-put g c =
    let one = c.put_mem.new.arena in
    let two = c.put_mem-in-MemIs.new.arena in
    let x = c.in_ok-x-in-MemIs.x in
    let y = c.in_ok-y-in-MemIs.y in
    subst (λ (f : Fact). IsFactPut two (held.MemIs x y) (fact_tree f)) (sym c.in-MemIs.is)
    (mems_equal two x y _ _ (mem_stays one two c.put_mem-in-MemIs.ensures.grows x _ c.in_ok-x-in-MemIs.ensures.put) c.in_ok-y-in-MemIs.ensures.put)

pub returns-in_ok-x-in-So-clause-put : goal.returns-in_ok-x-in-So-clause-put
returns-in_ok-x-in-So-clause-put g c =
    let one = c.put_cond.new.arena in
    let x = c.in_ok-x-in-So.x in
    subst (λ (f : Fact). IsFactPut one (held.So x) (fact_tree f)) (sym c.in-So.is) (so_put one x _ c.in_ok-x-in-So.ensures.put)

pub returns-in_ok-y-in-Gives-clause-put : goal.returns-in_ok-y-in-Gives-clause-put
returns-in_ok-y-in-Gives-clause-put g c =
    let one = c.put_values.new.arena in
    let two = c.put_values-in-Gives.new.arena in
    let x = c.in_ok-x-in-Gives.x in
    let y = c.in_ok-y-in-Gives.y in
    subst (λ (f : Fact). IsFactPut two (held.Gives c.in-Gives.def c.in-Gives.exit x y) (fact_tree f)) (sym c.in-Gives.is)
    (gives_put two c.in-Gives.def c.in-Gives.exit x y _ _ (values_stay one two c.put_values-in-Gives.ensures.grows x _ c.in_ok-x-in-Gives.ensures.put) c.in_ok-y-in-Gives.ensures.put)

pub returns-in_ok-y-in-WordIs-clause-order : goal.returns-in_ok-y-in-WordIs-clause-order
returns-in_ok-y-in-WordIs-clause-order g c =
    let start = c.args.arena.now in
    let one = c.put_word.new.arena in
    let two = c.put_word-in-WordIs.new.arena in
    subst (λ (f : Fact). AreTermsPutIn start (fact_terms (fact_tree f)) two) (sym c.in-WordIs.is)
    (terms-then start (OfWord (word_tree c.in-WordIs.a) ∷ []) one (OfWord (word_tree c.in-WordIs.b) ∷ []) two c.in_ok-x-in-WordIs.ensures.order c.in_ok-y-in-WordIs.ensures.order)

pub returns-in_ok-y-in-MemIs-clause-order : goal.returns-in_ok-y-in-MemIs-clause-order
returns-in_ok-y-in-MemIs-clause-order g c =
    let start = c.args.arena.now in
    let one = c.put_mem.new.arena in
    let two = c.put_mem-in-MemIs.new.arena in
    subst (λ (f : Fact). AreTermsPutIn start (fact_terms (fact_tree f)) two) (sym c.in-MemIs.is)
    (terms-then start (OfMem (mem_tree c.in-MemIs.a) ∷ []) one (OfMem (mem_tree c.in-MemIs.b) ∷ []) two c.in_ok-x-in-MemIs.ensures.order c.in_ok-y-in-MemIs.ensures.order)

pub returns-in_ok-x-in-So-clause-order : goal.returns-in_ok-x-in-So-clause-order
returns-in_ok-x-in-So-clause-order g c =
    subst (λ (f : Fact). AreTermsPutIn c.args.arena.now (fact_terms (fact_tree f)) c.put_cond.new.arena) (sym c.in-So.is) c.in_ok-x-in-So.ensures.order

pub returns-in_ok-y-in-Gives-clause-order : goal.returns-in_ok-y-in-Gives-clause-order
returns-in_ok-y-in-Gives-clause-order g c =
    let start = c.args.arena.now in
    let one = c.put_values.new.arena in
    let two = c.put_values-in-Gives.new.arena in
    subst (λ (f : Fact). AreTermsPutIn start (fact_terms (fact_tree f)) two) (sym c.in-Gives.is)
    (terms-then start (values_terms (values_tree c.in-Gives.args)) one (values_terms (values_tree c.in-Gives.results)) two c.in_ok-x-in-Gives.ensures.order c.in_ok-y-in-Gives.ensures.order)

pub returns-in_err-x-in-WordIs-clause-steps : goal.returns-in_err-x-in-WordIs-clause-steps
returns-in_err-x-in-WordIs-clause-steps g c = fact_steps c.args.fact.now _ c.args.steps.now c.put_word.new.steps c.in-WordIs.is (first_steps c.args.steps.now c.put_word.new.steps (OfWord (word_tree c.in-WordIs.a) ∷ []) (OfWord (word_tree c.in-WordIs.b) ∷ []) (one_step c.args.steps.now c.put_word.new.steps (OfWord (word_tree c.in-WordIs.a)) c.put_word.ensures.steps))

pub returns-in_err-y-in-WordIs-clause-steps : goal.returns-in_err-y-in-WordIs-clause-steps
returns-in_err-y-in-WordIs-clause-steps g c = fact_steps c.args.fact.now _ c.args.steps.now c.put_word-in-WordIs.new.steps c.in-WordIs.is (both_steps c.args.steps.now c.put_word.new.steps c.put_word-in-WordIs.new.steps (OfWord (word_tree c.in-WordIs.a) ∷ []) (OfWord (word_tree c.in-WordIs.b) ∷ []) (one_step c.args.steps.now c.put_word.new.steps (OfWord (word_tree c.in-WordIs.a)) c.put_word.ensures.steps) (one_step c.put_word.new.steps c.put_word-in-WordIs.new.steps (OfWord (word_tree c.in-WordIs.b)) c.put_word-in-WordIs.ensures.steps))

pub returns-in_ok-y-in-WordIs-clause-steps : goal.returns-in_ok-y-in-WordIs-clause-steps
returns-in_ok-y-in-WordIs-clause-steps g c = fact_steps c.args.fact.now _ c.args.steps.now c.put_word-in-WordIs.new.steps c.in-WordIs.is (both_steps c.args.steps.now c.put_word.new.steps c.put_word-in-WordIs.new.steps (OfWord (word_tree c.in-WordIs.a) ∷ []) (OfWord (word_tree c.in-WordIs.b) ∷ []) (one_step c.args.steps.now c.put_word.new.steps (OfWord (word_tree c.in-WordIs.a)) c.put_word.ensures.steps) (one_step c.put_word.new.steps c.put_word-in-WordIs.new.steps (OfWord (word_tree c.in-WordIs.b)) c.put_word-in-WordIs.ensures.steps))

pub returns-in_err-x-in-MemIs-clause-steps : goal.returns-in_err-x-in-MemIs-clause-steps
returns-in_err-x-in-MemIs-clause-steps g c = fact_steps c.args.fact.now _ c.args.steps.now c.put_mem.new.steps c.in-MemIs.is (first_steps c.args.steps.now c.put_mem.new.steps (OfMem (mem_tree c.in-MemIs.a) ∷ []) (OfMem (mem_tree c.in-MemIs.b) ∷ []) (one_step c.args.steps.now c.put_mem.new.steps (OfMem (mem_tree c.in-MemIs.a)) c.put_mem.ensures.steps))

pub returns-in_err-y-in-MemIs-clause-steps : goal.returns-in_err-y-in-MemIs-clause-steps
returns-in_err-y-in-MemIs-clause-steps g c = fact_steps c.args.fact.now _ c.args.steps.now c.put_mem-in-MemIs.new.steps c.in-MemIs.is (both_steps c.args.steps.now c.put_mem.new.steps c.put_mem-in-MemIs.new.steps (OfMem (mem_tree c.in-MemIs.a) ∷ []) (OfMem (mem_tree c.in-MemIs.b) ∷ []) (one_step c.args.steps.now c.put_mem.new.steps (OfMem (mem_tree c.in-MemIs.a)) c.put_mem.ensures.steps) (one_step c.put_mem.new.steps c.put_mem-in-MemIs.new.steps (OfMem (mem_tree c.in-MemIs.b)) c.put_mem-in-MemIs.ensures.steps))

pub returns-in_ok-y-in-MemIs-clause-steps : goal.returns-in_ok-y-in-MemIs-clause-steps
returns-in_ok-y-in-MemIs-clause-steps g c = fact_steps c.args.fact.now _ c.args.steps.now c.put_mem-in-MemIs.new.steps c.in-MemIs.is (both_steps c.args.steps.now c.put_mem.new.steps c.put_mem-in-MemIs.new.steps (OfMem (mem_tree c.in-MemIs.a) ∷ []) (OfMem (mem_tree c.in-MemIs.b) ∷ []) (one_step c.args.steps.now c.put_mem.new.steps (OfMem (mem_tree c.in-MemIs.a)) c.put_mem.ensures.steps) (one_step c.put_mem.new.steps c.put_mem-in-MemIs.new.steps (OfMem (mem_tree c.in-MemIs.b)) c.put_mem-in-MemIs.ensures.steps))

pub returns-in_err-x-in-So-clause-steps : goal.returns-in_err-x-in-So-clause-steps
returns-in_err-x-in-So-clause-steps g c = fact_steps c.args.fact.now _ c.args.steps.now c.put_cond.new.steps c.in-So.is (one_step c.args.steps.now c.put_cond.new.steps (OfCond (cond_tree c.in-So.c)) c.put_cond.ensures.steps)

pub returns-in_ok-x-in-So-clause-steps : goal.returns-in_ok-x-in-So-clause-steps
returns-in_ok-x-in-So-clause-steps g c = fact_steps c.args.fact.now _ c.args.steps.now c.put_cond.new.steps c.in-So.is (one_step c.args.steps.now c.put_cond.new.steps (OfCond (cond_tree c.in-So.c)) c.put_cond.ensures.steps)

pub returns-in_err-x-in-Gives-clause-steps : goal.returns-in_err-x-in-Gives-clause-steps
returns-in_err-x-in-Gives-clause-steps g c = fact_steps c.args.fact.now _ c.args.steps.now c.put_values.new.steps c.in-Gives.is (first_steps c.args.steps.now c.put_values.new.steps (values_terms (values_tree c.in-Gives.args)) (values_terms (values_tree c.in-Gives.results)) c.put_values.ensures.steps)

pub returns-in_err-y-in-Gives-clause-steps : goal.returns-in_err-y-in-Gives-clause-steps
returns-in_err-y-in-Gives-clause-steps g c =
    fact_steps c.args.fact.now _ c.args.steps.now c.put_values-in-Gives.new.steps c.in-Gives.is
    (both_steps c.args.steps.now c.put_values.new.steps c.put_values-in-Gives.new.steps (values_terms (values_tree c.in-Gives.args)) (values_terms (values_tree c.in-Gives.results)) c.put_values.ensures.steps c.put_values-in-Gives.ensures.steps)

pub returns-in_ok-y-in-Gives-clause-steps : goal.returns-in_ok-y-in-Gives-clause-steps
returns-in_ok-y-in-Gives-clause-steps g c =
    fact_steps c.args.fact.now _ c.args.steps.now c.put_values-in-Gives.new.steps c.in-Gives.is
    (both_steps c.args.steps.now c.put_values.new.steps c.put_values-in-Gives.new.steps (values_terms (values_tree c.in-Gives.args)) (values_terms (values_tree c.in-Gives.results)) c.put_values.ensures.steps c.put_values-in-Gives.ensures.steps)
