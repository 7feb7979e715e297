use Rattle.std.proofs.Common.{◌+◌, ◌≤◌, List, map, subst}
use Rattle.word_terms.specs.declared.term.Word.{Word}
use Rattle.word_terms.specs.declared.term.Mem.{Mem}
use Rattle.word_terms.specs.Tree.{mem_tree, word_tree}
use Rattle.term_arena.specs.Arena.{OfMem, OfWord}
use Rattle.held_terms.specs.Terms.{AreTermsPutIn, nodes_of}
use Rattle.held_terms.specs.inner.Put.{AreMemsPut, AreWordsPut}
use Rattle.held_terms.proofs.PutLemmas.{both_put, words_stay}
use Rattle.held_terms.proofs.PutOrder.{terms-then}
use Rattle.held_terms.proofs.PutSteps.{both_steps, first_steps}
use Rattle.held_terms.proofs.put.put_values.Goals as goal

pub returns-clause-put : goal.returns-clause-put
returns-clause-put g c =
    let one = c.put_words.new.arena in
    let two = c.put_mems.new.arena in
    let words = subst (λ (ws : List Word). AreWordsPut one c.in_ok-words.words (map word_tree ws)) c.as_slice.ensures c.in_ok-words.ensures.put in
    let mems = subst (λ (ms : List Mem). AreMemsPut two c.in_ok-mems.mems (map mem_tree ms)) c.as_slice-2.ensures c.in_ok-mems.ensures.put in
    both_put two c.in_ok-words.words c.in_ok-mems.mems _ _ (words_stay one two c.put_mems.ensures.grows c.in_ok-words.words _ words) mems

pub returns-clause-order : goal.returns-clause-order
returns-clause-order g c =
    let start = c.args.arena.now in
    let one = c.put_words.new.arena in
    let two = c.put_mems.new.arena in
    let words = subst (λ (ws : List Word). AreTermsPutIn start (map OfWord (map word_tree ws)) one) c.as_slice.ensures c.in_ok-words.ensures.order in
    let mems = subst (λ (ms : List Mem). AreTermsPutIn one (map OfMem (map mem_tree ms)) two) c.as_slice-2.ensures c.in_ok-mems.ensures.order in
    terms-then start (map OfWord (map word_tree c.args.values.now.words)) one (map OfMem (map mem_tree c.args.values.now.mems)) two words mems

pub returns-in_err-words-clause-steps : goal.returns-in_err-words-clause-steps
returns-in_err-words-clause-steps g c =
    first_steps c.args.steps.now c.put_words.new.steps (map OfWord (map word_tree c.args.values.now.words)) (map OfMem (map mem_tree c.args.values.now.mems))
    (subst (λ (ws : List Word). c.put_words.new.steps ≤ c.args.steps.now + nodes_of (map OfWord (map word_tree ws))) c.as_slice.ensures c.put_words.ensures.steps)

pub returns-in_err-mems-clause-steps : goal.returns-in_err-mems-clause-steps
returns-in_err-mems-clause-steps g c =
    both_steps c.args.steps.now c.put_words.new.steps c.put_mems.new.steps (map OfWord (map word_tree c.args.values.now.words)) (map OfMem (map mem_tree c.args.values.now.mems))
    (subst (λ (ws : List Word). c.put_words.new.steps ≤ c.args.steps.now + nodes_of (map OfWord (map word_tree ws))) c.as_slice.ensures c.put_words.ensures.steps)
    (subst (λ (ms : List Mem). c.put_mems.new.steps ≤ c.put_words.new.steps + nodes_of (map OfMem (map mem_tree ms))) c.as_slice-2.ensures c.put_mems.ensures.steps)

pub returns-clause-steps : goal.returns-clause-steps
returns-clause-steps g c =
    both_steps c.args.steps.now c.put_words.new.steps c.put_mems.new.steps (map OfWord (map word_tree c.args.values.now.words)) (map OfMem (map mem_tree c.args.values.now.mems))
    (subst (λ (ws : List Word). c.put_words.new.steps ≤ c.args.steps.now + nodes_of (map OfWord (map word_tree ws))) c.as_slice.ensures c.put_words.ensures.steps)
    (subst (λ (ms : List Mem). c.put_mems.new.steps ≤ c.put_words.new.steps + nodes_of (map OfMem (map mem_tree ms))) c.as_slice-2.ensures c.put_mems.ensures.steps)
