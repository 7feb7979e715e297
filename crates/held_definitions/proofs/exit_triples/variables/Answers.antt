use Rattle.held_terms.proofs.PutLemmas.{both_put, words_stay}
use Rattle.std.proofs.Common.{arith}
use Rattle.held_definitions.proofs.exit_triples.variables.Goals as goal

pub returns-clause-put : goal.returns-clause-put
returns-clause-put g c =
    let one = c.word_variables.new.arena in
    let two = c.mem_variables.new.arena in
    both_put two c.in_ok-words.words c.in_ok-mems.mems _ _ (words_stay one two c.mem_variables.ensures.grows c.in_ok-words.words _ c.in_ok-words.ensures.put) c.in_ok-mems.ensures.put

pub returns-in_err-words-clause-steps : goal.returns-in_err-words-clause-steps
returns-in_err-words-clause-steps g c = let first = c.word_variables.ensures.steps in omega (arith, first)

pub returns-in_err-mems-clause-steps : goal.returns-in_err-mems-clause-steps
returns-in_err-mems-clause-steps g c = let first = c.word_variables.ensures.steps in let second = c.mem_variables.ensures.steps in omega (arith, first, second)

pub returns-clause-steps : goal.returns-clause-steps
returns-clause-steps g c = let first = c.word_variables.ensures.steps in let second = c.mem_variables.ensures.steps in omega (arith, first, second)
