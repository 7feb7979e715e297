use Rattle.rv_words.proofs.WordLemmas.{extension_small, operation_small, word_of_small}
use Rattle.rv_words.proofs.MemoryLemmas.{load_small, over-memory, store-memory}
use Rattle.rv_words.proofs.laws.law_of_ranges.Goals as goal

pub returns-clause-operation : goal.returns-clause-operation
returns-clause-operation c = operation_small

pub returns-clause-extension : goal.returns-clause-extension
returns-clause-extension c = extension_small

pub returns-clause-word : goal.returns-clause-word
returns-clause-word c = word_of_small

pub returns-clause-load : goal.returns-clause-load
returns-clause-load c = load_small

pub returns-clause-store : goal.returns-clause-store
returns-clause-store c = store-memory

pub returns-clause-place : goal.returns-clause-place
returns-clause-place c = over-memory
