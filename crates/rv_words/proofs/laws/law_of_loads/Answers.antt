use Rattle.rv_words.proofs.MemoryLemmas.{inside-number, inside-same, load-byte, load-number, load-same, over-at, word-same}
use Rattle.rv_words.proofs.laws.law_of_loads.Goals as goal

pub returns-clause-number : goal.returns-clause-number
returns-clause-number c = load-number

pub returns-clause-there : goal.returns-clause-there
returns-clause-there c = inside-number

pub returns-clause-placed : goal.returns-clause-placed
returns-clause-placed c = over-at

pub returns-clause-byte : goal.returns-clause-byte
returns-clause-byte c = load-byte

pub returns-clause-alike : goal.returns-clause-alike
returns-clause-alike c = load-same

pub returns-clause-inside_alike : goal.returns-clause-inside_alike
returns-clause-inside_alike c = inside-same

pub returns-clause-word_alike : goal.returns-clause-word_alike
returns-clause-word_alike c = word-same
