use Rattle.rv_words.proofs.MemoryLemmas.{inside-store, store-elsewhere, store-present, store-same, store-stored}
use Rattle.rv_words.proofs.laws.law_of_stores.Goals as goal

pub returns-clause-present : goal.returns-clause-present
returns-clause-present c = store-present

pub returns-clause-inside : goal.returns-clause-inside
returns-clause-inside c = inside-store

pub returns-clause-stored : goal.returns-clause-stored
returns-clause-stored c = store-stored

pub returns-clause-elsewhere : goal.returns-clause-elsewhere
returns-clause-elsewhere c = store-elsewhere

pub returns-clause-alike : goal.returns-clause-alike
returns-clause-alike c = store-same
