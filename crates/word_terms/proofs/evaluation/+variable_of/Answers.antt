use Rattle.std.proofs.Common.{◌∙◌, sym}
use Rattle.rv_words.specs.Bytes.{bytes_of, inside}
use Rattle.word_terms.specs.Tree.{mem_tree, word_tree}
use Rattle.word_terms.specs.Value.{mem_value, word_value}
use Rattle.word_terms.proofs.Stores.{inside-store}
use Rattle.word_terms.proofs.evaluation.+variable_of.Goals as goal

pub returns-in-Store-clause-present : goal.returns-in-Store-clause-present
returns-in-Store-clause-present t c = λ e n a.
    (λ j. inside n (mem_value (mem_tree (c.in-Store.is j)) e) a)
    ∙ inside-store (bytes_of c.in-Store.field-0) n (mem_value (mem_tree c.in-Store.m.value) e) (word_value (word_tree c.in-Store.field-2.value) e) (word_value (word_tree c.in-Store.field-3.value) e) a
    ∙ (λ j. inside n (mem_value (mem_tree (sym c.deref.ensures j)) e) a)
    ∙ c.variable_of.ensures.present e n a
