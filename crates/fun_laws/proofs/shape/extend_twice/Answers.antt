-- The letters.
use Rattle.std.proofs.Common.{◌∙◌, refl}
use Rattle.word_terms.specs.Tree.{Extend, word_tree}
use Rattle.rv_words.specs.declared.extension.Ext.TheVariants.{Sx4}
use Rattle.fun_laws.proofs.Given.{with_x}
use Rattle.fun_laws.proofs.shape.extend_twice.Goals as goal

pub returns-in-Some-extended-clause-some : goal.returns-in-Some-extended-clause-some
returns-in-Some-extended-clause-some c =
    let h = c.in-Some-extended.ensures.some in
    let x = word_tree c.in-Some-extended.field-0.now in
    (with_x x, refl, c.in-Some.ensures.some ∙ (λ j. Extend Sx4 (h j)), h)
