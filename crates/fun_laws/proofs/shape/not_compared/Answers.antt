-- The letters.
use Rattle.std.proofs.Common.{◌∙◌, refl}
use Rattle.word_terms.specs.Tree.{Neg, word_tree}
use Rattle.fun_laws.proofs.Given.{compared_letters}
use Rattle.fun_laws.proofs.shape.not_compared.Goals as goal

pub returns-in-Some-compared-clause-some : goal.returns-in-Some-compared-clause-some
returns-in-Some-compared-clause-some c =
    let h = c.in-Some-compared.ensures.some in
    (compared_letters (word_tree c.in-Some-compared.a.now) (word_tree c.in-Some-compared.b.now), c.in-Some.ensures.some ∙ (λ j. Neg (h j)), refl)
