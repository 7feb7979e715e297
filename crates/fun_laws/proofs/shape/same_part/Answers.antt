-- The letter is either operand.
use Rattle.std.proofs.Common.{◌≡◌, ◌∙◌, refl, sym, rules}
use Rattle.word_terms.specs.Tree.{Bin, word_tree}
use Rattle.fun_laws.proofs.Given.{with_x}
use Rattle.fun_laws.proofs.shape.same_part.Goals as goal

pub returns-then-same_word-clause-some : goal.returns-then-same_word-clause-some
returns-then-same_word-clause-some c =
    let e : word_tree c.in-Some.a.now ≡ word_tree c.in-Some.b.now = search rules in
    let f : word_tree c.args.t.now ≡ Bin c.args.op (word_tree c.in-Some.a.now) (word_tree c.in-Some.a.now) = c.in-Some.ensures.some ∙ (λ j. Bin c.args.op (word_tree c.in-Some.a.now) (sym e j)) in
    (with_x (word_tree c.in-Some.a.now), refl, f, refl)
