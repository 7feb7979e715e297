-- The letters.
use Rattle.std.proofs.Common.{◌≡◌, refl, rules}
use Rattle.word_terms.specs.Tree.{Const, Extend, word_tree}
use Rattle.rv_words.specs.declared.operation.Op.TheVariants.{Add}
use Rattle.fun_laws.proofs.Given.{letters}
use Rattle.fun_laws.proofs.shape.fold_extend.Goals as goal

pub returns-in-Some-clause-some : goal.returns-in-Some-clause-some
returns-in-Some-clause-some c =
    let f : word_tree c.args.t.now ≡ Extend c.in-Extend.ext (Const c.in-Some.c) = search rules in
    let x = word_tree c.args.t.now in
    (letters x x c.in-Some.c 0 Add c.in-Extend.ext, refl, f, (λ j. Const (c.extend.ensures j)))
