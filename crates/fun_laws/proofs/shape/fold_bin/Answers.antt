-- The letters.
use Rattle.std.proofs.Common.{◌≡◌, refl, rules}
use Rattle.word_terms.specs.Tree.{Bin, Const, word_tree}
use Rattle.rv_words.specs.declared.extension.Ext.TheVariants.{Sx4}
use Rattle.fun_laws.proofs.Given.{letters}
use Rattle.fun_laws.proofs.shape.fold_bin.Goals as goal

pub returns-in-Some-Some-clause-some : goal.returns-in-Some-Some-clause-some
returns-in-Some-Some-clause-some c =
    let f : word_tree c.args.t.now ≡ Bin c.in-Bin.op (Const c.in-Some-Some.c) (Const c.in-Some-Some.d) = search rules in
    let x = word_tree c.args.t.now in
    (letters x x c.in-Some-Some.c c.in-Some-Some.d c.in-Bin.op Sx4, refl, f, (λ j. Const (c.apply.ensures j)))
