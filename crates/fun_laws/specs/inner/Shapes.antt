-- The laws by their shapes, as the code has them.
use Rattle.std.specs.Prelude.{◌+◌, ◌%◌, ◌^◌, not}
use Rattle.rv_words.specs.Operation.{operation_value, extension_value}
use Rattle.rv_words.specs.declared.operation.Op.TheVariants.{Add, Addw}
use Rattle.rv_words.specs.declared.extension.Ext.TheVariants.{Sx4}
use Rattle.word_terms.specs.Tree.{WordTree, Const, Bin, Extend, CondTree, Compare, Neg, word_tree, cond_tree}
use Rattle.fun_laws.specs.declared.shape.Shape.{Shape}
use Rattle.fun_laws.specs.declared.shape.Shape.TheVariants as shape
use Rattle.fun_laws.specs.declared.shape.Given.{Given}
use Rattle.fun_laws.specs.declared.shape.Given.TheVariants as given
use Rattle.fun_laws.specs.declared.shape.GivenCond.{GivenCond}
use Rattle.fun_laws.specs.declared.shape.GivenCond.TheVariants as given_cond
use Rattle.fun_laws.specs.Laws.{Law, OfWords, OfConds, words, is_constant}

abbrev pub law_of : Shape → Law
law_of (shape.RightUnit op c) = words (λ l. Bin op l.x (Const c)) (λ l. l.x)
law_of shape.LeftUnit = words (λ l. Bin Add (Const 0) l.x) (λ l. l.x)
law_of (shape.RightZero op) = words (λ l. Bin op l.x (Const 0)) (λ l. Const 0)
law_of (shape.SameZero op) = words (λ l. Bin op l.x l.x) (λ l. Const 0)
law_of (shape.SamePart op) = words (λ l. Bin op l.x l.x) (λ l. l.x)
law_of shape.FoldBin = words (λ l. Bin l.op (Const l.c) (Const l.d)) (λ l. Const (operation_value l.op l.c l.d))
law_of shape.FoldExtend = words (λ l. Extend l.ext (Const l.c)) (λ l. Const (extension_value l.ext l.c))
law_of shape.AddTwice = words (λ l. Bin Add (Bin Add l.x (Const l.c)) (Const l.d)) (λ l. Bin Add l.x (Const ((l.c + l.d) % 2 ^ 64)))
law_of shape.ExtendTwice = words (λ l. Extend Sx4 (Extend Sx4 l.x)) (λ l. Extend Sx4 l.x)
law_of (shape.ExtendOf op) = words (λ l. Extend Sx4 (Bin op l.x l.y)) (λ l. Bin op l.x l.y)
law_of shape.AddwZero = words (λ l. Bin Addw l.x (Const 0)) (λ l. Extend Sx4 l.x)
law_of shape.Turn = OfWords (λ l. not (is_constant l.x)) (λ l. Bin Add (Const l.c) l.x) (λ l. Bin Add l.x (Const l.c))
law_of (shape.Not from to) = OfConds (λ l. Neg (Compare from l.x l.y)) (λ l. Compare to l.x l.y)
law_of shape.NotNot = OfConds (λ l. Neg (Neg l.b)) (λ l. l.b)

-- what a law gives of a word
abbrev pub given_tree : Given → WordTree
given_tree (given.Part t) = word_tree t.now
given_tree (given.Constant n) = Const n
given_tree (given.Added t n) = Bin Add (word_tree t.now) (Const n)
given_tree (given.Extended t) = Extend Sx4 (word_tree t.now)

-- what a law gives of a condition
abbrev pub given_cond_tree : GivenCond → CondTree
given_cond_tree (given_cond.Compared cmp a b) = Compare cmp (word_tree a.now) (word_tree b.now)
given_cond_tree (given_cond.Part c) = cond_tree c.now
