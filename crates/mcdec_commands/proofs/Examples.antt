-- The definitions on one function, as they compute.
use Rattle.std.proofs.Common.{◌≡◌, List, [], ◌∷◌, codes, refl}
use Rattle.rv_words.specs.declared.operation.Op.TheVariants.{Add}
use Rattle.word_terms.specs.Tree.{Var, Bin}
use Rattle.tailrec_lang.specs.declared.group.Exit.TheVariants.{At}
use Rattle.tailrec_lang.specs.Tree.{Bind, Do, Leave, GroupTree, listed_def}
use Rattle.tailrec_lang.specs.Eval.{Done, Turns, eval}
use Rattle.mcdec_answers.specs.Command.{Arg, Value, value_of, givens}
use Rattle.mcdec_commands.specs.EvalAnswer.{arguments_given}

-- sum: x10 gets x10 + x11
abbrev sum : GroupTree
sum = record {
  name = codes "sum";
  regs = 10 ∷ 11 ∷ [];
  mems = 0;
  code = record { at = 65536; bytes = 51 ∷ 5 ∷ 181 ∷ 0 ∷ [] } ∷ [];
  defs = record { entry = 65536; exits = At 65540 ∷ []; body = Do (Bind (Bin Add (Var 0) (Var 1))) (Leave 0 (record { words = Var 2 ∷ Var 1 ∷ []; mems = [] })) } ∷ [];
}

abbrev two_and_three : List Arg
two_and_three = Value (record { register = 10; value = 2 }) ∷ Value (record { register = 11; value = 3 }) ∷ []

sum-done : eval sum (listed_def sum) (arguments_given two_and_three sum) 1 ≡ Done 0 65540 (record { words = 5 ∷ 3 ∷ []; mems = [] }) 0
sum-done = refl

sum-turns : eval sum (listed_def sum) (arguments_given two_and_three sum) 0 ≡ Turns
sum-turns = refl

other-register : value_of (givens two_and_three) 12 ≡ 0
other-register = refl
