-- The definitions on one group: a loop that adds, a return, and a function that calls both.
use Rattle.std.proofs.Common.{◌≡◌, ℕ, [], ◌∷◌, List, map, refl}
use Rattle.rv_words.specs.declared.operation.Op.TheVariants.{Add, And}
use Rattle.rv_words.specs.declared.comparison.Cmp.TheVariants.{Eq, Ne}
use Rattle.word_terms.specs.Tree.{Const, Var, Bin, Compare}
use Rattle.tailrec_lang.specs.declared.group.Exit.TheVariants.{At, Ret}
use Rattle.tailrec_lang.specs.Tree.{Bind, Need, Do, Branch, Call, Again, Leave, NoArm, Arm, DefTree, GroupTree, ValuesTree}
use Rattle.tailrec_lang.specs.Eval.{Arguments, Done, SideFalse, Turns, eval}

abbrev variables : List ℕ → ValuesTree
variables is = record { words = map Var is; mems = [] }

abbrev words : List ℕ → Arguments
words ns = record { words = ns; mems = [] }

-- let (add v1 v2), let (add v2 -1), if (ne v4 0) again, else leave
abbrev adding : DefTree
adding = record {
  entry = 0x10000;
  exits = At 0x1000c ∷ [];
  body = Do (Bind (Bin Add (Var 1) (Var 2))) (Do (Bind (Bin Add (Var 2) (Const 0xffff_ffff_ffff_ffff)))
      (Branch (Compare Ne (Var 4) (Const 0)) (Again (variables (0 ∷ 3 ∷ 4 ∷ []))) (Leave 0 (variables (0 ∷ 3 ∷ 4 ∷ [])))));
}

-- need (eq (and v0 2) 0), and leave to v0
abbrev returning : DefTree
returning = record {
  entry = 0x1000c;
  exits = Ret ∷ [];
  body = Do (Need (Compare Eq (Bin And (Var 0) (Const 2)) (Const 0))) (Leave 0 (variables (0 ∷ 0 ∷ 1 ∷ 2 ∷ [])));
}

-- calls the first, then the second with its results, and returns with the second's
abbrev both : DefTree
both = record {
  entry = 0x10000;
  exits = Ret ∷ [];
  body = Call 0 (variables (0 ∷ 1 ∷ 2 ∷ [])) (Arm (Call 1 (variables (3 ∷ 4 ∷ 5 ∷ [])) (Arm (Leave 0 (variables (6 ∷ 7 ∷ 8 ∷ 9 ∷ []))) NoArm)) NoArm);
}

abbrev sums : GroupTree
sums = record { name = []; regs = 1 ∷ 10 ∷ 11 ∷ []; mems = 0; code = []; defs = adding ∷ returning ∷ both ∷ [] }

sums-five_turns : eval sums 2 (words (0x2000 ∷ 0 ∷ 3 ∷ [])) 5 ≡ Done 0 0x2000 (words (0x2000 ∷ 6 ∷ 0 ∷ [])) 0
sums-five_turns = refl

sums-four_turns : eval sums 2 (words (0x2000 ∷ 0 ∷ 3 ∷ [])) 4 ≡ Turns
sums-four_turns = refl

sums-false : eval sums 2 (words (0x2002 ∷ 0 ∷ 3 ∷ [])) 5 ≡ SideFalse 1 0
sums-false = refl
