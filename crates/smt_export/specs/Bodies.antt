-- Definitions as SMT-LIB functions. For each of what is told of an evaluation there is a function of the definition's
-- parameters: whether it is done, by which exit, the program counter, the words, and the memories as arrays.
use Rattle.std.specs.Prelude.{ℕ, zero, suc, ◌+◌, Bool, true, false, List, [], ◌∷◌, ◌++◌, map, codes, length, slice_get, Option, Some, None}
use Rattle.std.specs.Fmt.{decimal}
use Rattle.word_terms.specs.Tree.{WordTree, MemTree}
use Rattle.tailrec_lang.specs.declared.group.Exit.{Exit}
use Rattle.tailrec_lang.specs.declared.group.Exit.TheVariants.{At, Ret}
use Rattle.tailrec_lang.specs.Tree.{ValuesTree, Bind, BindMem, Need, BodyTree, Do, Branch, Call, Again, Leave, ArmTrees, Arm, GroupTree, exits_at}
use Rattle.smt_terms.specs.Expression.{Expr, Atom, apply, bound, is_atom, literal, word, ite}
use Rattle.smt_export.specs.declared.told.Told.{Told}
use Rattle.smt_export.specs.declared.told.Told.TheVariants.{Ok, ExitNumber, Pc, WordAt, MemAt, DomAt}
use Rattle.smt_export.specs.Told.{fun_name, word_name, mem_name, dom_name, words_from}
use Rattle.smt_export.specs.Joins.{branch_expr}
use Rattle.smt_export.specs.Terms.{word_expr, mem_expr, dom_expr, cond_expr, falsity}

-- what stands where nothing is told
abbrev pub default : Told → Expr
default Ok = falsity
default ExitNumber = literal (codes "32") (codes "0")
default Pc = word 0
default (WordAt i) = word 0
default (MemAt i) = Atom (mem_name 0)
default (DomAt i) = Atom (dom_name 0)

abbrev pub exit_number : ℕ → Expr
exit_number k = literal (codes "32") (decimal k)

abbrev pub conjunction : Bool → Expr → Expr → Expr
conjunction true c rest = c
conjunction false c rest = ite c rest falsity

-- c, too, where it is told whether all is done
abbrev pub with_condition : Told → Expr → Expr → Expr
with_condition Ok c rest = conjunction (is_atom (codes "true") rest) c rest
with_condition _ c rest = rest

-- ---- values

abbrev pub mem_args : List MemTree → List Expr
mem_args [] = []
mem_args (m ∷ ms) = mem_expr m ∷ dom_expr m ∷ mem_args ms

abbrev pub args : ValuesTree → List Expr
args v = map word_expr v.words ++ mem_args v.mems

-- a function applied; one without parameters stands alone
abbrev pub applied_to : List ℕ → List Expr → Expr
applied_to f [] = Atom f
applied_to f (x ∷ xs) = apply f (x ∷ xs)

abbrev pub called : ℕ → ValuesTree → Told → Expr
called d v t = applied_to (fun_name d t) (args v)

abbrev pub word_or : List WordTree → ℕ → Expr
word_or [] i = word 0
word_or (t ∷ ts) zero = word_expr t
word_or (t ∷ ts) (suc i) = word_or ts i

abbrev pub mem_or : List MemTree → ℕ → Expr
mem_or [] i = Atom (mem_name 0)
mem_or (m ∷ ms) zero = mem_expr m
mem_or (m ∷ ms) (suc i) = mem_or ms i

abbrev pub dom_or : List MemTree → ℕ → Expr
dom_or [] i = Atom (dom_name 0)
dom_or (m ∷ ms) zero = dom_expr m
dom_or (m ∷ ms) (suc i) = dom_or ms i

-- the program counter: the address of the exit, or the one that is returned, which stands before the words
abbrev pub left_pc : Option Exit → ValuesTree → Expr
left_pc (Some (At a)) v = word a
left_pc (Some Ret) v = word_or v.words 0
left_pc None v = word 0

-- word i, behind the address where one is returned
abbrev pub left_word : Option Exit → ValuesTree → ℕ → Expr
left_word (Some (At a)) v i = word_or v.words i
left_word (Some Ret) v i = word_or v.words (suc i)
left_word None v i = word 0

-- what is told where a definition is left by exit k
abbrev pub left_by : Option Exit → ℕ → ValuesTree → Told → Expr
left_by exit k v Ok = Atom (codes "true")
left_by exit k v ExitNumber = exit_number k
left_by exit k v Pc = left_pc exit v
left_by exit k v (WordAt i) = left_word exit v i
left_by exit k v (MemAt i) = mem_or v.mems i
left_by exit k v (DomAt i) = dom_or v.mems i

-- ---- results as variables

-- what the words are that a definition is left with
abbrev pub call_results : ℕ → Option Exit → List Told
call_results r (Some Ret) = Pc ∷ words_from 0 r
call_results r _ = words_from 0 r

-- the words as the variables from n on
abbrev pub let_words : (Told → Expr) → List Told → ℕ → Expr → Expr
let_words call [] n body = body
let_words call (t ∷ ts) n body = bound (word_name n) (call t) (let_words call ts (n + 1) body)

-- q memories as the variables from m on
abbrev pub let_mems : (Told → Expr) → ℕ → ℕ → ℕ → Expr → Expr
let_mems call i zero m body = body
let_mems call i (suc q) m body =
    bound (mem_name m) (call (MemAt i)) (bound (dom_name m) (call (DomAt i)) (let_mems call (suc i) q (m + 1) body))

-- the arm of an exit where the test of it is true; where it is the last one, no test is needed
abbrev pub arm_or : List Exit → Expr → Expr → Expr → Expr
arm_or [] test arm others = arm
arm_or (_ ∷ _) test arm others = ite test arm others

-- ---- bodies, where n words and m memories are in scope

abbrev mutual
  pub body_expr : GroupTree → ℕ → BodyTree → ℕ → ℕ → Told → Expr
  body_expr g d (Do (Bind x) rest) n m t = bound (word_name n) (word_expr x) (body_expr g d rest (n + 1) m t)
  body_expr g d (Do (BindMem x) rest) n m t =
      bound (mem_name m) (mem_expr x) (bound (dom_name m) (dom_expr x) (body_expr g d rest n (m + 1) t))
  body_expr g d (Do (Need c) rest) n m t = with_condition t (cond_expr c) (body_expr g d rest n m t)
  body_expr g d (Branch c a b) n m t = branch_expr (cond_expr c) (body_expr g d a n m t) (body_expr g d b n m t)
  body_expr g d (Call def v arms) n m t = with_condition t (called def v Ok) (arms_expr g d (called def v) (exits_at g def) arms 0 n m t)
  body_expr g d (Again v) n m t = default t
  body_expr g d (Leave exit v) n m t = left_by (slice_get (exits_at g d) exit) exit v t

  -- the arm of the exit by which the call leaves
  pub arms_expr : GroupTree → ℕ → (Told → Expr) → List Exit → ArmTrees → ℕ → ℕ → ℕ → Told → Expr
  arms_expr g d call (x ∷ xs) (Arm b bs) k n m t =
      arm_or xs (apply (codes "=") (call ExitNumber ∷ exit_number k ∷ []))
      (let_words call (call_results (length g.regs) (Some x)) n (let_mems call 0 g.mems m
      (body_expr g d b (n + length (call_results (length g.regs) (Some x))) (m + g.mems) t)))
      (arms_expr g d call xs bs (suc k) n m t)
  arms_expr g d call _ _ k n m t = default t
