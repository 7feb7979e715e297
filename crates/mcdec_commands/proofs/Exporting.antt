-- What is answered to the command `smt`, and what its output file holds then.
use Rattle.std.proofs.Common.{◌≡◌, ℕ, ◌<◌, ◌≤◌, List, [], length, map, Option, Some, refl, sym, ap, subst, inl, inr, arith}
use Rattle.std.specs.Prelude.{IfSome}
use Rattle.std.proofs.lemmas.List.{length-map}
use Rattle.mc_shelf.specs.Shelf.{Contents}
use Rattle.tailrec_lang.specs.declared.group.Group.{Group}
use Rattle.tailrec_lang.specs.Tree.{GroupTree, def_tree, group_tree, listed_def}
use Rattle.tailrec_lang.specs.WellFormed.{IsWellFormed}
use Rattle.smt_terms.specs.declared.script.Fun.{Fun}
use Rattle.smt_terms.specs.Meaning.{FunTree}
use Rattle.smt_terms.specs.Sorts.{IsScript}
use Rattle.smt_terms.specs.Text.{script_text}
use Rattle.smt_terms.specs.Views.{fun_tree}
use Rattle.smt_export.specs.Reach.{IsLeastLoop, IsLoopFree, ReachesByCalls}
use Rattle.smt_export.specs.Telling.{HasFuns, TellsEval}
use Rattle.mcdec_commands.specs.Scripts.{TellsClaims}
use Rattle.mcdec_answers.specs.declared.answer.Answer.{Answer}
use Rattle.mcdec_answers.specs.declared.answer.Answer.TheVariants as answer
use Rattle.mcdec_answers.specs.declared.answer.SmtAnswer.TheVariants as smt
use Rattle.mcdec_answers.specs.Printed.{status}
use Rattle.mcdec_answers.specs.Command.{Smt, Words}
use Rattle.mcdec_commands.specs.EvalAnswer.{IsNamed, proof_limit}
use Rattle.mcdec_commands.specs.SmtAnswer.{IsScriptFor, SmtGives}
use Rattle.mcdec_commands.specs.Answer.{Gives}
use Rattle.mcdec_commands.specs.inner.Exporting.{DefGives}
use Rattle.mcdec_commands.specs.inner.Writing.{ToldOrFault}
use Rattle.mcdec_commands.proofs.Answers.{held-with}
use Rattle.mcdec_commands.proofs.Leaving.{has-output}

-- ---- the file that it reads

-- what is answered of the file's text is what the command comes to
pub def-gives : (told : Option Contents) (ws : List (List ℕ)) (proof name : List ℕ) (def : ℕ) (out file : List ℕ) (rose wrote : Type 0) → Words ws (Smt proof name def out) → IfSome told (λ files. files proof ≡ Some file)
    → (a : Answer) → (status a ≡ 5 → wrote) → DefGives file name def a → Gives told ws rose wrote a
def-gives told ws proof name def out file rose wrote w held answer.NotACommand since h = absurd h
def-gives told ws proof name def out file rose wrote w held answer.ReadFault since h = absurd h
def-gives told ws proof name def out file rose wrote w held answer.WriteFault since h = (Smt proof name def out, w, has-output out, since refl)
def-gives told ws proof name def out file rose wrote w held answer.NoMemory since h = tt
def-gives told ws proof name def out file rose wrote w held (answer.Eval a) since h = absurd h
def-gives told ws proof name def out file rose wrote w held (answer.Run a) since h = absurd h
def-gives told ws proof name def out file rose wrote w held (answer.Check a) since h = absurd h
def-gives told ws proof name def out file rose wrote w held (answer.Decompile a) since h = absurd h
def-gives told ws proof name def out file rose wrote w held (answer.SelfTest a) since h = absurd h
def-gives told ws proof name def out file rose wrote w held (answer.Simplify a) since h = absurd h
def-gives told ws proof name def out file rose wrote w held (answer.Laws a) since h = absurd h
def-gives told ws proof name def out file rose wrote w held (answer.Migrate a) since h = absurd h
def-gives told ws proof name def out file rose wrote w held (answer.Smt a) since h = (proof, name, def, out, w, held-with told proof file (λ f. SmtGives f name def a) held h)

-- ---- a definition of the group

pub there : (g : Group) (def n : ℕ) → n ≡ length g.defs → def < n → def < length (group_tree g).defs
there g def n count low = let same = length-map g.defs def_tree in omega (arith, count, low, same)

pub not-there : (g : Group) (def n : ℕ) → n ≡ length g.defs → n ≤ def → length (group_tree g).defs ≤ def
not-there g def n count high = let same = length-map g.defs def_tree in omega (arith, count, high, same)

-- what is known of the script of a definition
pub record IsExported (g : GroupTree) (def : ℕ) (funs : List Fun) : Type 0 where
  pub there : def < length g.defs
  pub free : IsLoopFree g def
  pub script : IsScript (map fun_tree funs)
  pub sorts : (d : ℕ) → ReachesByCalls g def d → HasFuns g (map fun_tree funs) d
  pub tells : (d : ℕ) → ReachesByCalls g def d → TellsEval g d (map fun_tree funs)
  pub claims : def ≡ listed_def g → TellsClaims g (map fun_tree funs)

-- what is claimed of the group's function is told by the script of it
pub claims-told : (g : GroupTree) (def : ℕ) (funs : List FunTree) → ((h : GroupTree) (fs : List FunTree) → IsWellFormed h → IsLoopFree h (listed_def h) → TellsEval h (listed_def h) fs → TellsClaims h fs)
    → IsWellFormed g → IsLoopFree g def → ((d : ℕ) → ReachesByCalls g def d → TellsEval g d funs) → def ≡ listed_def g → TellsClaims g funs
claims-told g def funs law wf free tells is = law g funs wf (subst (IsLoopFree g) is free) (tells (listed_def g) ([], is))

pub no-def : (file name : List ℕ) (def : ℕ) (g : GroupTree) → length file ≤ proof_limit → IsNamed file name (Some g) → length g.defs ≤ def → DefGives file name def (answer.Smt smt.NoDef)
no-def file name def g small named high = (small, g, named, high)

pub has-loop : (file name : List ℕ) (def : ℕ) (g : GroupTree) (least : ℕ) → length file ≤ proof_limit → IsNamed file name (Some g) → def < length g.defs → IsLeastLoop g def least
    → DefGives file name def (answer.Smt (smt.Loop least))
has-loop file name def g least small named low h = (small, g, named, low, h)

-- what is answered of it
pub script-told : (file name : List ℕ) (def : ℕ) (g : GroupTree) (funs : List Fun) (d : ℕ) → length file ≤ proof_limit → IsNamed file name (Some g) → IsExported g def funs → d ≡ def → (a : Answer)
    → ToldOrFault (answer.Smt (smt.Exported d)) a → DefGives file name def a
script-told file name def g funs d small named m same a (inl e) = subst (DefGives file name def) (sym e) (small, g, named, m.there, m.free, same)
script-told file name def g funs d small named m same a (inr (inl e)) = subst (DefGives file name def) (sym e) tt
script-told file name def g funs d small named m same a (inr (inr e)) = subst (DefGives file name def) (sym e) tt

-- its text, and the answer that tells of it
pub script-for : (proof name : List ℕ) (def : ℕ) (file : List ℕ) → length file ≤ proof_limit → (g : GroupTree) → IsNamed file name (Some g) → (funs : List Fun) → IsExported g def funs → (text : List ℕ)
    → text ≡ script_text (map fun_tree funs) → (d : ℕ) → d ≡ def → (files : Contents) → files proof ≡ Some file → IsScriptFor files proof name def (answer.Smt (smt.Exported d)) text
script-for proof name def file small g named funs m text is d same files holds = record {
  file = file;
  holds = holds;
  within = small;
  group = g;
  named = named;
  there = m.there;
  loop_free = m.free;
  funs = map fun_tree funs;
  exports = record { script = m.script; sorts = m.sorts; tells = m.tells };
  claims = m.claims;
  spelled = is;
  told = ap (λ (n : ℕ). answer.Smt (smt.Exported n)) same;
}
