-- The lines of a proof as trees: what contracts see of them, whatever their places in memory.
use Rattle.std.specs.Prelude.{ℕ, Bool, true, false, List, map}
use Rattle.rv_words.specs.declared.range.Range.{Range}
use Rattle.word_terms.specs.Tree.{WordTree, MemTree, word_tree, mem_tree}
use Rattle.word_terms.specs.declared.term.Word.{Word}
use Rattle.word_terms.specs.declared.term.Mem.{Mem}
use Rattle.tailrec_lang.specs.Tree.{GroupTree}
use Rattle.triple_kernel.specs.Tree.{TripleTree, triple_tree}
use Rattle.triple_kernel.specs.declared.form.Form.{Form}
use Rattle.proof_text.specs.declared.line.Rule.{Rule}
use Rattle.proof_text.specs.declared.line.Rule.TheVariants as rule
use Rattle.proof_text.specs.declared.line.Line.{Line}
use Rattle.proof_text.specs.declared.line.Line.TheVariants as line
use Rattle.proof_text.specs.declared.line.SpelledLine.{SpelledLine}

-- the rule by which a triple is stated, with the theorems that it is stated from
pub data RuleTree : Type 0 where
  Axiom : (address word : ℕ) (form : Form) → RuleTree
  Inst : (p : ℕ) (words : List (ℕ × WordTree)) (mems : List (ℕ × MemTree)) → RuleTree
  Frame : (p : ℕ) → RuleTree
  Compose : (p q : ℕ) → RuleTree
  ExtendCode : (p : ℕ) → RuleTree
  Strengthen : (p : ℕ) → RuleTree
  Weaken : (p : ℕ) → RuleTree
  Discharge : (p : ℕ) → RuleTree
  UseExit : (def exit : ℕ) → RuleTree

-- a line states a triple, closes a definition by a theorem for each leaf of its body, forgets a theorem, or states a triple from
-- one theorem by the further rule of the text's version
pub data LineTree : Type 0 where
  States : (rule : RuleTree) (stated : TripleTree) → LineTree
  Loop : (def : ℕ) (cited : List ℕ) → LineTree
  Forget : (k : ℕ) → LineTree
  Further : (p : ℕ) (stated : TripleTree) → LineTree

-- a group with the lines behind it, whatever lines these are
pub record ProofOf (L : Type 0) : Type 0 where
  pub group : GroupTree
  pub lines : List L

-- a group with its proof
abbrev pub ProofTree : Type 0
ProofTree = ProofOf LineTree

-- a variable's number and the tree of its term
abbrev pub word_put_in : ℕ × Word → ℕ × WordTree
word_put_in s = (s.0, word_tree s.1)

abbrev pub mem_put_in : ℕ × Mem → ℕ × MemTree
mem_put_in s = (s.0, mem_tree s.1)

-- the tree of a rule
abbrev pub rule_tree : Rule → RuleTree
rule_tree (rule.Axiom address word form) = Axiom address word form
rule_tree (rule.Inst p s) = Inst p (map word_put_in s.words) (map mem_put_in s.mems)
rule_tree (rule.Frame p) = Frame p
rule_tree (rule.Compose p q) = Compose p q
rule_tree (rule.ExtendCode p) = ExtendCode p
rule_tree (rule.Strengthen p) = Strengthen p
rule_tree (rule.Weaken p) = Weaken p
rule_tree (rule.Discharge p) = Discharge p
rule_tree (rule.UseExit def exit) = UseExit def exit

-- the tree of a line
abbrev pub line_tree : Line → LineTree
line_tree (line.States by stated) = States (rule_tree by) (triple_tree stated)
line_tree (line.Loop def cited) = Loop def cited
line_tree (line.Forget k) = Forget k
line_tree (line.Further cited stated) = Further cited (triple_tree stated)

-- ---- lines as they are spelled

-- code, or the group's own where `all` stands for that
abbrev pub code_or_own : List Range → (all : Bool) → List Range → List Range
code_or_own own true code = own
code_or_own own false code = code

-- the triple, with such code
abbrev pub triple_or_own : List Range → (all : Bool) → TripleTree → TripleTree
triple_or_own own all t = record { facts = t.facts; pre = t.pre; code = code_or_own own all t.code; post = t.post }

-- the line, with such code in the triple that it states
abbrev pub line_or_own : List Range → (all : Bool) → LineTree → LineTree
line_or_own own all (States rule t) = States rule (triple_or_own own all t)
line_or_own own all (Loop def cited) = Loop def cited
line_or_own own all (Forget k) = Forget k
line_or_own own all (Further p t) = Further p (triple_or_own own all t)

-- the tree of a line that is kept as it is spelled: it has the group's own code where `all` stands for that
abbrev pub spelled_tree : List Range → SpelledLine → LineTree
spelled_tree own s = line_or_own own s.all (line_tree s.line)
