-- The lines of a part as they are written, and what they have shown.
use Rattle.std.specs.Prelude.{◌≡◌, ◌⊎◌, ℕ, ◌+◌, ◌<◌, ◌^◌, List, [], ◌∷◌, ◌++◌, map, fold, true, Option, None, Some}
use Rattle.std.specs.List.{AllByRecursion, AllZip, range_with_len}
use Rattle.mc_text.specs.Number.{IsNumber}
use Rattle.group_text.specs.declared.version.Version.{Version as Known}
use Rattle.rv_words.specs.declared.range.Range.{Range}
use Rattle.rv_words.specs.Ranges.{AreRanges, range_bytes}
use Rattle.word_terms.specs.Tree.{WordTree, Const, Var, MemVar}
use Rattle.sep_assert.specs.Tree.{AssertionTree}
use Rattle.sep_assert.specs.Code.{IsWithin}
use Rattle.tailrec_lang.specs.Tree.{BodyTree, DefTree, GroupTree}
use Rattle.triple_kernel.specs.declared.triple.Fact.{Fact}
use Rattle.triple_kernel.specs.Tree.{FactTree, TripleTree, fact_tree}
use Rattle.triple_kernel.specs.Rules.{AreAmong}
use Rattle.loop_rule.specs.Tree.{LeafTree}
use Rattle.loop_rule.specs.Leaves.{body_leaves}
use Rattle.loop_rule.specs.Rule.{LeadsTo}
use Rattle.proof_text.specs.declared.line.Line.{Line}
use Rattle.proof_text.specs.Line.{LineTree, RuleTree, States, Loop, Forget, line_tree, Further}
use Rattle.group_text.specs.Version.{version_of}
use Rattle.proof_text.specs.LineLimits.{IsFact, IsLineIn}
use Rattle.verdicts.specs.Instance.{AreInstancesBy, History, after_line, after_lines}
use Rattle.code_parts.specs.declared.part.Part.{Part}
use Rattle.code_parts.specs.declared.callee.Callee.{Callee}
use Rattle.code_parts.specs.Bodies.{Flow, VariableMap, part_def, start}
use Rattle.code_parts.specs.VariableMaps.{place_of}
use Rattle.tailrec_lang.specs.Registers.{AreRegistersFrom}
use Rattle.path_walk.specs.declared.origin.Origin.{Origin}
use Rattle.path_walk.specs.Closed.{AreClosed}
use Rattle.verdicts.specs.Further.{further_of}
use Rattle.path_walk.specs.Further.{IsVersionFor}
use Rattle.code_parts.specs.Graph.{CallsBelow, HasCallee, HasPart, IsCode, IsPart}
use Rattle.path_walk.specs.inner.Histories.{IsCounted, Keeps}
use Rattle.code_parts.specs.Flows.{group_over}

-- a theorem by its number, with its facts and its code
pub record CitedTree : Type 0 where
  pub number : ℕ
  pub facts : List FactTree
  pub code : List Range

-- the version of the text, lines, the number of the next theorem, and the theorems that are cited for leaves
pub record WriterTree : Type 0 where
  pub version : Known
  pub lines : List LineTree
  pub next : ℕ
  pub cited : List ℕ

-- .. as the code has them
pub record CitedOf : Type 0 where
  pub number : ℕ
  pub facts : List Fact
  pub code : List Range

pub record WriterOf : Type 0 where
  pub version : Known
  pub lines : List Line
  pub next : ℕ
  pub cited : List ℕ

abbrev pub cited_tree : CitedOf → CitedTree
cited_tree s = record { number = s.number; facts = map fact_tree s.facts; code = s.code }

abbrev pub writer_tree : WriterOf → WriterTree
writer_tree l = record { version = l.version; lines = map line_tree l.lines; next = l.next; cited = l.cited }

-- the line states a triple
abbrev pub IsStating : LineTree → Type 0
IsStating (States rule t) = Unit {0}
IsStating (Loop d cited) = ⊥
IsStating (Forget k) = ⊥
IsStating (Further p t) = Unit {0}

-- these have a text, and the lines state triples
pub record IsFineCited (t : CitedTree) : Type 0 where
  pub number : t.number < 2 ^ 64
  pub facts : AllByRecursion IsFact t.facts
  pub code : AreRanges t.code
  pub bytes : AllByRecursion (λ r. AllByRecursion (λ b. b < 256) r.bytes) t.code

pub record IsFineWriter (l : WriterTree) : Type 0 where
  pub lines : AllByRecursion (IsLineIn (version_of l.version)) l.lines
  pub stating : AllByRecursion IsStating l.lines
  pub next : l.next < 2 ^ 64
  pub cited : AllByRecursion IsNumber l.cited

-- one more line that states a triple, by a rule or by the further rule of the text, and one more theorem that is cited
abbrev pub adding : LineTree → WriterTree → WriterTree
adding line l = record { version = l.version; lines = l.lines ++ line ∷ []; next = l.next + 1; cited = l.cited }

abbrev pub stating : RuleTree → TripleTree → WriterTree → WriterTree
stating rule t l = adding (States rule t) l

abbrev pub stating_further : ℕ → TripleTree → WriterTree → WriterTree
stating_further p t l = adding (Further p t) l

-- a triple was stated by a rule from a theorem, unless that states it already; k is the number of the theorem that states it
abbrev pub Restated : (held : ℕ) (rule : RuleTree) (known t : TripleTree) (old new : WriterTree) (k : ℕ) → Type 0
Restated held rule known t old new k = ((known ≡ t) × (new ≡ old) × (k ≡ held)) ⊎ ((new ≡ stating rule t old) × (k ≡ old.next))

abbrev pub citing : ℕ → WriterTree → WriterTree
citing k l = record { version = l.version; lines = l.lines; next = l.next; cited = l.cited ++ k ∷ [] }

-- what holds at a place: that program counter, and the variables of the registers and of the memories
abbrev pub standing_at : Flow → WordTree → VariableMap → AssertionTree
standing_at f pc v = record { pc = pc; regs = map (λ r. (r, Var (v.reg r))) f.regs; mems = map (λ q. MemVar (v.memory q)) (range_with_len 0 f.mems) }

-- what holds of these registers and memories at a place: that program counter, and their variables
abbrev pub standing_over : WordTree → List ℕ → List ℕ → VariableMap → AssertionTree
standing_over pc regs ms v = record { pc = pc; regs = map (λ r. (r, Var (v.reg r))) regs; mems = map (λ p. MemVar (v.memory p)) ms }

-- where a way begins: the registers that its theorems are over, the program counter, and the variables there
pub record OriginTree : Type 0 where
  pub regs : List ℕ
  pub entry : ℕ
  pub place : VariableMap

abbrev pub origin_of : Origin → OriginTree
origin_of o = record { regs = o.regs.now; entry = o.entry; place = place_of o.place }

-- the front of a definition, over all registers
abbrev pub front : Flow → ℕ → OriginTree
front f entry = record { regs = f.regs; entry = entry; place = start f }

-- what holds at a place of a way: of its registers, and of all memories
abbrev pub standing_on : Flow → OriginTree → WordTree → VariableMap → AssertionTree
standing_on f o pc v = standing_over pc o.regs (range_with_len 0 f.mems) v

-- its registers rise, its program counter is an address, and it has few variables
pub record IsOrigin (o : OriginTree) : Type 0 where
  pub registers : AreRegistersFrom 1 o.regs
  pub entry : o.entry < 2 ^ 64
  pub words : o.place.words < 2 ^ 16
  pub mems : o.place.mems < 2 ^ 16

-- ---- the group and the lines before

-- a version of texts, a group for the graph, with this code, and the lines of the definitions before. It has each part and each function whose
-- number is below the bound.
pub record Context (f : Flow) (ranges : List Range) : Type 0 where
  pub version : Known
  pub fits : IsVersionFor f version
  pub name : List ℕ
  pub defs : List DefTree
  pub before : List LineTree
  pub bound : ℕ
  pub code : IsCode f ranges
  pub has : (q : Part) → IsPart f q → f.number q < bound → HasPart f (group_over f name ranges defs) q
  pub callees : (n : ℕ) (c : Callee) → n < f.nodes → f.callee n ≡ Some c → c.def < bound → HasCallee defs c

abbrev pub group_in : (f : Flow) (ranges : List Range) → Context f ranges → GroupTree
group_in f ranges s = group_over f s.name ranges s.defs

-- what the lines so far leave behind them
abbrev pub past : (f : Flow) (ranges : List Range) → Context f ranges → WriterTree → History
past f ranges s l = fold after_line (after_lines s.before) l.lines

pub record IsReady (f : Flow) (ranges : List Range) (s : Context f ranges) (l : WriterTree) : Type 0 where
  pub next : l.next ≡ (past f ranges s l).next
  pub counted : IsCounted (past f ranges s l)

-- lines were added, each of them right, that forget nothing
pub record Grown (f : Flow) (ranges : List Range) (s : Context f ranges) (old new : WriterTree) : Type 0 where
  pub added : List LineTree
  pub lines : new.lines ≡ old.lines ++ added
  pub right : AreInstancesBy (further_of s.version) (group_in f ranges s) (past f ranges s old) added
  pub keeps : Keeps (past f ranges s old) (past f ranges s new)
  pub ready : IsReady f ranges s new

-- ---- places

-- the theorem leads from the way's origin to this place, and its facts are of the way there
pub record StandsAs (f : Flow) (o : OriginTree) (ranges : List Range) (h : History) (pc : WordTree) (v : VariableMap) (path : List FactTree) (t : CitedTree) : Type 0 where
  pub held : h.theorem t.number ≡ Some (record { facts = t.facts; pre = standing_on f o (Const o.entry) o.place; code = t.code; post = standing_on f o pc v })
  pub facts : AreAmong t.facts path
  pub code : IsWithin (range_bytes t.code) (range_bytes ranges)

-- such a theorem, or none at the origin
abbrev pub FromAs : (f : Flow) (o : OriginTree) (ranges : List Range) → History → WordTree → VariableMap → List FactTree → Option CitedTree → Type 0
FromAs f o ranges h pc v path None = (pc ≡ Const o.entry) × (v ≡ o.place) × (path ≡ [])
FromAs f o ranges h pc v path (Some t) = StandsAs f o ranges h pc v path t

-- its code, if there is one, is within that code
abbrev pub IsOver : List Range → Option CitedTree → Type 0
IsOver ranges None = Unit {0}
IsOver ranges (Some t) = IsWithin (range_bytes t.code) (range_bytes ranges)

-- lines that were added lead to this place
pub record Stood (f : Flow) (o : OriginTree) (ranges : List Range) (s : Context f ranges) (old new : WriterTree) (pc : WordTree) (v : VariableMap) (path : List FactTree) (t : CitedTree) : Type 0 where
  pub grown : Grown f ranges s old new
  pub cited : new.cited ≡ old.cited
  pub stands : StandsAs f o ranges (past f ranges s new) pc v path t

-- they lead from one place to another, where the way has these facts more
pub record Steps (f : Flow) (o : OriginTree) (ranges : List Range) (old new : WriterTree) (pc : WordTree) (v : VariableMap) (from : Option CitedTree) (to : WordTree) (u : VariableMap) (more : List FactTree) (t : CitedTree) : Type 0 where
  pub version : new.version ≡ old.version
  pub each : (s : Context f ranges) (path : List FactTree) → IsReady f ranges s old → FromAs f o ranges (past f ranges s old) pc v path from
      → Stood f o ranges s old new to u (path ++ more) t

-- .. by a call of definition d, where that is closed and below the bound
pub record StepsBy (f : Flow) (entry : ℕ) (ranges : List Range) (d : ℕ) (old new : WriterTree) (pc : WordTree) (v : VariableMap) (from : Option CitedTree) (to : WordTree) (u : VariableMap) (more : List FactTree) (t : CitedTree) : Type 0 where
  pub version : new.version ≡ old.version
  pub each : (s : Context f ranges) (path : List FactTree) → IsReady f ranges s old → (past f ranges s old).closed d ≡ true → d < s.bound → FromAs f (front f entry) ranges (past f ranges s old) pc v path from
      → Stood f (front f entry) ranges s old new to u (path ++ more) t

-- ---- leaves

-- lines were added, after which a theorem is cited for each of these leaves
pub record Led (f : Flow) (p : Part) (ranges : List Range) (s : Context f ranges) (old new : WriterTree) (leaves : List LeafTree) : Type 0 where
  pub grown : Grown f ranges s old new
  pub numbers : List ℕ
  pub cited : new.cited ≡ old.cited ++ numbers
  pub each : AllZip (λ leaf j. (t : TripleTree) × ((past f ranges s new).theorem j ≡ Some t) × LeadsTo (group_in f ranges s) (part_def f p) leaf t) leaves numbers

-- .. for those of a body at a place
pub record Leads (f : Flow) (p : Part) (ranges : List Range) (old new : WriterTree) (pc : WordTree) (v : VariableMap) (from : Option CitedTree) (body : BodyTree) : Type 0 where
  pub version : new.version ≡ old.version
  pub each : (s : Context f ranges) (path : List FactTree) → IsReady f ranges s old → FromAs f (front f (part_def f p).entry) ranges (past f ranges s old) pc v path from
      → AreClosed (past f ranges s old) body → CallsBelow s.bound body
      → Led f p ranges s old new (body_leaves (group_in f ranges s) (part_def f p) body v.words v.mems path)
