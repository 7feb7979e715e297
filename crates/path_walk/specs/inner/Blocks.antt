-- Instructions that follow one another, and where their lines lead.
use Rattle.std.specs.Prelude.{◌≡◌, ℕ, zero, suc, ◌+◌, ◌*◌, ◌<◌, ◌≤◌, false, Bool, ◌||◌, List, ◌++◌, Option, None}
use Rattle.std.specs.List.{Contains}
use Rattle.rv_words.specs.declared.range.Range.{Range}
use Rattle.word_terms.specs.Tree.{Const}
use Rattle.tailrec_lang.specs.Tree.{BodyTree, GroupTree}
use Rattle.rv_decode.specs.Registers.{registers_where}
use Rattle.triple_kernel.specs.Tree.{FactTree}
use Rattle.triple_kernel.specs.declared.form.Form.TheVariants.{Next, Taken}
use Rattle.instr_axioms.specs.Axiom.{is_own}
use Rattle.loop_rule.specs.Leaves.{body_leaves}
use Rattle.proof_text.specs.Line.{Frame}
use Rattle.verdicts.specs.Instance.{History}
use Rattle.code_parts.specs.declared.part.Part.{Part}
use Rattle.code_parts.specs.Bodies.{Flow, VariableMap, body_at, part_def}
use Rattle.code_parts.specs.Graph.{CallsBelow, has_edge, is_jump_through}
use Rattle.code_parts.specs.inner.Ends.{body_on}
use Rattle.path_walk.specs.Closed.{AreClosed}
use Rattle.path_walk.specs.inner.Acts.{HasOwn}
use Rattle.path_walk.specs.inner.Near.{IsNear, IsNext}
use Rattle.path_walk.specs.inner.Writers.{CitedTree, OriginTree, Steps, WriterTree, standing_at, stating}

-- a node's instruction leads on to one node, and calls no function
pub record IsStraight (f : Flow) (n : ℕ) : Type 0 where
  pub node : n < f.nodes
  pub uncalled : f.callee n ≡ None
  pub branch : has_edge (f.instr n) Taken ≡ false
  pub jump : is_jump_through (f.instr n) ≡ false

-- .. and so many more follow it, none of them at a cut
abbrev pub IsRun : Flow → ℕ → ℕ → Type 0
IsRun f n zero = IsStraight f n
IsRun f n (suc more) = IsStraight f n × (f.is_cut (f.to n Next) ≡ false) × IsRun f (f.to n Next) more

-- one of these has the register
abbrev pub is_touched : Flow → ℕ → ℕ → ℕ → Bool
is_touched f n zero r = is_own (f.instr n) r
is_touched f n (suc more) r = is_own (f.instr n) r || is_touched f (f.to n Next) more r

-- the registers that they have
abbrev pub touched : Flow → ℕ → ℕ → List ℕ
touched f n more = registers_where (is_touched f n more)

-- those of each are among these
abbrev pub HasEach : List ℕ → Flow → ℕ → ℕ → Type 0
HasEach regs f n zero = HasOwn regs (f.instr n)
HasEach regs f n (suc more) = HasOwn regs (f.instr n) × HasEach regs f (f.to n Next) more

-- the leaves of a body at a place are those of another one at another place, where the way has these facts more
pub record GoesOver (f : Flow) (p : Part) (body : BodyTree) (v : VariableMap) (on : BodyTree) (u : VariableMap) (more : List FactTree) : Type 0 where
  pub leaves : (g : GroupTree) (path : List FactTree) → body_leaves g (part_def f p) body v.words v.mems path ≡ body_leaves g (part_def f p) on u.words u.mems (path ++ more)
  pub closed : (h : History) → AreClosed h body → AreClosed h on
  pub below : (d : ℕ) → CallsBelow d body → CallsBelow d on

-- Such instructions lead from one place to another, and from one room to another: registers other than these keep their variables.
pub record Runs (f : Flow) (regs : List ℕ) (n : ℕ) (v : VariableMap) (room m : ℕ) (u : VariableMap) (left : ℕ) (more : List FactTree) : Type 0 where
  pub over : (p : Part) → GoesOver f p (body_at room f p n v) v (body_on left f p m u) u more
  pub node : m < f.nodes
  pub next : (p : Part) → IsNear f p room n → IsNext f p left m
  pub kept : (r : ℕ) → Contains f.regs r → (Contains regs r → ⊥) → v.reg r ≡ u.reg r
  pub fewer : left < room
  pub words : u.words + 33 * left ≤ v.words + 33 * room
  pub mems : u.mems + 3 * left ≤ v.mems + 3 * room

-- .. and so do their lines, from the way's origin on
pub record Reaches (f : Flow) (o : OriginTree) (ranges : List Range) (old new : WriterTree) (n : ℕ) (v : VariableMap) (room : ℕ) (from : Option CitedTree) (m : ℕ) (u : VariableMap) (left : ℕ) (t : CitedTree) : Type 0 where
  pub more : List FactTree
  pub runs : Runs f o.regs n v room m u left more
  pub steps : Steps f o ranges old new (Const (f.addr n)) v from (Const (f.addr m)) u more t

-- a theorem from one place to another, over all registers
abbrev pub framed : Flow → ℕ → VariableMap → ℕ → VariableMap → CitedTree → WriterTree → WriterTree
framed f a v b u t l = stating (Frame t.number) (record { facts = t.facts; pre = standing_at f (Const a) v; code = t.code; post = standing_at f (Const b) u }) l

abbrev pub framed_standing : CitedTree → WriterTree → CitedTree
framed_standing t l = record { number = l.next; facts = t.facts; code = t.code }
