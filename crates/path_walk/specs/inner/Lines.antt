-- What is counted of lines, and what the lines of a call's arms lead to.
use Rattle.std.specs.Prelude.{◌≡◌, ℕ, suc, ◌<◌, true, List, [], ◌∷◌, map, Option}
use Rattle.std.specs.List.{range_with_len}
use Rattle.rv_words.specs.declared.range.Range.{Range}
use Rattle.word_terms.specs.Tree.{WordTree}
use Rattle.tailrec_lang.specs.declared.group.Exit.{Exit}
use Rattle.tailrec_lang.specs.Tree.{ArmTrees}
use Rattle.triple_kernel.specs.Tree.{FactTree}
use Rattle.loop_rule.specs.Leaves.{arm_leaves}
use Rattle.proof_text.specs.Line.{LineTree, Forget, Loop, States, Further}
use Rattle.code_parts.specs.declared.part.Part.{Part}
use Rattle.code_parts.specs.Bodies.{Flow, VariableMap, current, part_def}
use Rattle.path_walk.specs.Closed.{ArmsClosed}
use Rattle.code_parts.specs.Graph.{ArmsBelow}
use Rattle.path_walk.specs.inner.Writers.{FromAs, IsReady, Led, WriterTree, Context, CitedTree, front, group_in, past}

-- how many lines state a triple
abbrev pub stated : List LineTree → ℕ
stated [] = 0
stated (States rule t ∷ lines) = suc (stated lines)
stated (Loop d cited ∷ lines) = stated lines
stated (Forget k ∷ lines) = stated lines
stated (Further p t ∷ lines) = suc (stated lines)

-- lines that forget so many theorems, from that number on
abbrev pub forgets : (first count : ℕ) → List LineTree
forgets first count = map Forget (range_with_len first count)

-- lines were added, after which a theorem is cited for each leaf of the arms of a call of definition d, the first of which is for exit k
pub record ArmsLead (f : Flow) (p : Part) (ranges : List Range) (d : ℕ) (old new : WriterTree) (pc : WordTree) (v : VariableMap) (from : Option CitedTree) (exits : List Exit) (k : ℕ) (arms : ArmTrees) : Type 0 where
  pub version : new.version ≡ old.version
  pub each : (s : Context f ranges) (path : List FactTree) → IsReady f ranges s old → (past f ranges s old).closed d ≡ true → d < s.bound → FromAs f (front f (part_def f p).entry) ranges (past f ranges s old) pc v path from
      → ArmsClosed (past f ranges s old) arms → ArmsBelow s.bound arms
      → Led f p ranges s old new (arm_leaves (group_in f ranges s) (part_def f p) d exits k (current f v) arms v.words v.mems path)
