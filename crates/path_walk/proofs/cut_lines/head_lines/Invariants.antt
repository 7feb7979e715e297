use Rattle.std.proofs.Common.{◌≡◌, [], None}
use Rattle.word_terms.specs.Tree.{Const}
use Rattle.code_parts.specs.declared.part.Part.TheVariants.{Loop}
use Rattle.code_parts.specs.Bodies.{end_at, fresh, start}
use Rattle.code_parts.specs.Kept.{flow_in}
use Rattle.path_walk.specs.inner.Writers.{writer_tree}
use Rattle.path_walk.proofs.ClosingLines.{ArmsLeft}
use Rattle.path_walk.proofs.cut_lines.head_lines.Given as goal

abbrev pub invariant-loop-x : goal.invariant-loop-x
invariant-loop-x l = record {
  count : l.k ≡ l.x-index;
  left : ArmsLeft (flow_in l.flow) l.fn.p l.flow.code ((flow_in l.flow).number (Loop l.l)) (Const ((flow_in l.flow).addr ((flow_in l.flow).head l.l))) (start (flow_in l.flow)) None []
      (λ x. end_at (flow_in l.flow) l.fn.p x (fresh (flow_in l.flow) (start (flow_in l.flow)).words (start (flow_in l.flow)).mems)) l.targets (writer_tree l.fn.log) (writer_tree l.log) l.x-index;
}
