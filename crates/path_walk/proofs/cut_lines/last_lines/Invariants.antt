use Rattle.std.proofs.Common.{◌≡◌, [], Some}
use Rattle.word_terms.specs.Tree.{Const}
use Rattle.code_parts.specs.Bodies.{first, fresh, last_at}
use Rattle.code_parts.specs.Kept.{flow_in}
use Rattle.path_walk.specs.inner.Writers.{writer_tree, cited_tree}
use Rattle.code_parts.specs.VariableMaps.{place_of}
use Rattle.path_walk.proofs.ClosingLines.{ArmsLeft}
use Rattle.path_walk.proofs.cut_lines.last_lines.Given as goal

abbrev pub invariant-loop-x : goal.invariant-loop-x
invariant-loop-x l = record {
  count : l.k ≡ l.x-index;
  left : ArmsLeft (flow_in l.flow) l.fn.p l.flow.code ((flow_in l.flow).number l.q) (Const ((flow_in l.flow).addr (first (flow_in l.flow) l.q))) (place_of l.place) (Some (cited_tree l.at)) []
      (λ x. last_at (flow_in l.flow) l.fn.p x (fresh (flow_in l.flow) l.place.words l.place.mems)) l.targets (writer_tree l.fn.log) (writer_tree l.log) l.x-index;
}
