use Rattle.std.proofs.Common.{◌++◌, List, map, sym, ap, ◌∙◌, arith, append-nil}
use Rattle.tailrec_lang.specs.Tree.{def_tree}
use Rattle.group_text.specs.declared.version.Version.TheVariants.{Three}
use Rattle.proof_text.specs.Line.{line_tree}
use Rattle.code_parts.specs.declared.part.Part.{Part}
use Rattle.code_parts.specs.Bodies.{part_def}
use Rattle.code_parts.specs.Kept.{flow_in}
use Rattle.path_walk.proofs.FunctionsInOrder.{defs_next, none_walked_to, taken_at, walked_to_next}
use Rattle.path_walk.proofs.linked.walk_parts.Goals as goal

pub loop-part-init : goal.loop-part-init
loop-part-init c = (
  none_walked_to Three (flow_in c.args.flow.now) c.args.flow.now.code c.args.parts.now (map line_tree c.args.lines.now),
  sym (append-nil (map def_tree c.args.defs.now)),
  c.requires.first,
  λ k. k,
)

pub loop-part-preserved : goal.loop-part-preserved
loop-part-preserved c = (
  walked_to_next Three (flow_in c.args.flow.now) c.args.flow.now.code c.args.parts.now c.loop-part.part-index _ _ _ _ c.loop-part-test.true c.loop-part.invariant.0 c.in_ok-walked.ensures.lines,
  defs_next (flow_in c.args.flow.now) c.args.parts.now c.loop-part.part-index _ c.args.defs.now c.loop-part.defs _ _ c.loop-part-test.true c.loop-part.invariant.1 c.in_ok-push.ensures.ok c.in_ok-walked.ensures.def,
  c.in_ok-walked.ensures.next,
  λ k. c.in_ok-walked.ensures.kept (c.loop-part.invariant.3 k),
)

pub returns-clause-defs : goal.returns-clause-defs
returns-clause-defs c = c.loop-part.invariant.1 ∙ ap (λ (ps : List Part). map def_tree c.args.defs.now ++ map (part_def (flow_in c.args.flow.now)) ps) (taken_at c.args.parts.now c.loop-part.part-index (omega arith))
