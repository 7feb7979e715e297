use Rattle.std.proofs.Common.{◌≡◌, IfOk, map, sym, subst}
use Rattle.std.proofs.lemmas.Result.{on_ok_weaker}
use Rattle.tailrec_lang.specs.Tree.{def_tree}
use Rattle.proof_text.specs.Line.{line_tree}
use Rattle.code_parts.specs.Bodies.{Flow, part_def}
use Rattle.code_parts.specs.Graph.{IsPart}
use Rattle.code_parts.specs.Flows.{alone}
use Rattle.code_parts.specs.Kept.{flow_in}
use Rattle.code_parts.proofs.Contexts.{same_flow}
use Rattle.path_walk.specs.Item.{IsWalked}
use Rattle.path_walk.proofs.PartsInOrder.{version-alone}
use Rattle.path_walk.proofs.one_part.walk.Goals as goal

pub walk_in-requires-clause-part : goal.walk_in-requires-clause-part
walk_in-requires-clause-part c = subst (λ (f : Flow). IsPart f c.args.part) (sym (same_flow c.in_ok-flow.flow c.args.graph.now c.args.forest.now (alone c.args.graph.now c.args.earlier.now) c.in_ok-flow.ensures.graph c.in_ok-flow.ensures.forest c.in_ok-flow.ensures.context)) c.requires.part

pub walk_in-requires-clause-version : goal.walk_in-requires-clause-version
walk_in-requires-clause-version c = version-alone (flow_in c.in_ok-flow.flow) c.in_ok-flow.ensures.alone

pub returns-clause-def : goal.returns-clause-def
returns-clause-def c = subst (λ (f : Flow). IfOk c.walk_in.result (λ w. def_tree w.def ≡ part_def f c.args.part)) (same_flow c.in_ok-flow.flow c.args.graph.now c.args.forest.now (alone c.args.graph.now c.args.earlier.now) c.in_ok-flow.ensures.graph c.in_ok-flow.ensures.forest c.in_ok-flow.ensures.context) c.walk_in.ensures.def

pub returns-clause-lines : goal.returns-clause-lines
returns-clause-lines c = on_ok_weaker c.walk_in.result (λ one. record {
  ranges = c.in_ok-flow.flow.code;
  code = c.in_ok-flow.ensures.code;
  walked = subst (λ (f : Flow). IsWalked f c.in_ok-flow.flow.code c.args.part (map line_tree c.args.lines.now) (map line_tree c.walk_in.new.lines)) (same_flow c.in_ok-flow.flow c.args.graph.now c.args.forest.now (alone c.args.graph.now c.args.earlier.now) c.in_ok-flow.ensures.graph c.in_ok-flow.ensures.forest c.in_ok-flow.ensures.context) one;
}) c.walk_in.ensures.lines
