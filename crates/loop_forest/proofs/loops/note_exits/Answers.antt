use Rattle.std.proofs.Common.{sym, ◌∙◌, true≢false}
use Rattle.flow_graph.proofs.ReachSearch.{grows_one}
use Rattle.loop_forest.proofs.LoopNodes.{exits_more, exits_skip, exits_end}
use Rattle.loop_forest.proofs.loops.note_exits.Goals as goal

pub loop-v-preserved-in_ok-add : goal.loop-v-preserved-in_ok-add
loop-v-preserved-in_ok-add c =
    let grows = grows_one c.loop-v.exits c.add.new.self c.in-Some.v c.in_ok-add.field-0 c.in_ok-add.ensures.fresh c.in_ok-add.ensures.added in
    record {
      can = tt;
      ends = tt;
      so_far = exits_more c.args.g.now c.args.l.now.head c.args.l.now.nodes c.args.x _ _ c.args.exits.now c.loop-v.exits c.add.new.self c.in-Some.v c.in-Some.ensures.steps c.loop-v.invariant.so_far
          (λ i. true≢false (sym (c.has.ensures.1 i) ∙ c.if-not-has.true))
          grows;
    }

pub loop-v-preserved : goal.loop-v-preserved
loop-v-preserved c = record {
  can = tt;
  ends = tt;
  so_far = exits_skip c.args.g.now c.args.l.now.head c.args.l.now.nodes c.args.x _ _ c.args.exits.now c.loop-v.exits c.in-Some.v c.in-Some.ensures.steps c.loop-v.invariant.so_far (c.has.ensures.0 c.if-not-has.false);
}

pub returns : goal.returns
returns c = exits_end c.args.g.now c.args.l.now.head c.args.l.now.nodes c.args.x _ c.args.exits.now c.loop-v.exits c.in-None.ensures.steps.0 c.loop-v.invariant.so_far
