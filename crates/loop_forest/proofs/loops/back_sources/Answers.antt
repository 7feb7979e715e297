use Rattle.std.proofs.Common.{arith}
use Rattle.flow_graph.specs.Graph.{HasEdge}
use Rattle.flow_graph.proofs.ExactLemmas.{pred_succ}
use Rattle.loop_forest.specs.inner.DepthFirst.{mark_of, number_of}
use Rattle.loop_forest.proofs.BackEdgeLemmas.{back_iff}
use Rattle.loop_forest.proofs.IteratorLoops.{passed_first}
use Rattle.loop_forest.proofs.LoopNodes.{back_more, back_skip, back_end}
use Rattle.loop_forest.proofs.loops.back_sources.Goals as goal

pub loop-u-preserved-in-Continue-1 : goal.loop-u-preserved-in-Continue-1
loop-u-preserved-in-Continue-1 c =
    let edge : HasEdge c.args.g.now c.in-Some.u c.args.h = pred_succ c.args.g.now.edges c.in-Some.u c.args.h (passed_first _ _ _ c.in-Some.u _ c.in-Some.ensures.steps c.loop-u.invariant.so_far.passed) in
    let iff = back_iff (HasEdge c.args.g.now) c.args.g.now.entry (λ x. number_of (mark_of c.args.marks.now x)) c.requires.in_post_order c.in-Some.u c.args.h
    (c.len-count.ensures.flow.reached c.in-Some.u (c.len-count.ensures.flow.source c.in-Some.u c.args.h edge)) edge in
    rw c.in_ok-push.ensures.items (record {
      can = tt;
      ends = tt;
      so_far = back_more c.args.g.now c.args.g.now.entry c.args.h _ _ c.loop-u.backs.items c.in-Some.u c.in-Some.ensures.steps c.loop-u.invariant.so_far (iff.1 (omega (arith, c.if-number_at.true, c.number_at.ensures, c.number_at-in-loop-u.ensures)));
    })

pub loop-u-preserved : goal.loop-u-preserved
loop-u-preserved c =
    let edge : HasEdge c.args.g.now c.in-Some.u c.args.h = pred_succ c.args.g.now.edges c.in-Some.u c.args.h (passed_first _ _ _ c.in-Some.u _ c.in-Some.ensures.steps c.loop-u.invariant.so_far.passed) in
    let iff = back_iff (HasEdge c.args.g.now) c.args.g.now.entry (λ x. number_of (mark_of c.args.marks.now x)) c.requires.in_post_order c.in-Some.u c.args.h
    (c.len-count.ensures.flow.reached c.in-Some.u (c.len-count.ensures.flow.source c.in-Some.u c.args.h edge)) edge in
    record {
      can = tt;
      ends = tt;
      so_far = back_skip c.args.g.now c.args.g.now.entry c.args.h _ _ c.loop-u.backs.items c.in-Some.u c.in-Some.ensures.steps c.loop-u.invariant.so_far
          (λ b. let le = iff.0 b in absurd (omega (arith, le, c.if-number_at.false, c.number_at.ensures, c.number_at-in-loop-u.ensures)));
    }

pub returns : goal.returns
returns c = back_end c.args.g.now c.args.g.now.entry c.args.h _ c.loop-u.backs.items c.len-count.ensures.flow.source c.in-None.ensures.steps.0 c.loop-u.invariant.so_far
