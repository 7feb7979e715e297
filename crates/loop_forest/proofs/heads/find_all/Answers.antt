use Rattle.std.proofs.Common.{◌+◌, ◌<◌, ◌≤◌, length, arith}
use Rattle.loop_forest.specs.inner.LoopOf.{IsLoopOf}
use Rattle.loop_forest.proofs.DepthFirstInvariant.{some_holds, none_holds}
use Rattle.loop_forest.proofs.FoundLemmas.{loops_more, loops_skip, looped, many_of}
use Rattle.loop_forest.proofs.heads.find_all.Goals as goal
use Rattle.loop_forest.proofs.heads.find_all.Goals.{in-Some+in_ok-exits+else-len-gt-LOOP_EXIT_LIMIT+in_ok-push, in_default}

pub returns-then-len-gt-LOOP_EXIT_LIMIT : goal.returns-then-len-gt-LOOP_EXIT_LIMIT
returns-then-len-gt-LOOP_EXIT_LIMIT c =
    let l = some_holds c.in_ok-body.field-0 (λ b. IsLoopOf c.args.g.now c.args.g.now.entry c.heads.h b.head b.nodes) c.in-Some.body c.in-Some.is c.in_ok-body.ensures.some in
    let over : 8 < length c.in_ok-exits.exits = omega (arith, c.if-len-gt-LOOP_EXIT_LIMIT.true, c.len.ensures) in
    many_of c.args.g.now c.heads.loops.items c.heads.h c.in-Some.body.head c.in-Some.body.nodes c.in_ok-exits.exits c.heads.invariant.loops l c.in_ok-exits.ensures over

pub heads-preserved : goal.heads-preserved
heads-preserved c =
    let up : c.heads.h + 1 ≤ length c.args.g.now.addrs = omega (arith, c.heads-test.true, c.len-count.ensures.len) in
    elim c.match-branch-2.branch [
      | in-Some+in_ok-exits+else-len-gt-LOOP_EXIT_LIMIT+in_ok-push w ↦
          let l = some_holds c.in_ok-body.field-0 (λ b. IsLoopOf c.args.g.now c.args.g.now.entry c.heads.h b.head b.nodes) w.in-Some.body w.in-Some.is c.in_ok-body.ensures.some in
          let few : length w.in_ok-exits.exits ≤ 8 = omega (arith, w.if-len-gt-LOOP_EXIT_LIMIT.false, w.len.ensures) in
          rw w.loops-is (rw w.in_ok-push.ensures.items (record {
            loops = loops_more c.args.g.now c.heads.loops.items c.heads.h _ c.heads.invariant.loops
                (looped c.args.g.now c.heads.h w.in-Some.body.head w.in-Some.body.nodes w.in_ok-exits.exits l w.in_ok-exits.ensures few) l.head_is;
            upto = up;
          }))
      | in_default w ↦ rw w.loops-is (record {
        loops = loops_skip c.args.g.now c.heads.loops.items c.heads.h c.heads.invariant.loops (none_holds c.in_ok-body.field-0 _ w.in_default.is c.in_ok-body.ensures.none);
        upto = up;
      })
    ]
