use Rattle.std.proofs.Common.{◌<◌, ℕ, length, sym, subst, arith}
use Rattle.flow_graph.proofs.Ways.{node_at}
use Rattle.loop_forest.specs.inner.LoopOf.{NotesExits}
use Rattle.loop_forest.proofs.LoopNodes.{exits_to_head, exits_to_next, exits_all}
use Rattle.loop_forest.proofs.loops.exits_of.Goals as goal

pub nodes-init : goal.nodes-init
nodes-init c = exits_to_head c.args.g.now c.args.l.now.head c.args.l.now.nodes c.new-exits.result c.note_exits.new.exits c.new-exits.ensures c.in_ok-note_exits.ensures

pub note_exits-requires-in-nodes : goal.note_exits-requires-in-nodes
note_exits-requires-in-nodes c = subst (λ (z : ℕ). z < length c.args.g.now.addrs) (sym c.get.ensures) (c.requires.nodes _ (node_at c.args.l.now.nodes c.nodes.i (omega (arith, c.len.ensures.len))))

pub nodes-preserved : goal.nodes-preserved
nodes-preserved c = exits_to_next c.args.g.now c.args.l.now.head c.args.l.now.nodes c.nodes.exits c.note_exits-in-nodes.new.exits c.nodes.i (omega (arith, c.len.ensures.len)) c.nodes.invariant
    (subst (λ (z : ℕ). NotesExits c.args.g.now c.args.l.now.head c.args.l.now.nodes z c.nodes.exits c.note_exits-in-nodes.new.exits) c.get.ensures c.in_ok-note_exits-2.ensures)

pub returns : goal.returns
returns c = rw c.from_vec.ensures (exits_all c.args.g.now c.args.l.now.head c.args.l.now.nodes c.nodes.exits _ c.nodes.i (omega (arith, c.len.ensures.len)) c.nodes.invariant
    (λ x. (
      (λ d. (c.in_ok-rising.ensures.members x).1 (d, (let o = c.nodes.invariant.exit x d in let l = c.len-count.ensures.flow.within o.from x o.edge in omega (arith, l, c.len-count.ensures.len)))),
      (λ d. ((c.in_ok-rising.ensures.members x).0 d).0),
    ))
    c.in_ok-rising.ensures.rising)
