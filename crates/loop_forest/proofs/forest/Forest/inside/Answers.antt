use Rattle.std.proofs.Common.{◌≡◌, length, sym, ◌∙◌, ap, arith}
use Rattle.loop_forest.specs.Forest.{ForestOf}
use Rattle.loop_forest.proofs.SmallestLoop.{heads_long}
use Rattle.loop_forest.proofs.ForestLemmas.{front_or_in, inside_at}
use Rattle.loop_forest.proofs.forest.Forest.inside.Goals as goal

pub returns : goal.returns
returns c =
    let loops = c.self.inside.loops.items in
    let long : length c.args.self.now.heads ≡ length loops = ap (λ (f : ForestOf). length f.heads) (sym c.self.view_is) ∙ heads_long loops in
    let at = inside_at loops c.args.l c.index.result.now (omega (arith, c.requires, long)) in
    let front = front_or_in c.index.result.now.body.head c.index.result.now.body.nodes c.args.n in
    rw (← c.self.view_is) (rw at (rw (← c.index.ensures)
    ((λ t. front.1 (c.has.ensures.0 t)), (λ d. c.has.ensures.1 (front.0 d)))))
