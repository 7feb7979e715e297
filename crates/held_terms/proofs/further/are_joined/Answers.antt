use Rattle.std.proofs.Common.{map, sym, ap, ◌∙◌}
use Rattle.term_arena.specs.Arena.{mem_of}
use Rattle.frame_compose.proofs.Walks.{joined-on, joined-prefix, joined-rest_after}
use Rattle.held_terms.proofs.further.are_joined.Goals as goal

pub returns-then-same_mems : goal.returns-then-same_mems
returns-then-same_mems c =
    let here = c.same_mems.ensures.0 c.if-same_mems.true ∙ ap (map (mem_of c.args.arena.now)) c.prefix.ensures in (
      λ yes. joined-on (mem_of c.args.arena.now) c.args.first.now c.args.all.now (map (mem_of c.args.arena.now) c.args.second.now) here (c.same_mems-then-same_mems.ensures.0 yes ∙ ap (map (mem_of c.args.arena.now)) c.rest_after.ensures),
      λ e. c.same_mems-then-same_mems.ensures.1 (joined-rest_after (mem_of c.args.arena.now) c.args.first.now c.args.all.now (map (mem_of c.args.arena.now) c.args.second.now) e ∙ ap (map (mem_of c.args.arena.now)) (sym c.rest_after.ensures)),
    )

pub returns-else-same_mems : goal.returns-else-same_mems
returns-else-same_mems c = (
  λ yes. absurd (cc),
  λ e. c.same_mems.ensures.1 (joined-prefix (mem_of c.args.arena.now) c.args.first.now c.args.all.now (map (mem_of c.args.arena.now) c.args.second.now) e ∙ ap (map (mem_of c.args.arena.now)) (sym c.prefix.ensures)),
)
