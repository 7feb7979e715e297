use Rattle.std.proofs.Common.{map, ◌++◌, sym, ap, ◌∙◌}
use Rattle.term_arena.specs.Arena.{mem_of}
use Rattle.frame_compose.proofs.Walks.{rest_images}
use Rattle.held_terms.proofs.further.same_further_mems.Goals as goal

pub returns-else-are_joined : goal.returns-else-are_joined
returns-else-are_joined c = (
  λ yes. absurd (cc),
  λ e.
      let more = ap (map (mem_of c.args.arena.now)) c.rest_after-more.ensures ∙ sym (rest_images (mem_of c.args.arena.now) c.args.own_a.now c.args.a.now) in
      c.are_joined.ensures.1 ((λ i. map (mem_of c.args.arena.now) c.args.own_a.now ++ more i) ∙ e.0),
)
