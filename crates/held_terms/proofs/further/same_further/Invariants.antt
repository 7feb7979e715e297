use Rattle.std.proofs.Common.{◌≡◌, map, drop}
use Rattle.std.specs.Prelude.{◌↔◌}
use Rattle.held_terms.specs.Held.{register_of}
use Rattle.frame_compose.specs.Rules.{further}
use Rattle.held_terms.proofs.further.same_further.Given as goal

abbrev pub invariant-loop-i : goal.invariant-loop-i
invariant-loop-i l =
    (further (map (register_of l.arena) l.own_a) (drop l.i (map (register_of l.arena) l.a)) ≡ further (map (register_of l.arena) l.own_b) (drop l.place (map (register_of l.arena) l.b)))
    ↔ (further (map (register_of l.arena) l.own_a) (map (register_of l.arena) l.a) ≡ further (map (register_of l.arena) l.own_b) (map (register_of l.arena) l.b))
