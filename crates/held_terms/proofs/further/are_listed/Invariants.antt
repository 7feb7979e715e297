use Rattle.std.proofs.Common.{◌≡◌, map, drop}
use Rattle.std.specs.Prelude.{◌↔◌}
use Rattle.held_terms.specs.Held.{register_of}
use Rattle.frame_compose.specs.Rules.{listed}
use Rattle.held_terms.proofs.further.are_listed.Given as goal

abbrev pub invariant-loop-i : goal.invariant-loop-i
invariant-loop-i l =
    (drop l.place (map (register_of l.arena) l.own) ≡ listed (map (register_of l.arena) l.own) (drop l.i (map (register_of l.arena) l.all)))
    ↔ (map (register_of l.arena) l.own ≡ listed (map (register_of l.arena) l.own) (map (register_of l.arena) l.all))
