use Rattle.std.proofs.Common.{◌≡◌, ◌≤◌, ◌-◌, map, take, length, Some}
use Rattle.elf_image.specs.Image.{code_in}
use Rattle.rvc.specs.Number.{number_in}
use Rattle.flow_graph.proofs.graph.numbers.Given as goal

abbrev pub invariant-nodes : goal.invariant-nodes
invariant-nodes l = (l.i ≤ length l.nodes) × (map (λ w. Some w) l.numbers.items ≡ map (number_in (code_in l.image.pieces)) (take l.i l.nodes))

abbrev pub decreases-nodes : goal.decreases-nodes
decreases-nodes l = length l.nodes - l.i
