use Rattle.std.proofs.Common.{◌≡◌, ◌+◌, drop}
use Rattle.code_parts.specs.Flows.{place_in}
use Rattle.code_parts.proofs.flow.place_of.Given as goal

abbrev pub invariant-loop-q : goal.invariant-loop-q
invariant-loop-q l = record { count : l.place ≡ l.q-index; rest : place_in l.parts l.p ≡ l.place + place_in (drop l.q-index l.parts) l.p }
