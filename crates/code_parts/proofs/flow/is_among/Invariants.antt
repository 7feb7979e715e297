use Rattle.std.proofs.Common.{◌≡◌, drop, eqb}
use Rattle.std.specs.List.{list_any}
use Rattle.code_parts.proofs.flow.is_among.Given as goal

abbrev pub invariant-loop-b : goal.invariant-loop-b
invariant-loop-b l = list_any (λ b. eqb b l.a) l.addresses ≡ list_any (λ b. eqb b l.a) (drop l.b-index l.addresses)
