use Rattle.std.proofs.Common.{◌≡◌, ◌+◌, ◌-◌, arith, None}
use Rattle.code_parts.specs.declared.part.Part.TheVariants.{Rest}
use Rattle.code_parts.specs.Flows.{place_in}
use Rattle.code_parts.proofs.Placing.{whole-last}
use Rattle.code_parts.proofs.places.callee_of.Goals as goal

pub overflow_sub-result : goal.overflow_sub-result
overflow_sub-result c =
    let last = whole-last c.args.function.now c.requires.reached c.requires.forest c.requires.parts in
    omega (arith, last, c.requires.next)

pub returns : goal.returns
returns c =
    let last = whole-last c.args.function.now c.requires.reached c.requires.forest c.requires.parts in
    let place : c.args.next - 1 ≡ c.args.function.now.base + place_in c.args.function.now.parts (Rest None c.args.function.now.function.now.graph.entry) = omega (arith, last, c.requires.next) in
    λ i. record { entry = c.args.function.now.function.now.entry; def = place i; returns = c.returns.ensures i }
