use Rattle.std.proofs.Common.{◌≡◌, ◌+◌, ◌-◌, ◌*◌, ◌≤◌, ◌^◌, get_or, ◌∙◌, drop, Fits, w8, refl, sym, ap, subst, arith}
use Rattle.rv_words.specs.Bytes.{number_of}
use Rattle.rv_words.proofs.PieceLemmas.{IsNumberFrom, number-none, number-more}
use Rattle.rv_words.proofs.pieces.number.Goals as goal

pub loop-left-init : goal.loop-left-init
loop-left-init c = number-none c.args.bytes.now

-- a byte in front of the number leaves room
room : (c : goal.In-loop-left) → 256 * c.loop-left.number + 256 ≤ 2 ^ 64
room c =
    let bs = c.args.bytes.now in
    (number-more bs c.loop-left.left c.loop-left.number (get_or bs (c.loop-left.left - 1) 0) c.requires c.loop-left-test.true c.loop-left.invariant refl (c.type_inv.bytes (c.loop-left.left - 1))).0

pub overflow_mul-number : goal.overflow_mul-number
overflow_mul-number c = omega (arith, room c)

pub bounds-bytes-left : goal.bounds-bytes-left
bounds-bytes-left c = omega (arith, c.loop-left.invariant.within, c.loop-left-test.true)

more : (c : goal.After-from) → (256 * c.loop-left.number + 256 ≤ 2 ^ 64) × IsNumberFrom c.args.bytes.now (c.loop-left.left - 1) (256 * c.loop-left.number + c.from.result)
more c =
    let low : Fits w8 c.from.result = subst (Fits w8) (sym c.from.ensures) (c.type_inv.bytes (c.loop-left.left - 1)) in
    number-more c.args.bytes.now c.loop-left.left c.loop-left.number c.from.result c.requires c.loop-left-test.true c.loop-left.invariant c.from.ensures low

pub overflow_add-number : goal.overflow_add-number
overflow_add-number c =
    let low : Fits w8 c.from.result = subst (Fits w8) (sym c.from.ensures) (c.type_inv.bytes (c.loop-left.left - 1)) in
    omega (arith, low, (more c).0)

pub loop-left-preserved : goal.loop-left-preserved
loop-left-preserved c = (more c).1

pub returns : goal.returns
returns c =
    let none : c.loop-left.left ≡ 0 = omega (arith, c.loop-left-test.false) in
    c.loop-left.invariant.is ∙ ap (λ i. number_of (drop i c.args.bytes.now)) none
