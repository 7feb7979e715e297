use Rattle.std.proofs.Common.{◌≡◌, ℕ, ◌+◌, ◌-◌, ◌%◌, ◌^◌, ◌∙◌, ap, arith}
use Rattle.smt_terms.proofs.Vectors.{low_difference}
use Rattle.smt_terms.proofs.vector.Vector.neg.Goals as goal

pub returns-clause-number : goal.returns-clause-number
returns-clause-number c =
    let w = c.args.self.width in
    let m = 2 ^ w - c.args.self.number in
    let e : 0 + m ≡ m = omega arith in
    c.new.ensures.number ∙ low_difference 0 c.args.self.number w c.args.self.wide c.args.self.below ∙ ap (λ (n : ℕ). n % 2 ^ w) e
