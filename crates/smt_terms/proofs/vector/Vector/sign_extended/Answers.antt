use Rattle.std.proofs.Common.{◌≡◌, ℕ, ◌+◌, ◌-◌, ◌^◌, ◌∙◌, sym, ap}
use Rattle.smt_terms.proofs.Vectors.{extended_high}
use Rattle.smt_terms.proofs.vector.Vector.sign_extended.Goals as goal

pub returns-then-is_negative-clause-number : goal.returns-then-is_negative-clause-number
returns-then-is_negative-clause-number c =
    let w = c.args.self.width in
    let width : c.zero_extended.result.width ≡ w + c.args.k = c.zero_extended.ensures.width ∙ ap (λ (n : ℕ). n + c.args.k) c.not.ensures.width in
    let number : c.zero_extended.result.number ≡ 2 ^ w - 1 - c.args.self.number = c.zero_extended.ensures.number ∙ c.not.ensures.number in
    c.not-then-is_negative.ensures.number ∙ (λ j. 2 ^ width j - 1 - number j)
    ∙ extended_high c.args.k w c.args.self.number c.args.self.below (sym c.is_negative.ensures ∙ c.if-is_negative.true)
