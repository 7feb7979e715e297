use Rattle.std.proofs.Common.{refl, sym, ap, subst, inl, length, arith}
use Rattle.group_text.specs.inner.Rows.{IsRow}
use Rattle.group_text.specs.inner.TextRows.{TextRowPosition}
use Rattle.group_text.proofs.RowAt.{behind-held}
use Rattle.group_text.proofs.text_rows.TextRowsRowsUnit.pass.Goals as goal

pub invariant_of-self : goal.invariant_of-self
invariant_of-self c =
    let h = behind-held c.self.inside.held.now c.self.inside.rest.now c.split_at.result.1.now (subst (λ (s : TextRowPosition). IsRow s.held) (sym c.self.view_is) c.requires) c.self.invariant.1 c.self.invariant.0 c.split_at.ensures.back in
    (h.lines, inl refl, omega (arith, h.shorter, c.self.invariant.2))

pub returns-clause-fewer : goal.returns-clause-fewer
returns-clause-fewer c =
    let h = behind-held c.self.inside.held.now c.self.inside.rest.now c.split_at.result.1.now (subst (λ (s : TextRowPosition). IsRow s.held) (sym c.self.view_is) c.requires) c.self.invariant.1 c.self.invariant.0 c.split_at.ensures.back in
    let same = ap (λ (s : TextRowPosition). length s.rest) c.self.view_is in
    omega (arith, h.shorter, same)
