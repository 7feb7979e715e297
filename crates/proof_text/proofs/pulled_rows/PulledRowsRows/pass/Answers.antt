use Rattle.std.proofs.Common.{◌≡◌, ◌-◌, length, None, ap, subst, sym, arith}
use Rattle.group_text.specs.inner.Rows.{IsRow, RowPosition, Passed}
use Rattle.proof_text.specs.inner.PulledRows.{PulledState, IsPulledPlace, Draws, held_bytes}
use Rattle.proof_text.proofs.Drawn.{drew_pass}
use Rattle.proof_text.proofs.Pulled.{row_length, row_was_passed, passed_of}
use Rattle.proof_text.proofs.pulled_rows.PulledRowsRows.pass.Goals as goal

pub overflow_add-self : goal.overflow_add-self
overflow_add-self g c =
    let some = row_length c.args.self.now.held c.requires in
    let held : length (held_bytes c.self.inside.held) ≡ length c.args.self.now.held = ap (λ (s : PulledState). length s.held) c.self.view_is in
    omega (arith, some, held, c.self.invariant.2, c.self.invariant.3)

pub invariant_of-self : goal.invariant_of-self
invariant_of-self g c =
    let some = row_length c.args.self.now.held c.requires in
    let held : length (held_bytes c.self.inside.held) ≡ length c.args.self.now.held = ap (λ (s : PulledState). length s.held) c.self.view_is in
    (tt, c.self.invariant.1, omega (arith, some, held, c.self.invariant.2), c.self.invariant.3)

pub returns-clause-fewer : goal.returns-clause-fewer
returns-clause-fewer g c =
    let some = row_length c.args.self.now.held c.requires in
    let left : c.self.inside.lines.size - c.self.inside.lines.given ≡ c.args.self.now.lines.size - c.args.self.now.lines.given = ap (λ (s : PulledState). s.lines.size - s.lines.given) c.self.view_is in
    omega (arith, some, left)

pub returns-clause-passed : goal.returns-clause-passed
returns-clause-passed g c =
    let told = g.S.Shelf.contents c.args._from.now in
    let before : PulledState = record { lines = c.self.inside.lines; held = held_bytes c.self.inside.held; tail = held_bytes c.self.inside.tail; taken = c.self.inside.taken } in
    let row : IsRow before.held = subst (λ (s : PulledState). IsRow s.held) (sym c.self.view_is) c.requires in
    subst (λ (s : PulledState). (q : RowPosition) → IsPulledPlace told (passed_of before) q → (p : RowPosition) × IsPulledPlace told s p × Passed s.held p q) c.self.view_is (row_was_passed told before row)

pub returns-clause-lends : goal.returns-clause-lends
returns-clause-lends g c =
    let before : PulledState = record { lines = c.self.inside.lines; held = held_bytes c.self.inside.held; tail = held_bytes c.self.inside.tail; taken = c.self.inside.taken } in
    let row : IsRow before.held = subst (λ (s : PulledState). IsRow s.held) (sym c.self.view_is) c.requires in
    subst (λ (s : PulledState). Draws g.S.Shelf.contents g.S.Shelf.read_faults g.S.Shelf.write_faults g.S.Shelf.IsSure None s c.args._from.now (passed_of before) c.args._from.now) c.self.view_is (drew_pass g.S.Shelf.contents g.S.Shelf.read_faults g.S.Shelf.write_faults g.S.Shelf.IsSure before c.args._from.now row)
