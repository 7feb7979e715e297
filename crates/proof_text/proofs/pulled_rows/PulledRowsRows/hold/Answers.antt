use Rattle.std.proofs.Common.{◌≡◌, [], List, ℕ, None, Some, Ok, Option, Result, IfSome, ap, subst}
use Rattle.mc_shelf.specs.Lines.{AllGiven, GivesFirstLine, bytes_left}
use Rattle.mc_shelf.specs.declared.lines.LineFault.{LineFault}
use Rattle.group_text.specs.inner.Rows.{IsRow, RowPosition}
use Rattle.group_text.specs.declared.read_error.RowError.TheVariants as row
use Rattle.proof_text.specs.inner.PulledRows.{PulledState, IsTail, IsPulledPlace, Draws, IfFile, held_bytes}
use Rattle.proof_text.proofs.Drawn.{drew_error, drew_line, drew_none, held-of, none-of, not-refused, row_error_of, tail-of}
use Rattle.proof_text.proofs.Pulled.{begins_with_held, ends_in_tail, line_was_pulled, line_is_held, with_lines}
use Rattle.proof_text.proofs.pulled_rows.PulledRowsRows.hold.Goals as goal

not-none : (result : Result (Option (List ℕ)) LineFault) (given : Option (List ℕ)) (line : List ℕ) → result ≡ Ok given → given ≡ Some line → result ≡ Ok None → ⊥
not-none result given line e is none = absurd cc

pub returns-then-is_some-clause-holds : goal.returns-then-is_some-clause-holds
returns-then-is_some-clause-holds g c =
    let row : IsRow c.args.self.now.held = subst (λ (s : PulledState). IsRow s.held) c.self.view_is (held-of c.self.inside.held c.if-is_some.ensures c.self.invariant.0) in
    (row, begins_with_held (g.S.Shelf.contents c.args.from.now) c.args.self.now row)

pub returns-then-is_some-2-clause-holds : goal.returns-then-is_some-2-clause-holds
returns-then-is_some-2-clause-holds g c =
    let none : c.args.self.now.held ≡ [] = subst (λ (s : PulledState). s.held ≡ []) c.self.view_is (none-of c.self.inside.held c.if-is_some.ensures) in
    let tail : IsTail c.args.self.now.tail = subst (λ (s : PulledState). IsTail s.tail) c.self.view_is (tail-of c.self.inside.tail c.if-is_some-2.ensures c.self.invariant.1) in
    ends_in_tail (g.S.Shelf.contents c.args.from.now) c.args.self.now none tail

pub returns-in-Ok-Some-clause-kept : goal.returns-in-Ok-Some-clause-kept
returns-in-Ok-Some-clause-kept g c =
    let told = g.S.Shelf.contents c.args.from.now in
    let now = g.S.Shelf.contents c.next.new.shelf in
    let before : PulledState = record { lines = c.self.inside.lines; held = held_bytes c.self.inside.held; tail = held_bytes c.self.inside.tail; taken = c.self.inside.taken } in
    let going : before.lines.refused ≡ None = not-refused before.lines.refused c.next.result c.in-Ok-Some.field-0 c.in-Ok-Some.is c.next.ensures.again in
    let more : AllGiven before.lines → ⊥ = λ all. not-none c.next.result c.in-Ok-Some.field-0 c.in-Ok-Some.line c.in-Ok-Some.is c.in-Ok-Some.field-0-is (c.next.ensures.all_given going all) in
    let gives : IfSome told (λ files. IfSome (files before.lines.name) (λ file. GivesFirstLine (Some c.in-Ok-Some.line) (bytes_left before.lines file) (bytes_left c.next.new.self file))) =
    subst (λ (o : Option (List ℕ)). IfSome told (λ files. IfSome (files before.lines.name) (λ file. GivesFirstLine o (bytes_left before.lines file) (bytes_left c.next.new.self file)))) c.in-Ok-Some.field-0-is c.in-Ok-Some.ensures.line in
    let shown = line_was_pulled told now before c.keep.new.self c.next.new.self c.in-Ok-Some.line c.keep.result c.next.ensures.kept (none-of c.self.inside.held c.if-is_some.ensures) (none-of c.self.inside.tail c.if-is_some-2.ensures) going c.next.ensures.same.0 more c.keep.ensures gives in
    subst (λ (s : PulledState). (p : RowPosition) → IsPulledPlace now c.keep.new.self p → IsPulledPlace told s p) c.self.view_is shown

pub returns-in-Ok-Some-clause-holds : goal.returns-in-Ok-Some-clause-holds
returns-in-Ok-Some-clause-holds g c =
    let before : PulledState = record { lines = c.self.inside.lines; held = held_bytes c.self.inside.held; tail = held_bytes c.self.inside.tail; taken = c.self.inside.taken } in
    line_is_held (g.S.Shelf.contents c.next.new.shelf) (with_lines before c.next.new.self) c.keep.new.self c.in-Ok-Some.line c.keep.result (none-of c.self.inside.held c.if-is_some.ensures) c.keep.ensures

pub returns-in-Ok-Some-clause-lends : goal.returns-in-Ok-Some-clause-lends
returns-in-Ok-Some-clause-lends g c =
    let before : PulledState = record { lines = c.self.inside.lines; held = held_bytes c.self.inside.held; tail = held_bytes c.self.inside.tail; taken = c.self.inside.taken } in
    let going = not-refused before.lines.refused c.next.result c.in-Ok-Some.field-0 c.in-Ok-Some.is c.next.ensures.again in
    let gives : IfFile (g.S.Shelf.contents c.args.from.now) before.lines.name (λ file. GivesFirstLine (Some c.in-Ok-Some.line) (bytes_left before.lines file) (bytes_left c.next.new.self file)) =
    subst (λ (o : Option (List ℕ)). IfFile (g.S.Shelf.contents c.args.from.now) before.lines.name (λ file. GivesFirstLine o (bytes_left before.lines file) (bytes_left c.next.new.self file))) c.in-Ok-Some.field-0-is c.in-Ok-Some.ensures.line in
    subst (λ (s : PulledState). Draws g.S.Shelf.contents g.S.Shelf.read_faults g.S.Shelf.write_faults g.S.Shelf.IsSure None s c.args.from.now c.keep.new.self c.next.new.shelf) c.self.view_is
    (drew_line g.S.Shelf.contents g.S.Shelf.read_faults g.S.Shelf.write_faults g.S.Shelf.IsSure c.next.result before c.next.new.self c.args.from.now c.next.new.shelf c.next.ensures.kept c.next.ensures.counted.0 c.next.ensures.writes c.next.ensures.cause c.next.ensures.stays_sure c.next.ensures.sure_fault c.next.ensures.sure_counts c.next.ensures.same
    going c.in-Ok-Some.ensures.ok c.in-Ok-Some.line c.keep.result c.keep.new.self (none-of c.self.inside.held c.if-is_some.ensures) (none-of c.self.inside.tail c.if-is_some-2.ensures) c.keep.ensures gives)

pub returns-in-Ok-None-clause-lends : goal.returns-in-Ok-None-clause-lends
returns-in-Ok-None-clause-lends g c =
    let before : PulledState = record { lines = c.self.inside.lines; held = held_bytes c.self.inside.held; tail = held_bytes c.self.inside.tail; taken = c.self.inside.taken } in
    let going = not-refused before.lines.refused c.next.result c.in-Ok-None.field-0 c.in-Ok-None.is c.next.ensures.again in
    let gives : IfFile (g.S.Shelf.contents c.args.from.now) before.lines.name (λ file. GivesFirstLine None (bytes_left before.lines file) (bytes_left c.next.new.self file)) =
    subst (λ (o : Option (List ℕ)). IfFile (g.S.Shelf.contents c.args.from.now) before.lines.name (λ file. GivesFirstLine o (bytes_left before.lines file) (bytes_left c.next.new.self file))) c.in-Ok-None.field-0-is c.in-Ok-None.ensures.line in
    subst (λ (s : PulledState). Draws g.S.Shelf.contents g.S.Shelf.read_faults g.S.Shelf.write_faults g.S.Shelf.IsSure None s c.args.from.now (with_lines before c.next.new.self) c.next.new.shelf) c.self.view_is
    (drew_none g.S.Shelf.contents g.S.Shelf.read_faults g.S.Shelf.write_faults g.S.Shelf.IsSure c.next.result before c.next.new.self c.args.from.now c.next.new.shelf c.next.ensures.kept c.next.ensures.counted.0 c.next.ensures.writes c.next.ensures.cause c.next.ensures.stays_sure c.next.ensures.sure_fault c.next.ensures.sure_counts c.next.ensures.same
    going c.in-Ok-None.ensures.ok (none-of c.self.inside.held c.if-is_some.ensures) (none-of c.self.inside.tail c.if-is_some-2.ensures) gives)

pub returns-in-Err-Fault-clause-lends : goal.returns-in-Err-Fault-clause-lends
returns-in-Err-Fault-clause-lends g c =
    let before : PulledState = record { lines = c.self.inside.lines; held = held_bytes c.self.inside.held; tail = held_bytes c.self.inside.tail; taken = c.self.inside.taken } in
    subst (λ (s : PulledState). Draws g.S.Shelf.contents g.S.Shelf.read_faults g.S.Shelf.write_faults g.S.Shelf.IsSure (Some row.Fault) s c.args.from.now (with_lines before c.next.new.self) c.next.new.shelf) c.self.view_is
    (drew_error g.S.Shelf.contents g.S.Shelf.read_faults g.S.Shelf.write_faults g.S.Shelf.IsSure c.next.result before c.next.new.self c.args.from.now c.next.new.shelf c.next.ensures.kept c.next.ensures.counted.0 c.next.ensures.writes c.next.ensures.cause c.next.ensures.stays_sure c.next.ensures.sure_fault c.next.ensures.sure_counts c.next.ensures.same
    c.in-Err-Fault.field-0 c.in-Err-Fault.is row.Fault (ap row_error_of c.in-Err-Fault.field-0-is))

pub returns-in-Err-NoMemory-clause-lends : goal.returns-in-Err-NoMemory-clause-lends
returns-in-Err-NoMemory-clause-lends g c =
    let before : PulledState = record { lines = c.self.inside.lines; held = held_bytes c.self.inside.held; tail = held_bytes c.self.inside.tail; taken = c.self.inside.taken } in
    subst (λ (s : PulledState). Draws g.S.Shelf.contents g.S.Shelf.read_faults g.S.Shelf.write_faults g.S.Shelf.IsSure (Some row.NoMemory) s c.args.from.now (with_lines before c.next.new.self) c.next.new.shelf) c.self.view_is
    (drew_error g.S.Shelf.contents g.S.Shelf.read_faults g.S.Shelf.write_faults g.S.Shelf.IsSure c.next.result before c.next.new.self c.args.from.now c.next.new.shelf c.next.ensures.kept c.next.ensures.counted.0 c.next.ensures.writes c.next.ensures.cause c.next.ensures.stays_sure c.next.ensures.sure_fault c.next.ensures.sure_counts c.next.ensures.same
    c.in-Err-NoMemory.field-0 c.in-Err-NoMemory.is row.NoMemory (ap row_error_of c.in-Err-NoMemory.field-0-is))
