use Rattle.std.proofs.Common.{◌≡◌, ◌≢◌, ◌<◌, [], List, ℕ, None, Some, Option, IfSome, length, ap, subst}
use Rattle.mc_shelf.specs.Lines.{GivesFirstLine, bytes_left, up_to_newline}
use Rattle.group_text.specs.declared.read_error.RowError.TheVariants as row
use Rattle.group_text.specs.inner.Rows.{IsRow}
use Rattle.proof_text.specs.inner.PulledRows.{PulledState, IsTail, Draws, IfFile, held_bytes, not_passed}
use Rattle.proof_text.specs.inner.Drawing.{if_file}
use Rattle.proof_text.proofs.Drawn.{drew_error, drew_line, drew_none, held-of, line_is_left, none-of, not-refused, nothing_is_left, row_error_of, row_is_left, tail-of, tail_is_left}
use Rattle.proof_text.proofs.PullLemmas.{told_so}
use Rattle.proof_text.proofs.Pulled.{with_lines}
use Rattle.proof_text.proofs.pulled_rows.PulledRows.at_end.Goals as goal

pub returns-then-is_some-clause-told : goal.returns-then-is_some-clause-told
returns-then-is_some-clause-told g c =
    let row : IsRow c.args.self.now.held = subst (λ (s : PulledState). IsRow s.held) c.self.view_is (held-of c.self.inside.held c.if-is_some.ensures c.self.invariant.0) in
    λ going. if_file (g.S.Shelf.contents c.args.from.now) c.args.self.now.lines.name (λ file. not_passed c.args.self.now file ≢ []) (λ file. row_is_left c.args.self.now file row)

pub returns-then-is_some-2-clause-told : goal.returns-then-is_some-2-clause-told
returns-then-is_some-2-clause-told g c =
    let none : c.args.self.now.held ≡ [] = subst (λ (s : PulledState). s.held ≡ []) c.self.view_is (none-of c.self.inside.held c.if-is_some.ensures) in
    let tail : IsTail c.args.self.now.tail = subst (λ (s : PulledState). IsTail s.tail) c.self.view_is (tail-of c.self.inside.tail c.if-is_some-2.ensures c.self.invariant.1) in
    λ going. if_file (g.S.Shelf.contents c.args.from.now) c.args.self.now.lines.name (λ file. not_passed c.args.self.now file ≢ []) (λ file. tail_is_left c.args.self.now file none tail)

pub returns-in-Ok-Some-clause-told : goal.returns-in-Ok-Some-clause-told
returns-in-Ok-Some-clause-told g c =
    let before : PulledState = record { lines = c.self.inside.lines; held = held_bytes c.self.inside.held; tail = held_bytes c.self.inside.tail; taken = c.self.inside.taken } in
    let gives : IfFile (g.S.Shelf.contents c.args.from.now) before.lines.name (λ file. GivesFirstLine (Some c.in-Ok-Some.line) (bytes_left before.lines file) (bytes_left c.next.new.self file)) =
    subst (λ (o : Option (List ℕ)). IfFile (g.S.Shelf.contents c.args.from.now) before.lines.name (λ file. GivesFirstLine o (bytes_left before.lines file) (bytes_left c.next.new.self file))) c.in-Ok-Some.field-0-is c.in-Ok-Some.ensures.line in
    let alone : (0 < length c.in-Ok-Some.line) × (up_to_newline c.in-Ok-Some.line ≡ c.in-Ok-Some.line) = subst (λ (o : Option (List ℕ)). IfSome o (λ bytes. (0 < length bytes) × (up_to_newline bytes ≡ bytes))) c.in-Ok-Some.field-0-is c.in-Ok-Some.ensures.alone in
    subst (λ (s : PulledState). s.lines.refused ≡ None → IfFile (g.S.Shelf.contents c.args.from.now) s.lines.name (λ file. not_passed s file ≢ [])) c.self.view_is
    (λ going. told_so (g.S.Shelf.contents c.args.from.now) before.lines.name _ (λ file. not_passed before file ≢ [])
    (λ files file is held h. line_is_left before file (none-of c.self.inside.held c.if-is_some.ensures) (none-of c.self.inside.tail c.if-is_some-2.ensures) (bytes_left c.next.new.self file) c.in-Ok-Some.line alone.0 h) gives)

pub returns-in-Ok-None-clause-told : goal.returns-in-Ok-None-clause-told
returns-in-Ok-None-clause-told g c =
    let before : PulledState = record { lines = c.self.inside.lines; held = held_bytes c.self.inside.held; tail = held_bytes c.self.inside.tail; taken = c.self.inside.taken } in
    let gives : IfFile (g.S.Shelf.contents c.args.from.now) before.lines.name (λ file. GivesFirstLine None (bytes_left before.lines file) (bytes_left c.next.new.self file)) =
    subst (λ (o : Option (List ℕ)). IfFile (g.S.Shelf.contents c.args.from.now) before.lines.name (λ file. GivesFirstLine o (bytes_left before.lines file) (bytes_left c.next.new.self file))) c.in-Ok-None.field-0-is c.in-Ok-None.ensures.line in
    subst (λ (s : PulledState). s.lines.refused ≡ None → IfFile (g.S.Shelf.contents c.args.from.now) s.lines.name (λ file. not_passed s file ≡ [])) c.self.view_is
    (λ going. told_so (g.S.Shelf.contents c.args.from.now) before.lines.name _ (λ file. not_passed before file ≡ [])
    (λ files file is held h. nothing_is_left before file (none-of c.self.inside.held c.if-is_some.ensures) (none-of c.self.inside.tail c.if-is_some-2.ensures) (bytes_left c.next.new.self file) h) gives)

pub returns-in-Ok-Some-clause-draws : goal.returns-in-Ok-Some-clause-draws
returns-in-Ok-Some-clause-draws g c =
    let before : PulledState = record { lines = c.self.inside.lines; held = held_bytes c.self.inside.held; tail = held_bytes c.self.inside.tail; taken = c.self.inside.taken } in
    let going = not-refused before.lines.refused c.next.result c.in-Ok-Some.field-0 c.in-Ok-Some.is c.next.ensures.again in
    let gives : IfFile (g.S.Shelf.contents c.args.from.now) before.lines.name (λ file. GivesFirstLine (Some c.in-Ok-Some.line) (bytes_left before.lines file) (bytes_left c.next.new.self file)) =
    subst (λ (o : Option (List ℕ)). IfFile (g.S.Shelf.contents c.args.from.now) before.lines.name (λ file. GivesFirstLine o (bytes_left before.lines file) (bytes_left c.next.new.self file))) c.in-Ok-Some.field-0-is c.in-Ok-Some.ensures.line in
    subst (λ (s : PulledState). Draws g.S.Shelf.contents g.S.Shelf.read_faults g.S.Shelf.write_faults g.S.Shelf.IsSure None s c.args.from.now c.keep.new.self c.next.new.shelf) c.self.view_is
    (drew_line g.S.Shelf.contents g.S.Shelf.read_faults g.S.Shelf.write_faults g.S.Shelf.IsSure c.next.result before c.next.new.self c.args.from.now c.next.new.shelf c.next.ensures.kept c.next.ensures.counted.0 c.next.ensures.writes c.next.ensures.cause c.next.ensures.stays_sure c.next.ensures.sure_fault c.next.ensures.sure_counts c.next.ensures.same
    going c.in-Ok-Some.ensures.ok c.in-Ok-Some.line c.keep.result c.keep.new.self (none-of c.self.inside.held c.if-is_some.ensures) (none-of c.self.inside.tail c.if-is_some-2.ensures) c.keep.ensures gives)

pub returns-in-Ok-None-clause-draws : goal.returns-in-Ok-None-clause-draws
returns-in-Ok-None-clause-draws g c =
    let before : PulledState = record { lines = c.self.inside.lines; held = held_bytes c.self.inside.held; tail = held_bytes c.self.inside.tail; taken = c.self.inside.taken } in
    let going = not-refused before.lines.refused c.next.result c.in-Ok-None.field-0 c.in-Ok-None.is c.next.ensures.again in
    let gives : IfFile (g.S.Shelf.contents c.args.from.now) before.lines.name (λ file. GivesFirstLine None (bytes_left before.lines file) (bytes_left c.next.new.self file)) =
    subst (λ (o : Option (List ℕ)). IfFile (g.S.Shelf.contents c.args.from.now) before.lines.name (λ file. GivesFirstLine o (bytes_left before.lines file) (bytes_left c.next.new.self file))) c.in-Ok-None.field-0-is c.in-Ok-None.ensures.line in
    subst (λ (s : PulledState). Draws g.S.Shelf.contents g.S.Shelf.read_faults g.S.Shelf.write_faults g.S.Shelf.IsSure None s c.args.from.now (with_lines before c.next.new.self) c.next.new.shelf) c.self.view_is
    (drew_none g.S.Shelf.contents g.S.Shelf.read_faults g.S.Shelf.write_faults g.S.Shelf.IsSure c.next.result before c.next.new.self c.args.from.now c.next.new.shelf c.next.ensures.kept c.next.ensures.counted.0 c.next.ensures.writes c.next.ensures.cause c.next.ensures.stays_sure c.next.ensures.sure_fault c.next.ensures.sure_counts c.next.ensures.same
    going c.in-Ok-None.ensures.ok (none-of c.self.inside.held c.if-is_some.ensures) (none-of c.self.inside.tail c.if-is_some-2.ensures) gives)

pub returns-in-Err-Fault-clause-draws : goal.returns-in-Err-Fault-clause-draws
returns-in-Err-Fault-clause-draws g c =
    let before : PulledState = record { lines = c.self.inside.lines; held = held_bytes c.self.inside.held; tail = held_bytes c.self.inside.tail; taken = c.self.inside.taken } in
    subst (λ (s : PulledState). Draws g.S.Shelf.contents g.S.Shelf.read_faults g.S.Shelf.write_faults g.S.Shelf.IsSure (Some row.Fault) s c.args.from.now (with_lines before c.next.new.self) c.next.new.shelf) c.self.view_is
    (drew_error g.S.Shelf.contents g.S.Shelf.read_faults g.S.Shelf.write_faults g.S.Shelf.IsSure c.next.result before c.next.new.self c.args.from.now c.next.new.shelf c.next.ensures.kept c.next.ensures.counted.0 c.next.ensures.writes c.next.ensures.cause c.next.ensures.stays_sure c.next.ensures.sure_fault c.next.ensures.sure_counts c.next.ensures.same
    c.in-Err-Fault.field-0 c.in-Err-Fault.is row.Fault (ap row_error_of c.in-Err-Fault.field-0-is))

pub returns-in-Err-NoMemory-clause-draws : goal.returns-in-Err-NoMemory-clause-draws
returns-in-Err-NoMemory-clause-draws g c =
    let before : PulledState = record { lines = c.self.inside.lines; held = held_bytes c.self.inside.held; tail = held_bytes c.self.inside.tail; taken = c.self.inside.taken } in
    subst (λ (s : PulledState). Draws g.S.Shelf.contents g.S.Shelf.read_faults g.S.Shelf.write_faults g.S.Shelf.IsSure (Some row.NoMemory) s c.args.from.now (with_lines before c.next.new.self) c.next.new.shelf) c.self.view_is
    (drew_error g.S.Shelf.contents g.S.Shelf.read_faults g.S.Shelf.write_faults g.S.Shelf.IsSure c.next.result before c.next.new.self c.args.from.now c.next.new.shelf c.next.ensures.kept c.next.ensures.counted.0 c.next.ensures.writes c.next.ensures.cause c.next.ensures.stays_sure c.next.ensures.sure_fault c.next.ensures.sure_counts c.next.ensures.same
    c.in-Err-NoMemory.field-0 c.in-Err-NoMemory.is row.NoMemory (ap row_error_of c.in-Err-NoMemory.field-0-is))
