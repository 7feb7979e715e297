use Rattle.std.proofs.Common.{◌≡◌, ℕ, List, Option, Some, None, Result, Ok, Err, sym, ap, subst, ◌∙◌}
use Rattle.std.specs.Prelude.{IsErrOf}
use Rattle.mc_shelf.specs.Lines.{GivesFirstLine, LinesState, bytes_left, up_to_newline}
use Rattle.mc_shelf.specs.inner.OnlyReads.{OnlyReads}
use Rattle.mc_shelf.specs.declared.lines.LineFault.{LineFault}
use Rattle.mc_shelf.specs.declared.lines.LineFault.TheVariants as line
use Rattle.group_text.specs.declared.version.Version.{Version as Known}
use Rattle.proof_text.specs.inner.PulledRows.{IfFile}
use Rattle.proof_text.proofs.PullLemmas.{told_so}
use Rattle.proof_v2.specs.Titles.{named_version}
use Rattle.proof_v2.proofs.HeldVersions.{at-front, front-left, line-reads, named-line, named-nothing}
use Rattle.proof_v2.proofs.title.held_version.Goals as goal

ok-not : (v : Known) → Ok v ≡ Err line.Fault → ⊥
ok-not v e = cc

abbrev fault-of : Result Known LineFault → LineFault
fault-of (Ok v) = line.NoMemory
fault-of (Err f) = f

pub returns-in-Ok-Some-clause-named : goal.returns-in-Ok-Some-clause-named
returns-in-Ok-Some-clause-named g c =
    let told = g.S.Shelf.contents c.args.shelf.now in
    let gives : IfFile told c.args.name.now (λ file. GivesFirstLine (Some c.in-Ok-Some.line) (bytes_left (at-front c.args.name.now c.title_size-most.result) file) (bytes_left c.next.new.self file)) =
    subst (λ (l : LinesState). IfFile told l.name (λ file. GivesFirstLine (Some c.in-Ok-Some.line) (bytes_left l file) (bytes_left c.next.new.self file))) c.new-lines.ensures
    (subst (λ (o : Option (List ℕ)). IfFile told c.new-lines.result.name (λ file. GivesFirstLine o (bytes_left c.new-lines.result file) (bytes_left c.next.new.self file))) c.in-Ok-Some.field-0-is c.in-Ok-Some.ensures.line) in
    told_so told c.args.name.now _ _
    (λ files file is held k. c.named_version.ensures ∙ ap named_version (c.as_slice.ensures ∙ k.0 ∙ ap up_to_newline (front-left c.args.name.now c.title_size-most.result file)) ∙ named-line c.title_size-most.result c.args.size file c.title_size-most.ensures) gives

pub returns-in-Ok-None-clause-named : goal.returns-in-Ok-None-clause-named
returns-in-Ok-None-clause-named g c =
    let told = g.S.Shelf.contents c.args.shelf.now in
    let gives : IfFile told c.args.name.now (λ file. GivesFirstLine None (bytes_left (at-front c.args.name.now c.title_size-most.result) file) (bytes_left c.next.new.self file)) =
    subst (λ (l : LinesState). IfFile told l.name (λ file. GivesFirstLine None (bytes_left l file) (bytes_left c.next.new.self file))) c.new-lines.ensures
    (subst (λ (o : Option (List ℕ)). IfFile told c.new-lines.result.name (λ file. GivesFirstLine o (bytes_left c.new-lines.result file) (bytes_left c.next.new.self file))) c.in-Ok-None.field-0-is c.in-Ok-None.ensures.line) in
    told_so told c.args.name.now _ _
    (λ files file is held k. named-nothing c.title_size-most.result c.args.size file c.title_size-most.ensures (sym (front-left c.args.name.now c.title_size-most.result file) ∙ k.0)) gives

pub returns-in-Ok-Some-clause-shelf : goal.returns-in-Ok-Some-clause-shelf
returns-in-Ok-Some-clause-shelf g c =
    subst (λ (n : List ℕ). OnlyReads g.S.Shelf.contents g.S.Shelf.read_faults g.S.Shelf.write_faults g.S.Shelf.IsSure (Ok c.named_version.result ≡ Err line.Fault) n c.args.shelf.now c.next.new.shelf) (ap (λ (l : LinesState). l.name) c.new-lines.ensures)
    (line-reads g.S.Shelf.contents g.S.Shelf.read_faults g.S.Shelf.write_faults g.S.Shelf.IsSure c.next.result c.new-lines.result c.args.shelf.now c.next.new.shelf (ap (λ (l : LinesState). l.refused) c.new-lines.ensures) c.next.ensures.kept c.next.ensures.counted.0 c.next.ensures.writes c.next.ensures.cause c.next.ensures.stays_sure c.next.ensures.sure_fault c.next.ensures.sure_counts
    (Ok c.named_version.result ≡ Err line.Fault) (λ failed. absurd (ok-not c.named_version.result failed)))

pub returns-in-Ok-None-clause-shelf : goal.returns-in-Ok-None-clause-shelf
returns-in-Ok-None-clause-shelf g c =
    subst (λ (n : List ℕ). OnlyReads g.S.Shelf.contents g.S.Shelf.read_faults g.S.Shelf.write_faults g.S.Shelf.IsSure _ n c.args.shelf.now c.next.new.shelf) (ap (λ (l : LinesState). l.name) c.new-lines.ensures)
    (line-reads g.S.Shelf.contents g.S.Shelf.read_faults g.S.Shelf.write_faults g.S.Shelf.IsSure c.next.result c.new-lines.result c.args.shelf.now c.next.new.shelf (ap (λ (l : LinesState). l.refused) c.new-lines.ensures) c.next.ensures.kept c.next.ensures.counted.0 c.next.ensures.writes c.next.ensures.cause c.next.ensures.stays_sure c.next.ensures.sure_fault c.next.ensures.sure_counts
    _ (λ failed. absurd (ok-not _ failed)))

abbrev Fails : LineFault → Type 0
Fails f = IsErrOf {T = Known} (Err f) line.Fault

fault-is : (f : LineFault) → Fails f → f ≡ line.Fault
fault-is f failed = ap fault-of failed

pub returns-in-Err-clause-shelf : goal.returns-in-Err-clause-shelf
returns-in-Err-clause-shelf g c =
    subst (λ (n : List ℕ). OnlyReads g.S.Shelf.contents g.S.Shelf.read_faults g.S.Shelf.write_faults g.S.Shelf.IsSure (Fails c.in-Err.fault) n c.args.shelf.now c.next.new.shelf) (ap (λ (l : LinesState). l.name) c.new-lines.ensures)
    (line-reads g.S.Shelf.contents g.S.Shelf.read_faults g.S.Shelf.write_faults g.S.Shelf.IsSure c.next.result c.new-lines.result c.args.shelf.now c.next.new.shelf (ap (λ (l : LinesState). l.refused) c.new-lines.ensures) c.next.ensures.kept c.next.ensures.counted.0 c.next.ensures.writes c.next.ensures.cause c.next.ensures.stays_sure c.next.ensures.sure_fault c.next.ensures.sure_counts
    (Fails c.in-Err.fault) (λ failed. c.in-Err.is ∙ ap (λ (f : LineFault). Err f) (fault-is c.in-Err.fault failed)))
