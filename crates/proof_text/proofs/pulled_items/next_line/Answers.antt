use Rattle.std.proofs.Common.{ℕ, ◌+◌, Some, None, refl, ap, ◌∙◌}
use Rattle.std.specs.Prelude.{option_map}
use Rattle.proof_text.specs.inner.LineReaders.{turn_over}
use Rattle.group_text.specs.Version.{version_of}
use Rattle.group_text.specs.inner.Rows.{row_error}
use Rattle.group_text.proofs.Claims.{found-was, bad-was}
use Rattle.proof_text.specs.inner.PulledRows.{IfFile}
use Rattle.proof_text.specs.inner.Drawing.{draws_as}
use Rattle.proof_text.specs.inner.Pulling.{ReadFrom, StoppedAt, fault_lost}
use Rattle.proof_text.proofs.PullAnswers.{bad_so}
use Rattle.proof_text.proofs.LineJoins.{line-row}
use Rattle.proof_text.proofs.PullLemmas.{line_within, read_from, stopped_at, told_so}
use Rattle.proof_text.proofs.pulled_items.next_line.Goals as goal

pub returns-in-Ok-Some-clause-given : goal.returns-in-Ok-Some-clause-given
returns-in-Ok-Some-clause-given g c =
    λ ls kept are.
    let d = c.in-Ok-Some.ensures.lends in
    let all = found-was (g.W.ReadLines.tree c.args.own.now.ranges) (turn_over g.W.ReadLines.readers (version_of c.args.version) c.args.own.now.ranges ls) _ _ c.in-Ok-Some.field-0 (Some c.in-Ok-Some.line) c.in-Ok-Some.field-0-is (c.in-Ok-Some.ensures.gives ls kept (line-row g.W.ReadLines.readers (version_of c.args.version) c.requires.laws c.args.own.now.ranges c.requires.own ls are)) in
    told_so (g.S.Shelf.contents c.args.shelf.now) c.args.rows.now.lines.name _ (ReadFrom (turn_over g.W.ReadLines.readers (version_of c.args.version) c.args.own.now.ranges ls) (Some (g.W.ReadLines.tree c.args.own.now.ranges c.in-Ok-Some.line)) c.args.rows.now c.read_turn.new.rows)
    (λ files file is held last. read_from (g.S.Shelf.contents c.args.shelf.now) (g.S.Shelf.contents c.read_turn.new.from) c.args.rows.now c.read_turn.new.rows d.shelf.kept d.name (d.going refl ∙ c.requires.going) files file is held (turn_over g.W.ReadLines.readers (version_of c.args.version) c.args.own.now.ranges ls) last (Some (g.W.ReadLines.tree c.args.own.now.ranges c.in-Ok-Some.line)) all) (d.last refl)

pub returns-in-Ok-Some-clause-fits : goal.returns-in-Ok-Some-clause-fits
returns-in-Ok-Some-clause-fits g c =
    λ ls kept are.
    let d = c.in-Ok-Some.ensures.lends in
    let all = found-was (g.W.ReadLines.tree c.args.own.now.ranges) (turn_over g.W.ReadLines.readers (version_of c.args.version) c.args.own.now.ranges ls) _ _ c.in-Ok-Some.field-0 (Some c.in-Ok-Some.line) c.in-Ok-Some.field-0-is (c.in-Ok-Some.ensures.gives ls kept (line-row g.W.ReadLines.readers (version_of c.args.version) c.requires.laws c.args.own.now.ranges c.requires.own ls are)) in
    line_within (g.S.Shelf.contents c.args.shelf.now) (g.S.Shelf.contents c.read_turn.new.from) c.args.rows.now c.read_turn.new.rows d.shelf.kept d.name (d.going refl ∙ c.requires.going) (record { readers = g.W.ReadLines.readers; version = c.args.version; laws = c.requires.laws }) c.args.own.now.ranges c.requires.own ls are (g.W.ReadLines.tree c.args.own.now.ranges c.in-Ok-Some.line) all

pub returns-in-Ok-None-clause-end : goal.returns-in-Ok-None-clause-end
returns-in-Ok-None-clause-end g c =
    λ ls kept are.
    let d = c.in-Ok-None.ensures.lends in
    let all = found-was (g.W.ReadLines.tree c.args.own.now.ranges) (turn_over g.W.ReadLines.readers (version_of c.args.version) c.args.own.now.ranges ls) _ _ c.in-Ok-None.field-0 None c.in-Ok-None.field-0-is (c.in-Ok-None.ensures.gives ls kept (line-row g.W.ReadLines.readers (version_of c.args.version) c.requires.laws c.args.own.now.ranges c.requires.own ls are)) in
    told_so (g.S.Shelf.contents c.args.shelf.now) c.args.rows.now.lines.name _ (ReadFrom (turn_over g.W.ReadLines.readers (version_of c.args.version) c.args.own.now.ranges ls) None c.args.rows.now c.read_turn.new.rows)
    (λ files file is held last. read_from (g.S.Shelf.contents c.args.shelf.now) (g.S.Shelf.contents c.read_turn.new.from) c.args.rows.now c.read_turn.new.rows d.shelf.kept d.name (d.going refl ∙ c.requires.going) files file is held (turn_over g.W.ReadLines.readers (version_of c.args.version) c.args.own.now.ranges ls) last None all) (d.last refl)

pub returns-in-Err-clause-bad : goal.returns-in-Err-clause-bad
returns-in-Err-clause-bad g c =
    λ ls kept are.
    let d = c.in-Err.ensures.lends in
    bad_so c.fault_behind.result _ (λ (n : ℕ). IfFile (g.S.Shelf.contents c.args.shelf.now) c.args.rows.now.lines.name (StoppedAt (turn_over g.W.ReadLines.readers (version_of c.args.version) c.args.own.now.ranges ls) c.args.rows.now n))
    (λ n h. told_so (g.S.Shelf.contents c.args.shelf.now) c.args.rows.now.lines.name _ (StoppedAt (turn_over g.W.ReadLines.readers (version_of c.args.version) c.args.own.now.ranges ls) c.args.rows.now n)
    (λ files file is held last. stopped_at (g.S.Shelf.contents c.args.shelf.now) (g.S.Shelf.contents c.read_turn.new.from) c.args.rows.now c.read_turn.new.rows d.shelf.kept d.name (d.going (ap row_error h.0) ∙ c.requires.going) files file is held (turn_over g.W.ReadLines.readers (version_of c.args.version) c.args.own.now.ranges ls) d.taken n (h.1 ∙ ap (λ (k : ℕ). k + 1) c.passed.ensures) (bad-was (λ o. option_map (g.W.ReadLines.tree c.args.own.now.ranges) o) (turn_over g.W.ReadLines.readers (version_of c.args.version) c.args.own.now.ranges ls) _ _ c.in-Err.halt h.0 (c.in-Err.ensures.gives ls kept (line-row g.W.ReadLines.readers (version_of c.args.version) c.requires.laws c.args.own.now.ranges c.requires.own ls are)))) (d.last (ap row_error h.0)))
    c.fault_behind.ensures.bad

pub returns-in-Err-clause-draws : goal.returns-in-Err-clause-draws
returns-in-Err-clause-draws g c = draws_as (row_error c.in-Err.halt) (fault_lost c.fault_behind.result) c.fault_behind.ensures.lost c.in-Err.ensures.lends
