use Rattle.std.proofs.Common.{◌≡◌, ℕ, ◌+◌, true, false, List, Some, None, ◌⊎◌, inl, inr, refl, ap, ◌∙◌}
use Rattle.std.specs.Prelude.{option_map}
use Rattle.tailrec_lang.specs.Tree.{group_tree}
use Rattle.group_text.specs.inner.Reading.{turn_at}
use Rattle.group_text.specs.Version.{version_of}
use Rattle.group_text.specs.inner.Rows.{row_error}
use Rattle.group_text.proofs.Claims.{found-was, bad-was}
use Rattle.proof_text.specs.inner.PulledRows.{EndsSo, IfFile, not_passed}
use Rattle.proof_text.specs.inner.Drawing.{draws_as, draws_then}
use Rattle.proof_text.specs.inner.Pulling.{EndsBehind, ReadFrom, StoppedAt, fault_lost}
use Rattle.proof_text.proofs.PullAnswers.{bad_so, err_bad_so, held_at, none_ended, none_given}
use Rattle.proof_text.proofs.WholeLaws.{lines_known}
use Rattle.proof_text.proofs.PullLemmas.{group_within, read_from, stopped_at, told_so}
use Rattle.proof_text.proofs.pulled_items.next_group.Goals as goal

pub returns-in-Ok-Some-clause-given : goal.returns-in-Ok-Some-clause-given
returns-in-Ok-Some-clause-given g c =
    let d = c.in-Ok-Some.ensures.lends in
    let all = found-was group_tree (turn_at (version_of c.args.version) c.args.first) _ _ c.in-Ok-Some.field-0 (Some c.in-Ok-Some.group) c.in-Ok-Some.field-0-is c.in-Ok-Some.ensures.gives in
    told_so (g.S.Shelf.contents c.args.shelf.now) c.args.rows.now.lines.name _ (ReadFrom (turn_at (version_of c.args.version) c.args.first) (Some (group_tree c.in-Ok-Some.group)) c.args.rows.now c.read_turn.new.rows)
    (λ files file is held last. read_from (g.S.Shelf.contents c.args.shelf.now) (g.S.Shelf.contents c.read_turn.new.from) c.args.rows.now c.read_turn.new.rows d.shelf.kept d.name (d.going refl ∙ c.requires) files file is held (turn_at (version_of c.args.version) c.args.first) last (Some (group_tree c.in-Ok-Some.group)) all) (d.last refl)

pub returns-in-Ok-Some-clause-fits : goal.returns-in-Ok-Some-clause-fits
returns-in-Ok-Some-clause-fits g c =
    let d = c.in-Ok-Some.ensures.lends in
    let all = found-was group_tree (turn_at (version_of c.args.version) c.args.first) _ _ c.in-Ok-Some.field-0 (Some c.in-Ok-Some.group) c.in-Ok-Some.field-0-is c.in-Ok-Some.ensures.gives in
    group_within (g.S.Shelf.contents c.args.shelf.now) (g.S.Shelf.contents c.read_turn.new.from) c.args.rows.now c.read_turn.new.rows d.shelf.kept d.name (d.going refl ∙ c.requires) (lines_known c.args.version) c.args.first (group_tree c.in-Ok-Some.group) all

pub returns-in-Ok-None-clause-given : goal.returns-in-Ok-None-clause-given
returns-in-Ok-None-clause-given g c = none_given c.read_end.result _ c.read_end.ensures.none

pub returns-in-Ok-None-clause-fits : goal.returns-in-Ok-None-clause-fits
returns-in-Ok-None-clause-fits g c = none_given c.read_end.result _ c.read_end.ensures.none

pub returns-in-Ok-None-clause-fewer : goal.returns-in-Ok-None-clause-fewer
returns-in-Ok-None-clause-fewer g c = none_given c.read_end.result _ c.read_end.ensures.none

pub returns-in-Ok-None-clause-end : goal.returns-in-Ok-None-clause-end
returns-in-Ok-None-clause-end g c =
    let d = c.in-Ok-None.ensures.lends in
    let all = found-was group_tree (turn_at (version_of c.args.version) c.args.first) _ _ c.in-Ok-None.field-0 None c.in-Ok-None.field-0-is c.in-Ok-None.ensures.gives in
    none_ended c.read_end.result _ (IfFile (g.S.Shelf.contents c.args.shelf.now) c.args.rows.now.lines.name (λ (file : List ℕ). (n : ℕ) × EndsBehind (turn_at (version_of c.args.version) c.args.first) c.args.rows.now file n (EndsSo true)))
    (λ ends. told_so (g.S.Shelf.contents c.args.shelf.now) c.args.rows.now.lines.name _ (λ (file : List ℕ). (n : ℕ) × EndsBehind (turn_at (version_of c.args.version) c.args.first) c.args.rows.now file n (EndsSo true))
    (λ files file is held last. (
      c.read_turn.new.rows.taken,
      record {
        behind = c.read_turn.new.rows;
        read = read_from (g.S.Shelf.contents c.args.shelf.now) (g.S.Shelf.contents c.read_turn.new.from) c.args.rows.now c.read_turn.new.rows d.shelf.kept d.name (d.going refl ∙ c.requires) files file is held (turn_at (version_of c.args.version) c.args.first) last None all;
        taken_is = refl;
        left = held_at (g.S.Shelf.contents c.read_turn.new.from) c.read_turn.new.rows.lines.name (λ (file : List ℕ). EndsSo true (not_passed c.read_turn.new.rows file)) files file (d.shelf.kept ∙ is) (ap files d.name ∙ held) (ends (d.going refl ∙ c.requires));
      },
    )) (d.last refl))
    c.read_end.ensures.end

pub returns-in-Ok-None-clause-bad : goal.returns-in-Ok-None-clause-bad
returns-in-Ok-None-clause-bad g c =
    let d = c.in-Ok-None.ensures.lends in
    let all = found-was group_tree (turn_at (version_of c.args.version) c.args.first) _ _ c.in-Ok-None.field-0 None c.in-Ok-None.field-0-is c.in-Ok-None.ensures.gives in
    err_bad_so c.read_end.result _ (λ (n : ℕ). IfFile (g.S.Shelf.contents c.args.shelf.now) c.args.rows.now.lines.name (λ (file : List ℕ). StoppedAt (turn_at (version_of c.args.version) c.args.first) c.args.rows.now n file ⊎ ((m : ℕ) × (n ≡ m + 1) × EndsBehind (turn_at (version_of c.args.version) c.args.first) c.args.rows.now file m (EndsSo false))))
    (λ n more. told_so (g.S.Shelf.contents c.args.shelf.now) c.args.rows.now.lines.name _ (λ (file : List ℕ). StoppedAt (turn_at (version_of c.args.version) c.args.first) c.args.rows.now n file ⊎ ((m : ℕ) × (n ≡ m + 1) × EndsBehind (turn_at (version_of c.args.version) c.args.first) c.args.rows.now file m (EndsSo false)))
    (λ files file is held last. inr (
      c.read_turn.new.rows.taken,
      more.0,
      record {
        behind = c.read_turn.new.rows;
        read = read_from (g.S.Shelf.contents c.args.shelf.now) (g.S.Shelf.contents c.read_turn.new.from) c.args.rows.now c.read_turn.new.rows d.shelf.kept d.name (d.going refl ∙ c.requires) files file is held (turn_at (version_of c.args.version) c.args.first) last None all;
        taken_is = refl;
        left = held_at (g.S.Shelf.contents c.read_turn.new.from) c.read_turn.new.rows.lines.name (λ (file : List ℕ). EndsSo false (not_passed c.read_turn.new.rows file)) files file (d.shelf.kept ∙ is) (ap files d.name ∙ held) (more.1 (d.going refl ∙ c.requires));
      },
    )) (d.last refl))
    c.read_end.ensures.more

pub returns-in-Ok-None-clause-draws : goal.returns-in-Ok-None-clause-draws
returns-in-Ok-None-clause-draws g c = draws_then c.in-Ok-None.ensures.lends c.read_end.ensures.draws

pub returns-in-Err-clause-bad : goal.returns-in-Err-clause-bad
returns-in-Err-clause-bad g c =
    let d = c.in-Err.ensures.lends in
    bad_so c.fault_behind.result _ (λ (n : ℕ). IfFile (g.S.Shelf.contents c.args.shelf.now) c.args.rows.now.lines.name (λ (file : List ℕ). StoppedAt (turn_at (version_of c.args.version) c.args.first) c.args.rows.now n file ⊎ ((m : ℕ) × (n ≡ m + 1) × EndsBehind (turn_at (version_of c.args.version) c.args.first) c.args.rows.now file m (EndsSo false))))
    (λ n h. told_so (g.S.Shelf.contents c.args.shelf.now) c.args.rows.now.lines.name _ (λ (file : List ℕ). StoppedAt (turn_at (version_of c.args.version) c.args.first) c.args.rows.now n file ⊎ ((m : ℕ) × (n ≡ m + 1) × EndsBehind (turn_at (version_of c.args.version) c.args.first) c.args.rows.now file m (EndsSo false)))
    (λ files file is held last. inl (stopped_at (g.S.Shelf.contents c.args.shelf.now) (g.S.Shelf.contents c.read_turn.new.from) c.args.rows.now c.read_turn.new.rows d.shelf.kept d.name (d.going (ap row_error h.0) ∙ c.requires) files file is held (turn_at (version_of c.args.version) c.args.first) d.taken n (h.1 ∙ ap (λ (k : ℕ). k + 1) c.passed.ensures) (bad-was (λ o. option_map group_tree o) (turn_at (version_of c.args.version) c.args.first) _ _ c.in-Err.halt h.0 c.in-Err.ensures.gives))) (d.last (ap row_error h.0)))
    c.fault_behind.ensures.bad

pub returns-in-Err-clause-draws : goal.returns-in-Err-clause-draws
returns-in-Err-clause-draws g c = draws_as (row_error c.in-Err.halt) (fault_lost c.fault_behind.result) c.fault_behind.ensures.lost c.in-Err.ensures.lends
