use Rattle.std.proofs.Common.{◌≡◌, ℕ, ◌+◌, Bool, true, false, Option, None, inl, inr, refl, sym, ap, subst, ◌∙◌}
use Rattle.tailrec_lang.specs.declared.group.Group.{Group}
use Rattle.group_text.specs.declared.read_error.RowError.{RowError}
use Rattle.proof_text.specs.inner.PulledRows.{Draws, EndsSo, IfFile, not_passed}
use Rattle.proof_text.specs.inner.Drawing.{draws_as}
use Rattle.proof_text.specs.inner.Pulling.{pull_lost}
use Rattle.proof_text.proofs.PullAnswers.{bad_so, err_bad_so, ok_so}
use Rattle.proof_text.proofs.pulled_items.read_end.Goals as goal

pub returns-in-Ok-clause-none : goal.returns-in-Ok-clause-none
returns-in-Ok-clause-none g c = ok_so c.none_at.result _ (λ (found : Option Group). found ≡ None) (λ found h. h.0) c.none_at.ensures.end

pub returns-in-Ok-clause-end : goal.returns-in-Ok-clause-end
returns-in-Ok-clause-end g c =
    ok_so c.none_at.result _ (λ (found : Option Group). c.args.rows.now.lines.refused ≡ None → IfFile (g.S.Shelf.contents c.args.shelf.now) c.args.rows.now.lines.name (λ file. EndsSo true (not_passed c.args.rows.now file)))
    (λ found h. subst (λ (b : Bool). c.args.rows.now.lines.refused ≡ None → IfFile (g.S.Shelf.contents c.args.shelf.now) c.args.rows.now.lines.name (λ file. EndsSo b (not_passed c.args.rows.now file))) h.1 c.in-Ok.ensures.told)
    c.none_at.ensures.end

pub returns-in-Ok-clause-more : goal.returns-in-Ok-clause-more
returns-in-Ok-clause-more g c =
    err_bad_so c.none_at.result _ (λ (n : ℕ). (n ≡ c.args.rows.now.taken + 1) × (c.args.rows.now.lines.refused ≡ None → IfFile (g.S.Shelf.contents c.args.shelf.now) c.args.rows.now.lines.name (λ file. EndsSo false (not_passed c.args.rows.now file))))
    (λ n h. (
      h.1 ∙ ap (λ (k : ℕ). k + 1) c.passed-taken.ensures,
      subst (λ (b : Bool). c.args.rows.now.lines.refused ≡ None → IfFile (g.S.Shelf.contents c.args.shelf.now) c.args.rows.now.lines.name (λ file. EndsSo b (not_passed c.args.rows.now file))) h.0 c.in-Ok.ensures.told,
    ))
    c.none_at.ensures.more

pub returns-in-Ok-clause-draws : goal.returns-in-Ok-clause-draws
returns-in-Ok-clause-draws g c = draws_as None (pull_lost c.none_at.result) (elim c.none_at.ensures.lost [ inl same ↦ inl same | inr full ↦ inr (refl, full) ]) c.in-Ok.ensures.draws

pub returns-in-Err-clause-more : goal.returns-in-Err-clause-more
returns-in-Err-clause-more g c = bad_so c.fault_of_loss.result _ _ (λ n h. absurd h) c.fault_of_loss.ensures.bad

pub returns-in-Err-clause-draws : goal.returns-in-Err-clause-draws
returns-in-Err-clause-draws g c =
    subst (λ (o : Option RowError). Draws g.S.Shelf.contents g.S.Shelf.read_faults g.S.Shelf.write_faults g.S.Shelf.IsSure o c.args.rows.now c.args.shelf.now c.at_end.new.self c.at_end.new.from) (sym c.fault_of_loss.ensures.lost) c.in-Err.ensures.draws
