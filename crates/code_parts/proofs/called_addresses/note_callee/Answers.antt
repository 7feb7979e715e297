use Rattle.std.proofs.Common.{sym, ◌∙◌, subst, Option, ℕ}
use Rattle.code_parts.specs.inner.Finding.{NotesCallee}
use Rattle.code_parts.proofs.Noting.{noted_one}
use Rattle.code_parts.proofs.called_addresses.note_callee.Goals as goal

pub returns-in_ok-add : goal.returns-in_ok-add
returns-in_ok-add c = subst (λ (o : Option ℕ). NotesCallee o c.args.functions.now c.add.new.self) (sym c.in-Some.is ∙ c.call_at.ensures)
    (noted_one c.args.functions.now c.add.new.self c.in-Some.callee c.in_ok-add.field-0 c.in_ok-add.ensures.fresh c.in_ok-add.ensures.added)
