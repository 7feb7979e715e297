use Rattle.group_text.proofs.RowAt.{first-held, text-holds}
use Rattle.group_text.proofs.text_rows.TextRowsRowsUnit.hold.Goals as goal

pub invariant_of-self : goal.invariant_of-self
invariant_of-self c = (c.self.invariant.0, first-held c.held_or_first-self-inside.result.now c.self.inside.rest.now c.held_or_first-self-inside.ensures, c.self.invariant.2)

pub returns-clause-holds : goal.returns-clause-holds
returns-clause-holds c = text-holds c.held_or_first-self-inside.result.now c.self.inside.rest.now c.self.inside.taken c.is_empty.result c.held_or_first-self-inside.ensures c.is_empty.ensures
