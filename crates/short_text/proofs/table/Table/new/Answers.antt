use Rattle.short_text.proofs.Longer.{no-parts}
use Rattle.short_text.proofs.table.Table.new.Goals as goal

pub invariant_of-result : goal.invariant_of-result
invariant_of-result c = no-parts _ _ _ c.new.ensures c.new-2.ensures c.new-3.ensures
