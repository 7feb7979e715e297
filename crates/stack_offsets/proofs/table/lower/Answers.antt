use Rattle.std.proofs.Common.{Some, sym, subst, Bool}
use Rattle.std.proofs.Math.ListN.{set}
use Rattle.stack_offsets.specs.inner.Rows.{Lowers, offsets_of}
use Rattle.stack_offsets.proofs.RowLemmas.{lowers_first, lowers_more}
use Rattle.stack_offsets.proofs.table.lower.Goals as goal

pub returns-in-None : goal.returns-in-None
returns-in-None c = lowers_first c.args.rows.now c.args.v c.args.from.now c.requires.node c.in-None.is c.requires.few

pub returns-then-fell : goal.returns-then-fell
returns-then-fell c =
    subst (λ (b : Bool). Lowers c.args.rows.now c.args.v (offsets_of c.args.from.now) (set c.args.rows.now c.args.v (Some c.keep-fell.new.self)) b) (sym c.if-fell.true)
    (lowers_more c.args.rows.now c.args.v c.in-Some.row c.keep-fell.new.self (offsets_of c.args.from.now) c.requires.node c.in-Some.is c.keep-fell.ensures.kept (c.keep-fell.ensures.less c.if-fell.true))
