use Rattle.std.proofs.Common.{ℕ, List as Items}
use Rattle.word_terms.specs.declared.code.Code.{Code}
use Rattle.group_text.specs.inner.Heads.{head_of}
use Rattle.group_text.specs.Version.{version_of}
use Rattle.group_text.specs.inner.GroupRows.{more_head}
use Rattle.group_text.proofs.BodyJoins.{passed-on}
use Rattle.group_text.proofs.GroupJoins.{Regs, Mems, Ranges, head-first, head-second, head-third, head-ok}
use Rattle.group_text.proofs.RowLawsOf.{regs-row, mems-row, code-row}
use Rattle.group_text.proofs.group.read_head.Goals as goal

abbrev regs_view : Items ℕ → Regs
regs_view regs = (tt, (regs, tt))

abbrev mems_view : ℕ → Mems
mems_view mems = (tt, (mems, tt))

abbrev code_view : Code → Ranges
code_view code = (tt, (code.ranges, tt))

pub returns-in_err-regs-clause-gives : goal.returns-in_err-regs-clause-gives
returns-in_err-regs-clause-gives g c = passed-on head_of c.in_err-regs.field-0.0 c.from_residual.result _ _ (more_head (version_of c.args.version) c.args.name) c.from_residual.ensures.1 (head-first (version_of c.args.version) c.args.name _ _ regs_view head_of c.in_err-regs.field-0.0 (c.in_err-regs.ensures.gives regs-row))

pub returns-in_err-mems-clause-gives : goal.returns-in_err-mems-clause-gives
returns-in_err-mems-clause-gives g c = passed-on head_of c.in_err-mems.field-0.0 c.from_residual-in_err-mems.result _ _ (more_head (version_of c.args.version) c.args.name) c.from_residual-in_err-mems.ensures.1
    (head-second (version_of c.args.version) c.args.name _ _ mems_view head_of c.in_err-mems.field-0.0 _ (regs_view c.in_ok-regs.regs) (c.in_ok-regs.ensures.gives regs-row) (c.in_err-mems.ensures.gives (mems-row c.args.version)))

pub returns-in_err-code-clause-gives : goal.returns-in_err-code-clause-gives
returns-in_err-code-clause-gives g c = passed-on head_of c.in_err-code.field-0.0 c.from_residual-in_err-code.result _ _ (more_head (version_of c.args.version) c.args.name) c.from_residual-in_err-code.ensures.1
    (head-third (version_of c.args.version) c.args.name _ _ code_view head_of c.in_err-code.field-0.0 _ _ (regs_view c.in_ok-regs.regs) (mems_view c.in_ok-mems.mems) (c.in_ok-regs.ensures.gives regs-row) (c.in_ok-mems.ensures.gives (mems-row c.args.version)) (c.in_err-code.ensures.gives code-row))

pub returns-clause-gives : goal.returns-clause-gives
returns-clause-gives g c = head-ok (version_of c.args.version) c.args.name _ _ _ _ (regs_view c.in_ok-regs.regs) (mems_view c.in_ok-mems.mems) (code_view c.in_ok-code.code) (c.in_ok-regs.ensures.gives regs-row) (c.in_ok-mems.ensures.gives (mems-row c.args.version)) (c.in_ok-code.ensures.gives code-row)
