use Rattle.std.proofs.Common.{subst}
use Rattle.group_text.specs.declared.version.Version.{Version as Known}
use Rattle.proof_v2.specs.AnyVerdicts.{SaysIn}
use Rattle.proof_v2.specs.Titles.{any_version}
use Rattle.proof_v2.proofs.AnyVerdicts.{accepted-in, verdict-comes-in}
use Rattle.proof_v2.proofs.check.check_any_bytes.Goals as goal

pub returns-clause-verdict : goal.returns-clause-verdict
returns-clause-verdict c = subst (λ (k : Known). SaysIn k c.args.elf.now c.args.proof.now c.check_in.result) c.any_version.ensures c.check_in.ensures

pub returns-clause-headline : goal.returns-clause-headline
returns-clause-headline c = accepted-in (any_version c.args.proof.now) c.args.elf.now c.args.proof.now c.check_in.result (returns-clause-verdict c)

pub returns-clause-exact : goal.returns-clause-exact
returns-clause-exact c v says = verdict-comes-in (any_version c.args.proof.now) c.args.elf.now c.args.proof.now c.check_in.result (returns-clause-verdict c) v says
