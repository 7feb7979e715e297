use Rattle.verdicts.proofs.KeptLemmas.{accepted-headline}
use Rattle.proof_v2.proofs.check.check_split.Goals as goal

pub returns-clause-headline : goal.returns-clause-headline
returns-clause-headline c = accepted-headline c.args.elf.now c.args.proof.now c.check_text.result c.check_text.ensures.verdict
