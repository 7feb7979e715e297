use Rattle.verdicts.specs.Further.{further_of}
use Rattle.verdicts.proofs.CheckLemmas.{accepted-headline, whole-comes}
use Rattle.verdicts.proofs.SoundLemmas.{further-keeps}
use Rattle.checker.proofs.check.check_image.Goals as goal

pub returns-clause-headline : goal.returns-clause-headline
returns-clause-headline c elf readable is = λ few.
    accepted-headline (further_of c.args.version) (further-keeps c.args.version) c.args.version few elf c.args.proof.now c.judge_image.result (c.judge_image.ensures.verdict elf readable is)

pub returns-clause-exact : goal.returns-clause-exact
returns-clause-exact c elf readable is =
    whole-comes (further_of c.args.version) c.args.version elf c.args.proof.now c.judge_image.result (c.judge_image.ensures.verdict elf readable is)
