use Rattle.checker.proofs.ShortVerdicts.{short_comes, short_headline}
use Rattle.checker.proofs.short_check.check_image.Goals as goal

pub returns-clause-headline : goal.returns-clause-headline
returns-clause-headline c elf readable is = short_headline elf c.args.reader.now.text c.judge_image.result (c.judge_image.ensures.verdict elf readable is)

pub returns-clause-exact : goal.returns-clause-exact
returns-clause-exact c elf readable is = short_comes elf c.args.reader.now.text c.judge_image.result (c.judge_image.ensures.verdict elf readable is)
