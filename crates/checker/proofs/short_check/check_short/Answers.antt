use Rattle.checker.proofs.short_check.check_short.Goals as goal

pub returns-in-Ok-clause-headline : goal.returns-in-Ok-clause-headline
returns-in-Ok-clause-headline c = c.check_image.ensures.headline c.args.elf.now c.in-Ok.ensures.readable c.in-Ok.ensures.image

pub returns-in-Ok-clause-exact : goal.returns-in-Ok-clause-exact
returns-in-Ok-clause-exact c = c.check_image.ensures.exact c.args.elf.now c.in-Ok.ensures.readable c.in-Ok.ensures.image
