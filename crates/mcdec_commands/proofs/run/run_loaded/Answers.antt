use Rattle.mcdec_commands.proofs.SetUp.{image-given}
use Rattle.mcdec_commands.proofs.run.run_loaded.Goals as goal

pub returns-in-Ok : goal.returns-in-Ok
returns-in-Ok c args all h file loaded is =
    image-given file c.args.r.now.start.now c.args.r.now.until c.args.r.now.steps args c.in-Ok.start loaded.0 loaded.1 (c.in-Ok.ensures file is) c.run_image.result
    (c.run_image.ensures args all h file is)
