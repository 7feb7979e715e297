use Rattle.checker.proofs.ShortVerdicts.{none_given}
use Rattle.checker.proofs.short_check.judge_image.Goals as goal

pub judge_source-requires-clause-given : goal.judge_source-requires-clause-given
judge_source-requires-clause-given c = none_given c.args.reader.now c.requires.given
