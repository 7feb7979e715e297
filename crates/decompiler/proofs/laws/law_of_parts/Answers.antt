use Rattle.decompiler.proofs.Runs.{law-of-part}
use Rattle.decompiler.proofs.laws.law_of_parts.Goals as goal

pub returns : goal.returns
returns c = law-of-part
