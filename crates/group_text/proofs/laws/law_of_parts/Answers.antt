use Rattle.group_text.specs.Version.{version_1}
use Rattle.group_text.proofs.Parts.{text-apart}
use Rattle.group_text.proofs.laws.law_of_parts.Goals as goal

pub returns : goal.returns
returns c = text-apart version_1
