use Rattle.std.proofs.Common.{sym}
use Rattle.rvc.proofs.RangeLemmas.{expanded_decodes}
use Rattle.rvc.proofs.TableLemmas.{expanded-Expands}
use Rattle.rvc.proofs.laws.law_of_expansion.Goals as goal

pub returns-clause-one : goal.returns-clause-one
returns-clause-one c = expanded-Expands

pub returns-clause-decodes : goal.returns-clause-decodes
returns-clause-decodes c = λ h. sym (expanded_decodes h)
