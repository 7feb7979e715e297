use Rattle.code_parts.proofs.Contexts.{word_stands}
use Rattle.code_parts.proofs.flow.Flow.word.Goals as goal

pub returns-clause-stands : goal.returns-clause-stands
returns-clause-stands c = word_stands _ _ _ _ _ c.self.invariant _ c.self.view_is c.args.n c.requires
