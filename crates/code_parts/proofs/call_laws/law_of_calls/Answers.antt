use Rattle.flow_graph.specs.Walks.{Stop}
use Rattle.code_parts.proofs.Calling.{one_more}
use Rattle.code_parts.proofs.OneAnswer.{least_closed}
use Rattle.code_parts.proofs.call_laws.law_of_calls.Goals as goal

pub returns : goal.returns
returns c = record { entry = λ code e. Stop; closed = λ code e f t w d. one_more code w d; least = λ code e f has w t closed. least_closed code has closed w t }
