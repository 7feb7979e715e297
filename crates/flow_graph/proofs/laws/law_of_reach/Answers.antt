use Rattle.flow_graph.specs.Walks.{Stop}
use Rattle.flow_graph.proofs.ExactLemmas.{reached_closed}
use Rattle.flow_graph.proofs.GraphLaws.{least_test}
use Rattle.flow_graph.proofs.laws.law_of_reach.Goals as goal

pub returns : goal.returns
returns c = record { entry = λ linked code e. Stop; closed = reached_closed; least = λ linked code e a has w t closed. least_test linked code has closed w t }
