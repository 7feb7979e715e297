use Rattle.loop_forest.specs.Forest.{number_of}
use Rattle.loop_forest.proofs.AddressLemmas.{graph_in_post_order}
use Rattle.loop_forest.proofs.OneForest.{no_many, one_head}
use Rattle.loop_forest.proofs.laws.law_of_one_forest.Goals as goal

pub returns : goal.returns
returns c = record {
  no_two_entries = λ g f flow is t. graph_in_post_order g (number_of f) flow is.in_post_order t;
  no_many_exits = λ g f a flow is m. no_many g f a is m;
  one_head = one_head;
}
