use Rattle.loop_forest.specs.Forest.{number_of}
use Rattle.loop_forest.proofs.AddressLemmas.{code_in_post_order, shows_code}
use Rattle.loop_forest.proofs.CodeEntries.{two_entries_back}
use Rattle.loop_forest.proofs.laws.law_of_two_entries.Goals as goal

pub returns : goal.returns
returns c = record {
  shown = shows_code;
  none = λ linked code e g f r is t. code_in_post_order linked code e g (number_of f) r is.in_post_order t;
  none_where_many = λ linked code e g a r m t. m.one_entry (two_entries_back linked code e g r t);
}
