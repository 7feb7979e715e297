use Rattle.decompiler.proofs.Accepted.{all-accepted, all-printed}
use Rattle.stack_split.specs.Listing.{split_form}
use Rattle.stack_split.proofs.laws.law_of_split_items.Goals as goal

pub returns-clause-accepted : goal.returns-clause-accepted
returns-clause-accepted c file names p readable items = record { readable = readable; each = all-accepted split_form file names p.items items }

pub returns-clause-text : goal.returns-clause-text
returns-clause-text c file names p items = all-printed split_form file names p.items items
