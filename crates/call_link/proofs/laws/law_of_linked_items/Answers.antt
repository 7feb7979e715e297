use Rattle.decompiler.proofs.Accepted.{all-accepted, all-printed}
use Rattle.call_link.specs.Listing.{linked_form}
use Rattle.call_link.proofs.laws.law_of_linked_items.Goals as goal

pub returns-clause-accepted : goal.returns-clause-accepted
returns-clause-accepted c file names p readable items = record { readable = readable; each = all-accepted linked_form file names p.items items }

pub returns-clause-text : goal.returns-clause-text
returns-clause-text c file names p items = all-printed linked_form file names p.items items
