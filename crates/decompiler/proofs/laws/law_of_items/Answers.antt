use Rattle.decompiler.specs.Listing.{alone_form}
use Rattle.decompiler.proofs.Accepted.{all-accepted, all-printed}
use Rattle.decompiler.proofs.laws.law_of_items.Goals as goal

pub returns-clause-accepted : goal.returns-clause-accepted
returns-clause-accepted c file names p readable items = record { readable = readable; each = all-accepted alone_form file names p.items items }

pub returns-clause-text : goal.returns-clause-text
returns-clause-text c file names p items = all-printed alone_form file names p.items items
