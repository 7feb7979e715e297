use Rattle.mc_text.proofs.OneSpelling.{bytes-once, decimal-once, hex-once}
use Rattle.mc_text.proofs.laws.law_of_one_spelling.Goals as goal

pub returns-clause-decimals : goal.returns-clause-decimals
returns-clause-decimals c = decimal-once

pub returns-clause-hex_numbers : goal.returns-clause-hex_numbers
returns-clause-hex_numbers c = hex-once

pub returns-clause-bytes : goal.returns-clause-bytes
returns-clause-bytes c = bytes-once
