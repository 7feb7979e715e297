use Rattle.std.proofs.Common.{sym, ◌∙◌}
use Rattle.rvc.proofs.RangeLemmas.{compressed_named, compressed_ranges, expanded_decodes}
use Rattle.rvc.proofs.expansion.decode_compressed.Goals as goal

pub returns-clause-expanded : goal.returns-clause-expanded
returns-clause-expanded c = c.compressed_instruction.ensures ∙ sym (expanded_decodes c.args.h)

pub returns-clause-registers : goal.returns-clause-registers
returns-clause-registers c = compressed_named c.args.h c.compressed_instruction.result c.compressed_instruction.ensures

pub returns-clause-ranges : goal.returns-clause-ranges
returns-clause-ranges c = compressed_ranges c.args.h c.compressed_instruction.result c.compressed_instruction.ensures
