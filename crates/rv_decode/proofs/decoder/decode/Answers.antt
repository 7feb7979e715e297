use Rattle.std.proofs.Common.{arith}
use Rattle.rv_decode.proofs.TableLemmas.{decoded_decodes}
use Rattle.rv_decode.proofs.EncodeLemmas.{decoded_named, decoded_ranges}
use Rattle.rv_decode.proofs.decoder.decode.Goals as goal

pub returns-clause-exactly : goal.returns-clause-exactly
returns-clause-exactly c = decoded_decodes c.args.w c.decode_word.result c.decode_word.ensures

pub returns-clause-registers : goal.returns-clause-registers
returns-clause-registers c = decoded_named c.args.w c.decode_word.result (omega arith) c.decode_word.ensures

pub returns-clause-ranges : goal.returns-clause-ranges
returns-clause-ranges c = decoded_ranges c.args.w c.decode_word.result (omega arith) c.decode_word.ensures
