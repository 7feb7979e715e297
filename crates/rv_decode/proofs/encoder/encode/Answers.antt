use Rattle.rv_decode.proofs.EncodeLemmas.{encoded_exactly, encoded_ranges, one_to_one}
use Rattle.rv_decode.proofs.encoder.encode.Goals as goal

pub returns-clause-exactly : goal.returns-clause-exactly
returns-clause-exactly c = let e = c.encode_instruction.ensures in encoded_exactly c.args.i.now c.encode_instruction.result e.value e.word

pub returns-clause-ranges : goal.returns-clause-ranges
returns-clause-ranges c = encoded_ranges c.args.i.now c.encode_instruction.result c.encode_instruction.ensures.value

pub returns-clause-one_to_one : goal.returns-clause-one_to_one
returns-clause-one_to_one c = one_to_one
