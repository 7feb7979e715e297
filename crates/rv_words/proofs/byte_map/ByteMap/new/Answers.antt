use Rattle.rv_words.proofs.PieceLemmas.{map_of-none}
use Rattle.rv_words.proofs.byte_map.ByteMap.new.Goals as goal

pub returns : goal.returns
returns c = map_of-none c.new.result.items c.new.ensures.items
