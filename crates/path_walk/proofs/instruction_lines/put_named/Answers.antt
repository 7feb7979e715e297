use Rattle.std.proofs.Common.{refl}
use Rattle.path_walk.proofs.WriterLemmas.{restated_of}
use Rattle.path_walk.proofs.instruction_lines.put_named.Goals as goal

pub returns : goal.returns
returns c = restated_of _ _ _ _ _ _ _ _ _ _ _ _ refl refl c.in_ok-known.ensures c.in_ok-named.ensures refl c.in_ok-number.ensures.restated
