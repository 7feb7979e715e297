use Rattle.std.proofs.Common.{subst}
use Rattle.std.specs.Prelude.{All}
use Rattle.decompiler.specs.inner.CodeBytes.{HasBytes}
use Rattle.decompiler.proofs.ByteLemmas.{code_small}
use Rattle.decompiler.proofs.bytes.law_of_bytes.Goals as goal

pub returns : goal.returns
returns c = code_small c.args.image.now.pieces (subst (All HasBytes) c.pieces.ensures.pieces c.law_of_each.ensures)
