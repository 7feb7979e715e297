use Rattle.std.proofs.Common.{[]}
use Rattle.elf_image.specs.Image.{code_of_file}
use Rattle.claims.specs.Exact.{FirstReturns}
use Rattle.claims.specs.LinkExact.{FirstReturnsIn}
use Rattle.claims.specs.Turns.{InFirstMemory, RunsBack}
use Rattle.stack_offsets.specs.SplitExact.{UsesSplit}
use Rattle.mcdec_commands.proofs.Carried.{exact-in, right-in}
use Rattle.mcdec_commands.proofs.carried_claims.law_of_rewritten_functions.Goals as goal

pub returns-clause-right : goal.returns-clause-right
returns-clause-right c file g rs es are alike right = right-in file g rs es are alike right

pub returns-clause-exact : goal.returns-clause-exact
returns-clause-exact c file g rs es are alike exact = exact-in file g rs es are alike FirstReturns exact

pub returns-clause-linked : goal.returns-clause-linked
returns-clause-linked c file g rs es are alike exact =
    exact-in file g rs es are alike (RunsBack InFirstMemory) exact

pub returns-clause-split : goal.returns-clause-split
returns-clause-split c file g rs es e are alike exact =
    exact-in file g rs es are alike (FirstReturnsIn (UsesSplit (code_of_file file) e)) exact
