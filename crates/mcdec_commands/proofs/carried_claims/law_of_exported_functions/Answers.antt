use Rattle.mcdec_commands.proofs.Scripted.{tells-claims}
use Rattle.mcdec_commands.proofs.carried_claims.law_of_exported_functions.Goals as goal

pub returns : goal.returns
returns c g funs wf free tells = tells-claims g funs tells wf free
