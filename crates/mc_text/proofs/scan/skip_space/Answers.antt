use Rattle.std.proofs.Common.{ap, sym, ◌∙◌}
use Rattle.mc_text.specs.Scanning.{lex, At}
use Rattle.mc_text.proofs.Atoms.{space-lex}
use Rattle.mc_text.proofs.scan.skip_space.Goals as goal

pub returns-in-len1-up-clause-same : goal.returns-in-len1-up-clause-same
returns-in-len1-up-clause-same c = space-lex c.args.bytes.now c.in-len1-up.len_at_least c.if-first-eq32.true ∙ ap (λ m. lex c.args.bytes.now (At m)) (sym c.in-Later.is)
