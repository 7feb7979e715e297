use Rattle.std.proofs.Common.{List, ℕ, [], None, false, sym, subst}
use Rattle.proof_text.specs.LineGrammar.{whole_lines}
use Rattle.proof_text.specs.FirstProofs.{HasGiven}
use Rattle.proof_text.specs.Pulling.{progress_in}
use Rattle.proof_text.specs.inner.PulledRows.{PulledState}
use Rattle.proof_text.proofs.PullCalls.{fresh_given}
use Rattle.proof_text.proofs.pull.Pull.of_version.Goals as goal

pub returns-clause-given : goal.returns-clause-given
returns-clause-given c =
    subst (λ (r : PulledState). (file : List ℕ) → HasGiven [] (progress_in (record { version = c.args.version; rows = r; place = 0; ended = false; refused = None }) file)) (sym c.new-rows.ensures)
    (fresh_given whole_lines c.args.version c.args.lines c.requires)
