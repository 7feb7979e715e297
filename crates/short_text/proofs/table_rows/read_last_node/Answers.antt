use Rattle.std.proofs.Common.{◌≡◌, Ok, Err, subst}
use Rattle.mc_text.specs.Tokens.{Position}
use Rattle.mc_text.specs.Outcome.{Gives}
use Rattle.mc_text.specs.Scanning.{tokens_at}
use Rattle.mc_text.specs.inner.Reading.{eol}
use Rattle.short_text.proofs.Longer.{last-taken, last-stopped, nothing}
use Rattle.short_text.proofs.table_rows.read_last_node.Goals as goal

pub returns-in_err-eol-clause-gives : goal.returns-in_err-eol-clause-gives
returns-in_err-eol-clause-gives c =
    last-stopped c.args.table.now c.in_ok-node.node c.args.scan.now c.read_node.new.scan c.in_ok-node.ensures.gives c.eol.new.scan c.in_err-eol.field-0.0 c.from_residual-in_err-eol.result c.from_residual-in_err-eol.ensures.1
    (subst (λ (p : Position). Gives nothing (Err c.in_err-eol.field-0.0) p c.eol.new.scan eol) c.fork-behind.ensures c.in_err-eol.ensures.gives)

pub returns-clause-gives : goal.returns-clause-gives
returns-clause-gives c =
    last-taken c.args.table.now c.in_ok-node.node c.args.scan.now c.read_node.new.scan c.in_ok-node.ensures.gives c.eol.new.scan c.in_ok-put.ensures.1
    (subst (λ (p : Position). eol (tokens_at p) ≡ Ok (tt, tokens_at c.eol.new.scan)) c.fork-behind.ensures c.in_ok-eol.ensures.gives)
