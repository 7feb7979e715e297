use Rattle.std.proofs.Common.{sym, ◌∙◌}
use Rattle.std.proofs.lemmas.Bool.{eqb-true, eqb-false}
use Rattle.mc_text.specs.Tokens.{Atom}
use Rattle.mc_text.proofs.AtomAhead.{no-gap-at, no-bytes-at, atom-passed, passed-atom, none-ahead}
use Rattle.mc_text.proofs.Parentheses.{passed-last}
use Rattle.mc_text.proofs.scan.Scan.atom_ahead.Goals as goal

pub returns-in-None-clause-none : goal.returns-in-None-clause-none
returns-in-None-clause-none c = none-ahead c.args.self.now (no-gap-at c.self.inside.before c.self.inside.rest.now c.self.inside.line c.args.self.now c.self.view_is c.in-None.ensures.none)

pub returns-then-is_empty-clause-none : goal.returns-then-is_empty-clause-none
returns-then-is_empty-clause-none c =
    none-ahead c.args.self.now (no-bytes-at c.self.inside.before c.self.inside.rest.now c.self.inside.line c.args.self.now c.self.view_is c.in-Some.bytes.now c.atom_at.result.0.now c.atom_at.result.1.now
    c.in-Some.ensures.parts c.atom_at.ensures.parts (eqb-true _ _ (sym c.is_empty.ensures ∙ c.if-is_empty.true)) c.atom_at.ensures.whole)

pub returns-else-is_empty-clause-passes : goal.returns-else-is_empty-clause-passes
returns-else-is_empty-clause-passes c =
    atom-passed c.self.inside.before c.self.inside.rest.now c.self.inside.line c.args.self.now c.self.view_is c.in-Some.bytes.now c.atom_at.result.0.now c.atom_at.result.1.now
    c.in-Some.ensures.parts c.atom_at.ensures.parts (eqb-false _ _ (sym c.is_empty.ensures ∙ c.if-is_empty.false)) c.atom_at.ensures.fits c.atom_at.ensures.whole

pub returns-else-is_empty-clause-ahead : goal.returns-else-is_empty-clause-ahead
returns-else-is_empty-clause-ahead c = passed-atom _ _ _ (returns-else-is_empty-clause-passes c)

pub returns-else-is_empty-clause-last : goal.returns-else-is_empty-clause-last
returns-else-is_empty-clause-last c = passed-last (Atom c.atom_at.result.0.now) _ _ (λ e. cc) (returns-else-is_empty-clause-passes c)
