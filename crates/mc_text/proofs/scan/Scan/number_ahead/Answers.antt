use Rattle.std.proofs.Common.{arith}
use Rattle.std.specs.Fmt.{decimal}
use Rattle.mc_text.specs.Tokens.{Atom}
use Rattle.mc_text.proofs.Numbers.{number_of-again}
use Rattle.mc_text.proofs.AtomAhead.{spelled-passed, passed-atom}
use Rattle.mc_text.proofs.Parentheses.{passed-last}
use Rattle.mc_text.proofs.Shown.{decimal-atom}
use Rattle.mc_text.proofs.scan.Scan.number_ahead.Goals as goal

pub returns-clause-passes : goal.returns-clause-passes
returns-clause-passes c =
    spelled-passed c.self.inside.before c.self.inside.rest.now c.self.inside.line c.args.self.now c.self.view_is c.in_ok-bytes.bytes.now (decimal c.in_ok-number.number) c.in_ok-number.rest.now
    c.in_ok-bytes.ensures.parts c.in_ok-number.ensures.parts (decimal-atom c.in_ok-number.number (omega (arith, c.in_ok-number.ensures.small))) c.in_ok-number.ensures.whole

pub returns-clause-number : goal.returns-clause-number
returns-clause-number c = number_of-again 10 c.in_ok-number.number (omega arith) (omega arith) (omega (arith, c.in_ok-number.ensures.small))

pub returns-clause-ahead : goal.returns-clause-ahead
returns-clause-ahead c = passed-atom _ _ _ (returns-clause-passes c)

pub returns-clause-last : goal.returns-clause-last
returns-clause-last c = passed-last (Atom (decimal c.in_ok-number.number)) _ _ (λ e. cc) (returns-clause-passes c)
