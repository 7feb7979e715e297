use Rattle.std.proofs.Common.{true, [], ◌∷◌, ◌++◌, sym, subst}
use Rattle.short_text.specs.SpelledShort.{short_or_own}
use Rattle.short_text.specs.declared.short.ShortLine.{ShortLine}
use Rattle.short_text.specs.inner.ShortReaders.{AreKept}
use Rattle.short_text.proofs.KeptLaws.{kept-proof}
use Rattle.short_text.proofs.short_lines.ShortLinesReadLines.read.Goals as goal

pub returns-in_ok-line-2-clause-behind : goal.returns-in_ok-line-2-clause-behind
returns-in_ok-line-2-clause-behind c = λ before kept. subst (λ (l : ShortLine). AreKept (record { table = c.self.inside.table; begun = true }) (before ++ l ∷ [])) (sym c.in_ok-line-2.ensures)
    (kept-proof c.args.self.now c.self.inside.table c.self.inside.begun c.self.view_is before kept (short_or_own c.args.own.now.ranges c.in_ok-line.all c.in_ok-line.line))
