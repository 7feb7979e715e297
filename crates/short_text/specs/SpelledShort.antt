-- Lines of version 2 as they are spelled, without a copy of the group's own code.
use Rattle.std.specs.Prelude.{Bool, List}
use Rattle.rv_words.specs.declared.range.Range.{Range}
use Rattle.proof_text.specs.Line.{code_or_own}
use Rattle.short_text.specs.declared.short.Short.{Short}
use Rattle.short_text.specs.declared.short.Short.TheVariants as short
use Rattle.short_text.specs.declared.short.ShortLine.{ShortLine}
use Rattle.short_text.specs.declared.short.ShortLine.TheVariants.{Term, Proof}
use Rattle.short_text.specs.declared.short.SpelledShort.{SpelledShort}

-- the line of a proof: one that extends a theorem's code does so by such code
abbrev pub short_or_own : List Range → (all : Bool) → Short → Short
short_or_own own all (short.Axiom address word form) = short.Axiom address word form
short_or_own own all (short.Inst p words mems) = short.Inst p words mems
short_or_own own all (short.Frame p regs mems) = short.Frame p regs mems
short_or_own own all (short.ExtendCode p code) = short.ExtendCode p (record { ranges = code_or_own own all code.ranges })
short_or_own own all (short.Compose p q) = short.Compose p q
short_or_own own all (short.Strengthen p facts pre) = short.Strengthen p facts pre
short_or_own own all (short.Weaken p facts post) = short.Weaken p facts post
short_or_own own all (short.Discharge p facts) = short.Discharge p facts
short_or_own own all (short.UseExit def exit) = short.UseExit def exit
short_or_own own all (short.Loop def cited) = short.Loop def cited
short_or_own own all (short.Forget k) = short.Forget k

-- the line, with such code where it is one of the proof
abbrev pub short_line_or_own : List Range → (all : Bool) → ShortLine → ShortLine
short_line_or_own own all (Term n) = Term n
short_line_or_own own all (Proof s) = Proof (short_or_own own all s)

-- the line that is kept as it is spelled: it has the group's own code where `all` stands for that
abbrev pub spelled_short : List Range → SpelledShort → ShortLine
spelled_short own s = short_line_or_own own s.all s.line
