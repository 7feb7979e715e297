use Rattle.std.proofs.Common.{◌≡◌}
use Rattle.group_text.specs.declared.version.Version.TheVariants.{One}
use Rattle.text_tests.proofs.tests.reading.copy.Given as goal

abbrev pub invariant-loop : goal.invariant-loop
invariant-loop l = l.reader.version ≡ One
