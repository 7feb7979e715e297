-- The further rule of a text, by its version.
use Rattle.group_text.specs.declared.version.Version.{Version as Known}
use Rattle.group_text.specs.declared.version.Version.TheVariants.{One, Two, Three, Four}
use Rattle.frame_compose.specs.Rules.{IsExchanged, IsSteered}
use Rattle.verdicts.specs.Instance.{FurtherRule, no_rule}

-- version 1 has none, version 3 has `steer`, and version 4 `exchange`
abbrev pub further_of : Known → FurtherRule
further_of One = no_rule
further_of Two = no_rule
further_of Three = IsSteered
further_of Four = IsExchanged
