-- Which version a text is of, by its first line.
use Rattle.std.specs.Prelude.{ℕ, Bool, if◌then◌else◌, nat_eq, List}
use Rattle.std.specs.List.{starts_with}
use Rattle.mc_text.specs.Tokens.{spell}
use Rattle.mc_text.specs.declared.token.Before.TheVariants.{Start}
use Rattle.group_text.specs.declared.version.Version.{Version as Known}
use Rattle.group_text.specs.declared.version.Version.TheVariants.{One, Two, Three, Four}
use Rattle.group_text.specs.Version.{version_of}
use Rattle.group_text.specs.Spelling.{title_tokens}

-- whether a text begins with the first line of that version
abbrev pub has_title : Known → List ℕ → Bool
has_title known text = starts_with nat_eq text (spell Start (title_tokens (version_of known)))

-- The version that the first line of a text names, and version 1 where it names none that is taken.
abbrev pub named_version : List ℕ → Known
named_version text = if has_title Two text then Two else if has_title Three text then Three else if has_title Four text then Four else One

-- .. of versions 1 and 2
abbrev pub any_version : List ℕ → Known
any_version text = if has_title Two text then Two else One
