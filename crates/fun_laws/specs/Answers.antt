-- Why a text is no certificate.
use Rattle.std.specs.Prelude.{ℕ, List}
use Rattle.mc_text.specs.Fault.{IsBadAt}
use Rattle.group_text.specs.declared.read_error.TextFault.{TextFault}
use Rattle.group_text.specs.declared.read_error.TextFault.TheVariants as fault
use Rattle.group_text.specs.Version.{Version}
use Rattle.fun_laws.specs.Limits.{cert_texts, cert_texts_in}

abbrev pub IsTextFault : List ℕ → TextFault → Type 0
IsTextFault text (fault.Bad n) = IsBadAt cert_texts text n
IsTextFault text fault.NoMemory = Unit {0}

-- .. of a group of that version
abbrev pub IsTextFaultIn : Version → List ℕ → TextFault → Type 0
IsTextFaultIn v text (fault.Bad n) = IsBadAt (cert_texts_in v) text n
IsTextFaultIn v text fault.NoMemory = Unit {0}
