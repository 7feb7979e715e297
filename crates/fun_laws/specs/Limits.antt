-- Which certificates have a text.
use Rattle.std.specs.Prelude.{◌<◌, ◌≤◌, length}
use Rattle.std.specs.List.{AllByRecursion}
use Rattle.mc_text.specs.Fault.{Grammar}
use Rattle.group_text.specs.declared.version.Version.{Version as Known}
use Rattle.group_text.specs.Version.{Version, version_of}
use Rattle.group_text.specs.Limits.{IsGroupIn, IsDef, index_limit, def_limit}
use Rattle.fun_laws.specs.declared.step.Rw.{Rw}
use Rattle.fun_laws.specs.Spelling.{CertTree, cert_text}

pub record IsCertStep (r : Rw) : Type 0 where
  pub def : r.def < index_limit
  pub term : r.term < index_limit
  pub place : AllByRecursion (λ k. k < 10) r.place
  pub law : r.law < index_limit

-- a certificate of a group that has a text in that version
pub record IsCertIn (v : Version) (c : CertTree) : Type 0 where
  pub old : IsGroupIn v c.old
  pub steps : AllByRecursion IsCertStep c.steps
  pub result : AllByRecursion IsDef c.result
  pub some : 1 ≤ length c.result
  pub few : length c.result ≤ def_limit

-- .. in some version
abbrev pub IsCert : CertTree → Type 0
IsCert c = (k : Known) × IsCertIn (version_of k) c

-- the texts of certificates
abbrev pub cert_texts : Grammar CertTree
cert_texts = record { Has = IsCert; text = cert_text }

-- .. of groups of that version
abbrev pub cert_texts_in : Version → Grammar CertTree
cert_texts_in v = record { Has = IsCertIn v; text = cert_text }
