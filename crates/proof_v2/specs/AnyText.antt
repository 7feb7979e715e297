-- Texts of each version: what stands behind the definitions of a group goes by the version.
use Rattle.std.specs.Prelude.{◌≡◌, ℕ, List}
use Rattle.mc_text.specs.Fault.{Grammar}
use Rattle.tailrec_lang.specs.Tree.{GroupTree}
use Rattle.group_text.specs.declared.version.Version.{Version as Known}
use Rattle.group_text.specs.declared.version.Version.TheVariants.{One, Two, Three, Four}
use Rattle.group_text.specs.Version.{version_of}
use Rattle.proof_text.specs.Line.{ProofOf}
use Rattle.proof_text.specs.LineGrammar.{LineGrammar, texts_over, whole_lines}
use Rattle.proof_text.specs.Proofs.{groups_of}
use Rattle.proof_text.specs.FirstProofs.{AreReadOver}
use Rattle.short_text.specs.ShortProofs.{short_lines}
use Rattle.verdicts.specs.Verdicts.{IsTextOver}

-- In version 2 there are the terms of a table, and short lines over it; in each other version lines that state whole triples.
abbrev pub any_lines : Known → LineGrammar
any_lines One = whole_lines
any_lines Two = short_lines
any_lines Three = whole_lines
any_lines Four = whole_lines

-- a group with what stands behind it
abbrev pub AnyProof : Known → Type 0
AnyProof k = ProofOf (any_lines k).Line

abbrev pub any_texts : (k : Known) → Grammar (List (AnyProof k))
any_texts k = texts_over (any_lines k) (version_of k)

-- the text, of that version, is one of these groups, with something behind each
pub record ListsIn (k : Known) (text : List ℕ) (gs : List GroupTree) : Type 0 where
  pub proofs : List (AnyProof k)
  pub spelled : IsTextOver (any_lines k) (version_of k) text proofs
  pub groups : gs ≡ groups_of proofs

-- the text, of that version, begins with these groups, with something behind each
pub record BeginsIn (k : Known) (text : List ℕ) (gs : List GroupTree) : Type 0 where
  pub proofs : List (AnyProof k)
  pub read : AreReadOver (any_lines k) (version_of k) text proofs
  pub groups : gs ≡ groups_of proofs
