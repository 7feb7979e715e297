-- How groups are written with lines behind them, whatever lines these are.
use Rattle.std.specs.Prelude.{ℕ, List, ◌++◌}
use Rattle.std.specs.List.{AllByRecursion, flat_map}
use Rattle.mc_text.specs.Tokens.{Tok, spell}
use Rattle.mc_text.specs.Fault.{Grammar}
use Rattle.mc_text.specs.declared.token.Before.TheVariants.{Start}
use Rattle.rv_words.specs.declared.range.Range.{Range}
use Rattle.group_text.specs.Version.{Version}
use Rattle.group_text.specs.Spelling.{group_tokens, title_tokens, end_tokens}
use Rattle.proof_text.specs.Line.{LineTree, ProofOf}
use Rattle.proof_text.specs.LineLimits.{IsLineIn}
use Rattle.proof_text.specs.LineSpelling.{line_tokens_in}
use Rattle.proof_text.specs.Proofs.{IsProofOf}

pub record LineGrammar : Type 1 where
  pub Line : Type 0
  -- a line in texts of that version, beside the group's own code
  pub tokens : Version → List Range → Line → List Tok
  -- which lines may stand behind a group, one after the other
  pub Are : Version → List Line → Type 0

-- lines that state whole triples
abbrev pub whole_lines : LineGrammar
whole_lines = record { Line = LineTree; tokens = line_tokens_in; Are = λ v. AllByRecursion (IsLineIn v) }

abbrev pub proof_tokens_over : (L : LineGrammar) → Version → ProofOf L.Line → List Tok
proof_tokens_over L v p = group_tokens p.group ++ flat_map (L.tokens v p.group.code) p.lines

-- the text of a list of proofs in that version
abbrev pub text_over : (L : LineGrammar) → Version → List (ProofOf L.Line) → List ℕ
text_over L v ps = spell Start (title_tokens v ++ (flat_map (proof_tokens_over L v) ps ++ end_tokens))

abbrev pub IsProofOver : (L : LineGrammar) → Version → ProofOf L.Line → Type 0
IsProofOver L v p = IsProofOf v (L.Are v) p

abbrev pub AreProofsOver : (L : LineGrammar) → Version → List (ProofOf L.Line) → Type 0
AreProofsOver L v ps = AllByRecursion (IsProofOf v (L.Are v)) ps

-- the texts of lists of proofs in that version
abbrev pub texts_over : (L : LineGrammar) → Version → Grammar (List (ProofOf L.Line))
texts_over L v = record { Has = AreProofsOver L v; text = text_over L v }
