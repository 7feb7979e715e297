-- Proofs without lines are written as their groups alone, and a text of proofs is what is printed of it, one behind the other.
use Rattle.std.proofs.Common.{◌≡◌, ℕ, List, [], ◌∷◌, ◌++◌, map, codes, unwrap_or, refl, sym, ap, ◌∙◌, append_assoc, flat_map}
use Rattle.std.proofs.lemmas.List.{append-nil}
use Rattle.mc_text.specs.Tokens.{Tok, Eol, spell}
use Rattle.mc_text.specs.declared.token.Before.TheVariants.{Start}
use Rattle.mc_text.proofs.Lines.{EndsIn, IsLines}
use Rattle.mc_text.proofs.Printed.{spell-after_lines}
use Rattle.rv_words.specs.declared.range.Range.{Range}
use Rattle.tailrec_lang.specs.Tree.{GroupTree}
use Rattle.group_text.specs.TermSpelling.{joined}
use Rattle.group_text.specs.Version.{Version}
use Rattle.proof_text.specs.Line.{RuleTree, Axiom, Inst, Frame, Compose, ExtendCode, Strengthen, Weaken, Discharge, UseExit, LineTree, States, Loop, Forget, Further, ProofOf}
use Rattle.group_text.specs.Spelling.{number, address, group_tokens, title_tokens, end_tokens, text_in}
use Rattle.proof_text.specs.LineSpelling.{keyed_tokens, form_tokens, word_sub_tokens, mem_sub_tokens, rule_tokens, triple_tokens, line_tokens_in}
use Rattle.group_text.specs.Limits.{AreGroupsIn}
use Rattle.proof_text.specs.LineGrammar.{LineGrammar, proof_tokens_over, text_over, AreProofsOver}
use Rattle.proof_text.specs.Proofs.{bare, line_texts_by, proof_texts_by}
use Rattle.group_text.proofs.Parts.{ends-behind, line-whole, group-whole}

-- ---- without lines

module _ (L : LineGrammar) (v : Version) where
  abbrev pub alone : GroupTree → ProofOf L.Line
  alone g = bare g

  bare-tokens : (gs : List GroupTree) → flat_map (proof_tokens_over L v) (map alone gs) ≡ flat_map group_tokens gs
  bare-tokens [] = refl
  bare-tokens (g ∷ gs) =
      ap (λ (ts : List Tok). ts ++ flat_map (proof_tokens_over L v) (map alone gs)) (append-nil (group_tokens g))
      ∙ ap (λ (ts : List Tok). group_tokens g ++ ts) (bare-tokens gs)

  pub bare-text : (gs : List GroupTree) → text_over L v (map alone gs) ≡ text_in v gs
  bare-text gs = ap (λ (ts : List Tok). spell Start (title_tokens v ++ (ts ++ end_tokens))) (bare-tokens gs)

  pub bare-fit : L.Are v [] → (gs : List GroupTree) → AreGroupsIn v gs → AreProofsOver L v (map alone gs)
  bare-fit none [] h = tt
  bare-fit none (g ∷ gs) h = (record { group = h.0; lines = none }, bare-fit none gs h.1)

  pub bare-groups : (gs : List GroupTree) → AreProofsOver L v (map alone gs) → AreGroupsIn v gs
  bare-groups [] h = tt
  bare-groups (g ∷ gs) h = (h.0.group, bare-groups gs h.1)

-- ---- part by part

keyed-whole : (word : List ℕ) (parts : List (List Tok)) (rest : List Tok) → ((u : Tok) → EndsIn u rest) → IsLines (keyed_tokens word parts ++ rest)
keyed-whole word parts rest h = ends-behind _ (joined parts []) rest h

rule-whole : (rule : RuleTree) (rest : List Tok) → ((u : Tok) → EndsIn u rest) → IsLines (rule_tokens rule ++ rest)
rule-whole (Axiom a word form) = keyed-whole (codes "axiom") (address a ∷ address word ∷ form_tokens form ∷ [])
rule-whole (Inst p words mems) = keyed-whole (codes "inst") (number p ∷ flat_map word_sub_tokens words ∷ flat_map mem_sub_tokens mems ∷ [])
rule-whole (Frame p) = keyed-whole (codes "frame") (number p ∷ [])
rule-whole (Compose p q) = keyed-whole (codes "compose") (number p ∷ number q ∷ [])
rule-whole (ExtendCode p) = keyed-whole (codes "extend") (number p ∷ [])
rule-whole (Strengthen p) = keyed-whole (codes "strengthen") (number p ∷ [])
rule-whole (Weaken p) = keyed-whole (codes "weaken") (number p ∷ [])
rule-whole (Discharge p) = keyed-whole (codes "discharge") (number p ∷ [])
rule-whole (UseExit def exit) = keyed-whole (codes "use") (number def ∷ number exit ∷ [])

pub whole-line : (v : Version) (own : List Range) (l : LineTree) → IsLines (line_tokens_in v own l)
whole-line v own (States rule t) = rule-whole rule (triple_tokens own t ++ Eol ∷ []) (λ u. ends-behind u (triple_tokens own t) (Eol ∷ []) (λ _. refl))
whole-line v own (Loop def cited) = line-whole (codes "loop") (number def ∷ flat_map number cited ∷ [])
whole-line v own (Forget k) = line-whole (codes "forget") (number k ∷ [])
whole-line v own (Further p t) = keyed-whole (unwrap_or v.further []) (number p ∷ []) (triple_tokens own t ++ Eol ∷ []) (λ u. ends-behind u (triple_tokens own t) (Eol ∷ []) (λ _. refl))

module _ (L : LineGrammar) (v : Version) (whole : (own : List Range) (l : L.Line) → IsLines (L.tokens v own l)) where
  lines-apart : (own : List Range) (ls : List L.Line) (rest : List Tok) → spell Start (flat_map (L.tokens v own) ls ++ rest) ≡ line_texts_by (L.tokens v own) ls ++ spell Start rest
  lines-apart own [] rest = refl
  lines-apart own (l ∷ ls) rest =
      ap (spell Start) (append_assoc (L.tokens v own l) (flat_map (L.tokens v own) ls) rest)
      ∙ spell-after_lines (L.tokens v own l) (flat_map (L.tokens v own) ls ++ rest) (whole own l)
      ∙ ap (λ (w : List ℕ). spell Start (L.tokens v own l) ++ w) (lines-apart own ls rest)
      ∙ sym (append_assoc (spell Start (L.tokens v own l)) (line_texts_by (L.tokens v own) ls) (spell Start rest))

  proof-apart : (p : ProofOf L.Line) (rest : List Tok) → spell Start (proof_tokens_over L v p ++ rest) ≡ (spell Start (group_tokens p.group) ++ line_texts_by (L.tokens v p.group.code) p.lines) ++ spell Start rest
  proof-apart p rest =
      let lines = flat_map (L.tokens v p.group.code) p.lines in
      ap (spell Start) (append_assoc (group_tokens p.group) lines rest)
      ∙ spell-after_lines (group_tokens p.group) (lines ++ rest) (group-whole p.group)
      ∙ ap (λ (w : List ℕ). spell Start (group_tokens p.group) ++ w) (lines-apart p.group.code p.lines rest)
      ∙ sym (append_assoc (spell Start (group_tokens p.group)) (line_texts_by (L.tokens v p.group.code) p.lines) (spell Start rest))

  proofs-apart : (ps : List (ProofOf L.Line)) → spell Start (flat_map (proof_tokens_over L v) ps ++ end_tokens) ≡ proof_texts_by (L.tokens v) ps ++ spell Start end_tokens
  proofs-apart [] = refl
  proofs-apart (p ∷ ps) =
      let own = spell Start (group_tokens p.group) ++ line_texts_by (L.tokens v p.group.code) p.lines in
      ap (spell Start) (append_assoc (proof_tokens_over L v p) (flat_map (proof_tokens_over L v) ps) end_tokens)
      ∙ proof-apart p (flat_map (proof_tokens_over L v) ps ++ end_tokens)
      ∙ ap (λ (w : List ℕ). own ++ w) (proofs-apart ps)
      ∙ sym (append_assoc own (proof_texts_by (L.tokens v) ps) (spell Start end_tokens))

  pub proof-text-apart : (ps : List (ProofOf L.Line)) → text_over L v ps ≡ spell Start (title_tokens v) ++ (proof_texts_by (L.tokens v) ps ++ spell Start end_tokens)
  proof-text-apart ps =
      spell-after_lines (title_tokens v) (flat_map (proof_tokens_over L v) ps ++ end_tokens) refl
      ∙ ap (λ (w : List ℕ). spell Start (title_tokens v) ++ w) (proofs-apart ps)
