-- Lines that state whole triples are told from groups, definitions and the end by their first word, and are read as they are spelled.
use Rattle.std.proofs.Common.{◌≡◌, ◌<◌, false, List, [], ◌∷◌, ◌++◌, length, codes, Err, refl, arith}
use Rattle.std.specs.List.{AllByRecursion}
use Rattle.mc_text.specs.Tokens.{Tok, Atom}
use Rattle.mc_text.specs.Reading.{goes_on, one}
use Rattle.rv_words.specs.declared.range.Range.{Range}
use Rattle.group_text.specs.declared.version.Version.{Version as Known}
use Rattle.group_text.specs.Version.{version_of}
use Rattle.group_text.specs.inner.Reading.{is_def}
use Rattle.proof_text.specs.Line.{Axiom, Inst, Frame, Compose, ExtendCode, Strengthen, Weaken, Discharge, UseExit, LineTree, States, Loop, Forget, Further}
use Rattle.proof_text.specs.LineLimits.{IsLineIn}
use Rattle.proof_text.specs.LineSpelling.{line_tokens_in}
use Rattle.proof_text.specs.inner.LineReaders.{ReadsLines, KnownTexts, ends_proof}
use Rattle.proof_text.specs.inner.LineReading.{line_at, rule_at, rule_head_of, whole_readers}
use Rattle.proof_text.proofs.FurtherWords.{word-begins, word-no-def, def-not-further}
use Rattle.proof_text.proofs.LineLaws.{line-law}
use Rattle.proof_text.proofs.LineTokens.{line-is-tokens}
use Rattle.proof_text.proofs.ProofParts.{whole-line}

module _ {X : Type 0} (F : X → Type 0) where
  each-more : (xs : List X) (x : X) → AllByRecursion F xs → F x → AllByRecursion F (xs ++ x ∷ [])
  each-more [] x h k = (k, tt)
  each-more (y ∷ xs) x h k = (h.0, each-more xs x h.1 k)

  each-fewer : (xs : List X) (x : X) → AllByRecursion F (xs ++ x ∷ []) → AllByRecursion F xs × F x
  each-fewer [] x h = (tt, h.0)
  each-fewer (y ∷ xs) x h = let k = each-fewer xs x h.1 in ((h.0, k.0), k.1)

module _ (known : Known) where
  module _ (own : List Range) where
    pub some-line : (l : LineTree) → 0 < length (line_tokens_in (version_of known) own l)
    some-line (States (Axiom a w form) t) = omega arith
    some-line (States (Inst p words mems) t) = omega arith
    some-line (States (Frame p) t) = omega arith
    some-line (States (Compose p q) t) = omega arith
    some-line (States (ExtendCode p) t) = omega arith
    some-line (States (Strengthen p) t) = omega arith
    some-line (States (Weaken p) t) = omega arith
    some-line (States (Discharge p) t) = omega arith
    some-line (States (UseExit def exit) t) = omega arith
    some-line (Loop def cited) = omega arith
    some-line (Forget k) = omega arith
    some-line (Further p t) = omega arith

    -- no line is the first of the next group, or ends the text
    line-begins : (l : LineTree) (us : List Tok) → goes_on ends_proof (line_tokens_in (version_of known) own l ++ us) ≡ false
    line-begins (States (Axiom a w form) t) us = refl
    line-begins (States (Inst p words mems) t) us = refl
    line-begins (States (Frame p) t) us = refl
    line-begins (States (Compose p q) t) us = refl
    line-begins (States (ExtendCode p) t) us = refl
    line-begins (States (Strengthen p) t) us = refl
    line-begins (States (Weaken p) t) us = refl
    line-begins (States (Discharge p) t) us = refl
    line-begins (States (UseExit def exit) t) us = refl
    line-begins (Loop def cited) us = refl
    line-begins (Forget k) us = refl
    line-begins (Further p t) us = word-begins known

    -- no line is a definition
    no-def : (l : LineTree) (us : List Tok) → goes_on is_def (line_tokens_in (version_of known) own l ++ us) ≡ false
    no-def (States (Axiom a w form) t) us = refl
    no-def (States (Inst p words mems) t) us = refl
    no-def (States (Frame p) t) us = refl
    no-def (States (Compose p q) t) us = refl
    no-def (States (ExtendCode p) t) us = refl
    no-def (States (Strengthen p) t) us = refl
    no-def (States (Weaken p) t) us = refl
    no-def (States (Discharge p) t) us = refl
    no-def (States (UseExit def exit) t) us = refl
    no-def (Loop def cited) us = refl
    no-def (Forget k) us = refl
    no-def (Further p t) us = word-no-def known

    def-no-line : (us : List Tok) → line_at (version_of known) own (Atom (codes "def") ∷ us) ≡ Err (Atom (codes "def") ∷ us)
    unfolding line_at rule_at rule_head_of one
    def-no-line us = rw (def-not-further known) refl

  pub lines-read : ReadsLines whole_readers (version_of known)
  lines-read = record {
    none = tt;
    more = λ ls l h k. each-more (IsLineIn (version_of known)) ls l h k;
    fewer = λ ls l h. each-fewer (IsLineIn (version_of known)) ls l h;
    reads = λ own code ls h. line-law known own code;
    some = λ ls h. (Forget 0, omega arith);
    long = some-line;
    whole = whole-line (version_of known);
    real = λ own ls l h. line-is-tokens known own l h;
    begins = line-begins;
    no_def = no-def;
    refuses_def = λ own ls us. def-no-line own us;
  }

  abbrev pub lines_known : KnownTexts
  lines_known = record { readers = whole_readers; version = known; laws = lines-read }
