-- Lines of version 2 are told from groups, definitions and the end by their first word, and are read as they are spelled.
use Rattle.std.proofs.Common.{◌≡◌, ◌<◌, Bool, true, false, List, [], ◌∷◌, ◌++◌, length, codes, Ok, Err, refl, arith, inl, inr, ◌⊎◌}
use Rattle.mc_text.specs.Tokens.{Tok, Atom}
use Rattle.mc_text.specs.Reading.{goes_on, one, refused}
use Rattle.mc_text.proofs.Lines.{IsLines, AreTokens}
use Rattle.mc_text.proofs.ReaderLaws.{Reads}
use Rattle.mc_text.proofs.Choices.{reads-choice, reads-as, reads-made}
use Rattle.rv_words.specs.declared.range.Range.{Range}
use Rattle.term_arena.specs.declared.node.Node.{Node}
use Rattle.group_text.specs.Version.{Version, version_of}
use Rattle.group_text.specs.declared.version.Version.TheVariants.{Two}
use Rattle.group_text.specs.inner.Reading.{is_def}
use Rattle.group_text.proofs.Parts.{line-whole}
use Rattle.proof_text.specs.inner.LineReaders.{ReadsLines, KnownTexts, ends_proof}
use Rattle.proof_text.specs.inner.OwnCode.{IsOwnCode}
use Rattle.short_text.specs.declared.short.Short.{Short}
use Rattle.short_text.specs.declared.short.Short.TheVariants as short
use Rattle.short_text.specs.declared.short.ShortLine.{ShortLine}
use Rattle.short_text.specs.declared.short.ShortLine.TheVariants.{Term, Proof}
use Rattle.short_text.specs.ShortSpelling.{node_tokens, table_line, short_tokens}
use Rattle.short_text.specs.ShortLimits.{IsShort}
use Rattle.short_text.specs.ShortProofs.{table_of, AreShortLines, IsNextLine, short_line_tokens}
use Rattle.short_text.specs.inner.ShortReading.{is_term, term_row, short_at, short_head_of}
use Rattle.short_text.specs.inner.ShortReaders.{has_begun, term_line_at, proof_line_at, line_behind, short_readers}
use Rattle.short_text.proofs.LineParts.{lines-more, lines-fewer, none-begun, begun-none}
use Rattle.short_text.proofs.NodeLaws.{IsRead, term-row-law}
use Rattle.short_text.proofs.ShortLaws.{short-law}
use Rattle.short_text.proofs.ShortTokens.{short-is-tokens}
use Rattle.short_text.proofs.ShortWhole.{whole-short, some-short}
use Rattle.short_text.proofs.TableLaws.{read-next, next-read, table-line-tokens, next-numbers}

-- ---- by the first word

module _ (own : List Range) where
  no-term : (s : Short) (us : List Tok) → goes_on is_term (short_tokens own s ++ us) ≡ false
  no-term (short.Axiom a word form) us = refl
  no-term (short.Inst p words mems) us = refl
  no-term (short.Frame p regs mems) us = refl
  no-term (short.ExtendCode p code) us = refl
  no-term (short.Compose p q) us = refl
  no-term (short.Strengthen p facts pre) us = refl
  no-term (short.Weaken p facts post) us = refl
  no-term (short.Discharge p facts) us = refl
  no-term (short.UseExit def exit) us = refl
  no-term (short.Loop def cited) us = refl
  no-term (short.Forget k) us = refl

  -- no line is the first of the next group, or ends the text
  line-begins : (l : ShortLine) (us : List Tok) → goes_on ends_proof (short_line_tokens own l ++ us) ≡ false
  line-begins (Term n) us = refl
  line-begins (Proof (short.Axiom a word form)) us = refl
  line-begins (Proof (short.Inst p words mems)) us = refl
  line-begins (Proof (short.Frame p regs mems)) us = refl
  line-begins (Proof (short.ExtendCode p code)) us = refl
  line-begins (Proof (short.Compose p q)) us = refl
  line-begins (Proof (short.Strengthen p facts pre)) us = refl
  line-begins (Proof (short.Weaken p facts post)) us = refl
  line-begins (Proof (short.Discharge p facts)) us = refl
  line-begins (Proof (short.UseExit def exit)) us = refl
  line-begins (Proof (short.Loop def cited)) us = refl
  line-begins (Proof (short.Forget k)) us = refl

  -- no line is a definition
  no-def : (l : ShortLine) (us : List Tok) → goes_on is_def (short_line_tokens own l ++ us) ≡ false
  no-def (Term n) us = refl
  no-def (Proof (short.Axiom a word form)) us = refl
  no-def (Proof (short.Inst p words mems)) us = refl
  no-def (Proof (short.Frame p regs mems)) us = refl
  no-def (Proof (short.ExtendCode p code)) us = refl
  no-def (Proof (short.Compose p q)) us = refl
  no-def (Proof (short.Strengthen p facts pre)) us = refl
  no-def (Proof (short.Weaken p facts post)) us = refl
  no-def (Proof (short.Discharge p facts)) us = refl
  no-def (Proof (short.UseExit def exit)) us = refl
  no-def (Proof (short.Loop def cited)) us = refl
  no-def (Proof (short.Forget k)) us = refl

  def-no-line : (begun : Bool) (ns : List Node) (us : List Tok) → line_behind begun ns own (Atom (codes "def") ∷ us) ≡ Err (Atom (codes "def") ∷ us)
  unfolding short_at short_head_of one
  def-no-line begun ns us = refl

  -- ---- lines

  some-line : (l : ShortLine) → 0 < length (short_line_tokens own l)
  some-line (Term n) = omega arith
  some-line (Proof s) = some-short own s

  pub whole-line : (l : ShortLine) → IsLines (short_line_tokens own l)
  whole-line (Term n) = line-whole (codes "term") (node_tokens n ∷ [])
  whole-line (Proof s) = whole-short own s

  pub line-tokens : (before : List ShortLine) (l : ShortLine) → IsNextLine before l → AreTokens (short_line_tokens own l)
  line-tokens before (Term n) h = table-line-tokens n h.1.numbers
  line-tokens before (Proof s) h = short-is-tokens (table_of before) own s h

  -- ---- reading

  -- a term by itself, a line of the proof by itself
  abbrev FitsTerm : Bool → List Node → ShortLine → Type 0
  FitsTerm begun ns (Term n) = (begun ≡ false) × IsRead ns n
  FitsTerm begun ns (Proof s) = ⊥

  abbrev FitsProof : List Node → ShortLine → Type 0
  FitsProof ns (Term n) = ⊥
  FitsProof ns (Proof s) = IsShort ns s

  term-from : (ns : List Node) (l : ShortLine) → FitsTerm false ns l → (n : Node) × (Term n ≡ l) × IsRead ns n
  term-from ns (Term n) h = (n, refl, h.1)
  term-from ns (Proof s) h = absurd h

  proof-from : (ns : List Node) (l : ShortLine) → FitsProof ns l → (s : Short) × (Proof s ≡ l) × IsShort ns s
  proof-from ns (Term n) h = absurd h
  proof-from ns (Proof s) h = (s, refl, h)

  none-again : (ns : List Node) (l : ShortLine) (rest : List Tok) → FitsTerm true ns l → refused (short_line_tokens own l ++ rest) ≡ Ok (l, rest)
  none-again ns (Term n) rest h = absurd (let e = h.0 in cc)
  none-again ns (Proof s) rest h = absurd h

  term-law : (begun : Bool) (ns : List Node) → Reads (term_line_at begun ns) (FitsTerm begun ns) (short_line_tokens own)
  term-law true ns = record {
    takes = λ ts l rest e. absurd cc;
    again = none-again ns;
    stops = λ ts bad e. record { part = []; is = cc; flat = tt; fixed = λ o alike. refl };
  }
  term-law false ns = reads-made Term (term_row ns) (IsRead ns) table_line (term-row-law ns) (FitsTerm false ns) (short_line_tokens own) (λ n h. (refl, h)) (λ n. refl) (term-from ns)

  proof-law : (ns : List Node) → IsOwnCode own → Reads (proof_line_at ns own) (FitsProof ns) (short_line_tokens own)
  proof-law ns fits = reads-made Proof (short_at ns own) (IsShort ns) (short_tokens own) (short-law ns own fits) (FitsProof ns) (short_line_tokens own) (λ s h. h) (λ s. refl) (proof-from ns)

  term-begins : (begun : Bool) (ns : List Node) (l : ShortLine) → FitsTerm begun ns l → (us : List Tok) → goes_on is_term (short_line_tokens own l ++ us) ≡ true
  term-begins begun ns (Term n) h us = refl
  term-begins begun ns (Proof s) h us = absurd h

  proof-begins : (ns : List Node) (l : ShortLine) → FitsProof ns l → (us : List Tok) → goes_on is_term (short_line_tokens own l ++ us) ≡ false
  proof-begins ns (Term n) h us = absurd h
  proof-begins ns (Proof s) h us = no-term s us

  module _ (before : List ShortLine) (are : AreShortLines before) where
    abbrev ns : List Node
    ns = table_of before

    up : (l : ShortLine) → FitsTerm (has_begun before) ns l ⊎ FitsProof ns l → IsNextLine before l
    up (Term n) (inl h) = (none-begun before h.0, read-next ns n h.1)
    up (Term n) (inr h) = absurd h
    up (Proof s) (inl h) = absurd h
    up (Proof s) (inr h) = h

    down : (l : ShortLine) → IsNextLine before l → FitsTerm (has_begun before) ns l ⊎ FitsProof ns l
    down (Term n) h = inl (begun-none before h.0, next-read ns n (next-numbers [] ns are.table) h.1)
    down (Proof s) h = inr h

    pub line-law : IsOwnCode own → Reads (line_behind (has_begun before) ns own) (IsNextLine before) (short_line_tokens own)
    line-law fits = reads-as (line_behind (has_begun before) ns own) (λ l. FitsTerm (has_begun before) ns l ⊎ FitsProof ns l) (IsNextLine before) (short_line_tokens own)
        (reads-choice is_term (term_line_at (has_begun before) ns) (proof_line_at ns own) (FitsTerm (has_begun before) ns) (FitsProof ns) (short_line_tokens own) (term-law (has_begun before) ns) (proof-law ns fits)
        (term-begins (has_begun before) ns) (proof-begins ns))
        up down

no-lines : AreShortLines []
no-lines = record { order = tt; table = tt; proof = tt }

pub short-read : (v : Version) → ReadsLines short_readers v
short-read v = record {
  none = no-lines;
  more = lines-more;
  fewer = lines-fewer;
  reads = λ own code before are. line-law own before are code;
  some = λ before are. (Proof (short.Forget 0), omega arith);
  long = some-line;
  whole = whole-line;
  real = line-tokens;
  begins = line-begins;
  no_def = no-def;
  refuses_def = λ own before us. def-no-line own (has_begun before) (table_of before) us;
}

abbrev pub shorts_known : KnownTexts
shorts_known = record { readers = short_readers; version = Two; laws = short-read (version_of Two) }
