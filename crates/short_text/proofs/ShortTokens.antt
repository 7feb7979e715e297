-- What is written of short lines are tokens of a text.
use Rattle.std.proofs.Common.{ℕ, ◌+◌, Bool, true, false, cond, List, [], ◌∷◌, ◌++◌, map, codes, refl, arith, flat_map}
use Rattle.std.specs.Fmt.{decimal}
use Rattle.std.specs.List.{AllByRecursion}
use Rattle.mc_text.specs.Number.{IsNumber}
use Rattle.mc_text.specs.Tokens.{Tok, Right, Semi, Atom, Eol}
use Rattle.mc_text.proofs.Atoms.{letter-atom, word-atom}
use Rattle.mc_text.proofs.Lines.{AreTokens}
use Rattle.mc_text.proofs.Shown.{decimal-atom, hex-atom, tokens-append, tokens-each}
use Rattle.rv_words.specs.declared.range.Range.{Range}
use Rattle.group_text.specs.TermSpelling.{range_tokens}
use Rattle.tailrec_lang.specs.Registers.{AreRegistersFrom}
use Rattle.term_arena.specs.declared.node.Node.{Node}
use Rattle.triple_kernel.specs.declared.form.Form.{Form}
use Rattle.triple_kernel.specs.declared.form.Form.TheVariants.{Next, Taken}
use Rattle.group_text.specs.Spelling.{number}
use Rattle.group_text.proofs.HeadLaws.{IsCode}
use Rattle.group_text.proofs.Real.{eol-tokens, ranges-tokens}
use Rattle.proof_text.specs.LineLimits.{AreRisingFrom}
use Rattle.proof_text.specs.LineSpelling.{same_ranges, code_tokens, form_tokens}
use Rattle.held_terms.specs.declared.held.HeldValues.{HeldValues}
use Rattle.held_terms.specs.declared.held.HeldFact.{HeldFact}
use Rattle.held_terms.specs.declared.held.HeldFact.TheVariants as held
use Rattle.held_terms.specs.declared.held.HeldSide.{HeldSide}
use Rattle.short_text.specs.declared.short.Short.{Short}
use Rattle.short_text.specs.declared.short.Short.TheVariants as short
use Rattle.short_text.specs.ShortSpelling.{term_number, held_values_tokens, held_fact_tokens, held_register_tokens, held_side_tokens, word_place_tokens, mem_place_tokens, short_tokens}
use Rattle.short_text.specs.ShortLimits.{IsWordNumber, IsMemNumber, AreHeldValues, IsHeldFact, AreHeldRegisters, IsHeldSide, IsShort}
use Rattle.short_text.proofs.TableLaws.{term-atom, small, one-tokens, two-tokens}

abbrev close : List Tok
close = Right ∷ []

abbrev end : List Tok
end = Eol ∷ []

module _ (ns : List Node) where
  -- ---- facts

  words-tokens : (ks : List ℕ) → AllByRecursion (IsWordNumber ns) ks → AreTokens (flat_map term_number ks)
  words-tokens = tokens-each term_number (IsWordNumber ns) (λ k h. (term-atom k h.0, tt))

  mems-tokens : (ks : List ℕ) → AllByRecursion (IsMemNumber ns) ks → AreTokens (flat_map term_number ks)
  mems-tokens = tokens-each term_number (IsMemNumber ns) (λ k h. (term-atom k h.0, tt))

  values-tokens : (v : HeldValues) → AreHeldValues ns v → AreTokens (held_values_tokens v)
  values-tokens v h = tokens-append (flat_map term_number v.words) (Semi ∷ flat_map term_number v.mems) (words-tokens v.words h.0) (tt, mems-tokens v.mems h.1)

  fact-tokens : (f : HeldFact) → IsHeldFact ns f → AreTokens (held_fact_tokens f)
  fact-tokens (held.WordIs a b) h = (tt, (word-atom (codes "is") refl, two-tokens a b h.0.0 h.1.0))
  fact-tokens (held.MemIs a b) h = (tt, (word-atom (codes "mis") refl, two-tokens a b h.0.0 h.1.0))
  fact-tokens (held.So c) h = (tt, (word-atom (codes "so") refl, one-tokens c h.0))
  fact-tokens (held.Gives def exit args results) h = (
    tt,
    (
      word-atom (codes "gives") refl,
      (
        decimal-atom def (small def h.0),
        (
          decimal-atom exit (small exit h.1),
          tokens-append (held_values_tokens args) (Semi ∷ (held_values_tokens results ++ close)) (values-tokens args h.2)
              (tt, tokens-append (held_values_tokens results) close (values-tokens results h.3) (tt, tt)),
        ),
      ),
    ),
  )

  facts-tokens : (fs : List HeldFact) → AllByRecursion (IsHeldFact ns) fs → AreTokens (flat_map held_fact_tokens fs)
  facts-tokens = tokens-each held_fact_tokens (IsHeldFact ns) fact-tokens

  -- ---- sides

  rising-tokens : (least : ℕ) (rs : List (ℕ × ℕ)) → AreRegistersFrom least (map (λ r. r.0) rs) → AllByRecursion (λ r. IsWordNumber ns r.1) rs → AreTokens (flat_map held_register_tokens rs)
  rising-tokens least [] h k = tt
  rising-tokens least (r ∷ rs) h k =
      tokens-append (held_register_tokens r) (flat_map held_register_tokens rs) (tt, (decimal-atom r.0 (omega (arith, h.1)), one-tokens r.1 k.0.0)) (rising-tokens (r.0 + 1) rs h.2 k.1)

  registers-tokens : (rs : List (ℕ × ℕ)) → AreHeldRegisters ns rs → AreTokens (flat_map held_register_tokens rs)
  registers-tokens rs h = rising-tokens 1 rs h.rise h.words

  -- registers, a semicolon and memories, with more behind them
  further-tokens : (rs : List (ℕ × ℕ)) (ms : List ℕ) (rest : List Tok) → AreHeldRegisters ns rs → AllByRecursion (IsMemNumber ns) ms → AreTokens rest → AreTokens (flat_map held_register_tokens rs ++ (Semi ∷ (flat_map term_number ms ++ rest)))
  further-tokens rs ms rest h k more =
      tokens-append (flat_map held_register_tokens rs) (Semi ∷ (flat_map term_number ms ++ rest)) (registers-tokens rs h) (tt, tokens-append (flat_map term_number ms) rest (mems-tokens ms k) more)

  side-tokens : (s : HeldSide) → IsHeldSide ns s → AreTokens (held_side_tokens s)
  side-tokens s h = (tt, (term-atom s.pc h.pc.0, further-tokens s.regs s.mems close h.regs h.mems (tt, tt)))

  -- ---- terms for variables

  word-places-tokens : (least : ℕ) (ps : List (ℕ × ℕ)) → AreRisingFrom (IsWordNumber ns) least ps → AreTokens (flat_map word_place_tokens ps)
  word-places-tokens least [] h = tt
  word-places-tokens least (p ∷ ps) h =
      tokens-append (word_place_tokens p) (flat_map word_place_tokens ps) (tt, (letter-atom 118 (decimal p.0) refl (decimal-atom p.0 (small p.0 h.1)), one-tokens p.1 h.2.0)) (word-places-tokens (p.0 + 1) ps h.3)

  mem-places-tokens : (least : ℕ) (ps : List (ℕ × ℕ)) → AreRisingFrom (IsMemNumber ns) least ps → AreTokens (flat_map mem_place_tokens ps)
  mem-places-tokens least [] h = tt
  mem-places-tokens least (p ∷ ps) h =
      tokens-append (mem_place_tokens p) (flat_map mem_place_tokens ps) (tt, (letter-atom 109 (decimal p.0) refl (decimal-atom p.0 (small p.0 h.1)), one-tokens p.1 h.2.0)) (mem-places-tokens (p.0 + 1) ps h.3)

  -- ---- lines

  form-tokens : (f : Form) → AreTokens (form_tokens f ++ end)
  form-tokens Next = (word-atom (codes "next") refl, (tt, tt))
  form-tokens Taken = (word-atom (codes "taken") refl, (tt, tt))

  code-tokens : (own rs : List Range) → IsCode rs → AreTokens (code_tokens own rs)
  code-tokens own rs h = by (same_ranges rs own)
    where
      by : (b : Bool) → AreTokens (cond b (Atom (codes "all") ∷ []) (flat_map range_tokens rs))
      by true = (word-atom (codes "all") refl, tt)
      by false = ranges-tokens 0 rs h.0 h.1

  -- facts, and a side behind a word
  changed-tokens : (p : ℕ) (fs : List HeldFact) (word : List ℕ) (s : HeldSide) → IsNumber p → AllByRecursion (IsHeldFact ns) fs → AreTokens (Atom word ∷ []) → IsHeldSide ns s
      → AreTokens (Atom (decimal p) ∷ (Atom (codes "facts") ∷ (flat_map held_fact_tokens fs ++ (Atom word ∷ (held_side_tokens s ++ end)))))
  changed-tokens p fs word s h k w l = (
    decimal-atom p h,
    (word-atom (codes "facts") refl, tokens-append (flat_map held_fact_tokens fs) (Atom word ∷ (held_side_tokens s ++ end)) (facts-tokens fs k) (w.0, eol-tokens (held_side_tokens s) (side-tokens s l))),
  )

  pub short-is-tokens : (own : List Range) (l : Short) → IsShort ns l → AreTokens (short_tokens own l)
  short-is-tokens own (short.Axiom a word form) h = (word-atom (codes "axiom") refl, (hex-atom a, (hex-atom word, form-tokens form)))
  short-is-tokens own (short.Inst p words mems) h = (
    word-atom (codes "inst") refl,
    (
      decimal-atom p h.0,
      tokens-append (flat_map word_place_tokens words) (flat_map mem_place_tokens mems ++ end) (word-places-tokens 0 words h.1) (eol-tokens (flat_map mem_place_tokens mems) (mem-places-tokens 0 mems h.2)),
    ),
  )
  short-is-tokens own (short.Frame p regs mems) h = (word-atom (codes "frame") refl, (decimal-atom p h.0, further-tokens regs mems end h.1 h.2 (tt, tt)))
  short-is-tokens own (short.ExtendCode p code) h = (word-atom (codes "extend") refl, (decimal-atom p h.0, (word-atom (codes "code") refl, eol-tokens (code_tokens own code.ranges) (code-tokens own code.ranges (h.1, h.2)))))
  short-is-tokens own (short.Compose p q) h = (word-atom (codes "compose") refl, (decimal-atom p h.0, (decimal-atom q h.1, (tt, tt))))
  short-is-tokens own (short.Strengthen p facts pre) h = (word-atom (codes "strengthen") refl, changed-tokens p facts (codes "pre") pre h.0 h.1 (word-atom (codes "pre") refl, tt) h.2)
  short-is-tokens own (short.Weaken p facts post) h = (word-atom (codes "weaken") refl, changed-tokens p facts (codes "post") post h.0 h.1 (word-atom (codes "post") refl, tt) h.2)
  short-is-tokens own (short.Discharge p facts) h = (word-atom (codes "discharge") refl, (decimal-atom p h.0, (word-atom (codes "facts") refl, eol-tokens (flat_map held_fact_tokens facts) (facts-tokens facts h.1))))
  short-is-tokens own (short.UseExit def exit) h = (word-atom (codes "use") refl, (decimal-atom def (small def h.0), (decimal-atom exit (small exit h.1), (tt, tt))))
  short-is-tokens own (short.Loop def cited) h =
      (word-atom (codes "loop") refl, (decimal-atom def (small def h.0), eol-tokens (flat_map number cited) (tokens-each number IsNumber (λ n k. (decimal-atom n k, tt)) cited h.1)))
  short-is-tokens own (short.Forget k) h = (word-atom (codes "forget") refl, (decimal-atom k h, (tt, tt)))
