-- What is written of proofs are tokens of a text.
use Rattle.std.proofs.Common.{◌≡◌, Option, Some, None, is_some, true≢false, sym, subst, ℕ, ◌+◌, ◌^◌, ◌<◌, Bool, true, false, cond, List, [], ◌∷◌, ◌++◌, codes, refl, arith, flat_map}
use Rattle.std.specs.Fmt.{decimal}
use Rattle.mc_text.specs.Number.{IsNumber}
use Rattle.mc_text.specs.Tokens.{Tok, Right, Semi, Atom, Eol, IsAtom}
use Rattle.mc_text.proofs.Atoms.{letter-atom, word-atom}
use Rattle.mc_text.proofs.Lines.{AreTokens}
use Rattle.mc_text.proofs.Shown.{decimal-atom, hex-atom, tokens-append, tokens-each}
use Rattle.rv_words.specs.declared.range.Range.{Range}
use Rattle.word_terms.specs.Tree.{WordTree, MemTree}
use Rattle.group_text.specs.TermLimits.{IsWord, IsMem}
use Rattle.group_text.specs.TermSpelling.{word_tokens, mem_tokens, cond_tokens, range_tokens}
use Rattle.group_text.proofs.TermFacts.{word-tokens, mem-tokens, cond-tokens}
use Rattle.sep_assert.specs.Tree.{AssertionTree}
use Rattle.triple_kernel.specs.Tree.{FactTree, WordIs, MemIs, So, Gives, TripleTree}
use Rattle.triple_kernel.specs.declared.form.Form.{Form}
use Rattle.triple_kernel.specs.declared.form.Form.TheVariants.{Next, Taken}
use Rattle.proof_text.specs.Line.{RuleTree, Axiom, Inst, Frame, Compose, ExtendCode, Strengthen, Weaken, Discharge, UseExit, LineTree, States, Loop, Forget, Further}
use Rattle.group_text.specs.Spelling.{number, values_tokens}
use Rattle.proof_text.specs.LineSpelling.{fact_tokens, register_tokens, assertion_tokens, same_ranges, code_tokens, triple_tokens, form_tokens, word_sub_tokens, mem_sub_tokens, rule_tokens, line_tokens_in}
use Rattle.proof_text.specs.LineLimits.{IsFact, IsAssertion, IsTriple, AreRisingFrom, IsRule, IsLineIn}
use Rattle.group_text.proofs.HeadLaws.{IsCode}
use Rattle.group_text.proofs.Real.{eol-tokens, values-tokens, ranges-tokens}
use Rattle.std.specs.Prelude.{unwrap_or}
use Rattle.proof_text.proofs.FurtherWords.{word-is-atom}
use Rattle.proof_text.proofs.TripleLaws.{IsRegister, registers-of, registers-small}
use Rattle.group_text.specs.declared.version.Version.{Version as Known}
use Rattle.group_text.specs.Version.{version_of}

abbrev close : List Tok
close = Right ∷ []

closed-tokens : (v : List Tok) → AreTokens v → AreTokens (v ++ close)
closed-tokens v h = tokens-append v close h (tt, tt)

two-tokens : (v w : List Tok) → AreTokens v → AreTokens w → AreTokens (v ++ (w ++ close))
two-tokens v w h k = tokens-append v (w ++ close) h (closed-tokens w k)

small : (n : ℕ) → n < 2 ^ 32 → IsNumber n
small n h = omega (arith, h)

-- ---- triples

fact-tokens : (f : FactTree) → IsFact f → AreTokens (fact_tokens f)
fact-tokens (WordIs a b) h = (tt, (word-atom (codes "is") refl, two-tokens (word_tokens a) (word_tokens b) (word-tokens a h.0) (word-tokens b h.1)))
fact-tokens (MemIs a b) h = (tt, (word-atom (codes "mis") refl, two-tokens (mem_tokens a) (mem_tokens b) (mem-tokens a h.0) (mem-tokens b h.1)))
fact-tokens (So c) h = (tt, (word-atom (codes "so") refl, closed-tokens (cond_tokens c) (cond-tokens c h)))
fact-tokens (Gives def exit args results) h = (
  tt,
  (
    word-atom (codes "gives") refl,
    (
      decimal-atom def (small def h.0),
      (
        decimal-atom exit (small exit h.1),
        tokens-append (values_tokens args) (Semi ∷ (values_tokens results ++ close)) (values-tokens args h.2) (tt, closed-tokens (values_tokens results) (values-tokens results h.3)),
      ),
    ),
  ),
)

register-tokens : (r : ℕ × WordTree) → IsRegister r → AreTokens (register_tokens r)
register-tokens r h = (tt, (decimal-atom r.0 (omega (arith, h.0)), closed-tokens (word_tokens r.1) (word-tokens r.1 h.1)))

assertion-tokens : (a : AssertionTree) → IsAssertion a → AreTokens (assertion_tokens a)
assertion-tokens a h =
    let regs = flat_map register_tokens a.regs in
    let mems = flat_map mem_tokens a.mems in (
      tt,
      tokens-append (word_tokens a.pc) (regs ++ (Semi ∷ (mems ++ close))) (word-tokens a.pc h.pc)
          (tokens-append regs (Semi ∷ (mems ++ close)) (tokens-each register_tokens IsRegister register-tokens a.regs (registers-of a.regs (registers-small a h) h.words))
          (tt, closed-tokens mems (tokens-each mem_tokens IsMem mem-tokens a.mems h.mems))),
    )

code-tokens : (own rs : List Range) → IsCode rs → AreTokens (code_tokens own rs)
code-tokens own rs h = by (same_ranges rs own)
  where
    by : (b : Bool) → AreTokens (cond b (Atom (codes "all") ∷ []) (flat_map range_tokens rs))
    by true = (word-atom (codes "all") refl, tt)
    by false = ranges-tokens 0 rs h.0 h.1

triple-tokens : (own : List Range) (t : TripleTree) → IsTriple t → AreTokens (triple_tokens own t)
triple-tokens own t h =
    let behind_code = Atom (codes "post") ∷ assertion_tokens t.post in
    let behind_pre = Atom (codes "code") ∷ (code_tokens own t.code ++ behind_code) in
    let behind_facts = Atom (codes "pre") ∷ (assertion_tokens t.pre ++ behind_pre) in (
      word-atom (codes "facts") refl,
      tokens-append (flat_map fact_tokens t.facts) behind_facts (tokens-each fact_tokens IsFact fact-tokens t.facts h.facts) (
        word-atom (codes "pre") refl,
        tokens-append (assertion_tokens t.pre) behind_pre (assertion-tokens t.pre h.pre) (
          word-atom (codes "code") refl,
          tokens-append (code_tokens own t.code) behind_code (code-tokens own t.code (h.code, h.bytes))
              (word-atom (codes "post") refl, assertion-tokens t.post h.post),
        ),
      ),
    )

-- ---- rules

word-subs-tokens : (least : ℕ) (ss : List (ℕ × WordTree)) → AreRisingFrom IsWord least ss → AreTokens (flat_map word_sub_tokens ss)
word-subs-tokens least [] h = tt
word-subs-tokens least (s ∷ ss) h =
    tokens-append (word_sub_tokens s) (flat_map word_sub_tokens ss)
    (tt, (letter-atom 118 (decimal s.0) refl (decimal-atom s.0 (small s.0 h.1)), closed-tokens (word_tokens s.1) (word-tokens s.1 h.2))) (word-subs-tokens (s.0 + 1) ss h.3)

mem-subs-tokens : (least : ℕ) (ss : List (ℕ × MemTree)) → AreRisingFrom IsMem least ss → AreTokens (flat_map mem_sub_tokens ss)
mem-subs-tokens least [] h = tt
mem-subs-tokens least (s ∷ ss) h =
    tokens-append (mem_sub_tokens s) (flat_map mem_sub_tokens ss)
    (tt, (letter-atom 109 (decimal s.0) refl (decimal-atom s.0 (small s.0 h.1)), closed-tokens (mem_tokens s.1) (mem-tokens s.1 h.2))) (mem-subs-tokens (s.0 + 1) ss h.3)

form-tokens : (f : Form) → AreTokens (form_tokens f ++ [])
form-tokens Next = (word-atom (codes "next") refl, tt)
form-tokens Taken = (word-atom (codes "taken") refl, tt)

rule-tokens : (r : RuleTree) → IsRule r → AreTokens (rule_tokens r)
rule-tokens (Axiom a w form) h = (word-atom (codes "axiom") refl, (hex-atom a, (hex-atom w, form-tokens form)))
rule-tokens (Inst p words mems) h = (
  word-atom (codes "inst") refl,
  (
    decimal-atom p h.0,
    tokens-append (flat_map word_sub_tokens words) (flat_map mem_sub_tokens mems ++ []) (word-subs-tokens 0 words h.1)
        (tokens-append (flat_map mem_sub_tokens mems) [] (mem-subs-tokens 0 mems h.2) tt),
  ),
)
rule-tokens (Frame p) h = (word-atom (codes "frame") refl, (decimal-atom p h, tt))
rule-tokens (Compose p q) h = (word-atom (codes "compose") refl, (decimal-atom p h.0, (decimal-atom q h.1, tt)))
rule-tokens (ExtendCode p) h = (word-atom (codes "extend") refl, (decimal-atom p h, tt))
rule-tokens (Strengthen p) h = (word-atom (codes "strengthen") refl, (decimal-atom p h, tt))
rule-tokens (Weaken p) h = (word-atom (codes "weaken") refl, (decimal-atom p h, tt))
rule-tokens (Discharge p) h = (word-atom (codes "discharge") refl, (decimal-atom p h, tt))
rule-tokens (UseExit def exit) h = (word-atom (codes "use") refl, (decimal-atom def (small def h.0), (decimal-atom exit (small exit h.1), tt)))

module _ (known : Known) where
  -- ---- lines and texts

  pub line-is-tokens : (own : List Range) (l : LineTree) → IsLineIn (version_of known) l → AreTokens (line_tokens_in (version_of known) own l)
  line-is-tokens own (States rule t) h = tokens-append (rule_tokens rule) (triple_tokens own t ++ Eol ∷ []) (rule-tokens rule h.0) (eol-tokens (triple_tokens own t) (triple-tokens own t h.1))
  line-is-tokens own (Loop def cited) h =
      (word-atom (codes "loop") refl, (decimal-atom def (small def h.0), eol-tokens (flat_map number cited) (tokens-each number IsNumber (λ n k. (decimal-atom n k, tt)) cited h.1)))
  line-is-tokens own (Forget k) h = (word-atom (codes "forget") refl, (decimal-atom k h, (tt, tt)))
  line-is-tokens own (Further p t) h =
      (there (version_of known).further refl h.0, (decimal-atom p h.1, eol-tokens (triple_tokens own t) (triple-tokens own t h.2)))
    where
      there : (o : Option (List ℕ)) → (version_of known).further ≡ o → is_some o ≡ true → IsAtom (unwrap_or (version_of known).further [])
      there None e some = absurd (true≢false (sym some))
      there (Some w) e some = subst (λ (o : Option (List ℕ)). IsAtom (unwrap_or o [])) (sym e) (word-is-atom known w e)
