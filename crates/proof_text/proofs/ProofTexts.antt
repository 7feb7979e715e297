-- Groups with lines behind them are read as they are spelled, and the lines before a fault can be completed.
use Rattle.std.proofs.Common.{◌≡◌, ℕ, zero, suc, ◌+◌, ◌<◌, ◌≤◌, Bool, true, false, List, [], ◌∷◌, ◌++◌, map, length, codes, Ok, Err, refl, sym, ap, subst, ◌∙◌, arith, append_assoc, length-append, inl, inr, ◌⊎◌}
use Rattle.std.specs.Prelude.{◌||◌}
use Rattle.std.specs.List.{AllByRecursion, flat_map}
use Rattle.std.specs.Str.{bytes_eq}
use Rattle.std.proofs.lemmas.List.{append-nil}
use Rattle.mc_text.specs.Tokens.{Tok, Left, Right, Semi, Atom, Eol, Done, Stuck}
use Rattle.mc_text.specs.Reading.{Reader, ◌>>=◌, pair, with, made, goes_on, refused}
use Rattle.mc_text.specs.Scanning.{lex, At}
use Rattle.mc_text.specs.declared.token.Before.TheVariants.{Start}
use Rattle.mc_text.specs.inner.Reading.{eol, keyed}
use Rattle.mc_text.proofs.Lines.{AreTokens}
use Rattle.mc_text.proofs.Atoms.{word-atom}
use Rattle.mc_text.proofs.ReaderLaws.{Out, IsElse, ok-value}
use Rattle.mc_text.proofs.Shown.{Always, tokens-append, tokens-each}
use Rattle.mc_text.proofs.FaultLine.{text-read}
use Rattle.mc_text.proofs.Covers.{Covers, Part, row-covers, covers-with, covers-made, covers-part, part-refused, part-keyed, Never}
use Rattle.mc_text.proofs.Repeated.{covers-bounded}
use Rattle.mc_text.proofs.Fuel.{no-longer, pair-alike, made-alike, keyed-alike, keyed-else, many-no-longer, covers-whole}
use Rattle.rv_words.specs.declared.range.Range.{Range}
use Rattle.tailrec_lang.specs.Tree.{DefTree, GroupTree}
use Rattle.group_text.specs.Limits.{def_limit, IsDef, IsGroupIn, AreGroupsIn}
use Rattle.group_text.specs.Spelling.{def_tokens, group_tokens, title_tokens, end_tokens, text_in}
use Rattle.group_text.specs.inner.Reading.{Head, def_at, is_def, head_at, group_of, title_row}
use Rattle.group_text.proofs.StepLaws.{eol-law}
use Rattle.group_text.proofs.HeadLaws.{IsCode}
use Rattle.group_text.proofs.Real.{group-tokens, title-tokens}
use Rattle.group_text.proofs.Texts.{def-cover, def-begins, def-shrinks, HeadFits, lines_of_head, head-cover, group_row, group-split, title-cover}
use Rattle.proof_text.specs.inner.LineReaders.{KnownTexts, ends_proof, more_defs, defs_at, behind_head, group_first, line_first, nothing_more, group_then, end_or_group, tail_at}
use Rattle.proof_text.proofs.ProofParts.{alone, bare-text, bare-fit}
use Rattle.proof_text.proofs.KnownLines.{version, Line, Proof, Tail, line_tokens, Are, Fits, line_at, proof_tokens, IsProof, AreProofs, text_of, tail_from, first_from, all, text_at, line-cover, one-fits}

-- ---- first words

module _ {X : Type 0} (r other : Reader X) where
  not-end : (a : List ℕ) (x y : Bool) → bytes_eq a (codes "group") ≡ x → bytes_eq a (codes "end") ≡ y → x || y ≡ false → (bytes_eq a (codes "group") ≡ false) × (bytes_eq a (codes "end") ≡ false)
  not-end a true y f g h = absurd cc
  not-end a false true f g h = absurd cc
  not-end a false false f g h = (f, g)

  pub no-end : (ts : List Tok) → goes_on ends_proof ts ≡ false → IsElse (codes "end") r other ts
  no-end [] h = tt
  no-end (Atom a ∷ ts) h = (not-end a (bytes_eq a (codes "group")) (bytes_eq a (codes "end")) refl refl h).1
  no-end (Left ∷ ts) h = tt
  no-end (Right ∷ ts) h = tt
  no-end (Semi ∷ ts) h = tt
  no-end (Eol ∷ ts) h = tt
  no-end (Done ∷ ts) h = tt
  no-end (Stuck ∷ ts) h = tt

  pub no-group : (ts : List Tok) → goes_on ends_proof ts ≡ false → IsElse (codes "group") r other ts
  no-group [] h = tt
  no-group (Atom a ∷ ts) h = (not-end a (bytes_eq a (codes "group")) (bytes_eq a (codes "end")) refl refl h).0
  no-group (Left ∷ ts) h = tt
  no-group (Right ∷ ts) h = tt
  no-group (Semi ∷ ts) h = tt
  no-group (Eol ∷ ts) h = tt
  no-group (Done ∷ ts) h = tt
  no-group (Stuck ∷ ts) h = tt

-- a reader of some of the values
cover-part : {X : Type 0} (read : Reader X) (F G : X → Type 0) (t : X → List Tok) → Covers read F t → ((x : X) → F x → G x) → Part read F G t
cover-part read F G t law up = record {
  takes = law.takes;
  again = law.again;
  halts = λ ts bad e. let s = law.halts ts bad e in record { front = s.front; part = s.part; is = s.is; lines = s.lines; flat = s.flat; fixed = s.fixed; whole = s.whole; fits = up s.whole s.fits; more = s.more; begun = s.begun };
  ends = law.ends;
}

module _ (known : KnownTexts) where
  -- ---- tokens

  lines-real : (own : List Range) (before ls : List (Line known)) → Are known (before ++ ls) → AreTokens (flat_map (line_tokens known own) ls)
  lines-real own before [] h = tt
  lines-real own before (l ∷ ls) h =
      tokens-append (line_tokens known own l) (flat_map (line_tokens known own) ls) (known.laws.real own before l (one-fits known before l ls h))
      (lines-real own (before ++ l ∷ []) ls (subst (Are known) (sym (append_assoc before (l ∷ []) ls)) h))

  proof-real : (p : Proof known) → IsProof known p → AreTokens (proof_tokens known p)
  proof-real p h = tokens-append (group_tokens p.group) (flat_map (line_tokens known p.group.code) p.lines) (group-tokens known.version p.group h.group) (lines-real p.group.code [] p.lines h.lines)

  abbrev pub proofs_tokens : List (Proof known) → List Tok
  proofs_tokens ps = title_tokens (version known) ++ (flat_map (proof_tokens known) ps ++ end_tokens)

  pub proofs-tokens : (ps : List (Proof known)) → AreProofs known ps → AreTokens (proofs_tokens ps)
  proofs-tokens ps h =
      tokens-append (title_tokens (version known)) (flat_map (proof_tokens known) ps ++ end_tokens) (title-tokens known.version)
      (tokens-append (flat_map (proof_tokens known) ps) end_tokens (tokens-each (proof_tokens known) (IsProof known) proof-real ps h) (word-atom (codes "end") refl, (tt, tt)))

  -- ---- further lines of a group, and the proofs behind them

  -- how many groups and lines these are
  abbrev counted : List (Proof known) → ℕ
  counted [] = 0
  counted (p ∷ ps) = suc (length p.lines + counted ps)

  -- so many at most, behind these lines
  record AtMost (n : ℕ) (before : List (Line known)) (t : Tail known) : Type 0 where
    lines : Are known (before ++ t.0)
    proofs : AreProofs known t.1
    few : length t.0 + counted t.1 ≤ n

  abbrev pub tail_tokens : List Range → Tail known → List Tok
  tail_tokens own t = flat_map (line_tokens known own) t.0 ++ (flat_map (proof_tokens known) t.1 ++ end_tokens)

  abbrev first_tokens : Tail known → List Tok
  first_tokens t = flat_map (proof_tokens known) t.1 ++ end_tokens

  -- by what stands first

  abbrev NoneIs : List (Line known) → List (Proof known) → Type 0
  NoneIs [] [] = Unit {0}
  NoneIs [] (p ∷ ps) = ⊥
  NoneIs (l ∷ ls) ps = ⊥

  abbrev IsNone : Tail known → Type 0
  IsNone t = NoneIs t.0 t.1

  abbrev OpensIs : ℕ → List (Line known) → List (Proof known) → Type 0
  OpensIs n [] [] = ⊥
  OpensIs n [] (p ∷ ps) = IsGroupIn (version known) p.group × AtMost n [] (p.lines, ps)
  OpensIs n (l ∷ ls) ps = ⊥

  abbrev IsOpened : ℕ → Tail known → Type 0
  IsOpened n t = OpensIs n t.0 t.1

  abbrev AddsIs : ℕ → List (Line known) → List (Line known) → List (Proof known) → Type 0
  AddsIs n before [] ps = ⊥
  AddsIs n before (l ∷ ls) ps = Fits known before l × AtMost n (before ++ l ∷ []) (ls, ps)

  abbrev IsAdded : ℕ → List (Line known) → Tail known → Type 0
  IsAdded n before t = AddsIs n before t.0 t.1

  -- the tokens behind the first word
  abbrev row_of : List (Line known) → List (Proof known) → List Tok
  row_of [] [] = Eol ∷ []
  row_of [] (p ∷ ps) = ((group_row p.group ++ flat_map (line_tokens known p.group.code) p.lines) ++ flat_map (proof_tokens known) ps) ++ end_tokens
  row_of (l ∷ ls) ps = []

  abbrev rest_row : Tail known → List Tok
  rest_row t = row_of t.0 t.1

  -- ---- the end

  abbrev make_none : Unit {0} → Tail known
  make_none x = ([], [])

  none-from : (ls : List (Line known)) (ps : List (Proof known)) → NoneIs ls ps → (x : Unit {0}) × (make_none x ≡ (ls, ps)) × Always x
  none-from [] [] h = (tt, refl, tt)
  none-from [] (p ∷ ps) h = absurd h
  none-from (l ∷ ls) ps h = absurd h

  end-cover : Covers nothing_more IsNone rest_row
  end-cover = covers-made make_none eol Always (λ _. Eol ∷ []) (row-covers eol Always (λ _. Eol ∷ []) eol-law (λ x h. refl) tt tt) IsNone rest_row (λ x h. tt) (λ x. refl)
      (λ t h. none-from t.0 t.1 h)

  -- ---- a group

  tail-quiet : (own : List Range) (ls : List (Line known)) (ps : List (Proof known)) (us : List Tok) → goes_on is_def (tail_tokens own (ls, ps) ++ us) ≡ false
  tail-quiet own [] [] us = refl
  tail-quiet own [] (p ∷ ps) us = refl
  tail-quiet own (l ∷ ls) ps us =
      let line = line_tokens known own l in
      let lines = flat_map (line_tokens known own) ls in
      let rest = flat_map (proof_tokens known) ps ++ end_tokens in
      ap (λ (ts : List Tok). goes_on is_def (ts ++ us)) (append_assoc line lines rest)
      ∙ ap (goes_on is_def) (append_assoc line (lines ++ rest) us)
      ∙ known.laws.no_def own l ((lines ++ rest) ++ us)

  abbrev Behind : Type 0
  Behind = DefTree × (List DefTree × Tail known)

  abbrev Parts : Type 0
  Parts = Head × Behind

  abbrev make_opened : Parts → Tail known
  make_opened x = group_first x

  abbrev BehindFits : ℕ → Behind → Type 0
  BehindFits n p = IsDef p.0 × ((AllByRecursion IsDef p.1.0 × (length p.1.0 ≤ more_defs)) × AtMost n [] p.1.1)

  abbrev behind_tokens : Head → Behind → List Tok
  behind_tokens h p = def_tokens p.0 ++ (flat_map def_tokens p.1.0 ++ tail_tokens h.code p.1.1)

  abbrev PartsFit : ℕ → Parts → Type 0
  PartsFit n x = HeadFits (version known) x.0 × BehindFits n x.1

  abbrev parts_tokens : Parts → List Tok
  parts_tokens x = lines_of_head x.0 ++ behind_tokens x.0 x.1

  parts-same : (x : Parts) → rest_row (make_opened x) ≡ parts_tokens x
  parts-same x =
      let head : List Tok = lines_of_head x.0 in
      let def : List Tok = def_tokens x.1.0 in
      let defs : List Tok = flat_map def_tokens x.1.1.0 in
      let lines : List Tok = flat_map (line_tokens known x.0.code) x.1.1.1.0 in
      let proofs : List Tok = flat_map (proof_tokens known) x.1.1.1.1 in
      let group : List Tok = group_row (group_of x.0 (x.1.0 ∷ x.1.1.0)) in
      append_assoc (group ++ lines) proofs end_tokens
      ∙ append_assoc group lines (proofs ++ end_tokens)
      ∙ ap (λ (v : List Tok). v ++ (lines ++ (proofs ++ end_tokens))) (group-split x.0 (x.1.0 ∷ x.1.1.0))
      ∙ append_assoc head (def ++ defs) (lines ++ (proofs ++ end_tokens))
      ∙ ap (λ (v : List Tok). head ++ v) (append_assoc def defs (lines ++ (proofs ++ end_tokens)))

  parts-into : (n : ℕ) (x : Parts) → PartsFit n x → IsOpened n (make_opened x)
  parts-into n x h = (
    record { name = h.0.name; registers = h.0.registers; memories = h.0.memories; code = h.0.code.0; bytes = h.0.code.1; defs = (h.1.0, h.1.1.0.0); some = omega arith; few = omega (arith, h.1.1.0.1) },
    h.1.1.1,
  )

  parts-from : (n : ℕ) (ls : List (Line known)) (ps : List (Proof known)) → OpensIs n ls ps → (x : Parts) × (make_opened x ≡ (ls, ps)) × PartsFit n x
  parts-from n [] [] h = absurd h
  parts-from n (l ∷ ls) ps h = absurd h
  parts-from n [] (p ∷ ps) h = of p.group.defs refl h.0.defs h.0.some h.0.few
    where
      of : (ds : List DefTree) → p.group.defs ≡ ds → AllByRecursion IsDef p.group.defs → 1 ≤ length p.group.defs → length p.group.defs ≤ def_limit → (x : Parts) × (make_opened x ≡ ([], p ∷ ps)) × PartsFit n x
      of [] e defs some few = absurd (let len : length p.group.defs ≡ 0 = ap length e in omega (arith, some, len))
      of (d ∷ ds) e defs some few =
          let k : AllByRecursion IsDef (d ∷ ds) = subst (AllByRecursion IsDef) e defs in
          let len : length p.group.defs ≡ suc (length ds) = ap length e in (
            (record { name = p.group.name; regs = p.group.regs; mems = p.group.mems; code = p.group.code }, (d, (ds, (p.lines, ps)))),
            (λ i. ([], record { group = record { name = p.group.name; regs = p.group.regs; mems = p.group.mems; code = p.group.code; defs = sym e i }; lines = p.lines } ∷ ps)),
            (record { name = h.0.name; registers = h.0.registers; memories = h.0.memories; code = (h.0.code, h.0.bytes) }, (k.0, ((k.1, omega (arith, len, few)), h.1))),
          )

  abbrev tail_code : ℕ → List Range → Reader (Tail known)
  tail_code n own = tail_from known n own []

  abbrev pub group_reader : ℕ → Reader (Tail known)
  group_reader n = group_then (version known) (λ code. tail_at known.readers (version known) n code [])

  abbrev CoversTail : ℕ → Type 0
  CoversTail n = (own : List Range) → IsCode own → (before : List (Line known)) → Are known before → Covers (tail_from known n own before) (AtMost n before) (tail_tokens own)

  group-parts : (n : ℕ) → CoversTail n → Covers (with (head_at (version known)) (λ h. behind_head (tail_code n h.code))) (PartsFit n) parts_tokens
  group-parts n inner =
      covers-with (head_at (version known)) (HeadFits (version known)) lines_of_head (head-cover known.version) (λ h. behind_head (tail_code n h.code)) (λ h. BehindFits n) behind_tokens (λ h f.
      covers-with def_at IsDef def_tokens def-cover (λ _. pair defs_at (tail_code n h.code)) (λ _ p. (AllByRecursion IsDef p.0 × (length p.0 ≤ more_defs)) × AtMost n [] p.1) (λ _ p. flat_map def_tokens p.0 ++ tail_tokens h.code p.1) (λ _ _.
      covers-bounded is_def def_at IsDef def_tokens def-cover def-begins (tail_code n h.code) (AtMost n []) (tail_tokens h.code) (inner h.code f.code [] known.laws.none) (λ t k us. tail-quiet h.code t.0 t.1 us) more_defs))

  group-cover : (n : ℕ) → CoversTail n → Covers (group_reader n) (IsOpened n) rest_row
  group-cover n inner = covers-made make_opened (with (head_at (version known)) (λ h. behind_head (tail_code n h.code))) (PartsFit n) parts_tokens (group-parts n inner) (IsOpened n) rest_row (parts-into n) parts-same (λ t h. parts-from n t.0 t.1 h)

  -- ---- a line

  abbrev LineParts : Type 0
  LineParts = Line known × Tail known

  abbrev make_added : LineParts → Tail known
  make_added x = line_first x

  abbrev pub line_reader : ℕ → List Range → List (Line known) → Reader (Tail known)
  line_reader n own before = made line_first (with (known.readers.line_at (version known) own before) (λ l. tail_at known.readers (version known) n own (before ++ l ∷ [])))

  added-from : (n : ℕ) (before ls : List (Line known)) (ps : List (Proof known)) → AddsIs n before ls ps → (x : LineParts) × (make_added x ≡ (ls, ps)) × (Fits known before x.0 × AtMost n (before ++ x.0 ∷ []) x.1)
  added-from n before [] ps h = absurd h
  added-from n before (l ∷ ls) ps h = ((l, (ls, ps)), refl, (h.0, h.1))

  lines-cover : (n : ℕ) → CoversTail n → (own : List Range) → IsCode own → (before : List (Line known)) → Are known before → Covers (line_reader n own before) (IsAdded n before) (tail_tokens own)
  lines-cover n inner own code before are =
      covers-made make_added (with (line_at known own before) (λ l. tail_from known n own (before ++ l ∷ []))) _ _
      (covers-with (line_at known own before) (Fits known before) (line_tokens known own) (line-cover known own code before are) (λ l. tail_from known n own (before ++ l ∷ [])) (λ l. AtMost n (before ++ l ∷ [])) (λ l. tail_tokens own)
      (λ l f. inner own code (before ++ l ∷ []) (known.laws.more before l are f)))
      (IsAdded n before) (tail_tokens own) (λ x h. (h.0, h.1))
      (λ x. append_assoc (line_tokens known own x.0) (flat_map (line_tokens known own) x.1.0) (flat_map (proof_tokens known) x.1.1 ++ end_tokens))
      (λ t h. added-from n before t.0 t.1 h)

  -- ---- the end, or a group, or else

  some-none : (ls : List (Line known)) (ps : List (Proof known)) → NoneIs ls ps → 0 < length (row_of ls ps)
  some-none [] [] h = omega arith
  some-none [] (p ∷ ps) h = absurd h
  some-none (l ∷ ls) ps h = absurd h

  some-opened : (n : ℕ) (ls : List (Line known)) (ps : List (Proof known)) → OpensIs n ls ps → 0 < length (row_of ls ps)
  some-opened n [] [] h = absurd h
  some-opened n [] (p ∷ ps) h = omega arith
  some-opened n (l ∷ ls) ps h = absurd h

  module _ (n : ℕ) (inner : CoversTail n) (w : Tail known → List Tok) (G O : Tail known → Type 0) (other : Reader (Tail known)) (law : Part other O G w)
      (no_lines : (ps : List (Proof known)) → w ([], ps) ≡ first_tokens ([], ps))
      (none-up : G ([], [])) (opened-up : (t : Tail known) → IsOpened n t → G t) (other-up : (t : Tail known) → O t → G t) (down : (t : Tail known) → G t → IsNone t ⊎ (IsOpened n t ⊎ O t))
      (apart : (t : Tail known) → O t → (us : List Tok) → goes_on ends_proof (w t ++ us) ≡ false) where
    abbrev with_group : Reader (Tail known)
    with_group = keyed (codes "group") (group_reader n) other

    none-hit : (ls : List (Line known)) (ps : List (Proof known)) → NoneIs ls ps → w (ls, ps) ≡ Atom (codes "end") ∷ row_of ls ps
    none-hit [] [] h = no_lines []
    none-hit [] (p ∷ ps) h = absurd h
    none-hit (l ∷ ls) ps h = absurd h

    opened-hit : (ls : List (Line known)) (ps : List (Proof known)) → OpensIs n ls ps → w (ls, ps) ≡ Atom (codes "group") ∷ row_of ls ps
    opened-hit [] [] h = absurd h
    opened-hit [] (p ∷ ps) h = no_lines (p ∷ ps)
    opened-hit (l ∷ ls) ps h = absurd h

    none-is : (ls : List (Line known)) (ps : List (Proof known)) → NoneIs ls ps → G (ls, ps)
    none-is [] [] h = none-up
    none-is [] (p ∷ ps) h = absurd h
    none-is (l ∷ ls) ps h = absurd h

    opened-apart : (ls : List (Line known)) (ps : List (Proof known)) → OpensIs n ls ps → (us : List Tok) → IsElse (codes "end") nothing_more with_group (w (ls, ps) ++ us)
    opened-apart [] [] h us = absurd h
    opened-apart [] (p ∷ ps) h us = subst (λ (ts : List Tok). IsElse (codes "end") nothing_more with_group (ts ++ us)) (sym (no_lines (p ∷ ps))) refl
    opened-apart (l ∷ ls) ps h us = absurd h

    group-part : Part with_group (λ t. IsOpened n t ⊎ O t) G w
    group-part = part-keyed (codes "group") (group_reader n) other (IsOpened n) rest_row (group-cover n inner) O G w law
        (λ t h. some-opened n t.0 t.1 h) (λ t h. opened-hit t.0 t.1 h) opened-up (λ t h us. no-group (group_reader n) other (w t ++ us) (apart t h us))

    either-apart : (t : Tail known) → IsOpened n t ⊎ O t → (us : List Tok) → IsElse (codes "end") nothing_more with_group (w t ++ us)
    either-apart t (inl h) us = opened-apart t.0 t.1 h us
    either-apart t (inr h) us = no-end nothing_more with_group (w t ++ us) (apart t h us)

    up : (t : Tail known) → IsNone t ⊎ (IsOpened n t ⊎ O t) → G t
    up t (inl h) = none-is t.0 t.1 h
    up t (inr (inl h)) = opened-up t h
    up t (inr (inr h)) = other-up t h

    either-cover : Covers (keyed (codes "end") nothing_more with_group) G w
    either-cover = covers-part (keyed (codes "end") nothing_more with_group) (λ t. IsNone t ⊎ (IsOpened n t ⊎ O t)) G w
        (part-keyed (codes "end") nothing_more with_group IsNone rest_row end-cover (λ t. IsOpened n t ⊎ O t) G w group-part (λ t h. some-none t.0 t.1 h) (λ t h. none-hit t.0 t.1 h) (λ t h. none-is t.0 t.1 h) either-apart)
        down up ([], []) none-up

  -- ---- with so many at most

  nothing-fits : (n : ℕ) (before : List (Line known)) → Are known before → AtMost n before ([], [])
  nothing-fits n before are = record { lines = subst (Are known) (sym (append-nil before)) are; proofs = tt; few = omega arith }

  opened-fits : (n : ℕ) (before : List (Line known)) → Are known before → (ls : List (Line known)) (ps : List (Proof known)) → OpensIs n ls ps → AtMost (suc n) before (ls, ps)
  opened-fits n before are [] [] h = absurd h
  opened-fits n before are [] (p ∷ ps) h = record { lines = subst (Are known) (sym (append-nil before)) are; proofs = (record { group = h.0; lines = h.1.lines }, h.1.proofs); few = omega (arith, h.1.few) }
  opened-fits n before are (l ∷ ls) ps h = absurd h

  added-fits : (n : ℕ) (before ls : List (Line known)) (ps : List (Proof known)) → AddsIs n before ls ps → AtMost (suc n) before (ls, ps)
  added-fits n before [] ps h = absurd h
  added-fits n before (l ∷ ls) ps h = record { lines = subst (Are known) (append_assoc before (l ∷ []) ls) h.1.lines; proofs = h.1.proofs; few = omega (arith, h.1.few) }

  fits-down : (n : ℕ) (before ls : List (Line known)) (ps : List (Proof known)) → AtMost (suc n) before (ls, ps) → NoneIs ls ps ⊎ (OpensIs n ls ps ⊎ AddsIs n before ls ps)
  fits-down n before [] [] h = inl tt
  fits-down n before [] (p ∷ ps) h = inr (inl (h.proofs.0.group, record { lines = h.proofs.0.lines; proofs = h.proofs.1; few = omega (arith, h.few) }))
  fits-down n before (l ∷ ls) ps h = inr (inr (one-fits known before l ls h.lines, record { lines = subst (Are known) (sym (append_assoc before (l ∷ []) ls)) h.lines; proofs = h.proofs; few = omega (arith, h.few) }))

  added-apart : (n : ℕ) (own : List Range) (before ls : List (Line known)) (ps : List (Proof known)) → AddsIs n before ls ps → (us : List Tok) → goes_on ends_proof (tail_tokens own (ls, ps) ++ us) ≡ false
  added-apart n own before [] ps h us = absurd h
  added-apart n own before (l ∷ ls) ps h us =
      let line = line_tokens known own l in
      let lines = flat_map (line_tokens known own) ls in
      let rest = flat_map (proof_tokens known) ps ++ end_tokens in
      ap (λ (ts : List Tok). goes_on ends_proof (ts ++ us)) (append_assoc line lines rest)
      ∙ ap (goes_on ends_proof) (append_assoc line (lines ++ rest) us)
      ∙ known.laws.begins own l ((lines ++ rest) ++ us)

  -- nothing fits but nothing
  zero-down : (before ls : List (Line known)) (ps : List (Proof known)) → AtMost 0 before (ls, ps) → NoneIs ls ps ⊎ Never {X = Tail known} (ls, ps)
  zero-down before [] [] h = inl tt
  zero-down before [] (p ∷ ps) h = absurd (omega (arith, h.few))
  zero-down before (l ∷ ls) ps h = absurd (omega (arith, h.few))

  zero-up : (before : List (Line known)) → Are known before → (ls : List (Line known)) (ps : List (Proof known)) → NoneIs ls ps → AtMost 0 before (ls, ps)
  zero-up before are [] [] h = nothing-fits 0 before are
  zero-up before are [] (p ∷ ps) h = absurd h
  zero-up before are (l ∷ ls) ps h = absurd h

  zero-hit : (own : List Range) (ls : List (Line known)) (ps : List (Proof known)) → NoneIs ls ps → tail_tokens own (ls, ps) ≡ Atom (codes "end") ∷ row_of ls ps
  zero-hit own [] [] h = refl
  zero-hit own [] (p ∷ ps) h = absurd h
  zero-hit own (l ∷ ls) ps h = absurd h

  zero-cover : (own : List Range) (before : List (Line known)) → Are known before → Covers (keyed (codes "end") nothing_more refused) (AtMost 0 before) (tail_tokens own)
  zero-cover own before are = covers-part (keyed (codes "end") nothing_more refused) (λ t. IsNone t ⊎ Never t) (AtMost 0 before) (tail_tokens own)
      (part-keyed (codes "end") nothing_more refused IsNone rest_row end-cover Never (AtMost 0 before) (tail_tokens own) (part-refused (AtMost 0 before) (tail_tokens own) ([], []) (nothing-fits 0 before are))
      (λ t h. some-none t.0 t.1 h) (λ t h. zero-hit own t.0 t.1 h) (λ t h. zero-up before are t.0 t.1 h) (λ t h us. absurd h))
      (λ t h. zero-down before t.0 t.1 h) (λ t h. elim h [ inl k ↦ zero-up before are t.0 t.1 k | inr k ↦ absurd k ]) ([], []) (nothing-fits 0 before are)

  tail-law : (n : ℕ) → CoversTail n
  unfolding tail_at
  tail-law zero own code before are = zero-cover own before are
  tail-law (suc n) own code before are =
      either-cover n (tail-law n) (tail_tokens own) (AtMost (suc n) before) (IsAdded n before) (line_reader n own before)
      (cover-part (line_reader n own before) (IsAdded n before) (AtMost (suc n) before) (tail_tokens own) (lines-cover n (tail-law n) own code before are) (λ t h. added-fits n before t.0 t.1 h))
      (λ ps. refl) (nothing-fits (suc n) before are) (λ t h. opened-fits n before are t.0 t.1 h) (λ t h. added-fits n before t.0 t.1 h) (λ t h. fits-down n before t.0 t.1 h) (λ t h us. added-apart n own before t.0 t.1 h us)

  -- ---- whole texts

  abbrev NoLines : List (Line known) → Type 0
  NoLines [] = Unit {0}
  NoLines (l ∷ ls) = ⊥

  record IsFirst (n : ℕ) (t : Tail known) : Type 0 where
    lines : NoLines t.0
    proofs : AreProofs known t.1
    few : counted t.1 ≤ suc n

  first-opened : (n : ℕ) (ls : List (Line known)) (ps : List (Proof known)) → OpensIs n ls ps → IsFirst n (ls, ps)
  first-opened n [] [] h = absurd h
  first-opened n [] (p ∷ ps) h = record { lines = tt; proofs = (record { group = h.0; lines = h.1.lines }, h.1.proofs); few = omega (arith, h.1.few) }
  first-opened n (l ∷ ls) ps h = absurd h

  first-down : (n : ℕ) (ls : List (Line known)) (ps : List (Proof known)) → IsFirst n (ls, ps) → NoneIs ls ps ⊎ (OpensIs n ls ps ⊎ Never {X = Tail known} (ls, ps))
  first-down n [] [] h = inl tt
  first-down n [] (p ∷ ps) h = inr (inl (h.proofs.0.group, record { lines = h.proofs.0.lines; proofs = h.proofs.1; few = omega (arith, h.few) }))
  first-down n (l ∷ ls) ps h = absurd h.lines

  nothing-first : (n : ℕ) → IsFirst n ([], [])
  nothing-first n = record { lines = tt; proofs = tt; few = omega arith }

  first-law : (n : ℕ) → Covers (first_from known n) (IsFirst n) first_tokens
  first-law n =
      either-cover n (tail-law n) first_tokens (IsFirst n) Never refused (part-refused (IsFirst n) first_tokens ([], []) (nothing-first n))
      (λ ps. refl) (nothing-first n) (λ t h. first-opened n t.0 t.1 h) (λ t h. absurd h) (λ t h. first-down n t.0 t.1 h) (λ t h us. absurd h)

  -- what follows agrees where it goes on
  module _ {X Y : Type 0} (a : Reader X) (f g : X → Reader Y) where
    with-out : (ts : List Tok) (q : Out X) → a ts ≡ q → ((x : X) (us : List Tok) → a ts ≡ Ok (x, us) → f x us ≡ g x us)
        → ◌>>=◌ {A = X × List Tok} {B = (X × Y) × List Tok} q (λ p. f p.0 p.1 >>= λ y. Ok ((p.0, y.0), y.1)) ≡ ◌>>=◌ {A = X × List Tok} {B = (X × Y) × List Tok} q (λ p. g p.0 p.1 >>= λ y. Ok ((p.0, y.0), y.1))
    with-out ts (Ok p) e h = ap (λ (q : Out Y). ◌>>=◌ {A = Y × List Tok} {B = (X × Y) × List Tok} q (λ y. Ok ((p.0, y.0), y.1))) (h p.0 p.1 e)
    with-out ts (Err bad) e h = refl

    with-alike : (ts : List Tok) → ((x : X) (us : List Tok) → a ts ≡ Ok (x, us) → f x us ≡ g x us) → with a f ts ≡ with a g ts
    with-alike ts h = with-out ts (a ts) refl h

  -- a group, with what agrees behind it
  group-alike : (f g : List Range → Reader (Tail known)) (ts : List Tok) → ((code : List Range) (us : List Tok) → IsCode code → length us ≤ length ts → f code us ≡ g code us) → group_then (version known) f ts ≡ group_then (version known) g ts
  group-alike f g ts same =
      made-alike group_first (with (head_at (version known)) (λ h. behind_head (f h.code))) (with (head_at (version known)) (λ h. behind_head (g h.code))) ts
      (with-alike (head_at (version known)) (λ h. behind_head (f h.code)) (λ h. behind_head (g h.code)) ts (λ h us e.
      let fits : HeadFits (version known) h = ((head-cover known.version).takes ts h us e).1 in
      let lu : length us ≤ length ts = no-longer (head_at (version known)) (HeadFits (version known)) lines_of_head (head-cover known.version) ts h us e in
      pair-alike def_at (no-longer def_at IsDef def_tokens def-cover) (pair defs_at (f h.code)) (pair defs_at (g h.code)) us (λ ws lw.
      pair-alike defs_at (many-no-longer is_def def_at def-shrinks more_defs) (f h.code) (g h.code) ws (λ xs lx. same h.code xs fits.code (omega (arith, lu, lw, lx))))))

  either-alike : (f g : List Range → Reader (Tail known)) (r q : Reader (Tail known)) (ts : List Tok) → ((code : List Range) (us : List Tok) → IsCode code → length us < length ts → f code us ≡ g code us) → r ts ≡ q ts
      → end_or_group (version known) f r ts ≡ end_or_group (version known) g q ts
  either-alike f g r q ts same other =
      keyed-else (codes "end") nothing_more (keyed (codes "group") (group_then (version known) f) r) (keyed (codes "group") (group_then (version known) g) q) ts
      (keyed-alike (codes "group") (group_then (version known) f) (group_then (version known) g) r ts (λ us lt. group-alike f g us (λ code vs c le. same code vs c (omega (arith, lt, le))))
      ∙ keyed-else (codes "group") (group_then (version known) g) r q ts other)

  abbrev Alike : ℕ → ℕ → Type 0
  Alike n m = (own : List Range) → IsCode own → (before : List (Line known)) → Are known before → (ts : List Tok) → length ts ≤ n → length ts ≤ m → tail_from known n own before ts ≡ tail_from known m own before ts

  line-alike : (n m : ℕ) → Alike n m → (own : List Range) → IsCode own → (before : List (Line known)) → Are known before → (ts : List Tok) → length ts ≤ suc n → length ts ≤ suc m → line_reader n own before ts ≡ line_reader m own before ts
  line-alike n m ih own code before are ts le less =
      made-alike line_first (with (line_at known own before) (λ l. tail_from known n own (before ++ l ∷ []))) (with (line_at known own before) (λ l. tail_from known m own (before ++ l ∷ []))) ts
      (with-alike (line_at known own before) (λ l. tail_from known n own (before ++ l ∷ [])) (λ l. tail_from known m own (before ++ l ∷ [])) ts (λ l us e.
      let took = (known.laws.reads own code before are).takes ts l us e in
      let lt : length us < length ts = line-shorter l ts us took.0 in
      ih own code (before ++ l ∷ []) (known.laws.more before l are took.1) us (omega (arith, le, lt)) (omega (arith, less, lt))))
    where
      line-shorter : (l : Line known) (ts us : List Tok) → ts ≡ line_tokens known own l ++ us → length us < length ts
      line-shorter l ts us e = let len : length ts ≡ length (line_tokens known own l ++ us) = ap length e in omega (arith, len, length-append (line_tokens known own l) us, known.laws.long own l)

  -- no line is read of nothing
  line-of-nothing : (own : List Range) → IsCode own → (before : List (Line known)) → Are known before → (q : Out (Line known)) → line_at known own before [] ≡ q → q ≡ Err []
  line-of-nothing own code before are (Ok p) e =
      let took = (known.laws.reads own code before are).takes [] p.0 p.1 e in
      let len : 0 ≡ length (line_tokens known own p.0 ++ p.1) = ap length took.0 in
      absurd (omega (arith, len, length-append (line_tokens known own p.0) p.1, known.laws.long own p.0))
  line-of-nothing own code before are (Err bad) e = ap (λ (v : List Tok). Err v) (no-tokens bad ((known.laws.reads own code before are).stops [] bad e).part ((known.laws.reads own code before are).stops [] bad e).is)
    where
      no-tokens : (bad part : List Tok) → [] ≡ part ++ bad → bad ≡ []
      no-tokens bad [] e = sym e
      no-tokens bad (t ∷ part) e = absurd cc

  nothing-read : (m : ℕ) → Alike zero m
  unfolding tail_at
  nothing-read zero own code before are ts le less = refl
  nothing-read (suc m) own code before are [] le less =
      sym (ap (λ (q : Out (Line known)). ◌>>=◌ {A = (Line known × Tail known) × List Tok} {B = Tail known × List Tok} (◌>>=◌ {A = Line known × List Tok} {B = (Line known × Tail known) × List Tok} q (λ p. ◌>>=◌ {A = Tail known × List Tok} {B = (Line known × Tail known) × List Tok} (tail_from known m own (before ++ p.0 ∷ []) p.1) (λ y. Ok ((p.0, y.0), y.1)))) (λ p. Ok (line_first p.0, p.1))) (line-of-nothing own code before are (line_at known own before []) refl))
  nothing-read (suc m) own code before are (t ∷ ts) le less = absurd (omega (arith, le))

  pub enough : (n m : ℕ) → Alike n m
  unfolding tail_at
  enough zero m own code before are ts le less = nothing-read m own code before are ts le less
  enough (suc n) zero own code before are ts le less = sym (nothing-read (suc n) own code before are ts less le)
  enough (suc n) (suc m) own code before are ts le less =
      either-alike (λ c. tail_from known n c []) (λ c. tail_from known m c []) (line_reader n own before) (line_reader m own before) ts
      (λ c us f lt. enough n m c f [] known.laws.none us (omega (arith, le, lt)) (omega (arith, less, lt)))
      (line-alike n m (enough n m) own code before are ts le less)

  pub enough-first : (n m : ℕ) (ts : List Tok) → length ts ≤ n → length ts ≤ m → first_from known n ts ≡ first_from known m ts
  enough-first n m ts le less = either-alike (λ c. tail_from known n c []) (λ c. tail_from known m c []) refused refused ts (λ c us f lt. enough n m c f [] known.laws.none us (omega (arith, le, lt)) (omega (arith, less, lt))) refl

  record AreFirst (t : Tail known) : Type 0 where
    lines : NoLines t.0
    proofs : AreProofs known t.1

  all-law : Covers (all known) AreFirst first_tokens
  all-law = covers-whole (first_from known) IsFirst AreFirst first_tokens first-law (λ n t h. record { lines = h.lines; proofs = h.proofs }) (λ t. counted t.1) (λ n t h le. record { lines = h.lines; proofs = h.proofs; few = omega (arith, le) }) enough-first

  abbrev Title : Type 0
  Title = Unit {0} × (Unit {0} × Unit {0})

  -- a whole text is read as it is spelled, and where reading stops the lines before begin a text
  pub proof-text-law : Covers (text_at known) (AreProofs known) proofs_tokens
  proof-text-law = covers-made (λ (x : Title × Tail known). x.1.1) (pair (title_row (version known)) (all known)) _ _
      (covers-with (title_row (version known)) _ _ (title-cover (version known)) (λ _. all known) (λ _. AreFirst) (λ _. first_tokens) (λ _ _. all-law))
      (AreProofs known) proofs_tokens (λ x h. h.1.proofs) (λ x. refl) (λ ps h. (((tt, (tt, tt)), ([], ps)), refl, ((tt, (tt, tt)), record { lines = tt; proofs = h })))

  -- a text is that of one list of proofs
  pub proofs-once : (ps qs : List (Proof known)) → AreProofs known ps → AreProofs known qs → text_of known ps ≡ text_of known qs → ps ≡ qs
  proofs-once ps qs a b e =
      let same : Ok (ps, Done ∷ []) ≡ Ok (qs, Done ∷ []) =
      sym (text-read (text_at known) (AreProofs known) _ proof-text-law proofs-tokens ps a) ∙ ap (λ (v : List ℕ). text_at known (lex v (At Start))) e ∙ text-read (text_at known) (AreProofs known) _ proof-text-law proofs-tokens qs b in
      ok-value ps qs (Done ∷ []) (Done ∷ []) same

  bare-once : (gs hs : List GroupTree) → map (alone known.readers.grammar (version known)) gs ≡ map (alone known.readers.grammar (version known)) hs → gs ≡ hs
  bare-once [] [] e = refl
  bare-once [] (h ∷ hs) e = absurd cc
  bare-once (g ∷ gs) [] e = absurd cc
  bare-once (g ∷ gs) (h ∷ hs) e =
      let first : alone known.readers.grammar (version known) g ≡ alone known.readers.grammar (version known) h = cc in
      let rest : map (alone known.readers.grammar (version known)) gs ≡ map (alone known.readers.grammar (version known)) hs = cc in
      let others = bare-once gs hs rest in
      (λ i. (first i).group ∷ others i)

  -- a text is that of one list of groups alone
  pub groups-once : (gs hs : List GroupTree) → AreGroupsIn (version known) gs → AreGroupsIn (version known) hs → text_in (version known) gs ≡ text_in (version known) hs → gs ≡ hs
  groups-once gs hs a b e =
      let L = known.readers.grammar in
      let none = known.laws.none in
      bare-once gs hs (proofs-once (map (alone L (version known)) gs) (map (alone L (version known)) hs) (bare-fit L (version known) none gs a) (bare-fit L (version known) none hs b) (bare-text L (version known) gs ∙ e ∙ sym (bare-text L (version known) hs)))
