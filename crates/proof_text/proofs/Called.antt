-- What a call answers, from what its parts found.
use Rattle.std.proofs.Common.{◌≡◌, ℕ, suc, ◌+◌, ◌-◌, ◌^◌, ◌≤◌, ◌<◌, Bool, true, false, eqb, true≢false, List, [], ◌∷◌, ◌++◌, length, Option, Some, None, Ok, Err, refl, sym, ap, subst, ◌∙◌, arith, length-append, inl, inr}
use Rattle.mc_text.specs.Tokens.{Tok, Left, Right, Semi, Atom, Eol, Done, Stuck}
use Rattle.mc_text.specs.declared.token.Before.TheVariants.{Start, Open, Later}
use Rattle.mc_text.specs.declared.token.Class.{Class}
use Rattle.mc_text.specs.declared.token.Class.TheVariants.{Letter, LeftMark, RightMark, SemiMark, Newline, Space, Other}
use Rattle.mc_text.specs.Scanning.{class_of, State, At, Spaced, Within, lex, byte_step, prepend, or_stuck, ended, loose, tight, grows, parts, at_end, eols}
use Rattle.mc_text.specs.Reading.{goes_on}
use Rattle.mc_text.specs.Fault.{IsBadAt, newlines}
use Rattle.mc_text.proofs.Lines.{AreTokens, IsLines}
use Rattle.mc_text.proofs.ReaderLaws.{Out, ok-value, ok-not-err}
use Rattle.mc_text.proofs.FaultLine.{AreLines}
use Rattle.rv_words.specs.declared.range.Range.{Range}
use Rattle.tailrec_lang.specs.Tree.{GroupTree}
use Rattle.tailrec_lang.specs.Eval.{HasFewNeeds}
use Rattle.group_text.specs.Limits.{IsGroupIn}
use Rattle.group_text.specs.declared.version.Version.{Version as Known}
use Rattle.group_text.specs.Version.{Version as Form, version_of}
use Rattle.group_text.specs.inner.Cut.{AreWholeLines, drop_lines}
use Rattle.group_text.specs.inner.Rest.{GoesOn, is_done}
use Rattle.group_text.specs.inner.Reading.{is_def, turn_at}
use Rattle.group_text.proofs.HeadLaws.{IsCode}
use Rattle.group_text.proofs.Parts.{group-whole}
use Rattle.group_text.proofs.Real.{group-tokens}
use Rattle.group_text.proofs.Cuts.{are-lines, whole-lines}
use Rattle.proof_text.specs.Line.{ProofOf}
use Rattle.proof_text.specs.LineGrammar.{LineGrammar, AreProofsOver, texts_over, text_over}
use Rattle.proof_text.specs.Proofs.{bare}
use Rattle.proof_text.specs.FirstProofs.{Progress, HasGivenOver, ItemOf, Opens, Adds, items, with_line, ProofEnds, MayOpen}
use Rattle.proof_text.specs.inner.LineReaders.{KnownTexts, LineReaders, ReadsLines, IsBehindLines, ends_proof}
use Rattle.proof_text.proofs.KnownLines.{version, Line, Proof, Item, line_tokens, Are, Fits, turn, texts, HasGiven, NoItem, text_at}
use Rattle.proof_text.proofs.Following.{ends-follow, follow-ends}
use Rattle.proof_text.proofs.TextItems.{IsItem, AreItems, StartsOpen, last_code, last_lines, items-start, items-opened, items-added, items-fewer, last-is, last-lines, last-fits, last-are}
use Rattle.proof_text.proofs.Resumed.{OneLine, ends-nothing, line-takes, line-ends, line-again}
use Rattle.proof_text.proofs.Passed.{front_tokens, is_first, group_turn, turn_tokens, MayFollow, Turn, turn-takes, turn-again, turn-stops, turn-end, line-stops, turn-lines, turn-real, group-turned}
use Rattle.proof_text.proofs.Given.{Given, given-items, items-given, first-is, shorter, still-lines, short, less, few, quiet, bad-call, bad-more, bad-tail-more, whole-call, given-more, would-read}

-- ---- no more lines than bytes

prepend-eols : (b : ℕ) (ts : List Tok) → eols (prepend b ts) ≤ eols ts
prepend-eols b [] = omega arith
prepend-eols b (Atom a ∷ ts) = omega arith
prepend-eols b (Left ∷ ts) = omega arith
prepend-eols b (Right ∷ ts) = omega arith
prepend-eols b (Semi ∷ ts) = omega arith
prepend-eols b (Eol ∷ ts) = omega arith
prepend-eols b (Done ∷ ts) = omega arith
prepend-eols b (Stuck ∷ ts) = omega arith

or-eols : (f : Bool) (ts : List Tok) (n : ℕ) → eols ts ≤ n → eols (or_stuck f ts) ≤ n
or-eols true ts n h = h
or-eols false ts n h = omega arith

ended-eols : (s : State) (ts : List Tok) (n : ℕ) → eols ts ≤ n → eols (ended s ts) ≤ n
ended-eols (At m) ts n h = h
ended-eols Spaced ts n h = h
ended-eols Within ts n h = omega (arith, h)

step-eols : (c : Class) (b : ℕ) (s : State) (k : State → List Tok) (n : ℕ) → ((s : State) → eols (k s) ≤ n) → eols (byte_step c b s k) ≤ suc n
step-eols Letter b s k n h = or-eols (grows s) (prepend b (k Within)) (suc n) (omega (arith, prepend-eols b (k Within), h Within))
step-eols LeftMark b s k n h = ended-eols s _ (suc n) (or-eols (loose s) (Left ∷ k (At Open)) (suc n) (omega (arith, h (At Open))))
step-eols RightMark b s k n h = ended-eols s _ (suc n) (or-eols (tight s) (Right ∷ k (At Later)) (suc n) (omega (arith, h (At Later))))
step-eols SemiMark b s k n h = ended-eols s _ (suc n) (or-eols (loose s) (Semi ∷ k (At Later)) (suc n) (omega (arith, h (At Later))))
step-eols Newline b s k n h = ended-eols s _ (suc n) (or-eols (tight s) (Eol ∷ k (At Start)) (suc n) (omega (arith, h (At Start))))
step-eols Space b s k n h = ended-eols s _ (suc n) (or-eols (parts s) (k Spaced) (suc n) (omega (arith, h Spaced)))
step-eols Other b s k n h = ended-eols s (Stuck ∷ []) (suc n) (omega arith)

end-eols : (s : State) → eols (at_end s) ≤ 0
end-eols (At Start) = omega arith
end-eols (At Open) = omega arith
end-eols (At Later) = omega arith
end-eols Spaced = omega arith
end-eols Within = omega arith

eols-short : (bytes : List ℕ) (s : State) → eols (lex bytes s) ≤ length bytes
unfolding lex
eols-short [] s = end-eols s
eols-short (b ∷ bs) s = step-eols (class_of b) b s (lex bs) (length bs) (eols-short bs)

-- ---- a call

-- the first item is a group
starts-more : {L : Type 0} (is : List (ItemOf L)) (i : ItemOf L) → StartsOpen is → (is ≡ [] → StartsOpen (i ∷ [])) → StartsOpen (is ++ i ∷ [])
starts-more [] i s h = h refl
starts-more (Opens g ∷ is) i s h = tt
starts-more (Adds l ∷ is) i s h = s

some-items : {L : Type 0} (ps : List (ProofOf L)) (p : ProofOf L) → items (ps ++ p ∷ []) ≡ [] → ⊥
some-items [] p e = cc
some-items (q ∷ ps) p e = cc

-- the lines of the last proof may stand behind a group
pub last-proof-are : (L : LineGrammar) (v : Form) (ps : List (ProofOf L.Line)) (p : ProofOf L.Line) → AreProofsOver L v (ps ++ p ∷ []) → L.Are v p.lines
last-proof-are L v [] p h = h.0.lines
last-proof-are L v (q ∷ ps) p h = last-proof-are L v ps p h.1

module _ (R : LineReaders) (v : Known) (text rest : List ℕ) (place : ℕ) (now : Progress) (is : record { version = v; text = text; rest = rest; place = place } ≡ now) (laws : ReadsLines R (version_of now.version)) where
  -- the texts of a reader that stands so
  abbrev pub read_known : KnownTexts
  read_known = record { readers = R; version = v; laws = subst (λ (p : Progress). ReadsLines R (version_of p.version)) (sym is) laws }

  pub now-are : (ps : List (ProofOf R.grammar.Line)) (p : ProofOf R.grammar.Line) → HasGivenOver R.grammar (ps ++ p ∷ []) now → (before : List R.grammar.Line) → p.lines ≡ before → R.grammar.Are (version_of v) before
  now-are ps p h before same = subst (R.grammar.Are (version_of v)) same (subst (λ (q : Progress). R.grammar.Are (version_of q.version) p.lines) (sym is) (last-proof-are R.grammar (version_of now.version) ps p h.fit))

  pub as-are : (before : List R.grammar.Line) → R.grammar.Are (version_of now.version) before → R.grammar.Are (version_of v) before
  as-are before h = subst (λ (q : Progress). R.grammar.Are (version_of q.version) before) (sym is) h

  pub as-fits : (before : List R.grammar.Line) (l : R.grammar.Line) → R.Fits (version_of v) before l → R.Fits (version_of now.version) before l
  as-fits before l h = subst (λ (q : Progress). R.Fits (version_of q.version) before l) is h

  pub kept-are : (Behind : List R.grammar.Line → Type 0) → IsBehindLines R (version_of now.version) Behind → (before : List R.grammar.Line) × Behind before × R.grammar.Are (version_of v) before
  kept-are Behind kept = (kept.0, kept.1, subst (λ (q : Progress). R.grammar.Are (version_of q.version) kept.0) (sym is) kept.2)

module _ (known : KnownTexts) where
  last-item : (is js : List (Item known)) (i : Item known) → js ≡ is ++ i ∷ [] → AreItems known [] js → IsItem known (last_lines [] is) i
  last-item is js i e h = (items-fewer known [] is (i ∷ []) (subst (AreItems known []) e h)).1.0

  module _ (text lines tail : List ℕ) (place : ℕ) (now : Progress) (is : record { version = known.version; text = text; rest = lines ++ tail; place = place } ≡ now) (whole : AreWholeLines lines) (none : newlines tail ≡ 0)
      (us : List Tok) (passed : ℕ) (counted : passed + 1 + eols us ≡ 1 + eols (lex lines (At Start))) where
    abbrev r : Progress
    r = record { version = known.version; text = text; rest = lines ++ tail; place = place }

    abbrev ts : List Tok
    ts = lex lines (At Start)

    abbrev line : ℕ
    line = passed + 1

    passed-is : line - 1 ≡ passed
    passed-is = omega arith

    at-passed : drop_lines (line - 1) lines ≡ drop_lines passed lines
    at-passed = ap (λ (n : ℕ). drop_lines n lines) passed-is

    line-at : place + line ≡ place + passed + 1
    line-at = omega arith

    told-bad : IsBadAt (texts known) text (place + line) → IsBadAt (texts_over known.readers.grammar (version_of now.version)) now.text (place + passed + 1)
    told-bad b = subst (λ (n : ℕ). IsBadAt (texts_over known.readers.grammar (version_of now.version)) now.text n) line-at (subst (λ (p : Progress). IsBadAt (texts_over known.readers.grammar (version_of p.version)) p.text (place + line)) is b)

    pub line-small : place + length lines ≤ 2 ^ 63 → place + line < 2 ^ 64
    line-small le = omega (arith, le, counted, eols-short lines (At Start))

    here : (ps : List (Proof known)) → HasGiven known ps now → Given known (items ps) r
    here ps h = given-items known ps r refl (subst (HasGiven known ps) (sym is) h)

    bytes-whole : AreLines lines
    bytes-whole = are-lines lines whole

    -- ---- the next item

    -- where it would have been read
    abbrev Would : Item known → List (Item known) → Type 0
    Would i front = (vs : List Tok) × (ts ≡ turn_tokens known front i ++ vs) × ((g : GroupTree) → i ≡ Opens g → goes_on is_def vs ≡ false)

    would : (ps : List (Proof known)) → HasGiven known ps now → (i : Item known) (qs : List (Proof known)) (new : Progress) → new.text ≡ now.text → new.version ≡ now.version → items qs ≡ items ps ++ i ∷ [] → HasGiven known qs new → IsItem known (last_lines [] (items ps)) i × Would i (items ps)
    would ps h i qs new same kind e k =
        let all : Given known (items qs) new = given-items known qs new (kind ∙ ap (λ (p : Progress). p.version) (sym is)) k in
        let fits = last-item (items ps) (items qs) i e all.fit in
        let more : Given known (items ps ++ i ∷ []) new = subst (λ (js : List (Item known)). Given known js new) e all in
        (fits, would-read known (items ps) r (here ps h) lines tail refl bytes-whole none i fits new (same ∙ ap (λ (p : Progress). p.text) (sym is)) more)

    -- none comes where no group and no line can be read
    module _ (ps : List (Proof known)) (h : HasGiven known ps now) (no_group : (g : GroupTree) (vs : List Tok) → turn_at (version known) (eqb place 0) ts ≡ Ok (Some g, vs) → ⊥)
        (no_line : (l : Line known) (vs : List Tok) → (items ps ≡ [] → ⊥) → Fits known (last_lines [] (items ps)) l → ts ≡ line_tokens known (last_code [] (items ps)) l ++ vs → ⊥) where
      not-group : (g : GroupTree) → IsGroupIn (version known) g → Would (Opens g) (items ps) → ⊥
      not-group g f w =
          let first = first-is known (items ps) r (here ps h) in
          no_group g w.0 (ap (λ (b : Bool). turn_at (version known) b ts) first ∙ ap (turn_at (version known) (is_first (items ps))) (w.1 ∙ ap (λ (v : List Tok). v ++ w.0) (group-turned known (items ps) g)) ∙ turn-again known (is_first (items ps)) g w.0 f (w.2 g refl))

      not-line : (l : Line known) (front : List (Item known)) → items ps ≡ front → StartsOpen (front ++ Adds l ∷ []) → Fits known (last_lines [] (items ps)) l → Would (Adds l) front → ⊥
      not-line l [] e s f w = s
      not-line l (i ∷ js) e s f w = no_line l w.0 (λ n. clash (sym e ∙ n)) f (w.1 ∙ ap (λ (front : List (Item known)). line_tokens known (last_code [] front) l ++ w.0) (sym e))
        where
          clash : i ∷ js ≡ [] → ⊥
          clash k = cc

      pub none-comes : NoItem known ps now
      none-comes (Opens g) qs new same kind e k = let w = would ps h (Opens g) qs new same kind e k in not-group g w.0 w.1
      none-comes (Adds l) qs new same kind e k =
          let w = would ps h (Adds l) qs new same kind e k in
          not-line l (items ps) refl (subst StartsOpen e (items-start qs)) w.0 w.1

    -- ---- where an item was read

    module _ (piece : List Tok) (ends : IsLines piece) (real : AreTokens piece) (lexed : ts ≡ piece ++ us) where
      item-short : length piece ≤ length lines
      item-short = short lines piece us lexed ends real

      module _ (next : List ℕ) (next-is : next ≡ drop_lines passed lines) where
        next-at : next ≡ drop_lines (line - 1) lines
        next-at = next-is ∙ sym at-passed

        item-place : place + length lines ≤ 2 ^ 63 → place + passed + length next ≤ 2 ^ 63
        item-place le =
            let less = shorter lines piece us lexed ends real line counted in
            let len : length next ≡ length (drop_lines (line - 1) lines) = ap length next-at in
            omega (arith, le, less, len, passed-is)

        item-lines : AreWholeLines next
        item-lines = whole-lines next (subst AreLines (sym next-at) (still-lines lines piece us lexed ends real line counted bytes-whole))

        item-less : 1 ≤ length piece → length (next ++ tail) < length now.rest
        item-less some =
            let fewer = less lines piece us lexed ends real line counted some in
            let len : length next ≡ length (drop_lines (line - 1) lines) = ap length next-at in
            let old : length (lines ++ tail) ≡ length now.rest = ap (λ (p : Progress). length p.rest) is in
            omega (arith, fewer, len, sym old, length-append next tail, length-append lines tail)

    module _ (next : List ℕ) (next-is : next ≡ drop_lines passed lines) where
      abbrev new : Progress
      new = record { version = known.version; text = text; rest = next ++ tail; place = place + passed }

      item-given : (ps : List (Proof known)) → HasGiven known ps now → (i : Item known) → IsItem known (last_lines [] (items ps)) i → ts ≡ turn_tokens known (items ps) i ++ us → ((g : GroupTree) → i ≡ Opens g → goes_on is_def us ≡ false) → (items ps ≡ [] → StartsOpen (i ∷ [])) → Given known (items ps ++ i ∷ []) new
      item-given ps h i f e stop first =
          subst (λ (x : List ℕ × ℕ). Given known (items ps ++ i ∷ []) (record { version = known.version; text = text; rest = x.0 ++ tail; place = place + x.1 })) (λ k. ((at-passed ∙ sym next-is) k, passed-is k))
          (given-more known (items ps) r (here ps h) lines tail refl bytes-whole none i f us line e stop (starts-more (items ps) i (items-start ps) first) counted)

    -- a group
    module _ (g : GroupTree) (read : turn_at (version known) (eqb place 0) ts ≡ Ok (Some g, us)) where
      took : Turn known (eqb place 0) ts g us
      took = turn-takes known (eqb place 0) ts g us read

      abbrev group_piece : List Tok
      group_piece = group_turn known (eqb place 0) g

      turn-ends : (first : Bool) → IsLines (group_turn known first g)
      turn-ends true = turn-lines known [] (Opens g)
      turn-ends false = group-whole g

      turn-tokens : (first : Bool) → IsGroupIn (version known) g → AreTokens (group_turn known first g)
      turn-tokens true f = turn-real known [] [] (Opens g) f
      turn-tokens false f = group-tokens known.version g f

      ends : IsLines group_piece
      ends = turn-ends (eqb place 0)

      real : AreTokens group_piece
      real = turn-tokens (eqb place 0) took.fits

      pub group-fits : IsGroupIn (version known) g
      group-fits = took.fits

      pub group-needs : place + length lines ≤ 2 ^ 63 → HasFewNeeds g
      group-needs le = few known (eqb place 0) g (length lines) (item-short group_piece ends real took.is) (omega (arith, le))

      module _ (next : List ℕ) (next-is : next ≡ drop_lines passed lines) where
        pub group-place : place + length lines ≤ 2 ^ 63 → place + passed + length next ≤ 2 ^ 63
        group-place = item-place group_piece ends real took.is next next-is

        pub group-lines : AreWholeLines next
        group-lines = item-lines group_piece ends real took.is next next-is

        some-tokens : (first : Bool) → 1 ≤ length (group_turn known first g)
        some-tokens true = omega arith
        some-tokens false = omega arith

        pub group-less : length (next ++ tail) < length now.rest
        group-less = item-less group_piece ends real took.is next next-is (some-tokens (eqb place 0))

        pub group-given : (ps : List (Proof known)) → HasGiven known ps now → HasGiven known (ps ++ bare g ∷ []) (record { version = known.version; text = text; rest = next ++ tail; place = place + passed })
        group-given ps h =
            let first = first-is known (items ps) r (here ps h) in
            let t = turn-takes known (is_first (items ps)) ts g us (ap (λ (b : Bool). turn_at (version known) b ts) (sym first) ∙ read) in
            items-given known (ps ++ bare g ∷ []) (new next next-is) refl
            (subst (λ (js : List (Item known)). Given known js (new next next-is)) (sym (items-opened ps g))
            (item-given next next-is ps h (Opens g) t.fits (t.is ∙ ap (λ (v : List Tok). v ++ us) (sym (group-turned known (items ps) g))) (λ k e. t.ended) (λ e. tt)))

    -- a line of the group that was given last
    module _ (g : GroupTree) (fits : IsGroupIn (version_of now.version) g) (before : List (Line known)) (are : Are known before) (l : Line known) (read : turn known g.code before ts ≡ Ok (Some l, us)) where
      one : OneLine known g.code before ts l us
      one = line-takes known g.code (fits.code, fits.bytes) before are ts l us read

      abbrev line_piece : List Tok
      line_piece = line_tokens known g.code l

      line-real : AreTokens line_piece
      line-real = known.laws.real g.code before l one.fits

      line-whole : IsLines line_piece
      line-whole = known.laws.whole g.code l

      pub line-fits : Fits known before l
      line-fits = one.fits

      module _ (next : List ℕ) (next-is : next ≡ drop_lines passed lines) where
        pub line-place : place + length lines ≤ 2 ^ 63 → place + passed + length next ≤ 2 ^ 63
        line-place = item-place line_piece line-whole line-real one.is next next-is

        pub line-lines : AreWholeLines next
        line-lines = item-lines line_piece line-whole line-real one.is next next-is

        pub line-less : length (next ++ tail) < length now.rest
        line-less = item-less line_piece line-whole line-real one.is next next-is (omega (arith, known.laws.long g.code l))

        not-opened : (k : GroupTree) → Adds l ≡ Opens k → ⊥
        not-opened k e = cc

        at-turn : (js : List (Item known)) → (js ≡ [] → ⊥) → last_code [] js ≡ g.code → line_tokens known g.code l ≡ turn_tokens known js (Adds l)
        at-turn [] some own = absurd (some refl)
        at-turn (i ∷ js) some own = ap (λ (c : List Range). line_tokens known c l) (sym own)

        pub line-given : (ps : List (Proof known)) (p : Proof known) → HasGiven known (ps ++ p ∷ []) now → p.group ≡ g → p.lines ≡ before → HasGiven known (ps ++ with_line p l ∷ []) (record { version = known.version; text = text; rest = next ++ tail; place = place + passed })
        line-given ps p h same behind =
            let qs : List (Proof known) = ps ++ p ∷ [] in
            let own : last_code [] (items qs) ≡ g.code = last-is [] ps p ∙ ap (λ (x : GroupTree). x.code) same in
            let fit : Fits known (last_lines [] (items qs)) l = subst (λ (ls : List (Line known)). Fits known ls l) (sym (last-lines [] ps p ∙ behind)) one.fits in
            items-given known (ps ++ with_line p l ∷ []) (new next next-is) refl
            (subst (λ (js : List (Item known)). Given known js (new next next-is)) (sym (items-added ps p l))
            (item-given next next-is qs h (Adds l) fit (one.is ∙ ap (λ (v : List Tok). v ++ us) (at-turn (items qs) (some-items ps p) own)) (λ k e. absurd (not-opened k e)) (λ e. absurd (some-items ps p e))))

    -- ---- a call for a group

    abbrev never : Out (Option GroupTree) → Out (Option GroupTree) → Type 0
    never a b = a ≡ b → ⊥

    may-follow : (ps : List (Proof known)) → MayOpen ps now.rest → MayFollow (items ps) ts
    may-follow [] m = tt
    may-follow (p ∷ ps) m = follow-ends lines tail none (subst (λ (q : Progress). ProofEnds q.rest) (sym is) m)

    -- no line is read where a group may follow
    no-line-read : (ps : List (Proof known)) → MayFollow (items ps) ts → (l : Line known) (vs : List Tok) → (items ps ≡ [] → ⊥) → Fits known (last_lines [] (items ps)) l → ts ≡ line_tokens known (last_code [] (items ps)) l ++ vs → ⊥
    no-line-read [] m l vs some f e = some refl
    no-line-read (p ∷ ps) m l vs some f e = true≢false (sym m ∙ ap (goes_on ends_proof) e ∙ known.laws.begins (last_code [] (items (p ∷ ps))) l vs)

    module _ (stopped : turn_at (version known) (eqb place 0) ts ≡ Err us) where
      pub group-bad : (ps : List (Proof known)) → HasGiven known ps now → MayOpen ps now.rest → IsBadAt (texts_over known.readers.grammar (version_of now.version)) now.text (place + passed + 1)
      group-bad ps h m =
          let g = here ps h in
          let q = quiet known (items ps) r g lines tail refl bytes-whole none in
          told-bad
          (bad-call known (items ps) r g lines tail refl bytes-whole none line us
          (turn-stops known (items ps) ts us g.start g.fit q (may-follow ps m) (ap (λ (b : Bool). turn_at (version known) b ts) (sym (first-is known (items ps) r g)) ∙ stopped)) counted)

      pub group-none : (ps : List (Proof known)) → HasGiven known ps now → MayOpen ps now.rest → NoItem known ps now
      group-none ps h m = none-comes ps h (λ g vs e. ok-not-err {Y = Option GroupTree} (Some g) vs us (sym e ∙ stopped)) (no-line-read ps (may-follow ps m))

    -- where the end was read
    module _ (ended-at : turn_at (version known) (eqb place 0) ts ≡ Ok (None, us)) where
      all-read : (ps : List (Proof known)) (h : HasGiven known ps now) → text_at known (front_tokens known (items ps) ++ ts) ≡ Ok (ps, us)
      all-read ps h =
          let g = here ps h in
          turn-end known ps ts us g.fit (quiet known (items ps) r g lines tail refl bytes-whole none) (ap (λ (b : Bool). turn_at (version known) b ts) (sym (first-is known (items ps) r g)) ∙ ended-at)

      pub called-end : (us ≡ Done ∷ []) × (tail ≡ []) → (ps : List (Proof known)) → HasGiven known ps now → now.text ≡ text_over known.readers.grammar (version_of now.version) ps
      called-end q ps h =
          subst (λ (p : Progress). p.text ≡ text_over known.readers.grammar (version_of p.version) ps) is
          (whole-call known (items ps) r (here ps h) lines tail refl bytes-whole none ps (all-read ps h ∙ ap (λ (v : List Tok). Ok (ps, v)) q.0) q.1)

      not-done : (ws vs : List Tok) → goes_on is_done ws ≡ false → ws ≡ Done ∷ vs → ⊥
      not-done ws vs g e = true≢false (sym (ap (goes_on is_done) e) ∙ g)

      more-bad : GoesOn us tail → (ps : List (Proof known)) → HasGiven known ps now → IsBadAt (texts known) text (place + line)
      more-bad (inl g) ps h = bad-more known (items ps) r (here ps h) lines tail refl bytes-whole none ps us (all-read ps h) line (λ vs e. not-done us vs g e) counted
      more-bad (inr g) ps h =
          bad-tail-more known (items ps) r (here ps h) lines tail refl bytes-whole none ps (all-read ps h ∙ ap (λ (v : List Tok). Ok (ps, v)) g.0) line g.1
          (ap (λ (v : List Tok). line + eols v) (sym g.0) ∙ counted)

      pub called-more : GoesOn us tail → (ps : List (Proof known)) → HasGiven known ps now → MayOpen ps now.rest → IsBadAt (texts_over known.readers.grammar (version_of now.version)) now.text (place + passed + 1)
      called-more q ps h m = told-bad (more-bad q ps h)

      not-some : (g : GroupTree) → Some g ≡ None → ⊥
      not-some g k = cc

      pub end-none : (ps : List (Proof known)) → HasGiven known ps now → MayOpen ps now.rest → NoItem known ps now
      end-none ps h m = none-comes ps h (λ g vs e. not-some g (ok-value {Y = Option GroupTree} (Some g) None vs us (sym e ∙ ended-at))) (no-line-read ps (may-follow ps m))

    -- ---- a call for a line

    module _ (g : GroupTree) (before : List (Line known)) (ps : List (Proof known)) (p : Proof known) (h : HasGiven known (ps ++ p ∷ []) now) (same : p.group ≡ g) (behind : p.lines ≡ before) where
      abbrev qs : List (Proof known)
      qs = ps ++ p ∷ []

      own-is : last_code [] (items qs) ≡ g.code
      own-is = last-is [] ps p ∙ ap (λ (x : GroupTree). x.code) same

      lines-are : last_lines [] (items qs) ≡ before
      lines-are = last-lines [] ps p ∙ behind

      own-fits : IsCode g.code
      own-fits = subst IsCode own-is (last-fits known [] [] (items qs) (tt, tt) (here qs h).fit)

      before-are : Are known before
      before-are = subst (Are known) lines-are (last-are known [] (items qs) known.laws.none (here qs h).fit)

      module _ (line-stopped : turn known g.code before ts ≡ Err us) where
        stops : (js : List (Item known)) → items qs ≡ js → Given known js r → text_at known (front_tokens known js ++ ts) ≡ Err us
        stops [] e k = absurd (some-items ps p e)
        stops (i ∷ js) e k =
            line-stops known i js ts us k.start k.fit (quiet known (i ∷ js) r k lines tail refl bytes-whole none)
            ((λ n. turn known ((ap (last_code []) (sym e) ∙ own-is) n) ((ap (last_lines []) (sym e) ∙ lines-are) n) ts) ∙ line-stopped)

        pub line-bad : IsBadAt (texts_over known.readers.grammar (version_of now.version)) now.text (place + passed + 1)
        line-bad =
            let k = here qs h in
            told-bad
            (bad-call known (items qs) r k lines tail refl bytes-whole none line us (stops (items qs) refl k) counted)

        -- no group comes
        no-group-read : (k : GroupTree) (vs : List Tok) → turn_at (version known) (eqb place 0) ts ≡ Ok (Some k, vs) → ⊥
        no-group-read k vs e =
            let t = turn-takes known false ts k vs (ap (λ (b : Bool). turn_at (version known) b ts) (sym (first-is known (items qs) r (here qs h) ∙ not-first (items qs) refl)) ∙ e) in
            ok-not-err {Y = Option (Line known)} None ts us (sym (ends-nothing known g.code before ts (ap (goes_on ends_proof) t.is)) ∙ line-stopped)
          where
            not-first : (js : List (Item known)) → items qs ≡ js → is_first js ≡ false
            not-first [] e = absurd (some-items ps p e)
            not-first (i ∷ js) e = refl

        pub line-none : NoItem known qs now
        line-none = none-comes qs h no-group-read
            (λ l vs some f e. ok-not-err {Y = Option (Line known)} (Some l) vs us
            (sym (ap (turn known g.code before) (e ∙ ap (λ (c : List Range). line_tokens known c l ++ vs) own-is) ∙ line-again known g.code own-fits before before-are l vs (subst (λ (ls : List (Line known)). Fits known ls l) lines-are f)) ∙ line-stopped))

    -- where the lines have ended
    pub lines-ended : (own : List Range) → IsCode own → (before : List (Line known)) → Are known before → turn known own before ts ≡ Ok (None, us) → ProofEnds now.rest
    lines-ended own fits before are e = subst (λ (p : Progress). ProofEnds p.rest) is (ends-follow lines tail bytes-whole none (line-ends known own fits before are ts us e))

    pub ended-here : ProofEnds now.rest → goes_on ends_proof ts ≡ true
    ended-here e = follow-ends lines tail none (subst (λ (p : Progress). ProofEnds p.rest) (sym is) e)

    -- where a line was read, or reading stopped, or a row was lost, they haven't
    pub not-ended : (own : List Range) (before : List (Line known)) (l : Line known) (vs : List Tok) → turn known own before ts ≡ Ok (Some l, vs) → ProofEnds now.rest → ⊥
    not-ended own before l vs e p = not-none l (ok-value {Y = Option (Line known)} (Some l) None vs ts (sym e ∙ ends-nothing known own before ts (ended-here p)))
      where
        not-none : (l : Line known) → Some l ≡ None → ⊥
        not-none l k = cc

    pub not-stopped : (own : List Range) (before : List (Line known)) (bad : List Tok) → turn known own before ts ≡ Err bad → ProofEnds now.rest → ⊥
    not-stopped own before bad e p = ok-not-err {Y = Option (Line known)} None ts bad (sym (ends-nothing known own before ts (ended-here p)) ∙ e)

    pub not-lost : goes_on ends_proof ts ≡ false → ProofEnds now.rest → ⊥
    not-lost e p = true≢false (sym (ended-here p) ∙ e)
