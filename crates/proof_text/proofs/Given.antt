-- What a call of a reader answers, for all items that were given before.
use Rattle.std.proofs.Common.{◌≡◌, ℕ, suc, ◌+◌, ◌-◌, ◌^◌, ◌≤◌, ◌<◌, Bool, true, false, eqb, true≢false, List, [], ◌∷◌, ◌++◌, length, codes, Ok, Err, refl, sym, ap, subst, ◌∙◌, arith, append_assoc, length-append}
use Rattle.std.proofs.lemmas.List.{append-nil, append_cancel_left}
use Rattle.std.proofs.lemmas.Bool.Decides.{nat_tests}
use Rattle.mc_text.specs.Tokens.{Tok, Done, spell}
use Rattle.mc_text.specs.declared.token.Before.TheVariants.{Start}
use Rattle.mc_text.specs.Scanning.{lex, At, eols}
use Rattle.mc_text.specs.Reading.{goes_on}
use Rattle.mc_text.specs.Fault.{IsBadAt, newlines}
use Rattle.mc_text.proofs.Lines.{Spelled, IsLines, AreTokens}
use Rattle.mc_text.proofs.FaultLine.{AreLines, spell-lines, front-lex, spelled, eols-append, newlines-append, newlines-spell, bad-line, bad-rest, whole-text}
use Rattle.mc_text.proofs.Tail.{bad-tail, bad-end}
use Rattle.mc_text.proofs.Printed.{spell-after_lines}
use Rattle.tailrec_lang.specs.Tree.{GroupTree}
use Rattle.tailrec_lang.specs.Eval.{HasFewNeeds}
use Rattle.group_text.specs.Spelling.{group_tokens, title_tokens}
use Rattle.proof_text.specs.FirstProofs.{Progress, Opens, items, passed_over, Follows}
use Rattle.proof_text.specs.LineGrammar.{AreProofsOver}
use Rattle.proof_text.specs.inner.LineReaders.{KnownTexts}
use Rattle.proof_text.proofs.KnownLines.{version, Proof, Item, AreProofs, text_of, texts, passed, HasGiven, text_at}
use Rattle.group_text.specs.inner.Cut.{drop_lines}
use Rattle.group_text.specs.inner.Reading.{is_def}
use Rattle.proof_text.proofs.ProofTexts.{proofs_tokens, proofs-tokens, proof-text-law}
use Rattle.group_text.proofs.Real.{few-needs, spell-long}
use Rattle.group_text.proofs.Cuts.{dropped, lines-behind, newlines-short, within}
use Rattle.proof_text.proofs.Following.{def-follows, follows-def}
use Rattle.proof_text.proofs.TextItems.{items_tokens, last_lines, IsItem, AreItems, StartsOpen, proofs-items, items-fit, fit-items, items-start, items-opened, items-more, last-once, last-bare}
use Rattle.proof_text.proofs.Passed.{front_tokens, is_first, Quiet, group_turn, turn_tokens, front-lines, front-real, turn-lines, turn-real, front-more}
use Rattle.group_text.specs.declared.version.Version.{Version as Known}
use Rattle.group_text.specs.Version.{version_of}

module _ (known : KnownTexts) where
  -- ---- items that were given

  abbrev pub passed_items : List (Item known) → List ℕ
  passed_items is = spell Start (front_tokens known is)

  pub record Given (is : List (Item known)) (r : Progress) : Type 0 where
    pub fit : AreItems known [] is
    pub start : StartsOpen is
    pub text : r.text ≡ passed_items is ++ r.rest
    pub place : r.place ≡ newlines (passed_items is)
    pub ended : (before : List (Item known)) (g : GroupTree) → is ≡ before ++ Opens g ∷ [] → Follows (codes "def") r.rest → ⊥

  passed-is : (ps : List (Proof known)) → passed known ps ≡ passed_items (items ps)
  passed-is [] = refl
  passed-is (p ∷ ps) = ap (λ (ts : List Tok). spell Start (title_tokens (version known) ++ ts)) (proofs-items known [] (p ∷ ps))

  pub given-items : (ps : List (Proof known)) (r : Progress) → r.version ≡ known.version → HasGiven known ps r → Given (items ps) r
  given-items ps r v h = record {
    fit = items-fit known ps (subst (λ (k : Known). AreProofsOver known.readers.grammar (version_of k) ps) v h.fit) [];
    start = items-start ps;
    text = h.text ∙ ap (λ (k : Known). passed_over known.readers.grammar (version_of k) ps ++ r.rest) v ∙ ap (λ (w : List ℕ). w ++ r.rest) (passed-is ps);
    place = h.place ∙ ap (λ (k : Known). newlines (passed_over known.readers.grammar (version_of k) ps)) v ∙ ap newlines (passed-is ps);
    ended = λ before g e. let k = last-bare ps before g e in h.ended k.0 g k.1;
  }

  pub items-given : (ps : List (Proof known)) (r : Progress) → r.version ≡ known.version → Given (items ps) r → HasGiven known ps r
  items-given ps r v h = record {
    fit = subst (λ (k : Known). AreProofsOver known.readers.grammar (version_of k) ps) (sym v) (fit-items known [] ps h.fit);
    text = h.text ∙ ap (λ (w : List ℕ). w ++ r.rest) (sym (passed-is ps)) ∙ ap (λ (k : Known). passed_over known.readers.grammar (version_of k) ps ++ r.rest) (sym v);
    place = h.place ∙ ap newlines (sym (passed-is ps)) ∙ ap (λ (k : Known). newlines (passed_over known.readers.grammar (version_of k) ps)) (sym v);
    ended = λ before g e. h.ended (items before) g (ap items e ∙ items-opened before g);
  }

  passed-count : (is : List (Item known)) → AreItems known [] is → newlines (passed_items is) ≡ eols (front_tokens known is)
  passed-count is h = newlines-spell Start (front_tokens known is) (front-real known is h)

  passed-lex : (is : List (Item known)) (bytes : List ℕ) → AreItems known [] is → lex (passed_items is ++ bytes) (At Start) ≡ front_tokens known is ++ lex bytes (At Start)
  passed-lex is bytes h = front-lex (front_tokens known is) bytes (front-lines known is) (front-real known is h)

  passed-more : (is : List (Item known)) (i : Item known) → passed_items (is ++ i ∷ []) ≡ passed_items is ++ spell Start (turn_tokens known is i)
  passed-more is i = ap (spell Start) (front-more known is i) ∙ spell-after_lines (front_tokens known is) (turn_tokens known is i) (front-lines known is)

  text-lines : (ps : List (Proof known)) → AreProofs known ps → AreLines (text_of known ps)
  text-lines ps h = spell-lines (proofs_tokens known ps) ((proof-text-law known).ends ps h)

  more-is : (n : ℕ) → 1 ≤ n → eqb n 0 ≡ false
  more-is n le = grind (arith, nat_tests)

  first-count : (is : List (Item known)) → AreItems known [] is → eqb (newlines (passed_items is)) 0 ≡ is_first is
  first-count [] h = refl
  first-count (i ∷ is) h = more-is (newlines (passed_items (i ∷ is))) (omega (arith, passed-count (i ∷ is) h, eols-append (title_tokens (version known)) (items_tokens known [] (i ∷ is))))

  -- the text begins here exactly where no line was passed_in
  pub first-is : (is : List (Item known)) (r : Progress) → Given is r → eqb r.place 0 ≡ is_first is
  first-is is r h = ap (λ (n : ℕ). eqb n 0) h.place ∙ first-count is h.fit

  -- where no definition follows none is read
  not-def : (bytes tail : List ℕ) → AreLines bytes → newlines tail ≡ 0 → (Follows (codes "def") (bytes ++ tail) → ⊥) → (v : Bool) → goes_on is_def (lex bytes (At Start)) ≡ v → goes_on is_def (lex bytes (At Start)) ≡ false
  not-def bytes tail whole none h true e = absurd (h (def-follows bytes tail whole none e))
  not-def bytes tail whole none h false e = e

-- ---- the tokens of a call

module _ (lines : List ℕ) (piece us : List Tok) (is : lex lines (At Start) ≡ piece ++ us) (ends : IsLines piece) (real : AreTokens piece) where
  abbrev text : List ℕ
  text = spell Start piece

  text-whole : AreLines text
  text-whole = spell-lines piece ends

  split : Spelled Start lines piece us
  split = spelled lines piece us ends real is

  count-is : newlines text ≡ eols piece
  count-is = newlines-spell Start piece real

  -- how many lines were read
  lines-read : (line : ℕ) → line + eols us ≡ 1 + eols (lex lines (At Start)) → line ≡ newlines text + 1
  lines-read line e =
      let all : eols (lex lines (At Start)) ≡ eols (piece ++ us) = ap eols is in
      omega (arith, e, all, eols-append piece us, count-is)

  rest-is : (line : ℕ) → line + eols us ≡ 1 + eols (lex lines (At Start)) → drop_lines (line - 1) lines ≡ split.more
  rest-is line e =
      let count : line - 1 ≡ newlines text = omega (arith, lines-read line e) in
      ap (λ (n : ℕ). drop_lines n lines) count ∙ ap (drop_lines (newlines text)) split.is ∙ dropped text split.more text-whole

  pub shorter : (line : ℕ) → line + eols us ≡ 1 + eols (lex lines (At Start)) → (line - 1) + length (drop_lines (line - 1) lines) ≤ length lines
  shorter line e =
      let long : length lines ≡ length (text ++ split.more) = ap length split.is in
      let rest : length (drop_lines (line - 1) lines) ≡ length split.more = ap length (rest-is line e) in
      omega (arith, long, rest, length-append text split.more, lines-read line e, newlines-short text)

  -- a byte less at least
  pub less : (line : ℕ) → line + eols us ≡ 1 + eols (lex lines (At Start)) → 1 ≤ length piece → length (drop_lines (line - 1) lines) < length lines
  less line e some =
      let long : length lines ≡ length (text ++ split.more) = ap length split.is in
      let rest : length (drop_lines (line - 1) lines) ≡ length split.more = ap length (rest-is line e) in
      omega (arith, some, long, rest, length-append text split.more, spell-long Start piece real)

  pub still-lines : (line : ℕ) → line + eols us ≡ 1 + eols (lex lines (At Start)) → AreLines lines → AreLines (drop_lines (line - 1) lines)
  still-lines line e h = subst AreLines (sym (rest-is line e)) (lines-behind text split.more (subst AreLines split.is h))

  -- no more tokens than bytes
  pub short : length piece ≤ length lines
  short =
      let long : length lines ≡ length (text ++ split.more) = ap length split.is in
      omega (arith, long, length-append text split.more, spell-long Start piece real)

module _ (known : KnownTexts) where
  -- a group has fewer Needs than there are bytes
  pub few : (first : Bool) (g : GroupTree) (n : ℕ) → length (group_turn known first g) ≤ n → n < 2 ^ 64 → HasFewNeeds g
  few true g n le lt = few-needs g (omega (arith, le, lt, length-append (title_tokens (version known)) (group_tokens g)))
  few false g n le lt = few-needs g (omega (arith, le, lt))

  -- ---- for all items that were given

  module _ (is : List (Item known)) (r : Progress) (given : Given known is r) (lines tail : List ℕ) (rest : r.rest ≡ lines ++ tail) (whole : AreLines lines) (none : newlines tail ≡ 0) where
    abbrev ts : List Tok
    ts = lex lines (At Start)

    abbrev front : List ℕ
    front = passed_items known is ++ lines

    text-is : r.text ≡ front ++ tail
    text-is = given.text ∙ ap (λ (v : List ℕ). passed_items known is ++ v) rest ∙ sym (append_assoc (passed_items known is) lines tail)

    pub quiet : Quiet is ts
    quiet before g e = not-def known lines tail whole none (λ d. given.ended before g e (subst (Follows (codes "def")) (sym rest) d)) (goes_on is_def ts) refl

    front-read : lex front (At Start) ≡ front_tokens known is ++ ts
    front-read = passed-lex known is lines given.fit

    -- a line of the rest, and the same line of the text
    counted : (line : ℕ) (us : List Tok) → line + eols us ≡ 1 + eols ts → r.place + line + eols us ≡ suc (eols (lex front (At Start)))
    counted line us e =
        let all : eols (lex front (At Start)) ≡ eols (front_tokens known is ++ ts) = ap eols front-read in
        omega (arith, e, all, eols-append (front_tokens known is) ts, given.place, passed-count known is given.fit)

    in-text : (n : ℕ) → IsBadAt (texts known) front n → IsBadAt (texts known) r.text n
    in-text n h = subst (λ (v : List ℕ). IsBadAt (texts known) v n) (sym text-is) (bad-tail (texts known) (text-lines known) front tail n none h)

    -- where reading the whole text stops
    pub bad-call : (line : ℕ) (us : List Tok) → text_at known (front_tokens known is ++ ts) ≡ Err us → line + eols us ≡ 1 + eols ts → IsBadAt (texts known) r.text (r.place + line)
    bad-call line us e count =
        in-text (r.place + line) (bad-line (text_at known) (AreProofs known) (proofs_tokens known) (proof-text-law known) (proofs-tokens known) front us (r.place + line) (ap (text_at known) front-read ∙ e) (counted line us count))

    -- where it reads proofs
    module _ (ps : List (Proof known)) (us : List Tok) (all : text_at known (front_tokens known is ++ ts) ≡ Ok (ps, us)) where
      read : text_at known (lex front (At Start)) ≡ Ok (ps, us)
      read = ap (text_at known) front-read ∙ all

      -- and something else follows
      pub bad-more : (line : ℕ) → ((vs : List Tok) → us ≡ Done ∷ vs → ⊥) → line + eols us ≡ 1 + eols ts → IsBadAt (texts known) r.text (r.place + line)
      bad-more line more count =
          in-text (r.place + line) (bad-rest (text_at known) (AreProofs known) (proofs_tokens known) (proof-text-law known) (proofs-tokens known) front ps us (r.place + line) read more (counted line us count))

    module _ (ps : List (Proof known)) (all : text_at known (front_tokens known is ++ ts) ≡ Ok (ps, Done ∷ [])) where
      done : text_at known (lex front (At Start)) ≡ Ok (ps, Done ∷ [])
      done = ap (text_at known) front-read ∙ all

      -- and a rest without a newline
      pub bad-tail-more : (line : ℕ) → (tail ≡ [] → ⊥) → line + eols (Done ∷ []) ≡ 1 + eols ts → IsBadAt (texts known) r.text (r.place + line)
      bad-tail-more line some count =
          let w = whole-text (text_at known) (AreProofs known) (proofs_tokens known) (proof-text-law known) (proofs-tokens known) front ps [] done in
          let took = (proof-text-law known).takes (lex front (At Start)) ps (Done ∷ []) done in
          let same : eols (lex front (At Start)) ≡ eols (proofs_tokens known ps ++ Done ∷ []) = ap eols took.0 in
          let number : suc (newlines (text_of known ps)) ≡ r.place + line = omega (arith, counted line (Done ∷ []) count, same, eols-append (proofs_tokens known ps) (Done ∷ []), newlines-spell Start (proofs_tokens known ps) (proofs-tokens known ps w.0)) in
          subst (λ (v : List ℕ). IsBadAt (texts known) v (r.place + line)) (ap (λ (v : List ℕ). v ++ tail) (sym w.1) ∙ sym text-is)
          (subst (IsBadAt (texts known) (text_of known ps ++ tail)) number (bad-end (texts known) (text-lines known) ps tail w.0 some none))

      -- and nothing
      pub whole-call : tail ≡ [] → r.text ≡ text_of known ps
      whole-call last =
          let w = whole-text (text_at known) (AreProofs known) (proofs_tokens known) (proof-text-law known) (proofs-tokens known) front ps [] done in
          text-is ∙ ap (λ (v : List ℕ). front ++ v) last ∙ append-nil front ∙ w.1

    -- ---- one item more

    module _ (i : Item known) (fits : IsItem known (last_lines [] is) i) where
      abbrev piece : List Tok
      piece = turn_tokens known is i

      -- where it was read
      pub given-more : (us : List Tok) (line : ℕ) → ts ≡ piece ++ us → ((g : GroupTree) → i ≡ Opens g → goes_on is_def us ≡ false) → StartsOpen (is ++ i ∷ []) → line + eols us ≡ 1 + eols ts
          → Given known (is ++ i ∷ []) (record { version = r.version; text = r.text; rest = drop_lines (line - 1) lines ++ tail; place = r.place + (line - 1) })
      given-more us line read stop start count =
          let ends = turn-lines known is i in
          let real = turn-real known is (last_lines [] is) i fits in
          let s = split lines piece us read ends real in
          let back = rest-is lines piece us read ends real line count in
          let text : List ℕ = spell Start piece in
          let next : List ℕ = drop_lines (line - 1) lines in
          let more : lines ≡ text ++ next = s.is ∙ ap (λ (v : List ℕ). text ++ v) (sym back) in
          let all : r.text ≡ passed_items known (is ++ i ∷ []) ++ (next ++ tail) =
          given.text ∙ ap (λ (v : List ℕ). passed_items known is ++ v) (rest ∙ ap (λ (v : List ℕ). v ++ tail) more ∙ append_assoc text next tail)
          ∙ sym (append_assoc (passed_items known is) text (next ++ tail)) ∙ ap (λ (v : List ℕ). v ++ (next ++ tail)) (sym (passed-more known is i)) in
          let lines-more : newlines (passed_items known (is ++ i ∷ [])) ≡ newlines (passed_items known is) + newlines text = ap newlines (passed-more known is i) ∙ newlines-append (passed_items known is) text in
          let behind : lex next (At Start) ≡ us = ap (λ (v : List ℕ). lex v (At Start)) back ∙ s.reads in
          record {
            fit = items-more known [] is i given.fit fits;
            start = start;
            text = all;
            place = omega (arith, given.place, lines-more, lines-read lines piece us read ends real line count);
            ended = λ before g e d. true≢false (sym (follows-def next tail none d) ∙ ap (goes_on is_def) behind ∙ stop g (last-once is before i (Opens g) e).1);
          }

      -- it would have been read
      pub would-read : (new : Progress) → new.text ≡ r.text → Given known (is ++ i ∷ []) new → (us : List Tok) × (ts ≡ piece ++ us) × ((g : GroupTree) → i ≡ Opens g → goes_on is_def us ≡ false)
      would-read new same h =
          let text : List ℕ = spell Start piece in
          let both : passed_items known is ++ (lines ++ tail) ≡ passed_items known is ++ (text ++ new.rest) =
          ap (λ (v : List ℕ). passed_items known is ++ v) (sym rest) ∙ sym given.text ∙ sym same ∙ h.text ∙ ap (λ (v : List ℕ). v ++ new.rest) (passed-more known is i) ∙ append_assoc (passed_items known is) text new.rest in
          let w = within lines tail text new.rest (append_cancel_left (passed_items known is) (lines ++ tail) (text ++ new.rest) both) none (spell-lines piece (turn-lines known is i)) in
          let us : List Tok = lex w.more (At Start) in
          let more-whole : AreLines w.more = lines-behind text w.more (subst AreLines w.is whole) in (
            us,
            ap (λ (v : List ℕ). lex v (At Start)) w.is ∙ front-lex piece w.more (turn-lines known is i) (turn-real known is (last_lines [] is) i fits),
            λ g e. not-def known w.more tail more-whole none (λ d. h.ended is g (ap (λ (x : Item known). is ++ x ∷ []) e) (subst (Follows (codes "def")) (sym w.rest) d)) (goes_on is_def us) refl,
          )
