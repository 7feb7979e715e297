-- What a call answers of a text in a file, from what was read of its rows.
use Rattle.std.proofs.Common.{◌≡◌, ℕ, ◌+◌, ◌-◌, ◌<◌, true, false, eqb, List, [], ◌∷◌, ◌++◌, length, take, drop, Option, Some, None, Ok, Err, refl, sym, ap, subst, ◌∙◌, arith}
use Rattle.mc_text.specs.Tokens.{Tok}
use Rattle.mc_text.specs.declared.token.Before.TheVariants.{Start}
use Rattle.mc_text.specs.Scanning.{lex, At, eols}
use Rattle.mc_text.specs.Fault.{IsBadAt}
use Rattle.mc_text.proofs.ReaderLaws.{Out}
use Rattle.mc_shelf.specs.Lines.{LinesState, bytes_left, unread}
use Rattle.tailrec_lang.specs.Tree.{GroupTree}
use Rattle.group_text.specs.declared.version.Version.{Version as Known}
use Rattle.group_text.specs.Version.{version_of}
use Rattle.group_text.specs.Limits.{IsGroupIn}
use Rattle.group_text.specs.inner.Cut.{drop_lines}
use Rattle.group_text.specs.inner.Reading.{turn_at}
use Rattle.group_text.proofs.Claims.{nothing-left}
use Rattle.group_text.proofs.Cuts.{drop-none}
use Rattle.group_text.proofs.HeadLaws.{IsCode}
use Rattle.proof_text.specs.Line.{ProofOf}
use Rattle.proof_text.specs.LineGrammar.{LineGrammar}
use Rattle.proof_text.specs.Proofs.{bare}
use Rattle.proof_text.specs.FirstProofs.{Progress, HasGivenOver, MayOpen, ProofEnds, with_line}
use Rattle.proof_text.specs.Pulling.{PullState, AreFresh, progress_in, held_text}
use Rattle.proof_text.specs.inner.LineReaders.{KnownTexts, LineReaders, ReadsLines}
use Rattle.proof_text.specs.inner.PulledRows.{EndsSo, not_passed}
use Rattle.proof_text.specs.inner.Pulling.{ReadFrom, StoppedAt, EndsBehind}
use Rattle.proof_text.proofs.KnownLines.{version, Line, Proof, Are, turn, texts, text_of, HasGiven, NoItem}
use Rattle.proof_text.proofs.Called.{last-proof-are, group-bad, group-none, group-given, group-less, called-end, called-more, end-none, line-given, line-less, line-bad, line-none, lines-ended}
use Rattle.proof_text.proofs.Resumed.{ends-nothing, line-ends}
use Rattle.proof_text.proofs.PullLemmas.{nothing_more, something_more}

module _ {L : Type 0} where
  abbrev no_line : List Tok → Out (Option L)
  no_line ts = Ok (None, ts)

  ok-rest : (a b : List Tok) → no_line a ≡ no_line b → a ≡ b
  ok-rest a b e = ap rest-of e
    where
      rest-of : Out (Option L) → List Tok
      rest-of (Ok (l, ts)) = ts
      rest-of (Err ts) = ts

-- ---- before the first call

fresh-text : (l : LinesState) → AreFresh l → (file : List ℕ) → bytes_left l file ≡ take l.size file
fresh-text l fresh file =
    let all : l.size - 0 ≡ l.size = omega arith in
    (λ i. fresh.waiting i ++ unread l.size (fresh.given i + length (fresh.waiting i)) (fresh.ended i) file) ∙ ap (λ (n : ℕ). take n (drop 0 file)) all

none-given : {L : Type 0} (before : List (ProofOf L)) (g : GroupTree) → [] ≡ before ++ bare g ∷ [] → ⊥
none-given [] g e = cc
none-given (p ∷ before) g e = cc

pub fresh_given : (L : LineGrammar) (known : Known) (l : LinesState) → AreFresh l → (file : List ℕ)
    → HasGivenOver L [] (progress_in (record { version = known; rows = record { lines = l; held = []; tail = []; taken = 0 }; place = 0; ended = false; refused = None }) file)
fresh_given L known l fresh file = record { fit = tt; text = sym (fresh-text l fresh file); place = refl; ended = λ before g e follows. none-given before g e }

-- ---- a call

module _ (readers : LineReaders) (old : PullState) (laws : ReadsLines readers (version_of old.version)) (file : List ℕ) where
  abbrev known : KnownTexts
  known = record { readers = readers; version = old.version; laws = laws }

  abbrev now : Progress
  now = progress_in old file

  here : (lines tail : List ℕ) → not_passed old.rows file ≡ lines ++ tail → record { version = old.version; text = held_text old file; rest = lines ++ tail; place = old.place } ≡ now
  here lines tail is = λ i. record { version = old.version; text = held_text old file; rest = sym is i; place = old.place }

  -- a bad line
  bad-at : (n rows : ℕ) → old.place ≡ old.rows.taken → n ≡ old.rows.taken + rows + 1 → (ps : List (Proof known)) → IsBadAt (texts known) now.text (old.place + rows + 1) → NoItem known ps now
      → IsBadAt (texts known) (held_text old file) n × NoItem known ps now
  bad-at n rows place at ps bad none =
      let same : old.place + rows + 1 ≡ n = omega (arith, place, at) in
      (subst (λ (k : ℕ). IsBadAt (texts known) (held_text old file) k) same bad, none)

  module _ (place : old.place ≡ old.rows.taken) where
    -- ---- a call for a group

    pub group_ended : (n : ℕ) → EndsBehind (turn_at (version_of old.version) (eqb old.place 0)) old.rows file n (EndsSo true) → (ps : List (Proof known)) → HasGiven known ps now → held_text old file ≡ text_of known ps
    group_ended n e ps h =
        let k = e.read in
        let none = nothing_more (not_passed e.behind file) k.more k.tail k.after.is e.left in
        called-end known (held_text old file) k.lines k.tail old.place now (here k.lines k.tail k.before.is) k.before.whole k.before.none (lex k.more (At Start)) k.rows k.count k.is
        (nothing-left k.more k.more refl none.0, none.1) ps h

    pub group_stopped : (n : ℕ) → StoppedAt (turn_at (version_of old.version) (eqb old.place 0)) old.rows n file → (ps : List (Proof known)) → HasGiven known ps now → MayOpen ps now.rest
        → IsBadAt (texts known) (held_text old file) n × NoItem known ps now
    group_stopped n k ps h m =
        bad-at n k.rows place k.at ps
        (group-bad known (held_text old file) k.lines k.tail old.place now (here k.lines k.tail k.before.is) k.before.whole k.before.none k.bad k.rows k.count k.is ps h m)
        (group-none known (held_text old file) k.lines k.tail old.place now (here k.lines k.tail k.before.is) k.before.whole k.before.none k.bad k.rows k.count k.is ps h m)

    pub group_followed : (n m : ℕ) → n ≡ m + 1 → EndsBehind (turn_at (version_of old.version) (eqb old.place 0)) old.rows file m (EndsSo false) → (ps : List (Proof known)) → HasGiven known ps now → MayOpen ps now.rest
        → IsBadAt (texts known) (held_text old file) n × NoItem known ps now
    group_followed n m at e ps h may =
        let k = e.read in
        let more = something_more (not_passed e.behind file) k.more k.tail k.after.is e.left in
        let number : n ≡ old.rows.taken + k.rows + 1 = omega (arith, at, e.taken_is, k.taken) in
        bad-at n k.rows place number ps
        (called-more known (held_text old file) k.lines k.tail old.place now (here k.lines k.tail k.before.is) k.before.whole k.before.none (lex k.more (At Start)) k.rows k.count k.is more ps h may)
        (end-none known (held_text old file) k.lines k.tail old.place now (here k.lines k.tail k.before.is) k.before.whole k.before.none (lex k.more (At Start)) k.rows k.count k.is ps h may)

    -- ---- a call for a line

    module _ (g : GroupTree) (before : List (Line known)) (ps : List (Proof known)) (p : Proof known) (h : HasGiven known (ps ++ p ∷ []) now) (same : p.group ≡ g) (behind : p.lines ≡ before) where
      pub line_stopped : (n : ℕ) → StoppedAt (turn known g.code before) old.rows n file → IsBadAt (texts known) (held_text old file) n × NoItem known (ps ++ p ∷ []) now
      line_stopped n k =
          bad-at n k.rows place k.at (ps ++ p ∷ [])
          (line-bad known (held_text old file) k.lines k.tail old.place now (here k.lines k.tail k.before.is) k.before.whole k.before.none k.bad k.rows k.count g before ps p h same behind k.is)
          (line-none known (held_text old file) k.lines k.tail old.place now (here k.lines k.tail k.before.is) k.before.whole k.before.none k.bad k.rows k.count g before ps p h same behind k.is)

    -- ---- where the text goes on

    module _ (new : PullState) (version : new.version ≡ old.version) (size : new.rows.lines.size ≡ old.rows.lines.size) where
      module _ (place_new : new.place ≡ new.rows.taken) where
        there : (more tail : List ℕ) (rows : ℕ) → not_passed new.rows file ≡ more ++ tail → new.rows.taken ≡ old.rows.taken + rows
            → record { version = old.version; text = held_text old file; rest = more ++ tail; place = old.place + rows } ≡ progress_in new file
        there more tail rows is taken =
            let at : old.place + rows ≡ new.place = omega (arith, place, taken, place_new) in
            λ i. record { version = sym version i; text = take (sym size i) file; rest = sym is i; place = at i }

        pub group_given : (g : GroupTree) → ReadFrom (turn_at (version_of old.version) (eqb old.place 0)) (Some g) old.rows new.rows file → (ps : List (Proof known)) → HasGiven known ps now → HasGiven known (ps ++ bare g ∷ []) (progress_in new file)
        group_given g k ps h =
            subst (HasGiven known (ps ++ bare g ∷ [])) (there k.more k.tail k.rows k.after.is k.taken)
            (group-given known (held_text old file) k.lines k.tail old.place now (here k.lines k.tail k.before.is) k.before.whole k.before.none (lex k.more (At Start)) k.rows k.count g k.is k.more k.rest ps h)

        pub group_shorter : (g : GroupTree) → ReadFrom (turn_at (version_of old.version) (eqb old.place 0)) (Some g) old.rows new.rows file → length (not_passed new.rows file) < length now.rest
        group_shorter g k =
            subst (λ (v : List ℕ). length v < length now.rest) (sym k.after.is)
            (group-less known (held_text old file) k.lines k.tail old.place now (here k.lines k.tail k.before.is) k.before.whole k.before.none (lex k.more (At Start)) k.rows k.count g k.is k.more k.rest)

        pub line_shorter : (g : GroupTree) → IsGroupIn (version_of old.version) g → (before : List (Line known)) → Are known before → (l : Line known) → ReadFrom (turn known g.code before) (Some l) old.rows new.rows file
            → length (not_passed new.rows file) < length now.rest
        line_shorter g fits before are l k =
            subst (λ (v : List ℕ). length v < length now.rest) (sym k.after.is)
            (line-less known (held_text old file) k.lines k.tail old.place now (here k.lines k.tail k.before.is) k.before.whole k.before.none (lex k.more (At Start)) k.rows k.count g fits before are l k.is k.more k.rest)

        pub line_given : (g : GroupTree) → IsGroupIn (version_of old.version) g → (before : List (Line known)) → (l : Line known) → ReadFrom (turn known g.code before) (Some l) old.rows new.rows file
            → (ps : List (Proof known)) (p : Proof known) → HasGiven known (ps ++ p ∷ []) now → p.group ≡ g → p.lines ≡ before → HasGiven known (ps ++ with_line p l ∷ []) (progress_in new file)
        line_given g fits before l k ps p h same behind =
            let are : Are known before = subst (Are known) behind (last-proof-are readers.grammar (version_of old.version) ps p h.fit) in
            subst (HasGiven known (ps ++ with_line p l ∷ [])) (there k.more k.tail k.rows k.after.is k.taken)
            (line-given known (held_text old file) k.lines k.tail old.place now (here k.lines k.tail k.before.is) k.before.whole k.before.none (lex k.more (At Start)) k.rows k.count g fits before are l k.is k.more k.rest ps p h same behind)

      pub lines_ended : (g : GroupTree) → IsCode g.code → (before : List (Line known)) → Are known before → new.place ≡ new.rows.taken → ReadFrom (turn known g.code before) None old.rows new.rows file → (progress_in new file ≡ now) × ProofEnds now.rest
      lines_ended g code before are place_new k =
          let ends = line-ends known g.code code before are (lex k.lines (At Start)) (lex k.more (At Start)) k.is in
          let tokens : lex k.lines (At Start) ≡ lex k.more (At Start) = ok-rest (lex k.lines (At Start)) (lex k.more (At Start)) (sym (ends-nothing known g.code before (lex k.lines (At Start)) ends) ∙ k.is) in
          let none : k.rows ≡ 0 = omega (arith, k.count, ap eols tokens) in
          let same : new.place ≡ old.place = omega (arith, place, place_new, none, k.taken) in
          let lines : k.more ≡ k.lines = k.rest ∙ ap (λ (n : ℕ). drop_lines n k.lines) none ∙ drop-none k.lines in
          let rest : not_passed new.rows file ≡ not_passed old.rows file = k.after.is ∙ ap (λ (v : List ℕ). v ++ k.tail) lines ∙ sym k.before.is in (
            λ i. record { version = version i; text = take (size i) file; rest = rest i; place = same i },
            lines-ended known (held_text old file) k.lines k.tail old.place now (here k.lines k.tail k.before.is) k.before.whole k.before.none (lex k.more (At Start)) k.rows k.count g.code code before are k.is,
          )
