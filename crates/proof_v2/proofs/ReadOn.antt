-- The lines of a group's proof are read one after the other, and become short ones.
use Rattle.std.proofs.Common.{◌≡◌, ◌≤◌, ◌<◌, ℕ, Bool, Option, List, [], ◌∷◌, ◌++◌, None, Some, Ok, Err, length, refl, sym, ap, ◌∙◌, subst, arith}
use Rattle.std.specs.Prelude.{◌↔◌}
use Rattle.mc_text.specs.Fault.{IsBadAt}
use Rattle.mc_text.specs.Tokens.{spell}
use Rattle.mc_text.specs.declared.token.Before.TheVariants.{Start}
use Rattle.rv_words.specs.declared.range.Range.{Range}
use Rattle.sep_assert.specs.declared.assertion.Assertion.{Assertion}
use Rattle.tailrec_lang.specs.declared.group.Group.{Group}
use Rattle.tailrec_lang.specs.Tree.{GroupTree, group_tree}
use Rattle.group_text.specs.Limits.{IsGroupIn}
use Rattle.group_text.specs.declared.read_error.TextFault.{TextFault}
use Rattle.group_text.specs.declared.read_error.TextFault.TheVariants.{Bad}
use Rattle.group_text.specs.declared.version.Version.{Version as Known}
use Rattle.group_text.specs.declared.version.Version.TheVariants.{One}
use Rattle.group_text.specs.Version.{version_1, version_of}
use Rattle.term_arena.specs.declared.node.Node.{Node}
use Rattle.term_arena.specs.Arena.{Extends}
use Rattle.proof_text.specs.Line.{LineTree, ProofTree, line_or_own, line_tree, spelled_tree}
use Rattle.proof_text.specs.Answers.{IsEnd, OnBad, OnEnd, OnGiven}
use Rattle.proof_text.specs.FirstProofs.{AreReadIn, HasGiven, MayOpen, Progress, ProofEnds, with_line}
use Rattle.proof_text.specs.LineLimits.{IsLineIn}
use Rattle.proof_text.specs.Proofs.{AreProofsIn, bare, text_of_proofs_in, texts_of_proofs_in}
use Rattle.proof_text.specs.declared.line.SpelledLine.{SpelledLine}
use Rattle.proof_text.proofs.Fronts.{given-read}
use Rattle.proof_text.proofs.WholeLaws.{lines_known}
use Rattle.verdicts.specs.Instance.{History, after_line, after_lines, no_lines}
use Rattle.short_text.specs.ShortSpelling.{short_tokens}
use Rattle.proof_v2.specs.Preconditions.{ArePreconditions, MayFollow}
use Rattle.proof_v2.specs.inner.Migrating.{AreMigrated}
use Rattle.proof_v2.specs.inner.Rewriting.{GoesOn, GroupIsNext, HasOpened, HasPassed, IsRightText, LineIsNext, LineIsPut, LinesAreShort, LinesSoFar, with_lines}
use Rattle.proof_v2.proofs.MoreLines.{after_one_more, line-more, none-migrated}
use Rattle.proof_v2.proofs.Keeping.{none-kept}
use Rattle.proof_v2.proofs.ShortTextParts.{texts-more}
use Rattle.proof_v2.proofs.RightTexts.{line-right, not-bad}

pub stays : (r : Progress) → GoesOn r r
stays r = record { text = refl; version = refl; no_longer = omega arith }

pub goes-on : (a b d : Progress) → GoesOn a b → GoesOn b d → GoesOn a d
goes-on a b d x y = let first : length b.rest ≤ length a.rest = x.no_longer in let second : length d.rest ≤ length b.rest = y.no_longer in
    record { text = y.text ∙ x.text; version = y.version ∙ x.version; no_longer = omega (arith, first, second) }

read-of : (ps : List ProofTree) (r : Progress) (text : List ℕ) → HasGiven ps r → r.version ≡ One → r.text ≡ text → AreReadIn version_1 text ps
read-of ps r text h kind same = subst (λ (t : List ℕ). AreReadIn version_1 t ps) same (subst (λ (k : Known). AreReadIn (version_of k) r.text ps) kind (given-read (lines_known r.version) ps r h))

module _ (g : GroupTree) where
  pub lines-first : (r : Progress) (kept : List (Option Assertion)) (ns : List Node) (text : List ℕ) → kept ≡ [] → ns ≡ [] → text ≡ [] → LinesSoFar g r r kept ns text
  lines-first r kept ns text none empty nothing = record {
    are = record {
      lines = [];
      goes = stays r;
      given = λ ps h. h;
      short = [];
      migrated = subst (λ (v : List Node). AreMigrated g v [] []) (sym empty) (none-migrated g);
      put = nothing;
    };
    keeps = subst (λ (ks : List (Option Assertion)). ArePreconditions ks no_lines) (sym none) none-kept;
  }

  pub lines-next : (old now new : Progress) (before after : List (Option Assertion)) (ns ms : List Node) (text more : List ℕ) (l : SpelledLine) (so : LinesSoFar g old now before ns text) → LineIsNext g now new (Some l)
      → LineIsPut g (after_lines so.are.lines) (spelled_tree g.code l) ns ms text more → Extends ns ms
      → ((own : List Range) (all : Bool) (h : History) → ArePreconditions before h → ArePreconditions after (after_line h (line_or_own own all (line_tree l.line)))) → LinesSoFar g old new after ms more
  lines-next old now new before after ns ms text more l so next put grows keeps =
      let h : History = after_lines so.are.lines in
      let t : LineTree = spelled_tree g.code l in
      record {
        are = record {
          lines = so.are.lines ++ t ∷ [];
          goes = goes-on old now new so.are.goes next.0;
          given = λ ps opened. next.3 ps (with_lines g so.are.lines) (so.are.given ps opened) refl;
          short = so.are.short ++ put.short ∷ [];
          migrated = line-more g ns ms so.are.short so.are.lines put.short t so.are.migrated grows next.2 put.right put.fine put.terms;
          put = put.put ∙ ap (λ (zs : List ℕ). zs ++ spell Start (short_tokens g.code put.short)) so.are.put ∙ sym (texts-more (short_tokens g.code) so.are.short put.short);
        };
        keeps = subst (ArePreconditions after) (sym (after_one_more so.are.lines t)) (keeps g.code l.all h so.keeps);
      }

  -- the line is right
  pub line-instance : (text : List ℕ) (old now new : Progress) (before : List (Option Assertion)) (ns : List Node) (out : List ℕ) (l : SpelledLine) → IsRightText text → old.text ≡ text → old.version ≡ One → HasOpened g old
      → (so : LinesSoFar g old now before ns out) → LineIsNext g now new (Some l) → MayFollow before l g (after_lines so.are.lines)
  line-instance text old now new before ns out l right of known opened so next =
      let t : LineTree = spelled_tree g.code l in
      let given = next.3 opened.0 (with_lines g so.are.lines) (so.are.given opened.0 opened.1) refl in
      let goes = goes-on old now new so.are.goes next.0 in
      let read : AreReadIn version_1 text (opened.0 ++ with_line (with_lines g so.are.lines) t ∷ []) = read-of (opened.0 ++ with_line (with_lines g so.are.lines) t ∷ []) new text given (goes.version ∙ known) (goes.text ∙ of) in
      record { keeps = so.keeps; fits = next.2; right = line-right text opened.0 (with_lines g so.are.lines) t right read }

  -- no line, so the proof ends
  pub no-line : (now new : Progress) (found : Option SpelledLine) → ((l : SpelledLine) → found ≡ Some l → ⊥) → LineIsNext g now new found → LineIsNext g now new None
  no-line now new None none end = end
  no-line now new (Some l) none next = absurd (none l refl)

  pub lines-end : (now new : Progress) → LineIsNext g now new None → ProofEnds new.rest
  lines-end now new end = subst (λ (r : Progress). ProofEnds r.rest) (sym end.0) end.1

  pub lines-read : (old now new : Progress) (kept : List (Option Assertion)) (ns : List Node) (text : List ℕ) → LinesSoFar g old now kept ns text → LineIsNext g now new None → LinesAreShort g old new ns text
  lines-read old now new kept ns text so end = subst (λ (r : Progress). LinesAreShort g old r ns text) (sym end.0) so.are

-- ---- what a call of the reader gives

module _ (old new : Progress) (text : new.text ≡ old.text) (version : new.version ≡ old.version) (one : old.version ≡ One) where
  pub group-next : (found : Option Group) → OnGiven (Ok found) (λ g. (ps : List ProofTree) → HasGiven ps old → HasGiven (ps ++ bare (group_tree g) ∷ []) new) → OnGiven (Ok found) (λ g. IsGroupIn (version_of new.version) (group_tree g))
      → OnGiven (Ok found) (λ g. length new.rest < length old.rest) → OnEnd (Ok found) ((ps : List ProofTree) → HasGiven ps old → old.text ≡ text_of_proofs_in (version_of old.version) ps) → GroupIsNext old new found
  group-next (Some g) given fits shorter end = (
    record { text = text; version = version; no_longer = omega (arith, shorter) },
    shorter,
    subst (λ (k : Known). IsGroupIn (version_of k) (group_tree g)) (version ∙ one) fits,
    given,
  )
  group-next None given fits shorter end = λ ps h. record {
    fit = subst (λ (k : Known). AreProofsIn (version_of k) ps) one h.fit;
    spelled = subst (λ (k : Known). old.text ≡ text_of_proofs_in (version_of k) ps) one (end ps h);
  }

  pub line-next : (g : GroupTree) (found : Option SpelledLine) → OnGiven (Ok found) (λ l. (ps : List ProofTree) (p : ProofTree) → HasGiven (ps ++ p ∷ []) old → p.group ≡ g → HasGiven (ps ++ with_line p (spelled_tree g.code l) ∷ []) new)
      → OnGiven (Ok found) (λ l. IsLineIn (version_of new.version) (spelled_tree g.code l)) → OnGiven (Ok found) (λ l. length new.rest < length old.rest) → IsEnd (Ok found) ↔ ProofEnds old.rest → OnEnd (Ok found) (new ≡ old) → LineIsNext g old new found
  line-next g (Some l) given fits shorter ends same = (
    record { text = text; version = version; no_longer = omega (arith, shorter) },
    shorter,
    subst (λ (k : Known). IsLineIn (version_of k) (spelled_tree g.code l)) (version ∙ one) fits,
    given,
  )
  line-next g None given fits shorter ends same = (same, ends.0 tt)

-- no line of the text is bad
module _ (old : Progress) (right : IsRightText old.text) (one : old.version ≡ One) where
  bad-here : (n : ℕ) → IsBadAt (texts_of_proofs_in (version_of old.version)) old.text n → ⊥
  bad-here n bad = not-bad old.text n right (subst (λ (k : Known). IsBadAt (texts_of_proofs_in (version_of k)) old.text n) one bad)

  pub no-bad-group : (e : TextFault) (n : ℕ) → e ≡ Bad n → HasPassed old → OnBad {X = Group} (Err e) (λ n. (ps : List ProofTree) → HasGiven ps old → MayOpen ps old.rest → IsBadAt (texts_of_proofs_in (version_of old.version)) old.text n) → ⊥
  no-bad-group e n is passed bad =
      bad-here n (subst (λ (x : TextFault). OnBad {X = Group} (Err x) (λ n. (ps : List ProofTree) → HasGiven ps old → MayOpen ps old.rest → IsBadAt (texts_of_proofs_in (version_of old.version)) old.text n)) is bad passed.0 passed.1 passed.2)

  pub no-bad-line : (g : GroupTree) (e : TextFault) (n : ℕ) → e ≡ Bad n → (ps : List ProofTree) (p : ProofTree) → HasGiven (ps ++ p ∷ []) old → p.group ≡ g
      → OnBad {X = SpelledLine} (Err e) (λ n. (ps : List ProofTree) (p : ProofTree) → HasGiven (ps ++ p ∷ []) old → p.group ≡ g → IsBadAt (texts_of_proofs_in (version_of old.version)) old.text n) → ⊥
  no-bad-line g e n is ps p given group bad =
      bad-here n (subst (λ (x : TextFault). OnBad {X = SpelledLine} (Err x) (λ n. (ps : List ProofTree) (p : ProofTree) → HasGiven (ps ++ p ∷ []) old → p.group ≡ g → IsBadAt (texts_of_proofs_in (version_of old.version)) old.text n)) is bad ps p given group)
