-- What one more line and one more group make of what was judged, whatever lines stand behind groups.
use Rattle.std.proofs.Common.{◌≡◌, ℕ, zero, suc, ◌+◌, Bool, true, false, List, [], ◌∷◌, ◌++◌, length, take, Option, map, Some, None, IfSome, Ok, Err, slice_get, refl, sym, ap, subst, ◌∙◌, ⊎_elim, append_assoc, arith}
use Rattle.std.specs.List.{AllByRecursion}
use Rattle.std.specs.Prelude.{◌↔◌, IsSomeAnd, IsTrue, OnOk, Result, if◌then◌else◌}
use Rattle.std.proofs.lemmas.List.{append-nil, length-append}
use Rattle.std.proofs.lemmas.List.Sums.{sum_by_push}
use Rattle.mc_text.specs.Fault.{IsBadAt, newlines}
use Rattle.rv_words.specs.declared.range.Range.{Range}
use Rattle.elf_image.specs.Fault.{IsReadable}
use Rattle.tailrec_lang.specs.declared.group.Group.{Group}
use Rattle.rv_words.specs.Ranges.{range_bytes}
use Rattle.sep_assert.specs.Code.{IsWithin}
use Rattle.tailrec_lang.specs.Tree.{GroupTree, group_tree, listed_def}
use Rattle.group_text.specs.declared.version.Version.{Version as Known}
use Rattle.group_text.specs.Version.{Version, version_of}
use Rattle.proof_text.specs.declared.pull_fault.PullFault.{PullFault}
use Rattle.proof_text.specs.declared.pull_fault.PullFault.TheVariants as pull
use Rattle.proof_text.specs.Line.{ProofOf}
use Rattle.proof_text.specs.LineGrammar.{AreProofsOver, LineGrammar, text_over, texts_over}
use Rattle.proof_text.specs.Proofs.{bare}
use Rattle.proof_text.specs.FirstProofs.{Adds, AreReadOver, BeginsWithItems, HasGivenOver, ItemOf, MayOpen, Opens, Progress, ProofEnds, items, passed_over, with_line}
use Rattle.proof_text.specs.Answers.{NoItemOver}
use Rattle.proof_text.specs.Pulling.{IfBad}
use Rattle.proof_text.specs.Sources.{BadLineAt, Both, EndsLines, GivesLine}
use Rattle.proof_text.specs.inner.LineReaders.{KnownTexts, LineReaders, ReadsLines}
use Rattle.proof_text.proofs.TextItems.{items-opened, items-added}
use Rattle.proof_text.proofs.Fronts.{fronts, front-read, given-read}
use Rattle.verdicts.specs.declared.line_judge.Judged.{Judged}
use Rattle.verdicts.specs.declared.check.Tally.{Tally}
use Rattle.verdicts.specs.declared.verdict.Pulled.{Pulled}
use Rattle.verdicts.specs.declared.verdict.Pulled.TheVariants as pulled
use Rattle.verdicts.specs.declared.verdict.Verdict.{Verdict}
use Rattle.verdicts.specs.declared.verdict.Verdict.TheVariants as verdict
use Rattle.verdicts.specs.Pulled.{as_verdict}
use Rattle.verdicts.specs.Instance.{History, no_lines}
use Rattle.verdicts.specs.LineRules.{AllLeave, IsClosedFor, IsProvedOver, IsRightOver, IsRightTo, LineRules, counted_in, count_over}
use Rattle.verdicts.specs.Verdicts.{IsBadTextOver, IsOpenOver, SaysOver}
use Rattle.verdicts.specs.inner.Checking.{GivesLines, GroupsJudged, IsBadAfter, IsCodeOf, LineJudged, LinesJudged, LinesSoFar, LinesStopped, NextGroup, NextLine, ProofJudged, ProvedSo, TextJudged, first_not_proved, proof_of, verdict_for, verdict_of, with_group}
use Rattle.verdicts.specs.inner.Sourced.{pulled_by, verdicts}
use Rattle.verdicts.proofs.FirstLemmas.{all-more, begins-first, first-right, leave-more, that-some}
use Rattle.verdicts.proofs.Told.{both-after, both-before, both-refl, both-three, both-two, some-all, some-two}

-- ---- where no further item follows

module _ {L : Type 0} where
  -- proofs with one line more
  abbrev and_line : ProofOf L → List (ProofOf L) → L → List (ProofOf L)
  and_line p [] l = with_line p l ∷ []
  and_line p (q ∷ ps) l = p ∷ and_line q ps l

  line-behind : (p : ProofOf L) (ps : List (ProofOf L)) (l : L) → items (and_line p ps l) ≡ items (p ∷ ps) ++ Adds l ∷ []
  line-behind p [] l = items-added [] p l
  line-behind p (q ∷ ps) l =
      ap (λ (is : List (ItemOf L)). Opens p.group ∷ (map Adds p.lines ++ is)) (line-behind q ps l)
      ∙ ap (λ (is : List (ItemOf L)). Opens p.group ∷ is) (sym (append_assoc (map Adds p.lines) (items (q ∷ ps)) (Adds l ∷ [])))

  no-line-first : (qs : List (ProofOf L)) (l : L) (more : List (ItemOf L)) → items qs ≡ Adds l ∷ more → ⊥
  no-line-first [] l more e = cc
  no-line-first (q ∷ qs) l more e = cc

  next-item : (ps qs : List (ProofOf L)) (i : ItemOf L) (more : List (ItemOf L)) → items qs ≡ items ps ++ i ∷ more → (ks : List (ProofOf L)) × (items ks ≡ items ps ++ i ∷ [])
  next-item ps qs (Opens g) more e = (ps ++ bare g ∷ [], items-opened ps g)
  next-item [] qs (Adds l) more e = absurd (no-line-first qs l more e)
  next-item (p ∷ ps) qs (Adds l) more e = (and_line p ps l, line-behind p ps l)

module _ (R : LineReaders) where
  -- texts of the version of a reader
  abbrev known_at : (r : Progress) → ReadsLines R (version_of r.version) → KnownTexts
  known_at r laws = record { readers = R; version = r.version; laws = laws }

  -- what is read is among what was given
  all-given : (ps : List (ProofOf R.grammar.Line)) (r : Progress) → ReadsLines R (version_of r.version) → HasGivenOver R.grammar ps r → NoItemOver R.grammar ps r → (qs : List (ProofOf R.grammar.Line)) → AreReadOver R.grammar (version_of r.version) r.text qs → BeginsWithItems ps qs
  all-given ps r laws h none qs read = ⊎_elim (λ (m : BeginsWithItems ps qs). m) (λ (m : BeginsWithItems qs ps). behind m.0 m.1) (fronts (known_at r laws) r.text ps qs (given-read (known_at r laws) ps r h) read)
    where
      behind : (more : List (ItemOf R.grammar.Line)) → items qs ≡ items ps ++ more → BeginsWithItems ps qs
      behind [] e = ([], sym (append-nil (items ps)) ∙ sym e ∙ sym (append-nil (items qs)))
      behind (i ∷ more) e =
          let k = next-item ps qs i more e in
          let begins : items qs ≡ items k.0 ++ more = e ∙ sym (append_assoc (items ps) (i ∷ []) more) ∙ ap (λ (is : List (ItemOf R.grammar.Line)). is ++ more) (sym k.1) in
          let a = front-read (known_at r laws) r.text qs k.0 read (more, begins) in
          let new : Progress = record { version = r.version; text = r.text; rest = a.0; place = newlines (passed_over R.grammar (version_of r.version) k.0) } in
          absurd (none i k.0 new refl refl k.1 (record { fit = a.1.fit; text = a.1.text; place = refl; ended = a.1.ended }))

  pub bad-after : (ps : List (ProofOf R.grammar.Line)) (r : Progress) (n : ℕ) → ReadsLines R (version_of r.version) → HasGivenOver R.grammar ps r → IsBadAt (texts_over R.grammar (version_of r.version)) r.text n → NoItemOver R.grammar ps r
      → IsBadAfter R.grammar (version_of r.version) r.text n ps
  bad-after ps r n laws h bad none = record { bad = bad; no_more = all-given ps r laws h none }

-- the same of the same text in the same version
bad-moved : {L : LineGrammar} (k m : Known) (t u : List ℕ) (n : ℕ) (ps : List (ProofOf L.Line)) → k ≡ m → t ≡ u → IsBadAfter L (version_of k) t n ps → IsBadAfter L (version_of m) u n ps
bad-moved {L} k m t u n ps e f h = subst (λ (x : Known). IsBadAfter L (version_of x) u n ps) e (subst (λ (x : List ℕ). IsBadAfter L (version_of k) x n ps) f h)

-- a group may follow where the lines of the last have ended
may-open : {L : Type 0} (ps : List (ProofOf L)) (p : ProofOf L) (rest : List ℕ) → ProofEnds rest → MayOpen (ps ++ p ∷ []) rest
may-open [] p rest h = h
may-open (x ∷ ps) p rest h = h

-- ---- a line

module _ (R : LineReaders) (J : LineRules R.grammar) (g : GroupTree) (before : List R.grammar.Line) (h after : History) (After : List R.grammar.Line → Type 0) (o n : Option Progress) where
  -- a line that was given and judged
  pub line-given : (l : R.grammar.Line) (place : ℕ) (result : Result (Option Bool) Pulled) → Both o n (GivesLine R.grammar g before l) → IfSome n (λ r. place ≡ r.place)
      → LineJudged J g before h l after place (verdicts result) → OnOk result (After (before ++ l ∷ [])) → NextLine J g before h after After o n (verdicts result)
  line-given l place (Ok (Some counts)) given at judged behind = (l, given, judged.0, judged.1, behind)
  line-given l place (Ok None) given at judged behind = absurd judged
  line-given l place (Err (pulled.Verdict (verdict.BadLine k))) given at judged behind =
      (l, both-after o n (GivesLine R.grammar g before l) (λ old new. GivesLine R.grammar g before l old new × (k ≡ new.place)) (λ r. place ≡ r.place) (λ old new gives is. (gives, judged.0 ∙ is)) given at, judged.1)
  line-given l place (Err (pulled.Verdict verdict.NoMemory)) given at judged behind = tt
  line-given l place (Err (pulled.Verdict (verdict.Accepted functions lines))) given at judged behind = absurd judged
  line-given l place (Err (pulled.Verdict (verdict.BadElf why))) given at judged behind = absurd judged
  line-given l place (Err (pulled.Verdict (verdict.BadText k))) given at judged behind = absurd judged
  line-given l place (Err (pulled.Verdict (verdict.BadDef k d))) given at judged behind = absurd judged
  line-given l place (Err (pulled.Verdict (verdict.NotProved k))) given at judged behind = absurd judged
  line-given l place (Err pulled.Fault) given at judged behind = tt

  -- no line comes
  pub line-bad : (known : Known) → ReadsLines R (version_of known) → (fault : PullFault) → IfSome o (λ r. r.version ≡ known) → IfBad fault (λ k. IfSome o (BadLineAt R.grammar g before k))
      → NextLine J g before h after After o n (Err (as_verdict (pulled_by fault)))
  line-bad known laws (pull.Bad k) of bad =
      some-two o (λ r. r.version ≡ known) (BadLineAt R.grammar g before k) _
      (λ r is at ps p given same behind. let two = at ps p given same behind in bad-after R (ps ++ p ∷ []) r k (subst (λ (x : Known). ReadsLines R (version_of x)) (sym is) laws) given two.0 two.1) of bad
  line-bad known laws pull.Fault of bad = tt
  line-bad known laws pull.NoMemory of bad = tt

-- ---- lines

module _ {L : LineGrammar} (J : LineRules L) (g : GroupTree) where
  -- before the first line
  pub no-lines-judged : (h : History) (Behind : List L.Line → Type 0) (o : Option Progress) → Behind [] → h ≡ no_lines → LinesSoFar J g h Behind o o 0
  no-lines-judged h Behind o behind none = record {
    lines = [];
    behind = behind;
    right = none;
    counted = refl;
    given = both-refl o (GivesLines L g []) (λ r. record { text = (refl, refl); given = λ ps k. k });
  }

  module _ (h after : History) (Behind After : List L.Line → Type 0) (o m n : Option Progress) (count : ℕ) (s : LinesSoFar J g h Behind o m count) where
    -- one line more
    pub line-judged : (counts : Bool) → ((before : List L.Line) → Behind before → NextLine J g before h after After m n (Ok (Some counts))) → LinesSoFar J g after After o n (count + (if counts then 1 else 0))
    line-judged counts step =
        let x = step s.lines s.behind in
        record {
          lines = s.lines ++ x.0 ∷ [];
          behind = x.4;
          right = leave-more J g [] no_lines s.lines h x.0 after s.right x.2;
          counted = (λ i. s.counted i + (if x.3 i then 1 else 0)) ∙ sym (sum_by_push (λ (l : L.Line). if J.counts l then 1 else 0) s.lines x.0);
          given = both-two o m n (GivesLines L g s.lines) (GivesLine L g s.lines x.0) (GivesLines L g (s.lines ++ x.0 ∷ []))
              (λ a b c u w. record { text = (w.on.text ∙ u.text.0, w.on.version ∙ u.text.1); given = λ ps k. w.given ps (proof_of g s.lines) (u.given ps k) refl refl }) s.given x.1;
        }

    -- there are no more lines
    pub lines-ended : ((before : List L.Line) → Behind before → NextLine J g before h after After m n (Ok None)) → LinesJudged J g after o n (Ok count)
    lines-ended step =
        let x = step s.lines s.behind in (
          s.lines,
          both-two o m n (GivesLines L g s.lines) EndsLines (λ old new. GivesLines L g s.lines old new × ProofEnds new.rest)
              (λ a b c u w. (subst (λ (r : Progress). GivesLines L g s.lines a r) (sym w.0) u, subst (λ (r : Progress). ProofEnds r.rest) (sym w.0) w.1)) s.given x.0,
          subst (λ (y : History). AllLeave J g [] no_lines s.lines y) (sym x.1) s.right,
          s.counted,
        )

    -- the lines stop
    pub lines-stopped : (v : Verdict) → ((before : List L.Line) → Behind before → NextLine J g before h after After m n (Err v)) → LinesStopped J g o n v
    lines-stopped (verdict.BadLine k) step =
        let x = step s.lines s.behind in (
          s.lines,
          x.0,
          h,
          both-two o m n (GivesLines L g s.lines) (λ old new. GivesLine L g s.lines x.0 old new × (k ≡ new.place)) _
              (λ a b c u w. ((w.0.on.text ∙ u.text.0, w.0.on.version ∙ u.text.1), w.1, λ ps z. w.0.given ps (proof_of g s.lines) (u.given ps z) refl refl)) s.given x.1,
          s.right,
          x.2,
        )
    lines-stopped (verdict.BadText k) step = (
      s.lines,
      h,
      s.right,
      both-before o m (λ a b. BadBehind a) BadBehind (λ a b bad. bad)
          (both-after o m (GivesLines L g s.lines) (λ a b. BadBehind a) BadNext
          (λ a b u q ps z. bad-moved b.version a.version b.text a.text k (ps ++ proof_of g s.lines ∷ []) u.text.1 u.text.0 (q ps (proof_of g s.lines) (u.given ps z) refl refl)) s.given (step s.lines s.behind)),
    )
      where
        BadBehind : Progress → Type 0
        BadBehind r = (ps : List (ProofOf L.Line)) → HasGivenOver L (ps ++ bare g ∷ []) r → IsBadAfter L (version_of r.version) r.text k (ps ++ proof_of g s.lines ∷ [])

        BadNext : Progress → Type 0
        BadNext r = (ps : List (ProofOf L.Line)) (p : ProofOf L.Line) → HasGivenOver L (ps ++ p ∷ []) r → p.group ≡ g → p.lines ≡ s.lines → IsBadAfter L (version_of r.version) r.text k (ps ++ p ∷ [])
    lines-stopped verdict.NoMemory step = tt
    lines-stopped (verdict.Accepted functions lines) step = absurd (step s.lines s.behind)
    lines-stopped (verdict.BadElf why) step = absurd (step s.lines s.behind)
    lines-stopped (verdict.BadDef k d) step = absurd (step s.lines s.behind)
    lines-stopped (verdict.NotProved k) step = absurd (step s.lines s.behind)

  -- all lines are judged, and whether the group is closed
  pub group-judged : (h : History) (o n : Option Progress) (code : List Range) (count : ℕ) (proved : Bool) → LinesJudged J g h o n (Ok count)
      → (IsTrue proved ↔ ((h.closed (listed_def g) ≡ true) × IsWithin (range_bytes g.code) (range_bytes code)))
      → ProofJudged J g code o n (Ok (record { lines = count; proved = proved }))
  group-judged h o n code count proved (lines, given, right, counted) all = (
    lines,
    h,
    given,
    right,
    counted,
    λ file is. (
      λ yes. let a = all.0 yes in record { closed = a.0; code = subst (IsWithin (range_bytes g.code)) is a.1 },
      λ c. all.1 (c.closed, subst (IsWithin (range_bytes g.code)) (sym is) c.code),
    ),
  )

-- ---- groups

-- what was given is read
read-of : {L : LineGrammar} (known : Known) (ps : List (ProofOf L.Line)) (r : Progress) (text : List ℕ) → HasGivenOver L ps r → r.version ≡ known → r.text ≡ text → AreReadOver L (version_of known) text ps
read-of {L} known ps r text h kind same =
    subst (λ (t : List ℕ). AreReadOver L (version_of known) t ps) same (subst (λ (k : Known). AreReadOver L (version_of k) r.text ps) kind (r.rest, record { fit = h.fit; text = h.text; ended = h.ended }))

module _ {A : Type 0} where
  get-front : (ps : List A) (p q : A) (k : ℕ) → slice_get ps k ≡ Some q → slice_get (ps ++ p ∷ []) k ≡ Some q
  get-front [] p q k e = absurd cc
  get-front (x ∷ ps) p q zero e = e
  get-front (x ∷ ps) p q (suc k) e = get-front ps p q k e

  take-front : (ps : List A) (p q : A) (k : ℕ) → slice_get ps k ≡ Some q → take k (ps ++ p ∷ []) ≡ take k ps
  take-front [] p q k e = absurd cc
  take-front (x ∷ ps) p q zero e = refl
  take-front (x ∷ ps) p q (suc k) e = λ i. x ∷ take-front ps p q k e i

  get-end : (ps : List A) (p : A) → slice_get (ps ++ p ∷ []) (length ps) ≡ Some p
  get-end [] p = refl
  get-end (x ∷ ps) p = get-end ps p

  take-end : (ps : List A) (p : A) → take (length ps) (ps ++ p ∷ []) ≡ ps
  take-end [] p = refl
  take-end (x ∷ ps) p = λ i. x ∷ take-end ps p i

module _ {L : LineGrammar} (J : LineRules L) where
  -- which is the first that isn't proved, with one more
  proved-more : (file : List ℕ) (ps : List (ProofOf L.Line)) (p : ProofOf L.Line) (after : History) (o : Option ℕ) (b : Bool) (n : ℕ) → n ≡ length ps → ProvedSo J file ps o → IsRightTo J p after → (IsTrue b ↔ IsClosedFor file p.group after)
      → ProvedSo J file (ps ++ p ∷ []) (first_not_proved o b n)
  proved-more file ps p after (Some k) b n e (before, here) right is =
      let q = that-some (slice_get ps k) (IsOpenOver J file) here in (
        subst (AllByRecursion (IsProvedOver J file)) (sym (take-front ps p q.0 k q.1)) before,
        subst (λ (o : Option (ProofOf L.Line)). IsSomeAnd o (IsOpenOver J file)) (sym (get-front ps p q.0 k q.1)) q.2,
      )
  proved-more file ps p after None true n e h right is = all-more (IsProvedOver J file) ps p h (after, right, is.0 refl)
  proved-more file ps p after None false n e h right is = (
    subst (AllByRecursion (IsProvedOver J file)) (sym ((λ i. take (e i) (ps ++ p ∷ [])) ∙ take-end ps p)) h,
    subst (λ (o : Option (ProofOf L.Line)). IsSomeAnd o (IsOpenOver J file)) (sym ((λ i. slice_get (ps ++ p ∷ []) (e i)) ∙ get-end ps p)) (after, right, λ k. false-not (is.1 k)),
  )
    where
      false-not : false ≡ true → ⊥
      false-not x = cc

  lines-more : (ps : List (ProofOf L.Line)) (p : ProofOf L.Line) → count_over J (ps ++ p ∷ []) ≡ count_over J ps + counted_in J p.lines
  lines-more ps p = sum_by_push (λ (q : ProofOf L.Line). counted_in J q.lines) ps p

  -- before the first group
  pub no-groups-judged : (code : List Range) (r : Progress) → HasGivenOver L [] r → GroupsJudged J r.version code r.text r (record { groups = 0; lines = 0; not_proved = None })
  no-groups-judged code r h = record {
    proofs = [];
    given = h;
    same = refl;
    version = refl;
    may_open = tt;
    right = tt;
    groups = refl;
    lines = refl;
    so = λ file is. tt;
  }

  module _ (known : Known) (code : List Range) (text : List ℕ) (r : Progress) (t : Tally) (s : GroupsJudged J known code text r t) where
    -- the text is read
    text-read : (new : Progress) → NextGroup L t.groups r new (Ok None) → (file : List ℕ) → IsCodeOf code file → TextJudged J (version_of known) file text t
    text-read new h file is = record {
      proofs = s.proofs;
      spelled = record { fit = subst (λ (k : Known). AreProofsOver L (version_of k) s.proofs) s.version s.given.fit; spelled = sym s.same ∙ h s.proofs s.given ∙ ap (λ (k : Known). text_over L (version_of k) s.proofs) s.version };
      right = s.right;
      groups = s.groups;
      lines = s.lines;
      so = s.so file is;
    }

    bad-text : (n : ℕ) (ps : List (ProofOf L.Line)) → AllByRecursion (IsRightOver J) ps → IsBadAfter L (version_of known) text n ps → IsBadTextOver J (version_of known) text n
    bad-text n ps right h = record { bad = h.bad; right = λ qs read. first-right J qs ps (begins-first qs ps (h.no_more qs read)) right }

    -- the next group is wrong
    group-wrong : (new : Progress) (v : Verdict) → NextGroup L t.groups r new (Err v) → (file : List ℕ) → IsReadable file → SaysOver J (version_of known) file text v
    group-wrong new (verdict.BadDef m d) h file readable = (
      readable,
      record {
        before = s.proofs;
        group = h.1;
        read = read-of known (s.proofs ++ bare h.1 ∷ []) new text (h.4 s.proofs s.given) (h.3.1 ∙ s.version) (h.3.0 ∙ s.same);
        right = s.right;
        number = h.0 ∙ s.groups;
        first = h.2;
      },
    )
    group-wrong new (verdict.BadText n) h file readable = (readable, bad-text n s.proofs s.right (bad-moved r.version known r.text text n s.proofs s.version s.same (h s.proofs s.given s.may_open)))
    group-wrong new verdict.NoMemory h file readable = tt
    group-wrong new (verdict.Accepted functions lines) h file readable = absurd h
    group-wrong new (verdict.BadElf why) h file readable = absurd h
    group-wrong new (verdict.BadLine n) h file readable = absurd h
    group-wrong new (verdict.NotProved g) h file readable = absurd h

    module _ (middle : Progress) (g : Group) (h : NextGroup L t.groups r middle (Ok (Some g))) where
      right-to : (lines : List L.Line) (after : History) → AllLeave J (group_tree g) [] no_lines lines after → IsRightTo J (proof_of (group_tree g) lines) after
      right-to lines after right = record { well_formed = h.1; lines = right }

      so-far : (lines : List L.Line) (after : History) → AllLeave J (group_tree g) [] no_lines lines after → AllByRecursion (IsRightOver J) (s.proofs ++ proof_of (group_tree g) lines ∷ [])
      so-far lines after right = all-more (IsRightOver J) s.proofs (proof_of (group_tree g) lines) s.right (after, right-to lines after right)

      -- a line of it is wrong
      line-wrong : (new : Progress) (n : ℕ) (lines : List L.Line) (l : L.Line) (after : History) → (new.text ≡ middle.text) × (new.version ≡ middle.version) → n ≡ new.place
          → ((ps : List (ProofOf L.Line)) → HasGivenOver L (ps ++ bare (group_tree g) ∷ []) middle → HasGivenOver L (ps ++ with_line (proof_of (group_tree g) lines) l ∷ []) new)
          → AllLeave J (group_tree g) [] no_lines lines after → ((next : History) → J.Leaves (group_tree g) lines after l next → ⊥)
          → (file : List ℕ) → IsReadable file → SaysOver J (version_of known) file text (verdict.BadLine n)
      line-wrong new n lines l after same place given right wrong file readable =
          let all = given s.proofs (h.2 s.proofs s.given) in (
            readable,
            record {
              before = s.proofs;
              last = proof_of (group_tree g) lines;
              line = l;
              after = after;
              read = read-of known (s.proofs ++ with_line (proof_of (group_tree g) lines) l ∷ []) new text all (same.1 ∙ h.0.1 ∙ s.version) (same.0 ∙ h.0.0 ∙ s.same);
              right = s.right;
              so_far = right-to lines after right;
              number = place ∙ all.place ∙ ap (λ (k : Known). newlines (passed_over L (version_of k) (s.proofs ++ with_line (proof_of (group_tree g) lines) l ∷ []))) (same.1 ∙ h.0.1 ∙ s.version);
              wrong = wrong;
            },
          )

      -- the text is none among its lines
      lines-bad : (n : ℕ) (lines : List L.Line) (after : History) → AllLeave J (group_tree g) [] no_lines lines after
          → ((ps : List (ProofOf L.Line)) → HasGivenOver L (ps ++ bare (group_tree g) ∷ []) middle → IsBadAfter L (version_of middle.version) middle.text n (ps ++ proof_of (group_tree g) lines ∷ []))
          → (file : List ℕ) → IsReadable file → SaysOver J (version_of known) file text (verdict.BadText n)
      lines-bad n lines after right bad file readable = (
        readable,
        bad-text n (s.proofs ++ proof_of (group_tree g) lines ∷ []) (so-far lines after right)
            (bad-moved middle.version known middle.text text n (s.proofs ++ proof_of (group_tree g) lines ∷ []) (h.0.1 ∙ s.version) (h.0.0 ∙ s.same) (bad s.proofs (h.2 s.proofs s.given))),
      )

      -- it is judged
      proof-more : (new : Progress) (j : Judged) (lines : List L.Line) (after : History) → GivesLines L (group_tree g) lines middle new → ProofEnds new.rest → AllLeave J (group_tree g) [] no_lines lines after → j.lines ≡ counted_in J lines
          → ((file : List ℕ) → IsCodeOf code file → (IsTrue j.proved ↔ IsClosedFor file (group_tree g) after)) → GroupsJudged J known code text new (with_group t j)
      proof-more new j lines after given ends right count proved = record {
        proofs = s.proofs ++ proof_of (group_tree g) lines ∷ [];
        given = given.given s.proofs (h.2 s.proofs s.given);
        same = given.text.0 ∙ h.0.0 ∙ s.same;
        version = given.text.1 ∙ h.0.1 ∙ s.version;
        may_open = may-open s.proofs (proof_of (group_tree g) lines) new.rest ends;
        right = so-far lines after right;
        groups = omega (arith, s.groups, length-append s.proofs (proof_of (group_tree g) lines ∷ []));
        lines = omega (arith, s.lines, count, lines-more s.proofs (proof_of (group_tree g) lines));
        so = λ file is. proved-more file s.proofs (proof_of (group_tree g) lines) after t.not_proved j.proved t.groups s.groups (s.so file is) (right-to lines after right) (proved file is);
      }

  -- ---- where it is told

  abbrev pub Groups : List Range → Tally → Progress → Progress → Type 0
  Groups code t old r = GroupsJudged J old.version code old.text r t

  pub text-ended : (code : List Range) (t : Tally) (o m n : Option Progress) → Both o m (Groups code t) → Both m n (λ old new. NextGroup L t.groups old new (Ok None)) → (file : List ℕ) → IsCodeOf code file
      → IfSome o (λ r. TextJudged J (version_of r.version) file r.text t)
  text-ended code t o m n told next file is =
      both-before o n (λ old new. TextJudged J (version_of old.version) file old.text t) _ (λ a b judged. judged)
      (both-two o m n (Groups code t) (λ old new. NextGroup L t.groups old new (Ok None)) _ (λ a b d s h. text-read a.version code a.text b t s d h file is) told next)

  pub group-stopped : (code : List Range) (t : Tally) (v : Verdict) (o m n : Option Progress) → Both o m (Groups code t) → Both m n (λ old new. NextGroup L t.groups old new (Err v)) → (file : List ℕ) → IsReadable file
      → IfSome o (λ r. SaysOver J (version_of r.version) file r.text v)
  group-stopped code t v o m n told next file readable =
      both-before o n (λ old new. SaysOver J (version_of old.version) file old.text v) _ (λ a b says. says)
      (both-two o m n (Groups code t) (λ old new. NextGroup L t.groups old new (Err v)) _ (λ a b d s h. group-wrong a.version code a.text b t s d v h file readable) told next)

  module _ (code : List Range) (t : Tally) (g : Group) (o l m n : Option Progress) (told : Both o l (Groups code t)) (next : Both l m (λ old new. NextGroup L t.groups old new (Ok (Some g)))) where
    pub proof-judged : (j : Judged) → ProofJudged J (group_tree g) code m n (Ok j) → Both o n (Groups code (with_group t j))
    proof-judged j (lines, after, given, right, count, proved) =
        both-three o l m n (Groups code t) (λ old new. NextGroup L t.groups old new (Ok (Some g))) (λ old new. GivesLines L (group_tree g) lines old new × ProofEnds new.rest) _
        (λ a b c d s h k. proof-more a.version code a.text b t s c g h d j lines after k.0 k.1 right count proved) told next given

    record Opened (old new : Progress) : Type 0 where
      pub before : Progress
      pub groups : Groups code t old before
      pub opened : NextGroup L t.groups before new (Ok (Some g))

    pub proof-stopped : (v : Verdict) → LinesStopped J (group_tree g) m n v → (file : List ℕ) → IsReadable file → IfSome o (λ r. SaysOver J (version_of r.version) file r.text v)
    proof-stopped (verdict.BadLine k) (lines, line, after, given, right, wrong) file readable =
        both-before o n (λ old new. SaysOver J (version_of old.version) file old.text (verdict.BadLine k)) _ (λ a b says. says)
        (both-three o l m n (Groups code t) (λ old new. NextGroup L t.groups old new (Ok (Some g))) _ _
        (λ a b c d s h w. line-wrong a.version code a.text b t s c g h d k lines line after w.0 w.1 w.2 right wrong file readable) told next given)
    proof-stopped (verdict.BadText k) (lines, after, right, bad) file readable =
        both-before o m (λ old new. SaysOver J (version_of old.version) file old.text (verdict.BadText k)) _ (λ a b says. says)
        (both-after o m Opened (λ old new. SaysOver J (version_of old.version) file old.text (verdict.BadText k)) _
        (λ a c p q. lines-bad a.version code a.text p.before t p.groups c g p.opened k lines after right q file readable)
        (both-two o l m (Groups code t) (λ old new. NextGroup L t.groups old new (Ok (Some g))) Opened (λ a b c s h. record { before = b; groups = s; opened = h }) told next) bad)
    proof-stopped verdict.NoMemory k file readable = some-all o (λ _. Unit {0}) (λ r. tt)
    proof-stopped (verdict.Accepted functions lines) k file readable = absurd k
    proof-stopped (verdict.BadElf why) k file readable = absurd k
    proof-stopped (verdict.BadDef k d) h file readable = absurd h
    proof-stopped (verdict.NotProved k) h file readable = absurd h

  -- the verdict on a text in which nothing is wrong
  pub text-verdict : (v : Version) (file text : List ℕ) → IsReadable file → (t : Tally) → TextJudged J v file text t → SaysOver J v file text (verdict_of t)
  text-verdict v file text readable t j = at t.not_proved j.so
    where
      at : (o : Option ℕ) → ProvedSo J file j.proofs o → SaysOver J v file text (verdict_for o t.groups t.lines)
      at None so = record {
        proofs = j.proofs;
        spelled = j.spelled;
        accepted = record { readable = readable; each = so };
        groups = j.groups;
        count = j.lines;
      }
      at (Some k) so = (readable, record { proofs = j.proofs; spelled = j.spelled; right = j.right; before = so.0; here = so.1 })
