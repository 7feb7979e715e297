-- What is given of a text of each version.
use Rattle.std.proofs.Common.{◌≡◌, ◌↔◌, ℕ, ◌<◌, ◌≤◌, Bool, true, false, if◌then◌else◌, List, [], ◌∷◌, ◌++◌, length, map, Option, Some, None, Result, Ok, Err, IfSome, refl, sym, ap, subst, ◌∙◌, arith, append_assoc}
use Rattle.std.specs.Prelude.{OnErr}
use Rattle.std.specs.Result.{IsErrAnd}
use Rattle.std.proofs.lemmas.List.{append-nil}
use Rattle.mc_text.specs.Fault.{IsBadAt}
use Rattle.tailrec_lang.specs.Tree.{GroupTree}
use Rattle.term_arena.specs.declared.node.Node.{Node}
use Rattle.group_text.specs.declared.version.Version.{Version as Known}
use Rattle.group_text.specs.declared.version.Version.TheVariants.{One, Two, Three, Four}
use Rattle.group_text.specs.Version.{version_of}
use Rattle.proof_text.specs.Line.{LineTree, ProofOf, ProofTree, line_tree}
use Rattle.proof_text.specs.LineGrammar.{text_over, texts_over}
use Rattle.proof_text.specs.Proofs.{bare, texts_of_proofs_in, text_of_proofs_in}
use Rattle.proof_text.specs.FirstProofs.{Progress, HasGiven, HasGivenOver, MayOpen, ProofEnds, with_line}
use Rattle.group_text.specs.declared.read_error.TextFault.{TextFault}
use Rattle.group_text.specs.declared.read_error.TextFault.TheVariants.{Bad, NoMemory}
use Rattle.tailrec_lang.specs.declared.group.Group.{Group}
use Rattle.proof_text.specs.Answers.{IsEnd, NoItem, NoItemOver, OnBad, OnEnd, OnGiven}
use Rattle.short_text.specs.declared.short.Short.{Short}
use Rattle.short_text.specs.declared.short.ShortLine.{ShortLine}
use Rattle.short_text.specs.declared.short.ShortLine.TheVariants.{Term, Proof}
use Rattle.short_text.specs.ShortProofs.{AreShortLines, IsNextLine, ShortProof, short_lines, short_texts, table_of}
use Rattle.short_text.proofs.LineParts.{lines-more}
use Rattle.short_text.specs.inner.ShortReaders.{AreKept, KeptLines}
use Rattle.verdicts.specs.inner.Checking.{IsSameText}
use Rattle.proof_v2.specs.declared.any_reader.AnyLine.{AnyLine}
use Rattle.proof_v2.specs.declared.any_reader.AnyLine.TheVariants as any
use Rattle.proof_v2.specs.AnyText.{AnyProof, any_lines, any_texts}
use Rattle.proof_v2.specs.AnyReading.{AnyState, AreLinesIn, AreSomeLinesIn, AreTermsIn, EndsAny, GivesGroupAny, GivesLines, HasGivenAny, StopsGroups, StopsLines, AreKeptIn, as_item, lines_of_last, reading_state, table_in, with_lines}
use Rattle.proof_v2.specs.inner.ShortReading.{IsOpen, Stays}

pub last-behind : {L : Type 0} (ps : List (ProofOf L)) (p : ProofOf L) → lines_of_last (ps ++ p ∷ []) ≡ p.lines
last-behind [] p = refl
last-behind (q ∷ []) p = refl
last-behind (q ∷ r ∷ ps) p = last-behind (r ∷ ps) p

-- no terms, and nothing behind the last group
no-terms : (k : Known) → AreTermsIn k []
no-terms One = refl
no-terms Two = ([], refl)
no-terms Three = refl
no-terms Four = refl

nothing-more : (k : Known) (ps : List (AnyProof k)) (p : AnyProof k) (s : AnyState) → HasGivenAny k (ps ++ p ∷ []) s → HasGivenAny k (ps ++ with_lines p [] ∷ []) s
nothing-more k ps p s h = subst (λ (ls : List (any_lines k).Line). HasGivenAny k (ps ++ record { group = p.group; lines = ls } ∷ []) s) (sym (append-nil p.lines)) h

gives-nothing : (g : GroupTree) (s : AnyState) → GivesLines g AreTermsIn s s
gives-nothing g s = λ k ps p h e. ([], no-terms k, nothing-more k ps p s h)

-- a line, whatever it is
some-lines : (k : Known) (l : AnyLine) (ls : List (any_lines k).Line) → AreLinesIn k l ls → AreSomeLinesIn k ls
some-lines One (any.One l) ls h = (line_tree l, h)
some-lines One (any.Two s) ls h = absurd h
some-lines Two (any.One l) ls h = absurd h
some-lines Two (any.Two s) ls h = (s, h)
some-lines Three (any.One l) ls h = (line_tree l, h)
some-lines Three (any.Two s) ls h = absurd h
some-lines Four (any.One l) ls h = (line_tree l, h)
some-lines Four (any.Two s) ls h = absurd h

pub gives-some : (g : GroupTree) (l : AnyLine) (old new : AnyState) → GivesLines g (λ k. AreLinesIn k l) old new → GivesLines g AreSomeLinesIn old new
gives-some g l old new given = λ k ps p h e. let x = given k ps p h e in (x.0, some-lines k l x.0 x.1, x.2)

-- ---- lines that state whole triples

-- a line that states a whole triple is so, in each version that has such lines
abbrev IsTreeSo : ((k : Known) → List (any_lines k).Line → Type 0) → LineTree → Type 0
IsTreeSo Are t = Are One (t ∷ []) × Are Three (t ∷ []) × Are Four (t ∷ [])

-- before the first group
pub none-given : (r : Progress) (kept : KeptLines) → HasGiven [] r → AreKept kept [] → HasGivenAny r.version [] (reading_state r kept)
none-given r kept h new = by r.version refl
  where
    by : (k : Known) → r.version ≡ k → HasGivenAny k [] (reading_state r kept)
    by One e = record { version = e; given = h; kept = new.table }
    by Two e = record { version = e; given = record { fit = tt; text = h.text; place = h.place; ended = λ before g is. absurd (none-bare before g is) }; kept = new }
      where
        none-bare : (before : List ShortProof) (g : GroupTree) → [] ≡ before ++ bare g ∷ [] → ⊥
        none-bare [] g e = cc
        none-bare (p ∷ before) g e = cc
    by Three e = record { version = e; given = h; kept = new.table }
    by Four e = record { version = e; given = h; kept = new.table }

module _ (kept : KeptLines) (p : Progress) (other : p.version ≡ Two → ⊥) where
  module _ (q : Progress) (same : IsSameText q p) where
    pub whole-group-given : (g : GroupTree) → ((ps : List ProofTree) → HasGiven ps p → HasGiven (ps ++ bare g ∷ []) q) → GivesGroupAny g (reading_state p kept) (reading_state q kept)
    whole-group-given g given One ps h = record { version = same.1 ∙ h.version; given = given ps h.given; kept = h.kept }
    whole-group-given g given Two ps h = absurd (other h.version)
    whole-group-given g given Three ps h = record { version = same.1 ∙ h.version; given = given ps h.given; kept = h.kept }
    whole-group-given g given Four ps h = record { version = same.1 ∙ h.version; given = given ps h.given; kept = h.kept }

    pub whole-line-given : (g : GroupTree) (Are : (k : Known) → List (any_lines k).Line → Type 0) (t : LineTree) → IsTreeSo Are t
        → ((ps : List ProofTree) (r : ProofTree) → HasGiven (ps ++ r ∷ []) p → r.group ≡ g → HasGiven (ps ++ with_line r t ∷ []) q) → GivesLines g Are (reading_state p kept) (reading_state q kept)
    whole-line-given g Are t so given One ps r h e = (t ∷ [], so.0, record { version = same.1 ∙ h.version; given = given ps r h.given e; kept = h.kept })
    whole-line-given g Are t so given Two ps r h e = absurd (other h.version)
    whole-line-given g Are t so given Three ps r h e = (t ∷ [], so.1, record { version = same.1 ∙ h.version; given = given ps r h.given e; kept = h.kept })
    whole-line-given g Are t so given Four ps r h e = (t ∷ [], so.2, record { version = same.1 ∙ h.version; given = given ps r h.given e; kept = h.kept })

  -- where nothing was read
  pub whole-line-none : (q : Progress) → q ≡ p → (g : GroupTree) → GivesLines g AreTermsIn (reading_state p kept) (reading_state q kept)
  whole-line-none q same g = subst (λ (r : Progress). GivesLines g AreTermsIn (reading_state p kept) (reading_state r kept)) (sym same) (gives-nothing g (reading_state p kept))

  pub whole-line-end : {X : Type 0} (q : Progress) (g : GroupTree) (o : Option X) → o ≡ None → IsEnd {X = X} (Ok o) ↔ ProofEnds p.rest → OnEnd {X = X} (Ok o) (q ≡ p) → ProofEnds q.rest × GivesLines g AreTermsIn (reading_state p kept) (reading_state q kept)
  whole-line-end q g (Some x) e ends same = absurd cc
  whole-line-end q g None e ends same = (subst (λ (r : Progress). ProofEnds r.rest) (sym same) (ends.0 tt), whole-line-none q same g)

  pub whole-ends : ((ps : List ProofTree) → HasGiven ps p → p.text ≡ text_of_proofs_in (version_of p.version) ps) → EndsAny (reading_state p kept)
  whole-ends ends One ps h = ends ps h.given ∙ ap (λ (v : Known). text_of_proofs_in (version_of v) ps) h.version
  whole-ends ends Two ps h = absurd (other h.version)
  whole-ends ends Three ps h = ends ps h.given ∙ ap (λ (v : Known). text_of_proofs_in (version_of v) ps) h.version
  whole-ends ends Four ps h = ends ps h.given ∙ ap (λ (v : Known). text_of_proofs_in (version_of v) ps) h.version

  bad-in : (n : ℕ) (k : Known) → p.version ≡ k → IsBadAt (texts_of_proofs_in (version_of p.version)) p.text n → IsBadAt (texts_of_proofs_in (version_of k)) p.text n
  bad-in n k e h = subst (λ (v : Known). IsBadAt (texts_of_proofs_in (version_of v)) p.text n) e h

  pub whole-stops : (n : ℕ) → ((ps : List ProofTree) → HasGiven ps p → MayOpen ps p.rest → IsBadAt (texts_of_proofs_in (version_of p.version)) p.text n)
      → ((ps : List ProofTree) → HasGiven ps p → MayOpen ps p.rest → NoItem ps p) → StopsGroups n (reading_state p kept)
  whole-stops n bad none One ps h may = (bad-in n One h.version (bad ps h.given may), none ps h.given may)
  whole-stops n bad none Two ps h may = absurd (other h.version)
  whole-stops n bad none Three ps h may = (bad-in n Three h.version (bad ps h.given may), none ps h.given may)
  whole-stops n bad none Four ps h may = (bad-in n Four h.version (bad ps h.given may), none ps h.given may)

  whole-line-stops : (g : GroupTree) (n : ℕ) → ((ps : List ProofTree) (r : ProofTree) → HasGiven (ps ++ r ∷ []) p → r.group ≡ g → IsBadAt (texts_of_proofs_in (version_of p.version)) p.text n)
      → ((ps : List ProofTree) (r : ProofTree) → HasGiven (ps ++ r ∷ []) p → r.group ≡ g → NoItem (ps ++ r ∷ []) p) → StopsLines g n (reading_state p kept) (reading_state p kept)
  whole-line-stops g n bad none k ps r h e = let stop = by k ps r h e in (stop.0, [], no-terms k, nothing-more k ps r (reading_state p kept) h, same-none k ps r stop.1)
    where
      by : (k : Known) (ps : List (AnyProof k)) (r : AnyProof k) → HasGivenAny k (ps ++ r ∷ []) (reading_state p kept) → r.group ≡ g → IsBadAt (any_texts k) p.text n × NoItemOver (any_lines k) (ps ++ r ∷ []) p
      by One ps r h e = (bad-in n One h.version (bad ps r h.given e), none ps r h.given e)
      by Two ps r h e = absurd (other h.version)
      by Three ps r h e = (bad-in n Three h.version (bad ps r h.given e), none ps r h.given e)
      by Four ps r h e = (bad-in n Four h.version (bad ps r h.given e), none ps r h.given e)

      same-none : (k : Known) (ps : List (AnyProof k)) (r : AnyProof k) → NoItemOver (any_lines k) (ps ++ r ∷ []) p → NoItemOver (any_lines k) (ps ++ with_lines r [] ∷ []) p
      same-none k ps r h = subst (λ (ls : List (any_lines k).Line). NoItemOver (any_lines k) (ps ++ record { group = r.group; lines = ls } ∷ []) p) (sym (append-nil r.lines)) h

  pub whole-line-bad : (X Y : Type 0) (q : Progress) → q ≡ p → (g : GroupTree) (f : TextFault) → OnBad {X = X} (Err f) (λ n. (ps : List ProofTree) (r : ProofTree) → HasGiven (ps ++ r ∷ []) p → r.group ≡ g → IsBadAt (texts_of_proofs_in (version_of p.version)) p.text n)
      → OnBad {X = X} (Err f) (λ n. (ps : List ProofTree) (r : ProofTree) → HasGiven (ps ++ r ∷ []) p → r.group ≡ g → NoItem (ps ++ r ∷ []) p) → OnBad {X = Y} (Err f) (λ n. StopsLines g n (reading_state p kept) (reading_state q kept))
  whole-line-bad X Y q same g (Bad n) bad none = subst (λ (r : Progress). StopsLines g n (reading_state p kept) (reading_state r kept)) (sym same) (whole-line-stops g n bad none)
  whole-line-bad X Y q same g NoMemory bad none = tt

-- ---- texts of version 2

-- what is so of version 2 is so of each version that a text of version 2 may have
module _ (p : Progress) (two : p.version ≡ Two) where
  not-one : p.version ≡ One → ⊥
  not-one e = let clash : Two ≡ One = sym two ∙ e in cc

  not-three : p.version ≡ Three → ⊥
  not-three e = let clash : Two ≡ Three = sym two ∙ e in cc

  not-four : p.version ≡ Four → ⊥
  not-four e = let clash : Two ≡ Four = sym two ∙ e in cc

  pub in-each : (P : (k : Known) → Type 0) → P Two → (k : Known) → p.version ≡ k → P k
  in-each P h One e = absurd (not-one e)
  in-each P h Two e = h
  in-each P h Three e = absurd (not-three e)
  in-each P h Four e = absurd (not-four e)

  module _ (old : KeptLines) (q : Progress) (same : IsSameText q p) (new : KeptLines) where
    pub short-group-given : (g : GroupTree) → ((ps : List ShortProof) → HasGivenOver short_lines ps p → HasGivenOver short_lines (ps ++ bare g ∷ []) q) → AreKept new []
        → GivesGroupAny g (reading_state p old) (reading_state q new)
    short-group-given g given fresh k ps h = in-each (λ k. (ps : List (AnyProof k)) → HasGivenAny k ps (reading_state p old) → HasGivenAny k (ps ++ bare g ∷ []) (reading_state q new)) by k h.version ps h
      where
        by : (ps : List ShortProof) → HasGivenAny Two ps (reading_state p old) → HasGivenAny Two (ps ++ bare g ∷ []) (reading_state q new)
        by ps h = record { version = same.1 ∙ h.version; given = given ps h.given; kept = subst (AreKept new) (sym (last-behind ps (bare g))) fresh }

  module _ (kept : KeptLines) where
    pub short-ends : ((ps : List ShortProof) → HasGivenOver short_lines ps p → p.text ≡ text_over short_lines (version_of p.version) ps) → EndsAny (reading_state p kept)
    short-ends ends k ps h = in-each (λ k. (ps : List (AnyProof k)) → HasGivenAny k ps (reading_state p kept) → p.text ≡ text_over (any_lines k) (version_of k) ps) by k h.version ps h
      where
        by : (ps : List ShortProof) → HasGivenAny Two ps (reading_state p kept) → p.text ≡ text_over short_lines (version_of Two) ps
        by ps h = ends ps h.given ∙ ap (λ (v : Known). text_over short_lines (version_of v) ps) h.version

    short-stops : (n : ℕ) → ((ps : List ShortProof) → HasGivenOver short_lines ps p → MayOpen ps p.rest → IsBadAt (texts_over short_lines (version_of p.version)) p.text n)
        → ((ps : List ShortProof) → HasGivenOver short_lines ps p → MayOpen ps p.rest → NoItemOver short_lines ps p) → StopsGroups n (reading_state p kept)
    short-stops n bad none k ps h may =
        in-each (λ k. (ps : List (AnyProof k)) → HasGivenAny k ps (reading_state p kept) → MayOpen ps p.rest → IsBadAt (any_texts k) p.text n × NoItemOver (any_lines k) ps p) by k h.version ps h may
      where
        by : (ps : List ShortProof) → HasGivenAny Two ps (reading_state p kept) → MayOpen ps p.rest → IsBadAt short_texts p.text n × NoItemOver short_lines ps p
        by ps h may = (subst (λ (v : Known). IsBadAt (texts_over short_lines (version_of v)) p.text n) h.version (bad ps h.given may), none ps h.given may)

    pub short-group-bad : (f : TextFault) → OnBad {X = Group} (Err f) (λ n. (ps : List ShortProof) → HasGivenOver short_lines ps p → MayOpen ps p.rest → IsBadAt (texts_over short_lines (version_of p.version)) p.text n)
        → OnBad {X = Group} (Err f) (λ n. (ps : List ShortProof) → HasGivenOver short_lines ps p → MayOpen ps p.rest → NoItemOver short_lines ps p) → OnBad {X = Group} (Err f) (λ n. StopsGroups n (reading_state p kept))
    short-group-bad (Bad n) bad none = short-stops n bad none
    short-group-bad NoMemory bad none = tt

-- ---- the next line of version 2

-- behind lines of which something is kept
kept-of : (ps : List ShortProof) (p : ShortProof) (r : Progress) (kept : KeptLines) → HasGivenAny Two (ps ++ p ∷ []) (reading_state r kept) → AreKept kept p.lines
kept-of ps p r kept h = subst (AreKept kept) (last-behind ps p) h.kept

module _ (r : Progress) (kept : KeptLines) (g : GroupTree) where
  -- a line more
  short-line-more : (s : Progress) (new : KeptLines) (l : ShortLine) → s.version ≡ r.version
      → ((before : List ShortLine) → AreKept kept before → (ps : List ShortProof) (p : ShortProof) → HasGivenOver short_lines (ps ++ p ∷ []) r → p.group ≡ g → p.lines ≡ before → HasGivenOver short_lines (ps ++ with_line p l ∷ []) s)
      → ((before : List ShortLine) → AreKept kept before → AreKept new (before ++ l ∷ []))
      → (ps : List ShortProof) (p : ShortProof) → HasGivenAny Two (ps ++ p ∷ []) (reading_state r kept) → p.group ≡ g → HasGivenAny Two (ps ++ with_line p l ∷ []) (reading_state s new)
  short-line-more s new l same given behind ps p h is =
      let k = kept-of ps p r kept h in
      record { version = same ∙ h.version; given = given p.lines k ps p h.given is refl; kept = subst (AreKept new) (sym (last-behind ps (with_line p l))) (behind p.lines k) }

  -- what is kept may go on
  short-line-open : IsOpen kept → (new : KeptLines) (l : ShortLine)
      → ((before : List ShortLine) → AreKept kept before → AreKept new (before ++ l ∷ [])) → ((before : List ShortLine) → AreKept kept before → AreShortLines before → IsNextLine before l) → IsOpen new
  short-line-open open_ new l behind fits = (open_.0 ++ l ∷ [], behind open_.0 open_.1, lines-more open_.0 l open_.2 (fits open_.0 open_.1 open_.2))

  -- no line more
  short-line-bad : (f : TextFault)
      → ((before : List ShortLine) → AreKept kept before → OnBad {X = ShortLine} (Err f) (λ n. (ps : List ShortProof) (p : ShortProof) → HasGivenOver short_lines (ps ++ p ∷ []) r → p.group ≡ g → p.lines ≡ before
      → IsBadAt (texts_over short_lines (version_of r.version)) r.text n))
      → ((before : List ShortLine) → AreKept kept before → OnBad {X = ShortLine} (Err f) (λ n. (ps : List ShortProof) (p : ShortProof) → HasGivenOver short_lines (ps ++ p ∷ []) r → p.group ≡ g → p.lines ≡ before → NoItemOver short_lines (ps ++ p ∷ []) r))
      → OnBad {X = ShortLine} (Err f) (λ n. (ps : List ShortProof) (p : ShortProof) → HasGivenAny Two (ps ++ p ∷ []) (reading_state r kept) → p.group ≡ g → IsBadAt short_texts r.text n × NoItemOver short_lines (ps ++ p ∷ []) r)
  short-line-bad (Bad n) bad none = λ ps p h is.
      let k = kept-of ps p r kept h in
      (subst (λ (v : Known). IsBadAt (texts_over short_lines (version_of v)) r.text n) h.version (bad p.lines k ps p h.given is refl), none p.lines k ps p h.given is refl)
  short-line-bad NoMemory bad none = tt

  -- what the next line's answer says, where it gives a line, the end or a fault
  module _ {X : Type 0} (tree : X → ShortLine) (s : Progress) (new : KeptLines) (result : Result (Option X) TextFault) where
    pub next-open : IsOpen kept → ((before : List ShortLine) → AreKept kept before → OnGiven result (λ x. AreKept new (before ++ tree x ∷ [])))
        → ((before : List ShortLine) → AreKept kept before → AreShortLines before → OnGiven result (λ x. IsNextLine before (tree x)))
        → OnEnd result (new ≡ kept) → OnErr result ((before : List ShortLine) → AreKept kept before → AreKept new before) → IsOpen new
    next-open open_ behind fits same stays = by result behind fits same stays
      where
        by : (o : Result (Option X) TextFault) → ((before : List ShortLine) → AreKept kept before → OnGiven o (λ x. AreKept new (before ++ tree x ∷ [])))
            → ((before : List ShortLine) → AreKept kept before → AreShortLines before → OnGiven o (λ x. IsNextLine before (tree x)))
            → OnEnd o (new ≡ kept) → OnErr o ((before : List ShortLine) → AreKept kept before → AreKept new before) → IsOpen new
        by (Ok (Some x)) behind fits same stays = short-line-open open_ new (tree x) behind fits
        by (Ok None) behind fits same stays = subst IsOpen (sym same) open_
        by (Err e) behind fits same stays = (open_.0, stays open_.0 open_.1, open_.2)

    pub next-given : s.version ≡ r.version
        → ((before : List ShortLine) → AreKept kept before → OnGiven result (λ x. (ps : List ShortProof) (p : ShortProof) → HasGivenOver short_lines (ps ++ p ∷ []) r → p.group ≡ g → p.lines ≡ before → HasGivenOver short_lines (ps ++ with_line p (tree x) ∷ []) s))
        → ((before : List ShortLine) → AreKept kept before → OnGiven result (λ x. AreKept new (before ++ tree x ∷ [])))
        → OnGiven result (λ x. (ps : List ShortProof) (p : ShortProof) → HasGivenAny Two (ps ++ p ∷ []) (reading_state r kept) → p.group ≡ g → HasGivenAny Two (ps ++ with_line p (tree x) ∷ []) (reading_state s new))
    next-given same given behind = by result given behind
      where
        by : (o : Result (Option X) TextFault)
            → ((before : List ShortLine) → AreKept kept before → OnGiven o (λ x. (ps : List ShortProof) (p : ShortProof) → HasGivenOver short_lines (ps ++ p ∷ []) r → p.group ≡ g → p.lines ≡ before → HasGivenOver short_lines (ps ++ with_line p (tree x) ∷ []) s))
            → ((before : List ShortLine) → AreKept kept before → OnGiven o (λ x. AreKept new (before ++ tree x ∷ [])))
            → OnGiven o (λ x. (ps : List ShortProof) (p : ShortProof) → HasGivenAny Two (ps ++ p ∷ []) (reading_state r kept) → p.group ≡ g → HasGivenAny Two (ps ++ with_line p (tree x) ∷ []) (reading_state s new))
        by (Ok (Some x)) given behind = short-line-more s new (tree x) same given behind
        by (Ok None) given behind = tt
        by (Err e) given behind = tt

    pub next-bad : ((before : List ShortLine) → AreKept kept before → OnBad result (λ n. (ps : List ShortProof) (p : ShortProof) → HasGivenOver short_lines (ps ++ p ∷ []) r → p.group ≡ g → p.lines ≡ before
        → IsBadAt (texts_over short_lines (version_of r.version)) r.text n))
        → ((before : List ShortLine) → AreKept kept before → OnBad result (λ n. (ps : List ShortProof) (p : ShortProof) → HasGivenOver short_lines (ps ++ p ∷ []) r → p.group ≡ g → p.lines ≡ before → NoItemOver short_lines (ps ++ p ∷ []) r))
        → OnBad result (λ n. (ps : List ShortProof) (p : ShortProof) → HasGivenAny Two (ps ++ p ∷ []) (reading_state r kept) → p.group ≡ g → IsBadAt short_texts r.text n × NoItemOver short_lines (ps ++ p ∷ []) r)
    next-bad bad none = by result bad none
      where
        by : (o : Result (Option X) TextFault)
            → ((before : List ShortLine) → AreKept kept before → OnBad o (λ n. (ps : List ShortProof) (p : ShortProof) → HasGivenOver short_lines (ps ++ p ∷ []) r → p.group ≡ g → p.lines ≡ before
            → IsBadAt (texts_over short_lines (version_of r.version)) r.text n))
            → ((before : List ShortLine) → AreKept kept before → OnBad o (λ n. (ps : List ShortProof) (p : ShortProof) → HasGivenOver short_lines (ps ++ p ∷ []) r → p.group ≡ g → p.lines ≡ before → NoItemOver short_lines (ps ++ p ∷ []) r))
            → OnBad o (λ n. (ps : List ShortProof) (p : ShortProof) → HasGivenAny Two (ps ++ p ∷ []) (reading_state r kept) → p.group ≡ g → IsBadAt short_texts r.text n × NoItemOver short_lines (ps ++ p ∷ []) r)
        by (Ok o) bad none = tt
        by (Err (Bad n)) bad none = short-line-bad (Bad n) bad none
        by (Err NoMemory) bad none = tt

    same-stays : s ≡ r → new ≡ kept → Stays (reading_state r kept) (reading_state s new)
    same-stays at is = (at, λ ps h. subst (λ (q : Progress). HasGivenAny Two ps (reading_state q new)) (sym at) (subst (λ (k : KeptLines). HasGivenAny Two ps (reading_state r k)) (sym is) h))

    pub next-end : IsEnd result ↔ ProofEnds r.rest → OnEnd result (s ≡ r) → OnEnd result (new ≡ kept) → OnEnd result (ProofEnds s.rest × Stays (reading_state r kept) (reading_state s new))
    next-end ends at is = by result ends at is
      where
        by : (o : Result (Option X) TextFault) → IsEnd o ↔ ProofEnds r.rest → OnEnd o (s ≡ r) → OnEnd o (new ≡ kept) → OnEnd o (ProofEnds s.rest × Stays (reading_state r kept) (reading_state s new))
        by (Ok (Some x)) ends at is = tt
        by (Ok None) ends at is = (subst (λ (q : Progress). ProofEnds q.rest) (sym at) (ends.0 tt), same-stays at is)
        by (Err e) ends at is = tt

    pub next-fault : OnErr result (s ≡ r) → OnErr result ((before : List ShortLine) → AreKept kept before → AreKept new before) → OnErr result (Stays (reading_state r kept) (reading_state s new))
    next-fault at stays = by result at stays
      where
        by : (o : Result (Option X) TextFault) → OnErr o (s ≡ r) → OnErr o ((before : List ShortLine) → AreKept kept before → AreKept new before) → OnErr o (Stays (reading_state r kept) (reading_state s new))
        by (Ok o) at stays = tt
        by (Err e) at stays = (at, λ ps h. subst (λ (q : Progress). HasGivenAny Two ps (reading_state q new)) (sym at) (record { version = h.version; given = h.given; kept = stays (lines_of_last ps) h.kept }))

-- terms of a table were passed
pub record Tabled (old : AnyState) (g : GroupTree) (now : AnyState) : Type 0 where
  pub text : IsSameText now.progress old.progress
  pub no_longer : length now.progress.rest ≤ length old.progress.rest
  pub given : (ps : List ShortProof) (p : ShortProof) → HasGivenAny Two (ps ++ p ∷ []) old → p.group ≡ g → (ns : List Node) × HasGivenAny Two (ps ++ with_lines p (map Term ns) ∷ []) now

module _ (old : AnyState) (two : old.progress.version ≡ Two) (g : GroupTree) where
  module _ (now : AnyState) (t : Tabled old g now) where
    terms-more : (ns : List Node) (n : Node) (ls : List ShortLine) → (ls ++ map Term ns) ++ Term n ∷ [] ≡ ls ++ map Term (ns ++ n ∷ [])
    terms-more ns n ls = append_assoc ls (map Term ns) (Term n ∷ []) ∙ ap (λ (ms : List ShortLine). ls ++ ms) (by ns)
      where
        by : (ns : List Node) → map Term ns ++ Term n ∷ [] ≡ map Term (ns ++ n ∷ [])
        by [] = refl
        by (m ∷ ns) = ap (λ (ms : List ShortLine). Term m ∷ ms) (by ns)

    module _ (new : AnyState) (same : IsSameText new.progress now.progress) (fewer : length new.progress.rest < length now.progress.rest) where
      on-text : IsSameText new.progress old.progress
      on-text = (same.0 ∙ t.text.0, same.1 ∙ t.text.1)

      -- one term more
      pub tabled-more : (n : Node) → ((ps : List ShortProof) (p : ShortProof) → HasGivenAny Two (ps ++ p ∷ []) now → p.group ≡ g → HasGivenAny Two (ps ++ with_line p (Term n) ∷ []) new) → Tabled old g new
      tabled-more n given = record {
        text = on-text;
        no_longer = omega (arith, fewer, t.no_longer);
        given = λ ps p h e.
            let x = t.given ps p h e in
            (x.0 ++ n ∷ [], subst (λ (ls : List ShortLine). HasGivenAny Two (ps ++ record { group = p.group; lines = ls } ∷ []) new) (terms-more x.0 n p.lines) (given ps (with_lines p (map Term x.0)) x.1 e));
      }

      -- a line of the proof behind these
      pub line-given : (s : Short) → ((ps : List ShortProof) (p : ShortProof) → HasGivenAny Two (ps ++ p ∷ []) now → p.group ≡ g → HasGivenAny Two (ps ++ with_line p (Proof s) ∷ []) new)
          → GivesLines g (λ k. AreLinesIn k (any.Two s)) old new
      line-given s given k ps p h e =
          in-each old.progress two (λ k. (ps : List (AnyProof k)) (p : AnyProof k) → HasGivenAny k (ps ++ p ∷ []) old → p.group ≡ g
          → (ls : List (any_lines k).Line) × AreLinesIn k (any.Two s) ls × HasGivenAny k (ps ++ with_lines p ls ∷ []) new) by k h.version ps p h e
        where
          by : (ps : List ShortProof) (p : ShortProof) → HasGivenAny Two (ps ++ p ∷ []) old → p.group ≡ g
              → (ls : List ShortLine) × AreLinesIn Two (any.Two s) ls × HasGivenAny Two (ps ++ with_lines p ls ∷ []) new
          by ps p h e =
              let x = t.given ps p h e in (
                map Term x.0 ++ Proof s ∷ [],
                (x.0, refl),
                subst (λ (ls : List ShortLine). HasGivenAny Two (ps ++ record { group = p.group; lines = ls } ∷ []) new) (append_assoc p.lines (map Term x.0) (Proof s ∷ [])) (given ps (with_lines p (map Term x.0)) x.1 e),
              )

    module _ (new : AnyState) (stays : Stays now new) where
      -- nothing but these
      pub terms-given : GivesLines g AreTermsIn old new
      terms-given k ps p h e =
          in-each old.progress two (λ k. (ps : List (AnyProof k)) (p : AnyProof k) → HasGivenAny k (ps ++ p ∷ []) old → p.group ≡ g
          → (ls : List (any_lines k).Line) × AreTermsIn k ls × HasGivenAny k (ps ++ with_lines p ls ∷ []) new) by k h.version ps p h e
        where
          by : (ps : List ShortProof) (p : ShortProof) → HasGivenAny Two (ps ++ p ∷ []) old → p.group ≡ g
              → (ls : List ShortLine) × AreTermsIn Two ls × HasGivenAny Two (ps ++ with_lines p ls ∷ []) new
          by ps p h e = let x = t.given ps p h e in (map Term x.0, (x.0, refl), stays.1 (ps ++ with_lines p (map Term x.0) ∷ []) x.1)

      pub lines-stop : (n : ℕ) → ((ps : List ShortProof) (p : ShortProof) → HasGivenAny Two (ps ++ p ∷ []) now → p.group ≡ g
          → IsBadAt short_texts now.progress.text n × NoItemOver short_lines (ps ++ p ∷ []) now.progress) → StopsLines g n old new
      lines-stop n bad k ps p h e =
          in-each old.progress two (λ k. (ps : List (AnyProof k)) (p : AnyProof k) → HasGivenAny k (ps ++ p ∷ []) old → p.group ≡ g → IsBadAt (any_texts k) old.progress.text n
          × (ls : List (any_lines k).Line) × AreTermsIn k ls × HasGivenAny k (ps ++ with_lines p ls ∷ []) new × NoItemOver (any_lines k) (ps ++ with_lines p ls ∷ []) new.progress) by k h.version ps p h e
        where
          by : (ps : List ShortProof) (p : ShortProof) → HasGivenAny Two (ps ++ p ∷ []) old → p.group ≡ g → IsBadAt short_texts old.progress.text n
              × (ls : List ShortLine) × AreTermsIn Two ls × HasGivenAny Two (ps ++ with_lines p ls ∷ []) new × NoItemOver short_lines (ps ++ with_lines p ls ∷ []) new.progress
          by ps p h e =
              let x = t.given ps p h e in
              let b = bad ps (with_lines p (map Term x.0)) x.1 e in (
                subst (λ (text : List ℕ). IsBadAt short_texts text n) t.text.0 b.0,
                map Term x.0,
                (x.0, refl),
                stays.1 (ps ++ with_lines p (map Term x.0) ∷ []) x.1,
                subst (λ (r : Progress). NoItemOver short_lines (ps ++ with_lines p (map Term x.0) ∷ []) r) (sym stays.0) b.1,
              )

-- ---- what is answered

pub given-of : {X : Type 0} (P : X → Type 0) (o : Option X) (x : X) → o ≡ Some x → OnGiven (Ok o) P → P x
given-of {X = X} P o x e h = subst (λ (o : Option X). OnGiven (Ok o) P) e h

module _ {X : Type 0} (result : Result (Option X) TextFault) where
  pub given-so : (P Q : X → Type 0) → ((x : X) → P x → Q x) → OnGiven result P → OnGiven result Q
  given-so P Q so h = by result h
    where
      by : (r : Result (Option X) TextFault) → OnGiven r P → OnGiven r Q
      by (Ok (Some x)) h = so x h
      by (Ok None) h = tt
      by (Err e) h = tt

  pub end-so : (P Q : Type 0) → (P → Q) → OnEnd result P → OnEnd result Q
  end-so P Q so h = by result h
    where
      by : (r : Result (Option X) TextFault) → OnEnd r P → OnEnd r Q
      by (Ok (Some x)) h = tt
      by (Ok None) h = so h
      by (Err e) h = tt

  pub bad-both : (P Q R : ℕ → Type 0) → ((n : ℕ) → P n → Q n → R n) → OnBad result P → OnBad result Q → OnBad result R
  bad-both P Q R so h k = by result h k
    where
      by : (r : Result (Option X) TextFault) → OnBad r P → OnBad r Q → OnBad r R
      by (Ok o) h k = tt
      by (Err (Bad n)) h k = so n h k
      by (Err NoMemory) h k = tt

pub kept-table : (k : Known) (kept : KeptLines) (ls : List (any_lines k).Line) (table : List Node) → IsOpen kept → ((before : List ShortLine) → AreKept kept before → table ≡ table_of before) → AreKeptIn k kept ls → table ≡ table_in k ls
kept-table One kept ls table open_ terms are = terms open_.0 open_.1 ∙ sym open_.1.table ∙ are
kept-table Two kept ls table open_ terms are = terms ls are
kept-table Three kept ls table open_ terms are = terms open_.0 open_.1 ∙ sym open_.1.table ∙ are
kept-table Four kept ls table open_ terms are = terms open_.0 open_.1 ∙ sym open_.1.table ∙ are

-- ---- the exit of a `?`

module _ (X : Type 0) (e : TextFault) (P Q : ℕ → Type 0) (so : (n : ℕ) → P n → Q n) (h : OnBad {X = X} (Err e) P) where
  bad-so : (Y : Type 0) → OnBad {X = Y} (Err e) Q
  bad-so Y = by e h
    where
      by : (f : TextFault) → OnBad {X = X} (Err f) P → OnBad {X = Y} (Err f) Q
      by (Bad n) h = so n h
      by NoMemory h = tt

  pub bad-exit : (result : Result (Option AnyLine) TextFault) → IsErrAnd result (λ y. y ≡ e) → OnBad result Q
  bad-exit (Ok o) is = absurd is
  bad-exit (Err y) is = subst (λ (f : TextFault). OnBad {X = AnyLine} (Err f) Q) (sym is) (bad-so AnyLine)

  pub bad-exit-item : (result : Result Bool TextFault) → IsErrAnd result (λ y. y ≡ e) → OnBad (as_item result) Q
  bad-exit-item (Ok true) is = absurd is
  bad-exit-item (Ok false) is = absurd is
  bad-exit-item (Err y) is = subst (λ (f : TextFault). OnBad {X = Unit {0}} (Err f) Q) (sym is) (bad-so (Unit {0}))

pub any-fault : {X : Type 0} (result : Result X TextFault) (A : Type 0) → A → OnErr result A
any-fault (Ok x) A a = tt
any-fault (Err e) A a = a
