-- What a search through a text's groups has found.
use Rattle.std.proofs.Common.{◌≡◌, ℕ, Bool, true, false, cond, ◌+◌, ◌^◌, ◌<◌, ◌≤◌, List, [], ◌∷◌, ◌++◌, length, map, Option, Some, None, Result, Ok, Err, refl, sym, ap, subst, ◌∙◌, ◌⊎◌, inl, inr, arith, append_assoc}
use Rattle.std.specs.List.{AllByRecursion}
use Rattle.std.specs.Prelude.{bytes_eq}
use Rattle.std.specs.Result.{IsErrAnd}
use Rattle.std.proofs.lemmas.List.{append-nil, length-append, length-map}
use Rattle.mc_text.specs.Fault.{IsBadAt, newlines}
use Rattle.group_text.specs.declared.version.Version.{Version as Known}
use Rattle.group_text.specs.Version.{version_of}
use Rattle.tailrec_lang.specs.declared.group.Group.{Group}
use Rattle.tailrec_lang.specs.Tree.{GroupTree, group_tree}
use Rattle.tailrec_lang.specs.WellFormed.{IsFirstIllFormed, IsWellFormed}
use Rattle.tailrec_lang.specs.Eval.{HasFewNeeds}
use Rattle.proof_text.specs.Line.{ProofOf}
use Rattle.proof_text.specs.LineGrammar.{AreProofsOver}
use Rattle.proof_text.specs.Proofs.{bare, groups_of}
use Rattle.proof_text.specs.FirstProofs.{Progress, ItemOf, Opens, Adds, items, passed_over, with_line, HasGivenOver, ProofEnds, MayOpen, AreReadOver, BeginsWithItems}
use Rattle.proof_text.specs.Answers.{NoItemOver, OnBad, OnEnd, OnGiven}
use Rattle.group_text.specs.declared.read_error.TextFault.{TextFault}
use Rattle.group_text.specs.declared.read_error.TextFault.TheVariants.{Bad, NoMemory}
use Rattle.proof_text.proofs.TextItems.{items-opened, items-added}
use Rattle.proof_text.proofs.Fronts.{fronts, front-read, few-read, given-read, text-front}
use Rattle.proof_text.proofs.ProofTexts.{proofs-once}
use Rattle.mcdec_commands.specs.declared.search.Refusal.{Refusal}
use Rattle.mcdec_commands.specs.declared.search.Refusal.TheVariants as refusal
use Rattle.verdicts.specs.inner.Checking.{IsSameText}
use Rattle.proof_v2.specs.AnyReading.{AnyState, AreSomeLinesIn, AreTermsIn, GivesGroupAny, GivesLines, HasGivenAny, StopsGroups, StopsLines, as_item, with_lines}
use Rattle.proof_v2.specs.AnyText.{AnyProof, BeginsIn, ListsIn, any_lines, any_texts}
use Rattle.proof_v2.specs.Titles.{named_version}
use Rattle.proof_v2.proofs.AnyKnown.{any_known}
use Rattle.mcdec_commands.specs.EvalAnswer.{IsNamed}
use Rattle.mcdec_commands.specs.inner.Search.{HasBadLineIn, GoesOnBehind, LineIs, LinesArePassed, Passing, NextIs, Finds, FoundSo, Searched, first_named}

all-behind : (F : GroupTree → Type 0) (gs : List GroupTree) (g : GroupTree) → AllByRecursion F gs → F g → AllByRecursion F (gs ++ g ∷ [])
all-behind F [] g h k = (k, tt)
all-behind F (x ∷ gs) g h k = (h.0, all-behind F gs g h.1 k)

all-front : (F : GroupTree → Type 0) (gs hs : List GroupTree) → AllByRecursion F (gs ++ hs) → AllByRecursion F gs
all-front F [] hs h = tt
all-front F (g ∷ gs) hs h = (h.0, all-front F gs hs h.1)

-- the first of a name, with one more group behind
first-kept : (name : List ℕ) (gs : List GroupTree) (g first : GroupTree) → first_named name gs ≡ Some first → first_named name (gs ++ g ∷ []) ≡ Some first
first-kept name [] g first e = absurd cc
first-kept name (x ∷ gs) g first e = here (bytes_eq x.name name) e (first-kept name gs g first)
  where
    here : (b : Bool) → cond b (Some x) (first_named name gs) ≡ Some first → (first_named name gs ≡ Some first → first_named name (gs ++ g ∷ []) ≡ Some first)
        → cond b (Some x) (first_named name (gs ++ g ∷ [])) ≡ Some first
    here true e behind = e
    here false e behind = behind e

first-behind : (name : List ℕ) (gs : List GroupTree) (g : GroupTree) → first_named name gs ≡ None → first_named name (gs ++ g ∷ []) ≡ cond (bytes_eq g.name name) (Some g) None
first-behind name [] g e = refl
first-behind name (x ∷ gs) g e = here (bytes_eq x.name name) e (first-behind name gs g)
  where
    here : (b : Bool) → cond b (Some x) (first_named name gs) ≡ None → (first_named name gs ≡ None → first_named name (gs ++ g ∷ []) ≡ cond (bytes_eq g.name name) (Some g) None)
        → cond b (Some x) (first_named name (gs ++ g ∷ [])) ≡ cond (bytes_eq g.name name) (Some g) None
    here true e behind = absurd cc
    here false e behind = behind e

-- one more group where one was found
pub found-kept : (name : List ℕ) (gs : List GroupTree) (next : GroupTree) (found : Option Group) (g : Group) → found ≡ Some g → FoundSo name gs found → FoundSo name (gs ++ next ∷ []) (Some g)
found-kept name gs next found g is h = let s = subst (FoundSo name gs) is h in (first-kept name gs next (group_tree g) s.0, s.1)

-- one more group where none was found
module _ (name : List ℕ) (gs : List GroupTree) (next : Group) (found : Option Group) (none : found ≡ None) (h : FoundSo name gs found) where
  more-is : first_named name (gs ++ group_tree next ∷ []) ≡ cond (bytes_eq (group_tree next).name name) (Some (group_tree next)) None
  more-is = first-behind name gs (group_tree next) (subst (FoundSo name gs) none h)

  pub found-now : bytes_eq (group_tree next).name name ≡ true → HasFewNeeds (group_tree next) → FoundSo name (gs ++ group_tree next ∷ []) (Some next)
  found-now is few = (more-is ∙ ap (λ (b : Bool). cond b (Some (group_tree next)) None) is, few)

  pub none-more : bytes_eq (group_tree next).name name ≡ false → FoundSo name (gs ++ group_tree next ∷ []) None
  none-more is = more-is ∙ ap (λ (b : Bool). cond b (Some (group_tree next)) None) is

-- ---- groups among items

module _ {L : Type 0} where
  abbrev opened : List (ItemOf L) → List GroupTree
  opened [] = []
  opened (Opens g ∷ is) = g ∷ opened is
  opened (Adds l ∷ is) = opened is

  opened-behind : (is js : List (ItemOf L)) → opened (is ++ js) ≡ opened is ++ opened js
  opened-behind [] js = refl
  opened-behind (Opens g ∷ is) js = ap (λ (gs : List GroupTree). g ∷ gs) (opened-behind is js)
  opened-behind (Adds l ∷ is) js = opened-behind is js

  opened-lines : (ls : List L) (is : List (ItemOf L)) → opened (map Adds ls ++ is) ≡ opened is
  opened-lines [] is = refl
  opened-lines (l ∷ ls) is = opened-lines ls is

  opened-are : (ps : List (ProofOf L)) → opened (items ps) ≡ groups_of ps
  opened-are [] = refl
  opened-are (p ∷ ps) = ap (λ (gs : List GroupTree). p.group ∷ gs) (opened-lines p.lines (items ps) ∙ opened-are ps)

  -- where the items of some proofs begin with those of others, so do their groups
  pub groups-front : (ps qs : List (ProofOf L)) → BeginsWithItems ps qs → (more : List GroupTree) × (groups_of ps ≡ groups_of qs ++ more)
  groups-front ps qs b =
      (opened b.0, sym (opened-are ps) ∙ ap opened b.1 ∙ opened-behind (items qs) b.0 ∙ ap (λ (gs : List GroupTree). gs ++ opened b.0) (opened-are qs))

  pub groups-more : (ps : List (ProofOf L)) (p : ProofOf L) → groups_of (ps ++ p ∷ []) ≡ groups_of ps ++ p.group ∷ []
  groups-more [] p = refl
  groups-more (x ∷ ps) p = ap (λ (gs : List GroupTree). x.group ∷ gs) (groups-more ps p)

  pub as-many : (ps : List (ProofOf L)) → length (groups_of ps) ≡ length ps
  as-many ps = length-map ps (λ (p : ProofOf L). p.group)

  -- proofs with one line more
  abbrev and_line : ProofOf L → List (ProofOf L) → L → List (ProofOf L)
  and_line p [] l = with_line p l ∷ []
  and_line p (q ∷ ps) l = p ∷ and_line q ps l

  line-behind : (p : ProofOf L) (ps : List (ProofOf L)) (l : L) → items (and_line p ps l) ≡ items (p ∷ ps) ++ Adds l ∷ []
  line-behind p [] l = items-added [] p l
  line-behind p (q ∷ ps) l =
      ap (λ (is : List (ItemOf L)). Opens p.group ∷ (map Adds p.lines ++ is)) (line-behind q ps l)
      ∙ ap (λ (is : List (ItemOf L)). Opens p.group ∷ is) (sym (append_assoc (map Adds p.lines) (items (q ∷ ps)) (Adds l ∷ [])))

  no-line-first : (hs : List (ProofOf L)) (l : L) (more : List (ItemOf L)) → items hs ≡ Adds l ∷ more → ⊥
  no-line-first [] l more e = cc
  no-line-first (h ∷ hs) l more e = cc

  -- an item that comes next
  next-item : (ps hs : List (ProofOf L)) (i : ItemOf L) (more : List (ItemOf L)) → items hs ≡ items ps ++ i ∷ more → (ks : List (ProofOf L)) × (items ks ≡ items ps ++ i ∷ [])
  next-item ps hs (Opens g) more e = (ps ++ bare g ∷ [], items-opened ps g)
  next-item [] hs (Adds l) more e = absurd (no-line-first hs l more e)
  next-item (p ∷ ps) hs (Adds l) more e = (and_line p ps l, line-behind p ps l)

  same-groups : (ps : List (ProofOf L)) (p q : ProofOf L) → p.group ≡ q.group → groups_of (ps ++ p ∷ []) ≡ groups_of (ps ++ q ∷ [])
  same-groups ps p q e = groups-more ps p ∙ ap (λ (g : GroupTree). groups_of ps ++ g ∷ []) e ∙ sym (groups-more ps q)

-- ---- the groups of a text

module _ (k : Known) (text : List ℕ) (gs hs : List GroupTree) where
  front-of : (ps qs : List (AnyProof k)) → gs ≡ groups_of ps → hs ≡ groups_of qs → BeginsWithItems ps qs → (more : List GroupTree) × (gs ≡ hs ++ more)
  front-of ps qs a b m = let f = groups-front ps qs m in (f.0, a ∙ f.1 ∙ ap (λ (is : List GroupTree). is ++ f.0) (sym b))

  -- of two lists with which it begins one begins with the other
  pub begins-alike : BeginsIn k text gs → BeginsIn k text hs → ((more : List GroupTree) × (gs ≡ hs ++ more)) ⊎ ((more : List GroupTree) × (hs ≡ gs ++ more))
  begins-alike a b = elim (fronts (any_known k) text a.proofs b.proofs a.read b.read) [ inl m ↦ inl (front-of a.proofs b.proofs a.groups b.groups m) | inr m ↦ inr (back m) ]
    where
      back : BeginsWithItems b.proofs a.proofs → (more : List GroupTree) × (hs ≡ gs ++ more)
      back m = let f = groups-front b.proofs a.proofs m in (f.0, b.groups ∙ f.1 ∙ ap (λ (is : List GroupTree). is ++ f.0) (sym a.groups))

  -- all of them begin with these
  pub listed-front : ListsIn k text gs → BeginsIn k text hs → (more : List GroupTree) × (gs ≡ hs ++ more)
  listed-front a b = front-of a.proofs b.proofs a.groups b.groups (text-front (any_known k) text a.proofs b.proofs a.spelled.fit a.spelled.spelled b.read)

  pub listed-once : ListsIn k text gs → ListsIn k text hs → gs ≡ hs
  listed-once a b =
      let same : a.proofs ≡ b.proofs = proofs-once (any_known k) a.proofs b.proofs a.spelled.fit b.spelled.fit (sym a.spelled.spelled ∙ b.spelled.spelled) in
      a.groups ∙ ap (λ (ps : List (AnyProof k)). groups_of ps) same ∙ sym b.groups

-- ---- what is read where no further item follows

module _ (r : Progress) where
  well-at : (qs : List (AnyProof r.version)) → HasGivenOver (any_lines r.version) qs r → NoItemOver (any_lines r.version) qs r → AllByRecursion IsWellFormed (groups_of qs)
      → (hs : List (AnyProof r.version)) → AreReadOver (any_lines r.version) (version_of r.version) r.text hs → AllByRecursion IsWellFormed (groups_of hs)
  well-at qs h none well hs read = elim (fronts (any_known r.version) r.text qs hs (given-read (any_known r.version) qs r h) read) [ inl m ↦ front m | inr m ↦ behind m.0 m.1 ]
    where
      front : BeginsWithItems qs hs → AllByRecursion IsWellFormed (groups_of hs)
      front m = let f = groups-front qs hs m in all-front IsWellFormed (groups_of hs) f.0 (subst (AllByRecursion IsWellFormed) f.1 well)

      behind : (more : List (ItemOf (any_lines r.version).Line)) → items hs ≡ items qs ++ more → AllByRecursion IsWellFormed (groups_of hs)
      behind [] e = front ([], sym (append-nil (items qs)) ∙ sym e ∙ sym (append-nil (items hs)))
      behind (i ∷ more) e =
          let k = next-item qs hs i more e in
          let begins : items hs ≡ items k.0 ++ more = e ∙ sym (append_assoc (items qs) (i ∷ []) more) ∙ ap (λ (is : List (ItemOf (any_lines r.version).Line)). is ++ more) (sym k.1) in
          let a = front-read (any_known r.version) r.text hs k.0 read (more, begins) in
          let new : Progress = record { version = r.version; text = r.text; rest = a.0; place = newlines (passed_over (any_lines r.version) (version_of r.version) k.0) } in
          absurd (none i k.0 new refl refl k.1 (record { fit = a.1.fit; text = a.1.text; place = refl; ended = a.1.ended }))

module _ (k : Known) (r : AnyState) where
  pub read-given : (ps : List (AnyProof k)) → HasGivenAny k ps r → AreReadOver (any_lines k) (version_of k) r.progress.text ps
  read-given ps h =
      subst (λ (k : Known). (ps : List (AnyProof k)) → HasGivenOver (any_lines k) ps r.progress → AreReadOver (any_lines k) (version_of k) r.progress.text ps) h.version
      (λ ps g. given-read (any_known r.progress.version) ps r.progress g) ps h.given

  all-well : (qs : List (AnyProof k)) → HasGivenAny k qs r → NoItemOver (any_lines k) qs r.progress → AllByRecursion IsWellFormed (groups_of qs)
      → (gs : List GroupTree) → BeginsIn k r.progress.text gs → AllByRecursion IsWellFormed gs
  all-well qs h none well gs b =
      subst (AllByRecursion IsWellFormed) (sym b.groups)
      (subst (λ (k : Known). (qs : List (AnyProof k)) → HasGivenOver (any_lines k) qs r.progress → NoItemOver (any_lines k) qs r.progress → AllByRecursion IsWellFormed (groups_of qs)
      → (hs : List (AnyProof k)) → AreReadOver (any_lines k) (version_of k) r.progress.text hs → AllByRecursion IsWellFormed (groups_of hs)) h.version (well-at r.progress) qs h.given none well b.proofs b.read)

  bad-text : (qs : List (AnyProof k)) (line : ℕ) → HasGivenAny k qs r → IsBadAt (any_texts k) r.progress.text line → NoItemOver (any_lines k) qs r.progress
      → AllByRecursion IsWellFormed (groups_of qs) → HasBadLineIn k r.progress.text line
  bad-text qs line h bad none well = (bad, all-well qs h none well)

-- ---- one text

-- the same text as before that
same-more : (new now old : Progress) → IsSameText new now → IsSameText now old → IsSameText new old
same-more new now old s t = (s.0 ∙ t.0, s.1 ∙ t.1)

bad-same : (k : Known) (line : ℕ) (new old : Progress) → IsSameText new old → HasBadLineIn k new.text line → HasBadLineIn k old.text line
bad-same k line new old s h = subst (λ (t : List ℕ). HasBadLineIn k t line) s.0 h

-- ---- the lines of a proof

may-open : {L : Type 0} (ps : List (ProofOf L)) (p : ProofOf L) (rest : List ℕ) → ProofEnds rest → MayOpen (ps ++ p ∷ []) rest
may-open [] p rest h = h
may-open (x ∷ ps) p rest h = h

module _ (g : GroupTree) (start now : AnyState) (s : Passing g start now) where
  pub line-more : (new : AnyState) → LineIs g now new (Ok true) → Passing g start new
  line-more new k = record {
    text = same-more new.progress now.progress start.progress k.0 s.text;
    no_longer = omega (arith, k.1, s.no_longer);
    given = λ v ps p h e. let q = s.given v ps p h e in k.2 v ps q.0 q.2 q.1;
  }

  pub lines-end : (new : AnyState) → LineIs g now new (Ok false) → LinesArePassed g start new (Ok tt)
  lines-end new k = (
    same-more new.progress now.progress start.progress k.0 s.text,
    omega (arith, k.1, s.no_longer),
    λ v ps p h e.
        let q = s.given v ps p h e in
        let r = k.2 v ps q.0 q.2 q.1 in
        (r.0, r.1, record { given = r.2; over = may-open ps r.0 new.progress.rest k.3 }),
  )

  pub lines-stop : (new last : AnyState) (e : Refusal) → LineIs g now new (Err e) → LinesArePassed g start last (Err e)
  lines-stop new last (refusal.Text line) k = λ v ps p h e well.
      let q = s.given v ps p h e in
      let stop = k.1 v ps q.0 q.2 q.1 in
      bad-same v line now.progress start.progress s.text
      (bad-same v line new.progress now.progress k.0
      (bad-text v new (ps ++ stop.1 ∷ []) line stop.3 (subst (λ (t : List ℕ). IsBadAt (any_texts v) t line) (sym k.0.0) stop.0) stop.4 (subst (AllByRecursion IsWellFormed) (same-groups ps p stop.1 (e ∙ sym stop.2)) well)))
  lines-stop new last (refusal.IllFormed m def) k = absurd k
  lines-stop new last refusal.NoFunction k = absurd k
  lines-stop new last refusal.NoMemory k = tt

-- what a reader answers, where nothing is told but what groups there are
goes-on : (g : GroupTree) (Are : (k : Known) → List (any_lines k).Line → Type 0) (old new : AnyState) → GivesLines g Are old new → GoesOnBehind g old new
goes-on g Are old new given = λ k ps p h e. let x = given k ps p h e in (with_lines p x.0, e, x.2)

pub line-answer : (g : GroupTree) (old new : AnyState) (more : Bool) → IsSameText new.progress old.progress → length new.progress.rest ≤ length old.progress.rest
    → OnGiven (as_item (Ok more)) (λ _. GivesLines g AreSomeLinesIn old new) → OnGiven (as_item (Ok more)) (λ _. length new.progress.rest < length old.progress.rest)
    → OnEnd (as_item (Ok more)) (ProofEnds new.progress.rest × GivesLines g AreTermsIn old new) → LineIs g old new (Ok more)
line-answer g old new true same no-more given fewer ends = (same, fewer, goes-on g AreSomeLinesIn old new given)
line-answer g old new false same no-more given fewer ends = (same, no-more, goes-on g AreTermsIn old new ends.1, ends.0)

pub line-bad : (g : GroupTree) (old new : AnyState) (f : TextFault) (line : ℕ) → f ≡ Bad line → IsSameText new.progress old.progress → OnBad (as_item (Err f)) (λ n. StopsLines g n old new)
    → LineIs g old new (Err (refusal.Text line))
line-bad g old new (Bad m) line e same stops =
    let is : m ≡ line = cc in
    (same, λ k ps p h e. let x = stops k ps p h e in (subst (λ (n : ℕ). IsBadAt (any_texts k) old.progress.text n) is x.0, with_lines p x.1, e, x.3, x.4))
line-bad g old new NoMemory line e same stops = absurd cc

-- ---- the next group

pub group-refused : (n : ℕ) (old new : AnyState) (f : TextFault) (line : ℕ) → f ≡ Bad line → OnBad {X = Group} (Err f) (λ n. StopsGroups n old) → NextIs n old new (Err (refusal.Text line))
group-refused n old new (Bad m) line e stops = λ k ps h well.
    let same : m ≡ line = cc in
    let stop = stops k ps h.given h.over in
    subst (λ (x : ℕ). HasBadLineIn k old.progress.text x) same (bad-text k old ps m h.given stop.0 stop.1 well)
group-refused n old new NoMemory line e stops = absurd cc

module _ (n : ℕ) (old mid new : AnyState) (g : Group) (same : IsSameText mid.progress old.progress) (given : GivesGroupAny (group_tree g) old mid) where
  pub group-ill : (def : ℕ) → IsFirstIllFormed (group_tree g) def → NextIs n old new (Err (refusal.IllFormed n def))
  group-ill def first = (
    refl,
    group_tree g,
    first,
    λ k ps h. record {
      proofs = ps ++ bare (group_tree g) ∷ [];
      read = subst (λ (t : List ℕ). AreReadOver (any_lines k) (version_of k) t (ps ++ bare (group_tree g) ∷ [])) same.0 (read-given k mid (ps ++ bare (group_tree g) ∷ []) (given k ps h.given));
      groups = sym (groups-more ps (bare (group_tree g)));
    },
  )

  -- where the lines of a group are refused, no group is given
  pub lines-refused : IsWellFormed (group_tree g) → (last : AnyState) (e : Refusal) → LinesArePassed (group_tree g) mid new (Err e) → NextIs n old last (Err e)
  lines-refused is last (refusal.Text line) k = λ v ps h well.
      bad-same v line mid.progress old.progress same
      (k v ps (bare (group_tree g)) (given v ps h.given) refl (subst (AllByRecursion IsWellFormed) (sym (groups-more ps (bare (group_tree g)))) (all-behind IsWellFormed (groups_of ps) (group_tree g) well is)))
  lines-refused is last (refusal.IllFormed m def) k = absurd k
  lines-refused is last refusal.NoFunction k = absurd k
  lines-refused is last refusal.NoMemory k = tt

-- ---- the search

module _ (start : AnyState) (name : List ℕ) (r : AnyState) (count : ℕ) (found : Option Group) (s : Searched start name r count found) where
  -- of a reader of the version that the text's first line names
  module _ (named : start.progress.version ≡ named_version start.progress.text) where
    -- the search stopped
    pub stopped : (new : AnyState) (e : Refusal) → NextIs count r new (Err e) → Finds start.progress.text name (Err e)
    stopped new (refusal.Text line) h =
        subst (λ (v : Known). HasBadLineIn v start.progress.text line) named
        (bad-same start.progress.version line r.progress start.progress s.same (h start.progress.version s.proofs s.passed s.well_formed))
    stopped new (refusal.IllFormed m def) h = (
      groups_of s.proofs,
      h.1,
      subst (λ (v : Known). BeginsIn v start.progress.text (groups_of s.proofs ++ h.1 ∷ [])) named
          (subst (λ (t : List ℕ). BeginsIn start.progress.version t (groups_of s.proofs ++ h.1 ∷ [])) s.same.0 (h.3 start.progress.version s.proofs s.passed)),
      s.well_formed,
      h.0 ∙ s.counted ∙ sym (as-many s.proofs),
      h.2,
    )
    stopped new refusal.NoFunction h = absurd h
    stopped new refusal.NoMemory h = tt

    -- the text has ended: its first group of the name
    pub ended : (new : AnyState) (o : Option Group) → ((g : Group) → o ≡ Some g → ⊥) → NextIs count r new (Ok o) → IsNamed start.progress.text name (first_named name (groups_of s.proofs))
    ended new None not h =
        let listed : ListsIn start.progress.version start.progress.text (groups_of s.proofs) = record {
          proofs = s.proofs;
          spelled = record {
            fit = subst (λ (v : Known). AreProofsOver (any_lines start.progress.version) (version_of v) s.proofs) s.passed.given.version s.passed.given.given.fit;
            spelled = sym s.same.0 ∙ h start.progress.version s.proofs s.passed;
          };
          groups = refl;
        } in
        record {
          groups = groups_of s.proofs;
          listed = subst (λ (v : Known). ListsIn v start.progress.text (groups_of s.proofs)) named listed;
          well_formed = s.well_formed;
          first = refl;
        }
    ended new (Some g) not h = absurd (not g refl)

  -- an item takes a byte
  no-more-than : count ≤ length start.progress.text
  no-more-than =
      let n : length r.progress.text ≡ length start.progress.text = ap length s.same.0 in
      omega (arith, few-read (any_known start.progress.version) r.progress.text s.proofs (read-given start.progress.version r s.proofs s.passed.given), few-proofs s.proofs, s.counted, n)
    where
      few-proofs : (ps : List (AnyProof start.progress.version)) → length ps ≤ length (items ps)
      few-proofs [] = omega arith
      few-proofs (p ∷ ps) = omega (arith, few-proofs ps, length-append (map Adds p.lines) (items ps))

  -- so they can be counted
  pub count-fits : length start.progress.text < 2 ^ 63 → count + 1 < 2 ^ 64
  count-fits low = omega (arith, no-more-than, low)

  -- the search goes on
  pub more : (new : AnyState) (g : Group) (now : Option Group) → NextIs count r new (Ok (Some g)) → ((gs : List GroupTree) → FoundSo name gs found → FoundSo name (gs ++ group_tree g ∷ []) now) → Searched start name new (count + 1) now
  more new g now h keep =
      let q = h.4 start.progress.version s.proofs s.passed in
      let groups : groups_of (s.proofs ++ q.0 ∷ []) ≡ groups_of s.proofs ++ group_tree g ∷ [] = groups-more s.proofs q.0 ∙ ap (λ (x : GroupTree). groups_of s.proofs ++ x ∷ []) q.1 in
      record {
        proofs = s.proofs ++ q.0 ∷ [];
        passed = q.2;
        same = same-more new.progress r.progress start.progress h.0 s.same;
        well_formed = subst (AllByRecursion IsWellFormed) (sym groups) (all-behind IsWellFormed (groups_of s.proofs) (group_tree g) s.well_formed h.2);
        counted = omega (arith, s.counted, length-append s.proofs (q.0 ∷ []));
        so = subst (λ (gs : List GroupTree). FoundSo name gs now) (sym groups) (keep (groups_of s.proofs) s.so);
      }

-- the exit of a `?`
pub found-exit : (text name : List ℕ) (result : Result Group Refusal) (e : Refusal) → IsErrAnd result (λ y. y ≡ e) → Finds text name (Err e) → Finds text name result
found-exit text name (Ok g) e is h = absurd is
found-exit text name (Err y) e is h = subst (λ (x : Refusal). Finds text name (Err x)) (sym is) h

pub passed-exit : (g : GroupTree) (old new : AnyState) (result : Result (Unit {0}) Refusal) (e : Refusal) → IsErrAnd result (λ y. y ≡ e) → LinesArePassed g old new (Err e) → LinesArePassed g old new result
passed-exit g old new (Ok done) e is h = absurd is
passed-exit g old new (Err y) e is h = subst (λ (x : Refusal). LinesArePassed g old new (Err x)) (sym is) h

pub next-exit : (n : ℕ) (old new : AnyState) (result : Result (Option Group) Refusal) (e : Refusal) → IsErrAnd result (λ y. y ≡ e) → NextIs n old new (Err e) → NextIs n old new result
next-exit n old new (Ok found) e is h = absurd is
next-exit n old new (Err y) e is h = subst (λ (x : Refusal). NextIs n old new (Err x)) (sym is) h
