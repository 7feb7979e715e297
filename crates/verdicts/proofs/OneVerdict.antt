-- A file and a text have one verdict at most, whatever lines stand behind groups, where each line leaves one thing at most.
use Rattle.std.proofs.Common.{◌≡◌, ℕ, zero, suc, ◌<◌, List, [], ◌∷◌, ◌++◌, length, take, Some, None, slice_get, refl, sym, ap, subst, ◌∙◌, ◌⊎◌, ⊎_elim, inl, inr, arith}
use Rattle.std.specs.List.{AllByRecursion}
use Rattle.mc_text.specs.Fault.{IsBadAt, newlines}
use Rattle.mc_text.proofs.FaultOnce.{bad-once}
use Rattle.elf_image.specs.declared.fault.ElfFault.{ElfFault}
use Rattle.elf_image.specs.Fault.{IsReadable, fault_of}
use Rattle.tailrec_lang.specs.Tree.{GroupTree}
use Rattle.tailrec_lang.specs.WellFormed.{IsFirstIllFormed}
use Rattle.proof_text.specs.Proofs.{bare}
use Rattle.proof_text.specs.FirstProofs.{BeginsWithItems, with_line}
use Rattle.proof_text.specs.inner.LineReaders.{KnownTexts}
use Rattle.proof_text.proofs.Fronts.{fronts, text-front}
use Rattle.proof_text.proofs.KnownLines.{AreRead, Line, Proof, passed, texts, version}
use Rattle.proof_text.proofs.ProofTexts.{proofs-once}
use Rattle.verdicts.specs.declared.verdict.Verdict.{Verdict}
use Rattle.verdicts.specs.declared.verdict.Verdict.TheVariants as verdict
use Rattle.verdicts.specs.Instance.{History, no_lines}
use Rattle.verdicts.specs.LineRules.{AcceptsOver, AllLeave, IsClosedFor, IsProvedOver, IsRightOver, IsRightTo, LineRules, count_over}
use Rattle.verdicts.specs.Verdicts.{IsAcceptance, IsBadTextOver, IsOpenOver, IsTextOver, SaysOver}
use Rattle.verdicts.proofs.FirstLemmas.{AreFirst, all-last, all-more, begins-first, first-def, first-right, group-last, ill-formed, last-leave, line-last, proved-right, same-last, that-some}

-- ---- what is told of nothing else

all-at : {A : Type 0} (F : A → Type 0) (xs : List A) (k : ℕ) (x : A) → AllByRecursion F xs → slice_get xs k ≡ Some x → F x
all-at F [] k x all e = absurd cc
all-at F (y ∷ xs) zero x all e = let same : y ≡ x = cc in subst F same all.0
all-at F (y ∷ xs) (suc k) x all e = all-at F xs k x all.1 e

-- what stands at a place is among what stands before a later one
before-later : {A : Type 0} (xs : List A) (j k : ℕ) (x : A) → j < k → slice_get xs j ≡ Some x → slice_get (take k xs) j ≡ Some x
before-later [] j k x lt e = absurd cc
before-later (y ∷ xs) zero (suc k) x lt e = e
before-later (y ∷ xs) (suc j) (suc k) x lt e = before-later xs j k x (omega arith) e
before-later (y ∷ xs) j zero x lt e = absurd (omega arith)

-- a verdict is `NoMemory`, or it isn't
or-memory : (v : Verdict) → (v ≡ verdict.NoMemory) ⊎ (v ≡ verdict.NoMemory → ⊥)
or-memory (verdict.Accepted functions lines) = inr (λ e. cc)
or-memory (verdict.BadElf why) = inr (λ e. cc)
or-memory (verdict.BadText n) = inr (λ e. cc)
or-memory (verdict.BadDef g d) = inr (λ e. cc)
or-memory (verdict.BadLine n) = inr (λ e. cc)
or-memory (verdict.NotProved g) = inr (λ e. cc)
or-memory verdict.NoMemory = inl refl

-- a verdict of acceptance says that the proofs of the text are accepted
pub accepted-proofs : (known : KnownTexts) (J : LineRules known.readers.grammar) (file text : List ℕ) (v : Verdict) → SaysOver J (version known) file text v → IsAcceptance v
    → (ps : List (Proof known)) → IsTextOver known.readers.grammar (version known) text ps → AcceptsOver J file ps
accepted-proofs known J file text (verdict.Accepted functions lines) h is ps t = subst (AcceptsOver J file) (proofs-once known h.proofs ps h.spelled.fit t.fit (sym h.spelled.spelled ∙ t.spelled)) h.accepted
accepted-proofs known J file text (verdict.BadElf why) h is ps t = absurd is
accepted-proofs known J file text (verdict.BadText n) h is ps t = absurd is
accepted-proofs known J file text (verdict.BadDef g d) h is ps t = absurd is
accepted-proofs known J file text (verdict.BadLine n) h is ps t = absurd is
accepted-proofs known J file text (verdict.NotProved g) h is ps t = absurd is
accepted-proofs known J file text verdict.NoMemory h is ps t = absurd is

module _ (known : KnownTexts) (J : LineRules known.readers.grammar)
    (only : (g : GroupTree) (before : List (Line known)) (h : History) (l : Line known) (a b : History) → J.Leaves g before h l a → J.Leaves g before h l b → a ≡ b) where
  -- ---- what lines leave

  leave-once : (g : GroupTree) (before : List (Line known)) (h : History) (ls : List (Line known)) (a b : History) → AllLeave J g before h ls a → AllLeave J g before h ls b → a ≡ b
  leave-once g before h [] a b x y = x ∙ sym y
  leave-once g before h (l ∷ ls) a b (m, here, more) (n, here', more') =
      let same = only g before h l m n here here' in
      leave-once g (before ++ l ∷ []) n ls a b (subst (λ (k : History). AllLeave J g (before ++ l ∷ []) k ls a) same more) more'

  right-once : (p : Proof known) (a b : History) → IsRightTo J p a → IsRightTo J p b → a ≡ b
  right-once p a b x y = leave-once p.group [] no_lines p.lines a b x.lines y.lines

  def-wrong : (b : List (Proof known)) (g : GroupTree) (d : ℕ) → IsFirstIllFormed g d → AllByRecursion (IsRightOver J) (b ++ bare g ∷ []) → ⊥
  def-wrong b g d first right = ill-formed g d first ((all-last (IsRightOver J) b (bare g) right).1.well_formed)

  line-wrong : (b : List (Proof known)) (p : Proof known) (l : Line known) (after : History) → IsRightTo J p after → ((next : History) → J.Leaves p.group p.lines after l next → ⊥)
      → AllByRecursion (IsRightOver J) (b ++ with_line p l ∷ []) → ⊥
  line-wrong b p l after so_far wrong right =
      let r = all-last (IsRightOver J) b (with_line p l) right in
      let last = last-leave J p.group [] no_lines p.lines l r.0 r.1.lines in
      let same = leave-once p.group [] no_lines p.lines last.0 after last.2 so_far.lines in
      wrong last.1 (subst (λ (h : History). J.Leaves p.group p.lines h l last.1) same last.3)

  -- ---- what is refused: a definition or a line

  abbrev DefCase : List (Proof known) → Verdict → Type 0
  DefCase ps v = (b : List (Proof known)) × (g : GroupTree) × (d : ℕ) × (ps ≡ b ++ bare g ∷ []) × IsFirstIllFormed g d × (v ≡ verdict.BadDef (length b) d)

  abbrev LineCase : List (Proof known) → Verdict → Type 0
  LineCase ps v = (b : List (Proof known)) × (p : Proof known) × (l : Line known) × (ps ≡ b ++ with_line p l ∷ []) × (v ≡ verdict.BadLine (newlines (passed known ps)))

  record Refused (text : List ℕ) (v : Verdict) : Type 0 where
    pub proofs : List (Proof known)
    pub read : AreRead known text proofs
    pub wrong : AllByRecursion (IsRightOver J) proofs → ⊥
    pub first : (ps : List (Proof known)) → AreFirst ps proofs → (ps ≡ proofs) ⊎ AllByRecursion (IsRightOver J) ps
    pub kind : DefCase proofs v ⊎ LineCase proofs v

  some-line : (ls : List (Line known)) (l : Line known) → [] ≡ ls ++ l ∷ [] → ⊥
  some-line [] l e = cc
  some-line (k ∷ ls) l e = cc

  same-kind : (ps : List (Proof known)) (v w : Verdict) → DefCase ps v ⊎ LineCase ps v → DefCase ps w ⊎ LineCase ps w → v ≡ w
  same-kind ps v w (inl (b, g, d, is, first, same)) (inl (c, h, e, is', first', same')) =
      let r = same-last b c (bare g) (bare h) (sym is ∙ is') in
      let group : g ≡ h = ap (λ (p : Proof known). p.group) r.1 in
      let def : d ≡ e = first-def h d e (subst (λ (x : GroupTree). IsFirstIllFormed x d) group first) first' in
      same ∙ (λ i. verdict.BadDef (length (r.0 i)) (def i)) ∙ sym same'
  same-kind ps v w (inl (b, g, d, is, first, same)) (inr (c, p, l, is', same')) =
      absurd (some-line p.lines l (ap (λ (q : Proof known). q.lines) ((same-last b c (bare g) (with_line p l) (sym is ∙ is')).1)))
  same-kind ps v w (inr (c, p, l, is', same')) (inl (b, g, d, is, first, same)) =
      absurd (some-line p.lines l (ap (λ (q : Proof known). q.lines) ((same-last b c (bare g) (with_line p l) (sym is ∙ is')).1)))
  same-kind ps v w (inr (b, p, l, is, same)) (inr (c, q, k, is', same')) = same ∙ sym same'

  -- ---- what a whole text comes to

  abbrev FirstNotProved : List ℕ → List (Proof known) → ℕ → Type 0
  FirstNotProved file ps k = (p : Proof known) × (slice_get ps k ≡ Some p) × AllByRecursion (IsProvedOver J file) (take k ps) × (IsProvedOver J file p → ⊥)

  abbrev EndCase : List ℕ → List (Proof known) → Verdict → Type 0
  EndCase file ps v = (AllByRecursion (IsProvedOver J file) ps × (v ≡ verdict.Accepted (length ps) (count_over J ps))) ⊎ ((k : ℕ) × FirstNotProved file ps k × (v ≡ verdict.NotProved k))

  not-later : (file : List ℕ) (ps : List (Proof known)) (j k : ℕ) → FirstNotProved file ps j → FirstNotProved file ps k → j < k → ⊥
  not-later file ps j k (p, there, before, wrong) (q, there', before', wrong') lt = wrong (all-at (IsProvedOver J file) (take k ps) j p before' (before-later ps j k p lt there))

  same-end : (file : List ℕ) (ps : List (Proof known)) (v w : Verdict) → EndCase file ps v → EndCase file ps w → v ≡ w
  same-end file ps v w (inl h) (inl k) = h.1 ∙ sym k.1
  same-end file ps v w (inl h) (inr (k, (p, there, before, wrong), is)) = absurd (wrong (all-at (IsProvedOver J file) ps k p h.0 there))
  same-end file ps v w (inr (k, (p, there, before, wrong), is)) (inl h) = absurd (wrong (all-at (IsProvedOver J file) ps k p h.0 there))
  same-end file ps v w (inr (j, h, is)) (inr (k, h', is')) =
      let same : j ≡ k = omega (arith, not-later file ps j k h h', not-later file ps k j h' h) in
      is ∙ ap (λ (n : ℕ). verdict.NotProved n) same ∙ sym is'

  -- ---- what a text comes to

  abbrev BadCase : List ℕ → Verdict → Type 0
  BadCase text v = (n : ℕ) × IsBadTextOver J (version known) text n × (v ≡ verdict.BadText n)

  abbrev WholeCase : List ℕ → List ℕ → Verdict → Type 0
  WholeCase file text v = (ps : List (Proof known)) × IsTextOver known.readers.grammar (version known) text ps × AllByRecursion (IsRightOver J) ps × EndCase file ps v

  abbrev TextCase : List ℕ → List ℕ → Verdict → Type 0
  TextCase file text v = BadCase text v ⊎ (Refused text v ⊎ WholeCase file text v)

  abbrev FileCase : List ℕ → List ℕ → Verdict → Type 0
  FileCase file text v = ((why : ElfFault) × (fault_of file ≡ Some why) × (v ≡ verdict.BadElf why)) ⊎ (IsReadable file × TextCase file text v)

  not-closed : (file : List ℕ) (p : Proof known) → IsOpenOver J file p → IsProvedOver J file p → ⊥
  not-closed file p (after, so_far, never) proved = never (subst (IsClosedFor file p.group) (right-once p proved.0 after proved.1 so_far) proved.2)

  file-case : (file text : List ℕ) (v : Verdict) → (v ≡ verdict.NoMemory → ⊥) → SaysOver J (version known) file text v → FileCase file text v
  file-case file text (verdict.Accepted functions lines) told h = inr (
    h.accepted.readable,
    inr (inr (
      h.proofs,
      h.spelled,
      proved-right J file h.proofs h.accepted.each,
      inl (h.accepted.each, λ i. verdict.Accepted (h.groups i) (h.count i)),
    )),
  )
  file-case file text (verdict.BadElf why) told h = inl (why, h, refl)
  file-case file text (verdict.BadText n) told h = inr (h.0, inl (n, h.1, refl))
  file-case file text (verdict.BadDef g d) told (readable, h) = inr (
    readable,
    inr (inl (record {
      proofs = h.before ++ bare h.group ∷ [];
      read = h.read;
      wrong = def-wrong h.before h.group d h.first;
      first = λ ps front. ⊎_elim (λ (e : ps ≡ h.before ++ bare h.group ∷ []). inl e) (λ (k : AreFirst ps h.before). inr (first-right J ps h.before k h.right)) (group-last ps h.before h.group front);
      kind = inl (h.before, h.group, d, refl, h.first, λ i. verdict.BadDef (h.number i) d);
    })),
  )
  file-case file text (verdict.BadLine n) told (readable, h) = inr (
    readable,
    inr (inl (record {
      proofs = h.before ++ with_line h.last h.line ∷ [];
      read = h.read;
      wrong = line-wrong h.before h.last h.line h.after h.so_far h.wrong;
      first = λ ps front. ⊎_elim (λ (e : ps ≡ h.before ++ with_line h.last h.line ∷ []). inl e)
          (λ (k : AreFirst ps (h.before ++ h.last ∷ [])). inr (first-right J ps (h.before ++ h.last ∷ []) k (all-more (IsRightOver J) h.before h.last h.right (h.after, h.so_far))))
          (line-last ps h.before h.last h.line front);
      kind = inr (h.before, h.last, h.line, refl, ap (λ (m : ℕ). verdict.BadLine m) h.number);
    })),
  )
  file-case file text (verdict.NotProved g) told (readable, h) =
      let p = that-some (slice_get h.proofs g) (IsOpenOver J file) h.here in
      inr (readable, inr (inr (h.proofs, h.spelled, h.right, inr (g, (p.0, p.1, h.before, not-closed file p.0 p.2), refl))))
  file-case file text verdict.NoMemory told h = absurd (told refl)

  in-grammar : (text : List ℕ) (n : ℕ) (ps : List (Proof known)) → IsTextOver known.readers.grammar (version known) text ps → IsBadAt (texts known) text n → ⊥
  in-grammar text zero ps t bad = bad
  in-grammar text (suc n) ps t bad = bad.0 (ps, t.fit, t.spelled)

  some-fault : (x y : ElfFault) → Some x ≡ Some y → x ≡ y
  some-fault x y e = cc

  none-fault : (x : ElfFault) → None ≡ Some x → ⊥
  none-fault x e = cc

  -- ---- one verdict

  refused-once : (text : List ℕ) (v w : Verdict) → Refused text v → Refused text w → v ≡ w
  refused-once text v w h k =
      ⊎_elim
      (λ (f : BeginsWithItems k.proofs h.proofs). ⊎_elim (λ (e : h.proofs ≡ k.proofs). same e) (λ (r : AllByRecursion (IsRightOver J) h.proofs). absurd (h.wrong r)) (k.first h.proofs (begins-first h.proofs k.proofs f)))
      (λ (f : BeginsWithItems h.proofs k.proofs). ⊎_elim (λ (e : k.proofs ≡ h.proofs). same (sym e)) (λ (r : AllByRecursion (IsRightOver J) k.proofs). absurd (k.wrong r)) (h.first k.proofs (begins-first k.proofs h.proofs f)))
      (fronts known text k.proofs h.proofs k.read h.read)
    where
      same : h.proofs ≡ k.proofs → v ≡ w
      same e = same-kind k.proofs v w (subst (λ (ps : List (Proof known)). DefCase ps v ⊎ LineCase ps v) e h.kind) k.kind

  refused-or-whole : (file text : List ℕ) (v w : Verdict) → Refused text v → WholeCase file text w → ⊥
  refused-or-whole file text v w h (qs, t, right, end) = h.wrong (first-right J h.proofs qs (begins-first h.proofs qs (text-front known text qs h.proofs t.fit t.spelled h.read)) right)

  whole-once : (file text : List ℕ) (v w : Verdict) → WholeCase file text v → WholeCase file text w → v ≡ w
  whole-once file text v w (ps, t, right, end) (qs, t', right', end') =
      let same : ps ≡ qs = proofs-once known ps qs t.fit t'.fit (sym t.spelled ∙ t'.spelled) in
      same-end file qs v w (subst (λ (xs : List (Proof known)). EndCase file xs v) same end) end'

  text-once : (file text : List ℕ) (v w : Verdict) → TextCase file text v → TextCase file text w → v ≡ w
  text-once file text v w (inl (m, h, is)) (inl (n, k, is')) = is ∙ ap (λ (x : ℕ). verdict.BadText x) (bad-once (texts known) text m n h.bad k.bad) ∙ sym is'
  text-once file text v w (inl (m, h, is)) (inr (inl k)) = absurd (k.wrong (h.right k.proofs k.read))
  text-once file text v w (inl (m, h, is)) (inr (inr k)) = absurd (in-grammar text m k.0 k.1 h.bad)
  text-once file text v w (inr (inl h)) (inl (n, k, is)) = absurd (h.wrong (k.right h.proofs h.read))
  text-once file text v w (inr (inl h)) (inr (inl k)) = refused-once text v w h k
  text-once file text v w (inr (inl h)) (inr (inr k)) = absurd (refused-or-whole file text v w h k)
  text-once file text v w (inr (inr h)) (inl (n, k, is)) = absurd (in-grammar text n h.0 h.1 k.bad)
  text-once file text v w (inr (inr h)) (inr (inl k)) = absurd (refused-or-whole file text w v k h)
  text-once file text v w (inr (inr h)) (inr (inr k)) = whole-once file text v w h k

  case-once : (file text : List ℕ) (v w : Verdict) → FileCase file text v → FileCase file text w → v ≡ w
  case-once file text v w (inl (x, h, is)) (inl (y, k, is')) = is ∙ ap (λ (z : ElfFault). verdict.BadElf z) (some-fault x y (sym h ∙ k)) ∙ sym is'
  case-once file text v w (inl (x, h, is)) (inr k) = absurd (none-fault x (sym k.0 ∙ h))
  case-once file text v w (inr h) (inl (y, k, is)) = absurd (none-fault y (sym h.0 ∙ k))
  case-once file text v w (inr h) (inr k) = text-once file text v w h.1 k.1

  -- where neither is `NoMemory`
  pub verdict-once : (file text : List ℕ) (v w : Verdict) → (v ≡ verdict.NoMemory → ⊥) → (w ≡ verdict.NoMemory → ⊥) → SaysOver J (version known) file text v → SaysOver J (version known) file text w → v ≡ w
  verdict-once file text v w determined determined' h k = case-once file text v w (file-case file text v determined h) (file-case file text w determined' k)

  -- a verdict that says what is so comes, but for lack of memory
  pub verdict-comes : (file text : List ℕ) (w : Verdict) → SaysOver J (version known) file text w → (v : Verdict) → SaysOver J (version known) file text v → (w ≡ v) ⊎ (v ≡ verdict.NoMemory) ⊎ (w ≡ verdict.NoMemory)
  verdict-comes file text w said v h =
      ⊎_elim
      (λ (e : v ≡ verdict.NoMemory). inr (inl e))
      (λ (f : v ≡ verdict.NoMemory → ⊥). ⊎_elim
      (λ (e : w ≡ verdict.NoMemory). inr (inr e))
      (λ (k : w ≡ verdict.NoMemory → ⊥). inl (verdict-once file text w v k f said h))
      (or-memory w))
      (or-memory v)
