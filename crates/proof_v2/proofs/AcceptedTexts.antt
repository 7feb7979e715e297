-- A text of version 1 that is accepted becomes one of version 2 that is accepted, with the same groups and as many lines.
use Rattle.std.proofs.Common.{◌≡◌, ℕ, List, [], ◌∷◌, ◌++◌, if◌then◌else◌, length, map, fold, refl, sym, ap, ◌∙◌, subst, append_assoc, append-nil, arith}
use Rattle.std.specs.List.{AllByRecursion, AllZip}
use Rattle.std.proofs.lemmas.List.Sums.{sum_by-cons}
use Rattle.tailrec_lang.specs.Tree.{GroupTree}
use Rattle.tailrec_lang.specs.WellFormed.{IsWellFormed}
use Rattle.term_arena.specs.declared.node.Node.{Node}
use Rattle.group_text.specs.declared.version.Version.TheVariants.{One}
use Rattle.group_text.specs.Version.{version_2}
use Rattle.proof_text.specs.Line.{LineTree, ProofTree}
use Rattle.proof_text.specs.Proofs.{groups_of}
use Rattle.proof_text.proofs.ProofTexts.{proofs-once}
use Rattle.proof_text.proofs.WholeLaws.{lines_known}
use Rattle.verdicts.specs.Accepts.{IsAccepted}
use Rattle.verdicts.specs.Instance.{History, after_line, no_lines, no_rule}
use Rattle.verdicts.specs.LineRules.{AllLeave, IsClosedFor, IsProvedOver, counted_in, count_over, whole_rules}
use Rattle.verdicts.specs.Verdicts.{IsAcceptedOver, IsTextOf, IsTextOver, Says}
use Rattle.verdicts.specs.declared.verdict.Verdict.TheVariants as verdict
use Rattle.verdicts.proofs.WholeLemmas.{lines-left}
use Rattle.short_text.specs.declared.short.Short.{Short}
use Rattle.short_text.specs.declared.short.ShortLine.{ShortLine}
use Rattle.short_text.specs.declared.short.ShortLine.TheVariants.{Term, Proof}
use Rattle.short_text.specs.ShortProofs.{AreShortLines, AreShortProofs, ShortProof, proof_lines, short_lines, table_of}
use Rattle.short_text.proofs.LineParts.{apart, table-behind, table-kept}
use Rattle.short_text.proofs.ReadLaws.{shorts_known}
use Rattle.checker.specs.Short.{LeavesBehind}
use Rattle.checker.specs.ShortRules.{short_rules}
use Rattle.proof_v2.specs.Migration.{AreRightFor}
use Rattle.proof_v2.specs.MigratedText.{IsMigratedProof, IsMigratedText}
use Rattle.proof_v2.proofs.Migrated.{as-many}

-- ---- lines

module _ (g : GroupTree) (ns : List Node) where
  -- behind the table, the short lines leave what the lines do
  lines-leave : (before : List ShortLine) (h : History) (ss : List Short) (ls : List LineTree) → table_of before ≡ ns → AreRightFor g h ns ss ls → AllLeave short_rules g before h (map Proof ss) (fold after_line h ls)
  lines-leave before h [] [] e r = refl
  lines-leave before h [] (l ∷ ls) e r = absurd r
  lines-leave before h (s ∷ ss) [] e r = absurd r
  lines-leave before h (s ∷ ss) (l ∷ ls) e r = (
    after_line h l,
    subst (λ (ms : List Node). LeavesBehind g h ms s (after_line h l)) (sym e) (l, r.0, refl),
    lines-leave (before ++ Proof s ∷ []) (after_line h l) ss ls (table-kept before s ∙ e) r.1,
  )

  terms-leave : (before : List ShortLine) (h : History) (rest : List Node) (ss : List Short) (ls : List LineTree) → table_of before ++ rest ≡ ns → AreRightFor g h ns ss ls
      → AllLeave short_rules g before h (map Term rest ++ map Proof ss) (fold after_line h ls)
  terms-leave before h [] ss ls e r = lines-leave before h ss ls (sym (append-nil (table_of before)) ∙ e) r
  terms-leave before h (n ∷ rest) ss ls e r = (
    h,
    refl,
    terms-leave (before ++ Term n ∷ []) h rest ss ls (ap (λ (ms : List Node). ms ++ rest) (table-behind before n) ∙ append_assoc (table_of before) (n ∷ []) rest ∙ e) r,
  )

-- ---- how many

abbrev counts : ShortLine → ℕ
counts l = if short_rules.counts l then 1 else 0

lines-counted : (ss : List Short) → counted_in short_rules (map Proof ss) ≡ length ss
lines-counted [] = refl
lines-counted (s ∷ ss) = omega (arith, sum_by-cons counts (Proof s) (map Proof ss), lines-counted ss)

terms-counted : (ns : List Node) (ss : List Short) → counted_in short_rules (map Term ns ++ map Proof ss) ≡ length ss
terms-counted [] ss = lines-counted ss
terms-counted (n ∷ ns) ss = omega (arith, sum_by-cons counts (Term n) (map Term ns ++ map Proof ss), terms-counted ns ss)

each-counted : (ls : List LineTree) → counted_in (whole_rules no_rule) ls ≡ length ls
each-counted [] = refl
each-counted (l ∷ ls) = omega (arith, sum_by-cons (λ (k : LineTree). 1) l ls, each-counted ls)

module _ (p : ProofTree) (q : ShortProof) (m : IsMigratedProof p q) (fit : AreShortLines q.lines) where
  proof-counted : counted_in short_rules q.lines ≡ counted_in (whole_rules no_rule) p.lines
  proof-counted =
      ap (counted_in short_rules) (apart q.lines fit) ∙ terms-counted (table_of q.lines) (proof_lines q.lines)
      ∙ as-many p.group no_lines (table_of q.lines) (proof_lines q.lines) p.lines m.proof.lines ∙ sym (each-counted p.lines)

  -- ---- a group

  pub proof-proved : (file : List ℕ) → IsAccepted file p → IsProvedOver short_rules file q
  proof-proved file (after, right, closed) = (
    after,
    record { well_formed = subst IsWellFormed (sym m.group) right.well_formed; lines = subst (λ (g : GroupTree). AllLeave short_rules g [] no_lines q.lines after) (sym m.group) leave },
    subst (λ (g : GroupTree). IsClosedFor file g after) (sym m.group) closed,
  )
    where
      leave : AllLeave short_rules p.group [] no_lines q.lines after
      leave = subst (λ (ls : List ShortLine). AllLeave short_rules p.group [] no_lines ls after) (sym (apart q.lines fit))
          (subst (λ (h : History). AllLeave short_rules p.group [] no_lines (map Term (table_of q.lines) ++ map Proof (proof_lines q.lines)) h) (sym (lines-left no_rule p.group [] no_lines p.lines after right.lines))
          (terms-leave p.group (table_of q.lines) [] no_lines (table_of q.lines) (proof_lines q.lines) p.lines refl m.proof.lines))

-- ---- groups

all-proved : (file : List ℕ) (ps : List ProofTree) (qs : List ShortProof) → AllZip IsMigratedProof ps qs → AreShortProofs qs → AllByRecursion (IsAccepted file) ps → AllByRecursion (IsProvedOver short_rules file) qs
all-proved file [] [] m fit a = tt
all-proved file [] (q ∷ qs) m fit a = absurd m
all-proved file (p ∷ ps) [] m fit a = absurd m
all-proved file (p ∷ ps) (q ∷ qs) m fit a = (proof-proved p q m.0 fit.0.lines file a.0, all-proved file ps qs m.1 fit.1 a.1)

all-counted : (ps : List ProofTree) (qs : List ShortProof) → AllZip IsMigratedProof ps qs → AreShortProofs qs → count_over (whole_rules no_rule) ps ≡ count_over short_rules qs
all-counted [] [] m fit = refl
all-counted [] (q ∷ qs) m fit = absurd m
all-counted (p ∷ ps) [] m fit = absurd m
all-counted (p ∷ ps) (q ∷ qs) m fit =
    let first = sum_by-cons (λ (p : ProofTree). counted_in (whole_rules no_rule) p.lines) p ps in
    let second = sum_by-cons (λ (q : ShortProof). counted_in short_rules q.lines) q qs in
    let here = proof-counted p q m.0 fit.0.lines in
    let others = all-counted ps qs m.1 fit.1 in
    omega (arith, first, second, here, others)

same-groups : (ps : List ProofTree) (qs : List ShortProof) → AllZip IsMigratedProof ps qs → groups_of qs ≡ groups_of ps
same-groups [] [] m = refl
same-groups [] (q ∷ qs) m = absurd m
same-groups (p ∷ ps) [] m = absurd m
same-groups (p ∷ ps) (q ∷ qs) m = λ i. m.0.group i ∷ same-groups ps qs m.1 i

as-many-groups : (ps : List ProofTree) (qs : List ShortProof) → AllZip IsMigratedProof ps qs → length ps ≡ length qs
as-many-groups [] [] m = refl
as-many-groups [] (q ∷ qs) m = absurd m
as-many-groups (p ∷ ps) [] m = absurd m
as-many-groups (p ∷ ps) (q ∷ qs) m = let others = as-many-groups ps qs m.1 in omega (arith, others)

-- ---- texts

module _ (file text more : List ℕ) (m : IsMigratedText file text more) where
  pub still-accepted : IsAcceptedOver short_rules version_2 file more (length m.old) (count_over (whole_rules no_rule) m.old)
  still-accepted = record {
    proofs = m.new;
    spelled = record { fit = m.fit; spelled = m.is };
    accepted = record { readable = m.accepted.readable; each = all-proved file m.old m.new m.migrated m.fit m.accepted.each };
    groups = as-many-groups m.old m.new m.migrated;
    count = all-counted m.old m.new m.migrated m.fit;
  }

  -- so are both texts, with the same numbers
  pub both-accepted : (f : ℕ) × (l : ℕ) × Says file text (verdict.Accepted f l) × IsAcceptedOver short_rules version_2 file more f l
  both-accepted = (length m.old, count_over (whole_rules no_rule) m.old, record { proofs = m.old; spelled = m.spelled; accepted = m.accepted; groups = refl; count = refl }, still-accepted)

  -- it was the text of these proofs alone
  old-once : (ps : List ProofTree) → IsTextOf text ps → m.old ≡ ps
  old-once ps h = proofs-once (lines_known One) m.old ps m.spelled.fit h.fit (sym m.spelled.spelled ∙ h.spelled)

  -- .. and is that of these
  new-once : (qs : List ShortProof) → IsTextOver short_lines version_2 more qs → m.new ≡ qs
  new-once qs h = proofs-once shorts_known m.new qs m.fit h.fit (sym m.is ∙ h.spelled)

  pub accepted-alike : (f l : ℕ) → Says file text (verdict.Accepted f l) → IsAcceptedOver short_rules version_2 file more f l
  accepted-alike f l a =
      let same : m.old ≡ a.proofs = old-once a.proofs a.spelled in
      let groups : length m.old ≡ f = ap length same ∙ sym a.groups in
      let lines : count_over (whole_rules no_rule) m.old ≡ l = ap (count_over (whole_rules no_rule)) same ∙ sym a.count in
      subst (λ (n : ℕ). IsAcceptedOver short_rules version_2 file more n l) groups (subst (λ (n : ℕ). IsAcceptedOver short_rules version_2 file more (length m.old) n) lines still-accepted)

  pub groups-alike : (ps : List ProofTree) (qs : List ShortProof) → IsTextOf text ps → IsTextOver short_lines version_2 more qs → groups_of qs ≡ groups_of ps
  groups-alike ps qs h k = sym (ap groups_of (new-once qs k)) ∙ same-groups m.old m.new m.migrated ∙ ap groups_of (old-once ps h)
