-- What verdicts on texts of version 2 say: short lines that are right stand for lines of version 1 that are, so what is accepted is right, and a
-- file and a text have one verdict at most.
use Rattle.std.proofs.Common.{◌≡◌, ℕ, List, [], ◌∷◌, ◌++◌, map, refl, sym, ap, subst, ◌∙◌, ◌⊎◌, append_assoc}
use Rattle.std.specs.List.{AllByRecursion, AllZip}
use Rattle.std.proofs.lemmas.List.{append-nil}
use Rattle.elf_image.specs.Fault.{IsReadable}
use Rattle.tailrec_lang.specs.Tree.{GroupTree, listed_def}
use Rattle.group_text.specs.declared.version.Version.{Version as Known}
use Rattle.group_text.specs.declared.version.Version.TheVariants.{Two}
use Rattle.group_text.specs.Limits.{AreGroups, IsGroup, IsGroupIn}
use Rattle.group_text.specs.Version.{version_2, version_of}
use Rattle.proof_text.specs.FirstProofs.{HasGiven, HasGivenOver, Progress}
use Rattle.proof_text.specs.Line.{LineTree, ProofTree}
use Rattle.proof_text.specs.Proofs.{AreProofs, groups_of}
use Rattle.term_arena.specs.declared.node.Node.{Node}
use Rattle.short_text.specs.declared.short.Short.{Short}
use Rattle.short_text.specs.declared.short.ShortLine.{ShortLine}
use Rattle.short_text.specs.declared.short.ShortLine.TheVariants.{Term, Proof}
use Rattle.short_text.specs.ShortProofs.{AreShortLines, AreShortProofs, ShortProof, proof_lines, short_lines, table_of}
use Rattle.short_text.proofs.LineParts.{apart, table-kept}
use Rattle.short_text.proofs.ReadLaws.{shorts_known}
use Rattle.verdicts.specs.declared.verdict.Verdict.{Verdict}
use Rattle.verdicts.specs.declared.verdict.Verdict.TheVariants as verdict
use Rattle.verdicts.specs.Instance.{History, after_line, no_lines, no_rule}
use Rattle.claims.specs.Headline.{Headline}
use Rattle.verdicts.specs.LineRules.{AllLeave, IsProvedOver}
use Rattle.verdicts.specs.Verdicts.{IsAcceptance, IsTextOver, SaysOver}
use Rattle.verdicts.proofs.OneVerdict.{accepted-proofs, verdict-comes}
use Rattle.verdicts.proofs.SoundLemmas.{accepted-right}
use Rattle.verdicts.proofs.WholeLemmas.{accepted-by}
use Rattle.checker.specs.Short.{LeaveAfter, LeavesBehind}
use Rattle.checker.specs.ShortRules.{AreFullAccepted, IsFullProof, LeavesOver, short_rules}
use Rattle.checker.proofs.OneLine.{one_line}
use Rattle.checker.proofs.StatingLemmas.{full_lines}

-- ---- lines of version 1

module _ (g : GroupTree) where
  -- terms leave what was left before them
  behind-terms : (ns : List Node) (before rest : List ShortLine) (h after : History) → AllLeave short_rules g before h (map Term ns ++ rest) after → AllLeave short_rules g (before ++ map Term ns) h rest after
  behind-terms [] before rest h after all = subst (λ (b : List ShortLine). AllLeave short_rules g b h rest after) (sym (append-nil before)) all
  behind-terms (n ∷ ns) before rest h after all =
      subst (λ (b : List ShortLine). AllLeave short_rules g b h rest after) (append_assoc before (Term n ∷ []) (map Term ns))
      (behind-terms ns (before ++ Term n ∷ []) rest h after (subst (λ (k : History). AllLeave short_rules g (before ++ Term n ∷ []) k (map Term ns ++ rest) after) all.1 all.2))

  -- lines of the proof go by the table before them
  over-table : (ns : List Node) (ss : List Short) (before : List ShortLine) (h after : History) → table_of before ≡ ns → AllLeave short_rules g before h (map Proof ss) after → LeaveAfter g h ns ss after
  over-table ns [] before h after is all = all
  over-table ns (s ∷ ss) before h after is all = (
    all.0,
    subst (λ (ms : List Node). LeavesBehind g h ms s all.0) is all.1,
    over-table ns ss (before ++ Proof s ∷ []) all.0 after (table-kept before s ∙ is) all.2,
  )

  -- a table alone
  table-alone : (ns : List Node) → table_of (map Term ns) ≡ ns
  table-alone [] = refl
  table-alone (n ∷ ns) = ap (λ (ms : List Node). n ∷ ms) (table-alone ns)

  leave-so : (h after : History) (ls : List ShortLine) → AreShortLines ls → AllLeave short_rules g [] h ls after → LeaveAfter g h (table_of ls) (proof_lines ls) after
  leave-so h after ls are all =
      over-table (table_of ls) (proof_lines ls) (map Term (table_of ls)) h after (table-alone (table_of ls))
      (behind-terms (table_of ls) [] (map Proof (proof_lines ls)) h after (subst (λ (xs : List ShortLine). AllLeave short_rules g [] h xs after) (apart ls are) all))

-- ---- proofs of version 1

-- version 2 has the groups of version 1
group-so : (g : GroupTree) → IsGroupIn version_2 g → IsGroup g
group-so g is = record { name = is.name; registers = is.registers; memories = is.memories; code = is.code; bytes = is.bytes; defs = is.defs; some = is.some; few = is.few }

none-full : (file : List ℕ) → AreFullAccepted file []
none-full file = record { full = []; stand = tt; fit = tt; accepted = tt }

pub full_accepted : (file : List ℕ) (ps : List ShortProof) → AreShortProofs ps → AllByRecursion (IsProvedOver short_rules file) ps → AreFullAccepted file ps
full_accepted file [] fit all = none-full file
full_accepted file (p ∷ ps) fit all =
    let rest = full_accepted file ps fit.1 all.1 in
    let after = all.0.0 in
    let right = all.0.1 in
    let lines = full_lines p.group no_lines (table_of p.lines) (proof_lines p.lines) after (leave-so p.group no_lines after p.lines fit.0.lines right.lines) in
    record {
      full = record { group = p.group; lines = lines.full } ∷ rest.full;
      stand = (record { group = refl; lines = lines.stand }, rest.stand);
      fit = (record { group = group-so p.group fit.0.group; lines = lines.fit }, rest.fit);
      accepted = (
        accepted-by no_rule file (record { group = p.group; lines = lines.full }) right.well_formed lines.right (ap (λ (h : History). h.closed (listed_def p.group)) (sym lines.left) ∙ all.0.2.closed) all.0.2.code,
        rest.accepted,
      );
    }

same-groups : (ps : List ShortProof) (full : List ProofTree) → AllZip IsFullProof ps full → groups_of full ≡ groups_of ps
same-groups [] [] all = refl
same-groups [] (q ∷ full) all = absurd all
same-groups (p ∷ ps) [] all = absurd all
same-groups (p ∷ ps) (q ∷ full) all = let rest = same-groups ps full all.1 in λ i. all.0.group i ∷ rest i

are-groups : (full : List ProofTree) → AreProofs full → AreGroups (groups_of full)
are-groups [] fit = tt
are-groups (q ∷ full) fit = (fit.0.group, are-groups full fit.1)

-- what is proved is right
pub short_right : (file : List ℕ) (ps : List ShortProof) → AreShortProofs ps → IsReadable file → AllByRecursion (IsProvedOver short_rules file) ps → Headline file (groups_of ps)
short_right file ps fit readable all =
    let f = full_accepted file ps fit all in
    subst (Headline file) (same-groups ps f.full f.stand) (accepted-right file f.full (are-groups f.full f.fit) (record { readable = readable; each = f.accepted }))

-- ---- verdicts

-- a verdict of acceptance says that the functions are right
pub short_headline : (file text : List ℕ) (v : Verdict) → SaysOver short_rules version_2 file text v → IsAcceptance v → (ps : List ShortProof) → IsTextOver short_lines version_2 text ps → Headline file (groups_of ps)
short_headline file text v h is ps t =
    let accepted = accepted-proofs shorts_known short_rules file text v h is ps t in
    short_right file ps t.fit accepted.readable accepted.each

-- what a line leaves is one history
one-history : (g : GroupTree) (before : List ShortLine) (h : History) (l : ShortLine) (a b : History) → LeavesOver g before h l a → LeavesOver g before h l b → a ≡ b
one-history g before h (Term n) a b x y = x ∙ sym y
one-history g before h (Proof s) a b x y = x.2 ∙ ap (λ (l : LineTree). after_line h l) (one_line g h (table_of before) s x.0 y.0 x.1 y.1) ∙ sym y.2

-- a verdict that says what is so comes, but for lack of memory
pub short_comes : (file text : List ℕ) (w : Verdict) → SaysOver short_rules version_2 file text w → (v : Verdict) → SaysOver short_rules version_2 file text v → (w ≡ v) ⊎ (v ≡ verdict.NoMemory) ⊎ (w ≡ verdict.NoMemory)
short_comes = verdict-comes shorts_known short_rules one-history

-- ---- a text of that version

pub said_in : (k : Known) (file text : List ℕ) (v : Verdict) → k ≡ Two → SaysOver short_rules (version_of k) file text v → SaysOver short_rules version_2 file text v
said_in k file text v is h = subst (λ (x : Known). SaysOver short_rules (version_of x) file text v) is h

no-bare : (before : List ShortProof) (p : ShortProof) → [] ≡ before ++ p ∷ [] → ⊥
no-bare [] p e = cc
no-bare (q ∷ before) p e = cc

-- a text of which nothing was given begins, whatever lines stand in it
pub none_given : (r : Progress) → HasGiven [] r → HasGivenOver short_lines [] r
none_given r h = record { fit = tt; text = h.text; place = h.place; ended = λ before g e follows. absurd (no-bare before _ e) }
