-- What verdicts on texts of each version say.
use Rattle.std.proofs.Common.{◌≡◌, ℕ, List, Some, ◌⊎◌, refl, sym, subst, arith}
use Rattle.elf_image.specs.declared.fault.ElfFault.{ElfFault}
use Rattle.elf_image.specs.Fault.{fault_of}
use Rattle.tailrec_lang.specs.Tree.{GroupTree}
use Rattle.group_text.specs.declared.version.Version.{Version as Known}
use Rattle.group_text.specs.declared.version.Version.TheVariants.{One, Two, Three, Four}
use Rattle.group_text.specs.Version.{version_of}
use Rattle.proof_text.specs.Proofs.{groups_of}
use Rattle.claims.specs.Headline.{Headline}
use Rattle.frame_compose.specs.Rules.{IsSteered}
use Rattle.frame_compose.proofs.SteerLemmas.{valid_steered}
use Rattle.verdicts.specs.Further.{further_of}
use Rattle.verdicts.specs.Instance.{no_rule}
use Rattle.verdicts.specs.Verdicts.{IsAcceptance, SaysBy, SaysOver}
use Rattle.verdicts.specs.declared.verdict.Verdict.{Verdict}
use Rattle.verdicts.specs.declared.verdict.Verdict.TheVariants as verdict
use Rattle.verdicts.proofs.CheckLemmas.{accepted-headline, whole-comes}
use Rattle.verdicts.proofs.SoundLemmas.{no_rule-keeps}
use Rattle.verdicts.proofs.KeptLemmas.{accepted-headline as split-headline}
use Rattle.checker.specs.ShortRules.{short_rules}
use Rattle.checker.proofs.ShortVerdicts.{short_comes, short_headline}
use Rattle.proof_v2.specs.AnyText.{ListsIn}
use Rattle.proof_v2.specs.AnyVerdicts.{SaysIn}

-- what is so of the groups of proofs is so of the groups that are listed
listed-right : (k : Known) (file text : List ℕ) (gs : List GroupTree) (l : ListsIn k text gs) → Headline file (groups_of l.proofs) → Headline file gs
listed-right k file text gs l h = subst (Headline file) (sym l.groups) h

-- what is accepted is right
pub accepted-in : (k : Known) (file text : List ℕ) (w : Verdict) → SaysIn k file text w → IsAcceptance w → (gs : List GroupTree) → ListsIn k text gs → Headline file gs
accepted-in One file text w says accepts gs l = listed-right One file text gs l (accepted-headline no_rule no_rule-keeps One (omega arith) file text w says accepts l.proofs l.spelled)
accepted-in Two file text w says accepts gs l = listed-right Two file text gs l (short_headline file text w says accepts l.proofs l.spelled)
accepted-in Three file text w says accepts gs l = listed-right Three file text gs l (accepted-headline IsSteered valid_steered Three (omega arith) file text w says accepts l.proofs l.spelled)
accepted-in Four file text w says accepts gs l = listed-right Four file text gs l (split-headline file text w says accepts l.proofs l.spelled)

-- a verdict that says what is so comes, but for lack of memory
pub verdict-comes-in : (k : Known) (file text : List ℕ) (w : Verdict) → SaysIn k file text w → (v : Verdict) → SaysIn k file text v → (w ≡ v) ⊎ (v ≡ verdict.NoMemory) ⊎ (w ≡ verdict.NoMemory)
verdict-comes-in One file text = whole-comes (further_of One) One file text
verdict-comes-in Two file text = short_comes file text
verdict-comes-in Three file text = whole-comes (further_of Three) Three file text
verdict-comes-in Four file text = whole-comes (further_of Four) Four file text

-- a text that is accepted has groups
pub accepted-lists : (k : Known) (file text : List ℕ) (functions lines : ℕ) → SaysIn k file text (verdict.Accepted functions lines) → (gs : List GroupTree) × ListsIn k text gs
accepted-lists One file text functions lines h = (groups_of h.proofs, record { proofs = h.proofs; spelled = h.spelled; groups = refl })
accepted-lists Two file text functions lines h = (groups_of h.proofs, record { proofs = h.proofs; spelled = h.spelled; groups = refl })
accepted-lists Three file text functions lines h = (groups_of h.proofs, record { proofs = h.proofs; spelled = h.spelled; groups = refl })
accepted-lists Four file text functions lines h = (groups_of h.proofs, record { proofs = h.proofs; spelled = h.spelled; groups = refl })

-- lack of memory says nothing
pub says-nothing : (k : Known) (file text : List ℕ) → SaysIn k file text verdict.NoMemory
says-nothing One file text = tt
says-nothing Two file text = tt
says-nothing Three file text = tt
says-nothing Four file text = tt

-- a verdict on the ELF file says its fault
pub fault-in : (k : Known) (file text : List ℕ) (why : ElfFault) → SaysIn k file text (verdict.BadElf why) → fault_of file ≡ Some why
fault-in One file text why says = says
fault-in Two file text why says = says
fault-in Three file text why says = says
fault-in Four file text why says = says

-- ---- by what is judged

-- a text of version 2
pub says-short : (k : Known) → k ≡ Two → (file text : List ℕ) (v : Verdict) → SaysOver short_rules (version_of Two) file text v → SaysIn k file text v
says-short k two file text v says = subst (λ (m : Known). SaysIn m file text v) (sym two) says

-- one of another version
pub says-whole : (k : Known) → (k ≡ Two → ⊥) → (file text : List ℕ) (v : Verdict) → SaysBy (further_of k) (version_of k) file text v → SaysIn k file text v
says-whole One other file text v says = says
says-whole Two other file text v says = absurd (other refl)
says-whole Three other file text v says = says
says-whole Four other file text v says = says
