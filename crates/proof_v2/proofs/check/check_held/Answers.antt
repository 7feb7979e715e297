use Rattle.std.proofs.Common.{◌≡◌, ℕ, List, take, true, true≢false, ap, subst, sym, ◌∙◌}
use Rattle.mc_shelf.specs.Lines.{LinesState}
use Rattle.mc_shelf.specs.inner.OnlyReads.{OnlyReads}
use Rattle.group_text.specs.Version.{version_2, version_of}
use Rattle.verdicts.specs.Further.{further_of}
use Rattle.verdicts.specs.Pulled.{is_outside}
use Rattle.verdicts.specs.Verdicts.{SaysBy, SaysOver}
use Rattle.verdicts.proofs.SourceLemmas.{held-so}
use Rattle.checker.specs.ShortRules.{short_rules}
use Rattle.proof_v2.specs.AnyVerdicts.{SaysIn}
use Rattle.proof_v2.proofs.AnyVerdicts.{says-short, says-whole}
use Rattle.proof_v2.proofs.HeldVersions.{says-held}
use Rattle.proof_v2.proofs.check.check_held.Goals as goal

pub returns-then-is_short-clause-verdict : goal.returns-then-is_short-clause-verdict
returns-then-is_short-clause-verdict g c elf readable is =
    let told = g.S.Shelf.contents c.args.shelf.now in
    held-so told c.args.name.now c.check_pulled_short.result (λ v file. SaysOver short_rules version_2 elf (take c.args.size file) v) (λ v file. SaysIn c.args.version elf (take c.args.size file) v)
    (λ v file says. says-short c.args.version (c.is_short.ensures.0 c.if-is_short.true) elf (take c.args.size file) v says)
    (says-held told c.check_pulled_short.result c.args.name.now c.args.size c.of_version-pull.result (c.of_version-pull.ensures.lines ∙ c.new-lines.ensures) (SaysOver short_rules version_2 elf) (c.check_pulled_short.ensures.verdict elf readable is))

pub returns-clause-verdict : goal.returns-clause-verdict
returns-clause-verdict g c elf readable is =
    let told = g.S.Shelf.contents c.args.shelf.now in
    let version = c.args.version in
    held-so told c.args.name.now c.check_pulled.result (λ v file. SaysBy (further_of version) (version_of version) elf (take c.args.size file) v) (λ v file. SaysIn version elf (take c.args.size file) v)
    (λ v file says. says-whole version (λ two. true≢false (sym (c.is_short.ensures.1 two) ∙ c.if-is_short.false)) elf (take c.args.size file) v says)
    (says-held told c.check_pulled.result c.args.name.now c.args.size c.of_version-pull.result (c.of_version-pull.ensures.lines ∙ c.new-lines.ensures) (SaysBy (further_of version) (version_of version) elf) (c.check_pulled.ensures.verdict elf readable is))

pub returns-then-is_short-clause-shelf : goal.returns-then-is_short-clause-shelf
returns-then-is_short-clause-shelf g c =
    subst (λ (n : List ℕ). OnlyReads g.S.Shelf.contents g.S.Shelf.read_faults g.S.Shelf.write_faults g.S.Shelf.IsSure (is_outside c.check_pulled_short.result ≡ true) n c.args.shelf.now c.check_pulled_short.new.shelf)
    (ap (λ (l : LinesState). l.name) (c.of_version-pull.ensures.lines ∙ c.new-lines.ensures)) c.check_pulled_short.ensures.shelf

pub returns-clause-shelf : goal.returns-clause-shelf
returns-clause-shelf g c =
    subst (λ (n : List ℕ). OnlyReads g.S.Shelf.contents g.S.Shelf.read_faults g.S.Shelf.write_faults g.S.Shelf.IsSure (is_outside c.check_pulled.result ≡ true) n c.args.shelf.now c.check_pulled.new.shelf)
    (ap (λ (l : LinesState). l.name) (c.of_version-pull.ensures.lines ∙ c.new-lines.ensures)) c.check_pulled.ensures.shelf
