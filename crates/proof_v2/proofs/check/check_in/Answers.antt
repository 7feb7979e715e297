use Rattle.std.proofs.Common.{List, ℕ, true≢false, subst, sym, ◌∙◌}
use Rattle.group_text.specs.Version.{version_2}
use Rattle.verdicts.specs.Verdicts.{SaysOver}
use Rattle.checker.specs.ShortRules.{short_rules}
use Rattle.proof_v2.proofs.AnyVerdicts.{says-short, says-whole}
use Rattle.proof_v2.proofs.check.check_in.Goals as goal

pub returns-then-is_short : goal.returns-then-is_short
returns-then-is_short c =
    says-short c.args.version (c.is_short.ensures.0 c.if-is_short.true) c.args.elf.now c.args.proof.now c.check_short.result
    (subst (λ (t : List ℕ). SaysOver short_rules version_2 c.args.elf.now t c.check_short.result) c.of_version-reader.ensures.text c.check_short.ensures.verdict)

pub returns-else-is_short : goal.returns-else-is_short
returns-else-is_short c =
    says-whole c.args.version (λ two. true≢false (sym (c.is_short.ensures.1 two) ∙ c.if-is_short.false)) c.args.elf.now c.args.proof.now c.check_text.result c.check_text.ensures.verdict
