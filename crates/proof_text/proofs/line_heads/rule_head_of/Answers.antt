use Rattle.std.proofs.Common.{◌≡◌, ℕ, List, get_or, refl, sym, ap, ◌∙◌}
use Rattle.std.specs.Str.{bytes_eq}
use Rattle.group_text.proofs.NameTests.{named-next}
use Rattle.proof_text.specs.declared.line_heads.RuleHead.TheVariants.{Axiom}
use Rattle.proof_text.specs.inner.LineReading.{rule_heads, rule_name}
use Rattle.proof_text.proofs.line_heads.rule_head_of.Goals as goal

pub loop-head-preserved : goal.loop-head-preserved
loop-head-preserved c =
    let name : c.name_of_rule.result.now ≡ rule_name (get_or rule_heads c.loop-head.head-index Axiom) = c.name_of_rule.ensures in
    let other : bytes_eq (rule_name (get_or rule_heads c.loop-head.head-index Axiom)) c.args.name.now ≡ bytes_eq c.name_of_rule.result.now c.args.name.now = ap (λ (n : List ℕ). bytes_eq n c.args.name.now) (sym name) in
    record {
      items = refl;
      told = named-next rule_name rule_heads c.loop-head.head-index Axiom c.args.name.now c.loop-head-test.true (other ∙ sym c.eq.ensures ∙ c.if-eq.false) ∙ c.loop-head.invariant.told;
    }
