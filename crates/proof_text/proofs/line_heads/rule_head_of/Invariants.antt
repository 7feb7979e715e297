use Rattle.std.proofs.Common.{◌≡◌, drop}
use Rattle.group_text.specs.TermReading.{named}
use Rattle.proof_text.specs.inner.LineReading.{rule_heads, rule_name}
use Rattle.proof_text.proofs.line_heads.rule_head_of.Given as goal

-- the name isn't that of a rule before the place
abbrev pub invariant-loop-head : goal.invariant-loop-head
invariant-loop-head l = record {
  items : l.head-items ≡ rule_heads;
  told : named rule_name (drop l.head-index rule_heads) l.name ≡ named rule_name rule_heads l.name;
}
