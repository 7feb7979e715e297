use Rattle.std.proofs.Common.{◌≡◌, drop}
use Rattle.group_text.specs.TermReading.{named}
use Rattle.short_text.specs.inner.ShortReading.{node_heads, node_head_name}
use Rattle.short_text.proofs.heads.node_head_of.Given as goal

-- the name isn't that of a form before the place
abbrev pub invariant-loop-head : goal.invariant-loop-head
invariant-loop-head l = record {
  items : l.head-items ≡ node_heads;
  told : named node_head_name (drop l.head-index node_heads) l.name ≡ named node_head_name node_heads l.name;
}
