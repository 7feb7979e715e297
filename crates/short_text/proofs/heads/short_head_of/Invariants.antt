use Rattle.std.proofs.Common.{◌≡◌, drop}
use Rattle.group_text.specs.TermReading.{named}
use Rattle.short_text.specs.inner.ShortReading.{short_heads, short_name}
use Rattle.short_text.proofs.heads.short_head_of.Given as goal

-- the name isn't that of a form before the place
abbrev pub invariant-loop-head : goal.invariant-loop-head
invariant-loop-head l = record {
  items : l.head-items ≡ short_heads;
  told : named short_name (drop l.head-index short_heads) l.name ≡ named short_name short_heads l.name;
}
