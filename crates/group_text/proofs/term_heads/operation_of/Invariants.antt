use Rattle.std.proofs.Common.{◌≡◌, drop}
use Rattle.rv_words.specs.Operation.{operation_name}
use Rattle.group_text.specs.TermReading.{named, operations}
use Rattle.group_text.proofs.term_heads.operation_of.Given as goal

-- the name isn't that of an operation before the place
abbrev pub invariant-loop-op : goal.invariant-loop-op
invariant-loop-op l = record {
  items : l.op-items ≡ operations;
  told : named operation_name (drop l.op-index operations) l.name ≡ named operation_name operations l.name;
}
