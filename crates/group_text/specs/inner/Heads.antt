-- What was read of a group's head, as contracts see it.
use Rattle.group_text.specs.declared.heads.Head.{Head as Lines}
use Rattle.group_text.specs.inner.Reading.{Head}

abbrev pub head_of : Lines → Head
head_of h = record { name = h.name; regs = h.regs; mems = h.mems; code = h.code.ranges }
