use Rattle.std.proofs.Common.{◌≡◌, take}
use Rattle.tailrec_lang.proofs.args.copy_mems.Given as goal

abbrev pub invariant-loop-m : goal.invariant-loop-m
invariant-loop-m l = l.copies ≡ take l.m-index l.mems
