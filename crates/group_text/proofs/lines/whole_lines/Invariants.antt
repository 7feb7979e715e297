use Rattle.std.proofs.Common.{◌≡◌, ◌≤◌, drop, length}
use Rattle.mc_text.specs.Fault.{newlines}
use Rattle.group_text.proofs.lines.whole_lines.Given as goal

abbrev pub invariant-back : goal.invariant-back
invariant-back l = record {
  within : l.end ≤ length l.text;
  none : newlines (drop l.end l.text) ≡ 0;
}

abbrev pub decreases-back : goal.decreases-back
decreases-back l = l.end
