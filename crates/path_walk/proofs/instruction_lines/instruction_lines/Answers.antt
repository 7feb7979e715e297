use Rattle.std.proofs.Common.{◌∙◌}
use Rattle.path_walk.proofs.WriterLemmas.{restated-version}
use Rattle.path_walk.proofs.instruction_lines.instruction_lines.Goals as goal

pub put_wide-requires-clause-crossed : goal.put_wide-requires-clause-crossed
put_wide-requires-clause-crossed c = λ is. (restated-version _ _ _ _ _ _ _ c.in_ok-named.ensures ∙ restated-version _ _ _ _ _ _ _ c.in_ok-current.ensures ∙ (c.requires.crossed is).0, (c.requires.crossed is).1)

pub returns-clause-acted : goal.returns-clause-acted
returns-clause-acted c = record {
  current = c.in_ok-current.current;
  named = c.in_ok-named.named;
  second = _;
  third = _;
  put = c.in_ok-current.ensures;
  renamed = c.in_ok-named.ensures;
  widened = c.in_ok-number.ensures.widened;
}
