use Rattle.std.proofs.Common.{◌≡◌, map, take}
use Rattle.mcdec_answers.specs.Command.{AreNames, texts}
use Rattle.mcdec_answers.proofs.command.read_names.Given as goal

-- the words so far, which are names, and were seen
abbrev pub invariant-loop-word : goal.invariant-loop-word
invariant-loop-word l = (l.names ≡ take l.word-index (texts l.words)) × AreNames l.names × (map (λ k. k.now) l.seen.keys ≡ l.names)
