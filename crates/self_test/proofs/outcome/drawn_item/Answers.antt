use Rattle.std.proofs.Common.{◌++◌, ◌∷◌, [], ◌∙◌}
use Rattle.self_test.specs.Start.{file_of}
use Rattle.self_test.proofs.InFragment.{not-refused}
use Rattle.self_test.proofs.outcome.drawn_item.Goals as goal

pub unreachable-requires-in-Err-Refused : goal.unreachable-requires-in-Err-Refused
unreachable-requires-in-Err-Refused c =
    not-refused c.args.number c.args.size c.push.new.self c.in-Err-Refused.field-0 c.in-Err-Refused.field-0-0 c.in-Err-Refused.field-0-1 c.requires.size
    (c.in_ok-push.ensures.ok ∙ (λ i. c.new-names.ensures i ++ c.in_ok-from_slice.ensures i ∷ []))
    c.in-Err-Refused.field-0-is (c.in-Err-Refused.ensures.refused (file_of c.args.number c.args.size) c.requires.image)
