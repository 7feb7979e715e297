use Rattle.std.proofs.Common.{rules, ap, ◌∙◌, ◌≡◌}
use Rattle.mc_text.proofs.Printed.{printed_bytes}
use Rattle.tailrec_lang.specs.Tree.{group_tree}
use Rattle.short_text.specs.ShortSpelling.{short_tokens}
use Rattle.short_text.specs.SpelledShort.{short_or_own}
use Rattle.short_text.proofs.put.put_short_line.Goals as goal

pub returns-clause-ok : goal.returns-clause-ok
returns-clause-ok c =
    let own = (group_tree c.args.g.now).code in
    let bytes : c.put_line_tokens.new.pen.out.now ≡ _ = printed_bytes (short_tokens own (short_or_own own c.args.all c.args.line.now)) _ _ _ _ c.new-pen.ensures c.in_ok-put_line_tokens.ensures.ok in
    let place : c.put_line_tokens.new.pen.out.ghost_name ≡ _ = c.put_line_tokens.ensures.kept.place ∙ ap (λ p. p.place) c.new-pen.ensures in
    search (rules, bytes, place)
