use Rattle.std.proofs.Common.{rules, ap, ◌∙◌, ◌≡◌}
use Rattle.mc_text.proofs.Printed.{printed_bytes}
use Rattle.tailrec_lang.specs.Tree.{group_tree}
use Rattle.proof_text.specs.Line.{line_tree}
use Rattle.group_text.specs.Version.{version_of}
use Rattle.proof_text.specs.LineSpelling.{line_tokens_in}
use Rattle.proof_text.proofs.put_lines.put_newer_line.Goals as goal

pub returns-clause-ok : goal.returns-clause-ok
returns-clause-ok c =
    let bytes : c.put_line_tokens.new.pen.out.now ≡ _ = printed_bytes (line_tokens_in (version_of c.args.version) (group_tree c.args.g.now).code (line_tree c.args.line.now)) _ _ _ _ c.new-pen.ensures c.in_ok-put_line_tokens.ensures.ok in
    let place : c.put_line_tokens.new.pen.out.ghost_name ≡ _ = c.put_line_tokens.ensures.kept.place ∙ ap (λ p. p.place) c.new-pen.ensures in
    search (rules, bytes, place)
