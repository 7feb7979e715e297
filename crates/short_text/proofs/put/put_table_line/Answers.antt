use Rattle.std.proofs.Common.{rules, ap, ◌∙◌, ◌≡◌}
use Rattle.mc_text.proofs.Printed.{printed_bytes}
use Rattle.short_text.specs.ShortSpelling.{table_line}
use Rattle.short_text.proofs.put.put_table_line.Goals as goal

pub returns-clause-ok : goal.returns-clause-ok
returns-clause-ok c =
    let bytes : c.put_node_line.new.pen.out.now ≡ _ = printed_bytes (table_line c.args.node) _ _ _ _ c.new-pen.ensures c.in_ok-put_node_line.ensures.ok in
    let place : c.put_node_line.new.pen.out.ghost_name ≡ _ = c.put_node_line.ensures.kept.place ∙ ap (λ p. p.place) c.new-pen.ensures in
    search (rules, bytes, place)
