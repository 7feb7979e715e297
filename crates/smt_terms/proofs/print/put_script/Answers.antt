use Rattle.std.proofs.Common.{rules, map, flat_map, ap, ◌∙◌, ◌≡◌}
use Rattle.mc_text.proofs.Printed.{printed_bytes}
use Rattle.smt_terms.specs.Text.{fun_tokens}
use Rattle.smt_terms.specs.Views.{fun_tree}
use Rattle.smt_terms.proofs.print.put_script.Goals as goal

pub returns : goal.returns
returns c =
    let bytes : c.put_funs.new.pen.out.now ≡ _ = printed_bytes (flat_map fun_tokens (map fun_tree c.args.funs.now)) _ _ _ _ c.new-pen.ensures c.in_ok-put_funs.ensures.ok in
    let place : c.put_funs.new.pen.out.ghost_name ≡ _ = c.put_funs.ensures.kept.place ∙ ap (λ p. p.place) c.new-pen.ensures in
    search (rules, bytes, place)
