use Rattle.std.proofs.Common.{rules, ap, ◌∙◌, ◌≡◌}
use Rattle.mc_text.proofs.Printed.{printed_bytes}
use Rattle.fun_laws.specs.Spelling.{cert_tokens, cert_tree}
use Rattle.fun_laws.proofs.put.put_cert.Goals as goal

pub returns : goal.returns
returns c =
    let bytes : c.put_cert_lines.new.pen.out.now ≡ _ = printed_bytes (cert_tokens (cert_tree c.args.c.now)) _ _ _ _ c.new-pen.ensures c.in_ok-put_cert_lines.ensures.ok in
    let place : c.put_cert_lines.new.pen.out.ghost_name ≡ _ = c.put_cert_lines.ensures.kept.place ∙ ap (λ p. p.place) c.new-pen.ensures in
    search (rules, bytes, place)
