use Rattle.std.proofs.Common.{◌≡◌, ℕ, map, refl, ap, ◌∙◌}
use Rattle.tailrec_lang.specs.Tree.{Call, arms_of}
use Rattle.code_parts.specs.declared.part.Part.TheVariants.{Loop}
use Rattle.code_parts.specs.Bodies.{Flow, current, end_at, fresh, start}
use Rattle.code_parts.specs.Kept.{flow_in}
use Rattle.code_parts.specs.VariableMaps.{place_of}
use Rattle.code_parts.proofs.BuiltBodies.{arms_are, called_alone}
use Rattle.code_parts.proofs.bodies.head_body.Goals as goal

pub returns : goal.returns
returns c n =
    let f : Flow = flow_in c.args.flow.now in
    let first : place_of c.fresh-start.result ≡ start f = c.fresh-start.ensures.is in
    let next : place_of c.fresh-next.result ≡ fresh f (start f).words (start f).mems = c.fresh-next.ensures.is ∙ (λ i. fresh f (first i).words (first i).mems) in
    called_alone _ c.number-number.result c.in_ok-values.values c.in_ok-arms.arms _ _ c.new.ensures refl c.in_ok-values.ensures c.in_ok-arms.ensures
    ∙ (λ i. Call (c.number-number.ensures i) (current f (first i)) (arms_of (map (λ (x : ℕ). end_at f c.args.p x (next i)) (c.exits.ensures.are i))))
    ∙ ap (Call (f.number (Loop c.args.l)) (current f (start f))) (arms_are (f.exits c.args.l) (λ x. end_at f c.args.p x (fresh f (start f).words (start f).mems)))
