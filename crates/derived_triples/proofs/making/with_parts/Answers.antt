use Rattle.std.proofs.Common.{ap, ◌∙◌}
use Rattle.std.proofs.lemmas.Result.{IfOk-weaker}
use Rattle.word_terms.specs.declared.code.Code.{Code}
use Rattle.held_terms.specs.declared.held.Held.{Held}
use Rattle.derived_triples.proofs.making.with_parts.Goals as goal

pub returns : goal.returns
returns c =
    IfOk-weaker c.new.result _ _ (λ t e. (
      ap (λ (h : Held). h.facts) e ∙ c.in_ok-facts.ensures,
      ap (λ (h : Held). h.pre) e ∙ c.in_ok-pre.ensures,
      ap (λ (h : Held). h.code.ranges) e ∙ ap (λ (code : Code). code.ranges) c.in_ok-code.ensures,
      ap (λ (h : Held). h.post) e ∙ c.in_ok-post.ensures,
    )) c.new.ensures
