use Rattle.std.proofs.Common.{ap}
use Rattle.word_terms.specs.declared.code.Code.{Code}
use Rattle.derived_triples.proofs.making.over_code.Goals as goal

pub returns : goal.returns
returns c = (c.in_ok-facts.ensures, c.in_ok-pre.ensures, ap (λ (code : Code). code.ranges) c.in_ok-code.ensures, c.in_ok-post.ensures)
