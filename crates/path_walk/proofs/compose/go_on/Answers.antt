use Rattle.std.proofs.Common.{option_copied, option_map, subst}
use Rattle.word_terms.specs.Tree.{word_tree}
use Rattle.code_parts.specs.Kept.{flow_in}
use Rattle.code_parts.specs.VariableMaps.{place_of}
use Rattle.path_walk.specs.inner.Acts.{GoesOn}
use Rattle.path_walk.specs.inner.Writers.{OriginTree, cited_tree, writer_tree}
use Rattle.path_walk.proofs.compose.go_on.Goals as goal

pub returns-clause-on : goal.returns-clause-on
returns-clause-on c =
    subst (λ (o : OriginTree). GoesOn (flow_in c.args.flow.now) o (option_map cited_tree (option_copied c.args.from)) (cited_tree c.args.last) (word_tree c.args.pc) (place_of c.args.place.now)
    (writer_tree c.args.log.now) (writer_tree c.go_on_from.new.log) (cited_tree c.in_ok-there.there)) c.front-origin.ensures.is c.in_ok-there.ensures.on
