use Rattle.path_walk.proofs.compose.triple_from.Goals as goal

pub returns : goal.returns
returns c = λ j. record { facts = c.in_ok-facts.ensures j; pre = c.in_ok-pre.ensures j; code = c.in_ok-code.ensures j; post = c.in_ok-post.ensures j }
