use Rattle.std.proofs.Common.{refl}
use Rattle.loop_forest.proofs.WalkSteps.{met_where_none}
use Rattle.loop_forest.proofs.second_entry.second_entry.Goals as goal

pub returns-in-None-clause-none : goal.returns-in-None-clause-none
returns-in-None-clause-none c =
    met_where_none c.args.g.now c.args.entry c.args.u c.args.h _ _ c.in_ok-search.ensures
    (λ d. c.in-None.ensures.none refl d)
