use Rattle.std.proofs.Common.{ap}
use Rattle.tailrec_lang.specs.Tree.{group_tree}
use Rattle.triple_kernel.specs.Tree.{triple_tree}
use Rattle.held_terms.specs.Held.{triple_of}
use Rattle.verdicts.proofs.SoundLemmas.{theorem-sound}
use Rattle.checker.specs.Bench.{state_group, state_history, state_nodes}
use Rattle.checker.proofs.BenchLemmas.{same_with}
use Rattle.checker.proofs.bench.Bench.admit_counted.Goals as goal

pub keep_given-requires-clause-sound : goal.keep_given-requires-clause-sound
keep_given-requires-clause-sound g c =
    let old = c.args.self.now in
    let one = c.put.new.self in
    let t = triple_tree c.args.t.now in
    same_with (state_group old) (state_group one) (state_history old) (state_history one) t (triple_of (state_nodes one) c.in_ok-put.put)
    (theorem-sound (state_group old) c.law_of_bench.ensures.well_formed (state_history old) c.law_of_bench.ensures.sound t c.requires.valid)
    (ap group_tree c.put.ensures.group) c.put.ensures.same c.in_ok-put.ensures.put.is
