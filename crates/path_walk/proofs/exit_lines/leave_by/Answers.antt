use Rattle.std.proofs.Common.{ℕ, ◌<◌, List, ap, sym, subst, ◌∙◌, arith}
use Rattle.std.specs.List.{AllByRecursion}
use Rattle.rv_words.specs.declared.range.Range.{Range}
use Rattle.rv_words.specs.Ranges.{AreRanges}
use Rattle.code_parts.specs.Kept.{flow_in}
use Rattle.code_parts.specs.VariableMaps.{place_of}
use Rattle.path_walk.specs.inner.Acts.{Exited}
use Rattle.path_walk.specs.inner.Writers.{CitedTree, writer_tree}
use Rattle.path_walk.proofs.LineTexts.{exit-fine, exit-standing-fine}
use Rattle.path_walk.proofs.LowVariables.{low_place}
use Rattle.path_walk.proofs.exit_lines.leave_by.Goals as goal

pub exit_lines-requires-clause-fine : goal.exit_lines-requires-clause-fine
exit_lines-requires-clause-fine c =
    exit-fine (flow_in c.args.flow.now) c.law_of_code.ensures.registers c.law_of_memories.ensures.few c.args.flow.now.code (subst AreRanges c.code.ensures.is c.code.ensures.whole.order)
    (subst (λ (rs : List Range). AllByRecursion (λ r. AllByRecursion (λ b. b < 256) r.bytes) rs) c.code.ensures.is c.law_of_bytes.ensures) c.args.entry c.args.def c.args.exit c.args.x c.ranges.entry.fits c.ranges.def.fits c.ranges.exit.fits
    c.law_of_exits.ensures (place_of c.args.place.now) 32768 (low_place c.args.place.now 32768 (flow_in c.args.flow.now).mems c.law_of_memories.ensures.few c.law_of_memories.ensures.second (omega arith) (omega (arith, c.requires.words)) (omega (arith, c.requires.mems))) (omega arith)

pub new-requires : goal.new-requires
new-requires c =
    exit-standing-fine (flow_in c.args.flow.now) c.law_of_code.ensures.registers c.law_of_memories.ensures.few c.args.flow.now.code (subst AreRanges c.code.ensures.is c.code.ensures.whole.order)
    (subst (λ (rs : List Range). AllByRecursion (λ r. AllByRecursion (λ b. b < 256) r.bytes) rs) c.code.ensures.is c.law_of_bytes.ensures) c.args.entry c.args.def c.args.exit c.args.x c.ranges.entry.fits c.ranges.def.fits c.ranges.exit.fits
    c.law_of_exits.ensures (place_of c.args.place.now) 32768 (low_place c.args.place.now 32768 (flow_in c.args.flow.now).mems c.law_of_memories.ensures.few c.law_of_memories.ensures.second (omega arith) (omega (arith, c.requires.words)) (omega (arith, c.requires.mems))) (omega arith) c.in_ok-number.number _ _ c.in_ok-number.ensures.fits
    c.in_ok-known.ensures (c.in_ok-code.ensures ∙ c.code-2.ensures.is)

pub returns-clause-is : goal.returns-clause-is
returns-clause-is c =
    let number = ap (λ (t : CitedTree). t.number) c.new.ensures in
    let code = c.in_ok-code.ensures ∙ c.code-2.ensures.is in
    c.new.ensures ∙ (λ j. record { number = sym number j; facts = c.in_ok-known.ensures j; code = code j })

pub returns-clause-exited : goal.returns-clause-exited
returns-clause-exited c =
    let number = ap (λ (t : CitedTree). t.number) c.new.ensures in
    subst (λ (k : ℕ). Exited (flow_in c.args.flow.now) c.args.flow.now.code c.args.entry c.args.def c.args.exit c.args.x (place_of c.args.place.now) (writer_tree c.args.log.now) (writer_tree c.exit_lines.new.log) k) (sym number) c.in_ok-number.ensures.exited
