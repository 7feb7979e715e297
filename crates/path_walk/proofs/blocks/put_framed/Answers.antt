use Rattle.std.proofs.Common.{◌<◌, List, map, sym, subst, arith}
use Rattle.std.specs.List.{AllByRecursion}
use Rattle.rv_words.specs.declared.range.Range.{Range}
use Rattle.rv_words.specs.Ranges.{AreRanges}
use Rattle.word_terms.specs.Tree.{Const}
use Rattle.tailrec_lang.specs.Registers.{AreRegistersFrom}
use Rattle.triple_kernel.specs.declared.triple.Fact.{Fact}
use Rattle.triple_kernel.specs.Tree.{fact_tree}
use Rattle.proof_text.specs.LineLimits.{IsFact, IsTriple}
use Rattle.code_parts.specs.Bodies.{Flow}
use Rattle.code_parts.specs.Kept.{flow_in}
use Rattle.code_parts.specs.VariableMaps.{place_of}
use Rattle.path_walk.proofs.LineTexts.{triple-fine}
use Rattle.path_walk.proofs.LowVariables.{low_place}
use Rattle.path_walk.proofs.blocks.put_framed.Goals as goal

pub state-requires-clause-stated : goal.state-requires-clause-stated
state-requires-clause-stated c =
    let f : Flow = flow_in c.args.flow.now in
    let fine = c.law_of_texts.ensures in
    let few_words = c.requires.origin.words in
    let few_mems = c.requires.origin.mems in
    subst IsTriple (sym c.in_ok-wide.ensures)
    (triple-fine f (record { regs = c.regs.result.now; entry = c.args.origin.now.entry; place = place_of c.args.origin.now.place }) (subst (AreRegistersFrom 1) (sym c.regs.ensures.are) c.law_of_code.ensures.registers) c.requires.origin.entry
    (low_place c.args.origin.now.place 65535 f.mems c.law_of_memories.ensures.few c.law_of_memories.ensures.second (omega arith) (omega (arith, few_words)) (omega (arith, few_mems)))
    (Const c.args.to) (place_of c.args.place.now) c.ranges.to.fits
    (low_place c.args.place.now 65535 f.mems c.law_of_memories-2.ensures.few c.law_of_memories-2.ensures.second (omega arith) (omega (arith, c.requires.words)) (omega (arith, c.requires.mems)))
    (map fact_tree c.facts.result.now) c.code.result.now.ranges (subst (λ (xs : List Fact). AllByRecursion IsFact (map fact_tree xs)) (sym c.facts.ensures) fine.facts)
    (subst AreRanges (sym c.code.ensures) fine.code) (subst (λ (rs : List Range). AllByRecursion (λ r. AllByRecursion (λ b. b < 256) r.bytes) rs) (sym c.code.ensures) fine.bytes))
