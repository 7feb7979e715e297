use Rattle.std.proofs.Common.{◌≡◌, List, ◌++◌, map, sym, ap, ◌∙◌, subst, arith}
use Rattle.rv_words.specs.declared.range.Range.{Range}
use Rattle.rv_words.specs.Ranges.{range_bytes}
use Rattle.word_terms.specs.Tree.{Const, word_tree}
use Rattle.sep_assert.specs.Code.{IsWithin}
use Rattle.triple_kernel.specs.Tree.{FactTree, fact_tree}
use Rattle.frame_compose.specs.Rules.{AreMissing}
use Rattle.proof_text.specs.LineLimits.{IsTriple}
use Rattle.code_parts.specs.Bodies.{Flow}
use Rattle.code_parts.specs.Kept.{flow_in}
use Rattle.path_walk.specs.inner.Writers.{IsFineCited, CitedTree, cited_tree, origin_of, standing_on}
use Rattle.code_parts.specs.VariableMaps.{place_of}
use Rattle.path_walk.proofs.LineTexts.{joined-fine, triple-fine, union_within}
use Rattle.path_walk.proofs.LowVariables.{low_place}
use Rattle.path_walk.proofs.compose.join.Goals as goal

pub state-requires-clause-stated : goal.state-requires-clause-stated
state-requires-clause-stated c =
    let f : Flow = flow_in c.args.flow.now in
    let more : List FactTree = c.in_ok-all.ensures.0 in
    let known : map fact_tree c.facts.result.now ≡ map fact_tree c.args.from.now.facts = ap (map fact_tree) c.facts.ensures in
    let facts : map fact_tree c.facts-2.result.now ≡ map fact_tree c.args.last.facts = ap (map fact_tree) c.facts-2.ensures in
    let are : AreMissing (map fact_tree c.args.from.now.facts) (map fact_tree c.args.last.facts) more =
    subst (λ (xs : List FactTree). AreMissing xs (map fact_tree c.args.last.facts) more) known (subst (λ (ys : List FactTree). AreMissing (map fact_tree c.facts.result.now) ys more) facts c.in_ok-all.ensures.1) in
    let all : map fact_tree c.as_slice.result.now ≡ map fact_tree c.args.from.now.facts ++ more =
    ap (map fact_tree) c.as_slice.ensures ∙ c.in_ok-all.ensures.2 ∙ ap (λ (xs : List FactTree). xs ++ more) known in
    let joined = joined-fine (cited_tree c.args.from.now) (cited_tree c.args.last) c.law_of_texts.ensures c.law_of_texts-2.ensures more are c.in_ok-code.code.ranges c.in_ok-code.ensures.ranges c.law_of_bytes.ensures 0 (omega arith) in
    let whole = triple-fine f (origin_of c.args.origin.now) c.requires.origin.registers c.requires.origin.entry
    (low_place c.args.origin.now.place 65535 f.mems c.law_of_memories.ensures.few c.law_of_memories.ensures.second (omega arith) (let few = c.requires.origin.words in omega (arith, few)) (let few = c.requires.origin.mems in omega (arith, few)))
    (word_tree c.args.pc) (place_of c.args.place.now) c.requires.pc
    (low_place c.args.place.now 65535 f.mems c.law_of_memories-2.ensures.few c.law_of_memories-2.ensures.second (omega arith) (omega (arith, c.requires.words)) (omega (arith, c.requires.mems)))
    (map fact_tree c.args.from.now.facts ++ more) c.in_ok-code.code.ranges joined.facts joined.code joined.bytes in
    subst IsTriple
    (sym (c.in_ok-whole.ensures
    ∙ (λ j. record { facts = all j; pre = standing_on f (origin_of c.args.origin.now) (Const c.args.origin.now.entry) (place_of c.args.origin.now.place); code = c.in_ok-code.code.ranges; post = standing_on f (origin_of c.args.origin.now) (word_tree c.args.pc) (place_of c.args.place.now) })))
    whole

pub new-requires : goal.new-requires
new-requires c =
    let more : List FactTree = c.in_ok-all.ensures.0 in
    let known : map fact_tree c.facts.result.now ≡ map fact_tree c.args.from.now.facts = ap (map fact_tree) c.facts.ensures in
    let facts : map fact_tree c.facts-2.result.now ≡ map fact_tree c.args.last.facts = ap (map fact_tree) c.facts-2.ensures in
    let are : AreMissing (map fact_tree c.args.from.now.facts) (map fact_tree c.args.last.facts) more =
    subst (λ (xs : List FactTree). AreMissing xs (map fact_tree c.args.last.facts) more) known (subst (λ (ys : List FactTree). AreMissing (map fact_tree c.facts.result.now) ys more) facts c.in_ok-all.ensures.1) in
    let all : map fact_tree c.in_ok-all.all ≡ map fact_tree c.args.from.now.facts ++ more = c.in_ok-all.ensures.2 ∙ ap (λ (xs : List FactTree). xs ++ more) known in
    subst (λ (fs : List FactTree). IsFineCited (record { number = c.in_ok-number.number; facts = fs; code = c.in_ok-code.code.ranges })) (sym all)
    (joined-fine (cited_tree c.args.from.now) (cited_tree c.args.last) c.law_of_texts.ensures c.law_of_texts-2.ensures more are c.in_ok-code.code.ranges c.in_ok-code.ensures.ranges c.law_of_bytes.ensures c.in_ok-number.number c.in_ok-number.ensures.fits)

pub returns-clause-code : goal.returns-clause-code
returns-clause-code c =
    subst (λ (rs : List Range). IsWithin (range_bytes rs) (range_bytes c.args.flow.now.code)) (sym (ap (λ (s : CitedTree). s.code) c.new.ensures))
    (union_within _ _ _ _ c.in_ok-code.ensures.bytes (subst (λ (rs : List Range). IsWithin (range_bytes rs) (range_bytes c.args.flow.now.code)) (sym c.code.ensures) c.requires.first)
    (subst (λ (rs : List Range). IsWithin (range_bytes rs) (range_bytes c.args.flow.now.code)) (sym c.code-2.ensures) c.requires.second))
