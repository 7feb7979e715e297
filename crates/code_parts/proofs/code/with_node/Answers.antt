use Rattle.std.proofs.Common.{◌≡◌, List, get_or, sym, ap, ◌∙◌, subst}
use Rattle.std.proofs.lemmas.Option.{get_or_from_slice_get}
use Rattle.rv_words.specs.Bytes.{over}
use Rattle.rv_words.specs.declared.range.Range.{Range}
use Rattle.rv_words.specs.Ranges.{AreRanges, range_bytes}
use Rattle.sep_assert.specs.Code.{Agree}
use Rattle.instr_axioms.specs.Axiom.{word_code}
use Rattle.code_parts.proofs.GraphCode.{code_more, node_ranges, nodes_agree}
use Rattle.code_parts.proofs.code.with_node.Goals as goal

pub code_join-requires-clause-second : goal.code_join-requires-clause-second
code_join-requires-clause-second c =
    let number = get_or_from_slice_get c.args.graph.now.numbers c.args.n c.number.result 0 (sym c.number.ensures) in
    let more : c.in_ok-more.more.ranges ≡ word_code (get_or c.args.graph.now.addrs c.args.n 0) (get_or c.args.graph.now.numbers c.args.n 0) = c.in_ok-more.ensures ∙ (λ i. word_code (c.addr.ensures i) (sym number i)) in
    subst AreRanges (sym more) (node_ranges c.requires.reached.0 c.args.graph.now c.requires.reached.1 c.args.n c.requires.node)

pub code_join-requires-clause-agree : goal.code_join-requires-clause-agree
code_join-requires-clause-agree c =
    let number = get_or_from_slice_get c.args.graph.now.numbers c.args.n c.number.result 0 (sym c.number.ensures) in
    let more : c.in_ok-more.more.ranges ≡ word_code (get_or c.args.graph.now.addrs c.args.n 0) (get_or c.args.graph.now.numbers c.args.n 0) = c.in_ok-more.ensures ∙ (λ i. word_code (c.addr.ensures i) (sym number i)) in
    subst (λ (rs : List Range). Agree (range_bytes c.args.code.now.ranges) (range_bytes rs)) (sym more)
    (nodes_agree c.requires.reached.0 c.args.graph.now c.requires.reached.1 c.args.n c.args.code.now.ranges c.requires.node c.requires.code)

pub returns : goal.returns
returns c =
    let number = get_or_from_slice_get c.args.graph.now.numbers c.args.n c.number.result 0 (sym c.number.ensures) in
    let more : c.in_ok-more.more.ranges ≡ word_code (get_or c.args.graph.now.addrs c.args.n 0) (get_or c.args.graph.now.numbers c.args.n 0) = c.in_ok-more.ensures ∙ (λ i. word_code (c.addr.ensures i) (sym number i)) in
    code_more c.requires.reached.0 c.args.graph.now c.requires.reached.1 c.args.n c.args.code.now.ranges c.in_ok-all.all.ranges c.requires.node c.requires.code c.in_ok-all.ensures.ranges
    (c.in_ok-all.ensures.bytes ∙ ap (λ (rs : List Range). over (range_bytes c.args.code.now.ranges) (range_bytes rs)) more)
