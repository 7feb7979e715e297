use Rattle.std.proofs.Common.{◌≤◌, ◌∙◌, Ok, Some, map, length, ap, arith}
use Rattle.elf_image.specs.Image.{code_in}
use Rattle.flow_graph.specs.Flow.{Next}
use Rattle.flow_graph.specs.Walks.{Stop}
use Rattle.flow_graph.specs.Reach.{Large}
use Rattle.flow_graph.proofs.BuildLemmas.{closed_from_reach, exit_with, graph_of, none_holds, refused_by_fault, some_holds, sorted_reach}
use Rattle.flow_graph.proofs.FlowLemmas.{is_flow}
use Rattle.flow_graph.proofs.graph.graph_from.Goals as goal

pub returns-in_default-clause-err : goal.returns-in_default-clause-err
returns-in_default-clause-err c = Large (none_holds c.in_ok-nodes.field-0 _ c.in_default.is c.in_ok-nodes.ensures.large)

pub returns-in_err-instrs-clause-err : goal.returns-in_err-instrs-clause-err
returns-in_err-instrs-clause-err c =
    let r = sorted_reach (Next c.args.linked (code_in c.args.image.now.pieces)) c.args.entry c.in-Some.nodes c.sort.new.self (some_holds _ _ c.in-Some.nodes c.in-Some.is c.in_ok-nodes.ensures.reach) c.sort.ensures.members c.in_ok-sort.ensures.rising in
    let few : length c.sort.new.self ≤ 1024 = omega (arith, c.sort.ensures.len, some_holds _ (λ v. length v ≤ 1024) c.in-Some.nodes c.in-Some.is c.in_ok-nodes.ensures.few) in
    exit_with c.from_residual-in_err-instrs.result c.in_err-instrs.field-0.0 _ c.from_residual-in_err-instrs.ensures.1
    (refused_by_fault c.args.linked (code_in c.args.image.now.pieces) c.args.entry c.sort.new.self c.in_err-instrs.field-0.0 r c.in_ok-sort.ensures.rising few c.in_err-instrs.ensures.err)

pub links_between-requires-clause-of : goal.links_between-requires-clause-of
links_between-requires-clause-of c =
    let code = code_in c.args.image.now.pieces in
    let r = sorted_reach (Next c.args.linked code) c.args.entry c.in-Some.nodes c.sort.new.self (some_holds _ _ c.in-Some.nodes c.in-Some.is c.in_ok-nodes.ensures.reach) c.sort.ensures.members c.in_ok-sort.ensures.rising in
    (c.args.linked, code, record { numbers_are = ap (map (λ w. Some w)) c.deref.ensures.value ∙ c.in_ok-numbers.ensures; same = ap (map (λ i. Ok i)) c.deref-2.ensures.value ∙ c.in_ok-instrs.ensures.ok; closed = closed_from_reach c.args.linked code c.args.entry c.sort.new.self r })

pub number-requires-clause-member : goal.number-requires-clause-member
number-requires-clause-member c =
    let code = code_in c.args.image.now.pieces in
    let r = sorted_reach (Next c.args.linked code) c.args.entry c.in-Some.nodes c.sort.new.self (some_holds _ _ c.in-Some.nodes c.in-Some.is c.in_ok-nodes.ensures.reach) c.sort.ensures.members c.in_ok-sort.ensures.rising in
    r.all c.args.entry Stop

pub returns-clause-ok : goal.returns-clause-ok
returns-clause-ok c =
    let code = code_in c.args.image.now.pieces in
    let r = sorted_reach (Next c.args.linked code) c.args.entry c.in-Some.nodes c.sort.new.self (some_holds _ _ c.in-Some.nodes c.in-Some.is c.in_ok-nodes.ensures.reach) c.sort.ensures.members c.in_ok-sort.ensures.rising in
    let few : length c.sort.new.self ≤ 1024 = omega (arith, c.sort.ensures.len, some_holds _ (λ v. length v ≤ 1024) c.in-Some.nodes c.in-Some.is c.in_ok-nodes.ensures.few) in
    let links = c.in_ok-links.ensures c.args.linked code (record { numbers_are = ap (map (λ w. Some w)) c.deref.ensures.value ∙ c.in_ok-numbers.ensures; same = ap (map (λ i. Ok i)) c.deref-2.ensures.value ∙ c.in_ok-instrs.ensures.ok; closed = closed_from_reach c.args.linked code c.args.entry c.sort.new.self r }) in
    graph_of c.args.linked code c.args.entry c.sort.new.self c.in_ok-numbers.numbers.items c.in_ok-instrs.instrs.items c.in_ok-links.links.1 c.number.result r c.in_ok-sort.ensures.rising few c.in_ok-numbers.ensures c.in_ok-instrs.ensures.ok (ap (λ p. p.1) links) c.number.ensures.value

pub invariant_of-result : goal.invariant_of-result
invariant_of-result c =
    let code = code_in c.args.image.now.pieces in
    let r = sorted_reach (Next c.args.linked code) c.args.entry c.in-Some.nodes c.sort.new.self (some_holds _ _ c.in-Some.nodes c.in-Some.is c.in_ok-nodes.ensures.reach) c.sort.ensures.members c.in_ok-sort.ensures.rising in
    let few : length c.sort.new.self ≤ 1024 = omega (arith, c.sort.ensures.len, some_holds _ (λ v. length v ≤ 1024) c.in-Some.nodes c.in-Some.is c.in_ok-nodes.ensures.few) in
    let links = c.in_ok-links.ensures c.args.linked code (record { numbers_are = ap (map (λ w. Some w)) c.deref.ensures.value ∙ c.in_ok-numbers.ensures; same = ap (map (λ i. Ok i)) c.deref-2.ensures.value ∙ c.in_ok-instrs.ensures.ok; closed = closed_from_reach c.args.linked code c.args.entry c.sort.new.self r }) in (
      is_flow c.args.linked code c.args.entry _ (graph_of c.args.linked code c.args.entry c.sort.new.self c.in_ok-numbers.numbers.items c.in_ok-instrs.instrs.items c.in_ok-links.links.1 c.number.result r c.in_ok-sort.ensures.rising few c.in_ok-numbers.ensures c.in_ok-instrs.ensures.ok (ap (λ p. p.1) links) c.number.ensures.value),
      ap (λ p. p.0) links,
    )
