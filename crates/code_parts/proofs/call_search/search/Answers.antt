use Rattle.std.proofs.Common.{ℕ, ◌+◌, ◌<◌, ◌≤◌, true, List, [], ◌∷◌, length, get_or, subst, arith}
use Rattle.elf_image.specs.Image.{code_in}
use Rattle.flow_graph.specs.Flow.{Next}
use Rattle.flow_graph.specs.Reach.{IsReach, ReachesOver}
use Rattle.flow_graph.specs.Walks.{Stop}
use Rattle.flow_graph.specs.inner.Reached.{GrowsBy}
use Rattle.flow_graph.proofs.BuildLemmas.{none_holds, some_holds}
use Rattle.flow_graph.proofs.ReachSearch.{grows_one}
use Rattle.flow_graph.proofs.Ways.{node_at}
use Rattle.code_parts.proofs.Searching.{large_one, large_sum, searching_end, searching_next, searching_start}
use Rattle.code_parts.proofs.call_search.search.Goals as goal

pub functions-init : goal.functions-init
functions-init c = searching_start (code_in c.args.image.now.pieces) c.args.entry c.add.new.self
    (subst (λ (z : List ℕ). GrowsBy z (c.args.entry ∷ []) c.add.new.self) c.new-functions.ensures
    (grows_one c.new-functions.result c.add.new.self c.args.entry c.in_ok-add.field-0 c.in_ok-add.ensures.fresh c.in_ok-add.ensures.added))

pub returns-in_default-clause-large : goal.returns-in_default-clause-large
returns-in_default-clause-large c =
    let code = code_in c.args.image.now.pieces in
    let below : c.functions.i < length c.functions.functions = omega (arith, c.len.ensures.len, c.functions-test.true) in
    let over = none_holds c.in_ok-addresses.field-0 _ c.in_default.is c.in_ok-addresses.ensures.large in
    large_one code c.args.entry (get_or c.functions.functions c.functions.i 0) (c.functions.invariant.reaching.reached (get_or c.functions.functions c.functions.i 0) (node_at c.functions.functions c.functions.i below))
    (subst (λ (f : ℕ). ReachesOver (Next true code) f 1024) c.get.ensures over)

pub overflow_add-total : goal.overflow_add-total
overflow_add-total c =
    let few : length c.in-Some.addresses ≤ 1024 = some_holds c.in_ok-addresses.field-0 (λ v. length v ≤ 1024) c.in-Some.addresses c.in-Some.is c.in_ok-addresses.ensures.few in
    omega (arith, few, c.len-total.ensures.len, c.functions.invariant.few)

pub returns-then-total-gt-REACH_LIMIT-clause-large : goal.returns-then-total-gt-REACH_LIMIT-clause-large
returns-then-total-gt-REACH_LIMIT-clause-large c =
    let code = code_in c.args.image.now.pieces in
    let below : c.functions.i < length c.functions.functions = omega (arith, c.len.ensures.len, c.functions-test.true) in
    let reach = some_holds c.in_ok-addresses.field-0 (IsReach (Next true code) c.get.result) c.in-Some.addresses c.in-Some.is c.in_ok-addresses.ensures.reach in
    large_sum code c.args.entry c.functions.functions c.functions.i c.functions.total c.functions.called c.functions.fault c.in-Some.addresses c.functions.invariant below c.len.ensures.different
    (subst (λ (f : ℕ). IsReach (Next true code) f c.in-Some.addresses) c.get.ensures reach) (omega (arith, c.if-total-gt-REACH_LIMIT.true, c.len-total.ensures.len))

pub functions-preserved : goal.functions-preserved
functions-preserved c =
    let code = code_in c.args.image.now.pieces in
    let below : c.functions.i < length c.functions.functions = omega (arith, c.len.ensures.len, c.functions-test.true) in
    let reach = some_holds c.in_ok-addresses.field-0 (IsReach (Next true code) c.get.result) c.in-Some.addresses c.in-Some.is c.in_ok-addresses.ensures.reach in
    let few : c.functions.total + length c.in-Some.addresses ≤ 1024 = omega (arith, c.if-total-gt-REACH_LIMIT.false, c.len-total.ensures.len) in
    rw (c.len-total.ensures.len, c.lowest_fault-fault.ensures)
    (searching_next code c.args.entry c.functions.functions c.note_callees.new.functions c.functions.i c.functions.total c.functions.called c.calls-called.result c.functions.fault c.in-Some.addresses c.functions.invariant below c.len.ensures.different
    (subst (λ (f : ℕ). IsReach (Next true code) f c.in-Some.addresses) c.get.ensures reach) few c.calls-called.ensures c.in_ok-note_callees.ensures)

pub returns-clause-found : goal.returns-clause-found
returns-clause-found c = searching_end (code_in c.args.image.now.pieces) c.args.entry c.functions.functions c.functions.i c.functions.total c.functions.called c.functions.fault c.functions.invariant
    (omega (arith, c.len.ensures.len, c.functions-test.false)) c.len.ensures.different

pub functions-smaller : goal.functions-smaller
functions-smaller c =
    let reach = some_holds c.in_ok-addresses.field-0 (IsReach (Next true (code_in c.args.image.now.pieces)) c.get.result) c.in-Some.addresses c.in-Some.is c.in_ok-addresses.ensures.reach in
    let own = reach.all c.get.result Stop in
    let some : own.0 < length c.in-Some.addresses = own.1 in
    let least : c.functions.i ≤ c.functions.total = c.functions.invariant.least in
    omega (arith, c.if-total-gt-REACH_LIMIT.false, c.len-total.ensures.len)
