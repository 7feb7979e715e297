use Rattle.std.proofs.Common.{◌≡◌, List, map, sym, ◌∙◌, subst, arith}
use Rattle.std.specs.List.{AllZip, Contains}
use Rattle.std.specs.Result.{IsErrAnd}
use Rattle.tailrec_lang.specs.Tree.{def_tree, group_tree}
use Rattle.tailrec_lang.specs.inner.Tree.{end_tree}
use Rattle.triple_kernel.specs.declared.fault.RuleFault.TheVariants.{NoInstance}
use Rattle.loop_rule.specs.Tree.{LeafTree}
use Rattle.loop_rule.specs.Leaves.{body_leaves, leaves_of}
use Rattle.loop_rule.specs.Rule.{IsLedTo}
use Rattle.loop_rule.specs.Judge.{Closing, Went}
use Rattle.loop_rule.specs.inner.Rule.{IsLed}
use Rattle.loop_rule.proofs.WalkLemmas.{walked_led, walked_more, walked_not, went_on}
use Rattle.loop_rule.proofs.LeafLemmas.{leaves-body}
use Rattle.loop_rule.proofs.leading.cite_for_leaves.Goals as goal

pub returns-clause-led : goal.returns-clause-led
returns-clause-led g c =
    let group = group_tree c.args.g.now in
    let def = def_tree c.args.def.now in
    let judge = g.J.JudgeLeaves.judge in
    let way = judge.way in
    let scope = c.in_ok-scope in
    let next = c.push_steps.new.judge in
    let same : body_leaves group def (end_tree c.args.def.now.body.end) scope.scope.words scope.scope.mems (way next) ≡ leaves_of group def =
    sym (leaves-body group def c.args.def.now.body c.as_slice.result.now c.in_ok-start.start.words c.in_ok-start.start.mems scope.scope.words scope.scope.mems (way c.args.judge.now) (way next) c.as_slice.ensures scope.ensures.leaves)
    ∙ (λ i. body_leaves group def def.body (c.in_ok-start.ensures.words i) (c.in_ok-start.ensures.mems i) (c.requires.begins i)) in
    λ ok. subst (λ (k : Closing). AllZip (IsLedTo group def) (leaves_of group def) (map k.theorem c.args.cited.now)) c.push_steps.ensures.went.closing
    (subst (λ (ls : List LeafTree). AllZip (IsLedTo group def) ls (map (judge.closing next).theorem c.args.cited.now)) same
    (walked_led judge _ _ next c.cite_for_end.new.judge c.in_ok-used.used c.in_ok-used.ensures (omega (arith, c.if-used-cited.false))))

pub returns-clause-holds : goal.returns-clause-holds
returns-clause-holds g c =
    let group = group_tree c.args.g.now in
    let def = def_tree c.args.def.now in
    let judge = g.J.JudgeLeaves.judge in
    let way = judge.way in
    let scope = c.in_ok-scope in
    let next = c.push_steps.new.judge in
    let same : body_leaves group def (end_tree c.args.def.now.body.end) scope.scope.words scope.scope.mems (way next) ≡ leaves_of group def =
    sym (leaves-body group def c.args.def.now.body c.as_slice.result.now c.in_ok-start.start.words c.in_ok-start.start.mems scope.scope.words scope.scope.mems (way c.args.judge.now) (way next) c.as_slice.ensures scope.ensures.leaves)
    ∙ (λ i. body_leaves group def def.body (c.in_ok-start.ensures.words i) (c.in_ok-start.ensures.mems i) (c.requires.begins i)) in
    λ ok. subst (λ (ls : List LeafTree). (leaf : LeafTree) → Contains ls leaf → IsLed (judge.Holds group) group def leaf) same c.in_ok-used.ensures.answers.0.led

pub returns-then-used-cited-clause-not_led : goal.returns-then-used-cited-clause-not_led
returns-then-used-cited-clause-not_led g c =
    let group = group_tree c.args.g.now in
    let def = def_tree c.args.def.now in
    let judge = g.J.JudgeLeaves.judge in
    let way = judge.way in
    let scope = c.in_ok-scope in
    let next = c.push_steps.new.judge in
    let same : body_leaves group def (end_tree c.args.def.now.body.end) scope.scope.words scope.scope.mems (way next) ≡ leaves_of group def =
    sym (leaves-body group def c.args.def.now.body c.as_slice.result.now c.in_ok-start.start.words c.in_ok-start.start.mems scope.scope.words scope.scope.mems (way c.args.judge.now) (way next) c.as_slice.ensures scope.ensures.leaves)
    ∙ (λ i. body_leaves group def def.body (c.in_ok-start.ensures.words i) (c.in_ok-start.ensures.mems i) (c.requires.begins i)) in
    λ err. subst (λ (k : Closing). AllZip (IsLedTo group def) (leaves_of group def) (map k.theorem c.args.cited.now) → ⊥) c.push_steps.ensures.went.closing
    (subst (λ (ls : List LeafTree). AllZip (IsLedTo group def) ls (map (judge.closing next).theorem c.args.cited.now) → ⊥) same
    (walked_more judge _ _ next c.cite_for_end.new.judge c.in_ok-used.used c.in_ok-used.ensures (omega (arith, c.if-used-cited.true))))

pub returns-in_err-used-clause-not_led : goal.returns-in_err-used-clause-not_led
returns-in_err-used-clause-not_led g c =
    let group = group_tree c.args.g.now in
    let def = def_tree c.args.def.now in
    let judge = g.J.JudgeLeaves.judge in
    let way = judge.way in
    let scope = c.in_ok-scope in
    let next = c.push_steps.new.judge in
    let same : body_leaves group def (end_tree c.args.def.now.body.end) scope.scope.words scope.scope.mems (way next) ≡ leaves_of group def =
    sym (leaves-body group def c.args.def.now.body c.as_slice.result.now c.in_ok-start.start.words c.in_ok-start.start.mems scope.scope.words scope.scope.mems (way c.args.judge.now) (way next) c.as_slice.ensures scope.ensures.leaves)
    ∙ (λ i. body_leaves group def def.body (c.in_ok-start.ensures.words i) (c.in_ok-start.ensures.mems i) (c.requires.begins i)) in
    λ err.
    let e : NoInstance ≡ c.in_err-used.field-0.0 = subst (λ r. IsErrAnd r (λ y. y ≡ c.in_err-used.field-0.0)) err c.from_residual-in_err-used.ensures.1 in
    subst (λ (k : Closing). AllZip (IsLedTo group def) (leaves_of group def) (map k.theorem c.args.cited.now) → ⊥) c.push_steps.ensures.went.closing
    (subst (λ (ls : List LeafTree). AllZip (IsLedTo group def) ls (map (judge.closing next).theorem c.args.cited.now) → ⊥) same
    (walked_not judge _ _ next c.cite_for_end.new.judge c.in_err-used.field-0.0 (sym e) c.in_err-used.ensures))

pub returns-clause-went : goal.returns-clause-went
returns-clause-went g c =
    let group = group_tree c.args.g.now in
    let def = def_tree c.args.def.now in
    let judge = g.J.JudgeLeaves.judge in
    let way = judge.way in
    let scope = c.in_ok-scope in
    let next = c.push_steps.new.judge in
    let same : body_leaves group def (end_tree c.args.def.now.body.end) scope.scope.words scope.scope.mems (way next) ≡ leaves_of group def =
    sym (leaves-body group def c.args.def.now.body c.as_slice.result.now c.in_ok-start.start.words c.in_ok-start.start.mems scope.scope.words scope.scope.mems (way c.args.judge.now) (way next) c.as_slice.ensures scope.ensures.leaves)
    ∙ (λ i. body_leaves group def def.body (c.in_ok-start.ensures.words i) (c.in_ok-start.ensures.mems i) (c.requires.begins i)) in
    subst (λ (ls : List LeafTree). Went judge ls c.args.judge.now c.cite_for_end.new.judge) same (went_on judge _ c.args.judge.now next c.cite_for_end.new.judge c.push_steps.ensures.went c.cite_for_end.ensures.went)

pub returns-then-used-cited-clause-went : goal.returns-then-used-cited-clause-went
returns-then-used-cited-clause-went g c =
    let group = group_tree c.args.g.now in
    let def = def_tree c.args.def.now in
    let judge = g.J.JudgeLeaves.judge in
    let way = judge.way in
    let scope = c.in_ok-scope in
    let next = c.push_steps.new.judge in
    let same : body_leaves group def (end_tree c.args.def.now.body.end) scope.scope.words scope.scope.mems (way next) ≡ leaves_of group def =
    sym (leaves-body group def c.args.def.now.body c.as_slice.result.now c.in_ok-start.start.words c.in_ok-start.start.mems scope.scope.words scope.scope.mems (way c.args.judge.now) (way next) c.as_slice.ensures scope.ensures.leaves)
    ∙ (λ i. body_leaves group def def.body (c.in_ok-start.ensures.words i) (c.in_ok-start.ensures.mems i) (c.requires.begins i)) in
    subst (λ (ls : List LeafTree). Went judge ls c.args.judge.now c.cite_for_end.new.judge) same (went_on judge _ c.args.judge.now next c.cite_for_end.new.judge c.push_steps.ensures.went c.cite_for_end.ensures.went)

pub returns-in_err-used-clause-went : goal.returns-in_err-used-clause-went
returns-in_err-used-clause-went g c =
    let group = group_tree c.args.g.now in
    let def = def_tree c.args.def.now in
    let judge = g.J.JudgeLeaves.judge in
    let way = judge.way in
    let scope = c.in_ok-scope in
    let next = c.push_steps.new.judge in
    let same : body_leaves group def (end_tree c.args.def.now.body.end) scope.scope.words scope.scope.mems (way next) ≡ leaves_of group def =
    sym (leaves-body group def c.args.def.now.body c.as_slice.result.now c.in_ok-start.start.words c.in_ok-start.start.mems scope.scope.words scope.scope.mems (way c.args.judge.now) (way next) c.as_slice.ensures scope.ensures.leaves)
    ∙ (λ i. body_leaves group def def.body (c.in_ok-start.ensures.words i) (c.in_ok-start.ensures.mems i) (c.requires.begins i)) in
    subst (λ (ls : List LeafTree). Went judge ls c.args.judge.now c.cite_for_end.new.judge) same (went_on judge _ c.args.judge.now next c.cite_for_end.new.judge c.push_steps.ensures.went c.cite_for_end.ensures.went)
