use Rattle.std.proofs.Common.{ℕ, sym, ap, subst, ◌∙◌, arith}
use Rattle.std.proofs.lemmas.Result.{IfOk-weaker}
use Rattle.word_terms.specs.declared.code.Code.{Code}
use Rattle.tailrec_lang.specs.Tree.{def_tree, group_tree}
use Rattle.tailrec_lang.specs.WellFormed.{exit_words}
use Rattle.loop_rule.specs.Leaves.{variables_after}
use Rattle.loop_rule.specs.Rule.{exit_triple}
use Rattle.held_terms.specs.declared.held.Held.{Held}
use Rattle.held_terms.specs.inner.Put.{IsHeldPut, IsValuesPut}
use Rattle.held_definitions.proofs.ExitParts.{exit_put}
use Rattle.held_definitions.proofs.ExitSteps.{exit_within}
use Rattle.held_terms.proofs.PutLemmas.{values_stay}
use Rattle.held_definitions.proofs.exit_triples.triple_at.Goals as goal

pub entry_side-requires : goal.entry_side-requires
entry_side-requires g c = (values_stay c.variables.new.arena c.variables-2.new.arena c.variables-2.ensures.grows c.in_ok-args.args _ c.in_ok-args.ensures.put).at

pub exit_side-requires : goal.exit_side-requires
exit_side-requires g c = (values_stay c.variables-2.new.arena c.entry_side.new.arena c.entry_side.ensures.grows c.in_ok-results.results _ c.in_ok-results.ensures.put).at

pub returns-clause-put : goal.returns-clause-put
returns-clause-put g c =
    let n1 = c.variables.new.arena in
    let n2 = c.variables-2.new.arena in
    let n3 = c.entry_side.new.arena in
    let n4 = c.exit_side.new.arena in
    let tree = group_tree c.args.g.now in
    let mems = c.args.g.now.mems in
    let args = subst (λ (n : ℕ). IsValuesPut n1 c.in_ok-args.args (variables_after 0 0 n mems)) c.len-words.ensures c.in_ok-args.ensures.put in
    let counted = subst (λ (n : ℕ). IsValuesPut n2 c.in_ok-results.results (variables_after c.len-words.result mems n mems)) c.results_at.ensures c.in_ok-results.ensures.put in
    let results = subst (λ (n : ℕ). IsValuesPut n2 c.in_ok-results.results (variables_after n mems (exit_words tree c.args.x) mems)) c.len-words.ensures counted in
    let put = exit_put tree c.args.d (def_tree c.args.def.now) c.args.exit c.args.x n1 n2 n3 n4 c.variables-2.ensures.grows c.entry_side.ensures.grows c.exit_side.ensures.grows c.in_ok-args.args c.in_ok-results.results
    c.in_ok-pre.pre c.in_ok-post.post c.in_ok-facts.facts c.in_ok-code.code args results c.in_ok-pre.ensures.put c.in_ok-post.ensures.put c.in_ok-facts.ensures (ap (λ (code : Code). code.ranges) c.in_ok-code.ensures ∙ c.requires.code) in
    IfOk-weaker c.new.result _ _ (λ h e. subst (λ (q : Held). IsHeldPut n4 q (exit_triple tree c.args.d (def_tree c.args.def.now) c.args.exit c.args.x)) (sym e) put) c.new.ensures

pub returns-in_err-args-clause-steps : goal.returns-in_err-args-clause-steps
returns-in_err-args-clause-steps g c = λ ts has.
    let words = c.len-words.ensures in
    let a = c.variables.ensures.steps in
    let enough = exit_within ts (group_tree c.args.g.now) c.args.d c.args.exit (def_tree c.args.def.now) c.args.x (has _ c.requires.exit) in
    omega (arith, words, a, enough)

pub returns-in_err-results-clause-steps : goal.returns-in_err-results-clause-steps
returns-in_err-results-clause-steps g c = λ ts has.
    let words = c.len-words.ensures in
    let a = c.variables.ensures.steps in
    let counted = c.results_at.ensures in
    let b = c.variables-2.ensures.steps in
    let enough = exit_within ts (group_tree c.args.g.now) c.args.d c.args.exit (def_tree c.args.def.now) c.args.x (has _ c.requires.exit) in
    omega (arith, words, a, counted, b, enough)

pub returns-in_err-pre-clause-steps : goal.returns-in_err-pre-clause-steps
returns-in_err-pre-clause-steps g c = λ ts has.
    let words = c.len-words.ensures in
    let a = c.variables.ensures.steps in
    let counted = c.results_at.ensures in
    let b = c.variables-2.ensures.steps in
    let p = c.entry_side.ensures.steps in
    let enough = exit_within ts (group_tree c.args.g.now) c.args.d c.args.exit (def_tree c.args.def.now) c.args.x (has _ c.requires.exit) in
    omega (arith, words, a, counted, b, p, enough)

pub returns-in_err-post-clause-steps : goal.returns-in_err-post-clause-steps
returns-in_err-post-clause-steps g c = λ ts has.
    let words = c.len-words.ensures in
    let a = c.variables.ensures.steps in
    let counted = c.results_at.ensures in
    let b = c.variables-2.ensures.steps in
    let p = c.entry_side.ensures.steps in
    let q = c.exit_side.ensures.steps in
    let enough = exit_within ts (group_tree c.args.g.now) c.args.d c.args.exit (def_tree c.args.def.now) c.args.x (has _ c.requires.exit) in
    omega (arith, words, a, counted, b, p, q, enough)

pub returns-in_err-facts-clause-steps : goal.returns-in_err-facts-clause-steps
returns-in_err-facts-clause-steps g c = λ ts has.
    let words = c.len-words.ensures in
    let a = c.variables.ensures.steps in
    let counted = c.results_at.ensures in
    let b = c.variables-2.ensures.steps in
    let p = c.entry_side.ensures.steps in
    let q = c.exit_side.ensures.steps in
    let enough = exit_within ts (group_tree c.args.g.now) c.args.d c.args.exit (def_tree c.args.def.now) c.args.x (has _ c.requires.exit) in
    omega (arith, words, a, counted, b, p, q, enough)

pub returns-in_err-code-clause-steps : goal.returns-in_err-code-clause-steps
returns-in_err-code-clause-steps g c = λ ts has.
    let words = c.len-words.ensures in
    let a = c.variables.ensures.steps in
    let counted = c.results_at.ensures in
    let b = c.variables-2.ensures.steps in
    let p = c.entry_side.ensures.steps in
    let q = c.exit_side.ensures.steps in
    let enough = exit_within ts (group_tree c.args.g.now) c.args.d c.args.exit (def_tree c.args.def.now) c.args.x (has _ c.requires.exit) in
    omega (arith, words, a, counted, b, p, q, enough)

pub returns-clause-steps : goal.returns-clause-steps
returns-clause-steps g c = λ ts has.
    let words = c.len-words.ensures in
    let a = c.variables.ensures.steps in
    let counted = c.results_at.ensures in
    let b = c.variables-2.ensures.steps in
    let p = c.entry_side.ensures.steps in
    let q = c.exit_side.ensures.steps in
    let enough = exit_within ts (group_tree c.args.g.now) c.args.d c.args.exit (def_tree c.args.def.now) c.args.x (has _ c.requires.exit) in
    omega (arith, words, a, counted, b, p, q, enough)
