use Rattle.std.proofs.Common.{true≢false, ap, refl, sym, ◌∙◌, length, subst, IfOk, arith}
use Rattle.tailrec_lang.specs.Tree.{group_tree}
use Rattle.proof_text.specs.Line.{code_or_own}
use Rattle.short_text.specs.declared.short.Short.{Short}
use Rattle.short_text.specs.SpelledShort.{short_or_own}
use Rattle.checker.specs.Bench.{history_from}
use Rattle.held_definitions.specs.Theorems.{theorem_at}
use Rattle.checker.specs.Short.{IsFineShort, IsStatedBy}
use Rattle.derived_triples.specs.inner.Making.{MadeIf}
use Rattle.checker.proofs.StatingLemmas.{axiom_from, axiom_to, compose_from, compose_to, discharge_from, discharge_to, extend_from, extend_to, frame_from, frame_to, inst_from, inst_to, made_ok, strengthen_from, strengthen_to, use_from, use_to, weaken_from, weaken_to}
use Rattle.checker.specs.LineTerms.{HasShort, is_copied}
use Rattle.held_terms.proofs.PutSteps.{fours_within, pairs_within, searches_within, terms_within}
use Rattle.checker.proofs.stating.stated_by.Goals as goal

pub returns-in-Axiom-clause-made : goal.returns-in-Axiom-clause-made
returns-in-Axiom-clause-made g c =
    let old = c.args.arena.now in
    let tree = group_tree c.args.g.now in
    let h = history_from 0 old c.args.held.now.entries c.args.closed.now in
    let fine = subst (λ (s : Short). IsFineShort old (short_or_own tree.code c.args.all s)) c.in-Axiom.is c.requires.line in
    subst (λ (s : Short). IfOk c.axiom.result (MadeIf c.axiom.new.arena (IsStatedBy tree h old (short_or_own tree.code c.args.all s)))) (sym c.in-Axiom.is)
    (made_ok c.axiom.result c.axiom.new.arena _ _ (λ t fits m. axiom_to tree h old t fits c.in-Axiom.addr c.in-Axiom.word c.in-Axiom.form fine m) (λ t fits x. axiom_from tree h old t fits c.in-Axiom.addr c.in-Axiom.word c.in-Axiom.form x) c.axiom.ensures.made)

pub returns-in-Inst-clause-made : goal.returns-in-Inst-clause-made
returns-in-Inst-clause-made g c =
    let old = c.args.arena.now in
    let tree = group_tree c.args.g.now in
    let h = history_from 0 old c.args.held.now.entries c.args.closed.now in
    let fine = subst (λ (s : Short). IsFineShort old (short_or_own tree.code c.args.all s)) c.in-Inst.is c.requires.line in
    subst (λ (s : Short). IfOk c.by_inst.result (MadeIf c.by_inst.new.arena (IsStatedBy tree h old (short_or_own tree.code c.args.all s)))) (sym c.in-Inst.is)
    (made_ok c.by_inst.result c.by_inst.new.arena _ _ (λ t fits m. inst_to tree h old t fits c.in-Inst.p c.in-Inst.words c.in-Inst.mems fine m) (λ t fits x. inst_from tree h old t fits c.in-Inst.p c.in-Inst.words c.in-Inst.mems fine.1 x) c.by_inst.ensures.made)

pub returns-in-UseExit-clause-made : goal.returns-in-UseExit-clause-made
returns-in-UseExit-clause-made g c =
    let old = c.args.arena.now in
    let tree = group_tree c.args.g.now in
    let h = history_from 0 old c.args.held.now.entries c.args.closed.now in
    let fine = subst (λ (s : Short). IsFineShort old (short_or_own tree.code c.args.all s)) c.in-UseExit.is c.requires.line in
    subst (λ (s : Short). IfOk c.by_use_exit.result (MadeIf c.by_use_exit.new.arena (IsStatedBy tree h old (short_or_own tree.code c.args.all s)))) (sym c.in-UseExit.is)
    (made_ok c.by_use_exit.result c.by_use_exit.new.arena _ _ (λ t fits m. use_to tree h old t fits c.in-UseExit.def c.in-UseExit.number fine m) (λ t fits x. use_from tree h old t fits c.in-UseExit.def c.in-UseExit.number x) c.by_use_exit.ensures.made)

pub returns-in-Frame-clause-made : goal.returns-in-Frame-clause-made
returns-in-Frame-clause-made g c =
    let old = c.args.arena.now in
    let tree = group_tree c.args.g.now in
    let h = history_from 0 old c.args.held.now.entries c.args.closed.now in
    let fine = subst (λ (s : Short). IsFineShort old (short_or_own tree.code c.args.all s)) c.in-Frame.is c.requires.line in
    subst (λ (s : Short). IfOk c.by_frame.result (MadeIf c.args.arena.now (IsStatedBy tree h old (short_or_own tree.code c.args.all s)))) (sym c.in-Frame.is)
    (made_ok c.by_frame.result c.args.arena.now _ _ (λ t fits m. frame_to tree h old t fits c.in-Frame.p c.in-Frame.regs c.in-Frame.mems fine.0 m) (λ t fits x. frame_from tree h old t fits c.in-Frame.p c.in-Frame.regs c.in-Frame.mems x) c.by_frame.ensures)

pub returns-in-ExtendCode-clause-made : goal.returns-in-ExtendCode-clause-made
returns-in-ExtendCode-clause-made g c =
    let old = c.args.arena.now in
    let tree = group_tree c.args.g.now in
    let h = history_from 0 old c.args.held.now.entries c.args.closed.now in
    let fine = subst (λ (s : Short). IsFineShort old (short_or_own tree.code c.args.all s)) c.in-ExtendCode.is c.requires.line in
    subst (λ (s : Short). IfOk c.by_extend_code.result (MadeIf c.args.arena.now (IsStatedBy tree h old (short_or_own tree.code c.args.all s)))) (sym c.in-ExtendCode.is)
    (made_ok c.by_extend_code.result c.args.arena.now _ _ (λ t fits m. extend_to tree h old t fits c.in-ExtendCode.p (record { ranges = code_or_own tree.code c.args.all c.in-ExtendCode.more.ranges }) fine.0 m) (λ t fits x. extend_from tree h old t fits c.in-ExtendCode.p (record { ranges = code_or_own tree.code c.args.all c.in-ExtendCode.more.ranges }) x) c.by_extend_code.ensures)

pub returns-in-Compose-clause-made : goal.returns-in-Compose-clause-made
returns-in-Compose-clause-made g c =
    let old = c.args.arena.now in
    let tree = group_tree c.args.g.now in
    let h = history_from 0 old c.args.held.now.entries c.args.closed.now in
    let fine = subst (λ (s : Short). IsFineShort old (short_or_own tree.code c.args.all s)) c.in-Compose.is c.requires.line in
    subst (λ (s : Short). IfOk c.by_compose.result (MadeIf c.args.arena.now (IsStatedBy tree h old (short_or_own tree.code c.args.all s)))) (sym c.in-Compose.is)
    (made_ok c.by_compose.result c.args.arena.now _ _ (λ t fits m. compose_to tree h old t fits c.in-Compose.p c.in-Compose.q fine m) (λ t fits x. compose_from tree h old t fits c.in-Compose.p c.in-Compose.q x) c.by_compose.ensures)

pub returns-in-Strengthen-clause-made : goal.returns-in-Strengthen-clause-made
returns-in-Strengthen-clause-made g c =
    let old = c.args.arena.now in
    let tree = group_tree c.args.g.now in
    let h = history_from 0 old c.args.held.now.entries c.args.closed.now in
    let fine = subst (λ (s : Short). IsFineShort old (short_or_own tree.code c.args.all s)) c.in-Strengthen.is c.requires.line in
    subst (λ (s : Short). IfOk c.by_strengthen.result (MadeIf c.args.arena.now (IsStatedBy tree h old (short_or_own tree.code c.args.all s)))) (sym c.in-Strengthen.is)
    (made_ok c.by_strengthen.result c.args.arena.now _ _ (λ t fits m. strengthen_to tree h old t fits c.in-Strengthen.p c.in-Strengthen.facts c.in-Strengthen.pre fine.0 m) (λ t fits x. strengthen_from tree h old t fits c.in-Strengthen.p c.in-Strengthen.facts c.in-Strengthen.pre x) c.by_strengthen.ensures.made)

pub returns-in-Weaken-clause-made : goal.returns-in-Weaken-clause-made
returns-in-Weaken-clause-made g c =
    let old = c.args.arena.now in
    let tree = group_tree c.args.g.now in
    let h = history_from 0 old c.args.held.now.entries c.args.closed.now in
    let fine = subst (λ (s : Short). IsFineShort old (short_or_own tree.code c.args.all s)) c.in-Weaken.is c.requires.line in
    subst (λ (s : Short). IfOk c.by_weaken.result (MadeIf c.args.arena.now (IsStatedBy tree h old (short_or_own tree.code c.args.all s)))) (sym c.in-Weaken.is)
    (made_ok c.by_weaken.result c.args.arena.now _ _ (λ t fits m. weaken_to tree h old t fits c.in-Weaken.p c.in-Weaken.facts c.in-Weaken.post fine.0 m) (λ t fits x. weaken_from tree h old t fits c.in-Weaken.p c.in-Weaken.facts c.in-Weaken.post x) c.by_weaken.ensures.made)

pub returns-in-Discharge-clause-made : goal.returns-in-Discharge-clause-made
returns-in-Discharge-clause-made g c =
    let old = c.args.arena.now in
    let tree = group_tree c.args.g.now in
    let h = history_from 0 old c.args.held.now.entries c.args.closed.now in
    let fine = subst (λ (s : Short). IsFineShort old (short_or_own tree.code c.args.all s)) c.in-Discharge.is c.requires.line in
    subst (λ (s : Short). IfOk c.by_discharge.result (MadeIf c.args.arena.now (IsStatedBy tree h old (short_or_own tree.code c.args.all s)))) (sym c.in-Discharge.is)
    (made_ok c.by_discharge.result c.args.arena.now _ _ (λ t fits m. discharge_to tree h old t fits c.in-Discharge.p c.in-Discharge.facts fine.0 m) (λ t fits x. discharge_from tree h old t fits c.in-Discharge.p c.in-Discharge.facts x) c.by_discharge.ensures.made)

pub returns-in-Axiom-clause-steps : goal.returns-in-Axiom-clause-steps
returns-in-Axiom-clause-steps g c = λ e. absurd (true≢false (sym e ∙ ap is_copied c.in-Axiom.is))

pub returns-in-Inst-clause-steps : goal.returns-in-Inst-clause-steps
returns-in-Inst-clause-steps g c = λ e. absurd (true≢false (sym e ∙ ap is_copied c.in-Inst.is))

pub returns-in-UseExit-clause-steps : goal.returns-in-UseExit-clause-steps
returns-in-UseExit-clause-steps g c = λ e. absurd (true≢false (sym e ∙ ap is_copied c.in-UseExit.is))

pub returns-in-Frame-clause-steps : goal.returns-in-Frame-clause-steps
returns-in-Frame-clause-steps g c = λ e. refl

pub returns-in-ExtendCode-clause-steps : goal.returns-in-ExtendCode-clause-steps
returns-in-ExtendCode-clause-steps g c = λ e. refl

pub returns-in-Compose-clause-steps : goal.returns-in-Compose-clause-steps
returns-in-Compose-clause-steps g c = λ e. refl

pub returns-in-Strengthen-clause-steps : goal.returns-in-Strengthen-clause-steps
returns-in-Strengthen-clause-steps g c = λ e. absurd (true≢false (sym e ∙ ap is_copied c.in-Strengthen.is))

pub returns-in-Weaken-clause-steps : goal.returns-in-Weaken-clause-steps
returns-in-Weaken-clause-steps g c = λ e. absurd (true≢false (sym e ∙ ap is_copied c.in-Weaken.is))

pub returns-in-Discharge-clause-steps : goal.returns-in-Discharge-clause-steps
returns-in-Discharge-clause-steps g c = λ e. absurd (true≢false (sym e ∙ ap is_copied c.in-Discharge.is))

pub returns-in-Loop-clause-steps : goal.returns-in-Loop-clause-steps
returns-in-Loop-clause-steps g c = λ e. absurd (true≢false (sym e ∙ ap is_copied c.in-Loop.is))

pub returns-in-Forget-clause-steps : goal.returns-in-Forget-clause-steps
returns-in-Forget-clause-steps g c = λ e. refl

pub returns-in-Axiom-clause-most : goal.returns-in-Axiom-clause-most
returns-in-Axiom-clause-most g c = λ ts has. c.axiom.ensures.steps ts (subst (λ (s : Short). HasShort (group_tree c.args.g.now) (theorem_at c.args.arena.now c.args.held.now.entries) c.args.arena.now s ts) c.in-Axiom.is has)

pub returns-in-Inst-clause-most : goal.returns-in-Inst-clause-most
returns-in-Inst-clause-most g c = λ ts has.
    let le = c.by_inst.ensures.steps ts (subst (λ (s : Short). HasShort (group_tree c.args.g.now) (theorem_at c.args.arena.now c.args.held.now.entries) c.args.arena.now s ts) c.in-Inst.is has) in
    let enough = terms_within (length ts) in
    omega (arith, le, enough)

pub returns-in-UseExit-clause-most : goal.returns-in-UseExit-clause-most
returns-in-UseExit-clause-most g c = λ ts has.
    let le = c.by_use_exit.ensures.steps ts (subst (λ (s : Short). HasShort (group_tree c.args.g.now) (theorem_at c.args.arena.now c.args.held.now.entries) c.args.arena.now s ts) c.in-UseExit.is has) in
    let enough = fours_within (length ts) in
    omega (arith, le, enough)

pub returns-in-Frame-clause-most : goal.returns-in-Frame-clause-most
returns-in-Frame-clause-most g c = λ ts has. omega arith

pub returns-in-ExtendCode-clause-most : goal.returns-in-ExtendCode-clause-most
returns-in-ExtendCode-clause-most g c = λ ts has. omega arith

pub returns-in-Compose-clause-most : goal.returns-in-Compose-clause-most
returns-in-Compose-clause-most g c = λ ts has. omega arith

pub returns-in-Strengthen-clause-most : goal.returns-in-Strengthen-clause-most
returns-in-Strengthen-clause-most g c = λ ts has.
    let h = subst (λ (s : Short). HasShort (group_tree c.args.g.now) (theorem_at c.args.arena.now c.args.held.now.entries) c.args.arena.now s ts) c.in-Strengthen.is has in
    let le = c.by_strengthen.ensures.steps ts h.0 h.1 in
    let enough = pairs_within (length ts) in
    omega (arith, le, enough)

pub returns-in-Weaken-clause-most : goal.returns-in-Weaken-clause-most
returns-in-Weaken-clause-most g c = λ ts has.
    let h = subst (λ (s : Short). HasShort (group_tree c.args.g.now) (theorem_at c.args.arena.now c.args.held.now.entries) c.args.arena.now s ts) c.in-Weaken.is has in
    let le = c.by_weaken.ensures.steps ts h.0 h.1 in
    let enough = pairs_within (length ts) in
    omega (arith, le, enough)

pub returns-in-Discharge-clause-most : goal.returns-in-Discharge-clause-most
returns-in-Discharge-clause-most g c = λ ts has.
    let h = subst (λ (s : Short). HasShort (group_tree c.args.g.now) (theorem_at c.args.arena.now c.args.held.now.entries) c.args.arena.now s ts) c.in-Discharge.is has in
    let le = c.by_discharge.ensures.steps ts h.0 h.1 in
    let enough = searches_within (length ts) in
    omega (arith, le, enough)

pub returns-in-Loop-clause-most : goal.returns-in-Loop-clause-most
returns-in-Loop-clause-most g c = λ ts has. omega arith

pub returns-in-Forget-clause-most : goal.returns-in-Forget-clause-most
returns-in-Forget-clause-most g c = λ ts has. omega arith
