use Rattle.std.proofs.Common.{ap, refl, subst}
use Rattle.std.proofs.lemmas.Result.{IfOk-weaker}
use Rattle.triple_kernel.specs.Tree.{triple_tree}
use Rattle.proof_text.specs.Line.{Axiom, Compose, Discharge, ExtendCode, Frame, Inst, Strengthen, UseExit, Weaken, rule_tree, triple_or_own}
use Rattle.short_text.specs.declared.short.Short.TheVariants as short
use Rattle.proof_v2.specs.inner.Shortening.{IsPreKept}
use Rattle.proof_v2.proofs.ShortOf.{of_rule, put_rule, short_axiom, short_compose, short_exit}
use Rattle.proof_v2.proofs.lines.short_rule.Goals as goal

pub returns-in-Axiom-clause-line : goal.returns-in-Axiom-clause-line
returns-in-Axiom-clause-line g c =
    let start = c.args.arena.now in
    let t = triple_tree c.args.stated.now in
    of_rule c.args.kept.now t (rule_tree c.args.rule.now) (Axiom c.in-Axiom.address c.in-Axiom.word c.in-Axiom.form) (ap rule_tree c.in-Axiom.is) start (short.Axiom c.in-Axiom.address c.in-Axiom.word c.in-Axiom.form) (λ h all keeps own fits. short_axiom h start (triple_or_own own all t) c.in-Axiom.address c.in-Axiom.word c.in-Axiom.form fits)

pub returns-in-Axiom-clause-order : goal.returns-in-Axiom-clause-order
returns-in-Axiom-clause-order g c =
    put_rule c.args.kept.now (triple_tree c.args.stated.now) (rule_tree c.args.rule.now) (Axiom c.in-Axiom.address c.in-Axiom.word c.in-Axiom.form) (ap rule_tree c.in-Axiom.is) c.args.arena.now c.args.arena.now (λ h keeps. refl)

pub returns-in-Compose-clause-line : goal.returns-in-Compose-clause-line
returns-in-Compose-clause-line g c =
    let start = c.args.arena.now in
    let t = triple_tree c.args.stated.now in
    of_rule c.args.kept.now t (rule_tree c.args.rule.now) (Compose c.in-Compose.p c.in-Compose.q) (ap rule_tree c.in-Compose.is) start (short.Compose c.in-Compose.p c.in-Compose.q) (λ h all keeps own fits. short_compose h start (triple_or_own own all t) c.in-Compose.p c.in-Compose.q fits)

pub returns-in-Compose-clause-order : goal.returns-in-Compose-clause-order
returns-in-Compose-clause-order g c =
    put_rule c.args.kept.now (triple_tree c.args.stated.now) (rule_tree c.args.rule.now) (Compose c.in-Compose.p c.in-Compose.q) (ap rule_tree c.in-Compose.is) c.args.arena.now c.args.arena.now (λ h keeps. refl)

pub returns-in-UseExit-clause-line : goal.returns-in-UseExit-clause-line
returns-in-UseExit-clause-line g c =
    let start = c.args.arena.now in
    let t = triple_tree c.args.stated.now in
    of_rule c.args.kept.now t (rule_tree c.args.rule.now) (UseExit c.in-UseExit.def c.in-UseExit.exit) (ap rule_tree c.in-UseExit.is) start (short.UseExit c.in-UseExit.def c.in-UseExit.exit) (λ h all keeps own fits. short_exit h start (triple_or_own own all t) c.in-UseExit.def c.in-UseExit.exit fits)

pub returns-in-UseExit-clause-order : goal.returns-in-UseExit-clause-order
returns-in-UseExit-clause-order g c =
    put_rule c.args.kept.now (triple_tree c.args.stated.now) (rule_tree c.args.rule.now) (UseExit c.in-UseExit.def c.in-UseExit.exit) (ap rule_tree c.in-UseExit.is) c.args.arena.now c.args.arena.now (λ h keeps. refl)

pub returns-in-Inst-clause-line : goal.returns-in-Inst-clause-line
returns-in-Inst-clause-line g c =
    IfOk-weaker c.short_inst.result _ _ (λ s x. of_rule c.args.kept.now (triple_tree c.args.stated.now) (rule_tree c.args.rule.now) (Inst c.in-Inst.p _ _) (ap rule_tree c.in-Inst.is) c.short_inst.new.arena s (λ h all keeps. x h all (triple_tree c.args.stated.now))) c.short_inst.ensures.line

pub returns-in-Inst-clause-order : goal.returns-in-Inst-clause-order
returns-in-Inst-clause-order g c =
    IfOk-weaker c.short_inst.result _ _ (λ s x. put_rule c.args.kept.now (triple_tree c.args.stated.now) (rule_tree c.args.rule.now) (Inst c.in-Inst.p _ _) (ap rule_tree c.in-Inst.is) c.args.arena.now c.short_inst.new.arena (λ h keeps. x)) c.short_inst.ensures.order

pub returns-in-Strengthen-clause-line : goal.returns-in-Strengthen-clause-line
returns-in-Strengthen-clause-line g c =
    IfOk-weaker c.short_strengthened.result _ _ (λ s x. of_rule c.args.kept.now (triple_tree c.args.stated.now) (rule_tree c.args.rule.now) (Strengthen c.in-Strengthen.p) (ap rule_tree c.in-Strengthen.is) c.short_strengthened.new.arena s (λ h all keeps. x h all)) c.short_strengthened.ensures.line

pub returns-in-Strengthen-clause-order : goal.returns-in-Strengthen-clause-order
returns-in-Strengthen-clause-order g c =
    IfOk-weaker c.short_strengthened.result _ _ (λ s x. put_rule c.args.kept.now (triple_tree c.args.stated.now) (rule_tree c.args.rule.now) (Strengthen c.in-Strengthen.p) (ap rule_tree c.in-Strengthen.is) c.args.arena.now c.short_strengthened.new.arena (λ h keeps. x)) c.short_strengthened.ensures.order

pub returns-in-Weaken-clause-line : goal.returns-in-Weaken-clause-line
returns-in-Weaken-clause-line g c =
    IfOk-weaker c.short_weakened.result _ _ (λ s x. of_rule c.args.kept.now (triple_tree c.args.stated.now) (rule_tree c.args.rule.now) (Weaken c.in-Weaken.p) (ap rule_tree c.in-Weaken.is) c.short_weakened.new.arena s (λ h all keeps. x h all)) c.short_weakened.ensures.line

pub returns-in-Weaken-clause-order : goal.returns-in-Weaken-clause-order
returns-in-Weaken-clause-order g c =
    IfOk-weaker c.short_weakened.result _ _ (λ s x. put_rule c.args.kept.now (triple_tree c.args.stated.now) (rule_tree c.args.rule.now) (Weaken c.in-Weaken.p) (ap rule_tree c.in-Weaken.is) c.args.arena.now c.short_weakened.new.arena (λ h keeps. x)) c.short_weakened.ensures.order

pub returns-in-Discharge-clause-line : goal.returns-in-Discharge-clause-line
returns-in-Discharge-clause-line g c =
    IfOk-weaker c.short_discharged.result _ _ (λ s x. of_rule c.args.kept.now (triple_tree c.args.stated.now) (rule_tree c.args.rule.now) (Discharge c.in-Discharge.p) (ap rule_tree c.in-Discharge.is) c.short_discharged.new.arena s (λ h all keeps. x h all)) c.short_discharged.ensures.line

pub returns-in-Discharge-clause-order : goal.returns-in-Discharge-clause-order
returns-in-Discharge-clause-order g c =
    IfOk-weaker c.short_discharged.result _ _ (λ s x. put_rule c.args.kept.now (triple_tree c.args.stated.now) (rule_tree c.args.rule.now) (Discharge c.in-Discharge.p) (ap rule_tree c.in-Discharge.is) c.args.arena.now c.short_discharged.new.arena (λ h keeps. x)) c.short_discharged.ensures.order

pub returns-in-Frame-clause-line : goal.returns-in-Frame-clause-line
returns-in-Frame-clause-line g c =
    IfOk-weaker c.short_frame.result _ _ (λ s x. of_rule c.args.kept.now (triple_tree c.args.stated.now) (rule_tree c.args.rule.now) (Frame c.in-Frame.p) (ap rule_tree c.in-Frame.is) c.short_frame.new.arena s x) c.short_frame.ensures.line

pub returns-in-Frame-clause-order : goal.returns-in-Frame-clause-order
returns-in-Frame-clause-order g c =
    IfOk-weaker c.short_frame.result _ _ (λ s x. put_rule c.args.kept.now (triple_tree c.args.stated.now) (rule_tree c.args.rule.now) (Frame c.in-Frame.p) (ap rule_tree c.in-Frame.is) c.args.arena.now c.short_frame.new.arena x) c.short_frame.ensures.order

pub returns-in-ExtendCode-clause-line : goal.returns-in-ExtendCode-clause-line
returns-in-ExtendCode-clause-line g c =
    IfOk-weaker c.short_extension.result _ _ (λ s x. of_rule c.args.kept.now (triple_tree c.args.stated.now) (rule_tree c.args.rule.now) (ExtendCode c.in-ExtendCode.p) (ap rule_tree c.in-ExtendCode.is) c.args.arena.now s (λ h all keeps. x h c.args.arena.now all)) c.short_extension.ensures

pub returns-in-ExtendCode-clause-order : goal.returns-in-ExtendCode-clause-order
returns-in-ExtendCode-clause-order g c =
    IfOk-weaker c.short_extension.result _ _ (λ s x. put_rule c.args.kept.now (triple_tree c.args.stated.now) (rule_tree c.args.rule.now) (ExtendCode c.in-ExtendCode.p) (ap rule_tree c.in-ExtendCode.is) c.args.arena.now c.args.arena.now (λ h keeps. refl)) c.short_extension.ensures

pub short_frame-requires : goal.short_frame-requires
short_frame-requires g c = subst (IsPreKept c.args.kept.now) (ap rule_tree c.in-Frame.is) c.requires
