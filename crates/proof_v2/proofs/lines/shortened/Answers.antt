use Rattle.std.proofs.Common.{ℕ, List, ap, sym, subst, refl, ◌∙◌}
use Rattle.std.specs.Prelude.{IfOk}
use Rattle.std.proofs.lemmas.Result.{IfOk-weaker}
use Rattle.proof_text.specs.declared.line.Line.{Line}
use Rattle.proof_text.specs.Line.{Loop, line_or_own, line_tree, rule_tree}
use Rattle.proof_text.specs.LineLimits.{IsLine}
use Rattle.verdicts.specs.Instance.{History, Instance}
use Rattle.short_text.specs.declared.short.Short.{Short}
use Rattle.short_text.specs.declared.short.Short.TheVariants as short
use Rattle.proof_v2.specs.Preconditions.{ArePreconditions}
use Rattle.proof_v2.specs.inner.Shortening.{AreLineTermsPut, IsShortFor}
use Rattle.proof_v2.proofs.Keeping.{cited-kept}
use Rattle.proof_v2.proofs.ShortOf.{short_forget, short_loop}
use Rattle.proof_v2.proofs.lines.shortened.Goals as goal

pub returns-in-States-clause-line : goal.returns-in-States-clause-line
returns-in-States-clause-line g c =
    subst (λ (l : Line). IfOk c.short_rule.result (λ s. (h : History) → ArePreconditions c.args.kept.now h → IsShortFor h c.short_rule.new.arena c.args.line.now.all s (line_tree l))) (sym c.in-States.is)
    (IfOk-weaker c.short_rule.result _ _ (λ s x h keeps. x h c.args.line.now.all keeps) c.short_rule.ensures.line)

pub returns-in-States-clause-order : goal.returns-in-States-clause-order
returns-in-States-clause-order g c =
    subst (λ (l : Line). IfOk c.short_rule.result (λ _. AreLineTermsPut c.args.kept.now c.args.arena.now (line_tree l) c.short_rule.new.arena)) (sym c.in-States.is) c.short_rule.ensures.order

pub short_rule-requires : goal.short_rule-requires
short_rule-requires g c =
    let may = c.requires.2 in
    let all = c.args.line.now.all in
    cited-kept c.args.kept.now c.requires.0 c.requires.1 (rule_tree c.in-States.rule) _ may.keeps
    (subst (λ (l : Line). Instance c.requires.0 c.requires.1 (line_or_own c.requires.0.code all (line_tree l))) c.in-States.is may.right)

pub returns-in-Loop-clause-line : goal.returns-in-Loop-clause-line
returns-in-Loop-clause-line g c =
    let start = c.args.arena.now in
    let all = c.args.line.now.all in
    let d = c.in-Loop.def in
    subst (λ (l : Line). IfOk c.short_loop.result (λ s. (h : History) → ArePreconditions c.args.kept.now h → IsShortFor h start all s (line_tree l))) (sym c.in-Loop.is)
    (IfOk-weaker c.short_loop.result _ _
    (λ s e. subst (λ (x : Short). (h : History) → ArePreconditions c.args.kept.now h → IsShortFor h start all x (Loop d c.in-Loop.cited)) (sym (e ∙ ap (λ (ks : List ℕ). short.Loop d ks) c.as_slice.ensures))
    (λ h keeps own fits. short_loop h start d c.in-Loop.cited fits))
    c.short_loop.ensures)

pub returns-in-Loop-clause-order : goal.returns-in-Loop-clause-order
returns-in-Loop-clause-order g c =
    let start = c.args.arena.now in
    subst (λ (l : Line). IfOk c.short_loop.result (λ _. AreLineTermsPut c.args.kept.now start (line_tree l) start)) (sym c.in-Loop.is) (IfOk-weaker c.short_loop.result _ _ (λ s e h keeps. refl) c.short_loop.ensures)

pub returns-in-Forget-clause-line : goal.returns-in-Forget-clause-line
returns-in-Forget-clause-line g c =
    let start = c.args.arena.now in
    subst (λ (l : Line). (h : History) → ArePreconditions c.args.kept.now h → IsShortFor h start c.args.line.now.all (short.Forget c.in-Forget.k) (line_tree l)) (sym c.in-Forget.is) (λ h keeps own fits. short_forget h start c.in-Forget.k fits)

pub returns-in-Forget-clause-order : goal.returns-in-Forget-clause-order
returns-in-Forget-clause-order g c =
    let start = c.args.arena.now in
    subst (λ (l : Line). AreLineTermsPut c.args.kept.now start (line_tree l) start) (sym c.in-Forget.is) (λ h keeps. refl)

pub unreachable-requires : goal.unreachable-requires
unreachable-requires g c =
    let fits = subst (λ (l : Line). IsLine (line_or_own c.requires.0.code c.args.line.now.all (line_tree l))) c.in-Further.is c.requires.2.fits in
    let none = fits.0 in
    absurd (cc)
