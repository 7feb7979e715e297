use Rattle.std.proofs.Common.{rules, ◌≡◌, ℕ, List, Ok, Err, sym, ap, subst, ◌∙◌}
use Rattle.mc_text.specs.Outcome.{Gives}
use Rattle.mc_text.specs.Scanning.{tokens_at}
use Rattle.group_text.specs.Version.{version_of}
use Rattle.group_text.specs.inner.Reading.{mark_row}
use Rattle.group_text.proofs.heads.read_title.Goals as goal

pub returns-in_err-read_mark-clause-gives : goal.returns-in_err-read_mark-clause-gives
returns-in_err-read_mark-clause-gives c =
    let marked = subst (λ (w : List ℕ). Gives {X = Unit {0}} (λ _. (tt, tt)) (Err c.in_err-read_mark.field-0.0) c.keyword.new.scan c.read_mark.new.scan (mark_row w)) c.title.ensures c.in_err-read_mark.ensures.gives in
    search (rules, marked)

pub returns-clause-gives : goal.returns-clause-gives
returns-clause-gives c =
    let marked : mark_row (version_of c.args.version).title (tokens_at c.keyword.new.scan) ≡ Ok ((tt, tt), tokens_at c.read_mark.new.scan) =
    ap (λ (w : List ℕ). mark_row w (tokens_at c.keyword.new.scan)) (sym c.title.ensures) ∙ c.in_ok-read_mark.ensures.gives in
    search (rules, marked)
