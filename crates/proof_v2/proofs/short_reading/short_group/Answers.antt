use Rattle.std.proofs.Common.{◌≡◌, Option, Ok, List, ◌++◌, ◌∷◌, [], subst}
use Rattle.tailrec_lang.specs.declared.group.Group.{Group}
use Rattle.tailrec_lang.specs.Tree.{group_tree}
use Rattle.group_text.specs.Version.{version_2, version_of}
use Rattle.proof_text.specs.Answers.{OnEnd, OnGiven}
use Rattle.proof_text.specs.FirstProofs.{HasGivenOver}
use Rattle.proof_text.specs.LineGrammar.{text_over}
use Rattle.proof_text.specs.Proofs.{bare}
use Rattle.short_text.specs.ShortProofs.{ShortProof, short_lines}
use Rattle.short_text.specs.inner.ShortReaders.{AreKept}
use Rattle.proof_v2.proofs.AnyGiven.{short-ends, short-group-bad, short-group-given}
use Rattle.proof_v2.proofs.short_reading.short_group.Goals as goal

pub next_group-requires : goal.next_group-requires
next_group-requires c = c.law_of_short_lines.ensures.read (version_of c.args.reader.now.version)

pub returns-in-Ok-Some-clause-open : goal.returns-in-Ok-Some-clause-open
returns-in-Ok-Some-clause-open c =
    ([], subst (λ (o : Option Group). OnGiven (Ok o) (λ g. AreKept c.next_group.new.kept [])) c.in-Ok-Some.field-0-is c.in-Ok-Some.ensures.behind, (c.law_of_short_lines.ensures.read version_2).none)

pub returns-in-Ok-Some-clause-given : goal.returns-in-Ok-Some-clause-given
returns-in-Ok-Some-clause-given c =
    short-group-given c.args.reader.now c.requires.version c.args.lines.now c.next_group.new.self (c.in-Ok-Some.ensures.text, c.in-Ok-Some.ensures.version) c.next_group.new.kept (group_tree c.in-Ok-Some.group)
    (subst (λ (o : Option Group). OnGiven (Ok o) (λ g. (ps : List ShortProof) → HasGivenOver short_lines ps c.args.reader.now → HasGivenOver short_lines (ps ++ bare (group_tree g) ∷ []) c.next_group.new.self)) c.in-Ok-Some.field-0-is c.in-Ok-Some.ensures.given)
    (subst (λ (o : Option Group). OnGiven (Ok o) (λ g. AreKept c.next_group.new.kept [])) c.in-Ok-Some.field-0-is c.in-Ok-Some.ensures.behind)

pub returns-in-Ok-None-clause-end : goal.returns-in-Ok-None-clause-end
returns-in-Ok-None-clause-end c = short-ends c.args.reader.now c.requires.version c.args.lines.now
    (subst (λ (o : Option Group). OnEnd {X = Group} (Ok o) ((ps : List ShortProof) → HasGivenOver short_lines ps c.args.reader.now → c.args.reader.now.text ≡ text_over short_lines (version_of c.args.reader.now.version) ps)) c.in-Ok-None.field-0-is c.in-Ok-None.ensures.end)

pub returns-in-Err-clause-bad : goal.returns-in-Err-clause-bad
returns-in-Err-clause-bad c =
    short-group-bad c.args.reader.now c.requires.version c.args.lines.now c.in-Err.fault c.in-Err.ensures.bad c.in-Err.ensures.no_item
