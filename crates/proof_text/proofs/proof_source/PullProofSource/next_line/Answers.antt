use Rattle.std.proofs.Common.{◌≡◌, false, None, IfSome, ◌∙◌}
use Rattle.tailrec_lang.specs.Tree.{group_tree}
use Rattle.proof_text.specs.Sources.{BadLineAt, told_progress}
use Rattle.proof_text.proofs.PullAnswers.{err_bad_so, ok_so}
use Rattle.proof_text.proofs.SourceAnswers.{ends_lines, gives_line, held_told, ok_none, ok_some, pulls_so}
use Rattle.proof_text.proofs.proof_source.PullProofSource.next_line.Goals as goal

pub returns-clause-given : goal.returns-clause-given
returns-clause-given g c =
    λ ls kept are.
    let p = c.next_line.ensures.pulls in
    ok_some c.next_line.result _ _ _
    (λ x given shorter. gives_line (g.S.Shelf.contents c.args.from.now) (g.S.Shelf.contents c.next_line.new.shelf) c.args.self.now c.next_line.new.self p.shelf.kept p.name p.version p.size g.W.ReadLines.readers.grammar (group_tree c.args.group.now) ls (g.W.ReadLines.tree c.args.group.now.code.ranges x) given shorter)
    (c.next_line.ensures.given ls kept are) c.next_line.ensures.shorter

pub returns-clause-end : goal.returns-clause-end
returns-clause-end g c =
    let p = c.next_line.ensures.pulls in
    ok_none c.next_line.result _ _
    (λ ends. ends_lines (g.S.Shelf.contents c.args.from.now) (g.S.Shelf.contents c.next_line.new.shelf) c.args.self.now c.next_line.new.self p.shelf.kept p.name p.version p.size (ends c.requires.going.1)) c.next_line.ensures.end

pub returns-clause-bad : goal.returns-clause-bad
returns-clause-bad g c =
    λ ls kept are.
    err_bad_so c.next_line.result _ (λ n. IfSome (told_progress (g.S.Shelf.contents c.args.from.now) c.args.self.now) (BadLineAt g.W.ReadLines.readers.grammar (group_tree c.args.group.now) ls n))
    (λ n bad. held_told c.args.self.now (g.S.Shelf.contents c.args.from.now) (BadLineAt g.W.ReadLines.readers.grammar (group_tree c.args.group.now) ls n) (bad c.requires.going.0)) (c.next_line.ensures.bad ls kept are)

pub returns-clause-goes : goal.returns-clause-goes
returns-clause-goes g c = ok_so c.next_line.result _ (λ _. (c.next_line.new.self.refused ≡ None) × (c.next_line.new.self.ended ≡ false)) (λ _ going. (going, c.next_line.ensures.ended ∙ c.requires.going.1)) c.next_line.ensures.pulls.goes_on

pub returns-clause-left : goal.returns-clause-left
returns-clause-left g c = c.next_line.ensures.pulls.left

pub returns-clause-fewer : goal.returns-clause-fewer
returns-clause-fewer g c = c.next_line.ensures.pulls.fewer

pub returns-clause-version : goal.returns-clause-version
returns-clause-version g c = c.next_line.ensures.pulls.version

pub returns-clause-lends : goal.returns-clause-lends
returns-clause-lends g c =
    pulls_so g.S.Shelf.contents g.S.Shelf.read_faults g.S.Shelf.write_faults g.S.Shelf.IsSure c.next_line.result c.args.self.now c.args.from.now c.next_line.new.self c.next_line.new.shelf c.requires.going.0 c.next_line.ensures.pulls
