use Rattle.std.proofs.Common.{◌≡◌, IfSome, is_none}
use Rattle.tailrec_lang.specs.Tree.{group_tree}
use Rattle.proof_text.specs.Sources.{BadGroupAt, EndsText, told_progress}
use Rattle.proof_text.proofs.PullAnswers.{err_bad_so}
use Rattle.proof_text.proofs.SourceAnswers.{gives_group, held_told, ok_given, ok_none, ok_some, pulls_so}
use Rattle.proof_text.proofs.proof_source.PullProofSource.next_group.Goals as goal

pub returns-clause-given : goal.returns-clause-given
returns-clause-given g c =
    let p = c.next_group.ensures.pulls in
    ok_some c.next_group.result _ _ _
    (λ x given shorter. gives_group (g.S.Shelf.contents c.args.from.now) (g.S.Shelf.contents c.next_group.new.shelf) c.args.self.now c.next_group.new.self p.shelf.kept p.name p.version p.size g.W.ReadLines.readers.grammar (group_tree x) given shorter)
    c.next_group.ensures.given c.next_group.ensures.shorter

pub returns-clause-end : goal.returns-clause-end
returns-clause-end g c = ok_none c.next_group.result _ _ (λ ends. held_told c.args.self.now (g.S.Shelf.contents c.args.from.now) (EndsText g.W.ReadLines.readers.grammar) (ends c.requires.going.1)) c.next_group.ensures.end

pub returns-clause-bad : goal.returns-clause-bad
returns-clause-bad g c =
    err_bad_so c.next_group.result _ (λ n. IfSome (told_progress (g.S.Shelf.contents c.args.from.now) c.args.self.now) (BadGroupAt g.W.ReadLines.readers.grammar n))
    (λ n bad. held_told c.args.self.now (g.S.Shelf.contents c.args.from.now) (BadGroupAt g.W.ReadLines.readers.grammar n) (bad c.requires.going.0)) c.next_group.ensures.bad

pub returns-clause-goes : goal.returns-clause-goes
returns-clause-goes g c = ok_given c.next_group.result _ (λ found. c.next_group.new.self.ended ≡ is_none found) _ (λ x going open_. (going, open_)) c.next_group.ensures.pulls.goes_on c.next_group.ensures.ended

pub returns-clause-fewer : goal.returns-clause-fewer
returns-clause-fewer g c = c.next_group.ensures.pulls.fewer

pub returns-clause-version : goal.returns-clause-version
returns-clause-version g c = c.next_group.ensures.pulls.version

pub returns-clause-lends : goal.returns-clause-lends
returns-clause-lends g c =
    pulls_so g.S.Shelf.contents g.S.Shelf.read_faults g.S.Shelf.write_faults g.S.Shelf.IsSure c.next_group.result c.args.self.now c.args.from.now c.next_group.new.self c.next_group.new.shelf c.requires.going.0 c.next_group.ensures.pulls
