use Rattle.std.proofs.Common.{◌≡◌, ◌≤◌, [], ◌++◌, List, ℕ, true, Bool, refl, sym, subst, inl}
use Rattle.mc_shelf.specs.Lines.{up_to_newline, IsEnded}
use Rattle.mc_shelf.specs.inner.Ahead.{HasLine, IsOpen, Takes}
use Rattle.mc_shelf.proofs.LineLemmas.{line_alone}
use Rattle.mc_shelf.proofs.AheadLemmas.{takes_then, takes_line, open_more, ended_more, ended_alone, ended_some, fewer_then}
use Rattle.mc_shelf.proofs.OnlyReadsLemmas.{reads_then, reads_so}
use Rattle.mc_shelf.proofs.ahead.Ahead.next_line.Goals as goal

ended-line : (flag : Bool) (line waiting new : List ℕ) → flag ≡ true → HasLine flag waiting → IsOpen line → new ≡ line ++ up_to_newline waiting → IsEnded new
ended-line flag line waiting new is ends goes_on e =
    subst IsEnded (sym e) (ended_more line waiting goes_on (subst (λ (b : Bool). HasLine b waiting) is ends))

pub returns-then-branch-clause-none : goal.returns-then-branch-clause-none
returns-then-branch-clause-none g c =
    let ended : IsEnded c.take_line.new.line =
    ended-line c.in_ok-take_line.field-0 c.loop-self.line c.fill.new.self.waiting c.take_line.new.line c.if-branch.true c.in_ok-take_line.ensures.ends c.loop-self.invariant.is_open c.in_ok-take_line.ensures.line in
    λ none. absurd (ended_some c.take_line.new.line ended none)

pub returns-then-branch-clause-alone : goal.returns-then-branch-clause-alone
returns-then-branch-clause-alone g c =
    ended_alone c.take_line.new.line
    (ended-line c.in_ok-take_line.field-0 c.loop-self.line c.fill.new.self.waiting c.take_line.new.line c.if-branch.true c.in_ok-take_line.ensures.ends c.loop-self.invariant.is_open c.in_ok-take_line.ensures.line)

pub returns-then-branch-clause-ends : goal.returns-then-branch-clause-ends
returns-then-branch-clause-ends g c =
    inl (ended-line c.in_ok-take_line.field-0 c.loop-self.line c.fill.new.self.waiting c.take_line.new.line c.if-branch.true c.in_ok-take_line.ensures.ends c.loop-self.invariant.is_open c.in_ok-take_line.ensures.line)

pub loop-self-smaller : goal.loop-self-smaller
loop-self-smaller g c =
    let goes_on : IsOpen c.fill.new.self.waiting = subst (λ (b : Bool). HasLine b c.fill.new.self.waiting) c.if-branch.false c.in_ok-take_line.ensures.ends in
    fewer_then c.args.size c.loop-self.self c.fill.new.self c.take_line.new.self c.in_ok-fill.ensures.fewer c.in_ok-take_line.ensures.rest goes_on c.take_line.ensures.place c.take_line.ensures.ended

pub loop-self-preserved : goal.loop-self-preserved
loop-self-preserved g c =
    let told = g.S.Shelf.contents c.args.shelf.now in
    let name = c.args.name.now in
    let before = c.loop-self in
    let w = c.fill.new.self.waiting in
    let goes_on : IsOpen w = subst (λ (b : Bool). HasLine b w) c.if-branch.false c.in_ok-take_line.ensures.ends in
    let here = g.S.Shelf.contents before.shelf in
    let place : c.fill.new.self.place ≤ c.args.size = c.in_ok-fill.ensures.takes.within in
    let taken = takes_line c.args.size here name c.fill.new.self c.take_line.new.self c.in_ok-take_line.ensures.rest c.take_line.ensures.place c.take_line.ensures.ended place in
    let round = takes_then c.args.size [] (up_to_newline w) here here name before.self c.fill.new.self c.take_line.new.self refl c.in_ok-fill.ensures.takes taken in
    let all = takes_then c.args.size before.line (up_to_newline w) told here name c.args.self.now before.self c.take_line.new.self before.invariant.shelf.kept before.invariant.takes round in
    record {
      is_open = subst IsOpen (sym c.in_ok-take_line.ensures.line) (open_more before.line w before.invariant.is_open goes_on);
      takes = subst (λ (line : List ℕ). Takes c.args.size line told name c.args.self.now c.take_line.new.self) (sym c.in_ok-take_line.ensures.line) all;
      shelf = reads_then before.invariant.shelf (reads_so (λ failing. absurd failing) c.fill.ensures.shelf);
    }

pub returns-clause-alone : goal.returns-clause-alone
returns-clause-alone g c = line_alone c.loop-self.line c.loop-self.invariant.is_open
