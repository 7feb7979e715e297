use Rattle.mc_shelf.specs.inner.Ahead.{Takes, IsOpen, to_go}
use Rattle.mc_shelf.specs.inner.OnlyReads.{OnlyReads}
use Rattle.mc_shelf.proofs.ahead.Ahead.next_line.Given as goal

-- the bytes so far were taken, and their line goes on
abbrev pub invariant-loop-self : goal.invariant-loop-self
invariant-loop-self g l =
    let s = g.S.Shelf in
    record {
      is_open : IsOpen l.line;
      takes : Takes l.size l.line (s.contents l.fn.shelf) l.fn.name l.fn.self l.self;
      shelf : OnlyReads s.contents s.read_faults s.write_faults s.IsSure ⊥ l.fn.name l.fn.shelf l.shelf;
    }

abbrev pub decreases-loop-self : goal.decreases-loop-self
decreases-loop-self g l = to_go l.size l.self
