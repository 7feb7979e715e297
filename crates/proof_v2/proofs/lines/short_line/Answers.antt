use Rattle.std.proofs.Common.{List, subst, sym}
use Rattle.term_arena.specs.Arena.{Tree}
use Rattle.proof_text.specs.Line.{line_tree, spelled_tree}
use Rattle.short_text.specs.SpelledShort.{short_or_own}
use Rattle.held_terms.specs.Terms.{AreTermsPutIn}
use Rattle.proof_v2.proofs.ShortOf.{line_own, right_for}
use Rattle.proof_v2.proofs.lines.short_line.Goals as goal

pub returns-clause-right : goal.returns-clause-right
returns-clause-right g c group h may =
    let line = c.args.line.now in
    right_for h c.shortened.new.arena group (short_or_own group.code line.all c.in_ok-short.short) (spelled_tree group.code line) may.fits may.right (c.in_ok-short.ensures.line h may.keeps group.code may.fits)

pub returns-clause-fine : goal.returns-clause-fine
returns-clause-fine g c group h may = (c.in_ok-short.ensures.line h may.keeps group.code may.fits).fine

pub returns-clause-order : goal.returns-clause-order
returns-clause-order g c group h may =
    let line = c.args.line.now in
    subst (λ (ts : List Tree). AreTermsPutIn c.args.arena.now ts c.shortened.new.arena) (sym (line_own group.code line.all h (line_tree line.line))) (c.in_ok-short.ensures.order h may.keeps)
