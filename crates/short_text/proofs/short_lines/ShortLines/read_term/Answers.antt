use Rattle.short_text.proofs.KeptLaws.{kept-term}
use Rattle.short_text.proofs.short_lines.ShortLines.read_term.Goals as goal

pub returns-clause-behind : goal.returns-clause-behind
returns-clause-behind c = λ before kept. kept-term c.args.self.now c.self.inside.table c.self.inside.begun c.self.view_is before kept c.read_term_row.new.table c.in_ok-node.node c.in_ok-node.ensures.longer
