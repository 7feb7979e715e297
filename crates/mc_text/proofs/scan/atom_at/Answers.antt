use Rattle.mc_text.proofs.AtomAhead.{take-pass}
use Rattle.mc_text.proofs.Atoms.{atom_lex}
use Rattle.mc_text.proofs.scan.atom_at.Goals as goal

pub returns-clause-atom : goal.returns-clause-atom
returns-clause-atom c = rw (c.split_at.ensures.front, c.split_at.ensures.back) (atom_lex c.args.bytes.now c.atom_len.result c.atom_len.ensures.within c.atom_len.ensures.before c.atom_len.ensures.end)

pub returns-clause-fits : goal.returns-clause-fits
returns-clause-fits c = rw (c.split_at.ensures.front) (take-pass c.args.bytes.now c.atom_len.result c.atom_len.ensures.within c.atom_len.ensures.before)
