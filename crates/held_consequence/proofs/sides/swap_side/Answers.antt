use Rattle.held_terms.specs.Subterms.{HasSides}
use Rattle.held_consequence.specs.inner.Table.{HasBoth}
use Rattle.held_consequence.specs.inner.SideTables.{HasBothRegisters, HasBothMems}
use Rattle.held_consequence.proofs.TableLemmas.{went_under, went_both}
use Rattle.held_consequence.proofs.SideLemmas.{went_at}
use Rattle.held_consequence.proofs.sides.swap_side.Goals as goal

pub returns-in_err-pc-clause-went : goal.returns-in_err-pc-clause-went
returns-in_err-pc-clause-went g c = went_under c.args.arena.now (HasSides c.args.arena.now c.args.a.now c.args.b.now) (HasBoth c.args.arena.now c.args.a.now.pc c.args.b.now.pc) c.args.known.now c.swap_words.new.known c.args.steps.now c.swap_words.new.steps (λ ts h. (h.0.pc, h.1.pc)) c.swap_words.ensures.went

pub returns-then-not-pc-clause-went : goal.returns-then-not-pc-clause-went
returns-then-not-pc-clause-went g c = went_under c.args.arena.now (HasSides c.args.arena.now c.args.a.now c.args.b.now) (HasBoth c.args.arena.now c.args.a.now.pc c.args.b.now.pc) c.args.known.now c.swap_words.new.known c.args.steps.now c.swap_words.new.steps (λ ts h. (h.0.pc, h.1.pc)) c.swap_words.ensures.went

pub returns-in_err-regs-clause-went : goal.returns-in_err-regs-clause-went
returns-in_err-regs-clause-went g c = went_both c.args.arena.now (HasSides c.args.arena.now c.args.a.now c.args.b.now) c.args.known.now c.swap_words.new.known c.swap_registers.new.known c.args.steps.now c.swap_words.new.steps c.swap_registers.new.steps (went_under c.args.arena.now (HasSides c.args.arena.now c.args.a.now c.args.b.now) (HasBoth c.args.arena.now c.args.a.now.pc c.args.b.now.pc) c.args.known.now c.swap_words.new.known c.args.steps.now c.swap_words.new.steps (λ ts h. (h.0.pc, h.1.pc)) c.swap_words.ensures.went) (went_under c.args.arena.now (HasSides c.args.arena.now c.args.a.now c.args.b.now) (HasBothRegisters c.args.arena.now c.args.a.now.regs c.args.b.now.regs) c.swap_words.new.known c.swap_registers.new.known c.swap_words.new.steps c.swap_registers.new.steps (λ ts h. (h.0.regs, h.1.regs)) (went_at c.args.arena.now (HasBothRegisters c.args.arena.now) c.as_slice.ensures c.as_slice-2.ensures c.swap_registers.ensures.went))

pub returns-then-not-regs-clause-went : goal.returns-then-not-regs-clause-went
returns-then-not-regs-clause-went g c = went_both c.args.arena.now (HasSides c.args.arena.now c.args.a.now c.args.b.now) c.args.known.now c.swap_words.new.known c.swap_registers.new.known c.args.steps.now c.swap_words.new.steps c.swap_registers.new.steps (went_under c.args.arena.now (HasSides c.args.arena.now c.args.a.now c.args.b.now) (HasBoth c.args.arena.now c.args.a.now.pc c.args.b.now.pc) c.args.known.now c.swap_words.new.known c.args.steps.now c.swap_words.new.steps (λ ts h. (h.0.pc, h.1.pc)) c.swap_words.ensures.went) (went_under c.args.arena.now (HasSides c.args.arena.now c.args.a.now c.args.b.now) (HasBothRegisters c.args.arena.now c.args.a.now.regs c.args.b.now.regs) c.swap_words.new.known c.swap_registers.new.known c.swap_words.new.steps c.swap_registers.new.steps (λ ts h. (h.0.regs, h.1.regs)) (went_at c.args.arena.now (HasBothRegisters c.args.arena.now) c.as_slice.ensures c.as_slice-2.ensures c.swap_registers.ensures.went))

pub returns-in_err-mems-clause-went : goal.returns-in_err-mems-clause-went
returns-in_err-mems-clause-went g c = went_both c.args.arena.now (HasSides c.args.arena.now c.args.a.now c.args.b.now) c.args.known.now c.swap_registers.new.known c.swap_mems.new.known c.args.steps.now c.swap_registers.new.steps c.swap_mems.new.steps (went_both c.args.arena.now (HasSides c.args.arena.now c.args.a.now c.args.b.now) c.args.known.now c.swap_words.new.known c.swap_registers.new.known c.args.steps.now c.swap_words.new.steps c.swap_registers.new.steps (went_under c.args.arena.now (HasSides c.args.arena.now c.args.a.now c.args.b.now) (HasBoth c.args.arena.now c.args.a.now.pc c.args.b.now.pc) c.args.known.now c.swap_words.new.known c.args.steps.now c.swap_words.new.steps (λ ts h. (h.0.pc, h.1.pc)) c.swap_words.ensures.went) (went_under c.args.arena.now (HasSides c.args.arena.now c.args.a.now c.args.b.now) (HasBothRegisters c.args.arena.now c.args.a.now.regs c.args.b.now.regs) c.swap_words.new.known c.swap_registers.new.known c.swap_words.new.steps c.swap_registers.new.steps (λ ts h. (h.0.regs, h.1.regs)) (went_at c.args.arena.now (HasBothRegisters c.args.arena.now) c.as_slice.ensures c.as_slice-2.ensures c.swap_registers.ensures.went))) (went_under c.args.arena.now (HasSides c.args.arena.now c.args.a.now c.args.b.now) (HasBothMems c.args.arena.now c.args.a.now.mems c.args.b.now.mems) c.swap_registers.new.known c.swap_mems.new.known c.swap_registers.new.steps c.swap_mems.new.steps (λ ts h. (h.0.mems, h.1.mems)) (went_at c.args.arena.now (HasBothMems c.args.arena.now) c.as_slice-3.ensures c.as_slice-4.ensures c.swap_mems.ensures.went))

pub returns-clause-went : goal.returns-clause-went
returns-clause-went g c = went_both c.args.arena.now (HasSides c.args.arena.now c.args.a.now c.args.b.now) c.args.known.now c.swap_registers.new.known c.swap_mems.new.known c.args.steps.now c.swap_registers.new.steps c.swap_mems.new.steps (went_both c.args.arena.now (HasSides c.args.arena.now c.args.a.now c.args.b.now) c.args.known.now c.swap_words.new.known c.swap_registers.new.known c.args.steps.now c.swap_words.new.steps c.swap_registers.new.steps (went_under c.args.arena.now (HasSides c.args.arena.now c.args.a.now c.args.b.now) (HasBoth c.args.arena.now c.args.a.now.pc c.args.b.now.pc) c.args.known.now c.swap_words.new.known c.args.steps.now c.swap_words.new.steps (λ ts h. (h.0.pc, h.1.pc)) c.swap_words.ensures.went) (went_under c.args.arena.now (HasSides c.args.arena.now c.args.a.now c.args.b.now) (HasBothRegisters c.args.arena.now c.args.a.now.regs c.args.b.now.regs) c.swap_words.new.known c.swap_registers.new.known c.swap_words.new.steps c.swap_registers.new.steps (λ ts h. (h.0.regs, h.1.regs)) (went_at c.args.arena.now (HasBothRegisters c.args.arena.now) c.as_slice.ensures c.as_slice-2.ensures c.swap_registers.ensures.went))) (went_under c.args.arena.now (HasSides c.args.arena.now c.args.a.now c.args.b.now) (HasBothMems c.args.arena.now c.args.a.now.mems c.args.b.now.mems) c.swap_registers.new.known c.swap_mems.new.known c.swap_registers.new.steps c.swap_mems.new.steps (λ ts h. (h.0.mems, h.1.mems)) (went_at c.args.arena.now (HasBothMems c.args.arena.now) c.as_slice-3.ensures c.as_slice-4.ensures c.swap_mems.ensures.went))
