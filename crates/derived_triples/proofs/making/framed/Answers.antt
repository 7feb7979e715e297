use Rattle.std.proofs.Common.{List, ℕ, sym, ap, subst}
use Rattle.std.specs.Prelude.{◌≡◌, All, false}
use Rattle.frame_compose.specs.Rules.{is_listed}
use Rattle.word_terms.specs.declared.code.Code.{Code}
use Rattle.derived_triples.proofs.Merging.{framed_made, never, none_framed_after, none_framed_before, own_numbers}
use Rattle.derived_triples.proofs.making.framed.Goals as goal

pub returns-then-any_listed : goal.returns-then-any_listed
returns-then-any_listed c =
    let regs = c.args.regs.now in
    none_framed_before c.args.arena.now c.args.p.now c.requires.p regs c.args.mems.now
    (λ all. never c.if-any_listed.true (c.any_listed.ensures.1 (subst (λ (own : List (ℕ × ℕ)). All (λ r. is_listed own r.0 ≡ false) regs) (sym c.as_slice.ensures) all)))

pub returns-then-any_listed-2 : goal.returns-then-any_listed-2
returns-then-any_listed-2 c =
    let regs = c.args.regs.now in
    none_framed_after c.args.arena.now c.args.p.now c.requires.p regs c.args.mems.now
    (λ all. never c.if-any_listed-2.true (c.any_listed-2.ensures.1 (subst (λ (own : List (ℕ × ℕ)). All (λ r. is_listed own r.0 ≡ false) regs) (sym c.as_slice-2.ensures) all)))

pub with_further-requires-clause-own : goal.with_further-requires-clause-own
with_further-requires-clause-own c = own_numbers c.args.arena.now c.args.p.now.pre.regs c.requires.p.fits.pre.registers

pub with_further-requires-2-clause-own : goal.with_further-requires-2-clause-own
with_further-requires-2-clause-own c = own_numbers c.args.arena.now c.args.p.now.post.regs c.requires.p.fits.post.registers

pub returns : goal.returns
returns c =
    framed_made c.args.arena.now c.args.p.now c.requires.p c.args.regs.now c.args.mems.now (record { facts = c.in_ok-facts.facts; pre = c.in_ok-pre.pre; code = c.in_ok-code.code; post = c.in_ok-post.post })
    c.requires.regs c.requires.mems c.in_ok-facts.ensures
    (record { pc = c.in_ok-pre.ensures.pc; registers = c.in_ok-pre.ensures.regs; rise = c.in_ok-pre.ensures.rise; memories = c.in_ok-pre.ensures.mems }) (ap (λ (code : Code). code.ranges) c.in_ok-code.ensures)
    (record { pc = c.in_ok-post.ensures.pc; registers = c.in_ok-post.ensures.regs; rise = c.in_ok-post.ensures.rise; memories = c.in_ok-post.ensures.mems })
