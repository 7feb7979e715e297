use Rattle.std.proofs.Common.{◌≡◌, ℕ, true, ◌+◌, ◌^◌, ◌<◌, ◌≤◌, ap, sym, ◌∙◌, subst, arith}
use Rattle.rv_decode.specs.declared.instruction.Instr.{Instr}
use Rattle.rvc.specs.Number.{length_of}
use Rattle.instr_axioms.specs.Terms.{has_memory}
use Rattle.group_text.specs.declared.version.Version.TheVariants.{Four}
use Rattle.code_parts.specs.Bodies.{Flow, VariableMap}
use Rattle.path_walk.specs.Further.{is_crossed}
use Rattle.path_walk.specs.inner.Acts.{Acted, IsFineInstruction, act_standing}
use Rattle.code_parts.specs.Kept.{flow_in}
use Rattle.path_walk.specs.inner.Writers.{CitedTree, writer_tree}
use Rattle.code_parts.specs.VariableMaps.{place_of}
use Rattle.path_walk.proofs.InstructionLemmas.{acted_of}
use Rattle.path_walk.proofs.LineTexts.{act-fine, act-standing-fine}
use Rattle.path_walk.proofs.LowVariables.{low_place}
use Rattle.path_walk.proofs.instruction_lines.act.Goals as goal

pub instruction_lines-requires-clause-low : goal.instruction_lines-requires-clause-low
instruction_lines-requires-clause-low c =
    let f : Flow = flow_in c.args.flow.now in
    subst (λ (i : Instr). has_memory i ≡ true → c.uses-q.result < f.mems) (sym c.instr-i.ensures.is)
    (subst (λ (q : ℕ). has_memory (f.instr c.args.n) ≡ true → q < f.mems) (sym c.uses-q.ensures.is) c.word-word.ensures.stands.memory)

pub instruction_lines-requires-clause-crossed : goal.instruction_lines-requires-clause-crossed
instruction_lines-requires-clause-crossed c =
    let f : Flow = flow_in c.args.flow.now in
    subst (λ (i : Instr). is_crossed i c.uses-q.result ≡ true → (c.args.log.now.version ≡ Four) × (f.mems ≡ 2)) (sym c.instr-i.ensures.is)
    (subst (λ (q : ℕ). is_crossed (f.instr c.args.n) q ≡ true → (c.args.log.now.version ≡ Four) × (f.mems ≡ 2)) (sym c.uses-q.ensures.is) (c.requires.version.crossed c.args.n c.requires.node))

pub instruction_lines-requires-clause-fine : goal.instruction_lines-requires-clause-fine
instruction_lines-requires-clause-fine c =
    let f : Flow = flow_in c.args.flow.now in
    let v : VariableMap = place_of c.args.place.now in
    let at = c.word-word.ensures.stands in
    let fine : IsFineInstruction c.args.regs.now f.mems (f.instr c.args.n) c.args.form (f.addr c.args.n) (f.word c.args.n) (f.uses c.args.n) v =
    act-fine (f.instr c.args.n) c.args.form (f.addr c.args.n) (f.word c.args.n) at.address at.room f c.args.regs.now c.requires.registers v 32768
    (low_place c.args.place.now 32768 f.mems c.law_of_memories.ensures.few c.law_of_memories.ensures.second (omega arith) (omega (arith, c.requires.words)) (omega (arith, c.requires.mems))) (omega arith) (f.uses c.args.n) at.memory in
    subst (λ (i : Instr). IsFineInstruction c.args.regs.now f.mems i c.args.form c.addr-addr.result c.word-word.result c.uses-q.result v) (sym c.instr-i.ensures.is)
    (subst (λ (a : ℕ). IsFineInstruction c.args.regs.now f.mems (f.instr c.args.n) c.args.form a c.word-word.result c.uses-q.result v) (sym c.addr-addr.ensures)
    (subst (λ (w : ℕ). IsFineInstruction c.args.regs.now f.mems (f.instr c.args.n) c.args.form (f.addr c.args.n) w c.uses-q.result v) (sym c.word-word.ensures.is)
    (subst (λ (q : ℕ). IsFineInstruction c.args.regs.now f.mems (f.instr c.args.n) c.args.form (f.addr c.args.n) (f.word c.args.n) q v) (sym c.uses-q.ensures.is) fine)))

pub new-requires : goal.new-requires
new-requires c =
    let f : Flow = flow_in c.args.flow.now in
    let v : VariableMap = place_of c.args.place.now in
    let at = c.word-word.ensures.stands in
    act-standing-fine c.instr-i.result c.args.form c.addr-addr.result c.word-word.result (subst (λ (a : ℕ). a < 2 ^ 64) (sym c.addr-addr.ensures) at.address)
    (subst (λ (a : ℕ). a + length_of c.word-word.result ≤ 2 ^ 64) (sym c.addr-addr.ensures) (subst (λ (w : ℕ). f.addr c.args.n + length_of w ≤ 2 ^ 64) (sym c.word-word.ensures.is) at.room))
    f.mems v 32768 (low_place c.args.place.now 32768 f.mems c.law_of_memories.ensures.few c.law_of_memories.ensures.second (omega arith) (omega (arith, c.requires.words)) (omega (arith, c.requires.mems))) (omega arith) c.uses-q.result
    (subst (λ (i : Instr). has_memory i ≡ true → c.uses-q.result < f.mems) (sym c.instr-i.ensures.is) (subst (λ (q : ℕ). has_memory (f.instr c.args.n) ≡ true → q < f.mems) (sym c.uses-q.ensures.is) at.memory))
    c.in_ok-number.number _ _ c.in_ok-number.ensures.fits
    c.in_ok-known.ensures c.in_ok-code.ensures

pub returns : goal.returns
returns c =
    let f : Flow = flow_in c.args.flow.now in
    let v : VariableMap = place_of c.args.place.now in
    let number = ap (λ (t : CitedTree). t.number) c.new.ensures in (
      c.word-word.ensures.stands,
      c.new.ensures
          ∙ (λ j. record { number = sym number j; facts = c.in_ok-known.ensures j; code = c.in_ok-code.ensures j })
          ∙ (λ j. act_standing (c.instr-i.ensures.is j) c.args.form (c.addr-addr.ensures j) (c.word-word.ensures.is j) (c.uses-q.ensures.is j) v c.new.result.number),
      subst (λ (k : ℕ). Acted c.args.regs.now f.mems (f.instr c.args.n) c.args.form (f.addr c.args.n) (f.word c.args.n) (f.uses c.args.n) v (writer_tree c.args.log.now) (writer_tree c.instruction_lines.new.log) k) (sym number)
          (acted_of c.args.regs.now f.mems _ _ c.args.form _ _ _ _ _ _ v _ _ _ c.instr-i.ensures.is c.addr-addr.ensures c.word-word.ensures.is c.uses-q.ensures.is c.in_ok-number.ensures.acted),
    )
