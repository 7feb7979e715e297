use Rattle.std.proofs.Common.{◌≡◌, ◌∙◌, List, ap, map}
use Rattle.std.specs.FinMap.{get}
use Rattle.mcdec_commands.specs.Memory.{held_at}
use Rattle.elf_image.specs.declared.image.Piece.{Piece}
use Rattle.elf_image.specs.Image.{bytes_in}
use Rattle.rv_machine.specs.State.{state_of}
use Rattle.mcdec_answers.specs.Command.{givens}
use Rattle.mcdec_commands.specs.RunAnswer.{state_given}
use Rattle.mcdec_commands.proofs.SetUp.{begun, met-given, stuck-given, steps-given}
use Rattle.mcdec_commands.proofs.run.run_image.Goals as goal

pub returns-in-Met : goal.returns-in-Met
returns-in-Met c args all h file image =
    let same : state_of c.set_registers.new.state ≡ state_given file args c.args.start =
    begun file args c.args.start c.pieces.result.now c.as_slice.result.now (state_of c.new-state.result) (state_of c.place_pieces.new.state) (state_of c.place_ranges.new.state) (state_of c.set_registers.new.state)
    (ap (λ (ps : List Piece). bytes_in ps) c.pieces.ensures.pieces ∙ c.law_of_image.ensures.memory file image) (c.as_slice.ensures ∙ h.1) c.new-state.ensures.state c.in_ok-place_pieces.ensures c.in_ok-place_ranges.ensures (c.set_registers.ensures (givens args) all.0 h.0) in
    met-given c.args.r.now.until c.args.r.now.steps args (state_of c.set_registers.new.state) (state_given file args c.args.start) (state_of c.run.new.self) same c.in_ok-shown-in-Met.shown c.in-Met.steps c.in_ok-memory-in-Met.memory c.as_slice-in-Met.result.now c.in-Met.ensures (c.as_slice-in-Met.ensures ∙ h.1) (c.in_ok-memory-in-Met.ensures ∙ (λ i. map (held_at (get (c.memory.ensures i))) c.as_slice-in-Met.result.now)) (c.in_ok-shown-in-Met.ensures (givens args) h.0)

pub returns-in-Stuck : goal.returns-in-Stuck
returns-in-Stuck c args all h file image =
    let same : state_of c.set_registers.new.state ≡ state_given file args c.args.start =
    begun file args c.args.start c.pieces.result.now c.as_slice.result.now (state_of c.new-state.result) (state_of c.place_pieces.new.state) (state_of c.place_ranges.new.state) (state_of c.set_registers.new.state)
    (ap (λ (ps : List Piece). bytes_in ps) c.pieces.ensures.pieces ∙ c.law_of_image.ensures.memory file image) (c.as_slice.ensures ∙ h.1) c.new-state.ensures.state c.in_ok-place_pieces.ensures c.in_ok-place_ranges.ensures (c.set_registers.ensures (givens args) all.0 h.0) in
    stuck-given c.args.r.now.until c.args.r.now.steps args (state_of c.set_registers.new.state) (state_given file args c.args.start) (state_of c.run.new.self) same c.in-Stuck.steps c.in-Stuck.why c.in-Stuck.ensures

pub returns : goal.returns
returns c args all h file image =
    let same : state_of c.set_registers.new.state ≡ state_given file args c.args.start =
    begun file args c.args.start c.pieces.result.now c.as_slice.result.now (state_of c.new-state.result) (state_of c.place_pieces.new.state) (state_of c.place_ranges.new.state) (state_of c.set_registers.new.state)
    (ap (λ (ps : List Piece). bytes_in ps) c.pieces.ensures.pieces ∙ c.law_of_image.ensures.memory file image) (c.as_slice.ensures ∙ h.1) c.new-state.ensures.state c.in_ok-place_pieces.ensures c.in_ok-place_ranges.ensures (c.set_registers.ensures (givens args) all.0 h.0) in
    steps-given c.args.r.now.until c.args.r.now.steps args (state_of c.set_registers.new.state) (state_given file args c.args.start) (state_of c.run.new.self) same c.in-Steps.ensures
