use Rattle.std.proofs.Common.{◌≡◌, ◌∙◌, ℕ, List, length, ap, arith}
use Rattle.elf_image.specs.declared.image.Piece.{Piece}
use Rattle.rv_words.specs.Bytes.{bytes_from}
use Rattle.rv_machine.specs.State.{state_of, with_bytes}
use Rattle.rv_machine.specs.Step.{writes}
use Rattle.code_gen.specs.Program.{program_of}
use Rattle.self_test.specs.Files.{piece_of_words}
use Rattle.self_test.proofs.SetUp.{begun, first-piece, piece-fits, some-piece}
use Rattle.self_test.proofs.run.begin_program.Goals as goal

pub bounds-pieces-0 : goal.bounds-pieces-0
bounds-pieces-0 c = some-piece c.args.number c.args.size c.pieces.result.now c.args.image.now c.requires.size c.pieces.ensures.pieces c.requires.image

pub place-requires : goal.place-requires
place-requires c =
    let p : Piece = c.index-pieces-0.result in
    let is : p ≡ piece_of_words (program_of c.args.number c.args.size) =
    first-piece c.args.number c.args.size c.pieces.result.now c.args.image.now p c.requires.size c.pieces.ensures.pieces c.requires.image c.index-pieces-0.is in
    let fits = piece-fits c.args.number c.args.size p c.requires.size is in
    let long : length c.as_slice.result.now ≡ length p.from = ap (λ (bytes : List ℕ). length bytes) c.as_slice.ensures in
    omega (arith, fits, long)

pub returns : goal.returns
returns c =
    let p : Piece = c.index-pieces-0.result in
    let is : p ≡ piece_of_words (program_of c.args.number c.args.size) =
    first-piece c.args.number c.args.size c.pieces.result.now c.args.image.now p c.requires.size c.pieces.ensures.pieces c.requires.image c.index-pieces-0.is in
    begun c.args.number c.args.size p (state_of c.new-state.result) (state_of c.place.new.self) (state_of c.set_reg.new.self) (state_of c.set_reg-2.new.self) (state_of c.set_reg-3.new.self)
    c.requires.size is c.new-state.ensures.state
    (c.in_ok-place.ensures.ok ∙ (λ i. with_bytes (bytes_from p.at (c.as_slice.ensures i)) (state_of c.new-state.result)))
    c.set_reg.ensures c.set_reg-2.ensures (c.set_reg-3.ensures ∙ (λ i. writes 11 (c.from.ensures i) (state_of c.set_reg-2.new.self)))
