use Rattle.std.proofs.Common.{◌++◌, ◌∷◌, [], ◌∙◌, sym, ℕ, List, pos}
use Rattle.std.proofs.lemmas.List.{map-append}
use Rattle.rv_decode.specs.declared.instruction.Instr.TheVariants.{Jalr}
use Rattle.rv_decode.specs.Encodes.{word_of}
use Rattle.code_gen.specs.Pieces.{drawn}
use Rattle.code_gen.specs.Program.{code, program_of}
use Rattle.code_gen.specs.inner.Written.{with_drawn}
use Rattle.code_gen.proofs.pieces.program.Goals as goal

pub returns : goal.returns
unfolding program_of
returns c =
    let back : List ℕ = word_of (Jalr 0 1 (pos 0)) ∷ [] in
    c.in_ok-add_instruction.ensures
    ∙ (λ i. c.in_ok-add_pieces.ensures.words i ++ back)
    ∙ (λ i. with_drawn (c.new-words.ensures i) 0 (drawn c.args.size 0 c.args.number) ++ back)
    ∙ sym (map-append word_of (code 0 (drawn c.args.size 0 c.args.number).pieces) (Jalr 0 1 (pos 0) ∷ []))
