use Rattle.std.proofs.Common.{sym, ◌∙◌}
use Rattle.rv_words.specs.Bytes.{over}
use Rattle.elf_image.specs.Image.{code_of}
use Rattle.verdicts.proofs.FileCodeLemmas.{code-more}
use Rattle.verdicts.proofs.file_code.code_of_pieces.Goals as goal

pub loop-piece-preserved : goal.loop-piece-preserved
loop-piece-preserved c =
    c.in_ok-push_code.ensures ∙ (λ i. over (c.loop-piece.invariant i) (code_of c.piece-item.result))
    ∙ sym (code-more c.args.pieces.now c.loop-piece.piece-index c.piece-item.result c.loop-piece-test.true c.piece-item.is)
