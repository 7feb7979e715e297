use Rattle.std.proofs.Common.{◌∙◌}
use Rattle.std.specs.Prelude.{nat_lt}
use Rattle.std.specs.List.{insert, prefix_len}
use Rattle.elf_image.proofs.ImageLemmas.{before-offset}
use Rattle.elf_image.proofs.reader.insert_before.Goals as goal

pub returns : goal.returns
returns c =
    let pieces = c.args.pieces.now.items in
    record {
      ok = c.in_ok-insert.ensures.items ∙ (λ j. insert pieces (c.count_below-i.ensures.below j) c.args.piece)
          ∙ (λ j. insert pieces (prefix_len (λ q. nat_lt q.at c.args.piece.at) (c.deref.ensures.value j)) c.args.piece) ∙ before-offset c.args.piece pieces;
    }
