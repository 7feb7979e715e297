use Rattle.std.proofs.Common.{◌≡◌, ◌∙◌, ◌-◌, map, drop, sym, subst, arith}
use Rattle.std.specs.Prelude.{All, AllPairs}
use Rattle.elf_image.specs.Fault.{load_fault}
use Rattle.elf_image.specs.Image.{IsApart, IsPlaced, before, piece_of, rising}
use Rattle.elf_image.proofs.TableLemmas.{none_at}
use Rattle.elf_image.proofs.ImageLemmas.{before_all, pieces_apart, rising_more}
use Rattle.elf_image.proofs.reader.read_pieces.Goals as goal

pub read_piece-requires : goal.read_piece-requires
read_piece-requires c = none_at (load_fault c.args.file.now) c.args.headers.now (c.loop-i.i - 1) _ c.requires.each (omega arith)

pub loop-i-preserved : goal.loop-i-preserved
loop-i-preserved c =
    let file = c.args.file.now in
    let headers = c.args.headers.now in
    let put = c.in_ok-insert_before.ensures.ok in
    record {
      within = omega arith;
      pieces_are = put ∙ (λ j. before (c.in_ok-piece.ensures.piece j) (c.loop-i.invariant.pieces_are j)) ∙ rising_more file headers c.loop-i.i _ (omega arith) c.loop-i.invariant.within;
      placed = subst (λ ps. All IsPlaced ps) (sym put) (before_all IsPlaced c.in_ok-piece.piece c.loop-i.pieces.items c.in_ok-piece.ensures.placed c.loop-i.invariant.placed);
    }

pub returns-clause-placed : goal.returns-clause-placed
returns-clause-placed c =
    let none : c.loop-i.i ≡ 0 = omega arith in
    let are : c.loop-i.pieces.items ≡ rising (map (piece_of c.args.file.now) c.args.headers.now) =
    c.loop-i.invariant.pieces_are ∙ (λ j. rising (map (piece_of c.args.file.now) (drop (none j) c.args.headers.now))) in
    record {
      placed = c.loop-i.invariant.placed;
      apart = subst (λ ps. AllPairs IsApart ps) (sym are) (pieces_apart c.args.file.now c.args.headers.now c.requires.together);
    }
