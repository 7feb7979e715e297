use Rattle.std.proofs.Common.{Some, None, ◌∙◌, sym, ap}
use Rattle.std.specs.Prelude.{if◌then◌else◌}
use Rattle.std.specs.FinMap.{get}
use Rattle.rv_words.specs.inner.Pieces.{bytes_in}
use Rattle.rv_words.proofs.PieceLemmas.{get-map_of}
use Rattle.rv_words.specs.Bytes.{Bytes, bytes_of, inside, load}
use Rattle.rv_words.proofs.byte_map.ByteMap.read.Goals as goal

pub returns : goal.returns
returns c =
    c.read_bytes.ensures ∙ (λ j. if inside (c.bytes.ensures j) (bytes_in (c.deref.ensures.value j)) c.args.a then Some (load (c.bytes.ensures j) (bytes_in (c.deref.ensures.value j)) c.args.a) else None)
    ∙ ap (λ (m : Bytes). if inside (bytes_of c.args.w) m c.args.a then Some (load (bytes_of c.args.w) m c.args.a) else None) (sym (get-map_of c.self.inside.pieces.items) ∙ ap get c.self.view_is)
