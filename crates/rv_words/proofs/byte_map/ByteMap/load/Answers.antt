use Rattle.std.proofs.Common.{◌∙◌, sym}
use Rattle.std.specs.FinMap.{get}
use Rattle.rv_words.specs.inner.Pieces.{bytes_in}
use Rattle.rv_words.proofs.PieceLemmas.{get-map_of}
use Rattle.rv_words.specs.Bytes.{bytes_of, load}
use Rattle.rv_words.proofs.byte_map.ByteMap.load.Goals as goal

pub returns : goal.returns
returns c =
    c.load_bytes.ensures ∙ (λ j. load (c.bytes.ensures j) (bytes_in (c.deref.ensures.value j)) c.args.a)
    ∙ (λ j. load (bytes_of c.args.w) (sym (get-map_of c.self.inside.pieces.items) j) c.args.a) ∙ (λ j. load (bytes_of c.args.w) (get (c.self.view_is j)) c.args.a)
