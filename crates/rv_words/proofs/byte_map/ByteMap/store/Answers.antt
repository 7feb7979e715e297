use Rattle.std.proofs.Common.{◌∙◌, sym, arith}
use Rattle.std.specs.FinMap.{get}
use Rattle.rv_words.specs.inner.Pieces.{bytes_in}
use Rattle.rv_words.proofs.PieceLemmas.{get-map_of}
use Rattle.rv_words.specs.Bytes.{bytes_of, store}
use Rattle.std.proofs.lemmas.List.{with_items_is}
use Rattle.rv_words.proofs.byte_map.ByteMap.store.Goals as goal

pub returns : goal.returns
returns c =
    get-map_of _ ∙ (λ j. bytes_in (with_items_is c.self.inside.pieces c.store_bytes.new.pieces (omega arith) j)) ∙ c.store_bytes.ensures.stored
    ∙ (λ j. store (c.bytes.ensures j) (bytes_in (c.deref_mut.ensures.value j)) c.args.a c.args.v)
    ∙ (λ j. store (bytes_of c.args.w) (sym (get-map_of c.self.inside.pieces.items) j) c.args.a c.args.v) ∙ (λ j. store (bytes_of c.args.w) (get (c.self.view_is j)) c.args.a c.args.v)
