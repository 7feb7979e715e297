use Rattle.std.proofs.Common.{◌∙◌, sym}
use Rattle.std.specs.FinMap.{get}
use Rattle.std.proofs.lemmas.Result.{on_ok_weaker, on_err_weaker}
use Rattle.rv_words.specs.Bytes.{bytes_from, over}
use Rattle.rv_words.proofs.PieceLemmas.{get-map_of, same_map_of}
use Rattle.rv_words.proofs.byte_map.ByteMap.place.Goals as goal

pub returns-clause-ok : goal.returns-clause-ok
returns-clause-ok c =
    on_ok_weaker c.put_bytes.result
    (λ e. get-map_of c.put_bytes.new.pieces.items ∙ e ∙ (λ j. over (bytes_from c.args.a c.args.bytes.now) (sym (get-map_of c.self.inside.pieces.items) j))
    ∙ (λ j. over (bytes_from c.args.a c.args.bytes.now) (get (c.self.view_is j))))
    c.put_bytes.ensures.ok

pub returns-clause-err : goal.returns-clause-err
returns-clause-err c = on_err_weaker c.put_bytes.result (λ e. same_map_of c.put_bytes.new.pieces.items c.self.inside.pieces.items e ∙ c.self.view_is) c.put_bytes.ensures.err
