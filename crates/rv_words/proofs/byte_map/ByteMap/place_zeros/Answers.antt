use Rattle.std.proofs.Common.{◌∙◌, sym, replicate}
use Rattle.std.specs.FinMap.{get}
use Rattle.std.proofs.lemmas.Result.{on_ok_weaker, on_err_weaker}
use Rattle.rv_words.specs.Bytes.{bytes_from, over}
use Rattle.rv_words.proofs.PieceLemmas.{get-map_of, same_map_of}
use Rattle.rv_words.proofs.byte_map.ByteMap.place_zeros.Goals as goal

pub returns-clause-ok : goal.returns-clause-ok
returns-clause-ok c =
    on_ok_weaker c.put_zeros.result
    (λ e. get-map_of c.put_zeros.new.pieces.items ∙ e ∙ (λ j. over (bytes_from c.args.a (replicate c.args.n 0)) (sym (get-map_of c.self.inside.pieces.items) j))
    ∙ (λ j. over (bytes_from c.args.a (replicate c.args.n 0)) (get (c.self.view_is j))))
    c.put_zeros.ensures.ok

pub returns-clause-err : goal.returns-clause-err
returns-clause-err c = on_err_weaker c.put_zeros.result (λ e. same_map_of c.put_zeros.new.pieces.items c.self.inside.pieces.items e ∙ c.self.view_is) c.put_zeros.ensures.err
