use Rattle.std.proofs.Common.{◌≡◌, ap, sym, ◌∙◌, arith}
use Rattle.rv_decode.specs.Decodes.{decoded}
use Rattle.rv_decode.proofs.RowLemmas.{call_word, break_word, no_system_word}
use Rattle.rv_decode.proofs.decoder.decode_system.Goals as goal

pub returns-in-115 : goal.returns-in-115
returns-in-115 c = let e : c.args.w ≡ 0x73 = omega arith in sym (ap decoded e ∙ call_word)

pub returns-in-1048691 : goal.returns-in-1048691
returns-in-1048691 c = let e : c.args.w ≡ 0x100073 = omega arith in sym (ap decoded e ∙ break_word)

pub returns-in_default : goal.returns-in_default
returns-in_default c = no_system_word c.args.w (omega arith) c.requires (omega arith) (omega arith)
