use Rattle.std.proofs.Common.{◌≡◌, ◌∷◌, [], Bool, List, if◌then◌else◌, ap, flat_map, subst, sym, ◌∙◌}
use Rattle.std.specs.Prelude.{OnOk, codes}
use Rattle.mc_text.specs.Printing.{page, print}
use Rattle.mc_text.specs.Tokens.{Atom, Tok}
use Rattle.group_text.specs.TermSpelling.{range_tokens}
use Rattle.proof_text.specs.Line.{code_or_own}
use Rattle.proof_text.specs.LineSpelling.{code_tokens}
use Rattle.proof_text.proofs.SameRanges.{ranges-same}
use Rattle.short_text.proofs.put.put_code_or_own.Goals as goal

pub returns-then-all-clause-ok : goal.returns-then-all-clause-ok
returns-then-all-clause-ok c =
    let own = c.args.own.now.ranges in
    let tokens : code_tokens own (code_or_own own c.args.all c.args.code.now.ranges) ≡ Atom (codes "all") ∷ [] =
    ap (λ (b : Bool). code_tokens own (code_or_own own b c.args.code.now.ranges)) c.if-all.true ∙ ap (λ (b : Bool). if b then Atom (codes "all") ∷ [] else flat_map range_tokens own) (ranges-same own) in
    subst (λ (ts : List Tok). OnOk c.put_own_code.result (page c.put_own_code.new.pen ≡ print (Atom (codes "code") ∷ ts) (page c.args.pen.now))) (sym tokens) c.put_own_code.ensures.ok
