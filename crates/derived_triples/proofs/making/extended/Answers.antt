use Rattle.std.proofs.Common.{List, sym, subst}
use Rattle.rv_words.specs.Ranges.{range_bytes}
use Rattle.rv_words.specs.declared.range.Range.{Range}
use Rattle.sep_assert.specs.Code.{IsWithin}
use Rattle.derived_triples.proofs.MakingLemmas.{extended_made, none_extended}
use Rattle.derived_triples.proofs.Merging.{never}
use Rattle.derived_triples.proofs.making.extended.Goals as goal

pub has_code_within-requires : goal.has_code_within-requires
has_code_within-requires c = λ known.
    subst (λ (r : List Range). IsWithin (range_bytes c.args.p.now.code.ranges) (range_bytes r)) (sym c.in_ok-t.ensures.2) (c.requires.known known)

pub returns-then-not-has_code_within : goal.returns-then-not-has_code_within
returns-then-not-has_code_within c =
    none_extended c.args.arena.now c.args.p.now c.in_ok-t.t c.args.code.now.ranges c.in_ok-t.ensures.2 (λ within. never (c.has_code_within.ensures.1 within) c.if-not-has_code_within.true)

pub returns : goal.returns
returns c =
    extended_made c.args.arena.now c.args.p.now c.in_ok-t.t c.args.code.now.ranges c.requires.p c.requires.code c.in_ok-t.ensures (c.has_code_within.ensures.0 c.if-not-has_code_within.false)
