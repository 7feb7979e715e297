use Rattle.std.proofs.Common.{sym, ◌∙◌, ap}
use Rattle.rv_words.specs.Ranges.{range_bytes}
use Rattle.sep_assert.proofs.SearchLemmas.{byte-past, byte-here, byte-nowhere, byte-later}
use Rattle.sep_assert.proofs.search.byte_from.Goals as goal

pub returns-then-place-ranges : goal.returns-then-place-ranges
returns-then-place-ranges c = byte-past c.args.ranges.now c.args.place c.args.address c.requires.stands.behind c.if-place-ranges.true

pub returns-in-Some : goal.returns-in-Some
returns-in-Some c =
    byte-here c.args.ranges.now c.args.place c.args.address c.index-ranges-place.result c.if-place-ranges.false c.index-ranges-place.is c.requires.stands.behind c.in-Some.byte
    (sym c.byte_in.ensures ∙ c.in-Some.is)

pub returns-then-in_order : goal.returns-then-in_order
returns-then-in_order c =
    byte-nowhere c.args.ranges.now c.args.place c.args.address c.index-ranges-place.result c.if-place-ranges.false c.index-ranges-place.is c.requires.stands.behind
    (c.requires.order c.if-in_order.true) (sym c.byte_in.ensures ∙ c.in_default.is) (c.requires.next c.index-ranges-place.result c.if-place-ranges.false c.index-ranges-place.is)

pub returns : goal.returns
returns c =
    c.byte_of.ensures ∙ ap (λ rs. range_bytes rs c.args.address) c.behind.ensures
    ∙ byte-later c.args.ranges.now c.args.place c.args.address c.index-ranges-place.result c.if-place-ranges.false c.index-ranges-place.is c.requires.stands.behind
    (sym c.byte_in.ensures ∙ c.in_default.is)
