use Rattle.std.proofs.Common.{sym, ◌∙◌, subst, length, take_all, arith}
use Rattle.std.specs.Prelude.{All}
use Rattle.std.proofs.lemmas.List.Elements.{All-more}
use Rattle.sep_assert.specs.inner.Search.{EndsBy}
use Rattle.sep_assert.proofs.search.place_of.Goals as goal

pub loop-place-preserved : goal.loop-place-preserved
loop-place-preserved c = record {
  behind = All-more (EndsBy c.args.address) c.args.ranges.now c.loop-place.place c.index-ranges-place.result c.loop-place-test.true c.loop-place.invariant.behind
      (subst (EndsBy c.args.address) c.index-ranges-place.is (c.ends_by.ensures.0 c.if-not-ends_by.false));
}

pub returns-clause-stands : goal.returns-clause-stands
returns-clause-stands c =
    let ranges = c.args.ranges.now in record {
      behind = subst (All (EndsBy c.args.address)) (take_all c.loop-place.place ranges c.loop-place-test.false ∙ sym (take_all (length ranges) ranges (omega arith))) c.loop-place.invariant.behind;
    }
