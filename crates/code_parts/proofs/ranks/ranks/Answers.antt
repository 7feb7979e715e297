use Rattle.std.proofs.Common.{◌≡◌, ℕ, ◌+◌, ◌<◌, List, length, subst, sym, arith}
use Rattle.elf_image.specs.Image.{code_in}
use Rattle.code_parts.specs.inner.Finding.{AreRanks, IsRanked, IsUnranked}
use Rattle.code_parts.proofs.Faults.{first_recursive}
use Rattle.code_parts.proofs.Making.{ranks_more, ranks_none}
use Rattle.code_parts.proofs.ranks.ranks.Goals as goal

pub functions-init : goal.functions-init
functions-init c = record {
  upto = omega arith;
  ranked = subst (λ (z : List ℕ). AreRanks (code_in c.args.image.now.pieces) c.args.entries.now z 0) (sym c.new-ranks.ensures) (ranks_none (code_in c.args.image.now.pieces) c.args.entries.now);
}

pub functions-preserved : goal.functions-preserved
functions-preserved c =
    let code = code_in c.args.image.now.pieces in
    record {
      upto = omega (arith, c.len.ensures.len, c.functions-test.true);
      ranked = subst (λ (z : List ℕ). AreRanks code c.args.entries.now z (c.functions.i + 1)) (sym c.in_ok-push-in-Ok.ensures.ok)
          (ranks_more code c.args.entries.now c.functions.ranks c.functions.i c.in-Ok.n c.functions.invariant.ranked (subst (λ (f : ℕ). IsRanked code f c.in-Ok.n) c.get.ensures c.in-Ok.ensures.ok));
    }

pub returns-in-Err-clause-err : goal.returns-in-Err-clause-err
returns-in-Err-clause-err c = λ e fine.
    let code = code_in c.args.image.now.pieces in
    let below : c.functions.i < length c.args.entries.now = omega (arith, c.len.ensures.len, c.functions-test.true) in
    first_recursive code e c.args.entries.now c.functions.ranks c.functions.i c.in-Err.why fine c.functions.invariant.ranked below (subst (λ (f : ℕ). IsUnranked code f c.in-Err.why) c.get.ensures c.in-Err.ensures.err)

pub returns-clause-ok : goal.returns-clause-ok
returns-clause-ok c =
    let all : c.functions.i ≡ length c.args.entries.now = omega (arith, c.functions.invariant.upto, c.len.ensures.len, c.functions-test.false) in
    subst (λ (n : ℕ). AreRanks (code_in c.args.image.now.pieces) c.args.entries.now c.functions.ranks n) all c.functions.invariant.ranked
