use Rattle.std.proofs.Common.{◌≡◌, ℕ, List, get_or, refl, sym, ap, ◌∙◌}
use Rattle.std.specs.Str.{bytes_eq}
use Rattle.rv_words.specs.declared.operation.Op.TheVariants.{Add}
use Rattle.rv_words.specs.Operation.{operation_name}
use Rattle.group_text.specs.TermReading.{operations}
use Rattle.group_text.proofs.NameTests.{named-next}
use Rattle.group_text.proofs.term_heads.operation_of.Goals as goal

pub loop-op-preserved : goal.loop-op-preserved
loop-op-preserved c =
    let name : c.name_of_operation.result.now ≡ operation_name (get_or operations c.loop-op.op-index Add) = c.name_of_operation.ensures in
    let other : bytes_eq (operation_name (get_or operations c.loop-op.op-index Add)) c.args.name.now ≡ bytes_eq c.name_of_operation.result.now c.args.name.now = ap (λ (n : List ℕ). bytes_eq n c.args.name.now) (sym name) in
    record {
      items = refl;
      told = named-next operation_name operations c.loop-op.op-index Add c.args.name.now c.loop-op-test.true (other ∙ sym c.eq.ensures ∙ c.if-eq.false) ∙ c.loop-op.invariant.told;
    }
