use Rattle.std.proofs.Common.{◌≡◌, ℕ, List, get_or, refl, sym, ap, ◌∙◌}
use Rattle.std.specs.Str.{bytes_eq}
use Rattle.std.proofs.lemmas.Slice.Eq.{bytes_eq-Decides}
use Rattle.group_text.proofs.NameTests.{named-next}
use Rattle.rv_words.specs.declared.operation.Op.TheVariants.{Add}
use Rattle.short_text.specs.declared.heads.NodeHead.{NodeHead}
use Rattle.short_text.specs.declared.heads.NodeHead.TheVariants.{Bin}
use Rattle.short_text.specs.inner.ShortReading.{node_heads, node_head_name, node_head_of}
use Rattle.short_text.proofs.NodeLaws.{node-named}
use Rattle.short_text.proofs.heads.node_head_of.Goals as goal

pub loop-head-preserved : goal.loop-head-preserved
loop-head-preserved c =
    let name : c.name_of_node_head.result.now ≡ node_head_name (get_or node_heads c.loop-head.head-index (Bin Add)) = c.name_of_node_head.ensures in
    let other : bytes_eq (node_head_name (get_or node_heads c.loop-head.head-index (Bin Add))) c.args.name.now ≡ bytes_eq c.name_of_node_head.result.now c.args.name.now = ap (λ (n : List ℕ). bytes_eq n c.args.name.now) (sym name) in
    record {
      items = refl;
      told = named-next node_head_name node_heads c.loop-head.head-index (Bin Add) c.args.name.now c.loop-head-test.true (other ∙ sym c.eq.ensures ∙ c.if-eq.false) ∙ c.loop-head.invariant.told;
    }

pub returns-then-eq : goal.returns-then-eq
returns-then-eq c =
    let head : NodeHead = get_or node_heads c.loop-head.head-index (Bin Add) in
    let name : c.name_of_node_head.result.now ≡ node_head_name head = c.name_of_node_head.ensures in
    let same : c.name_of_node_head.result.now ≡ c.args.name.now = (bytes_eq-Decides c.name_of_node_head.result.now c.args.name.now).0 (sym c.eq.ensures ∙ c.if-eq.true) in
    sym (ap node_head_of (sym same ∙ name) ∙ node-named head)
