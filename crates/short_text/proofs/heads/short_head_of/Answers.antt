use Rattle.std.proofs.Common.{◌≡◌, ℕ, List, get_or, refl, sym, ap, ◌∙◌}
use Rattle.std.specs.Str.{bytes_eq}
use Rattle.group_text.proofs.NameTests.{named-next}
use Rattle.short_text.specs.declared.heads.ShortHead.TheVariants.{Axiom}
use Rattle.short_text.specs.inner.ShortReading.{short_heads, short_name}
use Rattle.short_text.proofs.heads.short_head_of.Goals as goal

pub loop-head-preserved : goal.loop-head-preserved
loop-head-preserved c =
    let name : c.name_of_short_head.result.now ≡ short_name (get_or short_heads c.loop-head.head-index Axiom) = c.name_of_short_head.ensures in
    let other : bytes_eq (short_name (get_or short_heads c.loop-head.head-index Axiom)) c.args.name.now ≡ bytes_eq c.name_of_short_head.result.now c.args.name.now = ap (λ (n : List ℕ). bytes_eq n c.args.name.now) (sym name) in
    record {
      items = refl;
      told = named-next short_name short_heads c.loop-head.head-index Axiom c.args.name.now c.loop-head-test.true (other ∙ sym c.eq.ensures ∙ c.if-eq.false) ∙ c.loop-head.invariant.told;
    }
