-- What is kept of lines behind a group, with one line more.
use Rattle.std.proofs.Common.{◌≡◌, Bool, true, List, [], ◌∷◌, ◌++◌, sym, ap, ◌∙◌}
use Rattle.term_arena.specs.declared.node.Node.{Node}
use Rattle.short_text.specs.declared.short.Short.{Short}
use Rattle.short_text.specs.declared.short.ShortLine.{ShortLine}
use Rattle.short_text.specs.declared.short.ShortLine.TheVariants.{Term, Proof}
use Rattle.short_text.specs.ShortProofs.{table_of}
use Rattle.short_text.specs.inner.ShortReaders.{has_begun, KeptLines, AreKept}
use Rattle.short_text.proofs.LineParts.{table-behind, table-kept, begun-kept, begun-behind}

module _ (self : KeptLines) (t : List Node) (b : Bool) (view : record { table = t; begun = b } ≡ self) (before : List ShortLine) (kept : AreKept self before) where
  at : t ≡ table_of before
  at = ap (λ (k : KeptLines). k.table) view ∙ kept.table

  is : b ≡ has_begun before
  is = ap (λ (k : KeptLines). k.begun) view ∙ kept.begun

  pub kept-term : (more : List Node) (n : Node) → more ≡ t ++ n ∷ [] → AreKept (record { table = more; begun = b }) (before ++ Term n ∷ [])
  kept-term more n e = record {
    table = e ∙ ap (λ (ns : List Node). ns ++ n ∷ []) at ∙ sym (table-behind before n);
    begun = is ∙ sym (begun-kept before n);
  }

  pub kept-proof : (s : Short) → AreKept (record { table = t; begun = true }) (before ++ Proof s ∷ [])
  kept-proof s = record { table = at ∙ sym (table-kept before s); begun = sym (begun-behind before s) }
