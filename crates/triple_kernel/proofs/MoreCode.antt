-- More code keeps a triple valid.
use Rattle.std.proofs.Common.{List, sym, ◌∙◌}
use Rattle.tailrec_lang.specs.Tree.{GroupTree}
use Rattle.rv_words.specs.declared.range.Range.{Range}
use Rattle.rv_words.specs.Ranges.{range_bytes}
use Rattle.sep_assert.specs.Code.{IsWithin}
use Rattle.sep_assert.specs.Part.{◌⊕◌, code_part, part_of}
use Rattle.sep_assert.proofs.Unions.{union-assoc}
use Rattle.sep_assert.proofs.Parted.{code-within}
use Rattle.triple_kernel.specs.Tree.{TripleTree}
use Rattle.triple_kernel.specs.Valid.{Valid}

pub valid_more_code : (g : GroupTree) (t : TripleTree) (code : List Range) → IsWithin (range_bytes t.code) (range_bytes code) → Valid g t → Valid g (record t { code = code })
valid_more_code g t code within v = record {
  runs = λ e holds rest s whole.
      let more = code-within t.code code within in
      let same = (λ i. more.1 i ⊕ rest) ∙ union-assoc (code_part t.code) more.0 rest in
      let r = v.runs e holds (more.0 ⊕ rest) s (whole ∙ (λ i. part_of t.pre e ⊕ same i)) in
      (r.0, r.1, r.2 ∙ (λ i. part_of t.post e ⊕ sym same i));
}
