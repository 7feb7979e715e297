-- A triple whose pre and post are the same is valid: no steps lead from one to the other.
use Rattle.std.proofs.Common.{◌≡◌, ◌∙◌, refl}
use Rattle.tailrec_lang.specs.Tree.{GroupTree}
use Rattle.rv_machine.specs.Run.{run}
use Rattle.sep_assert.specs.Part.{◌⊕◌, code_part, part_of}
use Rattle.triple_kernel.specs.Tree.{TripleTree}
use Rattle.triple_kernel.specs.Valid.{Valid}

pub valid_same : (g : GroupTree) (t : TripleTree) → t.pre ≡ t.post → Valid g t
unfolding run
valid_same g t same = record {
  runs = λ e holds rest s whole. (s, record { steps = 0; ran = refl }, whole ∙ (λ i. part_of (same i) e ⊕ (code_part t.code ⊕ rest)));
}
