use Rattle.std.proofs.Common.{◌≡◌, take, map}
use Rattle.sep_assert.specs.Tree.{register_tree}
use Rattle.word_terms.specs.Substitution.{substitution_of}
use Rattle.triple_kernel.specs.Rules.{put_in_register}
use Rattle.triple_kernel.proofs.image.are_register_images.Given as goal

abbrev pub invariant-loop-i : goal.invariant-loop-i
invariant-loop-i l = map (put_in_register (substitution_of l.s)) (map register_tree (take l.i l.a)) ≡ map register_tree (take l.i l.b)
