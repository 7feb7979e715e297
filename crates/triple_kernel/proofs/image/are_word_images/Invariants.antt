use Rattle.std.proofs.Common.{◌≡◌, take, map}
use Rattle.word_terms.specs.Tree.{word_tree}
use Rattle.word_terms.specs.Substitution.{put_in_word, substitution_of}
use Rattle.triple_kernel.proofs.image.are_word_images.Given as goal

abbrev pub invariant-loop-i : goal.invariant-loop-i
invariant-loop-i l = map (put_in_word (substitution_of l.s)) (map word_tree (take l.i l.a)) ≡ map word_tree (take l.i l.b)
