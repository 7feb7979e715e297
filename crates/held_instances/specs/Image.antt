-- Terms put in for variables, over the numbers of an arena.
use Rattle.std.specs.Prelude.{◌≡◌, ◌==◌, ℕ, All, List, Option, Some, option_map}
use Rattle.std.specs.Map.{lookup}
use Rattle.word_terms.specs.Substitution.{Substitution, listed, put_in_word, put_in_mem, put_in_cond}
use Rattle.term_arena.specs.declared.node.Node.{Node}
use Rattle.term_arena.specs.Arena.{Tree, OfWord, OfMem, OfCond, tree_of, word_of, mem_of, IsWordAt, IsMemAt}

-- a term with terms put in for its variables
abbrev pub put_in : Substitution → Tree → Tree
put_in s (OfWord t) = OfWord (put_in_word s t)
put_in s (OfMem m) = OfMem (put_in_mem s m)
put_in s (OfCond c) = OfCond (put_in_cond s c)

-- the substitution that lists of numbers are
unfoldable pub put_for_numbers : List Node → List (ℕ × ℕ) → List (ℕ × ℕ) → Substitution
put_for_numbers ns words mems = record { word = λ i. option_map (word_of ns) (listed words i); mem = λ i. option_map (mem_of ns) (listed mems i) }

-- each number that is put in is there, of the variable's kind
pub record IsSubAt (ns : List Node) (words mems : List (ℕ × ℕ)) : Type 0 where
  pub each_word : All (λ p. IsWordAt ns p.1) words
  pub each_mem : All (λ p. IsMemAt ns p.1) mems

-- the second number stands for the first one's tree with terms put in
pub record IsImage (ns : List Node) (s : Substitution) (x y : ℕ) : Type 0 where
  pub tree : Tree
  pub from : tree_of ns x ≡ Some tree
  pub to : tree_of ns y ≡ Some (put_in s tree)

-- numbers whose images are asked for, in order, each with that of its image, or with none while that is being made
abbrev pub Known : Type 0
Known = List (ℕ × Option ℕ)

-- what is known of a number that was asked for
abbrev pub image_at : Known → ℕ → Option (Option ℕ)
image_at known k = lookup (λ q. k == q) known

-- each number that is kept as an image is one
pub record AreImages (ns : List Node) (s : Substitution) (known : Known) : Type 0 where
  pub each : (x y : ℕ) → image_at known x ≡ Some (Some y) → IsImage ns s x y

-- what an imaging goes on with: the terms that are put in, and the images that are known
pub record IsReady (ns : List Node) (words mems : List (ℕ × ℕ)) (known : Known) : Type 0 where
  pub sub : IsSubAt ns words mems
  pub images : AreImages ns (put_for_numbers ns words mems) known
