-- Terms put in for variables, node by node.
use Rattle.std.specs.Prelude.{◌≡◌, List}
use Rattle.word_terms.specs.Substitution.{Substitution}
use Rattle.term_arena.specs.declared.node.Node.{Node}
use Rattle.term_arena.specs.declared.node.Node.TheVariants as node
use Rattle.held_instances.specs.Image.{IsImage}

-- the second node is the first with images of its children
abbrev pub ImageNode : List Node → Substitution → Node → Node → Type 0
ImageNode ns s (node.Bin op a b) (node.Bin o x y) = (op ≡ o) × IsImage ns s a x × IsImage ns s b y
ImageNode ns s (node.Extend ext a) (node.Extend e x) = (ext ≡ e) × IsImage ns s a x
ImageNode ns s (node.Load width p a) (node.Load w x y) = (width ≡ w) × IsImage ns s p x × IsImage ns s a y
ImageNode ns s (node.Store width p a v) (node.Store w x y z) = (width ≡ w) × IsImage ns s p x × IsImage ns s a y × IsImage ns s v z
ImageNode ns s (node.Compare cmp a b) (node.Compare c x y) = (cmp ≡ c) × IsImage ns s a x × IsImage ns s b y
ImageNode ns s (node.Neg c) (node.Neg x) = IsImage ns s c x
ImageNode ns s (node.Inside width p a) (node.Inside w x y) = (width ≡ w) × IsImage ns s p x × IsImage ns s a y
ImageNode ns s n m = ⊥
