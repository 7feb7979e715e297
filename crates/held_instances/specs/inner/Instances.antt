-- Triples with terms put in for variables: each number of the second stands for the image of that of the first.
use Rattle.std.specs.Prelude.{◌≡◌, ℕ, ◌<◌, All, List, length}
use Rattle.std.specs.List.{AllZip}
use Rattle.word_terms.specs.Substitution.{Substitution}
use Rattle.term_arena.specs.declared.node.Node.{Node}
use Rattle.held_terms.specs.declared.held.HeldValues.{HeldValues}
use Rattle.held_terms.specs.declared.held.HeldFact.{HeldFact}
use Rattle.held_terms.specs.declared.held.HeldFact.TheVariants as held
use Rattle.held_terms.specs.declared.held.HeldSide.{HeldSide}
use Rattle.held_instances.specs.Image.{IsImage}

-- each of the numbers is one of the arena
abbrev pub AreWithin : List Node → List ℕ → Type 0
AreWithin ns ks = All (λ k. k < length ns) ks

abbrev pub AreImagesOf : List Node → Substitution → List ℕ → List ℕ → Type 0
AreImagesOf ns s xs ys = AllZip (IsImage ns s) xs ys

abbrev pub IsRegisterImage : List Node → Substitution → ℕ × ℕ → ℕ × ℕ → Type 0
IsRegisterImage ns s r q = (r.0 ≡ q.0) × IsImage ns s r.1 q.1

pub record IsValuesImage (ns : List Node) (s : Substitution) (v w : HeldValues) : Type 0 where
  pub words : AreImagesOf ns s v.words w.words
  pub mems : AreImagesOf ns s v.mems w.mems

abbrev pub IsFactImage : List Node → Substitution → HeldFact → HeldFact → Type 0
IsFactImage ns s (held.WordIs a b) (held.WordIs x y) = IsImage ns s a x × IsImage ns s b y
IsFactImage ns s (held.MemIs a b) (held.MemIs x y) = IsImage ns s a x × IsImage ns s b y
IsFactImage ns s (held.So c) (held.So x) = IsImage ns s c x
IsFactImage ns s (held.Gives def exit args results) (held.Gives d e x y) = (def ≡ d) × (exit ≡ e) × IsValuesImage ns s args x × IsValuesImage ns s results y
IsFactImage ns s f g = ⊥

pub record IsSideImage (ns : List Node) (s : Substitution) (a b : HeldSide) : Type 0 where
  pub pc : IsImage ns s a.pc b.pc
  pub regs : AllZip (IsRegisterImage ns s) a.regs b.regs
  pub mems : AreImagesOf ns s a.mems b.mems
