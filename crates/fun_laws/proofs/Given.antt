-- Letters of a law, where some of them are known.
use Rattle.std.proofs.Common.{◌≡◌, ℕ, zero, suc, ◌+◌, ◌-◌, ◌%◌, ◌^◌, false, not, List, [], ◌∷◌, map, slice_get, Option, Some, None, option_map, IfSome, refl, ◌∙◌, arith}
use Rattle.rv_words.specs.declared.operation.Op.{Op}
use Rattle.rv_words.specs.declared.operation.Op.TheVariants.{Add}
use Rattle.rv_words.specs.declared.extension.Ext.{Ext}
use Rattle.rv_words.specs.declared.extension.Ext.TheVariants.{Sx4}
use Rattle.rv_words.specs.declared.comparison.Cmp.TheVariants.{Eq}
use Rattle.word_terms.specs.Tree.{WordTree, Const, Bin, CondTree, Compare}
use Rattle.fun_laws.specs.Laws.{Letters, LawGives, OfWord, is_constant, law_at}
use Rattle.fun_laws.specs.declared.shape.Given.{Given}
use Rattle.fun_laws.specs.declared.shape.Shape.TheVariants.{AddTwice, Turn}
use Rattle.fun_laws.specs.declared.shape.TheConstants.{SHAPES}
use Rattle.fun_laws.specs.inner.Shapes.{given_tree, law_of}

abbrev pub letters : WordTree → WordTree → ℕ → ℕ → Op → Ext → Letters
letters x y c d op ext = record { x = x; y = y; c = c; d = d; b = Compare Eq x y; op = op; ext = ext }

abbrev pub with_x : WordTree → Letters
with_x x = letters x x 0 0 Add Sx4

abbrev pub compared_letters : WordTree → WordTree → Letters
compared_letters x y = letters x y 0 0 Add Sx4

abbrev pub cond_letters : CondTree → Letters
cond_letters b = record { x = Const 0; y = Const 0; c = 0; d = 0; b = b; op = Add; ext = Sx4 }

pub add_twice_given : (t sum last : WordTree) (d : ℕ) (o : Option Given) → t ≡ Bin Add sum last → last ≡ Const d
    → IfSome o (λ g. (x : WordTree) × (c : ℕ) × (sum ≡ Bin Add x (Const c)) × (given_tree g ≡ Bin Add x (Const ((c + d) % 2 ^ 64))))
    → IfSome o (λ g. LawGives (law_of AddTwice) (OfWord t) (OfWord (given_tree g)))
add_twice_given t sum last d None e f h = tt
add_twice_given t sum last d (Some g) e f (x, c, is, gives) = (letters x x c d Add Sx4, refl, e ∙ (λ j. Bin Add (is j) (f j)), gives)

pub turn_given : (t a b : WordTree) (c : ℕ) (o : Option Given) → t ≡ Bin Add a b → a ≡ Const c
    → IfSome o (λ g. (is_constant b ≡ false) × (given_tree g ≡ Bin Add b (Const c)))
    → IfSome o (λ g. LawGives (law_of Turn) (OfWord t) (OfWord (given_tree g)))
turn_given t a b c None e f h = tt
turn_given t a b c (Some g) e f h = (letters b b c 0 Add Sx4, (λ j. not (h.0 j)), e ∙ (λ j. Bin Add (f j) b), h.1)

-- ---- the list of shapes

mapped_at : {A B : Type 0} (f : A → B) (xs : List A) (i : ℕ) → option_map f (slice_get xs i) ≡ slice_get (map f xs) i
mapped_at f [] i = refl
mapped_at f (x ∷ xs) zero = refl
mapped_at f (x ∷ xs) (suc i) = mapped_at f xs i

pub shapes_at : (n : ℕ) → (n ≡ 0 → ⊥) → option_map law_of (slice_get SHAPES (n - 1)) ≡ law_at n
shapes_at zero some = absurd (some refl)
shapes_at (suc m) some = let e : suc m - 1 ≡ m = omega arith in (λ j. option_map law_of (slice_get SHAPES (e j))) ∙ mapped_at law_of SHAPES m
