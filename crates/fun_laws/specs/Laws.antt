-- The laws by which terms are rewritten, a row each: the left side gives the right side, whatever the letters stand for.
use Rattle.std.specs.Prelude.{◌≡◌, ℕ, zero, suc, ◌+◌, ◌-◌, ◌%◌, ◌^◌, Bool, true, false, not, List, [], ◌∷◌, slice_get, Option, None}
use Rattle.rv_words.specs.Operation.{operation_value, extension_value}
use Rattle.rv_words.specs.declared.operation.Op.{Op}
use Rattle.rv_words.specs.declared.operation.Op.TheVariants.{Add, Sub, Sll, Xor, Srl, Sra, Or, And, Mul, Addw, Subw}
use Rattle.rv_words.specs.declared.extension.Ext.{Ext}
use Rattle.rv_words.specs.declared.extension.Ext.TheVariants.{Sx4}
use Rattle.rv_words.specs.declared.comparison.Cmp.TheVariants.{Eq, Ne, Lt, Ge, Ltu, Geu}
use Rattle.word_terms.specs.Tree.{WordTree, Const, Bin, Extend, MemTree, CondTree, Compare, Neg}

-- what the letters of a law stand for: x and y words, c and d constants, b a condition, op an operation, ext an extension
pub record Letters : Type 0 where
  pub x : WordTree
  pub y : WordTree
  pub c : ℕ
  pub d : ℕ
  pub b : CondTree
  pub op : Op
  pub ext : Ext

-- a law of words with what it asks of the letters, or a law of conditions
pub data Law : Type 0 where
  OfWords : (asks : Letters → Bool) (left right : Letters → WordTree) → Law
  OfConds : (left right : Letters → CondTree) → Law

abbrev pub words : (left right : Letters → WordTree) → Law
words left right = OfWords (λ l. true) left right

abbrev pub is_constant : WordTree → Bool
is_constant (Const n) = true
is_constant _ = false

abbrev pub top : ℕ
top = 2 ^ 64 - 1

-- laws 1, 2 and so on
abbrev pub laws : List Law
laws =
    words (λ l. Bin Add l.x (Const 0)) (λ l. l.x)
    ∷ words (λ l. Bin Add (Const 0) l.x) (λ l. l.x)
    ∷ words (λ l. Bin Sub l.x (Const 0)) (λ l. l.x)
    ∷ words (λ l. Bin Or l.x (Const 0)) (λ l. l.x)
    ∷ words (λ l. Bin Xor l.x (Const 0)) (λ l. l.x)
    ∷ words (λ l. Bin Mul l.x (Const 1)) (λ l. l.x)
    ∷ words (λ l. Bin And l.x (Const top)) (λ l. l.x)
    ∷ words (λ l. Bin And l.x (Const 0)) (λ l. Const 0)
    ∷ words (λ l. Bin Mul l.x (Const 0)) (λ l. Const 0)
    ∷ words (λ l. Bin Xor l.x l.x) (λ l. Const 0)
    ∷ words (λ l. Bin Sub l.x l.x) (λ l. Const 0)
    ∷ words (λ l. Bin And l.x l.x) (λ l. l.x)
    ∷ words (λ l. Bin Or l.x l.x) (λ l. l.x)
    ∷ words (λ l. Bin l.op (Const l.c) (Const l.d)) (λ l. Const (operation_value l.op l.c l.d))
    ∷ words (λ l. Extend l.ext (Const l.c)) (λ l. Const (extension_value l.ext l.c))
    ∷ words (λ l. Bin Add (Bin Add l.x (Const l.c)) (Const l.d)) (λ l. Bin Add l.x (Const ((l.c + l.d) % 2 ^ 64)))
    ∷ words (λ l. Bin Sll l.x (Const 0)) (λ l. l.x)
    ∷ words (λ l. Bin Srl l.x (Const 0)) (λ l. l.x)
    ∷ words (λ l. Bin Sra l.x (Const 0)) (λ l. l.x)
    ∷ words (λ l. Extend Sx4 (Extend Sx4 l.x)) (λ l. Extend Sx4 l.x)
    ∷ words (λ l. Extend Sx4 (Bin Addw l.x l.y)) (λ l. Bin Addw l.x l.y)
    ∷ words (λ l. Extend Sx4 (Bin Subw l.x l.y)) (λ l. Bin Subw l.x l.y)
    ∷ words (λ l. Bin Addw l.x (Const 0)) (λ l. Extend Sx4 l.x)
    ∷ OfWords (λ l. not (is_constant l.x)) (λ l. Bin Add (Const l.c) l.x) (λ l. Bin Add l.x (Const l.c))
    ∷ OfConds (λ l. Neg (Compare Eq l.x l.y)) (λ l. Compare Ne l.x l.y)
    ∷ OfConds (λ l. Neg (Compare Ne l.x l.y)) (λ l. Compare Eq l.x l.y)
    ∷ OfConds (λ l. Neg (Compare Lt l.x l.y)) (λ l. Compare Ge l.x l.y)
    ∷ OfConds (λ l. Neg (Compare Ge l.x l.y)) (λ l. Compare Lt l.x l.y)
    ∷ OfConds (λ l. Neg (Compare Ltu l.x l.y)) (λ l. Compare Geu l.x l.y)
    ∷ OfConds (λ l. Neg (Compare Geu l.x l.y)) (λ l. Compare Ltu l.x l.y)
    ∷ OfConds (λ l. Neg (Neg l.b)) (λ l. l.b)
    ∷ []

-- the law of that number; they are counted from 1
abbrev pub law_at : ℕ → Option Law
law_at zero = None
law_at (suc n) = slice_get laws n

-- a term of any kind
pub data Term : Type 0 where
  OfWord : (t : WordTree) → Term
  OfMem : (m : MemTree) → Term
  OfCond : (c : CondTree) → Term

-- the law gives the second term of the first
abbrev pub LawGives : Law → Term → Term → Type 0
LawGives (OfWords asks left right) (OfWord t) (OfWord u) = (l : Letters) × (asks l ≡ true) × (t ≡ left l) × (u ≡ right l)
LawGives (OfConds left right) (OfCond t) (OfCond u) = (l : Letters) × (t ≡ left l) × (u ≡ right l)
LawGives _ _ _ = ⊥
