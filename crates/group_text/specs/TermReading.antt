-- Reading terms and ranges from tokens, by computing. A term of the depth that is left is read; with none left, none is.
use Rattle.std.specs.Prelude.{ℕ, zero, suc, ◌^◌, Bool, true, false, not, List, [], ◌∷◌, take, codes, Option, Some, None, option_map, ◌==◌, if◌then◌else◌}
use Rattle.std.specs.Str.{bytes_eq}
use Rattle.mc_text.specs.Number.{number_of, hex_of}
use Rattle.mc_text.specs.Tokens.{Tok, Left, Atom}
use Rattle.mc_text.specs.Reading.{Reader, pair, with, made, one, is_left, is_right, atom_of, below, choice, refused, is_open, address_at, bytes_at}
use Rattle.rv_words.specs.Operation.{operation_name, comparison_name}
use Rattle.rv_words.specs.declared.operation.Op.{Op}
use Rattle.rv_words.specs.declared.operation.Op.TheVariants.{Add, Sub, Sll, Slt, Sltu, Xor, Srl, Sra, Or, And, Mul, Mulh, Mulhsu, Mulhu, Div, Divu, Rem, Remu, Addw, Subw, Sllw, Srlw, Sraw, Mulw, Divw, Divuw, Remw, Remuw}
use Rattle.rv_words.specs.declared.extension.Ext.{Ext}
use Rattle.rv_words.specs.declared.extension.Ext.TheVariants.{Sx1, Sx2, Sx4}
use Rattle.rv_words.specs.declared.comparison.Cmp.{Cmp}
use Rattle.rv_words.specs.declared.comparison.Cmp.TheVariants.{Eq, Ne, Lt, Ge, Ltu, Geu}
use Rattle.rv_words.specs.declared.width.Width.{Width}
use Rattle.rv_words.specs.declared.width.Width.TheVariants.{B1, B2, B4, B8}
use Rattle.rv_words.specs.declared.range.Range.{Range}
use Rattle.word_terms.specs.Tree.{WordTree, Const, Var, Bin, Extend, Load, MemTree, MemVar, Store, CondTree, Compare, Neg, Inside}
use Rattle.group_text.specs.declared.term_heads.WordHead.{WordHead}
use Rattle.group_text.specs.declared.term_heads.WordHead.TheVariants as word_head
use Rattle.group_text.specs.declared.term_heads.CondHead.{CondHead}
use Rattle.group_text.specs.declared.term_heads.CondHead.TheVariants as cond_head
use Rattle.group_text.specs.TermSpelling.{extension_name, access_name}

-- ---- names

-- the first of the items that has this name
abbrev pub named : {X : Type 0} → (X → List ℕ) → List X → List ℕ → Option X
named name [] text = None
named name (x ∷ xs) text = if bytes_eq text (name x) then Some x else named name xs text

abbrev pub operations : List Op
operations =
    Add ∷ Sub ∷ Sll ∷ Slt ∷ Sltu ∷ Xor ∷ Srl ∷ Sra ∷ Or ∷ And ∷ Mul ∷ Mulh ∷ Mulhsu ∷ Mulhu ∷ Div ∷ Divu ∷ Rem ∷ Remu
    ∷ Addw ∷ Subw ∷ Sllw ∷ Srlw ∷ Sraw ∷ Mulw ∷ Divw ∷ Divuw ∷ Remw ∷ Remuw ∷ []

abbrev pub widths : List Width
widths = B1 ∷ B2 ∷ B4 ∷ B8 ∷ []

unfoldable pub operation_of : List ℕ → Option Op
operation_of text = named operation_name operations text

unfoldable pub extension_of : List ℕ → Option Ext
extension_of text = named extension_name (Sx1 ∷ Sx2 ∷ Sx4 ∷ []) text

unfoldable pub comparison_of : List ℕ → Option Cmp
comparison_of text = named comparison_name (Eq ∷ Ne ∷ Lt ∷ Ge ∷ Ltu ∷ Geu ∷ []) text

unfoldable pub load_of : List ℕ → Option Width
load_of text = named (access_name (codes "ld")) widths text

unfoldable pub store_of : List ℕ → Option Width
store_of text = named (access_name (codes "st")) widths text

unfoldable pub inside_of : List ℕ → Option Width
inside_of text = named (access_name (codes "in")) widths text

-- the one option where it has an item, else the other
abbrev pub or_option : {X : Type 0} → Option X → Option X → Option X
or_option (Some x) other = Some x
or_option None other = other

-- which form of a word has this name
unfoldable pub word_head_of : List ℕ → Option WordHead
word_head_of text =
    or_option (option_map word_head.Bin (operation_of text)) (or_option (option_map word_head.Extend (extension_of text)) (option_map word_head.Load (load_of text)))

-- which form of a condition has this name
unfoldable pub cond_head_of : List ℕ → Option CondHead
cond_head_of text =
    or_option (option_map cond_head.Compare (comparison_of text))
    (or_option (option_map cond_head.Inside (inside_of text)) (if bytes_eq text (codes "not") then Some cond_head.Neg else None))

-- ---- constants and variables

-- the number of a variable, after its letter
abbrev pub variable_of : ℕ → List ℕ → Option ℕ
variable_of letter [] = None
variable_of letter (b ∷ text) = if b == letter then below (2 ^ 32) (number_of 10 text) else None

-- a variable or a constant
unfoldable pub word_leaf_of : List ℕ → Option WordTree
word_leaf_of text = or_option (option_map Var (variable_of 118 text)) (option_map Const (hex_of text))

unfoldable pub mem_leaf_of : List ℕ → Option MemTree
mem_leaf_of text = option_map MemVar (variable_of 109 text)

-- ---- terms

-- a name after a parenthesis
abbrev pub opened : {X : Type 0} → (List ℕ → Option X) → Reader X
opened f = made (λ x. x.1) (pair (one is_left) (one (atom_of f)))

-- what stands after the name, with the parenthesis at its end
abbrev pub word_parts : Reader WordTree → Reader MemTree → WordHead → Reader WordTree
word_parts word mem (word_head.Bin op) = made (λ x. Bin op x.0 x.1.0) (pair word (pair word (one is_right)))
word_parts word mem (word_head.Extend ext) = made (λ x. Extend ext x.0) (pair word (one is_right))
word_parts word mem (word_head.Load width) = made (λ x. Load width x.0 x.1.0) (pair mem (pair word (one is_right)))

abbrev pub mem_parts : Reader WordTree → Reader MemTree → Width → Reader MemTree
mem_parts word mem width = made (λ x. Store width x.0 x.1.0 x.1.1.0) (pair mem (pair word (pair word (one is_right))))

abbrev pub cond_parts : Reader WordTree → Reader MemTree → Reader CondTree → CondHead → Reader CondTree
cond_parts word mem cond (cond_head.Compare cmp) = made (λ x. Compare cmp x.0 x.1.0) (pair word (pair word (one is_right)))
cond_parts word mem cond (cond_head.Inside width) = made (λ x. Inside width x.0 x.1.0) (pair mem (pair word (one is_right)))
cond_parts word mem cond cond_head.Neg = made (λ x. Neg x.0) (pair cond (one is_right))

-- a name after a parenthesis, and what it leads to
abbrev pub form_of : {H X : Type 0} → (List ℕ → Option H) → (H → Reader X) → Reader X
form_of head parts = made (λ x. x.1) (with (opened head) parts)

-- a term of at most that depth
unfoldable mutual
  pub word_at : ℕ → Reader WordTree
  word_at zero = refused
  word_at (suc d) = choice is_open (form_of word_head_of (word_parts (word_at d) (mem_at d))) (one (atom_of word_leaf_of))

  pub mem_at : ℕ → Reader MemTree
  mem_at zero = refused
  mem_at (suc d) = choice is_open (form_of store_of (mem_parts (word_at d) (mem_at d))) (one (atom_of mem_leaf_of))

unfoldable pub cond_at : ℕ → Reader CondTree
cond_at zero = refused
cond_at (suc d) = form_of cond_head_of (cond_parts (word_at d) (mem_at d) (cond_at d))

unfoldable pub range_at : Reader Range
range_at = made (λ x. record { at = x.1.0; bytes = x.1.1.0 }) (pair (one is_left) (pair address_at (pair bytes_at (one is_right))))

-- ---- lists

-- whether the atom begins with an m
abbrev pub begins_with_m : List ℕ → Bool
begins_with_m a = bytes_eq (take 1 a) (codes "m")

-- tokens that a word begins with
abbrev pub begins_word : Tok → Bool
begins_word Left = true
begins_word (Atom a) = not (begins_with_m a)
begins_word _ = false

-- tokens that a memory begins with
abbrev pub begins_mem : Tok → Bool
begins_mem Left = true
begins_mem (Atom a) = begins_with_m a
begins_mem _ = false
