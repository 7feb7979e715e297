-- How terms are written: the tokens of each form, a line a rule.
--
--   W     = N | vD | ( OP W W ) | ( EXT W ) | ( LOAD M W )      the memory, the address
--   M     = mD | ( STORE M W W )                                the memory, the address, the value
--   C     = ( CMP W W ) | ( not C ) | ( IN M W )
--   OP    = add | sub | and so on, the names of `operation_name` in rv_words
--   EXT   = sx1 | sx2 | sx4
--   LOAD  = ld1 | ld2 | ld4 | ld8        likewise STORE = st1 ..,  IN = in1 ..
--   CMP   = eq | ne | lt | ge | ltu | geu
--   RANGE = ( N H )
--
-- D is a decimal, N a hexadecimal number, and H two hexadecimal digits for each byte.
use Rattle.std.specs.Prelude.{ℕ, List, [], ◌∷◌, ◌++◌, codes}
use Rattle.std.specs.Fmt.{decimal}
use Rattle.hex.specs.Hex.{encode_lower}
use Rattle.mc_text.specs.Number.{hex}
use Rattle.mc_text.specs.Tokens.{Tok, Left, Right, Atom}
use Rattle.rv_words.specs.Bytes.{bytes_of}
use Rattle.rv_words.specs.Operation.{operation_name, comparison_name}
use Rattle.rv_words.specs.declared.extension.Ext.{Ext}
use Rattle.rv_words.specs.declared.extension.Ext.TheVariants.{Sx1, Sx2, Sx4}
use Rattle.rv_words.specs.declared.width.Width.{Width}
use Rattle.rv_words.specs.declared.range.Range.{Range}
use Rattle.word_terms.specs.Tree.{WordTree, Const, Var, Bin, Extend, Load, MemTree, MemVar, Store, CondTree, Compare, Neg, Inside}

abbrev pub extension_name : Ext → List ℕ
extension_name Sx1 = codes "sx1"
extension_name Sx2 = codes "sx2"
extension_name Sx4 = codes "sx4"

-- the letters of an access, and how many bytes it has
abbrev pub access_name : List ℕ → Width → List ℕ
access_name letters width = letters ++ decimal (bytes_of width)

-- the parts, one after the other, and what stands after them
abbrev pub joined : List (List Tok) → List Tok → List Tok
joined [] end = end
joined (p ∷ ps) end = p ++ joined ps end

-- a name and the parts after it, in parentheses
abbrev pub form : List ℕ → List (List Tok) → List Tok
form name parts = Left ∷ Atom name ∷ joined parts (Right ∷ [])

abbrev mutual
  pub word_tokens : WordTree → List Tok
  word_tokens (Const n) = Atom (hex n) ∷ []
  word_tokens (Var i) = Atom (codes "v" ++ decimal i) ∷ []
  word_tokens (Bin op a b) = form (operation_name op) (word_tokens a ∷ word_tokens b ∷ [])
  word_tokens (Extend ext a) = form (extension_name ext) (word_tokens a ∷ [])
  word_tokens (Load width m a) = form (access_name (codes "ld") width) (mem_tokens m ∷ word_tokens a ∷ [])

  pub mem_tokens : MemTree → List Tok
  mem_tokens (MemVar i) = Atom (codes "m" ++ decimal i) ∷ []
  mem_tokens (Store width m a v) = form (access_name (codes "st") width) (mem_tokens m ∷ word_tokens a ∷ word_tokens v ∷ [])

abbrev pub cond_tokens : CondTree → List Tok
cond_tokens (Compare cmp a b) = form (comparison_name cmp) (word_tokens a ∷ word_tokens b ∷ [])
cond_tokens (Neg c) = form (codes "not") (cond_tokens c ∷ [])
cond_tokens (Inside width m a) = form (access_name (codes "in") width) (mem_tokens m ∷ word_tokens a ∷ [])

abbrev pub range_tokens : Range → List Tok
range_tokens r = form (hex r.at) ((Atom (encode_lower r.bytes) ∷ []) ∷ [])
