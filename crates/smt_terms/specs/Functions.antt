-- The functions of operations and accesses.
use Rattle.std.specs.Prelude.{ℕ, List, [], ◌∷◌, ◌++◌, map, codes}
use Rattle.rv_words.specs.Operation.{operation_name}
use Rattle.rv_words.specs.declared.operation.Op.{Op}
use Rattle.rv_words.specs.declared.operation.Op.TheVariants.{Add, Sub, Sll, Slt, Sltu, Xor, Srl, Sra, Or, And, Mul, Mulh, Mulhsu, Mulhu, Div, Divu, Rem, Remu, Addw, Subw, Sllw, Srlw, Sraw, Mulw, Divw, Divuw, Remw, Remuw}
use Rattle.rv_words.specs.declared.extension.Ext.{Ext}
use Rattle.rv_words.specs.declared.extension.Ext.TheVariants.{Sx1, Sx2, Sx4}
use Rattle.rv_words.specs.declared.width.Width.{Width}
use Rattle.rv_words.specs.declared.width.Width.TheVariants.{B1, B2, B4, B8}
use Rattle.smt_terms.specs.declared.sort.Sort.TheVariants as sort
use Rattle.smt_terms.specs.Meaning.{FunTree}
use Rattle.smt_terms.specs.Helpers.{operation_expr}
use Rattle.smt_terms.specs.Accesses.{extension_expr, load_expr, store_expr, inside_expr}

abbrev pub op_name : Op → List ℕ
op_name op = codes "rv_" ++ operation_name op

abbrev pub ext_digit : Ext → List ℕ
ext_digit Sx1 = codes "1"
ext_digit Sx2 = codes "2"
ext_digit Sx4 = codes "4"

abbrev pub width_digit : Width → List ℕ
width_digit B1 = codes "1"
width_digit B2 = codes "2"
width_digit B4 = codes "4"
width_digit B8 = codes "8"

abbrev pub ext_name : Ext → List ℕ
ext_name ext = codes "rv_sx" ++ ext_digit ext

abbrev pub load_name : Width → List ℕ
load_name width = codes "rv_ld" ++ width_digit width

abbrev pub store_name : Width → List ℕ
store_name width = codes "rv_st" ++ width_digit width

abbrev pub inside_name : Width → List ℕ
inside_name width = codes "rv_in" ++ width_digit width

abbrev pub op_fun : Op → FunTree
op_fun op = record { name = op_name op; params = (codes "a", sort.Bits 64) ∷ (codes "b", sort.Bits 64) ∷ []; sort = sort.Bits 64; body = operation_expr op }

abbrev pub ext_fun : Ext → FunTree
ext_fun ext = record { name = ext_name ext; params = (codes "a", sort.Bits 64) ∷ []; sort = sort.Bits 64; body = extension_expr ext }

abbrev pub load_fun : Width → FunTree
load_fun width = record { name = load_name width; params = (codes "m", sort.Array 8) ∷ (codes "d", sort.Array 1) ∷ (codes "a", sort.Bits 64) ∷ []; sort = sort.Bits 64; body = load_expr width }

abbrev pub store_fun : Width → FunTree
store_fun width = record { name = store_name width; params = (codes "m", sort.Array 8) ∷ (codes "a", sort.Bits 64) ∷ (codes "v", sort.Bits 64) ∷ []; sort = sort.Array 8; body = store_expr width }

abbrev pub inside_fun : Width → FunTree
inside_fun width = record { name = inside_name width; params = (codes "d", sort.Array 1) ∷ (codes "a", sort.Bits 64) ∷ []; sort = sort.Bool; body = inside_expr width }

abbrev pub access_widths : List Width
access_widths = B1 ∷ B2 ∷ B4 ∷ B8 ∷ []

abbrev pub helpers : List FunTree
helpers =
    map op_fun (Add ∷ Sub ∷ Sll ∷ Slt ∷ Sltu ∷ Xor ∷ Srl ∷ Sra ∷ Or ∷ And ∷ Mul ∷ Mulh ∷ Mulhsu ∷ Mulhu ∷ Div ∷ Divu ∷ Rem ∷ Remu
    ∷ Addw ∷ Subw ∷ Sllw ∷ Srlw ∷ Sraw ∷ Mulw ∷ Divw ∷ Divuw ∷ Remw ∷ Remuw ∷ [])
    ++ (map ext_fun (Sx1 ∷ Sx2 ∷ Sx4 ∷ []) ++ (map load_fun access_widths ++ (map store_fun access_widths ++ map inside_fun access_widths)))
