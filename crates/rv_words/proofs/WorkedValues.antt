-- The definitions compute: quotients and remainders by zero and past the end (RISC-V Unprivileged ISA 20191213, table
-- 7.1), products of both signs, and halves of words.
use Rattle.std.proofs.Common.{◌≡◌, true, false, refl}
use Rattle.rv_words.specs.Operation.{operation_value, extension_value, comparison_holds}
use Rattle.rv_words.specs.declared.operation.Op.TheVariants.{Mulh, Mulhsu, Mulhu, Div, Divu, Rem, Remu, Subw, Sraw, Divw, Divuw, Remw, Remuw}
use Rattle.rv_words.specs.declared.extension.Ext.TheVariants.{Sx1, Sx4}
use Rattle.rv_words.specs.declared.comparison.Cmp.TheVariants.{Lt, Ltu}

div_by_zero : operation_value Div 7 0 ≡ 0xffff_ffff_ffff_ffff
div_by_zero = refl

divu_by_zero : operation_value Divu 7 0 ≡ 0xffff_ffff_ffff_ffff
divu_by_zero = refl

rem_by_zero : operation_value Rem 0xffff_ffff_ffff_fff9 0 ≡ 0xffff_ffff_ffff_fff9
rem_by_zero = refl

remu_by_zero : operation_value Remu 7 0 ≡ 7
remu_by_zero = refl

div_past_end : operation_value Div 0x8000_0000_0000_0000 0xffff_ffff_ffff_ffff ≡ 0x8000_0000_0000_0000
div_past_end = refl

rem_past_end : operation_value Rem 0x8000_0000_0000_0000 0xffff_ffff_ffff_ffff ≡ 0
rem_past_end = refl

-- -7 by 2 is -3, and -1 is left
div_rounds_towards_zero : operation_value Div 0xffff_ffff_ffff_fff9 2 ≡ 0xffff_ffff_ffff_fffd
div_rounds_towards_zero = refl

rem_of_negative : operation_value Rem 0xffff_ffff_ffff_fff9 2 ≡ 0xffff_ffff_ffff_ffff
rem_of_negative = refl

divw_past_end : operation_value Divw 0x8000_0000 0xffff_ffff ≡ 0xffff_ffff_8000_0000
divw_past_end = refl

divuw_by_zero : operation_value Divuw 5 0x1_0000_0000 ≡ 0xffff_ffff_ffff_ffff
divuw_by_zero = refl

remw_by_zero : operation_value Remw 0x1_8000_0001 0 ≡ 0xffff_ffff_8000_0001
remw_by_zero = refl

remuw_by_zero : operation_value Remuw 0x8000_0001 0 ≡ 0xffff_ffff_8000_0001
remuw_by_zero = refl

-- the product of -1 and -1, of -1 and 2 ^ 64 - 1, and of 2 ^ 64 - 1 and itself
mulh_of_ones : operation_value Mulh 0xffff_ffff_ffff_ffff 0xffff_ffff_ffff_ffff ≡ 0
mulh_of_ones = refl

mulhsu_of_ones : operation_value Mulhsu 0xffff_ffff_ffff_ffff 0xffff_ffff_ffff_ffff ≡ 0xffff_ffff_ffff_ffff
mulhsu_of_ones = refl

mulhu_of_ones : operation_value Mulhu 0xffff_ffff_ffff_ffff 0xffff_ffff_ffff_ffff ≡ 0xffff_ffff_ffff_fffe
mulhu_of_ones = refl

subw_below_zero : operation_value Subw 0x1_0000_0000 1 ≡ 0xffff_ffff_ffff_ffff
subw_below_zero = refl

sraw_of_half : operation_value Sraw 0x8000_0000 0x3f ≡ 0xffff_ffff_ffff_ffff
sraw_of_half = refl

sx1_of_byte : extension_value Sx1 0x1ff ≡ 0xffff_ffff_ffff_ffff
sx1_of_byte = refl

sx4_of_half : extension_value Sx4 0x7fff_ffff ≡ 0x7fff_ffff
sx4_of_half = refl

minus_one_is_less : comparison_holds Lt 0xffff_ffff_ffff_ffff 0 ≡ true
minus_one_is_less = refl

ones_are_not_less : comparison_holds Ltu 0xffff_ffff_ffff_ffff 0 ≡ false
ones_are_not_less = refl
