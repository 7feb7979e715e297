-- The functions of operations and accesses have their sorts.
use Rattle.std.proofs.Common.{◌≡◌, ℕ, zero, suc, [], ◌∷◌, codes, Option, Some, None, refl}
use Rattle.rv_words.specs.declared.operation.Op.{Op}
use Rattle.rv_words.specs.declared.operation.Op.TheVariants.{Add, Sub, Sll, Slt, Sltu, Xor, Srl, Sra, Or, And, Mul, Mulh, Mulhsu, Mulhu, Div, Divu, Rem, Remu, Addw, Subw, Sllw, Srlw, Sraw, Mulw, Divw, Divuw, Remw, Remuw}
use Rattle.rv_words.specs.declared.extension.Ext.{Ext}
use Rattle.rv_words.specs.declared.extension.Ext.TheVariants.{Sx1, Sx2, Sx4}
use Rattle.rv_words.specs.declared.width.Width.{Width}
use Rattle.rv_words.specs.declared.width.Width.TheVariants.{B1, B2, B4, B8}
use Rattle.smt_terms.specs.declared.sort.Sort.{Sort}
use Rattle.smt_terms.specs.declared.sort.Sort.TheVariants as sort
use Rattle.smt_terms.specs.Operators.{truths_rule}
use Rattle.smt_terms.specs.Meaning.{no_names}
use Rattle.smt_terms.specs.Symbols.{IsSymbol}
use Rattle.smt_terms.specs.Sorts.{Rules, atom_sort, sort_of, applied_sort, sorts_with, rules_after, IsFun, AreFuns}
use Rattle.smt_terms.specs.Helpers.{operation_expr}
use Rattle.smt_terms.specs.Accesses.{extension_expr, load_expr, store_expr, inside_expr}
use Rattle.smt_terms.specs.Functions.{op_name, ext_name, load_name, store_name, inside_name, op_fun, ext_fun, load_fun, store_fun, inside_fun, helpers}
use Rattle.smt_terms.specs.Knowing.{word_sort, bytes_sort, domain_sort, KnowsRules}

-- so many truths, and a last one
abbrev ands : ℕ → Option Sort → Option Sort
ands zero last = last
ands (suc n) last = truths_rule (Some sort.Bool ∷ ands n last ∷ [])

module _ (fs : Rules) where
  op_sort : (op : Op) → sort_of fs (sorts_with no_names (op_fun op).params) (operation_expr op) ≡ word_sort
  op_sort Add = refl
  op_sort Sub = refl
  op_sort Sll = refl
  op_sort Slt = refl
  op_sort Sltu = refl
  op_sort Xor = refl
  op_sort Srl = refl
  op_sort Sra = refl
  op_sort Or = refl
  op_sort And = refl
  op_sort Mul = refl
  op_sort Mulh = refl
  op_sort Mulhsu = refl
  op_sort Mulhu = refl
  op_sort Div = refl
  op_sort Divu = refl
  op_sort Rem = refl
  op_sort Remu = refl
  op_sort Addw = refl
  op_sort Subw = refl
  op_sort Sllw = refl
  op_sort Srlw = refl
  op_sort Sraw = refl
  op_sort Mulw = refl
  op_sort Divw = refl
  op_sort Divuw = refl
  op_sort Remw = refl
  op_sort Remuw = refl

  ext_sort : (ext : Ext) → sort_of fs (sorts_with no_names (ext_fun ext).params) (extension_expr ext) ≡ word_sort
  ext_sort Sx1 = refl
  ext_sort Sx2 = refl
  ext_sort Sx4 = refl

  load_sort : (width : Width) → sort_of fs (sorts_with no_names (load_fun width).params) (load_expr width) ≡ word_sort
  load_sort B1 = refl
  load_sort B2 = refl
  load_sort B4 = refl
  load_sort B8 = refl

  store_sort : (width : Width) → sort_of fs (sorts_with no_names (store_fun width).params) (store_expr width) ≡ bytes_sort
  store_sort B1 = refl
  store_sort B2 = refl
  store_sort B4 = refl
  store_sort B8 = refl

  inside_sort : (width : Width) → fs (codes "true") ≡ None → sort_of fs (sorts_with no_names (inside_fun width).params) (inside_expr width) ≡ Some sort.Bool
  inside_sort B1 t = λ j. ands 1 (atom_sort None (t j) (codes "true"))
  inside_sort B2 t = λ j. ands 2 (atom_sort None (t j) (codes "true"))
  inside_sort B4 t = λ j. ands 4 (atom_sort None (t j) (codes "true"))
  inside_sort B8 t = λ j. ands 8 (atom_sort None (t j) (codes "true"))

  op_is : (op : Op) → fs (op_name op) ≡ None → IsSymbol (op_name op) → IsFun fs (op_fun op)
  op_is op new symbol = record { new = new; symbol = symbol; named = refl; params = ((refl, refl), ((refl, refl), tt)); sort = refl; body = op_sort op }

  ext_is : (ext : Ext) → fs (ext_name ext) ≡ None → IsSymbol (ext_name ext) → IsFun fs (ext_fun ext)
  ext_is ext new symbol = record { new = new; symbol = symbol; named = refl; params = ((refl, refl), tt); sort = refl; body = ext_sort ext }

  load_is : (width : Width) → fs (load_name width) ≡ None → IsSymbol (load_name width) → IsFun fs (load_fun width)
  load_is width new symbol = record { new = new; symbol = symbol; named = refl; params = ((refl, refl), ((refl, refl), ((refl, refl), tt))); sort = refl; body = load_sort width }

  store_is : (width : Width) → fs (store_name width) ≡ None → IsSymbol (store_name width) → IsFun fs (store_fun width)
  store_is width new symbol = record { new = new; symbol = symbol; named = refl; params = ((refl, refl), ((refl, refl), ((refl, refl), tt))); sort = refl; body = store_sort width }

  inside_is : (width : Width) → fs (inside_name width) ≡ None → IsSymbol (inside_name width) → fs (codes "true") ≡ None → IsFun fs (inside_fun width)
  inside_is width new symbol truth = record { new = new; symbol = symbol; named = refl; params = ((refl, refl), ((refl, refl), tt)); sort = refl; body = inside_sort width truth }

pub helpers-are : AreFuns no_names helpers
helpers-are = (
  op_is _ Add refl refl,
  (
    op_is _ Sub refl refl,
    (
      op_is _ Sll refl refl,
      (
        op_is _ Slt refl refl,
        (
          op_is _ Sltu refl refl,
          (
            op_is _ Xor refl refl,
            (
              op_is _ Srl refl refl,
              (
                op_is _ Sra refl refl,
                (
                  op_is _ Or refl refl,
                  (
                    op_is _ And refl refl,
                    (
                      op_is _ Mul refl refl,
                      (
                        op_is _ Mulh refl refl,
                        (
                          op_is _ Mulhsu refl refl,
                          (
                            op_is _ Mulhu refl refl,
                            (
                              op_is _ Div refl refl,
                              (
                                op_is _ Divu refl refl,
                                (
                                  op_is _ Rem refl refl,
                                  (
                                    op_is _ Remu refl refl,
                                    (
                                      op_is _ Addw refl refl,
                                      (
                                        op_is _ Subw refl refl,
                                        (
                                          op_is _ Sllw refl refl,
                                          (
                                            op_is _ Srlw refl refl,
                                            (
                                              op_is _ Sraw refl refl,
                                              (
                                                op_is _ Mulw refl refl,
                                                (
                                                  op_is _ Divw refl refl,
                                                  (
                                                    op_is _ Divuw refl refl,
                                                    (
                                                      op_is _ Remw refl refl,
                                                      (
                                                        op_is _ Remuw refl refl,
                                                        (
                                                          ext_is _ Sx1 refl refl,
                                                          (
                                                            ext_is _ Sx2 refl refl,
                                                            (
                                                              ext_is _ Sx4 refl refl,
                                                              (
                                                                load_is _ B1 refl refl,
                                                                (
                                                                  load_is _ B2 refl refl,
                                                                  (
                                                                    load_is _ B4 refl refl,
                                                                    (
                                                                      load_is _ B8 refl refl,
                                                                      (
                                                                        store_is _ B1 refl refl,
                                                                        (
                                                                          store_is _ B2 refl refl,
                                                                          (
                                                                            store_is _ B4 refl refl,
                                                                            (
                                                                              store_is _ B8 refl refl,
                                                                              (
                                                                                inside_is _ B1 refl refl refl,
                                                                                (
                                                                                  inside_is _ B2 refl refl refl,
                                                                                  (
                                                                                    inside_is _ B4 refl refl refl,
                                                                                    (inside_is _ B8 refl refl refl, tt),
                                                                                  ),
                                                                                ),
                                                                              ),
                                                                            ),
                                                                          ),
                                                                        ),
                                                                      ),
                                                                    ),
                                                                  ),
                                                                ),
                                                              ),
                                                            ),
                                                          ),
                                                        ),
                                                      ),
                                                    ),
                                                  ),
                                                ),
                                              ),
                                            ),
                                          ),
                                        ),
                                      ),
                                    ),
                                  ),
                                ),
                              ),
                            ),
                          ),
                        ),
                      ),
                    ),
                  ),
                ),
              ),
            ),
          ),
        ),
      ),
    ),
  ),
)

abbrev pub base_rules : Rules
base_rules = rules_after no_names helpers

op_rule : (op : Op) → applied_sort base_rules (op_name op) (word_sort ∷ word_sort ∷ []) ≡ word_sort
op_rule Add = refl
op_rule Sub = refl
op_rule Sll = refl
op_rule Slt = refl
op_rule Sltu = refl
op_rule Xor = refl
op_rule Srl = refl
op_rule Sra = refl
op_rule Or = refl
op_rule And = refl
op_rule Mul = refl
op_rule Mulh = refl
op_rule Mulhsu = refl
op_rule Mulhu = refl
op_rule Div = refl
op_rule Divu = refl
op_rule Rem = refl
op_rule Remu = refl
op_rule Addw = refl
op_rule Subw = refl
op_rule Sllw = refl
op_rule Srlw = refl
op_rule Sraw = refl
op_rule Mulw = refl
op_rule Divw = refl
op_rule Divuw = refl
op_rule Remw = refl
op_rule Remuw = refl

ext_rule : (ext : Ext) → applied_sort base_rules (ext_name ext) (word_sort ∷ []) ≡ word_sort
ext_rule Sx1 = refl
ext_rule Sx2 = refl
ext_rule Sx4 = refl

load_rule : (width : Width) → applied_sort base_rules (load_name width) (bytes_sort ∷ domain_sort ∷ word_sort ∷ []) ≡ word_sort
load_rule B1 = refl
load_rule B2 = refl
load_rule B4 = refl
load_rule B8 = refl

store_rule : (width : Width) → applied_sort base_rules (store_name width) (bytes_sort ∷ word_sort ∷ word_sort ∷ []) ≡ bytes_sort
store_rule B1 = refl
store_rule B2 = refl
store_rule B4 = refl
store_rule B8 = refl

inside_rule : (width : Width) → applied_sort base_rules (inside_name width) (domain_sort ∷ word_sort ∷ []) ≡ Some sort.Bool
inside_rule B1 = refl
inside_rule B2 = refl
inside_rule B4 = refl
inside_rule B8 = refl

pub helpers-know_rules : KnowsRules base_rules
helpers-know_rules = record { operation = op_rule; extension = ext_rule; loads = load_rule; stores = store_rule; insides = inside_rule; truth = refl }
