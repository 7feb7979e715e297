-- Terms' expressions have the terms' values.
use Rattle.std.proofs.Common.{◌≡◌, ℕ, ◌<◌, ◌^◌, ◌%◌, not, List, [], ◌∷◌, Some, refl, sym, ap, subst, ◌∙◌, arith, nat_lt, nat_le, ℤ, pos, negsuc}
use Rattle.std.specs.Prelude.{int_lt, int_le}
use Rattle.smt_terms.proofs.Numerals.{numeral-decimal}
use Rattle.rv_words.specs.Operation.{comparison_holds, signed}
use Rattle.rv_words.specs.declared.comparison.Cmp.{Cmp}
use Rattle.rv_words.specs.declared.comparison.Cmp.TheVariants.{Eq, Ne, Lt, Ge, Ltu, Geu}
use Rattle.word_terms.specs.Tree.{WordTree, Const, Var, Bin, Extend, Load, MemTree, MemVar, Store, CondTree, Compare, Neg, Inside}
use Rattle.word_terms.specs.Environment.{Environment, IsInRange}
use Rattle.word_terms.specs.Scope.{WordInScope, MemInScope, CondInScope, WordInRange, MemInRange, CondInRange}
use Rattle.word_terms.specs.Value.{word_value, mem_value, cond_holds}
use Rattle.word_terms.proofs.Ranges.{word_in_range}
use Rattle.smt_terms.specs.Expression.{Expr, Atom, word}
use Rattle.smt_terms.specs.Operators.{Value, Bits, Truth, of_truth, of_two, same, less_signed}
use Rattle.smt_terms.specs.Meaning.{Functions, Variables, value, applied, atom_value, literal_of}
use Rattle.smt_terms.specs.Memory.{IsMemoryOf}
use Rattle.smt_export.specs.Told.{word_name, mem_name, dom_name}
use Rattle.smt_terms.specs.Functions.{op_name, ext_name, load_name, store_name, inside_name}
use Rattle.smt_terms.specs.Knowing.{Knows}
use Rattle.smt_export.specs.Terms.{word_expr, mem_expr, dom_expr, compare_expr, cond_expr}
use Rattle.smt_export.specs.inner.Telling.{Tells}
use Rattle.smt_terms.proofs.Signs.{less}

pub word-is : (fs : Functions) (s : Variables) (n : ℕ) → n < 2 ^ 64 → value fs s (word n) ≡ Bits 64 n
word-is fs s n h = (λ j. literal_of (numeral-decimal n h j) (Some 64)) ∙ (let small : n % 2 ^ 64 ≡ n = omega arith in ap (Bits 64) small)

pub known : (fs : Functions) (s : Variables) (name : List ℕ) (v : Value) → s name ≡ Some v → value fs s (Atom name) ≡ v
known fs s name v is = λ j. atom_value (is j) (fs name) name

not_below : (a b : ℕ) → not (nat_lt a b) ≡ nat_le b a
not_below a b = grind arith

not_less : (a b : ℤ) → not (int_lt a b) ≡ int_le b a
not_less (pos a) (pos b) = not_below a b
not_less (pos a) (negsuc b) = refl
not_less (negsuc a) (pos b) = refl
not_less (negsuc a) (negsuc b) = not_below b a

module _ (fs : Functions) (k : Knows fs) (e : Environment) (r : IsInRange e) (s : Variables) (t : Tells e s) where
  mutual
    pub word_expr-is : (x : WordTree) → WordInScope x e.words e.mems → WordInRange x → value fs s (word_expr x) ≡ Bits 64 (word_value x e)
    word_expr-is (Const n) scope range = word-is fs s n range
    word_expr-is (Var i) scope range = known fs s (word_name i) (Bits 64 (e.word i)) (t.words i scope)
    word_expr-is (Bin op a b) scope range =
        (λ j. applied fs (op_name op) (word_expr-is a scope.0 range.0 j ∷ word_expr-is b scope.1 range.1 j ∷ []))
        ∙ k.operation op (word_value a e) (word_value b e) (word_in_range e r a range.0) (word_in_range e r b range.1)
    word_expr-is (Extend ext a) scope range = (λ j. applied fs (ext_name ext) (word_expr-is a scope range j ∷ [])) ∙ k.extension ext (word_value a e)
    word_expr-is (Load width m a) scope range =
        (λ j. applied fs (load_name width) (value fs s (mem_expr m) ∷ value fs s (dom_expr m) ∷ word_expr-is a scope.1 range.1 j ∷ []))
        ∙ k.loads width (mem_value m e) (value fs s (mem_expr m)) (value fs s (dom_expr m)) (word_value a e) (mem_expr-is m scope.0 range.0) (word_in_range e r a range.1)

    pub mem_expr-is : (x : MemTree) → MemInScope x e.words e.mems → MemInRange x → IsMemoryOf (mem_value x e) (value fs s (mem_expr x)) (value fs s (dom_expr x))
    mem_expr-is (MemVar i) scope range =
        let is = t.mems i scope in
        subst (λ v. IsMemoryOf (e.mem i) v (value fs s (Atom (dom_name i)))) (sym (known fs s (mem_name i) is.0 is.2))
        (subst (λ v. IsMemoryOf (e.mem i) is.0 v) (sym (known fs s (dom_name i) is.1 is.3)) is.4)
    mem_expr-is (Store width m a v) scope range =
        subst (λ w. IsMemoryOf (mem_value (Store width m a v) e) w (value fs s (dom_expr m)))
        (sym (λ j. applied fs (store_name width) (value fs s (mem_expr m) ∷ word_expr-is a scope.1 range.1 j ∷ word_expr-is v scope.2 range.2 j ∷ [])))
        (k.stores width (mem_value m e) (value fs s (mem_expr m)) (value fs s (dom_expr m)) (word_value a e) (word_value v e) (mem_expr-is m scope.0 range.0)
        (word_in_range e r a range.1) (word_in_range e r v range.2))

  compared : (cmp : Cmp) (x y : Expr) (a b : ℕ) → value fs s x ≡ Bits 64 a → value fs s y ≡ Bits 64 b → a < 2 ^ 64 → b < 2 ^ 64
      → value fs s (compare_expr cmp x y) ≡ Truth (comparison_holds cmp a b)
  compared Eq x y a b p q h l = λ j. same (p j ∷ q j ∷ [])
  compared Ne x y a b p q h l = λ j. of_truth (λ a. Truth (not a)) (same (p j ∷ q j ∷ []) ∷ [])
  compared Lt x y a b p q h l = (λ j. of_two (λ w a b. Truth (less_signed w a b)) (p j ∷ q j ∷ [])) ∙ ap Truth (less 64 a b h l)
  compared Ge x y a b p q h l = (λ j. of_truth (λ a. Truth (not a)) (of_two (λ w a b. Truth (less_signed w a b)) (p j ∷ q j ∷ []) ∷ [])) ∙ ap (λ t. Truth (not t)) (less 64 a b h l) ∙ ap Truth (not_less (signed a) (signed b))
  compared Ltu x y a b p q h l = λ j. of_two (λ w a b. Truth (nat_lt a b)) (p j ∷ q j ∷ [])
  compared Geu x y a b p q h l = (λ j. of_truth (λ a. Truth (not a)) (of_two (λ w a b. Truth (nat_lt a b)) (p j ∷ q j ∷ []) ∷ [])) ∙ ap Truth (not_below a b)

  pub cond_expr-is : (c : CondTree) → CondInScope c e.words e.mems → CondInRange c → value fs s (cond_expr c) ≡ Truth (cond_holds c e)
  cond_expr-is (Compare cmp a b) scope range =
      compared cmp (word_expr a) (word_expr b) (word_value a e) (word_value b e) (word_expr-is a scope.0 range.0) (word_expr-is b scope.1 range.1)
      (word_in_range e r a range.0) (word_in_range e r b range.1)
  cond_expr-is (Neg c) scope range = λ j. of_truth (λ a. Truth (not a)) (cond_expr-is c scope range j ∷ [])
  cond_expr-is (Inside width m a) scope range =
      (λ j. applied fs (inside_name width) (value fs s (dom_expr m) ∷ word_expr-is a scope.1 range.1 j ∷ []))
      ∙ k.insides width (mem_value m e) (value fs s (mem_expr m)) (value fs s (dom_expr m)) (word_value a e) (mem_expr-is m scope.0 range.0) (word_in_range e r a range.1)
