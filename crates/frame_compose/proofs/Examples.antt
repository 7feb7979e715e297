-- Rows of small triples, which compute.
use Rattle.std.proofs.Common.{◌≡◌, ℕ, zero, suc, List, [], ◌∷◌, refl, ap, get_or, inl, inr, arith}
use Rattle.std.specs.List.{Contains}
use Rattle.rv_words.specs.declared.operation.Op.TheVariants.{Add, And}
use Rattle.rv_words.specs.declared.comparison.Cmp.TheVariants.{Eq}
use Rattle.word_terms.specs.Tree.{WordTree, Const, Var, Bin, Compare}
use Rattle.rv_words.specs.declared.range.Range.{Range}
use Rattle.sep_assert.specs.Tree.{AssertionTree}
use Rattle.triple_kernel.specs.Tree.{FactTree, WordIs, So}
use Rattle.frame_compose.specs.Rules.{IsFramed, AreMissing}

-- `add x10,x10,x11` at 0x10000, and `jalr x0,0(x1)` after it
abbrev sum : WordTree
sum = Bin Add (Var 1) (Var 2)

abbrev next : WordTree
next = Bin And (Bin Add (Var 0) (Const 0)) (Const 0xfffffffffffffffe)

abbrev aligned : FactTree
aligned = So (Compare Eq (Bin And (Bin Add (Var 0) (Const 0)) (Const 2)) (Const 0))

abbrev add : List Range
add = record { at = 0x10000; bytes = 0x33 ∷ 0x05 ∷ 0xb5 ∷ 0x00 ∷ [] } ∷ []

abbrev ret : List Range
ret = record { at = 0x10004; bytes = 0x67 ∷ 0x80 ∷ 0x00 ∷ 0x00 ∷ [] } ∷ []

abbrev at : WordTree → List (ℕ × WordTree) → AssertionTree
at pc regs = record { pc = pc; regs = regs; mems = [] }

-- x1 is further to the first, x10 and x11 to the second
added : IsFramed
    (record { facts = []; pre = at (Const 0x10000) ((10, Var 1) ∷ (11, Var 2) ∷ []); code = add; post = at (Const 0x10004) ((10, sum) ∷ (11, Var 2) ∷ []) })
    (record { facts = []; pre = at (Const 0x10000) ((1, Var 0) ∷ (10, Var 1) ∷ (11, Var 2) ∷ []); code = add; post = at (Const 0x10004) ((1, Var 0) ∷ (10, sum) ∷ (11, Var 2) ∷ []) })
added = record { facts = refl; code = refl; pre_pc = refl; post_pc = refl; pre_regs = refl; post_regs = refl; further_regs = refl; pre_mems = refl; post_mems = refl }

returned : IsFramed
    (record { facts = aligned ∷ []; pre = at (Const 0x10004) ((1, Var 0) ∷ []); code = ret; post = at next ((1, Var 0) ∷ []) })
    (record { facts = aligned ∷ []; pre = at (Const 0x10004) ((1, Var 0) ∷ (10, Var 3) ∷ (11, Var 2) ∷ []); code = ret; post = at next ((1, Var 0) ∷ (10, Var 3) ∷ (11, Var 2) ∷ []) })
returned = record { facts = refl; code = refl; pre_pc = refl; post_pc = refl; pre_regs = refl; post_regs = refl; further_regs = refl; pre_mems = refl; post_mems = refl }

differ : sum ≡ Var 1 → ⊥
differ e = cc

-- the premise's own register can't keep its old term
kept : IsFramed
    (record { facts = []; pre = at (Const 0x10000) ((10, Var 1) ∷ (11, Var 2) ∷ []); code = add; post = at (Const 0x10004) ((10, sum) ∷ (11, Var 2) ∷ []) })
    (record { facts = []; pre = at (Const 0x10000) ((1, Var 0) ∷ (10, Var 1) ∷ (11, Var 2) ∷ []); code = add; post = at (Const 0x10004) ((1, Var 0) ∷ (10, Var 1) ∷ (11, Var 2) ∷ []) })
    → ⊥
kept is =
    let same : sum ≡ Var 1 = ap (λ (rs : List (ℕ × WordTree)). (get_or {A = ℕ × WordTree} rs 0 (0, Const 0)).1) is.post_regs in
    differ same

-- ---- facts

abbrev a : FactTree
a = WordIs (Var 0) (Var 1)

abbrev b : FactTree
b = WordIs (Var 2) (Var 3)

abbrev c : FactTree
c = WordIs (Var 4) (Var 5)

only : (x y : FactTree) → (x ≡ y → ⊥) → Contains (x ∷ []) y → ⊥
only x y apart (zero, lt, e) = apart e
only x y apart (suc k, lt, e) = absurd (omega arith)

-- what is known is left out, and what stands twice stays twice
twice : AreMissing (a ∷ []) (b ∷ a ∷ b ∷ c ∷ []) (b ∷ b ∷ c ∷ [])
twice =
    let new_b = only a b (λ e. cc) in
    let new_c = only a c (λ e. cc) in
    inr (new_b, (refl, inl ((0, omega arith, refl), inr (new_b, (refl, inr (new_c, (refl, refl)))))))

once : AreMissing (a ∷ []) (b ∷ b ∷ []) (b ∷ []) → ⊥
once are = elim are [ inl known ↦ only a b (λ e. cc) known.0 | inr new ↦ elim new.1.1 [ inl known ↦ only a b (λ e. cc) known.0 | inr again ↦ again.1 ] ]
