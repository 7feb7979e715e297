-- Decoding and encoding are inverse to each other.
use Rattle.std.proofs.Common.{◌≡◌, ℕ, zero, suc, ◌^◌, ◌<◌, Bool, true, false, cond, ◌↔◌, Option, Some, None, List, [], ◌∷◌, length, get_or, refl, sym, ap, subst, ◌∙◌, arith}
use Rattle.std.specs.Prelude.{◌&&◌, nat_lt, IsTrue, IsSome, IfSome}
use Rattle.std.proofs.lemmas.Bool.{ltb-true, false≢true}
use Rattle.rv_decode.specs.declared.instruction.Instr.{Instr}
use Rattle.rv_decode.specs.declared.instruction.Instr.TheVariants.{Op, OpImm, Lui, Auipc, Jal, Jalr, Branch, Load, Store, Fence, Ecall, Ebreak}
use Rattle.rv_decode.specs.Decodes.{table, fits, decoded, Decodes, IsOneToOne, NamesRegisters}
use Rattle.rv_decode.specs.Ranges.{is_register, has_bits, is_offset, takes_immediate, may_load, is_encodable}
use Rattle.rv_decode.specs.Encodes.{word_of, encoded}
use Rattle.rv_decode.proofs.RowLemmas.{Row, and_true}
use Rattle.rv_decode.proofs.TableLemmas.{decoded-Decodes}
use Rattle.rv_decode.proofs.BackLemmas.{Back, AllGive, all_give}
use Rattle.rv_decode.proofs.ForthLemmas.{forth}

row_back : (w : ℕ) (rs : List Row) → AllGive w rs → (k : ℕ) (r : Row) → k < length rs → get_or rs k r ≡ r → fits w r.0 ≡ true → Back w (r.1 w)
row_back w [] all k r l at met = absurd (omega arith)
row_back w (q ∷ rs) all zero r l at met = subst (λ s. Back w (s.1 w)) at (all.0 (ap (λ s. fits w s.0) at ∙ met))
row_back w (q ∷ rs) all (suc k) r l at met = row_back w rs all.1 k r (omega arith) at met

-- what a word decodes to has its fields in their ranges, and that word
back : (w : ℕ) (i : Instr) → w < 2 ^ 32 → Decodes w i → Back w i
unfolding Decodes
back w i below (k, r, l, at, (met, gives)) = subst (Back w) gives (row_back w table (all_give w below) k r l at met)

-- ---- the clauses of `decode` on ranges

register : (n : ℕ) → is_register n ≡ true → n < 32
register n h = ltb-true n 32 h

-- two registers, and a third part
two : (a b : ℕ) (t : Bool) → (is_register a && is_register b && t) ≡ true → (a < 32) × (b < 32) × (t ≡ true)
two a b t h =
    let outer = and_true (is_register a && is_register b) t h in
    let inner = and_true (is_register a) (is_register b) outer.0 in
    (register a inner.0, register b inner.1, outer.1)

pub named : (i : Instr) → is_encodable i ≡ true → NamesRegisters i
named (Op o d a b) h = let r = two d a (is_register b) h in (r.0, r.1, register b r.2)
named (OpImm o d a imm) h = let r = two d a (takes_immediate o imm) h in (r.0, r.1)
named (Lui d imm) h = register d (and_true (is_register d) (nat_lt imm (2 ^ 20)) h).0
named (Auipc d imm) h = register d (and_true (is_register d) (nat_lt imm (2 ^ 20)) h).0
named (Jal d offset) h = register d (and_true (is_register d) (is_offset 21 offset) h).0
named (Jalr d a imm) h = let r = two d a (has_bits 12 imm) h in (r.0, r.1)
named (Branch c a b offset) h = let r = two a b (is_offset 13 offset) h in (r.0, r.1)
named (Load n s d a imm) h =
    let outer = and_true (may_load n s && is_register d && is_register a) (has_bits 12 imm) h in
    let inner = and_true (may_load n s && is_register d) (is_register a) outer.0 in
    (register d (and_true (may_load n s) (is_register d) inner.0).1, register a inner.1)
named (Store n a b imm) h = let r = two a b (has_bits 12 imm) h in (r.0, r.1)
named (Fence imm a d) h =
    let outer = and_true (nat_lt imm (2 ^ 12) && is_register a) (is_register d) h in
    (register a (and_true (nat_lt imm (2 ^ 12)) (is_register a) outer.0).1, register d outer.1)
named Ecall h = tt
named Ebreak h = tt

some_back : (w : ℕ) (o : Option Instr) → w < 2 ^ 32 → o ≡ decoded w → IfSome o (λ i. Back w i)
some_back w (Some i) below e = back w i below ((decoded-Decodes w i).0 (sym e))
some_back w None below e = tt

pub decoded_ranges : (w : ℕ) (o : Option Instr) → w < 2 ^ 32 → o ≡ decoded w → IfSome o (λ i. IsTrue (is_encodable i))
decoded_ranges w (Some i) below e = (some_back w (Some i) below e).0
decoded_ranges w None below e = tt

pub decoded_named : (w : ℕ) (o : Option Instr) → w < 2 ^ 32 → o ≡ decoded w → IfSome o NamesRegisters
decoded_named w (Some i) below e = named i (some_back w (Some i) below e).0
decoded_named w None below e = tt

-- ---- the clauses of `encode`

pub encoded_ranges : (i : Instr) (o : Option ℕ) → o ≡ encoded i → IsSome o ↔ IsTrue (is_encodable i)
unfolding encoded
encoded_ranges i o e = by_test (is_encodable i) e
  where
    by_test : (t : Bool) → o ≡ cond t (Some (word_of i)) None → IsSome o ↔ IsTrue t
    by_test true e = (λ h. refl, λ h. subst IsSome (sym e) refl)
    by_test false e = (λ h. absurd (false≢true (subst IsSome e h)), λ h. absurd (false≢true h))

pub encoded_exactly : (i : Instr) (o : Option ℕ) → o ≡ encoded i → IfSome o (λ w. w < 2 ^ 32) → (w : ℕ) → (o ≡ Some w) ↔ ((w < 2 ^ 32) × Decodes w i)
unfolding encoded
encoded_exactly i o e small w = (λ h. by_test (is_encodable i) refl (sym e ∙ h) h, λ (below, d). let b = back w i below d in e ∙ (λ j. cond (b.0 j) (Some (b.1 j)) None))
  where
    by_test : (t : Bool) → is_encodable i ≡ t → cond t (Some (word_of i)) None ≡ Some w → o ≡ Some w → (w < 2 ^ 32) × Decodes w i
    by_test true t h there =
        let same : word_of i ≡ w = cc in
        (subst (λ x. IfSome x (λ v. v < 2 ^ 32)) there small, (decoded-Decodes w i).0 (ap decoded (sym same) ∙ forth i t))
    by_test false t h there = absurd (cc)

pub one_to_one : IsOneToOne
one_to_one =
    (λ w i j d e. let same : Some i ≡ Some j = sym ((decoded-Decodes w i).1 d) ∙ (decoded-Decodes w j).1 e in cc, λ w v i below small d e. sym (back w i below d).1 ∙ (back v i small e).1)
