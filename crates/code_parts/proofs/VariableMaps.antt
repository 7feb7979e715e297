-- Places as the code has them.
use Rattle.std.proofs.Common.{◌≡◌, ◌≢◌, ℕ, zero, suc, map, ◌+◌, ◌<◌, ◌≤◌, Bool, true, false, cond, eqb, List, length, get_or, refl, sym, ap, ◌∙◌, arith, inl, inr, ne_eqb, eq-eqb, get_or-set_other, get_or-set_same, ℤ, [], ◌∷◌, ◌++◌, not}
use Rattle.std.proofs.Math.ListN.{set}
use Rattle.std.proofs.lemmas.Bool.{cases_eq}
use Rattle.std.specs.List.{position_or_len, range_with_len}
use Rattle.word_terms.specs.Tree.{MemVar}
use Rattle.instr_axioms.specs.Axiom.{memory_if}
use Rattle.rv_words.specs.declared.width.Width.{Width}
use Rattle.rv_decode.specs.declared.instruction.Instr.{Instr}
use Rattle.rv_decode.specs.declared.instruction.Instr.TheVariants as instr
use Rattle.rv_decode.specs.Registers.{destination}
use Rattle.instr_axioms.specs.Variables.{variable_of}
use Rattle.code_parts.specs.Bodies.{Flow, VariableMap, fresh, is_store, place_after, stored, wrote}
use Rattle.code_parts.specs.Low.{AreLow}

abbrev pub IsNoStore : Instr → Type 0
IsNoStore i = (w : Width) (rs1 rs2 : ℕ) (imm : ℤ) → i ≡ instr.Store w rs1 rs2 imm → ⊥

no-store : (i : Instr) → IsNoStore i → is_store i ≡ false
no-store (instr.Op o rd rs1 rs2) h = refl
no-store (instr.OpImm o rd rs1 imm) h = refl
no-store (instr.Lui rd imm) h = refl
no-store (instr.Auipc rd imm) h = refl
no-store (instr.Jal rd offset) h = refl
no-store (instr.Jalr rd rs1 imm) h = refl
no-store (instr.Branch c rs1 rs2 offset) h = refl
no-store (instr.Load w signed rd rs1 imm) h = refl
no-store (instr.Store w rs1 rs2 imm) h = absurd (h w rs1 rs2 imm refl)
no-store (instr.Fence imm rs1 rd) h = refl
no-store instr.Ecall h = refl
no-store instr.Ebreak h = refl

written : (words : List ℕ) (d w r : ℕ) → d ≢ 0 → d < length words → variable_of (set words d w) r ≡ cond (eqb r d) w (variable_of words r)
written words d w r some lt = elim (cases_eq r d) [
  | inl same ↦ ap (λ q. variable_of (set words d w) q) same ∙ get_or-set_same words d w (get_or (set words d w) 0 0) lt ∙ (λ i. cond (sym (eq-eqb r d same) i) w (variable_of words r))
  | inr other ↦
      get_or-set_other words d r w (get_or (set words d w) 0 0) other ∙ ap (λ x. get_or words r x) (get_or-set_other words d 0 w 0 (λ e. some (sym e)))
      ∙ (λ i. cond (sym (ne_eqb r d other) i) w (variable_of words r))
]

-- what was written has the next variable
pub place_written : (v : VariableMap) (words : List ℕ) (d : ℕ) → v.reg ≡ variable_of words → d ≢ 0 → d < length words
    → record { words = v.words + 1; mems = v.mems; reg = variable_of (set words d v.words); memory = v.memory } ≡ wrote d v
place_written v words d is some lt =
    let next : v.words + 1 ≡ suc v.words = omega arith in
    (λ j. record { words = next j; mems = v.mems; reg = λ r. written words d v.words r some lt j; memory = v.memory })
    ∙ (λ j. record { words = suc v.words; mems = v.mems; reg = λ r. cond (eqb r d) v.words (sym is j r); memory = v.memory })
    ∙ (λ j. cond (sym (ne_eqb d 0 some) j) v (record { words = suc v.words; mems = v.mems; reg = λ r. cond (eqb r d) v.words (v.reg r); memory = v.memory }))

-- an instruction that is no store writes its destination
pub place_after-is : (i : Instr) (q : ℕ) (v : VariableMap) (d : ℕ) → IsNoStore i → d ≡ destination i → wrote d v ≡ place_after i q v
place_after-is i q v d store is = ap (λ (e : ℕ). wrote e v) is ∙ (λ j. cond (sym (no-store i store) j) (stored q v) (wrote (destination i) v))

-- the next variables of memories, by themselves and as they are numbered
pub numbered_memory : (m q : ℕ) → cond (eqb q 0) m (cond (eqb q 1) (m + 1) (m + q)) ≡ m + q
numbered_memory m zero = omega arith
numbered_memory m (suc zero) = refl
numbered_memory m (suc (suc q)) =
    let first : eqb (suc (suc q)) 0 ≡ false = ne_eqb (suc (suc q)) 0 (λ e. absurd (omega (arith, e))) in
    let second : eqb (suc (suc q)) 1 ≡ false = ne_eqb (suc (suc q)) 1 (λ e. absurd (omega (arith, e))) in
    λ i. cond (first i) m (cond (second i) (m + 1) (m + suc (suc q)))

-- the next variables are those that the code numbers
pub fresh_is : (f : Flow) (vars regs : List ℕ) (memory words mems w m : ℕ) → ((r : ℕ) → variable_of vars r ≡ words + position_or_len (λ q. eqb q r) regs) → memory ≡ mems → regs ≡ f.regs → w ≡ words + length regs → m ≡ mems + f.mems
    → record { words = w; mems = m; reg = variable_of vars; memory = λ q. cond (eqb q 0) memory (cond (eqb q 1) (mems + 1) (mems + q)) } ≡ fresh f words mems
fresh_is f vars regs memory words mems w m each same are all many = λ i. record {
  words = (all ∙ ap (λ (rs : List ℕ). words + length rs) are) i;
  mems = many i;
  reg = λ r. (each r ∙ ap (λ (rs : List ℕ). words + position_or_len (λ q. eqb q r) rs) are) i;
  memory = λ q. (ap (λ x. cond (eqb q 0) x (cond (eqb q 1) (mems + 1) (mems + q))) same ∙ numbered_memory mems q) i;
}

-- after a store to one of the first two memories that is the next variable, and the others stay
pub first_stored : (words mems memory second others : ℕ) (reg : ℕ → ℕ)
    → record { words = words; mems = mems + 1; reg = reg; memory = λ q. cond (eqb q 0) mems (cond (eqb q 1) second (others + q)) }
    ≡ stored 0 (record { words = words; mems = mems; reg = reg; memory = λ q. cond (eqb q 0) memory (cond (eqb q 1) second (others + q)) })
first_stored words mems memory second others reg =
    let next : mems + 1 ≡ suc mems = omega arith in
    λ i. record { words = words; mems = next i; reg = reg; memory = λ q. same (eqb q 0) (cond (eqb q 1) second (others + q)) i }
  where
    same : (b : Bool) (x : ℕ) → cond b mems x ≡ cond b mems (cond b memory x)
    same true x = refl
    same false x = refl

pub second_stored : (words mems memory second others : ℕ) (reg : ℕ → ℕ)
    → record { words = words; mems = mems + 1; reg = reg; memory = λ q. cond (eqb q 0) memory (cond (eqb q 1) mems (others + q)) }
    ≡ stored 1 (record { words = words; mems = mems; reg = reg; memory = λ q. cond (eqb q 0) memory (cond (eqb q 1) second (others + q)) })
second_stored words mems memory second others reg =
    let next : mems + 1 ≡ suc mems = omega arith in
    λ i. record { words = words; mems = next i; reg = reg; memory = λ q. same q i }
  where
    other : (b : Bool) (x : ℕ) → cond b mems x ≡ cond b mems (cond b second x)
    other true x = refl
    other false x = refl

    same : (q : ℕ) → cond (eqb q 0) memory (cond (eqb q 1) mems (others + q)) ≡ cond (eqb q 1) mems (cond (eqb q 0) memory (cond (eqb q 1) second (others + q)))
    same zero = refl
    same (suc q) =
        let not_first : eqb (suc q) 0 ≡ false = ne_eqb (suc q) 0 (λ e. absurd (omega (arith, e))) in
        (λ i. cond (not_first i) memory (cond (eqb (suc q) 1) mems (others + suc q)))
        ∙ other (eqb (suc q) 1) (others + suc q)
        ∙ (λ i. cond (eqb (suc q) 1) mems (cond (sym not_first i) memory (cond (eqb (suc q) 1) second (others + suc q))))

-- the variable of one of the first two memories
pub second_is : (q first second others : ℕ) → q < 2 → (q ≡ 0 → ⊥) → second ≡ cond (eqb q 0) first (cond (eqb q 1) second (others + q))
second_is zero first second others lt some = absurd (some refl)
second_is (suc zero) first second others lt some = refl
second_is (suc (suc q)) first second others lt some = absurd (omega (arith, lt))

-- one memory more
range-more : (w n : ℕ) → range_with_len w (suc n) ≡ range_with_len w n ++ (w + n) ∷ []
range-more w zero = let same : w ≡ w + 0 = omega arith in λ i. same i ∷ []
range-more w (suc n) = let same : w + 1 + n ≡ w + suc n = omega arith in ap (λ xs. w ∷ xs) (range-more (w + 1) n ∙ (λ i. range_with_len (w + 1) n ++ same i ∷ []))

map-more : {A B : Type 0} (h : A → B) (xs : List A) (x : A) → map h (xs ++ x ∷ []) ≡ map h xs ++ h x ∷ []
map-more h [] x = refl
map-more h (y ∷ xs) x = ap (λ ys. h y ∷ ys) (map-more h xs x)

pub one_memory_more : {B : Type 0} (h : ℕ → B) (n : ℕ) → map h (range_with_len 0 (n + 1)) ≡ map h (range_with_len 0 n) ++ h n ∷ []
one_memory_more h n =
    let next : n + 1 ≡ suc n = omega arith in
    let none : 0 + n ≡ n = omega arith in
    (λ i. map h (range_with_len 0 (next i))) ∙ ap (map h) (range-more 0 n) ∙ map-more h (range_with_len 0 n) (0 + n) ∙ (λ i. map h (range_with_len 0 n) ++ h (none i) ∷ [])

-- the memory, if there is one, as a value
pub memories_are : (f : Flow) (v : VariableMap) (has : Bool) → f.mems ≡ cond has 1 0 → memory_if has (MemVar (v.memory 0)) ≡ map (λ q. MemVar (v.memory q)) (range_with_len 0 f.mems)
memories_are f v true many = λ i. map (λ q. MemVar (v.memory q)) (range_with_len 0 (sym many i))
memories_are f v false many = λ i. map (λ q. MemVar (v.memory q)) (range_with_len 0 (sym many i))

-- ---- low numbers

pub position-most : (rs : List ℕ) (r : ℕ) → position_or_len (λ q. eqb q r) rs ≤ length rs
position-most [] r = omega arith
position-most (x ∷ rs) r = go (eqb x r) (position-most rs r)
  where
    go : (b : Bool) → position_or_len (λ q. eqb q r) rs ≤ length rs → cond (not b) (1 + position_or_len (λ q. eqb q r) rs) 0 ≤ suc (length rs)
    go true h = omega arith
    go false h = omega (arith, h)

-- the next variables are low
pub fresh_low : (vars regs : List ℕ) (memory words mems w m : ℕ) → ((r : ℕ) → variable_of vars r ≡ words + position_or_len (λ q. eqb q r) regs) → memory ≡ mems → w ≡ words + length regs → mems ≤ m →
    AreLow w m vars memory
fresh_low vars regs memory words mems w m each same all le = record {
  word = λ r. (let at = each r in let most = position-most regs r in omega (arith, at, most, all));
  memory_low = omega (arith, same, le);
}

-- one more is
pub written_low : (vars : List ℕ) (memory d w m : ℕ) → d ≢ 0 → d < length vars → AreLow w m vars memory → AreLow (w + 1) m (set vars d w) memory
written_low vars memory d w m some lt low = record {
  word = λ r. (let at = written vars d w r some lt in let most = go (eqb r d) (variable_of vars r) (low.word r) in omega (arith, at, most));
  memory_low = low.memory_low;
}
  where
    go : (b : Bool) (x : ℕ) → x ≤ w → cond b w x ≤ w + 1
    go true x le = omega arith
    go false x le = omega (arith, le)

pub stored_low : (vars : List ℕ) (memory w m : ℕ) → AreLow w m vars memory → AreLow w (m + 1) vars m
stored_low vars memory w m low = record { word = low.word; memory_low = omega arith }

-- one more memory variable, of another memory
pub other_low : (vars : List ℕ) (memory w m : ℕ) → AreLow w m vars memory → AreLow w (m + 1) vars memory
other_low vars memory w m low = record { word = low.word; memory_low = (let le = low.memory_low in omega (arith, le)) }
