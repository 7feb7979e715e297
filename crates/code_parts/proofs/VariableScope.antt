-- The variables of a definition's steps and values are in scope.
use Rattle.std.proofs.Common.{◌≡◌, ℕ, zero, suc, ◌∙◌, ◌+◌, ◌<◌, ◌≤◌, List, [], ◌∷◌, map, length, Bool, true, false, cond, not, eqb, refl, arith, Contains, All}
use Rattle.std.proofs.lemmas.Bool.{eqb-false}
use Rattle.std.proofs.lemmas.List.Elements.{All-nil, All-cons}
use Rattle.std.specs.List.{position_or_len, range_with_len}
use Rattle.rv_words.specs.declared.width.Width.{Width}
use Rattle.rv_words.specs.declared.width.Width.TheVariants.{B1, B2, B4, B8}
use Rattle.rv_decode.specs.declared.instruction.Instr.{Instr}
use Rattle.rv_decode.specs.declared.instruction.Instr.TheVariants as instr
use Rattle.word_terms.specs.Tree.{WordTree, MemTree, Const, Var, MemVar}
use Rattle.word_terms.specs.Scope.{WordInScope, MemInScope}
use Rattle.tailrec_lang.specs.Tree.{Bind, BindMem, Need}
use Rattle.tailrec_lang.specs.inner.WellFormed.{StepsInScope}
use Rattle.tailrec_lang.specs.WellFormed.{ValuesInScope, HasCounts}
use Rattle.triple_kernel.specs.declared.form.Form.{Form}
use Rattle.triple_kernel.specs.declared.form.Form.TheVariants.{Next, Taken}
use Rattle.rv_decode.specs.Registers.{sources, destination}
use Rattle.instr_axioms.specs.Terms.{has_memory, word_in, sum, loaded, conditions, result, memory_after}
use Rattle.std.proofs.lemmas.List.FromFn.{length-range_with_len}
use Rattle.code_parts.specs.Bodies.{Flow, VariableMap, names, fresh, current, is_store, stored, place_after, writes}
use Rattle.code_parts.proofs.Lists.{here, later, contains-cases, length-map}

-- the registers' variables and those of the memories are in scope
pub record IsIn (f : Flow) (v : VariableMap) : Type 0 where
  pub word : (r : ℕ) → Contains f.regs r → v.reg r < v.words
  pub memory : (q : ℕ) → q < f.mems → v.memory q < v.mems

position-below : (rs : List ℕ) (r : ℕ) → Contains rs r → position_or_len (λ q. eqb q r) rs < length rs
position-below [] r c = absurd (omega (arith, c.1))
position-below (x ∷ rs) r c = go (eqb x r) refl (λ d. position-below rs r d)
  where
    rest : eqb x r ≡ false → Contains rs r
    rest is = contains-cases x rs r c (λ e. absurd (eqb-false x r is e)) (λ d. d)

    go : (b : Bool) → eqb x r ≡ b → (Contains rs r → position_or_len (λ q. eqb q r) rs < length rs) → cond (not b) (1 + position_or_len (λ q. eqb q r) rs) 0 < suc (length rs)
    go true is on = omega arith
    go false is on = let low = on (rest is) in omega (arith, low)

pub fresh-in : (f : Flow) (words mems : ℕ) → IsIn f (fresh f words mems)
fresh-in f words mems = record {
  word = λ r c. let low = position-below f.regs r c in omega (arith, low);
  memory = λ q l. omega arith;
}

all_among : (P : WordTree → Type 0) (h : ℕ → WordTree) (rs : List ℕ) → ((r : ℕ) → Contains rs r → P (h r)) → All P (map h rs)
all_among P h [] each = All-nil P
all_among P h (r ∷ rs) each = All-cons P (h r) (map h rs) (each r (here r rs)) (all_among P h rs (λ q c. each q (later r rs q c)))

all_memories : (P : MemTree → Type 0) (h : ℕ → MemTree) (w n : ℕ) → ((q : ℕ) → q < w + n → P (h q)) → All P (map h (range_with_len w n))
all_memories P h w zero each = All-nil P
all_memories P h w (suc n) each = All-cons P (h w) (map h (range_with_len (w + 1) n)) (each w (omega arith)) (all_memories P h (w + 1) n (λ q l. each q (omega (arith, l))))

pub current-scope : (f : Flow) (v : VariableMap) (words mems : ℕ) → IsIn f v → v.words ≤ words → v.mems ≤ mems → ValuesInScope (current f v) words mems
current-scope f v words mems is le me = (
  all_among (λ t. WordInScope t words mems) (λ r. Var (v.reg r)) f.regs (λ r c. let low = is.word r c in omega (arith, low, le)),
  all_memories (λ t. MemInScope t words mems) (λ q. MemVar (v.memory q)) 0 f.mems (λ q l. let low = is.memory q (omega (arith, l)) in omega (arith, low, me)),
)

pub current-counts : (f : Flow) (v : VariableMap) → HasCounts (current f v) (length f.regs) f.mems
current-counts f v = (length-map (λ r. Var (v.reg r)) f.regs, length-map (λ q. MemVar (v.memory q)) (range_with_len 0 f.mems) ∙ length-range_with_len 0 f.mems)

-- ---- an instruction

module _ (f : Flow) (v : VariableMap) (is : IsIn f v) (i : Instr)
    (reads : (r : ℕ) → Contains (sources i) r → (r ≡ 0 → ⊥) → Contains f.regs r) (m : ℕ) (memory : has_memory i ≡ true → m < f.mems) where
  abbrev IsWordIn : WordTree → Type 0
  IsWordIn t = WordInScope t v.words v.mems

  pub source-in : (r : ℕ) → Contains (sources i) r → WordInScope (word_in (names v m) r) v.words v.mems
  source-in r c = go (eqb r 0) refl
    where
      go : (b : Bool) → eqb r 0 ≡ b → WordInScope (cond b (Const 0) (Var (v.reg r))) v.words v.mems
      go true e = tt
      go false e = is.word r (reads r c (eqb-false r 0 e))

  mem-in : has_memory i ≡ true → v.memory m < v.mems
  mem-in e = is.memory m (memory e)

pub first : (r : ℕ) (rs : List ℕ) → Contains (r ∷ rs) r
first r rs = (0, omega arith, refl)

second : (r q : ℕ) → Contains (r ∷ q ∷ []) q
second r q = (1, omega arith, refl)

loaded-in : (w : Width) (signed : Bool) (m : MemTree) (a : WordTree) (words mems : ℕ) → MemInScope m words mems → WordInScope a words mems → WordInScope (loaded w signed m a) words mems
loaded-in B1 true m a words mems h k = (h, k)
loaded-in B2 true m a words mems h k = (h, k)
loaded-in B4 true m a words mems h k = (h, k)
loaded-in B8 true m a words mems h k = (h, k)
loaded-in w false m a words mems h k = (h, k)

abbrev Reads : Flow → Instr → Type 0
Reads f i = (r : ℕ) → Contains (sources i) r → (r ≡ 0 → ⊥) → Contains f.regs r

abbrev Has : Flow → Instr → ℕ → Type 0
Has f i m = has_memory i ≡ true → m < f.mems

pub needs-in : (f : Flow) (v : VariableMap) → IsIn f v → (i : Instr) → Reads f i → (m : ℕ) → Has f i m → (form : Form) → StepsInScope (map Need (conditions i form (names v m))) v.words v.mems
needs-in f v is (instr.Op o rd rs1 rs2) reads m memory form = tt
needs-in f v is (instr.OpImm o rd rs1 imm) reads m memory form = tt
needs-in f v is (instr.Lui rd imm) reads m memory form = tt
needs-in f v is (instr.Auipc rd imm) reads m memory form = tt
needs-in f v is (instr.Jal rd offset) reads m memory form = tt
needs-in f v is (instr.Jalr rd rs1 imm) reads m memory form = tt
needs-in f v is (instr.Branch c rs1 rs2 offset) reads m memory Next =
    let i : Instr = instr.Branch c rs1 rs2 offset in
    ((source-in f v is i reads m memory rs1 (first rs1 (rs2 ∷ [])), source-in f v is i reads m memory rs2 (second rs1 rs2)), tt)
needs-in f v is (instr.Branch c rs1 rs2 offset) reads m memory Taken =
    let i : Instr = instr.Branch c rs1 rs2 offset in
    ((source-in f v is i reads m memory rs1 (first rs1 (rs2 ∷ [])), source-in f v is i reads m memory rs2 (second rs1 rs2)), tt)
needs-in f v is (instr.Load w signed rd rs1 imm) reads m memory form =
    let i : Instr = instr.Load w signed rd rs1 imm in
    ((mem-in f v is i reads m memory refl, (source-in f v is i reads m memory rs1 (first rs1 []), tt)), tt)
needs-in f v is (instr.Store w rs1 rs2 imm) reads m memory form =
    let i : Instr = instr.Store w rs1 rs2 imm in
    ((mem-in f v is i reads m memory refl, (source-in f v is i reads m memory rs1 (first rs1 (rs2 ∷ [])), tt)), tt)
needs-in f v is (instr.Fence imm rs1 rd) reads m memory form = tt
needs-in f v is instr.Ecall reads m memory form = tt
needs-in f v is instr.Ebreak reads m memory form = tt

result-in : (f : Flow) (v : VariableMap) → IsIn f v → (i : Instr) → Reads f i → (m : ℕ) → Has f i m → (a k : ℕ) → WordInScope (result i a k (names v m)) v.words v.mems
result-in f v is (instr.Op o rd rs1 rs2) reads m memory a k =
    let i : Instr = instr.Op o rd rs1 rs2 in
    (source-in f v is i reads m memory rs1 (first rs1 (rs2 ∷ [])), source-in f v is i reads m memory rs2 (second rs1 rs2))
result-in f v is (instr.OpImm o rd rs1 imm) reads m memory a k = (source-in f v is (instr.OpImm o rd rs1 imm) reads m memory rs1 (first rs1 []), tt)
result-in f v is (instr.Lui rd imm) reads m memory a k = tt
result-in f v is (instr.Auipc rd imm) reads m memory a k = tt
result-in f v is (instr.Jal rd offset) reads m memory a k = tt
result-in f v is (instr.Jalr rd rs1 imm) reads m memory a k = tt
result-in f v is (instr.Branch c rs1 rs2 offset) reads m memory a k = tt
result-in f v is (instr.Load w signed rd rs1 imm) reads m memory a k =
    let i : Instr = instr.Load w signed rd rs1 imm in
    loaded-in w signed (MemVar (v.memory m)) (sum (names v m) rs1 imm) v.words v.mems (mem-in f v is i reads m memory refl) (source-in f v is i reads m memory rs1 (first rs1 []), tt)
result-in f v is (instr.Store w rs1 rs2 imm) reads m memory a k = tt
result-in f v is (instr.Fence imm rs1 rd) reads m memory a k = tt
result-in f v is instr.Ecall reads m memory a k = tt
result-in f v is instr.Ebreak reads m memory a k = tt

stored-in : (f : Flow) (v : VariableMap) → IsIn f v → (i : Instr) → Reads f i → (m : ℕ) → Has f i m → is_store i ≡ true → MemInScope (memory_after i (names v m)) v.words v.mems
stored-in f v is (instr.Op o rd rs1 rs2) reads m memory e = absurd (cc)
stored-in f v is (instr.OpImm o rd rs1 imm) reads m memory e = absurd (cc)
stored-in f v is (instr.Lui rd imm) reads m memory e = absurd (cc)
stored-in f v is (instr.Auipc rd imm) reads m memory e = absurd (cc)
stored-in f v is (instr.Jal rd offset) reads m memory e = absurd (cc)
stored-in f v is (instr.Jalr rd rs1 imm) reads m memory e = absurd (cc)
stored-in f v is (instr.Branch c rs1 rs2 offset) reads m memory e = absurd (cc)
stored-in f v is (instr.Load w signed rd rs1 imm) reads m memory e = absurd (cc)
stored-in f v is (instr.Store w rs1 rs2 imm) reads m memory e =
    let i : Instr = instr.Store w rs1 rs2 imm in
    (mem-in f v is i reads m memory refl, (source-in f v is i reads m memory rs1 (first rs1 (rs2 ∷ [])), tt), source-in f v is i reads m memory rs2 (second rs1 rs2))
stored-in f v is (instr.Fence imm rs1 rd) reads m memory e = absurd (cc)
stored-in f v is instr.Ecall reads m memory e = absurd (cc)
stored-in f v is instr.Ebreak reads m memory e = absurd (cc)

pub writes-in : (f : Flow) (v : VariableMap) → IsIn f v → (i : Instr) → Reads f i → (m : ℕ) → Has f i m → (a k : ℕ) → StepsInScope (writes i a k m v) v.words v.mems
writes-in f v is i reads m memory a k = go (is_store i) refl (eqb (destination i) 0)
  where
    go : (s : Bool) → is_store i ≡ s → (d : Bool) → StepsInScope (cond s (BindMem (memory_after i (names v m)) ∷ []) (cond d [] (Bind (result i a k (names v m)) ∷ []))) v.words v.mems
    go true e d = (stored-in f v is i reads m memory e, tt)
    go false e true = tt
    go false e false = (result-in f v is i reads m memory a k, tt)

pub place-in : (f : Flow) (v : VariableMap) → IsIn f v → (i : Instr) (m : ℕ) → IsIn f (place_after i m v)
place-in f v is i m = go (is_store i) (eqb (destination i) 0)
  where
    one : (c : Bool) (x w : ℕ) → x < w → cond c w x < suc w
    one true x w lt = omega arith
    one false x w lt = omega (arith, lt)

    go : (s d : Bool) → IsIn f (cond s (stored m v) (cond d v (record { words = suc v.words; mems = v.mems; reg = λ r. cond (eqb r (destination i)) v.words (v.reg r); memory = v.memory })))
    go true d = record { word = λ r c. is.word r c; memory = λ q l. one (eqb q m) (v.memory q) v.mems (is.memory q l) }
    go false true = is
    go false false = record { word = λ r c. one (eqb r (destination i)) (v.reg r) v.words (is.word r c); memory = λ q l. is.memory q l }
