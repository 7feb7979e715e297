-- The lines of an instruction and of a call have a text.
use Rattle.std.proofs.Common.{◌≡◌, ℕ, zero, suc, ◌+◌, ◌^◌, ◌<◌, ◌≤◌, List, [], ◌∷◌, ◌++◌, map, length, Bool, true, false, cond, not, filter, eqb, refl, sym, ap, ◌∙◌, subst, arith, mod-lt, length-append, Some, inl, inr, ◌/◌, Contains}
use Rattle.std.specs.Int.{byte_at, bytes_low_first, to_le_bytes, w16, w32}
use Rattle.std.proofs.lemmas.List.FromFn.{length-range_with_len}
use Rattle.std.specs.List.{AllByRecursion, position_or_len, range_with_len}
use Rattle.rv_words.specs.declared.range.Range.{Range}
use Rattle.rv_words.specs.Bytes.{Bytes, over}
use Rattle.rv_words.specs.Ranges.{AreRanges}
use Rattle.rv_decode.specs.declared.instruction.Instr.{Instr}
use Rattle.rv_decode.specs.declared.instruction.Instr.TheVariants as instr
use Rattle.rv_decode.specs.Registers.{destination}
use Rattle.rv_words.specs.Operation.{word_of}
use Rattle.rvc.specs.Number.{is_word, length_of}
use Rattle.instr_axioms.proofs.AxiomLemmas.{word_code-ranges}
use Rattle.word_terms.specs.Tree.{WordTree, MemTree, CondTree, Const, Var, MemVar}
use Rattle.group_text.specs.TermLimits.{IsCond, IsMem, IsWord}
use Rattle.sep_assert.specs.Code.{Agree, IsWithin}
use Rattle.tailrec_lang.specs.declared.group.Exit.{Exit}
use Rattle.tailrec_lang.specs.declared.group.Exit.TheVariants.{At, Ret}
use Rattle.triple_kernel.specs.declared.form.Form.{Form}
use Rattle.triple_kernel.specs.declared.form.Form.TheVariants.{Next, Taken}
use Rattle.triple_kernel.specs.Tree.{FactTree, Gives, MemIs, So, WordIs}
use Rattle.frame_compose.specs.Rules.{AreMissing}
use Rattle.instr_axioms.specs.Terms.{conditions, has_memory, memory_after, pc_after, result, word_after}
use Rattle.instr_axioms.specs.Axiom.{memory_if, own, own_triple, register_with, triple_over, word_code}
use Rattle.tailrec_lang.specs.Registers.{AreRegistersFrom}
use Rattle.group_text.specs.Limits.{IsExit, IsValues}
use Rattle.proof_text.specs.LineLimits.{AreRisingFrom, IsAssertion, IsFact, IsTriple}
use Rattle.code_parts.specs.Bodies.{Flow, VariableMap, current, fresh, is_store, names, place_after, start}
use Rattle.path_walk.specs.inner.Acts.{IsFineInstruction, IsFineExit, all_mems, gives_over, mem_first, named_triple, new_facts, numbered, own_mem, results_at}
use Rattle.path_walk.specs.inner.Histories.{exit_place, pc_of}
use Rattle.path_walk.specs.inner.Writers.{IsFineCited, CitedTree, OriginTree, standing_on, standing_over}
use Rattle.path_walk.proofs.Joins.{or-within, some-same}
use Rattle.path_walk.proofs.Lines.{memory-same, own-rise}
use Rattle.code_parts.proofs.Lists.{here, later, length-map, rising-short}
use Rattle.path_walk.proofs.PartLimits.{IsLow, conditions-small, memory_after-small, place-low, result-small, sum-small, values-printed}
use Rattle.code_parts.proofs.VariableMaps.{position-most}

-- ---- lists

pub all-join : {A : Type 0} (P : A → Type 0) (xs ys : List A) → AllByRecursion P xs → AllByRecursion P ys → AllByRecursion P (xs ++ ys)
all-join P [] ys h k = k
all-join P (x ∷ xs) ys h k = (h.0, all-join P xs ys h.1 k)

map-fine : {A B : Type 0} (P : B → Type 0) (h : A → B) (xs : List A) → ((x : A) → P (h x)) → AllByRecursion P (map h xs)
map-fine P h [] each = tt
map-fine P h (x ∷ xs) each = (each x, map-fine P h xs each)

rising-fine : {X : Type 0} (Fits : X → Type 0) (least i : ℕ) (ts : List X) → least ≤ i → i + length ts < 2 ^ 32 → AllByRecursion Fits ts → AreRisingFrom Fits least (numbered i ts)
rising-fine Fits least i [] le few h = tt
rising-fine Fits least i (t ∷ ts) le few h = (le, omega (arith, few), h.0, rising-fine Fits (i + 1) (suc i) ts (omega arith) (omega (arith, few)) h.1)

-- those that are missing are among these
pub missing-fine : (P : FactTree → Type 0) (known fs more : List FactTree) → AreMissing known fs more → AllByRecursion P fs → AllByRecursion P more
missing-fine P known [] more are h = subst (AllByRecursion P) are tt
missing-fine P known (x ∷ fs) more (inl are) h = missing-fine P known fs more are.1 h.1
missing-fine P known (x ∷ fs) [] (inr are) h = absurd are.1
missing-fine P known (x ∷ fs) (y ∷ more) (inr are) h = (subst P are.1.0 h.0, missing-fine P known fs more are.1.1 h.1)

numbers-are : (w : ℕ → WordTree) (rs : List ℕ) → map (λ (r : ℕ × WordTree). r.0) (map (register_with w) rs) ≡ rs
numbers-are w [] = refl
numbers-are w (r ∷ rs) = ap (λ (xs : List ℕ). r ∷ xs) (numbers-are w rs)

mems-fine : (x : ℕ → MemTree) (w k : ℕ) → ((p : ℕ) → p < w + k → IsMem (x p)) → AllByRecursion IsMem (map x (range_with_len w k))
mems-fine x w zero each = tt
mems-fine x w (suc k) each = (each w (omega arith), mems-fine x (w + 1) k (λ p lt. each p (omega (arith, lt))))

these-fine : (x : ℕ → MemTree) (ps : List ℕ) → ((p : ℕ) → Contains ps p → IsMem (x p)) → AllByRecursion IsMem (map x ps)
these-fine x [] each = tt
these-fine x (p ∷ ps) each = (each p (here p ps), these-fine x ps (λ q c. each q (later p ps q c)))

range-within : (a n p : ℕ) → Contains (range_with_len a n) p → p < a + n
range-within a zero p c = absurd (omega (arith, c.1))
range-within a (suc n) p (zero, lt, at) = omega (arith, at)
range-within a (suc n) p (suc k, lt, at) = let low = range-within (a + 1) n p (k, omega (arith, lt), at) in omega (arith, low)

filter-among : (test : ℕ → Bool) (xs : List ℕ) (p : ℕ) → Contains (filter test xs) p → Contains xs p
filter-among test [] p c = c
filter-among test (x ∷ xs) p c = go (test x) c (λ d. later x xs p (filter-among test xs p d))
  where
    go : (b : Bool) → Contains (cond b (x ∷ filter test xs) (filter test xs)) p → (Contains (filter test xs) p → Contains (x ∷ xs) p) → Contains (x ∷ xs) p
    go true (zero, lt, at) on = (0, omega arith, at)
    go true (suc k, lt, at) on = on (k, omega (arith, lt), at)
    go false c on = on c

-- the memories in order, or with an instruction's own in front, are those that there are
all-among : (mems p : ℕ) → Contains (all_mems mems) p → p < mems
all-among mems p c = let low = range-within 0 mems p c in omega (arith, low)

first-among : (i : Instr) (q mems : ℕ) → (has_memory i ≡ true → q < mems) → (p : ℕ) → Contains (mem_first i q mems) p → p < mems
first-among i q mems low p = go (has_memory i) low
  where
    go : (b : Bool) → (b ≡ true → q < mems) → Contains (cond b (q ∷ filter (λ p. not (eqb p q)) (all_mems mems)) (all_mems mems)) p → p < mems
    go false low c = all-among mems p c
    go true low (zero, lt, at) = subst (λ (k : ℕ). k < mems) at (low refl)
    go true low (suc k, lt, at) = all-among mems p (filter-among (λ p. not (eqb p q)) (all_mems mems) p (k, omega (arith, lt), at))

-- ---- assertions

assertion-fine : (pc : WordTree) (w : ℕ → WordTree) (rs : List ℕ) (ms : List MemTree) → IsWord pc → AreRegistersFrom 1 rs → ((r : ℕ) → IsWord (w r)) → AllByRecursion IsMem ms →
    IsAssertion (record { pc = pc; regs = map (register_with w) rs; mems = ms })
assertion-fine pc w rs ms pc_fine rise words mems = record {
  pc = pc_fine;
  registers = subst (AreRegistersFrom 1) (sym (numbers-are w rs)) rise;
  words = map-fine (λ (r : ℕ × WordTree). IsWord r.1) (register_with w) rs words;
  mems = mems;
}

pub var-fine : (k : ℕ) → k < 2 ^ 16 → IsWord (Var k)
var-fine k low = omega (arith, low)

mem_var-fine : (k : ℕ) → k < 2 ^ 16 → IsMem (MemVar k)
mem_var-fine k low = omega (arith, low)

module _ (mem_count : ℕ) (v : VariableMap) (n : ℕ) (low : IsLow mem_count v n) (few : n < 2 ^ 16) where
  named-fine : (r : ℕ) → IsWord (Var (v.reg r))
  named-fine r = let most = low.word r in var-fine (v.reg r) (omega (arith, most, few))

  memory-fine : (q : ℕ) → q < mem_count → IsMem (MemVar (v.memory q))
  memory-fine q lt = low.memory q lt

  pub pc-fine : (q : ℕ) (i : Instr) (form : Form) (a k : ℕ) → IsWord (pc_after i form a k (names v q))
  pc-fine q (instr.Op o rd rs1 rs2) form a k = mod-lt (a + k) (omega arith)
  pc-fine q (instr.OpImm o rd rs1 imm) form a k = mod-lt (a + k) (omega arith)
  pc-fine q (instr.Lui rd imm) form a k = mod-lt (a + k) (omega arith)
  pc-fine q (instr.Auipc rd imm) form a k = mod-lt (a + k) (omega arith)
  pc-fine q (instr.Jal rd offset) form a k = mod-lt (a + word_of offset) (omega arith)
  pc-fine q (instr.Jalr rd rs1 imm) form a k = (sum-small mem_count v n low few q 61 rs1 imm, omega arith)
  pc-fine q (instr.Branch c rs1 rs2 offset) Next a k = mod-lt (a + k) (omega arith)
  pc-fine q (instr.Branch c rs1 rs2 offset) Taken a k = mod-lt (a + word_of offset) (omega arith)
  pc-fine q (instr.Load w signed rd rs1 imm) form a k = mod-lt (a + k) (omega arith)
  pc-fine q (instr.Store w rs1 rs2 imm) form a k = mod-lt (a + k) (omega arith)
  pc-fine q (instr.Fence imm rs1 rd) form a k = mod-lt (a + k) (omega arith)
  pc-fine q instr.Ecall form a k = mod-lt (a + k) (omega arith)
  pc-fine q instr.Ebreak form a k = mod-lt (a + k) (omega arith)

  -- its memory, if it has one, is one of these
  module _ (q : ℕ) (i : Instr) (has : has_memory i ≡ true → q < mem_count) where
    after-fine : (a k r : ℕ) → IsWord (word_after i a k (names v q) r)
    after-fine a k r = go (eqb r (destination i))
      where
        go : (b : Bool) → IsWord (cond b (result i a k (names v q)) (Var (v.reg r)))
        go true = result-small mem_count v n low few q i a k has
        go false = named-fine r

    memory_after-fine : q < mem_count → IsMem (memory_after i (names v q))
    memory_after-fine lt = go (is_store i) refl
      where
        go : (b : Bool) → is_store i ≡ b → IsMem (memory_after i (names v q))
        go true is = memory_after-small mem_count v n low few q i is has
        go false is = subst IsMem (sym (memory-same i (names v q) is)) (memory-fine q lt)

    so-fine : (form : Form) → AllByRecursion IsFact (map So (conditions i form (names v q)))
    so-fine form = go (conditions i form (names v q)) (conditions-small mem_count v n low few q i form has)
      where
        go : (cs : List CondTree) → AllByRecursion IsCond cs → AllByRecursion IsFact (map So cs)
        go [] h = tt
        go (c ∷ cs) h = (h.0, go cs h.1)

    news-fine : (a k : ℕ) → AllByRecursion IsFact (new_facts i a k q v)
    news-fine a k = go (is_store i) refl (eqb (destination i) 0)
      where
        go : (s : Bool) → is_store i ≡ s → (d : Bool) → AllByRecursion IsFact (cond s (MemIs (MemVar v.mems) (memory_after i (names v q)) ∷ []) (cond d [] (WordIs (Var v.words) (result i a k (names v q)) ∷ [])))
        go true is d = let most = low.mems in ((mem_var-fine v.mems (omega (arith, most, few)), memory_after-small mem_count v n low few q i is has), tt)
        go false is true = tt
        go false is false = let most = low.words in ((var-fine v.words (omega (arith, most, few)), result-small mem_count v n low few q i a k has), tt)

    pub facts-fine : (form : Form) (a k : ℕ) → AllByRecursion IsFact (map So (conditions i form (names v q)) ++ new_facts i a k q v)
    facts-fine form a k = all-join IsFact (map So (conditions i form (names v q))) (new_facts i a k q v) (so-fine form) (news-fine a k)

  pub standing-fine : (regs : List ℕ) (pc : WordTree) → AreRegistersFrom 1 regs → IsWord pc → IsAssertion (standing_over pc regs (range_with_len 0 mem_count) v)
  standing-fine regs pc rise fine = assertion-fine pc (λ r. Var (v.reg r)) regs (map (λ q. MemVar (v.memory q)) (range_with_len 0 mem_count)) fine rise named-fine
      (mems-fine (λ q. MemVar (v.memory q)) 0 mem_count (λ p lt. memory-fine p (omega (arith, lt))))

-- ---- code

abbrev HaveBytes : List Range → Type 0
HaveBytes ranges = AllByRecursion (λ r. AllByRecursion (λ b. b < 256) r.bytes) ranges

low-bytes : (i k w : ℕ) → AllByRecursion (λ b. b < 256) (bytes_low_first i k w)
low-bytes i zero w = tt
low-bytes i (suc k) w = (one i, low-bytes (suc i) k w)
  where
    one : (i : ℕ) → byte_at i w < 256
    one zero = mod-lt w (omega arith)
    one (suc i) = mod-lt (w / 256 ^ suc i) (omega arith)

pub code-bytes : (a w : ℕ) → HaveBytes (word_code a w)
code-bytes a w = (by_length (is_word w), tt)
  where
    by_length : (t : Bool) → AllByRecursion (λ b. b < 256) (cond t (to_le_bytes w32 w) (to_le_bytes w16 w))
    by_length true = low-bytes 0 4 w
    by_length false = low-bytes 0 2 w

-- ---- one instruction

module _ (i : Instr) (form : Form) (a w : ℕ) (low_address : a < 2 ^ 64) (room : a + length_of w ≤ 2 ^ 64) where
  own-few : length (own i) ≤ 31
  own-few = let short = rising-short 1 (own i) (omega arith) (own-rise i) in omega (arith, short)

  module _ (mem_count : ℕ) (v : VariableMap) (n : ℕ) (low : IsLow mem_count v n) (few : n < 2 ^ 16) (q : ℕ) (has : has_memory i ≡ true → q < mem_count) where
    one-fine : (b : Bool) (x : MemTree) → (b ≡ true → IsMem x) → AllByRecursion IsMem (memory_if b x)
    one-fine true x h = (h refl, tt)
    one-fine false x h = tt

    -- over its own registers
    over-fine : IsTriple (triple_over i form a (length_of w) (word_code a w) (own i) (has_memory i) (names v q))
    over-fine = record {
      facts = so-fine mem_count v n low few q i has form;
      pre = assertion-fine (Const a) (λ r. Var (v.reg r)) (own i) (memory_if (has_memory i) (MemVar (v.memory q))) low_address (own-rise i) (named-fine mem_count v n low few)
          (one-fine (has_memory i) (MemVar (v.memory q)) (λ e. memory-fine mem_count v n low few q (has e)));
      code = word_code-ranges a w room;
      bytes = code-bytes a w;
      post = assertion-fine (pc_after i form a (length_of w) (names v q)) (word_after i a (length_of w) (names v q)) (own i) (memory_if (has_memory i) (memory_after i (names v q)))
          (pc-fine mem_count v n low few q i form a (length_of w)) (own-rise i) (after-fine mem_count v n low few q i has a (length_of w))
          (one-fine (has_memory i) (memory_after i (names v q)) (λ e. memory_after-fine mem_count v n low few q i has (has e)));
    }

    pub act-standing-fine : (k : ℕ) (facts : List FactTree) (code : List Range) → k < 2 ^ 64 → facts ≡ map So (conditions i form (names v q)) ++ new_facts i a (length_of w) q v → code ≡ word_code a w →
        IsFineCited (record { number = k; facts = facts; code = code })
    act-standing-fine k facts code fits facts_are code_is = record {
      number = fits;
      facts = subst (AllByRecursion IsFact) (sym facts_are) (facts-fine mem_count v n low few q i has form a (length_of w));
      code = subst AreRanges (sym code_is) (word_code-ranges a w room);
      bytes = subst HaveBytes (sym code_is) (code-bytes a w);
    }

  -- the variables of an axiom
  first_place : VariableMap
  first_place = record { words = 0; mems = 0; reg = λ r. position_or_len (λ q. eqb q r) (own i); memory = λ q. 0 }

  first-fine : IsTriple (own_triple i form a w)
  unfolding first_place
  first-fine = over-fine 1 first_place 31 (record {
    word = λ r. (let most = position-most (own i) r in let short = own-few in omega (arith, most, short));
    memory = λ q lt. omega arith;
    words = omega arith;
    mems = omega arith;
  }) (omega arith) 0 (λ e. omega arith)

  module _ (f : Flow) (own_regs : List ℕ) (rise : AreRegistersFrom 1 own_regs) (v : VariableMap) (n : ℕ) (low : IsLow f.mems v n) (few : n ≤ 2 ^ 15) (q : ℕ) (has : has_memory i ≡ true → q < f.mems) where
    -- with new variables, over any registers and memories, in any order
    named-fine-over : (regs ms : List ℕ) → AreRegistersFrom 1 regs → ((p : ℕ) → Contains ms p → p < f.mems) → IsTriple (named_triple i form a (length_of w) (word_code a w) regs ms q v)
    named-fine-over regs ms order among =
        let next = place-low f.mems v n low (omega (arith, few)) i q in
        record {
          facts = facts-fine f.mems v n low (omega (arith, few)) q i has form a (length_of w);
          pre = assertion-fine (Const a) (λ r. Var (v.reg r)) regs (map (λ p. MemVar (v.memory p)) ms) low_address order (named-fine f.mems v n low (omega (arith, few)))
              (these-fine (λ p. MemVar (v.memory p)) ms (λ p c. memory-fine f.mems v n low (omega (arith, few)) p (among p c)));
          code = word_code-ranges a w room;
          bytes = code-bytes a w;
          post = assertion-fine (pc_after i form a (length_of w) (names v q)) (λ r. Var ((place_after i q v).reg r)) regs (map (λ p. MemVar ((place_after i q v).memory p)) ms)
              (pc-fine f.mems v n low (omega (arith, few)) q i form a (length_of w)) order (named-fine f.mems (place_after i q v) (suc n) next (omega (arith, few)))
              (these-fine (λ p. MemVar ((place_after i q v).memory p)) ms (λ p c. memory-fine f.mems (place_after i q v) (suc n) next (omega (arith, few)) p (among p c)));
        }

    own-among : (p : ℕ) → Contains (own_mem i q) p → p < f.mems
    own-among p = go (has_memory i) has
      where
        go : (b : Bool) → (b ≡ true → q < f.mems) → Contains (cond b (q ∷ []) []) p → p < f.mems
        go false h c = absurd (omega (arith, c.1))
        go true h (zero, lt, at) = subst (λ (k : ℕ). k < f.mems) at (h refl)
        go true h (suc k, lt, at) = absurd (omega (arith, lt))

    pub act-fine : IsFineInstruction own_regs f.mems i form a w q v
    act-fine = record {
      rule = λ k fits. (fits, words, mems (has_memory i) has);
      first = first-fine;
      current_over = over-fine f.mems v n low (omega (arith, few)) q has;
      named = named-fine-over (own i) (own_mem i q) (own-rise i) own-among;
      wide = named-fine-over own_regs (mem_first i q f.mems) rise (first-among i q f.mems has);
      in_order = named-fine-over own_regs (all_mems f.mems) rise (all-among f.mems);
    }
      where
        words : AreRisingFrom IsWord 0 (numbered 0 (map (λ r. Var (v.reg r)) (own i)))
        words =
            let long = length-map (λ r. Var (v.reg r)) (own i) in
            let short = own-few in
            rising-fine IsWord 0 0 (map (λ r. Var (v.reg r)) (own i)) (omega arith) (omega (arith, long, short)) (map-fine IsWord (λ r. Var (v.reg r)) (own i) (named-fine f.mems v n low (omega (arith, few))))

        mems : (b : Bool) → (b ≡ true → q < f.mems) → AreRisingFrom IsMem 0 (numbered 0 (map (λ p. MemVar (v.memory p)) (cond b (q ∷ []) [])))
        mems true h = rising-fine IsMem 0 0 (MemVar (v.memory q) ∷ []) (omega arith) (omega arith) (memory-fine f.mems v n low (omega (arith, few)) q (h refl), tt)
        mems false h = tt

-- ---- one exit of a call

module _ (f : Flow) (rise : AreRegistersFrom 1 f.regs) (few_mems : f.mems ≤ 2) where
  regs-few : length f.regs ≤ 31
  regs-few = let short = rising-short 1 f.regs (omega arith) rise in omega (arith, short)

  pub next-low : (words mems n : ℕ) → words ≤ n → mems ≤ n → n < 2 ^ 16 → IsLow f.mems (fresh f words mems) (n + 31)
  next-low words mems n h k few =
      let regs = regs-few in
      record {
        word = λ r. (let low = position-most f.regs r in omega (arith, low, regs, h));
        memory = λ q lt. omega (arith, lt, few_mems, k, few);
        words = omega (arith, regs, h);
        mems = omega (arith, few_mems, k);
      }

  pub front-low : IsLow f.mems (start f) 31
  front-low = subst (IsLow f.mems (start f)) (let e : 0 + 31 ≡ 31 = omega arith in e) (next-low 0 0 0 (omega arith) (omega arith) (omega arith))

  pub exit-low : (x : Exit) (words mems n : ℕ) → words ≤ n → mems ≤ n → n ≤ 2 ^ 15 → IsLow f.mems (exit_place f x words mems) (n + 1 + 31)
  exit-low (At a) words mems n h k few = next-low words mems (n + 1) (omega (arith, h)) (omega (arith, k)) (omega (arith, few))
  exit-low Ret words mems n h k few = next-low (suc words) mems (n + 1) (omega (arith, h)) (omega (arith, k)) (omega (arith, few))

  results-fine : (x : Exit) (words mems n : ℕ) → words ≤ n → mems ≤ n → n ≤ 2 ^ 15 → IsValues (results_at f x words mems)
  results-fine (At a) words mems n h k few = values-printed f.mems (fresh f words mems) (n + 31) (next-low words mems n h k (omega (arith, few))) (omega (arith, few)) f refl
  results-fine Ret words mems n h k few =
      let vals = values-printed f.mems (fresh f (suc words) mems) (n + 1 + 31) (next-low (suc words) mems (n + 1) (omega (arith, h)) (omega (arith, k)) (omega (arith, few))) (omega (arith, few)) f refl in
      ((var-fine words (omega (arith, h, few)), vals.0), vals.1)

  pub exit-pc-fine : (x : Exit) (words : ℕ) → IsExit x → words < 2 ^ 16 → IsWord (pc_of x words)
  exit-pc-fine (At a) words fine few = fine
  exit-pc-fine Ret words fine few = var-fine words few

  words-few : (x : Exit) (words mems : ℕ) → length (results_at f x words mems).words ≤ 32
  words-few (At a) words mems = let long = length-map (λ r. Var ((fresh f words mems).reg r)) f.regs in let few = regs-few in omega (arith, long, few)
  words-few Ret words mems = let long = length-map (λ r. Var ((fresh f (suc words) mems).reg r)) f.regs in let few = regs-few in omega (arith, long, few)

  current-few : (v : VariableMap) → length (current f v).mems ≤ 2
  current-few v = let long = length-map (λ q. MemVar (v.memory q)) (range_with_len 0 f.mems) in let count = length-range_with_len 0 f.mems in omega (arith, long, count, few_mems)

  memories-few : (x : Exit) (words mems : ℕ) → length (results_at f x words mems).mems ≤ 2
  memories-few (At a) words mems = current-few (fresh f words mems)
  memories-few Ret words mems = current-few (fresh f (suc words) mems)

  module _ (ranges : List Range) (order : AreRanges ranges) (bytes : HaveBytes ranges) (entry d k : ℕ) (x : Exit) (low_entry : entry < 2 ^ 64) (low_def : d < 2 ^ 32) (low_exit : k < 2 ^ 32) (fine_exit : IsExit x) where
    pub fact-fine : (v : VariableMap) (n : ℕ) → IsLow f.mems v n → n ≤ 2 ^ 15 → AllByRecursion IsFact (Gives d k (current f v) (results_at f x v.words v.mems) ∷ [])
    fact-fine v n low few = ((low_def, low_exit, values-printed f.mems v n low (omega (arith, few)) f refl, results-fine x v.words v.mems n low.words low.mems few), tt)

    gives-fine : (v : VariableMap) (n : ℕ) → IsLow f.mems v n → n ≤ 2 ^ 15 → IsTriple (gives_over f ranges entry d k x v)
    gives-fine v n low few =
        let most = low.words in
        record {
          facts = fact-fine v n low few;
          pre = standing-fine f.mems v n low (omega (arith, few)) f.regs (Const entry) rise low_entry;
          code = order;
          bytes = bytes;
          post = standing-fine f.mems (exit_place f x v.words v.mems) (n + 1 + 31) (exit-low x v.words v.mems n low.words low.mems few) (omega (arith, few)) f.regs (pc_of x v.words) rise (exit-pc-fine x v.words fine_exit (omega (arith, most, few)));
        }

    pub exit-standing-fine : (v : VariableMap) (n : ℕ) → IsLow f.mems v n → n ≤ 2 ^ 15 → (j : ℕ) (facts : List FactTree) (code : List Range) → j < 2 ^ 64 → facts ≡ Gives d k (current f v) (results_at f x v.words v.mems) ∷ [] → code ≡ ranges →
        IsFineCited (record { number = j; facts = facts; code = code })
    exit-standing-fine v n low few j facts code fits facts_are code_is = record {
      number = fits;
      facts = subst (AllByRecursion IsFact) (sym facts_are) (fact-fine v n low few);
      code = subst AreRanges (sym code_is) order;
      bytes = subst HaveBytes (sym code_is) bytes;
    }

    pub exit-fine : (v : VariableMap) (n : ℕ) → IsLow f.mems v n → n ≤ 2 ^ 15 → IsFineExit f ranges entry d k x v
    exit-fine v n low few = record {
      rule = λ j fits. (fits, words, mems);
      first = gives-fine (start f) 31 front-low (omega arith);
      current_over = gives-fine v n low few;
    }
      where
        now : IsValues (current f v)
        now = values-printed f.mems v n low (omega (arith, few)) f refl

        then : IsValues (results_at f x v.words v.mems)
        then = results-fine x v.words v.mems n low.words low.mems few

        words : AreRisingFrom IsWord 0 (numbered 0 ((current f v).words ++ (results_at f x v.words v.mems).words))
        words =
            let sum = length-append (current f v).words (results_at f x v.words v.mems).words in
            let long = length-map (λ r. Var (v.reg r)) f.regs in
            let few_regs = regs-few in
            let more = words-few x v.words v.mems in
            rising-fine IsWord 0 0 ((current f v).words ++ (results_at f x v.words v.mems).words) (omega arith) (omega (arith, sum, long, few_regs, more))
            (all-join IsWord (current f v).words (results_at f x v.words v.mems).words now.0 then.0)

        mems : AreRisingFrom IsMem 0 (numbered 0 ((current f v).mems ++ (results_at f x v.words v.mems).mems))
        mems =
            let sum = length-append (current f v).mems (results_at f x v.words v.mems).mems in
            let one = current-few v in
            let more = memories-few x v.words v.mems in
            rising-fine IsMem 0 0 ((current f v).mems ++ (results_at f x v.words v.mems).mems) (omega arith) (omega (arith, sum, one, more))
            (all-join IsMem (current f v).mems (results_at f x v.words v.mems).mems now.1 then.1)

-- ---- one theorem after another

module _ (st there : CitedTree) (first : IsFineCited st) (second : IsFineCited there) (more : List FactTree) (are : AreMissing st.facts there.facts more) (ranges : List Range) (order : AreRanges ranges) (bytes : HaveBytes ranges) where
  both-fine : AllByRecursion IsFact (st.facts ++ more)
  both-fine = all-join IsFact st.facts more first.facts (missing-fine IsFact st.facts there.facts more are second.facts)

  pub joined-fine : (k : ℕ) → k < 2 ^ 64 → IsFineCited (record { number = k; facts = st.facts ++ more; code = ranges })
  joined-fine k low = record { number = low; facts = both-fine; code = order; bytes = bytes }

-- from a way's origin to a place
module _ (f : Flow) (o : OriginTree) (rise : AreRegistersFrom 1 o.regs) (low_entry : o.entry < 2 ^ 64) (low_origin : IsLow f.mems o.place 65535) (to : WordTree) (u : VariableMap) (fine : IsWord to) (low : IsLow f.mems u 65535) where
  pub triple-fine : (facts : List FactTree) (ranges : List Range) → AllByRecursion IsFact facts → AreRanges ranges → HaveBytes ranges → IsTriple (record { facts = facts; pre = standing_on f o (Const o.entry) o.place; code = ranges; post = standing_on f o to u })
  triple-fine facts ranges facts_fine order bytes = record {
    facts = facts_fine;
    pre = standing-fine f.mems o.place 65535 low_origin (omega arith) o.regs (Const o.entry) rise low_entry;
    code = order;
    bytes = bytes;
    post = standing-fine f.mems u 65535 low (omega arith) o.regs to rise fine;
  }

-- codes within one agree, and so is their union
pub agree_within : (x y z : Bytes) → IsWithin x z → IsWithin y z → Agree x y
agree_within x y z h k = λ a b c e d. some-same b c (sym (h a b e) ∙ k a c d)

pub union_within : (x y z u : Bytes) → u ≡ over x y → IsWithin x z → IsWithin y z → IsWithin u z
union_within x y z u is h k = λ a b e. or-within (x a) (y a) b (z a ≡ Some b) (ap (λ (w : Bytes). w a) (sym is) ∙ e) (λ d. h a b d) (λ d. k a b d)
