-- The triples of one instruction: its axiom, over the current variables, with new variables, and over all registers and memories.
use Rattle.std.proofs.Common.{◌≡◌, ℕ, zero, suc, ◌+◌, ◌^◌, ◌≤◌, leb, List, [], ◌∷◌, ◌++◌, map, length, drop, filter, Bool, true, false, cond, not, eqb, ◌||◌, ◌<◌, ◌⊎◌, ◌&&◌, refl, sym, ap, ◌∙◌, subst, arith, Some, None, inl, inr, Contains, eqb-true, eq-eqb, ne_eqb}
use Rattle.std.specs.List.{AllZip, range_with_len, position_or_len}
use Rattle.std.specs.Option.{option_and_then}
use Rattle.std.specs.Prelude.{unwrap_or}
use Rattle.std.proofs.lemmas.List.Elements.{Contains-append_left, Contains-append_right}
use Rattle.rv_decode.specs.declared.instruction.Instr.{Instr}
use Rattle.rv_decode.specs.declared.instruction.Instr.TheVariants as instr
use Rattle.std.proofs.lemmas.Bool.{eqb-false}
use Rattle.std.proofs.lemmas.Bool.Decides.{nat_tests}
use Rattle.rvc.specs.Number.{instruction_of, length_of}
use Rattle.rv_machine.specs.Step.{is_even}
use Rattle.word_terms.specs.Tree.{WordTree, MemTree, Const, Var, Bin, Extend, Load, MemVar, Store}
use Rattle.rv_words.specs.declared.range.Range.{Range}
use Rattle.word_terms.specs.Substitution.{listed, put_in_mem}
use Rattle.triple_kernel.specs.Tree.{FactTree, WordIs, MemIs, So, TripleTree}
use Rattle.triple_kernel.specs.Rules.{IsInst, IsWeakened}
use Rattle.triple_kernel.specs.Swap.{WordsStated, MemsStated, SwapWord, SwapMem, SwapRegister}
use Rattle.tailrec_lang.specs.Registers.{AreRegistersFrom}
use Rattle.frame_compose.specs.Rules.{is_listed, listed as those_listed, further, IsFramed, AreExchanged, IsExchanged}
use Rattle.verdicts.specs.Instance.{put_for}
use Rattle.triple_kernel.specs.declared.form.Form.{Form}
use Rattle.rv_decode.specs.Registers.{is_read, registers_where, sources, destination}
use Rattle.instr_axioms.specs.Terms.{Names, has_memory, conditions, result, word_after, memory_after, pc_after, has_form}
use Rattle.instr_axioms.specs.Axiom.{register_with, memory_if, triple_over, is_own, own, variables_for, own_triple, triple_if, axiom_of, word_code}
use Rattle.instr_axioms.proofs.Instances.{Becomes, is_inst}
use Rattle.code_parts.specs.Bodies.{VariableMap, names, is_store, wrote, stored, place_after}
use Rattle.path_walk.specs.Further.{is_crossed}
use Rattle.path_walk.specs.inner.Acts.{HasOwn, all_mems, mem_after, mem_first, named_own, named_triple, named_wide, new_facts, own_mem, own_mems, own_words, triple_on, numbered}
use Rattle.code_parts.proofs.Lists.{here, later, in_range, is_in, in-true}
use Rattle.path_walk.proofs.Lists.{smaller-is, listed-place}
use Rattle.code_parts.proofs.Registers.{filter-has, filter-rise, or_left, or_right}
use Rattle.code_parts.proofs.Counts.{store-writes_none}

pub filter-test : (p : ℕ → Bool) (xs : List ℕ) (r : ℕ) → Contains (filter p xs) r → p r ≡ true
filter-test p [] r c = absurd (omega (arith, c.1))
filter-test p (x ∷ xs) r c = go (p x) refl c (λ d. filter-test p xs r d)
  where
    go : (b : Bool) → p x ≡ b → Contains (cond b (x ∷ filter p xs) (filter p xs)) r → (Contains (filter p xs) r → p r ≡ true) → p r ≡ true
    go true is (zero, lt, at) on = ap p (sym at) ∙ is
    go true is (suc k, lt, at) on = on (k, omega (arith, lt), at)
    go false is c on = on c

pub own-rise : (i : Instr) → AreRegistersFrom 1 (own i)
unfolding registers_where
own-rise i = filter-rise (is_own i) 1 31 (omega arith)

pub own-has : (i : Instr) (r : ℕ) → 1 ≤ r → r ≤ 31 → is_own i r ≡ true → Contains (own i) r
unfolding registers_where
own-has i r low high e = filter-has (is_own i) 1 31 r low (omega arith) e

pub own-test : (i : Instr) (r : ℕ) → Contains (own i) r → is_own i r ≡ true
unfolding registers_where
own-test i r c = filter-test (is_own i) (range_with_len 1 31) r c

-- ---- the axiom

pub axiom-is : (i : Instr) (a w : ℕ) (form : Form) → is_even a ≡ true → a + length_of w ≤ 2 ^ 64 → instruction_of w ≡ Some i → has_form i form ≡ true → axiom_of a w form ≡ Some (own_triple i form a w)
unfolding axiom_of
axiom-is i a w form even room is has =
    let fits : leb (a + length_of w) (2 ^ 64) ≡ true = grind (arith, nat_tests) in
    (λ j. cond (even j && fits j) (option_and_then (triple_if a w form) (is j)) None) ∙ (λ j. cond (has j) (Some (own_triple i form a w)) None)

pub memory-same : (i : Instr) (n : Names) → is_store i ≡ false → memory_after i n ≡ n.memory
memory-same (instr.Op o rd rs1 rs2) n e = refl
memory-same (instr.OpImm o rd rs1 imm) n e = refl
memory-same (instr.Lui rd imm) n e = refl
memory-same (instr.Auipc rd imm) n e = refl
memory-same (instr.Jal rd offset) n e = refl
memory-same (instr.Jalr rd rs1 imm) n e = refl
memory-same (instr.Branch c rs1 rs2 offset) n e = refl
memory-same (instr.Load w signed rd rs1 imm) n e = refl
memory-same (instr.Store w rs1 rs2 imm) n e = absurd (cc)
memory-same (instr.Fence imm rs1 rd) n e = refl
memory-same instr.Ecall n e = refl
memory-same instr.Ebreak n e = refl

store-has_memory : (i : Instr) → has_memory i ≡ false → is_store i ≡ false
store-has_memory (instr.Op o rd rs1 rs2) e = refl
store-has_memory (instr.OpImm o rd rs1 imm) e = refl
store-has_memory (instr.Lui rd imm) e = refl
store-has_memory (instr.Auipc rd imm) e = refl
store-has_memory (instr.Jal rd offset) e = refl
store-has_memory (instr.Jalr rd rs1 imm) e = refl
store-has_memory (instr.Branch c rs1 rs2 offset) e = refl
store-has_memory (instr.Load w signed rd rs1 imm) e = refl
store-has_memory (instr.Store w rs1 rs2 imm) e = absurd (cc)
store-has_memory (instr.Fence imm rs1 rd) e = refl
store-has_memory instr.Ecall e = refl
store-has_memory instr.Ebreak e = refl

-- ---- frame

any-map : (w : ℕ → WordTree) (xs : List ℕ) (r : ℕ) → is_listed (map (register_with w) xs) r ≡ is_in xs r
any-map w [] r = refl
any-map w (x ∷ xs) r = ap (λ (b : Bool). eqb x r || b) (any-map w xs r)

-- registers that pass tests which are the same, with terms that are the same
passing : (w u : ℕ → WordTree) (p q : ℕ → Bool) (rs : List ℕ) → ((r : ℕ) → Contains rs r → p r ≡ q r) → ((r : ℕ) → Contains rs r → q r ≡ true → w r ≡ u r) →
    filter (λ (r : ℕ × WordTree). p r.0) (map (register_with w) rs) ≡ map (register_with u) (filter q rs)
passing w u p q [] tests terms = refl
passing w u p q (r ∷ rs) tests terms = go (q r) refl (passing w u p q rs (λ x c. tests x (later r rs x c)) (λ x c. terms x (later r rs x c)))
  where
    go : (b : Bool) → q r ≡ b → filter (λ (r : ℕ × WordTree). p r.0) (map (register_with w) rs) ≡ map (register_with u) (filter q rs) →
        cond (p r) ((r, w r) ∷ filter (λ (r : ℕ × WordTree). p r.0) (map (register_with w) rs)) (filter (λ (r : ℕ × WordTree). p r.0) (map (register_with w) rs)) ≡ map (register_with u) (cond (q r) (r ∷ filter q rs) (filter q rs))
    go true is rest =
        let p_is = tests r (here r rs) ∙ is in
        let term = terms r (here r rs) is in
        (λ j. cond (p_is j) ((r, term j) ∷ rest j) (rest j)) ∙ (λ j. map (register_with u) (cond (sym is j) (r ∷ filter q rs) (filter q rs)))
    go false is rest =
        let p_is = tests r (here r rs) ∙ is in
        (λ j. cond (p_is j) ((r, w r) ∷ rest j) (rest j)) ∙ (λ j. map (register_with u) (cond (sym is j) (r ∷ filter q rs) (filter q rs)))

-- ---- memories

-- another memory stays as it is
apart-mem : (i : Instr) (q : ℕ) (v : VariableMap) (p : ℕ) → (b : Bool) → eqb p q ≡ b → (b ≡ false) ⊎ (is_store i ≡ false) → MemVar (v.memory p) ≡ mem_after i q v p
apart-mem i q v p true is (inl e) = absurd (cc)
apart-mem i q v p true is (inr none) =
    ap (λ x. MemVar (v.memory x)) (eqb-true p q is) ∙ sym (memory-same i (names v q) none) ∙ (λ j. cond (sym is j) (memory_after i (names v q)) (MemVar (v.memory p)))
apart-mem i q v p false is why = λ j. cond (sym is j) (memory_after i (names v q)) (MemVar (v.memory p))

-- .. and keeps its variable
kept-memory : (i : Instr) (q : ℕ) (v : VariableMap) (p : ℕ) → (eqb p q ≡ false) ⊎ (is_store i ≡ false) → v.memory p ≡ (place_after i q v).memory p
kept-memory i q v p why = go (is_store i) refl
  where
    written : (d : Bool) → (cond d v (record { words = suc v.words; mems = v.mems; reg = λ r. cond (eqb r (destination i)) v.words (v.reg r); memory = v.memory })).memory p ≡ v.memory p
    written true = refl
    written false = refl

    other : is_store i ≡ true → (eqb p q ≡ false) ⊎ (is_store i ≡ false) → eqb p q ≡ false
    other is (inl e) = e
    other is (inr none) = absurd (cc)

    go : (s : Bool) → is_store i ≡ s → v.memory p ≡ (cond s (stored q v) (wrote (destination i) v)).memory p
    go true is = let apart = other is why in λ j. cond (sym apart j) v.mems (v.memory p)
    go false is = sym (written (eqb (destination i) 0))

others-same : (i : Instr) (q : ℕ) (v : VariableMap) (ps : List ℕ) → map (λ p. MemVar (v.memory p)) (filter (λ p. not (eqb p q)) ps) ≡ map (λ p. MemVar ((place_after i q v).memory p)) (filter (λ p. not (eqb p q)) ps)
others-same i q v [] = refl
others-same i q v (p ∷ ps) = go (eqb p q) refl (others-same i q v ps)
  where
    go : (b : Bool) → eqb p q ≡ b → map (λ p. MemVar (v.memory p)) (filter (λ p. not (eqb p q)) ps) ≡ map (λ p. MemVar ((place_after i q v).memory p)) (filter (λ p. not (eqb p q)) ps) →
        map (λ p. MemVar (v.memory p)) (cond (not b) (p ∷ filter (λ p. not (eqb p q)) ps) (filter (λ p. not (eqb p q)) ps)) ≡ map (λ p. MemVar ((place_after i q v).memory p)) (cond (not b) (p ∷ filter (λ p. not (eqb p q)) ps) (filter (λ p. not (eqb p q)) ps))
    go true is rest = rest
    go false is rest = let first = kept-memory i q v p (inl is) in λ j. MemVar (first j) ∷ rest j

all-same : (i : Instr) (q : ℕ) (v : VariableMap) (ps : List ℕ) → is_store i ≡ false → map (λ p. MemVar (v.memory p)) ps ≡ map (λ p. MemVar ((place_after i q v).memory p)) ps
all-same i q v [] none = refl
all-same i q v (p ∷ ps) none = let first = kept-memory i q v p (inr none) in let rest = all-same i q v ps none in λ j. MemVar (first j) ∷ rest j

-- a register that isn't written keeps its variable
kept-register : (i : Instr) (q : ℕ) (v : VariableMap) (r : ℕ) → eqb r (destination i) ≡ false → v.reg r ≡ (place_after i q v).reg r
kept-register i q v r other = go (is_store i) (eqb (destination i) 0)
  where
    go : (s d : Bool) → v.reg r ≡ (cond s (stored q v) (cond d v (record { words = suc v.words; mems = v.mems; reg = λ x. cond (eqb x (destination i)) v.words (v.reg x); memory = v.memory }))).reg r
    go true d = refl
    go false true = refl
    go false false = λ j. cond (sym other j) v.words (v.reg r)

-- the memory after an instruction, and those that are further before it
wider-mems : (h : Bool) (q : ℕ) (others all : List ℕ) (x y : ℕ → MemTree) → (h ≡ true → map x others ≡ map y others) → (h ≡ false → map x all ≡ map y all) →
    map y (cond h (q ∷ []) []) ++ drop (length (map x (cond h (q ∷ []) []))) (map x (cond h (q ∷ others) all)) ≡ map y (cond h (q ∷ others) all)
wider-mems true q others all x y one none = λ i. y q ∷ one refl i
wider-mems false q others all x y one none = none refl

range-apart : (w n : ℕ) → 1 ≤ w → filter (λ p. not (eqb p 0)) (range_with_len w n) ≡ range_with_len w n
range-apart w zero le = refl
range-apart w (suc n) le =
    let rest = range-apart (w + 1) n (omega arith) in
    let other : eqb w 0 ≡ false = ne_eqb w 0 (λ e. absurd (omega (arith, e, le))) in
    (λ i. cond (not (other i)) (w ∷ filter (λ p. not (eqb p 0)) (range_with_len (w + 1) n)) (filter (λ p. not (eqb p 0)) (range_with_len (w + 1) n))) ∙ (λ i. w ∷ rest i)

-- its own memory in front is the memories in order, where it is the first
pub in-order : (i : Instr) (q mems : ℕ) → (has_memory i ≡ true → q < mems) → is_crossed i q ≡ false → mem_first i q mems ≡ all_mems mems
in-order i q mems low none = go (has_memory i) q mems low none
  where
    go : (h : Bool) (q mems : ℕ) → (h ≡ true → q < mems) → (h && not (eqb q 0)) ≡ false → cond h (q ∷ filter (λ p. not (eqb p q)) (range_with_len 0 mems)) (range_with_len 0 mems) ≡ range_with_len 0 mems
    go false q mems low none = refl
    go true zero zero low none = absurd (let lt = low refl in omega (arith, lt))
    go true zero (suc n) low none = let rest = range-apart 1 n (omega arith) in λ i. 0 ∷ rest i
    go true (suc q) mems low none =
        let other : eqb (suc q) 0 ≡ false = ne_eqb (suc q) 0 (λ e. absurd (omega (arith, e))) in
        absurd (let clash : true ≡ false = (λ j. not (sym other j)) ∙ none in cc)

-- an instruction that uses another memory than the first has one
pub crossed-uses : (i : Instr) (q : ℕ) → is_crossed i q ≡ true → (has_memory i ≡ true) × (1 ≤ q)
crossed-uses i q is = (both.0, positive q (eqb-false q 0 both.1))
  where
    by : (b c : Bool) → (b && not c) ≡ true → (b ≡ true) × (c ≡ false)
    by true true e = absurd (cc)
    by true false e = (refl, refl)
    by false c e = absurd (cc)

    both : (has_memory i ≡ true) × (eqb q 0 ≡ false)
    both = by (has_memory i) (eqb q 0) is

    positive : (q : ℕ) → (q ≡ 0 → ⊥) → 1 ≤ q
    positive zero ne = absurd (ne refl)
    positive (suc q) ne = omega arith

pub uncrossed : (i : Instr) (q : ℕ) → q ≡ 0 → is_crossed i q ≡ true → ⊥
uncrossed i q none is = let some = (crossed-uses i q is).1 in omega (arith, none, some)

-- .. and of two that is the second, and stands in front of the first
pub crossed-second : (i : Instr) (q mems : ℕ) → (has_memory i ≡ true → q < mems) → mems ≡ 2 → is_crossed i q ≡ true → (q ≡ 1) × (mem_first i q mems ≡ 1 ∷ 0 ∷ [])
crossed-second i q mems low two is =
    let uses = crossed-uses i q is in
    let most = low uses.0 in
    let least = uses.1 in
    let one : q ≡ 1 = omega (arith, most, least, two) in
    (one, (λ j. cond (uses.0 j) (q ∷ filter (λ p. not (eqb p q)) (range_with_len 0 mems)) (range_with_len 0 mems)) ∙ (λ j. one j ∷ filter (λ p. not (eqb p (one j))) (range_with_len 0 (two j))))

exchanged-mems : (ms ns : List ℕ) (x : ℕ → MemTree) → ms ≡ 1 ∷ 0 ∷ [] → ns ≡ 0 ∷ 1 ∷ [] → AreExchanged (map x ms) (map x ns)
exchanged-mems ms ns x m n = subst (λ (zs : List ℕ). AreExchanged (map x zs) (map x ns)) (sym m) (subst (λ (zs : List ℕ). AreExchanged (x 1 ∷ x 0 ∷ []) (map x zs)) (sym n) refl)

-- so they are exchanged
pub is_exchanged : (regs : List ℕ) (mems : ℕ) (i : Instr) (form : Form) (a w q : ℕ) (v : VariableMap) → (has_memory i ≡ true → q < mems) → mems ≡ 2 → is_crossed i q ≡ true →
    IsExchanged (named_wide regs i form a w (mem_first i q mems) q v) (named_wide regs i form a w (all_mems mems) q v)
is_exchanged regs mems i form a w q v low two is =
    let front = (crossed-second i q mems low two is).1 in
    record {
      facts = refl;
      code = refl;
      pre_pc = refl;
      pre_regs = refl;
      pre_mems = exchanged-mems (mem_first i q mems) (all_mems mems) (λ p. MemVar (v.memory p)) front (ap all_mems two);
      post_pc = refl;
      post_regs = refl;
      post_mems = exchanged-mems (mem_first i q mems) (all_mems mems) (λ p. MemVar ((place_after i q v).memory p)) front (ap all_mems two);
    }

-- over its own registers, its memory is the one that it has
memory-if : (b : Bool) (q : ℕ) (x : ℕ → MemTree) (m : MemTree) → m ≡ x q → memory_if b m ≡ map x (cond b (q ∷ []) [])
memory-if true q x m e = λ i. e i ∷ []
memory-if false q x m e = refl

own-on : (i : Instr) (form : Form) (a k : ℕ) (code : List Range) (q : ℕ) (v : VariableMap) → triple_over i form a k code (own i) (has_memory i) (names v q) ≡ triple_on i form a k code (own i) (own_mem i q) q v
own-on i form a k code q v =
    let before_mems = memory-if (has_memory i) q (λ p. MemVar (v.memory p)) (MemVar (v.memory q)) refl in
    let same : memory_after i (names v q) ≡ mem_after i q v q = λ j. cond (sym (eq-eqb q q refl) j) (memory_after i (names v q)) (MemVar (v.memory q)) in
    let after_mems = memory-if (has_memory i) q (mem_after i q v) (memory_after i (names v q)) same in
    λ j. record {
      facts = map So (conditions i form (names v q));
      pre = record { pc = Const a; regs = map (register_with (names v q).word) (own i); mems = before_mems j };
      code = code;
      post = record { pc = pc_after i form a k (names v q); regs = map (register_with (word_after i a k (names v q))) (own i); mems = after_mems j };
    }

-- ---- frame

-- registers among others: they are those of the others that are listed, and the further ones are the same where their terms are
module _ (few regs : List ℕ) (low : AreRegistersFrom 1 few) (rise : AreRegistersFrom 1 regs) (within : (r : ℕ) → Contains few r → Contains regs r) where
  pub wider-regs : (x : ℕ → WordTree) → map (register_with x) few ≡ those_listed (map (register_with x) few) (map (register_with x) regs)
  wider-regs x =
      sym (passing x x (λ r. is_listed (map (register_with x) few) r) (is_in few) regs (λ r c. any-map x few r) (λ r c t. refl)
      ∙ ap (map (register_with x)) (smaller-is 1 few regs low rise within))

  pub further-regs : (x y : ℕ → WordTree) → ((r : ℕ) → Contains regs r → not (is_in few r) ≡ true → x r ≡ y r) → further (map (register_with x) few) (map (register_with x) regs) ≡ further (map (register_with y) few) (map (register_with y) regs)
  further-regs x y apart =
      passing x y (λ r. not (is_listed (map (register_with x) few) r)) (λ r. not (is_in few r)) regs (λ r c. ap not (any-map x few r)) apart
      ∙ sym (passing y y (λ r. not (is_listed (map (register_with y) few) r)) (λ r. not (is_in few r)) regs (λ r c. ap not (any-map y few r)) (λ r c t. refl))

pub not_in : (few : List ℕ) (r : ℕ) → not (is_in few r) ≡ true → Contains few r → ⊥
not_in few r t c = let clash : true ≡ false = sym t ∙ ap not (in-true few r c) in cc

-- a register that an instruction doesn't have keeps its variable
pub kept-apart : (i : Instr) (q : ℕ) (v : VariableMap) (r : ℕ) → 1 ≤ r → r ≤ 31 → (Contains (own i) r → ⊥) → v.reg r ≡ (place_after i q v).reg r
kept-apart i q v r low high none =
    kept-register i q v r (ne_eqb r (destination i) (λ e. none (own-has i r low high (or_left (eqb (destination i) r) (is_read i r) (eq-eqb (destination i) r (sym e))))))

module _ (regs : List ℕ) (mems : ℕ) (i : Instr) (form : Form) (a w q : ℕ) (rise : AreRegistersFrom 1 regs) (within : HasOwn regs i) (v : VariableMap) where
  abbrev before : ℕ → WordTree
  before r = Var (v.reg r)

  abbrev after : ℕ → WordTree
  after r = Var ((place_after i q v).reg r)

  pub is_framed : IsFramed (named_own i form a w q v) (named_wide regs i form a w (mem_first i q mems) q v)
  is_framed = record {
    facts = refl;
    code = refl;
    pre_pc = refl;
    post_pc = refl;
    pre_regs = wider-regs (own i) regs (own-rise i) rise within before;
    post_regs = wider-regs (own i) regs (own-rise i) rise within after;
    further_regs = further-regs (own i) regs (own-rise i) rise within before after (λ r c t. let range = in_range 1 regs r rise c in ap Var (kept-apart i q v r range.0 range.1 (not_in (own i) r t)));
    pre_mems = wider-mems (has_memory i) q (filter (λ p. not (eqb p q)) (all_mems mems)) (all_mems mems) (λ p. MemVar (v.memory p)) (λ p. MemVar (v.memory p)) (λ e. refl) (λ e. refl);
    post_mems = wider-mems (has_memory i) q (filter (λ p. not (eqb p q)) (all_mems mems)) (all_mems mems) (λ p. MemVar (v.memory p)) (λ p. MemVar ((place_after i q v).memory p))
        (λ e. others-same i q v (all_mems mems)) (λ e. all-same i q v (all_mems mems) (store-has_memory i e));
  }

-- ---- inst

module _ (i : Instr) (q : ℕ) (v : VariableMap) (reads : (r : ℕ) → Contains (sources i) r → (r ≡ 0 → ⊥) → (1 ≤ r) × (r ≤ 31)) where
  becomes : Becomes (put_for (own_words i v) (own_mems i q v)) (variables_for (own i)) (names v q) (own i) (has_memory i)
  becomes = record {
    word = λ r c.
        let place : position_or_len (λ q. eqb q r) (own i) ≡ 0 + position_or_len (λ q. eqb q r) (own i) = omega arith in
        ap (λ o. unwrap_or o (Var (position_or_len (λ q. eqb q r) (own i)))) ((λ j. listed (own_words i v) (place j)) ∙ listed-place (names v q).word 0 (own i) r c);
    memory = λ e. by_memory (has_memory i) e;
  }
    where
      by_memory : (b : Bool) → b ≡ true → put_in_mem (put_for (own_words i v) (numbered 0 (map (λ p. MemVar (v.memory p)) (cond b (q ∷ []) [])))) (MemVar 0) ≡ MemVar (v.memory q)
      by_memory true e = refl
      by_memory false e = absurd (cc)

  pub is_put : (form : Form) (a w : ℕ) → IsInst (put_for (own_words i v) (own_mems i q v)) (own_triple i form a w) (triple_over i form a (length_of w) (word_code a w) (own i) (has_memory i) (names v q))
  is_put form a w = is_inst (put_for (own_words i v) (own_mems i q v)) (variables_for (own i)) (names v q) (own i) (has_memory i) becomes a (length_of w) i form (word_code a w) (record {
    reads = λ r c ne. let range = reads r c ne in own-has i r range.0 range.1 (or_right (eqb (destination i) r) (is_read i r) (in-true (sources i) r c));
    memory = λ e. e;
  })

-- ---- weaken

pub stated-word : (facts : List FactTree) (t u : WordTree) → WordsStated facts t u → SwapWord facts t u
stated-word facts (Const n) u h = h
stated-word facts (Var i) u h = h
stated-word facts (Bin op a b) u h = inl h
stated-word facts (Extend ext a) u h = inl h
stated-word facts (Load width m a) u h = inl h

pub stated-mem : (facts : List FactTree) (t u : MemTree) → MemsStated facts t u → SwapMem facts t u
stated-mem facts (MemVar i) u h = h
stated-mem facts (Store width m a v) u h = inl h

swap-registers : (facts : List FactTree) (w u : ℕ → WordTree) (rs : List ℕ) → ((r : ℕ) → Contains rs r → SwapWord facts (w r) (u r)) → AllZip (SwapRegister facts) (map (register_with w) rs) (map (register_with u) rs)
swap-registers facts w u [] h = tt
swap-registers facts w u (r ∷ rs) h = ((refl, h r (here r rs)), swap-registers facts w u rs (λ x c. h x (later r rs x c)))

swap-memories : (facts : List FactTree) (x y : ℕ → MemTree) (ps : List ℕ) → ((p : ℕ) → SwapMem facts (x p) (y p)) → AllZip (SwapMem facts) (map x ps) (map y ps)
swap-memories facts x y [] h = tt
swap-memories facts x y (p ∷ ps) h = (h p, swap-memories facts x y ps h)

module _ (i : Instr) (a k m : ℕ) (v : VariableMap) (facts : List FactTree) (known : (x : FactTree) → Contains (new_facts i a k m v) x → Contains facts x) where
  new-word : (r : ℕ) → 1 ≤ r → SwapWord facts (word_after i a k (names v m) r) (Var ((place_after i m v).reg r))
  new-word r low = go (is_store i) refl known
    where
      goes : (b c : Bool) → eqb (destination i) 0 ≡ b → eqb r (destination i) ≡ c → ((x : FactTree) → Contains (cond b [] (WordIs (Var v.words) (result i a k (names v m)) ∷ [])) x → Contains facts x) →
          SwapWord facts (cond c (result i a k (names v m)) (Var (v.reg r))) (Var ((cond b v (record { words = suc v.words; mems = v.mems; reg = λ q. cond (eqb q (destination i)) v.words (v.reg q); memory = v.memory })).reg r))
      goes true true is at more = absurd (let z = eqb-true (destination i) 0 is in let y = eqb-true r (destination i) at in omega (arith, z, y, low))
      goes true false is at more = inl refl
      goes false true is at more = stated-word facts (result i a k (names v m)) (Var (cond (eqb r (destination i)) v.words (v.reg r)))
          (subst (λ z. WordsStated facts (result i a k (names v m)) (Var (cond z v.words (v.reg r)))) (sym at) (inr (inr (more (WordIs (Var v.words) (result i a k (names v m))) (0, omega arith, refl)))))
      goes false false is at more = subst (λ z. WordsStated facts (Var (v.reg r)) (Var (cond z v.words (v.reg r)))) (sym at) (inl refl)

      none : eqb (destination i) 0 ≡ true → (c : Bool) → eqb r (destination i) ≡ c → SwapWord facts (cond c (result i a k (names v m)) (Var (v.reg r))) (Var (v.reg r))
      none is true at = absurd (let z = eqb-true (destination i) 0 is in let y = eqb-true r (destination i) at in omega (arith, z, y, low))
      none is false at = inl refl

      go : (s : Bool) → is_store i ≡ s → ((x : FactTree) → Contains (cond s (MemIs (MemVar v.mems) (memory_after i (names v m)) ∷ []) (cond (eqb (destination i) 0) [] (WordIs (Var v.words) (result i a k (names v m)) ∷ []))) x → Contains facts x) →
          SwapWord facts (word_after i a k (names v m) r) (Var ((cond s (stored m v) (wrote (destination i) v)).reg r))
      go true is more = none (eq-eqb (destination i) 0 (store-writes_none i is)) (eqb r (destination i)) refl
      go false is more = goes (eqb (destination i) 0) (eqb r (destination i)) refl refl more

  new-memory : (p : ℕ) → SwapMem facts (mem_after i m v p) (MemVar ((place_after i m v).memory p))
  new-memory p = go (is_store i) refl known
    where
      kept : (b : Bool) → (cond b v (record { words = suc v.words; mems = v.mems; reg = λ q. cond (eqb q (destination i)) v.words (v.reg q); memory = v.memory })).memory p ≡ v.memory p
      kept true = refl
      kept false = refl

      store : (c : Bool) → ((x : FactTree) → Contains (MemIs (MemVar v.mems) (memory_after i (names v m)) ∷ []) x → Contains facts x) →
          SwapMem facts (cond c (memory_after i (names v m)) (MemVar (v.memory p))) (MemVar (cond c v.mems (v.memory p)))
      store true more = stated-mem facts (memory_after i (names v m)) (MemVar v.mems) (inr (inr (more (MemIs (MemVar v.mems) (memory_after i (names v m))) (0, omega arith, refl))))
      store false more = inl refl

      go : (s : Bool) → is_store i ≡ s → ((x : FactTree) → Contains (cond s (MemIs (MemVar v.mems) (memory_after i (names v m)) ∷ []) (cond (eqb (destination i) 0) [] (WordIs (Var v.words) (result i a k (names v m)) ∷ []))) x → Contains facts x) →
          SwapMem facts (mem_after i m v p) (MemVar ((cond s (stored m v) (wrote (destination i) v)).memory p))
      go true is more = store (eqb p m) more
      go false is more = stated-mem facts (mem_after i m v p) (MemVar ((wrote (destination i) v).memory p)) (inl (sym (apart-mem i m v p (eqb p m) refl (inr is)) ∙ ap MemVar (sym (kept (eqb (destination i) 0)))))

on_weakened : (i : Instr) (form : Form) (a k : ℕ) (code : List Range) (regs ms : List ℕ) (m : ℕ) (v : VariableMap) → AreRegistersFrom 1 regs →
    IsWeakened (triple_on i form a k code regs ms m v) (named_triple i form a k code regs ms m v)
on_weakened i form a k code regs ms m v rise =
    let facts : List FactTree = map So (conditions i form (names v m)) ++ new_facts i a k m v in
    let known = λ (x : FactTree) (c : Contains (new_facts i a k m v) x). Contains-append_right (map So (conditions i form (names v m))) (new_facts i a k m v) x c in
    record {
      code = refl;
      pre = refl;
      facts = record { each = λ x c. Contains-append_left (map So (conditions i form (names v m))) (new_facts i a k m v) x c };
      post = record {
        pc = stated-word facts (pc_after i form a k (names v m)) (pc_after i form a k (names v m)) (inl refl);
        regs = swap-registers facts (word_after i a k (names v m)) (λ r. Var ((place_after i m v).reg r)) regs (λ r c. let range = in_range 1 regs r rise c in new-word i a k m v facts known r range.0);
        mems = swap-memories facts (mem_after i m v) (λ p. MemVar ((place_after i m v).memory p)) ms (new-memory i a k m v facts known);
      };
    }

-- over its own registers and its own memory
pub is_weakened : (i : Instr) (form : Form) (a w q : ℕ) (v : VariableMap) → IsWeakened (triple_over i form a (length_of w) (word_code a w) (own i) (has_memory i) (names v q)) (named_own i form a w q v)
is_weakened i form a w q v =
    subst (λ (t : TripleTree). IsWeakened t (named_own i form a w q v)) (sym (own-on i form a (length_of w) (word_code a w) q v))
    (on_weakened i form a (length_of w) (word_code a w) (own i) (own_mem i q) q v (own-rise i))
