-- How many variables there are after the steps of an instruction.
use Rattle.std.proofs.Common.{◌≡◌, ℕ, suc, List, [], ◌∷◌, ◌++◌, map, Bool, true, false, cond, eqb, refl, ◌∙◌, arith}
use Rattle.word_terms.specs.Tree.{CondTree}
use Rattle.tailrec_lang.specs.Tree.{StepTree, Bind, BindMem, Need}
use Rattle.tailrec_lang.specs.WellFormed.{words_after, mems_after}
use Rattle.code_parts.specs.Bodies.{VariableMap, names, is_store, stored, place_after, needs, writes}
use Rattle.rv_decode.specs.declared.instruction.Instr.{Instr}
use Rattle.rv_decode.specs.declared.instruction.Instr.TheVariants as instr
use Rattle.triple_kernel.specs.declared.form.Form.TheVariants.{Next}
use Rattle.rv_decode.specs.Registers.{destination}
use Rattle.instr_axioms.specs.Terms.{conditions, result, memory_after}

abbrev pub all_words_after : List StepTree → ℕ → ℕ
all_words_after [] words = words
all_words_after (s ∷ ss) words = all_words_after ss (words_after s words)

abbrev pub all_mems_after : List StepTree → ℕ → ℕ
all_mems_after [] mems = mems
all_mems_after (s ∷ ss) mems = all_mems_after ss (mems_after s mems)

pub words-append : (ss ts : List StepTree) (words : ℕ) → all_words_after (ss ++ ts) words ≡ all_words_after ts (all_words_after ss words)
words-append [] ts words = refl
words-append (s ∷ ss) ts words = words-append ss ts (words_after s words)

pub mems-append : (ss ts : List StepTree) (mems : ℕ) → all_mems_after (ss ++ ts) mems ≡ all_mems_after ts (all_mems_after ss mems)
mems-append [] ts mems = refl
mems-append (s ∷ ss) ts mems = mems-append ss ts (mems_after s mems)

pub need-words : (cs : List CondTree) (words : ℕ) → all_words_after (map Need cs) words ≡ words
need-words [] words = refl
need-words (c ∷ cs) words = need-words cs words

pub need-mems : (cs : List CondTree) (mems : ℕ) → all_mems_after (map Need cs) mems ≡ mems
need-mems [] mems = refl
need-mems (c ∷ cs) mems = need-mems cs mems

write-words : (i : Instr) (a k m : ℕ) (v : VariableMap) → all_words_after (writes i a k m v) v.words ≡ (place_after i m v).words
write-words i a k m v = go (is_store i) (eqb (destination i) 0)
  where
    go : (s d : Bool) → all_words_after (cond s (BindMem (memory_after i (names v m)) ∷ []) (cond d [] (Bind (result i a k (names v m)) ∷ []))) v.words
        ≡ (cond s (stored m v) (cond d v (record { words = suc v.words; mems = v.mems; reg = λ q. cond (eqb q (destination i)) v.words (v.reg q); memory = v.memory }))).words
    go true d = refl
    go false true = refl
    go false false = omega arith

write-mems : (i : Instr) (a k m : ℕ) (v : VariableMap) → all_mems_after (writes i a k m v) v.mems ≡ (place_after i m v).mems
write-mems i a k m v = go (is_store i) (eqb (destination i) 0)
  where
    go : (s d : Bool) → all_mems_after (cond s (BindMem (memory_after i (names v m)) ∷ []) (cond d [] (Bind (result i a k (names v m)) ∷ []))) v.mems
        ≡ (cond s (stored m v) (cond d v (record { words = suc v.words; mems = v.mems; reg = λ q. cond (eqb q (destination i)) v.words (v.reg q); memory = v.memory }))).mems
    go true d = omega arith
    go false true = refl
    go false false = refl

pub all-words : (i : Instr) (a k m : ℕ) (v : VariableMap) → all_words_after (needs i m v ++ writes i a k m v) v.words ≡ (place_after i m v).words
all-words i a k m v =
    let cs : List CondTree = conditions i Next (names v m) in
    words-append (map Need cs) (writes i a k m v) v.words ∙ (λ j. all_words_after (writes i a k m v) (need-words cs v.words j)) ∙ write-words i a k m v

pub all-mems : (i : Instr) (a k m : ℕ) (v : VariableMap) → all_mems_after (needs i m v ++ writes i a k m v) v.mems ≡ (place_after i m v).mems
all-mems i a k m v =
    let cs : List CondTree = conditions i Next (names v m) in
    mems-append (map Need cs) (writes i a k m v) v.mems ∙ (λ j. all_mems_after (writes i a k m v) (need-mems cs v.mems j)) ∙ write-mems i a k m v

-- a store writes no register
pub store-writes_none : (i : Instr) → is_store i ≡ true → destination i ≡ 0
store-writes_none (instr.Op o rd rs1 rs2) e = absurd (cc)
store-writes_none (instr.OpImm o rd rs1 imm) e = absurd (cc)
store-writes_none (instr.Lui rd imm) e = absurd (cc)
store-writes_none (instr.Auipc rd imm) e = absurd (cc)
store-writes_none (instr.Jal rd offset) e = absurd (cc)
store-writes_none (instr.Jalr rd rs1 imm) e = absurd (cc)
store-writes_none (instr.Branch c rs1 rs2 offset) e = absurd (cc)
store-writes_none (instr.Load w signed rd rs1 imm) e = absurd (cc)
store-writes_none (instr.Store w rs1 rs2 imm) e = refl
store-writes_none (instr.Fence imm rs1 rd) e = absurd (cc)
store-writes_none instr.Ecall e = absurd (cc)
store-writes_none instr.Ebreak e = absurd (cc)
