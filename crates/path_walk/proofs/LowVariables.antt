-- Places name low variables.
use Rattle.std.proofs.Common.{ℕ, zero, suc, ◌<◌, ◌≤◌, ◌^◌, Bool, true, false, cond, eqb, arith}
use Rattle.rv_decode.specs.declared.instruction.Instr.{Instr}
use Rattle.rv_decode.specs.Registers.{destination}
use Rattle.code_parts.specs.declared.variable_map.VariableMap.{VariableMap as TheMap}
use Rattle.code_parts.specs.Bodies.{VariableMap, is_store, place_after, stored}
use Rattle.code_parts.specs.VariableMaps.{place_of}
use Rattle.path_walk.proofs.PartLimits.{IsLow}

pub low_place : (p : TheMap) (n mem_count : ℕ) → mem_count ≤ 2 → (place_of p).memory 1 < 2 ^ 32 → n < 2 ^ 16 → p.words ≤ n → p.mems ≤ n → IsLow mem_count (place_of p) n
low_place p n mem_count two second few words mems = record {
  word = λ r. (let most = p.low.word r in omega (arith, most, words));
  memory = λ q lt. by q (omega (arith, lt, two));
  words = words;
  mems = mems;
}
  where
    by : (q : ℕ) → q ≤ 1 → (place_of p).memory q < 2 ^ 32
    by zero le = let most = p.low.memory_low in omega (arith, most, mems, few)
    by (suc zero) le = second
    by (suc (suc q)) le = absurd (omega (arith, le))

-- an instruction names one variable more at most
pub after_few : (i : Instr) (q : ℕ) (v : VariableMap) → ((place_after i q v).words ≤ suc v.words) × ((place_after i q v).mems ≤ suc v.mems)
after_few i q v = go (is_store i) (eqb (destination i) 0)
  where
    go : (s d : Bool) → ((cond s (stored q v) (cond d v (record { words = suc v.words; mems = v.mems; reg = λ r. cond (eqb r (destination i)) v.words (v.reg r); memory = v.memory }))).words ≤ suc v.words)
        × ((cond s (stored q v) (cond d v (record { words = suc v.words; mems = v.mems; reg = λ r. cond (eqb r (destination i)) v.words (v.reg r); memory = v.memory }))).mems ≤ suc v.mems)
    go true d = (omega arith, omega arith)
    go false true = (omega arith, omega arith)
    go false false = (omega arith, omega arith)
