-- What steps add to what is known.
use Rattle.std.proofs.Common.{◌≡◌, ℕ, List, [], ◌∷◌, ◌++◌, map, Bool, true, false, cond, eqb, refl, sym, ◌∙◌, append_assoc, append-nil}
use Rattle.word_terms.specs.Tree.{CondTree, Var, MemVar}
use Rattle.tailrec_lang.specs.Tree.{StepTree, BodyTree, DefTree, GroupTree, with_steps, Bind, BindMem, Need}
use Rattle.tailrec_lang.specs.WellFormed.{words_after, mems_after}
use Rattle.triple_kernel.specs.Tree.{FactTree, So, WordIs, MemIs}
use Rattle.loop_rule.specs.Leaves.{step_fact, body_leaves}
use Rattle.code_parts.specs.Bodies.{VariableMap, names, is_store, needs, writes}
use Rattle.rv_decode.specs.declared.instruction.Instr.{Instr}
use Rattle.triple_kernel.specs.declared.form.Form.TheVariants.{Next}
use Rattle.rv_decode.specs.Registers.{destination}
use Rattle.instr_axioms.specs.Terms.{conditions, result, memory_after}
use Rattle.code_parts.proofs.Counts.{all_words_after, all_mems_after}
use Rattle.path_walk.specs.inner.Acts.{new_facts}
use Rattle.code_parts.proofs.Counts.{need-mems, need-words}

-- what the steps add to what is known
abbrev pub facts_after : List StepTree → ℕ → ℕ → List FactTree → List FactTree
facts_after [] words mems facts = facts
facts_after (s ∷ ss) words mems facts = facts_after ss (words_after s words) (mems_after s mems) (facts ++ step_fact s words mems ∷ [])

pub leaves-steps : (g : GroupTree) (def : DefTree) (ss : List StepTree) (b : BodyTree) (words mems : ℕ) (facts : List FactTree) →
    body_leaves g def (with_steps ss b) words mems facts ≡ body_leaves g def b (all_words_after ss words) (all_mems_after ss mems) (facts_after ss words mems facts)
leaves-steps g def [] b words mems facts = refl
leaves-steps g def (s ∷ ss) b words mems facts = leaves-steps g def ss b (words_after s words) (mems_after s mems) (facts ++ step_fact s words mems ∷ [])

facts-append : (ss ts : List StepTree) (words mems : ℕ) (path : List FactTree) → facts_after (ss ++ ts) words mems path ≡ facts_after ts (all_words_after ss words) (all_mems_after ss mems) (facts_after ss words mems path)
facts-append [] ts words mems path = refl
facts-append (s ∷ ss) ts words mems path = facts-append ss ts (words_after s words) (mems_after s mems) (path ++ step_fact s words mems ∷ [])

pub need-facts : (cs : List CondTree) (words mems : ℕ) (path : List FactTree) → facts_after (map Need cs) words mems path ≡ path ++ map So cs
need-facts [] words mems path = sym (append-nil path)
need-facts (c ∷ cs) words mems path = need-facts cs words mems (path ++ So c ∷ []) ∙ append_assoc path (So c ∷ []) (map So cs)

write-facts : (i : Instr) (a k q : ℕ) (v : VariableMap) (path : List FactTree) → facts_after (writes i a k q v) v.words v.mems path ≡ path ++ new_facts i a k q v
write-facts i a k q v path = go (is_store i) (eqb (destination i) 0)
  where
    go : (s d : Bool) → facts_after (cond s (BindMem (memory_after i (names v q)) ∷ []) (cond d [] (Bind (result i a k (names v q)) ∷ []))) v.words v.mems path
        ≡ path ++ cond s (MemIs (MemVar v.mems) (memory_after i (names v q)) ∷ []) (cond d [] (WordIs (Var v.words) (result i a k (names v q)) ∷ []))
    go true d = refl
    go false true = sym (append-nil path)
    go false false = refl

-- .. of the steps of an instruction
pub all-facts : (i : Instr) (a k q : ℕ) (v : VariableMap) (path : List FactTree) → facts_after (needs i q v ++ writes i a k q v) v.words v.mems path ≡ (path ++ map So (conditions i Next (names v q))) ++ new_facts i a k q v
all-facts i a k q v path =
    let cs : List CondTree = conditions i Next (names v q) in
    facts-append (map Need cs) (writes i a k q v) v.words v.mems path
    ∙ (λ j. facts_after (writes i a k q v) (need-words cs v.words j) (need-mems cs v.mems j) (need-facts cs v.words v.mems path j))
    ∙ write-facts i a k q v (path ++ map So cs)
