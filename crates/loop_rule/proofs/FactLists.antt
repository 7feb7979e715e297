-- The leaves of bodies and arms to which a list of facts leads.
use Rattle.std.proofs.Common.{◌≡◌, ℕ, ◌+◌, ◌<◌, List, [], ◌∷◌, ◌++◌, length, map, get_or, refl, sym, ap, ◌∙◌}
use Rattle.std.proofs.lemmas.List.{map-append}
use Rattle.tailrec_lang.specs.declared.group.Exit.{Exit}
use Rattle.tailrec_lang.specs.declared.group.Step.{Step}
use Rattle.tailrec_lang.specs.declared.group.Body.{Body}
use Rattle.tailrec_lang.specs.Tree.{BodyTree, ValuesTree, DefTree, GroupTree, body_tree, step_tree, with_steps}
use Rattle.tailrec_lang.specs.WellFormed.{exit_words, words_after, mems_after}
use Rattle.tailrec_lang.proofs.Steps.{steps_from}
use Rattle.triple_kernel.specs.declared.triple.Fact.{Fact}
use Rattle.triple_kernel.specs.Tree.{FactTree, Gives, fact_tree}
use Rattle.loop_rule.specs.Leaves.{variables_after, step_fact, body_leaves}
use Rattle.loop_rule.proofs.LeafLemmas.{leaves-step, arms_from, arms-with}

pub fact_pushed : (old new : List Fact) (fact : Fact) (tree : FactTree) → new ≡ old ++ fact ∷ [] → fact_tree fact ≡ tree → map fact_tree new ≡ map fact_tree old ++ tree ∷ []
fact_pushed old new fact tree pushed is = ap (map fact_tree) pushed ∙ map-append fact_tree old (fact ∷ []) ∙ (λ j. map fact_tree old ++ is j ∷ [])

-- the leaves of a body from its step i on are those from the next step on, where its fact was pushed
pub step-pushed : (g : GroupTree) (def : DefTree) (steps : List Step) (i : ℕ) (s : Step) (rest : BodyTree) (w m v k : ℕ) (old new : List Fact) (fact : Fact) → i < length steps → s ≡ get_or steps i s
    → v ≡ words_after (step_tree s) w → k ≡ mems_after (step_tree s) m → fact_tree fact ≡ step_fact (step_tree s) w m → new ≡ old ++ fact ∷ []
    → body_leaves g def (with_steps (steps_from steps i) rest) w m (map fact_tree old) ≡ body_leaves g def (with_steps (steps_from steps (i + 1)) rest) v k (map fact_tree new)
step-pushed g def steps i s rest w m v k old new fact lt is words mems told pushed =
    leaves-step g def steps i s rest w m v k (map fact_tree old) (map fact_tree new) (fact_tree fact) lt is words mems told (fact_pushed old new fact (fact_tree fact) pushed refl)

-- the leaves of the arms from arm i on are those of arm i, where the fact of its exit was pushed, and those from the next arm on
pub arms-pushed : (g : GroupTree) (def : DefTree) (callee : ℕ) (v : ValuesTree) (w m : ℕ) (path new : List Fact) (xs : List Exit) (bs : List Body) (i : ℕ) (x : Exit) (b : Body) (fact : Fact) (p q : ℕ)
    → i < length xs → i < length bs → b ≡ get_or bs i b → p ≡ w + exit_words g (get_or xs i x) → q ≡ m + g.mems
    → fact_tree fact ≡ Gives callee i v (variables_after w m (exit_words g (get_or xs i x)) g.mems) → new ≡ path ++ fact ∷ []
    → arms_from g def callee v w m (map fact_tree path) xs bs i ≡ body_leaves g def (body_tree b) p q (map fact_tree new) ++ arms_from g def callee v w m (map fact_tree path) xs bs (i + 1)
arms-pushed g def callee v w m path new xs bs i x b fact p q lx lb at words mems is pushed =
    arms-with g def callee v w m (map fact_tree path) (map fact_tree path) xs bs i x b (fact_tree fact) p q lx lb at words mems is refl
    ∙ (λ j. body_leaves g def (body_tree b) p q (sym (fact_pushed path new fact (fact_tree fact) pushed refl) j) ++ arms_from g def callee v w m (map fact_tree path) xs bs (i + 1))
