-- Bodies, ends and arms of the code, simplified.
use Rattle.std.proofs.Common.{◌≡◌, ℕ, ◌+◌, List, [], length, map, sym, ap, subst, ◌∙◌}
use Rattle.std.specs.Prelude.{Box}
use Rattle.std.specs.declared.alloc.Global.{Global}
use Rattle.std.proofs.lemmas.List.{length-map}
use Rattle.word_terms.specs.Tree.{CondTree, cond_tree, word_tree, mem_tree}
use Rattle.word_terms.specs.declared.term.Word.{Word}
use Rattle.word_terms.specs.declared.term.Mem.{Mem}
use Rattle.word_terms.specs.declared.term.Cond.{Cond}
use Rattle.tailrec_lang.specs.declared.group.Step.{Step}
use Rattle.tailrec_lang.specs.declared.group.Body.{Body}
use Rattle.tailrec_lang.specs.declared.group.Values.{Values}
use Rattle.tailrec_lang.specs.declared.group.End.{End}
use Rattle.tailrec_lang.specs.declared.group.End.TheVariants as end
use Rattle.tailrec_lang.specs.Tree.{ValuesTree, BodyTree, Branch, Call, Again, Leave, ArmTrees, body_tree, step_tree, values_tree, with_steps}
use Rattle.tailrec_lang.specs.inner.Tree.{arm_trees, end_tree}
use Rattle.tailrec_lang.proofs.Views.{view_body, view_branch, view_call, view_again, view_leave}
use Rattle.fun_laws.specs.declared.log.Log.{Log}
use Rattle.fun_laws.specs.Laws.{OfCond}
use Rattle.fun_laws.specs.Simple.{IsSimple}
use Rattle.fun_laws.specs.inner.Steps.{IsNoted}
use Rattle.fun_laws.specs.Rewriting.{count, arm_term_count}
use Rattle.fun_laws.specs.inner.Simplified.{ArePassed, AreSimpleArms, AreSimpleSteps, AreSimpleValues, IsNext, IsSimpleBody, arm_parts, body_parts, mem_parts, step_parts, value_parts, word_parts}
use Rattle.fun_laws.proofs.PartSteps.{again_passed, body_passed, branch_passed, call_passed, leave_passed, values_passed}
use Rattle.fun_laws.proofs.SimpleBodies.{steps_simple}

-- where a tree is told by another equation
at : (x y : BodyTree) (z : BodyTree) (l m : Log) → x ≡ y → ArePassed body_parts (count y) l m y z → ArePassed body_parts (count x) l m x z
at x y z l m e a = subst (λ v. ArePassed body_parts (count v) l m v z) (sym e) a

to : (x y z : BodyTree) (n : ℕ) (l m : Log) → z ≡ y → ArePassed body_parts n l m x y → ArePassed body_parts n l m x z
to x y z n l m e a = subst (λ v. ArePassed body_parts n l m x v) (sym e) a

pub values_simplified : (v w : Values) (ts : List Word) (ms : List Mem) (l m n : Log) → ts ≡ v.words → ms ≡ v.mems
    → ArePassed word_parts (length ts) l m (map word_tree ts) (map word_tree w.words) → ArePassed mem_parts (length ms) m n (map mem_tree ms) (map mem_tree w.mems)
    → ArePassed value_parts (length v.words + length v.mems) l n (values_tree v) (values_tree w)
values_simplified v w ts ms l m n e f a b =
    subst (λ i. ArePassed value_parts (i + length v.mems) l n (values_tree v) (values_tree w)) (length-map v.words word_tree)
    (subst (λ i. ArePassed value_parts (length (map word_tree v.words) + i) l n (values_tree v) (values_tree w)) (length-map v.mems mem_tree)
    (values_passed (values_tree v) (values_tree w) l m n
    (subst (λ i. ArePassed word_parts i l m (map word_tree v.words) (map word_tree w.words)) (sym (length-map v.words word_tree)) (subst (λ xs. ArePassed word_parts (length xs) l m (map word_tree xs) (map word_tree w.words)) e a))
    (subst (λ i. ArePassed mem_parts i m n (map mem_tree v.mems) (map mem_tree w.mems)) (sym (length-map v.mems mem_tree)) (subst (λ xs. ArePassed mem_parts (length xs) m n (map mem_tree xs) (map mem_tree w.mems)) f b))))

-- the values' terms are as many in the tree
in-tree : (v : Values) (w : ValuesTree) (l m : Log) → ArePassed value_parts (length v.words + length v.mems) l m (values_tree v) w
    → ArePassed value_parts (length (map word_tree v.words) + length (map mem_tree v.mems)) l m (values_tree v) w
in-tree v w l m a =
    subst (λ i. ArePassed value_parts (i + length (map mem_tree v.mems)) l m (values_tree v) w) (sym (length-map v.words word_tree))
    (subst (λ i. ArePassed value_parts (length v.words + i) l m (values_tree v) w) (sym (length-map v.mems mem_tree)) a)

pub body_simplified : (b c : Body) (ss : List Step) (l m n : Log) → ss ≡ b.steps → ArePassed step_parts (length ss) l m (map step_tree ss) (map step_tree c.steps)
    → ArePassed body_parts (count (end_tree b.end)) m n (end_tree b.end) (end_tree c.end) → ArePassed body_parts (count (body_tree b)) l n (body_tree b) (body_tree c)
body_simplified b c ss l m n e a h =
    at (body_tree b) (with_steps (map step_tree b.steps) (end_tree b.end)) (body_tree c) l n (view_body b)
    (to (with_steps (map step_tree b.steps) (end_tree b.end)) (with_steps (map step_tree c.steps) (end_tree c.end)) (body_tree c) (count (with_steps (map step_tree b.steps) (end_tree b.end))) l n (view_body c)
    (body_passed (map step_tree b.steps) (map step_tree c.steps) (end_tree b.end) (end_tree c.end) l m n
    (subst (λ i. ArePassed step_parts i l m (map step_tree b.steps) (map step_tree c.steps)) (sym (length-map b.steps step_tree))
    (subst (λ xs. ArePassed step_parts (length xs) l m (map step_tree xs) (map step_tree c.steps)) e a)) h))

pub body_simple : (c : Body) → AreSimpleSteps (map step_tree c.steps) → IsSimpleBody (end_tree c.end) → IsSimpleBody (body_tree c)
body_simple c h f = subst IsSimpleBody (sym (view_body c)) (steps_simple (map step_tree c.steps) (end_tree c.end) h f)

pub branch_simplified : (x : End) (c : Cond) (a b : Box Body Global) (d : CondTree) (u v e : BodyTree) (l m n o p : Log) → x ≡ end.Branch c a b
    → IsNoted OfCond [] l m (cond_tree c) d → IsNext m n → ArePassed body_parts (count (body_tree a.value)) n o (body_tree a.value) u → ArePassed body_parts (count (body_tree b.value)) o p (body_tree b.value) v
    → e ≡ Branch d u v → ArePassed body_parts (count (end_tree x)) l p (end_tree x) e
branch_simplified x c a b d u v e l m n o p is h next f g made =
    at (end_tree x) (Branch (cond_tree c) (body_tree a.value) (body_tree b.value)) e l p (ap end_tree is ∙ view_branch c a b)
    (to (Branch (cond_tree c) (body_tree a.value) (body_tree b.value)) (Branch d u v) e (count (Branch (cond_tree c) (body_tree a.value) (body_tree b.value))) l p made
    (branch_passed (cond_tree c) d (body_tree a.value) u (body_tree b.value) v l m n o p h next f g))

pub call_simplified : (x : End) (def : ℕ) (v : Values) (arms given : List Body) (w : ValuesTree) (bs : ArmTrees) (e : BodyTree) (l m n : Log) → x ≡ end.Call def v arms → given ≡ arms
    → ArePassed value_parts (length v.words + length v.mems) l m (values_tree v) w → ArePassed arm_parts (arm_term_count (arm_trees given)) m n (arm_trees given) bs
    → e ≡ Call def w bs → ArePassed body_parts (count (end_tree x)) l n (end_tree x) e
call_simplified x def v arms given w bs e l m n is same a h made =
    at (end_tree x) (Call def (values_tree v) (arm_trees arms)) e l n (ap end_tree is ∙ view_call def v arms)
    (to (Call def (values_tree v) (arm_trees arms)) (Call def w bs) e (count (Call def (values_tree v) (arm_trees arms))) l n made
    (call_passed def (values_tree v) w (arm_trees arms) bs l m n (in-tree v w l m a) (subst (λ xs. ArePassed arm_parts (arm_term_count (arm_trees xs)) m n (arm_trees xs) bs) same h)))

pub again_simplified : (x e : End) (v w : Values) (l m : Log) → x ≡ end.Again v → e ≡ end.Again w → ArePassed value_parts (length v.words + length v.mems) l m (values_tree v) (values_tree w)
    → ArePassed body_parts (count (end_tree x)) l m (end_tree x) (end_tree e)
again_simplified x e v w l m is made a =
    at (end_tree x) (Again (values_tree v)) (end_tree e) l m (ap end_tree is ∙ view_again v)
    (to (Again (values_tree v)) (Again (values_tree w)) (end_tree e) (count (Again (values_tree v))) l m (ap end_tree made ∙ view_again w)
    (again_passed (values_tree v) (values_tree w) l m (in-tree v (values_tree w) l m a)))

pub leave_simplified : (x e : End) (exit : ℕ) (v w : Values) (l m : Log) → x ≡ end.Leave exit v → e ≡ end.Leave exit w → ArePassed value_parts (length v.words + length v.mems) l m (values_tree v) (values_tree w)
    → ArePassed body_parts (count (end_tree x)) l m (end_tree x) (end_tree e)
leave_simplified x e exit v w l m is made a =
    at (end_tree x) (Leave exit (values_tree v)) (end_tree e) l m (ap end_tree is ∙ view_leave exit v)
    (to (Leave exit (values_tree v)) (Leave exit (values_tree w)) (end_tree e) (count (Leave exit (values_tree v))) l m (ap end_tree made ∙ view_leave exit w)
    (leave_passed exit (values_tree v) (values_tree w) l m (in-tree v (values_tree w) l m a)))

pub branch_simple : (e : BodyTree) (d : CondTree) (u v : BodyTree) → e ≡ Branch d u v → IsSimple (OfCond d) → IsSimpleBody u → IsSimpleBody v → IsSimpleBody e
branch_simple e d u v made f g h = subst IsSimpleBody (sym made) (f, g, h)

pub call_simple : (e : BodyTree) (def : ℕ) (w : ValuesTree) (bs : ArmTrees) → e ≡ Call def w bs → AreSimpleValues w → AreSimpleArms bs → IsSimpleBody e
call_simple e def w bs made f g = subst IsSimpleBody (sym made) (f, g)

pub again_simple : (e : End) (w : Values) → e ≡ end.Again w → AreSimpleValues (values_tree w) → IsSimpleBody (end_tree e)
again_simple e w made f = subst IsSimpleBody (sym (ap end_tree made ∙ view_again w)) f

pub leave_simple : (e : End) (exit : ℕ) (w : Values) → e ≡ end.Leave exit w → AreSimpleValues (values_tree w) → IsSimpleBody (end_tree e)
leave_simple e exit w made f = subst IsSimpleBody (sym (ap end_tree made ∙ view_leave exit w)) f
