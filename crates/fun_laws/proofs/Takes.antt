-- Bodies of the code, taken apart.
use Rattle.std.proofs.Common.{◌≡◌, ℕ, ◌+◌, ◌<◌, List, [], ◌∷◌, ◌++◌, length, get_or, map, take, refl, sym, ap, ◌∙◌, append_assoc, arith}
use Rattle.std.specs.Prelude.{Box}
use Rattle.std.specs.declared.alloc.Global.{Global}
use Rattle.std.proofs.lemmas.List.{append-nil, map-append, take_all, take_more}
use Rattle.word_terms.specs.declared.term.Word.{Word}
use Rattle.word_terms.specs.declared.term.Mem.{Mem}
use Rattle.word_terms.specs.declared.term.Cond.{Cond}
use Rattle.word_terms.specs.Tree.{CondTree, cond_tree, mem_tree, word_tree}
use Rattle.tailrec_lang.specs.declared.group.Step.{Step}
use Rattle.tailrec_lang.specs.declared.group.Body.{Body}
use Rattle.tailrec_lang.specs.declared.group.Values.{Values}
use Rattle.tailrec_lang.specs.declared.group.End.{End}
use Rattle.tailrec_lang.specs.declared.group.End.TheVariants as end
use Rattle.tailrec_lang.specs.Tree.{ValuesTree, StepTree, BodyTree, Do, Branch, Call, Again, Leave, ArmTrees, Arm, arms_of, body_tree, step_tree, values_tree, with_steps}
use Rattle.tailrec_lang.specs.inner.Tree.{arm_trees, end_tree}
use Rattle.tailrec_lang.proofs.Views.{view_body, view_branch, view_call, view_again, view_leave}
use Rattle.fun_laws.specs.Laws.{Term, OfWord, OfMem, OfCond}
use Rattle.fun_laws.specs.Rewriting.{step_term}
use Rattle.fun_laws.specs.inner.Apart.{arm_skeletons, arm_terms, blank_cond, blank_step, blank_values, skeleton, terms, value_terms}

-- ---- one item more

images-more : {A B C : Type 0} (g : A → B) (h : B → C) (xs : List A) (i : ℕ) (x : A) → i < length xs → x ≡ get_or xs i x → map h (map g (take (i + 1) xs)) ≡ map h (map g (take i xs)) ++ h (g x) ∷ []
images-more g h xs i x lt is =
    ap (λ zs. map h (map g zs)) (take_more xs i x lt)
    ∙ ap (map h) (map-append g (take i xs) (get_or xs i x ∷ []))
    ∙ map-append h (map g (take i xs)) (g (get_or xs i x) ∷ [])
    ∙ (λ j. map h (map g (take i xs)) ++ h (g (sym is j)) ∷ [])

pub blank_pushed : {A B C D : Type 0} (f : D → C) (g : A → B) (h : B → C) (made : List D) (xs : List A) (i : ℕ) (x : A) (y : D) → i < length xs → x ≡ get_or xs i x
    → f y ≡ h (g x) → map f made ≡ map h (map g (take i xs)) → map f (made ++ y ∷ []) ≡ map h (map g (take (i + 1) xs))
blank_pushed f g h made xs i x y lt is same before = map-append f made (y ∷ []) ∙ (λ j. before j ++ same j ∷ []) ∙ sym (images-more g h xs i x lt is)

-- one term more behind those that were found before
pub term_more : {A B C : Type 0} (g : A → B) (h : B → C) (old now new : List C) (xs : List A) (i : ℕ) (x : A) → i < length xs → x ≡ get_or xs i x
    → new ≡ now ++ h (g x) ∷ [] → now ≡ old ++ map h (map g (take i xs)) → new ≡ old ++ map h (map g (take (i + 1) xs))
term_more g h old now new xs i x lt is pushed before =
    pushed ∙ ap (λ zs. zs ++ h (g x) ∷ []) before ∙ append_assoc old (map h (map g (take i xs))) (h (g x) ∷ []) ∙ ap (λ zs. old ++ zs) (sym (images-more g h xs i x lt is))

pub term_pushed : {A B C D : Type 0} (f : D → C) (g : A → B) (h : B → C) (old now : List D) (xs : List A) (i : ℕ) (x : A) (y : D) → i < length xs → x ≡ get_or xs i x
    → f y ≡ h (g x) → map f now ≡ map f old ++ map h (map g (take i xs)) → map f (now ++ y ∷ []) ≡ map f old ++ map h (map g (take (i + 1) xs))
term_pushed f g h old now xs i x y lt is same before =
    term_more g h (map f old) (map f now) (map f (now ++ y ∷ [])) xs i x lt is (map-append f now (y ∷ []) ∙ ap (λ z. map f now ++ z ∷ []) same) before

pub one_pushed : {C D : Type 0} (f : D → C) (old : List D) (y : D) (z : C) → f y ≡ z → map f (old ++ y ∷ []) ≡ map f old ++ z ∷ []
one_pushed f old y z same = map-append f old (y ∷ []) ∙ ap (λ v. map f old ++ v ∷ []) same

-- what was found first, and what was found then
both-found : (old mid new xs ys : List Term) → mid ≡ old ++ xs → new ≡ mid ++ ys → new ≡ old ++ (xs ++ ys)
both-found old mid new xs ys e f = f ∙ ap (λ zs. zs ++ ys) e ∙ append_assoc old xs ys

-- ---- values

pub values_found : (v : Values) (ts : List Word) (ms : List Mem) (old mid new : List Term) → ts ≡ v.words → ms ≡ v.mems
    → mid ≡ old ++ map OfWord (map word_tree ts) → new ≡ mid ++ map OfMem (map mem_tree ms) → new ≡ old ++ value_terms (values_tree v)
values_found v ts ms old mid new e f a b =
    both-found old mid new (map OfWord (map word_tree ts)) (map OfMem (map mem_tree ms)) a b
    ∙ (λ j. old ++ (map OfWord (map word_tree (e j)) ++ map OfMem (map mem_tree (f j))))

-- ---- bodies

skeleton-behind : (ss : List StepTree) (b : BodyTree) → skeleton (with_steps ss b) ≡ with_steps (map blank_step ss) (skeleton b)
skeleton-behind [] b = refl
skeleton-behind (s ∷ ss) b = ap (Do (blank_step s)) (skeleton-behind ss b)

terms-behind : (ss : List StepTree) (b : BodyTree) → terms (with_steps ss b) ≡ map step_term ss ++ terms b
terms-behind [] b = refl
terms-behind (s ∷ ss) b = ap (λ zs. step_term s ∷ zs) (terms-behind ss b)

pub body_skeleton : (b c : Body) (ss : List Step) → ss ≡ b.steps → map step_tree c.steps ≡ map blank_step (map step_tree ss) → end_tree c.end ≡ skeleton (end_tree b.end)
    → body_tree c ≡ skeleton (body_tree b)
body_skeleton b c ss e f g =
    view_body c ∙ (λ j. with_steps ((f ∙ ap (λ zs. map blank_step (map step_tree zs)) e) j) (g j))
    ∙ sym (skeleton-behind (map step_tree b.steps) (end_tree b.end)) ∙ ap skeleton (sym (view_body b))

pub body_found : (b : Body) (ss : List Step) (old mid new : List Term) → ss ≡ b.steps → mid ≡ old ++ map step_term (map step_tree ss) → new ≡ mid ++ terms (end_tree b.end)
    → new ≡ old ++ terms (body_tree b)
body_found b ss old mid new e f g =
    both-found old mid new (map step_term (map step_tree ss)) (terms (end_tree b.end)) f g
    ∙ ap (λ zs. old ++ (map step_term (map step_tree zs) ++ terms (end_tree b.end))) e
    ∙ ap (λ zs. old ++ zs) (sym (terms-behind (map step_tree b.steps) (end_tree b.end)) ∙ ap terms (sym (view_body b)))

-- ---- ends

pub branch_skeleton : (x : End) (c : Cond) (a b : Box Body Global) (d : CondTree) (u v e : BodyTree) → x ≡ end.Branch c a b → d ≡ blank_cond → u ≡ skeleton (body_tree a.value) → v ≡ skeleton (body_tree b.value)
    → e ≡ Branch d u v → e ≡ skeleton (end_tree x)
branch_skeleton x c a b d u v e is f g h made = made ∙ (λ j. Branch (f j) (g j) (h j)) ∙ ap skeleton (sym (ap end_tree is ∙ view_branch c a b))

pub branch_found : (x : End) (c : Cond) (a b : Box Body Global) (old m n new : List Term) → x ≡ end.Branch c a b → m ≡ old ++ OfCond (cond_tree c) ∷ [] → n ≡ m ++ terms (body_tree a.value)
    → new ≡ n ++ terms (body_tree b.value) → new ≡ old ++ terms (end_tree x)
branch_found x c a b old m n new is f g h =
    both-found old m new (OfCond (cond_tree c) ∷ []) (terms (body_tree a.value) ++ terms (body_tree b.value)) f
    (both-found m n new (terms (body_tree a.value)) (terms (body_tree b.value)) g h)
    ∙ ap (λ z. old ++ terms z) (sym (ap end_tree is ∙ view_branch c a b))

pub call_skeleton : (x : End) (d : ℕ) (v : Values) (arms given : List Body) (w : ValuesTree) (bs : ArmTrees) (e : BodyTree) → x ≡ end.Call d v arms → given ≡ arms
    → w ≡ blank_values (values_tree v) → bs ≡ arm_skeletons (arm_trees given) → e ≡ Call d w bs → e ≡ skeleton (end_tree x)
call_skeleton x d v arms given w bs e is same f g made =
    made ∙ (λ j. Call d (f j) (g j)) ∙ ap (λ zs. Call d (blank_values (values_tree v)) (arm_skeletons (arm_trees zs))) same ∙ ap skeleton (sym (ap end_tree is ∙ view_call d v arms))

pub call_found : (x : End) (d : ℕ) (v : Values) (arms given : List Body) (old mid new : List Term) → x ≡ end.Call d v arms → given ≡ arms
    → mid ≡ old ++ value_terms (values_tree v) → new ≡ mid ++ arm_terms (arm_trees given) → new ≡ old ++ terms (end_tree x)
call_found x d v arms given old mid new is same f g =
    both-found old mid new (value_terms (values_tree v)) (arm_terms (arm_trees given)) f g
    ∙ ap (λ zs. old ++ (value_terms (values_tree v) ++ arm_terms (arm_trees zs))) same
    ∙ ap (λ z. old ++ terms z) (sym (ap end_tree is ∙ view_call d v arms))

pub again_skeleton : (x e : End) (v w : Values) → x ≡ end.Again v → e ≡ end.Again w → values_tree w ≡ blank_values (values_tree v) → end_tree e ≡ skeleton (end_tree x)
again_skeleton x e v w is made f = ap end_tree made ∙ view_again w ∙ ap Again f ∙ ap skeleton (sym (ap end_tree is ∙ view_again v))

pub again_found : (x : End) (v : Values) (old new : List Term) → x ≡ end.Again v → new ≡ old ++ value_terms (values_tree v) → new ≡ old ++ terms (end_tree x)
again_found x v old new is f = f ∙ ap (λ z. old ++ terms z) (sym (ap end_tree is ∙ view_again v))

pub leave_skeleton : (x e : End) (exit : ℕ) (v w : Values) → x ≡ end.Leave exit v → e ≡ end.Leave exit w → values_tree w ≡ blank_values (values_tree v) → end_tree e ≡ skeleton (end_tree x)
leave_skeleton x e exit v w is made f = ap end_tree made ∙ view_leave exit w ∙ ap (Leave exit) f ∙ ap skeleton (sym (ap end_tree is ∙ view_leave exit v))

pub leave_found : (x : End) (exit : ℕ) (v : Values) (old new : List Term) → x ≡ end.Leave exit v → new ≡ old ++ value_terms (values_tree v) → new ≡ old ++ terms (end_tree x)
leave_found x exit v old new is f = f ∙ ap (λ z. old ++ terms z) (sym (ap end_tree is ∙ view_leave exit v))

-- ---- arms

arms-blank : (bs : List BodyTree) → arm_skeletons (arms_of bs) ≡ arms_of (map skeleton bs)
arms-blank [] = refl
arms-blank (b ∷ bs) = ap (Arm (skeleton b)) (arms-blank bs)

arm-terms-more : (bs : List BodyTree) (b : BodyTree) → arm_terms (arms_of (bs ++ b ∷ [])) ≡ arm_terms (arms_of bs) ++ terms b
arm-terms-more [] b = append-nil (terms b)
arm-terms-more (c ∷ bs) b = ap (λ zs. terms c ++ zs) (arm-terms-more bs b) ∙ sym (append_assoc (terms c) (arm_terms (arms_of bs)) (terms b))

pub arms_skeleton : (made arms : List Body) (i : ℕ) → i ≡ length arms → map body_tree made ≡ map skeleton (map body_tree (take i arms)) → arm_trees made ≡ arm_skeletons (arm_trees arms)
arms_skeleton made arms i e f =
    ap arms_of (f ∙ ap (λ zs. map skeleton (map body_tree zs)) (take_all i arms (omega (arith, e)))) ∙ sym (arms-blank (map body_tree arms))

pub arm_more : (old now new : List Term) (arms : List Body) (i : ℕ) (x : Body) → i < length arms → x ≡ get_or arms i x
    → new ≡ now ++ terms (body_tree x) → now ≡ old ++ arm_terms (arms_of (map body_tree (take i arms))) → new ≡ old ++ arm_terms (arms_of (map body_tree (take (i + 1) arms)))
arm_more old now new arms i x lt is f e =
    both-found old now new (arm_terms (arms_of (map body_tree (take i arms)))) (terms (body_tree x)) e f
    ∙ ap (λ zs. old ++ zs)
    (sym (arm-terms-more (map body_tree (take i arms)) (body_tree x))
    ∙ ap (λ zs. arm_terms (arms_of zs))
    ((λ j. map body_tree (take i arms) ++ body_tree (is j) ∷ [])
    ∙ sym (map-append body_tree (take i arms) (get_or arms i x ∷ []))
    ∙ ap (map body_tree) (sym (take_more arms i x lt))))

pub arms_found : (old new : List Term) (arms : List Body) (i : ℕ) → i ≡ length arms → new ≡ old ++ arm_terms (arms_of (map body_tree (take i arms))) → new ≡ old ++ arm_terms (arm_trees arms)
arms_found old new arms i e f = f ∙ ap (λ zs. old ++ arm_terms (arms_of (map body_tree zs))) (take_all i arms (omega (arith, e)))
