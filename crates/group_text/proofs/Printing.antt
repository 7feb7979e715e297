-- The tokens of bodies and ends, as they are printed.
use Rattle.std.proofs.Common.{◌≡◌, ℕ, suc, List, [], ◌∷◌, ◌++◌, length, map, codes, refl, sym, ap, ◌∙◌, append_assoc}
use Rattle.std.specs.Prelude.{Box, flat_map}
use Rattle.std.specs.declared.alloc.Global.{Global}
use Rattle.mc_text.specs.Tokens.{Tok}
use Rattle.word_terms.specs.Tree.{cond_tree}
use Rattle.word_terms.specs.declared.term.Cond.{Cond}
use Rattle.group_text.specs.TermSpelling.{cond_tokens}
use Rattle.tailrec_lang.specs.declared.group.Values.{Values}
use Rattle.tailrec_lang.specs.declared.group.Body.{Body}
use Rattle.tailrec_lang.specs.declared.group.End.{End}
use Rattle.tailrec_lang.specs.declared.group.End.TheVariants as end
use Rattle.tailrec_lang.specs.Tree.{BodyTree, StepTree, body_tree, step_tree, values_tree, with_steps}
use Rattle.tailrec_lang.specs.inner.Tree.{arm_trees, end_tree}
use Rattle.tailrec_lang.proofs.Views.{view_body, view_branch, view_call, view_again, view_leave}
use Rattle.group_text.specs.Spelling.{line, number, step_tokens, values_tokens, body_tokens, arm_tokens, arm_count}

-- an arm's line and body
abbrev pub arm_lines : Body → List Tok
arm_lines b = line (codes "arm") [] ++ body_tokens (body_tree b)

pub arms_printed : (bs : List Body) → arm_tokens (arm_trees bs) ≡ flat_map arm_lines bs
arms_printed [] = refl
arms_printed (b ∷ bs) = ap (λ (ts : List Tok). line (codes "arm") [] ++ (body_tokens (body_tree b) ++ ts)) (arms_printed bs)

arms-counted : (bs : List Body) → arm_count (arm_trees bs) ≡ length bs
arms-counted [] = refl
arms-counted (b ∷ bs) = ap suc (arms-counted bs)

steps-printed : (ss : List StepTree) (rest : BodyTree) → body_tokens (with_steps ss rest) ≡ flat_map step_tokens ss ++ body_tokens rest
steps-printed [] rest = refl
steps-printed (s ∷ ss) rest = ap (λ (ts : List Tok). step_tokens s ++ ts) (steps-printed ss rest) ∙ sym (append_assoc (step_tokens s) (flat_map step_tokens ss) (body_tokens rest))

pub body_printed : (b : Body) → body_tokens (body_tree b) ≡ flat_map step_tokens (map step_tree b.steps) ++ body_tokens (end_tree b.end)
body_printed b = ap body_tokens (view_body b) ∙ steps-printed (map step_tree b.steps) (end_tree b.end)

pub branch_printed : (x : End) (c : Cond) (a b : Box Body Global) → x ≡ end.Branch c a b
    → body_tokens (end_tree x) ≡ line (codes "if") (cond_tokens (cond_tree c) ∷ []) ++ (body_tokens (body_tree a.value) ++ (line (codes "else") [] ++ body_tokens (body_tree b.value)))
branch_printed x c a b is = ap (λ e. body_tokens (end_tree e)) is ∙ ap body_tokens (view_branch c a b)

pub call_printed : (x : End) (def : ℕ) (v : Values) (arms : List Body) → x ≡ end.Call def v arms
    → body_tokens (end_tree x) ≡ line (codes "call") (number def ∷ number (length arms) ∷ values_tokens (values_tree v) ∷ []) ++ arm_tokens (arm_trees arms)
call_printed x def v arms is =
    ap (λ e. body_tokens (end_tree e)) is ∙ ap body_tokens (view_call def v arms)
    ∙ ap (λ n. line (codes "call") (number def ∷ number n ∷ values_tokens (values_tree v) ∷ []) ++ arm_tokens (arm_trees arms)) (arms-counted arms)

pub again_printed : (x : End) (v : Values) → x ≡ end.Again v → body_tokens (end_tree x) ≡ line (codes "again") (values_tokens (values_tree v) ∷ [])
again_printed x v is = ap (λ e. body_tokens (end_tree e)) is ∙ ap body_tokens (view_again v)

pub leave_printed : (x : End) (exit : ℕ) (v : Values) → x ≡ end.Leave exit v → body_tokens (end_tree x) ≡ line (codes "leave") (number exit ∷ values_tokens (values_tree v) ∷ [])
leave_printed x exit v is = ap (λ e. body_tokens (end_tree e)) is ∙ ap body_tokens (view_leave exit v)
