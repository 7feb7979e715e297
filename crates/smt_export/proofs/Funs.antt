-- The functions of one definition after the other.
use Rattle.std.proofs.Common.{◌≡◌, ℕ, zero, suc, ◌+◌, ◌-◌, ◌≤◌, Bool, false, cond, List, [], ◌∷◌, ◌++◌, Option, Some, None, length, get_or, slice_get, take, refl, sym, ◌∙◌, arith, append_assoc}
use Rattle.std.proofs.lemmas.List.{append-nil, get_or_read_under}
use Rattle.std.specs.Prelude.{◌&&◌}
use Rattle.std.proofs.lemmas.Bool.{le-leb}
use Rattle.tailrec_lang.specs.Tree.{DefTree, GroupTree}
use Rattle.smt_terms.specs.Meaning.{FunTree}
use Rattle.smt_export.specs.Scripts.{def_funs, funs_from}
use Rattle.smt_export.specs.inner.Reach.{is_marked}

module _ (g : GroupTree) (R : ℕ → Bool) where
  -- those of a further definition
  funs-more : (defs : List DefTree) (d i : ℕ) (def : DefTree) → slice_get defs i ≡ Some def
      → funs_from g R d (take (suc i) defs) ≡ funs_from g R d (take i defs) ++ (cond (R (d + i)) (def_funs g (d + i) def) [])
  funs-more [] d i def is = absurd (cc)
  funs-more (x ∷ defs) d zero def is =
      let same : x ≡ def = cc in
      let e : d ≡ d + 0 = omega arith in
      append-nil (cond (R d) (def_funs g d x) []) ∙ (λ j. cond (R (e j)) (def_funs g (e j) (same j)) [])
  funs-more (x ∷ defs) d (suc i) def is =
      let e : suc d + i ≡ d + suc i = omega arith in
      (λ j. cond (R d) (def_funs g d x) [] ++ funs-more defs (suc d) i def is j)
      ∙ sym (append_assoc (cond (R d) (def_funs g d x) []) (funs_from g R (suc d) (take i defs)) (cond (R (suc d + i)) (def_funs g (suc d + i) def) []))
      ∙ (λ j. (cond (R d) (def_funs g d x) [] ++ funs_from g R (suc d) (take i defs)) ++ cond (R (e j)) (def_funs g (e j) def) [])

  -- and no more where there is none
  funs-over : (defs : List DefTree) (d i : ℕ) → slice_get defs i ≡ None → funs_from g R d (take (suc i) defs) ≡ funs_from g R d (take i defs)
  funs-over [] d zero is = refl
  funs-over [] d (suc i) is = refl
  funs-over (x ∷ defs) d zero is = absurd (cc)
  funs-over (x ∷ defs) d (suc i) is = λ j. cond (R d) (def_funs g d x) [] ++ funs-over defs (suc d) i is j

pub mark_read : (def : ℕ) (marks : List Bool) (d : ℕ) (mark : Bool) → d ≤ def → length marks ≡ def + 1 → mark ≡ get_or marks (def - d) mark → mark ≡ is_marked def marks d
mark_read def marks d mark le count is =
    get_or_read_under marks (def - d) (length marks) mark false is (omega (arith, le, count)) refl ∙ sym (λ j. le-leb d def le j && get_or marks (def - d) false)

pub funs_next : (g : GroupTree) (def : ℕ) (marks : List Bool) (d : ℕ) (mark : Bool) (before more : List FunTree) → mark ≡ is_marked def marks d
    → ((x : DefTree) → slice_get g.defs d ≡ Some x → more ≡ cond mark (def_funs g d x) []) → (slice_get g.defs d ≡ None → more ≡ [])
    → before ≡ funs_from g (is_marked def marks) 0 (take d g.defs) → before ++ more ≡ funs_from g (is_marked def marks) 0 (take (d + 1) g.defs)
funs_next g def marks d mark before more here some none told = by (slice_get g.defs d) refl
  where
    by : (o : Option DefTree) → slice_get g.defs d ≡ o → before ++ more ≡ funs_from g (is_marked def marks) 0 (take (d + 1) g.defs)
    by None e =
        let n : suc d ≡ d + 1 = omega arith in
        (λ j. told j ++ none e j) ∙ append-nil (funs_from g (is_marked def marks) 0 (take d g.defs)) ∙ sym (funs-over g (is_marked def marks) g.defs 0 d e) ∙ (λ j. funs_from g (is_marked def marks) 0 (take (n j) g.defs))
    by (Some x) e =
        let n : suc d ≡ d + 1 = omega arith in
        let z : 0 + d ≡ d = omega arith in
        (λ j. told j ++ some x e j)
        ∙ (λ j. funs_from g (is_marked def marks) 0 (take d g.defs) ++ cond (here j) (def_funs g d x) [])
        ∙ (λ j. funs_from g (is_marked def marks) 0 (take d g.defs) ++ cond (is_marked def marks (sym z j)) (def_funs g (sym z j) x) [])
        ∙ sym (funs-more g (is_marked def marks) g.defs 0 d x e)
        ∙ (λ j. funs_from g (is_marked def marks) 0 (take (n j) g.defs))
