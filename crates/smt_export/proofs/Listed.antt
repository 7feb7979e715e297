-- The functions of a definition that passes the test are among those of the script.
use Rattle.std.proofs.Common.{◌≡◌, ℕ, zero, suc, ◌+◌, ◌<◌, ◌≤◌, Bool, true, cond, List, [], ◌∷◌, Some, map, length, slice_get, take, refl, sym, ap, subst, ◌∙◌, arith, ⊎_elim}
use Rattle.std.specs.List.{Contains}
use Rattle.std.proofs.lemmas.List.Elements.{Contains-append_left, Contains-append_right}
use Rattle.tailrec_lang.specs.Tree.{DefTree, GroupTree}
use Rattle.smt_terms.specs.Meaning.{FunTree}
use Rattle.smt_terms.specs.Functions.{helpers}
use Rattle.smt_export.specs.declared.told.Told.{Told}
use Rattle.smt_export.specs.Told.{all_told}
use Rattle.smt_export.specs.Telling.{HasFuns}
use Rattle.smt_export.specs.Scripts.{def_fun, def_funs, funs_from, script}
use Rattle.smt_export.proofs.Membership.{Member, member-told}

each-listed : (F : Told → FunTree) (u : Told) (ts : List Told) → Member u ts → Contains (map F ts) (F u)
each-listed F u [] is = absurd is
each-listed F u (t ∷ ts) is = ⊎_elim (λ e. (0, omega arith, ap F (sym e))) (λ more. let m = each-listed F u ts more in (suc m.0, omega (arith, m.1), m.2)) is

there : (defs : List DefTree) (e : ℕ) → e < length defs → (def : DefTree) × (slice_get defs e ≡ Some def)
there [] e lt = absurd (omega (arith, lt))
there (x ∷ defs) zero lt = (x, refl)
there (x ∷ defs) (suc e) lt = there defs e (omega (arith, lt))

within : (defs : List DefTree) (n e : ℕ) (def : DefTree) → e < n → slice_get defs e ≡ Some def → slice_get (take n defs) e ≡ Some def
within [] n e def lt is = absurd (cc)
within (x ∷ defs) zero e def lt is = absurd (omega (arith, lt))
within (x ∷ defs) (suc n) zero def lt is = is
within (x ∷ defs) (suc n) (suc e) def lt is = within defs n e def (omega (arith, lt)) is

module _ (g : GroupTree) (R : ℕ → Bool) where
  from-listed : (defs : List DefTree) (d i : ℕ) (def : DefTree) (f : FunTree) → slice_get defs i ≡ Some def → R (d + i) ≡ true → Contains (def_funs g (d + i) def) f → Contains (funs_from g R d defs) f
  from-listed [] d i def f is passes h = absurd (cc)
  from-listed (x ∷ defs) d zero def f is passes h =
      let same : x ≡ def = cc in
      let e : d + 0 ≡ d = omega arith in
      let tested : R d ≡ true = sym (ap R e) ∙ passes in
      let funs : def_funs g (d + 0) def ≡ cond (R d) (def_funs g d x) [] = (λ j. def_funs g (e j) (sym same j)) ∙ (λ j. cond (sym tested j) (def_funs g d x) []) in
      Contains-append_left (cond (R d) (def_funs g d x) []) (funs_from g R (suc d) defs) f (subst (λ (fs : List FunTree). Contains fs f) funs h)
  from-listed (x ∷ defs) d (suc i) def f is passes h =
      let e : suc d + i ≡ d + suc i = omega arith in
      Contains-append_right (cond (R d) (def_funs g d x) []) (funs_from g R (suc d) defs) f
      (from-listed defs (suc d) i def f is (ap R e ∙ passes) (subst (λ (k : ℕ). Contains (def_funs g k def) f) (sym e) h))

  pub script-has : (d e : ℕ) → d < length g.defs → e ≤ d → R e ≡ true → HasFuns g (script g R d) e
  script-has d e lt le passes =
      let def = there g.defs e (omega (arith, lt, le)) in
      let z : 0 + e ≡ e = omega arith in
      record {
        there = λ u told. (
          def_fun g e def.0 u,
          Contains-append_right helpers (funs_from g R 0 (take (suc d) g.defs)) (def_fun g e def.0 u)
              (from-listed (take (suc d) g.defs) 0 e def.0 (def_fun g e def.0 u) (within g.defs (suc d) e def.0 (omega (arith, le)) def.1) (ap R z ∙ passes)
              (subst (λ (k : ℕ). Contains (def_funs g k def.0) (def_fun g e def.0 u)) (sym z) (each-listed (def_fun g e def.0) u (all_told g) (member-told g u told)))),
          refl,
          refl,
          refl,
        );
      }
