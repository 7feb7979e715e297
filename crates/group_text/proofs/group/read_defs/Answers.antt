use Rattle.std.proofs.Common.{◌≡◌, suc, ◌-◌, ◌≤◌, [], length, map, sym, ap, subst, ◌∙◌, arith, List as Items}
use Rattle.mc_text.specs.Reading.{many}
use Rattle.mc_text.specs.inner.Reading.{with_prefix}
use Rattle.tailrec_lang.specs.declared.group.Def.{Def}
use Rattle.tailrec_lang.specs.Tree.{def_tree}
use Rattle.group_text.specs.Limits.{def_limit}
use Rattle.group_text.specs.inner.Rows.{tokens}
use Rattle.group_text.specs.inner.Reading.{is_def, def_at, own_defs}
use Rattle.group_text.proofs.Loops.{many-pushed, one-longer, some-mapped, none-mapped}
use Rattle.group_text.proofs.OwnDefs.{own-full, own-none, own-some, one-fewer, fewer, full}
use Rattle.group_text.proofs.Joins.{AllSo, so-begun, so-more, lost-row}
use Rattle.group_text.proofs.GroupJoins.{defs-bad, defs-ok, defs-stopped, def-failed}
use Rattle.group_text.proofs.group.read_defs.Goals as goal

few-begun : (ds : Items Def) → ds ≡ [] → length ds ≤ def_limit
few-begun ds e = subst (λ (ds : Items Def). length ds ≤ def_limit) (sym e) (omega arith)

pub defs-init : goal.defs-init
defs-init g c = record {
  told = subst (λ (ds : Items Def). AllSo (many def_limit is_def def_at) (g.R.Rows.May c.args.rows.now c.args.from.now) (g.R.Rows.May c.args.rows.now c.args.from.now) (λ ts. with_prefix (map def_tree ds) (many (def_limit - length ds) is_def def_at ts))) (sym c.new-defs.ensures)
      (so-begun (many def_limit is_def def_at) (g.R.Rows.May c.args.rows.now c.args.from.now));
  few = few-begun c.new-defs.result c.new-defs.ensures;
  left = omega arith;
  lends = g.met.R.Rows.lends_nothing _ _;
}

pub returns-in_err-row_begins-clause-gives : goal.returns-in_err-row_begins-clause-gives
returns-in_err-row_begins-clause-gives g c = lost-row (λ (defs : Items Def). map def_tree defs) own_defs c.in_err-row_begins.field-0.0 c.from_residual.result _ _ c.from_residual.ensures.1

pub returns-then-len-eq-DEF_LIMIT-clause-gives : goal.returns-then-len-eq-DEF_LIMIT-clause-gives
returns-then-len-eq-DEF_LIMIT-clause-gives g c = defs-bad _ _ (λ ts. with_prefix (map def_tree c.defs.defs) (many (def_limit - length c.defs.defs) is_def def_at ts)) c.defs.invariant.told _ c.in_ok-row_begins.ensures.kept
    (λ q may ts e. own-full (def_limit - length c.defs.defs) (map def_tree c.defs.defs) (tokens q) ts e (full (length c.defs.defs) (sym c.len.ensures ∙ c.if-len-eq-DEF_LIMIT.true)) (sym (c.in_ok-row_begins.ensures.goes_on q may) ∙ c.if-branch.true))

pub defs-preserved : goal.defs-preserved
defs-preserved g c =
    let longer = one-longer c.defs.defs c.in-Ok.def c.push.new.self c.in_ok-push-in-Ok.ensures.ok in
    record {
      told = so-more def_tree def_at (many def_limit is_def def_at) c.in-Ok.def _ _ _ _ (λ ts. with_prefix (map def_tree c.defs.defs) (many (def_limit - length c.defs.defs) is_def def_at ts))
          (λ ts. with_prefix (map def_tree c.push.new.self) (many (def_limit - length c.push.new.self) is_def def_at ts)) c.defs.invariant.told c.in_ok-row_begins.ensures.kept
          (λ p may rest total e h. many-pushed def_tree is_def def_at (def_limit - length c.defs.defs) (def_limit - length c.push.new.self) c.defs.defs c.in-Ok.def c.push.new.self (tokens p) rest total
          (one-fewer (length c.defs.defs) c.defs.invariant.few (λ e. c.if-len-eq-DEF_LIMIT.false (c.len.ensures ∙ e)) ∙ ap (λ n. suc (def_limit - n)) (sym longer)) c.in_ok-push-in-Ok.ensures.ok (sym (c.in_ok-row_begins.ensures.goes_on p may) ∙ c.if-branch.true) e h)
          c.in-Ok.ensures.gives;
      few = omega (arith, longer, fewer (length c.defs.defs) c.defs.invariant.few (λ e. c.if-len-eq-DEF_LIMIT.false (c.len.ensures ∙ e)));
      left = omega (arith, c.in-Ok.ensures.left, c.in_ok-row_begins.ensures.left, c.defs.invariant.left);
      lends = g.met.R.Rows.lends_then _ _ _ _ _ _ _ (g.met.R.Rows.lends_then _ _ _ _ _ _ _ c.defs.invariant.lends c.in_ok-row_begins.ensures.lends) c.in-Ok.ensures.lends;
    }

pub returns-in-Err-clause-gives : goal.returns-in-Err-clause-gives
returns-in-Err-clause-gives g c = defs-stopped _ _ (λ ts. with_prefix (map def_tree c.defs.defs) (many (def_limit - length c.defs.defs) is_def def_at ts)) c.defs.invariant.told def_tree (λ (defs : Items Def). map def_tree defs) c.in-Err.halt _ _ c.in_ok-row_begins.ensures.kept
    (λ q may bad ts e h. def-failed (def_limit - length c.defs.defs) _ (map def_tree c.defs.defs) (tokens q) bad ts (one-fewer (length c.defs.defs) c.defs.invariant.few (λ e. c.if-len-eq-DEF_LIMIT.false (c.len.ensures ∙ e)))
    (sym (c.in_ok-row_begins.ensures.goes_on q may) ∙ c.if-branch.true) e h)
    c.in-Err.ensures.gives

pub returns-then-is_empty-clause-gives : goal.returns-then-is_empty-clause-gives
returns-then-is_empty-clause-gives g c = defs-bad _ _ (λ ts. with_prefix (map def_tree c.defs.defs) (many (def_limit - length c.defs.defs) is_def def_at ts)) c.defs.invariant.told _ c.in_ok-row_begins.ensures.kept
    (λ q may ts e. own-none (def_limit - length c.defs.defs) (map def_tree c.defs.defs) (tokens q) ts e (sym (c.in_ok-row_begins.ensures.goes_on q may) ∙ c.if-branch.false) (none-mapped def_tree c.defs.defs (c.is_empty.ensures.0 c.if-is_empty.true)))

pub returns-clause-gives : goal.returns-clause-gives
returns-clause-gives g c = defs-ok _ _ (λ ts. with_prefix (map def_tree c.defs.defs) (many (def_limit - length c.defs.defs) is_def def_at ts)) c.defs.invariant.told _ (map def_tree c.defs.defs) c.in_ok-row_begins.ensures.kept
    (λ q may ts e. own-some (def_limit - length c.defs.defs) (map def_tree c.defs.defs) (tokens q) ts e (sym (c.in_ok-row_begins.ensures.goes_on q may) ∙ c.if-branch.false) (some-mapped def_tree c.defs.defs c.is_empty.result c.is_empty.ensures.1 c.if-is_empty.false))
