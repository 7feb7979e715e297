-- A definition is closed over any view of assertions where each of its leaves is led to.
use Rattle.std.proofs.Common.{◌≡◌, ℕ, zero, suc, ◌+◌, ◌≤◌, [], length, sym, ◌∙◌, arith, subst, Some}
use Rattle.std.specs.Prelude.{slice_get}
use Rattle.std.proofs.lemmas.List.Elements.{Contains-push}
use Rattle.word_terms.specs.Tree.{WordTree, Const}
use Rattle.word_terms.specs.Environment.{Environment, no_variables}
use Rattle.word_terms.specs.Value.{word_value}
use Rattle.tailrec_lang.specs.declared.group.Exit.{Exit}
use Rattle.tailrec_lang.specs.Tree.{ValuesTree, DefTree, GroupTree}
use Rattle.tailrec_lang.specs.WellFormed.{BodyIsWellFormed, IsWellFormed}
use Rattle.tailrec_lang.specs.Eval.{Arguments, Exited, arguments_of, with_arguments, ending}
use Rattle.tailrec_lang.proofs.Turns.{ending-enter}
use Rattle.sep_assert.specs.Tree.{AssertionTree}
use Rattle.triple_kernel.specs.Tree.{Gives}
use Rattle.triple_kernel.specs.Fact.{Leaves, AllHold}
use Rattle.loop_rule.specs.Leaves.{parameters, at_exit, at_entry, body_leaves, leaves_of, with_values}
use Rattle.loop_rule.specs.Rule.{results, exit_triple}
use Rattle.loop_rule.proofs.Scopes.{nothing_known}
use Rattle.loop_rule.proofs.Variables.{arguments-are, with_arguments-words, with_arguments-mems}
use Rattle.loop_rule.proofs.Ways.{OnWay}
use Rattle.verdicts.proofs.Ways.{after_exit, AllGo, follow, place_after-is}

module _ (g : GroupTree) (View : Type 0) (view : AssertionTree → Environment → View) (place : ℕ → Arguments → View)
    (place-is : (pc : WordTree) (v : ValuesTree) (e : Environment) → view (with_values g pc v) e ≡ place (word_value pc e) (arguments_of v e))
    (Goes : View → View → Type 0) (goes-on : (p q r : View) → Goes p q → Goes q r → Goes p r)
    (d : ℕ) (def : DefTree) (is : slice_get g.defs d ≡ Some def) (go : AllGo g View view place place-is Goes goes-on def (leaves_of g def)) where
  -- an entry with at most that many turns that leaves by an exit goes there
  arrives : IsWellFormed g → (most : ℕ) (x : Arguments) (m k : ℕ) (rs : Arguments) (r : ℕ) → m ≤ most → length x.words ≡ length g.regs → length x.mems ≡ g.mems
      → ending g d x m ≡ Exited k rs r → Goes (place def.entry x) (after_exit place (slice_get def.exits k) rs)
  arrives well_formed most x zero k rs r le words mems ends = absurd (cc)
  arrives well_formed zero x (suc left) k rs r le words mems ends = absurd (omega (arith, le))
  arrives well_formed (suc most) x (suc left) k rs r le words mems ends =
      let e : Environment = with_arguments no_variables x in
      let of_words : length g.regs ≡ e.words = sym (with_arguments-words no_variables x ∙ (λ i. 0 + words i) ∙ omega arith) in
      let of_mems : g.mems ≡ e.mems = sym (with_arguments-mems no_variables x ∙ (λ i. 0 + mems i) ∙ omega arith) in
      let start : OnWay g x e [] = record {
        words = omega (arith, of_words);
        mems = omega (arith, of_mems);
        same = arguments-are no_variables x (length g.regs) g.mems words mems;
        known = nothing_known g e;
      } in
      follow g View view place place-is Goes goes-on d def is well_formed most (arrives well_formed most) x def.body e [] 0 left k rs r (omega (arith, le)) start
      (subst (λ n. BodyIsWellFormed g d def.body n e.mems) of_words (subst (λ n. BodyIsWellFormed g d def.body (length g.regs) n) of_mems (well_formed d def is)))
      (subst (λ n. AllGo g View view place place-is Goes goes-on def (body_leaves g def def.body n e.mems [])) of_words
      (subst (λ n. AllGo g View view place place-is Goes goes-on def (body_leaves g def def.body (length g.regs) n [])) of_mems go))
      (sym (ending-enter g d x left def is) ∙ ends)

  -- the triple of an exit leads there too
  pub exit-goes : (exit : ℕ) (x : Exit) → slice_get def.exits exit ≡ Some x → (e : Environment) → AllHold g e (exit_triple g d def exit x).facts
      → Goes (view (at_entry g def (parameters g)) e) (view (at_exit g (Some x) (results g x)) e)
  exit-goes exit x at e holds =
      let gave : Leaves g d exit (arguments_of (parameters g) e) (arguments_of (results g x) e) = holds (Gives d exit (parameters g) (results g x)) (Contains-push [] (Gives d exit (parameters g) (results g x))) in
      let way = arrives gave.well_formed gave.turns (arguments_of (parameters g) e) gave.turns exit (arguments_of (results g x) e) gave.left (omega arith) gave.words gave.mems gave.ends in
      subst (λ v. Goes v (view (at_exit g (Some x) (results g x)) e)) (sym (place-is (Const def.entry) (parameters g) e))
      (subst (Goes (place def.entry (arguments_of (parameters g) e))) ((λ i. after_exit place (at i) (arguments_of (results g x) e)) ∙ sym (place_after-is g View view place place-is Goes goes-on (Some x) (results g x) e)) way)
