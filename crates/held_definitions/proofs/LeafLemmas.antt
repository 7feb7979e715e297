-- Leaves that are judged by theorems over the numbers of an arena.
use Rattle.std.proofs.Common.{◌≡◌, ℕ, zero, suc, ◌+◌, ◌-◌, ◌≤◌, Option, Some, List, [], ◌∷◌, ◌++◌, append_assoc, length, map, take, drop, refl, sym, ap, ◌∙◌, subst, arith, true≢false}
use Rattle.std.specs.Prelude.{◌↔◌, All, Bool, true, false, slice_get, sum_by}
use Rattle.std.specs.List.{AllZip}
use Rattle.std.proofs.Math.Seq.{drop-append_seam}
use Rattle.std.proofs.lemmas.List.{length-append, length-map, map-append, take-map, drop-map, append-nil}
use Rattle.std.proofs.lemmas.List.Elements.{All-append, All-take}
use Rattle.std.proofs.lemmas.Option.{same_Some}
use Rattle.tailrec_lang.specs.Tree.{DefTree, GroupTree, def_tree, group_tree}
use Rattle.sep_assert.specs.Tree.{AssertionTree}
use Rattle.triple_kernel.specs.declared.triple.Fact.{Fact}
use Rattle.triple_kernel.specs.Tree.{FactTree, TripleTree, fact_tree}
use Rattle.loop_rule.specs.Tree.{LeafTree}
use Rattle.loop_rule.specs.Leaves.{at_entry, leaves_of, parameters}
use Rattle.loop_rule.specs.Judge.{Went}
use Rattle.loop_rule.specs.Rule.{IsClosedBy, IsLedTo}
use Rattle.term_arena.specs.declared.node.Node.{Node}
use Rattle.term_arena.specs.Arena.{Extends}
use Rattle.held_terms.specs.declared.held.HeldFact.{HeldFact}
use Rattle.held_terms.specs.declared.held.HeldSide.{HeldSide}
use Rattle.held_terms.specs.Held.{fact_of, IsFactAt}
use Rattle.held_terms.proofs.GrowthLemmas.{extends_next, facts_still, same_map, same_fact, extends_none}
use Rattle.held_terms.specs.inner.Put.{AreFactsPut, IsSidePut}
use Rattle.held_definitions.specs.declared.closing.HeldLeaves.{HeldLeaves}
use Rattle.held_definitions.specs.Theorems.{theorem_at}
use Rattle.held_definitions.specs.ClosingTerms.{leaf_terms}
use Rattle.held_terms.specs.Terms.{nodes_of}
use Rattle.held_definitions.specs.inner.Leaves.{AreFirstOf, GrewFrom, IsReady, held_judge, leaf_over}
use Rattle.held_definitions.proofs.TheoremLemmas.{theorems_stay}

-- ---- the facts of a way, the first of which were put

take-both : {A : Type 0} (n : ℕ) (xs ys : List A) → take n (xs ++ ys) ≡ take n xs ++ take (n - length xs) ys
take-both zero [] ys = refl
take-both zero (x ∷ xs) ys = (λ i. take (none i) ys)
  where
    none : 0 ≡ 0 - length (x ∷ xs)
    none = omega arith
take-both (suc n) [] ys = let same : suc n ≡ suc n - 0 = omega arith in (λ i. take (same i) ys)
take-both (suc n) (x ∷ xs) ys = let same : n - length xs ≡ suc n - length (x ∷ xs) = omega arith in (λ i. x ∷ take-both n xs ys i) ∙ (λ i. x ∷ (take n xs ++ take (same i) ys))

pub first_none : (ns : List Node) (put : List HeldFact) (way : List Fact) → put ≡ [] → way ≡ [] → AreFirstOf ns put (map fact_tree way)
first_none ns put way p w = record {
  at = subst (λ (fs : List HeldFact). All (IsFactAt ns) fs) (sym p) (λ i d low. absurd (omega (arith, low)));
  rest = [];
  is = ap (map fact_tree) w ∙ (λ i. map (fact_of ns) (sym p i) ++ []);
}

pub first_still : (ns ms : List Node) (put : List HeldFact) (way : List FactTree) → Extends ns ms → AreFirstOf ns put way → AreFirstOf ms put way
first_still ns ms put way e first = record {
  at = facts_still ns ms e put first.at;
  rest = first.rest;
  is = first.is ∙ (λ i. sym (same_map ns ms e (fact_of ms) (fact_of ns) put (λ k d low. same_fact ns ms e _ (first.at k d low))) i ++ first.rest);
}

pub first_pushed : (ns : List Node) (put : List HeldFact) (way new : List FactTree) (f : FactTree) → AreFirstOf ns put way → new ≡ way ++ f ∷ [] → AreFirstOf ns put new
first_pushed ns put way new f first pushed = record {
  at = first.at;
  rest = first.rest ++ f ∷ [];
  is = pushed ∙ (λ i. first.is i ++ f ∷ []) ∙ append_assoc (map (fact_of ns) put) first.rest (f ∷ []);
}

pub first_short : (ns : List Node) (n : ℕ) (put short : List HeldFact) (way new : List FactTree) → AreFirstOf ns put way → short ≡ take n put → new ≡ take n way → AreFirstOf ns short new
first_short ns n put short way new first p w = record {
  at = subst (λ (fs : List HeldFact). All (IsFactAt ns) fs) (sym p) (All-take (IsFactAt ns) n put first.at);
  rest = take (n - length (map (fact_of ns) put)) first.rest;
  is = w ∙ ap (take n) first.is ∙ take-both n (map (fact_of ns) put) first.rest
      ∙ (λ i. (take-map (fact_of ns) n put ∙ ap (map (fact_of ns)) (sym p)) i ++ take (n - length (map (fact_of ns) put)) first.rest);
}

pub first_few : (ns : List Node) (put : List HeldFact) (way : List Fact) → AreFirstOf ns put (map fact_tree way) → length put ≤ length way
first_few ns put way first =
    let whole : length (map fact_tree way) ≡ length (map (fact_of ns) put) + length first.rest = ap length first.is ∙ length-append (map (fact_of ns) put) first.rest in
    let here = length-map put (fact_of ns) in
    let there = length-map way fact_tree in
    omega (arith, whole, here, there)

-- the others were put behind them
pub all_put : (ns ms : List Node) (put more new : List HeldFact) (way : List Fact) → Extends ns ms → AreFirstOf ns put (map fact_tree way) → AreFactsPut ms more (map fact_tree (drop (length put) way)) → new ≡ put ++ more
    → AreFactsPut ms new (map fact_tree way)
all_put ns ms put more new way e first rest is =
    let here = first_still ns ms put (map fact_tree way) e first in
    let long : length put ≡ length (map (fact_of ms) put) = sym (length-map put (fact_of ms)) in
    let others : map fact_tree (drop (length put) way) ≡ here.rest =
    sym (drop-map fact_tree (length put) way) ∙ (λ i. drop (long i) (here.is i)) ∙ drop-append_seam (map (fact_of ms) put) here.rest in
    record {
      at = subst (λ (fs : List HeldFact). All (IsFactAt ms) fs) (sym is) (All-append (IsFactAt ms) put more here.at rest.at);
      is = ap (map (fact_of ms)) is ∙ map-append (fact_of ms) put more ∙ (λ i. map (fact_of ms) put ++ (rest.is ∙ others) i) ∙ sym here.is;
    }

pub first_all : (ns : List Node) (put : List HeldFact) (way : List FactTree) → AreFactsPut ns put way → AreFirstOf ns put way
first_all ns put way all = record { at = all.at; rest = []; is = sym all.is ∙ sym (append-nil (map (fact_of ns) put)) }

-- the leaf is that of the way and the end that were put
pub leaf_put : (ns : List Node) (put : List HeldFact) (end : HeldSide) (way : List FactTree) (post : AssertionTree) → AreFactsPut ns put way → IsSidePut ns end post → leaf_over ns put end ≡ record { facts = way; post = post }
leaf_put ns put end way post p q = λ i. record { facts = p.is i; post = q.is i }

-- ---- the row of the loop rule

module _ (g : GroupTree) (d : ℕ) (cited : List (Option TripleTree)) where
  closed_each : (def : DefTree) → slice_get g.defs d ≡ Some def → IsClosedBy g d cited → AllZip (IsLedTo g def) (leaves_of g def) cited
  closed_each def is c = subst (λ (e : DefTree). AllZip (IsLedTo g e) (leaves_of g e) cited) (same_Some c.def def (sym c.is ∙ is)) c.each

  pub closed_by : (def : DefTree) (so : Bool) → slice_get g.defs d ≡ Some def → (so ≡ true → AllZip (IsLedTo g def) (leaves_of g def) cited) → (so ≡ false → AllZip (IsLedTo g def) (leaves_of g def) cited → ⊥) → so ≡ true ↔ IsClosedBy g d cited
  closed_by def true is led not_led = (λ t. record { def = def; is = is; each = led t }, λ closed. refl)
  closed_by def false is led not_led = (λ t. absurd (true≢false (sym t)), λ closed. absurd (not_led refl (closed_each def is closed)))

-- ---- what judges leaves

-- its arena and its counter are the same, and its theorems
pub held_went : {L : Type 0} (leaves : List LeafTree) (old new : HeldLeaves L) → new.group ≡ old.group → new.def ≡ old.def → new.held ≡ old.held → GrewFrom old new → IsReady old → IsReady new
    → new.steps.now ≤ old.steps.now + sum_by (λ l. nodes_of (leaf_terms (at_entry (group_tree old.group.now) (def_tree old.def.now) (parameters (group_tree old.group.now))) l)) leaves → Went held_judge leaves old new
held_went leaves old new group def held grew before ready few =
    let theorem : theorem_at new.arena.now new.held.now.entries ≡ theorem_at old.arena.now old.held.now.entries =
    (λ i. theorem_at new.arena.now (held i).now.entries) ∙ theorems_stay old.arena.now new.arena.now grew.grows old.held.now.entries before.held in
    record {
      closing = λ i. record { group = group_tree (group i).now; def = def_tree (def i).now; theorem = theorem i };
      ready = ready;
      since = λ first so. record { arena = grew.arena ∙ so.arena; grows = extends_next first.arena.now old.arena.now new.arena.now so.grows grew.grows; steps = grew.steps ∙ so.steps };
      steps = few;
    }

-- the arena grew over all of the leaves
pub grown : {L : Type 0} (leaves : List LeafTree) (old new : HeldLeaves L) → Went held_judge leaves old new → GrewFrom old new
grown leaves old new went = went.since old (record { arena = refl; grows = extends_none old.arena.now; steps = refl })
