-- The parts of a graph are walked through one after the other, and then are all closed.
use Rattle.std.proofs.Common.{◌≡◌, ℕ, zero, suc, ◌+◌, ◌^◌, ◌<◌, List, [], ◌∷◌, ◌++◌, map, length, get_or, take, true, fold, refl, sym, ap, subst, ◌∙◌, arith, Some, None, Option, false}
use Rattle.std.proofs.lemmas.Option.{slice_get-get_or}
use Rattle.std.specs.Prelude.{slice_get}
use Rattle.std.specs.List.{All, AllByRecursion}
use Rattle.std.proofs.lemmas.List.Elements.{All-contains_itself}
use Rattle.tailrec_lang.specs.declared.group.Def.{Def}
use Rattle.tailrec_lang.specs.Tree.{DefTree, GroupTree, def_tree, group_tree}
use Rattle.proof_text.specs.Line.{LineTree, line_tree}
use Rattle.group_text.specs.Version.{version_of}
use Rattle.proof_text.specs.LineLimits.{IsLineIn}
use Rattle.group_text.specs.declared.version.Version.{Version as Known}
use Rattle.group_text.specs.declared.version.Version.TheVariants.{One}
use Rattle.verdicts.specs.Instance.{History, after_line, after_lines, no_lines}
use Rattle.flow_graph.specs.Graph.{GraphOf}
use Rattle.loop_forest.specs.Forest.{ForestOf, IsForestOf, number_of}
use Rattle.code_parts.specs.declared.part.Part.{Part}
use Rattle.path_walk.specs.declared.item.Item.{Item}
use Rattle.rv_words.specs.declared.range.Range.{Range}
use Rattle.code_parts.specs.declared.callee.Callee.{Callee}
use Rattle.code_parts.specs.Bodies.{Flow, part_body, part_def}
use Rattle.code_parts.specs.Graph.{CallsBelow, IsAlone, IsFor, IsGraph, IsMade, IsPart}
use Rattle.code_parts.specs.Flows.{AreCodeOf, IsReached, Context, alone, flow_of, group_of, group_over}
use Rattle.verdicts.specs.Further.{further_of}
use Rattle.path_walk.specs.Further.{IsVersionFor}
use Rattle.path_walk.specs.Item.{IsItemWith, IsWalkedIn}
use Rattle.code_parts.specs.Order.{AreParts}
use Rattle.code_parts.specs.Kept.{FlowOf, flow_in}
use Rattle.path_walk.specs.inner.Walks.{AreWalked, CloseFirst, IsItemOver}
use Rattle.code_parts.proofs.FlowSize.{parts-fit}
use Rattle.path_walk.proofs.CalledDefs.{below_closed, closed_to}
use Rattle.code_parts.proofs.Groups.{for}
use Rattle.code_parts.proofs.Lists.{length-map, slice-mapped}
use Rattle.path_walk.proofs.Lines.{uncrossed}
use Rattle.path_walk.proofs.RightLines.{fold-join, joined}

all_join : {A : Type 0} (P : A → Type 0) (xs ys : List A) → AllByRecursion P xs → AllByRecursion P ys → AllByRecursion P (xs ++ ys)
all_join P [] ys h k = k
all_join P (x ∷ xs) ys h k = (h.0, all_join P xs ys h.1 k)

one_more : {A B : Type 0} (h : A → B) (xs : List A) (n : ℕ) (x : A) → slice_get xs n ≡ Some x → map h (take (n + 1) xs) ≡ map h (take n xs) ++ h x ∷ []
one_more h [] n x e = absurd (cc)
one_more h (y ∷ ys) zero x e = let same : y ≡ x = cc in ap (λ z. h z ∷ []) same
one_more h (y ∷ ys) (suc n) x e =
    let next : suc n + 1 ≡ suc (n + 1) = omega arith in
    ap (λ k. map h (take k (y ∷ ys))) next ∙ ap (λ zs. h y ∷ zs) (one_more h ys n x e)

taken : {A : Type 0} (xs : List A) → take (length xs) xs ≡ xs
taken [] = refl
taken (x ∷ xs) = ap (λ zs. x ∷ zs) (taken xs)

-- the lines of a part behind those that closed the definitions before it
pub first_more : (version : Known) (f : Flow) (ranges : List Range) (p : Part) (g : GroupTree) (n : ℕ) (old new : List LineTree) → IsWalkedIn version f ranges p old new → f.number p ≡ n → IsFor f n g → g.code ≡ ranges →
    slice_get g.defs (f.number p) ≡ Some (part_def f p) → CallsBelow n (part_body f p) → CloseFirst (further_of version) g n old → CloseFirst (further_of version) g (n + 1) new
first_more version f ranges p g n old new one number group code mine below before =
    let closing = one.closing g n group code mine below (below_closed (after_lines old) n (part_body f p) before.closed below) in
    let whole : after_lines (old ++ one.added) ≡ fold after_line (after_lines old) one.added = fold-join no_lines old one.added in
    let all : CloseFirst (further_of version) g (n + 1) (old ++ one.added) = record {
      right = joined (further_of version) g no_lines old one.added before.right closing.right;
      closed = λ c lt. ap (λ (h : History). h.closed c) whole ∙ closed_to c n (omega (arith, lt)) (fold after_line (after_lines old) one.added)
          (subst (λ k. (fold after_line (after_lines old) one.added).closed k ≡ true) number closing.closed) (λ low. closing.keeps c (before.closed c low));
    } in
    subst (CloseFirst (further_of version) g (n + 1)) (sym one.lines) all

-- where each access uses the first memory and no function is called any version will do, so version 1 does for a function alone
pub version-alone : (f : Flow) → IsAlone f → IsVersionFor f One
version-alone f alone = record {
  calls = λ n c node calls. absurd (called (alone.calls n node) calls);
  crossed = λ n node is. absurd (uncrossed (f.instr n) (f.uses n) (alone.uses n node) is);
}
  where
    called : {c : Callee} {o : Option Callee} → o ≡ None → o ≡ Some c → ⊥
    called none some = cc

module _ (version : Known) (s : FlowOf) where
  pub none_walked : AreWalked version s 0 [] []
  none_walked = record { are = refl; fine = tt; close = λ g made code. record { right = tt; closed = λ d lt. absurd (omega (arith, lt)) } }

  -- .. and the next part
  pub walked_more : (n : ℕ) (p : Part) (defs : List DefTree) (d : DefTree) (old new : List LineTree) → IsGraph (flow_in s) → slice_get s.context.parts n ≡ Some p → AreWalked version s n defs old →
      d ≡ part_def (flow_in s) p → IsWalkedIn version (flow_in s) s.code p old new → AreWalked version s (n + 1) (defs ++ d ∷ []) new
  walked_more n p defs d old new graph at so_far def one = record {
    are = (λ i. so_far.are i ++ def i ∷ []) ∙ sym (one_more (part_def (flow_in s)) s.context.parts n p at);
    fine = subst (AllByRecursion (IsLineIn (version_of version))) (sym one.lines) (all_join (IsLineIn (version_of version)) old one.added so_far.fine one.fine);
    close = λ g made code.
        let there = made.part n p at in
        let mine : slice_get g.defs ((flow_in s).number p) ≡ Some (part_def (flow_in s) p) =
        (λ i. slice_get (made.defs i) ((flow_in s).number p)) ∙ slice-mapped (part_def (flow_in s)) s.context.parts ((flow_in s).number p) p (made.listed p there.0) in
        first_more version (flow_in s) s.code p g n old new one there.1 (for (flow_in s) g s.context.parts graph made n) code mine (made.below n p at) (so_far.close g made code);
  }

map_join : {A B : Type 0} (h : A → B) (xs : List A) (x : A) → map h (xs ++ x ∷ []) ≡ map h xs ++ h x ∷ []
map_join h [] x = refl
map_join h (y ∷ xs) x = ap (λ zs. h y ∷ zs) (map_join h xs x)

-- .. as the loop over them goes
pub walked_next : (version : Known) (s : FlowOf) (parts : List Part) (n : ℕ) (x : Part) (defs more : List Def) (d : Def) (old new : List LineTree) → parts ≡ s.context.parts → IsGraph (flow_in s) → n < length parts →
    AreWalked version s n (map def_tree defs) old → more ≡ defs ++ d ∷ [] → def_tree d ≡ part_def (flow_in s) (get_or parts n x) → IsWalkedIn version (flow_in s) s.code (get_or parts n x) old new →
    AreWalked version s (n + 1) (map def_tree more) new
walked_next version s parts n x defs more d old new are graph lt so_far pushed def one =
    let at : slice_get s.context.parts n ≡ Some (get_or parts n x) = (λ i. slice_get (sym are i) n) ∙ slice_get-get_or parts n x lt in
    subst (λ (ds : List DefTree). AreWalked version s (n + 1) ds new) (sym (ap (map def_tree) pushed ∙ map_join def_tree defs d))
    (walked_more version s n (get_or parts n x) (map def_tree defs) (def_tree d) old new graph at so_far def one)

pub parts_small : (g : GraphOf) (f : ForestOf) (parts : List Part) → IsReached false g → IsForestOf g f → AreParts (flow_of g f (alone g parts)) (number_of f) parts → length parts < 2 ^ 32
parts_small g f parts reached forest order = let fit = parts-fit false reached.code reached.entry g f (alone g parts) reached.is forest order in omega (arith, fit)

pub parts-there : (f : Flow) (left : ℕ → ℕ) (parts : List Part) → AreParts f left parts → All (IsPart f) parts
parts-there f left parts order = λ k d lt. (order.all (get_or parts k d)).0 (All-contains_itself parts k d lt)

-- all parts, as an item
pub item_over : (version : Known) (s : FlowOf) (name : List ℕ) (count : ℕ) (item : Item) (defs : List DefTree) → AreWalked version s (length s.context.parts) defs (map line_tree item.lines) →
    group_tree item.group ≡ group_over (flow_in s) name s.code defs → item.reached ≡ count → IsItemOver version s name count item
item_over version s name count item defs walked group reached = record {
  group = is;
  fine = walked.fine;
  close = λ made.
      let all = walked.close (group_tree item.group) made (ap (λ (g : GroupTree). g.code) is) in
      let long = length-map (part_def (flow_in s)) s.context.parts in
      let many : length (group_tree item.group).defs ≡ length (map (part_def (flow_in s)) s.context.parts) = ap (λ (g : GroupTree). length g.defs) is in
      record { right = all.right; closed = λ d lt. all.closed d (omega (arith, lt, many, long)) };
  reached = reached;
}
  where
    is : group_tree item.group ≡ group_of (flow_in s) name s.code s.context.parts
    is = group ∙ ap (group_over (flow_in s) name s.code) (walked.are ∙ ap (map (part_def (flow_in s))) (taken s.context.parts))

-- .. of a graph in the context that goes with its parts
pub item_in_context : (version : Known) (set : List Part → Context) (g : GraphOf) (f : ForestOf) (parts : List Part) (s : FlowOf) (name : List ℕ) (count : ℕ) (item : Item) →
    flow_in s ≡ flow_of g f (set parts) → s.context.parts ≡ parts → IsItemOver version s name count item → count ≡ length g.addrs → AreParts (flow_of g f (set parts)) (number_of f) parts → AreCodeOf g s.code →
    ((ranges : List Range) → ranges ≡ s.code → IsMade (flow_of g f (set parts)) (group_of (flow_of g f (set parts)) name ranges parts) parts) → IsItemWith version set g f name item
item_in_context version set g f parts s name count item same are over long order code made = record {
  parts = parts;
  ordered = order;
  code = subst (AreCodeOf g) (sym ranges) code;
  group = is;
  lines = over.close closed;
  fine = over.fine;
  reached = over.reached ∙ long;
}
  where
    ranges : item.group.code.ranges ≡ s.code
    ranges = ap (λ (t : GroupTree). t.code) over.group

    is : group_tree item.group ≡ group_of (flow_of g f (set parts)) name item.group.code.ranges parts
    is = over.group ∙ (λ i. group_of (same i) name (sym ranges i) (are i))

    closed : IsMade (flow_in s) (group_tree item.group) s.context.parts
    closed =
        subst (λ (h : Flow). IsMade h (group_tree item.group) s.context.parts) (sym same)
        (subst (λ (ps : List Part). IsMade (flow_of g f (set parts)) (group_tree item.group) ps) (sym are)
        (subst (λ (t : GroupTree). IsMade (flow_of g f (set parts)) t parts) (sym is) (made item.group.code.ranges ranges)))
