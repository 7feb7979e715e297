-- A group of a graph's parts has one definition for each part of the code.
use Rattle.std.proofs.Common.{◌≡◌, ℕ, zero, suc, ◌<◌, Bool, cond, List, [], ◌∷◌, ◌++◌, map, length, Option, None, Some, option_map, refl, sym, ap, subst, ◌∙◌, arith, eqb-true, eq-eqb}
use Rattle.std.specs.Prelude.{slice_get}
use Rattle.std.specs.List.{AllZip, Contains}
use Rattle.rv_words.specs.Bytes.{Bytes}
use Rattle.tailrec_lang.specs.declared.group.Exit.TheVariants.{Ret}
use Rattle.flow_graph.specs.Graph.{GraphOf, HasEdge}
use Rattle.flow_graph.proofs.NumberLemmas.{different_from_rising, number_at}
use Rattle.flow_graph.proofs.Ways.{node_at, place_of}
use Rattle.loop_forest.specs.Regions.{IsAround}
use Rattle.loop_forest.specs.Forest.{ForestOf, IsForestOf, exits_of, head_of, number_of, place_of as cut_place, region_of}
use Rattle.code_parts.specs.declared.part.Part.{Part}
use Rattle.code_parts.specs.declared.part.Part.TheVariants.{Loop, Rest}
use Rattle.code_parts.specs.Bodies.{Flow, part_def}
use Rattle.code_parts.specs.Flows.{Context, flow_of, place_in}
use Rattle.code_parts.specs.Flows as flows
use Rattle.code_parts.specs.Graph.{IsPart}
use Rattle.code_parts.specs.Order.{AreParts}
use Rattle.code_parts.proofs.FlowGraph.{exits-are, region-within}
use Rattle.code_parts.proofs.FlowOrder.{part-at}
use Rattle.code_parts.proofs.Lists.{contains-cases, here, later}
use Rattle.decompiler.specs.Listing.{AreTargets, CodePart, HasDefs, IsDefOf, IsPartOf, LoopOf, RestFrom, exits_to}
use Rattle.decompiler.proofs.CodeListed.{returns_are}
use Rattle.decompiler.proofs.Graphs.{cut_at, cut_node, cut_of, region_at}

-- the part of the code that a part of the graph is
abbrev pub part_in : ForestOf → Part → CodePart
part_in f (Loop l) = LoopOf (head_of f l)
part_in f (Rest r n) = RestFrom (option_map (head_of f) r) n

mapped : {A B : Type 0} (h : A → B) (xs : List A) (x : A) → Contains xs x → Contains (map h xs) (h x)
mapped h [] x c = absurd (omega (arith, c.1))
mapped h (y ∷ xs) x c = contains-cases y xs x c (λ e. subst (λ z. Contains (map h (y ∷ xs)) (h z)) e (here (h y) (map h xs))) (λ d. later (h y) (map h xs) (h x) (mapped h xs x d))

unmapped : {A B : Type 0} (h : A → B) (xs : List A) (y : B) → Contains (map h xs) y → (x : A) × Contains xs x × (h x ≡ y)
unmapped h [] y c = absurd (omega (arith, c.1))
unmapped h (x ∷ xs) y c = contains-cases (h x) (map h xs) y c (λ e. (x, here x xs, e)) (λ d. let r = unmapped h xs y d in (r.0, later x xs r.0 r.1, r.2))

slice_unmapped : {A B : Type 0} (h : A → B) (xs : List A) (k : ℕ) (y : B) → slice_get (map h xs) k ≡ Some y → (x : A) × (slice_get xs k ≡ Some x) × (h x ≡ y)
slice_unmapped h [] k y e = absurd (cc)
slice_unmapped h (x ∷ xs) zero y e = let same : h x ≡ y = cc in (x, refl, same)
slice_unmapped h (x ∷ xs) (suc k) y e = slice_unmapped h xs k y e

pub append_none : {A : Type 0} (xs : List A) → xs ++ [] ≡ xs
append_none [] = refl
append_none (x ∷ xs) = ap (λ zs. x ∷ zs) (append_none xs)

same_head : (f : ForestOf) (l m : ℕ) → LoopOf (head_of f l) ≡ LoopOf (head_of f m) → head_of f l ≡ head_of f m
same_head f l m e = cc

same_cut : (q r : Option ℕ) (n m : ℕ) → RestFrom q n ≡ RestFrom r m → n ≡ m
same_cut q r n m e = cc

never : {P : Type 0} (h n : ℕ) (r : Option ℕ) → LoopOf h ≡ RestFrom r n → P
never h n r e = absurd (cc)

module _ (linked : Bool) (g : GraphOf) (reached : flows.IsReached linked g) (f : ForestOf) (forest : IsForestOf g f) (s : Context) (order : AreParts (flow_of g f s) (number_of f) s.parts) where
  abbrev the_flow : Flow
  the_flow = flow_of g f s

  abbrev code : Bytes
  code = reached.code

  abbrev e : ℕ
  e = reached.entry

  is_part : (p : Part) → IsPart (flow_of g f s) p → IsPartOf g (part_in f p)
  is_part (Loop l) lt = (forest.heads (head_of f l)).0 (node_at f.heads l lt)
  is_part (Rest r n) h = (
    cut_of linked code e g reached.is f forest n h.0 (eqb-true (cut_place f n) 0 h.1),
    subst (λ (o : Option ℕ). IsAround (HasEdge g) g.entry n (option_map (head_of f) o)) h.2 (forest.regions n h.0),
  )

  part_for : (q : CodePart) → IsPartOf g q → (p : Part) × IsPart (flow_of g f s) p × (part_in f p ≡ q)
  part_for (LoopOf h) head = let at = place_of f.heads h ((forest.heads h).1 head) in (Loop at.0, at.1, ap LoopOf at.2)
  part_for (RestFrom region c) (cut, around) =
      let lt = cut_node linked code e g reached.is f forest c cut in (
        Rest (region_of f c) c,
        (lt, eq-eqb (cut_place f c) 0 (cut_at linked code e g reached.is f forest c cut), refl),
        ap (λ (o : Option ℕ). RestFrom o c) (region_at linked code e g reached.is f forest c region lt around),
      )

  one_part : (p q : Part) → IsPart (flow_of g f s) p → IsPart (flow_of g f s) q → part_in f p ≡ part_in f q → p ≡ q
  one_part (Loop l) (Loop m) h k same =
      let d = different_from_rising f.heads forest.rising in
      let one : l ≡ m = sym (number_at f.heads d l (head_of f l) h refl) ∙ number_at f.heads d m (head_of f l) k (sym (same_head f l m same)) in
      ap Loop one
  one_part (Loop l) (Rest r n) h k same = never (head_of f l) n (option_map (head_of f) r) same
  one_part (Rest r n) (Loop l) h k same = never (head_of f l) n (option_map (head_of f) r) (sym same)
  one_part (Rest q n) (Rest r m) h k same =
      let one : n ≡ m = same_cut (option_map (head_of f) q) (option_map (head_of f) r) n m same in
      let region : q ≡ r = sym h.2 ∙ ap (region_of f) one ∙ k.2 in
      λ i. Rest (region i) (one i)

  targets_are : (l : ℕ) → l < length f.heads → AreTargets g (head_of f l) (exits_of f l)
  targets_are l lt = record { rising = forest.exits_rise l lt; each = λ n. forest.exits l n lt }

  def_is : (p : Part) → IsPart (flow_of g f s) p → IsDefOf g (part_in f p) (part_def (flow_of g f s) p)
  def_is (Loop l) lt = record {
    entry = refl;
    exits = (exits_of f l, targets_are l lt, append_none (exits_to g (the_flow.exits l)) ∙ ap (exits_to g) (exits-are linked code e g f s reached.is forest l lt));
  }
  def_is (Rest None n) h = record { entry = refl; exits = ap (λ (b : Bool). cond b (Ret ∷ []) []) (returns_are linked g reached) }
  def_is (Rest (Some l) n) h =
      let lt = region-within linked code e g f s reached.is forest n h.0 l h.2 in
      record {
        entry = refl;
        exits = (exits_of f l, targets_are l lt, append_none (exits_to g (head_of f l ∷ the_flow.exits l)) ∙ ap (λ (xs : List ℕ). exits_to g (head_of f l ∷ xs)) (exits-are linked code e g f s reached.is forest l lt));
      }

  each_def : (ps : List Part) → ((p : Part) → Contains ps p → IsPart (flow_of g f s) p) → AllZip (IsDefOf g) (map (part_in f) ps) (map (part_def (flow_of g f s)) ps)
  each_def [] all = tt
  each_def (p ∷ ps) all = (def_is p (all p (here p ps)), each_def ps (λ q c. all q (later p ps q c)))

  pub defs_are : HasDefs g (map (part_def (flow_of g f s)) s.parts)
  defs_are = record {
    parts = map (part_in f) s.parts;
    all = λ q. (
      λ c. let at = unmapped (part_in f) s.parts q c in subst (IsPartOf g) at.2 (is_part at.0 ((order.all at.0).0 at.1)),
      λ is. let at = part_for q is in subst (Contains (map (part_in f) s.parts)) at.2 (mapped (part_in f) s.parts at.0 ((order.all at.0).1 at.1)),
    );
    once = λ j k q at_j at_k.
        let x = slice_unmapped (part_in f) s.parts j q at_j in
        let y = slice_unmapped (part_in f) s.parts k q at_k in
        let in_x = part-at (flow_of g f s) (number_of f) s.parts order j x.0 x.1 in
        let in_y = part-at (flow_of g f s) (number_of f) s.parts order k y.0 y.1 in
        sym in_x.1 ∙ ap (place_in s.parts) (one_part x.0 y.0 in_x.0 in_y.0 (x.2 ∙ sym y.2)) ∙ in_y.1;
    each = each_def s.parts (λ p c. (order.all p).0 c);
  }
