-- The parts of a graph while it is built.
use Rattle.std.proofs.Common.{◌≡◌, ℕ, suc, ◌+◌, ◌-◌, ◌<◌, ◌≤◌, ◌↔◌, List, [], ◌∷◌, ◌++◌, inl, inr, length, get_or, take, drop, map, sym, ◌∙◌, ap, subst, arith, Bool, Result, Ok, Err, Option, Some, None, IfSome, IfNone}
use Rattle.std.specs.List.{Contains}
use Rattle.std.specs.Option.{unwrap_or}
use Rattle.std.specs.Result.{IfErr, IsErrAnd}
use Rattle.std.proofs.Math.Seq.{drop-cons}
use Rattle.std.proofs.lemmas.List.{get_or-map, length-map, get_or-take, length-take}
use Rattle.std.proofs.lemmas.Bool.Decides.{leb_tells}
use Rattle.rv_words.specs.Bytes.{Bytes}
use Rattle.rv_decode.specs.declared.instruction.Instr.{Instr}
use Rattle.flow_graph.specs.declared.outside.Outside.{Outside as Fault}
use Rattle.flow_graph.specs.declared.outside.FlowFault.{FlowFault}
use Rattle.flow_graph.specs.declared.outside.FlowFault.TheVariants.{Outside, NoMemory}
use Rattle.rvc.specs.Number.{length_of, number_in}
use Rattle.flow_graph.specs.Flow.{look, leads, length_in, next, targets, Next}
use Rattle.flow_graph.specs.Walks.{Leave, Stop}
use Rattle.flow_graph.specs.Reach.{IsReach, IsLeastFault, Least, reach_limit}
use Rattle.flow_graph.specs.Graph.{IsGraphOf, IsRising, IsRefused, edge_to, edges_from, number}
use Rattle.flow_graph.specs.inner.Building.{AreOf, IsFirst, HasFault}
use Rattle.flow_graph.proofs.Ways.{place_of, node_at, way-join}
use Rattle.flow_graph.proofs.ReachSearch.{reach_few}
use Rattle.flow_graph.proofs.NumberLemmas.{different_from_rising}

-- what is at a place of two lists that are the same after two maps
pub both_same : {A B : Type 0} (f : A → B) (g : ℕ → B) (xs : List A) (ns : List ℕ) (n : ℕ) (d : A) → map f xs ≡ map g ns → n < length ns → g (get_or ns n 0) ≡ f (get_or xs n d)
both_same f g xs ns n d e l =
    let long : length xs ≡ length ns = sym (length-map xs f) ∙ ap length e ∙ length-map ns g in
    sym (get_or-map g ns n 0 (f d) l) ∙ ap (λ ys. get_or ys n (f d)) (sym e) ∙ get_or-map f xs n d (f d) (omega arith)

pub at_same : (linked : Bool) (code : Bytes) (is : List Instr) (ns : List ℕ) (n : ℕ) (d : Instr) → map (λ i. Ok i) is ≡ map (look linked code) ns → n < length ns → look linked code (get_or ns n 0) ≡ Ok (get_or is n d)
at_same linked code is ns n d e l =
    let long : length is ≡ length ns = sym (length-map is (λ i. Ok i)) ∙ ap length e ∙ length-map ns (look linked code) in
    sym (get_or-map (look linked code) ns n 0 (Ok d) l) ∙ ap (λ xs. get_or xs n (Ok d)) (sym e) ∙ get_or-map (λ i. Ok i) is n d (Ok d) (omega arith)

-- the instruction of a node leads where its address does
pub node_targets : (linked : Bool) (code : Bytes) (nodes ws : List ℕ) (is : List Instr) → AreOf linked code nodes ws is → (n a k : ℕ) (d : Instr) → n < length nodes → a ≡ get_or nodes n 0 → k ≡ length_of (get_or ws n 0)
    → targets a k (get_or is n d) ≡ next linked code (get_or nodes n 0)
node_targets linked code nodes ws is of n a k d l at_a long =
    let number = both_same (λ w. Some w) (number_in code) ws nodes n 0 of.numbers_are l in
    let same : k ≡ length_in code (get_or nodes n 0) = long ∙ (λ j. length_of (unwrap_or (sym number j) 0)) in
    (λ j. targets (at_a j) (same j) (get_or is n d)) ∙ ap (leads (get_or nodes n 0) (length_in code (get_or nodes n 0))) (sym (at_same linked code is nodes n d of.same l))

-- the edges from a node on are its own and those from the node after it on
pub edges_down : (leads : ℕ → List ℕ) (all : List ℕ) (u : ℕ) → u < length all → edges_from leads all u (drop u all) ≡ map (edge_to all u) (leads (get_or all u 0)) ++ edges_from leads all (u + 1) (drop (u + 1) all)
edges_down leads all u l =
    let next : suc u ≡ u + 1 = omega arith in
    ap (edges_from leads all u) (drop-cons all u 0 l) ∙ ap (λ k. map (edge_to all u) (leads (get_or all u 0)) ++ edges_from leads all (u + 1) (drop k all)) next

pub closed_from_reach : (linked : Bool) (code : Bytes) (e : ℕ) (N : List ℕ) → IsReach (Next linked code) e N → (a b : ℕ) → Contains N a → Next linked code a b → Contains N b
closed_from_reach linked code e N r a b c d = r.all b (way-join (r.reached a c) (Leave tt d Stop))

-- the same addresses, rising
pub sorted_reach : (E : ℕ → ℕ → Type 0) (e : ℕ) (N M : List ℕ) → IsReach E e N → ((x : ℕ) → Contains N x ↔ Contains M x) → IsRising M → IsReach E e M
sorted_reach E e N M r same up = record {
  reached = λ x c. r.reached x ((same x).1 c);
  all = λ x w. (same x).0 (r.all x w);
  different = different_from_rising M up;
}

pub ok_err : {A B : Type 0} (a : A) (b : B) → Ok a ≡ Err b → ⊥
ok_err a b e = cc

-- the first address with a fault is the least one
least_fault : (linked : Bool) (code : Bytes) (e : ℕ) (N : List ℕ) (why : Fault) → IsReach (Next linked code) e N → IsRising N → (f : IsFirst linked code N why) → IsLeastFault linked code e (get_or N f.place 0) why
least_fault linked code e N why r up f = record {
  reached = r.reached (get_or N f.place 0) (node_at N f.place f.within);
  fault = f.fault;
  least = λ b w lt other q.
      let p = place_of N b (r.all b w) in
      elim (leb_tells f.place p.0) [
        | inl t ↦ absurd (no_less f.place p.0 b t.1 p.1 p.2 lt)
        | inr t ↦
            let some : Instr = first_of_list f.before in
            let long : p.0 < length (take f.place N) = omega (arith, length-take f.place N, f.within, t.1) in
            let at : get_or (take f.place N) p.0 0 ≡ b = get_or-take f.place N p.0 0 t.1 ∙ p.2 in
            absurd (ok_err (get_or f.before p.0 some) other (sym (at_same linked code f.before (take f.place N) p.0 some f.fine long) ∙ ap (look linked code) at ∙ q))
      ];
}
  where
    first_of_list : List Instr → Instr
    first_of_list [] = Rattle.rv_decode.specs.declared.instruction.Instr.TheVariants.Ecall
    first_of_list (i ∷ is) = i

    no_less : (j k b : ℕ) → j ≤ k → k < length N → get_or N k 0 ≡ b → b < get_or N j 0 → ⊥
    no_less j k b le l at lt = elim (leb_tells k j) [
      | inl t ↦ (let same : k ≡ j = omega (arith, t.1) in let q : get_or N k 0 ≡ get_or N j 0 = ap (λ z. get_or N z 0) same in omega arith)
      | inr t ↦ (let more = up.below j k t.1 l in omega arith)
    ]

pub refused_by_fault : (linked : Bool) (code : Bytes) (e : ℕ) (N : List ℕ) (f : FlowFault) → IsReach (Next linked code) e N → IsRising N → length N ≤ reach_limit → HasFault linked code N f → IsRefused linked code e f
refused_by_fault linked code e N (Outside why) r up few h = Least (reach_few (Next linked code) e reach_limit N r few) (least_fault linked code e N why r up h)
refused_by_fault linked code e N NoMemory r up few h = tt

pub edges_up : (linked : Bool) (code : Bytes) (nodes : List ℕ) (u : ℕ) (ts : List ℕ) (es : List (ℕ × ℕ)) → 0 < u → u ≤ length nodes → ts ≡ next linked code (get_or nodes (u - 1) 0) → es ≡ edges_from (next linked code) nodes u (drop u nodes)
    → map (edge_to nodes (u - 1)) ts ++ es ≡ edges_from (next linked code) nodes (u - 1) (drop (u - 1) nodes)
edges_up linked code nodes u ts es some upto t e =
    let up : u ≡ (u - 1) + 1 = omega arith in
    (λ i. map (edge_to nodes (u - 1)) (t i) ++ (e ∙ ap (λ k. edges_from (next linked code) nodes k (drop k nodes)) up) i)
    ∙ sym (edges_down (next linked code) nodes (u - 1) (omega arith))

pub none_holds : {A : Type 0} (o : Option A) (P : Type 0) → o ≡ None → IfNone o P → P
none_holds None P e h = h
none_holds (Some x) P e h = absurd (cc)

pub some_holds : {A : Type 0} (o : Option A) (P : A → Type 0) (x : A) → o ≡ Some x → IfSome o P → P x
some_holds None P x e h = absurd (cc)
some_holds (Some y) P x e h = subst P (let q : y ≡ x = cc in q) h

-- what was built is the graph
pub graph_of : (linked : Bool) (code : Bytes) (e : ℕ) (nodes ws : List ℕ) (is : List Instr) (es : List (ℕ × ℕ)) (n : ℕ) → IsReach (Next linked code) e nodes → IsRising nodes → length nodes ≤ reach_limit → map (λ w. Some w) ws ≡ map (number_in code) nodes → map (λ i. Ok i) is ≡ map (look linked code) nodes
    → es ≡ edges_from (next linked code) nodes 0 nodes → n ≡ number nodes e → IsGraphOf linked code e (record { entry = n; addrs = nodes; numbers = ws; instrs = is; edges = es })
graph_of linked code e nodes ws is es n r up few numbers same edges entry = record { reach = r; rising = up; few = few; numbers = numbers; instrs = same; edges = edges; entry = entry }

-- the exit of a `?`
pub exit_with : {X : Type 0} (r : Result X FlowFault) (e : FlowFault) (Q : FlowFault → Type 0) → IsErrAnd r (λ y. y ≡ e) → Q e → IfErr r Q
exit_with (Ok x) e Q is q = tt
exit_with (Err y) e Q is q = subst Q (sym is) q
