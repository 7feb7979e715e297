-- A graph has few parts, and small numbers.
use Rattle.std.proofs.Common.{◌≡◌, ℕ, zero, suc, ◌+◌, ◌*◌, ◌^◌, ◌<◌, ◌≤◌, List, [], ◌∷◌, map, length, get_or, Bool, true, false, cond, eqb, leb, ltb, nat_eq, refl, sym, ap, subst, ◌∙◌, arith, Option, None, Some, option_map, inl, inr}
use Rattle.std.proofs.lemmas.Bool.{leb-false, leb-true, ltb-true}
use Rattle.std.proofs.lemmas.Bool.Decides.{eqb_tells}
use Rattle.std.proofs.lemmas.Cmp.{nat_eq_equiv}
use Rattle.std.proofs.lemmas.Grind.{get_or_default_zero}
use Rattle.std.proofs.lemmas.List.FromFn.{get_or-range_with_len, length-range_with_len}
use Rattle.std.proofs.lemmas.Map.Keys.{IsDistinct-from_apart}
use Rattle.std.proofs.lemmas.Map.Made.{length-le_from_is_member}
use Rattle.std.proofs.lemmas.Map.Views.{Contains-from_any, exact_unsigned_eq, list_any-from_Contains}
use Rattle.std.proofs.lemmas.Option.{get_or_from_slice_get}
use Rattle.std.specs.Prelude.{slice_get}
use Rattle.std.specs.List.{Contains, list_any, range_with_len}
use Rattle.flow_graph.specs.Flow.{called_by}
use Rattle.rv_words.specs.Bytes.{Bytes}
use Rattle.rv_decode.specs.declared.instruction.Instr.{Instr}
use Rattle.rv_decode.specs.declared.instruction.Instr.TheVariants as instr
use Rattle.instr_axioms.specs.Terms.{has_memory}
use Rattle.flow_graph.specs.Graph.{GraphOf, IsGraphOf}
use Rattle.flow_graph.proofs.ExactLemmas.{graph_numbers}
use Rattle.rvc.proofs.NumberLemmas.{number_in-is}
use Rattle.loop_forest.specs.Forest.{ForestOf, IsForestOf, exits_of, number_of}
use Rattle.code_parts.specs.declared.part.Part.{Part}
use Rattle.code_parts.specs.declared.part.Part.TheVariants.{Loop, Rest}
use Rattle.code_parts.specs.Bodies.{Flow}
use Rattle.code_parts.specs.declared.callee.Callee.{Callee}
use Rattle.code_parts.specs.Graph.{IsPart, IsSmall}
use Rattle.code_parts.specs.Flows.{IsSetFor, Context, alone, flow_of, unlinked}
use Rattle.code_parts.specs.Order.{AreParts}
use Rattle.code_parts.proofs.Lists.{contains-cases, here, later, length-map, rising-short, slice-mapped, slice-there}
use Rattle.code_parts.proofs.FlowGraph.{flow, walks}
use Rattle.code_parts.proofs.FlowCode.{long-enough}
use Rattle.code_parts.proofs.FlowMade.{set-alone}
use Rattle.code_parts.proofs.FlowOrder.{never-before, part-at, place-below}

-- ---- lists of different numbers

range-has : (n q : ℕ) → q < n → Contains (range_with_len 0 n) q
range-has n q lt =
    let long = length-range_with_len 0 n in
    let none : 0 + q ≡ q = omega arith in
    (q, omega (arith, lt, long), get_or-range_with_len 0 n q q lt ∙ none)

below-few : (xs : List ℕ) (n : ℕ) → ((i j d : ℕ) → i < j → j < length xs → eqb (get_or xs i d) (get_or xs j d) ≡ false) → ((q : ℕ) → Contains xs q → q < n) → length xs ≤ n
below-few xs n apart low =
    let le = length-le_from_is_member nat_eq_equiv xs (range_with_len 0 n) (IsDistinct-from_apart nat_eq xs apart)
    (λ q h. list_any-from_Contains nat_eq_equiv q (range_with_len 0 n) (range-has n q (low q (Contains-from_any exact_unsigned_eq q xs h)))) in
    let long = length-range_with_len 0 n in
    omega (arith, le, long)

mapped-has : {A B : Type 0} (h : A → B) (xs : List A) (q : B) → Contains (map h xs) q → (x : A) × Contains xs x × (h x ≡ q)
mapped-has h [] q c = absurd (omega (arith, c.1))
mapped-has h (x ∷ xs) q c = contains-cases (h x) (map h xs) q c (λ e. (x, here x xs, e)) (λ d. let r = mapped-has h xs q d in (r.0, later x xs r.0 r.1, r.2))

-- ---- parts

-- each part has a number of its own: those of loops, and then those of nodes
abbrev part_number : ℕ → Part → ℕ
part_number loops (Loop l) = l
part_number loops (Rest r n) = loops + n

module _ (f : Flow) (left : ℕ → ℕ) (parts : List Part) (order : AreParts f left parts) where
  number-low : (p : Part) → IsPart f p → part_number f.loops p < f.loops + f.nodes
  number-low (Loop l) there = omega (arith, there)
  number-low (Rest r n) there = let lt = there.0 in omega (arith, lt)

  number-is : (p q : Part) → IsPart f p → IsPart f q → part_number f.loops p ≡ part_number f.loops q → p ≡ q
  number-is (Loop l) (Loop k) x y e = ap Loop e
  number-is (Loop l) (Rest r n) x y e = absurd (omega (arith, x, e))
  number-is (Rest r n) (Loop l) x y e = absurd (omega (arith, y, e))
  number-is (Rest r n) (Rest q m) x y e =
      let same : n ≡ m = omega (arith, e) in
      let region = sym x.2 ∙ ap f.around same ∙ y.2 in
      λ i. Rest (region i) (same i)

  different : (i j d : ℕ) → i < j → j < length (map (part_number f.loops) parts) → eqb (get_or (map (part_number f.loops) parts) i d) (get_or (map (part_number f.loops) parts) j d) ≡ false
  different i j d lt low = elim (eqb_tells (get_or (map (part_number f.loops) parts) i d) (get_or (map (part_number f.loops) parts) j d)) [ inl t ↦ absurd (clash t.1) | inr t ↦ t.0 ]
    where
      long : length (map (part_number f.loops) parts) ≡ length parts
      long = length-map (part_number f.loops) parts

      p : (x : Part) × (slice_get parts i ≡ Some x)
      p = slice-there parts i (omega (arith, lt, low, long))

      q : (x : Part) × (slice_get parts j ≡ Some x)
      q = slice-there parts j (omega (arith, low, long))

      at : (k : ℕ) (x : Part) → slice_get parts k ≡ Some x → get_or (map (part_number f.loops) parts) k d ≡ part_number f.loops x
      at k x e = get_or_from_slice_get (map (part_number f.loops) parts) k (part_number f.loops x) d (slice-mapped (part_number f.loops) parts k x e)

      clash : get_or (map (part_number f.loops) parts) i d ≡ get_or (map (part_number f.loops) parts) j d → ⊥
      clash e =
          let one = number-is p.0 q.0 (part-at f left parts order i p.0 p.1).0 (part-at f left parts order j q.0 q.1).0 (sym (at i p.0 p.1) ∙ e ∙ at j q.0 q.1) in
          never-before f left order.depth q.0 (order.ordered i j q.0 q.0 lt (p.1 ∙ ap Some one) q.1)

  pub parts-few : length parts ≤ f.loops + f.nodes
  parts-few =
      let few = below-few (map (part_number f.loops) parts) (f.loops + f.nodes) different (λ q c.
      let x = mapped-has (part_number f.loops) parts q c in
      let low = number-low x.0 ((order.all x.0).0 x.1) in
      subst (λ n. n < f.loops + f.nodes) x.2 low) in
      let long = length-map (part_number f.loops) parts in
      omega (arith, few, long)

-- ---- numbers

all-below : (xs : List ℕ) (b : ℕ) → 0 < b → ((k : ℕ) → k < length xs → get_or xs k 0 < b) → (n : ℕ) → get_or xs n 0 < b
all-below [] b some each n = some
all-below (x ∷ xs) b some each zero = each 0 (omega arith)
all-below (x ∷ xs) b some each (suc n) = all-below xs b some (λ k lt. each (suc k) (omega (arith, lt))) n

module _ (linked : Bool) (code : Bytes) (entry : ℕ) (g : GraphOf) (f : ForestOf) (s : Context) (graph : IsGraphOf linked code entry g) (forest : IsForestOf g f)
    (order : AreParts (flow_of g f s) (number_of f) s.parts) where
  -- heads are nodes, and differ
  heads-few : length f.heads ≤ length g.addrs
  heads-few = below-few f.heads (length g.addrs) apart (λ h c. low h c)
    where
      apart : (i j d : ℕ) → i < j → j < length f.heads → eqb (get_or f.heads i d) (get_or f.heads j d) ≡ false
      apart i j d lt long = elim (eqb_tells (get_or f.heads i d) (get_or f.heads j d)) [
        | inl t ↦ (
            let up = forest.rising.below i j lt long in
            let same : get_or f.heads i 0 ≡ get_or f.heads j 0 = sym (get_or_default_zero f.heads i d (omega (arith, lt, long))) ∙ t.1 ∙ get_or_default_zero f.heads j d long in
            absurd (omega (arith, up, same)))
        | inr t ↦ t.0
      ]

      low : (h : ℕ) → Contains f.heads h → h < length g.addrs
      low h c =
          let is : get_or f.heads c.0 0 ≡ h = sym (get_or_default_zero f.heads c.0 h c.1) ∙ c.2 in
          subst (λ n. n < length g.addrs) is ((walks linked code entry g f s graph forest).head c.0 c.1).0

  -- at most a loop and a rest for each node
  pub parts-twice : length s.parts ≤ 2 * length g.addrs
  parts-twice =
      let few = parts-few (flow_of g f s) (number_of f) s.parts order in
      let heads = heads-few in
      omega (arith, few, heads)

  pub parts-fit : length s.parts ≤ 4096
  parts-fit =
      let few = parts-twice in
      let nodes = (flow linked code entry g f s graph forest).few in
      omega (arith, few, nodes)

  -- where a function has at most two memories, and definitions with low numbers before its own and for what it calls
  pub is-small : IsSetFor g s → s.mems ≤ 2 → s.base + 4096 < 2 ^ 32 → ((n : ℕ) (c : Callee) → (flow_of g f s).callee n ≡ Some c → c.def < 2 ^ 32) → IsSmall (flow_of g f s)
  is-small fits two base called = record {
    regs = (let short = rising-short 1 s.regs (omega arith) fits.rise in omega (arith, short));
    exits = λ l. exit-few l (ltb l (length f.heads)) refl;
    addr = all-below g.addrs (2 ^ 64) (omega arith) (λ n lt. let low = below n lt in omega (arith, low));
    number = λ q. let low = place-below s.parts q in let few = parts-fit in omega (arith, low, few, base);
    mems = two;
    uses = λ n e. uses-of n e (leb (length g.addrs) n) refl;
    callee = called;
  }
    where
      -- behind the last node there is no access
      past : (xs : List Instr) (n : ℕ) → length xs ≤ n → get_or xs n instr.Ebreak ≡ instr.Ebreak
      past [] n le = refl
      past (x ∷ xs) zero le = absurd (omega arith)
      past (x ∷ xs) (suc n) le = past xs n (omega (arith, le))

      uses-of : (n : ℕ) → has_memory (get_or g.instrs n instr.Ebreak) ≡ true → (t : Bool) → leb (length g.addrs) n ≡ t → s.uses (get_or g.addrs n 0) < s.mems
      uses-of n e true is =
          let long = (flow linked code entry g f s graph forest).as_long in
          let le = leb-true (length g.addrs) n is in
          let none : has_memory instr.Ebreak ≡ true = (λ j. has_memory (sym (past g.instrs n (omega (arith, le, long))) j)) ∙ e in absurd (cc)
      uses-of n e false is = let lt = leb-false (length g.addrs) n is in fits.uses n (omega (arith, lt)) e

      exit-few : (l : ℕ) (t : Bool) → ltb l (length f.heads) ≡ t → length (cond t (exits_of f l) []) ≤ 8
      exit-few l true is = forest.few l (ltb-true l (length f.heads) is)
      exit-few l false is = omega arith

      below : (n : ℕ) → n < length g.addrs → get_or g.addrs n 0 + 2 ≤ 2 ^ 64
      below n lt =
          let room = ((number_in-is code (get_or g.addrs n 0) (get_or g.numbers n 0)).0 (graph_numbers linked code entry g n graph lt)).1 in
          omega (arith, room, long-enough (get_or g.numbers n 0))

-- .. of a function alone
pub small-alone : (code : Bytes) (entry : ℕ) (g : GraphOf) (f : ForestOf) (parts : List Part) → IsGraphOf false code entry g → IsForestOf g f → AreParts (flow_of g f (alone g parts)) (number_of f) parts → IsSmall (flow_of g f (alone g parts))
small-alone code entry g f parts graph forest order =
    is-small false code entry g f (alone g parts) graph forest order (set-alone g parts) (two (list_any has_memory g.instrs)) (omega arith) (λ n c e. called (called_by (get_or g.addrs n 0) (get_or g.instrs n instr.Ebreak)) c e)
  where
    two : (b : Bool) → cond b 1 0 ≤ 2
    two true = omega arith
    two false = omega arith

    called : (o : Option ℕ) (c : Callee) → option_map unlinked o ≡ Some c → c.def < 2 ^ 32
    called None c e = absurd (cc)
    called (Some t) c e = let same : unlinked t ≡ c = cc in subst (λ (z : Callee). z.def < 2 ^ 32) same (omega arith)
