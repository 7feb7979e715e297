-- What the flow of one of several linked functions rests on.
use Rattle.std.proofs.Common.{◌≡◌, ℕ, suc, ◌+◌, ◌*◌, ◌^◌, ◌<◌, ◌≤◌, Bool, true, false, cond, eqb, List, [], ◌∷◌, map, length, get_or, refl, sym, arith, subst, Option, Some, None}
use Rattle.std.specs.Prelude.{option_map}
use Rattle.std.specs.List.{Contains, list_any, range_with_len, sum_by}
use Rattle.std.proofs.lemmas.List.Sums.{sum_by-cons}
use Rattle.rv_words.specs.Bytes.{AreBytes, Bytes}
use Rattle.rv_decode.specs.Registers.{registers_where}
use Rattle.rv_decode.specs.declared.instruction.Instr.TheVariants.{Ebreak}
use Rattle.rv_words.specs.Ranges.{range_bytes}
use Rattle.sep_assert.specs.Code.{IsWithin}
use Rattle.tailrec_lang.specs.Registers.{AreRegistersFrom}
use Rattle.instr_axioms.specs.Axiom.{is_own}
use Rattle.instr_axioms.specs.Terms.{has_memory}
use Rattle.flow_graph.specs.Flow.{called_by}
use Rattle.flow_graph.specs.Graph.{GraphOf}
use Rattle.flow_graph.proofs.FlowLemmas.{is_flow}
use Rattle.loop_forest.specs.Forest.{ForestOf, number_of}
use Rattle.code_parts.specs.Functions.{AreFunctions, IsLinkedFunction, size_of}
use Rattle.code_parts.specs.declared.callee.Callee.{Callee}
use Rattle.code_parts.specs.declared.part.Part.{Part}
use Rattle.code_parts.specs.declared.part.Part.TheVariants.{Loop, Rest}
use Rattle.code_parts.specs.Graph.{IsPart, IsSmall}
use Rattle.code_parts.specs.Flows.{HaveCode, HaveInstructions, IsReached, IsSetFor, Context, alone, flow_of, function_at, place_in, context_of, unlinked}
use Rattle.code_parts.specs.Members.{AreBased, IsMember, flow_at}
use Rattle.code_parts.specs.Order.{AreParts, StandsBefore}
use Rattle.code_parts.proofs.CodeOf.{have_bytes}
use Rattle.code_parts.proofs.FlowGraph.{any-at}
use Rattle.code_parts.proofs.FlowSize.{is-small, parts-twice}
use Rattle.code_parts.proofs.GraphCode.{in-code}
use Rattle.code_parts.proofs.Lists.{contains-cases}
use Rattle.code_parts.proofs.Registers.{filter-rise}
use Rattle.code_parts.proofs.Contexts.{entered-at}
use Rattle.code_parts.proofs.Joining.{reached-by}
use Rattle.code_parts.proofs.ListItems.{any-of, filter-more, held, in-map, out-map}
use Rattle.code_parts.proofs.Placing.{whole-last}
use Rattle.code_parts.specs.Groups.{AreSomeFunctions, HasOrderedParts, IsLinkedGroup, called_as, functions_of, is_register_of, load_or_store, member_in, context_in}
use Rattle.code_parts.specs.declared.linked.LinkedFunction.{LinkedFunction}
use Rattle.code_parts.specs.declared.linked.LinkedGroup.{LinkedGroup}

-- ---- the order of parts doesn't depend on the context

part-in : (g : GraphOf) (f : ForestOf) (s t : Context) (p : Part) → IsPart (flow_of g f s) p → IsPart (flow_of g f t) p
part-in g f s t (Loop l) h = h
part-in g f s t (Rest r n) h = h

stands-in : (g : GraphOf) (f : ForestOf) (s t : Context) (left : ℕ → ℕ) (depth : Option ℕ → ℕ) (p q : Part) → StandsBefore (flow_of g f s) left depth p q → StandsBefore (flow_of g f t) left depth p q
stands-in g f s t left depth (Loop l) (Loop k) h = h
stands-in g f s t left depth (Loop l) (Rest r n) h = h
stands-in g f s t left depth (Rest r n) (Loop l) h = h
stands-in g f s t left depth (Rest r n) (Rest q m) h = h

pub in-context : (g : GraphOf) (f : ForestOf) (s t : Context) (left : ℕ → ℕ) (parts : List Part) → AreParts (flow_of g f s) left parts → AreParts (flow_of g f t) left parts
in-context g f s t left parts h = record {
  depth = h.depth;
  outside = h.outside;
  deeper = h.deeper;
  all = λ p. ((λ c. part-in g f s t p ((h.all p).0 c)), (λ there. (h.all p).1 (part-in g f t s p there)));
  ordered = λ j k p q lt a b. stands-in g f s t left h.depth p q (h.ordered j k p q lt a b);
}

-- ---- registers

where-rise : (test : ℕ → Bool) → AreRegistersFrom 1 (registers_where test)
unfolding registers_where
where-rise test = filter-rise test 1 31 (omega arith)

where-more : (p q : ℕ → Bool) → ((r : ℕ) → p r ≡ true → q r ≡ true) → (r : ℕ) → Contains (registers_where p) r → Contains (registers_where q) r
unfolding registers_where
where-more p q on r c = filter-more p q on (range_with_len 1 31) r c

-- ---- numbers of definitions

abbrev pub parts_of_all : List LinkedFunction → ℕ
parts_of_all fs = sum_by (λ f. length f.parts) fs

based-low : (s : LinkedGroup) (base : ℕ) (fs : List LinkedFunction) → AreBased base (map (member_in s) fs) → (f : LinkedFunction) → Contains fs f → f.base + length f.parts ≤ base + parts_of_all fs
based-low s base [] based f c = absurd (omega (arith, c.1))
based-low s base (x ∷ fs) based f c =
    contains-cases x fs f c
    (λ same. subst (λ (z : LinkedFunction). z.base + length z.parts ≤ base + parts_of_all (x ∷ fs)) same (let b = based.0 in let sum = sum_by-cons (λ (f : LinkedFunction). length f.parts) x fs in omega (arith, b, sum)))
    (λ d. let low = based-low s (base + length x.parts) fs based.1 f d in let sum = sum_by-cons (λ (f : LinkedFunction). length f.parts) x fs in omega (arith, low, sum))

pub sum-low : (fs : List LinkedFunction) → ((f : LinkedFunction) → Contains fs f → length f.parts ≤ 2 * length f.function.now.graph.addrs) → parts_of_all fs ≤ 2 * sum_by size_of (map (λ f. f.function.now) fs)
sum-low [] each = omega arith
sum-low (x ∷ fs) each =
    let one = each x (0, omega arith, refl) in
    let rest = sum-low fs (λ f c. each f (suc c.0, (let lt = c.1 in omega (arith, lt)), c.2)) in
    let sum = sum_by-cons (λ (f : LinkedFunction). length f.parts) x fs in
    let sizes = sum_by-cons size_of x.function.now (map (λ (f : LinkedFunction). f.function.now) fs) in
    omega (arith, one, rest, sum, sizes)

-- what holds of each of these functions, and of none, holds of the one at an address
function-holds : (P : Callee → Type 0) (cs : List Callee) (t : ℕ) → ((c : Callee) → Contains cs c → P c) → P (unlinked t) → P (function_at cs t)
function-holds P [] t each none = none
function-holds P (x ∷ cs) t each none = go (eqb x.entry t) (function-holds P cs t (λ c d. each c (suc d.0, (let lt = d.1 in omega (arith, lt)), d.2)) none)
  where
    go : (b : Bool) → P (function_at cs t) → P (cond b x (function_at cs t))
    go true rest = each x (0, omega arith, refl)
    go false rest = rest

module _ (code : Bytes) (e : ℕ) (bytes : AreBytes code) (s : LinkedGroup) (are : AreFunctions code e (functions_of s)) (is : IsLinkedGroup s) where
  pub linked-of : (f : LinkedFunction) → Contains s.functions f → IsLinkedFunction code f.function.now
  linked-of f c = held (IsLinkedFunction code) (functions_of s) f.function.now are.linked (in-map (λ z. z.function.now) s.functions f c)

  abbrev pub reached-of : (f : LinkedFunction) → Contains s.functions f → IsReached true f.function.now.graph
  reached-of f c = record { code = code; entry = f.function.now.entry; bytes = bytes; is = (linked-of f c).graph }

  pub parts-of : (f : LinkedFunction) → Contains s.functions f → HasOrderedParts f
  parts-of f c = held HasOrderedParts s.functions f is.parts c

  pub last-of : (f : LinkedFunction) → Contains s.functions f → length f.parts ≡ place_in f.parts (Rest None f.function.now.graph.entry) + 1
  last-of f c = whole-last f (true, reached-of f c) (linked-of f c).forest (parts-of f c)

  -- the context fits
  pub set-of : (f : LinkedFunction) → Contains s.functions f → IsSetFor f.function.now.graph (context_of (context_in s f))
  set-of f c = record {
    rise = subst (λ (rs : List ℕ). AreRegistersFrom 1 rs) (sym is.regs) (where-rise (is_register_of (functions_of s)));
    regs = λ r d. subst (λ (rs : List ℕ). Contains rs r) (sym is.regs)
        (where-more (λ r. list_any (λ i. is_own i r) f.function.now.graph.instrs) (is_register_of (functions_of s))
        (λ r own. any-of (λ z. list_any (λ i. is_own i r) z.graph.instrs) (functions_of s) f.function.now (in-map (λ z. z.function.now) s.functions f c) own) r d);
    uses = λ n lt own. some (load_or_store (functions_of s)) is.mems (accesses n lt own);
    functions = λ a. entered-at s.callees a;
  }
    where
      accesses : (n : ℕ) → n < length f.function.now.graph.addrs → has_memory (get_or f.function.now.graph.instrs n Ebreak) ≡ true → load_or_store (functions_of s) ≡ true
      accesses n lt own =
          let long = (is_flow true code f.function.now.entry f.function.now.graph (linked-of f c).graph).as_long in
          any-of (λ z. list_any has_memory z.graph.instrs) (functions_of s) f.function.now (in-map (λ z. z.function.now) s.functions f c)
          (any-at has_memory f.function.now.graph.instrs n Ebreak (omega (arith, lt, long)) own)

      some : (t : Bool) → s.mems ≡ cond t 1 0 → t ≡ true → 0 < s.mems
      some true m own = omega (arith, m)
      some false m own = absurd (cc)

  -- the code has the instructions
  pub instructions-of : (f : LinkedFunction) → Contains s.functions f → HaveInstructions f.function.now.graph s.code.ranges
  instructions-of f c = record { order = is.code.order; each = λ n lt. is.code.each f.function.now n (in-map (λ z. z.function.now) s.functions f c) lt }

  pub have-of : (f : LinkedFunction) → Contains s.functions f → HaveCode f.function.now.graph code s.code.ranges
  have-of f c = have_bytes true f.function.now.graph (reached-of f c) s.code.ranges (instructions-of f c)

  pub order-of : (f : LinkedFunction) → Contains s.functions f → AreParts (flow_at (member_in s f)) (number_of f.function.now.forest) f.parts
  order-of f c = in-context f.function.now.graph f.function.now.forest (alone f.function.now.graph f.parts) (context_of (context_in s f)) (number_of f.function.now.forest) f.parts (parts-of f c)

  pub member-of : (f : LinkedFunction) → Contains s.functions f → IsMember true code s.code.ranges (member_in s f)
  member-of f c = record { graph = (linked-of f c).graph; forest = (linked-of f c).forest; order = order-of f c; fits = set-of f c; bytes = have-of f c }

  pub all-low : parts_of_all s.functions ≤ 2048
  all-low =
      let low = sum-low s.functions (λ f c. parts-twice true code f.function.now.entry f.function.now.graph f.function.now.forest (alone f.function.now.graph f.parts) (linked-of f c).graph (linked-of f c).forest (parts-of f c)) in
      let few = are.few in
      omega (arith, low, few)

  pub base-low : (f : LinkedFunction) → Contains s.functions f → f.base + length f.parts ≤ 2048
  base-low f c = let low = based-low s 0 s.functions is.based f c in let few = all-low in omega (arith, low, few)

  callee-low : (t : ℕ) → (function_at s.callees t).def < 2 ^ 32
  callee-low t =
      function-holds (λ c. c.def < 2 ^ 32) s.callees t
      (λ c d. let r = out-map called_as s.functions c (subst (λ (cs : List Callee). Contains cs c) is.callees d) in
      subst (λ (z : Callee). z.def < 2 ^ 32) r.2 (let last = last-of r.0 r.1 in let low = base-low r.0 r.1 in omega (arith, last, low)))
      (omega arith)

  pub small-of : (f : LinkedFunction) → Contains s.functions f → IsSmall (flow_at (member_in s f))
  small-of f c =
      is-small true code f.function.now.entry f.function.now.graph f.function.now.forest (context_of (context_in s f)) (linked-of f c).graph (linked-of f c).forest (order-of f c) (set-of f c)
      (two (load_or_store (functions_of s)) is.mems) (let low = base-low f c in omega (arith, low))
      (λ n d own. called (called_by (get_or f.function.now.graph.addrs n 0) (get_or f.function.now.graph.instrs n Ebreak)) d own)
    where
      two : (t : Bool) → s.mems ≡ cond t 1 0 → s.mems ≤ 2
      two true m = omega (arith, m)
      two false m = omega (arith, m)

      called : (o : Option ℕ) (d : Callee) → option_map (λ a. function_at s.callees a) o ≡ Some d → d.def < 2 ^ 32
      called None d own = absurd (cc)
      called (Some t) d own = let same : function_at s.callees t ≡ d = cc in subst (λ (z : Callee). z.def < 2 ^ 32) same (callee-low t)

  pub within-code : IsWithin (range_bytes s.code.ranges) code
  within-code a b own =
      let at = is.code.only a b own in
      let some : AreSomeFunctions (functions_of s) = record { code = code; entry = e; bytes = bytes; are = are } in
      in-code true at.0.graph (reached-by (functions_of s) some at.0 at.1) at.2.0 at.2.1 a b at.2.2
