-- What a function of a group calls stands before it.
use Rattle.std.proofs.Common.{◌≡◌, ℕ, zero, suc, ◌+◌, ◌<◌, ◌≤◌, Bool, true, false, cond, eqb, List, [], ◌∷◌, ◌++◌, map, length, get_or, refl, sym, ap, ◌∙◌, arith, subst, Option, Some, None, append_assoc, eq-eqb, eqb-true}
use Rattle.std.specs.Prelude.{slice_get, option_map}
use Rattle.std.specs.List.{Contains}
use Rattle.std.proofs.lemmas.List.{map_push}
use Rattle.std.proofs.lemmas.Option.{get_or_from_slice_get}
use Rattle.rv_words.specs.Bytes.{AreBytes, Bytes}
use Rattle.rv_decode.specs.declared.instruction.Instr.TheVariants.{Ebreak}
use Rattle.flow_graph.specs.Flow.{called_by}
use Rattle.code_parts.specs.Functions.{AreFunctions, entries_of}
use Rattle.code_parts.proofs.OneAnswer.{callee_before}
use Rattle.code_parts.specs.declared.callee.Callee.{Callee}
use Rattle.code_parts.specs.Flows.{function_at}
use Rattle.code_parts.specs.Members.{AreBased, CallsBefore, Member, callee_at, flow_at}
use Rattle.code_parts.proofs.AnyOf.{slice-below}
use Rattle.code_parts.proofs.Lists.{slice-mapped}
use Rattle.code_parts.proofs.ListItems.{in-map, slice-contains, slice-front, slice-middle, slice-unmapped}
use Rattle.code_parts.proofs.LinkedContexts.{last-of}
use Rattle.code_parts.specs.Groups.{IsLinkedGroup, called_as, functions_of, member_in, members_of}
use Rattle.code_parts.specs.declared.linked.LinkedFunction.{LinkedFunction}
use Rattle.code_parts.specs.declared.linked.LinkedGroup.{LinkedGroup}

-- the first function that is entered there
find : (fs : List LinkedFunction) (j : ℕ) (y : LinkedFunction) (t : ℕ) → slice_get fs j ≡ Some y → y.function.now.entry ≡ t
    → ((i : ℕ) (z : LinkedFunction) → i < j → slice_get fs i ≡ Some z → z.function.now.entry ≡ t → ⊥) → function_at (map called_as fs) t ≡ called_as y
find [] j y t at e none = absurd (cc)
find (x ∷ fs) zero y t at e none =
    let same : x ≡ y = cc in
    let is : eqb x.function.now.entry t ≡ true = eq-eqb x.function.now.entry t (ap (λ (z : LinkedFunction). z.function.now.entry) same ∙ e) in
    (λ i. cond (is i) (called_as x) (function_at (map called_as fs) t)) ∙ ap called_as same
find (x ∷ fs) (suc j) y t at e none = go (eqb x.function.now.entry t) refl (find fs j y t at e (λ i z lt there. none (suc i) z (omega (arith, lt)) there))
  where
    go : (b : Bool) → eqb x.function.now.entry t ≡ b → function_at (map called_as fs) t ≡ called_as y → cond b (called_as x) (function_at (map called_as fs) t) ≡ called_as y
    go true is rest = absurd (none 0 x (omega arith) refl (eqb-true x.function.now.entry t is))
    go false is rest = rest

-- definitions of later functions stand later
based-from : (s : LinkedGroup) (base : ℕ) (fs : List LinkedFunction) → AreBased base (map (member_in s) fs) → (k : ℕ) (f : LinkedFunction) → slice_get fs k ≡ Some f → base ≤ f.base
based-from s base [] based k f at = absurd (cc)
based-from s base (x ∷ fs) based zero f at = let same : x ≡ f = cc in subst (λ (z : LinkedFunction). base ≤ z.base) same (let b = based.0 in omega (arith, b))
based-from s base (x ∷ fs) based (suc k) f at = let low = based-from s (base + length x.parts) fs based.1 k f at in omega (arith, low)

based-rise : (s : LinkedGroup) (base : ℕ) (fs : List LinkedFunction) → AreBased base (map (member_in s) fs) → (j k : ℕ) (y f : LinkedFunction) → j < k → slice_get fs j ≡ Some y → slice_get fs k ≡ Some f → y.base + length y.parts ≤ f.base
based-rise s base [] based j k y f lt at there = absurd (cc)
based-rise s base (x ∷ fs) based j zero y f lt at there = absurd (omega (arith, lt))
based-rise s base (x ∷ fs) based zero (suc k) y f lt at there =
    let same : x ≡ y = cc in
    subst (λ (z : LinkedFunction). z.base + length z.parts ≤ f.base) same (let b = based.0 in let low = based-from s (base + length x.parts) fs based.1 k f there in omega (arith, b, low))
based-rise s base (x ∷ fs) based (suc j) (suc k) y f lt at there = based-rise s (base + length x.parts) fs based.1 j k y f (omega (arith, lt)) at there

-- a function that is called, at a place before
pub record IsCallee (s : LinkedGroup) (k : ℕ) (c : Callee) : Type 0 where
  pub place : ℕ
  pub function : LinkedFunction
  pub before : place < k
  pub at : slice_get s.functions place ≡ Some function
  pub called : c ≡ called_as function

module _ (code : Bytes) (e : ℕ) (s : LinkedGroup) (are : AreFunctions code e (functions_of s)) (is : IsLinkedGroup s) where
  pub entry-at : (i : ℕ) (z : LinkedFunction) → slice_get s.functions i ≡ Some z → get_or (entries_of (functions_of s)) i 0 ≡ z.function.now.entry
  entry-at i z at =
      get_or_from_slice_get (entries_of (functions_of s)) i z.function.now.entry 0
      (slice-mapped (λ f. f.entry) (functions_of s) i z.function.now (slice-mapped (λ f. f.function.now) s.functions i z at))

  entry-within : (i : ℕ) (z : LinkedFunction) → slice_get s.functions i ≡ Some z → i < length (entries_of (functions_of s))
  entry-within i z at =
      slice-below (entries_of (functions_of s)) i z.function.now.entry
      (slice-mapped (λ f. f.entry) (functions_of s) i z.function.now (slice-mapped (λ f. f.function.now) s.functions i z at))

  pub callee-is : (k : ℕ) (f : LinkedFunction) → slice_get s.functions k ≡ Some f → (n t : ℕ) → n < length f.function.now.graph.addrs
      → called_by (get_or f.function.now.graph.addrs n 0) (get_or f.function.now.graph.instrs n Ebreak) ≡ Some t → IsCallee s k (function_at s.callees t)
  callee-is k f at n t lt call =
      let r = callee_before code e (functions_of s) f.function.now k n t are (slice-mapped (λ z. z.function.now) s.functions k f at) lt call in
      let y = slice-unmapped (λ z. z.function.now) s.functions r.0 r.1 r.3 in
      let own : y.0.function.now.entry ≡ t = ap (λ z. z.entry) y.2 ∙ r.4 in
      record {
        place = r.0;
        function = y.0;
        before = r.2;
        at = y.1;
        called = ap (λ cs. function_at cs t) is.callees
            ∙ find s.functions r.0 y.0 t y.1 own
            (λ i z low there same. are.functions.different i r.0 low (entry-within r.0 y.0 y.1) (entry-at i z there ∙ same ∙ sym own ∙ sym (entry-at r.0 y.0 y.1)));
      }

  calls-from : (known rest : List LinkedFunction) → known ++ rest ≡ s.functions → CallsBefore (map (member_in s) known) (map (member_in s) rest)
  calls-from known [] all = tt
  calls-from known (f ∷ rest) all = (first, subst (λ (ms : List Member). CallsBefore ms (map (member_in s) rest)) (map_push (member_in s) known f) (calls-from (known ++ f ∷ []) rest (append_assoc known (f ∷ []) rest ∙ all)))
    where
      there : slice_get s.functions (length known) ≡ Some f
      there = ap (λ fs. slice_get fs (length known)) (sym all) ∙ slice-middle known f rest

      first : (n t : ℕ) → n < length f.function.now.graph.addrs → called_by (get_or f.function.now.graph.addrs n 0) (get_or f.function.now.graph.instrs n Ebreak) ≡ Some t
          → (y : Member) × Contains (map (member_in s) known) y × (function_at s.callees t ≡ callee_at y)
      first n t lt call =
          let r = callee-is (length known) f there n t lt call in
          let at : slice_get known r.place ≡ Some r.function = sym (slice-front known (f ∷ rest) r.place r.before) ∙ ap (λ fs. slice_get fs r.place) all ∙ r.at in
          (member_in s r.function, in-map (member_in s) known r.function (slice-contains known r.place r.function at), r.called)

  -- what a function calls stands before it
  pub calls-before : CallsBefore [] (members_of s)
  calls-before = calls-from [] s.functions refl

-- as its flow tells it, with the number of its definition
pub flow-callee : (code : Bytes) (e : ℕ) (bytes : AreBytes code) (s : LinkedGroup) (are : AreFunctions code e (functions_of s)) (is : IsLinkedGroup s) (k : ℕ) (f : LinkedFunction) → slice_get s.functions k ≡ Some f
    → (n : ℕ) (c : Callee) → n < length f.function.now.graph.addrs → (flow_at (member_in s f)).callee n ≡ Some c → IsCallee s k c × (c.def < f.base)
flow-callee code e bytes s are is k f at n c lt call = go (called_by (get_or f.function.now.graph.addrs n 0) (get_or f.function.now.graph.instrs n Ebreak)) refl call
  where
    low : (d : Callee) → IsCallee s k d → d.def < f.base
    low d r =
        let rise = based-rise s 0 s.functions is.based r.place k r.function f r.before r.at at in
        let last = last-of code e bytes s are is r.function (slice-contains s.functions r.place r.function r.at) in
        subst (λ (z : Callee). z.def < f.base) (sym r.called) (omega (arith, rise, last))

    go : (o : Option ℕ) → called_by (get_or f.function.now.graph.addrs n 0) (get_or f.function.now.graph.instrs n Ebreak) ≡ o → option_map (λ a. function_at s.callees a) o ≡ Some c → IsCallee s k c × (c.def < f.base)
    go None is_none call = absurd (cc)
    go (Some t) is_some call =
        let same : function_at s.callees t ≡ c = cc in
        let r = subst (λ (z : Callee). IsCallee s k z) same (callee-is code e s are is k f at n t lt is_some) in
        (r, low c r)
