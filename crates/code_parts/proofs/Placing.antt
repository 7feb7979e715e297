-- Functions are placed one behind the other.
use Rattle.std.proofs.Common.{◌≡◌, ℕ, ◌+◌, ◌<◌, List, [], ◌∷◌, ◌++◌, map, take, length, get_or, refl, sym, ap, ◌∙◌, arith, subst, None, cond}
use Rattle.std.proofs.lemmas.List.{map_push, take_more}
use Rattle.std.proofs.lemmas.List.Elements.{All-nil, All-push}
use Rattle.std.specs.List.{All}
use Rattle.loop_forest.specs.Forest.{IsForestOf}
use Rattle.code_parts.specs.declared.linked_function.Function.{Function}
use Rattle.code_parts.specs.declared.callee.Callee.{Callee}
use Rattle.code_parts.specs.declared.part.Part.TheVariants.{Rest}
use Rattle.code_parts.specs.Flows.{alone, place_in}
use Rattle.code_parts.specs.Kept.{IsReachedBy}
use Rattle.code_parts.proofs.FlowEntry.{last-is}
use Rattle.code_parts.specs.Groups.{AreCodeOfAll, HasOrderedParts, IsLinkedGroup, called_as, is_register_of, load_or_store, member_in}
use Rattle.code_parts.specs.inner.Placing.{ArePlaced, ArePlacedFrom}
use Rattle.code_parts.specs.declared.linked.LinkedFunction.{LinkedFunction}
use Rattle.code_parts.specs.declared.linked.LinkedGroup.{LinkedGroup}
use Rattle.code_parts.specs.Members.{AreBased}
use Rattle.rv_decode.specs.Registers.{registers_where}

-- the rest of the whole is the last part
pub whole-last : (f : LinkedFunction) → IsReachedBy f.function.now.graph → IsForestOf f.function.now.graph f.function.now.forest → HasOrderedParts f → length f.parts ≡ place_in f.parts (Rest None f.function.now.graph.entry) + 1
whole-last f reached forest parts =
    last-is reached.0 reached.1.code reached.1.entry f.function.now.graph f.function.now.forest (alone f.function.now.graph f.parts) reached.1.is forest parts

placed-push : (base end next : ℕ) (fs : List LinkedFunction) (f : LinkedFunction) → ArePlacedFrom base end fs → f.base ≡ end → next ≡ f.base + length f.parts → ArePlacedFrom base next (fs ++ f ∷ [])
placed-push base end next [] f h at long = (at ∙ sym h, omega (arith, h, at, long))
placed-push base end next (x ∷ fs) f h at long = (h.0, placed-push (base + length x.parts) end next fs f h.1 at long)

pub none-placed : ArePlaced [] [] [] 0
none-placed = record { functions = refl; parts = All-nil HasOrderedParts; based = refl; calls = refl }

-- one more
pub placed-more : (fs : List Function) (i : ℕ) (xs ys : List LinkedFunction) (cs ds : List Callee) (n next : ℕ) (f : LinkedFunction) (c : Callee) (d : Function) → ArePlaced (take i fs) xs cs n → i < length fs
    → f.function.now ≡ get_or fs i d → HasOrderedParts f → f.base ≡ n → next ≡ f.base + length f.parts → c ≡ called_as f → ys ≡ xs ++ f ∷ [] → ds ≡ cs ++ c ∷ [] → ArePlaced (take (i + 1) fs) ys ds next
placed-more fs i xs ys cs ds n next f c d h lt is parts at long called new more = record {
  functions = ap (map (λ z. z.function.now)) new ∙ map_push (λ z. z.function.now) xs f ∙ (λ j. h.functions j ++ is j ∷ []) ∙ sym (take_more fs i d lt);
  parts = subst (λ (zs : List LinkedFunction). All HasOrderedParts zs) (sym new) (All-push HasOrderedParts xs f h.parts parts);
  based = subst (λ (zs : List LinkedFunction). ArePlacedFrom 0 next zs) (sym new) (placed-push 0 n next xs f h.based at long);
  calls = more ∙ (λ j. h.calls j ++ called j ∷ []) ∙ sym (map_push called_as xs f) ∙ ap (map called_as) (sym new);
}

-- ---- the group

based-members : (s : LinkedGroup) (base end : ℕ) (xs : List LinkedFunction) → ArePlacedFrom base end xs → AreBased base (map (member_in s) xs)
based-members s base end [] h = tt
based-members s base end (x ∷ xs) h = (h.0, based-members s (base + length x.parts) end xs h.1)

pub grouped : (fs : List Function) (s : LinkedGroup) (n : ℕ) → ArePlaced fs s.functions s.callees n → s.regs ≡ registers_where (is_register_of fs) → s.mems ≡ cond (load_or_store fs) 1 0 → AreCodeOfAll fs s.code.ranges → IsLinkedGroup s
grouped fs s n h regs mems code = record {
  parts = h.parts;
  based = based-members s 0 n s.functions h.based;
  callees = h.calls;
  regs = regs ∙ ap (λ (gs : List Function). registers_where (is_register_of gs)) (sym h.functions);
  mems = mems ∙ ap (λ (gs : List Function). cond (load_or_store gs) 1 0) (sym h.functions);
  code = subst (λ (gs : List Function). AreCodeOfAll gs s.code.ranges) (sym h.functions) code;
}
