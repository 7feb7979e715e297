-- The code of several functions is joined one after the other.
use Rattle.std.proofs.Common.{◌≡◌, ℕ, ◌+◌, ◌<◌, true, List, [], ◌∷◌, ◌++◌, take, length, get_or, refl, sym, ap, ◌∙◌, arith, subst, inl, inr}
use Rattle.std.specs.List.{Contains}
use Rattle.std.proofs.lemmas.List.{take_more}
use Rattle.std.proofs.lemmas.List.Elements.{Contains-append_left, Contains-append_right}
use Rattle.rv_words.specs.Bytes.{Bytes}
use Rattle.rv_words.specs.declared.range.Range.{Range}
use Rattle.rv_words.specs.Ranges.{range_bytes}
use Rattle.sep_assert.specs.Code.{Agree, IsWithin}
use Rattle.code_parts.specs.Functions.{IsLinkedFunction}
use Rattle.code_parts.specs.declared.linked_function.Function.{Function}
use Rattle.code_parts.specs.Flows.{AreCodeOf, IsReached, node_code}
use Rattle.code_parts.proofs.GraphCode.{code_in, in-code, over-cases, over-left, over-right, same-some}
use Rattle.code_parts.proofs.ListItems.{contained, held, in-push, in-taken}
use Rattle.code_parts.specs.Groups.{AreCodeOfAll, AreSomeFunctions}
use Rattle.code_parts.specs.inner.Joining.{IsJoined}

-- a function of these, as the graph of some code
abbrev pub reached-by : (fs : List Function) (some : AreSomeFunctions fs) (f : Function) → Contains fs f → IsReached true f.graph
reached-by fs some f c = record {
  code = some.code;
  entry = f.entry;
  bytes = some.bytes;
  is = (held (IsLinkedFunction some.code) fs f some.are.linked c).graph;
}

pub no-code : AreCodeOfAll [] []
no-code = record { order = tt; each = λ f n c lt. absurd (omega (arith, c.1)); only = λ a b e. absurd (cc) }

module _ (fs : List Function) (some : AreSomeFunctions fs) where
  taken-within : (i : ℕ) (ranges : List Range) → AreCodeOfAll (take i fs) ranges → IsWithin (range_bytes ranges) some.code
  taken-within i ranges h a b e = let at = h.only a b e in in-code true at.0.graph (reached-by fs some at.0 (in-taken fs i at.0 at.1)) at.2.0 at.2.1 a b at.2.2

  -- what was joined agrees with the code of a further function
  pub joins : (i : ℕ) (ranges : List Range) → AreCodeOfAll (take i fs) ranges → (f : Function) → Contains fs f → (more : List Range) → AreCodeOf f.graph more → Agree (range_bytes ranges) (range_bytes more)
  joins i ranges h f c more are a x y e g = same-some x y (sym (taken-within i ranges h a x e) ∙ code_in true f.graph (reached-by fs some f c) more are a y g)

  pub joined-more : (i : ℕ) (old new : List Range) (f : Function) (d : Function) → i < length fs → f ≡ get_or fs i d → AreCodeOfAll (take i fs) old → IsJoined f.graph old new → AreCodeOfAll (take (i + 1) fs) new
  joined-more i old new f d lt is h j = subst (λ (zs : List Function). AreCodeOfAll zs new) (sym (take_more fs i d lt)) (subst (λ (z : Function). AreCodeOfAll (take i fs ++ z ∷ []) new) is all)
    where
      there : Contains fs f
      there = subst (Contains fs) (sym is) (contained fs i d lt)

      before : (g : Function) (n : ℕ) → Contains (take i fs) g → n < length g.graph.addrs → IsWithin (node_code g.graph n) (range_bytes new)
      before g n c low a b e = ap (λ (p : Bytes). p a) j.bytes ∙ over-left (range_bytes old a) (range_bytes j.more a) b (h.each g n c low a b e)

      own : (g : Function) (n : ℕ) → f ≡ g → n < length g.graph.addrs → IsWithin (node_code g.graph n) (range_bytes new)
      own g n same low = subst (λ (z : Function). n < length z.graph.addrs → IsWithin (node_code z.graph n) (range_bytes new)) same
          (λ low a b e. ap (λ (p : Bytes). p a) j.bytes ∙ over-right (range_bytes old a) (range_bytes j.more a) b (λ x g. joins i old h f there j.more j.is a x b g (j.is.each n low a b e)) (j.is.each n low a b e)) low

      all : AreCodeOfAll (take i fs ++ f ∷ []) new
      all = record {
        order = j.order;
        each = λ g n c low. elim (in-push (take i fs) f g c) [ inl d ↦ before g n d low | inr e ↦ own g n e low ];
        only = λ a b e. elim (over-cases (range_bytes old a) (range_bytes j.more a) b (ap (λ (p : Bytes). p a) (sym j.bytes) ∙ e)) [
          | inl g ↦ let at = h.only a b g in (at.0, Contains-append_left (take i fs) (f ∷ []) at.0 at.1, at.2)
          | inr g ↦ let at = j.is.only a b g in (f, Contains-append_right (take i fs) (f ∷ []) f (0, omega arith, refl), at)
        ];
      }
