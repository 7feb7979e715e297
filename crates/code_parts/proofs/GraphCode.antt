-- The code of a graph's instructions, one node after the other.
use Rattle.std.proofs.Common.{◌≡◌, ℕ, ◌+◌, ◌^◌, ◌<◌, ◌≤◌, List, [], length, get_or, sym, ap, refl, subst, ◌∙◌, arith, Option, None, Some, ◌⊎◌, inl, inr, Bool}
use Rattle.std.proofs.lemmas.Bool.{cases_eq}
use Rattle.std.proofs.lemmas.Option.{slice_get_within}
use Rattle.std.specs.Option.{option_or}
use Rattle.rv_words.specs.Bytes.{Bytes, over}
use Rattle.rv_words.specs.declared.range.Range.{Range}
use Rattle.rv_words.specs.Ranges.{AreRanges, range_bytes}
use Rattle.rvc.specs.Number.{bytes_of, length_of, number_at}
use Rattle.rvc.proofs.ByteLemmas.{bytes-long, number-bytes}
use Rattle.rvc.proofs.NumberLemmas.{number_in-is}
use Rattle.sep_assert.specs.Code.{Agree, IsWithin}
use Rattle.instr_axioms.specs.Axiom.{word_code}
use Rattle.instr_axioms.proofs.AxiomLemmas.{word_code-ranges}
use Rattle.flow_graph.specs.Graph.{GraphOf}
use Rattle.flow_graph.proofs.ExactLemmas.{graph_numbers}
use Rattle.code_parts.specs.Flows.{AreCodeOf, IsReached, node_code}
use Rattle.code_parts.specs.inner.Words.{AreCodeTo}
use Rattle.code_parts.proofs.FlowCode.{code-byte}

pub same-some : (x y : ℕ) → Some x ≡ Some y → x ≡ y
same-some x y e = cc

pub over-left : (x y : Option ℕ) (b : ℕ) → x ≡ Some b → option_or x y ≡ Some b
over-left None y b e = absurd (cc)
over-left (Some c) y b e = e

pub over-right : (x y : Option ℕ) (b : ℕ) → ((c : ℕ) → x ≡ Some c → c ≡ b) → y ≡ Some b → option_or x y ≡ Some b
over-right None y b agree e = e
over-right (Some c) y b agree e = ap Some (agree c refl)

pub over-cases : (x y : Option ℕ) (b : ℕ) → option_or x y ≡ Some b → (x ≡ Some b) ⊎ (y ≡ Some b)
over-cases None y b e = inr e
over-cases (Some c) y b e = inl e

module _ (linked : Bool) (g : GraphOf) (reached : IsReached linked g) where
  -- the number that stands at a node
  pub number-there : (n : ℕ) → n < length g.addrs → (number_at reached.code (get_or g.addrs n 0) ≡ Some (get_or g.numbers n 0)) × (get_or g.addrs n 0 + length_of (get_or g.numbers n 0) ≤ 2 ^ 64)
  number-there n lt = (number_in-is reached.code (get_or g.addrs n 0) (get_or g.numbers n 0)).0 (graph_numbers linked reached.code reached.entry g n reached.is lt)

  -- the code has its bytes
  pub in-code : (n : ℕ) → n < length g.addrs → IsWithin (node_code g n) reached.code
  in-code n lt q b e =
      let w : ℕ = get_or g.numbers n 0 in
      let there = number-there n lt in
      let at = code-byte (get_or g.addrs n 0) (bytes_of w) q b e in
      let low : at.0 < length_of w = omega (arith, slice_get_within (bytes_of w) at.0 b at.2, bytes-long w) in
      subst (λ (x : ℕ). reached.code x ≡ Some b) (sym at.1) (number-bytes reached.code (get_or g.addrs n 0) w reached.bytes there.1 there.0 at.0 low ∙ at.2)

  pub node_ranges : (n : ℕ) → n < length g.addrs → AreRanges (word_code (get_or g.addrs n 0) (get_or g.numbers n 0))
  node_ranges n lt = word_code-ranges (get_or g.addrs n 0) (get_or g.numbers n 0) (number-there n lt).1

  code-to : (n : ℕ) (ranges : List Range) → n ≤ length g.addrs → AreCodeTo g n ranges → IsWithin (range_bytes ranges) reached.code
  code-to n ranges le c a b e = let at = c.only a b e in in-code at.0 (omega (arith, at.1, le)) a b at.2

  pub code_in : (ranges : List Range) → AreCodeOf g ranges → IsWithin (range_bytes ranges) reached.code
  code_in ranges c a b e = let at = c.only a b e in in-code at.0 at.1 a b at.2

  pub nodes_agree : (n : ℕ) (ranges : List Range) → n < length g.addrs → AreCodeTo g n ranges → Agree (range_bytes ranges) (node_code g n)
  nodes_agree n ranges lt c a x y e f = same-some x y (sym (code-to n ranges (omega (arith, lt)) c a x e) ∙ in-code n lt a y f)

  pub code_none : AreCodeTo g 0 []
  code_none = record { order = tt; each = λ n lt. absurd (omega arith); only = λ a b e. absurd (cc) }

  pub code_more : (n : ℕ) (ranges more : List Range) → n < length g.addrs → AreCodeTo g n ranges → AreRanges more → range_bytes more ≡ over (range_bytes ranges) (node_code g n) → AreCodeTo g (n + 1) more
  code_more n ranges more lt c order bytes = record {
    order = order;
    each = λ m low a b h. elim (cases_eq m n) [
      | inl e ↦
          let here : node_code g n a ≡ Some b = (λ i. node_code g (sym e i) a) ∙ h in
          ap (λ (p : Bytes). p a) bytes ∙ over-right (range_bytes ranges a) (node_code g n a) b (λ x f. nodes_agree n ranges lt c a x b f here) here
      | inr ne ↦ ap (λ (p : Bytes). p a) bytes ∙ over-left (range_bytes ranges a) (node_code g n a) b (c.each m (omega (arith, low, ne)) a b h)
    ];
    only = λ a b h. elim (over-cases (range_bytes ranges a) (node_code g n a) b (ap (λ (p : Bytes). p a) (sym bytes) ∙ h)) [
      | inl f ↦ let at = c.only a b f in (at.0, omega (arith, at.1), at.2)
      | inr f ↦ (n, omega arith, f)
    ];
  }

  pub code_all : (n : ℕ) (ranges : List Range) → n ≡ length g.addrs → AreCodeTo g n ranges → AreCodeOf g ranges
  code_all n ranges e c = record {
    order = c.order;
    each = λ m lt. c.each m (omega (arith, lt, e));
    only = λ a b h. let at = c.only a b h in (at.0, omega (arith, at.1, e), at.2);
  }
