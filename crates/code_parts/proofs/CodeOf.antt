-- Code that has the instructions of a graph has the bytes of each.
use Rattle.std.proofs.Common.{◌≡◌, ℕ, ◌+◌, ◌-◌, List, get_or, leb, Bool, true, cond, sym, ap, ◌∙◌, arith, Some, None}
use Rattle.std.proofs.lemmas.Bool.Decides.{nat_tests}
use Rattle.std.specs.Prelude.{slice_get}
use Rattle.std.specs.Option.{option_or}
use Rattle.rv_words.specs.Bytes.{bytes_from}
use Rattle.rv_words.specs.declared.range.Range.{Range}
use Rattle.rvc.specs.Number.{bytes_of}
use Rattle.rvc.proofs.ByteLemmas.{number-bytes}
use Rattle.flow_graph.specs.Graph.{GraphOf}
use Rattle.code_parts.specs.Flows.{AreCodeOf, HaveCode, HaveInstructions, IsReached}
use Rattle.code_parts.proofs.GraphCode.{number-there}

byte_here : (a k b : ℕ) (bs : List ℕ) → slice_get bs k ≡ Some b → option_or (bytes_from a bs (a + k)) None ≡ Some b
byte_here a k b bs e =
    let low : leb a (a + k) ≡ true = grind (arith, nat_tests) in
    let place : a + k - a ≡ k = omega arith in
    (λ i. option_or (cond (low i) (slice_get bs (place i)) None) None) ∙ ap (λ o. option_or o None) e

pub have_bytes : (linked : Bool) (g : GraphOf) (reached : IsReached linked g) (ranges : List Range) → HaveInstructions g ranges → HaveCode g reached.code ranges
have_bytes linked g reached ranges whole n k b lt low e =
    let w : ℕ = get_or g.numbers n 0 in
    let there = number-there linked g reached n lt in
    whole.each n lt (get_or g.addrs n 0 + k) b
    (byte_here (get_or g.addrs n 0) k b (bytes_of w) (sym (number-bytes reached.code (get_or g.addrs n 0) w reached.bytes there.1 there.0 k low) ∙ e))

pub instructions-in : (g : GraphOf) (ranges : List Range) → AreCodeOf g ranges → HaveInstructions g ranges
instructions-in g ranges whole = record { order = whole.order; each = whole.each }

pub have_code : (linked : Bool) (g : GraphOf) (reached : IsReached linked g) (ranges : List Range) → AreCodeOf g ranges → HaveCode g reached.code ranges
have_code linked g reached ranges whole = have_bytes linked g reached ranges (instructions-in g ranges whole)
