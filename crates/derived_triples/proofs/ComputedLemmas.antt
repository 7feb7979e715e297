-- Triples that are computed, of which there is one.
use Rattle.std.proofs.Common.{◌≡◌, ℕ, zero, suc, ◌+◌, ◌/◌, ◌<◌, ◌^◌, ◌&&◌, Bool, true, false, cond, Option, Some, None, List, refl, sym, subst, arith, mod-lt}
use Rattle.std.specs.Prelude.{nat_le, option_and_then}
use Rattle.std.specs.Int.{byte_at, bytes_low_first, to_le_bytes, w16, w32}
use Rattle.std.specs.List.{AllByRecursion}
use Rattle.std.proofs.lemmas.Bool.{leb-true}
use Rattle.std.proofs.lemmas.Option.{none-some, same_Some}
use Rattle.rv_decode.specs.declared.instruction.Instr.{Instr}
use Rattle.rvc.specs.Number.{instruction_of, is_word, length_of}
use Rattle.rv_machine.specs.Step.{is_even}
use Rattle.triple_kernel.specs.declared.form.Form.{Form}
use Rattle.triple_kernel.specs.Tree.{TripleTree}
use Rattle.instr_axioms.specs.Axiom.{axiom_of, has_room, own_triple, triple_if, word_code}
use Rattle.instr_axioms.specs.Terms.{has_form}
use Rattle.instr_axioms.proofs.AxiomLemmas.{word_code-ranges}
use Rattle.term_arena.specs.declared.node.Node.{Node}
use Rattle.held_terms.specs.declared.held.Held.{Held}
use Rattle.held_terms.specs.Held.{triple_of}
use Rattle.proof_text.specs.LineLimits.{IsTriple}
use Rattle.proof_text.specs.inner.OwnCode.{IsOwnCode}
use Rattle.derived_triples.specs.inner.Making.{MadeIf}

-- the one triple with P, if it is within the limits
pub made_one : (ns : List Node) (P : TripleTree → Type 0) (u : TripleTree) → P u → ((t : TripleTree) → P t → t ≡ u) → (o : Option Held) → MadeIf ns (λ t. t ≡ u) o → MadeIf ns P o
made_one ns P u here only (Some h) m = (m.0, subst P (sym m.1) here)
made_one ns P u here only None m = λ t fits p. m t fits (only t p)

-- what is said in another way
pub made_as : (ns : List Node) (P Q : TripleTree → Type 0) → ((t : TripleTree) → IsTriple t → P t → Q t) → ((t : TripleTree) → IsTriple t → Q t → P t) → (o : Option Held) → MadeIf ns P o → MadeIf ns Q o
made_as ns P Q to from (Some h) m = (m.0, to (triple_of ns h) m.0.fits m.1)
made_as ns P Q to from None m = λ t fits q. m t fits (from t fits q)

-- ---- the code of an axiom

both-true : (a b : Bool) → (a && b) ≡ true → b ≡ true
both-true true b e = e
both-true false b e = cc

low-bytes : (i k w : ℕ) → AllByRecursion (λ b. b < 256) (bytes_low_first i k w)
low-bytes i zero w = tt
low-bytes i (suc k) w = (one i, low-bytes (suc i) k w)
  where
    one : (i : ℕ) → byte_at i w < 256
    one zero = mod-lt w (omega arith)
    one (suc i) = mod-lt (w / 256 ^ suc i) (omega arith)

code-bytes : (a w : ℕ) → AllByRecursion (λ r. AllByRecursion (λ b. b < 256) r.bytes) (word_code a w)
code-bytes a w = (by_length (is_word w), tt)
  where
    by_length : (t : Bool) → AllByRecursion (λ b. b < 256) (cond t (to_le_bytes w32 w) (to_le_bytes w16 w))
    by_length true = low-bytes 0 4 w
    by_length false = low-bytes 0 2 w

pub axiom_code : (a w : ℕ) (form : Form) (t : TripleTree) → axiom_of a w form ≡ Some t → IsOwnCode t.code
unfolding axiom_of
axiom_code a w form t e = go (has_room a w) refl (instruction_of w) e
  where
    own : (i : Instr) → has_room a w ≡ true → IsOwnCode (word_code a w)
    own i room = (word_code-ranges a w (leb-true _ _ (both-true (is_even a) (nat_le (a + length_of w) (2 ^ 64)) room)), code-bytes a w)

    form-of : (b : Bool) (i : Instr) → has_room a w ≡ true → cond b (Some (own_triple i form a w)) None ≡ Some t → IsOwnCode t.code
    form-of true i room s = subst (λ (u : TripleTree). IsOwnCode u.code) (same_Some _ t s) (own i room)
    form-of false i room s = absurd (none-some t s)

    at : (o : Option Instr) → has_room a w ≡ true → option_and_then (triple_if a w form) o ≡ Some t → IsOwnCode t.code
    at (Some i) room s = form-of (has_form i form) i room s
    at None room s = absurd (none-some t s)

    go : (b : Bool) → has_room a w ≡ b → (o : Option Instr) → cond b (option_and_then (triple_if a w form) o) None ≡ Some t → IsOwnCode t.code
    go true room o s = at o room s
    go false room o s = absurd (none-some t s)
