-- The instruction that is found at an address stands there.
use Rattle.std.proofs.Common.{◌≡◌, ℕ, ◌+◌, ◌%◌, ◌<◌, List, [], ◌∷◌, ◌++◌, length, get_or, map, take, sym, Bool, true, false, ◌&&◌, ◌||◌, cond, eqb, Option, None, Some, Result, Ok, Err, ℤ, refl, ◌∙◌, ap, subst}
use Rattle.std.proofs.lemmas.List.{map-append, take_more}
use Rattle.std.specs.Option.{unwrap_or}
use Rattle.std.specs.Prelude.{slice_get}
use Rattle.std.proofs.lemmas.Option.{get_or_from_slice_get}
use Rattle.rv_words.specs.Bytes.{Bytes}
use Rattle.rv_decode.specs.declared.instruction.Instr.{Instr}
use Rattle.rv_decode.specs.declared.instruction.Instr.TheVariants.{Op, OpImm, Lui, Auipc, Jal, Jalr, Branch, Load, Store, Fence, Ecall, Ebreak}
use Rattle.rvc.specs.Number.{instruction_of, number_in}
use Rattle.flow_graph.specs.declared.outside.Outside.{Outside}
use Rattle.flow_graph.specs.declared.outside.Outside.TheVariants.{Misaligned}
use Rattle.flow_graph.specs.Flow.{StandsIn, admitted, is_return, look, look_decoded, look_fetched}
use Rattle.flow_graph.specs.Graph.{GraphOf, IsGraphOf}
use Rattle.flow_graph.proofs.BuildLemmas.{at_same}
use Rattle.flow_graph.proofs.ExactLemmas.{graph_looks}

if_ok : (t : Bool) (x : Result Instr Outside) (why : Outside) (i : Instr) → cond t x (Err why) ≡ Ok i → x ≡ Ok i
if_ok true x why i e = e
if_ok false x why i e = absurd (cc)

if_so : (t : Bool) (x : Result Instr Outside) (why : Outside) (i : Instr) → cond t x (Err why) ≡ Ok i → t ≡ true
if_so true x why i e = refl
if_so false x why i e = absurd (cc)

abbrev fine : Instr → Result Instr Outside
fine i = Ok i

fine_same : (j i : Instr) → fine j ≡ fine i → j ≡ i
fine_same j i e = cc

-- an instruction that may stand there is what was found
admitted_same : (linked : Bool) (a : ℕ) (j i : Instr) → admitted linked a j ≡ Ok i → j ≡ i
admitted_same linked a (Op o rd rs1 rs2) i e = fine_same _ i e
admitted_same linked a (OpImm o rd rs1 imm) i e = fine_same _ i e
admitted_same linked a (Lui rd imm) i e = fine_same _ i e
admitted_same linked a (Auipc rd imm) i e = fine_same _ i e
admitted_same linked a (Jal rd offset) i e = fine_same _ i (if_ok (eqb rd 0 || (linked && eqb rd 1)) (Ok (Jal rd offset)) _ i e)
admitted_same linked a (Jalr rd rs1 imm) i e = fine_same _ i (if_ok (is_return (Jalr rd rs1 imm)) (Ok (Jalr rd rs1 imm)) _ i (if_ok (eqb rd 0) _ _ i e))
admitted_same linked a (Branch c rs1 rs2 offset) i e = fine_same _ i e
admitted_same linked a (Load w s rd rs1 imm) i e = fine_same _ i e
admitted_same linked a (Store w rs1 rs2 imm) i e = fine_same _ i e
admitted_same linked a (Fence imm rs1 rd) i e = fine_same _ i e
admitted_same linked a Ecall i e = absurd (cc)
admitted_same linked a Ebreak i e = absurd (cc)

-- a jump through a register that may stand there is the return
pub through_return : (linked : Bool) (a rd rs1 : ℕ) (imm : ℤ) → admitted linked a (Jalr rd rs1 imm) ≡ Ok (Jalr rd rs1 imm) → is_return (Jalr rd rs1 imm) ≡ true
through_return linked a rd rs1 imm e = if_so (is_return (Jalr rd rs1 imm)) (Ok (Jalr rd rs1 imm)) _ (Jalr rd rs1 imm) (if_ok (eqb rd 0) _ _ (Jalr rd rs1 imm) e)

by_decoded : (linked : Bool) (code : Bytes) (a w : ℕ) (i : Instr) (o : Option Instr) → eqb (a % 2) 0 ≡ true → number_in code a ≡ Some w → instruction_of w ≡ o → look_decoded linked a w o ≡ Ok i → StandsIn linked code a i
by_decoded linked code a w i None p q d e = absurd (cc)
by_decoded linked code a w i (Some j) p q d e =
    let same : j ≡ i = admitted_same linked a j i e in
    record { even = p; number = w; there = q; is = d ∙ ap Some same; fine = subst (λ (k : Instr). admitted linked a k ≡ Ok i) same e }

by_word : (linked : Bool) (code : Bytes) (a : ℕ) (i : Instr) (o : Option ℕ) → eqb (a % 2) 0 ≡ true → number_in code a ≡ o → look_fetched linked a o ≡ Ok i → StandsIn linked code a i
by_word linked code a i None p q e = absurd (cc)
by_word linked code a i (Some w) p q e = by_decoded linked code a w i (instruction_of w) p q refl e

by_aligned : (linked : Bool) (code : Bytes) (a : ℕ) (i : Instr) (t : Bool) → eqb (a % 2) 0 ≡ t → cond t (look_fetched linked a (number_in code a)) (Err (Misaligned a a)) ≡ Ok i → StandsIn linked code a i
by_aligned linked code a i true p e = by_word linked code a i (number_in code a) p refl e
by_aligned linked code a i false p e = absurd (cc)

pub look_stands : (linked : Bool) (code : Bytes) (a : ℕ) (i : Instr) → look linked code a ≡ Ok i → StandsIn linked code a i
unfolding look
look_stands linked code a i e = by_aligned linked code a i (eqb (a % 2) 0) refl e

pub graph_stands : (linked : Bool) (code : Bytes) (e : ℕ) (g : GraphOf) (n : ℕ) (i : Instr) → IsGraphOf linked code e g → n < length g.addrs → slice_get g.instrs n ≡ Some i → StandsIn linked code (get_or g.addrs n 0) i
graph_stands linked code e g n i r l at = look_stands linked code (get_or g.addrs n 0) i (graph_looks linked code e g r n i l ∙ ap (λ j. Ok j) (get_or_from_slice_get g.instrs n i i at))

-- one more number
pub number_more : (linked : Bool) (code : Bytes) (nodes ws vs : List ℕ) (is : List Instr) (i a x : ℕ) → map (λ j. Ok j) is ≡ map (look linked code) nodes → i < length nodes → a ≡ get_or nodes i 0
    → map (λ w. Some w) ws ≡ map (number_in code) (take i nodes) → x ≡ unwrap_or (number_in code a) 0 → vs ≡ ws ++ x ∷ [] → map (λ w. Some w) vs ≡ map (number_in code) (take (i + 1) nodes)
number_more linked code nodes ws vs is i a x same l at before here pushed =
    let stood = look_stands linked code (get_or nodes i 0) (get_or is i Ecall) (at_same linked code is nodes i Ecall same l) in
    let number : number_in code (get_or nodes i 0) ≡ Some x = stood.there ∙ ap Some (sym (here ∙ (λ j. unwrap_or (number_in code (at j)) 0) ∙ ap (λ o. unwrap_or o 0) stood.there)) in
    ap (map (λ w. Some w)) pushed ∙ map-append (λ w. Some w) ws (x ∷ []) ∙ (λ j. before j ++ sym number j ∷ [])
    ∙ sym (ap (map (number_in code)) (take_more nodes i 0 l) ∙ map-append (number_in code) (take i nodes) (get_or nodes i 0 ∷ []))
