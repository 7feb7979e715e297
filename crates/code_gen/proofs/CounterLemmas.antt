-- The counter of a loop is written by no instruction within it.
use Rattle.std.proofs.Common.{◌≡◌, ◌≢◌, ℕ, ◌+◌, ◌<◌, ◌≤◌, List, ◌++◌, length, refl, arith}
use Rattle.std.specs.Prelude.{All}
use Rattle.rv_decode.specs.declared.instruction.Instr.{Instr}
use Rattle.rv_decode.specs.Registers.{destination}
use Rattle.code_gen.specs.Pieces.{Pieces, Done, Add, Mix, Choose, Repeat}
use Rattle.code_gen.specs.Program.{counter, code, loop_end}
use Rattle.code_gen.specs.Structure.{AreShaped}
use Rattle.code_gen.proofs.Each.{Each, each-append, each-all}

abbrev Keeps : ℕ → Instr → Type 0
Keeps e i = destination i ≢ counter e

-- a number below 12, and one above 15, is no counter
other : (r e : ℕ) → e < 4 → (r < 12 → r ≢ counter e) × (r ≡ 16 → r ≢ counter e)
other r e h = ((λ g q. omega (arith, g, q)), (λ g q. omega (arith, g, q, h)))

each-keeps : (d e : ℕ) (p : Pieces) → AreShaped d p → d ≤ 4 → e < d → Each (Keeps e) (code d p)
each-keeps d e Done h b l = tt
each-keeps d e (Add u rest) (a, h) b l = ((other 10 e (omega arith)).0 (omega arith), each-keeps d e rest h b l)
each-keeps d e (Mix rest) h b l = ((other 10 e (omega arith)).0 (omega arith), each-keeps d e rest h b l)
each-keeps d e (Choose u rest) (a, h) b l =
    let ten : 10 ≢ counter e = (other 10 e (omega arith)).0 (omega arith) in
    let none : 0 ≢ counter e = (other 0 e (omega arith)).0 (omega arith) in
    ((other 16 e (omega arith)).1 refl, (none, (ten, (none, (ten, each-keeps d e rest h b l)))))
each-keeps d e (Repeat n body rest) (s, g, h) b l =
    let inner : List Instr = code (d + 1) body in
    let last : List Instr = loop_end d (length inner) in
    let own : counter d ≢ counter e = (λ q. omega (arith, q, l)) in
    let none : 0 ≢ counter e = (other 0 e (omega arith)).0 (omega arith) in
    let below : d + 1 ≤ 4 = omega (arith, s.depth) in (
      own,
      each-append (Keeps e) (inner ++ last) (code d rest)
          (each-append (Keeps e) inner last (each-keeps (d + 1) e body g below (omega arith)) (own, (none, tt)))
          (each-keeps d e rest h b l),
    )

pub code-keeps : (d e : ℕ) (p : Pieces) → AreShaped d p → d ≤ 4 → e < d → All (λ i. destination i ≢ counter e) (code d p)
code-keeps d e p h b l = each-all (Keeps e) (code d p) (each-keeps d e p h b l)
