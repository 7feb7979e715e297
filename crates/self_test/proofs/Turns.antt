-- The turns of a loop.
use Rattle.std.proofs.Common.{◌≡◌, ℕ, zero, suc, ◌+◌, ◌*◌, ◌^◌, ◌==◌, ◌<◌, ◌≤◌, negsuc, false, cond, not, ap, ◌∙◌, arith}
use Rattle.std.proofs.Math.Nat.{add-mul}
use Rattle.rv_words.specs.Bytes.{Bytes}
use Rattle.rv_words.specs.Operation.{operation_value, word_of as word_of_number}
use Rattle.rv_words.specs.declared.operation.Op.TheVariants.{Add}
use Rattle.rv_words.specs.declared.comparison.Cmp.TheVariants.{Ne}
use Rattle.rv_decode.specs.declared.instruction.Instr.{Instr}
use Rattle.rv_decode.specs.declared.instruction.Instr.TheVariants.{OpImm, Branch}
use Rattle.rv_decode.proofs.RowLemmas.{neq-eqb}
use Rattle.rv_machine.specs.State.{State}
use Rattle.rv_machine.specs.Step.{plus, reads}
use Rattle.code_gen.specs.Program.{counter}
use Rattle.code_gen.proofs.CodeLemmas.{loop_end-encodable}
use Rattle.code_gen.specs.Structure.{IsWordAt}
use Rattle.self_test.proofs.Passing.{Ground, At, Passes, Here, glue, within, around, immediate, taken, passed, written}

-- the loop's counter falls by one
abbrev falling : ℕ → Instr
falling d = OpImm Add (counter d) (counter d) (negsuc 0)

-- the branch back over a body of n instructions
abbrev back : ℕ → ℕ → Instr
back d n = Branch Ne (counter d) 0 (negsuc (4 * n + 3))

pub no_zero : (d : ℕ) → (counter d == 0) ≡ false
no_zero d = neq-eqb (12 + d) 0 (λ h. omega (arith, h))

less : (x n : ℕ) → x ≡ suc n → n < 4 → operation_value Add x (word_of_number (negsuc 0)) ≡ n
less x n e h = omega (arith, e, h)

-- what a loop stands on: where its code is, and that its body can be passed
pub record Loop (q b : ℕ) (m : Bytes) (d k n most : ℕ) : Type 0 where
  pub ground : Ground q b
  pub depth : d < 4
  pub little : n ≤ 106
  pub falls : IsWordAt m b (k + 1 + n) (falling d)
  pub backs : IsWordAt m b (k + 1 + n + 1) (back d n)
  pub room : b + 4 * (k + 1 + n + 1 + 1) ≤ q
  pub body : (s : State) → At m b (k + 1) s → Passes q b m (d + 1) s (k + 1 + n) most

-- the body once, and the counter less by one
record Turned (q b : ℕ) (m : Bytes) (d k n most : ℕ) (s : State) (left : ℕ) : Type 0 where
  pass : Passes q b m d s (k + 1 + n + 1) (most + 1)
  counts : pass.last.reg (counter d) ≡ left

turned : {q b d k n most : ℕ} {m : Bytes} (l : Loop q b m d k n most) (s : State) (left : ℕ) → At m b (k + 1) s → left < 4 → s.reg (counter d) ≡ suc left
    → Turned q b m d k n most s left
turned {q} {b} {d} {k} {n} {most} {m} l s left at few counts =
    let p : Passes q b m (d + 1) s (k + 1 + n) most = l.body s at in
    let fits = (loop_end-encodable d n l.depth l.little).0 in
    let here : Here q b (k + 1 + n) m (falling d) p.last =
    record { ground = l.ground; at = p.at; word = l.falls; fits = fits; below = omega (arith, l.room) } in
    let fall : Passes q b m d p.last (k + 1 + n + 1) 1 =
    immediate d (counter d) (counter d) Add (negsuc 0) here (omega (arith, l.room)) (λ r a x e. omega (arith, x, e)) in
    let before : p.last.reg (counter d) ≡ suc left = p.kept (counter d) (λ e. omega (arith, e)) (omega arith) ∙ counts in
    let reading : reads (counter d) p.last ≡ suc left = (λ i. cond (no_zero d i) 0 (p.last.reg (counter d))) ∙ before in
    record {
      pass = glue (around p) fall;
      counts = written (counter d) (operation_value Add (reads (counter d) p.last) (word_of_number (negsuc 0))) p.last.reg (no_zero d)
          ∙ less (reads (counter d) p.last) left reading few;
    }

one-more : (n x : ℕ) → x + n * x ≡ suc n * x
one-more n x =
    let e : suc n ≡ 1 + n = omega arith in
    let f : (1 + n) * x ≡ 1 * x + n * x = add-mul 1 n x in
    let g : suc n * x ≡ (1 + n) * x = ap (λ (y : ℕ). y * x) e in
    omega (arith, f, g)

-- where the branch goes back to
going-back : (q b k n pc : ℕ) → q < 2 ^ 64 → b + 4 * (k + 1 + n + 1 + 1) ≤ q → pc ≡ b + 4 * (k + 1 + n + 1) → plus pc (negsuc (4 * n + 3)) ≡ b + 4 * (k + 1)
going-back q b k n pc below room e = omega (arith, below, room, e)

pub turns : {q b d k n most : ℕ} {m : Bytes} (l : Loop q b m d k n most) (left : ℕ) (s : State) → At m b (k + 1) s → left < 4 → s.reg (counter d) ≡ suc left
    → Passes q b m d s (k + 1 + n + 1 + 1) (suc left * (most + 2))
turns {q} {b} {d} {k} {n} {most} {m} l zero s at few counts =
    let t = turned l s 0 at few counts in
    let fits = (loop_end-encodable d n l.depth l.little).1.0 in
    let here : Here q b (k + 1 + n + 1) m (back d n) t.pass.last =
    record { ground = l.ground; at = t.pass.at; word = l.backs; fits = fits; below = omega (arith, l.room) } in
    let reading : reads (counter d) t.pass.last ≡ 0 = (λ i. cond (no_zero d i) 0 (t.pass.last.reg (counter d))) ∙ t.counts in
    let out : Passes q b m d t.pass.last (k + 1 + n + 1 + 1) 1 =
    passed d Ne (counter d) 0 (negsuc (4 * n + 3)) here (λ i. not (reading i == 0)) l.room in
    within (1 * (most + 2)) (omega arith) (glue t.pass out)
turns {q} {b} {d} {k} {n} {most} {m} l (suc left) s at few counts =
    let t = turned l s (suc left) at few counts in
    let fits = (loop_end-encodable d n l.depth l.little).1.0 in
    let here : Here q b (k + 1 + n + 1) m (back d n) t.pass.last =
    record { ground = l.ground; at = t.pass.at; word = l.backs; fits = fits; below = omega (arith, l.room) } in
    let reading : reads (counter d) t.pass.last ≡ suc left = (λ i. cond (no_zero d i) 0 (t.pass.last.reg (counter d))) ∙ t.counts in
    let again : Passes q b m d t.pass.last (k + 1) 1 =
    taken d (k + 1) Ne (counter d) 0 (negsuc (4 * n + 3)) here
    ((λ i. not (reading i == 0)) ∙ (λ i. not (neq-eqb (suc left) 0 (λ e. omega (arith, e)) i)))
    (going-back q b k n t.pass.last.pc l.ground.below l.room t.pass.at.pc) in
    let rest : Passes q b m d again.last (k + 1 + n + 1 + 1) (suc left * (most + 2)) =
    turns l left again.last again.at (omega (arith, few)) t.counts in
    within (suc (suc left) * (most + 2)) (omega (arith, one-more (suc left) (most + 2))) (glue (glue t.pass again) rest)
