-- Runs through pieces and programs.
use Rattle.std.proofs.Common.{◌≡◌, ℕ, suc, ◌+◌, ◌-◌, ◌*◌, ◌%◌, ◌^◌, ◌<◌, ◌≤◌, pos, List, [], ◌∷◌, ◌++◌, length, Some, Bool, true, false, refl, ap, subst, ◌∙◌, arith}
use Rattle.std.proofs.lemmas.List.{length-append}
use Rattle.rv_words.specs.Bytes.{Bytes}
use Rattle.rv_words.specs.Operation.{comparison_holds, operation_value, word_of as word_of_number}
use Rattle.rv_words.specs.declared.operation.Op.TheVariants.{Add as Addition, And, Xor}
use Rattle.rv_words.specs.declared.comparison.Cmp.TheVariants.{Eq}
use Rattle.rv_decode.specs.declared.instruction.Instr.{Instr}
use Rattle.rv_decode.specs.declared.instruction.Instr.TheVariants.{Jalr, Branch}
use Rattle.rv_machine.specs.State.{State}
use Rattle.rv_machine.specs.Step.{jump_target, reads, step}
use Rattle.rv_machine.specs.Update.{updated}
use Rattle.rv_machine.proofs.StepLemmas.{updated-step}
use Rattle.code_gen.specs.Pieces.{Pieces, Done, Add, Mix, Choose, Repeat, drawn}
use Rattle.code_gen.specs.Program.{counter, choosing, code, loop_end}
use Rattle.code_gen.specs.Structure.{AreShaped, EachAt, IsWordAt, most_steps}
use Rattle.code_gen.specs.ElfFile.{start}
use Rattle.code_gen.proofs.CodeLemmas.{adding-encodable, counting-encodable}
use Rattle.code_gen.proofs.ShapeLemmas.{drawn-shaped}
use Rattle.code_gen.proofs.SizeLemmas.{drawn-count}
use Rattle.code_gen.proofs.StepLemmas.{drawn-steps}
use Rattle.code_gen.proofs.TargetLemmas.{each-split}
use Rattle.rv_machine.specs.Run.{IsAtReturn}
use Rattle.self_test.specs.Runs.{PassesThrough, StartsProgram, Returns, behind}
use Rattle.self_test.proofs.Ways.{way-run, return-run, return-misses, return-untouched, return-last, return-first}
use Rattle.self_test.proofs.Passing.{Ground, At, Passes, Here, none, found, four, glue, under, within, immediate, register, jumps, taken, passed, written}
use Rattle.self_test.proofs.Turns.{Loop, turns, no_zero}

moved : {q b d x : ℕ} {m : Bytes} {s : State} (j k : ℕ) → j ≡ k → Passes q b m d s j x → Passes q b m d s k x
moved {q} {b} {d} {x} {m} {s} j k e p = subst (λ n. Passes q b m d s n x) e p

decide : {A : Type 0} (t : Bool) → (t ≡ true → A) → (t ≡ false → A) → A
decide true f g = f refl
decide false f g = g refl

-- a jump forward by some instructions
ahead : (q b k n j pc : ℕ) → Ground q b → pc ≡ b + 4 * k → j ≡ k + n → b + 4 * j ≤ q → (pc + 4 * n) % 2 ^ 64 ≡ b + 4 * j
ahead q b k n j pc g e f room = omega (arith, e, f, room, g.below)

-- the counter at the first turn
begun : (t : ℕ) → 1 ≤ t → t ≤ 4 → operation_value Addition 0 (word_of_number (pos t)) ≡ suc (t - 1)
begun t a h = omega (arith, a, h)

-- a choice: it is passed in three steps where x10 is even, else in four
chooses : (q b d k u : ℕ) (m : Bytes) (s : State) → Ground q b → d ≤ 4 → u ≤ 600 → b + 4 * (k + 1 + 1 + 1 + 1 + 1) ≤ q → At m b k s
    → EachAt (IsWordAt m b) k (choosing u) → Passes q b m d s (k + 1 + 1 + 1 + 1 + 1) 4
chooses q b d k u m s g deep small room at (w0, (w1, (w2, (w3, (w4, end))))) =
    let test : Passes q b m d s (k + 1) 1 =
    immediate d 16 10 And (pos 1) (record { ground = g; at = at; word = w0; fits = refl; below = omega (arith, room) })
    (omega (arith, room)) (λ r a l e. omega (arith, l, e, deep)) in
    let branch : Here q b (k + 1) m (Branch Eq 16 0 (pos 12)) test.last =
    record { ground = g; at = test.at; word = w1; fits = refl; below = omega (arith, room) } in
    decide (comparison_holds Eq (reads 16 test.last) (reads 0 test.last))
    (λ t.
    let over : Passes q b m d test.last (k + 1 + 1 + 1 + 1) 1 =
    taken d (k + 1 + 1 + 1 + 1) Eq 16 0 (pos 12) branch t (ahead q b (k + 1) 3 (k + 1 + 1 + 1 + 1) test.last.pc g test.at.pc (omega arith) (omega (arith, room))) in
    let mix : Passes q b m d over.last (k + 1 + 1 + 1 + 1 + 1) 1 =
    register d 10 10 11 Xor (record { ground = g; at = over.at; word = w4; fits = refl; below = omega (arith, room) }) room (λ r a l. a) in
    within 4 (omega arith) (glue (glue test over) mix))
    (λ f.
    let on : Passes q b m d test.last (k + 1 + 1) 1 = passed d Eq 16 0 (pos 12) branch f (omega (arith, room)) in
    let add : Passes q b m d on.last (k + 1 + 1 + 1) 1 =
    immediate d 10 10 Addition (pos u) (record { ground = g; at = on.at; word = w2; fits = adding-encodable u small; below = omega (arith, room) })
    (omega (arith, room)) (λ r a l. a) in
    let over : Passes q b m d add.last (k + 1 + 1 + 1 + 1 + 1) 1 =
    jumps d (k + 1 + 1 + 1 + 1 + 1) (pos 8) (record { ground = g; at = add.at; word = w3; fits = refl; below = omega (arith, room) })
    (ahead q b (k + 1 + 1 + 1) 2 (k + 1 + 1 + 1 + 1 + 1) add.last.pc g add.at.pc (omega arith) room) in
    within 4 (omega arith) (glue (glue (glue test on) add) over))

pub passes : (q b d : ℕ) (m : Bytes) (p : Pieces) (k : ℕ) (s : State) → Ground q b → AreShaped d p → d ≤ 4 → b + 4 * (k + length (code d p)) ≤ q
    → EachAt (IsWordAt m b) k (code d p) → At m b k s → Passes q b m d s (k + length (code d p)) (most_steps p)
passes q b d m Done k s g h deep room w at = moved k (k + 0) (omega arith) (none s at)
passes q b d m (Add u rest) k s g (small, h) deep room (w, ws) at =
    let n : ℕ = length (code d rest) in
    let add : Passes q b m d s (k + 1) 1 =
    immediate d 10 10 Addition (pos u) (record { ground = g; at = at; word = w; fits = adding-encodable u small; below = omega (arith, room) })
    (omega (arith, room)) (λ r a l. a) in
    moved (k + 1 + n) (k + suc n) (omega arith) (glue add (passes q b d m rest (k + 1) add.last g h deep (omega (arith, room)) ws add.at))
passes q b d m (Mix rest) k s g h deep room (w, ws) at =
    let n : ℕ = length (code d rest) in
    let mix : Passes q b m d s (k + 1) 1 =
    register d 10 10 11 Xor (record { ground = g; at = at; word = w; fits = refl; below = omega (arith, room) }) (omega (arith, room)) (λ r a l. a) in
    moved (k + 1 + n) (k + suc n) (omega arith) (glue mix (passes q b d m rest (k + 1) mix.last g h deep (omega (arith, room)) ws mix.at))
passes q b d m (Choose u rest) k s g (small, h) deep room (w0, (w1, (w2, (w3, (w4, ws))))) at =
    let n : ℕ = length (code d rest) in
    let choice : Passes q b m d s (k + 1 + 1 + 1 + 1 + 1) 4 =
    chooses q b d k u m s g deep small (omega (arith, room)) at (w0, (w1, (w2, (w3, (w4, tt))))) in
    moved (k + 1 + 1 + 1 + 1 + 1 + n) (k + suc (suc (suc (suc (suc n))))) (omega arith)
    (glue choice (passes q b d m rest (k + 1 + 1 + 1 + 1 + 1) choice.last g h deep (omega (arith, room)) ws choice.at))
passes q b d m (Repeat t body rest) k s g (l, hb, h) deep room (w, ws) at =
    let inner : List Instr = code (d + 1) body in
    let n : ℕ = length inner in
    let last : List Instr = loop_end d n in
    let after : ℕ = length (code d rest) in
    let both : length (inner ++ last) ≡ n + 2 = length-append inner last in
    let all : length ((inner ++ last) ++ code d rest) ≡ length (inner ++ last) + after = length-append (inner ++ last) (code d rest) in
    let far = each-split (IsWordAt m b) (k + 1) (inner ++ last) (code d rest) ws in
    let near = each-split (IsWordAt m b) (k + 1) inner last far.0 in
    let head : Passes q b m d s (k + 1) 1 =
    immediate d (counter d) 0 Addition (pos t)
    (record { ground = g; at = at; word = w; fits = counting-encodable d t l.depth l.few_turns; below = omega (arith, room) })
    (omega (arith, room, both, all)) (λ r a x e. omega (arith, x, e)) in
    let turned : 1 ≤ t = l.some_turns in
    let counts : head.last.reg (counter d) ≡ suc (t - 1) =
    written (counter d) (operation_value Addition (reads 0 s) (word_of_number (pos t))) s.reg (no_zero d) ∙ begun t l.some_turns l.few_turns in
    let loop : Loop q b m d k n (most_steps body) = record {
      ground = g;
      depth = l.depth;
      little = l.little_code;
      falls = near.1.0;
      backs = near.1.1.0;
      room = omega (arith, room, both, all);
      body = λ r a. passes q b (d + 1) m body (k + 1) r g hb (omega (arith, l.depth)) (omega (arith, room, both, all)) near.0 a;
    } in
    let round : Passes q b m d head.last (k + 1 + n + 1 + 1) (suc (t - 1) * (most_steps body + 2)) =
    turns loop (t - 1) head.last head.at (omega (arith, l.some_turns, l.few_turns)) counts in
    let place : k + 1 + length (inner ++ last) ≡ k + 1 + n + 1 + 1 = omega (arith, both) in
    let words : EachAt (IsWordAt m b) (k + 1 + n + 1 + 1) (code d rest) = subst (λ j. EachAt (IsWordAt m b) j (code d rest)) place far.1 in
    let on : Passes q b m d round.last (k + 1 + n + 1 + 1 + after) (most_steps rest) =
    passes q b d m rest (k + 1 + n + 1 + 1) round.last g h deep (omega (arith, room, both, all)) words round.at in
    let times : suc (t - 1) * (most_steps body + 2) ≡ t * (most_steps body + 2) =
    let e : suc (t - 1) ≡ t = omega (arith, l.some_turns) in ap (λ (x : ℕ). x * (most_steps body + 2)) e in
    within (1 + t * (most_steps body + 2) + most_steps rest) (omega (arith, times))
    (moved (k + 1 + n + 1 + 1 + after) (k + suc (length ((inner ++ last) ++ code d rest))) (omega (arith, both, all)) (glue (glue head round) on))

-- ---- the laws

pub through : (d a : ℕ) (p : Pieces) (s : State) → AreShaped d p → d ≤ 4 → a % 2 ≡ 0 → a + 4 * length (code d p) < 2 ^ 64
    → s.pc ≡ a → EachAt (IsWordAt s.mem a) 0 (code d p) → PassesThrough d p a s
through d a p s h deep even room pc w =
    let q : ℕ = a + 4 * length (code d p) in
    let r : Passes q a s.mem d s (0 + length (code d p)) (most_steps p) =
    passes q a d s.mem p 0 s (record { even = even; below = room }) h deep (omega arith) w (record { pc = omega (arith, pc); mem = refl }) in (
      r.last,
      r.steps,
      record {
        ran = way-run q s r.last r.steps r.way;
        few = r.few;
        pc = omega (arith, r.at.pc);
        mem = r.at.mem;
        kept = r.kept;
      },
    )

abbrev return : Instr
return = Jalr 0 1 (pos 0)

-- where the return goes
returning : (x : ℕ) → x ≡ behind → jump_target x (pos 0) ≡ start + 4 * 0x4000
returning x e = ap (λ (y : ℕ). jump_target y (pos 0)) e

pub returns : (number size : ℕ) (s : State) → size ≤ 600 → StartsProgram number size s → Returns size s
returns number size s small begins =
    let p : Pieces = (drawn size 0 number).pieces in
    let n : ℕ = length (code 0 p) in
    let ground : Ground behind start = record { even = refl; below = omega arith } in
    let few : 3 * n ≤ 5 * size = drawn-count size 0 number in
    let words = each-split (IsWordAt s.mem start) 0 (code 0 p) (Jalr 0 1 (pos 0) ∷ []) begins.code in
    let r : Passes behind start s.mem 0 s (0 + n) (most_steps p) =
    passes behind start 0 s.mem p 0 s ground (drawn-shaped size 0 number small (omega arith)) (omega arith) (omega (arith, few, small)) words.0
    (record { pc = omega (arith, begins.pc); mem = refl }) in
    let here : Here behind start (0 + n) s.mem return r.last =
    record { ground = ground; at = r.at; word = words.1.0; fits = refl; below = omega (arith, few, small) } in
    let link : reads 1 r.last ≡ behind = r.kept 1 (λ e. omega (arith, e)) (omega arith) ∙ begins.returns in
    let to : jump_target (reads 1 r.last) (pos 0) ≡ start + 4 * 0x4000 = returning (reads 1 r.last) link in
    let there : IsAtReturn r.last = found here in
    let out : step r.last ≡ Some (updated return 4 r.last) = updated-step return r.last there refl ∙ (λ i. Some (updated return (four here i) r.last)) in
    let bound : most_steps p ≤ 512 * size = drawn-steps size 0 number (omega arith) in
    record {
      last = updated return 4 r.last;
      steps = r.steps + 1;
      some = omega arith;
      few = omega (arith, r.few, bound);
      meets = λ most h. (
        h,
        return-run behind r.steps s r.last (updated return 4 r.last) r.way (under here) there out,
        to,
        return-misses behind r.steps s r.last (updated return 4 r.last) r.way (under here) there out behind (omega arith),
      );
      mem = r.at.mem;
      untouched = return-untouched behind r.steps s r.last (updated return 4 r.last) r.way (under here) there out;
      returns = return-last behind r.steps s r.last (updated return 4 r.last) r.way (under here) there out;
      first = return-first behind r.steps s r.last (updated return 4 r.last) r.way (under here) there out;
    }
