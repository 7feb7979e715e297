-- Where a definition is entered and left, as parts of a state, and ways of the machine from one such part to another.
use Rattle.std.proofs.Common.{◌≡◌, ℕ, zero, suc, ◌+◌, List, [], ◌∷◌, map, drop, refl, sym, ◌∙◌, arith, Option, Some, None}
use Rattle.std.specs.Prelude.{slice_index_or, zip, option_and_then}
use Rattle.rv_words.specs.Bytes.{Bytes}
use Rattle.word_terms.specs.Tree.{WordTree, MemTree, Const}
use Rattle.word_terms.specs.Environment.{Environment}
use Rattle.word_terms.specs.Value.{word_value, mem_value}
use Rattle.tailrec_lang.specs.declared.group.Exit.{Exit}
use Rattle.tailrec_lang.specs.declared.group.Exit.TheVariants.{At, Ret}
use Rattle.tailrec_lang.specs.Tree.{ValuesTree, GroupTree}
use Rattle.tailrec_lang.specs.Eval.{Arguments, arguments_of}
use Rattle.rv_machine.specs.State.{State}
use Rattle.rv_machine.specs.Step.{step}
use Rattle.rv_machine.specs.Run.{run}
use Rattle.sep_assert.specs.Part.{Key, Pc, Register, Byte, both, Part, ◌⊕◌, slot_of, nothing, pc_part, register_part, bytes_part, code_part, registers_part, mems_part, part_of}
use Rattle.rv_words.specs.Ranges.{range_bytes}
use Rattle.sep_assert.specs.Code.{IsWithin}
use Rattle.sep_assert.proofs.Unions.{union-assoc}
use Rattle.triple_kernel.specs.Tree.{TripleTree}
use Rattle.triple_kernel.specs.Fact.{AllHold}
use Rattle.triple_kernel.specs.Valid.{Valid, Reaches, state_part}
use Rattle.loop_rule.specs.Leaves.{with_values, at_exit}

-- ---- places

abbrev pub registers : List ℕ → List ℕ → Part
registers [] ns = nothing
registers (r ∷ rs) [] = nothing
registers (r ∷ rs) (n ∷ ns) = register_part r n ⊕ registers rs ns

abbrev pub memories : List Bytes → Part
memories [] = nothing
memories (m ∷ ms) = bytes_part m ⊕ memories ms

-- the program counter, the group's registers and its memories
abbrev pub place : GroupTree → ℕ → Arguments → Part
place g pc x = pc_part pc ⊕ (registers g.regs x.words ⊕ memories x.mems)

-- where an exit was left by with these results
abbrev pub place_after : GroupTree → Option Exit → Arguments → Part
place_after g None x = place g 0 x
place_after g (Some (At a)) x = place g a x
place_after g (Some Ret) x = place g (slice_index_or x.words 0 0) (record { words = drop 1 x.words; mems = x.mems })

registers-are : (rs : List ℕ) (ts : List WordTree) (e : Environment) → registers_part (zip rs ts) e ≡ registers rs (map (λ t. word_value t e) ts)
registers-are [] ts e = refl
registers-are (r ∷ rs) [] e = refl
registers-are (r ∷ rs) (t ∷ ts) e = λ i. register_part r (word_value t e) ⊕ registers-are rs ts e i

memories-are : (ms : List MemTree) (e : Environment) → mems_part ms e ≡ memories (map (λ m. mem_value m e) ms)
memories-are [] e = refl
memories-are (m ∷ ms) e = λ i. bytes_part (mem_value m e) ⊕ memories-are ms e i

-- the part that an assertion on the group's registers and memories describes
pub place-is : (g : GroupTree) (pc : WordTree) (v : ValuesTree) (e : Environment) → part_of (with_values g pc v) e ≡ place g (word_value pc e) (arguments_of v e)
place-is g pc v e = λ i. pc_part (word_value pc e) ⊕ (registers-are g.regs v.words e i ⊕ memories-are v.mems e i)

first-is : (ts : List WordTree) (e : Environment) → word_value (slice_index_or ts 0 (Const 0)) e ≡ slice_index_or (map (λ t. word_value t e) ts) 0 0
first-is [] e = refl
first-is (t ∷ ts) e = refl

others-are : (ts : List WordTree) (e : Environment) → map (λ t. word_value t e) (drop 1 ts) ≡ drop 1 (map (λ t. word_value t e) ts)
others-are [] e = refl
others-are (t ∷ ts) e = refl

pub place_after-is : (g : GroupTree) (x : Option Exit) (v : ValuesTree) (e : Environment) → part_of (at_exit g x v) e ≡ place_after g x (arguments_of v e)
place_after-is g None v e = place-is g (Const 0) v e
place_after-is g (Some (At a)) v e = place-is g (Const a) v e
place_after-is g (Some Ret) v e =
    let others : ValuesTree = record { words = drop 1 v.words; mems = v.mems } in
    place-is g (slice_index_or v.words 0 (Const 0)) others e
    ∙ (λ i. place g (first-is v.words e i) (record { words = others-are v.words e i; mems = map (λ m. mem_value m e) v.mems }))

-- ---- ways

-- the group's code leads from the one part to the other, whatever else there is
abbrev pub Goes : GroupTree → Part → Part → Type 0
Goes g p q = (rest : Part) (s : State) → state_part s ≡ p ⊕ (code_part g.code ⊕ rest) → (u : State) × Reaches s u × (state_part u ≡ q ⊕ (code_part g.code ⊕ rest))

run-on_from : (o : Option State) (t : State) (a b : ℕ) → ((r : State) → run r a ≡ Some t → run r (a + b) ≡ run t b) → option_and_then (λ r. run r a) o ≡ Some t
    → option_and_then (λ r. run r (a + b)) o ≡ run t b
run-on_from None t a b rest e = absurd (cc)
run-on_from (Some r) t a b rest e = rest r e

run-on : (s t : State) (a b : ℕ) → run s a ≡ Some t → run s (a + b) ≡ run t b
unfolding run
run-on s t zero b e =
    let none : 0 + b ≡ b = omega arith in
    let same : s ≡ t = cc in
    (λ i. run (same i) (none i))
run-on s t (suc a) b e =
    let one : suc a + b ≡ suc (a + b) = omega arith in
    (λ i. run s (one i)) ∙ run-on_from (step s) t a b (λ r. run-on r t a b) e

pub reaches-on : (s t u : State) → Reaches s t → Reaches t u → Reaches s u
reaches-on s t u a b = record { steps = a.steps + b.steps; ran = run-on s t a.steps b.steps a.ran ∙ b.ran }

pub goes-on : (g : GroupTree) (p q r : Part) → Goes g p q → Goes g q r → Goes g p r
goes-on g p q r a b rest s whole =
    let first = a rest s whole in
    let then = b rest first.0 first.2 in
    (then.0, reaches-on s first.0 then.0 first.1 then.1, then.2)

-- ---- code within code

-- the bytes that are only in the larger code
abbrev beyond : Option ℕ → Option ℕ → Option ℕ
beyond None q = q
beyond (Some b) q = None

split-byte : (o q : Option ℕ) → ((b : ℕ) → o ≡ Some b → q ≡ Some b) → slot_of q ≡ both (slot_of o) (slot_of (beyond o q))
split-byte None q within = refl
split-byte (Some b) q within = λ i. slot_of (within b refl i)

split-code_at : (x y : Bytes) → IsWithin x y → (k : Key) → bytes_part y k ≡ both (bytes_part x k) (bytes_part (λ a. beyond (x a) (y a)) k)
split-code_at x y within Pc = refl
split-code_at x y within (Register r) = refl
split-code_at x y within (Byte a) = split-byte (x a) (y a) (within a)

-- the larger code is the smaller one and more
pub split-code : (x y : Bytes) → IsWithin x y → bytes_part y ≡ bytes_part x ⊕ bytes_part (λ a. beyond (x a) (y a))
split-code x y within = λ i k. split-code_at x y within k i

-- a valid triple is a way of the group's code, where its facts hold and its code lies within
pub valid-goes : (g : GroupTree) (p : TripleTree) (e : Environment) → Valid g p → AllHold g e p.facts → IsWithin (range_bytes p.code) (range_bytes g.code) → Goes g (part_of p.pre e) (part_of p.post e)
valid-goes g p e valid holds within rest s whole =
    let more : Part = bytes_part (λ a. beyond (range_bytes p.code a) (range_bytes g.code a)) in
    let same : code_part g.code ⊕ rest ≡ code_part p.code ⊕ (more ⊕ rest) =
    (λ i. split-code (range_bytes p.code) (range_bytes g.code) within i ⊕ rest) ∙ union-assoc (code_part p.code) more rest in
    let r = valid.runs e holds (more ⊕ rest) s (whole ∙ (λ i. part_of p.pre e ⊕ same i)) in
    (r.0, r.1, r.2 ∙ (λ i. part_of p.post e ⊕ sym same i))
