-- The lines of one instruction, and of one exit of a call.
use Rattle.std.specs.Prelude.{◌≡◌, ◌⊎◌, ℕ, suc, ◌==◌, not, filter, if◌then◌else◌, true, false, List, [], ◌∷◌, ◌++◌, map, Option, None, Some}
use Rattle.std.specs.List.{Contains, range_with_len}
use Rattle.rv_words.specs.Bytes.{over}
use Rattle.rv_words.specs.declared.range.Range.{Range}
use Rattle.rv_words.specs.Ranges.{range_bytes}
use Rattle.rv_decode.specs.declared.instruction.Instr.{Instr}
use Rattle.rv_decode.specs.Registers.{destination}
use Rattle.rvc.specs.Number.{length_of}
use Rattle.rv_words.specs.declared.comparison.Cmp.TheVariants.{Eq}
use Rattle.word_terms.specs.Tree.{WordTree, MemTree, Compare, Const, Var, MemVar}
use Rattle.tailrec_lang.specs.declared.group.Exit.{Exit}
use Rattle.tailrec_lang.specs.declared.group.Exit.TheVariants.{At, Ret}
use Rattle.tailrec_lang.specs.Tree.{ValuesTree}
use Rattle.triple_kernel.specs.declared.form.Form.{Form}
use Rattle.triple_kernel.specs.Tree.{FactTree, Gives, MemIs, So, TripleTree, WordIs}
use Rattle.frame_compose.specs.Rules.{AreMissing}
use Rattle.instr_axioms.specs.Terms.{conditions, has_memory, memory_after, pc_after, result, word_after}
use Rattle.instr_axioms.specs.Axiom.{own, own_triple, register_with, triple_over, word_code}
use Rattle.mc_text.specs.Number.{IsNumber}
use Rattle.proof_text.specs.Line.{Axiom, Compose, Frame, Inst, UseExit, Weaken}
use Rattle.proof_text.specs.LineLimits.{IsRule, IsTriple}
use Rattle.code_parts.specs.Bodies.{Flow, VariableMap, current, fresh, is_store, names, place_after, start, with_pc}
use Rattle.path_walk.specs.Further.{is_crossed}
use Rattle.path_walk.specs.inner.Histories.{exit_place, pc_of}
use Rattle.path_walk.specs.inner.Writers.{WriterTree, CitedTree, OriginTree, Restated, front, standing_at, standing_on, standing_over, stating, stating_further}

-- the terms for the variables from i on
abbrev pub numbered : {A : Type 0} → ℕ → List A → List (ℕ × A)
numbered i [] = []
numbered i (t ∷ ts) = (i, t) ∷ numbered (suc i) ts

-- ---- one instruction

-- the memories in order, and the one that the instruction loads from or stores to, if it does
abbrev pub all_mems : ℕ → List ℕ
all_mems mems = range_with_len 0 mems

abbrev pub own_mem : Instr → ℕ → List ℕ
own_mem i q = if has_memory i then q ∷ [] else []

-- .. in front of the others
abbrev pub mem_first : Instr → ℕ → ℕ → List ℕ
mem_first i q mems = if has_memory i then q ∷ filter (λ p. not (p == q)) (all_mems mems) else all_mems mems

-- the memories after an instruction that may store to memory q
abbrev pub mem_after : Instr → ℕ → VariableMap → ℕ → MemTree
mem_after i q v p = if p == q then memory_after i (names v q) else MemVar (v.memory p)

-- the current variables of an instruction's own registers and of its memory, for those of its axiom
abbrev pub own_words : Instr → VariableMap → List (ℕ × WordTree)
own_words i v = numbered 0 (map (λ r. Var (v.reg r)) (own i))

abbrev pub own_mems : Instr → ℕ → VariableMap → List (ℕ × MemTree)
own_mems i q v = numbered 0 (map (λ p. MemVar (v.memory p)) (own_mem i q))

-- what the definition knows of the new variable
abbrev pub new_facts : Instr → ℕ → ℕ → ℕ → VariableMap → List FactTree
new_facts i a k q v =
    if is_store i then MemIs (MemVar v.mems) (memory_after i (names v q)) ∷ [] else (if destination i == 0 then [] else WordIs (Var v.words) (result i a k (names v q)) ∷ [])

-- the instruction's triple over the current variables, with these registers and these memories
abbrev pub triple_on : Instr → Form → ℕ → ℕ → List Range → List ℕ → List ℕ → ℕ → VariableMap → TripleTree
triple_on i form a k code regs ms q v = record {
  facts = map So (conditions i form (names v q));
  pre = record { pc = Const a; regs = map (register_with (names v q).word) regs; mems = map (λ p. MemVar (v.memory p)) ms };
  code = code;
  post = record { pc = pc_after i form a k (names v q); regs = map (register_with (word_after i a k (names v q))) regs; mems = map (mem_after i q v) ms };
}

-- .. with new variables for what was written
abbrev pub named_triple : Instr → Form → ℕ → ℕ → List Range → List ℕ → List ℕ → ℕ → VariableMap → TripleTree
named_triple i form a k code regs ms q v = record {
  facts = map So (conditions i form (names v q)) ++ new_facts i a k q v;
  pre = standing_over (Const a) regs ms v;
  code = code;
  post = standing_over (pc_after i form a k (names v q)) regs ms (place_after i q v);
}

-- its axiom, and that over the current variables
abbrev pub Put : Instr → Form → ℕ → ℕ → ℕ → VariableMap → WriterTree → WriterTree → ℕ → Type 0
Put i form a w q v old new k =
    Restated old.next (Inst old.next (own_words i v) (own_mems i q v)) (own_triple i form a w) (triple_over i form a (length_of w) (word_code a w) (own i) (has_memory i) (names v q)) (stating (Axiom a w form) (own_triple i form a w) old) new k

-- that theorem with new variables, over its own registers and its own memory
abbrev pub named_own : Instr → Form → ℕ → ℕ → ℕ → VariableMap → TripleTree
named_own i form a w q v = named_triple i form a (length_of w) (word_code a w) (own i) (own_mem i q) q v

abbrev pub Renamed : Instr → Form → ℕ → ℕ → ℕ → VariableMap → ℕ → WriterTree → WriterTree → ℕ → Type 0
Renamed i form a w q v current old new k =
    Restated current (Weaken current) (triple_over i form a (length_of w) (word_code a w) (own i) (has_memory i) (names v q)) (named_own i form a w q v) old new k

-- .. over these registers and these memories
abbrev pub named_wide : List ℕ → Instr → Form → ℕ → ℕ → List ℕ → ℕ → VariableMap → TripleTree
named_wide regs i form a w ms q v = named_triple i form a (length_of w) (word_code a w) regs ms q v

-- .. with the memories in order, by the further rule of the text where its own isn't the first
abbrev pub Ordered : (regs : List ℕ) (mems : ℕ) → Instr → Form → ℕ → ℕ → ℕ → VariableMap → ℕ → WriterTree → WriterTree → ℕ → Type 0
Ordered regs mems i form a w q v framed old new k =
    ((is_crossed i q ≡ false) × (new ≡ old) × (k ≡ framed))
    ⊎ ((is_crossed i q ≡ true) × (new ≡ stating_further framed (named_wide regs i form a w (all_mems mems) q v) old) × (k ≡ old.next))

-- that theorem over these registers and all memories, its own in front, and then in order
pub record Widened (regs : List ℕ) (mems : ℕ) (i : Instr) (form : Form) (a w q : ℕ) (v : VariableMap) (named : ℕ) (old new : WriterTree) (k : ℕ) : Type 0 where
  pub framed : ℕ
  pub mid : WriterTree
  pub wide : Restated named (Frame named) (named_own i form a w q v) (named_wide regs i form a w (mem_first i q mems) q v) old mid framed
  pub order : Ordered regs mems i form a w q v framed mid new k

-- all of these; theorem k is what they end with
pub record Acted (regs : List ℕ) (mems : ℕ) (i : Instr) (form : Form) (a w q : ℕ) (v : VariableMap) (old new : WriterTree) (k : ℕ) : Type 0 where
  pub current : ℕ
  pub named : ℕ
  pub second : WriterTree
  pub third : WriterTree
  pub put : Put i form a w q v old second current
  pub renamed : Renamed i form a w q v current second third named
  pub widened : Widened regs mems i form a w q v named third new k

-- .. with its facts and its code
abbrev pub act_standing : Instr → Form → ℕ → ℕ → ℕ → VariableMap → ℕ → CitedTree
act_standing i form a w q v k = record { number = k; facts = map So (conditions i form (names v q)) ++ new_facts i a (length_of w) q v; code = word_code a w }

-- the registers of an instruction are among these
abbrev pub HasOwn : List ℕ → Instr → Type 0
HasOwn regs i = (r : ℕ) → Contains (own i) r → Contains regs r

-- these lines have a text
pub record IsFineInstruction (regs : List ℕ) (mems : ℕ) (i : Instr) (form : Form) (a w q : ℕ) (v : VariableMap) : Type 0 where
  pub rule : (k : ℕ) → IsNumber k → IsRule (Inst k (own_words i v) (own_mems i q v))
  pub first : IsTriple (own_triple i form a w)
  pub current_over : IsTriple (triple_over i form a (length_of w) (word_code a w) (own i) (has_memory i) (names v q))
  pub named : IsTriple (named_own i form a w q v)
  pub wide : IsTriple (named_wide regs i form a w (mem_first i q mems) q v)
  pub in_order : IsTriple (named_wide regs i form a w (all_mems mems) q v)

-- ---- one exit of a call

-- what the definition is left with by an exit: the next variables
abbrev pub results_at : Flow → Exit → ℕ → ℕ → ValuesTree
results_at f (At a) words mems = current f (fresh f words mems)
results_at f Ret words mems = with_pc (Var words) (current f (fresh f (suc words) mems))

-- the triple of exit k of definition d, over these variables
abbrev pub gives_over : Flow → List Range → ℕ → ℕ → ℕ → Exit → VariableMap → TripleTree
gives_over f ranges entry d k x v = record {
  facts = Gives d k (current f v) (results_at f x v.words v.mems) ∷ [];
  pre = standing_at f (Const entry) v;
  code = ranges;
  post = standing_at f (pc_of x v.words) (exit_place f x v.words v.mems);
}

-- the current variables for the parameters, and the next ones for the results
abbrev pub call_words : Flow → Exit → VariableMap → List (ℕ × WordTree)
call_words f x v = numbered 0 ((current f v).words ++ (results_at f x v.words v.mems).words)

abbrev pub call_mems : Flow → Exit → VariableMap → List (ℕ × MemTree)
call_mems f x v = numbered 0 ((current f v).mems ++ (results_at f x v.words v.mems).mems)

-- its lines: over the parameters, and over the current variables
abbrev pub Exited : Flow → List Range → ℕ → ℕ → ℕ → Exit → VariableMap → WriterTree → WriterTree → ℕ → Type 0
Exited f ranges entry d k x v old new j =
    Restated old.next (Inst old.next (call_words f x v) (call_mems f x v)) (gives_over f ranges entry d k x (start f)) (gives_over f ranges entry d k x v) (stating (UseExit d k) (gives_over f ranges entry d k x (start f)) old) new j

-- the theorem that these end with
abbrev pub exit_standing : Flow → List Range → ℕ → ℕ → Exit → VariableMap → ℕ → CitedTree
exit_standing f ranges d k x v j = record { number = j; facts = Gives d k (current f v) (results_at f x v.words v.mems) ∷ []; code = ranges }

-- these lines have a text
pub record IsFineExit (f : Flow) (ranges : List Range) (entry d k : ℕ) (x : Exit) (v : VariableMap) : Type 0 where
  pub rule : (j : ℕ) → IsNumber j → IsRule (Inst j (call_words f x v) (call_mems f x v))
  pub first : IsTriple (gives_over f ranges entry d k x (start f))
  pub current_over : IsTriple (gives_over f ranges entry d k x v)

-- ---- a return to the address behind a call

-- the theorem of a way whose last program counter is a term, with that address for it, where a fact says that the two are equal
abbrev pub steered : Flow → ℕ → WordTree → ℕ → VariableMap → CitedTree → WriterTree → WriterTree
steered f entry pc back u t l = stating_further t.number (record {
  facts = t.facts ++ So (Compare Eq pc (Const back)) ∷ [];
  pre = standing_at f (Const entry) (start f);
  code = t.code;
  post = standing_at f (Const back) u;
}) l

-- the theorem that this ends with
abbrev pub steered_standing : WordTree → ℕ → CitedTree → WriterTree → CitedTree
steered_standing pc back t l = record { number = l.next; facts = t.facts ++ So (Compare Eq pc (Const back)) ∷ []; code = t.code }

-- ---- joined to the way to here

-- a fact was added, if it isn't known
abbrev pub IsAdded : (known : List FactTree) (x : FactTree) (old new : List FactTree) → Type 0
IsAdded known x old new = (Contains known x × (new ≡ old)) ⊎ ((Contains known x → ⊥) × (new ≡ old ++ x ∷ []))

-- a theorem after another, which leads from the way's origin
pub record Joined (f : Flow) (o : OriginTree) (st there : CitedTree) (to : WordTree) (u : VariableMap) (old new : WriterTree) (t : CitedTree) : Type 0 where
  pub more : List FactTree
  pub are : AreMissing st.facts there.facts more
  pub facts : t.facts ≡ st.facts ++ more
  pub bytes : range_bytes t.code ≡ over (range_bytes st.code) (range_bytes there.code)
  pub number : t.number ≡ old.next
  pub log : new ≡ stating (Compose st.number there.number) (record { facts = t.facts; pre = standing_on f o (Const o.entry) o.place; code = t.code; post = standing_on f o to u }) old

-- at the origin it stands by itself
abbrev pub GoesOn : (f : Flow) (o : OriginTree) → Option CitedTree → CitedTree → WordTree → VariableMap → WriterTree → WriterTree → CitedTree → Type 0
GoesOn f o None there to u old new t = (new ≡ old) × (t ≡ there)
GoesOn f o (Some st) there to u old new t = Joined f o st there to u old new t

-- the lines of an exit of a definition that is entered at that address, joined to the way to there
pub record LeftBy (f : Flow) (entry : ℕ) (ranges : List Range) (called d k : ℕ) (x : Exit) (v : VariableMap) (from : Option CitedTree) (old new : WriterTree) (t : CitedTree) : Type 0 where
  pub number : ℕ
  pub mid : WriterTree
  pub exited : Exited f ranges called d k x v old mid number
  pub on : GoesOn f (front f entry) from (exit_standing f ranges d k x v number) (pc_of x v.words) (exit_place f x v.words v.mems) mid new t

-- ---- a call of a function that returns

-- the lines of its exit, joined to the way to here, and of the return to the address behind the call
pub record Entered (f : Flow) (entry : ℕ) (ranges : List Range) (called d back : ℕ) (u : VariableMap) (from : Option CitedTree) (old new : WriterTree) (t : CitedTree) : Type 0 where
  pub mid : WriterTree
  pub last : CitedTree
  pub on : LeftBy f entry ranges called d 0 Ret u from old mid last
  pub log : new ≡ steered f entry (Var u.words) back (fresh f (suc u.words) u.mems) last mid
  pub theorem : t ≡ steered_standing (Var u.words) back last mid
