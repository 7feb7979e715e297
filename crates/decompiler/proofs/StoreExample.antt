-- A function that stores, of which nothing is lost.
-- 0x10000: sw x10, 0(x11); jalr x0, 0(x1)
use Rattle.std.proofs.Common.{◌≡◌, ℕ, zero, suc, ◌+◌, ◌<◌, ◌≤◌, true, false, ◌&&◌, Option, Some, None, List, [], ◌∷◌, Contains, refl, sym, ap, subst, ◌∙◌, arith, leb, ltb}
use Rattle.std.specs.Prelude.{◌==◌, if◌then◌else◌, slice_get, slice_index_or, pos}
use Rattle.std.specs.Int.{w32, to_le_bytes}
use Rattle.std.specs.Option.{unwrap_or}
use Rattle.rv_words.specs.Bytes.{bytes_from, over}
use Rattle.rv_words.specs.declared.width.Width.TheVariants.{B4}
use Rattle.rv_decode.specs.declared.instruction.Instr.{Instr}
use Rattle.rv_decode.specs.declared.instruction.Instr.TheVariants as instr
use Rattle.rv_decode.specs.Decodes.{decoded}
use Rattle.rvc.specs.Number.{bytes_of}
use Rattle.rv_machine.specs.State.{State}
use Rattle.rv_machine.specs.Step.{instruction_at, step}
use Rattle.rv_machine.specs.Run.{run, IsAtReturn}
use Rattle.rv_machine.specs.Touches.{IsTouched, touched, touches}
use Rattle.rv_machine.proofs.StepLemmas.{touches-at}
use Rattle.word_terms.specs.Tree.{Const}
use Rattle.rv_words.specs.Ranges.{range_bytes}
use Rattle.sep_assert.specs.Code.{IsWithin}
use Rattle.elf_image.specs.Image.{code_of_file}
use Rattle.tailrec_lang.specs.Tree.{GroupTree}
use Rattle.triple_kernel.specs.declared.form.Form.{Form}
use Rattle.triple_kernel.specs.declared.form.Form.TheVariants.{Next, Taken}
use Rattle.instr_axioms.specs.Terms.{Names, pc_after, has_form}
use Rattle.instr_axioms.specs.Axiom.{word_code}
use Rattle.code_parts.specs.declared.part.Part.{Part}
use Rattle.code_parts.specs.declared.part.Part.TheVariants.{Loop, Rest}
use Rattle.code_parts.specs.Bodies.{Flow, part_def}
use Rattle.code_parts.specs.Graph.{IsAlone, has_edge, IsEdge, IsPart, IsPlaced, IsGraph, StandsAt, IsCode}
use Rattle.claims.specs.Headline.{Region, is_within}
use Rattle.claims.specs.Exact.{FirstReturns, Exact}
use Rattle.decompiler.specs.Parts.{HasParts}
use Rattle.decompiler.proofs.Examples.{some_in, or_none, no_cut}
use Rattle.decompiler.proofs.Counts.{exact-of}
use Rattle.decompiler.proofs.Runs.{gains}

abbrev instructions : ℕ → Instr
instructions n = slice_index_or (instr.Store B4 11 10 (pos 0) ∷ instr.Jalr 0 1 (pos 0) ∷ []) n instr.Ecall

abbrev goes_to : ℕ → Form → ℕ
goes_to n form = suc n

abbrev words : ℕ → ℕ
words n = slice_index_or (0x00a5_a023 ∷ 0x0000_8067 ∷ []) n 0

abbrev storing : Flow
storing = record {
  nodes = 2;
  loops = 0;
  addr = λ n. slice_index_or (0x10000 ∷ 0x10004 ∷ []) n 0;
  word = words;
  instr = instructions;
  to = goes_to;
  is_cut = λ n. slice_index_or (true ∷ false ∷ []) n false;
  loop_of = λ n. None;
  around = λ n. None;
  head = λ l. 0;
  exits = λ l. [];
  returns = true;
  number = λ p. 0;
  regs = 1 ∷ 10 ∷ 11 ∷ [];
  mems = 1;
  uses = λ n. 0;
  callee = λ n. None;
}

abbrev bytes : List ℕ
bytes = 0x23 ∷ 0xa0 ∷ 0xa5 ∷ 0x00 ∷ 0x67 ∷ 0x80 ∷ 0x00 ∷ 0x00 ∷ []

abbrev group : GroupTree
group = record {
  name = 0x73 ∷ [];
  regs = 1 ∷ 10 ∷ 11 ∷ [];
  mems = 1;
  code = record { at = 0x10000; bytes = bytes } ∷ [];
  defs = part_def storing (Rest None 0) ∷ [];
}

abbrev whole : Option ℕ
whole = None

rank : ℕ → ℕ
rank n = slice_index_or (1 ∷ []) n 0

is_graph : IsGraph storing
unfolding rank
is_graph = record {
  inner = λ n. None;
  rank = rank;
  stays = stays;
  placed = placed;
  near = near;
  returned = λ n lt h. (refl, refl);
  cut_inner = λ n lt c h. refl;
  head_is = λ n l lt h. absurd (cc);
  loop_head = λ l lt. absurd (omega (arith, lt));
  calls = λ n c lt e. absurd (cc);
  loop_exit = λ l k x lt h. absurd (omega (arith, lt));
}
  where
    stays : (n m : ℕ) → n < 2 → IsEdge storing n m → storing.is_cut m ≡ false → (m < 2) × (whole ≡ whole) × (rank m < rank n)
    stays zero m lt (Next, h, e) c = subst (λ k. (k < 2) × (whole ≡ whole) × (rank k < rank 0)) e (omega arith, refl, omega arith)
    stays zero m lt (Taken, h, e) c = absurd (no_cut h)
    stays (suc zero) m lt (form, h, e) c = absurd (no_cut h)
    stays (suc (suc n)) m lt edge c = absurd (omega arith)

    placed : (n m : ℕ) → n < 2 → IsEdge storing n m → storing.is_cut m ≡ true → (m < 2) × IsPlaced storing None m
    placed zero m lt (Next, h, e) c = absurd (no_cut (ap storing.is_cut e ∙ c))
    placed zero m lt (Taken, h, e) c = absurd (no_cut h)
    placed (suc zero) m lt (form, h, e) c = absurd (no_cut h)
    placed (suc (suc n)) m lt edge c = absurd (omega arith)

    near : (n : ℕ) → n < 2 → rank n < 32
    near zero lt = omega arith
    near (suc n) lt = omega arith

four_in : (k w : ℕ) → ((j b : ℕ) → slice_get (bytes_of w) j ≡ Some b → slice_get bytes (k + j) ≡ Some b) → IsWithin (range_bytes (word_code (0x10000 + k) w)) (range_bytes group.code)
four_in k w at q b e = or_none (bytes_from 0x10000 bytes q) ∙ some_in 0x10000 k (bytes_of w) bytes at q b (sym (or_none (bytes_from (0x10000 + k) (bytes_of w) q)) ∙ e)

first_four : (j b : ℕ) → slice_get (to_le_bytes w32 0x00a5_a023) j ≡ Some b → slice_get bytes (0 + j) ≡ Some b
first_four zero b e = e
first_four (suc zero) b e = e
first_four (suc (suc zero)) b e = e
first_four (suc (suc (suc zero))) b e = e
first_four (suc (suc (suc (suc j)))) b e = absurd (cc)

second_four : (j b : ℕ) → slice_get (to_le_bytes w32 0x0000_8067) j ≡ Some b → slice_get bytes (4 + j) ≡ Some b
second_four zero b e = e
second_four (suc zero) b e = e
second_four (suc (suc zero)) b e = e
second_four (suc (suc (suc zero))) b e = e
second_four (suc (suc (suc (suc j)))) b e = absurd (cc)

abbrev regs : List ℕ
regs = 1 ∷ 10 ∷ 11 ∷ []

stores : StandsAt storing group.code 0
unfolding decoded
stores = record {
  address = omega arith;
  even = refl;
  room = omega arith;
  small = omega arith;
  is = refl;
  bytes = four_in 0 0x00a5_a023 first_four;
  reads = reads;
  writes = λ ne. absurd (ne refl);
  memory = λ h. omega arith;
  form = form;
  goes = λ form v none e. goes form v e;
  calls = λ c e. absurd (let clash : None ≡ Some c = e in cc);
  return_is = λ h. absurd (no_cut h);
}
  where
    reads : (r : ℕ) → Contains (11 ∷ 10 ∷ []) r → (r ≡ 0 → ⊥) → Contains regs r
    reads r (zero, l, e) ne = (2, omega arith, e)
    reads r (suc zero, l, e) ne = (1, omega arith, e)
    reads r (suc (suc k), l, e) ne = absurd (omega arith)

    form : (g : Form) → has_edge (instructions 0) g ≡ true → has_form (instructions 0) g ≡ true
    form Next h = refl
    form Taken h = absurd (no_cut h)

    goes : (g : Form) (v : Names) → has_edge (instructions 0) g ≡ true → pc_after (instructions 0) g 0x10000 4 v ≡ Const (storing.addr (goes_to 0 g))
    goes Next v h = refl
    goes Taken v h = absurd (no_cut h)

comes_back : StandsAt storing group.code 1
unfolding decoded
comes_back = record {
  address = omega arith;
  even = refl;
  room = omega arith;
  small = omega arith;
  is = refl;
  bytes = four_in 4 0x0000_8067 second_four;
  reads = reads;
  writes = λ ne. absurd (ne refl);
  memory = λ h. omega arith;
  form = form;
  goes = λ form v none e. goes form v e;
  calls = λ c e. absurd (let clash : None ≡ Some c = e in cc);
  return_is = λ h. refl;
}
  where
    reads : (r : ℕ) → Contains (1 ∷ []) r → (r ≡ 0 → ⊥) → Contains regs r
    reads r (zero, l, e) ne = (0, omega arith, e)
    reads r (suc k, l, e) ne = absurd (omega arith)

    form : (g : Form) → has_edge (instructions 1) g ≡ true → has_form (instructions 1) g ≡ true
    form g h = absurd (no_cut h)

    goes : (g : Form) (v : Names) → has_edge (instructions 1) g ≡ true → pc_after (instructions 1) g 0x10004 4 v ≡ Const (storing.addr (goes_to 1 g))
    goes g v h = absurd (no_cut h)

is_code : IsCode storing group.code
is_code = record { each = each; registers = (omega arith, omega arith, (omega arith, omega arith, (omega arith, omega arith, tt))) }
  where
    each : (n : ℕ) → n < 2 → StandsAt storing group.code n
    each zero lt = stores
    each (suc zero) lt = comes_back
    each (suc (suc n)) lt = absurd (omega arith)

has_parts : HasParts storing 0 group
has_parts = record { regs = refl; mems = refl; defs = defs; whole = (omega arith, refl, refl); last = refl }
  where
    defs : (p : Part) → IsPart storing p → slice_get group.defs 0 ≡ Some (part_def storing p)
    defs (Loop l) lt = absurd (omega (arith, lt))
    defs (Rest r zero) (lt, cut, at) = ap (λ q. Some (part_def storing (Rest q 0))) at
    defs (Rest r (suc zero)) (lt, cut, at) = absurd (no_cut cut)
    defs (Rest r (suc (suc n))) (lt, cut, at) = absurd (omega arith)

by_itself : IsAlone storing
by_itself = record { mems = omega arith; uses = λ n lt. refl; calls = λ n lt. refl }

pub exact-storing : (file : List ℕ) → IsWithin (range_bytes group.code) (code_of_file file) → Exact file group
exact-storing file in_file = exact-of FirstReturns file group (gains file group storing 0 is_graph is_code by_itself has_parts in_file)

-- ---- a run of it, with four bytes at 0x30000 as its region

abbrev four : Region
four a = leb 0x30000 a && ltb a 0x30004

abbrev begins : State
begins = record {
  pc = 0x10000;
  reg = λ r. if r == 1 then 0x2000 else (if r == 10 then 0x1234_5678 else (if r == 11 then 0x30000 else 0));
  mem = over (range_bytes group.code) (bytes_from 0x30000 (1 ∷ 2 ∷ 3 ∷ 4 ∷ []));
}

abbrev after : ℕ → State
after k = unwrap_or (run begins k) begins

ran : (k : ℕ) → k ≤ 2 → run begins k ≡ Some (after k)
unfolding run step decoded
ran zero le = refl
ran (suc zero) le = refl
ran (suc (suc zero)) le = refl
ran (suc (suc (suc k))) le = absurd (omega arith)

is-after : (k : ℕ) (u : State) → k ≤ 2 → run begins k ≡ Some u → after k ≡ u
is-after k u le e = same (after k) u (sym (ran k le) ∙ e)
  where
    same : (s t : State) → Some s ≡ Some t → s ≡ t
    same s t h = cc

fetches : (k : ℕ) → k < 2 → instruction_at (after k) ≡ Some (instructions k)
unfolding run step decoded
fetches zero lt = refl
fetches (suc zero) lt = refl
fetches (suc (suc k)) lt = absurd (omega arith)

touches-four : (k : ℕ) → k < 2 → (a : ℕ) → IsTouched (touched (instructions k) (after k)) a → is_within (four ∷ []) a ≡ true
unfolding run
touches-four zero lt a (zero, l, e) = ap (λ q. is_within (four ∷ []) q) e
touches-four zero lt a (suc zero, l, e) = ap (λ q. is_within (four ∷ []) q) e
touches-four zero lt a (suc (suc zero), l, e) = ap (λ q. is_within (four ∷ []) q) e
touches-four zero lt a (suc (suc (suc zero)), l, e) = ap (λ q. is_within (four ∷ []) q) e
touches-four zero lt a (suc (suc (suc (suc j))), l, e) = absurd (omega arith)
touches-four (suc zero) lt a (j, l, e) = absurd (omega arith)
touches-four (suc (suc k)) lt a t = absurd (omega arith)

first-returns : FirstReturns (four ∷ []) begins 2 (after 2)
first-returns = record {
  some = omega arith;
  ran = ran 2 (omega arith);
  within = λ j u lt e a t. touches-four j lt a (subst (λ x. IsTouched x a) (touches-at (instructions j) (after j) (fetches j lt)) (subst (λ s. IsTouched (touches s) a) (sym (is-after j u (omega arith) e)) t));
  last = λ u e. subst IsAtReturn (is-after 1 u (omega arith) e) (fetches 1 (omega arith));
  first = λ j u lt e r. no-return j lt (sym (fetches j (omega arith)) ∙ subst IsAtReturn (sym (is-after j u (omega arith) e)) r);
}
  where
    no-return : (k : ℕ) → k < 1 → Some (instructions k) ≡ Some (instr.Jalr 0 1 (pos 0)) → ⊥
    no-return zero lt e = cc
    no-return (suc k) lt e = omega arith

-- what it stored
stored : ((after 2).mem 0x30000 ≡ Some 0x78) × ((after 2).mem 0x30003 ≡ Some 0x12)
unfolding run step decoded
stored = (refl, refl)
