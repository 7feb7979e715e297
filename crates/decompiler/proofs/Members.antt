-- Nothing is lost of linked functions, in a group of all their parts.
use Rattle.std.proofs.Common.{◌≡◌, ℕ, zero, suc, ◌<◌, Bool, true, false, List, [], ◌∷◌, map, length, get_or, refl, sym, ap, subst, ◌∙◌, arith, Option, None, Some, Contains}
use Rattle.std.specs.Prelude.{ℤ, option_map, slice_get}
use Rattle.rv_words.specs.Bytes.{AreBytes}
use Rattle.rv_words.specs.Ranges.{range_bytes}
use Rattle.rv_decode.specs.declared.instruction.Instr.{Instr}
use Rattle.rv_decode.specs.declared.instruction.Instr.TheVariants as instr
use Rattle.sep_assert.specs.Code.{IsWithin}
use Rattle.elf_image.specs.Image.{code_of_file}
use Rattle.tailrec_lang.specs.Tree.{GroupTree}
use Rattle.flow_graph.specs.Walks.{Stop}
use Rattle.flow_graph.proofs.NumberLemmas.{number_within}
use Rattle.flow_graph.proofs.Ways.{node_at}
use Rattle.loop_forest.specs.Forest.{number_of}
use Rattle.code_parts.specs.declared.part.Part.{Part}
use Rattle.code_parts.specs.declared.part.Part.TheVariants.{Rest}
use Rattle.flow_graph.specs.Flow.{called_by, target}
use Rattle.code_parts.specs.Bodies.{part_def}
use Rattle.code_parts.specs.declared.callee.Callee.{Callee}
use Rattle.code_parts.specs.Flows.{place_in}
use Rattle.code_parts.specs.Graph.{IsCode, IsGraph, IsPart}
use Rattle.code_parts.specs.Members.{AreMembers, IsMember, Member, callee_at, flow_at}
use Rattle.claims.specs.LinkExact.{FirstReturnsIn}
use Rattle.decompiler.proofs.GroupOfFunctions.{Function, HasFunctions, HaveGraphs, IsOf}
use Rattle.code_parts.proofs.FlowCode.{is-code, stands}
use Rattle.code_parts.proofs.FlowEntry.{last-is, whole-is}
use Rattle.code_parts.proofs.FlowGraph.{is-graph}
use Rattle.code_parts.proofs.FlowMade.{uncalled-of}
use Rattle.code_parts.proofs.FlowOrder.{there-at}
use Rattle.decompiler.specs.Functions.{UsedBy}
use Rattle.claims.specs.Turns.{RunsBack}
use Rattle.decompiler.proofs.Counts.{Returning}
use Rattle.decompiler.proofs.Family.{linked-gains, own-gains}

abbrev function_at : Member → Function
function_at m = record { flow = flow_at m; entry = m.graph.entry }

-- a mapped list has what the list has
in-map : {A B : Type 0} (h : A → B) (xs : List A) (x : A) → Contains xs x → Contains (map h xs) (h x)
in-map h [] x (k, lt, at) = absurd (omega (arith, lt))
in-map h (y ∷ ys) x (zero, lt, at) = (0, omega arith, ap h at)
in-map h (y ∷ ys) x (suc k, lt, at) = let r = in-map h ys x (k, omega (arith, lt), at) in (suc r.0, omega (arith, r.1), r.2)

out-map : {A B : Type 0} (h : A → B) (xs : List A) (y : B) → Contains (map h xs) y → (x : A) × Contains xs x × (h x ≡ y)
out-map h [] y (k, lt, at) = absurd (omega (arith, lt))
out-map h (x ∷ xs) y (zero, lt, at) = (x, (0, omega arith, refl), at)
out-map h (x ∷ xs) y (suc k, lt, at) = let r = out-map h xs y (k, omega (arith, lt), at) in (r.0, (suc r.1.0, omega (arith, r.1.1), r.1.2), r.2)

mapped : {A B : Type 0} (h : A → B) (o : Option A) (b : B) → option_map h o ≡ Some b → (a : A) × (o ≡ Some a) × (h a ≡ b)
mapped h None b e = absurd (cc)
mapped h (Some a) b e = let same : h a ≡ b = cc in (a, refl, same)

-- what calls nothing is no call
uncalled : (h : ℕ → Callee) (a : ℕ) (i : Instr) (offset : ℤ) → option_map h (called_by a i) ≡ None → i ≡ instr.Jal 1 offset → ⊥
uncalled h a i offset none same = let z : Some (h (target a offset)) ≡ None = (λ j. option_map h (called_by a (sym same j))) ∙ none in cc

module _ (linked : Bool) (file : List ℕ) (bytes : AreBytes (code_of_file file)) (ms : List Member) (main : Member) (g : GroupTree) (are : AreMembers linked (code_of_file file) ms main g)
    (Uses : ℕ → ℕ → Type 0) (uses : (m : Member) (n : ℕ) → Contains ms m → n < length m.graph.addrs → Uses (get_or m.graph.addrs n 0) (m.context.uses (get_or m.graph.addrs n 0))) where
  -- by members, all that is asked of functions
  module _ (m : Member) (in_ms : Contains ms m) where
    is : IsMember linked (code_of_file file) g.code m
    is = are.each m in_ms

    code-is : IsCode (flow_at m) g.code
    code-is = is-code linked (code_of_file file) m.at m.graph m.forest m.context g.code is.graph is.forest bytes is.bytes is.fits

    entry-is : get_or m.graph.addrs m.graph.entry 0 ≡ m.at
    entry-is = ap (λ n. get_or m.graph.addrs n 0) is.graph.entry ∙ (number_within m.graph.addrs m.at (is.graph.reach.all m.at Stop)).1

    whole : IsPart (flow_at m) (Rest None m.graph.entry)
    whole = whole-is linked (code_of_file file) m.at m.graph m.forest m.context is.graph is.forest is.order

    defs-are : (p : Part) → IsPart (flow_at m) p → slice_get g.defs ((flow_at m).number p) ≡ Some (part_def (flow_at m) p)
    defs-are p there = are.defs m (place_in m.context.parts p) p in_ms (there-at (flow_at m) (number_of m.forest) m.context.parts is.order p there)

  is_of : (m y : Member) (t : ℕ) (c : Callee) → Contains ms m → Contains ms y → m.context.functions t ≡ callee_at y → m.context.functions t ≡ c → IsOf (function_at y) c
  is_of m y t c in_m in_y same called =
      let all : callee_at y ≡ c = sym same ∙ called in record {
        entry = ap (λ (k : Callee). k.entry) (sym all) ∙ sym (entry-is y in_y);
        def = ap (λ (k : Callee). k.def) (sym all);
        returns = ap (λ (k : Callee). k.returns) (sym all);
      }

  -- by functions
  At : (Function → Type 0) → Type 0
  At P = (m : Member) → Contains ms m → P (function_at m)

  by : (P : Function → Type 0) → ((m : Member) → Contains ms m → P (function_at m)) → (x : Function) → Contains (map function_at ms) x → P x
  by P each x c = let r = out-map function_at ms x c in subst P r.2 (each r.0 r.1)

  pub has-functions : HasFunctions (map function_at ms) (function_at main) g
  has-functions = record {
    listed = in-map function_at ms main are.listed;
    regs = by (λ x. x.flow.regs ≡ g.regs) (λ m c. are.regs m c);
    mems = by (λ x. x.flow.mems ≡ g.mems) (λ m c. are.mems m c);
    defs = λ x p c. by (λ x. IsPart x.flow p → slice_get g.defs (x.flow.number p) ≡ Some (part_def x.flow p)) (λ m c there. defs-are m c p there) x c;
    whole = by (λ x. IsPart x.flow (Rest None x.entry)) whole;
    called = λ x n c in_fs. by (λ x. n < x.flow.nodes → x.flow.callee n ≡ Some c → (y : Function) × Contains (map function_at ms) y × IsOf y c)
        (λ m in_m lt e.
        let r = mapped m.context.functions (called_by (get_or m.graph.addrs n 0) (get_or m.graph.instrs n instr.Ebreak)) c e in
        let y = are.called m n r.0 in_m lt r.1 in
        (function_at y.0, in-map function_at ms y.0 y.1, is_of m y.0 r.0 c in_m y.1 y.2 r.2)) x in_fs;
    last = (let e = are.last in
        let one = last-is linked (code_of_file file) main.at main.graph main.forest main.context (are.each main are.listed).graph (are.each main are.listed).forest (are.each main are.listed).order in
        omega (arith, e, one));
  }

  pub have-code : HaveGraphs Uses (map function_at ms) g
  have-code = record {
    graph = by (λ x. IsGraph x.flow) (λ m c. is-graph linked (code_of_file file) m.at m.graph m.forest m.context (are.each m c).graph (are.each m c).forest);
    code = by (λ x. IsCode x.flow g.code) code-is;
    uses = λ x n c. by (λ x. n < x.flow.nodes → Uses (x.flow.addr n) (x.flow.uses n)) (λ m c lt. uses m n c lt) x c;
    no_call = λ x n offset c. by (λ x. n < x.flow.nodes → x.flow.callee n ≡ None → x.flow.instr n ≡ instr.Jal 1 offset → ⊥)
        (λ m c lt none same. uncalled m.context.functions (get_or m.graph.addrs n 0) (get_or m.graph.instrs n instr.Ebreak) offset none same) x c;
  }

  -- nothing is lost of functions that call each other, and steps are counted
  pub members-gain : IsWithin (range_bytes g.code) (code_of_file file) → Returning (RunsBack Uses) file g
  members-gain in_file = linked-gains file g (map function_at ms) (function_at main) has-functions Uses have-code in_file

-- .. of a function by itself
pub member-gains : (file : List ℕ) → AreBytes (code_of_file file) → (m : Member) (g : GroupTree) → AreMembers false (code_of_file file) (m ∷ []) m g → (Uses : ℕ → ℕ → Type 0)
    → ((n : ℕ) → n < length m.graph.addrs → Uses (get_or m.graph.addrs n 0) (m.context.uses (get_or m.graph.addrs n 0))) → IsWithin (range_bytes g.code) (code_of_file file) → Returning (FirstReturnsIn Uses) file g
member-gains file bytes m g are Uses uses in_file =
    own-gains file g (function_at m) (has-functions false file bytes (m ∷ []) m g are Uses uses_of) Uses (have-code false file bytes (m ∷ []) m g are Uses uses_of) in_file
    (λ n lt. let own = are.each m are.listed in
    ap (option_map m.context.functions) (uncalled-of (get_or m.graph.addrs n 0) (get_or m.graph.instrs n instr.Ebreak)
    (stands false (code_of_file file) m.at m.graph m.forest m.context g.code own.graph own.forest bytes own.bytes own.fits n lt).fine))
  where
    only : (x : Member) → Contains (m ∷ []) x → m ≡ x
    only x (zero, l, e) = e
    only x (suc k, l, e) = absurd (omega (arith, l))

    uses_of : (x : Member) (n : ℕ) → Contains (m ∷ []) x → n < length x.graph.addrs → Uses (get_or x.graph.addrs n 0) (x.context.uses (get_or x.graph.addrs n 0))
    uses_of x n c = subst (λ (x : Member). n < length x.graph.addrs → Uses (get_or x.graph.addrs n 0) (x.context.uses (get_or x.graph.addrs n 0))) (only x c) (λ lt. uses n lt)

-- .. by the memories that they use
pub gain-linked : (file : List ℕ) (ms : List Member) (main : Member) (g : GroupTree) → AreBytes (code_of_file file) → AreMembers true (code_of_file file) ms main g → IsWithin (range_bytes g.code) (code_of_file file)
    → Returning (RunsBack (UsedBy ms)) file g
gain-linked file ms main g bytes are in_file = members-gain true file bytes ms main g are (UsedBy ms) (λ m n in_ms lt. (m, in_ms, node_at m.graph.addrs n lt, refl)) in_file

pub gain-by-itself : (file : List ℕ) (m : Member) (g : GroupTree) → AreBytes (code_of_file file) → AreMembers false (code_of_file file) (m ∷ []) m g → IsWithin (range_bytes g.code) (code_of_file file)
    → Returning (FirstReturnsIn (UsedBy (m ∷ []))) file g
gain-by-itself file m g bytes are in_file = member-gains file bytes m g are (UsedBy (m ∷ [])) (λ n lt. (m, (0, omega arith, refl), node_at m.graph.addrs n lt, refl)) in_file
