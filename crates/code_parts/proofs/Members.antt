-- The definitions of functions that stand one after the other.
use Rattle.std.proofs.Common.{◌≡◌, Bool, ℕ, zero, suc, ◌+◌, ◌<◌, List, [], ◌∷◌, ◌++◌, map, length, get_or, refl, sym, ap, subst, ◌∙◌, arith, Some, Contains, append_assoc}
use Rattle.std.specs.Prelude.{slice_get}
use Rattle.rv_words.specs.Bytes.{Bytes}
use Rattle.rv_decode.specs.declared.instruction.Instr.TheVariants as instr
use Rattle.std.proofs.lemmas.List.Elements.{Contains-append_left, Contains-append_right}
use Rattle.tailrec_lang.specs.Tree.{DefTree, GroupTree}
use Rattle.code_parts.specs.declared.part.Part.{Part}
use Rattle.flow_graph.specs.Flow.{called_by}
use Rattle.code_parts.specs.Bodies.{part_def}
use Rattle.code_parts.specs.Members.{AreBased, AreMembers, CallsBefore, IsMember, Member, callee_at, defs_of, flow_at}
use Rattle.code_parts.proofs.Lists.{length-map, slice-mapped}

slice-left : {A : Type 0} (xs ys : List A) (k : ℕ) (x : A) → slice_get xs k ≡ Some x → slice_get (xs ++ ys) k ≡ Some x
slice-left [] ys k x e = absurd (cc)
slice-left (y ∷ xs) ys zero x e = e
slice-left (y ∷ xs) ys (suc k) x e = slice-left xs ys k x e

slice-right : {A : Type 0} (xs ys : List A) (k : ℕ) → slice_get (xs ++ ys) (length xs + k) ≡ slice_get ys k
slice-right [] ys k = let same : 0 + k ≡ k = omega arith in ap (slice_get ys) same
slice-right (x ∷ xs) ys k = let same : suc (length xs) + k ≡ suc (length xs + k) = omega arith in ap (slice_get (x ∷ (xs ++ ys))) same ∙ slice-right xs ys k

length-append : {A : Type 0} (xs ys : List A) → length (xs ++ ys) ≡ length xs + length ys
length-append [] ys = omega arith
length-append (x ∷ xs) ys = let rest = length-append xs ys in omega (arith, rest)

-- each part has its definition
pub defs-there : (front : List DefTree) (ms : List Member) (base : ℕ) → base ≡ length front → AreBased base ms → (m : Member) → Contains ms m → (k : ℕ) (p : Part) → slice_get m.context.parts k ≡ Some p →
    slice_get (front ++ defs_of ms) (m.context.base + k) ≡ Some (part_def (flow_at m) p)
defs-there front [] base here based m (j, lt, at) k p e = absurd (omega (arith, lt))
defs-there front (x ∷ ms) base here based m (zero, lt, at) k p e =
    subst (λ (z : Member). slice_get z.context.parts k ≡ Some p → slice_get (front ++ (map (part_def (flow_at x)) x.context.parts ++ defs_of ms)) (z.context.base + k) ≡ Some (part_def (flow_at z) p)) at own e
  where
    own : slice_get x.context.parts k ≡ Some p → slice_get (front ++ (map (part_def (flow_at x)) x.context.parts ++ defs_of ms)) (x.context.base + k) ≡ Some (part_def (flow_at x) p)
    own e =
        let place : x.context.base + k ≡ length front + k = (let b = based.0 in omega (arith, b, here)) in
        ap (slice_get (front ++ (map (part_def (flow_at x)) x.context.parts ++ defs_of ms))) place
        ∙ slice-right front (map (part_def (flow_at x)) x.context.parts ++ defs_of ms) k
        ∙ slice-left (map (part_def (flow_at x)) x.context.parts) (defs_of ms) k (part_def (flow_at x) p) (slice-mapped (part_def (flow_at x)) x.context.parts k p e)
defs-there front (x ∷ ms) base here based m (suc j, lt, at) k p e =
    let own : List DefTree = map (part_def (flow_at x)) x.context.parts in
    let longer : base + length x.context.parts ≡ length (front ++ own) = (let l = length-append front own in let o = length-map (part_def (flow_at x)) x.context.parts in omega (arith, l, o, here)) in
    ap (λ ds. slice_get ds (m.context.base + k)) (sym (append_assoc front own (defs_of ms)))
    ∙ defs-there (front ++ own) ms (base + length x.context.parts) longer based.1 m (j, omega (arith, lt), at) k p e

-- the last function's are the last
pub defs-last : (ms : List Member) (base : ℕ) (m : Member) → AreBased base (ms ++ m ∷ []) → base + length (defs_of (ms ++ m ∷ [])) ≡ m.context.base + length m.context.parts
defs-last [] base m based =
    let own : List DefTree = map (part_def (flow_at m)) m.context.parts in
    let l = length-append own [] in
    let o = length-map (part_def (flow_at m)) m.context.parts in
    let b = based.0 in
    omega (arith, l, o, b)
defs-last (x ∷ ms) base m based =
    let own : List DefTree = map (part_def (flow_at x)) x.context.parts in
    let l = length-append own (defs_of (ms ++ m ∷ [])) in
    let o = length-map (part_def (flow_at x)) x.context.parts in
    let rest = defs-last ms (base + length x.context.parts) m based.1 in
    omega (arith, l, o, rest)

-- what a function calls is one of all
pub calls-known : (known ms : List Member) → CallsBefore known ms → (m : Member) → Contains ms m → (n t : ℕ) → n < length m.graph.addrs → called_by (get_or m.graph.addrs n 0) (get_or m.graph.instrs n instr.Ebreak) ≡ Some t
    → (y : Member) × Contains (known ++ ms) y × (m.context.functions t ≡ callee_at y)
calls-known known [] calls m (j, lt, at) n t node e = absurd (omega (arith, lt))
calls-known known (x ∷ ms) calls m (zero, lt, at) n t node e =
    subst (λ (z : Member). n < length z.graph.addrs → called_by (get_or z.graph.addrs n 0) (get_or z.graph.instrs n instr.Ebreak) ≡ Some t → (y : Member) × Contains (known ++ x ∷ ms) y × (z.context.functions t ≡ callee_at y)) at
    (λ node e. let r = calls.0 n t node e in (r.0, Contains-append_left known (x ∷ ms) r.0 r.1, r.2)) node e
calls-known known (x ∷ ms) calls m (suc j, lt, at) n t node e =
    let r = calls-known (known ++ x ∷ []) ms calls.1 m (j, omega (arith, lt), at) n t node e in
    (r.0, subst (λ (ys : List Member). Contains ys r.0) (append_assoc known (x ∷ []) ms) r.1, r.2)

-- a group of functions one after the other, the main one last
pub are-members : (linked : Bool) (code : Bytes) (others : List Member) (main : Member) (g : GroupTree) → g.defs ≡ defs_of (others ++ main ∷ []) → AreBased 0 (others ++ main ∷ []) → CallsBefore [] (others ++ main ∷ []) →
    ((m : Member) → Contains (others ++ main ∷ []) m → IsMember linked code g.code m × (m.context.regs ≡ g.regs) × (m.context.mems ≡ g.mems)) → AreMembers linked code (others ++ main ∷ []) main g
are-members linked code others main g defs based calls each = record {
  listed = Contains-append_right others (main ∷ []) main (0, omega arith, refl);
  each = λ m c. (each m c).0;
  regs = λ m c. (each m c).1;
  mems = λ m c. (each m c).2;
  defs = λ m k p c e. ap (λ ds. slice_get ds (m.context.base + k)) defs ∙ defs-there [] (others ++ main ∷ []) 0 refl based m c k p e;
  called = λ m n t c node e. calls-known [] (others ++ main ∷ []) calls m c n t node e;
  last = ap (λ (ds : List DefTree). length ds) defs ∙ (let l = defs-last others 0 main based in omega (arith, l));
}
