-- The law of a part, told by the machine's run and by evaluation, and that nothing is lost of the whole function.
use Rattle.std.proofs.Common.{◌≡◌, ℕ, zero, suc, ◌+◌, ◌*◌, ◌<◌, ◌≤◌, true, cond, ◌⊎◌, inl, inr, Option, Some, None, List, [], ◌∷◌, ◌++◌, map, refl, sym, ap, subst, ◌∙◌, arith, Bool, false, ◌||◌, length, Contains}
use Rattle.std.specs.Prelude.{slice_get, option_map, AllPairs, IsSomeAnd}
use Rattle.rv_machine.specs.State.{State}
use Rattle.rv_machine.specs.Run.{run, IsAtReturn}
use Rattle.rv_machine.proofs.RunLemmas.{run-none, run-more}
use Rattle.word_terms.specs.Environment.{Environment}
use Rattle.rv_words.specs.Ranges.{range_bytes}
use Rattle.sep_assert.specs.Code.{IsWithin}
use Rattle.elf_image.specs.Image.{code_of_file}
use Rattle.tailrec_lang.specs.declared.group.Exit.{Exit}
use Rattle.tailrec_lang.specs.declared.group.Exit.TheVariants.{At, Ret}
use Rattle.tailrec_lang.specs.Tree.{DefTree, GroupTree, exits_at, listed_def}
use Rattle.tailrec_lang.specs.Eval.{Arguments, Exited, Done, done_by, with_pc, ending, eval}
use Rattle.tailrec_lang.proofs.Turns.{ending-enter, ending-exited}
use Rattle.tailrec_lang.proofs.Definitions.{exits_there}
use Rattle.code_parts.specs.declared.part.Part.{Part}
use Rattle.code_parts.specs.declared.part.Part.TheVariants.{Loop, Rest}
use Rattle.code_parts.specs.Bodies.{Flow, VariableMap, Action, Straight, Fork, Return, Enter, action, own, first, targets, part_def}
use Rattle.code_parts.specs.declared.callee.Callee.{Callee}
use Rattle.code_parts.specs.Bodies as bodies
use Rattle.code_parts.specs.Graph.{IsAlone, IsPart, IsGraph, IsCode}
use Rattle.claims.specs.Headline.{AreApart, Region, is_within, held_in, Ends}
use Rattle.claims.specs.Exact.{FirstReturns}
use Rattle.claims.specs.LinkExact.{FirstReturnsIn, after_instruction}
use Rattle.decompiler.specs.Parts.{HasParts, HoldsCode, LeavesAs, Meets, turns_at, turns_for, LawOfPart}
use Rattle.decompiler.proofs.Counts.{Gains, Returning}
use Rattle.decompiler.proofs.Returns.{Steps, Comes, comes-plain, IsKept, kept-here}
use Rattle.decompiler.proofs.StateVariables.{Stands}
use Rattle.decompiler.proofs.PartLaw.{with_address, IsDone, Law, LawsBelow, Leaves, slack, slack_at, part-law}
use Rattle.decompiler.proofs.Simulation.{held}
use Rattle.decompiler.proofs.Whole.{step-done, held-long, held-is}

-- the one memory, which each instruction uses
abbrev InFirst : ℕ → ℕ → Type 0
InFirst a q = q ≡ 0

-- a state with the number of steps that were made before it
abbrev Counted : Type 0
Counted = State × ℕ

abbrev CountedSteps : List Region → Counted → Counted → Type 0
CountedSteps regions x y = Steps InFirst regions x.0 y.0 × (y.1 ≡ x.1 + 1)

abbrev pc_there : Counted → ℕ
pc_there x = x.0.pc

abbrev behind_there : Counted → ℕ
behind_there x = after_instruction x.0

abbrev ReturnsThere : Counted → Type 0
ReturnsThere x = IsAtReturn x.0

abbrev NoCall : State → Type 0
NoCall s = ⊥

abbrev NoCallThere : Counted → Type 0
NoCallThere x = ⊥

abbrev Coming : List Region → State → ℕ → State → Type 0
Coming regions t k s = Comes State (λ s. s.pc) after_instruction IsAtReturn NoCall (Steps InFirst regions) t [] k s

abbrev ComingThere : List Region → Counted → ℕ → Counted → Type 0
ComingThere regions t k s = Comes Counted pc_there behind_there ReturnsThere NoCallThere (CountedSteps regions) t [] k s

counted : (regions : List Region) (k i : ℕ) (s t : State) → Coming regions t k s → ComingThere regions (t, i + k) k (s, i)
counted regions zero i s t h = absurd h
counted regions (suc k) i s t (u, steps, inl r) =
    let more : i + 1 ≡ i + suc k = omega (arith, r.1.0) in
    ((u, i + 1), (steps, refl), inl (r.0, (r.1.0, (λ j. (r.1.1 j, more j)))))
counted regions (suc k) i s t (u, steps, inr (inl c)) = absurd c.0
counted regions (suc k) i s t (u, steps, inr (inr r)) =
    let more : i + 1 + k ≡ i + suc k = omega arith in
    ((u, i + 1), (steps, refl), inr (inr (r.0, r.1, subst (λ n. ComingThere regions (t, n) k (u, i + 1)) more (counted regions k (i + 1) u t r.2))))

-- the number of steps tells how many there are
count-is : (regions : List Region) (k : ℕ) (x y : Counted) → ComingThere regions y k x → (y.1 ≡ x.1 + k) × (0 < k)
count-is regions zero x y h = absurd h
count-is regions (suc k) x y (u, steps, inl r) = let e : u.1 ≡ y.1 = ap (λ (z : Counted). z.1) r.1.1 in (omega (arith, steps.1, r.1.0, e), omega arith)
count-is regions (suc k) x y (u, steps, inr (inl c)) = absurd c.0
count-is regions (suc k) x y (u, steps, inr (inr r)) = let rest = count-is regions k u y r.2 in (omega (arith, rest.0, steps.1), omega arith)

-- of at most one region each is apart from the others, and what lies in the regions lies in the first
few-apart : (regions : List Region) → length regions ≤ 1 → AllPairs AreApart regions
few-apart regions le = λ i j d lt low. absurd (omega (arith, le, lt, low))

one-false : (b : Bool) → (b || false) ≡ true → b ≡ true
one-false true e = refl
one-false false e = absurd (cc)

in-first : (regions : List Region) (q a : ℕ) → length regions ≤ 1 → q ≡ 0 → is_within regions a ≡ true → IsSomeAnd (slice_get regions q) (λ region. region a ≡ true)
in-first [] q a le at e = absurd (cc)
in-first (r ∷ []) zero a le at e = one-false (r a) e
in-first (r ∷ []) (suc q) a le at e = absurd (omega (arith, at))
in-first (r ∷ p ∷ rs) q a le at e = absurd (omega arith)

-- a run that stays within the regions stays in the first, where there is no more than that
pub first-returns : (regions : List Region) (s : State) (k : ℕ) (t : State) → length regions ≤ 1 → FirstReturns regions s k t → FirstReturnsIn InFirst regions s k t
first-returns regions s k t few h = record {
  some = h.some;
  ran = h.ran;
  within = λ j u lt ran q a at touched. in-first regions q a few at (h.within j u lt ran a touched);
  last = h.last;
  first = h.first;
}

exit-at : (f : Flow) (ns : List ℕ) (more : List Exit) (k n : ℕ) → slice_get ns k ≡ Some n → slice_get (map (λ m. At (f.addr m)) ns ++ more) k ≡ Some (At (f.addr n))
exit-at f [] more k n h = absurd (cc)
exit-at f (m ∷ ns) more zero n h = let q : m ≡ n = cc in λ i. Some (At (f.addr (q i)))
exit-at f (m ∷ ns) more (suc k) n h = exit-at f ns more k n h

ret-at : (f : Flow) (p : Part) → own p ≡ None → f.returns ≡ true → slice_get (bodies.exits_of f p) 0 ≡ Some Ret
ret-at f (Loop l) region h = let q : Some l ≡ None = region in absurd (cc)
ret-at f (Rest None n) region h = λ i. slice_get (cond (h i) (Ret ∷ []) []) 0
ret-at f (Rest (Some l) n) region h = let q : Some l ≡ None = region in absurd (cc)

done-return : (exits : List Exit) (pc : ℕ) (x : Arguments) (left : ℕ) → slice_get exits 0 ≡ Some Ret → with_pc exits (Exited 0 (with_address pc x) left) ≡ Done 0 pc x left
done-return exits pc x left h = λ i. done_by (h i) 0 (with_address pc x) left

done-exit : (exits : List Exit) (exit a : ℕ) (x : Arguments) (left : ℕ) → slice_get exits exit ≡ Some (At a) → with_pc exits (Exited exit x left) ≡ Done exit a x left
done-exit exits exit a x left h = λ i. done_by (h i) exit x left

enough-turns : (f : Flow) (p : Part) (k turns : ℕ) → turns_for f p k ≤ turns → 2 * k ≤ turns + slack f p
enough-turns f (Loop l) k turns le = omega arith
enough-turns f (Rest r n) k turns le = by (f.loop_of n) le
  where
    by : (o : Option ℕ) → turns_at o k ≤ turns → 2 * k ≤ turns + slack_at o
    by None h = omega arith
    by (Some l) h = omega arith

module _ (f : Flow) (g : GroupTree) (entry : ℕ) (graph : IsGraph f) (has : IsCode f g.code) (alone : IsAlone f) (parts : HasParts f entry g)
    (regions : List Region) (s0 : State) (holds : HoldsCode g regions s0) where
  abbrev Good : State → Type 0
  Good = IsKept f.regs regions s0

  abbrev GoodThere : Counted → Type 0
  GoodThere x = Good x.0 × (run s0 x.1 ≡ Some x.0)

  count : length regions ≡ f.mems
  count = holds.count ∙ parts.mems

  few : length regions ≤ 1
  few = let low = alone.mems in omega (arith, count, low)

  abbrev args : State → Arguments
  args = held f regions count

  abbrev args_there : Counted → Arguments
  args_there x = args x.0

  abbrev DoneThere : Action → VariableMap → Environment → Counted → Counted → Type 0
  DoneThere = IsDone f Counted pc_there args_there behind_there ReturnsThere NoCallThere GoodThere (CountedSteps regions)

  lift : (y : Action) (v : VariableMap) (e : Environment) (x u : Counted) → IsDone f State (λ s. s.pc) args after_instruction IsAtReturn NoCall Good (Steps InFirst regions) y v e x.0 u.0 → DoneThere y v e x u
  lift (Straight ss w to) v e x u h = h
  lift (Fork c a b) v e x u h = h
  lift (Return ss t) v e x u h = h
  lift (Enter ss w c to_back to) v e x u h = h

  none : (n : ℕ) (c : Callee) → n < f.nodes → f.callee n ≡ Some c → ⊥
  none n c lt is = let clash = sym (alone.calls n lt) ∙ is in cc

  done-there : (n : ℕ) (v : VariableMap) (e : Environment) (x u : Counted) → n < f.nodes → GoodThere x → pc_there x ≡ f.addr n → Stands f v e (args_there x) → CountedSteps regions x u
      → GoodThere u × DoneThere (action f n v) v e x u
  done-there n v e x u node good at is steps =
      let one = step-done f g.code has regions count (few-apart regions few) InFirst (λ n lt. alone.uses n lt) NoCall (λ n s lt is at c. c) (λ n c s lt is at. absurd (none n c lt is)) s0 holds.code holds.beside_code n v e x.0 u.0 node good.0 at is steps.0 in
      ((one.0, ap (run s0) steps.1 ∙ run-more s0 x.0 u.0 x.1 good.1 steps.0.0), lift (action f n v) v e x u one.1)

  same : (u : State) → held_in u g regions ≡ args u
  same u = held-is f g regions count u parts.regs

  ends : (u : State) → Good u → Ends g regions s0 u.pc (held_in u g regions) u
  ends u good = record {
    pc = refl;
    results = refl;
    registers = λ r low out. good.registers r (λ c. out (subst (λ rs. Contains rs r) (sym parts.regs) c));
    bytes = good.bytes;
    present = good.present;
  }

  abbrev Below : ℕ → Type 0
  Below = LawsBelow f graph has.registers Counted pc_there args_there behind_there ReturnsThere NoCallThere GoodThere (CountedSteps regions) (λ x. held-long f regions count x.0) done-there
      (ending g) (ending-exited g) (λ q x m is. ending-enter g (f.number q) x m (part_def f q) (parts.defs q is))

  one-law : (k : ℕ) → Below k → (p : Part) → IsPart f p
      → Law f graph has.registers Counted pc_there args_there behind_there ReturnsThere NoCallThere GoodThere (CountedSteps regions) (λ x. held-long f regions count x.0) done-there
      (ending g) (ending-exited g) (λ q x m is. ending-enter g (f.number q) x m (part_def f q) (parts.defs q is)) k p
  one-law k below p there =
      part-law f graph has.registers Counted pc_there args_there behind_there ReturnsThere NoCallThere GoodThere (CountedSteps regions) (λ x. held-long f regions count x.0) done-there
      (ending g) (ending-exited g) (λ q x m is. ending-enter g (f.number q) x m (part_def f q) (parts.defs q is)) k below p there

  below-all : (k : ℕ) → Below k
  below-all zero j lt = absurd (omega arith)
  below-all (suc k) j lt = (one-law j (λ i l. below-all k i (omega (arith, lt, l))), λ n c node is. absurd (none n c node is))

  laws : (k : ℕ) (p : Part) → IsPart f p
      → Law f graph has.registers Counted pc_there args_there behind_there ReturnsThere NoCallThere GoodThere (CountedSteps regions) (λ x. held-long f regions count x.0) done-there
      (ending g) (ending-exited g) (λ q x m is. ending-enter g (f.number q) x m (part_def f q) (parts.defs q is)) k p
  laws k p there = one-law k (below-all k) p there

  module _ (p : Part) (there : IsPart f p) where
    def : exits_at g (f.number p) ≡ bodies.exits_of f p
    def = exits_there g (f.number p) (part_def f p) (parts.defs p there)

    told : (t : State) (k turns : ℕ) → Leaves f Counted pc_there args_there behind_there ReturnsThere NoCallThere GoodThere (CountedSteps regions) p k turns (t, 0 + k) (ending g (f.number p) (args s0) turns)
        → LeavesAs g (f.number p) regions s0 turns Ret 0 k t ⊎ Meets g (f.number p) regions s0 turns k
    told t k turns (inl r) =
        let exits : slice_get (exits_at g (f.number p)) 0 ≡ Some Ret = ap (λ xs. slice_get xs 0) def ∙ ret-at f p r.region r.returns in
        inl (record {
          number = 0;
          there = exits;
          left = r.left;
          enough = omega arith;
          few = r.few;
          done =
              (λ i. with_pc (exits_at g (f.number p)) (ending g (f.number p) (same s0 i) turns)) ∙ ap (with_pc (exits_at g (f.number p))) r.ends
              ∙ done-return (exits_at g (f.number p)) t.pc (args t) r.left exits ∙ (λ i. Done 0 t.pc (sym (same t) i) r.left);
          ends = ends t r.good.0;
        })
    told t k turns (inr l) =
        let count = count-is regions l.steps l.state (t, 0 + k) l.comes in
        let u = l.state.0 in
        let exits : slice_get (exits_at g (f.number p)) l.exit ≡ Some (At u.pc) =
        ap (λ xs. slice_get xs l.exit) def ∙ exit-at f (targets f p) (bodies.returned f p) l.exit l.node l.there ∙ (λ i. Some (At (sym l.place i))) in
        inr (record {
          after = l.state.1;
          some = omega (arith, count.0, l.fewer);
          fewer = omega (arith, count.0, count.1);
          state = u;
          met = l.good.1;
          leaves = record {
            number = l.exit;
            there = exits;
            left = l.left;
            enough = omega (arith, count.0, l.enough);
            few = omega (arith, count.0, l.few);
            done =
                (λ i. with_pc (exits_at g (f.number p)) (ending g (f.number p) (same s0 i) turns)) ∙ ap (with_pc (exits_at g (f.number p))) l.ends
                ∙ done-exit (exits_at g (f.number p)) l.exit u.pc (args u) l.left exits ∙ (λ i. Done l.exit u.pc (sym (same u) i) l.left);
            ends = ends u l.good.0;
          };
        })

    pub part-of-run : (t : State) (k : ℕ) → s0.pc ≡ f.addr (first f p) → FirstReturns regions s0 k t → (turns : ℕ) → turns_for f p k ≤ turns
        → LeavesAs g (f.number p) regions s0 turns Ret 0 k t ⊎ Meets g (f.number p) regions s0 turns k
    part-of-run t k at returns turns le =
        told t k turns (laws k p there (s0, 0) (t, 0 + k) turns (kept-here f.regs regions s0, run-none s0) at
        (counted regions k 0 s0 t (comes-plain InFirst regions t k s0 (first-returns regions s0 k t few returns))) (enough-turns f p k turns le))

-- the law of each part
pub law-of-part : (f : Flow) (g : GroupTree) (entry : ℕ) → IsGraph f → IsCode f g.code → IsAlone f → HasParts f entry g → (p : Part) → IsPart f p → LawOfPart f g p
law-of-part f g entry graph has alone parts p there regions s t k holds at returns turns le = part-of-run f g entry graph has alone parts regions s holds p there t k at returns turns le

-- ---- the whole function

-- the rest of the whole function has no exit at an address
no-address : (returns : Bool) (k a : ℕ) → slice_get (cond returns (Ret ∷ []) []) k ≡ Some (At a) → ⊥
no-address true zero a h = cc
no-address true (suc k) a h = cc
no-address false k a h = cc

same-pc : (a b : ℕ) → Some a ≡ Some b → b ≡ a
same-pc a b e = cc

whole-turns : (o : Option ℕ) (k : ℕ) → turns_at o k ≤ 2 * k
whole-turns None k = omega arith
whole-turns (Some l) k = omega arith

-- The returns of a group of a definition for each part of a graph, whose code is the file's: nothing is lost of it, and steps are counted.
pub gains : (file : List ℕ) (g : GroupTree) (f : Flow) (entry : ℕ) → IsGraph f → IsCode f g.code → IsAlone f → HasParts f entry g
    → IsWithin (range_bytes g.code) (code_of_file file) → Returning FirstReturns file g
gains file g f entry graph has alone parts in_file s regions starts k t returns =
    by (law-of-part f g entry graph has alone parts last parts.whole regions s t k holds at returns (2 * k) (whole-turns (f.loop_of entry) k))
  where
    last : Part
    last = Rest None entry

    number : listed_def g ≡ f.number (Rest None entry)
    number = omega (arith, parts.last)

    def : slice_get g.defs (f.number (Rest None entry)) ≡ Some (part_def f (Rest None entry))
    def = parts.defs (Rest None entry) parts.whole

    at : s.pc ≡ f.addr entry
    at = same-pc (f.addr entry) s.pc (ap (option_map (λ (d : DefTree). d.entry)) (sym (ap (slice_get g.defs) number ∙ def)) ∙ starts.entry)

    holds : HoldsCode g regions s
    holds = record { count = starts.count; code = λ a b e. starts.code a b e ∙ in_file a b e; beside_code = starts.beside_code }

    by : LeavesAs g (f.number (Rest None entry)) regions s (2 * k) Ret 0 k t ⊎ Meets g (f.number (Rest None entry)) regions s (2 * k) k → Gains g regions s k t
    by (inl r) = record {
      gives = record {
        exit = r.number;
        pc = t.pc;
        results = held_in t g regions;
        left = r.left;
        done = (λ i. eval g (number i) (held_in s g regions) (2 * k)) ∙ r.done;
        return = ap (λ d. slice_get (exits_at g d) r.number) number ∙ r.there;
        ends = r.ends;
      };
      few = r.few;
    }
    by (inr m) = absurd (no-address f.returns m.leaves.number m.state.pc (ap (λ xs. slice_get xs m.leaves.number) (sym (exits_there g (f.number last) (part_def f last) def)) ∙ m.leaves.there))
