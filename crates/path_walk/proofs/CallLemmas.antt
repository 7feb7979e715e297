-- The lines of a call lead from its place to where the definition goes on after an exit.
use Rattle.std.proofs.Common.{◌≡◌, ℕ, suc, ◌+◌, List, [], ◌∷◌, ◌++◌, length, true, refl, sym, ap, ◌∙◌, subst, arith, Option, Some}
use Rattle.std.specs.Prelude.{slice_get}
use Rattle.std.proofs.lemmas.List.Elements.{Contains-append_left, Contains-append_right}
use Rattle.rv_words.specs.declared.range.Range.{Range}
use Rattle.word_terms.specs.Tree.{WordTree, Const, Var}
use Rattle.tailrec_lang.specs.declared.group.Exit.{Exit}
use Rattle.tailrec_lang.specs.declared.group.Exit.TheVariants.{At, Ret}
use Rattle.tailrec_lang.specs.Tree.{DefTree, GroupTree, ValuesTree}
use Rattle.tailrec_lang.specs.WellFormed.{exit_words}
use Rattle.triple_kernel.specs.Tree.{FactTree, Gives, TripleTree}
use Rattle.triple_kernel.specs.Rules.{IsInst}
use Rattle.loop_rule.specs.Leaves.{at_exit, parameters, variables_after, with_values}
use Rattle.loop_rule.specs.Rule.{exit_triple, results}
use Rattle.proof_text.specs.Line.{Inst, UseExit}
use Rattle.verdicts.specs.Instance.{Meets, put_for}
use Rattle.code_parts.specs.declared.part.Part.{Part}
use Rattle.code_parts.specs.Bodies.{Flow, VariableMap, current, exits_of, first, start, with_pc}
use Rattle.tailrec_lang.specs.Registers.{AreRegistersFrom}
use Rattle.code_parts.specs.Graph.{HasPart, IsPart}
use Rattle.path_walk.specs.inner.Histories.{exit_place, pc_of}
use Rattle.code_parts.specs.Flows.{group_over}
use Rattle.path_walk.specs.inner.Acts.{Exited, GoesOn, LeftBy, call_mems, call_words, exit_standing, gives_over, numbered, results_at}
use Rattle.path_walk.specs.inner.Writers.{FromAs, IsReady, WriterTree, Context, CitedTree, StepsBy, Stood, front, group_in, past, standing_at, stating}
use Rattle.path_walk.proofs.Calls as calls
use Rattle.path_walk.proofs.Calls.{exit-fresh}
use Rattle.path_walk.proofs.WriterLemmas.{Ends, ends_restated, ends_state, from_on, grown_join, restated-version}
use Rattle.path_walk.proofs.Joins.{some_and}
use Rattle.path_walk.proofs.Lists.{current-fresh, zip-map}
use Rattle.path_walk.proofs.JoinedLines.{goes-version, goes_on}

-- the values of a place, as what holds there
pub standing_is : (f : Flow) (name : List ℕ) (ranges : List Range) (defs : List DefTree) (pc : WordTree) (v : VariableMap) → with_values (group_over f name ranges defs) pc (current f v) ≡ standing_at f pc v
standing_is f name ranges defs pc v = let regs = zip-map (λ r. Var (v.reg r)) f.regs in λ i. record { pc = pc; regs = regs i; mems = (current f v).mems }

-- the next variables for an exit's results
pub results_are : (f : Flow) (g : GroupTree) (x : Exit) (words mems : ℕ) → g.regs ≡ f.regs → AreRegistersFrom 1 f.regs → variables_after words mems (exit_words g x) f.mems ≡ results_at f x words mems
results_are f g (At a) words mems regs rise = (λ i. variables_after words mems (length (regs i)) f.mems) ∙ current-fresh f words mems rise
results_are f g Ret words mems regs rise =
    let next : words + 1 ≡ suc words = omega arith in
    let count : length g.regs + 1 ≡ suc (length f.regs) = (let e = ap length regs in omega (arith, e)) in
    (λ i. variables_after words mems (count i) f.mems)
    ∙ (λ i. with_pc (Var words) (variables_after (next i) mems (length f.regs) f.mems)) ∙ ap (with_pc (Var words)) (current-fresh f (suc words) mems rise)

module _ (f : Flow) (ranges : List Range) (s : Context f ranges) where
  abbrev g : GroupTree
  g = group_over f s.name ranges s.defs

  rise : AreRegistersFrom 1 f.regs
  rise = s.code.registers

  module _ (d k : ℕ) (callee : DefTree) (x : Exit) where
    -- the exit's triple is that over the parameters
    first-is : exit_triple (group_over f s.name ranges s.defs) d callee k x ≡ gives_over f ranges callee.entry d k x (start f)
    first-is =
        let params : parameters g ≡ current f (start f) = current-fresh f 0 0 rise in
        let words : length f.regs ≡ (start f).words = omega arith in
        let mems : f.mems ≡ (start f).mems = omega arith in
        let res : results g x ≡ results_at f x (start f).words (start f).mems =
        (λ i. variables_after (words i) (mems i) (exit_words g x) f.mems) ∙ results_are f g x (start f).words (start f).mems refl rise in
        let pre : with_values g (Const callee.entry) (parameters g) ≡ standing_at f (Const callee.entry) (start f) = ap (with_values g (Const callee.entry)) params ∙ standing_is f s.name ranges s.defs (Const callee.entry) (start f) in
        let post : at_exit g (Some x) (results g x) ≡ standing_at f (pc_of x (start f).words) (exit_place f x (start f).words (start f).mems) =
        (λ i. at_exit g (Some x) (variables_after (words i) (mems i) (exit_words g x) f.mems)) ∙ exit-fresh f s.name ranges s.defs x (start f).words (start f).mems rise
        ∙ standing_is f s.name ranges s.defs (pc_of x (start f).words) (exit_place f x (start f).words (start f).mems) in
        λ i. record { facts = Gives d k (params i) (res i) ∷ []; pre = pre i; code = ranges; post = post i }

    -- .. and over the current variables the one after it
    used-is : (v : VariableMap) → calls.used f s.name ranges s.defs callee rise v x d callee k ≡ gives_over f ranges callee.entry d k x v
    used-is v =
        let res : variables_after v.words v.mems (exit_words g x) f.mems ≡ results_at f x v.words v.mems = results_are f g x v.words v.mems refl rise in
        let pre = standing_is f s.name ranges s.defs (Const callee.entry) v in
        let post = exit-fresh f s.name ranges s.defs x v.words v.mems rise ∙ standing_is f s.name ranges s.defs (pc_of x v.words) (exit_place f x v.words v.mems) in
        λ i. record { facts = Gives d k (current f v) (res i) ∷ []; pre = pre i; code = ranges; post = post i }

    put-is : (v : VariableMap) → IsInst (put_for (call_words f x v) (call_mems f x v)) (gives_over f ranges callee.entry d k x (start f)) (gives_over f ranges callee.entry d k x v)
    put-is v =
        let res = results_are f g x v.words v.mems refl rise in
        subst (λ (t : TripleTree). IsInst (put_for (call_words f x v) (call_mems f x v)) t (gives_over f ranges callee.entry d k x v)) first-is
        (subst (λ (t : TripleTree). IsInst (put_for (call_words f x v) (call_mems f x v)) (exit_triple g d callee k x) t) (used-is v)
        (subst (λ (r : ValuesTree). IsInst (put_for (numbered 0 ((current f v).words ++ r.words)) (numbered 0 ((current f v).mems ++ r.mems))) (exit_triple g d callee k x)
        (calls.used f s.name ranges s.defs callee rise v x d callee k)) res (calls.used-inst f s.name ranges s.defs callee rise v x d callee k)))

    module _ (is : slice_get s.defs d ≡ Some callee) (at : slice_get callee.exits k ≡ Some x) (v : VariableMap) (l : WriterTree) (ready : IsReady f ranges s l) (closed : (past f ranges s l).closed d ≡ true) where
      abbrev t0 : TripleTree
      t0 = gives_over f ranges callee.entry d k x (start f)

      abbrev t1 : TripleTree
      t1 = gives_over f ranges callee.entry d k x v

      abbrev l1 : WriterTree
      l1 = stating (UseExit d k) t0 l

      ends-used : Ends f ranges s l l1 l.next t0
      ends-used = ends_state f ranges s (UseExit d k) t0 l ready (closed, record { def = callee; is = is; x = x; at = at; same = sym first-is })

      ends-exited : (new : WriterTree) (j : ℕ) → Exited f ranges callee.entry d k x v l new j → Ends f ranges s l new j t1
      ends-exited new j lines =
          let meets : Meets (group_in f ranges s) (past f ranges s l1) (Inst l.next (call_words f x v) (call_mems f x v)) t1 =
          some_and ((past f ranges s l1).theorem l.next) t0 (λ q. IsInst (put_for (call_words f x v) (call_mems f x v)) q t1) ends-used.held (put-is v) in
          ends_restated f ranges s l l1 new l.next j (Inst l.next (call_words f x v) (call_mems f x v)) t0 t1 ends-used meets lines

      pub exit_stood : (entry : ℕ) (new : WriterTree) (path : List FactTree) (from : Option CitedTree) (t : CitedTree) → FromAs f (front f entry) ranges (past f ranges s l) (Const callee.entry) v path from →
          LeftBy f entry ranges callee.entry d k x v from l new t →
          Stood f (front f entry) ranges s l new (pc_of x v.words) (exit_place f x v.words v.mems) (path ++ Gives d k (current f v) (results_at f x v.words v.mems) ∷ []) t
      exit_stood entry new path from t here left =
          let ends = ends-exited left.mid left.number left.exited in
          let news : List FactTree = Gives d k (current f v) (results_at f x v.words v.mems) ∷ [] in
          let end = goes_on f ranges s (front f entry) left.mid new (Const callee.entry) v path (path ++ news) from (exit_standing f ranges d k x v left.number) t (pc_of x v.words) (exit_place f x v.words v.mems)
          ends.grown.ready (from_on f ranges s (front f entry) l left.mid (Const callee.entry) v path from ends.grown here) ends.held (λ a b e. e)
          (record { each = λ y c. Contains-append_right path news y c }) (record { each = λ y c. Contains-append_left path news y c }) left.on in
          record { grown = grown_join f ranges s l left.mid new ends.grown end.grown; cited = end.cited ∙ ends.cited; stands = end.stands }

-- the text stays of its version
pub left-version : (f : Flow) (entry : ℕ) (ranges : List Range) (called d k : ℕ) (x : Exit) (v : VariableMap) (from : Option CitedTree) (old new : WriterTree) (t : CitedTree) → LeftBy f entry ranges called d k x v from old new t → new.version ≡ old.version
left-version f entry ranges called d k x v from old new t left =
    goes-version f (front f entry) from (exit_standing f ranges d k x v left.number) t (pc_of x v.words) (exit_place f x v.words v.mems) left.mid new left.on ∙ restated-version _ _ _ _ _ _ _ left.exited

-- they are steps to there, where the part has that exit
pub exit_steps : (f : Flow) (ranges : List Range) (q : Part) (k : ℕ) (x : Exit) (entry : ℕ) (v : VariableMap) (old new : WriterTree) (from : Option CitedTree) (t : CitedTree) →
    IsPart f q → slice_get (exits_of f q) k ≡ Some x → LeftBy f entry ranges (f.addr (first f q)) (f.number q) k x v from old new t →
    StepsBy f entry ranges (f.number q) old new (Const (f.addr (first f q))) v from (pc_of x v.words) (exit_place f x v.words v.mems)
    (Gives (f.number q) k (current f v) (results_at f x v.words v.mems) ∷ []) t
exit_steps f ranges q k x entry v old new from t part at left = record {
  version = left-version f entry ranges (f.addr (first f q)) (f.number q) k x v from old new t left;
  each = λ s path ready closed low here.
      let has : HasPart f (group_over f s.name ranges s.defs) q = s.has q part low in
      exit_stood f ranges s (f.number q) k has.def x has.is (ap (λ (xs : List Exit). slice_get xs k) has.exits ∙ at) v old ready closed entry new path from t
      (subst (λ (a : ℕ). FromAs f (front f entry) ranges (past f ranges s old) (Const a) v path from) (sym has.entry) here)
      (subst (λ (a : ℕ). LeftBy f entry ranges a (f.number q) k x v from old new t) (sym has.entry) left);
}

-- .. as they were made
pub left_made : (f : Flow) (ranges : List Range) (called d k : ℕ) (x : Exit) (entry : ℕ) (v : VariableMap) (old mid new : WriterTree) (j : ℕ) (from : Option CitedTree) (last t : CitedTree) (pc : WordTree) (u : VariableMap) →
    last ≡ exit_standing f ranges d k x v j → Exited f ranges called d k x v old mid j → pc ≡ pc_of x v.words → u ≡ exit_place f x v.words v.mems → GoesOn f (front f entry) from last pc u mid new t → LeftBy f entry ranges called d k x v from old new t
left_made f ranges called d k x entry v old mid new j from last t pc u last_is lines pc_is u_is on = record {
  number = j;
  mid = mid;
  exited = lines;
  on = subst (λ (y : CitedTree). GoesOn f (front f entry) from y (pc_of x v.words) (exit_place f x v.words v.mems) mid new t) last_is
      (subst (λ (y : WordTree). GoesOn f (front f entry) from last y (exit_place f x v.words v.mems) mid new t) pc_is (subst (λ (y : VariableMap). GoesOn f (front f entry) from last pc y mid new t) u_is on));
}

pub exit_made : (f : Flow) (ranges : List Range) (q : Part) (k : ℕ) (x : Exit) (entry : ℕ) (v : VariableMap) (old mid new : WriterTree) (j : ℕ) (from : Option CitedTree) (last t : CitedTree) (pc : WordTree) (u : VariableMap) (d a : ℕ) →
    IsPart f q → slice_get (exits_of f q) k ≡ Some x → d ≡ f.number q → a ≡ f.addr (first f q) → last ≡ exit_standing f ranges d k x v j → Exited f ranges a d k x v old mid j →
    pc ≡ pc_of x v.words → u ≡ exit_place f x v.words v.mems → GoesOn f (front f entry) from last pc u mid new t →
    StepsBy f entry ranges (f.number q) old new (Const (f.addr (first f q))) v from (pc_of x v.words) (exit_place f x v.words v.mems) (Gives (f.number q) k (current f v) (results_at f x v.words v.mems) ∷ []) t
exit_made f ranges q k x entry v old mid new j from last t pc u d a part at d_is a_is last_is lines pc_is u_is on =
    exit_steps f ranges q k x entry v old new from t part at
    (subst (λ (c : ℕ). LeftBy f entry ranges c (f.number q) k x v from old new t) a_is
    (subst (λ (c : ℕ). LeftBy f entry ranges a c k x v from old new t) d_is (left_made f ranges a d k x entry v old mid new j from last t pc u last_is lines pc_is u_is on)))
