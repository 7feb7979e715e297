-- The arms of a call one after the other, and the lines that close a part's definition.
use Rattle.std.proofs.Common.{◌≡◌, ℕ, zero, suc, ◌+◌, ◌-◌, ◌<◌, ◌≤◌, ◌^◌, List, [], ◌∷◌, ◌++◌, map, length, get_or, take, take-suc, drop, fold, Bool, true, false, cond, eqb, refl, sym, ap, ◌∙◌, subst, arith, Option, Some, None, add-one, eq-eqb}
use Rattle.std.specs.Prelude.{slice_get}
use Rattle.std.specs.List.{AllByRecursion, AllZip}
use Rattle.rv_words.specs.declared.range.Range.{Range}
use Rattle.word_terms.specs.Tree.{WordTree, Const}
use Rattle.tailrec_lang.specs.declared.group.Exit.{Exit}
use Rattle.tailrec_lang.specs.declared.group.Exit.TheVariants.{At}
use Rattle.tailrec_lang.specs.Tree.{BodyTree, DefTree, GroupTree}
use Rattle.triple_kernel.specs.Tree.{Gives, TripleTree}
use Rattle.proof_text.specs.declared.line.Line.{Line}
use Rattle.proof_text.specs.Line.{LineTree, States, Loop, Forget, Further, line_tree}
use Rattle.group_text.specs.Version.{version_of}
use Rattle.proof_text.specs.LineLimits.{IsLineIn}
use Rattle.loop_rule.specs.Tree.{LeafTree}
use Rattle.loop_rule.specs.Leaves.{body_leaves, leaves_of}
use Rattle.loop_rule.specs.Rule.{IsClosedBy, IsLedTo, LeadsTo}
use Rattle.verdicts.specs.Instance.{AreInstancesBy, History, after_line, after_lines, no_lines, with_closed}
use Rattle.code_parts.proofs.Lists.{length-map}
use Rattle.code_parts.specs.declared.part.Part.{Part}
use Rattle.code_parts.specs.declared.part.Part.TheVariants as part
use Rattle.code_parts.specs.Bodies.{Flow, VariableMap, arms_over, body_at, current, end_at, first, fresh, part_body, part_def, start}
use Rattle.path_walk.specs.Closed.{AreClosed}
use Rattle.code_parts.specs.Graph.{CallsBelow, HasPart, IsCode, IsFor}
use Rattle.group_text.specs.declared.version.Version.{Version as Known}
use Rattle.verdicts.specs.Further.{further_of}
use Rattle.path_walk.specs.Further.{IsVersionFor}
use Rattle.path_walk.specs.Item.{AreClosing, IsWalkedIn}
use Rattle.path_walk.specs.inner.Acts.{results_at}
use Rattle.code_parts.specs.Flows.{group_over}
use Rattle.path_walk.specs.inner.Lines.{ArmsLead, forgets, stated}
use Rattle.path_walk.specs.inner.Writers.{IsFineWriter, Leads, WriterTree, Context, CitedTree, StepsBy, group_in, past}
use Rattle.code_parts.proofs.BuiltBodies.{part_head, part_loop, part_node}
use Rattle.path_walk.proofs.ForgottenLines.{all_stated, closing-forgets, forgets-fine, next-after}
use Rattle.path_walk.proofs.LineTexts.{all-join}
use Rattle.path_walk.proofs.LeafCitations.{arms_more, arms_none, call_leads}
use Rattle.path_walk.proofs.RightLines.{fold-join, joined, lines-counted, none-counted}

-- ---- arms in a loop

drop-at : (xs : List ℕ) (k x : ℕ) → slice_get xs k ≡ Some x → drop k xs ≡ x ∷ drop (suc k) xs
drop-at [] k x e = absurd (cc)
drop-at (y ∷ xs) zero x e = let same : y ≡ x = cc in ap (λ (z : ℕ). z ∷ xs) same
drop-at (y ∷ xs) (suc k) x e = drop-at xs k x e

module _ (f : Flow) (p : Part) (ranges : List Range) (d : ℕ) (pc : WordTree) (v : VariableMap) (from : Option CitedTree) (more : List Exit) (go : ℕ → BodyTree) (xs : List ℕ) where
  -- the lines are whole where those for the arms from place k on are added
  pub record ArmsLeft (old now : WriterTree) (k : ℕ) : Type 0 where
    pub each : (new : WriterTree) → ArmsLead f p ranges d now new pc v from (map (λ x. At (f.addr x)) (drop k xs) ++ more) k (arms_over (drop k xs) go) → ArmsLead f p ranges d old new pc v from (map (λ x. At (f.addr x)) xs ++ more) 0 (arms_over xs go)

  pub left_all : (old : WriterTree) → ArmsLeft old old 0
  left_all old = record { each = λ new lead. lead }

  pub left_next : (old now mid after : WriterTree) (entry j a k x : ℕ) (t : CitedTree) → entry ≡ (part_def f p).entry → j ≡ k → a ≡ f.addr x → slice_get xs k ≡ Some x → ArmsLeft old now k →
      StepsBy f entry ranges d now mid pc v from (Const a) (fresh f v.words v.mems) (Gives d j (current f v) (results_at f (At a) v.words v.mems) ∷ []) t →
      Leads f p ranges mid after (Const (f.addr x)) (fresh f v.words v.mems) (Some t) (go x) → ArmsLeft old after (k + 1)
  left_next old now mid after entry j a k x t front count there at left step one = record {
    each = λ new lead.
        let next : k + 1 ≡ suc k = add-one k in
        let rest = subst (λ (n : ℕ). ArmsLead f p ranges d after new pc v from (map (λ x. At (f.addr x)) (drop n xs) ++ more) n (arms_over (drop n xs) go)) next lead in
        let known = subst (λ (n : ℕ). StepsBy f n ranges d now mid pc v from (Const (f.addr x)) (fresh f v.words v.mems) (Gives d k (current f v) (results_at f (At (f.addr x)) v.words v.mems) ∷ []) t) front
        (subst (λ (n : ℕ). StepsBy f entry ranges d now mid pc v from (Const (f.addr x)) (fresh f v.words v.mems) (Gives d n (current f v) (results_at f (At (f.addr x)) v.words v.mems) ∷ []) t) count
        (subst (λ (n : ℕ). StepsBy f entry ranges d now mid pc v from (Const n) (fresh f v.words v.mems) (Gives d j (current f v) (results_at f (At n) v.words v.mems) ∷ []) t) there step)) in
        let cons = arms_more f p ranges d k now mid after new pc v from x t (go x) (map (λ x. At (f.addr x)) (drop (suc k) xs) ++ more) (arms_over (drop (suc k) xs) go) known one rest in
        left.each new (subst (λ (ys : List ℕ). ArmsLead f p ranges d now new pc v from (map (λ x. At (f.addr x)) ys ++ more) k (arms_over ys go)) (sym (drop-at xs k x at)) cons);
  }

  none-left : (ys : List ℕ) (k : ℕ) → k ≡ length ys → drop k ys ≡ []
  none-left [] zero e = refl
  none-left [] (suc k) e = absurd (omega (arith, e))
  none-left (y ∷ ys) zero e = absurd (omega (arith, e))
  none-left (y ∷ ys) (suc k) e = none-left ys k (omega (arith, e))

  pub left_none : (old now : WriterTree) (k : ℕ) → k ≡ length xs → more ≡ [] → ArmsLeft old now k → ArmsLead f p ranges d old now pc v from (map (λ x. At (f.addr x)) xs ++ more) 0 (arms_over xs go)
  left_none old now k all none left =
      left.each now (subst (λ (ys : List ℕ). ArmsLead f p ranges d now now pc v from (map (λ x. At (f.addr x)) ys ++ more) k (arms_over ys go)) (sym (none-left xs k all)) (arms_none f p ranges d k now pc v from more))

-- ---- bodies of parts

module _ (f : Flow) (p : Part) (ranges : List Range) (old new : WriterTree) where
  pub loop_part : (l : ℕ) → p ≡ part.Loop l → Leads f p ranges old new (Const (f.addr (f.head l))) (start f) None (body_at 32 f p (f.head l) (start f)) → Leads f p ranges old new (Const (f.addr (first f p))) (start f) None (part_body f p)
  loop_part l is lead =
      subst (λ (n : ℕ). Leads f p ranges old new (Const (f.addr n)) (start f) None (part_body f p)) (λ i. first f (sym is i))
      (subst (λ (b : BodyTree). Leads f p ranges old new (Const (f.addr (f.head l))) (start f) None b) (part_loop f p l is) lead)

  pub node_part : (r : Option ℕ) (n : ℕ) → p ≡ part.Rest r n → f.loop_of n ≡ None → Leads f p ranges old new (Const (f.addr n)) (start f) None (body_at 32 f p n (start f)) → Leads f p ranges old new (Const (f.addr (first f p))) (start f) None (part_body f p)
  node_part r n is none lead =
      subst (λ (m : ℕ). Leads f p ranges old new (Const (f.addr m)) (start f) None (part_body f p)) (λ i. first f (sym is i))
      (subst (λ (b : BodyTree). Leads f p ranges old new (Const (f.addr n)) (start f) None b) (part_node f p r n is none) lead)

  pub head_part : (r : Option ℕ) (n l : ℕ) → l < f.loops → f.head l ≡ n → p ≡ part.Rest r n → f.loop_of n ≡ Some l →
      ArmsLead f p ranges (f.number (part.Loop l)) old new (Const (f.addr (f.head l))) (start f) None (map (λ x. At (f.addr x)) (f.exits l) ++ []) 0 (arms_over (f.exits l) (λ x. end_at f p x (fresh f (start f).words (start f).mems))) →
      Leads f p ranges old new (Const (f.addr (first f p))) (start f) None (part_body f p)
  head_part r n l loop head is some lead =
      let arms = arms_over (f.exits l) (λ x. end_at f p x (fresh f (start f).words (start f).mems)) in
      let call = call_leads f p ranges (part.Loop l) loop old new (Const (f.addr (f.head l))) (start f) None arms lead in
      subst (λ (m : ℕ). Leads f p ranges old new (Const (f.addr m)) (start f) None (part_body f p)) (head ∙ (λ i. first f (sym is i)))
      (subst (λ (b : BodyTree). Leads f p ranges old new (Const (f.addr (f.head l))) (start f) None b) (part_head f p r n l is some) call)

-- ---- a part

module _ (version : Known) (f : Flow) (fits : IsVersionFor f version) (p : Part) (ranges : List Range) (old : List LineTree) (count : ℕ) (new : WriterTree) (next : count ≡ (after_lines old).next)
    (lead : Leads f p ranges (record { version = version; lines = []; next = count; cited = [] }) new (Const (f.addr (first f p))) (start f) None (part_body f p)) where
  abbrev empty : WriterTree
  empty = record { version = version; lines = []; next = count; cited = [] }

  cited_all : (g : GroupTree) (h : History) (leaves : List LeafTree) (js : List ℕ) → AllZip (λ leaf j. (t : TripleTree) × (h.theorem j ≡ Some t) × LeadsTo g (part_def f p) leaf t) leaves js →
      AllZip (IsLedTo g (part_def f p)) leaves (map h.theorem js)
  cited_all g h [] [] a = tt
  cited_all g h [] (j ∷ js) a = absurd a
  cited_all g h (l ∷ ls) [] a = absurd a
  cited_all g h (l ∷ ls) (j ∷ js) a = (subst (IsLedTo g (part_def f p) l) (sym a.0.1) a.0.2, cited_all g h ls js a.1)

  by_setting : (s : Context f ranges) → s.before ≡ old → slice_get s.defs (f.number p) ≡ Some (part_def f p) → AreClosed (after_lines old) (part_body f p) → CallsBelow s.bound (part_body f p) →
      AreClosing (further_of s.version) (group_in f ranges s) (after_lines old) (f.number p) (new.lines ++ Loop (f.number p) new.cited ∷ [])
  by_setting s before mine closed below =
      let g : GroupTree = group_in f ranges s in
      let def : DefTree = part_def f p in
      let h : History = after_lines s.before in
      let same : h ≡ after_lines old = ap after_lines before in
      let ready = subst (λ (ls : List LineTree). AreClosed (after_lines ls) (part_body f p)) (sym before) closed in
      let led = lead.each s [] (record { next = next ∙ ap (λ ls. (after_lines ls).next) (sym before); counted = lines-counted no_lines s.before none-counted }) (refl, refl, refl) ready below in
      let k : History = past f ranges s new in
      let words : (start f).words ≡ length f.regs = omega arith in
      let mems : (start f).mems ≡ f.mems = omega arith in
      let each = subst (λ (ls : List LeafTree). AllZip (λ leaf j. (t : TripleTree) × (k.theorem j ≡ Some t) × LeadsTo g def leaf t) ls led.numbers)
      (λ i. body_leaves g def (part_body f p) (words i) (mems i) []) led.each in
      let all = subst (λ (js : List ℕ). AllZip (IsLedTo g def) (leaves_of g def) (map k.theorem js)) (sym led.cited) (cited_all g k (leaves_of g def) led.numbers each) in
      let closed_by : IsClosedBy g (f.number p) (map k.theorem new.cited) = record { def = def; is = mine; each = all } in
      let last : List LineTree = Loop (f.number p) new.cited ∷ [] in
      let right = subst (λ (ls : List LineTree). AreInstancesBy (further_of s.version) g h ls) (sym led.grown.lines) led.grown.right in
      let whole : fold after_line h (new.lines ++ last) ≡ with_closed (f.number p) k = fold-join h new.lines last in
      subst (λ (m : History). AreClosing (further_of s.version) g m (f.number p) (new.lines ++ last)) same (record {
        right = joined (further_of s.version) g h new.lines last right (closed_by, tt);
        closed = (λ i. (whole i).closed (f.number p)) ∙ (λ i. cond (eq-eqb (f.number p) (f.number p) refl i) true (k.closed (f.number p)));
        keeps = λ c e. (λ i. (whole i).closed c) ∙ stays k c (led.grown.keeps.closed c e);
      })
    where
      stays : (k : History) (c : ℕ) → k.closed c ≡ true → cond (eqb c (f.number p)) true (k.closed c) ≡ true
      stays k c e = go (eqb c (f.number p))
        where
          go : (b : Bool) → cond b true (k.closed c) ≡ true
          go true = refl
          go false = e

  by_group : (g : GroupTree) (d : ℕ) → IsFor f d g → g.code ≡ ranges → slice_get g.defs (f.number p) ≡ Some (part_def f p) → CallsBelow d (part_body f p) → AreClosed (after_lines old) (part_body f p) →
      AreClosing (further_of version) g (after_lines old) (f.number p) (new.lines ++ Loop (f.number p) new.cited ∷ [])
  by_group g d for code mine below closed =
      let s : Context f ranges = record {
        version = version;
        fits = fits;
        name = g.name;
        defs = g.defs;
        before = old;
        bound = d;
        code = subst (IsCode f) code for.code;
        has = λ q there low. moved q (for.has q there low);
        callees = for.callees;
      } in
      let same : group_over f g.name ranges g.defs ≡ g = (λ i. record { name = g.name; regs = sym for.regs i; mems = sym for.mems i; code = sym code i; defs = g.defs }) in
      subst (λ (x : GroupTree). AreClosing (further_of version) x (after_lines old) (f.number p) (new.lines ++ Loop (f.number p) new.cited ∷ [])) same (by_setting s refl mine closed below)
    where
      moved : (q : Part) → HasPart f g q → HasPart f (group_over f g.name ranges g.defs) q
      moved q x = record { def = x.def; is = x.is; entry = x.entry; exits = x.exits }

  -- the lines of a part, the one that closes its definition, and those that forget its theorems
  pub walked : (lines : List LineTree) → lines ≡ old ++ ((new.lines ++ Loop (f.number p) new.cited ∷ []) ++ forgets count (stated new.lines)) → IsFineWriter new → count + stated new.lines ≤ 2 ^ 64 → f.number p < 2 ^ 32 →
      IsWalkedIn version f ranges p old lines
  walked lines are fine most low = record {
    added = (new.lines ++ Loop (f.number p) new.cited ∷ []) ++ forgets count (stated new.lines);
    lines = are;
    fine = all-join (IsLineIn (version_of version)) (new.lines ++ Loop (f.number p) new.cited ∷ []) (forgets count (stated new.lines))
        (all-join (IsLineIn (version_of version)) new.lines (Loop (f.number p) new.cited ∷ []) (subst (λ (v : Known). AllByRecursion (IsLineIn (version_of v)) new.lines) lead.version fine.lines) ((low, fine.cited), tt))
        (forgets-fine (version_of version) count (stated new.lines) most);
    closing = λ g d for code mine below closed.
        subst (λ (a : ℕ). AreClosing (further_of version) g (after_lines old) (f.number p) ((new.lines ++ Loop (f.number p) new.cited ∷ []) ++ forgets a (stated new.lines))) (sym next)
        (closing-forgets (further_of version) g (after_lines old) (f.number p) new.lines new.cited fine.stating (by_group g d for code mine below closed));
  }

-- what is added to the lines before
pub closing : (version : Known) (f : Flow) → IsVersionFor f version → (p : Part) (ranges : List Range) (count last : ℕ) (none new : WriterTree) (d : ℕ) (cited : List ℕ) (more : List LineTree) → none ≡ record { version = version; lines = []; next = count; cited = [] } →
    Leads f p ranges none new (Const (f.addr (first f p))) (start f) None (part_body f p) → more ≡ (new.lines ++ Loop d cited ∷ []) ++ forgets count (last - count) → last ≡ count + stated new.lines → last < 2 ^ 64 → d ≡ f.number p → cited ≡ new.cited → IsFineWriter new → d < 2 ^ 32 →
    (old : List LineTree) → count ≡ (after_lines old).next → IsWalkedIn version f ranges p old (old ++ more)
closing version f allowed p ranges count last none new d cited more blank lead are all most number same fine low old next =
    let from = subst (λ (l : WriterTree). Leads f p ranges l new (Const (f.addr (first f p))) (start f) None (part_body f p)) blank lead in
    let whole : old ++ more ≡ old ++ ((new.lines ++ Loop (f.number p) new.cited ∷ []) ++ forgets count (stated new.lines)) =
    ap (λ (ls : List LineTree). old ++ ls) (are ∙ (λ i. (new.lines ++ Loop (number i) (same i) ∷ []) ++ forgets count (all_stated count last (stated new.lines) all i))) in
    walked version f allowed p ranges old count new next from (old ++ more) whole fine (fits all most) (subst (λ (k : ℕ). k < 2 ^ 32) number low)
  where
    fits : last ≡ count + stated new.lines → last < 2 ^ 64 → count + stated new.lines ≤ 2 ^ 64
    fits all most = omega (arith, all, most)

map-push : {A B : Type 0} (h : A → B) (xs : List A) (y : A) → map h (xs ++ y ∷ []) ≡ map h xs ++ h y ∷ []
map-push h [] y = refl
map-push h (x ∷ xs) y = let rest = map-push h xs y in λ i. h x ∷ rest i

map-join : {A B : Type 0} (h : A → B) (xs ys : List A) → map h (xs ++ ys) ≡ map h xs ++ map h ys
map-join h [] ys = refl
map-join h (x ∷ xs) ys = let rest = map-join h xs ys in λ i. h x ∷ rest i

-- a line pushed onto those of a log
pub pushed : (before after : List Line) (line : Line) (all : List LineTree) (last : LineTree) → after ≡ before ++ line ∷ [] → map line_tree before ≡ all → line_tree line ≡ last → map line_tree after ≡ all ++ last ∷ []
pushed before after line all last is are same = ap (map line_tree) is ∙ map-push line_tree before line ∙ (λ i. are i ++ same i ∷ [])

pub added : (before more after : List Line) → after ≡ before ++ more → map line_tree after ≡ map line_tree before ++ map line_tree more
added before more after is = ap (map line_tree) is ∙ map-join line_tree before more

-- the number of the next theorem
pub next_is : (before more after : List Line) (first next : ℕ) → after ≡ before ++ more → first ≡ (after_lines (map line_tree before)).next → next ≡ first + stated (map line_tree more) → next ≡ (after_lines (map line_tree after)).next
next_is before more after first next is at count =
    count ∙ (λ i. at i + stated (map line_tree more)) ∙ sym (next-after (after_lines (map line_tree before)) (map line_tree more))
    ∙ ap (λ (h : History). h.next) (sym (fold-join no_lines (map line_tree before) (map line_tree more))) ∙ ap (λ (ls : List LineTree). (after_lines ls).next) (sym (added before more after is))

stated-low : (ls : List LineTree) → stated ls ≤ length ls
stated-low [] = omega arith
stated-low (States rule t ∷ ls) = let rest = stated-low ls in omega (arith, rest)
stated-low (Loop d cited ∷ ls) = let rest = stated-low ls in omega (arith, rest)
stated-low (Forget k ∷ ls) = let rest = stated-low ls in omega (arith, rest)
stated-low (Further p t ∷ ls) = let rest = stated-low ls in omega (arith, rest)

-- there are no more theorems than lines
pub next-low : (lines : List Line) → (after_lines (map line_tree lines)).next ≤ length lines
next-low lines =
    let count = next-after no_lines (map line_tree lines) in
    let low = stated-low (map line_tree lines) in
    let long = length-map line_tree lines in
    omega (arith, count, low, long)

stated-push : (ls : List LineTree) (l : LineTree) → stated (ls ++ l ∷ []) ≡ stated ls + stated (l ∷ [])
stated-push [] l = omega arith
stated-push (States rule t ∷ ls) l = let rest = stated-push ls l in omega (arith, rest)
stated-push (Loop d cited ∷ ls) l = stated-push ls l
stated-push (Forget k ∷ ls) l = stated-push ls l
stated-push (Further p t ∷ ls) l = let rest = stated-push ls l in omega (arith, rest)

-- one more line is counted
pub one_stated : (xs : List Line) (i : ℕ) (x : Line) → i < length xs → x ≡ get_or xs i x → stated (map line_tree (take (i + 1) xs)) ≡ stated (map line_tree (take i xs)) + stated (line_tree x ∷ [])
one_stated xs i x lt at =
    let split : take (i + 1) xs ≡ take i xs ++ x ∷ [] = ap (λ (n : ℕ). take n xs) (add-one i) ∙ take-suc xs i x lt ∙ (λ j. take i xs ++ sym at j ∷ []) in
    ap (λ (ls : List Line). stated (map line_tree ls)) split ∙ ap stated (map-push line_tree (take i xs) x) ∙ stated-push (map line_tree (take i xs)) (line_tree x)
