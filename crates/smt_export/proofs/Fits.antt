-- Groups whose numbers fit.
use Rattle.std.proofs.Common.{◌≡◌, ℕ, zero, suc, ◌+◌, ◌<◌, ◌≤◌, ◌^◌, List, [], ◌∷◌, Option, Some, None, length, get_or, slice_get, map, drop, refl, sym, ap, subst, ◌∙◌, arith, option_map, unwrap_or}
use Rattle.std.specs.List.{AllByRecursion}
use Rattle.std.proofs.lemmas.List.{drop_more, drop_all}
use Rattle.tailrec_lang.specs.declared.group.Body.{Body}
use Rattle.tailrec_lang.specs.declared.group.Step.{Step}
use Rattle.tailrec_lang.specs.declared.group.Exit.{Exit}
use Rattle.tailrec_lang.specs.declared.group.Exit.TheVariants.{At}
use Rattle.tailrec_lang.specs.Tree.{StepTree, Bind, BindMem, Need, BodyTree, DefTree, GroupTree, with_steps, step_tree, body_tree}
use Rattle.tailrec_lang.specs.inner.Tree.{arm_trees, end_tree}
use Rattle.tailrec_lang.specs.inner.WellFormed.{mems_after_all, words_after_all}
use Rattle.tailrec_lang.specs.WellFormed.{IsWellFormed, exit_words}
use Rattle.tailrec_lang.proofs.Views.{view_body}
use Rattle.group_terms.specs.Range.{ExitInRange, DefInRange, GroupInRange}
use Rattle.smt_export.specs.inner.Following.{room, arm_room}
use Rattle.smt_export.specs.inner.Room.{DefHasRoom, HasRoom}
use Rattle.smt_export.specs.inner.Exported.{HasRange}
use Rattle.smt_export.proofs.Bodies.{exit_words-few}

-- ---- variables

room-steps : (g : GroupTree) (rest : BodyTree) (ss : List StepTree) → room g (with_steps ss rest) ≡ length ss + room g rest
room-steps g rest [] = omega arith
room-steps g rest (s ∷ ss) = let e = room-steps g rest ss in omega (arith, e)

steps-length : (xs : List Step) → length (map step_tree xs) ≡ length xs
steps-length [] = refl
steps-length (x ∷ xs) = ap suc (steps-length xs)

-- a body has its steps' and its end's
room_parts : (g : GroupTree) (body : Body) → length body.steps + room g (end_tree body.end) ≡ room g (body_tree body)
room_parts g body =
    let e = ap (room g) (view_body body) ∙ room-steps g (end_tree body.end) (map step_tree body.steps) in
    let len = steps-length body.steps in
    omega (arith, e, len)

pub room_behind : (g : GroupTree) (body : Body) (n end : ℕ) → end ≡ room g (end_tree body.end) → n ≡ length body.steps + end → n ≡ room g (body_tree body)
room_behind g body n end is sum = let parts = room_parts g body in omega (arith, parts, is, sum)

pub steps_fit : (g : GroupTree) (body : Body) (ss : List Step) (n : ℕ) → ss ≡ body.steps → n + room g (body_tree body) < 2 ^ 64 → n + length ss < 2 ^ 64
steps_fit g body ss n is fits = let parts = room_parts g body in let long = ap (λ (ss : List Step). length ss) is in omega (arith, parts, long, fits)

-- the variables of steps are among those of the body, and so are those of an arm
words-low : (ss : List StepTree) (n : ℕ) → words_after_all ss n ≤ n + length ss
words-low [] n = omega arith
words-low (Bind x ∷ ss) n = let rest = words-low ss (n + 1) in omega (arith, rest)
words-low (BindMem x ∷ ss) n = let rest = words-low ss n in omega (arith, rest)
words-low (Need c ∷ ss) n = let rest = words-low ss n in omega (arith, rest)

mems-low : (ss : List StepTree) (m : ℕ) → mems_after_all ss m ≤ m + length ss
mems-low [] m = omega arith
mems-low (Bind x ∷ ss) m = let rest = mems-low ss m in omega (arith, rest)
mems-low (BindMem x ∷ ss) m = let rest = mems-low ss (m + 1) in omega (arith, rest)
mems-low (Need c ∷ ss) m = let rest = mems-low ss m in omega (arith, rest)

pub end_words_fit : (g : GroupTree) (body : Body) (ss : List Step) (n after : ℕ) → ss ≡ body.steps → after ≡ words_after_all (map step_tree ss) n → n + room g (body_tree body) < 2 ^ 64 → after + room g (end_tree body.end) < 2 ^ 64
end_words_fit g body ss n after is words fits =
    let parts = room_parts g body in
    let long = ap (λ (ss : List Step). length ss) is in
    let len = steps-length ss in
    let low = words-low (map step_tree ss) n in
    omega (arith, parts, long, len, low, words, fits)

pub end_mems_fit : (g : GroupTree) (body : Body) (ss : List Step) (m after : ℕ) → ss ≡ body.steps → after ≡ mems_after_all (map step_tree ss) m → m + room g (body_tree body) < 2 ^ 64 → after + room g (end_tree body.end) < 2 ^ 64
end_mems_fit g body ss m after is mems fits =
    let parts = room_parts g body in
    let long = ap (λ (ss : List Step). length ss) is in
    let len = steps-length ss in
    let low = mems-low (map step_tree ss) m in
    omega (arith, parts, long, len, low, mems, fits)

arm-low : (g : GroupTree) (bs : List Body) (k : ℕ) (b : Body) → k < length bs → b ≡ get_or bs k b → length g.regs + 1 + g.mems + room g (body_tree b) ≤ arm_room g (arm_trees bs)
arm-low g [] k b lt is = absurd (omega (arith, lt))
arm-low g (x ∷ bs) zero b lt is = let same : room g (body_tree b) ≡ room g (body_tree x) = λ j. room g (body_tree (is j)) in omega (arith, same)
arm-low g (x ∷ bs) (suc k) b lt is = let rest = arm-low g bs k b (omega (arith, lt)) is in omega (arith, rest)

pub arm_words_fit : (g : GroupTree) (bs : List Body) (k : ℕ) (b : Body) (x : Exit) (n inner : ℕ) → k < length bs → b ≡ get_or bs k b → inner ≡ n + exit_words g x → n + arm_room g (arm_trees bs) < 2 ^ 64 → inner + room g (body_tree b) < 2 ^ 64
arm_words_fit g bs k b x n inner lt is words fits =
    let low = arm-low g bs k b lt is in
    let few = exit_words-few g x in
    omega (arith, low, few, words, fits)

pub arm_mems_fit : (g : GroupTree) (bs : List Body) (k : ℕ) (b : Body) (m inner : ℕ) → k < length bs → b ≡ get_or bs k b → inner ≡ m + g.mems → m + arm_room g (arm_trees bs) < 2 ^ 64 → inner + room g (body_tree b) < 2 ^ 64
arm_mems_fit g bs k b m inner lt is mems fits = let low = arm-low g bs k b lt is in omega (arith, low, mems, fits)

pub room_next : (g : GroupTree) (xs : List Body) (i : ℕ) (x : Body) (count n w : ℕ) → i < length xs → x ≡ get_or xs i x → n ≡ room g (body_tree x)
    → count + arm_room g (arm_trees (drop i xs)) ≡ w → count + (length g.regs + 1 + g.mems + n) + arm_room g (arm_trees (drop (i + 1) xs)) ≡ w
room_next g xs i x count n w lt is here before =
    let e : arm_room g (arm_trees (drop i xs)) ≡ length g.regs + 1 + g.mems + room g (body_tree x) + arm_room g (arm_trees (drop (i + 1) xs)) =
    (λ j. arm_room g (arm_trees (drop_more xs i x lt j))) ∙ (λ j. length g.regs + 1 + g.mems + room g (body_tree (sym is j)) + arm_room g (arm_trees (drop (i + 1) xs))) in
    omega (arith, e, here, before)

pub room_all : (g : GroupTree) (xs : List Body) (i count w : ℕ) → length xs ≤ i → count + arm_room g (arm_trees (drop i xs)) ≡ w → count ≡ w
room_all g xs i count w le before =
    let e : arm_room g (arm_trees (drop i xs)) ≡ 0 = λ j. arm_room g (arm_trees (drop_all i xs le j)) in
    omega (arith, e, before)

-- ---- all together

all-at : {A : Type 0} (P : A → Type 0) (xs : List A) (i : ℕ) (x : A) → AllByRecursion P xs → slice_get xs i ≡ Some x → P x
all-at P [] i x h is = absurd (cc)
all-at P (y ∷ ys) zero x h is = let same : y ≡ x = cc in subst P same h.0
all-at P (y ∷ ys) (suc i) x h is = all-at P ys i x h.1 is

pub room_at : (g : GroupTree) (d : ℕ) (def : DefTree) → HasRoom g → slice_get g.defs d ≡ Some def → DefHasRoom g def
room_at g d def room is = all-at (DefHasRoom g) g.defs d def room is

exit-at : (o : Option DefTree) (n a : ℕ) → ((def : DefTree) → o ≡ Some def → AllByRecursion ExitInRange def.exits)
    → slice_get (unwrap_or (option_map (λ (def : DefTree). def.exits) o) []) n ≡ Some (At a) → a < 2 ^ 64
exit-at None n a h is = absurd (cc)
exit-at (Some def) n a h is = all-at ExitInRange def.exits n (At a) (h def refl) is

exits-few : (o : Option DefTree) → ((def : DefTree) → o ≡ Some def → length def.exits < 2 ^ 32) → length (unwrap_or (option_map (λ (def : DefTree). def.exits) o) []) < 2 ^ 32
exits-few None h = omega arith
exits-few (Some def) h = h def refl

pub fits : (g : GroupTree) → IsWellFormed g → GroupInRange g → HasRoom g → length g.defs < 2 ^ 64 → HasRange g
fits g wf range room few = record {
  well_formed = wf;
  bodies = λ d def is. (all-at DefInRange g.defs d def range is).body;
  exits = λ d n a is. exit-at (slice_get g.defs d) n a (λ def e. (all-at DefInRange g.defs d def range e).exits) is;
  few_exits = λ d. exits-few (slice_get g.defs d) (λ def e. (all-at (DefHasRoom g) g.defs d def room e).exits);
  few_words = λ d def is. (all-at (DefHasRoom g) g.defs d def room is).words;
  few_mems = λ d def is. (all-at (DefHasRoom g) g.defs d def room is).mems;
  few_defs = few;
}
