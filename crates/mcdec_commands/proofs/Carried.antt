-- What is claimed of a group's function is claimed of one whose definitions evaluate alike.
use Rattle.std.proofs.Common.{◌≡◌, ℕ, zero, suc, ◌-◌, ◌*◌, ◌<◌, ◌^◌, List, [], ◌∷◌, length, map, slice_get, Bool, true, false, true≢false, Option, Some, None, refl, sym, ap, ◌∙◌}
use Rattle.std.specs.Prelude.{slice_set, option_map, unwrap_or, is_some, if◌then◌else◌}
use Rattle.std.specs.List.{AllByRecursion}
use Rattle.std.proofs.lemmas.List.{length-map}
use Rattle.rv_words.specs.Bytes.{Bytes, IsMemory}
use Rattle.rv_machine.specs.State.{State, IsState}
use Rattle.tailrec_lang.specs.declared.group.Exit.{Exit}
use Rattle.tailrec_lang.specs.Tree.{DefTree, GroupTree, exits_at, listed_def}
use Rattle.tailrec_lang.specs.Eval.{Arguments, eval}
use Rattle.group_terms.specs.Range.{ArgumentsInRange}
use Rattle.fun_laws.specs.declared.step.Rw.{Rw}
use Rattle.fun_laws.specs.Evaluation.{EvaluateAlike}
use Rattle.fun_laws.specs.Rewriting.{AreRewritingSteps, IsRewritingStep, with_def_term, with_defs}
use Rattle.claims.specs.Headline.{Region, Starts, Ends, IsRight, cut, entry_at, held_in}
use Rattle.claims.specs.Exact.{Gives}
use Rattle.mcdec_commands.specs.Within.{IsExactIn, IsRightIn}

-- ---- where definitions are entered and left

abbrev Head : Type 0
Head = ℕ × List Exit

abbrev head : DefTree → Head
head d = (d.entry, d.exits)

set-heads : (ds : List DefTree) (k : ℕ) (old new : DefTree) → slice_get ds k ≡ Some old → head new ≡ head old → map head (slice_set ds k new) ≡ map head ds
set-heads [] k old new e same = refl
set-heads (d ∷ ds) zero old new e same = let is : d ≡ old = cc in ap (λ (h : Head). h ∷ map head ds) (same ∙ ap head (sym is))
set-heads (d ∷ ds) (suc k) old new e same = ap (λ (hs : List Head). head d ∷ hs) (set-heads ds k old new e same)

step-heads : (r : Rw) (ds es : List DefTree) → IsRewritingStep r ds es → map head es ≡ map head ds
step-heads r ds es s = ap (map head) s.stated ∙ set-heads ds r.def s.def (with_def_term s.def r.term s.new) s.named refl

steps-heads : (rs : List Rw) (ds es : List DefTree) → AreRewritingSteps rs ds es → map head es ≡ map head ds
steps-heads [] ds es are = ap (map head) (sym are)
steps-heads (r ∷ rs) ds es (ms, one, more) = steps-heads rs ms es more ∙ step-heads r ds ms one

get-entry : (ds : List DefTree) (d : ℕ) → option_map (λ (def : DefTree). def.entry) (slice_get ds d) ≡ option_map (λ (h : Head). h.0) (slice_get (map head ds) d)
get-entry [] d = refl
get-entry (x ∷ ds) zero = refl
get-entry (x ∷ ds) (suc d) = get-entry ds d

get-exits : (ds : List DefTree) (d : ℕ) → option_map (λ (def : DefTree). def.exits) (slice_get ds d) ≡ option_map (λ (h : Head). h.1) (slice_get (map head ds) d)
get-exits [] d = refl
get-exits (x ∷ ds) zero = refl
get-exits (x ∷ ds) (suc d) = get-exits ds d

-- ---- what a state of the machine holds

words-range : (s : State) (regs : List ℕ) → IsState s → AllByRecursion (λ n. n < 2 ^ 64) (map s.reg regs)
words-range s [] is = tt
words-range s (r ∷ regs) is = (is.words r, words-range s regs is)

-- a part of a memory is one
cut-memory : (m : Bytes) (region : Region) → IsMemory m → IsMemory (cut m region)
cut-memory m region is = record { bytes = λ a b e. part a b (region a) e; places = λ a e. place a (region a) e }
  where
    part : (a b : ℕ) (inside : Bool) → (if inside then m a else None) ≡ Some b → b < 256
    part a b true e = is.bytes a b e
    part a b false e = absurd (cc)

    place : (a : ℕ) (inside : Bool) → is_some (if inside then m a else None) ≡ true → a < 2 ^ 64
    place a true e = is.places a e
    place a false e = absurd (true≢false (sym e))

mems-range : (s : State) (regions : List Region) → IsState s → AllByRecursion IsMemory (map (cut s.mem) regions)
mems-range s [] is = tt
mems-range s (region ∷ regions) is = (cut-memory s.mem region is.memory, mems-range s regions is)

held-range : (s : State) (g : GroupTree) (regions : List Region) → IsState s → ArgumentsInRange (held_in s g regions)
held-range s g regions is = record { words = words-range s g.regs is; mems = mems-range s regions is }

-- ---- claims

module _ (file : List ℕ) (g : GroupTree) (rs : List Rw) (es : List DefTree) (are : AreRewritingSteps rs g.defs es) (alike : EvaluateAlike g es) where
  same-entry : (d : ℕ) → entry_at (with_defs g es) d ≡ entry_at g d
  same-entry d = get-entry es d ∙ ap (λ (hs : List Head). option_map (λ (h : Head). h.0) (slice_get hs d)) (steps-heads rs g.defs es are) ∙ sym (get-entry g.defs d)

  same-exits : (d : ℕ) → exits_at (with_defs g es) d ≡ exits_at g d
  same-exits d =
      ap (λ (o : Option (List Exit)). unwrap_or o [])
      (get-exits es d ∙ ap (λ (hs : List Head). option_map (λ (h : Head). h.1) (slice_get hs d)) (steps-heads rs g.defs es are) ∙ sym (get-exits g.defs d))

  same-listed : listed_def (with_defs g es) ≡ listed_def g
  same-listed = ap (λ (n : ℕ). n - 1) (sym (length-map es head) ∙ ap length (steps-heads rs g.defs es are) ∙ length-map g.defs head)

  starts : (s : State) (regions : List Region) → Starts file (with_defs g es) s regions → Starts file g s regions
  starts s regions h = record {
    entry = sym (same-entry (listed_def g)) ∙ ap (entry_at (with_defs g es)) (sym same-listed) ∙ h.entry;
    code = h.code;
    count = h.count;
    present = h.present;
    beside_code = h.beside_code;
    apart = h.apart;
  }

  same-eval : (s : State) (regions : List Region) (n : ℕ) → IsState s
      → eval (with_defs g es) (listed_def (with_defs g es)) (held_in s (with_defs g es) regions) n ≡ eval g (listed_def g) (held_in s g regions) n
  same-eval s regions n is =
      ap (λ (d : ℕ). eval (with_defs g es) d (held_in s g regions) n) same-listed ∙ sym (alike (listed_def g) (held_in s g regions) n (held-range s g regions is))

  ends : (s : State) (regions : List Region) (pc : ℕ) (results : Arguments) (t : State) → Ends g regions s pc results t → Ends (with_defs g es) regions s pc results t
  ends s regions pc results t h = record { pc = h.pc; results = h.results; registers = h.registers; bytes = h.bytes; present = h.present }

  pub right-in : IsRight file g → IsRightIn IsState file (with_defs g es)
  right-in right s regions is h turns exit pc left results done =
      let r = right s regions (starts s regions h) turns exit pc left results (sym (same-eval s regions turns is) ∙ done) in
      (r.0, r.1, ends s regions pc results r.0 r.2)

  gives : (s : State) (regions : List Region) (n : ℕ) (t : State) → IsState s → Gives g regions s n t → Gives (with_defs g es) regions s n t
  gives s regions n t is h = record {
    exit = h.exit;
    pc = h.pc;
    results = h.results;
    left = h.left;
    done = same-eval s regions n is ∙ h.done;
    return = ap (λ (xs : List Exit). slice_get xs h.exit) (ap (exits_at (with_defs g es)) same-listed ∙ same-exits (listed_def g)) ∙ h.return;
    ends = ends s regions h.pc h.results t h.ends;
  }

  pub exact-in : (Runs : List Region → State → ℕ → State → Type 0)
      → ((s : State) (regions : List Region) → Starts file g s regions → (k : ℕ) (t : State) → Runs regions s k t → Gives g regions s (2 * k) t)
      → IsExactIn IsState Runs file (with_defs g es)
  exact-in Runs all s regions is h k t runs = gives s regions (2 * k) t is (all s regions (starts s regions h) k t runs)
