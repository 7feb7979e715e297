-- What the triples of a definition's exits say of states and regions.
use Rattle.std.proofs.Common.{◌≡◌, ℕ, zero, suc, ◌+◌, ◌-◌, ◌<◌, ◌≤◌, Bool, true, false, Option, Some, None, List, [], ◌∷◌, length, map, get_or, refl, sym, ap, ◌∙◌, subst, arith}
use Rattle.std.specs.Prelude.{◌||◌, option_map, is_some, slice_get, Contains}
use Rattle.std.specs.List.{AllZip}
use Rattle.std.proofs.lemmas.List.{length-map, length-drop}
use Rattle.rv_words.specs.Bytes.{Bytes}
use Rattle.elf_image.specs.Image.{code_of_file}
use Rattle.word_terms.specs.Tree.{Const}
use Rattle.word_terms.specs.Environment.{Environment}
use Rattle.tailrec_lang.specs.declared.group.Exit.{Exit}
use Rattle.tailrec_lang.specs.declared.group.Exit.TheVariants.{At, Ret}
use Rattle.tailrec_lang.specs.Tree.{DefTree, GroupTree, exits_at, listed_def}
use Rattle.tailrec_lang.specs.WellFormed.{IsWellFormed}
use Rattle.tailrec_lang.specs.Eval.{ExitFits, Arguments, arguments_of, Exited, ending, Done, eval}
use Rattle.tailrec_lang.proofs.Definitions.{exits_there}
use Rattle.rv_machine.specs.State.{State}
use Rattle.rv_words.specs.Ranges.{range_bytes}
use Rattle.sep_assert.specs.Code.{IsWithin}
use Rattle.sep_assert.specs.Part.{Byte, Slot, Free, Clash, both, Part, ◌⊕◌, slot_of, pc_part, code_part, part_of}
use Rattle.sep_assert.proofs.Unions.{union-comm, union-assoc}
use Rattle.triple_kernel.specs.Tree.{FactTree, Gives}
use Rattle.triple_kernel.specs.Fact.{Leaves, Holds}
use Rattle.triple_kernel.specs.Valid.{Reaches, state_part}
use Rattle.tailrec_lang.specs.Registers.{AreRegistersFrom}
use Rattle.loop_rule.specs.Leaves.{parameters, at_entry, at_exit}
use Rattle.loop_rule.specs.Rule.{results, IsClosed}
use Rattle.claims.specs.Headline.{Region, cut, is_within, held_in, Starts, Ends}
use Rattle.tailrec_lang.proofs.Fitting.{exited-fits}
use Rattle.verdicts.proofs.CountLemmas.{place_by, given_by, done-by}
use Rattle.verdicts.proofs.PartLemmas.{both-free, has-right, slot-same, held_part, with_values-part, words_part, memories_part, is_register-in, words-back, memories-back, Fills}
use Rattle.verdicts.proofs.VariableLemmas.{both_as_variables, parameters-are, results-are, left-part}
use Rattle.verdicts.proofs.SplitLemmas.{left_over, state-splits, pc-read, register-read, byte-outside, byte-inside}
use Rattle.verdicts.proofs.RunLemmas.{run-zero, run-present}

-- ---- the state at the end

-- a byte outside the regions, where none comes and none goes
byte-same : (M : Slot) (u o : Option ℕ) → slot_of u ≡ both M (slot_of o) → is_some u ≡ is_some o → u ≡ o
byte-same M None None e f = refl
byte-same M None (Some n) e f = absurd (cc)
byte-same M (Some k) None e f = absurd (cc)
byte-same M (Some k) (Some n) e f = ap Some (sym (has-right M n k (sym e)).1)

-- a memory has no byte outside its region, where no byte comes
no-byte : (x u o : Option ℕ) (b : Bool) → b ≡ false → slot_of u ≡ both (both (slot_of x) Free) (slot_of o) → is_some u ≡ is_some o → is_some x ≡ b
no-byte None u o b out e f = sym out
no-byte (Some n) None None b out e f = absurd (cc)
no-byte (Some n) (Some k) None b out e f = absurd (cc)
no-byte (Some n) u (Some k) b out e f = absurd (clash u e)
  where
    clash : (u : Option ℕ) → slot_of u ≡ Clash → ⊥
    clash None e = cc
    clash (Some m) e = cc

has-byte : (x u : Option ℕ) (b : Bool) → slot_of u ≡ both (slot_of x) Free → is_some u ≡ true → b ≡ true → is_some x ≡ b
has-byte x u b e f is = ap is_some (sym (slot-same u x (e ∙ both-free (slot_of x)))) ∙ f ∙ sym is

module _ (file : List ℕ) (g : GroupTree) (regions : List Region) (s : State) (starts : Starts file g s regions) (are : AreRegistersFrom 1 g.regs) (of_file : IsWithin (range_bytes g.code) (code_of_file file)) where
  has_code : (a b : ℕ) → range_bytes g.code a ≡ Some b → s.mem a ≡ Some b
  has_code a b is = starts.code a b is ∙ of_file a b is

  abbrev rest : Part
  rest = code_part g.code ⊕ left_over g regions s

  splits : state_part s ≡ held_part s.pc g.regs (map s.reg g.regs) (map (cut s.mem) regions) ⊕ rest
  splits = state-splits g regions s are starts.apart starts.beside_code has_code

  module _ (u : State) (pc : ℕ) (given : Arguments) (reaches : Reaches s u) (whole : state_part u ≡ held_part pc g.regs given.words given.mems ⊕ rest) where
    present : (a : ℕ) → is_some (u.mem a) ≡ is_some (s.mem a)
    present a = run-present s u reaches a

    other-register : (r : ℕ) → r < 32 → (Contains g.regs r → ⊥) → u.reg r ≡ s.reg r
    other-register zero lt never = run-zero s u reaches
    other-register (suc r) lt never =
        register-read g regions s are starts.apart starts.beside_code has_code u pc given.words given.mems whole (suc r) (is_register-in (suc r) (omega arith) (omega arith)) never

    other-byte : (a : ℕ) → is_within regions a ≡ false → u.mem a ≡ s.mem a
    other-byte a out =
        byte-same (memories_part given.mems (Byte a)) (u.mem a) (s.mem a)
        (byte-outside g regions s are starts.apart starts.beside_code has_code u pc given.words given.mems whole a out) (present a)

    words-first : held_part pc g.regs given.words given.mems ⊕ rest ≡ words_part g.regs given.words ⊕ (pc_part pc ⊕ (memories_part given.mems ⊕ rest))
    words-first =
        (λ i. (pc_part pc ⊕ union-comm (words_part g.regs given.words) (memories_part given.mems) i) ⊕ rest)
        ∙ (λ i. union-comm (pc_part pc) (memories_part given.mems ⊕ words_part g.regs given.words) i ⊕ rest)
        ∙ (λ i. (union-comm (memories_part given.mems) (words_part g.regs given.words) i ⊕ pc_part pc) ⊕ rest)
        ∙ (λ i. union-assoc (words_part g.regs given.words) (memories_part given.mems) (pc_part pc) i ⊕ rest)
        ∙ union-assoc (words_part g.regs given.words) (memories_part given.mems ⊕ pc_part pc) rest
        ∙ (λ i. words_part g.regs given.words ⊕ (union-comm (memories_part given.mems) (pc_part pc) i ⊕ rest))
        ∙ (λ i. words_part g.regs given.words ⊕ union-assoc (pc_part pc) (memories_part given.mems) rest i)

    memories-first : held_part pc g.regs given.words given.mems ⊕ rest ≡ memories_part given.mems ⊕ ((pc_part pc ⊕ words_part g.regs given.words) ⊕ rest)
    memories-first =
        (λ i. sym (union-assoc (pc_part pc) (words_part g.regs given.words) (memories_part given.mems)) i ⊕ rest)
        ∙ (λ i. union-comm (pc_part pc ⊕ words_part g.regs given.words) (memories_part given.mems) i ⊕ rest)
        ∙ union-assoc (memories_part given.mems) (pc_part pc ⊕ words_part g.regs given.words) rest

    -- where each memory of the results fills its region, the state is the function's end
    pub ends-filled : length given.words ≡ length g.regs → AllZip Fills regions given.mems → Ends g regions s pc given u
    ends-filled count fills =
        let words = words-back u g.regs given.words _ are count (whole ∙ words-first) in
        let mems = memories-back u regions given.mems _ fills (whole ∙ memories-first) in
        record {
          pc = pc-read g regions s are starts.apart starts.beside_code has_code u pc given.words given.mems whole;
          results = λ i. record { words = words i; mems = mems i };
          registers = other-register;
          bytes = other-byte;
          present = present;
        }

    -- where there is one memory at most, it does
    module _ (few : g.mems ≤ 1) (counts : length given.mems ≡ g.mems) where
      fill-one : (ds : List Region) (ms : List Bytes) → ds ≡ regions → ms ≡ given.mems → AllZip Fills ds ms
      fill-one [] [] same mems = tt
      fill-one [] (m ∷ ms) same mems = absurd (let a = ap length same in let b = ap length mems in let c = starts.count in omega arith)
      fill-one (d ∷ ds) [] same mems = absurd (let a = ap length same in let b = ap length mems in let c = starts.count in omega arith)
      fill-one (d ∷ []) (m ∷ []) same mems = ((λ a. at a (d a) refl), tt)
        where
          within : (a : ℕ) (b : Bool) → d a ≡ b → is_within regions a ≡ b
          within a true e = ap (λ rs. is_within rs a) (sym same) ∙ (λ i. e i || false)
          within a false e = ap (λ rs. is_within rs a) (sym same) ∙ (λ i. e i || false)

          at : (a : ℕ) (b : Bool) → d a ≡ b → is_some (m a) ≡ d a
          at a true e =
              has-byte (m a) (u.mem a) (d a)
              (byte-inside g regions s are starts.apart starts.beside_code has_code u pc given.words given.mems whole a (within a true e)
              ∙ (λ i. both (memories_part (sym mems i) (Byte a)) Free) ∙ both-free _)
              (present a ∙ starts.present a (within a true e)) e
          at a false e =
              no-byte (m a) (u.mem a) (s.mem a) (d a) e
              (byte-outside g regions s are starts.apart starts.beside_code has_code u pc given.words given.mems whole a (within a false e)
              ∙ (λ i. both (memories_part (sym mems i) (Byte a)) (slot_of (s.mem a))))
              (present a)
      fill-one (d ∷ []) (m ∷ n ∷ ms) same mems = absurd (let b = ap length mems in omega arith)
      fill-one (d ∷ c ∷ ds) ms same mems = absurd (let a = ap length same in let c = starts.count in omega arith)

      pub ends : length given.words ≡ length g.regs → Ends g regions s pc given u
      ends count = ends-filled count (fill-one regions given.mems refl refl)

-- ---- the way there

-- the definition that is entered at that address
entered-def : (o : Option DefTree) (a : ℕ) → option_map (λ (def : DefTree). def.entry) o ≡ Some a → (def : DefTree) × (o ≡ Some def) × (def.entry ≡ a)
entered-def None a e = absurd (cc)
entered-def (Some def) a e = (def, refl, (cc))

given-counts : (g : GroupTree) (exit : Exit) (y : Arguments) → ExitFits g (Some exit) y → (length (given_by exit y).words ≡ length g.regs) × (length (given_by exit y).mems ≡ g.mems)
given-counts g (At a) y fits = fits
given-counts g Ret y fits = let e : length g.regs + 1 - 1 ≡ length g.regs = omega arith in (length-drop 1 y.words ∙ ap (λ n. n - 1) fits.0 ∙ e, fits.1)

module _ (g : GroupTree) (well_formed : IsWellFormed g) (d k : ℕ) (def : DefTree) (there : slice_get g.defs d ≡ Some def) (valid : IsClosed g d) (x : Arguments)
    (words : length x.words ≡ length g.regs) (mems : length x.mems ≡ g.mems) (turns left : ℕ) (y : Arguments) (ends : ending g d x turns ≡ Exited k y left) (exit : Exit) (leaves : slice_get def.exits k ≡ Some exit) where
  fits : ExitFits g (Some exit) y
  fits = subst (λ o. ExitFits g o y) ((λ i. slice_get (exits_there g d def there i) k) ∙ leaves) (exited-fits g d x turns k y left well_formed ends)

  abbrev env : Environment
  env = both_as_variables x y

  args-are : arguments_of (parameters g) env ≡ x
  args-are = parameters-are g x y words mems

  given-are : arguments_of (results g exit) env ≡ y
  given-are = results-are g exit x y words mems fits.0 fits.1

  fact-holds : (f : FactTree) → Contains (Gives d k (parameters g) (results g exit) ∷ []) f → Holds g env f
  fact-holds f c = subst (Holds g env) (only c.0 c.1 c.2)
      (subst (λ r. Leaves g d k (arguments_of (parameters g) env) r) (sym given-are)
      (subst (λ r. Leaves g d k r y) (sym args-are)
      (record { well_formed = well_formed; words = words; mems = mems; turns = turns; left = left; ends = ends })))
    where
      only : (i : ℕ) → i < 1 → get_or (Gives d k (parameters g) (results g exit) ∷ []) i f ≡ f → Gives d k (parameters g) (results g exit) ≡ f
      only zero lt e = e
      only (suc i) lt e = absurd (omega arith)

  pre-part : part_of (at_entry g def (parameters g)) env ≡ held_part def.entry g.regs x.words x.mems
  pre-part = with_values-part env g (Const def.entry) (parameters g) ∙ (λ i. held_part def.entry g.regs (args-are i).words (args-are i).mems)

  post-part : part_of (at_exit g (Some exit) (results g exit)) env ≡ held_part (place_by exit y) g.regs (given_by exit y).words (given_by exit y).mems
  post-part = left-part env g exit (results g exit) ∙ (λ i. held_part (place_by exit (given-are i)) g.regs (given_by exit (given-are i)).words (given_by exit (given-are i)).mems)

  -- a state that holds the arguments at the entry, the code and a rest reaches one that holds the results at the exit
  pub runs : (rest : Part) (s : State) → state_part s ≡ held_part def.entry g.regs x.words x.mems ⊕ (code_part g.code ⊕ rest)
      → (u : State) × Reaches s u × (state_part u ≡ held_part (place_by exit y) g.regs (given_by exit y).words (given_by exit y).mems ⊕ (code_part g.code ⊕ rest))
  runs rest s whole =
      let v = valid def there k exit leaves in
      let r = v.runs env fact-holds rest s (whole ∙ (λ i. sym pre-part i ⊕ (code_part g.code ⊕ rest))) in
      (r.0, r.1, r.2 ∙ (λ i. post-part i ⊕ (code_part g.code ⊕ rest)))

-- Where the triple of each exit of the last definition is valid, evaluation of it tells where the machine goes.
pub function-right : (file : List ℕ) (g : GroupTree) → IsWellFormed g → AreRegistersFrom 1 g.regs → g.mems ≤ 1 → IsWithin (range_bytes g.code) (code_of_file file) → IsClosed g (listed_def g)
    → (s : State) (regions : List Region) → Starts file g s regions
    → (turns exit pc left : ℕ) (results : Arguments) → eval g (listed_def g) (held_in s g regions) turns ≡ Done exit pc results left
    → (t : State) × Reaches s t × Ends g regions s pc results t
function-right file g well_formed are few of_file valid s regions starts turns k pc left results e =
    let x = held_in s g regions in
    let d = entered-def (slice_get g.defs (listed_def g)) s.pc starts.entry in
    let done = done-by (exits_at g (listed_def g)) (ending g (listed_def g) x turns) k pc results left e in
    let leaves : slice_get d.0.exits k ≡ Some done.exit = (λ i. slice_get (sym (exits_there g (listed_def g) d.0 d.1) i) k) ∙ done.there in
    let words : length x.words ≡ length g.regs = length-map g.regs s.reg in
    let mems : length x.mems ≡ g.mems = length-map regions (cut s.mem) ∙ starts.count in
    let r = runs g well_formed (listed_def g) k d.0 d.1 valid x words mems turns left done.x done.ends done.exit leaves (left_over g regions s) s
    (splits file g regions s starts are of_file ∙ (λ i. held_part (sym d.2 i) g.regs x.words x.mems ⊕ (code_part g.code ⊕ left_over g regions s))) in
    let counts = given-counts g done.exit done.x (fits g well_formed (listed_def g) k d.0 d.1 valid x words mems turns left done.x done.ends done.exit leaves) in
    let end = ends file g regions s starts are of_file r.0 (place_by done.exit done.x) (given_by done.exit done.x) r.1 r.2 few counts.1 counts.0 in
    (r.0, r.1, subst (λ a. Ends g regions s a results r.0) done.place (subst (λ y. Ends g regions s (place_by done.exit done.x) y r.0) done.given end))
