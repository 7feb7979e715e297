-- What the triples of a definition's exits say of states, over as many regions as there are memories.
use Rattle.std.proofs.Common.{◌≡◌, ℕ, zero, suc, ◌+◌, ◌-◌, ◌<◌, Bool, true, false, cond, Option, Some, None, List, [], ◌∷◌, length, map, get_or, refl, sym, ap, ◌∙◌, subst, arith}
use Rattle.std.specs.Prelude.{◌||◌, option_map, is_some, slice_get, Contains}
use Rattle.std.specs.List.{AllZip}
use Rattle.std.proofs.lemmas.List.{length-map, length-drop}
use Rattle.rv_words.specs.Bytes.{Bytes}
use Rattle.rv_words.specs.Ranges.{range_bytes}
use Rattle.elf_image.specs.Image.{code_of_file}
use Rattle.word_terms.specs.Environment.{Environment}
use Rattle.tailrec_lang.specs.declared.group.Exit.{Exit}
use Rattle.tailrec_lang.specs.declared.group.Exit.TheVariants.{At, Ret}
use Rattle.tailrec_lang.specs.Tree.{ValuesTree, DefTree, GroupTree, exits_at, listed_def}
use Rattle.tailrec_lang.specs.Registers.{AreRegistersFrom}
use Rattle.tailrec_lang.specs.WellFormed.{IsWellFormed}
use Rattle.tailrec_lang.specs.Eval.{ExitFits, Arguments, arguments_of, Exited, ending}
use Rattle.tailrec_lang.proofs.Definitions.{exits_there}
use Rattle.tailrec_lang.proofs.Fitting.{exited-fits}
use Rattle.sep_assert.specs.Code.{IsWithin}
use Rattle.sep_assert.specs.Part.{◌⊕◌, code_part}
use Rattle.triple_kernel.specs.Tree.{FactTree, Gives}
use Rattle.triple_kernel.specs.Fact.{Leaves, Holds}
use Rattle.loop_rule.specs.Leaves.{parameters, at_exit}
use Rattle.loop_rule.specs.Rule.{results, IsClosed}
use Rattle.claims.specs.Headline.{Region, cut, is_within, held_in, Ends, IsRight}
use Rattle.verdicts.proofs.CountLemmas.{place_by, given_by, done-by}
use Rattle.verdicts.proofs.PartLemmas.{held_part, Fills}
use Rattle.verdicts.proofs.VariableLemmas.{both_as_variables, parameters-are, results-are}
use Rattle.verdicts.proofs.SplitLemmas.{left_over, state-splits}
use Rattle.verdicts.proofs.HeadlineLemmas.{ends-filled, runs}
use Rattle.verdicts.specs.Addresses.{ExitsHave, HaveSameAddresses, KeepsAddresses, memories_of}

-- ---- regions

-- memories cut down to present regions fill them, and so do those with the same addresses
cut-fills : (m : Bytes) (regions : List Region) (ms : List Bytes) → ((a : ℕ) → is_within regions a ≡ true → is_some (m a) ≡ true)
    → AllZip HaveSameAddresses (map (cut m) regions) ms → AllZip Fills regions ms
cut-fills m [] [] present same = tt
cut-fills m [] (n ∷ ns) present same = absurd same
cut-fills m (r ∷ rs) [] present same = absurd same
cut-fills m (r ∷ rs) (n ∷ ns) present same = ((λ a. sym (same.0 a) ∙ at a (r a) refl), cut-fills m rs ns (λ a h. present a (later a (r a) h)) same.1)
  where
    later : (a : ℕ) (b : Bool) → is_within rs a ≡ true → (b || is_within rs a) ≡ true
    later a true h = refl
    later a false h = h

    at : (a : ℕ) (b : Bool) → r a ≡ b → is_some (cond b (m a) None) ≡ b
    at a true e = present a (λ i. e i || is_within rs a)
    at a false e = refl

-- ---- the way there

-- the definition that is entered at that address
entered-def : (o : Option DefTree) (a : ℕ) → option_map (λ (def : DefTree). def.entry) o ≡ Some a → (def : DefTree) × (o ≡ Some def) × (def.entry ≡ a)
entered-def None a e = absurd (cc)
entered-def (Some def) a e = (def, refl, (cc))

given-count : (g : GroupTree) (exit : Exit) (y : Arguments) → ExitFits g (Some exit) y → length (given_by exit y).words ≡ length g.regs
given-count g (At a) y fits = fits.0
given-count g Ret y fits = let e : length g.regs + 1 - 1 ≡ length g.regs = omega arith in length-drop 1 y.words ∙ ap (λ n. n - 1) fits.0 ∙ e

-- an evaluation of definition d, which leaves by an exit
module _ (g : GroupTree) (well_formed : IsWellFormed g) (d k : ℕ) (def : DefTree) (there : slice_get g.defs d ≡ Some def) (x : Arguments)
    (words : length x.words ≡ length g.regs) (mems : length x.mems ≡ g.mems) (turns left : ℕ) (y : Arguments) (ends : ending g d x turns ≡ Exited k y left) (exit : Exit) (leaves : slice_get def.exits k ≡ Some exit) where
  left-fits : ExitFits g (Some exit) y
  left-fits = subst (λ o. ExitFits g o y) ((λ i. slice_get (exits_there g d def there i) k) ∙ leaves) (exited-fits g d x turns k y left well_formed ends)

  abbrev env : Environment
  env = both_as_variables x y

  args-are : arguments_of (parameters g) env ≡ x
  args-are = parameters-are g x y words mems

  given-are : arguments_of (results g exit) env ≡ y
  given-are = results-are g exit x y words mems left-fits.0 left-fits.1

  fact-holds : (f : FactTree) → Contains (Gives d k (parameters g) (results g exit) ∷ []) f → Holds g env f
  fact-holds f c = subst (Holds g env) (only c.0 c.1 c.2)
      (subst (λ r. Leaves g d k (arguments_of (parameters g) env) r) (sym given-are)
      (subst (λ r. Leaves g d k r y) (sym args-are)
      (record { well_formed = well_formed; words = words; mems = mems; turns = turns; left = left; ends = ends })))
    where
      only : (i : ℕ) → i < 1 → get_or (Gives d k (parameters g) (results g exit) ∷ []) i f ≡ f → Gives d k (parameters g) (results g exit) ≡ f
      only zero lt e = e
      only (suc i) lt e = absurd (omega arith)

  -- results have the addresses of the arguments, where the exit's triple keeps addresses
  keeps : ExitsHave (KeepsAddresses g) g d → AllZip HaveSameAddresses x.mems (given_by exit y).mems
  keeps kept =
      let same = (kept def there k exit leaves).same env fact-holds in
      subst (AllZip HaveSameAddresses x.mems) (left-mems exit (results g exit) ∙ (λ i. (given_by exit (given-are i)).mems))
      (subst (λ ms. AllZip HaveSameAddresses ms (memories_of (at_exit g (Some exit) (results g exit)) env)) (λ i. (args-are i).mems) same)
    where
      left-mems : (o : Exit) (v : ValuesTree) → memories_of (at_exit g (Some o) v) env ≡ (given_by o (arguments_of v env)).mems
      left-mems (At a) v = refl
      left-mems Ret v = refl

-- Where the triple of each exit of the last definition is valid and keeps the addresses of memories, evaluation of it tells where
-- the machine goes.
pub function-right-over : (file : List ℕ) (g : GroupTree) → IsWellFormed g → AreRegistersFrom 1 g.regs → IsWithin (range_bytes g.code) (code_of_file file) → IsClosed g (listed_def g)
    → ExitsHave (KeepsAddresses g) g (listed_def g) → IsRight file g
function-right-over file g well_formed are of_file valid kept s regions starts turns k pc left results e =
    let x = held_in s g regions in
    let d = entered-def (slice_get g.defs (listed_def g)) s.pc starts.entry in
    let done = done-by (exits_at g (listed_def g)) (ending g (listed_def g) x turns) k pc results left e in
    let leaves : slice_get d.0.exits k ≡ Some done.exit = (λ i. slice_get (sym (exits_there g (listed_def g) d.0 d.1) i) k) ∙ done.there in
    let words : length x.words ≡ length g.regs = length-map g.regs s.reg in
    let mems : length x.mems ≡ g.mems = length-map regions (cut s.mem) ∙ starts.count in
    let has_code : (a b : ℕ) → range_bytes g.code a ≡ Some b → s.mem a ≡ Some b = λ a b is. starts.code a b is ∙ of_file a b is in
    let splits = state-splits g regions s are starts.apart starts.beside_code has_code in
    let r = runs g well_formed (listed_def g) k d.0 d.1 valid x words mems turns left done.x done.ends done.exit leaves (left_over g regions s) s
    (splits ∙ (λ i. held_part (sym d.2 i) g.regs x.words x.mems ⊕ (code_part g.code ⊕ left_over g regions s))) in
    let count = given-count g done.exit done.x (left-fits g well_formed (listed_def g) k d.0 d.1 x words mems turns left done.x done.ends done.exit leaves) in
    let same = keeps g well_formed (listed_def g) k d.0 d.1 x words mems turns left done.x done.ends done.exit leaves kept in
    let fills = cut-fills s.mem regions (given_by done.exit done.x).mems starts.present same in
    let end = ends-filled file g regions s starts are of_file r.0 (place_by done.exit done.x) (given_by done.exit done.x) r.1 r.2 count fills in
    (r.0, r.1, subst (λ a. Ends g regions s a results r.0) done.place (subst (λ y. Ends g regions s (place_by done.exit done.x) y r.0) done.given end))
