-- A program's run from where it begins first returns, so that nothing is lost of it.
use Rattle.std.proofs.Common.{◌≡◌, ℕ, zero, suc, ◌*◌, ◌≤◌, Bool, true, false, Some, List, [], ◌∷◌, length, replicate, All, ◌⊎◌, inl, inr, refl, sym, ap, subst, ◌∙◌, arith}
use Rattle.std.specs.Prelude.{AllPairs}
use Rattle.std.proofs.lemmas.List.{length-replicate}
use Rattle.elf_image.specs.declared.image.Piece.{Piece}
use Rattle.elf_image.specs.Image.{IsApart, IsPlaced, bytes_in, code_in, code_of_file, memory_of_file}
use Rattle.elf_image.proofs.CodeLemmas.{code_is_byte}
use Rattle.rv_machine.specs.State.{State}
use Rattle.rv_machine.specs.Run.{EndsIn}
use Rattle.rv_machine.specs.declared.running.RunEnd.{RunEnd}
use Rattle.rv_machine.specs.declared.running.RunEnd.TheVariants as end
use Rattle.rv_machine.specs.declared.state.Stuck.{Stuck}
use Rattle.rv_machine.proofs.RunLemmas.{ends-once}
use Rattle.tailrec_lang.specs.Tree.{GroupTree, group_tree}
use Rattle.claims.specs.Headline.{Starts, is_within}
use Rattle.claims.specs.Exact.{FirstReturns, Gives}
use Rattle.path_walk.specs.declared.item.Item.{Item}
use Rattle.decompiler.specs.Listing.{IsItemFor}
use Rattle.code_gen.specs.Program.{program_of}
use Rattle.self_test.specs.Files.{piece_of_words}
use Rattle.self_test.specs.Runs.{Returns, StartsProgram, behind}
use Rattle.self_test.proofs.FileLemmas.{body-length}
use Rattle.self_test.proofs.Through.{returns}
use Rattle.self_test.proofs.WordLemmas.{few-words, program-memory}
use Rattle.self_test.specs.Start.{begin, empty_regions, file_of, function_name}
use Rattle.self_test.specs.Results.{most_steps}
use Rattle.self_test.proofs.InFragment.{stands-at}
use Rattle.self_test.proofs.SetUp.{file-piece}

-- ---- the code in memory

one-placed : (p : Piece) → IsPlaced p → All IsPlaced (p ∷ [])
one-placed p h zero d l = h
one-placed p h (suc k) d l = absurd (omega (arith, l))

one-apart : (p : Piece) → AllPairs IsApart (p ∷ [])
one-apart p i j d h l = absurd (omega (arith, h, l))

-- a code byte of the program's file is in memory
code-there : (number size a b : ℕ) → size ≤ 600 → code_of_file (file_of number size) a ≡ Some b → memory_of_file (file_of number size) a ≡ Some b
code-there number size a b small e =
    let words : List ℕ = program_of number size in
    let p : Piece = piece_of_words words in
    let are = file-piece number size small in
    let long = body-length words in
    let fits : IsPlaced p = (omega (arith, long), omega (arith, long, few-words number size small)) in
    (λ i. bytes_in (are i) a) ∙ code_is_byte (p ∷ []) a b (one-placed p fits) (one-apart p) ((λ i. code_in (sym are i) a) ∙ e)

-- ---- regions without an address

nowhere : (n a : ℕ) → is_within (replicate n (λ q. false)) a ≡ false
nowhere zero a = refl
nowhere (suc n) a = nowhere n a

never : {A : Type 0} (b : Bool) → b ≡ false → b ≡ true → A
never b f t = absurd (cc)

-- ---- the run

module _ (number size : ℕ) (small : size ≤ 600) where
  begins : StartsProgram number size (begin number size)
  begins = record { pc = refl; code = program-memory number size small; returns = refl }

  pub ran : Returns size (begin number size)
  ran = returns number size (begin number size) small begins

  -- there is one end, and it is the return
  pub meets : (t : State) (e : RunEnd) → EndsIn behind most_steps (begin number size) t e → (ran.last ≡ t) × (end.Met ran.steps ≡ e)
  meets t e h =
      let r : Returns size (begin number size) = ran in
      ends-once behind most_steps (begin number size) r.last t (end.Met r.steps) e (r.meets most_steps (omega (arith, r.few, small))) h

-- so no run is stuck or uses all steps
pub no-other : (number size : ℕ) (t : State) (e : RunEnd) → size ≤ 600 → EndsIn behind most_steps (begin number size) t e
    → ((j : ℕ) × (why : Stuck) × (e ≡ end.Stuck j why)) ⊎ (e ≡ end.Steps) → ⊥
no-other number size t e small h other = differs (ran number size small).steps e (meets number size small t e h).1 other
  where
    differs : (k : ℕ) (f : RunEnd) → end.Met k ≡ f → ((j : ℕ) × (why : Stuck) × (f ≡ end.Stuck j why)) ⊎ (f ≡ end.Steps) → ⊥
    differs k f m (inl s) = let e = s.2 in cc
    differs k f m (inr s) = cc

-- ---- nothing is lost

module _ (number size : ℕ) (small : size ≤ 600) (item : Item) (is : IsItemFor (file_of number size) function_name item) where
  starts : Starts (file_of number size) (group_tree item.group) (begin number size) (empty_regions (group_tree item.group))
  starts =
      let g : GroupTree = group_tree item.group in
      record {
        entry = is.lists.entry ∙ ap (λ a. Some a) (stands-at (file_of number size) is.entry is.stands);
        code = λ a b h.
            let there = (((is.lists.bytes a b).0) h).1 in
            code-there number size a b small there ∙ sym there;
        count = length-replicate g.mems (λ q. false);
        present = λ a h. never (is_within (empty_regions g) a) (nowhere g.mems a) h;
        beside_code = λ a b h. nowhere g.mems a;
        apart = λ i j d h l. absurd (
            let few : g.mems ≤ 1 = is.text.group.memories.1 in
            let long : length (empty_regions g) ≡ g.mems = length-replicate g.mems (λ q. false) in
            omega (arith, few, long, h, l));
      }

  first-returns : FirstReturns (empty_regions (group_tree item.group)) (begin number size) (ran number size small).steps (ran number size small).last
  first-returns =
      let r : Returns size (begin number size) = ran number size small in
      record {
        some = r.some;
        ran = (r.meets r.steps (omega arith)).1;
        within = λ j u h at a t. absurd (r.untouched j u h at a t);
        last = r.returns;
        first = r.first;
      }

  -- where the run meets the address to which the program returns, evaluation gives the state in which it then is
  pub gives : (k : ℕ) (t : State) → EndsIn behind most_steps (begin number size) t (end.Met k)
      → Gives (group_tree item.group) (empty_regions (group_tree item.group)) (begin number size) (2 * k) t
  gives k t met =
      let r : Returns size (begin number size) = ran number size small in
      let same = meets number size small t (end.Met k) met in
      let steps : r.steps ≡ k = same-steps r.steps k same.1 in
      let done = is.exact (begin number size) (empty_regions (group_tree item.group)) starts r.steps r.last first-returns in
      subst (λ n. Gives (group_tree item.group) (empty_regions (group_tree item.group)) (begin number size) (2 * n) t) steps
      (subst (λ u. Gives (group_tree item.group) (empty_regions (group_tree item.group)) (begin number size) (2 * r.steps) u) same.0 done)
    where
      same-steps : (j n : ℕ) → end.Met j ≡ end.Met n → j ≡ n
      same-steps j n e = cc
