-- The definitions of a group, one after another.
use Rattle.std.proofs.Common.{◌≡◌, ℕ, ◌+◌, ◌<◌, List, [], length, map, get_or, sym, ap, ◌∙◌, arith, subst, ⊎_elim, Some}
use Rattle.std.specs.Prelude.{◌^◌, slice_get, option_map, unwrap_or}
use Rattle.std.proofs.lemmas.Bool.{cases_eq}
use Rattle.std.proofs.lemmas.List.{length-map}
use Rattle.tailrec_lang.specs.Tree.{DefTree, GroupTree, exits_at}
use Rattle.tailrec_lang.specs.WellFormed.{DefIsWellFormed}
use Rattle.tailrec_lang.specs.Eval.{needs}
use Rattle.tailrec_lang.proofs.Lists.{image-at}
use Rattle.tailrec_lang.proofs.Evaluation.{item_there}

-- the exits of a definition that is there
pub exits_there : (g : GroupTree) (d : ℕ) (def : DefTree) → slice_get g.defs d ≡ Some def → exits_at g d ≡ def.exits
exits_there g d def is = ap (λ o. unwrap_or (option_map (λ (x : DefTree). x.exits) o) []) is

-- the image at i
pub image_is : {A B : Type 0} (f : A → B) (xs : List A) (i : ℕ) (x : A) → i < length xs → x ≡ get_or xs i x → slice_get (map f xs) i ≡ Some (f x)
image_is f xs i x lt at =
    let there = item_there (map f xs) i (rw length-map lt) in
    there.1 ∙ ap Some (sym (image-at f xs i x there.0 lt at there.1))

pub more_well_formed : (g : GroupTree) (i : ℕ) (d : DefTree) → ((k : ℕ) (def : DefTree) → k < i → slice_get g.defs k ≡ Some def → DefIsWellFormed g k def)
    → slice_get g.defs i ≡ Some d → DefIsWellFormed g i d → (k : ℕ) (def : DefTree) → k < i + 1 → slice_get g.defs k ≡ Some def → DefIsWellFormed g k def
more_well_formed g i d before at here k def lt is =
    ⊎_elim
    (λ (e : k ≡ i). let same : d ≡ def = cc in subst (λ n. DefIsWellFormed g n def) (sym e) (subst (λ x. DefIsWellFormed g i x) same here))
    (λ apart. before k def (omega arith) is)
    (cases_eq k i)

pub more_few : (defs : List DefTree) (i : ℕ) (d : DefTree) → ((k : ℕ) (def : DefTree) → k < i → slice_get defs k ≡ Some def → needs def.body < 2 ^ 64)
    → slice_get defs i ≡ Some d → needs d.body < 2 ^ 64 → (k : ℕ) (def : DefTree) → k < i + 1 → slice_get defs k ≡ Some def → needs def.body < 2 ^ 64
more_few defs i d before at here k def lt is =
    ⊎_elim
    (λ (e : k ≡ i). let same : d ≡ def = cc in subst (λ x. needs x.body < 2 ^ 64) same here)
    (λ apart. before k def (omega arith) is)
    (cases_eq k i)
