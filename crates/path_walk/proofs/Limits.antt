-- The limit of the grammar on exits is kept.
use Rattle.std.proofs.Common.{◌≡◌, ℕ, suc, ◌≤◌, List, [], ◌∷◌, ◌++◌, map, length, Bool, true, false, cond, refl, ap, ◌∙◌, arith, Some, None}
use Rattle.tailrec_lang.specs.declared.group.Exit.TheVariants.{At, Ret}
use Rattle.code_parts.specs.declared.part.Part.{Part}
use Rattle.code_parts.specs.declared.part.Part.TheVariants.{Loop, Rest}
use Rattle.code_parts.specs.Bodies.{Flow, exits_of}

length-map : {A B : Type 0} (h : A → B) (xs : List A) → length (map h xs) ≡ length xs
length-map h [] = refl
length-map h (x ∷ xs) = ap suc (length-map h xs)

append-none : {A : Type 0} (xs : List A) → xs ++ [] ≡ xs
append-none [] = refl
append-none (x ∷ xs) = ap (λ (l : List _). x ∷ l) (append-none xs)

-- at most 9 where no loop has more than 8 exit targets
pub exits-few : (f : Flow) (p : Part) → ((l : ℕ) → length (f.exits l) ≤ 8) → length (exits_of f p) ≤ 9
exits-few f (Loop l) few =
    let long = ap length (append-none (map (λ n. At (f.addr n)) (f.exits l))) ∙ length-map (λ n. At (f.addr n)) (f.exits l) in
    let most = few l in omega (arith, long, most)
exits-few f (Rest (Some l) n) few =
    let long = ap length (append-none (map (λ n. At (f.addr n)) (f.head l ∷ f.exits l))) ∙ length-map (λ n. At (f.addr n)) (f.head l ∷ f.exits l) in
    let most = few l in omega (arith, long, most)
exits-few f (Rest None n) few = go f.returns
  where
    go : (b : Bool) → length (cond b (Ret ∷ []) []) ≤ 9
    go true = omega arith
    go false = omega arith
