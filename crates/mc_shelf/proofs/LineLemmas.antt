-- Lines of bytes that come in blocks.
use Rattle.std.proofs.Common.{◌≡◌, ℕ, zero, suc, ◌+◌, ◌-◌, ◌<◌, ◌≤◌, Bool, true, false, eqb, List, [], ◌∷◌, ◌++◌, length, get_or, take, drop, refl, sym, ap, subst, ◌∙◌, arith, length-append}
use Rattle.std.proofs.lemmas.List.{append-nil, take-append-drop, drop-take, length-take}
use Rattle.std.proofs.Math.Seq.{drop-nil}
use Rattle.mc_shelf.specs.Lines.{up_to_newline, IsEnded}
use Rattle.mc_shelf.specs.inner.Ahead.{IsOpen}

other : (f : Bool) → (f ≡ true → ⊥) → f ≡ false
other true h = absurd (h refl)
other false h = refl

line-newline : (b : ℕ) (bs : List ℕ) → eqb b 10 ≡ true → up_to_newline (b ∷ bs) ≡ b ∷ []
line-newline b bs e = rw e refl

line-further : (b : ℕ) (bs : List ℕ) → eqb b 10 ≡ false → up_to_newline (b ∷ bs) ≡ b ∷ up_to_newline bs
line-further b bs e = rw e refl

-- the first newline of the bytes stands at place k
line-at : (bytes more : List ℕ) (k : ℕ) → k < length bytes → ((j : ℕ) → j < k → eqb (get_or bytes j 0) 10 ≡ true → ⊥) → eqb (get_or bytes k 0) 10 ≡ true
    → up_to_newline (take (k + 1) bytes ++ more) ≡ take (k + 1) bytes
line-at [] more k lt none is = absurd (omega (arith, lt))
line-at (b ∷ bs) more zero lt none is = line-newline b more is
line-at (b ∷ bs) more (suc k) lt none is =
    let next : suc k + 1 ≡ suc (k + 1) = omega arith in
    ap (λ (n : ℕ). up_to_newline (take n (b ∷ bs) ++ more)) next
    ∙ line-further b (take (k + 1) bs ++ more) (other (eqb b 10) (none 0 (omega arith)))
    ∙ ap (λ (v : List ℕ). b ∷ v) (line-at bs more k (omega (arith, lt)) (λ j below. none (suc j) (omega (arith, below))) is)
    ∙ ap (λ (n : ℕ). take n (b ∷ bs)) (sym next)

pub line_ends : (bytes part : List ℕ) (k : ℕ) → k < length bytes → ((j : ℕ) → 0 ≤ j → j < k → eqb (get_or bytes j 0) 10 ≡ true → ⊥) → eqb (get_or bytes k 0) 10 ≡ true
    → part ≡ take (k + 1) bytes → part ≡ up_to_newline bytes
line_ends bytes part k lt none is e =
    e
    ∙ sym (line-at bytes (drop (k + 1) bytes) k lt (λ j below. none j (omega arith) below) is)
    ∙ ap up_to_newline (take-append-drop (k + 1) bytes)

pub line_is_ended : (bytes : List ℕ) (k : ℕ) → k < length bytes → ((j : ℕ) → 0 ≤ j → j < k → eqb (get_or bytes j 0) 10 ≡ true → ⊥) → eqb (get_or bytes k 0) 10 ≡ true
    → IsEnded (up_to_newline bytes)
line_is_ended bytes k lt none is =
    subst IsEnded (line_ends bytes (take (k + 1) bytes) k lt none is refl) (record { ends = λ more. line-at bytes more k lt (λ j below. none j (omega arith) below) is })

no_newline : (bytes more : List ℕ) → ((j : ℕ) → j < length bytes → eqb (get_or bytes j 0) 10 ≡ true → ⊥) → up_to_newline (bytes ++ more) ≡ bytes ++ up_to_newline more
no_newline [] more none = refl
no_newline (b ∷ bs) more none =
    line-further b (bs ++ more) (other (eqb b 10) (none 0 (omega arith)))
    ∙ ap (λ (v : List ℕ). b ∷ v) (no_newline bs more (λ j below. none (suc j) (omega (arith, below))))

pub line_alone : (bytes : List ℕ) → IsOpen bytes → up_to_newline bytes ≡ bytes
line_alone bytes h = ap up_to_newline (sym (append-nil bytes)) ∙ h.goes_on [] ∙ append-nil bytes

pub line_goes_on : (bytes : List ℕ) → ((j : ℕ) → 0 ≤ j → j < length bytes → eqb (get_or bytes j 0) 10 ≡ true → ⊥) → IsOpen bytes
line_goes_on bytes none = record { goes_on = λ more. no_newline bytes more (λ j below. none j (omega arith) below) }

-- the first line is a front of the bytes
line-front : (bytes : List ℕ) → bytes ≡ up_to_newline bytes ++ drop (length (up_to_newline bytes)) bytes
line-front [] = refl
line-front (b ∷ bs) =
    elim (eqb b 10) as (λ f. eqb b 10 ≡ f → b ∷ bs ≡ up_to_newline (b ∷ bs) ++ drop (length (up_to_newline (b ∷ bs))) (b ∷ bs)) [
      | true ↦ λ e. rw e refl
      | false ↦ λ e. rw e (ap (λ (v : List ℕ). b ∷ v) (line-front bs))
    ] refl

pub length-line : (bytes : List ℕ) → length (up_to_newline bytes) ≤ length bytes
length-line bytes =
    let count : length bytes ≡ length (up_to_newline bytes ++ drop (length (up_to_newline bytes)) bytes) = ap length (line-front bytes) in
    omega (arith, count, length-append (up_to_newline bytes) (drop (length (up_to_newline bytes)) bytes))

pub drop-drop : (m n : ℕ) (xs : List ℕ) → drop n (drop m xs) ≡ drop (m + n) xs
drop-drop zero n xs = ap (λ (k : ℕ). drop k xs) (omega arith)
drop-drop (suc m) n [] = drop-nil n ∙ sym (drop-nil (suc m + n))
drop-drop (suc m) n (x ∷ xs) =
    let next : suc (m + n) ≡ suc m + n = omega arith in
    drop-drop m n xs ∙ ap (λ (k : ℕ). drop k (x ∷ xs)) next

-- what waits in a block once its first line was taken
pub line_taken : (block part : List ℕ) (start end : ℕ) → start ≤ end → part ≡ up_to_newline (take (end - start) (drop start block))
    → take (end - start) (drop start block) ≡ part ++ take (end - (start + length part)) (drop (start + length part) block)
line_taken block part start end h e =
    let w = take (end - start) (drop start block) in
    let k = length part in
    let short : length w ≤ end - start = grind (arith, length-take) in
    let fits : k ≤ length w = omega (arith, length-line w, ap length e) in
    let m = end - (start + k) in
    let size : end - start ≡ k + m = omega (arith, fits, short, h) in
    let behind : drop k w ≡ take m (drop (start + k) block) = (λ i. drop k (take (size i) (drop start block))) ∙ drop-take k m (drop start block) ∙ ap (take m) (drop-drop start k block) in
    line-front w ∙ (λ i. sym e i ++ drop (length (sym e i)) w) ∙ ap (λ (v : List ℕ). part ++ v) behind
