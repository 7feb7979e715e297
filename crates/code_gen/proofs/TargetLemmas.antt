-- Jumps and branches stay within the code of their pieces.
use Rattle.std.proofs.Common.{◌≡◌, ℕ, suc, ◌+◌, ◌*◌, ◌≤◌, ℤ, pos, negsuc, ◌+ℤ◌, List, [], ◌∷◌, ◌++◌, length, ◌∙◌, subst, arith}
use Rattle.std.proofs.Math.IntN.{+ℤ-neg_ℤ_cancel}
use Rattle.std.proofs.lemmas.List.{length-append}
use Rattle.rv_decode.specs.declared.instruction.Instr.{Instr}
use Rattle.code_gen.specs.Pieces.{Pieces, Done, Add, Mix, Choose, Repeat}
use Rattle.code_gen.specs.Program.{code, loop_end}
use Rattle.code_gen.specs.Structure.{EachAt, LandsWithin}

each-append : (P : ℕ → Instr → Type 0) (k : ℕ) (xs ys : List Instr) → EachAt P k xs → EachAt P (k + length xs) ys → EachAt P k (xs ++ ys)
each-append P k [] ys h g = subst (λ m. EachAt P m ys) (the k) g
  where
    the : (k : ℕ) → k + 0 ≡ k
    the k = omega arith
each-append P k (x ∷ xs) ys (a, h) g = (a, each-append P (k + 1) xs ys h (subst (λ m. EachAt P m ys) (further k (length xs)) g))
  where
    further : (k n : ℕ) → k + suc n ≡ k + 1 + n
    further k n = omega arith

pub each-split : (P : ℕ → Instr → Type 0) (k : ℕ) (xs ys : List Instr) → EachAt P k (xs ++ ys) → EachAt P k xs × EachAt P (k + length xs) ys
each-split P k [] ys h = let e : k ≡ k + 0 = omega arith in (tt, subst (λ j. EachAt P j ys) e h)
each-split P k (x ∷ xs) ys (a, h) =
    let r = each-split P (k + 1) xs ys h in
    let e : k + 1 + length xs ≡ k + suc (length xs) = omega arith in
    ((a, r.0), subst (λ j. EachAt P j ys) e r.1)

-- the place after a body, from which a branch goes back to its first instruction
goes-back : (t j : ℕ) → pos (4 * (t + j + 1)) +ℤ negsuc (4 * j + 3) ≡ pos (4 * t)
goes-back t j =
    let e : 4 * (t + j + 1) ≡ 4 * t + suc (4 * j + 3) = omega arith in
    (λ i. pos (e i) +ℤ negsuc (4 * j + 3)) ∙ +ℤ-neg_ℤ_cancel (pos (4 * t)) (pos (suc (4 * j + 3)))

goes-on : (k a : ℕ) → pos (4 * k) +ℤ pos (4 * a) ≡ pos (4 * (k + a))
goes-on k a =
    let e : 4 * k + 4 * a ≡ 4 * (k + a) = omega arith in
    (λ i. pos (e i))

stays : (d : ℕ) (p : Pieces) (n k : ℕ) → k + length (code d p) ≤ n → EachAt (LandsWithin n) k (code d p)
stays d Done n k h = tt
stays d (Add u rest) n k h = (tt, stays d rest n (k + 1) (omega (arith, h)))
stays d (Mix rest) n k h = (tt, stays d rest n (k + 1) (omega (arith, h)))
stays d (Choose u rest) n k h = (
  tt,
  (
    (k + 1 + 3, omega (arith, h), goes-on (k + 1) 3),
    (
      tt,
      (
        (k + 1 + 1 + 1 + 2, omega (arith, h), goes-on (k + 1 + 1 + 1) 2),
        (
          tt,
          stays d rest n (k + 1 + 1 + 1 + 1 + 1) (omega (arith, h)),
        ),
      ),
    ),
  ),
)
stays d (Repeat t body rest) n k h =
    let inner : List Instr = code (d + 1) body in
    let j : ℕ = length inner in
    let last : List Instr = loop_end d j in
    let few : length ((inner ++ last) ++ code d rest) ≡ length (inner ++ last) + length (code d rest) = length-append (inner ++ last) (code d rest) in
    let both : length (inner ++ last) ≡ j + 2 = length-append inner last in
    let back : pos (4 * (k + 1 + j + 1)) +ℤ negsuc (4 * j + 3) ≡ pos (4 * (k + 1)) = goes-back (k + 1) j in (
      tt,
      each-append (LandsWithin n) (k + 1) (inner ++ last) (code d rest)
          (each-append (LandsWithin n) (k + 1) inner last
          (stays (d + 1) body n (k + 1) (omega (arith, h, few, both)))
          (tt, ((k + 1, omega (arith, h, few, both), back), tt)))
          (stays d rest n (k + 1 + length (inner ++ last)) (omega (arith, h, few, both))),
    )

pub code-stays : (d : ℕ) (p : Pieces) → EachAt (LandsWithin (length (code d p))) 0 (code d p)
code-stays d p = stays d p (length (code d p)) 0 (omega arith)
