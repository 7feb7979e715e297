-- An atom is the run of its bytes.
use Rattle.std.proofs.Common.{◌≡◌, ◌≢◌, ℕ, zero, suc, ◌-◌, ◌<◌, ◌≤◌, Bool, true, false, not, cond, eqb, List, [], ◌∷◌, length, get_or, take, drop, refl, sym, ap, ◌∙◌, arith}
use Rattle.std.proofs.lemmas.List.{take_all}
use Rattle.std.specs.List.{AllByRecursion, list_all}
use Rattle.std.proofs.lemmas.List.Elements.{All-from_recursion, recursion_from_All}
use Rattle.std.proofs.lemmas.List.Sums.{AllPass-from_list_all}
use Rattle.mc_text.specs.Tokens.{Tok, Atom, Stuck, is_atom_byte, IsAtom}
use Rattle.mc_text.specs.Scanning.{class_of, State, At, Within, Spaced, lex, byte_step, ended, loose, tight, grows, or_stuck, at_end}
use Rattle.mc_text.specs.inner.Scanning.{state_of, IsSettled}
use Rattle.mc_text.specs.declared.token.Before.{Before}
use Rattle.mc_text.specs.declared.token.Before.TheVariants.{Start, Open, Later}
use Rattle.mc_text.specs.declared.token.Class.{Class}
use Rattle.mc_text.specs.declared.token.Class.TheVariants.{Letter, LeftMark, RightMark, SemiMark, Newline, Space, Other}

pub class-letter : (b : ℕ) → is_atom_byte b ≡ true → class_of b ≡ Letter
class-letter b h = rw h refl

never : (b : ℕ) → cond (eqb b 40) LeftMark (cond (eqb b 41) RightMark (cond (eqb b 59) SemiMark (cond (eqb b 10) Newline (cond (eqb b 32) Space Other)))) ≡ Letter → ⊥
never b = grind arith

pub class-other : (b : ℕ) → is_atom_byte b ≡ false → class_of b ≡ Letter → ⊥
class-other b h e = never b (rw h at e)

-- behind an atom's last byte
pub ends : (c : Class) (b : ℕ) (k : State → List Tok) → (c ≡ Letter → ⊥) → byte_step c b Within k ≡ Atom [] ∷ byte_step c b (At Later) k
ends Letter b k h = absurd (h refl)
ends LeftMark b k h = refl
ends RightMark b k h = refl
ends SemiMark b k h = refl
ends Newline b k h = refl
ends Space b k h = refl
ends Other b k h = refl

pub atom_lex : (bs : List ℕ) (n : ℕ) → n ≤ length bs → ((k : ℕ) → k < n → is_atom_byte (get_or bs k 0) ≡ true)
    → (n < length bs → is_atom_byte (get_or bs n 0) ≡ false) → lex bs Within ≡ Atom (take n bs) ∷ lex (drop n bs) (At Later)
unfolding lex
atom_lex [] zero le inside end = refl
atom_lex [] (suc n) le inside end = absurd (omega arith)
atom_lex (b ∷ bs) zero le inside end = ends (class_of b) b (lex bs) (class-other b (end (omega arith)))
atom_lex (b ∷ bs) (suc n) le inside end =
    let ih = atom_lex bs n (omega arith) (λ k h. inside (suc k) (omega arith)) (λ h. end (omega arith)) in
    rw (class-letter b (inside zero (omega arith)), ih) refl

-- what the first byte does
pub lex-cons : (b : ℕ) (bs : List ℕ) (s : State) (c : Class) → c ≡ class_of b → lex (b ∷ bs) s ≡ byte_step c b s (lex bs)
unfolding lex
lex-cons b bs s c e = rw e refl

-- a place between tokens, or behind the space of one, is no inside of an atom
pub ended-between : (m : Before) (spaced : Bool) (ts : List Tok) → ended (state_of m spaced) ts ≡ ts
ended-between m true ts = refl
ended-between m false ts = refl

pub tight-between : (m : Before) (spaced : Bool) → tight (state_of m spaced) ≡ not spaced
tight-between m true = refl
tight-between m false = refl

-- a place in front of a byte, as the code reads it
pub first-lex : (bytes : List ℕ) (s : State) (c : Class) → 1 ≤ length bytes → c ≡ class_of (get_or bytes 0 0)
    → lex bytes s ≡ byte_step c (get_or bytes 0 0) s (lex (take (length bytes - 1) (drop 1 bytes)))
first-lex [] s c le e = absurd (omega arith)
first-lex (b ∷ bs) s c le e = lex-cons b bs s c e ∙ sym (ap (λ r. byte_step c b s (lex r)) (take_all _ bs (omega arith)))

letter-step : (m : Before) (spaced : Bool) (b : ℕ) (k : State → List Tok) → true ≡ loose (state_of m spaced) → byte_step Letter b (state_of m spaced) k ≡ byte_step Letter b Within k
letter-step m true b k h = refl
letter-step Start false b k h = refl
letter-step Open false b k h = refl
letter-step Later false b k h = absurd cc

-- an atom begins between tokens as it goes on
pub letter-lex : (bytes : List ℕ) (m : Before) (spaced : Bool) → 1 ≤ length bytes → Letter ≡ class_of (get_or bytes 0 0) → true ≡ loose (state_of m spaced) → lex bytes (state_of m spaced) ≡ lex bytes Within
letter-lex [] m spaced le e h = absurd (omega arith)
letter-lex (b ∷ bs) m spaced le e h = lex-cons b bs (state_of m spaced) Letter e ∙ letter-step m spaced b (lex bs) h ∙ sym (lex-cons b bs Within Letter e)

pub letter-stuck : (m : Before) (spaced : Bool) (ts : List Tok) → false ≡ loose (state_of m spaced) → or_stuck (grows (state_of m spaced)) ts ≡ Stuck ∷ []
letter-stuck m true ts h = absurd cc
letter-stuck Start false ts h = absurd cc
letter-stuck Open false ts h = absurd cc
letter-stuck Later false ts h = refl

pub space-stuck : (bytes : List ℕ) (m : Before) (spaced : Bool) → 1 ≤ length bytes → Space ≡ class_of (get_or bytes 0 0) → IsSettled bytes (state_of m spaced) → lex bytes (state_of m spaced) ≡ Stuck ∷ []
space-stuck [] m spaced le e h = absurd (omega arith)
space-stuck (b ∷ bs) m spaced le e h = rw (lex-cons b bs (state_of m spaced) Space e, h (sym e), ended-between m spaced) refl

pub nothing-left : (bytes : List ℕ) (s : State) → length bytes < 1 → lex bytes s ≡ at_end s
unfolding lex
nothing-left [] s h = refl
nothing-left (b ∷ bs) s h = absurd (omega arith)

pub space-lex : (bytes : List ℕ) → 1 ≤ length bytes → get_or bytes 0 0 ≡ 32 → lex (take (length bytes - 1) (drop 1 bytes)) Spaced ≡ lex bytes (At Later)
unfolding lex
space-lex [] le e = absurd (omega arith)
space-lex (b ∷ bs) le e = ap (λ r. lex r Spaced) (take_all _ bs (omega arith)) ∙ sym (lex-cons b bs (At Later) Space (rw e refl))

pub empty-stuck : (bytes : List ℕ) (s : State) → length bytes < 1 → IsSettled bytes s → lex bytes s ≡ Stuck ∷ []
unfolding lex
empty-stuck [] s h e = e
empty-stuck (b ∷ bs) s h e = absurd (omega arith)

-- ---- the bytes of an atom

abbrev pub IsAtomText : List ℕ → Type 0
IsAtomText a = AllByRecursion (λ b. is_atom_byte b ≡ true) a

pub atom-text : (a : List ℕ) → IsAtom a → IsAtomText a
atom-text a h = recursion_from_All (λ b. is_atom_byte b ≡ true) a h.1

pub text-atom : (a : List ℕ) → a ≢ [] → IsAtomText a → IsAtom a
text-atom a some h = (some, All-from_recursion (λ b. is_atom_byte b ≡ true) a h)

-- a byte before an atom
pub letter-atom : (b : ℕ) (a : List ℕ) → is_atom_byte b ≡ true → IsAtom a → IsAtom (b ∷ a)
letter-atom b a e h = text-atom (b ∷ a) (λ n. absurd cc) (e, atom-text a h)

-- a test of atoms
abbrev pub is_atom_text : List ℕ → Bool
is_atom_text [] = false
is_atom_text (b ∷ bs) = list_all is_atom_byte (b ∷ bs)

pub word-atom : (a : List ℕ) → is_atom_text a ≡ true → IsAtom a
word-atom [] e = absurd cc
word-atom (b ∷ bs) e = (λ n. absurd cc, AllPass-from_list_all is_atom_byte (b ∷ bs) e)
