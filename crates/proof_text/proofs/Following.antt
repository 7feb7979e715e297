-- What follows in a text, to go by its first word.
use Rattle.std.proofs.Common.{◌≡◌, ℕ, ◌≤◌, Bool, true, false, eqb, List, [], ◌∷◌, ◌++◌, length, codes, Option, Some, None, true≢false, refl, sym, ap, subst, ◌∙◌, arith, append_assoc, length-append, inl, inr}
use Rattle.std.specs.Prelude.{◌||◌, option_map}
use Rattle.std.specs.Str.{bytes_eq}
use Rattle.std.proofs.lemmas.List.{append-nil}
use Rattle.std.proofs.lemmas.Slice.Eq.{bytes_eq-Decides}
use Rattle.mc_text.specs.Tokens.{Tok, Left, Right, Semi, Atom, Eol, Done, Stuck, IsAtom, HasNoAtomByte, Stands}
use Rattle.mc_text.specs.declared.token.Before.TheVariants.{Start}
use Rattle.mc_text.specs.Scanning.{lex, At}
use Rattle.mc_text.specs.Fault.{first_lines, newlines}
use Rattle.mc_text.specs.Reading.{goes_on}
use Rattle.mc_text.proofs.Atoms.{word-atom}
use Rattle.mc_text.proofs.Lines.{stands-lex, atom-stands}
use Rattle.mc_text.proofs.FaultLine.{AreLines, EndsByte, first-step, SameLine, same-line}
use Rattle.mc_text.proofs.Tail.{first-before}
use Rattle.proof_text.specs.FirstProofs.{Follows, ProofEnds}
use Rattle.group_text.specs.inner.Reading.{is_def}
use Rattle.group_text.proofs.Cuts.{same-some}
use Rattle.proof_text.specs.inner.LineReaders.{ends_proof}

-- ---- whether a definition follows

some-front : (b : ℕ) (o : Option (List ℕ)) → (o ≡ None → ⊥) → option_map (λ (x : List ℕ). b ∷ x) o ≡ None → ⊥
some-front b None h e = h refl
some-front b (Some x) h e = cc

line-there : (b : ℕ) (bs : List ℕ) (f : Bool) → eqb b 10 ≡ f → EndsByte b bs → (AreLines bs → 1 ≤ length bs → first_lines 1 bs ≡ None → ⊥) → first_lines 1 (b ∷ bs) ≡ None → ⊥
unfolding first_lines
line-there b bs true e h ih k = absurd (let m = sym (first-step b bs 0 true e) ∙ k in cc)
line-there b [] false e h ih k = true≢false (sym (ap (λ (n : ℕ). eqb n 10) h) ∙ e)
line-there b (c ∷ cs) false e h ih k = some-front b (first_lines 1 (c ∷ cs)) (ih h (omega arith)) (sym (first-step b (c ∷ cs) 0 false e) ∙ k)

pub some-line : (bytes : List ℕ) → AreLines bytes → 1 ≤ length bytes → first_lines 1 bytes ≡ None → ⊥
some-line [] h le k = omega (arith, le)
some-line (b ∷ bs) h le k = line-there b bs (eqb b 10) refl h (some-line bs) k

stays-apart : (rest tail : List ℕ) → 1 ≤ length rest → HasNoAtomByte rest → HasNoAtomByte (rest ++ tail)
stays-apart [] tail le h = absurd (omega (arith, le))
stays-apart (b ∷ rest) tail le h = h

name-behind : (k bytes rest : List ℕ) → (AreLines k → ⊥) → bytes ≡ k ++ rest → AreLines bytes → 1 ≤ length rest
name-behind k bytes [] not e h = absurd (not (subst AreLines (e ∙ append-nil k) h))
name-behind k bytes (b ∷ rest) not e h = omega arith

-- a word follows where it is read first
pub word-follows : (k bytes tail : List ℕ) (us : List Tok) → 1 ≤ length k → (AreLines k → ⊥) → AreLines bytes → newlines tail ≡ 0 → lex bytes (At Start) ≡ Atom k ∷ us → Follows k (bytes ++ tail)
word-follows k bytes tail us some not h none e =
    let s = atom-stands bytes k us e in
    let more = name-behind k bytes s.0 not s.1.spelled h in
    let long : length bytes ≡ length (k ++ s.0) = ap length s.1.spelled in (
      λ n. some-line bytes h (omega (arith, some, long, length-append k s.0)) (sym (first-before 1 bytes tail none) ∙ n),
      s.0 ++ tail,
      ap (λ (v : List ℕ). v ++ tail) s.1.spelled ∙ append_assoc k s.0 tail,
      stays-apart s.0 tail more s.1.may.1,
    )

-- a word that doesn't end in a newline
not-lines : (b c : ℕ) (k : List ℕ) → eqb c 10 ≡ false → AreLines ((b ∷ k) ++ c ∷ []) → ⊥
not-lines b c [] e h = true≢false (sym (ap (λ (n : ℕ). eqb n 10) h) ∙ e)
not-lines b c (d ∷ k) e h = not-lines d c k e h

-- a definition follows where its first word is read
pub def-follows : (bytes tail : List ℕ) → AreLines bytes → newlines tail ≡ 0 → goes_on is_def (lex bytes (At Start)) ≡ true → Follows (codes "def") (bytes ++ tail)
def-follows bytes tail h none g = by (lex bytes (At Start)) refl g
  where
    by : (ts : List Tok) → lex bytes (At Start) ≡ ts → goes_on is_def ts ≡ true → Follows (codes "def") (bytes ++ tail)
    by [] e g = absurd cc
    by (Atom a ∷ us) e g =
        let same : a ≡ codes "def" = (bytes_eq-Decides a (codes "def")).0 g in
        word-follows (codes "def") bytes tail us (omega arith) (not-lines 100 102 (codes "e") refl) h none (e ∙ ap (λ (b : List ℕ). Atom b ∷ us) same)
    by (Left ∷ us) e g = absurd cc
    by (Right ∷ us) e g = absurd cc
    by (Semi ∷ us) e g = absurd cc
    by (Eol ∷ us) e g = absurd cc
    by (Done ∷ us) e g = absurd cc
    by (Stuck ∷ us) e g = absurd cc

-- and the next group, or the end
pub ends-follow : (bytes tail : List ℕ) → AreLines bytes → newlines tail ≡ 0 → goes_on ends_proof (lex bytes (At Start)) ≡ true → ProofEnds (bytes ++ tail)
ends-follow bytes tail h none g = by (lex bytes (At Start)) refl g
  where
    by-word : (a : List ℕ) (us : List Tok) → lex bytes (At Start) ≡ Atom a ∷ us → (x y : Bool) → bytes_eq a (codes "group") ≡ x → bytes_eq a (codes "end") ≡ y → x || y ≡ true → ProofEnds (bytes ++ tail)
    by-word a us e true y f k g =
        let same : a ≡ codes "group" = (bytes_eq-Decides a (codes "group")).0 f in
        inl (word-follows (codes "group") bytes tail us (omega arith) (not-lines 103 112 (codes "rou") refl) h none (e ∙ ap (λ (b : List ℕ). Atom b ∷ us) same))
    by-word a us e false true f k g =
        let same : a ≡ codes "end" = (bytes_eq-Decides a (codes "end")).0 k in
        inr (word-follows (codes "end") bytes tail us (omega arith) (not-lines 101 100 (codes "n") refl) h none (e ∙ ap (λ (b : List ℕ). Atom b ∷ us) same))
    by-word a us e false false f k g = absurd (true≢false (sym g))

    by : (ts : List Tok) → lex bytes (At Start) ≡ ts → goes_on ends_proof ts ≡ true → ProofEnds (bytes ++ tail)
    by [] e g = absurd cc
    by (Atom a ∷ us) e g = by-word a us e (bytes_eq a (codes "group")) (bytes_eq a (codes "end")) refl refl g
    by (Left ∷ us) e g = absurd cc
    by (Right ∷ us) e g = absurd cc
    by (Semi ∷ us) e g = absurd cc
    by (Eol ∷ us) e g = absurd cc
    by (Done ∷ us) e g = absurd cc
    by (Stuck ∷ us) e g = absurd cc

front-mapped : (b : ℕ) (o : Option (List ℕ)) (l : List ℕ) → option_map (λ (x : List ℕ). b ∷ x) o ≡ Some l → (m : List ℕ) × (o ≡ Some m) × (b ∷ m ≡ l)
front-mapped b (Some m) l e = (m, refl, cc)
front-mapped b None l e = absurd cc

first-step-front : (b : ℕ) (bs l : List ℕ) (f : Bool) → eqb b 10 ≡ f → ((m : List ℕ) → first_lines 1 bs ≡ Some m → (more : List ℕ) × (bs ≡ m ++ more)) → first_lines 1 (b ∷ bs) ≡ Some l → (more : List ℕ) × (b ∷ bs ≡ l ++ more)
unfolding first_lines
first-step-front b bs l true e ih h =
    let k = front-mapped b (Some []) l (sym (first-step b bs 0 true e) ∙ h) in
    let none : [] ≡ k.0 = same-some [] k.0 k.1 in
    (bs, ap (λ (v : List ℕ). (b ∷ v) ++ bs) none ∙ ap (λ (v : List ℕ). v ++ bs) k.2)
first-step-front b bs l false e ih h =
    let k = front-mapped b (first_lines 1 bs) l (sym (first-step b bs 0 false e) ∙ h) in
    let m = ih k.0 k.1 in
    (m.0, ap (λ (v : List ℕ). b ∷ v) m.1 ∙ ap (λ (v : List ℕ). v ++ m.0) k.2)

first-front : (bytes l : List ℕ) → first_lines 1 bytes ≡ Some l → (more : List ℕ) × (bytes ≡ l ++ more)
unfolding first_lines
first-front [] l e = absurd cc
first-front (b ∷ bs) l e = first-step-front b bs l (eqb b 10) refl (first-front bs) e

same-first : (ts : List Tok) (o : Tok) (os : List Tok) → SameLine ts (o ∷ os) → (us : List Tok) × (ts ≡ o ∷ us)
same-first [] o os h = absurd (clash h)
  where
    clash : o ∷ os ≡ [] → ⊥
    clash e = cc
same-first (t ∷ ts) o os h = (ts, ap (λ (z : Tok). z ∷ ts) h.0)

line-word : (k bytes tail : List ℕ) (o : Option (List ℕ)) (os : List Tok) → newlines tail ≡ 0 → first_lines 1 bytes ≡ o → (o ≡ None → ⊥) → lex (bytes ++ tail) (At Start) ≡ Atom k ∷ os → (us : List Tok) × (lex bytes (At Start) ≡ Atom k ∷ us)
line-word k bytes tail None os none e some read = absurd (some refl)
line-word k bytes tail (Some l) os none e some read =
    let f = first-front (bytes ++ tail) l (first-before 1 bytes tail none ∙ e) in
    let same = same-line bytes f.0 l (At Start) e in
    same-first (lex bytes (At Start)) (Atom k) os (subst (λ (v : List Tok). SameLine (lex bytes (At Start)) v) (ap (λ (v : List ℕ). lex v (At Start)) (sym f.1) ∙ read) same)

pub follows-stands : (k rest : List ℕ) → IsAtom k → (d : Follows k rest) → Stands Start rest (Atom k) d.1
follows-stands k rest atom d = record { spelled = d.2; may = (atom, d.3) }

-- and a word is read first where it follows
pub follows-word : (k bytes tail : List ℕ) → IsAtom k → newlines tail ≡ 0 → Follows k (bytes ++ tail) → (us : List Tok) × (lex bytes (At Start) ≡ Atom k ∷ us)
follows-word k bytes tail atom none d =
    line-word k bytes tail (first_lines 1 bytes) _ none refl (λ n. d.0 (first-before 1 bytes tail none ∙ n)) (stands-lex Start (bytes ++ tail) (Atom k) d.1 (λ n. cc) (follows-stands k (bytes ++ tail) atom d))

pub def-atom : IsAtom (codes "def")
def-atom = word-atom (codes "def") refl

pub follows-def : (bytes tail : List ℕ) → newlines tail ≡ 0 → Follows (codes "def") (bytes ++ tail) → goes_on is_def (lex bytes (At Start)) ≡ true
follows-def bytes tail none d = ap (goes_on is_def) (follows-word (codes "def") bytes tail def-atom none d).1

pub follow-ends : (bytes tail : List ℕ) → newlines tail ≡ 0 → ProofEnds (bytes ++ tail) → goes_on ends_proof (lex bytes (At Start)) ≡ true
follow-ends bytes tail none (inl d) = ap (goes_on ends_proof) (follows-word (codes "group") bytes tail (word-atom (codes "group") refl) none d).1
follow-ends bytes tail none (inr d) = ap (goes_on ends_proof) (follows-word (codes "end") bytes tail (word-atom (codes "end") refl) none d).1
