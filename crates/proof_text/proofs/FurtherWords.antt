-- The first word of a line by the further rule is no other word, and lines are told apart by it.
use Rattle.std.proofs.Common.{◌≡◌, false, List, [], ◌∷◌, ℕ, codes, Some, None, refl, subst}
use Rattle.std.specs.Prelude.{unwrap_or}
use Rattle.std.specs.Str.{bytes_eq}
use Rattle.mc_text.specs.Tokens.{Tok, Left, Right, Semi, Atom, Eol, Done, Stuck, IsAtom}
use Rattle.mc_text.specs.Reading.{Reader}
use Rattle.mc_text.specs.inner.Reading.{keyed}
use Rattle.mc_text.proofs.Atoms.{word-atom}
use Rattle.group_text.specs.declared.version.Version.{Version as Known}
use Rattle.group_text.specs.declared.version.Version.TheVariants.{One, Two, Three, Four}
use Rattle.group_text.specs.Version.{version_of, is_word_of, is_further}
use Rattle.group_text.specs.inner.Reading.{is_def}
use Rattle.proof_text.specs.inner.LineReaders.{ends_proof}
use Rattle.proof_text.specs.inner.LineReading.{keyed_where}

-- no word but these two is the further rule's
pub word-apart : (name : List ℕ) (k : Known) (w : List ℕ) → (version_of k).further ≡ Some w → bytes_eq name (codes "steer") ≡ false → bytes_eq name (codes "exchange") ≡ false → bytes_eq name w ≡ false
word-apart name One w e a b = absurd cc
word-apart name Two w e a b = absurd cc
word-apart name Three w e a b = let same : codes "steer" ≡ w = cc in subst (λ (v : List ℕ). bytes_eq name v ≡ false) same a
word-apart name Four w e a b = let same : codes "exchange" ≡ w = cc in subst (λ (v : List ℕ). bytes_eq name v ≡ false) same b

pub word-not-loop : (k : Known) → bytes_eq (unwrap_or (version_of k).further []) (codes "loop") ≡ false
word-not-loop One = refl
word-not-loop Two = refl
word-not-loop Three = refl
word-not-loop Four = refl

pub word-not-forget : (k : Known) → bytes_eq (unwrap_or (version_of k).further []) (codes "forget") ≡ false
word-not-forget One = refl
word-not-forget Two = refl
word-not-forget Three = refl
word-not-forget Four = refl

pub word-begins : (k : Known) → ends_proof (Atom (unwrap_or (version_of k).further [])) ≡ false
word-begins One = refl
word-begins Two = refl
word-begins Three = refl
word-begins Four = refl

pub word-no-def : (k : Known) → is_def (Atom (unwrap_or (version_of k).further [])) ≡ false
word-no-def One = refl
word-no-def Two = refl
word-no-def Three = refl
word-no-def Four = refl

pub def-not-further : (k : Known) → is_further (version_of k) (codes "def") ≡ false
def-not-further One = refl
def-not-further Two = refl
def-not-further Three = refl
def-not-further Four = refl

-- where there is such a rule its word is an atom
pub word-is-atom : (k : Known) (w : List ℕ) → (version_of k).further ≡ Some w → IsAtom w
word-is-atom One w e = absurd cc
word-is-atom Two w e = absurd cc
word-is-atom Three w e = let same : codes "steer" ≡ w = cc in subst IsAtom same (word-atom (codes "steer") refl)
word-is-atom Four w e = let same : codes "exchange" ≡ w = cc in subst IsAtom same (word-atom (codes "exchange") refl)

-- ---- what a word leads to

-- without such a rule no word leads there
pub where-none : {X : Type 0} (r other : Reader X) (ts : List Tok) → keyed_where (is_word_of None) r other ts ≡ other ts
where-none r other [] = refl
where-none r other (Atom a ∷ ts) = refl
where-none r other (Left ∷ ts) = refl
where-none r other (Right ∷ ts) = refl
where-none r other (Semi ∷ ts) = refl
where-none r other (Eol ∷ ts) = refl
where-none r other (Done ∷ ts) = refl
where-none r other (Stuck ∷ ts) = refl

-- with one just its word does
pub where-word : {X : Type 0} (w : List ℕ) (r other : Reader X) (ts : List Tok) → keyed_where (is_word_of (Some w)) r other ts ≡ keyed w r other ts
where-word w r other [] = refl
where-word w r other (Atom a ∷ ts) = refl
where-word w r other (Left ∷ ts) = refl
where-word w r other (Right ∷ ts) = refl
where-word w r other (Semi ∷ ts) = refl
where-word w r other (Eol ∷ ts) = refl
where-word w r other (Done ∷ ts) = refl
where-word w r other (Stuck ∷ ts) = refl
