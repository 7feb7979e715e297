-- Where a name stands among files, and what is changed there.
use Rattle.std.proofs.Common.{◌≡◌, ℕ, suc, ◌+◌, ◌<◌, List, [], ◌∷◌, ◌++◌, length, get_or, set, true, false, Option, Some, None, MatchOption, refl, sym, ap, subst, arith}
use Rattle.std.specs.List.{position_from}
use Rattle.std.specs.Str.{bytes_eq}
use Rattle.mc_shelf.specs.Files.{Files, held, with_file, with_more}

abbrev pub File : Type 0
File = List ℕ × List ℕ

-- the name's pair stands at this place, and none before has the name
pub record IsAt (fs : Files) (name : List ℕ) (i : ℕ) : Type 0 where
  pub below : i < length fs
  pub held_is : (d : File) → held fs name ≡ Some (get_or fs i d).1
  pub file_is : (bytes : List ℕ) (d : File) → with_file fs name bytes ≡ set fs i ((get_or fs i d).0, bytes)
  pub more_is : (piece : List ℕ) (d : File) → with_more fs name piece ≡ set fs i ((get_or fs i d).0, (get_or fs i d).1 ++ piece)

pub record IsMissing (fs : Files) (name : List ℕ) : Type 0 where
  pub held_is : held fs name ≡ None
  pub file_is : (bytes : List ℕ) → with_file fs name bytes ≡ fs ++ (name, bytes) ∷ []
  pub more_is : (piece : List ℕ) → with_more fs name piece ≡ fs

-- a search that began at k answered so
abbrev Found : ℕ → Files → List ℕ → Option ℕ → Type 0
Found k fs name o = MatchOption o (IsMissing fs name) (λ i. (j : ℕ) × (i ≡ k + j) × IsAt fs name j)

found-later : (k : ℕ) (f : File) (fs : Files) (name : List ℕ) (o : Option ℕ) → bytes_eq f.0 name ≡ false → Found (k + 1) fs name o → Found k (f ∷ fs) name o
found-later k f fs name None e m = record {
  held_is = rw e m.held_is;
  file_is = λ bytes. rw e (ap (λ l. f ∷ l) (m.file_is bytes));
  more_is = λ piece. rw e (ap (λ l. f ∷ l) (m.more_is piece));
}
found-later k f fs name (Some i) e m = let at = m.2 in (
  suc m.0,
  omega (arith, m.1),
  record {
    below = omega (arith, at.below);
    held_is = λ d. rw e (at.held_is d);
    file_is = λ bytes d. rw e (ap (λ l. f ∷ l) (at.file_is bytes d));
    more_is = λ piece d. rw e (ap (λ l. f ∷ l) (at.more_is piece d));
  },
)

found : (k : ℕ) (fs : Files) (name : List ℕ) → Found k fs name (position_from (λ f. bytes_eq f.0 name) k fs)
found k [] name = record { held_is = refl; file_is = λ bytes. refl; more_is = λ piece. refl }
found k (f ∷ fs) name =
    elim (bytes_eq f.0 name) as (λ b. bytes_eq f.0 name ≡ b → Found k (f ∷ fs) name (position_from (λ f. bytes_eq f.0 name) k (f ∷ fs))) [
      | true ↦ λ e. rw e (
        0,
        omega arith,
        record {
          below = omega arith;
          held_is = λ d. rw e refl;
          file_is = λ bytes d. rw e refl;
          more_is = λ piece d. rw e refl;
        },
      )
      | false ↦ λ e. rw e (found-later k f fs name _ e (found (k + 1) fs name))
    ] refl

pub found_at : (fs : Files) (name : List ℕ) (i : ℕ) → Some i ≡ position_from (λ f. bytes_eq f.0 name) 0 fs → IsAt fs name i
found_at fs name i e =
    let f : Found 0 fs name (Some i) = subst (Found 0 fs name) (sym e) (found 0 fs name) in
    let same : f.0 ≡ i = omega (arith, f.1) in
    subst (IsAt fs name) same f.2

pub found_missing : (fs : Files) (name : List ℕ) → None ≡ position_from (λ f. bytes_eq f.0 name) 0 fs → IsMissing fs name
found_missing fs name e = subst (Found 0 fs name) (sym e) (found 0 fs name)
