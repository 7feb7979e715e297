-- What names hold after a file was set or grew.
use Rattle.std.proofs.Common.{◌≡◌, ◌≢◌, ℕ, List, [], ◌∷◌, ◌++◌, length, true, false, cond, Option, Some, None, IsSome, Ok, Err, refl, sym, ◌∙◌, ap}
use Rattle.std.specs.Option.{option_map, unwrap_or}
use Rattle.std.specs.Str.{bytes_eq}
use Rattle.std.proofs.Math.Seq.{take-length}
use Rattle.std.proofs.lemmas.Bool.{false_from_ne_true}
use Rattle.std.proofs.lemmas.Slice.Eq.{bytes_eq-Decides}
use Rattle.mc_shelf.specs.declared.sink.Stop.TheVariants.{Failed}
use Rattle.mc_shelf.specs.Files.{Files, held, with_file, with_more}
use Rattle.mc_shelf.specs.Plan.{kept_of}
use Rattle.mc_shelf.specs.Shelf.{Creates, Appends, AddsToName}
use Rattle.mc_shelf.specs.SureShelf.{sure_contents, surely_held}

bytes_eq_self : (x : List ℕ) → bytes_eq x x ≡ true
bytes_eq_self x = (bytes_eq-Decides x x).1 refl

bytes_eq_apart : (x y : List ℕ) → x ≢ y → bytes_eq x y ≡ false
bytes_eq_apart x y apart = false_from_ne_true _ (λ e. apart ((bytes_eq-Decides x y).0 e))

-- a look-up of another name passes over this pair
apart-from : (x name other : List ℕ) → bytes_eq x name ≡ true → other ≢ name → bytes_eq x other ≡ false
apart-from x name other e apart = bytes_eq_apart x other (λ same. apart (sym same ∙ (bytes_eq-Decides x name).0 e))

pub held-with_file : (fs : Files) (name bytes : List ℕ) → held (with_file fs name bytes) name ≡ Some bytes
held-with_file [] name bytes = rw (bytes_eq_self name) refl
held-with_file (f ∷ fs) name bytes =
    elim (bytes_eq f.0 name) as (λ b. bytes_eq f.0 name ≡ b → held (with_file (f ∷ fs) name bytes) name ≡ Some bytes) [
      | true ↦ λ e. simp e refl
      | false ↦ λ e. simp e (held-with_file fs name bytes)
    ] refl

pub held-with_file_other : (fs : Files) (name bytes other : List ℕ) → other ≢ name → held (with_file fs name bytes) other ≡ held fs other
held-with_file_other [] name bytes other apart = rw (bytes_eq_apart name other (λ e. apart (sym e))) refl
held-with_file_other (f ∷ fs) name bytes other apart =
    elim (bytes_eq f.0 name) as (λ b. bytes_eq f.0 name ≡ b → held (with_file (f ∷ fs) name bytes) other ≡ held (f ∷ fs) other) [
      | true ↦ λ e. simp (e, apart-from f.0 name other e apart) refl
      | false ↦ λ e. rw e (ap (cond (bytes_eq f.0 other) (Some f.1)) (held-with_file_other fs name bytes other apart))
    ] refl

held-with_more : (fs : Files) (name piece : List ℕ) → held (with_more fs name piece) name ≡ option_map (λ old. old ++ piece) (held fs name)
held-with_more [] name piece = refl
held-with_more (f ∷ fs) name piece =
    elim (bytes_eq f.0 name) as (λ b. bytes_eq f.0 name ≡ b → held (with_more (f ∷ fs) name piece) name ≡ option_map (λ old. old ++ piece) (held (f ∷ fs) name)) [
      | true ↦ λ e. simp e refl
      | false ↦ λ e. simp e (held-with_more fs name piece)
    ] refl

held-with_more_other : (fs : Files) (name piece other : List ℕ) → other ≢ name → held (with_more fs name piece) other ≡ held fs other
held-with_more_other [] name piece other apart = refl
held-with_more_other (f ∷ fs) name piece other apart =
    elim (bytes_eq f.0 name) as (λ b. bytes_eq f.0 name ≡ b → held (with_more (f ∷ fs) name piece) other ≡ held (f ∷ fs) other) [
      | true ↦ λ e. simp (e, apart-from f.0 name other e apart) refl
      | false ↦ λ e. rw e (ap (cond (bytes_eq f.0 other) (Some f.1)) (held-with_more_other fs name piece other apart))
    ] refl

pub creates_empty : (fs : Files) (name : List ℕ) → Creates (Ok tt) name (held fs) (held (with_file fs name []))
creates_empty fs name = record { named = held-with_file fs name []; others = held-with_file_other fs name [] }

adds-all : (o : Option (List ℕ)) (piece : List ℕ) → IsSome o → AddsToName (Ok tt) piece o (option_map (λ old. old ++ piece) o)
adds-all None piece is = cc
adds-all (Some old) piece is = refl

pub appends_all : (fs : Files) (name piece : List ℕ) → IsSome (held fs name) → Appends (Ok tt) name piece (held fs) (held (with_more fs name piece))
appends_all fs name piece is = record {
  named = rw (held-with_more fs name piece) (adds-all (held fs name) piece is);
  others = held-with_more_other fs name piece;
}

adds-kept : (o : Option (List ℕ)) (kept : Option ℕ) (piece : List ℕ) → AddsToName (Err Failed) piece o (option_map (λ old. old ++ kept_of kept piece) o)
adds-kept None kept piece = tt
adds-kept (Some old) None piece = (length piece, ap (λ (p : List ℕ). old ++ p) (sym (take-length piece)))
adds-kept (Some old) (Some kept) piece = (kept, refl)

pub appends_kept : (fs : Files) (name piece : List ℕ) (kept : Option ℕ) → Appends (Err Failed) name piece (held fs) (held (with_more fs name (kept_of kept piece)))
appends_kept fs name piece kept = record {
  named = rw (held-with_more fs name (kept_of kept piece)) (adds-kept (held fs name) kept piece);
  others = held-with_more_other fs name (kept_of kept piece);
}

-- ---- where no name is missing

pub surely-with_file : (fs : Files) (name bytes : List ℕ) → surely_held (with_file fs name bytes) name ≡ bytes
surely-with_file fs name bytes = ap (λ o. unwrap_or o []) (held-with_file fs name bytes)

pub surely-with_file_other : (fs : Files) (name bytes other : List ℕ) → other ≢ name → sure_contents (with_file fs name bytes) other ≡ sure_contents fs other
surely-with_file_other fs name bytes other apart = ap (λ o. Some (unwrap_or o [])) (held-with_file_other fs name bytes other apart)

pub surely_creates : (fs : Files) (name : List ℕ) → Creates (Ok tt) name (sure_contents fs) (sure_contents (with_file fs name []))
surely_creates fs name = record { named = ap Some (surely-with_file fs name []); others = surely-with_file_other fs name [] }

pub surely_begins : (fs : Files) (name piece : List ℕ) → held fs name ≡ None → Appends (Ok tt) name piece (sure_contents fs) (sure_contents (with_file fs name piece))
surely_begins fs name piece none = record {
  named = surely-with_file fs name piece ∙ ap (λ o. unwrap_or o [] ++ piece) (sym none);
  others = surely-with_file_other fs name piece;
}

more-there : (o : Option (List ℕ)) (piece : List ℕ) → IsSome o → unwrap_or (option_map (λ old. old ++ piece) o) [] ≡ unwrap_or o [] ++ piece
more-there None piece is = cc
more-there (Some old) piece is = refl

pub surely_appends : (fs : Files) (name piece : List ℕ) → IsSome (held fs name) → Appends (Ok tt) name piece (sure_contents fs) (sure_contents (with_more fs name piece))
surely_appends fs name piece is = record {
  named = ap (λ o. unwrap_or o []) (held-with_more fs name piece) ∙ more-there (held fs name) piece is;
  others = λ other apart. ap (λ o. Some (unwrap_or o [])) (held-with_more_other fs name piece other apart);
}
