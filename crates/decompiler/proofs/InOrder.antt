-- Items for names in order, one after the other.
use Rattle.std.proofs.Common.{◌≡◌, ℕ, zero, suc, ◌+◌, ◌<◌, List, [], ◌∷◌, ◌++◌, length, get_or, take, sym, refl, subst, arith, Some}
use Rattle.std.proofs.lemmas.List.{take_more}
use Rattle.std.proofs.lemmas.Option.{slice_get-get_or}
use Rattle.std.specs.Prelude.{slice_get}
use Rattle.std.specs.List.{AllZip}
use Rattle.path_walk.specs.declared.item.Item.{Item}
use Rattle.code_parts.specs.declared.call_fault.CallGraphFault.{CallGraphFault}
use Rattle.code_parts.specs.declared.call_fault.CallGraphFault.TheVariants as graph
use Rattle.decompiler.specs.declared.fault.LinkFault.{LinkFault}
use Rattle.decompiler.specs.declared.fault.LinkFault.TheVariants as fault
use Rattle.code_parts.specs.declared.call_fault.LinkWhy.{LinkWhy}
use Rattle.code_parts.specs.declared.call_fault.LinkWhy.TheVariants as link
use Rattle.rv_words.specs.Bytes.{Bytes}
use Rattle.elf_image.specs.Image.{code_of_file}
use Rattle.decompiler.specs.Faults.{IsFirst, Missing, Doubled, InFunction}
use Rattle.decompiler.specs.Listing.{IsItemBy, ItemForm}
use Rattle.decompiler.specs.Refusals.{IsFaultBy, IsNoProofBy}
use Rattle.decompiler.specs.inner.Functions.{IsNoItem, fault_alone, refusal}

zip_join : {A B : Type 0} (R : A → B → Type 0) (xs : List A) (ys : List B) (x : A) (y : B) → AllZip R xs ys → R x y → AllZip R (xs ++ x ∷ []) (ys ++ y ∷ [])
zip_join R [] [] x y h r = (r, tt)
zip_join R [] (z ∷ ys) x y h r = absurd h
zip_join R (w ∷ xs) [] x y h r = absurd h
zip_join R (w ∷ xs) (z ∷ ys) x y h r = (h.0, zip_join R xs ys x y h.1 r)

pub zip_more : {A B : Type 0} (R : A → B → Type 0) (xs : List A) (i : ℕ) (d : A) (ys : List B) (y : B) → i < length xs → AllZip R (take i xs) ys → R (get_or xs i d) y → AllZip R (take (i + 1) xs) (ys ++ y ∷ [])
zip_more R xs i d ys y lt h r = subst (λ zs. AllZip R zs (ys ++ y ∷ [])) (sym (take_more xs i d lt)) (zip_join R (take i xs) ys (get_or xs i d) y h r)

pub zip_there : {A B : Type 0} (R : A → B → Type 0) (xs : List A) (i : ℕ) (ys : List B) (k : ℕ) (x : A) → AllZip R (take i xs) ys → k < i → slice_get xs k ≡ Some x → (y : B) × R x y
zip_there R [] i ys k x h lt e = absurd (cc)
zip_there R (w ∷ xs) zero ys k x h lt e = absurd (omega (arith, lt))
zip_there R (w ∷ xs) (suc i) [] k x h lt e = absurd h
zip_there R (w ∷ xs) (suc i) (z ∷ ys) zero x h lt e = let same : w ≡ x = cc in (z, subst (λ v. R v z) same h.0)
zip_there R (w ∷ xs) (suc i) (z ∷ ys) (suc k) x h lt e = zip_there R xs i ys k x h.1 (omega (arith, lt)) e

-- ---- names in a loop

module _ (form : ItemForm) (file : List ℕ) (names : List (List ℕ)) (i : ℕ) (low : i < length names) (items : List Item) (before : AllZip (IsItemBy form file) (take i names) items) where
  pub items-more : (item : Item) (new : List Item) → IsItemBy form file (get_or names i []) item → new ≡ items ++ item ∷ [] → AllZip (IsItemBy form file) (take (i + 1) names) new
  items-more item new is more = subst (λ (xs : List Item). AllZip (IsItemBy form file) (take (i + 1) names) xs) (sym more) (zip_more (IsItemBy form file) names i [] items item low before is)

  -- the first name with a fault
  pub none-listed : (why : CallGraphFault) → IsNoItem form file (get_or names i []) why → IsNoProofBy form file names (refusal i why)
  none-listed (graph.Refused why) first = record {
    name = get_or names i [];
    at = slice_get-get_or names i [] low;
    first = first;
    before = λ k other few e. zip_there (IsItemBy form file) names i items k other before few e;
  }
  none-listed graph.NoMemory none = tt

-- functions each alone have faults of their own alone
pub none-alone : (form : ItemForm) (file : List ℕ) (names : List (List ℕ)) → ((code : Bytes) (e a : ℕ) → form.Causes code e (link.Recursive a) → ⊥)
    → (why : LinkFault) → IsNoProofBy form file names why → IsFaultBy form file names (fault_alone why)
none-alone form file names never (fault.Refused number (link.Outside why)) h = h
none-alone form file names never (fault.Refused number (link.Recursive a)) h = absurd (none-recursive h.name (link.Recursive a) h.first refl)
  where
    none-recursive : (name : List ℕ) (w : LinkWhy) → IsFirst form.Causes file name w → w ≡ link.Recursive a → ⊥
    none-recursive name _ (Missing s) e = cc
    none-recursive name _ (Doubled s) e = cc
    none-recursive name w (InFunction {e = entry} s cause) e = never (code_of_file file) entry a (subst (λ (x : LinkWhy). form.Causes (code_of_file file) entry x) e cause)
none-alone form file names never fault.NoMemory h = tt
