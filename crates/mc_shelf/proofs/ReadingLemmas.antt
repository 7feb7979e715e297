-- The bytes read so far are the front of the file.
use Rattle.std.proofs.Common.{◌≡◌, ℕ, zero, suc, ◌+◌, ◌≤◌, List, [], ◌∷◌, ◌++◌, length, take, drop, Option, Some, None, IfSome, sym, ap, ◌∙◌, arith}
use Rattle.std.proofs.Math.Seq.{take-length, take-nil}
use Rattle.std.proofs.lemmas.List.{take-append-le, length-take, length-drop}
use Rattle.mc_shelf.specs.Shelf.{Contents, Reads, ReadsName}

-- the bytes are what stands before that place of the file, which has so many
abbrev pub IsFront : List ℕ → ℕ → List ℕ → Type 0
IsFront bytes place file = (place ≤ length file) × (bytes ≡ take place file)

-- the same of a name, where it is told what the names hold
abbrev pub IsFrontOfName : List ℕ → ℕ → Option Contents → List ℕ → Type 0
IsFrontOfName bytes place told name = IfSome told (λ files. IfSome (files name) (IsFront bytes place))

-- the file has so many bytes at least, where it is told
abbrev pub ReachesOfName : ℕ → Option Contents → List ℕ → Type 0
ReachesOfName place told name = IfSome told (λ files. IfSome (files name) (λ file. place ≤ length file))

-- the first bytes, cut after n
pub take-add : (n m : ℕ) (bytes : List ℕ) → take (n + m) bytes ≡ take n bytes ++ take m (drop n bytes)
take-add zero m bytes =
    let none : 0 + m ≡ m = omega arith in
    ap (λ (k : ℕ). take k bytes) none
take-add (suc n) m [] = take-nil (suc n + m) ∙ sym (take-nil m)
take-add (suc n) m (b ∷ bytes) =
    let next : suc n + m ≡ suc (n + m) = omega arith in
    ap (λ (k : ℕ). take k (b ∷ bytes)) next ∙ ap (λ (v : List ℕ). b ∷ v) (take-add n m bytes)

-- the first n of at least n bytes before others
pub take_of_copied : (n : ℕ) (part rest new : List ℕ) → new ≡ take n part ++ rest → n ≤ length part → take n new ≡ take n part
take_of_copied n part rest new copied h =
    let size : n ≡ length (take n part) = grind (arith, length-take) in
    (λ i. take n (copied i)) ∙ (take-append-le n (take n part) rest (omega arith) ∙ (λ i. take (size i) (take n part)) ∙ take-length (take n part))

front-more : (file : List ℕ) (place n : ℕ) (bytes old new : List ℕ) → IsFront bytes place file → Reads file place n old new → IsFront (bytes ++ take n new) (place + n) file
front-more file place n bytes old new front reads =
    let piece : take n new ≡ take n (drop place file) = take_of_copied n (drop place file) (drop n old) new reads.copied reads.no_more in
    (omega (arith, length-drop place file, reads.no_more), (λ i. front.1 i ++ piece i) ∙ sym (take-add place n file))

front-more_in : (held : Option (List ℕ)) (place n : ℕ) (bytes old new : List ℕ)
    → IfSome held (IsFront bytes place) → ReadsName held place n old new → IfSome held (IsFront (bytes ++ take n new) (place + n))
front-more_in None place n bytes old new front reads = tt
front-more_in (Some file) place n bytes old new front reads = front-more file place n bytes old new front reads

pub front_of_name-more : (told : Option Contents) (name : List ℕ) (place n : ℕ) (bytes old new : List ℕ)
    → IsFrontOfName bytes place told name → IfSome told (λ files. ReadsName (files name) place n old new)
    → IsFrontOfName (bytes ++ take n new) (place + n) told name
front_of_name-more None name place n bytes old new front reads = tt
front_of_name-more (Some files) name place n bytes old new front reads = front-more_in (files name) place n bytes old new front reads
