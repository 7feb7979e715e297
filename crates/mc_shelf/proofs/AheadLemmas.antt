-- What was read ahead is what stands next in the file.
use Rattle.std.proofs.Common.{◌≡◌, ℕ, ◌+◌, ◌-◌, ◌<◌, ◌≤◌, Bool, true, false, cond, nat_eq, List, [], ◌∷◌, ◌++◌, length, take, drop, Option, Some, None, IfSome, refl, sym, ap, subst, ◌∙◌, ◌⊎◌, inl, inr, append_assoc, length-append, arith}
use Rattle.std.proofs.lemmas.List.{length-take-le, take-append-le, append-nil}
use Rattle.std.proofs.lemmas.Bool.{eqb-true}
use Rattle.std.proofs.Math.ListN.{drop_of_length-le}
use Rattle.std.proofs.Math.Seq.{take-nil}
use Rattle.mc_shelf.specs.Shelf.{Contents, Reads, ReadsName}
use Rattle.mc_shelf.specs.Lines.{unread, up_to_newline, IsEnded}
use Rattle.mc_shelf.specs.inner.Ahead.{AheadState, still, to_go, IsDone, TakesOf, WasTaken, Takes, IsOpen}
use Rattle.mc_shelf.proofs.LineLemmas.{drop-drop, line_alone}
use Rattle.mc_shelf.proofs.ReadingLemmas.{take_of_copied, take-add}

-- a block of which n bytes were read at this place
abbrev block_at : ℕ → ℕ → List ℕ → AheadState
block_at place n block = record { place = place + n; waiting = take (n - 0) (drop 0 block); ended = nat_eq n 0 }

cut : (size place n : ℕ) (file : List ℕ) → place + n ≤ size → unread size place false file ≡ take n (drop place file) ++ unread size (place + n) false file
cut size place n file h =
    let parts : size - place ≡ n + (size - (place + n)) = omega (arith, h) in
    ap (λ (k : ℕ). take k (drop place file)) parts
    ∙ take-add n (size - (place + n)) (drop place file)
    ∙ ap (λ (v : List ℕ). take n (drop place file) ++ take (size - (place + n)) v) (drop-drop place n file)

reads-next : (size place n : ℕ) (ended : Bool) (file old new : List ℕ) → nat_eq n 0 ≡ ended → place + n ≤ size → Reads file place n old new
    → unread size place false file ≡ take n new ++ unread size (place + n) ended file
reads-next size place n true file old new is h reads =
    let zero_is : n ≡ 0 = eqb-true n 0 is in
    let none : drop place file ≡ [] = drop_of_length-le file (reads.ended.0 zero_is) in
    ap (take (size - place)) none ∙ take-nil (size - place) ∙ ap (λ (k : ℕ). take k new ++ []) (sym zero_is)
reads-next size place n false file old new is h reads =
    let piece : take n new ≡ take n (drop place file) = take_of_copied n (drop place file) (drop n old) new reads.copied reads.no_more in
    cut size place n file h ∙ ap (λ (v : List ℕ). v ++ unread size (place + n) false file) (sym piece)

-- the front of a block that was read into
block-front : (n : ℕ) (new rest : List ℕ) → n ≤ length new → take (n - 0) (drop 0 (new ++ rest)) ≡ take n new
block-front n new rest h =
    let all : n - 0 ≡ n = omega arith in
    ap (λ (k : ℕ). take k (new ++ rest)) all ∙ take-append-le n new rest h

takes-block : (size place n : ℕ) (file old new rest : List ℕ) (before : AheadState) → before.waiting ≡ [] → before.ended ≡ false → before.place ≡ place
    → n ≤ length new → place + n ≤ size → Reads file place n old new → still size before file ≡ still size (block_at place n (new ++ rest)) file
takes-block size place n file old new rest before none going at fits h reads =
    (λ i. none i ++ unread size (at i) (going i) file)
    ∙ reads-next size place n (nat_eq n 0) file old new refl h reads
    ∙ ap (λ (v : List ℕ). v ++ unread size (place + n) (nat_eq n 0) file) (sym (block-front n new rest fits))

takes-block_of : (size place n : ℕ) (told : Option Contents) (name old new rest : List ℕ) (before : AheadState) → before.waiting ≡ [] → before.ended ≡ false → before.place ≡ place
    → n ≤ length new → place + n ≤ size → IfSome told (λ files. ReadsName (files name) place n old new) → TakesOf size [] before (block_at place n (new ++ rest)) told name
takes-block_of size place n None name old new rest before none going at fits h reads = tt
takes-block_of size place n (Some files) name old new rest before none going at fits h reads = of-name (files name) reads where
  of-name : (held : Option (List ℕ)) → ReadsName held place n old new → WasTaken size [] before (block_at place n (new ++ rest)) held
  of-name None reads = tt
  of-name (Some file) reads = takes-block size place n file old new rest before none going at fits h reads

not-ended : (size : ℕ) (before : AheadState) → before.waiting ≡ [] → (IsDone size before → ⊥) → before.ended ≡ false
not-ended size before none going = by-flag before.ended refl where
  by-flag : (f : Bool) → before.ended ≡ f → before.ended ≡ false
  by-flag true e = absurd (going (record { none = none; last = inr e }))
  by-flag false e = e

pub takes_block : (size place n : ℕ) (told : Option Contents) (name old new rest : List ℕ) (before : AheadState) → before.waiting ≡ [] → (IsDone size before → ⊥) → before.place ≡ place
    → n ≤ length new → place + n ≤ size → IfSome told (λ files. ReadsName (files name) place n old new) → Takes size [] told name before (block_at place n (new ++ rest))
takes_block size place n told name old new rest before none going at fits h reads =
    let front : length (take (n - 0) (drop 0 (new ++ rest))) ≡ length (take n new) = ap length (block-front n new rest fits) in
    let count : length (take n new) ≡ n = length-take-le n new fits in
    record {
      of = takes-block_of size place n told name old new rest before none (not-ended size before none going) at fits h reads;
      count = omega (arith, front, count, at, ap length none);
      within = h;
      done = λ done. absurd (going done);
    }

takes-of-then : (size : ℕ) (xs ys : List ℕ) (told : Option Contents) (name : List ℕ) (a b c : AheadState)
    → TakesOf size xs a b told name → TakesOf size ys b c told name → TakesOf size (xs ++ ys) a c told name
takes-of-then size xs ys None name a b c first further = tt
takes-of-then size xs ys (Some files) name a b c first further = of-name (files name) first further where
  of-name : (held : Option (List ℕ)) → WasTaken size xs a b held → WasTaken size ys b c held → WasTaken size (xs ++ ys) a c held
  of-name None first further = tt
  of-name (Some file) first further = first ∙ ap (λ (v : List ℕ). xs ++ v) further ∙ sym (append_assoc xs ys (still size c file))

pub takes_then : (size : ℕ) (xs ys : List ℕ) (told later : Option Contents) (name : List ℕ) (a b c : AheadState) → later ≡ told
    → Takes size xs told name a b → Takes size ys later name b c → Takes size (xs ++ ys) told name a c
takes_then size xs ys told later name a b c kept first further = record {
  of = takes-of-then size xs ys told name a b c first.of (subst (λ (t : Option Contents). TakesOf size ys b c t name) kept further.of);
  count = omega (arith, first.count, further.count, length-append xs ys);
  within = further.within;
  done = λ done.
      let start = first.done done in
      let end = further.done (subst (IsDone size) (sym start.1) done) in
      ((λ i. start.0 i ++ end.0 i), end.1 ∙ start.1);
}

takes-line-of : (size : ℕ) (part : List ℕ) (told : Option Contents) (name : List ℕ) (a b : AheadState) → a.waiting ≡ part ++ b.waiting → b.place ≡ a.place → b.ended ≡ a.ended
    → TakesOf size part a b told name
takes-line-of size part None name a b rest place ended = tt
takes-line-of size part (Some files) name a b rest place ended = of-name (files name) where
  of-name : (held : Option (List ℕ)) → WasTaken size part a b held
  of-name None = tt
  of-name (Some file) =
      (λ i. rest i ++ unread size (sym place i) (sym ended i) file)
      ∙ append_assoc part b.waiting (unread size b.place b.ended file)

-- the first line of the bytes that waited
pub takes_line : (size : ℕ) (told : Option Contents) (name : List ℕ) (a b : AheadState) → a.waiting ≡ up_to_newline a.waiting ++ b.waiting → b.place ≡ a.place → b.ended ≡ a.ended
    → a.place ≤ size → Takes size (up_to_newline a.waiting) told name a b
takes_line size told name a b rest place ended h = record {
  of = takes-line-of size (up_to_newline a.waiting) told name a b rest place ended;
  count = omega (arith, place, ap length rest, length-append (up_to_newline a.waiting) b.waiting);
  within = omega (arith, place, h);
  done = λ done.
      let empty : up_to_newline a.waiting ≡ [] = ap up_to_newline done.none in
      let behind : b.waiting ≡ a.waiting = (λ i. sym empty i ++ b.waiting) ∙ sym rest in
      (empty, λ i. record { place = place i; waiting = behind i; ended = ended i });
}

-- a line that goes on in what waits
pub open_more : (line waiting : List ℕ) → IsOpen line → IsOpen waiting → IsOpen (line ++ up_to_newline waiting)
open_more line waiting first further = subst (λ (v : List ℕ). IsOpen (line ++ v)) (sym (line_alone waiting further)) (record {
  goes_on = λ more.
      ap up_to_newline (append_assoc line waiting more)
      ∙ first.goes_on (waiting ++ more)
      ∙ ap (λ (v : List ℕ). line ++ v) (further.goes_on more)
      ∙ sym (append_assoc line waiting (up_to_newline more));
})

-- a line that ends in what waits
pub ended_more : (line waiting : List ℕ) → IsOpen line → IsEnded (up_to_newline waiting) → IsEnded (line ++ up_to_newline waiting)
ended_more line waiting first last = record {
  ends = λ more.
      ap up_to_newline (append_assoc line (up_to_newline waiting) more)
      ∙ first.goes_on (up_to_newline waiting ++ more)
      ∙ ap (λ (v : List ℕ). line ++ v) (last.ends more);
}

pub ended_alone : (line : List ℕ) → IsEnded line → up_to_newline line ≡ line
ended_alone line h = ap up_to_newline (sym (append-nil line)) ∙ h.ends []

no-byte : (b : ℕ) (bs : List ℕ) → b ∷ bs ≡ [] → ⊥
no-byte b bs e = absurd cc

not-ended-empty : IsEnded [] → ⊥
not-ended-empty h = no-byte 0 [] (h.ends (0 ∷ []))

pub ended_some : (line : List ℕ) → IsEnded line → line ≡ [] → ⊥
ended_some line h e = not-ended-empty (subst IsEnded e h)

-- a round of reading: a block was read, and all of it was taken
pub fewer_then : (size : ℕ) (a b c : AheadState) → to_go size b < to_go size a + length b.waiting → b.waiting ≡ up_to_newline b.waiting ++ c.waiting → IsOpen b.waiting
    → c.place ≡ b.place → c.ended ≡ b.ended → to_go size c < to_go size a
fewer_then size a b c fewer rest goes_on place ended =
    let all : length (up_to_newline b.waiting) ≡ length b.waiting = ap length (line_alone b.waiting goes_on) in
    let count : length b.waiting ≡ length (up_to_newline b.waiting ++ c.waiting) = ap length rest in
    let flag : ◌≡◌ {A = ℕ} (cond c.ended 0 1) (cond b.ended 0 1) = ap (λ (f : Bool). cond f 0 1) ended in
    omega (arith, fewer, all, count, length-append (up_to_newline b.waiting) c.waiting, flag, place)

no-length : (bytes : List ℕ) → length bytes ≡ 0 → bytes ≡ []
no-length [] h = refl
no-length (b ∷ bytes) h = absurd (omega (arith, h))

-- nothing is still to be taken where all was given
pub done_given : (given size : ℕ) (a : AheadState) → given + length a.waiting ≡ a.place → a.place ≤ size → (given ≡ size) ⊎ ((a.ended ≡ true) × (a.waiting ≡ [])) → IsDone size a
done_given given size a place within (inl all) = record { none = no-length a.waiting (omega (arith, place, within, all)); last = inl (omega (arith, place, within, all)) }
done_given given size a place within (inr end) = record { none = end.1; last = inr end.0 }
