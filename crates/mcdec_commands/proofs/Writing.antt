-- A text written into a name, one line after the other.
use Rattle.std.proofs.Common.{◌≡◌, ℕ, List, [], ◌++◌, Option, Some, None, Result, Ok, Err, true≢false, refl, sym, ap, ◌∙◌, inl, inr}
use Rattle.std.specs.Prelude.{IfSome, IsSome}
use Rattle.std.specs.Result.{IsErrAnd}
use Rattle.std.proofs.lemmas.List.{append-nil}
use Rattle.mc_shelf.specs.Fault.{WhereTold}
use Rattle.mc_shelf.specs.Shelf.{AddsToName, Appends, Contents, Creates, Empties, KeepsOthers, TellsName}
use Rattle.mc_shelf.specs.declared.sink.Stop.{Stop}
use Rattle.mc_shelf.specs.declared.sink.Stop.TheVariants.{Failed, NoMemory}
use Rattle.mcdec_answers.specs.inner.Printing.{Gains}
use Rattle.mcdec_commands.specs.inner.Writing.{AddsText, IsTold, IsWritten, Writes}
use Rattle.mcdec_answers.proofs.Prints.{gains-added, gains-then, stops_in_first, told_same, told_then, where_told}

kept-then : (name : List ℕ) (x y z : Contents) → KeepsOthers name x y → KeepsOthers name y z → KeepsOthers name x z
kept-then name x y z h k other apart = k other apart ∙ h other apart

-- ---- lines

-- what a name holds after a call that adds to it
added-to : (r : Result Unit Stop) (piece before : List ℕ) (m n : Option (List ℕ)) → m ≡ Some before → AddsToName r piece m n → (after : List ℕ) × (n ≡ Some after) × Gains r piece before after
added-to r piece before None n e h = absurd cc
added-to r piece before (Some x) None e h = absurd h
added-to r piece before (Some x) (Some y) e h = let same : x ≡ before = cc in (y, refl, gains-added r piece before y (rw (← same) h))

adds-then : (r : Result Unit Stop) (name text piece : List ℕ) (x y z : Contents) → AddsText (Ok tt) name text x y → Appends r name piece y z → AddsText r name (text ++ piece) x z
adds-then r name text piece x y z h k = record {
  named = λ before held.
      let mid = h.named before held in
      let last = added-to r piece mid.0 (y name) (z name) mid.1 k.named in
      (last.0, last.1, gains-then r text piece before mid.0 last.0 mid.2 last.2);
  others = kept-then name x y z h.others k.others;
}

adds-stopped : (e : Stop) (name text behind : List ℕ) (x z : Contents) → AddsText (Err e) name text x z → AddsText (Err e) name (text ++ behind) x z
adds-stopped e name text behind x z h = record {
  named = λ before held. let last = h.named before held in (last.0, last.1, stops_in_first e text behind before last.0 last.2);
  others = h.others;
}

pub none-added : (name : List ℕ) (o : Option Contents) → WhereTold o o (AddsText (Ok tt) name [])
none-added name o = told_same o (AddsText (Ok tt) name []) (λ x. record { named = λ before held. (before, held, rw append-nil refl); others = λ other apart. refl })

-- a line more was added
pub line-added : (name text line : List ℕ) (o m n : Option Contents) → WhereTold o m (AddsText (Ok tt) name text) → WhereTold m n (Appends (Ok tt) name line) → WhereTold o n (AddsText (Ok tt) name (text ++ line))
line-added name text line o m n h k = told_then o m n (AddsText (Ok tt) name text) (Appends (Ok tt) name line) (AddsText (Ok tt) name (text ++ line)) (adds-then (Ok tt) name text line) h k

-- a line wasn't
pub line-stopped : (e : Stop) (name text line behind : List ℕ) (o m n : Option Contents) → WhereTold o m (AddsText (Ok tt) name text) → WhereTold m n (Appends (Err e) name line)
    → WhereTold o n (AddsText (Err e) name (text ++ line ++ behind))
line-stopped e name text line behind o m n h k =
    told_then o m n (AddsText (Ok tt) name text) (Appends (Err e) name line) (AddsText (Err e) name (text ++ line ++ behind))
    (λ x y z a b. adds-stopped e name (text ++ line) behind x z (adds-then (Err e) name text line x y z a b)) h k

-- the exit of a `?`
pub adds-exit : (r : Result Unit Stop) (e : Stop) (name text : List ℕ) (o n : Option Contents) → IsErrAnd r (λ y. y ≡ e) → WhereTold o n (AddsText (Err e) name text) → WhereTold o n (AddsText r name text)
adds-exit (Ok u) e name text o n is h = absurd is
adds-exit (Err y) e name text o n is h = rw is h

-- ---- a whole text

pub not-created : (e : Stop) (name text : List ℕ) (o n : Option Contents) → WhereTold o n (Creates (Err e) name) → WhereTold o n (Writes (Err e) name text)
not-created e name text o n h = where_told o n (Creates (Err e) name) (Writes (Err e) name text) (λ x z c. record { named = emptied e (x name) (z name) c.named; others = c.others }) h
  where
    emptied : (e : Stop) (old new : Option (List ℕ)) → Empties (Err e) old new → IsWritten (Err e) text old new
    emptied Failed old new (inl h) = inl h
    emptied Failed old new (inr h) = inr (0, h)
    emptied NoMemory old new h = inl h

pub all-written : (r : Result Unit Stop) (name text : List ℕ) (o m n : Option Contents) → WhereTold o m (Creates (Ok tt) name) → WhereTold m n (AddsText r name text) → WhereTold o n (Writes r name text)
all-written r name text o m n h k =
    told_then o m n (Creates (Ok tt) name) (AddsText r name text) (Writes r name text)
    (λ x y z c a. (let last = a.named [] c.named in record { named = whole r last.0 (x name) (z name) last.1 last.2; others = kept-then name x y z c.others a.others })) h k
  where
    whole : (r : Result Unit Stop) (after : List ℕ) (old new : Option (List ℕ)) → new ≡ Some after → Gains r text [] after → IsWritten r text old new
    whole (Ok u) after old new e g = e ∙ ap Some g
    whole (Err s) after old new e g = inr (g.0, e ∙ ap Some g.1)

-- ---- what is told

pub tells-created : (name : List ℕ) (o m : Option Contents) → IsTold o → WhereTold o m (Creates (Ok tt) name) → TellsName m name
tells-created name None m t h = absurd t
tells-created name (Some x) None t h = absurd h
tells-created name (Some x) (Some y) t h = rw h.named refl

pub tells-added : (name text : List ℕ) (o m : Option Contents) → TellsName o name → WhereTold o m (AddsText (Ok tt) name text) → TellsName m name
tells-added name text None m t h = absurd t
tells-added name text (Some x) None t h = absurd h
tells-added name text (Some x) (Some y) t h = at (x name) refl t
  where
    at : (held : Option (List ℕ)) → x name ≡ held → IsSome held → IsSome (y name)
    at None e u = absurd (true≢false (sym u))
    at (Some before) e u = rw (h.named before e).1 refl

-- a name of which it is told that it holds something isn't missing
pub not-missing : (name : List ℕ) (o : Option Contents) → TellsName o name → IfSome o (λ files. files name ≡ None) → ⊥
not-missing name None t h = t
not-missing name (Some x) t h = none (x name) h t
  where
    none : (held : Option (List ℕ)) → held ≡ None → IsSome held → ⊥
    none None e u = true≢false (sym u)
    none (Some before) e u = absurd (cc)
