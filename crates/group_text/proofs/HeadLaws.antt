-- The lines of a group's head and the line of a definition are read as they are spelled.
use Rattle.std.proofs.Common.{◌≡◌, ℕ, ◌+◌, ◌^◌, ◌<◌, ◌≤◌, Bool, true, false, cond, List, [], ◌∷◌, ◌++◌, length, codes, Option, Some, None, refl, ap, subst, arith}
use Rattle.std.specs.Prelude.{◌&&◌, nat_le, option_map}
use Rattle.std.specs.List.{AllByRecursion, flat_map}
use Rattle.std.specs.Str.{bytes_eq}
use Rattle.std.specs.Fmt.{decimal}
use Rattle.std.proofs.lemmas.Bool.Decides.{nat_tests}
use Rattle.std.proofs.lemmas.Slice.Eq.{bytes_eq-Decides}
use Rattle.mc_text.specs.Number.{IsNumber, AreSomeBytes, hex, hex_of}
use Rattle.mc_text.specs.Tokens.{Tok, Atom, Eol, is_atom_byte, IsAtom}
use Rattle.mc_text.specs.Reading.{Reader, pair, one, atom_of, star, goes_on, address_at, is_open}
use Rattle.mc_text.specs.inner.Reading.{eol, word, checked, number_at}
use Rattle.mc_text.proofs.Atoms.{IsAtomText, atom-text, text-atom}
use Rattle.mc_text.proofs.ReaderLaws.{Reads, StaysFlat, IsFlat, flat-append, Reads-one, Reads-pair}
use Rattle.mc_text.proofs.Star.{Shrinks}
use Rattle.mc_text.proofs.Inline.{reads-list}
use Rattle.mc_text.proofs.Choices.{reads-as}
use Rattle.mc_text.proofs.Closed.{reads-closed}
use Rattle.mc_text.proofs.Shown.{Always, shows-atom, shows-hex}
use Rattle.rv_words.specs.Ranges.{AreRanges, AreRangesFrom}
use Rattle.rv_words.specs.declared.range.Range.{Range}
use Rattle.group_text.specs.TermLimits.{IsRange}
use Rattle.group_text.specs.TermSpelling.{range_tokens}
use Rattle.group_text.specs.TermReading.{range_at}
use Rattle.group_text.proofs.TermFacts.{range-flat}
use Rattle.group_text.proofs.TermLaws.{range-law, range-shrinks}
use Rattle.tailrec_lang.specs.declared.group.Exit.{Exit}
use Rattle.tailrec_lang.specs.declared.group.Exit.TheVariants.{At, Ret}
use Rattle.tailrec_lang.specs.Registers.{AreRegistersFrom}
use Rattle.group_text.specs.Limits.{IsExit, def_exit_limit, returns, IsName}
use Rattle.group_text.specs.Version.{Version}
use Rattle.group_text.specs.Spelling.{number, address, exit_tokens}
use Rattle.group_text.specs.inner.Reading.{exit_of, has_atom, are_few_exits, def_row, are_atom_bytes, is_name, name_of, registers_rise, ranges_rise, regs_row, mems_limit, has_mems, mems_row, code_row}
use Rattle.group_text.proofs.StepLaws.{shrinks, atom-flat, name-law, number-law, address-law, eol-law}

-- a list of items that all lie in a line
pub flat-each : {X : Type 0} (F : X → Type 0) (t : X → List Tok) → StaysFlat F t → StaysFlat (AllByRecursion F) (flat_map t)
flat-each F t flat [] h = tt
flat-each F t flat (x ∷ xs) h = flat-append (t x) (flat_map t xs) (flat x h.0) (flat-each F t flat xs h.1)

-- a line of items that pass a test
row-of : {X : Type 0} (go : Tok → Bool) (r : Reader X) (F : X → Type 0) (t : X → List Tok) (test : List X → Bool) (G : List X → Type 0) → Reads r F t → Shrinks r → StaysFlat F t → ((x : X) → F x → (us : List Tok) → goes_on go (t x ++ us) ≡ true) → go Eol ≡ false
    → ((xs : List X) → AllByRecursion F xs → test xs ≡ true → G xs) → ((xs : List X) → G xs → AllByRecursion F xs × (test xs ≡ true)) → Reads (pair (checked test (star go r)) eol) (λ p. G p.0 × Always p.1) (λ p. flat_map t p.0 ++ Eol ∷ [])
row-of {X} go r F t test G law small flat heads quiet up down =
    reads-as (pair (checked test (star go r)) eol) (λ p. (AllByRecursion F p.0 × (test p.0 ≡ true)) × Unit {0}) (λ p. G p.0 × Always p.1) (λ p. flat_map t p.0 ++ Eol ∷ [])
    (reads-closed test (star go r) (AllByRecursion F) (flat_map t) (reads-list go r small F t law flat heads eol Always (λ _. Eol ∷ []) eol-law (λ y h us. quiet)) (flat-each F t flat))
    (λ p h. (up p.0 h.0.0 h.0.1, tt)) (λ p h. (down p.0 h.0, tt))

-- ---- tests

both-true : (a b : Bool) → (a && b) ≡ true → (a ≡ true) × (b ≡ true)
both-true true true e = (refl, refl)
both-true true false e = absurd cc
both-true false b e = absurd cc

true-both : (a b : Bool) → a ≡ true → b ≡ true → (a && b) ≡ true
true-both a b e f = rw (e, f) refl

pub le-true : (m n : ℕ) → nat_le m n ≡ true → m ≤ n
le-true m n h = grind (arith, nat_tests)

pub true-le : (m n : ℕ) → m ≤ n → nat_le m n ≡ true
true-le m n h = grind (arith, nat_tests)

-- ---- exits

abbrev exit_name : Exit → List ℕ
exit_name (At a) = hex a
exit_name Ret = codes "ret"

abbrev some : {X : Type 0} → X → Option X
some x = Some x

abbrev choose : List ℕ → Bool → Option Exit
choose a v = cond v (Some Ret) (option_map At (hex_of a))

pub hex-there : (a : List ℕ) (n : ℕ) → hex_of a ≡ Some n → (a ≡ hex n) × IsNumber n
hex-there a n e = let h = shows-hex.there (Atom a) n e in (same a (hex n) h.0, h.1)
  where
    same : (a b : List ℕ) → Atom a ≡ Atom b → a ≡ b
    same a b e = cc

address-there : (a : List ℕ) (o : Option ℕ) (x : Exit) → hex_of a ≡ o → option_map At o ≡ some x → (a ≡ exit_name x) × IsExit x
address-there a (Some n) x e h = let k = hex-there a n e in subst (λ (y : Exit). (a ≡ exit_name y) × IsExit y) (same n x h) k
  where
    same : (n : ℕ) (x : Exit) → some (At n) ≡ some x → At n ≡ x
    same n x h = cc
address-there a None x e h = absurd cc

exit-chosen : (a : List ℕ) (v : Bool) (x : Exit) → bytes_eq a (codes "ret") ≡ v → choose a v ≡ some x → (a ≡ exit_name x) × IsExit x
exit-chosen a true x e h = subst (λ (y : Exit). (a ≡ exit_name y) × IsExit y) (same x h) ((bytes_eq-Decides a (codes "ret")).0 e, tt)
  where
    same : (x : Exit) → some Ret ≡ some x → Ret ≡ x
    same x h = cc
exit-chosen a false x e h = address-there a (hex_of a) x refl h

exit-there : (a : List ℕ) (x : Exit) → exit_of a ≡ Some x → (a ≡ exit_name x) × IsExit x
unfolding exit_of
exit-there a x e = exit-chosen a (bytes_eq a (codes "ret")) x refl e

exit-back : (x : Exit) → IsExit x → exit_of (exit_name x) ≡ Some x
unfolding exit_of
exit-back (At a) h = ap (option_map At) (shows-hex.back a h)
exit-back Ret h = refl

exit-same : (x : Exit) → Atom (exit_name x) ∷ [] ≡ exit_tokens x
exit-same (At a) = refl
exit-same Ret = refl

exit-law : Reads (one (atom_of exit_of)) IsExit exit_tokens
exit-law = subst (λ (t : Exit → List Tok). Reads (one (atom_of exit_of)) IsExit t) (λ i. λ x. exit-same x i) (Reads-one (atom_of exit_of) IsExit (λ x. Atom (exit_name x)) (shows-atom exit_of IsExit exit_name exit-there exit-back))

exit-flat : (x : Exit) → IsExit x → IsFlat (exit_tokens x)
exit-flat (At a) h = atom-flat (hex a)
exit-flat Ret h = atom-flat (codes "ret")

exit-begins : (x : Exit) → IsExit x → (us : List Tok) → goes_on has_atom (exit_tokens x ++ us) ≡ true
exit-begins (At a) h us = refl
exit-begins Ret h us = refl

some-exit : (x : Exit) → 0 < length (exit_tokens x)
some-exit (At a) = omega arith
some-exit Ret = omega arith

pub exit-shrinks : Shrinks (one (atom_of exit_of))
exit-shrinks = shrinks (one (atom_of exit_of)) IsExit exit_tokens exit-law.takes (λ x h. some-exit x)

abbrev pub AreExits : List Exit → Type 0
AreExits xs = AllByRecursion IsExit xs × ((length xs ≤ def_exit_limit) × (returns xs ≤ 1))

pub def-row-law : Reads def_row (λ p. IsNumber p.0 × (AreExits p.1.0 × Always p.1.1)) (λ p. address p.0 ++ (flat_map exit_tokens p.1.0 ++ Eol ∷ []))
unfolding def_row
def-row-law = Reads-pair address_at IsNumber address address-law (λ n h. atom-flat (hex n)) _ _ _
    (row-of has_atom (one (atom_of exit_of)) IsExit exit_tokens are_few_exits AreExits exit-law exit-shrinks exit-flat exit-begins refl
    (λ xs h e. let k = both-true (nat_le (length xs) def_exit_limit) (nat_le (returns xs) 1) e in (h, (le-true (length xs) def_exit_limit k.0, le-true (returns xs) 1 k.1)))
    (λ xs h. (h.0, true-both (nat_le (length xs) def_exit_limit) (nat_le (returns xs) 1) (true-le (length xs) def_exit_limit h.1.0) (true-le (returns xs) 1 h.1.1))))

-- ---- names

text-there : (a : List ℕ) → are_atom_bytes a ≡ true → IsAtomText a
text-there [] e = tt
text-there (b ∷ bs) e = let k = both-true (is_atom_byte b) (are_atom_bytes bs) e in (k.0, text-there bs k.1)

text-back : (a : List ℕ) → IsAtomText a → are_atom_bytes a ≡ true
text-back [] h = refl
text-back (b ∷ bs) h = true-both (is_atom_byte b) (are_atom_bytes bs) h.0 (text-back bs h.1)

atom-there : (a : List ℕ) → 1 ≤ length a → IsAtomText a → IsAtom a
atom-there [] le h = absurd (omega (arith, le))
atom-there (b ∷ bs) le h = text-atom (b ∷ bs) (λ e. absurd cc) h

atom-length : (a : List ℕ) → IsAtom a → 1 ≤ length a
atom-length [] h = absurd (h.0 refl)
atom-length (b ∷ bs) h = omega arith

name-true : (a : List ℕ) → is_name a ≡ true → IsName a
name-true a e =
    let k = both-true (nat_le 1 (length a) && nat_le (length a) 4096) (are_atom_bytes a) e in
    let l = both-true (nat_le 1 (length a)) (nat_le (length a) 4096) k.0 in
    (atom-there a (le-true 1 (length a) l.0) (text-there a k.1), le-true (length a) 4096 l.1)

true-name : (a : List ℕ) → IsName a → is_name a ≡ true
true-name a h =
    true-both (nat_le 1 (length a) && nat_le (length a) 4096) (are_atom_bytes a)
    (true-both (nat_le 1 (length a)) (nat_le (length a) 4096) (true-le 1 (length a) (atom-length a h.0)) (true-le (length a) 4096 h.1)) (text-back a (atom-text a h.0))

name-chosen : (a : List ℕ) (v : Bool) (x : List ℕ) → is_name a ≡ v → cond v (some a) None ≡ some x → (a ≡ x) × IsName x
name-chosen a true x e h = let same : a ≡ x = cc in (same, subst IsName same (name-true a e))
name-chosen a false x e h = absurd cc

name-there : (a x : List ℕ) → name_of a ≡ Some x → (a ≡ x) × IsName x
unfolding name_of
name-there a x e = name-chosen a (is_name a) x refl e

name-back : (x : List ℕ) → IsName x → name_of x ≡ Some x
unfolding name_of
name-back x h = ap (λ (v : Bool). cond v (some x) None) (true-name x h)

pub group-name-law : Reads (one (atom_of name_of)) IsName (λ a. Atom a ∷ [])
group-name-law = Reads-one (atom_of name_of) IsName (λ a. Atom a) (shows-atom name_of IsName (λ a. a) name-there name-back)

-- ---- registers, memories, code

pub rising-true : (least : ℕ) (rs : List ℕ) → registers_rise least rs ≡ true → AreRegistersFrom least rs
rising-true least [] e = tt
rising-true least (r ∷ rs) e =
    let k = both-true (nat_le least r && nat_le r 31) (registers_rise (r + 1) rs) e in
    let l = both-true (nat_le least r) (nat_le r 31) k.0 in
    (le-true least r l.0, le-true r 31 l.1, rising-true (r + 1) rs k.1)

pub true-rising : (least : ℕ) (rs : List ℕ) → AreRegistersFrom least rs → AllByRecursion (λ n. n < 32) rs × (registers_rise least rs ≡ true)
true-rising least [] h = (tt, refl)
true-rising least (r ∷ rs) h =
    let k = true-rising (r + 1) rs h.2 in
    ((omega (arith, h.1), k.0), true-both (nat_le least r && nat_le r 31) (registers_rise (r + 1) rs) (true-both (nat_le least r) (nat_le r 31) (true-le least r h.0) (true-le r 31 h.1)) k.1)

pub small-number-shrinks : (limit : ℕ) → limit ≤ 2 ^ 64 → Shrinks (number_at limit)
small-number-shrinks limit le = shrinks (number_at limit) (λ n. n < limit) number (number-law limit le).takes (λ n h. omega arith)

pub regs-law : Reads regs_row (λ p. Always p.0 × (AreRegistersFrom 1 p.1.0 × Always p.1.1)) (λ p. Atom (codes "regs") ∷ (flat_map number p.1.0 ++ Eol ∷ []))
unfolding regs_row
regs-law = Reads-pair (word (codes "regs")) Always (λ _. Atom (codes "regs") ∷ []) (name-law (codes "regs")) (λ x h. atom-flat (codes "regs")) _ _ _
    (row-of has_atom (number_at 32) (λ n. n < 32) number (registers_rise 1) (AreRegistersFrom 1) (number-law 32 (omega arith)) (small-number-shrinks 32 (omega arith)) (λ n h. atom-flat (decimal n)) (λ n h us. refl) refl
    (λ rs h e. rising-true 1 rs e) (true-rising 1))

-- a group of that version may have so many memories
abbrev pub HasMems : Version → ℕ → Type 0
HasMems ver n = (ver.least_mems ≤ n) × (n ≤ ver.most_mems)

pub mems-law : (ver : Version) → ver.most_mems < mems_limit → Reads (mems_row ver) (λ p. Always p.0 × (HasMems ver p.1.0 × Always p.1.1)) (λ p. Atom (codes "mems") ∷ (number p.1.0 ++ Eol ∷ []))
unfolding mems_row
mems-law ver small = Reads-pair (word (codes "mems")) Always (λ _. Atom (codes "mems") ∷ []) (name-law (codes "mems")) (λ x h. atom-flat (codes "mems")) _ _ _
    (reads-as (pair (checked (has_mems ver) (number_at mems_limit)) eol) (λ p. ((p.0 < mems_limit) × (has_mems ver p.0 ≡ true)) × Unit {0}) (λ p. HasMems ver p.0 × Always p.1) (λ p. number p.0 ++ Eol ∷ [])
    (reads-closed (has_mems ver) (number_at mems_limit) (λ n. n < mems_limit) number
    (Reads-pair (number_at mems_limit) (λ n. n < mems_limit) number (number-law mems_limit (omega arith)) (λ n h. atom-flat (decimal n)) eol Always (λ _. Eol ∷ []) eol-law) (λ n h. atom-flat (decimal n)))
    (λ p h. let k = both-true (nat_le ver.least_mems p.0) (nat_le p.0 ver.most_mems) h.0.1 in ((le-true ver.least_mems p.0 k.0, le-true p.0 ver.most_mems k.1), tt))
    (λ p h. ((omega (arith, h.0.1, small), true-both (nat_le ver.least_mems p.0) (nat_le p.0 ver.most_mems) (true-le ver.least_mems p.0 h.0.0) (true-le p.0 ver.most_mems h.0.1)), tt)))

abbrev pub HasBytes : Range → Type 0
HasBytes r = AllByRecursion (λ b. b < 256) r.bytes

abbrev pub IsCode : List Range → Type 0
IsCode rs = AreRanges rs × AllByRecursion HasBytes rs

some-bytes : (bs : List ℕ) → AreSomeBytes bs → 0 < length bs
some-bytes [] h = absurd (h.0 refl)
some-bytes (b ∷ bs) h = omega arith

pub not-empty : (bs : List ℕ) → 0 < length bs → bs ≡ [] → ⊥
not-empty bs lt e = let len : length bs ≡ 0 = ap length e in omega (arith, lt, len)

pub code-true : (least : ℕ) (rs : List Range) → AllByRecursion IsRange rs → ranges_rise least rs ≡ true → AreRangesFrom least rs × AllByRecursion HasBytes rs
code-true least [] h e = (tt, tt)
code-true least (r ∷ rs) h e =
    let k = both-true (nat_le least r.at && nat_le (r.at + length r.bytes) (2 ^ 64)) (ranges_rise (r.at + length r.bytes + 1) rs) e in
    let l = both-true (nat_le least r.at) (nat_le (r.at + length r.bytes) (2 ^ 64)) k.0 in
    let m = code-true (r.at + length r.bytes + 1) rs h.1 k.1 in
    ((le-true least r.at l.0, some-bytes r.bytes h.0.1, le-true (r.at + length r.bytes) (2 ^ 64) l.1, m.0), (h.0.1.1, m.1))

pub true-code : (least : ℕ) (rs : List Range) → AreRangesFrom least rs → AllByRecursion HasBytes rs → AllByRecursion IsRange rs × (ranges_rise least rs ≡ true)
true-code least [] h bytes = (tt, refl)
true-code least (r ∷ rs) h bytes =
    let m = true-code (r.at + length r.bytes + 1) rs h.3 bytes.1 in (
      ((omega (arith, h.1, h.2), (not-empty r.bytes h.1, bytes.0)), m.0),
      true-both (nat_le least r.at && nat_le (r.at + length r.bytes) (2 ^ 64)) (ranges_rise (r.at + length r.bytes + 1) rs)
          (true-both (nat_le least r.at) (nat_le (r.at + length r.bytes) (2 ^ 64)) (true-le least r.at h.0) (true-le (r.at + length r.bytes) (2 ^ 64) h.2)) m.1,
    )

pub code-law : Reads code_row (λ p. Always p.0 × (IsCode p.1.0 × Always p.1.1)) (λ p. Atom (codes "code") ∷ (flat_map range_tokens p.1.0 ++ Eol ∷ []))
unfolding code_row
code-law = Reads-pair (word (codes "code")) Always (λ _. Atom (codes "code") ∷ []) (name-law (codes "code")) (λ x h. atom-flat (codes "code")) _ _ _
    (row-of is_open range_at IsRange range_tokens (ranges_rise 0) IsCode range-law range-shrinks (λ r h. range-flat r) (λ r h us. refl) refl
    (λ rs h e. code-true 0 rs h e) (λ rs h. true-code 0 rs h.0 h.1))

pub register-shrinks : Shrinks (number_at 32)
register-shrinks = small-number-shrinks 32 (omega arith)
