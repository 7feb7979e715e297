-- The pieces of an image.
use Rattle.std.proofs.Common.{◌≡◌, ℕ, zero, suc, ◌+◌, ◌-◌, ◌<◌, ◌≤◌, ◌==◌, Bool, true, false, cond, None, List, [], ◌∷◌, ◌++◌, map, get_or, length, take, drop, nat_lt, eqb, refl, sym, ◌∙◌, ⊎_elim, arith}
use Rattle.std.specs.Prelude.{All, AllPairs, filter, min, max}
use Rattle.std.specs.List.{prefix_len, range_with_len}
use Rattle.std.proofs.lemmas.Bool.{eq-eqb, ne_eqb, eqb-true, ltb-true, ltb-false, cases_lt}
use Rattle.std.proofs.lemmas.List.{append-nil, drop_more}
use Rattle.std.proofs.lemmas.List.Elements.{All-nil, All-cons, All-head, All-tail}
use Rattle.std.proofs.lemmas.List.FromFn.{filter_of_map_range_with_len_more}
use Rattle.elf_image.specs.declared.header.ProgramHeader.{ProgramHeader}
use Rattle.elf_image.specs.declared.image.Piece.{Piece}
use Rattle.elf_image.specs.Header.{header_at}
use Rattle.elf_image.specs.Image.{IsApart, IsRising, before, piece_of, pieces_at, rising}
use Rattle.elf_image.specs.declared.fault.ElfFault.TheVariants.{Overlap}
use Rattle.elf_image.specs.Fault.{first, first_overlap, overlaps}
use Rattle.elf_image.proofs.TableLemmas.{both}
use Rattle.elf_image.proofs.FaultLemmas.{when_so}
use Rattle.std.proofs.lemmas.Option.{none-some}

-- the PT_LOADs of the first i headers
abbrev pub loads_to : List ℕ → ℕ → List ProgramHeader
loads_to file i = filter (λ h. h.kind == 1) (map (header_at file) (range_with_len 0 i))

pub loads_kept : (file : List ℕ) (i : ℕ) (hs : List ProgramHeader) (h : ProgramHeader) → h ≡ header_at file i → h.kind ≡ 1 → hs ≡ loads_to file i → hs ++ h ∷ [] ≡ loads_to file (i + 1)
loads_kept file i hs h is k e =
    let one : eqb (header_at file i).kind 1 ≡ true = (λ j. eqb (sym is j).kind 1) ∙ eq-eqb h.kind 1 k in
    (λ j. e j ++ is j ∷ []) ∙ (λ j. loads_to file i ++ cond (sym one j) (header_at file i ∷ []) [])
    ∙ sym (filter_of_map_range_with_len_more (λ h. h.kind == 1) (header_at file) 0 i i (omega arith))

pub loads_skipped : (file : List ℕ) (i : ℕ) (hs : List ProgramHeader) (h : ProgramHeader) → h ≡ header_at file i → (h.kind ≡ 1 → ⊥) → hs ≡ loads_to file i → hs ≡ loads_to file (i + 1)
loads_skipped file i hs h is k e =
    let other : eqb (header_at file i).kind 1 ≡ false = (λ j. eqb (sym is j).kind 1) ∙ ne_eqb h.kind 1 k in
    e ∙ sym (append-nil (loads_to file i)) ∙ (λ j. loads_to file i ++ cond (sym other j) (header_at file i ∷ []) [])
    ∙ sym (filter_of_map_range_with_len_more (λ h. h.kind == 1) (header_at file) 0 i i (omega arith))

-- the offset in front of the first piece that doesn't begin below p
pub before-offset : (p : Piece) (ps : List Piece) → take (prefix_len (λ q. nat_lt q.at p.at) ps) ps ++ p ∷ drop (prefix_len (λ q. nat_lt q.at p.at) ps) ps ≡ before p ps
before-offset p [] = refl
before-offset p (q ∷ qs) = step (nat_lt q.at p.at) p q qs (prefix_len (λ q. nat_lt q.at p.at) qs) (before-offset p qs)
  where
    step : (t : Bool) (p q : Piece) (qs : List Piece) (n : ℕ) → take n qs ++ p ∷ drop n qs ≡ before p qs
        → take (cond t (1 + n) 0) (q ∷ qs) ++ p ∷ drop (cond t (1 + n) 0) (q ∷ qs) ≡ cond t (q ∷ before p qs) (p ∷ q ∷ qs)
    step true p q qs n e = let one : 1 + n ≡ suc n = omega arith in (λ j. take (one j) (q ∷ qs) ++ p ∷ drop (one j) (q ∷ qs)) ∙ (λ j. q ∷ e j)
    step false p q qs n e = refl

-- what holds of a piece and of each of others holds of each of them together
pub before_all : (P : Piece → Type 0) (p : Piece) (ps : List Piece) → P p → All P ps → All P (before p ps)
before_all P p [] h k = All-cons P p [] h k
before_all P p (q ∷ qs) h k = step (nat_lt q.at p.at) p q qs h k (before_all P p qs h (All-tail P q qs k))
  where
    step : (t : Bool) (p q : Piece) (qs : List Piece) → P p → All P (q ∷ qs) → All P (before p qs) → All P (cond t (q ∷ before p qs) (p ∷ q ∷ qs))
    step true p q qs h k r = All-cons P q (before p qs) (All-head P q qs k) r
    step false p q qs h k r = All-cons P p (q ∷ qs) h k

-- R holds of each piece and each later one
abbrev pub ByPairs : (Piece → Piece → Type 0) → List Piece → Type 0
ByPairs R [] = Unit {0}
ByPairs R (p ∷ ps) = All (R p) ps × ByPairs R ps

pairs : (R : Piece → Piece → Type 0) (ps : List Piece) → ByPairs R ps → AllPairs R ps
pairs R [] h i j d lt l = absurd (omega arith)
pairs R (p ∷ ps) h zero zero d lt l = absurd (omega arith)
pairs R (p ∷ ps) h zero (suc j) d lt l = h.0 j d (omega arith)
pairs R (p ∷ ps) h (suc i) zero d lt l = absurd (omega arith)
pairs R (p ∷ ps) h (suc i) (suc j) d lt l = pairs R ps h.1 i j d (omega arith) (omega arith)

Rises : Piece → Piece → Type 0
Rises p q = p.at ≤ q.at

before_rises : (p : Piece) (ps : List Piece) → ByPairs Rises ps → ByPairs Rises (before p ps)
unfolding Rises
before_rises p [] h = (All-nil (λ q. p.at ≤ q.at), tt)
before_rises p (q ∷ qs) h = step (before_rises p qs h.1) (nat_lt q.at p.at) refl
  where
    step : ByPairs Rises (before p qs) → (t : Bool) → nat_lt q.at p.at ≡ t → ByPairs Rises (cond t (q ∷ before p qs) (p ∷ q ∷ qs))
    step r true e = (before_all (λ r. q.at ≤ r.at) p qs (omega (arith, ltb-true q.at p.at e)) h.0, r)
    step r false e =
        let le = ltb-false q.at p.at e in
        (All-cons (λ r. p.at ≤ r.at) q qs le (λ k d l. omega (arith, le, h.0 k d l)), h)

all_rise : (ps : List Piece) → ByPairs Rises (rising ps)
all_rise [] = tt
all_rise (p ∷ ps) = before_rises p (rising ps) (all_rise ps)

pub rising_rises : (ps : List Piece) → IsRising (rising ps)
unfolding Rises
rising_rises ps = pairs Rises (rising ps) (all_rise ps)

-- ---- pieces apart

pub rising_all : (P : Piece → Type 0) (ps : List Piece) → All P ps → All P (rising ps)
rising_all P [] h = h
rising_all P (p ∷ ps) h = before_all P p (rising ps) (All-head P p ps h) (rising_all P ps (All-tail P p ps h))

pub apart_sym : (p q : Piece) → IsApart p q → IsApart q p
apart_sym p q h = omega arith

before_apart : (p : Piece) (ps : List Piece) → All (IsApart p) ps → ByPairs IsApart ps → ByPairs IsApart (before p ps)
before_apart p [] a h = (a, tt)
before_apart p (q ∷ qs) a h = step (nat_lt q.at p.at) (before_apart p qs (All-tail (IsApart p) q qs a) h.1)
  where
    step : (t : Bool) → ByPairs IsApart (before p qs) → ByPairs IsApart (cond t (q ∷ before p qs) (p ∷ q ∷ qs))
    step true r = (before_all (IsApart q) p qs (apart_sym p q (All-head (IsApart p) q qs a)) h.0, r)
    step false r = (a, h)

rising_apart : (ps : List Piece) → ByPairs IsApart ps → ByPairs IsApart (rising ps)
rising_apart [] h = tt
rising_apart (p ∷ ps) h = before_apart p (rising ps) (rising_all (IsApart p) ps h.0) (rising_apart ps h.1)

headers_apart : (file : List ℕ) (h k : ProgramHeader) → overlaps h k ≡ None → IsApart (piece_of file h) (piece_of file k)
headers_apart file h k e =
    let low = max h.address k.address in
    let high = min (h.address + h.memory_size) (k.address + k.memory_size) in
    ⊎_elim
    (λ lt. absurd (none-some (Overlap h.index k.index) (sym e ∙ when_so low high (Overlap h.index k.index) lt)))
    (λ le. le)
    (cases_lt low high)

each_apart : (file : List ℕ) (h : ProgramHeader) (hs : List ProgramHeader) → first (map (overlaps h) hs) ≡ None → All (IsApart (piece_of file h)) (map (piece_of file) hs)
each_apart file h [] e = All-nil (IsApart (piece_of file h))
each_apart file h (k ∷ ks) e =
    let parts = both (overlaps h k) (first (map (overlaps h) ks)) e in
    All-cons (IsApart (piece_of file h)) (piece_of file k) (map (piece_of file) ks) (headers_apart file h k parts.0) (each_apart file h ks parts.1)

all_apart : (file : List ℕ) (hs : List ProgramHeader) → first_overlap hs ≡ None → ByPairs IsApart (map (piece_of file) hs)
all_apart file [] e = tt
all_apart file (h ∷ hs) e =
    let parts = both (first (map (overlaps h) hs)) (first_overlap hs) e in
    (each_apart file h hs parts.0, all_apart file hs parts.1)

pub pieces_apart : (file : List ℕ) (hs : List ProgramHeader) → first_overlap hs ≡ None → AllPairs IsApart (rising (map (piece_of file) hs))
pieces_apart file hs e = pairs IsApart (rising (map (piece_of file) hs)) (rising_apart (map (piece_of file) hs) (all_apart file hs e))

-- ---- pieces that begin alike

-- only pieces that begin elsewhere are passed
before_at : (a : ℕ) (p : Piece) (ps : List Piece) → pieces_at a (before p ps) ≡ pieces_at a (p ∷ ps)
before_at a p [] = refl
before_at a p (q ∷ qs) = step (before_at a p qs) (nat_lt q.at p.at) refl
  where
    swap : (s t : Bool) (p q : Piece) (rs : List Piece) → (s ≡ true → t ≡ true → ⊥)
        → cond t (q ∷ cond s (p ∷ rs) rs) (cond s (p ∷ rs) rs) ≡ cond s (p ∷ cond t (q ∷ rs) rs) (cond t (q ∷ rs) rs)
    swap true true p q rs h = absurd (h refl refl)
    swap true false p q rs h = refl
    swap false t p q rs h = refl

    step : pieces_at a (before p qs) ≡ pieces_at a (p ∷ qs) → (t : Bool) → nat_lt q.at p.at ≡ t → pieces_at a (cond t (q ∷ before p qs) (p ∷ q ∷ qs)) ≡ pieces_at a (p ∷ q ∷ qs)
    step rest true e =
        (λ j. cond (eqb q.at a) (q ∷ rest j) (rest j))
        ∙ swap (eqb p.at a) (eqb q.at a) p q (pieces_at a qs) (λ s t. omega (arith, ltb-true q.at p.at e, eqb-true p.at a s, eqb-true q.at a t))
    step rest false e = refl

pub rising_at : (a : ℕ) (ps : List Piece) → pieces_at a (rising ps) ≡ pieces_at a ps
rising_at a [] = refl
rising_at a (p ∷ ps) = before_at a p (rising ps) ∙ (λ j. cond (eqb p.at a) (p ∷ rising_at a ps j) (rising_at a ps j))

-- one header more, from the last on
pub rising_more : (file : List ℕ) (hs : List ProgramHeader) (i : ℕ) (d : ProgramHeader) → 0 < i → i ≤ length hs
    → before (piece_of file (get_or hs (i - 1) d)) (rising (map (piece_of file) (drop i hs))) ≡ rising (map (piece_of file) (drop (i - 1) hs))
rising_more file hs i d pos l =
    let e : i ≡ i - 1 + 1 = omega arith in
    (λ j. before (piece_of file (get_or hs (i - 1) d)) (rising (map (piece_of file) (drop (e j) hs)))) ∙ (λ j. rising (map (piece_of file) (sym (drop_more hs (i - 1) d (omega arith)) j)))
