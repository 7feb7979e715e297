-- Bytes in pieces that are below a limit.
use Rattle.std.proofs.Common.{◌≡◌, ℕ, zero, suc, ◌+◌, ◌-◌, ◌<◌, ◌≤◌, Option, Some, None, List, [], ◌∷◌, length, get_or, drop, sym, ap, ◌∙◌, ⊎_elim, arith}
use Rattle.std.specs.Option.{option_or}
use Rattle.std.specs.List.{slice_get}
use Rattle.std.proofs.lemmas.Bool.{cases_lt}
use Rattle.std.proofs.lemmas.List.{drop_more, drop_all}
use Rattle.std.proofs.lemmas.Option.{slice_get-get_or}
use Rattle.rv_words.specs.declared.pieces.Piece.{Piece}
use Rattle.rv_words.specs.Bytes.{bytes_from}
use Rattle.rv_words.specs.Limits.{AreBytesBelow}
use Rattle.rv_words.specs.inner.Pieces.{end, ArePiecesFrom, ArePieces, bytes_in}
use Rattle.rv_words.proofs.PieceLemmas.{bytes_before, bytes_within, bytes_past}

-- the first i items are below the limit
abbrev pub BelowTo : ℕ → List ℕ → ℕ → Type 0
BelowTo limit bs i = (k b : ℕ) → k < i → slice_get bs k ≡ Some b → b < limit

pub below_to_more : (limit : ℕ) (bs : List ℕ) (i d : ℕ) → i < length bs → get_or bs i d < limit → BelowTo limit bs i → BelowTo limit bs (i + 1)
below_to_more limit bs i d lt small h k b l e = ⊎_elim (λ before. h k b before e) here (cases_lt k i)
  where
    here : i ≤ k → b < limit
    here le =
        let at : k ≡ i = omega arith in
        let same : Some b ≡ Some (get_or bs i d) = sym e ∙ ap (slice_get bs) at ∙ slice_get-get_or bs i d lt in
        let is : b ≡ get_or bs i d = cc in omega arith

some-below : (bs : List ℕ) (k b : ℕ) → slice_get bs k ≡ Some b → k < length bs
some-below [] k b e = absurd (cc)
some-below (x ∷ xs) zero b e = omega arith
some-below (x ∷ xs) (suc k) b e = let h : k < length xs = some-below xs k b e in omega arith

pub below_all : (limit : ℕ) (bs : List ℕ) (i : ℕ) → length bs ≤ i → BelowTo limit bs i → (k b : ℕ) → slice_get bs k ≡ Some b → b < limit
below_all limit bs i le h k b e = let lt : k < length bs = some-below bs k b e in h k b (omega arith) e

pub not_below : (limit : ℕ) (bs : List ℕ) (i d : ℕ) → i < length bs → limit ≤ get_or bs i d → ((k b : ℕ) → slice_get bs k ≡ Some b → b < limit) → ⊥
not_below limit bs i d lt le h = let s : get_or bs i d < limit = h i (get_or bs i d) (slice_get-get_or bs i d lt) in absurd (omega arith)

-- ---- pieces

begun : (at a b : ℕ) (bs : List ℕ) → bytes_from at bs a ≡ Some b → at ≤ a
begun at a b bs e = ⊎_elim (λ lt. let none = bytes_before at bs a lt in absurd (cc)) (λ le. le) (cases_lt a at)

below-from : (limit at : ℕ) (bs : List ℕ) → ((k b : ℕ) → slice_get bs k ≡ Some b → b < limit) → AreBytesBelow limit (bytes_from at bs)
below-from limit at bs h a b e = h (a - at) b (sym (bytes_within at bs a (begun at a b bs e)) ∙ e)

either : (limit b : ℕ) (x y : Option ℕ) → option_or x y ≡ Some b → (x ≡ Some b → b < limit) → (y ≡ Some b → b < limit) → b < limit
either limit b None y e f g = g e
either limit b (Some x) y e f g = f e

-- if those from the i-th piece on are below the limit, all are
pub record BelowFrom (limit : ℕ) (ps : List Piece) (i : ℕ) : Type 0 where
  pub left : AreBytesBelow limit (bytes_in (drop i ps)) → AreBytesBelow limit (bytes_in ps)

pub below_first : (limit : ℕ) (ps : List Piece) → BelowFrom limit ps 0
below_first limit ps = record { left = λ h. h }

pub below_more : (limit : ℕ) (ps : List Piece) (i : ℕ) (p : Piece) → i < length ps → p ≡ get_or ps i p → ((k b : ℕ) → slice_get p.bytes.items k ≡ Some b → b < limit) → BelowFrom limit ps i → BelowFrom limit ps (i + 1)
below_more limit ps i p lt is small h = record {
  left = λ rest. h.left (λ a b e.
      let split : drop i ps ≡ p ∷ drop (i + 1) ps = drop_more ps i p lt ∙ (λ j. sym is j ∷ drop (i + 1) ps) in
      either limit b (bytes_from p.at p.bytes.items a) (bytes_in (drop (i + 1) ps) a) (sym (λ j. bytes_in (split j) a) ∙ e) (below-from limit p.at p.bytes.items small a b) (rest a b));
}

pub below_done : (limit : ℕ) (ps : List Piece) (i : ℕ) → length ps ≤ i → BelowFrom limit ps i → AreBytesBelow limit (bytes_in ps)
below_done limit ps i le h = h.left (λ a b e. let none : bytes_in (drop i ps) a ≡ None = λ j. bytes_in (drop_all i ps le j) a in absurd (cc))

at-least : (least : ℕ) (ps : List Piece) (i : ℕ) (p : Piece) → ArePiecesFrom least ps → i < length ps → p ≡ get_or ps i p → least ≤ p.at
at-least least [] i p rise lt is = absurd (omega arith)
at-least least (q ∷ qs) zero p rise lt is = let same : p.at ≡ q.at = λ j. (is j).at in omega (arith, rise.0)
at-least least (q ∷ qs) (suc i) p rise lt is = let h : end q ≤ p.at = at-least (end q) qs i p rise.3 (omega arith) is in omega (arith, rise.0)

there : (least : ℕ) (ps : List Piece) (i : ℕ) (p : Piece) (a b : ℕ) → ArePiecesFrom least ps → i < length ps → p ≡ get_or ps i p → bytes_from p.at p.bytes.items a ≡ Some b → bytes_in ps a ≡ Some b
there least [] i p a b rise lt is e = absurd (omega arith)
there least (q ∷ qs) zero p a b rise lt is e = ap (λ (o : Option ℕ). option_or o (bytes_in qs a)) ((λ j. bytes_from (sym is j).at (sym is j).bytes.items a) ∙ e)
there least (q ∷ qs) (suc i) p a b rise lt is e =
    let far : end q ≤ p.at = at-least (end q) qs i p rise.3 (omega arith) is in
    let on : p.at ≤ a = begun p.at a b p.bytes.items e in
    ap (λ (o : Option ℕ). option_or o (bytes_in qs a)) (bytes_past q.at q.bytes.items a (omega arith)) ∙ there (end q) qs i p a b rise.3 (omega arith) is e

same-place : (at : ℕ) (bs : List ℕ) (k b : ℕ) → slice_get bs k ≡ Some b → bytes_from at bs (at + k) ≡ Some b
same-place at bs k b e = let le : at ≤ at + k = omega arith in let same : at + k - at ≡ k = omega arith in bytes_within at bs (at + k) le ∙ ap (slice_get bs) same ∙ e

pub below_not : (limit : ℕ) (ps : List Piece) (i : ℕ) (p : Piece) → ArePieces ps → i < length ps → p ≡ get_or ps i p → (((k b : ℕ) → slice_get p.bytes.items k ≡ Some b → b < limit) → ⊥) → AreBytesBelow limit (bytes_in ps) → ⊥
below_not limit ps i p rise lt is large h = large (λ k b e. h (p.at + k) b (there 0 ps i p (p.at + k) b rise lt is (same-place p.at p.bytes.items k b e)))
