-- What is printed in pieces is printed as a whole.
use Rattle.std.proofs.Common.{◌≡◌, ℕ, zero, suc, ◌+◌, ◌<◌, ◌≤◌, min, List, [], ◌∷◌, ◌++◌, length, take, drop, get_or, codes, Option, Some, None, Result, Ok, Err, refl, sym, ap, subst, ◌∙◌, append_assoc, arith, inl, inr}
use Rattle.std.specs.Prelude.{IsErrOf, flat_map}
use Rattle.std.specs.Result.{IsErrAnd, result_and}
use Rattle.std.proofs.lemmas.List.{append-nil, take-append-le, take_min, take_more, take-append-drop}
use Rattle.std.proofs.Math.Seq.{take-append-add}
use Rattle.mc_shelf.specs.Fault.{Rose, WhereTold}
use Rattle.mc_shelf.specs.Sink.{Adds}
use Rattle.mc_shelf.specs.declared.sink.Stop.{Stop}
use Rattle.mc_shelf.specs.declared.sink.Stop.TheVariants.{Failed, NoMemory}
use Rattle.hex.specs.Hex.{encode_with, encode_lower}
use Rattle.mcdec_answers.specs.Printed.{register_line, register_lines}
use Rattle.mcdec_answers.specs.declared.print.Piece.{Piece}
use Rattle.mcdec_answers.specs.inner.Printing.{Gains, Prints, PrintsAnswer, piece_text, pieces_text}

-- ---- meanings that are told

pub where_told : {T : Type 0} (o n : Option T) (R S : T → T → Type 0) → ((x z : T) → R x z → S x z) → WhereTold o n R → WhereTold o n S
where_told None None R S h a = tt
where_told None (Some z) R S h a = a
where_told (Some x) None R S h a = a
where_told (Some x) (Some z) R S h a = h x z a

pub told_then : {T : Type 0} (o m n : Option T) (R S Q : T → T → Type 0) → ((x y z : T) → R x y → S y z → Q x z) → WhereTold o m R → WhereTold m n S → WhereTold o n Q
told_then None None None R S Q h a b = tt
told_then None None (Some z) R S Q h a b = b
told_then None (Some y) n R S Q h a b = absurd a
told_then (Some x) None n R S Q h a b = absurd a
told_then (Some x) (Some y) None R S Q h a b = b
told_then (Some x) (Some y) (Some z) R S Q h a b = h x y z a b

pub told_same : {T : Type 0} (o : Option T) (R : T → T → Type 0) → ((x : T) → R x x) → WhereTold o o R
told_same None R h = tt
told_same (Some x) R h = h x

-- ---- counts of faults

pub rose-later : (a b c : ℕ) → a ≤ b → Rose b c → Rose a c
rose-later a b c le (inl lt) = inl (omega arith)
rose-later a b c le (inr last) = inr last

-- ---- texts

-- a front of the first text is a front of both
pub stops_in_first : (e : Stop) (a b x z : List ℕ) → Gains (Err e) a x z → Gains (Err e) (a ++ b) x z
stops_in_first e a b x z g =
    (min g.0 (length a), g.1 ∙ ap (λ (s : List ℕ). x ++ s) (sym (take-append-le (min g.0 (length a)) a b (omega arith) ∙ take_min g.0 a)))

pub gains-then : (r : Result Unit Stop) (a b x y z : List ℕ) → Gains (Ok tt) a x y → Gains r b y z → Gains r (a ++ b) x z
gains-then (Ok u) a b x y z g h = h ∙ ap (λ (s : List ℕ). s ++ b) g ∙ append_assoc x a b
gains-then (Err e) a b x y z g h =
    (length a + h.0, h.1 ∙ ap (λ (s : List ℕ). s ++ take h.0 b) g ∙ append_assoc x a (take h.0 b) ∙ ap (λ (s : List ℕ). x ++ s) (sym (take-append-add a b h.0)))

pub gains-added : (r : Result Unit Stop) (text x z : List ℕ) → Adds r text x z → Gains r text x z
gains-added (Ok u) text x z h = h
gains-added (Err Failed) text x z h = h
gains-added (Err NoMemory) text x z h = (0, h ∙ sym (append-nil x))

-- ---- prints

pub prints-put : (r : Result Unit Stop) (text : List ℕ) (o n : Option (List ℕ)) (f g : ℕ) → WhereTold o n (Adds r text) → f ≤ g → (IsErrOf r Failed → Rose f g) → Prints r text o n f g
prints-put r text o n f g added counted cause = record { gained = where_told o n (Adds r text) (Gains r text) (gains-added r text) added; counted = counted; cause = cause }

-- the same text, written otherwise
pub prints-as : (r : Result Unit Stop) (a b : List ℕ) (o n : Option (List ℕ)) (f g : ℕ) → a ≡ b → Prints r a o n f g → Prints r b o n f g
prints-as r a b o n f g e p = subst (λ (t : List ℕ). Prints r t o n f g) e p

pub prints-nothing : (o : Option (List ℕ)) (f : ℕ) → Prints (Ok tt) [] o o f f
prints-nothing o f = record { gained = told_same o (Gains (Ok tt) []) (λ x. sym (append-nil x)); counted = omega arith; cause = λ e. absurd cc }

pub prints-then : (r : Result Unit Stop) (a b : List ℕ) (o m n : Option (List ℕ)) (f g h : ℕ) → Prints (Ok tt) a o m f g → Prints r b m n g h → Prints r (a ++ b) o n f h
prints-then r a b o m n f g h p q = record {
  gained = told_then o m n (Gains (Ok tt) a) (Gains r b) (Gains r (a ++ b)) (gains-then r a b) p.gained q.gained;
  counted = omega (arith, p.counted, q.counted);
  cause = λ e. rose-later f g h p.counted (q.cause e);
}

pub prints-stopped : (e : Stop) (a b : List ℕ) (o n : Option (List ℕ)) (f g : ℕ) → Prints (Err e) a o n f g → Prints (Err e) (a ++ b) o n f g
prints-stopped e a b o n f g p = record { gained = where_told o n (Gains (Err e) a) (Gains (Err e) (a ++ b)) (stops_in_first e a b) p.gained; counted = p.counted; cause = p.cause }

-- the exit of a `?`
pub prints-exit : (r : Result Unit Stop) (e : Stop) (text : List ℕ) (o n : Option (List ℕ)) (f g : ℕ) → IsErrAnd r (λ y. y ≡ e) → Prints (Err e) text o n f g → Prints r text o n f g
prints-exit (Ok u) e text o n f g is p = absurd is
prints-exit (Err y) e text o n f g is p = rw is p

-- a status that is given where all is printed
pub prints_answer : (r : Result Unit Stop) (status : ℕ) (result : Result ℕ Stop) (text : List ℕ) (o n : Option (List ℕ)) (f g : ℕ) → result ≡ result_and r (Ok status) → Prints r text o n f g → PrintsAnswer result (status, text) o n f g
prints_answer (Ok u) status result text o n f g e p = rw e (record { status = refl; lines = p })
prints_answer (Err y) status result text o n f g e p = rw e (record { status = tt; lines = p })

-- ---- pieces

pieces_text-append : (ps qs : List Piece) → pieces_text (ps ++ qs) ≡ pieces_text ps ++ pieces_text qs
pieces_text-append [] qs = refl
pieces_text-append (p ∷ ps) qs = ap (λ (s : List ℕ). piece_text p ++ s) (pieces_text-append ps qs) ∙ sym (append_assoc (piece_text p) (pieces_text ps) (pieces_text qs))

pieces-more : (ps : List Piece) (i : ℕ) (d : Piece) → i < length ps → pieces_text (take (i + 1) ps) ≡ pieces_text (take i ps) ++ piece_text (get_or ps i d)
pieces-more ps i d lt =
    ap pieces_text (take_more ps i d lt) ∙ pieces_text-append (take i ps) (get_or ps i d ∷ [])
    ∙ ap (λ (s : List ℕ). pieces_text (take i ps) ++ s) (append-nil (piece_text (get_or ps i d)))

pieces-split : (ps : List Piece) (i : ℕ) (d : Piece) → i < length ps → pieces_text ps ≡ (pieces_text (take i ps) ++ piece_text (get_or ps i d)) ++ pieces_text (drop (i + 1) ps)
pieces-split ps i d lt =
    ap pieces_text (sym (take-append-drop (i + 1) ps)) ∙ pieces_text-append (take (i + 1) ps) (drop (i + 1) ps)
    ∙ ap (λ (s : List ℕ). s ++ pieces_text (drop (i + 1) ps)) (pieces-more ps i d lt)

module _ (ps : List Piece) (i : ℕ) (d : Piece) (lt : i < length ps) (o m n : Option (List ℕ)) (f g h : ℕ) (front : Prints (Ok tt) (pieces_text (take i ps)) o m f g) where
  -- one piece more
  pub prints-more : Prints (Ok tt) (piece_text (get_or ps i d)) m n g h → Prints (Ok tt) (pieces_text (take (i + 1) ps)) o n f h
  prints-more next = rw (pieces-more ps i d lt) (prints-then (Ok tt) (pieces_text (take i ps)) (piece_text (get_or ps i d)) o m n f g h front next)

  -- the next piece failed
  pub prints-broken : (e : Stop) → Prints (Err e) (piece_text (get_or ps i d)) m n g h → Prints (Err e) (pieces_text ps) o n f h
  prints-broken e next =
      rw (pieces-split ps i d lt)
      (prints-stopped e (pieces_text (take i ps) ++ piece_text (get_or ps i d)) (pieces_text (drop (i + 1) ps)) o n f h
      (prints-then (Err e) (pieces_text (take i ps)) (piece_text (get_or ps i d)) o m n f g h front next))

-- the line of a run that is stuck
pub stuck-text : (steps why : List ℕ) → codes "refused stuck " ++ (steps ++ (codes " " ++ (why ++ codes "\n"))) ≡ codes "refused stuck " ++ steps ++ codes " " ++ why ++ codes "\n"
stuck-text steps why = simp append_assoc

-- the line of a program that was tested
pub test-text : (number size instructions defs steps turns value : List ℕ)
    → codes "selftest " ++ (number ++ (codes " " ++ (size ++ (codes " instructions " ++ (instructions ++ (codes " defs " ++ (defs ++ (codes " steps " ++ (steps ++ (codes " turns " ++ (turns ++ (codes " x10 " ++ (value ++ codes "\n")))))))))))))
    ≡ codes "selftest " ++ number ++ codes " " ++ size ++ codes " instructions " ++ instructions ++ codes " defs " ++ defs ++ codes " steps " ++ steps ++ codes " turns " ++ turns ++ codes " x10 " ++ value ++ codes "\n"
test-text number size instructions defs steps turns value = simp append_assoc

-- the line of a name that was decompiled
pub listed-text : (word name entry reached defs : List ℕ) → word ++ (name ++ (codes " " ++ (entry ++ (codes " " ++ (reached ++ (codes " " ++ (defs ++ codes "\n")))))))
    ≡ word ++ name ++ codes " " ++ entry ++ codes " " ++ reached ++ codes " " ++ defs ++ codes "\n"
listed-text word name entry reached defs = simp append_assoc

-- ---- lines of registers

lines-more : (k : ℕ) (rs ws : List ℕ) (r w : ℕ) → k < length rs → k < length ws → r ≡ get_or rs k 0 → w ≡ get_or ws k 0
    → register_lines (take (suc k) rs) (take (suc k) ws) ≡ register_lines (take k rs) (take k ws) ++ register_line r w
lines-more k [] ws r w lr lw er ew = absurd (omega arith)
lines-more k (x ∷ rs) [] r w lr lw er ew = absurd (omega arith)
lines-more zero (x ∷ rs) (y ∷ ws) r w lr lw er ew = append-nil (register_line x y) ∙ (λ i. register_line (sym er i) (sym ew i))
lines-more (suc k) (x ∷ rs) (y ∷ ws) r w lr lw er ew =
    ap (λ (s : List ℕ). register_line x y ++ s) (lines-more k rs ws r w (omega arith) (omega arith) er ew)
    ∙ sym (append_assoc (register_line x y) (register_lines (take k rs) (take k ws)) (register_line r w))

lines-split : (k : ℕ) (rs ws : List ℕ) → k ≤ length rs → k ≤ length ws → register_lines rs ws ≡ register_lines (take k rs) (take k ws) ++ register_lines (drop k rs) (drop k ws)
lines-split zero rs ws lr lw = refl
lines-split (suc k) [] ws lr lw = absurd (omega arith)
lines-split (suc k) (x ∷ rs) [] lr lw = absurd (omega arith)
lines-split (suc k) (x ∷ rs) (y ∷ ws) lr lw =
    ap (λ (s : List ℕ). register_line x y ++ s) (lines-split k rs ws (omega arith) (omega arith))
    ∙ sym (append_assoc (register_line x y) (register_lines (take k rs) (take k ws)) (register_lines (drop k rs) (drop k ws)))

pub lines-all : (k : ℕ) (rs ws : List ℕ) → k ≡ min (length rs) (length ws) → register_lines (take k rs) (take k ws) ≡ register_lines rs ws
lines-all k [] ws e = let z : k ≡ 0 = omega arith in (λ i. register_lines (take (z i) []) (take (z i) ws))
lines-all k (x ∷ rs) [] e = let z : k ≡ 0 = omega arith in (λ i. register_lines (take (z i) (x ∷ rs)) (take (z i) []))
lines-all zero (x ∷ rs) (y ∷ ws) e = absurd (omega arith)
lines-all (suc k) (x ∷ rs) (y ∷ ws) e = ap (λ (s : List ℕ). register_line x y ++ s) (lines-all k rs ws (omega arith))

module _ (rs ws : List ℕ) (k r w : ℕ) (lr : k < length rs) (lw : k < length ws) (er : r ≡ get_or rs k 0) (ew : w ≡ get_or ws k 0) (o m n : Option (List ℕ)) (f g h : ℕ)
    (front : Prints (Ok tt) (register_lines (take k rs) (take k ws)) o m f g) where
  -- the line of one register more
  pub registers-more : (j : ℕ) → j ≡ suc k → Prints (Ok tt) (register_line r w) m n g h → Prints (Ok tt) (register_lines (take j rs) (take j ws)) o n f h
  registers-more j e next =
      subst (λ (t : List ℕ). Prints (Ok tt) t o n f h) (sym (lines-more k rs ws r w lr lw er ew) ∙ (λ i. register_lines (take (sym e i) rs) (take (sym e i) ws)))
      (prints-then (Ok tt) (register_lines (take k rs) (take k ws)) (register_line r w) o m n f g h front next)

  -- the line of the next register failed
  pub registers-broken : (e : Stop) → Prints (Err e) (register_line r w) m n g h → Prints (Err e) (register_lines rs ws) o n f h
  registers-broken e next =
      subst (λ (t : List ℕ). Prints (Err e) t o n f h)
      (ap (λ (s : List ℕ). s ++ register_lines (drop (suc k) rs) (drop (suc k) ws)) (sym (lines-more k rs ws r w lr lw er ew)) ∙ sym (lines-split (suc k) rs ws (omega arith) (omega arith)))
      (prints-stopped e (register_lines (take k rs) (take k ws) ++ register_line r w) (register_lines (drop (suc k) rs) (drop (suc k) ws)) o n f h
      (prints-then (Err e) (register_lines (take k rs) (take k ws)) (register_line r w) o m n f g h front next))

-- ---- texts of items

module _ {X : Type 0} (text : X → List ℕ) where
  each-append : (xs ys : List X) → flat_map text (xs ++ ys) ≡ flat_map text xs ++ flat_map text ys
  each-append [] ys = refl
  each-append (x ∷ xs) ys = ap (λ (s : List ℕ). text x ++ s) (each-append xs ys) ∙ sym (append_assoc (text x) (flat_map text xs) (flat_map text ys))

  each-more : (xs : List X) (i : ℕ) (d : X) → i < length xs → flat_map text (take (i + 1) xs) ≡ flat_map text (take i xs) ++ text (get_or xs i d)
  each-more xs i d lt =
      ap (flat_map text) (take_more xs i d lt) ∙ each-append (take i xs) (get_or xs i d ∷ [])
      ∙ ap (λ (s : List ℕ). flat_map text (take i xs) ++ s) (append-nil (text (get_or xs i d)))

  each-split : (xs : List X) (i : ℕ) (d : X) → i < length xs → flat_map text xs ≡ (flat_map text (take i xs) ++ text (get_or xs i d)) ++ flat_map text (drop (i + 1) xs)
  each-split xs i d lt =
      ap (flat_map text) (sym (take-append-drop (i + 1) xs)) ∙ each-append (take (i + 1) xs) (drop (i + 1) xs)
      ∙ ap (λ (s : List ℕ). s ++ flat_map text (drop (i + 1) xs)) (each-more xs i d lt)

  module _ (xs : List X) (i : ℕ) (d : X) (lt : i < length xs) (o m n : Option (List ℕ)) (f g h : ℕ) (front : Prints (Ok tt) (flat_map text (take i xs)) o m f g) where
    -- one item more
    pub items-more : Prints (Ok tt) (text (get_or xs i d)) m n g h → Prints (Ok tt) (flat_map text (take (i + 1) xs)) o n f h
    items-more next = prints-as (Ok tt) _ _ o n f h (sym (each-more xs i d lt)) (prints-then (Ok tt) (flat_map text (take i xs)) (text (get_or xs i d)) o m n f g h front next)

    -- the next item failed
    pub items-broken : (e : Stop) → Prints (Err e) (text (get_or xs i d)) m n g h → Prints (Err e) (flat_map text xs) o n f h
    items-broken e next =
        prints-as (Err e) _ _ o n f h (sym (each-split xs i d lt))
        (prints-stopped e (flat_map text (take i xs) ++ text (get_or xs i d)) (flat_map text (drop (i + 1) xs)) o n f h (prints-then (Err e) (flat_map text (take i xs)) (text (get_or xs i d)) o m n f g h front next))

-- the digits of each byte
abbrev pub byte_text : ℕ → List ℕ
byte_text b = encode_lower (b ∷ [])

pub encode-each : (bs : List ℕ) → flat_map byte_text bs ≡ encode_lower bs
unfolding encode_with
encode-each [] = refl
encode-each (b ∷ bs) = ap (λ (s : List ℕ). byte_text b ++ s) (encode-each bs)
