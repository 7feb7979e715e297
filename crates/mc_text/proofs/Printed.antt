-- What is printed in parts is printed as a whole, and is the spelling.
use Rattle.std.proofs.Common.{◌≡◌, ℕ, suc, ◌+◌, ◌<◌, ◌≤◌, List, [], ◌∷◌, ◌++◌, length, map, drop, get_or, refl, sym, ap, ◌∙◌, append_assoc, arith, flat_map}
use Rattle.std.proofs.lemmas.List.{append-nil}
use Rattle.std.proofs.Math.Seq.{drop-cons}
use Rattle.std.proofs.Math.ListN.{drop_of_length-le}
use base.Fml.{GName}
use Rattle.mc_text.specs.Tokens.{Tok, Left, Semi, Atom, gap, before_next, spell, token_text}
use Rattle.mc_text.specs.declared.token.Before.{Before}
use Rattle.mc_text.specs.declared.token.Before.TheVariants.{Start, Open, Later}
use Rattle.mc_text.proofs.Lines.{EndsIn, IsLines}
use Rattle.mc_text.specs.Printing.{Page, put, print, begun, BeginsWith, Keeps}
use Rattle.mc_text.specs.inner.Printing.{space}

pub print_append : (a b : List Tok) (p : Page) → print (a ++ b) p ≡ print b (print a p)
unfolding print
print_append [] b p = refl
print_append (t ∷ a) b p = print_append a b (put t p)

pub print_cons : (t : Tok) (ts : List Tok) (p : Page) → print (t ∷ ts) p ≡ print ts (put t p)
unfolding print
print_cons t ts p = refl

pub print_nil : (p : Page) → print [] p ≡ p
unfolding print
print_nil p = refl

print_place : (ts : List Tok) (p : Page) → (print ts p).place ≡ p.place
unfolding print put
print_place [] p = refl
print_place (t ∷ ts) p = print_place ts (put t p)

-- the one spelling is appended
print-from : (ts : List Tok) (p : Page) → (print ts p).bytes ≡ p.bytes ++ spell p.before ts
unfolding print put
print-from [] p = sym (append-nil p.bytes)
print-from (t ∷ ts) p = print-from ts (put t p) ∙ append_assoc p.bytes (token_text p.before t) (spell (before_next t) ts)

pub printed_bytes : (ts : List Tok) (place : GName) (bytes : List ℕ) (p q : Page) → p ≡ begun place bytes → q ≡ print ts p → q.bytes ≡ bytes ++ spell Start ts
printed_bytes ts place bytes p q begins printed = ap (λ r. r.bytes) (printed ∙ ap (print ts) begins) ∙ print-from ts (begun place bytes)

-- ---- whole lines

after-line : (m : Before) (t : Tok) (a b : List Tok) → EndsIn t a → spell m ((t ∷ a) ++ b) ≡ spell m (t ∷ a) ++ spell Start b
after-line m t [] b h = ap (λ u. token_text m t ++ spell (before_next u) b) h ∙ ap (λ (v : List ℕ). v ++ spell Start b) (sym (append-nil (token_text m t)))
after-line m t (u ∷ us) b h =
    ap (λ (v : List ℕ). token_text m t ++ v) (after-line (before_next t) u us b h) ∙ sym (append_assoc (token_text m t) (spell (before_next t) (u ∷ us)) (spell Start b))

-- what stands behind whole lines is spelled as if it began the text
pub spell-after_lines : (a b : List Tok) → IsLines a → spell Start (a ++ b) ≡ spell Start a ++ spell Start b
spell-after_lines [] b h = refl
spell-after_lines (t ∷ a) b h = after-line Start t a b h

-- ---- one item after the other

each-next : {X : Type 0} (f : X → List Tok) (xs : List X) (i : ℕ) (d : X) → i < length xs → flat_map f (drop i xs) ≡ f (get_or xs i d) ++ flat_map f (drop (i + 1) xs)
each-next f xs i d lt =
    let next : suc i ≡ i + 1 = omega arith in
    ap (flat_map f) (drop-cons xs i d lt) ∙ (λ k. f (get_or xs i d) ++ flat_map f (drop (next k) xs))

-- the items from i on are still to be printed: the item at i is
pub print_next_copied : {X : Type 0} (f : X → List Tok) (xs : List X) (i : ℕ) (d : X) (whole p q : Page) → i < length xs
    → whole ≡ print (flat_map f (drop i xs)) p → q ≡ print (f (get_or xs i d)) p → whole ≡ print (flat_map f (drop (i + 1) xs)) q
print_next_copied f xs i d whole p q lt told done =
    let rest = flat_map f (drop (i + 1) xs) in
    told ∙ ap (λ ts. print ts p) (each-next f xs i d lt) ∙ print_append (f (get_or xs i d)) rest p ∙ ap (print rest) (sym done)

pub print_next : {X : Type 0} (f : X → List Tok) (xs : List X) (i : ℕ) (x : X) (whole p q : Page) → i < length xs → x ≡ get_or xs i x
    → whole ≡ print (flat_map f (drop i xs)) p → q ≡ print (f x) p → whole ≡ print (flat_map f (drop (i + 1) xs)) q
print_next f xs i x whole p q lt is told done = print_next_copied f xs i x whole p q lt told (done ∙ ap (λ y. print (f y) p) is)

-- none is
pub print_over : {X : Type 0} (f : X → List Tok) (xs : List X) (i : ℕ) (whole p : Page) → length xs ≤ i → whole ≡ print (flat_map f (drop i xs)) p → p ≡ whole
print_over f xs i whole p le told = sym (told ∙ ap (λ ys. print (flat_map f ys) p) (drop_of_length-le xs le) ∙ print_nil p)

each-map : {X Y : Type 0} (f : Y → List Tok) (g : X → Y) (xs : List X) → flat_map f (map g xs) ≡ flat_map (λ x. f (g x)) xs
each-map f g [] = refl
each-map f g (x ∷ xs) = ap (λ (ts : List Tok). f (g x) ++ ts) (each-map f g xs)

pub print_over_map : {X Y : Type 0} (f : Y → List Tok) (g : X → Y) (xs : List X) (i : ℕ) (p q : Page) → length xs ≤ i
    → print (flat_map (λ x. f (g x)) xs) p ≡ print (flat_map (λ x. f (g x)) (drop i xs)) q → q ≡ print (flat_map f (map g xs)) p
print_over_map f g xs i p q le told = print_over (λ x. f (g x)) xs i _ q le told ∙ ap (λ ts. print ts p) (sym (each-map f g xs))

-- ---- the space

pub space_left : (m : Before) → gap m Left ≡ space m
space_left Start = refl
space_left Open = refl
space_left Later = refl

pub space_semi : (m : Before) → gap m Semi ≡ space m
space_semi Start = refl
space_semi Open = refl
space_semi Later = refl

pub space_atom : (m : Before) (a : List ℕ) → gap m (Atom a) ≡ space m
space_atom Start a = refl
space_atom Open a = refl
space_atom Later a = refl

-- ---- what stood there before

begins_trans : (a b c : List ℕ) → BeginsWith a b → BeginsWith b c → BeginsWith a c
begins_trans a b c h k = record { rest = h.rest ++ k.rest; is = k.is ∙ ap (λ (v : List ℕ). v ++ k.rest) h.is ∙ append_assoc a h.rest k.rest }

pub keeps_more : (p q r : Page) → Keeps p q → Keeps q r → Keeps p r
keeps_more p q r h k = record { place = k.place ∙ h.place; prefix = begins_trans p.bytes q.bytes r.bytes h.prefix k.prefix }

pub keeps_same : (p q : Page) → q.place ≡ p.place → q.bytes ≡ p.bytes → Keeps p q
keeps_same p q e f = record { place = e; prefix = record { rest = []; is = f ∙ sym (append-nil p.bytes) } }

pub keeps_appended : (p q : Page) (x : List ℕ) → q.place ≡ p.place → q.bytes ≡ p.bytes ++ x → Keeps p q
keeps_appended p q x e f = record { place = e; prefix = record { rest = x; is = f } }

-- ---- for the tactics

-- of a pen's functions
pub ruleset writes = (space_left, space_semi, space_atom, keeps_more, keeps_appended, keeps_same)

-- of functions that print with a pen
pub ruleset prints = (print_append, print_cons, print_nil, keeps_more)
