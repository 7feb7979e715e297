-- The words of a piece, and behind them those of what comes after.
use Rattle.std.proofs.Common.{◌≡◌, ℕ, ◌+◌, ◌-◌, ◌<◌, min, List, [], ◌∷◌, ◌++◌, map, length, sym, ◌∙◌, append_assoc, arith}
use Rattle.std.proofs.lemmas.List.{map-append, length-map, length-append}
use Rattle.rv_decode.specs.declared.instruction.Instr.{Instr}
use Rattle.rv_decode.specs.Encodes.{word_of}
use Rattle.code_gen.specs.Draws.{draw, next}
use Rattle.code_gen.specs.Pieces.{Pieces, Repeat, Kind, Adds, Mixes, Chooses, kind, Drawn, beginning, drawn}
use Rattle.code_gen.specs.Program.{code, adding, mixing, choosing, counting, loop_end}
use Rattle.code_gen.specs.inner.Written.{with_drawn, drawn_loop}
use Rattle.code_gen.proofs.DrawnLemmas.{drawn-is}

-- code of a kind is written, once its first piece and the rest are
pub written-is : (words : List ℕ) (u d s : ℕ) (k : Kind) → 0 < u → kind (draw 4 s) u d ≡ k
    → with_drawn words d (beginning drawn k u d (next s)) ≡ with_drawn words d (drawn u d s)
written-is words u d s k h e = sym (λ i. with_drawn words d (drawn-is u d s k h e i))

-- an addition
pub written-adds : (words : List ℕ) (u d t : ℕ)
    → with_drawn (words ++ word_of (adding u) ∷ []) d (drawn (u - 1) d t) ≡ with_drawn words d (beginning drawn Adds u d t)
written-adds words u d t = append_assoc words (word_of (adding u) ∷ []) (map word_of (code d (drawn (u - 1) d t).pieces))

pub written-mixes : (words : List ℕ) (u d t : ℕ)
    → with_drawn (words ++ word_of mixing ∷ []) d (drawn (u - 1) d t) ≡ with_drawn words d (beginning drawn Mixes u d t)
written-mixes words u d t = append_assoc words (word_of mixing ∷ []) (map word_of (code d (drawn (u - 1) d t).pieces))

pub written-chooses : (words : List ℕ) (u d t : ℕ)
    → with_drawn (words ++ map word_of (choosing u)) d (drawn (u - 3) d t) ≡ with_drawn words d (beginning drawn Chooses u d t)
written-chooses words u d t = append_assoc words (map word_of (choosing u)) (map word_of (code d (drawn (u - 3) d t).pieces))

-- pieces of a list, put together from the left or from the right
grouped : {A : Type 0} (w h b e r : List A) → (((w ++ h) ++ b) ++ e) ++ r ≡ w ++ (h ++ ((b ++ e) ++ r))
grouped w h b e r =
    (λ i. append_assoc (w ++ h) b e i ++ r)
    ∙ append_assoc (w ++ h) (b ++ e) r
    ∙ append_assoc w h ((b ++ e) ++ r)

-- a loop: its head, its body, its end, and the rest
written-parts : (words : List ℕ) (d n : ℕ) (body rest : Pieces)
    → (((words ++ (word_of (counting d n) ∷ [])) ++ map word_of (code (d + 1) body)) ++ map word_of (loop_end d (length (code (d + 1) body)))) ++ map word_of (code d rest)
    ≡ words ++ map word_of (code d (Repeat n body rest))
written-parts words d n body rest =
    let inner : List Instr = code (d + 1) body in
    let last : List Instr = loop_end d (length inner) in
    let joined : map word_of ((inner ++ last) ++ code d rest) ≡ (map word_of inner ++ map word_of last) ++ map word_of (code d rest) =
    map-append word_of (inner ++ last) (code d rest) ∙ (λ i. map-append word_of inner last i ++ map word_of (code d rest)) in
    grouped words ((word_of (counting d n) ∷ [])) (map word_of inner) (map word_of last) (map word_of (code d rest))
    ∙ (λ i. words ++ ((word_of (counting d n) ∷ []) ++ sym joined i))

-- how many words were written
pub written-count : (words : List ℕ) (is : List Instr) → length (words ++ map word_of is) - length words ≡ length is
written-count words is =
    let e : length (words ++ map word_of is) ≡ length words + length (map word_of is) = length-append words (map word_of is) in
    omega (arith, e, length-map is word_of)

-- a loop that was written in three steps, and what comes after
pub written-repeats : (words w1 w2 w3 : List ℕ) (u d s k left seed : ℕ) (x : Drawn)
    → w1 ≡ words ++ word_of (counting d (1 + draw 4 s)) ∷ []
    → x ≡ drawn (1 + draw (min (u - 2) 64) (next s)) (d + 1) (next (next s))
    → w2 ≡ with_drawn w1 (d + 1) x
    → k ≡ length w2 - length w1
    → w3 ≡ w2 ++ map word_of (loop_end d k)
    → left ≡ u - (1 + draw (min (u - 2) 64) (next s) + 2)
    → seed ≡ x.seed
    → with_drawn w3 d (drawn left d seed) ≡ with_drawn words d (drawn_loop u d s)
written-repeats words w1 w2 w3 u d s k left seed x e1 ex e2 ek e3 el es =
    let m : ℕ = 1 + draw (min (u - 2) 64) (next s) in
    let body : Drawn = drawn m (d + 1) (next (next s)) in
    let n : ℕ = 1 + draw 4 s in
    let ek2 : k ≡ length (code (d + 1) body.pieces) =
    ek ∙ (λ i. length (e2 i) - length w1) ∙ written-count w1 (code (d + 1) x.pieces) ∙ (λ i. length (code (d + 1) (ex i).pieces)) in
    let e2b : w2 ≡ (words ++ (word_of (counting d n) ∷ [])) ++ map word_of (code (d + 1) body.pieces) =
    e2 ∙ (λ i. with_drawn (e1 i) (d + 1) (ex i)) in
    let rest : drawn left d seed ≡ drawn (u - (m + 2)) d body.seed = (λ i. drawn (el i) d ((es ∙ (λ j. (ex j).seed)) i)) in
    (λ i. (e3 ∙ (λ j. e2b j ++ map word_of (loop_end d (ek2 j)))) i ++ map word_of (code d (rest i).pieces))
    ∙ written-parts words d n body.pieces (drawn (u - (m + 2)) d body.seed).pieces
