-- Lines that forget the theorems of a part.
use Rattle.std.proofs.Common.{◌≡◌, ℕ, zero, suc, ◌+◌, ◌-◌, ◌<◌, ◌≤◌, ◌^◌, List, [], ◌∷◌, ◌++◌, map, fold, Bool, true, false, cond, eqb, refl, sym, ap, ◌∙◌, subst, arith, Option, Some, None, is_some, inl, inr, append_assoc, ne_eqb}
use Rattle.std.specs.List.{AllByRecursion}
use Rattle.std.proofs.lemmas.Bool.{eqb-false}
use Rattle.std.proofs.lemmas.Bool.Decides.{leb_tells}
use Rattle.std.proofs.lemmas.List.{map-append}
use Rattle.std.proofs.lemmas.List.FromFn.{map-range_with_len_more}
use Rattle.tailrec_lang.specs.Tree.{GroupTree}
use Rattle.triple_kernel.specs.Tree.{TripleTree}
use Rattle.proof_text.specs.declared.line.Line.{Line}
use Rattle.proof_text.specs.declared.line.Line.TheVariants as line
use Rattle.proof_text.specs.Line.{LineTree, States, Loop, Forget, line_tree, Further}
use Rattle.group_text.specs.Version.{Version}
use Rattle.proof_text.specs.LineLimits.{IsLineIn}
use Rattle.verdicts.specs.Instance.{AreInstancesBy, FurtherRule, History, after_line, after_lines, no_lines, with_closed, with_theorem, without}
use Rattle.path_walk.specs.Forgotten.{KeepsNone}
use Rattle.path_walk.specs.Item.{AreClosing}
use Rattle.path_walk.specs.inner.Histories.{IsCounted}
use Rattle.path_walk.specs.inner.Lines.{forgets, stated}
use Rattle.path_walk.specs.inner.Writers.{IsStating}
use Rattle.path_walk.proofs.RightLines.{fold-join, joined, lines-counted, none-counted}

-- ---- as they are written

-- one more
pub one_forgotten : (lines more : List Line) (all : List LineTree) (first k : ℕ) → more ≡ lines ++ line.Forget k ∷ [] → first ≤ k → map line_tree lines ≡ all ++ forgets first (k - first) →
    map line_tree more ≡ all ++ forgets first (k + 1 - first)
one_forgotten lines more all first k is low so_far =
    let place : first + (k - first) ≡ k = omega (arith, low) in
    let count : k - first + 1 ≡ k + 1 - first = omega (arith, low) in
    ap (map line_tree) is ∙ map-append line_tree lines (line.Forget k ∷ []) ∙ (λ i. so_far i ++ Forget k ∷ []) ∙ append_assoc all (forgets first (k - first)) (Forget k ∷ [])
    ∙ ap (λ (ls : List LineTree). all ++ ls) (sym (map-range_with_len_more Forget first (k - first) k place)) ∙ (λ i. all ++ forgets first (count i))

-- they have a text
pub forgets-fine : (v : Version) (a n : ℕ) → a + n ≤ 2 ^ 64 → AllByRecursion (IsLineIn v) (forgets a n)
forgets-fine v a zero most = tt
forgets-fine v a (suc n) most = (omega (arith, most), forgets-fine v (a + 1) n (omega (arith, most)))

-- ---- what they leave behind them

forgets-closed : (h : History) (a n d : ℕ) → (fold after_line h (forgets a n)).closed d ≡ h.closed d
forgets-closed h a zero d = refl
forgets-closed h a (suc n) d = forgets-closed (without a h) (a + 1) n d

-- what isn't there isn't there later
none-without : (h : History) (a j : ℕ) → h.theorem j ≡ None → (without a h).theorem j ≡ None
none-without h a j e = go (eqb j a)
  where
    go : (b : Bool) → cond b None (h.theorem j) ≡ None
    go true = refl
    go false = e

forgets-none : (h : History) (a n j : ℕ) → h.theorem j ≡ None → (fold after_line h (forgets a n)).theorem j ≡ None
forgets-none h a zero j e = e
forgets-none h a (suc n) j e = forgets-none (without a h) (a + 1) n j (none-without h a j e)

forgets-gone : (h : History) (a n j : ℕ) → a ≤ j → j < a + n → (fold after_line h (forgets a n)).theorem j ≡ None
forgets-gone h a zero j low high = absurd (omega (arith, low, high))
forgets-gone h a (suc n) j low high = go (eqb j a) refl (λ low high. forgets-gone (without a h) (a + 1) n j low high)
  where
    go : (b : Bool) → eqb j a ≡ b → (a + 1 ≤ j → j < a + 1 + n → (fold after_line (without a h) (forgets (a + 1) n)).theorem j ≡ None) → (fold after_line (without a h) (forgets (a + 1) n)).theorem j ≡ None
    go true is on = forgets-none (without a h) (a + 1) n j (λ i. cond (is i) None (h.theorem j))
    go false is on = let other = eqb-false j a is in on (omega (arith, low, other)) (omega (arith, high))

older-none : (h : History) (ls : List LineTree) (j : ℕ) → j < h.next → h.theorem j ≡ None → (fold after_line h ls).theorem j ≡ None
older-none h [] j low e = e
older-none h (States rule t ∷ ls) j low e =
    let other : eqb j h.next ≡ false = ne_eqb j h.next (λ d. absurd (omega (arith, d, low))) in
    older-none (with_theorem t h) ls j (omega (arith, low)) ((λ i. cond (other i) (Some t) (h.theorem j)) ∙ e)
older-none h (Further p t ∷ ls) j low e =
    let other : eqb j h.next ≡ false = ne_eqb j h.next (λ d. absurd (omega (arith, d, low))) in
    older-none (with_theorem t h) ls j (omega (arith, low)) ((λ i. cond (other i) (Some t) (h.theorem j)) ∙ e)
older-none h (Loop d cited ∷ ls) j low e = older-none (with_closed d h) ls j low e
older-none h (Forget k ∷ ls) j low e = older-none (without k h) ls j low (none-without h k j e)

later-none : (h : History) (j : ℕ) → IsCounted h → h.next ≤ j → h.theorem j ≡ None
later-none h j counted low = go (h.theorem j) refl
  where
    go : (o : Option TripleTree) → h.theorem j ≡ o → h.theorem j ≡ None
    go None is = is
    go (Some t) is = let under = counted j t is in absurd (omega (arith, under, low))

-- how many theorems there are after lines
pub next-after : (h : History) (lines : List LineTree) → (fold after_line h lines).next ≡ h.next + stated lines
next-after h [] = omega arith
next-after h (States rule t ∷ lines) = let rest = next-after (after_line h (States rule t)) lines in omega (arith, rest)
next-after h (Loop d cited ∷ lines) = next-after (after_line h (Loop d cited)) lines
next-after h (Forget k ∷ lines) = next-after (after_line h (Forget k)) lines
next-after h (Further p t ∷ lines) = let rest = next-after (after_line h (Further p t)) lines in omega (arith, rest)

-- none is kept of those that the lines stated
kept-none : (h : History) (ls : List LineTree) → IsCounted h → KeepsNone h → KeepsNone (fold after_line (fold after_line h ls) (forgets h.next (stated ls)))
kept-none h ls counted none j = elim (leb_tells h.next j) [
  | inl low ↦ elim (leb_tells (h.next + stated ls) j) [
    | inl over ↦ forgets-none (fold after_line h ls) h.next (stated ls) j (later-none (fold after_line h ls) j (lines-counted h ls counted) (let long = next-after h ls in omega (arith, long, over.1)))
    | inr under ↦ forgets-gone (fold after_line h ls) h.next (stated ls) j low.1 under.1
  ]
  | inr old ↦ forgets-none (fold after_line h ls) h.next (stated ls) j (older-none h ls j old.1 (none j))
]

-- these are all
pub all_stated : (first next n : ℕ) → next ≡ first + n → next - first ≡ n
all_stated first next n count = omega (arith, count)

pub forgotten : (ls : List LineTree) (d first next : ℕ) (cited : List ℕ) (more : List LineTree) → more ≡ (ls ++ Loop d cited ∷ []) ++ forgets first (next - first) → next ≡ first + stated ls →
    (old : List LineTree) → first ≡ (after_lines old).next → KeepsNone (after_lines old) → KeepsNone (after_lines (old ++ more))
forgotten ls d first next cited more are count old at none j =
    let h : History = after_lines old in
    let last : List LineTree = Loop d cited ∷ [] in
    let fs : List LineTree = forgets h.next (stated ls) in
    let these : more ≡ (ls ++ last) ++ fs = are ∙ (λ i. (ls ++ last) ++ forgets (at i) (all_stated first next (stated ls) count i)) in
    let whole : after_lines (old ++ more) ≡ fold after_line (with_closed d (fold after_line h ls)) fs =
    fold-join no_lines old more ∙ (λ i. fold after_line h (these i)) ∙ fold-join h (ls ++ last) fs ∙ (λ i. fold after_line (fold-join h ls last i) fs) in
    (λ i. (whole i).theorem j) ∙ same (fold after_line h ls) h.next (stated ls) ∙ kept-none h ls (lines-counted no_lines old none-counted) none j
  where
    same : (k : History) (a n : ℕ) → (fold after_line (with_closed d k) (forgets a n)).theorem j ≡ (fold after_line k (forgets a n)).theorem j
    same k a zero = refl
    same k a (suc n) = same (without a k) (a + 1) n

-- ---- each is right

forgets-right : (F : FurtherRule) (g : GroupTree) (h : History) (a n : ℕ) → ((j : ℕ) → a ≤ j → j < a + n → is_some (h.theorem j) ≡ true) → AreInstancesBy F g h (forgets a n)
forgets-right F g h a zero there = tt
forgets-right F g h a (suc n) there = (there a (omega arith) (omega arith), forgets-right F g (without a h) (a + 1) n rest)
  where
    rest : (j : ℕ) → a + 1 ≤ j → j < a + 1 + n → is_some ((without a h).theorem j) ≡ true
    rest j low high =
        let other : eqb j a ≡ false = ne_eqb j a (λ d. absurd (omega (arith, d, low))) in
        (λ i. is_some (cond (other i) None (h.theorem j))) ∙ there j (omega (arith, low)) (omega (arith, high))

stays-there : (h : History) (ls : List LineTree) (j : ℕ) → AllByRecursion IsStating ls → is_some (h.theorem j) ≡ true → is_some ((fold after_line h ls).theorem j) ≡ true
stays-there h [] j all e = e
stays-there h (States rule t ∷ ls) j all e = stays-there (with_theorem t h) ls j all.1 (go (eqb j h.next))
  where
    go : (b : Bool) → is_some (cond b (Some t) (h.theorem j)) ≡ true
    go true = refl
    go false = e
stays-there h (Further p t ∷ ls) j all e = stays-there (with_theorem t h) ls j all.1 (go (eqb j h.next))
  where
    go : (b : Bool) → is_some (cond b (Some t) (h.theorem j)) ≡ true
    go true = refl
    go false = e
stays-there h (Loop d cited ∷ ls) j all e = absurd all.0
stays-there h (Forget k ∷ ls) j all e = absurd all.0

-- each number of those that were stated is a theorem's
stated-there : (h : History) (ls : List LineTree) (j : ℕ) → AllByRecursion IsStating ls → h.next ≤ j → j < h.next + stated ls → is_some ((fold after_line h ls).theorem j) ≡ true
stated-there h [] j all low high = absurd (omega (arith, low, high))
stated-there h (States rule t ∷ ls) j all low high = go (eqb j h.next) refl (λ low high. stated-there (with_theorem t h) ls j all.1 low high)
  where
    go : (b : Bool) → eqb j h.next ≡ b → (h.next + 1 ≤ j → j < h.next + 1 + stated ls → is_some ((fold after_line (with_theorem t h) ls).theorem j) ≡ true) → is_some ((fold after_line (with_theorem t h) ls).theorem j) ≡ true
    go true is on = stays-there (with_theorem t h) ls j all.1 (λ i. is_some (cond (is i) (Some t) (h.theorem j)))
    go false is on = let other = eqb-false j h.next is in on (omega (arith, low, other)) (omega (arith, high))
stated-there h (Further p t ∷ ls) j all low high = go (eqb j h.next) refl (λ low high. stated-there (with_theorem t h) ls j all.1 low high)
  where
    go : (b : Bool) → eqb j h.next ≡ b → (h.next + 1 ≤ j → j < h.next + 1 + stated ls → is_some ((fold after_line (with_theorem t h) ls).theorem j) ≡ true) → is_some ((fold after_line (with_theorem t h) ls).theorem j) ≡ true
    go true is on = stays-there (with_theorem t h) ls j all.1 (λ i. is_some (cond (is i) (Some t) (h.theorem j)))
    go false is on = let other = eqb-false j h.next is in on (omega (arith, low, other)) (omega (arith, high))
stated-there h (Loop d cited ∷ ls) j all low high = absurd all.0
stated-there h (Forget k ∷ ls) j all low high = absurd all.0

-- they may stand behind the line that closes the definition
pub closing-forgets : (F : FurtherRule) (g : GroupTree) (h : History) (d : ℕ) (ls : List LineTree) (cited : List ℕ) → AllByRecursion IsStating ls → AreClosing F g h d (ls ++ Loop d cited ∷ []) →
    AreClosing F g h d ((ls ++ Loop d cited ∷ []) ++ forgets h.next (stated ls))
closing-forgets F g h d ls cited all c =
    let last : List LineTree = Loop d cited ∷ [] in
    let fs : List LineTree = forgets h.next (stated ls) in
    let k : History = fold after_line h ls in
    let at : fold after_line h (ls ++ last) ≡ with_closed d k = fold-join h ls last in
    let whole : fold after_line h ((ls ++ last) ++ fs) ≡ fold after_line (fold after_line h (ls ++ last)) fs = fold-join h (ls ++ last) fs in
    record {
      right = joined F g h (ls ++ last) fs c.right (subst (λ (m : History). AreInstancesBy F g m fs) (sym at) (forgets-right F g (with_closed d k) h.next (stated ls) (λ j low high. stated-there h ls j all low high)));
      closed = (λ i. (whole i).closed d) ∙ forgets-closed (fold after_line h (ls ++ last)) h.next (stated ls) d ∙ c.closed;
      keeps = λ e is. (λ i. (whole i).closed e) ∙ forgets-closed (fold after_line h (ls ++ last)) h.next (stated ls) e ∙ c.keeps e is;
    }
