-- An arena into which only terms that have a text were put is a table.
use Rattle.std.proofs.Common.{◌≡◌, ◌⊎◌, ℕ, zero, suc, ◌+◌, ◌≤◌, ◌<◌, ◌^◌, List, [], ◌∷◌, ◌++◌, Option, Some, inl, inr, fold, length, take, flat_map, sym, ap, ◌∙◌, subst, refl, arith, append_assoc, length-append}
use Rattle.std.specs.Prelude.{All, max, slice_get, unwrap_or}
use Rattle.std.proofs.lemmas.Option.{slice_get_within, get_or_from_slice_get}
use Rattle.std.proofs.lemmas.List.Elements.{All-append, All-cons, All-head, All-nil, All-push, All-tail, All-weaker}
use Rattle.word_terms.specs.Tree.{WordTree, MemTree, CondTree, Const, Var, Bin, Extend, Load, MemVar, Store, Compare, Neg, Inside}
use Rattle.group_text.specs.TermLimits.{FitsCond, FitsMem, FitsWord, depth_limit}
use Rattle.term_arena.specs.declared.node.Node.{Node}
use Rattle.term_arena.specs.declared.node.Node.TheVariants as node
use Rattle.term_arena.specs.Arena.{Tree, OfWord, OfMem, OfCond, AreBelow, AreChildren, ArePutIn, IsArena, cond_subterms, mem_subterms, tree_of, tree_over, trees_of, word_subterms}
use Rattle.term_arena.proofs.Places.{at-append, at-before, at-push, at-push_cases, at_contains}
use Rattle.term_arena.proofs.TreeLemmas.{below_node, length-trees, same_tree_over, tree_of-node, trees-push}
use Rattle.held_terms.specs.Terms.{AreTermsPutIn, subterms}
use Rattle.short_text.specs.Table.{AreNextTerms, HasNumbers, IsTable, depth_in, depth_over, depths_of, with_depth}
use Rattle.short_text.proofs.TableLaws.{depths-more}
use Rattle.proof_v2.specs.ShortTerms.{FitsTerm, IsTerm}

-- ---- subterms fit

-- what is at most that deep is at most deeper
mutual
  word-deeper : (d : ℕ) (t : WordTree) → FitsWord d t → FitsWord (suc d) t
  word-deeper zero t h = absurd h
  word-deeper (suc d) (Const n) h = h
  word-deeper (suc d) (Var i) h = h
  word-deeper (suc d) (Bin op a b) h = (word-deeper d a h.0, word-deeper d b h.1)
  word-deeper (suc d) (Extend ext a) h = word-deeper d a h
  word-deeper (suc d) (Load width m a) h = (mem-deeper d m h.0, word-deeper d a h.1)

  mem-deeper : (d : ℕ) (m : MemTree) → FitsMem d m → FitsMem (suc d) m
  mem-deeper zero m h = absurd h
  mem-deeper (suc d) (MemVar i) h = h
  mem-deeper (suc d) (Store width m a v) h = (mem-deeper d m h.0, word-deeper d a h.1, word-deeper d v h.2)

cond-deeper : (d : ℕ) (c : CondTree) → FitsCond d c → FitsCond (suc d) c
cond-deeper zero c h = absurd h
cond-deeper (suc d) (Compare cmp a b) h = (word-deeper d a h.0, word-deeper d b h.1)
cond-deeper (suc d) (Neg c) h = cond-deeper d c h
cond-deeper (suc d) (Inside width m a) h = (mem-deeper d m h.0, word-deeper d a h.1)

term-deeper : (d : ℕ) (x : Tree) → FitsTerm d x → FitsTerm (suc d) x
term-deeper d (OfWord t) h = word-deeper d t h
term-deeper d (OfMem m) h = mem-deeper d m h
term-deeper d (OfCond c) h = cond-deeper d c h

deeper : (d : ℕ) (xs : List Tree) → All (FitsTerm d) xs → All (FitsTerm (suc d)) xs
deeper d xs h = All-weaker (FitsTerm d) (FitsTerm (suc d)) (term-deeper d) xs h

one : (d : ℕ) (x : Tree) → FitsTerm d x → All (FitsTerm d) (x ∷ [])
one d x h = All-cons (FitsTerm d) x [] h (All-nil (FitsTerm d))

both : (d : ℕ) (xs ys : List Tree) → All (FitsTerm d) xs → All (FitsTerm d) ys → All (FitsTerm d) (xs ++ ys)
both d xs ys h k = All-append (FitsTerm d) xs ys h k

-- each subterm of a term that fits fits
mutual
  pub word-subterms : (d : ℕ) (t : WordTree) → FitsWord d t → All (FitsTerm d) (word_subterms t)
  word-subterms zero t h = absurd h
  word-subterms (suc d) (Const n) h = one (suc d) (OfWord (Const n)) h
  word-subterms (suc d) (Var i) h = one (suc d) (OfWord (Var i)) h
  word-subterms (suc d) (Bin op a b) h =
      both (suc d) (word_subterms a) (word_subterms b ++ OfWord (Bin op a b) ∷ []) (deeper d (word_subterms a) (word-subterms d a h.0))
      (both (suc d) (word_subterms b) (OfWord (Bin op a b) ∷ []) (deeper d (word_subterms b) (word-subterms d b h.1)) (one (suc d) (OfWord (Bin op a b)) h))
  word-subterms (suc d) (Extend ext a) h = both (suc d) (word_subterms a) (OfWord (Extend ext a) ∷ []) (deeper d (word_subterms a) (word-subterms d a h)) (one (suc d) (OfWord (Extend ext a)) h)
  word-subterms (suc d) (Load width m a) h =
      both (suc d) (mem_subterms m) (word_subterms a ++ OfWord (Load width m a) ∷ []) (deeper d (mem_subterms m) (mem-subterms d m h.0))
      (both (suc d) (word_subterms a) (OfWord (Load width m a) ∷ []) (deeper d (word_subterms a) (word-subterms d a h.1)) (one (suc d) (OfWord (Load width m a)) h))

  pub mem-subterms : (d : ℕ) (m : MemTree) → FitsMem d m → All (FitsTerm d) (mem_subterms m)
  mem-subterms zero m h = absurd h
  mem-subterms (suc d) (MemVar i) h = one (suc d) (OfMem (MemVar i)) h
  mem-subterms (suc d) (Store width m a v) h =
      both (suc d) (mem_subterms m) (word_subterms a ++ (word_subterms v ++ OfMem (Store width m a v) ∷ [])) (deeper d (mem_subterms m) (mem-subterms d m h.0))
      (both (suc d) (word_subterms a) (word_subterms v ++ OfMem (Store width m a v) ∷ []) (deeper d (word_subterms a) (word-subterms d a h.1))
      (both (suc d) (word_subterms v) (OfMem (Store width m a v) ∷ []) (deeper d (word_subterms v) (word-subterms d v h.2)) (one (suc d) (OfMem (Store width m a v)) h)))

pub cond-subterms : (d : ℕ) (c : CondTree) → FitsCond d c → All (FitsTerm d) (cond_subterms c)
cond-subterms zero c h = absurd h
cond-subterms (suc d) (Compare cmp a b) h =
    both (suc d) (word_subterms a) (word_subterms b ++ OfCond (Compare cmp a b) ∷ []) (deeper d (word_subterms a) (word-subterms d a h.0))
    (both (suc d) (word_subterms b) (OfCond (Compare cmp a b) ∷ []) (deeper d (word_subterms b) (word-subterms d b h.1)) (one (suc d) (OfCond (Compare cmp a b)) h))
cond-subterms (suc d) (Neg c) h = both (suc d) (cond_subterms c) (OfCond (Neg c) ∷ []) (deeper d (cond_subterms c) (cond-subterms d c h)) (one (suc d) (OfCond (Neg c)) h)
cond-subterms (suc d) (Inside width m a) h =
    both (suc d) (mem_subterms m) (word_subterms a ++ OfCond (Inside width m a) ∷ []) (deeper d (mem_subterms m) (mem-subterms d m h.0))
    (both (suc d) (word_subterms a) (OfCond (Inside width m a) ∷ []) (deeper d (word_subterms a) (word-subterms d a h.1)) (one (suc d) (OfCond (Inside width m a)) h))

pub subterms-fit : (d : ℕ) (x : Tree) → FitsTerm d x → All (FitsTerm d) (subterms x)
subterms-fit d (OfWord t) h = word-subterms d t h
subterms-fit d (OfMem m) h = mem-subterms d m h
subterms-fit d (OfCond c) h = cond-subterms d c h

pub all-subterms-fit : (d : ℕ) (xs : List Tree) → All (FitsTerm d) xs → All (FitsTerm d) (flat_map subterms xs)
all-subterms-fit d [] h = All-nil (FitsTerm d)
all-subterms-fit d (x ∷ xs) h = both d (subterms x) (flat_map subterms xs) (subterms-fit d x (All-head (FitsTerm d) x xs h)) (all-subterms-fit d xs (All-tail (FitsTerm d) x xs h))

-- what holds of what was there and of what was put in holds of all
pub all-put : (P : Tree → Type 0) (before xs after : List Tree) → ArePutIn before xs after → All P before → All P xs → All P after
all-put P before [] after h b k = subst (All P) (sym h) b
all-put P before (x ∷ xs) after (inl h) b k = all-put P before xs after h.1 b (All-tail P x xs k)
all-put P before (x ∷ xs) after (inr h) b k = all-put P (before ++ x ∷ []) xs after h.1 (All-push P before x b (All-head P x xs k)) (All-tail P x xs k)

-- ---- depths

-- a number of a term that is at most that deep has at most that depth
pub record AreAsDeep (ns : List Node) : Type 0 where
  pub each : (k d : ℕ) (x : Tree) → tree_of ns k ≡ Some x → FitsTerm d x → depth_in (depths_of ns) k ≤ d

higher : (a b d : ℕ) → a ≤ d → b ≤ d → max a b + 1 ≤ suc d
higher a b d h k = omega (arith, h, k)

-- a node whose term is at most that deep has at most that depth
pub node-depth : (ns : List Node) (n : Node) (d : ℕ) → AreChildren ns n → AreAsDeep ns → FitsTerm d (tree_over (trees_of ns) n) → depth_over (depths_of ns) n ≤ d
node-depth ns (node.Const n) zero c deep h = absurd h
node-depth ns (node.WordVar i) zero c deep h = absurd h
node-depth ns (node.Bin op a b) zero c deep h = absurd h
node-depth ns (node.Extend ext a) zero c deep h = absurd h
node-depth ns (node.Load width m a) zero c deep h = absurd h
node-depth ns (node.MemVar i) zero c deep h = absurd h
node-depth ns (node.Store width m a v) zero c deep h = absurd h
node-depth ns (node.Compare cmp a b) zero c deep h = absurd h
node-depth ns (node.Neg c) zero k deep h = absurd h
node-depth ns (node.Inside width m a) zero c deep h = absurd h
node-depth ns (node.Const n) (suc d) c deep h = omega arith
node-depth ns (node.WordVar i) (suc d) c deep h = omega arith
node-depth ns (node.Bin op a b) (suc d) c deep h = higher _ _ d (deep.each a d _ c.0 h.0) (deep.each b d _ c.1 h.1)
node-depth ns (node.Extend ext a) (suc d) c deep h = let low = deep.each a d _ c h in omega (arith, low)
node-depth ns (node.Load width m a) (suc d) c deep h = higher _ _ d (deep.each m d _ c.0 h.0) (deep.each a d _ c.1 h.1)
node-depth ns (node.MemVar i) (suc d) c deep h = omega arith
node-depth ns (node.Store width m a v) (suc d) c deep h =
    let first = deep.each m d _ c.0 h.0 in
    let second = deep.each a d _ c.1 h.1 in
    let third = deep.each v d _ c.2 h.2 in
    higher _ _ d first (omega (arith, second, third))
node-depth ns (node.Compare cmp a b) (suc d) c deep h = higher _ _ d (deep.each a d _ c.0 h.0) (deep.each b d _ c.1 h.1)
node-depth ns (node.Neg c) (suc d) k deep h = let low = deep.each c d _ k h in omega (arith, low)
node-depth ns (node.Inside width m a) (suc d) c deep h = higher _ _ d (deep.each m d _ c.0 h.0) (deep.each a d _ c.1 h.1)

length-fold : (ds : List ℕ) (ns : List Node) → length (fold with_depth ds ns) ≡ length ds + length ns
length-fold ds [] = omega arith
length-fold ds (n ∷ ns) = length-fold (with_depth ds n) ns ∙ let more = length-append ds (depth_over ds n ∷ []) in omega (arith, more)

length-depths : (ns : List Node) → length (depths_of ns) ≡ length ns
unfolding depths_of
length-depths ns = length-fold [] ns ∙ omega arith

deep-none : AreAsDeep []
unfolding trees_of
deep-none = record { each = λ k d x at fits. let low : k < 0 = slice_get_within [] k x at in absurd (omega (arith, low)) }

deep-more : (ns : List Node) (n : Node) → AreChildren ns n → AreAsDeep ns → AreAsDeep (ns ++ n ∷ [])
deep-more ns n children deep = record {
  each = λ k d x at fits.
      by k d x fits (at-push_cases (trees_of ns) (tree_over (trees_of ns) n) k x (subst (λ (ts : List Tree). slice_get ts k ≡ Some x) (trees-push ns n) at));
}
  where
    last : ℕ
    last = depth_over (depths_of ns) n

    by : (k d : ℕ) (x : Tree) → FitsTerm d x → ((k < length (trees_of ns)) × (slice_get (trees_of ns) k ≡ Some x)) ⊎ ((k ≡ length (trees_of ns)) × (tree_over (trees_of ns) n ≡ x)) → depth_in (depths_of (ns ++ n ∷ [])) k ≤ d
    by k d x fits (inl h) =
        let low : k < length (depths_of ns) = let lt = h.0 in omega (arith, lt, length-trees ns, length-depths ns) in
        let same : depth_in (depths_of (ns ++ n ∷ [])) k ≡ depth_in (depths_of ns) k = ap (λ (ds : List ℕ). depth_in ds k) (depths-more ns n) ∙ ap (λ (o : Option ℕ). unwrap_or o 0) (at-before (depths_of ns) last k low) in
        let most = deep.each k d x h.1 fits in
        omega (arith, same, most)
    by k d x fits (inr h) =
        let place : k ≡ length (depths_of ns) = let e = h.0 in omega (arith, e, length-trees ns, length-depths ns) in
        let same : depth_in (depths_of (ns ++ n ∷ [])) k ≡ last = ap (λ (ds : List ℕ). depth_in ds k) (depths-more ns n) ∙ ap (λ (j : ℕ). depth_in (depths_of ns ++ last ∷ []) j) place ∙ ap (λ (o : Option ℕ). unwrap_or o 0) (at-push (depths_of ns) last) in
        let most = node-depth ns n d children deep (subst (λ (y : Tree). FitsTerm d y) (sym h.1) fits) in
        omega (arith, same, most)

-- ---- numbers

node-numbers : (k : ℕ) (ns : List Node) (n : Node) (d : ℕ) → k ≤ 2 ^ 64 → AreBelow k n → FitsTerm d (tree_over (trees_of ns) n) → HasNumbers n
node-numbers k ns n zero few below h = absurd (no-depth (tree_over (trees_of ns) n) h)
  where
    no-depth : (x : Tree) → FitsTerm zero x → ⊥
    no-depth (OfWord t) h = h
    no-depth (OfMem m) h = h
    no-depth (OfCond c) h = h
node-numbers k ns (node.Const n) (suc d) few below h = h
node-numbers k ns (node.WordVar i) (suc d) few below h = h
node-numbers k ns (node.Bin op a b) (suc d) few below h = let x = below.0 in let y = below.1 in (omega (arith, few, x), omega (arith, few, y))
node-numbers k ns (node.Extend ext a) (suc d) few below h = omega (arith, few, below)
node-numbers k ns (node.Load width m a) (suc d) few below h = let x = below.0 in let y = below.1 in (omega (arith, few, x), omega (arith, few, y))
node-numbers k ns (node.MemVar i) (suc d) few below h = h
node-numbers k ns (node.Store width m a v) (suc d) few below h = let x = below.0 in let y = below.1 in let z = below.2 in (omega (arith, few, x), omega (arith, few, y), omega (arith, few, z))
node-numbers k ns (node.Compare cmp a b) (suc d) few below h = let x = below.0 in let y = below.1 in (omega (arith, few, x), omega (arith, few, y))
node-numbers k ns (node.Neg c) (suc d) few below h = omega (arith, few, below)
node-numbers k ns (node.Inside width m a) (suc d) few below h = let x = below.0 in let y = below.1 in (omega (arith, few, x), omega (arith, few, y))

-- ---- an arena of terms that fit

at-behind : {A : Type 0} (xs : List A) (y : A) (ys : List A) → slice_get (xs ++ y ∷ ys) (length xs) ≡ Some y
at-behind [] y ys = refl
at-behind (x ∷ xs) y ys = at-behind xs y ys

take-behind : {A : Type 0} (xs ys : List A) → take (length xs) (xs ++ ys) ≡ xs
take-behind [] ys = refl
take-behind (x ∷ xs) ys = ap (λ zs. x ∷ zs) (take-behind xs ys)

all-at : (P : Tree → Type 0) (xs : List Tree) (k : ℕ) (x : Tree) → slice_get xs k ≡ Some x → All P xs → P x
all-at P xs k x at h = subst P (get_or_from_slice_get xs k x x at) (h k x (slice_get_within xs k x at))

next-terms : (done rest : List Node) → IsArena (done ++ rest) → length (done ++ rest) < 2 ^ 64 → All IsTerm (trees_of (done ++ rest)) → AreAsDeep done → AreNextTerms done rest
next-terms done [] a few fit deep = tt
next-terms done (n ∷ rest) a few fit deep = (
  record {
    children = children;
    numbers = node-numbers (length done) done n depth_limit (omega (arith, few, length-append done (n ∷ rest))) (below_node (done ++ n ∷ rest) (length done) n a at) fits;
    other = λ there.
        let old = at_contains done n there in
        let same : old.0 ≡ length done = a.distinct old.0 (length done) n (at-append done (n ∷ rest) old.0 n old.1) at in
        let low : old.0 < length done = slice_get_within done old.0 n old.1 in
        absurd (omega (arith, same, low));
    depth = node-depth done n depth_limit children deep fits;
  },
  next-terms (done ++ n ∷ []) rest (subst IsArena more a) (subst (λ (ns : List Node). length ns < 2 ^ 64) more few) (subst (λ (ns : List Node). All IsTerm (trees_of ns)) more fit) (deep-more done n children deep),
)
  where
    at : slice_get (done ++ n ∷ rest) (length done) ≡ Some n
    at = at-behind done n rest

    more : done ++ n ∷ rest ≡ (done ++ n ∷ []) ++ rest
    more = sym (append_assoc done (n ∷ []) rest)

    children : AreChildren done n
    children = subst (λ (ns : List Node). AreChildren ns n) (take-behind done (n ∷ rest)) (a.children (length done) n at)

    fits : IsTerm (tree_over (trees_of done) n)
    fits = subst IsTerm (same_tree_over done (n ∷ rest) n children)
        (all-at IsTerm (trees_of (done ++ n ∷ rest)) (length done) (tree_over (trees_of (done ++ n ∷ rest)) n) (tree_of-node (done ++ n ∷ rest) (length done) n a at) fit)

-- an arena of fewer than 2 ^ 64 terms, each of which has a text, is a table
pub is-table : (ns : List Node) → IsArena ns → length ns < 2 ^ 64 → All IsTerm (trees_of ns) → IsTable ns
is-table ns a few fit = next-terms [] ns a few fit deep-none

-- .. so one into which only such terms were put is
pub new-table : (terms : List Tree) (ns : List Node) → IsArena ns → length ns < 2 ^ 64 → All IsTerm terms → AreTermsPutIn [] terms ns → IsTable ns
unfolding trees_of
new-table terms ns a few fit put = is-table ns a few (all-put IsTerm [] (flat_map subterms terms) (trees_of ns) put (All-nil IsTerm) (all-subterms-fit depth_limit terms fit))
