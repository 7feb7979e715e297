-- A table with one more term.
use Rattle.std.proofs.Common.{◌≡◌, ℕ, zero, suc, ◌<◌, ◌≤◌, Bool, true, false, cond, not, List, [], ◌∷◌, ◌++◌, length, Option, Some, None, Result, Ok, Err, refl, sym, ap, subst, ◌∙◌, arith}
use Rattle.std.specs.Prelude.{nat_le, ◌&&◌, Contains, slice_get, slice_index_or}
use Rattle.std.specs.Result.{IsErrAnd}
use Rattle.std.proofs.lemmas.Bool.{and_from}
use Rattle.mc_text.specs.Tokens.{Tok, Position}
use Rattle.mc_text.specs.Reading.{Reader, ◌>>=◌, or_else, pair, one}
use Rattle.mc_text.specs.inner.Reading.{is_eol, checked, eol}
use Rattle.mc_text.specs.Scanning.{tokens_at}
use Rattle.mc_text.specs.Outcome.{Gives}
use Rattle.mc_text.specs.declared.cursor.TokenError.{TokenError}
use Rattle.mc_text.specs.declared.cursor.TokenError.TheVariants as stop
use Rattle.group_text.specs.TermLimits.{depth_limit}
use Rattle.term_arena.specs.declared.node.Node.{Node}
use Rattle.term_arena.specs.Arena.{AreChildren, IsAdded, Was_there, Is_next, IsArena}
use Rattle.group_text.proofs.HeadLaws.{le-true, true-le}
use Rattle.short_text.specs.Table.{HasNumbers, depth_over, depths_of, IsTable}
use Rattle.short_text.specs.inner.ShortReading.{node_at, has_children, is_written_in, may_follow}
use Rattle.short_text.specs.inner.TableParts.{AreTableParts}
use Rattle.short_text.proofs.NodeLaws.{node-law}
use Rattle.short_text.proofs.TableLaws.{read-next, children-are, next-numbers, table-more, depths-more, other-unwritten, childless, too-deep, there-already}

-- ---- a node that was added

past-none : (ns : List Node) (k : ℕ) → length ns ≤ k → slice_get ns k ≡ None
past-none [] k le = refl
past-none (m ∷ ns) zero le = absurd (omega (arith, le))
past-none (m ∷ ns) (suc k) le = past-none ns k (omega (arith, le))

get-front : (ns more : List Node) (i : ℕ) → i < length ns → slice_get (ns ++ more) i ≡ slice_get ns i
get-front [] more i lt = absurd (omega (arith, lt))
get-front (m ∷ ns) more zero lt = refl
get-front (m ∷ ns) more (suc i) lt = get-front ns more i (omega (arith, lt))

get-last : (ns : List Node) (n : Node) → slice_get (ns ++ n ∷ []) (length ns) ≡ Some n
get-last [] n = refl
get-last (m ∷ ns) n = get-last ns n

index-get : (ns : List Node) (i : ℕ) (n : Node) → i < length ns → slice_get ns i ≡ Some (slice_index_or ns i n)
index-get [] i n lt = absurd (omega (arith, lt))
index-get (m ∷ ns) zero n lt = refl
index-get (m ∷ ns) (suc i) n lt = index-get ns i n (omega (arith, lt))

abbrev some : Node → Option Node
some n = Some n

-- .. isn't there, if its number is past those before
other-node : (ns ms : List Node) (n : Node) → ms ≡ ns ++ n ∷ [] → IsArena ms → Contains ns n → ⊥
other-node ns ms n is arena w =
    let at : slice_get ns w.0 ≡ Some n = index-get ns w.0 n w.1 ∙ ap some w.2 in
    let first : slice_get ms w.0 ≡ Some n = ap (λ (v : List Node). slice_get v w.0) is ∙ get-front ns (n ∷ []) w.0 w.1 ∙ at in
    let last : slice_get ms (length ns) ≡ Some n = ap (λ (v : List Node). slice_get v (length ns)) is ∙ get-last ns n in
    let same : w.0 ≡ length ns = arena.distinct w.0 (length ns) n first last in
    omega (arith, w.1, same)

pub added-next : (ns ms : List Node) (n : Node) (k : ℕ) → IsAdded ns n k ms → length ns ≤ k → ms ≡ ns ++ n ∷ []
added-next ns ms n k (Was_there at same) le = absurd (let none = past-none ns k le in let clash : some n ≡ None = sym at ∙ none in cc)
added-next ns ms n k (Is_next at more) le = more

-- ---- the parts of the table

pub follows : (nodes : List Node) (depths : List ℕ) (arena ms : List Node) (n : Node) (k : ℕ) → AreTableParts nodes depths arena → HasNumbers n → has_children nodes n ≡ true → depth_over depths n ≤ depth_limit → IsAdded arena n k ms → IsArena ms → length nodes ≤ k → may_follow nodes n ≡ true
unfolding may_follow
follows nodes depths arena ms n k parts numbers children deep added is le =
    let len : length arena ≡ length nodes = ap length parts.kept in
    let more : ms ≡ nodes ++ n ∷ [] = added-next arena ms n k added (omega (arith, len, le)) ∙ ap (λ (v : List Node). v ++ n ∷ []) parts.kept in
    and_from (has_children nodes n) (not (is_written_in nodes n) && nat_le (depth_over (depths_of nodes) n) depth_limit) children
    (and_from (not (is_written_in nodes n)) (nat_le (depth_over (depths_of nodes) n) depth_limit)
    (other-unwritten nodes n (next-numbers [] nodes parts.terms) numbers (other-node nodes ms n more is) (is_written_in nodes n) refl)
    (true-le (depth_over (depths_of nodes) n) depth_limit (subst (λ (ds : List ℕ). depth_over ds n ≤ depth_limit) parts.measured deep)))

pub parts-more : (nodes : List Node) (depths : List ℕ) (arena ms : List Node) (n : Node) (k : ℕ) → AreTableParts nodes depths arena → HasNumbers n → may_follow nodes n ≡ true → IsAdded arena n k ms → length nodes ≤ k → AreTableParts (nodes ++ n ∷ []) (depths ++ depth_over depths n ∷ []) ms
parts-more nodes depths arena ms n k parts numbers may added le =
    let len : length arena ≡ length nodes = ap length parts.kept in
    record {
      terms = table-more nodes n parts.terms (read-next nodes n (numbers, may));
      measured = ap (λ (ds : List ℕ). ds ++ depth_over ds n ∷ []) parts.measured ∙ sym (depths-more nodes n);
      kept = added-next arena ms n k added (omega (arith, len, le)) ∙ ap (λ (v : List Node). v ++ n ∷ []) parts.kept;
    }

-- ---- what the table's own functions found

pub no-parts : (nodes : List Node) (depths : List ℕ) (arena : List Node) → nodes ≡ [] → depths ≡ [] → arena ≡ [] → AreTableParts nodes depths arena
unfolding depths_of
no-parts nodes depths arena e f g = record {
  terms = subst IsTable (sym e) tt;
  measured = f ∙ ap depths_of (sym e);
  kept = g ∙ sym e;
}

le-false : (a b : ℕ) → b < a → nat_le a b ≡ false
le-false a b lt = by (nat_le a b) refl
  where
    by : (v : Bool) → nat_le a b ≡ v → nat_le a b ≡ false
    by true e = absurd (let le = le-true a b e in omega (arith, lt, le))
    by false e = e

module _ (self nodes : List Node) (depths : List ℕ) (arena : List Node) (n : Node) (parts : AreTableParts nodes depths arena) (same : nodes ≡ self) where
  abbrev refused_here : Type 0
  refused_here = may_follow self n ≡ false

  here : (v : Bool) → may_follow nodes n ≡ v → may_follow self n ≡ v
  here v e = ap (λ (ns : List Node). may_follow ns n) (sym same) ∙ e

  pub none-childless : (seen : List Node) (b : Bool) → seen ≡ nodes → b ≡ has_children seen n → b ≡ false → refused_here
  none-childless seen b at found missing = here false (childless nodes n (ap (λ (ns : List Node). has_children ns n) (sym at) ∙ sym found ∙ missing))

  children-seen : (seen : List Node) (b : Bool) → seen ≡ nodes → b ≡ has_children seen n → b ≡ true → has_children nodes n ≡ true
  children-seen seen b at found there = ap (λ (ns : List Node). has_children ns n) (sym at) ∙ sym found ∙ there

  pub kept-children : (seen : List Node) (b : Bool) → seen ≡ nodes → b ≡ has_children seen n → b ≡ true → AreChildren arena n
  kept-children seen b at found there = subst (λ (ns : List Node). AreChildren ns n) (sym parts.kept) (children-are nodes n (children-seen seen b at found there))

  pub none-deep : (measured : List ℕ) (d : ℕ) → measured ≡ depths → d ≡ depth_over measured n → depth_limit < d → refused_here
  none-deep measured d at found deep =
      let is : depth_over (depths_of nodes) n ≡ d = ap (λ (ds : List ℕ). depth_over ds n) (sym (at ∙ parts.measured)) ∙ sym found in
      here false (too-deep nodes n (ap (λ (k : ℕ). nat_le k depth_limit) is ∙ le-false d depth_limit deep))

  -- it has another number than the next, so it was there before
  pub was-there : (ms : List Node) (k len : ℕ) → IsAdded arena n k ms → len ≡ length nodes → (k ≡ len → ⊥) → (ms ≡ arena) × refused_here
  was-there ms k len (Was_there at is) long other = (is, here false (there-already nodes n k (ap (λ (v : List Node). slice_get v k) (sym parts.kept) ∙ at)))
  was-there ms k len (Is_next at more) long other = absurd (other (at ∙ ap length parts.kept ∙ sym long))

  -- the table is as it was
  pub same-parts : (ns : List Node) (ds : List ℕ) (ms : List Node) → ns ≡ nodes → ds ≡ depths → ms ≡ arena → AreTableParts ns ds ms
  same-parts ns ds ms e f g = record {
    terms = subst IsTable (sym e) parts.terms;
    measured = f ∙ parts.measured ∙ ap depths_of (sym e);
    kept = g ∙ parts.kept ∙ sym e;
  }

  module _ (numbers : HasNumbers n) (seen : List Node) (b : Bool) (at : seen ≡ nodes) (found : b ≡ has_children seen n) (there : b ≡ true) (measured : List ℕ) (d : ℕ) (over : measured ≡ depths) (deep : d ≡ depth_over measured n) (flat : d ≤ depth_limit)
      (ms : List Node) (k len : ℕ) (added : IsAdded arena n k ms) (is : IsArena ms) (long : len ≡ length nodes) (le : len ≤ k) where
    past : length nodes ≤ k
    past = omega (arith, long, le)

    depth-is : d ≡ depth_over depths n
    depth-is = deep ∙ ap (λ (ds : List ℕ). depth_over ds n) over

    may : may_follow nodes n ≡ true
    may = follows nodes depths arena ms n k parts numbers (children-seen seen b at found there) (subst (λ (v : ℕ). v ≤ depth_limit) depth-is flat) added is past

    pub follows-here : (pushed : List Node) → pushed ≡ nodes ++ n ∷ [] → (pushed ≡ self ++ n ∷ []) × (may_follow self n ≡ true)
    follows-here pushed e = (e ∙ ap (λ (ns : List Node). ns ++ n ∷ []) same, here true may)

    pub parts-here : (pushed : List Node) (ds : List ℕ) → pushed ≡ nodes ++ n ∷ [] → ds ≡ depths ++ d ∷ [] → AreTableParts pushed ds ms
    parts-here pushed ds e f =
        let more : ds ≡ depths ++ depth_over depths n ∷ [] = f ∙ ap (λ (v : ℕ). depths ++ v ∷ []) depth-is in
        let whole : AreTableParts (nodes ++ n ∷ []) (depths ++ depth_over depths n ∷ []) ms = parts-more nodes depths arena ms n k parts numbers may added past in
        record {
          terms = subst IsTable (sym e) whole.terms;
          measured = more ∙ whole.measured ∙ ap depths_of (sym e);
          kept = whole.kept ∙ sym e;
        }

-- ---- a node that is read

abbrev Out : Type 0 → Type 0
Out Y = Result (Y × List Tok) (List Tok)

abbrev by_test : Node → List Tok → Bool → Out Node
by_test n ts b = cond b (Ok (n, ts)) (Err ts)

abbrev tested : List Node → Out Node → Out Node
tested ns q = ◌>>=◌ {A = Node × List Tok} {B = Node × List Tok} q (λ p. by_test p.0 p.1 (may_follow ns p.0))

abbrev then_end : Out Node → Out (Node × Unit {0})
then_end q = ◌>>=◌ {A = Node × List Tok} {B = (Node × Unit {0}) × List Tok} q (λ p. ◌>>=◌ {A = Unit {0} × List Tok} {B = (Node × Unit {0}) × List Tok} (eol p.1) (λ r. Ok ((p.0, r.0), r.1)))

abbrev ended : Node → List Tok → Out (Unit {0}) → Out (Node × Unit {0})
ended n ts q = ◌>>=◌ {A = Unit {0} × List Tok} {B = (Node × Unit {0}) × List Tok} q (λ r. Ok ((n, r.0), r.1))

pub read-numbers : (old new : Position) (n : Node) → node_at (tokens_at old) ≡ Ok (n, tokens_at new) → HasNumbers n
read-numbers old new n e = (node-law.takes (tokens_at old) n (tokens_at new) e).1

abbrev err : List Tok → Out (Unit {0})
err bad = Err bad

not-end : (t : Tok) (ts bad : List Tok) (o : Option (Unit {0})) → or_else o ts (t ∷ ts) ≡ Err bad → bad ≡ t ∷ ts
not-end t ts bad (Some x) e = absurd cc
not-end t ts bad None e = cc

eol-stops : (ts bad : List Tok) → eol ts ≡ Err bad → bad ≡ ts
unfolding one
eol-stops [] bad e = cc
eol-stops (t ∷ ts) bad e = not-end t ts bad (is_eol t) e

abbrev pub nothing : Unit {0} → Unit {0}
nothing x = tt

module _ (ns : List Node) (n : Node) (old mid : Position) (read : node_at (tokens_at old) ≡ Ok (n, tokens_at mid)) where
  abbrev last_node_at : Reader (Node × Unit {0})
  last_node_at = pair (checked (may_follow ns) node_at) eol

  tested-is : (b : Bool) → may_follow ns n ≡ b → last_node_at (tokens_at old) ≡ then_end (by_test n (tokens_at mid) b)
  tested-is b e = ap (λ (q : Out Node). then_end (tested ns q)) read ∙ ap (λ (v : Bool). then_end (by_test n (tokens_at mid) v)) e

  pub last-taken : (new : Position) → may_follow ns n ≡ true → eol (tokens_at mid) ≡ Ok (tt, tokens_at new) → last_node_at (tokens_at old) ≡ Ok ((n, tt), tokens_at new)
  last-taken new may end = tested-is true may ∙ ap (ended n (tokens_at mid)) end

  pub last-refused : may_follow ns n ≡ false → last_node_at (tokens_at old) ≡ Err (tokens_at mid)
  last-refused may = tested-is false may

  -- whether it may stand there or not, no end of the line follows
  none-ends : eol (tokens_at mid) ≡ Err (tokens_at mid) → last_node_at (tokens_at old) ≡ Err (tokens_at mid)
  none-ends none = by (may_follow ns n) refl
    where
      by : (b : Bool) → may_follow ns n ≡ b → last_node_at (tokens_at old) ≡ Err (tokens_at mid)
      by true e = tested-is true e ∙ ap (ended n (tokens_at mid)) none
      by false e = tested-is false e

  abbrev last_node : Node → Node × Unit {0}
  last_node m = (m, tt)

  pub last-stopped : (new : Position) (f : TokenError) (result : Result Node TokenError) → IsErrAnd result (λ e. e ≡ f) → Gives nothing (Err f) mid new eol → Gives last_node result old mid last_node_at
  last-stopped new f (Ok m) is h = absurd is
  last-stopped new stop.Bad (Err g) is h =
      subst (λ (e : TokenError). Gives last_node (Err e) old mid last_node_at) (sym is) (none-ends (h ∙ ap (λ (ts : List Tok). err ts) (eol-stops (tokens_at mid) (tokens_at new) h)))
  last-stopped new stop.NoMemory (Err g) is h = subst (λ (e : TokenError). Gives last_node (Err e) old mid last_node_at) (sym is) tt
