-- Groups, row by row.
use Rattle.std.proofs.Common.{◌≡◌, ℕ, suc, Bool, true, false, List, codes, Option, Some, None, Result, Ok, Err, refl, sym, ap, subst, ◌∙◌}
use Rattle.mc_text.specs.Tokens.{Tok}
use Rattle.mc_text.specs.Reading.{Reader, ◌>>=◌, pair, made, one, atom_of, refused, many, goes_on}
use Rattle.mc_text.specs.inner.Reading.{eol, keyed, with_prefix}
use Rattle.mc_text.proofs.Turns.{many-fails}
use Rattle.rv_words.specs.declared.range.Range.{Range}
use Rattle.tailrec_lang.specs.declared.group.Exit.{Exit}
use Rattle.tailrec_lang.specs.Tree.{BodyTree, DefTree, GroupTree}
use Rattle.group_text.specs.Limits.{def_limit, nesting_limit}
use Rattle.group_text.specs.declared.read_error.ReadError.{ReadError}
use Rattle.group_text.specs.declared.read_error.ReadError.TheVariants as halt
use Rattle.group_text.specs.inner.Rows.{RowPosition, RowPositions, tokens, RowsGive}
use Rattle.group_text.specs.Version.{Version}
use Rattle.group_text.specs.inner.Reading.{Head, name_of, regs_row, mems_row, code_row, head_at, group_of, group_at, own_defs, next_at, body_at, def_at, def_start, is_def, title_row, turn_at}
use Rattle.group_text.specs.inner.GroupRows.{FirstTree, End, Named, end_of, name_row, first_row, more_head, behind_first}
use Rattle.group_text.proofs.OwnDefs.{Defs, judge, guard}
use Rattle.group_text.proofs.Joins.{AllOk, AllBad, AllSo, Kept, ok-with}
use Rattle.group_text.proofs.BodyJoins.{by-rows, keyed-rows, give-alike, err-first, err-second, both-ok, pair-first, pair-second}

abbrev Out : Type 0 → Type 0
Out Y = Result (Y × List Tok) (List Tok)

-- ---- the rows behind a group's name

abbrev HeadRows : Type 0
HeadRows = (Unit {0} × (List ℕ × Unit {0})) × ((Unit {0} × (ℕ × Unit {0})) × (Unit {0} × (List Range × Unit {0})))

abbrev NameRow : Type 0
NameRow = List ℕ × Unit {0}

abbrev head_from : NameRow → HeadRows → Head
head_from n x = record { name = n.0; regs = x.0.1.0; mems = x.1.0.1.0; code = x.1.1.1.0 }

abbrev three_rows : Version → Reader HeadRows
three_rows ver = pair regs_row (pair (mems_row ver) code_row)

-- the definitions behind a head, as they stand in a group
abbrev with-defs : Head → Out (List DefTree) → Out (Option GroupTree)
with-defs h q =
    ◌>>=◌ {A = GroupTree × List Tok} {B = Option GroupTree × List Tok}
    (◌>>=◌ {A = (Head × List DefTree) × List Tok} {B = GroupTree × List Tok} (◌>>=◌ {A = List DefTree × List Tok} {B = (Head × List DefTree) × List Tok} q (λ y. Ok ((h, y.0), y.1))) (λ p. Ok (group_of p.0.0 p.0.1, p.1)))
    (λ p. Ok (Some p.0, p.1))

-- and as they are read behind its rows
abbrev behind-defs : FirstTree → Head → Out (List DefTree) → Out (Option GroupTree)
behind-defs t h q =
    ◌>>=◌ {A = (FirstTree × Option GroupTree) × List Tok} {B = Option GroupTree × List Tok}
    (◌>>=◌ {A = Option GroupTree × List Tok} {B = (FirstTree × Option GroupTree) × List Tok}
    (◌>>=◌ {A = (Head × List DefTree) × List Tok} {B = Option GroupTree × List Tok} (◌>>=◌ {A = List DefTree × List Tok} {B = (Head × List DefTree) × List Tok} q (λ y. Ok ((h, y.0), y.1))) (λ p. Ok (Some (group_of p.0.0 p.0.1), p.1)))
    (λ q. Ok ((t, q.0), q.1)))
    (λ p. Ok (p.0.1, p.1))

same-defs : (t : FirstTree) (h : Head) (q : Out (List DefTree)) → with-defs h q ≡ behind-defs t h q
same-defs t h (Ok p) = refl
same-defs t h (Err bad) = refl

-- a head's further rows, as they stand in a group
abbrev with-three : NameRow → Out HeadRows → Out (Option GroupTree)
with-three n q =
    ◌>>=◌ {A = GroupTree × List Tok} {B = Option GroupTree × List Tok}
    (◌>>=◌ {A = (Head × List DefTree) × List Tok} {B = GroupTree × List Tok}
    (◌>>=◌ {A = Head × List Tok} {B = (Head × List DefTree) × List Tok}
    (◌>>=◌ {A = (NameRow × HeadRows) × List Tok} {B = Head × List Tok} (◌>>=◌ {A = HeadRows × List Tok} {B = (NameRow × HeadRows) × List Tok} q (λ y. Ok ((n, y.0), y.1))) (λ p. Ok (record { name = p.0.0.0; regs = p.0.1.0.1.0; mems = p.0.1.1.0.1.0; code = p.0.1.1.1.1.0 }, p.1)))
    (λ p. ◌>>=◌ {A = List DefTree × List Tok} {B = (Head × List DefTree) × List Tok} (own_defs p.1) (λ y. Ok ((p.0, y.0), y.1))))
    (λ p. Ok (group_of p.0.0 p.0.1, p.1)))
    (λ p. Ok (Some p.0, p.1))

abbrev behind-three : NameRow → Out HeadRows → Out (Option GroupTree)
behind-three n q =
    ◌>>=◌ {A = (FirstTree × Option GroupTree) × List Tok} {B = Option GroupTree × List Tok}
    (◌>>=◌ {A = Option GroupTree × List Tok} {B = (FirstTree × Option GroupTree) × List Tok}
    (◌>>=◌ {A = (Head × List DefTree) × List Tok} {B = Option GroupTree × List Tok}
    (◌>>=◌ {A = Head × List Tok} {B = (Head × List DefTree) × List Tok}
    (◌>>=◌ {A = HeadRows × List Tok} {B = Head × List Tok} q (λ p. Ok (record { name = n.0; regs = p.0.0.1.0; mems = p.0.1.0.1.0; code = p.0.1.1.1.0 }, p.1)))
    (λ p. ◌>>=◌ {A = List DefTree × List Tok} {B = (Head × List DefTree) × List Tok} (own_defs p.1) (λ y. Ok ((p.0, y.0), y.1))))
    (λ p. Ok (Some (group_of p.0.0 p.0.1), p.1)))
    (λ q. Ok ((Named n.0, q.0), q.1)))
    (λ p. Ok (p.0.1, p.1))

same-three : (n : NameRow) (q : Out HeadRows) → with-three n q ≡ behind-three n q
same-three n (Ok p) = same-defs (Named n.0) (head_from n p.0) (own_defs p.1)
same-three n (Err bad) = refl

-- the row of the name, as it stands in a group
abbrev with-name : Version → Out NameRow → Out (Option GroupTree)
with-name ver q =
    ◌>>=◌ {A = GroupTree × List Tok} {B = Option GroupTree × List Tok}
    (◌>>=◌ {A = (Head × List DefTree) × List Tok} {B = GroupTree × List Tok}
    (◌>>=◌ {A = Head × List Tok} {B = (Head × List DefTree) × List Tok}
    (◌>>=◌ {A = (NameRow × HeadRows) × List Tok} {B = Head × List Tok} (◌>>=◌ {A = NameRow × List Tok} {B = (NameRow × HeadRows) × List Tok} q (λ p. ◌>>=◌ {A = HeadRows × List Tok} {B = (NameRow × HeadRows) × List Tok} (three_rows ver p.1) (λ y. Ok ((p.0, y.0), y.1))))
    (λ p. Ok (record { name = p.0.0.0; regs = p.0.1.0.1.0; mems = p.0.1.1.0.1.0; code = p.0.1.1.1.1.0 }, p.1)))
    (λ p. ◌>>=◌ {A = List DefTree × List Tok} {B = (Head × List DefTree) × List Tok} (own_defs p.1) (λ y. Ok ((p.0, y.0), y.1))))
    (λ p. Ok (group_of p.0.0 p.0.1, p.1)))
    (λ p. Ok (Some p.0, p.1))

abbrev behind-name : Version → Out NameRow → Out (Option GroupTree)
behind-name ver q =
    ◌>>=◌ {A = (FirstTree × Option GroupTree) × List Tok} {B = Option GroupTree × List Tok}
    (◌>>=◌ {A = FirstTree × List Tok} {B = (FirstTree × Option GroupTree) × List Tok} (◌>>=◌ {A = NameRow × List Tok} {B = FirstTree × List Tok} q (λ p. Ok (Named p.0.0, p.1)))
    (λ p. ◌>>=◌ {A = Option GroupTree × List Tok} {B = (FirstTree × Option GroupTree) × List Tok} (behind_first ver p.0 p.1) (λ q. Ok ((p.0, q.0), q.1))))
    (λ p. Ok (p.0.1, p.1))

same-name : (ver : Version) (q : Out NameRow) → with-name ver q ≡ behind-name ver q
same-name ver (Ok p) = same-three p.0 (three_rows ver p.1)
same-name ver (Err bad) = refl

group-rows : (ver : Version) (ts : List Tok) → made Some (group_at ver) ts ≡ by-rows name_row (behind_first ver) ts
unfolding group_at head_at
group-rows ver ts = same-name ver (pair (one (atom_of name_of)) eol ts)

abbrev ending : Out (Unit {0}) → Out (Option GroupTree)
ending q = ◌>>=◌ {A = Unit {0} × List Tok} {B = Option GroupTree × List Tok} q (λ p. Ok (None, p.1))

abbrev behind-ending : Version → Out (Unit {0}) → Out (Option GroupTree)
behind-ending ver q =
    ◌>>=◌ {A = (FirstTree × Option GroupTree) × List Tok} {B = Option GroupTree × List Tok}
    (◌>>=◌ {A = FirstTree × List Tok} {B = (FirstTree × Option GroupTree) × List Tok} (◌>>=◌ {A = Unit {0} × List Tok} {B = FirstTree × List Tok} q (λ p. Ok (End, p.1)))
    (λ p. ◌>>=◌ {A = Option GroupTree × List Tok} {B = (FirstTree × Option GroupTree) × List Tok} (behind_first ver p.0 p.1) (λ q. Ok ((p.0, q.0), q.1))))
    (λ p. Ok (p.0.1, p.1))

same-ending : (ver : Version) (q : Out (Unit {0})) → ending q ≡ behind-ending ver q
same-ending ver (Ok p) = refl
same-ending ver (Err bad) = refl

-- a group, or the end of the text, is read row by row
pub next-rows : (ver : Version) (ts : List Tok) → next_at ver ts ≡ by-rows first_row (behind_first ver) ts
unfolding next_at first_row
next-rows ver =
    keyed-rows (codes "end") (made (λ _. None) eol) (keyed (codes "group") (made Some (group_at ver)) refused) end_of (keyed (codes "group") name_row refused) (behind_first ver) (λ ts. same-ending ver (eol ts))
    (keyed-rows (codes "group") (made Some (group_at ver)) refused name_row refused (behind_first ver) (group-rows ver) (λ ts. refl))

-- ---- what is read row by row

module _ {X Y : Type 0} (r : Reader Y) (a : Reader X) (next : X → Reader Y) (same : (ts : List Tok) → r ts ≡ by-rows a next ts) (old mid : RowPositions) where
  pub rows-first : {A W : Type 0} (v : A → X) (w : W → Y) (e : ReadError) → RowsGive v (Err e) old mid a → RowsGive w (Err e) old mid r
  rows-first v w e g = give-alike w (Err e) old mid r (by-rows a next) same (err-first v w (λ (x : X × Y). x.1) e old mid a next g)

  pub rows-second : {B W : Type 0} (v : B → Y) (w : W → Y) (e : ReadError) (new : RowPositions) (row : X) → AllOk a row old mid → RowsGive v (Err e) mid new (next row) → RowsGive w (Err e) old new r
  rows-second v w e new row h g = give-alike w (Err e) old new r (by-rows a next) same (err-second v w (λ (x : X × Y). x.1) e old mid new a next row h g)

  pub rows-ok : (new : RowPositions) (row : X) (z : Y) → AllOk a row old mid → AllOk (next row) z mid new → AllOk r z old new
  rows-ok new row z h g = give-alike (λ (z : Y). z) (Ok z) old new r (by-rows a next) same (both-ok (λ (x : X × Y). x.1) old mid new a next row z h g)

pub item-was : {X Y : Type 0} (view : X → Y) (r : Reader Y) (old mid : RowPositions) (x y : X) → x ≡ y → AllOk r (view x) old mid → AllOk r (view y) old mid
item-was {X} view r old mid x y e h = subst (λ (z : X). AllOk r (view z) old mid) e h

-- ---- definitions

abbrev pub DefStart : Type 0
DefStart = Unit {0} × (ℕ × (List Exit × Unit {0}))

abbrev pub def-of : DefStart × BodyTree → DefTree
def-of x = record { entry = x.0.1.0; exits = x.0.1.1.0; body = x.1 }

pub def-is : (ts : List Tok) → def_at ts ≡ made def-of (pair def_start (body_at nesting_limit)) ts
unfolding def_at
def-is ts = refl

-- ---- the definitions of a group

abbrev Now : Type 0
Now = List Tok → Out (List DefTree)

module _ (old mid : RowPositions) (now : Now) (told : AllSo (many def_limit is_def def_at) old mid now) where
  -- where no further one is read
  pub defs-bad : (new : RowPositions) → Kept mid new → ((q : RowPosition) → new q → (ts : List Tok) → now (tokens q) ≡ many def_limit is_def def_at ts → own_defs ts ≡ Err (tokens q)) → AllBad own_defs old new
  defs-bad new kept ends q may =
      let k = told q (kept q may) in
      record { spot = k.spot; may = k.may; bad = tokens q; is = ends q may (tokens k.spot) k.is; row = refl; total = k.total }

  pub defs-ok : (new : RowPositions) (ds : List DefTree) → Kept mid new → ((q : RowPosition) → new q → (ts : List Tok) → now (tokens q) ≡ many def_limit is_def def_at ts → own_defs ts ≡ Ok (ds, tokens q)) → AllOk own_defs ds old new
  defs-ok new ds kept ends q may =
      let k = told q (kept q may) in
      record { spot = k.spot; may = k.may; is = ends q may (tokens k.spot) k.is; way = k.way; total = k.total }

  -- where one could not be read
  pub defs-stopped : {X Z : Type 0} (view : X → DefTree) (views : Z → List DefTree) (e : ReadError) (held new : RowPositions) → Kept mid held
      → ((q : RowPosition) → held q → (bad ts : List Tok) → def_at (tokens q) ≡ Err bad → now (tokens q) ≡ many def_limit is_def def_at ts → own_defs ts ≡ Err bad)
      → RowsGive view (Err e) held new def_at → RowsGive views (Err e) old new own_defs
  defs-stopped view views halt.Bad held new kept fails g = λ q may.
      let h = g q may in
      let k = told h.spot (kept h.spot h.may) in
      record { spot = k.spot; may = k.may; bad = h.bad; is = fails h.spot h.may h.bad (tokens k.spot) h.is k.is; row = h.row; total = k.total ∙ h.total }
  defs-stopped view views halt.Fault held new kept fails g = tt
  defs-stopped view views halt.NoMemory held new kept fails g = tt

pub def-failed : (n m : ℕ) (front : List DefTree) (ts bad old : List Tok) → n ≡ suc m → goes_on is_def ts ≡ true → def_at ts ≡ Err bad → with_prefix front (many n is_def def_at ts) ≡ many def_limit is_def def_at old → own_defs old ≡ Err bad
def-failed n m front ts bad old left g h told =
    ap (λ (q : Defs). judge (guard q)) (many-fails is_def def_at m front ts bad (many def_limit is_def def_at old) g h
    (ap (λ (k : ℕ). with_prefix front (many k is_def def_at ts)) (sym left) ∙ told))

module _ (old mid : RowPositions) where
  abbrev bodies : DefStart → Reader BodyTree
  bodies _ = body_at nesting_limit

  pub def-first : {A W : Type 0} (v : A → DefStart) (w : W → DefTree) (e : ReadError) → RowsGive v (Err e) old mid def_start → RowsGive w (Err e) old mid def_at
  def-first v w e g = give-alike w (Err e) old mid def_at (made def-of (pair def_start (body_at nesting_limit))) def-is (err-first v w def-of e old mid def_start bodies g)

  pub def-second : {B W : Type 0} (v : B → BodyTree) (w : W → DefTree) (e : ReadError) (new : RowPositions) (x : DefStart) → AllOk def_start x old mid → RowsGive v (Err e) mid new (body_at nesting_limit) → RowsGive w (Err e) old new def_at
  def-second v w e new x h g = give-alike w (Err e) old new def_at (made def-of (pair def_start (body_at nesting_limit))) def-is (err-second v w def-of e old mid new def_start bodies x h g)

  pub def-ok : (new : RowPositions) (x : DefStart) (y : BodyTree) → AllOk def_start x old mid → AllOk (body_at nesting_limit) y mid new → AllOk def_at (def-of (x, y)) old new
  def-ok new x y h g = give-alike (λ (d : DefTree). d) (Ok (def-of (x, y))) old new def_at (made def-of (pair def_start (body_at nesting_limit))) def-is (both-ok def-of old mid new def_start bodies x y h g)

-- ---- heads

abbrev pub Regs : Type 0
Regs = Unit {0} × (List ℕ × Unit {0})

abbrev pub Mems : Type 0
Mems = Unit {0} × (ℕ × Unit {0})

abbrev pub Ranges : Type 0
Ranges = Unit {0} × (List Range × Unit {0})

module _ (ver : Version) (name : List ℕ) (old mid : RowPositions) where
  abbrev more-of : Regs × (Mems × Ranges) → Head
  more-of x = record { name = name; regs = x.0.1.0; mems = x.1.0.1.0; code = x.1.1.1.0 }

  abbrev more : Regs → Reader (Mems × Ranges)
  more _ = pair (mems_row ver) code_row

  pub head-first : {A W : Type 0} (v : A → Regs) (w : W → Head) (e : ReadError) → RowsGive v (Err e) old mid regs_row → RowsGive w (Err e) old mid (more_head ver name)
  head-first v w e g = err-first v w more-of e old mid regs_row more g

  pub head-second : {B W : Type 0} (v : B → Mems) (w : W → Head) (e : ReadError) (new : RowPositions) (x : Regs) → AllOk regs_row x old mid → RowsGive v (Err e) mid new (mems_row ver) → RowsGive w (Err e) old new (more_head ver name)
  head-second v w e new x h g = err-second (λ (p : Mems × Ranges). p) w more-of e old mid new regs_row more x h (pair-first v (λ (p : Mems × Ranges). p) e mid new (mems_row ver) code_row g)

  pub head-third : {B W : Type 0} (v : B → Ranges) (w : W → Head) (e : ReadError) (next new : RowPositions) (x : Regs) (y : Mems) → AllOk regs_row x old mid → AllOk (mems_row ver) y mid next → RowsGive v (Err e) next new code_row → RowsGive w (Err e) old new (more_head ver name)
  head-third v w e next new x y h k g = err-second (λ (p : Mems × Ranges). p) w more-of e old mid new regs_row more x h (pair-second v (λ (p : Mems × Ranges). p) e mid next new (mems_row ver) code_row y k g)

  pub head-ok : (next new : RowPositions) (x : Regs) (y : Mems) (z : Ranges) → AllOk regs_row x old mid → AllOk (mems_row ver) y mid next → AllOk code_row z next new → AllOk (more_head ver name) (more-of (x, (y, z))) old new
  head-ok next new x y z h k g = both-ok more-of old mid new regs_row more x (y, z) h (ok-with (mems_row ver) (λ _. code_row) mid next y z new k g)

-- ---- groups

module _ (ver : Version) (name : List ℕ) (old mid : RowPositions) where
  abbrev some-group : Head × List DefTree → Option GroupTree
  some-group x = Some (group_of x.0 x.1)

  abbrev own : Head → Reader (List DefTree)
  own _ = own_defs

  pub group-first : {A W : Type 0} (v : A → Head) (w : W → Option GroupTree) (e : ReadError) → RowsGive v (Err e) old mid (more_head ver name) → RowsGive w (Err e) old mid (behind_first ver (Named name))
  group-first v w e g = err-first v w some-group e old mid (more_head ver name) own g

  pub group-second : {B W : Type 0} (v : B → List DefTree) (w : W → Option GroupTree) (e : ReadError) (new : RowPositions) (x : Head) → AllOk (more_head ver name) x old mid → RowsGive v (Err e) mid new own_defs → RowsGive w (Err e) old new (behind_first ver (Named name))
  group-second v w e new x h g = err-second v w some-group e old mid new (more_head ver name) own x h g

  pub group-ok : (new : RowPositions) (x : Head) (ds : List DefTree) → AllOk (more_head ver name) x old mid → AllOk own_defs ds mid new → AllOk (behind_first ver (Named name)) (Some (group_of x ds)) old new
  group-ok new x ds h g = both-ok some-group old mid new (more_head ver name) own x ds h g

-- ---- a call for a group

abbrev pub Title : Type 0
Title = Unit {0} × (Unit {0} × Unit {0})

module _ (ver : Version) (old mid : RowPositions) where
  abbrev titled : Title × Option GroupTree → Option GroupTree
  titled x = x.1

  abbrev nexts : Title → Reader (Option GroupTree)
  nexts _ = next_at ver

  pub turn-first : {A W : Type 0} (v : A → Title) (w : W → Option GroupTree) (e : ReadError) → RowsGive v (Err e) old mid (title_row ver) → RowsGive w (Err e) old mid (turn_at ver true)
  turn-first v w e g = err-first v w titled e old mid (title_row ver) nexts g

  pub turn-second : {X : Type 0} (w : X → Option GroupTree) (q : Result X ReadError) (new : RowPositions) (x : Title) → AllOk (title_row ver) x old mid → RowsGive w q mid new (next_at ver) → RowsGive w q old new (turn_at ver true)
  turn-second w (Ok y) new x h g = both-ok titled old mid new (title_row ver) nexts x (w y) h g
  turn-second w (Err e) new x h g = err-second w w titled e old mid new (title_row ver) nexts x h g

-- by whether the text begins here
pub begun : {X : Type 0} (ver : Version) (w : X → Option GroupTree) (q : Result X ReadError) (old new : RowPositions) (b : Bool) → b ≡ true → RowsGive w q old new (turn_at ver true) → RowsGive w q old new (turn_at ver b)
begun ver w q old new b e g = subst (λ (b : Bool). RowsGive w q old new (turn_at ver b)) (sym e) g

pub behind-begin : {X : Type 0} (ver : Version) (w : X → Option GroupTree) (q : Result X ReadError) (old new : RowPositions) (b : Bool) → b ≡ false → RowsGive w q old new (next_at ver) → RowsGive w q old new (turn_at ver b)
behind-begin ver w q old new b e g = subst (λ (b : Bool). RowsGive w q old new (turn_at ver b)) (sym e) g
