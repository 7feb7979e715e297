-- Bodies, row by row.
use Rattle.std.proofs.Common.{◌≡◌, ℕ, zero, suc, ◌-◌, ◌<◌, ◌^◌, Bool, true, false, cond, eqb, List, [], ◌∷◌, codes, Result, Ok, Err, refl, sym, ap, subst, ◌∙◌, arith}
use Rattle.std.specs.Result.{IsErrAnd}
use Rattle.std.specs.Str.{bytes_eq}
use Rattle.mc_text.specs.Tokens.{Tok, Left, Right, Semi, Atom, Eol, Done, Stuck}
use Rattle.mc_text.specs.Reading.{Reader, ◌>>=◌, pair, with, made, refused, star}
use Rattle.mc_text.specs.inner.Reading.{keyed, eol, times, with_prefix, number_at}
use Rattle.mc_text.proofs.Turns.{times-fails}
use Rattle.word_terms.specs.Tree.{CondTree}
use Rattle.group_text.specs.TermLimits.{depth_limit}
use Rattle.group_text.specs.TermReading.{cond_at}
use Rattle.tailrec_lang.specs.Tree.{BodyTree, StepTree, ValuesTree, Branch, Call, Again, Leave, with_steps, arms_of}
use Rattle.group_text.specs.inner.Reading.{is_step, step_at, body_at, end_at, arm_at, arm_bound, values_at, mark_row, where_room, branch_at, call_at, call_row, leave_at}
use Rattle.group_text.specs.declared.read_error.ReadError.{ReadError}
use Rattle.group_text.specs.declared.read_error.ReadError.TheVariants as stop
use Rattle.group_text.specs.declared.body_rows.EndRow.{EndRow}
use Rattle.group_text.specs.inner.Rows.{RowPositions, tokens, total, RowsGive}
use Rattle.group_text.specs.inner.BodyRows.{end_row_tree, EndTree, If, CallOf, AgainWith, LeaveBy, end_row, if_row, call_of, leave_by, behind}
use Rattle.group_text.proofs.RowAt.{way-same}
use Rattle.group_text.proofs.Joins.{AllOk, AllBad, ok-with, bad-with, bad-first, ok-made, bad-made}

abbrev Out : Type 0 → Type 0
Out Y = Result (Y × List Tok) (List Tok)

-- ---- answers

pub give-alike : {X Y : Type 0} (view : X → Y) (result : Result X ReadError) (old new : RowPositions) (r q : Reader Y) → ((ts : List Tok) → r ts ≡ q ts) → RowsGive view result old new q → RowsGive view result old new r
give-alike view (Ok x) old new r q e g = λ p may. let h = g p may in record { spot = h.spot; may = h.may; is = e (tokens h.spot) ∙ h.is; way = h.way; total = h.total }
give-alike view (Err stop.Bad) old new r q e g = λ p may. let h = g p may in record { spot = h.spot; may = h.may; bad = h.bad; is = e (tokens h.spot) ∙ h.is; row = h.row; total = h.total }
give-alike view (Err stop.Fault) old new r q e g = tt
give-alike view (Err stop.NoMemory) old new r q e g = tt

pub err-first : {A X Y Z W : Type 0} (v : A → X) (w : W → Z) (f : X × Y → Z) (e : ReadError) (old mid : RowPositions) (a : Reader X) (b : X → Reader Y) → RowsGive v (Err e) old mid a → RowsGive w (Err e) old mid (made f (with a b))
err-first v w f stop.Bad old mid a b g = bad-made f (with a b) old mid (bad-first a b old mid g)
err-first v w f stop.Fault old mid a b g = tt
err-first v w f stop.NoMemory old mid a b g = tt

pub err-second : {B X Y Z W : Type 0} (v : B → Y) (w : W → Z) (f : X × Y → Z) (e : ReadError) (old mid new : RowPositions) (a : Reader X) (b : X → Reader Y) (x : X) → AllOk a x old mid → RowsGive v (Err e) mid new (b x) → RowsGive w (Err e) old new (made f (with a b))
err-second v w f stop.Bad old mid new a b x h g = bad-made f (with a b) old new (bad-with a b old mid x new h g)
err-second v w f stop.Fault old mid new a b x h g = tt
err-second v w f stop.NoMemory old mid new a b x h g = tt

pub both-ok : {X Y Z : Type 0} (f : X × Y → Z) (old mid new : RowPositions) (a : Reader X) (b : X → Reader Y) (x : X) (y : Y) → AllOk a x old mid → AllOk (b x) y mid new → AllOk (made f (with a b)) (f (x, y)) old new
both-ok f old mid new a b x y h g = ok-made f (with a b) old new (x, y) (ok-with a b old mid x y new h g)

pub err-made : {X Y Z W : Type 0} (v : X → Y) (w : W → Z) (f : Y → Z) (e : ReadError) (old new : RowPositions) (r : Reader Y) → RowsGive v (Err e) old new r → RowsGive w (Err e) old new (made f r)
err-made v w f stop.Bad old new r g = bad-made f r old new g
err-made v w f stop.Fault old new r g = tt
err-made v w f stop.NoMemory old new r g = tt

-- ---- the rows behind an end's row

-- a row's item, and what is read behind it
abbrev pub by-rows : {X Y : Type 0} → Reader X → (X → Reader Y) → Reader Y
by-rows {X} {Y} r next = made (λ (x : X × Y). x.1) (with r next)

pub keyed-rows : {X Y : Type 0} (k : List ℕ) (r s : Reader Y) (a b : Reader X) (next : X → Reader Y) → ((ts : List Tok) → r ts ≡ by-rows a next ts) → ((ts : List Tok) → s ts ≡ by-rows b next ts) → (ts : List Tok) → keyed k r s ts ≡ by-rows (keyed k a b) next ts
keyed-rows k r s a b next e f [] = f []
keyed-rows {X} {Y} k r s a b next e f (Atom x ∷ ts) = by (bytes_eq x k)
  where
    by : (c : Bool) → cond c (r ts) (s (Atom x ∷ ts)) ≡ ◌>>=◌ {A = (X × Y) × List Tok} {B = Y × List Tok} (◌>>=◌ {A = X × List Tok} {B = (X × Y) × List Tok} (cond c (a ts) (b (Atom x ∷ ts)))
        (λ p. ◌>>=◌ {A = Y × List Tok} {B = (X × Y) × List Tok} (next p.0 p.1) (λ q. Ok ((p.0, q.0), q.1)))) (λ p. Ok (p.0.1, p.1))
    by true = e ts
    by false = f (Atom x ∷ ts)
keyed-rows k r s a b next e f (Left ∷ ts) = f (Left ∷ ts)
keyed-rows k r s a b next e f (Right ∷ ts) = f (Right ∷ ts)
keyed-rows k r s a b next e f (Semi ∷ ts) = f (Semi ∷ ts)
keyed-rows k r s a b next e f (Eol ∷ ts) = f (Eol ∷ ts)
keyed-rows k r s a b next e f (Done ∷ ts) = f (Done ∷ ts)
keyed-rows k r s a b next e f (Stuck ∷ ts) = f (Stuck ∷ ts)

room-rows : (room : ℕ) (r : Reader BodyTree) (a : Reader EndTree) (body : Reader BodyTree) → ((ts : List Tok) → r ts ≡ by-rows a (behind body) ts) → (ts : List Tok) → where_room room r ts ≡ by-rows (where_room room a) (behind body) ts
room-rows room r a body e ts = by (eqb room 0)
  where
    by : (c : Bool) → cond c (Err ts) (r ts) ≡ ◌>>=◌ {A = (EndTree × BodyTree) × List Tok} {B = BodyTree × List Tok} (◌>>=◌ {A = EndTree × List Tok} {B = (EndTree × BodyTree) × List Tok} (cond c (Err ts) (a ts))
        (λ p. ◌>>=◌ {A = BodyTree × List Tok} {B = (EndTree × BodyTree) × List Tok} (behind body p.0 p.1) (λ q. Ok ((p.0, q.0), q.1)))) (λ p. Ok (p.0.1, p.1))
    by true = refl
    by false = e ts

-- a row's item put together, and what is read behind it
abbrev row-of : {A : Type 0} → (A → EndTree) → Reader BodyTree → Out A → Out BodyTree
row-of {A} f body q = ◌>>=◌ {A = (EndTree × BodyTree) × List Tok} {B = BodyTree × List Tok} (◌>>=◌ {A = EndTree × List Tok} {B = (EndTree × BodyTree) × List Tok} (◌>>=◌ {A = A × List Tok} {B = EndTree × List Tok} q (λ p. Ok (f p.0, p.1)))
    (λ p. ◌>>=◌ {A = BodyTree × List Tok} {B = (EndTree × BodyTree) × List Tok} (behind body p.0 p.1) (λ q. Ok ((p.0, q.0), q.1)))) (λ p. Ok (p.0.1, p.1))

if-rows : (body : Reader BodyTree) (ts : List Tok) → branch_at body ts ≡ by-rows if_row (behind body) ts
unfolding branch_at
if-rows body ts = by (pair (cond_at depth_limit) eol ts)
  where
    behind-it : (c : CondTree) (q : Out (BodyTree × ((Unit {0} × Unit {0}) × BodyTree))) → ◌>>=◌ {A = ((CondTree × Unit {0}) × (BodyTree × ((Unit {0} × Unit {0}) × BodyTree))) × List Tok} {B = BodyTree × List Tok}
        (◌>>=◌ {A = (BodyTree × ((Unit {0} × Unit {0}) × BodyTree)) × List Tok} {B = ((CondTree × Unit {0}) × (BodyTree × ((Unit {0} × Unit {0}) × BodyTree))) × List Tok} q (λ y. Ok (((c, tt), y.0), y.1))) (λ p. Ok (Branch p.0.0.0 p.0.1.0 p.0.1.1.1, p.1))
        ≡ ◌>>=◌ {A = (EndTree × BodyTree) × List Tok} {B = BodyTree × List Tok} (◌>>=◌ {A = BodyTree × List Tok} {B = (EndTree × BodyTree) × List Tok} (◌>>=◌ {A = (BodyTree × ((Unit {0} × Unit {0}) × BodyTree)) × List Tok} {B = BodyTree × List Tok} q (λ p. Ok (Branch c p.0.0 p.0.1.1, p.1))) (λ q. Ok ((If c, q.0), q.1))) (λ p. Ok (p.0.1, p.1))
    behind-it c (Ok p) = refl
    behind-it c (Err bad) = refl

    by : (q : Out (CondTree × Unit {0})) → ◌>>=◌ {A = ((CondTree × Unit {0}) × (BodyTree × ((Unit {0} × Unit {0}) × BodyTree))) × List Tok} {B = BodyTree × List Tok}
        (◌>>=◌ {A = (CondTree × Unit {0}) × List Tok} {B = ((CondTree × Unit {0}) × (BodyTree × ((Unit {0} × Unit {0}) × BodyTree))) × List Tok} q
        (λ p. ◌>>=◌ {A = (BodyTree × ((Unit {0} × Unit {0}) × BodyTree)) × List Tok} {B = ((CondTree × Unit {0}) × (BodyTree × ((Unit {0} × Unit {0}) × BodyTree))) × List Tok} (pair body (pair (mark_row (codes "else")) body) p.1) (λ y. Ok ((p.0, y.0), y.1)))) (λ p. Ok (Branch p.0.0.0 p.0.1.0 p.0.1.1.1, p.1))
        ≡ row-of (λ (x : CondTree × Unit {0}). If x.0) body q
    by (Ok p) = behind-it p.0.0 (pair body (pair (mark_row (codes "else")) body) p.1)
    by (Err bad) = refl

call-rows : (bound : ℕ) (body : Reader BodyTree) (ts : List Tok) → call_at bound body ts ≡ by-rows (call_of bound) (behind body) ts
unfolding call_at
call-rows bound body ts = by (call_row bound ts)
  where
    behind-it : (x : ℕ × (ℕ × ValuesTree)) (q : Out (List BodyTree)) → ◌>>=◌ {A = ((ℕ × (ℕ × ValuesTree)) × List BodyTree) × List Tok} {B = BodyTree × List Tok}
        (◌>>=◌ {A = List BodyTree × List Tok} {B = ((ℕ × (ℕ × ValuesTree)) × List BodyTree) × List Tok} q (λ y. Ok ((x, y.0), y.1))) (λ p. Ok (Call p.0.0.0 p.0.0.1.1 (arms_of p.0.1), p.1))
        ≡ ◌>>=◌ {A = (EndTree × BodyTree) × List Tok} {B = BodyTree × List Tok} (◌>>=◌ {A = BodyTree × List Tok} {B = (EndTree × BodyTree) × List Tok} (◌>>=◌ {A = List BodyTree × List Tok} {B = BodyTree × List Tok} q (λ p. Ok (Call x.0 x.1.1 (arms_of p.0), p.1))) (λ q. Ok ((CallOf x.0 x.1.0 x.1.1, q.0), q.1))) (λ p. Ok (p.0.1, p.1))
    behind-it x (Ok p) = refl
    behind-it x (Err bad) = refl

    by : (q : Out (ℕ × (ℕ × ValuesTree))) → ◌>>=◌ {A = ((ℕ × (ℕ × ValuesTree)) × List BodyTree) × List Tok} {B = BodyTree × List Tok}
        (◌>>=◌ {A = (ℕ × (ℕ × ValuesTree)) × List Tok} {B = ((ℕ × (ℕ × ValuesTree)) × List BodyTree) × List Tok} q
        (λ p. ◌>>=◌ {A = List BodyTree × List Tok} {B = ((ℕ × (ℕ × ValuesTree)) × List BodyTree) × List Tok} (times p.0.1.0 (arm_at body) p.1) (λ y. Ok ((p.0, y.0), y.1)))) (λ p. Ok (Call p.0.0.0 p.0.0.1.1 (arms_of p.0.1), p.1))
        ≡ row-of (λ (x : ℕ × (ℕ × ValuesTree)). CallOf x.0 x.1.0 x.1.1) body q
    by (Ok p) = behind-it p.0 (times p.0.1.0 (arm_at body) p.1)
    by (Err bad) = refl

again-rows : (body : Reader BodyTree) (ts : List Tok) → made Again values_at ts ≡ by-rows (made AgainWith values_at) (behind body) ts
again-rows body ts = by (values_at ts)
  where
    by : (q : Out ValuesTree) → ◌>>=◌ {A = ValuesTree × List Tok} {B = BodyTree × List Tok} q (λ p. Ok (Again p.0, p.1))
        ≡ ◌>>=◌ {A = (EndTree × BodyTree) × List Tok} {B = BodyTree × List Tok} (◌>>=◌ {A = EndTree × List Tok} {B = (EndTree × BodyTree) × List Tok} (◌>>=◌ {A = ValuesTree × List Tok} {B = EndTree × List Tok} q (λ p. Ok (AgainWith p.0, p.1)))
        (λ p. ◌>>=◌ {A = BodyTree × List Tok} {B = (EndTree × BodyTree) × List Tok} (behind body p.0 p.1) (λ q. Ok ((p.0, q.0), q.1)))) (λ p. Ok (p.0.1, p.1))
    by (Ok p) = refl
    by (Err bad) = refl

leave-rows : (body : Reader BodyTree) (ts : List Tok) → leave_at ts ≡ by-rows leave_by (behind body) ts
unfolding leave_at
leave-rows body ts = by (pair (number_at (2 ^ 32)) values_at ts)
  where
    by : (q : Out (ℕ × ValuesTree)) → ◌>>=◌ {A = (ℕ × ValuesTree) × List Tok} {B = BodyTree × List Tok} q (λ p. Ok (Leave p.0.0 p.0.1, p.1))
        ≡ ◌>>=◌ {A = (EndTree × BodyTree) × List Tok} {B = BodyTree × List Tok} (◌>>=◌ {A = EndTree × List Tok} {B = (EndTree × BodyTree) × List Tok} (◌>>=◌ {A = (ℕ × ValuesTree) × List Tok} {B = EndTree × List Tok} q (λ p. Ok (LeaveBy p.0.0 p.0.1, p.1)))
        (λ p. ◌>>=◌ {A = BodyTree × List Tok} {B = (EndTree × BodyTree) × List Tok} (behind body p.0 p.1) (λ q. Ok ((p.0, q.0), q.1)))) (λ p. Ok (p.0.1, p.1))
    by (Ok p) = refl
    by (Err bad) = refl

-- an end is read row by row
pub end-rows : (room : ℕ) (body : Reader BodyTree) (ts : List Tok) → end_at room body ts ≡ by-rows (end_row room) (behind body) ts
unfolding end_at end_row
end-rows room body =
    keyed-rows (codes "call") _ _ _ _ (behind body) (call-rows (arm_bound room) body)
    (keyed-rows (codes "again") _ _ _ _ (behind body) (again-rows body)
    (keyed-rows (codes "leave") _ _ _ _ (behind body) (leave-rows body)
    (room-rows room _ _ body (keyed-rows (codes "if") (branch_at body) refused if_row refused (behind body) (if-rows body) (λ ts. refl)))))

module _ (room : ℕ) (body : Reader BodyTree) (old mid : RowPositions) where
  pub end-first : {A W : Type 0} (v : A → EndTree) (w : W → BodyTree) (e : ReadError) → RowsGive v (Err e) old mid (end_row room) → RowsGive w (Err e) old mid (end_at room body)
  end-first v w e g = give-alike w (Err e) old mid (end_at room body) (by-rows (end_row room) (behind body)) (end-rows room body) (err-first v w (λ (x : EndTree × BodyTree). x.1) e old mid (end_row room) (behind body) g)

  pub end-second : {B W : Type 0} (v : B → BodyTree) (w : W → BodyTree) (e : ReadError) (new : RowPositions) (row : EndTree) → AllOk (end_row room) row old mid → RowsGive v (Err e) mid new (behind body row) → RowsGive w (Err e) old new (end_at room body)
  end-second v w e new row h g = give-alike w (Err e) old new (end_at room body) (by-rows (end_row room) (behind body)) (end-rows room body) (err-second v w (λ (x : EndTree × BodyTree). x.1) e old mid new (end_row room) (behind body) row h g)

  pub end-ok : (new : RowPositions) (row : EndTree) (z : BodyTree) → AllOk (end_row room) row old mid → AllOk (behind body row) z mid new → AllOk (end_at room body) z old new
  end-ok new row z h g = give-alike (λ (z : BodyTree). z) (Ok z) old new (end_at room body) (by-rows (end_row room) (behind body)) (end-rows room body) (both-ok (λ (x : EndTree × BodyTree). x.1) old mid new (end_row room) (behind body) row z h g)

-- ---- bodies

some-room : (n : ℕ) → (n ≡ 0 → ⊥) → n ≡ suc (n - 1)
some-room zero h = absurd (h refl)
some-room (suc n) h = omega arith

abbrev steps-end : ℕ → Reader BodyTree
steps-end room = made (λ (x : List StepTree × BodyTree). with_steps x.0 x.1) (pair (star is_step step_at) (end_at room (body_at room)))

body-is : (room : ℕ) (ts : List Tok) → body_at (suc room) ts ≡ steps-end room ts
unfolding body_at
body-is room ts = refl

pub body-rows : (room : ℕ) → (room ≡ 0 → ⊥) → (ts : List Tok) → body_at room ts ≡ steps-end (room - 1) ts
body-rows room h ts = ap (λ (n : ℕ). body_at n ts) (some-room room h) ∙ body-is (room - 1) ts

pub no-body : (room : ℕ) (old : RowPositions) → room ≡ 0 → AllBad (body_at room) old old
unfolding body_at
no-body zero old e q may = record { spot = q; may = may; bad = tokens q; is = refl; row = refl; total = refl }
no-body (suc n) old e q may = absurd (omega (arith, e))

module _ (room : ℕ) (some : room ≡ 0 → ⊥) (old mid : RowPositions) where
  pub body-first : {A W : Type 0} (v : A → List StepTree) (w : W → BodyTree) (e : ReadError) → RowsGive v (Err e) old mid (star is_step step_at) → RowsGive w (Err e) old mid (body_at room)
  body-first v w e g = give-alike w (Err e) old mid (body_at room) (steps-end (room - 1)) (body-rows room some) (err-first v w (λ (x : List StepTree × BodyTree). with_steps x.0 x.1) e old mid (star is_step step_at) (λ _. end_at (room - 1) (body_at (room - 1))) g)

  pub body-second : {B W : Type 0} (v : B → BodyTree) (w : W → BodyTree) (e : ReadError) (new : RowPositions) (xs : List StepTree) → AllOk (star is_step step_at) xs old mid → RowsGive v (Err e) mid new (end_at (room - 1) (body_at (room - 1))) → RowsGive w (Err e) old new (body_at room)
  body-second v w e new xs h g = give-alike w (Err e) old new (body_at room) (steps-end (room - 1)) (body-rows room some) (err-second v w (λ (x : List StepTree × BodyTree). with_steps x.0 x.1) e old mid new (star is_step step_at) (λ _. end_at (room - 1) (body_at (room - 1))) xs h g)

  pub body-ok : (new : RowPositions) (xs : List StepTree) (y z : BodyTree) → z ≡ with_steps xs y → AllOk (star is_step step_at) xs old mid → AllOk (end_at (room - 1) (body_at (room - 1))) y mid new → AllOk (body_at room) z old new
  body-ok new xs y z e h g =
      give-alike (λ (z : BodyTree). z) (Ok z) old new (body_at room) (steps-end (room - 1)) (body-rows room some)
      (subst (λ (z : BodyTree). AllOk (steps-end (room - 1)) z old new) (sym e) (both-ok (λ (x : List StepTree × BodyTree). with_steps x.0 x.1) old mid new (star is_step step_at) (λ _. end_at (room - 1) (body_at (room - 1))) xs y h g))

-- an error that is passed on
pub passed-on : {X Y : Type 0} (w : X → Y) (e : ReadError) (result : Result X ReadError) (old new : RowPositions) (r : Reader Y) → IsErrAnd result (λ f. f ≡ e) → RowsGive w (Err e) old new r → RowsGive w result old new r
passed-on w e (Ok x) old new r is g = absurd is
passed-on {X} w e (Err f) old new r is g = subst (λ (f : ReadError). RowsGive w (err f) old new r) (sym is) g
  where
    err : ReadError → Result X ReadError
    err f = Err f

pub times-failed : {X : Type 0} (r : Reader X) (n : ℕ) (front : List X) (ts bad : List Tok) (total : Out (List X)) → 0 < n → r ts ≡ Err bad → with_prefix front (times n r ts) ≡ total → total ≡ Err bad
times-failed r zero front ts bad total lt e h = absurd (omega (arith, lt))
times-failed r (suc n) front ts bad total lt e h = times-fails r n front ts bad total e h

pub pair-first : {A X Y W : Type 0} (v : A → X) (w : W → X × Y) (e : ReadError) (old mid : RowPositions) (a : Reader X) (b : Reader Y) → RowsGive v (Err e) old mid a → RowsGive w (Err e) old mid (pair a b)
pair-first v w stop.Bad old mid a b g = bad-first a (λ _. b) old mid g
pair-first v w stop.Fault old mid a b g = tt
pair-first v w stop.NoMemory old mid a b g = tt

pub pair-second : {B X Y W : Type 0} (v : B → Y) (w : W → X × Y) (e : ReadError) (old mid new : RowPositions) (a : Reader X) (b : Reader Y) (x : X) → AllOk a x old mid → RowsGive v (Err e) mid new b → RowsGive w (Err e) old new (pair a b)
pair-second v w stop.Bad old mid new a b x h g = bad-with a (λ _. b) old mid x new h g
pair-second v w stop.Fault old mid new a b x h g = tt
pair-second v w stop.NoMemory old mid new a b x h g = tt

-- ---- ends

pub row-was : (room : ℕ) (old mid : RowPositions) (x row : EndRow) → x ≡ row → AllOk (end_row room) (end_row_tree x) old mid → AllOk (end_row room) (end_row_tree row) old mid
row-was room old mid x row e h = subst (λ (x : EndRow). AllOk (end_row room) (end_row_tree x) old mid) e h

pub end-is : (room : ℕ) (body : Reader BodyTree) (old mid new : RowPositions) (row : EndTree) (y z : BodyTree) → z ≡ y → AllOk (end_row room) row old mid → AllOk (behind body row) y mid new → AllOk (end_at room body) z old new
end-is room body old mid new row y z e h g = subst (λ (z : BodyTree). AllOk (end_at room body) z old new) (sym e) (end-ok room body old mid new row y h g)

-- nothing stands behind the row
pub no-more : {Y : Type 0} (y : Y) (old : RowPositions) → AllOk (λ ts. Ok (y, ts)) y old old
no-more y old q may = record { spot = q; may = may; is = refl; way = way-same q; total = refl }
