-- What is read by rows, one after the other.
use Rattle.std.proofs.Common.{◌≡◌, ℕ, Bool, true, false, List, [], ◌∷◌, ◌++◌, map, Result, Ok, Err, refl, sym, ap, subst, ◌∙◌, arith}
use Rattle.std.specs.Result.{IsErrAnd}
use Rattle.mc_text.specs.Tokens.{Tok, Done, Position}
use Rattle.mc_text.specs.declared.token.Before.TheVariants.{Start}
use Rattle.mc_text.specs.Scanning.{lex, At, eols, tokens_at}
use Rattle.mc_text.specs.Reading.{Reader, ◌>>=◌, with, made, goes_on}
use Rattle.mc_text.specs.inner.Reading.{with_prefix}
use Rattle.mc_text.specs.declared.cursor.TokenError.{TokenError as RowStop}
use Rattle.mc_text.specs.declared.cursor.TokenError.TheVariants as row_stop
use Rattle.mc_text.specs.Outcome.{Gives}
use Rattle.group_text.specs.declared.read_error.ReadError.{ReadError}
use Rattle.group_text.specs.declared.read_error.ReadError.TheVariants as stop
use Rattle.group_text.specs.declared.read_error.RowError.{RowError}
use Rattle.group_text.specs.declared.read_error.RowError.TheVariants as lost
use Rattle.group_text.specs.inner.Rows.{row_read_error, RowPosition, RowPositions, tokens, total, IsRow, Passed, Holds, in_row, ReadOk, ReadBad, RowsGive, Way}
use Rattle.group_text.specs.inner.RowReader.{ReadAs, ReadsRows}
use Rattle.group_text.proofs.RowAt.{way-same, way-more, way-row}
use Rattle.group_text.proofs.RowLaws.{row-ok, row-bad, row-none, row-goes-on}

abbrev pub Kept : RowPositions → RowPositions → Type 0
Kept old new = (p : RowPosition) → new p → old p

abbrev pub AllOk : {Y : Type 0} → Reader Y → Y → RowPositions → RowPositions → Type 0
AllOk r y old new = (q : RowPosition) → new q → ReadOk r y old q

abbrev pub AllBad : {Y : Type 0} → Reader Y → RowPositions → RowPositions → Type 0
AllBad r old new = (q : RowPosition) → new q → ReadBad r old q

-- ---- one row

module _ {Y : Type 0} (r : Reader Y) (law : ReadsRows r) (old held : RowPositions) (kept : Kept old held) where
  pub took-row : (new : RowPositions) (row : List ℕ) (y : Y) (rest : List Tok) → IsRow row → ((q : RowPosition) → new q → (p : RowPosition) × held p × Passed row p q) → r (lex row (At Start)) ≡ Ok (y, rest) → AllOk r y old new
  took-row new row y rest is passed e q may =
      let h = passed q may in
      let k = row-ok r law row q.rest is y rest e in
      let same : lex h.0.rest (At Start) ≡ lex (row ++ q.rest) (At Start) = ap (λ (b : List ℕ). lex b (At Start)) h.2.rest in
      let count : eols (tokens h.0) ≡ eols (lex (row ++ q.rest) (At Start)) = ap eols same in
      record { spot = h.0; may = kept h.0 h.1; is = ap r same ∙ k.0; way = way-row row h.0 q is h.2; total = omega (arith, h.2.taken, count, k.1) }

  pub bad-row : (row : List ℕ) (bad : List Tok) → Holds true row held → r (lex row (At Start)) ≡ Err bad → AllBad r old held
  bad-row row bad h e q may =
      let b = h.1 q may in
      let k = row-bad r law row b.rest h.0 bad e in
      let same : tokens q ≡ lex (row ++ b.rest) (At Start) = ap (λ (b : List ℕ). lex b (At Start)) b.is in
      record { spot = q; may = kept q may; bad = k.0; is = ap r same ∙ k.1; row = k.2 ∙ sym (ap eols same); total = refl }

  pub no-row : (row : List ℕ) → Holds false row held → AllBad r old held
  unfolding lex
  no-row row h q may =
      let k = row-none r law in
      let same : tokens q ≡ Done ∷ [] = ap (λ (b : List ℕ). lex b (At Start)) (h q may) in
      record { spot = q; may = kept q may; bad = k.0; is = ap r same ∙ k.1; row = k.2 ∙ sym (ap eols same); total = refl }

-- a scanner that stands before these bytes
abbrev pub Over : List ℕ → Position → Type 0
Over row scan = scan ≡ record { before = Start; rest = row; line = 1 }

over-row : {Y : Type 0} (r : Reader Y) (row bytes : List ℕ) (scan : Position) → bytes ≡ row → Over bytes scan → r (lex row (At Start)) ≡ r (tokens_at scan)
over-row r row bytes scan same over = ap (λ (w : List ℕ). r (lex w (At Start))) (sym same) ∙ ap (λ (p : Position). r (tokens_at p)) (sym over)

module _ {X : Type 0} (w : ReadAs X) (law : ReadsRows w.reader) (old held : RowPositions) (row : List ℕ) (b : Bool) (kept : Kept old held) (h : Holds b row held) where
  pub none-held : b ≡ false → RowsGive w.view (Err stop.Bad) old held w.reader
  none-held e = no-row w.reader law old held kept row (subst (λ (b : Bool). Holds b row held) e h)

  module _ (told : b ≡ true) (bytes : List ℕ) (same : bytes ≡ row) (scan after : Position) (over : Over bytes scan) where
    pub stopped-row : (e : RowStop) (result : Result X ReadError) → IsErrAnd result (λ f. f ≡ in_row e) → Gives w.view (Err e) scan after w.reader → RowsGive w.view result old held w.reader
    stopped-row e (Ok x) is g = absurd is
    stopped-row e (Err f) is g = subst (λ (f : ReadError). RowsGive w.view (err f) old held w.reader) (sym is) (by e g)
      where
        err : ReadError → Result X ReadError
        err f = Err f

        by : (e : RowStop) → Gives w.view (Err e) scan after w.reader → RowsGive w.view (err (in_row e)) old held w.reader
        by row_stop.Bad g = bad-row w.reader law old held kept row (tokens_at after) (subst (λ (b : Bool). Holds b row held) told h) (over-row w.reader row bytes scan same over ∙ g)
        by row_stop.NoMemory g = tt

    pub passed-row : (new : RowPositions) (x : X) → ((q : RowPosition) → new q → (p : RowPosition) × held p × Passed row p q) → Gives w.view (Ok x) scan after w.reader → RowsGive w.view (Ok x) old new w.reader
    passed-row new x passed g =
        let k : Holds true row held = subst (λ (b : Bool). Holds b row held) told h in
        took-row w.reader law old held kept new row (w.view x) (tokens_at after) k.0 passed (over-row w.reader row bytes scan same over ∙ g)

-- where the rows could not be held
pub lost-row : {X Y : Type 0} (view : X → Y) (r : Reader Y) (e : RowError) (result : Result X ReadError) (old new : RowPositions) → IsErrAnd result (λ f. f ≡ row_read_error e) → RowsGive view result old new r
lost-row view r e (Ok x) old new h = absurd h
lost-row {X} view r e (Err f) old new h = subst (λ (f : ReadError). RowsGive view (err f) old new r) (sym h) (by e)
  where
    err : ReadError → Result X ReadError
    err f = Err f

    by : (e : RowError) → RowsGive view (err (row_read_error e)) old new r
    by lost.Fault = tt
    by lost.NoMemory = tt

-- ---- one after the other

module _ {X Y : Type 0} (a : Reader X) (b : X → Reader Y) (old mid : RowPositions) where
  abbrev step : X → Result (Y × List Tok) (List Tok) → Result ((X × Y) × List Tok) (List Tok)
  step x q = ◌>>=◌ {A = Y × List Tok} {B = (X × Y) × List Tok} q (λ y. Ok ((x, y.0), y.1))

  abbrev both : Result (X × List Tok) (List Tok) → Result ((X × Y) × List Tok) (List Tok)
  both q = ◌>>=◌ {A = X × List Tok} {B = (X × Y) × List Tok} q (λ z. step z.0 (b z.0 z.1))

  pub ok-with : (x : X) (y : Y) (new : RowPositions) → AllOk a x old mid → AllOk (b x) y mid new → AllOk (with a b) (x, y) old new
  ok-with x y new f g q may =
      let k = g q may in
      let h = f k.spot k.may in
      record { spot = h.spot; may = h.may; is = ap both h.is ∙ ap (step x) k.is; way = way-more h.spot k.spot q h.way k.way; total = h.total ∙ k.total }

  pub bad-with : (x : X) (new : RowPositions) → AllOk a x old mid → AllBad (b x) mid new → AllBad (with a b) old new
  bad-with x new f g q may =
      let k = g q may in
      let h = f k.spot k.may in
      record { spot = h.spot; may = h.may; bad = k.bad; is = ap both h.is ∙ ap (step x) k.is; row = k.row; total = h.total ∙ k.total }

  pub bad-first : AllBad a old mid → AllBad (with a b) old mid
  bad-first f q may =
      let h = f q may in
      record { spot = h.spot; may = h.may; bad = h.bad; is = ap both h.is; row = h.row; total = h.total }

module _ {X Y : Type 0} (make : X → Y) (r : Reader X) (old new : RowPositions) where
  abbrev put : Result (X × List Tok) (List Tok) → Result (Y × List Tok) (List Tok)
  put q = ◌>>=◌ {A = X × List Tok} {B = Y × List Tok} q (λ p. Ok (make p.0, p.1))

  pub ok-made : (x : X) → AllOk r x old new → AllOk (made make r) (make x) old new
  ok-made x f q may = let h = f q may in record { spot = h.spot; may = h.may; is = ap put h.is; way = h.way; total = h.total }

  pub bad-made : AllBad r old new → AllBad (made make r) old new
  bad-made f q may = let h = f q may in record { spot = h.spot; may = h.may; bad = h.bad; is = ap put h.is; row = h.row; total = h.total }

-- ---- loops

-- reading from a place before, with what was read put in front of what is read now
pub record ReadSo {Y : Type 0} (read : Reader Y) (old : RowPositions) (new : RowPosition) (now : Result (Y × List Tok) (List Tok)) : Type 0 where
  pub spot : RowPosition
  pub may : old spot
  pub is : now ≡ read (tokens spot)
  pub way : Way spot new
  pub total : total spot ≡ total new

abbrev pub AllSo : {Y : Type 0} → Reader Y → RowPositions → RowPositions → (List Tok → Result (Y × List Tok) (List Tok)) → Type 0
AllSo r old new now = (q : RowPosition) → new q → ReadSo r old q (now (tokens q))

pub so-begun : {Y : Type 0} (r : Reader (List Y)) (old : RowPositions) → AllSo r old old (λ ts. with_prefix [] (r ts))
so-begun {Y} r old q may = record { spot = q; may = may; is = nothing (r (tokens q)); way = way-same q; total = refl }
  where
    nothing : (x : Result (List Y × List Tok) (List Tok)) → with_prefix [] x ≡ x
    nothing (Ok x) = refl
    nothing (Err bad) = refl

pub so-init : {X Y : Type 0} (view : X → Y) (r : Reader (List Y)) (old : RowPositions) (xs : List X) → xs ≡ [] → AllSo r old old (λ ts. with_prefix (map view xs) (r ts))
so-init {X} view r old xs e = subst (λ (v : List X). AllSo r old old (λ ts. with_prefix (map view v) (r ts))) (sym e) (so-begun r old)

-- at the end of a loop
pub so-ok : {X Y : Type 0} (view : X → Y) (r : Reader Y) (x : X) (old mid new : RowPositions) (now : List Tok → Result (Y × List Tok) (List Tok)) → AllSo r old mid now → Kept mid new → ((q : RowPosition) → new q → (total : Result (Y × List Tok) (List Tok)) → now (tokens q) ≡ total → total ≡ Ok (view x, tokens q)) → RowsGive view (Ok x) old new r
so-ok view r x old mid new now so kept ends q may =
    let k = so q (kept q may) in
    record { spot = k.spot; may = k.may; is = ends q may (r (tokens k.spot)) k.is; way = k.way; total = k.total }

-- where an item could not be read
pub so-err : {X Y Z W : Type 0} (view : X → Y) (views : Z → W) (r : Reader Y) (s : Reader W) (e : ReadError) (old mid held new : RowPositions) (now : List Tok → Result (W × List Tok) (List Tok)) → AllSo s old mid now → Kept mid held
    → ((q : RowPosition) → held q → (bad : List Tok) (total : Result (W × List Tok) (List Tok)) → r (tokens q) ≡ Err bad → now (tokens q) ≡ total → total ≡ Err bad) → RowsGive view (Err e) held new r → RowsGive views (Err e) old new s
so-err view views r s stop.Bad old mid held new now so kept fails g = λ q may.
    let h = g q may in
    let k = so h.spot (kept h.spot h.may) in
    record { spot = k.spot; may = k.may; bad = h.bad; is = fails h.spot h.may h.bad (s (tokens k.spot)) h.is k.is; row = h.row; total = k.total ∙ h.total }
so-err view views r s stop.Fault old mid held new now so kept fails g = tt
so-err view views r s stop.NoMemory old mid held new now so kept fails g = tt

-- an item more
pub so-more : {X Y W : Type 0} (view : X → Y) (r : Reader Y) (s : Reader W) (x : X) (old mid held new : RowPositions) (now next : List Tok → Result (W × List Tok) (List Tok)) → AllSo s old mid now → Kept mid held
    → ((p : RowPosition) → held p → (rest : List Tok) (total : Result (W × List Tok) (List Tok)) → r (tokens p) ≡ Ok (view x, rest) → now (tokens p) ≡ total → next rest ≡ total) → RowsGive view (Ok x) held new r → AllSo s old new next
so-more view r s x old mid held new now next so kept step g q may =
    let h = g q may in
    let k = so h.spot (kept h.spot h.may) in
    record { spot = k.spot; may = k.may; is = step h.spot h.may (tokens q) (s (tokens k.spot)) h.is k.is; way = way-more k.spot h.spot q k.way h.way; total = k.total ∙ h.total }

-- how the next row begins, or nothing where none follows
pub none-begins : (go : Tok → Bool) (row : List ℕ) (scan : Position) (may : RowPositions) (b c : Bool) → Holds b row may → b ≡ false → Over [] scan → c ≡ goes_on go (tokens_at scan) → (p : RowPosition) → may p → c ≡ goes_on go (tokens p)
none-begins go row scan may b c h e over is p k =
    let h : Holds false row may = subst (λ (b : Bool). Holds b row may) e h in
    is ∙ ap (λ (s : Position). goes_on go (tokens_at s)) over ∙ ap (λ (w : List ℕ). goes_on go (lex w (At Start))) (sym (h p k))

pub row-begins : (go : Tok → Bool) (row bytes : List ℕ) (scan : Position) (may : RowPositions) (b c : Bool) → Holds b row may → b ≡ true → bytes ≡ row → Over bytes scan → c ≡ goes_on go (tokens_at scan) → (p : RowPosition) → may p → c ≡ goes_on go (tokens p)
row-begins go row bytes scan may b c h e same over is p k =
    let h : Holds true row may = subst (λ (b : Bool). Holds b row may) e h in
    let f = h.1 p k in
    is ∙ ap (λ (s : Position). goes_on go (tokens_at s)) over ∙ ap (λ (w : List ℕ). goes_on go (lex w (At Start))) same ∙ row-goes-on go row f.rest h.0 ∙ ap (λ (w : List ℕ). goes_on go (lex w (At Start))) (sym f.is)
