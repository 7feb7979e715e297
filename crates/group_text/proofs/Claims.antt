-- What a reader over a text in memory has of what was read by rows.
use Rattle.std.proofs.Common.{◌≡◌, ℕ, ◌+◌, false, List, [], ◌∷◌, length, Option, Result, Ok, Err, refl, sym, ap, subst, ◌∙◌, arith, inl, inr}
use Rattle.std.specs.Prelude.{option_map}
use Rattle.mc_text.specs.Tokens.{Tok, Left, Right, Semi, Atom, Eol, Done, Stuck}
use Rattle.mc_text.specs.declared.token.Before.TheVariants.{Start}
use Rattle.mc_text.specs.declared.token.Class.{Class}
use Rattle.mc_text.specs.declared.token.Class.TheVariants.{Letter, LeftMark, RightMark, SemiMark, Newline, Space, Other}
use Rattle.mc_text.specs.Scanning.{class_of, State, At, Within, lex, byte_step, prepend, eols}
use Rattle.mc_text.specs.Reading.{Reader, goes_on}
use Rattle.group_text.specs.declared.read_error.ReadError.{ReadError}
use Rattle.group_text.specs.declared.read_error.ReadError.TheVariants as halt
use Rattle.group_text.specs.inner.Cut.{drop_lines}
use Rattle.group_text.specs.inner.Rest.{GoesOn, is_done}
use Rattle.group_text.specs.inner.Rows.{OnRowError, RowPosition, RowPositions, tokens, total, RowsGive}
use Rattle.group_text.specs.inner.TextRows.{TextRowPosition}
use Rattle.group_text.proofs.Joins.{AllOk, AllBad}

-- the one place of rows in memory
abbrev pub Here : TextRowPosition → RowPositions
Here s = λ p. p ≡ record { rest = s.rest; taken = s.taken }

-- something was read from the first row of these lines on, so many rows
pub record Read {Y : Type 0} (r : Reader Y) (y : Y) (lines more : List ℕ) (passed : ℕ) : Type 0 where
  pub is : r (lex lines (At Start)) ≡ Ok (y, lex more (At Start))
  pub rest : more ≡ drop_lines passed lines
  pub count : passed + 1 + eols (lex more (At Start)) ≡ 1 + eols (lex lines (At Start))

-- or reading stopped behind so many rows
pub record Stopped {Y : Type 0} (r : Reader Y) (lines : List ℕ) (passed : ℕ) : Type 0 where
  pub bad : List Tok
  pub is : r (lex lines (At Start)) ≡ Err bad
  pub count : passed + 1 + eols bad ≡ 1 + eols (lex lines (At Start))

module _ (lines : List ℕ) (old new : TextRowPosition) (begin : old ≡ record { rest = lines; held = []; taken = 0 }) where
  abbrev pub here : RowPosition
  here = record { rest = new.rest; taken = new.taken }

  abbrev there : RowPosition
  there = record { rest = lines; taken = 0 }

  from : (p : RowPosition) → Here old p → p ≡ there
  from p e = e ∙ ap (λ (s : TextRowPosition). record { rest = s.rest; taken = s.taken }) begin

  module _ {Y : Type 0} (r : Reader Y) (passed : ℕ) (count : passed ≡ new.taken) where
    pub told-ok : (y : Y) (rest : List ℕ) → rest ≡ new.rest → AllOk r y (Here old) (Here new) → Read r y lines rest passed
    told-ok y rest is h =
        let k = h here refl in
        let same : k.spot ≡ there = from k.spot k.may in
        let all : total there ≡ total here = sym (ap total same) ∙ k.total in
        let taken : new.taken ≡ 0 + k.way.rows = k.way.taken ∙ ap (λ (p : RowPosition). p.taken + k.way.rows) same in
        let rows : k.way.rows ≡ passed = omega (arith, taken, count) in
        let left : eols (lex rest (At Start)) ≡ eols (tokens here) = ap (λ (v : List ℕ). eols (lex v (At Start))) is in
        record {
          is = sym (ap (λ (p : RowPosition). r (tokens p)) same) ∙ k.is ∙ ap (λ (v : List ℕ). Ok (y, lex v (At Start))) (sym is);
          rest = is ∙ k.way.rest ∙ ap (λ (p : RowPosition). drop_lines k.way.rows p.rest) same ∙ ap (λ (n : ℕ). drop_lines n lines) rows;
          count = omega (arith, all, count, left);
        }

    pub told-bad : AllBad r (Here old) (Here new) → Stopped r lines passed
    told-bad h =
        let k = h here refl in
        let same : k.spot ≡ there = from k.spot k.may in
        let all : total there ≡ total here = sym (ap total same) ∙ k.total in
        record { bad = k.bad; is = sym (ap (λ (p : RowPosition). r (tokens p)) same) ∙ k.is; count = omega (arith, all, k.row, count) }

  -- where a row was lost the place is the same
  pub told-lost : (P : RowPosition → Type 0) → ((p : RowPosition) → Here new p → Here old p × P p) → P there
  told-lost P h = let k = h here refl in subst P (from here k.0) k.1

-- what was found
pub found-was : {X Y : Type 0} (view : X → Y) (r : Reader (Option Y)) (old new : RowPositions) (o p : Option X) → o ≡ p → AllOk r (option_map view o) old new → AllOk r (option_map view p) old new
found-was {X} view r old new o p e h = subst (λ (o : Option X). AllOk r (option_map view o) old new) e h

pub bad-was : {X Y : Type 0} (view : X → Y) (r : Reader Y) (old new : RowPositions) (h : ReadError) → h ≡ halt.Bad → RowsGive view (Err h) old new r → AllBad r old new
bad-was {X} view r old new h e g = subst (λ (h : ReadError). RowsGive view (err h) old new r) e g
  where
    err : ReadError → Result X ReadError
    err h = Err h

pub lost-was : (X : Type 0) (h : ReadError) (P : Type 0) → (h ≡ halt.Bad → ⊥) → OnRowError {X = X} (Err h) P → P
lost-was X halt.Bad P not-bad g = absurd (not-bad refl)
lost-was X halt.Fault P not-bad g = g
lost-was X halt.NoMemory P not-bad g = g

pub fault-not-bad : (h : ReadError) → h ≡ halt.Fault → h ≡ halt.Bad → ⊥
fault-not-bad h e f = cc

pub memory-not-bad : (h : ReadError) → h ≡ halt.NoMemory → h ≡ halt.Bad → ⊥
memory-not-bad h e f = cc

-- ---- behind the last row

begun-token : (b : ℕ) (ts : List Tok) → goes_on is_done (prepend b ts) ≡ false
begun-token b [] = refl
begun-token b (Atom a ∷ ts) = refl
begun-token b (Left ∷ ts) = refl
begun-token b (Right ∷ ts) = refl
begun-token b (Semi ∷ ts) = refl
begun-token b (Eol ∷ ts) = refl
begun-token b (Done ∷ ts) = refl
begun-token b (Stuck ∷ ts) = refl

first-token : (c : Class) (b : ℕ) (k : State → List Tok) → goes_on is_done (byte_step c b (At Start) k) ≡ false
first-token Letter b k = begun-token b (k Within)
first-token LeftMark b k = refl
first-token RightMark b k = refl
first-token SemiMark b k = refl
first-token Newline b k = refl
first-token Space b k = refl
first-token Other b k = refl

-- bytes are left, or a tail
pub bytes-left : (rest tail : List ℕ) → (length rest ≡ 0 → ⊥) → GoesOn (lex rest (At Start)) tail
unfolding lex
bytes-left [] tail some = absurd (some refl)
bytes-left (b ∷ rest) tail some = inl (first-token (class_of b) b (lex rest))

pub tail-left : (rest tail : List ℕ) → length rest ≡ 0 → (length tail ≡ 0 → ⊥) → GoesOn (lex rest (At Start)) tail
unfolding lex
tail-left [] tail none some = inr (refl, λ e. some (ap length e))
tail-left (b ∷ rest) tail none some = absurd (omega (arith, none))

pub nothing-left : (rest more : List ℕ) → rest ≡ more → more ≡ [] → lex rest (At Start) ≡ Done ∷ []
unfolding lex
nothing-left rest more e none = ap (λ (v : List ℕ). lex v (At Start)) (e ∙ none)
