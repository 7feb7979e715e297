-- Readers of rows: what they read of a row by itself they read of it in front of other rows.
use Rattle.std.specs.Prelude.{◌≡◌, List, ◌∷◌, ◌++◌, Ok, Err}
use Rattle.mc_text.specs.Tokens.{Tok}
use Rattle.mc_text.specs.Reading.{Reader}
use Rattle.mc_text.proofs.Lines.{EndsIn}
use Rattle.mc_text.proofs.ReaderLaws.{Stops}

-- just this row was read, whatever follows it
pub record TookRow {X : Type 0} (read : Reader X) (ts : List Tok) (x : X) (rest : List Tok) : Type 0 where
  pub first : Tok
  pub others : List Tok
  pub ends : EndsIn first others
  pub is : ts ≡ (first ∷ others) ++ rest
  pub fixed : (o : List Tok) → read ((first ∷ others) ++ o) ≡ Ok (x, o)

-- a reader of rows: what it reads ends with a row, and where it stops it does so within the row, whatever follows
pub record ReadsRows {X : Type 0} (read : Reader X) : Type 0 where
  pub takes : (ts : List Tok) (x : X) (rest : List Tok) → read ts ≡ Ok (x, rest) → TookRow read ts x rest
  pub stops : (ts bad : List Tok) → read ts ≡ Err bad → Stops read ts bad

-- how a row is read, and what the item that is read stands for
pub record ReadAs (X : Type 0) : Type 1 where
  pub Tree : Type 0
  pub view : X → Tree
  pub reader : Reader Tree

abbrev pub read_as : {X Tree : Type 0} → (X → Tree) → Reader Tree → ReadAs X
read_as {X} {Tree} view reader = record { Tree = Tree; view = view; reader = reader }
