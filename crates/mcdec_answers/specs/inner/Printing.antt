-- What a sink has gained while a text was printed piece by piece.
use Rattle.std.specs.Prelude.{◌≡◌, ℕ, ◌≤◌, List, [], ◌∷◌, ◌++◌, take, Option, Result, Ok, Err, IsErrOf}
use Rattle.std.specs.Result.{IfOk, result_and}
use Rattle.std.specs.Fmt.{decimal}
use Rattle.hex.specs.Hex.{encode_lower}
use Rattle.mc_shelf.specs.Fault.{Rose, WhereTold}
use Rattle.mc_shelf.specs.declared.sink.Stop.{Stop}
use Rattle.mc_shelf.specs.declared.sink.Stop.TheVariants.{Failed}
use Rattle.mcdec_answers.specs.declared.print.Piece.{Piece}
use Rattle.mcdec_answers.specs.declared.print.Piece.TheVariants as piece
use Rattle.mc_text.specs.Number.{hex}

abbrev pub piece_text : Piece → List ℕ
piece_text (piece.Text bytes) = bytes.now
piece_text (piece.Decimal n) = decimal n
piece_text (piece.Wide n) = decimal n
piece_text (piece.Hex n) = hex n
piece_text (piece.Bytes bytes) = encode_lower bytes.now

abbrev pub pieces_text : List Piece → List ℕ
pieces_text [] = []
pieces_text (p ∷ ps) = piece_text p ++ pieces_text ps

-- the whole text, or a front of it after an error
abbrev pub Gains : Result Unit Stop → List ℕ → List ℕ → List ℕ → Type 0
Gains (Ok x) text old new = new ≡ old ++ text
Gains (Err e) text old new = (kept : ℕ) × (new ≡ old ++ take kept text)

-- what a call that prints the text does to a sink, and to its count of faults
pub record Prints (result : Result Unit Stop) (text : List ℕ) (old new : Option (List ℕ)) (faults_old faults_new : ℕ) : Type 0 where
  pub gained : WhereTold old new (Gains result text)
  pub counted : faults_old ≤ faults_new
  pub cause : IsErrOf result Failed → Rose faults_old faults_new

-- The same of a call that prints the lines of an answer. Where all of them are printed it gives the answer's status.
pub record PrintsAnswer (result : Result ℕ Stop) (printed : ℕ × List ℕ) (old new : Option (List ℕ)) (faults_old faults_new : ℕ) : Type 0 where
  pub status : IfOk result (λ given. given ≡ printed.0)
  pub lines : Prints (result_and result (Ok tt)) printed.1 old new faults_old faults_new
