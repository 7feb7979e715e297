-- Texts of a version whose lines are read as they are spelled, whatever lines these are.
use Rattle.std.proofs.Common.{ℕ, List, [], ◌∷◌, ◌++◌, Option, sym, subst, append_assoc}
use Rattle.std.proofs.lemmas.List.{append-nil}
use Rattle.mc_text.specs.Tokens.{Tok}
use Rattle.mc_text.specs.Fault.{Grammar}
use Rattle.mc_text.specs.Reading.{Reader}
use Rattle.mc_text.proofs.Covers.{Covers, row-covers}
use Rattle.rv_words.specs.declared.range.Range.{Range}
use Rattle.group_text.specs.Version.{Version as Form, version_of}
use Rattle.group_text.proofs.HeadLaws.{IsCode}
use Rattle.proof_text.specs.Line.{ProofOf}
use Rattle.proof_text.specs.LineGrammar.{proof_tokens_over, text_over, IsProofOver, AreProofsOver, texts_over}
use Rattle.proof_text.specs.FirstProofs.{Progress, ItemOf, HasGivenOver, AreReadOver, passed_over}
use Rattle.proof_text.specs.Answers.{NoItemOver}
use Rattle.proof_text.specs.inner.LineReaders.{KnownTexts, TailOf, turn_over, tail_at, first_at, all_at, proofs_text_at}

module _ (known : KnownTexts) where
  abbrev pub version : Form
  version = version_of known.version

  abbrev pub Line : Type 0
  Line = known.readers.grammar.Line

  abbrev pub Proof : Type 0
  Proof = ProofOf known.readers.grammar.Line

  abbrev pub Item : Type 0
  Item = ItemOf known.readers.grammar.Line

  abbrev pub Tail : Type 0
  Tail = TailOf known.readers.grammar.Line

  -- ---- lines

  abbrev pub line_tokens : List Range → Line → List Tok
  line_tokens own l = known.readers.grammar.tokens version own l

  abbrev pub Are : List Line → Type 0
  Are ls = known.readers.grammar.Are version ls

  abbrev pub Fits : List Line → Line → Type 0
  Fits before l = known.readers.Fits version before l

  abbrev pub line_at : List Range → List Line → Reader Line
  line_at own before = known.readers.line_at version own before

  abbrev pub turn : List Range → List Line → Reader (Option Line)
  turn own before ts = turn_over known.readers version own before ts

  -- ---- texts

  abbrev pub proof_tokens : Proof → List Tok
  proof_tokens p = proof_tokens_over known.readers.grammar version p

  abbrev pub IsProof : Proof → Type 0
  IsProof p = IsProofOver known.readers.grammar version p

  abbrev pub AreProofs : List Proof → Type 0
  AreProofs ps = AreProofsOver known.readers.grammar version ps

  abbrev pub text_of : List Proof → List ℕ
  text_of ps = text_over known.readers.grammar version ps

  abbrev pub texts : Grammar (List Proof)
  texts = texts_over known.readers.grammar version

  abbrev pub passed : List Proof → List ℕ
  passed ps = passed_over known.readers.grammar version ps

  abbrev pub HasGiven : List Proof → Progress → Type 0
  HasGiven ps r = HasGivenOver known.readers.grammar ps r

  abbrev pub AreRead : List ℕ → List Proof → Type 0
  AreRead text ps = AreReadOver known.readers.grammar version text ps

  abbrev pub NoItem : List Proof → Progress → Type 0
  NoItem ps r = NoItemOver known.readers.grammar ps r

  -- ---- readers

  abbrev pub tail_from : ℕ → List Range → List Line → Reader Tail
  tail_from n own before = tail_at known.readers version n own before

  abbrev pub first_from : ℕ → Reader Tail
  first_from n = first_at known.readers version n

  abbrev pub all : Reader Tail
  all = all_at known.readers version

  abbrev pub text_at : Reader (List Proof)
  text_at = proofs_text_at known.readers version

  -- ---- laws of lines

  pub line-cover : (own : List Range) → IsCode own → (before : List Line) → Are before → Covers (line_at own before) (Fits before) (line_tokens own)
  line-cover own code before are =
      let some = known.laws.some before are in
      row-covers (line_at own before) (Fits before) (line_tokens own) (known.laws.reads own code before are) (λ l h. known.laws.whole own l) some.0 some.1

  -- the first of lines are lines too
  pub front-are : (before after : List Line) → Are (before ++ after) → Are before
  front-are before [] h = subst Are (append-nil before) h
  front-are before (l ∷ after) h = (known.laws.fewer before l (front-are (before ++ l ∷ []) after (subst Are (sym (append_assoc before (l ∷ []) after)) h))).0

  pub one-fits : (before : List Line) (l : Line) (after : List Line) → Are (before ++ l ∷ after) → Fits before l
  one-fits before l after h = (known.laws.fewer before l (front-are (before ++ l ∷ []) after (subst Are (sym (append_assoc before (l ∷ []) after)) h))).1
