-- How far a text was read: the first proofs, whose groups and lines were given one by one. The last of them may go on.
use Rattle.std.specs.Prelude.{◌≡◌, ◌≢◌, ◌⊎◌, ℕ, List, [], ◌∷◌, ◌++◌, map, codes, None, flat_map}
use Rattle.mc_text.specs.Tokens.{HasNoAtomByte, spell}
use Rattle.mc_text.specs.Fault.{first_lines, newlines}
use Rattle.mc_text.specs.declared.token.Before.TheVariants.{Start}
use Rattle.tailrec_lang.specs.Tree.{GroupTree}
use Rattle.group_text.specs.declared.version.Version.{Version as Known}
use Rattle.group_text.specs.Version.{Version, version_1, version_of}
use Rattle.proof_text.specs.Line.{ProofOf, ProofTree}
use Rattle.group_text.specs.Spelling.{title_tokens}
use Rattle.proof_text.specs.LineGrammar.{LineGrammar, proof_tokens_over, AreProofsOver, whole_lines}
use Rattle.proof_text.specs.Proofs.{bare}

-- a reader's version and text, its rest from the beginning of a line on, and how many lines lie before that
pub record Progress : Type 0 where
  pub version : Known
  pub text : List ℕ
  pub rest : List ℕ
  pub place : ℕ

-- what is given one after the other: a group, or a line of its proof
pub data ItemOf (L : Type 0) : Type 0 where
  Opens : (g : GroupTree) → ItemOf L
  Adds : (l : L) → ItemOf L

abbrev pub items : {L : Type 0} → List (ProofOf L) → List (ItemOf L)
items [] = []
items (p ∷ ps) = Opens p.group ∷ (map Adds p.lines ++ items ps)

-- a proof with one line more
abbrev pub with_line : {L : Type 0} → ProofOf L → L → ProofOf L
with_line p l = record { group = p.group; lines = p.lines ++ l ∷ [] }

-- the lines up to the end of the last item
abbrev pub passed_over : (L : LineGrammar) → Version → List (ProofOf L.Line) → List ℕ
passed_over L v [] = []
passed_over L v (p ∷ ps) = spell Start (title_tokens v ++ flat_map (proof_tokens_over L v) (p ∷ ps))

abbrev pub passed_in : Version → List ProofTree → List ℕ
passed_in v ps = passed_over whole_lines v ps

abbrev pub passed : List ProofTree → List ℕ
passed ps = passed_in version_1 ps

-- a whole line follows that begins with this word
abbrev pub Follows : List ℕ → List ℕ → Type 0
Follows word rest = (first_lines 1 rest ≢ None) × (others : List ℕ) × (rest ≡ word ++ others) × HasNoAtomByte others

-- a group ends where no further definition follows
abbrev pub Ended : {L : Type 0} → List (ProofOf L) → List ℕ → Type 0
Ended {L} ps rest = (before : List (ProofOf L)) (g : GroupTree) → ps ≡ before ++ bare g ∷ [] → Follows (codes "def") rest → ⊥

-- the items of these proofs were given, and are all that stands before the rest
pub record HasGivenOver (L : LineGrammar) (ps : List (ProofOf L.Line)) (r : Progress) : Type 0 where
  pub fit : AreProofsOver L (version_of r.version) ps
  pub text : r.text ≡ passed_over L (version_of r.version) ps ++ r.rest
  pub place : r.place ≡ newlines (passed_over L (version_of r.version) ps)
  pub ended : Ended ps r.rest

abbrev pub HasGiven : List ProofTree → Progress → Type 0
HasGiven ps r = HasGivenOver whole_lines ps r

-- the lines of a proof have ended: the next group follows, or the line that ends the text
abbrev pub ProofEnds : List ℕ → Type 0
ProofEnds rest = Follows (codes "group") rest ⊎ Follows (codes "end") rest

-- the text begins here, or the lines of the last proof have ended
abbrev pub MayOpen : {L : Type 0} → List (ProofOf L) → List ℕ → Type 0
MayOpen [] rest = Unit {0}
MayOpen (p ∷ ps) rest = ProofEnds rest

-- these proofs are all that stands before the rest of a text
pub record AreBefore (L : LineGrammar) (v : Version) (bytes : List ℕ) (ps : List (ProofOf L.Line)) (rest : List ℕ) : Type 0 where
  pub fit : AreProofsOver L v ps
  pub text : bytes ≡ passed_over L v ps ++ rest
  pub ended : Ended ps rest

-- the first items of a text of that version
abbrev pub AreReadOver : (L : LineGrammar) → Version → List ℕ → List (ProofOf L.Line) → Type 0
AreReadOver L v bytes ps = (rest : List ℕ) × AreBefore L v bytes ps rest

abbrev pub AreReadIn : Version → List ℕ → List ProofTree → Type 0
AreReadIn v bytes ps = AreReadOver whole_lines v bytes ps

abbrev pub AreRead : List ℕ → List ProofTree → Type 0
AreRead bytes ps = AreReadIn version_1 bytes ps

-- the items of the one list begin with those of the other
abbrev pub BeginsWithItems : {L : Type 0} → List (ProofOf L) → List (ProofOf L) → Type 0
BeginsWithItems {L} ps qs = (more : List (ItemOf L)) × (items ps ≡ items qs ++ more)
