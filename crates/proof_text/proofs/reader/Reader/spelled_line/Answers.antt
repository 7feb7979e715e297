use Rattle.std.proofs.Common.{◌≡◌, ℕ, List, [], ◌∷◌, ◌++◌, refl, sym, subst}
use Rattle.mc_text.specs.Fault.{IsBadAt}
use Rattle.tailrec_lang.specs.Tree.{group_tree}
use Rattle.group_text.specs.Version.{version_of}
use Rattle.group_text.specs.declared.version.Version.{Version as Known}
use Rattle.proof_text.specs.declared.line.SpelledLine.{SpelledLine}
use Rattle.proof_text.specs.Line.{LineTree, ProofTree, spelled_tree}
use Rattle.proof_text.specs.LineLimits.{IsLineIn}
use Rattle.proof_text.specs.Proofs.{texts_of_proofs_in}
use Rattle.proof_text.specs.FirstProofs.{HasGiven, with_line}
use Rattle.proof_text.specs.Answers.{NoItem, OnGiven}
use Rattle.proof_text.proofs.WholeAnswers.{given_all, text_bad_all}
use Rattle.proof_text.proofs.WholeLaws.{lines-read}
use Rattle.proof_text.proofs.reader.Reader.spelled_line.Goals as goal

pub next_line-requires-clause-laws : goal.next_line-requires-clause-laws
next_line-requires-clause-laws c = lines-read c.args.self.now.version

pub returns-clause-given : goal.returns-clause-given
returns-clause-given c =
    given_all c.next_line.result
    (λ (ls : List LineTree) (l : SpelledLine). (ps : List ProofTree) (p : ProofTree) → HasGiven (ps ++ p ∷ []) c.args.self.now → p.group ≡ group_tree c.args.group.now → p.lines ≡ ls → HasGiven (ps ++ with_line p (spelled_tree (group_tree c.args.group.now).code l) ∷ []) c.next_line.new.self)
    (λ l. (ps : List ProofTree) (p : ProofTree) → HasGiven (ps ++ p ∷ []) c.args.self.now → p.group ≡ group_tree c.args.group.now → HasGiven (ps ++ with_line p (spelled_tree (group_tree c.args.group.now).code l) ∷ []) c.next_line.new.self)
    (λ l each ps p h same. each p.lines ps p h same refl) (λ ls. c.next_line.ensures.given ls tt)

pub returns-clause-fits : goal.returns-clause-fits
returns-clause-fits c = subst (λ (v : Known). OnGiven c.next_line.result (λ l. IsLineIn (version_of v) (spelled_tree (group_tree c.args.group.now).code l))) (sym c.next_line.ensures.version) (c.next_line.ensures.fits [] tt tt)

pub returns-clause-bad : goal.returns-clause-bad
returns-clause-bad c =
    text_bad_all c.next_line.result
    (λ (ls : List LineTree) (n : ℕ). (ps : List ProofTree) (p : ProofTree) → HasGiven (ps ++ p ∷ []) c.args.self.now → p.group ≡ group_tree c.args.group.now → p.lines ≡ ls → IsBadAt (texts_of_proofs_in (version_of c.args.self.now.version)) c.args.self.now.text n)
    (λ n. (ps : List ProofTree) (p : ProofTree) → HasGiven (ps ++ p ∷ []) c.args.self.now → p.group ≡ group_tree c.args.group.now → IsBadAt (texts_of_proofs_in (version_of c.args.self.now.version)) c.args.self.now.text n)
    (λ n each ps p h same. each p.lines ps p h same refl) (λ ls. c.next_line.ensures.bad ls tt)

pub returns-clause-no_item : goal.returns-clause-no_item
returns-clause-no_item c =
    text_bad_all c.next_line.result
    (λ (ls : List LineTree) (n : ℕ). (ps : List ProofTree) (p : ProofTree) → HasGiven (ps ++ p ∷ []) c.args.self.now → p.group ≡ group_tree c.args.group.now → p.lines ≡ ls → NoItem (ps ++ p ∷ []) c.args.self.now)
    (λ n. (ps : List ProofTree) (p : ProofTree) → HasGiven (ps ++ p ∷ []) c.args.self.now → p.group ≡ group_tree c.args.group.now → NoItem (ps ++ p ∷ []) c.args.self.now)
    (λ n each ps p h same. each p.lines ps p h same refl) (λ ls. c.next_line.ensures.no_item ls tt)
