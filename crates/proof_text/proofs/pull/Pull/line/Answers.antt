use Rattle.std.proofs.Common.{◌≡◌, ℕ, List, [], ◌∷◌, ◌++◌, None, IfSome, refl, sym, subst}
use Rattle.std.specs.Prelude.{IfOk}
use Rattle.std.specs.List.{AllByRecursion}
use Rattle.mc_text.specs.Fault.{IsBadAt}
use Rattle.tailrec_lang.specs.Tree.{group_tree}
use Rattle.group_text.specs.Version.{version_of}
use Rattle.group_text.specs.declared.version.Version.{Version as Known}
use Rattle.proof_text.specs.declared.line.Line.{Line}
use Rattle.proof_text.specs.Line.{LineTree, ProofTree, line_tree}
use Rattle.proof_text.specs.LineLimits.{IsLineIn}
use Rattle.proof_text.specs.Proofs.{texts_of_proofs_in}
use Rattle.proof_text.specs.LineGrammar.{whole_lines}
use Rattle.proof_text.specs.FirstProofs.{HasGiven, with_line}
use Rattle.proof_text.specs.Answers.{NoItem}
use Rattle.proof_text.specs.Pulling.{held_text, progress_in}
use Rattle.proof_text.proofs.Called.{last-proof-are}
use Rattle.proof_text.proofs.WholeAnswers.{pulled_all, refused_all}
use Rattle.proof_text.proofs.WholeLaws.{lines-read}
use Rattle.proof_text.proofs.pull.Pull.line.Goals as goal

pub next_line-requires-clause-laws : goal.next_line-requires-clause-laws
next_line-requires-clause-laws g c = lines-read c.args.self.now.version

pub returns-clause-given : goal.returns-clause-given
returns-clause-given g c =
    pulled_all (λ (ls : List LineTree). AllByRecursion (IsLineIn (version_of c.args.self.now.version)) ls) c.next_line.result (g.S.Shelf.contents c.args.shelf.now) c.args.self.now.rows.lines.name
    (λ (ls : List LineTree) (l : Line) (file : List ℕ). (ps : List ProofTree) (p : ProofTree) → HasGiven (ps ++ p ∷ []) (progress_in c.args.self.now file) → p.group ≡ group_tree c.args.group.now → p.lines ≡ ls → HasGiven (ps ++ with_line p (line_tree l) ∷ []) (progress_in c.next_line.new.self file))
    (λ (l : Line) (file : List ℕ). (ps : List ProofTree) (p : ProofTree) → HasGiven (ps ++ p ∷ []) (progress_in c.args.self.now file) → p.group ≡ group_tree c.args.group.now → HasGiven (ps ++ with_line p (line_tree l) ∷ []) (progress_in c.next_line.new.self file))
    (λ l file each ps p h same. each p.lines (last-proof-are whole_lines (version_of c.args.self.now.version) ps p h.fit) ps p h same refl) (λ ls are. c.next_line.ensures.given ls tt are)

pub returns-clause-bad : goal.returns-clause-bad
returns-clause-bad g c =
    refused_all (λ (ls : List LineTree). AllByRecursion (IsLineIn (version_of c.args.self.now.version)) ls) c.next_line.result (c.args.self.now.refused ≡ None) (g.S.Shelf.contents c.args.shelf.now) c.args.self.now.rows.lines.name
    (λ (ls : List LineTree) (n : ℕ) (file : List ℕ). (ps : List ProofTree) (p : ProofTree) → HasGiven (ps ++ p ∷ []) (progress_in c.args.self.now file) → p.group ≡ group_tree c.args.group.now → p.lines ≡ ls
    → IsBadAt (texts_of_proofs_in (version_of c.args.self.now.version)) (held_text c.args.self.now file) n × NoItem (ps ++ p ∷ []) (progress_in c.args.self.now file))
    (λ (n : ℕ) (file : List ℕ). (ps : List ProofTree) (p : ProofTree) → HasGiven (ps ++ p ∷ []) (progress_in c.args.self.now file) → p.group ≡ group_tree c.args.group.now
    → IsBadAt (texts_of_proofs_in (version_of c.args.self.now.version)) (held_text c.args.self.now file) n × NoItem (ps ++ p ∷ []) (progress_in c.args.self.now file))
    (λ n file each ps p h same. each p.lines (last-proof-are whole_lines (version_of c.args.self.now.version) ps p h.fit) ps p h same refl) (λ ls are. c.next_line.ensures.bad ls tt are)

pub returns-clause-fits : goal.returns-clause-fits
returns-clause-fits g c =
    subst (λ (v : Known). IfOk c.next_line.result (λ found. IfSome found (λ l. IsLineIn (version_of v) (line_tree l)))) (sym c.next_line.ensures.pulls.version) (c.next_line.ensures.fits [] tt tt)
