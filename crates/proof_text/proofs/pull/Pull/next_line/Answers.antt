use Rattle.std.proofs.Common.{◌≡◌, ℕ, ◌<◌, true, true≢false, List, [], ◌∷◌, ◌++◌, length, IfSome, Some, None, Ok, Err, refl, sym, subst, ◌∙◌}
use Rattle.mc_text.specs.Fault.{IsBadAt}
use Rattle.tailrec_lang.specs.Tree.{group_tree}
use Rattle.group_text.specs.Limits.{IsGroupIn}
use Rattle.group_text.specs.Version.{version_of}
use Rattle.group_text.proofs.HeadLaws.{IsCode}
use Rattle.proof_text.specs.declared.pull_fault.PullFault.{PullFault}
use Rattle.proof_text.specs.Line.{ProofOf}
use Rattle.proof_text.specs.LineGrammar.{texts_over}
use Rattle.proof_text.specs.FirstProofs.{HasGivenOver, ProofEnds, with_line}
use Rattle.proof_text.specs.Answers.{NoItemOver}
use Rattle.proof_text.specs.Pulling.{PullState, Pulls, IfBad, progress_in, held_text}
use Rattle.proof_text.specs.inner.LineReaders.{ReadsLines, turn_over}
use Rattle.proof_text.specs.inner.PulledRows.{IfFile}
use Rattle.proof_text.specs.inner.Pulling.{ReadFrom}
use Rattle.proof_text.proofs.PullAnswers.{bad_all, bad_so, none_so, some_so}
use Rattle.proof_text.proofs.PullCalls.{line_given, line_shorter, line_stopped, lines_ended}
use Rattle.proof_text.proofs.PullEffects.{pulls_drawn, pulls_ended, pulls_refused}
use Rattle.proof_text.proofs.PullLemmas.{told_so}
use Rattle.proof_text.proofs.pull.Pull.next_line.Goals as goal

not-none : (fault : PullFault) → Some fault ≡ None → ⊥
not-none f e = cc

-- ---- where it was refused

pub returns-in-Some-clause-bad : goal.returns-in-Some-clause-bad
returns-in-Some-clause-bad g c =
    let was : c.args.self.now.refused ≡ Some c.in-Some.fault = subst (λ (s : PullState). s.refused ≡ Some c.in-Some.fault) c.self.view_is c.in-Some.is in
    λ ls kept are. bad_all c.in-Some.fault _ (λ n none. absurd (not-none c.in-Some.fault (sym was ∙ none)))

pub returns-in-Some-clause-pulls : goal.returns-in-Some-clause-pulls
returns-in-Some-clause-pulls g c =
    let was : c.args.self.now.refused ≡ Some c.in-Some.fault = subst (λ (s : PullState). s.refused ≡ Some c.in-Some.fault) c.self.view_is c.in-Some.is in
    pulls_refused g.S.Shelf.contents g.S.Shelf.read_faults g.S.Shelf.write_faults g.S.Shelf.IsSure {X = g.row.W-Line.Denot} (Err c.in-Some.fault) c.args.self.now c.args.shelf.now c.in-Some.fault was refl

-- ---- where it has ended

pub returns-then-self-clause-end : goal.returns-then-self-clause-end
returns-then-self-clause-end g c =
    let ended : c.args.self.now.ended ≡ true = subst (λ (s : PullState). s.ended ≡ true) c.self.view_is c.if-self.true in
    λ open_. absurd (true≢false (sym ended ∙ open_))

pub returns-then-self-clause-pulls : goal.returns-then-self-clause-pulls
returns-then-self-clause-pulls g c =
    let going : c.args.self.now.refused ≡ None = subst (λ (s : PullState). s.refused ≡ None) c.self.view_is c.in_default.is in
    pulls_ended g.S.Shelf.contents g.S.Shelf.read_faults g.S.Shelf.write_faults g.S.Shelf.IsSure {X = g.row.W-Line.Denot} (Ok None) c.args.self.now c.args.shelf.now going refl

-- ---- where it was given, or there was none

pub returns-in-Ok-clause-given : goal.returns-in-Ok-clause-given
returns-in-Ok-clause-given g c =
    λ ls kept were.
    let before : PullState = record { version = c.self.inside.version; rows = c.self.inside.rows; place = c.self.inside.place; ended = c.self.inside.ended; refused = c.self.inside.refused } in
    let inside = c.self.invariant c.in_default.is in
    let place = inside.1 c.if-self.false in
    let d = c.in-Ok.ensures.draws in
    let new : PullState = record { version = c.self.inside.version; rows = c.next_line.new.rows; place = c.passed-self-inside.result; ended = c.self.inside.ended; refused = c.self.inside.refused } in
    let fits : IsGroupIn (version_of before.version) (group_tree c.args.group.now) = subst (λ (s : PullState). IsGroupIn (version_of s.version) (group_tree c.args.group.now)) (sym c.self.view_is) c.requires.group in
    let are : g.W.ReadLines.readers.grammar.Are (version_of before.version) ls = subst (λ (s : PullState). g.W.ReadLines.readers.grammar.Are (version_of s.version) ls) (sym c.self.view_is) were in
    some_so c.in-Ok.found (λ x. IfFile (g.S.Shelf.contents c.args.shelf.now) before.rows.lines.name (ReadFrom (turn_over g.W.ReadLines.readers (version_of before.version) c.args.group.now.code.ranges ls) (Some (g.W.ReadLines.tree c.args.group.now.code.ranges x)) before.rows new.rows)) _
    (λ x gives. subst (λ (s : PullState). IfFile (g.S.Shelf.contents c.args.shelf.now) s.rows.lines.name (λ (file : List ℕ). (ps : List (ProofOf g.W.ReadLines.readers.grammar.Line)) (p : ProofOf g.W.ReadLines.readers.grammar.Line) → HasGivenOver g.W.ReadLines.readers.grammar (ps ++ p ∷ []) (progress_in s file) → p.group ≡ group_tree c.args.group.now → p.lines ≡ ls → HasGivenOver g.W.ReadLines.readers.grammar (ps ++ with_line p (g.W.ReadLines.tree c.args.group.now.code.ranges x) ∷ []) (progress_in new file))) c.self.view_is
    (told_so (g.S.Shelf.contents c.args.shelf.now) before.rows.lines.name _ _ (λ files file is held k. (line_given g.W.ReadLines.readers before (subst (λ (s : PullState). ReadsLines g.W.ReadLines.readers (version_of s.version)) (sym c.self.view_is) c.requires.laws) file place new refl d.size c.passed-self-inside.ensures (group_tree c.args.group.now) fits ls (g.W.ReadLines.tree c.args.group.now.code.ranges x) k)) gives)) (c.in-Ok.ensures.given ls kept are)

pub returns-in-Ok-clause-shorter : goal.returns-in-Ok-clause-shorter
returns-in-Ok-clause-shorter g c =
    let before : PullState = record { version = c.self.inside.version; rows = c.self.inside.rows; place = c.self.inside.place; ended = c.self.inside.ended; refused = c.self.inside.refused } in
    let inside = c.self.invariant c.in_default.is in
    let place = inside.1 c.if-self.false in
    let d = c.in-Ok.ensures.draws in
    let new : PullState = record { version = c.self.inside.version; rows = c.next_line.new.rows; place = c.passed-self-inside.result; ended = c.self.inside.ended; refused = c.self.inside.refused } in
    let fits : IsGroupIn (version_of before.version) (group_tree c.args.group.now) = subst (λ (s : PullState). IsGroupIn (version_of s.version) (group_tree c.args.group.now)) (sym c.self.view_is) c.requires.group in
    let ls = c.requires.kept.0 in
    let are : g.W.ReadLines.readers.grammar.Are (version_of before.version) ls = subst (λ (s : PullState). g.W.ReadLines.readers.grammar.Are (version_of s.version) ls) (sym c.self.view_is) c.requires.kept.2 in
    some_so c.in-Ok.found (λ x. IfFile (g.S.Shelf.contents c.args.shelf.now) before.rows.lines.name (ReadFrom (turn_over g.W.ReadLines.readers (version_of before.version) c.args.group.now.code.ranges ls) (Some (g.W.ReadLines.tree c.args.group.now.code.ranges x)) before.rows new.rows)) _
    (λ x gives. subst (λ (s : PullState). IfFile (g.S.Shelf.contents c.args.shelf.now) s.rows.lines.name (λ (file : List ℕ). length (progress_in new file).rest < length (progress_in s file).rest)) c.self.view_is
    (told_so (g.S.Shelf.contents c.args.shelf.now) before.rows.lines.name _ _ (λ files file is held k. line_shorter g.W.ReadLines.readers before (subst (λ (s : PullState). ReadsLines g.W.ReadLines.readers (version_of s.version)) (sym c.self.view_is) c.requires.laws) file place new refl d.size c.passed-self-inside.ensures (group_tree c.args.group.now) fits ls are (g.W.ReadLines.tree c.args.group.now.code.ranges x) k) gives)) (c.in-Ok.ensures.given ls c.requires.kept.1 are)

pub returns-in-Ok-clause-end : goal.returns-in-Ok-clause-end
returns-in-Ok-clause-end g c =
    let before : PullState = record { version = c.self.inside.version; rows = c.self.inside.rows; place = c.self.inside.place; ended = c.self.inside.ended; refused = c.self.inside.refused } in
    let inside = c.self.invariant c.in_default.is in
    let place = inside.1 c.if-self.false in
    let d = c.in-Ok.ensures.draws in
    let new : PullState = record { version = c.self.inside.version; rows = c.next_line.new.rows; place = c.passed-self-inside.result; ended = c.self.inside.ended; refused = c.self.inside.refused } in
    let code : IsCode c.args.group.now.code.ranges = (c.requires.group.code, c.requires.group.bytes) in
    let ls = c.requires.kept.0 in
    let are : g.W.ReadLines.readers.grammar.Are (version_of before.version) ls = subst (λ (s : PullState). g.W.ReadLines.readers.grammar.Are (version_of s.version) ls) (sym c.self.view_is) c.requires.kept.2 in
    none_so c.in-Ok.found (IfFile (g.S.Shelf.contents c.args.shelf.now) before.rows.lines.name (ReadFrom (turn_over g.W.ReadLines.readers (version_of before.version) c.args.group.now.code.ranges ls) None before.rows new.rows)) _
    (λ ends open_. subst (λ (s : PullState). IfFile (g.S.Shelf.contents c.args.shelf.now) s.rows.lines.name (λ (file : List ℕ). (progress_in new file ≡ progress_in s file) × ProofEnds (progress_in s file).rest)) c.self.view_is
    (told_so (g.S.Shelf.contents c.args.shelf.now) before.rows.lines.name _ _ (λ files file is held k. lines_ended g.W.ReadLines.readers before (subst (λ (s : PullState). ReadsLines g.W.ReadLines.readers (version_of s.version)) (sym c.self.view_is) c.requires.laws) file place new refl d.size (group_tree c.args.group.now) code ls are c.passed-self-inside.ensures k) ends)) (c.in-Ok.ensures.end ls c.requires.kept.1 are)

pub returns-in-Ok-clause-pulls : goal.returns-in-Ok-clause-pulls
returns-in-Ok-clause-pulls g c =
    let before : PullState = record { version = c.self.inside.version; rows = c.self.inside.rows; place = c.self.inside.place; ended = c.self.inside.ended; refused = c.self.inside.refused } in
    let inside = c.self.invariant c.in_default.is in
    let new : PullState = record { version = c.self.inside.version; rows = c.next_line.new.rows; place = c.passed-self-inside.result; ended = c.self.inside.ended; refused = c.self.inside.refused } in
    subst (λ (s : PullState). Pulls g.S.Shelf.contents g.S.Shelf.read_faults g.S.Shelf.write_faults g.S.Shelf.IsSure (Ok c.in-Ok.found) s c.args.shelf.now new c.next_line.new.shelf) c.self.view_is
    (pulls_drawn g.S.Shelf.contents g.S.Shelf.read_faults g.S.Shelf.write_faults g.S.Shelf.IsSure (Ok c.in-Ok.found) before c.args.shelf.now new c.next_line.new.shelf c.in_default.is c.if-self.false inside.0 refl c.in-Ok.ensures.draws tt c.in_default.is c.in-Ok.ensures.left c.in-Ok.ensures.fewer)

-- ---- where it is refused

pub returns-in-Err-clause-bad : goal.returns-in-Err-clause-bad
returns-in-Err-clause-bad g c =
    λ ls kept were.
    let before : PullState = record { version = c.self.inside.version; rows = c.self.inside.rows; place = c.self.inside.place; ended = c.self.inside.ended; refused = c.self.inside.refused } in
    let inside = c.self.invariant c.in_default.is in
    let place = inside.1 c.if-self.false in
    let are : g.W.ReadLines.readers.grammar.Are (version_of before.version) ls = subst (λ (s : PullState). g.W.ReadLines.readers.grammar.Are (version_of s.version) ls) (sym c.self.view_is) were in
    subst (λ (s : PullState). IfBad c.in-Err.fault (λ (n : ℕ). s.refused ≡ None → IfFile (g.S.Shelf.contents c.args.shelf.now) s.rows.lines.name (λ (file : List ℕ). (ps : List (ProofOf g.W.ReadLines.readers.grammar.Line)) (p : ProofOf g.W.ReadLines.readers.grammar.Line) → HasGivenOver g.W.ReadLines.readers.grammar (ps ++ p ∷ []) (progress_in s file) → p.group ≡ group_tree c.args.group.now → p.lines ≡ ls → IsBadAt (texts_over g.W.ReadLines.readers.grammar (version_of s.version)) (held_text s file) n × NoItemOver g.W.ReadLines.readers.grammar (ps ++ p ∷ []) (progress_in s file)))) c.self.view_is
    (bad_so c.in-Err.fault _ (λ (n : ℕ). before.refused ≡ None → IfFile (g.S.Shelf.contents c.args.shelf.now) before.rows.lines.name (λ (file : List ℕ). (ps : List (ProofOf g.W.ReadLines.readers.grammar.Line)) (p : ProofOf g.W.ReadLines.readers.grammar.Line) → HasGivenOver g.W.ReadLines.readers.grammar (ps ++ p ∷ []) (progress_in before file) → p.group ≡ group_tree c.args.group.now → p.lines ≡ ls → IsBadAt (texts_over g.W.ReadLines.readers.grammar (version_of before.version)) (held_text before file) n × NoItemOver g.W.ReadLines.readers.grammar (ps ++ p ∷ []) (progress_in before file)))
    (λ n stops going. told_so (g.S.Shelf.contents c.args.shelf.now) before.rows.lines.name _ _
    (λ files file is held k ps p h same lines. line_stopped g.W.ReadLines.readers before (subst (λ (s : PullState). ReadsLines g.W.ReadLines.readers (version_of s.version)) (sym c.self.view_is) c.requires.laws) file place (group_tree c.args.group.now) ls ps p h same lines n k) stops) (c.in-Err.ensures.bad ls kept are))

pub returns-in-Err-clause-pulls : goal.returns-in-Err-clause-pulls
returns-in-Err-clause-pulls g c =
    let before : PullState = record { version = c.self.inside.version; rows = c.self.inside.rows; place = c.self.inside.place; ended = c.self.inside.ended; refused = c.self.inside.refused } in
    let inside = c.self.invariant c.in_default.is in
    let place = inside.1 c.if-self.false in
    let new : PullState = record { version = c.self.inside.version; rows = c.next_line.new.rows; place = c.self.inside.place; ended = c.self.inside.ended; refused = Some c.in-Err.fault } in
    subst (λ (s : PullState). Pulls g.S.Shelf.contents g.S.Shelf.read_faults g.S.Shelf.write_faults g.S.Shelf.IsSure {X = g.row.W-Line.Denot} (Err c.in-Err.fault) s c.args.shelf.now new c.next_line.new.shelf) c.self.view_is
    (pulls_drawn g.S.Shelf.contents g.S.Shelf.read_faults g.S.Shelf.write_faults g.S.Shelf.IsSure {X = g.row.W-Line.Denot} (Err c.in-Err.fault) before c.args.shelf.now new c.next_line.new.shelf c.in_default.is c.if-self.false inside.0 refl c.in-Err.ensures.draws refl tt c.in-Err.ensures.left tt)

-- ---- what is kept

pub returns-in-Ok-clause-fits : goal.returns-in-Ok-clause-fits
returns-in-Ok-clause-fits g c =
    λ ls kept were.
    let before : PullState = record { version = c.self.inside.version; rows = c.self.inside.rows; place = c.self.inside.place; ended = c.self.inside.ended; refused = c.self.inside.refused } in
    let are : g.W.ReadLines.readers.grammar.Are (version_of before.version) ls = subst (λ (s : PullState). g.W.ReadLines.readers.grammar.Are (version_of s.version) ls) (sym c.self.view_is) were in
    subst (λ (s : PullState). IfSome c.in-Ok.found (λ l. g.W.ReadLines.readers.Fits (version_of s.version) ls (g.W.ReadLines.tree c.args.group.now.code.ranges l))) c.self.view_is (c.in-Ok.ensures.fits ls kept are)
