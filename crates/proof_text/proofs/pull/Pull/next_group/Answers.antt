use Rattle.std.proofs.Common.{◌≡◌, ℕ, ◌<◌, eqb, true, true≢false, List, [], ◌∷◌, ◌++◌, length, Option, Some, None, IfSome, IfNone, Ok, Err, inl, inr, refl, sym, subst, ◌∙◌}
use Rattle.mc_text.specs.Fault.{IsBadAt}
use Rattle.tailrec_lang.specs.declared.group.Group.{Group}
use Rattle.tailrec_lang.specs.Tree.{group_tree}
use Rattle.group_text.specs.Limits.{IsGroupIn}
use Rattle.group_text.specs.Version.{version_of}
use Rattle.group_text.specs.inner.Reading.{turn_at}
use Rattle.proof_text.specs.declared.pull_fault.PullFault.{PullFault}
use Rattle.proof_text.specs.Line.{ProofOf}
use Rattle.proof_text.specs.LineGrammar.{text_over, texts_over}
use Rattle.proof_text.specs.Proofs.{bare}
use Rattle.proof_text.specs.FirstProofs.{HasGivenOver, MayOpen}
use Rattle.proof_text.specs.Answers.{NoItemOver}
use Rattle.proof_text.specs.Pulling.{PullState, Pulls, IfBad, progress_in, held_text}
use Rattle.proof_text.specs.inner.LineReaders.{ReadsLines}
use Rattle.proof_text.specs.inner.PulledRows.{EndsSo, IfFile, rows_left}
use Rattle.proof_text.specs.inner.Pulling.{EndsBehind, ReadFrom}
use Rattle.proof_text.proofs.PullAnswers.{bad_all, bad_so}
use Rattle.proof_text.proofs.PullCalls.{group_ended, group_followed, group_given, group_shorter, group_stopped}
use Rattle.proof_text.proofs.PullEffects.{pulls_drawn, pulls_ended, pulls_refused}
use Rattle.proof_text.proofs.PullLemmas.{told_so}
use Rattle.proof_text.proofs.pull.Pull.next_group.Goals as goal

not-none : (fault : PullFault) → Some fault ≡ None → ⊥
not-none f e = cc

-- ---- where it was refused

pub returns-in-Some-clause-bad : goal.returns-in-Some-clause-bad
returns-in-Some-clause-bad g c =
    let was : c.args.self.now.refused ≡ Some c.in-Some.fault = subst (λ (s : PullState). s.refused ≡ Some c.in-Some.fault) c.self.view_is c.in-Some.is in
    bad_all c.in-Some.fault _ (λ n none. absurd (not-none c.in-Some.fault (sym was ∙ none)))

pub returns-in-Some-clause-pulls : goal.returns-in-Some-clause-pulls
returns-in-Some-clause-pulls g c =
    let was : c.args.self.now.refused ≡ Some c.in-Some.fault = subst (λ (s : PullState). s.refused ≡ Some c.in-Some.fault) c.self.view_is c.in-Some.is in
    pulls_refused g.S.Shelf.contents g.S.Shelf.read_faults g.S.Shelf.write_faults g.S.Shelf.IsSure {X = Group} (Err c.in-Some.fault) c.args.self.now c.args.shelf.now c.in-Some.fault was refl

-- ---- where it has ended

pub returns-then-self-clause-end : goal.returns-then-self-clause-end
returns-then-self-clause-end g c =
    let ended : c.args.self.now.ended ≡ true = subst (λ (s : PullState). s.ended ≡ true) c.self.view_is c.if-self.true in
    λ open_. absurd (true≢false (sym ended ∙ open_))

pub returns-then-self-clause-pulls : goal.returns-then-self-clause-pulls
returns-then-self-clause-pulls g c =
    let going : c.args.self.now.refused ≡ None = subst (λ (s : PullState). s.refused ≡ None) c.self.view_is c.in_default.is in
    pulls_ended g.S.Shelf.contents g.S.Shelf.read_faults g.S.Shelf.write_faults g.S.Shelf.IsSure {X = Group} (Ok None) c.args.self.now c.args.shelf.now going refl

-- ---- where it was given

pub returns-in-Ok-Some-clause-given : goal.returns-in-Ok-Some-clause-given
returns-in-Ok-Some-clause-given g c =
    let before : PullState = record { version = c.self.inside.version; rows = c.self.inside.rows; place = c.self.inside.place; ended = c.self.inside.ended; refused = c.self.inside.refused } in
    let inside = c.self.invariant c.in_default.is in
    let place = inside.1 c.if-self.false in
    let d = c.in-Ok-Some.ensures.draws in
    let new : PullState = record { version = c.self.inside.version; rows = c.next_group.new.rows; place = c.passed-self-inside.result; ended = c.self.inside.ended; refused = c.self.inside.refused } in
    let gives : IfFile (g.S.Shelf.contents c.args.shelf.now) before.rows.lines.name (ReadFrom (turn_at (version_of before.version) (eqb before.place 0)) (Some (group_tree c.in-Ok-Some.group)) before.rows new.rows) =
    subst (λ (o : Option Group). IfSome o (λ x. IfFile (g.S.Shelf.contents c.args.shelf.now) before.rows.lines.name (ReadFrom (turn_at (version_of before.version) (eqb before.place 0)) (Some (group_tree x)) before.rows new.rows))) c.in-Ok-Some.field-0-is c.in-Ok-Some.ensures.given in
    subst (λ (s : PullState). IfFile (g.S.Shelf.contents c.args.shelf.now) s.rows.lines.name (λ (file : List ℕ). (ps : List (ProofOf g.W.ReadLines.readers.grammar.Line)) → HasGivenOver g.W.ReadLines.readers.grammar ps (progress_in s file) → HasGivenOver g.W.ReadLines.readers.grammar (ps ++ bare (group_tree c.in-Ok-Some.group) ∷ []) (progress_in new file))) c.self.view_is
    (told_so (g.S.Shelf.contents c.args.shelf.now) before.rows.lines.name _ _ (λ files file is held k. group_given g.W.ReadLines.readers before (subst (λ (s : PullState). ReadsLines g.W.ReadLines.readers (version_of s.version)) (sym c.self.view_is) c.requires) file place new refl d.size c.passed-self-inside.ensures (group_tree c.in-Ok-Some.group) k) gives)

pub returns-in-Ok-Some-clause-shorter : goal.returns-in-Ok-Some-clause-shorter
returns-in-Ok-Some-clause-shorter g c =
    let before : PullState = record { version = c.self.inside.version; rows = c.self.inside.rows; place = c.self.inside.place; ended = c.self.inside.ended; refused = c.self.inside.refused } in
    let inside = c.self.invariant c.in_default.is in
    let place = inside.1 c.if-self.false in
    let d = c.in-Ok-Some.ensures.draws in
    let new : PullState = record { version = c.self.inside.version; rows = c.next_group.new.rows; place = c.passed-self-inside.result; ended = c.self.inside.ended; refused = c.self.inside.refused } in
    let gives : IfFile (g.S.Shelf.contents c.args.shelf.now) before.rows.lines.name (ReadFrom (turn_at (version_of before.version) (eqb before.place 0)) (Some (group_tree c.in-Ok-Some.group)) before.rows new.rows) =
    subst (λ (o : Option Group). IfSome o (λ x. IfFile (g.S.Shelf.contents c.args.shelf.now) before.rows.lines.name (ReadFrom (turn_at (version_of before.version) (eqb before.place 0)) (Some (group_tree x)) before.rows new.rows))) c.in-Ok-Some.field-0-is c.in-Ok-Some.ensures.given in
    subst (λ (s : PullState). IfFile (g.S.Shelf.contents c.args.shelf.now) s.rows.lines.name (λ (file : List ℕ). length (progress_in new file).rest < length (progress_in s file).rest)) c.self.view_is
    (told_so (g.S.Shelf.contents c.args.shelf.now) before.rows.lines.name _ _ (λ files file is held k. group_shorter g.W.ReadLines.readers before (subst (λ (s : PullState). ReadsLines g.W.ReadLines.readers (version_of s.version)) (sym c.self.view_is) c.requires) file place new refl d.size c.passed-self-inside.ensures (group_tree c.in-Ok-Some.group) k) gives)

pub returns-in-Ok-Some-clause-fits : goal.returns-in-Ok-Some-clause-fits
returns-in-Ok-Some-clause-fits g c = subst (λ (o : Option Group). IfSome o (λ x. IsGroupIn (version_of c.self.inside.version) (group_tree x))) c.in-Ok-Some.field-0-is c.in-Ok-Some.ensures.fits

pub returns-in-Ok-Some-clause-pulls : goal.returns-in-Ok-Some-clause-pulls
returns-in-Ok-Some-clause-pulls g c =
    let before : PullState = record { version = c.self.inside.version; rows = c.self.inside.rows; place = c.self.inside.place; ended = c.self.inside.ended; refused = c.self.inside.refused } in
    let inside = c.self.invariant c.in_default.is in
    let place = inside.1 c.if-self.false in
    let new : PullState = record { version = c.self.inside.version; rows = c.next_group.new.rows; place = c.passed-self-inside.result; ended = c.self.inside.ended; refused = c.self.inside.refused } in
    let fewer = subst (λ (o : Option Group). IfSome o (λ _. rows_left new.rows < rows_left before.rows)) c.in-Ok-Some.field-0-is c.in-Ok-Some.ensures.fewer in
    subst (λ (s : PullState). Pulls g.S.Shelf.contents g.S.Shelf.read_faults g.S.Shelf.write_faults g.S.Shelf.IsSure (Ok (Some c.in-Ok-Some.group)) s c.args.shelf.now new c.next_group.new.shelf) c.self.view_is
    (pulls_drawn g.S.Shelf.contents g.S.Shelf.read_faults g.S.Shelf.write_faults g.S.Shelf.IsSure (Ok (Some c.in-Ok-Some.group)) before c.args.shelf.now new c.next_group.new.shelf c.in_default.is c.if-self.false inside.0 refl c.in-Ok-Some.ensures.draws tt c.in_default.is c.in-Ok-Some.ensures.left fewer)

-- ---- where there was none

pub returns-in-Ok-None-clause-end : goal.returns-in-Ok-None-clause-end
returns-in-Ok-None-clause-end g c =
    let before : PullState = record { version = c.self.inside.version; rows = c.self.inside.rows; place = c.self.inside.place; ended = c.self.inside.ended; refused = c.self.inside.refused } in
    let inside = c.self.invariant c.in_default.is in
    let place = inside.1 c.if-self.false in
    let d = c.in-Ok-None.ensures.draws in
    let new : PullState = record { version = c.self.inside.version; rows = c.next_group.new.rows; place = c.self.inside.place; ended = true; refused = c.self.inside.refused } in
    let ends : IfFile (g.S.Shelf.contents c.args.shelf.now) before.rows.lines.name (λ (file : List ℕ). (n : ℕ) × EndsBehind (turn_at (version_of before.version) (eqb before.place 0)) before.rows file n (EndsSo true)) =
    subst (λ (o : Option Group). IfNone o (IfFile (g.S.Shelf.contents c.args.shelf.now) before.rows.lines.name (λ (file : List ℕ). (n : ℕ) × EndsBehind (turn_at (version_of before.version) (eqb before.place 0)) before.rows file n (EndsSo true)))) c.in-Ok-None.field-0-is c.in-Ok-None.ensures.end in
    λ open_. subst (λ (s : PullState). IfFile (g.S.Shelf.contents c.args.shelf.now) s.rows.lines.name (λ (file : List ℕ). (ps : List (ProofOf g.W.ReadLines.readers.grammar.Line)) → HasGivenOver g.W.ReadLines.readers.grammar ps (progress_in s file) → held_text s file ≡ text_over g.W.ReadLines.readers.grammar (version_of s.version) ps)) c.self.view_is
    (told_so (g.S.Shelf.contents c.args.shelf.now) before.rows.lines.name _ _ (λ files file is held k. group_ended g.W.ReadLines.readers before (subst (λ (s : PullState). ReadsLines g.W.ReadLines.readers (version_of s.version)) (sym c.self.view_is) c.requires) file place k.0 k.1) ends)

pub returns-in-Ok-None-clause-pulls : goal.returns-in-Ok-None-clause-pulls
returns-in-Ok-None-clause-pulls g c =
    let before : PullState = record { version = c.self.inside.version; rows = c.self.inside.rows; place = c.self.inside.place; ended = c.self.inside.ended; refused = c.self.inside.refused } in
    let inside = c.self.invariant c.in_default.is in
    let place = inside.1 c.if-self.false in
    let new : PullState = record { version = c.self.inside.version; rows = c.next_group.new.rows; place = c.self.inside.place; ended = true; refused = c.self.inside.refused } in
    subst (λ (s : PullState). Pulls g.S.Shelf.contents g.S.Shelf.read_faults g.S.Shelf.write_faults g.S.Shelf.IsSure {X = Group} (Ok None) s c.args.shelf.now new c.next_group.new.shelf) c.self.view_is
    (pulls_drawn g.S.Shelf.contents g.S.Shelf.read_faults g.S.Shelf.write_faults g.S.Shelf.IsSure {X = Group} (Ok None) before c.args.shelf.now new c.next_group.new.shelf c.in_default.is c.if-self.false inside.0 refl c.in-Ok-None.ensures.draws tt c.in_default.is c.in-Ok-None.ensures.left tt)

-- ---- where it is refused

pub returns-in-Err-clause-bad : goal.returns-in-Err-clause-bad
returns-in-Err-clause-bad g c =
    let before : PullState = record { version = c.self.inside.version; rows = c.self.inside.rows; place = c.self.inside.place; ended = c.self.inside.ended; refused = c.self.inside.refused } in
    let inside = c.self.invariant c.in_default.is in
    let place = inside.1 c.if-self.false in
    subst (λ (s : PullState). IfBad c.in-Err.fault (λ (n : ℕ). s.refused ≡ None → IfFile (g.S.Shelf.contents c.args.shelf.now) s.rows.lines.name (λ (file : List ℕ). (ps : List (ProofOf g.W.ReadLines.readers.grammar.Line)) → HasGivenOver g.W.ReadLines.readers.grammar ps (progress_in s file) → MayOpen ps (progress_in s file).rest → IsBadAt (texts_over g.W.ReadLines.readers.grammar (version_of s.version)) (held_text s file) n × NoItemOver g.W.ReadLines.readers.grammar ps (progress_in s file)))) c.self.view_is
    (bad_so c.in-Err.fault _ (λ (n : ℕ). before.refused ≡ None → IfFile (g.S.Shelf.contents c.args.shelf.now) before.rows.lines.name (λ (file : List ℕ). (ps : List (ProofOf g.W.ReadLines.readers.grammar.Line)) → HasGivenOver g.W.ReadLines.readers.grammar ps (progress_in before file) → MayOpen ps (progress_in before file).rest → IsBadAt (texts_over g.W.ReadLines.readers.grammar (version_of before.version)) (held_text before file) n × NoItemOver g.W.ReadLines.readers.grammar ps (progress_in before file)))
    (λ n stops going. told_so (g.S.Shelf.contents c.args.shelf.now) before.rows.lines.name _ _
    (λ files file is held k ps h may. elim k [ inl s ↦ group_stopped g.W.ReadLines.readers before (subst (λ (s : PullState). ReadsLines g.W.ReadLines.readers (version_of s.version)) (sym c.self.view_is) c.requires) file place n s ps h may | inr m ↦ group_followed g.W.ReadLines.readers before (subst (λ (s : PullState). ReadsLines g.W.ReadLines.readers (version_of s.version)) (sym c.self.view_is) c.requires) file place n m.0 m.1 m.2 ps h may ]) stops) c.in-Err.ensures.bad)

pub returns-in-Err-clause-pulls : goal.returns-in-Err-clause-pulls
returns-in-Err-clause-pulls g c =
    let before : PullState = record { version = c.self.inside.version; rows = c.self.inside.rows; place = c.self.inside.place; ended = c.self.inside.ended; refused = c.self.inside.refused } in
    let inside = c.self.invariant c.in_default.is in
    let place = inside.1 c.if-self.false in
    let new : PullState = record { version = c.self.inside.version; rows = c.next_group.new.rows; place = c.self.inside.place; ended = c.self.inside.ended; refused = Some c.in-Err.fault } in
    subst (λ (s : PullState). Pulls g.S.Shelf.contents g.S.Shelf.read_faults g.S.Shelf.write_faults g.S.Shelf.IsSure {X = Group} (Err c.in-Err.fault) s c.args.shelf.now new c.next_group.new.shelf) c.self.view_is
    (pulls_drawn g.S.Shelf.contents g.S.Shelf.read_faults g.S.Shelf.write_faults g.S.Shelf.IsSure {X = Group} (Err c.in-Err.fault) before c.args.shelf.now new c.next_group.new.shelf c.in_default.is c.if-self.false inside.0 refl c.in-Err.ensures.draws refl tt c.in-Err.ensures.left tt)
