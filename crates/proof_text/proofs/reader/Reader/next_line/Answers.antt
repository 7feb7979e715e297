use Rattle.std.proofs.Common.{◌≡◌, ◌++◌, false, Option, None, Some, refl, arith}
use Rattle.std.specs.Prelude.{option_map}
use Rattle.mc_text.specs.declared.token.Before.TheVariants.{Start}
use Rattle.mc_text.specs.Scanning.{lex, At}
use Rattle.mc_text.specs.Reading.{goes_on}
use Rattle.tailrec_lang.specs.Tree.{group_tree}
use Rattle.group_text.specs.Version.{version_of}
use Rattle.group_text.specs.inner.Rows.{tokens}
use Rattle.group_text.proofs.Claims.{told-ok, told-bad, told-lost, found-was, bad-was, lost-was, fault-not-bad, memory-not-bad}
use Rattle.proof_text.specs.inner.LineReaders.{ends_proof, turn_over}
use Rattle.proof_text.proofs.LineJoins.{line-row}
use Rattle.proof_text.proofs.Called.{read_known, now-are, as-are, as-fits, kept-are, line-small, line-bad, line-none, line-fits, line-place, line-lines, line-given, line-less, lines-ended, not-ended, not-stopped, not-lost}
use Rattle.proof_text.proofs.reader.Reader.next_line.Goals as goal

pub overflow_add-self : goal.overflow_add-self
overflow_add-self g c =
    let known = (read_known g.W.ReadLines.readers c.self.inside.version c.self.inside.text.now (c.self.inside.lines.now ++ c.self.inside.tail.now) c.self.inside.place c.args.self.now c.self.view_is c.requires.laws) in
    let b = kept-are g.W.ReadLines.readers c.self.inside.version c.self.inside.text.now (c.self.inside.lines.now ++ c.self.inside.tail.now) c.self.inside.place c.args.self.now c.self.view_is c.requires.laws (g.W.ReadLines.Behind c.args.kept.now) c.requires.kept in
    let k = told-ok c.self.inside.lines.now c.new-ahead.result c.read_turn.new.rows c.new-ahead.ensures (turn_over g.W.ReadLines.readers (version_of c.self.inside.version) c.args.group.now.code.ranges b.0) c.taken-passed.result (c.taken-passed.ensures _ refl) (Some (g.W.ReadLines.tree c.args.group.now.code.ranges c.in-Ok-Some.line)) c.rest-self-inside.result.now c.rest-self-inside.ensures (found-was (g.W.ReadLines.tree c.args.group.now.code.ranges) (turn_over g.W.ReadLines.readers (version_of c.self.inside.version) c.args.group.now.code.ranges b.0) _ _ c.in-Ok-Some.field-0 (Some c.in-Ok-Some.line) c.in-Ok-Some.field-0-is (c.in-Ok-Some.ensures.gives b.0 b.1 (line-row g.W.ReadLines.readers (version_of c.self.inside.version) known.laws c.args.group.now.code.ranges (c.requires.group.code, c.requires.group.bytes) b.0 b.2))) in
    let fits = line-small known c.self.inside.text.now c.self.inside.lines.now c.self.inside.tail.now c.self.inside.place c.args.self.now c.self.view_is c.self.invariant.0 c.self.invariant.1 (lex c.rest-self-inside.result.now (At Start)) c.taken-passed.result k.count c.self.invariant.2 in
    omega (arith, fits)

pub invariant_of-self : goal.invariant_of-self
invariant_of-self g c =
    let known = (read_known g.W.ReadLines.readers c.self.inside.version c.self.inside.text.now (c.self.inside.lines.now ++ c.self.inside.tail.now) c.self.inside.place c.args.self.now c.self.view_is c.requires.laws) in
    let b = kept-are g.W.ReadLines.readers c.self.inside.version c.self.inside.text.now (c.self.inside.lines.now ++ c.self.inside.tail.now) c.self.inside.place c.args.self.now c.self.view_is c.requires.laws (g.W.ReadLines.Behind c.args.kept.now) c.requires.kept in
    let k = told-ok c.self.inside.lines.now c.new-ahead.result c.read_turn.new.rows c.new-ahead.ensures (turn_over g.W.ReadLines.readers (version_of c.self.inside.version) c.args.group.now.code.ranges b.0) c.taken-passed.result (c.taken-passed.ensures _ refl) (Some (g.W.ReadLines.tree c.args.group.now.code.ranges c.in-Ok-Some.line)) c.rest-self-inside.result.now c.rest-self-inside.ensures (found-was (g.W.ReadLines.tree c.args.group.now.code.ranges) (turn_over g.W.ReadLines.readers (version_of c.self.inside.version) c.args.group.now.code.ranges b.0) _ _ c.in-Ok-Some.field-0 (Some c.in-Ok-Some.line) c.in-Ok-Some.field-0-is (c.in-Ok-Some.ensures.gives b.0 b.1 (line-row g.W.ReadLines.readers (version_of c.self.inside.version) known.laws c.args.group.now.code.ranges (c.requires.group.code, c.requires.group.bytes) b.0 b.2))) in
    (line-lines known c.self.inside.text.now c.self.inside.lines.now c.self.inside.tail.now c.self.inside.place c.args.self.now c.self.view_is c.self.invariant.0 c.self.invariant.1 (lex c.rest-self-inside.result.now (At Start)) c.taken-passed.result k.count (group_tree c.args.group.now) c.requires.group b.0 b.2 (g.W.ReadLines.tree c.args.group.now.code.ranges c.in-Ok-Some.line) k.is c.rest-self-inside.result.now k.rest, c.self.invariant.1, line-place known c.self.inside.text.now c.self.inside.lines.now c.self.inside.tail.now c.self.inside.place c.args.self.now c.self.view_is c.self.invariant.0 c.self.invariant.1 (lex c.rest-self-inside.result.now (At Start)) c.taken-passed.result k.count (group_tree c.args.group.now) c.requires.group b.0 b.2 (g.W.ReadLines.tree c.args.group.now.code.ranges c.in-Ok-Some.line) k.is c.rest-self-inside.result.now k.rest c.self.invariant.2)

pub returns-in-Ok-Some-clause-given : goal.returns-in-Ok-Some-clause-given
returns-in-Ok-Some-clause-given g c =
    λ before behind ps p h same lines.
    let known = (read_known g.W.ReadLines.readers c.self.inside.version c.self.inside.text.now (c.self.inside.lines.now ++ c.self.inside.tail.now) c.self.inside.place c.args.self.now c.self.view_is c.requires.laws) in
    let are = now-are g.W.ReadLines.readers c.self.inside.version c.self.inside.text.now (c.self.inside.lines.now ++ c.self.inside.tail.now) c.self.inside.place c.args.self.now c.self.view_is c.requires.laws ps p h before lines in
    let k = told-ok c.self.inside.lines.now c.new-ahead.result c.read_turn.new.rows c.new-ahead.ensures (turn_over g.W.ReadLines.readers (version_of c.self.inside.version) c.args.group.now.code.ranges before) c.taken-passed.result (c.taken-passed.ensures _ refl) (Some (g.W.ReadLines.tree c.args.group.now.code.ranges c.in-Ok-Some.line)) c.rest-self-inside.result.now c.rest-self-inside.ensures (found-was (g.W.ReadLines.tree c.args.group.now.code.ranges) (turn_over g.W.ReadLines.readers (version_of c.self.inside.version) c.args.group.now.code.ranges before) _ _ c.in-Ok-Some.field-0 (Some c.in-Ok-Some.line) c.in-Ok-Some.field-0-is (c.in-Ok-Some.ensures.gives before behind (line-row g.W.ReadLines.readers (version_of c.self.inside.version) known.laws c.args.group.now.code.ranges (c.requires.group.code, c.requires.group.bytes) before are))) in
    line-given known c.self.inside.text.now c.self.inside.lines.now c.self.inside.tail.now c.self.inside.place c.args.self.now c.self.view_is c.self.invariant.0 c.self.invariant.1 (lex c.rest-self-inside.result.now (At Start)) c.taken-passed.result k.count (group_tree c.args.group.now) c.requires.group before are (g.W.ReadLines.tree c.args.group.now.code.ranges c.in-Ok-Some.line) k.is c.rest-self-inside.result.now k.rest ps p h same lines

pub returns-in-Ok-Some-clause-shorter : goal.returns-in-Ok-Some-clause-shorter
returns-in-Ok-Some-clause-shorter g c =
    let known = (read_known g.W.ReadLines.readers c.self.inside.version c.self.inside.text.now (c.self.inside.lines.now ++ c.self.inside.tail.now) c.self.inside.place c.args.self.now c.self.view_is c.requires.laws) in
    let b = kept-are g.W.ReadLines.readers c.self.inside.version c.self.inside.text.now (c.self.inside.lines.now ++ c.self.inside.tail.now) c.self.inside.place c.args.self.now c.self.view_is c.requires.laws (g.W.ReadLines.Behind c.args.kept.now) c.requires.kept in
    let k = told-ok c.self.inside.lines.now c.new-ahead.result c.read_turn.new.rows c.new-ahead.ensures (turn_over g.W.ReadLines.readers (version_of c.self.inside.version) c.args.group.now.code.ranges b.0) c.taken-passed.result (c.taken-passed.ensures _ refl) (Some (g.W.ReadLines.tree c.args.group.now.code.ranges c.in-Ok-Some.line)) c.rest-self-inside.result.now c.rest-self-inside.ensures (found-was (g.W.ReadLines.tree c.args.group.now.code.ranges) (turn_over g.W.ReadLines.readers (version_of c.self.inside.version) c.args.group.now.code.ranges b.0) _ _ c.in-Ok-Some.field-0 (Some c.in-Ok-Some.line) c.in-Ok-Some.field-0-is (c.in-Ok-Some.ensures.gives b.0 b.1 (line-row g.W.ReadLines.readers (version_of c.self.inside.version) known.laws c.args.group.now.code.ranges (c.requires.group.code, c.requires.group.bytes) b.0 b.2))) in
    line-less known c.self.inside.text.now c.self.inside.lines.now c.self.inside.tail.now c.self.inside.place c.args.self.now c.self.view_is c.self.invariant.0 c.self.invariant.1 (lex c.rest-self-inside.result.now (At Start)) c.taken-passed.result k.count (group_tree c.args.group.now) c.requires.group b.0 b.2 (g.W.ReadLines.tree c.args.group.now.code.ranges c.in-Ok-Some.line) k.is c.rest-self-inside.result.now k.rest

pub returns-in-Ok-Some-clause-fits : goal.returns-in-Ok-Some-clause-fits
returns-in-Ok-Some-clause-fits g c =
    λ before behind were.
    let known = (read_known g.W.ReadLines.readers c.self.inside.version c.self.inside.text.now (c.self.inside.lines.now ++ c.self.inside.tail.now) c.self.inside.place c.args.self.now c.self.view_is c.requires.laws) in
    let are = as-are g.W.ReadLines.readers c.self.inside.version c.self.inside.text.now (c.self.inside.lines.now ++ c.self.inside.tail.now) c.self.inside.place c.args.self.now c.self.view_is c.requires.laws before were in
    let k = told-ok c.self.inside.lines.now c.new-ahead.result c.read_turn.new.rows c.new-ahead.ensures (turn_over g.W.ReadLines.readers (version_of c.self.inside.version) c.args.group.now.code.ranges before) c.taken-passed.result (c.taken-passed.ensures _ refl) (Some (g.W.ReadLines.tree c.args.group.now.code.ranges c.in-Ok-Some.line)) c.rest-self-inside.result.now c.rest-self-inside.ensures (found-was (g.W.ReadLines.tree c.args.group.now.code.ranges) (turn_over g.W.ReadLines.readers (version_of c.self.inside.version) c.args.group.now.code.ranges before) _ _ c.in-Ok-Some.field-0 (Some c.in-Ok-Some.line) c.in-Ok-Some.field-0-is (c.in-Ok-Some.ensures.gives before behind (line-row g.W.ReadLines.readers (version_of c.self.inside.version) known.laws c.args.group.now.code.ranges (c.requires.group.code, c.requires.group.bytes) before are))) in
    as-fits g.W.ReadLines.readers c.self.inside.version c.self.inside.text.now (c.self.inside.lines.now ++ c.self.inside.tail.now) c.self.inside.place c.args.self.now c.self.view_is c.requires.laws before (g.W.ReadLines.tree c.args.group.now.code.ranges c.in-Ok-Some.line) (line-fits known c.self.inside.text.now c.self.inside.lines.now c.self.inside.tail.now c.self.inside.place c.args.self.now c.self.view_is c.self.invariant.0 c.self.invariant.1 (lex c.rest-self-inside.result.now (At Start)) c.taken-passed.result k.count (group_tree c.args.group.now) c.requires.group before are (g.W.ReadLines.tree c.args.group.now.code.ranges c.in-Ok-Some.line) k.is)

pub returns-in-Err-Bad-clause-bad : goal.returns-in-Err-Bad-clause-bad
returns-in-Err-Bad-clause-bad g c =
    λ before behind ps p h same lines.
    let known = (read_known g.W.ReadLines.readers c.self.inside.version c.self.inside.text.now (c.self.inside.lines.now ++ c.self.inside.tail.now) c.self.inside.place c.args.self.now c.self.view_is c.requires.laws) in
    let are = now-are g.W.ReadLines.readers c.self.inside.version c.self.inside.text.now (c.self.inside.lines.now ++ c.self.inside.tail.now) c.self.inside.place c.args.self.now c.self.view_is c.requires.laws ps p h before lines in
    let k = told-bad c.self.inside.lines.now c.new-ahead.result c.read_turn.new.rows c.new-ahead.ensures (turn_over g.W.ReadLines.readers (version_of c.self.inside.version) c.args.group.now.code.ranges before) c.taken.result (c.taken.ensures _ refl) (bad-was (λ o. option_map (g.W.ReadLines.tree c.args.group.now.code.ranges) o) (turn_over g.W.ReadLines.readers (version_of c.self.inside.version) c.args.group.now.code.ranges before) _ _ c.in-Err-Bad.field-0 c.in-Err-Bad.field-0-is (c.in-Err-Bad.ensures.gives before behind (line-row g.W.ReadLines.readers (version_of c.self.inside.version) known.laws c.args.group.now.code.ranges (c.requires.group.code, c.requires.group.bytes) before are))) in
    line-bad known c.self.inside.text.now c.self.inside.lines.now c.self.inside.tail.now c.self.inside.place c.args.self.now c.self.view_is c.self.invariant.0 c.self.invariant.1 k.bad c.taken.result k.count (group_tree c.args.group.now) before ps p h same lines k.is

pub returns-in-Err-Bad-clause-no_item : goal.returns-in-Err-Bad-clause-no_item
returns-in-Err-Bad-clause-no_item g c =
    λ before behind ps p h same lines.
    let known = (read_known g.W.ReadLines.readers c.self.inside.version c.self.inside.text.now (c.self.inside.lines.now ++ c.self.inside.tail.now) c.self.inside.place c.args.self.now c.self.view_is c.requires.laws) in
    let are = now-are g.W.ReadLines.readers c.self.inside.version c.self.inside.text.now (c.self.inside.lines.now ++ c.self.inside.tail.now) c.self.inside.place c.args.self.now c.self.view_is c.requires.laws ps p h before lines in
    let k = told-bad c.self.inside.lines.now c.new-ahead.result c.read_turn.new.rows c.new-ahead.ensures (turn_over g.W.ReadLines.readers (version_of c.self.inside.version) c.args.group.now.code.ranges before) c.taken.result (c.taken.ensures _ refl) (bad-was (λ o. option_map (g.W.ReadLines.tree c.args.group.now.code.ranges) o) (turn_over g.W.ReadLines.readers (version_of c.self.inside.version) c.args.group.now.code.ranges before) _ _ c.in-Err-Bad.field-0 c.in-Err-Bad.field-0-is (c.in-Err-Bad.ensures.gives before behind (line-row g.W.ReadLines.readers (version_of c.self.inside.version) known.laws c.args.group.now.code.ranges (c.requires.group.code, c.requires.group.bytes) before are))) in
    line-none known c.self.inside.text.now c.self.inside.lines.now c.self.inside.tail.now c.self.inside.place c.args.self.now c.self.view_is c.self.invariant.0 c.self.invariant.1 k.bad c.taken.result k.count (group_tree c.args.group.now) before ps p h same lines k.is

pub returns-in-Ok-Some-clause-end : goal.returns-in-Ok-Some-clause-end
returns-in-Ok-Some-clause-end g c =
    let known = (read_known g.W.ReadLines.readers c.self.inside.version c.self.inside.text.now (c.self.inside.lines.now ++ c.self.inside.tail.now) c.self.inside.place c.args.self.now c.self.view_is c.requires.laws) in
    let b = kept-are g.W.ReadLines.readers c.self.inside.version c.self.inside.text.now (c.self.inside.lines.now ++ c.self.inside.tail.now) c.self.inside.place c.args.self.now c.self.view_is c.requires.laws (g.W.ReadLines.Behind c.args.kept.now) c.requires.kept in
    let k = told-ok c.self.inside.lines.now c.new-ahead.result c.read_turn.new.rows c.new-ahead.ensures (turn_over g.W.ReadLines.readers (version_of c.self.inside.version) c.args.group.now.code.ranges b.0) c.taken-passed.result (c.taken-passed.ensures _ refl) (Some (g.W.ReadLines.tree c.args.group.now.code.ranges c.in-Ok-Some.line)) c.rest-self-inside.result.now c.rest-self-inside.ensures (found-was (g.W.ReadLines.tree c.args.group.now.code.ranges) (turn_over g.W.ReadLines.readers (version_of c.self.inside.version) c.args.group.now.code.ranges b.0) _ _ c.in-Ok-Some.field-0 (Some c.in-Ok-Some.line) c.in-Ok-Some.field-0-is (c.in-Ok-Some.ensures.gives b.0 b.1 (line-row g.W.ReadLines.readers (version_of c.self.inside.version) known.laws c.args.group.now.code.ranges (c.requires.group.code, c.requires.group.bytes) b.0 b.2))) in
    (λ x. absurd x, not-ended known c.self.inside.text.now c.self.inside.lines.now c.self.inside.tail.now c.self.inside.place c.args.self.now c.self.view_is c.self.invariant.0 c.self.invariant.1 (lex c.rest-self-inside.result.now (At Start)) c.taken-passed.result k.count c.args.group.now.code.ranges b.0 (g.W.ReadLines.tree c.args.group.now.code.ranges c.in-Ok-Some.line) _ k.is)

pub returns-in-Err-Bad-clause-end : goal.returns-in-Err-Bad-clause-end
returns-in-Err-Bad-clause-end g c =
    let known = (read_known g.W.ReadLines.readers c.self.inside.version c.self.inside.text.now (c.self.inside.lines.now ++ c.self.inside.tail.now) c.self.inside.place c.args.self.now c.self.view_is c.requires.laws) in
    let b = kept-are g.W.ReadLines.readers c.self.inside.version c.self.inside.text.now (c.self.inside.lines.now ++ c.self.inside.tail.now) c.self.inside.place c.args.self.now c.self.view_is c.requires.laws (g.W.ReadLines.Behind c.args.kept.now) c.requires.kept in
    let k = told-bad c.self.inside.lines.now c.new-ahead.result c.read_turn.new.rows c.new-ahead.ensures (turn_over g.W.ReadLines.readers (version_of c.self.inside.version) c.args.group.now.code.ranges b.0) c.taken.result (c.taken.ensures _ refl) (bad-was (λ o. option_map (g.W.ReadLines.tree c.args.group.now.code.ranges) o) (turn_over g.W.ReadLines.readers (version_of c.self.inside.version) c.args.group.now.code.ranges b.0) _ _ c.in-Err-Bad.field-0 c.in-Err-Bad.field-0-is (c.in-Err-Bad.ensures.gives b.0 b.1 (line-row g.W.ReadLines.readers (version_of c.self.inside.version) known.laws c.args.group.now.code.ranges (c.requires.group.code, c.requires.group.bytes) b.0 b.2))) in
    (λ x. absurd x, not-stopped known c.self.inside.text.now c.self.inside.lines.now c.self.inside.tail.now c.self.inside.place c.args.self.now c.self.view_is c.self.invariant.0 c.self.invariant.1 k.bad c.taken.result k.count c.args.group.now.code.ranges b.0 k.bad k.is)

pub returns-in-Err-Fault-clause-end : goal.returns-in-Err-Fault-clause-end
returns-in-Err-Fault-clause-end g c =
    let known = (read_known g.W.ReadLines.readers c.self.inside.version c.self.inside.text.now (c.self.inside.lines.now ++ c.self.inside.tail.now) c.self.inside.place c.args.self.now c.self.view_is c.requires.laws) in
    let k = told-lost c.self.inside.lines.now c.new-ahead.result c.read_turn.new.rows c.new-ahead.ensures (λ p. goes_on ends_proof (tokens p) ≡ false) (lost-was (Option g.row.W-Line.Denot) c.in-Err-Fault.field-0 _ (fault-not-bad c.in-Err-Fault.field-0 c.in-Err-Fault.field-0-is) (c.in-Err-Fault.ensures.lost tt)) in
    (λ x. absurd x, not-lost known c.self.inside.text.now c.self.inside.lines.now c.self.inside.tail.now c.self.inside.place c.args.self.now c.self.view_is c.self.invariant.0 c.self.invariant.1 (lex c.self.inside.lines.now (At Start)) 0 refl k)

pub returns-in-Err-NoMemory-clause-end : goal.returns-in-Err-NoMemory-clause-end
returns-in-Err-NoMemory-clause-end g c =
    let known = (read_known g.W.ReadLines.readers c.self.inside.version c.self.inside.text.now (c.self.inside.lines.now ++ c.self.inside.tail.now) c.self.inside.place c.args.self.now c.self.view_is c.requires.laws) in
    let k = told-lost c.self.inside.lines.now c.new-ahead.result c.read_turn.new.rows c.new-ahead.ensures (λ p. goes_on ends_proof (tokens p) ≡ false) (lost-was (Option g.row.W-Line.Denot) c.in-Err-NoMemory.field-0 _ (memory-not-bad c.in-Err-NoMemory.field-0 c.in-Err-NoMemory.field-0-is) (c.in-Err-NoMemory.ensures.lost tt)) in
    (λ x. absurd x, not-lost known c.self.inside.text.now c.self.inside.lines.now c.self.inside.tail.now c.self.inside.place c.args.self.now c.self.view_is c.self.invariant.0 c.self.invariant.1 (lex c.self.inside.lines.now (At Start)) 0 refl k)

pub overflow_add-result : goal.overflow_add-result
overflow_add-result g c =
    let known = (read_known g.W.ReadLines.readers c.self.inside.version c.self.inside.text.now (c.self.inside.lines.now ++ c.self.inside.tail.now) c.self.inside.place c.args.self.now c.self.view_is c.requires.laws) in
    let b = kept-are g.W.ReadLines.readers c.self.inside.version c.self.inside.text.now (c.self.inside.lines.now ++ c.self.inside.tail.now) c.self.inside.place c.args.self.now c.self.view_is c.requires.laws (g.W.ReadLines.Behind c.args.kept.now) c.requires.kept in
    let k = told-bad c.self.inside.lines.now c.new-ahead.result c.read_turn.new.rows c.new-ahead.ensures (turn_over g.W.ReadLines.readers (version_of c.self.inside.version) c.args.group.now.code.ranges b.0) c.taken.result (c.taken.ensures _ refl) (bad-was (λ o. option_map (g.W.ReadLines.tree c.args.group.now.code.ranges) o) (turn_over g.W.ReadLines.readers (version_of c.self.inside.version) c.args.group.now.code.ranges b.0) _ _ c.in-Err-Bad.field-0 c.in-Err-Bad.field-0-is (c.in-Err-Bad.ensures.gives b.0 b.1 (line-row g.W.ReadLines.readers (version_of c.self.inside.version) known.laws c.args.group.now.code.ranges (c.requires.group.code, c.requires.group.bytes) b.0 b.2))) in
    let fits = line-small known c.self.inside.text.now c.self.inside.lines.now c.self.inside.tail.now c.self.inside.place c.args.self.now c.self.view_is c.self.invariant.0 c.self.invariant.1 k.bad c.taken.result k.count c.self.invariant.2 in
    omega (arith, fits)

pub overflow_add-result-in-Err-Bad : goal.overflow_add-result-in-Err-Bad
overflow_add-result-in-Err-Bad g c =
    let known = (read_known g.W.ReadLines.readers c.self.inside.version c.self.inside.text.now (c.self.inside.lines.now ++ c.self.inside.tail.now) c.self.inside.place c.args.self.now c.self.view_is c.requires.laws) in
    let b = kept-are g.W.ReadLines.readers c.self.inside.version c.self.inside.text.now (c.self.inside.lines.now ++ c.self.inside.tail.now) c.self.inside.place c.args.self.now c.self.view_is c.requires.laws (g.W.ReadLines.Behind c.args.kept.now) c.requires.kept in
    let k = told-bad c.self.inside.lines.now c.new-ahead.result c.read_turn.new.rows c.new-ahead.ensures (turn_over g.W.ReadLines.readers (version_of c.self.inside.version) c.args.group.now.code.ranges b.0) c.taken.result (c.taken.ensures _ refl) (bad-was (λ o. option_map (g.W.ReadLines.tree c.args.group.now.code.ranges) o) (turn_over g.W.ReadLines.readers (version_of c.self.inside.version) c.args.group.now.code.ranges b.0) _ _ c.in-Err-Bad.field-0 c.in-Err-Bad.field-0-is (c.in-Err-Bad.ensures.gives b.0 b.1 (line-row g.W.ReadLines.readers (version_of c.self.inside.version) known.laws c.args.group.now.code.ranges (c.requires.group.code, c.requires.group.bytes) b.0 b.2))) in
    let fits = line-small known c.self.inside.text.now c.self.inside.lines.now c.self.inside.tail.now c.self.inside.place c.args.self.now c.self.view_is c.self.invariant.0 c.self.invariant.1 k.bad c.taken.result k.count c.self.invariant.2 in
    omega (arith, fits)

pub returns-in-Ok-None-clause-end : goal.returns-in-Ok-None-clause-end
returns-in-Ok-None-clause-end g c =
    let known = (read_known g.W.ReadLines.readers c.self.inside.version c.self.inside.text.now (c.self.inside.lines.now ++ c.self.inside.tail.now) c.self.inside.place c.args.self.now c.self.view_is c.requires.laws) in
    let b = kept-are g.W.ReadLines.readers c.self.inside.version c.self.inside.text.now (c.self.inside.lines.now ++ c.self.inside.tail.now) c.self.inside.place c.args.self.now c.self.view_is c.requires.laws (g.W.ReadLines.Behind c.args.kept.now) c.requires.kept in
    let k = told-ok c.self.inside.lines.now c.new-ahead.result c.read_turn.new.rows c.new-ahead.ensures (turn_over g.W.ReadLines.readers (version_of c.self.inside.version) c.args.group.now.code.ranges b.0) c.read_turn.new.rows.taken refl None c.read_turn.new.rows.rest refl (found-was (g.W.ReadLines.tree c.args.group.now.code.ranges) (turn_over g.W.ReadLines.readers (version_of c.self.inside.version) c.args.group.now.code.ranges b.0) _ _ c.in-Ok-None.field-0 None c.in-Ok-None.field-0-is (c.in-Ok-None.ensures.gives b.0 b.1 (line-row g.W.ReadLines.readers (version_of c.self.inside.version) known.laws c.args.group.now.code.ranges (c.requires.group.code, c.requires.group.bytes) b.0 b.2))) in
    (λ x. lines-ended known c.self.inside.text.now c.self.inside.lines.now c.self.inside.tail.now c.self.inside.place c.args.self.now c.self.view_is c.self.invariant.0 c.self.invariant.1 (lex c.read_turn.new.rows.rest (At Start)) c.read_turn.new.rows.taken k.count c.args.group.now.code.ranges (c.requires.group.code, c.requires.group.bytes) b.0 b.2 k.is, λ p. tt)
