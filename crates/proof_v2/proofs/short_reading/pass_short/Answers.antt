use Rattle.std.proofs.Common.{◌≡◌, ◌<◌, ◌∷◌, ◌++◌, [], List, length, Option, Ok, subst}
use Rattle.tailrec_lang.specs.Tree.{group_tree}
use Rattle.group_text.specs.declared.version.Version.TheVariants.{Two}
use Rattle.proof_text.specs.Answers.{OnEnd, OnGiven}
use Rattle.proof_text.specs.FirstProofs.{ProofEnds, with_line}
use Rattle.short_text.specs.declared.short.ShortLine.{ShortLine}
use Rattle.short_text.specs.declared.short.SpelledShort.{SpelledShort}
use Rattle.short_text.specs.ShortProofs.{ShortProof}
use Rattle.short_text.specs.SpelledShort.{short_line_or_own, short_or_own, spelled_short}
use Rattle.proof_v2.specs.AnyReading.{HasGivenAny, reading_state}
use Rattle.proof_v2.specs.declared.any_reader.AnyLine.TheVariants as any
use Rattle.proof_v2.specs.inner.ShortReading.{Stays}
use Rattle.proof_v2.proofs.AnyGiven.{any-fault, bad-exit-item, gives-some, line-given, lines-stop, tabled-more, terms-given}
use Rattle.proof_v2.proofs.short_reading.pass_short.Goals as goal

pub returns-in_err-spelled-clause-bad : goal.returns-in_err-spelled-clause-bad
returns-in_err-spelled-clause-bad c =
    bad-exit-item SpelledShort c.in_err-spelled.field-0.0 _ _
    (λ n h. lines-stop (reading_state c.args.reader.now c.args.lines.now) c.requires.version (group_tree c.args.group.now) (reading_state c.loop-spelled.reader c.loop-spelled.lines) c.loop-spelled.invariant.0
    (reading_state c.next_spelled.new.reader c.next_spelled.new.lines) c.in_err-spelled.ensures.fault n h) c.in_err-spelled.ensures.bad c.from_residual.result c.from_residual.ensures.1

pub returns-in_err-spelled-clause-fault : goal.returns-in_err-spelled-clause-fault
returns-in_err-spelled-clause-fault c =
    any-fault c.from_residual.result _
    (terms-given (reading_state c.args.reader.now c.args.lines.now) c.requires.version (group_tree c.args.group.now) (reading_state c.loop-spelled.reader c.loop-spelled.lines) c.loop-spelled.invariant.0
    (reading_state c.next_spelled.new.reader c.next_spelled.new.lines) c.in_err-spelled.ensures.fault)

pub returns-in-Proof-clause-given : goal.returns-in-Proof-clause-given
returns-in-Proof-clause-given c =
    let own = c.args.group.now.code.ranges in
    let given = subst (λ (o : Option SpelledShort). OnGiven (Ok o) (λ l. (ps : List ShortProof) (p : ShortProof) → HasGivenAny Two (ps ++ p ∷ []) (reading_state c.loop-spelled.reader c.loop-spelled.lines) → p.group ≡ group_tree c.args.group.now
    → HasGivenAny Two (ps ++ with_line p (spelled_short own l) ∷ []) (reading_state c.next_spelled.new.reader c.next_spelled.new.lines))) c.in-Some.is c.in_ok-spelled.ensures.given in
    let fewer = subst (λ (o : Option SpelledShort). OnGiven (Ok o) (λ _. length c.next_spelled.new.reader.rest < length c.loop-spelled.reader.rest)) c.in-Some.is c.in_ok-spelled.ensures.shorter in
    let short = short_or_own own c.in-Some.spelled.all c.in-Proof._line in
    gives-some (group_tree c.args.group.now) (any.Two short) (reading_state c.args.reader.now c.args.lines.now) (reading_state c.next_spelled.new.reader c.next_spelled.new.lines)
    (line-given (reading_state c.args.reader.now c.args.lines.now) c.requires.version (group_tree c.args.group.now) (reading_state c.loop-spelled.reader c.loop-spelled.lines) c.loop-spelled.invariant.0
    (reading_state c.next_spelled.new.reader c.next_spelled.new.lines) c.in_ok-spelled.ensures.same fewer short
    (subst (λ (l : ShortLine). (ps : List ShortProof) (p : ShortProof) → HasGivenAny Two (ps ++ p ∷ []) (reading_state c.loop-spelled.reader c.loop-spelled.lines) → p.group ≡ group_tree c.args.group.now
    → HasGivenAny Two (ps ++ with_line p (short_line_or_own own c.in-Some.spelled.all l) ∷ []) (reading_state c.next_spelled.new.reader c.next_spelled.new.lines)) c.in-Proof.is given))

pub loop-spelled-preserved : goal.loop-spelled-preserved
loop-spelled-preserved c =
    let own = c.args.group.now.code.ranges in
    let given = subst (λ (o : Option SpelledShort). OnGiven (Ok o) (λ l. (ps : List ShortProof) (p : ShortProof) → HasGivenAny Two (ps ++ p ∷ []) (reading_state c.loop-spelled.reader c.loop-spelled.lines) → p.group ≡ group_tree c.args.group.now
    → HasGivenAny Two (ps ++ with_line p (spelled_short own l) ∷ []) (reading_state c.next_spelled.new.reader c.next_spelled.new.lines))) c.in-Some.is c.in_ok-spelled.ensures.given in
    let fewer = subst (λ (o : Option SpelledShort). OnGiven (Ok o) (λ _. length c.next_spelled.new.reader.rest < length c.loop-spelled.reader.rest)) c.in-Some.is c.in_ok-spelled.ensures.shorter in (
      tabled-more (reading_state c.args.reader.now c.args.lines.now) c.requires.version (group_tree c.args.group.now) (reading_state c.loop-spelled.reader c.loop-spelled.lines) c.loop-spelled.invariant.0
          (reading_state c.next_spelled.new.reader c.next_spelled.new.lines) c.in_ok-spelled.ensures.same fewer c.in_default-line.field-0
          (subst (λ (l : ShortLine). (ps : List ShortProof) (p : ShortProof) → HasGivenAny Two (ps ++ p ∷ []) (reading_state c.loop-spelled.reader c.loop-spelled.lines) → p.group ≡ group_tree c.args.group.now
          → HasGivenAny Two (ps ++ with_line p (short_line_or_own own c.in-Some.spelled.all l) ∷ []) (reading_state c.next_spelled.new.reader c.next_spelled.new.lines)) c.in_default-line.is given),
      c.in_ok-spelled.ensures.open,
    )

pub returns-clause-end : goal.returns-clause-end
returns-clause-end c =
    let ends = subst (λ (o : Option SpelledShort). OnEnd {X = SpelledShort} (Ok o) (ProofEnds c.next_spelled.new.reader.rest
    × Stays (reading_state c.loop-spelled.reader c.loop-spelled.lines) (reading_state c.next_spelled.new.reader c.next_spelled.new.lines))) c.in_default.is c.in_ok-spelled.ensures.end in (
      ends.0,
      terms-given (reading_state c.args.reader.now c.args.lines.now) c.requires.version (group_tree c.args.group.now) (reading_state c.loop-spelled.reader c.loop-spelled.lines) c.loop-spelled.invariant.0
          (reading_state c.next_spelled.new.reader c.next_spelled.new.lines) ends.1,
    )
