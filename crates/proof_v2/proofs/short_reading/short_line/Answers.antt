use Rattle.std.proofs.Common.{◌≡◌, ◌<◌, ◌∷◌, ◌++◌, [], List, length, Option, Ok, subst}
use Rattle.tailrec_lang.specs.Tree.{group_tree}
use Rattle.group_text.specs.declared.version.Version.TheVariants.{Two}
use Rattle.proof_text.specs.Answers.{OnEnd, OnGiven}
use Rattle.proof_text.specs.FirstProofs.{ProofEnds, with_line}
use Rattle.short_text.specs.declared.short.ShortLine.{ShortLine}
use Rattle.short_text.specs.ShortProofs.{ShortProof}
use Rattle.proof_v2.specs.AnyReading.{HasGivenAny, reading_state}
use Rattle.proof_v2.specs.inner.ShortReading.{Stays}
use Rattle.proof_v2.proofs.AnyGiven.{any-fault, bad-exit, line-given, lines-stop, tabled-more, terms-given}
use Rattle.proof_v2.proofs.short_reading.short_line.Goals as goal

pub returns-in_err-line-clause-bad : goal.returns-in_err-line-clause-bad
returns-in_err-line-clause-bad c =
    bad-exit ShortLine c.in_err-line.field-0.0 _ _
    (λ n h. lines-stop (reading_state c.args.reader.now c.args.lines.now) c.requires.version (group_tree c.args.group.now) (reading_state c.loop-line.reader c.loop-line.lines) c.loop-line.invariant.0
    (reading_state c.next_short.new.reader c.next_short.new.lines) c.in_err-line.ensures.fault n h) c.in_err-line.ensures.bad c.from_residual.result c.from_residual.ensures.1

pub returns-in_err-line-clause-fault : goal.returns-in_err-line-clause-fault
returns-in_err-line-clause-fault c =
    any-fault c.from_residual.result _
    (terms-given (reading_state c.args.reader.now c.args.lines.now) c.requires.version (group_tree c.args.group.now) (reading_state c.loop-line.reader c.loop-line.lines) c.loop-line.invariant.0
    (reading_state c.next_short.new.reader c.next_short.new.lines) c.in_err-line.ensures.fault)

pub returns-in-Proof-clause-given : goal.returns-in-Proof-clause-given
returns-in-Proof-clause-given c =
    let given = subst (λ (o : Option ShortLine). OnGiven (Ok o) (λ l. (ps : List ShortProof) (p : ShortProof) → HasGivenAny Two (ps ++ p ∷ []) (reading_state c.loop-line.reader c.loop-line.lines) → p.group ≡ group_tree c.args.group.now
    → HasGivenAny Two (ps ++ with_line p l ∷ []) (reading_state c.next_short.new.reader c.next_short.new.lines))) c.in-Some.is c.in_ok-line.ensures.given in
    let fewer = subst (λ (o : Option ShortLine). OnGiven (Ok o) (λ _. length c.next_short.new.reader.rest < length c.loop-line.reader.rest)) c.in-Some.is c.in_ok-line.ensures.shorter in
    line-given (reading_state c.args.reader.now c.args.lines.now) c.requires.version (group_tree c.args.group.now) (reading_state c.loop-line.reader c.loop-line.lines) c.loop-line.invariant.0
    (reading_state c.next_short.new.reader c.next_short.new.lines) c.in_ok-line.ensures.same fewer c.in-Proof.short
    (subst (λ (l : ShortLine). (ps : List ShortProof) (p : ShortProof) → HasGivenAny Two (ps ++ p ∷ []) (reading_state c.loop-line.reader c.loop-line.lines) → p.group ≡ group_tree c.args.group.now
    → HasGivenAny Two (ps ++ with_line p l ∷ []) (reading_state c.next_short.new.reader c.next_short.new.lines)) c.in-Proof.is given)

pub loop-line-preserved : goal.loop-line-preserved
loop-line-preserved c =
    let given = subst (λ (o : Option ShortLine). OnGiven (Ok o) (λ l. (ps : List ShortProof) (p : ShortProof) → HasGivenAny Two (ps ++ p ∷ []) (reading_state c.loop-line.reader c.loop-line.lines) → p.group ≡ group_tree c.args.group.now
    → HasGivenAny Two (ps ++ with_line p l ∷ []) (reading_state c.next_short.new.reader c.next_short.new.lines))) c.in-Some.is c.in_ok-line.ensures.given in
    let fewer = subst (λ (o : Option ShortLine). OnGiven (Ok o) (λ _. length c.next_short.new.reader.rest < length c.loop-line.reader.rest)) c.in-Some.is c.in_ok-line.ensures.shorter in (
      tabled-more (reading_state c.args.reader.now c.args.lines.now) c.requires.version (group_tree c.args.group.now) (reading_state c.loop-line.reader c.loop-line.lines) c.loop-line.invariant.0
          (reading_state c.next_short.new.reader c.next_short.new.lines) c.in_ok-line.ensures.same fewer c.in_default-line.field-0
          (subst (λ (l : ShortLine). (ps : List ShortProof) (p : ShortProof) → HasGivenAny Two (ps ++ p ∷ []) (reading_state c.loop-line.reader c.loop-line.lines) → p.group ≡ group_tree c.args.group.now
          → HasGivenAny Two (ps ++ with_line p l ∷ []) (reading_state c.next_short.new.reader c.next_short.new.lines)) c.in_default-line.is given),
      c.in_ok-line.ensures.open,
    )

pub returns-clause-end : goal.returns-clause-end
returns-clause-end c =
    let ends = subst (λ (o : Option ShortLine). OnEnd {X = ShortLine} (Ok o) (ProofEnds c.next_short.new.reader.rest
    × Stays (reading_state c.loop-line.reader c.loop-line.lines) (reading_state c.next_short.new.reader c.next_short.new.lines))) c.in_default.is c.in_ok-line.ensures.end in (
      ends.0,
      terms-given (reading_state c.args.reader.now c.args.lines.now) c.requires.version (group_tree c.args.group.now) (reading_state c.loop-line.reader c.loop-line.lines) c.loop-line.invariant.0
          (reading_state c.next_short.new.reader c.next_short.new.lines) ends.1,
    )
