use Rattle.std.proofs.Common.{ℕ, List, Option, Some, ap, refl, sym, ◌∙◌, subst}
use Rattle.tailrec_lang.specs.declared.group.Group.{Group}
use Rattle.tailrec_lang.specs.Tree.{group_tree}
use Rattle.proof_text.specs.Line.{States}
use Rattle.term_arena.specs.declared.node.Node.{Node}
use Rattle.term_arena.specs.Arena.{Extends}
use Rattle.held_terms.specs.declared.held.Held.{Held}
use Rattle.held_terms.specs.Held.{triple_of}
use Rattle.short_text.specs.SpelledShort.{short_or_own}
use Rattle.verdicts.specs.Instance.{History, with_theorem}
use Rattle.checker.specs.Bench.{state_group, state_history, state_nodes}
use Rattle.checker.specs.Short.{IsStatedBy}
use Rattle.derived_triples.specs.inner.Making.{MadeIf}
use Rattle.checker.specs.inner.Sharing.{IsGiven, short_giver}
use Rattle.checker.proofs.BenchLemmas.{same_with}
use Rattle.checker.proofs.OwnLines.{given_stated}
use Rattle.checker.proofs.StatingLemmas.{stated_left}
use Rattle.group_text.specs.declared.version.Version.TheVariants.{One}
use Rattle.checker.proofs.bench.Bench.derive_triple.Goals as goal

pub keep_given-requires-clause-there : goal.keep_given-requires-clause-there
keep_given-requires-clause-there g c =
    let old = c.args.self.now in
    let one = c.stated_by.new.self in
    (subst (λ (o : Option Held). MadeIf (state_nodes one) (IsStatedBy (state_group old) (state_history old) (state_nodes old) (short_or_own (state_group old).code c.args.all c.args.line.now)) o) c.in-Some.is c.in_ok-made.ensures.made).0.there

pub keep_given-requires-clause-sound : goal.keep_given-requires-clause-sound
keep_given-requires-clause-sound g c =
    let old = c.args.self.now in
    let one = c.stated_by.new.self in
    let made : MadeIf (state_nodes one) (IsStatedBy (state_group old) (state_history old) (state_nodes old) (short_or_own (state_group old).code c.args.all c.args.line.now)) (Some c.in-Some.h) =
    subst (λ (o : Option Held). MadeIf (state_nodes one) (IsStatedBy (state_group old) (state_history old) (state_nodes old) (short_or_own (state_group old).code c.args.all c.args.line.now)) o) c.in-Some.is c.in_ok-made.ensures.made in
    let t = triple_of (state_nodes one) c.in-Some.h in
    let sound = c.law_of_lines.ensures One (state_group old) c.law_of_bench.ensures.well_formed (state_history old) c.law_of_bench.ensures.sound (States made.1.0 t) made.1.1.right in
    same_with (state_group old) (state_group one) (state_history old) (state_history one) t t sound (ap group_tree c.stated_by.ensures.group) c.stated_by.ensures.same refl

pub returns-clause-left : goal.returns-clause-left
returns-clause-left g c =
    let old = c.args.self.now in
    let one = c.stated_by.new.self in
    let made : MadeIf (state_nodes one) (IsStatedBy (state_group old) (state_history old) (state_nodes old) (short_or_own (state_group old).code c.args.all c.args.line.now)) (Some c.in-Some.h) =
    subst (λ (o : Option Held). MadeIf (state_nodes one) (IsStatedBy (state_group old) (state_history old) (state_nodes old) (short_or_own (state_group old).code c.args.all c.args.line.now)) o) c.in-Some.is c.in_ok-made.ensures.made in
    let t = triple_of (state_nodes one) c.in-Some.h in
    stated_left (state_group old) (state_history old) (state_nodes old) (short_or_own (state_group old).code c.args.all c.args.line.now) t _ made.1 (c.in_ok-keep_given.ensures.after ∙ ap (with_theorem t) c.stated_by.ensures.same)

pub returns-clause-grows : goal.returns-clause-grows
returns-clause-grows g c =
    let old = state_nodes c.args.self.now in
    subst (λ (ns : List Node). Extends old ns) (sym c.keep_given.ensures.nodes) c.stated_by.ensures.grows

pub keep_given-requires-clause-own : goal.keep_given-requires-clause-own
keep_given-requires-clause-own g c = λ own.
    let old = c.args.self.now in
    let one = c.stated_by.new.self in
    let made : MadeIf (state_nodes one) (IsStatedBy (state_group old) (state_history old) (state_nodes old) (short_or_own (state_group old).code c.args.all c.args.line.now)) (Some c.in-Some.h) =
    subst (λ (o : Option Held). MadeIf (state_nodes one) (IsStatedBy (state_group old) (state_history old) (state_nodes old) (short_or_own (state_group old).code c.args.all c.args.line.now)) o) c.in-Some.is c.in_ok-made.ensures.made in
    (c.states_own-own.ensures own).each (triple_of (state_nodes one) c.in-Some.h) made.1 ∙ sym (ap (λ (k : Group). (group_tree k).code) c.stated_by.ensures.group)

pub keep_given-requires-clause-given : goal.keep_given-requires-clause-given
keep_given-requires-clause-given g c =
    let old = c.args.self.now in
    let one = c.stated_by.new.self in
    let made : MadeIf (state_nodes one) (IsStatedBy (state_group old) (state_history old) (state_nodes old) (short_or_own (state_group old).code c.args.all c.args.line.now)) (Some c.in-Some.h) =
    subst (λ (o : Option Held). MadeIf (state_nodes one) (IsStatedBy (state_group old) (state_history old) (state_nodes old) (short_or_own (state_group old).code c.args.all c.args.line.now)) o) c.in-Some.is c.in_ok-made.ensures.made in
    let code = c.in-Some.h.code.ranges in
    let given = given_stated (state_group old) (state_history old) (state_nodes old) c.args.all c.args.line.now (triple_of (state_nodes one) c.in-Some.h) made.1 in
    subst (λ (o : Option ℕ). IsGiven (state_history one) o code) (sym c.short_giver.ensures) (subst (λ (x : History). IsGiven x (short_giver c.args.line.now) code) (sym c.stated_by.ensures.same) given)
