use Rattle.std.proofs.Common.{◌≡◌, ◌++◌, eqb, List as Items, None, Some, refl, sym, subst, arith}
use Rattle.std.specs.Prelude.{option_map}
use Rattle.mc_text.specs.declared.token.Before.TheVariants.{Start}
use Rattle.mc_text.specs.Scanning.{lex, At}
use Rattle.tailrec_lang.specs.Tree.{group_tree}
use Rattle.mc_text.specs.Fault.{IsBadAt}
use Rattle.proof_text.specs.Line.{ProofOf}
use Rattle.proof_text.specs.LineGrammar.{text_over, texts_over}
use Rattle.proof_text.specs.FirstProofs.{HasGivenOver, MayOpen}
use Rattle.proof_text.specs.Answers.{OnEnd, OnBad, NoItemOver}
use Rattle.group_text.specs.inner.Rest.{GoesOn}
use Rattle.group_text.specs.inner.Reading.{turn_at}
use Rattle.group_text.proofs.Claims.{told-ok, told-bad, found-was, bad-was, nothing-left}
use Rattle.group_text.specs.Version.{version_of}
use Rattle.proof_text.proofs.Called.{read_known, line-small, group-bad, group-none, called-end, called-more, end-none, group-fits, group-needs, group-place, group-lines, group-given, group-less}
use Rattle.proof_text.proofs.reader.Reader.next_group.Goals as goal
use Rattle.proof_text.proofs.reader.Reader.next_group.Goals.{then-is_end, else-is_end}

pub overflow_add-self : goal.overflow_add-self
overflow_add-self g c =
    let k = told-ok c.self.inside.lines.now c.new-rows.result c.read_turn.new.rows c.new-rows.ensures (turn_at (version_of c.self.inside.version) (eqb c.self.inside.place 0)) c.taken-passed.result (c.taken-passed.ensures _ refl) (Some (group_tree c.in-Ok-Some.group)) c.rest-self-inside.result.now c.rest-self-inside.ensures (found-was group_tree (turn_at (version_of c.self.inside.version) (eqb c.self.inside.place 0)) _ _ c.in-Ok-Some.field-0 (Some c.in-Ok-Some.group) c.in-Ok-Some.field-0-is (c.in-Ok-Some.ensures.gives)) in
    let fits = line-small (read_known g.W.ReadLines.readers c.self.inside.version c.self.inside.text.now (c.self.inside.lines.now ++ c.self.inside.tail.now) c.self.inside.place c.args.self.now c.self.view_is c.requires) c.self.inside.text.now c.self.inside.lines.now c.self.inside.tail.now c.self.inside.place c.args.self.now c.self.view_is c.self.invariant.0 c.self.invariant.1 (lex c.rest-self-inside.result.now (At Start)) c.taken-passed.result k.count c.self.invariant.2 in
    omega (arith, fits)

pub invariant_of-self : goal.invariant_of-self
invariant_of-self g c =
    let k = told-ok c.self.inside.lines.now c.new-rows.result c.read_turn.new.rows c.new-rows.ensures (turn_at (version_of c.self.inside.version) (eqb c.self.inside.place 0)) c.taken-passed.result (c.taken-passed.ensures _ refl) (Some (group_tree c.in-Ok-Some.group)) c.rest-self-inside.result.now c.rest-self-inside.ensures (found-was group_tree (turn_at (version_of c.self.inside.version) (eqb c.self.inside.place 0)) _ _ c.in-Ok-Some.field-0 (Some c.in-Ok-Some.group) c.in-Ok-Some.field-0-is (c.in-Ok-Some.ensures.gives)) in
    (group-lines (read_known g.W.ReadLines.readers c.self.inside.version c.self.inside.text.now (c.self.inside.lines.now ++ c.self.inside.tail.now) c.self.inside.place c.args.self.now c.self.view_is c.requires) c.self.inside.text.now c.self.inside.lines.now c.self.inside.tail.now c.self.inside.place c.args.self.now c.self.view_is c.self.invariant.0 c.self.invariant.1 (lex c.rest-self-inside.result.now (At Start)) c.taken-passed.result k.count (group_tree c.in-Ok-Some.group) k.is c.rest-self-inside.result.now k.rest, c.self.invariant.1, group-place (read_known g.W.ReadLines.readers c.self.inside.version c.self.inside.text.now (c.self.inside.lines.now ++ c.self.inside.tail.now) c.self.inside.place c.args.self.now c.self.view_is c.requires) c.self.inside.text.now c.self.inside.lines.now c.self.inside.tail.now c.self.inside.place c.args.self.now c.self.view_is c.self.invariant.0 c.self.invariant.1 (lex c.rest-self-inside.result.now (At Start)) c.taken-passed.result k.count (group_tree c.in-Ok-Some.group) k.is c.rest-self-inside.result.now k.rest c.self.invariant.2)

pub returns-in-Ok-Some-clause-given : goal.returns-in-Ok-Some-clause-given
returns-in-Ok-Some-clause-given g c =
    let k = told-ok c.self.inside.lines.now c.new-rows.result c.read_turn.new.rows c.new-rows.ensures (turn_at (version_of c.self.inside.version) (eqb c.self.inside.place 0)) c.taken-passed.result (c.taken-passed.ensures _ refl) (Some (group_tree c.in-Ok-Some.group)) c.rest-self-inside.result.now c.rest-self-inside.ensures (found-was group_tree (turn_at (version_of c.self.inside.version) (eqb c.self.inside.place 0)) _ _ c.in-Ok-Some.field-0 (Some c.in-Ok-Some.group) c.in-Ok-Some.field-0-is (c.in-Ok-Some.ensures.gives)) in
    group-given (read_known g.W.ReadLines.readers c.self.inside.version c.self.inside.text.now (c.self.inside.lines.now ++ c.self.inside.tail.now) c.self.inside.place c.args.self.now c.self.view_is c.requires) c.self.inside.text.now c.self.inside.lines.now c.self.inside.tail.now c.self.inside.place c.args.self.now c.self.view_is c.self.invariant.0 c.self.invariant.1 (lex c.rest-self-inside.result.now (At Start)) c.taken-passed.result k.count (group_tree c.in-Ok-Some.group) k.is c.rest-self-inside.result.now k.rest

pub returns-in-Ok-Some-clause-shorter : goal.returns-in-Ok-Some-clause-shorter
returns-in-Ok-Some-clause-shorter g c =
    let k = told-ok c.self.inside.lines.now c.new-rows.result c.read_turn.new.rows c.new-rows.ensures (turn_at (version_of c.self.inside.version) (eqb c.self.inside.place 0)) c.taken-passed.result (c.taken-passed.ensures _ refl) (Some (group_tree c.in-Ok-Some.group)) c.rest-self-inside.result.now c.rest-self-inside.ensures (found-was group_tree (turn_at (version_of c.self.inside.version) (eqb c.self.inside.place 0)) _ _ c.in-Ok-Some.field-0 (Some c.in-Ok-Some.group) c.in-Ok-Some.field-0-is (c.in-Ok-Some.ensures.gives)) in
    group-less (read_known g.W.ReadLines.readers c.self.inside.version c.self.inside.text.now (c.self.inside.lines.now ++ c.self.inside.tail.now) c.self.inside.place c.args.self.now c.self.view_is c.requires) c.self.inside.text.now c.self.inside.lines.now c.self.inside.tail.now c.self.inside.place c.args.self.now c.self.view_is c.self.invariant.0 c.self.invariant.1 (lex c.rest-self-inside.result.now (At Start)) c.taken-passed.result k.count (group_tree c.in-Ok-Some.group) k.is c.rest-self-inside.result.now k.rest

pub returns-in-Ok-Some-clause-fits : goal.returns-in-Ok-Some-clause-fits
returns-in-Ok-Some-clause-fits g c =
    let k = told-ok c.self.inside.lines.now c.new-rows.result c.read_turn.new.rows c.new-rows.ensures (turn_at (version_of c.self.inside.version) (eqb c.self.inside.place 0)) c.taken-passed.result (c.taken-passed.ensures _ refl) (Some (group_tree c.in-Ok-Some.group)) c.rest-self-inside.result.now c.rest-self-inside.ensures (found-was group_tree (turn_at (version_of c.self.inside.version) (eqb c.self.inside.place 0)) _ _ c.in-Ok-Some.field-0 (Some c.in-Ok-Some.group) c.in-Ok-Some.field-0-is (c.in-Ok-Some.ensures.gives)) in
    group-fits (read_known g.W.ReadLines.readers c.self.inside.version c.self.inside.text.now (c.self.inside.lines.now ++ c.self.inside.tail.now) c.self.inside.place c.args.self.now c.self.view_is c.requires) c.self.inside.text.now c.self.inside.lines.now c.self.inside.tail.now c.self.inside.place c.args.self.now c.self.view_is c.self.invariant.0 c.self.invariant.1 (lex c.rest-self-inside.result.now (At Start)) c.taken-passed.result k.count (group_tree c.in-Ok-Some.group) k.is

pub returns-in-Ok-Some-clause-needs : goal.returns-in-Ok-Some-clause-needs
returns-in-Ok-Some-clause-needs g c =
    let k = told-ok c.self.inside.lines.now c.new-rows.result c.read_turn.new.rows c.new-rows.ensures (turn_at (version_of c.self.inside.version) (eqb c.self.inside.place 0)) c.taken-passed.result (c.taken-passed.ensures _ refl) (Some (group_tree c.in-Ok-Some.group)) c.rest-self-inside.result.now c.rest-self-inside.ensures (found-was group_tree (turn_at (version_of c.self.inside.version) (eqb c.self.inside.place 0)) _ _ c.in-Ok-Some.field-0 (Some c.in-Ok-Some.group) c.in-Ok-Some.field-0-is (c.in-Ok-Some.ensures.gives)) in
    group-needs (read_known g.W.ReadLines.readers c.self.inside.version c.self.inside.text.now (c.self.inside.lines.now ++ c.self.inside.tail.now) c.self.inside.place c.args.self.now c.self.view_is c.requires) c.self.inside.text.now c.self.inside.lines.now c.self.inside.tail.now c.self.inside.place c.args.self.now c.self.view_is c.self.invariant.0 c.self.invariant.1 (lex c.rest-self-inside.result.now (At Start)) c.taken-passed.result k.count (group_tree c.in-Ok-Some.group) k.is c.self.invariant.2

pub returns-in-Err-Bad-clause-bad : goal.returns-in-Err-Bad-clause-bad
returns-in-Err-Bad-clause-bad g c =
    let k = told-bad c.self.inside.lines.now c.new-rows.result c.read_turn.new.rows c.new-rows.ensures (turn_at (version_of c.self.inside.version) (eqb c.self.inside.place 0)) c.taken-in-Err-Bad.result (c.taken-in-Err-Bad.ensures _ refl) (bad-was (λ o. option_map group_tree o) (turn_at (version_of c.self.inside.version) (eqb c.self.inside.place 0)) _ _ c.in-Err-Bad.field-0 c.in-Err-Bad.field-0-is (c.in-Err-Bad.ensures.gives)) in
    group-bad (read_known g.W.ReadLines.readers c.self.inside.version c.self.inside.text.now (c.self.inside.lines.now ++ c.self.inside.tail.now) c.self.inside.place c.args.self.now c.self.view_is c.requires) c.self.inside.text.now c.self.inside.lines.now c.self.inside.tail.now c.self.inside.place c.args.self.now c.self.view_is c.self.invariant.0 c.self.invariant.1 k.bad c.taken-in-Err-Bad.result k.count k.is

pub returns-in-Err-Bad-clause-no_item : goal.returns-in-Err-Bad-clause-no_item
returns-in-Err-Bad-clause-no_item g c =
    let k = told-bad c.self.inside.lines.now c.new-rows.result c.read_turn.new.rows c.new-rows.ensures (turn_at (version_of c.self.inside.version) (eqb c.self.inside.place 0)) c.taken-in-Err-Bad.result (c.taken-in-Err-Bad.ensures _ refl) (bad-was (λ o. option_map group_tree o) (turn_at (version_of c.self.inside.version) (eqb c.self.inside.place 0)) _ _ c.in-Err-Bad.field-0 c.in-Err-Bad.field-0-is (c.in-Err-Bad.ensures.gives)) in
    group-none (read_known g.W.ReadLines.readers c.self.inside.version c.self.inside.text.now (c.self.inside.lines.now ++ c.self.inside.tail.now) c.self.inside.place c.args.self.now c.self.view_is c.requires) c.self.inside.text.now c.self.inside.lines.now c.self.inside.tail.now c.self.inside.place c.args.self.now c.self.view_is c.self.invariant.0 c.self.invariant.1 k.bad c.taken-in-Err-Bad.result k.count k.is

pub overflow_add-result-in-Err-Bad : goal.overflow_add-result-in-Err-Bad
overflow_add-result-in-Err-Bad g c =
    let k = told-bad c.self.inside.lines.now c.new-rows.result c.read_turn.new.rows c.new-rows.ensures (turn_at (version_of c.self.inside.version) (eqb c.self.inside.place 0)) c.taken-in-Err-Bad.result (c.taken-in-Err-Bad.ensures _ refl) (bad-was (λ o. option_map group_tree o) (turn_at (version_of c.self.inside.version) (eqb c.self.inside.place 0)) _ _ c.in-Err-Bad.field-0 c.in-Err-Bad.field-0-is (c.in-Err-Bad.ensures.gives)) in
    let fits = line-small (read_known g.W.ReadLines.readers c.self.inside.version c.self.inside.text.now (c.self.inside.lines.now ++ c.self.inside.tail.now) c.self.inside.place c.args.self.now c.self.view_is c.requires) c.self.inside.text.now c.self.inside.lines.now c.self.inside.tail.now c.self.inside.place c.args.self.now c.self.view_is c.self.invariant.0 c.self.invariant.1 k.bad c.taken-in-Err-Bad.result k.count c.self.invariant.2 in
    omega (arith, fits)

pub overflow_add-result-in-Err-Bad-2 : goal.overflow_add-result-in-Err-Bad-2
overflow_add-result-in-Err-Bad-2 g c =
    let k = told-bad c.self.inside.lines.now c.new-rows.result c.read_turn.new.rows c.new-rows.ensures (turn_at (version_of c.self.inside.version) (eqb c.self.inside.place 0)) c.taken-in-Err-Bad.result (c.taken-in-Err-Bad.ensures _ refl) (bad-was (λ o. option_map group_tree o) (turn_at (version_of c.self.inside.version) (eqb c.self.inside.place 0)) _ _ c.in-Err-Bad.field-0 c.in-Err-Bad.field-0-is (c.in-Err-Bad.ensures.gives)) in
    let fits = line-small (read_known g.W.ReadLines.readers c.self.inside.version c.self.inside.text.now (c.self.inside.lines.now ++ c.self.inside.tail.now) c.self.inside.place c.args.self.now c.self.view_is c.requires) c.self.inside.text.now c.self.inside.lines.now c.self.inside.tail.now c.self.inside.place c.args.self.now c.self.view_is c.self.invariant.0 c.self.invariant.1 k.bad c.taken-in-Err-Bad.result k.count c.self.invariant.2 in
    omega (arith, fits)

pub overflow_add-result : goal.overflow_add-result
overflow_add-result g c =
    let k = told-ok c.self.inside.lines.now c.new-rows.result c.read_turn.new.rows c.new-rows.ensures (turn_at (version_of c.self.inside.version) (eqb c.self.inside.place 0)) c.taken.result (c.taken.ensures _ refl) None c.read_turn.new.rows.rest refl (found-was group_tree (turn_at (version_of c.self.inside.version) (eqb c.self.inside.place 0)) _ _ c.in-Ok-None.field-0 None c.in-Ok-None.field-0-is c.in-Ok-None.ensures.gives) in
    let fits = line-small (read_known g.W.ReadLines.readers c.self.inside.version c.self.inside.text.now (c.self.inside.lines.now ++ c.self.inside.tail.now) c.self.inside.place c.args.self.now c.self.view_is c.requires) c.self.inside.text.now c.self.inside.lines.now c.self.inside.tail.now c.self.inside.place c.args.self.now c.self.view_is c.self.invariant.0 c.self.invariant.1 (lex c.read_turn.new.rows.rest (At Start)) c.taken.result k.count c.self.invariant.2 in
    omega (arith, fits)

pub overflow_add-result-else-is_end : goal.overflow_add-result-else-is_end
overflow_add-result-else-is_end g c =
    let k = told-ok c.self.inside.lines.now c.new-rows.result c.read_turn.new.rows c.new-rows.ensures (turn_at (version_of c.self.inside.version) (eqb c.self.inside.place 0)) c.taken.result (c.taken.ensures _ refl) None c.read_turn.new.rows.rest refl (found-was group_tree (turn_at (version_of c.self.inside.version) (eqb c.self.inside.place 0)) _ _ c.in-Ok-None.field-0 None c.in-Ok-None.field-0-is c.in-Ok-None.ensures.gives) in
    let fits = line-small (read_known g.W.ReadLines.readers c.self.inside.version c.self.inside.text.now (c.self.inside.lines.now ++ c.self.inside.tail.now) c.self.inside.place c.args.self.now c.self.view_is c.requires) c.self.inside.text.now c.self.inside.lines.now c.self.inside.tail.now c.self.inside.place c.args.self.now c.self.view_is c.self.invariant.0 c.self.invariant.1 (lex c.read_turn.new.rows.rest (At Start)) c.taken.result k.count c.self.invariant.2 in
    omega (arith, fits)

pub returns-after-is_end-clause-end : goal.returns-after-is_end-clause-end
returns-after-is_end-clause-end g c = elim c.if-is_end.branch [
  | then-is_end w ↦ subst (λ q. OnEnd q ((ps : Items (ProofOf g.W.ReadLines.readers.grammar.Line)) → HasGivenOver g.W.ReadLines.readers.grammar ps c.args.self.now → c.args.self.now.text ≡ text_over g.W.ReadLines.readers.grammar (version_of c.args.self.now.version) ps)) (sym w.result-is) (let k = told-ok c.self.inside.lines.now c.new-rows.result c.read_turn.new.rows c.new-rows.ensures (turn_at (version_of c.self.inside.version) (eqb c.self.inside.place 0)) c.read_turn.new.rows.taken refl None c.read_turn.new.rows.rest refl (found-was group_tree (turn_at (version_of c.self.inside.version) (eqb c.self.inside.place 0)) _ _ c.in-Ok-None.field-0 None c.in-Ok-None.field-0-is c.in-Ok-None.ensures.gives) in let e = c.is_end.ensures.end w.if-is_end.true in called-end (read_known g.W.ReadLines.readers c.self.inside.version c.self.inside.text.now (c.self.inside.lines.now ++ c.self.inside.tail.now) c.self.inside.place c.args.self.now c.self.view_is c.requires) c.self.inside.text.now c.self.inside.lines.now c.self.inside.tail.now c.self.inside.place c.args.self.now c.self.view_is c.self.invariant.0 c.self.invariant.1 (lex c.read_turn.new.rows.rest (At Start)) c.read_turn.new.rows.taken k.count k.is (nothing-left c.read_turn.new.rows.rest _ (sym c.rest.ensures) e.0, e.1))
  | else-is_end w ↦ subst (λ q. OnEnd q ((ps : Items (ProofOf g.W.ReadLines.readers.grammar.Line)) → HasGivenOver g.W.ReadLines.readers.grammar ps c.args.self.now → c.args.self.now.text ≡ text_over g.W.ReadLines.readers.grammar (version_of c.args.self.now.version) ps)) (sym w.result-is) (tt)
]

pub returns-after-is_end-clause-bad : goal.returns-after-is_end-clause-bad
returns-after-is_end-clause-bad g c = elim c.if-is_end.branch [
  | then-is_end w ↦ subst (λ q. OnBad q (λ n. (ps : Items (ProofOf g.W.ReadLines.readers.grammar.Line)) → HasGivenOver g.W.ReadLines.readers.grammar ps c.args.self.now → MayOpen ps c.args.self.now.rest → IsBadAt (texts_over g.W.ReadLines.readers.grammar (version_of c.args.self.now.version)) c.args.self.now.text n)) (sym w.result-is) (tt)
  | else-is_end w ↦ subst (λ q. OnBad q (λ n. (ps : Items (ProofOf g.W.ReadLines.readers.grammar.Line)) → HasGivenOver g.W.ReadLines.readers.grammar ps c.args.self.now → MayOpen ps c.args.self.now.rest → IsBadAt (texts_over g.W.ReadLines.readers.grammar (version_of c.args.self.now.version)) c.args.self.now.text n)) (sym w.result-is) (let k = told-ok c.self.inside.lines.now c.new-rows.result c.read_turn.new.rows c.new-rows.ensures (turn_at (version_of c.self.inside.version) (eqb c.self.inside.place 0)) w.taken.result (w.taken.ensures _ refl) None c.read_turn.new.rows.rest refl (found-was group_tree (turn_at (version_of c.self.inside.version) (eqb c.self.inside.place 0)) _ _ c.in-Ok-None.field-0 None c.in-Ok-None.field-0-is c.in-Ok-None.ensures.gives) in called-more (read_known g.W.ReadLines.readers c.self.inside.version c.self.inside.text.now (c.self.inside.lines.now ++ c.self.inside.tail.now) c.self.inside.place c.args.self.now c.self.view_is c.requires) c.self.inside.text.now c.self.inside.lines.now c.self.inside.tail.now c.self.inside.place c.args.self.now c.self.view_is c.self.invariant.0 c.self.invariant.1 (lex c.read_turn.new.rows.rest (At Start)) w.taken.result k.count k.is (subst (λ v. GoesOn (lex v (At Start)) c.self.inside.tail.now) c.rest.ensures (c.is_end.ensures.more w.if-is_end.false)))
]

pub returns-after-is_end-clause-no_item : goal.returns-after-is_end-clause-no_item
returns-after-is_end-clause-no_item g c = elim c.if-is_end.branch [
  | then-is_end w ↦ subst (λ q. OnBad q (λ n. (ps : Items (ProofOf g.W.ReadLines.readers.grammar.Line)) → HasGivenOver g.W.ReadLines.readers.grammar ps c.args.self.now → MayOpen ps c.args.self.now.rest → NoItemOver g.W.ReadLines.readers.grammar ps c.args.self.now)) (sym w.result-is) (tt)
  | else-is_end w ↦ subst (λ q. OnBad q (λ n. (ps : Items (ProofOf g.W.ReadLines.readers.grammar.Line)) → HasGivenOver g.W.ReadLines.readers.grammar ps c.args.self.now → MayOpen ps c.args.self.now.rest → NoItemOver g.W.ReadLines.readers.grammar ps c.args.self.now)) (sym w.result-is) (let k = told-ok c.self.inside.lines.now c.new-rows.result c.read_turn.new.rows c.new-rows.ensures (turn_at (version_of c.self.inside.version) (eqb c.self.inside.place 0)) c.read_turn.new.rows.taken refl None c.read_turn.new.rows.rest refl (found-was group_tree (turn_at (version_of c.self.inside.version) (eqb c.self.inside.place 0)) _ _ c.in-Ok-None.field-0 None c.in-Ok-None.field-0-is c.in-Ok-None.ensures.gives) in end-none (read_known g.W.ReadLines.readers c.self.inside.version c.self.inside.text.now (c.self.inside.lines.now ++ c.self.inside.tail.now) c.self.inside.place c.args.self.now c.self.view_is c.requires) c.self.inside.text.now c.self.inside.lines.now c.self.inside.tail.now c.self.inside.place c.args.self.now c.self.view_is c.self.invariant.0 c.self.invariant.1 (lex c.read_turn.new.rows.rest (At Start)) c.read_turn.new.rows.taken k.count k.is)
]
