use Rattle.std.proofs.Common.{ℕ, Ok, Option, refl, arith, sym, subst}
use Rattle.std.proofs.lemmas.List.{length-map}
use Rattle.proof_text.specs.Answers.{OnGiven}
use Rattle.tailrec_lang.specs.declared.group.Group.{Group}
use Rattle.tailrec_lang.specs.Tree.{def_tree, group_tree}
use Rattle.group_text.specs.Limits.{IsGroupIn}
use Rattle.group_text.specs.Version.{version_of}
use Rattle.proof_v2.specs.AnyReading.{GivesGroupAny}
use Rattle.mcdec_commands.specs.inner.Search.{HasBadLineIn}
use Rattle.mcdec_commands.proofs.Groups.{group-ill, group-refused, lines-refused, next-exit}
use Rattle.mcdec_commands.proofs.search.next_group.Goals as goal

pub well_formed-requires : goal.well_formed-requires
well_formed-requires c =
    let fits = subst (λ (o : Option Group). OnGiven (Ok o) (λ g. IsGroupIn (version_of c.group.new.self.progress.version) (group_tree g))) c.in-Ok-Some.field-0-is c.in-Ok-Some.ensures.fits in
    omega (arith, length-map c.in-Ok-Some.g.defs def_tree, fits.few)

pub returns-in-Err-Bad : goal.returns-in-Err-Bad
returns-in-Err-Bad c k ps h well =
    subst (λ (n : ℕ). HasBadLineIn k c.args.reader.now.progress.text n) (sym c.in-Err-Bad.line-is)
    (group-refused c.args.number c.args.reader.now c.group.new.self c.in-Err-Bad.field-0 c.in-Err-Bad.line c.in-Err-Bad.field-0-is c.in-Err-Bad.ensures.bad k ps h well)

pub returns-in-Err : goal.returns-in-Err
returns-in-Err c =
    group-ill c.args.number c.args.reader.now c.group.new.self c.group.new.self c.in-Ok-Some.g c.in-Ok-Some.ensures.same
    (subst (λ (o : Option Group). OnGiven (Ok o) (λ g. GivesGroupAny (group_tree g) c.args.reader.now c.group.new.self)) c.in-Ok-Some.field-0-is c.in-Ok-Some.ensures.given) c.in-Err.field-0.def c.in-Err.ensures.first

pub returns-in_err-pass_lines-in-Ok : goal.returns-in_err-pass_lines-in-Ok
returns-in_err-pass_lines-in-Ok c =
    let e = c.in_err-pass_lines-in-Ok.field-0.0 in
    let given = subst (λ (o : Option Group). OnGiven (Ok o) (λ g. GivesGroupAny (group_tree g) c.args.reader.now c.group.new.self)) c.in-Ok-Some.field-0-is c.in-Ok-Some.ensures.given in
    next-exit c.args.number c.args.reader.now c.pass_lines.new.reader c.from_residual.result e c.from_residual.ensures.1
    (lines-refused c.args.number c.args.reader.now c.group.new.self c.pass_lines.new.reader c.in-Ok-Some.g c.in-Ok-Some.ensures.same given (c.in-Ok.ensures.ok.0 refl) c.pass_lines.new.reader e c.in_err-pass_lines-in-Ok.ensures)
