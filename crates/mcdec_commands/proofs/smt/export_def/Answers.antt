use Rattle.std.proofs.Common.{List, map, ◌∙◌, refl, subst, arith}
use Rattle.tailrec_lang.specs.Tree.{group_tree}
use Rattle.smt_terms.specs.declared.script.Fun.{Fun}
use Rattle.smt_terms.specs.Sorts.{IsScript}
use Rattle.smt_terms.specs.Views.{fun_tree}
use Rattle.mcdec_answers.specs.declared.answer.Answer.TheVariants as answer
use Rattle.mcdec_answers.specs.declared.answer.SmtAnswer.TheVariants as smt
use Rattle.mcdec_commands.specs.SmtAnswer.{IsScriptFor}
use Rattle.mcdec_commands.proofs.Leaving.{text-written}
use Rattle.mcdec_commands.proofs.Exporting.{IsExported, claims-told, script-for, there}
use Rattle.mcdec_commands.proofs.smt.export_def.Goals as goal

pub returns-clause-written : goal.returns-clause-written
returns-clause-written g c text small named held =
    let s = c.args.s.now in
    let m : IsExported (group_tree c.args.g.now) s.def c.in-Ok.script = record {
      there = there c.args.g.now s.def c.len.result c.len.ensures (omega (arith, c.if-s-len.false));
      free = c.in-Ok.ensures.free;
      script = subst (λ (fs : List Fun). IsScript (map fun_tree fs)) c.funs.ensures.funs c.funs.ensures.script;
      sorts = c.in-Ok.ensures.sorts;
      tells = c.in-Ok.ensures.tells;
      claims = claims-told (group_tree c.args.g.now) s.def (map fun_tree c.in-Ok.script) c.law_of_exported_functions.ensures c.requires.well_formed c.in-Ok.ensures.free c.in-Ok.ensures.tells;
    } in
    text-written (λ files. IsScriptFor files s.proof.now s.name.now s.def) s.out.now c.write_answer.result (answer.Smt (smt.Exported s.def)) s.proof.now text c.as_slice.result.now
    (script-for s.proof.now s.name.now s.def text small (group_tree c.args.g.now) named c.in-Ok.script m c.as_slice.result.now (c.as_slice.ensures ∙ c.in-Ok-script_bytes.ensures) s.def refl) _ _ held c.write_answer.ensures.written
