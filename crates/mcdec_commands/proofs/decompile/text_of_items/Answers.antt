use Rattle.std.proofs.Common.{◌++◌, ◌∷◌, [], ◌∙◌, ap, sym, subst}
use Rattle.group_text.specs.Version.{Version, version_of}
use Rattle.proof_text.specs.Proofs.{IsProofIn}
use Rattle.decompiler.specs.Listing.{proof_of}
use Rattle.mcdec_answers.specs.declared.answer.Listed.{Listed}
use Rattle.mcdec_commands.proofs.Decompiling.{all-of-them, at-first, one-more}
use Rattle.mcdec_commands.proofs.decompile.text_of_items.Goals as goal

pub names-init : goal.names-init
names-init g c file is =
    at-first g.M.MakeItems.form (version_of c.args.version) file c.new-text.result c.put_title.new.out c.new-listed.result c.new-text.ensures c.new-listed.ensures c.in_ok-put_title.ensures.ok

pub put_item-requires : goal.put_item-requires
put_item-requires g c =
    subst (λ (v : Version). IsProofIn v (proof_of c.in_ok-item.item)) (sym c.requires.version)
    (c.in_ok-item.ensures.item c.requires.image.0 c.requires.image.1).text

pub told_of-requires : goal.told_of-requires
told_of-requires g c = (c.in_ok-item.ensures.item c.requires.image.0 c.requires.image.1).text.group.some

pub names-preserved : goal.names-preserved
names-preserved g c file is =
    one-more g.M.MakeItems.form (version_of c.args.version) file c.args.names.now c.names.i c.names.text c.put_item.new.out c.names.listed c.push.new.self c.names-test.true
    (c.names.invariant file is) c.in_ok-item.item (c.in_ok-item.ensures.item file is) c.in_ok-put_item.ensures (c.in_ok-push.ensures.ok ∙ ap (λ (told : Listed). c.names.listed ++ told ∷ []) c.told_of.ensures)

pub returns-clause-items : goal.returns-clause-items
returns-clause-items g c file is =
    all-of-them g.M.MakeItems.form (version_of c.args.version) file c.args.names.now c.names.i c.names.text c.put_end.new.out c.names.listed c.names-test.false (c.names.invariant file is) c.in_ok-put_end.ensures.ok
