use Rattle.proof_v2.proofs.AcceptedTexts.{accepted-alike}
use Rattle.proof_v2.proofs.MigratedTexts.{migrated-text, right-text}
use Rattle.proof_v2.proofs.counted.migrate_image.Goals as goal

pub returns-in-Ok-clause-text : goal.returns-in-Ok-clause-text
returns-in-Ok-clause-text c elf readable image =
    migrated-text elf c.args.proof.now c.in-Accepted.functions c.in-Accepted.lines (c.in-Accepted.ensures.verdict elf readable image) c.in-Ok.text c.in-Ok.ensures.text

pub returns-in-Ok-clause-accepted : goal.returns-in-Ok-clause-accepted
returns-in-Ok-clause-accepted c elf readable image =
    let says = c.in-Accepted.ensures.verdict elf readable image in
    let m = migrated-text elf c.args.proof.now c.in-Accepted.functions c.in-Accepted.lines says c.in-Ok.text c.in-Ok.ensures.text in
    accepted-alike elf c.args.proof.now c.in-Ok.text m c.in-Accepted.functions c.in-Accepted.lines says

pub rewritten-requires : goal.rewritten-requires
rewritten-requires c =
    let (elf, readable, image) = c.requires in
    right-text elf c.args.proof.now c.in-Accepted.functions c.in-Accepted.lines (c.in-Accepted.ensures.verdict elf readable image)
