use Rattle.proof_v2.proofs.ReadOn.{group-next, no-bad-group}
use Rattle.proof_v2.proofs.texts.next_group.Goals as goal

pub returns-in-Ok : goal.returns-in-Ok
returns-in-Ok c =
    let k = c.in-Ok in
    group-next c.args.reader.now c.group.new.self k.ensures.text k.ensures.version c.requires.version k.found k.ensures.given k.ensures.fits k.ensures.shorter k.ensures.end

pub unreachable-requires : goal.unreachable-requires
unreachable-requires c =
    no-bad-group c.args.reader.now c.requires.text c.requires.version c.in-Err-Bad.field-0 c.in-Err-Bad.field-0-0 c.in-Err-Bad.field-0-is c.requires.passed c.in-Err-Bad.ensures.bad
