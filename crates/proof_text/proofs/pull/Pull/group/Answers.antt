use Rattle.proof_text.proofs.WholeLaws.{lines-read}
use Rattle.proof_text.proofs.pull.Pull.group.Goals as goal

pub next_group-requires : goal.next_group-requires
next_group-requires g c = lines-read c.args.self.now.version
