use Rattle.mcdec_answers.proofs.print.put_outside.Goals as goal

pub returns-in-Environment : goal.returns-in-Environment
returns-in-Environment g c = rw c.in-Environment.is c.put_address-in-Environment.ensures

pub returns-in-JumpThrough : goal.returns-in-JumpThrough
returns-in-JumpThrough g c = rw c.in-JumpThrough.is c.put_address-in-JumpThrough.ensures

pub returns-in-Misaligned : goal.returns-in-Misaligned
returns-in-Misaligned g c = rw c.in-Misaligned.is c.put_two-in-Misaligned.ensures

pub returns-in-ManyExits : goal.returns-in-ManyExits
returns-in-ManyExits g c = rw c.in-ManyExits.is c.put_address-in-ManyExits.ensures
