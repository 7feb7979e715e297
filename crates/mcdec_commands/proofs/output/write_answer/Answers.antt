use Rattle.std.proofs.Common.{refl, inl, inr}
use Rattle.mcdec_answers.specs.declared.answer.Answer.TheVariants as answer
use Rattle.mcdec_commands.proofs.Leaving.{front-of-text}
use Rattle.mcdec_commands.proofs.output.write_answer.Goals as goal

pub returns-in-Err-Failed-clause-written : goal.returns-in-Err-Failed-clause-written
returns-in-Err-Failed-clause-written g c = front-of-text c.args.name.now c.args.text.now c.args.told c.in-Err-Failed.field-0 answer.WriteFault _ _ (inl refl) c.in-Err-Failed.ensures.written

pub returns-clause-written : goal.returns-clause-written
returns-clause-written g c = front-of-text c.args.name.now c.args.text.now c.args.told c.in-Err-NoMemory.field-0 answer.NoMemory _ _ (inr refl) c.in-Err-NoMemory.ensures.written
