use Rattle.std.proofs.Common.{ℕ, subst, arith}
use Rattle.elf_image.specs.Image.{code_in}
use Rattle.code_parts.specs.Calls.{call_at}
use Rattle.code_parts.specs.inner.Finding.{NotesCallee}
use Rattle.code_parts.proofs.Noting.{notes_more}
use Rattle.code_parts.proofs.called_addresses.note_callees.Goals as goal

pub addresses-preserved : goal.addresses-preserved
addresses-preserved c =
    let code = code_in c.args.image.now.pieces in
    record {
      upto = omega (arith, c.len.ensures.len, c.addresses-test.true);
      noted = notes_more code c.args.addresses.now c.addresses.i c.args.functions.now c.addresses.functions c.note_callee.new.functions c.addresses.invariant.noted
          (subst (λ (a : ℕ). NotesCallee (call_at code a) c.addresses.functions c.note_callee.new.functions) c.get.ensures c.in_ok-note_callee.ensures);
    }
