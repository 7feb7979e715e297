use Rattle.mc_text.proofs.Puts.{none-encoded, more-encoded}
use Rattle.mc_text.proofs.put.put_bytes.Goals as goal

pub loop-byte-init : goal.loop-byte-init
loop-byte-init c = record { appended = none-encoded c.args.out.now; start = c.len-start.ensures }

pub loop-byte-preserved : goal.loop-byte-preserved
loop-byte-preserved c = record {
  appended = more-encoded c.args.out.now c.loop-byte.out c.put_atom.new.out c.args.bytes.now c.digit_pair.result c.loop-byte.byte-index c.loop-byte-test.true c.loop-byte.invariant.appended c.digit_pair.ensures c.in-Ok.ensures.ok;
  start = c.loop-byte.invariant.start;
}
