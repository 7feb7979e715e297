use Rattle.std.proofs.Common.{subst, List as Items}
use Rattle.fun_laws.specs.declared.step.Rw.{Rw}
use Rattle.fun_laws.specs.inner.Numbers.{HaveNumbers}
use Rattle.fun_laws.proofs.CertFits.{accepted_fits}
use Rattle.fun_laws.proofs.laws.law_of_limits.Goals as goal

pub returns : goal.returns
returns c = λ k g h a. accepted_fits g c.args.c.now (subst (λ (rs : Items Rw). HaveNumbers rs) c.as_slice.ensures c.have_numbers.ensures) k h a
