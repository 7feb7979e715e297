use Rattle.std.proofs.Common.{◌≡◌, true, false, length, length-append, rules, refl, sym, ap, subst, arith}
use Rattle.mc_text.specs.declared.token.Before.TheVariants.{Start}
use Rattle.mc_text.specs.Scanning.{lex, At}
use Rattle.group_text.specs.Version.{version_of}
use Rattle.group_text.specs.inner.Rest.{GoesOn}
use Rattle.group_text.proofs.Claims.{told-ok, told-bad, bad-was, nothing-left}
use Rattle.fun_laws.specs.Spelling.{cert_tree}
use Rattle.fun_laws.specs.inner.Reading.{cert_at}
use Rattle.fun_laws.proofs.Whole.{eols-short, readable, text_stopped, text_goes_on, text_ended}
use Rattle.fun_laws.proofs.read.read_cert_in.Goals as goal

pub overflow_add-result : goal.overflow_add-result
overflow_add-result c =
    let k = told-ok c.whole_lines.result.0.now c.new-rows.result c.read_rows.new.rows c.new-rows.ensures (cert_at (version_of c.args.version)) c.taken.result (c.taken.ensures _ refl) (cert_tree c.in-Ok.cert) c.read_rows.new.rows.rest refl c.in-Ok.ensures in
    let count = k.count in
    let size = ap length c.whole_lines.ensures.parts in
    omega (arith, count, size, length-append c.whole_lines.result.0.now c.whole_lines.result.1.now, eols-short c.whole_lines.result.0.now (At Start))

pub overflow_add-result-in-Err-Bad : goal.overflow_add-result-in-Err-Bad
overflow_add-result-in-Err-Bad c =
    let k = told-bad c.whole_lines.result.0.now c.new-rows.result c.read_rows.new.rows c.new-rows.ensures (cert_at (version_of c.args.version)) c.taken-in-Err-Bad.result (c.taken-in-Err-Bad.ensures _ refl) (bad-was cert_tree (cert_at (version_of c.args.version)) _ _ c.in-Err-Bad.field-0 c.in-Err-Bad.field-0-is c.in-Err-Bad.ensures) in
    let count = k.count in
    let size = ap length c.whole_lines.ensures.parts in
    omega (arith, count, size, length-append c.whole_lines.result.0.now c.whole_lines.result.1.now, eols-short c.whole_lines.result.0.now (At Start))

pub returns-then-not-is_end-clause-fault : goal.returns-then-not-is_end-clause-fault
returns-then-not-is_end-clause-fault c =
    let k = told-ok c.whole_lines.result.0.now c.new-rows.result c.read_rows.new.rows c.new-rows.ensures (cert_at (version_of c.args.version)) c.taken.result (c.taken.ensures _ refl) (cert_tree c.in-Ok.cert) c.read_rows.new.rows.rest refl c.in-Ok.ensures in
    let off : c.is_end.result ≡ false = search (rules, c.if-not-is_end.true) in
    text_goes_on _ (readable c.args.version) c.args.text.now c.whole_lines.result.0.now c.whole_lines.result.1.now c.whole_lines.ensures.parts c.whole_lines.ensures.tail (cert_tree c.in-Ok.cert) c.read_rows.new.rows.rest c.taken.result k
    (subst (λ v. GoesOn (lex v (At Start)) c.whole_lines.result.1.now) c.rest.ensures (c.is_end.ensures.more off))

pub returns-else-not-is_end-clause-fits : goal.returns-else-not-is_end-clause-fits
returns-else-not-is_end-clause-fits c =
    let k = told-ok c.whole_lines.result.0.now c.new-rows.result c.read_rows.new.rows c.new-rows.ensures (cert_at (version_of c.args.version)) c.read_rows.new.rows.taken refl (cert_tree c.in-Ok.cert) c.read_rows.new.rows.rest refl c.in-Ok.ensures in
    let on : c.is_end.result ≡ true = search (rules, c.if-not-is_end.false) in
    let e = c.is_end.ensures.end on in
    (text_ended _ (readable c.args.version) c.args.text.now c.whole_lines.result.0.now c.whole_lines.result.1.now c.whole_lines.ensures.parts c.whole_lines.ensures.tail (cert_tree c.in-Ok.cert) c.read_rows.new.rows.rest c.read_rows.new.rows.taken k (nothing-left c.read_rows.new.rows.rest _ (sym c.rest.ensures) e.0) e.1).0

pub returns-else-not-is_end-clause-text : goal.returns-else-not-is_end-clause-text
returns-else-not-is_end-clause-text c =
    let k = told-ok c.whole_lines.result.0.now c.new-rows.result c.read_rows.new.rows c.new-rows.ensures (cert_at (version_of c.args.version)) c.read_rows.new.rows.taken refl (cert_tree c.in-Ok.cert) c.read_rows.new.rows.rest refl c.in-Ok.ensures in
    let on : c.is_end.result ≡ true = search (rules, c.if-not-is_end.false) in
    let e = c.is_end.ensures.end on in
    (text_ended _ (readable c.args.version) c.args.text.now c.whole_lines.result.0.now c.whole_lines.result.1.now c.whole_lines.ensures.parts c.whole_lines.ensures.tail (cert_tree c.in-Ok.cert) c.read_rows.new.rows.rest c.read_rows.new.rows.taken k (nothing-left c.read_rows.new.rows.rest _ (sym c.rest.ensures) e.0) e.1).1

pub returns-in-Err-Bad-clause-fault : goal.returns-in-Err-Bad-clause-fault
returns-in-Err-Bad-clause-fault c =
    let k = told-bad c.whole_lines.result.0.now c.new-rows.result c.read_rows.new.rows c.new-rows.ensures (cert_at (version_of c.args.version)) c.taken-in-Err-Bad.result (c.taken-in-Err-Bad.ensures _ refl) (bad-was cert_tree (cert_at (version_of c.args.version)) _ _ c.in-Err-Bad.field-0 c.in-Err-Bad.field-0-is c.in-Err-Bad.ensures) in
    text_stopped _ (readable c.args.version) c.args.text.now c.whole_lines.result.0.now c.whole_lines.result.1.now c.whole_lines.ensures.parts c.whole_lines.ensures.tail c.taken-in-Err-Bad.result k
