use Rattle.std.proofs.Common.{sym, ◌∙◌}
use Rattle.elf_image.specs.Image.{code_in}
use Rattle.flow_graph.proofs.BuildLemmas.{none_holds, some_holds, sorted_reach}
use Rattle.code_parts.specs.Calls.{CallsTo}
use Rattle.code_parts.specs.Causes.{Large}
use Rattle.code_parts.specs.inner.Finding.{IsFound}
use Rattle.code_parts.proofs.Faults.{code_fault, code_fine}
use Rattle.code_parts.proofs.call_graph.entries.Goals as goal

pub returns-in_default-clause-err : goal.returns-in_default-clause-err
returns-in_default-clause-err c = Large (none_holds c.in_ok-found.field-0 _ c.in_default.is c.in_ok-found.ensures.large)

pub returns-in-Some-fault_at-clause-err : goal.returns-in-Some-fault_at-clause-err
returns-in-Some-fault_at-clause-err c =
    let code = code_in c.args.image.now.pieces in
    let f = some_holds c.in_ok-found.field-0 (IsFound code c.args.entry) c.in-Some.found c.in-Some.is c.in_ok-found.ensures.found in
    code_fault code c.args.entry c.in-Some.found.fault c.in-Some-fault_at.why f.small f.fault (sym c.fault_at.ensures ∙ c.in-Some-fault_at.is)

pub returns-in_ok-sort-in-None-clause-ok : goal.returns-in_ok-sort-in-None-clause-ok
returns-in_ok-sort-in-None-clause-ok c =
    let code = code_in c.args.image.now.pieces in
    let f = some_holds c.in_ok-found.field-0 (IsFound code c.args.entry) c.in-Some.found c.in-Some.is c.in_ok-found.ensures.found in
    record {
      functions = sorted_reach (CallsTo code) c.args.entry c.in-Some.found.functions c.sort.new.self f.functions c.sort.ensures.members c.in_ok-sort-in-None.ensures.rising;
      rising = c.in_ok-sort-in-None.ensures.rising;
      small = f.small;
      fine = code_fine code c.args.entry c.in-Some.found.fault f.fault (sym c.fault_at.ensures ∙ c.in-None.is);
    }
