use Rattle.std.proofs.Common.{◌≡◌, map, sym, subst, ◌∙◌}
use Rattle.elf_image.specs.Fault.{first}
use Rattle.elf_image.specs.Image.{IsRising, image_of, piece_of, pieces_at, pieces_of, rising}
use Rattle.elf_image.specs.inner.Faults.{loads_faults}
use Rattle.elf_image.proofs.ImageLemmas.{rising_rises, rising_at}
use Rattle.elf_image.proofs.FaultLemmas.{at_header, at_table, at_loads, at_sections}
use Rattle.elf_image.proofs.reader.read.Goals as goal

pub returns-in-Some-clause-fault : goal.returns-in-Some-clause-fault
returns-in-Some-clause-fault c = λ other. at_header c.args.file.now c.in-Some.fault (sym c.in-Some.ensures)

pub returns-in-Some-table_fault-clause-fault : goal.returns-in-Some-table_fault-clause-fault
returns-in-Some-table_fault-clause-fault c = λ other. at_table c.args.file.now c.in-Some-table_fault.fault (sym c.in_default.ensures) (sym c.in-Some-table_fault.ensures)

pub returns-in-Some-loads_fault-clause-fault : goal.returns-in-Some-loads_fault-clause-fault
returns-in-Some-loads_fault-clause-fault c =
    let file = c.args.file.now in
    let headers = c.deref.ensures.value ∙ c.in_ok-headers.ensures in
    λ other. at_loads file c.in-Some-loads_fault.fault (sym c.in_default.ensures) (sym c.in_default-table_fault.ensures)
    ((λ j. first (loads_faults file (sym headers j))) ∙ sym c.in-Some-loads_fault.ensures)

pub returns-in-Some-section_fault-clause-fault : goal.returns-in-Some-section_fault-clause-fault
returns-in-Some-section_fault-clause-fault c =
    let file = c.args.file.now in
    let headers = c.deref.ensures.value ∙ c.in_ok-headers.ensures in
    λ other. at_sections file (sym c.in_default.ensures) (sym c.in_default-table_fault.ensures)
    ((λ j. first (loads_faults file (sym headers j))) ∙ sym c.in_default-loads_fault.ensures)
    ∙ sym c.in-Some-section_fault.ensures

pub returns-clause-readable : goal.returns-clause-readable
returns-clause-readable c =
    let file = c.args.file.now in
    let headers = c.deref.ensures.value ∙ c.in_ok-headers.ensures in
    at_sections file (sym c.in_default.ensures) (sym c.in_default-table_fault.ensures)
    ((λ j. first (loads_faults file (sym headers j))) ∙ sym c.in_default-loads_fault.ensures)
    ∙ sym c.in_default-section_fault.ensures

pieces : (c : goal.After-drop-headers-2) → c.of.result.pieces ≡ rising (pieces_of c.args.file.now)
pieces c =
    c.of.ensures.pieces ∙ c.in_ok-pieces.ensures.pieces ∙ (λ j. rising (map (piece_of c.args.file.now) ((c.deref-2.ensures.value ∙ c.in_ok-headers.ensures) j)))

pub returns-clause-image : goal.returns-clause-image
unfolding image_of
returns-clause-image c = λ j. record { pieces = pieces c j; symbols = (c.of.ensures.symbols ∙ c.in_ok-symbols.ensures) j }

pub returns-clause-rising : goal.returns-clause-rising
returns-clause-rising c = subst (λ ps. IsRising ps) (sym (pieces c)) (rising_rises (pieces_of c.args.file.now))

pub returns-clause-table_order : goal.returns-clause-table_order
returns-clause-table_order c = λ a. (λ j. pieces_at a (pieces c j)) ∙ rising_at a (pieces_of c.args.file.now)
