use Rattle.instr_axioms.specs.Variables.{variable_of}
use Rattle.code_parts.proofs.VariableMaps.{other_low, second_stored}
use Rattle.code_parts.proofs.variables.stored_second.Goals as goal

pub returns-clause-is : goal.returns-clause-is
returns-clause-is c = second_stored c.args.place.words c.args.place.mems c.args.place.names.memory c.args.place.second c.args.place.others (variable_of c.args.place.names.words)

pub invariant_of-result : goal.invariant_of-result
invariant_of-result c = record { low = other_low _ _ _ _ c.args.place.low }
