-- Places as the code has them: the first two memories have variables of their own, and any others are numbered.
use Rattle.std.specs.Prelude.{◌+◌, ◌==◌, if◌then◌else◌}
use Rattle.instr_axioms.specs.Variables.{variable_of}
use Rattle.code_parts.specs.declared.variable_map.VariableMap.{VariableMap as TheMap}
use Rattle.code_parts.specs.Bodies.{VariableMap}

abbrev pub place_of : TheMap → VariableMap
place_of p = record { words = p.words; mems = p.mems; reg = variable_of p.names.words; memory = λ q. if q == 0 then p.names.memory else (if q == 1 then p.second else p.others + q) }
