-- Pieces of bodies.
use Rattle.std.specs.Prelude.{ℕ, suc, List, ◌++◌, if◌then◌else◌}
use Rattle.word_terms.specs.Tree.{Var}
use Rattle.tailrec_lang.specs.Tree.{BodyTree, Call, Leave, StepTree, with_steps}
use Rattle.rv_decode.specs.declared.instruction.Instr.{Instr}
use Rattle.triple_kernel.specs.declared.form.Form.TheVariants.{Next}
use Rattle.rv_words.specs.Bytes.{away}
use Rattle.instr_axioms.specs.Terms.{pc_after}
use Rattle.code_parts.specs.declared.callee.Callee.{Callee}
use Rattle.code_parts.specs.declared.part.Part.{Part}
use Rattle.code_parts.specs.Bodies.{Flow, VariableMap, body_at, current, end_at, fresh, names, needs, place_after, return_arm, size, with_pc, writes}

-- the arm of a call that returns: the address is the first result
abbrev pub returning : Flow → VariableMap → BodyTree
returning f v = Leave 0 (with_pc (Var v.words) (current f (fresh f (suc v.words) v.mems)))

-- the body from a node on to which an edge leads
abbrev pub body_on : ℕ → Flow → Part → ℕ → VariableMap → BodyTree
body_on room f p n v = if f.is_cut n then end_at f p n v else body_at room f p n v

-- the body for a return
abbrev pub returned_body : Flow → Instr → ℕ → ℕ → ℕ → VariableMap → BodyTree
returned_body f i a k q v = with_steps (needs i q v) (Leave 0 (with_pc (pc_after i Next a k (names v q)) (current f v)))

-- the steps of a node's instruction, and the variables after it
abbrev pub steps_at : Flow → ℕ → VariableMap → List StepTree
steps_at f n v = needs (f.instr n) (f.uses n) v ++ writes (f.instr n) (f.addr n) (size f n) (f.uses n) v

abbrev pub after_node : Flow → ℕ → VariableMap → VariableMap
after_node f n v = place_after (f.instr n) (f.uses n) v

-- the body for a node that calls a function, where `room` instructions may follow
abbrev pub called_body : ℕ → Flow → Part → ℕ → Callee → VariableMap → BodyTree
called_body room f p n c v =
    with_steps (steps_at f n v) (Call c.def (current f (after_node f n v)) (return_arm f c.returns (away (f.addr n) (size f n)) (after_node f n v) (λ w. body_on room f p (f.to n Next) w)))
