-- The instructions of drawn code, and the words of a program.
use Rattle.std.specs.Prelude.{ℕ, ◌+◌, ◌*◌, pos, negsuc, List, [], ◌∷◌, ◌++◌, length, map}
use Rattle.rv_words.specs.declared.operation.Op.TheVariants.{Add as Addition, Xor, And}
use Rattle.rv_words.specs.declared.comparison.Cmp.TheVariants.{Eq, Ne}
use Rattle.rv_decode.specs.declared.instruction.Instr.{Instr}
use Rattle.rv_decode.specs.declared.instruction.Instr.TheVariants.{Op, OpImm, Jal, Jalr, Branch}
use Rattle.rv_decode.specs.Encodes.{word_of}
use Rattle.code_gen.specs.Pieces.{Pieces, Done, Add, Mix, Choose, Repeat, drawn}

-- the register that counts the turns of a loop at depth d
abbrev pub counter : ℕ → ℕ
counter d = 12 + d

-- addi x10,x10,u
abbrev pub adding : ℕ → Instr
adding u = OpImm Addition 10 10 (pos u)

-- xor x10,x10,x11
abbrev pub mixing : Instr
mixing = Op Xor 10 10 11

-- andi x16,x10,1; beq x16,x0,12; addi x10,x10,u; jal x0,8; xor x10,x10,x11
abbrev pub choosing : ℕ → List Instr
choosing u = OpImm And 16 10 (pos 1) ∷ Branch Eq 16 0 (pos 12) ∷ adding u ∷ Jal 0 (pos 8) ∷ mixing ∷ []

-- addi xC,x0,n, in front of a loop's body
abbrev pub counting : ℕ → ℕ → Instr
counting d n = OpImm Addition (counter d) 0 (pos n)

-- what stands behind a body of k instructions: addi xC,xC,-1, and bne xC,x0 to the first of them
abbrev pub loop_end : ℕ → ℕ → List Instr
loop_end d k = OpImm Addition (counter d) (counter d) (negsuc 0) ∷ Branch Ne (counter d) 0 (negsuc (4 * k + 3)) ∷ []

-- the instructions of pieces at depth d
abbrev pub code : ℕ → Pieces → List Instr
code d Done = []
code d (Add u rest) = adding u ∷ code d rest
code d (Mix rest) = mixing ∷ code d rest
code d (Choose u rest) = choosing u ++ code d rest
code d (Repeat n body rest) =
    counting d n ∷ code (d + 1) body ++ loop_end d (length (code (d + 1) body)) ++ code d rest

-- a program that is drawn from a number: code of that size, and jalr x0,0(x1)
abbrev pub instructions : ℕ → ℕ → List Instr
instructions number size = code 0 (drawn size 0 number).pieces ++ Jalr 0 1 (pos 0) ∷ []

unfoldable pub program_of : ℕ → ℕ → List ℕ
program_of number size = map word_of (instructions number size)
