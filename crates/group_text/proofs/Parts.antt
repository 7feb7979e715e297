-- A text is its head, its groups and its end, one behind the other.
use Rattle.std.proofs.Common.{◌≡◌, ℕ, List, [], ◌∷◌, ◌++◌, codes, refl, sym, ap, ◌∙◌, append_assoc, flat_map}
use Rattle.mc_text.specs.Tokens.{Tok, Atom, Eol, spell}
use Rattle.mc_text.specs.declared.token.Before.TheVariants.{Start}
use Rattle.mc_text.proofs.Lines.{EndsIn, IsLines}
use Rattle.mc_text.proofs.Covers.{lines-append}
use Rattle.mc_text.proofs.Printed.{spell-after_lines}
use Rattle.group_text.specs.TermSpelling.{joined, word_tokens, mem_tokens, cond_tokens, range_tokens}
use Rattle.tailrec_lang.specs.Tree.{StepTree, Bind, BindMem, Need, BodyTree, Do, Branch, Call, Again, Leave, ArmTrees, NoArm, Arm, DefTree, GroupTree}
use Rattle.group_text.specs.Version.{Version}
use Rattle.group_text.specs.Spelling.{line, number, address, exit_tokens, values_tokens, step_tokens, arm_count, body_tokens, arm_tokens, def_tokens, group_tokens, title_tokens, end_tokens, text_in}
use Rattle.group_text.specs.Parts.{group_texts}

-- ends however it begins
pub ends-behind : (t : Tok) (p rest : List Tok) → ((u : Tok) → EndsIn u rest) → EndsIn t (p ++ rest)
ends-behind t [] rest h = h t
ends-behind t (u ∷ p) rest h = ends-behind u p rest h

ends-joined : (t : Tok) (parts : List (List Tok)) → EndsIn t (joined parts (Eol ∷ []))
ends-joined t [] = refl
ends-joined t (p ∷ ps) = ends-behind t p (joined ps (Eol ∷ [])) (λ u. ends-joined u ps)

pub line-whole : (word : List ℕ) (parts : List (List Tok)) → IsLines (line word parts)
line-whole word parts = ends-joined _ parts

step-whole : (s : StepTree) → IsLines (step_tokens s)
step-whole (Bind t) = line-whole (codes "let") (word_tokens t ∷ [])
step-whole (BindMem m) = line-whole (codes "letm") (mem_tokens m ∷ [])
step-whole (Need c) = line-whole (codes "need") (cond_tokens c ∷ [])

mutual
  body-whole : (b : BodyTree) → IsLines (body_tokens b)
  body-whole (Do s rest) = lines-append (step_tokens s) (body_tokens rest) (step-whole s) (body-whole rest)
  body-whole (Branch c a b) =
      lines-append (line (codes "if") (cond_tokens c ∷ [])) (body_tokens a ++ (line (codes "else") [] ++ body_tokens b)) (line-whole (codes "if") (cond_tokens c ∷ []))
      (lines-append (body_tokens a) (line (codes "else") [] ++ body_tokens b) (body-whole a)
      (lines-append (line (codes "else") []) (body_tokens b) (line-whole (codes "else") []) (body-whole b)))
  body-whole (Call def v arms) =
      let parts : List (List Tok) = number def ∷ number (arm_count arms) ∷ values_tokens v ∷ [] in
      lines-append (line (codes "call") parts) (arm_tokens arms) (line-whole (codes "call") parts) (arms-whole arms)
  body-whole (Again v) = line-whole (codes "again") (values_tokens v ∷ [])
  body-whole (Leave exit v) = line-whole (codes "leave") (number exit ∷ values_tokens v ∷ [])

  arms-whole : (bs : ArmTrees) → IsLines (arm_tokens bs)
  arms-whole NoArm = tt
  arms-whole (Arm b bs) = lines-append (line (codes "arm") []) (body_tokens b ++ arm_tokens bs) (line-whole (codes "arm") []) (lines-append (body_tokens b) (arm_tokens bs) (body-whole b) (arms-whole bs))

def-whole : (d : DefTree) → IsLines (def_tokens d)
def-whole d =
    let parts : List (List Tok) = address d.entry ∷ flat_map exit_tokens d.exits ∷ [] in
    lines-append (line (codes "def") parts) (body_tokens d.body) (line-whole (codes "def") parts) (body-whole d.body)

defs-whole : (ds : List DefTree) → IsLines (flat_map def_tokens ds)
defs-whole [] = tt
defs-whole (d ∷ ds) = lines-append (def_tokens d) (flat_map def_tokens ds) (def-whole d) (defs-whole ds)

pub group-whole : (g : GroupTree) → IsLines (group_tokens g)
group-whole g =
    let regs : List (List Tok) = flat_map number g.regs ∷ [] in
    let mems : List (List Tok) = number g.mems ∷ [] in
    let code : List (List Tok) = flat_map range_tokens g.code ∷ [] in
    let defs = flat_map def_tokens g.defs in
    lines-append (line (codes "group") ((Atom g.name ∷ []) ∷ [])) (line (codes "regs") regs ++ (line (codes "mems") mems ++ (line (codes "code") code ++ defs))) refl
    (lines-append (line (codes "regs") regs) (line (codes "mems") mems ++ (line (codes "code") code ++ defs)) (line-whole (codes "regs") regs)
    (lines-append (line (codes "mems") mems) (line (codes "code") code ++ defs) (line-whole (codes "mems") mems)
    (lines-append (line (codes "code") code) defs (line-whole (codes "code") code) (defs-whole g.defs))))

groups-apart : (gs : List GroupTree) → spell Start (flat_map group_tokens gs ++ end_tokens) ≡ group_texts gs ++ spell Start end_tokens
groups-apart [] = refl
groups-apart (g ∷ gs) =
    ap (spell Start) (append_assoc (group_tokens g) (flat_map group_tokens gs) end_tokens)
    ∙ spell-after_lines (group_tokens g) (flat_map group_tokens gs ++ end_tokens) (group-whole g)
    ∙ ap (λ (v : List ℕ). spell Start (group_tokens g) ++ v) (groups-apart gs)
    ∙ sym (append_assoc (spell Start (group_tokens g)) (group_texts gs) (spell Start end_tokens))

pub text-apart : (v : Version) (gs : List GroupTree) → text_in v gs ≡ spell Start (title_tokens v) ++ (group_texts gs ++ spell Start end_tokens)
text-apart v gs =
    spell-after_lines (title_tokens v) (flat_map group_tokens gs ++ end_tokens) refl
    ∙ ap (λ (w : List ℕ). spell Start (title_tokens v) ++ w) (groups-apart gs)
