-- Reading groups from tokens, by computing: a line a rule of the grammar.
use Rattle.std.specs.Prelude.{ℕ, zero, suc, ◌+◌, ◌^◌, Bool, true, false, ◌&&◌, ◌||◌, nat_le, ◌==◌, if◌then◌else◌, List, [], ◌∷◌, length, codes, Option, Some, None, option_map, Err}
use Rattle.std.specs.Str.{bytes_eq}
use Rattle.mc_text.specs.Number.{hex_of}
use Rattle.mc_text.specs.Tokens.{Tok, Atom, is_atom_byte}
use Rattle.mc_text.specs.Reading.{Reader, pair, with, made, one, atom_of, many, star, refused, address_at, is_open}
use Rattle.mc_text.specs.inner.Reading.{is_semi, times, eol, word, keyed, checked, unless, number_at}
use Rattle.rv_words.specs.declared.range.Range.{Range}
use Rattle.group_text.specs.TermLimits.{depth_limit}
use Rattle.group_text.specs.TermReading.{word_at, mem_at, cond_at, range_at, begins_word, begins_mem}
use Rattle.tailrec_lang.specs.Tree.{ValuesTree, StepTree, Bind, BindMem, Need, BodyTree, Branch, Call, Again, Leave, DefTree, GroupTree, with_steps, arms_of}
use Rattle.tailrec_lang.specs.declared.group.Exit.{Exit}
use Rattle.tailrec_lang.specs.declared.group.Exit.TheVariants.{At, Ret}
use Rattle.group_text.specs.Version.{Version}
use Rattle.tailrec_lang.specs.Registers.{last_register}
use Rattle.group_text.specs.Limits.{def_exit_limit, nesting_limit, def_limit, name_limit, returns}

-- a line that is one word
abbrev pub mark_row : List ℕ → Reader (Unit {0} × Unit {0})
mark_row name = pair (word name) eol

-- ---- values and steps

-- the values, with the end of their line
unfoldable pub values_at : Reader ValuesTree
values_at = made (λ x. record { words = x.0; mems = x.1.1.0 }) (pair (star begins_word (word_at depth_limit)) (pair (one is_semi) (pair (star begins_mem (mem_at depth_limit)) eol)))

unfoldable pub step_at : Reader StepTree
step_at =
    keyed (codes "let") (made (λ x. Bind x.0) (pair (word_at depth_limit) eol))
    (keyed (codes "letm") (made (λ x. BindMem x.0) (pair (mem_at depth_limit) eol))
    (keyed (codes "need") (made (λ x. Need x.0) (pair (cond_at depth_limit) eol)) refused))

abbrev pub is_step : Tok → Bool
is_step (Atom a) = bytes_eq a (codes "let") || bytes_eq a (codes "letm") || bytes_eq a (codes "need")
is_step _ = false

-- ---- bodies, by the nesting that is left

abbrev pub where_room : {X : Type 0} → ℕ → Reader X → Reader X
where_room room r ts = if room == 0 then Err ts else r ts

-- a call's number of arms is below this
abbrev pub arm_bound : ℕ → ℕ
arm_bound room = if room == 0 then 1 else def_exit_limit + 1

unfoldable pub branch_at : Reader BodyTree → Reader BodyTree
branch_at body = made (λ x. Branch x.0.0 x.1.0 x.1.1.1) (pair (pair (cond_at depth_limit) eol) (pair body (pair (mark_row (codes "else")) body)))

abbrev pub arm_at : Reader BodyTree → Reader BodyTree
arm_at body = made (λ x. x.1) (pair (mark_row (codes "arm")) body)

-- the definition, how many arms, and the arguments
abbrev pub call_row : ℕ → Reader (ℕ × (ℕ × ValuesTree))
call_row bound = pair (number_at (2 ^ 32)) (pair (number_at bound) values_at)

unfoldable pub call_at : ℕ → Reader BodyTree → Reader BodyTree
call_at bound body = made (λ x. Call x.0.0 x.0.1.1 (arms_of x.1)) (with (call_row bound) (λ row. times row.1.0 (arm_at body)))

unfoldable pub leave_at : Reader BodyTree
leave_at = made (λ x. Leave x.0 x.1) (pair (number_at (2 ^ 32)) values_at)

unfoldable pub end_at : ℕ → Reader BodyTree → Reader BodyTree
end_at room body =
    keyed (codes "call") (call_at (arm_bound room) body)
    (keyed (codes "again") (made Again values_at)
    (keyed (codes "leave") leave_at
    (where_room room (keyed (codes "if") (branch_at body) refused))))

unfoldable pub body_at : ℕ → Reader BodyTree
body_at zero ts = Err ts
body_at (suc room) ts = made (λ x. with_steps x.0 x.1) (pair (star is_step step_at) (end_at room (body_at room))) ts

-- ---- definitions

unfoldable pub exit_of : List ℕ → Option Exit
exit_of a = if bytes_eq a (codes "ret") then Some Ret else option_map At (hex_of a)

abbrev pub has_atom : Tok → Bool
has_atom (Atom a) = true
has_atom _ = false

abbrev pub are_few_exits : List Exit → Bool
are_few_exits xs = nat_le (length xs) def_exit_limit && nat_le (returns xs) 1

-- the entry and the exits, with the end of their line
unfoldable pub def_row : Reader (ℕ × (List Exit × Unit {0}))
def_row = pair address_at (pair (checked are_few_exits (star has_atom (one (atom_of exit_of)))) eol)

-- the row of a definition
abbrev pub def_start : Reader (Unit {0} × (ℕ × (List Exit × Unit {0})))
def_start = pair (word (codes "def")) def_row

unfoldable pub def_at : Reader DefTree
def_at = made (λ x. record { entry = x.0.1.0; exits = x.0.1.1.0; body = x.1 }) (pair def_start (body_at nesting_limit))

abbrev pub is_def : Tok → Bool
is_def (Atom a) = bytes_eq a (codes "def")
is_def _ = false

-- ---- the head of a group

abbrev pub are_atom_bytes : List ℕ → Bool
are_atom_bytes [] = true
are_atom_bytes (b ∷ bs) = is_atom_byte b && are_atom_bytes bs

abbrev pub is_name : List ℕ → Bool
is_name a = nat_le 1 (length a) && nat_le (length a) name_limit && are_atom_bytes a

unfoldable pub name_of : List ℕ → Option (List ℕ)
name_of a = if is_name a then Some a else None

-- registers from `least` on, up to 31, rising
abbrev pub registers_rise : ℕ → List ℕ → Bool
registers_rise least [] = true
registers_rise least (r ∷ rs) = nat_le least r && nat_le r last_register && registers_rise (r + 1) rs

-- ranges from `least` on, each above the end of the one before, and not past 2 ^ 64
abbrev pub ranges_rise : ℕ → List Range → Bool
ranges_rise least [] = true
ranges_rise least (r ∷ rs) = nat_le least r.at && nat_le (r.at + length r.bytes) (2 ^ 64) && ranges_rise (r.at + length r.bytes + 1) rs

-- what stands before a group's definitions
pub record Head : Type 0 where
  pub name : List ℕ
  pub regs : List ℕ
  pub mems : ℕ
  pub code : List Range

unfoldable pub regs_row : Reader (Unit {0} × (List ℕ × Unit {0}))
regs_row = pair (word (codes "regs")) (pair (checked (registers_rise 1) (star has_atom (number_at 32))) eol)

-- a group has fewer memories in each version
abbrev pub mems_limit : ℕ
mems_limit = 3

abbrev pub has_mems : Version → ℕ → Bool
has_mems v mems = nat_le v.least_mems mems && nat_le mems v.most_mems

unfoldable pub mems_row : Version → Reader (Unit {0} × (ℕ × Unit {0}))
mems_row v = pair (word (codes "mems")) (pair (checked (has_mems v) (number_at mems_limit)) eol)

unfoldable pub code_row : Reader (Unit {0} × (List Range × Unit {0}))
code_row = pair (word (codes "code")) (pair (checked (ranges_rise 0) (star is_open range_at)) eol)

-- the head, after its first word
unfoldable pub head_at : Version → Reader Head
head_at v =
    made (λ x. record { name = x.0.0; regs = x.1.0.1.0; mems = x.1.1.0.1.0; code = x.1.1.1.1.0 })
    (pair (pair (one (atom_of name_of)) eol) (pair regs_row (pair (mems_row v) code_row)))

-- ---- groups and texts

abbrev pub group_of : Head → List DefTree → GroupTree
group_of h defs = record { name = h.name; regs = h.regs; mems = h.mems; code = h.code; defs = defs }

abbrev pub are_some : List DefTree → Bool
are_some defs = nat_le 1 (length defs)

-- at least one definition, and as many as follow, if they aren't too many
abbrev pub own_defs : Reader (List DefTree)
own_defs = checked are_some (unless is_def (many def_limit is_def def_at))

-- one group, after its first word
unfoldable pub group_at : Version → Reader GroupTree
group_at v = made (λ x. group_of x.0 x.1) (pair (head_at v) own_defs)

-- the next group, or the end of the text
unfoldable pub next_at : Version → Reader (Option GroupTree)
next_at v = keyed (codes "end") (made (λ _. None) eol) (keyed (codes "group") (made Some (group_at v)) refused)

abbrev pub title_row : Version → Reader (Unit {0} × (Unit {0} × Unit {0}))
title_row v = pair (word (codes "mcproof")) (pair (word v.title) eol)

-- what one call reads: before the first group the title too
abbrev pub turn_at : Version → Bool → Reader (Option GroupTree)
turn_at v true = made (λ x. x.1) (pair (title_row v) (next_at v))
turn_at v false = next_at v
