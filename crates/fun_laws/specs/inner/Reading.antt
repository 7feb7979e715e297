-- Reading certificates from tokens, by computing: a line a rule of the grammar.
use Rattle.std.specs.Prelude.{ℕ, ◌-◌, ◌^◌, Bool, true, false, nat_le, ◌&&◌, if◌then◌else◌, List, [], ◌∷◌, length, codes, Option, Some, None}
use Rattle.std.specs.Str.{bytes_eq}
use Rattle.mc_text.specs.Tokens.{Tok, Atom}
use Rattle.mc_text.specs.Reading.{Reader, pair, with, made, one, atom_of, star}
use Rattle.mc_text.specs.inner.Reading.{eol, word, number_at}
use Rattle.tailrec_lang.specs.Tree.{DefTree}
use Rattle.group_text.specs.inner.Reading.{Head, name_of, group_of, mark_row, own_defs}
use Rattle.group_text.specs.Version.{Version}
use Rattle.group_text.specs.inner.GroupRows.{more_head}
use Rattle.fun_laws.specs.declared.step.Rw.{Rw}
use Rattle.fun_laws.specs.Spelling.{CertTree}

-- ---- steps

abbrev pub is_digit : ℕ → Bool
is_digit b = nat_le 48 b && nat_le b 57

abbrev pub are_digits : List ℕ → Bool
are_digits [] = true
are_digits (b ∷ bs) = is_digit b && are_digits bs

-- the numbers that digits stand for
abbrev pub numbers : List ℕ → List ℕ
numbers [] = []
numbers (b ∷ bs) = (b - 48) ∷ numbers bs

-- one digit or more
abbrev pub is_number : List ℕ → Bool
is_number a = nat_le 1 (length a) && are_digits a

unfoldable pub place_of : List ℕ → Option (List ℕ)
place_of a = if bytes_eq a (codes "-") then Some [] else (if is_number a then Some (numbers a) else None)

-- the numbers of a step, with the end of its line
abbrev pub StepRow : Type 0
StepRow = ℕ × (ℕ × (List ℕ × (ℕ × Unit {0})))

abbrev pub step_numbers : Reader StepRow
step_numbers = pair (number_at (2 ^ 32)) (pair (number_at (2 ^ 32)) (pair (one (atom_of place_of)) (pair (number_at (2 ^ 32)) eol)))

abbrev pub step_of : Unit {0} × StepRow → Rw
step_of x = record { def = x.1.0; term = x.1.1.0; place = x.1.1.1.0; law = x.1.1.1.1.0 }

unfoldable pub step_at : Reader Rw
step_at = made step_of (pair (word (codes "rw")) step_numbers)

abbrev pub is_step : Tok → Bool
is_step (Atom a) = bytes_eq a (codes "rw")
is_step _ = false

-- ---- the first rows

unfoldable pub title_row : Reader (Unit {0} × (Unit {0} × Unit {0}))
title_row = pair (word (codes "mclaws")) (pair (word (codes "1")) eol)

abbrev pub NameRow : Type 0
NameRow = Unit {0} × (List ℕ × Unit {0})

unfoldable pub name_row : Reader NameRow
name_row = pair (word (codes "group")) (pair (one (atom_of name_of)) eol)

-- ---- certificates

abbrev pub Mark : Type 0
Mark = Unit {0} × Unit {0}

-- the definitions that the steps give, and what ends the text
abbrev pub defs_to_end : Reader (List DefTree × Mark)
defs_to_end = pair own_defs (mark_row (codes "end"))

abbrev pub result_at : Reader (List DefTree)
result_at = made (λ x. x.1.0) (pair (mark_row (codes "result")) defs_to_end)

abbrev pub Rest : Type 0
Rest = List Rw × List DefTree

abbrev pub behind_old : Reader Rest
behind_old = pair (star is_step step_at) result_at

-- the group's definitions, and what stands behind them
abbrev pub behind_head : Reader (List DefTree × Rest)
behind_head = pair own_defs behind_old

abbrev pub cert_of : Head × (List DefTree × Rest) → CertTree
cert_of x = record { old = group_of x.0 x.1.0; steps = x.1.1.0; result = x.1.1.1 }

abbrev pub behind_name : Version → NameRow → Reader CertTree
behind_name v n = made cert_of (pair (more_head v n.1.0) behind_head)

abbrev pub behind_title : Version → Reader CertTree
behind_title v = made (λ x. x.1) (with name_row (behind_name v))

-- a certificate of a group of that version
abbrev pub cert_at : Version → Reader CertTree
cert_at v = made (λ x. x.1) (pair title_row (behind_title v))
