-- Each row of a text has the law of rows.
use Rattle.std.proofs.Common.{ℕ, ◌^◌, List, [], ◌∷◌, ◌++◌, codes, refl, arith, ◌+◌, ◌≤◌, ◌<◌, eqb, cond, Bool, true, false, flat_map}
use Rattle.mc_text.specs.Tokens.{Tok, Atom, Eol}
use Rattle.mc_text.specs.Reading.{Reader, pair, one, atom_of}
use Rattle.mc_text.specs.inner.Reading.{eol, number_at, word}
use Rattle.mc_text.proofs.ReaderLaws.{Reads, StaysFlat, Reads-pair}
use Rattle.group_text.specs.TermLimits.{depth_limit, IsWord, IsMem, IsCond}
use Rattle.group_text.specs.TermReading.{word_at, mem_at, cond_at}
use Rattle.group_text.specs.TermSpelling.{word_tokens, mem_tokens, cond_tokens, range_tokens}
use Rattle.group_text.proofs.TermFacts.{word-flat, mem-flat, cond-flat}
use Rattle.group_text.proofs.TermLaws.{word-law, mem-law, cond-law}
use Rattle.group_text.specs.Limits.{IsValues, def_exit_limit, IsName}
use Rattle.group_text.specs.declared.version.Version.{Version as Known}
use Rattle.group_text.specs.Version.{Version, version_of}
use Rattle.group_text.proofs.Versions.{most-small}
use Rattle.group_text.specs.Spelling.{number, values_tokens, address, exit_tokens}
use Rattle.group_text.specs.inner.Reading.{mark_row, values_at, step_at, arm_bound, call_row, name_of, regs_row, mems_row, code_row, def_start, title_row}
use Rattle.group_text.proofs.StepLaws.{row-law, mark-law, number-law, values-law, values_row, atom-flat, eol-law, name-law}
use Rattle.group_text.specs.inner.BodyRows.{end_row}
use Rattle.mc_text.proofs.Shown.{Always}
use Rattle.group_text.specs.inner.GroupRows.{first_row}
use Rattle.group_text.proofs.HeadLaws.{def-row-law, group-name-law, regs-law, mems-law, code-law}
use Rattle.group_text.specs.inner.RowReader.{ReadsRows}
use Rattle.group_text.proofs.RowReaders.{row-reads, row-made, row-keyed, row-refused, row-room}

row-of : {X : Type 0} (r : Reader X) (F : X → Type 0) (t : X → List Tok) → Reads r F t → StaysFlat F t → ReadsRows (pair r eol)
row-of r F t law flat = row-reads (pair r eol) _ _ (row-law r F t law flat) (λ x h. (t x.0, refl))

word-row : ReadsRows (pair (word_at depth_limit) eol)
word-row = row-of (word_at depth_limit) IsWord word_tokens word-law (λ t h. word-flat t)

mem-row : ReadsRows (pair (mem_at depth_limit) eol)
mem-row = row-of (mem_at depth_limit) IsMem mem_tokens mem-law (λ m h. mem-flat m)

cond-row : ReadsRows (pair (cond_at depth_limit) eol)
cond-row = row-of (cond_at depth_limit) IsCond cond_tokens cond-law (λ c h. cond-flat c)

pub mark-row : (k : List ℕ) → ReadsRows (mark_row k)
mark-row k = row-reads (mark_row k) _ _ (mark-law k) (λ x h. (Atom k ∷ [], refl))

pub step-row : ReadsRows step_at
unfolding step_at
step-row = row-keyed _ _ _ (row-made _ _ word-row) (row-keyed _ _ _ (row-made _ _ mem-row) (row-keyed _ _ _ (row-made _ _ cond-row) row-refused))

values-row : ReadsRows values_at
values-row = row-reads values_at IsValues values_row values-law (λ v h. (values_tokens v, refl))

-- a number and values
numbered-row : {X : Type 0} (limit : ℕ) → limit ≤ 2 ^ 64 → (r : Reader X) (F : X → Type 0) (t : X → List Tok) → Reads r F t → Reads (pair (number_at limit) r) (λ p. (p.0 < limit) × F p.1) (λ p. number p.0 ++ t p.1)
numbered-row limit le r F t law = Reads-pair (number_at limit) (λ n. n < limit) number (number-law limit le) (λ n h. atom-flat _) r F t law

leave-row : ReadsRows (pair (number_at (2 ^ 32)) values_at)
leave-row = row-reads _ _ _ (numbered-row (2 ^ 32) (omega arith) values_at IsValues values_row values-law) (λ p h. (number p.0 ++ values_tokens p.1, refl))

call-row : (bound : ℕ) → bound ≤ 2 ^ 64 → ReadsRows (call_row bound)
call-row bound le = row-reads _ _ _ (numbered-row (2 ^ 32) (omega arith) _ _ _ (numbered-row bound le values_at IsValues values_row values-law)) (λ p h. (number p.0 ++ (number p.1.0 ++ values_tokens p.1.1), refl))

pub end-row : (room : ℕ) → arm_bound room ≤ 2 ^ 64 → ReadsRows (end_row room)
unfolding end_row
end-row room le =
    row-keyed _ _ _ (row-made _ _ (call-row (arm_bound room) le))
    (row-keyed _ _ _ (row-made _ _ values-row)
    (row-keyed _ _ _ (row-made _ _ leave-row)
    (row-room room _ (row-keyed _ _ _ (row-made _ _ cond-row) row-refused))))

pub small-bound : (room : ℕ) → arm_bound room ≤ 2 ^ 64
small-bound room = by (eqb room 0)
  where
    by : (b : Bool) → cond b 1 (def_exit_limit + 1) ≤ 2 ^ 64
    by true = omega arith
    by false = omega arith

-- ---- the rows of groups

pub def-row : ReadsRows def_start
def-row = row-reads def_start _ _
    (Reads-pair (word (codes "def")) Always (λ _. Atom (codes "def") ∷ []) (name-law (codes "def")) (λ x h. atom-flat (codes "def")) _ _ _ def-row-law)
    (λ p h. (Atom (codes "def") ∷ (address p.1.0 ++ flat_map exit_tokens p.1.1.0), refl))

pub first-row : ReadsRows first_row
unfolding first_row
first-row =
    row-keyed _ _ _ (row-made _ _ (row-reads eol Always (λ _. Eol ∷ []) eol-law (λ x h. ([], refl))))
    (row-keyed _ _ _ (row-made _ _ (row-of (one (atom_of name_of)) IsName (λ a. Atom a ∷ []) group-name-law (λ a h. atom-flat a))) row-refused)

pub regs-row : ReadsRows regs_row
regs-row = row-reads regs_row _ _ regs-law (λ p h. (Atom (codes "regs") ∷ flat_map number p.1.0, refl))

pub mems-row : (v : Known) → ReadsRows (mems_row (version_of v))
mems-row v = row-reads (mems_row (version_of v)) _ _ (mems-law (version_of v) (most-small v)) (λ p h. (Atom (codes "mems") ∷ number p.1.0, refl))

pub code-row : ReadsRows code_row
code-row = row-reads code_row _ _ code-law (λ p h. (Atom (codes "code") ∷ flat_map range_tokens p.1.0, refl))

pub title-row : (ver : Version) → ReadsRows (title_row ver)
title-row ver = row-reads (title_row ver) _ _
    (Reads-pair (word (codes "mcproof")) Always (λ _. Atom (codes "mcproof") ∷ []) (name-law (codes "mcproof")) (λ x h. atom-flat (codes "mcproof")) _ _ _ (mark-law ver.title))
    (λ p h. (Atom (codes "mcproof") ∷ Atom ver.title ∷ [], refl))
