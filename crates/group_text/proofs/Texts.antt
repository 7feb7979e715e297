-- Definitions, groups and texts are read as they are spelled, and the lines before a fault can be completed.
use Rattle.std.proofs.Common.{◌≡◌, ℕ, true, List, [], ◌∷◌, ◌++◌, codes, refl, sym, ap, ◌∙◌, arith, append_assoc, flat_map}
use Rattle.mc_text.specs.Number.{IsNumber, hex}
use Rattle.mc_text.specs.Tokens.{Tok, Atom, Eol}
use Rattle.mc_text.specs.Reading.{pair, one, atom_of, goes_on}
use Rattle.mc_text.specs.inner.Reading.{eol, word}
use Rattle.mc_text.proofs.Atoms.{word-atom}
use Rattle.mc_text.proofs.ReaderLaws.{Reads-pair}
use Rattle.mc_text.proofs.Star.{Shrinks}
use Rattle.mc_text.proofs.Shown.{Always}
use Rattle.mc_text.proofs.Covers.{Covers, row-covers, covers-with, covers-made}
use Rattle.rv_words.specs.declared.range.Range.{Range}
use Rattle.group_text.specs.TermSpelling.{range_tokens}
use Rattle.tailrec_lang.specs.Tree.{BodyTree, DefTree, GroupTree}
use Rattle.tailrec_lang.specs.declared.group.Exit.{Exit}
use Rattle.tailrec_lang.specs.Registers.{AreRegistersFrom}
use Rattle.group_text.specs.declared.version.Version.{Version as Known}
use Rattle.group_text.specs.Version.{Version, version_of}
use Rattle.group_text.proofs.Versions.{most-small, least-most}
use Rattle.group_text.specs.Limits.{nesting_limit, IsBody, IsDef, IsGroupIn, IsName}
use Rattle.group_text.specs.Spelling.{line, number, address, exit_tokens, body_tokens, def_tokens, title_tokens}
use Rattle.group_text.specs.inner.Reading.{Head, def_row, def_at, is_def, name_of, regs_row, mems_row, code_row, head_at, group_of, title_row, body_at}
use Rattle.group_text.proofs.StepLaws.{ends-eol, shrinks, atom-flat, name-law, eol-law, row-law}
use Rattle.group_text.proofs.HeadLaws.{AreExits, def-row-law, group-name-law, regs-law, HasMems, mems-law, IsCode, code-law}
use Rattle.group_text.proofs.BodyLaws.{body-law}

-- ---- definitions

abbrev DefParts : Type 0
DefParts = (Unit {0} × (ℕ × (List Exit × Unit {0}))) × BodyTree

abbrev RowFits : Unit {0} × (ℕ × (List Exit × Unit {0})) → Type 0
RowFits p = Always p.0 × (IsNumber p.1.0 × (AreExits p.1.1.0 × Always p.1.1.1))

abbrev row_tokens : Unit {0} × (ℕ × (List Exit × Unit {0})) → List Tok
row_tokens p = Atom (codes "def") ∷ (address p.1.0 ++ (flat_map exit_tokens p.1.1.0 ++ Eol ∷ []))

row-cover : Covers (pair (word (codes "def")) def_row) RowFits row_tokens
row-cover = row-covers (pair (word (codes "def")) def_row) RowFits row_tokens
    (Reads-pair (word (codes "def")) Always (λ _. Atom (codes "def") ∷ []) (name-law (codes "def")) (λ x h. atom-flat (codes "def")) def_row _ _ def-row-law)
    (λ p h. ends-eol (Atom (hex p.1.0)) (flat_map exit_tokens p.1.1.0)) (tt, (0, ([], tt))) (tt, (omega arith, ((tt, (omega arith, omega arith)), tt)))

abbrev PartsFit : DefParts → Type 0
PartsFit p = RowFits p.0 × IsBody nesting_limit p.1

def-from : (d : DefTree) → IsDef d → (p : DefParts) × (record { entry = p.0.1.0; exits = p.0.1.1.0; body = p.1 } ≡ d) × PartsFit p
def-from d h = (((tt, (d.entry, (d.exits, tt))), d.body), refl, ((tt, (h.entry, ((h.exits, (h.few, h.one_return)), tt))), h.body))

pub def-cover : Covers def_at IsDef def_tokens
unfolding def_at
def-cover = covers-made (λ (x : DefParts). record { entry = x.0.1.0; exits = x.0.1.1.0; body = x.1 }) (pair (pair (word (codes "def")) def_row) (body_at nesting_limit)) _ _
    (covers-with (pair (word (codes "def")) def_row) RowFits row_tokens row-cover (λ _. body_at nesting_limit) (λ _. IsBody nesting_limit) (λ _. body_tokens) (λ _ _. body-law 63))
    IsDef def_tokens (λ p h. record { entry = h.0.1.0; exits = h.0.1.1.0.0; few = h.0.1.1.0.1.0; one_return = h.0.1.1.0.1.1; body = h.1 }) (λ p. refl) def-from

pub def-begins : (d : DefTree) → IsDef d → (us : List Tok) → goes_on is_def (def_tokens d ++ us) ≡ true
def-begins d h us = refl

pub def-shrinks : Shrinks def_at
def-shrinks = shrinks def_at IsDef def_tokens def-cover.takes (λ d h. omega arith)

-- ---- the head of a group

pub record HeadFits (ver : Version) (h : Head) : Type 0 where
  pub name : IsName h.name
  pub registers : AreRegistersFrom 1 h.regs
  pub memories : HasMems ver h.mems
  pub code : IsCode h.code

-- the lines of a head, behind the first word
abbrev pub lines_of_head : Head → List Tok
lines_of_head h = (Atom h.name ∷ Eol ∷ []) ++ (line (codes "regs") (flat_map number h.regs ∷ []) ++ (line (codes "mems") (number h.mems ∷ []) ++ line (codes "code") (flat_map range_tokens h.code ∷ [])))

abbrev pub Regs : Type 0
Regs = Unit {0} × (List ℕ × Unit {0})

abbrev pub Mems : Type 0
Mems = Unit {0} × (ℕ × Unit {0})

abbrev pub CodeRow : Type 0
CodeRow = Unit {0} × (List Range × Unit {0})

abbrev HeadParts : Type 0
HeadParts = (List ℕ × Unit {0}) × (Regs × (Mems × CodeRow))

abbrev NameFits : List ℕ × Unit {0} → Type 0
NameFits p = IsName p.0 × Always p.1

abbrev pub RegsFit : Regs → Type 0
RegsFit p = Always p.0 × (AreRegistersFrom 1 p.1.0 × Always p.1.1)

abbrev pub MemsFit : Version → Mems → Type 0
MemsFit ver p = Always p.0 × (HasMems ver p.1.0 × Always p.1.1)

abbrev pub CodeFits : CodeRow → Type 0
CodeFits p = Always p.0 × (IsCode p.1.0 × Always p.1.1)

abbrev HeadPartsFit : Version → HeadParts → Type 0
HeadPartsFit ver p = NameFits p.0 × (RegsFit p.1.0 × (MemsFit ver p.1.1.0 × CodeFits p.1.1.1))

abbrev name_tokens : List ℕ × Unit {0} → List Tok
name_tokens p = (Atom p.0 ∷ []) ++ Eol ∷ []

abbrev pub regs_tokens : Regs → List Tok
regs_tokens p = line (codes "regs") (flat_map number p.1.0 ∷ [])

abbrev pub mems_tokens : Mems → List Tok
mems_tokens p = line (codes "mems") (number p.1.0 ∷ [])

abbrev pub code_tokens : CodeRow → List Tok
code_tokens p = line (codes "code") (flat_map range_tokens p.1.0 ∷ [])

name-cover : Covers (pair (one (atom_of name_of)) eol) NameFits name_tokens
name-cover = row-covers (pair (one (atom_of name_of)) eol) NameFits name_tokens (row-law (one (atom_of name_of)) IsName (λ a. Atom a ∷ []) group-name-law (λ a h. atom-flat a)) (λ p h. refl)
    (codes "f", tt) ((word-atom (codes "f") refl, omega arith), tt)

pub regs-cover : Covers regs_row RegsFit regs_tokens
regs-cover = row-covers regs_row RegsFit regs_tokens regs-law (λ p h. ends-eol (Atom (codes "regs")) (flat_map number p.1.0)) (tt, ([], tt)) (tt, (tt, tt))

pub mems-cover : (v : Known) → Covers (mems_row (version_of v)) (MemsFit (version_of v)) mems_tokens
mems-cover v = row-covers (mems_row (version_of v)) (MemsFit (version_of v)) mems_tokens (mems-law (version_of v) (most-small v)) (λ p h. refl) (tt, ((version_of v).most_mems, tt)) (tt, ((least-most v, omega arith), tt))

pub code-cover : Covers code_row CodeFits code_tokens
code-cover = row-covers code_row CodeFits code_tokens code-law (λ p h. ends-eol (Atom (codes "code")) (flat_map range_tokens p.1.0)) (tt, ([], tt)) (tt, ((tt, tt), tt))

head-parts : (v : Known) → Covers (pair (pair (one (atom_of name_of)) eol) (pair regs_row (pair (mems_row (version_of v)) code_row))) (HeadPartsFit (version_of v)) (λ p. name_tokens p.0 ++ (regs_tokens p.1.0 ++ (mems_tokens p.1.1.0 ++ code_tokens p.1.1.1)))
head-parts v =
    covers-with (pair (one (atom_of name_of)) eol) NameFits name_tokens name-cover (λ _. pair regs_row (pair (mems_row (version_of v)) code_row)) (λ _ p. RegsFit p.0 × (MemsFit (version_of v) p.1.0 × CodeFits p.1.1)) (λ _ p. regs_tokens p.0 ++ (mems_tokens p.1.0 ++ code_tokens p.1.1)) (λ _ _.
    covers-with regs_row RegsFit regs_tokens regs-cover (λ _. pair (mems_row (version_of v)) code_row) (λ _ p. MemsFit (version_of v) p.0 × CodeFits p.1) (λ _ p. mems_tokens p.0 ++ code_tokens p.1) (λ _ _.
    covers-with (mems_row (version_of v)) (MemsFit (version_of v)) mems_tokens (mems-cover v) (λ _. code_row) (λ _. CodeFits) (λ _. code_tokens) (λ _ _. code-cover)))

abbrev make_head : HeadParts → Head
make_head x = record { name = x.0.0; regs = x.1.0.1.0; mems = x.1.1.0.1.0; code = x.1.1.1.1.0 }

head-into : (ver : Version) (p : HeadParts) → HeadPartsFit ver p → HeadFits ver (make_head p)
head-into ver p h = record { name = h.0.0; registers = h.1.0.1.0; memories = h.1.1.0.1.0; code = h.1.1.1.1.0 }

head-from : (ver : Version) (h : Head) → HeadFits ver h → (p : HeadParts) × (make_head p ≡ h) × HeadPartsFit ver p
head-from ver h f = (((h.name, tt), ((tt, (h.regs, tt)), ((tt, (h.mems, tt)), (tt, (h.code, tt))))), refl, ((f.name, tt), ((tt, (f.registers, tt)), ((tt, (f.memories, tt)), (tt, (f.code, tt))))))

pub head-cover : (v : Known) → Covers (head_at (version_of v)) (HeadFits (version_of v)) lines_of_head
unfolding head_at
head-cover v = covers-made make_head (pair (pair (one (atom_of name_of)) eol) (pair regs_row (pair (mems_row (version_of v)) code_row))) _ _ (head-parts v) (HeadFits (version_of v)) lines_of_head (head-into (version_of v)) (λ p. refl) (head-from (version_of v))

-- the head of a group
abbrev pub head_of : GroupTree → Head
head_of g = record { name = g.name; regs = g.regs; mems = g.mems; code = g.code }

pub head-fits : (ver : Version) (g : GroupTree) → IsGroupIn ver g → HeadFits ver (head_of g)
head-fits ver g h = record { name = h.name; registers = h.registers; memories = h.memories; code = (h.code, h.bytes) }

-- ---- groups

-- a group's tokens behind the first word
abbrev pub group_row : GroupTree → List Tok
group_row g =
    (Atom g.name ∷ Eol ∷ []) ++ (line (codes "regs") (flat_map number g.regs ∷ []) ++ (line (codes "mems") (number g.mems ∷ []) ++ (line (codes "code") (flat_map range_tokens g.code ∷ []) ++ flat_map def_tokens g.defs)))

pub group-split : (h : Head) (ds : List DefTree) → group_row (group_of h ds) ≡ lines_of_head h ++ flat_map def_tokens ds
group-split h ds =
    let name : List Tok = Atom h.name ∷ Eol ∷ [] in
    let regs : List Tok = line (codes "regs") (flat_map number h.regs ∷ []) in
    let mems : List Tok = line (codes "mems") (number h.mems ∷ []) in
    let code : List Tok = line (codes "code") (flat_map range_tokens h.code ∷ []) in
    let defs : List Tok = flat_map def_tokens ds in
    let one : (mems ++ code) ++ defs ≡ mems ++ (code ++ defs) = append_assoc mems code defs in
    let two : (regs ++ (mems ++ code)) ++ defs ≡ regs ++ (mems ++ (code ++ defs)) = append_assoc regs (mems ++ code) defs ∙ ap (λ (v : List Tok). regs ++ v) one in
    sym (append_assoc name (regs ++ (mems ++ code)) defs ∙ ap (λ (v : List Tok). name ++ v) two)

-- ---- the title

pub title-cover : (ver : Version) → Covers (title_row ver) (λ p. Unit {0} × (Unit {0} × Unit {0})) (λ _. title_tokens ver)
title-cover ver = row-covers (title_row ver) _ _
    (Reads-pair (word (codes "mcproof")) Always (λ _. Atom (codes "mcproof") ∷ []) (name-law (codes "mcproof")) (λ x h. atom-flat (codes "mcproof")) (pair (word ver.title) eol) _ _
    (Reads-pair (word ver.title) Always (λ _. Atom ver.title ∷ []) (name-law ver.title) (λ x h. atom-flat ver.title) eol Always (λ _. Eol ∷ []) eol-law))
    (λ p h. refl) (tt, (tt, tt)) (tt, (tt, tt))
