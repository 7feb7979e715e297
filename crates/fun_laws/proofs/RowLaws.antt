-- Each row of a certificate has the law of rows.
use Rattle.std.proofs.Common.{[], ◌∷◌, ◌++◌, codes, refl}
use Rattle.mc_text.specs.Tokens.{Atom}
use Rattle.mc_text.specs.Reading.{one, atom_of}
use Rattle.mc_text.specs.inner.Reading.{word}
use Rattle.mc_text.proofs.ReaderLaws.{Reads-pair}
use Rattle.mc_text.proofs.Shown.{Always}
use Rattle.group_text.specs.Limits.{IsName}
use Rattle.group_text.specs.Spelling.{number}
use Rattle.group_text.specs.inner.Reading.{name_of}
use Rattle.group_text.specs.inner.RowReader.{ReadsRows}
use Rattle.group_text.proofs.StepLaws.{atom-flat, name-law, mark-law, row-law}
use Rattle.group_text.proofs.HeadLaws.{group-name-law}
use Rattle.group_text.proofs.RowReaders.{row-reads}
use Rattle.fun_laws.specs.Limits.{IsCertStep}
use Rattle.fun_laws.specs.Spelling.{place_text, cert_step_tokens}
use Rattle.fun_laws.specs.inner.Reading.{name_row, step_at, title_row}
use Rattle.fun_laws.proofs.CertLaws.{step-law}

pub step-row : ReadsRows step_at
step-row = row-reads step_at IsCertStep cert_step_tokens step-law (λ r h. (Atom (codes "rw") ∷ (number r.def ++ (number r.term ++ (Atom (place_text r.place) ∷ number r.law))), refl))

pub title-row : ReadsRows title_row
unfolding title_row
title-row = row-reads _ _ _
    (Reads-pair (word (codes "mclaws")) Always (λ _. Atom (codes "mclaws") ∷ []) (name-law (codes "mclaws")) (λ x h. atom-flat (codes "mclaws")) _ _ _ (mark-law (codes "1")))
    (λ p h. (Atom (codes "mclaws") ∷ Atom (codes "1") ∷ [], refl))

pub name-row : ReadsRows name_row
unfolding name_row
name-row = row-reads _ _ _
    (Reads-pair (word (codes "group")) Always (λ _. Atom (codes "group") ∷ []) (name-law (codes "group")) (λ x h. atom-flat (codes "group")) _ _ _
    (row-law (one (atom_of name_of)) IsName (λ a. Atom a ∷ []) group-name-law (λ a h. atom-flat a)))
    (λ p h. (Atom (codes "group") ∷ Atom p.1.0 ∷ [], refl))
