-- Certificates are read as they are spelled, and the lines before a fault can be completed.
use Rattle.std.proofs.Common.{◌≡◌, ℕ, ◌+◌, ◌-◌, ◌^◌, ◌<◌, ◌≤◌, Bool, true, false, List, [], ◌∷◌, ◌++◌, length, codes, Ok, Err, refl, sym, ap, subst, ◌∙◌, arith, append_assoc, flat_map}
use Rattle.std.specs.Prelude.{nat_le}
use Rattle.std.specs.List.{AllByRecursion}
use Rattle.mc_text.specs.Tokens.{Tok, Left, Right, Semi, Atom, Eol, Done, Stuck, IsAtom, is_atom_byte}
use Rattle.std.proofs.lemmas.Bool.Decides.{nat_tests}
use Rattle.std.proofs.lemmas.Slice.Eq.{bytes_eq-Decides}
use Rattle.mc_text.specs.Reading.{Reader, ◌>>=◌, pair, with, made, one, atom_of, many, goes_on}
use Rattle.mc_text.specs.inner.Reading.{eol, word, number_at}
use Rattle.mc_text.proofs.Lines.{AreTokens}
use Rattle.mc_text.proofs.Atoms.{IsAtomText, text-atom, word-atom}
use Rattle.mc_text.proofs.ReaderLaws.{Out, Reads, Reads-pair}
use Rattle.mc_text.proofs.Choices.{reads-made}
use Rattle.mc_text.proofs.Star.{Shrinks}
use Rattle.mc_text.proofs.Shown.{Always, decimal-atom, tokens-append, tokens-each}
use Rattle.mc_text.proofs.Turns.{many-one, many-none, many-stop}
use Rattle.mc_text.proofs.Covers.{Covers, row-covers, covers-with, covers-list, covers-made}
use Rattle.mc_text.proofs.Repeated.{covers-alike, covers-as, covers-bounded}
use Rattle.group_text.specs.TermSpelling.{range_tokens}
use Rattle.tailrec_lang.specs.Tree.{DefTree, GroupTree}
use Rattle.tailrec_lang.specs.Registers.{AreRegistersFrom}
use Rattle.group_text.specs.Limits.{IsDef, IsGroupIn, IsName, def_limit}
use Rattle.group_text.specs.Spelling.{line, number, group_tokens, def_tokens, end_tokens}
use Rattle.group_text.specs.inner.Reading.{Head, def_at, is_def, are_some, own_defs, mark_row, regs_row, mems_row, code_row, name_of}
use Rattle.group_text.specs.declared.version.Version.TheVariants.{One, Four}
use Rattle.group_text.specs.Version.{Version, version_1, version_4}
use Rattle.group_text.proofs.HeadLaws.{HasMems, IsCode, group-name-law, le-true, mems-law, true-le}
use Rattle.group_text.specs.inner.GroupRows.{more_head}
use Rattle.group_text.proofs.StepLaws.{shrinks, atom-flat, name-law, number-law, eol-law, mark-law, row-law}
use Rattle.group_text.proofs.Texts.{def-cover, def-begins, Regs, RegsFit, regs_tokens, regs-cover, Mems, MemsFit, mems_tokens, CodeRow, CodeFits, code_tokens, code-cover}
use Rattle.group_text.proofs.Real.{def-tokens, group-tokens}
use Rattle.group_text.proofs.OwnDefs.{Defs, guard, judge, sent, def-refuses}
use Rattle.fun_laws.specs.declared.step.Rw.{Rw}
use Rattle.fun_laws.specs.Spelling.{CertTree, cert_tokens, digits, place_text, result_tokens, cert_step_tokens, cert_title_tokens}
use Rattle.fun_laws.specs.Limits.{IsCertIn, IsCertStep}
use Rattle.fun_laws.specs.inner.Reading.{Mark, NameRow, Rest, StepRow, behind_head, behind_name, behind_old, behind_title, cert_at, cert_of, defs_to_end, is_step, name_row, place_of, result_at, step_at, step_numbers, step_of, title_row}
use Rattle.fun_laws.proofs.PlaceLaws.{IsPlace, place-law}

-- ---- the rows

abbrev StepFits : Unit {0} × StepRow → Type 0
StepFits p = Always p.0 × ((p.1.0 < 2 ^ 32) × ((p.1.1.0 < 2 ^ 32) × (IsPlace p.1.1.1.0 × ((p.1.1.1.1.0 < 2 ^ 32) × Always p.1.1.1.1.1))))

abbrev row_tokens : Unit {0} × StepRow → List Tok
row_tokens p = (Atom (codes "rw") ∷ []) ++ (number p.1.0 ++ (number p.1.1.0 ++ ((Atom (place_text p.1.1.1.0) ∷ []) ++ (number p.1.1.1.1.0 ++ Eol ∷ []))))

step-row-law : Reads (pair (word (codes "rw")) step_numbers) StepFits row_tokens
step-row-law =
    Reads-pair (word (codes "rw")) Always (λ _. Atom (codes "rw") ∷ []) (name-law (codes "rw")) (λ x h. atom-flat (codes "rw")) _ _ _
    (Reads-pair (number_at (2 ^ 32)) (λ n. n < 2 ^ 32) number (number-law (2 ^ 32) (omega arith)) (λ n h. atom-flat _) _ _ _
    (Reads-pair (number_at (2 ^ 32)) (λ n. n < 2 ^ 32) number (number-law (2 ^ 32) (omega arith)) (λ n h. atom-flat _) _ _ _
    (Reads-pair (one (atom_of place_of)) IsPlace (λ ps. Atom (place_text ps) ∷ []) place-law (λ ps h. atom-flat (place_text ps)) _ _ _
    (Reads-pair (number_at (2 ^ 32)) (λ n. n < 2 ^ 32) number (number-law (2 ^ 32) (omega arith)) (λ n h. atom-flat _) eol Always (λ _. Eol ∷ []) eol-law))))

step-from : (r : Rw) → IsCertStep r → (p : Unit {0} × StepRow) × (step_of p ≡ r) × StepFits p
step-from r h = ((tt, (r.def, (r.term, (r.place, (r.law, tt))))), refl, (tt, (h.def, (h.term, (h.place, (h.law, tt))))))

pub step-law : Reads step_at IsCertStep cert_step_tokens
unfolding step_at
step-law = reads-made step_of (pair (word (codes "rw")) step_numbers) StepFits row_tokens step-row-law IsCertStep cert_step_tokens
    (λ p h. record { def = h.1.0; term = h.1.1.0; place = h.1.1.1.0; law = h.1.1.1.1.0 }) (λ p. refl) step-from

abbrev some_step : Rw
some_step = record { def = 0; term = 0; place = []; law = 0 }

pub step-cover : Covers step_at IsCertStep cert_step_tokens
step-cover = row-covers step_at IsCertStep cert_step_tokens step-law (λ r h. refl) some_step (record { def = omega arith; term = omega arith; place = tt; law = omega arith })

pub step-shrinks : Shrinks step_at
step-shrinks = shrinks step_at IsCertStep cert_step_tokens step-law.takes (λ r h. omega arith)

title-cover : Covers title_row (λ p. Always p.0 × (Always p.1.0 × Always p.1.1)) (λ _. cert_title_tokens)
unfolding title_row
title-cover = row-covers _ _ _
    (Reads-pair (word (codes "mclaws")) Always (λ _. Atom (codes "mclaws") ∷ []) (name-law (codes "mclaws")) (λ x h. atom-flat (codes "mclaws")) (pair (word (codes "1")) eol) _ _
    (Reads-pair (word (codes "1")) Always (λ _. Atom (codes "1") ∷ []) (name-law (codes "1")) (λ x h. atom-flat (codes "1")) eol Always (λ _. Eol ∷ []) eol-law))
    (λ p h. refl) (tt, (tt, tt)) (tt, (tt, tt))

abbrev NameFits : NameRow → Type 0
NameFits p = Always p.0 × (IsName p.1.0 × Always p.1.1)

abbrev name_tokens : NameRow → List Tok
name_tokens p = line (codes "group") ((Atom p.1.0 ∷ []) ∷ [])

name-cover : Covers name_row NameFits name_tokens
unfolding name_row
name-cover = row-covers _ _ _
    (Reads-pair (word (codes "group")) Always (λ _. Atom (codes "group") ∷ []) (name-law (codes "group")) (λ x h. atom-flat (codes "group")) _ _ _
    (row-law (one (atom_of name_of)) IsName (λ a. Atom a ∷ []) group-name-law (λ a h. atom-flat a)))
    (λ p h. refl) (tt, (codes "f", tt)) (tt, ((word-atom (codes "f") refl, omega arith), tt))

mark-cover : (k : List ℕ) → Covers (mark_row k) (λ _. Mark) (λ _. line k [])
mark-cover k = row-covers (mark_row k) _ _ (mark-law k) (λ p h. refl) (tt, tt) (tt, tt)

-- ---- definitions, as many as follow, and what stands behind them

abbrev pub AreDefs : List DefTree → Type 0
AreDefs ds = AllByRecursion IsDef ds × ((1 ≤ length ds) × (length ds ≤ def_limit))

module _ {Y : Type 0} (b : Reader Y) (refuses : (ts : List Tok) → goes_on is_def ts ≡ true → b ts ≡ Err ts) where
  abbrev Split : Type 0
  Split = DefTree × (List DefTree × Y)

  abbrev whole : Split → List DefTree × Y
  whole x = (x.0 ∷ x.1.0, x.1.1)

  abbrev split : Reader (List DefTree × Y)
  split = made whole (pair def_at (pair (many (def_limit - 1) is_def def_at) b))

  abbrev behind : Defs → Out (List DefTree × Y)
  behind q = ◌>>=◌ {A = List DefTree × List Tok} {B = (List DefTree × Y) × List Tok} q (λ p. ◌>>=◌ {A = Y × List Tok} {B = (List DefTree × Y) × List Tok} (b p.1) (λ y. Ok ((p.0, y.0), y.1)))

  abbrev first : DefTree → Defs → Out (List DefTree × Y)
  first d q =
      ◌>>=◌ {A = Split × List Tok} {B = (List DefTree × Y) × List Tok}
      (◌>>=◌ {A = (List DefTree × Y) × List Tok} {B = Split × List Tok} (behind q) (λ y. Ok ((d, y.0), y.1)))
      (λ p. Ok (whole p.0, p.1))

  abbrev longer : DefTree → Defs → Defs
  longer d q = ◌>>=◌ {A = List DefTree × List Tok} {B = List DefTree × List Tok} q (λ xs. Ok (d ∷ xs.0, xs.1))

  last : (d : DefTree) (ds : List DefTree) (vs : List Tok) (q : Out Y) → b vs ≡ q → behind (Ok (d ∷ ds, vs)) ≡ first d (Ok (ds, vs))
  last d ds vs (Ok y) e = rw e refl
  last d ds vs (Err bad) e = rw e refl

  some : (d : DefTree) (ds : List DefTree) → are_some (d ∷ ds) ≡ true
  some d ds = true-le 1 (length (d ∷ ds)) (omega arith)

  none-more : (d : DefTree) (ds : List DefTree) (vs : List Tok) (g : Bool) → goes_on is_def vs ≡ g → behind (judge (guard (Ok (d ∷ ds, vs)))) ≡ first d (Ok (ds, vs))
  none-more d ds vs true e = ap behind (sent (d ∷ ds) vs true true e (some d ds)) ∙ (rw (refuses vs e) refl)
  none-more d ds vs false e = ap behind (sent (d ∷ ds) vs false true e (some d ds)) ∙ last d ds vs (b vs) refl

  more : (d : DefTree) (q : Defs) → behind (judge (guard (longer d q))) ≡ first d q
  more d (Ok p) = none-more d p.0 p.1 (goes_on is_def p.1) refl
  more d (Err bad) = refl

  one-def : (ts : List Tok) (q : Out DefTree) → goes_on is_def ts ≡ true → def_at ts ≡ q → pair own_defs b ts ≡ split ts
  one-def ts (Ok p) g e =
      ap (λ (q : Defs). behind (judge (guard q))) (many-one is_def def_at (def_limit - 1) ts p.0 p.1 g e)
      ∙ more p.0 (many (def_limit - 1) is_def def_at p.1) ∙ rw e refl
  one-def ts (Err bad) g e = ap (λ (q : Defs). behind (judge (guard q))) (many-stop is_def def_at (def_limit - 1) ts bad g e) ∙ rw e refl

  no-def : (ts : List Tok) → goes_on is_def ts ≡ false → pair own_defs b ts ≡ split ts
  no-def ts g =
      ap (λ (q : Defs). behind (judge (guard q))) (many-none is_def def_at def_limit ts g) ∙ ap behind (sent [] ts false false g refl)
      ∙ rw (def-refuses ts g) refl

  by-first : (ts : List Tok) (g : Bool) → goes_on is_def ts ≡ g → pair own_defs b ts ≡ split ts
  by-first ts true g = one-def ts (def_at ts) g refl
  by-first ts false g = no-def ts g

  pub own-split : (ts : List Tok) → pair own_defs b ts ≡ split ts
  own-split ts = by-first ts (goes_on is_def ts) refl

  module _ (G : Y → Type 0) (u : Y → List Tok) (cb : Covers b G u) (quiet : (y : Y) → G y → (us : List Tok) → goes_on is_def (u y ++ us) ≡ false) where
    abbrev SplitFits : Split → Type 0
    SplitFits x = IsDef x.0 × ((AllByRecursion IsDef x.1.0 × (length x.1.0 ≤ def_limit - 1)) × G x.1.1)

    split-from : (p : List DefTree × Y) → AreDefs p.0 × G p.1 → (x : Split) × (whole x ≡ p) × SplitFits x
    split-from ([], y) h = absurd (omega (arith, h.0.1.0))
    split-from (d ∷ ds, y) h = ((d, (ds, y)), refl, (h.0.0.0, ((h.0.0.1, omega (arith, h.0.1.1)), h.1)))

    pub own-cover : Covers (pair own_defs b) (λ p. AreDefs p.0 × G p.1) (λ p. flat_map def_tokens p.0 ++ u p.1)
    own-cover =
        covers-alike (pair own_defs b) split _ _ own-split
        (covers-made whole (pair def_at (pair (many (def_limit - 1) is_def def_at) b)) _ _
        (covers-with def_at IsDef def_tokens def-cover (λ _. pair (many (def_limit - 1) is_def def_at) b) (λ _ p. (AllByRecursion IsDef p.0 × (length p.0 ≤ def_limit - 1)) × G p.1) (λ _ p. flat_map def_tokens p.0 ++ u p.1)
        (λ _ _. covers-bounded is_def def_at IsDef def_tokens def-cover def-begins b G u cb quiet (def_limit - 1)))
        (λ p. AreDefs p.0 × G p.1) (λ p. flat_map def_tokens p.0 ++ u p.1)
        (λ x h. (((h.0, h.1.0.0), (omega arith, omega (arith, h.1.0.1))), h.1.1)) (λ x. append_assoc (def_tokens x.0) (flat_map def_tokens x.1.0) (u x.1.1)) split-from)

-- ---- certificates

as-def : (ts : List Tok) → goes_on is_def ts ≡ true → (us : List Tok) × (ts ≡ Atom (codes "def") ∷ us)
as-def [] g = absurd (cc)
as-def (Atom a ∷ us) g = (us, ap (λ (b : List ℕ). Atom b ∷ us) ((bytes_eq-Decides a (codes "def")).0 g))
as-def (Left ∷ us) g = absurd (cc)
as-def (Right ∷ us) g = absurd (cc)
as-def (Semi ∷ us) g = absurd (cc)
as-def (Eol ∷ us) g = absurd (cc)
as-def (Done ∷ us) g = absurd (cc)
as-def (Stuck ∷ us) g = absurd (cc)

refuses-def : {Y : Type 0} (b : Reader Y) → ((us : List Tok) → b (Atom (codes "def") ∷ us) ≡ Err (Atom (codes "def") ∷ us)) → (ts : List Tok) → goes_on is_def ts ≡ true → b ts ≡ Err ts
refuses-def b h ts g = let k = as-def ts g in subst (λ v. b v ≡ Err v) (sym k.1) (h k.0)

end-refuses : (us : List Tok) → mark_row (codes "end") (Atom (codes "def") ∷ us) ≡ Err (Atom (codes "def") ∷ us)
unfolding one
end-refuses us = refl

rest-refuses : (us : List Tok) → behind_old (Atom (codes "def") ∷ us) ≡ Err (Atom (codes "def") ∷ us)
unfolding one many
rest-refuses us = refl

end-cover : Covers defs_to_end (λ p. AreDefs p.0 × Mark) (λ p. flat_map def_tokens p.0 ++ end_tokens)
end-cover = own-cover (mark_row (codes "end")) (refuses-def (mark_row (codes "end")) end-refuses) (λ _. Mark) (λ _. end_tokens) (mark-cover (codes "end")) (λ y h us. refl)

result-cover : Covers result_at AreDefs (λ ds. result_tokens ++ (flat_map def_tokens ds ++ end_tokens))
result-cover = covers-made (λ (x : Mark × (List DefTree × Mark)). x.1.0) (pair (mark_row (codes "result")) defs_to_end) _ _
    (covers-with (mark_row (codes "result")) (λ _. Mark) (λ _. result_tokens) (mark-cover (codes "result")) (λ _. defs_to_end) (λ _ p. AreDefs p.0 × Mark) (λ _ p. flat_map def_tokens p.0 ++ end_tokens) (λ _ _. end-cover))
    AreDefs (λ ds. result_tokens ++ (flat_map def_tokens ds ++ end_tokens)) (λ x h. h.1.0) (λ x. refl) (λ ds h. (((tt, tt), (ds, (tt, tt))), refl, ((tt, tt), (h, (tt, tt)))))

abbrev RestFits : Rest → Type 0
RestFits p = AllByRecursion IsCertStep p.0 × AreDefs p.1

abbrev rest_tokens : Rest → List Tok
rest_tokens p = flat_map cert_step_tokens p.0 ++ (result_tokens ++ (flat_map def_tokens p.1 ++ end_tokens))

rest-cover : Covers behind_old RestFits rest_tokens
rest-cover = covers-list is_step step_at step-shrinks IsCertStep cert_step_tokens step-cover (λ r h us. refl) result_at AreDefs (λ ds. result_tokens ++ (flat_map def_tokens ds ++ end_tokens)) result-cover (λ ds h us. refl)

rest-quiet : (p : Rest) → RestFits p → (us : List Tok) → goes_on is_def (rest_tokens p ++ us) ≡ false
rest-quiet ([], ds) h us = refl
rest-quiet (r ∷ rs, ds) h us = refl

behind-cover : Covers behind_head (λ p. AreDefs p.0 × RestFits p.1) (λ p. flat_map def_tokens p.0 ++ rest_tokens p.1)
behind-cover = own-cover behind_old (refuses-def behind_old rest-refuses) RestFits rest_tokens rest-cover rest-quiet

-- versions of which there are readers
pub record IsReadable (v : Version) : Type 0 where
  pub some : v.least_mems ≤ v.most_mems
  pub few : v.most_mems ≤ 2

mems-cover-in : (v : Version) → IsReadable v → Covers (mems_row v) (MemsFit v) mems_tokens
mems-cover-in v h = row-covers (mems_row v) (MemsFit v) mems_tokens (mems-law v (omega (arith, h.few))) (λ p k. refl) (tt, (v.most_mems, tt)) (tt, ((h.some, omega arith), tt))

-- the head of the group, behind its name
abbrev HeadRows : Type 0
HeadRows = Regs × (Mems × CodeRow)

abbrev make_head : List ℕ → HeadRows → Head
make_head name x = record { name = name; regs = x.0.1.0; mems = x.1.0.1.0; code = x.1.1.1.0 }

abbrev RowsFit : Version → Head → Type 0
RowsFit v h = AreRegistersFrom 1 h.regs × (HasMems v h.mems × IsCode h.code)

abbrev head_tokens : Head → List Tok
head_tokens h = line (codes "regs") (flat_map number h.regs ∷ []) ++ (line (codes "mems") (number h.mems ∷ []) ++ line (codes "code") (flat_map range_tokens h.code ∷ []))

head-from : (v : Version) (name : List ℕ) (h : Head) → (h.name ≡ name) × RowsFit v h → (p : HeadRows) × (make_head name p ≡ h) × (RegsFit p.0 × (MemsFit v p.1.0 × CodeFits p.1.1))
head-from v name h f = (
  ((tt, (h.regs, tt)), ((tt, (h.mems, tt)), (tt, (h.code, tt)))),
  (λ i. record { name = sym f.0 i; regs = h.regs; mems = h.mems; code = h.code }),
  ((tt, (f.1.0, tt)), ((tt, (f.1.1.0, tt)), (tt, (f.1.1.1, tt)))),
)

head-cover : (v : Version) (h : IsReadable v) (name : List ℕ) → Covers (more_head v name) (λ h. (h.name ≡ name) × RowsFit v h) head_tokens
head-cover v h name =
    covers-made (make_head name) (pair regs_row (pair (mems_row v) code_row)) _ _
    (covers-with regs_row RegsFit regs_tokens regs-cover (λ _. pair (mems_row v) code_row) (λ _ p. MemsFit v p.0 × CodeFits p.1) (λ _ p. mems_tokens p.0 ++ code_tokens p.1) (λ _ _.
    covers-with (mems_row v) (MemsFit v) mems_tokens (mems-cover-in v h) (λ _. code_row) (λ _. CodeFits) (λ _. code_tokens) (λ _ _. code-cover)))
    (λ h. (h.name ≡ name) × RowsFit v h) head_tokens (λ p f. (refl, (f.0.1.0, (f.1.0.1.0, f.1.1.1.0)))) (λ p. refl) (head-from v name)

abbrev Parts : Type 0
Parts = Head × (List DefTree × Rest)

abbrev PartsFit : Version → List ℕ → Parts → Type 0
PartsFit v name x = ((x.0.name ≡ name) × RowsFit v x.0) × (AreDefs x.1.0 × RestFits x.1.1)

abbrev parts_tokens : Parts → List Tok
parts_tokens x = head_tokens x.0 ++ (flat_map def_tokens x.1.0 ++ rest_tokens x.1.1)

parts-cover : (v : Version) (h : IsReadable v) (name : List ℕ) → Covers (pair (more_head v name) behind_head) (PartsFit v name) parts_tokens
parts-cover v h name =
    covers-with (more_head v name) (λ h. (h.name ≡ name) × RowsFit v h) head_tokens (head-cover v h name) (λ _. behind_head) (λ _ p. AreDefs p.0 × RestFits p.1) (λ _ p. flat_map def_tokens p.0 ++ rest_tokens p.1) (λ _ _. behind-cover)

-- what stands behind the row of the name
abbrev IsNamed : Version → List ℕ → CertTree → Type 0
IsNamed v name c = ((c.old.name ≡ name) × (AreRegistersFrom 1 c.old.regs × (HasMems v c.old.mems × IsCode c.old.code))) × (AreDefs c.old.defs × (AllByRecursion IsCertStep c.steps × AreDefs c.result))

abbrev named_tokens : CertTree → List Tok
named_tokens c = head_tokens (record { name = c.old.name; regs = c.old.regs; mems = c.old.mems; code = c.old.code }) ++ (flat_map def_tokens c.old.defs ++ rest_tokens (c.steps, c.result))

named-from : (v : Version) (name : List ℕ) (c : CertTree) → IsNamed v name c → (x : Parts) × (cert_of x ≡ c) × PartsFit v name x
named-from v name c h = ((record { name = c.old.name; regs = c.old.regs; mems = c.old.mems; code = c.old.code }, (c.old.defs, (c.steps, c.result))), refl, h)

named-cover : (v : Version) (h : IsReadable v) (n : NameRow) → Covers (behind_name v n) (IsNamed v n.1.0) named_tokens
named-cover v h n =
    covers-made cert_of (pair (more_head v n.1.0) behind_head) (PartsFit v n.1.0) parts_tokens (parts-cover v h n.1.0) (IsNamed v n.1.0) named_tokens (λ x h. h) (λ x. refl) (named-from v n.1.0)

-- what stands behind the title
abbrev old_tokens : CertTree → List Tok
old_tokens c = group_tokens c.old ++ rest_tokens (c.steps, c.result)

old-same : (v : Version) (p : NameRow × CertTree) → NameFits p.0 × IsNamed v p.0.1.0 p.1 → old_tokens p.1 ≡ name_tokens p.0 ++ named_tokens p.1
old-same v (n, c) h =
    let name : List Tok = line (codes "group") ((Atom c.old.name ∷ []) ∷ []) in
    let regs : List Tok = line (codes "regs") (flat_map number c.old.regs ∷ []) in
    let mems : List Tok = line (codes "mems") (number c.old.mems ∷ []) in
    let code : List Tok = line (codes "code") (flat_map range_tokens c.old.code ∷ []) in
    let defs : List Tok = flat_map def_tokens c.old.defs in
    let rest : List Tok = rest_tokens (c.steps, c.result) in
    let one : (mems ++ (code ++ defs)) ++ rest ≡ mems ++ (code ++ (defs ++ rest)) = append_assoc mems (code ++ defs) rest ∙ ap (λ (v : List Tok). mems ++ v) (append_assoc code defs rest) in
    let two : (regs ++ (mems ++ (code ++ defs))) ++ rest ≡ regs ++ (mems ++ (code ++ (defs ++ rest))) = append_assoc regs (mems ++ (code ++ defs)) rest ∙ ap (λ (v : List Tok). regs ++ v) one in
    let three : (regs ++ (mems ++ code)) ++ (defs ++ rest) ≡ regs ++ (mems ++ (code ++ (defs ++ rest))) =
    append_assoc regs (mems ++ code) (defs ++ rest) ∙ ap (λ (v : List Tok). regs ++ v) (append_assoc mems code (defs ++ rest)) in
    append_assoc name (regs ++ (mems ++ (code ++ defs))) rest
    ∙ ap (λ (v : List Tok). name ++ v) (two ∙ sym three)
    ∙ ap (λ (a : List ℕ). line (codes "group") ((Atom a ∷ []) ∷ []) ++ ((regs ++ (mems ++ code)) ++ (defs ++ rest))) h.1.0.0

old-up : (v : Version) (p : NameRow × CertTree) → NameFits p.0 × IsNamed v p.0.1.0 p.1 → IsCertIn v p.1
old-up v (n, c) h = record {
  old = record {
    name = subst IsName (sym h.1.0.0) h.0.1.0;
    registers = h.1.0.1.0;
    memories = h.1.0.1.1.0;
    code = h.1.0.1.1.1.0;
    bytes = h.1.0.1.1.1.1;
    defs = h.1.1.0.0;
    some = h.1.1.0.1.0;
    few = h.1.1.0.1.1;
  };
  steps = h.1.1.1.0;
  result = h.1.1.1.1.0;
  some = h.1.1.1.1.1.0;
  few = h.1.1.1.1.1.1;
}

old-from : (v : Version) (c : CertTree) → IsCertIn v c → (p : NameRow × CertTree) × (p.1 ≡ c) × (NameFits p.0 × IsNamed v p.0.1.0 p.1)
old-from v c h = (
  ((tt, (c.old.name, tt)), c),
  refl,
  (
    (tt, (h.old.name, tt)),
    ((refl, (h.old.registers, (h.old.memories, (h.old.code, h.old.bytes)))), ((h.old.defs, (h.old.some, h.old.few)), (h.steps, (h.result, (h.some, h.few))))),
  ),
)

old-cover : (v : Version) (h : IsReadable v) → Covers (behind_title v) (IsCertIn v) old_tokens
old-cover v h =
    covers-made (λ (p : NameRow × CertTree). p.1) (with name_row (behind_name v)) (λ p. NameFits p.0 × IsNamed v p.0.1.0 p.1) (λ p. old_tokens p.1)
    (covers-as (with name_row (behind_name v)) (λ p. NameFits p.0 × IsNamed v p.0.1.0 p.1) (λ p. NameFits p.0 × IsNamed v p.0.1.0 p.1) (λ p. name_tokens p.0 ++ named_tokens p.1) (λ p. old_tokens p.1)
    (covers-with name_row NameFits name_tokens name-cover (behind_name v) (λ n. IsNamed v n.1.0) (λ _. named_tokens) (λ n fits. named-cover v h n)) (λ p h. h) (λ p h. h) (old-same v))
    (IsCertIn v) old_tokens (old-up v) (λ p. refl) (old-from v)

abbrev Title : Type 0
Title = Unit {0} × (Unit {0} × Unit {0})

pub cert-law : (v : Version) (h : IsReadable v) → Covers (cert_at v) (IsCertIn v) cert_tokens
cert-law v h = covers-made (λ (x : Title × CertTree). x.1) (pair title_row (behind_title v)) _ _
    (covers-with title_row (λ p. Always p.0 × (Always p.1.0 × Always p.1.1)) (λ _. cert_title_tokens) title-cover (λ _. behind_title v) (λ _. IsCertIn v) (λ _. old_tokens) (λ _ _. old-cover v h))
    (IsCertIn v) cert_tokens (λ x h. h.1) (λ x. refl) (λ c h. (((tt, (tt, tt)), c), refl, ((tt, (tt, tt)), h)))

-- ---- what is written of certificates are tokens of a text

pub false-le : (m n : ℕ) → nat_le m n ≡ false → n < m
false-le m n h = grind (arith, nat_tests)

-- a group with as many memories as another version takes
pub with-memories : (v w : Version) (g : GroupTree) → IsGroupIn v g → (w.least_mems ≤ g.mems) × (g.mems ≤ w.most_mems) → IsGroupIn w g
with-memories v w g h fits = record { name = h.name; registers = h.registers; memories = fits; code = h.code; bytes = h.bytes; defs = h.defs; some = h.some; few = h.few }

old-tokens : (v : Version) → IsReadable v → (g : GroupTree) → IsGroupIn v g → AreTokens (group_tokens g)
old-tokens v r g h = by (nat_le g.mems 1) refl
  where
    by : (b : Bool) → nat_le g.mems 1 ≡ b → AreTokens (group_tokens g)
    by true e = group-tokens One g (with-memories v version_1 g h (omega arith, le-true g.mems 1 e))
    by false e = group-tokens Four g (with-memories v version_4 g h (omega (arith, false-le g.mems 1 e), omega (arith, h.memories.1, r.few)))

digit-atom : (k : ℕ) → k < 10 → is_atom_byte (48 + k) ≡ true
digit-atom k h = grind (arith, nat_tests)

digits-atom : (ks : List ℕ) → IsPlace ks → IsAtomText (digits ks)
digits-atom [] h = tt
digits-atom (k ∷ ks) h = (digit-atom k h.0, digits-atom ks h.1)

place-atom : (ks : List ℕ) → IsPlace ks → IsAtom (place_text ks)
place-atom [] h = word-atom (codes "-") refl
place-atom (k ∷ ks) h = text-atom (digits (k ∷ ks)) (λ n. absurd cc) (digits-atom (k ∷ ks) h)

small : (n : ℕ) → n < 2 ^ 32 → n < 2 ^ 64
small n h = omega (arith, h)

step-tokens : (r : Rw) → IsCertStep r → AreTokens (cert_step_tokens r)
step-tokens r h =
    (word-atom (codes "rw") refl, (decimal-atom r.def (small r.def h.def), (decimal-atom r.term (small r.term h.term), (place-atom r.place h.place, (decimal-atom r.law (small r.law h.law), (tt, tt))))))

pub cert-is-tokens : (v : Version) → IsReadable v → (c : CertTree) → IsCertIn v c → AreTokens (cert_tokens c)
cert-is-tokens v r c h =
    let end : AreTokens (flat_map def_tokens c.result ++ end_tokens) = tokens-append (flat_map def_tokens c.result) end_tokens (tokens-each def_tokens IsDef def-tokens c.result h.result) (word-atom (codes "end") refl, (tt, tt)) in
    let result : AreTokens (result_tokens ++ (flat_map def_tokens c.result ++ end_tokens)) = (word-atom (codes "result") refl, (tt, end)) in
    let steps : AreTokens (flat_map cert_step_tokens c.steps ++ (result_tokens ++ (flat_map def_tokens c.result ++ end_tokens))) =
    tokens-append (flat_map cert_step_tokens c.steps) (result_tokens ++ (flat_map def_tokens c.result ++ end_tokens)) (tokens-each cert_step_tokens IsCertStep step-tokens c.steps h.steps) result in
    (word-atom (codes "mclaws") refl, (word-atom (codes "1") refl, (tt, tokens-append (group_tokens c.old) (flat_map cert_step_tokens c.steps ++ (result_tokens ++ (flat_map def_tokens c.result ++ end_tokens))) (old-tokens v r c.old h.old) steps)))
