-- The search keeps what it keeps, and what it ends with is settled.
use Rattle.std.proofs.Common.{◌≡◌, ℕ, zero, suc, ◌<◌, ◌≤◌, ◌≢◌, ◌⊎◌, inl, inr, Bool, true, List, [], ◌∷◌, ◌++◌, Option, Some, None, length, get_or, take, drop, replicate, refl, sym, ap, ◌∙◌, subst, arith}
use Rattle.std.specs.List.{All, Contains}
use Rattle.std.specs.Prelude.{slice_get}
use Rattle.std.proofs.Math.ListN.{set, get_or-eq_default, length-set}
use Rattle.std.proofs.Math.Seq.{take-append_seam}
use Rattle.std.proofs.lemmas.Bool.{cases_eq}
use Rattle.std.proofs.lemmas.Option.{slice_get-get_or}
use Rattle.std.proofs.lemmas.List.{get_or-replicate, length-replicate}
use Rattle.std.proofs.lemmas.List.Elements.{Contains-append_left, Contains-push, Contains-push_cases}
use Rattle.std.proofs.lemmas.Bool.Decides.{leb_tells}
use Rattle.rv_decode.specs.declared.instruction.Instr.{Instr}
use Rattle.flow_graph.specs.Graph.{GraphOf, HasEdge, IsFlow}
use Rattle.stack_offsets.specs.declared.row.Row.{Row}
use Rattle.stack_offsets.specs.Offsets.{Offsets, entry_offsets, offsets_after, IsFollowed, AtEntry, Behind, HasOffset}
use Rattle.stack_offsets.specs.inner.Rows.{Lowers, lowered, offsets_of, row_of}
use Rattle.stack_offsets.specs.inner.Settling.{AreComplete, AreSettled, HasUnder, IsClosed, IsUnder, LeadsTo, NamesAll, Settling}
use Rattle.stack_offsets.proofs.RowLemmas.{both_some, some_both, row_same, row_other}
use Rattle.stack_offsets.proofs.OffsetLemmas.{after_under, complete_after, some_one, some_walk}

none_some : {A : Type 0} (a : A) → None ≡ Some a → ⊥
none_some a e = cc

-- ---- lists

-- a table that was lent as a slice, and comes back
pub whole : (n : ℕ) (rows rows' : List (Option Row)) → length rows' ≡ length rows → n ≡ length rows → take n (rows' ++ drop (length rows') rows) ≡ rows'
whole n rows rows' same many = (λ i. take ((many ∙ sym same) i) (rows' ++ drop (length rows') rows)) ∙ take-append_seam rows' (drop (length rows') rows)

pub one_within : (x n : ℕ) → x < n → All (λ u. u < n) (x ∷ [])
one_within x n l zero d h = l
one_within x n l (suc k) d h = absurd (omega arith)

-- a row that is found in the table is that of the node
pub indexed : (rows : List (Option Row)) (u : ℕ) (x y : Option Row) → u < length rows → x ≡ get_or rows u x → x ≡ y → row_of rows u ≡ y
indexed rows u x y l at is = some_one (row_of rows u) (get_or rows u x) (sym (slice_get-get_or rows u None l) ∙ slice_get-get_or rows u x l) ∙ sym at ∙ is

-- ---- at the start

abbrev none_yet : Option Row
none_yet = None

no_row : (n k : ℕ) → row_of (replicate n none_yet) k ≡ None
no_row n k = elim (leb_tells n k) [
  | inl t ↦ get_or-eq_default (replicate n none_yet) None {n = k} (let l = length-replicate n none_yet in omega (arith, t.1))
  | inr t ↦ get_or-replicate n k none_yet None t.1
]

pub settling_start : (g : GraphOf) (row : Row) (n : ℕ) → n ≡ length g.addrs → g.entry < n → ((r : ℕ) → offsets_of row r ≡ entry_offsets r) → Settling g (set (replicate n none_yet) g.entry (Some row)) (Contains (g.entry ∷ []))
settling_start g row n many lt is =
    let within : g.entry < length (replicate n none_yet) = omega (arith, length-replicate n none_yet) in
    let here = row_same (replicate n none_yet) g.entry (Some row) within in
    record {
      as_long = length-set (replicate n none_yet) g.entry (Some row) ∙ length-replicate n none_yet ∙ many;
      entry = record { row = row; is = here; under = λ r c h. sym (is r) ∙ h };
      complete = λ names k other at. elim (cases_eq k g.entry) [
        | inl q ↦
            let same : row ≡ other = some_one row other (sym here ∙ ap (λ z. row_of (set (replicate n none_yet) g.entry (Some row)) z) (sym q) ∙ at) in
            subst (λ (z : Row). AreComplete g k (offsets_of z)) same (λ r c low has. is r ∙ has_entry k q r c has)
        | inr d ↦ absurd (none_some other (sym (row_other (replicate n none_yet) g.entry k (Some row) d ∙ no_row n k) ∙ at))
      ];
      closed = λ k other at. elim (cases_eq k g.entry) [
        | inl q ↦ inl (0, omega arith, sym q)
        | inr d ↦ absurd (none_some other (sym (row_other (replicate n none_yet) g.entry k (Some row) d ∙ no_row n k) ∙ at))
      ];
    }
  where
    has_entry : (k : ℕ) → k ≡ g.entry → (r c : ℕ) → HasOffset (LeadsTo g) g.entry k r c → entry_offsets r ≡ Some c
    has_entry k q r c has = has entry_offsets (subst (λ (z : ℕ). IsFollowed (LeadsTo g) g.entry z entry_offsets) (sym q) AtEntry)

-- ---- a row is lowered

lowered_from : (old : Option Row) (from : Offsets) (r c : ℕ) → lowered old from r ≡ Some c → from r ≡ Some c
lowered_from None from r c h = h
lowered_from (Some row) from r c h = (both_some (offsets_of row r) (from r) c h).1

-- the row is under what it was lowered by
pub lowered_under : (rows rows' : List (Option Row)) (v : ℕ) (from : Offsets) (fell : Bool) → Lowers rows v from rows' fell → HasUnder rows' v from
lowered_under rows rows' v from fell l = record { row = l.row; is = l.here; under = λ r c h. lowered_from (row_of rows v) from r c (sym (l.is r) ∙ h) }

-- what was under offsets stays so
pub still_under : (rows rows' : List (Option Row)) (v : ℕ) (from : Offsets) (fell : Bool) → Lowers rows v from rows' fell → (x : ℕ) (o : Offsets) → HasUnder rows x o → HasUnder rows' x o
still_under rows rows' v from fell l x o h = elim (cases_eq x v) [
  | inl q ↦ record {
    row = l.row;
    is = ap (row_of rows') q ∙ l.here;
    under = λ r c k.
        let old : row_of rows v ≡ Some h.row = sym (ap (row_of rows) q) ∙ h.is in
        h.under r c (both_some (offsets_of h.row r) (from r) c ((λ i. lowered (sym old i) from r) ∙ sym (l.is r) ∙ k)).0;
  }
  | inr d ↦ record { row = h.row; is = l.others x d ∙ h.is; under = h.under }
]

pub lowered_complete : (g : GraphOf) (rows rows' : List (Option Row)) (v : ℕ) (from : Offsets) (fell : Bool) → Lowers rows v from rows' fell → AreComplete g v from
    → ((n : ℕ) (row : Row) → row_of rows n ≡ Some row → AreComplete g n (offsets_of row)) → (n : ℕ) (row : Row) → row_of rows' n ≡ Some row → AreComplete g n (offsets_of row)
lowered_complete g rows rows' v from fell l complete before n row at = elim (cases_eq n v) [
  | inr d ↦ before n row (sym (l.others n d) ∙ at)
  | inl q ↦
      let same : l.row ≡ row = some_one l.row row (sym l.here ∙ ap (row_of rows') (sym q) ∙ at) in
      subst (λ (z : Row). AreComplete g n (offsets_of z)) same
      (subst (λ (z : ℕ). AreComplete g z (offsets_of l.row)) (sym q) (λ r c low has. l.is r ∙ both (row_of rows v) refl r c (complete r c low has) low has))
]
  where
    both : (old : Option Row) → row_of rows v ≡ old → (r c : ℕ) → from r ≡ Some c → r < 32 → HasOffset (LeadsTo g) g.entry v r c → lowered old from r ≡ Some c
    both None e r c h low has = h
    both (Some old) e r c h low has = some_both (offsets_of old r) (from r) c (before v old e r c low has) h

-- the search goes on where the node that was lowered is open
pub settling_lowered : (g : GraphOf) (rows rows' : List (Option Row)) (v : ℕ) (from : Offsets) (fell : Bool) (before after : ℕ → Type 0) → Lowers rows v from rows' fell → (NamesAll g → AreComplete g v from)
    → ((w : ℕ) → w ≢ v → before w → after w) → after v → Settling g rows before → Settling g rows' after
settling_lowered g rows rows' v from fell before after l complete others here s = record {
  as_long = l.as_long ∙ s.as_long;
  entry = still_under rows rows' v from fell l g.entry entry_offsets s.entry;
  complete = λ names. lowered_complete g rows rows' v from fell l (complete names) (s.complete names);
  closed = λ u row at. elim (cases_eq u v) [
    | inl q ↦ inl (subst after (sym q) here)
    | inr d ↦ elim (s.closed u row (sym (l.others u d) ∙ at)) [
      | inl b ↦ inl (others u d b)
      | inr k ↦ inr (λ w i leads. still_under rows rows' v from fell l w (offsets_after i (offsets_of row)) (k w i leads))
    ]
  ];
}

-- .. and where nothing changed
pub settling_weaken : (g : GraphOf) (rows : List (Option Row)) (before after : ℕ → Type 0) → ((w : ℕ) (row : Row) → row_of rows w ≡ Some row → before w → after w ⊎ IsClosed g rows w (offsets_of row)) → Settling g rows before → Settling g rows after
settling_weaken g rows before after weaken s = record {
  as_long = s.as_long;
  entry = s.entry;
  complete = s.complete;
  closed = λ u row at. elim (s.closed u row at) [ inl b ↦ weaken u row at b | inr k ↦ inr k ];
}

-- ---- a node is followed

-- what is open while u is followed: the list, and u as long as its row is the one that it is followed by
abbrev pub OpenBeside : List (Option Row) → List ℕ → ℕ → Row → ℕ → Type 0
OpenBeside rows open_nodes u row w = Contains open_nodes w ⊎ ((w ≡ u) × (row_of rows w ≡ Some row))

pub settling_popped : (g : GraphOf) (rows : List (Option Row)) (open_nodes : List ℕ) (u : ℕ) (row : Row) → row_of rows u ≡ Some row → Settling g rows (Contains (open_nodes ++ u ∷ [])) → Settling g rows (OpenBeside rows open_nodes u row)
settling_popped g rows open_nodes u row is = settling_weaken g rows (Contains (open_nodes ++ u ∷ [])) (OpenBeside rows open_nodes u row) (λ w other at c. elim (Contains-push_cases open_nodes u w c) [
  | inl b ↦ inl (inl b)
  | inr q ↦ inl (inr (sym q, ap (row_of rows) (sym q) ∙ is))
])

pub settling_passed : (g : GraphOf) (rows : List (Option Row)) (open_nodes : List ℕ) (u : ℕ) → row_of rows u ≡ None → Settling g rows (Contains (open_nodes ++ u ∷ [])) → Settling g rows (Contains open_nodes)
settling_passed g rows open_nodes u none = settling_weaken g rows (Contains (open_nodes ++ u ∷ [])) (Contains open_nodes) (λ w other at c. elim (Contains-push_cases open_nodes u w c) [
  | inl b ↦ inl b
  | inr q ↦ absurd (none_some other (sym none ∙ ap (row_of rows) q ∙ at))
])

-- the nodes to which edges lead from u are lowered by the offsets `from`, which u's instruction makes of its row
pub record Following (g : GraphOf) (rows : List (Option Row)) (open_nodes : List ℕ) (u : ℕ) (from : Offsets) : Type 0 where
  pub row : Row
  pub instruction : Instr
  pub is : slice_get g.instrs u ≡ Some instruction
  pub under : IsUnder from (offsets_after instruction (offsets_of row))
  pub complete : NamesAll g → (v : ℕ) → HasEdge g u v → AreComplete g v from
  pub settling : Settling g rows (OpenBeside rows open_nodes u row)

-- the row that an instruction makes of a row, as far as it is one
pub under_after : (i : Instr) (o p : Offsets) → ((r : ℕ) → r < 32 → p r ≡ offsets_after i o r) → ((r : ℕ) → 32 ≤ r → p r ≡ None) → IsUnder p (offsets_after i o)
under_after i o p within beyond r c h = elim (leb_tells 32 r) [
  | inl t ↦ absurd (none_some c (sym (beyond r t.1) ∙ h))
  | inr t ↦ sym (within r t.1) ∙ h
]

pub following_start : (g : GraphOf) (rows : List (Option Row)) (open_nodes : List ℕ) (u : ℕ) (row : Row) (i : Instr) (from : Offsets) → IsFlow g → u < length g.addrs → row_of rows u ≡ Some row → slice_get g.instrs u ≡ Some i
    → ((r : ℕ) → r < 32 → from r ≡ offsets_after i (offsets_of row) r) → ((r : ℕ) → 32 ≤ r → from r ≡ None) → Settling g rows (Contains (open_nodes ++ u ∷ [])) → Following g rows open_nodes u from
following_start g rows open_nodes u row i from flow l is at within beyond s = record {
  row = row;
  instruction = i;
  is = at;
  under = under_after i (offsets_of row) from within beyond;
  complete = λ names v d r c low has. (let w = some_walk g flow u l in within r low ∙ complete_after g names u v i (offsets_of row) w.0 w.1 (at, d) (s.complete names u row is) r c low has);
  settling = settling_popped g rows open_nodes u row is s;
}

pub following_fell : (g : GraphOf) (rows rows' : List (Option Row)) (open_nodes : List ℕ) (u v : ℕ) (from : Offsets) → HasEdge g u v → Lowers rows v from rows' true → Following g rows open_nodes u from → Following g rows' (open_nodes ++ v ∷ []) u from
following_fell g rows rows' open_nodes u v from d l f = record {
  row = f.row;
  instruction = f.instruction;
  is = f.is;
  under = f.under;
  complete = f.complete;
  settling = settling_lowered g rows rows' v from true (OpenBeside rows open_nodes u f.row) (OpenBeside rows' (open_nodes ++ v ∷ []) u f.row) l (λ names. f.complete names v d)
      (λ w n b. elim b [ inl c ↦ inl (Contains-append_left open_nodes (v ∷ []) w c) | inr h ↦ inr (h.0, l.others w n ∙ h.1) ])
      (inl (Contains-push open_nodes v)) f.settling;
}

pub following_end : (g : GraphOf) (rows : List (Option Row)) (open_nodes : List ℕ) (u : ℕ) (from : Offsets) → ((v : ℕ) → HasEdge g u v → HasUnder rows v from) → Following g rows open_nodes u from → Settling g rows (Contains open_nodes)
following_end g rows open_nodes u from each f = settling_weaken g rows (OpenBeside rows open_nodes u f.row) (Contains open_nodes) (λ w other at b. elim b [
  | inl c ↦ inl c
  | inr h ↦ inr (λ v j leads.
      let same_row : f.row ≡ other = some_one f.row other (sym h.1 ∙ at) in
      let same_instr : f.instruction ≡ j = some_one f.instruction j (sym f.is ∙ ap (slice_get g.instrs) (sym h.0) ∙ leads.0) in
      let has = each v (subst (λ (z : ℕ). HasEdge g z v) h.0 leads.1) in
      record {
        row = has.row;
        is = has.is;
        under = λ r c k. (λ z. offsets_after (sym same_instr z) (offsets_of (sym same_row z)) r) ∙ f.under r c (has.under r c k);
      })
]) f.settling

-- ---- at the end

-- a walk ends at a node whose row is under what it gives
walk_under : (g : GraphOf) (rows : List (Option Row)) → Settling g rows (Contains []) → (n : ℕ) (o : Offsets) → IsFollowed (LeadsTo g) g.entry n o → HasUnder rows n o
walk_under g rows s n o AtEntry = s.entry
walk_under g rows s b o (Behind a b' i o' f l) =
    let h = walk_under g rows s a o' f in
    elim (s.closed a h.row h.is) [
      | inl c ↦ absurd (omega (arith, c.1))
      | inr k ↦ (let n = k b i l in record { row = n.row; is = n.is; under = λ r c t. after_under i (offsets_of h.row) o' h.under r c (n.under r c t) })
    ]

pub settled_end : (g : GraphOf) (rows : List (Option Row)) (open_nodes : List ℕ) → IsFlow g → length open_nodes ≡ 0 → Settling g rows (Contains open_nodes) → AreSettled g rows
settled_end g rows (x ∷ xs) flow none s = absurd (omega arith)
settled_end g rows [] flow none s = record {
  as_long = s.as_long;
  row_at = λ n l. (let w = some_walk g flow n l in let h = walk_under g rows s n w.0 w.1 in (h.row, h.is));
  sound = λ n row r c at some o f.
      let h = walk_under g rows s n o f in
      h.under r c ((λ i. offsets_of (some_one h.row row (sym h.is ∙ at) i) r) ∙ some);
  complete = s.complete;
}
