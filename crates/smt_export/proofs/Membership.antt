-- What is told of a definition, as a list.
use Rattle.std.proofs.Common.{◌≡◌, ◌⊎◌, inl, inr, ℕ, zero, suc, ◌+◌, ◌*◌, ◌<◌, ◌≤◌, ◌^◌, List, [], ◌∷◌, ◌++◌, length, refl, sym, ap, arith, ⊎_elim}
use Rattle.std.proofs.lemmas.Bool.{cases_lt, cases_eq}
use Rattle.tailrec_lang.specs.Tree.{GroupTree}
use Rattle.smt_export.specs.declared.told.Told.{Told}
use Rattle.smt_export.specs.declared.told.Told.TheVariants.{Ok, ExitNumber, Pc, WordAt, MemAt, DomAt}
use Rattle.smt_export.specs.Told.{words_from, mems_from, all_told}
use Rattle.smt_export.specs.Telling.{IsToldOf}
use Rattle.smt_export.proofs.Names.{IsSmall}

abbrev pub Member : Told → List Told → Type 0
Member u [] = ⊥
Member u (t ∷ ts) = (u ≡ t) ⊎ Member u ts

-- ---- numbers of 64 bits

abbrev pub AllSmall : List Told → Type 0
AllSmall [] = Unit {0}
AllSmall (t ∷ ts) = IsSmall t × AllSmall ts

all_small-append : (ts us : List Told) → AllSmall ts → AllSmall us → AllSmall (ts ++ us)
all_small-append [] us h l = l
all_small-append (t ∷ ts) us h l = (h.0, all_small-append ts us h.1 l)

words_small : (i n : ℕ) → i + n < 2 ^ 64 → AllSmall (words_from i n)
words_small i zero lt = tt
words_small i (suc n) lt = (omega (arith, lt), words_small (suc i) n (omega (arith, lt)))

mems_small : (i n : ℕ) → i + n < 2 ^ 64 → AllSmall (mems_from i n)
mems_small i zero lt = tt
mems_small i (suc n) lt = (omega (arith, lt), (omega (arith, lt), mems_small (suc i) n (omega (arith, lt))))

pub all_told-small : (g : GroupTree) → length g.regs < 2 ^ 64 → g.mems < 2 ^ 64 → AllSmall (all_told g)
all_told-small g r q = (tt, (tt, (tt, all_small-append (words_from 0 (length g.regs)) (mems_from 0 g.mems) (words_small 0 (length g.regs) (omega (arith, r))) (mems_small 0 g.mems (omega (arith, q))))))

pub told-small : (g : GroupTree) (u : Told) → IsToldOf g u → length g.regs < 2 ^ 64 → g.mems < 2 ^ 64 → IsSmall u
told-small g Ok h r q = tt
told-small g ExitNumber h r q = tt
told-small g Pc h r q = tt
told-small g (WordAt i) h r q = omega (arith, h)
told-small g (MemAt i) h r q = omega (arith, h)
told-small g (DomAt i) h r q = omega (arith, h)

-- ---- all that is told is in the list

member-left : (u : Told) (ts us : List Told) → Member u ts → Member u (ts ++ us)
member-left u [] us h = absurd h
member-left u (t ∷ ts) us h = ⊎_elim (λ e. inl e) (λ i. inr (member-left u ts us i)) h

member-right : (u : Told) (ts us : List Told) → Member u us → Member u (ts ++ us)
member-right u [] us h = h
member-right u (t ∷ ts) us h = inr (member-right u ts us h)

beyond : (i j : ℕ) → j ≤ i → (i ≡ j → ⊥) → suc j ≤ i
beyond i j le d = ⊎_elim (λ lt. omega (arith, lt)) (λ ge. absurd (d (omega (arith, ge, le)))) (cases_lt j i)

member-words : (i j n : ℕ) → j ≤ i → i < j + n → Member (WordAt i) (words_from j n)
member-words i j zero le lt = absurd (omega (arith, le, lt))
member-words i j (suc n) le lt = ⊎_elim (λ e. inl (ap WordAt e)) (λ d. inr (member-words i (suc j) n (beyond i j le d) (omega (arith, lt)))) (cases_eq i j)

member-mems : (i j n : ℕ) → j ≤ i → i < j + n → Member (MemAt i) (mems_from j n) × Member (DomAt i) (mems_from j n)
member-mems i j zero le lt = absurd (omega (arith, le, lt))
member-mems i j (suc n) le lt =
    ⊎_elim (λ e. (inl (ap MemAt e), inr (inl (ap DomAt e))))
    (λ d. let h = member-mems i (suc j) n (beyond i j le d) (omega (arith, lt)) in (inr (inr h.0), inr (inr h.1))) (cases_eq i j)

pub member-told : (g : GroupTree) (u : Told) → IsToldOf g u → Member u (all_told g)
member-told g Ok h = inl refl
member-told g ExitNumber h = inr (inl refl)
member-told g Pc h = inr (inr (inl refl))
member-told g (WordAt i) h = inr (inr (inr (member-left (WordAt i) (words_from 0 (length g.regs)) (mems_from 0 g.mems) (member-words i 0 (length g.regs) (omega arith) (omega (arith, h))))))
member-told g (MemAt i) h = inr (inr (inr (member-right (MemAt i) (words_from 0 (length g.regs)) (mems_from 0 g.mems) (member-mems i 0 g.mems (omega arith) (omega (arith, h))).0)))
member-told g (DomAt i) h = inr (inr (inr (member-right (DomAt i) (words_from 0 (length g.regs)) (mems_from 0 g.mems) (member-mems i 0 g.mems (omega arith) (omega (arith, h))).1)))

-- ---- each has a number, and these rise by one

abbrev pub key : ℕ → Told → ℕ
key r Ok = 0
key r ExitNumber = 1
key r Pc = 2
key r (WordAt i) = 3 + i
key r (MemAt i) = 3 + r + 2 * i
key r (DomAt i) = 4 + r + 2 * i

abbrev pub AreKeyed : GroupTree → ℕ → List Told → Type 0
AreKeyed g k [] = Unit {0}
AreKeyed g k (t ∷ ts) = IsToldOf g t × (key (length g.regs) t ≡ k) × AreKeyed g (suc k) ts

keyed-mems : (g : GroupTree) (i n k : ℕ) → i + n ≤ g.mems → k ≡ 3 + length g.regs + 2 * i → AreKeyed g k (mems_from i n)
keyed-mems g i zero k le e = tt
keyed-mems g i (suc n) k le e = (omega (arith, le), sym e, (omega (arith, le), omega (arith, e), keyed-mems g (suc i) n (suc (suc k)) (omega (arith, le)) (omega (arith, e))))

keyed-words : (g : GroupTree) (i n k : ℕ) → i + n ≡ length g.regs → k ≡ 3 + i → AreKeyed g k (words_from i n ++ mems_from 0 g.mems)
keyed-words g i zero k count e = keyed-mems g 0 g.mems k (omega arith) (omega (arith, count, e))
keyed-words g i (suc n) k count e = (omega (arith, count), sym e, keyed-words g (suc i) n (suc k) (omega (arith, count)) (omega (arith, e)))

pub all_told-keyed : (g : GroupTree) → AreKeyed g 0 (all_told g)
all_told-keyed g = (tt, refl, (tt, refl, (tt, refl, keyed-words g 0 (length g.regs) 3 (omega arith) refl)))
