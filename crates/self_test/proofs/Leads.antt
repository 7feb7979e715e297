-- Where the code of pieces leads, address by address: as their edges say.
use Rattle.std.proofs.Common.{◌≡◌, ℕ, ◌+◌, ◌*◌, ◌%◌, ◌^◌, ◌==◌, ◌<◌, ◌≤◌, inl, inr, ℤ, pos, negsuc, List, [], ◌∷◌, ◌++◌, length, true, cond, Some, Ok, Err, refl, sym, subst, ◌∙◌, arith, false}
use Rattle.std.specs.List.{Contains}
use Rattle.std.specs.Option.{unwrap_or}
use Rattle.std.proofs.Math.Nat.{mod-eq_of_lt}
use Rattle.std.proofs.lemmas.Bool.{eq-eqb}
use Rattle.std.proofs.lemmas.Bool.Decides.{leb_tells}
use Rattle.std.proofs.lemmas.List.{length-append}
use Rattle.rv_words.specs.Bytes.{Bytes, away}
use Rattle.rv_words.specs.declared.comparison.Cmp.{Cmp}
use Rattle.rv_words.specs.declared.comparison.Cmp.TheVariants.{Eq, Ne}
use Rattle.rv_decode.specs.declared.instruction.Instr.{Instr}
use Rattle.rv_decode.specs.declared.instruction.Instr.TheVariants.{OpImm, Jal, Branch}
use Rattle.rv_words.specs.declared.operation.Op.TheVariants.{Add as Addition, And}
use Rattle.rv_decode.specs.Encodes.{word_of}
use Rattle.rv_decode.specs.Ranges.{is_encodable}
use Rattle.rvc.specs.Number.{length_of, number_in}
use Rattle.rvc.proofs.LongLemmas.{instruction_of-word, number_in-word, word-long}
use Rattle.flow_graph.specs.Flow.{admitted, length_in, look, look_fetched, look_decoded, target, targets, next}
use Rattle.flow_graph.specs.declared.outside.Outside.TheVariants.{Misaligned}
use Rattle.flow_graph.proofs.Ways.{Contains-cons}
use Rattle.code_gen.specs.Pieces.{Pieces, Done, Add, Mix, Choose, Repeat}
use Rattle.code_gen.specs.Program.{counter, adding, mixing, counting, loop_end, code}
use Rattle.code_gen.specs.Structure.{AreShaped, EachAt, IsWordAt}
use Rattle.code_gen.proofs.SizeLemmas.{count, repeat-count}
use Rattle.code_gen.proofs.TargetLemmas.{each-split}
use Rattle.code_gen.proofs.CodeLemmas.{adding-encodable, counting-encodable, loop_end-encodable}
use Rattle.self_test.proofs.Edges.{Edge}

-- code stands from b on, and the place behind it is an address
pub record Ground (b n : ℕ) : Type 0 where
  pub even : b % 2 ≡ 0
  pub room : b + 4 * n + 4 < 2 ^ 64

-- the address of a place
abbrev pub at : ℕ → ℕ → ℕ
at b k = b + 4 * k

pub even-at : (b n k : ℕ) → Ground b n → (at b k % 2 == 0) ≡ true
even-at b n k g = let e : at b k % 2 ≡ 0 = omega (arith, g.even) in eq-eqb (at b k % 2) 0 e

-- what is found at a place
standing : (bytes : Bytes) (b n k : ℕ) (i : Instr) → Ground b n → k ≤ n → IsWordAt bytes b k i → is_encodable i ≡ true → number_in bytes (at b k) ≡ Some (word_of i)
standing bytes b n k i g h here fits = number_in-word bytes (at b k) i (omega (arith, g.room, h)) here fits

pub looked : (bytes : Bytes) (b n k : ℕ) (i : Instr) → Ground b n → k ≤ n → IsWordAt bytes b k i → is_encodable i ≡ true → look false bytes (at b k) ≡ admitted false (at b k) i
unfolding look
looked bytes b n k i g h here fits =
    (λ j. cond (even-at b n k g j) (look_fetched false (at b k) (standing bytes b n k i g h here fits j)) (Err (Misaligned (at b k) (at b k))))
    ∙ (λ j. look_decoded false (at b k) (word_of i) (instruction_of-word i fits j))

-- .. and how long it is
pub long : (bytes : Bytes) (b n k : ℕ) (i : Instr) → Ground b n → k ≤ n → IsWordAt bytes b k i → is_encodable i ≡ true → length_in bytes (at b k) ≡ 4
long bytes b n k i g h here fits = (λ j. length_of (unwrap_or (standing bytes b n k i g h here fits j) 0)) ∙ (λ j. cond (word-long i fits j) 4 2)

-- an instruction that is admitted at a place, leads to these places alone, and leads on to one of them
pub record Leads (bytes : Bytes) (b u : ℕ) (to : ℕ → Type 0) : Type 0 where
  pub instr : Instr
  pub fine : look false bytes (at b u) ≡ Ok instr
  pub long : length_in bytes (at b u) ≡ 4
  pub leads : (a : ℕ) → Contains (targets (at b u) 4 instr) a → (v : ℕ) × (a ≡ at b v) × to v
  pub on : (v : ℕ) × (u < v) × Contains (targets (at b u) 4 instr) (at b v)

further : {bytes : Bytes} {b u : ℕ} {to more : ℕ → Type 0} → ((v : ℕ) → to v → more v) → Leads bytes b u to → Leads bytes b u more
further f l = record { instr = l.instr; fine = l.fine; long = l.long; leads = λ a c. let r = l.leads a c in (r.0, r.1, f r.0 r.2); on = l.on }

-- where an instruction stands, with its word
pub record Here (bytes : Bytes) (b n u : ℕ) (i : Instr) : Type 0 where
  pub ground : Ground b n
  pub place : u < n
  pub word : IsWordAt bytes b u i
  pub fits : is_encodable i ≡ true

pub none-there : {A : Type 0} (a : ℕ) → Contains [] a → A
none-there a (k, h, e) = absurd (omega (arith, h))

follows : (b n u : ℕ) → Ground b n → u < n → away (at b u) 4 ≡ at b (u + 1)
follows b n u g h =
    let small : at b u + 4 < 2 ^ 64 = omega (arith, g.room, h) in
    let there : at b u + 4 ≡ at b (u + 1) = omega arith in
    mod-eq_of_lt small ∙ there

-- an instruction that goes on to the next
goes-on : {bytes : Bytes} {b n u : ℕ} (i : Instr) (to : ℕ → Type 0) → Here bytes b n u i → admitted false (at b u) i ≡ Ok i
    → targets (at b u) 4 i ≡ away (at b u) 4 ∷ [] → to (u + 1) → Leads bytes b u to
goes-on {bytes} {b} {n} {u} i to h fine one next =
    let there : targets (at b u) 4 i ≡ at b (u + 1) ∷ [] = one ∙ (λ j. follows b n u h.ground h.place j ∷ []) in
    record {
      instr = i;
      long = long bytes b n u i h.ground (omega (arith, h.place)) h.word h.fits;
      fine = looked bytes b n u i h.ground (omega (arith, h.place)) h.word h.fits ∙ fine;
      leads = λ a c. elim (Contains-cons (at b (u + 1)) [] a (subst (λ ts. Contains ts a) there c)) [
        | inl e ↦ (u + 1, sym e, next)
        | inr z ↦ none-there a z
      ];
      on = (u + 1, omega arith, subst (λ ts. Contains ts (at b (u + 1))) (sym there) (0, omega arith, refl));
    }

-- a jump on to place t
jumps : {bytes : Bytes} {b n u : ℕ} (z : ℤ) (t : ℕ) (to : ℕ → Type 0) → Here bytes b n u (Jal 0 z) → target (at b u) z ≡ at b t → u < t → to t → Leads bytes b u to
jumps {bytes} {b} {n} {u} z t to h there on next =
    record {
      instr = Jal 0 z;
      long = long bytes b n u (Jal 0 z) h.ground (omega (arith, h.place)) h.word h.fits;
      fine = looked bytes b n u (Jal 0 z) h.ground (omega (arith, h.place)) h.word h.fits;
      leads = λ a c. elim (Contains-cons (at b t) [] a (subst (λ ts. Contains ts a) (λ j. there j ∷ []) c)) [
        | inl e ↦ (t, sym e, next)
        | inr z ↦ none-there a z
      ];
      on = (t, on, subst (λ ts. Contains ts (at b t)) (sym (λ j. there j ∷ [])) (0, omega arith, refl));
    }

-- a branch to place t
branches : {bytes : Bytes} {b n u : ℕ} (c : Cmp) (x y : ℕ) (z : ℤ) (t : ℕ) (to : ℕ → Type 0) → Here bytes b n u (Branch c x y z)
    → target (at b u) z ≡ at b t → to (u + 1) → to t → Leads bytes b u to
branches {bytes} {b} {n} {u} c x y z t to h there next over =
    let both : targets (at b u) 4 (Branch c x y z) ≡ at b (u + 1) ∷ at b t ∷ [] = (λ j. follows b n u h.ground h.place j ∷ there j ∷ []) in
    record {
      instr = Branch c x y z;
      long = long bytes b n u (Branch c x y z) h.ground (omega (arith, h.place)) h.word h.fits;
      fine = looked bytes b n u (Branch c x y z) h.ground (omega (arith, h.place)) h.word h.fits;
      leads = λ a m. elim (Contains-cons (at b (u + 1)) (at b t ∷ []) a (subst (λ ts. Contains ts a) both m)) [
        | inl e ↦ (u + 1, sym e, next)
        | inr m1 ↦ elim (Contains-cons (at b t) [] a m1) [
          | inl e ↦ (t, sym e, over)
          | inr m2 ↦ none-there a m2
        ]
      ];
      on = (u + 1, omega arith, subst (λ ts. Contains ts (at b (u + 1))) (sym both) (0, omega arith, refl));
    }

ahead : (b n u j t : ℕ) → Ground b n → t ≡ u + j → t ≤ n → (at b u + 4 * j) % 2 ^ 64 ≡ at b t
ahead b n u j t g e h = omega (arith, e, h, g.room)

backward : (b n k l : ℕ) → Ground b n → k + 2 + l < n → target (at b (k + 2 + l)) (negsuc (4 * l + 3)) ≡ at b (k + 1)
backward b n k l g h = omega (arith, h, g.room)

-- a place that is another by its number
moved : {bytes : Bytes} {b : ℕ} (to : ℕ → ℕ → Type 0) (k u : ℕ) → u ≡ k → Leads bytes b k (to k) → Leads bytes b u (to u)
moved {bytes} {b} to k u e l = subst (λ x. Leads bytes b x (to x)) (sym e) l

word-at : (bytes : Bytes) (b : ℕ) (i : Instr) (j k : ℕ) → j ≡ k → IsWordAt bytes b j i → IsWordAt bytes b k i
word-at bytes b i j k e w = subst (λ x. IsWordAt bytes b x i) e w

pub all-lead : (bytes : Bytes) (b n d : ℕ) (p : Pieces) (k : ℕ) → Ground b n → AreShaped d p → k + count d p ≤ n → EachAt (IsWordAt bytes b) k (code d p)
    → (u : ℕ) → k ≤ u → u < k + count d p → Leads bytes b u (λ v. Edge d p k u v)
all-lead bytes b n d Done k g s room w u h below = absurd (omega (arith, h, below))
all-lead bytes b n d (Add m rest) k g (small, s) room (w, ws) u h below = elim (leb_tells u k) [
  | inl t ↦ moved (λ x v. Edge d (Add m rest) k x v) k u (omega (arith, t.1, h))
      (goes-on (adding m) (λ v. Edge d (Add m rest) k k v)
      (record { ground = g; place = omega (arith, room); word = w; fits = adding-encodable m small }) refl refl (inl (refl, refl)))
  | inr t ↦ further (λ v e. inr e) (all-lead bytes b n d rest (k + 1) g s (omega (arith, room)) ws u (omega (arith, t.1)) (omega (arith, below)))
]
all-lead bytes b n d (Mix rest) k g s room (w, ws) u h below = elim (leb_tells u k) [
  | inl t ↦ moved (λ x v. Edge d (Mix rest) k x v) k u (omega (arith, t.1, h))
      (goes-on mixing (λ v. Edge d (Mix rest) k k v)
      (record { ground = g; place = omega (arith, room); word = w; fits = refl }) refl refl (inl (refl, refl)))
  | inr t ↦ further (λ v e. inr e) (all-lead bytes b n d rest (k + 1) g s (omega (arith, room)) ws u (omega (arith, t.1)) (omega (arith, below)))
]
all-lead bytes b n d (Choose m rest) k g (small, s) room (w0, (w1, (w2, (w3, (w4, ws))))) u h below = elim (leb_tells u k) [
  | inl t ↦ moved (λ x v. Edge d (Choose m rest) k x v) k u (omega (arith, t.1, h))
      (goes-on (OpImm And 16 10 (pos 1)) (λ v. Edge d (Choose m rest) k k v)
      (record { ground = g; place = omega (arith, room); word = w0; fits = refl }) refl refl (inl (inl (refl, refl))))
  | inr t ↦ elim (leb_tells u (k + 1)) [
    | inl t1 ↦ moved (λ x v. Edge d (Choose m rest) k x v) (k + 1) u (omega (arith, t1.1, t.1))
        (branches Eq 16 0 (pos 12) (k + 4) (λ v. Edge d (Choose m rest) k (k + 1) v)
        (record { ground = g; place = omega (arith, room); word = w1; fits = refl })
        (ahead b n (k + 1) 3 (k + 4) g (omega arith) (omega (arith, room)))
        (inl (inr (inl (refl, omega arith)))) (inl (inr (inr (inl (refl, refl))))))
    | inr t1 ↦ elim (leb_tells u (k + 2)) [
      | inl t2 ↦ moved (λ x v. Edge d (Choose m rest) k x v) (k + 2) u (omega (arith, t2.1, t1.1))
          (goes-on (adding m) (λ v. Edge d (Choose m rest) k (k + 2) v)
          (record { ground = g; place = omega (arith, room); word = word-at bytes b (adding m) (k + 1 + 1) (k + 2) (omega arith) w2; fits = adding-encodable m small })
          refl refl (inl (inr (inr (inr (inl (refl, omega arith)))))))
      | inr t2 ↦ elim (leb_tells u (k + 3)) [
        | inl t3 ↦ moved (λ x v. Edge d (Choose m rest) k x v) (k + 3) u (omega (arith, t3.1, t2.1))
            (jumps (pos 8) (k + 5) (λ v. Edge d (Choose m rest) k (k + 3) v)
            (record { ground = g; place = omega (arith, room); word = word-at bytes b (Jal 0 (pos 8)) (k + 1 + 1 + 1) (k + 3) (omega arith) w3; fits = refl })
            (ahead b n (k + 3) 2 (k + 5) g (omega arith) (omega (arith, room))) (omega arith)
            (inl (inr (inr (inr (inr (inl (refl, refl))))))))
        | inr t3 ↦ elim (leb_tells u (k + 4)) [
          | inl t4 ↦ moved (λ x v. Edge d (Choose m rest) k x v) (k + 4) u (omega (arith, t4.1, t3.1))
              (goes-on mixing (λ v. Edge d (Choose m rest) k (k + 4) v)
              (record { ground = g; place = omega (arith, room); word = word-at bytes b mixing (k + 1 + 1 + 1 + 1) (k + 4) (omega arith) w4; fits = refl })
              refl refl (inl (inr (inr (inr (inr (inr (refl, omega arith))))))))
          | inr t4 ↦
              let e : k + 1 + 1 + 1 + 1 + 1 ≡ k + 5 = omega arith in
              further (λ v x. inr x) (all-lead bytes b n d rest (k + 5) g s (omega (arith, room))
              (subst (λ x. EachAt (IsWordAt bytes b) x (code d rest)) e ws) u (omega (arith, t4.1)) (omega (arith, below)))
        ]
      ]
    ]
  ]
]
all-lead bytes b n d (Repeat t body rest) k g (l, hb, hr) room (w, ws) u h below =
    let inner : List Instr = code (d + 1) body in
    let m : ℕ = count (d + 1) body in
    let last : List Instr = loop_end d m in
    let all : count d (Repeat t body rest) ≡ 3 + m + count d rest = repeat-count d t body rest in
    let both : length (inner ++ last) ≡ m + 2 = length-append inner last in
    let far = each-split (IsWordAt bytes b) (k + 1) (inner ++ last) (code d rest) ws in
    let near = each-split (IsWordAt bytes b) (k + 1) inner last far.0 in
    let fits = loop_end-encodable d m l.depth l.little_code in
    let place : k + 1 + length (inner ++ last) ≡ k + 3 + m = omega (arith, both) in
    let step : k + 1 + m + 1 ≡ k + 2 + m = omega arith in
    elim (leb_tells u k) [
      | inl t0 ↦ moved (λ x v. Edge d (Repeat t body rest) k x v) k u (omega (arith, t0.1, h))
          (goes-on (counting d t) (λ v. Edge d (Repeat t body rest) k k v)
          (record { ground = g; place = omega (arith, room, all); word = w; fits = counting-encodable d t l.depth l.few_turns })
          refl refl (inl (refl, refl)))
      | inr t0 ↦ elim (leb_tells u (k + m)) [
        | inl t1 ↦ further (λ v x. inr (inl x))
            (all-lead bytes b n (d + 1) body (k + 1) g hb (omega (arith, room, all)) near.0 u (omega (arith, t0.1)) (omega (arith, t1.1)))
        | inr t1 ↦ elim (leb_tells u (k + 1 + m)) [
          | inl t2 ↦ moved (λ x v. Edge d (Repeat t body rest) k x v) (k + 1 + m) u (omega (arith, t2.1, t1.1))
              (goes-on (OpImm Addition (counter d) (counter d) (negsuc 0)) (λ v. Edge d (Repeat t body rest) k (k + 1 + m) v)
              (record { ground = g; place = omega (arith, room, all); word = near.1.0; fits = fits.0 })
              refl refl (inr (inr (inl (refl, omega arith)))))
          | inr t2 ↦ elim (leb_tells u (k + 2 + m)) [
            | inl t3 ↦ moved (λ x v. Edge d (Repeat t body rest) k x v) (k + 2 + m) u (omega (arith, t3.1, t2.1))
                (branches Ne (counter d) 0 (negsuc (4 * m + 3)) (k + 1) (λ v. Edge d (Repeat t body rest) k (k + 2 + m) v)
                (record {
                  ground = g;
                  place = omega (arith, room, all);
                  word = word-at bytes b (Branch Ne (counter d) 0 (negsuc (4 * m + 3))) (k + 1 + m + 1) (k + 2 + m) step near.1.1.0;
                  fits = fits.1.0;
                })
                (backward b n k m g (omega (arith, room, all)))
                (inr (inr (inr (inr (inl (refl, omega arith)))))) (inr (inr (inr (inl (refl, refl))))))
            | inr t3 ↦ further (λ v x. inr (inr (inr (inr (inr x)))))
                (all-lead bytes b n d rest (k + 3 + m) g hr (omega (arith, room, all))
                (subst (λ x. EachAt (IsWordAt bytes b) x (code d rest)) place far.1) u (omega (arith, t3.1)) (omega (arith, below, all)))
          ]
        ]
      ]
    ]
