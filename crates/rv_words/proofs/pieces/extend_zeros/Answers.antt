use Rattle.std.proofs.Common.{◌≡◌, ℕ, ◌+◌, ◌<◌, ◌≤◌, List, length, get_or, Result, Ok, Err, OnOk, OnErr, refl, sym, subst, arith}
use Rattle.std.proofs.lemmas.Result.{on_ok_weaker, on_err_weaker}
use Rattle.rv_words.specs.declared.pieces.Piece.{Piece}
use Rattle.rv_words.specs.inner.Pieces.{end}
use Rattle.rv_words.proofs.PieceLemmas.{same_rise, same_bytes, grown_rise, grown_in}
use Rattle.rv_words.proofs.pieces.extend_zeros.Goals as goal

grows : (ps : List Piece) (i a n : ℕ) (old : Piece) → old ≡ get_or ps i old
    → ((d : Piece) → ((get_or ps i d).at ≤ a) × (a ≤ end (get_or ps i d)) × (end (get_or ps i d) ≤ a + n)) → (old.at ≤ a) × (a ≤ end old) × (end old ≤ a + n)
grows ps i a n old was g = subst (λ (x : Piece). (x.at ≤ a) × (a ≤ end x) × (end x ≤ a + n)) (sym was) (g old)

either : {T E P Q R : Type 0} (r : Result T E) → (P → R) → (Q → R) → OnOk r P → OnErr r Q → R
either (Ok x) f g p q = f p
either (Err e) f g p q = g q

pub returns-clause-pieces : goal.returns-clause-pieces
returns-clause-pieces c =
    let there : c.args.i < length c.args.pieces.now.items = omega arith in
    let old = c.index_mut-piece.result.now in
    let more = grows c.args.pieces.now.items c.args.i c.args.a c.args.n old c.index_mut-piece.ensures.value c.requires.grows in
    either c.extend.result
    (λ is. grown_rise c.args.pieces.now.items c.args.i c.args.a c.args.n old _ c.requires.pieces there c.requires.some c.requires.fits c.requires.after
    c.index_mut-piece.ensures.value more.0 more.1 more.2 refl is)
    (λ is. same_rise c.args.pieces.now.items c.args.i old _ c.requires.pieces there c.index_mut-piece.ensures.value refl is)
    c.extend.ensures.ok c.extend.ensures.err

pub returns-clause-cleared : goal.returns-clause-cleared
returns-clause-cleared c =
    let there : c.args.i < length c.args.pieces.now.items = omega arith in
    let old = c.index_mut-piece.result.now in
    let more = grows c.args.pieces.now.items c.args.i c.args.a c.args.n old c.index_mut-piece.ensures.value c.requires.grows in
    on_ok_weaker c.extend.result
    (λ is. grown_in c.args.pieces.now.items c.args.i c.args.a c.args.n old _ c.requires.pieces there c.requires.some c.requires.fits c.requires.after
    c.index_mut-piece.ensures.value more.0 more.1 more.2 refl is)
    c.extend.ensures.ok

pub returns-clause-err : goal.returns-clause-err
returns-clause-err c =
    let there : c.args.i < length c.args.pieces.now.items = omega arith in
    on_err_weaker c.extend.result
    (λ is. same_bytes c.args.pieces.now.items c.args.i c.index_mut-piece.result.now _ c.requires.pieces there c.index_mut-piece.ensures.value refl is)
    c.extend.ensures.err
