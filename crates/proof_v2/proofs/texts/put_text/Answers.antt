use Rattle.std.proofs.Common.{ℕ, Option, List, [], ◌++◌, append-nil, ◌∙◌, ap, sym, subst}
use Rattle.tailrec_lang.specs.declared.group.Group.{Group}
use Rattle.mc_text.specs.Tokens.{spell}
use Rattle.mc_text.specs.declared.token.Before.TheVariants.{Start}
use Rattle.group_text.specs.Spelling.{title_tokens}
use Rattle.group_text.specs.Version.{version_2}
use Rattle.proof_v2.specs.inner.Rewriting.{GroupIsNext, IsRightText}
use Rattle.proof_v2.proofs.WrittenTexts.{groups-next, no-more, text-written}
use Rattle.proof_v2.proofs.texts.put_text.Goals as goal

pub loop-out-init : goal.loop-out-init
loop-out-init c = record {
  old = [];
  text = c.new-reader.ensures.text;
  version = c.new-reader.ensures.version;
  given = c.new-reader.ensures.given;
  over = tt;
  new = [];
  migrated = tt;
  fit = tt;
  put = c.in_ok-put_title.ensures.ok ∙ ap (λ (zs : List ℕ). zs ++ spell Start (title_tokens version_2)) c.new-out.ensures ∙ sym (append-nil (spell Start (title_tokens version_2)));
}

pub next_group-requires : goal.next_group-requires
next_group-requires c =
    let i = c.loop-out.invariant in record { text = subst IsRightText (sym i.text) c.requires; version = i.version; passed = (i.old, i.given, i.over) }

pub put_proof-requires : goal.put_proof-requires
put_proof-requires c =
    let i = c.loop-out.invariant in
    let next = subst (λ (f : Option Group). GroupIsNext c.loop-out.reader c.next_group.new.reader f) c.in-Some.is c.in_ok-group.ensures in
    record {
      text = subst IsRightText (sym (next.0.text ∙ i.text)) c.requires;
      version = next.0.version ∙ i.version;
      fits = next.2;
      given = (i.old, next.3 i.old i.given);
    }

pub loop-out-preserved : goal.loop-out-preserved
loop-out-preserved c =
    let next = subst (λ (f : Option Group). GroupIsNext c.loop-out.reader c.next_group.new.reader f) c.in-Some.is c.in_ok-group.ensures in
    groups-next c.args.proof.now (spell Start (title_tokens version_2)) c.loop-out.reader c.next_group.new.reader c.put_proof.new.reader c.loop-out.out c.put_proof.new.out c.in-Some.group c.loop-out.invariant next c.in_ok-put_proof.ensures

pub returns : goal.returns
returns c =
    text-written c.args.proof.now c.loop-out.reader c.next_group.new.reader c.loop-out.out c.put_end.new.out c.law_of_short_parts.ensures c.loop-out.invariant
    (no-more c.loop-out.reader c.next_group.new.reader c.in_ok-group.field-0 c.in_default.not-Some c.in_ok-group.ensures) c.in_ok-put_end.ensures.ok
