-- A group with the table and the short lines of its proof, as they are written.
use Rattle.std.proofs.Common.{◌≡◌, ◌<◌, ◌^◌, ℕ, List, ◌++◌, length, map, refl, sym, ap, ◌∙◌, subst, append_assoc}
use Rattle.mc_text.specs.Tokens.{spell}
use Rattle.mc_text.specs.declared.token.Before.TheVariants.{Start}
use Rattle.tailrec_lang.specs.Tree.{GroupTree}
use Rattle.group_text.specs.Limits.{IsGroupIn}
use Rattle.group_text.specs.Spelling.{group_tokens}
use Rattle.group_text.specs.Version.{version_1}
use Rattle.term_arena.specs.declared.node.Node.{Node}
use Rattle.term_arena.specs.Arena.{IsArena}
use Rattle.proof_text.specs.FirstProofs.{Progress, ProofEnds}
use Rattle.proof_text.specs.Proofs.{line_texts_by}
use Rattle.short_text.specs.declared.short.Short.{Short}
use Rattle.short_text.specs.declared.short.ShortLine.TheVariants.{Term, Proof}
use Rattle.short_text.specs.ShortProofs.{ShortProof, proof_lines}
use Rattle.short_text.specs.ShortSpelling.{short_tokens, table_line}
use Rattle.short_text.proofs.LineParts.{joined, lines-joined, table-joined}
use Rattle.proof_v2.specs.Migration.{IsMigrated}
use Rattle.proof_v2.specs.inner.Rewriting.{LinesAreShort, ProofIsPut, text_of_short_proof, with_lines}
use Rattle.proof_v2.proofs.MoreLines.{is-migrated, lines-of, table-of}
use Rattle.proof_v2.proofs.ShortTextParts.{group-of-2, table-and-lines}

-- ---- a group that was written

module _ (g : GroupTree) (ns : List Node) where
  abbrev short : List Short → ShortProof
  short ss = record { group = g; lines = map Term ns ++ map Proof ss }

  pub proof-put : (text : List ℕ) (old new : Progress) (out one two more : List ℕ) → IsGroupIn version_1 g → LinesAreShort g old new ns text → ProofEnds new.rest → IsArena ns → length ns < 2 ^ 64
      → one ≡ out ++ spell Start (group_tokens g) → two ≡ one ++ line_texts_by table_line ns → more ≡ two ++ text → ProofIsPut g old new out more
  proof-put text old new out one two more fits are over arena few first second third = record {
    lines = are.lines;
    goes = are.goes;
    given = are.given;
    over = over;
    short = short ss;
    migrated = record {
      group = refl;
      proof = subst (λ (ms : List Node). IsMigrated (with_lines g are.lines) ms (proof_lines (short ss).lines)) (sym (table-joined ns ss))
          (subst (λ (ts : List Short). IsMigrated (with_lines g are.lines) ns ts) (sym (lines-joined ns ss)) (is-migrated g ns ss are.lines are.migrated));
    };
    fit = record { group = group-of-2 g fits; lines = joined ns ss (table-of g ns ss are.lines are.migrated arena few) (lines-of g ns ss are.lines are.migrated few) };
    put = written;
  }
    where
      ss : List Short
      ss = are.short

      head : List ℕ
      head = spell Start (group_tokens g)

      table : List ℕ
      table = line_texts_by table_line ns

      last : List ℕ
      last = line_texts_by (short_tokens g.code) ss

      written : more ≡ out ++ text_of_short_proof (short ss)
      written =
          third ∙ (λ i. (second ∙ ap (λ (zs : List ℕ). zs ++ table) first) i ++ are.put i)
          ∙ append_assoc (out ++ head) table last ∙ append_assoc out head (table ++ last)
          ∙ ap (λ (zs : List ℕ). out ++ (head ++ zs)) (sym (table-and-lines g.code ns ss))
