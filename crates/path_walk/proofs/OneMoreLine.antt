-- One more line of a log.
use Rattle.std.proofs.Common.{◌≡◌, ℕ, ◌+◌, ◌^◌, ◌<◌, List, [], ◌∷◌, ◌++◌, map, ap, ◌∙◌, sym, subst}
use Rattle.std.proofs.lemmas.List.{map-append}
use Rattle.triple_kernel.specs.declared.triple.Triple.{Triple}
use Rattle.triple_kernel.specs.Tree.{triple_tree}
use Rattle.group_text.specs.declared.version.Version.{Version as Known}
use Rattle.group_text.specs.Version.{version_of}
use Rattle.proof_text.specs.declared.line.Line.{Line}
use Rattle.proof_text.specs.declared.line.Rule.{Rule}
use Rattle.proof_text.specs.declared.line.Line.TheVariants as line
use Rattle.proof_text.specs.Line.{States, line_tree, rule_tree}
use Rattle.proof_text.specs.LineLimits.{IsLineIn, IsRule, IsTriple}
use Rattle.path_walk.specs.inner.Writers.{IsFineWriter, IsStating, writer_tree, stating}
use Rattle.path_walk.proofs.LineTexts.{all-join}

-- it is stated
pub more_stated : (lines more : List Line) (rule : Rule) (stated : Triple) (version : Known) (next : ℕ) (cited : List ℕ) → more ≡ lines ++ line.States rule stated ∷ [] →
    writer_tree (record { version = version; lines = more; next = next + 1; cited = cited }) ≡ stating (rule_tree rule) (triple_tree stated) (writer_tree (record { version = version; lines = lines; next = next; cited = cited }))
more_stated lines more rule stated version next cited is =
    let all : map line_tree more ≡ map line_tree lines ++ States (rule_tree rule) (triple_tree stated) ∷ [] = ap (map line_tree) is ∙ map-append line_tree lines (line.States rule stated ∷ []) in
    λ i. record { version = version; lines = all i; next = next + 1; cited = cited }

-- .. and has a text
pub more_fine : (lines more : List Line) (rule : Rule) (stated : Triple) (version : Known) (next : ℕ) (cited : List ℕ) → more ≡ lines ++ line.States rule stated ∷ [] → next + 1 < 2 ^ 64 →
    IsRule (rule_tree rule) → IsTriple (triple_tree stated) → IsFineWriter (writer_tree (record { version = version; lines = lines; next = next; cited = cited })) → IsFineWriter (writer_tree (record { version = version; lines = more; next = next + 1; cited = cited }))
more_fine lines more rule stated version next cited is low fine_rule fine_triple fine = subst IsFineWriter (sym (more_stated lines more rule stated version next cited is)) (record {
  lines = all-join (IsLineIn (version_of version)) (map line_tree lines) (States (rule_tree rule) (triple_tree stated) ∷ []) fine.lines ((fine_rule, fine_triple), tt);
  stating = all-join IsStating (map line_tree lines) (States (rule_tree rule) (triple_tree stated) ∷ []) fine.stating (tt, tt);
  next = low;
  cited = fine.cited;
})
