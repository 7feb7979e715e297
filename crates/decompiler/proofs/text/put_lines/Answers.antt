use Rattle.std.proofs.Common.{◌++◌, sym, subst, ◌∙◌, ap}
use Rattle.mc_text.specs.Tokens.{spell}
use Rattle.mc_text.specs.declared.token.Before.TheVariants.{Start}
use Rattle.proof_text.specs.Line.{line_tree}
use Rattle.proof_text.specs.LineLimits.{IsLineIn}
use Rattle.proof_text.specs.LineSpelling.{line_tokens_in}
use Rattle.proof_text.specs.declared.line.Line.{Line}
use Rattle.group_text.specs.Version.{version_of}
use Rattle.decompiler.proofs.Texts.{each_at, next_line}
use Rattle.decompiler.proofs.text.put_lines.Goals as goal

pub put_newer_line-requires : goal.put_newer_line-requires
put_newer_line-requires c =
    subst (λ (l : Line). IsLineIn (version_of c.args.version) (line_tree l)) (sym c.line-item.is)
    (each_at (IsLineIn (version_of c.args.version)) line_tree c.args.lines.now c.loop-line.line-index c.line-item.result c.requires c.loop-line-test.true)

pub loop-line-preserved : goal.loop-line-preserved
loop-line-preserved c =
    next_line (version_of c.args.version) line_tree c.args.group.now.code.ranges c.args.lines.now c.loop-line.line-index c.line-item.result c.args.out.now c.loop-line.out c.put_newer_line.new.out c.loop-line-test.true c.loop-line.invariant
    (c.in_ok-put_newer_line.ensures.ok ∙ ap (λ (l : Line). c.loop-line.out ++ spell Start (line_tokens_in (version_of c.args.version) c.args.group.now.code.ranges (line_tree l))) c.line-item.is)
