use Rattle.std.proofs.Common.{◌≡◌, true, sym, ◌∙◌, subst, option_copied, option_map}
use Rattle.std.specs.Prelude.{is_some}
use Rattle.word_terms.specs.Tree.{Var}
use Rattle.group_text.specs.declared.version.Version.{Version as Known}
use Rattle.group_text.specs.Version.{version_of}
use Rattle.code_parts.specs.Kept.{flow_in}
use Rattle.code_parts.specs.VariableMaps.{place_of}
use Rattle.path_walk.specs.inner.Writers.{cited_tree, front, writer_tree}
use Rattle.path_walk.proofs.EnteredLines.{entered_made}
use Rattle.path_walk.proofs.JoinedLines.{goes-version}
use Rattle.path_walk.proofs.WriterLemmas.{restated-version}
use Rattle.path_walk.proofs.enter_lines.enter.Goals as goal

pub steer-requires-clause-further : goal.steer-requires-clause-further
steer-requires-clause-further c =
    subst (λ (v : Known). is_some (version_of v).further ≡ true)
    (sym (goes-version (flow_in c.args.flow.now) (front (flow_in c.args.flow.now) c.args.entry) (option_map cited_tree (option_copied c.args.from)) (cited_tree c.in_ok-last.last) (cited_tree c.in_ok-on.on) (Var c.args.place.now.words) (place_of c.place_at-next.result)
    (writer_tree c.leave_by.new.log) (writer_tree c.go_on.new.log) c.in_ok-on.ensures.on ∙ restated-version _ _ _ _ _ _ _ c.in_ok-last.ensures.exited)) c.requires.further

pub returns-clause-entered : goal.returns-clause-entered
returns-clause-entered c =
    entered_made (flow_in c.args.flow.now) c.args.entry c.args.flow.now.code c.args.call.entry c.args.call.def c.args.call.back (place_of c.args.place.now) (place_of c.place_at-next.result) (option_map cited_tree (option_copied c.args.from))
    (writer_tree c.args.log.now) (writer_tree c.leave_by.new.log) (writer_tree c.go_on.new.log) (writer_tree c.steer.new.log) c.in_ok-last.last.number (cited_tree c.in_ok-last.last) (cited_tree c.in_ok-on.on) (cited_tree c.in_ok-there.there)
    c.in_ok-last.ensures.is c.in_ok-last.ensures.exited c.place_at-next.ensures.is c.in_ok-on.ensures.on c.in_ok-there.ensures.log c.in_ok-there.ensures.is
