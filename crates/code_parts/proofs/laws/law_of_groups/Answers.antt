use Rattle.std.proofs.Common.{true, subst}
use Rattle.code_parts.specs.Flows.{HaveInstructions, IsSetFor}
use Rattle.code_parts.specs.Graph.{IsSmall}
use Rattle.code_parts.specs.Kept.{IsReachedBy}
use Rattle.code_parts.specs.Members.{flow_at}
use Rattle.code_parts.specs.Groups.{member_in}
use Rattle.code_parts.proofs.Calls.{calls-before}
use Rattle.code_parts.proofs.ListItems.{out-map}
use Rattle.code_parts.proofs.LinkedContexts.{instructions-of, reached-of, set-of, small-of, within-code}
use Rattle.code_parts.proofs.Together.{defs-few, defs-some, entered-at-entry, formed, members-are}
use Rattle.code_parts.proofs.laws.law_of_groups.Goals as goal

pub returns : goal.returns
returns c = record {
  reached = λ code e s bytes are is m d. let r = out-map (member_in s) s.functions m d in subst (λ z. IsReachedBy z.graph) r.2 (true, reached-of code e bytes s are is r.0 r.1);
  set = λ code e s bytes are is m d. let r = out-map (member_in s) s.functions m d in subst (λ z. IsSetFor z.graph z.context) r.2 (set-of code e bytes s are is r.0 r.1);
  instructions = λ code e s bytes are is m d. let r = out-map (member_in s) s.functions m d in subst (λ z. HaveInstructions z.graph s.code.ranges) r.2 (instructions-of code e bytes s are is r.0 r.1);
  small = λ code e s bytes are is m d. let r = out-map (member_in s) s.functions m d in subst (λ z. IsSmall (flow_at z)) r.2 (small-of code e bytes s are is r.0 r.1);
  calls = λ code e s are is. calls-before code e s are is;
  members = λ code e s name bytes are is. members-are code e bytes s are is name;
  some = λ code e s name bytes are is. defs-some code e bytes s are is name;
  few = λ code e s name bytes are is. defs-few code e bytes s are is name;
  entry = λ code e s name bytes are is. entered-at-entry code e bytes s are is name;
  formed = λ code e s name bytes are is. formed code e bytes s are is name;
  code = λ code e s bytes are is. within-code code e bytes s are is;
}
