use Rattle.std.proofs.Common.{refl, ◌∙◌}
use Rattle.mc_text.specs.declared.token.Class.TheVariants.{Letter, LeftMark, RightMark, SemiMark, Newline, Other}
use Rattle.mc_text.proofs.Atoms.{first-lex, ended-between, letter-lex, letter-stuck, space-stuck, empty-stuck, tight-between}
use Rattle.mc_text.proofs.Lines.{mark-parts, mark-whole, left-split, right-split, semi-split, newline-split}
use Rattle.mc_text.specs.declared.token.Token.TheVariants as token
use Rattle.mc_text.specs.inner.Scanning.{state_of}
use Rattle.mc_text.proofs.scan.token_at.Goals as goal

pub returns-in-LeftMark-clause-found : goal.returns-in-LeftMark-clause-found
returns-in-LeftMark-clause-found c = rw (first-lex c.args.bytes.now (state_of c.args.before c.args.spaced) LeftMark c.in-len1-up.len_at_least c.in-LeftMark.ensures, ended-between, ← c.is_loose.ensures) c.if_some.ensures.found

pub returns-in-RightMark-clause-found : goal.returns-in-RightMark-clause-found
returns-in-RightMark-clause-found c = rw (first-lex c.args.bytes.now (state_of c.args.before c.args.spaced) RightMark c.in-len1-up.len_at_least c.in-RightMark.ensures, ended-between, tight-between) c.if_some-in-RightMark.ensures.found

pub returns-in-SemiMark-clause-found : goal.returns-in-SemiMark-clause-found
returns-in-SemiMark-clause-found c = rw (first-lex c.args.bytes.now (state_of c.args.before c.args.spaced) SemiMark c.in-len1-up.len_at_least c.in-SemiMark.ensures, ended-between, ← c.is_loose-in-SemiMark.ensures) c.if_some-in-SemiMark.ensures.found

pub returns-in-Newline-clause-found : goal.returns-in-Newline-clause-found
returns-in-Newline-clause-found c = rw (first-lex c.args.bytes.now (state_of c.args.before c.args.spaced) Newline c.in-len1-up.len_at_least c.in-Newline.ensures, ended-between, tight-between) c.if_some-in-Newline.ensures.found

pub returns-in-empty-clause-found : goal.returns-in-empty-clause-found
returns-in-empty-clause-found c = empty-stuck c.args.bytes.now (state_of c.args.before c.args.spaced) c.in-empty.len_below c.requires

pub returns-then-is_loose-clause-found : goal.returns-then-is_loose-clause-found
returns-then-is_loose-clause-found c = (letter-lex c.args.bytes.now c.args.before c.args.spaced c.in-len1-up.len_at_least c.in-Letter.ensures c.if-is_loose.ensures ∙ c.atom_at.ensures.atom, λ e. cc)

pub returns-else-is_loose-clause-found : goal.returns-else-is_loose-clause-found
returns-else-is_loose-clause-found c = first-lex c.args.bytes.now (state_of c.args.before c.args.spaced) Letter c.in-len1-up.len_at_least c.in-Letter.ensures ∙ letter-stuck c.args.before c.args.spaced _ c.if-is_loose.ensures

pub returns-in-Space-clause-found : goal.returns-in-Space-clause-found
returns-in-Space-clause-found c = space-stuck c.args.bytes.now c.args.before c.args.spaced c.in-len1-up.len_at_least c.in-Space.ensures c.requires

pub returns-in-Other-clause-found : goal.returns-in-Other-clause-found
returns-in-Other-clause-found c = rw (first-lex c.args.bytes.now (state_of c.args.before c.args.spaced) Other c.in-len1-up.len_at_least c.in-Other.ensures, ended-between) refl

pub returns-in-LeftMark-clause-parts : goal.returns-in-LeftMark-clause-parts
returns-in-LeftMark-clause-parts c = mark-parts (λ r. r.now) token.Left _ c.args.bytes.now c.if_some.result (left-split c.args.bytes.now c.in-len1-up.len_at_least c.in-LeftMark.ensures) c.if_some.ensures.same

pub returns-in-LeftMark-clause-whole : goal.returns-in-LeftMark-clause-whole
returns-in-LeftMark-clause-whole c = mark-whole (λ r. r.now) token.Left _ c.if_some.result tt c.if_some.ensures.same

pub returns-in-RightMark-clause-parts : goal.returns-in-RightMark-clause-parts
returns-in-RightMark-clause-parts c = mark-parts (λ r. r.now) token.Right _ c.args.bytes.now c.if_some-in-RightMark.result (right-split c.args.bytes.now c.in-len1-up.len_at_least c.in-RightMark.ensures) c.if_some-in-RightMark.ensures.same

pub returns-in-RightMark-clause-whole : goal.returns-in-RightMark-clause-whole
returns-in-RightMark-clause-whole c = mark-whole (λ r. r.now) token.Right _ c.if_some-in-RightMark.result tt c.if_some-in-RightMark.ensures.same

pub returns-in-SemiMark-clause-parts : goal.returns-in-SemiMark-clause-parts
returns-in-SemiMark-clause-parts c = mark-parts (λ r. r.now) token.Semi _ c.args.bytes.now c.if_some-in-SemiMark.result (semi-split c.args.bytes.now c.in-len1-up.len_at_least c.in-SemiMark.ensures) c.if_some-in-SemiMark.ensures.same

pub returns-in-SemiMark-clause-whole : goal.returns-in-SemiMark-clause-whole
returns-in-SemiMark-clause-whole c = mark-whole (λ r. r.now) token.Semi _ c.if_some-in-SemiMark.result tt c.if_some-in-SemiMark.ensures.same

pub returns-in-Newline-clause-parts : goal.returns-in-Newline-clause-parts
returns-in-Newline-clause-parts c = mark-parts (λ r. r.now) token.Eol _ c.args.bytes.now c.if_some-in-Newline.result (newline-split c.args.bytes.now c.in-len1-up.len_at_least c.in-Newline.ensures) c.if_some-in-Newline.ensures.same

pub returns-in-Newline-clause-whole : goal.returns-in-Newline-clause-whole
returns-in-Newline-clause-whole c = mark-whole (λ r. r.now) token.Eol _ c.if_some-in-Newline.result tt c.if_some-in-Newline.ensures.same
