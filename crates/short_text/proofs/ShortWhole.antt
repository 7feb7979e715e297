-- Short lines are whole lines.
use Rattle.std.proofs.Common.{◌<◌, List, [], ◌∷◌, length, codes, arith, flat_map}
use Rattle.mc_text.specs.Tokens.{Semi, Atom}
use Rattle.mc_text.proofs.Lines.{IsLines}
use Rattle.rv_words.specs.declared.range.Range.{Range}
use Rattle.group_text.specs.Spelling.{number, address}
use Rattle.group_text.proofs.Parts.{line-whole}
use Rattle.proof_text.specs.LineSpelling.{code_tokens, form_tokens}
use Rattle.short_text.specs.declared.short.Short.{Short}
use Rattle.short_text.specs.declared.short.Short.TheVariants as short
use Rattle.short_text.specs.ShortSpelling.{term_number, held_fact_tokens, held_register_tokens, held_side_tokens, word_place_tokens, mem_place_tokens, list_tokens, short_tokens}

pub whole-short : (own : List Range) (l : Short) → IsLines (short_tokens own l)
whole-short own (short.Axiom a word form) = line-whole (codes "axiom") (address a ∷ address word ∷ form_tokens form ∷ [])
whole-short own (short.Inst p words mems) = line-whole (codes "inst") (number p ∷ flat_map word_place_tokens words ∷ flat_map mem_place_tokens mems ∷ [])
whole-short own (short.Frame p regs mems) = line-whole (codes "frame") (number p ∷ flat_map held_register_tokens regs ∷ (Semi ∷ []) ∷ flat_map term_number mems ∷ [])
whole-short own (short.ExtendCode p code) = line-whole (codes "extend") (number p ∷ (Atom (codes "code") ∷ code_tokens own code.ranges) ∷ [])
whole-short own (short.Compose p q) = line-whole (codes "compose") (number p ∷ number q ∷ [])
whole-short own (short.Strengthen p facts pre) = line-whole (codes "strengthen") (number p ∷ list_tokens (codes "facts") held_fact_tokens facts ∷ (Atom (codes "pre") ∷ held_side_tokens pre) ∷ [])
whole-short own (short.Weaken p facts post) = line-whole (codes "weaken") (number p ∷ list_tokens (codes "facts") held_fact_tokens facts ∷ (Atom (codes "post") ∷ held_side_tokens post) ∷ [])
whole-short own (short.Discharge p facts) = line-whole (codes "discharge") (number p ∷ list_tokens (codes "facts") held_fact_tokens facts ∷ [])
whole-short own (short.UseExit def exit) = line-whole (codes "use") (number def ∷ number exit ∷ [])
whole-short own (short.Loop def cited) = line-whole (codes "loop") (number def ∷ flat_map number cited ∷ [])
whole-short own (short.Forget k) = line-whole (codes "forget") (number k ∷ [])

pub some-short : (own : List Range) (l : Short) → 0 < length (short_tokens own l)
some-short own (short.Axiom a word form) = omega arith
some-short own (short.Inst p words mems) = omega arith
some-short own (short.Frame p regs mems) = omega arith
some-short own (short.ExtendCode p code) = omega arith
some-short own (short.Compose p q) = omega arith
some-short own (short.Strengthen p facts pre) = omega arith
some-short own (short.Weaken p facts post) = omega arith
some-short own (short.Discharge p facts) = omega arith
some-short own (short.UseExit def exit) = omega arith
some-short own (short.Loop def cited) = omega arith
some-short own (short.Forget k) = omega arith
