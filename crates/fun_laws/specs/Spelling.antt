-- How certificates of rewriting are written: a line a rule.
--
--   CERT  = mclaws 1 eol OLD STEP* result eol DEF+ end eol
--   OLD   = GROUP                        the group from which the steps start, without the lines of a proof
--   STEP  = rw D D PLACE D eol           the definition, the term, the place in it, the law
--   PLACE = - | DIGIT+                   the whole term, or the children's numbers on the way
--
-- D is a decimal; GROUP and DEF are those of groups.
use Rattle.std.specs.Prelude.{ℕ, ◌+◌, List, [], ◌∷◌, ◌++◌, codes, map, flat_map}
use Rattle.mc_text.specs.Tokens.{Tok, Atom, spell}
use Rattle.mc_text.specs.declared.token.Before.TheVariants.{Start}
use Rattle.tailrec_lang.specs.Tree.{DefTree, GroupTree, def_tree, group_tree}
use Rattle.group_text.specs.Spelling.{line, number, group_tokens, def_tokens, end_tokens}
use Rattle.fun_laws.specs.declared.step.Rw.{Rw}
use Rattle.fun_laws.specs.declared.cert.Cert.{Cert}

-- a certificate: a group, steps, and the definitions that they give
pub record CertTree : Type 0 where
  pub old : GroupTree
  pub steps : List Rw
  pub result : List DefTree

abbrev pub cert_tree : Cert → CertTree
cert_tree c = record { old = group_tree c.old; steps = c.steps; result = map def_tree c.result }

-- a digit for each number
abbrev pub digits : List ℕ → List ℕ
digits ks = map (λ k. 48 + k) ks

abbrev pub place_text : List ℕ → List ℕ
place_text [] = codes "-"
place_text (k ∷ ks) = digits (k ∷ ks)

abbrev pub cert_step_tokens : Rw → List Tok
cert_step_tokens r = line (codes "rw") (number r.def ∷ number r.term ∷ (Atom (place_text r.place) ∷ []) ∷ number r.law ∷ [])

abbrev pub cert_title_tokens : List Tok
cert_title_tokens = line (codes "mclaws") ((Atom (codes "1") ∷ []) ∷ [])

abbrev pub result_tokens : List Tok
result_tokens = line (codes "result") []

abbrev pub cert_tokens : CertTree → List Tok
cert_tokens c = cert_title_tokens ++ (group_tokens c.old ++ (flat_map cert_step_tokens c.steps ++ (result_tokens ++ (flat_map def_tokens c.result ++ end_tokens))))

-- the text of a certificate
abbrev pub cert_text : CertTree → List ℕ
cert_text c = spell Start (cert_tokens c)
