use Rattle.proof_text.proofs.put_lines.put_rule.Goals as goal

pub returns-in-Discharge-clause-ok : goal.returns-in-Discharge-clause-ok
returns-in-Discharge-clause-ok c = rw c.in-Discharge.is c.put_cited-in-Discharge.ensures.ok
