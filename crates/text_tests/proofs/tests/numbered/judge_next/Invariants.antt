use Rattle.text_tests.proofs.tests.numbered.judge_next.Given as goal

abbrev pub ghosts-judge : goal.ghosts-judge
ghosts-judge a = record { name = a.blank.name; parts = a.blank.parts }
