use Rattle.tests_image.proofs.tests.leaders.leads_in.Given as goal

abbrev pub ghosts-leads_by : goal.ghosts-leads_by
ghosts-leads_by g a = record { name = a.blank.name; parts = a.blank.parts }
