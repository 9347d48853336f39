use Rattle.link_passes.proofs.folding.find_leaders.Given as goal

abbrev pub ghosts-fold_items : goal.ghosts-fold_items
ghosts-fold_items g a = record { name = a.blank.name; parts = a.blank.parts }
