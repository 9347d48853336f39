use Rattle.link_driver.proofs.certificates.chain_once_folded.Given as goal

abbrev pub ghosts-fold_items : goal.ghosts-fold_items
ghosts-fold_items g a = record { name = a.blank.name; parts = a.blank.parts }
