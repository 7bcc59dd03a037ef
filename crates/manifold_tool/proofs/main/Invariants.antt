use Rattle.manifold_tool.proofs.main.Given as goal

abbrev pub ghosts-start_here : goal.ghosts-start_here
ghosts-start_here a = record { name = a.blank.name; parts = a.blank.parts }
