use Rattle.machine_ready.proofs.innermost.innermost_of.Given as goal

abbrev pub ghosts-found_counted : goal.ghosts-found_counted
ghosts-found_counted a = record { name = a.blank.name; parts = a.blank.parts }
