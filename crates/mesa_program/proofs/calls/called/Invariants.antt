use Rattle.mesa_program.proofs.calls.called.Given as goal

abbrev pub ghosts-counted : goal.ghosts-counted
ghosts-counted a = record { name = a.blank.name; parts = a.blank.parts }
