use Rattle.signaller_examples.proofs.tests.a_hundred_ranges.Given as goal

abbrev pub ghosts-look_up : goal.ghosts-look_up
ghosts-look_up g a = record { name = a.blank.name; parts = a.blank.parts }
