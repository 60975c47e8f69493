use Rattle.load_checks.proofs.checking.differing.Goals as goal

pub returns-in-Some : goal.returns-in-Some
returns-in-Some c = λ other. (c.in-Some.wanted.now, c.in-Some.ensures, c.face_differs.ensures other)
