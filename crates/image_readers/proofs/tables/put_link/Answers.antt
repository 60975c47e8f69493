use Rattle.image_readers.proofs.tables.put_link.Goals as goal

pub returns-in-Some : goal.returns-in-Some
returns-in-Some c = λ needed more start. rw c.in-Some.is (λ on. c.put_needed.ensures needed more start on)

pub returns-in-None : goal.returns-in-None
returns-in-None c = λ needed more start. rw c.in-None.is (λ on. on)
