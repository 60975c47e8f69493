use Rattle.listing_writers.proofs.interfaces.put_item.Goals as goal

pub returns-in-Procedure : goal.returns-in-Procedure
returns-in-Procedure c = rw c.in-Procedure.is c.put_line.ensures
