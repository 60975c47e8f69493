use Rattle.command_loads.proofs.together.joined.Goals as goal

pub with_lack-requires-clause-lack : goal.with_lack-requires-clause-lack
with_lack-requires-clause-lack c = rw c.in-Some.is at c.requires.lack

pub without_lack-requires-clause-had : goal.without_lack-requires-clause-had
without_lack-requires-clause-had c = rw c.in-None.is at c.requires.lack
