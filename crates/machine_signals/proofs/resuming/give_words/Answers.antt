use Rattle.std.proofs.Common.{arith}
use Rattle.machine_activations.specs.Calling.{LeadsTo}
use Rattle.machine_signals.proofs.Resumed.{top_there, some_under, words_low, words_source, words_room, words_shown}
use Rattle.machine_signals.proofs.resuming.give_words.Goals as goal

pub overflow_sub-under : goal.overflow_sub-under
overflow_sub-under c = some_under c.args.image.now c.args.stack.now.layout c.requires.prepared c.args.stack.now.region.items c.args.stack.now.rows.items c.args.r c.args.code.now c.requires.code c.args.count c.requires.at c.requires.stands.start c.requires.stands.store c.requires.stands.shown c.requires.resumes c.requires.room.ample.wide

pub row_of-below-requires : goal.row_of-below-requires
row_of-below-requires c = let l = top_there c.args.image.now c.args.stack.now.layout c.requires.prepared c.args.stack.now.region.items c.args.stack.now.rows.items c.args.r c.args.code.now c.requires.code c.args.count c.requires.at c.requires.stands.start c.requires.stands.store c.requires.stands.shown in record { there = omega (arith, l) }

pub overflow_sub-r : goal.overflow_sub-r
overflow_sub-r c = words_low c.args.image.now c.args.stack.now.layout c.requires.prepared c.args.stack.now.region.items c.args.stack.now.rows.items c.args.r c.args.code.now c.requires.code c.args.count c.requires.at c.requires.stands.start c.requires.stands.store c.requires.stands.shown c.requires.resumes c.requires.room.ample.wide

pub overflow_add-below : goal.overflow_add-below
overflow_add-below c = let entry = (words_room c.args.image.now c.args.stack.now.layout c.requires.prepared c.args.stack.now.region.items c.args.stack.now.rows.items c.args.r c.args.code.now c.requires.code c.args.count c.requires.at c.requires.stands.start c.requires.stands.store c.requires.stands.shown c.requires.resumes c.requires.room.ample.wide c.row_of-below.result c.row_of-below.ensures).entry in omega (arith, entry)

pub give-requires-clause-source : goal.give-requires-clause-source
give-requires-clause-source c = words_source c.args.image.now c.args.stack.now.layout c.requires.prepared c.args.stack.now.region.items c.args.stack.now.rows.items c.args.r c.args.code.now c.requires.code c.args.count c.requires.at c.requires.stands.start c.requires.stands.store c.requires.stands.shown c.requires.resumes c.requires.room.ample.wide

pub give-requires-clause-room : goal.give-requires-clause-room
give-requires-clause-room c = (words_room c.args.image.now c.args.stack.now.layout c.requires.prepared c.args.stack.now.region.items c.args.stack.now.rows.items c.args.r c.args.code.now c.requires.code c.args.count c.requires.at c.requires.stands.start c.requires.stands.store c.requires.stands.shown c.requires.resumes c.requires.room.ample.wide c.row_of-below.result c.row_of-below.ensures).room

pub give-requires-clause-owner : goal.give-requires-clause-owner
give-requires-clause-owner c = (words_room c.args.image.now c.args.stack.now.layout c.requires.prepared c.args.stack.now.region.items c.args.stack.now.rows.items c.args.r c.args.code.now c.requires.code c.args.count c.requires.at c.requires.stands.start c.requires.stands.store c.requires.stands.shown c.requires.resumes c.requires.room.ample.wide c.row_of-below.result c.row_of-below.ensures).owner_fits

pub returns-clause-leads : goal.returns-clause-leads
unfolding LeadsTo
returns-clause-leads c s m shown =
    words_shown c.args.image.now c.args.stack.now.layout c.requires.prepared c.args.stack.now.region.items c.args.stack.now.rows.items c.args.r c.args.code.now c.requires.code c.args.count c.requires.at s m shown c.requires.resumes c.requires.room.ample.wide c.row_of-below.result c.row_of-below.ensures c.give.new.region.items c.give.result c.give.ensures.words c.give.ensures.registers
