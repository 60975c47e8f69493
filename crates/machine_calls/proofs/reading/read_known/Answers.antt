use Rattle.std.proofs.Common.{ap, ◌∙◌, refl}
use Rattle.std.specs.Prelude.{slice_set}
use Rattle.machine_calls.specs.declared.ahead.Coming.TheVariants.{Byte, End}
use Rattle.machine_calls.specs.declared.host.Reading.TheVariants.{Next, AtEnd}
use Rattle.machine_calls.specs.declared.reading.ReadSequel.TheVariants.{Goes, NoInput}
use Rattle.machine_calls.proofs.HostReads.{reads_char, reads_none, tells_more, tells_end, pushed_registers, pushed_behind, goes_behind, reads_so, read_fits}
use Rattle.machine_calls.proofs.reading.read_known.Goals as goal

pub pushed-requires-clause-room : goal.pushed-requires-clause-room
pushed-requires-clause-room c = (read_fits c.args.region.now c.args.r c.args.reading c.requires).0

pub pushed-requires-clause-entry : goal.pushed-requires-clause-entry
pushed-requires-clause-entry c = (read_fits c.args.region.now c.args.r c.args.reading c.requires).1

pub pushed-requires-in-AtEnd-clause-room : goal.pushed-requires-in-AtEnd-clause-room
pushed-requires-in-AtEnd-clause-room c = (read_fits c.args.region.now c.args.r c.args.reading c.requires).0

pub pushed-requires-in-AtEnd-clause-entry : goal.pushed-requires-in-AtEnd-clause-entry
pushed-requires-in-AtEnd-clause-entry c = (read_fits c.args.region.now c.args.r c.args.reading c.requires).1

pub pushed-requires-in-AtEnd-reading-clause-room : goal.pushed-requires-in-AtEnd-reading-clause-room
pushed-requires-in-AtEnd-reading-clause-room c = (read_fits c.args.region.now c.args.r c.args.reading c.requires).0

pub pushed-requires-in-AtEnd-reading-clause-entry : goal.pushed-requires-in-AtEnd-reading-clause-entry
pushed-requires-in-AtEnd-reading-clause-entry c = (read_fits c.args.region.now c.args.r c.args.reading c.requires).1

pub returns-in-Next-clause-leads : goal.returns-in-Next-clause-leads
returns-in-Next-clause-leads c =
    reads_so c.args.region.now c.pushed.new.region c.args.r c.args.reading Next c.args.coming (Byte c.in-Byte.byte) c.pushed.result (Goes (pushed_registers c.args.r)) c.in-Next.is c.in-Byte.is c.pushed.ensures.registers
    (reads_char c.args.region.now c.pushed.new.region c.args.r (pushed_registers c.args.r) c.in-Byte.byte
    (c.pushed.ensures.region ∙ ap (λ w. slice_set c.args.region.now c.args.r.sp w) c.from.ensures) (pushed_behind c.args.r Next))

pub returns-in-AtEnd-clause-leads : goal.returns-in-AtEnd-clause-leads
returns-in-AtEnd-clause-leads c =
    reads_so c.args.region.now c.pushed-in-AtEnd.new.region c.args.r c.args.reading AtEnd c.args.coming (Byte c.in-Byte.byte) c.pushed-in-AtEnd.result (Goes (pushed_registers c.args.r)) c.in-AtEnd.is c.in-Byte.is
    c.pushed-in-AtEnd.ensures.registers
    (tells_more c.args.region.now c.pushed-in-AtEnd.new.region c.args.r (pushed_registers c.args.r) c.in-Byte.byte c.pushed-in-AtEnd.ensures.region (pushed_behind c.args.r AtEnd))

pub returns-in-Next-reading-clause-leads : goal.returns-in-Next-reading-clause-leads
returns-in-Next-reading-clause-leads c =
    reads_so c.args.region.now c.args.region.now c.args.r c.args.reading Next c.args.coming End NoInput NoInput c.in-Next-reading.is c.in-End.is refl
    (reads_none c.args.region.now c.args.region.now c.args.r refl)

pub returns-in-AtEnd-reading-clause-leads : goal.returns-in-AtEnd-reading-clause-leads
returns-in-AtEnd-reading-clause-leads c =
    reads_so c.args.region.now c.pushed-in-AtEnd-reading.new.region c.args.r c.args.reading AtEnd c.args.coming End c.pushed-in-AtEnd-reading.result (Goes (pushed_registers c.args.r)) c.in-AtEnd-reading.is c.in-End.is
    c.pushed-in-AtEnd-reading.ensures.registers
    (tells_end c.args.region.now c.pushed-in-AtEnd-reading.new.region c.args.r (pushed_registers c.args.r) c.pushed-in-AtEnd-reading.ensures.region (pushed_behind c.args.r AtEnd))

pub returns-in-Next-clause-behind : goal.returns-in-Next-clause-behind
returns-in-Next-clause-behind c = goes_behind c.args.r c.args.reading c.pushed.result c.pushed.ensures.registers

pub returns-in-AtEnd-clause-behind : goal.returns-in-AtEnd-clause-behind
returns-in-AtEnd-clause-behind c = goes_behind c.args.r c.args.reading c.pushed-in-AtEnd.result c.pushed-in-AtEnd.ensures.registers

pub returns-in-AtEnd-reading-clause-behind : goal.returns-in-AtEnd-reading-clause-behind
returns-in-AtEnd-reading-clause-behind c = goes_behind c.args.r c.args.reading c.pushed-in-AtEnd-reading.result c.pushed-in-AtEnd-reading.ensures.registers
