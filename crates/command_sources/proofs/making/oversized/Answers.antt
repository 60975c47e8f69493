use Rattle.command_passes.specs.Stops.{stop_case}
use Rattle.command_sources.specs.Bound.{configured}
use Rattle.command_sources.specs.Made.{no_memory}
use Rattle.command_sources.proofs.Filing.{base_is, base_plain, base_there, image_large, object_large}
use Rattle.command_sources.proofs.making.oversized.Goals as goal

pub bounds-as_slice-number : goal.bounds-as_slice-number
bounds-as_slice-number c =
    let h = rw c.in-Object.is at c.requires.fault in
    rw c.as_slice.ensures (base_there c.args.source.now c.requires.bound h.0 h.1 c.in-Object.number h.2)

pub too_large-requires : goal.too_large-requires
too_large-requires c =
    let h = rw c.in-Object.is at c.requires.fault in
    rw c.as_slice-base.ensures
    (base_plain c.args.source.now c.requires.bound h.0 h.1 c.in-Object.number h.2 c.index-as_slice-number.result (rw c.as_slice.ensures at c.index-as_slice-number.is))

pub returns-in-Object : goal.returns-in-Object
returns-in-Object c =
    let h = rw c.in-Object.is at c.requires.fault in
    object_large (configured c.args.source.now) c.args.base.now h.0 h.1 c.in-Object.number c.index-as_slice-number.result (stop_case c.too_large.result)
    (base_is c.args.source.now c.requires.bound h.0 h.1 c.in-Object.number h.2 c.index-as_slice-number.result (rw c.as_slice.ensures at c.index-as_slice-number.is))
    h.2 (rw c.as_slice-base.ensures at c.too_large.ensures)

pub returns-in-Image : goal.returns-in-Image
returns-in-Image c =
    let h = rw c.in-Image.is at c.requires.fault in
    image_large (configured c.args.source.now) c.args.base.now h.0 h.1 (stop_case c.too_large-in-Image.result) h.2 h.3 c.too_large-in-Image.ensures

pub returns-in-Memory : goal.returns-in-Memory
returns-in-Memory c = no_memory
