use Rattle.std.proofs.Common.{◌++◌, ap, sym, ◌∙◌}
use Rattle.std.proofs.lemmas.Option.{none-some}
use Rattle.mesa_base.specs.Name as names
use Rattle.load_checks.specs.Givers.{name_of}
use Rattle.load_checks.proofs.Alike.{named_so}
use Rattle.load_checks.proofs.faults.name_of.Goals as goal

pub unreachable-requires : goal.unreachable-requires
unreachable-requires c =
    none-some (name_of c.args.number)
    (sym c.in-None.is
    ∙ (c.in_ok-name.ensures
    ∙ ap names.name_of (c.as_slice.ensures ∙ (c.in_ok-extend_from_slice.ensures.ok ∙ (λ j. c.in_ok-bytes.ensures j ++ (c.as_bytes.ensures ∙ c.of-2.ensures) j))))
    ∙ named_so c.args.number c.ranges.number.fits)
