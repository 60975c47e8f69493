-- The law of the built-in interface.
use Rattle.interface_records.specs.Faces.{iodefs}
use Rattle.interface_records.specs.PlainTypes.{plain_interface}
use Rattle.interface_records.specs.Spelled.{InterfaceCanBeSpelled}

-- files can spell the built-in interface, so that it is one of those that may be given to a text
abbrev pub BuiltInCanBeSpelled : Type 0
BuiltInCanBeSpelled = InterfaceCanBeSpelled (plain_interface iodefs)
