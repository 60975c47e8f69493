-- Interfaces that are found among those given.
use Rattle.std.specs.Prelude.{List, map}
use denote.Ref.{Bor}
use Rattle.interface_records.specs.declared.interface.Interface.{Interface}
use Rattle.interface_records.specs.PlainTypes.{PlainInterface, plain_interface}

abbrev pub found : List (Bor Interface) → List PlainInterface
found = map (λ (i : Bor Interface). plain_interface i.now)
