-- What the code's values stand for.
use Rattle.std.specs.Prelude.{map}
use Rattle.check_rules.specs.Definitions as definition
use Rattle.interface_records.specs.PlainTypes.{plain_constant, plain_item, plain_name}
use Rattle.check_rules.specs.Programs as program
use Rattle.check_state.specs.Views.{fields, names}
use Rattle.check_heads.specs.declared.definitions.AllDefined.{AllDefined}
use Rattle.check_heads.specs.declared.heads.Heading.{Heading}

abbrev pub heading : Heading → program.Heading
heading h = record { takes = fields h.takes; gives = fields h.gives; scope = names h.scope }

abbrev pub defined : AllDefined → definition.Defined
defined d = record { items = map plain_item d.items; constants = map plain_constant d.constants; types = map plain_name d.types }
