-- What the code's values stand for.
use Rattle.std.specs.Prelude.{Bool, true, false, List, [], Option, Some, None}
use Rattle.mesa_types.specs.Plain.{expr, interval}
use Rattle.interface_records.specs.PlainTypes.{PlainField, PlainType, fields, plain}
use Rattle.check_rules.specs.Statements as rule
use Rattle.check_state.specs.Views.{gave}
use Rattle.check_declared.specs.declared.counting.Counter.{Counter}
use Rattle.check_declared.specs.declared.counting.Rounds.{Rounds}
use Rattle.check_declared.specs.declared.sources.Source.{Source}

abbrev pub rounds : Rounds → rule.Rounds
rounds r = record { base = r.base; kind = plain r.kind; interval = interval r.interval }

abbrev pub counter : Counter → rule.Counter
counter c = record { home = c.home; kind = plain c.kind }

abbrev pub or_none : Option (List PlainField) → List PlainField
or_none (Some fs) = fs
or_none None = []

-- the fields of a record, or what was given
abbrev pub fields_by : Bool → PlainType → Option (List PlainField) → List PlainField
fields_by true k given = or_none (fields k)
fields_by false k given = or_none given

abbrev pub source : Source → rule.Source
source x = record { of_record = x.of_record; value = expr x.value; fields = fields_by x.of_record (plain x.kind) (gave x.gave) }
