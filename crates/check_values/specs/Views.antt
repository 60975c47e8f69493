-- What the code's values stand for.
use Rattle.std.specs.Prelude.{List, map}
use Rattle.check_rules.specs.mesa_types.specs.Plain as tree
use Rattle.check_rules.specs.mesa_types.specs.Plain.{expr}
use Rattle.check_rules.specs.mesa_types.specs.Typed as t
use Rattle.check_rules.specs.mesa_types.specs.declared.typed_tree.Operation.{Operation}
use Rattle.check_rules.specs.interface_records.specs.PlainTypes.{plain}
use Rattle.check_rules.specs.Operators as operators
use Rattle.check_rules.specs.Statements as statements
use Rattle.check_rules.specs.Values as values
use Rattle.check_state.specs.Views.{typed}
use Rattle.check_values.specs.declared.operators.Sort.{Sort}
use Rattle.check_values.specs.declared.operators.Sort.TheVariants.{Number, LongNumber, Letter, Truth, Other}
use Rattle.check_values.specs.declared.operators.Meeting.{Meeting}
use Rattle.check_values.specs.declared.operators.Applied.{Applied}
use Rattle.check_values.specs.declared.long_operators.Fit.{Fit}
use Rattle.check_values.specs.declared.long_operators.Fit.TheVariants.{AsLiteral, By}
use Rattle.check_values.specs.declared.long_operators.LongMeeting.{LongMeeting}
use Rattle.check_values.specs.declared.long_operators.LongApplied.{LongApplied}
use Rattle.check_values.specs.declared.operations.Application.{Application}
use Rattle.check_values.specs.declared.operations.Application.TheVariants.{OfWords, OfLongs}
use Rattle.check_values.specs.declared.operations.Relating.{Relating}
use Rattle.check_values.specs.declared.operations.Relating.TheVariants.{Longs, Words}
use Rattle.check_values.specs.declared.sums.Sum.{Sum}
use Rattle.check_values.specs.declared.sums.Sum.TheVariants.{Begun, InWords, InLongs}
use Rattle.check_values.specs.declared.sums.Done.{Done}
use Rattle.check_values.specs.declared.intervals.Ends.{Ends}

abbrev pub sort : Sort → operators.Sort
sort (Number b) = operators.Number b
sort (LongNumber b) = operators.LongNumber b
sort Letter = operators.Letter
sort Truth = operators.Truth
sort Other = operators.Other

abbrev pub meeting : Meeting → operators.Meeting
meeting m = record { base = m.base; left = m.left; right = m.right }

abbrev pub fit : Fit → operators.Fit
fit AsLiteral = operators.AsLiteral
fit (By c) = operators.By c

abbrev pub long_meeting : LongMeeting → operators.LongMeeting
long_meeting m = record { base = m.base; left = fit m.left; right = fit m.right }

abbrev pub applied : Applied → operators.Applied
applied x = record { left = x.left; operator = x.operator; right = x.right; kind = plain x.kind }

abbrev pub long_applied : LongApplied → operators.LongApplied
long_applied x = record { left = fit x.left; operator = x.operator; right = fit x.right; kind = plain x.kind }

abbrev pub application : Application → operators.Application
application (OfWords x) = operators.OfWords (applied x)
application (OfLongs x) = operators.OfLongs (long_applied x)

abbrev pub relating : Relating → operators.Relating
relating (Longs m) = operators.Longs (long_meeting m)
relating (Words m) = operators.Words (meeting m)

abbrev pub ends : Ends → statements.Ends
ends i = record {
  open_low = i.open_low;
  low_place = i.low_place;
  low = typed i.low;
  high_place = i.high_place;
  high = typed i.high;
  open_high = i.open_high;
}

unfoldable pub typed_operations : List Operation → t.Operations
typed_operations os = tree.chain (map tree.operation os) t.NoOperation

abbrev pub sum : Sum → values.Sum
sum (Begun e) = values.Begun (expr e)
sum (InWords e os) = values.InWords (expr e) (typed_operations os)
sum (InLongs e os) = values.InLongs (expr e) (typed_operations os)

abbrev pub done : Done → values.Done
done x = record { done = sum x.done; kind = plain x.kind }
