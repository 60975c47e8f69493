-- What the code's values stand for.
use Rattle.std.specs.Prelude.{ℕ, List, map, Option, Some}
use Rattle.mesa_base.specs.declared.place.Place.{Place}
use Rattle.mesa_types.specs.Plain as tree
use Rattle.mesa_types.specs.Plain.{expr}
use Rattle.mesa_types.specs.Typed as t
use Rattle.mesa_types.specs.declared.typed_tree.TypedExpr.{TypedExpr}
use Rattle.check_rules.specs.interface_records.specs.PlainTypes.{PlainType, plain, plain_item}
use Rattle.check_rules.specs.Ranges as ranges
use Rattle.check_rules.specs.Reached as reached
use Rattle.check_rules.specs.Values as values
use Rattle.check_state.specs.Views as words
use Rattle.check_state.specs.declared.typed.Typed.{Typed}
use Rattle.check_selectors.specs.check_values.specs.Views.{sum}
use Rattle.check_selectors.specs.check_values.specs.declared.sums.Run.{Run}
use Rattle.check_selectors.specs.Views as reaching
use Rattle.check_operands.specs.Lists.{kind_in, kind_placed}
use Rattle.check_operands.specs.Runs as runs
use Rattle.check_operands.specs.declared.arguments.Arguments.{Arguments}
use Rattle.check_operands.specs.declared.arguments.Raises.{Raises}
use Rattle.check_operands.specs.declared.arguments.Wanted.{Wanted}
use Rattle.check_operands.specs.declared.arguments.Wanted.TheVariants.{Each, Placed, All}
use Rattle.check_operands.specs.declared.arguments.Applied.{Applied}
use Rattle.check_operands.specs.declared.arguments.Applied.TheVariants.{ToIndex, ToCall, ToConstruct}
use Rattle.check_operands.specs.declared.steps.At.{At}
use Rattle.check_operands.specs.declared.steps.Level.{Level}
use Rattle.check_operands.specs.declared.steps.Level.TheVariants.{Bare, Sums, Alls, Somes}

unfoldable pub exprs : List TypedExpr → t.Exprs
exprs es = tree.exprs (map expr es)

abbrev pub run : Run → runs.Run
run a = record { start = a.start; done = sum a.done; kind = plain a.kind; literal = a.literal }

abbrev pub level : Level → values.Level
level Bare = values.Bare
level Sums = values.Sums
level Alls = values.Alls
level Somes = values.Somes

abbrev pub at : At → Place × reached.Reached
at x = (x.last, reaching.reached x.reached)

-- a value and where it begins
abbrev pub placed : Place × Typed → Place × ranges.Typed
placed x = (x.0, words.typed x.1)

abbrev pub arguments : Arguments → ranges.Arguments
arguments x = record { places = x.places; values = exprs x.values }

abbrev pub raises : Raises → values.Raises
raises r = record { raised = r.raised; head = plain_item r.head }

-- the type for the value with each number
abbrev pub wanted : Wanted → ℕ → Option PlainType
wanted (Each fs) = kind_in (words.fields fs.now)
wanted (Placed fs ns) = kind_placed (words.fields fs.now) ns.now
wanted (All k) = λ n. Some (plain k.now)

abbrev pub ordered : ℕ × Wanted → ℕ × (ℕ → Option PlainType)
ordered x = (x.0, wanted x.1)

abbrev pub applied : Applied → runs.Applied
applied (ToIndex x) = runs.ToIndex (reaching.bracketed x)
applied (ToCall c i) = runs.ToCall c (plain_item i)
applied (ToConstruct k) = runs.ToConstruct (plain k)
