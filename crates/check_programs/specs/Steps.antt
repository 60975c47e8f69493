-- Declarations, as the code takes their steps.
use Rattle.std.specs.Prelude.{ℕ, ◌+◌, List, [], Option, nat_le}
use Rattle.mesa_base.specs.declared.identifier.Identifier.{Identifier}
use Rattle.mesa_base.specs.declared.limits.TheConstants.{SIGNAL_WORDS}
use Rattle.mesa_base.specs.declared.place.Place.{Place}
use Rattle.syntax_trees.specs.Syntax as s
use Rattle.mesa_types.specs.declared.faces.ItemKind.{ItemKind}
use Rattle.syntax_trees.specs.declared.syntax.Access.{Access}
use Rattle.check_rules.specs.Around.{Around}
use Rattle.check_rules.specs.Names.{announce}
use Rattle.check_rules.specs.Parts.{first_name}
use Rattle.interface_records.specs.PlainTypes.{words_of_fields}
use Rattle.check_rules.specs.Programs.{Declared, DataHead, Heading, heading, declared_procedure, declared_signals}
use Rattle.check_rules.specs.Checking.{head}
use Rattle.check_rules.specs.Steps.{Check, Checked, ◌>>=◌, pure, only, measured, within_operands}
use Rattle.check_rules.specs.declared.fault.Cause.TheVariants.{FrameTooLarge}

-- a type, variables or a constant
abbrev pub data_declared : Around → List Identifier → s.PlainItem → Check Declared
data_declared a xs d = head a xs d >>= (λ h. pure (record { head = DataHead h; procedures = 0; signals = []; offers = [] }))

abbrev pub procedure_declared : Around → ℕ → List Identifier → Option Access → s.Head → Check Declared
procedure_declared a np xs access h = announce xs >>= (λ _. measured (heading a h.takes h.gives) >>= (λ x. declared_procedure xs access np x))

-- a signal or an error
abbrev pub signals_declared : Around → ℕ → List Identifier → Option Access → ItemKind → Option s.FieldList → Option s.FieldList → Check Declared
signals_declared a ns xs access kind takes gives =
    within_operands 0 (first_name xs) (announce xs >>= (λ _. heading a takes gives >>= (λ h. declared_signals kind xs access ns h)))

-- the words of the parameters and results of a signal or an error are limited
abbrev pub few_signal_words : Heading → Place → Checked (Unit {0})
few_signal_words h p = only (nat_le (words_of_fields h.takes + words_of_fields h.gives) SIGNAL_WORDS) FrameTooLarge p
