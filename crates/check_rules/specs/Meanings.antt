-- What names mean.
use Rattle.std.specs.Prelude.{ℕ}
use Rattle.check_rules.specs.Typed as t
use Rattle.interface_records.specs.PlainTypes.{PlainItem, PlainType}

pub data Meaning : Type 0 where
  Variable : t.Home → PlainType → Meaning
  -- a constant or an element of an enumeration, with its word, or, of a LONG type, its number as two words spell it
  Constant : PlainType → ℕ → Meaning
  -- a string literal's name
  TextConstant : ℕ → Meaning
  TypeName : PlainType → Meaning
  Procedure : t.Callee → PlainItem → Meaning
  -- a signal or an error
  Signal : t.Raised → PlainItem → Meaning
  -- an item of the DIRECTORY, by its number
  Interface : ℕ → Meaning
  -- a type, constant or variable of the module that is declared further on
  Later : Meaning
  -- a procedure, signal or error of the module whose head stands further on
  Headless : Meaning
  -- a procedure, signal or error of an interface that the module does not import
  NotImported : Meaning
