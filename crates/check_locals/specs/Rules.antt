-- The rules of heads and initial values, as the code takes them.
use Rattle.std.specs.Prelude.{ℕ, List, Ok, map}
use Rattle.mesa_base.specs.declared.identifier.Identifier.{Identifier}
use Rattle.mesa_base.specs.declared.place.Place.{Place}
use Rattle.syntax_trees.specs.Syntax as s
use Rattle.check_rules.specs.Typed as t
use Rattle.check_rules.specs.Around.{Around, in_constant}
use Rattle.check_rules.specs.Checking as spec
use Rattle.check_rules.specs.Meanings.{Meaning, TypeName}
use Rattle.check_rules.specs.Names.{announce, settle}
use Rattle.check_rules.specs.Parts.{first, first_name}
use Rattle.check_rules.specs.Phrases.{holds}
use Rattle.interface_records.specs.PlainTypes.{PlainType, kind_of}
use Rattle.check_rules.specs.Ranges.{Into}
use Rattle.check_rules.specs.Statements.{Headed, Nothing, constant_meaning, declare}
use Rattle.check_rules.specs.Steps.{Check, and_then, ◌>>=◌, lift, measured, pure}
use Rattle.check_simple_statements.specs.Whole.{counted, from_start}

-- a type
unfoldable pub type_head : Around → List Identifier → s.TypeExp → Check Headed
type_head a xs e = do
  _ ← announce xs
  k ← spec.type_exp a e
  _ ← settle xs (map (λ x. TypeName k) xs)
  pure Nothing

-- variables without an initial value
unfoldable pub variable_head : Around → List Identifier → s.TypeExp → Check Headed
variable_head a xs e = do
  _ ← announce xs
  k ← spec.type_exp a e
  declare a xs k 0

-- variables with an initial value
unfoldable pub initial_head : Around → List Identifier → s.TypeExp → Check Headed
initial_head a xs e = do
  _ ← announce xs
  k ← measured (spec.type_exp a e)
  declare a xs k.0 k.1

-- what a constant means
unfoldable pub constant_value : Around → s.TypeExp → s.Expr → Check Meaning
constant_value a e x = do
  k ← spec.type_exp a e
  y ← spec.check (in_constant (first x) a) (Into k (first x)) x
  lift (constant_meaning a k x (first x) y.value)

-- a constant
unfoldable pub constant_head : Around → List Identifier → s.TypeExp → s.Expr → Check Headed
constant_head a xs e x = do
  _ ← announce xs
  m ← constant_value a e x
  _ ← settle xs (map (λ x. m) xs)
  pure Nothing

-- a head whose words are counted
abbrev pub head_ended : Place → ℕ → Headed → Check Headed
head_ended p outside h = λ s. and_then (counted 0 p outside s) (λ u. Ok (h, u.1))

-- variables with their initial value
unfoldable pub valued : Around → List t.Home → PlainType → s.Expr → Check t.Stmt
valued a homes k x = do
  y ← spec.check a (Into k (first x)) x
  pure (t.DeclareAs homes (kind_of k) y.value)

-- the same, with its operands counted and its number
abbrev pub whole_value : Around → List Identifier → List t.Home → PlainType → ℕ → s.Expr → Check t.Stmt
whole_value a xs homes k words x = from_start a (holds x) words (first_name xs) (λ a. valued a homes k x)
