-- What one declaration leaves, by its form and by that of its head.
use Rattle.std.proofs.Common.{◌≡◌, ℕ, List, Option, Ok, Err, refl, ap}
use Rattle.mesa_base.specs.declared.identifier.Identifier.{Identifier}
use Rattle.mesa_types.specs.Plain as tree
use Rattle.syntax_trees.specs.Syntax as s
use Rattle.mesa_types.specs.declared.typed_tree.TypedProcedure.{TypedProcedure}
use Rattle.check_rules.specs.Around.{Around}
use Rattle.check_rules.specs.Meanings.{Meaning}
use Rattle.interface_records.specs.PlainTypes.{PlainItem}
use Rattle.check_rules.specs.Programs.{DataHead, ProcedureHead, SignalHead, and_procedure, procedure, value_of}
use Rattle.check_rules.specs.Scopes.{Scope}
use Rattle.check_rules.specs.Statements.{Headed}
use Rattle.check_rules.specs.Steps.{State, Fault, and_then}
use Rattle.check_programs.specs.Views.{value}
use Rattle.check_programs.specs.declared.values.Value.TheVariants.{Nothing, OfProcedure}

module _ (a : Around) (xs : List Identifier) (σ : State) where
  pub procedure_value : (hd : s.Head) (b : s.Block) (i : PlainItem) (scope : Scope Meaning) (operands : ℕ) (p : TypedProcedure) (τ : State)
      → procedure a.known xs i scope operands b σ ≡ Ok (tree.plain_procedure p, τ)
      → value_of a xs (s.Procedure hd b) (ProcedureHead i scope operands) σ ≡ Ok (value (OfProcedure p), τ)
  unfolding value_of
  procedure_value hd b i scope operands p τ e = ap (λ r. and_then r (λ x. Ok (and_procedure x.0, x.1))) e

  pub procedure_fault : (hd : s.Head) (b : s.Block) (i : PlainItem) (scope : Scope Meaning) (operands : ℕ) (f : Fault)
      → procedure a.known xs i scope operands b σ ≡ Err f → value_of a xs (s.Procedure hd b) (ProcedureHead i scope operands) σ ≡ Err f
  unfolding value_of
  procedure_fault hd b i scope operands f e = ap (λ r. and_then r (λ x. Ok (and_procedure x.0, x.1))) e

  pub data_of_procedure : (hd : s.Head) (b : s.Block) (h : Headed) → value_of a xs (s.Procedure hd b) (DataHead h) σ ≡ Ok (value Nothing, σ)
  unfolding value_of
  data_of_procedure hd b h = refl

  pub data_of_signal : (hd : s.Head) (h : Headed) → value_of a xs (s.Signal hd) (DataHead h) σ ≡ Ok (value Nothing, σ)
  unfolding value_of
  data_of_signal hd h = refl

  pub data_of_error : (takes : Option s.FieldList) (h : Headed) → value_of a xs (s.Error takes) (DataHead h) σ ≡ Ok (value Nothing, σ)
  unfolding value_of
  data_of_error takes h = refl

  pub procedure_of_data : (d : s.PlainItem) (i : PlainItem) (scope : Scope Meaning) (operands : ℕ) → value_of a xs (s.Data d) (ProcedureHead i scope operands) σ ≡ Ok (value Nothing, σ)
  unfolding value_of
  procedure_of_data d i scope operands = refl

  pub procedure_of_signal : (hd : s.Head) (i : PlainItem) (scope : Scope Meaning) (operands : ℕ) → value_of a xs (s.Signal hd) (ProcedureHead i scope operands) σ ≡ Ok (value Nothing, σ)
  unfolding value_of
  procedure_of_signal hd i scope operands = refl

  pub procedure_of_error : (takes : Option s.FieldList) (i : PlainItem) (scope : Scope Meaning) (operands : ℕ) → value_of a xs (s.Error takes) (ProcedureHead i scope operands) σ ≡ Ok (value Nothing, σ)
  unfolding value_of
  procedure_of_error takes i scope operands = refl

  pub no_signal : (d : s.Declared) → value_of a xs d SignalHead σ ≡ Ok (value Nothing, σ)
  unfolding value_of
  no_signal (s.Data d) = refl
  no_signal (s.Procedure hd b) = refl
  no_signal (s.Signal hd) = refl
  no_signal (s.Error takes) = refl
