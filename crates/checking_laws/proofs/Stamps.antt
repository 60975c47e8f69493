-- A fault of the stamp hangs on the text's kind alone.
use Rattle.std.specs.Prelude.{ℕ, ◌≡◌, ◌↔◌, true, false, Some, None, Ok, Err, List, [], map}
use Rattle.std.proofs.Common.{refl, ap, subst, ◌∙◌}
use Rattle.mesa_base.specs.declared.place.Place.{Place}
use Rattle.mesa_base.specs.declared.identifier.Identifier.{Identifier}
use Rattle.syntax_trees.specs.Syntax as s
use Rattle.interface_records.specs.PlainTypes.{PlainInterface, interface_of, plain_interface}
use Rattle.check_rules.specs.Steps.{Fault, State, Checked, and_then, refuse}
use Rattle.check_rules.specs.Around.{body_of}
use Rattle.check_rules.specs.Phrases.{is_catch}
use Rattle.check_rules.specs.Programs.{enabled, outermost, offers_of}
use Rattle.check_rules.specs.Directory.{those_of}
use Rattle.check_rules.specs.CheckedModule.{checked, checked_definitions, program, program_by, interface_by, definitions, known_of, whole_of}
use Rattle.check_rules.specs.declared.fault.Cause.{Cause}
use Rattle.check_rules.specs.declared.fault.Cause.TheVariants.{StampMissing, StampUnwanted}
use Rattle.checking_laws.specs.Laws.{HasCause, AreDefinitions, IsProgram, StampFaultsAreOfTheKind}
use Rattle.checking_laws.proofs.Using.{IsOther, Given, Gives, Used, Anything, AnyNumber, all_right, and_gives}
use Rattle.checking_laws.proofs.Declarations.{OfWhole, whole_in_used, all_defined_used}
use Rattle.checking_laws.proofs.Lists.{lists_given, exported_given}

any_fault : {A : Type 0} (P : A → ℕ → Type 0) (before : ℕ) (r : Checked (A × State)) → Used P before r → Gives Anything r
any_fault P before (Ok x) h = record { given = tt }
any_fault P before (Err f) h = record { given = h }

no_cause : {A : Type 0} {P : A → Type 0} (c : Cause) (r : Checked A) → Gives P r → (IsOther c → ⊥) → HasCause c r → ⊥
no_cause {A} {P} c r h k f = k (subst IsOther f.2 (other r h f.0 f.1))
  where
    other : (r : Checked A) → Gives P r → (f : Fault) → r ≡ Err f → IsOther f.cause
    other (Ok a) h f e = cc
    other (Err g) h f e = subst (λ (x : Checked A). Given P x) e h.given

is_missing : IsOther StampMissing → ⊥
is_missing h = h

is_unwanted : IsOther StampUnwanted → ⊥
is_unwanted h = h

-- a refusal has its own cause
cause_in : {A : Type 0} → Cause → Checked A → Cause
cause_in c (Ok a) = c
cause_in c (Err f) = f.cause

abbrev IsMissing : Cause → Type 0
IsMissing StampMissing = Unit {0}
IsMissing _ = ⊥

abbrev IsUnwanted : Cause → Type 0
IsUnwanted StampUnwanted = Unit {0}
IsUnwanted _ = ⊥

own_cause : {A : Type 0} (c d : Cause) (p : Place) → HasCause d (refuse {A = A} c p) → c ≡ d
unfolding cause_in
own_cause c d p h = ap (cause_in c) h.1 ∙ h.2

module _ (m : s.Module) (is : List PlainInterface) where
  program_given : (imports exports opens : List Identifier) (inner : s.Inner) → Gives Anything (program m is imports exports opens inner)
  program_given imports exports opens inner =
      and_gives (lists_given m is imports exports opens) (λ v w.
      and_gives (any_fault (OfWhole inner) _ (whole_of m is imports opens inner)
      ((whole_in_used (enabled (is_catch inner.enable) (body_of (known_of m None true imports is) [] [])) m.name.place inner).in_state _)) (λ r w.
      and_gives (exported_given (offers_of r.0.declared) (those_of m.directory is exports)) (λ es h. all_right tt)))

  definitions_given : (stamp : ℕ) (opens : List Identifier) (defs : List s.Definition) → Gives Anything (definitions m stamp is opens defs)
  definitions_given stamp opens defs =
      and_gives (lists_given m is [] [] opens) (λ v w.
      and_gives (any_fault AnyNumber _ _ ((all_defined_used (outermost (body_of (known_of m (Some stamp) false [] is) [] [])) defs).in_state _)) (λ r w. all_right tt))

  missing : (k : s.ModuleKind) → HasCause StampMissing (program_by m is k) ↔ AreDefinitions k
  missing (s.Program p imports exports opens inner) =
      (no_cause StampMissing (program m is imports exports opens inner) (program_given imports exports opens inner) is_missing, λ h. absurd h)
  missing (s.Interface p opens defs) = (λ h. tt, λ h. (record { cause = StampMissing; place = p }, refl, refl))

  none_unwanted : (k : s.ModuleKind) → HasCause StampUnwanted (program_by m is k) → ⊥
  none_unwanted (s.Program p imports exports opens inner) h =
      no_cause StampUnwanted (program m is imports exports opens inner) (program_given imports exports opens inner) is_unwanted h
  none_unwanted (s.Interface p opens defs) h = subst IsMissing (own_cause StampMissing StampUnwanted p h) tt

  given_interface : (stamp : ℕ) (opens : List Identifier) (defs : List s.Definition)
      → Gives Anything (and_then (definitions m stamp is opens defs) (λ i. Ok (interface_of i)))
  given_interface stamp opens defs = and_gives (definitions_given stamp opens defs) (λ i w. all_right tt)

  unwanted : (stamp : ℕ) (k : s.ModuleKind) → HasCause StampUnwanted (and_then (interface_by m stamp is k) (λ i. Ok (interface_of i))) ↔ IsProgram k
  unwanted stamp (s.Program p imports exports opens inner) = (λ h. tt, λ h. (record { cause = StampUnwanted; place = p }, refl, refl))
  unwanted stamp (s.Interface p opens defs) = (
    no_cause StampUnwanted (and_then (definitions m stamp is opens defs) (λ i. Ok (interface_of i))) (given_interface stamp opens defs) is_unwanted,
    λ h. absurd h,
  )

  none_missing : (stamp : ℕ) (k : s.ModuleKind) → HasCause StampMissing (and_then (interface_by m stamp is k) (λ i. Ok (interface_of i))) → ⊥
  none_missing stamp (s.Program p imports exports opens inner) h = subst IsUnwanted (own_cause StampUnwanted StampMissing p h) tt
  none_missing stamp (s.Interface p opens defs) h =
      no_cause StampMissing (and_then (definitions m stamp is opens defs) (λ i. Ok (interface_of i))) (given_interface stamp opens defs) is_missing h

pub stamp_faults_are_of_the_kind : StampFaultsAreOfTheKind
unfolding checked checked_definitions
stamp_faults_are_of_the_kind = record {
  missing = λ m is. missing m (map plain_interface is) m.kind;
  none_unwanted = λ m is. none_unwanted m (map plain_interface is) m.kind;
  unwanted = λ m stamp is. unwanted m (map plain_interface is) stamp m.kind;
  none_missing = λ m stamp is. none_missing m (map plain_interface is) stamp m.kind;
}
