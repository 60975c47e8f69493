-- Where a text has a stamp and must not, or has none and must, no interface is looked at.
use Rattle.std.proofs.Common.{◌≡◌, ℕ, List, map, Ok, ap, subst, refl}
use Rattle.mesa_base.specs.declared.place.Place.{Place}
use Rattle.syntax_trees.specs.Syntax as s
use Rattle.interface_records.specs.declared.interface.Interface.{Interface}
use Rattle.interface_records.specs.PlainTypes.{PlainInterface, interface_of, plain_interface}
use Rattle.check_rules.specs.CheckedModule.{checked, checked_definitions, program_by, interface_by}
use Rattle.check_rules.specs.Laws.{AreDefinitionsAt, IsProgramAt, StampsComeFirst}
use Rattle.check_rules.specs.Steps.{Checked, and_then, refuse}
use Rattle.check_rules.specs.declared.fault.Cause.TheVariants.{StampMissing, StampUnwanted}

none_given : (m : s.Module) (is : List PlainInterface) (k : s.ModuleKind) (p : Place) → AreDefinitionsAt k p → program_by m is k ≡ refuse StampMissing p
none_given m is (s.Program q imports exports opens inner) p h = absurd h
none_given m is (s.Interface q opens defs) p h = subst (λ x. program_by m is (s.Interface q opens defs) ≡ refuse StampMissing x) h refl

one_given : (m : s.Module) (stamp : ℕ) (is : List PlainInterface) (k : s.ModuleKind) (p : Place) → IsProgramAt k p
    → interface_by m stamp is k ≡ refuse StampUnwanted p
one_given m stamp is (s.Program q imports exports opens inner) p h =
    subst (λ x. interface_by m stamp is (s.Program q imports exports opens inner) ≡ refuse StampUnwanted x) h refl
one_given m stamp is (s.Interface q opens defs) p h = absurd h

pub stamps_come_first : StampsComeFirst
unfolding checked checked_definitions
stamps_come_first = record {
  missing = λ m is p h. none_given m (map plain_interface is) m.kind p h;
  unwanted = λ m stamp is p h. ap (λ (x : Checked PlainInterface). and_then x (λ i. Ok (interface_of i)))
      (one_given m stamp (map plain_interface is) m.kind p h);
}
