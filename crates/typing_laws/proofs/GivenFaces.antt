-- The faces of imports and exports are those given.
use Rattle.std.specs.Prelude.{◌≡◌, ℕ, zero, suc, Bool, Option, Some, None, List, [], ◌∷◌, map, IfOk, slice_get}
use Rattle.std.specs.List.{All, Contains}
use Rattle.std.proofs.Common.{refl, sym, subst, arith}
use Rattle.std.proofs.lemmas.List.Elements.{All-cons, Contains-append_right}
use Rattle.mesa_base.specs.declared.identifier.Identifier.{Identifier}
use Rattle.syntax_trees.specs.Syntax as s
use Rattle.mesa_types.specs.declared.faces.Import.{Import}
use Rattle.mesa_types.specs.declared.faces.Export.{Export}
use Rattle.syntax_trees.specs.declared.syntax.DirectoryItem.{DirectoryItem}
use Rattle.interface_records.specs.declared.interface.Interface.{Interface}
use Rattle.check_rules.specs.Typed as t
use Rattle.interface_records.specs.PlainTypes.{PlainInterface, face_of, plain_interface}
use Rattle.check_rules.specs.Steps.{State}
use Rattle.check_rules.specs.Directory.{interface_at, put_some, those_of, place_in, names_in}
use Rattle.check_rules.specs.Programs.{Offer, Whole, imported, other_rows, pairs, exported, offers_of}
use Rattle.check_rules.specs.CheckedModule.{checked, program_by, module_of, lists, whole_of}
use Rattle.check_rules.specs.Laws.{ShapesAreGiven, faces}
use Rattle.typing_laws.proofs.Keeping.{OfSome}
use Rattle.typing_laws.proofs.RoundTrip.{face_back}
use Rattle.typing_laws.proofs.Outcomes.{then_ok, any_ok}

-- each of a list
Each : {A : Type 0} → (A → Type 0) → List A → Type 0
Each P [] = Unit {0}
Each P (x ∷ xs) = P x × Each P xs

all_of_each : {A : Type 0} (P : A → Type 0) (xs : List A) → Each P xs → All P xs
unfolding Each
all_of_each P [] h = λ k d l. absurd (omega (arith, l))
all_of_each P (x ∷ xs) h = All-cons P x xs h.0 (all_of_each P xs h.1)

abbrev IsGiven : List Interface → PlainInterface → Type 0
IsGiven is i = Contains (faces is) (face_of i)

got : (is : List Interface) (n : ℕ) → OfSome (IsGiven is) (slice_get (map plain_interface is) n)
got [] n = tt
got (i ∷ is) zero = subst (λ f. Contains (faces (i ∷ is)) f) (sym (face_back i)) (0, omega arith, refl)
got (i ∷ is) (suc n) = more (slice_get (map plain_interface is) n) (got is n)
  where
    more : (o : Option PlainInterface) → OfSome (IsGiven is) o → OfSome (IsGiven (i ∷ is)) o
    more None h = tt
    more (Some j) h = Contains-append_right (i.face ∷ []) (faces is) (face_of j) h

at_place : (is : List Interface) (o : Option ℕ) → OfSome (IsGiven is) (interface_at (map plain_interface is) o)
at_place is None = tt
at_place is (Some n) = got is n

put_given : (is : List Interface) (o : Option PlainInterface) (fs : List PlainInterface) → OfSome (IsGiven is) o → Each (IsGiven is) fs
    → Each (IsGiven is) (put_some o fs)
unfolding Each
put_given is None fs h k = k
put_given is (Some i) fs h k = (h, k)

those_given : (ds : List DirectoryItem) (is : List Interface) (xs : List Identifier) → Each (IsGiven is) (those_of ds (map plain_interface is) xs)
unfolding Each those_of
those_given ds is [] = tt
those_given ds is (x ∷ xs) = put_given is (interface_at (map plain_interface is) (place_in 0 (names_in ds) x.name)) (those_of ds (map plain_interface is) xs)
    (at_place is (place_in 0 (names_in ds) x.name)) (those_given ds is xs)

imports_given : (is : List Interface) (fs : List PlainInterface) (rows : List (List Bool)) → Each (IsGiven is) fs
    → Each (λ (i : Import). Contains (faces is) i.face) (imported fs rows)
unfolding Each imported
imports_given is [] rows h = tt
imports_given is (f ∷ fs) rows h = (h.0, imports_given is fs (other_rows rows) h.1)

exports_given : (is : List Interface) (os : List Offer) (fs : List PlainInterface) → Each (IsGiven is) fs
    → IfOk (exported os fs) (Each (λ (e : Export). Contains (faces is) e.face))
unfolding Each exported
exports_given is os [] h = tt
exports_given is os (f ∷ fs) h = then_ok (λ _. Unit {0}) (Each (λ (e : Export). Contains (faces is) e.face)) (pairs os 0 f.items) _
    (any_ok (pairs os 0 f.items)) (λ ps u.
    then_ok (Each (λ (e : Export). Contains (faces is) e.face)) (Each (λ (e : Export). Contains (faces is) e.face)) (exported os fs) _
    (exports_given is os fs h.1) (λ es k. (h.0, k)))

module _ (m : s.Module) (is : List Interface) where
  NameOf : t.Module → Type 0
  NameOf x = x.name ≡ m.name.name

  module_name : (imports exports : List Identifier) (r : Whole × State) → IfOk (module_of m (map plain_interface is) imports exports r) NameOf
  unfolding NameOf
  module_name imports exports r = then_ok (λ _. Unit {0}) NameOf (exported (offers_of r.0.declared) (those_of m.directory (map plain_interface is) exports)) _
      (any_ok (exported (offers_of r.0.declared) (those_of m.directory (map plain_interface is) exports))) (λ es u. refl)

  ImportsGiven : t.Module → Type 0
  ImportsGiven x = All (λ (i : Import). Contains (faces is) i.face) x.imports

  ExportsGiven : t.Module → Type 0
  ExportsGiven x = All (λ (e : Export). Contains (faces is) e.face) x.exports

  module_imports : (imports exports : List Identifier) (r : Whole × State) → IfOk (module_of m (map plain_interface is) imports exports r) ImportsGiven
  unfolding ImportsGiven
  module_imports imports exports r = then_ok (λ _. Unit {0}) ImportsGiven
      (exported (offers_of r.0.declared) (those_of m.directory (map plain_interface is) exports)) _ (any_ok _) (λ es u.
      all_of_each (λ (i : Import). Contains (faces is) i.face) (imported (those_of m.directory (map plain_interface is) imports) r.1.used)
      (imports_given is (those_of m.directory (map plain_interface is) imports) r.1.used (those_given m.directory is imports)))

  module_exports : (imports exports : List Identifier) (r : Whole × State) → IfOk (module_of m (map plain_interface is) imports exports r) ExportsGiven
  unfolding ExportsGiven
  module_exports imports exports r = then_ok (Each (λ (e : Export). Contains (faces is) e.face)) ExportsGiven
      (exported (offers_of r.0.declared) (those_of m.directory (map plain_interface is) exports)) _
      (exports_given is (offers_of r.0.declared) (those_of m.directory (map plain_interface is) exports) (those_given m.directory is exports))
      (λ es h. all_of_each (λ (e : Export). Contains (faces is) e.face) es h)

  by_kind : (P : t.Module → Type 0) → ((imports exports : List Identifier) (r : Whole × State)
      → IfOk (module_of m (map plain_interface is) imports exports r) P)
      → (k : s.ModuleKind) → IfOk (program_by m (map plain_interface is) k) P
  by_kind P h (s.Interface p opens defs) = tt
  by_kind P h (s.Program p imports exports opens inner) =
      then_ok (λ _. Unit {0}) P (lists m (map plain_interface is) imports exports opens) _ (any_ok (lists m (map plain_interface is) imports exports opens))
      (λ u w.
      then_ok (λ _. Unit {0}) P (whole_of m (map plain_interface is) imports opens inner) (module_of m (map plain_interface is) imports exports)
      (any_ok (whole_of m (map plain_interface is) imports opens inner)) (λ r w. h imports exports r))

pub shapes_given : ShapesAreGiven
unfolding checked NameOf ImportsGiven ExportsGiven
shapes_given = record {
  name = λ m is. by_kind m is (NameOf m is) (module_name m is) m.kind;
  imports = λ m is. by_kind m is (ImportsGiven m is) (module_imports m is) m.kind;
  exports = λ m is. by_kind m is (ExportsGiven m is) (module_exports m is) m.kind;
}
