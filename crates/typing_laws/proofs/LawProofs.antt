-- The proofs of the laws.
use Rattle.std.proofs.Common.{◌≡◌, ℕ, suc, ◌+◌, List, [], ◌∷◌, length, refl, sym, ◌∙◌, ap, subst, arith, inl, inr, ◌⊎◌}
use Rattle.std.specs.Prelude.{Bool, true, false, Option, Some, None, Ok, Err, IfOk, map}
use Rattle.syntax_trees.specs.Syntax as s
use Rattle.mesa_types.specs.declared.faces.Pair.{Pair}
use Rattle.mesa_base.specs.declared.identifier.Identifier.{Identifier}
use Rattle.check_rules.specs.Typed as t
use Rattle.interface_records.specs.PlainTypes.{PlainItem, PlainInterface, item_of, face_of, plain_interface}
use Rattle.check_rules.specs.Steps.{State, Checked, Fault, and_then}
use Rattle.check_rules.specs.Programs.{Offer, Whole, marked_from, imported, first_row, other_rows, pairs, pair_for, offer_named, fits_item, exported, offers_of}
use Rattle.check_rules.specs.Directory.{those_of}
use Rattle.check_rules.specs.CheckedModule.{checked, checked_definitions, program_by, module_of, lists, whole_of}
use Rattle.check_rules.specs.Laws.{ComesToOne, EachTextHasOneResult, ImportsInOrder, ExportsInOrder, ShapesAreInOrder}
use Rattle.interface_records.specs.Lists.{Ascend}
use Rattle.interface_records.specs.Spelled.{item_numbers}

-- One result.
value_or : {A : Type 0} → A → Checked A → A
value_or a (Ok b) = b
value_or a (Err f) = a

fault_or : {A : Type 0} → Fault → Checked A → Fault
fault_or f (Ok a) = f
fault_or f (Err g) = g

number : {A : Type 0} → Checked A → ℕ
number (Ok a) = 0
number (Err f) = 1

same_value : {A : Type 0} (r : Checked A) (a b : A) → r ≡ Ok a → r ≡ Ok b → a ≡ b
unfolding value_or
same_value r a b e f = ap (value_or a) (sym e ∙ f)

same_fault : {A : Type 0} (r : Checked A) (f g : Fault) → r ≡ Err f → r ≡ Err g → f ≡ g
unfolding fault_or
same_fault r f g e d = ap (fault_or f) (sym e ∙ d)

apart : {A : Type 0} (r : Checked A) (a : A) (f : Fault) → r ≡ Ok a → r ≡ Err f → ⊥
unfolding number
apart r a f e d = omega (arith, ap number (sym e ∙ d))

value_or_fault : {A : Type 0} (r : Checked A) → ((a : A) × (r ≡ Ok a)) ⊎ ((f : Fault) × (r ≡ Err f))
value_or_fault (Ok a) = inl (a, refl)
value_or_fault (Err f) = inr (f, refl)

comes_to_one : {A : Type 0} (r : Checked A) → ComesToOne r
comes_to_one r = record { some = value_or_fault r; one_value = same_value r; one_fault = same_fault r; not_both = apart r }

pub one_result : EachTextHasOneResult
one_result = record {
  programs = λ m is. comes_to_one (checked m is);
  definitions = λ m stamp is. comes_to_one (checked_definitions m stamp is);
}

-- Numbers in order.
from_before : (n h : ℕ) (ns : List ℕ) → Ascend (suc n) h ns → Ascend n h ns
unfolding Ascend
from_before n h [] a = tt
from_before n h (m ∷ ms) a = (omega (arith, a.0), a.1, a.2)

one_more : (n k : ℕ) (ns : List ℕ) → Ascend (suc n) (suc n + k) ns → Ascend (suc n) (n + suc k) ns
one_more n k ns a = let e : suc n + k ≡ n + suc k = omega arith in subst (λ h. Ascend (suc n) h ns) e a

marked_ascend : (n : ℕ) (is : List PlainItem) (ms : List Bool) → Ascend n (n + length is) (marked_from n is ms)
unfolding Ascend marked_from
marked_ascend n [] ms = tt
marked_ascend n (i ∷ is) [] = tt
marked_ascend n (i ∷ is) (true ∷ ms) = (omega arith, omega arith, one_more n (length is) _ (marked_ascend (suc n) is ms))
marked_ascend n (i ∷ is) (false ∷ ms) = from_before n _ _ (one_more n (length is) _ (marked_ascend (suc n) is ms))

length_of_map : {A B : Type 0} (f : A → B) (xs : List A) → length (map f xs) ≡ length xs
length_of_map f [] = refl
length_of_map f (x ∷ xs) = ap suc (length_of_map f xs)

of_face : (i : PlainInterface) (ns : List ℕ) → Ascend 0 (0 + length i.items) ns → Ascend 0 (length (face_of i).items) ns
of_face i ns a = let e : 0 + length i.items ≡ length (face_of i).items = omega (arith, length_of_map item_of i.items) in subst (λ h. Ascend 0 h ns) e a

pub imported_in_order : (is : List PlainInterface) (rows : List (List Bool)) → ImportsInOrder (imported is rows)
unfolding ImportsInOrder imported
imported_in_order [] rows = tt
imported_in_order (i ∷ is) rows = (of_face i _ (marked_ascend 0 i.items (first_row rows)), imported_in_order is (other_rows rows))

then_if : {A B : Type 0} (P : B → Type 0) (r : Checked A) (f : A → Checked B) → ((a : A) → r ≡ Ok a → IfOk (f a) P) → IfOk (and_then r f) P
then_if P (Ok a) f h = h a refl
then_if P (Err e) f h = tt

PairsIn : ℕ → ℕ → List Pair → Type 0
PairsIn n h ps = Ascend n h (item_numbers ps)

pair_ascends : (n k : ℕ) (i : PlainItem) (o : Option Offer) (ps : List Pair)
    → Ascend (suc n) (n + suc k) (item_numbers ps) → IfOk (pair_for n i o ps) (PairsIn n (n + suc k))
unfolding PairsIn Ascend
pair_ascends n k i None ps a = from_before n _ _ a
pair_ascends n k i (Some o) ps a = (omega arith, omega arith, a)

if_ok : {A : Type 0} (P : A → Type 0) (r : Checked A) (a : A) → r ≡ Ok a → IfOk r P → P a
if_ok P (Ok b) a e p = subst P (same_value (Ok b) b a refl e) p
if_ok P (Err f) a e p = absurd (apart (Err f) a f e refl)

pairs_ascend : (os : List Offer) (n : ℕ) (is : List PlainItem) → IfOk (pairs os n is) (PairsIn n (n + length is))
unfolding PairsIn Ascend pairs
pairs_ascend os n [] = tt
pairs_ascend os n (i ∷ is) = then_if _ (fits_item i (offer_named i.name os)) _ (λ u e.
    then_if _ (pairs os (suc n) is) _ (λ ps e.
    pair_ascends n (length is) i (offer_named i.name os) ps
    (one_more n (length is) _ (if_ok (PairsIn (suc n) (suc n + length is)) (pairs os (suc n) is) ps e (pairs_ascend os (suc n) is)))))

pub exported_in_order : (os : List Offer) (is : List PlainInterface) → IfOk (exported os is) ExportsInOrder
unfolding ExportsInOrder exported PairsIn
exported_in_order os [] = tt
exported_in_order os (i ∷ is) = then_if _ (pairs os 0 i.items) _ (λ ps e.
    then_if _ (exported os is) _ (λ es d. (
      of_face i _ (if_ok (PairsIn 0 (0 + length i.items)) (pairs os 0 i.items) ps e (pairs_ascend os 0 i.items)),
      if_ok ExportsInOrder (exported os is) es d (exported_in_order os is),
    )))

ImportsOf : t.Module → Type 0
ImportsOf x = ImportsInOrder x.imports

ExportsOf : t.Module → Type 0
ExportsOf x = ExportsInOrder x.exports

module _ (m : s.Module) (is : List PlainInterface) (imports exports : List Identifier) where
  imports_of : (r : Whole × State) → IfOk (module_of m is imports exports r) ImportsOf
  unfolding ImportsOf
  imports_of r = then_if ImportsOf (exported (offers_of r.0.declared) (those_of m.directory is exports)) _ (λ es e.
      imported_in_order (those_of m.directory is imports) r.1.used)

  exports_of : (r : Whole × State) → IfOk (module_of m is imports exports r) ExportsOf
  unfolding ExportsOf
  exports_of r = then_if ExportsOf (exported (offers_of r.0.declared) (those_of m.directory is exports)) _ (λ es e.
      if_ok ExportsInOrder _ es e (exported_in_order (offers_of r.0.declared) (those_of m.directory is exports)))

in_two_steps : {A B : Type 0} (P : t.Module → Type 0) (r : Checked A) (p : Checked B) (f : B → Checked t.Module)
    → ((b : B) → IfOk (f b) P) → IfOk (and_then r (λ _. and_then p f)) P
in_two_steps P r p f h = then_if P r (λ _. and_then p f) (λ a e. then_if P p f (λ b d. h b))

imports_by : (m : s.Module) (is : List PlainInterface) (k : s.ModuleKind) → IfOk (program_by m is k) ImportsOf
imports_by m is (s.Interface p opens defs) = tt
imports_by m is (s.Program p imports exports opens inner) =
    in_two_steps ImportsOf (lists m is imports exports opens) (whole_of m is imports opens inner) (module_of m is imports exports)
    (imports_of m is imports exports)

exports_by : (m : s.Module) (is : List PlainInterface) (k : s.ModuleKind) → IfOk (program_by m is k) ExportsOf
exports_by m is (s.Interface p opens defs) = tt
exports_by m is (s.Program p imports exports opens inner) =
    in_two_steps ExportsOf (lists m is imports exports opens) (whole_of m is imports opens inner) (module_of m is imports exports)
    (exports_of m is imports exports)

pub shapes_in_order : ShapesAreInOrder
unfolding checked ImportsOf ExportsOf
shapes_in_order = record {
  imports = λ m is. imports_by m (map plain_interface is) m.kind;
  exports = λ m is. exports_by m (map plain_interface is) m.kind;
}
