-- The parts of a module's object by what is counted of the module: its imports and exports, its strings, its signals and its procedures.
use Rattle.std.specs.Prelude.{◌≡◌, ℕ, suc, ◌+◌, ◌*◌, ◌≤◌, List, [], ◌∷◌, length, map, All, Contains}
use Rattle.std.proofs.Common.{refl, ap, arith}
use Rattle.std.proofs.lemmas.List.{length-map}
use Rattle.std.proofs.lemmas.List.Elements.{All-head, All-tail, Contains-append_right}
use Rattle.mesa_base.specs.Name.{IsName}
use Rattle.mesa_types.specs.declared.faces.Export.{Export}
use Rattle.mesa_types.specs.declared.faces.Face.{Face}
use Rattle.mesa_types.specs.declared.faces.Import.{Import}
use Rattle.mesa_types.specs.declared.faces.Item.{Item}
use Rattle.mesa_types.specs.declared.faces.Pair.{Pair}
use Rattle.mesa_types.specs.Sound.{AllDiffer}
use Rattle.interface_records.specs.Lists.{Ascend}
use Rattle.interface_records.specs.Spelled.{ExportCanBeSpelled}
use Rattle.check_rules.specs.Typed as t
use Rattle.checking_laws.specs.Sizes.{item_bytes, head_bytes, literal_bytes, imports_count, exports_count}
use Rattle.checking_laws.specs.UsedItems.{used_items}
use Rattle.code_forms.specs.declared.module_code.CodeProcedure.{CodeProcedure}
use Rattle.code_forms.specs.Routine.{Routine}
use Rattle.code_blocks.specs.Weights.{procedures_bytes}
use Rattle.code_rules.specs.Modules.{ProceduresCode, signal_code}
use Rattle.file_sizes.specs.Sizes.{total, face_size, import_size, export_size, signal_size, string_size, procedure_size}

-- ---- imports and exports

pub imports_sized : (all : List Import) → total import_size all ≡ imports_count (λ f. face_size f + 4) all + 4 * used_items all
unfolding total imports_count used_items
imports_sized [] = refl
imports_sized (i ∷ all) = omega (arith, imports_sized all)

ascending_few : (low high : ℕ) (ns : List ℕ) → Ascend low high ns → low ≤ high → low + length ns ≤ high
unfolding Ascend
ascending_few low high [] h l = omega (arith, l)
ascending_few low high (n ∷ ns) h l = omega (arith, ascending_few (suc n) high ns h.2 (omega (arith, h.1)), h.0)

given_few : (e : Export) → ExportCanBeSpelled e → length e.given ≤ length e.face.items
given_few e h = omega (
  arith,
  length-map e.given (λ (p : Pair). p.item),
  ascending_few 0 (length e.face.items) (map (λ (p : Pair). p.item) e.given) h.items (omega arith),
)

-- a face that is exported, and what is given of it
abbrev pub exported_size : Face → ℕ
exported_size f = face_size f + 4 + 8 * length f.items

pub exports_sized : (all : List Export) → All ExportCanBeSpelled all → total export_size all ≤ exports_count exported_size all
unfolding total exports_count
exports_sized [] h = omega arith
exports_sized (e ∷ all) h =
    omega (
      arith,
      given_few e (All-head ExportCanBeSpelled e all h),
      exports_sized all (All-tail ExportCanBeSpelled e all h),
    )

-- ---- strings

empties : List (List ℕ) → ℕ
empties [] = 0
empties ([] ∷ xs) = 1 + empties xs
empties ((b ∷ bytes) ∷ xs) = empties xs

none_empty : (xs : List (List ℕ)) → (Contains xs [] → ⊥) → empties xs ≡ 0
unfolding empties
none_empty [] h = refl
none_empty ([] ∷ xs) h = absurd (h (0, omega arith, refl))
none_empty ((b ∷ bytes) ∷ xs) h = none_empty xs (λ c. h (Contains-append_right ((b ∷ bytes) ∷ []) xs [] c))

one_empty : (xs : List (List ℕ)) → AllDiffer xs → empties xs ≤ 1
unfolding empties AllDiffer
one_empty [] h = omega arith
one_empty ([] ∷ xs) h = omega (arith, none_empty xs h.0)
one_empty ((b ∷ bytes) ∷ xs) h = one_empty xs h.1

strings_by : (xs : List (List ℕ)) → total string_size xs ≤ 3 * literal_bytes xs + 2 * empties xs
unfolding total literal_bytes empties
strings_by [] = omega arith
strings_by ([] ∷ xs) = omega (arith, strings_by xs)
strings_by ((b ∷ bytes) ∷ xs) = omega (arith, strings_by xs)

pub strings_sized : (xs : List (List ℕ)) → AllDiffer xs → total string_size xs ≤ 3 * literal_bytes xs + 2
strings_sized xs h = omega (arith, strings_by xs, one_empty xs h)

-- ---- signals and procedures

some_bytes : (x : List ℕ) → IsName x → 1 ≤ length x
some_bytes [] h = absurd cc
some_bytes (b ∷ bytes) h = omega arith

pub signals_sized : (all : List Item) → All (λ (i : Item). IsName i.name) all → total signal_size (map signal_code all) ≤ 7 * item_bytes all
unfolding total item_bytes
signals_sized [] h = omega arith
signals_sized (i ∷ all) h = omega (
  arith,
  some_bytes i.name (All-head (λ (i : Item). IsName i.name) i all h),
  signals_sized all (All-tail (λ (i : Item). IsName i.name) i all h),
)

-- the names of procedures with what stands beside each
pub procedures_sized : (m : t.Module) (routine : CodeProcedure → Routine) (ps : List t.Procedure) (cs : List CodeProcedure) → ProceduresCode m routine ps cs
    → total procedure_size cs ≡ procedures_bytes cs + (11 * length ps + head_bytes ps)
unfolding total head_bytes
procedures_sized m routine [] [] h = refl
procedures_sized m routine [] (c ∷ cs) h = absurd h
procedures_sized m routine (p ∷ ps) [] h = absurd h
procedures_sized m routine (p ∷ ps) (c ∷ cs) h = omega (arith, ap length (h.0).name, procedures_sized m routine ps cs h.1)

pub heads_sized : (ps : List t.Procedure) → All (λ (p : t.Procedure). IsName p.head.name) ps → 11 * length ps + head_bytes ps ≤ 12 * head_bytes ps
unfolding head_bytes
heads_sized [] h = omega arith
heads_sized (p ∷ ps) h = omega (
  arith,
  some_bytes p.head.name (All-head (λ (p : t.Procedure). IsName p.head.name) p ps h),
  heads_sized ps (All-tail (λ (p : t.Procedure). IsName p.head.name) p ps h),
)
