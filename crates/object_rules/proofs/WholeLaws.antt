-- What follows for objects from the parts that their files hold.
use Rattle.std.proofs.Common.{◌≡◌, ℕ, zero, suc, ◌+◌, List, [], ◌∷◌, length, map, refl, sym, ap, ap₂, subst, ◌∙◌, arith}
use Rattle.std.specs.Prelude.{All}
use Rattle.std.proofs.lemmas.List.{length-map}
use Rattle.std.proofs.lemmas.Option.{slice_get_within}
use Rattle.code_forms.specs.declared.bad_code.BadCode.{BadCode}
use Rattle.code_forms.specs.declared.instruction.Instruction.{Instruction}
use Rattle.code_forms.specs.declared.module_code.CodeEntry.{CodeEntry}
use Rattle.code_forms.specs.declared.module_code.CodeProcedure.{CodeProcedure}
use Rattle.code_forms.specs.declared.module_code.ModuleCode.{ModuleCode}
use Rattle.code_forms.specs.Instructions.{bytes_of}
use Rattle.code_forms.specs.Same.{bare_entry, bare}
use Rattle.code_forms.specs.Valid.{AreValid}
use Rattle.code_forms.proofs.NoFault.{no_fault}
use Rattle.code_forms.proofs.OneFault.{one_first_fault}
use Rattle.code_forms.proofs.Whole.{valid_same}
use Rattle.object_files.specs.declared.object.Object.{Object}
use Rattle.object_rules.specs.Exact.{IsSameObject, AreSameObjects}
use Rattle.object_rules.specs.ModuleForms.{module_form}
use Rattle.object_rules.specs.Parts.{ProcedurePart, ModulePart, parts_of, entries_from, procedure_code, procedures_of, link_codes, IsWhole, HasValidCode, HasCodeFault}
use Rattle.object_rules.proofs.RangeLaws.{keeps_ranges}

-- what follows from parts has no depths
bare_from : (at : ℕ) (all : List Instruction) → map bare_entry (entries_from at all) ≡ entries_from at all
unfolding entries_from
bare_from at [] = refl
bare_from at (i ∷ all) = ap (λ (t : List CodeEntry). (record { at = at; depth = 0; instruction = i }) ∷ t) (bare_from (at + bytes_of i) all)

with_entries : ProcedurePart → List CodeEntry → CodeProcedure
with_entries p code = record { name = p.name; args = p.args; results = p.results; frame = p.frame; depth = p.depth; code = code; phrases = p.phrases }

pub bare_parts : (all : List ProcedurePart) → bare (map procedure_code all) ≡ map procedure_code all
unfolding with_entries
bare_parts [] = refl
bare_parts (p ∷ all) = ap₂ (λ (q : CodeProcedure) (t : List CodeProcedure). q ∷ t) (ap (with_entries p) (bare_from 0 p.code)) (bare_parts all)

-- the code of a whole object is that of its parts
pub same_as_parts : (o : Object) → IsWhole o → bare o.code.procedures ≡ bare (procedures_of (parts_of o))
same_as_parts o whole = whole.entries ∙ sym (bare_parts (parts_of o).procedures)

pub whole_is_valid : (o : Object) → IsWhole o → HasValidCode (parts_of o)
whole_is_valid o whole =
    let valid = valid_same o.code.global_words (length o.code.strings) o.code.signals o.code.links o.code.procedures (procedures_of (parts_of o)) (same_as_parts o whole) whole.valid in
    subst (AreValid o.code.global_words (length o.code.strings) o.code.signals (link_codes o.shape.imports) (procedures_of (parts_of o))) (length-map (parts_of o).procedures procedure_code)
    (subst (λ links. AreValid o.code.global_words (length o.code.strings) o.code.signals links (procedures_of (parts_of o)) (length (procedures_of (parts_of o)))) whole.links valid)

pub valid_or_fault : (m : ModulePart) (bad : BadCode) → HasValidCode m → HasCodeFault m bad → ⊥
valid_or_fault m bad valid fault =
    let less = slice_get_within (procedures_of m) bad.procedure fault.procedure fault.is in
    no_fault _ bad.fault (valid bad.procedure fault.procedure (omega (arith, less, length-map m.procedures procedure_code)) fault.is) fault.fault

-- a code of these parts
pub code_of : (version : ℕ) (m : ModulePart) → (module_form version).fits m → ModuleCode
code_of version m fits = record {
  name = m.name;
  global_words = m.global_words;
  signals = m.signals;
  strings = m.strings;
  links = link_codes m.imports;
  procedures = procedures_of m;
  ranges = ∣ keeps_ranges version m fits ∣₁;
}

pub one_code_fault : (version : ℕ) (m : ModulePart) (a b : BadCode) → (module_form version).fits m → HasCodeFault m a → HasCodeFault m b → a ≡ b
unfolding code_of
one_code_fault version m a b fits f g = one_first_fault (code_of version m fits) a b f g

-- whole objects of the same parts are the same
pub same_object : (a b : Object) → IsWhole a → IsWhole b → parts_of a ≡ parts_of b → IsSameObject a b
same_object a b of_a of_b e = record {
  shape = ap (λ (m : ModulePart). record { name = m.name; imports = m.imports; exports = m.exports }) e;
  code = record {
    name = of_a.name ∙ ap (λ (m : ModulePart). m.name) e ∙ sym of_b.name;
    global_words = ap (λ (m : ModulePart). m.global_words) e;
    signals = ap (λ (m : ModulePart). m.signals) e;
    strings = ap (λ (m : ModulePart). m.strings) e;
    links = of_a.links ∙ ap (λ (m : ModulePart). link_codes m.imports) e ∙ sym of_b.links;
    procedures = of_a.entries ∙ ap procedures_of e ∙ sym of_b.entries;
  };
}

pub same_objects : (xs ys : List Object) → All IsWhole xs → All IsWhole ys → map parts_of xs ≡ map parts_of ys → AreSameObjects xs ys
unfolding AreSameObjects
same_objects [] [] of_xs of_ys e = tt
same_objects [] (y ∷ ys) of_xs of_ys e = absurd cc
same_objects (x ∷ xs) [] of_xs of_ys e = absurd cc
same_objects (x ∷ xs) (y ∷ ys) of_xs of_ys e =
    let head : parts_of x ≡ parts_of y = cc in
    let tail : map parts_of xs ≡ map parts_of ys = cc in (
      same_object x y (of_xs zero x (omega arith)) (of_ys zero y (omega arith)) head,
      same_objects xs ys (λ k d less. of_xs (suc k) d (omega (arith, less))) (λ k d less. of_ys (suc k) d (omega (arith, less))) tail,
    )
