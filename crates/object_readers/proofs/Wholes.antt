-- Whole objects: what is read is the one that the bytes hold, and the fault the first.
use Rattle.std.proofs.Common.{◌≡◌, ℕ, List, Result, Ok, Err, refl, sym, ap, subst, ◌∙◌}
use Rattle.std.specs.Prelude.{◌≢◌, IfErr, IfOk, MatchResult, codes}
use Rattle.code_forms.specs.Ranges.{KeepsRanges}
use Rattle.code_forms.specs.declared.module_code.CodeLink.{CodeLink}
use Rattle.code_forms.specs.declared.module_code.CodeProcedure.{CodeProcedure}
use Rattle.file_forms.specs.Files.{FirstFault}
use Rattle.mesa_base.specs.declared.file_fault.FileFault.{FileFault}
use Rattle.mesa_base.specs.declared.file_fault.FileFault.TheVariants as file
use Rattle.object_files.specs.declared.object.Object.{Object}
use Rattle.object_readers.specs.Built.{HasFault}
use Rattle.object_readers.specs.Rows.{module_part, RowsFit}
use Rattle.held_objects.specs.declared.rows.ModuleRows.{ModuleRows}
use Rattle.object_rules.proofs.ObjectLaws.{one_object, one_object_fault, object_or_fault}
use Rattle.object_rules.proofs.RangeLaws.{keeps_ranges}
use Rattle.object_rules.specs.Exact.{IsSameObject}
use Rattle.object_rules.specs.ModuleForms.{module_form}
use Rattle.object_rules.specs.ObjectFiles.{IsModuleFile, IsObjectFile, IsNoObjectFile, no_file, bad_code, file_fault}
use Rattle.object_rules.specs.Parts.{parts_of, IsWhole, link_codes}
use Rattle.object_rules.specs.declared.object_fault.ObjectFault.{ObjectFault}
use Rattle.object_rules.specs.declared.object_fault.ObjectFault.TheVariants.{BadMagic, TooLong, Cut, BadField, TrailingBytes, Code, Memory}

-- rows that fit the form are in range
pub rows_in_range : (version : ℕ) (m : ModuleRows) → RowsFit m → (module_form version).fits (module_part m)
    → KeepsRanges m.body.global_words m.body.signals m.body.strings m.body.links m.body.procedures
rows_in_range version m fit fits =
    subst (λ (ls : List CodeLink). KeepsRanges m.body.global_words m.body.signals m.body.strings ls m.body.procedures) (sym fit.0)
    (subst (λ (ps : List CodeProcedure). KeepsRanges m.body.global_words m.body.signals m.body.strings (link_codes m.imports) ps) (sym fit.1) (keeps_ranges version (module_part m) fits))

pub object_found : (bytes : List ℕ) (version : ℕ) (m : ModuleRows) (r : Result Object ObjectFault) → IsModuleFile version (module_part m) bytes
    → IfOk r (λ o. (parts_of o ≡ module_part m) × IsWhole o) → IfOk r (λ o. (v : ℕ) × IsObjectFile v o bytes)
object_found bytes version m (Ok o) file made = (version, record { file = subst (λ p. IsModuleFile version p bytes) (sym made.0) file; whole = made.1 })
object_found bytes version m (Err e) file made = tt

pub code_fault_found : (bytes : List ℕ) (version : ℕ) (m : ModuleRows) (r : Result Object ObjectFault) → IsModuleFile version (module_part m) bytes
    → IfErr r (λ e. e ≢ Memory → HasFault 0 (module_part m) e) → IfErr r (λ e. e ≢ Memory → IsNoObjectFile bytes e)
code_fault_found bytes version m (Ok o) file fault = tt
code_fault_found bytes version m (Err e) file fault = λ other.
    let h = fault other in subst (IsNoObjectFile bytes) (sym h.is) (bad_code version (module_part m) h.bad file h.first)

pub file_fault_found : (bytes : List ℕ) (fault : FileFault) (e : ObjectFault) → e ≡ file_fault fault → (fault ≢ file.Memory → FirstFault (codes "MOB") module_form bytes fault)
    → e ≢ Memory → IsNoObjectFile bytes e
file_fault_found bytes fault e is first other = subst (IsNoObjectFile bytes) (sym is) (no_file fault (first (λ none. other (is ∙ ap file_fault none))))

pub only_one : (bytes : List ℕ) (result : Result Object ObjectFault)
    → IfOk result (λ o. (version : ℕ) × IsObjectFile version o bytes) → IfErr result (λ e. e ≢ Memory → IsNoObjectFile bytes e)
    → (version : ℕ) (o : Object) → IsObjectFile version o bytes → MatchResult result (λ p. IsSameObject p o) (λ e. e ≡ Memory)
only_one bytes (Ok p) found fault version o holds = (one_object found.0 version p o bytes found.1 holds).1
only_one bytes (Err e) found fault version o holds = memory e (λ other. object_or_fault version o bytes e holds (fault other))
  where
    memory : (e : ObjectFault) → (e ≢ Memory → ⊥) → e ≡ Memory
    memory BadMagic wrong = absurd (wrong (λ h. cc))
    memory TooLong wrong = absurd (wrong (λ h. cc))
    memory (Cut at) wrong = absurd (wrong (λ h. cc))
    memory (BadField at field) wrong = absurd (wrong (λ h. cc))
    memory (TrailingBytes at) wrong = absurd (wrong (λ h. cc))
    memory (Code m p fault) wrong = absurd (wrong (λ h. cc))
    memory Memory wrong = refl

pub first_one : (bytes : List ℕ) (result : Result Object ObjectFault)
    → IfOk result (λ o. (version : ℕ) × IsObjectFile version o bytes) → IfErr result (λ e. e ≢ Memory → IsNoObjectFile bytes e)
    → (e : ObjectFault) → IsNoObjectFile bytes e → MatchResult result (λ _. ⊥) (λ d. d ≢ Memory → d ≡ e)
first_one bytes (Ok p) found fault e holds = object_or_fault found.0 p bytes e found.1 holds
first_one bytes (Err d) found fault e holds = λ other. one_object_fault bytes d e (fault other) holds
