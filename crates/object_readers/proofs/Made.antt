-- An object of its rows.
use Rattle.std.proofs.Common.{◌≡◌, ℕ, List, length, map, sym, ap, subst, ◌∙◌}
use Rattle.code_forms.proofs.Whole.{valid_same}
use Rattle.code_forms.specs.Same.{bare, IsSameCode}
use Rattle.code_forms.specs.Valid.{Valid, AreValid, IsFirstFaultOf}
use Rattle.code_forms.specs.declared.module_code.CodeLink.{CodeLink}
use Rattle.code_forms.specs.declared.module_code.CodeProcedure.{CodeProcedure}
use Rattle.code_forms.specs.declared.module_code.CodeSignal.{CodeSignal}
use Rattle.code_forms.specs.declared.module_code.ModuleCode.{ModuleCode}
use Rattle.object_files.specs.declared.object.Object.{Object}
use Rattle.object_readers.proofs.Entered.{same_parts}
use Rattle.object_readers.specs.Built.{IsCodeOf, HasBadCode, HasFault}
use Rattle.object_readers.specs.Rows.{module_part, RowsFit}
use Rattle.held_objects.specs.declared.rows.ModuleRows.{ModuleRows}
use Rattle.object_rules.proofs.WholeLaws.{bare_parts}
use Rattle.object_rules.specs.declared.object_fault.ObjectFault.{ObjectFault}
use Rattle.object_rules.specs.Parts.{ProcedurePart, ModulePart, procedure_part, procedure_code, parts_of, IsWhole, link_codes}

-- the object with this code
abbrev object_of : ModuleRows → ModuleCode → Object
object_of m code = record { shape = record { name = m.name; imports = m.imports; exports = m.body.exports }; code = code }

abbrev CodeFor : ModuleRows → ModuleCode → Type 0
CodeFor m code = IsCodeOf m.name m.body.global_words m.body.signals m.body.strings m.body.links m.body.procedures code

abbrev part : ModuleRows → ℕ → List CodeSignal → List (List ℕ) → List ProcedurePart → ModulePart
part m globals signals strings procedures =
    record { name = m.name; imports = m.imports; global_words = globals; signals = signals; strings = strings; procedures = procedures; exports = m.body.exports }

has_parts : (m : ModuleRows) (code : ModuleCode) → CodeFor m code → parts_of (object_of m code) ≡ module_part m
has_parts m code is =
    ap (λ (g : ℕ). part m g code.signals code.strings (map procedure_part code.procedures)) is.same_globals
    ∙ ap (λ (ss : List CodeSignal). part m m.body.global_words ss code.strings (map procedure_part code.procedures)) is.same_signals
    ∙ ap (λ (ss : List (List ℕ)). part m m.body.global_words m.body.signals ss (map procedure_part code.procedures)) is.same_strings
    ∙ ap (λ (ps : List ProcedurePart). part m m.body.global_words m.body.signals m.body.strings ps) (same_parts code.procedures m.body.procedures is.same_procedures)

is_whole : (m : ModuleRows) (code : ModuleCode) → RowsFit m → CodeFor m code → IsWhole (object_of m code)
is_whole m code fit is = record {
  name = is.same_name;
  links = is.same_links ∙ fit.0;
  entries = is.same_procedures ∙ ap bare fit.1 ∙ bare_parts (map procedure_part m.body.procedures)
      ∙ ap (map procedure_code) (sym (same_parts code.procedures m.body.procedures is.same_procedures));
  valid = is.valid;
}

pub object_made : (m : ModuleRows) (code : ModuleCode) → RowsFit m → CodeFor m code → (parts_of (object_of m code) ≡ module_part m) × IsWhole (object_of m code)
object_made m code fit is = (has_parts m code is, is_whole m code fit is)

pub has_fault : (number : ℕ) (m : ModuleRows) (e : ObjectFault) → RowsFit m
    → HasBadCode number m.body.global_words (length m.body.strings) m.body.signals m.body.links m.body.procedures e → HasFault number (module_part m) e
has_fault number m e fit h = record {
  bad = h.bad;
  is = h.is;
  first = subst (λ (ps : List CodeProcedure). IsFirstFaultOf m.body.global_words (length m.body.strings) m.body.signals (link_codes m.imports) ps h.bad) fit.1
      (subst (λ (ls : List CodeLink). IsFirstFaultOf m.body.global_words (length m.body.strings) m.body.signals ls m.body.procedures h.bad) fit.0 h.first);
}

pub code_made : (code valid : ModuleCode) → IsSameCode valid code → Valid code → IsCodeOf code.name code.global_words code.signals code.strings code.links code.procedures valid
code_made code valid same sound = record {
  same_name = same.name;
  same_globals = same.global_words;
  same_signals = same.signals;
  same_strings = same.strings;
  same_links = same.links;
  same_procedures = same.procedures;
  valid = subst (λ g. AreValid g (length valid.strings) valid.signals valid.links valid.procedures (length valid.procedures)) (sym same.global_words)
      (subst (λ (ss : List (List ℕ)). AreValid code.global_words (length ss) valid.signals valid.links valid.procedures (length valid.procedures)) (sym same.strings)
      (subst (λ ss. AreValid code.global_words (length code.strings) ss valid.links valid.procedures (length valid.procedures)) (sym same.signals)
      (subst (λ ls. AreValid code.global_words (length code.strings) code.signals ls valid.procedures (length valid.procedures)) (sym same.links)
      (valid_same code.global_words (length code.strings) code.signals code.links code.procedures valid.procedures (sym same.procedures) sound))));
}
