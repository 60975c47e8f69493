-- Codes that differ in the depths alone have the same parts.
use Rattle.std.proofs.Common.{◌≡◌, List, [], ◌∷◌, map, refl, sym, ap, ◌∙◌}
use Rattle.code_forms.specs.Same.{bare_entry, bare}
use Rattle.code_forms.specs.declared.instruction.Instruction.{Instruction}
use Rattle.code_forms.specs.declared.module_code.CodeEntry.{CodeEntry}
use Rattle.code_forms.specs.declared.module_code.CodeProcedure.{CodeProcedure}
use Rattle.object_rules.specs.Parts.{ProcedurePart, instructions, procedure_part}

same_instructions : (es : List CodeEntry) → instructions (map bare_entry es) ≡ instructions es
same_instructions [] = refl
same_instructions (e ∷ es) = ap (λ (is : List Instruction). e.instruction ∷ is) (same_instructions es)

parts_bare : (ps : List CodeProcedure) → map procedure_part (bare ps) ≡ map procedure_part ps
parts_bare [] = refl
parts_bare (p ∷ ps) =
    ap (λ (is : List Instruction). record { name = p.name; args = p.args; results = p.results; frame = p.frame; depth = p.depth; code = is; phrases = p.phrases } ∷ map procedure_part (bare ps)) (same_instructions p.code)
    ∙ ap (λ (qs : List ProcedurePart). procedure_part p ∷ qs) (parts_bare ps)

pub same_parts : (ps qs : List CodeProcedure) → bare ps ≡ bare qs → map procedure_part ps ≡ map procedure_part qs
same_parts ps qs e = sym (parts_bare ps) ∙ ap (map procedure_part) e ∙ parts_bare qs
