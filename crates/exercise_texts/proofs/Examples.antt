-- Whole texts and files, by computing.
use Rattle.std.proofs.Common.{◌≡◌, [], ◌∷◌, refl}
use Rattle.std.specs.Fmt.{digits}
use Rattle.std.specs.Prelude.{codes, Some, None}
use Rattle.exercise_texts.specs.Texts.{lines, link_lines, chain_text}
use Rattle.exercise_texts.specs.Files.{exercise_files, exercise_list}

one_link : chain_text 1 ≡ codes "Chain: CONFIGURATION IMPORTS IODefs CONTROL Main = BEGIN\n[r1] _ a1: Link[r2];\n[r2, SigDefs] _ Last;\nMain[r1, SigDefs, IODefs];\nEND.\n"
unfolding digits link_lines
one_link = refl

two_links : chain_text 2 ≡ codes "Chain: CONFIGURATION IMPORTS IODefs CONTROL Main = BEGIN\n[r1] _ a1: Link[r2];\n[r2] _ a2: Link[r3];\n[r3, SigDefs] _ Last;\nMain[r1, SigDefs, IODefs];\nEND.\n"
unfolding digits link_lines
two_links = refl

ten_links : chain_text 10 ≡ lines (
    codes "Chain: CONFIGURATION IMPORTS IODefs CONTROL Main = BEGIN"
    ∷ codes "[r1] _ a1: Link[r2];"
    ∷ codes "[r2] _ a2: Link[r3];"
    ∷ codes "[r3] _ a3: Link[r4];"
    ∷ codes "[r4] _ a4: Link[r5];"
    ∷ codes "[r5] _ a5: Link[r6];"
    ∷ codes "[r6] _ a6: Link[r7];"
    ∷ codes "[r7] _ a7: Link[r8];"
    ∷ codes "[r8] _ a8: Link[r9];"
    ∷ codes "[r9] _ a9: Link[r10];"
    ∷ codes "[r10] _ a10: Link[r11];"
    ∷ codes "[r11, SigDefs] _ Last;"
    ∷ codes "Main[r1, SigDefs, IODefs];"
    ∷ codes "END."
    ∷ [])
unfolding digits link_lines
ten_links = refl

a_file : exercise_files 1 (codes "Link.mesa") ≡ Some (codes "DIRECTORY StepDefs: FROM \"StepDefs\";\nLink: PROGRAM IMPORTS StepDefs EXPORTS StepDefs = BEGIN\nStep: PUBLIC PROCEDURE [n: INTEGER] RETURNS [INTEGER] =\nBEGIN RETURN[StepDefs.Step[n + 1]]; END;\nEND.\n")
unfolding exercise_list
a_file = refl

the_last_file : exercise_files 7 (codes "Chain.config") ≡ Some (chain_text 7)
unfolding exercise_list
the_last_file = refl

no_text_of_interfaces : exercise_files 1 (codes "StepDefs.mesa") ≡ None
unfolding exercise_list
no_text_of_interfaces = refl
