-- A plan is one: of texts that are told, and of files that were made of them.
use Rattle.std.proofs.Common.{ℕ, List, [], ◌∷◌, length, map, Option, Some, None, refl, ap}
use Rattle.include_rules.specs.Laws.{PlansComeOnce}
use Rattle.include_rules.specs.Naming.{naming}
use Rattle.include_rules.specs.Stale as faced
use Rattle.include_rules.specs.Stale.{Faced, faces_of, stale}
use Rattle.include_rules.specs.declared.entries.TextEntry.{TextEntry}
use Rattle.command_rules.specs.checked_texts.specs.Laws.{TextsHaveOneTree}
use Rattle.command_rules.specs.Case.{Case, Refused, Absent, Usage}
use Rattle.command_rules.specs.declared.trouble.Trouble.TheVariants.{Text, Cycle}
use Rattle.command_rules.specs.Forms.{FileKind, module_file}
use Rattle.command_rules.specs.Objects.{shape_in}
use Rattle.command_rules.specs.Passes.{Outcome, Has, Stops, IsExact, decided, from_file, each}
use Rattle.command_rules.specs.Planning.{Parses, parsed, text_in, kind_made, file_made, Faces, not_there, interface, object, faces_in, numbered, Gathered, gathered_in, base_at, missing_files, plan_text, files_there, Concludes, planned, circling, plan_in}
use Rattle.command_rules.specs.Printing.{Report}
use Rattle.command_rules.specs.Writing.{OfInterface, OfObject}
use Rattle.command_rules.proofs.PassLaws.{One, decided_exact, given_exact, from_file_exact, if_there_exact, and_then_exact, each_exact}
use Rattle.command_laws.proofs.Holding.{Part, InterfacePart, ObjectPart, LinkedPart, one_part, part_or_stop, one_stop}

-- ---- texts

parses_one : TextsHaveOneTree → (file bytes : List ℕ) → One (Parses file bytes)
parses_one law file bytes o r (parsed x h) (parsed y k) = ap Has (law.one_tree bytes x y h k)
parses_one law file bytes o r (parsed x h) (Parses.refused f k) = absurd (law.never_both bytes x f h k)
parses_one law file bytes o r (Parses.refused f k) (parsed x h) = absurd (law.never_both bytes x f h k)
parses_one law file bytes o r (Parses.refused f h) (Parses.refused g k) = ap (λ e. Stops (Refused file (Text e))) (law.one_fault bytes f g h k)

text_exact : TextsHaveOneTree → (base : List ℕ) → IsExact (text_in base)
unfolding text_in
text_exact law base =
    and_then_exact (from_file (module_file base) (Absent (module_file base)) (Parses (module_file base))) _
    (from_file_exact (module_file base) (Absent (module_file base)) (Parses (module_file base)) (parses_one law (module_file base))) (λ tree.
    given_exact (record { base = base; «module» = tree }))

-- ---- files

-- what is looked at, by the part
looked_at : (number : ℕ) → Part → Outcome Case (Option Faced)
looked_at number (InterfacePart i) = Has (Some (faced.OfInterface i.face))
looked_at number (ObjectPart m) = Has (Some (faced.OfObject number (faces_of (shape_in m))))
looked_at number (LinkedPart i) = Has None

looks_one : (number : ℕ) (file : List ℕ) (kind : FileKind) (bytes : Option (List ℕ)) → One (Faces number file kind bytes)
unfolding looked_at
looks_one number file kind _ o r not_there not_there = refl
looks_one number file kind _ o r (interface b i h) (interface _ j k) = ap (looked_at number) (one_part kind file b (OfInterface i) (OfInterface j) h k)
looks_one number file kind _ o r (interface b i h) (object _ x k) = ap (looked_at number) (one_part kind file b (OfInterface i) (OfObject x) h k)
looks_one number file kind _ o r (object b x h) (interface _ i k) = ap (looked_at number) (one_part kind file b (OfObject x) (OfInterface i) h k)
looks_one number file kind _ o r (object b x h) (object _ y k) = ap (looked_at number) (one_part kind file b (OfObject x) (OfObject y) h k)
looks_one number file kind _ o r (interface b i h) (Faces.is_none _ c k) = absurd (part_or_stop kind file b (OfInterface i) c h k)
looks_one number file kind _ o r (object b x h) (Faces.is_none _ c k) = absurd (part_or_stop kind file b (OfObject x) c h k)
looks_one number file kind _ o r (Faces.is_none b c h) (interface _ i k) = absurd (part_or_stop kind file b (OfInterface i) c k h)
looks_one number file kind _ o r (Faces.is_none b c h) (object _ x k) = absurd (part_or_stop kind file b (OfObject x) c k h)
looks_one number file kind _ o r (Faces.is_none b c h) (Faces.is_none _ d k) = ap Stops (one_stop kind file b c d h k)

faces_exact : (x : ℕ × TextEntry) → IsExact (faces_in x)
unfolding faces_in
faces_exact (number, t) =
    if_there_exact (file_made t) (Faces number (file_made t) (kind_made t.module.kind)) (looks_one number (file_made t) (kind_made t.module.kind))

gathered_exact : TextsHaveOneTree → (bases : List (List ℕ)) → IsExact (gathered_in bases)
unfolding gathered_in
gathered_exact law bases =
    and_then_exact (each text_in bases) _ (each_exact text_in (text_exact law) bases) (λ texts.
    and_then_exact (each faces_in (numbered 0 texts)) _ (each_exact faces_in faces_exact (numbered 0 texts)) (λ made.
    given_exact (record { texts = texts; made = made })))

-- ---- the plan

report_of : Gathered → (order : List ℕ) → Report
report_of g order = record {
  text = plan_text g.texts order (stale (length g.texts) (files_there g.made)) (missing_files g.texts g.made);
  missing = missing_files g.texts g.made;
}

stop_of : Gathered → (cycle : List ℕ) → Case
stop_of g [] = Usage
stop_of g (k ∷ rest) = Refused (module_file (base_at g.texts k)) (Cycle (map (base_at g.texts) (k ∷ rest)))

concludes_one : PlansComeOnce → (g : Gathered) → One (Concludes g)
unfolding report_of stop_of
concludes_one law g o r (planned a h) (planned b k) = ap (λ order. Has (report_of g order)) (law.one_order (naming g.texts) a b h k)
concludes_one law g o r (planned a h) (circling k rest c) = absurd (law.not_both (naming g.texts) a (k ∷ rest) h c)
concludes_one law g o r (circling k rest c) (planned a h) = absurd (law.not_both (naming g.texts) a (k ∷ rest) h c)
concludes_one law g o r (circling k rest c) (circling j more d) = ap (λ cycle. Stops (stop_of g cycle)) (law.one_cycle (naming g.texts) (k ∷ rest) (j ∷ more) c d)

pub plan_exact : TextsHaveOneTree → PlansComeOnce → (bases : List (List ℕ)) → IsExact (plan_in bases)
unfolding plan_in
plan_exact trees plans bases =
    and_then_exact (gathered_in bases) (λ g. decided (Concludes g)) (gathered_exact trees bases) (λ g. decided_exact (Concludes g) (concludes_one plans g))
