-- The body of each procedure of a sound module has the room that its code asks.
use Rattle.std.proofs.Common.{◌≡◌, refl, sym, subst, ap, ◌∙◌, ℕ, ◌+◌, ◌<◌, ◌≤◌, ◌^◌, List, length, map, Some, arith}
use Rattle.std.proofs.lemmas.List.{length-map}
use Rattle.std.proofs.lemmas.Option.{slice_get-map}
use Rattle.std.specs.Prelude.{slice_get, option_map}
use Rattle.mesa_types.specs.declared.faces.Import.{Import}
use Rattle.mesa_types.specs.Counts.{hidden}
use Rattle.mesa_types.specs.Nodes.{nodes}
use Rattle.mesa_types.specs.Plain.{kinds_of}
use Rattle.mesa_types.specs.Shapes.{join, words_in_all}
use Rattle.mesa_types.specs.Sound.{Sound}
use Rattle.mesa_types.specs.Typed.{Kinds, Module, NoKinds, AndKind, Procedure}
use Rattle.code_forms.specs.declared.module_code.CodeProcedure.{CodeProcedure}
use Rattle.code_rules.specs.Modules.{procedures_of}
use Rattle.code_rules.specs.Reading.{Coded, scratch}
use Rattle.code_blocks.specs.Modules.{body_block, procedure_code, uncoded}
use Rattle.code_blocks.specs.Translation.{without_code}
use Rattle.code_blocks.proofs.RangeRules.{ranges_are_kept}
use Rattle.code_bodies.specs.code_trees.specs.Excess.{excess}
use Rattle.code_bodies.specs.code_trees.proofs.VariableStarts.{words_of_three}
use Rattle.code_ranges.specs.Ranges.{BodiesAreInRange}
use Rattle.code_writer.specs.Bounds.{BodiesCanBeWritten}
use Rattle.frame_code.specs.Rooms.{HasRoom}

module _ (in_range : BodiesAreInRange) (can_be_written : BodiesCanBeWritten)
    (m : Module) (s : Sound m) (few : nodes m ≤ 4194304) (k : ℕ) (p : Procedure) (is : slice_get (procedures_of m) k ≡ Some p) where
  room : HasRoom (uncoded m p) p
  room =
      let range : (excess (body_block m p) ≡ 0) × (scratch (uncoded m p) + 16 + hidden p.body.does ≤ 65535) = in_range m s few k p is in
      let words = words_of_three (kinds_of p.head.takes) (kinds_of p.head.gives) p.body.variables in
      record {
        takes = omega (arith, range.1, words);
        gives = omega (arith, range.1, words);
        frame = range.1;
        fits = range.0;
        bounds = can_be_written m s few k p is;
      }

  pub has_room : (P : Coded) → P ≡ uncoded m p → HasRoom P p
  has_room P same = subst (λ (Q : Coded). HasRoom Q p) (sym same) room

  pub variables_fit : (variables : Kinds) → variables ≡ p.body.variables
      → words_in_all (join (kinds_of p.head.takes) (join (kinds_of p.head.gives) variables)) ≤ 65535
  variables_fit variables same =
      subst (λ (ks : Kinds). words_in_all (join (kinds_of p.head.takes) (join (kinds_of p.head.gives) ks)) ≤ 65535) (sym same) (omega (arith, room.frame))

-- what the translation has of a procedure of a module, by its parts
pub laid_out : (m : Module) (p : Procedure) (imports : List Import) (globals locals variables : Kinds) → imports ≡ m.imports → globals ≡ m.globals
    → locals ≡ join (kinds_of p.head.takes) (join (kinds_of p.head.gives) variables) → variables ≡ p.body.variables
    → without_code imports globals locals ≡ uncoded m p
laid_out m p imports globals locals variables a b c d =
    ap (λ (i : List Import). without_code i globals locals) a ∙ ap (λ (g : Kinds). without_code m.imports g locals) b
    ∙ ap (without_code m.imports m.globals) (c ∙ ap (λ (v : Kinds). join (kinds_of p.head.takes) (join (kinds_of p.head.gives) v)) d)

-- the code of a procedure stands under the procedure's number
pub coded_at : (m : Module) (k : ℕ) (p : Procedure) (made : CodeProcedure) → slice_get (procedures_of m) k ≡ Some p → made ≡ procedure_code m p
    → slice_get (map (procedure_code m) (procedures_of m)) k ≡ Some made
coded_at m k p made is same =
    slice_get-map (procedure_code m) (procedures_of m) k ∙ ap (option_map (procedure_code m)) is ∙ ap Some (sym same)

-- there are few procedures
pub as_many : (m : Module) → length (map (procedure_code m) (procedures_of m)) ≡ length m.procedures + 1
as_many m = omega (arith, length-map m.procedures (procedure_code m))

pub few_procedures : (m : Module) → Sound m → nodes m ≤ 4194304 → length m.procedures + 1 < 2 ^ 32
few_procedures m s few = omega (arith, as_many m, (ranges_are_kept m s few).few_procedures)

-- globals alone
none_more : (ks : Kinds) → join ks NoKinds ≡ ks
unfolding join
none_more NoKinds = refl
none_more (AndKind k ks) = ap (AndKind k) (none_more ks)

pub globals_alone : (ks : Kinds) → join ks (join NoKinds NoKinds) ≡ ks
unfolding join
globals_alone ks = none_more ks

pub globals_fit : (m : Module) → Sound m → (ks : Kinds) → ks ≡ m.globals → words_in_all (join ks (join NoKinds NoKinds)) ≤ 65535
globals_fit m s ks same = subst (λ (k : Kinds). words_in_all k ≤ 65535) (sym (globals_alone ks ∙ same)) (omega (arith, s.globals))

pub nothing_laid : words_in_all (join NoKinds (join NoKinds NoKinds)) ≤ 65535
unfolding join words_in_all
nothing_laid = omega arith
