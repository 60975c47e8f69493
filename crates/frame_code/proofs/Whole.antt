-- The parts of the code of a sound module stand for it.
use Rattle.std.proofs.Common.{◌≡◌, sym, subst, ℕ, ◌≤◌, List, map}
use Rattle.mesa_types.specs.Links.{links_of}
use Rattle.mesa_types.specs.Nodes.{nodes}
use Rattle.mesa_types.specs.Shapes.{words_in_all}
use Rattle.mesa_types.specs.Sound.{Sound}
use Rattle.mesa_types.specs.Typed.{Module}
use Rattle.code_forms.specs.declared.module_code.CodeLink.{CodeLink}
use Rattle.code_forms.specs.declared.module_code.CodeProcedure.{CodeProcedure}
use Rattle.code_forms.specs.declared.module_code.CodeSignal.{CodeSignal}
use Rattle.code_rules.specs.Modules.{signal_code, link_code, procedures_of}
use Rattle.code_blocks.specs.Laws.{StandFor}
use Rattle.code_blocks.specs.Modules.{Parts, procedure_code, module_code}
use Rattle.code_blocks.proofs.Translated.{modules_are_translated}

pub parts_stand : (m : Module) → Sound m → nodes m ≤ 4194304 → (name : List ℕ) (globals : ℕ) (signals : List CodeSignal) (strings : List (List ℕ))
    (links : List CodeLink) (procedures : List CodeProcedure) → name ≡ m.name → globals ≡ words_in_all m.globals → signals ≡ map signal_code m.signals
    → strings ≡ m.strings → links ≡ map link_code (links_of m.imports) → procedures ≡ map (procedure_code m) (procedures_of m)
    → let c : Parts = record { name = name; globals = globals; signals = signals; strings = strings; links = links; procedures = procedures } in
    (c ≡ module_code m) × StandFor m c
parts_stand m s few name globals signals strings links procedures a b d e f g =
    let c : Parts = record { name = name; globals = globals; signals = signals; strings = strings; links = links; procedures = procedures } in
    let same : c ≡ module_code m = cc in
    (same, subst (StandFor m) (sym same) (modules_are_translated m s few))
