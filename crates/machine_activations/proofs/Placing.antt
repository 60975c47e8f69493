-- What a call and a return find where they stand.
use Rattle.std.proofs.Common.{◌≡◌, ℕ, ◌<◌, List, length, get_or, Some, sym, ap, subst, ◌∙◌, arith}
use Rattle.std.specs.Prelude.{slice_get}
use Rattle.std.proofs.lemmas.Option.{same_Some, slice_get_within, get_or_from_slice_get}
use Rattle.code_forms.specs.declared.instruction.Instruction.{Instruction}
use Rattle.code_forms.specs.declared.module_code.CodeProcedure.{CodeProcedure}
use Rattle.code_forms.specs.declared.module_code.ModuleCode.{ModuleCode}
use Rattle.object_files.specs.declared.image.Image.{Image}
use Rattle.machine_rules.specs.State.{Active, Activations}
use Rattle.machine_rules.specs.LookUps.{code_of}
use Rattle.machine_topmost.specs.declared.registers.Registers.{Registers}
use Rattle.machine_activations.specs.declared.row.Layout.{Layout}
use Rattle.machine_activations.specs.declared.row.Row.{Row}
use Rattle.machine_activations.specs.Calling.{IsCodeOf, IsAt}
use Rattle.machine_activations.specs.Frames.{row_at}
use Rattle.machine_activations.specs.Shows.{IsPrepared, Shows}
use Rattle.machine_activations.proofs.Standing.{procedure_there}
use Rattle.machine_activations.proofs.Tables.{row_there}

-- the procedure that is read
pub index_is : (xs procedures : List CodeProcedure) (n : ℕ) (p x : CodeProcedure) → xs ≡ procedures → slice_get procedures n ≡ Some p → x ≡ get_or xs n x → x ≡ p
index_is xs procedures n p x same there is = is ∙ ap (λ (l : List CodeProcedure). get_or l n x) same ∙ get_or_from_slice_get procedures n p x there

pub index_within : (xs procedures : List CodeProcedure) (n : ℕ) (p : CodeProcedure) → xs ≡ procedures → slice_get procedures n ≡ Some p → n < length xs
index_within xs procedures n p same there = let l = slice_get_within procedures n p there in let e = ap length same in omega (arith, l, e)

module _ (image : Image) (layout : Layout) (prepared : IsPrepared image layout) (region : List ℕ) (table : List Row) (r : Registers) (p : CodeProcedure) (a : Active) (S : Activations)
    (shows : Shows image layout region table r p a S) (code : ModuleCode) (is : IsCodeOf image code table r) where
  top_row : row_at table r.top ≡ shows.rowed.row
  top_row = ap (λ q. row_at table q) shows.top ∙ row_there table (length S) shows.rowed.row shows.rowed.there

  pub row_instance : (row_at table r.top).instance ≡ a.instance
  row_instance = ap (λ (x : Row). x.instance) top_row ∙ shows.rowed.same_instance

  pub row_procedure : (row_at table r.top).procedure ≡ a.procedure
  row_procedure = ap (λ (x : Row). x.procedure) top_row ∙ shows.rowed.same_procedure

  pub code_here : code_of image a.instance ≡ Some code
  code_here = ap (λ j. code_of image j) (sym row_instance) ∙ is

  pub procedure_is : slice_get code.procedures (row_at table r.top).procedure ≡ Some p
  procedure_is = ap (λ n. slice_get code.procedures n) row_procedure ∙ procedure_there image a.instance a.procedure p code code_here shows.is

  pub fetched_here : (i : Instruction) (at : IsAt code table r i) → slice_get p.code r.entry ≡ Some at.entry
  fetched_here i at =
      let same : at.procedure ≡ p = same_Some at.procedure p (sym at.is ∙ procedure_is) in
      subst (λ (q : CodeProcedure). slice_get q.code r.entry ≡ Some at.entry) same at.fetched
