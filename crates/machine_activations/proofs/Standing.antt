-- Where activations are shown, the registers stand as the run of the topmost one asks.
use Rattle.std.proofs.Common.{◌≡◌, ℕ, ◌+◌, ◌*◌, ◌<◌, ◌≤◌, List, length, Option, Some, None, ap, subst, ◌∙◌, arith}
use Rattle.std.specs.Prelude.{slice_get, option_and_then}
use Rattle.std.proofs.lemmas.Option.{none-some, same_Some, slice_get_within}
use Rattle.code_forms.specs.declared.module_code.CodeProcedure.{CodeProcedure}
use Rattle.code_forms.specs.declared.module_code.ModuleCode.{ModuleCode}
use Rattle.code_forms.proofs.Ordered.{spot_within}
use Rattle.object_files.specs.declared.image.Image.{Image}
use Rattle.machine_rules.specs.State.{Role, Frame, InArm, Active, Activations}
use Rattle.machine_rules.specs.LookUps.{code_of, procedure_of}
use Rattle.machine_rules.specs.Activations.{owner, own_frame}
use Rattle.machine_topmost.specs.declared.registers.Registers.{Registers}
use Rattle.machine_topmost.specs.Running.{IsProcedureOf, Standing}
use Rattle.machine_activations.specs.declared.row.Layout.{Layout}
use Rattle.machine_activations.specs.declared.row.Row.{Row}
use Rattle.machine_activations.specs.Placed.{slots_from, floor_at}
use Rattle.machine_activations.specs.Below.{OwnedBy}
use Rattle.machine_activations.specs.Shows.{IsPrepared, IsAmple, Shows}
use Rattle.machine_activations.proofs.Homes.{frame_within}
use Rattle.machine_activations.proofs.Keeping.{next_part}

there_in : (image : Image) (n : ℕ) (p : CodeProcedure) (o : Option ModuleCode) (code : ModuleCode) → o ≡ Some code → option_and_then (λ (m : ModuleCode). slice_get m.procedures n) o ≡ Some p → slice_get code.procedures n ≡ Some p
there_in image n p None code is h = absurd (none-some code is)
there_in image n p (Some c) code is h = subst (λ (m : ModuleCode). slice_get m.procedures n ≡ Some p) (same_Some c code is) h

-- a procedure of an instance is one of its code, and the other way round
pub procedure_there : (image : Image) (j n : ℕ) (p : CodeProcedure) (code : ModuleCode) → code_of image j ≡ Some code → procedure_of image j n ≡ Some p → slice_get code.procedures n ≡ Some p
unfolding procedure_of
procedure_there image j n p code is h = there_in image n p (code_of image j) code is h

pub procedure_here : (image : Image) (j n : ℕ) (p : CodeProcedure) (code : ModuleCode) → code_of image j ≡ Some code → slice_get code.procedures n ≡ Some p → procedure_of image j n ≡ Some p
unfolding procedure_of
procedure_here image j n p code is h = ap (λ o. option_and_then (λ (m : ModuleCode). slice_get m.procedures n) o) is ∙ h

module _ (image : Image) (layout : Layout) (prepared : IsPrepared image layout) (region : List ℕ) (table : List Row) (r : Registers) (p : CodeProcedure) (a : Active) (S : Activations)
    (shows : Shows image layout region table r p a S) (ample : IsAmple layout region table r.top) where
  pub low : r.top < 8192
  low = let l = slice_get_within table (length S) shows.rowed.row shows.rowed.there in let t = shows.top in let k = ample.long in omega (arith, l, t, k)

  -- its part is in the region
  pub part_within : r.top * layout.part + layout.part ≤ length region
  part_within = let w = ample.wide in omega (arith, w)

  pub top_part : r.top * layout.part ≡ length S * layout.part
  top_part = ap (λ q. q * layout.part) shows.top

  apart_by : (role : Role (List ℕ)) → OwnedBy role a.instance a.procedure S → slots_from layout (owner role (length S)) + p.frame ≤ floor_at layout (length S)
  unfolding owner OwnedBy
  apart_by (Frame v) owned = let l = prepared.laid a.instance a.procedure p shows.is in omega (arith, l.0)
  apart_by (InArm own arm why) owned =
      let l = prepared.laid a.instance a.procedure p shows.is in
      let n = next_part own (length S) layout.part (frame_within S own _ owned) in omega (arith, l.0, l.1, n)

  module _ (code : ModuleCode) (is : code_of image a.instance ≡ Some code) (globals : ℕ) (all : globals ≡ code.global_words) where
    pub of_code : IsProcedureOf code p
    of_code = (a.procedure, procedure_there image a.instance a.procedure p code is shows.is)

    pub standing : Standing code p (length region) globals (floor_at layout (length S)) r
    unfolding own_frame
    standing =
        let sp = shows.sp in
        let l = prepared.laid a.instance a.procedure p shows.is in
        let w = part_within in let t = top_part in
        record {
          within = spot_within p.code r.entry shows.begins.spot shows.begins.is;
          deep = λ e at. let d = shows.deep e at in omega (arith, sp, d);
          apart = let f = apart_by a.role shows.owned in let s = shows.slots in omega (arith, f, s);
          roomy = omega (arith, l.1, w, t);
          all_globals = all;
        }
