-- Where a frame that is made on top leads.
use Rattle.std.proofs.Common.{◌≡◌, ℕ, suc, ◌+◌, ◌*◌, ◌<◌, ◌≤◌, List, ◌∷◌, length, sym, ap, subst, ◌∙◌, arith}
use Rattle.std.specs.Prelude.{if◌then◌else◌}
use Rattle.std.proofs.lemmas.Bool.{lt-ltb, le-ltb}
use Rattle.code_forms.specs.declared.module_code.CodeProcedure.{CodeProcedure}
use Rattle.object_files.specs.declared.image.Image.{Image}
use Rattle.machine_rules.specs.declared.end.End.TheVariants.{FrameLimit}
use Rattle.machine_rules.specs.State.{Store, Runs, Ended, Stepped, Goes, Stops}
use Rattle.machine_rules.specs.Moves.{enter}
use Rattle.machine_rules.specs.Calls.{enter_frame, call}
use Rattle.machine_rules.specs.Steps.{Ends, stops}
use Rattle.machine_topmost.specs.declared.registers.Registers.{Registers}
use Rattle.machine_activations.specs.declared.row.Layout.{Layout}
use Rattle.machine_activations.specs.declared.row.Row.{Row}
use Rattle.machine_activations.specs.Calling.{Enters, EntersSome}
use Rattle.machine_activations.specs.Frames.{entered, with_frame, frame_registers}
use Rattle.machine_activations.specs.Shows.{IsPrepared, IsAmple, with_places}
use Rattle.machine_activations.specs.Reaching.{Reaches, Shown}
use Rattle.machine_activations.proofs.Called.{words_fit}
use Rattle.machine_activations.proofs.Entering.{made, without_args, frame_shows}
use Rattle.machine_activations.proofs.Grown.{ample_grown, grown_wide, operands_fit, shows_grown}
use Rattle.machine_activations.proofs.Located.{in_code}
use Rattle.machine_activations.proofs.Standing.{low, part_within, top_part}
use Rattle.machine_activations.proofs.Reach.{reaches_so, ends_alike}

-- what making it asks
pub record FrameFits (layout : Layout) (r : Registers) (called : CodeProcedure) : Type 0 where
  pub low : r.top < 8192
  pub args : called.args ≤ called.frame
  pub frame : called.frame ≤ layout.frame
  pub part_fits : layout.frame ≤ layout.part
  pub operands : r.top * layout.part + layout.frame + called.args ≤ r.sp
  pub below : r.sp ≤ (r.top + 1) * layout.part

module _ (image : Image) (layout : Layout) (prepared : IsPrepared image layout) (region : List ℕ) (table : List Row) (r : Registers) (called : CodeProcedure) (j n : ℕ)
    (e : Enters image layout region table r called j n) (ample : IsAmple layout region table r.top) where
  args_fit : called.args ≤ called.frame
  args_fit = let c = in_code image layout prepared j n called e.is in let w = words_fit c.code n called c.there in omega (arith, w)

  few : length e.top.operands ≤ e.procedure.depth
  few = operands_fit image layout prepared region table r ample 0 e.procedure e.top e.rest e.shows

  top_at : r.top * layout.part ≡ length e.rest * layout.part
  top_at = top_part image layout prepared region table r e.procedure e.top e.rest e.shows ample

  sp_below : r.sp ≤ r.top * layout.part + layout.part
  sp_below =
      let sp = e.shows.sp in let t = top_at in let d = few in
      let l = prepared.laid e.top.instance e.top.procedure e.procedure e.shows.is in omega (arith, sp, t, d, l.1)

  pub frame_fits : FrameFits layout r called
  frame_fits =
      let l = prepared.laid j n called e.is in
      let sp = e.shows.sp in let t = top_at in let enough = e.enough in
      record {
        low = low image layout prepared region table r e.procedure e.top e.rest e.shows ample;
        args = args_fit;
        frame = l.0;
        part_fits = omega (arith, l.1);
        operands = omega (arith, sp, t, enough);
        below = let b = sp_below in omega (arith, b);
      }

  -- there is room for it
  module _ (s : Stepped) (m : Store) (reaches : Reaches image s (call j n called e.top e.rest m)) where
    pub frame_full : 8192 ≤ r.top + 1 → Ends image s (Ended FrameLimit) m
    unfolding call enter_frame enter
    frame_full full =
        let t = e.shows.top in
        let is : call j n called e.top e.rest m ≡ Stops (Ended FrameLimit) m =
        ap (λ b. if b then Goes (Runs (made j n called e.top ∷ without_args called e.top ∷ e.rest) m) else Stops (Ended FrameLimit) m) (le-ltb (suc (length e.rest)) 8192 (omega (arith, t, full))) in
        ends_alike image _ _ reaches (Ended FrameLimit) m (subst (λ x. Ends image x (Ended FrameLimit) m) (sym is) (stops (Ended FrameLimit) m))

    module _ (more : r.top + 1 < 8192) where
      goes_so : call j n called e.top e.rest m ≡ Goes (Runs (made j n called e.top ∷ without_args called e.top ∷ e.rest) m)
      unfolding call enter_frame enter
      goes_so =
          let t = e.shows.top in
          ap (λ b. if b then Goes (Runs (made j n called e.top ∷ without_args called e.top ∷ e.rest) m) else Stops (Ended FrameLimit) m) (lt-ltb (suc (length e.rest)) 8192 (omega (arith, t, more)))

      pub frame_shown : (r.top + 1) * layout.part + layout.part ≤ length region
          → Shown image layout (entered region r layout called.args called.frame) (with_frame table r layout called.args j n) (frame_registers r layout) s m
      frame_shown room =
          let b = sp_below in let d = few in let long = ample.long in
          let w = part_within image layout prepared region table r e.procedure e.top e.rest e.shows ample in
          record {
            top = made j n called e.top;
            rest = without_args called e.top ∷ e.rest;
            procedure = called;
            shows = frame_shows image layout prepared region table r e.procedure e.top e.rest e.shows (omega (arith, b, w)) j n called e.is
                args_fit e.enough (omega (arith, more, long)) room e.waits (omega (arith, d));
            reaches = reaches_so image _ _ _ reaches goes_so;
          }

pub enters_grown : (image : Image) (layout : Layout) → IsPrepared image layout → (region : List ℕ) (table : List Row) (r : Registers) (called : CodeProcedure) (j n : ℕ) → IsAmple layout region table r.top → (q : ℕ)
    → Enters image layout region table r called j n → Enters image layout (with_places region layout q) table r called j n
enters_grown image layout prepared region table r called j n ample q e = record {
  top = e.top;
  rest = e.rest;
  procedure = e.procedure;
  shows = shows_grown image layout prepared region table r ample q e.procedure e.top e.rest e.shows;
  is = e.is;
  enough = e.enough;
  waits = e.waits;
}

-- with the values of the code
pub frame_goes : (image : Image) (layout : Layout) → IsPrepared image layout → (region : List ℕ) (table : List Row) (r : Registers) (called : CodeProcedure) (j n : ℕ) → IsAmple layout region table r.top
    → (e : Enters image layout region table r called j n) (s : Stepped) (m : Store) → Reaches image s (call j n called e.top e.rest m)
    → (args frame : ℕ) (grown region' : List ℕ) (table' : List Row) (r' : Registers) → r.top + 1 < 8192 → args ≡ called.args → frame ≡ called.frame
    → grown ≡ with_places region layout (r.top + 1) → region' ≡ entered grown r layout args frame → table' ≡ with_frame table r layout args j n → r' ≡ frame_registers r layout
    → Shown image layout region' table' r' s m
unfolding enters_grown
frame_goes image layout prepared region table r called j n ample e s m reaches args frame grown region' table' r' more same_args same_frame grown_is region_is table_is registers_are =
    let wide = grown_wide region layout (r.top + 1) in
    let e1 : region' ≡ entered (with_places region layout (r.top + 1)) r layout called.args called.frame =
    region_is ∙ ap (λ g. entered g r layout args frame) grown_is ∙ ap (λ k. entered (with_places region layout (r.top + 1)) r layout k frame) same_args
    ∙ ap (λ k. entered (with_places region layout (r.top + 1)) r layout called.args k) same_frame in
    let e2 : table' ≡ with_frame table r layout called.args j n = table_is ∙ ap (λ k. with_frame table r layout k j n) same_args in
    subst (λ (k : Registers). Shown image layout region' table' k s m) (sym registers_are)
    (subst (λ (t : List Row). Shown image layout region' t (frame_registers r layout) s m) (sym e2)
    (subst (λ (w : List ℕ). Shown image layout w (with_frame table r layout called.args j n) (frame_registers r layout) s m) (sym e1)
    (frame_shown image layout prepared (with_places region layout (r.top + 1)) table r called j n (enters_grown image layout prepared region table r called j n ample (r.top + 1) e)
    (ample_grown layout region table r.top (r.top + 1) ample) s m reaches more (omega (arith, wide)))))

-- where some procedure can be entered
pub frame_fits_there : (layout : Layout) (region : List ℕ) (table : List Row) (r : Registers) (called : CodeProcedure) (j n : ℕ) → EntersSome layout region table r called j n → IsAmple layout region table r.top → FrameFits layout r called
frame_fits_there layout region table r called j n some ample = frame_fits some.image layout some.prepared region table r called j n some.enters ample
