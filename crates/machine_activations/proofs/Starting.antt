-- The frame of a body that is started where no activation stands is shown.
use Rattle.std.proofs.Common.{◌≡◌, ℕ, zero, suc, ◌+◌, ◌-◌, ◌*◌, ◌<◌, ◌≤◌, List, [], ◌∷◌, ◌++◌, length, replicate, true, get_or, Option, Some, None, refl, sym, ap, subst, ◌∙◌, arith}
use Rattle.std.specs.Prelude.{slice_get, slice_set}
use Rattle.std.proofs.Math.Logic.{∥∥₁_elim}
use Rattle.std.proofs.Math.Bridge.{le_prop}
use Rattle.std.proofs.Math.ListN.{length-replicate}
use Rattle.std.proofs.lemmas.Bool.{ne_eqb}
use Rattle.std.proofs.lemmas.Option.{slice_get_within, slice_get-get_or}
use Rattle.code_forms.specs.Ranges.{IsBody}
use Rattle.code_forms.specs.declared.module_code.CodeProcedure.{CodeProcedure}
use Rattle.code_forms.specs.declared.module_code.ModuleCode.{ModuleCode}
use Rattle.object_files.specs.declared.image.Image.{Image}
use Rattle.machine_rules.specs.declared.end.End.TheVariants.{Spent}
use Rattle.machine_rules.specs.State.{Frame, Active, Store, Runs, Ended, Stepped, Goes, Stops}
use Rattle.machine_rules.specs.Words.{zeros}
use Rattle.machine_rules.specs.LookUps.{code_of, procedure_of}
use Rattle.machine_rules.specs.Activations.{owner, own_frame}
use Rattle.machine_rules.specs.Moves.{with, spend_of, spend, enter}
use Rattle.machine_rules.specs.Calls.{set_of, enter_frame, start}
use Rattle.machine_rules.specs.Steps.{Ends, stops}
use Rattle.machine_topmost.specs.declared.registers.Registers.{Registers}
use Rattle.machine_topmost.specs.Flat.{part, with_part}
use Rattle.machine_topmost.proofs.Parts.{part_there}
use Rattle.machine_activations.specs.declared.row.Layout.{Layout}
use Rattle.machine_activations.specs.declared.row.Row.{Row}
use Rattle.machine_activations.specs.Placed.{HasVariables}
use Rattle.machine_activations.specs.Rows.{IsKind}
use Rattle.machine_activations.specs.Below.{OwnedBy, Below}
use Rattle.machine_activations.specs.Beginning.{IsCodeFor}
use Rattle.machine_activations.specs.Frames.{frame_row}
use Rattle.machine_activations.specs.Shows.{IsPrepared, IsAmple, Shows}
use Rattle.machine_activations.specs.Reaching.{Reaches, Shown}
use Rattle.machine_activations.proofs.Entering.{begins_first, deep_first}
use Rattle.machine_activations.proofs.Following.{spent_by}
use Rattle.machine_activations.proofs.Placing.{index_is}
use Rattle.machine_activations.proofs.Standing.{procedure_here}
use Rattle.machine_activations.proofs.Tables.{get_set_same}
use Rattle.machine_activations.proofs.Reach.{reaches_so, ends_alike}

some_body : (o : Option CodeProcedure) (procedures : List CodeProcedure) → slice_get procedures 0 ≡ o → IsBody o → 1 ≤ length procedures
some_body None procedures is body = absurd body
some_body (Some p) procedures is body = let l = slice_get_within procedures 0 p is in omega (arith, l)

-- each module has a body
pub has_body : (m : ModuleCode) → 0 < length m.procedures
has_body m = let l = ∥∥₁_elim m.ranges le_prop (λ r. some_body (slice_get m.procedures 0) m.procedures refl r.body) in omega (arith, l)

abbrev pub first_frame : (instance : ℕ) → CodeProcedure → Active
first_frame j p = record { instance = j; procedure = 0; offset = 0; operands = []; role = Frame ([] ++ zeros (p.frame - 0)) }

abbrev pub first_registers : Layout → Registers
first_registers layout = record { top = 0; slots = 0; sp = layout.frame; entry = 0 }

abbrev pub first_region : List ℕ → (frame : ℕ) → List ℕ
first_region region frame = with_part region 0 (replicate frame 0)

module _ (image : Image) (j : ℕ) (p : CodeProcedure) (is : procedure_of image j 0 ≡ Some p) (s : Stepped) (m : Store) (reaches : Reaches image s (start image j [] m)) where
  abbrev pub marked : Store
  marked = record m { started = set_of m.started j true }

  pub begins_so : start image j [] m ≡ spend_of m.turns marked (λ m1. Goes (Runs (first_frame j p ∷ []) m1))
  unfolding start with spend enter_frame enter
  begins_so = ap (λ o. with o m (λ (body : CodeProcedure). spend_of m.turns marked (λ m1. Goes (Runs (first_frame j body ∷ []) m1)))) is

  none_left : (n : ℕ) (k : Store → Stepped) → n ≡ 0 → spend_of n marked k ≡ Stops (Ended Spent) marked
  unfolding spend_of
  none_left zero k none = refl
  none_left (suc n) k none = absurd (omega (arith, none))

  pub begin_spent : m.turns ≡ 0 → Ends image s (Ended Spent) marked
  begin_spent none = ends_alike image _ _ reaches (Ended Spent) marked (subst (λ x. Ends image x (Ended Spent) marked) (sym (begins_so ∙ none_left m.turns _ none)) (stops (Ended Spent) marked))

module _ (image : Image) (layout : Layout) (prepared : IsPrepared image layout) (region : List ℕ) (table : List Row) (ample : IsAmple layout region table 0) (j : ℕ) (p : CodeProcedure)
    (is : procedure_of image j 0 ≡ Some p) where
  many : length {A = ℕ} (replicate p.frame 0) ≡ p.frame
  many = length-replicate p.frame 0

  pub first_fits : p.frame ≤ length region
  first_fits = let l = prepared.laid j 0 p is in let w = ample.wide in omega (arith, l.0, l.1, w)

  pub first_shows : Shows image layout (first_region region p.frame) (slice_set table 0 (frame_row j 0)) (first_registers layout) p (first_frame j p) []
  unfolding Below owner own_frame HasVariables IsKind OwnedBy
  first_shows =
      let none : p.frame - 0 ≡ p.frame = omega arith in
      let long = ample.long in
      record {
        is = is;
        top = refl;
        slots = (let z : 0 ≡ 0 * layout.part = omega arith in z);
        sp = (let z : layout.frame ≡ 0 * layout.part + layout.frame + 0 = omega arith in z);
        begins = begins_first image layout prepared j 0 p is;
        deep = deep_first image layout prepared j 0 p is;
        placed = record {
          variables = (let z : 0 * layout.part ≡ 0 = omega arith in
              ap (λ at. part (first_region region p.frame) at p.frame) z
              ∙ ap (λ k. part (first_region region p.frame) 0 k) (sym many)
              ∙ part_there region 0 (replicate p.frame 0) (omega arith)
              ∙ ap (λ k. replicate k 0) (sym none));
          operands = refl;
        };
        rowed = record { row = frame_row j 0; there = get_set_same table 0 (frame_row j 0) (omega (arith, long)); same_instance = refl; same_procedure = refl; same_kind = tt };
        owned = tt;
        below = tt;
      }

  pub begin_shown : (s : Stepped) (m : Store) → Reaches image s (start image j [] m) → (m.turns ≡ 0 → ⊥) → Shown image layout (first_region region p.frame) (slice_set table 0 (frame_row j 0)) (first_registers layout) s (record m { started = set_of m.started j true; turns = m.turns - 1 })
  begin_shown s m reaches some = record {
    top = first_frame j p;
    rest = [];
    procedure = p;
    shows = first_shows;
    reaches =
        reaches_so image _ _ _ reaches
        (begins_so image j p is s m reaches ∙ spent_by m.turns (record m { started = set_of m.started j true }) (λ m1. Goes (Runs (first_frame j p ∷ []) m1)) (ne_eqb m.turns 0 some));
  }

-- With the values of the code.

body_is : (procedures xs : List CodeProcedure) (p x : CodeProcedure) → xs ≡ procedures → slice_get procedures 0 ≡ Some p → x ≡ get_or xs 0 x → x ≡ p
body_is procedures xs p x same there is = index_is xs procedures 0 p x same there is

body_of : (procedures : List CodeProcedure) → 0 < length procedures → (p : CodeProcedure) × (slice_get procedures 0 ≡ Some p)
body_of [] some = absurd (omega (arith, some))
body_of (p ∷ rest) some = (p, refl)

body_there : (m : ModuleCode) (d : CodeProcedure) → slice_get m.procedures 0 ≡ Some (get_or m.procedures 0 d)
body_there m d = slice_get-get_or m.procedures 0 d (has_body m)

pub first_runs : (layout : Layout) (code : ModuleCode) (region : List ℕ) (table : List Row) → IsCodeFor layout code → IsAmple layout region table 0
    → (xs : List CodeProcedure) (x : CodeProcedure) → xs ≡ code.procedures → x ≡ get_or xs 0 x → x.frame ≤ length region
first_runs layout code region table for ample xs x same is =
    let there = body_there code x in
    let one = body_is code.procedures xs (get_or code.procedures 0 x) x same there is in
    let fits = first_fits for.image layout for.prepared region table ample for.instance (get_or code.procedures 0 x) (procedure_here for.image for.instance 0 (get_or code.procedures 0 x) code for.is there) in
    let frame = ap (λ (p : CodeProcedure). p.frame) one in omega (arith, fits, frame)

module _ (image : Image) (layout : Layout) (prepared : IsPrepared image layout) (code : ModuleCode) (j : ℕ) (is : code_of image j ≡ Some code) where
  begins_with : (d : CodeProcedure) → procedure_of image j 0 ≡ Some (get_or code.procedures 0 d)
  begins_with d = procedure_here image j 0 (get_or code.procedures 0 d) code is (body_there code d)

  pub begin_ends : (s : Stepped) (m : Store) → Reaches image s (start image j [] m) → (turns : ℕ) → m.turns ≡ turns → turns ≡ 0
      → Ends image s (Ended Spent) (record m { started = set_of m.started j true; turns = turns })
  begin_ends s m reaches turns turns_are none =
      subst (λ t. Ends image s (Ended Spent) (record m { started = set_of m.started j true; turns = t })) turns_are
      (let b = body_of code.procedures (has_body code) in begin_spent image j b.0 (procedure_here image j 0 b.0 code is b.1) s m reaches (turns_are ∙ none))

  pub begin_goes : (region : List ℕ) (table : List Row) → IsAmple layout region table 0 → (s : Stepped) (m : Store) → Reaches image s (start image j [] m) → (turns : ℕ) → m.turns ≡ turns → (turns ≡ 0 → ⊥)
      → (xs : List CodeProcedure) (x : CodeProcedure) (frame : ℕ) → xs ≡ code.procedures → x ≡ get_or xs 0 x → frame ≡ x.frame → (region' : List ℕ) → region' ≡ with_part region 0 (replicate frame 0)
      → Shown image layout region' (slice_set table 0 (frame_row j 0)) (first_registers layout) s (record m { started = set_of m.started j true; turns = turns - 1 })
  begin_goes region table ample s m reaches turns turns_are some xs x frame same is_x frame_is region' region_is =
      let there = body_there code x in
      let one = body_is code.procedures xs (get_or code.procedures 0 x) x same there is_x in
      let e : region' ≡ first_region region (get_or code.procedures 0 x).frame = region_is ∙ ap (λ k. with_part region 0 (replicate k 0)) (frame_is ∙ ap (λ (p : CodeProcedure). p.frame) one) in
      subst (λ t. Shown image layout region' (slice_set table 0 (frame_row j 0)) (first_registers layout) s (record m { started = set_of m.started j true; turns = t - 1 })) turns_are
      (subst (λ (w : List ℕ). Shown image layout w (slice_set table 0 (frame_row j 0)) (first_registers layout) s (record m { started = set_of m.started j true; turns = m.turns - 1 })) (sym e)
      (begin_shown image layout prepared region table ample j (get_or code.procedures 0 x) (begins_with x) s m reaches (λ none. some (sym turns_are ∙ none))))
