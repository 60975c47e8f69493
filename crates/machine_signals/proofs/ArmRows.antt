-- The rows of running arms still hold where rows change that are not theirs.
use Rattle.std.proofs.Common.{◌≡◌, ⊎_elim, ℕ, ◌+◌, ◌-◌, ◌<◌, ◌≤◌, List, length, set, refl, sym, ap, subst, ◌∙◌, arith}
use Rattle.std.proofs.lemmas.Bool.{cases_lt}
use Rattle.object_files.specs.declared.image.Image.{Image}
use Rattle.signaller.specs.declared.search.Search.{Search}
use Rattle.machine_rules.specs.LookUps.{procedure_of}
use Rattle.machine_topmost.specs.declared.registers.Registers.{Registers}
use Rattle.machine_activations.specs.declared.calling.Sequel.{Sequel}
use Rattle.machine_activations.specs.declared.calling.Sequel.TheVariants.{Goes, Empty, Pending, Ends}
use Rattle.machine_activations.specs.declared.row.Kind.{Kind}
use Rattle.machine_activations.specs.declared.row.Kind.TheVariants.{Frame as FrameRow, Arm as ArmRow}
use Rattle.machine_activations.specs.declared.row.Layout.{Layout}
use Rattle.machine_activations.specs.declared.row.Reason.{Reason}
use Rattle.machine_activations.specs.declared.row.Reason.TheVariants.{Raise as RaiseRow, Jump as JumpRow}
use Rattle.machine_activations.specs.declared.row.Row.{Row}
use Rattle.machine_activations.specs.Frames.{row_in, row_at, owner_place, waiting}
use Rattle.machine_activations.proofs.Tables.{get_set_same, get_set_other}
use Rattle.machine_signals.specs.Arms.{arm_row, with_arm, with_waiting, AddsArm}
use Rattle.machine_signals.specs.Indexed.{AskedOf}
use Rattle.machine_signals.specs.Raising.{ReasonHolds, KindHolds, ArmsHold, HoldsOn}

-- rows that tell the same of an activation, wherever it waits
pub record Alike (one other : Row) : Type 0 where
  pub instance : one.instance ≡ other.instance
  pub procedure : one.procedure ≡ other.procedure
  pub kind : one.kind ≡ other.kind

pub alike_by : (one other : Row) → one ≡ other → Alike one other
alike_by one other e = record { instance = ap (λ (r : Row). r.instance) e; procedure = ap (λ (r : Row). r.procedure) e; kind = ap (λ (r : Row). r.kind) e }

module _ (image : Image) where
  pub code_alike : (one other : Row) → Alike one other → procedure_of image other.instance other.procedure ≡ procedure_of image one.instance one.procedure
  code_alike one other a = ap (λ j. procedure_of image j other.procedure) (sym a.instance) ∙ ap (λ n. procedure_of image one.instance n) (sym a.procedure)

  pub asked_alike : (one other : Row) → Alike one other → (search : Search) → AskedOf image other search → AskedOf image one search
  asked_alike one other a search h = λ p is. h p (code_alike one other a ∙ is)

  module _ (table table' : List Row) where
    kind_alike : (q : ℕ) (kind : Kind) → ((k : ℕ) → k ≤ q → Alike (row_at table' k) (row_at table k)) → KindHolds image table q kind → KindHolds image table' q kind
    kind_alike q FrameRow same h = tt
    kind_alike q (ArmRow own arm (RaiseRow signal args beyond)) same h = asked_alike (row_at table' q) (row_at table q) (same q (omega arith)) beyond h
    kind_alike q (ArmRow own arm (JumpRow target beyond)) same h = (
      asked_alike (row_at table' (q - 1)) (row_at table (q - 1)) (same (q - 1) (omega arith)) beyond h.0,
      record {
        low = h.1.low;
        goal = λ p is. h.1.goal p (code_alike (row_at table' target.place) (row_at table target.place) (same target.place (let l = h.1.low in omega (arith, l))) ∙ is);
      },
    )

    pub arms_alike : (top : ℕ) → ((k : ℕ) → k ≤ top → Alike (row_at table' k) (row_at table k)) → ArmsHold image table top → ArmsHold image table' top
    arms_alike top same h q low =
        kind_alike q (row_at table' q).kind (λ k less. same k (omega (arith, less, low)))
        (subst (λ (kind : Kind). KindHolds image table q kind) (sym (same q low).kind) (h q low))

    -- one more at the top
    pub arms_more : (top : ℕ) → ((k : ℕ) → k ≤ top → Alike (row_at table' k) (row_at table k)) → ArmsHold image table top
        → KindHolds image table' (top + 1) (row_at table' (top + 1)).kind → ArmsHold image table' (top + 1)
    arms_more top same h new q low = ⊎_elim
        (λ (less : q < top + 1). arms_alike top same h q (omega (arith, less)))
        (λ (most : top + 1 ≤ q). subst (λ k. KindHolds image table' k (row_at table' k).kind) (let e : top + 1 ≡ q = omega (arith, low, most) in e) new)
        (cases_lt q (top + 1))

-- fewer of them
pub arms_fewer : (image : Image) (table : List Row) (top top' : ℕ) → top' ≤ top → ArmsHold image table top → ArmsHold image table top'
arms_fewer image table top top' fewer holds q low = holds q (omega (arith, fewer, low))

-- a row that is set, and the others
pub row_set : (table : List Row) (i : ℕ) (row : Row) → i < length table → row_at (set table i row) i ≡ row
unfolding row_in
row_set table i row less = ap row_in (get_set_same table i row less)

pub row_other : (table : List Row) (i k : ℕ) (row : Row) → k < i → row_at (set table i row) k ≡ row_at table k
row_other table i k row less = ap row_in (get_set_other table i k row (λ e. omega (arith, e, less)))

-- the topmost activation waits
pub wait_alike : (table : List Row) (r : Registers) (layout : Layout) (args : ℕ) → r.top < length table → (k : ℕ) → k ≤ r.top → Alike (row_at (with_waiting table r layout args) k) (row_at table k)
wait_alike table r layout args there k low = ⊎_elim
    (λ (less : k < r.top). alike_by _ _ (row_other table r.top k _ less))
    (λ (most : r.top ≤ k).
    let e : r.top ≡ k = omega (arith, low, most) in
    let is = row_set table r.top (waiting (row_at table r.top) r layout args) there in
    subst (λ q. Alike (row_at (with_waiting table r layout args) q) (row_at table q)) e
    (record { instance = ap (λ (x : Row). x.instance) is; procedure = ap (λ (x : Row). x.procedure) is; kind = ap (λ (x : Row). x.kind) is }))
    (cases_lt k r.top)

module _ (image : Image) (table : List Row) where
  -- an arm is run
  pub arms_entered : (table' : List Row) (top place n : ℕ) (reason : Reason) (sequel : Sequel) → AddsArm table top place n reason table' sequel → ArmsHold image table top
      → ((row : Row) → row.instance ≡ (row_at table place).instance → row.procedure ≡ (row_at table place).procedure → (rows : List Row)
      → ((k : ℕ) → k ≤ top → Alike (row_at rows k) (row_at table k)) → row_at rows (top + 1) ≡ row → ReasonHolds image rows (top + 1) reason)
      → HoldsOn image table' sequel
  arms_entered table' top place n reason (Goes r) adds h new =
      let own = owner_place (row_at table place).kind place in
      let holder = row_at table place in
      let row : Row = arm_row holder.instance holder.procedure own n reason in
      let rows : List Row = with_arm table (top + 1) holder own n reason in
      let same : (k : ℕ) → k ≤ top → Alike (row_at rows k) (row_at table k) = λ k low. alike_by _ _ (row_other table (top + 1) k row (omega (arith, low))) in
      let is : row_at rows (top + 1) ≡ row = row_set table (top + 1) row adds.1 in
      let there : ArmsHold image rows (top + 1) =
      arms_more image table rows top same h
      (subst (λ (kind : Kind). KindHolds image rows (top + 1) kind) (sym (ap (λ (x : Row). x.kind) is)) (new row refl refl rows same is)) in
      subst (λ k. ArmsHold image table' k) (sym adds.0) (subst (λ (t : List Row). ArmsHold image t (top + 1)) (sym adds.2) there)
  arms_entered table' top place n reason Empty adds h new = absurd adds
  arms_entered table' top place n reason (Pending r) adds h new = absurd adds
  arms_entered table' top place n reason (Ends end) adds h new = tt
