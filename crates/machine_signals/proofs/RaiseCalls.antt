-- A raise with the values of the code.
use Rattle.std.proofs.Common.{◌≡◌, ℕ, ◌-◌, List, ◌∷◌, true, sym, subst, arith}
use Rattle.object_files.specs.declared.image.Image.{Image}
use Rattle.signaller.specs.declared.search.Search.{Search}
use Rattle.signaller.specs.declared.signal_id.SignalId.{SignalId}
use Rattle.machine_rules.specs.State.{Store, Seeks, Stepped, Goes}
use Rattle.machine_rules.specs.Words.{popped}
use Rattle.machine_topmost.specs.declared.registers.Registers.{Registers}
use Rattle.machine_activations.specs.declared.row.Layout.{Layout}
use Rattle.machine_activations.specs.declared.row.Row.{Row}
use Rattle.machine_activations.specs.Frames.{row_at}
use Rattle.machine_activations.specs.Shows.{IsPrepared, IsAmple}
use Rattle.machine_activations.proofs.Reach.{reaches_itself}
use Rattle.machine_signals.specs.Arms.{with_waiting}
use Rattle.machine_signals.specs.Indexed.{BeginsThere, IsRead}
use Rattle.machine_signals.specs.Raising.{ArmsHold, Raises}
use Rattle.machine_signals.specs.Seeking.{CanSeek, Seeking}
use Rattle.machine_signals.proofs.ArmRows.{arms_alike, wait_alike}
use Rattle.machine_signals.proofs.Raised.{row_low, all_wait, args_stand, top_read, raise_seeks}
use Rattle.machine_signals.proofs.SeekLoop.{read_so, begins_there}
use Rattle.machine_signals.proofs.Waiting.{raiser_of}

module _ (image : Image) (layout : Layout) (prepared : IsPrepared image layout) (region : List ℕ) (table : List Row) (r : Registers) (signal : SignalId) (args : ℕ)
    (ample : IsAmple layout region table r.top) (table' : List Row) (table_is : table' ≡ with_waiting table r layout args) where
  module _ (s : Stepped) (m : Store) (w : Raises image layout region table r signal args s m) where
    module _ (row : Row) (row_is : row ≡ row_at table' r.top) where
      pub raiser_read : IsRead image row
      raiser_read =
          read_so image table' r.top row row_is
          (subst (λ (t : List Row). IsRead image (row_at t r.top)) (sym table_is) (top_read image layout prepared region table r signal args ample s m w))

      module _ (search : Search) (begins : BeginsThere image true row search) where
        begins_so : BeginsThere image true (row_at (with_waiting table r layout args) r.top) search
        begins_so = subst (λ (t : List Row). BeginsThere image true (row_at t r.top) search) table_is (begins_there image table' r.top row row_is search begins)

        pub can_seek : CanSeek image layout region table' r.top signal (r.sp - args) args r.top search
        can_seek =
            let t = w.shows.top in
            let i = args_stand image layout prepared region table r signal args ample s m w in
            subst (λ (t : List Row). CanSeek image layout region t r.top signal (r.sp - args) args r.top search) (sym table_is) (record {
              start = Goes (Seeks signal (popped args w.top.operands) r.top search (raiser_of args w.top ∷ w.rest) m);
              store = m;
              seeking = record {
                activations = raiser_of args w.top ∷ w.rest;
                args = popped args w.top.operands;
                below = all_wait image layout prepared region table r signal args ample s m w;
                high = omega (arith, t);
                low = omega arith;
                source = i.0;
                inside = i.1;
                reaches = reaches_itself image _;
              };
            })

        pub then_seeks : (m.turns ≡ 0 → ⊥) → Seeking image layout region table' r.top signal (r.sp - args) args r.top search s (record m { turns = m.turns - 1 })
        then_seeks some =
            subst (λ (t : List Row). Seeking image layout region t r.top signal (r.sp - args) args r.top search s (record m { turns = m.turns - 1 })) (sym table_is)
            (raise_seeks image layout prepared region table r signal args ample s m w some search begins_so)

    -- the rows of arms are as they were
    pub arms_wait : ArmsHold image table r.top → ArmsHold image table' r.top
    arms_wait holds =
        subst (λ (t : List Row). ArmsHold image t r.top) (sym table_is)
        (arms_alike image table (with_waiting table r layout args) r.top
        (wait_alike table r layout args (row_low image layout prepared region table r signal args ample s m w)) holds)
