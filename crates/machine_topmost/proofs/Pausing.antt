-- The run of the topmost activation stays where its code is valid, and comes to a pause.
use Rattle.std.proofs.Common.{◌≡◌, ℕ, ◌+◌, ◌-◌, ◌*◌, ◌<◌, ◌≤◌, ◌⊎◌, inl, inr, ⊎_elim, List, length, get_or, Option, Some, None, sym, ap, subst, ◌∙◌, arith}
use Rattle.std.specs.Prelude.{slice_get, slice_index}
use Rattle.std.proofs.Math.Logic.{∥∥₁_elim}
use Rattle.std.proofs.Math.Bridge.{le_prop}
use Rattle.std.proofs.lemmas.Bool.{cases_lt}
use Rattle.std.proofs.lemmas.Option.{slice_get-get_or, slice_get_within, get_or_from_slice_get, same_Some, none-some}
use Rattle.code_forms.specs.declared.instruction.Instruction.{Instruction}
use Rattle.code_forms.specs.declared.instruction.Instruction.TheVariants.{Jump, JumpIf, JumpIfNot}
use Rattle.code_forms.specs.declared.module_code.CodeEntry.{CodeEntry}
use Rattle.code_forms.specs.declared.module_code.CodeProcedure.{CodeProcedure}
use Rattle.code_forms.specs.declared.module_code.ModuleCode.{ModuleCode}
use Rattle.code_forms.specs.Depths.{Settled, at_none, at_first, depth_after, forward_target, backward_target}
use Rattle.code_forms.specs.Jumps.{JumpsRightly}
use Rattle.code_forms.specs.Ranges.{InOrder}
use Rattle.code_forms.specs.Routine.{Routine, Begins, routine, spots}
use Rattle.code_forms.specs.Running.{EntryRuns}
use Rattle.code_forms.specs.Valid.{Valid, HasDepths, RoutineIsValid, SpotIsRight}
use Rattle.code_forms.proofs.Depths.{settled_once}
use Rattle.code_forms.proofs.Leading.{begins_there}
use Rattle.code_forms.proofs.Ordered.{blank, at_less, at_of_begins, spot_within}
use Rattle.code_forms.proofs.RunsRight.{runs_in_range}
use Rattle.machine_topmost.specs.declared.registers.Why.{Why}
use Rattle.machine_topmost.specs.Flat.{Flat, Flowed, Went, Paused, Flows}
use Rattle.machine_topmost.specs.Fits.{Fits}
use Rattle.machine_topmost.specs.Running.{HasTargets, IsProcedureOf, Standing, flat_at, FlatRuns, here, later as one_later, FlatPauses}
use Rattle.machine_topmost.proofs.Fitting.{fits}
use Rattle.machine_topmost.proofs.Going.{Goes, Way, on, forward, back, goes}

-- the depth before an instruction of valid code is within the room
pub depth_within : (r : Routine) (i depth : ℕ) → RoutineIsValid r → Settled r i depth → depth ≤ r.room
depth_within r _ _ valid (at_none i none) = omega arith
depth_within r _ _ valid (at_first i j depth spot is leads first settled) =
    let right : SpotIsRight r j spot = valid.spots j spot (slice_get_within r.code j spot is) is in
    let same : right.depth ≡ depth = settled_once r j right.depth depth right.settled settled in
    subst (λ n. depth_after r spot.instruction n ≤ r.room) same right.stack.fits.room

-- what begins at a greater offset is a later entry
later_entry : (code : List CodeEntry) (i j at offset : ℕ) → InOrder code → Begins (spots code) i at → Begins (spots code) j offset → at < offset → i < j
later_entry code i j at offset order this that more =
    let here = at_of_begins code i at blank this in
    let there = at_of_begins code j offset blank that in
    ⊎_elim (λ (l : i < j). l)
    (λ (l : j ≤ i). ⊎_elim
    (λ (m : j < i). absurd (let less = at_less code j i blank order m (spot_within code i this.spot this.is) in omega (arith, less, here, there)))
    (λ (m : i ≤ j). absurd (let same : i ≡ j = omega arith in let one : (get_or code i blank).at ≡ (get_or code j blank).at = ap (λ n. (get_or code n blank).at) same in omega (arith, one, here, there)))
    (cases_lt j i))
    (cases_lt i j)

-- a forward jump goes past its instruction
after : (r : Routine) (at offset : ℕ) (i : Instruction) → forward_target i ≡ Some offset → JumpsRightly r at i → at < offset
after r at offset (Jump target) is jump = subst (λ n. at < n) (same_Some target offset is) jump.after
after r at offset (JumpIf target) is jump = subst (λ n. at < n) (same_Some target offset is) jump.after
after r at offset (JumpIfNot target) is jump = subst (λ n. at < n) (same_Some target offset is) jump.after
after r at offset _ is jump = absurd (none-some offset is)

module _ (m : ModuleCode) (p : CodeProcedure) (valid : Valid m) (depths : HasDepths m) (of : IsProcedureOf m p) where
  pub entry_runs : (i : ℕ) (e : CodeEntry) → slice_get p.code i ≡ Some e → EntryRuns (routine m p) p i e
  entry_runs = runs_in_range m valid depths of.0 p of.1

  pub depth_below : (i : ℕ) (e : CodeEntry) → slice_get p.code i ≡ Some e → e.depth ≤ p.depth
  depth_below i e at =
      let there = slice_get_within m.procedures of.0 p of.1 in
      depth_within (routine m p) i e.depth (valid of.0 p there of.1) (depths of.0 p there of.1 i e at)

module _ (m : ModuleCode) (p : CodeProcedure) (targets : List ℕ) (valid : Valid m) (depths : HasDepths m) (of : IsProcedureOf m p) (leads : HasTargets p.code targets) where
  later : (i j at offset : ℕ) → Begins (spots p.code) i at → Begins (spots p.code) j offset → at < offset → i + 1 ≤ j
  later i j at offset this that more = ∥∥₁_elim m.ranges le_prop (λ r. (
      let there = slice_get_within m.procedures of.0 p of.1 in
      let same = get_or_from_slice_get m.procedures of.0 p p of.1 in
      let order : InOrder p.code = subst (λ (q : CodeProcedure). InOrder q.code) same (r.each_procedure of.0 p there).code in
      let less = later_entry p.code i j at offset order this that more in
      omega (arith, less)))

  module _ (floor : ℕ) where
    abbrev pub Stands : Flat → Type 0
    Stands s = Standing m p (length s.region) (length s.globals) floor s.registers

    module _ (texts : ℕ → ℕ → List ℕ) (number : ℕ) (s : Flat) (e : CodeEntry) (standing : Stands s) (fetched : slice_get p.code s.registers.entry ≡ Some e) where
      abbrev target : ℕ
      target = slice_index targets s.registers.entry

      abbrev run : EntryRuns (routine m p) p s.registers.entry e
      run = entry_runs m p valid depths of s.registers.entry e fetched

      pub fits_here : Fits e.instruction (length s.region) (length s.globals) s.registers
      fits_here = fits (routine m p) _ (length s.region) (length s.globals) floor e.depth s.registers (standing.deep e fetched) standing.apart standing.roomy standing.all_globals
          (depth_below m p valid depths of s.registers.entry e fetched) e.instruction run.enough run.room run.operands.own

      module _ (u : Flat) (went : flat_at texts number targets e s ≡ Went u) where
        abbrev gone : Goes (routine m p) e.instruction target s u
        gone = goes texts number (routine m p) target s e.instruction u fits_here went

        begins_at_target : (offset : ℕ) → (forward_target e.instruction ≡ Some offset) ⊎ (backward_target e.instruction ≡ Some offset) → Begins (spots p.code) target offset
        begins_at_target offset is = leads.lead s.registers.entry offset e fetched is

        target_later : (offset : ℕ) → forward_target e.instruction ≡ Some offset → s.registers.entry + 1 ≤ target
        target_later offset is = later s.registers.entry target e.at offset (begins_there p.code s.registers.entry e fetched) (begins_at_target offset (inl is))
            (after (routine m p) e.at offset e.instruction is run.jump)

        -- the entry where it goes on is there, and has the depth that it leaves
        lands : (f : CodeEntry) → Way (routine m p) e.instruction target s u → slice_get p.code u.registers.entry ≡ Some f → f.depth ≡ depth_after (routine m p) e.instruction e.depth
        lands f (on goes step same) at =
            let next = run.next goes in
            let one : next.0 ≡ f = same_Some next.0 f (sym next.1 ∙ ap (λ n. slice_get p.code n) (sym step) ∙ at) in
            ap (λ x. x.depth) (sym one) ∙ next.2
        lands f (forward offset is to same) at =
            run.forward target f (target_later offset is) (record { offset = offset; is = is; begins = begins_at_target offset (inl is) }) (ap (λ n. slice_get p.code n) (sym to) ∙ at)
        lands f (back offset is to less) at =
            run.backward target f (record { offset = offset; is = is; begins = begins_at_target offset (inr is) }) (ap (λ n. slice_get p.code n) (sym to) ∙ at)

        within_at_target : (offset : ℕ) → Begins (spots p.code) target offset → u.registers.entry ≡ target → u.registers.entry < length p.code
        within_at_target offset begins to = let less = spot_within p.code target begins.spot begins.is in omega (arith, less, to)

        stays_within : Way (routine m p) e.instruction target s u → u.registers.entry < length p.code
        stays_within (on goes step same) = let next = run.next goes in let less = slice_get_within p.code (s.registers.entry + 1) next.0 next.1 in omega (arith, less, step)
        stays_within (forward offset is to same) = within_at_target offset (begins_at_target offset (inl is)) to
        stays_within (back offset is to less) = within_at_target offset (begins_at_target offset (inr is)) to

        pub stands_then : Stands u
        stands_then = record {
          within = stays_within gone.way;
          deep = λ f at. gone.deep floor e.depth (standing.deep e fetched) run.enough ∙ ap (λ n. floor + n) (sym (lands f gone.way at));
          apart = let same = gone.same_slots in let apart = standing.apart in omega (arith, same, apart);
          roomy = let same = gone.same_region in let roomy = standing.roomy in omega (arith, same, roomy);
          all_globals = gone.same_globals ∙ standing.all_globals;
        }

        pub same_top : u.registers.top ≡ s.registers.top
        same_top = gone.same_top

        pub same_slots : u.registers.slots ≡ s.registers.slots
        same_slots = gone.same_slots

        -- a turn is spent, or the entry is a later one
        abbrev Nearer : Type 0
        Nearer = (u.turns + 1 ≡ s.turns) ⊎ ((u.turns ≡ s.turns) × (s.registers.entry < u.registers.entry))

        nearer : Way (routine m p) e.instruction target s u → Nearer
        nearer (on goes step same) = inr (same, omega (arith, step))
        nearer (forward offset is to same) = inr (same, let more = target_later offset is in omega (arith, more, to))
        nearer (back offset is to less) = inl less

        falls : (count at at' turns turns' : ℕ) → at < count → (turns' + 1 ≡ turns) ⊎ ((turns' ≡ turns) × (at < at')) → turns' * (count + 1) + (count - at') < turns * (count + 1) + (count - at)
        falls count at at' turns turns' within (inl less) = rw (← less) (grind arith)
        falls count at at' turns turns' within (inr more) = rw more.0 (let past : at < at' = more.1 in omega arith)

        pub nearer_then : u.turns * (length p.code + 1) + (length p.code - u.registers.entry) < s.turns * (length p.code + 1) + (length p.code - s.registers.entry)
        nearer_then = falls (length p.code) s.registers.entry u.registers.entry s.turns u.turns standing.within (nearer gone.way)

        pub turns_fall : u.turns ≤ s.turns
        turns_fall = ⊎_elim (λ (h : u.turns + 1 ≡ s.turns). omega (arith, h)) (λ (h : (u.turns ≡ s.turns) × (s.registers.entry < u.registers.entry)). omega (arith, h.0)) (nearer gone.way)

-- What an answer says.

pub flows_none : (flowed : Flowed) (answer : Option Why) (s u : Flat) → answer ≡ None → Flows flowed answer s u → flowed ≡ Went u
unfolding Flows
flows_none flowed answer s u is h = subst (λ o. Flows flowed o s u) is h

pub flows_some : (flowed : Flowed) (answer : Option Why) (why : Why) (s u : Flat) → answer ≡ Some why → Flows flowed answer s u → (flowed ≡ Paused why) × (u ≡ s)
unfolding Flows
flows_some flowed answer why s u is h = subst (λ o. Flows flowed o s u) is h

-- Runs.

module _ (texts : ℕ → ℕ → List ℕ) (number : ℕ) (code : List CodeEntry) (targets : List ℕ) (start : Flat) where
  pub none_yet : (n : ℕ) → n ≡ 0 → FlatRuns texts number code targets start n start
  none_yet n none = subst (λ k. FlatRuns texts number code targets start k start) (sym none) here

  pub one_more : (s u : Flat) (n more : ℕ) (e : CodeEntry) → FlatRuns texts number code targets start n s → slice_get code s.registers.entry ≡ Some e → flat_at texts number targets e s ≡ Went u → more ≡ n + 1
      → FlatRuns texts number code targets start more u
  one_more s u n more e runs fetched goes count = subst (λ k. FlatRuns texts number code targets start k u) (sym count) (one_later n s e u runs fetched goes)

  pub pauses_at : (s u : Flat) (n begun : ℕ) (e : CodeEntry) (why : Why) → FlatRuns texts number code targets start n s → slice_get code s.registers.entry ≡ Some e → flat_at texts number targets e s ≡ Paused why → u ≡ s → begun ≡ n + 1
      → FlatPauses texts number code targets start begun why u
  pauses_at s u n begun e why runs fetched pauses same count = subst (λ t. FlatPauses texts number code targets start begun why t) (sym same)
      (record { before = n; runs = runs; entry = e; fetched = fetched; pauses = pauses; counted = count })

-- the entry that is read
pub fetched_at : (xs ys : List CodeEntry) (at : ℕ) (e : CodeEntry) → xs ≡ ys → at < length xs → slice_get ys at ≡ Some (get_or xs at e)
fetched_at xs ys at e same less = subst (λ zs. slice_get zs at ≡ Some (get_or xs at e)) same (slice_get-get_or xs at e less)

-- the entry at which it pauses is the one that was read
pub paused_there : (code : List CodeEntry) (s u : Flat) (e x : CodeEntry) → slice_get code s.registers.entry ≡ Some e → u ≡ s → slice_get code u.registers.entry ≡ Some x → x.instruction ≡ e.instruction
paused_there code s u e x fetched same there =
    ap (λ (y : CodeEntry). y.instruction) (same_Some x e (sym there ∙ ap (λ (t : Flat). slice_get code t.registers.entry) same ∙ fetched))
