-- An arm resumes.
use Rattle.std.proofs.Common.{◌≡◌, ℕ, suc, ◌+◌, ◌-◌, ◌*◌, ◌<◌, ◌≤◌, List, [], ◌∷◌, length, reverse, true, false, Some, refl, sym, ap, subst, ◌∙◌, arith}
use Rattle.std.proofs.lemmas.Bool.{false≢true}
use Rattle.std.proofs.lemmas.Option.{slice_get_within}
use Rattle.code_forms.specs.declared.instruction.Instruction.{Instruction}
use Rattle.code_forms.specs.declared.instruction.Instruction.TheVariants.{Resume}
use Rattle.code_forms.specs.declared.module_code.ModuleCode.{ModuleCode}
use Rattle.code_forms.specs.Instructions.{bytes_of}
use Rattle.object_files.specs.declared.image.Image.{Image}
use Rattle.signaller.specs.declared.signal_id.SignalId.{SignalId}
use Rattle.signaller.specs.declared.search.Search.{Search}
use Rattle.machine_rules.specs.State.{ForRaise, ForJump, Role, Frame, InArm, Active, Activations, Store, Runs, Stepped, Goes}
use Rattle.machine_rules.specs.Words.{push, popped, under}
use Rattle.machine_rules.specs.LookUps.{instruction_under}
use Rattle.machine_rules.specs.Moves.{with, onward, give}
use Rattle.machine_rules.specs.Signals.{takes_back, can_resume, resumed, resume}
use Rattle.machine_rules.specs.Steps.{perform, worked, works_in, step}
use Rattle.machine_rules.specs.Working.{works}
use Rattle.machine_topmost.specs.declared.registers.Registers.{Registers}
use Rattle.machine_topmost.specs.Flat.{part, with_part}
use Rattle.machine_topmost.proofs.Copied.{length-part}
use Rattle.machine_topmost.proofs.Showing.{popped_shown}
use Rattle.machine_activations.specs.declared.row.Kind.{Kind}
use Rattle.machine_activations.specs.declared.row.Kind.TheVariants.{Frame as FrameRow, Arm as ArmRow}
use Rattle.machine_activations.specs.declared.row.Layout.{Layout}
use Rattle.machine_activations.specs.declared.row.Reason.TheVariants.{Raise as RaiseRow, Jump as JumpRow}
use Rattle.machine_activations.specs.declared.row.Row.{Row}
use Rattle.machine_activations.specs.Placed.{floor_at}
use Rattle.machine_activations.specs.Rows.{IsKind, IsWhy}
use Rattle.machine_activations.specs.Below.{Raised, over, over_by, GoesOn, Waits, Waiting, Owned, Below}
use Rattle.machine_activations.specs.Calling.{IsCodeOf, IsAt}
use Rattle.machine_activations.specs.Frames.{row_at, end_at, back_registers}
use Rattle.machine_activations.specs.Reaching.{Shown}
use Rattle.machine_activations.specs.Shows.{IsPrepared, Shows}
use Rattle.machine_activations.proofs.Following.{began}
use Rattle.machine_activations.proofs.GivingBack.{HasRoom}
use Rattle.machine_activations.proofs.Reach.{one_step, two_ways}
use Rattle.machine_activations.proofs.Tables.{row_there}
use Rattle.machine_signals.specs.Leaving.{resumes_with, Rejects}
use Rattle.machine_signals.proofs.Given.{given_room, given_shows, stands_there, here}
use Rattle.machine_signals.proofs.Raisers.{begins, enough}
use Rattle.machine_signals.proofs.Rejects.{kind_is, arm_low, raise_role}
use Rattle.machine_signals.proofs.Waiting.{operands_fit}

-- whether it may, by its row
can_so : (image : Image) (kind : Kind) (role : Role (List ℕ)) (n : ℕ) → IsKind kind role → can_resume image role n ≡ resumes_with image kind n
unfolding can_resume IsKind IsWhy
can_so image FrameRow (Frame variables) n h = refl
can_so image FrameRow (InArm own arm why) n h = absurd h
can_so image (ArmRow own arm reason) (Frame variables) n h = absurd h
can_so image (ArmRow own arm (RaiseRow signal args beyond)) (InArm own' arm' (ForRaise signal' args' beyond')) n h = ap (λ k. takes_back image k n) (sym h.2.0)
can_so image (ArmRow own arm (RaiseRow signal args beyond)) (InArm own' arm' (ForJump aim beyond')) n h = absurd h.2
can_so image (ArmRow own arm (JumpRow target beyond)) (InArm own' arm' (ForRaise signal' args' beyond')) n h = absurd h.2
can_so image (ArmRow own arm (JumpRow target beyond)) (InArm own' arm' (ForJump aim beyond')) n h = refl

-- one that resumes runs for a raise
pub record ForRaising (image : Image) (kind : Kind) (n : ℕ) : Type 0 where
  pub own : ℕ
  pub arm : ℕ
  pub signal : SignalId
  pub count : ℕ
  pub beyond : Search
  pub is : kind ≡ ArmRow own arm (RaiseRow signal count beyond)
  pub takes : takes_back image signal n ≡ true

raising_by : (image : Image) (kind : Kind) (n : ℕ) → resumes_with image kind n ≡ true → ForRaising image kind n
raising_by image FrameRow n e = absurd (false≢true e)
raising_by image (ArmRow own arm (RaiseRow signal args beyond)) n e = record { own = own; arm = arm; signal = signal; count = args; beyond = beyond; is = refl; takes = e }
raising_by image (ArmRow own arm (JumpRow target beyond)) n e = absurd (false≢true e)

given_words : (image : Image) (words : List ℕ) (b : Active) (T : Activations) (m : Store) (i : Instruction) → instruction_under image b ≡ Some i
    → give image 0 words (b ∷ T) m ≡ Goes (Runs (record b { offset = b.offset + bytes_of i; operands = push words b.operands } ∷ T) m)
unfolding give with onward
given_words image words b T m i is = ap (λ o. with o m (λ (i : Instruction). onward i (push words (under 0 b.operands)) b T m)) is

module _ (image : Image) (layout : Layout) (prepared : IsPrepared image layout) (region : List ℕ) (table : List Row) (r : Registers) (code : ModuleCode)
    (own_code : IsCodeOf image code table r) (n : ℕ) (at : IsAt code table r (Resume n)) (s : Stepped) (m : Store) (shown : Shown image layout region table r s m) where
  abbrev a : Active
  a = shown.top

  abbrev S : Activations
  S = shown.rest

  kind_here : IsKind (row_at table r.top).kind a.role
  kind_here = kind_is image layout region table r shown.procedure a S shown.shows

  resume_step : step image (Runs (a ∷ S) m) ≡ resumed (resumes_with image (row_at table r.top).kind n) image (popped n a.operands) a.role S (began m)
  unfolding works_in works worked perform resume
  resume_step =
      begins image layout prepared region table r code own_code s m shown (Resume n) at
      ∙ ap (λ b. resumed b image (popped n a.operands) a.role S (began m)) (can_so image (row_at table r.top).kind a.role n kind_here)

  pub resume_rejects : resumes_with image (row_at table r.top).kind n ≡ false → Rejects image layout region table r s (record m { begun = suc m.begun })
  unfolding resumed
  resume_rejects not_so = record {
    top = a;
    rest = S;
    procedure = shown.procedure;
    shows = shown.shows;
    reaches = two_ways image s _ _ shown.reaches (one_step image _ _ (resume_step ∙ ap (λ b. resumed b image (popped n a.operands) a.role S (began m)) not_so));
  }

  pub top_there : r.top < length table
  top_there = let l = slice_get_within table (length S) shown.shows.rowed.row shown.shows.rowed.there in let t = shown.shows.top in omega (arith, l, t)

  module _ (yes : resumes_with image (row_at table r.top).kind n ≡ true) (wide : (r.top + 1) * layout.part ≤ length region) where
    raising : ForRaising image (row_at table r.top).kind n
    raising = raising_by image (row_at table r.top).kind n yes

    role_is : (args : List ℕ) × (a.role ≡ InArm raising.own raising.arm (ForRaise raising.signal args raising.beyond)) × (raising.count ≡ length args)
    role_is = raise_role a.role raising.own raising.arm raising.signal raising.count raising.beyond (subst (λ (k : Kind). IsKind k a.role) raising.is kind_here)

    pub some_under : 1 ≤ r.top
    some_under =
        let l = arm_low image layout region table r shown.procedure a S shown.shows raising.own raising.arm (ForRaise raising.signal role_is.0 raising.beyond) role_is.1 in omega (arith, l)

    enough_here : n ≤ length a.operands
    enough_here = enough image layout prepared region table r code own_code s m shown (Resume n) at n 0 (refl, refl)

    pub words_low : n ≤ r.sp
    words_low = let e = enough_here in let sp = shown.shows.sp in omega (arith, e, sp)

    full : r.sp ≤ length region
    full =
        let sp = shown.shows.sp in let t : r.top * layout.part ≡ length S * layout.part = ap (λ q. q * layout.part) shown.shows.top in
        let o = operands_fit image layout prepared region table r shown.procedure a S shown.shows in
        let l = prepared.laid a.instance a.procedure shown.procedure shown.shows.is in omega (arith, sp, t, wide, o, l.1)

    pub words_source : r.sp - n + n ≤ length region
    words_source = let w = words_low in let f = full in omega (arith, w, f)

    abbrev pub words : List ℕ
    words = part region (r.sp - n) n

    words_many : length words ≡ n
    words_many = length-part region (r.sp - n) n words_source

    words_are : popped n a.operands ≡ words
    words_are =
        let sp = shown.shows.sp in let e = enough_here in
        let many : length a.operands ≡ r.sp - floor_at layout (length S) = omega (arith, sp) in
        ap (λ o. popped n o) (sym shown.shows.placed.operands ∙ ap (λ k. reverse (part region (floor_at layout (length S)) k)) many)
        ∙ popped_shown region (floor_at layout (length S)) r.sp n (omega (arith, sp, e)) full

    over_is : over a ≡ Raised raising.signal role_is.0
    unfolding over_by
    over_is = ap (λ x. over_by a.instance a.procedure x) role_is.1

    record Raiser : Type 0 where
      b : Active
      T : Activations
      parts : S ≡ b ∷ T
      place_is : length T ≡ r.top - 1
      waiting : Waiting image layout region table (Raised raising.signal role_is.0) (length T) b
      owned : Owned b T
      lower : Below image layout region table (over b) T
      within : length T * layout.part + layout.part ≤ length region

    raiser_by : (S' : Activations) → S ≡ S' → Below image layout region table (over a) S' → Raiser
    unfolding Below
    raiser_by [] same below = absurd (let u = some_under in let t = shown.shows.top in let l = ap length same in omega (arith, u, t, l))
    raiser_by (b ∷ T) same below =
        let t = shown.shows.top in let l = ap length same in
        let top : r.top ≡ length T + 1 = omega (arith, t, l) in
        let up : (r.top + 1) * layout.part ≡ length T * layout.part + layout.part + layout.part = ap (λ q. (q + 1) * layout.part) top ∙ omega arith in
        record {
          b = b;
          T = T;
          parts = same;
          place_is = omega (arith, top);
          waiting = subst (λ x. Waiting image layout region table x (length T) b) over_is below.0;
          owned = below.1;
          lower = below.2;
          within = omega (arith, up, wide);
        }

    u : Raiser
    u = raiser_by S refl shown.shows.below

    abbrev row : Row
    row = row_at table (length u.T)

    next : GoesOn u.waiting.procedure row.entry (row.count + length words)
    unfolding Waits
    next =
        let kept = row_there table (length u.T) u.waiting.kept.row u.waiting.kept.there in
        subst (λ (k : Row). GoesOn u.waiting.procedure k.entry (k.count + length words)) (sym kept)
        (subst (λ k. GoesOn u.waiting.procedure u.waiting.kept.row.entry (u.waiting.kept.row.count + k)) (sym words_many) (u.waiting.kept.waits n raising.takes))

    module _ (below : Row) (below_is : below ≡ row_at table (r.top - 1)) where
      pub words_room : HasRoom layout region below (r.top - 1) n
      words_room =
          subst (λ (x : Row). HasRoom layout region x (r.top - 1) n) (sym below_is)
          (subst (λ q. HasRoom layout region (row_at table q) q n) u.place_is
          (subst (λ k. HasRoom layout region row (length u.T) k) words_many
          (given_room image layout prepared region table (Raised raising.signal role_is.0) u.b u.T u.waiting u.owned u.lower u.within words next)))

      pub words_shown : (region' : List ℕ) (r' : Registers) → region' ≡ with_part region (end_at below (r.top - 1) layout) words
          → r' ≡ back_registers below (r.top - 1) layout n (below.entry + 1) → Shown image layout region' table r' s (record m { begun = suc m.begun })
      unfolding resumed
      words_shown region' r' region_is registers_is =
          let i = here image layout prepared region table (Raised raising.signal role_is.0) u.b u.T u.waiting u.owned u.lower u.within in
          let stands = stands_there image layout prepared region table (Raised raising.signal role_is.0) u.b u.T u.waiting u.owned u.lower u.within in
          let shows = given_shows image layout prepared region table (Raised raising.signal role_is.0) u.b u.T u.waiting u.owned u.lower u.within words next in
          let top : Active = record u.b { offset = u.b.offset + bytes_of i.instruction; operands = push words u.b.operands } in
          let e1 : region' ≡ with_part region (end_at (row_at table (r.top - 1)) (r.top - 1) layout) words = region_is ∙ ap (λ (x : Row). with_part region (end_at x (r.top - 1) layout) words) below_is in
          let e2 : r' ≡ back_registers (row_at table (r.top - 1)) (r.top - 1) layout n ((row_at table (r.top - 1)).entry + 1) = registers_is ∙ ap (λ (x : Row). back_registers x (r.top - 1) layout n (x.entry + 1)) below_is in
          let step_is : step image (Runs (a ∷ S) m) ≡ Goes (Runs (top ∷ u.T) (began m)) =
          resume_step ∙ ap (λ b. resumed b image (popped n a.operands) a.role S (began m)) yes
          ∙ ap (λ k. give image 0 k S (began m)) words_are ∙ ap (λ l. give image 0 words l (began m)) u.parts
          ∙ given_words image words u.b u.T (began m) i.instruction stands in
          subst (λ (l : List ℕ). Shown image layout l table r' s (record m { begun = suc m.begun })) (sym e1)
          (subst (λ (k : Registers). Shown image layout (with_part region (end_at (row_at table (r.top - 1)) (r.top - 1) layout) words) table k s (record m { begun = suc m.begun })) (sym e2)
          (record {
            top = top;
            rest = u.T;
            procedure = u.waiting.procedure;
            shows =
                subst (λ q. Shows image layout (with_part region (end_at (row_at table q) q layout) words) table (back_registers (row_at table q) q layout n ((row_at table q).entry + 1)) u.waiting.procedure top u.T) u.place_is
                (subst (λ k. Shows image layout (with_part region (end_at row (length u.T) layout) words) table (back_registers row (length u.T) layout k (row.entry + 1)) u.waiting.procedure top u.T) words_many shows);
            reaches = two_ways image s _ _ shown.reaches (one_step image _ _ step_is);
          }))
