use Rattle.std.proofs.Common.{◌≡◌, ℕ, List, Option, Some, None, refl, ap, subst, ◌∙◌}
use Rattle.code_forms.specs.declared.instruction.Instruction.{Instruction}
use Rattle.code_forms.specs.declared.instruction.Instruction.TheVariants.{AddD, SubD, MulD, NegD, DivDI, ModDI, DivDC, ModDC, EqD, LessDI, LessDC, WidenI, WidenC, NarrowI, NarrowC, CheckD}
use Rattle.machine_topmost.specs.declared.registers.Registers.{Registers}
use Rattle.machine_topmost.specs.declared.registers.Why.{Why}
use Rattle.machine_topmost.specs.Flat.{Flat, Went, Flows, FlowsInRegion, leaves, operates_long}
use Rattle.machine_topmost.proofs.Going.{went, paused_not, went_within, went_long_tried}
use Rattle.machine_topmost.proofs.long_operate.operate_long.Goals as goal

-- what an instruction over LONG numbers leaves as it was
module _ (s : Flat) where
  abbrev Stays : Flat → Type 0
  Stays u = (u.registers.top ≡ s.registers.top) × (u.registers.slots ≡ s.registers.slots)

  stays_behind : (region : List ℕ) (sp : ℕ) (u : Flat) → leaves region sp s ≡ Went u → Stays u
  stays_behind region sp u h = subst Stays (went _ u h) (refl, refl)

  stays : (i : Instruction) (u : Flat) → operates_long i s ≡ Went u → Stays u
  unfolding operates_long
  stays AddD u h = stays_behind _ _ u h
  stays SubD u h = stays_behind _ _ u h
  stays MulD u h = stays_behind _ _ u h
  stays NegD u h = stays_behind _ _ u h
  stays DivDI u h = stays_behind _ _ u (went_long_tried _ _ s u h).1
  stays ModDI u h = stays_behind _ _ u (went_long_tried _ _ s u h).1
  stays DivDC u h = stays_behind _ _ u (went_long_tried _ _ s u h).1
  stays ModDC u h = stays_behind _ _ u (went_long_tried _ _ s u h).1
  stays EqD u h = stays_behind _ _ u h
  stays LessDI u h = stays_behind _ _ u h
  stays LessDC u h = stays_behind _ _ u h
  stays WidenI u h = stays_behind _ _ u h
  stays WidenC u h = stays_behind _ _ u h
  stays NarrowI u h = stays_behind _ _ u (went_within _ _ _ u h).1
  stays NarrowC u h = stays_behind _ _ u (went_within _ _ _ u h).1
  stays CheckD u h = stays_behind _ _ u (went_within _ _ _ u h).1
  stays _ u h = absurd (paused_not _ u h)

kept : (i : Instruction) (answer : Option Why) (old new : List ℕ) (r q : Registers) → FlowsInRegion (operates_long i) answer old new r q
    → FlowsInRegion (operates_long i) answer old new r (record { top = r.top; entry = q.entry; sp = q.sp; slots = r.slots })
unfolding Flows
kept i None old new r q flows globals turns =
    let f = flows globals turns in
    let same = stays (record { region = old; globals = globals; registers = r; turns = turns }) i (record { region = new; globals = globals; registers = q; turns = turns }) f in
    f ∙ ap (λ top. Went (record { region = new; globals = globals; registers = record { top = top; entry = q.entry; sp = q.sp; slots = q.slots }; turns = turns })) same.0
    ∙ ap (λ slots. Went (record { region = new; globals = globals; registers = record { top = r.top; entry = q.entry; sp = q.sp; slots = slots }; turns = turns })) same.1
kept i (Some why) old new r q flows globals turns =
    let f = flows globals turns in
    (f.0, ap (λ (t : Flat). record { region = t.region; globals = globals; registers = record { top = r.top; entry = t.registers.entry; sp = t.registers.sp; slots = r.slots }; turns = turns }) f.1)

pub returns : goal.returns
returns c = kept _ _ _ _ _ _ c.operate_apart-why.ensures
