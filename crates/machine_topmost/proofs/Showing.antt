-- What an instruction makes of the region is what the machine's definition makes of the operands, the variables and the globals that the
-- region shows.
use Rattle.std.proofs.Common.{◌≡◌, ℕ, ◌+◌, ◌-◌, ◌≤◌, List, [], ◌∷◌, ◌++◌, Bool, true, false, length, reverse, get_or, refl, sym, ap, ◌∙◌, arith}
use Rattle.mesa_types.specs.Longs.{more_of, less_of, two_words}
use Rattle.mesa_types.specs.Operators.{Tried, Fine, Faulty, OutOfBounds, DividedByZero}
use Rattle.machine_rules.specs.Words.{put_words, push, popped, under}
use Rattle.machine_rules.specs.Working.{Worked, Works, leaves as leaves_work, in_bounds as in_bounds_work, leaves_tried, leaves_long, leaves_long_tried}
use Rattle.machine_topmost.specs.Flat.{Flat, Flowed, part, with_part, leaves, over, over_tried, over_long, over_long_tried, in_bounds, place}
use Rattle.machine_topmost.specs.Shown.{work_shown, worked_shown}
use Rattle.machine_topmost.proofs.Copied.{length-part}
use Rattle.machine_topmost.proofs.Parts.{part_before, part_past, part_with_end, part_around, set_is_replaced, put_is_replaced, operands_at, pushed, under_is, popped_is, topmost_is}

-- operands that end at a place
abbrev pub operands_to : List ℕ → (floor sp : ℕ) → List ℕ
operands_to region floor sp = reverse (part region floor (sp - floor))

module _ (region : List ℕ) (floor sp n : ℕ) (there : floor + n ≤ sp) (room : sp ≤ length region) where
  pub under_shown : under n (operands_to region floor sp) ≡ operands_to region floor (sp - n)
  under_shown =
      let same : sp - floor - n ≡ sp - n - floor = omega arith in
      under_is region floor (sp - floor) n (omega arith) (omega arith) ∙ ap (λ k. operands_at region floor k) same

  pub popped_shown : popped n (operands_to region floor sp) ≡ part region (sp - n) n
  popped_shown =
      let same : floor + (sp - floor - n) ≡ sp - n = omega arith in
      popped_is region floor (sp - floor) n (omega arith) (omega arith) ∙ ap (λ k. part region k n) same

pub top_shown : (region : List ℕ) (floor sp at : ℕ) → at + 1 ≡ sp → floor ≤ at → sp ≤ length region → operands_to region floor sp ≡ get_or region at 0 ∷ operands_to region floor at
top_shown region floor sp at is there room =
    let index : floor + (sp - floor - 1) ≡ at = omega arith in
    let less : sp - floor - 1 ≡ at - floor = omega arith in
    topmost_is region floor (sp - floor) (omega arith) (omega arith)
    ∙ ap (λ k. get_or region k 0 ∷ operands_at region floor (sp - floor - 1)) index
    ∙ ap (λ k. get_or region at 0 ∷ operands_at region floor k) less

-- the two topmost ones
pub two_shown : (region : List ℕ) (floor sp : ℕ) → floor + 2 ≤ sp → sp ≤ length region
    → operands_to region floor sp ≡ get_or region (sp - 1) 0 ∷ get_or region (sp - 2) 0 ∷ operands_to region floor (sp - 2)
two_shown region floor sp there room =
    top_shown region floor sp (sp - 1) (omega arith) (omega arith) room
    ∙ ap (λ rest. get_or region (sp - 1) 0 ∷ rest) (top_shown region floor (sp - 1) (sp - 2) (omega arith) (omega arith) (omega arith))

-- the four topmost ones
pub four_shown : (region : List ℕ) (floor sp : ℕ) → floor + 4 ≤ sp → sp ≤ length region
    → operands_to region floor sp ≡ get_or region (sp - 1) 0 ∷ get_or region (sp - 2) 0 ∷ get_or region (sp - 3) 0 ∷ get_or region (sp - 4) 0 ∷ operands_to region floor (sp - 4)
four_shown region floor sp there room =
    two_shown region floor sp (omega arith) room
    ∙ ap (λ rest. get_or region (sp - 1) 0 ∷ get_or region (sp - 2) 0 ∷ rest) (top_shown region floor (sp - 2) (sp - 3) (omega arith) (omega arith) (omega arith))
    ∙ ap (λ rest. get_or region (sp - 1) 0 ∷ get_or region (sp - 2) 0 ∷ get_or region (sp - 3) 0 ∷ rest) (top_shown region floor (sp - 3) (sp - 4) (omega arith) (omega arith) (omega arith))

pub push_both : (a b operands : List ℕ) → push b (push a operands) ≡ push (a ++ b) operands
push_both [] b operands = refl
push_both (w ∷ a) b operands = push_both a b (w ∷ operands)

module _ (frame floor : ℕ) where
  pub bounded : (b : Bool) (x : Worked) (f : Flowed) → (b ≡ true → x ≡ worked_shown frame floor f) → in_bounds_work b x ≡ worked_shown frame floor (in_bounds b f)
  unfolding in_bounds_work
  bounded true x f goes = goes refl
  bounded false x f goes = refl

  module _ (s : Flat) (apart : s.registers.slots + frame ≤ floor) (full : s.registers.sp ≤ length s.region) where
    abbrev pub operands : ℕ → List ℕ
    operands sp = operands_to s.region floor sp

    abbrev pub variables : List ℕ
    variables = part s.region s.registers.slots frame

    abbrev pub shown : List ℕ → List ℕ → List ℕ → Worked
    shown own_operands own_variables globals = Works (record { operands = own_operands; variables = own_variables; globals = globals })

    -- words are put behind operands
    pub behind_shown : (at : ℕ) (new : List ℕ) (sp : ℕ) → floor ≤ at → at ≤ length s.region → sp ≡ at + length new
        → worked_shown frame floor (leaves (with_part s.region at new) sp s) ≡ shown (push new (operands at)) variables s.globals
    behind_shown at new sp above there ends =
        let up : floor + (at - floor) ≡ at = omega arith in
        let size : sp - floor ≡ at - floor + length new = omega (arith, ends) in
        let own : reverse (part (with_part s.region at new) floor (sp - floor)) ≡ push new (operands at) =
        ap (λ k. reverse (part (with_part s.region at new) floor k)) size
        ∙ ap (λ k. reverse (part (with_part s.region k new) floor (at - floor + length new))) (sym up)
        ∙ ap (λ x. reverse x) (part_with_end s.region floor (at - floor) new (omega arith))
        ∙ sym (pushed (part s.region floor (at - floor)) new) in
        ap (λ o. shown o (part (with_part s.region at new) s.registers.slots frame) s.globals) own
        ∙ ap (λ v. shown (push new (operands at)) v s.globals) (part_before s.region at new s.registers.slots frame there (omega arith))

    -- words of the frame are put
    pub stored_shown : (slot : ℕ) (new : List ℕ) (sp : ℕ) → slot + length new ≤ frame → floor ≤ length s.region
        → worked_shown frame floor (leaves (with_part s.region (s.registers.slots + slot) new) sp s) ≡ shown (operands sp) (put_words variables slot new) s.globals
    stored_shown slot new sp inside there =
        let size = length-part s.region s.registers.slots frame (omega arith) in
        ap (λ o. shown o (part (with_part s.region (s.registers.slots + slot) new) s.registers.slots frame) s.globals)
        (ap (λ x. reverse x) (part_past s.region (s.registers.slots + slot) new floor (sp - floor) (omega arith) (omega arith)))
        ∙ ap (λ v. shown (operands sp) v s.globals)
        (part_around s.region s.registers.slots slot frame new inside (omega arith) ∙ sym (put_is_replaced variables slot new (omega (arith, size))))

    -- one word is put in the place of some
    pub over_shown : (takes word : ℕ) → 1 ≤ takes → floor + takes ≤ s.registers.sp → worked_shown frame floor (over takes word s) ≡ shown (word ∷ operands (s.registers.sp - takes)) variables s.globals
    over_shown takes word some there =
        ap (λ r. worked_shown frame floor (leaves r (place takes s + 1) s)) (set_is_replaced s.region (place takes s) word (omega arith))
        ∙ behind_shown (place takes s) (word ∷ []) (place takes s + 1) (omega arith) (omega arith) refl

    pub tried_shown : (takes : ℕ) (tried : Tried) → 1 ≤ takes → floor + takes ≤ s.registers.sp
        → leaves_tried tried (operands (s.registers.sp - takes)) (work_shown frame floor s) ≡ worked_shown frame floor (over_tried takes tried s)
    unfolding leaves_tried leaves_work over_tried
    tried_shown takes (Fine word) some there = sym (over_shown takes word some there)
    tried_shown takes (Faulty OutOfBounds) some there = refl
    tried_shown takes (Faulty DividedByZero) some there = refl

    -- the two words of a number are put in the place of some
    pub over_long_shown : (takes n : ℕ) → floor + takes ≤ s.registers.sp
        → worked_shown frame floor (over_long takes n s) ≡ shown (less_of n ∷ more_of n ∷ operands (s.registers.sp - takes)) variables s.globals
    unfolding two_words
    over_long_shown takes n there = behind_shown (place takes s) (two_words n) (place takes s + 2) (omega arith) (omega arith) refl

    pub long_tried_shown : (takes : ℕ) (tried : Tried) → floor + takes ≤ s.registers.sp
        → leaves_long_tried tried (operands (s.registers.sp - takes)) (work_shown frame floor s) ≡ worked_shown frame floor (over_long_tried takes tried s)
    unfolding leaves_long_tried leaves_long leaves_work over_long_tried
    long_tried_shown takes (Fine n) there = sym (over_long_shown takes n there)
    long_tried_shown takes (Faulty OutOfBounds) there = refl
    long_tried_shown takes (Faulty DividedByZero) there = refl
