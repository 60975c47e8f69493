use Rattle.std.proofs.Common.{◌≡◌, ℕ, ◌+◌, ◌-◌, ◌/◌, ◌<◌, length, None, ap, arith}
use Rattle.signaller.proofs.Halving.{halved_more, halved_end, start_at, start_read, told, none_told}
use Rattle.signaller.proofs.catch_index.innermost_in.Goals as goal

pub halving-preserved-then-segments-middle : goal.halving-preserved-then-segments-middle
halving-preserved-then-segments-middle g c =
    let i = c.halving.invariant in
    let t = c.halving-test.true in
    let m : ℕ = c.halving.low + (c.halving.high - c.halving.low) / 2 in
    let o = i.order in let w = i.within in let k = i.counted in let tick = c.tick.ensures in
    let less : m < length c.args.segments.now = omega arith in
    let back : m + 1 - 1 ≡ m = omega arith in
    record {
      order = omega arith;
      within = w;
      counted = omega arith;
      halved = halved_more _ (c.halving.high - c.halving.low) _ (c.halving.steps - c.args.steps.now) _ (omega arith) (omega arith) (omega arith) i.halved;
      lower = λ h. (let r = start_read c.args.segments.now m (record { start = 0; phrase = None }) less in let q = c.if-segments-middle.true in let e = ap (λ k. start_at c.args.segments.now k) back in omega (arith, r, q, e));
      upper = i.upper;
    }

pub halving-preserved : goal.halving-preserved
halving-preserved g c =
    let i = c.halving.invariant in
    let t = c.halving-test.true in
    let m : ℕ = c.halving.low + (c.halving.high - c.halving.low) / 2 in
    let o = i.order in let w = i.within in let k = i.counted in let tick = c.tick.ensures in
    let less : m < length c.args.segments.now = omega arith in
    record {
      order = omega arith;
      within = omega arith;
      counted = omega arith;
      halved = halved_more _ (c.halving.high - c.halving.low) _ (c.halving.steps - c.args.steps.now) _ (omega arith) (omega arith) (omega arith) i.halved;
      lower = i.lower;
      upper = λ h. (let r = start_read c.args.segments.now m (record { start = 0; phrase = None }) less in let q = c.if-segments-middle.false in omega (arith, r, q));
    }

pub returns-then-low-eq0-clause-phrase : goal.returns-then-low-eq0-clause-phrase
returns-then-low-eq0-clause-phrase g c phrases ix =
    let i = c.halving.invariant in
    let same : c.halving.low ≡ c.halving.high = let o = i.order in let t = c.halving-test.false in omega arith in
    none_told phrases c.args.segments.now c.halving.low c.args.at ix c.if-low-eq0.true
    (λ h. let u = i.upper (let s = same in omega arith) in let e = ap (λ k. start_at c.args.segments.now k) same in omega (arith, u, e))

pub returns-then-low-eq0-clause-counted : goal.returns-then-low-eq0-clause-counted
returns-then-low-eq0-clause-counted g c digits less =
    let i = c.halving.invariant in let k = i.counted in
    let e = halved_end _ _ _ digits i.halved less in omega (arith, e)

pub returns-clause-phrase : goal.returns-clause-phrase
returns-clause-phrase g c phrases ix =
    let i = c.halving.invariant in
    let same : c.halving.low ≡ c.halving.high = let o = i.order in let t = c.halving-test.false in omega arith in
    let some : 0 < c.halving.low = let f = c.if-low-eq0.false in omega arith in
    told phrases c.args.segments.now c.halving.low c.args.at (record { start = 0; phrase = None }) ix some (let w = i.within in let s = same in omega arith) (i.lower some)
    (λ h. let u = i.upper (let s = same in omega arith) in let e = ap (λ k. start_at c.args.segments.now k) same in omega (arith, u, e))

pub returns-clause-counted : goal.returns-clause-counted
returns-clause-counted g c digits less =
    let i = c.halving.invariant in let k = i.counted in
    let e = halved_end _ _ _ digits i.halved less in omega (arith, e)
