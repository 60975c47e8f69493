-- The three words that count are held while a round runs.
use Rattle.std.proofs.Common.{ℕ, ◌+◌, ◌<◌, ◌≤◌, List, refl, ap, subst, arith}
use Rattle.source_meaning.specs.State.{State}
use Rattle.machine_rules.specs.State.{Store}
use Rattle.code_rules.specs.Points.{Points}
use Rattle.code_rules.specs.Reading.{Destination}
use Rattle.agreement_rules.specs.Layout.{slots_of}
use Rattle.agreement_laws.specs.World.{World, hidden_of}
use Rattle.agreement_laws.specs.Standing.{Frames}
use Rattle.agreement_laws.specs.Relation.{heres, Agrees}
use Rattle.agreement_laws.specs.Contexts.{Site, Context}
use Rattle.agreement_laws.proofs.Chained.{holding_site, context_holding}
use Rattle.agreement_laws.proofs.Codes.{made_here, named_here}
use Rattle.agreement_laws.proofs.Holding.{HoldsLess, holds_less, agreed_holding}
use Rattle.agreement_laws.proofs.Moving.{context_part}
use Rattle.agreement_laws.proofs.Stores.{same_words}

-- a hidden word is held as it is
pub hold_old : (W : World) (bound : ℕ) (K : Site) (points : Points Destination) (around : List ℕ) (z to : ℕ) (ctx : Context W K points around z to) → z < to
    → (μ : Frames) (m : Store) (σ : State) → Agrees W bound K.ground μ m σ → Agrees W bound (holding_site K z (slots_of (μ K.meant.frame) z)).ground μ m σ
hold_old W bound K points around z to ctx lt μ m σ agrees =
    let f = K.meant.frame in
    let above = ctx.room.above in
    let named = ap (λ p. hidden_of W p) (named_here W K points around z to ctx bound μ m σ agrees) in
    subst (λ ν. Agrees W bound (holding_site K z (slots_of (μ f) z)).ground ν m σ) (same_words μ f)
    (agreed_holding W bound K.ground.control K.ground.hold (heres K.ground) μ m σ f z (slots_of (μ f) z) (μ f) (made_here W K points around z to ctx bound μ m σ agrees)
    (omega (arith, above, named)) (ctx.room.free z (omega arith) lt) refl (λ n non. refl) agrees)

-- the site in which all three are held
abbrev pub counting_site : Site → (z x y u : ℕ) → Site
counting_site K z x y u = holding_site (holding_site (holding_site K z x) (z + 1) y) (z + 2) u

module _ (W : World) (K : Site) (points : Points Destination) (around : List ℕ) (z to : ℕ) (ctx : Context W K points around z to) (long : z + 3 ≤ to) (x y u : ℕ) where
  pub one : Context W (holding_site K z x) points around (z + 1) to
  one = context_holding W K points around z to x (omega (arith, long)) ctx

  pub two : Context W (holding_site (holding_site K z x) (z + 1) y) points around (z + 2) to
  two =
      context_part W (holding_site (holding_site K z x) (z + 1) y) points around ((z + 1) + 1) to (z + 2) to (omega arith) (omega (arith, long)) (omega arith)
      (context_holding W (holding_site K z x) points around (z + 1) to y (omega (arith, long)) one)

  pub counting_context : Context W (counting_site K z x y u) points around (z + 3) to
  counting_context =
      context_part W (counting_site K z x y u) points around ((z + 2) + 1) to (z + 3) to (omega arith) (omega (arith, long)) (omega arith)
      (context_holding W (holding_site (holding_site K z x) (z + 1) y) points around (z + 2) to u (omega (arith, long)) two)

  pub counting_less : HoldsLess K.ground.hold (counting_site K z x y u).ground.hold
  counting_less f s v e =
      let g = K.meant.frame in
      holds_less (holding_site (holding_site K z x) (z + 1) y).ground.hold g (z + 2) u (two.room.free (z + 2) (omega arith) (omega (arith, long))) f s v
      (holds_less (holding_site K z x).ground.hold g (z + 1) y (one.room.free (z + 1) (omega arith) (omega (arith, long))) f s v
      (holds_less K.ground.hold g z x (ctx.room.free z (omega arith) (omega (arith, long))) f s v e))

module _ (W : World) (K : Site) (points : Points Destination) (around : List ℕ) (z to : ℕ) (ctx : Context W K points around z to) (long : z + 3 ≤ to) where
  pub all_held : (bound : ℕ) (μ : Frames) (m : Store) (σ : State) → Agrees W bound K.ground μ m σ
      → Agrees W bound (counting_site K z (slots_of (μ K.meant.frame) z) (slots_of (μ K.meant.frame) (z + 1)) (slots_of (μ K.meant.frame) (z + 2))).ground μ m σ
  all_held bound μ m σ agrees =
      let f = K.meant.frame in
      let x = slots_of (μ f) z in let y = slots_of (μ f) (z + 1) in
      hold_old W bound (holding_site (holding_site K z x) (z + 1) y) points around (z + 2) to (two W K points around z to ctx long x y 0) (omega (arith, long)) μ m σ
      (hold_old W bound (holding_site K z x) points around (z + 1) to (one W K points around z to ctx long x 0 0) (omega (arith, long)) μ m σ
      (hold_old W bound K points around z to ctx (omega (arith, long)) μ m σ agrees))
