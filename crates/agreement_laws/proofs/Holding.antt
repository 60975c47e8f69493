-- A hidden word is written and held; and what was done while it was held is done without it.
use Rattle.std.proofs.Common.{◌≡◌, ⊎_elim, ℕ, ◌<◌, ◌≤◌, List, [], Some, None, sym, ap, ◌∙◌, arith}
use Rattle.std.proofs.lemmas.Option.{none-some}
use Rattle.source_meaning.specs.State.{State, Answer, Normal, Gives, Go, Resumed, Rejected, Retried, Continued, Uncaught, Spent, FrameLimit, Broken}
use Rattle.mesa_types.specs.Typed.{Point}
use Rattle.machine_rules.specs.State.{Target, Store, Stepped}
use Rattle.machine_rules.specs.Words.{push}
use Rattle.agreement_rules.specs.Layout.{slots_of}
use Rattle.agreement_rules.specs.Operators.{Lies}
use Rattle.agreement_laws.specs.World.{World, texts_of, locals_of, hidden_of}
use Rattle.agreement_laws.specs.Standing.{Here, Frames}
use Rattle.agreement_laws.specs.Relation.{Hold, Agreed, Ground}
use Rattle.agreement_laws.specs.Chains.{Dictionary}
use Rattle.agreement_laws.specs.Contexts.{Site}
use Rattle.agreement_laws.specs.Answers.{Comes, OnItsWay, has_arrived, passes, Jumps, Done}
use Rattle.agreement_laws.proofs.Chained.{hold_more, held_or, held_still}
use Rattle.agreement_laws.proofs.Keeping.{lies_same, words_by}
use Rattle.agreement_laws.proofs.Stacks.{with_words}

-- every slot but this one is as it was
abbrev pub OthersSame : (z : ℕ) → (old new : List ℕ) → Type 0
OthersSame z old new = (n : ℕ) → (n ≡ z → ⊥) → slots_of new n ≡ slots_of old n

pub agreed_holding : (W : World) (bound : ℕ) (control : List ℕ) (H : Hold) (B : List Here) (μ : Frames) (m : Store) (σ : State) (f z v : ℕ) (new : List ℕ) → f < σ.store.fresh
    → hidden_of W (σ.store.procedures f) ≤ z → H f z ≡ None → slots_of new z ≡ v → OthersSame z (μ f) new
    → Agreed W bound control H B μ m σ → Agreed W bound control (hold_more H f z v) B (with_words μ f new) m σ
agreed_holding W bound control H B μ m σ f z v new lt le free is same h = record {
  laid = record {
    frames = λ g l. words_by (λ x ws. x < σ.store.fresh → Lies (texts_of W) (locals_of W (σ.store.procedures x)) (σ.store.variables x) ws) μ f new g
        (λ k. lies_same (texts_of W) (locals_of W (σ.store.procedures f)) (σ.store.variables f) (μ f) new
        (λ n less. same n (λ e. omega (arith, e, less, le))) (h.laid.frames f lt))
        (λ n. h.laid.frames g) l;
    held = λ g y u e. ⊎_elim
        (λ d. words_by (λ x ws. x ≡ f → slots_of ws y ≡ u) μ f new g
        (λ k. ap (λ n. slots_of new n) d.1 ∙ is ∙ d.2) (λ n k. absurd (n k)) d.0)
        (λ d. words_by (λ x ws. H x y ≡ Some u → slots_of ws y ≡ u) μ f new g
        (λ k. same y (λ q. none-some u (sym free ∙ ap (λ n. H f n) (sym q) ∙ k)) ∙ h.laid.held f y u k)
        (λ n k. h.laid.held g y u k) d)
        (held_or H f z v g y u e);
    above = λ g y u e. ⊎_elim
        (λ d. let p = ap (λ x. hidden_of W (σ.store.procedures x)) d.0 in let q = d.1 in omega (arith, p, q, le))
        (λ d. h.laid.above g y u d)
        (held_or H f z v g y u e);
  };
  beside = h.beside;
  count = h.count;
  falling = h.falling;
  named = h.named;
  enough = h.enough;
}

-- what is held in the one is held in the other
abbrev pub HoldsLess : Hold → Hold → Type 0
HoldsLess H I = (f z v : ℕ) → H f z ≡ Some v → I f z ≡ Some v

pub holds_less : (H : Hold) (f z v : ℕ) → H f z ≡ None → HoldsLess H (hold_more H f z v)
holds_less H f z v free g y u e = held_still H f z v g y u free e

pub agreed_less : (W : World) (bound : ℕ) (control : List ℕ) (H I : Hold) (B : List Here) (μ : Frames) (m : Store) (σ : State) → HoldsLess H I
    → Agreed W bound control I B μ m σ → Agreed W bound control H B μ m σ
agreed_less W bound control H I B μ m σ less h = record {
  laid = record { frames = h.laid.frames; held = λ f z v e. h.laid.held f z v (less f z v e); above = λ f z v e. h.laid.above f z v (less f z v e) };
  beside = h.beside;
  count = h.count;
  falling = h.falling;
  named = h.named;
  enough = h.enough;
}

abbrev pub with_hold : Ground → Hold → Ground
with_hold G I = record G { hold = I }

module _ (W : World) (bound : ℕ) (G : Ground) (I : Hold) (less : HoldsLess G.hold I) where
  pub comes_less : (o : ℕ) (operands : List ℕ) (s : Stepped) (σ : State) → Comes W bound (with_hold G I) o operands s σ → Comes W bound G o operands s σ
  comes_less o operands s σ h = record {
    frames = h.frames;
    store = h.store;
    agrees = agreed_less W bound G.control G.hold I _ h.frames h.store σ less h.agrees;
    reaches = h.reaches;
  }

  pub way_less : (around : List ℕ) (t : Target) (μ : Frames) (m : Store) (s : Stepped) → OnItsWay W (with_hold G I) around t μ m s → OnItsWay W G around t μ m s
  way_less around t μ m s (has_arrived o operands e) = has_arrived o operands e
  way_less around t μ m s (passes search o operands e) = passes search o operands e

  abbrev pub jumps_less : (D : Dictionary) (around : List ℕ) (s : Stepped) (f : ℕ) (p : Point) (σ : State) → Jumps W bound (with_hold G I) D around s f p σ → Jumps W bound G D around s f p σ
  jumps_less D around s f p σ h = record {
    target = h.target;
    found = h.found;
    frames = h.frames;
    store = h.store;
    agrees = agreed_less W bound G.control G.hold I _ h.frames h.store σ less h.agrees;
    on_way = h.on_way;
    is_on_way = way_less around h.target h.frames h.store h.on_way h.is_on_way;
    reaches = h.reaches;
  }

-- a statement was done while more was held
pub done_less : (W : World) (bound : ℕ) (K : Site) (I : Hold) → HoldsLess K.ground.hold I → (around : List ℕ) (o : ℕ) (s : Stepped) (a : Answer) (σ : State)
    → Done W bound (record K { ground = with_hold K.ground I }) around o s a σ → Done W bound K around o s a σ
done_less W bound K I less around o s Normal σ h = comes_less W bound K.ground I less o [] s σ h
done_less W bound K I less around o s (Gives vs) σ h = h
done_less W bound K I less around o s (Go f p) σ h = (h.0, jumps_less W bound K.ground I less K.points around s f p σ h.1)
done_less W bound K I less around o s (Resumed vs) σ h = record {
  kinds = h.kinds;
  labels = h.labels;
  in_arm = h.in_arm;
  offset = h.offset;
  is_there = h.is_there;
  words = h.words;
  shown = h.shown;
  comes = comes_less W bound K.ground I less h.offset (push h.words []) s σ h.comes;
}
done_less W bound K I less around o s Rejected σ h =
    record { in_arm = h.in_arm; offset = h.offset; is_there = h.is_there; comes = comes_less W bound K.ground I less h.offset [] s σ h.comes }
done_less W bound K I less around o s (Retried n) σ h = record { in_arm = h.in_arm; jumps = jumps_less W bound K.ground I less K.points around s K.meant.frame _ σ h.jumps; below = h.below }
done_less W bound K I less around o s (Continued n) σ h = record { in_arm = h.in_arm; jumps = jumps_less W bound K.ground I less K.points around s K.meant.frame _ σ h.jumps; below = h.below }
done_less W bound K I less around o s (Uncaught signal) σ h = h
done_less W bound K I less around o s Spent σ h = h
done_less W bound K I less around o s FrameLimit σ h = h
done_less W bound K I less around o s Broken σ h = h
