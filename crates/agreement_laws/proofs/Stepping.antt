-- At the end of a counted round the three words say one round less.
use Rattle.std.proofs.Common.{◌≡◌, ℕ, suc, ◌+◌, ◌<◌, ◌≤◌, List, [], ◌∷◌, Bool, true, false, Some, refl, sym, ap, ◌∙◌, subst, arith}
use Rattle.std.proofs.lemmas.Option.{none-some}
use Rattle.mesa_types.specs.declared.typed_parts.Given.{Given}
use Rattle.mesa_types.specs.Typed.{Counting}
use Rattle.mesa_types.specs.Operators.{wrap}
use Rattle.source_meaning.specs.Meaning.{one_round_less}
use Rattle.source_meaning.specs.State.{State}
use Rattle.machine_rules.specs.State.{Store}
use Rattle.machine_rules.specs.Words.{put_words}
use Rattle.code_rules.specs.Loops.{CountedIn, step_code}
use Rattle.code_rules.specs.Points.{Points}
use Rattle.code_rules.specs.Reading.{Destination, Place, Own}
use Rattle.agreement_rules.specs.Layout.{slots_of}
use Rattle.agreement_laws.specs.World.{World, texts_of, hidden_of}
use Rattle.agreement_laws.specs.Standing.{Frames}
use Rattle.agreement_laws.specs.Relation.{Hold, heres, Agrees, standing}
use Rattle.agreement_laws.specs.Contexts.{Site, Context}
use Rattle.agreement_laws.specs.Rounds.{WordsLeft}
use Rattle.agreement_laws.proofs.Codes.{made_here, named_here}
use Rattle.agreement_laws.proofs.Counted.{flag_of, up_left, down_left}
use Rattle.agreement_laws.proofs.Counting.{up_works, down_works, agreed_free}
use Rattle.agreement_laws.proofs.Holding.{HoldsLess, with_hold, agreed_less}
use Rattle.agreement_laws.proofs.Rounds.{AtBack}
use Rattle.agreement_laws.proofs.Selects.{others_same, put_there}
use Rattle.agreement_laws.proofs.Stacks.{with_words, words_here}
use Rattle.agreement_laws.proofs.Writing.{code_writes}

pub left_same : (down : Bool) (left number a b c x y u : ℕ) → a ≡ x → b ≡ y → c ≡ u → WordsLeft down left number x y u → WordsLeft down left number a b c
left_same down left number a b c x y u e1 e2 e3 h =
    subst (λ q. WordsLeft down left number q b c) (sym e1) (subst (λ q. WordsLeft down left number x q c) (sym e2) (subst (λ q. WordsLeft down left number x y q) (sym e3) h))

module _ (W : World) (n : ℕ) (K : Site) (I : Hold) (less : HoldsLess K.ground.hold I) (points : Points Destination) (around : List ℕ) (z to : ℕ) (ctx : Context W K points around z to) (long : z + 3 ≤ to)
    (g : Given) (more number first last flag : ℕ) (one : I K.meant.frame z ≡ Some first) (two : I K.meant.frame (z + 1) ≡ Some last) (v : Place) (f h : ℕ)
    (μ : Frames) (m : Store) (σ : State) (agrees : Agrees W (suc n) (with_hold K.ground I) μ m σ) where
  now : Agrees W (suc n) K.ground μ m σ
  now = agreed_less W (suc n) K.ground.control K.ground.hold I (heres K.ground) μ m σ less agrees

  -- a slot below those of the counter, or one that is held, is as it was
  low_same : (s x y u : ℕ) → z ≤ s → u < hidden_of W (σ.store.procedures K.meant.frame) → slots_of (put_words (put_words (μ K.meant.frame) (z + 2) (x ∷ [])) s (y ∷ [])) u ≡ slots_of (μ K.meant.frame) u
  low_same s x y u le lt =
      let above = ctx.room.above in
      let named = ap (λ p. hidden_of W p) (named_here W K points around z to ctx (suc n) μ m σ now) in
      others_same (put_words (μ K.meant.frame) (z + 2) (x ∷ [])) s y u (λ e. omega (arith, e, le, lt, above, named))
      ∙ others_same (μ K.meant.frame) (z + 2) x u (λ e. omega (arith, e, lt, above, named))

  held_same : (s x y u value : ℕ) → z ≤ s → s < z + 3 → K.ground.hold K.meant.frame u ≡ Some value
      → slots_of (put_words (put_words (μ K.meant.frame) (z + 2) (x ∷ [])) s (y ∷ [])) u ≡ slots_of (μ K.meant.frame) u
  held_same s x y u value le lt held =
      others_same (put_words (μ K.meant.frame) (z + 2) (x ∷ [])) s y u (λ e. none-some value (sym (ctx.room.free u (omega (arith, e, le)) (omega (arith, e, lt, long))) ∙ held))
      ∙ others_same (μ K.meant.frame) (z + 2) x u (λ e. none-some value (sym (ctx.room.free u (omega (arith, e)) (omega (arith, e, long))) ∙ held))

  pub up_steps : Own K.code v (step_code (CountedIn z g false)) f h → WordsLeft false (suc more) number first last flag
      → AtBack W n K (CountedIn z g false) (Counting g false (suc more) number) h (standing K.ground f [] μ m) σ
  unfolding one_round_less
  up_steps code left =
      let ws = μ K.meant.frame in
      let gs = m.globals K.ground.here.procedure.instance in
      let e1 = agrees.laid.held K.meant.frame z first one in let e2 = agrees.laid.held K.meant.frame (z + 1) last two in
      let x = flag_of first last in let y = wrap (first + 1) in
      let flags = put_words ws (z + 2) (x ∷ []) in
      let new = put_words flags z (y ∷ []) in
      let c = code_writes W K points around z to ctx (suc n) μ m σ now code [] (record { operands = []; variables = new; globals = gs })
      (up_works (texts_of W) ctx.code_of.number ws gs z g first last e1 e2) refl in
      record {
        frames = with_words μ K.meant.frame new;
        store = record m { begun = c.begun };
        agrees = agreed_free W (suc n) K.ground.control K.ground.hold (heres K.ground) μ m σ K.meant.frame new c.begun (made_here W K points around z to ctx (suc n) μ m σ now)
            (λ u lt. low_same z x y u (omega arith) lt) (λ u value held. held_same z x y u value (omega arith) (omega arith) held) now;
        rounds = (
          refl,
          refl,
          subst (λ l. WordsLeft false more (wrap (number + 1)) (slots_of l z) (slots_of l (z + 1)) (slots_of l (z + 2))) (sym (words_here μ K.meant.frame new))
              (left_same false more (wrap (number + 1)) (slots_of new z) (slots_of new (z + 1)) (slots_of new (z + 2)) y last x (put_there flags z y)
              (others_same flags z y (z + 1) (λ e. omega (arith, e)) ∙ others_same ws (z + 2) x (z + 1) (λ e. omega (arith, e)) ∙ e2)
              (others_same flags z y (z + 2) (λ e. omega (arith, e)) ∙ put_there ws (z + 2) x) (up_left more number first last flag left)),
        );
        reaches = c.reaches;
      }

  pub down_steps : Own K.code v (step_code (CountedIn z g true)) f h → WordsLeft true (suc more) number first last flag
      → AtBack W n K (CountedIn z g true) (Counting g true (suc more) number) h (standing K.ground f [] μ m) σ
  unfolding one_round_less
  down_steps code left =
      let ws = μ K.meant.frame in
      let gs = m.globals K.ground.here.procedure.instance in
      let e1 = agrees.laid.held K.meant.frame z first one in let e2 = agrees.laid.held K.meant.frame (z + 1) last two in
      let x = flag_of first last in let y = wrap (last + 65535) in
      let flags = put_words ws (z + 2) (x ∷ []) in
      let new = put_words flags (z + 1) (y ∷ []) in
      let c = code_writes W K points around z to ctx (suc n) μ m σ now code [] (record { operands = []; variables = new; globals = gs })
      (down_works (texts_of W) ctx.code_of.number ws gs z g first last e1 e2) refl in
      record {
        frames = with_words μ K.meant.frame new;
        store = record m { begun = c.begun };
        agrees = agreed_free W (suc n) K.ground.control K.ground.hold (heres K.ground) μ m σ K.meant.frame new c.begun (made_here W K points around z to ctx (suc n) μ m σ now)
            (λ u lt. low_same (z + 1) x y u (omega arith) lt) (λ u value held. held_same (z + 1) x y u value (omega arith) (omega arith) held) now;
        rounds = (
          refl,
          refl,
          subst (λ l. WordsLeft true more (wrap (number + 65535)) (slots_of l z) (slots_of l (z + 1)) (slots_of l (z + 2))) (sym (words_here μ K.meant.frame new))
              (left_same true more (wrap (number + 65535)) (slots_of new z) (slots_of new (z + 1)) (slots_of new (z + 2)) first y x
              (others_same flags (z + 1) y z (λ e. omega (arith, e)) ∙ others_same ws (z + 2) x z (λ e. omega (arith, e)) ∙ e1)
              (put_there flags (z + 1) y)
              (others_same flags (z + 1) y (z + 2) (λ e. omega (arith, e)) ∙ put_there ws (z + 2) x) (down_left more number first last flag left)),
        );
        reaches = c.reaches;
      }
