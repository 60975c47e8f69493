-- What rows change in the store keeps the frames that are there.
use Rattle.std.specs.Prelude.{◌≡◌, refl, ℕ, zero, suc, ◌<◌, List, [], ◌∷◌, Bool, true, false, nat_eq}
use Rattle.std.proofs.Common.{arith}
use mathlib.Core.Path.{◌∙◌}
use Rattle.mesa_types.specs.declared.typed_parts.Home.{Home}
use Rattle.mesa_types.specs.declared.typed_parts.Home.TheVariants.{Global, Local}
use Rattle.source_meaning.specs.Value.{Value, Values}
use Rattle.source_meaning.specs.State.{ProcedureId, Store}
use Rattle.source_meaning.specs.Variables.{Enabled, Where, at_if, put_at, set_globals, set_variables, store, store_part, store_all, store_from, add_frame}
use Rattle.source_meaning.specs.Signals.{put_parameters}
use Rattle.source_meaning.specs.Calls.{mark_started}
use Rattle.source_meaning.specs.Laws.{GoesOn}
use Rattle.source_meaning.proofs.Kept.{Mild}

pub same_store : (s : Store) → GoesOn s s
same_store s = record { frames = λ f h. refl; fresh = omega arith; started = λ i h. h }

pub further : {s t u : Store} → GoesOn s t → GoesOn t u → GoesOn s u
further h g = record {
  frames = λ f b. g.frames f (omega (arith, b, h.fresh)) ∙ h.frames f b;
  fresh = omega (arith, h.fresh, g.fresh);
  started = λ i b. g.started i (h.started i b);
}

store_goes_on : (w : Where) (h : Home) (v : Value) (s : Store) → GoesOn s (store w h v s)
unfolding store set_globals set_variables
store_goes_on w (Global n) v s = record { frames = λ f b. refl; fresh = omega arith; started = λ i b. b }
store_goes_on w (Local n) v s = record { frames = λ f b. refl; fresh = omega arith; started = λ i b. b }

store_all_goes_on : (w : Where) (hs : List Home) (v : Value) (s : Store) → GoesOn s (store_all w hs v s)
unfolding store_all
store_all_goes_on w [] v s = same_store s
store_all_goes_on w (h ∷ hs) v s = further (store_goes_on w h v s) (store_all_goes_on w hs v _)

pub store_mild : (w : Where) (h : Home) (v : Value) → Mild (store w h v)
store_mild w h v = record { its = λ s. store_goes_on w h v s }

pub store_part_mild : (w : Where) (h : Home) (p : List ℕ) (v : Value) → Mild (store_part w h p v)
unfolding store_part
store_part_mild w h p v = record { its = λ s. store_goes_on w h _ s }

pub store_all_mild : (w : Where) (hs : List Home) (v : Value) → Mild (store_all w hs v)
store_all_mild w hs v = record { its = λ s. store_all_goes_on w hs v s }

pub store_from_mild : (w : Where) (n : ℕ) (vs : Values) → Mild (store_from w n vs)
unfolding store_from set_variables
store_from_mild w n vs = record { its = λ s. record { frames = λ f b. refl; fresh = omega arith; started = λ i b. b } }

pub put_parameters_mild : (l : Enabled) (first count : ℕ) (vs : Values) → Mild (put_parameters l first count vs)
unfolding put_parameters
put_parameters_mild l first zero vs = record { its = λ s. same_store s }
put_parameters_mild l first (suc n) vs = store_from_mild _ _ _

set_stays : (b : Bool) (started : ℕ → Bool) (i : ℕ) → started i ≡ true → at_if b true started i ≡ true
unfolding at_if
set_stays true started i h = refl
set_stays false started i h = h

pub mark_started_mild : (j : ℕ) → Mild (mark_started j)
unfolding mark_started put_at
mark_started_mild j = record { its = λ s. record { frames = λ f b. refl; fresh = omega arith; started = λ i h. set_stays (nat_eq i j) s.started i h } }

below : (b : Bool) (f n : ℕ) (p : ProcedureId) (of : ℕ → ProcedureId) → nat_eq f n ≡ b → f < n → at_if b p of f ≡ of f
unfolding at_if
below true f n p of e h = absurd (grind (arith, e, h))
below false f n p of e h = refl

pub add_frame_mild : (p : ProcedureId) (vs : Values) → Mild (add_frame p vs)
unfolding add_frame put_at
add_frame_mild p vs = record {
  its = λ s. record {
    frames = λ f b. below (nat_eq f s.fresh) f s.fresh p s.procedures refl b;
    fresh = omega arith;
    started = λ i b. b;
  };
}
