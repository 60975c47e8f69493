-- What leaves meaning and machine agreeing: other words of a frame, of the globals, fewer turns, more instructions begun.
use Rattle.std.proofs.Common.{◌≡◌, ⊎_elim, inl, inr, ℕ, ◌+◌, ◌<◌, List, [], ◌∷◌, Bool, true, false, Some, refl, sym, ap, ◌∙◌, subst, arith}
use Rattle.std.specs.Prelude.{nat_eq, if◌then◌else◌}
use Rattle.std.proofs.lemmas.Bool.{eqb-true, eqb-false}
use Rattle.std.proofs.lemmas.Option.{none-some}
use Rattle.mesa_types.specs.Typed.{Kinds}
use Rattle.mesa_types.specs.Shapes.{words_in_all}
use Rattle.source_meaning.specs.Value.{Values}
use Rattle.source_meaning.specs.State as source
use Rattle.source_meaning.specs.State.{ProcedureId, State}
use Rattle.machine_rules.specs.State.{Store}
use Rattle.agreement_rules.specs.Layout.{Strings, slots_of}
use Rattle.agreement_rules.specs.Operators.{Lies}
use Rattle.agreement_rules.specs.Own.{Kept}
use Rattle.agreement_rules.proofs.Values.{values_same}
use Rattle.agreement_laws.specs.World.{World, texts_of, locals_of, scratch_of}
use Rattle.agreement_laws.specs.Standing.{Here, Numbered, frame_at, PartIs, Named, Frames}
use Rattle.agreement_laws.specs.Relation.{Hold, Laid, Beside, Agreed}
use Rattle.agreement_laws.proofs.Stacks.{with_words, numbered_part, numbered_procedure, frame_cases}

-- The words of one frame.

-- what holds of the new words of one frame, and of the old ones of the others
pub words_by : (R : ℕ → List ℕ → Type 0) (μ : Frames) (g : ℕ) (new : List ℕ) (f : ℕ) → R g new → ((f ≡ g → ⊥) → R f (μ f)) → R f (with_words μ g new f)
words_by R μ g new f here other = by (nat_eq f g) refl
  where
    by : (b : Bool) → nat_eq f g ≡ b → R f (if b then new else μ f)
    by true e = subst (λ x. R x new) (sym (eqb-true f g e)) here
    by false e = other (eqb-false f g e)

pub laid_words : (W : World) (H : Hold) (μ : Frames) (s : source.Store) (g : ℕ) (new : List ℕ)
    → Lies (texts_of W) (locals_of W (s.procedures g)) (s.variables g) new → ((z v : ℕ) → H g z ≡ Some v → slots_of new z ≡ v)
    → Laid W H μ s → Laid W H (with_words μ g new) s
laid_words W H μ s g new lies held laid = record {
  frames = λ f lt. words_by (λ x ws. x < s.fresh → Lies (texts_of W) (locals_of W (s.procedures x)) (s.variables x) ws) μ g new f (λ l. lies) (λ n. laid.frames f) lt;
  held = λ f z v e. words_by (λ x ws. H x z ≡ Some v → slots_of ws z ≡ v) μ g new f (held z v) (λ n. laid.held f z v) e;
  above = laid.above;
}

-- words that are the same below a slot are those of the same variables
pub lies_same : (texts : Strings) (ks : Kinds) (vs : Values) (old new : List ℕ) → ((n : ℕ) → n < words_in_all ks → slots_of new n ≡ slots_of old n)
    → Lies texts ks vs old → Lies texts ks vs new
lies_same texts ks vs old new same lies = record {
  worth = lies.worth ∙ values_same texts (slots_of old) (slots_of new) 0 0 ks (λ i lt. let e : 0 + i ≡ i = omega arith in
      ap (λ j. slots_of old j) e ∙ sym (same i lt) ∙ ap (λ j. slots_of new j) (sym e));
  small = λ n lt. let e = same n lt in let l = lies.small n lt in omega (arith, e, l);
}

-- only scratch words have changed
pub laid_kept : (W : World) (H : Hold) (μ : Frames) (s : source.Store) (g : ℕ) (new : List ℕ) → g < s.fresh → Kept (scratch_of W (s.procedures g)) (μ g) new
    → Laid W H μ s → Laid W H (with_words μ g new) s
laid_kept W H μ s g new lt kept laid =
    laid_words W H μ s g new
    (lies_same (texts_of W) (locals_of W (s.procedures g)) (s.variables g) (μ g) new (λ n l. kept n (inl l)) (laid.frames g lt))
    (λ z v e. kept z (inr (laid.above g z v e)) ∙ laid.held g z v e) laid

-- Beside the activations.

pub beside_begun : (W : World) (control : List ℕ) (m : Store) (σ : State) (begun : ℕ) → Beside W control m σ → Beside W control (record m { begun = begun }) σ
beside_begun W control m σ begun h = record {
  same_control = h.same_control;
  started = h.started;
  globals = h.globals;
  turns = h.turns;
  input = h.input;
  bytes = h.bytes;
  faulty = h.faulty;
  output = h.output;
}

-- The frame where the topmost activation runs.

named_at : (B : List Here) (q : ℕ) (k : Numbered) (procedures : ℕ → ProcedureId) → Named B procedures → frame_at B q ≡ Some k → procedures k.number ≡ k.procedure
named_at [] q k procedures named e = absurd (none-some k e)
named_at (h ∷ B) q k procedures named e =
    ⊎_elim
    (λ d. subst (λ x. PartIs x h.procedure procedures) (numbered_part h.procedure h.part k d.1) named.0 ∙ numbered_procedure h.procedure h.part k d.1)
    (λ d. named_at B q k procedures named.1 d)
    (frame_cases h B q k e)

pub agreed_named : (W : World) (bound : ℕ) (control : List ℕ) (H : Hold) (B : List Here) (μ : Frames) (m : Store) (σ : State) (q : ℕ) (k : Numbered)
    → Agreed W bound control H B μ m σ → frame_at B q ≡ Some k → σ.store.procedures k.number ≡ k.procedure
agreed_named W bound control H B μ m σ q k h e = named_at B q k σ.store.procedures h.named e

pub agreed_kept : (W : World) (bound : ℕ) (control : List ℕ) (H : Hold) (B : List Here) (μ : Frames) (m : Store) (σ : State) (g : ℕ) (new : List ℕ) (begun : ℕ)
    → g < σ.store.fresh → Kept (scratch_of W (σ.store.procedures g)) (μ g) new → Agreed W bound control H B μ m σ
    → Agreed W bound control H B (with_words μ g new) (record m { begun = begun }) σ
agreed_kept W bound control H B μ m σ g new begun lt kept h = record {
  laid = laid_kept W H μ σ.store g new lt kept h.laid;
  beside = beside_begun W control m σ begun h.beside;
  count = h.count;
  falling = h.falling;
  named = h.named;
  enough = h.enough;
}

-- a larger bound
pub agreed_bound : (W : World) (bound more : ℕ) (control : List ℕ) (H : Hold) (B : List Here) (μ : Frames) (m : Store) (σ : State) → σ.turns < more
    → Agreed W bound control H B μ m σ → Agreed W more control H B μ m σ
agreed_bound W bound more control H B μ m σ lt h = record { laid = h.laid; beside = h.beside; count = h.count; falling = h.falling; named = h.named; enough = lt }
