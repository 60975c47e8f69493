-- Variables are written on both sides: those of the frame in its words, those of the module in the instance's.
use Rattle.std.proofs.Common.{◌≡◌, ℕ, ◌<◌, List, Bool, true, false, Some, refl, sym, ap, subst}
use Rattle.std.specs.Prelude.{nat_eq, if◌then◌else◌}
use Rattle.std.proofs.lemmas.Bool.{eq-eqb, eqb-true, eqb-false, ne_eqb}
use Rattle.source_meaning.specs.Value.{Values}
use Rattle.source_meaning.specs.State as source
use Rattle.source_meaning.specs.State.{State}
use Rattle.source_meaning.specs.Variables.{at_if, put_at, set_globals, set_variables}
use Rattle.machine_rules.specs.State.{Store}
use Rattle.machine_rules.specs.Calls.{set_of}
use Rattle.agreement_rules.specs.Layout.{slots_of}
use Rattle.agreement_rules.specs.Operators.{Lies}
use Rattle.agreement_laws.specs.World.{World, texts_of, locals_of, globals_of}
use Rattle.agreement_laws.specs.Standing.{Here, Frames}
use Rattle.agreement_laws.specs.Relation.{Hold, Laid, Agreed}
use Rattle.agreement_laws.proofs.Stacks.{with_words}
use Rattle.agreement_laws.proofs.Keeping.{words_by}

-- what holds of what was put at one number, and of what is at the others
pub put_by : {A : Type 0} (R : ℕ → A → Type 0) (f : ℕ → A) (n : ℕ) (a : A) (k : ℕ) → R n a → ((k ≡ n → ⊥) → R k (f k)) → R k (put_at f n a k)
unfolding put_at at_if
put_by R f n a k here other = by (nat_eq k n) refl
  where
    by : (b : Bool) → nat_eq k n ≡ b → R k (at_if b a f k)
    by true e = subst (λ x. R x a) (sym (eqb-true k n e)) here
    by false e = other (eqb-false k n e)

pub put_here : {A : Type 0} (f : ℕ → A) (n : ℕ) (a : A) → put_at f n a n ≡ a
unfolding put_at at_if
put_here f n a = ap (λ b. at_if b a f n) (eq-eqb n n refl)

pub put_other : {A : Type 0} (f : ℕ → A) (n : ℕ) (a : A) (k : ℕ) → (k ≡ n → ⊥) → put_at f n a k ≡ f k
unfolding put_at at_if
put_other f n a k non = ap (λ b. at_if b a f k) (ne_eqb k n non)

pub set_by : {A : Type 0} (R : ℕ → A → Type 0) (f : ℕ → A) (n : ℕ) (a : A) (k : ℕ) → R n a → ((k ≡ n → ⊥) → R k (f k)) → R k (set_of f n a k)
unfolding set_of
set_by R f n a k here other = by (nat_eq k n) refl
  where
    by : (b : Bool) → nat_eq k n ≡ b → R k (if b then a else f k)
    by true e = subst (λ x. R x a) (sym (eqb-true k n e)) here
    by false e = other (eqb-false k n e)

-- The variables of a frame.

both_by : (R : ℕ → Values → List ℕ → Type 0) (vars : ℕ → Values) (μ : Frames) (g : ℕ) (vs : Values) (new : List ℕ) (f : ℕ) → R g vs new → ((f ≡ g → ⊥) → R f (vars f) (μ f))
    → R f (put_at vars g vs f) (with_words μ g new f)
unfolding put_at at_if
both_by R vars μ g vs new f here other = by (nat_eq f g) refl
  where
    by : (b : Bool) → nat_eq f g ≡ b → R f (at_if b vs vars f) (if b then new else μ f)
    by true e = subst (λ x. R x vs new) (sym (eqb-true f g e)) here
    by false e = other (eqb-false f g e)

pub laid_variables : (W : World) (H : Hold) (μ : Frames) (s : source.Store) (g : ℕ) (vs : Values) (new : List ℕ) → Lies (texts_of W) (locals_of W (s.procedures g)) vs new
    → ((z v : ℕ) → H g z ≡ Some v → slots_of new z ≡ v) → Laid W H μ s → Laid W H (with_words μ g new) (set_variables g vs s)
unfolding set_variables
laid_variables W H μ s g vs new lies held laid = record {
  frames = λ f lt. both_by (λ x ws us. x < s.fresh → Lies (texts_of W) (locals_of W (s.procedures x)) ws us) s.variables μ g vs new f (λ l. lies) (λ n. laid.frames f) lt;
  held = λ f z v e. words_by (λ x ws. H x z ≡ Some v → slots_of ws z ≡ v) μ g new f (held z v) (λ n. laid.held f z v) e;
  above = laid.above;
}

pub agreed_variables : (W : World) (bound : ℕ) (control : List ℕ) (H : Hold) (B : List Here) (μ : Frames) (m : Store) (σ : State) (g : ℕ) (vs : Values) (new : List ℕ)
    → Lies (texts_of W) (locals_of W (σ.store.procedures g)) vs new → ((z v : ℕ) → H g z ≡ Some v → slots_of new z ≡ v)
    → Agreed W bound control H B μ m σ → Agreed W bound control H B (with_words μ g new) m (record σ { store = set_variables g vs σ.store })
unfolding set_variables
agreed_variables W bound control H B μ m σ g vs new lies held h = record {
  laid = laid_variables W H μ σ.store g vs new lies held h.laid;
  beside = record {
    same_control = h.beside.same_control;
    started = h.beside.started;
    globals = h.beside.globals;
    turns = h.beside.turns;
    input = h.beside.input;
    bytes = h.beside.bytes;
    faulty = h.beside.faulty;
    output = h.beside.output;
  };
  count = h.count;
  falling = h.falling;
  named = h.named;
  enough = h.enough;
}

-- The variables of a module.

globals_by : (R : ℕ → Values → List ℕ → Type 0) (vars : ℕ → Values) (gs : ℕ → List ℕ) (g : ℕ) (vs : Values) (new : List ℕ) (f : ℕ) → R g vs new → ((f ≡ g → ⊥) → R f (vars f) (gs f))
    → R f (put_at vars g vs f) (set_of gs g new f)
unfolding put_at at_if set_of
globals_by R vars gs g vs new f here other = by (nat_eq f g) refl
  where
    by : (b : Bool) → nat_eq f g ≡ b → R f (at_if b vs vars f) (if b then new else gs f)
    by true e = subst (λ x. R x vs new) (sym (eqb-true f g e)) here
    by false e = other (eqb-false f g e)

pub agreed_globals : (W : World) (bound : ℕ) (control : List ℕ) (H : Hold) (B : List Here) (μ : Frames) (m : Store) (σ : State) (j : ℕ) (vs : Values) (new : List ℕ)
    → Lies (texts_of W) (globals_of W j) vs new → Agreed W bound control H B μ m σ
    → Agreed W bound control H B μ (record m { globals = set_of m.globals j new }) (record σ { store = set_globals j vs σ.store })
unfolding set_globals
agreed_globals W bound control H B μ m σ j vs new lies h = record {
  laid = record { frames = h.laid.frames; held = h.laid.held; above = h.laid.above };
  beside = record {
    same_control = h.beside.same_control;
    started = h.beside.started;
    globals = λ i. globals_by (λ x ws us. Lies (texts_of W) (globals_of W x) ws us) σ.store.globals m.globals j vs new i lies (λ n. h.beside.globals i);
    turns = h.beside.turns;
    input = h.beside.input;
    bytes = h.beside.bytes;
    faulty = h.beside.faulty;
    output = h.beside.output;
  };
  count = h.count;
  falling = h.falling;
  named = h.named;
  enough = h.enough;
}
