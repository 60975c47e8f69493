-- A signal with which a run ends uncaught may escape.
use Rattle.std.proofs.Common.{◌≡◌, ℕ, zero, suc, ◌<◌, ◌≤◌, List, [], ◌∷◌, length, get_or, Option, Some, None, refl, sym, arith}
use Rattle.std.specs.Prelude.{All, Contains, slice_get}
use Rattle.std.proofs.lemmas.Option.{none-some, slice_get-get_or}
use Rattle.code_forms.specs.declared.module_code.CodeProcedure.{CodeProcedure}
use Rattle.object_files.specs.declared.image.Image.{Image}
use Rattle.object_files.specs.declared.image.Instance.{Instance}
use Rattle.object_files.specs.declared.object.Object.{Object}
use Rattle.machine_rules.specs.State.{Store, Ending, Stepped}
use Rattle.machine_rules.specs.LookUps.{module_number, code_in, code_of, procedure_of}
use Rattle.machine_rules.specs.Steps.{step, Ends, stops, goes, fresh, begins}
use Rattle.machine_rules.proofs.Going.{Controlled, Well, body_from}
use Rattle.machine_rules.proofs.Located.{World, right}
use Rattle.machine_rules.proofs.Unstuck.{well_step}
use Rattle.survey_rules.specs.Laws.{UncaughtSignalsEscape}
use Rattle.survey_rules.proofs.Codes.{world}
use Rattle.survey_rules.proofs.Stepping.{follows_step}
use Rattle.survey_rules.proofs.Tracing.{Named, EndsSo, Follows}

ends_so : (image : Image) → World image → (x : Stepped) (end : Ending) (m : Store) → Ends image x end m → Well image x → Follows image x → EndsSo image end
ends_so image w x end m (stops _ _) g f = f
ends_so image w x end m (goes s _ _ e) g f = ends_so image w (step image s) end m e (well_step image w s g) (follows_step image w s g f)

-- At the beginning.

none_past : {X : Type 0} (xs : List X) (k : ℕ) → slice_get xs k ≡ None → length xs ≤ k
none_past [] k e = omega arith
none_past (x ∷ xs) zero e = absurd (none-some x (sym e))
none_past (x ∷ xs) (suc k) e = let l = none_past xs k e in omega (arith, l)

body_there : (image : Image) → World image → (j : ℕ) (i : Instance) → slice_get image.instances j ≡ Some i → (o : Option Object) → slice_get image.modules i.module ≡ o
    → (body : CodeProcedure) × (procedure_of image j 0 ≡ Some body)
unfolding code_of module_number code_in
body_there image w j i e None is = absurd (let l = none_past image.modules i.module is in let m = w.ready.modules j i e in omega (arith, l, m))
body_there image w j i e (Some o) is =
    let code : code_of image j ≡ Some o.code = rw (e, is) refl in
    body_from image j o.code (slice_get o.code.procedures 0) refl (right image w j o.code code).ranges.body code

controlled : (image : Image) → World image → (control : List ℕ) → All (λ j. j < length image.instances) control → Controlled image control
controlled image w [] h = tt
controlled image w (j ∷ rest) h =
    let d : Instance = record { path = []; «module» = 0 } in
    let l : j < length image.instances = h 0 j (omega arith) in (
      body_there image w j (get_or image.instances j d) (slice_get-get_or image.instances j d l) (slice_get image.modules _) refl,
      controlled image w rest (λ k x m. h (suc k) x (omega (arith, m))),
    )

named : (image : Image) (control : List ℕ) → ((j : ℕ) → Contains control j → Contains image.control j) → Named image control
named image [] h = tt
named image (j ∷ rest) h = (h j (0, omega arith, refl), named image rest (λ i c. h i (suc c.0, (let l = c.1 in omega (arith, l)), c.2)))

pub uncaught_signals_escape : UncaughtSignalsEscape
unfolding begins fresh
uncaught_signals_escape image ready input faulty turns output signal left taken count run =
    let w = world image ready in
    ends_so image w _ _ run.last run.ends (tt, controlled image w image.control ready.control) (tt, named image image.control (λ j c. c))
