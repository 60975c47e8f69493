-- What the machine finds in the code where a construct runs.
use Rattle.std.proofs.Common.{◌≡◌, ℕ, ◌<◌, List, ◌∷◌, length, sym, ap, ◌∙◌, subst}
use Rattle.mesa_types.specs.declared.typed_parts.Home.{Home}
use Rattle.mesa_types.specs.declared.typed_parts.Home.TheVariants.{Global, Local}
use Rattle.mesa_types.specs.Typed.{Kind}
use Rattle.mesa_types.specs.Shapes.{KindAt}
use Rattle.mesa_types.specs.Sound.{VariableIn, scope_of}
use Rattle.source_meaning.specs.Program.{module_of}
use Rattle.source_meaning.specs.State.{ProcedureId, State}
use Rattle.machine_rules.specs.State.{Frame, Store}
use Rattle.machine_rules.specs.LookUps.{phrases_in, procedure_under}
use Rattle.machine_rules.specs.Activations.{activation_at, own_frame, variables, variables_in, variables_of}
use Rattle.code_rules.specs.Points.{Points}
use Rattle.code_rules.specs.Reading.{Coded, Destination, scratch}
use Rattle.agreement_rules.specs.Operators.{Lies, VariableOf}
use Rattle.agreement_rules.specs.Reaches.{Holds}
use Rattle.agreement_laws.specs.World.{World, CodeOf, texts_of, locals_of, globals_of, scratch_of}
use Rattle.agreement_laws.specs.Standing.{Here, Standing, at, bare, Frames, filled, fill, owner_of, Numbered, table_of}
use Rattle.agreement_laws.specs.Relation.{heres, own, Agrees}
use Rattle.agreement_laws.specs.Contexts.{Site, Context}
use Rattle.agreement_laws.proofs.Stacks.{fill_long, owner_same, frame_found, number_below}
use Rattle.agreement_laws.proofs.Keeping.{agreed_named}

-- The code of a procedure.

pub entries_are : (W : World) (p : ProcedureId) (C : Coded) (c : CodeOf W p C) → c.procedure.code ≡ C.entries
entries_are W p C c = sym (ap (λ (x : Coded). x.entries) c.is)

pub phrases_are : (W : World) (p : ProcedureId) (C : Coded) (c : CodeOf W p C) → c.procedure.phrases ≡ C.routine.phrases
phrases_are W p C c = sym (ap (λ (x : Coded). x.routine.phrases) c.is)

pub table_is : (W : World) (p : ProcedureId) (C : Coded) (c : CodeOf W p C) → table_of W p ≡ C.routine.phrases
unfolding phrases_in
table_is W p C c = ap phrases_in c.is_there ∙ phrases_are W p C c

pub scratch_is : (W : World) (p : ProcedureId) (C : Coded) (c : CodeOf W p C) → scratch C ≡ scratch_of W p
unfolding scope_of
scratch_is W p C c = ap scratch c.is

pub locals_are : (W : World) (p : ProcedureId) (C : Coded) (c : CodeOf W p C) → locals_of W p ≡ C.locals
unfolding scope_of
locals_are W p C c = sym (ap (λ (x : Coded). x.locals) c.is)

pub globals_are : (W : World) (p : ProcedureId) (C : Coded) (c : CodeOf W p C) → globals_of W p.instance ≡ C.globals
globals_are W p C c = sym (ap (λ (x : Coded). x.globals) c.is)

pub imports_are : (W : World) (p : ProcedureId) (C : Coded) (c : CodeOf W p C) → (module_of W.program p.instance).imports ≡ C.imports
imports_are W p C c = sym (ap (λ (x : Coded). x.imports) c.is)

-- The topmost activation.

-- the place of its frame
pub own_here : (μ : Frames) (h : Here) (o : ℕ) (operands : List ℕ) (S : Standing) → own_frame (filled μ (at h o operands)) (fill μ S) ≡ owner_of h.part (length (bare S))
unfolding own_frame
own_here μ h o operands S = owner_same μ h.part (length (fill μ S)) ∙ ap (λ n. owner_of h.part n) (fill_long μ S)

module _ (W : World) (K : Site) (points : Points Destination) (around : List ℕ) (from to : ℕ) (ctx : Context W K points around from to) where
  abbrev pub frame : Numbered
  frame = record { number = K.meant.frame; procedure = K.ground.here.procedure }

  -- the variables that it sees are its frame's
  pub variables_here : (μ : Frames) (o : ℕ) (operands : List ℕ)
      → variables (filled μ (at K.ground.here o operands)) (fill μ K.ground.below) ≡ μ K.meant.frame
  unfolding variables variables_of variables_in
  variables_here μ o operands =
      let T = at K.ground.here o operands ∷ K.ground.below in
      let f = frame_found μ T (own K.ground) frame ctx.is_frame in
      ap (λ q. variables_of (activation_at (fill μ T) q)) (own_here μ K.ground.here o operands K.ground.below)
      ∙ ap variables_of f.is ∙ ap variables_in f.role

  pub holds_here : (μ : Frames) (o : ℕ) (operands : List ℕ)
      → Holds W.image K.code ctx.code_of.number (filled μ (at K.ground.here o operands)) (fill μ K.ground.below)
  unfolding procedure_under
  holds_here μ o operands =
      let T = at K.ground.here o operands ∷ K.ground.below in
      let f = frame_found μ T (own K.ground) frame ctx.is_frame in
      let c = ctx.code_of in
      record {
        procedure = c.procedure;
        is_under = c.is_there;
        its_code = entries_are W K.ground.here.procedure K.code c;
        its_phrases = phrases_are W K.ground.here.procedure K.code c;
        number_of = c.number_of;
        frame = f.there;
        stands = ap (λ q. activation_at (fill μ T) q) (own_here μ K.ground.here o operands K.ground.below) ∙ f.is;
        is_frame = f.role ∙ ap Frame (sym (variables_here μ o operands));
      }

  -- the frame was made, for its procedure
  pub made_here : (bound : ℕ) (μ : Frames) (m : Store) (σ : State) → Agrees W bound K.ground μ m σ → K.meant.frame < σ.store.fresh
  made_here bound μ m σ h = number_below σ.store.fresh (heres K.ground) (own K.ground) frame h.falling ctx.is_frame

  pub named_here : (bound : ℕ) (μ : Frames) (m : Store) (σ : State) → Agrees W bound K.ground μ m σ → σ.store.procedures K.meant.frame ≡ K.ground.here.procedure
  named_here bound μ m σ h = agreed_named W bound K.ground.control K.ground.hold (heres K.ground) μ m σ (own K.ground) frame h ctx.is_frame

  -- its variables and globals lie in the machine's words
  pub locals_lie : (bound : ℕ) (μ : Frames) (m : Store) (σ : State) → Agrees W bound K.ground μ m σ
      → Lies (texts_of W) K.code.locals (σ.store.variables K.meant.frame) (μ K.meant.frame)
  locals_lie bound μ m σ h =
      subst (λ ks. Lies (texts_of W) ks (σ.store.variables K.meant.frame) (μ K.meant.frame))
      (ap (λ p. locals_of W p) (named_here bound μ m σ h) ∙ locals_are W K.ground.here.procedure K.code ctx.code_of)
      (h.laid.frames K.meant.frame (made_here bound μ m σ h))

  pub globals_lie : (bound : ℕ) (μ : Frames) (m : Store) (σ : State) → Agrees W bound K.ground μ m σ
      → Lies (texts_of W) K.code.globals (σ.store.globals K.meant.instance) (m.globals K.ground.here.procedure.instance)
  globals_lie bound μ m σ h =
      subst (λ j. Lies (texts_of W) K.code.globals (σ.store.globals j) (m.globals K.ground.here.procedure.instance)) ctx.instance
      (subst (λ ks. Lies (texts_of W) ks (σ.store.globals K.ground.here.procedure.instance) (m.globals K.ground.here.procedure.instance))
      (globals_are W K.ground.here.procedure K.code ctx.code_of) (h.beside.globals K.ground.here.procedure.instance))

  -- what the scope says of a variable is so in the code
  pub variable_there : (h : Home) (j : Kind) → VariableIn K.scope h j → VariableOf K.code h j
  unfolding VariableIn scope_of
  variable_there (Local n) j v =
      subst (λ ks. KindAt ks n j) (ctx.scope_in.locals ∙ locals_are W K.ground.here.procedure K.code ctx.code_of) v
  variable_there (Global n) j v =
      subst (λ ks. KindAt ks n j) (ctx.scope_in.globals ∙ globals_are W K.ground.here.procedure K.code ctx.code_of) v
