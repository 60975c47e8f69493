-- A module that is checked whole: what its declarations, its procedures and its body promise, where all that there is in the
-- end is known.
use Rattle.std.proofs.Common.{◌≡◌, List, [], length, refl, sym, ◌∙◌, ap, subst, arith}
use Rattle.std.specs.Prelude.{◌≤◌, Bool, true, false, Ok, Err, IfOk, All, map}
use Rattle.mesa_base.specs.declared.place.Place.{Place}
use Rattle.mesa_base.specs.declared.limits.TheConstants.{GLOBAL_WORDS}
use Rattle.syntax_trees.specs.Syntax as s
use Rattle.mesa_types.specs.Sound as sound
use Rattle.mesa_types.specs.Counts.{hidden}
use Rattle.mesa_types.specs.Shapes.{words_in_all, AllHaveWords}
use Rattle.check_rules.specs.Typed as t
use Rattle.check_rules.specs.Steps.{State, Checked}
use Rattle.check_rules.specs.Around.{Around, Known, body_of}
use Rattle.check_rules.specs.Phrases.{is_catch}
use Rattle.check_rules.specs.Programs.{behind_top, Declared, all_declared, Whole, marked_if, enabled, outermost, whole_in, program_body}
use Rattle.check_rules.specs.Written.{InnerWritten, DeclarationWritten}
use Rattle.check_rules.proofs.SoundTypes.{FieldsIn, none_is_no, no_truth}
use Rattle.typing_laws.proofs.SoundSteps.{World, Spot, at, Within, Names, Step, if_ok, weaker}
use Rattle.typing_laws.proofs.SoundnessStatements.{AroundIn, ArmIn}
use Rattle.typing_laws.proofs.SoundAround.{first_member, marked_spot, is_marked_spot, in_statement_around, phrase_here}
use Rattle.typing_laws.proofs.SoundProcedures.{at_start, KnownIn}
use Rattle.typing_laws.proofs.SoundDeclarations.{AllDeclaredIn, AllDeclaredAt, HeadStep, all_declared_in}
use Rattle.typing_laws.proofs.SoundWhole.{EachDone, Outset, OwnBody, inner_around, inner_spot, own_body, own_in, around_in, behind_in, inside_all}
use Rattle.typing_laws.proofs.SoundCounted.{AllFormed, all_formed, Kept, own_kept}

pub both_ok : {A : Type 0} (r : Checked A) (P Q : A → Type 0) → IfOk r P → IfOk r Q → IfOk r (λ x. P x × Q x)
both_ok (Ok x) P Q h k = (h, k)
both_ok (Err e) P Q h k = tt

-- what a module that is checked whole promises
pub record Result (W : World) (u : Whole × State) : Type 0 where
  pub procedures : EachDone W (u.0).procedures
  pub spot : Spot
  pub declared : AllDeclaredIn W spot (u.0).declared
  pub does : sound.StmtIn (at W at_start) ((u.0).body).does
  pub hidden_are : hidden ((u.0).body).does ≤ (u.1).hidden
  pub globals : AllHaveWords (u.1).globals
  pub variables : AllHaveWords (u.1).variables

pub record Ended (W : World) (inner : s.Inner) (now : State) (u : Whole × State) : Type 0 where
  pub limit : words_in_all now.globals ≤ GLOBAL_WORDS → words_in_all (u.1).globals ≤ GLOBAL_WORDS
  pub rows : map length (u.1).used ≡ map length now.used
  pub kept : Kept inner.declarations (u.0).declared u
  pub formed : AllFormed inner.declarations (u.0).declared
  pub gives : InnerWritten inner → AllDeclaredAt W 1 0 (u.0).declared → Names W true now → Within W u.1 → now.hidden ≡ 0 → Result W u

-- ---- where the module's own body stands
module _ (W : World) (known : Known) (h : KnownIn W known) (takes : W.takes ≡ []) (gives : W.gives ≡ []) where
  own_around : AroundIn W true at_start (body_of known [] [])
  unfolding at_start ArmIn FieldsIn
  own_around = record {
    takes = sym takes;
    gives = sym gives;
    gives_types = subst FieldsIn (sym gives) tt;
    strings = h.strings;
    interfaces = h.interfaces;
    further = λ x. refl;
    depth = refl;
    few = omega arith;
    statements = omega arith;
    labels = omega arith;
    labelled = λ x l e. none_is_no l e;
    exit = λ l e. none_is_no l e;
    next = λ l e. none_is_no l e;
    leave = λ u. first_member _ [];
    arm = tt;
  }

  unfoldable pub own_spot : Bool → Spot
  own_spot true = marked_spot 0 at_start
  own_spot false = at_start

  own_outset : (inner : s.Inner) → InnerWritten inner → (b : Bool) → is_catch inner.enable ≡ b
      → Outset W (own_spot b) (enabled b (body_of known [] [])) inner
  unfolding own_spot
  own_outset inner w true e = record {
    around = in_statement_around W true at_start (body_of known [] []) own_around;
    phrase = λ d. phrase_here W at_start (body_of known [] []);
    written = w;
  }
  own_outset inner w false e = record { around = own_around; phrase = λ d. no_truth (sym e ∙ d); written = w }

  marks : (b : Bool) (x : t.Stmt) → sound.StmtIn (at W (own_spot b)) x → sound.StmtIn (at W at_start) (marked_if b x)
  unfolding own_spot sound.StmtIn at_start
  marks true x i = (omega arith, subst (λ Γ. sound.StmtIn Γ x) (sym (is_marked_spot W 0 at_start)) i)
  marks false x i = i

  hidden_marks : (b : Bool) (x : t.Stmt) → hidden (marked_if b x) ≡ hidden x
  unfolding hidden
  hidden_marks true x = refl
  hidden_marks false x = refl

  outermost_around : (p : Spot) (a : Around) → AroundIn W true p a → AroundIn W true p (outermost a)
  outermost_around p a h = record {
    takes = h.takes;
    gives = h.gives;
    gives_types = h.gives_types;
    strings = h.strings;
    interfaces = h.interfaces;
    further = h.further;
    depth = h.depth;
    few = h.few;
    statements = h.statements;
    labels = h.labels;
    labelled = λ x l e u. let g = h.labelled x l e u in record { seen = g.seen; outside = g.outside };
    exit = λ l e u. let g = h.exit l e u in record { seen = g.seen; outside = g.outside };
    next = λ l e u. let g = h.next l e u in record { seen = g.seen; outside = g.outside };
    leave = h.leave;
    arm = h.arm;
  }

  module _ (p : Place) (inner : s.Inner) where
    abbrev b : Bool
    b = is_catch inner.enable

    abbrev a : Around
    a = enabled b (body_of known [] [])

    known_enabled : (c : Bool) → KnownIn W (enabled c (body_of known [] [])).known
    known_enabled true = h
    known_enabled false = h

    abbrev zl : Spot
    zl = inner_spot (own_spot b) a inner

    abbrev heads_done : State → State
    heads_done u = record u { scopes = behind_top u.scopes }

    names_done : (u : State) → Names W true u → Names W true (heads_done u)
    names_done u names = record {
      scopes = behind_in W u.scopes names.scopes;
      coming = names.coming;
      rows = names.rows;
      globals = names.globals;
      variables = names.variables;
    }

    within_done : (u : State) → Within W (heads_done u) → Within W u
    within_done u w = record
        { more_globals = w.more_globals; globals = w.globals; more_locals = w.more_locals; locals = w.locals; used = w.used }

    abbrev Base : Type 0
    Base = AroundIn W true zl (outermost (inner_around a inner)) × All DeclarationWritten inner.declarations

    abbrev Start : State → List Declared × State → Type 0
    Start now r = HeadStep W (λ y. Base × AllDeclaredAt W 1 0 y) (AllDeclaredIn W zl) now r × AllFormed inner.declarations r.0

    abbrev Rest : List Declared → State → Whole × State → Type 0
    Rest ds now u = Step W false ((Outset W (own_spot b) a inner × AllDeclaredIn W zl ds) × Names W true now) (OwnBody W (own_spot b) b) now u

    base_of : InnerWritten inner → Base
    unfolding InnerWritten
    base_of w = (outermost_around zl (inner_around a inner) (around_in W (own_spot b) a p inner (known_enabled b) (own_outset inner w b refl).around), w.1)

    closed : (now : State) (r : List Declared × State) (u : Whole × State) → Start now r → Rest r.0 (heads_done r.1) u → Kept inner.declarations r.0 u
        → Ended W inner now u
    closed now r u st su kept =
        let same = kept.declared in
        record {
          limit = λ l. su.limit (st.0.limit l);
          rows = su.rows ∙ st.0.rows;
          kept = subst (λ ds. Kept inner.declarations ds u) (sym same) kept;
          formed = subst (AllFormed inner.declarations) (sym same) st.1;
          gives = λ w at' names within none.
              let base : Base = base_of w in
              let pre : Base × AllDeclaredAt W 1 0 r.0 = (base, subst (AllDeclaredAt W 1 0) same at') in
              let back = within_done r.1 (su.back within) in
              let there = names_done r.1 (st.0.keeps pre back names) in
              let ds = st.0.gives pre back names in
              let mine : (Outset W (own_spot b) a inner × AllDeclaredIn W zl r.0) × Names W true (heads_done r.1) =
              ((own_outset inner w b refl, ds), there) in
              let own = su.gives mine within (inside_all W (heads_done r.1) there) in
              let end = su.keeps mine within (inside_all W (heads_done r.1) there) in
              record {
                procedures = own.procedures;
                spot = zl;
                declared = subst (AllDeclaredIn W zl) (sym same) ds;
                does = subst (sound.StmtIn (at W at_start)) (sym own.is) (marks b own.block own.does);
                hidden_are = omega (arith, ap hidden own.is, hidden_marks b own.block, own.hidden_are, su.hides, st.0.hides, none);
                globals = end.globals;
                variables = end.variables;
              };
        }

    pub ended : (now : State) → IfOk (program_body known p inner now) (Ended W inner now)
    unfolding whole_in
    ended now =
        let heads = all_declared (outermost (inner_around a inner)) 1 0 inner.declarations now in
        if_ok heads (λ r. own_body a p inner r.0 (heads_done r.1)) (Start now) (Ended W inner now)
        (both_ok heads (HeadStep W (λ y. Base × AllDeclaredAt W 1 0 y) (AllDeclaredIn W zl) now) (λ r. AllFormed inner.declarations r.0)
        ((all_declared_in W zl (outermost (inner_around a inner)) refl 1 0 inner.declarations).by now)
        ((all_formed (outermost (inner_around a inner)) 1 0 inner.declarations).by now)) (λ r st.
        let rest = own_body a p inner r.0 (heads_done r.1) in
        weaker rest (λ u. Rest r.0 (heads_done r.1) u × Kept inner.declarations r.0 u) (Ended W inner now) (λ u k. closed now r u st k.0 k.1)
        (both_ok rest (Rest r.0 (heads_done r.1)) (Kept inner.declarations r.0)
        ((own_in W (own_spot b) a p inner (known_enabled b) r.0).by (heads_done r.1)) (own_kept a p inner r.0 (heads_done r.1) st.1)))
