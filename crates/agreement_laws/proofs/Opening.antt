-- A new frame: what is known of it, and that meaning and machine agree in it, and behind it.
use Rattle.std.proofs.Common.{◌≡◌, ⊎_elim, inl, inr, ℕ, zero, suc, ◌+◌, ◌-◌, ◌<◌, ◌≤◌, ◌⊎◌, List, [], ◌∷◌, ◌++◌, length, get_or, Bool, true, false, Option, Some, None, refl, sym, ap, ◌∙◌, subst, arith}
use Rattle.std.specs.Prelude.{nat_eq, if◌then◌else◌}
use Rattle.std.proofs.lemmas.Bool.{eq-eqb, eqb-true, eqb-false}
use Rattle.std.proofs.lemmas.Option.{none-some, same_Some}
use Rattle.mesa_types.specs.Typed.{Point, Start, After, At, Leave}
use Rattle.mesa_types.specs.Plain.{kinds_of}
use Rattle.mesa_types.specs.Sound.{scope_of}
use Rattle.code_forms.specs.declared.module_code.Phrase.{Phrase}
use Rattle.code_forms.specs.declared.region.Region.TheVariants.{Body}
use Rattle.code_forms.specs.Phrases.{PhrasesFill, first_start}
use Rattle.code_forms.specs.Regions.{region_at}
use Rattle.code_forms.specs.Routine.{Spot, spots, code_end}
use Rattle.code_forms.proofs.Begun.{none_begun}
use Rattle.code_forms.proofs.Begun.{no_phrase as none_begins}
use Rattle.code_forms.proofs.PhraseOrder.{no_phrase, same_default}
use Rattle.signaller.proofs.Regions.{rises, start, start_before_stop, stop_before}
use Rattle.source_meaning.specs.Value.{Values}
use Rattle.source_meaning.specs.Value as value
use Rattle.source_meaning.specs.Program.{beyond_parameters}
use Rattle.source_meaning.specs.State.{ProcedureId, State}
use Rattle.source_meaning.specs.Variables.{Enabled, at_if, put_at, add_frame}
use Rattle.machine_rules.specs.State.{Target, Store}
use Rattle.machine_rules.specs.Words.{zeros}
use Rattle.machine_rules.specs.LookUps.{text_of}
use Rattle.code_rules.specs.Modules.{BodyCode, body_end_of}
use Rattle.code_rules.specs.Points.{OutOf, in_body}
use Rattle.code_rules.specs.Reading.{Coded, Destination, Caller, scratch}
use Rattle.agreement_rules.specs.Layout.{slots_of, Show}
use Rattle.agreement_rules.specs.Operators.{Lies}
use Rattle.agreement_laws.specs.World.{World, CodeOf, texts_of, meant_procedure, body_scope, locals_of, hidden_of}
use Rattle.agreement_laws.specs.Standing.{Part, IsFrame, IsArm, Here, Standing, bare, Frames, table_of, PartBelow, below_it, Falling, PartIs, Named, Nested}
use Rattle.agreement_laws.specs.Relation.{Hold, Ground, Agreed}
use Rattle.agreement_laws.specs.Chains.{Dictionary, Within, IsTarget, Targets, goal_of, Away, Leads, HoldsStanding, Floor, FloorStands, Asks}
use Rattle.agreement_laws.specs.Contexts.{Site, Context, Inside}
use Rattle.agreement_laws.proofs.Arms.{own_ends}
use Rattle.agreement_laws.proofs.Chained.{asks_wider}
use Rattle.agreement_laws.proofs.Codes.{table_is, scratch_is}
use Rattle.agreement_laws.proofs.Frames.{frame_lies}
use Rattle.agreement_laws.proofs.Keeping.{words_by}
use Rattle.agreement_laws.proofs.Pushing.{target_push, floors_push, holds_push}
use Rattle.agreement_laws.proofs.Regions.{fills}
use Rattle.agreement_laws.proofs.Stacks.{here_top, frame_top, number_below, with_words}
use Rattle.agreement_laws.proofs.Storing.{put_here, put_by}

-- Its points: the return.

abbrev pub back : (place : ℕ) → Target
back q = record { place = q; owner = q; goal = None }

abbrev leave_or : (place : ℕ) → Point → Option Target → Option Target
leave_or q (Start n) o = o
leave_or q (After n) o = o
leave_or q (At l) o = o
leave_or q Leave o = Some (back q)

abbrev pub with_leave : Dictionary → (frame place : ℕ) → Dictionary
with_leave D f q g p = if nat_eq g f then leave_or q p (D g p) else D g p

abbrev pub frame_here : ProcedureId → (frame : ℕ) → Here
frame_here p f = record { procedure = p; part = IsFrame f }

-- what is known of a stack over which a frame is made; no frame that stands has its number
pub record Over (W : World) (S : Standing) (H : Hold) (D : Dictionary) (F : Floor) (f : ℕ) (chain : List Enabled) (p : ProcedureId) : Type 0 where
  pub falling : Falling f (bare S)
  pub nested : Nested W (bare S)
  pub targets : Targets W (bare S) D
  pub holds : HoldsStanding (bare S) H
  pub floors : FloorStands (bare S) F
  pub asks : Asks W (frame_here p f) S H D F (length (bare S)) [] chain

module _ (W : World) (S : Standing) (H : Hold) (D : Dictionary) (F : Floor) (f : ℕ) (chain : List Enabled) (p : ProcedureId)
    (over : Over W S H D F f chain p) where
  abbrev q : ℕ
  q = length (bare S)

  abbrev pub E : Dictionary
  E = with_leave D f q

  none_yet_by : (l : Point) (o : Option Target) → D f l ≡ o → D f l ≡ None
  none_yet_by l None e = e
  none_yet_by l (Some t) e =
      let x = over.targets f l t e in
      let lt = number_below f (bare S) t.owner x.frame over.falling x.is_frame in
      let n = x.number in absurd (omega (arith, lt, n))

  pub none_yet : (l : Point) → D f l ≡ None
  none_yet l = none_yet_by l (D f l) refl

  pub within : Within D E
  within g l t e = by (nat_eq g f) refl
    where
      by : (b : Bool) → nat_eq g f ≡ b → (if b then leave_or q l (D g l) else D g l) ≡ Some t
      by true b = absurd (none-some t (sym (none_yet l) ∙ ap (λ x. D x l) (sym (eqb-true g f b)) ∙ e))
      by false b = e

  leave_by : (b : Bool) (g : ℕ) (l : Point) (t : Target) → nat_eq g f ≡ b → (if b then leave_or q l (D g l) else D g l) ≡ Some t
      → ((g ≡ f) × (l ≡ Leave) × (t ≡ back q)) ⊎ (D g l ≡ Some t)
  leave_by true g (Start n) t b e = inr e
  leave_by true g (After n) t b e = inr e
  leave_by true g (At n) t b e = inr e
  leave_by true g Leave t b e = inl (eqb-true g f b, refl, sym (same_Some (back q) t e))
  leave_by false g l t b e = inr e

  -- a point is its return, or one of those below
  pub leave_cases : (g : ℕ) (l : Point) (t : Target) → E g l ≡ Some t → ((g ≡ f) × (l ≡ Leave) × (t ≡ back q)) ⊎ (D g l ≡ Some t)
  leave_cases g l t e = leave_by (nat_eq g f) g l t refl e

  none_held_by : (z : ℕ) (o : Option ℕ) → H f z ≡ o → H f z ≡ None
  none_held_by z None e = e
  none_held_by z (Some v) e =
      let x = over.holds f z v e in
      let lt = number_below f (bare S) x.0 x.1 over.falling x.2 in
      let n = x.3 in absurd (omega (arith, lt, n))

  pub none_held : (z : ℕ) → H f z ≡ None
  none_held z = none_held_by z (H f z) refl

  no_floor_by : (k low : ℕ) → F f ≡ k → F f ≤ low
  no_floor_by zero low e = omega (arith, e)
  no_floor_by (suc v) low e =
      let x = over.floors f v e in
      let lt = number_below f (bare S) x.0 x.1 over.falling x.2 in
      let n = x.3 in absurd (omega (arith, lt, n))

  body_finds : (l : Point) (arms : ℕ) (to : Destination) → in_body Caller l ≡ OutOf arms to → Leads E f q q l arms to
  body_finds (Start n) arms to e = absurd (let z : ⊥ = cc in z)
  body_finds (After n) arms to e = absurd (let z : ⊥ = cc in z)
  body_finds (At n) arms to e = absurd (let z : ⊥ = cc in z)
  body_finds Leave arms to e =
      let none : 0 ≡ arms = cc in
      let same : Caller ≡ to = cc in
      record {
        target = back q;
        found = ap (λ b. if b then Some (back q) else D f Leave) (eq-eqb f f refl);
        owner = refl;
        goal = ap goal_of same;
        away = subst (λ k. Away k q q) none refl;
      }

  module _ (control : List ℕ) (C : Coded) (c : CodeOf W p C) where
    abbrev h : Here
    h = frame_here p f

    abbrev pub frame_ground : Ground
    frame_ground = record { here = h; below = S; hold = H; control = control }

    abbrev pub frame_site : Site
    frame_site = record {
      ground = frame_ground;
      code = C;
      scope = body_scope W p;
      meant = record { frame = f; instance = p.instance; chain = chain };
      points = E;
      floor = F;
    }

    abbrev first : ℕ
    first = scratch C + 16

    pub frame_context : (words : ℕ) → Context W frame_site (in_body Caller) [] first (first + words)
    unfolding scope_of
    frame_context words = record {
      code_of = c;
      scope_in = record { globals = refl; locals = refl; takes = refl; gives = refl; procedures = refl; signals = refl; imports = refl; strings = refl };
      instance = refl;
      is_frame = frame_top h (bare S);
      nested = (tt, over.nested);
      fresh = record {
        starts = λ n le. ap (λ b. if b then D f (Start n) else D f (Start n)) (eq-eqb f f refl) ∙ none_yet (Start n);
        afters = λ n le. ap (λ b. if b then D f (After n) else D f (After n)) (eq-eqb f f refl) ∙ none_yet (After n);
        labels = λ n le. ap (λ b. if b then D f (At n) else D f (At n)) (eq-eqb f f refl) ∙ none_yet (At n);
      };
      targets = λ g l t e. ⊎_elim
          (λ (x : (g ≡ f) × (l ≡ Leave) × (t ≡ back q)). subst (λ u. IsTarget W (h ∷ bare S) g u) (sym x.2)
          (subst (λ k. IsTarget W (h ∷ bare S) k (back q)) (sym x.0) (record {
            frame = record { number = f; procedure = p };
            is_frame = frame_top h (bare S);
            number = refl;
            aimed = h;
            is_there = here_top h (bare S);
            owned = refl;
            same_procedure = refl;
            aims = refl;
          })))
          (λ (x : D g l ≡ Some t). target_push W h (bare S) g t (over.targets g l t x))
          (leave_cases g l t e);
      finds = body_finds;
      chain = asks_wider W h S H D E F F q [] chain within (λ g. omega arith) over.asks;
      room = record {
        above = let e = scratch_is W p C c in omega (arith, e);
        low = no_floor_by (F f) first refl;
        floors = floors_push h (bare S) F over.floors;
        order = omega arith;
        free = λ z low high. none_held z;
      };
      holds = holds_push h (bare S) H over.holds;
    }

-- Its region is the body.

first_later : (code : List Spot) (table : List Phrase) → PhrasesFill code table → (o k : ℕ) → o < start table 0 → k < length table → o < start table k
first_later code table f o zero lt l = lt
first_later code table f o (suc k) lt l =
    let a = start_before_stop code table 0 f (omega (arith, l)) in
    let b = stop_before code table 0 (suc k) f (omega arith) l in
    omega (arith, lt, a, b)

body_region : (code : List Spot) (table : List Phrase) → PhrasesFill code table → (o whole : ℕ) → o < body_end_of table whole → region_at table o ≡ Body
body_region code [] f o whole lt = refl
body_region code (x ∷ table) f o whole lt =
    let all = x ∷ table in
    none_begins 0 all o Body (λ k d l. none_begun (get_or all k d).arms o ((rises code all f).each k d l)
    (let e = ap (λ (y : Phrase). first_start y.arms) (same_default all k no_phrase d l) in
    let h = first_later code all f o k lt l in omega (arith, e, h)))

module _ (W : World) (p : ProcedureId) (C : Coded) (c : CodeOf W p C) where
  pub body_code : BodyCode C (meant_procedure W p).body.does
  body_code = subst (λ (x : Coded). BodyCode x (meant_procedure W p).body.does) (sym c.is) c.its_code.body

  pub body_inside : (S : Standing) (H : Hold) (control : List ℕ) (f : ℕ)
      → Inside W (record { here = frame_here p f; below = S; hold = H; control = control }) 0 body_code.end
  body_inside S H control f o low high =
      let ends = own_ends body_code.returns in
      let table = table_is W p C c in
      body_region (spots c.procedure.code) (table_of W p) (fills W p C c) o (code_end C.routine.code)
      (subst (λ t. o < body_end_of t (code_end C.routine.code)) (sym table) (omega (arith, high, ends)))

-- Meaning and machine agree in it.

named_part : (part : Part) (r p : ProcedureId) (procedures : ℕ → ProcedureId) (n f : ℕ) → PartBelow part n → n ≤ f → PartIs part r procedures
    → PartIs part r (put_at procedures f p)
named_part (IsFrame m) r p procedures n f b le is =
    put_by (λ k x. k ≡ m → x ≡ r) procedures f p m (λ e. absurd (omega (arith, e, b, le))) (λ non e. is) refl
named_part (IsArm own holder place number why) r p procedures n f b le is = tt

named_put : (B : List Here) (n f : ℕ) (p : ProcedureId) (procedures : ℕ → ProcedureId) → Falling n B → n ≤ f → Named B procedures → Named B (put_at procedures f p)
named_put [] n f p procedures falling le named = tt
named_put (h ∷ B) n f p procedures falling le named = (
  named_part h.part h.procedure p procedures n f falling.0 le named.0,
  named_put B (below_it h.part n) f p procedures falling.1 (below_at h.part n f falling.0 le) named.1,
)
  where
    below_at : (part : Part) (n f : ℕ) → PartBelow part n → n ≤ f → below_it part n ≤ f
    below_at (IsFrame m) n f b le = omega (arith, b, le)
    below_at (IsArm own holder place number why) n f b le = le

pub no_text : (W : World) → texts_of W 0 0 ≡ []
unfolding text_of
no_text W = refl

module _ (W : World) (n : ℕ) (control : List ℕ) (H : Hold) (S : Standing) (p : ProcedureId) (vs : Values) (words : List ℕ) (k : ℕ) where
  abbrev new : List ℕ
  new = words ++ zeros k

  abbrev made : Values
  made = value.join vs (value.zeros (beyond_parameters (meant_procedure W p)))

  new_lies : Show (texts_of W) (kinds_of (meant_procedure W p).head.takes) vs words → Lies (texts_of W) (locals_of W p) made new
  unfolding scope_of beyond_parameters
  new_lies shown = frame_lies (texts_of W) (kinds_of (meant_procedure W p).head.takes) (beyond_parameters (meant_procedure W p)) vs words k (no_text W) shown

  pub frame_agrees : (μ : Frames) (m : Store) (σ : State) → Show (texts_of W) (kinds_of (meant_procedure W p).head.takes) vs words
      → ((z : ℕ) → H σ.store.fresh z ≡ None) → Agreed W n control H (bare S) μ m σ
      → Agreed W n control H (frame_here p σ.store.fresh ∷ bare S) (with_words μ σ.store.fresh new) m
      (record σ { standing = σ.standing + 1; store = add_frame p made σ.store })
  unfolding add_frame put_at at_if
  frame_agrees μ m σ shown none h =
      let f = σ.store.fresh in
      record {
        laid = record {
          frames = λ g lt. lies g (nat_eq g f) refl lt;
          held = λ g z v e. words_by (λ x ws. H x z ≡ Some v → slots_of ws z ≡ v) μ f new g (λ e. absurd (none-some v (sym (none z) ∙ e)))
              (λ non. h.laid.held g z v) e;
          above = λ g z v e. put_by (λ x r. H x z ≡ Some v → hidden_of W r ≤ z) σ.store.procedures f p g (λ e. absurd (none-some v (sym (none z) ∙ e)))
              (λ non. h.laid.above g z v) e;
        };
        beside = record {
          same_control = h.beside.same_control;
          started = h.beside.started;
          globals = h.beside.globals;
          turns = h.beside.turns;
          input = h.beside.input;
          bytes = h.beside.bytes;
          faulty = h.beside.faulty;
          output = h.beside.output;
        };
        count = (let c = h.count in omega (arith, c));
        falling = (omega arith, h.falling);
        named = (put_here σ.store.procedures f p, named_put (bare S) f f p σ.store.procedures h.falling (omega arith) h.named);
        enough = h.enough;
      }
    where
      lies : (g : ℕ) (b : Bool) → nat_eq g σ.store.fresh ≡ b → g < suc σ.store.fresh
          → Lies (texts_of W) (locals_of W (at_if b p σ.store.procedures g)) (at_if b made σ.store.variables g) (if b then new else μ g)
      lies g true b lt = new_lies shown
      lies g false b lt = let non = eqb-false g σ.store.fresh b in h.laid.frames g (lower g σ.store.fresh non lt)
        where
          lower : (g f : ℕ) → (g ≡ f → ⊥) → g < suc f → g < f
          lower g f non lt = ⊎_elim (λ (x : g ≡ f). absurd (non x)) (λ (x : g < f). x) (by g f lt)
            where
              by : (g f : ℕ) → g < suc f → (g ≡ f) ⊎ (g < f)
              by zero zero lt = inl refl
              by zero (suc f) lt = inr (omega arith)
              by (suc g) zero lt = absurd (omega (arith, lt))
              by (suc g) (suc f) lt = ⊎_elim (λ (x : g ≡ f). inl (ap suc x)) (λ (x : g < f). inr (omega (arith, x))) (by g f (omega (arith, lt)))

-- And behind it.

falling_part : (part : Part) (a b : ℕ) (B : List Here) → a ≤ b → PartBelow part a × Falling (below_it part a) B
    → ((a b : ℕ) → a ≤ b → Falling a B → Falling b B) → PartBelow part b × Falling (below_it part b) B
falling_part (IsFrame m) a b B le x more = (let lt = x.0 in omega (arith, lt, le), x.1)
falling_part (IsArm own holder place number why) a b B le x more = (tt, more a b le x.1)

pub falling_more : (B : List Here) (a b : ℕ) → a ≤ b → Falling a B → Falling b B
falling_more [] a b le x = tt
falling_more (h ∷ B) a b le x = falling_part h.part a b B le x (λ a b le y. falling_more B a b le y)

pub agreed_back : (W : World) (n : ℕ) (control : List ℕ) (H : Hold) (B : List Here) (p : ProcedureId) (f : ℕ) (μ : Frames) (m : Store) (σ : State)
    → Agreed W n control H (frame_here p f ∷ B) μ m σ → Agreed W (suc n) control H B μ m (record σ { standing = σ.standing - 1 })
agreed_back W n control H B p f μ m σ h = record {
  laid = h.laid;
  beside = record {
    same_control = h.beside.same_control;
    started = h.beside.started;
    globals = h.beside.globals;
    turns = h.beside.turns;
    input = h.beside.input;
    bytes = h.beside.bytes;
    faulty = h.beside.faulty;
    output = h.beside.output;
  };
  count = (let c = h.count in omega (arith, c));
  falling = (let lt = h.falling.0 in falling_more B f σ.store.fresh (omega (arith, lt)) h.falling.1);
  named = h.named.1;
  enough = (let x = h.enough in omega (arith, x));
}
