-- What a step of checking keeps: the form in which each law on checking is said, and the few ways in which steps are made of
-- steps. A module's variables and used items are known when all of it is checked: so each step is said for all that there
-- is in the end, and only adds to it.
use Rattle.std.proofs.Common.{◌≡◌, ℕ, suc, ◌+◌, List, [], ◌∷◌, length, refl, ◌∙◌, subst, arith}
use Rattle.std.specs.Prelude.{◌≤◌, ◌<◌, Bool, true, false, Option, Some, Ok, Err, IfOk, slice_get, nat_le, map}
use Rattle.std.proofs.lemmas.Bool.{leb-true}
use Rattle.mesa_base.specs.declared.place.Place.{Place}
use Rattle.mesa_types.specs.declared.faces.Item.{Item}
use Rattle.mesa_types.specs.declared.faces.Import.{Import}
use Rattle.mesa_types.specs.declared.faces.ItemKind.{ItemKind}
use Rattle.mesa_types.specs.declared.faces.ItemKind.TheVariants as item
use Rattle.mesa_types.specs.Sound as sound
use Rattle.mesa_types.specs.Links.{imported, IsUsed}
use Rattle.mesa_types.specs.Shapes.{join, KindAt, AllHaveWords, words_in_all}
use Rattle.mesa_base.specs.declared.limits.TheConstants.{GLOBAL_WORDS}
use Rattle.check_rules.specs.Typed as t
use Rattle.interface_records.specs.PlainTypes.{PlainField, PlainItem, kind_of, kinds_of, item_of}
use Rattle.check_rules.specs.Scopes.{Scope, outer}
use Rattle.check_rules.specs.Meanings.{Meaning}
use Rattle.check_rules.specs.Meanings as m
use Rattle.check_rules.specs.Interfaces.{ConstantFits}
use Rattle.check_rules.specs.declared.fault.Cause.{Cause}
use Rattle.check_rules.specs.Steps.{State, Check, Checked, and_then, ◌>>=◌, pure, fail, lift, ensure, spend, hide, measured, within_operands}
use Rattle.check_rules.specs.Names.{or_empty}
use Rattle.check_rules.proofs.SoundTypes.{TypeIn, FieldsIn}

-- what a module and one of its bodies have in the end
pub record World : Type 0 where
  pub globals : t.Kinds
  pub locals : t.Kinds
  pub takes : List PlainField
  pub gives : List PlainField
  pub procedures : List Item
  pub signals : List Item
  pub imports : List Import
  pub strings : ℕ

-- what is around a place besides
pub record Spot : Type 0 where
  pub points : List sound.Seen
  pub statements : ℕ
  pub labels : ℕ
  pub depth : ℕ
  pub arm : List t.Label
  pub statement : ℕ

abbrev pub at : World → Spot → sound.Scope
at W p = record {
  globals = W.globals;
  locals = W.locals;
  takes = length W.takes;
  gives = kinds_of W.gives;
  procedures = W.procedures;
  signals = W.signals;
  imports = W.imports;
  strings = W.strings;
  points = p.points;
  statements = p.statements;
  labels = p.labels;
  depth = p.depth;
  arm = p.arm;
  statement = p.statement;
}

-- an item of the module or of an interface
pub record ItemIn (i : PlainItem) : Type 0 where
  pub takes : FieldsIn i.takes
  pub gives : FieldsIn i.gives

unfoldable pub SignalKind : ItemKind → Type 0
SignalKind item.Procedure = ⊥
SignalKind item.Signal = Unit {0}
SignalKind item.Error = Unit {0}

-- a predeclared error
pub record Bare (i : PlainItem) : Type 0 where
  pub kind : i.kind ≡ item.Error
  pub takes : i.takes ≡ []
  pub gives : i.gives ≡ []

-- what a name means is there in the end; where no body is around, no name means a local variable
unfoldable pub MeaningIn : World → Bool → Meaning → Type 0
MeaningIn W flat (m.Variable (t.Global n) k) = KindAt W.globals n (kind_of k) × TypeIn k
MeaningIn W flat (m.Variable (t.Local n) k) = (flat ≡ false) × KindAt W.locals n (kind_of k) × TypeIn k
MeaningIn W flat (m.Constant k n) = ConstantFits (kind_of k) n × TypeIn k
MeaningIn W flat (m.TextConstant n) = n < W.strings
MeaningIn W flat (m.TypeName k) = TypeIn k
MeaningIn W flat (m.Procedure (t.OwnProcedure q) i) = ItemIn i × (k : ℕ) × (q ≡ suc k) × (slice_get W.procedures k ≡ Some (item_of i))
MeaningIn W flat (m.Procedure (t.LinkedProcedure k n) i) = ItemIn i × (i.kind ≡ item.Procedure) × (imported W.imports k n ≡ Some (item_of i))
MeaningIn W flat (m.Signal (t.OwnSignal n) i) = ItemIn i × SignalKind i.kind × (slice_get W.signals n ≡ Some (item_of i))
MeaningIn W flat (m.Signal (t.LinkedSignal k n) i) = ItemIn i × SignalKind i.kind × (imported W.imports k n ≡ Some (item_of i))
MeaningIn W flat (m.Signal t.TheBoundsFault i) = Bare i
MeaningIn W flat (m.Signal t.TheZeroDivisor i) = Bare i
MeaningIn W flat (m.Signal t.TheUnnamed i) = ⊥
MeaningIn W flat _ = Unit {0}

unfoldable pub ScopeIn : World → Bool → Scope Meaning → Type 0
ScopeIn W flat scope = (x : List ℕ) (a : Meaning) → scope x ≡ Some a → MeaningIn W flat a

unfoldable pub ScopesIn : World → Bool → List (Scope Meaning) → Type 0
ScopesIn W flat [] = Unit {0}
ScopesIn W flat (scope ∷ scopes) = ScopeIn W flat scope × ScopesIn W flat scopes

abbrev pub mark_at : List (List Bool) → ℕ → ℕ → Option Bool
mark_at used k n = slice_get (or_empty [] (slice_get used k)) n

-- a state on the way: its variables are the first of those in the end, and what it marks as used is used
pub record Within (W : World) (s : State) : Type 0 where
  pub more_globals : t.Kinds
  pub globals : W.globals ≡ join s.globals more_globals
  pub more_locals : t.Kinds
  pub locals : W.locals ≡ join (kinds_of W.takes) (join (kinds_of W.gives) (join s.variables more_locals))
  pub used : (k n : ℕ) → mark_at s.used k n ≡ Some true → IsUsed W.imports k n

-- what its names mean is there, each item of an import can be marked, and its variables have words
pub record Names (W : World) (flat : Bool) (s : State) : Type 0 where
  pub scopes : ScopesIn W flat s.scopes
  pub coming : ScopeIn W flat s.coming
  pub rows : (k n : ℕ) (i : Item) → imported W.imports k n ≡ Some i → (b : Bool) × (mark_at s.used k n ≡ Some b)
  pub globals : AllHaveWords s.globals
  pub variables : AllHaveWords s.variables

-- a step adds words of operands and hidden words, keeps the limit of globals and how many items can be marked, and changes no
-- scope but the innermost; where its premise holds, its names stay in order, and what it gives is as said
pub record Step {A : Type 0} (W : World) (flat : Bool) (Pre : Type 0) (Post : A → ℕ → ℕ → Type 0) (s : State) (r : A × State) : Type 0 where
  pub spent : ℕ
  pub hid : ℕ
  pub spends : (r.1).operands ≡ s.operands + spent
  pub hides : (r.1).hidden ≡ s.hidden + hid
  pub under : outer (r.1).scopes ≡ outer s.scopes
  pub back : Within W r.1 → Within W s
  pub limit : words_in_all s.globals ≤ GLOBAL_WORDS → words_in_all (r.1).globals ≤ GLOBAL_WORDS
  pub rows : map length (r.1).used ≡ map length s.used
  pub keeps : Pre → Within W r.1 → Names W flat s → Names W flat r.1
  pub gives : Pre → Within W r.1 → Names W flat s → Post r.0 spent hid

-- P before, and of what it gives Q, with the words of operands and the hidden words that it counts
pub record Rule {A : Type 0} (W : World) (flat : Bool) (Pre : Type 0) (Post : A → ℕ → ℕ → Type 0) (p : Check A) : Type 0 where
  pub by : (s : State) → IfOk (p s) (Step W flat Pre Post s)

-- ---- steps of steps

pub if_ok : {A B : Type 0} (r : Checked A) (f : A → Checked B) (P : A → Type 0) (Q : B → Type 0) → IfOk r P → ((x : A) → P x → IfOk (f x) Q)
    → IfOk (and_then r f) Q
if_ok (Ok x) f P Q h k = k x h
if_ok (Err e) f P Q h k = tt

pub weaker : {A : Type 0} (r : Checked A) (P Q : A → Type 0) → ((x : A) → P x → Q x) → IfOk r P → IfOk r Q
weaker (Ok x) P Q h k = h x k
weaker (Err e) P Q h k = tt

module _ (W : World) (flat : Bool) where
  pub bind : {A B : Type 0} {Pre : Type 0} {P : A → ℕ → ℕ → Type 0} {Q : B → ℕ → ℕ → Type 0} {p : Check A} {f : A → Check B}
      → Rule W flat Pre P p → ((x : A) (s h : ℕ) → Rule W flat (Pre × P x s h) (λ y m n. Q y (s + m) (h + n)) (f x)) → Rule W flat Pre Q (p >>= f)
  bind {A} {B} {Pre} {P} {Q} {p} {f} one next = record {
    by = λ s. if_ok (p s) (λ r. f r.0 r.1) (Step W flat Pre P s) (Step W flat Pre Q s) (one.by s) (λ r st.
        weaker (f r.0 r.1) (Step W flat (Pre × P r.0 st.spent st.hid) (λ y m n. Q y (st.spent + m) (st.hid + n)) r.1) (Step W flat Pre Q s)
        (λ u su. record {
          spent = st.spent + su.spent;
          hid = st.hid + su.hid;
          spends = omega (arith, su.spends, st.spends);
          hides = omega (arith, su.hides, st.hides);
          under = su.under ∙ st.under;
          back = λ w. st.back (su.back w);
          limit = λ l. su.limit (st.limit l);
          rows = su.rows ∙ st.rows;
          keeps = λ pre w names. su.keeps (pre, st.gives pre (su.back w) names) w (st.keeps pre (su.back w) names);
          gives = λ pre w names. su.gives (pre, st.gives pre (su.back w) names) w (st.keeps pre (su.back w) names);
        })
        ((next r.0 st.spent st.hid).by r.1));
  }

  -- with another premise, and less of what it gives
  pub under : {A : Type 0} {Pre Pre' : Type 0} {P : A → ℕ → ℕ → Type 0} {p : Check A} → (Pre → Pre') → Rule W flat Pre' P p → Rule W flat Pre P p
  under {A} {Pre} {Pre'} {P} {p} h one = record {
    by = λ s. weaker (p s) (Step W flat Pre' P s) (Step W flat Pre P s) (λ r st. record {
      spent = st.spent;
      hid = st.hid;
      spends = st.spends;
      hides = st.hides;
      under = st.under;
      back = st.back;
      limit = st.limit;
      rows = st.rows;
      keeps = λ pre. st.keeps (h pre);
      gives = λ pre. st.gives (h pre);
    }) (one.by s);
  }

  pub so : {A : Type 0} {Pre : Type 0} {P Q : A → ℕ → ℕ → Type 0} {p : Check A} → ((x : A) (s h : ℕ) → Pre → P x s h → Q x s h) → Rule W flat Pre P p
      → Rule W flat Pre Q p
  so {A} {Pre} {P} {Q} {p} k one = record {
    by = λ s. weaker (p s) (Step W flat Pre P s) (Step W flat Pre Q s) (λ r st. record {
      spent = st.spent;
      hid = st.hid;
      spends = st.spends;
      hides = st.hides;
      under = st.under;
      back = st.back;
      limit = st.limit;
      rows = st.rows;
      keeps = st.keeps;
      gives = λ pre w names. k r.0 st.spent st.hid pre (st.gives pre w names);
    }) (one.by s);
  }

  -- what leaves the state
  pub unmoved : {A : Type 0} (Pre : Type 0) (Q : A → ℕ → ℕ → Type 0) (s : State) (a : A) → (Pre → Names W flat s → Within W s → Q a 0 0)
      → Step W flat Pre Q s (a, s)
  unmoved Pre Q s a h = record {
    spent = 0;
    hid = 0;
    spends = omega arith;
    hides = omega arith;
    under = refl;
    back = λ w. w;
    limit = λ l. l;
    rows = refl;
    keeps = λ pre w names. names;
    gives = λ pre w names. h pre names w;
  }

  pub given : {A : Type 0} {Pre : Type 0} {Q : A → ℕ → ℕ → Type 0} (a : A) → (Pre → Q a 0 0) → Rule W flat Pre Q (pure a)
  given {A} {Pre} {Q} a h = record { by = λ s. unmoved Pre Q s a (λ pre names w. h pre) }

  pub lifted : {A : Type 0} {Pre : Type 0} (P : A → Type 0) (Q : A → ℕ → ℕ → Type 0) (r : Checked A) → (Pre → IfOk r P)
      → ((a : A) → Pre → P a → Q a 0 0)
      → Rule W flat Pre Q (lift r)
  lifted {A} {Pre} P Q (Ok a) h k = record { by = λ s. unmoved Pre Q s a (λ pre names w. k a pre (h pre)) }
  lifted {A} {Pre} P Q (Err e) h k = record { by = λ s. tt }

  -- a rule that needs no state, whose result is as said
  pub plainly : {A : Type 0} {Pre : Type 0} {P : A → Type 0} (r : Checked A) → (Pre → IfOk r P) → Rule W flat Pre (λ a s h. P a) (lift r)
  plainly {A} {Pre} {P} r h = lifted P (λ a s h. P a) r h (λ a pre q. q)

  pub ended : {A : Type 0} {Pre : Type 0} {Q : A → ℕ → ℕ → Type 0} (r : Checked A) → (Pre → IfOk r (λ a. Q a 0 0)) → Rule W flat Pre Q (lift r)
  ended {A} {Pre} {Q} r h = lifted (λ a. Q a 0 0) Q r h (λ a pre q. q)

  -- a test that holds
  pub tested : {Pre : Type 0} (b : Bool) (cause : Cause) (place : Place) → Rule W flat Pre (λ a s h. b ≡ true) (ensure b cause place)
  tested {Pre} true cause place = record { by = λ s. unmoved Pre (λ a s h. true ≡ true) s tt (λ pre names w. refl) }
  tested {Pre} false cause place = record { by = λ s. tt }

  pub still : {Pre : Type 0} (b : Bool) (cause : Cause) (place : Place) → Rule W flat Pre (λ a s h. (b ≡ true) × (h ≡ 0)) (ensure b cause place)
  still {Pre} true cause place = record { by = λ s. unmoved Pre (λ a s h. (true ≡ true) × (h ≡ 0)) s tt (λ pre names w. (refl, refl)) }
  still {Pre} false cause place = record { by = λ s. tt }

  pub failed : {A : Type 0} {Pre : Type 0} {Q : A → ℕ → ℕ → Type 0} (cause : Cause) (place : Place) → Rule W flat Pre Q (fail cause place)
  failed cause place = record { by = λ s. tt }

  pub spent_words : {Pre : Type 0} (n : ℕ) → Rule W flat Pre (λ a s h. s ≡ n) (spend n)
  spent_words {Pre} n = record {
    by = λ s. record {
      spent = n;
      hid = 0;
      spends = refl;
      hides = omega arith;
      under = refl;
      limit = λ l. l;
      rows = refl;
      back = λ w. record { more_globals = w.more_globals; globals = w.globals; more_locals = w.more_locals; locals = w.locals; used = w.used };
      keeps = λ pre w names. record {
        scopes = names.scopes;
        coming = names.coming;
        rows = names.rows;
        globals = names.globals;
        variables = names.variables;
      };
      gives = λ pre w names. refl;
    };
  }

  pub hidden_words : {Pre : Type 0} (n : ℕ) → Rule W flat Pre (λ a s h. h ≡ n) (hide n)
  hidden_words {Pre} n = record {
    by = λ s. record {
      spent = 0;
      hid = n;
      spends = omega arith;
      hides = refl;
      under = refl;
      limit = λ l. l;
      rows = refl;
      back = λ w. record { more_globals = w.more_globals; globals = w.globals; more_locals = w.more_locals; locals = w.locals; used = w.used };
      keeps = λ pre w names. record {
        scopes = names.scopes;
        coming = names.coming;
        rows = names.rows;
        globals = names.globals;
        variables = names.variables;
      };
      gives = λ pre w names. refl;
    };
  }

  -- a part whose words of operands do not count around it
  pub apart : {A : Type 0} {Pre : Type 0} {P : A → ℕ → ℕ → Type 0} {p : Check A} → Rule W flat Pre P p
      → Rule W flat Pre (λ x s h. P x.0 x.1 h) (measured p)
  apart {A} {Pre} {P} {p} one = record {
    by = λ s.
        let blank : State = record s { operands = 0 } in
        if_ok (p blank) (λ r. Ok ((r.0, (r.1).operands), record r.1 { operands = s.operands })) (Step W flat Pre P blank)
        (Step W flat Pre (λ x n h. P x.0 x.1 h) s) (one.by blank) (λ r st. record {
          spent = 0;
          hid = st.hid;
          spends = omega arith;
          hides = st.hides;
          under = st.under;
          limit = st.limit;
          rows = st.rows;
          back = λ w. let v = st.back (record {
            more_globals = w.more_globals;
            globals = w.globals;
            more_locals = w.more_locals;
            locals = w.locals;
            used = w.used;
          }) in
              record { more_globals = v.more_globals; globals = v.globals; more_locals = v.more_locals; locals = v.locals; used = v.used };
          keeps = λ pre w names. let v = st.keeps pre (record {
            more_globals = w.more_globals;
            globals = w.globals;
            more_locals = w.more_locals;
            locals = w.locals;
            used = w.used;
          })
              (record { scopes = names.scopes; coming = names.coming; rows = names.rows; globals = names.globals; variables = names.variables }) in
              record { scopes = v.scopes; coming = v.coming; rows = v.rows; globals = v.globals; variables = v.variables };
          gives = λ pre w names.
              let v = st.gives pre (record {
                more_globals = w.more_globals;
                globals = w.globals;
                more_locals = w.more_locals;
                locals = w.locals;
                used = w.used;
              })
              (record { scopes = names.scopes; coming = names.coming; rows = names.rows; globals = names.globals; variables = names.variables }) in
              let e : st.spent ≡ (r.1).operands = omega (arith, st.spends) in
              subst (λ n. P r.0 n st.hid) e v;
        });
  }

  -- within the limit of a statement's operands
  pub limited : {A : Type 0} {Pre : Type 0} {P : A → ℕ → ℕ → Type 0} {p : Check A} (before : ℕ) (place : Place) → Rule W flat Pre P p
      → Rule W flat Pre (λ x s h. (n : ℕ) × (before + n ≤ 16384) × P x n h) (within_operands before place p)
  limited {A} {Pre} {P} {p} before place one =
      bind (apart one) (λ r s h.
      bind (still (nat_le (before + r.1) 16384) _ place) (λ u m n.
      given r.0 (λ pre. (r.1, leb-true (before + r.1) 16384 pre.1.0, subst (λ k. P r.0 r.1 k) (omega (arith, pre.1.1)) pre.0.1))))
