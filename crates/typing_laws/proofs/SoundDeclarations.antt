-- The declarations of a module: where the heads of its procedures and signals are those that it has in the end, each is there
-- under its number, and so is what it offers to others.
use Rattle.std.proofs.Common.{◌≡◌, ℕ, suc, ◌+◌, List, [], ◌∷◌, length, refl, sym, ◌∙◌, subst, arith}
use Rattle.std.specs.Prelude.{◌≤◌, ◌≢◌, Bool, true, false, Option, Some, None, Ok, IfOk, All, map, nat_le, slice_get, if◌then◌else◌}
use Rattle.std.proofs.lemmas.Bool.{leb-true}
use Rattle.std.proofs.lemmas.List.Elements.{All-head, All-tail}
use Rattle.mesa_base.specs.declared.place.Place.{Place}
use Rattle.mesa_base.specs.declared.identifier.Identifier.{Identifier}
use Rattle.mesa_base.specs.declared.limits.TheConstants.{SIGNAL_WORDS}
use Rattle.mesa_types.specs.declared.faces.Item.{Item}
use Rattle.mesa_types.specs.declared.faces.ItemKind.{ItemKind}
use Rattle.mesa_types.specs.declared.faces.ItemKind.TheVariants as item
use Rattle.syntax_trees.specs.declared.syntax.Access.{Access}
use Rattle.syntax_trees.specs.Syntax as s
use Rattle.check_rules.specs.Typed as t
use Rattle.interface_records.specs.PlainTypes.{PlainItem, item_of, words_of_fields}
use Rattle.check_rules.specs.Meanings as m
use Rattle.check_rules.specs.Meanings.{Meaning}
use Rattle.check_rules.specs.Steps.{State, Check, and_then, ◌>>=◌, pure, only, measured, within_operands}
use Rattle.check_rules.specs.Around.{Around}
use Rattle.check_rules.specs.Parts.{first_name}
use Rattle.check_rules.specs.declared.fault.Cause.{Cause}
use Rattle.check_rules.specs.declared.fault.Cause.TheVariants.{FrameTooLarge}
use Rattle.check_rules.specs.Programs.{Heading, named_item, Offer, Stated, DataHead, ProcedureHead, SignalHead, Declared, is_public, if_public, procedure_offer, signal_offers, signal_meanings, first_item, declared_procedure, declared_signals, declared, declaration, all_declared, before_others}
use Rattle.check_rules.specs.Written.{DeclaredWritten, DeclarationWritten, HeadWritten, MaybeFieldsWritten}
use Rattle.check_rules.proofs.SoundTypes.{no_truth}
use Rattle.typing_laws.proofs.SoundSteps.{World, Spot, ItemIn, SignalKind, MeaningIn, Step, Rule, under, apart, tested, unmoved, if_ok, weaker}
use Rattle.typing_laws.proofs.SoundnessStatements.{AroundIn}
use Rattle.typing_laws.proofs.SoundScopes.{MeaningsIn, HeadedIn, announced, settled}
use Rattle.typing_laws.proofs.SoundBodies.{item_checks}
use Rattle.typing_laws.proofs.SoundProcedures.{ProcedureGood}
use Rattle.typing_laws.proofs.SoundHeads.{HeadingIn, heading_in, told_in}

-- ---- what the module has in the end

-- a procedure's number counts the body before it
unfoldable pub ProcedureAt : World → ℕ → Stated → Type 0
ProcedureAt W n (ProcedureHead i scope words) = (k : ℕ) × (n ≡ suc k) × (slice_get W.procedures k ≡ Some (item_of i))
ProcedureAt W n (DataHead h) = Unit {0}
ProcedureAt W n SignalHead = Unit {0}

unfoldable pub SignalsAt : World → ℕ → List PlainItem → Type 0
SignalsAt W n [] = Unit {0}
SignalsAt W n (i ∷ is) = (slice_get W.signals n ≡ Some (item_of i)) × SignalsAt W (n + 1) is

unfoldable pub DeclaredAt : World → ℕ → ℕ → Declared → Type 0
DeclaredAt W np ns x = ProcedureAt W np x.head × SignalsAt W ns x.signals

unfoldable pub AllDeclaredAt : World → ℕ → ℕ → List Declared → Type 0
AllDeclaredAt W np ns [] = Unit {0}
AllDeclaredAt W np ns (x ∷ xs) = DeclaredAt W np ns x × AllDeclaredAt W (np + x.procedures) (ns + length x.signals) xs

-- ---- what is promised of a declaration

pub record SignalGood (i : PlainItem) : Type 0 where
  pub head : ItemIn i
  pub kind : SignalKind i.kind
  pub error : i.kind ≡ item.Error → i.gives ≡ []
  pub small : words_of_fields i.takes + words_of_fields i.gives ≤ SIGNAL_WORDS

unfoldable pub EachSignalGood : List PlainItem → Type 0
EachSignalGood [] = Unit {0}
EachSignalGood (i ∷ is) = SignalGood i × EachSignalGood is

-- what the module gives under a number for an item of this kind
unfoldable pub GivesItem : World → ItemKind → ℕ → Item → Type 0
GivesItem W item.Procedure n i = (k : ℕ) × (n ≡ suc k) × (slice_get W.procedures k ≡ Some i)
GivesItem W item.Signal n i = (slice_get W.signals n ≡ Some i) × (i.kind ≡ item.Signal)
GivesItem W item.Error n i = (slice_get W.signals n ≡ Some i) × (i.kind ≡ item.Error)

unfoldable pub EachOffer : World → List Offer → Type 0
EachOffer W [] = Unit {0}
EachOffer W (o ∷ os) = GivesItem W (o.item).kind o.number (item_of o.item) × EachOffer W os

unfoldable pub StatedIn : World → Spot → Stated → Type 0
StatedIn W p (DataHead h) = HeadedIn W p true h
StatedIn W p (ProcedureHead i scope words) = ProcedureGood W i scope
StatedIn W p SignalHead = Unit {0}

pub record DeclaredIn (W : World) (p : Spot) (x : Declared) : Type 0 where
  pub head : StatedIn W p x.head
  pub signals : EachSignalGood x.signals
  pub offers : EachOffer W x.offers

unfoldable pub AllDeclaredIn : World → Spot → List Declared → Type 0
AllDeclaredIn W p [] = Unit {0}
AllDeclaredIn W p (x ∷ xs) = DeclaredIn W p x × AllDeclaredIn W p xs

-- a rule whose premise is on what it gives
pub record Heads {A : Type 0} (W : World) (Pre : A → Type 0) (Post : A → Type 0) (p : Check A) : Type 0 where
  pub by : (s : State) → IfOk (p s) (λ r. Step W true (Pre r.0) (λ x i j. Post x) s r)

module _ (W : World) where
  abbrev pub HeadStep : {A : Type 0} → (A → Type 0) → (A → Type 0) → State → A × State → Type 0
  HeadStep Pre Post s r = Step W true (Pre r.0) (λ x i j. Post x) s r

  abbrev Measured : {A : Type 0} → (A → Type 0) → (A → Type 0) → State → (A × ℕ) × State → Type 0
  Measured Pre Q s r = HeadStep Pre Q s (r.0.0, r.1)

  pub bind_heads : {A B : Type 0} {Base : Type 0} {P : A → ℕ → ℕ → Type 0} {H Q : B → Type 0} {p : Check A} {f : A → Check B}
      → Rule W true Base P p → ((x : A) (i j : ℕ) → Heads W (λ y. (Base × P x i j) × H y) Q (f x)) → Heads W (λ y. Base × H y) Q (p >>= f)
  bind_heads {A} {B} {Base} {P} {H} {Q} {p} {f} one next = record {
    by = λ s. if_ok (p s) (λ r. f r.0 r.1) (Step W true Base P s) (HeadStep (λ y. Base × H y) Q s) (one.by s) (λ r st.
        weaker (f r.0 r.1) (HeadStep (λ y. (Base × P r.0 st.spent st.hid) × H y) Q r.1) (HeadStep (λ y. Base × H y) Q s)
        (λ u su. record {
          spent = st.spent + su.spent;
          hid = st.hid + su.hid;
          spends = omega (arith, su.spends, st.spends);
          hides = omega (arith, su.hides, st.hides);
          under = su.under ∙ st.under;
          back = λ w. st.back (su.back w);
          limit = λ l. su.limit (st.limit l);
          rows = su.rows ∙ st.rows;
          keeps = λ pre w names. su.keeps ((pre.0, st.gives pre.0 (su.back w) names), pre.1) w (st.keeps pre.0 (su.back w) names);
          gives = λ pre w names. su.gives ((pre.0, st.gives pre.0 (su.back w) names), pre.1) w (st.keeps pre.0 (su.back w) names);
        })
        ((next r.0 st.spent st.hid).by r.1));
  }

  pub pure_heads : {B : Type 0} {Base : Type 0} {H Q : B → Type 0} (v : B) → (Base → H v → Q v) → Heads W (λ y. Base × H y) Q (pure v)
  pure_heads {B} {Base} {H} {Q} v h = record { by = λ s. unmoved W true (Base × H v) (λ x i j. Q x) s v (λ pre names w. h pre.0 pre.1) }

  -- what is given is known before
  pub known_heads : {A B : Type 0} {Base : Type 0} {H Q : B → Type 0} {p : Check A} (v : B) → Rule W true (Base × H v) (λ x i j. Unit {0}) p
      → (Base → H v → Q v)
      → Heads W (λ y. Base × H y) Q (p >>= (λ x. pure v))
  known_heads {A} {B} {Base} {H} {Q} {p} v one h = record {
    by = λ s. if_ok (p s) (λ r. Ok (v, r.1)) (Step W true (Base × H v) (λ x i j. Unit {0}) s) (HeadStep (λ y. Base × H y) Q s) (one.by s) (λ r st. record {
      spent = st.spent;
      hid = st.hid;
      spends = st.spends;
      hides = st.hides;
      under = st.under;
      back = st.back;
      limit = st.limit;
      rows = st.rows;
      keeps = st.keeps;
      gives = λ pre w names. h pre.0 pre.1;
    });
  }

  pub less_heads : {A : Type 0} {Pre Pre' Q : A → Type 0} {p : Check A} → ((x : A) → Pre x → Pre' x) → Heads W Pre' Q p → Heads W Pre Q p
  less_heads {A} {Pre} {Pre'} {Q} {p} h one = record {
    by = λ s. weaker (p s) (HeadStep Pre' Q s) (HeadStep Pre Q s) (λ r st. record {
      spent = st.spent;
      hid = st.hid;
      spends = st.spends;
      hides = st.hides;
      under = st.under;
      back = st.back;
      limit = st.limit;
      rows = st.rows;
      keeps = λ pre. st.keeps (h r.0 pre);
      gives = λ pre. st.gives (h r.0 pre);
    }) (one.by s);
  }

  pub limited_heads : {A : Type 0} {Pre Q : A → Type 0} {p : Check A} (before : ℕ) (place : Place) → Heads W Pre Q p
      → Heads W Pre Q (within_operands before place p)
  limited_heads {A} {Pre} {Q} {p} before place one = record {
    by = λ s.
        let blank : State = record s { operands = 0 } in
        if_ok (measured p s) _ (Measured Pre Q s) (HeadStep Pre Q s)
        (if_ok {B = (A × ℕ) × State} (p blank) (λ r. Ok ((r.0, (r.1).operands), record r.1 { operands = s.operands })) (HeadStep Pre Q blank)
        (Measured Pre Q s) (one.by blank) (λ r st. around s r st))
        (λ r st. by s r st (nat_le (before + r.0.1) 16384) FrameTooLarge);
  }
    where
      around : (s : State) (r : A × State) → HeadStep Pre Q (record s { operands = 0 }) r
          → Measured Pre Q s ((r.0, (r.1).operands), record r.1 { operands = s.operands })
      around s r st = record {
        spent = 0;
        hid = st.hid;
        spends = omega arith;
        hides = st.hides;
        under = st.under;
        limit = st.limit;
        rows = st.rows;
        back = λ w. let v = st.back (record
            { more_globals = w.more_globals; globals = w.globals; more_locals = w.more_locals; locals = w.locals; used = w.used }) in
            record { more_globals = v.more_globals; globals = v.globals; more_locals = v.more_locals; locals = v.locals; used = v.used };
        keeps = λ pre w names. let v = st.keeps pre (record
            { more_globals = w.more_globals; globals = w.globals; more_locals = w.more_locals; locals = w.locals; used = w.used })
            (record { scopes = names.scopes; coming = names.coming; rows = names.rows; globals = names.globals; variables = names.variables }) in
            record { scopes = v.scopes; coming = v.coming; rows = v.rows; globals = v.globals; variables = v.variables };
        gives = λ pre w names. st.gives pre (record
            { more_globals = w.more_globals; globals = w.globals; more_locals = w.more_locals; locals = w.locals; used = w.used })
            (record { scopes = names.scopes; coming = names.coming; rows = names.rows; globals = names.globals; variables = names.variables });
      }

      by : (s : State) (r : (A × ℕ) × State) → Measured Pre Q s r → (b : Bool) (cause : Cause)
          → IfOk (and_then {A = Unit {0} × State} (and_then (only b cause place) (λ a. Ok (a, r.1))) (λ u. Ok (r.0.0, u.1))) (HeadStep Pre Q s)
      by s r st true cause = st
      by s r st false cause = tt

  pub before_heads : {D A : Type 0} {Pre Q : A → Type 0} (names : D → List Identifier) (rule : Around → D → Check A) (a : Around) (d : D) (ds : List D)
      → Heads W Pre Q (rule a d)
      → Heads W Pre Q (before_others names rule a d ds)
  before_heads {D} {A} {Pre} {Q} names rule a d ds h = record { by = λ s. told_in (HeadStep Pre Q s) (rule a d s) _ (h.by s) }

  -- ---- procedures
  each_means : (xs : List Identifier) (a : Meaning) → MeaningIn W true a → MeaningsIn W true (map (λ x. a) xs)
  unfolding MeaningsIn
  each_means [] a h = tt
  each_means (x ∷ xs) a h = (h, each_means xs a h)

  first_good : (h : Heading) (xs : List Identifier) → HeadingIn W h → ProcedureGood W (first_item h xs) h.scope
  first_good h [] k = record { head = record { takes = k.takes; gives = k.gives }; kind = refl; names = k.scope }
  first_good h (x ∷ xs) k = record { head = record { takes = k.takes; gives = k.gives }; kind = refl; names = k.scope }

  no_offers : (access : Option Access) (os : List Offer) → EachOffer W os → EachOffer W (if_public access os)
  unfolding EachOffer
  no_offers access os h = by (is_public access)
    where
      by : (b : Bool) → EachOffer W (if b then os else [])
      by true = h
      by false = tt

  procedure_offers : (n : ℕ) (i : PlainItem) (xs : List Identifier) → i.kind ≡ item.Procedure → ((k : ℕ) × (n ≡ suc k) × (slice_get W.procedures k ≡ Some
      (item_of i))) → EachOffer W (map (procedure_offer n i) xs)
  unfolding EachOffer GivesItem
  procedure_offers n i [] e h = tt
  procedure_offers n i (x ∷ xs) e h = (subst (λ k. GivesItem W k n (item_of i)) (sym e) (here h), procedure_offers n i xs e h)
    where
      here : ((k : ℕ) × (n ≡ suc k) × (slice_get W.procedures k ≡ Some (item_of i))) → GivesItem W item.Procedure n (item_of i)
      here h = h

  procedure_declared : (p : Spot) (xs : List Identifier) (access : Option Access) (n ns : ℕ) (h : Heading × ℕ)
      → Heads W (λ y. HeadingIn W h.0 × DeclaredAt W n ns y) (DeclaredIn W p) (declared_procedure xs access n h)
  unfolding DeclaredAt ProcedureAt StatedIn EachSignalGood MeaningIn
  procedure_declared p xs access n ns h =
      let i = first_item h.0 xs in
      known_heads {H = DeclaredAt W n ns} {Q = DeclaredIn W p} (record {
        head = ProcedureHead i (h.0).scope h.1;
        procedures = 1;
        signals = [];
        offers = if_public access (map (procedure_offer n i) xs);
      }) (settled W true xs (map (λ x. m.Procedure (t.OwnProcedure n) i) xs) (λ pre. each_means xs (m.Procedure (t.OwnProcedure n) i)
      ((first_good h.0 xs pre.0).head, pre.1.0.0, pre.1.0.1, pre.1.0.2)))
      (λ base at. record {
        head = first_good h.0 xs base;
        signals = tt;
        offers = no_offers access (map (procedure_offer n i) xs) (procedure_offers n i xs (first_good h.0 xs base).kind at.0);
      })

  -- ---- signals
  signal_names : (n : ℕ) (is : List PlainItem) → EachSignalGood is → SignalsAt W n is → MeaningsIn W true (signal_meanings n is)
  unfolding MeaningsIn signal_meanings EachSignalGood SignalsAt MeaningIn
  signal_names n [] h a = tt
  signal_names n (i ∷ is) h a = (((h.0).head, (h.0).kind, a.0), signal_names (n + 1) is h.1 a.1)

  gives_signal : (k : ItemKind) (n : ℕ) (i : Item) → i.kind ≡ k → SignalKind k → slice_get W.signals n ≡ Some i → GivesItem W k n i
  unfolding GivesItem SignalKind
  gives_signal item.Signal n i e h d = (d, e)
  gives_signal item.Error n i e h d = (d, e)
  gives_signal item.Procedure n i e h d = absurd h

  signals_offered : (n : ℕ) (xs : List Identifier) (is : List PlainItem) → EachSignalGood is → SignalsAt W n is → EachOffer W (signal_offers n xs is)
  unfolding signal_offers EachSignalGood SignalsAt EachOffer
  signals_offered n [] is h a = tt
  signals_offered n (x ∷ xs) [] h a = tt
  signals_offered n (x ∷ xs) (i ∷ is) h a = (gives_signal i.kind n (item_of i) refl (h.0).kind a.0, signals_offered (n + 1) xs is h.1 a.1)

  each_good : (kind : ItemKind) (h : Heading) (xs : List Identifier) → HeadingIn W h → SignalKind kind → (kind ≡ item.Error → h.gives ≡ [])
      → words_of_fields h.takes + words_of_fields h.gives ≤ SIGNAL_WORDS
      → EachSignalGood (map (named_item kind h) xs)
  unfolding EachSignalGood
  each_good kind h [] k s e l = tt
  each_good kind h (x ∷ xs) k s e l =
      (record { head = record { takes = k.takes; gives = k.gives }; kind = s; error = e; small = l }, each_good kind h xs k s e l)

  signals_declared : {X : Type 0} (p : Spot) (kind : ItemKind) (xs : List Identifier) (access : Option Access) (np n : ℕ) (h : Heading) → SignalKind kind
      → (HeadingIn W h × X → kind ≡ item.Error → h.gives ≡ [])
      → Heads W (λ y. (HeadingIn W h × X) × DeclaredAt W np n y) (DeclaredIn W p) (declared_signals kind xs access n h)
  unfolding DeclaredAt StatedIn
  signals_declared {X} p kind xs access np n h s e =
      let is = map (named_item kind h) xs in
      bind_heads (tested W true (nat_le (words_of_fields h.takes + words_of_fields h.gives) SIGNAL_WORDS) _ (first_name xs)) (λ u i j.
      known_heads {H = DeclaredAt W np n} {Q = DeclaredIn W p} (record {
        head = SignalHead;
        procedures = 0;
        signals = is;
        offers = if_public access (signal_offers n xs is);
      }) (settled W true xs (signal_meanings n is) (λ pre. signal_names n is (good pre.0) pre.1.1))
      (λ base at. record {
        head = tt;
        signals = good base;
        offers = no_offers access (signal_offers n xs is) (signals_offered n xs is (good base) at.1);
      }))
    where
      good : (HeadingIn W h × X) × (nat_le (words_of_fields h.takes + words_of_fields h.gives) SIGNAL_WORDS ≡ true)
          → EachSignalGood (map (named_item kind h) xs)
      good b = each_good kind h xs b.0.0 s (e b.0) (leb-true (words_of_fields h.takes + words_of_fields h.gives) SIGNAL_WORDS b.1)

  -- ---- a declaration
  abbrev Base : Spot → Around → List Identifier → s.Declared → Type 0
  Base p a xs d = AroundIn W true p a × (xs ≢ []) × DeclaredWritten d

  no_error : item.Signal ≡ item.Error → ⊥
  no_error e = cc

  pub declared_in : (p : Spot) (a : Around) → a.is_outermost ≡ true → (np ns : ℕ) (xs : List Identifier) (access : Option Access) (d : s.Declared)
      → Heads W (λ y. Base p a xs d × DeclaredAt W np ns y) (DeclaredIn W p) (declared a np ns xs access d)
  unfolding declared DeclaredAt DeclaredWritten HeadWritten ProcedureAt SignalsAt StatedIn EachSignalGood EachOffer SignalKind MaybeFieldsWritten
  declared_in p a o np ns xs access (s.Data d) =
      bind_heads (under W true (λ pre. pre) ((item_checks W d).head true p a xs (λ e. no_truth (sym e ∙ o)))) (λ h i j.
      pure_heads {H = DeclaredAt W np ns} {Q = DeclaredIn W p} (record { head = DataHead h; procedures = 0; signals = []; offers = [] })
      (λ base at. record { head = base.1; signals = tt; offers = tt }))
  declared_in p a o np ns xs access (s.Procedure h b) =
      bind_heads (announced W true xs) (λ u i j.
      bind_heads (apart W true (under W true (λ pre. (pre.0.0, pre.0.2.0.0, pre.0.2.0.1)) (heading_in W h.takes h.gives p a))) (λ x k l.
      less_heads (λ y pre. (pre.0.1.0, pre.1)) (procedure_declared p xs access np ns x)))
  declared_in p a o np ns xs access (s.Signal h) = limited_heads 0 (first_name xs)
      (bind_heads (announced W true xs) (λ u i j.
      bind_heads (under W true (λ pre. (pre.0.0, pre.0.2.0, pre.0.2.1)) (heading_in W h.takes h.gives p a)) (λ x k l.
      less_heads (λ y pre. (pre.0.1, pre.1)) (signals_declared p item.Signal xs access np ns x tt (λ b e. absurd (no_error e))))))
  declared_in p a o np ns xs access (s.Error takes) = limited_heads 0 (first_name xs)
      (bind_heads (announced W true xs) (λ u i j.
      bind_heads (under W true (λ pre. (pre.0.0, pre.0.2, tt)) (heading_in W takes None p a)) (λ x k l.
      less_heads (λ y pre. (pre.0.1, pre.1)) (signals_declared p item.Error xs access np ns x tt (λ b e. b.1 refl)))))

  pub all_declared_in : (p : Spot) (a : Around) → a.is_outermost ≡ true → (np ns : ℕ) (ds : List s.Declaration)
      → Heads W (λ y. (AroundIn W true p a × All DeclarationWritten ds) × AllDeclaredAt W np ns y) (AllDeclaredIn W p) (all_declared a np ns ds)
  unfolding all_declared AllDeclaredAt AllDeclaredIn DeclarationWritten
  all_declared_in p a o np ns [] = pure_heads {H = AllDeclaredAt W np ns} {Q = AllDeclaredIn W p} [] (λ base at. tt)
  all_declared_in p a o np ns (d ∷ ds) = record {
    by = λ now.
        let first = before_others (λ (e : s.Declaration). e.names) (declaration np ns) a d ds in
        let one : Heads W (λ y. Base p a d.names d.declared × DeclaredAt W np ns y) (DeclaredIn W p) first = before_heads
        (λ (e : s.Declaration). e.names) (declaration np ns) a d ds (declared_in p a o np ns d.names d.access d.declared) in
        let Goal = HeadStep (λ y. (AroundIn W true p a × All DeclarationWritten (d ∷ ds)) × AllDeclaredAt W np ns y) (AllDeclaredIn W p) now in
        if_ok (first now) _ (HeadStep (λ y. Base p a d.names d.declared × DeclaredAt W np ns y) (DeclaredIn W p) now) Goal (one.by now) (λ r st.
        if_ok (all_declared a (np + (r.0).procedures) (ns + length (r.0).signals) ds r.1) (λ u. Ok (r.0 ∷ u.0, u.1))
        (HeadStep (λ y. (AroundIn W true p a × All DeclarationWritten ds) × AllDeclaredAt W (np + (r.0).procedures) (ns + length (r.0).signals) y)
        (AllDeclaredIn W p) r.1) Goal
        ((all_declared_in p a o (np + (r.0).procedures) (ns + length (r.0).signals) ds).by r.1) (λ u su. record {
          spent = st.spent + su.spent;
          hid = st.hid + su.hid;
          spends = omega (arith, su.spends, st.spends);
          hides = omega (arith, su.hides, st.hides);
          under = su.under ∙ st.under;
          back = λ w. st.back (su.back w);
          limit = λ l. su.limit (st.limit l);
          rows = su.rows ∙ st.rows;
          keeps = λ pre w names. su.keeps (of_rest pre.0, pre.1.1) w (st.keeps (of_first pre.0, pre.1.0) (su.back w) names);
          gives = λ pre w names. (
            st.gives (of_first pre.0, pre.1.0) (su.back w) names,
            su.gives (of_rest pre.0, pre.1.1) w (st.keeps (of_first pre.0, pre.1.0) (su.back w) names),
          );
        }));
  }
    where
      of_first : AroundIn W true p a × All DeclarationWritten (d ∷ ds) → Base p a d.names d.declared
      of_first b = let h = All-head DeclarationWritten d ds b.1 in (b.0, h.0, h.1)

      of_rest : AroundIn W true p a × All DeclarationWritten (d ∷ ds) → AroundIn W true p a × All DeclarationWritten ds
      of_rest b = (b.0, All-tail DeclarationWritten d ds b.1)
