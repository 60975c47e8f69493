-- What names mean: it is there in the module, and an item of an import that is named is used.
use Rattle.std.proofs.Common.{◌≡◌, ℕ, zero, suc, List, [], ◌∷◌, length, refl, sym, ◌∙◌, ap, arith, inl, inr}
use Rattle.std.specs.Prelude.{◌≢◌, Bool, true, false, Option, Some, None, Ok, IfOk, slice_get, slice_set, map}
use Rattle.std.specs.Option.{option_or}
use Rattle.mesa_base.specs.declared.place.Place.{Place}
use Rattle.check_rules.specs.declared.fault.Cause.{Cause}
use Rattle.mesa_base.specs.declared.identifier.Identifier.{Identifier}
use Rattle.mesa_types.specs.declared.faces.Item.{Item}
use Rattle.syntax_trees.specs.declared.syntax.QualifiedName.{QualifiedName}
use Rattle.syntax_trees.specs.declared.syntax.TypeBase.{TypeBase}
use Rattle.syntax_trees.specs.declared.syntax.TypeBase.TheVariants.{Unsaid, OfInteger, OfCardinal, OfCharacter, OfName}
use Rattle.syntax_trees.specs.declared.syntax.Labels.{Labels}
use Rattle.syntax_trees.specs.declared.syntax.Labels.TheVariants.{Any, Unwind, Signals}
use Rattle.mesa_types.specs.Links.{imported, IsUsed}
use Rattle.check_rules.specs.Typed as t
use Rattle.interface_records.specs.PlainTypes as v
use Rattle.interface_records.specs.PlainTypes.{PlainType, PlainItem, base_of, item_of, is_ordinal}
use Rattle.check_rules.specs.Scopes.{Scope, find}
use Rattle.check_rules.specs.Meanings.{Meaning}
use Rattle.check_rules.specs.Meanings as m
use Rattle.check_rules.specs.Steps.{State, and_then, only}
use Rattle.check_rules.specs.Around.{Around, ArmLabel, ForAny, ForUnwind}
use Rattle.check_rules.specs.Names.{or_empty, use_item, mark, before_head, seen, named, or_nothing, of_interface, in_meaning, by_parts, qualified, type_by, type_named, ordinal_type, word_base, signal_by, signals, arm_labels}
use Rattle.check_rules.specs.Parts.{last_of}
use Rattle.check_rules.specs.Written.{LabelsWritten}
use Rattle.check_rules.proofs.SoundTypes.{TypeIn, none_is_no}
use Rattle.typing_laws.proofs.SoundSteps.{World, Spot, MeaningIn, ScopeIn, ScopesIn, mark_at, Names, Step, Rule, bind, so, given, plainly, ended, unmoved}
use Rattle.typing_laws.proofs.SoundnessStatements.{SeenIn, UsedIn, LabelIn, IsForSignal, EachSignal, EachLabelIn, LabelsIn, AroundIn}

-- ---- marks

row_stays : (r : List Bool) (n j : ℕ) → slice_get r j ≡ Some true → slice_get (slice_set r n true) j ≡ Some true
row_stays [] n j e = e
row_stays (b ∷ bs) zero zero e = refl
row_stays (b ∷ bs) zero (suc j) e = e
row_stays (b ∷ bs) (suc n) zero e = e
row_stays (b ∷ bs) (suc n) (suc j) e = row_stays bs n j e

mark_stays : (used : List (List Bool)) (k n i j : ℕ) → mark_at used i j ≡ Some true
    → mark_at (slice_set used k (slice_set (or_empty [] (slice_get used k)) n true)) i j ≡ Some true
mark_stays [] k n i j e = e
mark_stays (r ∷ rs) zero n zero j e = row_stays r n j e
mark_stays (r ∷ rs) zero n (suc i) j e = e
mark_stays (r ∷ rs) (suc k) n zero j e = e
mark_stays (r ∷ rs) (suc k) n (suc i) j e = mark_stays rs k n i j e

abbrev HasMark : List (List Bool) → ℕ → ℕ → Type 0
HasMark used i j = (b : Bool) × (mark_at used i j ≡ Some b)

row_keeps : (r : List Bool) (n j : ℕ) (b : Bool) → slice_get r j ≡ Some b → (c : Bool) × (slice_get (slice_set r n true) j ≡ Some c)
row_keeps [] n j b e = (b, e)
row_keeps (c ∷ bs) zero zero b e = (true, refl)
row_keeps (c ∷ bs) zero (suc j) b e = (b, e)
row_keeps (c ∷ bs) (suc n) zero b e = (b, e)
row_keeps (c ∷ bs) (suc n) (suc j) b e = row_keeps bs n j b e

mark_keeps : (used : List (List Bool)) (k n i j : ℕ) → HasMark used i j → HasMark
    (slice_set used k (slice_set (or_empty [] (slice_get used k)) n true)) i j
mark_keeps [] k n i j h = h
mark_keeps (r ∷ rs) zero n zero j h = row_keeps r n j h.0 h.1
mark_keeps (r ∷ rs) zero n (suc i) j h = h
mark_keeps (r ∷ rs) (suc k) n zero j h = h
mark_keeps (r ∷ rs) (suc k) n (suc i) j h = mark_keeps rs k n i j h

row_marked : (r : List Bool) (n : ℕ) (b : Bool) → slice_get r n ≡ Some b → slice_get (slice_set r n true) n ≡ Some true
row_marked [] n b e = none_is_no b e
row_marked (c ∷ bs) zero b e = refl
row_marked (c ∷ bs) (suc n) b e = row_marked bs n b e

is_marked : (used : List (List Bool)) (k n : ℕ) → HasMark used k n → mark_at (slice_set used k (slice_set (or_empty [] (slice_get used k)) n true)) k
    n ≡ Some
    true
is_marked [] k n h = none_is_no h.0 h.1
is_marked (r ∷ rs) zero n h = row_marked r n h.0 h.1
is_marked (r ∷ rs) (suc k) n h = is_marked rs k n h

mark_rows : (used : List (List Bool)) (k n : ℕ) → map length (slice_set used k (slice_set (or_empty [] (slice_get used k)) n true)) ≡ map length used
mark_rows [] k n = refl
mark_rows (r ∷ rs) zero n = ap (λ x. x ∷ map length rs) (row_length r n)
  where
    row_length : (r : List Bool) (n : ℕ) → length (slice_set r n true) ≡ length r
    row_length [] n = refl
    row_length (b ∷ bs) zero = refl
    row_length (b ∷ bs) (suc n) = ap suc (row_length bs n)
mark_rows (r ∷ rs) (suc k) n = ap (λ x. length r ∷ x) (mark_rows rs k n)

-- ---- look-ups

pub found_in : (W : World) (flat : Bool) (x : List ℕ) (scopes : List (Scope Meaning)) (a : Meaning) → ScopesIn W flat scopes → find x scopes ≡ Some a
    → MeaningIn W flat a
unfolding ScopesIn ScopeIn
found_in W flat x [] a h e = none_is_no a e
found_in W flat x (scope ∷ scopes) a h e = by (scope x) refl e (found_in W flat x scopes a h.1)
  where
    by : (o : Option Meaning) → scope x ≡ o → option_or o (find x scopes) ≡ Some a → (find x scopes ≡ Some a → MeaningIn W flat a) → MeaningIn W flat a
    by (Some b) d e rest = h.0 x a (d ∙ e)
    by None d e rest = rest e

-- the type whose values an interval is of, where a word or a name says it
unfoldable pub BaseIn : Option PlainType → Type 0
BaseIn None = Unit {0}
BaseIn (Some k) = TypeIn k × (is_ordinal k ≡ true)

module _ (W : World) (flat : Bool) where
  -- an item of an import is marked
  pub marks : {A : Type 0} {Pre : Type 0} {Q : A → ℕ → ℕ → Type 0} (a : A) (k n : ℕ) (i : Item) (s : State)
      → (Pre → Names W flat s → imported W.imports k n ≡ Some i)
      → (Pre → Names W flat s → IsUsed W.imports k n → Q a 0 0) → Step W flat Pre Q s (a, use_item k n s)
  marks a k n i s h g = record {
    spent = 0;
    hid = 0;
    spends = omega arith;
    hides = omega arith;
    under = refl;
    limit = λ l. l;
    rows = mark_rows s.used k n;
    back = λ w. record {
      more_globals = w.more_globals;
      globals = w.globals;
      more_locals = w.more_locals;
      locals = w.locals;
      used = λ x y e. w.used x y (mark_stays s.used k n x y e);
    };
    keeps = λ pre w names. record {
      scopes = names.scopes;
      coming = names.coming;
      rows = λ x y j e. mark_keeps s.used k n x y (names.rows x y j e);
      globals = names.globals;
      variables = names.variables;
    };
    gives = λ pre w names. g pre names (w.used k n (is_marked s.used k n (names.rows k n i (h pre names))));
  }

  pub sees_name : {Pre : Type 0} (a : Around) (q : Identifier) (o : Option Meaning) (s : State) → (Pre → a.further q.name ≡ None)
      → (Pre → Names W flat s → (x : Meaning) → o ≡ Some x → MeaningIn W flat x)
      → IfOk (seen a q o s) (Step W flat Pre (λ x m n. SeenIn W flat x) s)
  unfolding seen mark MeaningIn UsedIn
  sees_name a q None s f h = tt
  sees_name a q (Some m.Later) s f h = tt
  sees_name a q (Some m.NotImported) s f h = tt
  sees_name {Pre} a q (Some m.Headless) s f h = by a.constant (a.further q.name) f
    where
      by : (c : Option Place) (o : Option Meaning) → (Pre → o ≡ None) → IfOk (before_head c q.place o s) (Step W flat Pre (λ x m n. SeenIn W flat x) s)
      by c (Some x) f = unmoved W flat Pre (λ x m n. SeenIn W flat x) s x (λ pre names w. none_is_no x (sym (f pre)))
      by (Some start) None f = tt
      by None None f = tt
  sees_name {Pre} a q (Some (m.Variable v k)) s f h = unmoved W flat Pre _ s (m.Variable v k)
      (λ pre names w. record { there = h pre names (m.Variable v k) refl; used = tt })
  sees_name {Pre} a q (Some (m.Constant k n)) s f h = unmoved W flat Pre _ s (m.Constant k n)
      (λ pre names w. record { there = h pre names (m.Constant k n) refl; used = tt })
  sees_name {Pre} a q (Some (m.TextConstant n)) s f h = unmoved W flat Pre _ s (m.TextConstant n)
      (λ pre names w. record { there = h pre names (m.TextConstant n) refl; used = tt })
  sees_name {Pre} a q (Some (m.TypeName k)) s f h = unmoved W flat Pre _ s (m.TypeName k)
      (λ pre names w. record { there = h pre names (m.TypeName k) refl; used = tt })
  sees_name {Pre} a q (Some (m.Interface n)) s f h = unmoved W flat Pre _ s (m.Interface n)
      (λ pre names w. record { there = h pre names (m.Interface n) refl; used = tt })
  sees_name {Pre} a q (Some (m.Procedure (t.OwnProcedure n) i)) s f h = unmoved W flat Pre _ s (m.Procedure (t.OwnProcedure n) i)
      (λ pre names w. record { there = h pre names _ refl; used = tt })
  sees_name {Pre} a q (Some (m.Procedure (t.LinkedProcedure k n) i)) s f h =
      marks (m.Procedure (t.LinkedProcedure k n) i) k n (item_of i) s (λ pre names. (h pre names _ refl).2)
      (λ pre names u. record { there = h pre names _ refl; used = u })
  sees_name {Pre} a q (Some (m.Signal (t.OwnSignal n) i)) s f h = unmoved W flat Pre _ s (m.Signal (t.OwnSignal n) i)
      (λ pre names w. record { there = h pre names _ refl; used = tt })
  sees_name {Pre} a q (Some (m.Signal (t.LinkedSignal k n) i)) s f h =
      marks (m.Signal (t.LinkedSignal k n) i) k n (item_of i) s (λ pre names. (h pre names _ refl).2)
      (λ pre names u. record { there = h pre names _ refl; used = u })
  sees_name {Pre} a q (Some (m.Signal t.TheBoundsFault i)) s f h = unmoved W flat Pre _ s (m.Signal t.TheBoundsFault i)
      (λ pre names w. record { there = h pre names _ refl; used = tt })
  sees_name {Pre} a q (Some (m.Signal t.TheZeroDivisor i)) s f h = unmoved W flat Pre _ s (m.Signal t.TheZeroDivisor i)
      (λ pre names w. record { there = h pre names _ refl; used = tt })
  sees_name {Pre} a q (Some (m.Signal t.TheUnnamed i)) s f h = unmoved W flat Pre _ s (m.Signal t.TheUnnamed i)
      (λ pre names w. record { there = h pre names _ refl; used = tt })

  pub name_is_seen : {Pre : Type 0} {p : Spot} (a : Around) (x : Identifier) → (Pre → AroundIn W flat p a)
      → Rule W flat Pre (λ y m n. SeenIn W flat y) (named a x)
  unfolding named
  name_is_seen a x h = record {
    by = λ s. sees_name a x (find x.name s.scopes) s (λ pre. (h pre).further x.name)
        (λ pre names y e. found_in W flat x.name s.scopes y names.scopes e);
  }

  in_scopes : (o : Option (Scope Meaning)) (x : List ℕ) (y : Meaning) → ((scope : Scope Meaning) → o ≡ Some scope → ScopeIn W flat scope)
      → or_nothing o x ≡ Some y → MeaningIn W flat y
  unfolding ScopeIn
  in_scopes (Some scope) x y h e = h scope refl x y e
  in_scopes None x y h e = none_is_no y e

  pub interface_is_seen : {Pre : Type 0} {p : Spot} (a : Around) (n : ℕ) (x : Identifier) → (Pre → AroundIn W flat p a)
      → Rule W flat Pre (λ y m n. SeenIn W flat y) (of_interface a n x)
  unfolding of_interface
  interface_is_seen a n x h = record {
    by = λ s. sees_name a x (or_nothing (slice_get a.known.interfaces n) x.name) s (λ pre. (h pre).further x.name)
        (λ pre names y e.
        in_scopes (slice_get a.known.interfaces n) x.name y ((h pre).interfaces n) e);
  }

  meaning_is_seen : {Pre : Type 0} {p : Spot} (a : Around) (o : Option Meaning) (x : Identifier) (s : State) → (Pre → AroundIn W flat p a)
      → IfOk (in_meaning a o x s) (Step W flat Pre (λ y m n. SeenIn W flat y) s)
  meaning_is_seen a None x s h = tt
  meaning_is_seen a (Some m.Later) x s h = tt
  meaning_is_seen a (Some (m.Interface n)) x s h = (interface_is_seen a n x h).by s
  meaning_is_seen a (Some (m.Variable v k)) x s h = tt
  meaning_is_seen a (Some (m.Constant k n)) x s h = tt
  meaning_is_seen a (Some (m.TextConstant n)) x s h = tt
  meaning_is_seen a (Some (m.TypeName k)) x s h = tt
  meaning_is_seen a (Some (m.Procedure c i)) x s h = tt
  meaning_is_seen a (Some (m.Signal r i)) x s h = tt
  meaning_is_seen a (Some m.Headless) x s h = tt
  meaning_is_seen a (Some m.NotImported) x s h = tt

  parts_are_seen : {Pre : Type 0} {p : Spot} (a : Around) (x : Identifier) (o : Option Identifier) → (Pre → AroundIn W flat p a)
      → Rule W flat Pre (λ y m n. SeenIn W flat y) (by_parts a x o)
  parts_are_seen a x None h = name_is_seen a x h
  parts_are_seen a x (Some y) h = record { by = λ s. meaning_is_seen a (find x.name s.scopes) y s h }

  pub qualified_is_seen : {Pre : Type 0} {p : Spot} (a : Around) (q : QualifiedName) → (Pre → AroundIn W flat p a)
      → Rule W flat Pre (λ y m n. SeenIn W flat y) (qualified a q)
  unfolding qualified
  qualified_is_seen a q h = parts_are_seen a q.first q.second h

  -- ---- types and signals by name

  type_meant : (q : Place) (x : Meaning) → MeaningIn W flat x → IfOk (type_by q x) TypeIn
  unfolding MeaningIn
  type_meant q (m.TypeName k) h = h
  type_meant q (m.Variable v k) h = tt
  type_meant q (m.Constant k n) h = tt
  type_meant q (m.TextConstant n) h = tt
  type_meant q (m.Procedure c i) h = tt
  type_meant q (m.Signal r i) h = tt
  type_meant q (m.Interface n) h = tt
  type_meant q m.Later h = tt
  type_meant q m.Headless h = tt
  type_meant q m.NotImported h = tt

  pub type_is_seen : {Pre : Type 0} {p : Spot} (a : Around) (q : QualifiedName) → (Pre → AroundIn W flat p a)
      → Rule W flat Pre (λ k m n. TypeIn k) (type_named a q)
  unfolding type_named
  type_is_seen a q h = bind W flat (qualified_is_seen a q h) (λ x i j. ended W flat (type_by (last_of q).place x)
      (λ pre. type_meant (last_of q).place x (pre.1).there))

  ordinal_meant : (q : Place) (k : PlainType) → TypeIn k → IfOk (ordinal_type q k) (λ j. TypeIn j × (is_ordinal j ≡ true))
  ordinal_meant q k h = by (is_ordinal k) refl _
    where
      by : (b : Bool) → is_ordinal k ≡ b → (cause : Cause) → IfOk (and_then (only b cause q) (λ _. Ok k)) (λ j. TypeIn j × (is_ordinal j ≡ true))
      by true e cause = (h, e)
      by false e cause = tt

  pub base_is_seen : {Pre : Type 0} {p : Spot} (a : Around) (b : TypeBase) → (Pre → AroundIn W flat p a)
      → Rule W flat Pre (λ k m n. BaseIn k) (word_base a b)
  unfolding word_base BaseIn TypeIn is_ordinal base_of
  base_is_seen a Unsaid h = given W flat None (λ pre. tt)
  base_is_seen a (OfInteger q) h = given W flat (Some v.Integer) (λ pre. (tt, refl))
  base_is_seen a (OfCardinal q) h = given W flat (Some v.Cardinal) (λ pre. (tt, refl))
  base_is_seen a (OfCharacter q) h = given W flat (Some v.Character) (λ pre. (tt, refl))
  base_is_seen a (OfName q) h = bind W flat (type_is_seen a q h) (λ k i j.
      bind W flat (plainly W flat {P = λ j. TypeIn j × (is_ordinal j ≡ true)} (ordinal_type (last_of q).place k) (λ pre. ordinal_meant (last_of q).place k pre.1))
      (λ k i j. given W flat (Some k) (λ pre. pre.1)))

  signal_there : (r : t.Raised) (i : PlainItem) → MeaningIn W flat (m.Signal r i) → MeaningIn W false (m.Signal r i)
  unfolding MeaningIn
  signal_there (t.OwnSignal n) i h = h
  signal_there (t.LinkedSignal k n) i h = h
  signal_there t.TheBoundsFault i h = h
  signal_there t.TheZeroDivisor i h = h
  signal_there t.TheUnnamed i h = h

  -- ---- the labels of an arm

  signal_meant : (q : Place) (x : Meaning) → SeenIn W flat x → IfOk (signal_by q x) (λ l. LabelIn W l × IsForSignal l)
  unfolding LabelIn IsForSignal
  signal_meant q (m.Signal r i) h = (record { there = signal_there r i h.there; used = h.used }, tt)
  signal_meant q (m.TypeName k) h = tt
  signal_meant q (m.Variable v k) h = tt
  signal_meant q (m.Constant k n) h = tt
  signal_meant q (m.TextConstant n) h = tt
  signal_meant q (m.Procedure c i) h = tt
  signal_meant q (m.Interface n) h = tt
  signal_meant q m.Later h = tt
  signal_meant q m.Headless h = tt
  signal_meant q m.NotImported h = tt

  pub record SignalsIn (ls : List ArmLabel) : Type 0 where
    pub signals : EachSignal ls
    pub each : EachLabelIn W ls

  signals_are_seen : {p : Spot} (a : Around) (qs : List QualifiedName) {Pre : Type 0} → (Pre → AroundIn W flat p a)
      → Rule W flat Pre (λ ls m n. SignalsIn ls × (length ls ≡ length qs)) (signals a qs)
  unfolding signals EachSignal EachLabelIn
  signals_are_seen a [] h = given W flat [] (λ pre. (record { signals = tt; each = tt }, refl))
  signals_are_seen a (q ∷ qs) h =
      bind W flat (qualified_is_seen a q h) (λ x i j.
      bind W flat (plainly W flat {P = λ l. LabelIn W l × IsForSignal l} (signal_by (last_of q).place x)
      (λ pre. signal_meant (last_of q).place x pre.1))
      (λ l i j.
      bind W flat (signals_are_seen a qs (λ pre. h pre.0.0)) (λ ls i j.
      given W flat (l ∷ ls) (λ pre. (record { signals = ((pre.0.1).1, (pre.1.0).signals); each = ((pre.0.1).0, (pre.1.0).each) }, ap suc pre.1.1)))))

  some_signals : (qs : List QualifiedName) (ls : List ArmLabel) → qs ≢ [] → SignalsIn ls → length ls ≡ length qs → LabelsIn W ls
  some_signals qs ls some h e = record { form = inr (inr (by qs ls some e, h.signals)); each = h.each }
    where
      by : (qs : List QualifiedName) (ls : List ArmLabel) → qs ≢ [] → length ls ≡ length qs → ls ≢ []
      by [] ls some e d = some refl
      by (q ∷ qs) [] some e d = omega (arith, e)
      by (q ∷ qs) (l ∷ ls) some e d = let no : length (l ∷ ls) ≡ 0 = ap length d in omega (arith, no)

  pub labels_are_seen : {Pre : Type 0} {p : Spot} (a : Around) (ls : Labels) → (Pre → AroundIn W flat p a) → (Pre → LabelsWritten ls)
      → Rule W flat Pre (λ xs m n. LabelsIn W xs) (arm_labels a ls)
  unfolding arm_labels LabelsWritten EachLabelIn LabelIn
  labels_are_seen a (Any q) h w = given W flat (ForAny ∷ []) (λ pre. record { form = inl refl; each = (tt, tt) })
  labels_are_seen a (Unwind q) h w = given W flat (ForUnwind ∷ []) (λ pre. record { form = inr (inl refl); each = (tt, tt) })
  labels_are_seen a (Signals qs) h w = so W flat (λ ls i j pre g. some_signals qs ls (w pre) g.0 g.1) (signals_are_seen a qs h)
