-- What a checked module has besides: its procedures have the heads that its declarations state, in order, and its body has
-- the variables that were declared.
use Rattle.std.proofs.Common.{◌≡◌, ℕ, suc, ◌+◌, List, [], ◌∷◌, ◌++◌, length, refl, sym, ◌∙◌, ap, subst, arith}
use Rattle.std.specs.Prelude.{◌≤◌, Bool, true, false, Option, Some, None, Ok, Err, IfOk, map, nat_le, slice_get}
use Rattle.std.proofs.lemmas.Bool.{leb-true}
use Rattle.mesa_base.specs.declared.place.Place.{Place}
use Rattle.mesa_base.specs.declared.identifier.Identifier.{Identifier}
use Rattle.mesa_base.specs.declared.limits.TheConstants.{LOCAL_WORDS, OPERAND_WORDS, SIGNAL_WORDS}
use Rattle.mesa_types.specs.declared.faces.Item.{Item}
use Rattle.mesa_types.specs.declared.faces.ItemKind.{ItemKind}
use Rattle.mesa_types.specs.declared.faces.ItemKind.TheVariants as item
use Rattle.syntax_trees.specs.declared.syntax.Access.{Access}
use Rattle.syntax_trees.specs.Syntax as s
use Rattle.mesa_types.specs.Shapes.{words_in_all}
use Rattle.check_rules.specs.Typed as t
use Rattle.interface_records.specs.PlainTypes.{PlainItem, item_of, words_of_fields}
use Rattle.check_rules.specs.Scopes.{Scope}
use Rattle.check_rules.specs.Meanings.{Meaning}
use Rattle.check_rules.specs.Meanings as m
use Rattle.check_rules.specs.Names.{announce, settle}
use Rattle.check_rules.specs.Steps.{State, Check, Checked, and_then, ◌>>=◌, pure, only, ensure, in_scope, measured, within_operands}
use Rattle.check_rules.specs.Around.{Around, Known, body_of, with_labels}
use Rattle.check_rules.specs.Parts.{first_name}
use Rattle.check_rules.specs.Statements.{labels_of_exits}
use Rattle.check_rules.specs.Checking.{head, initial, block, phrase, statements, exits}
use Rattle.check_rules.specs.Phrases.{is_catch}
use Rattle.check_rules.specs.declared.fault.Cause.TheVariants.{FrameTooLarge}
use Rattle.check_rules.specs.Programs.{Heading, heading, named_item, first_item, if_public, procedure_offer, signal_offers, signal_meanings, declared_procedure, declared_signals, and_statement, and_procedure, Stated, DataHead, ProcedureHead, SignalHead, Declared, declared, declaration, all_declared, fresh, as_before, frame, procedure, Values, value_of, values_of, signals_of, marked_if, body_block, Whole}
use Rattle.typing_laws.proofs.SoundSteps.{World, if_ok}
use Rattle.typing_laws.proofs.SoundHeads.{told_in}
use Rattle.typing_laws.proofs.SoundDeclarations.{ProcedureAt, SignalsAt, DeclaredAt, AllDeclaredAt}
use Rattle.typing_laws.proofs.SoundWhole.{own_body}

-- whatever the state
pub record Always {A : Type 0} (Q : A → Type 0) (p : Check A) : Type 0 where
  pub by : (s : State) → IfOk (p s) (λ r. Q r.0)

any_before : {A B : Type 0} (r : Checked A) (f : A → Checked B) (Q : B → Type 0) → ((x : A) → IfOk (f x) Q) → IfOk (and_then r f) Q
any_before (Ok x) f Q h = h x
any_before (Err e) f Q h = tt

pub behind_any : {A B : Type 0} {Q : B → Type 0} (p : Check A) {f : A → Check B} → ((x : A) → Always Q (f x)) → Always Q (p >>= f)
behind_any {A} {B} {Q} p {f} h = record { by = λ s. any_before (p s) (λ r. f r.0 r.1) (λ r. Q r.0) (λ r. (h r.0).by r.1) }

pub behind : {A B : Type 0} {P : A → Type 0} {Q : B → Type 0} {p : Check A} {f : A → Check B} → Always P p → ((x : A) → P x → Always Q (f x))
    → Always Q (p >>= f)
behind {A} {B} {P} {Q} {p} {f} one h = record { by = λ s. if_ok (p s) (λ r. f r.0 r.1) (λ r. P r.0) (λ r. Q r.0) (one.by s) (λ r k. (h r.0 k).by r.1) }

pub always : {A : Type 0} {Q : A → Type 0} (x : A) → Q x → Always Q (pure x)
always x h = record { by = λ s. h }

pub within : {A : Type 0} {Q : A → Type 0} {p : Check A} (before : ℕ) (place : Place) → Always Q p → Always Q (within_operands before place p)
within {A} {Q} {p} before place one =
    behind {P = λ r. Q r.0} (record { by = λ s. if_ok (p (record s { operands = 0 })) _ (λ r. Q r.0) (λ r. Q r.0.0) (one.by (record s { operands = 0 })) (λ r h. h) })
    (λ r h. behind_any _ (λ u. always r.0 h))

-- the head of a procedure, if this is one
unfoldable pub stated_item : Stated → List PlainItem
stated_item (ProcedureHead i scope words) = i ∷ []
stated_item (DataHead h) = []
stated_item SignalHead = []

unfoldable pub stated_items : List Declared → List PlainItem
stated_items [] = []
stated_items (x ∷ xs) = stated_item x.head ++ stated_items xs

-- a head is of the form of its declaration
unfoldable pub IsForm : s.Declared → Stated → Type 0
IsForm (s.Procedure h b) (ProcedureHead i scope words) = Unit {0}
IsForm (s.Procedure h b) x = ⊥
IsForm (s.Data d) (DataHead h) = Unit {0}
IsForm (s.Data d) x = ⊥
IsForm (s.Signal h) SignalHead = Unit {0}
IsForm (s.Signal h) x = ⊥
IsForm (s.Error takes) SignalHead = Unit {0}
IsForm (s.Error takes) x = ⊥

pub record Formed (d : s.Declared) (x : Declared) : Type 0 where
  pub form : IsForm d x.head
  pub count : x.procedures ≡ length (stated_item x.head)

unfoldable pub AllFormed : List s.Declaration → List Declared → Type 0
AllFormed [] [] = Unit {0}
AllFormed (d ∷ ds) (x ∷ xs) = Formed d.declared x × AllFormed ds xs
AllFormed _ _ = ⊥

procedure_formed : (hd : s.Head) (b : s.Block) (xs : List Identifier) (access : Option Access) (n : ℕ) (h : Heading × ℕ)
    → Always (Formed (s.Procedure hd b)) (declared_procedure xs access n h)
unfolding IsForm stated_item
procedure_formed hd b xs access n h =
    let i = first_item h.0 xs in
    behind_any (settle xs (map (λ x. m.Procedure (t.OwnProcedure n) i) xs)) (λ u. always (record {
      head = ProcedureHead i (h.0).scope h.1;
      procedures = 1;
      signals = [];
      offers = if_public access (map (procedure_offer n i) xs);
    }) (record { form = tt; count = refl }))

signals_formed : (d : s.Declared) (kind : ItemKind) (xs : List Identifier) (access : Option Access) (n : ℕ) (h : Heading) → IsForm d SignalHead
    → Always (Formed d) (declared_signals kind xs access n h)
unfolding stated_item
signals_formed d kind xs access n h k =
    let is = map (named_item kind h) xs in
    behind_any (ensure (nat_le (words_of_fields h.takes + words_of_fields h.gives) SIGNAL_WORDS) FrameTooLarge (first_name xs)) (λ w.
    behind_any (settle xs (signal_meanings n is)) (λ u. always (record {
      head = SignalHead;
      procedures = 0;
      signals = is;
      offers = if_public access (signal_offers n xs is);
    }) (record { form = k; count = refl })))

declared_formed : (a : Around) (np ns : ℕ) (xs : List Identifier) (access : Option Access) (d : s.Declared)
    → Always (Formed d) (declared a np ns xs access d)
unfolding declared IsForm stated_item
declared_formed a np ns xs access (s.Data d) = behind_any (head a xs d) (λ h. always (record
    { head = DataHead h; procedures = 0; signals = []; offers = [] }) (record { form = tt; count = refl }))
declared_formed a np ns xs access (s.Procedure h b) =
    behind_any (announce xs) (λ u. behind_any (measured (heading a h.takes h.gives)) (λ x. procedure_formed h b xs access np x))
declared_formed a np ns xs access (s.Signal h) = within 0 (first_name xs)
    (behind_any (announce xs) (λ u. behind_any (heading a h.takes h.gives) (λ x. signals_formed (s.Signal h) item.Signal xs access ns x tt)))
declared_formed a np ns xs access (s.Error takes) = within 0 (first_name xs)
    (behind_any (announce xs) (λ u. behind_any (heading a takes None) (λ x. signals_formed (s.Error takes) item.Error xs access ns x tt)))

pub all_formed : (a : Around) (np ns : ℕ) (ds : List s.Declaration) → Always (AllFormed ds) (all_declared a np ns ds)
unfolding all_declared AllFormed
all_formed a np ns [] = always [] tt
all_formed a np ns (d ∷ ds) =
    behind {P = Formed d.declared} (record {
      by = λ now. told_in (λ r. Formed d.declared r.0) (declaration np ns a d now) _
          ((declared_formed a np ns d.names d.access d.declared).by now);
    }) (λ x h.
    behind (all_formed a (np + x.procedures) (ns + length x.signals) ds) (λ more k. always (x ∷ more) (h, k)))

-- ---- the heads of procedures
abbrev pub heads_of : List t.Procedure → List Item
heads_of = map (λ (p : t.Procedure). p.head)

procedure_head : (known : Known) (xs : List Identifier) (i : PlainItem) (scope : Scope Meaning) (words : ℕ) (b : s.Block)
    → Always (λ (p : t.Procedure). p.head ≡ item_of i) (procedure known xs i scope words b)
unfolding procedure
procedure_head known xs i scope words b = record {
  by = λ s. if_ok _ (as_before s) (λ r. (r.0).head ≡ item_of i) (λ r. (r.0).head ≡ item_of i) (inside.by (fresh s)) (λ r h. h);
}
  where
    inside : Always (λ (p : t.Procedure). p.head ≡ item_of i) (in_scope scope (block (body_of known i.takes i.gives) b) >>= (λ does.
        frame i.takes i.gives (first_name xs) >>= (λ ks. ensure (nat_le words OPERAND_WORDS) FrameTooLarge (first_name xs)
        >>= (λ u. pure (record { head = item_of i; body = record { variables = ks; does = does } })))))
    inside = behind_any (in_scope scope (block (body_of known i.takes i.gives) b)) (λ does. behind_any (frame i.takes i.gives (first_name xs)) (λ ks.
        behind_any (ensure (nat_le words OPERAND_WORDS) FrameTooLarge (first_name xs)) (λ u. always
        (record { head = item_of i; body = record { variables = ks; does = does } }) refl)))

PutsHeads : Stated → (Values → Values) → Type 0
PutsHeads x f = (v : Values) → heads_of (f v).procedures ≡ map item_of (stated_item x) ++ heads_of v.procedures

value_heads : (a : Around) (xs : List Identifier) (d : s.Declared) (x : Stated) → IsForm d x → Always (PutsHeads x) (value_of a xs d x)
unfolding value_of IsForm stated_item PutsHeads
value_heads a xs (s.Data d) (DataHead h) k = behind_any (initial a xs d h) (λ f. always (and_statement f) (λ v. refl))
value_heads a xs (s.Data d) (ProcedureHead i scope words) k = absurd k
value_heads a xs (s.Data d) SignalHead k = absurd k
value_heads a xs (s.Procedure h b) (DataHead i) k = absurd k
value_heads a xs (s.Procedure h b) (ProcedureHead i scope words) k =
    behind (procedure_head a.known xs i scope words b) (λ p e. always (and_procedure p) (λ v. ap (λ h. h ∷ heads_of v.procedures) e))
value_heads a xs (s.Procedure h b) SignalHead k = absurd k
value_heads a xs (s.Signal h) (DataHead i) k = absurd k
value_heads a xs (s.Signal h) (ProcedureHead i scope words) k = absurd k
value_heads a xs (s.Signal h) SignalHead k = always (λ v. v) (λ v. refl)
value_heads a xs (s.Error takes) (DataHead i) k = absurd k
value_heads a xs (s.Error takes) (ProcedureHead i scope words) k = absurd k
value_heads a xs (s.Error takes) SignalHead k = always (λ v. v) (λ v. refl)

mapped_join : (is : List PlainItem) (js : List PlainItem) → map item_of (is ++ js) ≡ map item_of is ++ map item_of js
mapped_join [] js = refl
mapped_join (i ∷ is) js = ap (λ x. item_of i ∷ x) (mapped_join is js)

pub values_heads : (a : Around) (ds : List s.Declaration) (xs : List Declared) → AllFormed ds xs
    → Always (λ (v : Values). heads_of v.procedures ≡ map item_of (stated_items xs)) (values_of a ds xs)
unfolding values_of AllFormed stated_items PutsHeads
values_heads a [] [] h = always (record { procedures = []; statements = t.NoStmts }) refl
values_heads a [] (x ∷ xs) h = absurd h
values_heads a (d ∷ ds) [] h = absurd h
values_heads a (d ∷ ds) (x ∷ xs) h =
    behind (value_heads a d.names d.declared x.head (h.0).form) (λ f k.
    behind (values_heads a ds xs h.1) (λ v e. always (f v)
    (k v ∙ ap (λ hs. map item_of (stated_item x.head) ++ hs) e ∙ sym (mapped_join (stated_item x.head) (stated_items xs)))))

-- ---- the whole
pub record Kept (ds : List s.Declaration) (xs : List Declared) (r : Whole × State) : Type 0 where
  pub declared : (r.0).declared ≡ xs
  pub variables : ((r.0).body).variables ≡ (r.1).variables
  pub small : words_in_all (r.1).variables + (r.1).hidden ≤ LOCAL_WORDS
  pub heads : heads_of (r.0).procedures ≡ map item_of (stated_items xs)

pub own_kept : (a : Around) (p : Place) (inner : s.Inner) (xs : List Declared) (now : State) → AllFormed inner.declarations xs
    → IfOk (own_body a p inner xs now) (Kept inner.declarations xs)
unfolding words_in_all words_of_fields
own_kept a p inner xs now h =
    any_before (phrase L inner.enable now) _ Q (λ w.
    if_ok (values_of L inner.declarations xs w.1) _ (λ v. heads_of (v.0).procedures ≡ map item_of (stated_items xs)) Q
    ((values_heads L inner.declarations xs h).by w.1) (λ v e.
    any_before (statements L inner.statements v.1) _ Q (λ ss.
    any_before (exits a a.labelled [] inner.exits ss.1) _ Q (λ es.
    by w.0 v.0 ss.0 es.0 es.1 e (nat_le (0 + words_in_all (es.1).variables + (es.1).hidden) LOCAL_WORDS) refl))))
  where
    L : Around
    L = with_labels (labels_of_exits inner.exits) a

    Q : Whole × State → Type 0
    Q r = Kept inner.declarations xs r

    by : (w : t.Phrase) (v : Values) (ss : t.Stmts) (es : t.Exits) (u : State) → heads_of v.procedures ≡ map item_of (stated_items xs) → (c : Bool)
        → nat_le (0 + words_in_all u.variables + u.hidden) LOCAL_WORDS ≡ c
        → IfOk (and_then {A = t.Kinds × State} (and_then (only c FrameTooLarge p) (λ x. Ok (u.variables, u))) (λ ks. Ok (
          record {
            declared = xs;
            procedures = v.procedures;
            body = record { variables = ks.0; does = marked_if (is_catch inner.enable) (body_block w v.statements ss es) };
          },
          ks.1,
        ))) Q
    by w v ss es u e true d = record {
      declared = refl;
      variables = refl;
      small = omega (arith, leb-true (0 + words_in_all u.variables + u.hidden) LOCAL_WORDS d);
      heads = e;
    }
    by w v ss es u e false d = tt

-- ---- where the module has these heads, each declaration has its own
at_end : {A : Type 0} (before : List A) (x : A) (rest : List A) → slice_get (before ++ (x ∷ rest)) (length before) ≡ Some x
at_end [] x rest = refl
at_end (y ∷ before) x rest = at_end before x rest

one_further : {A : Type 0} (before : List A) (x : A) (rest : List A) → before ++ (x ∷ rest) ≡ (before ++ (x ∷ [])) ++ rest
one_further [] x rest = refl
one_further (y ∷ before) x rest = ap (λ xs. y ∷ xs) (one_further before x rest)

all_further : {A : Type 0} (before xs ys : List A) → before ++ (xs ++ ys) ≡ (before ++ xs) ++ ys
all_further [] xs ys = refl
all_further (y ∷ before) xs ys = ap (λ zs. y ∷ zs) (all_further before xs ys)

counted : {A : Type 0} (xs ys : List A) → length (xs ++ ys) ≡ length xs + length ys
counted [] ys = omega arith
counted (x ∷ xs) ys = omega (arith, counted xs ys)

mapped_count : {A B : Type 0} (f : A → B) (xs : List A) → length (map f xs) ≡ length xs
mapped_count f [] = refl
mapped_count f (x ∷ xs) = ap suc (mapped_count f xs)

module _ (W : World) where
  signals_at : (before is rest : List PlainItem) (n : ℕ) → W.signals ≡ map item_of (before ++ (is ++ rest)) → n ≡ length before → SignalsAt W n is
  unfolding SignalsAt
  signals_at before [] rest n e d = tt
  signals_at before (i ∷ is) rest n e d =
      let same : W.signals ≡ map item_of before ++ (item_of i ∷ map item_of (is ++ rest)) = e ∙ mapped_join before (i ∷ (is ++ rest)) in
      let number : length (map item_of before) ≡ n = omega (arith, mapped_count item_of before, d) in (
        ap (λ xs. slice_get xs n) same ∙ subst (λ k. slice_get (map item_of before ++ (item_of i ∷ map item_of (is ++ rest))) k ≡ Some (item_of i)) number
            (at_end (map item_of before) (item_of i) (map item_of (is ++ rest))),
        signals_at (before ++ (i ∷ [])) is rest (n + 1) (e ∙ ap (map item_of) (one_further before i (is ++ rest)))
            (omega (arith, d, counted before (i ∷ []))),
      )

  procedure_at : (before rest : List PlainItem) (x : Stated) (n : ℕ) → W.procedures ≡ map item_of (before ++ (stated_item x ++ rest)) → n ≡ suc (length before)
      → ProcedureAt W n x
  unfolding ProcedureAt stated_item
  procedure_at before rest (DataHead h) n e d = tt
  procedure_at before rest SignalHead n e d = tt
  procedure_at before rest (ProcedureHead i scope words) n e d =
      let same : W.procedures ≡ map item_of before ++ (item_of i ∷ map item_of rest) = e ∙ mapped_join before (i ∷ rest) in
      let number : length (map item_of before) ≡ length before = mapped_count item_of before in (
        length before,
        d,
        ap (λ xs. slice_get xs (length before)) same ∙ subst (λ k. slice_get (map item_of before ++ (item_of i ∷ map item_of rest)) k ≡ Some (item_of i)) number
            (at_end (map item_of before) (item_of i) (map item_of rest)),
      )

  all_at : (before : List PlainItem) (signals : List PlainItem) (ds : List s.Declaration) (xs : List Declared) (np ns : ℕ) → AllFormed ds xs
      → W.procedures ≡ map item_of (before ++ stated_items xs) → W.signals ≡ map item_of (signals ++ signals_of xs) → np ≡ suc (length before)
      → ns ≡ length signals
      → AllDeclaredAt W np ns xs
  unfolding AllFormed AllDeclaredAt DeclaredAt stated_items signals_of
  all_at before signals [] [] np ns h e d p n = tt
  all_at before signals [] (x ∷ xs) np ns h e d p n = absurd h
  all_at before signals (y ∷ ds) [] np ns h e d p n = absurd h
  all_at before signals (y ∷ ds) (x ∷ xs) np ns h e d p n = (
    (procedure_at before (stated_items xs) x.head np e p, signals_at signals x.signals (signals_of xs) ns d n),
    all_at (before ++ stated_item x.head) (signals ++ x.signals) ds xs (np + x.procedures) (ns + length x.signals) h.1
        (e ∙ ap (map item_of) (all_further before (stated_item x.head) (stated_items xs))) (d ∙ ap (map item_of) (all_further signals x.signals (signals_of xs)))
        (omega (arith, p, counted before (stated_item x.head), (h.0).count)) (omega (arith, n, counted signals x.signals)),
  )

  -- in the end, each declaration is there under its number
  pub each_declared_at : (ds : List s.Declaration) (xs : List Declared) → AllFormed ds xs → W.procedures ≡ map item_of (stated_items xs)
      → W.signals ≡ map item_of (signals_of xs)
      → AllDeclaredAt W 1 0 xs
  each_declared_at ds xs h e d = all_at [] [] ds xs 1 0 h e d refl refl
