-- What checking gives of a program is sound.
use Rattle.std.proofs.Common.{◌≡◌, ℕ, zero, suc, List, [], ◌∷◌, ◌++◌, refl, sym, ◌∙◌, ap, subst, arith}
use Rattle.std.specs.Prelude.{◌≤◌, true, Option, Some, None, Ok, Err, IfOk, All, map, slice_get, take}
use Rattle.std.proofs.lemmas.List.Elements.{All-nil, All-cons}
use Rattle.mesa_base.specs.declared.identifier.Identifier.{Identifier}
use Rattle.mesa_base.specs.declared.limits.TheConstants.{DISTINCT_STRINGS, GLOBAL_WORDS}
use Rattle.mesa_types.specs.declared.faces.Item.{Item}
use Rattle.mesa_types.specs.declared.faces.ItemKind.{ItemKind}
use Rattle.mesa_types.specs.declared.faces.ItemKind.TheVariants as item
use Rattle.mesa_types.specs.declared.faces.Export.{Export}
use Rattle.syntax_trees.specs.declared.syntax.DirectoryItem.{DirectoryItem}
use Rattle.syntax_trees.specs.Syntax as s
use Rattle.mesa_types.specs.Sound as sound
use Rattle.mesa_types.specs.Links as links
use Rattle.mesa_types.specs.Shapes.{join, words_in_all, AllHaveWords}
use Rattle.check_rules.specs.Typed as t
use Rattle.interface_records.specs.PlainTypes.{PlainItem, PlainInterface, kinds_of, item_of}
use Rattle.check_rules.specs.Steps.{State, Checked, and_then}
use Rattle.check_rules.specs.Around.{Known}
use Rattle.check_rules.specs.Parts.{names_of}
use Rattle.check_rules.specs.Mentions.{of_kind, texts}
use Rattle.check_rules.specs.Directory.{names_in, place_in, interface_at, put_some, those_of, directory, listed}
use Rattle.check_rules.specs.Programs.{ahead, Declared, Offer, Whole, signals_of, offers_of, exported, imported, unused}
use Rattle.check_rules.specs.CheckedModule.{known_of, start, lists, module_of, whole_of, program}
use Rattle.check_rules.specs.Written.{InnerWritten}
use Rattle.check_rules.specs.Laws.{ExportsInOrder}
use Rattle.typing_laws.proofs.LawProofs.{imported_in_order, exported_in_order}
use Rattle.check_rules.proofs.SoundTypes.{none_is_no}
use Rattle.typing_laws.proofs.SoundSteps.{World, ScopesIn, Within, Names, if_ok, weaker}
use Rattle.typing_laws.proofs.SoundScopes.{no_names}
use Rattle.typing_laws.proofs.SoundImports.{unused_counts, used_there, each_has_mark, item_there}
use Rattle.typing_laws.proofs.SoundModules.{world_of, body_in, procedure_is, signal_is, literal_number}
use Rattle.typing_laws.proofs.SoundProcedures.{with_body, KnownIn, SoundBody, in_each_world, none_more, no_words}
use Rattle.typing_laws.proofs.SoundDeclarations.{EachSignalGood, GivesItem, EachOffer, AllDeclaredIn}
use Rattle.typing_laws.proofs.SoundWhole.{EachDone}
use Rattle.typing_laws.proofs.SoundCounted.{each_declared_at}
use Rattle.typing_laws.proofs.SoundEnded.{both_ok, Result, Ended, ended}
use Rattle.typing_laws.proofs.SoundDirectory.{Aligned, AllKnown, directory_aligned, listed_known, interface_there}
use Rattle.typing_laws.proofs.SoundStart.{InterfaceGood, InterfacesGood, offered_in, opened_in, directory_in, predeclared_in, ahead_in}
use Rattle.typing_laws.proofs.SoundExports.{imports_in, exports_in}
use Rattle.typing_laws.proofs.SoundTexts.{EachShort, literals_differ, literals_short, few_literals}

-- ---- interfaces that a list names
one_good : (is : List PlainInterface) (n : ℕ) (f : PlainInterface) → InterfacesGood is → slice_get is n ≡ Some f → InterfaceGood f
unfolding InterfacesGood
one_good [] n f h e = none_is_no f e
one_good (i ∷ is) zero f h e = subst InterfaceGood (same_face i f e) h.0
  where
    same_face : (a b : PlainInterface) → Some a ≡ Some b → a ≡ b
    same_face a b e = cc
one_good (i ∷ is) (suc n) f h e = one_good is n f h.1 e

those_good : (ds : List DirectoryItem) (is : List PlainInterface) (xs : List Identifier) → InterfacesGood is → InterfacesGood (those_of ds is xs)
unfolding those_of InterfacesGood
those_good ds is [] h = tt
those_good ds is (x ∷ xs) h = by (place_in 0 (names_in ds) x.name) (those_good ds is xs h)
  where
    put : (o : Option PlainInterface) (fs : List PlainInterface) → ((f : PlainInterface) → o ≡ Some f → InterfaceGood f) → InterfacesGood fs
        → InterfacesGood (put_some o fs)
    put None fs g k = k
    put (Some f) fs g k = (g f refl, k)

    by : (o : Option ℕ) → InterfacesGood (those_of ds is xs) → InterfacesGood (put_some (interface_at is o) (those_of ds is xs))
    by None k = k
    by (Some n) k = put (slice_get is n) (those_of ds is xs) (λ f e. one_good is n f h e) k

-- ---- what a declaration has
signals_good : (xs ys : List PlainItem) → EachSignalGood xs → All sound.SignalIn (map item_of ys) → All sound.SignalIn (map item_of (xs ++ ys))
unfolding EachSignalGood
signals_good [] ys h k = k
signals_good (i ∷ xs) ys h k = All-cons sound.SignalIn (item_of i) (map item_of (xs ++ ys))
    (signal_is i (h.0).head (h.0).kind (h.0).error (h.0).small) (signals_good xs ys h.1 k)

module _ (W : World) where
  all_signals : (p : _) (xs : List Declared) → AllDeclaredIn W p xs → All sound.SignalIn (map item_of (signals_of xs))
  unfolding AllDeclaredIn signals_of
  all_signals p [] h = All-nil sound.SignalIn
  all_signals p (x ∷ xs) h = signals_good x.signals (signals_of xs) (h.0).signals (all_signals p xs h.1)

  both_offers : (V : World) → V.procedures ≡ W.procedures → V.signals ≡ W.signals → (os ps : List Offer) → EachOffer W os → EachOffer V ps
      → EachOffer V (os ++ ps)
  unfolding EachOffer GivesItem
  both_offers V e d [] ps h k = k
  both_offers V e d (o ∷ os) ps h k = (moved (o.item).kind o.number (item_of o.item) h.0, both_offers V e d os ps h.1 k)
    where
      moved : (k : ItemKind) (n : ℕ) (i : Item) → GivesItem W k n i → GivesItem V k n i
      moved item.Procedure n i g = (g.0, g.1, ap (λ xs. slice_get xs g.0) e ∙ g.2)
      moved item.Signal n i g = (ap (λ xs. slice_get xs n) d ∙ g.0, g.1)
      moved item.Error n i g = (ap (λ xs. slice_get xs n) d ∙ g.0, g.1)

  all_offers : (V : World) → V.procedures ≡ W.procedures → V.signals ≡ W.signals → (p : _) (xs : List Declared) → AllDeclaredIn W p xs
      → EachOffer V (offers_of xs)
  unfolding AllDeclaredIn offers_of EachOffer
  all_offers V e d p [] h = tt
  all_offers V e d p (x ∷ xs) h = both_offers V e d x.offers (offers_of xs) (h.0).offers (all_offers V e d p xs h.1)

no_more_words : words_in_all t.NoKinds ≤ GLOBAL_WORDS
unfolding words_in_all
no_more_words = omega arith

any_ok : {A B : Type 0} (r : Checked A) (f : A → Checked B) (Q : B → Type 0) → ((x : A) → IfOk (f x) Q) → IfOk (and_then r f) Q
any_ok (Ok x) f Q h = h x
any_ok (Err e) f Q h = tt

always_ok : {A : Type 0} (r : Checked A) → IfOk r (λ x. Unit {0})
always_ok (Ok x) = tt
always_ok (Err e) = tt

-- ---- a program
module _ (m : s.Module) (is : List PlainInterface) (imports exports opens : List Identifier) (inner : s.Inner) (good : InterfacesGood is)
    (written : InnerWritten inner) (shorts : EachShort (of_kind m.kind)) where
  abbrev fs : List PlainInterface
  fs = those_of m.directory is imports

  abbrev gs : List PlainInterface
  gs = those_of m.directory is exports

  abbrev known : Known
  known = known_of m None true imports is

  abbrev now : State
  now = start m known (ahead inner.declarations) opens (unused fs)

  abbrev made : Whole × State → List Export → t.Module
  made r es = record {
    name = m.name.name;
    imports = imported fs r.1.used;
    exports = es;
    globals = r.1.globals;
    signals = map item_of (signals_of r.0.declared);
    strings = take DISTINCT_STRINGS (texts [] (of_kind m.kind));
    procedures = r.0.procedures;
    body = r.0.body;
  }

  abbrev world : Whole × State → List Export → World
  world r es = with_body (world_of (made r es)) [] [] (r.0.body).variables

  abbrev KnownNames : Type 0
  KnownNames = AllKnown (names_of (names_in m.directory)) imports

  known_in : Aligned [] m.directory is → KnownNames → (r : Whole × State) (es : List Export) → KnownIn (world r es) known
  known_in aligned names r es = record {
    strings = λ x n e. literal_number x (texts [] (of_kind m.kind)) n e;
    interfaces = offered_in (world r es) imports m.directory is good (λ j d f e g k n i p q.
        let there = interface_there m.directory is imports 0 k j d f aligned names e g p in
        let number : there.0 ≡ k = omega (arith, there.1) in
        subst (λ k. links.imported (imported fs r.1.used) k n ≡ Some (item_of i)) number (item_there fs r.1.used there.0 n f i there.2 q));
  }

  names_in_order : Aligned [] m.directory is → KnownNames → (r : Whole × State) (es : List Export) → Names (world r es) true now
  unfolding ScopesIn
  names_in_order aligned names r es =
      let W = world r es in
      record {
        scopes = (
          no_names W true,
          (
            ahead_in W inner.declarations,
            (
              directory_in W 0 m.directory,
              (
                opened_in W m.directory known.interfaces opens
                    (known_in aligned names r es).interfaces,
                (predeclared_in W, tt),
              ),
            ),
          ),
        );
        coming = no_names W true;
        rows = λ k n i e. each_has_mark fs (unused fs) r.1.used k n i (unused_counts fs) e;
        globals = no_words;
        variables = no_words;
      }

  within_end : (r : Whole × State) (es : List Export) → Ended (world r es) inner now r → Within (world r es) r.1
  within_end r es end = record {
    more_globals = t.NoKinds;
    globals = sym (none_more r.1.globals);
    more_locals = t.NoKinds;
    locals = ap (λ x. join (kinds_of []) (join (kinds_of []) x)) ((end.kept).variables ∙ sym (none_more r.1.variables));
    used = λ k n e. used_there fs r.1.used k n (end.rows ∙ unused_counts fs) e;
  }

  result : Aligned [] m.directory is → KnownNames → (r : Whole × State) (es : List Export) → Ended (world r es) inner now r → Result (world r es) r
  result aligned names r es end = end.gives written
      (each_declared_at (world r es) inner.declarations r.0.declared end.formed (end.kept).heads refl)
      (names_in_order aligned names r es) (within_end r es end) refl

  same_body : (r : Whole × State) (es : List Export) (takes gives : _) (body : t.Body) → SoundBody (world r es) takes gives body
      → SoundBody (world_of (made r es)) takes gives body
  same_body r es takes gives body h = record { variables = h.variables; does = h.does; small = h.small }

  each_procedure : (r : Whole × State) (es : List Export) (qs : List t.Procedure) → EachDone (world r es) qs → All (sound.ProcedureIn (made r es)) qs
  unfolding EachDone
  each_procedure r es [] h = All-nil (sound.ProcedureIn (made r es))
  each_procedure r es (q ∷ qs) h =
      let d = h.0 in
      All-cons (sound.ProcedureIn (made r es)) q qs (procedure_is (made r es) d.wanted q d.head d.kind d.same
      (same_body r es d.wanted.takes d.wanted.gives q.body d.body)) (each_procedure r es qs h.1)

  own : (r : Whole × State) (es : List Export) → Ended (world r es) inner now r → Result (world r es) r
      → SoundBody (world_of (made r es)) [] [] r.0.body
  unfolding words_in_all kinds_of
  own r es end k = record {
    variables = subst AllHaveWords (sym (end.kept).variables) k.variables;
    does = k.does;
    small = omega (arith, (end.kept).small, k.hidden_are, ap words_in_all (end.kept).variables);
  }

  sound_of : Aligned [] m.directory is → KnownNames → (r : Whole × State) (es : List Export) → Ended (world r es) inner now r
      → All (sound.ExportIn (made r es)) es
      → sound.Sound (made r es)
  sound_of aligned names r es end given =
      let k = result aligned names r es end in
      record {
        globals = end.limit no_more_words;
        have_words = k.globals;
        strings = few_literals (texts [] (of_kind m.kind)) DISTINCT_STRINGS;
        strings_differ = literals_differ (of_kind m.kind);
        short_strings = literals_short (of_kind m.kind) shorts;
        imports = imports_in fs r.1.used (those_good m.directory is imports good) (imported_in_order fs r.1.used);
        exports = given;
        signals = all_signals (world r es) k.spot r.0.declared k.declared;
        procedures = each_procedure r es r.0.procedures k.procedures;
        body = body_in (made r es) [] [] r.0.body (own r es end k);
      }

  module_sound : Aligned [] m.directory is → KnownNames → (r : Whole × State) → ((es : List Export) → Ended (world r es) inner now r)
      → IfOk (module_of m is imports exports r) sound.Sound
  module_sound aligned names r ends =
      let os = offers_of r.0.declared in
      let Any = (x : t.Module) × EachOffer (world_of x) os in
      let Each : List Export → Type 0 = λ es. (x : Any) → ExportsInOrder es → All (sound.ExportIn x.0) es in
      if_ok (exported os gs) (λ es. Ok (made r es)) (λ es. Each es × ExportsInOrder es) sound.Sound
      (both_ok (exported os gs) Each ExportsInOrder
      (in_each_world (exported os gs) (λ (x : Any) es. ExportsInOrder es → All (sound.ExportIn x.0) es)
      (λ x. exports_in x.0 os x.1 gs (those_good m.directory is exports good))) (exported_in_order os gs)) (λ es p.
      let k = result aligned names r es (ends es) in
      let offers = all_offers (world r es) (world_of (made r es)) refl refl k.spot r.0.declared k.declared in
      sound_of aligned names r es (ends es) (p.0 (made r es, offers) p.1))

  abbrev SomeWorld : Type 0
  SomeWorld = (W : World) × KnownIn W known × (W.takes ≡ []) × (W.gives ≡ [])

  whole_sound : Aligned [] m.directory is → KnownNames → IfOk (and_then (whole_of m is imports opens inner) (module_of m is imports exports)) sound.Sound
  whole_sound aligned names =
      let whole = whole_of m is imports opens inner in
      if_ok whole (module_of m is imports exports) (λ r. (x : SomeWorld) → Ended x.0 inner now r) sound.Sound
      (in_each_world whole (λ (x : SomeWorld) r. Ended x.0 inner now r) (λ x. ended x.0 known x.1 x.2 x.3 m.name.place inner now))
      (λ r h. module_sound aligned names r (λ es. h (world r es, known_in aligned names r es, refl, refl)))

  lists_known : IfOk (lists m is imports exports opens) (λ u. Aligned [] m.directory is × KnownNames)
  lists_known =
      if_ok (directory [] m.directory is) _ (λ u. Aligned [] m.directory is) (λ u. Aligned [] m.directory is × KnownNames)
      (directory_aligned [] m.directory is) (λ u h.
      if_ok (listed (names_of (names_in m.directory)) [] imports) _ (λ u. KnownNames) (λ u. Aligned [] m.directory is × KnownNames)
      (listed_known (names_of (names_in m.directory)) [] imports) (λ v k.
      any_ok (listed (names_of (names_in m.directory)) [] exports) _ (λ u. Aligned [] m.directory is × KnownNames) (λ w.
      weaker (listed (names_of (names_in m.directory)) [] opens) (λ u. Unit {0}) (λ u. Aligned [] m.directory is × KnownNames) (λ x y. (h, k))
      (always_ok (listed (names_of (names_in m.directory)) [] opens)))))

  pub program_sound : IfOk (program m is imports exports opens inner) sound.Sound
  program_sound = if_ok (lists m is imports exports opens) (λ u. and_then (whole_of m is imports opens inner) (module_of m is imports exports))
      (λ u. Aligned [] m.directory is × KnownNames) sound.Sound lists_known (λ u h. whole_sound h.0 h.1)
