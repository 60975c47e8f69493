-- Files can spell the name, imports and exports of each module that checking gives.
use Rattle.std.specs.Prelude.{ℕ, suc, ◌≡◌, ◌+◌, ◌≤◌, Bool, true, false, not, ◌||◌, Option, Some, None, List, [], ◌∷◌, ◌++◌, length, map, bytes_eq, IfOk, nat_le, if◌then◌else◌}
use Rattle.std.specs.List.{All, Contains}
use Rattle.std.proofs.Common.{refl, sym, subst, ap, arith}
use Rattle.std.proofs.lemmas.List.Elements.{All-nil, All-cons, All-head, All-tail, All-contains}
use Rattle.mesa_base.specs.Name.{IsName}
use Rattle.mesa_base.specs.declared.limits.TheConstants.{SIGNAL_WORDS}
use Rattle.mesa_base.specs.declared.place.Place.{Place}
use Rattle.mesa_base.specs.declared.identifier.Identifier.{Identifier}
use Rattle.syntax_trees.specs.Syntax as s
use Rattle.syntax_trees.specs.SyntaxNodes.{head_nodes, declared_nodes, declaration_nodes, declarations_nodes, inner_nodes, kind_nodes, module_nodes}
use Rattle.mesa_types.specs.declared.faces.Export.{Export}
use Rattle.mesa_types.specs.declared.faces.Face.{Face}
use Rattle.mesa_types.specs.declared.faces.Import.{Import}
use Rattle.mesa_types.specs.declared.faces.ItemKind.{ItemKind}
use Rattle.mesa_types.specs.declared.faces.ItemKind.TheVariants as item
use Rattle.mesa_types.specs.declared.faces.Pair.{Pair}
use Rattle.syntax_trees.specs.declared.syntax.Access.{Access}
use Rattle.syntax_trees.specs.declared.syntax.DirectoryItem.{DirectoryItem}
use Rattle.interface_records.specs.declared.interface.Interface.{Interface}
use Rattle.check_rules.specs.Typed as t
use Rattle.interface_records.specs.PlainTypes.{PlainInterface, PlainItem, face_of, plain_interface, plain_item, words_of_fields}
use Rattle.check_rules.specs.Scopes.{has}
use Rattle.check_rules.specs.Meanings as meaning
use Rattle.check_rules.specs.Steps.{State, ◌>>=◌, ensure, measured, only}
use Rattle.check_rules.specs.Around.{Around, body_of, with_labels}
use Rattle.check_rules.specs.Names.{announce, settle}
use Rattle.check_rules.specs.Phrases.{is_catch}
use Rattle.check_rules.specs.Checking.{exits, head, phrase, statements}
use Rattle.check_rules.specs.Parts.{first_name, names_of}
use Rattle.check_rules.specs.Statements.{labels_of_exits}
use Rattle.check_rules.specs.Directory.{directory, interface_at, listed, names_in, place_in, put_some, those_of}
use Rattle.check_rules.specs.Programs.{Declared, Heading, behind_top, Offer, Whole, all_declared, before_others, declaration, declared, declared_procedure, declared_signals, enabled, exported, first_item, fits_item, frame, heading, if_public, imported, is_public, other_rows, named_item, offer_named, offers_of, outermost, pair_for, pairs, procedure_offer, signal_meanings, signal_offers, values_of, whole_in}
use Rattle.check_rules.specs.CheckedModule.{checked, known_of, lists, module_of, program_by, whole_of}
use Rattle.interface_records.specs.Lists.{Ascend}
use Rattle.check_rules.specs.Laws.{ExportsInOrder, ImportsInOrder, IsOfTextSize, ModulesCanBeSpelled, faces, shape_of}
use Rattle.interface_records.specs.Spelled.{ExportCanBeSpelled, FaceCanBeSpelled, ImportCanBeSpelled, InFourBytes, InterfacesCanBeSpelled, ShapeCanBeSpelled, item_numbers}
use Rattle.check_rules.specs.TreeNames.{HasNames}
use Rattle.check_rules.specs.declared.fault.Cause.TheVariants.{FrameTooLarge, TwiceDeclared, UnknownName}
use Rattle.typing_laws.proofs.Coming.{bit}
use Rattle.typing_laws.proofs.Distinct.{times, turned_false}
use Rattle.typing_laws.proofs.FineFields.{Apart, apart_one, none_apart}
use Rattle.typing_laws.proofs.GivenFaces.{shapes_given}
use Rattle.typing_laws.proofs.Keeping.{OfSome}
use Rattle.typing_laws.proofs.LawProofs.{shapes_in_order}
use Rattle.typing_laws.proofs.SoundDirectory.{AllKnown, listed_known}
use Rattle.typing_laws.proofs.Outcomes.{Gives, Any, any, any_ok, bind, give, ok_as, ok_only, then_ok, told_ok, within, both_ok, length_of_map}
use Rattle.check_rules.proofs.SoundTypes.{no_truth}

-- ---- names of a list that are all of another, and stand once
tally : List (List ℕ) → List (List ℕ) → ℕ
tally [] ns = 0
tally (k ∷ known) ns = times k ns + tally known ns

tally_none : (known : List (List ℕ)) → tally known [] ≡ 0
unfolding tally
tally_none [] = refl
tally_none (k ∷ known) = omega (arith, tally_none known)

tally_more : (known : List (List ℕ)) (x : List ℕ) (ns : List (List ℕ)) → tally known (x ∷ ns) ≡ tally known (x ∷ []) + tally known ns
unfolding tally
tally_more [] x ns = omega arith
tally_more (k ∷ known) x ns = omega (arith, tally_more known x ns)

tally_known : (known : List (List ℕ)) (x : List ℕ) → has x known ≡ true → 1 ≤ tally known (x ∷ [])
unfolding tally has
tally_known [] x e = no_truth e
tally_known (k ∷ known) x e = by (bytes_eq x k) e (tally_known known x)
  where
    by : (b : Bool) → (b || has x known) ≡ true → (has x known ≡ true → 1 ≤ tally known (x ∷ [])) → 1 ≤ bit b + 0 + tally known (x ∷ [])
    by true d r = omega arith
    by false d r = omega (arith, r d)

known_few : (known : List (List ℕ)) (xs : List Identifier) → AllKnown known xs → length xs ≤ tally known (names_of xs)
unfolding AllKnown
known_few known [] h = omega arith
known_few known (x ∷ xs) h = omega (arith, known_few known xs h.1, tally_known known x.name h.0, tally_more known x.name (names_of xs))

once_few : (known ns : List (List ℕ)) → ((n : List ℕ) → times n ns ≤ 1) → tally known ns ≤ length known
unfolding tally
once_few [] ns h = omega arith
once_few (k ∷ known) ns h = omega (arith, h k, once_few known ns h)

listed_apart : (known before : List (List ℕ)) (xs : List Identifier) → IfOk (listed known before xs) (λ _. Apart before (names_of xs))
unfolding listed
listed_apart known before [] = none_apart before
listed_apart known before (x ∷ xs) =
    then_ok Any (λ _. Apart before (names_of (x ∷ xs))) (only (has x.name known) UnknownName x.place) _ (any_ok (only (has x.name known) UnknownName x.place))
    (λ u w. then_ok (λ _. not (has x.name before) ≡ true) (λ _. Apart before (names_of (x ∷ xs))) (only (not (has x.name before)) TwiceDeclared x.place) _
    (ok_only (not (has x.name before)) TwiceDeclared x.place) (λ u e.
    ok_as (λ _. Apart (x.name ∷ before) (names_of xs)) (λ _. Apart before (names_of (x ∷ xs))) (listed known (x.name ∷ before) xs)
    (listed_apart known (x.name ∷ before) xs) (λ u h. apart_one before x xs (turned_false (has x.name before) e) h)))

listed_few : (known : List (List ℕ)) (xs : List Identifier) → IfOk (listed known [] xs) (λ _. length xs ≤ length known)
unfolding Apart
listed_few known xs = both_ok (λ _. AllKnown known xs) (λ _. Apart [] (names_of xs)) (λ _. length xs ≤ length known) (listed known [] xs)
    (listed_known known [] xs) (listed_apart known [] xs) (λ u h k.
    omega (arith, known_few known xs h, once_few known (names_of xs) (λ n. omega (arith, k n))))

module _ (m : s.Module) (is : List PlainInterface) (imports exports opens : List Identifier) where
  directory_names : length (names_of (names_in m.directory)) ≡ length m.directory
  directory_names = omega (
    arith,
    length_of_map (λ (x : Identifier). x.name) (names_in m.directory),
    length_of_map (λ (d : DirectoryItem). d.name) m.directory,
  )

  abbrev FewNamed : Type 0
  FewNamed = (length imports ≤ length m.directory) × (length exports ≤ length m.directory)

  lists_few : IfOk (lists m is imports exports opens) (λ _. FewNamed)
  lists_few =
      let known = names_of (names_in m.directory) in
      then_ok Any (λ _. FewNamed) (directory [] m.directory is) _ (any_ok (directory [] m.directory is)) (λ u w.
      then_ok (λ _. length imports ≤ length known) (λ _. FewNamed) (listed known [] imports) _ (listed_few known imports) (λ u i.
      then_ok (λ _. length exports ≤ length known) (λ _. FewNamed) (listed known [] exports) _ (listed_few known exports) (λ u e.
      ok_as Any (λ _. FewNamed) (listed known [] opens) (any_ok (listed known [] opens)) (λ u w.
      (omega (arith, i, directory_names), omega (arith, e, directory_names))))))

-- ---- numbers of procedures and signals
OffersFew : ℕ → List Offer → Type 0
OffersFew n [] = Unit {0}
OffersFew n (o ∷ os) = (o.number ≤ n) × OffersFew n os

offers_more : (n : ℕ) (os ps : List Offer) → OffersFew n os → OffersFew n ps → OffersFew n (os ++ ps)
unfolding OffersFew
offers_more n [] ps h k = k
offers_more n (o ∷ os) ps h k = (h.0, offers_more n os ps h.1 k)

if_public_few : (n : ℕ) (access : Option Access) (os : List Offer) → OffersFew n os → OffersFew n (if_public access os)
unfolding OffersFew
if_public_few n access os h = by (is_public access)
  where
    by : (b : Bool) → OffersFew n (if b then os else [])
    by true = h
    by false = tt

procedures_few : (n k : ℕ) (i : PlainItem) (xs : List Identifier) → k ≤ n → OffersFew n (map (procedure_offer k i) xs)
unfolding OffersFew
procedures_few n k i [] h = tt
procedures_few n k i (x ∷ xs) h = (h, procedures_few n k i xs h)

signals_few : (n k : ℕ) (xs : List Identifier) (is : List PlainItem) → k + length xs ≤ n → OffersFew n (signal_offers k xs is)
unfolding OffersFew signal_offers
signals_few n k [] is h = tt
signals_few n k (x ∷ xs) [] h = tt
signals_few n k (x ∷ xs) (i ∷ is) h = (omega (arith, h), signals_few n (k + 1) xs is (omega (arith, h)))

-- of a declaration that has so many nodes
record DeclaredFew (n nodes : ℕ) (x : Declared) : Type 0 where
  offers : OffersFew n x.offers
  counts : x.procedures + length x.signals ≤ nodes

procedure_few : (n nodes k : ℕ) (xs : List Identifier) (access : Option Access) (h : Heading × ℕ) → k ≤ n → 1 ≤ nodes
    → Gives (DeclaredFew n nodes) (declared_procedure xs access k h)
procedure_few n nodes k xs access h l m =
    let meanings = map (λ (x : Identifier). meaning.Procedure (t.OwnProcedure k) (first_item h.0 xs)) xs in
    bind Any (settle xs meanings) (any (settle xs meanings)) (λ u w. give (record {
      offers = if_public_few n access (map (procedure_offer k (first_item h.0 xs)) xs) (procedures_few n k (first_item h.0 xs) xs l);
      counts = omega (arith, m);
    }))

signal_few : (n nodes k : ℕ) (kind : ItemKind) (xs : List Identifier) (access : Option Access) (h : Heading) → k + length xs ≤ n → length xs ≤ nodes
    → Gives (DeclaredFew n nodes) (declared_signals kind xs access k h)
signal_few n nodes k kind xs access h l m =
    let items = map (named_item kind h) xs in
    let small = ensure (nat_le (words_of_fields h.takes + words_of_fields h.gives) SIGNAL_WORDS) FrameTooLarge (first_name xs) in
    bind Any small (any small) (λ u w.
    bind Any (settle xs (signal_meanings k items)) (any (settle xs (signal_meanings k items))) (λ u w. give (record {
      offers = if_public_few n access (signal_offers k xs items) (signals_few n k xs items l);
      counts = omega (arith, m, length_of_map (named_item kind h) xs);
    })))

declared_few : (n np ns : ℕ) (a : Around) (xs : List Identifier) (access : Option Access) (x : s.Declared) → np + ns + (length xs + declared_nodes x) ≤ n
    → Gives (DeclaredFew n (length xs + declared_nodes x)) (declared a np ns xs access x)
unfolding declared declared_nodes head_nodes OffersFew
declared_few n np ns a xs access (s.Data d) l =
    bind Any (head a xs d) (any (head a xs d)) (λ h w. give (record { offers = tt; counts = omega arith }))
declared_few n np ns a xs access (s.Procedure h b) l =
    bind Any (announce xs) (any (announce xs)) (λ u w. bind Any (measured (heading a h.takes h.gives)) (any (measured (heading a h.takes h.gives))) (λ x w.
    procedure_few n (length xs + declared_nodes (s.Procedure h b)) np xs access x (omega (arith, l)) (omega arith)))
declared_few n np ns a xs access (s.Signal h) l =
    let nodes = length xs + declared_nodes (s.Signal h) in
    within (DeclaredFew n nodes) 0 (first_name xs)
    (announce xs >>= (λ _. heading a h.takes h.gives >>= (λ x. declared_signals item.Signal xs access ns x)))
    (bind Any (announce xs) (any (announce xs)) (λ u w. bind Any (heading a h.takes h.gives) (any (heading a h.takes h.gives)) (λ x w.
    signal_few n nodes ns item.Signal xs access x (omega (arith, l)) (omega arith))))
declared_few n np ns a xs access (s.Error takes) l =
    let nodes = length xs + declared_nodes (s.Error takes) in
    within (DeclaredFew n nodes) 0 (first_name xs)
    (announce xs >>= (λ _. heading a takes None >>= (λ x. declared_signals item.Error xs access ns x)))
    (bind Any (announce xs) (any (announce xs)) (λ u w. bind Any (heading a takes None) (any (heading a takes None)) (λ x w.
    signal_few n nodes ns item.Error xs access x (omega (arith, l)) (omega arith))))

declaration_few : (n np ns : ℕ) (a : Around) (d : s.Declaration) (ds : List s.Declaration) → np + ns + declaration_nodes d ≤ n
    → Gives (DeclaredFew n (declaration_nodes d)) (before_others (λ (e : s.Declaration). e.names) (declaration np ns) a d ds)
unfolding declaration_nodes
declaration_few n np ns a d ds l = record {
  in_state = λ σ. told_ok (λ (r : Declared × State). DeclaredFew n (length d.names + declared_nodes d.declared) r.0) (declaration np ns a d σ) _
      ((declared_few n np ns a d.names d.access d.declared l).in_state σ);
}

all_few : (n np ns : ℕ) (a : Around) (ds : List s.Declaration) → np + ns + declarations_nodes ds ≤ n
    → Gives (λ (xs : List Declared). OffersFew n (offers_of xs)) (all_declared a np ns ds)
unfolding all_declared declarations_nodes OffersFew offers_of
all_few n np ns a [] l = give tt
all_few n np ns a (d ∷ ds) l =
    bind (DeclaredFew n (declaration_nodes d)) (before_others (λ (e : s.Declaration). e.names) (declaration np ns) a d ds)
    (declaration_few n np ns a d ds (omega (arith, l))) (λ x h.
    bind (λ (xs : List Declared). OffersFew n (offers_of xs)) (all_declared a (np + x.procedures) (ns + length x.signals) ds)
    (all_few n (np + x.procedures) (ns + length x.signals) a ds (omega (arith, l, h.counts))) (λ xs k.
    give (offers_more n x.offers (offers_of xs) h.offers k)))

abbrev WholeFew : ℕ → Whole → Type 0
WholeFew n w = OffersFew n (offers_of w.declared)

whole_few : (n : ℕ) (a : Around) (p : Place) (inner : s.Inner) → 1 + declarations_nodes inner.declarations ≤ n → (σ : State)
    → IfOk (whole_in a p inner σ) (λ (r : Whole × State). WholeFew n r.0)
unfolding whole_in
whole_few n a p inner l σ =
    let labelled : Around = with_labels (labels_of_exits inner.exits) a in
    then_ok (λ (r : List Declared × State). OffersFew n (offers_of r.0)) (λ (r : Whole × State). WholeFew n r.0)
    (all_declared (outermost labelled) 1 0 inner.declarations σ) _
    ((all_few n 1 0 (outermost labelled) inner.declarations (omega (arith, l))).in_state σ) (λ ds h.
    let τ : State = record ds.1 { scopes = behind_top ds.1.scopes } in
    then_ok Any (λ (r : Whole × State). WholeFew n r.0) (phrase labelled inner.enable τ) _ (any_ok (phrase labelled inner.enable τ)) (λ ph w.
    then_ok Any (λ (r : Whole × State). WholeFew n r.0) (values_of labelled inner.declarations ds.0 ph.1) _
    (any_ok (values_of labelled inner.declarations ds.0 ph.1)) (λ vs w.
    then_ok Any (λ (r : Whole × State). WholeFew n r.0) (statements labelled inner.statements vs.1) _ (any_ok (statements labelled inner.statements vs.1))
    (λ ss w.
    then_ok Any (λ (r : Whole × State). WholeFew n r.0) (exits a a.labelled [] inner.exits ss.1) _ (any_ok (exits a a.labelled [] inner.exits ss.1)) (λ es w.
    then_ok Any (λ (r : Whole × State). WholeFew n r.0) (frame [] [] p es.1) _ (any_ok (frame [] [] p es.1)) (λ ks w. h))))))

-- ---- imports and exports
put_few : (o : Option PlainInterface) (is : List PlainInterface) (n : ℕ) → length is ≤ n → length (put_some o is) ≤ suc n
put_few None is n h = omega (arith, h)
put_few (Some i) is n h = omega (arith, h)

those_few : (ds : List DirectoryItem) (is : List PlainInterface) (xs : List Identifier) → length (those_of ds is xs) ≤ length xs
unfolding those_of
those_few ds is [] = omega arith
those_few ds is (x ∷ xs) = put_few (interface_at is (place_in 0 (names_in ds) x.name)) (those_of ds is xs) (length xs) (those_few ds is xs)

imported_few : (fs : List PlainInterface) (rows : List (List Bool)) → length (imported fs rows) ≡ length fs
unfolding imported
imported_few [] rows = refl
imported_few (f ∷ fs) rows = ap suc (imported_few fs (other_rows rows))

abbrev PairsFew : ℕ → List Pair → Type 0
PairsFew n ps = All (λ (p : Pair). p.number ≤ n) ps

offer_few : (n : ℕ) (x : List ℕ) (os : List Offer) → OffersFew n os → OfSome (λ (o : Offer). o.number ≤ n) (offer_named x os)
unfolding OffersFew offer_named
offer_few n x [] h = tt
offer_few n x (o ∷ os) h = by (bytes_eq x o.name.name) (offer_few n x os h.1)
  where
    by : (b : Bool) → OfSome (λ (o : Offer). o.number ≤ n) (offer_named x os)
        → OfSome (λ (o : Offer). o.number ≤ n) (if b then Some o else offer_named x os)
    by true k = h.0
    by false k = k

pair_few : (n k : ℕ) (i : PlainItem) (o : Option Offer) → OfSome (λ (o : Offer). o.number ≤ n) o → (ps : List Pair) → PairsFew n ps
    → IfOk (pair_for k i o ps) (PairsFew n)
pair_few n k i None h ps r = r
pair_few n k i (Some o) h ps r = All-cons (λ (p : Pair). p.number ≤ n) (record { item = k; number = o.number }) ps h r

pairs_few : (n : ℕ) (os : List Offer) → OffersFew n os → (k : ℕ) (is : List PlainItem) → IfOk (pairs os k is) (PairsFew n)
unfolding pairs
pairs_few n os h k [] = All-nil (λ (p : Pair). p.number ≤ n)
pairs_few n os h k (i ∷ is) =
    then_ok Any (PairsFew n) (fits_item i (offer_named i.name os)) _ (any_ok (fits_item i (offer_named i.name os))) (λ u w.
    then_ok (PairsFew n) (PairsFew n) (pairs os (suc k) is) _ (pairs_few n os h (suc k) is) (λ ps r.
    pair_few n k i (offer_named i.name os) (offer_few n i.name os h) ps r))

record ExportsFew (n many : ℕ) (es : List Export) : Type 0 where
  count : length es ≡ many
  pairs : All (λ (e : Export). PairsFew n e.given) es

exported_few : (n : ℕ) (os : List Offer) → OffersFew n os → (fs : List PlainInterface) → IfOk (exported os fs) (ExportsFew n (length fs))
unfolding exported
exported_few n os h [] = record { count = refl; pairs = All-nil (λ (e : Export). PairsFew n e.given) }
exported_few n os h (f ∷ fs) =
    then_ok (PairsFew n) (ExportsFew n (length (f ∷ fs))) (pairs os 0 f.items) _ (pairs_few n os h 0 f.items) (λ ps r.
    then_ok (ExportsFew n (length fs)) (ExportsFew n (length (f ∷ fs))) (exported os fs) _ (exported_few n os h fs) (λ es k. record {
      count = ap suc k.count;
      pairs = All-cons (λ (e : Export). PairsFew n e.given) (record { face = face_of f; given = ps }) es r k.pairs;
    }))

-- ---- the module
record ShapeFew (n : ℕ) (x : t.Module) : Type 0 where
  imports : length x.imports ≤ n
  exports : length x.exports ≤ n
  pairs : All (λ (e : Export). PairsFew n e.given) x.exports

module_few : (n : ℕ) (m : s.Module) (is : List PlainInterface) (imports exports : List Identifier) → length imports ≤ n → length exports ≤ n
    → (r : Whole × State) → WholeFew n r.0 → IfOk (module_of m is imports exports r) (ShapeFew n)
module_few n m is imports exports i e r h =
    let given = those_of m.directory is exports in
    then_ok (ExportsFew n (length given)) (ShapeFew n) (exported (offers_of r.0.declared) given) _ (exported_few n (offers_of r.0.declared) h given)
    (λ es k. record {
      imports = omega (arith, i, imported_few (those_of m.directory is imports) r.1.used, those_few m.directory is imports);
      exports = omega (arith, e, k.count, those_few m.directory is exports);
      pairs = k.pairs;
    })

program_few : (n : ℕ) (m : s.Module) (is : List PlainInterface) (k : s.ModuleKind) → 1 + length m.directory + kind_nodes k ≤ n
    → IfOk (program_by m is k) (ShapeFew n)
unfolding kind_nodes inner_nodes
program_few n m is (s.Interface p opens ds) l = tt
program_few n m is (s.Program p imports exports opens inner) l =
    then_ok (λ _. FewNamed m is imports exports opens) (ShapeFew n) (lists m is imports exports opens) _ (lists_few m is imports exports opens) (λ u f.
    then_ok (λ (r : Whole × State). WholeFew n r.0) (ShapeFew n) (whole_of m is imports opens inner) (module_of m is imports exports)
    (whole_few n (enabled (is_catch inner.enable) (body_of (known_of m None true imports is) [] [])) m.name.place inner (omega (arith, l)) _)
    (λ r h. module_few n m is imports exports (omega (arith, f.0, l)) (omega (arith, f.1, l)) r h))

-- ---- what files can spell
ascend_few : (low high : ℕ) (ns : List ℕ) → low ≤ high → Ascend low high ns → low + length ns ≤ high
unfolding Ascend
ascend_few low high [] l h = omega (arith, l)
ascend_few low high (n ∷ ns) l h = omega (arith, h.0, ascend_few (suc n) high ns (omega (arith, h.1)) h.2)

abbrev FaceCan : Face → Type 0
FaceCan f = FaceCanBeSpelled f.name f.stamp (map plain_item f.items)

faces_can : (is : List Interface) → InterfacesCanBeSpelled (map plain_interface is) → All FaceCan (faces is)
unfolding InterfacesCanBeSpelled
faces_can [] h = All-nil FaceCan
faces_can (i ∷ is) h = All-cons FaceCan i.face (faces is) h.0.face (faces_can is h.1)

items_few : (f : Face) → FaceCan f → InFourBytes (length f.items)
items_few f h = omega (arith, h.count, length_of_map plain_item f.items)

imports_can : (is : List Interface) → All FaceCan (faces is) → (xs : List Import) → All (λ (i : Import). Contains (faces is) i.face) xs → ImportsInOrder xs
    → All ImportCanBeSpelled xs
unfolding ImportsInOrder
imports_can is h [] c o = All-nil ImportCanBeSpelled
imports_can is h (x ∷ xs) c o =
    let face : FaceCan x.face = All-contains FaceCan (faces is) x.face h (All-head (λ (i : Import). Contains (faces is) i.face) x xs c) in
    All-cons ImportCanBeSpelled x xs
    (record { face = face; count = omega (arith, items_few x.face face, ascend_few 0 (length x.face.items) x.used (omega arith) o.0); used = o.0 })
    (imports_can is h xs (All-tail (λ (i : Import). Contains (faces is) i.face) x xs c) o.1)

numbers_can : (ps : List Pair) → PairsFew 2097152 ps → All (λ (p : Pair). InFourBytes p.number) ps
numbers_can [] h = All-nil (λ (p : Pair). InFourBytes p.number)
numbers_can (p ∷ ps) h = All-cons (λ (p : Pair). InFourBytes p.number) p ps (omega (arith, All-head (λ (p : Pair). p.number ≤ 2097152) p ps h))
    (numbers_can ps (All-tail (λ (p : Pair). p.number ≤ 2097152) p ps h))

exports_can : (is : List Interface) → All FaceCan (faces is) → (xs : List Export) → All (λ (e : Export). Contains (faces is) e.face) xs → ExportsInOrder xs
    → All (λ (e : Export). PairsFew 2097152 e.given) xs → All ExportCanBeSpelled xs
unfolding ExportsInOrder
exports_can is h [] c o f = All-nil ExportCanBeSpelled
exports_can is h (x ∷ xs) c o f =
    let face : FaceCan x.face = All-contains FaceCan (faces is) x.face h (All-head (λ (e : Export). Contains (faces is) e.face) x xs c) in
    All-cons ExportCanBeSpelled x xs (record {
      face = face;
      count = omega (
        arith,
        items_few x.face face,
        ascend_few 0 (length x.face.items) (item_numbers x.given) (omega arith) o.0,
        length_of_map (λ (p : Pair). p.item) x.given,
      );
      items = o.0;
      numbers = numbers_can x.given (All-head (λ (e : Export). PairsFew 2097152 e.given) x xs f);
    })
    (exports_can is h xs (All-tail (λ (e : Export). Contains (faces is) e.face) x xs c) o.1 (All-tail (λ (e : Export). PairsFew 2097152 e.given) x xs f))

record Given (m : s.Module) (is : List Interface) (x : t.Module) : Type 0 where
  name : x.name ≡ m.name.name
  imports : All (λ (i : Import). Contains (faces is) i.face) x.imports
  exports : All (λ (e : Export). Contains (faces is) e.face) x.exports

record Ordered (x : t.Module) : Type 0 where
  imports : ImportsInOrder x.imports
  exports : ExportsInOrder x.exports

module _ (m : s.Module) (is : List Interface) where
  given : IfOk (checked m is) (Given m is)
  given = both_ok (λ (x : t.Module). x.name ≡ m.name.name)
      (λ (x : t.Module). All (λ (i : Import). Contains (faces is) i.face) x.imports × All (λ (e : Export). Contains (faces is) e.face) x.exports)
      (Given m is) (checked m is) (shapes_given.name m is)
      (both_ok (λ (x : t.Module). All (λ (i : Import). Contains (faces is) i.face) x.imports)
      (λ (x : t.Module). All (λ (e : Export). Contains (faces is) e.face) x.exports) (λ (x : t.Module).
      All (λ (i : Import). Contains (faces is) i.face) x.imports × All (λ (e : Export). Contains (faces is) e.face) x.exports) (checked m is)
      (shapes_given.imports m is) (shapes_given.exports m is) (λ x h k. (h, k)))
      (λ x h k. record { name = h; imports = k.0; exports = k.1 })

  ordered : IfOk (checked m is) Ordered
  ordered = both_ok (λ (x : t.Module). ImportsInOrder x.imports) (λ (x : t.Module). ExportsInOrder x.exports) Ordered (checked m is)
      (shapes_in_order.imports m is) (shapes_in_order.exports m is) (λ x h k. record { imports = h; exports = k })

  few : IsOfTextSize m → IfOk (checked m is) (ShapeFew 2097152)
  unfolding checked module_nodes
  few size = let l : module_nodes m ≤ 2097152 = size in program_few 2097152 m (map plain_interface is) m.kind (omega (arith, l))

pub modules_can_be_spelled : ModulesCanBeSpelled
unfolding HasNames
modules_can_be_spelled m is named size h =
    let fs = faces_can is h in
    both_ok (λ (x : t.Module). Given m is x × Ordered x) (ShapeFew 2097152) (λ (x : t.Module). ShapeCanBeSpelled (shape_of x)) (checked m is)
    (both_ok (Given m is) Ordered (λ (x : t.Module). Given m is x × Ordered x) (checked m is) (given m is) (ordered m is) (λ x g o. (g, o)))
    (few m is size) (λ x g f. record {
      name = subst IsName (sym g.0.name) named.1;
      import_count = omega (arith, f.imports);
      imports = imports_can is fs x.imports g.0.imports g.1.imports;
      export_count = omega (arith, f.exports);
      exports = exports_can is fs x.exports g.0.exports g.1.exports f.pairs;
    })
