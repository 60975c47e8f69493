-- Programs and interfaces keep the count of nodes, and their faults stand in the text.
use Rattle.std.specs.Prelude.{ℕ, suc, ◌≡◌, ◌+◌, ◌*◌, ◌≤◌, Bool, true, false, not, Option, Some, None, Ok, Err, List, [], ◌∷◌, ◌++◌, length, map, sum, nat_le, if◌then◌else◌, bytes_eq, is_some, IfOk, IfErr}
use Rattle.std.specs.List.{Contains}
use Rattle.std.proofs.lemmas.List.Elements.{All-contains_itself}
use Rattle.std.proofs.lemmas.List.Sums.{sum-map, sum_by-cons}
use Rattle.std.proofs.Common.{refl, arith, ap}
use Rattle.mesa_base.specs.declared.limits.TheConstants.{OPERAND_WORDS, SIGNAL_WORDS, LOCAL_WORDS}
use Rattle.mesa_base.specs.declared.place.Place.{Place}
use Rattle.mesa_base.specs.declared.identifier.Identifier.{Identifier}
use Rattle.syntax_trees.specs.Syntax as s
use Rattle.mesa_types.specs.Shapes.{words_in_all}
use Rattle.mesa_types.specs.Nodes as tn
use Rattle.syntax_trees.specs.SyntaxNodes as sn
use Rattle.mesa_types.specs.declared.faces.Pair.{Pair}
use Rattle.mesa_types.specs.declared.faces.ItemKind.{ItemKind}
use Rattle.mesa_types.specs.declared.faces.ItemKind.TheVariants as item
use Rattle.mesa_types.specs.declared.types.FieldType.{FieldType}
use Rattle.mesa_types.specs.declared.types.TypeTree.TheFolds.{fold-FieldType, fold-roll-FieldType}
use Rattle.syntax_trees.specs.declared.syntax.Access.{Access}
use Rattle.syntax_trees.specs.declared.syntax.Access.TheVariants.{Public, Private}
use Rattle.syntax_trees.specs.declared.syntax.DirectoryItem.{DirectoryItem}
use Rattle.interface_records.specs.declared.interface.Interface.{Interface}
use Rattle.check_rules.specs.Typed as t
use Rattle.interface_records.specs.PlainTypes.{PlainType, PlainField, PlainItem, PlainInterface, item_of, field_of, plain_interface, words_of_fields}
use Rattle.check_rules.specs.Scopes.{Scope, nothing, has}
use Rattle.check_rules.specs.Meanings.{Meaning}
use Rattle.check_rules.specs.Meanings as meaning
use Rattle.check_rules.specs.Steps.{Fault, State, Check, Checked, ◌>>=◌, pure, in_scope, ensure}
use Rattle.check_rules.specs.Around.{Around, Known, body_of, inside, with_labels, in_constant}
use Rattle.check_rules.specs.Parts.{first, first_name, each_of}
use Rattle.check_rules.specs.Ranges.{Into}
use Rattle.check_rules.specs.Statements.{labels_of_exits}
use Rattle.check_rules.specs.Phrases.{is_catch}
use Rattle.check_rules.specs.Checking.{block, phrase, statements, exits}
use Rattle.check_rules.specs.Programs.{heads_further, fault_or, told, before_others, declaration, behind_top, heads_are_done, named_parameters, parameters, Heading, own_scope, coming_scope, heading, named_item, Offer, Stated, DataHead, ProcedureHead, SignalHead, Declared, if_public, procedure_offer, signal_offers, signal_meanings, first_item, declared_procedure, declared_signals, declared, all_declared, signals_of, offers_of, fresh, in_frame, frame, procedure, Values, value_of, values_of, offer_named, is_for, pair_for, fits_item, pairs, exported, Whole, marked_if, enabled, outermost, body_block, whole_in}
use Rattle.check_rules.specs.Directory.{used_names, using, directory, listed, first_entry, entries, those_of, names_in}
use Rattle.check_rules.specs.Parts.{names_of}
use Rattle.check_rules.specs.Definitions as d
use Rattle.check_rules.specs.CheckedModule.{checked, checked_definitions, lists, module_of, program, program_by, interface_by, definitions, known_of}
use Rattle.check_rules.specs.declared.fault.Cause.TheVariants.{UnknownName, TwiceDeclared, ExportDiffers, FrameTooLarge}
use Rattle.check_rules.specs.Laws.{TypedTreesHaveFewNodes, FaultsStandInTheText}
use Rattle.check_rules.specs.Places as places
use Rattle.typing_laws.proofs.Keeping.{From, same_scopes, later_still, kept_as, kept_map, Kept, OfSome, Gives, Keeps, Anything, Have, have_all, bind, give, lifting, weaker, and_gives, all_right, refused, only_if, ensured, within, inside_scope, measuring, first_part as before, last_part as behind}
use Rattle.typing_laws.proofs.KeptNames.{ConstantStands, announced, has_settled}
use Rattle.typing_laws.proofs.KeptStatements.{HomesFit, first_stands, first_name_stands, names_stand, constant_kept, join_size}
use Rattle.typing_laws.proofs.Kept.{Unnamed, check_kept, type_exp_kept, unnamed_fields_kept, head_kept, initial_value_kept, block_kept, phrase_kept, statements_kept, exits_kept}

-- the fields that have a name
abbrev pub named : List PlainField → ℕ
named [] = 0
named (f ∷ fs) = tn.one_if_named f.name + named fs

abbrev name_nodes : FieldType → ℕ
name_nodes = fold-FieldType ℕ ℕ (λ _. 0) (λ f. tn.one_if_named f.name)

named_nodes : (f : PlainField) → name_nodes (field_of f) ≡ tn.one_if_named f.name
named_nodes f = simp fold-roll-FieldType

names_in_fields : (fs : List PlainField) → tn.names_in (map field_of fs) ≡ named fs
unfolding tn.names_in
names_in_fields [] = refl
names_in_fields (f ∷ fs) = let h : tn.names_in (map field_of fs) ≡ named fs = names_in_fields fs in
    omega (
      arith,
      named_nodes f,
      sum-map name_nodes (map field_of (f ∷ fs)),
      sum-map name_nodes (map field_of fs),
      sum_by-cons name_nodes (field_of f)
          (map field_of fs),
    )

each_named : (k : PlainType) (xs : List Identifier) (fs : List PlainField) → named (each_of k xs ++ fs) ≡ length xs + named fs
unfolding tn.one_if_named
each_named k [] fs = omega arith
each_named k (x ∷ xs) fs = let h : named (each_of k xs ++ fs) ≡ length xs + named fs = each_named k xs fs in omega arith

none_named : (fs : List PlainField) → Unnamed fs → named fs ≡ 0
unfolding tn.one_if_named
none_named [] h = refl
none_named (f ∷ fs) h = let k : named fs ≡ 0 = none_named fs h.1 in omega (arith, ap tn.one_if_named h.0)

-- the nodes of procedures
procedures_more : (p : t.Procedure) (ps : List t.Procedure) → sum (map tn.procedure_nodes (p ∷ ps)) ≡ tn.procedure_nodes p + sum (map tn.procedure_nodes ps)
procedures_more p ps = omega (arith, sum-map tn.procedure_nodes (p ∷ ps), sum-map tn.procedure_nodes ps, sum_by-cons tn.procedure_nodes p ps)

abbrev pub procedures_nodes : List t.Procedure → ℕ
procedures_nodes ps = sum (map tn.procedure_nodes ps)

abbrev pub values_nodes : Values → ℕ
values_nodes x = procedures_nodes x.procedures + tn.stmts_nodes x.statements

abbrev pub HeadingFits : Option s.FieldList → Option s.FieldList → Heading → Type 0
HeadingFits takes gives h = named h.takes + named h.gives ≤ sn.maybe_fields_nodes takes + sn.maybe_fields_nodes gives

abbrev pub StatedFits : List Identifier → s.Declared → Stated → Type 0
StatedFits xs (s.Data d) (DataHead h) = HomesFit xs h
StatedFits xs (s.Procedure h b) (ProcedureHead i scope n) = named i.takes + named i.gives ≤ sn.maybe_fields_nodes h.takes + sn.maybe_fields_nodes h.gives
StatedFits xs _ _ = Unit {0}

-- signals that a declaration declares
abbrev pub signals_in : List Identifier → s.Declared → ℕ
signals_in xs (s.Signal h) = length xs
signals_in xs (s.Error takes) = length xs
signals_in xs (s.Procedure h b) = 0
signals_in xs (s.Data d) = 0

abbrev pub OffersStand : (Place → Type 0) → List Offer → Type 0
OffersStand Stands [] = Unit {0}
OffersStand Stands (o ∷ os) = Stands o.name.place × OffersStand Stands os

pub record DeclaredFits (Stands : Place → Type 0) (xs : List Identifier) (d : s.Declared) (x : Declared) : Type 0 where
  pub stated : StatedFits xs d x.head
  pub signals : length x.signals ≤ signals_in xs d
  pub offers : OffersStand Stands x.offers

abbrev pub AllFit : (Place → Type 0) → List s.Declaration → List Declared → Type 0
AllFit Stands [] [] = Unit {0}
AllFit Stands [] (x ∷ xs) = ⊥
AllFit Stands (d ∷ ds) [] = Unit {0}
AllFit Stands (d ∷ ds) (x ∷ xs) = DeclaredFits Stands d.names d.declared x × AllFit Stands ds xs

-- a program's body, its procedures and its signals
pub record WholeFits (Stands : Place → Type 0) (inner : s.Inner) (x : Whole) : Type 0 where
  pub nodes : procedures_nodes x.procedures + tn.stmt_nodes x.body.does + length (signals_of x.declared) ≤ 2 * sn.inner_nodes inner
  pub offers : OffersStand Stands (offers_of x.declared)

module _ (Stands : Place → Type 0) where
  after_coming : {B : Type 0} {Q : B → Type 0} (f : Scope Meaning → Check B) → ((x : Scope Meaning) → Keeps Stands Q (f x))
      → Keeps Stands Q (coming_scope >>= f)
  after_coming f h = record { in_state = λ σ. (h σ.coming).in_state σ }

  -- what a step gives in a state, whatever it leaves of its scopes
  in_start : {A : Type 0} {P : A → Type 0} {c : Check A} → Keeps Stands P c → (σ : State) → Gives Stands (λ (x : A × State). P x.0) (c σ)
  in_start {A} {P} {c} h σ = record { kept = kept_as Stands (From P σ) (λ (x : A × State). P x.0) (c σ) (h.in_state σ) (λ x p. p.0) }

  then_in : {A B : Type 0} {P : A → Type 0} (Q : B → Type 0) {c : Check A} (f : A → Check B) → Keeps Stands P c
      → ((a : A) → P a → (σ : State) → Gives Stands (λ (x : B × State). Q x.0) (f a σ))
      → (σ : State) → Gives Stands (λ (x : B × State). Q x.0) ((c >>= f) σ)
  then_in {A} {B} {P} Q {c} f h k σ = and_gives {P = λ (x : A × State). P x.0} {Q = λ (x : B × State). Q x.0} {r = c σ} {f = λ r. f r.0 r.1}
      (in_start {P = P} {c = c} h σ) (λ r p. k r.0 p r.1)

  -- a declaration, of which the heads further on tell no more than its fault
  or_fault : {A : Type 0} (P : A → Type 0) (e : Fault) (r : Checked A) → Stands e.place → Kept Stands P r → Kept Stands P (fault_or e r)
  or_fault P e (Ok a) h k = h
  or_fault P e (Err f) h k = k

  told_kept : {A : Type 0} (P : A → Type 0) (r : Checked A) (again : Unit {0} → Checked A) → Kept Stands P r → Kept Stands P (again tt)
      → Kept Stands P (told r again)
  told_kept P (Ok a) again h k = h
  told_kept P (Err e) again h k = or_fault P e (again tt) h k

  before_others_kept : {D A : Type 0} {P : A → Type 0} (names : D → List Identifier) (rule : Around → D → Check A) (a : Around) (d : D) (ds : List D)
      → ((f : Scope Meaning) → Keeps Stands P (rule (record a { further = f }) d)) → Keeps Stands P (before_others names rule a d ds)
  before_others_kept {D} {A} {P} names rule a d ds h = record {
    in_state = λ σ. told_kept (From P σ) (rule a d σ) (λ u. rule (record a { further = heads_further names (rule a) (names d) ds σ }) d σ)
        ((h a.further).in_state σ) ((h (heads_further names (rule a) (names d) ds σ)).in_state σ);
  }

  named_parameters_kept : (a : Around) → ConstantStands Stands a.constant → (fs : s.NamedFields) → Have Stands (places.of_named fs)
      → Keeps Stands (λ (x : List PlainField). named x ≤ sn.named_fields_nodes fs) (named_parameters a fs)
  unfolding named_parameters places.of_named sn.named_fields_nodes
  named_parameters_kept a c s.NoFields h = give (omega arith)
  named_parameters_kept a c (s.AndFields xs e rest) h =
      let after : Have Stands (places.of_type e ++ places.of_named rest) =
      behind Stands (places.of_identifiers xs) (places.of_type e ++ places.of_named rest) h in
      bind (announced Stands xs (before Stands (places.of_identifiers xs) _ h)) (λ u w.
      bind (type_exp_kept Stands a c e (before Stands (places.of_type e) _ after)) (λ k w.
      bind (named_parameters_kept a c rest (behind Stands (places.of_type e) _ after)) (λ fs q.
      give (omega (arith, each_named k xs fs)))))

  parameters_kept : (a : Around) → ConstantStands Stands a.constant → (fs : Option s.FieldList) → Have Stands (places.of_maybe_fields fs)
      → Keeps Stands (λ (x : List PlainField). named x ≤ sn.maybe_fields_nodes fs) (parameters a fs)
  unfolding places.of_fields sn.maybe_fields_nodes sn.field_list_nodes
  parameters_kept a c None h = give (omega arith)
  parameters_kept a c (Some (s.WithNames fs)) h = named_parameters_kept a c fs h
  parameters_kept a c (Some (s.Unnamed ts)) h = weaker (unnamed_fields_kept Stands a c ts h) (λ x q. omega (arith, none_named x q))

  heading_kept : (a : Around) → ConstantStands Stands a.constant → (takes gives : Option s.FieldList) → Have Stands (places.of_maybe_fields takes)
      → Have Stands (places.of_maybe_fields gives)
      → Keeps Stands (HeadingFits takes gives) (heading a takes gives)
  unfolding heading
  heading_kept a c takes gives h k = inside_scope nothing {c =
      parameters (inside a) takes >>= (λ fs. parameters (inside a) gives >>= (λ gs. coming_scope >>= (λ scope.
      pure (record { takes = fs; gives = gs; scope = own_scope fs gs scope }))))} (
      bind (parameters_kept (inside a) c takes h) (λ fs q.
      bind (parameters_kept (inside a) c gives k) (λ gs r.
      after_coming (λ scope. pure (record { takes = fs; gives = gs; scope = own_scope fs gs scope })) (λ scope. give (omega arith)))))

  public_stand : (access : Option Access) (os : List Offer) → OffersStand Stands os → OffersStand Stands (if_public access os)
  public_stand (Some Public) os h = h
  public_stand (Some Private) os h = tt
  public_stand None os h = tt

  procedures_stand : (n : ℕ) (i : PlainItem) (xs : List Identifier) → Have Stands (places.of_identifiers xs) → OffersStand Stands (map (procedure_offer n i) xs)
  procedures_stand n i [] h = tt
  procedures_stand n i (x ∷ xs) h = (h.0, procedures_stand n i xs h.1)

  signals_stand : (n : ℕ) (xs : List Identifier) (is : List PlainItem) → Have Stands (places.of_identifiers xs) → OffersStand Stands (signal_offers n xs is)
  unfolding signal_offers
  signals_stand n [] [] h = tt
  signals_stand n [] (i ∷ is) h = tt
  signals_stand n (x ∷ xs) [] h = tt
  signals_stand n (x ∷ xs) (i ∷ is) h = (h.0, signals_stand (n + 1) xs is h.1)

  first_item_named : (h : Heading) (xs : List Identifier) → named (first_item h xs).takes + named (first_item h xs).gives ≡ named h.takes + named h.gives
  first_item_named h [] = refl
  first_item_named h (x ∷ xs) = refl

  -- declarations
  declared_procedure_kept : (xs : List Identifier) → Have Stands (places.of_declared_names xs)
      → (access : Option Access) (n : ℕ) (h : s.Head) (b : s.Block) (x : Heading × ℕ)
      → HeadingFits h.takes h.gives x.0 → Keeps Stands (DeclaredFits Stands xs (s.Procedure h b)) (declared_procedure xs access n x)
  declared_procedure_kept xs k access n h b x f = bind (has_settled Stands xs (map (λ y. meaning.Procedure (t.OwnProcedure n) (first_item x.0 xs)) xs)) (λ u w.
      give (record {
        stated = omega (arith, first_item_named x.0 xs);
        signals = omega arith;
        offers = public_stand access (map (procedure_offer n (first_item x.0 xs)) xs) (procedures_stand n (first_item x.0 xs) xs (names_stand Stands xs k));
      }))

  length_of_map : {A B : Type 0} (f : A → B) (xs : List A) → length (map f xs) ≡ length xs
  length_of_map f [] = refl
  length_of_map f (x ∷ xs) = ap suc (length_of_map f xs)

  declared_signals_kept : (kind : ItemKind) (xs : List Identifier) → Have Stands (places.of_declared_names xs)
      → (access : Option Access) (n : ℕ) (d : s.Declared) → length xs ≤ signals_in xs d → StatedFits xs d SignalHead
      → (x : Heading) → Keeps Stands (DeclaredFits Stands xs d) (declared_signals kind xs access n x)
  declared_signals_kept kind xs k access n d few fits x =
      bind (ensured (nat_le (words_of_fields x.takes + words_of_fields x.gives) SIGNAL_WORDS) FrameTooLarge (first_name xs) (first_name_stands Stands xs k))
      (λ u w.
      bind (has_settled Stands xs (signal_meanings n (map (named_item kind x) xs))) (λ u w.
      give (record {
        stated = fits;
        signals = omega (arith, length_of_map (named_item kind x) xs);
        offers = public_stand access (signal_offers n xs (map (named_item kind x) xs))
            (signals_stand n xs (map (named_item kind x) xs) (names_stand Stands xs k));
      })))

  declared_kept : (a : Around) → ConstantStands Stands a.constant → (np ns : ℕ) (xs : List Identifier) → Have Stands (places.of_declared_names xs)
      → (access : Option Access) (d : s.Declared) → Have Stands (places.of_declared d)
      → Keeps Stands (DeclaredFits Stands xs d) (declared a np ns xs access d)
  unfolding declared
  declared_kept a c np ns xs k access (s.Data d) h =
      bind (head_kept Stands a c xs k d h) (λ x q. give (record { stated = q; signals = omega arith; offers = tt }))
  declared_kept a c np ns xs k access (s.Procedure h b) g =
      bind (announced Stands xs (names_stand Stands xs k)) (λ u w.
      bind (measuring (heading_kept a c h.takes h.gives (before Stands (places.of_maybe_fields h.takes) _ (before Stands (places.of_head h) _ g))
      (behind Stands (places.of_maybe_fields h.takes) _ (before Stands (places.of_head h) _ g)))) (λ x q.
      declared_procedure_kept xs k access np h b x q))
  declared_kept a c np ns xs k access (s.Signal h) g = within 0 (first_name xs) (first_name_stands Stands xs k) (
      bind (announced Stands xs (names_stand Stands xs k)) (λ u w.
      bind (heading_kept a c h.takes h.gives (before Stands (places.of_maybe_fields h.takes) _ g) (behind Stands (places.of_maybe_fields h.takes) _ g)) (λ x q.
      declared_signals_kept item.Signal xs k access ns (s.Signal h) (omega arith) tt x)))
  declared_kept a c np ns xs k access (s.Error takes) g = within 0 (first_name xs) (first_name_stands Stands xs k) (
      bind (announced Stands xs (names_stand Stands xs k)) (λ u w.
      bind (heading_kept a c takes None g tt) (λ x q.
      declared_signals_kept item.Error xs k access ns (s.Error takes) (omega arith) tt x)))

  all_declared_kept : (a : Around) → ConstantStands Stands a.constant → (np ns : ℕ) (ds : List s.Declaration) → Have Stands (places.of_declarations ds)
      → Keeps Stands (AllFit Stands ds) (all_declared a np ns ds)
  unfolding all_declared places.of_declarations
  all_declared_kept a c np ns [] h = give tt
  all_declared_kept a c np ns (d ∷ ds) h =
      let after : Have Stands (places.of_declared d.declared ++ places.of_declarations ds) =
      behind Stands (places.of_declared_names d.names) (places.of_declared d.declared ++ places.of_declarations ds) h in
      bind (before_others_kept (λ (e : s.Declaration). e.names) (declaration np ns) a d ds
      (λ f. declared_kept (record a { further = f }) c np ns d.names (before Stands (places.of_declared_names d.names) _ h) d.access d.declared
      (before Stands (places.of_declared d.declared) _ after))) (λ x q.
      bind (all_declared_kept a c (np + x.procedures) (ns + length x.signals) ds (behind Stands (places.of_declared d.declared) _ after)) (λ more w.
      give (q, w)))

  offers_append : (os ps : List Offer) → OffersStand Stands os → OffersStand Stands ps → OffersStand Stands (os ++ ps)
  offers_append [] ps h k = k
  offers_append (o ∷ os) ps h k = (h.0, offers_append os ps h.1 k)

  offers_stand : (ds : List s.Declaration) (xs : List Declared) → AllFit Stands ds xs → OffersStand Stands (offers_of xs)
  unfolding offers_of
  offers_stand [] [] h = tt
  offers_stand [] (x ∷ xs) h = absurd h
  offers_stand (d ∷ ds) [] h = tt
  offers_stand (d ∷ ds) (x ∷ xs) h = offers_append x.offers (offers_of xs) h.0.offers (offers_stand ds xs h.1)

  -- bodies
  framed : {A : Type 0} {P : A → Type 0} {c : Check A} → Keeps Stands P c → Keeps Stands P (in_frame c)
  framed {A} {P} {c} h = record {
    in_state = λ σ. kept_map Stands (From P (fresh σ)) (From P σ) (λ r. (r.0, record r.1 { variables = σ.variables; hidden = σ.hidden })) (c (fresh σ))
        (h.in_state (fresh σ))
        (λ r p. (
          p.0,
          later_still σ r.1 (record r.1 { variables = σ.variables; hidden = σ.hidden })
              (later_still σ (fresh σ) r.1 (same_scopes σ (fresh σ) refl) p.1)
              (same_scopes r.1 (record r.1 { variables = σ.variables; hidden = σ.hidden }) refl),
        ));
  }

  frame_kept : (takes gives : List PlainField) (p : Place) → Stands p → Keeps Stands Anything (frame takes gives p)
  frame_kept takes gives p h = record {
    in_state = λ σ. (and_gives {Stands = Stands} {P = Anything} {Q = From Anything σ}
        (only_if (nat_le (words_of_fields takes + words_of_fields gives + words_in_all σ.variables + σ.hidden) LOCAL_WORDS) FrameTooLarge p h)
        (λ u w. all_right (tt, same_scopes σ σ refl))).kept;
  }

  procedure_kept : (known : Known) (xs : List Identifier) → Have Stands (places.of_declared_names xs)
      → (i : PlainItem) (scope : Scope Meaning) (operands : ℕ) (b : s.Block) → Have Stands (places.of_block b)
      → Keeps Stands (λ (x : t.Procedure). tn.procedure_nodes x ≤ 1 + named i.takes + named i.gives + 2 * sn.block_nodes b)
      (procedure known xs i scope operands b)
  unfolding procedure tn.procedure_nodes
  procedure_kept known xs k i scope operands b h =
      framed {c = in_scope scope (block (body_of known i.takes i.gives) b) >>= (λ does. frame i.takes i.gives (first_name xs) >>= (λ variables.
      ensure (nat_le operands OPERAND_WORDS) FrameTooLarge (first_name xs) >>=
      (λ u. pure (record { head = item_of i; body = record { variables = variables; does = does } }))))} (
      bind (inside_scope scope (block_kept Stands (body_of known i.takes i.gives) tt b h)) (λ does q.
      bind (frame_kept i.takes i.gives (first_name xs) (first_name_stands Stands xs k)) (λ variables w.
      bind (ensured (nat_le operands OPERAND_WORDS) FrameTooLarge (first_name xs) (first_name_stands Stands xs k)) (λ u w.
      give (omega (arith, q, names_in_fields i.takes, names_in_fields i.gives))))))

  -- a declaration's value, behind what it declares
  value_of_kept : (a : Around) → ConstantStands Stands a.constant → (xs : List Identifier) → Have Stands (places.of_declared_names xs)
      → (d : s.Declared) (x : Stated) → StatedFits xs d x → Have Stands (places.of_declared d)
      → Keeps Stands (λ (put : Values → Values). (y : Values)
      → values_nodes (put y) + signals_in xs d ≤ 2 * (length xs + sn.declared_nodes d) + values_nodes y) (value_of a xs d x)
  unfolding value_of sn.declared_nodes sn.head_nodes
  value_of_kept a c xs k (s.Data d) (DataHead h) f g = bind (initial_value_kept Stands a c xs k d h f g) (λ put q. give (λ y. omega (arith, q y.statements)))
  value_of_kept a c xs k (s.Procedure h b) (ProcedureHead i scope operands) f g =
      bind (procedure_kept a.known xs k i scope operands b (behind Stands (places.of_head h) _ g))
      (λ p q. give (λ y. omega (arith, q, procedures_more p y.procedures)))
  value_of_kept a c xs k (s.Data d) (ProcedureHead i scope operands) f g = give (λ y. omega arith)
  value_of_kept a c xs k (s.Data d) SignalHead f g = give (λ y. omega arith)
  value_of_kept a c xs k (s.Procedure h b) (DataHead x) f g = give (λ y. omega arith)
  value_of_kept a c xs k (s.Procedure h b) SignalHead f g = give (λ y. omega arith)
  value_of_kept a c xs k (s.Signal h) x f g = give (λ y. omega arith)
  value_of_kept a c xs k (s.Error takes) x f g = give (λ y. omega arith)

  length_append : {A : Type 0} (xs ys : List A) → length (xs ++ ys) ≡ length xs + length ys
  length_append [] ys = omega arith
  length_append (x ∷ xs) ys = let h : length (xs ++ ys) ≡ length xs + length ys = length_append xs ys in omega arith

  values_of_kept : (a : Around) → ConstantStands Stands a.constant → (ds : List s.Declaration) (xs : List Declared) → AllFit Stands ds xs
      → Have Stands (places.of_declarations ds)
      → Keeps Stands (λ (y : Values). values_nodes y + length (signals_of xs) ≤ 2 * sn.declarations_nodes ds) (values_of a ds xs)
  unfolding values_of signals_of places.of_declarations sn.declarations_nodes sn.declaration_nodes tn.stmts_nodes
  values_of_kept a c [] [] f h = give (omega arith)
  values_of_kept a c [] (x ∷ xs) f h = absurd f
  values_of_kept a c (d ∷ ds) [] f h = give (omega arith)
  values_of_kept a c (d ∷ ds) (x ∷ xs) f h =
      let after : Have Stands (places.of_declared d.declared ++ places.of_declarations ds) =
      behind Stands (places.of_declared_names d.names) (places.of_declared d.declared ++ places.of_declarations ds) h in
      bind (value_of_kept a c d.names (before Stands (places.of_declared_names d.names) _ h) d.declared x.head f.0.stated
      (before Stands (places.of_declared d.declared) _ after)) (λ put q.
      bind (values_of_kept a c ds xs f.1 (behind Stands (places.of_declared d.declared) _ after)) (λ y w.
      give (omega (arith, q y, w, f.0.signals, length_append x.signals (signals_of xs)))))

  -- exports
  if_found : (b : Bool) (o : Offer) (p : Option Offer) → Stands o.name.place → OfSome (λ (o : Offer). Stands o.name.place) p
      → OfSome (λ (o : Offer). Stands o.name.place) (if b then Some o else p)
  if_found true o p h k = h
  if_found false o p h k = k

  offer_stands : (x : List ℕ) (os : List Offer) → OffersStand Stands os → OfSome (λ (o : Offer). Stands o.name.place) (offer_named x os)
  unfolding offer_named
  offer_stands x [] h = tt
  offer_stands x (o ∷ os) h = if_found (bytes_eq x o.name.name) o (offer_named x os) h.0 (offer_stands x os h.1)

  fits_kept : (i : PlainItem) (o : Option Offer) → OfSome (λ (o : Offer). Stands o.name.place) o → Gives Stands Anything (fits_item i o)
  fits_kept i None h = all_right tt
  fits_kept i (Some o) h = only_if (is_for o.item i) ExportDiffers o.name.place h

  pair_kept : (n : ℕ) (i : PlainItem) (o : Option Offer) (rest : List Pair) → Gives Stands Anything (pair_for n i o rest)
  pair_kept n i None rest = all_right tt
  pair_kept n i (Some o) rest = all_right tt

  pairs_kept : (os : List Offer) → OffersStand Stands os → (n : ℕ) (is : List PlainItem) → Gives Stands Anything (pairs os n is)
  unfolding pairs
  pairs_kept os h n [] = all_right tt
  pairs_kept os h n (i ∷ is) = and_gives (fits_kept i (offer_named i.name os) (offer_stands i.name os h)) (λ u w.
      and_gives (pairs_kept os h (suc n) is) (λ ps w. pair_kept n i (offer_named i.name os) ps))

  exported_kept : (os : List Offer) → OffersStand Stands os → (is : List PlainInterface) → Gives Stands Anything (exported os is)
  unfolding exported
  exported_kept os h [] = all_right tt
  exported_kept os h (i ∷ is) = and_gives (pairs_kept os h 0 i.items) (λ ps w. and_gives (exported_kept os h is) (λ es w. all_right tt))

  -- the module
  marked_size : (b : Bool) (x : t.Stmt) → tn.stmt_nodes (marked_if b x) ≡ tn.stmt_nodes x
  unfolding tn.stmt_nodes
  marked_size true x = refl
  marked_size false x = refl

  enabled_stands : (b : Bool) (known : Known) → ConstantStands Stands (enabled b (body_of known [] [])).constant
  enabled_stands true known = tt
  enabled_stands false known = tt

  -- what stands behind the heads
  abbrev rest_of : Around → Place → s.Inner → List Declared → Check Whole
  rest_of a p inner ds = phrase (with_labels (labels_of_exits inner.exits) a) inner.enable >>= (λ w.
      values_of (with_labels (labels_of_exits inner.exits) a) inner.declarations ds >>= (λ vs.
      statements (with_labels (labels_of_exits inner.exits) a) inner.statements >>= (λ ss.
      exits a a.labelled [] inner.exits >>= (λ es.
      frame [] [] p >>= (λ variables. pure (record {
        declared = ds;
        procedures = vs.procedures;
        body = record { variables = variables; does = marked_if (is_catch inner.enable) (body_block w vs.statements ss es) };
      }))))))

  whole_in_kept : (a : Around) → ConstantStands Stands a.constant → (p : Place) → Stands p → (inner : s.Inner) → Have Stands (places.of_inner inner)
      → (σ : State) → Gives Stands (λ (x : Whole × State). WholeFits Stands inner x.0) (whole_in a p inner σ)
  unfolding whole_in sn.inner_nodes tn.stmt_nodes
  whole_in_kept a c p here inner h =
      let declared : Have Stands (places.of_declarations inner.declarations ++ (places.of_stmts inner.statements ++ places.of_exits inner.exits)) =
      behind Stands (places.of_phrase inner.enable) _ h in
      let after : Have Stands (places.of_stmts inner.statements ++ places.of_exits inner.exits) =
      behind Stands (places.of_declarations inner.declarations) _ declared in
      then_in (WholeFits Stands inner) (λ ds. heads_are_done >>= (λ u. rest_of a p inner ds))
      (all_declared_kept (outermost (with_labels (labels_of_exits inner.exits) a)) c 1 0 inner.declarations
      (before Stands (places.of_declarations inner.declarations) _ declared)) (λ ds f σ.
      in_start {c = rest_of a p inner ds} (
      bind (phrase_kept Stands (with_labels (labels_of_exits inner.exits) a) c inner.enable (before Stands (places.of_phrase inner.enable) _ h)) (λ w q.
      bind (values_of_kept (with_labels (labels_of_exits inner.exits) a) c inner.declarations ds f
      (before Stands (places.of_declarations inner.declarations) _ declared)) (λ vs x.
      bind (statements_kept Stands (with_labels (labels_of_exits inner.exits) a) c inner.statements (before Stands (places.of_stmts inner.statements) _ after))
      (λ ss y.
      bind (exits_kept Stands a c a.labelled [] inner.exits (behind Stands (places.of_stmts inner.statements) _ after)) (λ es z.
      bind (frame_kept [] [] p here) (λ variables u.
      give (record {
        nodes = omega (arith, x, marked_size (is_catch inner.enable) (body_block w vs.statements ss es), join_size Stands vs.statements ss);
        offers = offers_stand inner.declarations ds f;
      }))))))) (record σ { scopes = behind_top σ.scopes }))

  -- the lists that name interfaces
  used_names_kept : (scope : Scope Meaning) (taken : List (List ℕ)) (xs : List Identifier) → Have Stands (places.of_identifiers xs)
      → Gives Stands Anything (used_names scope taken xs)
  unfolding used_names
  used_names_kept scope taken [] h = all_right tt
  used_names_kept scope taken (x ∷ xs) h = and_gives (only_if (is_some (scope x.name)) UnknownName x.place h.0) (λ u w.
      and_gives (only_if (not (has x.name taken)) TwiceDeclared x.place h.0) (λ u w. used_names_kept scope (x.name ∷ taken) xs h.1))

  using_kept : (scope : Scope Meaning) (xs : Option (List Identifier)) → Have Stands (places.of_used xs) → Gives Stands Anything (using scope xs)
  using_kept scope None h = all_right tt
  using_kept scope (Some xs) h = used_names_kept scope [] xs h

  directory_kept : (taken : List (List ℕ)) (ds : List DirectoryItem) (is : List PlainInterface) → Have Stands (places.of_directory ds)
      → Gives Stands Anything (directory taken ds is)
  unfolding directory places.of_directory
  directory_kept taken [] [] h = all_right tt
  directory_kept taken [] (i ∷ is) h = all_right tt
  directory_kept taken (d ∷ ds) [] h = refused h.0
  directory_kept taken (d ∷ ds) (i ∷ is) h =
      and_gives (only_if (bytes_eq d.name.name i.name) UnknownName d.name.place h.0) (λ u w.
      and_gives (only_if (not (has d.name.name taken)) TwiceDeclared d.name.place h.0) (λ u w.
      and_gives (using_kept (first_entry (entries None i)) d.used (before Stands (places.of_used d.used) _ h.1.1)) (λ u w.
      directory_kept (d.name.name ∷ taken) ds is (behind Stands (places.of_used d.used) _ h.1.1))))

  listed_kept : (known taken : List (List ℕ)) (xs : List Identifier) → Have Stands (places.of_identifiers xs) → Gives Stands Anything (listed known taken xs)
  unfolding listed
  listed_kept known taken [] h = all_right tt
  listed_kept known taken (x ∷ xs) h = and_gives (only_if (has x.name known) UnknownName x.place h.0) (λ u w.
      and_gives (only_if (not (has x.name taken)) TwiceDeclared x.place h.0) (λ u w. listed_kept known (x.name ∷ taken) xs h.1))

  -- interfaces
  defined_items_kept : (kind : ItemKind) (xs : List Identifier) (h : Heading) → Keeps Stands Anything (d.defined_items kind xs h)
  defined_items_kept kind xs h = bind (has_settled Stands xs (map (d.item_meaning kind) (map (named_item kind h) xs))) (λ u w. give tt)

  pub defined_kept : (a : Around) → ConstantStands Stands a.constant → (xs : List Identifier) (x : s.Defined) → Have Stands (places.of_defined x)
      → Keeps Stands Anything (d.defined a xs x)
  unfolding d.defined
  defined_kept a c xs (s.ProcedureItem h) g =
      bind (heading_kept a c h.takes h.gives (before Stands (places.of_maybe_fields h.takes) _ g) (behind Stands (places.of_maybe_fields h.takes) _ g))
      (λ x w. defined_items_kept item.Procedure xs x)
  defined_kept a c xs (s.SignalItem h) g =
      bind (heading_kept a c h.takes h.gives (before Stands (places.of_maybe_fields h.takes) _ g) (behind Stands (places.of_maybe_fields h.takes) _ g))
      (λ x w. defined_items_kept item.Signal xs x)
  defined_kept a c xs (s.ErrorItem takes) g = bind (heading_kept a c takes None g tt) (λ x w. defined_items_kept item.Error xs x)
  defined_kept a c xs (s.TypeItem e) g = bind (type_exp_kept Stands a c e g)
      (λ k w. bind (has_settled Stands xs (map (λ x. meaning.TypeName k) xs)) (λ u w. give tt))
  defined_kept a c xs (s.ConstantItem e x) g =
      bind (type_exp_kept Stands a c e (before Stands (places.of_type e) _ g)) (λ k w.
      bind (check_kept Stands (in_constant (first x) a) (first_stands Stands x (behind Stands (places.of_type e) _ g)) (Into k (first x))
      (first_stands Stands x (behind Stands (places.of_type e) _ g)) x (behind Stands (places.of_type e) _ g)) (λ y w.
      bind (lifting (constant_kept Stands a k x (first x) (first_stands Stands x (behind Stands (places.of_type e) _ g)) y.value)) (λ z w.
      bind (has_settled Stands xs (map (λ x. z) xs)) (λ u w. give tt))))

  all_defined_kept : (a : Around) → ConstantStands Stands a.constant → (ds : List s.Definition) → Have Stands (places.of_definitions ds)
      → Keeps Stands Anything (d.all_defined a ds)
  unfolding d.all_defined places.of_definitions
  all_defined_kept a c [] h = give tt
  all_defined_kept a c (x ∷ ds) h =
      let after : Have Stands (places.of_defined x.defined ++ places.of_definitions ds) = behind Stands (places.of_declared_names x.names) _ h in
      bind (before_others_kept (λ (e : s.Definition). e.names) d.definition a x ds
      (λ f. within 0 (first_name x.names) (first_name_stands Stands x.names (before Stands (places.of_declared_names x.names) _ h)) (
      bind (announced Stands x.names (names_stand Stands x.names (before Stands (places.of_declared_names x.names) _ h))) (λ u w.
      defined_kept (record a { further = f }) c x.names x.defined (before Stands (places.of_defined x.defined) _ after))))) (λ y w.
      bind (all_defined_kept a c ds (behind Stands (places.of_defined x.defined) _ after)) (λ more w.
      give tt))

  module _ (m : s.Module) (is : List PlainInterface) (dirs : Have Stands (places.of_directory m.directory)) where
    lists_kept : (imports exports opens : List Identifier) → Have Stands (places.of_identifiers imports) → Have Stands (places.of_identifiers exports)
        → Have Stands (places.of_identifiers opens)
        → Gives Stands Anything (lists m is imports exports opens)
    lists_kept imports exports opens i e o =
        and_gives (directory_kept [] m.directory is dirs) (λ u w.
        and_gives (listed_kept (names_of (names_in m.directory)) [] imports i) (λ u w.
        and_gives (listed_kept (names_of (names_in m.directory)) [] exports e) (λ u w.
        listed_kept (names_of (names_in m.directory)) [] opens o)))

    module_kept : (imports exports : List Identifier) (inner : s.Inner) (r : Whole × State) → WholeFits Stands inner r.0
        → Gives Stands (λ (x : t.Module). tn.nodes x ≤ 1 + 2 * sn.inner_nodes inner) (module_of m is imports exports r)
    unfolding tn.nodes
    module_kept imports exports inner r w = and_gives (exported_kept (offers_of r.0.declared) w.offers (those_of m.directory is exports)) (λ es u.
        all_right (omega (arith, w.nodes, length_of_map item_of (signals_of r.0.declared))))

    program_kept : (imports exports opens : List Identifier) (inner : s.Inner) → Stands m.name.place → Have Stands (places.of_identifiers imports)
        → Have Stands (places.of_identifiers exports)
        → Have Stands (places.of_identifiers opens) → Have Stands (places.of_inner inner)
        → Gives Stands (λ (x : t.Module). tn.nodes x ≤ 1 + 2 * sn.inner_nodes inner) (program m is imports exports opens inner)
    program_kept imports exports opens inner n i e o h =
        and_gives (lists_kept imports exports opens i e o) (λ u w.
        and_gives (whole_in_kept (enabled (is_catch inner.enable) (body_of (known_of m None true imports is) [] []))
        (enabled_stands (is_catch inner.enable) (known_of m None true imports is)) m.name.place n inner h _) (λ r q.
        module_kept imports exports inner r q))

    program_by_kept : Stands m.name.place → (k : s.ModuleKind) → Have Stands (places.of_kind k)
        → Gives Stands (λ (x : t.Module). tn.nodes x ≤ 1 + 2 * sn.kind_nodes k) (program_by m is k)
    unfolding sn.kind_nodes
    program_by_kept n (s.Program p imports exports opens inner) h =
        let rest : Have Stands (places.of_identifiers exports ++ (places.of_identifiers opens ++ places.of_inner inner)) =
        behind Stands (places.of_identifiers imports) _ h.1 in
        let last : Have Stands (places.of_identifiers opens ++ places.of_inner inner) = behind Stands (places.of_identifiers exports) _ rest in
        program_kept imports exports opens inner n (before Stands (places.of_identifiers imports) _ h.1) (before Stands (places.of_identifiers exports) _ rest)
        (before Stands (places.of_identifiers opens) _ last) (behind Stands (places.of_identifiers opens) _ last)
    program_by_kept n (s.Interface p opens defs) h = refused h.0

    definitions_kept : (stamp : ℕ) (opens : List Identifier) (defs : List s.Definition) → Have Stands (places.of_identifiers opens)
        → Have Stands (places.of_definitions defs) → Gives Stands Anything (definitions m stamp is opens defs)
    definitions_kept stamp opens defs o h =
        and_gives (lists_kept [] [] opens tt tt o) (λ u w.
        and_gives (in_start (all_defined_kept (outermost (body_of (known_of m (Some stamp) false [] is) [] [])) tt defs h) _) (λ r w. all_right tt))

    interface_by_kept : (stamp : ℕ) (k : s.ModuleKind) → Have Stands (places.of_kind k) → Gives Stands Anything (interface_by m stamp is k)
    interface_by_kept stamp (s.Program p imports exports opens inner) h = refused h.0
    interface_by_kept stamp (s.Interface p opens defs) h =
        definitions_kept stamp opens defs (before Stands (places.of_identifiers opens) _ h.1) (behind Stands (places.of_identifiers opens) _ h.1)

  pub checked_kept : (m : s.Module) (is : List Interface) → Have Stands (places.places_in m)
      → Gives Stands (λ (x : t.Module). tn.nodes x ≤ 2 * sn.module_nodes m) (checked m is)
  unfolding checked places.places_in sn.module_nodes
  checked_kept m is h =
      let rest : Have Stands (m.name.place ∷ places.of_kind m.kind) = behind Stands (places.of_directory m.directory) _ h in
      more (program_by_kept m (map plain_interface is) (before Stands (places.of_directory m.directory) _ h) rest.0 m.kind rest.1)
    where
      more : {r : Checked t.Module} → Gives Stands (λ (x : t.Module). tn.nodes x ≤ 1 + 2 * sn.kind_nodes m.kind) r
          → Gives Stands (λ (x : t.Module). tn.nodes x ≤ 2 * sn.module_nodes m) r
      more {r} g = record { kept = go r g.kept }
        where
          go : (r : Checked t.Module) → Kept Stands (λ (x : t.Module). tn.nodes x ≤ 1 + 2 * sn.kind_nodes m.kind) r
              → Kept Stands (λ (x : t.Module). tn.nodes x ≤ 2 * sn.module_nodes m) r
          go (Ok x) q = omega arith
          go (Err f) q = q

  pub checked_definitions_kept : (m : s.Module) (stamp : ℕ) (is : List Interface) → Have Stands (places.places_in m)
      → Gives Stands Anything (checked_definitions m stamp is)
  unfolding checked_definitions places.places_in
  checked_definitions_kept m stamp is h =
      let rest : Have Stands (m.name.place ∷ places.of_kind m.kind) = behind Stands (places.of_directory m.directory) _ h in
      and_gives (interface_by_kept m (map plain_interface is) (before Stands (places.of_directory m.directory) _ h) stamp m.kind rest.1) (λ i w. all_right tt)

-- Both laws: any place stands in the text for the count of nodes, and those of the tree for the places of faults.
if_ok : {A : Type 0} {Stands : Place → Type 0} {P : A → Type 0} (r : Checked A) → Gives Stands P r → IfOk r P
if_ok (Ok a) h = h.kept
if_ok (Err f) h = tt

if_err : {A : Type 0} {Stands : Place → Type 0} {P : A → Type 0} (r : Checked A) → Gives Stands P r → IfErr r (λ f. Stands f.place)
if_err (Ok a) h = tt
if_err (Err f) h = h.kept

pub anywhere : (ps : List Place) → Have Anything ps
anywhere [] = tt
anywhere (p ∷ ps) = (tt, anywhere ps)

all_places : (m : s.Module) → Have (Contains (places.places_in m)) (places.places_in m)
all_places m = have_all (Contains (places.places_in m)) (places.places_in m) (All-contains_itself (places.places_in m))

pub few_nodes : TypedTreesHaveFewNodes
few_nodes m is = if_ok (checked m is) (checked_kept Anything m is (anywhere (places.places_in m)))

pub in_the_text : FaultsStandInTheText
in_the_text = record {
  programs = λ m is. if_err (checked m is) (checked_kept (Contains (places.places_in m)) m is (all_places m));
  definitions = λ m stamp is. if_err (checked_definitions m stamp is) (checked_definitions_kept (Contains (places.places_in m)) m stamp is (all_places m));
}
