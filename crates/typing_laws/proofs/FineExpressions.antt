-- Expressions and types keep a law on types: one induction over both, a line for each form.
use Rattle.std.specs.Prelude.{ℕ, ◌≡◌, ◌+◌, Bool, true, false, Option, Some, None, List, [], ◌∷◌, ◌++◌, length, nat_eq}
use Rattle.std.proofs.Common.{sym, subst}
use Rattle.mesa_base.specs.declared.place.Place.{Place}
use Rattle.syntax_trees.specs.Syntax as s
use Rattle.mesa_types.specs.Operators as words
use Rattle.mesa_types.specs.Constants.{constant}
use Rattle.mesa_types.specs.declared.faces.ItemKind.TheVariants as item
use Rattle.check_rules.specs.Typed as t
use Rattle.interface_records.specs.PlainTypes.{PlainType, PlainField, is_ordinal, words_of, words_of_fields}
use Rattle.check_rules.specs.Meanings as m
use Rattle.check_rules.specs.Steps.{◌>>=◌, pure, lift, or_refuse}
use Rattle.check_rules.specs.Around.{Around, in_constant, in_arm}
use Rattle.check_rules.specs.Parts.{field_named, first, first_of_type, last_of, names_of, distinct, kinds, kind_by, count, keys, complete}
use Rattle.check_rules.specs.Ranges.{Aim, Free, Into, finish}
use Rattle.check_rules.specs.Values.{Sum, Begun, closed, bound_of, has_parts, number, letter, truth, string, is_truth, not_of, signed, compared, within, level_of, step, truth_operand, no_phrase, in_order, Raises, raises_by, raised}
use Rattle.check_rules.specs.Statements.{longer_number, longer_bounds}
use Rattle.check_rules.specs.Reached.{Reached, Named, Value, Variable, Results, Use, Read, reached, settled, indexed, text_at, at_index, may_apply, shape_of}
use Rattle.check_rules.specs.TypeRules.{is_index, bound, subrange, interval_base}
use Rattle.check_rules.specs.Checking.{check, sums, truths, interval, walk, apply, one, construct, arguments, values, alike, keyed, raise, with_brackets, phrase, arms, type_exp, fields_of, named_fields, unnamed_fields, of_interval}
use Rattle.check_rules.specs.TreeNames.{TypeNamed, FieldsNamed, LabeledNamed, TypesNamed}
use Rattle.check_rules.specs.Written.{HasField, TypeWritten, FieldsWritten, NamedWritten, TypesWritten}
use Rattle.check_rules.specs.declared.fault.Cause.TheVariants.{TypeMismatch, WrongCount}
use Rattle.check_rules.specs.Places as places
use Rattle.typing_laws.proofs.Keeping.{OfSome, Anything}
use Rattle.typing_laws.proofs.KeptModule.{anywhere}
use Rattle.typing_laws.proofs.KeptNames.{ConstantStands}
use Rattle.typing_laws.proofs.Kept as kept
use Rattle.typing_laws.proofs.TypeLaws.{TypeLaw, FieldsHave, Text, less_text}
use Rattle.typing_laws.proofs.FineTypes.{ItemFine, MeaningFine, Fine, AroundFine, Good, bind, done, wrong, weaker, lifted, any_lifted, ensured, held, spending, named_fine, qualified_fine, type_named_fine, word_base_fine, arm_labels_fine}
use Rattle.typing_laws.proofs.FineConstants.{TypedFine, all_worth, some_worth}
use Rattle.check_rules.specs.Operators.{sort_of, longer}
use Rattle.typing_laws.proofs.FineFields.{Apart, distinct_apart, NamedFine, UnnamedFine, ListFine, no_named, more_named, no_unnamed, more_unnamed, named_list, unnamed_list}
use Rattle.typing_laws.proofs.FineTypeRules.{WorthAt, BoundsFine, enumerated_fine, bound_fine, interval_base_fine, subrange_fine, array_fine, record_fine}
use Rattle.typing_laws.proofs.FineValues.{AimFine, OfAim, CheckedFine, ReachedFine, BracketedFine, KindsFine, DoneFine, EndsFine, or_ok, found_fine, kind_by_fine, kinds_fine, finished, truth_fine, literal_truth, not_fine, signed_fine, compared_fine, within_fine, number_fine, letter_fine, string_fine, step_fine, reached_fine, settled_fine, value_fine, field_fine, text_fine, indexed_fine, at_index_fine, shape_of_fine, shapes, in_fields_fine, by_keys_fine, raises_fine, levels, aims, scoped, constant_around, entered, BoundFine, bound_of_fine, bound_kinds, into_fine, free_fine, call_none, raise_none, summed_fine}

pub const_any : (o : Option Place) → ConstantStands Anything o
const_any None = tt
const_any (Some p) = tt

module _ (L : TypeLaw) where
  mutual
    unfolding check ReachedFine ItemFine MeaningFine FieldsHave KindsFine OfAim TypeWritten TypeNamed

    pub check_fine : (a : Around) → AroundFine L a → (aim : Aim) → AimFine L aim → (e : s.Expr) → Fine L (CheckedFine L aim) (check a aim e)
    check_fine a g aim i (s.Run e ss) = bind (check_fine a g (Free (first e)) (free_fine L (first e)) e) (λ x h. bind {P = TypedFine L} (levels L (level_of ss) (done h.value)
        (bind (sums_fine a g (first e) (Begun x.value) x.kind h.value.kind h.value.worth x.literal ss) (λ r q. done (summed_fine L r q)))
        (bind (truths_fine a g (is_truth x.kind) ss) (λ es w. done (truth_fine L (t.AllOf (t.AndExpr x.value es)) (all_worth L (t.AndExpr x.value es)))))
        (bind (truths_fine a g (is_truth x.kind) ss) (λ es w. done (truth_fine L (t.SomeOf (t.AndExpr x.value es)) (some_worth L (t.AndExpr x.value es))))))
        (λ r q. finished L aim i r q))
    check_fine a g aim i (s.Not p e) = bind (check_fine a g (Free (first e)) (free_fine L (first e)) e)
        (λ x h. bind (lifted (TypedFine L) (not_of p x) (not_fine L p x)) (λ r q. finished L aim i r q))
    check_fine a g aim i (s.Compare d b o p e) =
        bind (check_fine a g (Free (first d)) (free_fine L (first d)) d) (λ x h. bind (check_fine a g (Free (first e)) (free_fine L (first e)) e)
        (λ y k. bind (lifted (TypedFine L) (compared b o p (first d) x (first e) y) (compared_fine L b o p (first d) x (first e) y)) (λ r q.
        spending (longer (sort_of x.kind) x.literal (sort_of y.kind) y.literal) (λ u. lift (finish aim r)) (finished L aim i r q))))
    check_fine a g aim i (s.Within e b p j) =
        bind (check_fine a g (Free (first e)) (free_fine L (first e)) e) (λ x h. bind (interval_fine a g j)
        (λ ends k. bind (lifted (TypedFine L) (within b p (first e) x ends) (within_fine L b p (first e) x ends)) (λ r q.
        spending (longer_number x ends + longer_bounds x ends) (λ u. lift (finish aim r)) (finished L aim i r q))))
    check_fine a g aim i (s.Signed sign p e) =
        bind (check_fine a g (Free (first e)) (free_fine L (first e)) e) (λ x h. bind (lifted (TypedFine L) (signed sign p x) (signed_fine L sign p x h.value)) (λ r q. finished L aim i r q))
    check_fine a g aim i (s.NumberLiteral p n) = spending (words_of (number n).kind) (λ u. lift (finish aim (number n))) (finished L aim i (number n) (number_fine L n))
    check_fine a g aim i (s.CharacterLiteral p n) = spending 1 (λ u. lift (finish aim (letter n))) (finished L aim i (letter n) (letter_fine L n))
    check_fine a g aim i (s.StringLiteral p bytes) =
        bind (lifted (TypedFine L) (string a.known.strings p bytes) (string_fine L a.known.strings p bytes))
        (λ x h. spending 2 (λ u. lift (finish aim x)) (finished L aim i x h))
    check_fine a g aim i (s.Truth p b) = spending 1 (λ u. lift (finish aim (truth (t.Number (words.truth b)))))
        (finished L aim i (truth (t.Number (words.truth b))) (literal_truth L b))
    check_fine a g aim i (s.Parenthesis p e) = check_fine a g aim i e
    check_fine a g aim i (s.Reference (s.LeftOf x ss)) =
        bind (named_fine a g x) (λ y h. bind (walk_fine a g Read x.place (reached y) (reached_fine L y h) ss)
        (λ r q. bind (value_fine L aim r.0 r.1 q) (λ z k. finished L aim i z k)))
    check_fine a g aim i (s.Constructor p items) = aims L aim i (λ q. wrong) (λ k q e h. subst (λ aim. Fine L (CheckedFine L aim) (construct a k q p items)) (sym e)
        (construct_fine a g k h q p items))
    check_fine a g aim i (s.Raised r) = bind (raise_fine a g r) (λ x q. bind (value_fine L aim x.0 x.1 q) (λ z k. finished L aim i z k))

    sums_fine : (a : Around) → AroundFine L a → (l : Place) (d : Sum) (k : PlainType) → L.Kept k → OfSome (L.Worth k) (constant (closed d)) → (literal : Bool)
        (ss : s.Operations) → Fine L (λ (r : t.Expr × PlainType). L.Kept r.1 × OfSome (L.Worth r.1) (constant r.0)) (sums a l d k literal ss)
    sums_fine a g l d k h w literal s.NoOperation = done (h, w)
    sums_fine a g l d k h w literal (s.AndOperation o p e ss) =
        bind (check_fine a g (Free (first e)) (free_fine L (first e)) e) (λ r q.
        bind (lifted (DoneFine L) (step o p l d k literal (first e) r) (step_fine L o p l d k h w literal (first e) r q.value)) (λ x i.
        spending (longer (sort_of k) literal (sort_of r.kind) r.literal) (λ u. sums a l x.done x.kind false ss)
        (sums_fine a g l x.done x.kind i.kind i.worth false ss)))

    truths_fine : (a : Around) → AroundFine L a → (fits : Bool) (ss : s.Operations) → Fine L Good (truths a fits ss)
    truths_fine a g fits s.NoOperation = done tt
    truths_fine a g fits (s.AndOperation o p e ss) =
        bind (check_fine a g (Free (first e)) (free_fine L (first e)) e) (λ r q. bind (any_lifted (truth_operand fits p r)) (λ x w. bind (truths_fine a g true ss) (λ es w. done tt)))

    interval_fine : (a : Around) → AroundFine L a → (i : s.Interval) → Fine L (EndsFine L) (interval a i)
    interval_fine a g (s.Between p x low high y) =
        bind (check_fine a g (Free (first low)) (free_fine L (first low)) low) (λ l h. bind (check_fine a g (Free (first high)) (free_fine L (first high)) high) (λ r k.
        done (record { low = h.value.kind; high = k.value.kind })))

    walk_fine : (a : Around) → AroundFine L a → (way : Use) (last : Place) (r : Reached) → ReachedFine L r → (ss : s.Suffixes)
        → Fine L (λ (y : Place × Reached). ReachedFine L y.1) (walk a way last r ss)
    walk_fine a g way last r h s.NoSuffix = done h
    walk_fine a g way last r h (s.Field x ss) = bind (field_fine L a g last (settled r) (settled_fine L r h) x) (λ next k. walk_fine a g way x.place next k ss)
    walk_fine a g way last r h (s.Applied b ss) =
        bind (ensured (may_apply way r) TypeMismatch last)
        (λ u w. bind (apply_fine a g last (settled r) (settled_fine L r h) b) (λ next k. walk_fine a g way last next k ss))

    apply_fine : (a : Around) → AroundFine L a → (last : Place) (r : Reached) → ReachedFine L r → (b : s.Brackets) → Fine L (ReachedFine L) (apply a last r b)
    apply_fine a g last (Variable y ss k) h (s.BracketsOf p items ph) =
        bind (lifted (BracketedFine L) (indexed last y ss k) (indexed_fine L last y ss k h))
        (λ x q. bind (any_lifted (no_phrase ph))
        (λ u w. bind (one_fine a g p items) (λ i w. lifted (ReachedFine L) (at_index x i.0 i.1) (at_index_fine L x q i.0 i.1))))
    apply_fine a g last (Value n e k) h (s.BracketsOf p items ph) =
        bind (lifted (BracketedFine L) (text_at last k n e) (text_fine L last k n e))
        (λ x q. bind (any_lifted (no_phrase ph))
        (λ u w. bind (one_fine a g p items) (λ i w. lifted (ReachedFine L) (at_index x i.0 i.1) (at_index_fine L x q i.0 i.1))))
    apply_fine a g last (Named (m.Procedure c i)) h (s.BracketsOf p items ph) = spending (words_of_fields i.gives)
        (λ u. arguments a i.takes p items >>= (λ x. phrase a ph >>= (λ w. pure (Results (t.Call c x.places x.values (words_of_fields i.gives) w) i.gives))))
        (bind (arguments_fine a g i.takes h.0 p items) (λ x w. bind (phrase_fine a g ph) (λ y w.
        done (h.1, call_none L c x.places x.values (words_of_fields i.gives) y))))
    apply_fine a g last (Named (m.TypeName k)) h (s.BracketsOf p items ph) =
        bind (any_lifted (has_parts k last)) (λ u w. bind (any_lifted (no_phrase ph)) (λ u w. bind (construct_fine a g k h last p items) (λ x w.
        done (h, subst (λ j. OfSome (L.Worth j) (constant x.value)) w.aimed w.value.worth))))
    apply_fine a g last _ h (s.BracketsOf p items ph) = wrong

    one_fine : (a : Around) → AroundFine L a → (p : Place) (items : s.Items) → Fine L Good (one a p items)
    one_fine a g p (s.InOrder (s.AndExpr e s.NoExprs)) = bind (check_fine a g (Free (first e)) (free_fine L (first e)) e) (λ x h. done tt)
    one_fine a g p _ = wrong

    construct_fine : (a : Around) → AroundFine L a → (k : PlainType) → L.Kept k → (q p : Place) (items : s.Items)
        → Fine L (CheckedFine L (Into k q)) (construct a k q p items)
    construct_fine a g k h q p s.Nothing = shapes L (shape_of k) (shape_of_fine L k h) (λ fs i. wrong) (λ n j i. wrong) wrong
    construct_fine a g k h q p (s.InOrder es) =
        shapes L (shape_of k) (shape_of_fine L k h) (λ fs i. in_fields_fine L k h q p (count es) (length fs) (values_fine a g (kinds fs) (kinds_fine L fs i) es))
        (λ n j i. in_fields_fine L k h q p (count es) n (alike_fine a g j i es)) wrong
    construct_fine a g k h q p (s.ByKey es) =
        shapes L (shape_of k) (shape_of_fine L k h) (λ fs i. by_keys_fine L k h q p fs (keys es) (keyed_fine a g fs i es)) (λ n j i. wrong) wrong

    arguments_fine : (a : Around) → AroundFine L a → (fs : List PlainField) → FieldsHave L.Kept fs → (p : Place) (items : s.Items)
        → Fine L Good (arguments a fs p items)
    arguments_fine a g fs h p s.Nothing = bind (ensured (nat_eq 0 (length fs)) WrongCount p) (λ u w. done tt)
    arguments_fine a g fs h p (s.InOrder es) =
        bind (ensured (nat_eq (count es) (length fs)) WrongCount p) (λ u w. bind (values_fine a g (kinds fs) (kinds_fine L fs h) es) (λ vs w. done tt))
    arguments_fine a g fs h p (s.ByKey es) = bind (ensured (complete fs (keys es)) WrongCount p) (λ u w. bind (keyed_fine a g fs h es) (λ vs w. done tt))

    values_fine : (a : Around) → AroundFine L a → (ks : List PlainType) → KindsFine L ks → (es : s.Exprs) → Fine L Good (values a ks es)
    values_fine a g (k ∷ ks) h (s.AndExpr e es) =
        bind (check_fine a g (Into k (first e)) (into_fine L k h.0 (first e)) e) (λ x w. bind (values_fine a g ks h.1 es) (λ vs w. done tt))
    values_fine a g [] h (s.AndExpr e es) = done tt
    values_fine a g [] h s.NoExprs = done tt
    values_fine a g (k ∷ ks) h s.NoExprs = done tt

    alike_fine : (a : Around) → AroundFine L a → (k : PlainType) → L.Kept k → (es : s.Exprs) → Fine L Good (alike a k es)
    alike_fine a g k h s.NoExprs = done tt
    alike_fine a g k h (s.AndExpr e es) = bind (check_fine a g (Into k (first e)) (into_fine L k h (first e)) e)
        (λ x w. bind (alike_fine a g k h es) (λ vs w. done tt))

    keyed_fine : (a : Around) → AroundFine L a → (fs : List PlainField) → FieldsHave L.Kept fs → (es : s.KeyedExprs) → Fine L Good (keyed a fs es)
    keyed_fine a g fs h s.NoKeyedExprs = done tt
    keyed_fine a g fs h (s.AndKeyedExpr x e es) =
        bind (check_fine a g (Into (kind_by (field_named fs x)) (first e))
        (into_fine L (kind_by (field_named fs x)) (kind_by_fine L (field_named fs x) (found_fine L x.name 0 0 fs h)) (first e)) e)
        (λ y w. bind (keyed_fine a g fs h es) (λ vs w. done tt))

    raise_fine : (a : Around) → AroundFine L a → (r : s.Raise) → Fine L (λ (y : Place × Reached). ReachedFine L y.1) (raise a r)
    raise_fine a g (s.SignalRaise p q b) = bind (qualified_fine a g q)
        (λ y h. bind (lifted (λ (r : Raises). ItemFine L r.head) (raises_by item.Signal (last_of q).place y) (raises_fine L item.Signal (last_of q).place y h))
        (λ r i. bind (brackets_fine a g p r i b) (λ x k. done k)))
    raise_fine a g (s.ErrorRaise p q b) = bind (qualified_fine a g q)
        (λ y h. bind (lifted (λ (r : Raises). ItemFine L r.head) (raises_by item.Error (last_of q).place y) (raises_fine L item.Error (last_of q).place y h))
        (λ r i. bind (brackets_fine a g p r i b) (λ x k. done k)))
    raise_fine a g (s.UnnamedError p) = done (tt, raise_none L t.TheUnnamed [] t.NoExprs 0 t.NoPhrase)

    brackets_fine : (a : Around) → AroundFine L a → (p : Place) (r : Raises) → ItemFine L r.head → (b : s.MaybeBrackets)
        → Fine L (ReachedFine L) (with_brackets a p r b)
    brackets_fine a g p r h s.NoBrackets = bind (ensured (nat_eq 0 (length r.head.takes)) WrongCount p) (λ u w.
        spending (words_of_fields r.head.gives) (λ u. pure (raised r (in_order t.NoExprs) t.NoPhrase))
        (done (h.1, raise_none L r.raised [] t.NoExprs (words_of_fields r.head.gives) t.NoPhrase)))
    brackets_fine a g p r h (s.WithBrackets (s.BracketsOf q items ph)) = spending (words_of_fields r.head.gives)
        (λ u. arguments a r.head.takes q items >>= (λ x. phrase a ph >>= (λ w. pure (raised r x w))))
        (bind (arguments_fine a g r.head.takes h.0 q items) (λ x w. bind (phrase_fine a g ph) (λ y w.
        done (h.1, raise_none L r.raised x.places x.values (words_of_fields r.head.gives) y))))

    phrase_fine : (a : Around) → AroundFine L a → (ph : s.Phrase) → Fine L Good (phrase a ph)
    phrase_fine a g s.NoPhrase = done tt
    phrase_fine a g (s.Catch p xs) = bind (arms_fine a g xs) (λ ys w. done tt)

    arms_fine : (a : Around) → AroundFine L a → (xs : s.Arms) → Fine L Good (arms a xs)
    arms_fine a g s.NoArms = done tt
    arms_fine a g (s.AndArm labels body rest) = bind (arm_labels_fine a g labels) (λ ls w. bind (entered L a ls) (λ x w.
        bind (scoped L x.scope (kept.statement_kept Anything (in_arm ls a) (const_any a.constant) body (anywhere (places.of_stmt body))))
        (λ b w. bind (arms_fine a g rest) (λ more w. done tt))))

    -- types
    pub type_exp_fine : (a : Around) → AroundFine L a → (e : s.TypeExp) → Text L (TypeWritten e) (TypeNamed e) → Fine L L.Kept (type_exp a e)
    type_exp_fine a g (s.Integer p) x = done L.integer
    type_exp_fine a g (s.Cardinal p) x = done L.cardinal
    type_exp_fine a g (s.LongInteger p) x = done L.long_integer
    type_exp_fine a g (s.LongCardinal p) x = done L.long_cardinal
    type_exp_fine a g (s.Boolean p) x = done L.boolean
    type_exp_fine a g (s.Character p) x = done L.character
    type_exp_fine a g (s.String p) x = done L.string
    type_exp_fine a g (s.Called q) x = type_named_fine a g q
    type_exp_fine a g (s.Enumeration p xs) x = enumerated_fine L a g p xs x
    type_exp_fine a g (s.Subrange b i) x = bind (word_base_fine a g b) (λ base h. of_interval_fine a g base h i)
    type_exp_fine a g (s.Array p i e) x = bind (type_exp_fine a g i (less_text x (λ w. w.0) (λ n. n.0)))
        (λ j h. bind (held (is_index j) TypeMismatch (first_of_type i))
        (λ u d. bind (type_exp_fine a g e (less_text x (λ w. w.1) (λ n. n.1))) (λ k q. array_fine L p j k h q d)))
    type_exp_fine a g (s.Record p fs) x =
        bind (fields_of_fine a g fs (less_text x (λ w. w) (λ n. n))) (λ fs h. record_fine L a g p fs h.kinds h.made)

    fields_of_fine : (a : Around) → AroundFine L a → (fs : s.FieldList) → Text L (HasField fs × FieldsWritten fs) (FieldsNamed fs)
        → Fine L (ListFine L) (fields_of a fs)
    fields_of_fine a g (s.WithNames fs) x = weaker (named_fields_fine a g [] fs (less_text x (λ w. w.1) (λ n. n))) (λ gs h. named_list L fs gs x h)
    fields_of_fine a g (s.Unnamed es) x = weaker (unnamed_fields_fine a g es (less_text x (λ w. w.1) (λ n. n))) (λ gs h. unnamed_list L es gs x h)

    named_fields_fine : (a : Around) → AroundFine L a → (taken : List (List ℕ)) (fs : s.NamedFields) → Text L (NamedWritten fs) (LabeledNamed fs)
        → Fine L (NamedFine L taken fs) (named_fields a taken fs)
    named_fields_fine a g taken s.NoFields x = done (no_named L taken)
    named_fields_fine a g taken (s.AndFields xs e rest) x =
        bind (lifted (λ _. Apart taken (names_of xs)) (distinct taken xs) (distinct_apart taken xs)) (λ u d.
        bind (type_exp_fine a g e (less_text x (λ w. w.1) (λ n. n.1))) (λ k h.
        bind (named_fields_fine a g (taken ++ names_of xs) rest (less_text x (λ w. w.2) (λ n. n.2)))
        (λ fs i. done (more_named L taken xs e rest x d k h fs i))))

    pub unnamed_fields_fine : (a : Around) → AroundFine L a → (es : s.TypeExps) → Text L (TypesWritten es) (TypesNamed es)
        → Fine L (UnnamedFine L es) (unnamed_fields a es)
    unnamed_fields_fine a g s.NoTypes x = done (no_unnamed L)
    unnamed_fields_fine a g (s.AndType e es) x =
        bind (type_exp_fine a g e (less_text x (λ w. w.0) (λ n. n.0))) (λ k h.
        bind (unnamed_fields_fine a g es (less_text x (λ w. w.1) (λ n. n.1))) (λ fs i. done (more_unnamed L e es k h fs i)))

    of_interval_fine : (a : Around) → AroundFine L a → (base : Option PlainType) → OfSome (λ k. L.Kept k × (is_ordinal k ≡ true)) base → (i : s.Interval)
        → Fine L L.Kept (of_interval a base i)
    of_interval_fine a g base f (s.Between p l low high r) =
        bind (check_fine (in_constant (first low) a) (constant_around L a g (first low)) (Free (first low)) (free_fine L (first low)) low) (λ i h.
        bind (lifted (BoundFine L base) (bound_of base (first low) i) (bound_of_fine L base f (first low) i h.value)) (λ x h.
        bind (lifted (WorthAt L x.kind) (bound (first low) x) (bound_fine L (first low) x h.value.worth)) (λ n d.
        bind (check_fine (in_constant (first high) a) (constant_around L a g (first high)) (Free (first high)) (free_fine L (first high)) high) (λ j k.
        bind (lifted (BoundFine L base) (bound_of base (first high) j) (bound_of_fine L base f (first high) j k.value)) (λ y i.
        bind (lifted (WorthAt L y.kind) (bound (first high) y) (bound_fine L (first high) y i.value.worth)) (λ o e.
        bind (lifted (BoundsFine L n o) (or_refuse (interval_base base x.kind n y.kind o) TypeMismatch p)
        (or_ok (BoundsFine L n o) (interval_base base x.kind n y.kind o) TypeMismatch p
        (interval_base_fine L base f x.kind y.kind h.value.kind h.short (bound_kinds L base x y h i) n o d e))) (λ k q.
        lifted L.Kept (subrange p k l n o r) (subrange_fine L p k n o q l r))))))))
