-- Names with their suffixes, lists of values, constructors and raises: from what checking promises of their parts, what it
-- promises of them.
use Rattle.std.proofs.Common.{◌≡◌, ℕ, suc, ◌+◌, List, [], ◌∷◌, length, refl, sym, ◌∙◌, ap, subst, arith}
use Rattle.std.specs.Prelude.{◌≤◌, ◌≢◌, Bool, true, false, Some, Ok, Err, IfOk, nat_eq}
use Rattle.std.proofs.lemmas.Bool.{eqb-true}
use Rattle.mesa_base.specs.declared.place.Place.{Place}
use Rattle.mesa_base.specs.declared.identifier.Identifier.{Identifier}
use Rattle.mesa_types.specs.declared.faces.ItemKind.TheVariants as item
use Rattle.syntax_trees.specs.declared.syntax.QualifiedName.{QualifiedName}
use Rattle.syntax_trees.specs.Syntax as s
use Rattle.mesa_types.specs.Sound as sound
use Rattle.mesa_types.specs.Counts.{operands_of, hidden_exprs, hidden_phrase}
use Rattle.mesa_types.specs.Shapes.{copies, one}
use Rattle.check_rules.specs.Typed as t
use Rattle.interface_records.specs.PlainTypes.{PlainType, PlainField, PlainItem, kind_of, kinds_of, fields, elements_of, words_of, words_of_fields}
use Rattle.interface_records.specs.PlainTypes as v
use Rattle.check_rules.specs.Meanings as m
use Rattle.check_rules.specs.declared.fault.Cause.TheVariants.{TypeMismatch, WrongCount}
use Rattle.check_rules.specs.Steps.{Check, Checked, fail}
use Rattle.check_rules.specs.Around.{Around}
use Rattle.check_rules.specs.Parts.{first, count, keys, field_named, kind_by, kinds, places_of, complete, last_of}
use Rattle.check_rules.specs.Ranges.{Typed, Aim, Free, Into, Several, Arguments, finish}
use Rattle.check_rules.specs.Reached.{Reached, Variable, Value, Results, Named, Use, Read, reached, settled, indexed, text_at, at_index, may_apply, Shape, OfFields, OfElements, NoShape, shape_of}
use Rattle.check_rules.specs.Values.{no_phrase, by_shape, in_order, made, construct_shape, has_parts, Raises, raises_by, raised}
use Rattle.check_rules.specs.Phrases.{holds, in_left, in_suffixes, in_brackets, in_items, in_exprs, in_keyed, in_raise, in_maybe, is_catch}
use Rattle.check_rules.specs.Checking.{check, walk, apply, one as one_item, construct, arguments, values, alike, keyed, raise, with_brackets, phrase}
use Rattle.check_rules.specs.Written.{ExprWritten, LeftWritten, SuffixesWritten, BracketsWritten, ItemsWritten, ExprsWritten, KeyedWritten, RaiseWritten, MaybeWritten, PhraseWritten}
use Rattle.check_rules.proofs.SoundTypes.{TypeIn, FieldsIn, or_left, or_right, both_left}
use Rattle.typing_laws.proofs.SoundSteps.{World, Spot, at, Rule, bind, so, under, given, plainly, ended, failed, tested, spent_words, weaker}
use Rattle.typing_laws.proofs.SoundnessStatements.{Ready, AimIn, ValueIn, CheckedIn, ReachedIn, BracketedIn, ValuesIn, ArgumentsIn, Checks}
use Rattle.typing_laws.proofs.SoundExpressions.{part}
use Rattle.typing_laws.proofs.SoundNames.{name_is_seen, qualified_is_seen}
use Rattle.typing_laws.proofs.SoundReached as reaches
use Rattle.typing_laws.proofs.SoundCalls as calls
use Rattle.typing_laws.proofs.SoundCalls.{shapes, shapes_of_kinds, length_of_kinds, key_kinds, key_type, arranged_keys, RaisesIn, ShapeIn, shape_in}
use Rattle.typing_laws.proofs.SoundValues as rules

-- ---- judgements

unfoldable pub TypesIn : List PlainType → Type 0
TypesIn [] = Unit {0}
TypesIn (k ∷ ks) = TypeIn k × TypesIn ks

pub types_of_fields : (fs : List PlainField) → FieldsIn fs → TypesIn (kinds fs)
unfolding FieldsIn TypesIn
types_of_fields [] h = tt
types_of_fields (f ∷ fs) h = (h.0, types_of_fields fs h.1)

pub record ListIn (W : World) (p : Spot) (ks : List PlainType) (n : ℕ) (xs : t.Exprs) (spent hid : ℕ) : Type 0 where
  pub values : n ≡ length ks → sound.ExprsIn (at W p) xs (shapes ks)
  pub some : n ≡ length ks → ks ≢ [] → sound.HasValue xs
  pub operands_are : operands_of xs ≤ spent
  pub hidden_are : hidden_exprs xs ≤ hid

pub record ChecksExprs (W : World) (es : s.Exprs) : Type 0 where
  pub values : (flat : Bool) (p : Spot) (a : Around) (ks : List PlainType) → Rule W flat (Ready W flat p a (in_exprs es) (ExprsWritten es) × TypesIn ks)
      (ListIn W p ks (count es)) (values a ks es)
  pub alike : (flat : Bool) (p : Spot) (a : Around) (k : PlainType) → Rule W flat (Ready W flat p a (in_exprs es) (ExprsWritten es) × TypeIn k)
      (ValuesIn W p (copies (count es) (kind_of k))) (alike a k es)
  pub one : (flat : Bool) (p : Spot) (a : Around) (q : Place) → Rule W flat (Ready W flat p a (in_exprs es) (ExprsWritten es))
      (λ x n h. ValueIn W p x.1 n h)
      (one_item a q (s.InOrder es))

unfoldable pub SomeKey : List Identifier → t.Exprs → Type 0
SomeKey [] xs = Unit {0}
SomeKey (y ∷ ys) xs = sound.HasValue xs

pub record KeyedIn (W : World) (p : Spot) (fs : List PlainField) (ys : List Identifier) (xs : t.Exprs) (spent hid : ℕ) : Type 0 where
  pub list : ValuesIn W p (key_kinds fs ys) xs spent hid
  pub some : SomeKey ys xs

pub record ChecksKeyed (W : World) (es : s.KeyedExprs) : Type 0 where
  pub by : (flat : Bool) (p : Spot) (a : Around) (fs : List PlainField) → Rule W flat (Ready W flat p a (in_keyed es) (KeyedWritten es) × FieldsIn fs)
      (KeyedIn W p fs (keys es)) (keyed a fs es)

pub record ChecksItems (W : World) (items : s.Items) : Type 0 where
  pub arguments : (flat : Bool) (p : Spot) (a : Around) (fs : List PlainField) (q : Place)
      → Rule W flat (Ready W flat p a (in_items items) (ItemsWritten items) × FieldsIn fs) (ArgumentsIn W p fs) (arguments a fs q items)
  pub construct : (flat : Bool) (p : Spot) (a : Around) (k : PlainType) (q r : Place)
      → Rule W flat (Ready W flat p a (in_items items) (ItemsWritten items) × TypeIn k) (λ x n h. ValueIn W p x n h × (x.kind ≡ k))
      (construct a k q r items)
  pub one : (flat : Bool) (p : Spot) (a : Around) (q : Place) → Rule W flat (Ready W flat p a (in_items items) (ItemsWritten items))
      (λ x n h. ValueIn W p x.1 n h) (one_item a q items)

pub record CaughtIn (W : World) (p : Spot) (w : t.Phrase) (spent hid : ℕ) : Type 0 where
  pub phrase : sound.PhraseIn (at W p) w
  pub hidden_are : hidden_phrase w ≤ hid

pub record ChecksPhrase (W : World) (ph : s.Phrase) : Type 0 where
  pub by : (flat : Bool) (p : Spot) (a : Around) → Rule W flat (Ready W flat p a (is_catch ph) (PhraseWritten ph)) (CaughtIn W p) (phrase a ph)

pub record ChecksBrackets (W : World) (b : s.Brackets) : Type 0 where
  pub by : (flat : Bool) (p : Spot) (a : Around) (last : Place) (r : Reached) (c g : ℕ)
      → Rule W flat (Ready W flat p a (in_brackets b) (BracketsWritten b) × ReachedIn W flat p r c g) (λ y i j. ReachedIn W flat p y (c + i) (g + j))
      (apply a last r b)

pub record ChecksSuffixes (W : World) (ss : s.Suffixes) : Type 0 where
  pub by : (flat : Bool) (p : Spot) (a : Around) (way : Use) (last : Place) (r : Reached) (c g : ℕ)
      → Rule W flat (Ready W flat p a (in_suffixes ss) (SuffixesWritten ss) × ReachedIn W flat p r c g)
      (λ y i j. ReachedIn W flat p y.1 (c + i) (g + j))
      (walk a way last r ss)

pub record ChecksMaybe (W : World) (b : s.MaybeBrackets) : Type 0 where
  pub by : (flat : Bool) (p : Spot) (a : Around) (q : Place) (r : Raises)
      → Rule W flat (Ready W flat p a (in_maybe b) (MaybeWritten b) × RaisesIn W p flat r) (λ y i j. ReachedIn W flat p y i j) (with_brackets a q r b)

pub record ChecksRaise (W : World) (r : s.Raise) : Type 0 where
  pub by : (flat : Bool) (p : Spot) (a : Around) → Rule W flat (Ready W flat p a (in_raise r) (RaiseWritten r)) (λ y i j. ReachedIn W flat p y.1 i j)
      (raise a r)

any_ok : {A : Type 0} (r : Checked A) → IfOk r (λ x. Unit {0})
any_ok (Ok a) = tt
any_ok (Err e) = tt

module _ (W : World) where
  -- ---- suffixes
  pub walk_none : ChecksSuffixes W s.NoSuffix
  unfolding walk
  walk_none = record {
    by = λ flat p a way last r c g. given W flat (last, r) (λ pre. reaches.more_reached W p flat r c g (c + 0) (g + 0) (omega arith)
        (omega arith) pre.1);
  }

  pub walk_field : (x : Identifier) (ss : s.Suffixes) → ChecksSuffixes W ss → ChecksSuffixes W (s.Field x ss)
  unfolding walk in_suffixes SuffixesWritten
  walk_field x ss k = record {
    by = λ flat p a way last r c g.
        bind W flat (under W flat (λ pre. ((pre.0).around, reaches.settled_reached W p flat r c g pre.1))
        (reaches.field_reached W p flat a last (settled r) x c g)) (λ y i j.
        so W flat (λ z m n pre h. reaches.more_reached W p flat z.1 (c + i + m) (g + j + n) (c + (i + m)) (g + (j + n)) (omega arith) (omega arith) h)
        (under W flat (λ pre. (part (λ h. h) (λ w. w) pre.0.0, pre.1)) (k.by flat p a way x.place y (c + i) (g + j))));
  }

  pub walk_applied : (b : s.Brackets) (ss : s.Suffixes) → ChecksBrackets W b → ChecksSuffixes W ss → ChecksSuffixes W (s.Applied b ss)
  unfolding walk in_suffixes SuffixesWritten
  walk_applied b ss l k = record {
    by = λ flat p a way last r c g.
        bind W flat (tested W flat (may_apply way r) _ last) (λ u d e.
        bind W flat (under W flat (λ pre. (
          part (or_left (in_brackets b) (in_suffixes ss)) (λ w. w.0) pre.0.0,
          reaches.settled_reached W p flat r c g
              pre.0.1,
        ))
        (l.by flat p a last (settled r) c g)) (λ y i j.
        so W flat (λ z m n pre h. reaches.more_reached W p flat z.1 (c + i + m) (g + j + n) (c + (d + (i + m))) (g + (e + (j + n))) (omega arith)
        (omega arith) h)
        (under W flat (λ pre. (part (or_right (in_brackets b) (in_suffixes ss)) (λ w. w.1) pre.0.0.0, pre.1))
        (k.by flat p a way last y (c + i) (g + j)))));
  }

  -- ---- brackets
  BracketRule : (flat : Bool) (p : Spot) (a : Around) (q : Place) (items : s.Items) (ph : s.Phrase) (last : Place) (r : Reached) (c g : ℕ) → Type 0
  BracketRule flat p a q items ph last r c g =
      Rule W flat (Ready W flat p a (in_brackets (s.BracketsOf q items ph)) (BracketsWritten (s.BracketsOf q items ph)) × ReachedIn W flat p r c g)
      (λ y i j. ReachedIn W flat p y (c + i) (g + j)) (apply a last r (s.BracketsOf q items ph))

  index_variable : (flat : Bool) (p : Spot) (a : Around) (q : Place) (items : s.Items) (ph : s.Phrase) (last : Place) (h : t.Home) (ss : t.Suffixes)
      (k : PlainType) (c g : ℕ) → ChecksItems W items
      → BracketRule flat p a q items ph last (Variable h ss k) c g
  unfolding BracketRule apply in_brackets BracketsWritten ReachedIn
  index_variable flat p a q items ph last h ss k c g l =
      bind W flat (plainly W flat {P = λ b. BracketedIn W p b c g} (indexed last h ss k) (λ pre. reaches.indexed_in W p last h ss k c g pre.1))
      (λ b i j.
      bind W flat (plainly W flat {P = λ u. Unit {0}} (no_phrase ph) (λ pre. any_ok (no_phrase ph))) (λ u d e.
      bind W flat (under W flat (λ pre. part (or_right (is_catch ph) (in_items items)) (λ w. w.0) pre.0.0.0) (l.one flat p a q)) (λ x m n.
      ended W flat (at_index b x.0 x.1) (λ pre. weaker (at_index b x.0 x.1) (λ y. ReachedIn W flat p y (c + m) (g + n))
      (λ y. ReachedIn W flat p y (c + (i + (d + (m + 0)))) (g + (j + (e + (n + 0)))))
      (λ y. reaches.more_reached W p flat y (c + m) (g + n) (c + (i + (d + (m + 0)))) (g + (j + (e + (n + 0)))) (omega arith) (omega arith))
      (reaches.at_index_in W p flat b x.0 x.1 c g m n pre.0.0.1 pre.1)))))

  index_value : (flat : Bool) (p : Spot) (a : Around) (q : Place) (items : s.Items) (ph : s.Phrase) (last : Place) (f : ℕ) (v : t.Expr) (k : PlainType)
      (c g : ℕ) → ChecksItems W items
      → BracketRule flat p a q items ph last (Value f v k) c g
  unfolding BracketRule apply in_brackets BracketsWritten ReachedIn
  index_value flat p a q items ph last f v k c g l =
      bind W flat (plainly W flat {P = λ b. BracketedIn W p b c g} (text_at last k f v) (λ pre. reaches.text_in W p last f v k c g pre.1)) (λ b i j.
      bind W flat (plainly W flat {P = λ u. Unit {0}} (no_phrase ph) (λ pre. any_ok (no_phrase ph))) (λ u d e.
      bind W flat (under W flat (λ pre. part (or_right (is_catch ph) (in_items items)) (λ w. w.0) pre.0.0.0) (l.one flat p a q)) (λ x m n.
      ended W flat (at_index b x.0 x.1) (λ pre. weaker (at_index b x.0 x.1) (λ y. ReachedIn W flat p y (c + m) (g + n))
      (λ y. ReachedIn W flat p y (c + (i + (d + (m + 0)))) (g + (j + (e + (n + 0)))))
      (λ y. reaches.more_reached W p flat y (c + m) (g + n) (c + (i + (d + (m + 0)))) (g + (j + (e + (n + 0)))) (omega arith) (omega arith))
      (reaches.at_index_in W p flat b x.0 x.1 c g m n pre.0.0.1 pre.1)))))

  call_rule : (flat : Bool) (p : Spot) (a : Around) (q : Place) (items : s.Items) (ph : s.Phrase) (last : Place) (f : t.Callee) (k : PlainItem)
      (c g : ℕ)
      → ChecksItems W items → ChecksPhrase W ph
      → BracketRule flat p a q items ph last (Named (m.Procedure f k)) c g
  unfolding BracketRule apply in_brackets BracketsWritten ReachedIn
  call_rule flat p a q items ph last f k c g l w =
      bind W flat (spent_words W flat (words_of_fields k.gives)) (λ u i j.
      bind W flat (under W flat (λ pre. (
        part (or_right (is_catch ph) (in_items items)) (λ w. w.0) pre.0.0,
        (calls.callee_types W p flat f k pre.0.1).takes,
      ))
      (l.arguments flat p a k.takes q)) (λ x m n.
      bind W flat (under W flat (λ pre. part (or_left (is_catch ph) (in_items items)) (λ w. w.1) pre.0.0.0) (w.by flat p a)) (λ y d e.
      given W flat (Results (t.Call f x.places x.values (words_of_fields k.gives) y) k.gives) (λ pre.
      calls.call_in W p flat f k x y (c + (i + (m + (d + 0)))) (g + (j + (n + (e + 0)))) m n pre.0.0.0.1 pre.0.1 (pre.1).phrase
      (omega (arith, pre.0.0.1))
      (omega (arith, (pre.1).hidden_are))))))

  make_rule : (flat : Bool) (p : Spot) (a : Around) (q : Place) (items : s.Items) (ph : s.Phrase) (last : Place) (k : PlainType) (c g : ℕ)
      → ChecksItems W items
      → BracketRule flat p a q items ph last (Named (m.TypeName k)) c g
  unfolding BracketRule apply in_brackets BracketsWritten ReachedIn
  make_rule flat p a q items ph last k c g l =
      bind W flat (plainly W flat {P = λ u. Unit {0}} (has_parts k last) (λ pre. any_ok (has_parts k last))) (λ u i j.
      bind W flat (plainly W flat {P = λ u. Unit {0}} (no_phrase ph) (λ pre. any_ok (no_phrase ph))) (λ u d e.
      bind W flat (under W flat (λ pre. (part (or_right (is_catch ph) (in_items items)) (λ w. w.0) pre.0.0.0, reaches.type_there W p flat k pre.0.0.1))
      (l.construct flat p a k last q)) (λ x m n.
      given W flat (Value 0 x.value k) (λ pre. reaches.value_there W p flat x k (c + (i + (d + (m + 0)))) (g + (j + (e + (n + 0)))) m n (omega arith)
      (omega arith) (pre.1).0 (pre.1).1))))

  pub apply_brackets : (q : Place) (items : s.Items) (ph : s.Phrase) → ChecksItems W items → ChecksPhrase W ph
      → ChecksBrackets W (s.BracketsOf q items ph)
  unfolding BracketRule apply
  apply_brackets q items ph l w = record { by = λ flat p a last r c g. by flat p a last r c g }
    where
      by : (flat : Bool) (p : Spot) (a : Around) (last : Place) (r : Reached) (c g : ℕ) → BracketRule flat p a q items ph last r c g
      by flat p a last (Variable h ss k) c g = index_variable flat p a q items ph last h ss k c g l
      by flat p a last (Value f v k) c g = index_value flat p a q items ph last f v k c g l
      by flat p a last (Named (m.Procedure f k)) c g = call_rule flat p a q items ph last f k c g l w
      by flat p a last (Named (m.TypeName k)) c g = make_rule flat p a q items ph last k c g l
      by flat p a last r c g = failed W flat _ last

  -- ---- lists of values
  pub values_none : ChecksExprs W s.NoExprs
  unfolding values alike one_item count shapes copies sound.ExprsIn operands_of hidden_exprs
  values_none = record {
    one = λ flat p a q. failed W flat WrongCount q;
    values = λ flat p a ks. none flat p a ks;
    alike = λ flat p a k. given W flat t.NoExprs (λ pre. record { values = refl; operands_are = omega arith; hidden_are = omega arith });
  }
    where
      none : (flat : Bool) (p : Spot) (a : Around) (ks : List PlainType) → Rule W flat
          (Ready W flat p a (in_exprs s.NoExprs) (ExprsWritten s.NoExprs) × TypesIn ks) (ListIn W p ks (count s.NoExprs)) (values a ks s.NoExprs)
      none flat p a [] = given W flat t.NoExprs (λ pre. record {
        values = λ e. refl;
        some = λ e d. absurd (d refl);
        operands_are = omega arith;
        hidden_are = omega arith;
      })
      none flat p a (k ∷ ks) = given W flat t.NoExprs (λ pre. record {
        values = λ e. absurd (omega (arith, e));
        some = λ e d. absurd (omega (arith, e));
        operands_are = omega arith;
        hidden_are = omega arith;
      })

  and_value : (p : Spot) (x : t.Expr) (xs : t.Exprs) (k : t.Kind) (ks : t.Kinds) → sound.ExprIn (at W p) x (one k) → sound.ExprsIn (at W p) xs ks
      → sound.ExprsIn (at W p) (t.AndExpr x xs) (t.AndKind k ks)
  unfolding sound.ExprsIn
  and_value p x xs k ks h i = (k, ks, h, i, refl)

  -- a value that goes to a target
  into_kind : (p : Spot) (k : PlainType) (y : Typed) (c g : ℕ) → ValueIn W p y c g → y.kind ≡ k → sound.ExprIn (at W p) y.value (one (kind_of k))
  into_kind p k y c g h e = subst (λ j. sound.ExprIn (at W p) y.value (one (kind_of j))) e h.value

  pub values_more : (e : s.Expr) (es : s.Exprs) → Checks W e → ChecksExprs W es → ChecksExprs W (s.AndExpr e es)
  unfolding values alike one_item count shapes copies in_exprs ExprsWritten CheckedIn AimIn TypesIn operands_of hidden_exprs sound.HasValue
  values_more e es l k = record {
    one = λ flat p a q. single es flat p a q;
    values = λ flat p a ks. several flat p a ks;
    alike = λ flat p a j.
        bind W flat (under W flat (λ pre. (part (or_left (holds e) (in_exprs es)) (λ w. w.0) pre.0, pre.1)) (l.by flat p a (Into j (first e))))
        (λ x c g.
        bind W flat (under W flat (λ pre. (part (or_right (holds e) (in_exprs es)) (λ w. w.1) pre.0.0, pre.0.1)) (k.alike flat p a j)) (λ xs m n.
        given W flat (t.AndExpr x.value xs) (λ pre. record {
          values = one_more p j (count es) x c g xs (pre.0.1).0 (pre.0.1).1 (pre.1).values;
          operands_are = omega (arith, ((pre.0.1).0).operands_are, (pre.1).operands_are);
          hidden_are = omega (arith, ((pre.0.1).0).hidden_are, (pre.1).hidden_are);
        })));
  }
    where
      single : (es : s.Exprs) (flat : Bool) (p : Spot) (a : Around) (q : Place)
          → Rule W flat (Ready W flat p a (in_exprs (s.AndExpr e es)) (ExprsWritten (s.AndExpr e es))) (λ x n h. ValueIn W p x.1 n h)
          (one_item a q (s.InOrder (s.AndExpr e es)))
      single s.NoExprs flat p a q =
          bind W flat (under W flat (λ pre. (part (or_left (holds e) false) (λ w. w.0) pre, tt)) (l.by flat p a (Free (first e)))) (λ x c g.
          given W flat (first e, x) (λ pre. rules.more W p x c g (c + 0) (g + 0) (omega arith) (omega arith) pre.1))
      single (s.AndExpr d ds) flat p a q = failed W flat WrongCount q

      one_more : (p : Spot) (j : PlainType) (n : ℕ) (x : Typed) (c g : ℕ) (xs : t.Exprs) → ValueIn W p x c g → x.kind ≡ j
          → sound.ExprsIn (at W p) xs (copies n (kind_of j)) → sound.ExprsIn (at W p) (t.AndExpr x.value xs) (copies (n + 1) (kind_of j))
      one_more p j n x c g xs h d i = let m : suc n ≡ n + 1 = omega arith in subst
          (λ i. sound.ExprsIn (at W p) (t.AndExpr x.value xs) (copies i (kind_of j)))
          m (and_value p x.value xs (kind_of j) (copies n (kind_of j)) (into_kind p j x c g h d) i)

      several : (flat : Bool) (p : Spot) (a : Around) (ks : List PlainType) → Rule W flat
          (Ready W flat p a (in_exprs (s.AndExpr e es)) (ExprsWritten (s.AndExpr e es)) × TypesIn ks) (ListIn W p ks (count (s.AndExpr e es)))
          (values a ks (s.AndExpr e es))
      several flat p a [] = given W flat t.NoExprs (λ pre. record {
        values = λ d. absurd (omega (arith, d));
        some = λ d f. absurd (f refl);
        operands_are = omega arith;
        hidden_are = omega arith;
      })
      several flat p a (j ∷ ks) =
          bind W flat (under W flat (λ pre. (part (or_left (holds e) (in_exprs es)) (λ w. w.0) pre.0, pre.1.0)) (l.by flat p a (Into j (first e))))
          (λ x c g.
          bind W flat (under W flat (λ pre. (part (or_right (holds e) (in_exprs es)) (λ w. w.1) pre.0.0, pre.0.1.1)) (k.values flat p a ks)) (λ xs m n.
          given W flat (t.AndExpr x.value xs) (λ pre. record {
            values = λ d. and_value p x.value xs (kind_of j) (shapes ks) (into_kind p j x c g (pre.0.1).0 (pre.0.1).1)
                ((pre.1).values (omega (arith, d)));
            some = λ d f. tt;
            operands_are = omega (arith, ((pre.0.1).0).operands_are, (pre.1).operands_are);
            hidden_are = omega (arith, ((pre.0.1).0).hidden_are, (pre.1).hidden_are);
          })))

  pub keyed_none : ChecksKeyed W s.NoKeyedExprs
  unfolding keyed keys key_kinds SomeKey sound.ExprsIn operands_of hidden_exprs
  keyed_none = record {
    by = λ flat p a fs. given W flat t.NoExprs (λ pre. record
        { list = record { values = refl; operands_are = omega arith; hidden_are = omega arith }; some = tt });
  }

  pub keyed_more : (x : Identifier) (e : s.Expr) (es : s.KeyedExprs) → Checks W e → ChecksKeyed W es → ChecksKeyed W (s.AndKeyedExpr x e es)
  unfolding keyed keys key_kinds SomeKey in_keyed KeyedWritten CheckedIn AimIn operands_of hidden_exprs sound.HasValue
  keyed_more x e es l k = record {
    by = λ flat p a fs.
        bind W flat (under W flat (λ pre. (part (or_left (holds e) (in_keyed es)) (λ w. w.0) pre.0, key_type fs x pre.1))
        (l.by flat p a (Into (kind_by (field_named fs x)) (first e)))) (λ y c g.
        bind W flat (under W flat (λ pre. (part (or_right (holds e) (in_keyed es)) (λ w. w.1) pre.0.0, pre.0.1)) (k.by flat p a fs)) (λ xs m n.
        given W flat (t.AndExpr y.value xs) (λ pre. record {
          list = record {
            values = and_value p y.value xs (kind_of (kind_by (field_named fs x))) (key_kinds fs (keys es))
                (into_kind p (kind_by (field_named fs x)) y c g (pre.0.1).0 (pre.0.1).1) ((pre.1).list).values;
            operands_are = omega (arith, ((pre.0.1).0).operands_are, ((pre.1).list).operands_are);
            hidden_are = omega (arith, ((pre.0.1).0).hidden_are, ((pre.1).list).hidden_are);
          };
          some = tt;
        })));
  }

  -- ---- items
  same_counts : (n : ℕ) (fs : List PlainField) → nat_eq n (length fs) ≡ true → n ≡ length (kinds fs)
  same_counts n fs e = eqb-true n (length fs) e ∙ sym (length_of_kinds fs)

  no_kinds : (fs : List PlainField) → fs ≢ [] → kinds fs ≢ []
  no_kinds [] h e = h refl
  no_kinds (f ∷ fs) h e = let d : suc (length (kinds fs)) ≡ 0 = ap length e in omega (arith, d)

  ordered_arguments : (p : Spot) (fs : List PlainField) (n : ℕ) (xs : t.Exprs) (c g m h : ℕ) → m ≤ c → h ≤ g → nat_eq n (length fs) ≡ true
      → ListIn W p (kinds fs) n xs m h → ArgumentsIn W p fs (in_order xs) c g
  unfolding sound.Arranged
  ordered_arguments p fs n xs c g m h a b e l = record {
    kinds = kinds_of fs;
    values = subst (sound.ExprsIn (at W p) xs) (shapes_of_kinds fs) (l.values (same_counts n fs e));
    arranged = refl;
    some = λ f. l.some (same_counts n fs e) (no_kinds fs f);
    operands_are = omega (arith, a, l.operands_are);
    hidden_are = omega (arith, b, l.hidden_are);
  }

  keyed_some : (fs : List PlainField) (ys : List Identifier) (xs : t.Exprs) → complete fs ys ≡ true → fs ≢ [] → SomeKey ys xs → sound.HasValue xs
  unfolding SomeKey
  keyed_some fs [] xs e f h = absurd (f (no_field fs (eqb-true 0 (length fs) (both_left _ _ e))))
    where
      no_field : (fs : List PlainField) → 0 ≡ length fs → fs ≡ []
      no_field [] e = refl
      no_field (f ∷ fs) e = absurd (omega (arith, e))
  keyed_some fs (y ∷ ys) xs e f h = h

  keyed_arguments : (p : Spot) (fs : List PlainField) (ys : List Identifier) (xs : t.Exprs) (c g m h : ℕ) → m ≤ c → h ≤ g → FieldsIn fs
      → complete fs ys ≡ true
      → KeyedIn W p fs ys xs m h
      → ArgumentsIn W p fs (record { places = places_of fs ys; values = xs }) c g
  keyed_arguments p fs ys xs c g m h a b i e l = record {
    kinds = key_kinds fs ys;
    values = (l.list).values;
    arranged = arranged_keys fs ys i e;
    some = λ f. keyed_some fs ys xs e f l.some;
    operands_are = omega (arith, a, (l.list).operands_are);
    hidden_are = omega (arith, b, (l.list).hidden_are);
  }

  shape_fails : (flat : Bool) {Pre : Type 0} {Q : Typed → ℕ → ℕ → Type 0} (k : PlainType) (q r : Place)
      → Rule W flat Pre Q (construct_shape k q (fail WrongCount r))
  shape_fails flat {Pre} {Q} k q r = by (shape_of k)
    where
      by : (h : Shape) → Rule W flat Pre Q (by_shape h (λ fs. fail WrongCount r) (λ n j. fail WrongCount r) (fail TypeMismatch q))
      by (OfFields fs) = failed W flat WrongCount r
      by (OfElements n j) = failed W flat WrongCount r
      by NoShape = failed W flat TypeMismatch q

  pub items_none : ChecksItems W s.Nothing
  unfolding arguments construct one_item
  items_none = record {
    arguments = λ flat p a fs q. bind W flat (tested W flat (nat_eq 0 (length fs)) _ q) (λ u c g. given W flat (in_order t.NoExprs) (λ pre.
        more_arguments p fs (in_order t.NoExprs) 0 0 (c + 0) (g + 0) (omega arith) (omega arith)
        (calls.no_arguments W p fs (eqb-true 0 (length fs) pre.1))));
    construct = λ flat p a k q r. shape_fails flat k q r;
    one = λ flat p a q. failed W flat _ q;
  }
    where
      more_arguments : (p : Spot) (fs : List PlainField) (x : Arguments) (c g m h : ℕ) → c ≤ m → g ≤ h → ArgumentsIn W p fs x c g
          → ArgumentsIn W p fs x m h
      more_arguments p fs x c g m h i j a = record {
        kinds = a.kinds;
        values = a.values;
        arranged = a.arranged;
        some = a.some;
        operands_are = omega (arith, i, a.operands_are);
        hidden_are = omega (arith, j, a.hidden_are);
      }

  -- by the shape of a type that is made
  by_shapes : (flat : Bool) {Pre : Type 0} {Q : Typed → ℕ → ℕ → Type 0} (k : PlainType) (x : List PlainField → Check Typed)
      (y : ℕ → PlainType → Check Typed)
      (z : Check Typed)
      → ((fs : List PlainField) → fields k ≡ Some fs → Rule W flat Pre Q (x fs))
      → ((i e : PlainType) → k ≡ v.Array i e → Rule W flat Pre Q (y (elements_of i) e)) → Rule W flat Pre Q z
      → Rule W flat Pre Q (by_shape (shape_of k) x y z)
  unfolding ShapeIn
  by_shapes flat {Pre} {Q} k x y z h i j = by (shape_of k) (shape_in W (record
      { points = []; statements = 0; labels = 0; depth = 0; arm = []; statement = 0 })
      k)
    where
      by : (o : Shape) → ShapeIn W (record { points = []; statements = 0; labels = 0; depth = 0; arm = []; statement = 0 }) k o
          → Rule W flat Pre Q (by_shape o x y z)
      by (OfFields fs) e = h fs e
      by (OfElements n e) d = subst (λ n. Rule W flat Pre Q (y n e)) (sym d.2) (i d.0 e d.1)
      by NoShape e = j

  pub items_in_order : (es : s.Exprs) → ChecksExprs W es → ChecksItems W (s.InOrder es)
  unfolding arguments construct in_items ItemsWritten sound.Arranged
  items_in_order es k = record {
    arguments = λ flat p a fs q.
        bind W flat (tested W flat (nat_eq (count es) (length fs)) _ q) (λ u c g.
        bind W flat (under W flat (λ pre. (part (λ h. h) (λ w. w) pre.0.0, types_of_fields fs pre.0.1)) (k.values flat p a (kinds fs))) (λ xs m n.
        given W flat (in_order xs) (λ pre. ordered_arguments p fs (count es) xs (c + (m + 0)) (g + (n + 0)) m n (omega arith) (omega arith) pre.0.1
        pre.1)));
    construct = λ flat p a k' q r. by_shapes flat k' _ _ _
        (λ fs f. bind W flat (tested W flat (nat_eq (count es) (length fs)) _ r) (λ u c g.
        bind W flat (spent_words W flat (words_of k')) (λ u d e.
        bind W flat (under W flat (λ pre. (part (λ h. h) (λ w. w) pre.0.0.0, types_of_fields fs (calls.record_fields W p k' fs pre.0.0.1 f)))
        (k.values flat p a (kinds fs))) (λ xs m n.
        given W flat (made k' (in_order xs)) (λ pre. calls.made_of_fields W p k' fs (in_order xs) (shapes (kinds fs)) (c + (d + (m + 0)))
        (g + (e + (n + 0))) d
        pre.0.0.0.1 f
        ((pre.1).values (same_counts (count es) fs pre.0.0.1)) (shapes_of_kinds fs) pre.0.1 (omega (arith, (pre.1).operands_are))
        (omega (arith, (pre.1).hidden_are)))))))
        (λ i j f. bind W flat (tested W flat (nat_eq (count es) (elements_of i)) _ r) (λ u c g.
        bind W flat (spent_words W flat (words_of k')) (λ u d e.
        bind W flat (under W flat (λ pre. (part (λ h. h) (λ w. w) pre.0.0.0, calls.array_element W p k' i j pre.0.0.1 f)) (k.alike flat p a j))
        (λ xs m n.
        given W flat (made k' (in_order xs)) (λ pre. calls.made_of_elements W p k' i j xs (count es) (c + (d + (m + 0))) (g + (e + (n + 0))) d
        pre.0.0.0.1 f
        (pre.1).values (eqb-true (count es) (elements_of i) pre.0.0.1) pre.0.1 (omega (arith, (pre.1).operands_are))
        (omega (arith, (pre.1).hidden_are)))))))
        (failed W flat TypeMismatch q);
    one = k.one;
  }

  pub items_by_key : (es : s.KeyedExprs) → ChecksKeyed W es → ChecksItems W (s.ByKey es)
  unfolding arguments construct one_item in_items ItemsWritten
  items_by_key es k = record {
    arguments = λ flat p a fs q.
        bind W flat (tested W flat (complete fs (keys es)) _ q) (λ u c g.
        bind W flat (under W flat (λ pre. (part (λ h. h) (λ w. w) pre.0.0, pre.0.1)) (k.by flat p a fs)) (λ xs m n.
        given W flat (record { places = places_of fs (keys es); values = xs }) (λ pre. keyed_arguments p fs (keys es) xs (c + (m + 0)) (g + (n + 0)) m n
        (omega arith) (omega arith) pre.0.0.1 pre.0.1 pre.1)));
    construct = λ flat p a k' q r. by_shapes flat k' _ _ _
        (λ fs f. bind W flat (tested W flat (complete fs (keys es)) _ r) (λ u c g.
        bind W flat (spent_words W flat (words_of k')) (λ u d e.
        bind W flat (under W flat (λ pre. (part (λ h. h) (λ w. w) pre.0.0.0, calls.record_fields W p k' fs pre.0.0.1 f)) (k.by flat p a fs)) (λ xs m n.
        given W flat (made k' (record { places = places_of fs (keys es); values = xs })) (λ pre.
        calls.made_of_fields W p k' fs (record { places = places_of fs (keys es); values = xs }) (key_kinds fs (keys es)) (c + (d + (m + 0)))
        (g + (e + (n + 0))) d pre.0.0.0.1 f
        ((pre.1).list).values (arranged_keys fs (keys es) (calls.record_fields W p k' fs pre.0.0.0.1 f) pre.0.0.1) pre.0.1
        (omega (arith, ((pre.1).list).operands_are)) (omega (arith, ((pre.1).list).hidden_are)))))))
        (λ i j f. failed W flat WrongCount r)
        (failed W flat TypeMismatch q);
    one = λ flat p a q. failed W flat _ q;
  }

  -- ---- raises
  pub raise_bare : ChecksMaybe W s.NoBrackets
  unfolding with_brackets
  raise_bare = record {
    by = λ flat p a q r.
        bind W flat (tested W flat (nat_eq 0 (length (r.head).takes)) _ q) (λ u c g.
        bind W flat (spent_words W flat (words_of_fields (r.head).gives)) (λ u m n.
        given W flat (raised r (in_order t.NoExprs) t.NoPhrase) (λ pre. calls.raised_in W p flat r (in_order t.NoExprs) t.NoPhrase (c + (m + 0))
        (g + (n + 0)) 0
        0 pre.0.0.1
        (calls.no_arguments W p (r.head).takes (eqb-true 0 (length (r.head).takes) pre.0.1)) (calls.no_phrase_in W p).0 (omega (arith, pre.1))
        (omega (arith, (calls.no_phrase_in W p).1)))));
  }

  pub raise_brackets : (q : Place) (items : s.Items) (ph : s.Phrase) → ChecksItems W items → ChecksPhrase W ph
      → ChecksMaybe W (s.WithBrackets (s.BracketsOf q items ph))
  unfolding with_brackets in_maybe in_brackets MaybeWritten BracketsWritten
  raise_brackets q items ph l w = record {
    by = λ flat p a o r.
        bind W flat (spent_words W flat (words_of_fields (r.head).gives)) (λ u i j.
        bind W flat (under W flat (λ pre. (
          part (or_right (is_catch ph) (in_items items)) (λ w. w.0) pre.0.0,
          ((calls.raised_of W p flat r.raised r.head (pre.0.1).seen).item).takes,
        )) (l.arguments flat p a (r.head).takes q)) (λ x m n.
        bind W flat (under W flat (λ pre. part (or_left (is_catch ph) (in_items items)) (λ w. w.1) pre.0.0.0) (w.by flat p a)) (λ y d e.
        given W flat (raised r x y) (λ pre. calls.raised_in W p flat r x y (i + (m + (d + 0))) (j + (n + (e + 0))) m n pre.0.0.0.1 pre.0.1
        (pre.1).phrase
        (omega (arith, pre.0.0.1)) (omega (arith, (pre.1).hidden_are))))));
  }

  pub raise_signal : (q : Place) (x : QualifiedName) (b : s.MaybeBrackets) → ChecksMaybe W b → ChecksRaise W (s.SignalRaise q x b)
  unfolding raise in_raise RaiseWritten
  raise_signal q x b k = record {
    by = λ flat p a.
        bind W flat (qualified_is_seen W flat a x (λ pre. pre.around)) (λ y c g.
        bind W flat (plainly W flat {P = RaisesIn W p flat} (raises_by item.Signal (last_of x).place y)
        (λ pre. calls.raises_in W p flat item.Signal (last_of x).place y pre.1)) (λ r i j.
        bind W flat (under W flat (λ pre. (part (λ h. h) (λ w. w) pre.0.0, pre.1)) (k.by flat p a q r)) (λ z m n.
        given W flat (q, z) (λ pre. reaches.more_reached W p flat z m n (c + (i + (m + 0))) (g + (j + (n + 0))) (omega arith) (omega arith) pre.1))));
  }

  pub raise_error : (q : Place) (x : QualifiedName) (b : s.MaybeBrackets) → ChecksMaybe W b → ChecksRaise W (s.ErrorRaise q x b)
  unfolding raise in_raise RaiseWritten
  raise_error q x b k = record {
    by = λ flat p a.
        bind W flat (qualified_is_seen W flat a x (λ pre. pre.around)) (λ y c g.
        bind W flat (plainly W flat {P = RaisesIn W p flat} (raises_by item.Error (last_of x).place y)
        (λ pre. calls.raises_in W p flat item.Error (last_of x).place y pre.1)) (λ r i j.
        bind W flat (under W flat (λ pre. (part (λ h. h) (λ w. w) pre.0.0, pre.1)) (k.by flat p a q r)) (λ z m n.
        given W flat (q, z) (λ pre. reaches.more_reached W p flat z m n (c + (i + (m + 0))) (g + (j + (n + 0))) (omega arith) (omega arith) pre.1))));
  }

  pub raise_unnamed : (q : Place) → ChecksRaise W (s.UnnamedError q)
  unfolding raise
  raise_unnamed q = record { by = λ flat p a. given W flat _ (λ pre. calls.unnamed_in W p flat 0 0) }

  -- ---- names, constructors and raises as expressions
  pub check_reference : (x : Identifier) (ss : s.Suffixes) → ChecksSuffixes W ss → Checks W (s.Reference (s.LeftOf x ss))
  unfolding check holds in_left ExprWritten LeftWritten
  check_reference x ss k = record {
    by = λ flat p a aim.
        bind W flat (name_is_seen W flat a x (λ pre. (pre.0).around)) (λ y c g.
        bind W flat (under W flat (λ pre. (part (λ h. h) (λ w. w) pre.0.0, reaches.name_reached W p flat y 0 0 pre.1))
        (k.by flat p a Read x.place (reached y) 0 0)) (λ r i j.
        bind W flat (under W flat (λ pre. pre.1) (reaches.value_in W p flat aim r.0 r.1 (0 + i) (0 + j))) (λ z m n.
        ended W flat (finish aim z) (λ pre. rules.finished_several W p aim z (c + (i + (m + 0))) (g + (j + (n + 0))) pre.0.0.0.1
        (rules.more_fresh W p aim z (0 + i + m) (0 + j + n) (c + (i + (m + 0))) (g + (j + (n + 0))) (omega arith) (omega arith) pre.1)))));
  }

  pub check_raised : (r : s.Raise) → ChecksRaise W r → Checks W (s.Raised r)
  unfolding check holds ExprWritten
  check_raised r k = record {
    by = λ flat p a aim.
        bind W flat (under W flat (λ pre. part (λ h. h) (λ w. w) pre.0) (k.by flat p a)) (λ x i j.
        bind W flat (under W flat (λ pre. pre.1) (reaches.value_in W p flat aim x.0 x.1 i j)) (λ z m n.
        ended W flat (finish aim z) (λ pre. rules.finished_several W p aim z (i + (m + 0)) (j + (n + 0)) pre.0.0.1
        (rules.more_fresh W p aim z (i + m) (j + n) (i + (m + 0)) (j + (n + 0)) (omega arith) (omega arith) pre.1))));
  }

  pub check_constructor : (q : Place) (items : s.Items) → ChecksItems W items → Checks W (s.Constructor q items)
  unfolding check holds ExprWritten CheckedIn AimIn
  check_constructor q items k = record { by = λ flat p a aim. by flat p a aim }
    where
      by : (flat : Bool) (p : Spot) (a : Around) (aim : Aim) → Rule W flat (Ready W flat p a (holds (s.Constructor q items))
          (ExprWritten (s.Constructor q items)) × AimIn aim) (CheckedIn W p aim) (check a aim (s.Constructor q items))
      by flat p a (Free r) = failed W flat TypeMismatch r
      by flat p a (Several r) = failed W flat TypeMismatch r
      by flat p a (Into j r) = under W flat (λ pre. (part (λ h. h) (λ w. w) pre.0, pre.1)) (k.construct flat p a j r q)
