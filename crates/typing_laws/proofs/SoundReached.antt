-- What a name leads to, and what its suffixes lead to from there, is sound.
use Rattle.std.proofs.Common.{◌≡◌, ℕ, suc, ◌+◌, ◌*◌, List, [], ◌∷◌, ◌++◌, length, refl, sym, ◌∙◌, ap, subst, arith}
use Rattle.std.specs.Prelude.{◌≤◌, ◌<◌, ◌≢◌, ◌-◌, Bool, true, false, ◌&&◌, Option, Some, None, Ok, IfOk, min, if◌then◌else◌}
use Rattle.mesa_base.specs.declared.place.Place.{Place}
use Rattle.mesa_base.specs.declared.identifier.Identifier.{Identifier}
use Rattle.mesa_types.specs.Sound as sound
use Rattle.mesa_types.specs.Counts.{operands, operands_in, unnamed, hidden_expr, hidden_suffixes}
use Rattle.mesa_types.specs.Shapes.{one, KindAt, PartOf, words_before, words_in, HasWords}
use Rattle.mesa_types.proofs.WordSizes.{values_have_words}
use Rattle.check_rules.specs.Typed as t
use Rattle.interface_records.specs.PlainTypes as v
use Rattle.interface_records.specs.PlainTypes.{PlainType, PlainField, base_of, kind_of, kinds_of, fields, is_text, is_long, is_ordinal, is_ordinal_base, words_of, elements_of, one_base, one_ordinal_base, array_parts, bounds}
use Rattle.check_rules.specs.declared.fault.Cause.{Cause}
use Rattle.check_rules.specs.Meanings.{Meaning}
use Rattle.check_rules.specs.Meanings as m
use Rattle.check_rules.specs.Steps.{refuse}
use Rattle.check_rules.specs.Around.{Around}
use Rattle.check_rules.specs.Parts.{Found, has_name, found, field_named, and_suffix, and_part}
use Rattle.check_rules.specs.Ranges.{Typed, typed, Aim, Free, Into, Several}
use Rattle.check_rules.specs.Interfaces.{ConstantFits}
use Rattle.check_rules.specs.Reached.{Reached, Variable, Value, Results, Named, constant_value, reached, settled, results, value, is_length, length_of, field_of_fields, field_in, field_of_variable, part_of, field_of_value, field, Bracketed, InArray, InText, text_at, indexed_by, indexed, first_word, index_range, index_of, at_index, stored}
use Rattle.check_rules.proofs.SoundTypes.{TypeIn, FieldsIn, FieldsOf, no_truth, none_is_no, both_left, fields_of_type, words_agree, has_words, ordinal_kind, long_kind}
use Rattle.typing_laws.proofs.SoundConstants.{constant_kind}
use Rattle.typing_laws.proofs.SoundOperators.{index_words, first_is_word, plain_words, plain_types}
use Rattle.typing_laws.proofs.SoundSteps.{World, Spot, at, MeaningIn, Rule, bind, given, ended, failed, spent_words}
use Rattle.typing_laws.proofs.SoundNames.{interface_is_seen}
use Rattle.typing_laws.proofs.SoundnessStatements.{SeenIn, AroundIn, ValueIn, FreshIn, GaveIn, FoundIn, VariableReached, ValueReached, ResultsReached, ReachedIn, BracketedIn, TargetIn}
use Rattle.typing_laws.proofs.SoundValues as values

-- ---- fields

record FoundAt (n offset : ℕ) (fs : List PlainField) (f : Found) : Type 0 where
  place : ℕ
  is : f.number ≡ n + place
  there : KindAt (kinds_of fs) place (kind_of f.kind)
  lies : f.offset ≡ offset + words_before (kinds_of fs) place
  kind : TypeIn f.kind

found_at : (x : List ℕ) (n offset : ℕ) (fs : List PlainField) (f : Found) → FieldsIn fs → found x n offset fs ≡ Some f → FoundAt n offset fs f
unfolding found FieldsIn kinds_of KindAt words_before
found_at x n offset [] f h e = none_is_no f e
found_at x n offset (g ∷ gs) f h e = by (has_name x g.name) e (found_at x (n + 1) (offset + words_of g.kind) gs f h.1)
  where
    here : Found
    here = record { number = n; offset = offset; kind = g.kind }

    same_one : (a b : Found) → Some a ≡ Some b → a ≡ b
    same_one a b e = cc

    first : FoundAt n offset (g ∷ gs) here
    first = record { place = 0; is = omega arith; there = refl; lies = omega arith; kind = h.0 }

    by : (b : Bool) → (if b then Some here else found x (n + 1) (offset + words_of g.kind) gs) ≡ Some f
        → (found x (n + 1) (offset + words_of g.kind) gs ≡ Some f → FoundAt (n + 1) (offset + words_of g.kind) gs f) → FoundAt n offset (g ∷ gs) f
    by true e rest = subst (FoundAt n offset (g ∷ gs)) (same_one here f e) first
    by false e rest = let r = rest e in record {
      place = suc r.place;
      is = omega (arith, r.is);
      there = r.there;
      lies = omega (arith, r.lies, words_agree g.kind);
      kind = r.kind;
    }

pub found_in_fields : (fs : List PlainField) (x : Identifier) (f : Found) → FieldsIn fs → field_named fs x ≡ Some f → FoundIn fs f
found_in_fields fs x f h e =
    let r = found_at x.name 0 0 fs f h e in
    let same : f.number ≡ r.place = omega (arith, r.is) in
    record {
      there = subst (λ n. KindAt (kinds_of fs) n (kind_of f.kind)) (sym same) r.there;
      lies = subst (λ n. f.offset ≡ words_before (kinds_of fs) n) (sym same) (omega (arith, r.lies));
      kind = r.kind;
    }

pub text_type : (k : PlainType) → is_text k ≡ true → k ≡ v.String
text_type v.String e = refl
text_type v.Integer e = no_truth e
text_type v.Cardinal e = no_truth e
text_type v.LongInteger e = no_truth e
text_type v.LongCardinal e = no_truth e
text_type v.Boolean e = no_truth e
text_type v.Character e = no_truth e
text_type (v.Enumeration o xs) e = no_truth e
text_type (v.Subrange k m n) e = no_truth e
text_type (v.Array i e) d = no_truth d
text_type (v.Record o ps) e = no_truth e

text_kind : kind_of v.String ≡ t.Texts
unfolding kind_of
text_kind = refl

text_words : words_of v.String ≡ 2
unfolding words_of
text_words = refl

module _ (W : World) (p : Spot) where
  -- ---- suffixes and parts, and one more behind them
  pub field_more : (ss : t.Suffixes) (j : t.Kind) (ks : t.Kinds) (n offset : ℕ) (k : t.Kind) → sound.SuffixesIn (at W p) ss j (t.Record ks)
      → PartOf ks n offset k
      → sound.SuffixesIn (at W p) (and_suffix ss (t.Field n offset)) j k
  unfolding sound.SuffixesIn and_suffix
  field_more t.NoSuffix j ks n offset k h f = (ks, k, h, f, refl)
  field_more (t.Field i o ss) j ks n offset k h f = (h.0, h.1, h.2, h.3, field_more ss h.1 ks n offset k h.4 f)
  field_more (t.Index r first i words e ss) j ks n offset k h f = (h.0, h.1, h.2, h.3, h.4, h.5, h.6, field_more ss h.0 ks n offset k h.7 f)

  pub field_counts : (ss : t.Suffixes) (n offset : ℕ) → (operands_in (and_suffix ss (t.Field n offset)) ≡ operands_in ss) × (hidden_suffixes
      (and_suffix ss (t.Field n offset)) ≡ hidden_suffixes ss)
  unfolding operands_in hidden_suffixes and_suffix
  field_counts t.NoSuffix n offset = (refl, refl)
  field_counts (t.Field i o ss) n offset = field_counts ss n offset
  field_counts (t.Index r first i words e ss) n offset = let c = field_counts ss n offset in (omega (arith, c.0), omega (arith, c.1))

  pub index_more : (ss : t.Suffixes) (j k : t.Kind) (r : t.Range) (first n words : ℕ) (e : t.Expr) → sound.SuffixesIn (at W p) ss j (t.Array n k)
      → words ≡ words_in k → first < 65536 → n ≤ 16384
      → sound.RangeIn r → sound.ExprIn (at W p) e sound.a_word → sound.SuffixesIn (at W p) (and_suffix ss (t.Index r first n words e)) j k
  unfolding sound.SuffixesIn and_suffix
  index_more t.NoSuffix j k r first n words e h w f m x i = (k, h, w, f, m, x, i, refl)
  index_more (t.Field a o ss) j k r first n words e h w f m x i = (h.0, h.1, h.2, h.3, index_more ss h.1 k r first n words e h.4 w f m x i)
  index_more (t.Index a b c d g ss) j k r first n words e h w f m x i = (h.0, h.1, h.2, h.3, h.4, h.5, h.6, index_more ss h.0 k r first n words e h.7 w f m x i)

  pub index_counts : (ss : t.Suffixes) (r : t.Range) (first n words : ℕ) (e : t.Expr)
      → (operands_in (and_suffix ss (t.Index r first n words e)) ≡ operands_in ss + operands e) × (hidden_suffixes
      (and_suffix ss (t.Index r first n words e)) ≡ hidden_suffixes ss + hidden_expr e)
  unfolding operands_in hidden_suffixes and_suffix
  index_counts t.NoSuffix r first n words e = (omega arith, omega arith)
  index_counts (t.Field i o ss) r first n words e = index_counts ss r first n words e
  index_counts (t.Index a b c d g ss) r first n words e = let c = index_counts ss r first n words e in (omega (arith, c.0), omega (arith, c.1))

  parts_more : (ps : List t.Part) (q : t.Part) (j k l : t.Kind) → sound.FieldsIn ps j k → sound.FieldsIn (q ∷ []) k l → sound.FieldsIn (ps ++ q ∷ []) j l
  unfolding sound.FieldsIn
  parts_more [] q j k l h f = (f.0, f.1, h ∙ f.2, f.3, f.4, f.5)
  parts_more (o ∷ ps) q j k l h f = (h.0, h.1, h.2, h.3, h.4, parts_more ps q h.1 k l h.5 f)

  some_parts : (ps : List t.Part) (q : t.Part) → (ps ++ q ∷ []) ≢ []
  some_parts [] q e = let d : 1 ≡ 0 = ap length e in omega (arith, d)
  some_parts (o ∷ ps) q e = let d : suc (length (ps ++ q ∷ [])) ≡ 0 = ap length e in omega (arith, d)

  same_kind : (j k : t.Kind) → one j ≡ one k → j ≡ k
  unfolding one
  same_kind j k e = cc

  pub part_more : (e : t.Expr) (q : t.Part) (j k : t.Kind) → sound.ExprIn (at W p) e (one j) → sound.FieldsIn (q ∷ []) j k
      → sound.ExprIn (at W p) (and_part e q) (one k)
  unfolding sound.ExprIn
  part_more (t.FieldOf e ps) q j k h f = (
    some_parts ps q,
    h.1,
    k,
    h.3,
    parts_more ps q h.1 h.2 k h.4
        (subst (λ x. sound.FieldsIn (q ∷ []) x k) (same_kind j h.2 h.5) f),
    refl,
  )
  part_more e q j k h f = (some_parts [] q, j, k, h, f, refl)

  pub part_counts : (e : t.Expr) (q : t.Part) → (operands (and_part e q) ≡ operands e) × (hidden_expr (and_part e q) ≡ hidden_expr e)
  unfolding operands hidden_expr
  part_counts (t.FieldOf e ps) q = (refl, refl)
  part_counts e q = (refl, refl)

  -- ---- what a name leads to
  pub variable_expr : (h : t.Home) (ss : t.Suffixes) (k : PlainType) (n g : ℕ) → VariableReached W p h ss k n g
      → sound.ExprIn (at W p) (t.Variable h ss (words_of k)) (one (kind_of k))
  unfolding sound.ExprIn
  variable_expr h ss k n g r = (r.whole, kind_of k, r.home, r.part, words_agree k, refl)

  record ConstantIn (k : PlainType) (e : t.Expr) : Type 0 where
    value : sound.ExprIn (at W p) e (one (kind_of k))
    operands_are : operands e ≡ words_of k
    hidden_are : hidden_expr e ≡ 0

  constant_in : (k : PlainType) (i : ℕ) (l : Bool) → is_long k ≡ l → ConstantFits (kind_of k) i → ConstantIn k (constant_value l i)
  unfolding sound.ExprIn operands hidden_expr words_in ConstantFits sound.a_word sound.a_long
  constant_in k i true e h =
      let d = long_kind k e in record {
        value = (subst (λ j. ConstantFits j i) d h, ap one d);
        operands_are = sym (words_agree k ∙ ap words_in d);
        hidden_are = refl;
      }
  constant_in k i false e h =
      let d = constant_kind k i h e in record {
        value = (subst (λ j. ConstantFits j i) d h, ap one d);
        operands_are = sym (words_agree k ∙ ap words_in d);
        hidden_are = refl;
      }

  no_fields : (k : PlainType) (i : ℕ) (fs : List PlainField) → TypeIn k → ConstantFits (kind_of k) i → fields k ≡ Some fs → ⊥
  unfolding ConstantFits
  no_fields k i fs d h e = subst (λ j. ConstantFits j i) (fields_of_type k fs d e).shape h

  constant_reached : (k : PlainType) (i n g : ℕ) → ConstantFits (kind_of k) i → TypeIn k → ValueReached W p (words_of k) (constant_value (is_long k) i) k n g
  unfolding ConstantFits kind_of
  constant_reached k i n g h d =
      let c = constant_in k i (is_long k) refl h in record {
        value = c.value;
        kind = d;
        operands_are = omega (arith, c.operands_are);
        one_is = λ e. absurd (no_text k i h e);
        few = λ fs e. absurd (no_fields k i fs d h e);
        hidden_are = omega (arith, c.hidden_are);
      }
    where
      no_text : (k : PlainType) (i : ℕ) → ConstantFits (kind_of k) i → is_text k ≡ true → ⊥
      no_text k i h e = subst (λ j. ConstantFits (kind_of j) i) (text_type k e) h

  pub name_reached : (flat : Bool) (a : Meaning) (n g : ℕ) → SeenIn W flat a → ReachedIn W flat p (reached a) n g
  unfolding reached ReachedIn MeaningIn sound.VariableIn sound.SuffixesIn operands_in hidden_suffixes operands hidden_expr unnamed
  name_reached flat (m.Variable (t.Global i) k) n g h = record {
    whole = kind_of k;
    home = (h.there).0;
    part = refl;
    kind = (h.there).1;
    operands_are = omega arith;
    hidden_are = omega arith;
  }
  name_reached flat (m.Variable (t.Local i) k) n g h = record {
    whole = kind_of k;
    home = (h.there).1;
    part = refl;
    kind = (h.there).2;
    operands_are = omega arith;
    hidden_are = omega arith;
  }
  name_reached flat (m.Constant k i) n g h = constant_reached k i n g (h.there).0 (h.there).1
  name_reached flat (m.TextConstant i) n g h = record {
    value = (values.text_value W p i 2 0 h.there (omega arith)).value;
    kind = plain_types.4;
    operands_are = omega arith;
    one_is = λ c. omega arith;
    few = λ fs e. none_is_no fs e;
    hidden_are = omega arith;
  }
  name_reached flat (m.TypeName k) n g h = h
  name_reached flat (m.Procedure c i) n g h = h
  name_reached flat (m.Signal r i) n g h = h
  name_reached flat (m.Interface i) n g h = h
  name_reached flat m.Later n g h = h
  name_reached flat m.Headless n g h = h
  name_reached flat m.NotImported n g h = h

  pub settled_reached : (flat : Bool) (r : Reached) (n g : ℕ) → ReachedIn W flat p r n g → ReachedIn W flat p (settled r) n g
  unfolding ReachedIn FieldsIn kinds_of one
  settled_reached flat (Results e (f ∷ [])) n g h = record {
    value = h.value;
    kind = (h.kinds).0;
    operands_are = omega (arith, h.operands_are);
    one_is = λ c. omega (arith, h.operands_are);
    few = λ fs e. omega arith;
    hidden_are = h.hidden_are;
  }
  settled_reached flat (Results e []) n g h = h
  settled_reached flat (Results e (f ∷ d ∷ fs)) n g h = h
  settled_reached flat (Variable v ss k) n g h = h
  settled_reached flat (Value i e k) n g h = h
  settled_reached flat (Named a) n g h = h

  -- with more words counted
  pub more_reached : (flat : Bool) (r : Reached) (n g n' g' : ℕ) → n ≤ n' → g ≤ g' → ReachedIn W flat p r n g → ReachedIn W flat p r n' g'
  unfolding ReachedIn
  more_reached flat (Variable v ss k) n g n' g' a b h = record {
    whole = h.whole;
    home = h.home;
    part = h.part;
    kind = h.kind;
    operands_are = omega (arith, a, h.operands_are);
    hidden_are = omega (arith, b, h.hidden_are);
  }
  more_reached flat (Value i e k) n g n' g' a b h = record {
    value = h.value;
    kind = h.kind;
    operands_are = omega (arith, a, h.operands_are);
    one_is = λ c. omega (arith, a, h.one_is c);
    few = h.few;
    hidden_are = omega (arith, b, h.hidden_are);
  }
  more_reached flat (Results e fs) n g n' g' a b h = record {
    call = h.call;
    value = h.value;
    kinds = h.kinds;
    operands_are = omega (arith, a, h.operands_are);
    hidden_are = omega (arith, b, h.hidden_are);
  }
  more_reached flat (Named a') n g n' g' a b h = h

  -- ---- fields
  length_expr : (e : t.Expr) → sound.ExprIn (at W p) e (one t.Texts) → sound.ExprIn (at W p) (t.LengthOf e) sound.a_word
  unfolding sound.ExprIn
  length_expr e h = (h, refl)

  length_reached : (flat : Bool) (n : ℕ) (e : t.Expr) (k : PlainType) (s g : ℕ) → k ≡ v.String → sound.ExprIn (at W p) e (one (kind_of k)) → n ≤ 1
      → operands e - unnamed e ≤ s + n → hidden_expr e ≤ g
      → ReachedIn W flat p (Value n (t.LengthOf e) v.Cardinal) s g
  unfolding ReachedIn operands unnamed hidden_expr
  length_reached flat n e k s g d x small o i = record {
    value = values.of_word W p (t.LengthOf e) v.Cardinal plain_words.3 (length_expr e
        (subst (λ j. sound.ExprIn (at W p) e (one j)) (ap kind_of d ∙ text_kind) x));
    kind = plain_types.3;
    operands_are = o;
    one_is = λ c. omega (arith, small, o);
    few = λ fs e. none_is_no fs e;
    hidden_are = i;
  }

  field_is : (last : Place) (make : Found → Reached) (n : ℕ) (e : t.Expr) (k : PlainType) (x : Identifier) (P : Reached → Type 0)
      → ((fs : List PlainField) (f : Found) → fields k ≡ Some fs → field_named fs x ≡ Some f → P (make f))
      → (is_text k ≡ true → P (Value n (t.LengthOf e) v.Cardinal)) → IfOk (field_in last make n e k x) P
  unfolding field_in
  field_is last make n e k x P h i = by (fields k) _ refl
    where
      text : (b c : Bool) (cause other : Cause) → (b ≡ true → P (Value n (t.LengthOf e) v.Cardinal))
          → IfOk (if b then (if c then Ok (Value n (t.LengthOf e) v.Cardinal) else refuse cause x.place) else refuse other last) P
      text true true cause other i = i refl
      text true false cause other i = tt
      text false c cause other i = tt

      by : (o : Option (List PlainField)) (cause : Cause) → fields k ≡ o → IfOk (field_of_fields make x o
          (if is_text k then length_of x n e else refuse cause last)) P
      by (Some fs) cause d = values.where_some (field_named fs x) _ x.place make P (λ f c. h fs f d c)
      by None cause d = text (is_text k) (is_length x) _ _ i

  part_in : (k : PlainType) (fs : List PlainField) (f : Found) → FieldsOf k fs → FoundIn fs f → sound.FieldsIn (part_of f ∷ []) (kind_of k) (kind_of f.kind)
  unfolding sound.FieldsIn
  part_in k fs f o i = (kinds_of fs, kind_of f.kind, o.shape, record { is_there = i.there; lies = i.lies }, words_agree f.kind, refl)

  field_of_variable_in : (flat : Bool) (h : t.Home) (ss : t.Suffixes) (k : PlainType) (fs : List PlainField) (f : Found) (s g : ℕ) → FieldsOf k fs
      → FoundIn fs f → VariableReached W p h ss k s g
      → ReachedIn W flat p (field_of_variable h ss f) s g
  unfolding ReachedIn
  field_of_variable_in flat h ss k fs f s g o i r = record {
    whole = r.whole;
    home = r.home;
    part = field_more ss r.whole (kinds_of fs) f.number f.offset (kind_of f.kind) (subst (λ j. sound.SuffixesIn (at W p) ss r.whole j) o.shape r.part)
        (record { is_there = i.there; lies = i.lies });
    kind = i.kind;
    operands_are = omega (arith, (field_counts ss f.number f.offset).0, r.operands_are);
    hidden_are = omega (arith, (field_counts ss f.number f.offset).1, r.hidden_are);
  }

  field_of_value_in : (flat : Bool) (n : ℕ) (e : t.Expr) (k : PlainType) (fs : List PlainField) (f : Found) (s g : ℕ) → FieldsOf k fs → fields k ≡ Some fs
      → FoundIn fs f → ValueReached W p n e k s g
      → ReachedIn W flat p (field_of_value n e f) s g
  unfolding ReachedIn
  field_of_value_in flat n e k fs f s g o d i r =
      let small = r.few fs d in
      record {
        value = part_more e (part_of f) (kind_of k) (kind_of f.kind) r.value (part_in k fs f o i);
        kind = i.kind;
        operands_are = omega (arith, (part_counts e (part_of f)).0, r.operands_are);
        one_is = λ c. omega (arith, (part_counts e (part_of f)).0, r.operands_are, small);
        few = λ gs e. small;
        hidden_are = omega (arith, (part_counts e (part_of f)).1, r.hidden_are);
      }

  variable_of_text : (h : t.Home) (ss : t.Suffixes) (k : PlainType) (s g : ℕ) → k ≡ v.String → VariableReached W p h ss k s g
      → (operands (t.Variable h ss (words_of k)) - unnamed (t.Variable h ss (words_of k)) ≤ s + 1) × (hidden_expr (t.Variable h ss (words_of k)) ≤ g)
  unfolding operands unnamed hidden_expr
  variable_of_text h ss k s g e r = let two : words_of k ≡ 2 = ap words_of e ∙ text_words in (omega (arith, two, r.operands_are), r.hidden_are)

  pub field_reached : (flat : Bool) (a : Around) (last : Place) (r : Reached) (x : Identifier) (s g : ℕ)
      → Rule W flat (AroundIn W flat p a × ReachedIn W flat p r s g) (λ y m n. ReachedIn W flat p y (s + m) (g + n)) (field a last r x)
  unfolding field ReachedIn
  field_reached flat a last (Variable h ss k) x s g = ended W flat (field_in last (field_of_variable h ss) 1 (t.Variable h ss (words_of k)) k x) (λ pre.
      field_is last (field_of_variable h ss) 1 (t.Variable h ss (words_of k)) k x (λ y. ReachedIn W flat p y (s + 0) (g + 0))
      (λ fs f d c. let o = fields_of_type k fs (pre.1).kind d in
      more_reached flat (field_of_variable h ss f) s g (s + 0) (g + 0) (omega arith) (omega arith)
      (field_of_variable_in flat h ss k fs f s g o (found_in_fields fs x f o.types c) pre.1))
      (λ e. let d = text_type k e in let c = variable_of_text h ss k s g d pre.1 in
      length_reached flat 1 (t.Variable h ss (words_of k)) k (s + 0) (g + 0) d (variable_expr h ss k s g pre.1) (omega arith) (omega (arith, c.0))
      (omega (arith, c.1))))
  field_reached flat a last (Value n e k) x s g = ended W flat (field_in last (field_of_value n e) (min n 1) e k x) (λ pre.
      field_is last (field_of_value n e) (min n 1) e k x (λ y. ReachedIn W flat p y (s + 0) (g + 0))
      (λ fs f d c. let o = fields_of_type k fs (pre.1).kind d in
      more_reached flat (field_of_value n e f) s g (s + 0) (g + 0) (omega arith) (omega arith)
      (field_of_value_in flat n e k fs f s g o d (found_in_fields fs x f o.types c) pre.1))
      (λ d. length_reached flat (min n 1) e k (s + 0) (g + 0) (text_type k d) (pre.1).value (omega arith) (omega (arith, (pre.1).one_is d))
      (omega (arith, (pre.1).hidden_are))))
  field_reached flat a last (Named (m.Interface n)) x s g =
      bind W flat (interface_is_seen W flat a n x (λ pre. pre.0)) (λ y i j. given W flat (reached y)
      (λ pre. name_reached flat y (s + (i + 0)) (g + (j + 0)) pre.1))
  field_reached flat a last (Named (m.Variable h k)) x s g = failed W flat _ last
  field_reached flat a last (Named (m.Constant k n)) x s g = failed W flat _ last
  field_reached flat a last (Named (m.TextConstant n)) x s g = failed W flat _ last
  field_reached flat a last (Named (m.TypeName k)) x s g = failed W flat _ last
  field_reached flat a last (Named (m.Procedure c i)) x s g = failed W flat _ last
  field_reached flat a last (Named (m.Signal r i)) x s g = failed W flat _ last
  field_reached flat a last (Named m.Later) x s g = failed W flat _ last
  field_reached flat a last (Named m.Headless) x s g = failed W flat _ last
  field_reached flat a last (Named m.NotImported) x s g = failed W flat _ last
  field_reached flat a last (Results e fs) x s g = failed W flat _ last

  -- ---- indexes
  text_found : (last : Place) (n : ℕ) (e : t.Expr) (k : PlainType) (s g : ℕ) → sound.ExprIn (at W p) e (one (kind_of k))
      → (k ≡ v.String → operands e - unnamed e ≤ s + min n 1) → hidden_expr e ≤ g
      → IfOk (text_at last k n e) (λ b. BracketedIn W p b s g)
  unfolding BracketedIn
  text_found last n e k s g x o h = values.where_true (is_text k) (InText (min n 1) e) _ last (λ b. BracketedIn W p b s g) (λ d.
      (subst (λ j. sound.ExprIn (at W p) e (one j)) (ap kind_of (text_type k d) ∙ text_kind) x, omega (arith, o (text_type k d)), h))

  array_is : (k : PlainType) (i e : PlainType) → array_parts k ≡ Some (i, e) → k ≡ v.Array i e
  array_is (v.Array i e) j d h = ap (λ (x : PlainType × PlainType). v.Array x.0 x.1) (same_pair (i, e) (j, d) h)
    where
      same_pair : (a b : PlainType × PlainType) → Some a ≡ Some b → a ≡ b
      same_pair a b e = cc
  array_is v.Integer i e d = none_is_no (i, e) d
  array_is v.Cardinal i e d = none_is_no (i, e) d
  array_is v.LongInteger i e d = none_is_no (i, e) d
  array_is v.LongCardinal i e d = none_is_no (i, e) d
  array_is v.Boolean i e d = none_is_no (i, e) d
  array_is v.Character i e d = none_is_no (i, e) d
  array_is v.String i e d = none_is_no (i, e) d
  array_is (v.Enumeration o xs) i e d = none_is_no (i, e) d
  array_is (v.Subrange k m n) i e d = none_is_no (i, e) d
  array_is (v.Record o ps) i e d = none_is_no (i, e) d

  variable_hidden : (h : t.Home) (ss : t.Suffixes) (k : PlainType) (s g : ℕ) → VariableReached W p h ss k s g → hidden_expr (t.Variable h ss (words_of k)) ≤ g
  unfolding hidden_expr
  variable_hidden h ss k s g r = r.hidden_are

  pub indexed_in : (last : Place) (h : t.Home) (ss : t.Suffixes) (k : PlainType) (s g : ℕ) → VariableReached W p h ss k s g
      → IfOk (indexed last h ss k) (λ b. BracketedIn W p b s g)
  unfolding indexed BracketedIn
  indexed_in last h ss k s g r = by (array_parts k) refl
    where
      by : (o : Option (PlainType × PlainType)) → array_parts k ≡ o → IfOk (indexed_by last h ss k o) (λ b. BracketedIn W p b s g)
      by (Some x) d = (k, array_is k x.0 x.1 d, r)
      by None d = text_found last 1 (t.Variable h ss (words_of k)) k s g (variable_expr h ss k s g r) (λ e. (variable_of_text h ss k s g e r).0)
          (variable_hidden h ss k s g r)

  pub text_in : (last : Place) (n : ℕ) (e : t.Expr) (k : PlainType) (s g : ℕ) → ValueReached W p n e k s g
      → IfOk (text_at last k n e) (λ b. BracketedIn W p b s g)
  text_in last n e k s g r = text_found last n e k s g r.value (λ d. r.one_is (ap is_text d)) r.hidden_are

  record ElementsOf (i e : PlainType) : Type 0 where
    index : TypeIn i
    element : TypeIn e
    few : elements_of i ≤ 16384
    shape : kind_of (v.Array i e) ≡ t.Array (elements_of i) (kind_of e)

  elements_of_array : (i e : PlainType) → TypeIn (v.Array i e) → ElementsOf i e
  unfolding TypeIn kind_of words_of words_in HasWords
  elements_of_array i e h = record {
    index = h.0;
    element = h.1;
    few = omega (arith, values_have_words.of_array (elements_of i) (kind_of e) (has_words (v.Array i e) h), h.3, ap (λ w. elements_of i * w) (words_agree e));
    shape = refl;
  }

  byte_reached : (flat : Bool) (c : ℕ) (e : t.Expr) (i : Typed) (s g m n : ℕ) → sound.ExprIn (at W p) e (one t.Texts) → operands e - unnamed e ≤ s + min c 1
      → hidden_expr e ≤ g
      → sound.ExprIn (at W p) i.value sound.a_word → operands i.value ≤ m → hidden_expr i.value ≤ n
      → ReachedIn W flat p (Value c (t.ByteOf e i.value) v.Character) (s + m) (g + n)
  unfolding ReachedIn operands unnamed hidden_expr sound.ExprIn
  byte_reached flat c e i s g m n x o h y a b = record {
    value = values.of_word W p (t.ByteOf e i.value) v.Character plain_words.1 (x, y, refl);
    kind = plain_types.1;
    operands_are = omega (arith, o, a);
    one_is = λ c. omega (arith, o, a);
    few = λ fs d. none_is_no fs d;
    hidden_are = omega (arith, h, b);
  }

  index_ordinal : (i : PlainType) (o : Option PlainType) → one_ordinal_base (base_of i) o ≡ true → is_ordinal i ≡ true
  unfolding is_ordinal
  index_ordinal i o e = both_left (is_ordinal_base (base_of i)) (is_ordinal_base o && one_base (base_of i) o) e

  pub at_index_in : (flat : Bool) (b : Bracketed) (start : Place) (i : Typed) (s g m n : ℕ) → BracketedIn W p b s g → ValueIn W p i m n
      → IfOk (at_index b start i) (λ r. ReachedIn W flat p r (s + m) (g + n))
  unfolding at_index BracketedIn ReachedIn
  at_index_in flat (InArray h ss index element) start i s g m n b x = values.only_where (one_ordinal_base (base_of i.kind) (base_of index)) _ start
      (Variable h (and_suffix ss (index_of index element i)) element) (λ r. ReachedIn W flat p r (s + m) (g + n)) (λ e.
      let is_array = subst TypeIn b.1 (b.2).kind in
      let o = elements_of_array index element is_array in
      let r = b.2 in
      record {
        whole = r.whole;
        home = r.home;
        part = index_more ss r.whole (kind_of element) (index_range i.kind index) (first_word (bounds index)) (elements_of index) (words_of element) i.value
            (subst (λ j. sound.SuffixesIn (at W p) ss r.whole j) (ap kind_of b.1 ∙ o.shape) r.part) (words_agree element) (first_is_word index o.index) o.few
            (index_words i.kind index o.index)
            (values.as_word W p i.value i.kind (ordinal_kind i.kind (index_ordinal i.kind (base_of index) e)) x.value);
        kind = o.element;
        operands_are = omega (
          arith,
          (index_counts ss (index_range i.kind index) (first_word (bounds index)) (elements_of index) (words_of element) i.value).0,
          r.operands_are,
          x.operands_are,
        );
        hidden_are = omega (
          arith,
          (index_counts ss (index_range i.kind index) (first_word (bounds index)) (elements_of index) (words_of element) i.value).1,
          r.hidden_are,
          x.hidden_are,
        );
      })
  at_index_in flat (InText n' e) start i s g m n b x = values.only_where (one_ordinal_base (base_of i.kind) (Some v.Integer)) _ start
      (Value n' (t.ByteOf e i.value) v.Character) (λ r. ReachedIn W flat p r (s + m) (g + n)) (λ d.
      byte_reached flat n' e i s g m n b.0 b.1 b.2 (values.as_word W p i.value i.kind (ordinal_kind i.kind (index_ordinal i.kind (Some v.Integer) d))
      x.value) x.operands_are x.hidden_are)

  -- ---- values, stores
  results_in : (aim : Aim) (e : t.Expr) (fs : List PlainField) (s g : ℕ) → ResultsReached W p e fs s g
      → IfOk (results aim e fs) (λ r. FreshIn W p aim r s g)
  unfolding FreshIn GaveIn FieldsIn kinds_of one
  results_in aim e (f ∷ []) s g r = by aim
    where
      single : ValueIn W p (record { value = e; kind = f.kind; literal = false; gave = Some (f ∷ []) }) s g
      single = record {
        value = r.value;
        kind = (r.kinds).0;
        operands_are = r.operands_are;
        hidden_are = r.hidden_are;
        gave = (r.call, r.value, r.kinds);
        literal = λ l. no_truth l;
      }

      by : (aim : Aim) → FreshIn W p aim (record { value = e; kind = f.kind; literal = false; gave = Some (f ∷ []) }) s g
      by (Free q) = single
      by (Into k q) = single
      by (Several q) = values.several_of W p _ s g single
  results_in (Several q) e [] s g r = record {
    single = λ d. no_truth d;
    kind = plain_types.0;
    operands_are = r.operands_are;
    hidden_are = r.hidden_are;
    gave = (r.call, r.value, r.kinds);
  }
  results_in (Several q) e (f ∷ d ∷ fs) s g r = record {
    single = λ d. no_truth d;
    kind = plain_types.0;
    operands_are = r.operands_are;
    hidden_are = r.hidden_are;
    gave = (r.call, r.value, r.kinds);
  }
  results_in (Free q) e [] s g r = tt
  results_in (Free q) e (f ∷ d ∷ fs) s g r = tt
  results_in (Into k q) e [] s g r = tt
  results_in (Into k q) e (f ∷ d ∷ fs) s g r = tt

  fresh_in : (aim : Aim) (r : Typed) (s g : ℕ) → ValueIn W p r s g → FreshIn W p aim r s g
  unfolding FreshIn
  fresh_in (Free q) r s g x = x
  fresh_in (Into k q) r s g x = x
  fresh_in (Several q) r s g x = values.several_of W p r s g x

  variable_value : (h : t.Home) (ss : t.Suffixes) (k : PlainType) (s g m n : ℕ) → m ≡ words_of k → VariableReached W p h ss k s g
      → ValueIn W p (typed k (t.Variable h ss (words_of k))) (s + (m + 0)) (g + (n + 0))
  unfolding GaveIn operands hidden_expr
  variable_value h ss k s g m n e r = record {
    value = variable_expr h ss k s g r;
    kind = r.kind;
    operands_are = omega (arith, e, r.operands_are);
    hidden_are = omega (arith, r.hidden_are);
    gave = tt;
    literal = λ l. no_truth l;
  }

  value_value : (c : ℕ) (e : t.Expr) (k : PlainType) (s g m n : ℕ) → m ≡ c → ValueReached W p c e k s g → ValueIn W p (typed k e) (s + (m + 0)) (g + (n + 0))
  unfolding GaveIn
  value_value c e k s g m n d r = record {
    value = r.value;
    kind = r.kind;
    operands_are = omega (arith, d, r.operands_are);
    hidden_are = omega (arith, r.hidden_are);
    gave = tt;
    literal = λ l. no_truth l;
  }

  pub value_in : (flat : Bool) (aim : Aim) (last : Place) (r : Reached) (s g : ℕ)
      → Rule W flat (ReachedIn W flat p r s g) (λ y m n. FreshIn W p aim y (s + m) (g + n)) (value aim last r)
  unfolding value ReachedIn
  value_in flat aim last (Variable h ss k) s g = bind W flat (spent_words W flat (words_of k)) (λ u m n.
      given W flat (typed k (t.Variable h ss (words_of k))) (λ pre. fresh_in aim _ (s + (m + 0)) (g + (n + 0)) (variable_value h ss k s g m n pre.1 pre.0)))
  value_in flat aim last (Value c e k) s g = bind W flat (spent_words W flat c) (λ u m n.
      given W flat (typed k e) (λ pre. fresh_in aim _ (s + (m + 0)) (g + (n + 0)) (value_value c e k s g m n pre.1 pre.0)))
  value_in flat aim last (Results e fs) s g = ended W flat (results aim e fs) (λ pre.
      results_in aim e fs (s + 0) (g + 0) (record {
        call = pre.call;
        value = pre.value;
        kinds = pre.kinds;
        operands_are = omega (arith, pre.operands_are);
        hidden_are = omega (arith, pre.hidden_are);
      }))
  value_in flat aim last (Named a) s g = failed W flat _ last

  pub stored_in : (flat : Bool) (last : Place) (r : Reached) (s g : ℕ) → Rule W flat (ReachedIn W flat p r s g) (λ y m n. TargetIn W p y (s + m) (g + n))
      (stored last r)
  unfolding stored ReachedIn
  stored_in flat last (Variable h ss k) s g = bind W flat (spent_words W flat (words_of k)) (λ u m n.
      given W flat (record { home = h; suffixes = ss; kind = k }) (λ pre. record {
        whole = (pre.0).whole;
        home = (pre.0).home;
        part = (pre.0).part;
        kind = (pre.0).kind;
        operands_are = omega (arith, (pre.0).operands_are, pre.1);
        hidden_are = omega (arith, (pre.0).hidden_are);
      }))
  stored_in flat last (Value c e k) s g = failed W flat _ last
  stored_in flat last (Results e fs) s g = failed W flat _ last
  stored_in flat last (Named a) s g = failed W flat _ last

  pub type_there : (flat : Bool) (k : PlainType) → SeenIn W flat (m.TypeName k) → TypeIn k
  unfolding MeaningIn
  type_there flat k h = h.there

  -- a value that is made
  pub value_there : (flat : Bool) (x : Typed) (k : PlainType) (s g c n : ℕ) → c ≤ s → n ≤ g → ValueIn W p x c n → x.kind ≡ k
      → ReachedIn W flat p (Value 0 x.value k) s g
  unfolding ReachedIn
  value_there flat x k s g c n a b h e = record {
    value = subst (λ j. sound.ExprIn (at W p) x.value (one (kind_of j))) e h.value;
    kind = subst TypeIn e h.kind;
    operands_are = omega (arith, a, h.operands_are);
    one_is = λ c. omega (arith, a, h.operands_are);
    few = λ fs d. omega arith;
    hidden_are = omega (arith, b, h.hidden_are);
  }
