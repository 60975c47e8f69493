-- Extractors: from what checking promises of their parts, what it promises of them.
use Rattle.std.proofs.Common.{◌≡◌, ℕ, zero, suc, ◌+◌, List, [], ◌∷◌, length, refl, sym, ◌∙◌, ap, subst, arith, inl, inr, ◌⊎◌}
use Rattle.std.specs.Prelude.{◌≤◌, ◌<◌, Bool, true, false, not, ◌||◌, Option, Some, None, IfOk, is_some, nat_eq, bytes_eq, slice_index_or, Contains}
use Rattle.mesa_base.specs.declared.place.Place.{Place}
use Rattle.mesa_base.specs.declared.identifier.Identifier.{Identifier}
use Rattle.syntax_trees.specs.Syntax as s
use Rattle.mesa_types.specs.Sound as sound
use Rattle.mesa_types.specs.Counts.{operands, operands_of_stmt, operands_of_targets, hidden, hidden_expr, hidden_targets}
use Rattle.mesa_types.specs.Shapes.{one, join, count_in, words_in, KindAt, words_before}
use Rattle.check_rules.specs.Typed as t
use Rattle.interface_records.specs.PlainTypes.{PlainType, PlainField, kind_of, kinds_of, fields, words_of, conforms}
use Rattle.check_rules.specs.declared.fault.Cause.{Cause}
use Rattle.check_rules.specs.declared.fault.Cause.TheVariants.{WrongCount, TwiceDeclared}
use Rattle.check_rules.specs.Scopes.{has}
use Rattle.check_rules.specs.Steps.{or_refuse}
use Rattle.check_rules.specs.Around.{Around}
use Rattle.check_rules.specs.Parts.{Found, number_by, first, field_named, count_lefts, keys_of_lefts, are_fields}
use Rattle.check_rules.specs.Ranges.{Typed, Several, range_for, conversion_for}
use Rattle.check_rules.specs.Reached.{Target, part_of}
use Rattle.check_rules.specs.Statements.{Source, source_by, is_one, record_fields, source, target_by, extracted}
use Rattle.check_rules.specs.Phrases.{holds, in_left, in_lefts, in_keyed_lefts, in_targets}
use Rattle.check_rules.specs.Checking.{statement, targets, targets_in_order, targets_by_key}
use Rattle.check_rules.specs.Written.{LeftsWritten, KeyedLeftsWritten, TargetsWritten, StatementWritten}
use Rattle.check_rules.proofs.SoundTypes.{TypeIn, FieldsIn, no_truth, none_is_no, or_left, or_right, fields_of_type, words_agree}
use Rattle.mesa_types.proofs.WordSizes.{conversion_words}
use Rattle.typing_laws.proofs.SoundOperators.{given_range, given_words, OnlyWords, ConversionIn, conversion_in}
use Rattle.typing_laws.proofs.SoundSteps.{World, Spot, at, Rule, bind, so, under, given, plainly, tested}
use Rattle.typing_laws.proofs.SoundnessStatements.{Ready, SeveralIn, CheckedIn, AimIn, GaveIn, TargetIn, Checks}
use Rattle.typing_laws.proofs.SoundExpressions.{part}
use Rattle.typing_laws.proofs.SoundReached.{found_in_fields}
use Rattle.typing_laws.proofs.SoundCalls.{not_both, has_first, number_names, name_at, same_some}
use Rattle.typing_laws.proofs.SoundScopes.{joined_twice, joined_count, kind_behind}
use Rattle.typing_laws.proofs.SoundStatements.{BodyOf, ChecksStatement, ChecksLeft, whole_statement}
use Rattle.typing_laws.proofs.SoundValues as rules

-- ---- what is taken apart

pub record SourceIn (W : World) (p : Spot) (y : Source) (spent hid : ℕ) : Type 0 where
  pub types : FieldsIn y.fields
  pub of_record : y.of_record ≡ true → sound.ExprIn (at W p) y.value (one (t.Record (kinds_of y.fields)))
  pub of_results : y.of_record ≡ false → sound.IsCall y.value × sound.ExprIn (at W p) y.value (kinds_of y.fields)
  pub operands_are : operands y.value ≤ spent
  pub hidden_are : hidden_expr y.value ≤ hid

pub record TargetsOf (W : World) (p : Spot) (fs : List PlainField) (ts : t.Targets) (spent hid : ℕ) : Type 0 where
  pub targets : sound.TargetsIn (at W p) ts (kinds_of fs)
  pub differ : sound.AllDiffer (sound.taken ts)
  pub operands_are : operands_of_targets ts ≤ spent
  pub hidden_are : hidden_targets ts ≤ hid

pub record PutTarget (W : World) (p : Spot) (ks : t.Kinds) (n : ℕ) (f : t.Targets → t.Targets) (spent hid : ℕ) : Type 0 where
  pub targets : (ts : t.Targets) → sound.TargetsIn (at W p) ts ks → sound.TargetsIn (at W p) (f ts) ks
  pub taken : (ts : t.Targets) → sound.taken (f ts) ≡ n ∷ sound.taken ts
  pub operands_are : (ts : t.Targets) → operands_of_targets (f ts) ≤ operands_of_targets ts + spent
  pub hidden_are : (ts : t.Targets) → hidden_targets (f ts) ≤ hidden_targets ts + hid

-- the fields from one on lie in all of them
unfoldable pub PlacedFrom : t.Kinds → ℕ → ℕ → List PlainField → Type 0
PlacedFrom all n offset [] = Unit {0}
PlacedFrom all n offset (f ∷ fs) = KindAt all n (kind_of f.kind) × (offset ≡ words_before all n) × TypeIn f.kind × PlacedFrom all (n + 1)
    (offset + words_of f.kind) fs

zero_before : (ks : t.Kinds) → words_before ks 0 ≡ 0
unfolding words_before
zero_before t.NoKinds = refl
zero_before (t.AndKind k ks) = refl

words_step : (all : t.Kinds) (n : ℕ) (k : t.Kind) → KindAt all n k → words_before all (suc n) ≡ words_before all n + words_in k
unfolding KindAt words_before
words_step t.NoKinds n k h = absurd h
words_step (t.AndKind j js) zero k h = omega (arith, ap words_in h, zero_before js)
words_step (t.AndKind j js) (suc n) k h = omega (arith, words_step js n k h)

placed_from : (before all : t.Kinds) (fs : List PlainField) (n offset : ℕ) → all ≡ join before (kinds_of fs) → n ≡ count_in before
    → offset ≡ words_before all n → FieldsIn fs → PlacedFrom all n offset fs
unfolding PlacedFrom kinds_of FieldsIn join KindAt count_in
placed_from before all [] n offset e d o h = tt
placed_from before all (f ∷ fs) n offset e d o h =
    let there = kind_behind before (t.AndKind (kind_of f.kind) (kinds_of fs)) 0 (kind_of f.kind) refl in
    let number : 0 + count_in before ≡ n = omega (arith, d) in
    let at_n = subst (λ ks. KindAt ks n (kind_of f.kind)) (sym e) (subst (λ i. KindAt (join before (t.AndKind (kind_of f.kind) (kinds_of fs))) i
    (kind_of f.kind)) number there) in
    let one_more : join before (t.AndKind (kind_of f.kind) (kinds_of fs)) ≡ join (join before (t.AndKind (kind_of f.kind) t.NoKinds)) (kinds_of fs) = sym
    (joined_twice before (t.AndKind (kind_of f.kind) t.NoKinds) (kinds_of fs)) in
    let next : n + 1 ≡ suc n = omega arith in (
      at_n,
      o,
      h.0,
      placed_from (join before (t.AndKind (kind_of f.kind) t.NoKinds)) all fs (n + 1) (offset + words_of f.kind) (e ∙ one_more)
          (omega (arith, d, joined_count before (t.AndKind (kind_of f.kind) t.NoKinds), one_count (kind_of f.kind)))
          (omega (arith, o, words_step all n (kind_of f.kind) at_n, words_agree f.kind, ap (words_before all) next)) h.1,
    )
  where
    one_count : (k : t.Kind) → count_in (t.AndKind k t.NoKinds) ≡ 1
    one_count k = refl

-- ---- judgements

pub record OrderOf (W : World) (p : Spot) (all : t.Kinds) (n : ℕ) (ts : t.Targets) (spent hid : ℕ) : Type 0 where
  pub targets : sound.TargetsIn (at W p) ts all
  pub above : (m : ℕ) → Contains (sound.taken ts) m → n ≤ m
  pub differ : sound.AllDiffer (sound.taken ts)
  pub operands_are : operands_of_targets ts ≤ spent
  pub hidden_are : hidden_targets ts ≤ hid

pub record ChecksLefts (W : World) (ls : s.Lefts) : Type 0 where
  pub by : (p : Spot) (a : Around) (q : Place) (all : t.Kinds) (n offset : ℕ) (fs : List PlainField)
      → Rule W false (Ready W false p a (in_lefts ls) (LeftsWritten ls) × PlacedFrom all n offset fs) (OrderOf W p all n) (targets_in_order a q n offset fs ls)

pub record KeysOf (W : World) (p : Spot) (fs : List PlainField) (before : List (List ℕ)) (ts : t.Targets) (spent hid : ℕ) : Type 0 where
  pub targets : sound.TargetsIn (at W p) ts (kinds_of fs)
  pub fresh : (m : ℕ) → Contains (sound.taken ts) m → (y : List ℕ) → name_at fs m ≡ Some y → has y before ≡ true → ⊥
  pub differ : sound.AllDiffer (sound.taken ts)
  pub operands_are : operands_of_targets ts ≤ spent
  pub hidden_are : hidden_targets ts ≤ hid

pub record ChecksKeyedLefts (W : World) (ls : s.KeyedLefts) : Type 0 where
  pub by : (p : Spot) (a : Around) (q : Place) (fs : List PlainField) (before : List (List ℕ))
      → Rule W false (Ready W false p a (in_keyed_lefts ls) (KeyedLeftsWritten ls) × FieldsIn fs) (KeysOf W p fs before) (targets_by_key a q fs before ls)

pub record ChecksTargets (W : World) (ts : s.Targets) : Type 0 where
  pub by : (p : Spot) (a : Around) (q r : Place) (fs : List PlainField) → Rule W false (Ready W false p a (in_targets ts) (TargetsWritten ts) × FieldsIn fs)
      (TargetsOf W p fs) (targets a q r fs ts)

module _ (W : World) where
  checks_kind : (r : t.Range) (k : t.Kind) → sound.RangeIn r → OnlyWords r k → sound.ChecksKind r k
  unfolding sound.ChecksKind sound.RangeIn OnlyWords
  checks_kind t.Every k h i = tt
  checks_kind (t.From b first last) k h i = (h, i)

  extracted_in : (p : Spot) (ks : t.Kinds) (q : Place) (f : Found) (x : Target) (c g : ℕ) → KindAt ks f.number (kind_of f.kind)
      → f.offset ≡ words_before ks f.number → TargetIn W p x c g
      → IfOk (extracted q f x) (λ put. PutTarget W p ks f.number put c g)
  unfolding extracted sound.TargetsIn sound.IsConversion sound.taken operands_of_targets hidden_targets
  extracted_in p ks q f x c g there lies h = rules.only_where (conforms f.kind x.kind) _ q
      (target_by (conversion_for f.kind x.kind) (range_for f.kind x.kind) f x) (λ put. PutTarget W p ks f.number put c g)
      (λ e. by (conversion_for f.kind x.kind) (conversion_in f.kind x.kind e h.kind))
    where
      put_converted : (r : t.Conversion) → sound.IsConversion r → sound.Converts r (kind_of f.kind) (kind_of x.kind)
          → PutTarget W p ks f.number (t.AndConverted (part_of f) x.home x.suffixes r) c g
      put_converted r n d = record {
        targets = λ ts i. (
          kind_of f.kind,
          kind_of x.kind,
          h.whole,
          record { is_there = there; lies = lies },
          words_agree f.kind,
          n,
          d,
          h.home,
          h.part,
          i,
        );
        taken = λ ts. refl;
        operands_are = λ ts. omega (arith, h.operands_are, words_agree x.kind, conversion_words r (kind_of f.kind) (kind_of x.kind) d);
        hidden_are = λ ts. omega (arith, h.hidden_are);
      }

      by : (r : t.Conversion) → ConversionIn r (kind_of f.kind) (kind_of x.kind)
          → PutTarget W p ks f.number (target_by r (range_for f.kind x.kind) f x) c g
      by t.Kept same = record {
        targets = λ ts i. (
          kind_of f.kind,
          h.whole,
          record { is_there = there; lies = lies },
          words_agree f.kind,
          h.home,
          subst
              (λ k. sound.SuffixesIn (at W p) x.suffixes h.whole k) (sym same) h.part,
          checks_kind (range_for f.kind x.kind) (kind_of f.kind) (given_range f.kind x.kind h.kind)
              (subst (OnlyWords (range_for f.kind x.kind)) (sym same) (given_words f.kind x.kind)),
          i,
        );
        taken = λ ts. refl;
        operands_are = λ ts. omega (arith, h.operands_are, words_agree f.kind, words_agree x.kind, ap words_in same);
        hidden_are = λ ts. omega (arith, h.hidden_are);
      }
      by (t.Widened from to) d = put_converted (t.Widened from to) tt d
      by (t.Narrowed from to r) d = put_converted (t.Narrowed from to r) tt d
      by t.InCommon d = put_converted t.InCommon tt d

  -- ---- in order
  no_targets : (p : Spot) (all : t.Kinds) (n c g : ℕ) → OrderOf W p all n t.NoTargets c g
  unfolding sound.TargetsIn sound.taken sound.AllDiffer operands_of_targets hidden_targets
  no_targets p all n c g = record {
    targets = tt;
    above = λ m i. absurd (omega (arith, i.1));
    differ = tt;
    operands_are = omega arith;
    hidden_are = omega arith;
  }

  first_or_later : (n m : ℕ) (ns : List ℕ) → Contains (n ∷ ns) m → (n ≡ m) ⊎ Contains ns m
  first_or_later n m ns c = by c.0 c.1 c.2
    where
      by : (k : ℕ) → k < length (n ∷ ns) → slice_index_or (n ∷ ns) k m ≡ m → (n ≡ m) ⊎ Contains ns m
      by zero small e = inl e
      by (suc k) small e = inr (k, omega (arith, small), e)

  ordered_more : (p : Spot) (all : t.Kinds) (n : ℕ) (put : t.Targets → t.Targets) (ts : t.Targets) (c g d h c' g' : ℕ) → PutTarget W p all n put c g
      → OrderOf W p all (n + 1) ts d h → c + d ≤ c' → g + h ≤ g' → OrderOf W p all n (put ts) c' g'
  unfolding sound.AllDiffer
  ordered_more p all n put ts c g d h c' g' a b i j = record {
    targets = a.targets ts b.targets;
    above = λ m e. by m (first_or_later n m (sound.taken ts) (subst (λ ns. Contains ns m) (a.taken ts) e));
    differ = subst sound.AllDiffer (sym (a.taken ts)) ((λ e. let o = b.above n e in omega (arith, o)), b.differ);
    operands_are = omega (arith, i, a.operands_are ts, b.operands_are);
    hidden_are = omega (arith, j, a.hidden_are ts, b.hidden_are);
  }
    where
      by : (m : ℕ) → (n ≡ m) ⊎ Contains (sound.taken ts) m → n ≤ m
      by m (inl e) = omega (arith, e)
      by m (inr e) = let o = b.above m e in omega (arith, o)

  pub lefts_none : ChecksLefts W s.NoLefts
  unfolding targets_in_order
  lefts_none = record { by = λ p a q all n offset fs. by p a q all n offset fs }
    where
      by : (p : Spot) (a : Around) (q : Place) (all : t.Kinds) (n offset : ℕ) (fs : List PlainField)
          → Rule W false (Ready W false p a (in_lefts s.NoLefts) (LeftsWritten s.NoLefts) × PlacedFrom all n offset fs) (OrderOf W p all n)
          (targets_in_order a q n offset fs s.NoLefts)
      by p a q all n offset [] = given W false t.NoTargets (λ pre. no_targets p all n 0 0)
      by p a q all n offset (f ∷ fs) = given W false t.NoTargets (λ pre. no_targets p all n 0 0)

  pub lefts_more : (l : s.Left) (ls : s.Lefts) → ChecksLeft W l → ChecksLefts W ls → ChecksLefts W (s.AndLeft l ls)
  unfolding targets_in_order in_lefts LeftsWritten PlacedFrom
  lefts_more l ls k o = record { by = λ p a q all n offset fs. by p a q all n offset fs }
    where
      by : (p : Spot) (a : Around) (q : Place) (all : t.Kinds) (n offset : ℕ) (fs : List PlainField)
          → Rule W false (Ready W false p a (in_lefts (s.AndLeft l ls)) (LeftsWritten (s.AndLeft l ls)) × PlacedFrom all n offset fs) (OrderOf W p all n)
          (targets_in_order a q n offset fs (s.AndLeft l ls))
      by p a q all n offset [] = given W false t.NoTargets (λ pre. no_targets p all n 0 0)
      by p a q all n offset (f ∷ fs) =
          bind W false (under W false (λ pre. part (or_left (in_left l) (in_lefts ls)) (λ w. w.0) pre.0) (k.by p a)) (λ x c g.
          bind W false (plainly W false {P = λ put. PutTarget W p all n put c g} (extracted q (record { number = n; offset = offset; kind = f.kind }) x) (λ pre.
          extracted_in p all q (record { number = n; offset = offset; kind = f.kind }) x c g pre.0.1.0 pre.0.1.1 pre.1)) (λ put i j.
          bind W false (under W false (λ pre. (part (or_right (in_left l) (in_lefts ls)) (λ w. w.1) pre.0.0.0, pre.0.0.1.3))
          (o.by p a q all (n + 1) (offset + words_of f.kind) fs)) (λ ts d h.
          given W false (put ts) (λ pre. ordered_more p all n put ts c g d h (c + (i + (d + 0))) (g + (j + (h + 0))) pre.0.1 pre.1 (omega arith)
          (omega arith)))))

  -- ---- by key
  no_keys : (p : Spot) (fs : List PlainField) (before : List (List ℕ)) (c g : ℕ) → KeysOf W p fs before t.NoTargets c g
  unfolding sound.TargetsIn sound.taken sound.AllDiffer operands_of_targets hidden_targets
  no_keys p fs before c g = record {
    targets = tt;
    fresh = λ m i. absurd (omega (arith, i.1));
    differ = tt;
    operands_are = omega arith;
    hidden_are = omega arith;
  }

  keyed_more : (p : Spot) (fs : List PlainField) (key : Identifier) (f : Found) (before : List (List ℕ)) (put : t.Targets → t.Targets) (ts : t.Targets)
      (c g d h c' g' : ℕ) → field_named fs key ≡ Some f → not (has key.name before) ≡ true
      → PutTarget W p (kinds_of fs) f.number put c g → KeysOf W p fs (key.name ∷ before) ts d h → c + d ≤ c' → g + h ≤ g' → KeysOf W p fs before (put ts) c' g'
  unfolding sound.AllDiffer has
  keyed_more p fs key f before put ts c g d h c' g' e new a b i j = record {
    targets = a.targets ts b.targets;
    fresh = λ m e y n k. by m y (first_or_later f.number m (sound.taken ts) (subst (λ ns. Contains ns m) (a.taken ts) e)) n k;
    differ = subst sound.AllDiffer (sym (a.taken ts)) ((λ e. b.fresh f.number e key.name named (has_first key.name key.name before refl)), b.differ);
    operands_are = omega (arith, i, a.operands_are ts, b.operands_are);
    hidden_are = omega (arith, j, a.hidden_are ts, b.hidden_are);
  }
    where
      found_some : (o : Option Found) → o ≡ Some f → is_some o ≡ true
      found_some (Some g) e = refl
      found_some None e = none_is_no f e

      number : number_by (field_named fs key) ≡ f.number
      number = ap number_by e

      named : name_at fs f.number ≡ Some key.name
      named = subst (λ n. name_at fs n ≡ Some key.name) number (number_names fs key (found_some (field_named fs key) e))

      by : (m : ℕ) (y : List ℕ) → (f.number ≡ m) ⊎ Contains (sound.taken ts) m → name_at fs m ≡ Some y → has y before ≡ true → ⊥
      by m y (inl e) n k = let same : key.name ≡ y = same_some key.name y (sym named ∙ ap (name_at fs) e ∙ n) in not_both (has key.name before)
          (subst (λ z. has z before ≡ true) (sym same) k) new
      by m y (inr e) n k = b.fresh m e y n (or_right (bytes_eq y key.name) (has y before) k)

  pub keyed_lefts_none : ChecksKeyedLefts W s.NoKeyedLefts
  unfolding targets_by_key
  keyed_lefts_none = record { by = λ p a q fs before. given W false t.NoTargets (λ pre. no_keys p fs before 0 0) }

  named_field : (o : Option Found) (cause : Cause) (q : Place) → IfOk (or_refuse o cause q) (λ f. o ≡ Some f)
  named_field (Some f) cause q = refl
  named_field None cause q = tt

  pub keyed_lefts_more : (key : Identifier) (l : s.Left) (ls : s.KeyedLefts) → ChecksLeft W l → ChecksKeyedLefts W ls
      → ChecksKeyedLefts W (s.AndKeyedLeft key l ls)
  unfolding targets_by_key in_keyed_lefts KeyedLeftsWritten
  keyed_lefts_more key l ls k o = record {
    by = λ p a q fs before.
        bind W false (tested W false (not (has key.name before)) TwiceDeclared key.place) (λ u m n.
        bind W false (plainly W false {P = λ f. field_named fs key ≡ Some f} (or_refuse (field_named fs key) WrongCount key.place)
        (λ pre. named_field (field_named fs key) WrongCount key.place)) (λ f m' n'.
        bind W false (under W false (λ pre. part (or_left (in_left l) (in_keyed_lefts ls)) (λ w. w.0) pre.0.0.0) (k.by p a)) (λ x c g.
        bind W false (plainly W false {P = λ put. PutTarget W p (kinds_of fs) f.number put c g} (extracted q f x) (λ pre.
        let i = found_in_fields fs key f pre.0.0.0.1 pre.0.1 in extracted_in p (kinds_of fs) q f x c g i.there i.lies pre.1)) (λ put i j.
        bind W false (under W false (λ pre. (part (or_right (in_left l) (in_keyed_lefts ls)) (λ w. w.1) pre.0.0.0.0.0, pre.0.0.0.0.1))
        (o.by p a q fs (key.name ∷ before))) (λ ts d h.
        given W false (put ts) (λ pre. keyed_more p fs key f before put ts c g d h (m + (m' + (c + (i + (d + 0))))) (n + (n' + (g + (j + (h + 0))))) pre.0.0.0.1
        pre.0.0.0.0.1 pre.0.1 pre.1 (omega arith) (omega arith)))))));
  }

  -- ---- targets
  pub targets_none : ChecksTargets W s.NoTarget
  unfolding targets
  targets_none = record {
    by = λ p a q r fs. given W false t.NoTargets (λ pre. let k = no_keys p fs [] 0 0 in record
        { targets = k.targets; differ = k.differ; operands_are = k.operands_are; hidden_are = k.hidden_are });
  }

  all_placed : (fs : List PlainField) → FieldsIn fs → PlacedFrom (kinds_of fs) 0 0 fs
  unfolding join count_in
  all_placed fs h = placed_from t.NoKinds (kinds_of fs) fs 0 0 refl refl (sym (zero_before (kinds_of fs))) h

  pub targets_ordered : (ls : s.Lefts) → ChecksLefts W ls → ChecksTargets W (s.TargetsInOrder ls)
  unfolding targets in_targets TargetsWritten
  targets_ordered ls k = record {
    by = λ p a q r fs.
        bind W false (tested W false (nat_eq (count_lefts ls) (length fs)) WrongCount q) (λ u m n.
        so W false (λ ts c g pre o. record {
          targets = o.targets;
          differ = o.differ;
          operands_are = omega (arith, o.operands_are);
          hidden_are = omega (arith, o.hidden_are);
        })
        (under W false (λ pre. (part (λ h. h) (λ w. w) pre.0.0, all_placed fs pre.0.1)) (k.by p a r (kinds_of fs) 0 0 fs)));
  }

  pub targets_keyed : (ls : s.KeyedLefts) → ChecksKeyedLefts W ls → ChecksTargets W (s.TargetsByKey ls)
  unfolding targets in_targets TargetsWritten
  targets_keyed ls k = record {
    by = λ p a q r fs.
        bind W false (tested W false (are_fields fs (keys_of_lefts ls)) WrongCount q) (λ u m n.
        so W false (λ ts c g pre o. record {
          targets = o.targets;
          differ = o.differ;
          operands_are = omega (arith, o.operands_are);
          hidden_are = omega (arith, o.hidden_are);
        })
        (under W false (λ pre. (part (λ h. h) (λ w. w) pre.0.0, pre.0.1)) (k.by p a r fs [])));
  }

  -- ---- the statement
  recorded_fields : (b : Bool) (k : PlainType) (fs : List PlainField) → record_fields b k ≡ Some fs → (b ≡ true) × (fields k ≡ Some fs)
  recorded_fields true k fs e = (refl, e)
  recorded_fields false k fs e = none_is_no fs e

  source_in : (p : Spot) (q : Place) (x : Typed) (c g : ℕ) → SeveralIn W p x c g → IfOk (source q x) (λ y. SourceIn W p y c g)
  unfolding source GaveIn
  source_in p q x c g h = by (record_fields (is_one x.gave) x.kind) refl x.gave h.gave
    where
      by : (o : Option (List PlainField)) → record_fields (is_one x.gave) x.kind ≡ o → (r : Option (List PlainField)) → GaveIn W p x.value r
          → IfOk (source_by q x.value o r) (λ y. SourceIn W p y c g)
      by (Some fs) e r i =
          let f = recorded_fields (is_one x.gave) x.kind fs e in
          let k = fields_of_type x.kind fs h.kind f.1 in
          record {
            types = k.types;
            of_record = λ d. subst (λ j. sound.ExprIn (at W p) x.value (one j)) k.shape (h.single f.0);
            of_results = λ d. no_truth (sym d);
            operands_are = h.operands_are;
            hidden_are = h.hidden_are;
          }
      by None e (Some fs) i = record {
        types = i.2;
        of_record = λ d. no_truth d;
        of_results = λ d. (i.0, i.1);
        operands_are = h.operands_are;
        hidden_are = h.hidden_are;
      }
      by None e None i = tt

  extract_body : (p : Spot) (b : Bool) (y : Source) (ts : t.Targets) (c g d h c' g' : ℕ) → y.of_record ≡ b → SourceIn W p y c g → TargetsOf W p y.fields ts d h
      → c + d ≤ c' → g + h ≤ g' → BodyOf W p (t.Extract b ts y.value) c' g'
  unfolding sound.StmtIn sound.Fits operands_of_stmt hidden
  extract_body p true y ts c g d h c' g' e a b i j = record {
    statement = λ fits. (fits, b.differ, kinds_of y.fields, a.of_record e, b.targets);
    operands_are = omega (arith, i, a.operands_are, b.operands_are);
    hidden_are = omega (arith, j, a.hidden_are, b.hidden_are);
  }
  extract_body p false y ts c g d h c' g' e a b i j = record {
    statement = λ fits. (fits, b.differ, (a.of_results e).0, kinds_of y.fields, (a.of_results e).1, b.targets);
    operands_are = omega (arith, i, a.operands_are, b.operands_are);
    hidden_are = omega (arith, j, a.hidden_are, b.hidden_are);
  }

  pub statement_extract : (q : Place) (ts : s.Targets) (e : s.Expr) → ChecksTargets W ts → Checks W e → ChecksStatement W (s.Extract q ts e)
  unfolding statement StatementWritten CheckedIn AimIn
  statement_extract q ts e k l = record {
    by = λ p a. whole_statement W (in_targets ts || holds e) p a q _ (λ o b mark.
        bind W false (under W false (λ pre. (part (or_right (in_targets ts) (holds e)) (λ w. w.1) pre, tt)) (l.by false o b (Several (first e)))) (λ x c g.
        bind W false (plainly W false {P = λ y. SourceIn W o y c g} (source (first e) x) (λ pre. source_in o (first e) x c g pre.1)) (λ y i j.
        bind W false (under W false (λ pre. (part (or_left (in_targets ts) (holds e)) (λ w. w.0) pre.0.0, (pre.1).types)) (k.by o b q (first e) y.fields))
        (λ us d h.
        given W false (t.Extract y.of_record us y.value) (λ pre. extract_body o y.of_record y us c g d h (c + (i + (d + 0))) (g + (j + (h + 0))) refl pre.0.1
        pre.1 (omega arith) (omega arith))))));
  }
