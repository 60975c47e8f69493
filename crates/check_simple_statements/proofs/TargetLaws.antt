-- Targets of an extractor, one after the other.
use Rattle.std.proofs.Common.{◌≡◌, ◌≢◌, ◌<◌, ◌≤◌, ◌+◌, ℕ, Bool, true, false, List, [], ◌∷◌, ◌++◌, map, drop, take, reverse, length, get_or, Ok, refl, sym, ap, ◌∙◌, add-one, arith}
use Rattle.std.specs.Prelude.{◌&&◌, ◌||◌, Option, Some, bytes_eq, cond, is_some, min, nat_eq, nat_le, not}
use Rattle.std.proofs.lemmas.List.{drop_all, length-map, map-append, reverse-append, take_more}
use Rattle.mesa_base.specs.declared.identifier.Identifier.{Identifier}
use Rattle.mesa_base.specs.declared.place.Place.{Place}
use Rattle.mesa_types.specs.Plain.{chain, target, target_by}
use Rattle.syntax_trees.specs.PlainSyntax as plain
use Rattle.syntax_trees.specs.Syntax as s
use Rattle.syntax_trees.specs.declared.syntax.Keyed.{Keyed}
use Rattle.syntax_trees.specs.declared.syntax.Left.{Left}
use Rattle.mesa_types.specs.declared.typed_tree.Target.{Target as TypedTarget}
use Rattle.mesa_types.specs.declared.types.FieldType.{FieldType}
use Rattle.check_rules.specs.Typed as t
use Rattle.check_rules.specs.Typed.{Conversion, Range}
use Rattle.check_rules.specs.Around.{Around}
use Rattle.check_rules.specs.Checking as spec
use Rattle.std.specs.Cmp.Lexicographic.{nat_list_eq_equiv}
use Rattle.check_scopes.specs.Scopes.{Scope, nothing, with_name}
use Rattle.check_scopes.specs.Shows.{means}
use Rattle.check_scopes.specs.declared.names.Names.{Names}
use Rattle.check_rules.specs.Parts.{Found, are_fields, count_lefts, field_named, keys_of_lefts}
use Rattle.interface_records.specs.PlainTypes.{PlainField, plain_field, words_of}
use Rattle.check_rules.specs.Scopes.{has}
use Rattle.check_rules.specs.Reached.{Target, part_of}
use Rattle.check_rules.specs.Statements as rule
use Rattle.check_rules.specs.Statements.{extracted}
use Rattle.check_rules.specs.Steps.{Checked, State, and_then, ensure, only, or_refuse, refuse}
use Rattle.check_rules.specs.declared.fault.Cause.TheVariants.{TwiceDeclared, WrongCount}
use Rattle.check_declared.specs.Naming.{HasNames}
use Rattle.check_declared.specs.check_jumps.proofs.Tests.{at_drop}
use Rattle.check_expressions.proofs.Folding.{in_turn}
use Rattle.check_simple_statements.specs.Views as view
use Rattle.check_simple_statements.specs.Rules.{keyed_target, next_target, target_for}
use Rattle.check_simple_statements.proofs.Chains.{onto, before_rest, onto_one}

-- a target of the code is the one of the rules
pub targets_alike : (c : Conversion) (r : Range) (f : Found) (x : Target) → target_by c r (part_of f) x.home x.suffixes ≡ rule.target_by c r f x
targets_alike t.Kept r f x = refl
targets_alike (t.Widened from to) r f x = refl
targets_alike (t.Narrowed from to range) r f x = refl
targets_alike t.InCommon r f x = refl

module _ (a : Around) (q : Place) where
  -- ---- in order

  abbrev in_order : ℕ → ℕ → List PlainField → s.Lefts → State → Checked (t.Targets × State)
  in_order n offset fs ls σ = spec.targets_in_order a q n offset fs ls σ

  one_in_order : (done : List (t.Targets → t.Targets)) (n offset : ℕ) (f : PlainField) (fs : List PlainField) (l : s.Left) (ls : s.Lefts) (σ : State)
      → onto done (in_order n offset (f ∷ fs) (s.AndLeft l ls) σ)
      ≡ and_then (next_target a q n offset f l σ) (λ r. onto (done ++ r.0.0 ∷ []) (in_order (n + 1) r.0.1 fs ls r.1))
  unfolding spec.check next_target target_for
  one_in_order done n offset f fs l ls σ =
      let spot : Found = record { number = n; offset = offset; kind = f.kind } in
      ap (onto done) (sym (in_turn (spec.target a l σ) (λ x. and_then (extracted q spot x.0) (λ put. Ok (put, x.1)))
      (λ r. before_rest r.0 (in_order (n + 1) (offset + words_of f.kind) fs ls r.1))))
      ∙ onto_one done (target_for a q spot l σ) (in_order (n + 1) (offset + words_of f.kind) fs ls)
      ∙ sym (in_turn (target_for a q spot l σ) (λ r. Ok ((r.0, offset + words_of f.kind), r.1)) (λ r. onto (done ++ r.0.0 ∷ []) (in_order (n + 1) r.0.1 fs ls r.1)))

  pub in_order_at : (done : List (t.Targets → t.Targets)) (offset : ℕ) (all : List Left) (fields : List FieldType) (i : ℕ) (x : Left) (f : FieldType) (σ : State)
      → i < length all → x ≡ get_or all i x → i < length fields → f ≡ get_or fields i f
      → onto done (spec.targets_in_order a q i offset (map plain_field (drop i fields)) (plain.lefts (drop i all)) σ)
      ≡ and_then (next_target a q i offset (plain_field f) (plain.left x) σ)
      (λ r. onto (done ++ r.0.0 ∷ []) (spec.targets_in_order a q (i + 1) r.0.1 (map plain_field (drop (i + 1) fields)) (plain.lefts (drop (i + 1) all)) r.1))
  in_order_at done offset all fields i x f σ inside here among there =
      ap (λ xs. onto done (in_order i offset (map plain_field (drop i fields)) (plain.lefts xs) σ)) (at_drop all i x inside here)
      ∙ ap (λ fs. onto done (in_order i offset (map plain_field fs) (plain.lefts (x ∷ drop (i + 1) all)) σ)) (at_drop fields i f among there)
      ∙ one_in_order done i offset (plain_field f) (map plain_field (drop (i + 1) fields)) (plain.left x) (plain.lefts (drop (i + 1) all)) σ

  no_fields : (done : List (t.Targets → t.Targets)) (n offset : ℕ) (ls : s.Lefts) (σ : State) → onto done (in_order n offset [] ls σ) ≡ Ok (chain done t.NoTargets, σ)
  unfolding spec.check
  no_fields done n offset s.NoLefts σ = refl
  no_fields done n offset (s.AndLeft l ls) σ = refl

  no_lefts : (done : List (t.Targets → t.Targets)) (n offset : ℕ) (fs : List PlainField) (σ : State) → onto done (in_order n offset fs s.NoLefts σ) ≡ Ok (chain done t.NoTargets, σ)
  unfolding spec.check
  no_lefts done n offset [] σ = refl
  no_lefts done n offset (f ∷ fs) σ = refl

  pub in_order_end : (done : List (t.Targets → t.Targets)) (offset : ℕ) (all : List Left) (fields : List FieldType) (i : ℕ) (σ : State)
      → min (length all) (length fields) ≤ i
      → onto done (spec.targets_in_order a q i offset (map plain_field (drop i fields)) (plain.lefts (drop i all)) σ) ≡ Ok (chain done t.NoTargets, σ)
  in_order_end done offset all fields i σ outside = by_test (nat_le (length all) i) refl
    where
      is_below : (m n : ℕ) → true ≡ nat_le m n → m ≤ n
      is_below m n e = grind arith

      is_above : (m k n : ℕ) → false ≡ nat_le m n → min m k ≤ n → k ≤ n
      is_above m k n e h = grind arith

      by_test : (b : Bool) → b ≡ nat_le (length all) i
          → onto done (in_order i offset (map plain_field (drop i fields)) (plain.lefts (drop i all)) σ) ≡ Ok (chain done t.NoTargets, σ)
      by_test true e =
          ap (λ xs. onto done (in_order i offset (map plain_field (drop i fields)) (plain.lefts xs) σ)) (drop_all i all (is_below (length all) i e))
          ∙ no_lefts done i offset (map plain_field (drop i fields)) σ
      by_test false e =
          ap (λ fs. onto done (in_order i offset (map plain_field fs) (plain.lefts (drop i all)) σ)) (drop_all i fields (is_above (length all) (length fields) i e outside))
          ∙ no_fields done i offset (plain.lefts (drop i all)) σ

  -- ---- by key

  abbrev by_key : List PlainField → List (List ℕ) → s.KeyedLefts → State → Checked (t.Targets × State)
  by_key fs taken ls σ = spec.targets_by_key a q fs taken ls σ

  abbrev new_key : Bool → Identifier → State → Checked (Unit {0} × State)
  new_key b x σ = ensure (not b) TwiceDeclared x.place σ

  abbrev spot_of : List PlainField → Identifier → State → Checked (Found × State)
  spot_of fs x σ = and_then (or_refuse (field_named fs x) WrongCount x.place) (λ f. Ok (f, σ))

  one_by_key : (fs : List PlainField) (taken : List (List ℕ)) (b : Bool) (x : Identifier) (l : s.Left) (ls : s.KeyedLefts) (σ : State) → b ≡ has x.name taken
      → by_key fs taken (s.AndKeyedLeft x l ls) σ
      ≡ and_then (and_then (new_key b x σ) (λ u. and_then (spot_of fs x u.1) (λ f. target_for a q f.0 l f.1))) (λ r. before_rest r.0 (by_key fs (x.name ∷ taken) ls r.1))
  unfolding spec.check target_for
  one_by_key fs taken b x l ls σ e =
      let rest : (t.Targets → t.Targets) × State → Checked (t.Targets × State) = λ r. before_rest r.0 (by_key fs (x.name ∷ taken) ls r.1) in
      sym
      (ap (λ b. and_then (and_then (new_key b x σ) (λ u. and_then (spot_of fs x u.1) (λ f. target_for a q f.0 l f.1))) rest) e
      ∙ in_turn (new_key (has x.name taken) x σ) (λ u. and_then (spot_of fs x u.1) (λ f. target_for a q f.0 l f.1)) rest
      ∙ (λ i. and_then (new_key (has x.name taken) x σ) (λ u. in_turn (spot_of fs x u.1) (λ f. target_for a q f.0 l f.1) rest i))
      ∙ (λ i. and_then (new_key (has x.name taken) x σ) (λ u. and_then (spot_of fs x u.1) (λ f.
      in_turn (spec.target a l f.1) (λ y. and_then (extracted q f.0 y.0) (λ put. Ok (put, y.1))) rest i))))

  pub by_key_at : (done : List (t.Targets → t.Targets)) (fs : List PlainField) (taken : List (List ℕ)) (index : Names Bool) (all : List (Keyed Left)) (i : ℕ) (x : Keyed Left) (σ : State)
      → HasNames index taken → i < length all → x ≡ get_or all i x
      → onto done (spec.targets_by_key a q fs taken (plain.keyed_lefts (drop i all)) σ)
      ≡ and_then (keyed_target a q fs (means index) x.key (plain.left x.item) σ)
      (λ r. onto (done ++ r.0 ∷ []) (spec.targets_by_key a q fs (x.key.name ∷ taken) (plain.keyed_lefts (drop (i + 1) all)) r.1))
  unfolding keyed_target
  by_key_at done fs taken index all i x σ knows inside here =
      ap (λ xs. onto done (by_key fs taken (plain.keyed_lefts xs) σ)) (at_drop all i x inside here)
      ∙ ap (onto done) (one_by_key fs taken (is_some (means index x.key.name)) x.key (plain.left x.item) (plain.keyed_lefts (drop (i + 1) all)) σ (knows x.key.name))
      ∙ onto_one done (keyed_target a q fs (means index) x.key (plain.left x.item) σ) (by_key fs (x.key.name ∷ taken) (plain.keyed_lefts (drop (i + 1) all)))

  pub by_key_end : (done : List (t.Targets → t.Targets)) (fs : List PlainField) (taken : List (List ℕ)) (all : List (Keyed Left)) (i : ℕ) (σ : State)
      → length all ≤ i → onto done (spec.targets_by_key a q fs taken (plain.keyed_lefts (drop i all)) σ) ≡ Ok (chain done t.NoTargets, σ)
  unfolding spec.check
  by_key_end done fs taken all i σ outside = ap (λ xs. onto done (by_key fs taken (plain.keyed_lefts xs) σ)) (drop_all i all outside)

-- ---- keys

-- the names of the first keys, the last of them first
abbrev pub taken_at : List (Keyed Left) → ℕ → List (List ℕ)
taken_at all i = reverse (map (λ (x : Keyed Left). x.key.name) (take i all))

pub taken_more : (all : List (Keyed Left)) (i : ℕ) (x : Keyed Left) → i < length all → x ≡ get_or all i x → taken_at all (i + 1) ≡ x.key.name ∷ taken_at all i
taken_more all i x inside here =
    ap (λ (xs : List (Keyed Left)). reverse (map (λ (y : Keyed Left). y.key.name) xs)) (take_more all i x inside ∙ ap (λ y. take i all ++ y ∷ []) (sym here))
    ∙ ap reverse (map-append (λ (y : Keyed Left). y.key.name) (take i all) (x ∷ []))
    ∙ reverse-append (map (λ (y : Keyed Left). y.key.name) (take i all)) (x.key.name ∷ [])

pub none_taken : (all : List (Keyed Left)) (index : Names Bool) → means index ≡ nothing → HasNames index (taken_at all 0)
unfolding has
none_taken all index e x = ap (λ (s : Scope Bool). is_some (s x)) e

pub fields_at : (fs : List PlainField) (all : List (Keyed Left)) (i : ℕ) (x : Keyed Left) → i < length all → x ≡ get_or all i x
    → are_fields fs (keys_of_lefts (plain.keyed_lefts (drop i all))) ≡ (is_some (field_named fs x.key) && are_fields fs (keys_of_lefts (plain.keyed_lefts (drop (i + 1) all))))
unfolding are_fields keys_of_lefts
fields_at fs all i x inside here = ap (λ xs. are_fields fs (keys_of_lefts (plain.keyed_lefts xs))) (at_drop all i x inside here)

pub fields_end : (fs : List PlainField) (all : List (Keyed Left)) (i : ℕ) → length all ≤ i → are_fields fs (keys_of_lefts (plain.keyed_lefts (drop i all))) ≡ true
unfolding are_fields keys_of_lefts
fields_end fs all i outside = ap (λ xs. are_fields fs (keys_of_lefts (plain.keyed_lefts xs))) (drop_all i all outside)

pub lefts_counted : (all : List Left) → count_lefts (plain.lefts all) ≡ length all
unfolding count_lefts
lefts_counted [] = refl
lefts_counted (x ∷ xs) = ap (λ n. n + 1) (lefts_counted xs) ∙ add-one (length xs)

some_cond : (b : Bool) (m : Bool) (o : Option Bool) → is_some (cond b (Some m) o) ≡ (b || is_some o)
some_cond true m o = refl
some_cond false m o = refl

-- the index has a name more
pub one_more_taken : (old new : Names Bool) (taken : List (List ℕ)) (name : List ℕ) → means new ≡ with_name name true (means old) → HasNames old taken
    → HasNames new (name ∷ taken)
unfolding has
one_more_taken old new taken name declared knows y =
    ap (λ (s : Scope Bool). is_some (s y)) declared
    ∙ some_cond (bytes_eq name y) true (means old y)
    ∙ rw (nat_list_eq_equiv.symm name y, knows y) refl

pub targets_more : (done : List TypedTarget) (x : TypedTarget) → map target (done ++ x ∷ []) ≡ map target done ++ target x ∷ []
targets_more done x = map-append target done (x ∷ [])

by_count : (m n : ℕ) (p : Place) → m ≡ n → only (nat_eq m n) WrongCount p ≡ Ok tt
by_count m n p e = rw (is_eq m n e) refl
  where
    is_eq : (m n : ℕ) → m ≡ n → nat_eq m n ≡ true
    is_eq m n e = grind arith

by_other_count : (m n : ℕ) (p : Place) → m ≢ n → only (nat_eq m n) WrongCount p ≡ refuse WrongCount p
by_other_count m n p e = rw (is_not m n e) refl
  where
    is_not : (m n : ℕ) → m ≢ n → nat_eq m n ≡ false
    is_not m n e = grind arith

pub counts_agree : (all : List Left) (fs : List FieldType) (p : Place) → length all ≡ length fs
    → only (nat_eq (count_lefts (plain.lefts all)) (length (map plain_field fs))) WrongCount p ≡ Ok tt
counts_agree all fs p e = by_count _ _ p (lefts_counted all ∙ e ∙ sym (length-map fs plain_field))

pub counts_differ : (all : List Left) (fs : List FieldType) (p : Place) → length all ≢ length fs
    → only (nat_eq (count_lefts (plain.lefts all)) (length (map plain_field fs))) WrongCount p ≡ refuse WrongCount p
counts_differ all fs p e = by_other_count _ _ p (λ h. e (sym (lefts_counted all) ∙ h ∙ length-map fs plain_field))

pub no_targets : view.targets [] ≡ t.NoTargets
unfolding view.targets
no_targets = refl
