-- Names that are declared further on, one after the other.
use Rattle.std.proofs.Common.{◌≡◌, ℕ, ◌+◌, ◌<◌, ◌≤◌, ◌||◌, Bool, true, false, List, [], ◌∷◌, ◌++◌, map, drop, length, get_or, Option, Some, None, refl, sym, ap, ◌∙◌}
use Rattle.std.specs.Option.{option_or}
use Rattle.std.specs.Prelude.{cond, bytes_eq}
use Rattle.std.specs.Cmp.Lexicographic.{nat_list_eq_equiv}
use Rattle.std.proofs.lemmas.List.{drop_all}
use Rattle.mesa_base.specs.declared.identifier.Identifier.{Identifier}
use Rattle.syntax_trees.specs.Syntax as form
use Rattle.syntax_trees.specs.PlainSyntax.{declaration, definition, named_fields, type_exp, types}
use Rattle.syntax_trees.specs.declared.syntax.Declaration.{Declaration}
use Rattle.syntax_trees.specs.declared.syntax.Defined.{Defined}
use Rattle.syntax_trees.specs.declared.syntax.Labeled.{Labeled}
use Rattle.syntax_trees.specs.declared.syntax.TypeExp.{TypeExp}
use Rattle.check_scopes.specs.Scopes.{Scope, over, nothing, has, with_name}
use Rattle.check_scopes.specs.Shows.{means}
use Rattle.check_scopes.specs.declared.names.Names.{Names}
use Rattle.check_rules.specs.Definitions as interface
use Rattle.check_rules.specs.Meanings as m
use Rattle.check_rules.specs.Parts.{names_of}
use Rattle.check_rules.specs.Programs.{ahead, also, elements_in_named, elements_in_types, elements_of, one_ahead, type_of}
use Rattle.check_state.specs.Views.{meaning, names, seen_as}
use Rattle.check_state.specs.declared.meaning.Meaning.{Meaning}
use Rattle.check_state.proofs.ScopeLaws.{over_as, with_name_as}
use Rattle.check_directory.proofs.PlaceLaws.{at_drop, over_nothing}
use Rattle.check_faces.specs.Ahead.{all, declared, defined, later}

-- ---- names in a row

or_then : {X : Type 0} (o : Option X) (b : Bool) (x : X) (p : Option X) → option_or o (cond b (Some x) p) ≡ option_or (option_or o (cond b (Some x) None)) p
or_then (Some y) b x p = refl
or_then None true x p = refl
or_then None false x p = refl

-- behind names that mean this others mean what they mean
pub also_then : (s : Scope m.Meaning) (k : m.Meaning) (xs : List Identifier) (rest : Scope m.Meaning) → over s (also k xs rest) ≡ over (over s (all k xs)) rest
also_then s k xs rest = λ i y. or_then (s y) (has y (names_of xs)) k (rest y) i

either : (b c : Bool) (k : m.Meaning) (p : Option m.Meaning) → cond (b || c) (Some k) p ≡ cond b (Some k) (cond c (Some k) p)
either true c k p = refl
either false c k p = refl

also_one : (k : m.Meaning) (x : Identifier) (xs : List Identifier) → all k (x ∷ xs) ≡ also k (x ∷ []) (all k xs)
unfolding has
also_one k x xs = λ i y. (either (bytes_eq y x.name) (has y (names_of xs)) k None ∙ sym (either (bytes_eq y x.name) false k (cond (has y (names_of xs)) (Some k) None))) i

also_none : (k : m.Meaning) → all k [] ≡ nothing
unfolding has
also_none k = λ i y. None

single : (k : m.Meaning) (x : Identifier) → all k (x ∷ []) ≡ with_name x.name k nothing
unfolding has
single k x = λ i y. (either (bytes_eq y x.name) false k None ∙ ap (λ b. cond b (Some k) None) (nat_list_eq_equiv.symm y x.name)) i

module _ (k : m.Meaning) where
  pub all_at : (s : Scope m.Meaning) (xs : List Identifier) (n : ℕ) (x : Identifier) → n < length xs → x ≡ get_or xs n x
      → over s (all k (drop n xs)) ≡ over (over s (with_name x.name k nothing)) (all k (drop (n + 1) xs))
  all_at s xs n x inside here =
      ap (λ ys. over s (all k ys)) (at_drop xs n x inside here)
      ∙ ap (over s) (also_one k x (drop (n + 1) xs))
      ∙ also_then s k (x ∷ []) (all k (drop (n + 1) xs))
      ∙ ap (λ t. over (over s t) (all k (drop (n + 1) xs))) (single k x)

  pub all_out : (s : Scope m.Meaning) (xs : List Identifier) (n : ℕ) → length xs ≤ n → over s (all k (drop n xs)) ≡ s
  all_out s xs n outside = ap (λ ys. over s (all k ys)) (drop_all n xs outside) ∙ ap (over s) (also_none k) ∙ over_nothing s

  again : (x : Identifier) (xs : List Identifier) (rest : Scope m.Meaning) → also k (x ∷ []) (also k xs rest) ≡ also k (x ∷ xs) rest
  unfolding has
  again x xs rest = λ i y. (either (bytes_eq y x.name) false k (cond (has y (names_of xs)) (Some k) (rest y)) ∙ sym (either (bytes_eq y x.name) (has y (names_of xs)) k (rest y))) i

  both_parts : (xs ys : List Identifier) → all k (xs ++ ys) ≡ also k xs (all k ys)
  unfolding has
  both_parts [] ys = λ i y. cond (has y (names_of ys)) (Some k) None
  both_parts (x ∷ xs) ys = also_one k x (xs ++ ys) ∙ ap (also k (x ∷ [])) (both_parts xs ys) ∙ again x xs (all k ys)

  pub all_more : (s : Scope m.Meaning) (xs ys : List Identifier) → over s (all k (xs ++ ys)) ≡ over (over s (all k xs)) (all k ys)
  all_more s xs ys = ap (over s) (both_parts xs ys) ∙ also_then s k xs (all k ys)

pub two_more : (s : Scope m.Meaning) (xs ys : List Identifier) → over s (later (xs ++ ys)) ≡ over (over s (later xs)) (later ys)
two_more s xs ys = all_more m.Later s xs ys

pub none_more : (s : Scope m.Meaning) → over s (later []) ≡ s
none_more s = ap (over s) (also_none m.Later) ∙ over_nothing s

-- one name more of the code
pub named_more : (old new : Names Meaning) (x : List ℕ) (k : Meaning) → means new ≡ over (means old) (with_name x k nothing)
    → names new ≡ over (names old) (with_name x (meaning k) nothing)
unfolding names
named_more old new x k h =
    ap (seen_as meaning) h ∙ over_as meaning (means old) (with_name x k nothing)
    ∙ ap (over (seen_as meaning (means old))) (with_name_as meaning x k nothing)

-- ---- lists of fields

module _ (s : Scope m.Meaning) (n : ℕ) where
  pub types_at : (ts : List TypeExp) (x : TypeExp) → n < length ts → x ≡ get_or ts n x
      → over s (later (elements_in_types (types (drop n ts)))) ≡ over (over s (later (elements_of (type_exp x)))) (later (elements_in_types (types (drop (n + 1) ts))))
  unfolding elements_of
  types_at ts x inside here =
      ap (λ us. over s (later (elements_in_types (types us)))) (at_drop ts n x inside here)
      ∙ two_more s (elements_of (type_exp x)) (elements_in_types (types (drop (n + 1) ts)))

  pub types_out : (ts : List TypeExp) → length ts ≤ n → over s (later (elements_in_types (types (drop n ts)))) ≡ s
  unfolding elements_of
  types_out ts outside = ap (λ us. over s (later (elements_in_types (types us)))) (drop_all n ts outside) ∙ none_more s

  pub named_at : (fs : List (Labeled (List Identifier) TypeExp)) (x : Labeled (List Identifier) TypeExp) → n < length fs → x ≡ get_or fs n x
      → over s (later (elements_in_named (named_fields (drop n fs)))) ≡ over (over s (later (elements_of (type_exp x.item)))) (later (elements_in_named (named_fields (drop (n + 1) fs))))
  unfolding elements_of
  named_at fs x inside here =
      ap (λ gs. over s (later (elements_in_named (named_fields gs)))) (at_drop fs n x inside here)
      ∙ two_more s (elements_of (type_exp x.item)) (elements_in_named (named_fields (drop (n + 1) fs)))

  pub named_out : (fs : List (Labeled (List Identifier) TypeExp)) → length fs ≤ n → over s (later (elements_in_named (named_fields (drop n fs)))) ≡ s
  unfolding elements_of
  named_out fs outside = ap (λ gs. over s (later (elements_in_named (named_fields gs)))) (drop_all n fs outside) ∙ none_more s

-- ---- declarations

declared_then : (s : Scope m.Meaning) (xs : List Identifier) (d : form.Declared) (rest : Scope m.Meaning) → over s (one_ahead xs d rest) ≡ over (over s (one_ahead xs d nothing)) rest
declared_then s xs (form.Data d) rest = also_then s m.Later (xs ++ elements_of (type_of d)) rest
declared_then s xs (form.Procedure h b) rest = also_then s m.Headless xs rest
declared_then s xs (form.Signal h) rest = also_then s m.Headless xs rest
declared_then s xs (form.Error fs) rest = also_then s m.Headless xs rest

defined_then : (s : Scope m.Meaning) (xs : List Identifier) (d : form.Defined) (rest : Scope m.Meaning) → over s (interface.one_ahead xs d rest) ≡ over (over s (interface.one_ahead xs d nothing)) rest
defined_then s xs (form.TypeItem e) rest = also_then s m.Later (xs ++ elements_of e) rest
defined_then s xs (form.ConstantItem e x) rest = also_then s m.Later (xs ++ elements_of e) rest
defined_then s xs (form.ProcedureItem h) rest = also_then s m.Headless xs rest
defined_then s xs (form.SignalItem h) rest = also_then s m.Headless xs rest
defined_then s xs (form.ErrorItem fs) rest = also_then s m.Headless xs rest

module _ (s : Scope m.Meaning) (n : ℕ) where
  pub ahead_at : (ds : List Declaration) (d : Declaration) → n < length ds → d ≡ get_or ds n d
      → over s (ahead (map declaration (drop n ds))) ≡ over (over s (declared (declaration d))) (ahead (map declaration (drop (n + 1) ds)))
  unfolding ahead
  ahead_at ds d inside here =
      ap (λ es. over s (ahead (map declaration es))) (at_drop ds n d inside here)
      ∙ declared_then s (declaration d).names (declaration d).declared (ahead (map declaration (drop (n + 1) ds)))

  pub ahead_out : (ds : List Declaration) → length ds ≤ n → over s (ahead (map declaration (drop n ds))) ≡ s
  unfolding ahead
  ahead_out ds outside = ap (λ es. over s (ahead (map declaration es))) (drop_all n ds outside) ∙ over_nothing s

  pub defined_at : (ds : List (Labeled (List Identifier) Defined)) (d : Labeled (List Identifier) Defined) → n < length ds → d ≡ get_or ds n d
      → over s (interface.ahead (map definition (drop n ds))) ≡ over (over s (defined (definition d))) (interface.ahead (map definition (drop (n + 1) ds)))
  unfolding interface.ahead
  defined_at ds d inside here =
      ap (λ es. over s (interface.ahead (map definition es))) (at_drop ds n d inside here)
      ∙ defined_then s (definition d).names (definition d).defined (interface.ahead (map definition (drop (n + 1) ds)))

  pub defined_out : (ds : List (Labeled (List Identifier) Defined)) → length ds ≤ n → over s (interface.ahead (map definition (drop n ds))) ≡ s
  unfolding interface.ahead
  defined_out ds outside = ap (λ es. over s (interface.ahead (map definition es))) (drop_all n ds outside) ∙ over_nothing s
