-- Names, labels and declared names: their faults stand at names.
use Rattle.std.specs.Prelude.{Bool, true, false, ℕ, ◌≡◌, ◌+◌, not, Option, Some, None, List, [], ◌∷◌, length, is_some, slice_get, cond, bytes_eq}
use Rattle.std.proofs.Common.{refl, arith}
use Rattle.mesa_base.specs.declared.place.Place.{Place}
use Rattle.mesa_base.specs.declared.identifier.Identifier.{Identifier}
use Rattle.syntax_trees.specs.SyntaxNodes as sn
use Rattle.syntax_trees.specs.declared.syntax.QualifiedName.{QualifiedName}
use Rattle.syntax_trees.specs.declared.syntax.Labels.{Labels}
use Rattle.syntax_trees.specs.declared.syntax.Labels.TheVariants.{Any, Unwind, Signals}
use Rattle.syntax_trees.specs.declared.syntax.TypeBase.{TypeBase}
use Rattle.syntax_trees.specs.declared.syntax.TypeBase.TheVariants.{Unsaid, OfInteger, OfCardinal, OfCharacter, OfName}
use Rattle.interface_records.specs.PlainTypes.{PlainType, is_ordinal}
use Rattle.check_rules.specs.Meanings.{Meaning, Constant, TypeName, Procedure, Signal, Interface, Later, Headless, NotImported}
use Rattle.std.specs.Option.{option_or}
use Rattle.check_rules.specs.Typed.{LinkedProcedure, LinkedSignal}
use Rattle.check_rules.specs.Scopes.{innermost, find, has}
use Rattle.check_rules.specs.Steps.{State}
use Rattle.check_rules.specs.Around.{Around, ArmLabel}
use Rattle.check_rules.specs.Parts.{last_of, last_part, distinct}
use Rattle.check_rules.specs.Names.{each_means, shown, element_in, mark, use_item, seen, named, of_interface, or_nothing, in_meaning, by_parts, qualified, type_by, type_named, word_base, signal_by, signals, arm_labels, announce, settle, is_declared, coming, before_head}
use Rattle.check_rules.specs.TypeRules.{elements}
use Rattle.check_rules.specs.declared.fault.Cause.TheVariants.{TwiceDeclared, TypeMismatch}
use Rattle.check_rules.specs.Places as places
use Rattle.typing_laws.proofs.Keeping.{Later as LaterState, From, same_scopes, later_still, kept_as, Gives, Keeps, Anything, Have, bind, give, refusing, lifting, and_gives, all_right, refused, only_if, first_part, last_part as rest_part}

-- where a constant begins, if one does
abbrev pub ConstantStands : (Place → Type 0) → Option Place → Type 0
ConstantStands Stands None = Unit {0}
ConstantStands Stands (Some p) = Stands p

pub some_or : {A : Type 0} (a b : Option A) → is_some b ≡ true → is_some (option_or a b) ≡ true
some_or (Some x) b h = refl
some_or None b h = h

-- one name more in a scope
some_updated : {A : Type 0} (c : Bool) (a : A) (b : Option A) → is_some b ≡ true → is_some (cond c (Some a) b) ≡ true
some_updated true a b h = refl
some_updated false a b h = h

pub coming_scopes : (xs : List Identifier) (ms : List Meaning) (σ : State) → (each_means xs ms σ).scopes ≡ σ.scopes
unfolding each_means
coming_scopes [] ms σ = refl
coming_scopes (x ∷ xs) [] σ = refl
coming_scopes (x ∷ xs) (m ∷ ms) σ = coming_scopes xs ms (coming x.name m σ)

pub is_shown : (σ : State) → LaterState σ (shown σ)
is_shown σ = record { around = refl; more = λ x h. some_or (σ.coming x) (innermost σ.scopes x) h }

element_later : (b : Bool) (x : List ℕ) (m : Meaning) (σ : State) → LaterState σ (element_in b x m σ)
element_later true x m σ = record { around = refl; more = λ y h. some_updated (bytes_eq x y) m (innermost σ.scopes y) h }
element_later false x m σ = same_scopes σ (coming x m σ) refl

marks_later : (m : Meaning) (σ : State) → LaterState σ (mark m σ)
unfolding mark
marks_later (Procedure (LinkedProcedure m n) i) σ = same_scopes σ (use_item m n σ) refl
marks_later (Signal (LinkedSignal m n) i) σ = same_scopes σ (use_item m n σ) refl
marks_later _ σ = same_scopes σ σ refl

module _ (Stands : Place → Type 0) where
  head_kept : (c : Option Place) (p : Place) → ConstantStands Stands c → Stands p → (m : Option Meaning) → Keeps Stands Anything (before_head c p m)
  head_kept c p h k (Some m) = give tt
  head_kept (Some q) p h k None = refusing h
  head_kept None p h k None = refusing k

  last_stands_by : (x : Identifier) (y : Option Identifier) → Stands x.place → Have Stands (places.of_second y) → Stands (last_part x y).place
  last_stands_by x None h k = h
  last_stands_by x (Some y) h k = k.0

  pub last_stands : (q : QualifiedName) → Have Stands (places.of_name q) → Stands (last_of q).place
  last_stands q h = last_stands_by q.first q.second h.0 h.1

  pub names_are_new : (before : List (List ℕ)) (xs : List Identifier) → Have Stands (places.of_identifiers xs) → Gives Stands Anything (distinct before xs)
  unfolding distinct
  names_are_new before [] h = all_right tt
  names_are_new before (x ∷ xs) h = and_gives (only_if (not (has x.name before)) TwiceDeclared x.place h.0) (λ u w. names_are_new (x.name ∷ before) xs h.1)

  announced_in : (xs : List Identifier) → Have Stands (places.of_identifiers xs) → (σ : State) → Gives Stands (From Anything σ) (announce xs σ)
  unfolding announce
  announced_in [] h σ = record { kept = (tt, same_scopes σ σ refl) }
  announced_in (x ∷ xs) h σ = and_gives (only_if (not (is_declared x.name σ)) TwiceDeclared x.place h.0) (λ u w.
      record {
        kept = kept_as Stands (From Anything (coming x.name Later σ)) (From Anything σ) (announce xs (coming x.name Later σ))
            (announced_in xs h.1 (coming x.name Later σ)).kept
            (λ r p. (tt, later_still σ (coming x.name Later σ) r.1 (same_scopes σ (coming x.name Later σ) refl) p.1));
      })

  pub announced : (xs : List Identifier) → Have Stands (places.of_identifiers xs) → Keeps Stands Anything (announce xs)
  announced xs h = record { in_state = λ σ. (announced_in xs h σ).kept }

  pub has_settled : (xs : List Identifier) (ms : List Meaning) → Keeps Stands Anything (settle xs ms)
  unfolding settle
  has_settled xs ms = record {
    in_state =
        λ σ. (
          tt,
          later_still σ (each_means xs ms σ) (shown (each_means xs ms σ)) (same_scopes σ (each_means xs ms σ) (coming_scopes xs ms σ))
              (is_shown (each_means xs ms σ)),
        );
  }

  elements_in : (a : Around) (k : PlainType) (n : ℕ) (xs : List Identifier) → Have Stands (places.of_identifiers xs) → (σ : State)
      → Gives Stands (From Anything σ) (elements a k n xs σ)
  unfolding elements
  elements_in a k n [] h σ = record { kept = (tt, same_scopes σ σ refl) }
  elements_in a k n (x ∷ xs) h σ = and_gives (only_if (not (is_declared x.name σ)) TwiceDeclared x.place h.0) (λ u w.
      let τ : State = element_in a.is_outermost x.name (Constant k n) σ in
      record {
        kept = kept_as Stands (From Anything τ) (From Anything σ) (elements a k (n + 1) xs τ) (elements_in a k (n + 1) xs h.1 τ).kept
            (λ r p. (tt, later_still σ τ r.1 (element_later a.is_outermost x.name (Constant k n) σ) p.1));
      })

  pub elements_kept : (a : Around) (k : PlainType) (n : ℕ) (xs : List Identifier) → Have Stands (places.of_identifiers xs)
      → Keeps Stands Anything (elements a k n xs)
  elements_kept a k n xs h = record { in_state = λ σ. (elements_in a k n xs h σ).kept }

module _ (Stands : Place → Type 0) (a : Around) (c : ConstantStands Stands a.constant) where
  pub seen_kept : (x : Identifier) → Stands x.place → (m : Option Meaning) → Keeps Stands Anything (seen a x m)
  unfolding seen
  seen_kept x h None = refusing h
  seen_kept x h (Some Later) = refusing h
  seen_kept x h (Some NotImported) = refusing h
  seen_kept x h (Some Headless) = head_kept Stands a.constant x.place c h (a.further x.name)
  seen_kept x h (Some m) = record { in_state = λ σ. (tt, marks_later m σ) }

  pub named_kept : (x : Identifier) → Stands x.place → Keeps Stands Anything (named a x)
  unfolding named
  named_kept x h = record { in_state = λ σ. (seen_kept x h (find x.name σ.scopes)).in_state σ }

  pub of_interface_kept : (n : ℕ) (x : Identifier) → Stands x.place → Keeps Stands Anything (of_interface a n x)
  unfolding of_interface
  of_interface_kept n x h = seen_kept x h (or_nothing (slice_get a.known.interfaces n) x.name)

  in_meaning_kept : (m : Option Meaning) (x : Identifier) → Stands x.place → Keeps Stands Anything (in_meaning a m x)
  in_meaning_kept None x h = refusing h
  in_meaning_kept (Some Later) x h = refusing h
  in_meaning_kept (Some (Interface n)) x h = of_interface_kept n x h
  in_meaning_kept (Some m) x h = refusing h

  by_parts_kept : (x : Identifier) (y : Option Identifier) → Stands x.place → Have Stands (places.of_second y) → Keeps Stands Anything (by_parts a x y)
  by_parts_kept x None h k = named_kept x h
  by_parts_kept x (Some y) h k = record { in_state = λ σ. (in_meaning_kept (find x.name σ.scopes) y k.0).in_state σ }

  pub qualified_kept : (q : QualifiedName) → Have Stands (places.of_name q) → Keeps Stands Anything (qualified a q)
  unfolding qualified
  qualified_kept q h = by_parts_kept q.first q.second h.0 h.1

  type_by_kept : (p : Place) → Stands p → (m : Meaning) → Gives Stands Anything (type_by p m)
  type_by_kept p h (TypeName k) = all_right tt
  type_by_kept p h _ = refused h

  pub type_named_kept : (q : QualifiedName) → Have Stands (places.of_name q) → Keeps Stands Anything (type_named a q)
  unfolding type_named
  type_named_kept q h = bind (qualified_kept q h) (λ m w. lifting (type_by_kept (last_of q).place (last_stands Stands q h) m))

  pub word_base_kept : (b : TypeBase) → Have Stands (places.of_base b) → Keeps Stands Anything (word_base a b)
  unfolding word_base
  word_base_kept Unsaid h = give tt
  word_base_kept (OfInteger p) h = give tt
  word_base_kept (OfCardinal p) h = give tt
  word_base_kept (OfCharacter p) h = give tt
  word_base_kept (OfName q) h = bind (type_named_kept q h) (λ k w.
      bind (lifting (and_gives (only_if (is_ordinal k) TypeMismatch (last_of q).place (last_stands Stands q h)) (λ u v. all_right {P = Anything} tt)))
      (λ k w. give tt))

  signal_by_kept : (p : Place) → Stands p → (m : Meaning) → Gives Stands Anything (signal_by p m)
  signal_by_kept p h (Signal r i) = all_right tt
  signal_by_kept p h _ = refused h

  signals_kept : (qs : List QualifiedName) → Have Stands (places.of_names qs) → Keeps Stands (λ (ls : List ArmLabel). length ls ≡ length qs) (signals a qs)
  unfolding signals places.of_names
  signals_kept [] h = give refl
  signals_kept (q ∷ qs) h = bind (qualified_kept q (first_part Stands (places.of_name q) (places.of_names qs) h)) (λ m w.
      bind (lifting (signal_by_kept (last_of q).place (last_stands Stands q (first_part Stands (places.of_name q) (places.of_names qs) h)) m)) (λ l w.
      bind (signals_kept qs (rest_part Stands (places.of_name q) (places.of_names qs) h)) (λ ls e. give (omega (arith, e)))))

  pub arm_labels_kept : (ls : Labels) → Have Stands (places.of_labels ls)
      → Keeps Stands (λ (xs : List ArmLabel). length xs ≡ sn.labels_nodes ls) (arm_labels a ls)
  unfolding arm_labels
  arm_labels_kept (Any p) h = give refl
  arm_labels_kept (Unwind p) h = give refl
  arm_labels_kept (Signals qs) h = signals_kept qs h
