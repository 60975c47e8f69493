-- Names: one that is named marks one item at most, and only where it means an item of an import. A type marks none.
use Rattle.std.specs.Prelude.{ℕ, ◌≡◌, ◌+◌, ◌≤◌, Bool, true, false, not, Option, Some, None, Ok, Err, List, [], ◌∷◌, map, slice_get}
use Rattle.std.proofs.Common.{refl, sym, subst, arith}
use Rattle.mesa_base.specs.declared.place.Place.{Place}
use Rattle.mesa_base.specs.declared.identifier.Identifier.{Identifier}
use Rattle.syntax_trees.specs.declared.syntax.QualifiedName.{QualifiedName}
use Rattle.syntax_trees.specs.declared.syntax.Labels.{Labels}
use Rattle.syntax_trees.specs.declared.syntax.Labels.TheVariants.{Any, Unwind, Signals}
use Rattle.syntax_trees.specs.declared.syntax.TypeBase.{TypeBase}
use Rattle.syntax_trees.specs.declared.syntax.TypeBase.TheVariants.{Unsaid, OfInteger, OfCardinal, OfCharacter, OfName}
use Rattle.interface_records.specs.PlainTypes.{PlainType, is_ordinal}
use Rattle.check_rules.specs.Typed as t
use Rattle.check_rules.specs.Meanings.{Meaning, Constant, TypeName, Procedure, Signal, Interface, Later, Headless, NotImported}
use Rattle.check_rules.specs.Scopes.{find, has}
use Rattle.check_rules.specs.Steps.{State, Checked, and_then, only}
use Rattle.check_rules.specs.Around.{Around, ArmLabel, label_of}
use Rattle.check_rules.specs.Parts.{last_of, distinct}
use Rattle.check_rules.specs.Names.{each_means, element_in, coming, mark, seen, named, of_interface, or_nothing, in_meaning, by_parts, qualified, type_by, type_named, word_base, signal_by, signals, arm_labels, announce, settle, is_declared, before_head}
use Rattle.check_rules.specs.TypeRules.{elements}
use Rattle.check_rules.specs.declared.fault.Cause.TheVariants.{TwiceDeclared, TypeMismatch}
use Rattle.checking_laws.specs.Weights as tree
use Rattle.checking_laws.specs.Weights.{one_each}
use Rattle.checking_laws.proofs.Marks.{marks, one_more}
use Rattle.checking_laws.proofs.Uses as u
use Rattle.checking_laws.proofs.Using.{Gives, Uses, Used, Unused, Anything, bind, give, refusing, lifting, after, and_gives, all_right, refused, only_if}

-- whether what a name means is an item of an import
abbrev pub linked : Meaning → ℕ
linked (Procedure c i) = u.in_callee c
linked (Signal r i) = u.in_raised r
linked _ = 0

abbrev pub NamedOnce : Meaning → ℕ → Type 0
NamedOnce m n = (n ≤ 1) × (n ≤ linked m)

at_meaning : (m : Meaning) → linked m ≤ 1
at_meaning (Procedure c i) = u.at_callee c
at_meaning (Signal r i) = u.at_raised r
at_meaning _ = omega arith

marked : (m : Meaning) (σ : State) → marks (mark m σ).used ≤ marks σ.used + linked m
unfolding mark
marked (Procedure (t.LinkedProcedure k n) i) σ = one_more σ.used k n
marked (Procedure (t.OwnProcedure n) i) σ = omega arith
marked (Signal (t.LinkedSignal k n) i) σ = one_more σ.used k n
marked (Signal (t.OwnSignal n) i) σ = omega arith
marked (Signal t.TheBoundsFault i) σ = omega arith
marked (Signal t.TheZeroDivisor i) σ = omega arith
marked (Signal t.TheUnnamed i) σ = omega arith
marked _ σ = omega arith

head_used : (c : Option Place) (p : Place) (m : Option Meaning) → Uses NamedOnce (before_head c p m)
head_used c p (Some m) = give (omega arith, omega arith)
head_used (Some q) p None = refusing tt
head_used None p None = refusing tt

module _ (a : Around) where
  seen_used : (x : Identifier) (m : Option Meaning) → Uses NamedOnce (seen a x m)
  unfolding seen
  seen_used x None = refusing tt
  seen_used x (Some Later) = refusing tt
  seen_used x (Some NotImported) = refusing tt
  seen_used x (Some Headless) = head_used a.constant x.place (a.further x.name)
  seen_used x (Some m) = record {
    in_state = λ σ. record { growth = linked m; marked = marked m σ; holds = (at_meaning m, omega arith) };
  }

  pub named_used : (x : Identifier) → Uses NamedOnce (named a x)
  unfolding named
  named_used x = record { in_state = λ σ. (seen_used x (find x.name σ.scopes)).in_state σ }

  pub of_interface_used : (n : ℕ) (x : Identifier) → Uses NamedOnce (of_interface a n x)
  unfolding of_interface
  of_interface_used n x = seen_used x (or_nothing (slice_get a.known.interfaces n) x.name)

  in_meaning_used : (m : Option Meaning) (x : Identifier) → Uses NamedOnce (in_meaning a m x)
  in_meaning_used None x = refusing tt
  in_meaning_used (Some Later) x = refusing tt
  in_meaning_used (Some NotImported) x = refusing tt
  in_meaning_used (Some (Interface n)) x = of_interface_used n x
  in_meaning_used (Some m) x = refusing tt

  by_parts_used : (x : Identifier) (y : Option Identifier) → Uses NamedOnce (by_parts a x y)
  by_parts_used x None = named_used x
  by_parts_used x (Some y) = record { in_state = λ σ. (in_meaning_used (find x.name σ.scopes) y).in_state σ }

  pub qualified_used : (q : QualifiedName) → Uses NamedOnce (qualified a q)
  unfolding qualified
  qualified_used q = by_parts_used q.first q.second

  type_by_given : (p : Place) (m : Meaning) → Gives (λ (k : PlainType). linked m ≡ 0) (type_by p m)
  type_by_given p (TypeName k) = all_right refl
  type_by_given p _ = refused tt

  pub type_named_used : (q : QualifiedName) → Uses Unused (type_named a q)
  unfolding type_named
  type_named_used q = bind (qualified_used q) (λ m n w. lifting (type_by_given (last_of q).place m) (λ k e. omega arith))

  pub word_base_used : (b : TypeBase) → Uses Unused (word_base a b)
  unfolding word_base
  word_base_used Unsaid = give refl
  word_base_used (OfInteger p) = give refl
  word_base_used (OfCardinal p) = give refl
  word_base_used (OfCharacter p) = give refl
  word_base_used (OfName q) = bind (type_named_used q) (λ k n w.
      after (and_gives (only_if (is_ordinal k) TypeMismatch (last_of q).place tt) (λ x v. all_right {P = Anything} tt)) (λ k v. give (omega arith)))

  signal_by_given : (p : Place) (m : Meaning) → Gives (λ (l : ArmLabel). linked m ≡ u.in_label (label_of l)) (signal_by p m)
  signal_by_given p (Signal (t.LinkedSignal k n) i) = all_right refl
  signal_by_given p (Signal (t.OwnSignal n) i) = all_right refl
  signal_by_given p (Signal t.TheBoundsFault i) = all_right refl
  signal_by_given p (Signal t.TheZeroDivisor i) = all_right refl
  signal_by_given p (Signal t.TheUnnamed i) = all_right refl
  signal_by_given p _ = refused tt

  -- labels are uses, each at its name
  signals_used : (qs : List QualifiedName)
      → Uses (λ (ls : List ArmLabel) n. (n ≤ tree.each_qualified_weight one_each qs) × (n ≤ u.in_labels (map label_of ls))) (signals a qs)
  unfolding signals tree.each_qualified_weight u.in_labels
  signals_used [] = give (omega arith, omega arith)
  signals_used (q ∷ qs) = bind (qualified_used q) (λ m n w.
      after (signal_by_given (last_of q).place m) (λ l e.
      bind (signals_used qs) (λ ls k v. give (omega arith, omega arith))))

  pub arm_labels_used : (ls : Labels)
      → Uses (λ (xs : List ArmLabel) n. (n ≤ tree.labels_weight one_each ls) × (n ≤ u.in_labels (map label_of xs))) (arm_labels a ls)
  unfolding arm_labels tree.labels_weight u.in_labels
  arm_labels_used (Any p) = give (omega arith, omega arith)
  arm_labels_used (Unwind p) = give (omega arith, omega arith)
  arm_labels_used (Signals qs) = signals_used qs

-- What is declared marks nothing.
pub names_are_new : (before : List (List ℕ)) (xs : List Identifier) → Gives Anything (distinct before xs)
unfolding distinct
names_are_new before [] = all_right tt
names_are_new before (x ∷ xs) = and_gives (only_if (not (has x.name before)) TwiceDeclared x.place tt) (λ v w. names_are_new (x.name ∷ before) xs)

-- a test, and then a step in a state with the same marks
pub passed : {A : Type 0} (P : A → ℕ → Type 0) (before : ℕ) (r : Checked (Unit {0})) (k : Checked (A × State)) → Gives Anything r → Used P before k
    → Used P before (and_then r (λ v. k))
passed P before (Ok v) k h i = i
passed P before (Err f) k h i = h.given

announced_in : (xs : List Identifier) (σ : State) → Used Unused (marks σ.used) (announce xs σ)
unfolding announce
announced_in [] σ = record { growth = 0; marked = omega arith; holds = refl }
announced_in (x ∷ xs) σ = passed Unused (marks σ.used) (only (not (is_declared x.name σ)) TwiceDeclared x.place)
    (announce xs (coming x.name Later σ)) (only_if (not (is_declared x.name σ)) TwiceDeclared x.place tt)
    (announced_in xs (coming x.name Later σ))

pub announced : (xs : List Identifier) → Uses Unused (announce xs)
announced xs = record { in_state = λ σ. announced_in xs σ }

same_marks : (xs : List Identifier) (ms : List Meaning) (σ : State) → (each_means xs ms σ).used ≡ σ.used
unfolding each_means
same_marks [] ms σ = refl
same_marks (x ∷ xs) [] σ = refl
same_marks (x ∷ xs) (m ∷ ms) σ = same_marks xs ms (coming x.name m σ)

pub has_settled : (xs : List Identifier) (ms : List Meaning) → Uses Unused (settle xs ms)
unfolding settle
has_settled xs ms = record {
  in_state = λ σ. record {
    growth = 0;
    marked = subst (λ used. marks used ≤ marks σ.used + 0) (sym (same_marks xs ms σ)) (omega arith);
    holds = refl;
  };
}

element_marks : (b : Bool) (x : List ℕ) (m : Meaning) (σ : State) → (element_in b x m σ).used ≡ σ.used
element_marks true x m σ = refl
element_marks false x m σ = refl

elements_in : (a : Around) (k : PlainType) (n : ℕ) (xs : List Identifier) (σ : State) → Used Unused (marks σ.used) (elements a k n xs σ)
unfolding elements
elements_in a k n [] σ = record { growth = 0; marked = omega arith; holds = refl }
elements_in a k n (x ∷ xs) σ =
    let τ : State = element_in a.is_outermost x.name (Constant k n) σ in
    passed Unused (marks σ.used) (only (not (is_declared x.name σ)) TwiceDeclared x.place)
    (elements a k (n + 1) xs τ) (only_if (not (is_declared x.name σ)) TwiceDeclared x.place tt)
    (subst (λ used. Used Unused (marks used) (elements a k (n + 1) xs τ)) (element_marks a.is_outermost x.name (Constant k n) σ)
    (elements_in a k (n + 1) xs τ))

pub elements_used : (a : Around) (k : PlainType) (n : ℕ) (xs : List Identifier) → Uses Unused (elements a k n xs)
elements_used a k n xs = record { in_state = λ σ. elements_in a k n xs σ }
