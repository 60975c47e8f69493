-- What each form of a declaration of an interface is, as the code takes its steps.
use Rattle.std.proofs.Common.{◌≡◌, ◌<◌, ◌≤◌, ◌+◌, ◌-◌, ℕ, List, [], ◌∷◌, ◌++◌, map, take, drop, length, get_or, Option, None, Ok, Err, refl, sym, ap, ◌∙◌, append_assoc, arith}
use Rattle.std.proofs.lemmas.List.{drop_all, length-drop, take_all}
use Rattle.std.specs.Prelude.{nat_le}
use Rattle.mesa_base.specs.declared.identifier.Identifier.{Identifier}
use Rattle.mesa_base.specs.declared.limits.TheConstants.{OPERAND_WORDS}
use Rattle.mesa_base.specs.declared.place.Place.{Place}
use Rattle.syntax_trees.specs.PlainSyntax as plain
use Rattle.syntax_trees.specs.Syntax as s
use Rattle.mesa_types.specs.declared.faces.ItemKind.TheVariants as item
use Rattle.syntax_trees.specs.declared.syntax.Defined.{Defined as Written}
use Rattle.syntax_trees.specs.declared.syntax.Labeled.{Labeled}
use Rattle.check_rules.specs.Around.{Around, in_constant}
use Rattle.check_rules.specs.Checking.{check, type_exp}
use Rattle.check_rules.specs.Definitions.{Defined, all_defined, and_defined, constants_by, defined, definition, nothing_defined}
use Rattle.check_rules.specs.Meanings.{Meaning}
use Rattle.check_rules.specs.Names.{announce, settle}
use Rattle.check_rules.specs.Parts.{first, first_name}
use Rattle.check_rules.specs.Programs.{told}
use Rattle.check_rules.specs.Ranges.{Into}
use Rattle.check_rules.specs.Statements.{constant_meaning}
use Rattle.check_rules.specs.Steps.{Fault, State, Check, Checked, and_then, ensure, only}
use Rattle.check_rules.specs.declared.fault.Cause.TheVariants.{FrameTooLarge}
use Rattle.check_written_types.specs.check_expressions.proofs.Folding.{in_turn}
use Rattle.check_jumps.proofs.Tests.{at_drop}
use Rattle.check_heads.specs.Again.{after}
use Rattle.check_heads.specs.Forms as form

pub procedure_is : (a : Around) (xs : List Identifier) (h : s.Head) → defined a xs (s.ProcedureItem h) ≡ form.item a item.Procedure xs h.takes h.gives
unfolding defined form.item form.item_names settle
procedure_is a xs h = refl

pub signal_is : (a : Around) (xs : List Identifier) (h : s.Head) → defined a xs (s.SignalItem h) ≡ form.item a item.Signal xs h.takes h.gives
unfolding defined form.item form.item_names settle
signal_is a xs h = refl

pub error_is : (a : Around) (xs : List Identifier) (takes : Option s.FieldList) → defined a xs (s.ErrorItem takes) ≡ form.item a item.Error xs takes None
unfolding defined form.item form.item_names settle
error_is a xs takes = refl

pub type_is : (a : Around) (xs : List Identifier) (e : s.TypeExp) → defined a xs (s.TypeItem e) ≡ form.type_names a xs e
unfolding defined form.type_names
type_is a xs e = refl

pub constant_is : (a : Around) (xs : List Identifier) (e : s.TypeExp) (x : s.Expr) → defined a xs (s.ConstantItem e x) ≡ form.constant_names a xs e x
unfolding defined form.constant_names form.constant_named
constant_is a xs e x = λ i σ. and_then (type_exp a e σ) (λ k. sym (in_turn {B = Meaning × State} {C = Defined × State}
    (check (in_constant (first x) a) (Into k.0 (first x)) x k.1) (λ y. and_then (constant_meaning a k.0 x (first x) y.0.value) (λ c. Ok (c, y.1)))
    (λ c. and_then (settle xs (map (λ x. c.0) xs) c.1) (λ u. Ok (record nothing_defined { constants = constants_by xs c.0 }, u.1)))) i)

-- for the function that matches on declarations
pub ruleset defined_forms = (procedure_is, signal_is, error_is, type_is, constant_is)

-- ---- one declaration, whose operands are counted

module _ (a : Around) (d : s.Definition) (xs : List Identifier) (before begun : State) (same : xs ≡ d.names) (starts : begun ≡ record before { operands = 0 }) where
  abbrev pub counted : Defined × State → Checked (Defined × State)
  counted r = and_then (ensure (nat_le (0 + r.1.operands) OPERAND_WORDS) FrameTooLarge (first_name d.names) (record r.1 { operands = before.operands })) (λ u. Ok (r.0, u.1))

  pub definition_is : definition a d before ≡ and_then (form.announced a xs d.defined begun) counted
  unfolding form.announced
  definition_is =
      in_turn (and_then (announce d.names (record before { operands = 0 })) (λ u. defined a d.names d.defined u.1))
      (λ (r : Defined × State). Ok ((r.0, r.1.operands), record r.1 { operands = before.operands }))
      (λ (r : (Defined × ℕ) × State). and_then (ensure (nat_le (0 + r.0.1) OPERAND_WORDS) FrameTooLarge (first_name d.names) r.1) (λ u. Ok (r.0.0, u.1)))
      ∙ ap (λ ys. and_then (and_then (announce ys (record before { operands = 0 })) (λ u. defined a ys d.defined u.1)) counted) (sym same)
      ∙ ap (λ σ. and_then (and_then (announce xs σ) (λ u. defined a xs d.defined u.1)) counted) (sym starts)

  module _ (made : Defined) (τ : State) (words : ℕ) (p : Place) (is_made : form.announced a xs d.defined begun ≡ Ok (made, τ)) (count : words ≡ τ.operands)
      (place : p ≡ first_name xs) where
    pub counted_is : definition a d before ≡ and_then (only (nat_le (0 + words) OPERAND_WORDS) FrameTooLarge p) (λ u. Ok (made, record τ { operands = before.operands }))
    counted_is =
        definition_is ∙ ap (λ m. and_then m counted) is_made
        ∙ in_turn (only (nat_le (0 + τ.operands) OPERAND_WORDS) FrameTooLarge (first_name d.names)) (λ (u : Unit {0}). Ok (u, record τ { operands = before.operands }))
        (λ (u : Unit {0} × State). Ok (made, u.1))
        ∙ ap (λ n. and_then (only (nat_le (0 + n) OPERAND_WORDS) FrameTooLarge (first_name d.names)) (λ u. Ok (made, record τ { operands = before.operands }))) (sym count)
        ∙ ap (λ q. and_then (only (nat_le (0 + words) OPERAND_WORDS) FrameTooLarge q) (λ u. Ok (made, record τ { operands = before.operands }))) (sym (place ∙ ap first_name same))

    pub is_defined : (outside : ℕ) (after : State) → only (nat_le (0 + words) OPERAND_WORDS) FrameTooLarge p ≡ Ok tt → outside ≡ before.operands
        → after ≡ record τ { operands = outside } → definition a d before ≡ Ok (made, after)
    is_defined outside after few old e =
        counted_is ∙ ap (λ m. and_then m (λ u. Ok (made, record τ { operands = before.operands }))) few
        ∙ ap (λ n. Ok (made, record τ { operands = n })) (sym old) ∙ ap (λ σ. Ok (made, σ)) (sym e)

-- ---- all of them, one after the other

append_none : {A : Type 0} (xs : List A) → xs ++ [] ≡ xs
append_none [] = refl
append_none (x ∷ xs) = ap (λ ys. x ∷ ys) (append_none xs)

and_all : (d e f : Defined) → and_defined d (and_defined e f) ≡ and_defined (and_defined d e) f
and_all d e f = λ i. record {
  items = sym (append_assoc d.items e.items f.items) i;
  constants = sym (append_assoc d.constants e.constants f.constants) i;
  types = sym (append_assoc d.types e.types f.types) i;
}

and_nothing : (d : Defined) → and_defined d nothing_defined ≡ d
and_nothing d = λ i. record { items = append_none d.items i; constants = append_none d.constants i; types = append_none d.types i }

abbrev One : Type 0
One = Labeled (List Identifier) Written

abbrev put_behind : Defined → Defined × State → Checked (Defined × State)
put_behind done r = Ok (and_defined done r.0, r.1)

-- those still to come, behind what is declared
unfoldable pub defined_rest : Around → Defined → List s.Definition → Check Defined
defined_rest a done ds σ = and_then (all_defined a ds σ) (put_behind done)

pub defined_first : (a : Around) (ds : List s.Definition) (σ : State) → all_defined a ds σ ≡ defined_rest a nothing_defined ds σ
unfolding defined_rest
defined_first a ds σ = by (all_defined a ds σ)
  where
    by : (m : Checked (Defined × State)) → m ≡ and_then m (put_behind nothing_defined)
    by (Ok r) = refl
    by (Err e) = refl

more_behind : (done x : Defined) (m : Checked (Defined × State))
    → and_then (and_then m (put_behind x)) (put_behind done) ≡ and_then m (put_behind (and_defined done x))
more_behind done x (Ok r) = ap (λ d. Ok (d, r.1)) (and_all done x r.0)
more_behind done x (Err e) = refl

module _ (a : Around) (done : Defined) (all : List One) (i : ℕ) (x : One) (σ : State) (inside : i < length all) (here : x ≡ get_or all i x) where
  pub defined_at : (made : Defined) (τ : State) → definition a (plain.definition x) σ ≡ Ok (made, τ)
      → defined_rest a done (map plain.definition (drop i all)) σ ≡ defined_rest a (and_defined done made) (map plain.definition (drop (i + 1) all)) τ
  unfolding defined_rest all_defined
  defined_at made τ e =
      let rest = map plain.definition (drop (i + 1) all) in
      ap (λ ds. and_then (all_defined a (map plain.definition ds) σ) (put_behind done)) (at_drop all i x inside here)
      ∙ ap (λ m. and_then (and_then (told m (λ u. form.retried_definition a (plain.definition x) rest σ)) (λ r. and_then (all_defined a rest r.1) (put_behind r.0))) (put_behind done)) e
      ∙ more_behind done made (all_defined a rest τ)

  pub defined_fault : (f : Fault) → form.before a (plain.definition x) (map plain.definition (drop (i + 1) all)) σ ≡ Err f
      → defined_rest a done (map plain.definition (drop i all)) σ ≡ Err f
  unfolding defined_rest all_defined
  defined_fault f e =
      let rest = map plain.definition (drop (i + 1) all) in
      ap (λ ds. and_then (all_defined a (map plain.definition ds) σ) (put_behind done)) (at_drop all i x inside here)
      ∙ ap (λ m. and_then (and_then m (λ r. and_then (all_defined a rest r.1) (put_behind r.0))) (put_behind done)) e

-- one turn, with what is known of its steps
module _ (a : Around) (all : List One) (i : ℕ) (x : One) (start : State) (done : Defined) (σ : State) (inside : i < length all) (here : x ≡ get_or all i x)
    (rest : defined_rest a nothing_defined (map plain.definition all) start ≡ defined_rest a done (map plain.definition (drop i all)) σ) where
  pub defined_turn : (made new : Defined) (τ : State) → definition a (plain.definition x) σ ≡ Ok (made, τ) → new ≡ and_defined done made
      → defined_rest a nothing_defined (map plain.definition all) start ≡ defined_rest a new (map plain.definition (drop (i + 1) all)) τ
  defined_turn made new τ e put =
      rest ∙ defined_at a done all i x σ inside here made τ e ∙ ap (λ d. defined_rest a d (map plain.definition (drop (i + 1) all)) τ) (sym put)

  fault_told : (others : List One) (f : Fault) → others ≡ drop (i + 1) all
      → form.before a (plain.definition x) (map plain.definition others) σ ≡ Err f
      → all_defined a (map plain.definition all) start ≡ Err f
  fault_told others f are e =
      defined_first a (map plain.definition all) start ∙ rest
      ∙ defined_fault a done all i x σ inside here f (ap (λ ds. form.before a (plain.definition x) (map plain.definition ds) σ) (sym are) ∙ e)

  pub fault_behind : (others dones : List One) (f : Fault) → σ ≡ after (definition a) (map plain.definition (take i all)) start
      → form.before a (plain.definition x) (map plain.definition others) (after (definition a) (map plain.definition dones) start) ≡ Err f
      → dones ≡ take i all → others ≡ drop (i + 1) all → all_defined a (map plain.definition all) start ≡ Err f
  fault_behind others dones f so_far e done_are others_are =
      fault_told others f others_are (ap (form.before a (plain.definition x) (map plain.definition others))
      (so_far ∙ ap (λ ds. after (definition a) (map plain.definition ds) start) (sym done_are)) ∙ e)

pub defined_end : (a : Around) (done : Defined) (all : List One) (i : ℕ) (σ : State) → length all ≤ i
    → defined_rest a done (map plain.definition (drop i all)) σ ≡ Ok (done, σ)
unfolding defined_rest all_defined
defined_end a done all i σ outside =
    ap (λ ds. and_then (all_defined a (map plain.definition ds) σ) (put_behind done)) (drop_all i all outside) ∙ ap (λ d. Ok (d, σ)) (and_nothing done)

pub all_told : (a : Around) (all : List One) (i : ℕ) (start : State) (done : Defined) (σ : State) → length all ≤ i
    → defined_rest a nothing_defined (map plain.definition all) start ≡ defined_rest a done (map plain.definition (drop i all)) σ
    → all_defined a (map plain.definition all) start ≡ Ok (done, σ)
all_told a all i start done σ outside rest =
    defined_first a (map plain.definition all) start ∙ rest ∙ defined_end a done all i σ outside

pub the_rest : (all : List One) (i : ℕ) → take (length all - i) (drop i all) ≡ drop i all
the_rest all i = take_all (length all - i) (drop i all) (omega (arith, length-drop i all))
