-- The lists of a heading, name by name, and the names of the parts in other orders.
use Rattle.std.proofs.Common.{◌≡◌, ℕ, Bool, true, false, not, ◌||◌, List, [], ◌∷◌, ◌++◌, Ok, Err, map, refl, sym, ap, subst, ◌∙◌, append_assoc}
use mathlib.Core.Bool.{beq}
use Rattle.std.specs.Prelude.{reverse, bytes_eq}
use Rattle.std.proofs.lemmas.List.{append-nil, reverse-append}
use Rattle.check_scopes.specs.Scopes.{has}
use Rattle.check_scopes.specs.declared.index.Index.{Index}
use Rattle.cmesa_grammar.specs.Syntax.{Identifier}
use Rattle.cmesa_grammar.specs.declared.syntax.Heading.{Heading}
use Rattle.config_rules.specs.Template.{Parts, exported, instance_names}
use Rattle.config_rules.specs.Through.{Answer, ◌>>=◌, each_name, each_control}
use Rattle.config_rules.specs.declared.fault.TreeCause.{TreeCause}
use Rattle.config_rules.specs.declared.fault.TreeCause.TheVariants.{TwiceNamed, UnknownControl, RecordClash, UnknownRecord}
use Rattle.config_rules.specs.declared.fault.TreeFault.{TreeFault}
use Rattle.config_rules.specs.declared.fault.TreeFault.TheVariants.{At}
use Rattle.config_templates.specs.Answers.{Stops}
use Rattle.config_templates.specs.Going.{names_so_far, own_name, exports_of, if_same, fits}
use Rattle.config_templates.specs.Known.{Knows}
use Rattle.config_templates.specs.Shown.{before, chained}
use Rattle.config_templates.specs.declared.template.TemplatePart.{TemplatePart}
use Rattle.config_templates.specs.declared.template.TemplatePart.TheVariants as part
use Rattle.config_templates.proofs.AnswerLaws.{then, fails, stands, passes, stops, stops_as}

-- ---- names in another order

or_assoc : (a b c : Bool) → (a || b) || c ≡ a || (b || c)
or_assoc true b c = refl
or_assoc false b c = refl

or_swap : (a b : Bool) → a || b ≡ b || a
or_swap true true = refl
or_swap true false = refl
or_swap false true = refl
or_swap false false = refl

or_false : (a : Bool) → a || false ≡ a
or_false true = refl
or_false false = refl

pub has-append : (x : List ℕ) (xs ys : List (List ℕ)) → has x (xs ++ ys) ≡ has x xs || has x ys
unfolding has
has-append x [] ys = refl
has-append x (z ∷ xs) ys = ap (λ b. bytes_eq x z || b) (has-append x xs ys) ∙ sym (or_assoc (bytes_eq x z) (has x xs) (has x ys))

has-swap : (x : List ℕ) (xs ys : List (List ℕ)) → has x (xs ++ ys) ≡ has x (ys ++ xs)
has-swap x xs ys = has-append x xs ys ∙ or_swap (has x xs) (has x ys) ∙ sym (has-append x ys xs)

has-reverse : (x : List ℕ) (xs : List (List ℕ)) → has x (reverse xs) ≡ has x xs
unfolding has
has-reverse x [] = refl
has-reverse x (y ∷ xs) =
    ap (has x) (reverse-append (y ∷ []) xs)
    ∙ has-append x (reverse xs) (y ∷ [])
    ∙ or_swap (has x (reverse xs)) (bytes_eq x y || false)
    ∙ ap (λ b. b || has x (reverse xs)) (or_false (bytes_eq x y))
    ∙ ap (λ b. bytes_eq x y || b) (has-reverse x xs)

reordered : (index : Index (Unit {0})) (xs ys : List (List ℕ)) → Knows index xs → ((x : List ℕ) → has x ys ≡ has x xs) → Knows index ys
reordered index xs ys k e = record { each = λ x. e x ∙ k.each x }

pub in_order : (index : Index (Unit {0})) (xs ys : List (List ℕ)) → Knows index (reverse xs ++ ys) → Knows index (xs ++ ys)
in_order index xs ys k = reordered index (reverse xs ++ ys) (xs ++ ys) k
    (λ x. has-append x xs ys ∙ ap (λ b. b || has x ys) (sym (has-reverse x xs)) ∙ sym (has-append x (reverse xs) ys))

pub swapped : (index : Index (Unit {0})) (xs ys : List (List ℕ)) → Knows index (xs ++ ys) → Knows index (ys ++ xs)
swapped index xs ys k = reordered index (xs ++ ys) (ys ++ xs) k (λ x. has-swap x ys xs)

names_in_order : (ps : List TemplatePart) → instance_names (chained ps) ≡ map own_name ps
unfolding instance_names chained
names_in_order [] = refl
names_in_order (part.Module p n ∷ ps) = ap (λ xs. p.name ∷ xs) (names_in_order ps)
names_in_order (part.Nested p t ∷ ps) = ap (λ xs. p.name ∷ xs) (names_in_order ps)

pub named_in_order : (index : Index (Unit {0})) (ps : List TemplatePart) → Knows index (names_so_far ps) → Knows index (instance_names (chained ps))
named_in_order index ps k = reordered index (names_so_far ps) (instance_names (chained ps)) k (λ x. ap (has x) (names_in_order ps) ∙ sym (has-reverse x (map own_name ps)))

-- ---- records to which parts export

exported_first : (p : TemplatePart) (ps : Parts) → exported (before p ps) ≡ exports_of p ++ exported ps
unfolding exported
exported_first (part.Module p n) ps = refl
exported_first (part.Nested p t) ps = refl

pub exported_more : (ps : List TemplatePart) (p : TemplatePart) → exported (chained (ps ++ p ∷ [])) ≡ exported (chained ps) ++ exports_of p
unfolding exported chained
exported_more [] p = exported_first p (chained []) ∙ append-nil (exports_of p)
exported_more (q ∷ ps) p =
    exported_first q (chained (ps ++ p ∷ []))
    ∙ ap (λ xs. exports_of q ++ xs) (exported_more ps p)
    ∙ sym (append_assoc (exports_of q) (exported (chained ps)) (exports_of p))
    ∙ ap (λ xs. xs ++ exports_of p) (sym (exported_first q (chained ps)))

-- ---- lists of names

module _ (wrong : List ℕ → Bool) (cause : TreeCause) (names : List (List ℕ)) (i : Identifier) (is : List Identifier) where
  pub twice : has i.name names ≡ true → each_name wrong cause names (i ∷ is) ≡ Err (At TwiceNamed i.place)
  unfolding each_name
  twice e = fails _ _ _ (stands _ TwiceNamed i.place e)

  pub wrong_one : has i.name names ≡ false → wrong i.name ≡ true → each_name wrong cause names (i ∷ is) ≡ Err (At cause i.place)
  unfolding each_name
  wrong_one e w = then _ _ tt (passes _ TwiceNamed i.place e) ∙ fails _ _ _ (stands _ cause i.place w)

  pub right_one : has i.name names ≡ false → wrong i.name ≡ false → each_name wrong cause names (i ∷ is) ≡ each_name wrong cause (i.name ∷ names) is
  unfolding each_name
  right_one e w = then _ _ tt (passes _ TwiceNamed i.place e) ∙ then _ _ tt (passes _ cause i.place w)

module _ (names : List (List ℕ)) (i : Identifier) (is : List Identifier) where
  pub no_instance : has i.name names ≡ false → each_control names (i ∷ is) ≡ Err (At UnknownControl i.place)
  unfolding each_control
  no_instance e = fails _ _ _ (stands _ UnknownControl i.place (ap not e))

  pub an_instance : has i.name names ≡ true → each_control names (i ∷ is) ≡ each_control names is
  unfolding each_control
  an_instance e = then _ _ tt (passes _ UnknownControl i.place (ap not e))

pub if_equal : (flag b : Bool) → beq b flag ≡ true → if_same flag b ≡ true
if_equal true true e = e
if_equal true false e = e
if_equal false true e = e
if_equal false false e = e

pub if_other : (flag b : Bool) → beq b flag ≡ false → if_same flag b ≡ false
if_other true true e = e
if_other true false e = e
if_other false true e = e
if_other false false e = e

-- ---- the three lists of a heading

module _ (h : Heading) (ps : Parts) where
  abbrev of_imports : List Identifier → Answer (Unit {0})
  of_imports xs = each_name (λ r. has r (exported ps)) RecordClash [] xs

  abbrev of_exports : List Identifier → Answer (Unit {0})
  of_exports xs = each_name (λ r. not (has r (exported ps))) UnknownRecord [] xs

  pub imports_stop : (xs : List Identifier) (fault : TreeFault) → xs ≡ h.imports → Stops (of_imports xs) fault → Stops (fits h ps) fault
  unfolding fits
  imports_stop xs fault e s = stops _ _ fault (subst (λ ys. Stops (of_imports ys) fault) e s)

  behind_imports : (xs : List Identifier) (u : Unit {0}) → xs ≡ h.imports → of_imports xs ≡ Ok u → fits h ps ≡ of_exports h.exports >>= (λ _. each_control (instance_names ps) h.control)
  unfolding fits
  behind_imports xs u e o = then _ _ u (ap of_imports (sym e) ∙ o)

  pub exports_stop : (xs ys : List Identifier) (u : Unit {0}) (fault : TreeFault) → xs ≡ h.imports → of_imports xs ≡ Ok u → ys ≡ h.exports → Stops (of_exports ys) fault → Stops (fits h ps) fault
  exports_stop xs ys u fault e o d s = stops_as _ _ fault (behind_imports xs u e o) (stops _ _ fault (subst (λ zs. Stops (of_exports zs) fault) d s))

  pub behind_exports : (xs ys zs : List Identifier) (u v : Unit {0}) → xs ≡ h.imports → of_imports xs ≡ Ok u → ys ≡ h.exports → of_exports ys ≡ Ok v → zs ≡ h.control
      → fits h ps ≡ each_control (instance_names ps) zs
  behind_exports xs ys zs u v e o d p c = behind_imports xs u e o ∙ then _ _ v (ap of_exports (sym d) ∙ p) ∙ ap (each_control (instance_names ps)) (sym c)
