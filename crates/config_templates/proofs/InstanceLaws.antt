-- An instance, step by step.
use Rattle.std.proofs.Common.{◌≡◌, ℕ, Bool, true, false, not, List, [], ◌∷◌, length, Option, Some, None, Ok, Err, slice_get, refl, sym, ap, subst, ◌∙◌}
use Rattle.std.specs.Prelude.{nat_eq}
use Rattle.check_scopes.specs.Scopes.{has}
use Rattle.cmesa_grammar.specs.Syntax.{Identifier}
use Rattle.cmesa_grammar.specs.declared.syntax.Instantiation.{Instantiation}
use Rattle.config_rules.specs.Components.{names_of}
use Rattle.config_rules.specs.Through.{◌>>=◌, Found, Made, Module, Nested, found, instance, listed, name_in}
use Rattle.config_rules.specs.declared.fault.TreeCause.TheVariants.{CountDiffers, TwiceNamed}
use Rattle.config_rules.specs.declared.fault.TreeFault.{TreeFault}
use Rattle.config_rules.specs.declared.fault.TreeFault.TheVariants.{At}
use Rattle.config_templates.specs.Answers.{Stops}
use Rattle.config_templates.specs.Found.{made_from}
use Rattle.config_templates.proofs.AnswerLaws.{ok, err, then, fails, stops, stops_as, stands, passes}

-- ---- an explicit list

pub unlisted : (rs : List Identifier) (names : List (List ℕ)) → None ≡ slice_get rs 0 → listed rs names ≡ Ok names
unfolding listed
unlisted [] names e = refl
unlisted (r ∷ rs) names e = cc

pub counted_other : (rs : List Identifier) (names : List (List ℕ)) (r : Identifier) → Some r ≡ slice_get rs 0 → nat_eq (length rs) (length names) ≡ false
    → listed rs names ≡ Err (At CountDiffers r.place)
unfolding listed
counted_other [] names r e n = cc
counted_other (q ∷ rs) names r e n =
    fails _ _ _ (stands _ CountDiffers q.place (ap not n)) ∙ ap (λ p. err (At CountDiffers p)) (same q r e)
  where
    place_or : Identifier → Option Identifier → Identifier
    place_or d None = d
    place_or d (Some x) = x

    same : (x y : Identifier) → Some y ≡ Some x → x.place ≡ y.place
    same x y h = sym (ap (λ o. (place_or x o).place) h)

pub counted_same : (rs : List Identifier) (names : List (List ℕ)) (r : Identifier) → Some r ≡ slice_get rs 0 → nat_eq (length rs) (length names) ≡ true
    → listed rs names ≡ Ok (names_of rs)
unfolding listed
counted_same [] names r e n = cc
counted_same (q ∷ rs) names r e n = then _ _ tt (passes _ CountDiffers q.place (ap not n))

-- ---- the instance of what was found

module _ (all : List (List ℕ)) (i : Instantiation) (f : Found) (n : Identifier) (b : Bool) (e : n ≡ name_in i) (k : b ≡ has n.name all) where
  is_had : b ≡ has (name_in i).name all
  is_had = k ∙ ap (λ (m : Identifier). has m.name all) e

  pub taken : b ≡ true → made_from all i f ≡ Err (At TwiceNamed n.place)
  taken t = fails _ _ _ (stands _ TwiceNamed (name_in i).place (sym is_had ∙ t)) ∙ ap (λ (m : Identifier). err (At TwiceNamed m.place)) (sym e)

  module _ (t : b ≡ false) where
    abbrev part_with : List (List ℕ) → List (List ℕ) → Made
    part_with exports imports = record { part = record { name = (name_in i).name; imports = imports; exports = exports; place = i.place }; thing = f.thing }

    free : made_from all i f ≡ listed i.records f.exports >>= (λ exports. listed i.arguments f.imports >>= (λ imports. Ok (part_with exports imports)))
    free = then _ _ tt (passes _ TwiceNamed (name_in i).place (sym is_had ∙ t))

    pub exports_stop : (rs : List Identifier) (fault : TreeFault) → rs ≡ i.records → Stops (listed rs f.exports) fault → Stops (made_from all i f) fault
    exports_stop rs fault r s = stops_as _ _ fault free (stops _ _ fault (subst (λ xs. Stops (listed xs f.exports) fault) r s))

    half : (rs : List Identifier) (xs : List (List ℕ)) → rs ≡ i.records → listed rs f.exports ≡ Ok xs
        → made_from all i f ≡ listed i.arguments f.imports >>= (λ imports. Ok (part_with xs imports))
    half rs xs r l = free ∙ then _ _ xs (ap (λ ys. listed ys f.exports) (sym r) ∙ l)

    pub imports_stop : (rs bs : List Identifier) (xs : List (List ℕ)) (fault : TreeFault) → rs ≡ i.records → listed rs f.exports ≡ Ok xs → bs ≡ i.arguments
        → Stops (listed bs f.imports) fault → Stops (made_from all i f) fault
    imports_stop rs bs xs fault r l a s = stops_as _ _ fault (half rs xs r l) (stops _ _ fault (subst (λ ys. Stops (listed ys f.imports) fault) a s))

    pub made : (rs bs : List Identifier) (xs ms : List (List ℕ)) (name : List ℕ) → rs ≡ i.records → listed rs f.exports ≡ Ok xs → bs ≡ i.arguments → listed bs f.imports ≡ Ok ms → name ≡ n.name
        → made_from all i f ≡ Ok (record { part = record { name = name; imports = ms; exports = xs; place = i.place }; thing = f.thing })
    made rs bs xs ms name r l a m c =
        half rs xs r l ∙ then _ _ ms (ap (λ ys. listed ys f.imports) (sym a) ∙ m)
        ∙ ap (λ x. ok (with_name x)) (sym (c ∙ ap (λ (y : Identifier). y.name) e))
      where
        with_name : List ℕ → Made
        with_name x = record { part = record { name = x; imports = ms; exports = xs; place = i.place }; thing = f.thing }

pub instance_is : (ms : List Module) (s : Nested) (all : List (List ℕ)) (i : Instantiation) → instance ms s all i ≡ found ms s i.component >>= (λ f. made_from all i f)
unfolding instance
instance_is ms s all i = refl
