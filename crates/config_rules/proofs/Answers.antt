-- Answers one after the other: what an Ok at the end says of each.
use Rattle.std.proofs.Common.{◌≡◌, Bool, true, false, not, Option, Some, None, Ok, Err, refl, ap, subst}
use Rattle.cmesa_grammar.specs.Syntax.{Place}
use Rattle.config_rules.specs.Through.{Answer, ◌>>=◌, unless}
use Rattle.config_rules.specs.Tree.{unless_there}
use Rattle.config_rules.specs.declared.fault.TreeCause.{TreeCause}
use Rattle.config_rules.specs.declared.fault.TreeFault.{TreeFault}

pub record Went {A B : Type 0} (x : Answer A) (f : A → Answer B) (b : B) : Type 0 where
  pub value : A
  pub is : x ≡ Ok value
  pub went_on : f value ≡ Ok b

pub err_ok : {A : Type 0} (e : TreeFault) (a : A) → Err e ≡ Ok a → ⊥
err_ok {A} e a h = subst told h tt
  where
    told : Answer A → Type 0
    told (Err f) = Unit {0}
    told (Ok b) = ⊥

abbrev Same : {A : Type 0} → Answer A → Answer A → Type 0
Same x y = x ≡ y

pub ok_same : {A : Type 0} (a b : A) → Same (Ok a) (Ok b) → a ≡ b
ok_same {A} a b h = ap (value_or a) h
  where
    value_or : A → Answer A → A
    value_or d (Ok x) = x
    value_or d (Err e) = d

pub went : {A B : Type 0} (x : Answer A) (f : A → Answer B) (b : B) → x >>= f ≡ Ok b → Went x f b
unfolding ◌>>=◌
went (Ok a) f b h = record { value = a; is = refl; went_on = h }
went (Err e) f b h = absurd (err_ok e b h)

pub passed : (b : Bool) (cause : TreeCause) (p : Place) (u : Unit {0}) → unless b cause p ≡ Ok u → b ≡ false
unfolding unless
passed false cause p u h = refl
passed true cause p u h = absurd (err_ok _ u h)

pub no_place : (o : Option Place) (cause : TreeCause) (u : Unit {0}) → unless_there o cause ≡ Ok u → o ≡ None
unfolding unless_there
no_place None cause u h = refl
no_place (Some p) cause u h = absurd (err_ok _ u h)

pub not_false : (b : Bool) → not b ≡ false → b ≡ true
not_false true h = refl
not_false false h = cc
