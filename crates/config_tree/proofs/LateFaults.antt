-- The counts of parts against the limits.
use Rattle.std.proofs.Common.{◌≡◌, ℕ, ◌+◌, ◌<◌, ◌≤◌, nat_lt, Bool, true, false, List, ◌∷◌, length, Option, Some, None, refl, sym, ap, ◌∙◌, arith, if◌then◌else◌}
use Rattle.std.specs.Option.{option_or}
use Rattle.std.proofs.lemmas.Bool.Decides.{Decides-ltb}
use Rattle.mesa_base.specs.declared.limits.TheConstants.{CONFIGURATION_DEPTH, INSTANCES}
use Rattle.mesa_base.specs.declared.place.Place.{Place}
use Rattle.config_rules.specs.Template.{Template, Part, Parts, AndModule, AndNested, depth_of, modules_of, scopes_of}
use Rattle.config_rules.specs.Tree.{too_nested, too_many}
use Rattle.config_templates.specs.Clipped.{clipped}
use Rattle.config_templates.specs.Shown.{before, chained}
use Rattle.config_templates.specs.declared.template.TemplatePart.{TemplatePart}
use Rattle.config_tree.proofs.Growths.{first_part, no_part}

less : (a b : ℕ) → nat_lt a b ≡ true → a < b
less a b e = (Decides-ltb a b).0 e

absurd_less : (a b : ℕ) → nat_lt a b ≡ false → a < b → ⊥
absurd_less a b e h = let q : true ≡ false = sym ((Decides-ltb a b).1 h) ∙ e in cc

not_less : (a b : ℕ) → nat_lt a b ≡ false → b ≤ a
not_less a b e = let no = absurd_less a b e in omega (arith, no)

is_less : (a b : ℕ) → a < b → nat_lt a b ≡ true
is_less a b h = (Decides-ltb a b).1 h

-- ---- paths

pub deep_is : (p : Part) (t : Template) (d : ℕ) (ps : Parts) → d ≡ clipped (depth_of t) → CONFIGURATION_DEPTH < 1 + d → too_nested (AndNested p t ps) ≡ Some p.place
unfolding too_nested
deep_is p t d ps e deep = ap (λ b. if b then Some p.place else too_nested ps) (is_less CONFIGURATION_DEPTH (1 + depth_of t) (omega (arith, e)))

pub flat_is : (p : Part) (t : Template) (d : ℕ) (ps : Parts) → d ≡ clipped (depth_of t) → 1 + d ≤ CONFIGURATION_DEPTH → too_nested (AndNested p t ps) ≡ too_nested ps
unfolding too_nested
flat_is p t d ps e flat = by (nat_lt CONFIGURATION_DEPTH (1 + depth_of t)) refl
  where
    by : (b : Bool) → nat_lt CONFIGURATION_DEPTH (1 + depth_of t) ≡ b → (if b then Some p.place else too_nested ps) ≡ too_nested ps
    by true q = let l = less CONFIGURATION_DEPTH (1 + depth_of t) q in absurd (omega (arith, e))
    by false q = refl

pub nested_more : (all ps : List TemplatePart) (p : TemplatePart) (whole : Option Place) → all ≡ p ∷ ps → too_nested (before p (chained ps)) ≡ option_or None (too_nested (chained ps))
    → too_nested (chained all) ≡ whole → too_nested (chained ps) ≡ whole
nested_more all ps p whole e turn before_now = sym turn ∙ ap too_nested (sym (first_part p ps all e)) ∙ before_now

pub nested_here : (all ps : List TemplatePart) (p : TemplatePart) (place : Place) (whole : Option Place) → all ≡ p ∷ ps
    → too_nested (before p (chained ps)) ≡ option_or (Some place) (too_nested (chained ps)) → too_nested (chained all) ≡ whole → Some place ≡ whole
nested_here all ps p place whole e turn before_now = sym turn ∙ ap too_nested (sym (first_part p ps all e)) ∙ before_now

pub nested_end : (all : List TemplatePart) (whole : Option Place) → length all ≡ 0 → too_nested (chained all) ≡ whole → None ≡ whole
unfolding too_nested
nested_end all whole e before_now = ap too_nested (sym (no_part all e)) ∙ before_now

-- ---- instances

pub one_module : (p : Part) (c : ℕ) (n : ℕ) (ps : Parts) → too_many n (AndModule p c ps) ≡ (if nat_lt INSTANCES (n + 1) then Some p.place else too_many (n + 1) ps)
unfolding too_many
one_module p c n ps = refl

pub one_nested : (p : Part) (t : Template) (s m r n : ℕ) (ps : Parts) → s ≡ clipped (scopes_of t) → m ≡ clipped (modules_of t) → r ≡ 1 + s + m
    → too_many n (AndNested p t ps) ≡ (if nat_lt INSTANCES (n + r) then Some p.place else too_many (n + r) ps)
unfolding too_many
one_nested p t s m r n ps e f g = by (nat_lt INSTANCES all) (nat_lt INSTANCES (n + r)) refl refl
  where
    all : ℕ
    all = n + 1 + scopes_of t + modules_of t

    by : (a b : Bool) → nat_lt INSTANCES all ≡ a → nat_lt INSTANCES (n + r) ≡ b → (if a then Some p.place else too_many all ps) ≡ (if b then Some p.place else too_many (n + r) ps)
    by true true h k = refl
    by false false h k = ap (λ j. too_many j ps) {x = all} {y = n + r} (let l = not_less INSTANCES (n + r) k in omega (arith, e, f, g))
    by true false h k = let l = not_less INSTANCES (n + r) k in let q = less INSTANCES all h in absurd (omega (arith, e, f, g))
    by false true h k = let l = not_less INSTANCES all h in let q = less INSTANCES (n + r) k in absurd (omega (arith, e, f, g))

module _ (all ps : List TemplatePart) (p : TemplatePart) (place : Place) (whole : Option Place) (n r : ℕ) (e : all ≡ p ∷ ps)
    (turn : too_many n (before p (chained ps)) ≡ (if nat_lt INSTANCES (n + r) then Some place else too_many (n + r) (chained ps))) (before_now : too_many n (chained all) ≡ whole) where
  pub many_here : INSTANCES < n + r → Some place ≡ whole
  many_here l =
      ap (λ b. if b then Some place else too_many (n + r) (chained ps)) (sym (is_less INSTANCES (n + r) l)) ∙ sym turn ∙ ap (too_many n) (sym (first_part p ps all e)) ∙ before_now

  pub many_more : n + r ≤ INSTANCES → too_many (n + r) (chained ps) ≡ whole
  many_more l = by (nat_lt INSTANCES (n + r)) refl ∙ sym turn ∙ ap (too_many n) (sym (first_part p ps all e)) ∙ before_now
    where
      by : (b : Bool) → nat_lt INSTANCES (n + r) ≡ b → too_many (n + r) (chained ps) ≡ (if b then Some place else too_many (n + r) (chained ps))
      by true q = let k = less INSTANCES (n + r) q in absurd (omega arith)
      by false q = refl

pub many_end : (all : List TemplatePart) (whole : Option Place) (n : ℕ) → length all ≡ 0 → too_many n (chained all) ≡ whole → None ≡ whole
unfolding too_many
many_end all whole n e before_now = ap (too_many n) (sym (no_part all e)) ∙ before_now
