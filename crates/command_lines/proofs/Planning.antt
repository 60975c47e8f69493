-- Which words are those of a plan.
use Rattle.std.proofs.Common.{◌≡◌, ◌≢◌, ℕ, zero, suc, ◌<◌, ◌≤◌, true, List, [], ◌∷◌, length, get_or, Some, codes, slice_get, refl, sym, ◌∙◌, ap, subst, arith}
use Rattle.config_rules.specs.Components.{is_file_base}
use Rattle.command_passes.specs.command_rules.specs.Forms.{Form, Plan, HasForm, HasNoForm, compile, define, bind, run, go, list, upgrade, exercise, plan, survey}
use Rattle.command_lines.specs.Words.{IsFit, behind_first}
use Rattle.command_lines.proofs.Letters.{first_letter, other}

pub got : {A : Type 0} (xs : List A) (k : ℕ) (d : A) → k < length xs → slice_get xs k ≡ Some (get_or xs k d)
got [] k d h = absurd (omega (arith, h))
got (x ∷ xs) zero d h = refl
got (x ∷ xs) (suc k) d h = got xs k d (omega (arith, h))

pub some_is : {A : Type 0} (a b : A) → Some a ≡ Some b → a ≡ b
some_is a b e = cc

-- each word behind the first is fit
abbrev pub AllFit : List (List ℕ) → Type 0
AllFit words = (at : ℕ) → 1 ≤ at → at < length words → IsFit words at

fit_base : (verb : List ℕ) (bases : List (List ℕ)) → AllFit (verb ∷ bases) → (k : ℕ) (d : List ℕ) → k < length bases → is_file_base (get_or bases k d) ≡ true
fit_base verb bases all k d h =
    let f = all (suc k) (omega arith) (omega (arith, h)) in
    ap is_file_base (some_is (get_or bases k d) f.base (sym (got bases k d h) ∙ f.is)) ∙ f.fits

fit_new : (verb : List ℕ) (bases : List (List ℕ)) → AllFit (verb ∷ bases) → (i j : ℕ) (d : List ℕ) → i < j → j < length bases
    → get_or bases i d ≢ get_or bases j d
fit_new verb bases all i j d less h same =
    let f = all (suc j) (omega arith) (omega (arith, h)) in
    f.new (suc i) (omega arith) (omega (arith, less))
    (got bases i d (omega (arith, less, h)) ∙ ap Some same ∙ sym (got bases j d h) ∙ f.is)

has_plan_of : (bases : List (List ℕ)) → 1 ≤ length bases → length bases ≤ 64 → AllFit (codes "plan" ∷ bases) → HasForm (codes "plan" ∷ bases) (Plan bases)
has_plan_of bases some few all = plan bases some few (fit_base (codes "plan") bases all) (fit_new (codes "plan") bases all)

pub has_plan : (words : List (List ℕ)) → words ≡ codes "plan" ∷ behind_first words → 2 ≤ length words → length words ≤ 65 → AllFit words
    → HasForm words (Plan (behind_first words))
has_plan [] e some few all = absurd (omega (arith, some))
has_plan (w ∷ bases) e some few all =
    let verb : w ≡ codes "plan" = cc in
    subst (λ v. HasForm (v ∷ bases) (Plan bases)) (sym verb)
    (has_plan_of bases (omega (arith, some)) (omega (arith, few)) (subst (λ v. AllFit (v ∷ bases)) verb all))

-- words of a plan are so
pub record PlansSo (words : List (List ℕ)) : Type 0 where
  pub some : 2 ≤ length words
  pub few : length words ≤ 65
  pub all : AllFit words

fit_of : (bases : List (List ℕ)) → ((k : ℕ) (d : List ℕ) → k < length bases → is_file_base (get_or bases k d) ≡ true)
    → ((i j : ℕ) (d : List ℕ) → i < j → j < length bases → get_or bases i d ≢ get_or bases j d) → AllFit (codes "plan" ∷ bases)
fit_of bases named differ zero some inside = absurd (omega (arith, some))
fit_of bases named differ (suc k) some inside = record {
  base = get_or bases k [];
  is = got bases k [] (omega (arith, inside));
  fits = named k [] (omega (arith, inside));
  new = new_of;
} where
  new_of : (j : ℕ) → 1 ≤ j → j < suc k → slice_get (codes "plan" ∷ bases) j ≢ Some (get_or bases k [])
  new_of zero one less same = absurd (omega (arith, one))
  new_of (suc j) one less same =
      differ j k [] (omega (arith, less)) (omega (arith, inside))
      (some_is (get_or bases j []) (get_or bases k []) (sym (got bases j [] (omega (arith, less, inside))) ∙ same))

-- the other forms begin with another letter

plans_so : (words : List (List ℕ)) (form : Form) → words ≡ codes "plan" ∷ behind_first words → HasForm words form → PlansSo words
unfolding first_letter
plans_so words form e (compile base is) = absurd (other 112 refl 99 refl (ap first_letter e))
plans_so words form e (define base word stamp is told) = absurd (other 112 refl 99 refl (ap first_letter e))
plans_so words form e (bind base is) = absurd (other 112 refl 98 refl (ap first_letter e))
plans_so words form e (run bases turns some most are few) = absurd (other 112 refl 114 refl (ap first_letter e))
plans_so words form e (go source base turns is few) = absurd (other 112 refl 103 refl (ap first_letter e))
plans_so words form e (list kind base is) = absurd (other 112 refl 108 refl (ap first_letter e))
plans_so words form e (upgrade kind base is) = absurd (other 112 refl 117 refl (ap first_letter e))
plans_so words form e (exercise links turns some most few) = absurd (other 112 refl 101 refl (ap first_letter e))
plans_so words form e (survey base is) = absurd (other 112 refl 115 refl (ap first_letter e))
plans_so words form e (plan bases some few named differ) = record { some = omega (arith, some); few = omega (arith, few); all = fit_of bases named differ }

pub no_plan : (words : List (List ℕ)) → words ≡ codes "plan" ∷ behind_first words → (PlansSo words → ⊥) → HasNoForm words
no_plan words e not form has = not (plans_so words form e has)
