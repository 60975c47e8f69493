-- Where a signal comes there is a phrase in whose range an offset is reached; and how far it comes, past the phrases that have no arm for it.
use Rattle.std.proofs.Common.{◌≡◌, ℕ, suc, List, [], ◌∷◌, length, true, Option, Some, None, refl, sym, ap, subst, ◌∙◌, arith}
use Rattle.std.specs.Prelude.{slice_get, position}
use Rattle.std.proofs.lemmas.Option.{none-some}
use Rattle.code_forms.specs.declared.module_code.CodeProcedure.{CodeProcedure}
use Rattle.code_forms.specs.declared.module_code.ModuleCode.{ModuleCode}
use Rattle.object_files.specs.declared.image.Image.{Image}
use Rattle.signaller.specs.declared.place.Place.{Place}
use Rattle.signaller.specs.declared.signal_id.SignalId.{SignalId}
use Rattle.signaller.specs.Search.{arms_of, from_of, beyond, asked, place_at, first_place, fits_signal}
use Rattle.signaller.proofs.Surrounding.{asks_all}
use Rattle.machine_rules.specs.LookUps.{links_of}
use Rattle.machine_rules.proofs.Located.{World}
use Rattle.survey_rules.specs.Escapes.{Position, IsCode, Catches, Comes, raised, called, passed, position_beyond}
use Rattle.survey_rules.proofs.Codes.{one_code}
use Rattle.survey_rules.proofs.Living.{Alive, search_alive, next_alive}

pub come_alive : (image : Image) → World image → (s : SignalId) (j n : ℕ) (position : Position) → Comes image s j n position
    → (m : ModuleCode) (p : CodeProcedure) → IsCode image j n m p → (k : ℕ) → position ≡ Some k → Alive m p k
come_alive image w s _ _ _ (raised j n at m p i c stands may) m' p' c' k e =
    one_code (λ x y. Alive x y k) image j n m m' p p' c c' (search_alive image w j n m p c true at stands.reached k e)
come_alive image w s _ _ _ (called j n at other procedure q m p i c stands calls run more) m' p' c' k e =
    one_code (λ x y. Alive x y k) image j n m m' p p' c c' (search_alive image w j n m p c true at stands.reached k e)
come_alive image w s _ _ _ (passed j n q m p c more lets) m' p' c' k e =
    one_code (λ x y. Alive x y k) image j n m m' p p' c c' (next_alive image w j n m p c true q (come_alive image w s j n (Some q) more m p c q refl) k e)

-- The first arm that fits.

-- the signal comes out of the procedure, or at the phrase of a place, whose arm is the first there that fits
abbrev pub ComesTo : Image → SignalId → (instance procedure : ℕ) → CodeProcedure → Option Place → Type 0
ComesTo image s j n p None = Comes image s j n None
ComesTo image s j n p (Some place) =
    Comes image s j n (Some place.phrase) × (position (fits_signal (links_of image j) s) (arms_of (slice_get p.phrases place.phrase)) ≡ Some place.arm)

abbrev number_of : List ℕ → ℕ
number_of [] = 0
number_of (x ∷ xs) = x

abbrev rest_of : List ℕ → List ℕ
rest_of [] = []
rest_of (x ∷ xs) = xs

not_empty : (n : ℕ) (ns : List ℕ) → [] ≡ n ∷ ns → ⊥
not_empty n ns e = let l : 0 ≡ suc (length ns) = ap length e in omega (arith, l)

catches_none : (image : Image) (j : ℕ) (m : ModuleCode) (p : CodeProcedure) (s : SignalId) (n : ℕ)
    → position (fits_signal (links_of image j) s) (arms_of (slice_get p.phrases n)) ≡ None → Catches image j m p s n → ⊥
catches_none image j m p s n none c =
    none-some c.k (sym none ∙ ap (λ o. position (fits_signal (links_of image j) s) (arms_of o)) c.is_phrase ∙ c.first)

module _ (image : Image) (s : SignalId) (j n : ℕ) (m : ModuleCode) (p : CodeProcedure) (c : IsCode image j n m p) where
  comes_on : (k : ℕ) (numbers : List ℕ) → ((position : Position) → Comes image s j n position → asked true p.phrases position ≡ numbers → ComesTo image s j n p (first_place (fits_signal (links_of image j) s) p.phrases numbers))
      → Comes image s j n (Some k) → beyond true p.phrases k ≡ numbers
      → (o : Option ℕ) → position (fits_signal (links_of image j) s) (arms_of (slice_get p.phrases k)) ≡ o
      → ComesTo image s j n p (place_at k o (first_place (fits_signal (links_of image j) s) p.phrases numbers))
  comes_on k numbers next comes e None none =
      next (position_beyond p k) (passed j n k m p c comes (catches_none image j m p s k none)) (asks_all true p.phrases k (from_of (slice_get p.phrases k)) ∙ e)
  comes_on k numbers next comes e (Some arm) first = (comes, first)

  pub comes_to : (numbers : List ℕ) (position : Position) → Comes image s j n position → asked true p.phrases position ≡ numbers
      → ComesTo image s j n p (first_place (fits_signal (links_of image j) s) p.phrases numbers)
  unfolding first_place
  comes_to [] None comes e = comes
  comes_to [] (Some k) comes e = absurd (not_empty k (beyond true p.phrases k) (sym e))
  comes_to (x ∷ numbers) None comes e = absurd (not_empty x numbers e)
  comes_to (x ∷ numbers) (Some k) comes e =
      comes_on x numbers (λ position more g. comes_to numbers position more g) (subst (λ y. Comes image s j n (Some y)) (ap number_of e) comes)
      (subst (λ y. beyond true p.phrases y ≡ numbers) (ap number_of e) (ap rest_of e))
      (position (fits_signal (links_of image j) s) (arms_of (slice_get p.phrases x))) refl
