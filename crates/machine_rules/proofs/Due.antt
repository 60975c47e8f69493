-- Which UNWIND arm the search of a jump finds next, and that the arms that are due do not depend on words.
use Rattle.std.proofs.Common.{◌≡◌, ℕ, ◌+◌, List, [], ◌∷◌, ◌++◌, length, Option, Some, None, false, refl, sym, ap, subst, ◌∙◌, arith}
use Rattle.std.specs.Prelude.{slice_get, position}
use Rattle.std.proofs.lemmas.Option.{none-some, same_Some}
use Rattle.code_forms.specs.declared.module_code.Phrase.{Phrase}
use Rattle.object_files.specs.declared.image.Image.{Image}
use Rattle.signaller.specs.declared.place.Place.{Place}
use Rattle.signaller.specs.declared.search.Found.{Found}
use Rattle.signaller.specs.declared.search.Found.TheVariants.{Arm as FoundArm, Beyond}
use Rattle.signaller.specs.declared.search.Search.{Search}
use Rattle.signaller.specs.Search.{arms_of, arms_before, from_of, asked, beyond, first_place, place_at, numbered, search_from, fits_jump, unwind_next}
use Rattle.signaller.proofs.Surrounding.{asks_all, leaves_the_rest}
use Rattle.machine_rules.specs.State.{Target, ForRaise, ForJump, Role, Frame, InArm, Activation, Active, Activations}
use Rattle.machine_rules.specs.LookUps.{procedure_under, phrases_under}
use Rattle.machine_rules.specs.Activations.{owner, own_frame}
use Rattle.machine_rules.specs.Leaving.{left_to_ask}
use Rattle.machine_rules.specs.Unwinding.{with_first, unwind_arms, to_ask, to_ask_under, due}
use Rattle.machine_rules.proofs.Arming.{owner_bare}
use Rattle.machine_rules.proofs.Standing.{bare, bare_role, bares, bares_long}

-- The first of some phrases with an UNWIND arm, and the arms of those after it.

pub record First (table : List Phrase) (numbers : List ℕ) (place : Place) : Type 0 where
  pub before : List ℕ
  pub after : List ℕ
  pub parts : numbers ≡ before ++ place.phrase ∷ after
  pub arms : unwind_arms table numbers ≡ (arms_before table place.phrase + place.arm) ∷ unwind_arms table after

first_by : (table : List Phrase) (n : ℕ) (numbers : List ℕ) (x : Option ℕ) (place : Place) → position fits_jump (arms_of (slice_get table n)) ≡ x
    → (first_place fits_jump table numbers ≡ Some place → First table numbers place) → place_at n x (first_place fits_jump table numbers) ≡ Some place
    → First table (n ∷ numbers) place
unfolding unwind_arms
first_by table n numbers None place is next e =
    let r = next e in
    record { before = n ∷ r.before; after = r.after; parts = ap (λ l. n ∷ l) r.parts; arms = ap (λ o. with_first table n o (unwind_arms table numbers)) is ∙ r.arms }
first_by table n numbers (Some k) place is next e =
    subst (λ p. First table (n ∷ numbers) p) (same_Some (record { phrase = n; arm = k }) place e)
    (record { before = []; after = numbers; parts = refl; arms = ap (λ o. with_first table n o (unwind_arms table numbers)) is })

pub first_of : (table : List Phrase) (numbers : List ℕ) (place : Place) → first_place fits_jump table numbers ≡ Some place → First table numbers place
unfolding first_place
first_of table [] place e = absurd (none-some place e)
first_of table (n ∷ numbers) place e =
    first_by table n numbers (position fits_jump (arms_of (slice_get table n))) place refl (first_of table numbers place) e

none_by : (table : List Phrase) (n : ℕ) (numbers : List ℕ) (x : Option ℕ) → position fits_jump (arms_of (slice_get table n)) ≡ x
    → (first_place fits_jump table numbers ≡ None → unwind_arms table numbers ≡ []) → place_at n x (first_place fits_jump table numbers) ≡ None
    → unwind_arms table (n ∷ numbers) ≡ []
unfolding unwind_arms
none_by table n numbers None is next e = ap (λ o. with_first table n o (unwind_arms table numbers)) is ∙ next e
none_by table n numbers (Some k) is next e = absurd (none-some _ (sym e))

pub none_of : (table : List Phrase) (numbers : List ℕ) → first_place fits_jump table numbers ≡ None → unwind_arms table numbers ≡ []
unfolding first_place unwind_arms
none_of table [] e = refl
none_of table (n ∷ numbers) e = none_by table n numbers (position fits_jump (arms_of (slice_get table n))) refl (none_of table numbers) e

-- beyond a phrase that a search asks are those that it asks after it

abbrev rest_in : List ℕ → List ℕ
rest_in [] = []
rest_in (n ∷ numbers) = numbers

abbrev first_in : ℕ → List ℕ → ℕ
first_in d [] = d
first_in d (n ∷ numbers) = n

rest_at : (table : List Phrase) (n : ℕ) (before : List ℕ) (p : ℕ) (after : List ℕ) → n ∷ beyond false table n ≡ before ++ p ∷ after → after ≡ beyond false table p
rest_at table n [] p after e = ap rest_in (sym e) ∙ ap (λ k. beyond false table k) (ap (first_in n) e)
rest_at table n (k ∷ before) p after e = leaves_the_rest false table n (from_of (slice_get table n)) p before after (ap rest_in e)

nothing : (before : List ℕ) (p : ℕ) (after : List ℕ) → [] ≡ before ++ p ∷ after → ⊥
nothing [] p after e = let l = ap (λ (x : List ℕ). length x) e in omega (arith, l)
nothing (k ∷ before) p after e = let l = ap (λ (x : List ℕ). length x) e in omega (arith, l)

rest_of : (table : List Phrase) (o : Option ℕ) (before : List ℕ) (p : ℕ) (after : List ℕ) → asked false table o ≡ before ++ p ∷ after → after ≡ beyond false table p
rest_of table None before p after e = absurd (nothing before p after e)
rest_of table (Some n) before p after e = rest_at table n before p after e

-- What the search of a jump finds is the first of the arms that it asks for; the search beyond it asks for the others.

pub data NextOf (table : List Phrase) (arms : List ℕ) : Found → Type 0 where
  no_arm : arms ≡ [] → NextOf table arms Beyond
  an_arm : (n : ℕ) (after : Search) → arms ≡ n ∷ unwind_arms table (asked false table after.phrase) → NextOf table arms (FoundArm n after)

next_by : (table : List Phrase) (search : Search) (o : Option Place) → first_place fits_jump table (asked false table search.phrase) ≡ o
    → NextOf table (unwind_arms table (asked false table search.phrase)) (numbered false table o)
next_by table search None e = no_arm (none_of table (asked false table search.phrase) e)
next_by table search (Some place) e =
    let f = first_of table (asked false table search.phrase) place e in
    let rest = rest_of table search.phrase f.before place.phrase f.after f.parts in
    an_arm (arms_before table place.phrase + place.arm) (search_from (beyond false table place.phrase))
    (f.arms ∙ ap (λ l. (arms_before table place.phrase + place.arm) ∷ unwind_arms table l)
    (rest ∙ sym (asks_all false table place.phrase (from_of (slice_get table place.phrase)))))

pub next_of : (table : List Phrase) (search : Search) → NextOf table (unwind_arms table (asked false table search.phrase)) (unwind_next table search)
next_of table search = next_by table search (first_place fits_jump table (asked false table search.phrase)) refl

-- What is asked of an activation that a jump comes to.

pub asks_left : (image : Image) (role : Role (List ℕ)) (b : Active) → asked false (phrases_under image b) (left_to_ask image role b).phrase ≡ to_ask image role b
unfolding left_to_ask to_ask
asks_left image (Frame variables) b = asks_all false (phrases_under image b) (length (phrases_under image b)) b.offset
asks_left image (InArm own n (ForRaise signal args beyond)) b = asks_all false (phrases_under image b) (length (phrases_under image b)) b.offset
asks_left image (InArm own n (ForJump target beyond)) b = refl

-- Without words.

ask_bare : (image : Image) (role : Role (List ℕ)) (b : Active) → to_ask image (bare_role role) (bare b) ≡ to_ask image role b
unfolding to_ask phrases_under procedure_under
ask_bare image (Frame variables) b = refl
ask_bare image (InArm own n (ForRaise signal args beyond)) b = refl
ask_bare image (InArm own n (ForJump target beyond)) b = refl

under_bare : (image : Image) (role : Role (List ℕ)) (S : Activations) → to_ask_under image (bare_role role) (bares S) ≡ to_ask_under image role S
unfolding to_ask_under
under_bare image role [] = refl
under_bare image role (b ∷ S) = ask_bare image role b

phrases_bare : (image : Image) (a : Active) → phrases_under image (bare a) ≡ phrases_under image a
unfolding phrases_under procedure_under
phrases_bare image a = refl

frame_bare : (a : Active) (S : Activations) → own_frame (bare a) (bares S) ≡ own_frame a S
unfolding own_frame
frame_bare a S = owner_bare a.role (length (bares S)) ∙ ap (λ n. owner a.role n) (bares_long S)

pub due_bare : (image : Image) (t : Target) (numbers : List ℕ) (S : Activations) → due image t numbers (bares S) ≡ due image t numbers S
unfolding due
due_bare image t numbers [] = refl
due_bare image t numbers (a ∷ S) =
    rw (bares_long S, frame_bare a S, phrases_bare image a, under_bare image a.role S, due_bare image t (to_ask_under image a.role S) S) refl

-- the phrases that a search asks of the topmost activation
unfoldable pub asks_top : {X : Type 0} → Image → Search → List (Activation X) → List ℕ
asks_top image search [] = []
asks_top image search (b ∷ S) = asked false (phrases_under image b) search.phrase

pub top_bare : (image : Image) (search : Search) (S : Activations) → asks_top image search (bares S) ≡ asks_top image search S
unfolding asks_top
top_bare image search [] = refl
top_bare image search (b ∷ S) = ap (λ table. asked false table search.phrase) (phrases_bare image b)
