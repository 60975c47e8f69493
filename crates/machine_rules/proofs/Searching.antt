-- What a search asks is code that is running.
use Rattle.std.proofs.Common.{◌≡◌, ℕ, zero, suc, ◌+◌, ◌<◌, List, [], ◌∷◌, ◌++◌, length, Bool, true, false, Option, Some, None, refl, sym, ap, subst, ◌∙◌, arith}
use Rattle.std.specs.Prelude.{slice_get, if◌then◌else◌, ◌&&◌, MatchOption, position, All}
use Rattle.std.specs.List.{list_any}
use Rattle.std.proofs.lemmas.Bool.{false≢true, and_parts}
use Rattle.std.proofs.lemmas.List.Quantifiers.{position-Some}
use Rattle.std.proofs.lemmas.Option.{none-some, same_Some, slice_get_within}
use Rattle.code_forms.specs.declared.module_code.Arm.{Arm}
use Rattle.code_forms.specs.declared.module_code.CodeProcedure.{CodeProcedure}
use Rattle.code_forms.specs.declared.module_code.Phrase.{Phrase}
use Rattle.code_forms.specs.declared.region.Region.{Region}
use Rattle.code_forms.specs.declared.region.Region.TheVariants.{ArmOf}
use Rattle.code_forms.specs.Regions.{region_at}
use Rattle.code_forms.specs.Routine.{spots}
use Rattle.code_forms.specs.Phrases.{PhrasesFill}
use Rattle.signaller.specs.declared.place.Place.{Place}
use Rattle.signaller.specs.declared.search.Found.{Found}
use Rattle.signaller.specs.declared.search.Found.TheVariants.{Arm as FoundArm, Beyond}
use Rattle.signaller.specs.declared.search.Search.{Search}
use Rattle.signaller.specs.Search.{covers, has, arms_of, from_of, around_at, around, beyond, asked, search_from, search_at, first_place, numbered, next, arms_before}
use Rattle.signaller.specs.Sought.{IsPlace}
use Rattle.signaller.specs.Laws.{IsFirstPlace}
use Rattle.signaller.proofs.Surrounding.{stays_inside, asks_all, leaves_the_rest, read_phrase}
use Rattle.signaller.proofs.Firsts.{finds_first}
use Rattle.signaller.proofs.Inside.{ArmAt, arm_at}
use Rattle.machine_rules.proofs.Standing.{Bare, Running, AllRun, all_after, Searches}

-- of a running arm the code that holds its phrase is running
abbrev pub Holders : CodeProcedure → List Bare → ℕ → Type 0
Holders p B own = (region : Region) → Running p B own region → (q k : ℕ) → region ≡ ArmOf q k → (ph : Phrase) → slice_get p.phrases q ≡ Some ph
    → Running p B own (region_at p.phrases ph.from)

around_if : (p : CodeProcedure) → PhrasesFill (spots p.code) p.phrases → (B : List Bare) (own : ℕ) → Holders p B own → (outward : Bool) (n : ℕ) (offset : ℕ)
    → ((o : ℕ) → Running p B own (region_at p.phrases o) → AllRun p B own (around outward p.phrases n o))
    → Running p B own (region_at p.phrases offset) → (ph : Phrase) → slice_get p.phrases n ≡ Some ph
    → (b : Bool) → covers ph offset ≡ b → (c : Bool) → (outward && list_any (λ a. has a offset) ph.arms) ≡ c
    → AllRun p B own (if b then n ∷ around outward p.phrases n ph.from else around outward p.phrases n (if c then ph.from else offset))
around_if p f B own h outward n offset ih run ph is true e c d =
    let from : Running p B own (region_at p.phrases ph.from) =
    subst (λ r. Running p B own r) (sym (stays_inside (spots p.code) p.phrases f n ph offset is e)) run in
    (λ ph' is'. subst (λ (x : Phrase). Running p B own (region_at p.phrases x.from)) (same_Some ph ph' (sym is ∙ is')) from, ih ph.from from)
around_if p f B own h outward n offset ih run ph is false e true d =
    let any = (and_parts outward (list_any (λ a. has a offset) ph.arms) d).1 in
    let l = slice_get_within p.phrases n ph is in
    let in' : ArmAt p.phrases offset n = arm_at (spots p.code) p.phrases n offset f l
    (subst (λ (x : Phrase). list_any (λ a. has a offset) x.arms ≡ true) (sym (read_phrase p.phrases n ph is)) any) in
    ih ph.from (h (region_at p.phrases offset) run n in'.k in'.is ph is)
around_if p f B own h outward n offset ih run ph is false e false d = ih offset run

around_of : (p : CodeProcedure) → PhrasesFill (spots p.code) p.phrases → (B : List Bare) (own : ℕ) → Holders p B own → (outward : Bool) (n : ℕ) (offset : ℕ)
    → ((o : ℕ) → Running p B own (region_at p.phrases o) → AllRun p B own (around outward p.phrases n o))
    → Running p B own (region_at p.phrases offset) → (o : Option Phrase) → slice_get p.phrases n ≡ o
    → AllRun p B own (around_at outward n offset (around outward p.phrases n) o)
unfolding around_at
around_of p f B own h outward n offset ih run None is = ih offset run
around_of p f B own h outward n offset ih run (Some ph) is =
    around_if p f B own h outward n offset ih run ph is (covers ph offset) refl (outward && list_any (λ a. has a offset) ph.arms) refl

pub around_runs : (p : CodeProcedure) → PhrasesFill (spots p.code) p.phrases → (B : List Bare) (own : ℕ) → Holders p B own → (outward : Bool) (n : ℕ) (offset : ℕ)
    → Running p B own (region_at p.phrases offset) → AllRun p B own (around outward p.phrases n offset)
unfolding around
around_runs p f B own h outward zero offset run = tt
around_runs p f B own h outward (suc n) offset run =
    around_of p f B own h outward n offset (λ o r. around_runs p f B own h outward n o r) run (slice_get p.phrases n) refl

-- a search from an offset on
pub search_runs : (p : CodeProcedure) → PhrasesFill (spots p.code) p.phrases → (B : List Bare) (own : ℕ) → Holders p B own → (outward : Bool) (offset : ℕ)
    → Running p B own (region_at p.phrases offset) → Searches outward p B own (search_at outward p.phrases offset)
search_runs p f B own h outward offset run =
    subst (λ numbers. AllRun p B own numbers) (sym (asks_all outward p.phrases (length p.phrases) offset)) (around_runs p f B own h outward (length p.phrases) offset run)

-- what is found
pub record IsFound (outward : Bool) (table : List Phrase) (search : Search) (n : ℕ) (after : Search) : Type 0 where
  pub place : Place
  pub is : IsPlace table place
  pub number : n ≡ arms_before table place.phrase + place.arm
  pub rest : after ≡ search_from (beyond outward table place.phrase)
  pub before : List ℕ
  pub behind : List ℕ
  pub parts : asked outward table search.phrase ≡ before ++ place.phrase ∷ behind

abbrev is_arm : Found → Bool
is_arm Beyond = false
is_arm (FoundArm n after) = true

abbrev arm_of : Found → ℕ
arm_of Beyond = 0
arm_of (FoundArm n after) = n

abbrev after_of : Search → Found → Search
after_of d Beyond = d
after_of d (FoundArm n after) = after

position_within : {X : Type 0} (test : X → Bool) (xs : List X) (k : ℕ) → position test xs ≡ Some k → k < length xs
position_within test [] k e = absurd (none-some k e)
position_within test (x ∷ xs) k e = (position-Some test (x ∷ xs) k x e).0

place_there : (table : List Phrase) (fits : Arm → Bool) (place : Place) (o : Option Phrase) → slice_get table place.phrase ≡ o → position fits (arms_of o) ≡ Some place.arm → IsPlace table place
place_there table fits place None is e = absurd (none-some place.arm e)
place_there table fits place (Some ph) is e = record { phrase = ph; is = is; arm = position_within fits ph.arms place.arm e }

found_of : (outward : Bool) (fits : Arm → Bool) (table : List Phrase) (search : Search) (n : ℕ) (after : Search) (o : Option Place)
    → first_place fits table (asked outward table search.phrase) ≡ o → numbered outward table o ≡ FoundArm n after → IsFound outward table search n after
found_of outward fits table search n after None is e = absurd (false≢true (ap is_arm e))
found_of outward fits table search n after (Some place) is e =
    let first : IsFirstPlace fits table (asked outward table search.phrase) place =
    subst (λ o. MatchOption o (All (λ k. position fits (arms_of (slice_get table k)) ≡ None) (asked outward table search.phrase)) (IsFirstPlace fits table (asked outward table search.phrase))) is (finds_first fits table (asked outward table search.phrase)) in
    record {
      place = place;
      is = place_there table fits place (slice_get table place.phrase) refl first.arm;
      number = sym (ap arm_of e);
      rest = sym (ap (after_of after) e);
      before = first.before;
      behind = first.after;
      parts = first.parts;
    }

pub found_arm : (outward : Bool) (fits : Arm → Bool) (table : List Phrase) (search : Search) (n : ℕ) (after : Search)
    → next outward fits table search ≡ FoundArm n after → IsFound outward table search n after
found_arm outward fits table search n after e =
    found_of outward fits table search n after (first_place fits table (asked outward table search.phrase)) refl e

no_part : (before : List ℕ) (n : ℕ) (after : List ℕ) → [] ≡ before ++ n ∷ after → ⊥
no_part [] n after e = let l : 0 ≡ suc (length after) = ap length e in omega (arith, l)
no_part (x ∷ before) n after e = let l : 0 ≡ suc (length (before ++ n ∷ after)) = ap length e in omega (arith, l)

abbrev head : List ℕ → ℕ
head [] = 0
head (x ∷ xs) = x

abbrev tail : List ℕ → List ℕ
tail [] = []
tail (x ∷ xs) = xs

-- beyond a phrase that is asked are those that are asked after it
rest_of : (outward : Bool) (table : List Phrase) (o : Option ℕ) (before : List ℕ) (n : ℕ) (after : List ℕ) → asked outward table o ≡ before ++ n ∷ after
    → after ≡ beyond outward table n
rest_of outward table None before n after e = absurd (no_part before n after e)
rest_of outward table (Some k) [] n after e = sym (ap tail e) ∙ ap (λ (j : ℕ). beyond outward table j) (ap head e)
rest_of outward table (Some k) (x ∷ before) n after e = leaves_the_rest outward table k (from_of (slice_get table k)) n before after (ap tail e)

pub rest_runs : (outward : Bool) (p : CodeProcedure) (B : List Bare) (own : ℕ) (search : Search) (n : ℕ) (after : Search)
    → IsFound outward p.phrases search n after → Searches outward p B own search → Searches outward p B own after
rest_runs outward p B own search n after f s =
    let k = f.place.phrase in
    let all = all_after p B own f.before k f.behind (subst (λ numbers. AllRun p B own numbers) f.parts s) in
    let rest = rest_of outward p.phrases search.phrase f.before k f.behind f.parts in
    subst (λ (x : Search). Searches outward p B own x) (sym f.rest)
    (subst (λ numbers. AllRun p B own numbers) (rest ∙ sym (asks_all outward p.phrases k (from_of (slice_get p.phrases k)))) all.1)
