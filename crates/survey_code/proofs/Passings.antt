-- One ending more, and one phrase more.
use Rattle.std.proofs.Common.{◌≡◌, ⊎_elim, ℕ, ◌+◌, ◌<◌, ◌≤◌, List, [], ◌∷◌, ◌++◌, length, get_or, Bool, Option, Some, None, sym, ap, subst, ◌∙◌, arith}
use Rattle.std.specs.Prelude.{slice_get}
use Rattle.std.proofs.lemmas.Bool.{cases_lt}
use Rattle.std.proofs.lemmas.List.{get_or_append_left, length-append}
use Rattle.std.proofs.lemmas.Option.{none-some, same_Some, slice_get_within, slice_get-get_or, get_or_from_slice_get}
use Rattle.std.proofs.Math.Seq.{get_or-append_seam}
use Rattle.code_forms.specs.declared.module_code.Arm.{Arm}
use Rattle.code_forms.specs.declared.module_code.CodeProcedure.{CodeProcedure}
use Rattle.code_forms.specs.declared.module_code.ModuleCode.{ModuleCode}
use Rattle.code_forms.specs.declared.module_code.Phrase.{Phrase}
use Rattle.survey_code.specs.declared.surveyed.Ending.{Ending}
use Rattle.survey_code.specs.declared.surveyed.Passing.{Passing}
use Rattle.survey_code.specs.Around.{AreBeyond}
use Rattle.survey_code.specs.Endings.{TellReached}
use Rattle.survey_code.specs.Passings.{EachWith, AreEndings}
use Rattle.survey_code.specs.Sites.{IsEnding, IsPassing}

pushed : {B : Type 0} (ys : List B) (y z : B) (k : ℕ) → slice_get (ys ++ y ∷ []) k ≡ Some z → k < length ys → slice_get ys k ≡ Some z
pushed ys y z k is l =
    let read : get_or ys k z ≡ z = sym (get_or_append_left ys (y ∷ []) z k l) ∙ get_or_from_slice_get (ys ++ y ∷ []) k z z is in
    slice_get-get_or ys k z l ∙ ap Some read

pushed_last : {B : Type 0} (ys : List B) (y z : B) (k : ℕ) → slice_get (ys ++ y ∷ []) k ≡ Some z → k ≡ length ys → y ≡ z
pushed_last ys y z k is e = sym (get_or-append_seam ys y [] z) ∙ ap (λ i. get_or (ys ++ y ∷ []) i z) (sym e) ∙ get_or_from_slice_get (ys ++ y ∷ []) k z z is

pub one_more : {A B : Type 0} (P : ℕ → A → B → Type 0) (xs : List A) (ys ys' : List B) (x : A) (y : B) (n : ℕ) → length ys ≡ n → slice_get xs n ≡ Some x → EachWith P xs ys → P n x y
    → ys' ≡ ys ++ y ∷ [] → EachWith P xs ys'
one_more {A} {B} P xs ys ys' x y n long is all here more k a b at there =
    let there' : slice_get (ys ++ y ∷ []) k ≡ Some b = ap (λ (l : List B). slice_get l k) (sym more) ∙ there in
    ⊎_elim
    (λ (less : k < length ys). all k a b at (pushed ys y b k there' less))
    (λ (most : length ys ≤ k).
    let within = slice_get_within (ys ++ y ∷ []) k b there' in
    let count = length-append ys (y ∷ []) in
    let last : k ≡ length ys = omega (arith, within, count, most) in
    let same_x : x ≡ a = same_Some x a (sym is ∙ ap (λ i. slice_get xs i) (sym (last ∙ long)) ∙ at) in
    subst (λ i. P i a b) (sym (last ∙ long)) (subst (λ u. P n u b) same_x (subst (λ v. P n x v) (pushed_last ys y b k there' last) here)))
    (cases_lt k (length ys))

pub none_with : {A B : Type 0} (P : ℕ → A → B → Type 0) (xs : List A) (ys : List B) → ys ≡ [] → EachWith P xs ys
none_with {A} {B} P xs ys e k x y is there = absurd (none-some y (ap (λ (l : List B). slice_get l k) (sym e) ∙ there))

pub one_ending : (p : CodeProcedure) (marks : List Bool) (arms : List Arm) (endings endings' : List Ending) (arm : Arm) (ending : Ending) (n : ℕ) → length endings ≡ n → n < length arms
    → arm ≡ get_or arms n arm → ((m : ModuleCode) → TellReached m p marks → EachWith (λ k a e. IsEnding m p a e) arms endings)
    → ((m : ModuleCode) → TellReached m p marks → IsEnding m p arm ending) → endings' ≡ endings ++ ending ∷ []
    → (length endings' ≡ n + 1) × ((m : ModuleCode) → TellReached m p marks → EachWith (λ k a e. IsEnding m p a e) arms endings')
one_ending p marks arms endings endings' arm ending n long l read all here more =
    let count = ap length more ∙ length-append endings (ending ∷ []) in (
      omega (arith, long, count),
      λ m tell. one_more (λ k a e. IsEnding m p a e) arms endings endings' arm ending n long (slice_get-get_or arms n arm l ∙ ap Some (sym read)) (all m tell) (here m tell) more,
    )

pub one_passing : (p : CodeProcedure) (marks : List Bool) (beyonds : List (Option ℕ)) (passings passings' : List Passing) (phrase : Phrase) (arms : List Arm) (passing : Passing) (n : ℕ)
    → length passings ≡ n → n < length p.phrases → slice_get p.phrases n ≡ Some phrase → arms ≡ phrase.arms → length beyonds ≡ length p.phrases → AreBeyond p.phrases beyonds
    → passing.beyond ≡ get_or beyonds n None → AreEndings p marks arms passing.endings
    → ((m : ModuleCode) → TellReached m p marks → EachWith (λ k x y. IsPassing m p k x y) p.phrases passings) → passings' ≡ passings ++ passing ∷ []
    → (length passings' ≡ n + 1) × ((m : ModuleCode) → TellReached m p marks → EachWith (λ k x y. IsPassing m p k x y) p.phrases passings')
one_passing p marks beyonds passings passings' phrase arms passing n long l is same many are beyond_is endings all more =
    let count = ap length more ∙ length-append passings (passing ∷ []) in (
      omega (arith, long, count),
      λ m tell. one_more (λ k x y. IsPassing m p k x y) p.phrases passings passings' phrase passing n long is (all m tell) (record {
        beyond = beyond_is ∙ are n (omega (arith, l, many));
        count = endings.0 ∙ ap length same;
        endings = λ k arm ending at there. endings.1 m tell k arm ending (ap (λ (xs : List Arm). slice_get xs k) same ∙ at) there;
      }) more,
    )
