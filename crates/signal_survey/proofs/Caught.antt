-- A phrase stops a signal where what is taken of its procedure says so.
use Rattle.std.proofs.Common.{◌≡◌, ℕ, zero, suc, ◌<◌, List, [], ◌∷◌, length, Bool, false, Option, None, Some, refl, sym, ap, subst, ◌∙◌, arith}
use Rattle.std.specs.Prelude.{◌↔◌, IsTrue, slice_get, position, unwrap_or}
use Rattle.std.proofs.lemmas.Bool.{false≢true}
use Rattle.std.proofs.lemmas.Option.{none-some, same_Some, slice_get_within}
use Rattle.code_forms.specs.declared.module_code.Arm.{Arm}
use Rattle.code_forms.specs.declared.module_code.CodeLink.{CodeLink}
use Rattle.code_forms.specs.declared.module_code.CodeProcedure.{CodeProcedure}
use Rattle.code_forms.specs.declared.module_code.ModuleCode.{ModuleCode}
use Rattle.code_forms.specs.declared.module_code.Phrase.{Phrase}
use Rattle.object_files.specs.declared.image.Image.{Image}
use Rattle.object_files.specs.declared.image.Link.{Link}
use Rattle.signaller.specs.declared.search.Links.{Links}
use Rattle.signaller.specs.declared.signal_id.SignalId.{SignalId}
use Rattle.signaller.specs.Search.{fits_signal}
use Rattle.machine_rules.specs.LookUps.{code_of, links_in, links_of}
use Rattle.survey_rules.specs.Escapes.{Catches}
use Rattle.survey_code.specs.declared.surveyed.Ending.{Ending}
use Rattle.survey_code.specs.declared.surveyed.Passing.{Passing}
use Rattle.survey_code.specs.Laws.{StopsByEnding}
use Rattle.survey_code.specs.Sites.{IsPassing, StopsBy}
use Rattle.signal_survey.specs.Catching.{CatchesBy}
use Rattle.signal_survey.specs.Reading.{reads}

pub links_are : (image : Image) (j : ℕ) (m : ModuleCode) (table : List Link) → code_of image j ≡ Some m → table ≡ unwrap_or (slice_get image.links j) []
    → reads j m.links table ≡ links_of image j
unfolding links_of links_in
links_are image j m table is bound =
    ap (λ t. reads j m.links t) bound ∙ ap (λ o. reads j (links_in o) (unwrap_or (slice_get image.links j) [])) (sym is)

pub first_is : (image : Image) (j : ℕ) (m : ModuleCode) (table : List Link) (links : List CodeLink) (s : SignalId) (arms : List Arm) (o : Option ℕ) → code_of image j ≡ Some m
    → table ≡ unwrap_or (slice_get image.links j) [] → links ≡ m.links → o ≡ position (fits_signal (reads j links table) s) arms
    → o ≡ position (fits_signal (links_of image j) s) arms
first_is image j m table links s arms o is bound same e =
    e ∙ ap (λ l. position (fits_signal (reads j l table) s) arms) same ∙ ap (λ (l : Links). position (fits_signal l s) arms) (links_are image j m table is bound)

-- no arm fits
pub caught_by_none : (image : Image) (j : ℕ) (phrase : Phrase) (passing : Passing) (s : SignalId) (arms : List Arm) (o : Option ℕ) → arms ≡ phrase.arms
    → o ≡ position (fits_signal (links_of image j) s) arms → o ≡ None → IsTrue false ↔ CatchesBy image j phrase passing s
caught_by_none image j phrase passing s arms o same e none =
    (λ t. absurd (false≢true t), λ c. absurd (none-some c.k (sym none ∙ e ∙ ap (λ a. position (fits_signal (links_of image j) s) a) same ∙ c.first)))

pub caught_without : (image : Image) (j : ℕ) (phrase : Phrase) (passing : Passing) (s : SignalId) (arms : List Arm) (o : Option ℕ) (k : ℕ) → arms ≡ phrase.arms
    → o ≡ position (fits_signal (links_of image j) s) arms → o ≡ Some k → slice_get passing.endings k ≡ None → IsTrue false ↔ CatchesBy image j phrase passing s
caught_without image j phrase passing s arms o k same e some none = (
  λ t. absurd (false≢true t),
  λ c.
      (let is : k ≡ c.k = same_Some k c.k (sym some ∙ e ∙ ap (λ a. position (fits_signal (links_of image j) s) a) same ∙ c.first) in
      absurd (none-some c.ending (sym none ∙ ap (λ n. slice_get passing.endings n) is ∙ c.is_ending))),
)

pub caught_by_arm : (image : Image) (j : ℕ) (phrase : Phrase) (passing : Passing) (s : SignalId) (arms : List Arm) (o : Option ℕ) (k : ℕ) (ending : Ending) (b : Bool)
    → arms ≡ phrase.arms → o ≡ position (fits_signal (links_of image j) s) arms → o ≡ Some k → slice_get passing.endings k ≡ Some ending → IsTrue b ↔ StopsBy image s ending
    → IsTrue b ↔ CatchesBy image j phrase passing s
caught_by_arm image j phrase passing s arms o k ending b same e some is says =
    let first : position (fits_signal (links_of image j) s) phrase.arms ≡ Some k = sym (ap (λ a. position (fits_signal (links_of image j) s) a) same) ∙ sym e ∙ some in (
      λ t. record { k = k; first = first; ending = ending; is_ending = is; stops = says.0 t },
      λ c.
          (let number : k ≡ c.k = same_Some k c.k (sym first ∙ c.first) in
          let ends : c.ending ≡ ending = same_Some c.ending ending (sym c.is_ending ∙ sym (ap (λ n. slice_get passing.endings n) number) ∙ is) in
          says.1 (subst (λ x. StopsBy image s x) ends c.stops)),
    )

-- ---- that is what stops it

record There {X : Type 0} (xs : List X) (k : ℕ) : Type 0 where
  x : X
  is : slice_get xs k ≡ Some x

there : {X : Type 0} (xs : List X) (k : ℕ) → k < length xs → There xs k
there [] k h = absurd (omega arith)
there (x ∷ xs) zero h = record { x = x; is = refl }
there (x ∷ xs) (suc k) h = let t = there xs k (omega arith) in record { x = t.x; is = t.is }

pub caught : StopsByEnding → (image : Image) (j : ℕ) (m : ModuleCode) (p : CodeProcedure) (n : ℕ) (phrase : Phrase) (passing : Passing) (s : SignalId)
    → slice_get p.phrases n ≡ Some phrase → IsPassing m p n phrase passing → CatchesBy image j phrase passing s → Catches image j m p s n
caught law image j m p n phrase passing s is passes c =
    let within = slice_get_within passing.endings c.k c.ending c.is_ending in
    let count = passes.count in
    let arm = there phrase.arms c.k (omega (arith, within, count)) in
    record {
      phrase = phrase;
      is_phrase = is;
      k = c.k;
      first = c.first;
      arm = arm.x;
      is_arm = arm.is;
      stops = (law image m p s arm.x c.ending (passes.endings c.k arm.x c.ending arm.is c.is_ending)).1 c.stops;
    }

pub caught_by : StopsByEnding → (image : Image) (j : ℕ) (m : ModuleCode) (p : CodeProcedure) (n : ℕ) (phrase : Phrase) (passing : Passing) (s : SignalId)
    → slice_get p.phrases n ≡ Some phrase → IsPassing m p n phrase passing → Catches image j m p s n → CatchesBy image j phrase passing s
caught_by law image j m p n phrase passing s is passes c =
    let same : c.phrase ≡ phrase = same_Some c.phrase phrase (sym c.is_phrase ∙ is) in
    let is_arm : slice_get phrase.arms c.k ≡ Some c.arm = subst (λ (x : Phrase). slice_get x.arms c.k ≡ Some c.arm) same c.is_arm in
    let within = slice_get_within phrase.arms c.k c.arm is_arm in
    let count = passes.count in
    let ending = there passing.endings c.k (omega (arith, within, count)) in
    record {
      k = c.k;
      first = subst (λ (x : Phrase). position (fits_signal (links_of image j) s) x.arms ≡ Some c.k) same c.first;
      ending = ending.x;
      is_ending = ending.is;
      stops = (law image m p s c.arm ending.x (passes.endings c.k c.arm ending.x is_arm ending.is)).0 c.stops;
    }
