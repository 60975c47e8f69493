-- Which place follows a phrase.
use Rattle.std.proofs.Common.{◌≡◌, ℕ, ◌+◌, ◌<◌, List, length, get_or, Bool, true, false, None, Some, refl, sym, ap, subst, ◌∙◌, arith}
use Rattle.std.specs.Prelude.{◌↔◌, IsTrue, slice_get, option_and_then}
use Rattle.std.proofs.lemmas.Bool.{false≢true}
use Rattle.std.proofs.lemmas.Option.{none-some, same_Some, slice_get-get_or}
use Rattle.code_forms.specs.declared.module_code.CodeProcedure.{CodeProcedure}
use Rattle.code_forms.specs.declared.module_code.ModuleCode.{ModuleCode}
use Rattle.code_forms.specs.declared.module_code.Phrase.{Phrase}
use Rattle.object_files.specs.declared.image.Image.{Image}
use Rattle.signaller.specs.declared.signal_id.SignalId.{SignalId}
use Rattle.machine_rules.specs.LookUps.{code_of, procedure_of}
use Rattle.survey_rules.specs.Escapes.{IsCode, Catches, position_beyond}
use Rattle.survey_rules.proofs.Codes.{procedure_there, one_code}
use Rattle.survey_code.specs.declared.surveyed.Passing.{Passing}
use Rattle.survey_code.specs.declared.surveyed.Surveyed.{Surveyed}
use Rattle.survey_code.specs.Laws.{StopsByEnding}
use Rattle.survey_code.specs.Sites.{IsPassing, IsSurveyed}
use Rattle.place_walks.specs.declared.place.Place.{Place}
use Rattle.place_walks.specs.Walks.{slot_of}
use Rattle.signal_survey.specs.Catching.{CatchesBy}
use Rattle.signal_survey.specs.Follows.{CallsOut, Follows, out, past, IsPlace, place_at}
use Rattle.signal_survey.specs.Graph.{AreSurveyed, IsNext, surveyed_of}
use Rattle.signal_survey.proofs.Caught.{caught, caught_by}

-- an element that was read
pub read_at : {X : Type 0} (xs ys : List X) (k : ℕ) (x : X) → ys ≡ xs → k < length xs → x ≡ get_or ys k x → slice_get xs k ≡ Some x
read_at xs ys k x same h e = slice_get-get_or xs k x h ∙ ap Some (sym (e ∙ ap (λ l. get_or l k x) same))

-- from a phrase
pub record PastAt (image : Image) (s : SignalId) (x : Place) (k : ℕ) (y : Place) : Type 0 where
  pub m : ModuleCode
  pub p : CodeProcedure
  pub code : IsCode image x.instance x.procedure m p
  pub lets : Catches image x.instance m p s k → ⊥
  pub is : y ≡ place_at x.instance x.procedure (position_beyond p k)

pub follows_phrase : (image : Image) (s : SignalId) (x y : Place) → Follows image s x y → (k : ℕ) → x.position ≡ Some k → PastAt image s x k y
follows_phrase image s _ _ (out other q y o) k e = absurd (none-some k e)
follows_phrase image s _ _ (past j n h m p c lets) k e =
    let same : h ≡ k = same_Some h k e in
    record {
      m = m;
      p = p;
      code = c;
      lets = subst (λ i. Catches image j m p s i → ⊥) same lets;
      is = ap (λ i. place_at j n (position_beyond p i)) same;
    }

-- from out of a procedure
pub follows_out : (image : Image) (s : SignalId) (x y : Place) → Follows image s x y → x.position ≡ None → CallsOut image x.instance x.procedure y
follows_out image s _ _ (out other q y o) e = o
follows_out image s _ _ (past j n h m p c lets) e = absurd (none-some h (sym e))

pub comes_out : (image : Image) (s : SignalId) (x y : Place) → x.position ≡ None → CallsOut image x.instance x.procedure y → Follows image s x y
comes_out image s x y e o = subst (λ a. Follows image s (place_at x.instance x.procedure a) y) (sym e) (out x.instance x.procedure y o)

module _ (law : StopsByEnding) (image : Image) (s : SignalId) (x : Place) (k : ℕ) (m : ModuleCode) (p : CodeProcedure) (it : Surveyed) (phrase : Phrase) (passing : Passing) (b : Bool)
    (code : IsCode image x.instance x.procedure m p) (surveyed : IsSurveyed m p it) (at : x.position ≡ Some k) (is : slice_get p.phrases k ≡ Some phrase)
    (passes : slice_get it.passings k ≡ Some passing) (says : IsTrue b ↔ CatchesBy image x.instance phrase passing s) where
  its : IsPassing m p k phrase passing
  its = surveyed.passings k phrase passing is passes

  pub no_next : b ≡ true → IsNext image s x None
  no_next stopped = record {
    sound = λ y e. absurd (none-some y e);
    whole = λ y f.
        (let q = follows_phrase image s x y f k at in
        let c : Catches image x.instance m p s k = caught law image x.instance m p k phrase passing s is its (says.0 stopped) in
        absurd (q.lets (one_code (λ m' p'. Catches image x.instance m' p' s k) image x.instance x.procedure m q.m p q.p code q.code c)));
  }

  goes_past : b ≡ false → (y : Place) → y ≡ place_at x.instance x.procedure passing.beyond → Follows image s x y
  goes_past lets_past y e =
      let lets : Catches image x.instance m p s k → ⊥ =
      λ c. false≢true (sym lets_past ∙ says.1 (caught_by law image x.instance m p k phrase passing s is its c)) in
      let step : Follows image s (place_at x.instance x.procedure (Some k)) (place_at x.instance x.procedure (position_beyond p k)) = past x.instance x.procedure k m p code lets in
      let from : Follows image s x (place_at x.instance x.procedure (position_beyond p k)) =
      subst (λ a. Follows image s (place_at x.instance x.procedure a) (place_at x.instance x.procedure (position_beyond p k))) (sym at) step in
      subst (λ z. Follows image s x z) (sym (e ∙ ap (λ a. place_at x.instance x.procedure a) its.beyond)) from

  pub one_next : b ≡ false → (z : Place) → z ≡ place_at x.instance x.procedure passing.beyond → IsNext image s x (Some z)
  one_next lets_past z e = record {
    sound = λ y same. goes_past lets_past y (sym (same_Some z y same) ∙ e);
    whole = λ y f.
        (let q = follows_phrase image s x y f k at in
        let beyond : position_beyond p k ≡ position_beyond q.p k = one_code (λ m' p'. position_beyond p k ≡ position_beyond p' k) image x.instance x.procedure m q.m p q.p code q.code refl in
        ap Some (e ∙ ap (λ a. place_at x.instance x.procedure a) (its.beyond ∙ beyond) ∙ sym q.is));
  }

-- ---- what is found for a place

pub no_code : (image : Image) (x : Place) → IsPlace image x → code_of image x.instance ≡ None → ⊥
no_code image x at none = none-some at.m (sym none ∙ at.code.is_module)

pub no_procedure : (image : Image) (x : Place) (m : ModuleCode) → IsPlace image x → code_of image x.instance ≡ Some m → slice_get m.procedures x.procedure ≡ None → ⊥
no_procedure image x m at is none =
    let same : at.m ≡ m = same_Some at.m m (sym at.code.is_module ∙ is) in
    none-some at.p (sym none ∙ subst (λ (c : ModuleCode). slice_get c.procedures x.procedure ≡ Some at.p) same (procedure_there image x.instance x.procedure at.m at.p at.code))

pub code_found : (image : Image) (j n : ℕ) (m : ModuleCode) (p : CodeProcedure) → code_of image j ≡ Some m → slice_get m.procedures n ≡ Some p → IsCode image j n m p
unfolding procedure_of
code_found image j n m p is there = record { is_module = is; is_procedure = ap (λ o. option_and_then (λ (c : ModuleCode). slice_get c.procedures n) o) is ∙ there }

pub no_survey : (image : Image) (surveys : List (List Surveyed)) (x : Place) → AreSurveyed image surveys → IsPlace image x → surveyed_of image surveys x.instance x.procedure ≡ None → ⊥
no_survey image surveys x all at none = (let a = all x.instance x.procedure at.m at.p at.code in none-some a.it (sym none ∙ a.is))

pub survey_is : (image : Image) (surveys : List (List Surveyed)) (j n : ℕ) (m : ModuleCode) (p : CodeProcedure) (it : Surveyed) → AreSurveyed image surveys → IsCode image j n m p
    → surveyed_of image surveys j n ≡ Some it → IsSurveyed m p it
survey_is image surveys j n m p it all code is =
    let a = all j n m p code in subst (λ x. IsSurveyed m p x) (same_Some a.it it (sym a.is ∙ is)) a.surveyed

pub phrase_within : (image : Image) (x : Place) (k : ℕ) (m : ModuleCode) (p : CodeProcedure) → IsPlace image x → IsCode image x.instance x.procedure m p → x.position ≡ Some k
    → k < length p.phrases
phrase_within image x k m p at code e =
    let l : slot_of x.position < length (at.p).phrases + 1 = at.there in
    let here : k + 1 < length (at.p).phrases + 1 = subst (λ a. slot_of a < length (at.p).phrases + 1) e l in
    one_code (λ m' p'. k < length p'.phrases) image x.instance x.procedure at.m m at.p p at.code code (omega (arith, here))
