-- The events of an image, one part after the other.
use Rattle.std.proofs.Common.{◌≡◌, ◌⊎◌, inl, inr, ⊎_elim, ℕ, ◌+◌, ◌<◌, ◌≤◌, List, length, Option, None, Some, Result, Ok, Err, refl, sym, ap, subst, ◌∙◌, arith}
use Rattle.std.specs.Prelude.{slice_get, option_map, option_and_then, Contains, OnOk}
use Rattle.std.proofs.lemmas.Bool.{cases_lt}
use Rattle.std.proofs.lemmas.Option.{none-some, same_Some, slice_get_within}
use Rattle.code_forms.specs.declared.module_code.CodeProcedure.{CodeProcedure}
use Rattle.code_forms.specs.declared.module_code.ModuleCode.{ModuleCode}
use Rattle.object_files.specs.declared.image.Image.{Image}
use Rattle.object_files.specs.declared.image.Instance.{Instance}
use Rattle.machine_rules.specs.LookUps.{module_number, code_in, code_of, procedure_of}
use Rattle.survey_rules.specs.Escapes.{IsCode}
use Rattle.survey_rules.proofs.Codes.{procedure_there, one_code}
use Rattle.survey_code.specs.declared.surveyed.Site.{Site}
use Rattle.survey_code.specs.declared.surveyed.Surveyed.{Surveyed}
use Rattle.survey_code.specs.Sites.{IsSite}
use Rattle.signal_survey.specs.declared.happening.Happening.{Happening}
use Rattle.signal_survey.specs.Adding.{Adds, Of}
use Rattle.signal_survey.specs.Graph.{AreSurveyed, surveyed_of}
use Rattle.signal_survey.specs.Happenings.{Happens, HappensIn, HappensBelow, HappensBefore, SiteHappens, happening_at}
use Rattle.signal_survey.proofs.Added.{adds_none_to, adds_more, adds_as}
use Rattle.signal_survey.proofs.Ranges.{here}

record CodeAt (image : Image) (j n : ℕ) (m : ModuleCode) : Type 0 where
  pub p : CodeProcedure
  pub code : IsCode image j n m p

code_here : (image : Image) (j n : ℕ) (m : ModuleCode) → code_of image j ≡ Some m → n < length m.procedures → CodeAt image j n m
unfolding procedure_of
code_here image j n m is l =
    let h = here m.procedures n l in
    record { p = h.it; code = record { is_module = is; is_procedure = ap (option_and_then (λ (x : ModuleCode). slice_get x.procedures n)) is ∙ h.is } }

pub no_survey_here : (image : Image) (surveys : List (List Surveyed)) (j n : ℕ) (m : ModuleCode) → AreSurveyed image surveys → code_of image j ≡ Some m → n < length m.procedures
    → surveyed_of image surveys j n ≡ None → ⊥
no_survey_here image surveys j n m are is l e =
    let c = code_here image j n m is l in let s = are j n m c.p c.code in none-some s.it (sym e ∙ s.is)

-- those of the sites of a procedure
pub sites_happen : (image : Image) (surveys : List (List Surveyed)) (j n : ℕ) (m : ModuleCode) (it : Surveyed) (old new : List Happening) → AreSurveyed image surveys
    → code_of image j ≡ Some m → n < length m.procedures → surveyed_of image surveys j n ≡ Some it → Adds (Of (SiteHappens j n) it.sites) old new
    → Adds (HappensIn image j n) old new
sites_happen image surveys j n m it old new are is l e a =
    let c = code_here image j n m is l in
    let s = are j n m c.p c.code in
    let same : s.it ≡ it = same_Some s.it it (sym s.is ∙ e) in
    let surveyed = subst (λ (x : Surveyed). (site : Site) → (Contains x.sites site → IsSite m c.p site) × (IsSite m c.p site → Contains x.sites site)) same (s.surveyed).sites in
    adds_as (Of (SiteHappens j n) it.sites) (HappensIn image j n) old new a
    (λ x o. (let at = (surveyed o.x).0 o.contains in
    subst (HappensIn image j n) o.is (record {
      happens = record { m = m; p = c.p; at = at.at; instruction = at.instruction; code = c.code; stands = at.stands; event = at.event; position = at.position };
      instance = refl;
      procedure = refl;
    })))
    (λ x h. (let site : Site = record { position = x.place.position; event = x.event } in
    let its : IsSite (h.happens).m (h.happens).p site =
    record { at = (h.happens).at; instruction = (h.happens).instruction; stands = (h.happens).stands; event = (h.happens).event; position = (h.happens).position } in
    let code : IsCode image j n (h.happens).m (h.happens).p =
    subst (λ i. IsCode image i n (h.happens).m (h.happens).p) h.instance (subst (λ k. IsCode image x.place.instance k (h.happens).m (h.happens).p) h.procedure (h.happens).code) in
    record {
      x = site;
      contains = (surveyed site).1 (one_code (λ m' p'. IsSite m' p' site) image j n (h.happens).m m (h.happens).p c.p code c.code its);
      is = ap (λ i. happening_at i n site) (sym h.instance) ∙ ap (λ k. happening_at x.place.instance k site) (sym h.procedure);
    }))

pub sites_done : {X E : Type 0} (r : Result X E) (image : Image) (surveys : List (List Surveyed)) (j n : ℕ) (m : ModuleCode) (it : Surveyed) (sites : List Site) (old new : List Happening)
    → AreSurveyed image surveys → code_of image j ≡ Some m → n < length m.procedures → surveyed_of image surveys j n ≡ Some it → sites ≡ it.sites
    → OnOk r (Adds (Of (SiteHappens j n) sites) old new) → OnOk r (Adds (HappensIn image j n) old new)
sites_done (Ok x) image surveys j n m it sites old new are is l e same a =
    sites_happen image surveys j n m it old new are is l e (subst (λ xs. Adds (Of (SiteHappens j n) xs) old new) same a)
sites_done (Err x) image surveys j n m it sites old new are is l e same a = tt

-- procedure after procedure
pub below_none : (image : Image) (j : ℕ) (old ys : List Happening) → ys ≡ old → Adds (HappensBelow image j 0) old ys
below_none image j old ys e = adds_none_to (HappensBelow image j 0) old ys e (λ x h. (let l = h.procedure in omega (arith, l)))

pub below_more : (image : Image) (j k : ℕ) (old ys zs : List Happening) → Adds (HappensBelow image j k) old ys → Adds (HappensIn image j k) ys zs → Adds (HappensBelow image j (k + 1)) old zs
below_more image j k old ys zs a b =
    adds_more (HappensBelow image j k) (HappensIn image j k) (HappensBelow image j (k + 1)) old ys zs a b
    (λ x h. record { happens = h.happens; instance = h.instance; procedure = (let l = h.procedure in omega (arith, l)) })
    (λ x h. record { happens = h.happens; instance = h.instance; procedure = (let e = h.procedure in omega (arith, e)) })
    (λ x h. ⊎_elim
    (λ (l : x.place.procedure < k). let r : HappensBelow image j k x ⊎ HappensIn image j k x = inl (record { happens = h.happens; instance = h.instance; procedure = l }) in r)
    (λ (g : k ≤ x.place.procedure). let r : HappensBelow image j k x ⊎ HappensIn image j k x =
    inr (record { happens = h.happens; instance = h.instance; procedure = (let l = h.procedure in omega (arith, l, g)) }) in r) (cases_lt x.place.procedure k))

procedure_below : (image : Image) (j : ℕ) (m : ModuleCode) (x : Happening) → code_of image j ≡ Some m → Happens image x → x.place.instance ≡ j → x.place.procedure < length m.procedures
procedure_below image j m x is h at =
    let l = slice_get_within (h.m).procedures x.place.procedure h.p (procedure_there image x.place.instance x.place.procedure h.m h.p h.code) in
    let same : h.m ≡ m = same_Some h.m m (sym (subst (λ i. code_of image i ≡ Some h.m) at (h.code).is_module) ∙ is) in
    subst (λ (y : ModuleCode). x.place.procedure < length y.procedures) same l

pub below_all : (image : Image) (j k : ℕ) (m : ModuleCode) (old ys : List Happening) → code_of image j ≡ Some m → length m.procedures ≤ k → Adds (HappensBelow image j k) old ys
    → Adds (HappensBelow image j (length m.procedures)) old ys
below_all image j k m old ys is past a =
    adds_as (HappensBelow image j k) (HappensBelow image j (length m.procedures)) old ys a
    (λ x h. record { happens = h.happens; instance = h.instance; procedure = procedure_below image j m x is h.happens h.instance })
    (λ x h. record { happens = h.happens; instance = h.instance; procedure = (let l = h.procedure in omega (arith, l, past)) })

-- instance after instance
pub before_none : (image : Image) (old ys : List Happening) → ys ≡ old → Adds (HappensBefore image 0) old ys
before_none image old ys e = adds_none_to (HappensBefore image 0) old ys e (λ x h. (let l = h.instance in omega (arith, l)))

pub before_more : (image : Image) (k : ℕ) (m : ModuleCode) (old ys zs : List Happening) → code_of image k ≡ Some m → Adds (HappensBefore image k) old ys
    → Adds (HappensBelow image k (length m.procedures)) ys zs → Adds (HappensBefore image (k + 1)) old zs
before_more image k m old ys zs is a b =
    adds_more (HappensBefore image k) (HappensBelow image k (length m.procedures)) (HappensBefore image (k + 1)) old ys zs a b
    (λ x h. record { happens = h.happens; instance = (let l = h.instance in omega (arith, l)) })
    (λ x h. record { happens = h.happens; instance = (let e = h.instance in omega (arith, e)) })
    (λ x h. ⊎_elim
    (λ (l : x.place.instance < k).
    let r : HappensBefore image k x ⊎ HappensBelow image k (length m.procedures) x = inl (record { happens = h.happens; instance = l }) in r)
    (λ (g : k ≤ x.place.instance).
    let at : x.place.instance ≡ k = (let l = h.instance in omega (arith, l, g)) in
    let r : HappensBefore image k x ⊎ HappensBelow image k (length m.procedures) x =
    inr (record { happens = h.happens; instance = at; procedure = procedure_below image k m x is h.happens at }) in r) (cases_lt x.place.instance k))

within_of : (image : Image) (j : ℕ) (m : ModuleCode) (o : Option Instance) → slice_get image.instances j ≡ o
    → option_and_then (code_in image) (option_map (λ (i : Instance). i.module) o) ≡ Some m → j < length image.instances
within_of image j m None e is = absurd (none-some m is)
within_of image j m (Some i) e is = slice_get_within image.instances j i e

pub instance_within : (image : Image) (j : ℕ) (m : ModuleCode) → code_of image j ≡ Some m → j < length image.instances
unfolding code_of module_number
instance_within image j m is = within_of image j m (slice_get image.instances j) refl is

pub before_all : (image : Image) (k : ℕ) (old ys : List Happening) → length image.instances ≤ k → Adds (HappensBefore image k) old ys
    → Adds (HappensBefore image (length image.instances)) old ys
before_all image k old ys past a =
    adds_as (HappensBefore image k) (HappensBefore image (length image.instances)) old ys a
    (λ x h. record { happens = h.happens; instance = instance_within image x.place.instance (h.happens).m ((h.happens).code).is_module })
    (λ x h. record { happens = h.happens; instance = (let l = h.instance in omega (arith, l, past)) })
