-- The signals of an image, in order.
use Rattle.std.proofs.Common.{◌≡◌, ◌⊎◌, inl, inr, ⊎_elim, ℕ, zero, suc, ◌+◌, ◌<◌, ◌≤◌, ◌^◌, List, [], ◌∷◌, ◌++◌, length, get_or, None, Some, refl, sym, ap, subst, ◌∙◌, arith}
use Rattle.std.specs.Prelude.{Contains, slice_get, option_and_then}
use Rattle.std.proofs.Math.Logic.{∥∥₁_elim}
use Rattle.std.proofs.Props.{props}
use Rattle.std.proofs.lemmas.Bool.{cases_lt}
use Rattle.std.proofs.lemmas.List.Elements.{Contains-append_left, Contains-push, Contains-push_cases, Contains-get_or}
use Rattle.std.proofs.lemmas.List.Quantifiers.{all_pairs_push}
use Rattle.std.proofs.lemmas.Option.{none-some, slice_get_within}
use Rattle.code_forms.specs.declared.module_code.ModuleCode.{ModuleCode}
use Rattle.object_files.specs.declared.image.Image.{Image}
use Rattle.signaller.specs.declared.signal_id.SignalId.{SignalId}
use Rattle.signaller.specs.declared.signal_id.SignalId.TheVariants.{Own, BoundsFault, ZeroDivisor, NoInput, Unnamed}
use Rattle.machine_rules.specs.LookUps.{code_of, signal_of}
use Rattle.survey_rules.specs.Survey.{Precedes, group_of}
use Rattle.signal_survey.specs.Ranges.{HasSignal}
use Rattle.signal_survey.specs.Signals.{ArePreceding}
use Rattle.signal_survey.proofs.Surveyed.{then_some, of_module}

-- ---- the signals of an instance

few_once : (m : ModuleCode) → IsProp (length m.signals < 2 ^ 32)
few_once m = hlevel props

pub few_signals : (m : ModuleCode) → length m.signals < 4294967296
few_signals m = ∥∥₁_elim m.ranges (few_once m) (λ r. r.few_signals)

pub own_signal : (image : Image) (j k : ℕ) (m : ModuleCode) → code_of image j ≡ Some m → HasSignal image (Own j k) → k < length m.signals
unfolding signal_of
own_signal image j k m is h = slice_get_within m.signals k h.0 (sym (ap (λ o. option_and_then (λ (x : ModuleCode). slice_get x.signals k) o) is) ∙ h.1)

pub no_signal : (image : Image) (j k : ℕ) → code_of image j ≡ None → HasSignal image (Own j k) → ⊥
unfolding signal_of
no_signal image j k is h = none-some h.0 (sym (ap (λ o. option_and_then (λ (x : ModuleCode). slice_get x.signals k) o) is) ∙ h.1)

instance_within : (image : Image) (j k : ℕ) → HasSignal image (Own j k) → j < length image.instances
unfolding signal_of
instance_within image j k h =
    let m = then_some (λ (x : ModuleCode). slice_get x.signals k) (code_of image j) h.0 h.1 in
    let of = of_module image j m.0 m.1 in
    slice_get_within image.instances j of.instance of.is_instance

-- ---- the order

by_kind : (P : SignalId → Type 0) → ((s : SignalId) → group_of s < 4 → P s) → ((a b : ℕ) → P (Own a b)) → (s : SignalId) → P s
by_kind P f g (Own a b) = g a b
by_kind P f g BoundsFault = f BoundsFault (omega arith)
by_kind P f g ZeroDivisor = f ZeroDivisor (omega arith)
by_kind P f g NoInput = f NoInput (omega arith)
by_kind P f g Unnamed = f Unnamed (omega arith)

abbrev Before : (a b j k : ℕ) → Type 0
Before a b j k = (a < j) ⊎ ((a ≡ j) × (b < k))

own_before : (a b j k : ℕ) → Precedes (Own a b) (Own j k) → Before a b j k
own_before a b j k p =
    ⊎_elim (λ (l : 4 < 4). let r : Before a b j k = absurd (omega (arith, l)) in r) (λ (h : (4 ≡ 4) × Before a b j k). h.1) p

own_precedes : (a b j k : ℕ) → Before a b j k → Precedes (Own a b) (Own j k)
own_precedes a b j k h = inr (refl, h)

group_precedes : (s : SignalId) (j k : ℕ) → group_of s < 4 → Precedes s (Own j k)
group_precedes s j k l = inl l

-- ---- the predeclared ones

abbrev pub predeclared_signals : List SignalId
predeclared_signals = BoundsFault ∷ ZeroDivisor ∷ NoInput ∷ Unnamed ∷ []

group_at : (i : ℕ) (d : SignalId) → i < 4 → group_of (get_or predeclared_signals i d) ≡ i
group_at zero d l = refl
group_at (suc zero) d l = refl
group_at (suc (suc zero)) d l = refl
group_at (suc (suc (suc zero))) d l = refl
group_at (suc (suc (suc (suc i)))) d l = absurd (omega (arith, l))

in_predeclared : (s : SignalId) → group_of s < 4 → Contains predeclared_signals s
in_predeclared (Own a b) l = absurd (omega (arith, l))
in_predeclared BoundsFault l = (0, omega arith, refl)
in_predeclared ZeroDivisor l = (1, omega arith, refl)
in_predeclared NoInput l = (2, omega arith, refl)
in_predeclared Unnamed l = (3, omega arith, refl)

pub first_preceding : (image : Image) (signals : List SignalId) → signals ≡ predeclared_signals → ArePreceding image 0 0 signals
first_preceding image signals e =
    subst (λ (l : List SignalId). ArePreceding image 0 0 l) (sym e) (record {
      in_order = λ i j d less within.
          (let one = group_at i d (omega (arith, less, within)) in
          let other = group_at j d within in
          inl (omega (arith, one, other, less)));
      before = λ s c.
          (let at = group_at c.0 s c.1 in
          let within : c.0 < 4 = c.1 in
          subst (λ t. Precedes t (Own 0 0)) c.2 (group_precedes (get_or predeclared_signals c.0 s) 0 0 (omega (arith, at, within))));
      all = by_kind (λ s. HasSignal image s → Precedes s (Own 0 0) → Contains predeclared_signals s) (λ s l has p. in_predeclared s l)
          (λ a b has p.
          ⊎_elim (λ (l : a < 0). let r : Contains predeclared_signals (Own a b) = absurd (omega (arith, l)) in r)
          (λ (h : (a ≡ 0) × (b < 0)). let l = h.1 in absurd (omega (arith, l))) (own_before a b 0 0 p));
    })

-- ---- one more, and the next instance

one_onward : (j k : ℕ) (s : SignalId) → Precedes s (Own j k) → Precedes s (Own j (k + 1))
one_onward j k =
    by_kind (λ s. Precedes s (Own j k) → Precedes s (Own j (k + 1))) (λ s l p. group_precedes s j (k + 1) l)
    (λ a b p.
    own_precedes a b j (k + 1)
    (⊎_elim (λ (l : a < j). let r : Before a b j (k + 1) = inl l in r)
    (λ (h : (a ≡ j) × (b < k)). let l = h.1 in let r : Before a b j (k + 1) = inr (h.0, omega (arith, l)) in r) (own_before a b j k p)))

instance_onward : (j k : ℕ) (s : SignalId) → Precedes s (Own j k) → Precedes s (Own (j + 1) 0)
instance_onward j k =
    by_kind (λ s. Precedes s (Own j k) → Precedes s (Own (j + 1) 0)) (λ s l p. group_precedes s (j + 1) 0 l)
    (λ a b p.
    own_precedes a b (j + 1) 0
    (⊎_elim (λ (l : a < j). let r : Before a b (j + 1) 0 = inl (omega (arith, l)) in r)
    (λ (h : (a ≡ j) × (b < k)). let l = h.0 in let r : Before a b (j + 1) 0 = inl (omega (arith, l)) in r) (own_before a b j k p)))

pub one_preceding : (image : Image) (j k : ℕ) (old new : List SignalId) → new ≡ old ++ Own j k ∷ [] → ArePreceding image j k old → ArePreceding image j (k + 1) new
one_preceding image j k old new e h =
    subst (λ (l : List SignalId). ArePreceding image j (k + 1) l) (sym e) (record {
      in_order = all_pairs_push Precedes old (Own j k) h.in_order (λ i d l. h.before (get_or old i d) (Contains-get_or old i d l));
      before = λ s c. ⊎_elim
          (λ (o : Contains old s). one_onward j k s (h.before s o))
          (λ (is : Own j k ≡ s). subst (λ t. Precedes t (Own j (k + 1))) is (own_precedes j k j (k + 1) (inr (refl, omega arith)))) (Contains-push_cases old (Own j k) s c);
      all = by_kind (λ s. HasSignal image s → Precedes s (Own j (k + 1)) → Contains (old ++ Own j k ∷ []) s)
          (λ s l has p. Contains-append_left old (Own j k ∷ []) s (h.all s has (group_precedes s j k l)))
          (λ a b has p.
          ⊎_elim
          (λ (l : a < j). Contains-append_left old (Own j k ∷ []) (Own a b) (h.all (Own a b) has (own_precedes a b j k (inl l))))
          (λ (at : (a ≡ j) × (b < k + 1)).
          ⊎_elim
          (λ (l : b < k). Contains-append_left old (Own j k ∷ []) (Own a b) (h.all (Own a b) has (own_precedes a b j k (inr (at.0, l)))))
          (λ (l : k ≤ b).
          let below = at.1 in
          let number : k ≡ b = omega (arith, l, below) in
          let is : Own j k ≡ Own a b = ap (λ x. Own x k) (sym at.0) ∙ ap (λ y. Own a y) number in
          subst (λ t. Contains (old ++ Own j k ∷ []) t) is (Contains-push old (Own j k))) (cases_lt b k)) (own_before a b j (k + 1) p));
    })

pub instance_preceding : (image : Image) (j count : ℕ) (signals : List SignalId) → ((b : ℕ) → HasSignal image (Own j b) → b < count) → ArePreceding image j count signals
    → ArePreceding image (j + 1) 0 signals
instance_preceding image j count signals few h = record {
  in_order = h.in_order;
  before = λ s c. instance_onward j count s (h.before s c);
  all = by_kind (λ s. HasSignal image s → Precedes s (Own (j + 1) 0) → Contains signals s) (λ s l has p. h.all s has (group_precedes s j count l))
      (λ a b has p.
      ⊎_elim
      (λ (l : a < j + 1).
      ⊎_elim
      (λ (m : a < j). h.all (Own a b) has (own_precedes a b j count (inl m)))
      (λ (m : j ≤ a).
      let is : a ≡ j = omega (arith, l, m) in
      h.all (Own a b) has (own_precedes a b j count (inr (is, few b (subst (λ x. HasSignal image (Own x b)) is has))))) (cases_lt a j))
      (λ (at : (a ≡ j + 1) × (b < 0)). let l = at.1 in absurd (omega (arith, l))) (own_before a b (j + 1) 0 p));
}

pub all_there : (image : Image) (n : ℕ) (signals : List SignalId) → length image.instances ≤ n → ArePreceding image n 0 signals → (s : SignalId) → HasSignal image s → Contains signals s
all_there image n signals many h =
    by_kind (λ s. HasSignal image s → Contains signals s) (λ s l has. h.all s has (group_precedes s n 0 l))
    (λ a b has. h.all (Own a b) has (own_precedes a b n 0 (inl (let l = instance_within image a b has in omega (arith, l, many)))))
