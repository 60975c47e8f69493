-- The signals of a list that may escape.
use Rattle.std.proofs.Common.{◌≡◌, ⊎_elim, ℕ, zero, suc, ◌+◌, ◌<◌, ◌≤◌, List, [], ◌∷◌, ◌++◌, length, take, get_or, Bool, true, false, refl, sym, subst, ◌∙◌, arith}
use Rattle.std.specs.Prelude.{◌↔◌, IsTrue, AllPairs, Contains}
use Rattle.std.proofs.lemmas.Bool.{false≢true}
use Rattle.std.proofs.lemmas.List.{take_more, take_all, get_or-take, length-take-le}
use Rattle.std.proofs.lemmas.List.Elements.{Contains-append_left, Contains-push, Contains-push_cases, Contains-get_or}
use Rattle.std.proofs.lemmas.List.Quantifiers.{all_pairs_push}
use Rattle.object_files.specs.declared.image.Image.{Image}
use Rattle.signaller.specs.declared.signal_id.SignalId.{SignalId}
use Rattle.survey_rules.specs.Escapes.{Escapes}
use Rattle.survey_rules.specs.Survey.{IsSurvey, Precedes}
use Rattle.place_walks.specs.declared.walk.Walk.{Walk}
use Rattle.place_walks.specs.Going.{IsResting}
use Rattle.signal_survey.specs.Graph.{HasPlaces}

pub record IsListed (image : Image) (signals found : List SignalId) : Type 0 where
  pub of : (s : SignalId) → Contains found s → Contains signals s
  pub sound : (s : SignalId) → Contains found s → Escapes image s
  pub whole : (s : SignalId) → Contains signals s → Escapes image s → Contains found s
  pub in_order : AllPairs Precedes found

nothing_in : (s : SignalId) → Contains [] s → ⊥
nothing_in s c = let l : c.0 < 0 = c.1 in omega (arith, l)

none_listed : (image : Image) → IsListed image [] []
none_listed image = record {
  of = λ s c. c;
  sound = λ s c. absurd (nothing_in s c);
  whole = λ s c e. c;
  in_order = λ i j d l k. absurd (omega (arith, l, k));
}

get_or-any : (xs : List SignalId) (i : ℕ) (d e : SignalId) → i < length xs → get_or xs i d ≡ get_or xs i e
get_or-any [] i d e l = absurd (omega arith)
get_or-any (x ∷ xs) zero d e l = refl
get_or-any (x ∷ xs) (suc i) d e l = get_or-any xs i d e (omega arith)

precede : (signals : List SignalId) (i : ℕ) (d s : SignalId) → i < length signals → AllPairs Precedes signals → Contains (take i signals) s → Precedes s (get_or signals i d)
precede signals i d s l order c =
    let long : length (take i signals) ≡ i = length-take-le i signals (omega (arith, l)) in
    let below = c.1 in
    let at : c.0 < i = omega (arith, long, below) in
    let is : get_or signals c.0 s ≡ s = sym (get_or-take i signals c.0 s at) ∙ c.2 in
    let same : get_or signals c.0 d ≡ get_or signals c.0 s = get_or-any signals c.0 d s (omega (arith, at, l)) in
    subst (λ x. Precedes x (get_or signals i d)) (same ∙ is) (order c.0 i d at l)

pub one_listed : (image : Image) (signals : List SignalId) (i : ℕ) (d : SignalId) (found new : List SignalId) (b : Bool) → i < length signals → AllPairs Precedes signals
    → IsTrue b ↔ Escapes image (get_or signals i d) → b ≡ true → new ≡ found ++ get_or signals i d ∷ [] → IsListed image (take i signals) found
    → IsListed image (take (i + 1) signals) new
one_listed image signals i d found new b l order says stands is h =
    let s = get_or signals i d in
    let before = take i signals in
    let made : IsListed image (before ++ s ∷ []) (found ++ s ∷ []) = record {
      of = λ t c. ⊎_elim
          (λ (o : Contains found t). Contains-append_left before (s ∷ []) t (h.of t o))
          (λ (e : s ≡ t). subst (λ x. Contains (before ++ s ∷ []) x) e (Contains-push before s)) (Contains-push_cases found s t c);
      sound = λ t c. ⊎_elim
          (λ (o : Contains found t). h.sound t o)
          (λ (e : s ≡ t). subst (λ x. Escapes image x) e (says.0 stands)) (Contains-push_cases found s t c);
      whole = λ t c x. ⊎_elim
          (λ (o : Contains before t). Contains-append_left found (s ∷ []) t (h.whole t o x))
          (λ (e : s ≡ t). subst (λ y. Contains (found ++ s ∷ []) y) e (Contains-push found s)) (Contains-push_cases before s t c);
      in_order = all_pairs_push Precedes found s h.in_order (λ k e low. precede signals i d (get_or found k e) l order (h.of (get_or found k e) (Contains-get_or found k e low)));
    } in
    subst (λ x. IsListed image (take (i + 1) signals) x) (sym is) (subst (λ x. IsListed image x (found ++ s ∷ [])) (sym (take_more signals i d l)) made)

pub one_left : (image : Image) (signals : List SignalId) (i : ℕ) (d : SignalId) (found new : List SignalId) (b : Bool) → i < length signals → IsTrue b ↔ Escapes image (get_or signals i d)
    → b ≡ false → new ≡ found → IsListed image (take i signals) found → IsListed image (take (i + 1) signals) new
one_left image signals i d found new b l says fails is h =
    let s = get_or signals i d in
    let before = take i signals in
    let made : IsListed image (before ++ s ∷ []) found = record {
      of = λ t c. Contains-append_left before (s ∷ []) t (h.of t c);
      sound = h.sound;
      whole = λ t c x. ⊎_elim
          (λ (o : Contains before t). h.whole t o x)
          (λ (e : s ≡ t). absurd (false≢true (sym fails ∙ says.1 (subst (λ y. Escapes image y) (sym e) x)))) (Contains-push_cases before s t c);
      in_order = h.in_order;
    } in
    subst (λ x. IsListed image (take (i + 1) signals) x) (sym is) (subst (λ x. IsListed image x found) (sym (take_more signals i d l)) made)

-- the signals before this number are listed
pub record IsListing (image : Image) (signals : List SignalId) (count : ℕ) (found : List SignalId) (walk : Walk) : Type 0 where
  pub listed : IsListed image (take count signals) found
  pub rests : IsResting (count + 1) walk
  pub places : HasPlaces image walk.marks

pub listing_none : (image : Image) (signals found : List SignalId) (walk : Walk) → found ≡ [] → IsResting 1 walk → HasPlaces image walk.marks → IsListing image signals 0 found walk
listing_none image signals found walk is rests places =
    record { listed = subst (λ f. IsListed image [] f) (sym is) (none_listed image); rests = rests; places = places }

pub listing_all : (image : Image) (signals found : List SignalId) (count : ℕ) (walk : Walk) → length signals ≤ count → ((s : SignalId) → Escapes image s → Contains signals s)
    → IsListing image signals count found walk → IsSurvey image found
listing_all image signals found count walk past all h =
    let listed : IsListed image signals found = subst (λ x. IsListed image x found) (take_all count signals past) h.listed in
    record { escape = listed.sound; all = λ s e. listed.whole s (all s e) e; in_order = listed.in_order }
