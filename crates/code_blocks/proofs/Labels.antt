-- The labels of an EXITS or REPEAT are new.
use Rattle.std.proofs.Common.{◌≡◌, refl, sym, ap, ap₂, ◌∙◌, subst, ℕ, zero, suc, ◌<◌, ◌≤◌, List, [], ◌∷◌, ◌++◌, Contains, Option, Some, None, Bool, true, false, ◌||◌, nat_eq, eq-eqb, ne_eqb, eqb-true, arith}
use Rattle.std.proofs.lemmas.List.Elements.{All-contains, Contains-append_left, Contains-append_right}
use Rattle.mesa_types.specs.Sound as sound
use Rattle.mesa_types.specs.Sound.{Scope, LabelsIn, labels_in}
use Rattle.mesa_types.specs.Typed.{Point, Start, After, At, Leave, Exits, NoExits, AndExit}
use Rattle.code_rules.specs.Points.{NoWay, OutOf, Points, here_or, in_labelled, is_among}
use Rattle.code_rules.specs.Reading.{Destination, Offset}
use Rattle.code_rules.proofs.Agreement.{jumps_leave_their_arms}
use Rattle.code_blocks.proofs.Known.{Lands, Known}
use Rattle.code_blocks.proofs.Reaching.{reaches_labelled}

or_true : (b : Bool) → b || true ≡ true
or_true true = refl
or_true false = refl

pub among : (l : ℕ) (ls : List ℕ) → Contains ls l → is_among l ls ≡ true
among l [] (k, h, e) = absurd (omega (h, arith))
among l (k ∷ ks) (zero, h, e) = ap (λ b. b || is_among l ks) (eq-eqb l k (sym e))
among l (k ∷ ks) (suc n, h, e) = ap (λ b. nat_eq l k || b) (among l ks (n, omega (h, arith), e)) ∙ or_true (nat_eq l k)

pub not_among : (l : ℕ) (ls : List ℕ) → ((k : ℕ) → Contains ls k → l ≡ k → ⊥) → is_among l ls ≡ false
not_among l [] f = refl
not_among l (k ∷ ks) f =
    ap (λ b. b || is_among l ks) (ne_eqb l k (λ e. f k (0, omega arith, refl) e)) ∙ not_among l ks (λ m c. f m (suc c.0, omega (c.1, arith), c.2))

is_there : (l : ℕ) (ls : List ℕ) → is_among l ls ≡ true → Contains ls l
is_there l [] e = cc
is_there l (k ∷ ks) e = go (is_there l ks) (nat_eq l k) refl e
  where
    go : (is_among l ks ≡ true → Contains ks l) → (b : Bool) → nat_eq l k ≡ b → b || is_among l ks ≡ true → Contains (k ∷ ks) l
    go f true same h = (0, omega arith, sym (eqb-true l k same))
    go f false same h = let c = f h in (suc c.0, omega (c.1, arith), c.2)

pub among_both : (l : ℕ) (ls ms : List ℕ) → is_among l (ls ++ ms) ≡ (is_among l ls || is_among l ms)
among_both l [] ms = refl
among_both l (k ∷ ks) ms = go (among_both l ks ms) (nat_eq l k)
  where
    go : is_among l (ks ++ ms) ≡ (is_among l ks || is_among l ms) → (b : Bool) → (b || is_among l (ks ++ ms)) ≡ ((b || is_among l ks) || is_among l ms)
    go e true = refl
    go e false = e

-- no label is one of those around
abbrev pub AreFresh : Points Destination → Exits → Type 0
AreFresh points NoExits = Unit {0}
AreFresh points (AndExit ls s es) = ((l : ℕ) → is_among l ls ≡ true → points (At l) ≡ NoWay) × AreFresh points es

all_fresh : (points : Points Destination) (es : Exits) → ((l : ℕ) → Contains (labels_in es) l → points (At l) ≡ NoWay) → AreFresh points es
unfolding labels_in
all_fresh points NoExits f = tt
all_fresh points (AndExit ls s es) f = (
  λ l e. f l (Contains-append_left ls (labels_in es) l (is_there l ls e)),
  all_fresh points es (λ l c. f l (Contains-append_right ls (labels_in es) l c)),
)

module _ (Γ : Scope) (around points : Points Destination) (known : Known Γ around points) (past : ℕ) (es : Exits) (new : LabelsIn Γ past es) where
  in_range : (l : ℕ) → Contains (labels_in es) l → (Γ.labels ≤ l) × (l < past)
  unfolding LabelsIn
  in_range l c = All-contains (λ k. (Γ.labels ≤ k) × (k < past)) (labels_in es) l new.1 c

  pub are_fresh : AreFresh points es
  are_fresh = all_fresh points es (λ l c. known.fresh l (in_range l c).0)

  -- an offset for each label, and for no other one
  pub record Offsets (label : ℕ → Option Destination) : Type 0 where
    pub found : (l : ℕ) → is_among l (labels_in es) ≡ true → (o : ℕ) × (label l ≡ Some (Offset o))
    pub absent : (l : ℕ) → is_among l (labels_in es) ≡ false → label l ≡ None

  label_lands : (label : ℕ → Option Destination) → Offsets label → (l arms : ℕ) (to : Destination) → (b : Bool) → is_among l (labels_in es) ≡ b
      → here_or (label l) (points (At l)) ≡ OutOf arms to → Lands (At l) to
  label_lands label offsets l arms to true is e =
      let f = offsets.found l is in
      let same : Offset f.0 ≡ to = cc (sym (ap (λ o. here_or o (points (At l))) f.1) ∙ e) in
      subst (λ d. Lands (At l) d) same tt
  label_lands label offsets l arms to false is e =
      known.lands (At l) arms to (sym (ap (λ o. here_or o (points (At l))) (offsets.absent l is)) ∙ e)

  labelled_lands : (label : ℕ → Option Destination) → Offsets label → (p : Point) (arms : ℕ) (to : Destination) → in_labelled label points p ≡ OutOf arms to
      → Lands p to
  labelled_lands label offsets (Start n) arms to e = known.lands (Start n) arms to e
  labelled_lands label offsets (After n) arms to e = known.lands (After n) arms to e
  labelled_lands label offsets (At l) arms to e = label_lands label offsets l arms to (is_among l (labels_in es)) refl e
  labelled_lands label offsets Leave arms to e = known.lands Leave arms to e

  -- where labels are visible
  pub known_in_labelled : (label : ℕ → Option Destination) → Offsets label → (further : Points Destination)
      → ((p : Point) (arms : ℕ) (to : Destination) → in_labelled label points p ≡ OutOf arms to → further p ≡ OutOf arms to)
      → Known (sound.in_labelled past es Γ) further (in_labelled label points)
  unfolding sound.in_labelled LabelsIn
  known_in_labelled label offsets further shown = record {
    shown = shown;
    lands = labelled_lands label offsets;
    agrees = (jumps_leave_their_arms.in_code).labelled Γ points past es label known.agrees new
        (λ l c. let f = offsets.found l (among l (labels_in es) c) in (Offset f.0, f.1))
        (λ l lt. offsets.absent l (not_among l (labels_in es) (λ k c e. omega (arith, lt, e, (in_range k c).0))));
    fresh = λ l le.
        ap₂ here_or (offsets.absent l (not_among l (labels_in es) (λ k c e. omega (arith, le, e, (in_range k c).1)))) (known.fresh l (omega (arith, le, new.0)));
    retry = λ x. reaches_labelled Γ past es 1 (Start Γ.statement) (known.retry x);
    continue = λ x. reaches_labelled Γ past es 1 (After Γ.statement) (known.continue x);
  }
