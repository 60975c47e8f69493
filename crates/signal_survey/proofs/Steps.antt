-- A signal comes exactly where a walk comes, and only to places that there are.
use Rattle.std.proofs.Common.{◌≡◌, ℕ, zero, suc, ◌+◌, ◌<◌, List, ◌∷◌, length, Bool, true, false, Option, None, Some, refl, arith}
use Rattle.std.specs.Prelude.{slice_get, if◌then◌else◌, ◌&&◌}
use Rattle.std.specs.List.{list_any}
use Rattle.std.proofs.lemmas.Option.{none-some, same_Some}
use Rattle.code_forms.specs.declared.module_code.Phrase.{Phrase}
use Rattle.object_files.specs.declared.image.Image.{Image}
use Rattle.signaller.specs.declared.signal_id.SignalId.{SignalId}
use Rattle.signaller.specs.Search.{covers, has, first_of, from_of, around_at, around}
use Rattle.survey_rules.specs.Escapes.{Position, Comes, position_of, position_beyond}
use Rattle.survey_rules.specs.Escapes as rule
use Rattle.survey_rules.proofs.Codes.{one_code}
use Rattle.place_walks.specs.declared.place.Place.{Place}
use Rattle.signal_survey.specs.Follows.{Begins, raised, CallsOut, called, Follows, out, past, IsPlace, place_at}
use Rattle.signal_survey.specs.Laws.{ComesWhereReached}
use Rattle.place_walks.specs.Reach.{Reached, begun, onward}
use Rattle.place_walks.specs.Walks.{slot_of}

come_reached : (image : Image) (s : SignalId) (j n : ℕ) (position : Position) → Comes image s j n position
    → Reached (Begins image s) (Follows image s) (place_at j n position)
come_reached image s _ _ _ (rule.raised j n at m p i c stands may) = begun (place_at j n (position_of p at)) (raised j n at m p i c stands may)
come_reached image s _ _ _ (rule.called j n at other procedure q m p i c stands calls run more) =
    onward (place_at other q None) (place_at j n (position_of p at)) (come_reached image s other q None more)
    (out other q (place_at j n (position_of p at)) (called j n at procedure m p i c stands calls run))
come_reached image s _ _ _ (rule.passed j n k m p c more lets) =
    onward (place_at j n (Some k)) (place_at j n (position_beyond p k)) (come_reached image s j n (Some k) more) (past j n k m p c lets)

-- it comes to this place
abbrev pub ComesTo : Image → SignalId → Place → Type 0
ComesTo image s x = Comes image s x.instance x.procedure x.position

comes_begun : (image : Image) (s : SignalId) (x : Place) → Begins image s x → ComesTo image s x
comes_begun image s _ (raised j n at m p i c stands may) = rule.raised j n at m p i c stands may

comes_out : (image : Image) (s : SignalId) (other q : ℕ) (y : Place) → Comes image s other q None → CallsOut image other q y → ComesTo image s y
comes_out image s other q _ more (called j n at procedure m p i c stands calls run) = rule.called j n at other procedure q m p i c stands calls run more

comes_next : (image : Image) (s : SignalId) (x y : Place) → ComesTo image s x → Follows image s x y → ComesTo image s y
comes_next image s _ _ more (out other q y o) = comes_out image s other q y more o
comes_next image s _ _ more (past j n k m p c lets) = rule.passed j n k m p c more lets

pub reached_come : (image : Image) (s : SignalId) (x : Place) → Reached (Begins image s) (Follows image s) x → ComesTo image s x
reached_come image s _ (begun x b) = comes_begun image s x b
reached_come image s _ (onward x y r f) = comes_next image s x y (reached_come image s x r) f

pub comes_where_reached : ComesWhereReached
comes_where_reached = λ image s j n position. (come_reached image s j n position, reached_come image s (place_at j n position))

-- ---- a position is that of a phrase of the procedure

below_if : (n : ℕ) (before : ℕ → List ℕ) → ((o k : ℕ) → first_of (before o) ≡ Some k → k < n) → (b : Bool) (from other k : ℕ)
    → first_of (if b then n ∷ before from else before other) ≡ Some k → k < n + 1
below_if n before ih true from other k e = let same = same_Some n k e in omega (arith, same)
below_if n before ih false from other k e = let l = ih other k e in omega (arith, l)

below_at : (outward : Bool) (n o : ℕ) (before : ℕ → List ℕ) → ((o k : ℕ) → first_of (before o) ≡ Some k → k < n) → (ph : Option Phrase) (k : ℕ)
    → first_of (around_at outward n o before ph) ≡ Some k → k < n + 1
unfolding around_at
below_at outward n o before ih None k e = let l = ih o k e in omega (arith, l)
below_at outward n o before ih (Some p) k e = below_if n before ih (covers p o) p.from (if outward && list_any (λ a. has a o) p.arms then p.from else o) k e

around_below : (outward : Bool) (table : List Phrase) (n o k : ℕ) → first_of (around outward table n o) ≡ Some k → k < n
unfolding around
around_below outward table zero o k e = absurd (none-some k e)
around_below outward table (suc n) o k e =
    let l = below_at outward n o (around outward table n) (λ x y f. around_below outward table n x y f) (slice_get table n) k e in omega (arith, l)

slot_below : (position : Position) (count : ℕ) → ((k : ℕ) → position ≡ Some k → k < count) → slot_of position < count + 1
slot_below None count h = omega arith
slot_below (Some k) count h = let l = h k refl in omega (arith, l)

pub begun_there : (image : Image) (s : SignalId) (x : Place) → Begins image s x → IsPlace image x
begun_there image s _ (raised j n at m p i c stands may) =
    record { m = m; p = p; code = c; there = slot_below (position_of p at) (length p.phrases) (around_below true p.phrases (length p.phrases) at) }

pub out_there : (image : Image) (other q : ℕ) (y : Place) → CallsOut image other q y → IsPlace image y
out_there image other q _ (called j n at procedure m p i c stands calls run) =
    record { m = m; p = p; code = c; there = slot_below (position_of p at) (length p.phrases) (around_below true p.phrases (length p.phrases) at) }

pub next_there : (image : Image) (s : SignalId) (x y : Place) → IsPlace image x → Follows image s x y → IsPlace image y
next_there image s _ _ at (out other q y o) = out_there image other q y o
next_there image s _ _ at (past j n k m p c lets) =
    let near : k + 1 < length (at.p).phrases + 1 = at.there in
    let same : length (at.p).phrases ≡ length p.phrases = one_code (λ m' p'. length (at.p).phrases ≡ length p'.phrases) image j n at.m m at.p p at.code c refl in
    record {
      m = m;
      p = p;
      code = c;
      there = slot_below (position_beyond p k) (length p.phrases)
          (λ h e. (let l = around_below true p.phrases k (from_of (slice_get p.phrases k)) h e in let r : h < length p.phrases = omega (arith, l, near, same) in r));
    }

pub reached_there : (image : Image) (s : SignalId) (x : Place) → Reached (Begins image s) (Follows image s) x → IsPlace image x
reached_there image s _ (begun x b) = begun_there image s x b
reached_there image s _ (onward x y r f) = next_there image s x y (reached_there image s x r) f
