-- A walk comes to where a signal comes.
use Rattle.std.proofs.Common.{◌≡◌, ◌⊎◌, inl, inr, ⊎_elim, ℕ, ◌<◌, ◌-◌, List, [], ◌∷◌, ◌++◌, take, Option, None, Some, Result, Ok, Err, refl, sym, ap, subst, ◌∙◌, arith}
use Rattle.std.specs.Prelude.{Contains, OnOk, option_to_list}
use Rattle.std.proofs.lemmas.List.Elements.{Contains-push}
use Rattle.std.proofs.lemmas.Option.{none-some, same_Some}
use Rattle.object_files.specs.declared.image.Image.{Image}
use Rattle.signaller.specs.declared.signal_id.SignalId.{SignalId}
use Rattle.place_walks.specs.declared.place.Place.{Place}
use Rattle.place_walks.specs.declared.walk.Walk.{Walk}
use Rattle.place_walks.specs.Going.{IsGoing, IsResting, HasCome}
use Rattle.place_walks.specs.Table.{cell}
use Rattle.place_walks.specs.Walks.{IsMarked, mark_at, left_of, Visits}
use Rattle.place_walks.proofs.Closing.{goes_first, goes_on, has_come, less_left}
use Rattle.signal_survey.specs.Follows.{Begins, Follows, IsPlace}
use Rattle.signal_survey.specs.Graph.{HasPlaces, HoldsCallers, HoldsRaisers, IsNext, row_of, column_of}
use Rattle.signal_survey.proofs.Steps.{begun_there, reached_there, next_there}
use Rattle.signal_survey.proofs.Nexts.{follows_out, comes_out}

visits_as : (round : ℕ) {P : Place → Type 0} (Q : Place → Type 0) (old new : Walk) → ((x : Place) → P x → Q x) → ((x : Place) → Q x → P x) → Visits round P old new → Visits round Q old new
visits_as round {P} Q old new there back v = record {
  there = v.there;
  kept = v.kept;
  added = λ x m. ⊎_elim
      (λ (o : IsMarked old.marks round x). let r : IsMarked old.marks round x ⊎ Q x = inl o in r)
      (λ (p : P x). let r : IsMarked old.marks round x ⊎ Q x = inr (there x p) in r) (v.added x m);
  done = λ x q t. v.done x (back x q) t;
  work_kept = v.work_kept;
  work_new = v.work_new;
  work_marked = v.work_marked;
  rounds = v.rounds;
  less = v.less;
}

on_ok : {X E : Type 0} (r : Result X E) {P Q : Type 0} → (P → Q) → OnOk r P → OnOk r Q
on_ok (Ok x) f p = f p
on_ok (Err e) f p = tt

-- out of a procedure
pub out_goes : {X E : Type 0} (r : Result X E) (image : Image) (s : SignalId) (round : ℕ) (x : Place) (table : List (List (List Place))) (places : List Place) (old new : Walk)
    → HoldsCallers image table → x.position ≡ None → places ≡ cell table x.instance x.procedure → OnOk r (Visits round (Contains places) old new)
    → OnOk r (Visits round (Follows image s x) old new)
out_goes r image s round x table places old new holds at same done =
    on_ok r
    (λ (v : Visits round (Contains places) old new).
    visits_as round (Follows image s x) old new
    (λ y c. comes_out image s x y at ((holds x.instance x.procedure y).0 (subst (λ (l : List Place). Contains l y) same c)))
    (λ y f. subst (λ (l : List Place). Contains l y) (sym same) ((holds x.instance x.procedure y).1 (follows_out image s x y f at))) v)
    done

-- from a phrase to the next one
pub next_goes : {X E : Type 0} (r : Result X E) (image : Image) (s : SignalId) (round : ℕ) (x y : Place) (next : Option Place) (old new : Walk) → IsNext image s x next → next ≡ Some y
    → OnOk r (Visits round (λ z. z ≡ y) old new) → OnOk r (Visits round (Follows image s x) old new)
next_goes r image s round x y next old new is some done =
    on_ok r
    (λ (v : Visits round (λ z. z ≡ y) old new).
    visits_as round (Follows image s x) old new (λ z e. subst (λ w. Follows image s x w) (sym e) (is.sound y some))
    (λ z f. sym (same_Some y z (sym some ∙ is.whole z f))) v)
    done

-- or nowhere
pub stays : (image : Image) (s : SignalId) (round : ℕ) (x : Place) (next : Option Place) (walk : Walk) → IsNext image s x next → next ≡ None → Visits round (Follows image s x) walk walk
stays image s round x next walk is none = record {
  there = λ y t. t;
  kept = λ y m. m;
  added = λ y m. inl m;
  done = λ y f t. absurd (none-some y (sym none ∙ is.whole y f));
  work_kept = λ y c. c;
  work_new = λ y m. inl m;
  work_marked = λ y c. inl c;
  rounds = λ y n m. inl m;
  less = omega arith;
}

-- ---- the whole walk

pub record IsWalking (image : Image) (s : SignalId) (round : ℕ) (walk : Walk) : Type 0 where
  pub going : IsGoing (Begins image s) (Follows image s) round walk
  pub places : HasPlaces image walk.marks

pub walk_begins : (image : Image) (s : SignalId) (round : ℕ) (table : List (List (List Place))) (row column : ℕ) (places : List Place) (old new : Walk) → HoldsRaisers image table
    → row ≡ row_of s → column ≡ column_of s → places ≡ cell table row column → HasPlaces image old.marks → IsResting round old → Visits round (Contains places) old new
    → IsWalking image s round new
walk_begins image s round table row column places old new holds row_is column_is same has rest v =
    let cell_is : places ≡ cell table (row_of s) (column_of s) = same ∙ ap (λ i. cell table i column) row_is ∙ ap (λ k. cell table (row_of s) k) column_is in
    record {
      going = goes_first (Begins image s) (Follows image s) round old new rest (λ x b. has.each x (begun_there image s x b))
          (λ x y r f. has.each y (next_there image s x y (reached_there image s x r) f))
          (visits_as round (Begins image s) old new (λ x c. (holds s x).0 (subst (λ (l : List Place). Contains l x) cell_is c))
          (λ x b. subst (λ (l : List Place). Contains l x) (sym cell_is) ((holds s x).1 b)) v);
      places = record { each = λ x at. v.there x (has.each x at) };
    }

taken_last : (items rest : List Place) (o : Option Place) (x : Place) → items ≡ rest ++ option_to_list o → o ≡ Some x → items ≡ rest ++ x ∷ []
taken_last items rest o x e is = e ∙ ap (λ p. rest ++ option_to_list p) is

pub walk_goes : (image : Image) (s : SignalId) (round : ℕ) (old taken new : Walk) (o : Option Place) (x : Place) → taken.marks ≡ old.marks
    → old.work.items ≡ taken.work.items ++ option_to_list o → o ≡ Some x → IsWalking image s round old → Visits round (Follows image s x) taken new → IsWalking image s round new
walk_goes image s round old taken new o x marks_are items is w v = record {
  going = goes_on (Begins image s) (Follows image s) round old taken new taken.work.items x marks_are refl (taken_last old.work.items taken.work.items o x items is) w.going v;
  places = record { each = λ y at. v.there y (let t = (w.places).each y at in (t.0, ap (λ m. mark_at m y) marks_are ∙ t.1)) };
}

pub walk_less : (image : Image) (s : SignalId) (round : ℕ) (old taken new : Walk) (o : Option Place) (x : Place) → taken.marks ≡ old.marks
    → old.work.items ≡ taken.work.items ++ option_to_list o → o ≡ Some x → Visits round (Follows image s x) taken new → left_of round new < left_of round old
walk_less image s round old taken new o x marks_are items is v =
    less_left round old taken new taken.work.items x marks_are refl (taken_last old.work.items taken.work.items o x items is) v

pub taken_there : (image : Image) (s : SignalId) (round : ℕ) (old : Walk) (rest : List Place) (o : Option Place) (x : Place) → old.work.items ≡ rest ++ option_to_list o → o ≡ Some x
    → IsWalking image s round old → IsPlace image x
taken_there image s round old rest o x items is w =
    let last : Contains (rest ++ x ∷ []) x = Contains-push rest x in
    reached_there image s x ((w.going).sound x ((w.going).working x (subst (λ (l : List Place). Contains l x) (sym (taken_last old.work.items rest o x items is)) last)))

nothing_left : (items rest : List Place) (n : ℕ) (o : Option Place) → rest ≡ take (n - 1) items → n ≡ 0 → items ≡ rest ++ option_to_list o → o ≡ None → (items ≡ []) × (rest ≡ [])
nothing_left items rest n o last zero e none =
    let empty : rest ≡ [] = last ∙ ap (λ k. take (k - 1) items) zero in
    (e ∙ ap (λ r. r ++ option_to_list o) empty ∙ ap option_to_list none, empty)

pub walk_ends : (image : Image) (s : SignalId) (round : ℕ) (old last : Walk) (n : ℕ) (o : Option Place) → last.marks ≡ old.marks → last.work.items ≡ take (n - 1) old.work.items → n ≡ 0
    → old.work.items ≡ last.work.items ++ option_to_list o → o ≡ None → IsWalking image s round old
    → HasCome (Begins image s) (Follows image s) round last × HasPlaces image last.marks
walk_ends image s round old last n o marks_are rest none_left items is w =
    let empty = nothing_left old.work.items last.work.items n o rest none_left items is in
    let come = has_come (Begins image s) (Follows image s) round old w.going empty.0 in (
      record {
        marked = λ x. (
          λ m. (come.marked x).0 (ap (λ t. mark_at t x) (sym marks_are) ∙ m),
          λ r. ap (λ t. mark_at t x) marks_are ∙ (come.marked x).1 r,
        );
        rests = record {
          before = λ x n e. (come.rests).before x n (ap (λ t. mark_at t x) (sym marks_are) ∙ e);
          no_work = empty.1;
        };
      },
      record { each = λ x at. (let t = (w.places).each x at in (t.0, ap (λ m. mark_at m x) marks_are ∙ t.1)) },
    )
