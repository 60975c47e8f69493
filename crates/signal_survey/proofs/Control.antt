-- A signal may escape where the walk came out of the body of an instance of CONTROL.
use Rattle.std.proofs.Common.{◌≡◌, ℕ, zero, suc, ◌<◌, List, [], ◌∷◌, length, get_or, Bool, true, false, ◌||◌, Option, None, Some, refl, sym, ap, subst, ◌∙◌, arith}
use Rattle.std.specs.Prelude.{◌↔◌, IsTrue, Contains}
use Rattle.std.specs.List.{list_any}
use Rattle.std.proofs.lemmas.Bool.{false≢true, eq-eqb, eqb-true}
use Rattle.std.proofs.lemmas.List.Elements.{Contains-get_or}
use Rattle.object_files.specs.declared.image.Image.{Image}
use Rattle.signaller.specs.declared.signal_id.SignalId.{SignalId}
use Rattle.survey_rules.specs.Escapes.{Escapes, escapes, Comes}
use Rattle.place_walks.specs.declared.walk.Walk.{Walk}
use Rattle.place_walks.specs.Going.{HasCome}
use Rattle.place_walks.specs.Walks.{is_mark, mark_at, IsMarked}
use Rattle.signal_survey.specs.Follows.{Begins, Follows, place_at}
use Rattle.signal_survey.specs.Laws.{ComesWhereReached}

record AnyAt (p : ℕ → Bool) (xs : List ℕ) : Type 0 where
  k : ℕ
  within : k < length xs
  passes : (d : ℕ) → p (get_or xs k d) ≡ true

any_if : (p : ℕ → Bool) (x : ℕ) (xs : List ℕ) → (list_any p xs ≡ true → AnyAt p xs) → (b : Bool) → p x ≡ b → (b || list_any p xs) ≡ true → AnyAt p (x ∷ xs)
any_if p x xs ih true e any = record { k = 0; within = omega arith; passes = λ d. e }
any_if p x xs ih false e any = (let a = ih any in let l = a.within in record { k = suc a.k; within = omega (arith, l); passes = λ d. a.passes d })

any_at : (p : ℕ → Bool) (xs : List ℕ) → list_any p xs ≡ true → AnyAt p xs
any_at p [] e = absurd (false≢true e)
any_at p (x ∷ xs) e = any_if p x xs (any_at p xs) (p x) refl e

or_right : (b c : Bool) → c ≡ true → (b || c) ≡ true
or_right true c e = refl
or_right false c e = e

at_any : (p : ℕ → Bool) (xs : List ℕ) (k d : ℕ) → k < length xs → p (get_or xs k d) ≡ true → list_any p xs ≡ true
at_any p [] k d l e = absurd (omega arith)
at_any p (x ∷ xs) zero d l e = ap (λ b. b || list_any p xs) e
at_any p (x ∷ xs) (suc k) d l e = or_right (p x) (list_any p xs) (at_any p xs k d (omega arith) e)

mark_is : (round : ℕ) (o : Option ℕ) → is_mark round o ≡ true → o ≡ Some round
mark_is round None e = absurd (false≢true e)
mark_is round (Some m) e = ap Some (eqb-true m round e)

is_mark_of : (round : ℕ) (o : Option ℕ) → o ≡ Some round → is_mark round o ≡ true
is_mark_of round o e = ap (is_mark round) e ∙ eq-eqb round round refl

escapes_in : (image : Image) (s : SignalId) → Escapes image s → (P : Type 0) → ((j : ℕ) → Contains image.control j → Comes image s j 0 None → P) → P
escapes_in image s (escapes j c comes) P h = h j c comes

pub escapes_by : ComesWhereReached → (image : Image) (s : SignalId) (round : ℕ) (walk : Walk) (control : List ℕ) (b : Bool) → control ≡ image.control
    → HasCome (Begins image s) (Follows image s) round walk → b ≡ list_any (λ j. is_mark round (mark_at walk.marks (place_at j 0 None))) control → IsTrue b ↔ Escapes image s
escapes_by law image s round walk control b same come e =
    let p : ℕ → Bool = λ j. is_mark round (mark_at walk.marks (place_at j 0 None)) in (
      λ t.
          (let a = any_at p control (sym e ∙ t) in
          let j = get_or control a.k 0 in
          let marked : IsMarked walk.marks round (place_at j 0 None) = mark_is round (mark_at walk.marks (place_at j 0 None)) (a.passes 0) in
          let named : Contains control j = Contains-get_or control a.k 0 a.within in
          escapes j (subst (λ (l : List ℕ). Contains l j) same named) ((law image s j 0 None).1 ((come.marked (place_at j 0 None)).0 marked))),
      λ x.
          escapes_in image s x (IsTrue b)
          (λ j c comes.
          (let named : Contains control j = subst (λ (l : List ℕ). Contains l j) (sym same) c in
          let marked = (come.marked (place_at j 0 None)).1 ((law image s j 0 None).0 comes) in
          let here : p j ≡ true = is_mark_of round (mark_at walk.marks (place_at j 0 None)) marked in
          e ∙ at_any p control named.0 j named.1 (ap p named.2 ∙ here))),
    )
