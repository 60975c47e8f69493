-- What the first walk finds.
use Rattle.std.proofs.Common.{◌≡◌, ℕ, zero, suc, ◌+◌, ◌<◌, ◌≤◌, List, [], ◌∷◌, ◌++◌, length, Option, None, Some, refl, sym, ap, subst, ◌∙◌, arith}
use Rattle.std.specs.Prelude.{slice_get, unwrap_or}
use Rattle.std.specs.List.{AllZip}
use Rattle.std.proofs.lemmas.List.{length_push}
use Rattle.std.proofs.lemmas.Option.{none-some, same_Some, slice_get_within}
use Rattle.code_forms.specs.declared.module_code.CodeProcedure.{CodeProcedure}
use Rattle.code_forms.specs.declared.module_code.ModuleCode.{ModuleCode}
use Rattle.object_files.specs.declared.image.Image.{Image}
use Rattle.machine_rules.specs.LookUps.{code_of}
use Rattle.machine_ready.proofs.Each.{EachOf, some_and}
use Rattle.place_walks.specs.declared.walk.Walk.{Walk}
use Rattle.place_walks.specs.Going.{IsResting}
use Rattle.place_walks.specs.Table.{part, cell}
use Rattle.place_walks.specs.Walks.{slot_of}
use Rattle.survey_rules.proofs.Codes.{procedure_there}
use Rattle.signal_survey.specs.Fresh.{AreFresh, HasFresh, IsFreshRow}
use Rattle.signal_survey.specs.Graph.{HasPlaces}
use Rattle.signal_survey.proofs.Surveyed.{beside, of_module}

fresh_push : (xs : List ℕ) → ((k mark : ℕ) → slice_get xs k ≡ Some mark → mark ≡ 0) → (k mark : ℕ) → slice_get (xs ++ 0 ∷ []) k ≡ Some mark → mark ≡ 0
fresh_push [] h zero mark e = sym (same_Some 0 mark e)
fresh_push [] h (suc k) mark e = absurd (none-some mark e)
fresh_push (x ∷ xs) h zero mark e = h zero mark e
fresh_push (x ∷ xs) h (suc k) mark e = fresh_push xs (λ i m. h (suc i) m) k mark e

pub one_fresh : (marks : List ℕ) → marks ≡ 0 ∷ [] → AreFresh 1 marks
one_fresh marks e = subst (λ l. AreFresh 1 l) (sym e) (record { many = refl; each = λ k mark is. fresh_push [] (λ i m n. absurd (none-some m n)) k mark is })

pub more_fresh : (count : ℕ) (old new : List ℕ) → new ≡ old ++ 0 ∷ [] → AreFresh count old → AreFresh (count + 1) new
more_fresh count old new e h =
    subst (λ l. AreFresh (count + 1) l) (sym e) (record {
      many = (let n = length_push old 0 in let m = h.many in omega (arith, n, m));
      each = fresh_push old h.each;
    })

-- ---- a table of them

abbrev pub IsFreshTable : Image → (count : ℕ) → List (List (List ℕ)) → Type 0
IsFreshTable image count marks = EachOf (λ j row. IsFreshRow (code_of image j) row) count marks

there : (xs : List ℕ) (k : ℕ) → k < length xs → (mark : ℕ) × (slice_get xs k ≡ Some mark)
there [] k l = absurd (omega arith)
there (x ∷ xs) zero l = (x, refl)
there (x ∷ xs) (suc k) l = there xs k (omega arith)

part_is : {X : Type 0} (lists : List (List X)) (k : ℕ) (list : List X) → slice_get lists k ≡ Some list → part lists k ≡ list
part_is lists k list e = ap (λ o. unwrap_or o []) e

row_of_code : (o : Option ModuleCode) (row : List (List ℕ)) (m : ModuleCode) → o ≡ Some m → IsFreshRow o row → AllZip HasFresh m.procedures row
row_of_code o row m e h = subst (λ q. IsFreshRow q row) e h

pub has_places : (image : Image) (marks : List (List (List ℕ))) (count : ℕ) → length image.instances ≤ count → IsFreshTable image count marks → HasPlaces image marks
has_places image marks count many h = record {
  each = λ x at.
      (let j = x.instance in
      let of = of_module image j at.m (at.code).is_module in
      let row = some_and (slice_get marks j) (λ row. IsFreshRow (code_of image j) row) (h.each j (let l = slice_get_within image.instances j of.instance of.is_instance in omega (arith, l, many))) in
      let own = beside HasFresh at.m.procedures row.0 (row_of_code (code_of image j) row.0 at.m (at.code).is_module row.2) x.procedure at.p
      (procedure_there image j x.procedure at.m at.p at.code) in
      let is : cell marks j x.procedure ≡ own.y = ap (λ r. part r x.procedure) (part_is marks j row.0 row.1) ∙ part_is row.0 x.procedure own.y own.is in
      let within : slot_of x.position < length own.y = (let n = (own.so).many in let l = at.there in omega (arith, n, l)) in
      let mark = there own.y (slot_of x.position) within in
      (mark.0, ap (λ l. slice_get l (slot_of x.position)) is ∙ mark.1));
}

-- each mark is 0
abbrev AllZero : List ℕ → Type 0
AllZero marks = (k mark : ℕ) → slice_get marks k ≡ Some mark → mark ≡ 0

zero_none : AllZero []
zero_none k mark e = absurd (none-some mark e)

zero_row : (ps : List CodeProcedure) (row : List (List ℕ)) → AllZip HasFresh ps row → (n : ℕ) → AllZero (part row n)
zero_row ps [] h n = zero_none
zero_row [] (r ∷ row) h n = absurd h
zero_row (p ∷ ps) (r ∷ row) h zero = h.0.each
zero_row (p ∷ ps) (r ∷ row) h (suc n) = zero_row ps row h.1 n

zero_rows : (o : Option ModuleCode) (row : List (List ℕ)) → IsFreshRow o row → (n : ℕ) → AllZero (part row n)
zero_rows None row h n = subst (λ (r : List (List ℕ)). AllZero (part r n)) (sym h) zero_none
zero_rows (Some m) row h n = zero_row m.procedures row h n

zero_part : (image : Image) (marks : List (List (List ℕ))) (count j : ℕ) → IsFreshTable image count marks → (o : Option (List (List ℕ))) → slice_get marks j ≡ o
    → (n : ℕ) → AllZero (part (unwrap_or o []) n)
zero_part image marks count j h None e n = zero_none
zero_part image marks count j h (Some row) e n =
    let l : j < count = (let w = slice_get_within marks j row e in let m = h.many in omega (arith, w, m)) in
    let own = some_and (slice_get marks j) (λ r. IsFreshRow (code_of image j) r) (h.each j l) in
    subst (λ (r : List (List ℕ)). AllZero (part r n)) (same_Some own.0 row (sym own.1 ∙ e)) (zero_rows (code_of image j) own.0 own.2 n)

pub is_resting : (image : Image) (count : ℕ) (walk : Walk) → IsFreshTable image count walk.marks → walk.work.items ≡ [] → IsResting 1 walk
is_resting image count walk h none = record {
  before = λ x mark e.
      (let zero_mark = zero_part image walk.marks count x.instance h (slice_get walk.marks x.instance) refl x.procedure (slot_of x.position) mark e in
      omega (arith, zero_mark));
  no_work = none;
}
