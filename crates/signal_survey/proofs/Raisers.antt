-- The table of where signals are raised.
use Rattle.std.proofs.Common.{◌≡◌, ⊎_elim, ℕ, suc, ◌+◌, ◌<◌, List, [], ◌∷◌, ◌++◌, length, Option, None, Some, refl, sym, ap, subst, ◌∙◌, arith}
use Rattle.std.specs.Prelude.{◌↔◌, Contains, slice_get, option_and_then}
use Rattle.std.proofs.lemmas.Option.{none-some, same_Some, slice_get_within}
use Rattle.code_forms.specs.declared.module_code.CodeSignal.{CodeSignal}
use Rattle.code_forms.specs.declared.module_code.ModuleCode.{ModuleCode}
use Rattle.object_files.specs.declared.image.Image.{Image}
use Rattle.signaller.specs.declared.signal_id.SignalId.{SignalId}
use Rattle.signaller.specs.declared.signal_id.SignalId.TheVariants.{Own, BoundsFault, ZeroDivisor, NoInput, Unnamed}
use Rattle.machine_rules.specs.LookUps.{code_of, signal_of}
use Rattle.machine_ready.specs.Order.{ImageInOrder}
use Rattle.place_walks.specs.declared.edges.Edge.{Edge}
use Rattle.place_walks.specs.declared.place.Place.{Place}
use Rattle.place_walks.specs.Edges.{Holds, SameCells, IsCell}
use Rattle.place_walks.specs.Table.{part, cell}
use Rattle.survey_rules.specs.Escapes.{position_of}
use Rattle.survey_code.specs.Events.{RaisesBy}
use Rattle.survey_code.specs.Laws.{RaisesByEvent}
use Rattle.signal_survey.specs.declared.happening.Happening.{Happening}
use Rattle.signal_survey.specs.Adding.{Adds, Of}
use Rattle.signal_survey.specs.Follows.{Begins, raised, place_at}
use Rattle.signal_survey.specs.Graph.{HoldsRaisers, row_of, column_of}
use Rattle.signal_survey.specs.Happenings.{Happens, HappensBefore, IsRaiser}
use Rattle.signal_survey.specs.Ranges.{AreValid, HasSignal}
use Rattle.signal_survey.specs.Shapes.{HasShape, raisers_width, signals_in}
use Rattle.signal_survey.proofs.Added.{adds_none, adds_one, nothing_in}
use Rattle.signal_survey.proofs.Happened.{instance_within}
use Rattle.signal_survey.proofs.Ranges.{begins_in}

-- rows and columns tell signals apart
pub one_signal : (s t : SignalId) → row_of s ≡ row_of t → column_of s ≡ column_of t → s ≡ t
one_signal (Own i k) (Own j n) e f = ap (λ x. Own x k) (let g : i ≡ j = omega (arith, e) in g) ∙ ap (λ x. Own j x) f
one_signal (Own i k) BoundsFault e f = absurd (omega (arith, e))
one_signal (Own i k) ZeroDivisor e f = absurd (omega (arith, e))
one_signal (Own i k) NoInput e f = absurd (omega (arith, e))
one_signal (Own i k) Unnamed e f = absurd (omega (arith, e))
one_signal BoundsFault (Own j n) e f = absurd (omega (arith, e))
one_signal ZeroDivisor (Own j n) e f = absurd (omega (arith, e))
one_signal NoInput (Own j n) e f = absurd (omega (arith, e))
one_signal Unnamed (Own j n) e f = absurd (omega (arith, e))
one_signal BoundsFault BoundsFault e f = refl
one_signal BoundsFault ZeroDivisor e f = absurd (omega (arith, f))
one_signal BoundsFault NoInput e f = absurd (omega (arith, f))
one_signal BoundsFault Unnamed e f = absurd (omega (arith, f))
one_signal ZeroDivisor BoundsFault e f = absurd (omega (arith, f))
one_signal ZeroDivisor ZeroDivisor e f = refl
one_signal ZeroDivisor NoInput e f = absurd (omega (arith, f))
one_signal ZeroDivisor Unnamed e f = absurd (omega (arith, f))
one_signal NoInput BoundsFault e f = absurd (omega (arith, f))
one_signal NoInput ZeroDivisor e f = absurd (omega (arith, f))
one_signal NoInput NoInput e f = refl
one_signal NoInput Unnamed e f = absurd (omega (arith, f))
one_signal Unnamed BoundsFault e f = absurd (omega (arith, f))
one_signal Unnamed ZeroDivisor e f = absurd (omega (arith, f))
one_signal Unnamed NoInput e f = absurd (omega (arith, f))
one_signal Unnamed Unnamed e f = refl

abbrev pub edge_to : (row column : ℕ) → Place → Edge
edge_to row column to = record { row = row; column = column; to = to }

pub same_edge : (e : Edge) (row column : ℕ) (to : Place) → e.row ≡ row → e.column ≡ column → e.to ≡ to → edge_to row column to ≡ e
same_edge e row column to r c t = sym (ap (λ x. edge_to x e.column e.to) r ∙ ap (λ x. edge_to row x e.to) c ∙ ap (λ x. edge_to row column x) t)

-- of one event
pub raises_one : (image : Image) (it : Happening) (s : SignalId) (o : Option SignalId) (old new : List Edge) → ((t : SignalId) → (o ≡ Some t) ↔ RaisesBy image it.place.instance it.event t)
    → o ≡ Some s → new ≡ old ++ edge_to (row_of s) (column_of s) it.place ∷ [] → Adds (IsRaiser image it) old new
raises_one image it s o old new says is e =
    adds_one (IsRaiser image it) old new (edge_to (row_of s) (column_of s) it.place) e
    (record { signal = s; raises = (says s).0 is; row = refl; column = refl; to = refl })
    (λ x r. (let same : s ≡ r.signal = same_Some s r.signal (sym is ∙ (says r.signal).1 r.raises) in
    same_edge x (row_of s) (column_of s) it.place (r.row ∙ ap row_of (sym same)) (r.column ∙ ap column_of (sym same)) r.to))

pub raises_at : (image : Image) (it : Happening) (s : SignalId) (o : Option SignalId) (row column : ℕ) (old new : List Edge)
    → ((t : SignalId) → (o ≡ Some t) ↔ RaisesBy image it.place.instance it.event t) → o ≡ Some s → row ≡ row_of s → column ≡ column_of s
    → new ≡ old ++ edge_to row column it.place ∷ [] → Adds (IsRaiser image it) old new
raises_at image it s o row column old new says is r k e =
    raises_one image it s o old new says is (e ∙ ap (λ x. old ++ edge_to x column it.place ∷ []) r ∙ ap (λ x. old ++ edge_to (row_of s) x it.place ∷ []) k)

pub raises_none : (image : Image) (it : Happening) (o : Option SignalId) (old : List Edge) → ((t : SignalId) → (o ≡ Some t) ↔ RaisesBy image it.place.instance it.event t) → o ≡ None
    → Adds (IsRaiser image it) old old
raises_none image it o old says none = adds_none (IsRaiser image it) old (λ x r. none-some r.signal (sym none ∙ (says r.signal).1 r.raises))

-- what happens begins to come, and the other way round
begins_of : (law : RaisesByEvent) (image : Image) (it : Happening) (s : SignalId) → Happens image it → RaisesBy image it.place.instance it.event s → Begins image s it.place
begins_of law image it s h r =
    subst (λ a. Begins image s (place_at it.place.instance it.place.procedure a)) (sym h.position)
    (raised it.place.instance it.place.procedure h.at h.m h.p h.instruction h.code h.stands ((law image it.place.instance h.instruction s).1 (it.event, h.event, r)))

pub record RaisedAt (image : Image) (s : SignalId) (x : Place) : Type 0 where
  pub it : Happening
  pub happens : Happens image it
  pub raises : RaisesBy image it.place.instance it.event s
  pub place : it.place ≡ x

raised_at : (law : RaisesByEvent) (image : Image) (s : SignalId) (x : Place) → Begins image s x → RaisedAt image s x
raised_at law image s _ (raised j n at m p i c stands may) =
    let e = (law image j i s).0 may in
    record {
      it = record { place = place_at j n (position_of p at); event = e.0 };
      happens = record { m = m; p = p; at = at; instruction = i; code = c; stands = stands; event = e.1; position = refl };
      raises = e.2;
      place = refl;
    }

-- there is a cell for each signal
own_cell : (image : Image) (j k : ℕ) (o : Option ModuleCode) → code_of image j ≡ o → (entry : CodeSignal)
    → signal_of image j k ≡ Some entry → (k < signals_in (code_of image j)) × (j < length image.instances)
unfolding signal_of
own_cell image j k None e entry is = absurd (none-some entry (sym (ap (λ (x : Option ModuleCode). option_and_then (λ (m : ModuleCode). slice_get m.signals k) x) e) ∙ is))
own_cell image j k (Some m) e entry is =
    let l : k < length m.signals = slice_get_within m.signals k entry (sym (ap (λ (x : Option ModuleCode). option_and_then (λ (m : ModuleCode). slice_get m.signals k) x) e) ∙ is) in
    (subst (λ (x : Option ModuleCode). k < signals_in x) (sym e) l, instance_within image j m e)

signal_cell : (image : Image) (table : List (List (List Place))) (s : SignalId) → HasShape (raisers_width image) (length image.instances + 1) table → HasSignal image s
    → IsCell table (row_of s) (column_of s)
signal_cell image table (Own j k) shape has =
    let own = own_cell image j k (code_of image j) refl has.0 has.1 in
    let w : length (part table (suc j)) ≡ signals_in (code_of image j) = shape.cells (suc j) (let l = own.1 in omega (arith, l)) in
    let l : k < length (part table (suc j)) = (let l = own.0 in omega (arith, l, w)) in
    subst (λ i. k < length (part table i)) (let r : suc j ≡ j + 1 = omega arith in r) l
signal_cell image table BoundsFault shape has = let w = shape.cells 0 (omega arith) in omega (arith, w)
signal_cell image table ZeroDivisor shape has = let w = shape.cells 0 (omega arith) in omega (arith, w)
signal_cell image table NoInput shape has = let w = shape.cells 0 (omega arith) in omega (arith, w)
signal_cell image table Unnamed shape has = let w = shape.cells 0 (omega arith) in omega (arith, w)

pub holds_raisers : (law : RaisesByEvent) (image : Image) (list : List Happening) (edges : List Edge) (empty table : List (List (List Place))) → ImageInOrder image → AreValid image
    → Adds (HappensBefore image (length image.instances)) [] list → Adds (Of (IsRaiser image) list) [] edges → HasShape (raisers_width image) (length image.instances + 1) empty
    → Holds table edges → SameCells empty table → HoldsRaisers image table
holds_raisers law image list edges empty table order valid happen adds shape holds cells s x = (
  λ c. (let leads = holds.sound (row_of s) (column_of s) x c in
      ⊎_elim
      (λ (o : Contains [] leads.edge). absurd (nothing_in leads.edge o))
      (λ (o : Of (IsRaiser image) list leads.edge).
      let same : (o.is).signal ≡ s = one_signal (o.is).signal s (sym (o.is).row ∙ leads.row_is) (sym (o.is).column ∙ leads.column_is) in
      ⊎_elim
      (λ (n : Contains [] o.x). absurd (nothing_in o.x n))
      (λ (h : HappensBefore image (length image.instances) o.x).
      subst (λ y. Begins image s y) (sym (o.is).to ∙ leads.to_is)
      (begins_of law image o.x s h.happens (subst (λ t. RaisesBy image (o.x).place.instance (o.x).event t) same (o.is).raises))) (happen.added o.x o.contains))
      (adds.added leads.edge leads.contains)),
  λ b. (let r = raised_at law image s x b in
      let within = instance_within image (r.it).place.instance (r.happens).m ((r.happens).code).is_module in
      let edge = edge_to (row_of s) (column_of s) (r.it).place in
      let there : Contains edges edge =
      adds.done edge (record {
        x = r.it;
        contains = happen.done r.it (record { happens = r.happens; instance = within });
        is = record { signal = s; raises = r.raises; row = refl; column = refl; to = refl };
      }) in
      let is_cell : IsCell empty (row_of s) (column_of s) = signal_cell image empty s shape (begins_in image order valid s x b) in
      let now_cell : IsCell table (row_of s) (column_of s) = (let e = cells.same (row_of s) in omega (arith, e, is_cell)) in
      subst (λ y. Contains (cell table (row_of s) (column_of s)) y) r.place (holds.whole edge there now_cell)),
)

pub raisers_held : (law : RaisesByEvent) (image : Image) (list items : List Happening) (edges given : List Edge) (empty table : List (List (List Place))) → ImageInOrder image → AreValid image
    → items ≡ list → given ≡ edges → Adds (HappensBefore image (length image.instances)) [] list → Adds (Of (IsRaiser image) items) [] edges
    → HasShape (raisers_width image) (length image.instances + 1) empty → Holds table given → SameCells empty table → HoldsRaisers image table
raisers_held law image list items edges given empty table order valid is are happen adds shape holds cells =
    holds_raisers law image list edges empty table order valid happen (subst (λ xs. Adds (Of (IsRaiser image) xs) [] edges) is adds) shape
    (subst (λ es. Holds table es) are holds) cells
