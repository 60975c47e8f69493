-- The table of where what comes out of procedures comes.
use Rattle.std.proofs.Common.{◌≡◌, ◌⊎◌, inl, inr, ⊎_elim, ℕ, ◌<◌, List, [], ◌∷◌, ◌++◌, length, Option, None, Some, refl, sym, ap, subst, ◌∙◌, arith}
use Rattle.std.specs.Prelude.{◌↔◌, Contains, slice_get, option_and_then}
use Rattle.std.proofs.lemmas.Option.{none-some, same_Some, slice_get_within}
use Rattle.code_forms.specs.declared.module_code.ModuleCode.{ModuleCode}
use Rattle.code_forms.specs.declared.module_code.CodeProcedure.{CodeProcedure}
use Rattle.object_files.specs.declared.image.Image.{Image}
use Rattle.machine_rules.specs.LookUps.{code_of, procedure_of}
use Rattle.machine_ready.specs.Order.{ImageInOrder}
use Rattle.place_walks.specs.declared.edges.Edge.{Edge}
use Rattle.place_walks.specs.declared.place.Place.{Place}
use Rattle.place_walks.specs.Edges.{Holds, SameCells, IsCell}
use Rattle.place_walks.specs.Table.{part, cell}
use Rattle.survey_rules.specs.Escapes.{IsRun, position_of}
use Rattle.survey_code.specs.Events.{CallsBy}
use Rattle.survey_code.specs.Laws.{CallsByEvent}
use Rattle.signal_survey.specs.declared.calling.Callee.{Callee}
use Rattle.signal_survey.specs.declared.happening.Happening.{Happening}
use Rattle.signal_survey.specs.Adding.{Adds, Of}
use Rattle.signal_survey.specs.Follows.{CallsOut, called, place_at}
use Rattle.signal_survey.specs.Graph.{HoldsCallers}
use Rattle.signal_survey.specs.Happenings.{Happens, HappensBefore, IsCaller, callee}
use Rattle.signal_survey.specs.Ranges.{AreValid}
use Rattle.signal_survey.specs.Shapes.{HasShape, callers_width, procedures_in}
use Rattle.signal_survey.proofs.Added.{nothing_in, adds_one, adds_more}
use Rattle.signal_survey.proofs.Happened.{instance_within}
use Rattle.signal_survey.proofs.Raisers.{edge_to, same_edge}
use Rattle.signal_survey.proofs.Ranges.{HasProcedure, calls_out_in}

calls_of : (law : CallsByEvent) (image : Image) (it : Happening) (other procedure q : ℕ) → Happens image it → CallsBy image it.place.instance it.event other procedure
    → IsRun it.place.instance other procedure q → CallsOut image other q it.place
calls_of law image it other procedure q h c run =
    subst (λ a. CallsOut image other q (place_at it.place.instance it.place.procedure a)) (sym h.position)
    (called it.place.instance it.place.procedure h.at procedure h.m h.p h.instruction h.code h.stands ((law image it.place.instance h.instruction other procedure).1 (it.event, h.event, c)) run)

pub record CalledAt (image : Image) (other q : ℕ) (x : Place) : Type 0 where
  pub it : Happening
  pub happens : Happens image it
  pub procedure : ℕ
  pub calls : CallsBy image it.place.instance it.event other procedure
  pub run : IsRun it.place.instance other procedure q
  pub place : it.place ≡ x

called_at : (law : CallsByEvent) (image : Image) (other q : ℕ) (x : Place) → CallsOut image other q x → CalledAt image other q x
called_at law image other q _ (called j n at procedure m p i c stands calls run) =
    let e = (law image j i other procedure).0 calls in
    record {
      it = record { place = place_at j n (position_of p at); event = e.0 };
      happens = record { m = m; p = p; at = at; instruction = i; code = c; stands = stands; event = e.1; position = refl };
      procedure = procedure;
      calls = e.2;
      run = run;
      place = refl;
    }

-- there is a cell for each procedure
procedure_in : (image : Image) (j q : ℕ) (o : Option ModuleCode) → code_of image j ≡ o → (p : CodeProcedure) → procedure_of image j q ≡ Some p
    → (q < procedures_in (code_of image j)) × (j < length image.instances)
unfolding procedure_of
procedure_in image j q None e p is = absurd (none-some p (sym (ap (λ (x : Option ModuleCode). option_and_then (λ (m : ModuleCode). slice_get m.procedures q) x) e) ∙ is))
procedure_in image j q (Some m) e p is =
    let l : q < length m.procedures = slice_get_within m.procedures q p (sym (ap (λ (x : Option ModuleCode). option_and_then (λ (m : ModuleCode). slice_get m.procedures q) x) e) ∙ is) in
    (subst (λ (x : Option ModuleCode). q < procedures_in x) (sym e) l, instance_within image j m e)

procedure_cell : (image : Image) (table : List (List (List Place))) (j q : ℕ) → HasShape (callers_width image) (length image.instances) table → HasProcedure image j q → IsCell table j q
procedure_cell image table j q shape has =
    let own = procedure_in image j q (code_of image j) refl has.procedure has.is in
    let w : length (part table j) ≡ procedures_in (code_of image j) = shape.cells j own.1 in
    let l = own.0 in omega (arith, l, w)

holds_callers : (law : CallsByEvent) (image : Image) (list : List Happening) (edges : List Edge) (empty table : List (List (List Place))) → ImageInOrder image → AreValid image
    → Adds (HappensBefore image (length image.instances)) [] list → Adds (Of (IsCaller image) list) [] edges → HasShape (callers_width image) (length image.instances) empty
    → Holds table edges → SameCells empty table → HoldsCallers image table
holds_callers law image list edges empty table order valid happen adds shape holds cells j q x = (
  λ c. (let leads = holds.sound j q x c in
      ⊎_elim
      (λ (o : Contains [] leads.edge). absurd (nothing_in leads.edge o))
      (λ (o : Of (IsCaller image) list leads.edge).
      ⊎_elim
      (λ (n : Contains [] o.x). absurd (nothing_in o.x n))
      (λ (h : HappensBefore image (length image.instances) o.x).
      subst (λ a. CallsOut image a q x) leads.row_is
      (subst (λ b. CallsOut image leads.edge.row b x) leads.column_is
      (subst (λ y. CallsOut image leads.edge.row leads.edge.column y) (sym (o.is).to ∙ leads.to_is)
      (calls_of law image o.x leads.edge.row (o.is).procedure leads.edge.column h.happens (o.is).calls (o.is).run)))) (happen.added o.x o.contains))
      (adds.added leads.edge leads.contains)),
  λ b. (let r = called_at law image j q x b in
      let within = instance_within image (r.it).place.instance (r.happens).m ((r.happens).code).is_module in
      let edge = edge_to j q (r.it).place in
      let there : Contains edges edge =
      adds.done edge (record {
        x = r.it;
        contains = happen.done r.it (record { happens = r.happens; instance = within });
        is = record { procedure = r.procedure; calls = r.calls; run = r.run; to = refl };
      }) in
      let is_cell : IsCell empty j q = procedure_cell image empty j q shape (calls_out_in image order valid j q x b) in
      let now_cell : IsCell table j q = (let e = cells.same j in omega (arith, e, is_cell)) in
      subst (λ y. Contains (cell table j q) y) r.place (holds.whole edge there now_cell)),
)

pub callers_held : (law : CallsByEvent) (image : Image) (list items : List Happening) (edges given : List Edge) (empty table : List (List (List Place))) → ImageInOrder image → AreValid image
    → items ≡ list → given ≡ edges → Adds (HappensBefore image (length image.instances)) [] list → Adds (Of (IsCaller image) items) [] edges
    → HasShape (callers_width image) (length image.instances) empty → Holds table given → SameCells empty table → HoldsCallers image table
callers_held law image list items edges given empty table order valid is are happen adds shape holds cells =
    holds_callers law image list edges empty table order valid happen (subst (λ xs. Adds (Of (IsCaller image) xs) [] edges) is adds) shape
    (subst (λ es. Holds table es) are holds) cells

-- of one event
module _ (image : Image) (it : Happening) (o : Option Callee) (i q : ℕ) (says : (j n : ℕ) → (o ≡ Some (callee j n)) ↔ CallsBy image it.place.instance it.event j n) (is : o ≡ Some (callee i q)) where
  calls : CallsBy image it.place.instance it.event i q
  calls = (says i q).0 is

  same_callee : (x : Edge) (r : IsCaller image it x) → callee i q ≡ callee x.row r.procedure
  same_callee x r = same_Some (callee i q) (callee x.row r.procedure) (sym is ∙ (says x.row r.procedure).1 r.calls)

  is_one : (column : ℕ) → IsRun it.place.instance i q column → IsCaller image it (edge_to i column it.place)
  is_one column run = record { procedure = q; calls = calls; run = run; to = refl }

  pub calls_own : (old new : List Edge) → i ≡ it.place.instance → new ≡ old ++ edge_to i q it.place ∷ [] → Adds (IsCaller image it) old new
  calls_own old new here e =
      adds_one (IsCaller image it) old new (edge_to i q it.place) e (is_one q (inl refl))
      (λ x r. (let s = same_callee x r in let row = ap (λ (c : Callee). c.instance) s in let number = ap (λ (c : Callee). c.procedure) s in
      same_edge x i q it.place (sym row)
      (⊎_elim (λ (c : x.column ≡ r.procedure). c ∙ sym number) (λ (b : (x.row ≡ it.place.instance → ⊥) × (x.column ≡ 0)). absurd (b.0 (sym row ∙ here))) r.run) r.to))

  pub calls_other : (old mid new : List Edge) → (i ≡ it.place.instance → ⊥) → mid ≡ old ++ edge_to i q it.place ∷ [] → new ≡ mid ++ edge_to i 0 it.place ∷ [] → Adds (IsCaller image it) old new
  calls_other old mid new there e f =
      let First : Edge → Type 0 = λ x. edge_to i q it.place ≡ x in
      let Second : Edge → Type 0 = λ x. edge_to i 0 it.place ≡ x in
      adds_more First Second (IsCaller image it) old mid new (adds_one First old mid (edge_to i q it.place) e refl (λ x s. s)) (adds_one Second mid new (edge_to i 0 it.place) f refl (λ x s. s))
      (λ x s. subst (IsCaller image it) s (is_one q (inl refl)))
      (λ x s. subst (IsCaller image it) s (is_one 0 (inr (there, refl))))
      (λ x r. (let s = same_callee x r in let row = ap (λ (c : Callee). c.instance) s in let number = ap (λ (c : Callee). c.procedure) s in
      ⊎_elim
      (λ (c : x.column ≡ r.procedure). let y : First x ⊎ Second x = inl (same_edge x i q it.place (sym row) (c ∙ sym number) r.to) in y)
      (λ (b : (x.row ≡ it.place.instance → ⊥) × (x.column ≡ 0)). let y : First x ⊎ Second x = inr (same_edge x i 0 it.place (sym row) b.1 r.to) in y) r.run))
