-- An image in order, whose wanted items are the host's, can be run.
use Rattle.std.proofs.Common.{◌≡◌, ℕ, ◌<◌, length, Option, Some, None, refl, sym, ap, subst, ◌∙◌, arith}
use Rattle.std.specs.Prelude.{slice_get, All, IsSomeAnd, option_and_then}
use Rattle.std.proofs.lemmas.Option.{MatchOption-at_some, slice_get_within, get_or_from_slice_get, option_and_then_some}
use Rattle.mesa_types.specs.declared.faces.ItemKind.{ItemKind}
use Rattle.mesa_types.specs.declared.faces.ItemKind.TheVariants as item
use Rattle.code_forms.specs.declared.module_code.CodeKind.{CodeKind}
use Rattle.code_forms.specs.declared.module_code.CodeKind.TheVariants.{Procedure, Signal, Error}
use Rattle.code_forms.specs.declared.module_code.CodeLink.{CodeLink}
use Rattle.code_forms.specs.declared.module_code.ModuleCode.{ModuleCode}
use Rattle.interface_records.specs.declared.wanted.Wanted.{Wanted as WantedEntry}
use Rattle.object_files.specs.declared.image.Image.{Image}
use Rattle.object_files.specs.declared.image.Instance.{Instance}
use Rattle.object_files.specs.declared.image.Link.{Link}
use Rattle.object_files.specs.declared.image.Link.TheVariants.{Wanted, To}
use Rattle.machine_rules.specs.LookUps.{code_of, procedure_of, called, signal_of, bound_to, Host, host_named, host_of}
use Rattle.machine_rules.specs.Laws.{IsBound}
use Rattle.machine_activations.specs.Links.{IsOfInstance}
use Rattle.machine_ready.specs.Hosts.{IsHostItem}
use Rattle.machine_ready.specs.Laws.{OrderedCanRun, ReadyCanRun, PartsFit}
use Rattle.machine_ready.specs.Order.{code_kind, IsBoundAlike}
use Rattle.machine_ready.proofs.Each.{some_and}
use Rattle.machine_ready.proofs.HostWords.{host_procedure}
use Rattle.machine_ready.proofs.Largest.{largest_bounds}
use Rattle.machine_ready.proofs.Planned.{planned_valid}
use Rattle.machine_ready.proofs.Reading.{code_at}

-- Wanted items.

pub is_procedure : (k : ItemKind) → code_kind k ≡ Procedure → k ≡ item.Procedure
is_procedure item.Procedure e = refl
is_procedure item.Signal e = cc
is_procedure item.Error e = cc

module _ (image : Image) (hosts : All IsHostItem image.wanted) where
  pub host_item : (n : ℕ) (w : WantedEntry) → slice_get image.wanted n ≡ Some w → IsHostItem w
  host_item n w is = subst IsHostItem (get_or_from_slice_get image.wanted n w w is) (hosts n w (slice_get_within image.wanted n w is))

  wanted_procedure : (l : CodeLink) (n : ℕ) → l.kind ≡ Procedure → IsBoundAlike image l (Wanted n) → (h : Host) × (host_of image n ≡ Some h)
  unfolding host_of
  wanted_procedure l n kind b =
      let s = some_and (slice_get image.wanted n) _ b in
      let w : WantedEntry = s.0 in
      let h = host_procedure w (host_item n w s.1).2 (is_procedure w.item.kind (sym s.2.0 ∙ kind)) in
      (h.host, ap (option_and_then (λ (x : WantedEntry). host_named x.item.name)) s.1 ∙ h.named)

  -- a link of a kind

  bound_of : (l : CodeLink) (kind : CodeKind) → l.kind ≡ kind → (b : Option Link) → IsSomeAnd b (IsBoundAlike image l) → IsBound image kind b
  bound_of l kind e None h = absurd h
  bound_of l Procedure e (Some (Wanted n)) h = wanted_procedure l n e h
  bound_of l Signal e (Some (Wanted n)) h = tt
  bound_of l Error e (Some (Wanted n)) h = tt
  bound_of l Procedure e (Some (To j p)) h =
      let s = some_and (called image j p) _ (subst (λ (k : CodeKind). IsOfInstance image l k j p) e h) in (s.0, s.1)
  bound_of l Signal e (Some (To j k)) h =
      let s = some_and (signal_of image j k) _ (subst (λ (q : CodeKind). IsOfInstance image l q j k) e h) in (s.0, s.1, sym s.2.0 ∙ e)
  bound_of l Error e (Some (To j k)) h =
      let s = some_and (signal_of image j k) _ (subst (λ (q : CodeKind). IsOfInstance image l q j k) e h) in (s.0, s.1, sym s.2.0 ∙ e)

pub ordered_can_run : OrderedCanRun
ordered_can_run image o v hosts = record {
  code = v;
  modules = λ j i is. subst (λ (x : Instance). x.module < length image.modules) (get_or_from_slice_get image.instances j i i is) (o.modules j i (slice_get_within image.instances j i is));
  links = λ j k l is. bound_of image hosts l l.kind refl (bound_to image j k)
      (MatchOption-at_some (bound_to image j k ≡ None) (λ x. IsSomeAnd (bound_to image j k) (IsBoundAlike image x)) l is (o.links j k));
  control = o.control;
}

pub ready_can_run : ReadyCanRun
ready_can_run image p r = ordered_can_run image r.order (planned_valid image.modules p.tables.plans r.plans) r.host

-- Sizes.

pub parts_fit : PartsFit
unfolding procedure_of
parts_fit image p r j n q e = option_and_then_some (λ (m : ModuleCode). slice_get m.procedures n) (code_of image j) q e (λ m found is.
    let h = code_at image j m found in
    let own : slice_get h.object.code.procedures n ≡ Some q = subst (λ (c : ModuleCode). slice_get c.procedures n ≡ Some q) (sym h.code) is in
    let frame = largest_bounds (λ x. x.frame) 0 image.modules h.instance.module n h.object q h.there own in
    let depth = largest_bounds (λ x. x.depth) 0 image.modules h.instance.module n h.object q h.there own in
    let a = r.frame in let b = r.part in
    (rw a frame, rw b (omega (arith, depth))))
