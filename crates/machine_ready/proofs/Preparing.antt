-- What is ready is prepared for the run over its region.
use Rattle.std.proofs.Common.{◌≡◌, ℕ, Option, Some, None, refl, sym, ap, subst, ◌∙◌}
use Rattle.std.specs.Prelude.{slice_get, All, IsSomeAnd, option_and_then}
use Rattle.std.proofs.lemmas.Option.{MatchOption-at_some}
use Rattle.code_forms.specs.declared.module_code.CodeKind.{CodeKind}
use Rattle.code_forms.specs.declared.module_code.CodeKind.TheVariants.{Procedure, Signal, Error}
use Rattle.code_forms.specs.declared.module_code.CodeLink.{CodeLink}
use Rattle.interface_records.specs.declared.wanted.Wanted.{Wanted as WantedEntry}
use Rattle.object_files.specs.declared.image.Image.{Image}
use Rattle.object_files.specs.declared.image.Link.{Link}
use Rattle.object_files.specs.declared.image.Link.TheVariants.{Wanted, To}
use Rattle.machine_rules.specs.LookUps.{bound_to, Host, host_named, host_of}
use Rattle.machine_activations.specs.Links.{host_takes, host_gives, IsLike, IsOfHost, IsBoundLike}
use Rattle.machine_ready.specs.Hosts.{IsHostItem}
use Rattle.machine_ready.specs.Laws.{ReadyIsPrepared}
use Rattle.machine_ready.specs.Order.{IsBoundAlike}
use Rattle.machine_ready.proofs.Each.{some_and}
use Rattle.machine_ready.proofs.HostWords.{host_procedure}
use Rattle.machine_ready.proofs.Planned.{planned_valid, planned_depths}
use Rattle.machine_ready.proofs.Running.{host_item, is_procedure, parts_fit}

module _ (image : Image) (hosts : All IsHostItem image.wanted) where
  wanted_like : (l : CodeLink) (n : ℕ) (kind : CodeKind) → l.kind ≡ kind → IsBoundAlike image l (Wanted n) → IsOfHost image l kind n
  unfolding host_of
  wanted_like l n Signal e h = tt
  wanted_like l n Error e h = tt
  wanted_like l n Procedure e h =
      let s = some_and (slice_get image.wanted n) _ h in
      let w : WantedEntry = s.0 in
      let host = host_procedure w (host_item image hosts n w s.1).2 (is_procedure w.item.kind (sym s.2.0 ∙ e)) in
      let found : host_of image n ≡ Some host.host = ap (option_and_then (λ (x : WantedEntry). host_named x.item.name)) s.1 ∙ host.named in
      subst (λ (o : Option Host). IsSomeAnd o (λ h. IsLike l Procedure (host_takes h) (host_gives h))) (sym found) (e, s.2.1 ∙ host.takes, s.2.2 ∙ host.gives)

  bound_like : (l : CodeLink) (b : Link) → IsBoundAlike image l b → IsBoundLike image l b
  bound_like l (Wanted n) h = wanted_like l n l.kind refl h
  bound_like l (To j number) h = h

  some_like : (l : CodeLink) (b : Option Link) → IsSomeAnd b (IsBoundAlike image l) → IsSomeAnd b (IsBoundLike image l)
  some_like l None h = h
  some_like l (Some b) h = bound_like l b h

pub ready_is_prepared : ReadyIsPrepared
ready_is_prepared image p r = record {
  valid = planned_valid image.modules p.tables.plans r.plans;
  depths = planned_depths image.modules p.tables.plans r.plans;
  laid = parts_fit image p r;
  links = λ j k l is. some_like image r.host l (bound_to image j k)
      (MatchOption-at_some (bound_to image j k ≡ None) (λ x. IsSomeAnd (bound_to image j k) (IsBoundAlike image x)) l is (r.order.links j k));
}
