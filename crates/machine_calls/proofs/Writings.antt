-- Where the topmost activation calls a procedure of the host that writes.
use Rattle.std.proofs.Common.{◌≡◌, ℕ, zero, suc, ◌-◌, List, Option, Some, None, refl, sym, ap, subst, ◌∙◌, arith}
use Rattle.std.specs.Prelude.{IsSome, option_and_then}
use Rattle.code_forms.specs.declared.instruction.Instruction.{Instruction}
use Rattle.code_forms.specs.declared.instruction.Instruction.TheVariants.{CallLink}
use Rattle.object_files.specs.declared.image.Image.{Image}
use Rattle.object_files.specs.declared.image.Link.{Link}
use Rattle.object_files.specs.declared.image.Link.TheVariants.{Wanted, To}
use Rattle.machine_rules.specs.LookUps.{bound_to, host_of}
use Rattle.machine_topmost.specs.declared.registers.Registers.{Registers}
use Rattle.machine_activations.specs.declared.row.Layout.{Layout}
use Rattle.machine_activations.specs.declared.row.Row.{Row}
use Rattle.machine_activations.specs.Calling.{StandsIn}
use Rattle.machine_activations.specs.Frames.{row_at}
use Rattle.machine_activations.specs.Shows.{IsPrepared}
use Rattle.machine_calls.specs.declared.host.HostProcedure.{HostProcedure}
use Rattle.machine_calls.specs.declared.host.HostProcedure.TheVariants.{Write, Read}
use Rattle.machine_calls.specs.declared.host.Reading.{Reading}
use Rattle.machine_calls.specs.declared.host.Reading.TheVariants.{Next, AtEnd}
use Rattle.machine_calls.specs.declared.host.Writing.{Writing}
use Rattle.machine_calls.specs.declared.host.Writing.TheVariants.{Char, Text, Decimal}
use Rattle.machine_calls.specs.Hosting.{writes_as, writing_bound, in_turn, writing_in}
use Rattle.machine_calls.specs.Hosts.{host_is}
use Rattle.machine_calls.specs.Linking.{StandsAt, CallsLink, CallsWriting}
use Rattle.machine_calls.proofs.LinkGoes.{bound_there, host_leads, host_some}
use Rattle.machine_calls.proofs.LinkLeads.{calls_link_at, calls_link_there, fetched_there, link_reaches}

-- Which call writes.

pub none_calls : (image : Image) (j turns : ℕ) (i : Instruction) → ((k : ℕ) → i ≡ CallLink k → ⊥) → None ≡ writing_in image j turns i
unfolding writing_in
none_calls image j turns (CallLink k) none = absurd (none k refl)
none_calls image j turns _ none = refl

module _ (image : Image) (j k : ℕ) (b : Link) (found : bound_to image j k ≡ Some b) where
  by_link : (turns : ℕ) → writing_in image j turns (CallLink k) ≡ in_turn turns (writing_bound image b)
  unfolding writing_in
  by_link turns = ap (λ o. in_turn turns (option_and_then (writing_bound image) o)) found

  none_of : (turns : ℕ) (o : Option Writing) → turns ≡ 0 → in_turn turns o ≡ None
  none_of zero o none = refl
  none_of (suc turns) o none = absurd (omega (arith, none))

  some_of : (turns : ℕ) (o : Option Writing) → (turns ≡ 0 → ⊥) → in_turn turns o ≡ o
  some_of zero o some = absurd (some refl)
  some_of (suc turns) o some = refl

  nothing_of : (turns : ℕ) → in_turn turns None ≡ None
  nothing_of zero = refl
  nothing_of (suc turns) = refl

  not_of_host : (l : Link) → ((wanted : ℕ) → l ≡ Wanted wanted → ⊥) → writing_bound image l ≡ None
  not_of_host (Wanted wanted) other = absurd (other wanted refl)
  not_of_host (To instance number) other = refl

  pub none_linked : (turns : ℕ) → ((wanted : ℕ) → b ≡ Wanted wanted → ⊥) → None ≡ writing_in image j turns (CallLink k)
  none_linked turns other = sym (by_link turns ∙ ap (λ o. in_turn turns o) (not_of_host b other) ∙ nothing_of turns)

  pub none_in_turn : (turns : ℕ) → turns ≡ 0 → None ≡ writing_in image j turns (CallLink k)
  none_in_turn turns none = sym (by_link turns ∙ none_of turns (writing_bound image b) none)

  abbrev written_as : (h : HostProcedure) → Option Writing
  written_as (Write writing) = Some writing
  written_as (Read reading) = None

  as_is : (h : HostProcedure) → writes_as (host_is h) ≡ written_as h
  as_is (Write Char) = refl
  as_is (Write Text) = refl
  as_is (Write Decimal) = refl
  as_is (Read Next) = refl
  as_is (Read AtEnd) = refl

  by_host : (turns wanted : ℕ) (h : HostProcedure) → b ≡ Wanted wanted → host_of image wanted ≡ Some (host_is h) → (turns ≡ 0 → ⊥) → writing_in image j turns (CallLink k) ≡ written_as h
  by_host turns wanted h is there some =
      by_link turns ∙ some_of turns (writing_bound image b) some ∙ ap (λ l. writing_bound image l) is ∙ ap (λ o. option_and_then writes_as o) there ∙ as_is h

  pub one_writes : (turns wanted : ℕ) (h : HostProcedure) (writing : Writing) → b ≡ Wanted wanted → host_of image wanted ≡ Some (host_is h) → (turns ≡ 0 → ⊥) → h ≡ Write writing
      → Some writing ≡ writing_in image j turns (CallLink k)
  one_writes turns wanted h writing is there some same = sym (by_host turns wanted h is there some ∙ ap written_as same)

  pub one_reads : (turns wanted : ℕ) (h : HostProcedure) (reading : Reading) → b ≡ Wanted wanted → host_of image wanted ≡ Some (host_is h) → (turns ≡ 0 → ⊥) → h ≡ Read reading
      → None ≡ writing_in image j turns (CallLink k)
  one_reads turns wanted h reading is there some same = sym (by_host turns wanted h is there some ∙ ap written_as same)

-- Where it leads.

module _ (image : Image) (layout : Layout) (prepared : IsPrepared image layout) (region : List ℕ) (table : List Row) (r : Registers) (k : ℕ) (at : StandsAt image table r (CallLink k))
    (instance : ℕ) (own : instance ≡ (row_at table r.top).instance) where
  pub links_there : StandsIn image layout region table r → CallsLink image layout region table r k
  links_there stands = calls_link_there image layout prepared region table r k at stands.start stands.store stands.shown

  pub bound_some : StandsIn image layout region table r → IsSome (bound_to image instance k)
  bound_some stands = subst (λ j. IsSome (bound_to image j k)) (sym own) (bound_there image layout prepared region table r k (links_there stands) (row_at table r.top) refl)

  module _ (b : Link) (found : bound_to image instance k ≡ Some b) where
    found_there : bound_to image (row_at table r.top).instance k ≡ Some b
    found_there = ap (λ j. bound_to image j k) (sym own) ∙ found

    pub writing_some : StandsIn image layout region table r → (wanted : ℕ) → b ≡ Wanted wanted → IsSome (host_of image wanted)
    writing_some stands wanted is = host_some image layout prepared region table r k (links_there stands) (row_at table r.top) refl b found_there wanted is

    pub writes_at : (wanted : ℕ) → b ≡ Wanted wanted → (writing : Writing) → host_of image wanted ≡ Some (host_is (Write writing)) → (turns : ℕ) → (turns ≡ 0 → ⊥)
        → CallsWriting image layout region table r turns writing
    unfolding calls_link_at
    writes_at wanted is writing there turns some s m turns_so shown =
        let fetched = fetched_there image layout prepared region table r k at s m shown in
        host_leads image layout prepared region table r k
        (calls_link_at image layout prepared region table r shown.procedure shown.top shown.rest shown.shows k at.at.entry fetched at.at.at)
        (row_at table r.top) refl b found_there wanted is (Write writing) there s (record m { turns = turns - 1; begun = suc m.begun })
        (link_reaches image layout prepared region table r shown.procedure shown.top shown.rest shown.shows k at.at.entry fetched at.at.at m s shown.reaches turns turns_so some)
