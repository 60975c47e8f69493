-- The instructions that raise signals, with the values of the code.
use Rattle.std.proofs.Common.{◌≡◌, ℕ, zero, suc, ◌<◌, ◌≤◌, List, length, get_or, false, Some, refl, sym, ap, subst, ◌∙◌}
use Rattle.std.specs.Prelude.{slice_get}
use Rattle.std.proofs.lemmas.Option.{none-some, same_Some, slice_get_within, get_or_from_slice_get, option_and_then_some}
use Rattle.code_forms.specs.declared.instruction.Instruction.TheVariants.{Raise, RaiseLink, RaiseHost}
use Rattle.code_forms.specs.declared.module_code.CodeKind.{CodeKind}
use Rattle.code_forms.specs.declared.module_code.CodeKind.TheVariants.{Procedure, Signal, Error}
use Rattle.code_forms.specs.declared.module_code.CodeLink.{CodeLink}
use Rattle.code_forms.specs.declared.module_code.CodeSignal.{CodeSignal}
use Rattle.code_forms.specs.declared.module_code.ModuleCode.{ModuleCode}
use Rattle.code_forms.specs.Operands.{IsRaised}
use Rattle.object_files.specs.declared.image.Image.{Image}
use Rattle.object_files.specs.declared.image.Link.{Link}
use Rattle.object_files.specs.declared.image.Link.TheVariants.{Wanted, To}
use Rattle.signaller.specs.declared.signal_id.SignalId.{SignalId}
use Rattle.signaller.specs.declared.signal_id.SignalId.TheVariants.{Own, BoundsFault, ZeroDivisor, Unnamed}
use Rattle.machine_rules.specs.State.{Store, Stepped}
use Rattle.machine_rules.specs.LookUps.{bound_to, signal_bound}
use Rattle.machine_rules.specs.Steps.{host_signal}
use Rattle.machine_topmost.specs.declared.registers.Registers.{Registers}
use Rattle.machine_activations.specs.declared.row.Layout.{Layout}
use Rattle.machine_activations.specs.declared.row.Row.{Row}
use Rattle.machine_activations.specs.Calling.{IsCodeOf, IsAt}
use Rattle.machine_activations.specs.Frames.{row_at}
use Rattle.machine_activations.specs.Reaching.{Shown}
use Rattle.machine_activations.specs.Shows.{IsPrepared}
use Rattle.machine_activations.proofs.Placing.{row_instance}
use Rattle.machine_signals.specs.Laws.{is_own}
use Rattle.machine_signals.specs.Raising.{Raises, raised_by}
use Rattle.machine_signals.proofs.Raisers.{own, own_there, own_raises, linked, found, bound, linked_raises, host_raises, fault_low}

bound_signal : (kind : CodeKind) (b : Link) → IsRaised kind → signal_bound kind b ≡ Some (raised_by b)
unfolding signal_bound
bound_signal Procedure b h = absurd h
bound_signal Signal (Wanted n) h = refl
bound_signal Signal (To j k) h = refl
bound_signal Error (Wanted n) h = refl
bound_signal Error (To j k) h = refl

host_own : (fault : ℕ) (signal : SignalId) → host_signal fault ≡ Some signal → is_own signal ≡ false
unfolding host_signal
host_own zero signal e = ap is_own (sym (same_Some BoundsFault signal e))
host_own (suc zero) signal e = ap is_own (sym (same_Some ZeroDivisor signal e))
host_own (suc (suc zero)) signal e = ap is_own (sym (same_Some Unnamed signal e))
host_own (suc (suc (suc n))) signal e = absurd (none-some signal e)

module _ (image : Image) (layout : Layout) (prepared : IsPrepared image layout) (region : List ℕ) (table : List Row) (r : Registers) (code : ModuleCode)
    (is : IsCodeOf image code table r) where
  -- A signal of its own module.

  module _ (number : ℕ) (at : IsAt code table r (Raise number)) (signals : List CodeSignal) (same : signals ≡ code.signals) where
    module _ (s : Stepped) (m : Store) (shown : Shown image layout region table r s m) where
      signal_there : slice_get signals number ≡ Some (own image layout prepared region table r code is s m shown number at)
      signal_there = ap (λ (l : List CodeSignal). slice_get l number) same ∙ own_there image layout prepared region table r code is s m shown number at

      pub own_within : number < length signals
      own_within = slice_get_within signals number _ signal_there

      pub own_raises_so : (d : CodeSignal) (args instance : ℕ) → args ≡ (get_or signals number d).args → instance ≡ (row_at table r.top).instance
          → Raises image layout region table r (Own instance number) args s (record m { begun = suc m.begun })
      own_raises_so d args instance args_are instance_is =
          let read = get_or_from_slice_get signals number (own image layout prepared region table r code is s m shown number at) d signal_there in
          let there = instance_is ∙ row_instance image layout prepared region table r shown.procedure shown.top shown.rest shown.shows code is in
          subst (λ j. Raises image layout region table r (Own j number) args s (record m { begun = suc m.begun })) (sym there)
          (subst (λ n. Raises image layout region table r (Own shown.top.instance number) n s (record m { begun = suc m.begun })) (sym (args_are ∙ ap (λ (x : CodeSignal). x.args) read))
          (own_raises image layout prepared region table r code is s m shown number at))

  -- One of another module.

  module _ (number : ℕ) (at : IsAt code table r (RaiseLink number)) (s : Stepped) (m : Store) (shown : Shown image layout region table r s m) where
    abbrev l : CodeLink
    l = linked image layout prepared region table r code is s m shown number at

    abbrev b : Link
    b = (bound image layout prepared region table r code is s m shown number at).0

    pub record TableAt : Type 0 where
      pub links : List Link
      pub is_table : slice_get image.links shown.top.instance ≡ Some links
      pub there : slice_get links number ≡ Some b

    table_at : TableAt
    unfolding bound_to
    table_at =
        option_and_then_some (λ (t : List Link). slice_get t number) (slice_get image.links shown.top.instance) b
        (bound image layout prepared region table r code is s m shown number at).1 (λ t e there. record { links = t; is_table = e; there = there })

    module _ (instance : ℕ) (instance_is : instance ≡ (row_at table r.top).instance) (tables : List (List Link)) (same_tables : tables ≡ image.links) where
      table_there : slice_get tables instance ≡ Some table_at.links
      table_there =
          ap (λ (x : List (List Link)). slice_get x instance) same_tables
          ∙ ap (λ j. slice_get image.links j) (instance_is ∙ row_instance image layout prepared region table r shown.procedure shown.top shown.rest shown.shows code is)
          ∙ table_at.is_table

      pub table_within : instance < length tables
      table_within = slice_get_within tables instance table_at.links table_there

      module _ (own_links : List Link) (read : own_links ≡ get_or tables instance own_links) (mine : List Link) (same_mine : mine ≡ own_links) where
        bound_there : slice_get mine number ≡ Some b
        bound_there =
            ap (λ (x : List Link). slice_get x number) (same_mine ∙ read ∙ get_or_from_slice_get tables instance table_at.links own_links table_there) ∙ table_at.there

        pub bound_within : number < length mine
        bound_within = slice_get_within mine number b bound_there

        module _ (links : List CodeLink) (same_links : links ≡ code.links) where
          link_there : slice_get links number ≡ Some l
          link_there = ap (λ (x : List CodeLink). slice_get x number) same_links ∙ (found image layout prepared region table r code is s m shown number at).1

          pub link_within : number < length links
          link_within = slice_get_within links number l link_there

          pub linked_raises_so : (d : Link) (e : CodeLink) (signal : SignalId) (args : ℕ) → signal ≡ raised_by (get_or mine number d) → args ≡ (get_or links number e).args
              → Raises image layout region table r signal args s (record m { begun = suc m.begun })
          linked_raises_so d e signal args signal_is args_are =
              let same = signal_is ∙ ap raised_by (get_or_from_slice_get mine number b d bound_there) in
              let count = args_are ∙ ap (λ (x : CodeLink). x.args) (get_or_from_slice_get links number l e link_there) in
              let bound_so = bound_signal l.kind b (found image layout prepared region table r code is s m shown number at).2 in
              subst (λ k. Raises image layout region table r k args s (record m { begun = suc m.begun })) (sym same)
              (subst (λ n. Raises image layout region table r (raised_by b) n s (record m { begun = suc m.begun })) (sym count)
              (linked_raises image layout prepared region table r code is s m shown number at (raised_by b) bound_so))

  -- One of the host.

  module _ (fault : ℕ) (at : IsAt code table r (RaiseHost fault)) (s : Stepped) (m : Store) (shown : Shown image layout region table r s m) where
    pub fault_within : fault ≤ 2
    fault_within = fault_low image layout prepared region table r code is s m shown fault at

    pub host_raises_so : (signal : SignalId) → host_signal fault ≡ Some signal → Raises image layout region table r signal 0 s (record m { begun = suc m.begun })
    host_raises_so signal is_signal = host_raises image layout prepared region table r code is s m shown fault at signal is_signal (host_own fault signal is_signal)
