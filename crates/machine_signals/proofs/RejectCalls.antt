-- An arm that rejects, with the values of the code.
use Rattle.std.proofs.Common.{◌≡◌, ℕ, ◌+◌, ◌-◌, ◌*◌, ◌<◌, ◌≤◌, List, length, sym, ap, subst, ◌∙◌, arith}
use Rattle.std.proofs.lemmas.Option.{slice_get_within}
use Rattle.object_files.specs.declared.image.Image.{Image}
use Rattle.signaller.specs.declared.search.Search.{Search}
use Rattle.signaller.specs.declared.signal_id.SignalId.{SignalId}
use Rattle.machine_rules.specs.State.{Store, Stepped}
use Rattle.machine_topmost.specs.declared.registers.Registers.{Registers}
use Rattle.machine_activations.specs.declared.row.Kind.TheVariants.{Arm as ArmRow}
use Rattle.machine_activations.specs.declared.row.Layout.{Layout}
use Rattle.machine_activations.specs.declared.row.Reason.{Reason}
use Rattle.machine_activations.specs.declared.row.Reason.TheVariants.{Raise as RaiseRow, Jump as JumpRow}
use Rattle.machine_activations.specs.declared.row.Row.{Row}
use Rattle.machine_activations.specs.Frames.{row_at, end_at}
use Rattle.machine_activations.specs.Shows.{IsPrepared}
use Rattle.machine_signals.specs.Leaving.{Rejects}
use Rattle.machine_signals.specs.Seeking.{Seeking}
use Rattle.machine_signals.proofs.Rejects.{raise_low, raise_rejects, jump_low}

module _ (image : Image) (layout : Layout) (prepared : IsPrepared image layout) (region : List ℕ) (table : List Row) (r : Registers)
    (wide : (r.top + 1) * layout.part ≤ length region) (s : Stepped) (m : Store) (w : Rejects image layout region table r s m) where
  kind_low : (own n : ℕ) (reason : Reason) → (row_at table r.top).kind ≡ ArmRow own n reason → own < r.top
  kind_low own n (RaiseRow signal count beyond) is = raise_low image layout prepared region table r wide s m w own n signal count beyond is
  kind_low own n (JumpRow target beyond) is = jump_low image layout prepared region table r wide s m w own n target beyond is

  pub top_within : r.top < length table
  top_within = let l = slice_get_within table (length w.rest) w.shows.rowed.row w.shows.rowed.there in let t = w.shows.top in omega (arith, l, t)

  module _ (row : Row) (row_is : row ≡ row_at table r.top) (own n : ℕ) (reason : Reason) (kind : row.kind ≡ ArmRow own n reason) where
    kind_is : (row_at table r.top).kind ≡ ArmRow own n reason
    kind_is = ap (λ (x : Row). x.kind) (sym row_is) ∙ kind

    pub some_under : 1 ≤ r.top
    some_under = let l = kind_low own n reason kind_is in omega (arith, l)

    pub raise_kind : (signal : SignalId) (count : ℕ) (beyond : Search) → reason ≡ RaiseRow signal count beyond → (row_at table r.top).kind ≡ ArmRow own n (RaiseRow signal count beyond)
    raise_kind signal count beyond is = kind_is ∙ ap (λ k. ArmRow own n k) is

    module _ (signal : SignalId) (count : ℕ) (beyond : Search) (is : reason ≡ RaiseRow signal count beyond) (under : Row) (under_is : under ≡ row_at table (r.top - 1)) where
      seeks : Seeking image layout region table (r.top - 1) signal (end_at (row_at table (r.top - 1)) (r.top - 1) layout) count own beyond s m
      seeks = raise_rejects image layout prepared region table r wide s m w own n signal count beyond (raise_kind signal count beyond is)

      pub end_within : (words : List ℕ) → words ≡ region → end_at under (r.top - 1) layout ≤ length words
      end_within words same =
          let i = seeks.inside in
          let l = ap length same in
          let e = ap (λ (x : Row). end_at x (r.top - 1) layout) under_is in omega (arith, i, l, e)

      pub seeks_so : (from : ℕ) → from ≡ end_at under (r.top - 1) layout → Seeking image layout region table (r.top - 1) signal from count own beyond s m
      seeks_so from is_from =
          subst (λ k. Seeking image layout region table (r.top - 1) signal k count own beyond s m) (sym (is_from ∙ ap (λ (x : Row). end_at x (r.top - 1) layout) under_is)) seeks
